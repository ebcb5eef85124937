-- What is read from a place is what stands first there, and what goes on with it step by step.
use Rattle.std.proofs.Common.{◌≡◌, Bool, true, false, List, [], ◌∷◌, refl, sym, ◌∙◌, ap, subst}
use Rattle.std.specs.Prelude.{Some}
use Rattle.jsx_tree.specs.Kinds.{Kind, Tree, leaf, node, list, Forest, none, part}
use Rattle.jsx_tree.specs.Nonterminals.{Nonterminal}
use Rattle.jsx_tree.specs.Grammar.{Context, Part}
use Rattle.jsx_tree.specs.Form.{admits, fits_below}
use Rattle.jsx_tree.specs.Reading.{Place}
use Rattle.jsx_tree.specs.StaticRules.{Surroundings}
use Rattle.jsx_tree.specs.Walk.{Relation, Piece, piece, tail, tree, Walk, next, around}
use Rattle.jsx_tree.specs.Language.{Language}
use Rattle.jsx_tree.specs.Grows.{starts, is_operand, seen, is_aim, Seen, Onward, stay, step}
use Rattle.jsx_tree.proofs.Tokens.{and_left}
use Rattle.jsx_tree.proofs.Rows.Laws.{Lawful}
use Rattle.jsx_tree.proofs.Rows.Firsts.{first_rec, kind_home}

-- whether a row begins with a part that stands in what its node stands in
abbrev pub grows : List Piece → Bool
grows (piece [] (Part c) ∷ ps) = true
grows ps = false

abbrev pub grown : Language → Tree → Bool
grown L (node k ts) = grows (L.rows k)
grown L t = false

-- from a tree that was read up to a place to one that has it at its left end
data Through (L : Language) (v : Surroundings) (x : Place) : Tree → Place → Tree → Place → Type 0 where
  here : {t : Tree} {y : Place} → Through L v x t y t y
  further : {t u : Tree} {y z w : Place} (k : Kind) (c d : Nonterminal) {ts : Forest} → starts (L.rows k) ≡ Some c → L.reads v false c x (seen k u) z → Through L v x t y u z → Walk L.reads (around v (part (seen k u) ts)) (tail (L.rows k)) z ts w
      → is_operand d ≡ true → L.reads v false d x (node k (part (seen k u) ts)) w → Through L v x t y (node k (part (seen k u) ts)) w

pub record Spine (L : Language) (v : Surroundings) (x : Place) (u : Tree) (z : Place) : Type 0 where
  pub first : Tree
  pub at : Nonterminal
  pub operand : is_operand at ≡ true
  pub place : Place
  pub stands : grown L first ≡ false
  pub reads : L.reads v false at x first place
  pub calm : is_aim u ≡ false → is_aim first ≡ false
  pub onward : Onward L v x first place u z

record Threaded (L : Language) (v : Surroundings) (x : Place) (u : Tree) (z : Place) : Type 0 where
  first : Tree
  at : Nonterminal
  operand : is_operand at ≡ true
  place : Place
  stands : grown L first ≡ false
  reads : L.reads v false at x first place
  calm : is_aim u ≡ false → is_aim first ≡ false
  through : Through L v x first place u z

record Threads (L : Language) (u : Tree) : Type 0 where
  on : (v : Surroundings) (c : Nonterminal) (x z : Place) → is_operand c ≡ true → L.reads v false c x u z → Threaded L v x u z

alone : {L : Language} {v : Surroundings} {x z : Place} (c : Nonterminal) (u : Tree) → grown L u ≡ false → is_operand c ≡ true → L.reads v false c x u z → Threaded L v x u z
alone {z = z} c u g o r = record { first = u; at = c; operand = o; place = z; stands = g; reads = r; calm = λ a. a; through = here }

-- the first part of a row that begins with one, and the rest
record Led (R : Relation) (V : List Context → Surroundings) (ps : List Piece) (x : Place) (t : Tree) (ts : Forest) (z : Place) : Type 0 where
  at : Nonterminal
  place : Place
  starts_with : starts ps ≡ Some at
  first : R (V []) false at x t place
  rest : Walk R V (tail ps) place ts z

tree_is : {t u : Tree} {ts us : Forest} → part t ts ≡ part u us → t ≡ u
tree_is e = cc

rest_is : {t u : Tree} {ts us : Forest} → part t ts ≡ part u us → ts ≡ us
rest_is e = cc

led : {R : Relation} {V : List Context → Surroundings} (ps : List Piece) {x z : Place} {us : Forest} (t : Tree) (ts : Forest) → grows ps ≡ true → us ≡ part t ts → Walk R V ps x us z → Led R V ps x t ts z
led {R} {V} (piece [] (Part c) ∷ ps) {x} {z} t ts g e (next {y = y} {ts = us} (tree {t = u} q) w) = record {
  at = c;
  place = y;
  starts_with = refl;
  first = subst (λ b. R (V []) false c x b y) (tree_is e) q;
  rest = subst (λ bs. Walk R V ps y bs z) (rest_is e) w;
}
led _ t ts g e w = cc

none_led : {R : Relation} {V : List Context → Surroundings} (ps : List Piece) {x z : Place} {us : Forest} → grows ps ≡ true → us ≡ none → Walk R V ps x us z → ⊥
none_led (piece [] (Part c) ∷ ps) g e (next {ts = us} (tree {t = u} q) w) = cc
none_led _ g e w = cc

by_growth : (b : Bool) {A : Type 0} → (b ≡ true → A) → (b ≡ false → A) → A
by_growth true f g = f refl
by_growth false f g = g refl

-- what is read at the left of a kind is an expression as it is there; one that begins with another is so everywhere
pub record Covers (L : Language) : Type 0 where
  pub sees : (k : Kind) (v : Surroundings) (c d : Nonterminal) (x y z : Place) (t : Tree) (ts : Forest) → starts (L.rows k) ≡ Some c → is_operand d ≡ true → L.reads v false d x (node k (part t ts)) z → L.reads v false c x t y → Seen L k v x t y
  pub stays_so : (k : Kind) (t : Tree) → grown L t ≡ true → seen k t ≡ t

-- a step behind what was threaded
threaded_on : {L : Language} {v : Surroundings} {x y z : Place} {e t : Tree} (k : Kind) (c d : Nonterminal) {ts : Forest} → seen k e ≡ t → is_aim e ≡ false → starts (L.rows k) ≡ Some c → L.reads v false c x t y → Threaded L v x e y → Walk L.reads (around v (part t ts)) (tail (L.rows k)) y ts z
    → is_operand d ≡ true → L.reads v false d x (node k (part t ts)) z → Threaded L v x (node k (part t ts)) z
threaded_on {L} {v} {x} {y} {z} {e} {t} k c d {ts} is a s i p w o r = record {
  first = p.first;
  at = p.at;
  operand = p.operand;
  place = p.place;
  stands = p.stands;
  reads = p.reads;
  calm = λ h. p.calm a;
  through = subst (λ u. Through L v x p.first p.place (node k (part u ts)) z) is
      (further k c d s (subst (λ u. L.reads v false c x u y) (sym is) i) p.through (subst (λ u. Walk L.reads (around v (part u ts)) (tail (L.rows k)) y ts z) (sym is) w) o (subst (λ u. L.reads v false d x (node k (part u ts)) z) (sym is) r));
}

node_spine : {L : Language} → Lawful L → Covers L → (k : Kind) (t : Tree) (ts : Forest) → Threads L t → Threads L (node k (part t ts))
node_spine {L} law cov k t ts s = record { on = λ v c x z o r. by_growth (grows (L.rows k)) (λ g. on v c x z o r g) (λ g. alone c (node k (part t ts)) g o r) }
  where
    on : (v : Surroundings) (c : Nonterminal) (x z : Place) → is_operand c ≡ true → L.reads v false c x (node k (part t ts)) z → grows (L.rows k) ≡ true → Threaded L v x (node k (part t ts)) z
    on v c x z o r g =
        let l = led (L.rows k) t ts g refl (law.from_node k r).walk in
        let h = law.heads k c l.at o (kind_home c k (part t ts) (and_left (admits c (node k (part t ts))) (fits_below c (node k (part t ts))) (law.is_read r).is)) l.starts_with in
        let e = cov.sees k v l.at c x l.place z t ts l.starts_with o r l.first in
        by_growth (grown L e.whole)
        (λ b. let same : e.whole ≡ t = sym (cov.stays_so k e.whole b) ∙ e.is in
        threaded_on k l.at c (ap (seen k) (sym same) ∙ e.is) (subst (λ u. is_aim u ≡ false) same e.aims) l.starts_with l.first (s.on v l.at x l.place h l.first) l.rest o r)
        (λ b. threaded_on k l.at c e.is e.aims l.starts_with l.first (alone e.home e.whole b e.operand e.reads) l.rest o r)

empty_spine : {L : Language} → Lawful L → (k : Kind) → Threads L (node k none)
empty_spine {L} law k = record { on = λ v c x z o r. by_growth (grows (L.rows k)) (λ g. absurd (none_led (L.rows k) g refl (law.from_node k r).walk)) (λ g. alone c (node k none) g o r) }

snoc : {L : Language} {v : Surroundings} {x : Place} {t u : Tree} {y z w : Place} (k : Kind) (c d : Nonterminal) {ts : Forest} → Onward L v x t y u z → starts (L.rows k) ≡ Some c → L.reads v false c x (seen k u) z → Walk L.reads (around v (part (seen k u) ts)) (tail (L.rows k)) z ts w
    → is_operand d ≡ true → L.reads v false d x (node k (part (seen k u) ts)) w → Onward L v x t y (node k (part (seen k u) ts)) w
snoc k c d stay s i r o q = step k c d s i r o q stay
snoc k c d (step l e f s' i' r' o' q' on) s i r o q = step l e f s' i' r' o' q' (snoc k c d on s i r o q)

onward : {L : Language} {v : Surroundings} {x : Place} {t u : Tree} {y z : Place} → Through L v x t y u z → Onward L v x t y u z
onward here = stay
onward (further k c d s i th w o q) = snoc k c d (onward th) s i w o q

-- every tree that is read where an expression stands is read so; one that is read as a target is an expression that is
pub spine : {L : Language} {v : Surroundings} {c : Nonterminal} {x z : Place} → Lawful L → Covers L → (u : Tree) → is_operand c ≡ true → L.reads v false c x u z → Spine L v x u z
spine {L} {v} {c} {x} {z} law cov u o r =
    let p = (first_rec (Threads L) (λ k t. record { on = λ v c x z o r. alone c (leaf k t) refl o r }) (empty_spine law) (node_spine law cov) (record { on = λ v c x z o r. alone c (list none) refl o r }) (λ t ts b. record { on = λ v c x z o r. alone c (list (part t ts)) refl o r }) u).on v c x z o r in
    record { first = p.first; at = p.at; operand = p.operand; place = p.place; stands = p.stands; reads = p.reads; calm = p.calm; onward = onward p.through }
