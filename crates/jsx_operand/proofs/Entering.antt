-- A row whose symbols all stand in some contexts more is the row without these, read in the surroundings that they make.
use Rattle.std.proofs.Common.{◌≡◌, Bool, true, false, List, [], ◌∷◌, ◌++◌, refl, sym, ◌∙◌, ap, subst}
use Rattle.std.specs.Prelude.{◌&&◌}
use Rattle.jsx_tree.specs.Kinds.{Tree, Forest, none, part}
use Rattle.jsx_tree.specs.Grammar.{Context, InClassCode, InMembers}
use Rattle.jsx_tree.specs.Reading.{Place}
use Rattle.jsx_tree.specs.StaticRules.{Surroundings, enter, enters, third}
use Rattle.jsx_tree.specs.Walk.{Relation, Piece, piece, Past, Walk, done, next, around, steady}
use Rattle.jsx_tree.specs.Language.{Language}
use Rattle.jsx_tree.specs.Answers.{OnlyRow}
use Rattle.jsx_tree.proofs.Tokens.{and_left, and_right}

-- ---- the symbols of a row, each in further contexts

abbrev pub deeper : List Context → List Piece → List Piece
deeper c [] = []
deeper c (piece a p ∷ ps) = piece (a ++ c) p ∷ deeper c ps

pub enters_deeper : (ts : Forest) (a c : List Context) (v : Surroundings) → enters ts (a ++ c) v ≡ enters ts a (enters ts c v)
enters_deeper ts [] c v = refl
enters_deeper ts (x ∷ a) c v = ap (enter ts x) (enters_deeper ts a c v)

-- ---- along a row

pub walk_in : {R : Relation} {V W : List Context → Surroundings} {x y : Place} {ts : Forest} → (c : List Context) → ((a : List Context) → V (a ++ c) ≡ W a) → (ps : List Piece) → Walk R V (deeper c ps) x ts y → Walk R W ps x ts y
walk_in c e [] (done f) = done f
walk_in {R} c e (piece a p ∷ ps) (next {x = x} {y = y} {g = g} q w) = next (subst (λ v. Past R v p x g y) (e a) q) (walk_in c e ps w)

pub walk_out : {R : Relation} {V W : List Context → Surroundings} {x y : Place} {ts : Forest} → (c : List Context) → ((a : List Context) → V (a ++ c) ≡ W a) → (ps : List Piece) → Walk R W ps x ts y → Walk R V (deeper c ps) x ts y
walk_out c e [] (done f) = done f
walk_out {R} c e (piece a p ∷ ps) (next {x = x} {y = y} {g = g} q w) = next (subst (λ v. Past R v p x g y) (sym (e a)) q) (walk_out c e ps w)

-- ---- what a row answers

pub row_out : {L : Language} {x y : Place} {ts : Forest} (c : List Context) (v : Surroundings) (ps : List Piece) → OnlyRow L (enters none c v) ps x ts y → OnlyRow L v (deeper c ps) x ts y
row_out {L} c v ps o = record {
  walk = walk_out {V = steady v} {W = steady (enters none c v)} c (λ a. enters_deeper none a c v) ps o.walk;
  alone = λ us z w. o.alone us z (walk_in {V = steady v} {W = steady (enters none c v)} c (λ a. enters_deeper none a c v) ps w);
}

-- ---- what the members of a class stand in doesn't hang on its name

abbrev is_of_class : Context → Bool
is_of_class InClassCode = true
is_of_class InMembers = true
is_of_class a = false

abbrev are_of_class : List Context → Bool
are_of_class [] = true
are_of_class (a ∷ as') = is_of_class a && are_of_class as'

abbrev pub of_class : List Piece → Bool
of_class [] = true
of_class (piece a p ∷ ps) = are_of_class a && of_class ps

third_same : (m n : Tree) (ts : Forest) → third (part m ts) ≡ third (part n ts)
third_same m n none = refl
third_same m n (part t ts) = refl

enter_same : (a : Context) (m n : Tree) (ts : Forest) (v : Surroundings) → is_of_class a ≡ true → enter (part m ts) a v ≡ enter (part n ts) a v
enter_same InClassCode m n ts v e = refl
enter_same InMembers m n ts v e = ap (λ b. record v { derived = b }) (third_same m n ts)
enter_same _ m n ts v e = cc

enters_same : (a : List Context) (m n : Tree) (ts : Forest) (v : Surroundings) → are_of_class a ≡ true → enters (part m ts) a v ≡ enters (part n ts) a v
enters_same [] m n ts v e = refl
enters_same (a ∷ as') m n ts v e = ap (enter (part m ts) a) (enters_same as' m n ts v (and_right (is_of_class a) _ e)) ∙ enter_same a m n ts (enters (part n ts) as' v) (and_left (is_of_class a) _ e)

pub renamed : {R : Relation} {v : Surroundings} (m n : Tree) (ts : Forest) {ps : List Piece} {x y : Place} {us : Forest} → of_class ps ≡ true → Walk R (around v (part m ts)) ps x us y → Walk R (around v (part n ts)) ps x us y
renamed m n ts f (done g) = done g
renamed {R} {v} m n ts f (next {a = a} {p = p} {ps = ps} {x = x} {y = y} {g = g} q w) = next (subst (λ u. Past R u p x g y) (enters_same a m n ts v (and_left (are_of_class a) (of_class ps) f)) q) (renamed m n ts (and_right (are_of_class a) (of_class ps) f) w)
