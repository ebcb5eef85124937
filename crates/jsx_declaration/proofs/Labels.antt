-- Labelled statements.
use Rattle.std.proofs.Common.{◌≡◌, ℕ, List, Bool, true, false, not, cond, [], ◌∷◌, refl, sym, ◌∙◌, ap, subst}
use Rattle.std.specs.Prelude.{IfNone, IfSome, IsTrue, Option, Some, None, codes, ◌&&◌, ◌||◌}
use Rattle.std.specs.Option.{is_some}
use Rattle.std.specs.Str.{bytes_eq, chars, IsUtf8}
use lib.Utf8.{encodes}
use Rattle.std.proofs.lemmas.Slice.Eq.{bytes_eq-Decides}
use Rattle.std.proofs.lemmas.Str.{encodes-chars}
use Rattle.jsx_base.specs.Token.{Text, Operator, IdentifierName, Punctuator, among, breaks, is_end, is_kind, is_token, same, token}
use Rattle.jsx_tree.specs.Signs.{AfterExpr, Sign, Tok, Semicolon, Unless}
use Rattle.jsx_tree.specs.Kinds.{ExprStmt, Kind, Label, statement, Tree, leaf, node, list, Forest, none, part}
use Rattle.jsx_tree.specs.Nonterminals.{Nonterminal, Expr, SubStmt, is_ident}
use Rattle.jsx_tree.specs.Grammar.{InLabel, Part, heads, pun}
use Rattle.jsx_tree.specs.Form.{is_leaf}
use Rattle.jsx_tree.specs.Reading.{Place, Lost, At, forth, go_if, going_on, is_backquote}
use Rattle.jsx_tree.specs.StaticRules.{Jump, jump, Surroundings, has_label, is_loop, labels_loop, rule}
use Rattle.jsx_tree.specs.Walk.{is_found, one, sign, tree, Walk, done, next, around, steady}
use Rattle.jsx_tree.specs.Language.{Whole}
use Rattle.jsx_tree.specs.Answers.{Moves, Only}
use Rattle.jsx_operand.specs.SoFar.{Staged, so_far}
use Rattle.jsx_token.specs.Here.{Here, place_of}
use Rattle.jsx_token.specs.Marks.{row_so_far}
use Rattle.jsx_token.specs.Growths.{rung, is_code, same_sign, settled}
use Rattle.jsx_token.specs.Headings.{Begins, NoHeading, heading_kind, heading_sign, over_items, over_keys, own}
use Rattle.jsx_token.specs.declared.heading.Heading.{Heading}
use Rattle.jsx_tree.proofs.Tokens.{and_right, found_first, one_text, same_is, same_self}
use Rattle.jsx_tree.proofs.Apart.{by_not, clash}
use Rattle.jsx_tree.proofs.Rows.Bridge.{found_at}
use Rattle.jsx_tree.proofs.Rows.Stopping.{is_not, raw_of, sign_stops, stays}
use Rattle.jsx_tree.proofs.Rows.Guarded.{whole_walk}
use Rattle.jsx_tree.proofs.Rows.Placing.{Chosen, free_around, moved}
use Rattle.jsx_operand.proofs.OfSoFar.{of_so_far}
use Rattle.jsx_operand.proofs.Homes.{IsName, taken_by, home_of, no_list}
use Rattle.jsx_operand.proofs.Values.{found_next, leaf_full, literal_follows, or_left, settled_token}
use Rattle.jsx_operand.proofs.Climbing.{climb_only}
use Rattle.jsx_member.proofs.Sequences.{closed_of, whole_only}
use Rattle.jsx_token.proofs.Headings.{of_heading}
use Rattle.jsx_token.proofs.Marks.{one_sign}
use Rattle.jsx_token.proofs.Spellings.{by_both}
use Rattle.jsx_declaration.specs.declared.label.Label as code
use Rattle.jsx_declaration.specs.Labels.{IsBeforeLoop, IsLabel, NoLabel, labelled_in}
use Rattle.jsx_token.proofs.Listed.{agree, agreed}
use Rattle.jsx_declaration.proofs.Statements.{Spot, coded, end_lost, headed_kind, heading_stands, lost_if, name_there, named, named_code, plain_chosen, same_named, spot_ends, spot_kind, subs}

-- ---- whether a label stands there, by the tokens that come next

pub no_name : {x y : Here} → y ≡ x → ((t : Text) → forth (Tok Operator IdentifierName t) (place_of y) ≡ Lost) → NoLabel (place_of x)
no_name e n = record { on = λ t f. ap (λ h. forth (pun ":") (forth (Tok Operator IdentifierName t) (place_of h))) (sym e) ∙ ap (forth (pun ":")) (n t) }

-- a name that is reserved, or behind which no colon stands
pub other_name : {x y : Here} {z : Place} (name : Text) → y ≡ x → z ≡ forth (Tok Operator IdentifierName name) (place_of y) → IsTrue (is_found z) → (is_ident name ≡ true → forth (pun ":") z ≡ Lost) → NoLabel (place_of x)
other_name {x} {y} {z} name e n found l = record { on = λ t f. lost_if (forth (pun ":") (forth (Tok Operator IdentifierName t) (place_of x))) (λ g. at t f g) }
  where
    there : z ≡ forth (Tok Operator IdentifierName name) (place_of x)
    there = n ∙ ap (λ h. forth (Tok Operator IdentifierName name) (place_of h)) e

    at : (t : Text) → is_ident t ≡ true → IsTrue (is_found (forth (pun ":") (forth (Tok Operator IdentifierName t) (place_of x)))) → ⊥
    at t f g =
        let same : t ≡ name = one_text Operator IdentifierName t name (place_of x) (found_first (pun ":" ∷ []) (forth (Tok Operator IdentifierName t) (place_of x)) g) (found_at (sym there) found) in
        let lost : forth (pun ":") (forth (Tok Operator IdentifierName t) (place_of x)) ≡ Lost = ap (λ s. forth (pun ":") (forth (Tok Operator IdentifierName s) (place_of x))) same ∙ (ap (forth (pun ":")) (sym there) ∙ l (subst (λ s. is_ident s ≡ true) same f)) in
        let bad : IsTrue (is_found Lost) = subst (λ p. IsTrue (is_found p)) lost g in cc

pub label_there : {x y : Here} {z w : Place} (name : Text) → y ≡ x → z ≡ forth (Tok Operator IdentifierName name) (place_of y) → IsTrue (is_found z) → w ≡ forth (pun ":") z → IsTrue (is_found w) → is_ident name ≡ true → is_leaf IdentifierName name ≡ true → IsLabel name (place_of x) w
label_there {z = z} name e n f c g i l = record { middle = z; name_there = record { is = n ∙ ap (λ h. forth (Tok Operator IdentifierName name) (place_of h)) e; found = f }; colon = record { is = c; found = g }; free = i; whole = l }

-- ---- what a colon behind a name says of the place between

other_lost : (s u : Sign) (x : Place) → is_code s ≡ true → is_code u ≡ true → same_sign s u ≡ false → IsTrue (is_found (forth u x)) → forth s x ≡ Lost
other_lost s u x a b n g = lost_if (forth s x) (λ f. clash _ (one_sign s u x a b f g) n)

and_no : (a : Bool) → (a && false) ≡ false
and_no true = refl
and_no false = refl

not_end : (q text : Text) → IsTrue (is_found (forth (pun ":") (At q AfterExpr text))) → is_end text ≡ false
not_end q text f = by_not _ (λ e. at (end_lost (pun ":") (At q AfterExpr text) refl e) f)
  where
    at : forth (pun ":") (At q AfterExpr text) ≡ Lost → IsTrue (is_found (forth (pun ":") (At q AfterExpr text))) → ⊥
    at e f = let bad : IsTrue (is_found Lost) = subst (λ p. IsTrue (is_found p)) e f in cc

semi_lost : (x : Place) → settled x ≡ true → IsTrue (is_found (forth (pun ":") x)) → forth Semicolon x ≡ Lost
semi_lost Lost s f = cc
semi_lost (At q AfterExpr text) s f =
    let x = token Operator false text in
    let raw : x.raw ≡ codes ":" = raw_of Punctuator (codes ":") x (found_next 58 [] (At q AfterExpr text) f) in
    let no_mark : is_token x Punctuator (codes ";") ≡ false = ap (λ t. is_kind x.kind Punctuator && same t (codes ";")) raw ∙ and_no (is_kind x.kind Punctuator) in
    let lacks : (not (same x.raw (codes ";")) && (((false || is_end text) || same x.raw (codes "}")) || (breaks text && not (among x.raw going_on || is_backquote x.raw)))) ≡ false =
    ap (λ t. not (same t (codes ";")) && (((false || is_end text) || same t (codes "}")) || (breaks text && not (among t going_on || is_backquote t)))) raw
    ∙ (ap (λ b. (b || false) || (breaks text && false)) (not_end q text f) ∙ and_no (breaks text)) in
    ap (λ b. cond b (At (codes ";") AfterExpr x.rest) (go_if (not (same x.raw (codes ";")) && (((false || is_end text) || same x.raw (codes "}")) || (breaks text && not (among x.raw going_on || is_backquote x.raw)))) (At q AfterExpr text))) no_mark
    ∙ ap (λ b. go_if b (At q AfterExpr text)) lacks
semi_lost (At q _ text) s f = cc

label_settled : {name : Text} {x y : Place} → (l : IsLabel name x y) → settled l.middle ≡ true
label_settled {name} {x} l = settled_token Operator IdentifierName name x (leaf_full IsName name l.whole) (sym l.name_there.is) l.name_there.found

-- the name alone is the expression that stands there
label_value : {v : Surroundings} {name : Text} {x y : Place} → (l : IsLabel name x y) → Only so_far v (Part (Expr 0)) x (one (leaf IdentifierName name)) l.middle
label_value {v} {name} {x} l =
    let c = found_at (sym l.colon.is) l.colon.found in
    let b = literal_follows {v = v} IsName name (or_left _ _ l.free) l.whole l.name_there.is l.name_there.found in
    whole_only (climb_only (rung 1) refl (b.on (rung 1) refl refl) (of_so_far.ends_there (Expr 1) l.middle (sign_stops (Expr 1) (pun ":") l.middle refl c))) (closed_of l.middle (label_settled l)) (other_lost (pun ",") (pun ":") l.middle refl refl refl c)

-- so no expression statement does
no_evaluation : {v : Surroundings} {name : Text} {x y z : Place} {us : Forest} → (l : IsLabel name x y) → Walk (Whole so_far) (steady v) (row_so_far (statement ExprStmt)) x us z → ⊥
no_evaluation {v} {x = x} l (next (sign e f) (next {y = w} (tree {t = u} q) (next (sign g i) (done k)))) =
    let there = sym e ∙ stays (Unless heads) x refl (found_at e f) in
    let same = (label_value l).alone (one u) w (tree (subst (λ p. Whole so_far v false (Expr 0) p u w) there q)) in
    let bad : IsTrue (is_found Lost) = subst (λ p. IsTrue (is_found p)) (sym g ∙ (ap (forth Semicolon) (sym same.1) ∙ semi_lost l.middle (label_settled l) (found_at (sym l.colon.is) l.colon.found))) i in cc

-- ---- what stands at a place where a label does

-- none of the words and marks with which other statements begin
named_heading : {name : Text} {x y : Place} → (l : IsLabel name x y) → (h : Heading) → IsTrue (is_found (forth (heading_sign h) x)) → ⊥
named_heading {name} {x} l h f = clash _ (same_named (heading_sign h) name (one_sign (heading_sign h) (Tok Operator IdentifierName name) x (coded h) (named_code name l.whole) f (found_at (sym l.name_there.is) l.name_there.found)) l.free) (is_not _ (of_heading (λ j. not (named (heading_sign j))) refl h))

pub label_chosen : {v : Surroundings} {c : Nonterminal} {name : Text} {x y : Place} → Spot c → IsLabel name x y → Chosen so_far v c (statement Label) x
label_chosen {v} {c} {name} {x} s l = record {
  no_leaf = λ k t z w. s.leafless k t w.reads.staged;
  kind = λ k ts z w. spot_kind s k ts (taken_by w.reads) (home_of w.reads)
      (λ g b. absurd (named_heading l g (heading_stands b (of_so_far.from_node k w.reads).walk)))
      (λ e. absurd (no_evaluation l (steady_walk (whole_walk of_so_far c (row_so_far (statement ExprStmt)) s.guards_plain (spot_ends s z) (of_so_far.from_node (statement ExprStmt) (subst (λ j. Staged v false c x (node j ts) z) e w.reads)).walk))))
      (λ e. e);
}
  where
    steady_walk : {us vs : Forest} {z : Place} → Walk (Whole so_far) (around v vs) (row_so_far (statement ExprStmt)) x us z → Walk (Whole so_far) (steady v) (row_so_far (statement ExprStmt)) x us z
    steady_walk w = moved (λ a h. free_around a _ v h) refl w

-- its parts, where the label is known
pub record BodyThere (v : Surroundings) (name : Text) (y : Place) (ts : Forest) (z : Place) : Type 0 where
  pub body : Tree
  pub is : ts ≡ part (leaf IdentifierName name) (part body none)
  pub read : Whole so_far (labelled_in name (labels_loop body) v) false SubStmt y body z
  pub fresh : has_label name false v.labels ≡ false

pub body_there : {v : Surroundings} {name : Text} {x y z : Place} {ts : Forest} → (l : IsLabel name x y) → Walk Staged (around v ts) (row_so_far (statement Label)) x ts z → so_far.keeps (statement Label) v ts ≡ true → BodyThere v name y ts z
body_there {v} {name} {x} {y} {z} l (next {y = m} (tree {t = u} q) (next {y = n} (sign e f) (next (tree {t = b} r) (done g)))) k =
    let t = name_there u q in
    let same : t.name ≡ name = one_text Operator IdentifierName t.name name x (found_at t.there t.found) (found_at (sym l.name_there.is) l.name_there.found) in
    let is : u ≡ leaf IdentifierName name = t.is ∙ ap (leaf IdentifierName) same in
    let at : m ≡ l.middle = sym t.there ∙ (ap (λ s. forth (Tok Operator IdentifierName s) x) same ∙ sym l.name_there.is) in
    let there : n ≡ y = sym e ∙ (ap (forth (pun ":")) at ∙ sym l.colon.is) in
    let keeps : so_far.keeps (statement Label) v (part (leaf IdentifierName name) (part b none)) ≡ true = subst (λ w. so_far.keeps (statement Label) v (part w (part b none)) ≡ true) is k in
    record {
      body = b;
      is = ap (λ w. part w (part b none)) is;
      read = record { reads = subst (λ w. Staged (around v (part w (part b none)) (InLabel ∷ [])) false SubStmt y b z) is (subst (λ p. Staged (around v (part u (part b none)) (InLabel ∷ [])) false SubStmt p b z) there r); ends_there = spot_ends subs z };
      fresh = is_not _ (and_right (rule (statement Label) (part (leaf IdentifierName name) (part b none))) _ keeps);
    }

-- ---- whether a loop stands behind labels

pub behind_label : {name : Text} {x y : Place} (b : Bool) → IsLabel name x y → IsBeforeLoop b y → IsBeforeLoop b x
behind_label {name} {x} {y} b l n = record { on = at }
  where
    at : (v : Surroundings) (t : Tree) (z : Place) → Staged v false SubStmt x t z → labels_loop t ≡ b
    at v (leaf k t) z r = absurd (subs.leafless k t r.staged)
    at v (list ts) z r = absurd (no_list r)
    at v (node k ts) z r =
        let e = (label_chosen {v = v} subs l).kind k ts z (record { reads = r; ends_there = spot_ends subs z }) in
        let p = of_so_far.from_node (statement Label) (subst (λ j. Staged v false SubStmt x (node j ts) z) e r) in
        let d = body_there l p.walk p.keeps in
        (λ i. labels_loop (node (e i) (d.is i))) ∙ n.on _ d.body z d.read.reads

-- past labels
pub record PastLabels (x y : Place) : Type 0 where
  pub on : (b : Bool) → IsBeforeLoop b y → IsBeforeLoop b x

pub past_none : {x y : Here} → y ≡ x → PastLabels (place_of x) (place_of y)
past_none {y = y} e = record { on = λ b n. subst (λ h. IsBeforeLoop b (place_of h)) e n }

pub past_more : {name : Text} {x y z : Place} → PastLabels x y → IsLabel name y z → PastLabels x z
past_more p l = record { on = λ b n. p.on b (behind_label b l n) }

-- one more, or none, as the code tests
pub past_one : {x y z : Place} (o : Option code.Label) → is_some o ≡ true → IfSome o (λ l. IsLabel (chars l.name.now) y z) → PastLabels x y → PastLabels x z
past_one (Some l) h k p = past_more p k
past_one None h k p = cc

pub if_some : {A : Type 0} {P : Type 0} (o : Option A) → is_some o ≡ true → IfSome o (λ a. P) → P
if_some (Some a) h p = p
if_some None h p = cc

pub if_none : {A : Type 0} {P : Type 0} (o : Option A) → is_some o ≡ false → IfNone o P → P
if_none (Some a) h p = cc
if_none None h p = p

loop_of : {h : Heading} {k : Kind} (ts : Forest) → Begins h k → labels_loop (node k ts) ≡ is_loop (node (heading_kind h) none)
loop_of ts (own h) = agreed _ _ (of_heading (λ j. agree (labels_loop (node (heading_kind j) ts)) (is_loop (node (heading_kind j) none))) refl h)
loop_of ts over_keys = refl
loop_of ts over_items = refl

pub at_heading : {x y : Place} (h : Heading) → Moves (heading_sign h) x y → IsBeforeLoop (is_loop (node (heading_kind h) none)) x
at_heading {x} h m = record { on = at }
  where
    at : (v : Surroundings) (t : Tree) (z : Place) → Staged v false SubStmt x t z → labels_loop t ≡ is_loop (node (heading_kind h) none)
    at v (leaf k t) z r = absurd (subs.leafless k t r.staged)
    at v (list ts) z r = absurd (no_list r)
    at v (node k ts) z r =
        loop_of ts (headed_kind {v = v} subs h (found_at (sym m.is) m.found) k ts (record { reads = r; ends_there = spot_ends subs z }))

pub at_expression : {x : Place} → NoHeading x → NoLabel x → IsBeforeLoop false x
at_expression {x} n l = record { on = at }
  where
    at : (v : Surroundings) (t : Tree) (z : Place) → Staged v false SubStmt x t z → labels_loop t ≡ false
    at v (leaf k t) z r = absurd (subs.leafless k t r.staged)
    at v (list ts) z r = absurd (no_list r)
    at v (node k ts) z r = ap (λ j. labels_loop (node j ts)) ((plain_chosen {v = v} subs n l).kind k ts z (record { reads = r; ends_there = spot_ends subs z }))

-- ---- the labels that enclose, by their bytes

pub same_names : (a b : List ℕ) → IsUtf8 a → IsUtf8 b → bytes_eq a b ≡ same (chars a) (chars b)
same_names a b u w = by_both _ _
    (λ h. ap (λ t. same t (chars b)) (ap chars ((bytes_eq-Decides a b).0 h)) ∙ same_self (chars b))
    (λ h. (bytes_eq-Decides a b).1 (sym (encodes-chars a u) ∙ (ap encodes (same_is (chars a) (chars b) h) ∙ encodes-chars b w)))

pub inside_then : (t u : Text) (l b v : Bool) (js : List Jump) → v ≡ (same t u && (b || not l)) → v ≡ true → v ≡ has_label t l (jump u b ∷ js)
inside_then t u l b v js e h = h ∙ sym (ap (λ s. s || has_label t l js) (sym e ∙ h))

pub inside_else : (t u : Text) (l b v r : Bool) (js : List Jump) → v ≡ (same t u && (b || not l)) → v ≡ false → r ≡ has_label t l js → r ≡ has_label t l (jump u b ∷ js)
inside_else t u l b v r js e h i = i ∙ sym (ap (λ s. s || has_label t l js) (sym e ∙ h))
