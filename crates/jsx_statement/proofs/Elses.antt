-- What an `if` has behind its first statement, and which `if` an `else` belongs to: the nearest.
use Rattle.std.proofs.Common.{◌≡◌, Bool, true, false, not, List, [], ◌∷◌, refl, sym, ◌∙◌, ap, subst, Option, Some, None, Box, Global}
use Rattle.std.specs.Prelude.{IsTrue, codes, ◌&&◌, ◌||◌}
use Rattle.jsx_base.specs.Token.{IdentifierName}
use Rattle.jsx_tree.specs.Signs.{Unless}
use Rattle.jsx_tree.specs.Kinds.{If, Try, Kind, statement, Tree, leaf, node, list, Forest, none, part, Label}
use Rattle.jsx_tree.specs.Nonterminals.{Nonterminal, Expr, SubStmt}
use Rattle.jsx_tree.specs.Grammar.{Context, Fixed, Part, Optional, Many, Within, key, pun, production}
use Rattle.jsx_tree.specs.Reading.{Place, Lost, forth}
use Rattle.jsx_tree.specs.StaticRules.{Surroundings, is_if, last_open, open_if, trails}
use Rattle.jsx_tree.specs.View.{optional_of, view_stmt}
use Rattle.jsx_tree.specs.declared.tree.Stmt.{Stmt}
use Rattle.jsx_tree.specs.Walk.{is_found, one, nothing, Piece, piece, tail, sign, tree, absent, present, Walk, done, next}
use Rattle.jsx_tree.specs.Answers.{Moves, Only, Barred, OnlyRow, NoRow, BuiltNode}
use Rattle.jsx_tree.specs.Faults.{Fault}
use Rattle.jsx_tree.proofs.Tokens.{and_left, and_right}
use Rattle.jsx_tree.proofs.Rows.Bridge.{found_at}
use Rattle.jsx_tree.proofs.Rows.Stopping.{is_not, or_cases, stays}
use Rattle.jsx_tree.proofs.Rows.Laws.{end_found}
use Rattle.jsx_tree.proofs.Rows.Steps.{bar, end, then'}
use Rattle.jsx_tree.proofs.Rows.Turns.{whole_of}
use Rattle.jsx_operand.specs.SoFar.{Staged, so_far}
use Rattle.jsx_token.specs.Marks.{row_so_far}
use Rattle.jsx_statement.specs.Statements.{Closes, alternative_row}
use Rattle.jsx_token.specs.Headings.{Begins}
use Rattle.jsx_token.specs.declared.heading.Heading.{Heading}
use Rattle.jsx_token.proofs.Headings.{of_begun}
use Rattle.jsx_operand.proofs.OfSoFar.{of_so_far}
use Rattle.jsx_operand.proofs.Homes.{no_list, taken_by, home_of}
use Rattle.jsx_statement.proofs.PartWords.{absent_word, barred_word, of_else, present_word}
use Rattle.jsx_statement.proofs.Tries.{try_closed}
use Rattle.jsx_declaration.proofs.Statements.{Spot, subs, spot_kind, unless_lost}

-- ---- behind the first statement

pub no_else : {v : Surroundings} {x : Place} → forth (key "else") x ≡ Lost → IsTrue (is_found x) → OnlyRow so_far v alternative_row x (part (list none) none) x
no_else n f = then' (absent_word of_else n f) (end f)

pub some_else : {v : Surroundings} {x y z : Place} {t : Tree} → Moves (key "else") x y → Only so_far v (Part SubStmt) y (one t) z → OnlyRow so_far v alternative_row x (part (list (part t none)) none) z
some_else m o = then' (present_word of_else m o) (end (end_found of_so_far (whole_of o.past).reads))

pub none_else : {v : Surroundings} {x y : Place} {e : Fault} → Moves (key "else") x y → Barred so_far v (Part SubStmt) y e → NoRow so_far v alternative_row x e
none_else m b = bar (barred_word of_else m b)

-- ---- a statement before an `else` ends with no `if` that it could belong to

abbrev Ahead : Place → Type 0
Ahead y = IsTrue (is_found (forth (key "else") y))

record Closed (t : Tree) : Type 0 where
  on : {v : Surroundings} {c : Nonterminal} {x y : Place} → Spot c → Staged v false c x t y → Ahead y → open_if t ≡ false

-- what is said of each tree, and of those of each list in it
data AllClosed : Forest → Type 0 where
  nil : AllClosed none
  cons : {t : Tree} {ts : Forest} → Closed t → ((us : Forest) → t ≡ list us → AllClosed us) → AllClosed ts → AllClosed (part t ts)

first_closed : {t : Tree} {ts : Forest} → AllClosed (part t ts) → Closed t
first_closed (cons g i a) = g

rest_closed : {t : Tree} {ts : Forest} → AllClosed (part t ts) → AllClosed ts
rest_closed (cons g i a) = a

in_closed : {us ts : Forest} → AllClosed (part (list us) ts) → AllClosed us
in_closed (cons g i a) = i _ refl

absent_not : (x : Place) {y : Place} → forth (Unless (codes "else" ∷ [])) x ≡ y → IsTrue (is_found y) → Ahead y → ⊥
absent_not x {y} e f a =
    let same' : forth (Unless (codes "else" ∷ [])) x ≡ x = stays (Unless (codes "else" ∷ [])) x refl (found_at e f) in
    let bad : IsTrue (is_found Lost) = subst (λ p. IsTrue (is_found p)) (sym e ∙ unless_lost (codes "else" ∷ []) IdentifierName 101 (codes "lse") x refl refl (subst (λ p. IsTrue (is_found (forth (key "else") p))) (sym e ∙ same') a)) f in cc

if_closed : {V : _} {x y : Place} {ts : Forest} → AllClosed ts → Walk Staged V (row_so_far (statement If)) x ts y → Ahead y → open_if (node (statement If) ts) ≡ false
if_closed a (next (sign e1 f1) (next (sign e2 f2) (next (tree q) (next (sign e3 f3) (next (tree r) (next {x = p} (absent e4 f4) (done f5))))))) h = absurd (absent_not p e4 f4 h)
if_closed a (next (sign e1 f1) (next (sign e2 f2) (next (tree q) (next (sign e3 f3) (next (tree r) (next (present d s e4 f4) (done f5))))))) h = (first_closed (in_closed (rest_closed (rest_closed a)))).on subs s (subst Ahead (sym e4) h)

-- what ends with another statement, and isn't `if`

abbrev is_nested : Nonterminal → Bool
is_nested SubStmt = true
is_nested c = false

nested_is : (c : Nonterminal) → is_nested c ≡ true → c ≡ SubStmt
nested_is SubStmt e = refl
nested_is _ e = cc

abbrev nested_piece : Piece → Bool
nested_piece (piece a (Part c)) = is_nested c
nested_piece q = false

abbrev ends_nested : List Piece → Bool
ends_nested [] = false
ends_nested (q ∷ []) = nested_piece q
ends_nested (q ∷ (r ∷ rs)) = ends_nested (r ∷ rs)

filled : {V : _} {x y : Place} {us : Forest} (q : Piece) (qs : List Piece) → ends_nested (q ∷ qs) ≡ true → Walk Staged V (q ∷ qs) x us y → us ≡ none → ⊥
filled (piece c (Part d)) [] e (next (tree r) w) n = cc
filled (piece c (Fixed s)) [] e w n = cc
filled (piece c (Optional l d m r)) [] e w n = cc
filled (piece c (Many s d)) [] e w n = cc
filled (piece c (Within d)) [] e w n = cc
filled q (r ∷ rs) e (next {g = nothing} p w) n = filled r rs e w n
filled q (r ∷ rs) e (next {g = one t} p w) n = cc

open_behind : (t : Tree) (us : Forest) → (us ≡ none → ⊥) → last_open false (part t us) ≡ last_open false us
open_behind t none n = absurd (n refl)
open_behind t (part u us) n = refl

last_closed : {V : List Context → Surroundings} {x y : Place} {us : Forest} (q : Piece) (qs : List Piece) → ends_nested (q ∷ qs) ≡ true → AllClosed us → Walk Staged V (q ∷ qs) x us y → Ahead y → last_open false us ≡ false
last_closed {V} {x} (piece c (Part d)) [] e a (next {y = z} (tree {t = t} r) (done f)) h = (first_closed a).on subs (subst (λ m. Staged (V c) false m x t z) (nested_is d e) r) h
last_closed (piece c (Fixed s)) [] e a w h = cc
last_closed (piece c (Optional l d m r)) [] e a w h = cc
last_closed (piece c (Many s d)) [] e a w h = cc
last_closed (piece c (Within d)) [] e a w h = cc
last_closed q (r ∷ rs) e a (next {g = nothing} p w) h = last_closed r rs e a w h
last_closed q (r ∷ rs) e a (next {g = one t} {ts = us} p w) h = open_behind t us (filled r rs e w) ∙ last_closed r rs e (rest_closed a) w h

row_closed : {V : List Context → Surroundings} {x y : Place} {us : Forest} (qs : List Piece) → ends_nested qs ≡ true → AllClosed us → Walk Staged V qs x us y → Ahead y → last_open false us ≡ false
row_closed [] e a w h = cc
row_closed (q ∷ qs) e a w h = last_closed q qs e a w h

-- it ends with a token, or with another statement
abbrev ends_shut : Kind → Bool
ends_shut k = not (trails (production k)) || (not (is_if k) && ends_nested (row_so_far k))

and_no : (a : Bool) → (a && false) ≡ false
and_no true = refl
and_no false = refl

shut_closed : {V : List Context → Surroundings} {x y : Place} {us : Forest} (k : Kind) → ends_shut k ≡ true → AllClosed us → Walk Staged V (row_so_far k) x us y → Ahead y → open_if (node k us) ≡ false
shut_closed {us = us} k s a w h =
    or_cases (not (trails (production k))) (not (is_if k) && ends_nested (row_so_far k)) s
    (λ n. ap (λ b. b && last_open (is_if k) us) (is_not _ n))
    (λ m. ap (λ b. trails (production k) && last_open b us) (is_not _ (and_left (not (is_if k)) _ m)) ∙ (ap (λ b. trails (production k) && b) (row_closed (row_so_far k) (and_right (not (is_if k)) _ m) a w h) ∙ and_no _))

if_kind : (k : Kind) → is_if k ≡ true → k ≡ statement If
if_kind (statement If) e = refl
if_kind _ e = cc

abbrev is_try : Kind → Bool
is_try (statement Try) = true
is_try k = false

try_kind : (k : Kind) → is_try k ≡ true → k ≡ statement Try
try_kind (statement Try) e = refl
try_kind _ e = cc

kind_closed : {V : List Context → Surroundings} {x y : Place} {us : Forest} (k : Kind) → (is_if k || (is_try k || ends_shut k)) ≡ true → AllClosed us → Walk Staged V (row_so_far k) x us y → Ahead y → open_if (node k us) ≡ false
kind_closed {V} {x} {y} {us} k s a w h =
    or_cases (is_if k) (is_try k || ends_shut k) s
    (λ i. subst (λ l. Walk Staged V (row_so_far l) x us y → open_if (node l us) ≡ false) (sym (if_kind k i)) (λ w. if_closed a w h) w)
    (λ n. or_cases (is_try k) (ends_shut k) n
    (λ i. subst (λ l. Walk Staged V (row_so_far l) x us y → open_if (node l us) ≡ false) (sym (try_kind k i)) (λ w. try_closed w) w)
    (λ e. shut_closed k e a w h))

heading_closed : {g : Heading} {k : Kind} → Begins g k → {V : List Context → Surroundings} {x y : Place} {us : Forest} → AllClosed us → Walk Staged V (row_so_far k) x us y → Ahead y → open_if (node k us) ≡ false
heading_closed {k = k} b a w h = kind_closed k (of_begun (λ j. is_if j || (is_try j || ends_shut j)) refl b) a w h

node_closed : (k : Kind) (ts : Forest) → AllClosed ts → Closed (node k ts)
node_closed k ts a = record {
  on = λ {v} {c} {x} {y} s r h. spot_kind s k ts (taken_by r) (home_of r)
      (λ g b. heading_closed b a (of_so_far.from_node k r).walk h)
      (λ e. ap (λ l. open_if (node l ts)) e)
      (λ e. ap (λ l. open_if (node l ts)) e ∙ shut_closed (statement Label) refl a (of_so_far.from_node (statement Label) (subst (λ l. Staged v false c x (node l ts) y) e r)).walk h);
}

list_is : {us vs : Forest} → list us ≡ list vs → us ≡ vs
list_is e = cc

mutual
  tree_closed : (t : Tree) → Closed t
  tree_closed (leaf k s) = record { on = λ s r h. refl }
  tree_closed (list ts) = record { on = λ s r h. absurd (no_list r) }
  tree_closed (node k ts) = node_closed k ts (all_closed ts)

  all_closed : (ts : Forest) → AllClosed ts
  all_closed none = nil
  all_closed (part (leaf k s) ts) = cons (tree_closed (leaf k s)) (λ us e. cc) (all_closed ts)
  all_closed (part (node k us) ts) = cons (tree_closed (node k us)) (λ vs e. cc) (all_closed ts)
  all_closed (part (list us) ts) = cons (record { on = λ s r h. absurd (no_list r) }) (λ vs e. subst AllClosed (list_is e) (all_closed us)) (all_closed ts)

-- ---- an `if` behind its word

if_keeps : (v : Surroundings) {u : Surroundings} {x y : Place} (e : Tree) {s : Tree} (o : Option (Box Stmt Global)) → Closes o y → Staged u false SubStmt x s y → so_far.keeps (statement If) v (part e (part s (part (optional_of view_stmt o) none))) ≡ true
if_keeps v e None h r = refl
if_keeps v e {s} (Some b) h r = ap (λ a. not a && true) ((tree_closed s).on subs r h)

pub if_built : {v : Surroundings} {x x1 x2 x3 x4 z : Place} {e s t : Tree} (o : Option (Box Stmt Global)) → Only so_far v (Fixed (pun "(")) x nothing x1 → Only so_far v (Part (Expr 0)) x1 (one e) x2 → Only so_far v (Fixed (pun ")")) x2 nothing x3 → Only so_far v (Part SubStmt) x3 (one s) x4 → Closes o x4
    → OnlyRow so_far v alternative_row x4 (part (optional_of view_stmt o) none) z → t ≡ node (statement If) (part e (part s (part (optional_of view_stmt o) none))) → BuiltNode so_far v (tail (row_so_far (statement If))) (statement If) t x z
if_built {v} {e = e} o a b c d h r is = record { parts = _; is = is; row = then' a (then' b (then' c (then' d r))); keeps = if_keeps v e o h (whole_of d.past).reads }
