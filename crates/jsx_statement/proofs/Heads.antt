-- A loop with a condition and a step, by its parts.
use Rattle.std.proofs.Common.{◌≡◌, Bool, true, false, not, List, [], ◌++◌, refl, sym, ap, subst}
use Rattle.std.specs.Prelude.{IsTrue, ◌&&◌}
use Rattle.jsx_tree.specs.Kinds.{For, statement, Tree, node, list, Forest, none, part}
use Rattle.jsx_tree.specs.Nonterminals.{ForInit, SubStmt}
use Rattle.jsx_tree.specs.Grammar.{InLoop, Fixed, Optional, Part, pun}
use Rattle.jsx_tree.specs.Reading.{Place, forth}
use Rattle.jsx_tree.specs.StaticRules.{Surroundings, enter, open_in}
use Rattle.jsx_tree.specs.Walk.{is_found, nothing, one, Piece, Given, Past, sign, absent, present, tail, with, Walk, done, next, steady}
use Rattle.jsx_tree.specs.Language.{Whole}
use Rattle.jsx_tree.specs.Answers.{Only, Barred, OnlyRow, NoRow, NoNode, BuiltNode}
use Rattle.jsx_tree.specs.Faults.{Fault, Shallow, deepest, given_depth}
use Rattle.jsx_tree.proofs.Tokens.{and_both}
use Rattle.jsx_tree.proofs.Rows.Laws.{end_found}
use Rattle.jsx_tree.proofs.Rows.Placing.{no_node}
use Rattle.jsx_tree.proofs.Rows.Steps.{bar, end, on, on_row, then', then_row}
use Rattle.jsx_tree.proofs.Rows.Turns.{whole_of}
use Rattle.jsx_tree.proofs.Depth.Shallow.{shallow_alone, shallow_first}
use Rattle.jsx_operand.specs.SoFar.{so_far}
use Rattle.jsx_token.specs.Marks.{row_so_far}
use Rattle.jsx_declaration.specs.Heads.{NoInitial, clause_row, initial_row}
use Rattle.jsx_token.specs.declared.lexer.Fixed.{Fixed as Mark}
use Rattle.jsx_token.specs.declared.lexer.Fixed.TheVariants as fixed
use Rattle.jsx_operand.proofs.OfSoFar.{of_so_far}
use Rattle.jsx_declaration.proofs.Controls.{barred_in, only_in}

-- ---- a `for` behind its word

pub for_built : {v u : Surroundings} {x x1 x2 x3 x4 z : Place} {i e d s t : Tree} → u ≡ enter none InLoop v → Only so_far v (Fixed (pun "(")) x nothing x1 → OnlyRow so_far v initial_row x1 (part i none) x2 → open_in i ≡ false → OnlyRow so_far v (clause_row fixed.Semicolon) x2 (part e none) x3 → OnlyRow so_far v (clause_row fixed.Close) x3 (part d none) x4
    → Only so_far u (Part SubStmt) x4 (one s) z → t ≡ node (statement For) (part i (part e (part d (part s none)))) → BuiltNode so_far v (tail (row_so_far (statement For))) (statement For) t x z
for_built i a b n c d s is = record {
  parts = _;
  is = is;
  row = then' a (then_row of_so_far initial_row b (then_row of_so_far (clause_row fixed.Semicolon) c (then_row of_so_far (clause_row fixed.Close) d (then' (only_in i s) (end (end_found of_so_far (whole_of s.past).reads))))));
  keeps = and_both _ _ (ap not n) refl;
}

pub no_for_initial : {v : Surroundings} {x y : Place} {fault : Fault} → Only so_far v (Fixed (pun "(")) x nothing y → NoInitial v y fault → NoNode so_far v (tail (row_so_far (statement For))) (statement For) x fault
no_for_initial {v} {x} {y} {fault = fault} o n = record { no = at }
  where
    first : {p q z : Place} (i : Tree) → y ≡ p → Past (Whole so_far) v (Optional [] ForInit [] []) p (one i) q → forth (pun ";") q ≡ z → IsTrue (is_found z) → open_in i ≡ false → Shallow fault (given_depth (one i)) → ⊥
    first {q = q} {z} i e w d f c h' = n.no (part i none) z (next (subst (λ a. Past (Whole so_far) v (Optional [] ForInit [] []) a (one i) q) (sym e) w) (next (sign d f) (done f))) c (shallow_alone fault (one i) h')

    not_open : (b : Bool) → (not b && true) ≡ true → b ≡ false
    not_open true h = cc
    not_open false h = refl

    by : {p q z : Place} {g : Given} (us : Forest) → Past (Whole so_far) v (Optional [] ForInit [] []) p g q → so_far.keeps (statement For) v (with g us) ≡ true → forth (pun ";") q ≡ z → IsTrue (is_found z) → y ≡ p → Shallow fault (given_depth g) → ⊥
    by us (absent e f) k d h s s' = first (list none) s (absent e f) d h (not_open (open_in (list none)) k) s'
    by us (present {t = t} a r b f) k d h s s' = first (list (part t none)) s (present a r b f) d h (not_open (open_in (list (part t none))) k) s'

    at : (us : Forest) (z : Place) → Walk (Whole so_far) (steady v) (tail (row_so_far (statement For))) x us z → so_far.keeps (statement For) v us ≡ true → Shallow fault (deepest us) → ⊥
    at us z (next (sign a b) (next {g = g'} w (next {ts = vs} (sign d f) rest))) k s = by vs w k d f (o.alone nothing _ (sign a b)).1 (shallow_first fault g' vs s)

before_rest : {v : Surroundings} {x : Place} {qs : List Piece} {e : Fault} (f : Mark) → NoRow so_far v (clause_row f) x e → NoRow so_far v (clause_row f ++ qs) x e
before_rest {v} {x} {qs} {e = e} f n = record { no = at }
  where
    at : (us : Forest) (z : Place) → Walk (Whole so_far) (steady v) (clause_row f ++ qs) x us z → Shallow e (deepest us) → ⊥
    at us z (next {g = g'} {ts = us'} w (next (sign d h) rest)) s = n.no _ _ (next w (next (sign d h) (done h))) (shallow_alone e g' (shallow_first e g' us' s))

pub no_for_test : {v : Surroundings} {x x1 x2 : Place} {i : Tree} {e : Fault} → Only so_far v (Fixed (pun "(")) x nothing x1 → OnlyRow so_far v initial_row x1 (part i none) x2 → NoRow so_far v (clause_row fixed.Semicolon) x2 e → NoNode so_far v (tail (row_so_far (statement For))) (statement For) x e
no_for_test a b n = no_node (on a (on_row of_so_far initial_row b (before_rest fixed.Semicolon n)))

pub no_for_update : {v : Surroundings} {x x1 x2 x3 : Place} {i e : Tree} {o : Fault} → Only so_far v (Fixed (pun "(")) x nothing x1 → OnlyRow so_far v initial_row x1 (part i none) x2 → OnlyRow so_far v (clause_row fixed.Semicolon) x2 (part e none) x3 → NoRow so_far v (clause_row fixed.Close) x3 o → NoNode so_far v (tail (row_so_far (statement For))) (statement For) x o
no_for_update a b c n = no_node (on a (on_row of_so_far initial_row b (on_row of_so_far (clause_row fixed.Semicolon) c (before_rest fixed.Close n))))

pub no_for_body : {v u : Surroundings} {x x1 x2 x3 x4 : Place} {i e d : Tree} {o : Fault} → u ≡ enter none InLoop v → Only so_far v (Fixed (pun "(")) x nothing x1 → OnlyRow so_far v initial_row x1 (part i none) x2 → OnlyRow so_far v (clause_row fixed.Semicolon) x2 (part e none) x3 → OnlyRow so_far v (clause_row fixed.Close) x3 (part d none) x4
    → Barred so_far u (Part SubStmt) x4 o → NoNode so_far v (tail (row_so_far (statement For))) (statement For) x o
no_for_body i a b c d n = no_node (on a (on_row of_so_far initial_row b (on_row of_so_far (clause_row fixed.Semicolon) c (on_row of_so_far (clause_row fixed.Close) d (bar (barred_in i n))))))
