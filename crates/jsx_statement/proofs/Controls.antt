-- Loops by their conditions.
use Rattle.std.proofs.Common.{◌≡◌, refl}
use Rattle.std.specs.Prelude.{IsTrue}
use Rattle.jsx_tree.specs.Signs.{AfterDo, Ends}
use Rattle.jsx_tree.specs.Kinds.{Do, While, statement, Tree, node, none, part}
use Rattle.jsx_tree.specs.Nonterminals.{Expr, SubStmt}
use Rattle.jsx_tree.specs.Grammar.{InLoop, Fixed, Part, key, pun, semi}
use Rattle.jsx_tree.specs.Reading.{Place}
use Rattle.jsx_tree.specs.StaticRules.{Surroundings, enter}
use Rattle.jsx_tree.specs.Walk.{is_found, one, nothing, tail}
use Rattle.jsx_tree.specs.Answers.{Moves, Only, Barred, NoNode, BuiltNode}
use Rattle.jsx_tree.specs.Faults.{Fault}
use Rattle.jsx_tree.proofs.Tokens.{and_both}
use Rattle.jsx_tree.proofs.Rows.Laws.{end_found}
use Rattle.jsx_tree.proofs.Rows.Placing.{no_node}
use Rattle.jsx_tree.proofs.Rows.Steps.{bar, on, only_sign, built_4, built_7}
use Rattle.jsx_tree.proofs.Rows.Turns.{whole_of}
use Rattle.jsx_token.specs.Marks.{row_so_far}
use Rattle.jsx_operand.specs.SoFar.{so_far}
use Rattle.jsx_operand.proofs.OfSoFar.{of_so_far}
use Rattle.jsx_declaration.proofs.Statements.{plain_node}
use Rattle.jsx_declaration.proofs.Controls.{barred_in, only_in}

-- ---- loops: their bodies stand in one

pub while_built : {v u : Surroundings} {x x1 x2 x3 z : Place} {e s t : Tree} → u ≡ enter none InLoop v → Only so_far v (Fixed (pun "(")) x nothing x1 → Only so_far v (Part (Expr 0)) x1 (one e) x2 → Only so_far v (Fixed (pun ")")) x2 nothing x3 → Only so_far u (Part SubStmt) x3 (one s) z
    → t ≡ node (statement While) (part e (part s none)) → BuiltNode so_far v (tail (row_so_far (statement While))) (statement While) t x z
while_built i a b c d is = plain_node refl (λ ts h. and_both _ _ h refl) (built_4 (end_found of_so_far (whole_of d.past).reads) a b c (only_in i d) is)

pub no_while_body : {v u : Surroundings} {x x1 x2 x3 : Place} {e : Tree} {o : Fault} → u ≡ enter none InLoop v → Only so_far v (Fixed (pun "(")) x nothing x1 → Only so_far v (Part (Expr 0)) x1 (one e) x2 → Only so_far v (Fixed (pun ")")) x2 nothing x3 → Barred so_far u (Part SubStmt) x3 o
    → NoNode so_far v (tail (row_so_far (statement While))) (statement While) x o
no_while_body i a b c d = no_node (on a (on b (on c (bar (barred_in i d)))))

pub do_built : {v u : Surroundings} {x x1 x2 x3 x4 x5 x6 z : Place} {s e t : Tree} → u ≡ enter none InLoop v → Only so_far u (Part SubStmt) x (one s) x1 → Only so_far u (Fixed (key "while")) x1 nothing x2 → Only so_far u (Fixed (pun "(")) x2 nothing x3 → Only so_far u (Part (Expr 0)) x3 (one e) x4
    → Only so_far u (Fixed (pun ")")) x4 nothing x5 → Moves (Ends AfterDo) x5 x6 → Only so_far u semi x6 nothing z → IsTrue (is_found z) → t ≡ node (statement Do) (part s (part e none)) → BuiltNode so_far v (tail (row_so_far (statement Do))) (statement Do) t x z
do_built i a b c d e m g f is = plain_node refl (λ ts h. and_both _ _ h refl) (built_7 f (only_in i a) (only_in i b) (only_in i c) (only_in i d) (only_in i e) (only_sign m) (only_in i g) is)
