-- Unary expressions behind their operator, with the rule of `delete`.
use Rattle.std.proofs.Common.{◌≡◌, true, false, not, refl, sym, ◌∙◌, ap}
use Rattle.std.specs.Prelude.{IsTrue}
use Rattle.jsx_tree.specs.Kinds.{UnaryOp, Delete, Void, TypeOf, Positive, Negative, Complement, Not, Unary, expression, Tree, node, Forest, none, part}
use Rattle.jsx_tree.specs.Nonterminals.{Expr}
use Rattle.jsx_tree.specs.Grammar.{Part}
use Rattle.jsx_tree.specs.Reading.{Place}
use Rattle.jsx_tree.specs.StaticRules.{Surroundings, is_name}
use Rattle.jsx_tree.specs.Walk.{is_found, one, tail, tree, Walk, next, done, steady}
use Rattle.jsx_tree.specs.Language.{Whole}
use Rattle.jsx_tree.specs.Answers.{Only, NoNode, BuiltNode}
use Rattle.jsx_tree.specs.Faults.{Fault, Shallow, deepest}
use Rattle.jsx_tree.proofs.Tokens.{and_left, and_both}
use Rattle.jsx_tree.proofs.Apart.{clash}
use Rattle.jsx_tree.proofs.Rows.Stopping.{is_not}
use Rattle.jsx_tree.proofs.Rows.Steps.{then', end}
use Rattle.jsx_token.specs.Marks.{row_so_far}
use Rattle.jsx_operand.specs.SoFar.{so_far}
use Rattle.jsx_operand.specs.Climbing.{deletes_name}
use Rattle.jsx_token.proofs.Listed.{listed}
use Rattle.jsx_operand.proofs.Operators.{unary_built}
use Rattle.jsx_operand.proofs.Openings.{kept_behind}

pub unary_node : (o : UnaryOp) {v : Surroundings} {x z : Place} {u w : Tree} → deletes_name o u ≡ false → Only so_far v (Part (Expr 15)) x (one u) z → IsTrue (is_found z) → w ≡ node (expression (Unary o)) (part u none) → BuiltNode so_far v (tail (row_so_far (expression (Unary o)))) (expression (Unary o)) w x z
unary_node Delete {u = u} n q f is = record { parts = part u none; is = is; row = then' q (end f); keeps = and_both _ _ (ap not n) refl }
unary_node Void n q f is = kept_behind (expression (Unary Void)) (listed (expression (Unary Void)) refl refl refl) refl refl (unary_built Void q f is)
unary_node TypeOf n q f is = kept_behind (expression (Unary TypeOf)) (listed (expression (Unary TypeOf)) refl refl refl) refl refl (unary_built TypeOf q f is)
unary_node Positive n q f is = kept_behind (expression (Unary Positive)) (listed (expression (Unary Positive)) refl refl refl) refl refl (unary_built Positive q f is)
unary_node Negative n q f is = kept_behind (expression (Unary Negative)) (listed (expression (Unary Negative)) refl refl refl) refl refl (unary_built Negative q f is)
unary_node Complement n q f is = kept_behind (expression (Unary Complement)) (listed (expression (Unary Complement)) refl refl refl) refl refl (unary_built Complement q f is)
unary_node Not n q f is = kept_behind (expression (Unary Not)) (listed (expression (Unary Not)) refl refl refl) refl refl (unary_built Not q f is)

one_is : {t u : Tree} → one t ≡ one u → t ≡ u
one_is e = cc

-- a name that is deleted
pub no_deleted : {e : Fault} (o : UnaryOp) {v : Surroundings} {x z : Place} {u : Tree} → deletes_name o u ≡ true → Only so_far v (Part (Expr 15)) x (one u) z → NoNode so_far v (tail (row_so_far (expression (Unary o)))) (expression (Unary o)) x e
no_deleted {e = e} Delete {v} {x} {z} {u} d o = record { no = at }
  where
    at : (us : Forest) (w : Place) → Walk (Whole so_far) (steady v) (tail (row_so_far (expression (Unary Delete)))) x us w → so_far.keeps (expression (Unary Delete)) v us ≡ true → Shallow e (deepest us) → ⊥
    at us w (next (tree {t = t} q) (done f)) k s = clash (is_name t) (ap is_name (sym (one_is (o.alone _ _ (tree q)).0)) ∙ d) (is_not _ (and_left (not (is_name t)) _ k))
no_deleted _ d o = cc
