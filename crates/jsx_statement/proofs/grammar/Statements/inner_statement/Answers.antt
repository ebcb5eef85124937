use Rattle.std.proofs.Common.{refl, sym, subst}
use Rattle.jsx_tree.specs.Grammar.{Part}
use Rattle.jsx_tree.specs.Nonterminals.{Stmt}
use Rattle.jsx_tree.specs.View.{view_stmt}
use Rattle.jsx_tree.specs.Walk.{one}
use Rattle.jsx_tree.specs.Answers.{Only}
use Rattle.jsx_tree.proofs.Rows.Bridge.{found_at}
use Rattle.jsx_token.specs.Here.{place_of}
use Rattle.jsx_operand.specs.Around.{around_of}
use Rattle.jsx_operand.specs.SoFar.{so_far}
use Rattle.jsx_operand.proofs.Placing.{placed_from}
use Rattle.jsx_operand.proofs.Steps.{passed}
use Rattle.jsx_statement.proofs.Inners.{barred_inner, no_inner, other_inner, strict_inner, inner_from}
use Rattle.jsx_statement.proofs.grammar.Statements.inner_statement.Goals as goal

pub returns-then-context-clause-inner : goal.returns-then-context-clause-inner
returns-then-context-clause-inner g c = strict_inner (around_of c.args.context.around) _ c.if-context.true

pub returns-in_err-statement-clause-refused : goal.returns-in_err-statement-clause-refused
returns-in_err-statement-clause-refused g c = passed _ c.in_err-statement.ensures.refused c.from_residual.ensures.1 (λ b. barred_inner b)

pub returns-then-take-clause-refused : goal.returns-then-take-clause-refused
returns-then-take-clause-refused g c = record { bars = λ _ _ _. no_inner c.if-context.false (found_at (sym (c.take.ensures.taken c.if-take.true)) refl) }

pub returns-clause-read : goal.returns-clause-read
returns-clause-read g c = subst (λ h. Only so_far (around_of c.args.context.around) (Part Stmt) (place_of h) (one (view_stmt c.in_ok-statement-2.field-0.value)) (place_of c.statement-2.new.lexer)) (c.take.ensures.stays c.if-take.false) c.in_ok-statement-2.ensures.read

pub returns-clause-inner : goal.returns-clause-inner
returns-clause-inner g c = other_inner (c.take.ensures.missing c.if-take.false) (returns-clause-read g c)

pub returns-clause-placed : goal.returns-clause-placed
returns-clause-placed g c = placed_from (c.take.ensures.stays c.if-take.false) c.in_ok-statement-2.ensures.placed

pub returns-in_err-statement-2-clause-refused : goal.returns-in_err-statement-2-clause-refused
returns-in_err-statement-2-clause-refused g c = passed _ c.in_err-statement-2.ensures.refused c.from_residual-in_err-statement-2.ensures.1 (λ b. inner_from (c.take.ensures.stays c.if-take.false) (barred_inner b))
