use Rattle.std.proofs.Common.{sym, subst}
use Rattle.jsx_tree.specs.Kinds.{ExprStmt, statement}
use Rattle.jsx_tree.specs.View.{view_stmt}
use Rattle.jsx_tree.specs.Answers.{BuiltNode}
use Rattle.jsx_operand.specs.Around.{around_of}
use Rattle.jsx_token.specs.Headings.{NoHeading}
use Rattle.jsx_token.specs.Here.{place_of}
use Rattle.jsx_token.specs.Marks.{row_so_far}
use Rattle.jsx_operand.specs.SoFar.{so_far}
use Rattle.jsx_statement.proofs.Labels.{deep_label, deep_name, labelled_statement, no_labelled, no_plain, plain_statement}
use Rattle.jsx_operand.proofs.Steps.{passed, passed_in}
use Rattle.jsx_statement.proofs.Statements.{node_from}
use Rattle.jsx_statement.proofs.grammar.Statements.unheaded.Goals as goal

pub expression_statement-requires-clause-plain : goal.expression_statement-requires-clause-plain
expression_statement-requires-clause-plain g c = subst (λ h. NoHeading (place_of h)) (sym c.in_default.ensures.stays) c.requires.plain

pub returns-in_default-clause-read : goal.returns-in_default-clause-read
returns-in_default-clause-read g c = plain_statement c.requires.plain c.in_default.ensures.missing
    (subst (λ h. BuiltNode so_far (around_of c.args.context.around) (row_so_far (statement ExprStmt)) (statement ExprStmt) (view_stmt c.in_ok-expression_statement.field-0.value) (place_of h) (place_of c.expression_statement.new.lexer)) c.in_default.ensures.stays c.in_ok-expression_statement.ensures.read)

pub returns-in_err-expression_statement-clause-refused : goal.returns-in_err-expression_statement-clause-refused
returns-in_err-expression_statement-clause-refused g c = passed _ c.in_err-expression_statement.ensures.refused c.from_residual.ensures.1
    (λ n. no_plain c.requires.plain c.in_default.ensures.missing (node_from c.in_default.ensures.stays n))

pub returns-clause-read : goal.returns-clause-read
returns-clause-read g c = labelled_statement c.in-Some.ensures.taken c.in_ok-labelled.ensures.read

pub returns-clause-placed : goal.returns-clause-placed
returns-clause-placed g c = c.in_ok-labelled.ensures.placed.on c.args.lexer.now c.in-Some.ensures.takes c.in-Some.ensures.place

pub returns-in_err-within_at-clause-refused : goal.returns-in_err-within_at-clause-refused
returns-in_err-within_at-clause-refused g c = passed _ c.in_err-within_at.ensures.refused c.from_residual-in_err-within_at.ensures.1 (λ b. deep_name c.in-Some.ensures.taken b)

pub returns-in_err-levels-clause-refused : goal.returns-in_err-levels-clause-refused
returns-in_err-levels-clause-refused g c = passed _ c.in_err-levels.ensures.refused c.from_residual-in_err-levels.ensures.1 (λ b. deep_label c.in-Some.ensures.taken b)

pub returns-in_err-labelled-clause-refused : goal.returns-in_err-labelled-clause-refused
returns-in_err-labelled-clause-refused g c = passed_in _ c.in_ok-levels.ensures.levels c.in_err-labelled.ensures.refused c.from_residual-in_err-labelled.ensures.1 (λ n. no_labelled c.in-Some.ensures.taken n)
