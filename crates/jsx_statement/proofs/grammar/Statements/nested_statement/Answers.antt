use Rattle.std.proofs.Common.{refl, sym, ◌∙◌, subst}
use Rattle.jsx_tree.specs.View.{view_stmt}
use Rattle.jsx_operand.specs.Around.{around_of}
use Rattle.jsx_statement.specs.Statements.{OnlyStatement}
use Rattle.jsx_token.specs.Headings.{NoHeading}
use Rattle.jsx_token.specs.Here.{place_of}
use Rattle.jsx_declaration.proofs.Statements.{subs}
use Rattle.jsx_statement.proofs.Statements.{headed_barred, headed_deep, headed_only, homeless_barred, lexical_home, nested_home, statement_from}
use Rattle.jsx_operand.proofs.Steps.{passed, passed_in}
use Rattle.jsx_statement.proofs.grammar.Statements.nested_statement.Goals as goal

pub unheaded-requires-clause-plain : goal.unheaded-requires-clause-plain
unheaded-requires-clause-plain g c = subst (λ h. NoHeading (place_of h)) (sym c.in_default.ensures.stays) c.in_default.ensures.missing

pub returns-in_default-clause-read : goal.returns-in_default-clause-read
returns-in_default-clause-read g c = (subst (λ h. OnlyStatement (around_of c.args.context.around) (place_of h) (view_stmt c.in_ok-unheaded.field-0.value) (place_of c.unheaded.new.lexer)) c.in_default.ensures.stays c.in_ok-unheaded.ensures.read).nested

pub returns-in_err-unheaded-clause-refused : goal.returns-in_err-unheaded-clause-refused
returns-in_err-unheaded-clause-refused g c = passed _ c.in_err-unheaded.ensures.refused c.from_residual.ensures.1 (λ n. (statement_from c.in_default.ensures.stays n).nested)

pub returns-clause-read : goal.returns-clause-read
returns-clause-read g c = headed_only subs c.in-Some.heading (nested_home c.in-Some.heading (sym c.is_lexical.ensures ∙ c.if-is_lexical.false)) (record { is = c.in-Some.ensures.taken; found = refl }) c.in_ok-headed.ensures.read

pub returns-in_err-levels-clause-refused : goal.returns-in_err-levels-clause-refused
returns-in_err-levels-clause-refused g c = passed _ c.in_err-levels.ensures.refused c.from_residual-in_err-levels.ensures.1 (λ b. headed_deep subs c.in-Some.heading (record { is = c.in-Some.ensures.taken; found = refl }) b)

pub returns-in_err-headed-clause-refused : goal.returns-in_err-headed-clause-refused
returns-in_err-headed-clause-refused g c = passed_in _ c.in_ok-levels.ensures.levels c.in_err-headed.ensures.refused c.from_residual-in_err-headed.ensures.1 (λ n. headed_barred subs c.in-Some.heading (record { is = c.in-Some.ensures.taken; found = refl }) n)

pub returns-then-is_lexical-clause-refused : goal.returns-then-is_lexical-clause-refused
returns-then-is_lexical-clause-refused g c = record { bars = λ _ _ _. homeless_barred subs c.in-Some.heading (lexical_home c.in-Some.heading (sym c.is_lexical.ensures ∙ c.if-is_lexical.true)) (record { is = c.in-Some.ensures.taken; found = refl }) }
