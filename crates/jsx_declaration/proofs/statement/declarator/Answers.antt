use Rattle.std.proofs.Common.{refl, sym, subst}
use Rattle.jsx_make.specs.NodeSpans.{pat_at}
use Rattle.jsx_token.specs.Places.{end_of, next_of}
use Rattle.jsx_operand.specs.Spans.{Spans}
use Rattle.jsx_declaration.proofs.Items.{no_binding}
use Rattle.jsx_operand.proofs.Steps.{passed}
use Rattle.jsx_operand.proofs.Places.{spans_from}
use Rattle.jsx_declaration.proofs.statement.declarator.Goals as goal

pub returns-in_err-target-clause-refused : goal.returns-in_err-target-clause-refused
returns-in_err-target-clause-refused g c = passed _ c.in_err-target.ensures.refused c.from_residual.ensures.1 (λ b. no_binding b)

pub returns-in_err-whole-clause-refused : goal.returns-in_err-whole-clause-refused
returns-in_err-whole-clause-refused g c = passed _ c.in_err-whole.ensures.refused c.from_residual-in_err-whole.ensures.1 (λ n. n.no _ c.in_ok-target.ensures.read)

pub returns-clause-read : goal.returns-clause-read
returns-clause-read g c = c.in_ok-whole.ensures.read.on _ c.in_ok-target.ensures.read

pub returns-clause-span : goal.returns-clause-span
returns-clause-span g c = spans_from c.in_ok-whole.ensures.span refl (c.start_of_pattern-lo.ensures.on _ _ (subst (λ p. Spans (pat_at p) (next_of c.args.lexer.now) (end_of c.binding.new.lexer)) (sym c.deref.ensures) c.in_ok-target.ensures.span)) refl

pub returns-clause-placed : goal.returns-clause-placed
returns-clause-placed g c = c.in_ok-whole.ensures.placed.on c.args.lexer.now (c.start_of_pattern-lo.ensures.on _ _ (subst (λ p. Spans (pat_at p) (next_of c.args.lexer.now) (end_of c.binding.new.lexer)) (sym c.deref.ensures) c.in_ok-target.ensures.span)) c.in_ok-target.ensures.placed
