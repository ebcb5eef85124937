use Rattle.std.proofs.Common.{refl}
use Rattle.jsx_tree.proofs.Rows.Steps.{on}
use Rattle.jsx_tree.proofs.Rows.Lists.{ended}
use Rattle.jsx_operand.proofs.Places.{spans_from}
use Rattle.jsx_operand.proofs.Steps.{passed, passed_in}
use Rattle.jsx_operand.proofs.Templates.{template_follows, no_template_begins, quoted_there, template_as}
use Rattle.jsx_operand.proofs.Placing.{placed_as}
use Rattle.jsx_member.proofs.Parts.{deep_quoted}
use Rattle.jsx_member.proofs.grammar.Brackets.untagged.Goals as goal

pub returns-clause-read : goal.returns-clause-read
returns-clause-read g c = template_as c.in_ok-template.ensures.view (template_follows c.in_ok-read.ensures.read c.in_ok-read.ensures.ended)

pub returns-in_err-levels-clause-refused : goal.returns-in_err-levels-clause-refused
returns-in_err-levels-clause-refused g c = passed _ c.in_err-levels.ensures.refused c.from_residual.ensures.1 (λ b. deep_quoted (quoted_there c.args.lexer.now c.requires.quoted) b)

pub returns-in_err-read-clause-refused : goal.returns-in_err-read-clause-refused
returns-in_err-read-clause-refused g c = passed_in _ c.in_ok-levels.ensures.levels c.in_err-read.ensures.refused c.from_residual-in_err-read.ensures.1 (λ n. no_template_begins (quoted_there c.args.lexer.now c.requires.quoted) n)

pub returns-clause-span : goal.returns-clause-span
returns-clause-span g c = spans_from c.span_to-span.ensures c.in_ok-template.ensures.span c.in_ok-read.ensures.begins refl

pub returns-clause-placed : goal.returns-clause-placed
returns-clause-placed g c = placed_as c.in_ok-template.ensures.told c.in_ok-template.ensures.view (c.in_ok-read.ensures.placed.on _ (spans_from c.span_to-span.ensures refl c.in_ok-read.ensures.begins refl))
