use Rattle.jsx_operand.proofs.Steps.{passed}
use Rattle.jsx_member.proofs.Sequences.{whole_barred}
use Rattle.jsx_member.proofs.grammar.Brackets.sequence.Goals as goal

pub returns-in_err-first-clause-refused : goal.returns-in_err-first-clause-refused
returns-in_err-first-clause-refused g c = passed _ c.in_err-first.ensures.refused c.from_residual.ensures.1 (λ b. whole_barred b)

pub returns-in_err-more_items-clause-refused : goal.returns-in_err-more_items-clause-refused
returns-in_err-more_items-clause-refused g c = passed _ c.in_err-more_items.ensures.refused c.from_residual-in_err-more_items.ensures.1 (λ n. n.no _ c.in_ok-first.ensures.read)

pub returns-clause-read : goal.returns-clause-read
returns-clause-read g c = c.in_ok-more_items.ensures.read.reads _ c.in_ok-first.ensures.read

pub returns-clause-span : goal.returns-clause-span
returns-clause-span g c = c.in_ok-more_items.ensures.read.spans _ c.in_ok-first.ensures.span

pub returns-clause-placed : goal.returns-clause-placed
returns-clause-placed g c = c.in_ok-more_items.ensures.read.placed _ c.in_ok-first.ensures.span c.in_ok-first.ensures.placed
