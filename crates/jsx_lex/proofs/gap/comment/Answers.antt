use Rattle.std.specs.Str.{chars}
use Rattle.jsx_lex.proofs.Gaps.{block_leads, block_open}
use Rattle.jsx_lex.proofs.gap.comment.Goals as goal

pub returns-in-Some-past_block-clause-is : goal.returns-in-Some-past_block-clause-is
returns-in-Some-past_block-clause-is c =
    block_leads (chars c.args.text.now) _ (chars c.in-Some-past_block.behind.rest.now) c.in-Some-past_block.behind.has_new_line c.in-Some-after.ensures.chars_are c.in-Some-past_block.ensures.leads

pub returns-in-None-clause-is : goal.returns-in-None-clause-is
returns-in-None-clause-is c = block_open (chars c.args.text.now) _ c.in-Some-after.ensures.chars_are c.in-None.ensures.leads
