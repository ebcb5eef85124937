use Rattle.std.specs.Str.{chars}
use Rattle.jsx_lex.proofs.Gaps.{graphic_over}
use Rattle.jsx_lex.proofs.gap.gap_part.Goals as goal

pub returns-then-c-ne47-clause-is : goal.returns-then-c-ne47-clause-is
returns-then-c-ne47-clause-is c = let range = c.if-is_ascii_graphic.ensures.cases in graphic_over c.args.c (chars c.args.text.now) range.0 range.1 c.if-c-ne47.true
