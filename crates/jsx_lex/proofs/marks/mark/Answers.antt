use Rattle.std.specs.Str.{chars}
use Rattle.jsx_lex.proofs.MarkLaws.{single_is, no_mark}
use Rattle.jsx_lex.proofs.marks.mark.Goals as goal

pub returns-in-Some-clause-mark : goal.returns-in-Some-clause-mark
returns-in-Some-clause-mark c = single_is c.args.c c.in-Some.kind _ c.in-Some.ensures

pub returns-clause-mark : goal.returns-clause-mark
returns-clause-mark c = no_mark c.args.c (chars c.args.text.now) c.in_default.ensures c.in_default-choice.ensures.mark c.in_default-comparison.ensures.mark c.in_default-arithmetic.ensures.mark
