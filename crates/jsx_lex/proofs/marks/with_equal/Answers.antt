use Rattle.jsx_lex.proofs.Endings.{ends_with_all}
use Rattle.jsx_lex.proofs.MarkLaws.{plain_is, longer_is}
use Rattle.jsx_lex.proofs.marks.with_equal.Goals as goal

pub returns-in-Some-clause-mark : goal.returns-in-Some-clause-mark
returns-in-Some-clause-mark c = longer_is c.args.plain c.args.longer _ _ c.requires c.in-Some.ensures.chars_are

pub returns-in-None-clause-mark : goal.returns-in-None-clause-mark
returns-in-None-clause-mark c = plain_is c.args.plain c.args.longer _ c.requires c.in-None.ensures

pub returns-in-None-clause-ends : goal.returns-in-None-clause-ends
returns-in-None-clause-ends c = ends_with_all _
