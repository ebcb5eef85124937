use Rattle.std.proofs.Common.{Some, None, arith}
use Rattle.std.proofs.lemmas.Str.Pattern.{strip_suffix_char}
use Rattle.jsx_emit.proofs.Ends.{cut_at_end, cut_nothing}
use Rattle.jsx_emit.proofs.Long.{end_off_if, no_end_if}
use Rattle.jsx_emit.proofs.page.long.without_end.Goals as goal

pub returns-in-Some-clause-begins : goal.returns-in-Some-clause-begins
returns-in-Some-clause-begins c = end_off_if c.args.text.now c.in-Some.front.now c.from_str.result (strip_suffix_char 10 c.args.text.now (Some c.in-Some.front) c.in-Some.ensures.cases (omega arith)) c.from_str.ensures.ok

pub returns-in-Some-clause-cut : goal.returns-in-Some-clause-cut
returns-in-Some-clause-cut c = cut_at_end c.args.text.now c.in-Some.front.now c.from_str.result (strip_suffix_char 10 c.args.text.now (Some c.in-Some.front) c.in-Some.ensures.cases (omega arith)) c.from_str.ensures.ok

pub returns-in-None-clause-begins : goal.returns-in-None-clause-begins
returns-in-None-clause-begins c = no_end_if c.args.text.now c.from_str-in-None.result c.from_str-in-None.ensures.ok

pub returns-in-None-clause-cut : goal.returns-in-None-clause-cut
returns-in-None-clause-cut c = cut_nothing c.args.text.now c.from_str-in-None.result (strip_suffix_char 10 c.args.text.now None c.in-None.ensures.cases (omega arith))
