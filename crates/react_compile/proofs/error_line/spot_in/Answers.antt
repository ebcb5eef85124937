use Rattle.std.proofs.Common.{◌+◌, ap, ◌∙◌}
use Rattle.std.proofs.lemmas.Result.{MatchResult-at_ok}
use Rattle.std.specs.Str.{chars}
use Rattle.jsx_base.specs.Lines.{front, line_of, col_of}
use Rattle.react_compile.proofs.Refusals.{is_text}
use Rattle.react_compile.proofs.error_line.spot_in.Goals as goal

pub unwrap-text-requires : goal.unwrap-text-requires
unwrap-text-requires c = is_text _ _ _ c.requires.utf8 c.from_utf8.ensures.cases

pub returns-clause-line : goal.returns-clause-line
returns-clause-line c = c.spot_of.ensures.line ∙ ap (λ bs. line_of (front (chars bs) c.args.at)) (MatchResult-at_ok _ _ c.unwrap-text.result c.unwrap-text.ensures c.from_utf8.ensures.cases).0

pub returns-clause-column : goal.returns-clause-column
returns-clause-column c = c.spot_of.ensures.column ∙ ap (λ bs. col_of (front (chars bs) c.args.at) + 1) (MatchResult-at_ok _ _ c.unwrap-text.result c.unwrap-text.ensures c.from_utf8.ensures.cases).0
