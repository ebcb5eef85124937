use Rattle.std.proofs.Common.{◌∙◌}
use Rattle.jsx_token.proofs.TakingHeadings.{words_chars}
use Rattle.jsx_token.proofs.heading.word.Goals as goal

pub returns : goal.returns
returns c = c.reserved.ensures ∙ words_chars c.args.raw.now c.utf8.raw
