use Rattle.jsx_token.proofs.Words.{is_comma}
use Rattle.jsx_token.proofs.characters.is_comma.Goals as goal
use Rattle.std.proofs.Common.{◌∙◌}

pub returns : goal.returns
returns c = c.is_same.ensures ∙ is_comma c.args.raw.now c.utf8.raw
