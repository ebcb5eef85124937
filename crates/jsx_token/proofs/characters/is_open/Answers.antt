use Rattle.jsx_token.proofs.Words.{is_open}
use Rattle.jsx_token.proofs.characters.is_open.Goals as goal
use Rattle.std.proofs.Common.{◌∙◌}

pub returns : goal.returns
returns c = c.is_same.ensures ∙ is_open c.args.raw.now c.utf8.raw
