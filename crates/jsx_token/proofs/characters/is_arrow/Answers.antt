use Rattle.jsx_token.proofs.Words.{is_arrow}
use Rattle.jsx_token.proofs.characters.is_arrow.Goals as goal
use Rattle.std.proofs.Common.{◌∙◌}

pub returns : goal.returns
returns c = c.is_same.ensures ∙ is_arrow c.args.token.now c.utf8.token
