use Rattle.jsx_token.proofs.Words.{is_right_brace}
use Rattle.jsx_token.proofs.characters.is_right_brace.Goals as goal
use Rattle.std.proofs.Common.{◌∙◌}

pub returns : goal.returns
returns c = c.is_same.ensures ∙ is_right_brace c.args.raw.now c.utf8.raw
