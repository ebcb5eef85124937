use Rattle.jsx_token.proofs.Words.{is_equals}
use Rattle.jsx_token.proofs.characters.is_equals.Goals as goal
use Rattle.std.proofs.Common.{◌∙◌}

pub returns : goal.returns
returns c = c.is_same.ensures ∙ is_equals c.args.raw.now c.utf8.raw
