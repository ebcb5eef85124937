use Rattle.jsx_token.proofs.Words.{is_typeof}
use Rattle.jsx_token.proofs.characters.is_typeof.Goals as goal
use Rattle.std.proofs.Common.{◌∙◌}

pub returns : goal.returns
returns c = c.is_same.ensures ∙ is_typeof c.args.word.now c.utf8.word
