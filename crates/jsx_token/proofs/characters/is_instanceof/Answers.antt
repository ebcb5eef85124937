use Rattle.jsx_token.proofs.Words.{is_instanceof}
use Rattle.jsx_token.proofs.characters.is_instanceof.Goals as goal
use Rattle.std.proofs.Common.{◌∙◌}

pub returns : goal.returns
returns c = c.is_same.ensures ∙ is_instanceof c.args.word.now c.utf8.word
