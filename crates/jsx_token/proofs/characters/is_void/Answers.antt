use Rattle.jsx_token.proofs.Words.{is_void}
use Rattle.jsx_token.proofs.characters.is_void.Goals as goal
use Rattle.std.proofs.Common.{◌∙◌}

pub returns : goal.returns
returns c = c.is_same.ensures ∙ is_void c.args.word.now c.utf8.word
