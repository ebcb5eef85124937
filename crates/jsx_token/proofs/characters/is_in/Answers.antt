use Rattle.jsx_token.proofs.Words.{is_in}
use Rattle.jsx_token.proofs.characters.is_in.Goals as goal
use Rattle.std.proofs.Common.{◌∙◌}

pub returns : goal.returns
returns c = c.is_same.ensures ∙ is_in c.args.word.now c.utf8.word
