use Rattle.jsx_token.proofs.Words.{is_new}
use Rattle.jsx_token.proofs.characters.is_new.Goals as goal
use Rattle.std.proofs.Common.{◌∙◌}

pub returns : goal.returns
returns c = c.is_same.ensures ∙ is_new c.args.word.now c.utf8.word
