use Rattle.jsx_token.proofs.Words.{is_delete}
use Rattle.jsx_token.proofs.characters.is_delete.Goals as goal
use Rattle.std.proofs.Common.{◌∙◌}

pub returns : goal.returns
returns c = c.is_same.ensures ∙ is_delete c.args.word.now c.utf8.word
