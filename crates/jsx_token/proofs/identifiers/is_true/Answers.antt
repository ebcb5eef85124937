use Rattle.std.proofs.Common.{◌∙◌}
use Rattle.jsx_token.proofs.Spellings.{same_true}
use Rattle.jsx_token.proofs.identifiers.is_true.Goals as goal

pub returns : goal.returns
returns c = c.is_same.ensures ∙ same_true c.args.name.now c.utf8.name
