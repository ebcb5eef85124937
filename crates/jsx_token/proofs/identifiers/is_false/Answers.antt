use Rattle.std.proofs.Common.{◌∙◌}
use Rattle.jsx_token.proofs.Spellings.{same_false}
use Rattle.jsx_token.proofs.identifiers.is_false.Goals as goal

pub returns : goal.returns
returns c = c.is_same.ensures ∙ same_false c.args.name.now c.utf8.name
