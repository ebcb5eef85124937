use Rattle.std.proofs.Common.{◌∙◌}
use Rattle.jsx_token.proofs.Spellings.{same_null}
use Rattle.jsx_token.proofs.identifiers.is_null.Goals as goal

pub returns : goal.returns
returns c = c.is_same.ensures ∙ same_null c.args.name.now c.utf8.name
