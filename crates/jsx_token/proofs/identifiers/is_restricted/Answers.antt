use Rattle.std.proofs.Common.{◌∙◌}
use Rattle.jsx_token.proofs.Spellings.{any_restricted}
use Rattle.jsx_token.proofs.identifiers.is_restricted.Goals as goal

pub returns : goal.returns
returns c = c.contains.ensures.value ∙ any_restricted c.args.name.now c.utf8.name
