use Rattle.std.proofs.Common.{◌∙◌}
use Rattle.jsx_token.proofs.Words.{is_constructor}
use Rattle.jsx_token.proofs.identifiers.is_constructor.Goals as goal

pub returns : goal.returns
returns c = c.is_same.ensures ∙ is_constructor c.args.name.now c.utf8.name
