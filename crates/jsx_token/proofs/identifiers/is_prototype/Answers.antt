use Rattle.std.proofs.Common.{◌∙◌}
use Rattle.jsx_token.proofs.Words.{is_prototype}
use Rattle.jsx_token.proofs.identifiers.is_prototype.Goals as goal

pub returns : goal.returns
returns c = c.is_same.ensures ∙ is_prototype c.args.name.now c.utf8.name
