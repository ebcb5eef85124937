use Rattle.std.proofs.Common.{◌∙◌}
use Rattle.jsx_token.proofs.Words.{is_proto}
use Rattle.jsx_token.proofs.identifiers.is_proto.Goals as goal

pub returns : goal.returns
returns c = c.is_same.ensures ∙ is_proto c.args.name.now c.utf8.name
