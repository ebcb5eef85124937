use Rattle.std.proofs.Common.{◌∙◌}
use Rattle.jsx_token.proofs.Semicolons.{any_prefix}
use Rattle.jsx_token.proofs.semicolon.is_prefix.Goals as goal

pub returns : goal.returns
returns c = c.contains.ensures.value ∙ any_prefix c.args.raw.now c.utf8.raw
