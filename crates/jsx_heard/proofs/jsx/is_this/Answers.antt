use Rattle.std.proofs.Common.{◌∙◌}
use Rattle.jsx_token.proofs.Spellings.{same_this}
use Rattle.jsx_heard.proofs.jsx.is_this.Goals as goal

pub returns : goal.returns
returns c = c.eq.ensures ∙ same_this c.args.name.now c.utf8.name
