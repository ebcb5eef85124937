use Rattle.std.proofs.Common.{◌∙◌}
use Rattle.jsx_scope.proofs.Spellings.{same_async}
use Rattle.jsx_scope.proofs.text.is_async_word.Goals as goal

pub returns : goal.returns
returns c = c.eq.ensures ∙ same_async c.args.text.now c.utf8.text
