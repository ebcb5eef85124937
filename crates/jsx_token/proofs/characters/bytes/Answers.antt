use Rattle.std.proofs.Common.{sym}
use Rattle.jsx_base.proofs.FirstLine.{size-chars}
use Rattle.jsx_token.proofs.characters.bytes.Goals as goal

pub returns : goal.returns
returns c = sym (size-chars c.args.text.now c.utf8.text)
