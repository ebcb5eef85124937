use Rattle.std.proofs.Common.{ap, ◌∙◌}
use Rattle.std.specs.Str.{bytes_eq}
use Rattle.jsx_token.proofs.Words.{is_reserved}
use Rattle.jsx_token.proofs.word.Word.is.Goals as goal

pub returns : goal.returns
returns c = c.is_same.ensures ∙ (ap (bytes_eq c.args.name.now) c.text.ensures ∙ is_reserved c.args.self c.args.name.now c.utf8.name)
