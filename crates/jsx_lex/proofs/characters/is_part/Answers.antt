use Rattle.std.proofs.Common.{refl}
use Rattle.jsx_base.specs.Token.{is_part}
use Rattle.jsx_lex.proofs.NameParts.{listed, name_parts}
use Rattle.jsx_lex.proofs.characters.is_part.Goals as goal

pub returns-then-c-lt128 : goal.returns-then-c-lt128
returns-then-c-lt128 c = listed is_part name_parts c.args.c refl c.if-c-lt128.true
