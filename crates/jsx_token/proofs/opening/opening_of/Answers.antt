use Rattle.std.proofs.Common.{sym}
use Rattle.std.specs.Str.{chars}
use Rattle.jsx_token.proofs.OpeningTokens.{opening_left}
use Rattle.jsx_token.proofs.opening.opening_of.Goals as goal

pub returns-in_default : goal.returns-in_default
returns-in_default c = sym (opening_left c.args.token.now.kind (chars c.args.token.now.raw.now) c.in_default.not-Plus c.in_default.not-Minus c.in_default.not-Tilde c.in_default.not-Not c.in_default.not-PlusPlus c.in_default.not-MinusMinus c.in_default.not-LeftParen c.in_default.not-LeftBracket c.in_default.not-LeftBrace c.in_default.not-IdentifierName)
