use Rattle.std.proofs.Common.{sym, ◌∙◌}
use Rattle.std.specs.Str.{chars}
use Rattle.jsx_token.proofs.GrowthTokens.{growth_left}
use Rattle.jsx_token.proofs.growth.growth_of.Goals as goal

pub returns-in_default : goal.returns-in_default
returns-in_default c = c.operator.ensures ∙ sym (growth_left c.args.token.now.kind (chars c.args.token.now.raw.now) c.in_default.not-Dot c.in_default.not-LeftParen c.in_default.not-LeftBracket c.in_default.not-QuestionDot c.in_default.not-Question c.in_default.not-Equal c.in_default.not-PlusPlus c.in_default.not-MinusMinus c.in_default.not-IdentifierName)
