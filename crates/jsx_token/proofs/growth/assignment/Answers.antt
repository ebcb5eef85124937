use Rattle.std.proofs.Common.{sym}
use Rattle.jsx_token.proofs.GrowthTokens.{assign_left}
use Rattle.jsx_token.proofs.growth.assignment.Goals as goal

pub returns-in_default : goal.returns-in_default
returns-in_default c = sym (assign_left c.args.kind c.in_default.not-QuestionQuestionEqual c.in_default.not-OrOrEqual c.in_default.not-AndAndEqual c.in_default.not-OrEqual c.in_default.not-CaretEqual c.in_default.not-AndEqual c.in_default.not-LessLessEqual c.in_default.not-GreaterGreaterEqual c.in_default.not-GreaterGreaterGreaterEqual c.in_default.not-PlusEqual c.in_default.not-MinusEqual c.in_default.not-StarEqual c.in_default.not-SlashEqual c.in_default.not-PercentEqual c.in_default.not-StarStarEqual)
