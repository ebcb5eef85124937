use Rattle.std.proofs.Common.{sym}
use Rattle.jsx_token.proofs.GrowthTokens.{mark_left}
use Rattle.jsx_token.proofs.growth.mark.Goals as goal

pub returns-in_default : goal.returns-in_default
returns-in_default c = sym (mark_left c.args.kind c.in_default.not-QuestionQuestion c.in_default.not-OrOr c.in_default.not-AndAnd c.in_default.not-Or c.in_default.not-Caret c.in_default.not-And c.in_default.not-EqualEqual c.in_default.not-NotEqual c.in_default.not-EqualEqualEqual c.in_default.not-NotEqualEqual c.in_default.not-Less c.in_default.not-Greater c.in_default.not-LessEqual c.in_default.not-GreaterEqual c.in_default.not-LessLess c.in_default.not-GreaterGreater c.in_default.not-GreaterGreaterGreater c.in_default.not-Plus c.in_default.not-Minus c.in_default.not-Star c.in_default.not-Slash c.in_default.not-Percent c.in_default.not-StarStar)
