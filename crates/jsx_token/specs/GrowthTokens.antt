-- Which tokens go on with an expression, and with which one begins.
use Rattle.std.specs.Prelude.{codes, cond, Option, Some, None}
use Rattle.jsx_base.specs.Token.{Text, same}
use Rattle.jsx_lex.specs.declared.token.TokenKind.{TokenKind}
use Rattle.jsx_lex.specs.declared.token.TokenKind.TheVariants as token
use Rattle.jsx_tree.specs.declared.operator.AssignOp.{AssignOp}
use Rattle.jsx_tree.specs.declared.operator.AssignOp.TheVariants as assign
use Rattle.jsx_tree.specs.declared.operator.BinaryOp.{BinaryOp}
use Rattle.jsx_tree.specs.declared.operator.BinaryOp.TheVariants as binary
use Rattle.jsx_tree.specs.declared.operator.BitOp.TheVariants as bit
use Rattle.jsx_tree.specs.declared.operator.EqualityOp.TheVariants as equality
use Rattle.jsx_tree.specs.declared.operator.RelationOp.TheVariants as relation
use Rattle.jsx_tree.specs.declared.operator.ShiftOp.TheVariants as shift
use Rattle.jsx_tree.specs.declared.operator.SumOp.TheVariants as sum
use Rattle.jsx_tree.specs.declared.operator.ProductOp.TheVariants as product
use Rattle.jsx_token.specs.declared.growth.Growth.{Growth}
use Rattle.jsx_token.specs.declared.growth.Growth.TheVariants as growth
use Rattle.jsx_tree.specs.declared.operator.UnaryOp.TheVariants as unary
use Rattle.jsx_tree.specs.declared.operator.UpdateOp.TheVariants as update
use Rattle.jsx_token.specs.declared.opening.Opening.{Opening}
use Rattle.jsx_token.specs.declared.opening.Opening.TheVariants as opening

abbrev pub binary_by : TokenKind → Option BinaryOp
binary_by token.QuestionQuestion = Some binary.Nullish
binary_by token.OrOr = Some binary.Or
binary_by token.AndAnd = Some binary.And
binary_by token.Or = Some (binary.Bit bit.Or)
binary_by token.Caret = Some (binary.Bit bit.Xor)
binary_by token.And = Some (binary.Bit bit.And)
binary_by token.EqualEqual = Some (binary.Equality equality.Equal)
binary_by token.NotEqual = Some (binary.Equality equality.Unequal)
binary_by token.EqualEqualEqual = Some (binary.Equality equality.StrictEqual)
binary_by token.NotEqualEqual = Some (binary.Equality equality.StrictUnequal)
binary_by token.Less = Some (binary.Relation relation.Less)
binary_by token.Greater = Some (binary.Relation relation.Greater)
binary_by token.LessEqual = Some (binary.Relation relation.AtMost)
binary_by token.GreaterEqual = Some (binary.Relation relation.AtLeast)
binary_by token.LessLess = Some (binary.Shift shift.Left)
binary_by token.GreaterGreater = Some (binary.Shift shift.Right)
binary_by token.GreaterGreaterGreater = Some (binary.Shift shift.Out)
binary_by token.Plus = Some (binary.Sum sum.Add)
binary_by token.Minus = Some (binary.Sum sum.Subtract)
binary_by token.Star = Some (binary.Product product.Multiply)
binary_by token.Slash = Some (binary.Product product.Divide)
binary_by token.Percent = Some (binary.Product product.Remainder)
binary_by token.StarStar = Some binary.Exponentiate
binary_by _ = None

abbrev pub word_by : Text → Option Growth
word_by t = cond (same t (codes "in")) (Some (growth.Binary (binary.Relation relation.In))) (cond (same t (codes "instanceof")) (Some (growth.Binary (binary.Relation relation.InstanceOf))) None)

abbrev pub assign_by : TokenKind → Option AssignOp
assign_by token.QuestionQuestionEqual = Some assign.Nullish
assign_by token.OrOrEqual = Some assign.Or
assign_by token.AndAndEqual = Some assign.And
assign_by token.OrEqual = Some (assign.Bit bit.Or)
assign_by token.CaretEqual = Some (assign.Bit bit.Xor)
assign_by token.AndEqual = Some (assign.Bit bit.And)
assign_by token.LessLessEqual = Some (assign.Shift shift.Left)
assign_by token.GreaterGreaterEqual = Some (assign.Shift shift.Right)
assign_by token.GreaterGreaterGreaterEqual = Some (assign.Shift shift.Out)
assign_by token.PlusEqual = Some (assign.Sum sum.Add)
assign_by token.MinusEqual = Some (assign.Sum sum.Subtract)
assign_by token.StarEqual = Some (assign.Product product.Multiply)
assign_by token.SlashEqual = Some (assign.Product product.Divide)
assign_by token.PercentEqual = Some (assign.Product product.Remainder)
assign_by token.StarStarEqual = Some assign.Exponentiate
assign_by _ = None

abbrev pub with_operator : Option BinaryOp → Option AssignOp → Option Growth
with_operator (Some o) a = Some (growth.Binary o)
with_operator None (Some o) = Some (growth.OpAssign o)
with_operator None None = None

abbrev pub growth_by : TokenKind → Text → Option Growth
growth_by token.Dot t = Some growth.Member
growth_by token.LeftParen t = Some growth.Call
growth_by token.LeftBracket t = Some growth.Index
growth_by token.QuestionDot t = Some growth.Chain
growth_by token.Question t = Some growth.Cond
growth_by token.Equal t = Some growth.Assign
growth_by token.PlusPlus t = Some (growth.Update update.Increment)
growth_by token.MinusMinus t = Some (growth.Update update.Decrement)
growth_by token.IdentifierName t = word_by t
growth_by k t = with_operator (binary_by k) (assign_by k)

-- ---- with which one begins

abbrev pub opening_word : Text → Option Opening
opening_word t = cond (same t (codes "void")) (Some (opening.Unary unary.Void)) (cond (same t (codes "typeof")) (Some (opening.Unary unary.TypeOf)) (cond (same t (codes "import")) (Some opening.Import) (cond (same t (codes "delete")) (Some (opening.Unary unary.Delete)) (cond (same t (codes "new")) (Some opening.New) (cond (same t (codes "function")) (Some opening.Function) (cond (same t (codes "class")) (Some opening.Class) (cond (same t (codes "super")) (Some opening.Super) None)))))))

abbrev pub opening_by : TokenKind → Text → Option Opening
opening_by token.Plus t = Some (opening.Unary unary.Positive)
opening_by token.Minus t = Some (opening.Unary unary.Negative)
opening_by token.Tilde t = Some (opening.Unary unary.Complement)
opening_by token.Not t = Some (opening.Unary unary.Not)
opening_by token.PlusPlus t = Some (opening.Update update.Increment)
opening_by token.MinusMinus t = Some (opening.Update update.Decrement)
opening_by token.LeftParen t = Some opening.Paren
opening_by token.LeftBracket t = Some opening.Array
opening_by token.LeftBrace t = Some opening.Object
opening_by token.IdentifierName t = opening_word t
opening_by _ t = None
