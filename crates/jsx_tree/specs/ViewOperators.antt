-- The operators of the code as those of the grammar.
use Rattle.jsx_tree.specs.Kinds.{BinaryOp, Nullish, Or, And, BitOr, BitXor, BitAnd, Equal, Unequal, StrictEqual, StrictUnequal, Less, Greater, AtMost, AtLeast, InOp, InstanceOf, ShiftLeft, ShiftRight, ShiftOut, Add, Subtract, Multiply, Divide, Remainder, Exponentiate, UnaryOp, Delete, Void, TypeOf, Positive, Negative, Complement, Not, UpdateOp, Increment, Decrement, ExpressionKind, PrefixUpdate, PostfixUpdate}
use Rattle.jsx_tree.specs.declared.operator.BinaryOp as declared
use Rattle.jsx_tree.specs.declared.operator.BinaryOp.TheVariants as binary
use Rattle.jsx_tree.specs.declared.operator.BitOp.{BitOp}
use Rattle.jsx_tree.specs.declared.operator.BitOp.TheVariants as bit
use Rattle.jsx_tree.specs.declared.operator.EqualityOp.{EqualityOp}
use Rattle.jsx_tree.specs.declared.operator.EqualityOp.TheVariants as equality
use Rattle.jsx_tree.specs.declared.operator.RelationOp.{RelationOp}
use Rattle.jsx_tree.specs.declared.operator.RelationOp.TheVariants as relation
use Rattle.jsx_tree.specs.declared.operator.ShiftOp.{ShiftOp}
use Rattle.jsx_tree.specs.declared.operator.ShiftOp.TheVariants as shift
use Rattle.jsx_tree.specs.declared.operator.SumOp.{SumOp}
use Rattle.jsx_tree.specs.declared.operator.SumOp.TheVariants as sum
use Rattle.jsx_tree.specs.declared.operator.ProductOp.{ProductOp}
use Rattle.jsx_tree.specs.declared.operator.ProductOp.TheVariants as product
use Rattle.jsx_tree.specs.declared.operator.AssignOp.{AssignOp}
use Rattle.jsx_tree.specs.declared.operator.AssignOp.TheVariants as assign
use Rattle.jsx_tree.specs.declared.operator.UnaryOp as declared_unary
use Rattle.jsx_tree.specs.declared.operator.UnaryOp.TheVariants as unary
use Rattle.jsx_tree.specs.declared.operator.UpdateOp as declared_update
use Rattle.jsx_tree.specs.declared.operator.UpdateOp.TheVariants as update
use Rattle.jsx_tree.specs.declared.operator.UpdateSide.{UpdateSide}
use Rattle.jsx_tree.specs.declared.operator.UpdateSide.TheVariants as side

abbrev pub bit_of : BitOp → BinaryOp
bit_of bit.Or = BitOr
bit_of bit.Xor = BitXor
bit_of bit.And = BitAnd

abbrev pub equality_of : EqualityOp → BinaryOp
equality_of equality.Equal = Equal
equality_of equality.Unequal = Unequal
equality_of equality.StrictEqual = StrictEqual
equality_of equality.StrictUnequal = StrictUnequal

abbrev pub relation_of : RelationOp → BinaryOp
relation_of relation.Less = Less
relation_of relation.Greater = Greater
relation_of relation.AtMost = AtMost
relation_of relation.AtLeast = AtLeast
relation_of relation.In = InOp
relation_of relation.InstanceOf = InstanceOf

abbrev pub shift_of : ShiftOp → BinaryOp
shift_of shift.Left = ShiftLeft
shift_of shift.Right = ShiftRight
shift_of shift.Out = ShiftOut

abbrev pub sum_of : SumOp → BinaryOp
sum_of sum.Add = Add
sum_of sum.Subtract = Subtract

abbrev pub product_of : ProductOp → BinaryOp
product_of product.Multiply = Multiply
product_of product.Divide = Divide
product_of product.Remainder = Remainder

abbrev pub binary_of : declared.BinaryOp → BinaryOp
binary_of binary.Nullish = Nullish
binary_of binary.Or = Or
binary_of binary.And = And
binary_of (binary.Bit o) = bit_of o
binary_of (binary.Equality o) = equality_of o
binary_of (binary.Relation o) = relation_of o
binary_of (binary.Shift o) = shift_of o
binary_of (binary.Sum o) = sum_of o
binary_of (binary.Product o) = product_of o
binary_of binary.Exponentiate = Exponentiate

abbrev pub assign_of : AssignOp → BinaryOp
assign_of assign.Nullish = Nullish
assign_of assign.Or = Or
assign_of assign.And = And
assign_of (assign.Bit o) = bit_of o
assign_of (assign.Shift o) = shift_of o
assign_of (assign.Sum o) = sum_of o
assign_of (assign.Product o) = product_of o
assign_of assign.Exponentiate = Exponentiate

abbrev pub unary_of : declared_unary.UnaryOp → UnaryOp
unary_of unary.Delete = Delete
unary_of unary.Void = Void
unary_of unary.TypeOf = TypeOf
unary_of unary.Positive = Positive
unary_of unary.Negative = Negative
unary_of unary.Complement = Complement
unary_of unary.Not = Not

abbrev pub step_of : declared_update.UpdateOp → UpdateOp
step_of update.Increment = Increment
step_of update.Decrement = Decrement

abbrev pub update_of : declared_update.UpdateOp → UpdateSide → ExpressionKind
update_of o side.Before = PrefixUpdate (step_of o)
update_of o side.After = PostfixUpdate (step_of o)
