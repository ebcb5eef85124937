-- The rows of the binary operators, and of what else goes on with an expression, behind their first sign.
use Rattle.std.proofs.Common.{◌≡◌, ℕ, true, [], ◌∷◌, refl, subst}
use Rattle.std.specs.Prelude.{IsTrue}
use Rattle.jsx_tree.specs.Kinds.{BinaryOp, Nullish, Or, And, BitOr, BitXor, BitAnd, Equal, Unequal, StrictEqual, StrictUnequal, Less, Greater, AtMost, AtLeast, InOp, InstanceOf, ShiftLeft, ShiftRight, ShiftOut, Add, Subtract, Multiply, Divide, Remainder, Exponentiate, UnaryOp, Delete, Void, TypeOf, Positive, Negative, Complement, Not, Unary, Binary, expression, Tree, node, none, part}
use Rattle.jsx_tree.specs.Nonterminals.{Expr}
use Rattle.jsx_tree.specs.Grammar.{Fixed, Part, operator, right_of}
use Rattle.jsx_tree.specs.Reading.{Place}
use Rattle.jsx_tree.specs.StaticRules.{Surroundings}
use Rattle.jsx_tree.specs.Walk.{is_found, one, piece, tail}
use Rattle.jsx_tree.specs.Answers.{Only, Barred, NoRow, Built}
use Rattle.jsx_tree.specs.Grows.{operator_sign}
use Rattle.jsx_tree.specs.Faults.{Fault}
use Rattle.jsx_token.specs.Marks.{row_so_far}
use Rattle.jsx_operand.specs.SoFar.{so_far}
use Rattle.jsx_operand.specs.Climbing.{behind}
use Rattle.jsx_tree.proofs.Rows.Steps.{bar, built_1}
use Rattle.jsx_token.specs.Growths.{is_level, mark}

pub behind_operator : (o : BinaryOp) → piece [] (Part (Expr (right_of o))) ∷ [] ≡ tail (tail (row_so_far (expression (Binary o))))
behind_operator Nullish = refl
behind_operator Or = refl
behind_operator And = refl
behind_operator BitOr = refl
behind_operator BitXor = refl
behind_operator BitAnd = refl
behind_operator Equal = refl
behind_operator Unequal = refl
behind_operator StrictEqual = refl
behind_operator StrictUnequal = refl
behind_operator Less = refl
behind_operator Greater = refl
behind_operator AtMost = refl
behind_operator AtLeast = refl
behind_operator InOp = refl
behind_operator InstanceOf = refl
behind_operator ShiftLeft = refl
behind_operator ShiftRight = refl
behind_operator ShiftOut = refl
behind_operator Add = refl
behind_operator Subtract = refl
behind_operator Multiply = refl
behind_operator Divide = refl
behind_operator Remainder = refl
behind_operator Exponentiate = refl

-- no mark of theirs has to stand on the line of what is before it
operator_behind : (o : BinaryOp) → tail (tail (row_so_far (expression (Binary o)))) ≡ behind (expression (Binary o))
operator_behind Nullish = refl
operator_behind _ = refl

pub built_operator : {v : Surroundings} {b y : Place} {t w : Tree} (o : BinaryOp) → Built so_far v (tail (tail (row_so_far (expression (Binary o))))) (expression (Binary o)) (part t) w b y → Built so_far v (behind (expression (Binary o))) (expression (Binary o)) (part t) w b y
built_operator {v} {b} {y} {t} {w} o n = subst (λ ps. Built so_far v ps (expression (Binary o)) (part t) w b y) (operator_behind o) n

pub no_operator : {v : Surroundings} {b : Place} {e : Fault} (o : BinaryOp) → NoRow so_far v (tail (tail (row_so_far (expression (Binary o))))) b e → NoRow so_far v (behind (expression (Binary o))) b e
no_operator {v} {b} {e = e} o n = subst (λ ps. NoRow so_far v ps b e) (operator_behind o) n

pub mark_is : (o : BinaryOp) → mark (expression (Binary o)) ≡ operator_sign o
mark_is Nullish = refl
mark_is Or = refl
mark_is And = refl
mark_is BitOr = refl
mark_is BitXor = refl
mark_is BitAnd = refl
mark_is Equal = refl
mark_is Unequal = refl
mark_is StrictEqual = refl
mark_is StrictUnequal = refl
mark_is Less = refl
mark_is Greater = refl
mark_is AtMost = refl
mark_is AtLeast = refl
mark_is InOp = refl
mark_is InstanceOf = refl
mark_is ShiftLeft = refl
mark_is ShiftRight = refl
mark_is ShiftOut = refl
mark_is Add = refl
mark_is Subtract = refl
mark_is Multiply = refl
mark_is Divide = refl
mark_is Remainder = refl
mark_is Exponentiate = refl

pub operator_is : (o : BinaryOp) → Fixed (operator_sign o) ≡ operator o
operator_is Nullish = refl
operator_is Or = refl
operator_is And = refl
operator_is BitOr = refl
operator_is BitXor = refl
operator_is BitAnd = refl
operator_is Equal = refl
operator_is Unequal = refl
operator_is StrictEqual = refl
operator_is StrictUnequal = refl
operator_is Less = refl
operator_is Greater = refl
operator_is AtMost = refl
operator_is AtLeast = refl
operator_is InOp = refl
operator_is InstanceOf = refl
operator_is ShiftLeft = refl
operator_is ShiftRight = refl
operator_is ShiftOut = refl
operator_is Add = refl
operator_is Subtract = refl
operator_is Multiply = refl
operator_is Divide = refl
operator_is Remainder = refl
operator_is Exponentiate = refl

pub right_is_level : (o : BinaryOp) → is_level (right_of o) ≡ true
right_is_level Nullish = refl
right_is_level Or = refl
right_is_level And = refl
right_is_level BitOr = refl
right_is_level BitXor = refl
right_is_level BitAnd = refl
right_is_level Equal = refl
right_is_level Unequal = refl
right_is_level StrictEqual = refl
right_is_level StrictUnequal = refl
right_is_level Less = refl
right_is_level Greater = refl
right_is_level AtMost = refl
right_is_level AtLeast = refl
right_is_level InOp = refl
right_is_level InstanceOf = refl
right_is_level ShiftLeft = refl
right_is_level ShiftRight = refl
right_is_level ShiftOut = refl
right_is_level Add = refl
right_is_level Subtract = refl
right_is_level Multiply = refl
right_is_level Divide = refl
right_is_level Remainder = refl
right_is_level Exponentiate = refl

pub binary_built : (o : BinaryOp) {v : Surroundings} {m : ℕ} {x z : Place} {t u w : Tree} → m ≡ right_of o → Only so_far v (Part (Expr m)) x (one u) z → IsTrue (is_found z) → w ≡ node (expression (Binary o)) (part t (part u none)) → Built so_far v (tail (tail (row_so_far (expression (Binary o))))) (expression (Binary o)) (part t) w x z
binary_built o {v} {x = x} {z = z} {t = t} {u = u} {w = w} e q f is = subst (λ ps. Built so_far v ps (expression (Binary o)) (part t) w x z) (behind_operator o) (built_1 f (subst (λ n. Only so_far v (Part (Expr n)) x (one u) z) e q) is)

pub binary_none : {d : Fault} (o : BinaryOp) {v : Surroundings} {m : ℕ} {x : Place} → m ≡ right_of o → Barred so_far v (Part (Expr m)) x d → NoRow so_far v (tail (tail (row_so_far (expression (Binary o))))) x d
binary_none {d = d} o {v} {x = x} e b = subst (λ ps. NoRow so_far v ps x d) (behind_operator o) (bar (subst (λ n. Barred so_far v (Part (Expr n)) x d) e b))

behind_prefix : (o : UnaryOp) → piece [] (Part (Expr 15)) ∷ [] ≡ tail (row_so_far (expression (Unary o)))
behind_prefix Delete = refl
behind_prefix Void = refl
behind_prefix TypeOf = refl
behind_prefix Positive = refl
behind_prefix Negative = refl
behind_prefix Complement = refl
behind_prefix Not = refl

pub unary_built : (o : UnaryOp) {v : Surroundings} {x z : Place} {u w : Tree} → Only so_far v (Part (Expr 15)) x (one u) z → IsTrue (is_found z) → w ≡ node (expression (Unary o)) (part u none) → Built so_far v (tail (row_so_far (expression (Unary o)))) (expression (Unary o)) (λ ts. ts) w x z
unary_built o {v} {x = x} {z = z} {w = w} q f is = subst (λ ps. Built so_far v ps (expression (Unary o)) (λ ts. ts) w x z) (behind_prefix o) (built_1 f q is)

pub unary_none : {e : Fault} (o : UnaryOp) {v : Surroundings} {x : Place} → Barred so_far v (Part (Expr 15)) x e → NoRow so_far v (tail (row_so_far (expression (Unary o)))) x e
unary_none {e = e} o {v} {x = x} b = subst (λ ps. NoRow so_far v ps x e) (behind_prefix o) (bar b)
