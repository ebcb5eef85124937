-- What goes on with an expression to the right, what one begins with, and how tightly each binds.
use Rattle.std.specs.Prelude.{◌≡◌, ℕ, List, [], ◌∷◌, Bool, true, false, not, nat_le, nat_eq, IsTrue, ◌&&◌, ◌||◌}
use Rattle.jsx_base.specs.Token.{Operator, NoToken, is_kind, same, kind_number}
use Rattle.jsx_tree.specs.Signs.{AfterBlock, AfterExpr, Sign, Semicolon, Tok, SameLine}
use Rattle.jsx_tree.specs.Kinds.{BinaryOp, Nullish, Exponentiate, ExpressionKind, Seq, Assign, OpAssign, Arrow, ArrowBlock, BareArrow, BareArrowBlock, Cond, Binary, Unary, PrefixUpdate, PostfixUpdate, Call, Member, Index, Chain, New, NewWithoutArguments, ImportCall, Array, Object, Parenthesized, SuperCall, FunctionExpr, ClassExpr, Kind, function, expression}
use Rattle.jsx_tree.specs.Nonterminals.{Nonterminal, Expr, NewCallee, ChainLink, level_of}
use Rattle.jsx_tree.specs.Form.{calls}
use Rattle.jsx_tree.specs.Grammar.{OneOrMore, Fixed, Many, key, pun}
use Rattle.jsx_tree.specs.Reading.{Place, Lost, At, forth}
use Rattle.jsx_tree.specs.Walk.{Piece, piece, tail}
use Rattle.jsx_token.specs.Marks.{row_so_far}
use Rattle.jsx_tree.specs.ViewOperators.{assign_of, binary_of, unary_of, step_of}
use Rattle.jsx_token.specs.declared.growth.Growth as code
use Rattle.jsx_token.specs.declared.growth.Growth.TheVariants as growth
use Rattle.jsx_token.specs.declared.opening.Opening as opening_code
use Rattle.jsx_token.specs.declared.opening.Opening.TheVariants as opening

abbrev pub growth_kind : code.Growth → Kind
growth_kind (growth.Binary o) = expression (Binary (binary_of o))
growth_kind growth.Assign = expression Assign
growth_kind (growth.OpAssign o) = expression (OpAssign (assign_of o))
growth_kind growth.Cond = expression Cond
growth_kind growth.Call = expression Call
growth_kind growth.Member = expression Member
growth_kind growth.Index = expression Index
growth_kind growth.Chain = expression Chain
growth_kind (growth.Update o) = expression (PostfixUpdate (step_of o))

-- the sign that a row begins with, and the one with which a kind goes on behind its first part; the first link of a chain begins with `?.`
abbrev pub lead : List Piece → Sign
lead (piece a (Fixed s) ∷ ps) = s
lead (piece a (Many OneOrMore ChainLink) ∷ ps) = pun "?."
lead ps = Semicolon

-- whether it stands on the line of that part
abbrev pub begins_line : List Piece → Bool
begins_line (piece [] (Fixed SameLine) ∷ ps) = true
begins_line ps = false

abbrev pub on_line : Kind → Bool
on_line k = begins_line (tail (row_so_far k))

abbrev pub past_line : List Piece → List Piece
past_line (piece [] (Fixed SameLine) ∷ ps) = ps
past_line ps = ps

abbrev pub mark : Kind → Sign
mark k = lead (past_line (tail (row_so_far k)))

-- where the mark stands on the line that it has to stand on
pub record OnLine (k : Kind) (x : Place) : Type 0 where
  pub stays : IsTrue (on_line k) → forth SameLine x ≡ x

-- ---- signs by their texts and kinds

abbrev pub same_sign : Sign → Sign → Bool
same_sign (Tok m k t) (Tok l j u) = nat_eq (kind_number k) (kind_number j) && same t u
same_sign s u = false

abbrev pub has_sign : Sign → List Sign → Bool
has_sign s [] = false
has_sign s (u ∷ us) = same_sign s u || has_sign s us

-- a token of code with a text
abbrev pub is_code : Sign → Bool
is_code (Tok Operator k (d ∷ t)) = not (is_kind NoToken k)
is_code s = false

-- the levels at which a parser asks for an expression that is no sequence
abbrev pub levels : List ℕ
levels = 1 ∷ 5 ∷ 6 ∷ 7 ∷ 8 ∷ 9 ∷ 10 ∷ 11 ∷ 12 ∷ 13 ∷ 14 ∷ 15 ∷ 17 ∷ []

abbrev pub any_number : ℕ → List ℕ → Bool
any_number n [] = false
any_number n (m ∷ ms) = nat_eq n m || any_number n ms

abbrev pub is_level : ℕ → Bool
is_level n = any_number n levels

-- the level of an expression, up to that of what may be called or have members
abbrev pub level_of_expression : ExpressionKind → ℕ
level_of_expression Seq = 0
level_of_expression Assign = 1
level_of_expression (OpAssign o) = 1
level_of_expression Arrow = 1
level_of_expression ArrowBlock = 1
level_of_expression BareArrow = 1
level_of_expression BareArrowBlock = 1
level_of_expression Cond = 2
level_of_expression (Binary o) = level_of o
level_of_expression (Unary o) = 15
level_of_expression (PrefixUpdate o) = 16
level_of_expression (PostfixUpdate o) = 16
level_of_expression NewWithoutArguments = 17
level_of_expression Chain = 17
level_of_expression k = 18

abbrev pub level_of_kind : Kind → ℕ
level_of_kind (expression k) = level_of_expression k
level_of_kind k = 18

-- the level that the left side of an operator has at least; of `??` also another `??`
abbrev pub left_level : BinaryOp → ℕ
left_level Nullish = 6
left_level Exponentiate = 16
left_level o = level_of o

-- whether an expression of this level may stand at the left of what goes on with it: level 3 is another `??`
abbrev pub fits_by : Kind → ℕ → Bool
fits_by (expression (Binary o)) n = nat_le (left_level o) n || (nat_eq n 3 && nat_eq (level_of o) 3)
fits_by (expression Cond) n = nat_le 3 n
fits_by (expression BareArrow) n = false
fits_by (expression BareArrowBlock) n = false
fits_by k n = nat_le 18 n

-- what goes on by links, the first of which begins with its mark
abbrev pub is_chain : Kind → Bool
is_chain (expression Chain) = true
is_chain k = false

-- ---- where an expression is read that is no sequence

-- from a level on, or what `new` stands before
pub data Rung : Type 0 where
  rung : ℕ → Rung
  callee : Rung

abbrev pub is_rung : Rung → Bool
is_rung (rung n) = is_level n
is_rung callee = true

abbrev pub seat : Rung → Nonterminal
seat (rung n) = Expr n
seat callee = NewCallee

-- the level of what goes on with an expression there, as the grammar asks it of the place
abbrev pub asked : Rung → ℕ
asked (rung n) = n
asked callee = 100

-- and the least level of what stands there
abbrev pub least : Rung → ℕ
least (rung n) = n
least callee = 17

-- which kinds may stand there, if what they begin with may
abbrev pub reaches : Rung → Kind → Bool
reaches (rung n) k = nat_le n (level_of_kind k)
reaches callee k = nat_le 17 (level_of_kind k) && not (calls k)

-- behind a token, where the next one is an operator
abbrev pub settled : Place → Bool
settled (At q AfterExpr text) = not (same q [])
settled x = false

-- behind the block of an arrow function, with which nothing but a comma goes on
abbrev pub is_blocked : Place → Bool
is_blocked (At q AfterBlock text) = true
is_blocked x = false

-- behind an expression of the level of assignments
abbrev pub closed : Place → Bool
closed (At q AfterBlock text) = not (same q [])
closed x = settled x

-- ---- what an expression begins with that is neither a literal nor an element

-- a kind that begins so
abbrev pub opening_kind : opening_code.Opening → Kind
opening_kind opening.Import = expression ImportCall
opening_kind opening.New = expression New
opening_kind opening.Paren = expression Parenthesized
opening_kind opening.Array = expression Array
opening_kind opening.Object = expression Object
opening_kind opening.Function = function FunctionExpr
opening_kind opening.Class = function ClassExpr
opening_kind opening.Super = expression SuperCall
opening_kind (opening.Unary o) = expression (Unary (unary_of o))
opening_kind (opening.Update o) = expression (PrefixUpdate (step_of o))

-- the sign with which its row begins
abbrev pub opening_sign : Kind → Sign
opening_sign k = lead (row_so_far k)

-- these signs
unfoldable pub opening_signs : List Sign
opening_signs = key "class" ∷ key "super" ∷ key "function" ∷ key "new" ∷ key "import" ∷ key "delete" ∷ key "void" ∷ key "typeof" ∷ pun "+" ∷ pun "-" ∷ pun "~" ∷ pun "!" ∷ pun "++" ∷ pun "--" ∷ pun "(" ∷ pun "[" ∷ pun "{" ∷ []

-- none of them stands there
pub record NoOpening (x : Place) : Type 0 where
  pub on : (s : Sign) → is_code s ≡ true → has_sign s opening_signs ≡ true → forth s x ≡ Lost
