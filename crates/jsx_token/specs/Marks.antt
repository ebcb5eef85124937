-- The signs with which what goes on with an expression begins, and what they end.
use Rattle.std.specs.Prelude.{ℕ, List, [], ◌∷◌, ◌++◌, codes, Bool, true, false, Option, Some, None, not, nat_eq, nat_le, ◌&&◌, ◌||◌}
use Rattle.jsx_base.specs.Token.{Text, Lexeme, Operator, Punctuator, NoSubstitution, TemplateHead, breaks, token, is_kind, is_token, among}
use Rattle.jsx_tree.specs.Signs.{Ending, AfterExpr, AfterBlock, AfterBinding, Sign, Tok}
use Rattle.jsx_tree.specs.Kinds.{BinaryOp, Nullish, Or, And, BitOr, BitXor, BitAnd, Equal, Unequal, StrictEqual, StrictUnequal, Less, Greater, AtMost, AtLeast, InOp, InstanceOf, ShiftLeft, ShiftRight, ShiftOut, Add, Subtract, Multiply, Divide, Remainder, Exponentiate, Kind}
use Rattle.jsx_tree.specs.Nonterminals.{Nonterminal, binary}
use Rattle.jsx_tree.specs.Grammar.{pun}
use Rattle.jsx_tree.specs.Reading.{Place, Lost, At, is_backquote}
use Rattle.jsx_tree.specs.Walk.{Piece, row}
use Rattle.jsx_tree.specs.Stops.{going, level_asked, quotes}
use Rattle.jsx_tree.specs.Grows.{operator_sign}

-- `+=`
abbrev pub assign_sign : BinaryOp → Sign
assign_sign o = Tok Operator Punctuator (binary o ++ codes "=")

-- the signs with which what goes on with an expression begins
unfoldable pub marks : List Sign
marks =
    pun "." ∷ pun "(" ∷ pun "[" ∷ pun "?." ∷ pun "?" ∷ operator_sign Nullish ∷ operator_sign Or ∷ operator_sign And ∷ operator_sign BitOr ∷ operator_sign BitXor ∷ operator_sign BitAnd ∷ operator_sign Equal ∷ operator_sign Unequal ∷ operator_sign StrictEqual ∷ operator_sign StrictUnequal ∷ operator_sign Less ∷ operator_sign Greater ∷ operator_sign AtMost ∷ operator_sign AtLeast ∷ operator_sign InOp ∷ operator_sign InstanceOf ∷ operator_sign ShiftLeft ∷ operator_sign ShiftRight ∷ operator_sign ShiftOut ∷ operator_sign Add ∷ operator_sign Subtract ∷ operator_sign Multiply ∷ operator_sign Divide ∷ operator_sign Remainder ∷ operator_sign Exponentiate ∷ pun "=" ∷ assign_sign Nullish ∷ assign_sign Or ∷ assign_sign And ∷ assign_sign BitOr ∷ assign_sign BitXor ∷ assign_sign BitAnd ∷ assign_sign ShiftLeft ∷ assign_sign ShiftRight ∷ assign_sign ShiftOut ∷ assign_sign Add ∷ assign_sign Subtract ∷ assign_sign Multiply ∷ assign_sign Divide ∷ assign_sign Remainder ∷ assign_sign Exponentiate ∷ pun "++" ∷ pun "--" ∷ []

-- those, the comma of a sequence, and the arrow of a function
abbrev pub goers : List Sign
goers = pun "," ∷ pun "=>" ∷ marks

abbrev pub is_sign : Lexeme → Sign → Bool
is_sign x (Tok m k t) = is_token x k t
is_sign x s = false

abbrev pub is_mark : Lexeme → List Sign → Bool
is_mark x [] = false
is_mark x (s ∷ ss) = is_sign x s || is_mark x ss

-- the token with which a template begins
abbrev pub is_quoted : Lexeme → Bool
is_quoted x = is_kind x.kind NoSubstitution || is_kind x.kind TemplateHead

-- those that go on on its line alone
abbrev pub steps : List Text
steps = codes "++" ∷ codes "--" ∷ []

-- which texts go on at a level; the flag says whether a line ends before the token
abbrev pub goes_at : ℕ → Bool → Text → Bool
goes_at n b t = among t (going n) || (nat_le n 16 && (not b && among t steps))

-- those of them that a parser takes as what goes on with an expression that is no sequence
abbrev pub grows_by_mark : ℕ → Bool → Lexeme → Bool
grows_by_mark n b x = goes_at n b x.raw && is_mark x marks

-- those of them go on that are signs
abbrev pub goes_by_mark : ℕ → Bool → Lexeme → Bool
goes_by_mark n b x = goes_at n b x.raw && is_mark x goers

-- no arrow of a function goes on at this level
abbrev pub unarrowed : ℕ → Lexeme → Bool
unarrowed n x = not (nat_le n 1) || not (is_sign x (pun "=>"))

-- and a template does, behind its tag
abbrev pub goes_by_quote : ℕ → Lexeme → Bool
goes_by_quote n x = quotes n && (is_backquote x.raw && is_quoted x)

-- those go on with an expression, and an initializer with what is bound
abbrev pub goes_on_so_far : Option ℕ → Ending → Bool → Lexeme → Bool
goes_on_so_far None e b x = false
goes_on_so_far (Some n) AfterExpr b x = goes_by_mark n b x || goes_by_quote n x
goes_on_so_far (Some n) AfterBlock b x = nat_eq n 0 && is_token x Punctuator (codes ",")
goes_on_so_far (Some n) AfterBinding b x = among x.raw (going n) && is_token x Punctuator (codes "=")
goes_on_so_far (Some n) e b x = false

abbrev pub ends_so_far : Nonterminal → Place → Bool
ends_so_far c Lost = true
ends_so_far c (At q e text) = not (goes_on_so_far (level_asked c) e (breaks text) (token Operator false text))

abbrev pub row_so_far : Kind → List Piece
row_so_far k = row false k
