-- The kinds of the language so far that stand where an expression does, in one list: what a test finds of all of them holds of each.
use Rattle.std.proofs.Common.{◌≡◌, ℕ, zero, suc, nat_eq, Bool, true, false, not, List, [], ◌∷◌, refl, sym, ◌∙◌, ap, subst}
use Rattle.std.specs.Prelude.{Option, Some, None, ◌&&◌}
use Rattle.std.proofs.lemmas.Bool.{eqb-true}
use Rattle.jsx_tree.specs.Kinds.{ConstWord, Imported, Exported, From, Module, Specifier, SpecifierAs, Var, Declarator, ExprStmt, Arrow, ArrowBlock, BareArrow, BareArrowBlock, Assign, OpAssign, BinaryOp, Nullish, Or, And, BitOr, BitXor, BitAnd, Equal, Unequal, StrictEqual, StrictUnequal, Less, Greater, AtMost, AtLeast, InOp, InstanceOf, ShiftLeft, ShiftRight, ShiftOut, Add, Subtract, Multiply, Divide, Remainder, Exponentiate, Void, TypeOf, Positive, Negative, Complement, Not, Unary, Binary, Cond, Call, Member, Index, New, NewWithoutArguments, NewTarget, ImportCall, ImportMeta, Parenthesized, Element, Kind, program, statement, expression, jsx, Delete, PrefixUpdate, PostfixUpdate, Increment, Decrement, Seq, Array, Object, Spread, ComputedKey, ParenTarget, Binds, Assigns, FunctionExpr, WithInit, RestPat, ArrayPat, ObjectPat, PropertyPat, ShorthandPat, ShorthandInit, RestProperty, function, PlainTemplate, SubstitutedTemplate, TemplateSpan, Tagged, Chain, NameLink, IndexLink, CallLink, InObject, InClass, Static, ClassExpr, Method, Getter, Setter, Field, SuperCall, SuperMember, SuperIndex}
use Rattle.jsx_tree.specs.Nonterminals.{homes}
use Rattle.jsx_token.specs.Stage.{has_kind}
use Rattle.jsx_tree.proofs.Tokens.{and_left, and_right}
use Rattle.jsx_tree.proofs.Rows.Stopping.{or_cases}
use Rattle.jsx_tree.proofs.Rows.Closers.{any_operand}
use Rattle.jsx_token.specs.Growths.{levels, any_number, is_level}

abbrev pub kinds : List Kind
kinds = expression Assign ∷ expression (OpAssign Nullish) ∷ expression (OpAssign Or) ∷ expression (OpAssign And) ∷ expression (OpAssign BitOr) ∷ expression (OpAssign BitXor) ∷ expression (OpAssign BitAnd) ∷ expression (OpAssign ShiftLeft) ∷ expression (OpAssign ShiftRight) ∷ expression (OpAssign ShiftOut) ∷ expression (OpAssign Add) ∷ expression (OpAssign Subtract) ∷ expression (OpAssign Multiply) ∷ expression (OpAssign Divide) ∷ expression (OpAssign Remainder) ∷ expression (OpAssign Exponentiate) ∷ expression (Binary Nullish) ∷ expression (Binary Or) ∷ expression (Binary And) ∷ expression (Binary BitOr) ∷ expression (Binary BitXor) ∷ expression (Binary BitAnd) ∷ expression (Binary Equal) ∷ expression (Binary Unequal) ∷ expression (Binary StrictEqual) ∷ expression (Binary StrictUnequal) ∷ expression (Binary Less) ∷ expression (Binary Greater) ∷ expression (Binary AtMost) ∷ expression (Binary AtLeast) ∷ expression (Binary InOp) ∷ expression (Binary InstanceOf) ∷ expression (Binary ShiftLeft) ∷ expression (Binary ShiftRight) ∷ expression (Binary ShiftOut) ∷ expression (Binary Add) ∷ expression (Binary Subtract) ∷ expression (Binary Multiply) ∷ expression (Binary Divide) ∷ expression (Binary Remainder) ∷ expression (Binary Exponentiate) ∷ expression Cond ∷ expression Call ∷ expression Member ∷ expression Index ∷ expression (Unary Void) ∷ expression (Unary TypeOf) ∷ expression (Unary Positive) ∷ expression (Unary Negative) ∷ expression (Unary Complement) ∷ expression (Unary Not) ∷ expression ImportCall ∷ expression Parenthesized ∷ expression (PrefixUpdate Increment) ∷ expression (PrefixUpdate Decrement) ∷ expression (PostfixUpdate Increment) ∷ expression (PostfixUpdate Decrement) ∷ expression (Unary Delete) ∷ jsx Element ∷ expression Array ∷ expression Object ∷ expression ImportMeta ∷ expression New ∷ expression NewWithoutArguments ∷ expression NewTarget ∷ expression (PlainTemplate false) ∷ expression (SubstitutedTemplate false) ∷ expression Tagged ∷ expression Chain ∷ function FunctionExpr ∷ function ClassExpr ∷ expression SuperCall ∷ expression SuperMember ∷ expression SuperIndex ∷ expression Arrow ∷ expression ArrowBlock ∷ expression BareArrow ∷ expression BareArrowBlock ∷ []

-- the place of a kind in the list
abbrev pub code : Kind → ℕ
code (expression Assign) = 0
code (expression (OpAssign Nullish)) = 1
code (expression (OpAssign Or)) = 2
code (expression (OpAssign And)) = 3
code (expression (OpAssign BitOr)) = 4
code (expression (OpAssign BitXor)) = 5
code (expression (OpAssign BitAnd)) = 6
code (expression (OpAssign ShiftLeft)) = 7
code (expression (OpAssign ShiftRight)) = 8
code (expression (OpAssign ShiftOut)) = 9
code (expression (OpAssign Add)) = 10
code (expression (OpAssign Subtract)) = 11
code (expression (OpAssign Multiply)) = 12
code (expression (OpAssign Divide)) = 13
code (expression (OpAssign Remainder)) = 14
code (expression (OpAssign Exponentiate)) = 15
code (expression (Binary Nullish)) = 16
code (expression (Binary Or)) = 17
code (expression (Binary And)) = 18
code (expression (Binary BitOr)) = 19
code (expression (Binary BitXor)) = 20
code (expression (Binary BitAnd)) = 21
code (expression (Binary Equal)) = 22
code (expression (Binary Unequal)) = 23
code (expression (Binary StrictEqual)) = 24
code (expression (Binary StrictUnequal)) = 25
code (expression (Binary Less)) = 26
code (expression (Binary Greater)) = 27
code (expression (Binary AtMost)) = 28
code (expression (Binary AtLeast)) = 29
code (expression (Binary InOp)) = 30
code (expression (Binary InstanceOf)) = 31
code (expression (Binary ShiftLeft)) = 32
code (expression (Binary ShiftRight)) = 33
code (expression (Binary ShiftOut)) = 34
code (expression (Binary Add)) = 35
code (expression (Binary Subtract)) = 36
code (expression (Binary Multiply)) = 37
code (expression (Binary Divide)) = 38
code (expression (Binary Remainder)) = 39
code (expression (Binary Exponentiate)) = 40
code (expression Cond) = 41
code (expression Call) = 42
code (expression Member) = 43
code (expression Index) = 44
code (expression (Unary Void)) = 45
code (expression (Unary TypeOf)) = 46
code (expression (Unary Positive)) = 47
code (expression (Unary Negative)) = 48
code (expression (Unary Complement)) = 49
code (expression (Unary Not)) = 50
code (expression ImportCall) = 51
code (expression Parenthesized) = 52
code (expression (PrefixUpdate Increment)) = 53
code (expression (PrefixUpdate Decrement)) = 54
code (expression (PostfixUpdate Increment)) = 55
code (expression (PostfixUpdate Decrement)) = 56
code (expression (Unary Delete)) = 57
code (jsx Element) = 58
code (expression Array) = 59
code (expression Object) = 60
code (expression ImportMeta) = 61
code (expression New) = 62
code (expression NewWithoutArguments) = 63
code (expression NewTarget) = 64
code (expression (PlainTemplate false)) = 65
code (expression (SubstitutedTemplate false)) = 66
code (expression Tagged) = 67
code (expression Chain) = 68
code (function FunctionExpr) = 69
code (function ClassExpr) = 70
code (expression SuperCall) = 71
code (expression SuperMember) = 72
code (expression SuperIndex) = 73
code (expression Arrow) = 74
code (expression ArrowBlock) = 75
code (expression BareArrow) = 76
code (expression BareArrowBlock) = 77
code k = 0

abbrev pub nth : ℕ → List Kind → Option Kind
nth n [] = None
nth zero (k ∷ ks) = Some k
nth (suc n) (k ∷ ks) = nth n ks

pub record Listed (k : Kind) : Type 0 where
  pub is : nth (code k) kinds ≡ Some k

pub listed_binary : (o : BinaryOp) → Listed (expression (Binary o))
listed_binary Nullish = record { is = refl }
listed_binary Or = record { is = refl }
listed_binary And = record { is = refl }
listed_binary BitOr = record { is = refl }
listed_binary BitXor = record { is = refl }
listed_binary BitAnd = record { is = refl }
listed_binary Equal = record { is = refl }
listed_binary Unequal = record { is = refl }
listed_binary StrictEqual = record { is = refl }
listed_binary StrictUnequal = record { is = refl }
listed_binary Less = record { is = refl }
listed_binary Greater = record { is = refl }
listed_binary AtMost = record { is = refl }
listed_binary AtLeast = record { is = refl }
listed_binary InOp = record { is = refl }
listed_binary InstanceOf = record { is = refl }
listed_binary ShiftLeft = record { is = refl }
listed_binary ShiftRight = record { is = refl }
listed_binary ShiftOut = record { is = refl }
listed_binary Add = record { is = refl }
listed_binary Subtract = record { is = refl }
listed_binary Multiply = record { is = refl }
listed_binary Divide = record { is = refl }
listed_binary Remainder = record { is = refl }
listed_binary Exponentiate = record { is = refl }

-- all but a sequence, a spread, a target in parentheses and a pattern in brackets that assigns, which stand in fewer places
abbrev pub is_apart : Kind → Bool
is_apart (expression Seq) = true
is_apart (expression Spread) = true
is_apart (function ParenTarget) = true
is_apart (function (ArrayPat Assigns)) = true
is_apart (function (ObjectPat Assigns)) = true
is_apart k = false

pub listed : (k : Kind) → has_kind k ≡ true → any_operand (homes k) ≡ true → is_apart k ≡ false → Listed k
listed (expression (Binary o)) h a s = listed_binary o
listed (expression Assign) h a s = record { is = refl }
listed (expression (OpAssign Nullish)) h a s = record { is = refl }
listed (expression (OpAssign Or)) h a s = record { is = refl }
listed (expression (OpAssign And)) h a s = record { is = refl }
listed (expression (OpAssign BitOr)) h a s = record { is = refl }
listed (expression (OpAssign BitXor)) h a s = record { is = refl }
listed (expression (OpAssign BitAnd)) h a s = record { is = refl }
listed (expression (OpAssign ShiftLeft)) h a s = record { is = refl }
listed (expression (OpAssign ShiftRight)) h a s = record { is = refl }
listed (expression (OpAssign ShiftOut)) h a s = record { is = refl }
listed (expression (OpAssign Add)) h a s = record { is = refl }
listed (expression (OpAssign Subtract)) h a s = record { is = refl }
listed (expression (OpAssign Multiply)) h a s = record { is = refl }
listed (expression (OpAssign Divide)) h a s = record { is = refl }
listed (expression (OpAssign Remainder)) h a s = record { is = refl }
listed (expression (OpAssign Exponentiate)) h a s = record { is = refl }
listed (expression Cond) h a s = record { is = refl }
listed (expression Arrow) h a s = record { is = refl }
listed (expression ArrowBlock) h a s = record { is = refl }
listed (expression BareArrow) h a s = record { is = refl }
listed (expression BareArrowBlock) h a s = record { is = refl }
listed (expression Call) h a s = record { is = refl }
listed (expression Member) h a s = record { is = refl }
listed (expression Index) h a s = record { is = refl }
listed (expression Chain) h a s = record { is = refl }
listed (expression (NameLink q)) h a s = cc
listed (expression (IndexLink q)) h a s = cc
listed (expression (CallLink q)) h a s = cc
listed (expression Tagged) h a s = record { is = refl }
listed (expression (Unary Void)) h a s = record { is = refl }
listed (expression (Unary TypeOf)) h a s = record { is = refl }
listed (expression (Unary Positive)) h a s = record { is = refl }
listed (expression (Unary Negative)) h a s = record { is = refl }
listed (expression (Unary Complement)) h a s = record { is = refl }
listed (expression (Unary Not)) h a s = record { is = refl }
listed (expression ImportCall) h a s = record { is = refl }
listed (expression ImportMeta) h a s = record { is = refl }
listed (expression New) h a s = record { is = refl }
listed (expression NewWithoutArguments) h a s = record { is = refl }
listed (expression NewTarget) h a s = record { is = refl }
listed (expression Parenthesized) h a s = record { is = refl }
listed (expression Array) h a s = record { is = refl }
listed (expression Object) h a s = record { is = refl }
listed (expression (PlainTemplate false)) h a s = record { is = refl }
listed (expression (SubstitutedTemplate false)) h a s = record { is = refl }
listed (expression (PlainTemplate true)) h a s = cc
listed (expression (SubstitutedTemplate true)) h a s = cc
listed (expression (TemplateSpan true)) h a s = cc
listed (expression (TemplateSpan false)) h a s = cc
listed (expression (PrefixUpdate Increment)) h a s = record { is = refl }
listed (expression (PrefixUpdate Decrement)) h a s = record { is = refl }
listed (expression (PostfixUpdate Increment)) h a s = record { is = refl }
listed (expression (PostfixUpdate Decrement)) h a s = record { is = refl }
listed (expression (Unary Delete)) h a s = record { is = refl }
listed (jsx Element) h a s = record { is = refl }
listed (function FunctionExpr) h a s = record { is = refl }
listed (function ClassExpr) h a s = record { is = refl }
listed (expression SuperCall) h a s = record { is = refl }
listed (expression SuperMember) h a s = record { is = refl }
listed (expression SuperIndex) h a s = record { is = refl }
listed (function (Method InObject)) h a s = cc
listed (function (Method InClass)) h a s = cc
listed (function (Method Static)) h a s = cc
listed (function (Getter InObject)) h a s = cc
listed (function (Getter InClass)) h a s = cc
listed (function (Getter Static)) h a s = cc
listed (function (Setter InObject)) h a s = cc
listed (function (Setter InClass)) h a s = cc
listed (function (Setter Static)) h a s = cc
listed (function (Field InObject)) h a s = cc
listed (function (Field InClass)) h a s = cc
listed (function (Field Static)) h a s = cc
listed (program (Specifier Imported)) h a s = cc
listed (program (Specifier Exported)) h a s = cc
listed (program (Specifier From)) h a s = cc
listed (program (SpecifierAs Imported)) h a s = cc
listed (program (SpecifierAs Exported)) h a s = cc
listed (program (SpecifierAs From)) h a s = cc
listed (function (WithInit Binds)) h a s = cc
listed (function (WithInit Assigns)) h a s = cc
listed (function (RestPat Binds)) h a s = cc
listed (function (RestPat Assigns)) h a s = cc
listed (function (ArrayPat Binds)) h a s = cc
listed (function (ArrayPat Assigns)) h a s = cc
listed (function (ObjectPat Binds)) h a s = cc
listed (function (ObjectPat Assigns)) h a s = cc
listed (function (PropertyPat Binds)) h a s = cc
listed (function (PropertyPat Assigns)) h a s = cc
listed (function (ShorthandPat Binds)) h a s = cc
listed (function (ShorthandPat Assigns)) h a s = cc
listed (function (ShorthandInit Binds)) h a s = cc
listed (function (ShorthandInit Assigns)) h a s = cc
listed (function (RestProperty Binds)) h a s = cc
listed (function (RestProperty Assigns)) h a s = cc
listed (program Module) h a s = cc
listed (function ComputedKey) h a s = cc
listed (statement (Var ConstWord)) h a s = cc
listed (statement Declarator) h a s = cc
listed (statement ExprStmt) h a s = cc
listed (expression Seq) h a s = cc
listed (expression Spread) h a s = cc
listed (function ParenTarget) h a s = cc
listed _ h a s = cc

some_is : {j k : Kind} → Some j ≡ Some k → j ≡ k
some_is e = cc

-- ---- tests over the list

abbrev pub every : (Kind → Bool) → List Kind → Bool
every p [] = true
every p (k ∷ ks) = p k && every p ks

at_place : (p : Kind → Bool) (ks : List Kind) (i : ℕ) {k : Kind} → every p ks ≡ true → nth i ks ≡ Some k → p k ≡ true
at_place p [] i a e = cc
at_place p (l ∷ ks) zero a e = subst (λ m. p m ≡ true) (some_is e) (and_left (p l) _ a)
at_place p (l ∷ ks) (suc i) a e = at_place p ks i (and_right (p l) _ a) e

pub of_each : (p : Kind → Bool) → every p kinds ≡ true → (k : Kind) → Listed k → p k ≡ true
of_each p a k l = at_place p kinds (code k) a l.is

abbrev pub every_two : (Kind → Kind → Bool) → Bool
every_two p = every (λ k. every (p k) kinds) kinds

pub of_two : (p : Kind → Kind → Bool) → every_two p ≡ true → (k l : Kind) → Listed k → Listed l → p k l ≡ true
of_two p a k l m n = of_each (p k) (of_each (λ j. every (p j) kinds) a k m) l n

-- kinds at one place of the list are one
pub one_place : (k l : Kind) → Listed k → Listed l → nat_eq (code k) (code l) ≡ true → k ≡ l
one_place k l m n e = some_is (sym m.is ∙ (ap (λ i. nth i kinds) (eqb-true (code k) (code l) e) ∙ n.is))

-- ---- and over the levels

abbrev pub every_level : (ℕ → Bool) → List ℕ → Bool
every_level p [] = true
every_level p (n ∷ ns) = p n && every_level p ns

in_levels : (p : ℕ → Bool) (ns : List ℕ) {n : ℕ} → every_level p ns ≡ true → any_number n ns ≡ true → p n ≡ true
in_levels p [] a h = cc
in_levels p (m ∷ ns) {n} a h = or_cases (nat_eq n m) (any_number n ns) h (λ e. subst (λ i. p i ≡ true) (sym (eqb-true n m e)) (and_left (p m) _ a)) (λ r. in_levels p ns (and_right (p m) _ a) r)

pub of_level : (p : ℕ → Bool) → every_level p levels ≡ true → {n : ℕ} → is_level n ≡ true → p n ≡ true
of_level p a h = in_levels p levels a h

pub of_level_kind : (p : ℕ → Kind → Bool) → every_level (λ n. every (p n) kinds) levels ≡ true → {n : ℕ} → is_level n ≡ true → (k : Kind) → Listed k → p n k ≡ true
of_level_kind p a {n} h k m = of_each (p n) (of_level (λ i. every (p i) kinds) a h) k m

-- ---- what a test says

abbrev pub implies : Bool → Bool → Bool
implies true b = b
implies false b = true

pub implied : (a b : Bool) → implies a b ≡ true → a ≡ true → b ≡ true
implied true b h e = h
implied false b h e = cc

abbrev pub agree : Bool → Bool → Bool
agree true b = b
agree false b = not b

pub agreed : (a b : Bool) → agree a b ≡ true → a ≡ b
agreed true b h = sym h
agreed false true h = cc
agreed false false h = refl
