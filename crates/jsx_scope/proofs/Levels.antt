-- What the places of expressions take, by rank: computed for each kind.
use Rattle.std.proofs.Common.{◌≡◌, ℕ, Bool, true, false, refl, ap, ◌∙◌, arith}
use Rattle.std.proofs.Math.Bool.{or-false}
use Rattle.std.proofs.lemmas.Bool.{true≢false, false≢true}
use Rattle.std.proofs.lemmas.Bool.Decides.{nat_tests}
use Rattle.std.specs.Prelude.{not, ◌&&◌, ◌||◌, nat_le, nat_lt, nat_eq}
use Rattle.jsx_tree.specs.Kinds.{ArrayPat, Binary, Binds, CallLink, Delete, Element, Field, ForBinding, ForDeclaration, Getter, Imported, InObject, Increment, IndexLink, Kind, Method, NameLink, Nullish, ObjectPat, OpAssign, PlainTemplate, PostfixUpdate, PrefixUpdate, PropertyPat, RestPat, RestProperty, Seq, Setter, ShorthandInit, ShorthandPat, Specifier, SpecifierAs, SubstitutedTemplate, TemplateSpan, Unary, Var, VarWord, WithInit, ExpressionKind, Assign, Arrow, ArrowBlock, BareArrow, BareArrowBlock, Cond, Call, Member, Index, Tagged, New, NewWithoutArguments, SuperCall, SuperMember, SuperIndex, ImportCall, ImportMeta, NewTarget, Chain, expression, function, jsx, program, statement, Tree, node, Forest, none, part}
use Rattle.jsx_tree.specs.Nonterminals.{Nonterminal, Expr, MemberObject, DotObject, NullishLeft, NewCallee, Argument, ArrayItem, ForInit, in_homes, in_list, homes, level_of}
use Rattle.jsx_tree.specs.Normal.{laid_node}
use Rattle.jsx_tree.specs.Form.{admits, admits_node}
use Rattle.jsx_scope.specs.Walk.{expression_rank, rank}

abbrev pub kind_rank : Kind → ℕ
kind_rank (expression k) = expression_rank k
kind_rank k = 19

pub rank_node : (k : Kind) (cs : Forest) → rank (node k cs) ≡ kind_rank k
rank_node (expression k) cs = refl
rank_node k cs = refl

abbrev pub expr_kind : Kind → Bool
expr_kind k = in_homes (Expr 0) (homes k)

-- `new F` is laid as `new F()`
abbrev pub laid_kind : Kind → Kind
laid_kind (expression NewWithoutArguments) = expression New
laid_kind k = k

abbrev fails : Nonterminal → Kind → Bool
fails c k = expr_kind k && not (in_homes c (homes k))

pub fails_object : (k : Kind) → fails MemberObject (laid_kind k) ≡ (expr_kind (laid_kind k) && nat_lt (kind_rank (laid_kind k)) 18)
fails_object (program (Specifier Imported)) = refl
fails_object (program (SpecifierAs Imported)) = refl
fails_object (statement (Var VarWord)) = refl
fails_object (statement (ForDeclaration VarWord)) = refl
fails_object (statement (ForBinding VarWord)) = refl
fails_object (function (Method InObject)) = refl
fails_object (function (Getter InObject)) = refl
fails_object (function (Setter InObject)) = refl
fails_object (function (Field InObject)) = refl
fails_object (function (ArrayPat Binds)) = refl
fails_object (function (ObjectPat Binds)) = refl
fails_object (function (PropertyPat Binds)) = refl
fails_object (function (ShorthandPat Binds)) = refl
fails_object (function (ShorthandInit Binds)) = refl
fails_object (function (WithInit Binds)) = refl
fails_object (function (RestPat Binds)) = refl
fails_object (function (RestProperty Binds)) = refl
fails_object (expression (Binary Nullish)) = refl
fails_object (expression (OpAssign Nullish)) = refl
fails_object (expression (Unary Delete)) = refl
fails_object (expression (PrefixUpdate Increment)) = refl
fails_object (expression (PostfixUpdate Increment)) = refl
fails_object (expression (NameLink true)) = refl
fails_object (expression (IndexLink true)) = refl
fails_object (expression (CallLink true)) = refl
fails_object (expression (PlainTemplate true)) = refl
fails_object (expression (SubstitutedTemplate true)) = refl
fails_object (expression (TemplateSpan true)) = refl
fails_object (jsx Element) = refl
fails_object _ = refl

pub fails_dot : (k : Kind) → fails DotObject (laid_kind k) ≡ (expr_kind (laid_kind k) && nat_lt (kind_rank (laid_kind k)) 18)
fails_dot (program (Specifier Imported)) = refl
fails_dot (program (SpecifierAs Imported)) = refl
fails_dot (statement (Var VarWord)) = refl
fails_dot (statement (ForDeclaration VarWord)) = refl
fails_dot (statement (ForBinding VarWord)) = refl
fails_dot (function (Method InObject)) = refl
fails_dot (function (Getter InObject)) = refl
fails_dot (function (Setter InObject)) = refl
fails_dot (function (Field InObject)) = refl
fails_dot (function (ArrayPat Binds)) = refl
fails_dot (function (ObjectPat Binds)) = refl
fails_dot (function (PropertyPat Binds)) = refl
fails_dot (function (ShorthandPat Binds)) = refl
fails_dot (function (ShorthandInit Binds)) = refl
fails_dot (function (WithInit Binds)) = refl
fails_dot (function (RestPat Binds)) = refl
fails_dot (function (RestProperty Binds)) = refl
fails_dot (expression (Binary Nullish)) = refl
fails_dot (expression (OpAssign Nullish)) = refl
fails_dot (expression (Unary Delete)) = refl
fails_dot (expression (PrefixUpdate Increment)) = refl
fails_dot (expression (PostfixUpdate Increment)) = refl
fails_dot (expression (NameLink true)) = refl
fails_dot (expression (IndexLink true)) = refl
fails_dot (expression (CallLink true)) = refl
fails_dot (expression (PlainTemplate true)) = refl
fails_dot (expression (SubstitutedTemplate true)) = refl
fails_dot (expression (TemplateSpan true)) = refl
fails_dot (jsx Element) = refl
fails_dot _ = refl

pub fails_nullish : (k : Kind) → fails NullishLeft (laid_kind k) ≡ (expr_kind (laid_kind k) && (nat_lt (kind_rank (laid_kind k)) 6 && not (nat_eq (kind_rank (laid_kind k)) 3)))
fails_nullish (program (Specifier Imported)) = refl
fails_nullish (program (SpecifierAs Imported)) = refl
fails_nullish (statement (Var VarWord)) = refl
fails_nullish (statement (ForDeclaration VarWord)) = refl
fails_nullish (statement (ForBinding VarWord)) = refl
fails_nullish (function (Method InObject)) = refl
fails_nullish (function (Getter InObject)) = refl
fails_nullish (function (Setter InObject)) = refl
fails_nullish (function (Field InObject)) = refl
fails_nullish (function (ArrayPat Binds)) = refl
fails_nullish (function (ObjectPat Binds)) = refl
fails_nullish (function (PropertyPat Binds)) = refl
fails_nullish (function (ShorthandPat Binds)) = refl
fails_nullish (function (ShorthandInit Binds)) = refl
fails_nullish (function (WithInit Binds)) = refl
fails_nullish (function (RestPat Binds)) = refl
fails_nullish (function (RestProperty Binds)) = refl
fails_nullish (expression (Binary Nullish)) = refl
fails_nullish (expression (OpAssign Nullish)) = refl
fails_nullish (expression (Unary Delete)) = refl
fails_nullish (expression (PrefixUpdate Increment)) = refl
fails_nullish (expression (PostfixUpdate Increment)) = refl
fails_nullish (expression (NameLink true)) = refl
fails_nullish (expression (IndexLink true)) = refl
fails_nullish (expression (CallLink true)) = refl
fails_nullish (expression (PlainTemplate true)) = refl
fails_nullish (expression (SubstitutedTemplate true)) = refl
fails_nullish (expression (TemplateSpan true)) = refl
fails_nullish (jsx Element) = refl
fails_nullish _ = refl

pub fails_argument : (k : Kind) → fails Argument (laid_kind k) ≡ (expr_kind (laid_kind k) && nat_lt (kind_rank (laid_kind k)) 1)
fails_argument (program (Specifier Imported)) = refl
fails_argument (program (SpecifierAs Imported)) = refl
fails_argument (statement (Var VarWord)) = refl
fails_argument (statement (ForDeclaration VarWord)) = refl
fails_argument (statement (ForBinding VarWord)) = refl
fails_argument (function (Method InObject)) = refl
fails_argument (function (Getter InObject)) = refl
fails_argument (function (Setter InObject)) = refl
fails_argument (function (Field InObject)) = refl
fails_argument (function (ArrayPat Binds)) = refl
fails_argument (function (ObjectPat Binds)) = refl
fails_argument (function (PropertyPat Binds)) = refl
fails_argument (function (ShorthandPat Binds)) = refl
fails_argument (function (ShorthandInit Binds)) = refl
fails_argument (function (WithInit Binds)) = refl
fails_argument (function (RestPat Binds)) = refl
fails_argument (function (RestProperty Binds)) = refl
fails_argument (expression (Binary Nullish)) = refl
fails_argument (expression (OpAssign Nullish)) = refl
fails_argument (expression (Unary Delete)) = refl
fails_argument (expression (PrefixUpdate Increment)) = refl
fails_argument (expression (PostfixUpdate Increment)) = refl
fails_argument (expression (NameLink true)) = refl
fails_argument (expression (IndexLink true)) = refl
fails_argument (expression (CallLink true)) = refl
fails_argument (expression (PlainTemplate true)) = refl
fails_argument (expression (SubstitutedTemplate true)) = refl
fails_argument (expression (TemplateSpan true)) = refl
fails_argument (jsx Element) = refl
fails_argument _ = refl

pub fails_item : (k : Kind) → fails ArrayItem (laid_kind k) ≡ (expr_kind (laid_kind k) && nat_lt (kind_rank (laid_kind k)) 1)
fails_item (program (Specifier Imported)) = refl
fails_item (program (SpecifierAs Imported)) = refl
fails_item (statement (Var VarWord)) = refl
fails_item (statement (ForDeclaration VarWord)) = refl
fails_item (statement (ForBinding VarWord)) = refl
fails_item (function (Method InObject)) = refl
fails_item (function (Getter InObject)) = refl
fails_item (function (Setter InObject)) = refl
fails_item (function (Field InObject)) = refl
fails_item (function (ArrayPat Binds)) = refl
fails_item (function (ObjectPat Binds)) = refl
fails_item (function (PropertyPat Binds)) = refl
fails_item (function (ShorthandPat Binds)) = refl
fails_item (function (ShorthandInit Binds)) = refl
fails_item (function (WithInit Binds)) = refl
fails_item (function (RestPat Binds)) = refl
fails_item (function (RestProperty Binds)) = refl
fails_item (expression (Binary Nullish)) = refl
fails_item (expression (OpAssign Nullish)) = refl
fails_item (expression (Unary Delete)) = refl
fails_item (expression (PrefixUpdate Increment)) = refl
fails_item (expression (PostfixUpdate Increment)) = refl
fails_item (expression (NameLink true)) = refl
fails_item (expression (IndexLink true)) = refl
fails_item (expression (CallLink true)) = refl
fails_item (expression (PlainTemplate true)) = refl
fails_item (expression (SubstitutedTemplate true)) = refl
fails_item (expression (TemplateSpan true)) = refl
fails_item (jsx Element) = refl
fails_item _ = refl

pub fails_init : (k : Kind) → fails ForInit (laid_kind k) ≡ false
fails_init (program (Specifier Imported)) = refl
fails_init (program (SpecifierAs Imported)) = refl
fails_init (statement (Var VarWord)) = refl
fails_init (statement (ForDeclaration VarWord)) = refl
fails_init (statement (ForBinding VarWord)) = refl
fails_init (function (Method InObject)) = refl
fails_init (function (Getter InObject)) = refl
fails_init (function (Setter InObject)) = refl
fails_init (function (Field InObject)) = refl
fails_init (function (ArrayPat Binds)) = refl
fails_init (function (ObjectPat Binds)) = refl
fails_init (function (PropertyPat Binds)) = refl
fails_init (function (ShorthandPat Binds)) = refl
fails_init (function (ShorthandInit Binds)) = refl
fails_init (function (WithInit Binds)) = refl
fails_init (function (RestPat Binds)) = refl
fails_init (function (RestProperty Binds)) = refl
fails_init (expression (Binary Nullish)) = refl
fails_init (expression (OpAssign Nullish)) = refl
fails_init (expression (Unary Delete)) = refl
fails_init (expression (PrefixUpdate Increment)) = refl
fails_init (expression (PostfixUpdate Increment)) = refl
fails_init (expression (NameLink true)) = refl
fails_init (expression (IndexLink true)) = refl
fails_init (expression (CallLink true)) = refl
fails_init (expression (PlainTemplate true)) = refl
fails_init (expression (SubstitutedTemplate true)) = refl
fails_init (expression (TemplateSpan true)) = refl
fails_init (jsx Element) = refl
fails_init _ = refl

pub fails_callee : (k : Kind) → (expr_kind (laid_kind k) && not (in_list (Expr 17) (homes (laid_kind k)))) ≡ (expr_kind (laid_kind k) && nat_lt (kind_rank (laid_kind k)) 17)
fails_callee (program (Specifier Imported)) = refl
fails_callee (program (SpecifierAs Imported)) = refl
fails_callee (statement (Var VarWord)) = refl
fails_callee (statement (ForDeclaration VarWord)) = refl
fails_callee (statement (ForBinding VarWord)) = refl
fails_callee (function (Method InObject)) = refl
fails_callee (function (Getter InObject)) = refl
fails_callee (function (Setter InObject)) = refl
fails_callee (function (Field InObject)) = refl
fails_callee (function (ArrayPat Binds)) = refl
fails_callee (function (ObjectPat Binds)) = refl
fails_callee (function (PropertyPat Binds)) = refl
fails_callee (function (ShorthandPat Binds)) = refl
fails_callee (function (ShorthandInit Binds)) = refl
fails_callee (function (WithInit Binds)) = refl
fails_callee (function (RestPat Binds)) = refl
fails_callee (function (RestProperty Binds)) = refl
fails_callee (expression (Binary Nullish)) = refl
fails_callee (expression (OpAssign Nullish)) = refl
fails_callee (expression (Unary Delete)) = refl
fails_callee (expression (PrefixUpdate Increment)) = refl
fails_callee (expression (PostfixUpdate Increment)) = refl
fails_callee (expression (NameLink true)) = refl
fails_callee (expression (IndexLink true)) = refl
fails_callee (expression (CallLink true)) = refl
fails_callee (expression (PlainTemplate true)) = refl
fails_callee (expression (SubstitutedTemplate true)) = refl
fails_callee (expression (TemplateSpan true)) = refl
fails_callee (jsx Element) = refl
fails_callee _ = refl

-- the level of each kind, as its homes say
abbrev expression_level : ExpressionKind → ℕ
expression_level Seq = 0
expression_level Assign = 1
expression_level (OpAssign o) = 1
expression_level Arrow = 1
expression_level ArrowBlock = 1
expression_level BareArrow = 1
expression_level BareArrowBlock = 1
expression_level Cond = 2
expression_level (Binary o) = level_of o
expression_level (Unary o) = 15
expression_level (PrefixUpdate o) = 16
expression_level (PostfixUpdate o) = 16
expression_level Call = 17
expression_level Member = 17
expression_level Index = 17
expression_level Tagged = 17
expression_level New = 17
expression_level NewWithoutArguments = 17
expression_level SuperCall = 17
expression_level SuperMember = 17
expression_level SuperIndex = 17
expression_level ImportCall = 17
expression_level ImportMeta = 17
expression_level NewTarget = 17
expression_level Chain = 17
expression_level k = 18

abbrev kind_level : Kind → ℕ
kind_level (expression k) = expression_level k
kind_level k = 18

level_in : (n : ℕ) (k : Kind) → in_list (Expr n) (homes k) ≡ ((expr_kind k && nat_le n (kind_level k)) || false)
level_in n (program (Specifier Imported)) = refl
level_in n (program (SpecifierAs Imported)) = refl
level_in n (statement (Var VarWord)) = refl
level_in n (statement (ForDeclaration VarWord)) = refl
level_in n (statement (ForBinding VarWord)) = refl
level_in n (function (Method InObject)) = refl
level_in n (function (Getter InObject)) = refl
level_in n (function (Setter InObject)) = refl
level_in n (function (Field InObject)) = refl
level_in n (function (ArrayPat Binds)) = refl
level_in n (function (ObjectPat Binds)) = refl
level_in n (function (PropertyPat Binds)) = refl
level_in n (function (ShorthandPat Binds)) = refl
level_in n (function (ShorthandInit Binds)) = refl
level_in n (function (WithInit Binds)) = refl
level_in n (function (RestPat Binds)) = refl
level_in n (function (RestProperty Binds)) = refl
level_in n (expression (Binary Nullish)) = refl
level_in n (expression (OpAssign Nullish)) = refl
level_in n (expression (Unary Delete)) = refl
level_in n (expression (PrefixUpdate Increment)) = refl
level_in n (expression (PostfixUpdate Increment)) = refl
level_in n (expression (NameLink true)) = refl
level_in n (expression (IndexLink true)) = refl
level_in n (expression (CallLink true)) = refl
level_in n (expression (PlainTemplate true)) = refl
level_in n (expression (SubstitutedTemplate true)) = refl
level_in n (expression (TemplateSpan true)) = refl
level_in n (jsx Element) = refl
level_in n _ = refl

level_rank : (k : Kind) → (nat_eq (kind_level k) (kind_rank k) || (nat_le 17 (kind_level k) && nat_le 17 (kind_rank k))) ≡ true
level_rank (program (Specifier Imported)) = refl
level_rank (program (SpecifierAs Imported)) = refl
level_rank (statement (Var VarWord)) = refl
level_rank (statement (ForDeclaration VarWord)) = refl
level_rank (statement (ForBinding VarWord)) = refl
level_rank (function (Method InObject)) = refl
level_rank (function (Getter InObject)) = refl
level_rank (function (Setter InObject)) = refl
level_rank (function (Field InObject)) = refl
level_rank (function (ArrayPat Binds)) = refl
level_rank (function (ObjectPat Binds)) = refl
level_rank (function (PropertyPat Binds)) = refl
level_rank (function (ShorthandPat Binds)) = refl
level_rank (function (ShorthandInit Binds)) = refl
level_rank (function (WithInit Binds)) = refl
level_rank (function (RestPat Binds)) = refl
level_rank (function (RestProperty Binds)) = refl
level_rank (expression (Binary Nullish)) = refl
level_rank (expression (OpAssign Nullish)) = refl
level_rank (expression (Unary Delete)) = refl
level_rank (expression (PrefixUpdate Increment)) = refl
level_rank (expression (PostfixUpdate Increment)) = refl
level_rank (expression (NameLink true)) = refl
level_rank (expression (IndexLink true)) = refl
level_rank (expression (CallLink true)) = refl
level_rank (expression (PlainTemplate true)) = refl
level_rank (expression (SubstitutedTemplate true)) = refl
level_rank (expression (TemplateSpan true)) = refl
level_rank (jsx Element) = refl
level_rank _ = refl

-- levels up to 17 don't tell 17 from more
below_17 : (n l r : ℕ) → nat_le n 17 ≡ true → (nat_eq l r || (nat_le 17 l && nat_le 17 r)) ≡ true → not (nat_le n l) ≡ nat_lt r n
below_17 n l r h e = grind (arith, nat_tests)

pub fails_level : (n : ℕ) (k : Kind) → nat_le n 17 ≡ true → (expr_kind k && not (in_list (Expr n) (homes k))) ≡ (expr_kind k && nat_lt (kind_rank k) n)
fails_level n k h = ap (λ v. expr_kind k && not v) (level_in n k ∙ or-false _) ∙ both (expr_kind k) (nat_le n (kind_level k)) (nat_lt (kind_rank k) n) (below_17 n (kind_level k) (kind_rank k) h (level_rank k))
  where
    both : (v x y : Bool) → not x ≡ y → (v && not (v && x)) ≡ (v && y)
    both true x y e = e
    both false x y e = refl

-- ---- what is laid

abbrev pub is_new : Nonterminal → Bool
is_new NewCallee = true
is_new c = false

admits_of : (c : Nonterminal) (t : Tree) (k : Kind) → is_new c ≡ false → admits_node c t k ≡ in_homes c (homes k)
admits_of NewCallee t k h = absurd (true≢false h)
admits_of _ t k h = refl

-- `new F` has one part
abbrev pub shaped_new : Kind → Forest → Bool
shaped_new (expression NewWithoutArguments) (part a none) = true
shaped_new (expression NewWithoutArguments) cs = false
shaped_new k cs = true

pub laid_admits : (c : Nonterminal) (k : Kind) (cs : Forest) → is_new c ≡ false → shaped_new k cs ≡ true → admits c (laid_node k cs) ≡ in_homes c (homes (laid_kind k))
laid_admits c (expression BareArrow) (part a b) n h = admits_of c _ (expression Arrow) n
laid_admits c (expression BareArrow) none n h = admits_of c _ (expression BareArrow) n
laid_admits c (expression BareArrowBlock) (part a b) n h = admits_of c _ (expression ArrowBlock) n
laid_admits c (expression BareArrowBlock) none n h = admits_of c _ (expression BareArrowBlock) n
laid_admits c (expression NewWithoutArguments) (part a none) n h = admits_of c _ (expression New) n
laid_admits c (expression NewWithoutArguments) (part a (part b bs)) n h = absurd (false≢true h)
laid_admits c (expression NewWithoutArguments) none n h = absurd (false≢true h)
laid_admits c k cs n h = admits_of c (node k cs) k n

pub laid_expr : (k : Kind) → expr_kind (laid_kind k) ≡ expr_kind k
laid_expr (expression NewWithoutArguments) = refl
laid_expr k = refl

pub laid_rank : (k : Kind) → kind_rank (laid_kind k) ≡ kind_rank k
laid_rank (expression NewWithoutArguments) = refl
laid_rank k = refl
