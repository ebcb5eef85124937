-- What a dressed tree begins with is its opening, and calls before its members are those of `new`.
use Rattle.std.proofs.Common.{◌≡◌, ℕ, [], ◌∷◌, Bool, true, false, cond, refl, ap, sym, ◌∙◌, subst, ⊎_elim}
use Rattle.std.proofs.lemmas.Bool.{true≢false, false≢true, and_parts, or_cases, or_left, or_right}
use Rattle.std.specs.Prelude.{⊤, codes, not, ◌&&◌, ◌||◌, nat_le}
use Rattle.jsx_base.specs.Token.{Text, TokenKind, IdentifierName, NumericLiteral, BigIntLiteral, StringLiteral, RegExpLiteral, NoSubstitution, TemplateHead, TemplateMiddle, TemplateTail, Elision, same, among}
use Rattle.jsx_base.proofs.Longest.{same_is}
use Rattle.jsx_tree.specs.Kinds.{Kind, program, statement, function, expression, jsx, Seq, Assign, OpAssign, Arrow, ArrowBlock, BareArrow, BareArrowBlock, Cond, Binary, Unary, PrefixUpdate, PostfixUpdate, Call, Member, Index, Tagged, New, NewWithoutArguments, SuperCall, SuperMember, SuperIndex, ImportCall, ImportMeta, NewTarget, Chain, Array, Object, Parenthesized, PlainTemplate, SubstitutedTemplate, FunctionExpr, ClassExpr, ArrayPat, ObjectPat, ParenTarget, Assigns, Binds, BinaryOp, Delete, Void, TypeOf, Positive, Negative, Complement, Not, Increment, Decrement, Nullish, Method, Getter, Setter, Field, InObject, WithInit, RestPat, Var, VarWord, Specifier, Imported, Tree, leaf, node, list, Forest, none, part, CallLink, ForBinding, ForDeclaration, IndexLink, NameLink, PropertyPat, RestProperty, ShorthandInit, ShorthandPat, SpecifierAs, TemplateSpan, Element}
use Rattle.jsx_tree.specs.Nonterminals.{Nonterminal, Expr, MemberObject, DotObject, NullishLeft, SimpleTarget, Pat, BindingIdent, ForOfHead, NewCallee, TemplatePart, in_homes, homes, leaf_in}
use Rattle.jsx_tree.specs.Grammar.{heads}
use Rattle.jsx_tree.specs.Grammar.{TwoOrMore}
use Rattle.jsx_tree.specs.Form.{positions, admits, is_leaf, enough, last_only}
use Rattle.jsx_tree.specs.Fits.{is_solid}
use Rattle.jsx_tree.specs.Spelling.{spelled}
use Rattle.jsx_tree.specs.Layout.{first_token}
use Rattle.jsx_tree.specs.Parentheses.{asks, is_expression, is_dotted_number, as_laid, parens_of, wants, dress, dresses}
use Rattle.jsx_tree.specs.Sound.{lax, may_stand, is_no_jsx, loose, loose_slots, loose_each}
use Rattle.jsx_tree.proofs.Parentheses.Starts.{is_hole, starts, led}
use Rattle.jsx_scope.specs.declared.place.Place.TheVariants as place
use Rattle.jsx_scope.specs.declared.opening.Opening.{Opening}
use Rattle.jsx_scope.specs.declared.opening.Opening.TheVariants as first
use Rattle.jsx_scope.specs.Places.{place_at}
use Rattle.jsx_scope.specs.Walk.{low, left_place, opening, opening_at, bars}
use Rattle.jsx_tree.specs.Grammar.{left_of}
use Rattle.jsx_tree.proofs.Parentheses.FirstPass.{in_expr}
use Rattle.jsx_scope.proofs.Levels.{kind_rank, rank_node, expr_kind, is_new, shaped_new}
use Rattle.jsx_scope.proofs.Same.{at_17, leaf_home, not_0, wanted_node}

abbrev by_words : Bool → Bool → Bool → Opening
by_words a b c = cond a first.Brace (cond (b || c) first.Keyword first.Other)

-- which of the tokens that may not come first a text is
abbrev pub opening_text : Text → Opening
opening_text x = by_words (same x (codes "{")) (same x (codes "function")) (same x (codes "class"))

statement_words : (a b c : Bool) → (a || (b || (c || false))) ≡ bars place.Statement (by_words a b c)
statement_words true b c = refl
statement_words false true c = refl
statement_words false false true = refl
statement_words false false false = refl

default_words : (a b c : Bool) → (a && (b || c)) ≡ false → (b || (c || false)) ≡ bars place.Default (by_words a b c)
default_words true true c h = absurd (true≢false h)
default_words true false true h = absurd (true≢false h)
default_words true false false h = refl
default_words false true c h = refl
default_words false false true h = refl
default_words false false false h = refl

arrow_words : (a b c : Bool) → (a || false) ≡ bars place.ArrowBody (by_words a b c)
arrow_words true b c = refl
arrow_words false true c = refl
arrow_words false false true = refl
arrow_words false false false = refl

-- a text is_not both a brace and a word
one_word : (x : Text) (v : Bool) → same x (codes "{") ≡ v → (v && (same x (codes "function") || same x (codes "class"))) ≡ false
one_word x true h = subst (λ y. (same y (codes "function") || same y (codes "class")) ≡ false) (sym (same_is x (codes "{") h)) refl
one_word x false h = refl

pub statement_text : (x : Text) → among x heads ≡ bars place.Statement (opening_text x)
statement_text x = statement_words (same x (codes "{")) (same x (codes "function")) (same x (codes "class"))

pub default_text : (x : Text) → among x (codes "function" ∷ codes "class" ∷ []) ≡ bars place.Default (opening_text x)
default_text x = default_words (same x (codes "{")) (same x (codes "function")) (same x (codes "class")) (one_word x (same x (codes "{")) refl)

pub arrow_text : (x : Text) → among x (codes "{" ∷ []) ≡ bars place.ArrowBody (opening_text x)
arrow_text x = arrow_words (same x (codes "{")) (same x (codes "function")) (same x (codes "class"))

-- ---- leaves

-- the places of what an expression may begin with
abbrev pub front : Nonterminal → Bool
front (Expr n) = true
front MemberObject = true
front DotObject = true
front NullishLeft = true
front SimpleTarget = true
front (Pat Assigns) = true
front BindingIdent = true
front (TemplatePart NoSubstitution) = true
front (TemplatePart TemplateHead) = true
front c = false

no_brace : (s : TokenKind) → is_leaf s (codes "{") ≡ true → is_solid s ≡ true → ⊥
no_brace IdentifierName h k = false≢true h
no_brace NumericLiteral h k = false≢true h
no_brace BigIntLiteral h k = false≢true h
no_brace StringLiteral h k = false≢true h
no_brace RegExpLiteral h k = false≢true h
no_brace NoSubstitution h k = false≢true h
no_brace TemplateHead h k = false≢true h
no_brace TemplateMiddle h k = false≢true h
no_brace TemplateTail h k = false≢true h
no_brace Elision h k = false≢true h
no_brace _ h k = false≢true k

no_function : (c : Nonterminal) (s : TokenKind) → front c ≡ true → leaf_in c s (codes "function") ≡ true → is_leaf s (codes "function") ≡ true → is_solid s ≡ true → ⊥
no_function (Expr n) IdentifierName f m h k = false≢true (and_parts (nat_le n 18) _ m).1
no_function MemberObject IdentifierName f m h k = false≢true m
no_function DotObject IdentifierName f m h k = false≢true m
no_function NullishLeft IdentifierName f m h k = false≢true m
no_function SimpleTarget IdentifierName f m h k = false≢true m
no_function (Pat Assigns) IdentifierName f m h k = false≢true m
no_function BindingIdent IdentifierName f m h k = false≢true m
no_function (TemplatePart NoSubstitution) IdentifierName f m h k = false≢true m
no_function (TemplatePart TemplateHead) IdentifierName f m h k = false≢true m
no_function c NumericLiteral f m h k = false≢true h
no_function c BigIntLiteral f m h k = false≢true h
no_function c StringLiteral f m h k = false≢true h
no_function c RegExpLiteral f m h k = false≢true h
no_function c NoSubstitution f m h k = false≢true h
no_function c TemplateHead f m h k = false≢true h
no_function c TemplateMiddle f m h k = false≢true h
no_function c TemplateTail f m h k = false≢true h
no_function c Elision f m h k = false≢true h
no_function c IdentifierName f m h k = false≢true f
no_function c _ f m h k = false≢true k

no_class : (c : Nonterminal) (s : TokenKind) → front c ≡ true → leaf_in c s (codes "class") ≡ true → is_leaf s (codes "class") ≡ true → is_solid s ≡ true → ⊥
no_class (Expr n) IdentifierName f m h k = false≢true (and_parts (nat_le n 18) _ m).1
no_class MemberObject IdentifierName f m h k = false≢true m
no_class DotObject IdentifierName f m h k = false≢true m
no_class NullishLeft IdentifierName f m h k = false≢true m
no_class SimpleTarget IdentifierName f m h k = false≢true m
no_class (Pat Assigns) IdentifierName f m h k = false≢true m
no_class BindingIdent IdentifierName f m h k = false≢true m
no_class (TemplatePart NoSubstitution) IdentifierName f m h k = false≢true m
no_class (TemplatePart TemplateHead) IdentifierName f m h k = false≢true m
no_class c NumericLiteral f m h k = false≢true h
no_class c BigIntLiteral f m h k = false≢true h
no_class c StringLiteral f m h k = false≢true h
no_class c RegExpLiteral f m h k = false≢true h
no_class c NoSubstitution f m h k = false≢true h
no_class c TemplateHead f m h k = false≢true h
no_class c TemplateMiddle f m h k = false≢true h
no_class c TemplateTail f m h k = false≢true h
no_class c Elision f m h k = false≢true h
no_class c IdentifierName f m h k = false≢true f
no_class c _ f m h k = false≢true k

is_not : (x w : Text) (v : Bool) → same x w ≡ v → (x ≡ w → ⊥) → same x w ≡ false
is_not x w true h n = absurd (n (same_is x w h))
is_not x w false h n = h

other_words : (a b c : Bool) → a ≡ false → b ≡ false → c ≡ false → by_words a b c ≡ first.Other
other_words true b c p q r = absurd (true≢false p)
other_words false true c p q r = absurd (true≢false q)
other_words false false true p q r = absurd (true≢false r)
other_words false false false p q r = refl

leaf_other : (c : Nonterminal) (s : TokenKind) (x : Text) → front c ≡ true → leaf_in c s x ≡ true → is_leaf s x ≡ true → is_solid s ≡ true → opening_text x ≡ first.Other
leaf_other c s x f m h k = other_words _ _ _
    (is_not x (codes "{") _ refl (λ e. no_brace s (subst (λ y. is_leaf s y ≡ true) e h) k))
    (is_not x (codes "function") _ refl (λ e. no_function c s f (subst (λ y. leaf_in c s y ≡ true) e m) (subst (λ y. is_leaf s y ≡ true) e h) k))
    (is_not x (codes "class") _ refl (λ e. no_class c s f (subst (λ y. leaf_in c s y ≡ true) e m) (subst (λ y. is_leaf s y ≡ true) e h) k))

leaf_led : (c : Nonterminal) (s : TokenKind) (x : Text) → front c ≡ true → leaf_in c s x ≡ true → not (is_hole s) ≡ true
leaf_led (Expr n) Elision x f m = absurd (false≢true m)
leaf_led MemberObject Elision x f m = absurd (false≢true m)
leaf_led DotObject Elision x f m = absurd (false≢true m)
leaf_led NullishLeft Elision x f m = absurd (false≢true m)
leaf_led SimpleTarget Elision x f m = absurd (false≢true m)
leaf_led (Pat Assigns) Elision x f m = absurd (false≢true m)
leaf_led BindingIdent Elision x f m = absurd (false≢true m)
leaf_led (TemplatePart NoSubstitution) Elision x f m = absurd (false≢true m)
leaf_led (TemplatePart TemplateHead) Elision x f m = absurd (false≢true m)
leaf_led c Elision x f m = absurd (false≢true f)
leaf_led c _ x f m = refl

-- ---- the kinds that stand where an expression may begin

abbrev fronts : Kind → Bool
fronts k = expr_kind k || (in_homes SimpleTarget (homes k) || in_homes (Pat Assigns) (homes k))

object_expr : (k : Kind) → (not (in_homes MemberObject (homes k)) || expr_kind k) ≡ true
object_expr (program (Specifier Imported)) = refl
object_expr (program (SpecifierAs Imported)) = refl
object_expr (statement (Var VarWord)) = refl
object_expr (statement (ForDeclaration VarWord)) = refl
object_expr (statement (ForBinding VarWord)) = refl
object_expr (function (Method InObject)) = refl
object_expr (function (Getter InObject)) = refl
object_expr (function (Setter InObject)) = refl
object_expr (function (Field InObject)) = refl
object_expr (function (ArrayPat Binds)) = refl
object_expr (function (ObjectPat Binds)) = refl
object_expr (function (PropertyPat Binds)) = refl
object_expr (function (ShorthandPat Binds)) = refl
object_expr (function (ShorthandInit Binds)) = refl
object_expr (function (WithInit Binds)) = refl
object_expr (function (RestPat Binds)) = refl
object_expr (function (RestProperty Binds)) = refl
object_expr (expression (Binary Nullish)) = refl
object_expr (expression (OpAssign Nullish)) = refl
object_expr (expression (Unary Delete)) = refl
object_expr (expression (PrefixUpdate Increment)) = refl
object_expr (expression (PostfixUpdate Increment)) = refl
object_expr (expression (NameLink true)) = refl
object_expr (expression (IndexLink true)) = refl
object_expr (expression (CallLink true)) = refl
object_expr (expression (PlainTemplate true)) = refl
object_expr (expression (SubstitutedTemplate true)) = refl
object_expr (expression (TemplateSpan true)) = refl
object_expr (jsx Element) = refl
object_expr _ = refl

nullish_expr : (k : Kind) → (not (in_homes NullishLeft (homes k)) || expr_kind k) ≡ true
nullish_expr (program (Specifier Imported)) = refl
nullish_expr (program (SpecifierAs Imported)) = refl
nullish_expr (statement (Var VarWord)) = refl
nullish_expr (statement (ForDeclaration VarWord)) = refl
nullish_expr (statement (ForBinding VarWord)) = refl
nullish_expr (function (Method InObject)) = refl
nullish_expr (function (Getter InObject)) = refl
nullish_expr (function (Setter InObject)) = refl
nullish_expr (function (Field InObject)) = refl
nullish_expr (function (ArrayPat Binds)) = refl
nullish_expr (function (ObjectPat Binds)) = refl
nullish_expr (function (PropertyPat Binds)) = refl
nullish_expr (function (ShorthandPat Binds)) = refl
nullish_expr (function (ShorthandInit Binds)) = refl
nullish_expr (function (WithInit Binds)) = refl
nullish_expr (function (RestPat Binds)) = refl
nullish_expr (function (RestProperty Binds)) = refl
nullish_expr (expression (Binary Nullish)) = refl
nullish_expr (expression (OpAssign Nullish)) = refl
nullish_expr (expression (Unary Delete)) = refl
nullish_expr (expression (PrefixUpdate Increment)) = refl
nullish_expr (expression (PostfixUpdate Increment)) = refl
nullish_expr (expression (NameLink true)) = refl
nullish_expr (expression (IndexLink true)) = refl
nullish_expr (expression (CallLink true)) = refl
nullish_expr (expression (PlainTemplate true)) = refl
nullish_expr (expression (SubstitutedTemplate true)) = refl
nullish_expr (expression (TemplateSpan true)) = refl
nullish_expr (jsx Element) = refl
nullish_expr _ = refl

pub no_bound : (k : Kind) → in_homes BindingIdent (homes k) ≡ false
no_bound (program (Specifier Imported)) = refl
no_bound (program (SpecifierAs Imported)) = refl
no_bound (statement (Var VarWord)) = refl
no_bound (statement (ForDeclaration VarWord)) = refl
no_bound (statement (ForBinding VarWord)) = refl
no_bound (function (Method InObject)) = refl
no_bound (function (Getter InObject)) = refl
no_bound (function (Setter InObject)) = refl
no_bound (function (Field InObject)) = refl
no_bound (function (ArrayPat Binds)) = refl
no_bound (function (ObjectPat Binds)) = refl
no_bound (function (PropertyPat Binds)) = refl
no_bound (function (ShorthandPat Binds)) = refl
no_bound (function (ShorthandInit Binds)) = refl
no_bound (function (WithInit Binds)) = refl
no_bound (function (RestPat Binds)) = refl
no_bound (function (RestProperty Binds)) = refl
no_bound (expression (Binary Nullish)) = refl
no_bound (expression (OpAssign Nullish)) = refl
no_bound (expression (Unary Delete)) = refl
no_bound (expression (PrefixUpdate Increment)) = refl
no_bound (expression (PostfixUpdate Increment)) = refl
no_bound (expression (NameLink true)) = refl
no_bound (expression (IndexLink true)) = refl
no_bound (expression (CallLink true)) = refl
no_bound (expression (PlainTemplate true)) = refl
no_bound (expression (SubstitutedTemplate true)) = refl
no_bound (expression (TemplateSpan true)) = refl
no_bound (jsx Element) = refl
no_bound _ = refl

no_piece : (k : Kind) → (in_homes (TemplatePart NoSubstitution) (homes k) || in_homes (TemplatePart TemplateHead) (homes k)) ≡ false
no_piece (program (Specifier Imported)) = refl
no_piece (program (SpecifierAs Imported)) = refl
no_piece (statement (Var VarWord)) = refl
no_piece (statement (ForDeclaration VarWord)) = refl
no_piece (statement (ForBinding VarWord)) = refl
no_piece (function (Method InObject)) = refl
no_piece (function (Getter InObject)) = refl
no_piece (function (Setter InObject)) = refl
no_piece (function (Field InObject)) = refl
no_piece (function (ArrayPat Binds)) = refl
no_piece (function (ObjectPat Binds)) = refl
no_piece (function (PropertyPat Binds)) = refl
no_piece (function (ShorthandPat Binds)) = refl
no_piece (function (ShorthandInit Binds)) = refl
no_piece (function (WithInit Binds)) = refl
no_piece (function (RestPat Binds)) = refl
no_piece (function (RestProperty Binds)) = refl
no_piece (expression (Binary Nullish)) = refl
no_piece (expression (OpAssign Nullish)) = refl
no_piece (expression (Unary Delete)) = refl
no_piece (expression (PrefixUpdate Increment)) = refl
no_piece (expression (PostfixUpdate Increment)) = refl
no_piece (expression (NameLink true)) = refl
no_piece (expression (IndexLink true)) = refl
no_piece (expression (CallLink true)) = refl
no_piece (expression (PlainTemplate true)) = refl
no_piece (expression (SubstitutedTemplate true)) = refl
no_piece (expression (TemplateSpan true)) = refl
no_piece (jsx Element) = refl
no_piece _ = refl

implied : (a b : Bool) → (not a || b) ≡ true → a ≡ true → b ≡ true
implied true b h e = h
implied false b h e = absurd (false≢true e)

pub home_expr : (c : Nonterminal) (k : Kind) → asks c ≡ true → front c ≡ true → in_homes c (homes k) ≡ true → expr_kind k ≡ true
home_expr (Expr n) k a f h = in_expr n (homes k) h
home_expr MemberObject k a f h = implied (in_homes MemberObject (homes k)) (expr_kind k) (object_expr k) h
home_expr DotObject k a f h = implied (in_homes MemberObject (homes k)) (expr_kind k) (object_expr k) h
home_expr NullishLeft k a f h = implied (in_homes NullishLeft (homes k)) (expr_kind k) (nullish_expr k) h
home_expr SimpleTarget k a f h = absurd (false≢true a)
home_expr (Pat Assigns) k a f h = absurd (false≢true a)
home_expr BindingIdent k a f h = absurd (false≢true a)
home_expr (TemplatePart NoSubstitution) k a f h = absurd (false≢true a)
home_expr (TemplatePart TemplateHead) k a f h = absurd (false≢true a)
home_expr c k a f h = absurd (false≢true f)

front_lax : (c : Nonterminal) → front c ≡ true → lax c ≡ c
front_lax ForOfHead f = absurd (false≢true f)
front_lax c f = refl

pub may_expr : (c : Nonterminal) (k : Kind) (cs : Forest) → asks c ≡ true → front c ≡ true → may_stand c (node k cs) ≡ true → expr_kind k ≡ true
may_expr c k cs a f m =
    ⊎_elim (λ p. (and_parts (asks c) (expr_kind k) p).1) (λ p. home_expr c k a f (ap (λ d. in_homes d (homes k)) (sym (front_lax c f)) ∙ p))
    (or_cases (asks c && expr_kind k) (in_homes (lax c) (homes k)) m)

-- where an expression may begin, and nothing is asked
quiet_fronts : (c : Nonterminal) (k : Kind) → asks c ≡ false → front c ≡ true → in_homes c (homes k) ≡ true → fronts k ≡ true
quiet_fronts SimpleTarget k a f h = or_right (expr_kind k) _ (or_left (in_homes SimpleTarget (homes k)) _ h)
quiet_fronts (Pat Assigns) k a f h = or_right (expr_kind k) _ (or_right (in_homes SimpleTarget (homes k)) _ h)
quiet_fronts BindingIdent k a f h = absurd (false≢true (sym (no_bound k) ∙ h))
quiet_fronts (TemplatePart NoSubstitution) k a f h = absurd (false≢true (sym (no_piece k) ∙ or_left (in_homes (TemplatePart NoSubstitution) (homes k)) _ h))
quiet_fronts (TemplatePart TemplateHead) k a f h = absurd (false≢true (sym (no_piece k) ∙ or_right (in_homes (TemplatePart NoSubstitution) (homes k)) _ h))
quiet_fronts (Expr n) k a f h = absurd (true≢false a)
quiet_fronts MemberObject k a f h = absurd (true≢false a)
quiet_fronts DotObject k a f h = absurd (true≢false a)
quiet_fronts NullishLeft k a f h = absurd (true≢false a)
quiet_fronts c k a f h = absurd (false≢true f)

may_fronts : (c : Nonterminal) (k : Kind) (cs : Forest) (v : Bool) → asks c ≡ v → front c ≡ true → may_stand c (node k cs) ≡ true → fronts k ≡ true
may_fronts c k cs true a f m = or_left (expr_kind k) _ (may_expr c k cs a f m)
may_fronts c k cs false a f m =
    quiet_fronts c k a f (ap (λ d. in_homes d (homes k)) (sym (front_lax c f)) ∙ (ap (λ v. (v && expr_kind k) || in_homes (lax c) (homes k)) (sym a) ∙ m))

leaf_at : (c : Nonterminal) (s : TokenKind) (x : Text) → front c ≡ true → at_17 c ≡ true → may_stand c (leaf s x) ≡ true → leaf_in c s x ≡ true
leaf_at c s x f l m =
    ⊎_elim (λ p. let q = and_parts (asks c) (leaf_in (Expr 0) s x) p in leaf_home c s x q.0 l q.1) (λ p. ap (λ d. leaf_in d s x) (sym (front_lax c f)) ∙ p)
    (or_cases (asks c && leaf_in (Expr 0) s x) (leaf_in (lax c) s x) m)

front_new : (c : Nonterminal) → front c ≡ true → is_new c ≡ false
front_new NewCallee f = absurd (false≢true f)
front_new c f = refl

quiet_low : (c : Nonterminal) (r : ℕ) → asks c ≡ false → front c ≡ true → low (place_at c []) r ≡ false
quiet_low (Expr n) r a f = absurd (true≢false a)
quiet_low MemberObject r a f = absurd (true≢false a)
quiet_low DotObject r a f = absurd (true≢false a)
quiet_low NullishLeft r a f = absurd (true≢false a)
quiet_low SimpleTarget r a f = not_0 r
quiet_low (Pat Assigns) r a f = not_0 r
quiet_low BindingIdent r a f = not_0 r
quiet_low (TemplatePart NoSubstitution) r a f = not_0 r
quiet_low (TemplatePart TemplateHead) r a f = not_0 r
quiet_low c r a f = absurd (false≢true f)

-- ---- trees

abbrev Opens : Tree → Opening → Type 0
Opens t o = (led t ≡ true) × (opening_text (starts t) ≡ o)

-- a tree at a place where an expression may begin
abbrev FirstOf : Tree → Type 0
FirstOf t = (c : Nonterminal) → front c ≡ true → at_17 c ≡ true → may_stand c t ≡ true → loose c t ≡ true → Opens (dress c [] t) (opening_at (place_at c []) t)

abbrev FirstsOf : Forest → Type 0
FirstsOf none = ⊤
FirstsOf (part t ts) = FirstOf t

abbrev ListOf : Tree → Type 0
ListOf (list ts) = FirstsOf ts
ListOf t = ⊤

abbrev ListsOf : Forest → Type 0
ListsOf none = ⊤
ListsOf (part t ts) = ListOf t

left_front : (o : BinaryOp) → front (left_of o) ≡ true
left_front Nullish = refl
left_front _ = refl

left_17 : (o : BinaryOp) → at_17 (left_of o) ≡ true
left_17 Nullish = refl
left_17 _ = refl

pub left_at : (o : BinaryOp) → place_at (left_of o) [] ≡ left_place o
left_at Nullish = refl
left_at _ = refl

-- by the first part
leads_by : (c : Nonterminal) (t : Tree) (b : Bool) → FirstOf t → front c ≡ true → at_17 c ≡ true → (may_stand c t && (loose c t && b)) ≡ true → Opens (dress c [] t) (opening_at (place_at c []) t)
leads_by c t b i f l h = let x = and_parts (may_stand c t) (loose c t && b) h in let y = and_parts (loose c t) b x.1 in i c f l x.0 y.0

bound_other : (t : Tree) (b : Bool) → (may_stand BindingIdent t && (loose BindingIdent t && b)) ≡ true → Opens (dress BindingIdent [] t) first.Other
bound_other (leaf s x) b h =
    let p = and_parts (may_stand BindingIdent (leaf s x)) (loose BindingIdent (leaf s x) && b) h in let q = and_parts (loose BindingIdent (leaf s x)) b p.1 in let r = and_parts (is_leaf s x) (is_solid s) q.0 in
    (leaf_led BindingIdent s x refl p.0, leaf_other BindingIdent s x refl p.0 r.0 r.1)
bound_other (node k cs) b h = absurd (false≢true (sym (no_bound k) ∙ (and_parts (in_homes BindingIdent (homes k)) _ h).0))
bound_other (list ts) b h = absurd (false≢true h)

neither : (a b : Bool) → (a || b) ≡ false → (a ≡ false) × (b ≡ false)
neither true b h = absurd (true≢false h)
neither false b h = (refl, h)

plain_other : (t : Tree) (b : Bool) → (may_stand (TemplatePart NoSubstitution) t && (loose (TemplatePart NoSubstitution) t && b)) ≡ true → Opens (dress (TemplatePart NoSubstitution) [] t) first.Other
plain_other (leaf s x) b h =
    let p = and_parts (may_stand (TemplatePart NoSubstitution) (leaf s x)) (loose (TemplatePart NoSubstitution) (leaf s x) && b) h in let q = and_parts (loose (TemplatePart NoSubstitution) (leaf s x)) b p.1 in let r = and_parts (is_leaf s x) (is_solid s) q.0 in
    (leaf_led (TemplatePart NoSubstitution) s x refl p.0, leaf_other (TemplatePart NoSubstitution) s x refl p.0 r.0 r.1)
plain_other (node k cs) b h = absurd (false≢true (sym ((neither (in_homes (TemplatePart NoSubstitution) (homes k)) _ (no_piece k)).0) ∙ (and_parts (in_homes (TemplatePart NoSubstitution) (homes k)) _ h).0))
plain_other (list ts) b h = absurd (false≢true h)

head_other : (t : Tree) (b : Bool) → (may_stand (TemplatePart TemplateHead) t && (loose (TemplatePart TemplateHead) t && b)) ≡ true → Opens (dress (TemplatePart TemplateHead) [] t) first.Other
head_other (leaf s x) b h =
    let p = and_parts (may_stand (TemplatePart TemplateHead) (leaf s x)) (loose (TemplatePart TemplateHead) (leaf s x) && b) h in let q = and_parts (loose (TemplatePart TemplateHead) (leaf s x)) b p.1 in let r = and_parts (is_leaf s x) (is_solid s) q.0 in
    (leaf_led (TemplatePart TemplateHead) s x refl p.0, leaf_other (TemplatePart TemplateHead) s x refl p.0 r.0 r.1)
head_other (node k cs) b h = absurd (false≢true (sym ((neither (in_homes (TemplatePart NoSubstitution) (homes k)) _ (no_piece k)).1) ∙ (and_parts (in_homes (TemplatePart TemplateHead) (homes k)) _ h).0))
head_other (list ts) b h = absurd (false≢true h)

-- the kinds that stand where an expression may begin
abbrev listed : Kind → Bool
listed (expression Cond) = true
listed (expression (OpAssign o)) = true
listed (expression (PostfixUpdate o)) = true
listed (expression Assign) = true
listed (expression Call) = true
listed (expression Member) = true
listed (expression Index) = true
listed (expression Tagged) = true
listed (expression Chain) = true
listed (expression (Binary o)) = true
listed (expression BareArrow) = true
listed (expression BareArrowBlock) = true
listed (expression Seq) = true
listed (expression (PlainTemplate false)) = true
listed (expression (SubstitutedTemplate false)) = true
listed (expression Arrow) = true
listed (expression ArrowBlock) = true
listed (expression (Unary Delete)) = true
listed (expression (Unary Void)) = true
listed (expression (Unary TypeOf)) = true
listed (expression (Unary Positive)) = true
listed (expression (Unary Negative)) = true
listed (expression (Unary Complement)) = true
listed (expression (Unary Not)) = true
listed (expression (PrefixUpdate Increment)) = true
listed (expression (PrefixUpdate Decrement)) = true
listed (expression New) = true
listed (expression NewWithoutArguments) = true
listed (expression SuperCall) = true
listed (expression SuperMember) = true
listed (expression SuperIndex) = true
listed (expression ImportCall) = true
listed (expression ImportMeta) = true
listed (expression NewTarget) = true
listed (expression Array) = true
listed (expression Object) = true
listed (expression Parenthesized) = true
listed (function FunctionExpr) = true
listed (function ClassExpr) = true
listed (function (ArrayPat Assigns)) = true
listed (function (ObjectPat Assigns)) = true
listed (function ParenTarget) = true
listed (jsx k) = true
listed k = false

listed_fronts : (k : Kind) → (listed k || not (fronts k)) ≡ true
listed_fronts (program (Specifier Imported)) = refl
listed_fronts (program (SpecifierAs Imported)) = refl
listed_fronts (statement (Var VarWord)) = refl
listed_fronts (statement (ForDeclaration VarWord)) = refl
listed_fronts (statement (ForBinding VarWord)) = refl
listed_fronts (function (Method InObject)) = refl
listed_fronts (function (Getter InObject)) = refl
listed_fronts (function (Setter InObject)) = refl
listed_fronts (function (Field InObject)) = refl
listed_fronts (function (ArrayPat Binds)) = refl
listed_fronts (function (ObjectPat Binds)) = refl
listed_fronts (function (PropertyPat Binds)) = refl
listed_fronts (function (ShorthandPat Binds)) = refl
listed_fronts (function (ShorthandInit Binds)) = refl
listed_fronts (function (WithInit Binds)) = refl
listed_fronts (function (RestPat Binds)) = refl
listed_fronts (function (RestProperty Binds)) = refl
listed_fronts (expression (Binary Nullish)) = refl
listed_fronts (expression (OpAssign Nullish)) = refl
listed_fronts (expression (Unary Delete)) = refl
listed_fronts (expression (PrefixUpdate Increment)) = refl
listed_fronts (expression (PostfixUpdate Increment)) = refl
listed_fronts (expression (NameLink true)) = refl
listed_fronts (expression (IndexLink true)) = refl
listed_fronts (expression (CallLink true)) = refl
listed_fronts (expression (PlainTemplate true)) = refl
listed_fronts (expression (SubstitutedTemplate true)) = refl
listed_fronts (expression (TemplateSpan true)) = refl
listed_fronts (jsx Element) = refl
listed_fronts _ = refl

other_kind : (v w : Bool) → (v || not w) ≡ true → w ≡ true → v ≡ true
other_kind true w h e = refl
other_kind false true h e = h
other_kind false false h e = e

opens_node : (k : Kind) (cs : Forest) → fronts k ≡ true → is_no_jsx k ≡ true → loose_slots (positions k) cs ≡ true → FirstsOf cs → ListsOf cs → Opens (node k (dresses (positions k) cs)) (opening (node k cs))
opens_node (expression Cond) none f n h i l = absurd (false≢true h)
opens_node (expression Cond) (part a rest) f n h i l = leads_by (Expr 3) a _ i refl refl h
opens_node (expression (OpAssign o)) none f n h i l = absurd (false≢true h)
opens_node (expression (OpAssign o)) (part a rest) f n h i l = leads_by SimpleTarget a _ i refl refl h
opens_node (expression (PostfixUpdate o)) none f n h i l = absurd (false≢true h)
opens_node (expression (PostfixUpdate o)) (part a rest) f n h i l = leads_by SimpleTarget a _ i refl refl h
opens_node (expression Assign) none f n h i l = absurd (false≢true h)
opens_node (expression Assign) (part a rest) f n h i l = leads_by (Pat Assigns) a _ i refl refl h
opens_node (expression Call) none f n h i l = absurd (false≢true h)
opens_node (expression Call) (part a rest) f n h i l = leads_by MemberObject a _ i refl refl h
opens_node (expression Member) none f n h i l = absurd (false≢true h)
opens_node (expression Member) (part a rest) f n h i l = leads_by DotObject a _ i refl refl h
opens_node (expression Index) none f n h i l = absurd (false≢true h)
opens_node (expression Index) (part a rest) f n h i l = leads_by MemberObject a _ i refl refl h
opens_node (expression Tagged) none f n h i l = absurd (false≢true h)
opens_node (expression Tagged) (part a rest) f n h i l = leads_by MemberObject a _ i refl refl h
opens_node (expression Chain) none f n h i l = absurd (false≢true h)
opens_node (expression Chain) (part a rest) f n h i l = leads_by MemberObject a _ i refl refl h
opens_node (expression (Binary o)) none f n h i l = absurd (false≢true h)
opens_node (expression (Binary o)) (part a rest) f n h i l = subst (λ p. Opens (dress (left_of o) [] a) (opening_at p a)) (left_at o) (leads_by (left_of o) a _ i (left_front o) (left_17 o) h)
opens_node (expression BareArrow) none f n h i l = absurd (false≢true h)
opens_node (expression BareArrow) (part a rest) f n h i l = bound_other a _ h
opens_node (expression BareArrowBlock) none f n h i l = absurd (false≢true h)
opens_node (expression BareArrowBlock) (part a rest) f n h i l = bound_other a _ h
opens_node (expression Seq) none f n h i l = absurd (false≢true h)
opens_node (expression Seq) (part (list none) rest) f n h i l = absurd (false≢true h)
opens_node (expression Seq) (part (list (part u us)) rest) f n h i l =
    let x = and_parts (enough TwoOrMore (part u us) && last_only (part u us)) _ h in let y = and_parts (loose_each (Expr 1) (part u us)) _ x.1 in leads_by (Expr 1) u _ l refl refl y.0
opens_node (expression Seq) (part (leaf s x) rest) f n h i l = absurd (false≢true h)
opens_node (expression Seq) (part (node k cs) rest) f n h i l = absurd (false≢true h)
opens_node (expression (PlainTemplate false)) none f n h i l = absurd (false≢true h)
opens_node (expression (PlainTemplate false)) (part a rest) f n h i l = plain_other a _ h
opens_node (expression (SubstitutedTemplate false)) none f n h i l = absurd (false≢true h)
opens_node (expression (SubstitutedTemplate false)) (part a rest) f n h i l = head_other a _ h
opens_node (expression Arrow) cs f n h i l = (refl, refl)
opens_node (expression ArrowBlock) cs f n h i l = (refl, refl)
opens_node (expression (Unary Delete)) cs f n h i l = (refl, refl)
opens_node (expression (Unary Void)) cs f n h i l = (refl, refl)
opens_node (expression (Unary TypeOf)) cs f n h i l = (refl, refl)
opens_node (expression (Unary Positive)) cs f n h i l = (refl, refl)
opens_node (expression (Unary Negative)) cs f n h i l = (refl, refl)
opens_node (expression (Unary Complement)) cs f n h i l = (refl, refl)
opens_node (expression (Unary Not)) cs f n h i l = (refl, refl)
opens_node (expression (PrefixUpdate Increment)) cs f n h i l = (refl, refl)
opens_node (expression (PrefixUpdate Decrement)) cs f n h i l = (refl, refl)
opens_node (expression New) cs f n h i l = (refl, refl)
opens_node (expression NewWithoutArguments) cs f n h i l = (refl, refl)
opens_node (expression SuperCall) cs f n h i l = (refl, refl)
opens_node (expression SuperMember) cs f n h i l = (refl, refl)
opens_node (expression SuperIndex) cs f n h i l = (refl, refl)
opens_node (expression ImportCall) cs f n h i l = (refl, refl)
opens_node (expression ImportMeta) cs f n h i l = (refl, refl)
opens_node (expression NewTarget) cs f n h i l = (refl, refl)
opens_node (expression Array) cs f n h i l = (refl, refl)
opens_node (expression Object) cs f n h i l = (refl, refl)
opens_node (expression Parenthesized) cs f n h i l = (refl, refl)
opens_node (function FunctionExpr) cs f n h i l = (refl, refl)
opens_node (function ClassExpr) cs f n h i l = (refl, refl)
opens_node (function (ArrayPat Assigns)) cs f n h i l = (refl, refl)
opens_node (function (ObjectPat Assigns)) cs f n h i l = (refl, refl)
opens_node (function ParenTarget) cs f n h i l = (refl, refl)
opens_node (jsx k) cs f n h i l = absurd (false≢true n)
opens_node k cs f n h i l = absurd (false≢true (other_kind (listed k) (fronts k) (listed_fronts k) f))

paren_opens : (v : Bool) (t : Tree) (o : Opening) → (v ≡ true → o ≡ first.Other) → (v ≡ false → Opens t o) → Opens (cond v (parens_of t) t) o
paren_opens true t o p q = (refl, sym (p refl))
paren_opens false t o p q = q refl

-- a node at its place gets a pair by its rank
pub node_wants : (c : Nonterminal) (k : Kind) (cs ds : Forest) (v : Bool) → asks c ≡ v → front c ≡ true → at_17 c ≡ true → may_stand c (node k cs) ≡ true → shaped_new k ds ≡ true → wants c [] (node k ds) ≡ low (place_at c []) (kind_rank k)
node_wants c k cs ds true a f l m s = wanted_node c k ds a l (front_new c f) s ∙ ap (λ v. v && low (place_at c []) (kind_rank k)) (may_expr c k cs a f m)
node_wants c k cs ds false a f l m s = ap (λ v. v && (is_expression (node k ds) && (not (admits c (as_laid (node k ds))) || (among (first_token (spelled (node k ds))) [] || is_dotted_number c (node k ds))))) a ∙ sym (quiet_low c (kind_rank k) a f)

-- `new F` keeps its one part
pub new_shaped : (k : Kind) (cs : Forest) → loose_slots (positions k) cs ≡ true → shaped_new k (dresses (positions k) cs) ≡ true
new_shaped (expression NewWithoutArguments) none h = absurd (false≢true h)
new_shaped (expression NewWithoutArguments) (part a none) h = refl
new_shaped (expression NewWithoutArguments) (part a (part b bs)) h = absurd (false≢true (and_parts (loose NewCallee a) _ (and_parts (may_stand NewCallee a) _ h).1).1)
new_shaped k cs h = refl

pub leaf_opens : (c : Nonterminal) (s : TokenKind) (x : Text) → front c ≡ true → at_17 c ≡ true → may_stand c (leaf s x) ≡ true → loose c (leaf s x) ≡ true → Opens (leaf s x) first.Other
leaf_opens c s x f l m h = let r = and_parts (is_leaf s x) (is_solid s) h in (leaf_led c s x f (leaf_at c s x f l m), leaf_other c s x f (leaf_at c s x f l m) r.0 r.1)

mutual
  pub first_of : (t : Tree) → FirstOf t
  first_of (leaf s x) c f l m h =
      paren_opens (wants c [] (leaf s x)) (leaf s x) first.Other (λ e. refl) (λ e. leaf_opens c s x f l m h)
  first_of (list ts) c f l m h = absurd (⊎_elim (λ p. false≢true (and_parts (asks c) false p).1) (λ p. false≢true p) (or_cases (asks c && false) false m))
  first_of (node k cs) c f l m h =
      let q = and_parts (is_no_jsx k) (loose_slots (positions k) cs) h in
      let w = node_wants c k cs (dresses (positions k) cs) (asks c) refl f l m (new_shaped k cs q.1) ∙ ap (low (place_at c [])) (sym (rank_node k cs)) in
      paren_opens (wants c [] (node k (dresses (positions k) cs))) (node k (dresses (positions k) cs)) (opening_at (place_at c []) (node k cs))
      (λ e. ap (λ v. cond v first.Other (opening (node k cs))) (sym w ∙ e))
      (λ e. subst (λ o. Opens (node k (dresses (positions k) cs)) o) (ap (λ v. cond v first.Other (opening (node k cs))) (sym (sym w ∙ e))) (opens_node k cs (may_fronts c k cs (asks c) refl f m) q.0 q.1 (firsts_of cs) (lists_of cs)))

  firsts_of : (ts : Forest) → FirstsOf ts
  firsts_of none = tt
  firsts_of (part t ts) = first_of t

  lists_of : (ts : Forest) → ListsOf ts
  lists_of none = tt
  lists_of (part t ts) = list_of t

  list_of : (t : Tree) → ListOf t
  list_of (leaf s x) = tt
  list_of (node k cs) = tt
  list_of (list ts) = firsts_of ts

-- what an expression begins with
pub opens : (k : Kind) (cs : Forest) → expr_kind k ≡ true → is_no_jsx k ≡ true → loose_slots (positions k) cs ≡ true → Opens (node k (dresses (positions k) cs)) (opening (node k cs))
opens k cs e n h = opens_node k cs (or_left (expr_kind k) _ e) n h (firsts_of cs) (lists_of cs)
