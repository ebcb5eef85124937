-- With which words an expression begins, for every kind at once.
use Rattle.std.proofs.Common.{◌≡◌, ℕ, nat_eq, nat_le, Bool, true, false, not, List, [], ◌∷◌, refl, sym, ◌∙◌, ap, subst}
use Rattle.std.specs.Prelude.{IsTrue, codes, ◌&&◌, ◌||◌}
use Rattle.std.proofs.lemmas.Bool.{eqb-true}
use Rattle.jsx_base.specs.Token.{Text, Operand, Operator, TokenKind, IdentifierName, Punctuator, NumericLiteral, BigIntLiteral, StringLiteral, RegExpLiteral, NoSubstitution, TemplateHead, TemplateMiddle, TemplateTail, JsxName, JsxString, JsxText, Elision, NoToken, is_kind, is_token, at_front, breaks, skip, same, among, first_is}
use Rattle.jsx_tree.specs.Signs.{Tok, Unless, AfterExpr}
use Rattle.jsx_tree.specs.Kinds.{Tree, leaf, node, list, Forest, none, part, Kind, VarWord, LetWord, ConstWord, Imported, Exported, From, Specifier, SpecifierAs, Var, InObject, InClass, Static, Binds, Assigns, Method, Getter, Setter, Field, ArrayPat, ObjectPat, PropertyPat, ShorthandPat, ShorthandInit, WithInit, RestPat, RestProperty, Nullish, Equal, Delete, Seq, OpAssign, Binary, Unary, PlainTemplate, SubstitutedTemplate, TemplateSpan, Element, program, statement, function, expression, jsx}
use Rattle.jsx_tree.specs.Nonterminals.{Nonterminal, Expr, MemberObject, SimpleTarget, Ident, BindingIdent, Pat, NullishLeft, NullishOnly, NewCallee, DotObject, ForOfHead, Argument, ArrayItem, ForInit, ForHead, ImportClause, Param, SetterParam, PatElement, Slot, Name, Key, MemberRoot, MemberPart, number, takes, in_list, in_homes, homes, word_in, literal_homes, leaf_in, is_value_word, is_ident, is_bound}
use Rattle.jsx_tree.specs.Grammar.{TwoOrMore, Context, Fixed, Part, Many}
use Rattle.jsx_tree.specs.Form.{enough, admits, fits_below, is_leaf}
use Rattle.jsx_tree.specs.Spelling.{spelled}
use Rattle.jsx_tree.specs.Reading.{Place, Lost, At, forth, scan}
use Rattle.jsx_tree.specs.StaticRules.{Surroundings}
use Rattle.jsx_base.proofs.Fronts.{NoneAhead}
use Rattle.jsx_tree.proofs.Tokens.{and_left, and_right, one_text, same_self}
use Rattle.jsx_tree.proofs.Apart.{clash, never_both, less_other}
use Rattle.jsx_base.proofs.Fronts.{other_ahead}
use Rattle.jsx_tree.specs.Grows.{any_of}
use Rattle.jsx_tree.specs.Walk.{is_found, Piece, piece, row, IsRead, Items, nil, last, more, sign, tree, many, Walk, next}
use Rattle.jsx_tree.proofs.Rows.Bridge.{node_walk, found_at}
use Rattle.jsx_tree.proofs.Rows.Stopping.{or_cases, is_not, found_if, stays}

-- a word with which an expression may begin
abbrev pub is_head : Text → Bool
is_head t = is_value_word t || among t (codes "function" ∷ codes "class" ∷ codes "new" ∷ codes "delete" ∷ codes "void" ∷ codes "typeof" ∷ codes "super" ∷ codes "import" ∷ [])

-- expressions, targets, names that are bound, pieces of templates: by their numbers
abbrev pub tame_numbers : List ℕ
tame_numbers = 0 ∷ 1 ∷ 2 ∷ 3 ∷ 4 ∷ 8 ∷ 22 ∷ 23 ∷ 56 ∷ 57 ∷ 58 ∷ 59 ∷ []

abbrev pub tame : Nonterminal → Bool
tame c = any_of (number c) tame_numbers

abbrev pub any_tame : List Nonterminal → Bool
any_tame [] = false
any_tame (c ∷ cs) = tame c || any_tame cs

-- whether a row begins with such a word, with a mark, or with what is tame
abbrev pub tame_row : List Piece → Bool
tame_row (piece a (Fixed (Tok Operator IdentifierName t)) ∷ ps) = is_head t
tame_row (piece a (Fixed (Tok Operator Punctuator t)) ∷ ps) = true
tame_row (piece a (Fixed (Tok Operand Punctuator (d ∷ []))) ∷ ps) = nat_eq d 60
tame_row (piece a (Part c) ∷ ps) = tame c
tame_row (piece a (Many TwoOrMore c) ∷ ps) = tame c
tame_row ps = false

abbrev pub fine : Kind → Bool
fine k = not (any_tame (homes k)) || tame_row (row false k)

list_tame : (c : Nonterminal) (ds : List Nonterminal) → tame c ≡ true → in_list c ds ≡ true → any_tame ds ≡ true
list_tame c [] t e = cc
list_tame c (d ∷ ds) t e = or_cases (takes c d) (in_list c ds) e
    (λ h. ap (λ n. any_of n tame_numbers || any_tame ds) (sym (eqb-true (number c) (number d) (and_left (nat_eq (number c) (number d)) _ h))) ∙ ap (λ b. b || any_tame ds) t) (λ h. or_right (tame d) (list_tame c ds t h))
  where
    or_right : (a : Bool) {b : Bool} → b ≡ true → (a || b) ≡ true
    or_right true e = refl
    or_right false e = e

homes_tame : (c : Nonterminal) (ds : List Nonterminal) → tame c ≡ true → in_homes c ds ≡ true → any_tame ds ≡ true
homes_tame NullishLeft ds t e = or_cases (in_list (Expr 6) ds) (in_list NullishOnly ds) e (list_tame (Expr 6) ds refl) (list_tame NullishOnly ds refl)
homes_tame NewCallee ds t e = list_tame (Expr 17) ds refl e
homes_tame DotObject ds t e = list_tame MemberObject ds refl e
homes_tame ForOfHead ds t e = cc
homes_tame (Expr n) ds t e = list_tame (Expr n) ds t e
homes_tame c ds t e = list_tame c ds t e

-- ---- a tree that begins with a word

-- what is said of a tree, or of the first tree of a list
record Begins (d : ℕ) (w : Text) (t : Tree) : Type 0 where
  alone : (v : Surroundings) (c : Nonterminal) (x y : Place) → tame c ≡ true → IsRead v false c x t y → IsTrue (is_found (forth (Tok Operator IdentifierName (d ∷ w)) x)) → is_head (d ∷ w) ≡ true

record BeginsList (d : ℕ) (w : Text) (t : Tree) : Type 0 where
  one : Begins d w t
  listed : (u : Tree) (us : Forest) → t ≡ list (part u us) → Begins d w u

mutual
  -- by the first part of each node and the first tree of each list
  pub first_rec : (P : Tree → Type 0) → ((k : TokenKind) (t : Text) → P (leaf k t)) → ((k : Kind) → P (node k none)) → ((k : Kind) (t : Tree) (ts : Forest) → P t → P (node k (part t ts))) → P (list none) → ((t : Tree) (ts : Forest) → P t → P (list (part t ts))) → (t : Tree) → P t
  first_rec P l e n f g (leaf k t) = l k t
  first_rec P l e n f g (node k ts) = first_node P l e n f g k ts
  first_rec P l e n f g (list ts) = first_list P l e n f g ts

  first_node : (P : Tree → Type 0) → ((k : TokenKind) (t : Text) → P (leaf k t)) → ((k : Kind) → P (node k none)) → ((k : Kind) (t : Tree) (ts : Forest) → P t → P (node k (part t ts))) → P (list none) → ((t : Tree) (ts : Forest) → P t → P (list (part t ts))) → (k : Kind) (ts : Forest) → P (node k ts)
  first_node P l e n f g k none = e k
  first_node P l e n f g k (part t ts) = n k t ts (first_rec P l e n f g t)

  first_list : (P : Tree → Type 0) → ((k : TokenKind) (t : Text) → P (leaf k t)) → ((k : Kind) → P (node k none)) → ((k : Kind) (t : Tree) (ts : Forest) → P t → P (node k (part t ts))) → P (list none) → ((t : Tree) (ts : Forest) → P t → P (list (part t ts))) → (ts : Forest) → P (list ts)
  first_list P l e n f g none = f
  first_list P l e n f g (part t ts) = g t ts (first_rec P l e n f g t)

-- ---- leaves

one_word : (r w : Text) (x : Place) → IsTrue (is_found (forth (Tok Operator IdentifierName r) x)) → IsTrue (is_found (forth (Tok Operator IdentifierName w) x)) → is_head r ≡ true → is_head w ≡ true
one_word r w x f g h = subst (λ t. is_head t ≡ true) (one_text Operator IdentifierName r w x f g) h

or_left : (a b : Bool) → a ≡ true → (a || b) ≡ true
or_left a b e = ap (λ c. c || b) e

value_head : (r : Text) → is_value_word r ≡ true → is_head r ≡ true
value_head r e = or_left (is_value_word r) _ e

ident_head : (r : Text) → is_ident r ≡ true → is_head r ≡ true
ident_head r e = value_head r (or_left (is_ident r) _ e)

bound_head : (r : Text) → is_bound r ≡ true → is_head r ≡ true
bound_head r e = ident_head r (and_left (is_ident r) _ e)

word_tame : (c : Nonterminal) (r : Text) → tame c ≡ true → word_in c r ≡ true → is_head r ≡ true
word_tame (Expr n) r t e = value_head r (and_right (nat_le n 18) _ e)
word_tame MemberObject r t e = value_head r e
word_tame NullishLeft r t e = value_head r e
word_tame NewCallee r t e = value_head r e
word_tame DotObject r t e = value_head r e
word_tame Argument r t e = value_head r e
word_tame ArrayItem r t e = value_head r e
word_tame ForInit r t e = value_head r e
word_tame Ident r t e = ident_head r e
word_tame BindingIdent r t e = bound_head r e
word_tame SimpleTarget r t e = bound_head r e
word_tame (Pat s) r t e = bound_head r e
word_tame (PatElement s) r t e = bound_head r e
word_tame (Slot s) r t e = bound_head r e
word_tame Param r t e = bound_head r e
word_tame SetterParam r t e = bound_head r e
word_tame ForHead r t e = bound_head r e
word_tame ImportClause r t e = bound_head r e
word_tame ForOfHead r t e = bound_head r (and_left (is_bound r) _ e)
word_tame Name r t e = cc
word_tame Key r t e = cc
word_tame _ r t e = cc

pub no_slash : (d : ℕ) (f : Bool) (r s : Text) → ((s : Text) → NoneAhead Operand RegExpLiteral (d ∷ s)) → is_token (at_front Operand f s) RegExpLiteral r ≡ true → first_is (nat_eq d) s ≡ true → ⊥
no_slash d f r [] n e h = cc
no_slash d f r (c ∷ s) n e h =
    clash _ (and_left (is_kind (at_front Operand f (d ∷ s)).kind RegExpLiteral) _ (subst (λ b. is_token (at_front Operand f (b ∷ s)) RegExpLiteral r ≡ true) (sym (eqb-true d c h)) e)) ((n s).none f)

begins_with : (d : ℕ) (w : Text) (f : Bool) (s : Text) → is_token (at_front Operator f s) IdentifierName (d ∷ w) ≡ true → (b : Bool) → first_is (nat_eq d) s ≡ b → first_is (nat_eq d) s ≡ true
begins_with d w f s e true h = h
begins_with d w f s e false h = absurd (clash _ e ((other_ahead IdentifierName d w Operator s h).not_it f))

no_regexp : (d : ℕ) (w r : Text) (x : Place) → ((s : Text) → NoneAhead Operand RegExpLiteral (d ∷ s)) → IsTrue (is_found (forth (Tok Operand RegExpLiteral r) x)) → IsTrue (is_found (forth (Tok Operator IdentifierName (d ∷ w)) x)) → ⊥
no_regexp d w r Lost n f g = cc
no_regexp d w r (At q e text) n f g =
    let fresh = same q [] || breaks text in
    no_slash d fresh r (skip text) n (found_if (is_token (at_front Operand fresh (skip text)) RegExpLiteral r) (At r AfterExpr (at_front Operand fresh (skip text)).rest) f)
    (begins_with d w fresh (skip text) (found_if (is_token (at_front Operator fresh (skip text)) IdentifierName (d ∷ w)) (At (d ∷ w) AfterExpr (at_front Operator fresh (skip text)).rest) g) _ refl)

no_home : (c : Nonterminal) (ds : List Nonterminal) → tame c ≡ true → any_tame ds ≡ false → in_homes c ds ≡ true → ⊥
no_home c ds t e h = clash _ (homes_tame c ds t h) e

jsx_home : (c : Nonterminal) (r : Text) → tame c ≡ true → leaf_in c JsxName r ≡ true → ⊥
jsx_home MemberRoot r t h = cc
jsx_home MemberPart r t h = cc
jsx_home (Expr n) r t h = no_home (Expr n) (literal_homes JsxName) t refl h
jsx_home c r t h = no_home c (literal_homes JsxName) t refl h

pub other_leaf : (d : ℕ) (w : Text) (k : TokenKind) (r : Text) (x : Place) → is_kind k IdentifierName ≡ false → IsTrue (is_found (forth (Tok Operator k r) x)) → IsTrue (is_found (forth (Tok Operator IdentifierName (d ∷ w)) x)) → ⊥
other_leaf d w k r x n f g = never_both k IdentifierName r (d ∷ w) x (ap (λ b. b && same r (d ∷ w)) n) f g

leaf_word : (d : ℕ) (w : Text) → ((s : Text) → NoneAhead Operand RegExpLiteral (d ∷ s)) → (k : TokenKind) (r : Text) (c : Nonterminal) (x : Place) → tame c ≡ true → leaf_in c k r ≡ true → IsTrue (is_found (scan x (spelled (leaf k r)))) → IsTrue (is_found (forth (Tok Operator IdentifierName (d ∷ w)) x)) → is_head (d ∷ w) ≡ true
leaf_word d w n IdentifierName r c x t h f g = one_word r (d ∷ w) x f g (word_tame c r t h)
leaf_word d w n RegExpLiteral r c x t h f g = absurd (no_regexp d w r x n f g)
leaf_word d w n JsxName r c x t h f g = absurd (jsx_home c r t h)
leaf_word d w n JsxString r c x t h f g = absurd (no_home c (literal_homes JsxString) t refl h)
leaf_word d w n JsxText r c x t h f g = absurd (no_home c (literal_homes JsxText) t refl h)
leaf_word d w n Elision r c x t h f g = absurd (no_home c (literal_homes Elision) t refl h)
leaf_word d w n TemplateMiddle r c x t h f g = absurd (no_home c (literal_homes TemplateMiddle) t refl h)
leaf_word d w n TemplateTail r c x t h f g = absurd (no_home c (literal_homes TemplateTail) t refl h)
leaf_word d w n Punctuator r c x t h f g = absurd (other_leaf d w Punctuator r x refl f g)
leaf_word d w n NumericLiteral r c x t h f g = absurd (other_leaf d w NumericLiteral r x refl f g)
leaf_word d w n BigIntLiteral r c x t h f g = absurd (other_leaf d w BigIntLiteral r x refl f g)
leaf_word d w n StringLiteral r c x t h f g = absurd (other_leaf d w StringLiteral r x refl f g)
leaf_word d w n NoSubstitution r c x t h f g = absurd (other_leaf d w NoSubstitution r x refl f g)
leaf_word d w n TemplateHead r c x t h f g = absurd (other_leaf d w TemplateHead r x refl f g)
leaf_word d w n NoToken r c x t h f g = absurd (no_home c [] t refl h)

-- ---- rows

items_word : (d : ℕ) (w : Text) {v : Surroundings} {c : Nonterminal} {x y : Place} {vs : Forest} → tame c ≡ true → enough TwoOrMore vs ≡ true → BeginsList d w (list vs) → Items IsRead v TwoOrMore c x vs y → IsTrue (is_found (forth (Tok Operator IdentifierName (d ∷ w)) x)) → is_head (d ∷ w) ≡ true
items_word d w t e b (nil f) g = cc
items_word d w {v} {c} {x} t e b (last {y = z} {t = u} r h f) g = (b.listed u none refl).alone v c x z t r g
items_word d w {v} {c} {x} t e b (more {y = z} {t = u} {u = u'} {us = us} n r h all) g = (b.listed u (part u' us) refl).alone v c x z t r g

mark_word : (d c : ℕ) (w : Text) (x : Place) → nat_eq d 60 ≡ false → nat_eq c 60 ≡ true → IsTrue (is_found (forth (Tok Operand Punctuator (c ∷ [])) x)) → IsTrue (is_found (forth (Tok Operator IdentifierName (d ∷ w)) x)) → ⊥
mark_word d c w x n e f g = less_other IdentifierName d w x n ((subst (λ b. IsTrue (is_found (forth (Tok Operand Punctuator (b ∷ [])) x))) (eqb-true c 60 e) f)) g

row_word : (d : ℕ) (w : Text) {V : List Context → Surroundings} (ps : List Piece) {x y : Place} {us : Forest} → nat_eq d 60 ≡ false → tame_row ps ≡ true → ((t : Tree) (ts : Forest) → us ≡ part t ts → BeginsList d w t) → Walk IsRead V ps x us y → IsTrue (is_found (forth (Tok Operator IdentifierName (d ∷ w)) x)) → is_head (d ∷ w) ≡ true
row_word d w (piece a (Fixed (Tok Operator IdentifierName t)) ∷ ps) {x} n r b (next (sign e f) walk) g = one_word t (d ∷ w) x (found_at e f) g r
row_word d w (piece a (Fixed (Tok Operator Punctuator t)) ∷ ps) {x} n r b (next (sign e f) walk) g = absurd (other_leaf d w Punctuator t x refl (found_at e f) g)
row_word d w (piece a (Fixed (Tok Operand Punctuator (c ∷ []))) ∷ ps) {x} n r b (next (sign e f) walk) g = absurd (mark_word d c w x n r (found_at e f) g)
row_word d w {V} (piece a (Part c) ∷ ps) {x} n r b (next {y = z} {ts = us} (tree {t = t} q) walk) g = (b t us refl).one.alone (V a) c x z r q g
row_word d w (piece a (Many TwoOrMore c) ∷ ps) n r b (next {ts = us} (many {ts = vs} e all) walk) g = items_word d w r e (b (list vs) us refl) all g
row_word d w _ n r b walk g = cc

-- ---- every kind

fine_all : (k : Kind) → fine k ≡ true
fine_all (program (Specifier Imported)) = refl
fine_all (program (Specifier Exported)) = refl
fine_all (program (Specifier From)) = refl
fine_all (program (SpecifierAs Imported)) = refl
fine_all (program (SpecifierAs Exported)) = refl
fine_all (program (SpecifierAs From)) = refl
fine_all (program _) = refl
fine_all (statement (Var VarWord)) = refl
fine_all (statement (Var LetWord)) = refl
fine_all (statement (Var ConstWord)) = refl
fine_all (statement _) = refl
fine_all (function (Method InObject)) = refl
fine_all (function (Method InClass)) = refl
fine_all (function (Method Static)) = refl
fine_all (function (Getter InObject)) = refl
fine_all (function (Getter InClass)) = refl
fine_all (function (Getter Static)) = refl
fine_all (function (Setter InObject)) = refl
fine_all (function (Setter InClass)) = refl
fine_all (function (Setter Static)) = refl
fine_all (function (Field InObject)) = refl
fine_all (function (Field InClass)) = refl
fine_all (function (Field Static)) = refl
fine_all (function (ArrayPat Binds)) = refl
fine_all (function (ArrayPat Assigns)) = refl
fine_all (function (ObjectPat Binds)) = refl
fine_all (function (ObjectPat Assigns)) = refl
fine_all (function (PropertyPat Binds)) = refl
fine_all (function (PropertyPat Assigns)) = refl
fine_all (function (ShorthandPat Binds)) = refl
fine_all (function (ShorthandPat Assigns)) = refl
fine_all (function (ShorthandInit Binds)) = refl
fine_all (function (ShorthandInit Assigns)) = refl
fine_all (function (WithInit Binds)) = refl
fine_all (function (WithInit Assigns)) = refl
fine_all (function (RestPat Binds)) = refl
fine_all (function (RestPat Assigns)) = refl
fine_all (function (RestProperty Binds)) = refl
fine_all (function (RestProperty Assigns)) = refl
fine_all (function _) = refl
fine_all (expression (OpAssign Equal)) = refl
fine_all (expression (OpAssign _)) = refl
fine_all (expression (Binary Nullish)) = refl
fine_all (expression (Binary _)) = refl
fine_all (expression (Unary Delete)) = refl
fine_all (expression (Unary _)) = refl
fine_all (expression (PlainTemplate true)) = refl
fine_all (expression (PlainTemplate false)) = refl
fine_all (expression (SubstitutedTemplate true)) = refl
fine_all (expression (SubstitutedTemplate false)) = refl
fine_all (expression (TemplateSpan true)) = refl
fine_all (expression (TemplateSpan false)) = refl
fine_all (expression Seq) = refl
fine_all (expression _) = refl
fine_all (jsx Element) = refl
fine_all (jsx _) = refl

pub kind_home : (c : Nonterminal) (k : Kind) (us : Forest) → admits c (node k us) ≡ true → in_homes c (homes k) ≡ true
kind_home NewCallee k us e = and_left (in_homes NewCallee (homes k)) _ e
kind_home (Expr n) k us e = e
kind_home _ k us e = e

tame_kind : (k : Kind) → fine k ≡ true → any_tame (homes k) ≡ true → tame_row (row false k) ≡ true
tame_kind k f a = or_cases (not (any_tame (homes k))) (tame_row (row false k)) f (λ n. absurd (clash _ a (is_not _ n))) (λ r. r)

node_begins : (d : ℕ) (w : Text) → nat_eq d 60 ≡ false → (k : Kind) (us : Forest) → ((t : Tree) (ts : Forest) → us ≡ part t ts → BeginsList d w t) → BeginsList d w (node k us)
node_begins d w n k us b = record {
  one = record { alone = λ v c x y t r g. row_word d w (row false k) n (tame_kind k (fine_all k) (homes_tame c (homes k) t (kind_home c k us (and_left (admits c (node k us)) _ r.is)))) b (node_walk false k refl r).walk g };
  listed = λ u vs e. cc;
}

list_begins : (d : ℕ) (w : Text) (ts : Forest) → ((u : Tree) (us : Forest) → list ts ≡ list (part u us) → Begins d w u) → BeginsList d w (list ts)
list_begins d w ts f = record { one = record { alone = λ v c x y t r g. absurd (clash _ (and_left (admits c (list ts)) (fits_below c (list ts)) r.is) refl) }; listed = f }

leaf_begins : (d : ℕ) (w : Text) → ((s : Text) → NoneAhead Operand RegExpLiteral (d ∷ s)) → (k : TokenKind) (r : Text) → BeginsList d w (leaf k r)
leaf_begins d w n k r = record {
  one = record { alone = λ v c x y t q g. leaf_word d w n k r c x t (and_left (leaf_in c k r) (is_leaf k r) q.is) (found_at q.scans q.found) g };
  listed = λ u vs e. cc;
}

head_is : {t u : Tree} {ts us : Forest} → list (part t ts) ≡ list (part u us) → t ≡ u
head_is e = cc

part_is : {t u : Tree} {ts us : Forest} → part t ts ≡ part u us → t ≡ u
part_is e = cc

begins : (d : ℕ) (w : Text) → nat_eq d 60 ≡ false → ((s : Text) → NoneAhead Operand RegExpLiteral (d ∷ s)) → (t : Tree) → BeginsList d w t
begins d w n s = first_rec (BeginsList d w) (leaf_begins d w s) (λ k. node_begins d w n k none (λ t ts e. cc)) (λ k t ts b. node_begins d w n k (part t ts) (λ u us e. subst (BeginsList d w) (part_is e) b))
    (list_begins d w none (λ u us e. cc)) (λ t ts b. list_begins d w (part t ts) (λ u us e. subst (Begins d w) (head_is e) b.one))

-- no expression begins with a word that none may begin with
pub no_expression : (d : ℕ) (w : Text) {v : Surroundings} {c : Nonterminal} {x y : Place} {t : Tree} → nat_eq d 60 ≡ false → ((s : Text) → NoneAhead Operand RegExpLiteral (d ∷ s)) → is_head (d ∷ w) ≡ false → tame c ≡ true → IsTrue (is_found (forth (Tok Operator IdentifierName (d ∷ w)) x)) → IsRead v false c x t y → ⊥
no_expression d w {v} {c} {x} {y} {t} n s h m g r = clash _ ((begins d w n s t).one.alone v c x y m r g) h

-- ---- a row that begins with a word

-- whether a row may begin with a word that no expression begins with
abbrev pub key_row : Text → List Piece → Bool
key_row w (piece a (Fixed (Tok Operator IdentifierName t)) ∷ ps) = same t w
key_row w (piece a (Fixed (Tok Operator Punctuator t)) ∷ ps) = false
key_row w (piece a (Fixed (Unless ts)) ∷ ps) = key_row w ps
key_row w (piece a (Part c) ∷ ps) = not (tame c)
key_row w ps = true

-- no expression begins with the word
pub record Keyed (d : ℕ) (w : Text) : Type 0 where
  pub no_less : nat_eq d 60 ≡ false
  pub no_slash : (s : Text) → NoneAhead Operand RegExpLiteral (d ∷ s)
  pub no_head : is_head (d ∷ w) ≡ false

by_tame : (b : Bool) {A : Type 0} → (b ≡ true → A) → (not b ≡ true → A) → A
by_tame true f g = f refl
by_tame false f g = g refl

pub row_key : (d : ℕ) (w : Text) {V : List Context → Surroundings} (ps : List Piece) {x y : Place} {us : Forest} → Keyed d w → Walk IsRead V ps x us y → IsTrue (is_found (forth (Tok Operator IdentifierName (d ∷ w)) x)) → key_row (d ∷ w) ps ≡ true
row_key d w (piece a (Fixed (Tok Operator IdentifierName t)) ∷ ps) {x} k (next (sign e f) walk) g =
    subst (λ u. same u (d ∷ w) ≡ true) (sym (one_text Operator IdentifierName t (d ∷ w) x ((found_at e f)) g)) (same_self (d ∷ w))
row_key d w (piece a (Fixed (Tok Operator Punctuator t)) ∷ ps) {x} k (next (sign e f) walk) g = absurd (other_leaf d w Punctuator t x refl (found_at e f) g)
row_key d w (piece a (Fixed (Unless ts)) ∷ ps) {x} k (next (sign e f) walk) g = row_key d w ps k walk (subst (λ p. IsTrue (is_found (forth (Tok Operator IdentifierName (d ∷ w)) p))) (sym (stays (Unless ts) x refl (found_at e f)) ∙ e) g)
row_key d w (piece a (Part c) ∷ ps) k (next (tree q) walk) g = by_tame (tame c) (λ t. absurd (no_expression d w k.no_less k.no_slash k.no_head t g q)) (λ n. n)
row_key d w _ k walk g = refl
