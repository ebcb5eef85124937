-- Where no expression begins: before a bracket that closes, a comma, a semicolon. For every kind at once.
use Rattle.std.proofs.Common.{◌≡◌, ℕ, nat_eq, Bool, true, false, not, List, [], ◌∷◌, refl, sym, ◌∙◌, ap, subst}
use Rattle.std.specs.Prelude.{Some, IsTrue, codes, ◌&&◌, ◌||◌}
use Rattle.std.proofs.lemmas.Bool.{eqb-true}
use Rattle.jsx_base.specs.Token.{Text, Mode, Operand, Operator, TokenKind, IdentifierName, Punctuator, NumericLiteral, BigIntLiteral, StringLiteral, RegExpLiteral, NoSubstitution, TemplateHead, TemplateMiddle, TemplateTail, JsxName, JsxString, JsxText, Elision, NoToken, is_kind, is_token, at_front, breaks, skip, same, among, first_is}
use Rattle.jsx_tree.specs.Signs.{Tok, AfterExpr}
use Rattle.jsx_tree.specs.Kinds.{Tree, leaf, node, list, Forest, none, part, Kind, VarWord, LetWord, ConstWord, Imported, Exported, From, Specifier, SpecifierAs, Var, InObject, InClass, Static, Binds, Assigns, Method, Getter, Setter, Field, ArrayPat, ObjectPat, PropertyPat, ShorthandPat, ShorthandInit, WithInit, RestPat, RestProperty, Nullish, Equal, Delete, Seq, OpAssign, Binary, Void, TypeOf, Positive, Negative, Complement, Not, PrefixUpdate, Increment, Decrement, Unary, PlainTemplate, SubstitutedTemplate, TemplateSpan, Element, program, statement, function, expression, jsx}
use Rattle.jsx_tree.specs.Nonterminals.{Nonterminal, Expr, MemberObject, NullishLeft, NullishOnly, NewCallee, DotObject, ForOfHead, MemberRoot, MemberPart, number, takes, in_list, in_homes, homes, literal_homes, leaf_in}
use Rattle.jsx_tree.specs.Grammar.{TwoOrMore, Context, Fixed, Part, Many}
use Rattle.jsx_tree.specs.Form.{enough, admits, fits_below, is_leaf}
use Rattle.jsx_tree.specs.Spelling.{spelled}
use Rattle.jsx_tree.specs.Reading.{Place, Lost, At, forth, scan}
use Rattle.jsx_tree.specs.StaticRules.{Surroundings}
use Rattle.jsx_base.proofs.Fronts.{NoneAhead}
use Rattle.jsx_tree.proofs.Tokens.{and_left, one_text, same_is}
use Rattle.jsx_tree.proofs.Apart.{clash, never_both, less_other}
use Rattle.jsx_base.proofs.Fronts.{other_ahead}
use Rattle.jsx_tree.specs.Walk.{is_found, Piece, piece, row, IsRead, Items, nil, last, more, sign, tree, many, Walk, next}
use Rattle.jsx_tree.specs.Grows.{starts, any_of, operand_numbers, is_operand}
use Rattle.jsx_tree.proofs.Rows.Bridge.{node_walk, found_at}
use Rattle.jsx_tree.proofs.Rows.Stopping.{or_cases, found_if}
use Rattle.jsx_tree.proofs.Rows.Firsts.{first_rec, kind_home, no_slash}

-- ---- what an expression begins with

abbrev pub openers : List Text
openers = codes "(" ∷ codes "[" ∷ codes "{" ∷ codes "..." ∷ codes "+" ∷ codes "-" ∷ codes "~" ∷ codes "!" ∷ codes "++" ∷ codes "--" ∷ []

abbrev pub opens : Mode → TokenKind → Text → Bool
opens Operator Punctuator t = among t openers
opens Operator IdentifierName t = true
opens Operator NumericLiteral t = true
opens Operator BigIntLiteral t = true
opens Operator StringLiteral t = true
opens Operator NoSubstitution t = true
opens Operator TemplateHead t = true
opens Operand Punctuator t = same t (codes "<")
opens Operand RegExpLiteral t = true
opens m k t = false

abbrev pub any_operand : List Nonterminal → Bool
any_operand [] = false
any_operand (c ∷ cs) = is_operand c || any_operand cs

abbrev shut_row : List Piece → Bool
shut_row (piece a (Fixed (Tok m k t)) ∷ ps) = opens m k t
shut_row (piece a (Part c) ∷ ps) = is_operand c
shut_row (piece a (Many TwoOrMore c) ∷ ps) = is_operand c
shut_row ps = false

abbrev shut_kind : Kind → Bool
shut_kind k = not (any_operand (homes k)) || shut_row (row false k)

list_operand : (c : Nonterminal) (ds : List Nonterminal) → is_operand c ≡ true → in_list c ds ≡ true → any_operand ds ≡ true
list_operand c [] t e = cc
list_operand c (d ∷ ds) t e = or_cases (takes c d) (in_list c ds) e
    (λ h. ap (λ n. any_of n operand_numbers || any_operand ds) (sym (eqb-true (number c) (number d) (and_left (nat_eq (number c) (number d)) _ h))) ∙ ap (λ b. b || any_operand ds) t) (λ h. or_right (is_operand d) (list_operand c ds t h))
  where
    or_right : (a : Bool) {b : Bool} → b ≡ true → (a || b) ≡ true
    or_right true e = refl
    or_right false e = e

pub homes_operand : (c : Nonterminal) (ds : List Nonterminal) → is_operand c ≡ true → in_homes c ds ≡ true → any_operand ds ≡ true
homes_operand NullishLeft ds t e = or_cases (in_list (Expr 6) ds) (in_list NullishOnly ds) e (list_operand (Expr 6) ds refl) (list_operand NullishOnly ds refl)
homes_operand NewCallee ds t e = list_operand (Expr 17) ds refl e
homes_operand DotObject ds t e = list_operand MemberObject ds refl e
homes_operand ForOfHead ds t e = cc
homes_operand (Expr n) ds t e = list_operand (Expr n) ds t e
homes_operand c ds t e = list_operand c ds t e

no_home : (c : Nonterminal) (ds : List Nonterminal) → is_operand c ≡ true → any_operand ds ≡ false → in_homes c ds ≡ true → ⊥
no_home c ds t e h = clash _ (homes_operand c ds t h) e

-- ---- a place where none of that stands

pub record Shut (x : Place) : Type 0 where
  pub no : (m : Mode) (k : TokenKind) (t : Text) → opens m k t ≡ true → IsTrue (is_found (forth (Tok m k t) x)) → ⊥

record Begins (t : Tree) : Type 0 where
  alone : (v : Surroundings) (c : Nonterminal) (x y : Place) → is_operand c ≡ true → IsRead v false c x t y → Shut x → ⊥

record BeginsList (t : Tree) : Type 0 where
  one : Begins t
  listed : (u : Tree) (us : Forest) → t ≡ list (part u us) → Begins u

jsx_home : (c : Nonterminal) (r : Text) → is_operand c ≡ true → leaf_in c JsxName r ≡ true → ⊥
jsx_home MemberRoot r t h = cc
jsx_home MemberPart r t h = cc
jsx_home (Expr n) r t h = no_home (Expr n) (literal_homes JsxName) t refl h
jsx_home c r t h = no_home c (literal_homes JsxName) t refl h

leaf_shut : (k : TokenKind) (r : Text) (c : Nonterminal) (x : Place) → is_operand c ≡ true → leaf_in c k r ≡ true → IsTrue (is_found (scan x (spelled (leaf k r)))) → Shut x → ⊥
leaf_shut IdentifierName r c x t h f s = s.no Operator IdentifierName r refl f
leaf_shut RegExpLiteral r c x t h f s = s.no Operand RegExpLiteral r refl f
leaf_shut JsxName r c x t h f s = jsx_home c r t h
leaf_shut JsxString r c x t h f s = no_home c (literal_homes JsxString) t refl h
leaf_shut JsxText r c x t h f s = no_home c (literal_homes JsxText) t refl h
leaf_shut Elision r c x t h f s = no_home c (literal_homes Elision) t refl h
leaf_shut TemplateMiddle r c x t h f s = no_home c (literal_homes TemplateMiddle) t refl h
leaf_shut TemplateTail r c x t h f s = no_home c (literal_homes TemplateTail) t refl h
leaf_shut Punctuator r c x t h f s = no_home c [] t refl h
leaf_shut NumericLiteral r c x t h f s = s.no Operator NumericLiteral r refl f
leaf_shut BigIntLiteral r c x t h f s = s.no Operator BigIntLiteral r refl f
leaf_shut StringLiteral r c x t h f s = s.no Operator StringLiteral r refl f
leaf_shut NoSubstitution r c x t h f s = s.no Operator NoSubstitution r refl f
leaf_shut TemplateHead r c x t h f s = s.no Operator TemplateHead r refl f
leaf_shut NoToken r c x t h f s = no_home c [] t refl h

items_shut : {v : Surroundings} {c : Nonterminal} {x y : Place} {vs : Forest} → is_operand c ≡ true → enough TwoOrMore vs ≡ true → BeginsList (list vs) → Items IsRead v TwoOrMore c x vs y → Shut x → ⊥
items_shut t e b (nil f) s = cc
items_shut {v} {c} {x} t e b (last {y = z} {t = u} r h f) s = (b.listed u none refl).alone v c x z t r s
items_shut {v} {c} {x} t e b (more {y = z} {t = u} {u = u'} {us = us} n r h all) s = (b.listed u (part u' us) refl).alone v c x z t r s

row_shut : {V : List Context → Surroundings} (ps : List Piece) {x y : Place} {us : Forest} → shut_row ps ≡ true → ((t : Tree) (ts : Forest) → us ≡ part t ts → BeginsList t) → Walk IsRead V ps x us y → Shut x → ⊥
row_shut (piece a (Fixed (Tok m k t)) ∷ ps) {x} r b (next (sign e f) walk) s = s.no m k t r (found_at e f)
row_shut {V} (piece a (Part c) ∷ ps) {x} r b (next {y = z} {ts = us} (tree {t = t} q) walk) s = (b t us refl).one.alone (V a) c x z r q s
row_shut (piece a (Many TwoOrMore c) ∷ ps) r b (next {ts = us} (many {ts = vs} e all) walk) s = items_shut r e (b (list vs) us refl) all s
row_shut _ r b walk s = cc

-- ---- every kind

shut_all : (k : Kind) → shut_kind k ≡ true
shut_all (program (Specifier Imported)) = refl
shut_all (program (Specifier Exported)) = refl
shut_all (program (Specifier From)) = refl
shut_all (program (SpecifierAs Imported)) = refl
shut_all (program (SpecifierAs Exported)) = refl
shut_all (program (SpecifierAs From)) = refl
shut_all (program _) = refl
shut_all (statement (Var VarWord)) = refl
shut_all (statement (Var LetWord)) = refl
shut_all (statement (Var ConstWord)) = refl
shut_all (statement _) = refl
shut_all (function (Method InObject)) = refl
shut_all (function (Method InClass)) = refl
shut_all (function (Method Static)) = refl
shut_all (function (Getter InObject)) = refl
shut_all (function (Getter InClass)) = refl
shut_all (function (Getter Static)) = refl
shut_all (function (Setter InObject)) = refl
shut_all (function (Setter InClass)) = refl
shut_all (function (Setter Static)) = refl
shut_all (function (Field InObject)) = refl
shut_all (function (Field InClass)) = refl
shut_all (function (Field Static)) = refl
shut_all (function (ArrayPat Binds)) = refl
shut_all (function (ArrayPat Assigns)) = refl
shut_all (function (ObjectPat Binds)) = refl
shut_all (function (ObjectPat Assigns)) = refl
shut_all (function (PropertyPat Binds)) = refl
shut_all (function (PropertyPat Assigns)) = refl
shut_all (function (ShorthandPat Binds)) = refl
shut_all (function (ShorthandPat Assigns)) = refl
shut_all (function (ShorthandInit Binds)) = refl
shut_all (function (ShorthandInit Assigns)) = refl
shut_all (function (WithInit Binds)) = refl
shut_all (function (WithInit Assigns)) = refl
shut_all (function (RestPat Binds)) = refl
shut_all (function (RestPat Assigns)) = refl
shut_all (function (RestProperty Binds)) = refl
shut_all (function (RestProperty Assigns)) = refl
shut_all (function _) = refl
shut_all (expression (Unary Delete)) = refl
shut_all (expression (Unary Void)) = refl
shut_all (expression (Unary TypeOf)) = refl
shut_all (expression (Unary Positive)) = refl
shut_all (expression (Unary Negative)) = refl
shut_all (expression (Unary Complement)) = refl
shut_all (expression (Unary Not)) = refl
shut_all (expression (PrefixUpdate Increment)) = refl
shut_all (expression (PrefixUpdate Decrement)) = refl
shut_all (expression (OpAssign Equal)) = refl
shut_all (expression (OpAssign _)) = refl
shut_all (expression (Binary Nullish)) = refl
shut_all (expression (Binary _)) = refl
shut_all (expression (PlainTemplate true)) = refl
shut_all (expression (PlainTemplate false)) = refl
shut_all (expression (SubstitutedTemplate true)) = refl
shut_all (expression (SubstitutedTemplate false)) = refl
shut_all (expression (TemplateSpan true)) = refl
shut_all (expression (TemplateSpan false)) = refl
shut_all (expression Seq) = refl
shut_all (expression _) = refl
shut_all (jsx Element) = refl
shut_all (jsx _) = refl

kind_shut : (c : Nonterminal) (k : Kind) → is_operand c ≡ true → in_homes c (homes k) ≡ true → shut_row (row false k) ≡ true
kind_shut c k t h = or_cases (not (any_operand (homes k))) (shut_row (row false k)) (shut_all k) (λ n. absurd (clash _ (homes_operand c (homes k) t h) (not_true (any_operand (homes k)) n))) (λ r. r)
  where
    not_true : (b : Bool) → not b ≡ true → b ≡ false
    not_true true e = cc
    not_true false e = refl

node_begins : (k : Kind) (ts : Forest) → ((t : Tree) (us : Forest) → ts ≡ part t us → BeginsList t) → BeginsList (node k ts)
node_begins k ts b = record {
  one = record { alone = λ v c x y t r s. row_shut (row false k) (kind_shut c k t (kind_home c k ts (and_left (admits c (node k ts)) (fits_below c (node k ts)) r.is))) b (node_walk false k refl r).walk s };
  listed = λ u us e. cc;
}

list_begins : (ts : Forest) → ((u : Tree) (us : Forest) → list ts ≡ list (part u us) → Begins u) → BeginsList (list ts)
list_begins ts f = record { one = record { alone = λ v c x y t r s. clash _ (and_left (admits c (list ts)) (fits_below c (list ts)) r.is) refl }; listed = f }

leaf_begins : (k : TokenKind) (r : Text) → BeginsList (leaf k r)
leaf_begins k r = record {
  one = record { alone = λ v c x y t q s. leaf_shut k r c x t (and_left (leaf_in c k r) (is_leaf k r) q.is) (found_at q.scans q.found) s };
  listed = λ u us e. cc;
}

head_is : {t u : Tree} {ts us : Forest} → list (part t ts) ≡ list (part u us) → t ≡ u
head_is e = cc

part_is : {t u : Tree} {ts us : Forest} → part t ts ≡ part u us → t ≡ u
part_is e = cc

begins_all : (t : Tree) → BeginsList t
begins_all = first_rec BeginsList leaf_begins (λ k. node_begins k none (λ t ts e. cc)) (λ k t ts b. node_begins k (part t ts) (λ u us e. subst BeginsList (part_is e) b))
    (list_begins none (λ u us e. cc)) (λ t ts b. list_begins (part t ts) (λ u us e. subst Begins (head_is e) b.one))

-- no expression stands where nothing of that stands
pub shut_reading : {v : Surroundings} {c : Nonterminal} {x y : Place} {t : Tree} → is_operand c ≡ true → Shut x → IsRead v false c x t y → ⊥
shut_reading {v} {c} {x} {y} {t} m s r = (begins_all t).one.alone v c x y m r s

-- ---- what an operand's row begins with is one

some_is : {c d : Nonterminal} → Some c ≡ Some d → c ≡ d
some_is e = cc

started : (ps : List Piece) (d : Nonterminal) → shut_row ps ≡ true → starts ps ≡ Some d → is_operand d ≡ true
started (piece [] (Part c) ∷ ps) d s e = subst (λ n. is_operand n ≡ true) (some_is e) s
started _ d s e = cc

pub operand_start : (k : Kind) (c d : Nonterminal) → is_operand c ≡ true → in_homes c (homes k) ≡ true → starts (row false k) ≡ Some d → is_operand d ≡ true
operand_start k c d t h e = started (row false k) d (kind_shut c k t h) e

-- ---- a punctuator that none of that is

-- no expression begins with this punctuator
pub record Closer (d : ℕ) (w : Text) : Type 0 where
  pub no_less : nat_eq d 60 ≡ false
  pub no_slash : (s : Text) → NoneAhead Operand RegExpLiteral (d ∷ s)
  pub no_opener : among (d ∷ w) openers ≡ false

other_kind : (d : ℕ) (w : Text) (k : TokenKind) (r : Text) (x : Place) → is_kind k Punctuator ≡ false → IsTrue (is_found (forth (Tok Operator k r) x)) → IsTrue (is_found (forth (Tok Operator Punctuator (d ∷ w)) x)) → ⊥
other_kind d w k r x n f g = never_both k Punctuator r (d ∷ w) x (ap (λ b. b && same r (d ∷ w)) n) f g

pub starts_with : (d : ℕ) (w : Text) (f : Bool) (s : Text) → is_token (at_front Operator f s) Punctuator (d ∷ w) ≡ true → (b : Bool) → first_is (nat_eq d) s ≡ b → first_is (nat_eq d) s ≡ true
starts_with d w f s e true h = h
starts_with d w f s e false h = absurd (clash _ e ((other_ahead Punctuator d w Operator s h).not_it f))

no_regexp : (d : ℕ) (w r : Text) (x : Place) → ((s : Text) → NoneAhead Operand RegExpLiteral (d ∷ s)) → IsTrue (is_found (forth (Tok Operand RegExpLiteral r) x)) → IsTrue (is_found (forth (Tok Operator Punctuator (d ∷ w)) x)) → ⊥
no_regexp d w r Lost n f g = cc
no_regexp d w r (At q e text) n f g =
    let fresh = same q [] || breaks text in
    no_slash d fresh r (skip text) n (found_if (is_token (at_front Operand fresh (skip text)) RegExpLiteral r) (At r AfterExpr (at_front Operand fresh (skip text)).rest) f)
    (starts_with d w fresh (skip text) (found_if (is_token (at_front Operator fresh (skip text)) Punctuator (d ∷ w)) (At (d ∷ w) AfterExpr (at_front Operator fresh (skip text)).rest) g) _ refl)

pub closes : {d : ℕ} {w : Text} {x : Place} → Closer d w → IsTrue (is_found (forth (Tok Operator Punctuator (d ∷ w)) x)) → Shut x
closes {d} {w} {x} c g = record { no = at }
  where
    at : (m : Mode) (k : TokenKind) (t : Text) → opens m k t ≡ true → IsTrue (is_found (forth (Tok m k t) x)) → ⊥
    at Operator Punctuator t o f = clash _ (subst (λ u. among u openers ≡ true) (one_text Operator Punctuator t (d ∷ w) x f g) o) c.no_opener
    at Operator IdentifierName t o f = other_kind d w IdentifierName t x refl f g
    at Operator NumericLiteral t o f = other_kind d w NumericLiteral t x refl f g
    at Operator BigIntLiteral t o f = other_kind d w BigIntLiteral t x refl f g
    at Operator StringLiteral t o f = other_kind d w StringLiteral t x refl f g
    at Operator NoSubstitution t o f = other_kind d w NoSubstitution t x refl f g
    at Operator TemplateHead t o f = other_kind d w TemplateHead t x refl f g
    at Operand Punctuator t o f = less_other Punctuator d w x c.no_less ((subst (λ u. IsTrue (is_found (forth (Tok Operand Punctuator u) x))) (same_is t (codes "<") o) f)) g
    at Operand RegExpLiteral t o f = no_regexp d w t x c.no_slash f g
    at _ _ t o f = cc
