-- No expression begins as another statement does, nor as what is exported by itself, but for a function and a class.
use Rattle.std.proofs.Common.{◌≡◌, nat_eq, Bool, true, false, not, cond, [], ◌∷◌, refl, sym, ◌∙◌, ap, subst, List}
use Rattle.std.proofs.lemmas.Bool.{eq-eqb}
use Rattle.std.specs.Prelude.{IsTrue, codes, ◌&&◌, ◌||◌}
use Rattle.jsx_base.specs.Token.{Text, Operand, Operator, kind_number, TokenKind, NoToken, Punctuator, RegExpLiteral, NoSubstitution, TemplateHead, Lexeme, is_kind, is_token, among, no_token, breaks, skip, first_is, at_front, token, same}
use Rattle.jsx_tree.specs.Signs.{Ending, AfterExpr, Sign, Tok, Unless}
use Rattle.jsx_tree.specs.Kinds.{Seq, function, expression, Kind, Tree, Forest, FunctionExpr, ClassExpr, Object}
use Rattle.jsx_tree.specs.Nonterminals.{Expr}
use Rattle.jsx_tree.specs.Grammar.{ListShape, TwoOrMore, heads, key, pun}
use Rattle.jsx_tree.specs.Form.{enough, is_leaf}
use Rattle.jsx_tree.specs.Reading.{Place, Lost, At, forth}
use Rattle.jsx_tree.specs.StaticRules.{Surroundings}
use Rattle.jsx_token.specs.Stage.{value_leaf}
use Rattle.jsx_tree.specs.Walk.{is_found, is_text, Items, nil, last, more, many, Walk, next, around}
use Rattle.jsx_tree.specs.Answers.{Stuck}
use Rattle.jsx_operand.specs.SoFar.{Staged}
use Rattle.jsx_token.specs.Marks.{row_so_far}
use Rattle.jsx_tree.proofs.Tokens.{and_right, and_both, same_is}
use Rattle.jsx_tree.proofs.Apart.{by_not, clash, less_or_other, less_first, found_token}
use Rattle.jsx_base.proofs.Fronts.{other_ahead}
use Rattle.jsx_tree.proofs.Signs.{not_first}
use Rattle.jsx_tree.proofs.Rows.Bridge.{found_at}
use Rattle.jsx_tree.proofs.Rows.Stopping.{is_not, not_among, or_cases}
use Rattle.jsx_tree.proofs.Rows.Spines.{grows}
use Rattle.jsx_operand.proofs.OfSoFar.{of_so_far}
use Rattle.jsx_operand.proofs.Slashes.{is_slash, regexp_slash}
use Rattle.jsx_token.specs.Growths.{opening_sign}
use Rattle.jsx_token.proofs.Listed.{Listed, listed, code, kinds, every, of_each, one_place}
use Rattle.jsx_operand.proofs.Homes.{Literal, IsName, IsNumber, IsLong, IsString, IsPattern, token_kind, AtWhole, single, several, at_whole}
use Rattle.jsx_operand.proofs.Values.{literal_sign, is_plain, plain_there, pattern_is, pattern_there, Opener, angle, plain, Quote, whole_there, head_there, piece_of, opener_of, opened_sign, in_array, in_object, bracket_opener, bracket_sign, First, name, opened, quoted, bracketed, begun, at_one, move}

not_same : (t u : Text) (p : Text → Bool) → p t ≡ true → p u ≡ false → same t u ≡ false
not_same t u p a b = by_not _ (λ h. clash (p u) (subst (λ v. p v ≡ true) (same_is t u h) a) b)

none_of : (t : Text) → same t (codes "{") ≡ false → same t (codes "function") ≡ false → same t (codes "class") ≡ false → among t heads ≡ false
none_of t a b c = (λ i. a i || (b i || (c i || false)))

abbrev may_be : Literal → Text → Bool
may_be l t = value_leaf (token_kind l) t && is_leaf (token_kind l) t

no_head : (l : Literal) (t : Text) → may_be l t ≡ true → among t heads ≡ false
no_head IsName t a = none_of t (not_same t (codes "{") (may_be IsName) a refl) (not_same t (codes "function") (may_be IsName) a refl) (not_same t (codes "class") (may_be IsName) a refl)
no_head IsNumber t a = none_of t (not_same t (codes "{") (may_be IsNumber) a refl) (not_same t (codes "function") (may_be IsNumber) a refl) (not_same t (codes "class") (may_be IsNumber) a refl)
no_head IsLong t a = none_of t (not_same t (codes "{") (may_be IsLong) a refl) (not_same t (codes "function") (may_be IsLong) a refl) (not_same t (codes "class") (may_be IsLong) a refl)
no_head IsPattern t a = none_of t (not_same t (codes "{") (may_be IsPattern) a refl) (not_same t (codes "function") (may_be IsPattern) a refl) (not_same t (codes "class") (may_be IsPattern) a refl)
no_head IsString t a = none_of t (not_same t (codes "{") (may_be IsString) a refl) (not_same t (codes "function") (may_be IsString) a refl) (not_same t (codes "class") (may_be IsString) a refl)

raw_not : (x : Lexeme) (t : Text) → is_token x x.kind t ≡ false → same x.raw t ≡ false
raw_not x t e = by_not _ (λ h. clash _ (and_both _ _ (eq-eqb (kind_number x.kind) (kind_number x.kind) refl) h) e)

less_no_head : (f : Bool) (s : Text) → first_is (nat_eq 60) s ≡ true → among (at_front Operator f s).raw heads ≡ false
less_no_head f s h =
    let x = at_front Operator f s in
    none_of x.raw
    (raw_not x (codes "{") ((other_ahead x.kind 123 [] Operator s (less_or_other 123 s refl h)).not_it f))
    (raw_not x (codes "function") ((other_ahead x.kind 102 (codes "unction") Operator s (less_or_other 102 s refl h)).not_it f))
    (raw_not x (codes "class") ((other_ahead x.kind 99 (codes "lass") Operator s (less_or_other 99 s refl h)).not_it f))

no_literal : (l : Literal) (t s : Text) → is_token (no_token s) (token_kind l) t ≡ false
no_literal IsName t s = refl
no_literal IsNumber t s = refl
no_literal IsLong t s = refl
no_literal IsString t s = refl
no_literal IsPattern t s = refl

go_on : (b : Bool) (x : Place) → b ≡ false → cond (not b) x Lost ≡ x
go_on true x e = cc
go_on false x e = refl

no_token_is : (k : TokenKind) (t s : Text) → is_kind NoToken k ≡ false → is_token (no_token s) k t ≡ false
no_token_is k t s n = ap (λ b. b && same (no_token s).raw t) n

-- whether the text of a sign is none of these
abbrev is_headless : Sign → Bool
is_headless (Tok Operand Punctuator t) = true
is_headless (Tok m k t) = not (among t heads)
is_headless s = true

opener_heads : {s : Sign} (x : Place) → Opener s → is_headless s ≡ true → IsTrue (is_found (forth s x)) → forth (Unless heads) x ≡ x
opener_heads Lost o h f = refl
opener_heads (At q e text) angle h f = go_on _ _ (less_no_head (breaks text) (skip text) (less_first (same q [] || breaks text) (skip text) (found_token _ (At (codes "<") AfterExpr (token Operand (same q []) text).rest) f)))
opener_heads (At q e text) (plain {k} {d} {t} o) h f =
    let m = token Operator (same q []) text in
    let i : is_token m k (d ∷ t) ≡ true = found_token (is_token m k (d ∷ t)) (At (d ∷ t) AfterExpr m.rest) f in
    let raw : (token Operator false text).raw ≡ d ∷ t = ap (λ x. x.raw) (not_first (λ x. is_token x k (d ∷ t)) (λ s. no_token_is k (d ∷ t) s o.some) (same q []) text i) ∙ same_is m.raw (d ∷ t) (and_right _ _ i) in
    go_on _ _ (ap (λ v. among v heads) raw ∙ is_not _ h)

slash_head : (t : Text) → is_slash t ≡ true → among t heads ≡ false
slash_head t h = or_cases (same t (codes "/")) (same t (codes "/=")) h (λ e. ap (λ v. among v heads) (same_is t (codes "/") e)) (λ e. ap (λ v. among v heads) (same_is t (codes "/=") e))

pattern_heads : (t : Text) (x : Place) → IsTrue (is_found (forth (Tok Operand RegExpLiteral t) x)) → forth (Unless heads) x ≡ x
pattern_heads t Lost f = refl
pattern_heads t (At q e text) f =
    let m = token Operator (same q []) text in
    let i : is_slash m.raw ≡ true = (regexp_slash t q e text f).text in
    let raw : (token Operator false text).raw ≡ m.raw = ap (λ x. x.raw) (not_first (λ x. is_slash x.raw) (λ s. refl) (same q []) text i) in
    go_on _ _ (ap (λ v. among v heads) raw ∙ slash_head m.raw i)

plain_heads : (l : Literal) (t : Text) (x : Place) → (value_leaf (token_kind l) t && is_leaf (token_kind l) t) ≡ true → IsTrue (is_found (forth (Tok Operator (token_kind l) t) x)) → forth (Unless heads) x ≡ x
plain_heads l t Lost h f = refl
plain_heads l t (At q e text) h f =
    let m = token Operator (same q []) text in
    let i : is_token m (token_kind l) t ≡ true = found_token (is_token m (token_kind l) t) (At t AfterExpr m.rest) f in
    let raw : (token Operator false text).raw ≡ t = ap (λ x. x.raw) (not_first (λ x. is_token x (token_kind l) t) (no_literal l t) (same q []) text i) ∙ same_is m.raw t (and_right _ _ i) in
    go_on _ _ (ap (λ v. among v heads) raw ∙ no_head l t h)

literal_heads : (l : Literal) (t : Text) (x : Place) → (value_leaf (token_kind l) t && is_leaf (token_kind l) t) ≡ true → IsTrue (is_found (forth (literal_sign l t) x)) → forth (Unless heads) x ≡ x
literal_heads l t x h f = by (is_plain l) refl
  where
    by : (c : Bool) → is_plain l ≡ c → forth (Unless heads) x ≡ x
    by true p = plain_heads l t x h (plain_there l t x p f)
    by false p = pattern_heads t x (pattern_there t x (pattern_is l p) f)

-- nor is a piece one of them
no_head_piece : (k : TokenKind) (t : Text) → is_leaf k t ≡ true → is_leaf k (codes "{") ≡ false → is_leaf k (codes "function") ≡ false → is_leaf k (codes "class") ≡ false → among t heads ≡ false
no_head_piece k t a b c d = none_of t (not_same t (codes "{") (is_leaf k) a b) (not_same t (codes "function") (is_leaf k) a c) (not_same t (codes "class") (is_leaf k) a d)

token_clear : (ts : List Text) (k : TokenKind) (t : Text) (x : Place) → is_kind NoToken k ≡ false → among t ts ≡ false → IsTrue (is_found (forth (Tok Operator k t) x)) → forth (Unless ts) x ≡ x
token_clear ts k t Lost n h f = refl
token_clear ts k t (At q e text) n h f =
    let m = token Operator (same q []) text in
    let i : is_token m k t ≡ true = found_token (is_token m k t) (At t AfterExpr m.rest) f in
    let raw : (token Operator false text).raw ≡ t = ap (λ x. x.raw) (not_first (λ x. is_token x k t) (λ s. no_token_is k t s n) (same q []) text i) ∙ same_is m.raw t (and_right _ _ i) in
    go_on _ _ (ap (λ v. among v ts) raw ∙ h)

piece_heads : (x : Place) → Quote x → forth (Unless heads) x ≡ x
piece_heads x (whole_there q) = token_clear heads NoSubstitution q.text x refl (no_head_piece NoSubstitution q.text q.whole refl refl refl) q.found
piece_heads x (head_there q) = token_clear heads TemplateHead q.text x refl (no_head_piece TemplateHead q.text q.whole refl refl refl) q.found

-- a brace and the words of a function and a class are those of them that an expression begins with
abbrev heads_well : Kind → Bool
heads_well k = grows (row_so_far k) || (is_headless (opening_sign k) || (nat_eq (code k) (code (expression Object)) || (nat_eq (code k) (code (function FunctionExpr)) || nat_eq (code k) (code (function ClassExpr)))))

all_heads_well : every heads_well kinds ≡ true
all_heads_well = refl

stuck_lost : {s : Sign} {x : Place} → Stuck s x → IsTrue (is_found (forth s x)) → ⊥
stuck_lost s f = let bad : IsTrue (is_found Lost) = subst (λ p. IsTrue (is_found p)) s.is f in cc

first_heads : {v : Surroundings} {x p : Place} {f : Tree} → Stuck (pun "{") x → Stuck (key "function") x → Stuck (key "class") x → First v x f p → forth (Unless heads) x ≡ x
first_heads {x = x} s o c (name l {t = t} h w g f) = literal_heads l t x (and_both _ _ h w) (found_at g f)
first_heads {x = x} s o c (quoted d q r) = piece_heads x (piece_of q r)
first_heads {x = x} s o c (bracketed d in_array r) = opener_heads x (bracket_opener in_array) refl (bracket_sign in_array r)
first_heads {x = x} s o c (bracketed d in_object r) = absurd (stuck_lost s (bracket_sign in_object r))
first_heads {x = x} s o c (opened d {k} l g r) =
    or_cases (grows (row_so_far k)) _ (of_each heads_well all_heads_well k l) (λ h. absurd (clash _ h g))
    (λ e. or_cases (is_headless (opening_sign k)) _ e (λ h. opener_heads x (opener_of k l g) h there)
    (λ i. or_cases (nat_eq (code k) (code (expression Object))) _ i (λ h. absurd (at_stuck (expression Object) (listed (expression Object) refl refl refl) s h))
    (λ j. or_cases (nat_eq (code k) (code (function FunctionExpr))) (nat_eq (code k) (code (function ClassExpr))) j (λ h. absurd (at_stuck (function FunctionExpr) (listed (function FunctionExpr) refl refl refl) o h)) (λ h. absurd (at_stuck (function ClassExpr) (listed (function ClassExpr) refl refl refl) c h)))))
  where
    there : IsTrue (is_found (forth (opening_sign k) x))
    there = opened_sign k l g r

    at_stuck : (j : Kind) → Listed j → Stuck (opening_sign j) x → nat_eq (code k) (code j) ≡ true → ⊥
    at_stuck j m n h = stuck_lost n (subst (λ i. IsTrue (is_found (forth (opening_sign i) x))) (one_place k j l m h) there)

-- what a sequence begins with
pub record Item (v : Surroundings) (x : Place) : Type 0 where
  pub tree : Tree
  pub place : Place
  pub reads : Staged v false (Expr 1) x tree place

first_item : {v : Surroundings} {s : ListShape} {x z : Place} {ts : Forest} → enough TwoOrMore ts ≡ true → Items Staged v s (Expr 1) x ts z → is_text s ≡ false → Item v x
first_item n (nil f) c = cc
first_item {v} {s} {x} n (last {y = y} {t = t} r e f) c = record { tree = t; place = y; reads = subst (λ b. Staged v b (Expr 1) x t y) c r }
first_item {v} {s} {x} n (more {y = y} {t = t} m r e all) c = record { tree = t; place = y; reads = subst (λ b. Staged v b (Expr 1) x t y) c r }

item_of_walk : {v : Surroundings} (us : Forest) {x z : Place} {ts : Forest} → Walk Staged (around v us) (row_so_far (expression Seq)) x ts z → Item v x
item_of_walk us (next (many e all) w) = first_item e all refl

whole_heads : {v : Surroundings} {x z : Place} {u : Tree} → Stuck (pun "{") x → Stuck (key "function") x → Stuck (key "class") x → AtWhole u → Staged v false (Expr 0) x u z → forth (Unless heads) x ≡ x
whole_heads {u = u} s o c (single a) r = first_heads s o c (begun refl u (move at_one a r)).first
whole_heads s o c (several {ts}) r = let i = item_of_walk ts (of_so_far.from_node (expression Seq) r).walk in first_heads s o c (begun refl i.tree i.reads).first

pub no_heads : {v : Surroundings} {x z : Place} {u : Tree} → Stuck (pun "{") x → Stuck (key "function") x → Stuck (key "class") x → Staged v false (Expr 0) x u z → forth (Unless heads) x ≡ x
no_heads {u = u} s o c r = whole_heads s o c (at_whole u r) r

-- ---- nor does one begin as what is exported by itself, but for a function and a class

abbrev pub default_heads : List Text
default_heads = codes "function" ∷ codes "class" ∷ []

guard_off : (b : Bool) (q : Text) (e : Ending) (text : Text) → cond (not b) (At q e text) Lost ≡ At q e text → b ≡ false
guard_off true q e text h = let bad : IsTrue (is_found Lost) = subst (λ p. IsTrue (is_found p)) (sym h) refl in cc
guard_off false q e text h = refl

fewer_heads : (x : Place) → forth (Unless heads) x ≡ x → forth (Unless default_heads) x ≡ x
fewer_heads Lost h = refl
fewer_heads (At q e text) h =
    let raw = (token Operator false text).raw in
    go_on (among raw default_heads) (At q e text) (not_among raw default_heads heads refl (guard_off (among raw heads) q e text h))

lost_by : (x : Place) → is_found x ≡ false → x ≡ Lost
lost_by Lost h = refl
lost_by (At q e text) h = cc

pub no_default : {v : Surroundings} {x z : Place} {u : Tree} → Stuck (key "function") x → Stuck (key "class") x → Staged v false (Expr 1) x u z → forth (Unless default_heads) x ≡ x
no_default {x = x} {u = u} o c r = by (is_found (forth (pun "{") x)) refl
  where
    by : (b : Bool) → is_found (forth (pun "{") x) ≡ b → forth (Unless default_heads) x ≡ x
    by true h = token_clear default_heads Punctuator (codes "{") x refl refl h
    by false h = fewer_heads x (first_heads (record { is = lost_by (forth (pun "{") x) h }) o c (begun refl u r).first)
