-- Expressions of the language so far: what they begin with, where they may stand, and how they go on.
use Rattle.std.proofs.Common.{◌≡◌, ℕ, nat_eq, Bool, true, false, not, cond, [], ◌∷◌, refl, sym, ◌∙◌, ap, subst, List}
use Rattle.std.proofs.lemmas.Bool.{eqb-true}
use Rattle.std.specs.Prelude.{IsTrue, codes, Option, Some, None, ◌&&◌, ◌||◌}
use Rattle.jsx_base.specs.Token.{Text, Mode, Operand, Operator, kind_number, TokenKind, NoToken, IdentifierName, Punctuator, NumericLiteral, BigIntLiteral, StringLiteral, RegExpLiteral, NoSubstitution, TemplateHead, is_kind, is_token, no_token, breaks, skip, first_is, at_front, token, same}
use Rattle.jsx_tree.specs.Signs.{Ending, AfterExpr, Sign, Tok}
use Rattle.jsx_tree.specs.Kinds.{Label, Seq, Assigns, Binds, ArrayPat, ObjectPat, ParenTarget, Parenthesized, function, statement, expression, Kind, Tree, leaf, node, list, Forest, part, Array, Object, Spread, PlainTemplate, SubstitutedTemplate}
use Rattle.jsx_tree.specs.Nonterminals.{Nonterminal, Expr, Argument, Name, homes, in_homes, leaf_in, is_value_word, TemplatePart}
use Rattle.jsx_tree.specs.Grammar.{Context, Part, Fixed, pun}
use Rattle.jsx_tree.specs.Form.{admits, is_leaf}
use Rattle.jsx_tree.specs.Spelling.{mode_of}
use Rattle.jsx_tree.specs.Reading.{Place, Lost, At, forth}
use Rattle.jsx_tree.specs.StaticRules.{Surroundings}
use Rattle.jsx_token.specs.Stage.{has_kind, leaf_at, value_leaf}
use Rattle.jsx_tree.specs.Walk.{is_found, Given, Past, one, sign, tree, Relation, Piece, piece, tail, Walk, next}
use Rattle.jsx_tree.specs.Language.{Whole}
use Rattle.jsx_tree.specs.Answers.{Stuck, Only}
use Rattle.jsx_tree.specs.Grows.{is_operand, takes_target, as_target, seen, is_aim, Seen, Onward, starts, stay, step}
use Rattle.jsx_operand.specs.SoFar.{Staged, so_far}
use Rattle.jsx_token.specs.Marks.{row_so_far}
use Rattle.jsx_tree.proofs.Tokens.{and_left, and_right, and_both, one_text, same_is}
use Rattle.jsx_tree.proofs.Apart.{by_not, clash, one_token, less_first, less_other, found_token}
use Rattle.jsx_base.proofs.Fronts.{none_ahead}
use Rattle.jsx_tree.proofs.Signs.{not_first}
use Rattle.jsx_tree.proofs.Rows.Bridge.{found_at}
use Rattle.jsx_tree.proofs.Rows.Firsts.{kind_home}
use Rattle.jsx_tree.proofs.Rows.Closers.{any_operand, homes_operand}
use Rattle.jsx_tree.proofs.Rows.Stopping.{is_not, or_cases}
use Rattle.jsx_tree.proofs.Rows.Turns.{whole_of}
use Rattle.jsx_tree.proofs.Rows.Spines.{grows, grown, Covers, spine}
use Rattle.jsx_tree.proofs.Rows.Targets.{as_value, target_back, calm_value, level_17}
use Rattle.jsx_operand.proofs.Aims.{is_pair, seen_plain, calm_of, target_reads, staged_value, bracket_plain, bracket_calm}
use Rattle.jsx_operand.proofs.OfSoFar.{of_so_far}
use Rattle.jsx_operand.proofs.Slashes.{is_slash, regexp_slash}
use Rattle.jsx_token.specs.Growths.{Rung, is_rung, seat, lead, opening_sign, same_sign, settled}
use Rattle.jsx_operand.specs.Climbing.{Begins, rises}
use Rattle.jsx_token.proofs.Listed.{Listed, listed, kinds, every, of_each, is_apart}
use Rattle.jsx_token.proofs.Headings.{of_begun}
use Rattle.jsx_operand.proofs.Inners.{inner_kind, of_inner}
use Rattle.jsx_operand.proofs.Homes.{Literal, IsName, IsNumber, IsLong, IsString, IsPattern, token_kind, Value, literal, made, value, Taken, module', headed, inner, evaluation, labelled, sequence, operand, staged_leaf, taken_by, home_of, no_list, no_operand, names, spread, wholes, heads as heads_of, aimed, lone_value, bound_word, in_brackets}
use Rattle.jsx_token.proofs.Lives.{is_lone, is_single, lives}
use Rattle.jsx_operand.proofs.Rungs.{leaf_seat, literal_seat, rises_leaf, rung_operand, rung_single}
use Rattle.jsx_token.proofs.Levels.{signed, Quoted, undivided, divided, is_template, quoted_kind, is_left, side, side_of}

-- ---- where a token ended

settled_by : (b : Bool) (t rest : Text) (y : Place) → cond b (At t AfterExpr rest) Lost ≡ y → IsTrue (is_found y) → same t [] ≡ false → settled y ≡ true
settled_by true t rest y e f n = subst (λ p. settled p ≡ true) e (ap not n)
settled_by false t rest y e f n = let bad : IsTrue (is_found Lost) = subst (λ p. IsTrue (is_found p)) (sym e) f in cc

pub settled_token : (m : _) (k : TokenKind) (t : Text) (x : Place) {y : Place} → same t [] ≡ false → forth (Tok m k t) x ≡ y → IsTrue (is_found y) → settled y ≡ true
settled_token m k t Lost n e f = let bad : IsTrue (is_found Lost) = found_at e f in cc
settled_token m k t (At q g text) {y} n e f = settled_by (is_token (token m (same q []) text) k t) t (token m (same q []) text).rest y e f n

pub leaf_full : (l : Literal) (t : Text) → is_leaf (token_kind l) t ≡ true → same t [] ≡ false
leaf_full l (c ∷ t) e = refl
leaf_full IsName [] e = cc
leaf_full IsNumber [] e = cc
leaf_full IsLong [] e = cc
leaf_full IsString [] e = cc
leaf_full IsPattern [] e = cc

-- whether a mark comes next
abbrev pub is_next : Text → Place → Bool
is_next t Lost = false
is_next t (At q e text) = is_token (token Operator false text) Punctuator t

mark_next : (d : ℕ) (t q : Text) (e : Ending) (text : Text) → IsTrue (is_found (forth (Tok Operator Punctuator (d ∷ t)) (At q e text))) → is_next (d ∷ t) (At q e text) ≡ true
mark_next d t q e text f =
    let m = token Operator (same q []) text in
    let h : is_token m Punctuator (d ∷ t) ≡ true = found_token (is_token m Punctuator (d ∷ t)) (At (d ∷ t) AfterExpr m.rest) f in
    ap (λ x. is_token x Punctuator (d ∷ t)) (not_first (λ x. is_token x Punctuator (d ∷ t)) (λ s. and_false' (is_kind (no_token s).kind Punctuator)) (same q []) text h) ∙ h
  where
    and_false' : (a : Bool) → (a && false) ≡ false
    and_false' true = refl
    and_false' false = refl

pub found_next : (d : ℕ) (t : Text) (a : Place) → IsTrue (is_found (forth (Tok Operator Punctuator (d ∷ t)) a)) → is_next (d ∷ t) a ≡ true
found_next d t Lost f = cc
found_next d t (At q e text) f = mark_next d t q e text f

not_lost : (b : Bool) (y : Place) → IsTrue (is_found y) → cond b y Lost ≡ Lost → b ≡ false
not_lost true y f e = let bad : IsTrue (is_found Lost) = subst (λ p. IsTrue (is_found p)) e f in cc
not_lost false y f e = refl

pub stuck_next : (t : Text) (a : Place) → settled a ≡ true → Stuck (Tok Operator Punctuator t) a → is_next t a ≡ false
stuck_next t Lost s k = refl
stuck_next t (At q AfterExpr text) s k =
    let same' : token Operator (same q []) text ≡ token Operator false text = ap (λ v. token Operator v text) (is_not _ s) in
    ap (λ x. is_token x Punctuator t) (sym same') ∙ not_lost _ (At t AfterExpr (token Operator (same q []) text).rest) refl k.is
stuck_next t (At q e text) s k = cc

-- ---- one literal at one place, and no element

-- a token with its kind and text, and whether it is read as an operator is, as all but a regular expression are
abbrev pub literal_sign : Literal → Text → Sign
literal_sign l t = Tok (mode_of (token_kind l)) (token_kind l) t

abbrev pub is_plain : Literal → Bool
is_plain IsPattern = false
is_plain l = true

pub plain_there : (l : Literal) (t : Text) (x : Place) → is_plain l ≡ true → IsTrue (is_found (forth (literal_sign l t) x)) → IsTrue (is_found (forth (Tok Operator (token_kind l) t) x))
plain_there IsName t x p f = f
plain_there IsNumber t x p f = f
plain_there IsLong t x p f = f
plain_there IsString t x p f = f
plain_there IsPattern t x p f = cc

pub pattern_is : (l : Literal) → is_plain l ≡ false → l ≡ IsPattern
pattern_is IsPattern p = refl
pattern_is IsName p = cc
pattern_is IsNumber p = cc
pattern_is IsLong p = cc
pattern_is IsString p = cc

pub pattern_there : {l : Literal} (t : Text) (x : Place) → l ≡ IsPattern → IsTrue (is_found (forth (literal_sign l t) x)) → IsTrue (is_found (forth (Tok Operand RegExpLiteral t) x))
pattern_there t x e f = subst (λ l. IsTrue (is_found (forth (literal_sign l t) x))) e f

-- a literal by the number of its kind
abbrev number_literal : ℕ → Literal
number_literal n = cond (nat_eq n (kind_number NumericLiteral)) IsNumber (cond (nat_eq n (kind_number BigIntLiteral)) IsLong (cond (nat_eq n (kind_number StringLiteral)) IsString (cond (nat_eq n (kind_number RegExpLiteral)) IsPattern IsName)))

numbered : (l : Literal) → number_literal (kind_number (token_kind l)) ≡ l
numbered IsName = refl
numbered IsNumber = refl
numbered IsLong = refl
numbered IsString = refl
numbered IsPattern = refl

by_kind : (l m : Literal) → is_kind (token_kind l) (token_kind m) ≡ true → l ≡ m
by_kind l m h = sym (numbered l) ∙ (ap number_literal (eqb-true (kind_number (token_kind l)) (kind_number (token_kind m)) h) ∙ numbered m)

-- where a regular expression may be read, a `/` or a `/=` stands as an operator
record SlashToken (k : TokenKind) (t : Text) : Type 0 where
  kind : kind_number k ≡ kind_number Punctuator
  text : is_slash t ≡ true

slash_token : (k : TokenKind) (t u : Text) (x : Place) → IsTrue (is_found (forth (Tok Operator k t) x)) → IsTrue (is_found (forth (Tok Operand RegExpLiteral u) x)) → SlashToken k t
slash_token k t u Lost f g = cc
slash_token k t u (At q e text) f g =
    let m = token Operator (same q []) text in
    let i : is_token m k t ≡ true = found_token (is_token m k t) (At t AfterExpr m.rest) f in
    let s = regexp_slash u q e text g in
    record { kind = sym (eqb-true (kind_number m.kind) (kind_number k) (and_left _ _ i)) ∙ s.kind; text = subst (λ v. is_slash v ≡ true) (same_is m.raw t (and_right _ _ i)) s.text }

no_slash : (l : Literal) (t u : Text) (x : Place) → is_plain l ≡ true → IsTrue (is_found (forth (literal_sign l t) x)) → IsTrue (is_found (forth (Tok Operand RegExpLiteral u) x)) → ⊥
no_slash l t u x p f g = by l p (slash_token (token_kind l) t u x (plain_there l t x p f) g).kind
  where
    by : (l : Literal) → is_plain l ≡ true → kind_number (token_kind l) ≡ kind_number Punctuator → ⊥
    by IsName p e = cc
    by IsNumber p e = cc
    by IsLong p e = cc
    by IsString p e = cc
    by IsPattern p e = cc

same_literal : (l m : Literal) (t u : Text) (x : Place) → IsTrue (is_found (forth (literal_sign l t) x)) → IsTrue (is_found (forth (literal_sign m u) x)) → l ≡ m
same_literal l m t u x f g = by (is_plain l) (is_plain m) refl refl
  where
    by : (a b : Bool) → is_plain l ≡ a → is_plain m ≡ b → l ≡ m
    by true true p q = by_kind l m (and_left (is_kind (token_kind l) (token_kind m)) _ (one_token (token_kind l) (token_kind m) t u x (plain_there l t x p f) (plain_there m u x q g)))
    by true false p q = absurd (no_slash l t u x p f (pattern_there u x (pattern_is m q) g))
    by false true p q = absurd (no_slash m u t x q g (pattern_there t x (pattern_is l p) f))
    by false false p q = pattern_is l p ∙ sym (pattern_is m q)

no_literal_front : (l : Literal) (t : Text) (f : Bool) (s : Text) → is_plain l ≡ true → first_is (nat_eq 60) s ≡ true → is_token (at_front Operator f s) (token_kind l) t ≡ true → ⊥
no_literal_front l t f [] p e h = cc
no_literal_front l t f (c ∷ s) p e h = clash _ (subst (λ v. is_token (at_front Operator f (v ∷ s)) (token_kind l) t ≡ true) (sym (eqb-true 60 c e)) h) (no_one l p)
  where
    no_one : (l : Literal) → is_plain l ≡ true → is_token (at_front Operator f (60 ∷ s)) (token_kind l) t ≡ false
    no_one IsName p = ap (λ b. b && same (at_front Operator f (60 ∷ s)).raw t) ((none_ahead IdentifierName Operator 60 s refl refl refl).none f)
    no_one IsNumber p = ap (λ b. b && same (at_front Operator f (60 ∷ s)).raw t) ((none_ahead NumericLiteral Operator 60 s refl refl refl).none f)
    no_one IsLong p = ap (λ b. b && same (at_front Operator f (60 ∷ s)).raw t) ((none_ahead BigIntLiteral Operator 60 s refl refl refl).none f)
    no_one IsString p = ap (λ b. b && same (at_front Operator f (60 ∷ s)).raw t) ((none_ahead StringLiteral Operator 60 s refl refl refl).none f)
    no_one IsPattern p = cc

-- two kinds of token in one mode
pub one_kind : (m : Mode) (k l : TokenKind) (t u : Text) (x : Place) → IsTrue (is_found (forth (Tok m k t) x)) → IsTrue (is_found (forth (Tok m l u) x)) → kind_number k ≡ kind_number l
one_kind m k l t u Lost f g = cc
one_kind m k l t u (At q e text) f g =
    let x = token m (same q []) text in
    let i : is_token x k t ≡ true = found_token (is_token x k t) (At t AfterExpr x.rest) f in
    let j : is_token x l u ≡ true = found_token (is_token x l u) (At u AfterExpr x.rest) g in
    sym (eqb-true (kind_number x.kind) (kind_number k) (and_left _ _ i)) ∙ eqb-true (kind_number x.kind) (kind_number l) (and_left _ _ j)

less_pattern : (t : Text) (x : Place) → IsTrue (is_found (forth (Tok Operand Punctuator (codes "<")) x)) → IsTrue (is_found (forth (Tok Operand RegExpLiteral t) x)) → ⊥
less_pattern t x a b = let bad : kind_number Punctuator ≡ kind_number RegExpLiteral = one_kind Operand Punctuator RegExpLiteral (codes "<") t x a b in cc

less_plain : (l : Literal) (t : Text) (x : Place) → is_plain l ≡ true → IsTrue (is_found (forth (Tok Operand Punctuator (codes "<")) x)) → IsTrue (is_found (forth (Tok Operator (token_kind l) t) x)) → ⊥
less_plain l t Lost p a b = cc
less_plain l t (At q e text) p a b =
    let first = same q [] || breaks text in
    no_literal_front l t first (skip text) p (less_first first (skip text) (found_token _ (At (codes "<") AfterExpr (token Operand (same q []) text).rest) a)) (found_token _ (At t AfterExpr (token Operator (same q []) text).rest) b)

pub less_literal : (l : Literal) (t : Text) (x : Place) → IsTrue (is_found (forth (Tok Operand Punctuator (codes "<")) x)) → IsTrue (is_found (forth (literal_sign l t) x)) → ⊥
less_literal l t x a b = by (is_plain l) refl
  where
    by : (c : Bool) → is_plain l ≡ c → ⊥
    by true p = less_plain l t x p a (plain_there l t x p b)
    by false p = less_pattern t x a (pattern_there t x (pattern_is l p) b)

-- ---- the signs with which an expression begins that is no literal

-- what the sign stands in, which it doesn't hear
abbrev pub front_of : List Piece → List Context
front_of (piece a p ∷ ps) = a
front_of [] = []

pub lead_row : (ps : List Piece) → signed ps ≡ true → piece (front_of ps) (Fixed (lead ps)) ∷ tail ps ≡ ps
lead_row (piece a (Fixed s) ∷ ps) g = refl
lead_row _ g = cc

pub led_sign : {R : Relation} {V : List Context → Surroundings} (ps : List Piece) {a y : Place} {ts : Forest} → signed ps ≡ true → Walk R V ps a ts y → IsTrue (is_found (forth (lead ps) a))
led_sign (piece a (Fixed s) ∷ ps) h (next (sign e f) w) = found_at e f
led_sign _ h w = cc

abbrev pub is_opening : Sign → Bool
is_opening (Tok Operand Punctuator (c ∷ [])) = nat_eq c 60
is_opening (Tok Operator Punctuator (d ∷ t)) = not (is_slash (d ∷ t)) && not (nat_eq d 60)
is_opening (Tok Operator IdentifierName (d ∷ t)) = not (is_slash (d ∷ t)) && (not (nat_eq d 60) && not (is_value_word (d ∷ t)))
is_opening s = false

-- a token that no literal is
pub record IsOpener (k : TokenKind) (d : ℕ) (t : Text) : Type 0 where
  unslashed : is_slash (d ∷ t) ≡ false
  pub low : nat_eq d 60 ≡ false
  pub some : is_kind NoToken k ≡ false
  other : (l : Literal) (u : Text) → value_leaf (token_kind l) u ≡ true → (is_kind k (token_kind l) && same (d ∷ t) u) ≡ false
  no_whole : is_kind k NoSubstitution ≡ false
  no_head : is_kind k TemplateHead ≡ false

pub data Opener : Sign → Type 0 where
  angle : Opener (Tok Operand Punctuator (60 ∷ []))
  plain : {k : TokenKind} {d : ℕ} {t : Text} → IsOpener k d t → Opener (Tok Operator k (d ∷ t))

pub mark_other : (t : Text) (l : Literal) (u : Text) → (is_kind Punctuator (token_kind l) && same t u) ≡ false
mark_other t IsName u = refl
mark_other t IsNumber u = refl
mark_other t IsLong u = refl
mark_other t IsString u = refl
mark_other t IsPattern u = refl

word_other : (t : Text) (l : Literal) (u : Text) → is_value_word t ≡ false → value_leaf (token_kind l) u ≡ true → (is_kind IdentifierName (token_kind l) && same t u) ≡ false
word_other t IsName u n h = by_not _ (λ e. clash _ h (ap is_value_word (sym (same_is t u e)) ∙ n))
word_other t IsNumber u n h = refl
word_other t IsLong u n h = refl
word_other t IsString u n h = refl
word_other t IsPattern u n h = refl

pub opener : (s : Sign) → is_opening s ≡ true → Opener s
opener (Tok Operand Punctuator (c ∷ [])) h = subst (λ d. Opener (Tok Operand Punctuator (d ∷ []))) (sym (eqb-true c 60 h)) angle
opener (Tok Operator Punctuator (d ∷ t)) h =
    let g = and_right (not (is_slash (d ∷ t))) _ h in
    plain (record { unslashed = is_not _ (and_left (not (is_slash (d ∷ t))) _ h); low = is_not _ g; some = refl; other = λ l u i. mark_other (d ∷ t) l u; no_whole = refl; no_head = refl })
opener (Tok Operator IdentifierName (d ∷ t)) h =
    let g = and_right (not (is_slash (d ∷ t))) _ h in
    plain (record { unslashed = is_not _ (and_left (not (is_slash (d ∷ t))) _ h); low = is_not _ (and_left (not (nat_eq d 60)) _ g); some = refl; other = λ l u i. word_other (d ∷ t) l u (is_not _ (and_right (not (nat_eq d 60)) _ g)) i; no_whole = refl; no_head = refl })
opener _ h = cc

-- one of them at one place
pub one_opening : (s u : Sign) (x : Place) → Opener s → Opener u → IsTrue (is_found (forth s x)) → IsTrue (is_found (forth u x)) → same_sign s u ≡ true
one_opening s u x angle angle f g = refl
one_opening s u x angle (plain {k} {d} {t} o) f g = absurd (less_other k d t x o.low f g)
one_opening s u x (plain {k} {d} {t} o) angle f g = absurd (less_other k d t x o.low g f)
one_opening s u x (plain {k} {d} {t} o) (plain {k = l} {d = e} {t = w} q) f g = one_token k l (d ∷ t) (e ∷ w) x f g

-- and no literal where one of them is
pub literal_opening : (l : Literal) (t : Text) (s : Sign) (x : Place) → Opener s → value_leaf (token_kind l) t ≡ true → IsTrue (is_found (forth (literal_sign l t) x)) → IsTrue (is_found (forth s x)) → ⊥
literal_opening l t s x angle h f g = less_literal l t x g f
literal_opening l t s x (plain {k} {d} {t = u} o) h f g = by (is_plain l) refl
  where
    by : (c : Bool) → is_plain l ≡ c → ⊥
    by true p = clash _ (one_token k (token_kind l) (d ∷ u) t x g (plain_there l t x p f)) (o.other l t h)
    by false p = clash _ (slash_token k (d ∷ u) t x g (pattern_there t x (pattern_is l p) f)).text o.unslashed

-- ---- the piece with which a template begins

pub record Stands (k : TokenKind) (x : Place) : Type 0 where
  pub text : Text
  pub whole : is_leaf k text ≡ true
  pub found : IsTrue (is_found (forth (Tok Operator k text) x))

pub data Quote (x : Place) : Type 0 where
  whole_there : Stands NoSubstitution x → Quote x
  head_there : Stands TemplateHead x → Quote x

-- not both of them
pub one_piece : {x : Place} → Stands NoSubstitution x → Stands TemplateHead x → ⊥
one_piece {x} a b = let bad : is_kind NoSubstitution TemplateHead ≡ true = and_left (is_kind NoSubstitution TemplateHead) (same a.text b.text) (one_token NoSubstitution TemplateHead a.text b.text x a.found b.found) in cc

no_whole_literal : (l : Literal) → is_kind NoSubstitution (token_kind l) ≡ false
no_whole_literal IsName = refl
no_whole_literal IsNumber = refl
no_whole_literal IsLong = refl
no_whole_literal IsString = refl
no_whole_literal IsPattern = refl

no_head_literal : (l : Literal) → is_kind TemplateHead (token_kind l) ≡ false
no_head_literal IsName = refl
no_head_literal IsNumber = refl
no_head_literal IsLong = refl
no_head_literal IsString = refl
no_head_literal IsPattern = refl

-- no literal stands where it does, and none of the signs
pub literal_piece : (l : Literal) (t : Text) (x : Place) → IsTrue (is_found (forth (literal_sign l t) x)) → Quote x → ⊥
literal_piece l t x f (whole_there q) = by (is_plain l) refl
  where
    by : (c : Bool) → is_plain l ≡ c → ⊥
    by true p = clash _ (and_left (is_kind NoSubstitution (token_kind l)) _ (one_token NoSubstitution (token_kind l) q.text t x q.found (plain_there l t x p f))) (no_whole_literal l)
    by false p = let bad : kind_number NoSubstitution ≡ kind_number Punctuator = (slash_token NoSubstitution q.text t x q.found (pattern_there t x (pattern_is l p) f)).kind in cc
literal_piece l t x f (head_there q) = by (is_plain l) refl
  where
    by : (c : Bool) → is_plain l ≡ c → ⊥
    by true p = clash _ (and_left (is_kind TemplateHead (token_kind l)) _ (one_token TemplateHead (token_kind l) q.text t x q.found (plain_there l t x p f))) (no_head_literal l)
    by false p = let bad : kind_number TemplateHead ≡ kind_number Punctuator = (slash_token TemplateHead q.text t x q.found (pattern_there t x (pattern_is l p) f)).kind in cc

no_piece_front : (k : TokenKind) (t : Text) (f : Bool) (s : Text) → ((r : Text) → is_kind (at_front Operator f (60 ∷ r)).kind k ≡ false) → first_is (nat_eq 60) s ≡ true → is_token (at_front Operator f s) k t ≡ true → ⊥
no_piece_front k t f [] n e h = cc
no_piece_front k t f (c ∷ s) n e h = clash _ (subst (λ v. is_token (at_front Operator f (v ∷ s)) k t ≡ true) (sym (eqb-true 60 c e)) h) (ap (λ b. b && same (at_front Operator f (60 ∷ s)).raw t) (n s))

less_piece : (k : TokenKind) (t : Text) (x : Place) → ((f : Bool) (r : Text) → is_kind (at_front Operator f (60 ∷ r)).kind k ≡ false) → IsTrue (is_found (forth (Tok Operand Punctuator (codes "<")) x)) → IsTrue (is_found (forth (Tok Operator k t) x)) → ⊥
less_piece k t Lost n a b = cc
less_piece k t (At q e text) n a b =
    let first = same q [] || breaks text in
    no_piece_front k t first (skip text) (n first) (less_first first (skip text) (found_token _ (At (codes "<") AfterExpr (token Operand (same q []) text).rest) a)) (found_token _ (At t AfterExpr (token Operator (same q []) text).rest) b)

pub opener_piece : {s : Sign} (x : Place) → Opener s → IsTrue (is_found (forth s x)) → Quote x → ⊥
opener_piece x angle f (whole_there q) = less_piece NoSubstitution q.text x (λ b r. (none_ahead NoSubstitution Operator 60 r refl refl refl).none b) f q.found
opener_piece x angle f (head_there q) = less_piece TemplateHead q.text x (λ b r. (none_ahead TemplateHead Operator 60 r refl refl refl).none b) f q.found
opener_piece x (plain {k} {d} {t} o) f (whole_there q) = clash _ (and_left (is_kind k NoSubstitution) _ (one_token k NoSubstitution (d ∷ t) q.text x f q.found)) o.no_whole
opener_piece x (plain {k} {d} {t} o) f (head_there q) = clash _ (and_left (is_kind k TemplateHead) _ (one_token k TemplateHead (d ∷ t) q.text x f q.found)) o.no_head

-- the row of a template reads one
pub whole_piece : {v : Surroundings} {x y : Place} (t : Tree) → Staged v false (TemplatePart NoSubstitution) x t y → Stands NoSubstitution x
whole_piece (leaf NoSubstitution t) r = record { text = t; whole = (and_right (leaf_in (TemplatePart NoSubstitution) NoSubstitution t) (is_leaf NoSubstitution t) r.reads.is); found = found_at r.reads.scans r.reads.found }
whole_piece (leaf _ t) r = let bad = r.staged in cc
whole_piece (node k ts) r = absurd (wholes.node k ts (taken_by r) (home_of r))
whole_piece (list ts) r = absurd (no_list r)

pub head_piece : {v : Surroundings} {x y : Place} (t : Tree) → Staged v false (TemplatePart TemplateHead) x t y → Stands TemplateHead x
head_piece (leaf TemplateHead t) r = record { text = t; whole = (and_right (leaf_in (TemplatePart TemplateHead) TemplateHead t) (is_leaf TemplateHead t) r.reads.is); found = found_at r.reads.scans r.reads.found }
head_piece (leaf _ t) r = let bad = r.staged in cc
head_piece (node k ts) r = absurd (heads_of.node k ts (taken_by r) (home_of r))
head_piece (list ts) r = absurd (no_list r)

pub whole_row : {V : List Context → Surroundings} {x y : Place} {ts : Forest} → Walk Staged V (row_so_far (expression (PlainTemplate false))) x ts y → Stands NoSubstitution x
whole_row (next (tree {t = t} q) w) = whole_piece t q

pub head_row : {V : List Context → Surroundings} {x y : Place} {ts : Forest} → Walk Staged V (row_so_far (expression (SubstitutedTemplate false))) x ts y → Stands TemplateHead x
head_row (next (tree {t = t} q) w) = head_piece t q

pub piece_row : {V : List Context → Surroundings} {x y : Place} {k : Kind} {ts : Forest} → Quoted k → Walk Staged V (row_so_far k) x ts y → Quote x
piece_row undivided w = whole_there (whole_row w)
piece_row divided w = head_there (head_row w)

pub piece_of : {v : Surroundings} {d : Nonterminal} {x y : Place} {k : Kind} {ts : Forest} → Quoted k → Staged v false d x (node k ts) y → Quote x
piece_of {k = k} q r = piece_row q (of_so_far.from_node k r).walk

-- ---- the sign with which the row of a kind begins, where that is no part

abbrev opens_well : Kind → Bool
opens_well k = grows (row_so_far k) || (signed (row_so_far k) && is_opening (opening_sign k))

all_open_well : every opens_well kinds ≡ true
all_open_well = refl

opens_so : (k : Kind) → Listed k → grows (row_so_far k) ≡ false → (signed (row_so_far k) && is_opening (opening_sign k)) ≡ true
opens_so k l g = or_cases (grows (row_so_far k)) _ (of_each opens_well all_open_well k l) (λ h. absurd (clash _ h g)) (λ e. e)

pub opener_of : (k : Kind) → Listed k → grows (row_so_far k) ≡ false → Opener (opening_sign k)
opener_of k l g = opener (opening_sign k) (and_right (signed (row_so_far k)) _ (opens_so k l g))

pub opened_led : (k : Kind) → Listed k → grows (row_so_far k) ≡ false → signed (row_so_far k) ≡ true
opened_led k l g = and_left (signed (row_so_far k)) _ (opens_so k l g)

pub opened_sign : {v : Surroundings} {d : Nonterminal} {x p : Place} {ts : Forest} (k : Kind) → Listed k → grows (row_so_far k) ≡ false → Staged v false d x (node k ts) p → IsTrue (is_found (forth (opening_sign k) x))
opened_sign k l g r = led_sign (row_so_far k) (opened_led k l g) (of_so_far.from_node k r).walk

-- ---- a pattern in brackets, which begins with the sign of a literal

pub data Bracketed : Kind → Type 0 where
  in_array : Bracketed (function (ArrayPat Assigns))
  in_object : Bracketed (function (ObjectPat Assigns))

-- the literal that begins so
abbrev pub literal_kind : {k : Kind} → Bracketed k → Kind
literal_kind in_array = expression Array
literal_kind in_object = expression Object

pub literal_listed : {k : Kind} (b : Bracketed k) → Listed (literal_kind b)
literal_listed in_array = listed (expression Array) refl refl refl
literal_listed in_object = listed (expression Object) refl refl refl

pub literal_still : {k : Kind} (b : Bracketed k) → grows (row_so_far (literal_kind b)) ≡ false
literal_still in_array = refl
literal_still in_object = refl

pub bracket_opener : {k : Kind} (b : Bracketed k) → Opener (opening_sign (literal_kind b))
bracket_opener b = opener_of (literal_kind b) (literal_listed b) (literal_still b)

pub bracket_sign : {v : Surroundings} {d : Nonterminal} {x p : Place} {k : Kind} {ts : Forest} (b : Bracketed k) → Staged v false d x (node k ts) p → IsTrue (is_found (forth (opening_sign (literal_kind b)) x))
bracket_sign in_array r = led_sign (row_so_far (function (ArrayPat Assigns))) refl (of_so_far.from_node (function (ArrayPat Assigns)) r).walk
bracket_sign in_object r = led_sign (row_so_far (function (ObjectPat Assigns))) refl (of_so_far.from_node (function (ObjectPat Assigns)) r).walk

-- where another sign stands there is none
abbrev pub unbracketed : Sign → Bool
unbracketed s = not (same_sign (pun "[") s) && not (same_sign (pun "{") s)

bracket_same : {j : Kind} (s : Sign) (b : Bracketed j) → unbracketed s ≡ true → same_sign (opening_sign (literal_kind b)) s ≡ true → ⊥
bracket_same s in_array n e = clash _ e (is_not _ (and_left (not (same_sign (pun "[") s)) _ n))
bracket_same s in_object n e = clash _ e (is_not _ (and_right (not (same_sign (pun "[") s)) _ n))

pub bracket_none : {v : Surroundings} {d : Nonterminal} {x p : Place} {k : Kind} {ts : Forest} {s : Sign} → Opener s → unbracketed s ≡ true → IsTrue (is_found (forth s x)) → (b : Bracketed k) → Staged v false d x (node k ts) p → ⊥
bracket_none {x = x} {s = s} o n f b r = bracket_same s b n (one_opening (opening_sign (literal_kind b)) s x (bracket_opener b) o (bracket_sign b r) f)

-- ---- what an expression begins with

-- what stands there is a literal, a node whose row begins with a sign, a template, or a pattern in brackets
pub data First (v : Surroundings) (x : Place) : Tree → Place → Type 0 where
  name : (l : Literal) {t : Text} {p : Place} → value_leaf (token_kind l) t ≡ true → is_leaf (token_kind l) t ≡ true → forth (literal_sign l t) x ≡ p → IsTrue (is_found p) → First v x (leaf (token_kind l) t) p
  opened : (d : Nonterminal) {k : Kind} {ts : Forest} {p : Place} → Listed k → grows (row_so_far k) ≡ false → Staged v false d x (node k ts) p → First v x (node k ts) p
  quoted : (d : Nonterminal) {k : Kind} {ts : Forest} {p : Place} → Quoted k → Staged v false d x (node k ts) p → First v x (node k ts) p
  bracketed : (d : Nonterminal) {k : Kind} {ts : Forest} {p : Place} → Bracketed k → Staged v false d x (node k ts) p → First v x (node k ts) p

pub leaf_forth : {v : Surroundings} {d : Nonterminal} {x p : Place} {t : Text} (l : Literal) → Staged v false d x (leaf (token_kind l) t) p → forth (literal_sign l t) x ≡ p
leaf_forth IsName r = r.reads.scans
leaf_forth IsNumber r = r.reads.scans
leaf_forth IsLong r = r.reads.scans
leaf_forth IsString r = r.reads.scans
leaf_forth IsPattern r = r.reads.scans

pub whole_of_leaf : {v : Surroundings} {d : Nonterminal} {x p : Place} {t : Text} (l : Literal) → Staged v false d x (leaf (token_kind l) t) p → is_leaf (token_kind l) t ≡ true
whole_of_leaf {d = d} {t = t} l r = and_right (leaf_in d (token_kind l) t) (is_leaf (token_kind l) t) r.reads.is

first_by : {v : Surroundings} {d : Nonterminal} {x p : Place} {t : Tree} → Value t → grown so_far t ≡ false → Staged v false d x t p → First v x t p
first_by (literal l h) g r = name l h (whole_of_leaf l r) (leaf_forth l r) r.reads.found
first_by {d = d} (made l) g r = opened d l g r

pub record Begun (v : Surroundings) (x : Place) (u : Tree) (z : Place) : Type 0 where
  pub tree : Tree
  pub place : Place
  pub first : First v x tree place
  pub onward : Onward so_far v x tree place u z

-- no row begins with a sequence, and with a piece that of a template alone
abbrev begins_single : Option Nonterminal → Bool
begins_single None = true
begins_single (Some c) = is_lone c

single_start : (d : Nonterminal) {k : Kind} (ts : Forest) → is_operand d ≡ true → Taken k → admits d (node k ts) ≡ true → is_template k ≡ false → begins_single (starts (row_so_far k)) ≡ true
single_start d ts o module' h n = refl
single_start d ts o (headed b) h n = of_begun (λ j. begins_single (starts (row_so_far j))) refl b
single_start d ts o (inner i) h n = or_cases (begins_single (starts (row_so_far (inner_kind i)))) _ (of_inner (λ j. begins_single (starts (row_so_far (inner_kind j))) || not (any_operand (homes (inner_kind j)))) refl i) (λ e. e) (λ m. absurd (no_operand d (inner_kind i) ts o (is_not _ m) h))
single_start d ts o evaluation h n = refl
single_start d ts o labelled h n = absurd (no_operand d (statement Label) ts o refl h)
single_start d ts o sequence h n = refl
single_start d ts o spread h n = refl
single_start d ts o aimed h n = refl
single_start d ts o (operand {k} l) h n = or_cases (is_template k) _ (of_each (λ j. is_template j || begins_single (starts (row_so_far j))) refl k l) (λ e. absurd (clash _ e n)) (λ e. e)

not_apart : (k : Kind) {c : Nonterminal} → starts (row_so_far k) ≡ Some c → is_apart k ≡ false
not_apart (expression Seq) b = cc
not_apart (expression Spread) b = cc
not_apart (function ParenTarget) b = cc
not_apart (function (ArrayPat Binds)) b = cc
not_apart (function (ArrayPat Assigns)) b = cc
not_apart (function (ObjectPat Binds)) b = cc
not_apart (function (ObjectPat Assigns)) b = cc
not_apart _ b = refl

pub listed_node : {v : Surroundings} {c d : Nonterminal} {k : Kind} {x y : Place} {ts : Forest} → is_operand c ≡ true → starts (row_so_far k) ≡ Some d → Staged v false c x (node k ts) y → Listed k
listed_node {c = c} {k = k} {ts = ts} o b r = listed k (and_left (has_kind k) _ r.staged) (homes_operand c (homes k) o (kind_home c k ts (home_of r))) (not_apart k b)

-- parentheses are an expression wherever they stand; all else is at the left as it is elsewhere
left_value : {v : Surroundings} {c : Nonterminal} {x y : Place} (k : Kind) (f : Tree) → is_aim f ≡ false → in_brackets f ≡ false → is_lone c ≡ true → Staged v false c x (seen k f) y → Value f
left_value {v} {c} {x} {y} k f a n o r = by f (is_pair f) refl a n r
  where
    by : (f : Tree) (b : Bool) → is_pair f ≡ b → is_aim f ≡ false → in_brackets f ≡ false → Staged v false c x (seen k f) y → Value f
    by f false e a n r = lone_value f o a n (subst (λ u. Staged v false c x u y) (seen_plain k f e) r)
    by (node (expression Parenthesized) ts) true e a n r = made (listed (expression Parenthesized) refl refl refl)
    by (node _ ts) true e a n r = cc
    by _ true e a n r = cc

-- what stands first at the left: a value, or a pattern in brackets
left_first : {v : Surroundings} {c d : Nonterminal} {x y p : Place} (k : Kind) (f : Tree) → is_aim f ≡ false → is_lone c ≡ true → Staged v false c x (seen k f) y → grown so_far f ≡ false → Staged v false d x f p → First v x f p
left_first {v} {c} {d} {x} {y} {p} k f a o r g s = by f (in_brackets f) refl a r g s
  where
    by : (f : Tree) (b : Bool) → in_brackets f ≡ b → is_aim f ≡ false → Staged v false c x (seen k f) y → grown so_far f ≡ false → Staged v false d x f p → First v x f p
    by f false e a r g s = first_by (left_value k f a e o r) g s
    by (node (function (ArrayPat Assigns)) ts) true e a r g s = bracketed d in_array s
    by (node (function (ObjectPat Assigns)) ts) true e a r g s = bracketed d in_object s
    by (node _ ts) true e a r g s = cc
    by _ true e a r g s = cc

-- ---- what stands at the left is an expression, seen as it is there

-- where what goes on is no assignment, no target in parentheses stands; where it is one, nothing but targets do
abbrev unaimed : Kind → Bool
unaimed k = cond (takes_target k) (is_left (side k)) (not (grows (row_so_far k) && lives (side k) (function ParenTarget)))

all_unaimed : every unaimed kinds ≡ true
all_unaimed = refl

grown_plain : (t : Tree) → grown so_far t ≡ true → is_pair t ≡ false
grown_plain (leaf k s) g = refl
grown_plain (node (expression Parenthesized) ts) g = cc
grown_plain (node _ ts) g = refl
grown_plain (list ts) g = refl

started : (ps : List Piece) {c : Nonterminal} → starts ps ≡ Some c → grows ps ≡ true
started (piece [] (Part d) ∷ ps) e = refl
started _ e = cc

side_is : (k : Kind) {c : Nonterminal} → starts (row_so_far k) ≡ Some c → side k ≡ c
side_is k e = ap side_of e

no_aim_at : {v : Surroundings} {c : Nonterminal} {x y : Place} (t : Tree) → lives c (function ParenTarget) ≡ false → Staged v false c x t y → (b : Bool) → is_aim t ≡ b → b ≡ false
no_aim_at t n r false e = refl
no_aim_at {c = c} (node (function ParenTarget) ts) n r true e = absurd (clash (lives c (function ParenTarget)) (kind_home c (function ParenTarget) ts (home_of r)) n)
no_aim_at (node _ ts) n r true e = cc
no_aim_at _ n r true e = cc

second_not : (a b : Bool) → (a && b) ≡ false → a ≡ true → b ≡ false
second_not true b e h = e
second_not false b e h = cc

-- what a row begins with is an operand
start_operand : (k : Kind) {c : Nonterminal} → starts (row_so_far k) ≡ Some c → Listed k → is_operand c ≡ true
start_operand k b m = subst (λ d. is_operand d ≡ true) (side_is k b) (or_cases (not (grows (row_so_far k))) (is_operand (side k)) (of_each (λ j. not (grows (row_so_far j)) || is_operand (side j)) refl k m) (λ n. absurd (clash _ (started (row_so_far k) b) (is_not _ n))) (λ h. h))

covers : Covers so_far
covers = record {
  sees = λ k v c d x y z t ts b o n r. see k b (listed_node o b n) t r (takes_target k) refl;
  stays_so = λ k t g. seen_plain k t (grown_plain t g);
}
  where
    see : {v : Surroundings} {c : Nonterminal} {x y : Place} (k : Kind) → starts (row_so_far k) ≡ Some c → Listed k → (t : Tree) → Staged v false c x t y → (a : Bool) → takes_target k ≡ a → Seen so_far k v x t y
    see {v} {c = c} {x} {y} k b m t r true e = by (in_brackets t) refl
      where
        by : (n : Bool) → in_brackets t ≡ n → Seen so_far k v x t y
        by true n = record { whole = t; is = seen_plain k t (bracket_plain t n); aims = bracket_calm t n; home = c; operand = start_operand k b m; reads = r }
        by false n =
            let l : is_left c ≡ true = subst (λ d. is_left d ≡ true) (side_is k b) (subst (λ a. cond a (is_left (side k)) (not (grows (row_so_far k) && lives (side k) (function ParenTarget))) ≡ true) e (of_each unaimed all_unaimed k m)) in
            let p = target_reads c l t n r in
            record {
              whole = as_value t;
              is = ap (λ a. cond a (as_target (as_value t)) (as_value t)) e ∙ target_back p;
              aims = calm_value p;
              home = Expr 17;
              operand = refl;
              reads = staged_value level_17 bound_word p r;
            }
    see {c = c} k b m t r false e =
        let h = is_not _ (subst (λ a. cond a (is_left (side k)) (not (grows (row_so_far k) && lives (side k) (function ParenTarget))) ≡ true) e (of_each unaimed all_unaimed k m)) in
        let n : lives c (function ParenTarget) ≡ false = subst (λ d. lives d (function ParenTarget) ≡ false) (side_is k b) (second_not (grows (row_so_far k)) (lives (side k) (function ParenTarget)) h (started (row_so_far k) b)) in
        record {
          whole = t;
          is = ap (λ a. cond a (as_target t) t) e;
          aims = no_aim_at t n r (is_aim t) refl;
          home = c;
          operand = start_operand k b m;
          reads = r;
        }

-- what stands first where no sequence does: a literal, a node, or a pattern in brackets; of a template that is its piece, and the next step the template
begun_by : {v : Surroundings} {c d : Nonterminal} {x p z : Place} {f u : Tree} → is_single c ≡ true → Staged v false c x u z → grown so_far f ≡ false → is_aim f ≡ false → Staged v false d x f p → Onward so_far v x f p u z → Begun v x u z
begun_by {p = p} {f = f} o r g a s stay = record { tree = f; place = p; first = first_by (value f o r) g r; onward = stay }
begun_by {v} {x = x} {p = p} {z = z} {f = f} {u = u} o r g a s (step {z = y} k c d {ts = ts} b i w e q on) = by (is_template k) refl
  where
    by : (t : Bool) → is_template k ≡ t → Begun v x u z
    by true h = record { tree = node k (part (seen k f) ts); place = y; first = quoted d (quoted_kind k (listed_node e b q) h) q; onward = on }
    by false h = record { tree = f; place = p; first = left_first k f a (subst (λ a. begins_single a ≡ true) b (single_start d (part (seen k f) ts) e (taken_by q) (home_of q) h)) i g s; onward = step k c d b i w e q on }

pub begun : {v : Surroundings} {c : Nonterminal} {x z : Place} → is_single c ≡ true → (u : Tree) → Staged v false c x u z → Begun v x u z
begun {c = c} o u r = let s = spine of_so_far covers u (and_left (is_operand c) _ (and_left (is_lone c) _ o)) r in begun_by o r s.stands (s.calm (calm_of (value u o r))) s.reads s.onward

-- ---- where a value may stand

pub record Seat (c : Nonterminal) : Type 0 where
  pub word : (t : Text) → is_value_word t ≡ true → leaf_in c IdentifierName t ≡ true
  pub number : (t : Text) → leaf_in c NumericLiteral t ≡ true
  pub long : (t : Text) → leaf_in c BigIntLiteral t ≡ true
  pub string : (t : Text) → leaf_in c StringLiteral t ≡ true
  pub pattern : (t : Text) → leaf_in c RegExpLiteral t ≡ true
  pub at : (l : Literal) (t : Text) → value_leaf (token_kind l) t ≡ true → leaf_at c (token_kind l) t ≡ true
  pub node : (k : Kind) (ts : Forest) → Listed k → admits c (node k ts) ≡ true

pub or_left : (a b : Bool) → a ≡ true → (a || b) ≡ true
or_left a b h = ap (λ c. c || b) h

pub or_right : (a b : Bool) → b ≡ true → (a || b) ≡ true
or_right true b h = refl
or_right false b h = h

-- where every expression of the language so far may stand
pub at_any : Seat (Expr 0)
at_any = record { word = λ t h. h; number = λ t. refl; long = λ t. refl; string = λ t. refl; pattern = λ t. refl; at = λ l t h. h; node = λ k ts l. of_each (λ j. in_homes (Expr 0) (homes j)) refl k l }

pub at_one : Seat (Expr 1)
at_one = record { word = λ t h. h; number = λ t. refl; long = λ t. refl; string = λ t. refl; pattern = λ t. refl; at = λ l t h. h; node = λ k ts l. of_each (λ j. in_homes (Expr 1) (homes j)) refl k l }

pub at_argument : Seat Argument
at_argument = record { word = λ t h. h; number = λ t. refl; long = λ t. refl; string = λ t. refl; pattern = λ t. refl; at = λ l t h. h; node = λ k ts l. of_each (λ j. in_homes Argument (homes j)) refl k l }

literal_in : {c : Nonterminal} (l : Literal) (t : Text) → Seat c → value_leaf (token_kind l) t ≡ true → leaf_in c (token_kind l) t ≡ true
literal_in IsName t s h = s.word t h
literal_in IsNumber t s h = s.number t
literal_in IsLong t s h = s.long t
literal_in IsString t s h = s.string t
literal_in IsPattern t s h = s.pattern t

-- a node somewhere else
pub node_to : {v : Surroundings} {c : Nonterminal} {x y : Place} {k : Kind} {ts : Forest} (d : Nonterminal) → admits d (node k ts) ≡ true → Staged v false c x (node k ts) y → Staged v false d x (node k ts) y
node_to {c = c} {k = k} {ts = ts} d a r = record { reads = record { is = and_both _ _ a (and_right (admits c (node k ts)) _ r.reads.is); is_legal = r.reads.is_legal; scans = r.reads.scans; found = r.reads.found }; staged = r.staged }

-- a leaf somewhere else
pub leaf_to : {v : Surroundings} {c : Nonterminal} {x y : Place} {t : Text} (d : Nonterminal) (l : Literal) → leaf_in d (token_kind l) t ≡ true → leaf_at d (token_kind l) t ≡ true → Staged v false c x (leaf (token_kind l) t) y → Staged v false d x (leaf (token_kind l) t) y
leaf_to d l i a r = record { reads = record { is = and_both _ _ i (whole_of_leaf l r); is_legal = refl; scans = r.reads.scans; found = r.reads.found }; staged = a }

pub move : {v : Surroundings} {c d : Nonterminal} {x y : Place} {t : Tree} → Seat c → Value t → Staged v false d x t y → Staged v false c x t y
move {c = c} s (literal l {t} h) r = leaf_to c l (literal_in l t s h) (s.at l t h) r
move {c = c} s (made {k} {ts} l) r = node_to c (s.node k ts l) r

-- ---- what an expression that begins so is

literal_staged : {v : Surroundings} (r : Rung) {x y : Place} (l : Literal) (t : Text) → is_rung r ≡ true → value_leaf (token_kind l) t ≡ true → is_leaf (token_kind l) t ≡ true → y ≡ forth (literal_sign l t) x → IsTrue (is_found y) → Staged v false (seat r) x (leaf (token_kind l) t) y
literal_staged r IsName t i h w e f = staged_leaf refl (literal_seat r IsName t i h) (leaf_seat r IdentifierName t h) w e f
literal_staged r IsNumber t i h w e f = staged_leaf refl (literal_seat r IsNumber t i h) (leaf_seat r NumericLiteral t h) w e f
literal_staged r IsLong t i h w e f = staged_leaf refl (literal_seat r IsLong t i h) (leaf_seat r BigIntLiteral t h) w e f
literal_staged r IsString t i h w e f = staged_leaf refl (literal_seat r IsString t i h) (leaf_seat r StringLiteral t h) w e f
literal_staged r IsPattern t i h w e f = staged_leaf refl (literal_seat r IsPattern t i h) (leaf_seat r RegExpLiteral t h) w e f

pub leaf_is : {l m : Literal} {t u : Text} → l ≡ m → t ≡ u → leaf (token_kind l) t ≡ leaf (token_kind m) u
leaf_is e f = λ i. leaf (token_kind (e i)) (f i)

pub record SameFirst (f t : Tree) (p y : Place) : Type 0 where
  pub tree : f ≡ t
  pub place : p ≡ y

pub record SameLiteral (l m : Literal) (t u : Text) : Type 0 where
  pub kinds : l ≡ m
  pub texts : t ≡ u

pub same_both : (l m : Literal) (t u : Text) (x : Place) → IsTrue (is_found (forth (literal_sign l t) x)) → IsTrue (is_found (forth (literal_sign m u) x)) → SameLiteral l m t u
same_both l m t u x f g =
    let k = same_literal l m t u x f g in
    record { kinds = k; texts = one_text (mode_of (token_kind l)) (token_kind l) t u x f (subst (λ n. IsTrue (is_found (forth (literal_sign n u) x))) (sym k) g) }

to_literal : {v : Surroundings} {x y p : Place} {f : Tree} (l : Literal) (t : Text) → value_leaf (token_kind l) t ≡ true → y ≡ forth (literal_sign l t) x → IsTrue (is_found y) → First v x f p → SameFirst f (leaf (token_kind l) t) p y
to_literal {x = x} l t i e g (name m {t = u} h w e' g') =
    let s = same_both m l u t x (found_at e' g') (found_at (sym e) g) in
    record { tree = leaf_is s.kinds s.texts; place = sym e' ∙ ((λ i. forth (literal_sign (s.kinds i) (s.texts i)) x) ∙ sym e) }
to_literal {x = x} l t i e g (bracketed d b r) = absurd (literal_opening l t (opening_sign (literal_kind b)) x (bracket_opener b) i (found_at (sym e) g) (bracket_sign b r))
to_literal {x = x} l t i e g (quoted d q r) = absurd (literal_piece l t x (found_at (sym e) g) (piece_of q r))
to_literal {x = x} l t i e g (opened d {k} m o r) = absurd (literal_opening l t (opening_sign k) x (opener_of k m o) i (found_at (sym e) g) (opened_sign k m o r))

pub onto : {v : Surroundings} {x : Place} {f t u : Tree} {p y z : Place} → SameFirst f t p y → Onward so_far v x f p u z → Onward so_far v x t y u z
onto {v} {x} {f} {t} {u} {p} {y} {z} s o = subst (λ q. Onward so_far v x t q u z) s.place (subst (λ q. Onward so_far v x q p u z) s.tree o)

pub literal_follows : {v : Surroundings} {x y : Place} (l : Literal) (t : Text) → value_leaf (token_kind l) t ≡ true → is_leaf (token_kind l) t ≡ true → y ≡ forth (literal_sign l t) x → IsTrue (is_found y) → Begins v x (leaf (token_kind l) t) y
literal_follows {x = x} l t h w e f = record {
  on = λ r i j. record {
    follows = record { home = seat r; operand = rung_operand r; reads = literal_staged r l t i h w e f; all = λ u z q. let b = begun (rung_single r i) u q.reads in onto (to_literal l t h e f b.first) b.onward };
    reads = literal_staged r l t i h w e f;
    ended = settled_token (mode_of (token_kind l)) (token_kind l) t x (leaf_full l t w) (sym e) f;
  };
  low = λ r i j. absurd (clash (rises r (leaf (token_kind l) t)) (rises_leaf r (token_kind l) t i) j);
  ended = settled_token (mode_of (token_kind l)) (token_kind l) t x (leaf_full l t w) (sym e) f;
}

-- ---- where a name and a sign ended

name_settled : {v : Surroundings} {x y : Place} (t : Tree) → Staged v false Name x t y → settled y ≡ true
name_settled {x = x} (leaf IdentifierName t) r = settled_token Operator IdentifierName t x (leaf_full IsName t (and_right true _ r.reads.is)) r.reads.scans r.reads.found
name_settled (leaf _ t) r = let bad = r.staged in cc
name_settled (node k ts) r = absurd (names.node k ts (taken_by r) (home_of r))
name_settled (list ts) r = absurd (no_list r)

pub name_ended : {v : Surroundings} {x y : Place} {t : Tree} → Only so_far v (Part Name) x (one t) y → settled y ≡ true
name_ended {t = t} o = name_settled t (whole_of o.past).reads

-- behind a bracket
pub sign_ended : {v : Surroundings} {m : _} {k : TokenKind} {c : ℕ} {t : Text} {x y : Place} {g : Given} → Past (Whole so_far) v (Fixed (Tok m k (c ∷ t))) x g y → settled y ≡ true
sign_ended {m = m} {k} {c} {t} {x} (sign e f) = settled_token m k (c ∷ t) x refl e f
