-- A name that is one token alone is read as that token wherever it stands before what doesn't go on with it.
use Rattle.std.proofs.Common.{◌≡◌, ℕ, suc, ◌≤◌, [], ◌∷◌, ◌++◌, Bool, true, false, cond, ◌&&◌, ◌||◌, nat_eq, length, refl, sym, ap, ◌∙◌, subst, codes, arith}
use Rattle.jsx_base.specs.Token.{Text, Operator, TokenKind, IdentifierName, Punctuator, NumericLiteral, BigIntLiteral, NoSubstitution, TemplateHead, NoToken, is_kind, begins, is_start, is_part, is_blank, is_line_end, first_is, is_digit, Gap, Blank, InLineComment, Opening, BehindGap, gap_next, is_over, behind_gap, skip, breaks, State, Dead, InName, BehindZero, InDigits, InFraction, InString, InPiece, step, is_dead, accepts, taken, left, last_state, code_state, Lexeme, no_token, ended, punct, punctuator, lexed, at_front, token}
use Rattle.jsx_base.proofs.Automata.{runs, stops, Read, read_on}
use Rattle.jsx_tree.specs.Form.{is_leaf}
use Rattle.react_compile.proofs.Tests.{here, there, same_is, unlike, cond_true}
use Rattle.react_compile.proofs.Becomes.{Never, either, to, dead, last_never, accepts_never}

-- ---- where a token of code begins

-- a character that isn't skipped, begins no comment, and none of the words of old browsers
pub record Front (c : ℕ) : Type 0 where
  pub unskipped : (is_blank c || is_line_end c) ≡ false
  pub no_slash : nat_eq 47 c ≡ false
  pub no_less : nat_eq 60 c ≡ false
  pub no_minus : nat_eq 45 c ≡ false

abbrev gap : Bool → Bool → Bool → Bool → Gap
gap a b x y = cond a Blank (cond (b && x) InLineComment (cond (b && y) (Opening 1) BehindGap))

skip_here : (c : ℕ) (text : Text) → Front c → skip (c ∷ text) ≡ c ∷ text
skip_here c text f = go (is_blank c || is_line_end c) (nat_eq 47 c) (begins (47 ∷ []) text) (begins (42 ∷ []) text) f.unskipped f.no_slash
  where
    go : (a b x y : Bool) → a ≡ false → b ≡ false → cond (is_over (gap a b x y)) (c ∷ text) (behind_gap (gap a b x y) text) ≡ c ∷ text
    go false false x y p q = refl
    go true b x y p q = cc
    go false true x y p q = cc

front_here : (fresh : Bool) (c : ℕ) (text : Text) → Front c → at_front Operator fresh (c ∷ text) ≡ lexed Operator (code_state false c text) c text
front_here fresh c text f = go (nat_eq 60 c) (nat_eq 45 c) fresh (begins (codes "!--") text) (begins (codes "->") text) f.no_less f.no_minus
  where
    go : (a b d x y : Bool) → a ≡ false → b ≡ false → cond ((a && x) || (d && (b && y))) (no_token (c ∷ text)) (lexed Operator (code_state false c text) c text) ≡ lexed Operator (code_state false c text) c text
    go false false true x y p q = refl
    go false false false x y p q = refl
    go true b d x y p q = cc
    go false true d x y p q = cc

-- what stands before a token
pub data Lead : Type 0 where
  at_once : Lead
  behind_blank : Lead
  behind_line : Lead

abbrev pub lead : Lead → Text → Text
lead at_once text = text
lead behind_blank text = 32 ∷ text
lead behind_line text = 10 ∷ text

pub token_here : (first : Bool) (l : Lead) (c : ℕ) (text : Text) → Front c → token Operator first (lead l (c ∷ text)) ≡ lexed Operator (code_state false c text) c text
token_here first at_once c text f = ap (at_front Operator (first || breaks (c ∷ text))) (skip_here c text f) ∙ front_here (first || breaks (c ∷ text)) c text f
token_here first behind_blank c text f = ap (at_front Operator (first || breaks (c ∷ text))) (skip_here c text f) ∙ front_here (first || breaks (c ∷ text)) c text f
token_here first behind_line c text f = ap (at_front Operator (first || breaks (10 ∷ c ∷ text))) (skip_here c text f) ∙ front_here (first || breaks (10 ∷ c ∷ text)) c text f

-- ---- names

pub in_name : (t : Text) → last_state InName t ≡ InName
in_name [] = refl
in_name (c ∷ t) = go (is_part c) (in_name t)
  where
    go : (b : Bool) → last_state InName t ≡ InName → cond (is_dead (cond b InName Dead)) InName (last_state (cond b InName Dead) t) ≡ InName
    go true h = h
    go false h = refl

pub name_token : (first : Bool) (l : Lead) (c : ℕ) (t rest : Text) → Front c → is_start c ≡ true → runs InName t ≡ true → stops InName rest ≡ true
    → token Operator first (lead l (c ∷ (t ++ rest))) ≡ record { kind = IdentifierName; raw = c ∷ t; rest = rest }
name_token first l c t rest f s h e =
    let r : Read InName t rest = read_on InName t rest h (subst (λ x. stops x rest ≡ true) (sym (in_name t)) e) in
    token_here first l c (t ++ rest) f
    ∙ ap (λ x. lexed Operator x c (t ++ rest)) (cond_true (is_start c) InName _ s)
    ∙ ap (λ x. ended (accepts x) (c ∷ taken InName (t ++ rest)) (left InName (t ++ rest))) (r.state_is ∙ in_name t)
    ∙ ap (λ x. ended IdentifierName (c ∷ x) (left InName (t ++ rest))) r.takes_it
    ∙ ap (λ x. ended IdentifierName (c ∷ t) x) r.leaves

-- a text that is a name
pub record Word (x : Text) : Type 0 where
  pub first : ℕ
  pub others : Text
  pub is : x ≡ first ∷ others
  pub front : Front first
  pub starts : is_start first ≡ true
  pub runs_on : runs InName others ≡ true

pub word_token : (first : Bool) (l : Lead) (x rest : Text) → Word x → stops InName rest ≡ true → token Operator first (lead l (x ++ rest)) ≡ record { kind = IdentifierName; raw = x; rest = rest }
word_token first l x rest w e = subst (λ y. token Operator first (lead l (y ++ rest)) ≡ record { kind = IdentifierName; raw = y; rest = rest }) (sym w.is) (name_token first l w.first w.others rest w.front w.starts w.runs_on e)

-- ---- what a leaf that is one token says

shorter : (g : Gap) (t : Text) → length (behind_gap g t) ≤ length t
shorter g [] = omega arith
shorter g (c ∷ t) = go (is_over (gap_next g c t)) (shorter (gap_next g c t) t)
  where
    go : (b : Bool) → length (behind_gap (gap_next g c t) t) ≤ length t → length (cond b (c ∷ t) (behind_gap (gap_next g c t) t)) ≤ suc (length t)
    go true h = omega arith
    go false h = omega arith

-- what isn't skipped
pub over : (c : ℕ) (t : Text) → skip (c ∷ t) ≡ c ∷ t → is_over (gap_next Blank c t) ≡ true
over c t h = go (is_over (gap_next Blank c t)) h
  where
    go : (b : Bool) → cond b (c ∷ t) (behind_gap (gap_next Blank c t) t) ≡ c ∷ t → b ≡ true
    go true e = refl
    go false e = let k : length (behind_gap (gap_next Blank c t) t) ≤ length t = shorter (gap_next Blank c t) t in let l : length (behind_gap (gap_next Blank c t) t) ≡ suc (length t) = ap length e in absurd (omega arith)

pub not_blank : (c : ℕ) (t : Text) → is_over (gap_next Blank c t) ≡ true → (is_blank c || is_line_end c) ≡ false
not_blank c t h = go (is_blank c || is_line_end c) h
  where
    go : (b : Bool) → is_over (gap b (nat_eq 47 c) (begins (47 ∷ []) t) (begins (42 ∷ []) t)) ≡ true → b ≡ false
    go true e = cc
    go false e = refl

pub front_of : (c : ℕ) → is_start c ≡ true → (is_blank c || is_line_end c) ≡ false → Front c
front_of c h u = record { unskipped = u; no_slash = unlike is_start 47 c h refl; no_less = unlike is_start 60 c h refl; no_minus = unlike is_start 45 c h refl }

-- ---- which state begins a name

pub first_only : {k : TokenKind} (b : Bool) (x : State) {y : State} → b ≡ false → Never k y → Never k (cond b x y)
first_only true x h j = cc
first_only false x h j = j

start_never : (c : ℕ) (t : Text) → is_start c ≡ false → Never IdentifierName (code_state false c t)
start_never c t h =
    first_only (is_start c) InName h (either _ (to BehindZero refl) (either _ (to (InDigits true) refl) (either _ (to (InFraction false) refl)
    (either _ (to (InString c) refl) (either _ (to (InPiece NoSubstitution TemplateHead) refl) dead)))))

pub ended_kind : (k j : TokenKind) (raw rest : Text) → is_kind NoToken k ≡ false → is_kind j k ≡ false → is_kind (ended j raw rest).kind k ≡ false
ended_kind k NoToken raw rest n h = n
ended_kind k NumericLiteral raw rest n h = go (first_is is_start rest || first_is is_digit rest)
  where
    go : (b : Bool) → is_kind (cond b (no_token rest) (record { kind = NumericLiteral; raw = raw; rest = rest })).kind k ≡ false
    go true = n
    go false = h
ended_kind k BigIntLiteral raw rest n h = go (first_is is_start rest || first_is is_digit rest)
  where
    go : (b : Bool) → is_kind (cond b (no_token rest) (record { kind = BigIntLiteral; raw = raw; rest = rest })).kind k ≡ false
    go true = n
    go false = h
ended_kind k _ raw rest n h = h

punct_kind : (k : TokenKind) (q t : Text) → is_kind NoToken k ≡ false → is_kind Punctuator k ≡ false → is_kind (punct q t).kind k ≡ false
punct_kind k [] t n p = n
punct_kind k (c ∷ q) t n p = p

pub lexed_kind : (k : TokenKind) (s : State) (c : ℕ) (t : Text) → is_kind NoToken k ≡ false → is_kind Punctuator k ≡ false → Never k s → is_kind (lexed Operator s c t).kind k ≡ false
lexed_kind k Dead c t n p h = punct_kind k (punctuator (c ∷ t)) (c ∷ t) n p
lexed_kind k s c t n p h = ended_kind k (accepts (last_state s t)) (c ∷ taken s t) (left s t) n (accepts_never k (last_state s t) n (last_never k s t h).says)

-- what a text reads as that is one name
pub record Begun (text x : Text) : Type 0 where
  pub first : ℕ
  pub others : Text
  pub text_is : text ≡ first ∷ others
  pub is : x ≡ first ∷ others
  pub starts : is_start first ≡ true
  pub runs_on : runs InName others ≡ true

pub taken_all : (s : State) (t : Text) → left s t ≡ [] → taken s t ≡ t
taken_all s [] h = refl
taken_all s (c ∷ t) h = go (is_dead (step s c)) (taken_all (step s c) t) h
  where
    go : (b : Bool) → (left (step s c) t ≡ [] → taken (step s c) t ≡ t) → cond b (c ∷ t) (left (step s c) t) ≡ [] → cond b [] (c ∷ taken (step s c) t) ≡ c ∷ t
    go true r e = cc
    go false r e = ap (λ x. c ∷ x) (r e)

pub runs_all : (s : State) (t : Text) → left s t ≡ [] → runs s t ≡ true
runs_all s [] h = refl
runs_all s (c ∷ t) h = go (is_dead (step s c)) (runs_all (step s c) t) h
  where
    go : (b : Bool) → (left (step s c) t ≡ [] → runs (step s c) t ≡ true) → cond b (c ∷ t) (left (step s c) t) ≡ [] → cond b false (runs (step s c) t) ≡ true
    go true r e = cc
    go false r e = r e

pub record Is (x : Lexeme) (k : TokenKind) (raw rest : Text) : Type 0 where
  pub kind_is : is_kind x.kind k ≡ true
  pub raw_is : x.raw ≡ raw
  pub rest_is : x.rest ≡ rest

as_name : (c : ℕ) (t x : Text) → Is (lexed Operator InName c t) IdentifierName x [] → is_start c ≡ true → Begun (c ∷ t) x
as_name c t x l s =
    let e : accepts (last_state InName t) ≡ IdentifierName = ap accepts (in_name t) in
    let m : Lexeme → Lexeme = λ y. y in
    let r : left InName t ≡ [] = sym (ap (λ k. (ended k (c ∷ taken InName t) (left InName t)).rest) e) ∙ l.rest_is in
    let w : c ∷ taken InName t ≡ x = sym (ap (λ k. (ended k (c ∷ taken InName t) (left InName t)).raw) e) ∙ l.raw_is in
    record { first = c; others = t; text_is = refl; is = sym w ∙ ap (λ y. c ∷ y) (taken_all InName t r); starts = s; runs_on = runs_all InName t r }

as_lexed : (c : ℕ) (t x : Text) → Is (lexed Operator (code_state false c t) c t) IdentifierName x [] → Begun (c ∷ t) x
as_lexed c t x l = go (is_start c) refl
  where
    go : (b : Bool) → is_start c ≡ b → Begun (c ∷ t) x
    go true e = as_name c t x (subst (λ s. Is (lexed Operator s c t) IdentifierName x []) (cond_true (is_start c) InName _ e) l) e
    go false e = let n : is_kind (lexed Operator (code_state false c t) c t).kind IdentifierName ≡ false = lexed_kind IdentifierName (code_state false c t) c t refl refl (start_never c t e) in let k = l.kind_is in cc

as_front : (fresh : Bool) (text x : Text) → Is (at_front Operator fresh text) IdentifierName x [] → Begun text x
as_front fresh [] x l = let k = l.kind_is in cc
as_front fresh (c ∷ t) x l = go (begins (codes "<!--") (c ∷ t) || (fresh && begins (codes "-->") (c ∷ t))) l
  where
    go : (b : Bool) → Is (cond b (no_token (c ∷ t)) (lexed Operator (code_state false c t) c t)) IdentifierName x [] → Begun (c ∷ t) x
    go true m = let k = m.kind_is in cc
    go false m = as_lexed c t x m

pub word_of_leaf : (x : Text) → is_leaf IdentifierName x ≡ true → Word x
word_of_leaf x h =
    let l : Is (token Operator false x) IdentifierName x [] = record { kind_is = here _ _ (here _ _ h); raw_is = same_is _ _ (there _ _ (here _ _ h)); rest_is = same_is _ _ (there _ _ h) } in
    let b : Begun (skip x) x = as_front (breaks x) (skip x) x l in
    let u : skip (b.first ∷ b.others) ≡ b.first ∷ b.others = subst (λ y. skip y ≡ b.first ∷ b.others) b.is b.text_is in
    record { first = b.first; others = b.others; is = b.is; front = front_of b.first b.starts (not_blank b.first b.others (over b.first b.others u)); starts = b.starts; runs_on = b.runs_on }
