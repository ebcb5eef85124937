-- A tag's name between quotes is the string literal that it is quoted as.
use Rattle.std.proofs.Common.{◌≡◌, ℕ, zero, suc, ◌<◌, [], ◌∷◌, ◌++◌, Bool, true, false, cond, not, ◌&&◌, ◌||◌, nat_eq, nat_lt, ◌≢◌, refl, sym, ap, ◌∙◌, subst, arith}
use Rattle.unicode_ident.proofs.Computing.{unicode_ident}
use Rattle.std.proofs.lemmas.Bool.{ltb-true, false≢true}
use Rattle.jsx_base.specs.Token.{Text, Operator, TokenKind, StringLiteral, is_start, is_part, Dead, Done, InString, InJsxName, step, is_dead, accepts, taken, left, last_state, ended, token}
use Rattle.jsx_base.proofs.Automata.{runs, stops, Read, read_on}
use Rattle.react_compile.specs.Made.{escaped, escaped_all, quoted}
use Rattle.react_compile.proofs.Tests.{or_left, or_right, here, there, number_is, number_self, unlike'}
use Rattle.react_compile.proofs.Words.{Lead, lead, token_here}
use Rattle.react_compile.proofs.Tags.{TagName}

-- a character of a tag's name
abbrev tag_char : ℕ → Bool
tag_char c = is_start c || (is_part c || nat_eq c 45)

line_separator : tag_char 8232 ≡ false
unfolding unicode_ident
line_separator = refl

paragraph_separator : tag_char 8233 ≡ false
unfolding unicode_ident
paragraph_separator = refl

abbrev pub fails_below : (ℕ → Bool) → ℕ → Bool
fails_below p zero = true
fails_below p (suc n) = not (p n) && fails_below p n

-- a character that passes isn't below n, where none there passes
pub none_below : (p : ℕ → Bool) (c m : ℕ) → p c ≡ true → fails_below p m ≡ true → c < m → ⊥
none_below p c zero h g l = omega arith
none_below p c (suc m) h g l = go (nat_eq c m) refl (none_below p c m h (there _ _ g))
  where
    go : (b : Bool) → nat_eq c m ≡ b → (c < m → ⊥) → ⊥
    go true e r = let k : p c ≡ p m = ap p (number_is c m e) in let n : not (p m) ≡ true = here _ _ g in cc
    go false e r = r (below e)
      where
        below : nat_eq c m ≡ false → c < m
        below q = let n : c ≢ m = λ i. false≢true (sym q ∙ ap (λ x. nat_eq c x) (sym i) ∙ number_self c) in omega arith

not_below : (p : ℕ → Bool) (n c : ℕ) → p c ≡ true → fails_below p n ≡ true → nat_lt c n ≡ false
not_below p n c h f = go (nat_lt c n) refl
  where
    go : (b : Bool) → nat_lt c n ≡ b → b ≡ false
    go false e = refl
    go true e = absurd (none_below p c n h f (ltb-true c n e))

pub record Plain (c : ℕ) : Type 0 where
  pub itself : escaped c ≡ c ∷ []
  pub goes_on : step (InString 34) c ≡ InString 34

plain : (c : ℕ) → tag_char c ≡ true → Plain c
plain c h =
    let quote : nat_eq c 34 ≡ false = unlike' tag_char c 34 h refl in
    let backslash : nat_eq c 92 ≡ false = unlike' tag_char c 92 h refl in
    let line_feed : nat_eq c 10 ≡ false = unlike' tag_char c 10 h refl in
    let return : nat_eq c 13 ≡ false = unlike' tag_char c 13 h refl in
    let tab : nat_eq c 9 ≡ false = unlike' tag_char c 9 h refl in
    let separator : nat_eq c 8232 ≡ false = unlike' tag_char c 8232 h line_separator in
    let paragraph : nat_eq c 8233 ≡ false = unlike' tag_char c 8233 h paragraph_separator in
    let control : nat_lt c 32 ≡ false = not_below tag_char 32 c h refl in
    let delete : nat_eq c 127 ≡ false = unlike' tag_char c 127 h refl in
    record { itself = rw (quote, backslash, line_feed, return, tab, separator, paragraph, control, delete) refl; goes_on = rw (quote, backslash, line_feed, return) refl }

-- ---- the whole name

pub data AllPlain : Text → Type 0 where
  no_more : AllPlain []
  next_plain : {c : ℕ} {t : Text} → Plain c → AllPlain t → AllPlain (c ∷ t)

goes_jsx : (c : ℕ) (t : Text) → runs InJsxName (c ∷ t) ≡ true → ((is_part c || nat_eq c 45) ≡ true) × (runs InJsxName t ≡ true)
goes_jsx c t h = go (is_part c || nat_eq c 45) h
  where
    go : (b : Bool) → cond (is_dead (cond b InJsxName Dead)) false (runs (cond b InJsxName Dead) t) ≡ true → (b ≡ true) × (runs InJsxName t ≡ true)
    go true e = (refl, e)
    go false e = cc

all_plain : (t : Text) → runs InJsxName t ≡ true → AllPlain t
all_plain [] h = no_more
all_plain (c ∷ t) h = let g = goes_jsx c t h in next_plain (plain c (or_right (is_start c) _ g.0)) (all_plain t g.1)

pub plain_tag : (x : Text) → TagName x → AllPlain x
plain_tag x g = subst AllPlain (sym g.is) (next_plain (plain g.first (or_left _ (is_part g.first || nat_eq g.first 45) g.starts)) (all_plain g.others g.runs_on))

itself_all : (t : Text) → AllPlain t → escaped_all t ≡ t
itself_all [] no_more = refl
itself_all (c ∷ t) (next_plain p ps) = ap (λ x. x ++ escaped_all t) p.itself ∙ ap (λ x. c ∷ x) (itself_all t ps)

-- nothing in it needs an escape
pub quoted_plain : (t : Text) → AllPlain t → quoted t ≡ 34 ∷ (t ++ 34 ∷ [])
quoted_plain t p = ap (λ x. 34 ∷ (x ++ 34 ∷ [])) (itself_all t p)

runs_plain : (t : Text) → AllPlain t → runs (InString 34) (t ++ 34 ∷ []) ≡ true
runs_plain [] no_more = refl
runs_plain (c ∷ t) (next_plain p ps) = rw p.goes_on (runs_plain t ps)

last_plain : (t : Text) → AllPlain t → last_state (InString 34) (t ++ 34 ∷ []) ≡ Done StringLiteral
last_plain [] no_more = refl
last_plain (c ∷ t) (next_plain p ps) = rw p.goes_on (last_plain t ps)

stops_done : (k : TokenKind) (rest : Text) → stops (Done k) rest ≡ true
stops_done k [] = refl
stops_done k (c ∷ rest) = refl

pub string_token : (first : Bool) (l : Lead) (t rest : Text) → AllPlain t → token Operator first (lead l (34 ∷ ((t ++ 34 ∷ []) ++ rest))) ≡ record { kind = StringLiteral; raw = 34 ∷ (t ++ 34 ∷ []); rest = rest }
string_token first l t rest p =
    let body = t ++ 34 ∷ [] in
    let e : last_state (InString 34) body ≡ Done StringLiteral = last_plain t p in
    let r : Read (InString 34) body rest = read_on (InString 34) body rest (runs_plain t p) (subst (λ s. stops s rest ≡ true) (sym e) (stops_done StringLiteral rest)) in
    token_here first l 34 (body ++ rest) (record { unskipped = refl; no_slash = refl; no_less = refl; no_minus = refl })
    ∙ ap (λ x. ended (accepts x) (34 ∷ taken (InString 34) (body ++ rest)) (left (InString 34) (body ++ rest))) (r.state_is ∙ e)
    ∙ ap (λ x. ended StringLiteral (34 ∷ x) (left (InString 34) (body ++ rest))) r.takes_it
    ∙ ap (λ x. ended StringLiteral (34 ∷ body) x) r.leaves
