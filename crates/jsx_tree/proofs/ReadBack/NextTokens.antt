-- What may come next behind a tree, a list or a row: the words in which rows are walked.
use Rattle.std.proofs.Common.{◌≡◌, ℕ, List, [], ◌∷◌, ◌++◌, Bool, true, false, not, ◌||◌, ◌&&◌, codes, refl, sym, ap, ◌∙◌, subst, ⊎_elim}
use Rattle.std.specs.Prelude.{nat_eq}
use Rattle.std.proofs.lemmas.Bool.{false≢true, and_parts, and_from, or_parts, or_cases, eqb-true, false_from_ne_true, not-true, not_from_false, or_left, or_right, or_from, and_left, and_right}
use Rattle.jsx_base.specs.Token.{Text, Mode, Operand, Operator, Piece, Tag, Children, TokenKind, Punctuator, among, same, is_one_of, is_digit, is_code}
use Rattle.jsx_tree.specs.Signs.{Sign, Tok, Semicolon, TrailingComma, Unless, SameLine, Ends, Space, Pad, Line, Indent, Outdent, Unindent, Apart, Begin, Count, One, End}
use Rattle.jsx_tree.specs.Nonterminals.{Nonterminal}
use Rattle.jsx_tree.specs.Layout.{last, first_char}
use Rattle.jsx_base.proofs.Longest.{same_is}
use Rattle.jsx_tree.proofs.ReadBack.Joins.{Next, Nothing, Semi, Token, Ahead, at_once, sign_ahead, ahead, goes_on, is_pointed, follows, skips_next, open_gap, next_ok, joint, no_slash, is_none_of, at_end, good, sign_good}
use Rattle.jsx_tree.proofs.ReadBack.RowChecks.{calm_chars, calm_next, even, calm, is_tagged, is_linked, Need, Even, Calm, After, NoneOf, Sure, holds, Outs, idle, chars_are, is_one_text, outside_ok, is_starter, no_starter, is_punct, is_name_place, elseless, is_quoted, with_token, try_words, part_words, all_in}
use Rattle.jsx_tree.proofs.ReadBack.Basics.{clash}

-- ---- lists of signs put together

pub ahead_append : (x y : List Sign) (v : Ahead) → ahead (x ++ y) v ≡ ahead x (ahead y v)
ahead_append [] y v = refl
ahead_append (m ∷ x) y v = ap (sign_ahead m) (ahead_append x y v)

pub good_append : (x y : List Sign) (v : Ahead) → good x (ahead y v) ≡ true → good y v ≡ true → good (x ++ y) v ≡ true
good_append [] y v g h = h
good_append (m ∷ x) y v g h =
    let a = and_parts (sign_good m (ahead x (ahead y v))) (good x (ahead y v)) g in
    and_from (sign_good m (ahead (x ++ y) v)) (good (x ++ y) v) (ap (sign_good m) (ahead_append x y v) ∙ a.0) (good_append x y v a.1 h)

-- ---- tests

pub char_of : (p : ℕ → Bool) (ds : Text) (c : ℕ) → chars_are p ds ≡ true → is_one_of c ds ≡ true → p c ≡ true
char_of p [] c h e = absurd (false≢true e)
char_of p (d ∷ ds) c h e =
    let a = and_parts (p d) (chars_are p ds) h in
    go (nat_eq c d) refl e a.0 (λ g. char_of p ds c a.1 g)
  where
    go : (b : Bool) → nat_eq c d ≡ b → (b || is_one_of c ds) ≡ true → p d ≡ true → (is_one_of c ds ≡ true → p c ≡ true) → p c ≡ true
    go true f g a r = subst (λ x. p x ≡ true) (sym (eqb-true c d f)) a
    go false f g a r = r g

-- a guard asks of fewer texts than another
pub among_fewer : (x : Text) (ts us : List Text) → among x us ≡ false → all_in ts us ≡ true → among x ts ≡ false
among_fewer x [] us n h = refl
among_fewer x (t ∷ ts) us n h =
    let a = and_parts (among t us) (all_in ts us) h in
    or_from (same x t) (among x ts) (false_from_ne_true (same x t) (λ e. clash (among x us) (subst (λ y. among y us ≡ true) (sym (same_is x t e)) a.0) n)) (among_fewer x ts us n a.1)

slash_tail : (u : Text) (us : List Text) → no_slash (u ∷ us) ≡ true → no_slash us ≡ true
slash_tail [] us h = absurd (false≢true h)
slash_tail (c ∷ u) us h = (and_parts (not (nat_eq c 47)) (no_slash us) h).1

slash_first : (u : Text) (us ts : List Text) → no_slash (u ∷ us) ≡ true → no_slash ts ≡ true → no_slash (u ∷ ts) ≡ true
slash_first [] us ts h g = absurd (false≢true h)
slash_first (c ∷ u) us ts h g = and_from (not (nat_eq c 47)) (no_slash ts) ((and_parts (not (nat_eq c 47)) (no_slash us) h).0) g

slash_more : (t : Text) (us ts : List Text) → no_slash us ≡ true → among t us ≡ true → no_slash ts ≡ true → no_slash (t ∷ ts) ≡ true
slash_more t [] ts h e g = absurd (false≢true e)
slash_more t (u ∷ us) ts h e g =
    ⊎_elim (λ (s : same t u ≡ true). subst (λ y. no_slash (y ∷ ts) ≡ true) (sym (same_is t u s)) (slash_first u us ts h g)) (λ (r : among t us ≡ true). slash_more t us ts (slash_tail u us h) r g) (or_cases (same t u) (among t us) e)

pub slash_fewer : (ts us : List Text) → no_slash us ≡ true → all_in ts us ≡ true → no_slash ts ≡ true
slash_fewer [] us n h = refl
slash_fewer (t ∷ ts) us n h = let a = and_parts (among t us) (all_in ts us) h in slash_more t us ts n a.0 (slash_fewer ts us n a.1)

pub none_fewer : (n : Next) (ts us : List Text) → all_in ts us ≡ true → is_none_of n us ≡ true → is_none_of n ts ≡ true
none_fewer Nothing ts us h e = slash_fewer ts us e h
none_fewer Semi ts us h e = not_from_false _ (among_fewer (codes ";") ts us (not-true _ e) h)
none_fewer (Token Operator s t) ts us h e = not_from_false _ (among_fewer t ts us (not-true _ e) h)
none_fewer (Token Operand s t) ts us h e = slash_fewer ts us e h
none_fewer (Token Piece s t) ts us h e = absurd (false≢true e)
none_fewer (Token Tag s t) ts us h e = absurd (false≢true e)
none_fewer (Token Children s t) ts us h e = absurd (false≢true e)

one_text : (ts : List Text) (t : Text) → is_one_text ts t ≡ true → ts ≡ t ∷ []
one_text [] t h = absurd (false≢true h)
one_text (u ∷ []) t h = ap (λ x. x ∷ []) (same_is u t h)
one_text (u ∷ v ∷ us) t h = absurd (false≢true h)

pub even_gap : (v : Ahead) → even v ≡ true → open_gap [] v ≡ true
even_gap v h =
    let a = and_parts (skips_next v.next) (not (v.same_line && v.line)) h in
    and_from (not (v.same_line && v.line)) (skips_next v.next || v.void) a.1 (or_left (skips_next v.next) v.void a.0)

-- ---- behind a row

pub record Outside (o : Outs) (v : Ahead) : Type 0 where
  pub calm_out : o.known ≡ true → calm o.dot o.els v ≡ true
  pub comma_out : o.no_comma ≡ true → is_none_of v.next (codes "," ∷ []) ≡ true
  pub part_out : o.no_part ≡ true → is_none_of v.next try_words ≡ true
  pub even_out : even v ≡ true
  pub end_out : o.nothing ≡ true → v ≡ at_end

abbrev imp : Bool → Bool → Type 0
imp a b = (not a || b) ≡ true

imp_to : (a b : Bool) → (not a || b) ≡ true → a ≡ true → b ≡ true
imp_to true b h e = h
imp_to false b h e = absurd (false≢true e)

calm_more : (b c : Bool) (n : Next) → (not b || c) ≡ true → calm_next b n ≡ true → calm_next c n ≡ true
calm_more b c Nothing h e = refl
calm_more b c Semi h e = refl
calm_more true true (Token m s t) h e = e
calm_more true false (Token m s t) h e = absurd (false≢true h)
calm_more false false (Token m s t) h e = e
calm_more false true (Token m s t) h e = char_of (λ c. is_one_of c (calm_chars true)) (calm_chars false) (first_char t) refl e

pub calm_weaker : (b e c f : Bool) (v : Ahead) → (not b || c) ≡ true → (not e || f) ≡ true → calm b e v ≡ true → calm c f v ≡ true
calm_weaker b e c f v hb he h =
    let a = and_parts (even v) _ h in
    let k = and_parts (v.sure || calm_next b v.next) (is_none_of v.next (codes "=>" ∷ []) && (e || is_none_of v.next (codes "else" ∷ []))) a.1 in
    let l = and_parts (is_none_of v.next (codes "=>" ∷ [])) (e || is_none_of v.next (codes "else" ∷ [])) k.1 in
    and_from (even v) _ a.0 (and_from (v.sure || calm_next c v.next) _ (sure_or v.sure (calm_next b v.next) (calm_next c v.next) (calm_more b c v.next hb) k.0)
    (and_from (is_none_of v.next (codes "=>" ∷ [])) _ l.0 (els e f (is_none_of v.next (codes "else" ∷ [])) he l.1)))
  where
    sure_or : (s x y : Bool) → (x ≡ true → y ≡ true) → (s || x) ≡ true → (s || y) ≡ true
    sure_or true x y f h = refl
    sure_or false x y f h = f h

    els : (e f n : Bool) → (not e || f) ≡ true → (e || n) ≡ true → (f || n) ≡ true
    els true true n h k = refl
    els true false n h k = absurd (false≢true h)
    els false true n h k = refl
    els false false n h k = k

semi_calm : (b : Bool) → is_one_of 59 (calm_chars b) ≡ true
semi_calm true = refl
semi_calm false = refl

calm_joint : (b e : Bool) (s : TokenKind) (t : Text) (v : Ahead) → chars_are (follows s t) (calm_chars b) ≡ true → calm b e v ≡ true → joint s t v ≡ true
calm_joint b e s t v h c =
    let a = and_parts (even v) _ c in
    let k = and_parts (v.sure || calm_next b v.next) (is_none_of v.next (codes "=>" ∷ []) && (e || is_none_of v.next (codes "else" ∷ []))) a.1 in
    go v.sure v.next v.apart k.0
  where
    go : (x : Bool) (n : Next) (a : Bool) → (x || calm_next b n) ≡ true → (x || next_ok (follows s t) t a n) ≡ true
    go true n a k = refl
    go false Nothing a k = refl
    go false Semi a k = char_of (follows s t) (calm_chars b) 59 h (semi_calm b)
    go false (Token m r u) a k = or_right (a && nat_eq (last t) (first_char u)) (follows s t (first_char u)) (char_of (follows s t) (calm_chars b) (first_char u) h k)

pub calm_even : (b e : Bool) (v : Ahead) → calm b e v ≡ true → even v ≡ true
calm_even b e v c = (and_parts (even v) _ c).0

pub calm_after : (b e : Bool) (s : TokenKind) (t : Text) (v : Ahead) → chars_are (follows s t) (calm_chars b) ≡ true → calm b e v ≡ true → holds (After s t) v ≡ true
calm_after b e s t v h c = and_from (open_gap [] v) (joint s t v) (even_gap v (calm_even b e v c)) (calm_joint b e s t v h c)

calm_arrow : (b e : Bool) (v : Ahead) → calm b e v ≡ true → is_none_of v.next (codes "=>" ∷ []) ≡ true
calm_arrow b e v h =
    let a = and_parts (even v) _ h in
    let k = and_parts (v.sure || calm_next b v.next) (is_none_of v.next (codes "=>" ∷ []) && (e || is_none_of v.next (codes "else" ∷ []))) a.1 in
    (and_parts (is_none_of v.next (codes "=>" ∷ [])) (e || is_none_of v.next (codes "else" ∷ [])) k.1).0

calm_else : (b e : Bool) (v : Ahead) → e ≡ false → calm b e v ≡ true → is_none_of v.next (codes "else" ∷ []) ≡ true
calm_else b true v n h = absurd (false≢true (sym n))
calm_else b false v n h =
    let a = and_parts (even v) _ h in
    let k = and_parts (v.sure || calm_next b v.next) (is_none_of v.next (codes "=>" ∷ []) && is_none_of v.next (codes "else" ∷ [])) a.1 in
    (and_parts (is_none_of v.next (codes "=>" ∷ [])) (is_none_of v.next (codes "else" ∷ [])) k.1).1

pub outside_holds : (o : Outs) (n : Need) (v : Ahead) → Outside o v → outside_ok o n ≡ true → holds n v ≡ true
outside_holds o Even v w h = w.even_out
outside_holds o Sure v w h = absurd (false≢true h)
outside_holds o (Calm c f) v w h =
    let a = and_parts o.known ((not o.dot || c) && (not o.els || f)) h in
    let b = and_parts (not o.dot || c) (not o.els || f) a.1 in
    calm_weaker o.dot o.els c f v b.0 b.1 (w.calm_out a.0)
outside_holds o (After s t) v w h =
    let a = and_parts o.known (chars_are (follows s t) (calm_chars o.dot)) h in
    calm_after o.dot o.els s t v a.1 (w.calm_out a.0)
outside_holds o (NoneOf ts) v w h = go (o.known && is_one_text ts (codes "=>")) (o.known && (not o.els && is_one_text ts (codes "else"))) refl refl h
  where
    by : (u : Text) → is_one_text ts u ≡ true → is_none_of v.next (u ∷ []) ≡ true → is_none_of v.next ts ≡ true
    by u e x = subst (λ y. is_none_of v.next y ≡ true) (sym (one_text ts u e)) x

    go : (a b : Bool) → (o.known && is_one_text ts (codes "=>")) ≡ a → (o.known && (not o.els && is_one_text ts (codes "else"))) ≡ b → (a || (b || ((o.no_comma && is_one_text ts (codes ",")) || (o.no_part && all_in ts try_words)))) ≡ true → is_none_of v.next ts ≡ true
    go true b e f h = let p = and_parts o.known (is_one_text ts (codes "=>")) e in by (codes "=>") p.1 (calm_arrow o.dot o.els v (w.calm_out p.0))
    go false true e f h =
        let p = and_parts o.known (not o.els && is_one_text ts (codes "else")) f in
        let q = and_parts (not o.els) (is_one_text ts (codes "else")) p.1 in
        by (codes "else") q.1 (calm_else o.dot o.els v (not-true _ q.0) (w.calm_out p.0))
    go false false e f h = ⊎_elim (λ (i : (o.no_comma && is_one_text ts (codes ",")) ≡ true). let p = and_parts o.no_comma (is_one_text ts (codes ",")) i in by (codes ",") p.1 (w.comma_out p.0))
        (λ (i : (o.no_part && all_in ts try_words) ≡ true). let p = and_parts o.no_part (all_in ts try_words) i in none_fewer v.next ts try_words p.1 (w.part_out p.0)) (or_cases (o.no_comma && is_one_text ts (codes ",")) (o.no_part && all_in ts try_words) h)

-- ---- signs of layout

pub idle_ahead : (pre : List Sign) (v : Ahead) → idle pre ≡ true → ahead pre v ≡ v
idle_ahead [] v h = refl
idle_ahead (Count ∷ ms) v h = idle_ahead ms v h
idle_ahead (Ends e ∷ ms) v h = idle_ahead ms v h
idle_ahead (Begin ∷ ms) v h = idle_ahead ms v h
idle_ahead (One ∷ ms) v h = idle_ahead ms v h
idle_ahead (End ∷ ms) v h = idle_ahead ms v h
idle_ahead (Unless ts ∷ ms) v h = idle_ahead ms v h
idle_ahead (TrailingComma ∷ ms) v h = idle_ahead ms v h
idle_ahead (Indent ∷ ms) v h = idle_ahead ms v h
idle_ahead (Unindent ∷ ms) v h = idle_ahead ms v h
idle_ahead (Tok m s t ∷ ms) v h = absurd (false≢true h)
idle_ahead (Semicolon ∷ ms) v h = absurd (false≢true h)
idle_ahead (SameLine ∷ ms) v h = absurd (false≢true h)
idle_ahead (Space ∷ ms) v h = absurd (false≢true h)
idle_ahead (Pad ∷ ms) v h = absurd (false≢true h)
idle_ahead (Line ∷ ms) v h = absurd (false≢true h)
idle_ahead (Outdent ∷ ms) v h = absurd (false≢true h)
idle_ahead (Apart ∷ ms) v h = absurd (false≢true h)

-- with another next token
abbrev pub with_next : Next → Ahead → Ahead
with_next x v = record v { next = x }

pub next_apart : (pre : List Sign) (x : Next) → with_token pre ≡ false → ahead pre (at_once x) ≡ with_next x (ahead pre (at_once Nothing))
next_apart [] x h = refl
next_apart (Tok m s t ∷ ms) x h = absurd (false≢true (sym h))
next_apart (Semicolon ∷ ms) x h = absurd (false≢true (sym h))
next_apart (TrailingComma ∷ ms) x h = next_apart ms x h
next_apart (Unless ts ∷ ms) x h = next_apart ms x h
next_apart (SameLine ∷ ms) x h = ap (sign_ahead SameLine) (next_apart ms x h)
next_apart (Ends e ∷ ms) x h = next_apart ms x h
next_apart (Space ∷ ms) x h = ap (sign_ahead Space) (next_apart ms x h)
next_apart (Pad ∷ ms) x h = ap (sign_ahead Pad) (next_apart ms x h)
next_apart (Line ∷ ms) x h = ap (sign_ahead Line) (next_apart ms x h)
next_apart (Indent ∷ ms) x h = next_apart ms x h
next_apart (Outdent ∷ ms) x h = ap (sign_ahead Outdent) (next_apart ms x h)
next_apart (Unindent ∷ ms) x h = next_apart ms x h
next_apart (Apart ∷ ms) x h = ap (sign_ahead Apart) (next_apart ms x h)
next_apart (Begin ∷ ms) x h = next_apart ms x h
next_apart (Count ∷ ms) x h = next_apart ms x h
next_apart (One ∷ ms) x h = next_apart ms x h
next_apart (End ∷ ms) x h = next_apart ms x h

pub with_token_ahead : (pre : List Sign) (v w : Ahead) → with_token pre ≡ true → ahead pre v ≡ ahead pre w
with_token_ahead [] v w h = absurd (false≢true h)
with_token_ahead (Tok m s t ∷ ms) v w h = refl
with_token_ahead (Semicolon ∷ ms) v w h = refl
with_token_ahead (TrailingComma ∷ ms) v w h = with_token_ahead ms v w h
with_token_ahead (Unless ts ∷ ms) v w h = with_token_ahead ms v w h
with_token_ahead (SameLine ∷ ms) v w h = ap (sign_ahead SameLine) (with_token_ahead ms v w h)
with_token_ahead (Ends e ∷ ms) v w h = with_token_ahead ms v w h
with_token_ahead (Space ∷ ms) v w h = ap (sign_ahead Space) (with_token_ahead ms v w h)
with_token_ahead (Pad ∷ ms) v w h = ap (sign_ahead Pad) (with_token_ahead ms v w h)
with_token_ahead (Line ∷ ms) v w h = ap (sign_ahead Line) (with_token_ahead ms v w h)
with_token_ahead (Indent ∷ ms) v w h = with_token_ahead ms v w h
with_token_ahead (Outdent ∷ ms) v w h = ap (sign_ahead Outdent) (with_token_ahead ms v w h)
with_token_ahead (Unindent ∷ ms) v w h = with_token_ahead ms v w h
with_token_ahead (Apart ∷ ms) v w h = ap (sign_ahead Apart) (with_token_ahead ms v w h)
with_token_ahead (Begin ∷ ms) v w h = with_token_ahead ms v w h
with_token_ahead (Count ∷ ms) v w h = with_token_ahead ms v w h
with_token_ahead (One ∷ ms) v w h = with_token_ahead ms v w h
with_token_ahead (End ∷ ms) v w h = with_token_ahead ms v w h

-- ---- the first token of a part

-- a token that a tree at c may begin with
pub record Opens (c : Nonterminal) (m : Mode) (x : Text) : Type 0 where
  pub code : is_code m ≡ true
  pub starter : is_starter (first_char x) ≡ true
  pub back : is_tagged c ≡ true → nat_eq (first_char x) 96 ≡ true
  pub link : is_linked c ≡ true → is_one_of (first_char x) (codes "?.[(") ≡ true
  pub lined : elseless c ≡ true → among x part_words ≡ false
  pub quoted : is_quoted c ≡ true → nat_eq (first_char x) 96 ≡ true
  pub named : is_name_place c ≡ true → (is_digit (first_char x) ≡ false) × (nat_eq (first_char x) 46 ≡ false)

pub code_skips : (m : Mode) (s : TokenKind) (x : Text) → is_code m ≡ true → skips_next (Token m s x) ≡ true
code_skips Operand s x h = refl
code_skips Operator s x h = refl
code_skips Piece s x h = absurd (false≢true h)
code_skips Tag s x h = absurd (false≢true h)
code_skips Children s x h = absurd (false≢true h)

pub none_code : (m : Mode) (s : TokenKind) (x : Text) (ts : List Text) → is_code m ≡ true → among x ts ≡ false → no_slash ts ≡ true → is_none_of (Token m s x) ts ≡ true
none_code Operand s x ts h a n = n
none_code Operator s x ts h a n = not_from_false _ a
none_code Piece s x ts h a n = absurd (false≢true h)
none_code Tag s x ts h a n = absurd (false≢true h)
none_code Children s x ts h a n = absurd (false≢true h)

-- a starter isn't `=>`
pub no_arrow : (x : Text) → is_starter (first_char x) ≡ true → among x (codes "=>" ∷ []) ≡ false
no_arrow [] h = refl
no_arrow (c ∷ x) h =
    let n : is_one_of c (codes "=>") ≡ false = not-true _ h in
    or_from (nat_eq c 61 && same x (codes ">")) false (and_left (nat_eq c 61) (same x (codes ">")) ((or_parts (nat_eq c 61) (nat_eq c 62 || false) n).0)) refl

-- the characters of a list that is no start, but for the token's own last one
not_starting : (a : Bool) (t ds : Text) (d : ℕ) → no_starter a t ds ≡ true → is_starter d ≡ true → (a && nat_eq (last t) d) ≡ false → is_one_of d ds ≡ false
not_starting a t [] d h s n = refl
not_starting a t (c ∷ ds) d h s n =
    let p = and_parts ((a && nat_eq (last t) c) || not (is_starter c)) (no_starter a t ds) h in
    or_from (nat_eq d c) (is_one_of d ds) (false_from_ne_true (nat_eq d c) (λ e. go (a && nat_eq (last t) c) refl p.0 (eqb-true d c e))) (not_starting a t ds d p.1 s n)
  where
    go : (b : Bool) → (a && nat_eq (last t) c) ≡ b → (b || not (is_starter c)) ≡ true → d ≡ c → ⊥
    go true e h f = clash (a && nat_eq (last t) d) (subst (λ x. (a && nat_eq (last t) x) ≡ true) (sym f) e) n
    go false e h f = clash (is_starter c) (subst (λ x. is_starter x ≡ true) f s) (not-true _ h)

pub punct_joint : (a : Bool) (t : Text) (d : ℕ) → is_pointed t ≡ false → no_starter a t (goes_on t) ≡ true → is_starter d ≡ true → ((a && nat_eq (last t) d) || follows Punctuator t d) ≡ true
punct_joint a t d p n s = go (a && nat_eq (last t) d) refl
  where
    go : (b : Bool) → (a && nat_eq (last t) d) ≡ b → (b || follows Punctuator t d) ≡ true
    go true e = refl
    go false e = and_from (not (is_one_of d (goes_on t))) (not (is_pointed t && is_digit d)) (not_from_false _ (not_starting a t (goes_on t) d n s e)) (not_from_false _ (and_left (is_pointed t) (is_digit d) p))

pub is_kind_punct : (s : TokenKind) → is_punct s ≡ true → s ≡ Punctuator
is_kind_punct Punctuator h = refl
is_kind_punct _ h = absurd (false≢true h)

-- behind `.` and `?.`
pub pointed_joint : (t : Text) (d : ℕ) → is_pointed t ≡ true → nat_eq d 46 ≡ false → is_digit d ≡ false → follows Punctuator t d ≡ true
pointed_joint t d p n g = go (same t (codes ".")) refl p
  where
    ends : (not (is_pointed t && is_digit d)) ≡ true
    ends = not_from_false _ (and_right (is_pointed t) (is_digit d) g)

    go : (b : Bool) → same t (codes ".") ≡ b → (b || same t (codes "?.")) ≡ true → follows Punctuator t d ≡ true
    go true e h = and_from (not (is_one_of d (goes_on t))) _ (not_from_false _ (subst (λ x. is_one_of d (goes_on x) ≡ false) (sym (same_is t (codes ".") e)) (or_from (nat_eq d 46) false n refl))) ends
    go false e h = and_from (not (is_one_of d (goes_on t))) _ (not_from_false _ (subst (λ x. is_one_of d (goes_on x) ≡ false) (sym (same_is t (codes "?.") h)) refl)) ends
