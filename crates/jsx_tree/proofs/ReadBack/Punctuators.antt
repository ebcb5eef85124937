-- A punctuator before what doesn't go on with it.
use Rattle.std.proofs.Common.{◌≡◌, ℕ, [], ◌∷◌, ◌++◌, Bool, true, false, cond, not, ◌||◌, ◌&&◌, codes, refl, sym, ap, ◌∙◌, subst, ⊎_elim}
use Rattle.std.specs.Prelude.{nat_eq}
use Rattle.std.proofs.lemmas.Bool.{false≢true, and_parts, and_from, or_parts, or_cases, eqb-true, eq-eqb, false_from_ne_true, not-true, and_left, and_right}
use Rattle.jsx_base.specs.Token.{Text, Operator, Punctuator, NoSubstitution, TemplateHead, same, among, is_one_of, begins, drop_as, longest, first_is, is_digit, is_start, is_blank, is_line_end, punctuators, punctuator, punct, Blank, InLineComment, Opening, BehindGap, gap_after_blank, behind_gap, is_over, skip, breaks, breaks_in, State, Dead, Done, InName, BehindZero, InDigits, InFraction, InString, InPiece, AtRegExp, code_state, state, lexed, no_token, at_front, Lexeme}
use Rattle.jsx_base.specs.Longer.{extends, all_begin}
use Rattle.jsx_base.proofs.Longest.{Bars, longest_by, same_is}
use Rattle.jsx_tree.proofs.ReadBack.Joins.{goes_on, is_pointed, safe, mark_chars, is_mark, in_table, no_html, no_comment, no_question, no_number, no_gap, follows}
use Rattle.jsx_tree.proofs.ReadBack.Basics.{all_first, clash, if_false, all_chars, char_is, differ, dropped}

safe_begins : (q t rest ds : Text) → safe q t ds ≡ true → all_first (λ d. not (is_one_of d ds)) rest ≡ true → begins q (t ++ rest) ≡ false
safe_begins [] t rest ds h n = absurd (false≢true h)
safe_begins (b ∷ q) [] [] ds h n = refl
safe_begins (b ∷ q) [] (d ∷ rest) ds h n = and_left (nat_eq b d) (begins q rest) (differ b d ds h (not-true _ n))
safe_begins (b ∷ q) (c ∷ t) rest ds h n = go (nat_eq b c) h (λ g. safe_begins q t rest ds g n)
  where
    go : (e : Bool) → (not e || safe q t ds) ≡ true → (safe q t ds ≡ true → begins q (t ++ rest) ≡ false) → (e && begins q (t ++ rest)) ≡ false
    go true g r = r g
    go false g r = refl

bars_of : (ds rest : Text) → all_first (λ d. not (is_one_of d ds)) rest ≡ true → Bars ds rest
bars_of [] rest h = tt
bars_of (d ∷ ds) [] h = (refl, bars_of ds [] refl)
bars_of (d ∷ ds) (c ∷ rest) h =
    let p = or_parts (nat_eq c d) (is_one_of c ds) (not-true _ h) in
    (false_from_ne_true (nat_eq d c) (λ e. clash _ (subst (λ x. nat_eq x d ≡ true) (eqb-true d c e) (self d)) p.0), bars_of ds (c ∷ rest) (go (is_one_of c ds) p.1))
  where
    self : (x : ℕ) → nat_eq x x ≡ true
    self x = eq-eqb x x refl

    go : (b : Bool) → b ≡ false → not b ≡ true
    go true e = absurd (false≢true (sym e))
    go false e = refl

-- what holds of each first character of a punctuator
abbrev plain : ℕ → Bool
plain c = not (is_blank c || is_line_end c) && (not (is_start c) && (not (nat_eq c 48) && (not (is_digit c) && (not (nat_eq c 34 || nat_eq c 39) && not (nat_eq c 96)))))

all_plain : all_chars plain mark_chars ≡ true
all_plain = refl

record Plain (c : ℕ) : Type 0 where
  pub gap : (is_blank c || is_line_end c) ≡ false
  pub start : is_start c ≡ false
  pub zero_ : nat_eq c 48 ≡ false
  pub digit : is_digit c ≡ false
  pub quote : (nat_eq c 34 || nat_eq c 39) ≡ false
  pub back : nat_eq c 96 ≡ false

plain_of : (c : ℕ) → is_one_of c mark_chars ≡ true → Plain c
plain_of c h =
    let a = and_parts _ _ (char_is plain mark_chars c all_plain h) in
    let b = and_parts _ _ a.1 in
    let d = and_parts _ _ b.1 in
    let e = and_parts _ _ d.1 in
    let f = and_parts _ _ e.1 in
    record { gap = not-true _ a.0; start = not-true _ b.0; zero_ = not-true _ d.0; digit = not-true _ e.0; quote = not-true _ f.0; back = not-true _ f.1 }

dead_by : (c : ℕ) (a b d e q w : Bool) → a ≡ false → b ≡ false → d ≡ false → e ≡ false → q ≡ false → w ≡ false
    → cond a InName (cond b BehindZero (cond d (InDigits true) (cond e (InFraction false) (cond q (InString c) (cond w (InPiece NoSubstitution TemplateHead) Dead))))) ≡ Dead
dead_by c a b d e q w ha hb hd he hq hw =
    if_false a _ _ ha ∙ if_false b _ _ hb ∙ if_false d _ _ hd ∙ if_false e _ _ he ∙ if_false q _ _ hq ∙ if_false w _ _ hw

over_by : (a b d : Bool) → a ≡ false → b ≡ false → d ≡ false → is_over (cond a Blank (cond b InLineComment (cond d (Opening 1) BehindGap))) ≡ true
over_by a b d ha hb hd = ap is_over (if_false a _ _ ha ∙ if_false b _ _ hb ∙ if_false d _ _ hd)

-- a token at the front of a text, where no gap stands
pub record Reads (m : Rattle.jsx_base.specs.Token.Mode) (k : Rattle.jsx_base.specs.Token.TokenKind) (t rest : Text) : Type 0 where
  pub skipped : skip (t ++ rest) ≡ t ++ rest
  pub unbroken : breaks (t ++ rest) ≡ false
  pub read : (f : Bool) → at_front m f (t ++ rest) ≡ record { kind = k; raw = t; rest = rest }

turned : (a b : ℕ) → nat_eq a b ≡ nat_eq b a
turned a b = go (nat_eq a b) (nat_eq b a) refl refl
  where
    go : (x y : Bool) → nat_eq a b ≡ x → nat_eq b a ≡ y → x ≡ y
    go true true e f = refl
    go false false e f = refl
    go true false e f = absurd (false≢true (sym f ∙ eq-eqb b a (sym (eqb-true a b e))))
    go false true e f = absurd (false≢true (sym e ∙ eq-eqb a b (sym (eqb-true b a f))))

point_state : (c : ℕ) (p rest : Text) → (not (nat_eq 46 c) || (is_pointed (c ∷ p) || first_is (nat_eq 46) p)) ≡ true → (is_pointed (c ∷ p) ≡ true → first_is is_digit rest ≡ false) → (nat_eq c 46 && first_is is_digit (p ++ rest)) ≡ false
point_state c p rest h n = go (nat_eq c 46) refl (subst (λ b. (not b || (is_pointed (c ∷ p) || first_is (nat_eq 46) p)) ≡ true) (turned 46 c) h)
  where
    two : (d : ℕ) → nat_eq 46 d ≡ true → is_digit d ≡ false
    two d e = subst (λ x. is_digit x ≡ false) (eqb-true 46 d e) refl

    empty_tail : (p : Text) → is_pointed (46 ∷ p) ≡ true → p ≡ []
    empty_tail [] g = refl
    empty_tail (d ∷ p) g = absurd (false≢true g)

    at_dot : (p : Text) → (is_pointed (c ∷ p) || first_is (nat_eq 46) p) ≡ true → c ≡ 46 → (is_pointed (c ∷ p) ≡ true → first_is is_digit rest ≡ false) → first_is is_digit (p ++ rest) ≡ false
    at_dot [] g e n = n (subst (λ x. is_pointed (x ∷ []) ≡ true) (sym e) refl)
    at_dot (d ∷ p) g e n = two d (⊎_elim (λ (x : is_pointed (c ∷ d ∷ p) ≡ true). absurd (false≢true (subst (λ y. is_pointed (y ∷ d ∷ p) ≡ true) e x))) (λ (x : nat_eq 46 d ≡ true). x) (or_cases (is_pointed (c ∷ d ∷ p)) (nat_eq 46 d) g))

    go : (b : Bool) → nat_eq c 46 ≡ b → (not b || (is_pointed (c ∷ p) || first_is (nat_eq 46) p)) ≡ true → (b && first_is is_digit (p ++ rest)) ≡ false
    go true e g = at_dot p g (eqb-true c 46 e) n
    go false e g = refl

question_safe : (t rest : Text) → (safe (codes "?.") t (goes_on t) || same t (codes "?.")) ≡ true → all_first (λ d. not (is_one_of d (goes_on t))) rest ≡ true → (same t (codes "?.") ≡ true → first_is is_digit rest ≡ false) → (begins (codes "?.") (t ++ rest) && first_is is_digit (drop_as (codes "?.") (t ++ rest))) ≡ false
question_safe t rest h n d =
    ⊎_elim (λ (x : safe (codes "?.") t (goes_on t) ≡ true). and_left _ _ (safe_begins (codes "?.") t rest (goes_on t) x n))
    (λ (x : same t (codes "?.") ≡ true). and_right (begins (codes "?.") (t ++ rest)) (first_is is_digit (drop_as (codes "?.") (t ++ rest))) (subst (λ y. first_is is_digit (drop_as (codes "?.") (y ++ rest)) ≡ false) (sym (same_is t (codes "?.") x)) (d x)))
    (or_cases (safe (codes "?.") t (goes_on t)) (same t (codes "?.")) h)

first_off : (p q : ℕ → Bool) (rest : Text) → ((d : ℕ) → p d ≡ true → q d ≡ false) → all_first p rest ≡ true → first_is q rest ≡ false
first_off p q [] f h = refl
first_off p q (d ∷ rest) f h = f d h

pub all_first_by : (p q : ℕ → Bool) (rest : Text) → ((d : ℕ) → p d ≡ true → q d ≡ true) → all_first p rest ≡ true → all_first q rest ≡ true
all_first_by p q [] f h = refl
all_first_by p q (d ∷ rest) f h = f d h

pub mark_reads : (t rest : Text) → is_mark t ≡ true → all_first (follows Punctuator t) rest ≡ true → Reads Operator Punctuator t rest
mark_reads [] rest h n = absurd (false≢true h)
mark_reads (c ∷ p) rest h n =
    let t : Text = c ∷ p in
    let ds : Text = goes_on t in
    let h1 = and_parts (in_table t) (no_html t && (no_comment t && (no_question t && (no_number t && no_gap t)))) h in
    let a = and_parts (is_one_of c mark_chars) (among t punctuators && all_begin (extends punctuators t) ds) h1.0 in
    let b = and_parts (among t punctuators) (all_begin (extends punctuators t) ds) a.1 in
    let h2 = and_parts (no_html t) (no_comment t && (no_question t && (no_number t && no_gap t))) h1.1 in
    let html = and_parts (safe (codes "<!--") t ds) (safe (codes "-->") t ds) h2.0 in
    let h3 = and_parts (no_comment t) (no_question t && (no_number t && no_gap t)) h2.1 in
    let comment = and_parts (safe (codes "//") t ds) (safe (codes "/*") t ds) h3.0 in
    let h4 = and_parts (no_question t) (no_number t && no_gap t) h3.1 in
    let h5 = and_parts (no_number t) (no_gap t) h4.1 in
    let pl : Plain c = plain_of c a.0 in
    let off : all_first (λ d. not (is_one_of d ds)) rest ≡ true = all_first_by (follows Punctuator t) (λ d. not (is_one_of d ds)) rest (λ d e. (and_parts (not (is_one_of d ds)) (not (is_pointed t && is_digit d)) e).0) n in
    let digits : is_pointed t ≡ true → first_is is_digit rest ≡ false = λ i. first_off (follows Punctuator t) is_digit rest (λ d e. go_digit (is_pointed t) (is_digit d) i ((and_parts (not (is_one_of d ds)) (not (is_pointed t && is_digit d)) e).1)) n in
    let line : begins (codes "//") (t ++ rest) ≡ false = safe_begins (codes "//") t rest ds comment.0 off in
    let block : begins (codes "/*") (t ++ rest) ≡ false = safe_begins (codes "/*") t rest ds comment.1 off in
    let over : is_over (gap_after_blank c (p ++ rest)) ≡ true = over_by (is_blank c || is_line_end c) _ _ pl.gap line block in
    let less : begins (codes "<!--") (t ++ rest) ≡ false = safe_begins (codes "<!--") t rest ds html.0 off in
    let arrow : begins (codes "-->") (t ++ rest) ≡ false = safe_begins (codes "-->") t rest ds html.1 off in
    let dead : code_state false c (p ++ rest) ≡ Dead = dead_by c _ _ _ _ _ _ pl.start pl.zero_ pl.digit (point_state c p rest h5.0 digits) pl.quote pl.back in
    let it : punctuator (t ++ rest) ≡ t =
    if_false _ (codes "?") (longest punctuators (t ++ rest)) (question_safe t rest h4.0 off (λ i. digits (or_right_of (same t (codes ".")) i)))
    ∙ longest_by punctuators t ds rest b.0 b.1 (bars_of ds rest off) in
    record {
      skipped = ap (λ x. cond x (c ∷ (p ++ rest)) (behind_gap (gap_after_blank c (p ++ rest)) (p ++ rest))) over;
      unbroken = ap (λ x. not x && (is_line_end c || breaks_in (gap_after_blank c (p ++ rest)) (p ++ rest))) over;
      read = λ f. ap (λ x. cond (x || (f && begins (codes "-->") (t ++ rest))) (no_token (t ++ rest)) (lexed Operator (code_state false c (p ++ rest)) c (p ++ rest))) less
          ∙ ap (λ x. cond (f && x) (no_token (t ++ rest)) (lexed Operator (code_state false c (p ++ rest)) c (p ++ rest))) arrow
          ∙ ap (λ x. cond x (no_token (t ++ rest)) (lexed Operator (code_state false c (p ++ rest)) c (p ++ rest))) (and_right f false refl)
          ∙ ap (λ x. lexed Operator x c (p ++ rest)) dead
          ∙ ap (λ x. punct x (t ++ rest)) it
          ∙ ap (λ x. record { kind = Punctuator; raw = t; rest = x }) (dropped t rest);
    }
  where
    go_digit : (a b : Bool) → a ≡ true → not (a && b) ≡ true → b ≡ false
    go_digit true b e g = not-true b g
    go_digit false b e g = absurd (false≢true e)

    or_right_of : (a : Bool) {b : Bool} → b ≡ true → (a || b) ≡ true
    or_right_of true e = refl
    or_right_of false e = e

pub mark_gap : (t : Text) → is_mark t ≡ true → (follows Punctuator t 32 ≡ true) × (follows Punctuator t 10 ≡ true)
mark_gap t h =
    let h1 = and_parts (in_table t) (no_html t && (no_comment t && (no_question t && (no_number t && no_gap t)))) h in
    let h2 = and_parts (no_html t) (no_comment t && (no_question t && (no_number t && no_gap t))) h1.1 in
    let h3 = and_parts (no_comment t) (no_question t && (no_number t && no_gap t)) h2.1 in
    let h4 = and_parts (no_question t) (no_number t && no_gap t) h3.1 in
    let h5 = and_parts (no_number t) (no_gap t) h4.1 in
    let h6 = and_parts (not (is_one_of 32 (goes_on t))) (not (is_one_of 10 (goes_on t)) && (same t (codes "/") || not (is_one_of 47 (goes_on t)))) h5.1 in
    let h7 = and_parts (not (is_one_of 10 (goes_on t))) (same t (codes "/") || not (is_one_of 47 (goes_on t))) h6.1 in
    (and_from _ (not (is_pointed t && is_digit 32)) h6.0 (ap not (and_right (is_pointed t) false refl)), and_from _ (not (is_pointed t && is_digit 10)) h7.0 (ap not (and_right (is_pointed t) false refl)))

-- a slash may follow each but `/`
pub mark_slash : (t : Text) → is_mark t ≡ true → same t (codes "/") ≡ false → follows Punctuator t 47 ≡ true
mark_slash t h n =
    let h1 = and_parts (in_table t) (no_html t && (no_comment t && (no_question t && (no_number t && no_gap t)))) h in
    let h2 = and_parts (no_html t) (no_comment t && (no_question t && (no_number t && no_gap t))) h1.1 in
    let h3 = and_parts (no_comment t) (no_question t && (no_number t && no_gap t)) h2.1 in
    let h4 = and_parts (no_question t) (no_number t && no_gap t) h3.1 in
    let h5 = and_parts (no_number t) (no_gap t) h4.1 in
    let h6 = and_parts (not (is_one_of 32 (goes_on t))) (not (is_one_of 10 (goes_on t)) && (same t (codes "/") || not (is_one_of 47 (goes_on t)))) h5.1 in
    let h7 = and_parts (not (is_one_of 10 (goes_on t))) (same t (codes "/") || not (is_one_of 47 (goes_on t))) h6.1 in
    and_from (not (is_one_of 47 (goes_on t))) (not (is_pointed t && is_digit 47)) (or_with (same t (codes "/")) n h7.1) (ap not (and_right (is_pointed t) false refl))
  where
    or_with : (a : Bool) {b : Bool} → a ≡ false → (a || b) ≡ true → b ≡ true
    or_with true e h = absurd (false≢true (sym e))
    or_with false e h = h
