-- Rows that are added to a page.
use Rattle.std.proofs.Common.{◌≡◌, ⊎_elim, ℕ, zero, suc, List, [], ◌∷◌, ◌++◌, cond, refl, ap, sym, ◌∙◌, arith, append_assoc, append-nil}
use Rattle.std.specs.Prelude.{Result, Ok, Err, OnOk, is_ok, if◌then◌else◌}
use lib.Utf8.{encode}
use Rattle.std.specs.Str.{IsUtf8, chars, encode_utf8_all}
use Rattle.std.proofs.lemmas.Grind.{flat_map-append}
use Rattle.std.proofs.lemmas.Str.{encode_ascii, encodes-chars, encodes-append, inside_one}
use Rattle.std.proofs.lemmas.Bool.Decides.{eqb_tells}
use Rattle.jsx_diag.specs.Data.{Text}
use Rattle.jsx_emit.specs.Page.{blanks, spaced, rows_text}
use Rattle.jsx_emit.proofs.Pages.{Without, plain, spaced-append, spaced-blanks, spaced_byte}

pub rows_text-append : (xs ys : List (List ℕ)) → rows_text (xs ++ ys) ≡ rows_text xs ++ rows_text ys
rows_text-append xs ys = flat_map-append (λ row. encode_utf8_all (spaced row) ++ 10 ∷ []) xs ys

-- ---- rows that are left to add

-- some of them were added
pub rows_next : (all one more : List (List ℕ)) (text new start : Text) → all ≡ one ++ more → new ≡ text ++ rows_text one → text ++ rows_text all ≡ start → new ++ rows_text more ≡ start
rows_next all one more text new start split is before =
    ap (λ z. z ++ rows_text more) is
    ∙ append_assoc text (rows_text one) (rows_text more)
    ∙ ap (λ z. text ++ z) (sym (rows_text-append one more) ∙ ap rows_text (sym split))
    ∙ before

-- none is left
pub rows_none : (all : List (List ℕ)) (text start : Text) → all ≡ [] → text ++ rows_text all ≡ start → text ≡ start
rows_none all text start none before = sym (append-nil text) ∙ sym (ap (λ z. text ++ rows_text z) none) ∙ before

-- the last of them were added
pub rows_last : (all one : List (List ℕ)) (text new start : Text) → all ≡ one → new ≡ text ++ rows_text one → text ++ rows_text all ≡ start → new ≡ start
rows_last all one text new start same is before = is ∙ ap (λ z. text ++ rows_text z) (sym same) ∙ before

pub rows_last_if : {X Y : Type 0} (all one : List (List ℕ)) (text new start : Text) (r : Result Y X) → all ≡ one → OnOk r (new ≡ text ++ rows_text one) → text ++ rows_text all ≡ start → OnOk r (new ≡ start)
rows_last_if all one text new start (Ok u) same is before = rows_last all one text new start same is before
rows_last_if all one text new start (Err e) same is before = tt

-- ---- rows as text

encoded_tab : encode_utf8_all (blanks 4) ≡ blanks 4
unfolding encode
encoded_tab = refl

-- no byte of another character is a tab
without_tab : (c : ℕ) → (c ≡ 9 → ⊥) → Without 9 (encode c)
without_tab c other = λ i less e. other (inside_one c [] (encode c) i (sym (append-nil (encode c))) less (omega (arith, e)) ∙ e)

spaced_char : (c : ℕ) → spaced (encode c) ≡ encode_utf8_all (spaced_byte c)
spaced_char c =
    ⊎_elim
    (λ e. ap (λ z. spaced (encode z)) e.1 ∙ ap spaced (encode_ascii 9 (omega arith)) ∙ sym encoded_tab ∙ ap (λ z. encode_utf8_all (spaced_byte z)) (sym e.1))
    (λ e. plain (encode c) (without_tab c e.1) ∙ sym (append-nil (encode c)) ∙ ap (λ b. encode_utf8_all (cond b (blanks 4) (c ∷ []))) (sym e.0))
    (eqb_tells c 9)

-- tabs become blanks in the characters as they do in the bytes
pub spaced_encoded : (cs : List ℕ) → spaced (encode_utf8_all cs) ≡ encode_utf8_all (spaced cs)
spaced_encoded [] = refl
spaced_encoded (c ∷ cs) =
    spaced-append (encode c) (encode_utf8_all cs)
    ∙ ap (λ z. z ++ spaced (encode_utf8_all cs)) (spaced_char c)
    ∙ ap (λ z. encode_utf8_all (spaced_byte c) ++ z) (spaced_encoded cs)
    ∙ sym (encodes-append (spaced_byte c) (spaced cs))

pub spaced_text : (bs : Text) → IsUtf8 bs → encode_utf8_all (spaced (chars bs)) ≡ spaced bs
spaced_text bs utf8 = sym (spaced_encoded (chars bs)) ∙ ap spaced (encodes-chars bs utf8)

spaced_both : (xs ys : List ℕ) → encode_utf8_all (spaced (xs ++ ys)) ≡ encode_utf8_all (spaced xs) ++ encode_utf8_all (spaced ys)
spaced_both xs ys = ap encode_utf8_all (spaced-append xs ys) ∙ encodes-append (spaced xs) (spaced ys)

-- a row of two texts
two_texts : (before line old a b c : Text) → IsUtf8 before → IsUtf8 line → a ≡ old ++ spaced before → b ≡ a ++ spaced line → c ≡ b ++ 10 ∷ [] → c ≡ old ++ rows_text ((chars before ++ chars line) ∷ [])
two_texts before line old a b c first second e1 e2 e3 =
    let both : encode_utf8_all (spaced (chars before ++ chars line)) ≡ spaced before ++ spaced line =
    spaced_both (chars before) (chars line) ∙ ap (λ z. z ++ encode_utf8_all (spaced (chars line))) (spaced_text before first) ∙ ap (λ z. spaced before ++ z) (spaced_text line second) in
    e3
    ∙ ap (λ z. z ++ 10 ∷ []) (e2 ∙ ap (λ z. z ++ spaced line) e1 ∙ append_assoc old (spaced before) (spaced line))
    ∙ append_assoc old (spaced before ++ spaced line) (10 ∷ [])
    ∙ ap (λ z. old ++ z) (ap (λ z. z ++ 10 ∷ []) (sym both) ∙ sym (append-nil (encode_utf8_all (spaced (chars before ++ chars line)) ++ 10 ∷ [])))

pub two_texts_if : {X : Type 0} (before line old a b c : Text) (r : Result (Unit {0}) X) → IsUtf8 before → IsUtf8 line → a ≡ old ++ spaced before → b ≡ a ++ spaced line → c ≡ (if is_ok r then b ++ 10 ∷ [] else b) → OnOk r (c ≡ old ++ rows_text ((chars before ++ chars line) ∷ []))
two_texts_if before line old a b c (Ok x) first second e1 e2 e3 = two_texts before line old a b c first second e1 e2 e3
two_texts_if before line old a b c (Err e) first second e1 e2 e3 = tt

pub encoded_blanks : (n : ℕ) → encode_utf8_all (blanks n) ≡ blanks n
encoded_blanks zero = refl
encoded_blanks (suc n) = ap (λ z. z ++ encode_utf8_all (blanks n)) (encode_ascii 32 (omega arith)) ∙ ap (λ z. 32 ∷ z) (encoded_blanks n)

-- a row behind blanks
pub indented_row : (n : ℕ) (row : List ℕ) (old a b : Text) → a ≡ old ++ blanks n → b ≡ a ++ rows_text (row ∷ []) → b ≡ old ++ rows_text ((blanks n ++ row) ∷ [])
indented_row n row old a b e1 e2 =
    e2
    ∙ ap (λ z. z ++ rows_text (row ∷ [])) e1
    ∙ append_assoc old (blanks n) (rows_text (row ∷ []))
    ∙ ap (λ z. old ++ z) (
    ap (λ z. blanks n ++ z) (append-nil (encode_utf8_all (spaced row) ++ 10 ∷ []))
    ∙ sym (append_assoc (blanks n) (encode_utf8_all (spaced row)) (10 ∷ []))
    ∙ ap (λ z. z ++ 10 ∷ []) (ap (λ z. z ++ encode_utf8_all (spaced row)) (sym (ap encode_utf8_all (spaced-blanks n) ∙ encoded_blanks n)) ∙ sym (spaced_both (blanks n) row))
    ∙ sym (append-nil (encode_utf8_all (spaced (blanks n ++ row)) ++ 10 ∷ []))
    )
