-- The characters of a text that grows.
use Rattle.std.proofs.Common.{◌≡◌, ℕ, ◌-◌, List, [], ◌∷◌, ◌++◌, true, cond, nat_lt, refl, sym, ap, ◌∙◌, append-nil, encode_utf8, string_bytes, String}
use Rattle.std.specs.Bool.{IsTrue}
use Rattle.std.specs.Char.{IsScalar}
use Rattle.std.specs.Str.{chars, chars_after}
use Rattle.std.proofs.lemmas.Bool.{ltb-true}
use Rattle.std.proofs.lemmas.Str.{chars-append, chars-nil, chars_past_char, encode_ascii, IsUtf8-encode, IsUtf8-string_bytes}
use Rattle.std.proofs.Math.Utf8.{encodes}
use Rattle.react_compile.specs.Made.{is_ascii}
use Rattle.react_compile.proofs.Tests.{here, there}

pub appended : {Z : Type 0} (s : String Z) (ys : List ℕ) → chars (string_bytes s ++ ys) ≡ chars (string_bytes s) ++ chars ys
appended s ys = chars-append (string_bytes s) ys (IsUtf8-string_bytes s)

chars_first : (b : ℕ) (bs : List ℕ) → nat_lt b 128 ≡ true → chars (b ∷ bs) ≡ b ∷ chars bs
unfolding chars
chars_first b [] h = ap (λ t. chars_after (cond t 0 (cond (nat_lt b 224) 1 (cond (nat_lt b 240) 2 3))) (cond t b (cond (nat_lt b 224) (b - 192) (cond (nat_lt b 240) (b - 224) (b - 240)))) []) h
chars_first b (c ∷ bs) h = ap (λ t. chars_after (cond t 0 (cond (nat_lt b 224) 1 (cond (nat_lt b 240) 2 3))) (cond t b (cond (nat_lt b 224) (b - 192) (cond (nat_lt b 240) (b - 224) (b - 240)))) (c ∷ bs)) h

pub chars_ascii : (bs : List ℕ) → IsTrue (is_ascii bs) → chars bs ≡ bs
chars_ascii [] h = chars-nil
chars_ascii (b ∷ bs) h = chars_first b bs (here _ _ h) ∙ ap (λ x. b ∷ x) (chars_ascii bs (there _ _ h))

-- the bytes of an ASCII text are its characters
pub encodes_ascii : (t : List ℕ) → IsTrue (is_ascii t) → encodes t ≡ t
encodes_ascii [] h = refl
encodes_ascii (c ∷ t) h = rw (encode_ascii c (ltb-true c 128 (here _ _ h))) (ap (λ x. c ∷ x) (encodes_ascii t (there _ _ h)))

-- a character, and ASCII bytes, behind what stands already
one_char : (c : ℕ) → IsScalar c → chars (encode_utf8 c) ≡ c ∷ []
one_char c s = chars_past_char (encode_utf8 c) [] c (IsUtf8-encode c s) (sym (append-nil (encode_utf8 c))) ∙ ap (λ t. c ∷ t) chars-nil

pub pushed : {Z : Type 0} (s : String Z) (c : ℕ) → IsScalar c → chars (string_bytes s ++ encode_utf8 c) ≡ chars (string_bytes s) ++ c ∷ []
pushed s c h = appended s (encode_utf8 c) ∙ ap (λ t. chars (string_bytes s) ++ t) (one_char c h)

pub appended_ascii : {Z : Type 0} (s : String Z) (bs : List ℕ) → IsTrue (is_ascii bs) → chars (string_bytes s ++ bs) ≡ chars (string_bytes s) ++ bs
appended_ascii s bs h = appended s bs ∙ ap (λ t. chars (string_bytes s) ++ t) (chars_ascii bs h)
