-- The characters of a text that grows.
use Rattle.std.proofs.Common.{◌≡◌, ℕ, ◌-◌, List, [], ◌∷◌, ◌++◌, true, cond, nat_lt, ap, ◌∙◌, string_bytes, String}
use Rattle.std.specs.Bool.{IsTrue}
use Rattle.std.specs.Str.{chars, chars_after}
use Rattle.std.proofs.lemmas.Bool.{and_parts}
use Rattle.std.proofs.lemmas.Str.{chars-append, chars-nil, IsUtf8-string_bytes}
use Rattle.jsx_pen.specs.Ascii.{is_ascii}

pub appended : {Z : Type 0} (s : String Z) (ys : List ℕ) → chars (string_bytes s ++ ys) ≡ chars (string_bytes s) ++ chars ys
appended s ys = chars-append (string_bytes s) ys (IsUtf8-string_bytes s)

chars_first : (b : ℕ) (bs : List ℕ) → nat_lt b 128 ≡ true → chars (b ∷ bs) ≡ b ∷ chars bs
unfolding chars
chars_first b [] h = ap (λ t. chars_after (cond t 0 (cond (nat_lt b 224) 1 (cond (nat_lt b 240) 2 3))) (cond t b (cond (nat_lt b 224) (b - 192) (cond (nat_lt b 240) (b - 224) (b - 240)))) []) h
chars_first b (c ∷ bs) h = ap (λ t. chars_after (cond t 0 (cond (nat_lt b 224) 1 (cond (nat_lt b 240) 2 3))) (cond t b (cond (nat_lt b 224) (b - 192) (cond (nat_lt b 240) (b - 224) (b - 240)))) (c ∷ bs)) h

pub chars_ascii : (bs : List ℕ) → IsTrue (is_ascii bs) → chars bs ≡ bs
chars_ascii [] h = chars-nil
chars_ascii (b ∷ bs) h = chars_first b bs ((and_parts (nat_lt b 128) (is_ascii bs) h).0) ∙ ap (λ x. b ∷ x) (chars_ascii bs ((and_parts (nat_lt b 128) (is_ascii bs) h).1))

pub ruleset fresh = (chars-nil)

pub ruleset ascii = (chars_ascii)
