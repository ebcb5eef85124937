-- Suggestions that become labels.
use Rattle.std.proofs.Common.{◌≡◌, ℕ, ◌<◌, Bool, true, false, cond, ◌&&◌, List, [], ◌∷◌, ◌++◌, length, refl, ap, sym, subst, ◌∙◌, arith, length-append, append-nil, rules}
use Rattle.std.specs.Prelude.{reverse, codes, encode_utf8, nat_eq, Result, IfOk, string_bytes}
use Rattle.std.specs.Char.{is_whitespace}
use Rattle.std.specs.Str.{IsUtf8, chars, encode_utf8_all, skip_leading_whitespace, drop_trailing_whitespace, trim_start, trim_end, trim}
use Rattle.std.specs.declared.string.String.{String}
use Rattle.std.specs.declared.alloc.Global.{Global}
use Rattle.std.proofs.Math.Utf8.{scalars}
use Rattle.std.proofs.lemmas.Bool.{ne_eqb}
use Rattle.std.proofs.lemmas.Bool.Decides.{nat_tests}
use Rattle.std.proofs.lemmas.List.{reverse-append, length-reverse}
use Rattle.std.proofs.lemmas.Str.{chars-encodes, scalars-chars, length-encode, len_utf8_bounds}
use Rattle.jsx_diag.specs.Data.{Text}
use Rattle.jsx_emit.specs.Layout.{code_shown, past_blanks, trimmed}

-- ---- white space at both ends

front_is : (cs : List ℕ) → skip_leading_whitespace cs ≡ past_blanks cs
front_is [] = refl
front_is (c ∷ cs) = ap (λ z. cond (is_whitespace c) z (c ∷ cs)) (front_is cs)

scalars_tail : (c : ℕ) (cs : List ℕ) → scalars (c ∷ cs) ≡ true → scalars cs ≡ true
scalars_tail c cs h = search rules

scalars_front : (cs : List ℕ) → scalars cs ≡ true → scalars (past_blanks cs) ≡ true
scalars_front [] h = h
scalars_front (c ∷ cs) h = at (is_whitespace c) (scalars_front cs (scalars_tail c cs h))
  where
    at : (b : Bool) → scalars (past_blanks cs) ≡ true → scalars (cond b (past_blanks cs) (c ∷ cs)) ≡ true
    at true more = more
    at false more = h

not_zero : (n : ℕ) → 0 < n → nat_eq n 0 ≡ false
not_zero n more = ne_eqb n 0 (λ (e : n ≡ 0). omega (arith, more, e))

past_end : (ys : List ℕ) (c : ℕ) → past_blanks (ys ++ c ∷ []) ≡ cond (nat_eq (length (past_blanks ys)) 0) (past_blanks (c ∷ [])) (past_blanks ys ++ c ∷ [])
past_end [] c = refl
past_end (y ∷ ys) c = at (is_whitespace y) (past_end ys c)
  where
    at : (b : Bool) → past_blanks (ys ++ c ∷ []) ≡ cond (nat_eq (length (past_blanks ys)) 0) (past_blanks (c ∷ [])) (past_blanks ys ++ c ∷ []) → cond b (past_blanks (ys ++ c ∷ [])) (y ∷ ys ++ c ∷ []) ≡ cond (nat_eq (length (cond b (past_blanks ys) (y ∷ ys))) 0) (past_blanks (c ∷ [])) (cond b (past_blanks ys) (y ∷ ys) ++ c ∷ [])
    at true more = more
    at false more = ap (λ z. cond z (past_blanks (c ∷ [])) (y ∷ ys ++ c ∷ [])) (sym (not_zero (length (y ∷ ys)) (omega arith)))

none_left : (b : Bool) (n : ℕ) → 0 < n → (b && nat_eq n 0) ≡ false
none_left true n more = not_zero n more
none_left false n more = refl

kept : (b : Bool) (c : ℕ) (p : List ℕ) → cond (b && nat_eq (length (reverse p)) 0) [] (c ∷ reverse p) ≡ reverse (cond (nat_eq (length p) 0) (cond b [] (c ∷ [])) (p ++ c ∷ []))
kept true c [] = refl
kept false c [] = refl
kept b c (q ∷ p) =
    ap (λ z. cond z [] (c ∷ reverse (q ∷ p))) (none_left b (length (reverse (q ∷ p))) (omega (arith, length-reverse (q ∷ p))))
    ∙ sym (reverse-append (q ∷ p) (c ∷ []))
    ∙ ap (λ z. reverse (cond z (cond b [] (c ∷ [])) ((q ∷ p) ++ c ∷ []))) (sym (not_zero (length (q ∷ p)) (omega arith)))

end_is : (cs : List ℕ) → drop_trailing_whitespace cs ≡ reverse (past_blanks (reverse cs))
end_is [] = refl
end_is (c ∷ cs) =
    ap (λ z. cond (is_whitespace c && nat_eq (length z) 0) [] (c ∷ z)) (end_is cs)
    ∙ kept (is_whitespace c) c (past_blanks (reverse cs))
    ∙ ap reverse (sym (past_end (reverse cs) c))
    ∙ ap (λ z. reverse (past_blanks z)) (sym (reverse-append (c ∷ []) cs))

pub trimmed_is : (bs : Text) → IsUtf8 bs → trim bs ≡ encode_utf8_all (trimmed (chars bs))
unfolding trim_start trim_end
trimmed_is bs utf8 =
    ap (λ z. encode_utf8_all (drop_trailing_whitespace z)) (ap (λ z. chars (encode_utf8_all z)) (front_is (chars bs)) ∙ chars-encodes (past_blanks (chars bs)) (scalars_front (chars bs) (scalars-chars bs utf8)))
    ∙ ap encode_utf8_all (end_is (past_blanks (chars bs)))

-- ---- the code of a label

some_left : (c : ℕ) (cs : List ℕ) → 0 < length (encode_utf8_all (c ∷ cs))
some_left c cs =
    let bounds = len_utf8_bounds c in
    omega (arith, length-append (encode_utf8 c) (encode_utf8_all cs), length-encode c)

no_code : (shown : Bool) (cs : List ℕ) → length (encode_utf8_all cs) ≡ 0 → code_shown shown cs ≡ []
no_code shown [] none = refl
no_code shown (c ∷ cs) none = absurd (let some = some_left c cs in let no_order : ⊥ = omega (arith, some, none) in no_order)

hidden_code : (cs : List ℕ) → code_shown false cs ≡ []
hidden_code [] = refl
hidden_code (c ∷ cs) = refl

some_code : (cs : List ℕ) → 0 < length (encode_utf8_all cs) → codes ": `" ++ (encode_utf8_all cs ++ codes "`") ≡ code_shown true cs
some_code [] some = absurd (let no_order : ⊥ = omega (arith, some) in no_order)
some_code (c ∷ cs) some = refl

-- ---- the label

is_zero : (n : ℕ) (b : Bool) → b ≡ nat_eq n 0 → b ≡ true → n ≡ 0
is_zero n b is so = let e : nat_eq n 0 ≡ true = sym is ∙ so in grind (arith, nat_tests, e)

above_zero : (n : ℕ) (b : Bool) → b ≡ nat_eq n 0 → b ≡ false → 0 < n
above_zero n b is so = let e : nat_eq n 0 ≡ false = sym is ∙ so in grind (arith, nat_tests, e)

abbrev pub IsLabel : {X : Type 0} → Result (String Global) X → Text → Text → Type 0
IsLabel r msg code = IfOk r (λ text. string_bytes text ≡ codes "help: " ++ (msg ++ code))

without : {X : Type 0} (r : Result (String Global) X) (msg code : Text) → code ≡ [] → IfOk r (λ text. string_bytes text ≡ codes "help: " ++ msg) → IsLabel r msg code
without r msg code none h = subst (λ z. IfOk r (λ text. string_bytes text ≡ codes "help: " ++ z)) (sym (append-nil msg) ∙ ap (λ z. msg ++ z) (sym none)) h

pub label_empty : {X : Type 0} (r : Result (String Global) X) (msg snippet code : Text) (shown : Bool) → IsUtf8 snippet → code ≡ trim snippet → (empty : Bool) → empty ≡ nat_eq (length code) 0 → empty ≡ true → IfOk r (λ text. string_bytes text ≡ codes "help: " ++ msg) → IsLabel r msg (code_shown shown (trimmed (chars snippet)))
label_empty r msg snippet code shown utf8 is empty tells so h =
    without r msg (code_shown shown (trimmed (chars snippet))) (no_code shown (trimmed (chars snippet)) (ap length (sym (is ∙ trimmed_is snippet utf8)) ∙ is_zero (length code) empty tells so)) h

pub label_hidden : {X : Type 0} (r : Result (String Global) X) (msg snippet : Text) (shown : Bool) → shown ≡ false → IfOk r (λ text. string_bytes text ≡ codes "help: " ++ msg) → IsLabel r msg (code_shown shown (trimmed (chars snippet)))
label_hidden r msg snippet shown not_shown h =
    without r msg (code_shown shown (trimmed (chars snippet))) (ap (λ b. code_shown b (trimmed (chars snippet))) not_shown ∙ hidden_code (trimmed (chars snippet))) h

pub label_coded : {X : Type 0} (r : Result (String Global) X) (msg snippet code : Text) (shown : Bool) → IsUtf8 snippet → code ≡ trim snippet → (empty : Bool) → empty ≡ nat_eq (length code) 0 → empty ≡ false → shown ≡ true → IsLabel r msg (codes ": `" ++ (code ++ codes "`")) → IsLabel r msg (code_shown shown (trimmed (chars snippet)))
label_coded r msg snippet code shown utf8 is empty tells so is_shown h =
    let same : code ≡ encode_utf8_all (trimmed (chars snippet)) = is ∙ trimmed_is snippet utf8 in
    subst (λ z. IsLabel r msg z)
    (ap (λ z. codes ": `" ++ (z ++ codes "`")) same ∙ some_code (trimmed (chars snippet)) (subst (λ z. 0 < length z) same (above_zero (length code) empty tells so)) ∙ ap (λ b. code_shown b (trimmed (chars snippet))) (sym is_shown)) h
