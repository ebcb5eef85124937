-- A table says for each of the first characters whether a name may go on with it.
use Rattle.std.proofs.Common.{◌≡◌, ◌<◌, ℕ, zero, suc, Bool, true, false, List, [], ◌∷◌, not, ◌&&◌, length, refl, arith}
use Rattle.std.specs.List.{slice_index_or}
use Rattle.std.proofs.lemmas.Bool.{false≢true, and_parts}

abbrev alike : Bool → Bool → Bool
alike true b = b
alike false b = not b

alike_is : (a b : Bool) → alike a b ≡ true → a ≡ b
alike_is true true e = refl
alike_is true false e = absurd (false≢true e)
alike_is false true e = absurd (false≢true e)
alike_is false false e = refl

-- the table has what the test answers
abbrev pub lists : (ℕ → Bool) → List Bool → Bool
lists f [] = true
lists f (b ∷ bs) = alike b (f 0) && lists (λ i. f (suc i)) bs

pub listed : (f : ℕ → Bool) (bs : List Bool) (i : ℕ) → lists f bs ≡ true → i < length bs → slice_index_or bs i false ≡ f i
listed f [] i e n = absurd (omega (arith, n))
listed f (b ∷ bs) zero e n = alike_is b (f 0) ((and_parts (alike b (f 0)) _ e).0)
listed f (b ∷ bs) (suc i) e n = listed (λ j. f (suc j)) bs i ((and_parts (alike b (f 0)) _ e).1) (omega (arith, n))

-- so many of one answer
abbrev run : ℕ → Bool → List Bool → List Bool
run zero b bs = bs
run (suc n) b bs = b ∷ run n b bs

-- `$`, digits, large letters, `_` and small letters
abbrev pub name_parts : List Bool
name_parts = run 36 false (true ∷ run 11 false (run 10 true (run 7 false (run 26 true (run 4 false (true ∷ false ∷ run 26 true (run 5 false [])))))))
