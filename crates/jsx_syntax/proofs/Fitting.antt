-- Whether all of a list pass a test, as a loop finds it: from one of them on.
use Rattle.std.proofs.Common.{◌≡◌, ◌+◌, ◌<◌, ◌≤◌, ℕ, zero, suc, Bool, true, false, List, [], ◌∷◌, length, map, get_or, arith, refl, sym, ◌∙◌, ap}
use Rattle.std.specs.Prelude.{◌&&◌}
use Rattle.std.proofs.lemmas.List.{length-map, get_or-map}
use Rattle.jsx_tree.specs.Kinds.{Tree}
use Rattle.jsx_tree.specs.StaticRules.{all_of}
use Rattle.jsx_tree.specs.View.{forest}

abbrev pub all_from : (Tree → Bool) → ℕ → List Tree → Bool
all_from f zero ts = all_of f (forest ts)
all_from f (suc n) [] = true
all_from f (suc n) (t ∷ ts) = all_from f n ts

all_at : (f : Tree → Bool) (i : ℕ) (ts : List Tree) (t : Tree) → i < length ts → t ≡ get_or ts i t → all_from f i ts ≡ (f t && all_from f (suc i) ts)
all_at f i [] t w e = absurd (omega arith)
all_at f zero (u ∷ us) t w e = ap (λ v. f v && all_of f (forest us)) (sym e)
all_at f (suc i) (u ∷ us) t w e = all_at f i us t (omega arith) e

all_end : (f : Tree → Bool) (i : ℕ) (ts : List Tree) → length ts ≤ i → all_from f i ts ≡ true
all_end f zero [] h = refl
all_end f (suc i) [] h = refl
all_end f zero (t ∷ ts) h = absurd (omega arith)
all_end f (suc i) (t ∷ ts) h = all_end f i ts (omega arith)

one_at : {A : Type 0} (f : Tree → Bool) (v : A → Tree) (xs : List A) (i : ℕ) (x : A) → i < length xs → x ≡ get_or xs i x → all_from f i (map v xs) ≡ (f (v x) && all_from f (i + 1) (map v xs))
one_at f v xs i x w is =
    let one : suc i ≡ i + 1 = omega arith in
    all_at f i (map v xs) (v x) (omega (arith, length-map xs v)) (ap v is ∙ sym (get_or-map v xs i x (v x) w)) ∙ ap (λ j. f (v x) && all_from f j (map v xs)) one

-- those before a place pass it
abbrev pub Pass : {A : Type 0} → (Tree → Bool) → (A → Tree) → List A → ℕ → Type 0
Pass f v xs i = all_of f (forest (map v xs)) ≡ all_from f i (map v xs)

pub pass_begin : {A : Type 0} (f : Tree → Bool) (v : A → Tree) (xs : List A) → Pass f v xs 0
pass_begin f v xs = refl

pub pass_more : {A : Type 0} (f : Tree → Bool) (v : A → Tree) (xs : List A) (i : ℕ) (x : A) → i < length xs → x ≡ get_or xs i x → f (v x) ≡ true → Pass f v xs i → Pass f v xs (i + 1)
pass_more f v xs i x w is h k = k ∙ (one_at f v xs i x w is ∙ ap (λ b. b && all_from f (i + 1) (map v xs)) h)

pub pass_none : {A : Type 0} (f : Tree → Bool) (v : A → Tree) (xs : List A) (i : ℕ) (x : A) → i < length xs → x ≡ get_or xs i x → f (v x) ≡ false → Pass f v xs i → all_of f (forest (map v xs)) ≡ false
pass_none f v xs i x w is h k = k ∙ (one_at f v xs i x w is ∙ ap (λ b. b && all_from f (i + 1) (map v xs)) h)

pub pass_all : {A : Type 0} (f : Tree → Bool) (v : A → Tree) (xs : List A) (i : ℕ) → length xs ≤ i → Pass f v xs i → all_of f (forest (map v xs)) ≡ true
pass_all f v xs i w k = k ∙ all_end f i (map v xs) (omega (arith, w, length-map xs v))
