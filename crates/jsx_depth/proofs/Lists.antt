-- A loop that stops at the first of a list that is too deep.
use Rattle.std.proofs.Common.{◌≡◌, ◌<◌, ◌≤◌, ◌+◌, ℕ, zero, suc, length, get_or, map, arith, Bool, true, false, List, [], ◌∷◌, refl, sym, ◌∙◌, ap, Box, Global}
use Rattle.std.specs.Prelude.{◌&&◌, ◌==◌, take}
use Rattle.std.proofs.lemmas.Bool.{false≢true}
use Rattle.jsx_tree.specs.Kinds.{Role, Tree, list}
use Rattle.jsx_tree.specs.declared.tree.Pat.{Pat}
use Rattle.jsx_tree.specs.declared.tree.Prop.{Prop}
use Rattle.jsx_tree.specs.View.{OfObject, OfClass, inside, forest, forest_at, members_of_class, members_of_object, view_member, view_pattern}
use Rattle.jsx_depth.specs.Fits.{fits, fits_each, is_left}
use Rattle.jsx_depth.proofs.Each.{each_part}

abbrev pub all_fit : {A : Type 0} → (A → Bool) → List A → Bool
all_fit g [] = true
all_fit g (x ∷ xs) = g x && all_fit g xs

abbrev pub from : {A : Type 0} → (A → Bool) → ℕ → List A → Bool
from g zero xs = all_fit g xs
from g (suc i) [] = true
from g (suc i) (x ∷ xs) = from g i xs

at_one : {A : Type 0} (g : A → Bool) (i : ℕ) (xs : List A) (x : A) → i < length xs → x ≡ get_or xs i x → from g i xs ≡ (g x && from g (suc i) xs)
at_one g i [] x w e = absurd (omega arith)
at_one g zero (y ∷ ys) x w e = ap (λ z. g z && all_fit g ys) (sym e)
at_one g (suc i) (y ∷ ys) x w e = at_one g i ys x (omega arith) e

at_end : {A : Type 0} (g : A → Bool) (i : ℕ) (xs : List A) → length xs ≤ i → from g i xs ≡ true
at_end g zero [] h = refl
at_end g (suc i) [] h = refl
at_end g zero (x ∷ xs) h = absurd (omega arith)
at_end g (suc i) (x ∷ xs) h = at_end g i xs (omega arith)

pub past : {A : Type 0} (g : A → Bool) (xs : List A) (i : ℕ) (x : A) → i < length xs → x ≡ get_or xs i x → g x ≡ true → all_fit g xs ≡ from g i xs → all_fit g xs ≡ from g (i + 1) xs
past g xs i x w is n k =
    let one : suc i ≡ i + 1 = omega arith in
    k ∙ (at_one g i xs x w is ∙ (ap (λ b. b && from g (suc i) xs) n ∙ ap (λ j. from g j xs) one))

pub failed : {A : Type 0} (g : A → Bool) (xs : List A) (i : ℕ) (x : A) → i < length xs → x ≡ get_or xs i x → g x ≡ false → all_fit g xs ≡ from g i xs → false ≡ all_fit g xs
failed g xs i x w is y k = sym (k ∙ (at_one g i xs x w is ∙ ap (λ b. b && from g (suc i) xs) y))

pub ended : {A : Type 0} (g : A → Bool) (xs : List A) (i : ℕ) → length xs ≤ i → all_fit g xs ≡ from g i xs → true ≡ all_fit g xs
ended g xs i h k = sym (k ∙ at_end g i xs h)

-- ---- the same of so many from the front

front_at : {A : Type 0} (g : A → Bool) (n i : ℕ) (xs : List A) (x : A) → i < n → i < length xs → x ≡ get_or xs i x → from g i (take n xs) ≡ (g x && from g (suc i) (take n xs))
front_at g n i [] x h w e = absurd (omega (arith, w))
front_at g zero i (y ∷ ys) x h w e = absurd (omega (arith, h))
front_at g (suc n) zero (y ∷ ys) x h w e = ap (λ z. g z && all_fit g (take n ys)) (sym e)
front_at g (suc n) (suc i) (y ∷ ys) x h w e = front_at g n i ys x (omega (arith, h)) (omega (arith, w)) e

over_front : {A : Type 0} (g : A → Bool) (n i : ℕ) (xs : List A) → n ≤ i → from g i (take n xs) ≡ true
over_front g zero zero [] h = refl
over_front g zero (suc i) [] h = refl
over_front g zero zero (x ∷ xs) h = refl
over_front g zero (suc i) (x ∷ xs) h = refl
over_front g (suc n) zero xs h = absurd (omega (arith, h))
over_front g (suc n) (suc i) [] h = refl
over_front g (suc n) (suc i) (x ∷ xs) h = over_front g n i xs (omega (arith, h))

behind_front : {A : Type 0} (g : A → Bool) (n i : ℕ) (xs : List A) → length xs ≤ i → from g i (take n xs) ≡ true
behind_front g zero zero [] h = refl
behind_front g zero (suc i) [] h = refl
behind_front g (suc n) zero [] h = refl
behind_front g (suc n) (suc i) [] h = refl
behind_front g n zero (x ∷ xs) h = absurd (omega (arith, h))
behind_front g zero (suc i) (x ∷ xs) h = refl
behind_front g (suc n) (suc i) (x ∷ xs) h = behind_front g n i xs (omega (arith, h))

pub front_past : {A : Type 0} (g : A → Bool) (xs : List A) (n i : ℕ) (x : A) → i < n → i < length xs → x ≡ get_or xs i x → g x ≡ true → all_fit g (take n xs) ≡ from g i (take n xs) → all_fit g (take n xs) ≡ from g (i + 1) (take n xs)
front_past g xs n i x v w is e k =
    let one : suc i ≡ i + 1 = omega arith in
    k ∙ (front_at g n i xs x v w is ∙ (ap (λ b. b && from g (suc i) (take n xs)) e ∙ ap (λ j. from g j (take n xs)) one))

pub front_over : {A : Type 0} (g : A → Bool) (xs : List A) (n i : ℕ) → n ≤ i → all_fit g (take n xs) ≡ from g i (take n xs) → all_fit g (take n xs) ≡ from g (i + 1) (take n xs)
front_over g xs n i h k = k ∙ (over_front g n i xs h ∙ sym (over_front g n (i + 1) xs (omega (arith, h))))

pub front_failed : {A : Type 0} (g : A → Bool) (xs : List A) (n i : ℕ) (x : A) → i < n → i < length xs → x ≡ get_or xs i x → g x ≡ false → all_fit g (take n xs) ≡ from g i (take n xs) → false ≡ all_fit g (take n xs)
front_failed g xs n i x v w is e k = sym (k ∙ (front_at g n i xs x v w is ∙ ap (λ b. b && from g (suc i) (take n xs)) e))

pub front_ended : {A : Type 0} (g : A → Bool) (xs : List A) (n i : ℕ) → length xs ≤ i → all_fit g (take n xs) ≡ from g i (take n xs) → true ≡ all_fit g (take n xs)
front_ended g xs n i h k = sym (k ∙ behind_front g n i xs h)

-- ---- lists of trees

pub forest_fit : {A : Type 0} (n : ℕ) (v : A → Tree) (xs : List A) → fits_each n (forest (map v xs)) ≡ all_fit (λ x. fits n (v x)) xs
forest_fit n v [] = refl
forest_fit n v (x ∷ xs) = each_part n (v x) (forest (map v xs)) ∙ ap (λ b. fits n (v x) && b) (forest_fit n v xs)

pub front_fit : {A : Type 0} (n : ℕ) (v : A → Tree) (k : ℕ) (xs : List A) → all_fit (λ x. fits n (v x)) (take k xs) ≡ fits_each n (forest (take k (map v xs)))
front_fit n v zero [] = refl
front_fit n v zero (x ∷ xs) = refl
front_fit n v (suc k) [] = refl
front_fit n v (suc k) (x ∷ xs) = ap (λ b. fits n (v x) && b) (front_fit n v k xs) ∙ sym (each_part n (v x) (forest (take k (map v xs))))

pub roles_fit : (n : ℕ) (r : Role) (xs : List (Box Pat Global)) → fits_each n (forest_at r (map (inside view_pattern) xs)) ≡ all_fit (λ x. fits n (view_pattern x.value r)) xs
roles_fit n r [] = refl
roles_fit n r (x ∷ xs) = each_part n (view_pattern x.value r) (forest_at r (map (inside view_pattern) xs)) ∙ ap (λ b. fits n (view_pattern x.value r) && b) (roles_fit n r xs)

pub objects_fit : (n : ℕ) (xs : List (Box Prop Global)) → fits_each n (members_of_object (map (inside view_member) xs)) ≡ all_fit (λ x. fits n (view_member x.value OfObject)) xs
objects_fit n [] = refl
objects_fit n (x ∷ xs) = each_part n (view_member x.value OfObject) (members_of_object (map (inside view_member) xs)) ∙ ap (λ b. fits n (view_member x.value OfObject) && b) (objects_fit n xs)

pub classes_fit : (n : ℕ) (xs : List (Box Prop Global)) → fits_each n (members_of_class (map (inside view_member) xs)) ≡ all_fit (λ x. fits n (view_member x.value OfClass)) xs
classes_fit n [] = refl
classes_fit n (x ∷ xs) = each_part n (view_member x.value OfClass) (members_of_class (map (inside view_member) xs)) ∙ ap (λ b. fits n (view_member x.value OfClass) && b) (classes_fit n xs)

-- ---- a list each of which is within one level

and_same : (b : Bool) → (b && b) ≡ b
and_same true = refl
and_same false = refl

pub each_left : {A : Type 0} (n : ℕ) (v : A → Tree) (x : A) (xs : List A) → ((y : A) → fits n (v y) ≡ is_left n) → fits_each n (forest (map v (x ∷ xs))) ≡ is_left n
each_left n v x [] h = h x
each_left n v x (y ∷ ys) h = (λ i. h x i && each_left n v y ys h i) ∙ and_same (is_left n)

pub some_left : {A : Type 0} (n : ℕ) (v : A → Tree) (xs : List A) (r : Bool) → r ≡ (length xs == 0) → r ≡ false → ((y : A) → fits n (v y) ≡ is_left n) → is_left n ≡ fits_each n (forest (map v xs))
some_left n v [] r e f h = absurd (false≢true (sym f ∙ e))
some_left n v (x ∷ xs) r e f h = sym (each_left n v x xs h)
