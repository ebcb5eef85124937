-- The first early error by number has the place that the definitions find.
use Rattle.std.proofs.Common.{◌≡◌, ℕ, List, [], ◌∷◌, Bool, true, false, refl, sym, ap, ◌∙◌, arith, ◌⊎◌, inl, inr}
use Rattle.std.specs.Prelude.{cond, not, ◌||◌, nat_eq, Option, Some, None, ⊤}
use Rattle.std.specs.List.{list_any}
use Rattle.std.specs.Option.{option_map}
use Rattle.jsx_tree.proofs.Tokens.{same_is, same_self}
use Rattle.jsx_tree.specs.Clashes.{Place, AtName, AtDefault, first_of, is_before, least, path_of}
use Rattle.jsx_names.specs.Events.{Event}
use Rattle.jsx_names.specs.Answers.{faults, first_fault}
use Rattle.jsx_names.specs.Faults.{faulty, first_faulty, placed_at}
use Rattle.jsx_names.specs.Least.{IsLeastOf, IsOrdered, is_out, same_place}
use Rattle.jsx_names.proofs.Numbered.{faults_numbered}
use Rattle.jsx_names.proofs.Leasts.{faulty_least}

absurd : {X : Type 0} → true ≡ false → X
absurd e = cc

place_is : (a b : Place) → same_place a b ≡ true → a ≡ b
place_is (AtName p) (AtName q) e = ap AtName (same_is p q e)
place_is (AtDefault p) (AtDefault q) e = ap AtDefault (same_is p q e)
place_is (AtName p) (AtDefault q) e = absurd (sym e)
place_is (AtDefault p) (AtName q) e = absurd (sym e)

pub place_self : (a : Place) → same_place a a ≡ true
place_self (AtName p) = same_self p
place_self (AtDefault p) = same_self p

-- one of these places, before or at which no other stands
abbrev Settled : Place → List Place → Type 0
Settled f [] = ⊤
Settled f (y ∷ ys) = (is_before (path_of y) (path_of f) ≡ false) × ((y ≡ f) ⊎ (is_before (path_of f) (path_of y) ≡ true)) × Settled f ys

abbrev Has : Place → List Place → Type 0
Has f [] = true ≡ false
Has f (y ∷ ys) = (y ≡ f) ⊎ Has f ys

not_out : (f y : Place) (a b c : Bool) → is_before (path_of y) (path_of f) ≡ a → same_place f y ≡ b → is_before (path_of f) (path_of y) ≡ c → a || not (b || c) ≡ false →
    (is_before (path_of y) (path_of f) ≡ false) × ((y ≡ f) ⊎ (is_before (path_of f) (path_of y) ≡ true))
not_out f y true b c e g h o = absurd o
not_out f y false true c e g h o = (e, inl (sym (place_is f y g)))
not_out f y false false true e g h o = (e, inr h)
not_out f y false false false e g h o = absurd o

left_false : (a b : Bool) → a || b ≡ false → a ≡ false
left_false true b e = e
left_false false b e = refl

right_false : (a b : Bool) → a || b ≡ false → b ≡ false
right_false true b e = absurd e
right_false false b e = e

settled : (f : Place) (ys : List Place) → list_any (is_out f) ys ≡ false → Settled f ys
settled f [] e = tt
settled f (y ∷ ys) e =
    let one = not_out f y (is_before (path_of y) (path_of f)) (same_place f y) (is_before (path_of f) (path_of y)) refl refl refl (left_false (is_out f y) (list_any (is_out f) ys) e) in
    (one.0, one.1, settled f ys (right_false (is_out f y) (list_any (is_out f) ys) e))

has_by : (f y : Place) (ys : List Place) (b : Bool) → same_place f y ≡ b → b || list_any (same_place f) ys ≡ true → (list_any (same_place f) ys ≡ true → Has f ys) → Has f (y ∷ ys)
has_by f y ys true e h r = inl (sym (place_is f y e))
has_by f y ys false e h r = inr (r h)

has : (f : Place) (ys : List Place) → list_any (same_place f) ys ≡ true → Has f ys
has f [] e = sym e
has f (y ∷ ys) e = has_by f y ys (same_place f y) refl e (λ h. has f ys h)

-- which of two is kept
kept_as : (f a b : Place) → (a ≡ f) ⊎ (is_before (path_of f) (path_of a) ≡ true) → b ≡ f → is_before (path_of b) (path_of a) ≡ false → a ≡ f
kept_as f a b (inl h) g e = h
kept_as f a b (inr h) g e = absurd (sym h ∙ (ap (λ z. is_before (path_of z) (path_of a)) (sym g) ∙ e))

keeps : (f a b : Place) (bs : List Place) (c : Bool) → is_before (path_of b) (path_of a) ≡ c → Settled f (a ∷ b ∷ bs) → Has f (a ∷ b ∷ bs) → Has f (cond c b a ∷ bs)
keeps f a b bs c e s (inr (inr h)) = inr h
keeps f a b bs false e s (inl h) = inl h
keeps f a b bs true e s (inl h) = absurd (sym e ∙ (ap (λ z. is_before (path_of b) (path_of z)) h ∙ s.2.0))
keeps f a b bs true e s (inr (inl h)) = inl h
keeps f a b bs false e s (inr (inl h)) = inl (kept_as f a b s.1 h e)

settled_one : (f a b : Place) (bs : List Place) (c : Bool) → Settled f (a ∷ b ∷ bs) → Settled f (cond c b a ∷ bs)
settled_one f a b bs true s = s.2
settled_one f a b bs false s = (s.0, s.1, s.2.2)

least_is : (f a : Place) (bs : List Place) → Settled f (a ∷ bs) → Has f (a ∷ bs) → least a bs ≡ f
least_is f a [] s (inl h) = h
least_is f a [] s (inr h) = absurd h
least_is f a (b ∷ bs) s h =
    least_is f (cond (is_before (path_of b) (path_of a)) b a) bs (settled_one f a b bs (is_before (path_of b) (path_of a)) s) (keeps f a b bs (is_before (path_of b) (path_of a)) refl s h)

first_is : (f : Place) (ys : List Place) → Settled f ys → Has f ys → first_of ys ≡ Some f
first_is f [] s h = absurd h
first_is f (y ∷ ys) s h = ap Some (least_is f y ys s h)

or_true : (a : Bool) → a || true ≡ true
or_true true = refl
or_true false = refl

number_is : (a b : ℕ) → nat_eq a b ≡ true → a ≡ b
number_is a b e = grind arith

image_by : (F : ℕ → Place) (k x : ℕ) (xs : List ℕ) (b : Bool) → nat_eq k x ≡ b → b || list_any (nat_eq k) xs ≡ true → (list_any (nat_eq k) xs ≡ true → list_any (λ j. same_place (F k) (F j)) xs ≡ true) →
    list_any (λ j. same_place (F k) (F j)) (x ∷ xs) ≡ true
image_by F k x xs true e h r = ap (λ z. z || list_any (λ j. same_place (F k) (F j)) xs) (ap (λ z. same_place (F k) (F z)) (sym (number_is k x e)) ∙ place_self (F k))
image_by F k x xs false e h r = ap (λ z. same_place (F k) (F x) || z) (r h) ∙ or_true (same_place (F k) (F x))

image : (F : ℕ → Place) (k : ℕ) (xs : List ℕ) → list_any (nat_eq k) xs ≡ true → list_any (λ j. same_place (F k) (F j)) xs ≡ true
image F k [] e = e
image F k (x ∷ xs) e = image_by F k x xs (nat_eq k x) refl e (λ h. image F k xs h)

none_of : (ys : List Place) → list_any (λ y. true) ys ≡ false → ys ≡ []
none_of [] e = refl
none_of (y ∷ ys) e = absurd e

by_number : (o : Option ℕ) (es : List Event) → IsLeastOf o (faulty es) → IsOrdered o es → first_fault es ≡ option_map (placed_at es) o
by_number None es h r = ap first_of (none_of (faults es) (faults_numbered (λ y. true) es ∙ ap (list_any (λ j. true)) h))
by_number (Some k) es h r =
    first_is (placed_at es k) (faults es) (settled (placed_at es k) (faults es) (faults_numbered (is_out (placed_at es k)) es ∙ r))
    (has (placed_at es k) (faults es) (faults_numbered (same_place (placed_at es k)) es ∙ image (placed_at es) k (faulty es) h.among))

pub first_fault_is : (es : List Event) → IsOrdered (first_faulty es) es → first_fault es ≡ option_map (placed_at es) (first_faulty es)
first_fault_is es r = by_number (first_faulty es) es (faulty_least es) r
