-- The least of some places doesn't hang on the order in which they stand.
use Rattle.std.proofs.Common.{◌≡◌, ℕ, suc, ◌<◌, ◌≤◌, List, [], ◌∷◌, ◌++◌, Bool, true, false, cond, ◌&&◌, ◌||◌, nat_le, nat_eq, refl, sym, ap, ◌∙◌, arith, Option, Some, None}
use Rattle.std.proofs.lemmas.Bool.{false≢true, leb-true, leb-false, lt-leb, eqb-true, eq-eqb}
use Rattle.jsx_tree.specs.Scopes.{Path}
use Rattle.jsx_tree.specs.Clashes.{Place, AtName, AtDefault, path_of, is_before, least, first_of}

never : {A : Type 0} → false ≡ true → A
never e = absurd (false≢true e)

or_none : (a b : Bool) → a ≡ false → b ≡ false → a || b ≡ false
or_none false b x y = y
or_none true b x y = x

none_left : (a b : Bool) → a || b ≡ false → a ≡ false
none_left false b h = refl
none_left true b h = h

none_right : (a b : Bool) → a || b ≡ false → b ≡ false
none_right false b h = h
none_right true b h = never (sym h)

one_right : (a b : Bool) → a ≡ false → a || b ≡ true → b ≡ true
one_right false b e h = h
one_right true b e h = never (sym e)

both_left : (a b : Bool) → a && b ≡ true → a ≡ true
both_left true b h = refl
both_left false b h = never h

both_right : (a b : Bool) → a && b ≡ true → b ≡ true
both_right true b h = h
both_right false b h = never h

behind_number : (i j k : ℕ) → nat_le (suc j) i ≡ false → nat_le (suc k) j ≡ false → nat_le (suc k) i ≡ false
behind_number i j k a b =
    let x : i < suc j = leb-false (suc j) i a in
    let y : j < suc k = leb-false (suc k) j b in
    let z : i < suc k = omega (arith, x, y) in
    lt-leb (suc k) i z

-- a number between two that are the same
between_left : (i j k : ℕ) → nat_le (suc j) i ≡ false → nat_le (suc k) j ≡ false → nat_eq k i ≡ true → nat_eq j i ≡ true
between_left i j k a b e =
    let x : i < suc j = leb-false (suc j) i a in
    let y : j < suc k = leb-false (suc k) j b in
    let same : k ≡ i = eqb-true k i e in
    let z : j ≡ i = omega (arith, x, y, same) in
    eq-eqb j i z

between_right : (i j k : ℕ) → nat_le (suc j) i ≡ false → nat_le (suc k) j ≡ false → nat_eq k i ≡ true → nat_eq k j ≡ true
between_right i j k a b e =
    let x : i < suc j = leb-false (suc j) i a in
    let y : j < suc k = leb-false (suc k) j b in
    let same : k ≡ i = eqb-true k i e in
    let z : k ≡ j = omega (arith, x, y, same) in
    eq-eqb k j z

not_and : (a b : Bool) → a ≡ true → a && b ≡ false → b ≡ false
not_and true b e h = h
not_and false b e h = never e

behind_same : (i j k : ℕ) (is js ks : Path) (c : Bool) → nat_le (suc j) i ≡ false → nat_le (suc k) j ≡ false → nat_eq j i && is_before js is ≡ false → nat_eq k j && is_before ks js ≡ false
    → (is_before js is ≡ false → is_before ks js ≡ false → is_before ks is ≡ false) → nat_eq k i ≡ c → c && is_before ks is ≡ false
behind_same i j k is js ks false x y a b f e = refl
behind_same i j k is js ks true x y a b f e = f (not_and (nat_eq j i) (is_before js is) (between_left i j k x y e) a) (not_and (nat_eq k j) (is_before ks js) (between_right i j k x y e) b)

-- a path that is not before one that is not before a third isn't before that
behind : (p q r : Path) → is_before q p ≡ false → is_before r q ≡ false → is_before r p ≡ false
behind [] q [] a b = refl
behind [] q (k ∷ ks) a b = refl
behind (i ∷ is) [] r a b = never (sym a)
behind (i ∷ is) (j ∷ js) [] a b = never (sym b)
behind (i ∷ is) (j ∷ js) (k ∷ ks) a b =
    let x : nat_le (suc j) i ≡ false = none_left (nat_le (suc j) i) (nat_eq j i && is_before js is) a in
    let y : nat_le (suc k) j ≡ false = none_left (nat_le (suc k) j) (nat_eq k j && is_before ks js) b in
    or_none (nat_le (suc k) i) (nat_eq k i && is_before ks is) (behind_number i j k x y)
    (behind_same i j k is js ks (nat_eq k i) x y (none_right (nat_le (suc j) i) (nat_eq j i && is_before js is) a) (none_right (nat_le (suc k) j) (nat_eq k j && is_before ks js) b) (behind is js ks) refl)

not_less : (i j : ℕ) → nat_le (suc i) j ≡ true → nat_le (suc j) i ≡ false
not_less i j h =
    let x : suc i ≤ j = leb-true (suc i) j h in
    let z : i < suc j = omega (arith, x) in
    lt-leb (suc j) i z

less_other : (i j : ℕ) → nat_le (suc i) j ≡ true → nat_eq j i ≡ true → false ≡ true
less_other i j h e =
    let same : j ≡ i = eqb-true j i e in
    let x : nat_le (suc i) i ≡ true = ap (λ z. nat_le (suc i) z) (sym same) ∙ h in
    sym (lt-leb (suc i) i (omega arith)) ∙ x

self_not : (i j : ℕ) → nat_eq i j ≡ true → nat_le (suc j) i ≡ false
self_not i j e =
    let same : i ≡ j = eqb-true i j e in
    let z : i < suc j = omega (arith, same) in
    lt-leb (suc j) i z

same_inner : (c d e : Bool) → c ≡ d → (d ≡ true → e ≡ false) → c && e ≡ false
same_inner false d e x f = refl
same_inner true d e x f = f (sym x)

other_step : (i j : ℕ) (is js : Path) (c : Bool) → nat_le (suc i) j ≡ c → is_before (i ∷ is) (j ∷ js) ≡ true → (is_before is js ≡ true → is_before js is ≡ false) → is_before (j ∷ js) (i ∷ is) ≡ false
other_step i j is js true e h f = or_none (nat_le (suc j) i) (nat_eq j i && is_before js is) (not_less i j e) (same_inner (nat_eq j i) (nat_eq j i) (is_before js is) refl (λ x. never (less_other i j e x)))
other_step i j is js false e h f =
    let rest : nat_eq i j && is_before is js ≡ true = one_right (nat_le (suc i) j) (nat_eq i j && is_before is js) e h in
    or_none (nat_le (suc j) i) (nat_eq j i && is_before js is) (self_not i j (both_left (nat_eq i j) (is_before is js) rest)) (same_inner (nat_eq j i) (nat_eq j i) (is_before js is) refl (λ x. f (both_right (nat_eq i j) (is_before is js) rest)))

-- of two paths one at most is before the other
other_way : (p q : Path) → is_before p q ≡ true → is_before q p ≡ false
other_way [] [] h = refl
other_way [] (j ∷ js) h = refl
other_way (i ∷ is) [] h = never h
other_way (i ∷ is) (j ∷ js) h = other_step i j is js (nat_le (suc i) j) refl h (other_way is js)

further : (p q r : Path) → is_before p q ≡ true → is_before q r ≡ true → is_before p r ≡ true
further p q r a b = go (is_before p r) refl
  where
    go : (c : Bool) → is_before p r ≡ c → is_before p r ≡ true
    go true e = e
    go false e = never (sym (behind r p q e (other_way p q a)) ∙ b)

equal_number : (i j : ℕ) → nat_le (suc i) j ≡ false → nat_le (suc j) i ≡ false → i ≡ j
equal_number i j a b =
    let x : j < suc i = leb-false (suc i) j a in
    let y : i < suc j = leb-false (suc j) i b in
    omega (arith, x, y)

-- two paths of which none is before the other are the same
same_place : (p q : Path) → is_before p q ≡ false → is_before q p ≡ false → p ≡ q
same_place [] [] a b = refl
same_place [] (j ∷ js) a b = never (sym a)
same_place (i ∷ is) [] a b = never (sym b)
same_place (i ∷ is) (j ∷ js) a b =
    let e : i ≡ j = equal_number i j (none_left (nat_le (suc i) j) (nat_eq i j && is_before is js) a) (none_left (nat_le (suc j) i) (nat_eq j i && is_before js is) b) in
    ap (λ z. z ∷ is) e
    ∙ ap (λ z. j ∷ z) (same_place is js
    (not_and (nat_eq i j) (is_before is js) (eq-eqb i j e) (none_right (nat_le (suc i) j) (nat_eq i j && is_before is js) a))
    (not_and (nat_eq j i) (is_before js is) (eq-eqb j i (sym e)) (none_right (nat_le (suc j) i) (nat_eq j i && is_before js is) b)))

-- ---- the lesser of two places

abbrev pub sooner : Place → Place → Place
sooner a b = cond (is_before (path_of b) (path_of a)) b a

sooner_by : (a b c : Place) (x y : Bool) → is_before (path_of b) (path_of a) ≡ x → is_before (path_of c) (path_of b) ≡ y → sooner (cond x b a) c ≡ sooner a (cond y c b)
sooner_by a b c true true x y = ap (λ z. cond z c b) y ∙ sym (ap (λ z. cond z c a) (further (path_of c) (path_of b) (path_of a) y x))
sooner_by a b c true false x y = ap (λ z. cond z c b) y ∙ sym (ap (λ z. cond z b a) x)
sooner_by a b c false true x y = refl
sooner_by a b c false false x y = ap (λ z. cond z c a) (behind (path_of a) (path_of b) (path_of c) x y) ∙ sym (ap (λ z. cond z b a) x)

sooner_three : (a b c : Place) → sooner (sooner a b) c ≡ sooner a (sooner b c)
sooner_three a b c = sooner_by a b c (is_before (path_of b) (path_of a)) (is_before (path_of c) (path_of b)) refl refl

least_first : (a b : Place) (bs : List Place) → least (sooner a b) bs ≡ sooner a (least b bs)
least_first a b [] = refl
least_first a b (c ∷ cs) = ap (λ z. least z cs) (sooner_three a b c) ∙ least_first a (sooner b c) cs

-- of two lists
abbrev pub merge : Option Place → Option Place → Option Place
merge None o = o
merge (Some a) None = Some a
merge (Some a) (Some b) = Some (sooner a b)

pub merge_three : (x y z : Option Place) → merge (merge x y) z ≡ merge x (merge y z)
merge_three None y z = refl
merge_three (Some a) None z = refl
merge_three (Some a) (Some b) None = refl
merge_three (Some a) (Some b) (Some c) = ap Some (sooner_three a b c)

least_append : (a : Place) (xs ys : List Place) → Some (least a (xs ++ ys)) ≡ merge (Some (least a xs)) (first_of ys)
least_append a [] [] = refl
least_append a [] (b ∷ ys) = ap Some (least_first a b ys)
least_append a (x ∷ xs) ys = least_append (sooner a x) xs ys

pub first_append : (xs ys : List Place) → first_of (xs ++ ys) ≡ merge (first_of xs) (first_of ys)
first_append [] ys = refl
first_append (a ∷ xs) ys = least_append a xs ys

-- ---- what each place of a list is, its first is

abbrev pub each : (Place → Bool) → List Place → Bool
each f [] = true
each f (a ∷ as') = f a && each f as'

pub each_append : (f : Place → Bool) (xs ys : List Place) → each f xs ≡ true → each f ys ≡ true → each f (xs ++ ys) ≡ true
each_append f [] ys x y = y
each_append f (a ∷ xs) ys x y = ap (λ z. z && each f (xs ++ ys)) (both_left (f a) (each f xs) x) ∙ each_append f xs ys (both_right (f a) (each f xs) x) y

abbrev pub has : (Place → Bool) → Option Place → Bool
has f None = true
has f (Some a) = f a

sooner_is : (f : Place → Bool) (a b : Place) → f a ≡ true → f b ≡ true → f (sooner a b) ≡ true
sooner_is f a b x y = go (is_before (path_of b) (path_of a))
  where
    go : (c : Bool) → f (cond c b a) ≡ true
    go true = y
    go false = x

least_is : (f : Place → Bool) (a : Place) (as' : List Place) → f a ≡ true → each f as' ≡ true → f (least a as') ≡ true
least_is f a [] x y = x
least_is f a (b ∷ bs) x y = least_is f (sooner a b) bs (sooner_is f a b x (both_left (f b) (each f bs) y)) (both_right (f b) (each f bs) y)

first_is : (f : Place → Bool) (xs : List Place) → each f xs ≡ true → has f (first_of xs) ≡ true
first_is f [] h = refl
first_is f (a ∷ xs) h = least_is f a xs (both_left (f a) (each f xs) h) (both_right (f a) (each f xs) h)

-- two kinds of places are apart: where their paths are the same they are
pub record Apart (f g : Place → Bool) : Type 0 where
  pub same : (a b : Place) → f a ≡ true → g b ≡ true → path_of a ≡ path_of b → a ≡ b

sooner_other : (a b : Place) → (path_of a ≡ path_of b → a ≡ b) → sooner a b ≡ sooner b a
sooner_other a b h = go (is_before (path_of b) (path_of a)) (is_before (path_of a) (path_of b)) refl refl
  where
    go : (x y : Bool) → is_before (path_of b) (path_of a) ≡ x → is_before (path_of a) (path_of b) ≡ y → cond x b a ≡ cond y a b
    go true true x y = never (sym (other_way (path_of b) (path_of a) x) ∙ y)
    go true false x y = refl
    go false true x y = refl
    go false false x y = h (same_place (path_of a) (path_of b) y x)

merge_other : (f g : Place → Bool) → Apart f g → (x y : Option Place) → has f x ≡ true → has g y ≡ true → merge x y ≡ merge y x
merge_other f g h None None x y = refl
merge_other f g h None (Some b) x y = refl
merge_other f g h (Some a) None x y = refl
merge_other f g h (Some a) (Some b) x y = ap Some (sooner_other a b (h.same a b x y))

pub merge_lists : (f g : Place → Bool) → Apart f g → (xs ys : List Place) → each f xs ≡ true → each g ys ≡ true → merge (first_of xs) (first_of ys) ≡ merge (first_of ys) (first_of xs)
merge_lists f g h xs ys x y = merge_other f g h (first_of xs) (first_of ys) (first_is f xs x) (first_is g ys y)

-- names alone
abbrev pub is_at_name : Place → Bool
is_at_name (AtName p) = true
is_at_name (AtDefault p) = false

names_same : (a b : Place) → is_at_name a ≡ true → is_at_name b ≡ true → path_of a ≡ path_of b → a ≡ b
names_same (AtName p) (AtName q) x y e = ap AtName e
names_same (AtName p) (AtDefault q) x y e = never y
names_same (AtDefault p) b x y e = never x

names_apart : Apart is_at_name is_at_name
names_apart = record { same = names_same }

-- two lists of places that are apart, in either order
pub lists_swap : (f g : Place → Bool) → Apart f g → (xs ys zs : List Place) → each f xs ≡ true → each g ys ≡ true → first_of (xs ++ (ys ++ zs)) ≡ first_of (ys ++ (xs ++ zs))
lists_swap f g h xs ys zs x y =
    first_append xs (ys ++ zs)
    ∙ ap (λ o. merge (first_of xs) o) (first_append ys zs)
    ∙ sym (merge_three (first_of xs) (first_of ys) (first_of zs))
    ∙ ap (λ o. merge o (first_of zs)) (merge_lists f g h xs ys x y)
    ∙ merge_three (first_of ys) (first_of xs) (first_of zs)
    ∙ ap (λ o. merge (first_of ys) o) (sym (first_append xs zs))
    ∙ sym (first_append ys (xs ++ zs))

-- a list of names may stand before or behind another
pub names_swap : (xs ys zs : List Place) → each is_at_name xs ≡ true → each is_at_name ys ≡ true → first_of (xs ++ (ys ++ zs)) ≡ first_of (ys ++ (xs ++ zs))
names_swap xs ys zs x y = lists_swap is_at_name is_at_name names_apart xs ys zs x y

pub first_both : (xs ys us vs : List Place) → first_of xs ≡ first_of us → first_of ys ≡ first_of vs → first_of (xs ++ ys) ≡ first_of (us ++ vs)
first_both xs ys us vs x y =
    first_append xs ys
    ∙ ap (λ o. merge o (first_of ys)) x
    ∙ ap (λ o. merge (first_of us) o) y
    ∙ sym (first_append us vs)
