-- The places of a program's events rise.
use Rattle.std.proofs.Common.{◌≡◌, ℕ, suc, ◌<◌, ◌≤◌, List, [], ◌∷◌, ◌++◌, Bool, true, false, ◌&&◌, ◌||◌, not, nat_le, nat_eq, refl, sym, ap, ◌∙◌, arith}
use Rattle.std.proofs.lemmas.Bool.{leb-true, le-leb, lt-leb, eqb-true, eq-eqb, ne_eqb}
use Rattle.jsx_tree.specs.Scopes.{Path, below}
use Rattle.jsx_tree.specs.Clashes.{Place, AtName, path_of, is_before}
use Rattle.jsx_tree.proofs.Tokens.{and_left, and_right, and_both}
use Rattle.jsx_names.specs.Events.{Event, Opens, Enters, Closes, Declares, Refers, Exports, Wants, Evals}
use Rattle.jsx_names.specs.Least.{is_out, same_place}
use Rattle.jsx_names.specs.Rising.{places_in, none_before, rising}
use Rattle.jsx_names.proofs.FirstFault.{place_self}
use Rattle.jsx_names.proofs.ScopeNames.{never}

-- ---- paths: below another, and below its n-th part or a later one

abbrev pub under : Path → Path → Bool
under [] q = true
under (i ∷ is) [] = false
under (i ∷ is) (j ∷ js) = nat_eq i j && under is js

abbrev pub from : Path → ℕ → Path → Bool
from [] n [] = false
from [] n (k ∷ ks) = nat_le n k
from (i ∷ is) n [] = false
from (i ∷ is) n (j ∷ js) = nat_eq i j && from is n js

self_eq : (i : ℕ) → nat_eq i i ≡ true
self_eq i = eq-eqb i i refl

pub under_self : (p : Path) → under p p ≡ true
under_self [] = refl
under_self (i ∷ is) = and_both (nat_eq i i) (under is is) (self_eq i) (under_self is)

under_from : (p : Path) (i : ℕ) (q : Path) → under (below p i) q ≡ true → from p i q ≡ true
under_from [] i [] h = never h
under_from [] i (k ∷ ks) h =
    let e : i ≡ k = eqb-true i k (and_left (nat_eq i k) true h) in
    let l : i ≤ k = omega (arith, e) in
    le-leb i k l
under_from (j ∷ js) i [] h = never h
under_from (j ∷ js) i (k ∷ ks) h = and_both (nat_eq j k) (from js i ks) (and_left (nat_eq j k) (under (below js i) ks) h) (under_from js i ks (and_right (nat_eq j k) (under (below js i) ks) h))

from_before : (p : Path) (i : ℕ) (q : Path) → from p (suc i) q ≡ true → from p i q ≡ true
from_before [] i [] h = never h
from_before [] i (k ∷ ks) h =
    let a : suc i ≤ k = leb-true (suc i) k h in
    let l : i ≤ k = omega (arith, a) in
    le-leb i k l
from_before (j ∷ js) i [] h = never h
from_before (j ∷ js) i (k ∷ ks) h = and_both (nat_eq j k) (from js i ks) (and_left (nat_eq j k) (from js (suc i) ks) h) (from_before js i ks (and_right (nat_eq j k) (from js (suc i) ks) h))

from_under : (p : Path) (i : ℕ) (q : Path) → from p i q ≡ true → under p q ≡ true
from_under [] i q h = refl
from_under (j ∷ js) i [] h = never h
from_under (j ∷ js) i (k ∷ ks) h = and_both (nat_eq j k) (under js ks) (and_left (nat_eq j k) (from js i ks) h) (from_under js i ks (and_right (nat_eq j k) (from js i ks) h))

none_of : (a b : Bool) → a ≡ false → b ≡ false → a || b ≡ false
none_of false b x y = y
none_of true b x y = x

and_false : (a b : Bool) → b ≡ false → a && b ≡ false
and_false true b h = h
and_false false b h = refl

first_false : (a b : Bool) → a ≡ false → a && b ≡ false
first_false false b h = refl
first_false true b h = never (sym h)

-- a later part stands behind an earlier one
in_order : (p : Path) (i : ℕ) (q r : Path) → under (below p i) q ≡ true → from p (suc i) r ≡ true → is_before r q ≡ false
in_order [] i [] r a b = never a
in_order [] i (j ∷ js) [] a b = never b
in_order [] i (j ∷ js) (k ∷ ks) a b =
    let e : i ≡ j = eqb-true i j (and_left (nat_eq i j) true a) in
    let l : suc i ≤ k = leb-true (suc i) k b in
    let x : j < suc k = omega (arith, e, l) in
    none_of (nat_le (suc k) j) (nat_eq k j && is_before ks js) (lt-leb (suc k) j x) (first_false (nat_eq k j) (is_before ks js) (ne_eqb k j (λ f. omega (arith, e, l, f))))
in_order (n ∷ ns) i [] r a b = never a
in_order (n ∷ ns) i (j ∷ js) [] a b = never b
in_order (n ∷ ns) i (j ∷ js) (k ∷ ks) a b =
    let e : n ≡ j = eqb-true n j (and_left (nat_eq n j) (under (below ns i) js) a) in
    let f : n ≡ k = eqb-true n k (and_left (nat_eq n k) (from ns (suc i) ks) b) in
    let x : j < suc k = omega (arith, e, f) in
    none_of (nat_le (suc k) j) (nat_eq k j && is_before ks js) (lt-leb (suc k) j x)
    (and_false (nat_eq k j) (is_before ks js) (in_order ns i js ks (and_right (nat_eq n j) (under (below ns i) js) a) (and_right (nat_eq n k) (from ns (suc i) ks) b)))

or_true : (a b c : Bool) → b ≡ true → c ≡ true → a || (b && c) ≡ true
or_true true b c x y = refl
or_true false true c x y = y
or_true false false c x y = never x

-- and the earlier one before it
before_later : (p : Path) (i : ℕ) (q r : Path) → under (below p i) q ≡ true → from p (suc i) r ≡ true → is_before q r ≡ true
before_later [] i [] r a b = never a
before_later [] i (j ∷ js) [] a b = never b
before_later [] i (j ∷ js) (k ∷ ks) a b =
    let e : i ≡ j = eqb-true i j (and_left (nat_eq i j) true a) in
    let l : suc i ≤ k = leb-true (suc i) k b in
    let x : suc j ≤ k = omega (arith, e, l) in
    ap (λ z. z || (nat_eq j k && is_before js ks)) (le-leb (suc j) k x)
before_later (n ∷ ns) i [] r a b = never a
before_later (n ∷ ns) i (j ∷ js) [] a b = never b
before_later (n ∷ ns) i (j ∷ js) (k ∷ ks) a b =
    let e : n ≡ j = eqb-true n j (and_left (nat_eq n j) (under (below ns i) js) a) in
    let f : n ≡ k = eqb-true n k (and_left (nat_eq n k) (from ns (suc i) ks) b) in
    or_true (nat_le (suc j) k) (nat_eq j k) (is_before js ks) (eq-eqb j k (sym e ∙ f))
    (before_later ns i js ks (and_right (nat_eq n j) (under (below ns i) js) a) (and_right (nat_eq n k) (from ns (suc i) ks) b))

-- a node stands before its parts
before_parts : (p q : Path) → from p 0 q ≡ true → is_before p q ≡ true
before_parts [] [] h = never h
before_parts [] (k ∷ ks) h = refl
before_parts (i ∷ is) [] h = never h
before_parts (i ∷ is) (j ∷ js) h = or_true (nat_le (suc i) j) (nat_eq i j) (is_before is js) (and_left (nat_eq i j) (from is 0 js) h) (before_parts is js (and_right (nat_eq i j) (from is 0 js) h))

-- what stands below a path isn't before it
not_above : (p q : Path) → under p q ≡ true → is_before q p ≡ false
not_above [] [] h = refl
not_above [] (j ∷ js) h = refl
not_above (i ∷ is) [] h = never h
not_above (i ∷ is) (j ∷ js) h =
    let e : i ≡ j = eqb-true i j (and_left (nat_eq i j) (under is js) h) in
    let x : i < suc j = omega (arith, e) in
    none_of (nat_le (suc j) i) (nat_eq j i && is_before js is) (lt-leb (suc j) i x) (and_false (nat_eq j i) (is_before js is) (not_above is js (and_right (nat_eq i j) (under is js) h)))

-- ---- lists of places

abbrev pub all_under : Path → List Place → Bool
all_under p [] = true
all_under p (a ∷ as') = under p (path_of a) && all_under p as'

abbrev pub all_from : Path → ℕ → List Place → Bool
all_from p n [] = true
all_from p n (a ∷ as') = from p n (path_of a) && all_from p n as'

pub from_append : (p : Path) (n : ℕ) (xs ys : List Place) → all_from p n xs ≡ true → all_from p n ys ≡ true → all_from p n (xs ++ ys) ≡ true
from_append p n [] ys a b = b
from_append p n (x ∷ xs) ys a b = and_both (from p n (path_of x)) (all_from p n (xs ++ ys)) (and_left (from p n (path_of x)) (all_from p n xs) a) (from_append p n xs ys (and_right (from p n (path_of x)) (all_from p n xs) a) b)

pub under_append : (p : Path) (xs ys : List Place) → all_under p xs ≡ true → all_under p ys ≡ true → all_under p (xs ++ ys) ≡ true
under_append p [] ys a b = b
under_append p (x ∷ xs) ys a b = and_both (under p (path_of x)) (all_under p (xs ++ ys)) (and_left (under p (path_of x)) (all_under p xs) a) (under_append p xs ys (and_right (under p (path_of x)) (all_under p xs) a) b)

pub all_under_from : (p : Path) (i : ℕ) (xs : List Place) → all_under (below p i) xs ≡ true → all_from p i xs ≡ true
all_under_from p i [] h = refl
all_under_from p i (x ∷ xs) h = and_both (from p i (path_of x)) (all_from p i xs) (under_from p i (path_of x) (and_left (under (below p i) (path_of x)) (all_under (below p i) xs) h)) (all_under_from p i xs (and_right (under (below p i) (path_of x)) (all_under (below p i) xs) h))

pub all_from_before : (p : Path) (i : ℕ) (xs : List Place) → all_from p (suc i) xs ≡ true → all_from p i xs ≡ true
all_from_before p i [] h = refl
all_from_before p i (x ∷ xs) h = and_both (from p i (path_of x)) (all_from p i xs) (from_before p i (path_of x) (and_left (from p (suc i) (path_of x)) (all_from p (suc i) xs) h)) (all_from_before p i xs (and_right (from p (suc i) (path_of x)) (all_from p (suc i) xs) h))

pub all_from_under : (p : Path) (i : ℕ) (xs : List Place) → all_from p i xs ≡ true → all_under p xs ≡ true
all_from_under p i [] h = refl
all_from_under p i (x ∷ xs) h = and_both (under p (path_of x)) (all_under p xs) (from_under p i (path_of x) (and_left (from p i (path_of x)) (all_from p i xs) h)) (all_from_under p i xs (and_right (from p i (path_of x)) (all_from p i xs) h))

not_out : (x s y : Bool) → x ≡ false → y ≡ true → not (x || not (s || y)) ≡ true
not_out true s y a b = never (sym a)
not_out false true y a b = refl
not_out false false true a b = refl
not_out false false false a b = never b

none_append : (a : Place) (xs ys : List Place) → none_before a xs ≡ true → none_before a ys ≡ true → none_before a (xs ++ ys) ≡ true
none_append a [] ys x y = y
none_append a (b ∷ bs) ys x y = and_both (not (is_out a b)) (none_before a (bs ++ ys)) (and_left (not (is_out a b)) (none_before a bs) x) (none_append a bs ys (and_right (not (is_out a b)) (none_before a bs) x) y)

later_behind : (p : Path) (i : ℕ) (a : Place) (ys : List Place) → under (below p i) (path_of a) ≡ true → all_from p (suc i) ys ≡ true → none_before a ys ≡ true
later_behind p i a [] h y = refl
later_behind p i a (b ∷ bs) h y =
    let f = and_left (from p (suc i) (path_of b)) (all_from p (suc i) bs) y in
    and_both (not (is_out a b)) (none_before a bs)
    (not_out (is_before (path_of b) (path_of a)) (same_place a b) (is_before (path_of a) (path_of b)) (in_order p i (path_of a) (path_of b) h f) (before_later p i (path_of a) (path_of b) h f))
    (later_behind p i a bs h (and_right (from p (suc i) (path_of b)) (all_from p (suc i) bs) y))

-- a part, and the parts behind it
pub rising_parts : (p : Path) (i : ℕ) (xs ys : List Place) → rising xs ≡ true → all_under (below p i) xs ≡ true → rising ys ≡ true → all_from p (suc i) ys ≡ true → rising (xs ++ ys) ≡ true
rising_parts p i [] ys x a y b = y
rising_parts p i (z ∷ zs) ys x a y b =
    and_both (none_before z (zs ++ ys)) (rising (zs ++ ys))
    (none_append z zs ys (and_left (none_before z zs) (rising zs) x) (later_behind p i z ys (and_left (under (below p i) (path_of z)) (all_under (below p i) zs) a) b))
    (rising_parts p i zs ys (and_right (none_before z zs) (rising zs) x) (and_right (under (below p i) (path_of z)) (all_under (below p i) zs) a) y b)

-- what stands below a path is behind it
pub none_above : (a : Place) (p : Path) (ys : List Place) → path_of a ≡ p → all_from p 0 ys ≡ true → none_before a ys ≡ true
none_above a p [] e h = refl
none_above a p (b ∷ bs) e h =
    let f = and_left (from p 0 (path_of b)) (all_from p 0 bs) h in
    and_both (not (is_out a b)) (none_before a bs)
    (not_out (is_before (path_of b) (path_of a)) (same_place a b) (is_before (path_of a) (path_of b))
    (ap (is_before (path_of b)) e ∙ not_above p (path_of b) (from_under p 0 (path_of b) f)) (ap (λ z. is_before z (path_of b)) e ∙ before_parts p (path_of b) f))
    (none_above a p bs e (and_right (from p 0 (path_of b)) (all_from p 0 bs) h))

pub self_in : (a : Place) → is_out a a ≡ false
self_in a = none_of (is_before (path_of a) (path_of a)) (not (same_place a a || is_before (path_of a) (path_of a))) (not_above (path_of a) (path_of a) (under_self (path_of a))) (ap (λ z. not (z || is_before (path_of a) (path_of a))) (place_self a))

pub places_append : (es fs : List Event) → places_in (es ++ fs) ≡ places_in es ++ places_in fs
places_append [] fs = refl
places_append (Opens f p ∷ es) fs = places_append es fs
places_append (Enters ∷ es) fs = places_append es fs
places_append (Closes ∷ es) fs = places_append es fs
places_append (Declares h r t p ∷ es) fs = ap (λ z. AtName p ∷ z) (places_append es fs)
places_append (Refers t p ∷ es) fs = places_append es fs
places_append (Exports t a ∷ es) fs = ap (λ z. a ∷ z) (places_append es fs)
places_append (Wants t a ∷ es) fs = ap (λ z. a ∷ z) (places_append es fs)
places_append (Evals p ∷ es) fs = places_append es fs
