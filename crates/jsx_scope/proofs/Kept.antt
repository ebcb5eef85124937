-- The first statement that is written, among empty ones.
use Rattle.std.proofs.Common.{◌≡◌, ℕ, zero, suc, ◌+◌, ◌<◌, ◌≤◌, List, [], ◌∷◌, Result, true, false, cond, length, get_or, set, map, refl, ap, sym, ◌∙◌, subst, arith}
use Rattle.std.specs.Prelude.{OnOk}
use Rattle.std.proofs.lemmas.Result.{on_ok_weaker}
use Rattle.std.proofs.lemmas.List.{map-set, get_or-map, length-map}
use Rattle.jsx_tree.specs.Kinds.{Tree, part}
use Rattle.jsx_tree.specs.Normal.{is_empty}
use Rattle.jsx_tree.specs.Parentheses.{no_directive, first_no_directive}
use Rattle.jsx_tree.specs.View.{forest}
use Rattle.jsx_scope.specs.Walk.{kept}

-- an empty one is passed
past : (i : ℕ) (ts : List Tree) (t : Tree) → i < length ts → t ≡ get_or ts i t → is_empty t ≡ true → kept i ts ≡ kept (suc i) ts
past i [] t within is e = absurd (omega arith)
past zero (u ∷ us) t within is e = ap (λ v. cond v (part u (first_no_directive (forest us))) (part (no_directive u) (forest us))) (ap is_empty (sym is) ∙ e)
past (suc i) (u ∷ us) t within is e = ap (part u) (past i us t (omega arith) is e)

-- one that is written is no directive
found : (i : ℕ) (ts : List Tree) (t u : Tree) → i < length ts → t ≡ get_or ts i t → is_empty t ≡ false → u ≡ no_directive t → kept i ts ≡ forest (set ts i u)
found i [] t u within is e w = absurd (omega arith)
found zero (v ∷ vs) t u within is e w = ap (λ b. cond b (part v (first_no_directive (forest vs))) (part (no_directive v) (forest vs))) (ap is_empty (sym is) ∙ e) ∙ ap (λ x. part x (forest vs)) (ap no_directive (sym is) ∙ sym w)
found (suc i) (v ∷ vs) t u within is e w = ap (part v) (found i vs t u (omega arith) is e w)

-- all are empty
ended : (i : ℕ) (ts : List Tree) → length ts ≤ i → kept i ts ≡ forest ts
ended zero [] h = refl
ended (suc i) [] h = refl
ended zero (t ∷ ts) h = absurd (omega arith)
ended (suc i) (t ∷ ts) h = ap (part t) (ended i ts (omega arith))

-- the same of a list as it is seen
pub seen_past : {A : Type 0} (v : A → Tree) (xs : List A) (i : ℕ) (x : A) → i < length xs → x ≡ get_or xs i x → is_empty (v x) ≡ true → first_no_directive (forest (map v xs)) ≡ kept i (map v xs) → first_no_directive (forest (map v xs)) ≡ kept (i + 1) (map v xs)
seen_past v xs i x within is e k =
    let one : suc i ≡ i + 1 = omega arith in
    k ∙ past i (map v xs) (v x) (omega (arith, length-map xs v)) (ap v is ∙ sym (get_or-map v xs i x (v x) within)) e ∙ ap (λ n. kept n (map v xs)) one

pub seen_found : {A : Type 0} (v : A → Tree) (xs : List A) (i : ℕ) (x y : A) → i < length xs → x ≡ get_or xs i x → is_empty (v x) ≡ false → v y ≡ no_directive (v x) → first_no_directive (forest (map v xs)) ≡ kept i (map v xs) → forest (map v (set xs i y)) ≡ first_no_directive (forest (map v xs))
seen_found v xs i x y within is e w k =
    ap forest (map-set v xs i y) ∙ sym (k ∙ found i (map v xs) (v x) (v y) (omega (arith, length-map xs v)) (ap v is ∙ sym (get_or-map v xs i x (v x) within)) e w)

pub seen_ended : {A : Type 0} (v : A → Tree) (xs : List A) (i : ℕ) → length xs ≤ i → first_no_directive (forest (map v xs)) ≡ kept i (map v xs) → forest (map v xs) ≡ first_no_directive (forest (map v xs))
seen_ended v xs i h k = sym (k ∙ ended i (map v xs) (omega (arith, length-map xs v)))

-- and where what makes it none may fail
pub kept_ok : {T E A : Type 0} (r : Result T E) (v : A → Tree) (xs ys : List A) (i : ℕ) (x y : A) → ys ≡ xs → i < length xs → x ≡ get_or xs i x → ((z : A) → i < length ys → z ≡ get_or ys i z → is_empty (v z) ≡ false) → first_no_directive (forest (map v ys)) ≡ kept i (map v ys) → OnOk r (v y ≡ no_directive (v x)) → OnOk r (forest (map v (set xs i y)) ≡ first_no_directive (forest (map v xs)))
kept_ok {A = A} r v xs ys i x y same within is written k o =
    on_ok_weaker {P = v y ≡ no_directive (v x)} {Q = forest (map v (set xs i y)) ≡ first_no_directive (forest (map v xs))} r
    (λ w. seen_found v xs i x y within is (subst (λ zs. (z : A) → i < length zs → z ≡ get_or zs i z → is_empty (v z) ≡ false) same written x within is) w (subst (λ zs. first_no_directive (forest (map v zs)) ≡ kept i (map v zs)) same k)) o

pub kept_ended : {A : Type 0} (v : A → Tree) (xs ys : List A) (i : ℕ) → ys ≡ xs → length xs ≤ i → first_no_directive (forest (map v ys)) ≡ kept i (map v ys) → forest (map v xs) ≡ first_no_directive (forest (map v xs))
kept_ended v xs ys i same h k = seen_ended v xs i h (subst (λ zs. first_no_directive (forest (map v zs)) ≡ kept i (map v zs)) same k)

pub kept_deref : {T E A : Type 0} (r : Result T E) (w v z : A) → v ≡ z → OnOk r (w ≡ v) → OnOk r (w ≡ z)
kept_deref r w v z e k = on_ok_weaker {P = w ≡ v} {Q = w ≡ z} r (λ x. x ∙ e) k
