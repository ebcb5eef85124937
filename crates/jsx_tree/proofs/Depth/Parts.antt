-- What stands deeper in an open node makes it deeper: nodes that are open compare one by one, and keep doing so.
use Rattle.std.proofs.Common.{◌≡◌, ◌≤◌, ℕ, suc, Bool, true, false, List, [], ◌∷◌, refl, arith}
use Rattle.jsx_tree.specs.Signs.{Sign, Begin, Count, One, End}
use Rattle.jsx_tree.specs.Depth.{Frame, frame, more, depth_of, raise, depth_step, height, deep_from}
use Rattle.jsx_tree.specs.Fronts.{steps}
use Rattle.jsx_tree.proofs.Depth.Flat.{more_max, deep_steps}

pub data Below : List Frame → List Frame → Type 0 where
  below_none : {gs : List Frame} → Below [] gs
  below_more : {b c : Bool} {d e : ℕ} {fs gs : List Frame} → (b ≡ true → c ≡ true) → d ≤ e → Below fs gs → Below (frame b d ∷ fs) (frame c e ∷ gs)

frame_up : (b c : Bool) (x y : ℕ) → (b ≡ true → c ≡ true) → x ≤ y → depth_of (frame b x) ≤ depth_of (frame c y)
frame_up true true x y f le = omega (arith, le)
frame_up true false x y f le = let bad = f refl in cc
frame_up false true x y f le = omega (arith, le)
frame_up false false x y f le = le

more_up : (a b c d : ℕ) → a ≤ c → b ≤ d → more a b ≤ more c d
more_up a b c d p q = let m = more_max a b in let n = more_max c d in omega (arith, m, n, p, q)

pub height_up : (e : ℕ) (gs : List Frame) → e ≤ height e gs
height_up e [] = omega arith
height_up e (frame true x ∷ gs) = let h = height_up (suc (more e x)) gs in let m = more_max e x in omega (arith, h, m)
height_up e (frame false x ∷ gs) = let h = height_up (more e x) gs in let m = more_max e x in omega (arith, h, m)

pub rise : {fs gs : List Frame} (d e : ℕ) → Below fs gs → d ≤ e → height d fs ≤ height e gs
rise d e (below_none {gs = gs}) le = let h = height_up e gs in omega (arith, h, le)
rise d e (below_more {b = b} {c = c} {d = x} {e = y} f xy r) le = rise (depth_of (frame b (more d x))) (depth_of (frame c (more e y))) r (frame_up b c (more d x) (more e y) f (more_up d x e y le xy))

below_raise : {fs gs : List Frame} (d e : ℕ) → d ≤ e → Below fs gs → Below (raise d fs) (raise e gs)
below_raise d e le below_none = below_none
below_raise d e le (below_more {b = b} {c = c} {d = x} {e = y} f xy r) = below_more f (more_up d x e y le xy) r

below_step : {fs gs : List Frame} (m : Sign) → Below fs gs → Below (depth_step m fs) (depth_step m gs)
below_step Begin r = below_more (λ e. e) (omega arith) r
below_step End below_none = below_none
below_step End (below_more {b = b} {c = c} {d = x} {e = y} f xy r) = below_raise (depth_of (frame b x)) (depth_of (frame c y)) (frame_up b c x y f xy) r
below_step Count below_none = below_none
below_step Count (below_more f xy r) = below_more (λ e. refl) xy r
below_step One r = below_raise 1 1 (omega arith) r
below_step _ r = r

pub below_steps : (ms : List Sign) {fs gs : List Frame} → Below fs gs → Below (steps fs ms) (steps gs ms)
below_steps [] r = r
below_steps (m ∷ ms) r = below_steps ms (below_step m r)

-- the same signs are no deeper where less is open
pub no_deeper : (fs gs : List Frame) (ms : List Sign) → Below fs gs → deep_from fs ms ≤ deep_from gs ms
no_deeper fs gs ms r =
    let h = rise 0 0 (below_steps ms r) (omega arith) in
    let a = deep_steps fs ms in
    let b = deep_steps gs ms in
    omega (arith, h, a, b)

-- an open part makes its node as deep, and one deeper where that counts
pub in_node : (d e : ℕ) (fs : List Frame) → d ≤ height d (frame false e ∷ fs)
in_node d e fs = height_up d (frame false e ∷ fs)

pub in_counted : (d e : ℕ) (fs : List Frame) → suc d ≤ height d (frame true e ∷ fs)
in_counted d e fs = let h = height_up (suc (more d e)) fs in let m = more_max d e in omega (arith, h, m)
