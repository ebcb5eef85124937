-- What calls one after the other add round the events of a function.
use Rattle.std.proofs.Common.{◌≡◌, List, [], ◌∷◌, ◌++◌, sym, Result}
use Rattle.std.specs.Prelude.{OnOk}
use Rattle.std.proofs.lemmas.Result.{on_ok_weaker}
use Rattle.jsx_tree.proofs.Views.{ap_2}
use Rattle.jsx_names.specs.Events.{Frame}
use Rattle.jsx_heard.specs.Said.{Met, opens, closes}
use Rattle.jsx_heard.proofs.Hearing.{both_said}

-- two parts, and three, of what boxes hold
pub at_two : {A B : Type 0} (f : A → List Met) (g : B → List Met) {a c : A} {b d : B} → c ≡ a → d ≡ b → f a ++ g b ≡ f c ++ g d
at_two f g x y = ap_2 (λ a b. f a ++ g b) (sym x) (sym y)

pub at_three : {A B C : Type 0} (f : A → List Met) (g : B → List Met) (h : C → List Met) {a d : A} {b e : B} {c k : C} → d ≡ a → e ≡ b → k ≡ c → f a ++ (g b ++ h c) ≡ f d ++ (g e ++ h k)
at_three f g h x y z = ap_2 (λ a b. f a ++ b) (sym x) (at_two g h y z)

-- a call's clause for all values, at one
pub at_each : {T E A : Type 0} (P : A → Type 0) (r : Result T E) (a : A) → OnOk r ((x : A) → P x) → OnOk r (P a)
at_each {T} {E} {A} P r a k = on_ok_weaker {P = (x : A) → P x} {Q = P a} r (λ h. h a) k

pub at_both : {T E A B : Type 0} (P : A → B → Type 0) (r : Result T E) (a : A) (b : B) → OnOk r ((x : A) (y : B) → P x y) → OnOk r (P a b)
at_both {T} {E} {A} {B} P r a b k = on_ok_weaker {P = (x : A) (y : B) → P x y} {Q = P a b} r (λ h. h a b) k

-- what is in a scope, with its begin and its end
pub enclosed : (f : Frame) (old a b new xs : List Met) → a ≡ old ++ opens f ∷ [] → b ≡ a ++ xs → new ≡ b ++ closes ∷ [] → new ≡ old ++ opens f ∷ (xs ++ closes ∷ [])
enclosed f old a b new xs begin within end = both_said old b new (opens f ∷ xs) (closes ∷ []) (both_said old a b (opens f ∷ []) xs begin within) end
