-- Texts of which each stands for its item.
use Rattle.std.proofs.Common.{◌≡◌, ℕ, ◌+◌, ◌<◌, List, [], ◌∷◌, ◌++◌, map, take, length, get_or, refl, ap, sym, subst, ◌∙◌, append_assoc, append-nil}
use Rattle.jsx_diag.specs.Data.{Text}
use Rattle.jsx_emit.specs.Shows.{Each}
use Rattle.jsx_draw.proofs.Orders.{take_next}

pub each_more : {X : Type 0} (P : X → Text → Type 0) (xs : List X) (x : X) (text part : Text) → Each P xs text → P x part → Each P (xs ++ x ∷ []) (text ++ part)
each_more P [] x text part is stands = (part, [], ap (λ z. z ++ part) is ∙ sym (append-nil part), stands, refl)
each_more P (y ∷ ys) x text part it stands =
    (it.0, it.1 ++ part, ap (λ z. z ++ part) it.2 ∙ append_assoc it.0 it.1 part, it.3, each_more P ys x it.1 part it.4 stands)

-- one item more of those that a loop has gone over
pub each_next : {X Y : Type 0} (P : Y → Text → Type 0) (f : X → Y) (xs : List X) (i : ℕ) (x : X) (text part new : Text) → i < length xs → x ≡ get_or xs i x → Each P (take i (map f xs)) text → P (f x) part → new ≡ text ++ part → Each P (take (i + 1) (map f xs)) new
each_next P f xs i x text part new within at before stands is =
    subst (λ (t : Text). Each P (take (i + 1) (map f xs)) t) (sym is)
    (subst (λ ys. Each P ys (text ++ part)) (sym (take_next f xs i x within at)) (each_more P (take i (map f xs)) (f x) text part before stands))
