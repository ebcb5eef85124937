-- What a call in its last place gives, behind calls before it; and what is written into a node in one place.
use Rattle.std.proofs.Common.{◌≡◌, Result, ap, sym, ◌∙◌}
use Rattle.std.specs.Prelude.{OnOk}
use Rattle.std.proofs.lemmas.Result.{on_ok_weaker}
use Rattle.jsx_tree.specs.Kinds.{Tree}

pub then_ok : {T E A : Type 0} (r : Result T E) (w v z : A) → (w ≡ v → w ≡ z) → OnOk r (w ≡ v) → OnOk r (w ≡ z)
then_ok r w v z done k = on_ok_weaker {P = w ≡ v} {Q = w ≡ z} r done k

pub two_ok : {T E : Type 0} (r : Result T E) (f g : Tree → Tree) (a b c z : Tree) → (g (f a) ≡ z) → b ≡ f a → OnOk r (c ≡ g b) → OnOk r (c ≡ z)
two_ok r f g a b c z done x k = then_ok r c (g b) z (λ e. e ∙ (ap g x ∙ done)) k

pub three_ok : {T E : Type 0} (r : Result T E) (f g h : Tree → Tree) (a b c d z : Tree) → h (g (f a)) ≡ z → b ≡ f a → c ≡ g b → OnOk r (d ≡ h c) → OnOk r (d ≡ z)
three_ok r f g h a b c d z done x y k = two_ok r (λ t. g (f t)) h a c d z done (y ∙ ap g x) k

pub four_ok : {T E : Type 0} (r : Result T E) (f g h i : Tree → Tree) (a b c d e z : Tree) → i (h (g (f a))) ≡ z → b ≡ f a → c ≡ g b → d ≡ h c → OnOk r (e ≡ i d) → OnOk r (e ≡ z)
four_ok r f g h i a b c d e z done x y v k = three_ok r (λ t. g (f t)) h i a c d e z done (y ∙ ap g x) v k

-- a node that is written in one place: there it holds `xs` before and `ys` after, seen by S; `make` is the node that is seen
pub arm : {T E A X Y : Type 0} (r : Result T E) (h : Y → Y) (G : Tree → Tree) (view : A → Tree) (S : X → Y) (variant : X → A) (make : Y → Tree)
    → ((x : X) → view (variant x) ≡ make (S x)) → (xs ys zs : X) → G (make (S xs)) ≡ make (h (S xs))
    → (old new : A) → old ≡ variant xs → zs ≡ xs → new ≡ variant ys → OnOk r (S ys ≡ h (S zs)) → OnOk r (view new ≡ G (view old))
arm r h G view S variant make sees xs ys zs goes old new is same written k =
    on_ok_weaker {P = S ys ≡ h (S zs)} {Q = view new ≡ G (view old)} r
    (λ e. ap view written ∙ (sees ys ∙ (ap make (e ∙ ap (λ z. h (S z)) same) ∙ (sym goes ∙ ap G (sym (sees xs) ∙ ap view (sym is)))))) k
