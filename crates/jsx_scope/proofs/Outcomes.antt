-- What a call in its last place gives, behind calls before it.
use Rattle.std.proofs.Common.{◌≡◌, Result, ap, ◌∙◌}
use Rattle.std.specs.Prelude.{OnOk}
use Rattle.std.proofs.lemmas.Result.{on_ok_weaker}
use Rattle.jsx_tree.specs.Kinds.{Tree}

pub then_ok : {T E A : Type 0} (r : Result T E) (w v z : A) → (w ≡ v → w ≡ z) → OnOk r (w ≡ v) → OnOk r (w ≡ z)
then_ok r w v z done k = on_ok_weaker {P = w ≡ v} {Q = w ≡ z} r done k

pub two_ok : {T E : Type 0} (r : Result T E) (f g : Tree → Tree) (a b c z : Tree) → (c ≡ g (f a) → c ≡ z) → b ≡ f a → OnOk r (c ≡ g b) → OnOk r (c ≡ z)
two_ok r f g a b c z done x k = then_ok r c (g b) z (λ e. done (e ∙ ap g x)) k

pub three_ok : {T E : Type 0} (r : Result T E) (f g h : Tree → Tree) (a b c d z : Tree) → (d ≡ h (g (f a)) → d ≡ z) → b ≡ f a → c ≡ g b → OnOk r (d ≡ h c) → OnOk r (d ≡ z)
three_ok r f g h a b c d z done x y k = two_ok r (λ t. g (f t)) h a c d z done (y ∙ ap g x) k

pub five_ok : {T E : Type 0} (r : Result T E) (f g h i j : Tree → Tree) (a b c d e s z : Tree) → (s ≡ j (i (h (g (f a)))) → s ≡ z) → b ≡ f a → c ≡ g b → d ≡ h c → e ≡ i d → OnOk r (s ≡ j e) → OnOk r (s ≡ z)
five_ok r f g h i j a b c d e s z done x y v w k = three_ok r (λ t. h (g (f t))) i j a d e s z done (v ∙ ap h (y ∙ ap g x)) w k

-- what is written into a node, as the node that it makes
pub as_made : {T E V : Type 0} (r : Result T E) (view : V → Tree) (v : V) (z : Tree) → OnOk r (view v ≡ z) → (u : V) → u ≡ v → OnOk r (view u ≡ z)
as_made r view v z k u e = on_ok_weaker {P = view v ≡ z} {Q = view u ≡ z} r (λ x. ap view e ∙ x) k
