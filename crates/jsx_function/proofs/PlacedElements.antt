-- Where the members of a class stand, of which the place of their `static` is known, or the place of their first token.
use Rattle.std.proofs.Common.{◌≡◌, [], ◌∷◌, ◌++◌, ◌∙◌, ap, subst, Option, Some, None}
use Rattle.jsx_base.specs.declared.place.BytePos.{BytePos}
use Rattle.jsx_tree.specs.Signs.{Sign}
use Rattle.jsx_tree.specs.Kinds.{Holder, InClass, InObject, Static, Tree}
use Rattle.jsx_tree.specs.Spans.{Told}
use Rattle.jsx_token.specs.Here.{Here}
use Rattle.jsx_token.specs.Places.{Takes, next_of}
use Rattle.jsx_operand.specs.Spans.{IsPlaced}
use Rattle.jsx_function.specs.Methods.{IsPlacedElement, IsPlacedFrom, IsPlacedMember, begun_at, holder_words, took_more, took_none}

-- behind `get` or `set`
pub element_placed : {e : Told} {t : Tree} {x z y : Here} {s : Sign} {first lo : BytePos} (h : Holder) (start : Option BytePos) → Takes s x z → lo ≡ begun_at start first → first.0 ≡ next_of x → IsPlacedFrom (holder_words h ++ s ∷ []) lo.0 z e t y → IsPlacedElement h start x e t y
element_placed InObject None k l f r = record { own = λ s n. r.on _ (took_more k took_none) (ap (λ b. b.0) l ∙ f); behind = λ a s. cc }
element_placed InClass None k l f r = record { own = λ s n. r.on _ (took_more k took_none) (ap (λ b. b.0) l ∙ f); behind = λ a s. cc }
element_placed Static None k l f r = record { own = λ s. cc; behind = λ a s j b. absurd b }
element_placed InObject (Some p) k l f r = record { own = λ s n. cc; behind = λ a s. cc }
element_placed InClass (Some p) k l f r = record { own = λ s n. cc; behind = λ a s. cc }
element_placed Static (Some p) k l f r = record { own = λ s. cc; behind = λ a s j b. r.on a (took_more j (took_more k took_none)) (ap (λ q. q.0) l ∙ b) }

-- with its key first
pub keyed_element_placed : {d e : Told} {c t : Tree} {x z y : Here} {first lo : BytePos} (h : Holder) (start : Option BytePos) → lo ≡ begun_at start first → first.0 ≡ next_of x → IsPlaced d c x z → IsPlacedMember (holder_words h) lo.0 d c z e t y → IsPlacedElement h start x e t y
keyed_element_placed InObject None l f k r = record { own = λ s n. r.on _ _ took_none (ap (λ b. b.0) l ∙ f) k; behind = λ a s. cc }
keyed_element_placed InClass None l f k r = record { own = λ s n. r.on _ _ took_none (ap (λ b. b.0) l ∙ f) k; behind = λ a s. cc }
keyed_element_placed Static None l f k r = record { own = λ s. cc; behind = λ a s j b. absurd b }
keyed_element_placed InObject (Some p) l f k r = record { own = λ s n. cc; behind = λ a s. cc }
keyed_element_placed InClass (Some p) l f k r = record { own = λ s n. cc; behind = λ a s. cc }
keyed_element_placed Static (Some p) l f k r = record { own = λ s. cc; behind = λ a s j b. r.on a _ (took_more j took_none) (ap (λ q. q.0) l ∙ b) k }

pub element_placed_from : {h : Holder} {start : Option BytePos} {e : Told} {t : Tree} {x y z : Here} → x ≡ y → IsPlacedElement h start x e t z → IsPlacedElement h start y e t z
element_placed_from {h} {start} {e} {t} {z = z} q r = subst (λ p. IsPlacedElement h start p e t z) q r
