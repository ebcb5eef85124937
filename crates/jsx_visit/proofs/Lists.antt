-- A loop that writes over a list in place, as the list is seen.
use Rattle.std.proofs.Common.{◌≡◌, ℕ, ◌+◌, ◌<◌, List, map, length, get_or, set, ap, sym, ◌∙◌, arith}
use Rattle.std.proofs.lemmas.List.{map-set, get_or-map, get_or_default, length-map}
use Rattle.jsx_base.proofs.Spans.{MappedTo, mapped_more}

-- one more element is written
pub seen_more : {A X : Type 0} (v : A → X) (f : X → X) (old new : List A) (i : ℕ) (x y : A) → i < length old → length new ≡ length old → MappedTo f i (map v old) (map v new) → x ≡ get_or new i x → v y ≡ f (v x) → MappedTo f (i + 1) (map v old) (map v (set new i y))
seen_more v f old new i x y within same mapped read is =
    map-set v new i y
    ∙ mapped_more f (map v old) (map v new) i (v x) (v y) (omega (arith, length-map old v)) mapped (ap v read ∙ sym (get_or-map v new i x (v x) (omega arith))) (sym is)

-- the same of an element that is read in place
pub seen_next : {A X : Type 0} (v : A → X) (f : X → X) (old new : List A) (i : ℕ) (d y : A) → i < length old → length new ≡ length old → MappedTo f i (map v old) (map v new) → v y ≡ f (v (get_or new i d)) → MappedTo f (i + 1) (map v old) (map v (set new i y))
seen_next v f old new i d y within same mapped is = seen_more v f old new i (get_or new i d) y within same mapped (get_or_default new i d (get_or new i d) (omega arith)) is
