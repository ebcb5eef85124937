-- The ends of a span in its file.
use Rattle.std.proofs.Common.{◌≡◌, ℕ, zero, suc, ◌<◌, ◌≤◌, Bool, true, false, cond, nat_le, ◌&&◌, List, [], ◌∷◌, length, get_or, nat_eq, Option, Some, None, IsTrue, refl, ap, sym, subst, ◌∙◌, arith}
use Rattle.std.specs.Prelude.{◌↔◌}
use Rattle.std.specs.Option.{option_map}
use Rattle.std.proofs.lemmas.Bool.Decides.{nat_tests}
use Rattle.jsx_base.specs.declared.place.Span.{Span}
use Rattle.jsx_base.specs.declared.source_file.SourceFile.{SourceFile}
use Rattle.jsx_base.specs.Files.{File, InOrder, Place, end_of, file_at, holds, place_at, place_in}
use Rattle.jsx_base.specs.SourceFile.{file_of}
use Rattle.jsx_base.specs.SpanPlaces.{also_with, high, low, span_file}
use Rattle.jsx_base.proofs.FileEnds.{also_held, not_held}
use Rattle.jsx_draw.specs.Spots.{held_in, is_dummy, primary_in, primary_place, ends_in}

-- ---- the file of a later place

same_some : {X : Type 0} (x y : X) → Some x ≡ Some y → x ≡ y
same_some x y e = cc

none_some : {X : Type 0} (x : X) → None ≡ Some x → ⊥
none_some x e = cc

in_order_tail : (file : File) (files : List File) → InOrder (file ∷ files) → InOrder files
in_order_tail file files ordered = λ i j d order within. ordered (suc i) (suc j) d (omega arith) (omega arith)

in_order_skip : (file next : File) (files : List File) → InOrder (file ∷ next ∷ files) → InOrder (file ∷ files)
in_order_skip file next files ordered = λ i j d order within. skipped i j d order within
  where
    skipped : (i j : ℕ) (d : File) → i < j → j < length (file ∷ files) → end_of (get_or (file ∷ files) i d) < (get_or (file ∷ files) j d).start
    skipped zero zero d order within = absurd (let no_order : ⊥ = omega arith in no_order)
    skipped zero (suc j) d order within = ordered 0 (suc (suc j)) d (omega arith) (omega arith)
    skipped (suc i) zero d order within = absurd (let no_order : ⊥ = omega arith in no_order)
    skipped (suc i) (suc j) d order within = ordered (suc (suc i)) (suc (suc j)) d (omega arith) (omega arith)

-- a file that is found later begins behind the first
later_start : (file : File) (files : List File) (pos : ℕ) (it : File) → InOrder (file ∷ files) → file_at files pos ≡ Some it → end_of file < it.start
later_start file [] pos it ordered found = absurd (none_some it found)
later_start file (next ∷ files) pos it ordered found = at (holds pos next) found (λ is. later_start file files pos it (in_order_skip file next files ordered) is)
  where
    at : (here : Bool) → cond here (Some next) (file_at files pos) ≡ Some it → (file_at files pos ≡ Some it → end_of file < it.start) → end_of file < it.start
    at true is later = subst (λ z. end_of file < z.start) (same_some next it is) (ordered 0 1 next (omega arith) (omega arith))
    at false is later = later is

held_not : (start end pos first : ℕ) → end < first → first ≤ pos → (nat_le start pos && nat_le pos end) ≡ false
held_not start end pos first less order = grind (arith, nat_tests, less, order)

from_start : (start end pos : ℕ) → (nat_le start pos && nat_le pos end) ≡ true → start ≤ pos
from_start start end pos here = grind (arith, nat_tests, here)

-- a file that holds a place is the one that is found for it
pub second_place : (files : List File) (pos later : ℕ) (it : File) → InOrder files → file_at files pos ≡ Some it → holds later it ≡ true → file_at files later ≡ Some it
second_place [] pos later it ordered found here = absurd (none_some it found)
second_place (file ∷ files) pos later it ordered found here = at (holds pos file) found (λ is. second_place files pos later it (in_order_tail file files ordered) is here)
  where
    at : (is : Bool) → cond is (Some file) (file_at files pos) ≡ Some it → (file_at files pos ≡ Some it → file_at files later ≡ Some it) → cond (holds later file) (Some file) (file_at files later) ≡ Some it
    at true is next = ap (λ b. cond b (Some file) (file_at files later)) (subst (λ z. holds later z ≡ true) (sym (same_some file it is)) here) ∙ is
    at false is next =
        let order = later_start file files pos it ordered is in
        let begin = from_start it.start (end_of it) later here in
        ap (λ b. cond b (Some file) (file_at files later)) (held_not file.start (end_of file) later it.start order begin)
        ∙ next is

-- what a search for a place says
found_in : (o : Option File) (pos : ℕ) (place : Place) → Some place ≡ option_map (place_in pos) o → (o ≡ Some place.file) × (place ≡ place_in pos place.file)
found_in None pos place e = absurd (none_some place (sym e))
found_in (Some file) pos place e =
    let same : place ≡ place_in pos file = same_some place (place_in pos file) e in
    let it : place.file ≡ file = ap (λ z. z.file) same in
    (ap Some (sym it), same ∙ ap (place_in pos) (sym it))

lost_in : (o : Option File) (pos : ℕ) → None ≡ option_map (place_in pos) o → o ≡ None
lost_in None pos e = refl
lost_in (Some file) pos e = absurd (none_some (place_in pos file) e)

first_is : (a b : ℕ) → (nat_eq a 0 && nat_eq b 0) ≡ true → a ≡ 0
first_is a b e = grind (arith, nat_tests, e)

second_is : (a b : ℕ) → (nat_eq a 0 && nat_eq b 0) ≡ true → b ≡ 0
second_is a b e = grind (arith, nat_tests, e)

both_zero : (a b : ℕ) → a ≡ 0 → b ≡ 0 → (nat_eq a 0 && nat_eq b 0) ≡ true
both_zero a b one two = grind (arith, nat_tests, one, two)

-- whether a span is a dummy
dummy_so : (sp : Span) (r : Bool) → IsTrue r ↔ ((sp.lo.0 ≡ 0) × (sp.hi.0 ≡ 0)) → is_dummy sp ≡ r
dummy_so sp true h = let zero = h.0 refl in both_zero sp.lo.0 sp.hi.0 zero.0 zero.1
dummy_so sp false h = at (is_dummy sp) refl
  where
    at : (b : Bool) → is_dummy sp ≡ b → b ≡ false
    at true e = sym (h.1 (first_is sp.lo.0 sp.hi.0 e, second_is sp.lo.0 sp.hi.0 e))
    at false e = refl

pub ends_of_dummy : (files : List File) (sp : Span) (r : Bool) → IsTrue r ↔ ((sp.lo.0 ≡ 0) × (sp.hi.0 ≡ 0)) → r ≡ true → None ≡ option_map (ends_in sp) (held_in files sp)
ends_of_dummy files sp r h is = ap (λ b. option_map (ends_in sp) (cond b None (span_file files sp))) (sym (dummy_so sp r h ∙ is))

held_so : (files : List File) (sp : Span) (r : Bool) → IsTrue r ↔ ((sp.lo.0 ≡ 0) × (sp.hi.0 ≡ 0)) → r ≡ false → span_file files sp ≡ held_in files sp
held_so files sp r h is = ap (λ b. cond b None (span_file files sp)) (sym (dummy_so sp r h ∙ is))

-- it begins outside all files
pub no_first : (files : List File) (sp : Span) (r : Bool) → IsTrue r ↔ ((sp.lo.0 ≡ 0) × (sp.hi.0 ≡ 0)) → r ≡ false → None ≡ place_at files (low sp) → None ≡ option_map (ends_in sp) (held_in files sp)
no_first files sp r h is lost = ap (λ o. option_map (ends_in sp) (also_with (high sp) o)) (sym (lost_in (file_at files (low sp)) (low sp) lost)) ∙ ap (option_map (ends_in sp)) (held_so files sp r h is)

-- it ends behind its file
pub ends_later : (files : List File) (sp : Span) (r : Bool) (it : SourceFile) (place : Place) → IsTrue r ↔ ((sp.lo.0 ≡ 0) × (sp.hi.0 ≡ 0)) → r ≡ false → place.file ≡ file_of it → Some place ≡ place_at files (low sp) → it.end_pos.0 < high sp → None ≡ option_map (ends_in sp) (held_in files sp)
ends_later files sp r it place h is same found outside =
    let at = (found_in (file_at files (low sp)) (low sp) place found).0 ∙ ap Some same in
    ap (option_map (ends_in sp)) (not_held files (low sp) (high sp) it at outside ∙ held_so files sp r h is)

holds_also : (files : List File) (pos later : ℕ) (it : File) → file_at files pos ≡ Some it → Some it ≡ also_with later (file_at files pos) → holds later it ≡ true
holds_also files pos later it at held = decide (holds later it) (held ∙ ap (also_with later) at)
  where
    decide : (b : Bool) → Some it ≡ cond b (Some it) None → b ≡ true
    decide true e = refl
    decide false e = absurd (none_some it (sym e))

low_high : (sp : Span) → low sp ≤ high sp
low_high sp = omega arith

-- both ends are in its file
pub both_ends : (files : List File) (sp : Span) (r : Bool) (it : SourceFile) (first last : Place) → InOrder files → IsTrue r ↔ ((sp.lo.0 ≡ 0) × (sp.hi.0 ≡ 0)) → r ≡ false → first.file ≡ file_of it → Some first ≡ place_at files (low sp) → high sp ≤ it.end_pos.0 → Some last ≡ place_at files (high sp) → Some (first, last) ≡ option_map (ends_in sp) (held_in files sp)
both_ends files sp r it first last ordered h is same found inside second =
    let here = found_in (file_at files (low sp)) (low sp) first found in
    let at : file_at files (low sp) ≡ Some (file_of it) = here.0 ∙ ap Some same in
    let held : Some (file_of it) ≡ span_file files sp = also_held files (low sp) (high sp) it at (low_high sp) inside in
    let there = found_in (file_at files (high sp)) (high sp) last second in
    let later : file_at files (high sp) ≡ Some (file_of it) = second_place files (low sp) (high sp) (file_of it) ordered at (holds_also files (low sp) (high sp) (file_of it) at held) in
    let one : first ≡ place_in (low sp) (file_of it) = here.1 ∙ ap (place_in (low sp)) same in
    let two : last ≡ place_in (high sp) (file_of it) = there.1 ∙ ap (place_in (high sp)) (same_some last.file (file_of it) (sym there.0 ∙ later)) in
    ap Some (ap (λ z. (z, last)) one ∙ ap (λ z. (place_in (low sp) (file_of it), z)) two) ∙ ap (option_map (ends_in sp)) (held ∙ held_so files sp r h is)

-- a place in its file is in some file
pub no_second : (files : List File) (sp : Span) (it : SourceFile) (first : Place) → InOrder files → first.file ≡ file_of it → Some first ≡ place_at files (low sp) → high sp ≤ it.end_pos.0 → None ≡ place_at files (high sp) → ⊥
no_second files sp it first ordered same found inside lost =
    let here = found_in (file_at files (low sp)) (low sp) first found in
    let at : file_at files (low sp) ≡ Some (file_of it) = here.0 ∙ ap Some same in
    let held = also_held files (low sp) (high sp) it at (low_high sp) inside in
    let later = second_place files (low sp) (high sp) (file_of it) ordered at (holds_also files (low sp) (high sp) (file_of it) at held) in
    none_some (file_of it) (sym (lost_in (file_at files (high sp)) (high sp) lost) ∙ later)

-- the place of a report
pub first_end : (files : List File) (sp : Span) (more : List Span) (r : Option (Place × Place)) → r ≡ option_map (ends_in sp) (held_in files sp) → option_map (λ it. it.0) r ≡ primary_place files (sp ∷ more)
first_end files sp more r is = ap (option_map (λ it. it.0)) is ∙ at (held_in files sp)
  where
    at : (o : Option File) → option_map (λ it. it.0) (option_map (ends_in sp) o) ≡ primary_in o sp
    at None = refl
    at (Some file) = refl
