-- A cover and the pattern that it turns into have the same tokens: where the pattern is read, the cover's signs lead to the same place. The pattern has a guard more behind each rest.
use Rattle.std.proofs.Common.{◌≡◌, Bool, true, false, List, [], ◌∷◌, ◌++◌, refl, sym, ◌∙◌, ap, subst}
use Rattle.std.specs.Prelude.{IsTrue, not}
use Rattle.jsx_base.specs.Token.{Text, Operator, among, token}
use Rattle.jsx_tree.specs.Signs.{Sign, Unless}
use Rattle.jsx_tree.specs.Kinds.{InObject, Field, Array, Object, Property, Spread, Assigns, WithInit, expression, function, Tree, leaf, node, list, Forest, none, part}
use Rattle.jsx_tree.specs.Grammar.{Commas, Elisions}
use Rattle.jsx_tree.specs.Spelling.{each_said, gathered, spelled}
use Rattle.jsx_tree.specs.Grows.{as_target}
use Rattle.jsx_tree.specs.Reading.{Place, Lost, At, forth, go_if, scan}
use Rattle.jsx_tree.specs.Walk.{is_found}
use Rattle.jsx_tree.proofs.Rows.Bridge.{found_first}
use Rattle.jsx_tree.proofs.Rows.Targets.{spelled_target}
use Rattle.jsx_operand.specs.Climbing.{is_target}
use Rattle.jsx_operand.specs.Turning.{Turns, turn_target, turn_array, turn_object, TurnsElement, turn_plain, turn_filled, TurnsSlots, slots_none, slot_hole, slot, slot_rest, TurnsParts, parts_none, part_pair, part_short, part_preset, part_rest, shown, shown_each}

-- ---- lists of signs of which the first has guards more

pub data Guarded : List Sign → List Sign → Type 0 where
  ended : Guarded [] []
  same : {m : Sign} {ms ns : List Sign} → Guarded ms ns → Guarded (m ∷ ms) (m ∷ ns)
  guard : {ts : List Text} {ms ns : List Sign} → Guarded ms ns → Guarded (Unless ts ∷ ms) ns

pub guarded_refl : (ms : List Sign) → Guarded ms ms
guarded_refl [] = ended
guarded_refl (m ∷ ms) = same (guarded_refl ms)

pub guarded_append : {ms ns ps qs : List Sign} → Guarded ms ns → Guarded ps qs → Guarded (ms ++ ps) (ns ++ qs)
guarded_append ended h = h
guarded_append (same g) h = same (guarded_append g h)
guarded_append (guard g) h = guard (guarded_append g h)

-- a guard that holds leaves the place as it is
if_found : (b : Bool) (x : Place) → IsTrue (is_found (go_if b x)) → go_if b x ≡ x
if_found true x f = refl
if_found false x f = cc

pub guard_stays : (ts : List Text) (x : Place) → IsTrue (is_found (forth (Unless ts) x)) → forth (Unless ts) x ≡ x
guard_stays ts Lost f = cc
guard_stays ts (At q e text) f = if_found (not (among (token Operator false text).raw ts)) (At q e text) f

pub guarded_scan : {ms ns : List Sign} (x : Place) → Guarded ms ns → IsTrue (is_found (scan x ms)) → scan x ns ≡ scan x ms
guarded_scan x ended f = refl
guarded_scan x (same {m = m} g) f = guarded_scan (forth m x) g f
guarded_scan x (guard {ts = ts} {ms = ms} g) f =
    let e = guard_stays ts x (found_first ms (forth (Unless ts) x) f) in
    guarded_scan x g (subst (λ p. IsTrue (is_found (scan p ms))) e f) ∙ sym (ap (λ p. scan p ms) e)

-- ---- trees one behind another: none of them is without signs but where the other is

pub data Twins : List Sign → List Sign → Type 0 where
  no_signs : Twins [] []
  signs : {m : Sign} {ms ns : List Sign} → Guarded ms ns → Twins (m ∷ ms) (m ∷ ns)

pub twins_guarded : {ms ns : List Sign} → Twins ms ns → Guarded ms ns
twins_guarded no_signs = ended
twins_guarded (signs g) = same g

pub twins_refl : (ms : List Sign) → Twins ms ms
twins_refl [] = no_signs
twins_refl (m ∷ ms) = signs (guarded_refl ms)

pub data AllTwins : List (List Sign) → List (List Sign) → Type 0 where
  no_trees : AllTwins [] []
  trees : {x y : List Sign} {xs ys : List (List Sign)} → Twins x y → AllTwins xs ys → AllTwins (x ∷ xs) (y ∷ ys)

pub gathered_slots : {xs ys : List (List Sign)} → AllTwins xs ys → Guarded (gathered Elisions xs) (gathered Elisions ys)
gathered_slots no_trees = ended
gathered_slots (trees no_signs no_trees) = same ended
gathered_slots (trees (signs g) no_trees) = same (guarded_append g (same ended))
gathered_slots (trees t (trees u l)) = guarded_append (twins_guarded t) (same (same (gathered_slots (trees u l))))

pub gathered_parts : {xs ys : List (List Sign)} → AllTwins xs ys → Guarded (gathered Commas xs) (gathered Commas ys)
gathered_parts no_trees = ended
gathered_parts (trees t no_trees) = guarded_append (twins_guarded t) (same ended)
gathered_parts (trees t (trees u l)) = guarded_append (twins_guarded t) (same (same (gathered_parts (trees u l))))

-- ---- a cover, with its defaults of names as a pattern has them

target_shown : (t : Tree) → is_target t ≡ true → shown t ≡ t
target_shown (leaf s t) e = refl
target_shown (list ts) e = cc
target_shown (node (expression Array) cs) e = cc
target_shown (node (expression Object) cs) e = cc
target_shown (node (expression Spread) cs) e = cc
target_shown (node (expression Property) cs) e = cc
target_shown (node (function (Field InObject)) cs) e = cc
target_shown (node _ cs) e = refl

target_twins : (t : Tree) → is_target t ≡ true → Twins (spelled (as_target t)) (spelled (shown t))
target_twins t e = subst (λ ms. Twins (spelled (as_target t)) ms) (spelled_target t ∙ ap spelled (sym (target_shown t e))) (twins_refl (spelled (as_target t)))

mutual
  pub turned_twins : {c p : Tree} → Turns c p → Twins (spelled p) (spelled (shown c))
  turned_twins (turn_target {t = t} e) = target_twins t e
  turned_twins (turn_array l) = signs (same (same (guarded_append (gathered_slots (slots_twins l)) (guarded_refl _))))
  turned_twins (turn_object l) = signs (same (same (same (guarded_append (gathered_parts (parts_twins l)) (guarded_refl _)))))

  pub element_twins : {c p : Tree} → TurnsElement c p → Twins (spelled p) (spelled (shown c))
  element_twins (turn_plain d) = turned_twins d
  element_twins (turn_filled {p = p} {e = e}) = twins_refl (spelled (node (function (WithInit Assigns)) (part p (part e none))))

  pub slots_twins : {cs ps : Forest} → TurnsSlots cs ps → AllTwins (each_said ps) (each_said (shown_each cs))
  slots_twins slots_none = no_trees
  slots_twins (slot_hole l) = trees no_signs (slots_twins l)
  slots_twins (slot i l) = trees (element_twins i) (slots_twins l)
  slots_twins (slot_rest d l) = trees (signs (same (guarded_append (twins_guarded (turned_twins d)) (guard (same ended))))) (slots_twins l)

  pub parts_twins : {cs ps : Forest} → TurnsParts cs ps → AllTwins (each_said ps) (each_said (shown_each cs))
  parts_twins parts_none = no_trees
  parts_twins (part_pair {k = k} i l) = trees (signs (same (guarded_append (guarded_refl (spelled k)) (same (same (guarded_append (twins_guarded (element_twins i)) (guarded_refl _))))))) (parts_twins l)
  parts_twins (part_short e l) = trees (twins_refl _) (parts_twins l)
  parts_twins (part_preset l) = trees (twins_refl _) (parts_twins l)
  parts_twins (part_rest e l) = trees (signs (same (same (same (guard (same ended)))))) (parts_twins l)

-- ---- the law: where the pattern's signs are read, the cover's lead to the same place

pub turned_scans : {c p : Tree} (x : Place) → Turns c p → IsTrue (is_found (scan x (spelled p))) → scan x (spelled (shown c)) ≡ scan x (spelled p)
turned_scans x d f = guarded_scan x (twins_guarded (turned_twins d)) f

pub element_scans : {c p : Tree} (x : Place) → TurnsElement c p → IsTrue (is_found (scan x (spelled p))) → scan x (spelled (shown c)) ≡ scan x (spelled p)
element_scans x d f = guarded_scan x (twins_guarded (element_twins d)) f
