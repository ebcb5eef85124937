-- A cover turns into one pattern, and a pattern that assigns to names alone binds in one way.
use Rattle.std.proofs.Common.{◌≡◌, true, refl, ap}
use Rattle.jsx_base.specs.Token.{Text, IdentifierName, Elision}
use Rattle.jsx_tree.specs.Kinds.{Spread, Assign, Assigns, Binds, ArrayPat, ObjectPat, PropertyPat, ShorthandPat, ShorthandInit, WithInit, RestPat, RestProperty, expression, function, Tree, leaf, node, list, Forest, none, part}
use Rattle.jsx_tree.proofs.Tokens.{and_both}
use Rattle.jsx_operand.specs.Turning.{Turns, turn_target, turn_array, turn_object, TurnsElement, turn_plain, turn_filled, TurnsSlots, slots_none, slot_hole, slot, slot_rest, TurnsParts, parts_none, part_pair, part_short, part_preset, part_rest, Suits, suits_name, suits_hole, suits_array, suits_object, suits_filled, suits_rest, suits_pair, suits_short, suits_preset, suits_others, SuitsAll, suits_none, suits_more, binding, bindings}

-- ---- what is no target turns into nothing

no_assign : {cs : Forest} {q : Tree} → Turns (node (expression Assign) cs) q → ⊥
no_assign (turn_target e) = cc

no_spread : {cs : Forest} {q : Tree} → Turns (node (expression Spread) cs) q → ⊥
no_spread (turn_target e) = cc

no_hole : {t : Text} {q : Tree} → Turns (leaf Elision t) q → ⊥
no_hole (turn_target e) = cc

-- ---- a cover turns in one way

mutual
  pub turns_once : {t p q : Tree} → Turns t p → Turns t q → p ≡ q
  turns_once (turn_target e) (turn_target f) = refl
  turns_once (turn_target e) (turn_array m) = cc
  turns_once (turn_target e) (turn_object m) = cc
  turns_once (turn_array l) (turn_target f) = cc
  turns_once (turn_array l) (turn_array m) = ap (λ us. node (function (ArrayPat Assigns)) (part (list us) none)) (slots_once l m)
  turns_once (turn_object l) (turn_target f) = cc
  turns_once (turn_object l) (turn_object m) = ap (λ us. node (function (ObjectPat Assigns)) (part (list us) none)) (parts_once l m)

  pub element_once : {t p q : Tree} → TurnsElement t p → TurnsElement t q → p ≡ q
  element_once (turn_plain d) (turn_plain e) = turns_once d e
  element_once (turn_plain d) turn_filled = absurd (no_assign d)
  element_once turn_filled (turn_plain e) = absurd (no_assign e)
  element_once turn_filled turn_filled = refl

  pub slots_once : {ts us ws : Forest} → TurnsSlots ts us → TurnsSlots ts ws → us ≡ ws
  slots_once slots_none slots_none = refl
  slots_once (slot_hole {t = t} l) (slot_hole m) = ap (part (leaf Elision t)) (slots_once l m)
  slots_once (slot_hole l) (slot (turn_plain d) m) = absurd (no_hole d)
  slots_once (slot (turn_plain d) l) (slot_hole m) = absurd (no_hole d)
  slots_once (slot i l) (slot j m) = λ k. part (element_once i j k) (slots_once l m k)
  slots_once (slot (turn_plain d) l) (slot_rest e m) = absurd (no_spread d)
  slots_once (slot_rest e l) (slot (turn_plain d) m) = absurd (no_spread d)
  slots_once (slot_rest d l) (slot_rest e m) = λ k. part (node (function (RestPat Assigns)) (part (turns_once d e k) none)) (slots_once l m k)

  pub parts_once : {ts us ws : Forest} → TurnsParts ts us → TurnsParts ts ws → us ≡ ws
  parts_once parts_none parts_none = refl
  parts_once (part_pair {k = n} i l) (part_pair j m) = λ k. part (node (function (PropertyPat Assigns)) (part n (part (element_once i j k) none))) (parts_once l m k)
  parts_once (part_short {n = n} e l) (part_short f m) = ap (part (node (function (ShorthandPat Assigns)) (part (leaf IdentifierName n) none))) (parts_once l m)
  parts_once (part_preset {n = n} {e = e} l) (part_preset m) = ap (part (node (function (ShorthandInit Assigns)) (part (leaf IdentifierName n) (part e none)))) (parts_once l m)
  parts_once (part_rest {n = n} e l) (part_rest f m) = ap (part (node (function (RestProperty Assigns)) (part (leaf IdentifierName n) none))) (parts_once l m)

-- ---- a pattern binds in one way, and where it does, the test says so

mutual
  pub suits_once : {p q u : Tree} → Suits p q → Suits p u → q ≡ u
  suits_once suits_name suits_name = refl
  suits_once suits_hole suits_hole = refl
  suits_once (suits_array l) (suits_array m) = ap (λ us. node (function (ArrayPat Binds)) (part (list us) none)) (all_once l m)
  suits_once (suits_object l) (suits_object m) = ap (λ us. node (function (ObjectPat Binds)) (part (list us) none)) (all_once l m)
  suits_once (suits_filled {e = e} s) (suits_filled t) = ap (λ q. node (function (WithInit Binds)) (part q (part e none))) (suits_once s t)
  suits_once (suits_rest s) (suits_rest t) = ap (λ q. node (function (RestPat Binds)) (part q none)) (suits_once s t)
  suits_once (suits_pair {k = k} s) (suits_pair t) = ap (λ q. node (function (PropertyPat Binds)) (part k (part q none))) (suits_once s t)
  suits_once suits_short suits_short = refl
  suits_once suits_preset suits_preset = refl
  suits_once suits_others suits_others = refl

  pub all_once : {ts us ws : Forest} → SuitsAll ts us → SuitsAll ts ws → us ≡ ws
  all_once suits_none suits_none = refl
  all_once (suits_more s l) (suits_more t m) = λ k. part (suits_once s t k) (all_once l m k)

mutual
  pub suits_binds : {p q : Tree} → Suits p q → binding p ≡ true
  suits_binds suits_name = refl
  suits_binds suits_hole = refl
  suits_binds (suits_array {ts = ts} l) = and_both (bindings ts) true (all_binds l) refl
  suits_binds (suits_object {ts = ts} l) = and_both (bindings ts) true (all_binds l) refl
  suits_binds (suits_filled s) = suits_binds s
  suits_binds (suits_rest s) = suits_binds s
  suits_binds (suits_pair s) = suits_binds s
  suits_binds suits_short = refl
  suits_binds suits_preset = refl
  suits_binds suits_others = refl

  pub all_binds : {ts us : Forest} → SuitsAll ts us → bindings ts ≡ true
  all_binds suits_none = refl
  all_binds (suits_more {t = t} {ts = ts} s l) = and_both (binding t) (bindings ts) (suits_binds s) (all_binds l)
