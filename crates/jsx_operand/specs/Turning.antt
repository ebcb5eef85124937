-- Covers, and the patterns that they turn into: an array or an object, and the pattern of the same tokens (ECMA-262 sections 13.2.5, 13.15.5 and 15.3).
use Rattle.std.specs.Prelude.{◌≡◌, ◌∷◌, Bool, true, false, ◌&&◌}
use Rattle.jsx_base.specs.Token.{Text, IdentifierName, Elision}
use Rattle.jsx_tree.specs.Kinds.{InObject, Field, Array, Object, Property, Shorthand, Spread, Assign, Assigns, Binds, ArrayPat, ObjectPat, PropertyPat, ShorthandPat, ShorthandInit, WithInit, RestPat, RestProperty, expression, function, Tree, leaf, node, list, Forest, none, part}
use Rattle.jsx_tree.specs.Nonterminals.{is_bound}
use Rattle.jsx_tree.specs.Grows.{as_target}
use Rattle.jsx_tree.specs.Spans.{Told, Tales, no_tales, spans, tale, tells}
use Rattle.jsx_operand.specs.Climbing.{is_target}

-- an array or an object, in no parentheses
abbrev pub is_literal : Tree → Bool
is_literal (node (expression Array) ts) = true
is_literal (node (expression Object) ts) = true
is_literal t = false

abbrev pub is_array : Tree → Bool
is_array (node (expression Array) ts) = true
is_array t = false

abbrev pub is_object : Tree → Bool
is_object (node (expression Object) ts) = true
is_object t = false

abbrev pub is_spread : Tree → Bool
is_spread (node (expression Spread) ts) = true
is_spread t = false

abbrev pub is_elision : Tree → Bool
is_elision (leaf Elision t) = true
is_elision t = false

-- an assignment, what is assigned, and the same assignment with another target
abbrev pub is_assign : Tree → Bool
is_assign (node (expression Assign) ts) = true
is_assign t = false

abbrev pub assigned : Tree → Forest
assigned (node (expression Assign) (part p ts)) = ts
assigned t = none

pub record IsAssignOf (p t u : Tree) : Type 0 where
  pub is : t ≡ node (expression Assign) (part p (assigned t))
  pub still : is_assign u ≡ true
  pub same : assigned u ≡ assigned t

abbrev pub is_bound_name : Tree → Bool
is_bound_name (leaf IdentifierName t) = is_bound t
is_bound_name t = false

-- `a = b` in an object, which no literal has: as a member of an object its kind is at home nowhere
abbrev pub preset : Text → Tree → Tree
preset n e = node (function (Field InObject)) (part (leaf IdentifierName n) (part (list (part e none)) none))

-- ---- what a cover turns into where it is assigned to

mutual
  -- a target, or an array or an object as a pattern
  pub data Turns : Tree → Tree → Type 0 where
    turn_target : {t : Tree} → is_target t ≡ true → Turns t (as_target t)
    turn_array : {ts us : Forest} → TurnsSlots ts us → Turns (node (expression Array) (part (list ts) none)) (node (function (ArrayPat Assigns)) (part (list us) none))
    turn_object : {ts us : Forest} → TurnsParts ts us → Turns (node (expression Object) (part (list ts) none)) (node (function (ObjectPat Assigns)) (part (list us) none))

  -- with a default, or without one; what was read as an assignment has its pattern already
  pub data TurnsElement : Tree → Tree → Type 0 where
    turn_plain : {t u : Tree} → Turns t u → TurnsElement t u
    turn_filled : {p e : Tree} → TurnsElement (node (expression Assign) (part p (part e none))) (node (function (WithInit Assigns)) (part p (part e none)))

  -- what stands in an array; that a rest stands last is told by what was read behind it
  pub data TurnsSlots : Forest → Forest → Type 0 where
    slots_none : TurnsSlots none none
    slot_hole : {t : Text} {ts us : Forest} → TurnsSlots ts us → TurnsSlots (part (leaf Elision t) ts) (part (leaf Elision t) us)
    slot : {t u : Tree} {ts us : Forest} → TurnsElement t u → TurnsSlots ts us → TurnsSlots (part t ts) (part u us)
    slot_rest : {t u : Tree} {ts us : Forest} → Turns t u → TurnsSlots ts us → TurnsSlots (part (node (expression Spread) (part t none)) ts) (part (node (function (RestPat Assigns)) (part u none)) us)

  -- what stands in an object
  pub data TurnsParts : Forest → Forest → Type 0 where
    parts_none : TurnsParts none none
    part_pair : {k t u : Tree} {ts us : Forest} → TurnsElement t u → TurnsParts ts us → TurnsParts (part (node (expression Property) (part k (part t none))) ts) (part (node (function (PropertyPat Assigns)) (part k (part u none))) us)
    part_short : {n : Text} {ts us : Forest} → is_bound n ≡ true → TurnsParts ts us → TurnsParts (part (node (expression Shorthand) (part (leaf IdentifierName n) none)) ts) (part (node (function (ShorthandPat Assigns)) (part (leaf IdentifierName n) none)) us)
    part_preset : {n : Text} {e : Tree} {ts us : Forest} → TurnsParts ts us → TurnsParts (part (preset n e) ts) (part (node (function (ShorthandInit Assigns)) (part (leaf IdentifierName n) (part e none))) us)
    part_rest : {n : Text} {ts us : Forest} → is_bound n ≡ true → TurnsParts ts us → TurnsParts (part (node (expression Spread) (part (leaf IdentifierName n) none)) ts) (part (node (function (RestProperty Assigns)) (part (leaf IdentifierName n) none)) us)

-- ---- a pattern that assigns to names alone, and the one of the same tokens that binds them

mutual
  pub data Suits : Tree → Tree → Type 0 where
    suits_name : {n : Text} → Suits (leaf IdentifierName n) (leaf IdentifierName n)
    suits_hole : {t : Text} → Suits (leaf Elision t) (leaf Elision t)
    suits_array : {ts us : Forest} → SuitsAll ts us → Suits (node (function (ArrayPat Assigns)) (part (list ts) none)) (node (function (ArrayPat Binds)) (part (list us) none))
    suits_object : {ts us : Forest} → SuitsAll ts us → Suits (node (function (ObjectPat Assigns)) (part (list ts) none)) (node (function (ObjectPat Binds)) (part (list us) none))
    suits_filled : {p q e : Tree} → Suits p q → Suits (node (function (WithInit Assigns)) (part p (part e none))) (node (function (WithInit Binds)) (part q (part e none)))
    suits_rest : {p q : Tree} → Suits p q → Suits (node (function (RestPat Assigns)) (part p none)) (node (function (RestPat Binds)) (part q none))
    suits_pair : {k p q : Tree} → Suits p q → Suits (node (function (PropertyPat Assigns)) (part k (part p none))) (node (function (PropertyPat Binds)) (part k (part q none)))
    suits_short : {n : Tree} → Suits (node (function (ShorthandPat Assigns)) (part n none)) (node (function (ShorthandPat Binds)) (part n none))
    suits_preset : {n e : Tree} → Suits (node (function (ShorthandInit Assigns)) (part n (part e none))) (node (function (ShorthandInit Binds)) (part n (part e none)))
    suits_others : {n : Tree} → Suits (node (function (RestProperty Assigns)) (part n none)) (node (function (RestProperty Binds)) (part n none))

  pub data SuitsAll : Forest → Forest → Type 0 where
    suits_none : SuitsAll none none
    suits_more : {t u : Tree} {ts us : Forest} → Suits t u → SuitsAll ts us → SuitsAll (part t ts) (part u us)

-- the same as a test of the pattern that assigns
abbrev mutual
  pub binding : Tree → Bool
  binding (leaf IdentifierName n) = true
  binding (leaf Elision t) = true
  binding (leaf s t) = false
  binding (node (function (ArrayPat r)) cs) = bindings cs
  binding (node (function (ObjectPat r)) cs) = bindings cs
  binding (node (function (WithInit r)) cs) = first_binds cs
  binding (node (function (RestPat r)) cs) = first_binds cs
  binding (node (function (PropertyPat r)) cs) = second_binds cs
  binding (node (function (ShorthandPat r)) cs) = true
  binding (node (function (ShorthandInit r)) cs) = true
  binding (node (function (RestProperty r)) cs) = true
  binding (node k cs) = false
  binding (list ts) = bindings ts

  pub bindings : Forest → Bool
  bindings none = true
  bindings (part t ts) = binding t && bindings ts

  pub first_binds : Forest → Bool
  first_binds none = false
  first_binds (part t ts) = binding t

  pub second_binds : Forest → Bool
  second_binds (part t (part u us)) = binding u
  second_binds ts = false

-- a pattern in brackets
abbrev pub is_bracketed : Tree → Bool
is_bracketed (node (function (ArrayPat r)) ts) = true
is_bracketed (node (function (ObjectPat r)) ts) = true
is_bracketed t = false

-- a cover, with its defaults of names as a pattern has them, which have the same tokens: what its signs are
abbrev mutual
  pub shown : Tree → Tree
  shown (node (expression Array) (part (list ts) none)) = node (expression Array) (part (list (shown_each ts)) none)
  shown (node (expression Object) (part (list ts) none)) = node (expression Object) (part (list (shown_each ts)) none)
  shown (node (expression Spread) (part t none)) = node (expression Spread) (part (shown t) none)
  shown (node (expression Property) (part k (part t none))) = node (expression Property) (part k (part (shown t) none))
  shown (node (function (Field InObject)) (part n (part (list (part e none)) none))) = node (function (ShorthandInit Assigns)) (part n (part e none))
  shown t = t

  pub shown_each : Forest → Forest
  shown_each none = none
  shown_each (part t ts) = part (shown t) (shown_each ts)

-- ---- what the pattern tells of its places: what the cover told, but that a default of a name stands there by itself, and that the name of an object's rest has no span of its own

abbrev mutual
  pub retold : Tree → Told → Told
  retold (node (expression Array) (part (list ts) none)) (tells cs (tale (tells ds es) no_tales)) = tells cs (tale (tells ds (retold_each ts es)) no_tales)
  retold (node (expression Object) (part (list ts) none)) (tells cs (tale (tells ds es) no_tales)) = tells cs (tale (tells ds (retold_parts ts es)) no_tales)
  retold (node (expression Spread) (part t none)) (tells cs (tale d no_tales)) = tells cs (tale (retold t d) no_tales)
  retold t d = d

  pub retold_part : Tree → Told → Told
  retold_part (node (expression Property) (part k (part t none))) (tells cs (tale a (tale d no_tales))) = tells cs (tale a (tale (retold t d) no_tales))
  retold_part (node (expression Spread) ts) (tells cs (tale (tells (spans at ∷ ds) es) no_tales)) = tells cs (tale (tells ds es) no_tales)
  retold_part (node (function (Field InObject)) ts) (tells cs (tale a (tale (tells ds (tale d no_tales)) no_tales))) = tells cs (tale a (tale d no_tales))
  retold_part t d = d

  pub retold_each : Forest → Tales → Tales
  retold_each (part t ts) (tale d ds) = tale (retold t d) (retold_each ts ds)
  retold_each ts ds = ds

  pub retold_parts : Forest → Tales → Tales
  retold_parts (part t ts) (tale d ds) = tale (retold_part t d) (retold_parts ts ds)
  retold_parts ts ds = ds

-- the same of a list of them, in an array or in an object
abbrev pub retold_list : Forest → Told → Told
retold_list ts (tells cs ds) = tells cs (retold_each ts ds)

abbrev pub retold_parts_list : Forest → Told → Told
retold_parts_list ts (tells cs ds) = tells cs (retold_parts ts ds)
