-- Patterns that bind names, and what stands in them (ECMA-262 section 14.3.3).
use Rattle.std.specs.Prelude.{◌≡◌, [], ◌∷◌, Bool, true, false}
use Rattle.jsx_tree.specs.Signs.{Pad}
use Rattle.jsx_tree.specs.Kinds.{Binds, PropertyPat, function, Tree, node, none, part}
use Rattle.jsx_tree.specs.Nonterminals.{Nonterminal, BindingIdent, Param, PatElement, PatProp, SetterParam, Slot}
use Rattle.jsx_tree.specs.Grammar.{Commas, Elisions, Fixed, Many, Part, Production, p, pun}
use Rattle.jsx_tree.specs.Reading.{Place}
use Rattle.jsx_tree.specs.StaticRules.{Surroundings}
use Rattle.jsx_tree.specs.Walk.{one}
use Rattle.jsx_tree.specs.Language.{Whole}
use Rattle.jsx_tree.specs.Answers.{Moves, Only, Stuck}
use Rattle.jsx_tree.specs.Faults.{Fault, Shallow, part_depth, outer}
use Rattle.jsx_operand.specs.SoFar.{Staged, so_far}
use Rattle.jsx_function.specs.Elements.{is_hole}
use Rattle.jsx_operand.specs.Patterns.{is_rest}

-- what stands behind the `[` of an array's pattern, and behind the `{` of an object's
abbrev pub behind_bracket : Production
behind_bracket = Many Elisions (Slot Binds) ∷ p "]" ∷ []

abbrev pub behind_pattern_brace : Production
behind_pattern_brace = Many Commas (PatProp Binds) ∷ Fixed Pad ∷ p "}" ∷ []

-- ---- with a default, or without one

-- where a pattern may stand so
abbrev pub takes_default : Nonterminal → Bool
takes_default Param = true
takes_default (PatElement Binds) = true
takes_default (Slot Binds) = true
takes_default SetterParam = true
takes_default c = false

-- The text is this one, and of all that may stand there, have come to their ends and are no hole it is no other: a name alone is read too before what goes on with an expression
pub record OnlyFilled (v : Surroundings) (c : Nonterminal) (x : Place) (t : Tree) (y : Place) : Type 0 where
  pub reads : Staged v false c x t y
  pub filled : is_hole t ≡ false
  pub alone : (u : Tree) (z : Place) → is_hole u ≡ false → Whole so_far v false c x u z → (t ≡ u) × (y ≡ z)

-- so it is at each of these places; of what may stand there none but a hole or a rest does
pub record IsElement (v : Surroundings) (x : Place) (t : Tree) (y : Place) : Type 0 where
  pub on : (c : Nonterminal) → takes_default c ≡ true → OnlyFilled v c x t y

pub record NoElement (v : Surroundings) (x : Place) (e : Fault) : Type 0 where
  pub no : (c : Nonterminal) → takes_default c ≡ true → (u : Tree) (z : Place) → is_hole u ≡ false → is_rest u ≡ false → Whole so_far v false c x u z → Shallow e (part_depth u) → ⊥

-- in an array's pattern
abbrev pub OnlySlot : Surroundings → Place → Tree → Place → Type 0
OnlySlot v x t y = OnlyFilled v (Slot Binds) x t y

-- ---- in an object's pattern

-- The text is this part, and of all that end before no `:` it is no other: where one stands, `a` is the key of `a: b`. It is none
pub record OnlyPart (v : Surroundings) (x : Place) (t : Tree) (y : Place) : Type 0 where
  pub reads : Staged v false (PatProp Binds) x t y
  pub alone : (u : Tree) (z : Place) → Stuck (pun ":") z → Whole so_far v false (PatProp Binds) x u z → (t ≡ u) × (y ≡ z)

pub record NoPart (v : Surroundings) (x : Place) (e : Fault) : Type 0 where
  pub no : (u : Tree) (z : Place) → Stuck (pun ":") z → Whole so_far v false (PatProp Binds) x u z → Shallow e (part_depth u) → ⊥

-- a property behind its key, whose value may be read too before what goes on with an expression
pub record OnlyPair (v : Surroundings) (x : Place) (key : Tree) (t : Tree) (y : Place) : Type 0 where
  pub value : Tree
  pub behind : Place
  pub is : t ≡ node (function (PropertyPat Binds)) (part key (part value none))
  pub colon : Moves (pun ":") x behind
  pub element : IsElement v behind value y

-- what a name begins that stands for a property and is bound: with its default, or alone; and it begins none
pub record OnlyShort (v : Surroundings) (name : Tree) (y : Place) (t : Tree) (z : Place) : Type 0 where
  pub on : (x : Place) → Only so_far v (Part BindingIdent) x (one name) y → Stuck (pun ":") y → OnlyPart v x t z

pub record NoShort (v : Surroundings) (name : Tree) (y : Place) (e : Fault) : Type 0 where
  pub no : (x : Place) → Only so_far v (Part BindingIdent) x (one name) y → Stuck (pun ":") y → NoPart v x (outer e)
