-- What stands in an object: properties, names that stand for a property and its value, methods and spreads (ECMA-262 section 13.2.5); and which names the members of a class may have (section 15.7.1).
use Rattle.std.specs.Prelude.{◌≡◌, [], ◌∷◌, codes, Bool, true, false, IsTrue, not, ◌&&◌}
use Rattle.jsx_base.specs.Token.{Text, Operator, IdentifierName}
use Rattle.jsx_tree.specs.Signs.{Tok, Pad}
use Rattle.jsx_tree.specs.Kinds.{Holder, InClass, Static, Tree, leaf}
use Rattle.jsx_tree.specs.Nonterminals.{ObjectMember}
use Rattle.jsx_tree.specs.Grammar.{Commas, Fixed, Many, Production, p, pun}
use Rattle.jsx_tree.specs.Reading.{Place, Lost, forth}
use Rattle.jsx_tree.specs.StaticRules.{Surroundings, is_key}
use Rattle.jsx_tree.specs.Walk.{is_found}
use Rattle.jsx_tree.specs.Language.{Whole}
use Rattle.jsx_tree.specs.declared.text.Placement.{Placement}
use Rattle.jsx_tree.specs.declared.text.Placement.TheVariants as placement
use Rattle.jsx_tree.specs.Faults.{Fault, Shallow, part_depth}
use Rattle.jsx_operand.specs.SoFar.{Staged, so_far}

-- a comma or the brace, one of which stands behind each member
pub data Closed (x : Place) : Type 0 where
  by_comma : IsTrue (is_found (forth (pun ",") x)) → Closed x
  by_brace : IsTrue (is_found (forth (pun "}") x)) → Closed x

-- The text is this member, and of all that end where one may it is no other: `a` also begins `a: b` and `a() {}`, and `get` begins `get a() {}`. It is none
pub record OnlyMember (v : Surroundings) (x : Place) (t : Tree) (y : Place) : Type 0 where
  pub reads : Staged v false ObjectMember x t y
  pub alone : (u : Tree) (z : Place) → Closed z → Whole so_far v false ObjectMember x u z → (t ≡ u) × (y ≡ z)

pub record NoMember (v : Surroundings) (x : Place) (e : Fault) : Type 0 where
  pub no : (u : Tree) (z : Place) → Closed z → Whole so_far v false ObjectMember x u z → Shallow e (part_depth u) → ⊥

-- what stands behind the `{` of an object
abbrev pub behind_brace : Production
behind_brace = Many Commas ObjectMember ∷ Fixed Pad ∷ p "}" ∷ []

-- neither a name nor a computed key stands there
pub record NoOtherKey (x : Place) : Type 0 where
  pub name : (t : Text) → forth (Tok Operator IdentifierName t) x ≡ Lost
  pub bracket : forth (pun "[") x ≡ Lost

-- whether a key is a name
abbrev pub is_word : Tree → Bool
is_word (leaf IdentifierName t) = true
is_word t = false

-- ---- which names the members of a class may have: methods, getters and setters, fields

abbrev pub good_method : Holder → Tree → Bool
good_method Static k = not (is_key (codes "prototype") k)
good_method h k = true

abbrev pub good_accessor : Holder → Tree → Bool
good_accessor InClass k = not (is_key (codes "constructor") k)
good_accessor Static k = not (is_key (codes "prototype") k)
good_accessor h k = true

abbrev pub good_field : Holder → Tree → Bool
good_field InClass k = not (is_key (codes "constructor") k)
good_field Static k = not (is_key (codes "constructor") k) && not (is_key (codes "prototype") k)
good_field h k = true

-- of what a class makes, and not of itself
abbrev pub is_own : Placement → Bool
is_own placement.Instance = true
is_own placement.Static = false
