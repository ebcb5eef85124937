-- What stands behind a sign with which an expression begins: of all kinds whose rows begin with it.
use Rattle.std.specs.Prelude.{◌≡◌, Bool, true, ◌&&◌}
use Rattle.jsx_tree.specs.Signs.{Sign}
use Rattle.jsx_tree.specs.Kinds.{Kind, Tree, node, Forest}
use Rattle.jsx_tree.specs.Nonterminals.{Expr, homes, in_homes}
use Rattle.jsx_tree.specs.Reading.{Place}
use Rattle.jsx_tree.specs.StaticRules.{Surroundings}
use Rattle.jsx_tree.specs.Walk.{around, tail, Walk}
use Rattle.jsx_tree.specs.Language.{Whole}
use Rattle.jsx_tree.specs.Faults.{Fault, Shallow, deepest}
use Rattle.jsx_token.specs.Stage.{has_kind}
use Rattle.jsx_token.specs.Marks.{row_so_far}
use Rattle.jsx_token.specs.Growths.{opening_sign, same_sign}
use Rattle.jsx_operand.specs.SoFar.{so_far}

-- an expression of this kind begins with the sign
abbrev pub opens_with : Sign → Kind → Bool
opens_with s k = has_kind k && (in_homes (Expr 0) (homes k) && same_sign (opening_sign k) s)

-- The rest of a row behind its sign, each part in what the node makes of its surroundings, also where that hangs on the parts: these parts keep the rules of the kind, and no others there do; none do
pub record OnlyParts (v : Surroundings) (k : Kind) (t : Tree) (x y : Place) : Type 0 where
  pub parts : Forest
  pub is : t ≡ node k parts
  pub walk : Walk (Whole so_far) (around v parts) (tail (row_so_far k)) x parts y
  pub keeps : so_far.keeps k v parts ≡ true
  pub alone : (us : Forest) (z : Place) → Walk (Whole so_far) (around v us) (tail (row_so_far k)) x us z → so_far.keeps k v us ≡ true → (parts ≡ us) × (y ≡ z)

pub record NoParts (v : Surroundings) (k : Kind) (x : Place) (e : Fault) : Type 0 where
  pub no : (us : Forest) (z : Place) → Walk (Whole so_far) (around v us) (tail (row_so_far k)) x us z → so_far.keeps k v us ≡ true → Shallow e (deepest us) → ⊥

-- behind the sign stands the rest of this node, and of no other that begins so
pub record OnlyOpened (v : Surroundings) (s : Sign) (t : Tree) (x y : Place) : Type 0 where
  pub kind : Kind
  pub begins : opens_with s kind ≡ true
  pub built : OnlyParts v kind t x y
  pub alone : (k : Kind) (ts : Forest) (z : Place) → opens_with s k ≡ true → Walk (Whole so_far) (around v ts) (tail (row_so_far k)) x ts z → so_far.keeps k v ts ≡ true → (node k ts ≡ t) × (z ≡ y)

-- and of none
pub record NoneOpened (v : Surroundings) (s : Sign) (x : Place) (e : Fault) : Type 0 where
  pub no : (k : Kind) → opens_with s k ≡ true → NoParts v k x e
