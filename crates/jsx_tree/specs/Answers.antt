-- What is read from one place of a text to another in one way alone, and what isn't read from a place: what functions of a parser answer.
use Rattle.std.specs.Prelude.{◌≡◌, List, IsTrue, true}
use Rattle.jsx_tree.specs.Kinds.{Kind, Tree, Forest, node}
use Rattle.jsx_tree.specs.Nonterminals.{Nonterminal}
use Rattle.jsx_tree.specs.Grammar.{TopLines, Symbol}
use Rattle.jsx_tree.specs.Reading.{Place, Lost, forth, ended_at}
use Rattle.jsx_tree.specs.StaticRules.{Surroundings}
use Rattle.jsx_tree.specs.Signs.{Sign}
use Rattle.jsx_tree.specs.Walk.{is_found, Given, Piece, Items, Past, Walk, steady}
use Rattle.jsx_tree.specs.Language.{Language, Whole}
use Rattle.jsx_tree.specs.Faults.{Fault, Shallow, deepest, given_depth}

-- a sign leads from one place to another; it doesn't stand there
pub record Moves (s : Sign) (x y : Place) : Type 0 where
  pub is : y ≡ forth s x
  pub found : IsTrue (is_found y)

pub record Stuck (s : Sign) (x : Place) : Type 0 where
  pub is : forth s x ≡ Lost

-- the same where a token was looked for, and nothing was taken
pub record Missed (s : Sign) (x y : Place) : Type 0 where
  pub same : x ≡ y
  pub stuck : Stuck s x

-- the text is the symbol in this way alone
pub record Only (L : Language) (v : Surroundings) (p : Symbol) (x : Place) (g : Given) (y : Place) : Type 0 where
  pub past : Past (Whole L) v p x g y
  pub alone : (h : Given) (z : Place) → Past (Whole L) v p x h z → (g ≡ h) × (y ≡ z)

-- Nothing is read there that the fault speaks of. That something is begun there and is deeper stands apart, since of several rows that may stand at a place one is enough for that.
pub record Barred (L : Language) (v : Surroundings) (p : Symbol) (x : Place) (e : Fault) : Type 0 where
  pub no : (g : Given) (y : Place) → Past (Whole L) v p x g y → Shallow e (given_depth g) → ⊥

-- the same of a row
pub record OnlyRow (L : Language) (v : Surroundings) (ps : List Piece) (x : Place) (ts : Forest) (y : Place) : Type 0 where
  pub walk : Walk (Whole L) (steady v) ps x ts y
  pub alone : (us : Forest) (z : Place) → Walk (Whole L) (steady v) ps x us z → (ts ≡ us) × (y ≡ z)

pub record NoRow (L : Language) (v : Surroundings) (ps : List Piece) (x : Place) (e : Fault) : Type 0 where
  pub no : (ts : Forest) (y : Place) → Walk (Whole L) (steady v) ps x ts y → Shallow e (deepest ts) → ⊥

-- no parts of the kind that keep its rules stand there as the row says
pub record NoNode (L : Language) (v : Surroundings) (ps : List Piece) (k : Kind) (x : Place) (e : Fault) : Type 0 where
  pub no : (ts : Forest) (y : Place) → Walk (Whole L) (steady v) ps x ts y → L.keeps k v ts ≡ true → Shallow e (deepest ts) → ⊥

-- the tree is a node of the kind, with these parts first and then what the row gives
pub record Built (L : Language) (v : Surroundings) (ps : List Piece) (k : Kind) (before : Forest → Forest) (t : Tree) (x y : Place) : Type 0 where
  pub parts : Forest
  pub is : t ≡ node k (before parts)
  pub row : OnlyRow L v ps x parts y

-- the same where the parts keep the rules of the kind
pub record BuiltNode (L : Language) (v : Surroundings) (ps : List Piece) (k : Kind) (t : Tree) (x y : Place) : Type 0 where
  pub parts : Forest
  pub is : t ≡ node k parts
  pub row : OnlyRow L v ps x parts y
  pub keeps : L.keeps k v parts ≡ true

-- trees on lines of their own lead to the end of the text; these alone do; none do
pub record ToEnd (L : Language) (v : Surroundings) (c : Nonterminal) (x : Place) (ts : Forest) : Type 0 where
  pub end : Place
  pub items : Items (Whole L) v TopLines c x ts end
  pub ended : ended_at end ≡ true

pub record OnlyToEnd (L : Language) (v : Surroundings) (c : Nonterminal) (x : Place) (ts : Forest) : Type 0 where
  pub leads : ToEnd L v c x ts
  pub alone : (us : Forest) → ToEnd L v c x us → ts ≡ us

pub record NoneToEnd (L : Language) (v : Surroundings) (c : Nonterminal) (x : Place) (e : Fault) : Type 0 where
  pub no : (ts : Forest) → ToEnd L v c x ts → Shallow e (deepest ts) → ⊥
