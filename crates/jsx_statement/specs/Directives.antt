-- Directives, which stand first in a program and in the body of a function (ECMA-262 section 11.2.1).
use Rattle.std.specs.Prelude.{◌≡◌, [], ◌∷◌, true}
use Rattle.jsx_base.specs.Token.{Text, Operator, StringLiteral}
use Rattle.jsx_tree.specs.Signs.{Semicolon, Tok}
use Rattle.jsx_tree.specs.Kinds.{Directive, program, Tree, leaf, node, Forest, none, part}
use Rattle.jsx_tree.specs.Form.{is_leaf}
use Rattle.jsx_tree.specs.Nonterminals.{DirectiveOnly, StringOnly}
use Rattle.jsx_tree.specs.Grammar.{Part, Production, semi}
use Rattle.jsx_tree.specs.Reading.{Place}
use Rattle.jsx_tree.specs.StaticRules.{Surroundings}
use Rattle.jsx_tree.specs.Answers.{Barred, Moves}
use Rattle.jsx_tree.specs.Faults.{Fault, Unread, Below}
use Rattle.jsx_operand.specs.SoFar.{so_far}

-- a string with its semicolon, written or missing: no other token goes on with it
pub record IsDirective (x : Place) (t : Tree) (y : Place) : Type 0 where
  pub raw : Text
  pub is : t ≡ node (program Directive) (part (leaf StringLiteral raw) none)
  pub whole : is_leaf StringLiteral raw ≡ true
  pub behind : Place
  pub string : Moves (Tok Operator StringLiteral raw) x behind
  pub semicolon : Moves Semicolon behind y

-- none stands there, whatever that stands in
pub record NoDirective (x : Place) (e : Fault) : Type 0 where
  pub on : (v : Surroundings) → Barred so_far v (Part DirectiveOnly) x e

-- no level is left for the directive that stands there
pub record NoPrologue (x : Place) (e : Fault) : Type 0 where
  pub below : Below 0 e
  pub directive : Tree
  pub behind : Place
  pub first : IsDirective x directive behind

-- its row, as places are told
abbrev pub directive_symbols : Production
directive_symbols = Part StringOnly ∷ semi ∷ []

-- directives one behind another, up to where none stands
pub data Prologue : Place → Forest → Place → Type 0 where
  ended : {x : Place} → NoDirective x Unread → Prologue x none x
  begun : {x y z : Place} {t : Tree} {ts : Forest} → IsDirective x t y → Prologue y ts z → Prologue x (part t ts) z
