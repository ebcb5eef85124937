-- A labelled statement, behind its label.
use Rattle.std.specs.Prelude.{◌≡◌, ℕ, false}
use Rattle.jsx_base.specs.Token.{Text, IdentifierName}
use Rattle.jsx_tree.specs.Kinds.{Label, statement, Tree, leaf, node, none, part}
use Rattle.jsx_tree.specs.Nonterminals.{SubStmt}
use Rattle.jsx_tree.specs.Grammar.{Part}
use Rattle.jsx_tree.specs.Reading.{Place}
use Rattle.jsx_tree.specs.StaticRules.{Surroundings, has_label, labels_loop}
use Rattle.jsx_tree.specs.Spans.{Told}
use Rattle.jsx_tree.specs.Walk.{one}
use Rattle.jsx_tree.specs.Language.{Whole}
use Rattle.jsx_tree.specs.Answers.{Only}
use Rattle.jsx_tree.specs.Faults.{Fault, Shallow, part_depth}
use Rattle.jsx_token.specs.Here.{Here}
use Rattle.jsx_token.specs.Places.{next_of}
use Rattle.jsx_operand.specs.SoFar.{so_far}
use Rattle.jsx_operand.specs.Spans.{IsPlaced}
use Rattle.jsx_declaration.specs.Labels.{IsBeforeLoop, TakesLabel, labelled_in}

-- a labelled statement, behind its label; none
pub record BuiltLabel (v : Surroundings) (name : Text) (t : Tree) (x y : Place) : Type 0 where
  pub body : Tree
  pub is : t ≡ node (statement Label) (part (leaf IdentifierName name) (part body none))
  pub fresh : has_label name false v.labels ≡ false
  pub loop : IsBeforeLoop (labels_loop body) x
  pub read : Only so_far (labelled_in name (labels_loop body) v) (Part SubStmt) x (one body) y

pub record NoBody (v : Surroundings) (name : Text) (x : Place) (e : Fault) : Type 0 where
  pub no : (t : Tree) (y : Place) → has_label name false v.labels ≡ false → Whole so_far (labelled_in name (labels_loop t) v) false SubStmt x t y → Shallow e (part_depth t) → ⊥

-- a labelled statement, behind its label; it is told from where the label begins
pub record IsPlacedLabelled (name : Text) (at : ℕ) (x : Here) (d : Told) (t : Tree) (y : Here) : Type 0 where
  pub on : (w : Here) → TakesLabel name w x → at ≡ next_of w → IsPlaced d t w y
