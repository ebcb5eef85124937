-- Covers that were read, and the patterns that they turn into.
use Rattle.std.specs.Prelude.{◌≡◌, true}
use Rattle.jsx_tree.specs.Kinds.{Tree}
use Rattle.jsx_tree.specs.View.{view_expr}
use Rattle.jsx_operand.specs.Turning.{Suits, Turns, TurnsElement}
use Rattle.jsx_operand.specs.declared.cover.Cover.{Cover}

-- no comma stands behind a rest of it

abbrev pub view_cover : Cover → Tree
view_cover c = view_expr c.expr.value

pub record IsTurned (c : Cover) (p : Tree) : Type 0 where
  pub may : c.may_turn ≡ true
  pub turns : Turns (view_cover c) p

-- the same with a default, or without one
pub record IsTurnedElement (c : Cover) (p : Tree) : Type 0 where
  pub may : c.may_turn ≡ true
  pub turns : TurnsElement (view_cover c) p

-- and as a parameter
pub record IsParameter (c : Cover) (q : Tree) : Type 0 where
  pub pattern : Tree
  pub turned : IsTurnedElement c pattern
  pub suits : Suits pattern q
