-- An expression that was read, and what is read with it where commas stand behind it.
use Rattle.std.specs.Prelude.{ℕ}
use Rattle.jsx_tree.specs.Kinds.{Tree}
use Rattle.jsx_tree.specs.Nonterminals.{Expr}
use Rattle.jsx_tree.specs.Grammar.{Part}
use Rattle.jsx_tree.specs.Reading.{Place}
use Rattle.jsx_tree.specs.StaticRules.{Surroundings}
use Rattle.jsx_tree.specs.Walk.{one}
use Rattle.jsx_tree.specs.Answers.{Only, Barred}
use Rattle.jsx_tree.specs.View.{view_expr}
use Rattle.jsx_tree.specs.Told.{told_expr}
use Rattle.jsx_tree.specs.declared.tree.Expr.{Expr as Code}
use Rattle.jsx_tree.specs.Faults.{Fault}
use Rattle.jsx_token.specs.Here.{Here, place_of}
use Rattle.jsx_token.specs.Places.{end_of, next_of}
use Rattle.jsx_make.specs.NodeSpans.{expr_at}
use Rattle.jsx_operand.specs.SoFar.{so_far}
use Rattle.jsx_operand.specs.Spans.{IsPlaced, Spans}

-- wherever the first one was read from, all of it is read from there too
pub record IsGathered (v : Surroundings) (first : Code) (y : Here) (whole : Code) (z : Here) : Type 0 where
  pub reads : (x : Place) → Only so_far v (Part (Expr 1)) x (one (view_expr first)) (place_of y) → Only so_far v (Part (Expr 0)) x (one (view_expr whole)) (place_of z)
  pub spans : (lo : ℕ) → Spans (expr_at first) lo (end_of y) → Spans (expr_at whole) lo (end_of z)
  pub placed : (w : Here) → Spans (expr_at first) (next_of w) (end_of y) → IsPlaced (told_expr first) (view_expr first) w y → IsPlaced (told_expr whole) (view_expr whole) w z

pub record NotGathered (v : Surroundings) (t : Tree) (y : Place) (e : Fault) : Type 0 where
  pub no : (x : Place) → Only so_far v (Part (Expr 1)) x (one t) y → Barred so_far v (Part (Expr 0)) x e
