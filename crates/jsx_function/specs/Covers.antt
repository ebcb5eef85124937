-- What is read at a level of expressions before it is known whether it is an expression or a pattern: of both at once, in the words of the grammar (ECMA-262 sections 13.2.5 and 13.15.5).
--
-- A cover is read as an expression where it is one, and as the pattern that it turns into; and nothing else is read there, of either. So a text that is no cover is neither.
use Rattle.std.specs.Prelude.{◌≡◌, ℕ, nat_le, true, false}
use Rattle.jsx_tree.specs.Kinds.{Assigns, Tree}
use Rattle.jsx_tree.specs.Nonterminals.{Expr, PatElement}
use Rattle.jsx_tree.specs.Grammar.{Part}
use Rattle.jsx_tree.specs.Reading.{Place}
use Rattle.jsx_tree.specs.StaticRules.{Surroundings}
use Rattle.jsx_tree.specs.Spans.{Told}
use Rattle.jsx_tree.specs.Told.{told_expr}
use Rattle.jsx_tree.specs.Walk.{one}
use Rattle.jsx_tree.specs.Language.{Whole}
use Rattle.jsx_tree.specs.Answers.{Barred, Only}
use Rattle.jsx_tree.specs.Faults.{Fault, Unread, Shallow, part_depth}
use Rattle.jsx_token.specs.Here.{Here}
use Rattle.jsx_token.specs.Growths.{settled}
use Rattle.jsx_operand.specs.SoFar.{Staged, so_far}
use Rattle.jsx_operand.specs.Spans.{IsPlaced}
use Rattle.jsx_operand.specs.Covers.{IsTurnedElement, view_cover}
use Rattle.jsx_operand.specs.Turning.{is_literal, retold}
use Rattle.jsx_operand.specs.declared.cover.Cover.{Cover}

-- what binds more tightly than a conditional expression doesn't end with the block of an arrow function
pub record Settles (n : ℕ) (y : Place) : Type 0 where
  pub on : nat_le 3 n ≡ true → settled y ≡ true

-- ---- at a level of expressions: at that of assignments also where an element of a pattern stands, of all that has come to its end there

pub record IsElementCover (v : Surroundings) (x : Place) (c : Cover) (y : Place) : Type 0 where
  pub reads : (p : Tree) → IsTurnedElement c p → Staged v false (PatElement Assigns) x p y
  pub alone : (p : Tree) (z : Place) → Whole so_far v false (PatElement Assigns) x p z → IsTurnedElement c p × (y ≡ z)

pub record IsCover (v : Surroundings) (level : ℕ) (x : Place) (c : Cover) (y : Place) : Type 0 where
  pub expr : c.is_expr ≡ true → Only so_far v (Part (Expr level)) x (one (view_cover c)) y
  pub none : c.is_expr ≡ false → Barred so_far v (Part (Expr level)) x Unread
  pub element : level ≡ 1 → IsElementCover v x c y
  pub unsettled : c.is_expr ≡ false → is_literal (view_cover c) ≡ true

pub record NoCover (v : Surroundings) (level : ℕ) (x : Place) (e : Fault) : Type 0 where
  pub none : Barred so_far v (Part (Expr level)) x e
  pub element : level ≡ 1 → (p : Tree) (z : Place) → Whole so_far v false (PatElement Assigns) x p z → Shallow e (part_depth p) → ⊥

-- ---- the places of what it tells, as an expression and as the pattern

abbrev pub told_cover : Cover → Told
told_cover c = told_expr c.expr.value

pub record IsPlacedCover (c : Cover) (x y : Here) : Type 0 where
  pub expr : c.is_expr ≡ true → IsPlaced (told_cover c) (view_cover c) x y
  pub element : (p : Tree) → IsTurnedElement c p → IsPlaced (retold (view_cover c) (told_cover c)) p x y
