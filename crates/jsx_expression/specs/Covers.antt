-- What is read before it is known whether it is an expression or a pattern, of both at once: what begins so, what an operand is, and an assignment to a pattern (ECMA-262 section 13.15.5).
use Rattle.std.specs.Prelude.{◌≡◌, ℕ, suc, max, nat_le, true, false, IsTrue}
use Rattle.jsx_tree.specs.Signs.{SameLine}
use Rattle.jsx_tree.specs.Kinds.{Assign, Assigns, expression, Tree, node, none, part}
use Rattle.jsx_tree.specs.Nonterminals.{Expr, Pat}
use Rattle.jsx_tree.specs.Grammar.{Part, pun}
use Rattle.jsx_tree.specs.Form.{fits_below}
use Rattle.jsx_tree.specs.Reading.{Place, Lost, forth}
use Rattle.jsx_tree.specs.StaticRules.{Surroundings}
use Rattle.jsx_tree.specs.Told.{told_expr}
use Rattle.jsx_tree.specs.View.{view_expr}
use Rattle.jsx_tree.specs.declared.tree.Expr.{Expr as Code}
use Rattle.jsx_tree.specs.Walk.{is_found, one}
use Rattle.jsx_tree.specs.Language.{Whole}
use Rattle.jsx_tree.specs.Grows.{Onward}
use Rattle.jsx_tree.specs.Answers.{Barred, Only, Stuck}
use Rattle.jsx_tree.specs.Faults.{Fault, Unread, Shallow, part_depth}
use Rattle.jsx_token.specs.Here.{Here}
use Rattle.jsx_token.specs.Growths.{Rung, rung, asked, is_rung, seat, is_blocked}
use Rattle.jsx_token.specs.Places.{Takes, end_of, next_of}
use Rattle.jsx_make.specs.NodeSpans.{expr_at}
use Rattle.jsx_operand.specs.SoFar.{Staged, so_far}
use Rattle.jsx_operand.specs.Climbing.{Climbs, NoneBegins, rises}
use Rattle.jsx_operand.specs.Spans.{IsPlaced, Spans}
use Rattle.jsx_operand.specs.Covers.{IsTurned, view_cover}
use Rattle.jsx_operand.specs.Turning.{is_bound_name, is_bracketed, is_literal}
use Rattle.jsx_operand.specs.declared.cover.Cover.{Cover}
use Rattle.jsx_function.specs.Covers.{IsPlacedCover, NoCover}
use Rattle.jsx_member.specs.Covers.{IsPatternCover, NoPatternCover}

-- where no pattern in brackets is what is read there begins with: above the level of assignments, where the tree is no literal, or where no `=` comes behind it
pub data Apart (r : Rung) (t : Tree) (y : Place) : Type 0 where
  above : nat_le 2 (asked r) ≡ true → Apart r t y
  unlike : is_literal t ≡ false → Apart r t y
  unassigned : Stuck (pun "=") y → Apart r t y

-- what is read there begins with the tree and goes on with it; behind the block of an arrow function it has ended
pub record BeginsAt (v : Surroundings) (r : Rung) (x : Place) (t : Tree) (y : Place) : Type 0 where
  pub climbs : is_blocked y ≡ false → rises r t ≡ true → Climbs v r x t y
  pub blocked : is_blocked y ≡ true → rises r t ≡ true → Only so_far v (Part (seat r)) x (one t) y
  pub low : rises r t ≡ false → Barred so_far v (Part (seat r)) x Unread

-- what is read there begins with the pattern that it turns into
pub record PatternFirst (v : Surroundings) (x : Place) (c : Cover) (y : Place) (u : Tree) (z : Place) : Type 0 where
  pub pattern : Tree
  pub turned : IsTurned c pattern
  pub bracketed : is_bracketed pattern ≡ true
  pub reads : Staged v false (Pat Assigns) x pattern y
  pub onward : Onward so_far v x pattern y u z

pub record BeginsCover (v : Surroundings) (x : Place) (c : Cover) (y : Place) : Type 0 where
  pub expr : c.is_expr ≡ true → (r : Rung) → is_rung r ≡ true → Apart r (view_cover c) y → BeginsAt v r x (view_cover c) y
  pub none : c.is_expr ≡ false → (r : Rung) → is_rung r ≡ true → Apart r (view_cover c) y → Barred so_far v (Part (seat r)) x Unread
  pub assigned : is_literal (view_cover c) ≡ true → IsTrue (is_found (forth (pun "=") y)) → (u : Tree) (z : Place) → Whole so_far v false (Expr 1) x u z → PatternFirst v x c y u z
  pub pattern : IsPatternCover v x c y
  pub may : is_literal (view_cover c) ≡ false → c.may_turn ≡ true
  pub unsettled : c.is_expr ≡ false → is_literal (view_cover c) ≡ true

pub record NoCoverBegins (v : Surroundings) (x : Place) (e : Fault) : Type 0 where
  pub none : NoneBegins v x e
  pub pattern : NoPatternCover v x e

-- an assignment to a pattern, or an arrow function of one name: above the level of assignments what is read there ends before its `=` or `=>`
pub data BeforeSign (a : Place) : Type 0 where
  before_equals : IsTrue (is_found (forth (pun "=") a)) → BeforeSign a
  before_arrow : IsTrue (is_found (forth (pun "=>") a)) → BeforeSign a

pub data LeadsTo (v : Surroundings) (r : Rung) (x a : Place) : Type 0 where
  leads : (t : Tree) → Climbs v r x t a → LeadsTo v r x a
  leads_none : Barred so_far v (Part (seat r)) x Unread → LeadsTo v r x a

pub record IsMade (v : Surroundings) (x : Place) : Type 0 where
  pub place : Place
  pub sign : BeforeSign place
  pub higher : (r : Rung) → is_rung r ≡ true → nat_le 2 (asked r) ≡ true → LeadsTo v r x place
  pub pattern : (p : Tree) (z : Place) → is_bracketed p ≡ true → Staged v false (Pat Assigns) x p z → place ≡ z

-- what is read above the level of assignments
pub data Higher (v : Surroundings) (x : Place) (c : Cover) (y : Place) : Type 0 where
  as_begun : BeginsCover v x c y → Higher v x c y
  as_made : IsMade v x → Higher v x c y

-- where no operand is read
pub data NoHigher (v : Surroundings) (x : Place) (e : Fault) : Type 0 where
  none_begun : NoCoverBegins v x e → NoHigher v x e
  none_made : IsMade v x → NoHigher v x e

pub record NoOperand (v : Surroundings) (level : ℕ) (x : Place) (e : Fault) : Type 0 where
  pub whole : NoCover v level x e
  pub higher : level ≡ 1 → NoHigher v x e

-- An operand of a level: all that is read whole there begins with it. No `=>` comes on the line of a name. At the level of assignments it is also an assignment to a pattern, or an arrow function without parentheses, with its block or its value; and where a pattern in brackets is left as it is, no `=` comes behind it.
pub record IsOperand (v : Surroundings) (level : ℕ) (x : Place) (c : Cover) (y : Place) : Type 0 where
  pub expr : c.is_expr ≡ true → BeginsAt v (rung level) x (view_cover c) y
  pub none : c.is_expr ≡ false → Barred so_far v (Part (Expr level)) x Unread
  pub higher : level ≡ 1 → Higher v x c y
  pub pattern : level ≡ 1 → (p : Tree) (z : Place) → is_bracketed p ≡ true → Staged v false (Pat Assigns) x p z → Stuck (pun "=") z → IsTurned c p × (y ≡ z)
  pub reads : level ≡ 1 → (p : Tree) → IsTurned c p → Staged v false (Pat Assigns) x p y
  pub unnamed : level ≡ 1 → is_bound_name (view_cover c) ≡ true → forth (pun "=>") (forth SameLine y) ≡ Lost
  pub may : is_literal (view_cover c) ≡ false → c.may_turn ≡ true
  pub unsettled : c.is_expr ≡ false → is_literal (view_cover c) ≡ true

-- ---- an assignment to a pattern, behind its `=`

pub record IsAssigned (v : Surroundings) (c : Cover) (t : Tree) (x y : Place) : Type 0 where
  pub pattern : Tree
  pub turned : IsTurned c pattern
  pub value : Tree
  pub is : t ≡ node (expression Assign) (part pattern (part value none))
  pub only : Only so_far v (Part (Expr 1)) x (one value) y

pub record NotAssigned (v : Surroundings) (c : Cover) (x : Place) (e : Fault) : Type 0 where
  pub no : (p t : Tree) (y : Place) → IsTurned c p → fits_below (Pat Assigns) p ≡ true → Whole so_far v false (Expr 1) x t y → Shallow e (suc (max (part_depth p) (part_depth t))) → ⊥

-- an assignment to it, behind the `=` that it ended before
pub record IsPlacedAssigned (c : Cover) (x : Here) (e : Code) (y : Here) : Type 0 where
  pub on : (w z : Here) → Spans (expr_at c.expr.value) (next_of w) (end_of z) → IsPlacedCover c w z → Takes (pun "=") z x → IsPlaced (told_expr e) (view_expr e) w y
