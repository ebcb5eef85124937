-- A cover that is an expression, as that.
use Rattle.std.proofs.Common.{◌≡◌, ℕ, true, Box, Global, sym, subst}
use Rattle.jsx_tree.specs.Nonterminals.{Expr}
use Rattle.jsx_tree.specs.Grammar.{Part}
use Rattle.jsx_tree.specs.Reading.{Place}
use Rattle.jsx_tree.specs.StaticRules.{Surroundings}
use Rattle.jsx_tree.specs.Walk.{one}
use Rattle.jsx_tree.specs.Answers.{Only}
use Rattle.jsx_tree.specs.View.{view_expr}
use Rattle.jsx_tree.specs.declared.tree.Expr.{Expr as Code}
use Rattle.jsx_tree.specs.Told.{told_expr}
use Rattle.jsx_make.specs.NodeSpans.{expr_at}
use Rattle.jsx_operand.specs.Spans.{IsPlaced, Spans}
use Rattle.jsx_token.specs.Here.{Here}
use Rattle.jsx_operand.specs.SoFar.{so_far}
use Rattle.jsx_operand.specs.declared.cover.Cover.{Cover}
use Rattle.jsx_operand.proofs.Homes.{value}
use Rattle.jsx_function.specs.Covers.{IsCover, IsPlacedCover}

pub settled_only : {v : Surroundings} {n : ℕ} {x y : Place} {c : Cover} {e : Box Code Global} → e ≡ c.expr → c.is_expr ≡ true → IsCover v n x c y → Only so_far v (Part (Expr n)) x (one (view_expr e.value)) y
settled_only {v} {n} {x} {y} is i o = subst (λ b. Only so_far v (Part (Expr n)) x (one (view_expr b.value)) y) (sym is) (o.expr i)

pub settled_span : {b e : Box Code Global} {lo hi : ℕ} → b ≡ e → Spans (expr_at e.value) lo hi → Spans (expr_at b.value) lo hi
settled_span {lo = lo} {hi} is s = subst (λ j. Spans (expr_at j.value) lo hi) (sym is) s

pub settled_placed : {c : Cover} {e : Box Code Global} {x y : Here} → e ≡ c.expr → c.is_expr ≡ true → IsPlacedCover c x y → IsPlaced (told_expr e.value) (view_expr e.value) x y
settled_placed {x = x} {y} is i p = subst (λ b. IsPlaced (told_expr b.value) (view_expr b.value) x y) (sym is) (p.expr i)
