use Rattle.std.proofs.Common.{◌≡◌, ℕ, true, false, arith, refl, sym, ◌∙◌, ap, subst}
use Rattle.jsx_base.specs.Token.{Operator}
use Rattle.jsx_tree.specs.Kinds.{UnaryOp, Complement, Delete, Negative, Not, Positive, TypeOf, Unary, Void, expression, Tree}
use Rattle.jsx_tree.specs.Nonterminals.{NewCallee}
use Rattle.jsx_tree.specs.Grammar.{Part}
use Rattle.jsx_tree.specs.View.{view_expr}
use Rattle.jsx_tree.specs.ViewOperators.{unary_of}
use Rattle.jsx_tree.specs.Reading.{Place}
use Rattle.jsx_tree.specs.StaticRules.{Surroundings}
use Rattle.jsx_tree.specs.Walk.{one, tail}
use Rattle.jsx_tree.specs.Faults.{Fault}
use Rattle.jsx_tree.specs.Answers.{Only, Built, BuiltNode}
use Rattle.jsx_operand.specs.Openings.{OnlyOpened, NoneOpened}
use Rattle.jsx_operand.specs.SoFar.{so_far}
use Rattle.jsx_token.specs.Marks.{is_quoted, row_so_far}
use Rattle.jsx_token.specs.Seen.{next_token}
use Rattle.jsx_operand.specs.Around.{around_of}
use Rattle.jsx_token.specs.Here.{place_of, left}
use Rattle.jsx_token.specs.Growths.{NoOpening, callee, closed, growth_kind, opening_kind, opening_sign, settled}
use Rattle.jsx_tree.specs.Signs.{Sign}
use Rattle.jsx_operand.specs.Climbing.{Begins, NoneBegins, fits, rises}
use Rattle.jsx_token.specs.Places.{end_of, next_of}
use Rattle.jsx_operand.proofs.Values.{sign_ended}
use Rattle.jsx_token.proofs.Levels.{growth_listed, growth_marks, is_ruled}
use Rattle.jsx_operand.proofs.Climbing.{climb_only, climb_on, climb_barred, climb_unfit, climb_tagged, climbs_to, tagged_unread}
use Rattle.jsx_tree.proofs.Rows.Placing.{free, no_node}
use Rattle.jsx_operand.proofs.Openings.{kept_behind, no_sole_parts, sole_none, sole_opened, sole_parts}
use Rattle.jsx_expression.proofs.Shared.{arguments_unread, callee_unread, target_opened, target_outside, target_unread, with_opened, without_opened}
use Rattle.jsx_token.specs.declared.opening.Opening.{Opening}
use Rattle.jsx_token.specs.declared.opening.Opening.TheVariants as opening
use Rattle.jsx_token.proofs.TakingOpenings.{opening_listed, opening_opens, opening_staged}
use Rattle.jsx_token.proofs.TakingGrowths.{ended as stopped}
use Rattle.jsx_operand.proofs.Places.{spans_from}
use Rattle.jsx_expression.proofs.Depths.{outgrown_as}
use Rattle.jsx_operand.proofs.Outgrowing.{climb_outgrown}
use Rattle.jsx_operand.proofs.Steps.{passed, passed_in, passed_plain}
use Rattle.jsx_operand.proofs.Templates.{quoted_to, unquoted_to}
use Rattle.jsx_operand.proofs.Placing.{placed_as, placed_from, placed_to}
use Rattle.jsx_operand.proofs.PlacedExpressions.{target_row, new_row, new_alone_row}
use Rattle.std.proofs.Common.{Box, Global}
use Rattle.jsx_tree.specs.Kinds.{UpdateOp, Increment, Decrement, PrefixUpdate}
use Rattle.jsx_tree.specs.ViewOperators.{step_of}
use Rattle.jsx_tree.specs.Told.{told_expr}
use Rattle.jsx_tree.specs.declared.tree.Expr.{Expr as Code}
use Rattle.jsx_token.specs.Here.{Here}
use Rattle.jsx_operand.specs.Climbing.{level}
use Rattle.jsx_operand.specs.Spans.{IsPlaced, IsPlacedBehind, Spans}
use Rattle.jsx_make.specs.NodeSpans.{expr_at}
use Rattle.jsx_operand.specs.Turning.{is_literal}
use Rattle.jsx_operand.specs.declared.cover.Cover.{Cover}
use Rattle.jsx_member.specs.Covers.{IsPlacedCoverBehind, NoCoverOpened, OpensCover, is_bracket_sign}
use Rattle.jsx_expression.specs.Covers.{BeginsCover, NoCoverBegins}
use Rattle.jsx_function.specs.Covers.{IsPlacedCover, Settles}
use Rattle.jsx_expression.proofs.Covers.{NoBrackets, brackets_quoted, brackets_unopened, callee_begins, callee_high, callee_unfit, callee_unsettled, cover_begins, deep_cover_begins, no_cover_begins, opened_cover, opened_other, plain_begins, plain_unbegun, plain_unlike, unopened_cover}
use Rattle.jsx_expression.proofs.CoverPlaces.{placed_cover, placed_cover_behind}
use Rattle.jsx_expression.proofs.CoverSteps.{settles_by}
use Rattle.jsx_function.proofs.Settled.{settled_placed, settled_span}
use Rattle.jsx_member.proofs.Sequences.{closed_of}
use Rattle.jsx_expression.proofs.grammar.Expressions.+beginning.Goals as goal

-- an operator's row, whichever it is
unary_free : (o : UnaryOp) → free (tail (row_so_far (expression (Unary o)))) ≡ true
unary_free Positive = refl
unary_free Negative = refl
unary_free Complement = refl
unary_free Not = refl
unary_free Delete = refl
unary_free Void = refl
unary_free TypeOf = refl

unary_sign : (o : UnaryOp) → is_bracket_sign (opening_sign (expression (Unary o))) ≡ false
unary_sign Positive = refl
unary_sign Negative = refl
unary_sign Complement = refl
unary_sign Not = refl
unary_sign Delete = refl
unary_sign Void = refl
unary_sign TypeOf = refl

update_sign : (o : UpdateOp) → is_bracket_sign (opening_sign (expression (PrefixUpdate o))) ≡ false
update_sign Increment = refl
update_sign Decrement = refl

kept_opening : {v : Surroundings} {x y : Place} {t : Tree} (g : Opening) → is_ruled (opening_kind g) ≡ false → Built so_far v (tail (row_so_far (opening_kind g))) (opening_kind g) (λ ts. ts) t x y → BuiltNode so_far v (tail (row_so_far (opening_kind g))) (opening_kind g) t x y
kept_opening g n b = kept_behind (opening_kind g) (opening_listed g (opening_staged g)) (opening_opens g) n b

-- what opens an expression, behind its sign, as a cover that is settled
opened_at : {v : Surroundings} {x y : Place} (g h : Opening) → g ≡ h → (d : Cover) (e : Box Code Global) → is_bracket_sign (opening_sign (opening_kind h)) ≡ false → d.expr ≡ e → d.is_expr ≡ true → d.may_turn ≡ true → OnlyOpened v (opening_sign (opening_kind h)) (view_expr e.value) x y → OpensCover v (opening_sign (opening_kind g)) d x y
opened_at {v} {x} {y} g h q d e n is i m o = subst (λ j. OpensCover v (opening_sign (opening_kind j)) d x y) (sym q) (opened_cover (opening_kind h) d e (opening_listed h (opening_staged h)) (opening_opens h) n is i m o)

unopened_at : {v : Surroundings} {x : Place} {f : Fault} (g h : Opening) → g ≡ h → is_bracket_sign (opening_sign (opening_kind h)) ≡ false → NoneOpened v (opening_sign (opening_kind h)) x f → NoCoverOpened v (opening_sign (opening_kind g)) x f
unopened_at {v} {x} {f} g h q n o = subst (λ j. NoCoverOpened v (opening_sign (opening_kind j)) x f) (sym q) (unopened_cover (opening_kind h) (opening_listed h (opening_staged h)) (opening_opens h) n o)

opened_placed : {v : Surroundings} {a b : Place} {x y : Here} (g h : Opening) → g ≡ h → (d : Cover) (e : Box Code Global) → is_bracket_sign (opening_sign (opening_kind h)) ≡ false → d.expr ≡ e → OnlyOpened v (opening_sign (opening_kind h)) (view_expr e.value) a b → IsPlacedBehind (opening_sign (opening_kind h)) x (told_expr e.value) (view_expr e.value) y → IsPlacedCoverBehind (opening_sign (opening_kind g)) x d y
opened_placed {x = x} {y} g h q d e n is o p = subst (λ j. IsPlacedCoverBehind (opening_sign (opening_kind j)) x d y) (sym q)
    (placed_cover_behind (ap (λ j. is_literal (view_expr j.value)) is ∙ opened_other (opening_sign (opening_kind h)) o n) (subst (λ j. IsPlacedBehind (opening_sign (opening_kind h)) x (told_expr j.value) (view_expr j.value) y) (sym is) p))

-- as the cover that it is
opens_as : {v : Surroundings} {x y : Place} {d : Cover} (g h : Opening) → g ≡ h → OpensCover v (opening_sign (opening_kind h)) d x y → OpensCover v (opening_sign (opening_kind g)) d x y
opens_as {v} {x} {y} {d} g h q o = subst (λ j. OpensCover v (opening_sign (opening_kind j)) d x y) (sym q) o

unopens_as : {v : Surroundings} {x : Place} {f : Fault} (g h : Opening) → g ≡ h → NoCoverOpened v (opening_sign (opening_kind h)) x f → NoCoverOpened v (opening_sign (opening_kind g)) x f
unopens_as {v} {x} {f} g h q o = subst (λ j. NoCoverOpened v (opening_sign (opening_kind j)) x f) (sym q) o

opens_placed : {x y : Here} {d : Cover} (g h : Opening) → g ≡ h → IsPlacedCoverBehind (opening_sign (opening_kind h)) x d y → IsPlacedCoverBehind (opening_sign (opening_kind g)) x d y
opens_placed {x} {y} {d} g h q p = subst (λ j. IsPlacedCoverBehind (opening_sign (opening_kind j)) x d y) (sym q) p

span_as : {f e : Box Code Global} {lo hi : ℕ} → f ≡ e → Spans (expr_at e.value) lo hi → Spans (expr_at f.value) lo hi
span_as {lo = lo} {hi} is s = subst (λ j. Spans (expr_at j.value) lo hi) (sym is) s

settles_as : {f e : Box Code Global} {y : Place} → f ≡ e → Settles (level (view_expr e.value)) y → Settles (level (view_expr f.value)) y
settles_as {y = y} is s = subst (λ j. Settles (level (view_expr j.value)) y) (sym is) s

-- what is one token, an element or a template, read where the lexer looked at what comes
plain_read : {v : Surroundings} {h l : Here} {y : Place} (d : Cover) (e : Box Code Global) → l ≡ h → NoBrackets (place_of l) → d.expr ≡ e → d.is_expr ≡ true → d.may_turn ≡ true → Begins v (place_of l) (view_expr e.value) y → BeginsCover v (place_of h) d y
plain_read {v} {h} {l} {y} d e s n is i m q = subst (λ w. BeginsCover v (place_of w) d y) s (plain_begins d e n is i m q)

plain_none : {v : Surroundings} {h l : Here} {f : Fault} → l ≡ h → NoBrackets (place_of l) → NoneBegins v (place_of l) f → NoCoverBegins v (place_of h) f
plain_none {v} {f = f} s n q = subst (λ w. NoCoverBegins v (place_of w) f) s (plain_unbegun n q)

plain_span : {f e : Box Code Global} {h l : Here} {hi : ℕ} → l ≡ h → f ≡ e → Spans (expr_at e.value) (next_of l) hi → Spans (expr_at f.value) (next_of h) hi
plain_span {f} {e} {h} {l} {hi} s is q = subst (λ w. Spans (expr_at f.value) (next_of w) hi) s (span_as is q)

-- where it ended
closed_behind : {v : Surroundings} {s : Sign} {t : Tree} {x y : Place} → OnlyOpened v s t x y → settled y ≡ true → closed y ≡ true
closed_behind {y = y} o e = closed_of y e

closed_cover : {v : Surroundings} {s : Sign} {d : Cover} {x y : Place} → OpensCover v s d x y → settled y ≡ true → closed y ≡ true
closed_cover {y = y} o e = closed_of y e

closed_begun : {v : Surroundings} {t : Tree} {x y : Place} → Begins v x t y → closed y ≡ true
closed_begun {y = y} b = closed_of y b.ended

plain_placed : {v : Surroundings} {h l y : Here} {z : Place} (d : Cover) (e : Box Code Global) → l ≡ h → NoBrackets (place_of l) → d.expr ≡ e → Begins v (place_of l) (view_expr e.value) z → IsPlaced (told_expr e.value) (view_expr e.value) l y → IsPlacedCover d h y
plain_placed {v} {h} {l} {y} d e s n is q p =
    subst (λ w. IsPlacedCover d w y) s
    (placed_cover (ap (λ j. is_literal (view_expr j.value)) is ∙ plain_unlike (view_expr e.value) n q) (subst (λ j. IsPlaced (told_expr j.value) (view_expr j.value) l y) (sym is) p))

-- ---- what opens it

pub open-returns-in_ok-import-in-Import-clause-read : goal.open-returns-in_ok-import-in-Import-clause-read
open-returns-in_ok-import-in-Import-clause-read g t c = opened_at c.args.opening opening.Import c.in-Import.is _ _ refl c.settled.ensures.expr c.settled.ensures.is_expr c.settled.ensures.may_turn c.in_ok-import-in-Import.ensures.read

pub open-returns-in_ok-import-in-Import-clause-span : goal.open-returns-in_ok-import-in-Import-clause-span
open-returns-in_ok-import-in-Import-clause-span g t c = span_as c.settled.ensures.expr c.in_ok-import-in-Import.ensures.span

pub open-returns-in_ok-import-in-Import-clause-placed : goal.open-returns-in_ok-import-in-Import-clause-placed
open-returns-in_ok-import-in-Import-clause-placed g t c = opened_placed c.args.opening opening.Import c.in-Import.is _ _ refl c.settled.ensures.expr c.in_ok-import-in-Import.ensures.read c.in_ok-import-in-Import.ensures.placed

pub open-returns-in_ok-import-in-Import-clause-ended : goal.open-returns-in_ok-import-in-Import-clause-ended
open-returns-in_ok-import-in-Import-clause-ended g t c = closed_behind c.in_ok-import-in-Import.ensures.read c.in_ok-import-in-Import.ensures.ended

pub open-returns-in_ok-import-in-Import-clause-settles : goal.open-returns-in_ok-import-in-Import-clause-settles
open-returns-in_ok-import-in-Import-clause-settles g t c = settles_by c.in_ok-import-in-Import.ensures.ended

pub open-returns-in_err-import-in-Import-clause-refused : goal.open-returns-in_err-import-in-Import-clause-refused
open-returns-in_err-import-in-Import-clause-refused g t c = passed _ c.in_err-import-in-Import.ensures.refused c.from_residual.ensures.1 (λ n. unopened_at c.args.opening opening.Import c.in-Import.is refl n)

pub open-returns-in_ok-new_expression-in-New-clause-read : goal.open-returns-in_ok-new_expression-in-New-clause-read
open-returns-in_ok-new_expression-in-New-clause-read g t c = opened_at c.args.opening opening.New c.in-New.is _ _ refl c.settled-in-New.ensures.expr c.settled-in-New.ensures.is_expr c.settled-in-New.ensures.may_turn c.in_ok-new_expression-in-New.ensures.read

pub open-returns-in_ok-new_expression-in-New-clause-span : goal.open-returns-in_ok-new_expression-in-New-clause-span
open-returns-in_ok-new_expression-in-New-clause-span g t c = span_as c.settled-in-New.ensures.expr c.in_ok-new_expression-in-New.ensures.span

pub open-returns-in_ok-new_expression-in-New-clause-placed : goal.open-returns-in_ok-new_expression-in-New-clause-placed
open-returns-in_ok-new_expression-in-New-clause-placed g t c = opened_placed c.args.opening opening.New c.in-New.is _ _ refl c.settled-in-New.ensures.expr c.in_ok-new_expression-in-New.ensures.read c.in_ok-new_expression-in-New.ensures.placed

pub open-returns-in_ok-new_expression-in-New-clause-ended : goal.open-returns-in_ok-new_expression-in-New-clause-ended
open-returns-in_ok-new_expression-in-New-clause-ended g t c = closed_behind c.in_ok-new_expression-in-New.ensures.read c.in_ok-new_expression-in-New.ensures.ended

pub open-returns-in_ok-new_expression-in-New-clause-settles : goal.open-returns-in_ok-new_expression-in-New-clause-settles
open-returns-in_ok-new_expression-in-New-clause-settles g t c = settles_by c.in_ok-new_expression-in-New.ensures.ended

pub open-returns-in_err-new_expression-in-New-clause-refused : goal.open-returns-in_err-new_expression-in-New-clause-refused
open-returns-in_err-new_expression-in-New-clause-refused g t c = passed _ c.in_err-new_expression-in-New.ensures.refused c.from_residual-in_err-new_expression-in-New.ensures.1 (λ n. unopened_at c.args.opening opening.New c.in-New.is refl n)

pub open-returns-in_ok-parenthesized-in-Paren-clause-read : goal.open-returns-in_ok-parenthesized-in-Paren-clause-read
open-returns-in_ok-parenthesized-in-Paren-clause-read g t c = opened_at c.args.opening opening.Paren c.in-Paren.is _ _ refl c.settled-in-Paren.ensures.expr c.settled-in-Paren.ensures.is_expr c.settled-in-Paren.ensures.may_turn c.in_ok-parenthesized-in-Paren.ensures.read

pub open-returns-in_ok-parenthesized-in-Paren-clause-span : goal.open-returns-in_ok-parenthesized-in-Paren-clause-span
open-returns-in_ok-parenthesized-in-Paren-clause-span g t c = span_as c.settled-in-Paren.ensures.expr c.in_ok-parenthesized-in-Paren.ensures.span

pub open-returns-in_ok-parenthesized-in-Paren-clause-placed : goal.open-returns-in_ok-parenthesized-in-Paren-clause-placed
open-returns-in_ok-parenthesized-in-Paren-clause-placed g t c = opened_placed c.args.opening opening.Paren c.in-Paren.is _ _ refl c.settled-in-Paren.ensures.expr c.in_ok-parenthesized-in-Paren.ensures.read c.in_ok-parenthesized-in-Paren.ensures.placed

pub open-returns-in_ok-parenthesized-in-Paren-clause-settles : goal.open-returns-in_ok-parenthesized-in-Paren-clause-settles
open-returns-in_ok-parenthesized-in-Paren-clause-settles g t c = settles_as c.settled-in-Paren.ensures.expr c.in_ok-parenthesized-in-Paren.ensures.settles

pub open-returns-in_err-parenthesized-in-Paren-clause-refused : goal.open-returns-in_err-parenthesized-in-Paren-clause-refused
open-returns-in_err-parenthesized-in-Paren-clause-refused g t c = passed _ c.in_err-parenthesized-in-Paren.ensures.refused c.from_residual-in_err-parenthesized-in-Paren.ensures.1 (λ n. unopened_at c.args.opening opening.Paren c.in-Paren.is refl n)

pub open-returns-in_ok-function_expression-in-Function-clause-read : goal.open-returns-in_ok-function_expression-in-Function-clause-read
open-returns-in_ok-function_expression-in-Function-clause-read g t c = opened_at c.args.opening opening.Function c.in-Function.is _ _ refl c.settled-in-Function.ensures.expr c.settled-in-Function.ensures.is_expr c.settled-in-Function.ensures.may_turn (sole_opened (opening_kind opening.Function) (opening_listed opening.Function (opening_staged opening.Function)) (opening_opens opening.Function) refl refl c.in_ok-function_expression-in-Function.ensures.read)

pub open-returns-in_ok-function_expression-in-Function-clause-span : goal.open-returns-in_ok-function_expression-in-Function-clause-span
open-returns-in_ok-function_expression-in-Function-clause-span g t c = span_as c.settled-in-Function.ensures.expr c.in_ok-function_expression-in-Function.ensures.span

pub open-returns-in_ok-function_expression-in-Function-clause-placed : goal.open-returns-in_ok-function_expression-in-Function-clause-placed
open-returns-in_ok-function_expression-in-Function-clause-placed g t c = opened_placed c.args.opening opening.Function c.in-Function.is _ _ refl c.settled-in-Function.ensures.expr (sole_opened (opening_kind opening.Function) (opening_listed opening.Function (opening_staged opening.Function)) (opening_opens opening.Function) refl refl c.in_ok-function_expression-in-Function.ensures.read) c.in_ok-function_expression-in-Function.ensures.placed

pub open-returns-in_ok-function_expression-in-Function-clause-ended : goal.open-returns-in_ok-function_expression-in-Function-clause-ended
open-returns-in_ok-function_expression-in-Function-clause-ended g t c = closed_behind (sole_opened (opening_kind opening.Function) (opening_listed opening.Function (opening_staged opening.Function)) (opening_opens opening.Function) refl refl c.in_ok-function_expression-in-Function.ensures.read) c.in_ok-function_expression-in-Function.ensures.ended

pub open-returns-in_ok-function_expression-in-Function-clause-settles : goal.open-returns-in_ok-function_expression-in-Function-clause-settles
open-returns-in_ok-function_expression-in-Function-clause-settles g t c = settles_by c.in_ok-function_expression-in-Function.ensures.ended

pub open-returns-in_err-function_expression-in-Function-clause-refused : goal.open-returns-in_err-function_expression-in-Function-clause-refused
open-returns-in_err-function_expression-in-Function-clause-refused g t c = passed _ c.in_err-function_expression-in-Function.ensures.refused c.from_residual-in_err-function_expression-in-Function.ensures.1 (λ n. unopened_at c.args.opening opening.Function c.in-Function.is refl (sole_none (opening_kind opening.Function) (opening_listed opening.Function (opening_staged opening.Function)) (opening_opens opening.Function) refl refl n))

pub open-returns-in_ok-class_expression-in-Class-clause-read : goal.open-returns-in_ok-class_expression-in-Class-clause-read
open-returns-in_ok-class_expression-in-Class-clause-read g t c = opened_at c.args.opening opening.Class c.in-Class.is _ _ refl c.settled-in-Class.ensures.expr c.settled-in-Class.ensures.is_expr c.settled-in-Class.ensures.may_turn (sole_parts (opening_kind opening.Class) (opening_listed opening.Class (opening_staged opening.Class)) (opening_opens opening.Class) refl c.in_ok-class_expression-in-Class.ensures.read)

pub open-returns-in_ok-class_expression-in-Class-clause-span : goal.open-returns-in_ok-class_expression-in-Class-clause-span
open-returns-in_ok-class_expression-in-Class-clause-span g t c = span_as c.settled-in-Class.ensures.expr c.in_ok-class_expression-in-Class.ensures.span

pub open-returns-in_ok-class_expression-in-Class-clause-placed : goal.open-returns-in_ok-class_expression-in-Class-clause-placed
open-returns-in_ok-class_expression-in-Class-clause-placed g t c = opened_placed c.args.opening opening.Class c.in-Class.is _ _ refl c.settled-in-Class.ensures.expr (sole_parts (opening_kind opening.Class) (opening_listed opening.Class (opening_staged opening.Class)) (opening_opens opening.Class) refl c.in_ok-class_expression-in-Class.ensures.read) c.in_ok-class_expression-in-Class.ensures.placed

pub open-returns-in_ok-class_expression-in-Class-clause-ended : goal.open-returns-in_ok-class_expression-in-Class-clause-ended
open-returns-in_ok-class_expression-in-Class-clause-ended g t c = closed_behind (sole_parts (opening_kind opening.Class) (opening_listed opening.Class (opening_staged opening.Class)) (opening_opens opening.Class) refl c.in_ok-class_expression-in-Class.ensures.read) c.in_ok-class_expression-in-Class.ensures.ended

pub open-returns-in_ok-class_expression-in-Class-clause-settles : goal.open-returns-in_ok-class_expression-in-Class-clause-settles
open-returns-in_ok-class_expression-in-Class-clause-settles g t c = settles_by c.in_ok-class_expression-in-Class.ensures.ended

pub open-returns-in_err-class_expression-in-Class-clause-refused : goal.open-returns-in_err-class_expression-in-Class-clause-refused
open-returns-in_err-class_expression-in-Class-clause-refused g t c = passed _ c.in_err-class_expression-in-Class.ensures.refused c.from_residual-in_err-class_expression-in-Class.ensures.1 (λ n. unopened_at c.args.opening opening.Class c.in-Class.is refl (no_sole_parts (opening_kind opening.Class) (opening_listed opening.Class (opening_staged opening.Class)) (opening_opens opening.Class) refl n))

pub open-returns-in_ok-super_expression-in-Super-clause-read : goal.open-returns-in_ok-super_expression-in-Super-clause-read
open-returns-in_ok-super_expression-in-Super-clause-read g t c = opened_at c.args.opening opening.Super c.in-Super.is _ _ refl c.settled-in-Super.ensures.expr c.settled-in-Super.ensures.is_expr c.settled-in-Super.ensures.may_turn c.in_ok-super_expression-in-Super.ensures.read

pub open-returns-in_ok-super_expression-in-Super-clause-span : goal.open-returns-in_ok-super_expression-in-Super-clause-span
open-returns-in_ok-super_expression-in-Super-clause-span g t c = span_as c.settled-in-Super.ensures.expr c.in_ok-super_expression-in-Super.ensures.span

pub open-returns-in_ok-super_expression-in-Super-clause-placed : goal.open-returns-in_ok-super_expression-in-Super-clause-placed
open-returns-in_ok-super_expression-in-Super-clause-placed g t c = opened_placed c.args.opening opening.Super c.in-Super.is _ _ refl c.settled-in-Super.ensures.expr c.in_ok-super_expression-in-Super.ensures.read c.in_ok-super_expression-in-Super.ensures.placed

pub open-returns-in_ok-super_expression-in-Super-clause-ended : goal.open-returns-in_ok-super_expression-in-Super-clause-ended
open-returns-in_ok-super_expression-in-Super-clause-ended g t c = closed_behind c.in_ok-super_expression-in-Super.ensures.read c.in_ok-super_expression-in-Super.ensures.ended

pub open-returns-in_ok-super_expression-in-Super-clause-settles : goal.open-returns-in_ok-super_expression-in-Super-clause-settles
open-returns-in_ok-super_expression-in-Super-clause-settles g t c = settles_by c.in_ok-super_expression-in-Super.ensures.ended

pub open-returns-in_err-super_expression-in-Super-clause-refused : goal.open-returns-in_err-super_expression-in-Super-clause-refused
open-returns-in_err-super_expression-in-Super-clause-refused g t c = passed _ c.in_err-super_expression-in-Super.ensures.refused c.from_residual-in_err-super_expression-in-Super.ensures.1 (λ n. unopened_at c.args.opening opening.Super c.in-Super.is refl n)

pub open-returns-in_ok-unary-in-Unary-clause-read : goal.open-returns-in_ok-unary-in-Unary-clause-read
open-returns-in_ok-unary-in-Unary-clause-read g t c = opened_at c.args.opening (opening.Unary c.in-Unary.operator) c.in-Unary.is _ _ (unary_sign (unary_of c.in-Unary.operator)) c.settled-in-Unary.ensures.expr c.settled-in-Unary.ensures.is_expr c.settled-in-Unary.ensures.may_turn (sole_opened (opening_kind (opening.Unary c.in-Unary.operator)) (opening_listed (opening.Unary c.in-Unary.operator) (opening_staged (opening.Unary c.in-Unary.operator))) (opening_opens (opening.Unary c.in-Unary.operator)) refl (unary_free (unary_of c.in-Unary.operator)) c.in_ok-unary-in-Unary.ensures.read)

pub open-returns-in_ok-unary-in-Unary-clause-span : goal.open-returns-in_ok-unary-in-Unary-clause-span
open-returns-in_ok-unary-in-Unary-clause-span g t c = span_as c.settled-in-Unary.ensures.expr c.in_ok-unary-in-Unary.ensures.span

pub open-returns-in_ok-unary-in-Unary-clause-placed : goal.open-returns-in_ok-unary-in-Unary-clause-placed
open-returns-in_ok-unary-in-Unary-clause-placed g t c = opened_placed c.args.opening (opening.Unary c.in-Unary.operator) c.in-Unary.is _ _ (unary_sign (unary_of c.in-Unary.operator)) c.settled-in-Unary.ensures.expr (sole_opened (opening_kind (opening.Unary c.in-Unary.operator)) (opening_listed (opening.Unary c.in-Unary.operator) (opening_staged (opening.Unary c.in-Unary.operator))) (opening_opens (opening.Unary c.in-Unary.operator)) refl (unary_free (unary_of c.in-Unary.operator)) c.in_ok-unary-in-Unary.ensures.read) c.in_ok-unary-in-Unary.ensures.placed

pub open-returns-in_ok-unary-in-Unary-clause-ended : goal.open-returns-in_ok-unary-in-Unary-clause-ended
open-returns-in_ok-unary-in-Unary-clause-ended g t c = closed_behind (sole_opened (opening_kind (opening.Unary c.in-Unary.operator)) (opening_listed (opening.Unary c.in-Unary.operator) (opening_staged (opening.Unary c.in-Unary.operator))) (opening_opens (opening.Unary c.in-Unary.operator)) refl (unary_free (unary_of c.in-Unary.operator)) c.in_ok-unary-in-Unary.ensures.read) c.in_ok-unary-in-Unary.ensures.ended

pub open-returns-in_ok-unary-in-Unary-clause-settles : goal.open-returns-in_ok-unary-in-Unary-clause-settles
open-returns-in_ok-unary-in-Unary-clause-settles g t c = settles_by c.in_ok-unary-in-Unary.ensures.ended

pub open-returns-in_err-unary-in-Unary-clause-refused : goal.open-returns-in_err-unary-in-Unary-clause-refused
open-returns-in_err-unary-in-Unary-clause-refused g t c = passed _ c.in_err-unary-in-Unary.ensures.refused c.from_residual-in_err-unary-in-Unary.ensures.1 (λ n. unopened_at c.args.opening (opening.Unary c.in-Unary.operator) c.in-Unary.is (unary_sign (unary_of c.in-Unary.operator)) (sole_none (opening_kind (opening.Unary c.in-Unary.operator)) (opening_listed (opening.Unary c.in-Unary.operator) (opening_staged (opening.Unary c.in-Unary.operator))) (opening_opens (opening.Unary c.in-Unary.operator)) refl (unary_free (unary_of c.in-Unary.operator)) n))

pub open-returns-in_ok-prefix_update-in-Update-clause-read : goal.open-returns-in_ok-prefix_update-in-Update-clause-read
open-returns-in_ok-prefix_update-in-Update-clause-read g t c = opened_at c.args.opening (opening.Update c.in-Update.operator) c.in-Update.is _ _ (update_sign (step_of c.in-Update.operator)) c.settled-in-Update.ensures.expr c.settled-in-Update.ensures.is_expr c.settled-in-Update.ensures.may_turn (sole_opened (opening_kind (opening.Update c.in-Update.operator)) (opening_listed (opening.Update c.in-Update.operator) (opening_staged (opening.Update c.in-Update.operator))) (opening_opens (opening.Update c.in-Update.operator)) refl refl (kept_opening (opening.Update c.in-Update.operator) refl c.in_ok-prefix_update-in-Update.ensures.read))

pub open-returns-in_ok-prefix_update-in-Update-clause-span : goal.open-returns-in_ok-prefix_update-in-Update-clause-span
open-returns-in_ok-prefix_update-in-Update-clause-span g t c = span_as c.settled-in-Update.ensures.expr c.in_ok-prefix_update-in-Update.ensures.span

pub open-returns-in_ok-prefix_update-in-Update-clause-placed : goal.open-returns-in_ok-prefix_update-in-Update-clause-placed
open-returns-in_ok-prefix_update-in-Update-clause-placed g t c = opened_placed c.args.opening (opening.Update c.in-Update.operator) c.in-Update.is _ _ (update_sign (step_of c.in-Update.operator)) c.settled-in-Update.ensures.expr (sole_opened (opening_kind (opening.Update c.in-Update.operator)) (opening_listed (opening.Update c.in-Update.operator) (opening_staged (opening.Update c.in-Update.operator))) (opening_opens (opening.Update c.in-Update.operator)) refl refl (kept_opening (opening.Update c.in-Update.operator) refl c.in_ok-prefix_update-in-Update.ensures.read)) c.in_ok-prefix_update-in-Update.ensures.placed

pub open-returns-in_ok-prefix_update-in-Update-clause-ended : goal.open-returns-in_ok-prefix_update-in-Update-clause-ended
open-returns-in_ok-prefix_update-in-Update-clause-ended g t c = closed_behind (sole_opened (opening_kind (opening.Update c.in-Update.operator)) (opening_listed (opening.Update c.in-Update.operator) (opening_staged (opening.Update c.in-Update.operator))) (opening_opens (opening.Update c.in-Update.operator)) refl refl (kept_opening (opening.Update c.in-Update.operator) refl c.in_ok-prefix_update-in-Update.ensures.read)) c.in_ok-prefix_update-in-Update.ensures.ended

pub open-returns-in_ok-prefix_update-in-Update-clause-settles : goal.open-returns-in_ok-prefix_update-in-Update-clause-settles
open-returns-in_ok-prefix_update-in-Update-clause-settles g t c = settles_by c.in_ok-prefix_update-in-Update.ensures.ended

pub open-returns-in_err-prefix_update-in-Update-clause-refused : goal.open-returns-in_err-prefix_update-in-Update-clause-refused
open-returns-in_err-prefix_update-in-Update-clause-refused g t c = passed _ c.in_err-prefix_update-in-Update.ensures.refused c.from_residual-in_err-prefix_update-in-Update.ensures.1 (λ n. unopened_at c.args.opening (opening.Update c.in-Update.operator) c.in-Update.is (update_sign (step_of c.in-Update.operator)) (sole_none (opening_kind (opening.Update c.in-Update.operator)) (opening_listed (opening.Update c.in-Update.operator) (opening_staged (opening.Update c.in-Update.operator))) (opening_opens (opening.Update c.in-Update.operator)) refl refl (no_node n)))

pub open-returns-in_ok-array-in-Array-clause-read : goal.open-returns-in_ok-array-in-Array-clause-read
open-returns-in_ok-array-in-Array-clause-read g t c = opens_as c.args.opening opening.Array c.in-Array.is c.in_ok-array-in-Array.ensures.read

pub open-returns-in_ok-array-in-Array-clause-placed : goal.open-returns-in_ok-array-in-Array-clause-placed
open-returns-in_ok-array-in-Array-clause-placed g t c = opens_placed c.args.opening opening.Array c.in-Array.is c.in_ok-array-in-Array.ensures.placed

pub open-returns-in_ok-array-in-Array-clause-ended : goal.open-returns-in_ok-array-in-Array-clause-ended
open-returns-in_ok-array-in-Array-clause-ended g t c = closed_cover c.in_ok-array-in-Array.ensures.read c.in_ok-array-in-Array.ensures.ended

pub open-returns-in_ok-array-in-Array-clause-settles : goal.open-returns-in_ok-array-in-Array-clause-settles
open-returns-in_ok-array-in-Array-clause-settles g t c = settles_by c.in_ok-array-in-Array.ensures.ended

pub open-returns-in_err-array-in-Array-clause-refused : goal.open-returns-in_err-array-in-Array-clause-refused
open-returns-in_err-array-in-Array-clause-refused g t c = passed _ c.in_err-array-in-Array.ensures.refused c.from_residual-in_err-array-in-Array.ensures.1 (λ n. unopens_as c.args.opening opening.Array c.in-Array.is n)

pub open-returns-in_ok-object-in-Object-clause-read : goal.open-returns-in_ok-object-in-Object-clause-read
open-returns-in_ok-object-in-Object-clause-read g t c = opens_as c.args.opening opening.Object c.in-Object.is c.in_ok-object-in-Object.ensures.read

pub open-returns-in_ok-object-in-Object-clause-placed : goal.open-returns-in_ok-object-in-Object-clause-placed
open-returns-in_ok-object-in-Object-clause-placed g t c = opens_placed c.args.opening opening.Object c.in-Object.is c.in_ok-object-in-Object.ensures.placed

pub open-returns-in_ok-object-in-Object-clause-ended : goal.open-returns-in_ok-object-in-Object-clause-ended
open-returns-in_ok-object-in-Object-clause-ended g t c = closed_cover c.in_ok-object-in-Object.ensures.read c.in_ok-object-in-Object.ensures.ended

pub open-returns-in_ok-object-in-Object-clause-settles : goal.open-returns-in_ok-object-in-Object-clause-settles
open-returns-in_ok-object-in-Object-clause-settles g t c = settles_by c.in_ok-object-in-Object.ensures.ended

pub open-returns-in_err-object-in-Object-clause-refused : goal.open-returns-in_err-object-in-Object-clause-refused
open-returns-in_err-object-in-Object-clause-refused g t c = passed _ c.in_err-object-in-Object.ensures.refused c.from_residual-in_err-object-in-Object.ensures.1 (λ n. unopens_as c.args.opening opening.Object c.in-Object.is n)

-- ---- what begins so

pub beginning-primary-requires-clause-opening : goal.beginning-primary-requires-clause-opening
beginning-primary-requires-clause-opening g t c = subst (λ h. NoOpening (place_of h)) (sym (c.is_before_template.ensures.stays ∙ c.in_default.ensures.stays)) c.in_default.ensures.missing

pub beginning-primary-requires-clause-template : goal.beginning-primary-requires-clause-template
beginning-primary-requires-clause-template g t c = subst (λ h. is_quoted (next_token Operator h) ≡ false) (sym c.is_before_template.ensures.stays) (sym c.is_before_template.ensures.ahead ∙ c.if-is_before_template.false)

pub beginning-untagged-requires-clause-quoted : goal.beginning-untagged-requires-clause-quoted
beginning-untagged-requires-clause-quoted g t c =
    subst (λ h. is_quoted (next_token Operator h) ≡ true) (sym c.is_before_template.ensures.stays) (sym c.is_before_template.ensures.ahead ∙ c.if-is_before_template.true)

pub beginning-returns-in-Some-clause-read : goal.beginning-returns-in-Some-clause-read
beginning-returns-in-Some-clause-read g t c =
    let g = c.in-Some.opening in
    cover_begins (opening_kind g) (opening_listed g c.in-Some.ensures.staged) (opening_opens g) (record { is = c.in-Some.ensures.taken; found = refl }) c.in_ok-open.ensures.ended c.in_ok-open.ensures.settles c.in_ok-open.ensures.read

pub beginning-returns-in_err-levels-clause-refused : goal.beginning-returns-in_err-levels-clause-refused
beginning-returns-in_err-levels-clause-refused g t c = passed _ c.in_err-levels.ensures.refused c.from_residual.ensures.1 (λ b. deep_cover_begins b)

pub beginning-returns-in_err-open-clause-refused : goal.beginning-returns-in_err-open-clause-refused
beginning-returns-in_err-open-clause-refused g t c =
    let g = c.in-Some.opening in
    passed_in _ c.in_ok-levels.ensures.levels c.in_err-open.ensures.refused c.from_residual-in_err-open.ensures.1 (λ n. no_cover_begins (opening_kind g) (opening_listed g c.in-Some.ensures.staged) (opening_opens g) (record { is = c.in-Some.ensures.taken; found = refl }) n)

pub beginning-returns-then-is_before_template-clause-read : goal.beginning-returns-then-is_before_template-clause-read
beginning-returns-then-is_before_template-clause-read g t c = plain_read _ _ (c.is_before_template.ensures.stays ∙ c.in_default.ensures.stays) (brackets_quoted (quoted_to c.is_before_template.ensures.stays c.is_before_template.ensures.ahead c.if-is_before_template.true)) c.settled.ensures.expr c.settled.ensures.is_expr c.settled.ensures.may_turn c.in_ok-untagged.ensures.read

pub beginning-returns-then-is_before_template-clause-span : goal.beginning-returns-then-is_before_template-clause-span
beginning-returns-then-is_before_template-clause-span g t c = plain_span (c.is_before_template.ensures.stays ∙ c.in_default.ensures.stays) c.settled.ensures.expr c.in_ok-untagged.ensures.span

pub beginning-returns-then-is_before_template-clause-placed : goal.beginning-returns-then-is_before_template-clause-placed
beginning-returns-then-is_before_template-clause-placed g t c = plain_placed _ _ (c.is_before_template.ensures.stays ∙ c.in_default.ensures.stays) (brackets_quoted (quoted_to c.is_before_template.ensures.stays c.is_before_template.ensures.ahead c.if-is_before_template.true)) c.settled.ensures.expr c.in_ok-untagged.ensures.read c.in_ok-untagged.ensures.placed

pub beginning-returns-then-is_before_template-clause-ended : goal.beginning-returns-then-is_before_template-clause-ended
beginning-returns-then-is_before_template-clause-ended g t c = closed_begun c.in_ok-untagged.ensures.read

pub beginning-returns-then-is_before_template-clause-settles : goal.beginning-returns-then-is_before_template-clause-settles
beginning-returns-then-is_before_template-clause-settles g t c = settles_by c.in_ok-untagged.ensures.read.ended

pub beginning-returns-in_err-untagged-clause-refused : goal.beginning-returns-in_err-untagged-clause-refused
beginning-returns-in_err-untagged-clause-refused g t c = passed _ c.in_err-untagged.ensures.refused c.from_residual-in_err-untagged.ensures.1 (λ n. plain_none (c.is_before_template.ensures.stays ∙ c.in_default.ensures.stays) (brackets_quoted (quoted_to c.is_before_template.ensures.stays c.is_before_template.ensures.ahead c.if-is_before_template.true)) n)

pub beginning-returns-clause-read : goal.beginning-returns-clause-read
beginning-returns-clause-read g t c = plain_read _ _ (c.is_before_template.ensures.stays ∙ c.in_default.ensures.stays) (brackets_unopened (subst (λ h. NoOpening (place_of h)) (sym (c.is_before_template.ensures.stays ∙ c.in_default.ensures.stays)) c.in_default.ensures.missing)) c.settled-2.ensures.expr c.settled-2.ensures.is_expr c.settled-2.ensures.may_turn c.in_ok-primary.ensures.read

pub beginning-returns-clause-span : goal.beginning-returns-clause-span
beginning-returns-clause-span g t c = plain_span (c.is_before_template.ensures.stays ∙ c.in_default.ensures.stays) c.settled-2.ensures.expr c.in_ok-primary.ensures.span

pub beginning-returns-clause-placed : goal.beginning-returns-clause-placed
beginning-returns-clause-placed g t c = plain_placed _ _ (c.is_before_template.ensures.stays ∙ c.in_default.ensures.stays) (brackets_unopened (subst (λ h. NoOpening (place_of h)) (sym (c.is_before_template.ensures.stays ∙ c.in_default.ensures.stays)) c.in_default.ensures.missing)) c.settled-2.ensures.expr c.in_ok-primary.ensures.read c.in_ok-primary.ensures.placed

pub beginning-returns-clause-ended : goal.beginning-returns-clause-ended
beginning-returns-clause-ended g t c = closed_begun c.in_ok-primary.ensures.read

pub beginning-returns-clause-settles : goal.beginning-returns-clause-settles
beginning-returns-clause-settles g t c = settles_by c.in_ok-primary.ensures.read.ended

pub beginning-returns-in_err-primary-clause-refused : goal.beginning-returns-in_err-primary-clause-refused
beginning-returns-in_err-primary-clause-refused g t c = passed _ c.in_err-primary.ensures.refused c.from_residual-in_err-primary.ensures.1 (λ n. plain_none (c.is_before_template.ensures.stays ∙ c.in_default.ensures.stays) (brackets_unopened (subst (λ h. NoOpening (place_of h)) (sym (c.is_before_template.ensures.stays ∙ c.in_default.ensures.stays)) c.in_default.ensures.missing)) n)

-- ---- what `new` stands before

pub callee-returns-in_err-first-clause-refused : goal.callee-returns-in_err-first-clause-refused
callee-returns-in_err-first-clause-refused g t c = passed _ c.in_err-first.ensures.refused c.from_residual.ensures.1 (λ n. n.none.on callee refl)

pub callee-returns-in_err-expr-clause-refused : goal.callee-returns-in_err-expr-clause-refused
callee-returns-in_err-expr-clause-refused g t c = passed_plain _ c.in_err-expr.ensures.refused c.from_residual-in_err-expr.ensures.1 (λ e. callee_unsettled e c.in_ok-first.ensures.read)

pub callee-members-init : goal.callee-members-init
callee-members-init g t c = record {
  so_far = callee_begins c.in_ok-expr.ensures.expr c.in_ok-expr.ensures.is (ap (λ e. rises callee (view_expr e)) (sym c.deref.ensures) ∙ (sym c.is_callee.ensures ∙ c.if-not-is_callee.false)) c.in_ok-first.ensures.settles c.in_ok-first.ensures.read;
  span = settled_span c.in_ok-expr.ensures.expr c.in_ok-first.ensures.span;
  placed = settled_placed c.in_ok-expr.ensures.expr c.in_ok-expr.ensures.is c.in_ok-first.ensures.placed;
  within = c.in_ok-first.ensures.shorter;
}

pub callee-returns-then-not-is_callee-clause-refused : goal.callee-returns-then-not-is_callee-clause-refused
callee-returns-then-not-is_callee-clause-refused g t c = record {
  bars = λ _ _ _. callee_unfit c.in_ok-expr.ensures.expr c.in_ok-expr.ensures.is (ap (λ e. rises callee (view_expr e)) (sym c.deref.ensures) ∙ (sym c.is_callee.ensures ∙ c.if-not-is_callee.true)) c.in_ok-first.ensures.read;
}

pub callee-returns-in_default-clause-read : goal.callee-returns-in_default-clause-read
callee-returns-in_default-clause-read g t c =
    let e = c.is_before_template.ensures.stays in
    let here = climbs_to e c.members.invariant.so_far in
    subst (λ p. Only so_far (around_of c.args.context.around) (Part NewCallee) (place_of c.args.lexer.now) (one (view_expr c.members.expr.value)) p) (sym (ap place_of c.in_default.ensures.stays))
    (climb_only callee refl here (stopped callee c.is_before_template.new.self refl here.ended c.in_default.ensures.missing refl (unquoted_to e c.is_before_template.ensures.ahead c.if-is_before_template.false)))

pub callee-returns-in_default-clause-placed : goal.callee-returns-in_default-clause-placed
callee-returns-in_default-clause-placed g t c = placed_to (c.in_default.ensures.stays ∙ c.is_before_template.ensures.stays) c.members.invariant.placed

pub callee-returns-in_default-clause-ended : goal.callee-returns-in_default-clause-ended
callee-returns-in_default-clause-ended g t c = subst (λ h. settled (place_of h) ≡ true) (sym (c.in_default.ensures.stays ∙ c.is_before_template.ensures.stays)) c.members.invariant.so_far.ended

pub callee-returns-in_err-expr-2-clause-refused : goal.callee-returns-in_err-expr-2-clause-refused
callee-returns-in_err-expr-2-clause-refused g t c =
    let e = c.is_before_template.ensures.stays in
    passed _ c.in_err-expr-2.ensures.refused c.from_residual-in_err-expr-2.ensures.1 (λ n. tagged_unread callee refl (climbs_to e c.members.invariant.so_far) (quoted_to e c.is_before_template.ensures.ahead c.if-is_before_template.true) n)

pub callee-members-preserved-then-is_before_template : goal.callee-members-preserved-then-is_before_template
callee-members-preserved-then-is_before_template g t c =
    let e = c.is_before_template.ensures.stays in
    let span = spans_from c.members.invariant.span refl refl (sym (ap end_of e)) in
    record {
      so_far = climb_tagged callee refl (climbs_to e c.members.invariant.so_far) (quoted_to e c.is_before_template.ensures.ahead c.if-is_before_template.true) c.in_ok-expr-2.ensures.fits c.in_ok-expr-2.ensures.read c.in_ok-expr-2.ensures.ended;
      span = c.in_ok-expr-2.ensures.span.on _ _ span;
      placed = c.in_ok-expr-2.ensures.placed.on _ span (placed_to e c.members.invariant.placed);
      within = omega (arith, c.in_ok-expr-2.ensures.shorter, ap left e, c.members.invariant.within);
    }

pub callee-returns-then-not-fits-clause-refused : goal.callee-returns-then-not-fits-clause-refused
callee-returns-then-not-fits-clause-refused g t c = record {
  bars = λ _ _ _.
      let g = c.in-Some.growth in
      climb_unfit callee (growth_kind g) refl (growth_listed g) (growth_marks g) (climbs_to c.is_before_template.ensures.stays c.members.invariant.so_far) c.in-Some.ensures.on_line (record { is = c.in-Some.ensures.taken; found = refl }) c.in-Some.ensures.reaches
      (ap (λ e. fits (growth_kind g) (view_expr e)) (sym c.deref-else-is_before_template.ensures) ∙ (sym c.fits.ensures ∙ c.if-not-fits.true));
}

pub callee-returns-in_err-levels-clause-refused : goal.callee-returns-in_err-levels-clause-refused
callee-returns-in_err-levels-clause-refused g t c =
    let g = c.in-Some.growth in
    passed _ (outgrown_as (ap view_expr c.deref-else-is_before_template-2.ensures) c.in_err-levels.ensures.refused) c.from_residual-in_err-levels.ensures.1
    (λ o. climb_outgrown callee (growth_kind g) _ refl (growth_listed g) (growth_marks g) (climbs_to c.is_before_template.ensures.stays c.members.invariant.so_far) c.in-Some.ensures.on_line (record { is = c.in-Some.ensures.taken; found = refl }) c.in-Some.ensures.reaches o)

pub callee-returns-in_err-expr-3-clause-refused : goal.callee-returns-in_err-expr-3-clause-refused
callee-returns-in_err-expr-3-clause-refused g t c =
    let g = c.in-Some.growth in
    passed_in _ c.in_ok-levels.ensures.levels c.in_err-expr-3.ensures.refused c.from_residual-in_err-expr-3.ensures.1 (λ n. climb_barred callee (growth_kind g) refl (growth_listed g) (growth_marks g) (climbs_to c.is_before_template.ensures.stays c.members.invariant.so_far) c.in-Some.ensures.on_line (record { is = c.in-Some.ensures.taken; found = refl }) c.in-Some.ensures.reaches n)

pub callee-members-preserved : goal.callee-members-preserved
callee-members-preserved g t c =
    let g = c.in-Some.growth in
    let e = c.is_before_template.ensures.stays in
    let span = spans_from c.members.invariant.span refl refl (sym (ap end_of e)) in
    record {
      so_far = climb_on callee (growth_kind g) refl (growth_listed g) (growth_marks g) (climbs_to e c.members.invariant.so_far) c.in-Some.ensures.on_line (record { is = c.in-Some.ensures.taken; found = refl }) c.in-Some.ensures.reaches
          (ap (λ e. fits (growth_kind g) (view_expr e)) (sym c.deref-else-is_before_template.ensures) ∙ (sym c.fits.ensures ∙ c.if-not-fits.false)) c.in_ok-expr-3.ensures.read (c.in_ok-expr-3.ensures.settles.on (callee_high (growth_kind g) c.in-Some.ensures.reaches));
      span = c.in_ok-expr-3.ensures.span.on _ _ span;
      placed = c.in_ok-expr-3.ensures.placed.on _ _ span (placed_to e c.members.invariant.placed) c.in-Some.ensures.takes;
      within = omega (arith, c.in_ok-expr-3.ensures.within, c.in-Some.ensures.shorter, ap left e, c.members.invariant.within);
    }

-- what begins with `new`

pub new_expression-returns-in_err-expect-clause-refused : goal.new_expression-returns-in_err-expect-clause-refused
new_expression-returns-in_err-expect-clause-refused g t c = passed _ c.in_err-expect.ensures.refused c.from_residual.ensures.1 (λ b. target_unread (record { is = c.take.ensures.taken c.if-take.true; found = refl }) b)

pub new_expression-returns-then-not-context-clause-refused : goal.new_expression-returns-then-not-context-clause-refused
new_expression-returns-then-not-context-clause-refused g t c = record { bars = λ _ _ _. target_outside c.if-not-context.true (record { is = c.take.ensures.taken c.if-take.true; found = refl }) }

pub new_expression-returns-then-take-clause-read : goal.new_expression-returns-then-take-clause-read
new_expression-returns-then-take-clause-read g t c = target_opened c.if-not-context.false (record { is = c.take.ensures.taken c.if-take.true; found = refl }) c.in_ok-expect.ensures.read refl c.in_ok-constant.ensures.view

pub new_expression-returns-then-take-clause-ended : goal.new_expression-returns-then-take-clause-ended
new_expression-returns-then-take-clause-ended g t c = sign_ended c.in_ok-expect.ensures.read.past

pub new_expression-returns-then-take-clause-placed : goal.new_expression-returns-then-take-clause-placed
new_expression-returns-then-take-clause-placed g t c = record {
  on = λ w sign begins. placed_as c.in_ok-constant.ensures.told c.in_ok-constant.ensures.view (target_row sign (c.take.ensures.takes c.if-take.true) c.in_ok-expect.ensures.takes (spans_from c.span_to.ensures refl (c.last_place-lo.ensures ∙ begins) refl));
}

pub new_expression-returns-in_err-callee-clause-refused : goal.new_expression-returns-in_err-callee-clause-refused
new_expression-returns-in_err-callee-clause-refused g t c = passed _ c.in_err-callee.ensures.refused c.from_residual-in_err-callee.ensures.1
    (λ b. callee_unread (record { same = sym (ap place_of (c.take.ensures.stays c.if-take.false)); stuck = record { is = c.take.ensures.missing c.if-take.false } }) b)

pub new_expression-returns-then-not-take-clause-read : goal.new_expression-returns-then-not-take-clause-read
new_expression-returns-then-not-take-clause-read g t c =
    without_opened (record { same = sym (ap place_of (c.take.ensures.stays c.if-take.false)); stuck = record { is = c.take.ensures.missing c.if-take.false } }) c.in_ok-callee.ensures.read
    (record { same = sym (ap place_of (c.take-2.ensures.stays c.if-not-take.true)); stuck = record { is = c.take-2.ensures.missing c.if-not-take.true } }) c.in_ok-new_without_arguments.ensures.view

pub new_expression-returns-then-not-take-clause-span : goal.new_expression-returns-then-not-take-clause-span
new_expression-returns-then-not-take-clause-span g t c = spans_from c.span_to-then-not-take.ensures c.in_ok-new_without_arguments.ensures.span c.last_place-lo.ensures refl

pub new_expression-returns-then-not-take-clause-ended : goal.new_expression-returns-then-not-take-clause-ended
new_expression-returns-then-not-take-clause-ended g t c = subst (λ h. settled (place_of h) ≡ true) (sym (c.take-2.ensures.stays c.if-not-take.true)) c.in_ok-callee.ensures.ended

pub new_expression-returns-then-not-take-clause-placed : goal.new_expression-returns-then-not-take-clause-placed
new_expression-returns-then-not-take-clause-placed g t c = record {
  on = λ w sign begins.
      placed_as c.in_ok-new_without_arguments.ensures.told c.in_ok-new_without_arguments.ensures.view
      (new_alone_row sign (placed_to (c.take-2.ensures.stays c.if-not-take.true) (placed_from (c.take.ensures.stays c.if-take.false) c.in_ok-callee.ensures.placed)) (spans_from c.span_to-then-not-take.ensures refl (c.last_place-lo.ensures ∙ begins) refl));
}

pub new_expression-returns-in_err-all-clause-refused : goal.new_expression-returns-in_err-all-clause-refused
new_expression-returns-in_err-all-clause-refused g t c = passed _ c.in_err-all.ensures.refused c.from_residual-in_err-all.ensures.1
    (λ n. arguments_unread (record { same = sym (ap place_of (c.take.ensures.stays c.if-take.false)); stuck = record { is = c.take.ensures.missing c.if-take.false } }) c.in_ok-callee.ensures.read (record { is = c.take-2.ensures.taken c.if-not-take.false; found = refl }) n)

pub new_expression-returns-clause-read : goal.new_expression-returns-clause-read
new_expression-returns-clause-read g t c =
    with_opened (record { same = sym (ap place_of (c.take.ensures.stays c.if-take.false)); stuck = record { is = c.take.ensures.missing c.if-take.false } }) c.in_ok-callee.ensures.read
    (record { is = c.take-2.ensures.taken c.if-not-take.false; found = refl }) c.in_ok-all.ensures.read c.in_ok-new_with_arguments.ensures.view

pub new_expression-returns-clause-placed : goal.new_expression-returns-clause-placed
new_expression-returns-clause-placed g t c = record {
  on = λ w sign begins.
      placed_as c.in_ok-new_with_arguments.ensures.told c.in_ok-new_with_arguments.ensures.view
      (new_row sign (placed_from (c.take.ensures.stays c.if-take.false) c.in_ok-callee.ensures.placed) (c.take-2.ensures.takes c.if-not-take.false) c.in_ok-all.ensures.placed (spans_from c.span_to-2.ensures refl (c.last_place-lo.ensures ∙ begins) refl));
}
