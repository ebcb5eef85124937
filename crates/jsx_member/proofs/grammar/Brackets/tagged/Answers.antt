use Rattle.std.proofs.Common.{◌≡◌, ℕ, suc, true, false, arith, refl, sym, ◌∙◌, ap, subst}
use Rattle.std.specs.Prelude.{Result, Err}
use Rattle.std.specs.Result.{IsErrAnd}
use Rattle.jsx_tree.specs.Faults.{Fault, outer}
use Rattle.jsx_operand.specs.declared.error.ParseError.{ParseError}
use Rattle.jsx_operand.specs.Answers.{Refused, fault_of}
use Rattle.jsx_tree.specs.Kinds.{expression, Tagged}
use Rattle.jsx_tree.specs.View.{view_expr}
use Rattle.jsx_make.specs.NodeSpans.{expr_at}
use Rattle.jsx_operand.specs.Climbing.{fits, level}
use Rattle.jsx_operand.specs.Spans.{Spans}
use Rattle.jsx_token.specs.Places.{end_of, next_of}
use Rattle.jsx_tree.proofs.Rows.Steps.{on, built_1}
use Rattle.jsx_tree.proofs.Apart.{clash}
use Rattle.std.proofs.lemmas.Bool.{le-leb, lt-leb}
use Rattle.jsx_operand.proofs.Places.{spans_from}
use Rattle.jsx_operand.proofs.Steps.{passed, passed_in}
use Rattle.jsx_operand.proofs.Templates.{tag_only}
use Rattle.jsx_operand.specs.Templates.{unread}
use Rattle.jsx_operand.proofs.Placing.{placed_as}
use Rattle.jsx_operand.proofs.PlacedExpressions.{tagged_row}
use Rattle.jsx_member.proofs.Parts.{deep_tag, outgrown_tag, unread_template}
use Rattle.jsx_member.proofs.grammar.Brackets.tagged.Goals as goal

-- an error from within two constructs that count
passed_twice : {T U : Type 0} (answer : Result T ParseError) {l m n : ℕ} {x : ParseError} {A B : Fault → Type 0} → suc n ≡ m → suc m ≡ l → Refused {T = U} n (Err x) A → IsErrAnd answer (λ y. y ≡ x) → (A (fault_of n x) → B (outer (outer (fault_of n x)))) → Refused l answer B
passed_twice {U = U} answer {x = x} {B = B} less more nope is f = passed_in {U = U} answer {B = B} more (passed_in {T = U} {U = U} (Err x) {B = λ e. B (outer e)} less nope refl f) is (λ b. b)

pub returns-then-level-lt18-clause-refused : goal.returns-then-level-lt18-clause-refused
returns-then-level-lt18-clause-refused g c = record {
  bars = λ _ _ _. unread (λ e. absurd (clash _ e (ap (λ x. fits (expression Tagged) (view_expr x)) (sym c.deref.ensures) ∙ lt-leb 18 (level (view_expr c.deref.result.now)) (omega (arith, c.level.ensures, c.if-level-lt18.true)))));
}

pub returns-clause-fits : goal.returns-clause-fits
returns-clause-fits g c = ap (λ x. fits (expression Tagged) (view_expr x)) (sym c.deref.ensures) ∙ le-leb 18 (level (view_expr c.deref.result.now)) (omega (arith, c.level.ensures, c.if-level-lt18.false))

pub returns-in_err-read-clause-refused : goal.returns-in_err-read-clause-refused
returns-in_err-read-clause-refused g c = passed_twice _ c.in_ok-levels-2.ensures.levels c.in_ok-levels.ensures.levels c.in_err-read.ensures.refused c.from_residual-in_err-read.ensures.1 (λ n. unread_template n)

pub returns-in_err-levels-clause-refused : goal.returns-in_err-levels-clause-refused
returns-in_err-levels-clause-refused g c = passed _ c.in_err-levels.ensures.refused c.from_residual.ensures.1 (λ o. outgrown_tag c.deref-2.ensures o)

pub returns-in_err-levels-2-clause-refused : goal.returns-in_err-levels-2-clause-refused
returns-in_err-levels-2-clause-refused g c = passed_in _ c.in_ok-levels.ensures.levels c.in_err-levels-2.ensures.refused c.from_residual-in_err-levels-2.ensures.1 (λ b. deep_tag _ b)

pub returns-clause-read : goal.returns-clause-read
returns-clause-read g c = built_1 refl (tag_only c.in_ok-read.ensures.read) c.in_ok-tagged.ensures.view

pub returns-clause-placed : goal.returns-clause-placed
returns-clause-placed g c = record {
  on = λ w s l.
      placed_as c.in_ok-tagged.ensures.told c.in_ok-tagged.ensures.view (tagged_row l (c.in_ok-read.ensures.placed.on _ (spans_from c.span_to-here.ensures refl c.in_ok-read.ensures.begins refl))
      (spans_from c.span_to-span.ensures refl (c.start_of.ensures.on _ _ (subst (λ e. Spans (expr_at e) (next_of w) (end_of c.args.lexer.now)) (sym c.deref-3.ensures) s)) refl));
}

-- ---- chains
