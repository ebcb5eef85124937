use Rattle.std.proofs.Common.{ap, false, map, refl, sym, ◌∙◌, subst}
use Rattle.jsx_tree.specs.Nonterminals.{Stmt}
use Rattle.jsx_tree.specs.Grammar.{Part, TopLines}
use Rattle.jsx_tree.specs.Told.{tales, told_stmt}
use Rattle.jsx_tree.specs.View.{forest, inside, view_stmt}
use Rattle.jsx_tree.specs.Walk.{one}
use Rattle.jsx_tree.specs.Answers.{Only}
use Rattle.jsx_tree.proofs.Rows.Lines.{Onto, onto_barred, onto_end, onto_more, onto_none}
use Rattle.jsx_token.specs.Here.{place_of}
use Rattle.jsx_operand.specs.Around.{around_of}
use Rattle.jsx_operand.specs.SoFar.{so_far}
use Rattle.jsx_operand.specs.Spans.{IsPlacedList}
use Rattle.jsx_operand.proofs.OfSoFar.{of_so_far}
use Rattle.jsx_operand.proofs.Steps.{passed}
use Rattle.jsx_operand.proofs.Trees.{pushed}
use Rattle.jsx_operand.proofs.Placing.{PlacedFront, front_last, front_more, front_none, list_none, list_to, map_pushed, placed_from, plain_top_lines}
use Rattle.jsx_syntax.proofs.Programs.{no_statement_at_end}
use Rattle.jsx_syntax.proofs.Items.{barred_from}
use Rattle.jsx_syntax.proofs.module.statements.Goals as goal

pub statements-init : goal.statements-init
statements-init c = record {
  so_far = subst (λ xs. Onto so_far (around_of c.args.context.around) Stmt (place_of c.args.lexer.now) (place_of c.args.lexer.now) (forest (map (inside view_stmt) xs))) (sym c.new-all.ensures.items) onto_none;
  placed = subst (λ xs. PlacedFront false TopLines (map (inside told_stmt) xs) (map (inside view_stmt) xs) c.args.lexer.now c.args.lexer.now) (sym c.new-all.ensures.items) front_none;
  closed = subst (λ xs. IsPlacedList TopLines (tales (map (inside told_stmt) xs)) (forest (map (inside view_stmt) xs)) c.args.lexer.now c.args.lexer.now) (sym c.new-all.ensures.items) list_none;
}

pub returns-in_err-next-clause-refused : goal.returns-in_err-next-clause-refused
returns-in_err-next-clause-refused c = passed _ c.in_err-next.ensures.refused c.from_residual.ensures.1
    (λ b. onto_barred _ c.statements.invariant.so_far (sym c.is_at_end.ensures.ends ∙ c.statements-test.true) (barred_from (ap place_of c.is_at_end.ensures.stays) b))

pub statements-preserved : goal.statements-preserved
statements-preserved c =
    let read = subst (λ h. Only so_far (around_of c.args.context.around) (Part Stmt) (place_of h) (one (view_stmt c.in_ok-next.next.value)) (place_of c.statement.new.lexer)) c.is_at_end.ensures.stays c.in_ok-next.ensures.read in
    let placed = placed_from c.is_at_end.ensures.stays c.in_ok-next.ensures.placed in
    let told_all = map_pushed ((inside told_stmt)) c.statements.all.items _ c.in_ok-next.next _ c.in_ok-push.ensures.items refl in
    let view_all = map_pushed ((inside view_stmt)) c.statements.all.items _ c.in_ok-next.next _ c.in_ok-push.ensures.items refl in
    record {
      so_far = onto_more _ _ of_so_far refl c.statements.invariant.so_far (sym c.is_at_end.ensures.ends ∙ c.statements-test.true) read (pushed ((inside view_stmt)) _ _ _ c.in_ok-push.ensures.items);
      placed = front_more plain_top_lines c.statements.invariant.placed placed refl refl told_all view_all;
      closed = front_last plain_top_lines c.statements.invariant.placed placed refl refl told_all view_all;
    }

pub returns-clause-read : goal.returns-clause-read
returns-clause-read c = onto_end _ c.statements.invariant.so_far (sym c.is_at_end.ensures.ends ∙ c.statements-test.false) (no_statement_at_end (sym c.is_at_end.ensures.ends ∙ c.statements-test.false))

pub returns-clause-placed : goal.returns-clause-placed
returns-clause-placed c = list_to c.is_at_end.ensures.stays c.statements.invariant.closed
