use Rattle.std.proofs.Common.{◌≡◌, false, arith, map, refl, sym, ◌∙◌, ap, subst}
use Rattle.jsx_tree.specs.Walk.{one}
use Rattle.jsx_tree.specs.Grammar.{Lines, Part}
use Rattle.jsx_tree.specs.Nonterminals.{Stmt}
use Rattle.jsx_tree.specs.Kinds.{list}
use Rattle.jsx_tree.specs.Told.{tales, told_stmt}
use Rattle.jsx_tree.specs.View.{forest, inside, view_stmt}
use Rattle.jsx_tree.specs.Answers.{Only}
use Rattle.jsx_tree.proofs.Rows.Lists.{begun}
use Rattle.jsx_operand.specs.Around.{around_of}
use Rattle.jsx_statement.specs.Cases.{IsBody}
use Rattle.jsx_statement.proofs.Inners.{inner_more, inner_none, inner_from}
use Rattle.jsx_token.specs.Here.{place_of, left}
use Rattle.jsx_operand.specs.SoFar.{so_far}
use Rattle.jsx_operand.specs.Spans.{IsPlacedList}
use Rattle.jsx_statement.proofs.Cases.{ahead_more, ahead_none, body_barred, body_ended, body_more}
use Rattle.jsx_operand.proofs.Steps.{passed}
use Rattle.jsx_operand.proofs.Trees.{pushed}
use Rattle.jsx_operand.proofs.Placing.{PlacedFront, plain_lines, front_last, front_more, front_none, list_none, map_pushed, placed_from, list_to}
use Rattle.jsx_statement.proofs.grammar.Statements.case_body.Goals as goal

pub statements-init : goal.statements-init
statements-init g c = record {
  ahead = ahead_none _ (ap (λ xs. forest (map (inside view_stmt) xs)) c.new-all.ensures.items);
  so_far = begun _ (ap (λ xs. forest (map (inside view_stmt) xs)) c.new-all.ensures.items);
  inner = inner_none (around_of c.args.context.around) _ (ap (λ xs. forest (map (inside view_stmt) xs)) c.new-all.ensures.items);
  placed = subst (λ xs. PlacedFront false Lines (map (inside told_stmt) xs) (map (inside view_stmt) xs) c.args.lexer.now c.args.lexer.now) (sym c.new-all.ensures.items) front_none;
  closed = subst (λ xs. IsPlacedList Lines (tales (map (inside told_stmt) xs)) (forest (map (inside view_stmt) xs)) c.args.lexer.now c.args.lexer.now) (sym c.new-all.ensures.items) list_none;
  within = omega arith;
}

pub returns-in_err-next-clause-refused : goal.returns-in_err-next-clause-refused
returns-in_err-next-clause-refused g c =
    passed _ c.in_err-next.ensures.refused c.from_residual.ensures.1
    (λ n. body_barred _ c.statements.invariant.so_far (sym c.ends_case.ensures.ahead ∙ c.statements-test.true) (inner_from c.ends_case.ensures.stays n))

pub statements-preserved : goal.statements-preserved
statements-preserved g c =
    let same : left c.ends_case.new.self ≡ left c.statements.lexer = ap left c.ends_case.ensures.stays in
    let next = placed_from c.ends_case.ensures.stays c.in_ok-next.ensures.placed in
    let read = subst (λ p. Only so_far (around_of c.args.context.around) (Part Stmt) p (one (view_stmt c.in_ok-next.next.value)) (place_of c.inner_statement.new.lexer)) (ap place_of c.ends_case.ensures.stays) c.in_ok-next.ensures.read in
    let told_all = map_pushed (inside told_stmt) c.statements.all.items _ c.in_ok-next.next _ c.in_ok-push.ensures.items refl in
    let view_all = map_pushed (inside view_stmt) c.statements.all.items _ c.in_ok-next.next _ c.in_ok-push.ensures.items refl in
    record {
      ahead = ahead_more _ _ c.statements.invariant.ahead read (pushed (inside view_stmt) _ _ _ c.in_ok-push.ensures.items);
      so_far = body_more _ _ c.statements.invariant.so_far (sym c.ends_case.ensures.ahead ∙ c.statements-test.true) read (pushed (inside view_stmt) _ _ _ c.in_ok-push.ensures.items);
      inner = inner_more (around_of c.args.context.around) _ _ _ c.statements.invariant.inner c.in_ok-next.ensures.inner (pushed (inside view_stmt) _ _ _ c.in_ok-push.ensures.items);
      within = omega (arith, same, c.in_ok-next.ensures.shorter, c.statements.invariant.within);
      placed = front_more plain_lines c.statements.invariant.placed next refl refl told_all view_all;
      closed = front_last plain_lines c.statements.invariant.placed next refl refl told_all view_all;
    }

pub returns-clause-read : goal.returns-clause-read
returns-clause-read g c =
    subst (λ p. IsBody (around_of c.args.context.around) (place_of c.args.lexer.now) (list (forest (map (inside view_stmt) c.statements.all.items))) p) (sym (ap place_of c.ends_case.ensures.stays))
    (body_ended _ c.statements.invariant.inner c.statements.invariant.ahead c.statements.invariant.so_far (sym c.ends_case.ensures.ahead ∙ c.statements-test.false) refl)

pub returns-clause-placed : goal.returns-clause-placed
returns-clause-placed g c = list_to c.ends_case.ensures.stays c.statements.invariant.closed
