use Rattle.std.proofs.Common.{◌≡◌, false, arith, map, refl, sym, ap, subst}
use Rattle.jsx_tree.specs.Grammar.{Lines}
use Rattle.jsx_tree.specs.Told.{tales, told_stmt}
use Rattle.jsx_tree.specs.View.{forest, inside, view_stmt}
use Rattle.jsx_tree.proofs.Rows.Lists.{begun}
use Rattle.jsx_token.specs.Here.{place_of, left}
use Rattle.jsx_operand.specs.Spans.{IsPlacedList}
use Rattle.jsx_statement.proofs.Blocks.{line_barred, line_ended, line_more}
use Rattle.jsx_operand.proofs.Steps.{passed}
use Rattle.jsx_operand.proofs.Trees.{pushed}
use Rattle.jsx_operand.proofs.Placing.{PlacedFront, plain_lines, front_last, front_more, front_none, list_none, map_pushed, placed_from}
use Rattle.jsx_statement.proofs.grammar.Statements.lines.Goals as goal

pub statements-init : goal.statements-init
statements-init g c = record {
  so_far = begun _ (ap (λ xs. forest (map (inside view_stmt) xs)) c.new-all.ensures.items);
  placed = subst (λ xs. PlacedFront false Lines (map (inside told_stmt) xs) (map (inside view_stmt) xs) c.args.lexer.now c.args.lexer.now) (sym c.new-all.ensures.items) front_none;
  closed = subst (λ xs. IsPlacedList Lines (tales (map (inside told_stmt) xs)) (forest (map (inside view_stmt) xs)) c.args.lexer.now c.args.lexer.now) (sym c.new-all.ensures.items) list_none;
  within = omega arith;
}

pub returns-in_err-next-clause-refused : goal.returns-in_err-next-clause-refused
returns-in_err-next-clause-refused g c = passed _ c.in_err-next.ensures.refused c.from_residual.ensures.1 (λ b. line_barred _ c.statements.invariant.so_far (record { same = sym (ap place_of (c.take.ensures.stays c.statements-test.true)); stuck = record { is = c.take.ensures.missing c.statements-test.true } }) b)

pub statements-preserved : goal.statements-preserved
statements-preserved g c =
    let same : left c.take.new.self ≡ left c.statements.lexer = ap left (c.take.ensures.stays c.statements-test.true) in
    let next = placed_from (c.take.ensures.stays c.statements-test.true) c.in_ok-next.ensures.placed in
    let told_all = map_pushed (inside told_stmt) c.statements.all.items _ c.in_ok-next.next _ c.in_ok-push.ensures.items refl in
    let view_all = map_pushed (inside view_stmt) c.statements.all.items _ c.in_ok-next.next _ c.in_ok-push.ensures.items refl in
    record {
      so_far = line_more _ _ c.statements.invariant.so_far (record { same = sym (ap place_of (c.take.ensures.stays c.statements-test.true)); stuck = record { is = c.take.ensures.missing c.statements-test.true } }) c.in_ok-next.ensures.read (pushed (inside view_stmt) _ _ _ c.in_ok-push.ensures.items);
      within = omega (arith, same, c.in_ok-next.ensures.shorter, c.statements.invariant.within);
      placed = front_more plain_lines c.statements.invariant.placed next refl refl told_all view_all;
      closed = front_last plain_lines c.statements.invariant.placed next refl refl told_all view_all;
    }

pub returns-clause-read : goal.returns-clause-read
returns-clause-read g c = line_ended _ c.statements.invariant.so_far (record { is = c.take.ensures.taken c.statements-test.false; found = refl })

pub returns-clause-placed : goal.returns-clause-placed
returns-clause-placed g c = record { middle = c.statements.lexer; items = c.statements.invariant.closed; brace = c.take.ensures.takes c.statements-test.false }
