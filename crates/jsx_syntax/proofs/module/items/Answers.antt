use Rattle.std.proofs.Common.{ap, false, map, refl, sym, ◌∙◌, subst}
use Rattle.jsx_tree.specs.Nonterminals.{Item}
use Rattle.jsx_tree.specs.Grammar.{Part, TopLines}
use Rattle.jsx_tree.specs.Told.{tales, told_item}
use Rattle.jsx_tree.specs.View.{forest}
use Rattle.jsx_tree.specs.ViewProgram.{view_item}
use Rattle.jsx_tree.specs.Walk.{one}
use Rattle.jsx_tree.specs.Answers.{Only}
use Rattle.jsx_tree.proofs.Rows.Lines.{Onto, onto_barred, onto_end, onto_more, onto_none}
use Rattle.jsx_token.specs.Here.{place_of}
use Rattle.jsx_operand.specs.Around.{around_of}
use Rattle.jsx_operand.specs.SoFar.{so_far}
use Rattle.jsx_operand.specs.Spans.{IsPlacedList}
use Rattle.jsx_operand.proofs.OfSoFar.{of_so_far}
use Rattle.jsx_operand.proofs.Steps.{passed}
use Rattle.jsx_operand.proofs.Trees.{pushed}
use Rattle.jsx_operand.proofs.Placing.{PlacedFront, front_last, front_more, front_none, list_none, list_to, map_pushed, placed_from, plain_top_lines}
use Rattle.jsx_syntax.proofs.Items.{barred_from, none_at_end}
use Rattle.jsx_syntax.proofs.module.items.Goals as goal

pub items-init : goal.items-init
items-init c = record {
  so_far = subst (λ xs. Onto so_far (around_of c.args.context.around) Item (place_of c.args.lexer.now) (place_of c.args.lexer.now) (forest (map view_item xs))) (sym c.new-all.ensures.items) onto_none;
  placed = subst (λ xs. PlacedFront false TopLines (map told_item xs) (map view_item xs) c.args.lexer.now c.args.lexer.now) (sym c.new-all.ensures.items) front_none;
  closed = subst (λ xs. IsPlacedList TopLines (tales (map told_item xs)) (forest (map view_item xs)) c.args.lexer.now c.args.lexer.now) (sym c.new-all.ensures.items) list_none;
}

pub returns-in_err-next-clause-refused : goal.returns-in_err-next-clause-refused
returns-in_err-next-clause-refused c = passed _ c.in_err-next.ensures.refused c.from_residual.ensures.1
    (λ b. onto_barred _ c.items.invariant.so_far (sym c.is_at_end.ensures.ends ∙ c.items-test.true) (barred_from (ap place_of c.is_at_end.ensures.stays) b))

pub items-preserved : goal.items-preserved
items-preserved c =
    let read = subst (λ h. Only so_far (around_of c.args.context.around) (Part Item) (place_of h) (one (view_item c.in_ok-next.next)) (place_of c.item.new.lexer)) c.is_at_end.ensures.stays c.in_ok-next.ensures.read in
    let placed = placed_from c.is_at_end.ensures.stays c.in_ok-next.ensures.placed in
    let told_all = map_pushed (told_item) c.items.all.items _ c.in_ok-next.next _ c.in_ok-push.ensures.items refl in
    let view_all = map_pushed (view_item) c.items.all.items _ c.in_ok-next.next _ c.in_ok-push.ensures.items refl in
    record {
      so_far = onto_more _ _ of_so_far refl c.items.invariant.so_far (sym c.is_at_end.ensures.ends ∙ c.items-test.true) read (pushed (view_item) _ _ _ c.in_ok-push.ensures.items);
      placed = front_more plain_top_lines c.items.invariant.placed placed refl refl told_all view_all;
      closed = front_last plain_top_lines c.items.invariant.placed placed refl refl told_all view_all;
    }

pub returns-clause-read : goal.returns-clause-read
returns-clause-read c = onto_end _ c.items.invariant.so_far (sym c.is_at_end.ensures.ends ∙ c.items-test.false) (none_at_end (sym c.is_at_end.ensures.ends ∙ c.items-test.false))

pub returns-clause-placed : goal.returns-clause-placed
returns-clause-placed c = list_to c.is_at_end.ensures.stays c.items.invariant.closed
