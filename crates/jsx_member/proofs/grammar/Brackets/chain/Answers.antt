use Rattle.std.proofs.Common.{◌≡◌, ◌++◌, true, arith, map, refl, sym, ◌∙◌, ap, subst, [], ◌∷◌}
use Rattle.jsx_tree.specs.Kinds.{expression, Chain}
use Rattle.jsx_tree.specs.View.{forest, inside, view_expr, view_link}
use Rattle.jsx_tree.specs.Told.{told_link}
use Rattle.jsx_operand.specs.SoFar.{so_far}
use Rattle.jsx_operand.specs.Around.{around_of}
use Rattle.jsx_token.specs.Here.{place_of}
use Rattle.jsx_make.specs.NodeSpans.{expr_at}
use Rattle.jsx_token.specs.Growths.{settled}
use Rattle.jsx_operand.specs.Climbing.{Grown}
use Rattle.jsx_operand.specs.Spans.{Spans}
use Rattle.jsx_token.specs.Places.{end_of, next_of}
use Rattle.jsx_tree.proofs.Rows.Steps.{on}
use Rattle.jsx_tree.proofs.Rows.Lists.{ended}
use Rattle.jsx_operand.proofs.Places.{spans_from}
use Rattle.jsx_operand.proofs.Steps.{passed}
use Rattle.jsx_member.proofs.Elements.{items}
use Rattle.jsx_operand.proofs.Trees.{pushed}
use Rattle.jsx_operand.proofs.Placing.{front_none, front_more, front_last, list_to, map_pushed, placed_as}
use Rattle.jsx_member.proofs.Links.{Linked, chain_broken, chain_grown, chain_unread, linked_more, linked_one}
use Rattle.jsx_operand.proofs.PlacedLinks.{chain_row, plain_links}
use Rattle.jsx_tree.proofs.Rows.Bridge.{found_at}
use Rattle.jsx_token.proofs.Taking.{takes_begins}
use Rattle.jsx_member.proofs.grammar.Brackets.chain.Goals as goal

pub links-init : goal.links-init
links-init g c =
    let links : c.push.new.self.items ≡ c.in_ok-first.first ∷ [] = c.in_ok-push.ensures.items ∙ ap (λ xs. xs ++ c.in_ok-first.first ∷ []) c.in_ok-links.ensures.items in
    record {
      so_far = λ a m. subst (λ xs. Linked (around_of c.args.context.around) a (forest (map (inside view_link) xs)) (place_of c.optional_link.new.lexer)) (sym links) (linked_one (c.in_ok-first.ensures.read.on a m) c.in_ok-first.ensures.ended);
      placed = λ w k. front_more plain_links front_none (c.in_ok-first.ensures.placed.on w k (takes_begins refl k)) refl refl (ap (map (inside told_link)) links) (ap (map (inside view_link)) links);
      closed = λ w k. front_last plain_links front_none (c.in_ok-first.ensures.placed.on w k (takes_begins refl k)) refl refl (ap (map (inside told_link)) links) (ap (map (inside view_link)) links);
      ended = c.in_ok-first.ensures.ended;
      within = c.in_ok-first.ensures.shorter;
    }

pub returns-in_err-first-clause-refused : goal.returns-in_err-first-clause-refused
returns-in_err-first-clause-refused g c = passed _ c.in_err-first.ensures.refused c.from_residual.ensures.1 chain_unread

pub links-preserved : goal.links-preserved
links-preserved g c =
    let told_all = map_pushed (inside told_link) c.links.links.items _ c.in_ok-next.next _ c.in_ok-push-2.ensures.items refl in
    let view_all = map_pushed (inside view_link) c.links.links.items _ c.in_ok-next.next _ c.in_ok-push-2.ensures.items refl in
    let next = c.in_ok-next.ensures.placed.on c.links.lexer c.in-Some.ensures.takes c.in-Some.ensures.begins in
    record {
      so_far = λ a m. subst (λ us. Linked (around_of c.args.context.around) a us (place_of c.link.new.lexer)) (sym (pushed (inside view_link) _ _ _ c.in_ok-push-2.ensures.items)) (linked_more c.in-Some.linking (c.links.invariant.so_far a m) (found_at (sym c.in-Some.ensures.taken) refl) (c.in_ok-next.ensures.read.on (place_of c.links.lexer) (record { is = c.in-Some.ensures.taken; found = refl })) c.in_ok-next.ensures.ended);
      placed = λ w k. front_more plain_links (c.links.invariant.placed w k) next refl refl told_all view_all;
      closed = λ w k. front_last plain_links (c.links.invariant.placed w k) next refl refl told_all view_all;
      ended = c.in_ok-next.ensures.ended;
      within = omega (arith, c.links.invariant.within, c.in-Some.ensures.shorter, c.in_ok-next.ensures.shorter);
    }

pub returns-in_err-next-clause-refused : goal.returns-in_err-next-clause-refused
returns-in_err-next-clause-refused g c = passed _ c.in_err-next.ensures.refused c.from_residual-in_err-next.ensures.1
    (λ n. chain_broken c.in-Some.linking c.links.invariant.so_far (record { is = c.in-Some.ensures.taken; found = refl }) n)

pub returns-in_default-clause-read : goal.returns-in_default-clause-read
returns-in_default-clause-read g c =
    subst (λ p. Grown (around_of c.args.context.around) (expression Chain) (view_expr c.args.base.value) (place_of c.args.lexer.now) (view_expr c.in_ok-chain.field-0.value) p) (sym (ap place_of c.in_default.ensures.stays))
    (chain_grown c.links.invariant.so_far c.in_default.ensures.missing c.in_ok-chain.ensures.view)

pub returns-in_default-clause-ended : goal.returns-in_default-clause-ended
returns-in_default-clause-ended g c = subst (λ h. settled (place_of h) ≡ true) (sym c.in_default.ensures.stays) c.links.invariant.ended

pub returns-in_default-clause-placed : goal.returns-in_default-clause-placed
returns-in_default-clause-placed g c = record {
  on = λ w z s l k.
      placed_as c.in_ok-chain.ensures.told c.in_ok-chain.ensures.view (chain_row l (list_to c.in_default.ensures.stays (c.links.invariant.closed z k))
      (spans_from c.span_to-span.ensures refl (c.start_of.ensures.on _ _ (subst (λ e. Spans (expr_at e) (next_of w) (end_of z)) (sym c.deref.ensures) s)) refl));
}
