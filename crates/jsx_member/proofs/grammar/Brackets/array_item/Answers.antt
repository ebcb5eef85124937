use Rattle.std.proofs.Common.{true, false, not, refl, sym, ◌∙◌, ap}
use Rattle.std.specs.Prelude.{◌&&◌}
use Rattle.jsx_token.specs.Here.{place_of}
use Rattle.jsx_operand.proofs.Places.{spans_from}
use Rattle.jsx_operand.proofs.Steps.{passed}
use Rattle.jsx_member.proofs.ArrayLoop.{item_from, item_placed, item_placed_to, item_to, spread_placed}
use Rattle.jsx_member.proofs.ItemCovers.{item_cover, no_item_cover, no_spread_cover, spread_cover}
use Rattle.jsx_member.proofs.grammar.Brackets.array_item.Goals as goal

-- where no dots stand
pub returns-in_err-cover-clause-refused : goal.returns-in_err-cover-clause-refused
returns-in_err-cover-clause-refused g c = passed _ c.in_err-cover.ensures.refused c.from_residual.ensures.1
    (λ n. no_item_cover (record { same = sym (ap place_of (c.take.ensures.stays c.if-not-take.true)); stuck = record { is = c.take.ensures.missing c.if-not-take.true } }) n)

pub returns-then-not-take-clause-read : goal.returns-then-not-take-clause-read
returns-then-not-take-clause-read g c = item_cover (record { same = sym (ap place_of (c.take.ensures.stays c.if-not-take.true)); stuck = record { is = c.take.ensures.missing c.if-not-take.true } }) c.in_ok-cover.ensures.read

pub returns-then-not-take-clause-placed : goal.returns-then-not-take-clause-placed
returns-then-not-take-clause-placed g c =
    let item = item_cover (record { same = sym (ap place_of (c.take.ensures.stays c.if-not-take.true)); stuck = record { is = c.take.ensures.missing c.if-not-take.true } }) c.in_ok-cover.ensures.read in
    item_from (c.take.ensures.stays c.if-not-take.true) (item_placed c.in_ok-cover.ensures.read item.filled c.in_ok-cover.ensures.placed)

-- behind them
pub returns-in_err-inner-clause-refused : goal.returns-in_err-inner-clause-refused
returns-in_err-inner-clause-refused g c = passed _ c.in_err-inner.ensures.refused c.from_residual-in_err-inner.ensures.1
    (λ n. no_spread_cover (record { is = c.take.ensures.taken c.if-not-take.false; found = refl }) n)

pub returns-clause-read : goal.returns-clause-read
returns-clause-read g c = item_to c.is_before.ensures.stays
    (spread_cover (record { is = c.take.ensures.taken c.if-not-take.false; found = refl }) c.in_ok-inner.ensures.read c.in_ok-expr.ensures.view refl (ap (λ b. c.in_ok-inner.inner.may_turn && not b) c.is_before.ensures.ahead))

pub returns-clause-placed : goal.returns-clause-placed
returns-clause-placed g c = item_placed_to c.is_before.ensures.stays
    (spread_placed _ (c.take.ensures.takes c.if-not-take.false) c.in_ok-inner.ensures.placed c.in_ok-expr.ensures.view c.in_ok-expr.ensures.told
    (spans_from c.span_to.ensures refl (c.last_place-lo.ensures ∙ c.take.ensures.begins c.if-not-take.false) refl) refl refl)
