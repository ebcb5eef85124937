use Rattle.std.proofs.Common.{true, false, refl, sym, ap}
use Rattle.jsx_tree.specs.Kinds.{Binds}
use Rattle.jsx_token.specs.Here.{place_of}
use Rattle.jsx_operand.proofs.Steps.{passed, passed_in}
use Rattle.jsx_operand.proofs.Places.{spans_from}
use Rattle.jsx_operand.proofs.Placing.{placed_as, placed_to}
use Rattle.jsx_operand.proofs.PlacedExpressions.{short_default_placed, short_pattern_placed}
use Rattle.jsx_function.proofs.PatternParts.{deep_default, no_valued_part, short_part, valued_part}
use Rattle.jsx_function.proofs.grammar.Within.short_pattern.Goals as goal

pub returns-then-not-take-clause-read : goal.returns-then-not-take-clause-read
returns-then-not-take-clause-read g c = short_part (record { same = sym (ap place_of (c.take.ensures.stays c.if-not-take.true)); stuck = record { is = c.take.ensures.missing c.if-not-take.true } }) (c.in_ok-short_pattern.ensures.view Binds)

pub returns-then-not-take-clause-placed : goal.returns-then-not-take-clause-placed
returns-then-not-take-clause-placed g c = record {
  on = λ w begins name. placed_as c.in_ok-short_pattern.ensures.told (c.in_ok-short_pattern.ensures.view Binds) (short_pattern_placed (placed_to (c.take.ensures.stays c.if-not-take.true) name) (spans_from c.span_to.ensures refl begins refl));
}

pub returns-in_err-levels-clause-refused : goal.returns-in_err-levels-clause-refused
returns-in_err-levels-clause-refused g c = passed _ c.in_err-levels.ensures.refused c.from_residual-in_err-levels.ensures.1 (λ b. deep_default (record { is = c.take.ensures.taken c.if-not-take.false; found = refl }) b)

pub returns-in_err-value-clause-refused : goal.returns-in_err-value-clause-refused
returns-in_err-value-clause-refused g c = passed_in _ c.in_ok-levels.ensures.levels c.in_err-value.ensures.refused c.from_residual-in_err-value.ensures.1 (λ b. no_valued_part (record { is = c.take.ensures.taken c.if-not-take.false; found = refl }) b)

pub returns-clause-read : goal.returns-clause-read
returns-clause-read g c = valued_part (record { is = c.take.ensures.taken c.if-not-take.false; found = refl }) c.in_ok-value.ensures.read (c.in_ok-short_default.ensures.view Binds)

pub returns-clause-placed : goal.returns-clause-placed
returns-clause-placed g c = record {
  on = λ w begins name. placed_as c.in_ok-short_default.ensures.told (c.in_ok-short_default.ensures.view Binds) (short_default_placed name (c.take.ensures.takes c.if-not-take.false) c.in_ok-value.ensures.placed (spans_from c.span_to-2.ensures refl begins refl));
}
