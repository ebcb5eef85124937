use Rattle.std.proofs.Common.{◌-◌, refl, ap, ◌∙◌, arith}
use Rattle.std.specs.Str.{chars}
use Rattle.jsx_base.specs.Lines.{front}
use Rattle.react_compile.proofs.Walking.{near, goes_on, ends, line_is, column_is}
use Rattle.react_compile.proofs.spot.spot_of.Goals as goal

pub loop-c-init : goal.loop-c-init
loop-c-init c = record { text = c.utf8.text; so = refl; low = omega arith; few = omega arith }

pub loop-c-preserved : goal.loop-c-preserved
loop-c-preserved c =
    let begins = c.in-Some.ensures in
    let held = c.loop-c.invariant in
    let close = near c.in-Some.c c.loop-c.spot c.past-spot.result held.low c.past-spot.ensures in record {
      text = begins.more_text;
      so = held.so ∙ goes_on c.loop-c.rest.now c.in-Some.more.now c.loop-c.left _ c.in-Some.c c.loop-c.spot c.past-spot.result begins (ap (λ n. c.loop-c.left - n) c.len_utf8-left.ensures.value) c.past-spot.ensures;
      low = close.0;
      few = omega (arith, close.1, begins.shorter, held.few);
    }

pub returns-clause-line : goal.returns-clause-line
returns-clause-line c = line_is (front (chars c.args.text.now) c.args.at) c.loop-c.spot (ends (1, 1) c.loop-c.spot (front (chars c.args.text.now) c.args.at) (front (chars c.loop-c.rest.now) c.loop-c.left) c.loop-c.invariant.so c.in_default.ensures)

pub returns-clause-column : goal.returns-clause-column
returns-clause-column c = column_is (front (chars c.args.text.now) c.args.at) c.loop-c.spot (ends (1, 1) c.loop-c.spot (front (chars c.args.text.now) c.args.at) (front (chars c.loop-c.rest.now) c.loop-c.left) c.loop-c.invariant.so c.in_default.ensures)
