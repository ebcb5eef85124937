use Rattle.std.proofs.Common.{[], ◌∷◌, append-nil, map, sym, ◌∙◌}
use Rattle.jsx_draw.specs.Annotation.{mark_of}
use Rattle.jsx_draw.specs.Drawn.{single_mark, wide_marks}
use Rattle.jsx_draw.specs.Spots.{Spot, at_line}
use Rattle.jsx_draw.specs.Views.{shown_line, spot_of, wide_of}
use Rattle.jsx_draw.proofs.Loops.{flat_all, flat_next, marks_flat}
use Rattle.jsx_draw.proofs.marks.marks_in.Goals as goal

pub loop-spot-preserved : goal.loop-spot-preserved
loop-spot-preserved c = record { so = flat_next (λ (spot : Spot). map single_mark (at_line (shown_line c.args.at) (spot ∷ []))) spot_of c.args.singles.now c.loop-spot.spot-index c.spot-item.result [] (map mark_of c.loop-spot.marks.items) (map mark_of c.push_single.new.marks.items) c.loop-spot-test.true c.spot-item.is c.loop-spot.invariant.so c.in_ok-push_single.ensures }

pub loop-wide-init : goal.loop-wide-init
loop-wide-init c = record {
  so =
      flat_all (λ (spot : Spot). map single_mark (at_line (shown_line c.args.at) (spot ∷ []))) spot_of c.args.singles.now c.loop-spot.spot-index [] (map mark_of c.loop-spot.marks.items) c.loop-spot-test.false c.loop-spot.invariant.so
      ∙ sym (marks_flat (shown_line c.args.at) (map spot_of c.args.singles.now))
      ∙ sym (append-nil (map single_mark (at_line (shown_line c.args.at) (map spot_of c.args.singles.now))));
}

pub loop-wide-preserved : goal.loop-wide-preserved
loop-wide-preserved c = record { so = flat_next (wide_marks (shown_line c.args.at)) wide_of c.args.wides.now c.loop-wide.wide-index c.wide-item.result (map single_mark (at_line (shown_line c.args.at) (map spot_of c.args.singles.now))) (map mark_of c.loop-wide.marks.items) (map mark_of c.push_wide.new.marks.items) c.loop-wide-test.true c.wide-item.is c.loop-wide.invariant.so c.in_ok-push_wide.ensures }

pub returns : goal.returns
returns c = flat_all (wide_marks (shown_line c.args.at)) wide_of c.args.wides.now c.loop-wide.wide-index (map single_mark (at_line (shown_line c.args.at) (map spot_of c.args.singles.now))) (map mark_of c.loop-wide.marks.items) c.loop-wide-test.false c.loop-wide.invariant.so
