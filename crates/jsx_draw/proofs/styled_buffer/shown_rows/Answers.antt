use Rattle.std.proofs.Common.{ap, sym, ◌∙◌}
use Rattle.std.proofs.lemmas.Simd.{map-map}
use Rattle.jsx_base.proofs.Spans.{viewed_more, viewed_all}
use Rattle.jsx_draw.specs.Grid.{shown_row, shown_runs}
use Rattle.jsx_draw.proofs.styled_buffer.shown_rows.Goals as goal

pub loop-row-preserved : goal.loop-row-preserved
loop-row-preserved c = viewed_more (λ row. shown_row row.items) shown_runs c.args.rows.now c.loop-row.shown.items _ _ c.row-item.result _ c.loop-row-test.true c.loop-row.invariant c.row-item.is (c.in_ok-shown_row.ensures ∙ ap shown_row c.deref.ensures.value) c.in_ok-push.ensures.items

pub returns : goal.returns
returns c =
    viewed_all (λ row. shown_row row.items) shown_runs c.args.rows.now c.loop-row.shown.items _ c.loop-row-test.false c.loop-row.invariant
    ∙ sym (map-map shown_row (λ row. row.items) c.args.rows.now)
