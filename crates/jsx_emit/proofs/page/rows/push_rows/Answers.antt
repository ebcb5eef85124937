use Rattle.std.proofs.Common.{ap, map, take, ◌∙◌}
use Rattle.std.specs.Prelude.{string_bytes}
use Rattle.jsx_draw.specs.Grid.{shown_runs}
use Rattle.jsx_emit.proofs.Pages.{row_more, rows_all}
use Rattle.jsx_draw.proofs.Orders.{take_next}
use Rattle.jsx_emit.proofs.page.rows.push_rows.Goals as goal

pub loop-row-preserved : goal.loop-row-preserved
loop-row-preserved c =
    let i = c.loop-row.row-index in
    let rows = c.deref-row-items.result.now in
    rw (take_next shown_runs rows i c.row-item.result c.loop-row-test.true c.row-item.is)
    (row_more (take i (map shown_runs rows)) (shown_runs c.row-item.result) (string_bytes c.args.text.now) (string_bytes c.loop-row.text) (string_bytes c.push_row.new.text) c.loop-row.invariant (rw c.deref.ensures.value at c.in_ok-push_row.ensures))

pub returns-clause-added : goal.returns-clause-added
returns-clause-added c =
    rows_all c.args.buffer.now c.deref-row-items.result.now c.loop-row.row-index (string_bytes c.args.text.now) (string_bytes c.loop-row.text) (ap (map shown_runs) c.deref-row-items.ensures.value ∙ c.in_ok-rows.ensures.shown) c.loop-row-test.false c.loop-row.invariant
