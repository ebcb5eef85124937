use Rattle.std.proofs.Common.{arith, ap, sym, ◌∙◌}
use Rattle.std.specs.Vec.{with_items}
use Rattle.jsx_draw.specs.Grid.{grid_of, change_from, restyled}
use Rattle.jsx_draw.proofs.Grids.{written_back, row_changed, change_at_none, length-grid}
use Rattle.jsx_draw.proofs.styled_buffer.restyle_row.Goals as goal

pub returns-then-line-len : goal.returns-then-line-len
returns-then-line-len c =
    let test = c.if-line-len.true in
    let len = c.len.ensures in
    let held = c.args.rows.now.ok.0 in
    row_changed (change_from c.args.cols.0 c.args.cols.1 (restyled c.args.style c.args.overwrite)) c.args.rows.now.items c.args.line c.index_mut.result.now (with_items c.index_mut.result.now c.restyle.new.row) (omega (arith, test, len, held)) c.index_mut.ensures.value (written_back c.restyle.new.row c.index_mut.result.now.items c.index_mut.result.now.len (omega (arith, c.restyle.auto.row, c.deref_mut.ensures.len)) ∙ c.restyle.ensures ∙ ap (change_from c.args.cols.0 c.args.cols.1 (restyled c.args.style c.args.overwrite)) c.deref_mut.ensures.value)

pub returns-else-line-len : goal.returns-else-line-len
returns-else-line-len c =
    let test = c.if-line-len.false in
    let len = c.len.ensures in
    let held = c.args.rows.now.ok.0 in
    sym (change_at_none (change_from c.args.cols.0 c.args.cols.1 (restyled c.args.style c.args.overwrite)) (grid_of c.args.rows.now.items) c.args.line (omega (arith, test, len, held, length-grid c.args.rows.now.items)))
