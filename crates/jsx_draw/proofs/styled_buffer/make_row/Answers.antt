use Rattle.std.proofs.Common.{◌+◌, ◌∙◌, sym, arith}
use Rattle.jsx_draw.specs.Grid.{grid_of}
use Rattle.jsx_draw.proofs.Grids.{on_ok, on_err, row_kept, extended_none, length-grid}
use Rattle.jsx_draw.proofs.styled_buffer.make_row.Goals as goal

pub returns-then-line-len-clause-made : goal.returns-then-line-len-clause-made
returns-then-line-len-clause-made c =
    let test = c.if-line-len.true in
    let len = c.len.ensures in
    let held = c.args.rows.now.ok.0 in
    on_ok c.try_reserve.result _ (row_kept c.args.rows.now.items c.args.line c.index_mut-row.result.now c.try_reserve.new.self c.index_mut-row.ensures.value c.try_reserve.ensures.items ∙ sym (extended_none _ (c.args.line + 1) (grid_of c.args.rows.now.items) (omega (arith, test, len, held, length-grid c.args.rows.now.items))))

pub returns-then-line-len-clause-kept : goal.returns-then-line-len-clause-kept
returns-then-line-len-clause-kept c =
    on_err c.try_reserve.result _ (row_kept c.args.rows.now.items c.args.line c.index_mut-row.result.now c.try_reserve.new.self c.index_mut-row.ensures.value c.try_reserve.ensures.items)
