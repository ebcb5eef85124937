use Rattle.std.proofs.Common.{rules, ap, sym, ◌∙◌, ◌<◌, length}
use Rattle.jsx_draw.specs.Grid.{grid_of, put_all, change_at}
use Rattle.jsx_draw.proofs.Grids.{row_changed, put_text_some}
use Rattle.jsx_draw.proofs.styled_buffer.lay.Goals as goal

pub returns-clause-put : goal.returns-clause-put
returns-clause-put c =
    let some : 0 < length c.args.cells.now = (let e = c.if-is_empty.false in let f = c.is_empty.ensures in search rules) in
    row_changed (put_all c.args.col c.args.cells.now) c.make_row.new.rows.items c.args.line c.index_mut.result.now c.put_all.new.row c.in_ok-make_row.ensures.there c.index_mut.ensures.value c.put_all.ensures
    ∙ ap (change_at c.args.line (put_all c.args.col c.args.cells.now)) c.in_ok-make_row.ensures.made
    ∙ sym (put_text_some c.args.line c.args.col c.args.cells.now (grid_of c.args.rows.now.items) some)
