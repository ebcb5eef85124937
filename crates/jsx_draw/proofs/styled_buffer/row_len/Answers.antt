use Rattle.std.proofs.Common.{ap, sym, ◌∙◌, length, arith}
use Rattle.jsx_draw.specs.Grid.{grid_of}
use Rattle.jsx_draw.proofs.Grids.{row_at_is, row_at_none, row_read, length-grid}
use Rattle.jsx_draw.proofs.styled_buffer.row_len.Goals as goal

pub returns-in-Some : goal.returns-in-Some
returns-in-Some c =
    let h = c.in-Some.ensures.lookup in
    let within = h.3.0 in
    c.len.ensures ∙ c.in-Some.row.now.ok.0 ∙ sym (ap length (row_at_is (grid_of c.args.rows.now) c.args.line c.in-Some.row.now.items (omega (arith, within, length-grid c.args.rows.now)) (row_read c.args.rows.now c.args.line c.in-Some.row.now within h.1)))

pub returns-in-None : goal.returns-in-None
returns-in-None c =
    let h = c.in-None.ensures.lookup in
    let past = h.3 in
    sym (ap length (row_at_none (grid_of c.args.rows.now) c.args.line (omega (arith, past, length-grid c.args.rows.now))))
