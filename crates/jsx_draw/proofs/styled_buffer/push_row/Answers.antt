use Rattle.std.proofs.Common.{ap, sym, ◌∙◌, ◌++◌, arith}
use Rattle.std.proofs.lemmas.List.{append-nil}
use Rattle.jsx_draw.specs.Grid.{grid_of}
use Rattle.jsx_draw.proofs.Grids.{row_at_is, row_at_none, row_read, length-grid}
use Rattle.jsx_draw.proofs.styled_buffer.push_row.Goals as goal

pub returns : goal.returns
returns c =
    let h = c.in-Some.ensures.lookup in
    let within = h.3.0 in
    c.in_ok-extend_from_slice.ensures.items
    ∙ ap (λ z. c.args.cells.now.items ++ z) (c.deref.ensures.value ∙ sym (row_at_is (grid_of c.args.rows.now) c.args.line c.in-Some.row.now.items (omega (arith, within, length-grid c.args.rows.now)) (row_read c.args.rows.now c.args.line c.in-Some.row.now within h.1)))

pub returns-in_default : goal.returns-in_default
returns-in_default c =
    let h = c.in_default.ensures.lookup in
    let past = h.3 in
    sym (ap (λ z. c.args.cells.now.items ++ z) (row_at_none (grid_of c.args.rows.now) c.args.line (omega (arith, past, length-grid c.args.rows.now))) ∙ append-nil c.args.cells.now.items)
