use Rattle.std.proofs.Common.{◌++◌, ap, ◌∙◌}
use Rattle.jsx_draw.specs.Grid.{grid_of, row_at}
use Rattle.jsx_draw.proofs.Grids.{row_replaced}
use Rattle.jsx_draw.proofs.styled_buffer.put_before.Goals as goal

pub returns-clause-put : goal.returns-clause-put
returns-clause-put c = row_replaced c.make_row.new.rows.items (grid_of c.args.rows.now.items) c.args.line c.args.cells.items c.push_row.new.cells c.in_ok-make_row.ensures.there c.in_ok-make_row.ensures.made (c.in_ok-push_row.ensures ∙ ap (λ z. c.args.cells.items ++ row_at c.args.line (grid_of z)) c.deref.ensures.value)
