use Rattle.std.proofs.Common.{ap, map}
use Rattle.std.specs.List.{flat_map}
use Rattle.std.proofs.lemmas.List.{get_or_default}
use Rattle.jsx_draw.specs.Grid.{run_of, add_cells, shown_cell, shown_runs}
use Rattle.jsx_draw.proofs.Grids.{showing_more, showing_all}
use Rattle.jsx_draw.proofs.styled_buffer.shown_row.Goals as goal

pub loop-cell-init : goal.loop-cell-init
loop-cell-init c = ap (λ z. add_cells (map run_of z) (flat_map shown_cell c.args.row.now)) c.new-shown.ensures.items

pub loop-cell-preserved : goal.loop-cell-preserved
loop-cell-preserved c = showing_more c.args.row.now c.loop-cell.cell-index _ (shown_runs c.loop-cell.shown) (shown_runs c.show_cell.new.shown) c.loop-cell-test.true (get_or_default _ _ _ _ c.loop-cell-test.true) c.in_ok-show_cell.ensures c.loop-cell.invariant

pub returns : goal.returns
returns c = showing_all c.args.row.now c.loop-cell.cell-index (shown_runs c.loop-cell.shown) c.loop-cell-test.false c.loop-cell.invariant
