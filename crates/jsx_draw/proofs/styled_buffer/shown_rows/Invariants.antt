use Rattle.jsx_base.proofs.Spans.{Viewed}
use Rattle.jsx_draw.specs.Grid.{shown_row, shown_runs}
use Rattle.jsx_draw.proofs.styled_buffer.shown_rows.Given as goal

abbrev pub invariant-loop-row : goal.invariant-loop-row
invariant-loop-row l = Viewed (λ row. shown_row row.items) shown_runs l.row-index l.rows l.shown.items
