use Rattle.std.proofs.Common.{map, refl, ap, ◌∙◌}
use Rattle.jsx_draw.specs.Drawn.{is_longer}
use Rattle.jsx_draw.specs.Views.{columns_of, placed_of}
use Rattle.jsx_draw.proofs.Drawing.{under_made}
use Rattle.jsx_draw.proofs.Orders.{sorted_seen}
use Rattle.jsx_draw.proofs.draw.under_line.Goals as goal

pub returns : goal.returns
returns c =
    under_made (columns_of c.args.at) c.args.depths.now (map placed_of c.args.placed.now) (map placed_of c.in_ok-by_length.by_length.items) c.in_ok-rows.rows
    c.in_ok-buffer.buffer c.draw_all.new.buffer c.draw_all-2.new.buffer c.draw_all-3.new.buffer c.draw_all-4.new.buffer c.draw_all-5.new.buffer c.draw_open.new.buffer
    c.in_ok-rows.ensures
    (ap (map placed_of) c.in_ok-by_length.ensures ∙ sorted_seen (λ a b. is_longer (placed_of a) (placed_of b)) is_longer placed_of (λ a b. refl) c.args.placed.now)
    (rw c.saturating_sub.ensures at c.in_ok-buffer.ensures)
    c.in_ok-draw_all.ensures c.in_ok-draw_all-2.ensures c.in_ok-draw_all-3.ensures c.in_ok-draw_all-4.ensures
    (rw c.deref.ensures.value at c.in_ok-draw_all-5.ensures)
    c.in_ok-draw_open.ensures
