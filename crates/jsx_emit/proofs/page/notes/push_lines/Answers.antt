use Rattle.std.proofs.Common.{◌+◌, map, take}
use Rattle.std.specs.Prelude.{string_bytes}
use Rattle.jsx_diag.specs.Data.{piece_of}
use Rattle.jsx_emit.proofs.Pages.{piece_more}
use Rattle.jsx_draw.proofs.Orders.{take_next}
use Rattle.jsx_emit.proofs.page.notes.push_lines.Goals as goal

pub loop-piece-preserved : goal.loop-piece-preserved
loop-piece-preserved c =
    let i = c.loop-piece.piece-index in
    rw (take_next piece_of c.args.message.now i c.piece-item.result c.loop-piece-test.true c.piece-item.is)
    (piece_more (c.args.width + 9) (take i (map piece_of c.args.message.now)) (piece_of c.piece-item.result) (string_bytes c.args.text.now) (string_bytes c.loop-piece.text) (string_bytes c.push_piece.new.text) c.loop-piece.invariant (rw c.as_str.ensures.value at c.in_ok-push_piece.ensures))
