use Rattle.std.proofs.Common.{map, take}
use Rattle.std.specs.Prelude.{string_bytes}
use Rattle.jsx_diag.specs.Data.{piece_of}
use Rattle.jsx_emit.proofs.Pages.{message_more}
use Rattle.jsx_draw.proofs.Orders.{take_next}
use Rattle.jsx_emit.proofs.page.header.push_message.Goals as goal

pub loop-piece-preserved : goal.loop-piece-preserved
loop-piece-preserved c =
    let i = c.loop-piece.piece-index in
    let pieces = map piece_of c.args.message.now in
    rw (take_next piece_of c.args.message.now i c.piece-item.result c.loop-piece-test.true c.piece-item.is)
    (message_more (take i pieces) (piece_of c.piece-item.result) (string_bytes c.args.text.now) (string_bytes c.loop-piece.text) (string_bytes c.push_spaced.new.text) c.loop-piece.invariant (rw c.as_str.ensures.value at c.in_ok-push_spaced.ensures))
