use Rattle.jsx_base.proofs.Spans.{Viewed}
use Rattle.jsx_diag.specs.Data.{piece_of}
use Rattle.jsx_diag.proofs.message.clone_messages.Given as goal

abbrev pub invariant-loop-message : goal.invariant-loop-message
invariant-loop-message l = Viewed piece_of piece_of l.message-index l.messages l.copies.items
