use Rattle.std.proofs.Common.{string_bytes}
use Rattle.std.specs.Str.{chars}
use Rattle.jsx_base.specs.Comments.{is_marked}
use Rattle.jsx_print.proofs.Prints.{next_joint}
use Rattle.jsx_print.proofs.printed.marked.Goals as goal

pub loop-stretch-preserved : goal.loop-stretch-preserved
loop-stretch-preserved g c = record { so = next_joint (is_marked (g.C.Comments.marked c.args.comments.now)) c.args.stretches.now c.loop-stretch.stretch-index c.stretch-item.result (chars (string_bytes c.loop-stretch.text)) (chars (string_bytes c.push_stretch.new.text)) c.loop-stretch-test.true c.stretch-item.is c.in_ok-push_stretch.ensures c.loop-stretch.invariant.so }
