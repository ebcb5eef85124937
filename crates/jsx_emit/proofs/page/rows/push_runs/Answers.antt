use Rattle.std.proofs.Common.{map, take}
use Rattle.std.specs.Prelude.{string_bytes}
use Rattle.jsx_draw.specs.Grid.{run_of}
use Rattle.jsx_emit.proofs.Pages.{run_more}
use Rattle.jsx_draw.proofs.Orders.{take_next}
use Rattle.jsx_emit.proofs.page.rows.push_runs.Goals as goal

pub loop-run-preserved : goal.loop-run-preserved
loop-run-preserved c =
    let i = c.loop-run.run-index in
    rw (take_next run_of c.args.runs.now i c.run-item.result c.loop-run-test.true c.run-item.is)
    (run_more (take i (map run_of c.args.runs.now)) c.run-item.result (string_bytes c.args.text.now) (string_bytes c.loop-run.text) (string_bytes c.push_str.new.self) c.as_str.result.now c.as_str.utf8 c.as_str.ensures.value c.loop-run.invariant c.in_ok-push_str.ensures.bytes)
