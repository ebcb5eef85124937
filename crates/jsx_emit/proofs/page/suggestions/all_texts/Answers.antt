use Rattle.std.specs.Prelude.{string_bytes}
use Rattle.jsx_diag.specs.Data.{suggestion_of}
use Rattle.jsx_emit.proofs.Each.{each_next}
use Rattle.jsx_emit.proofs.page.suggestions.all_texts.Goals as goal

pub loop-it-preserved : goal.loop-it-preserved
loop-it-preserved g c = record {
  each = each_next _ suggestion_of c.args.suggestions.now c.loop-it.it-index c.it-item.result (string_bytes c.loop-it.text) (string_bytes c.in_ok-part.part) (string_bytes c.push_str.new.self) c.loop-it-test.true c.it-item.is c.loop-it.invariant.each c.in_ok-part.ensures (rw c.as_str.ensures.value at c.in_ok-push_str.ensures.bytes);
}
