use Rattle.std.proofs.Common.{◌≡◌, ◌||◌, drop}
use Rattle.std.specs.List.{list_any}
use Rattle.jsx_base.specs.MultiSpan.{spans_of}
use Rattle.jsx_emit.specs.Texts.{called_spans, moves, put_calls, some_move}
use Rattle.jsx_emit.proofs.page.prepared.move_spans.Given as goal

abbrev pub invariant-loop-span : goal.invariant-loop-span
invariant-loop-span g l = record {
  found : (l.moved || list_any (moves (g.M.SourceMapper.call_span l.map)) (drop l.span-index l.span-items)) ≡ some_move (g.M.SourceMapper.call_span l.map) (spans_of l.fn.spans);
  left : put_calls (g.M.SourceMapper.call_span l.map) (drop l.span-index l.span-items) (spans_of l.spans) ≡ called_spans (g.M.SourceMapper.call_span l.map) (spans_of l.fn.spans);
}
