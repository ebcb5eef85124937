use Rattle.std.proofs.Common.{◌+◌, ◌++◌, length, drop, ap, sym, ◌∙◌, arith}
use Rattle.std.specs.Str.{chars}
use Rattle.jsx_base.specs.Lines.{lines}
use Rattle.jsx_base.specs.LineStarts.{starts}
use Rattle.jsx_base.proofs.LineAt.{starts_begin, starts_more}
use Rattle.jsx_base.proofs.source_file.line_starts.Goals as goal

pub loop-line-init : goal.loop-line-init
loop-line-init c = record {
  text = c.utf8.text;
  bytes = omega arith;
  items =
      starts_begin 0 (chars c.args.text.now)
      ∙ ap (λ z. z ++ drop 1 (starts 0 (lines (chars c.args.text.now)))) (sym c.in_ok-line_starts.ensures.items);
}

pub loop-line-preserved : goal.loop-line-preserved
loop-line-preserved c = let split = c.in-Some.ensures in record {
  text = split.text;
  bytes = omega (arith, split.bytes, split.width, c.loop-line.invariant.bytes);
  items =
      starts_more c.loop-line.rest.now c.in-Some.line.now c.in-Some.more.now c.loop-line.start c.loop-line.line_starts.items (starts 0 (lines (chars c.args.text.now))) split c.loop-line.invariant.items
      ∙ ap (λ z. z ++ drop 1 (starts (c.loop-line.start + (length c.in-Some.line.now + 1)) (lines (chars c.in-Some.more.now)))) (sym c.in_ok-push.ensures.items);
}
