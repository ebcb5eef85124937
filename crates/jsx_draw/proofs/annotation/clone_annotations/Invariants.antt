use Rattle.jsx_base.proofs.Spans.{Viewed}
use Rattle.jsx_draw.specs.Annotation.{mark_of}
use Rattle.jsx_draw.proofs.annotation.clone_annotations.Given as goal

abbrev pub invariant-loop-annotation : goal.invariant-loop-annotation
invariant-loop-annotation l = Viewed mark_of mark_of l.annotation-index l.annotations l.copies.items
