use Rattle.jsx_base.proofs.Spans.{Viewed}
use Rattle.jsx_diag.specs.Data.{child_of}
use Rattle.jsx_diag.proofs.sub_diagnostic.clone_children.Given as goal

abbrev pub invariant-loop-child : goal.invariant-loop-child
invariant-loop-child l = Viewed child_of child_of l.child-index l.children l.copies.items
