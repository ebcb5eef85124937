use Rattle.jsx_tree.specs.StaticRules.{is_proto}
use Rattle.jsx_tree.specs.View.{inside}
use Rattle.jsx_make.specs.Members.{view_prop}
use Rattle.jsx_operand.proofs.Protos.{Counts}
use Rattle.jsx_operand.proofs.proto.has_two_protos.Given as goal

abbrev pub invariant-loop-i : goal.invariant-loop-i
invariant-loop-i l = Counts is_proto (inside view_prop) l.members l.had_proto l.i
