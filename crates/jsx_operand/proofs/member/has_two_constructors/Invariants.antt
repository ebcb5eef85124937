use Rattle.jsx_tree.specs.StaticRules.{is_constructor}
use Rattle.jsx_tree.specs.View.{inside}
use Rattle.jsx_make.specs.Members.{view_class_member}
use Rattle.jsx_operand.proofs.Protos.{Counts}
use Rattle.jsx_operand.proofs.member.has_two_constructors.Given as goal

abbrev pub invariant-loop-i : goal.invariant-loop-i
invariant-loop-i l = Counts is_constructor (inside view_class_member) l.members l.had_constructor l.i
