use Rattle.std.proofs.Common.{◌≤◌}
use Rattle.jsx_operand.specs.Around.{around_of}
use Rattle.jsx_token.specs.Here.{left}
use Rattle.jsx_member.proofs.ObjectLoop.{MembersRead}
use Rattle.jsx_member.proofs.grammar.Brackets.object_members.Given as goal

abbrev pub invariant-members : goal.invariant-members
invariant-members g l = record {
  so_far : MembersRead (around_of l.context.around) l.all.items l.are_exprs l.may_turn l.fn.lexer l.lexer;
  within : left l.lexer ≤ left l.fn.lexer;
}

abbrev pub decreases-members : goal.decreases-members
decreases-members g l = left l.lexer
