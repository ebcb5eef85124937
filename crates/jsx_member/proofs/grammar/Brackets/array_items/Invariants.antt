use Rattle.std.proofs.Common.{◌≤◌}
use Rattle.jsx_operand.specs.Around.{around_of}
use Rattle.jsx_token.specs.Here.{left}
use Rattle.jsx_member.proofs.ArrayLoop.{ItemsRead}
use Rattle.jsx_member.proofs.grammar.Brackets.array_items.Given as goal

abbrev pub invariant-items : goal.invariant-items
invariant-items g l = record {
  so_far : ItemsRead (around_of l.context.around) l.all.items l.are_exprs l.may_turn l.fn.lexer l.lexer;
  within : left l.lexer ≤ left l.fn.lexer;
}

abbrev pub decreases-items : goal.decreases-items
decreases-items g l = left l.lexer
