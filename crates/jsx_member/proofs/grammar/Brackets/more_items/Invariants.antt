use Rattle.std.proofs.Common.{◌<◌}
use Rattle.jsx_operand.specs.SoFar.{so_far}
use Rattle.jsx_operand.specs.Around.{around_of}
use Rattle.jsx_token.specs.Here.{left}
use Rattle.jsx_member.proofs.Gatherings.{Gathers}
use Rattle.jsx_member.proofs.grammar.Brackets.more_items.Given as goal

abbrev pub invariant-items : goal.invariant-items
invariant-items g l = record {
  so_far : Gathers (around_of l.context.around) l.fn.first.value l.fn.lexer l.all.items l.lo l.lexer;
  within : left l.lexer < left l.fn.lexer;
}

abbrev pub decreases-items : goal.decreases-items
decreases-items g l = left l.lexer
