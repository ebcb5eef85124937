use Rattle.std.proofs.Common.{◌≤◌}
use Rattle.jsx_operand.specs.Around.{around_of}
use Rattle.jsx_token.specs.Here.{left}
use Rattle.jsx_member.proofs.Parts.{Reads}
use Rattle.jsx_member.proofs.grammar.Brackets.template_rest.Given as goal

abbrev pub invariant-parts : goal.invariant-parts
invariant-parts g l = record {
  reads : Reads (around_of l.context.around) l.is_tagged l.fn.head l.pieces.items l.parts.items l.fn.lexer l.lexer;
  within : left l.lexer ≤ left l.fn.lexer;
}

abbrev pub decreases-parts : goal.decreases-parts
decreases-parts g l = left l.lexer
