use Rattle.std.proofs.Common.{◌≤◌}
use Rattle.std.specs.Prelude.{IsTrue}
use Rattle.jsx_tree.specs.View.{word_of}
use Rattle.jsx_operand.specs.Around.{around_of}
use Rattle.jsx_token.specs.Here.{place_of, left}
use Rattle.jsx_token.specs.Semicolons.{in_list}
use Rattle.jsx_declaration.proofs.Lists.{AllRead}
use Rattle.jsx_declaration.proofs.statement.more_declarators.Given as goal

abbrev pub invariant-declarators : goal.invariant-declarators
invariant-declarators g l = record {
  so_far : AllRead (around_of l.context.around) (word_of l.word) l.fn.first.value l.fn.lexer l.all.items l.next.value l.lexer;
  behind : IsTrue (in_list (place_of l.lexer));
  within : left l.lexer ≤ left l.fn.lexer;
}

abbrev pub decreases-declarators : goal.decreases-declarators
decreases-declarators g l = left l.lexer
