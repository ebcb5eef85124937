use Rattle.std.proofs.Common.{◌≡◌, ◌++◌, length, map}
use Rattle.std.specs.Vec.Iter.{into_iter_items, into_iter_len}
use Rattle.jsx_tree.specs.StaticRules.{all_of, is_word}
use Rattle.jsx_tree.specs.Told.{told_pat}
use Rattle.jsx_tree.specs.View.{inside}
use Rattle.jsx_expression.specs.Arrows.{retold_cover}
use Rattle.jsx_expression.proofs.CoverLists.{TurnSoFar, patterns}
use Rattle.jsx_expression.proofs.arrow.parameters_of.Given as goal

abbrev pub invariant-parameters : goal.invariant-parameters
invariant-parameters l = record {
  all : l.yielded ++ into_iter_items l.cover-iterator ≡ into_iter_items l.initial.cover-iterator;
  left : into_iter_len l.cover-iterator ≡ length (into_iter_items l.cover-iterator);
  turns : TurnSoFar l.yielded l.all.items;
  told : map (inside told_pat) l.all.items ≡ map retold_cover l.yielded;
  rest : l.rest ≡ l.fn.group.rest;
  simple : l.are_simple ≡ all_of is_word (patterns l.all.items);
}
