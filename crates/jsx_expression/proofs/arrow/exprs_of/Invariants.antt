use Rattle.std.proofs.Common.{◌≡◌, ◌++◌, length, map, true}
use Rattle.std.specs.Vec.Iter.{into_iter_items, into_iter_len}
use Rattle.jsx_tree.specs.Told.{told_expr}
use Rattle.jsx_tree.specs.View.{inside, view_expr}
use Rattle.jsx_operand.specs.Covers.{view_cover}
use Rattle.jsx_expression.specs.Arrows.{are_exprs}
use Rattle.jsx_function.specs.Covers.{told_cover}
use Rattle.jsx_expression.proofs.arrow.exprs_of.Given as goal

abbrev pub invariant-exprs : goal.invariant-exprs
invariant-exprs l = record {
  all : l.yielded ++ into_iter_items l.cover-iterator ≡ into_iter_items l.initial.cover-iterator;
  left : into_iter_len l.cover-iterator ≡ length (into_iter_items l.cover-iterator);
  are : are_exprs l.yielded ≡ true;
  views : map (inside view_expr) l.all.items ≡ map view_cover l.yielded;
  told : map (inside told_expr) l.all.items ≡ map told_cover l.yielded;
}
