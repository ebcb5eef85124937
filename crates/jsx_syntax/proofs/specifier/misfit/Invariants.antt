use Rattle.jsx_tree.specs.Kinds.{From}
use Rattle.jsx_tree.specs.ViewProgram.{view_specifier}
use Rattle.jsx_syntax.specs.Specifiers.{fits, side_of}
use Rattle.jsx_syntax.proofs.Fitting.{Pass}
use Rattle.jsx_syntax.proofs.specifier.misfit.Given as goal

abbrev pub invariant-loop-i : goal.invariant-loop-i
invariant-loop-i l = Pass (fits (side_of l.side)) (view_specifier From) l.specifiers l.i
