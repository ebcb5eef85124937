use Rattle.jsx_tree.specs.ViewProgram.{view}
use Rattle.jsx_scope.proofs.Whole.{walked_pairs, walked_fits, walked_goal, walked_same}
use Rattle.jsx_scope.proofs.parentheses.parenthesise.Goals as goal

pub returns-clause-pairs : goal.returns-clause-pairs
returns-clause-pairs c = λ h. walked_pairs c.program.result (view c.args.program.now) (view c.program.new.program) c.program.ensures h

pub returns-clause-fits : goal.returns-clause-fits
returns-clause-fits c = λ h. walked_fits c.program.result (view c.args.program.now) (view c.program.new.program) c.program.ensures h

pub returns-clause-goal : goal.returns-clause-goal
returns-clause-goal c = λ g h i. walked_goal c.program.result g (view c.args.program.now) (view c.program.new.program) c.program.ensures h i

pub returns-clause-same : goal.returns-clause-same
returns-clause-same c = λ h. walked_same c.program.result (view c.args.program.now) (view c.program.new.program) c.program.ensures h
