use Rattle.jsx_tree.proofs.Parentheses.Programs.{dressed_fits, dressed_goal}
use Rattle.jsx_tree.proofs.reading_back.parentheses_fit.Goals as goal

pub returns-clause-fits : goal.returns-clause-fits
returns-clause-fits c = λ t h. dressed_fits t h

pub returns-clause-goal : goal.returns-clause-goal
returns-clause-goal c = λ goal t g. dressed_goal goal t g
