use Rattle.std.proofs.lemmas.Bool.{and_parts}
use Rattle.jsx_tree.specs.Nonterminals.{WholeProgram}
use Rattle.jsx_tree.specs.Form.{admits, fits_below}
use Rattle.jsx_tree.specs.Sound.{may_stand, loose}
use Rattle.jsx_tree.proofs.Parentheses.Idempotent.{fit_named, loose_named}
use Rattle.jsx_tree.proofs.Parentheses.LaidForms.{laid_nf}
use Rattle.jsx_tree.proofs.reading_back.laying_says_nothing.Goals as goal

pub returns-clause-of_the_grammar : goal.returns-clause-of_the_grammar
returns-clause-of_the_grammar c = λ d t h. laid_nf t (fit_named d t (and_parts (admits d t) (fits_below d t) h).1)

pub returns-clause-but_for_parentheses : goal.returns-clause-but_for_parentheses
returns-clause-but_for_parentheses c = λ t h. laid_nf t (loose_named WholeProgram t (and_parts (may_stand WholeProgram t) (loose WholeProgram t) h).1)
