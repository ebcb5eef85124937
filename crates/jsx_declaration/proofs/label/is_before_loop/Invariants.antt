use Rattle.jsx_token.specs.Here.{place_of, left}
use Rattle.jsx_declaration.proofs.Labels.{PastLabels}
use Rattle.jsx_declaration.proofs.label.is_before_loop.Given as goal

abbrev pub invariant-labels : goal.invariant-labels
invariant-labels l = record { past : PastLabels (place_of l.lexer) (place_of l.ahead) }

abbrev pub decreases-labels : goal.decreases-labels
decreases-labels l = left l.ahead
