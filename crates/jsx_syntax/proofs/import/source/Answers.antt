use Rattle.std.proofs.Common.{refl, ap}
use Rattle.jsx_token.specs.Here.{place_of}
use Rattle.jsx_tree.proofs.Rows.Steps.{bar}
use Rattle.jsx_operand.proofs.Placing.{takes_ends}
use Rattle.jsx_operand.proofs.Steps.{passed}
use Rattle.jsx_syntax.proofs.Imports.{source_read, source_unread}
use Rattle.jsx_syntax.proofs.PlacedItems.{source_placed}
use Rattle.jsx_syntax.proofs.import.source.Goals as goal

pub returns-in_err-text-clause-refused : goal.returns-in_err-text-clause-refused
returns-in_err-text-clause-refused c = passed _ c.in_err-text.ensures.refused c.from_residual.ensures.1 (λ b. bar b)

pub returns-in_err-semicolon-clause-refused : goal.returns-in_err-semicolon-clause-refused
returns-in_err-semicolon-clause-refused c = passed _ c.in_err-semicolon.ensures.refused c.from_residual-in_err-semicolon.ensures.1 (λ b. source_unread c.in_ok-text.ensures.read (record { is = ap place_of c.ends.ensures; found = refl }) b)

pub returns-clause-read : goal.returns-clause-read
returns-clause-read c = source_read c.in_ok-text.ensures.read (record { is = ap place_of c.ends.ensures; found = refl }) c.in_ok-semicolon.ensures.read

pub returns-clause-placed : goal.returns-clause-placed
returns-clause-placed c = source_placed c.in_ok-text.ensures.placed (takes_ends c.ends.ensures) c.in_ok-semicolon.ensures.takes
