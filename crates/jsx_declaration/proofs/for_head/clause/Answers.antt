use Rattle.std.proofs.Common.{refl, sym, ap}
use Rattle.jsx_token.specs.Here.{place_of}
use Rattle.jsx_declaration.proofs.Heads.{no_clause, none_clause, some_clause, unended_clause}
use Rattle.jsx_operand.proofs.Placing.{placed_from}
use Rattle.jsx_declaration.proofs.PlacedNodes.{clause_placed, no_clause_placed}
use Rattle.jsx_operand.proofs.Steps.{passed}
use Rattle.jsx_declaration.proofs.for_head.clause.Goals as goal

pub returns-then-take-clause-read : goal.returns-then-take-clause-read
returns-then-take-clause-read g c = no_clause c.args.closer c.requires.closes (record { is = c.take.ensures.taken c.if-take.true; found = refl })

pub returns-then-take-clause-placed : goal.returns-then-take-clause-placed
returns-then-take-clause-placed g c = no_clause_placed c.args.closer (c.take.ensures.takes c.if-take.true)

pub returns-in_err-expr-clause-refused : goal.returns-in_err-expr-clause-refused
returns-in_err-expr-clause-refused g c = passed _ c.in_err-expr.ensures.refused c.from_residual.ensures.1 (λ b. none_clause c.args.closer (record { same = sym (ap place_of (c.take.ensures.stays c.if-take.false)); stuck = record { is = c.take.ensures.missing c.if-take.false } }) b)

pub returns-in_err-expect-clause-refused : goal.returns-in_err-expect-clause-refused
returns-in_err-expect-clause-refused g c = passed _ c.in_err-expect.ensures.refused c.from_residual-in_err-expect.ensures.1 (λ b. unended_clause c.args.closer (record { same = sym (ap place_of (c.take.ensures.stays c.if-take.false)); stuck = record { is = c.take.ensures.missing c.if-take.false } }) c.in_ok-expr.ensures.read b)

pub returns-clause-read : goal.returns-clause-read
returns-clause-read g c = some_clause c.args.closer (record { same = sym (ap place_of (c.take.ensures.stays c.if-take.false)); stuck = record { is = c.take.ensures.missing c.if-take.false } }) c.in_ok-expr.ensures.read c.in_ok-expect.ensures.read

pub returns-clause-placed : goal.returns-clause-placed
returns-clause-placed g c = clause_placed c.args.closer (placed_from (c.take.ensures.stays c.if-take.false) c.in_ok-expr.ensures.placed) c.in_ok-expect.ensures.takes
