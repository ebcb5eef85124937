use Rattle.std.proofs.Common.{refl}
use Rattle.jsx_tree.specs.ViewOperators.{binary_of}
use Rattle.jsx_operand.proofs.Operators.{built_operator, no_operator}
use Rattle.jsx_operand.proofs.Climbing.{as_grown, as_not_grown, grown_as, not_grown_as}
use Rattle.jsx_operand.proofs.Steps.{passed}
use Rattle.jsx_token.specs.Here.{place_of}
use Rattle.jsx_token.specs.declared.growth.Growth.TheVariants as growth
use Rattle.jsx_expression.proofs.CoverSteps.{settles_by, settles_low}
use Rattle.jsx_member.proofs.Sequences.{closed_of}
use Rattle.jsx_expression.proofs.grammar.Expressions.grow.Goals as goal

pub returns-in_ok-binary-in-Binary-clause-read : goal.returns-in_ok-binary-in-Binary-clause-read
returns-in_ok-binary-in-Binary-clause-read g c = as_grown c.args.growth (growth.Binary c.in-Binary.operator) c.in-Binary.is refl (built_operator (binary_of c.in-Binary.operator) c.in_ok-binary-in-Binary.ensures.read)

pub returns-in_err-binary-in-Binary-clause-refused : goal.returns-in_err-binary-in-Binary-clause-refused
returns-in_err-binary-in-Binary-clause-refused g c = passed _ c.in_err-binary-in-Binary.ensures.refused c.from_residual.ensures.1 (λ n. as_not_grown c.args.growth (growth.Binary c.in-Binary.operator) c.in-Binary.is refl (no_operator (binary_of c.in-Binary.operator) n))

pub returns-in_ok-assignment-in-Assign-clause-read : goal.returns-in_ok-assignment-in-Assign-clause-read
returns-in_ok-assignment-in-Assign-clause-read g c = as_grown c.args.growth growth.Assign c.in-Assign.is refl c.in_ok-assignment-in-Assign.ensures.read

pub returns-in_err-assignment-in-Assign-clause-refused : goal.returns-in_err-assignment-in-Assign-clause-refused
returns-in_err-assignment-in-Assign-clause-refused g c = passed _ c.in_err-assignment-in-Assign.ensures.refused c.from_residual-in_err-assignment-in-Assign.ensures.1 (λ n. as_not_grown c.args.growth growth.Assign c.in-Assign.is refl n)

pub returns-in_ok-operator_assignment-in-OpAssign-clause-read : goal.returns-in_ok-operator_assignment-in-OpAssign-clause-read
returns-in_ok-operator_assignment-in-OpAssign-clause-read g c = as_grown c.args.growth (growth.OpAssign c.in-OpAssign.operator) c.in-OpAssign.is refl c.in_ok-operator_assignment-in-OpAssign.ensures.read

pub returns-in_err-operator_assignment-in-OpAssign-clause-refused : goal.returns-in_err-operator_assignment-in-OpAssign-clause-refused
returns-in_err-operator_assignment-in-OpAssign-clause-refused g c = passed _ c.in_err-operator_assignment-in-OpAssign.ensures.refused c.from_residual-in_err-operator_assignment-in-OpAssign.ensures.1 (λ n. as_not_grown c.args.growth (growth.OpAssign c.in-OpAssign.operator) c.in-OpAssign.is refl n)

pub returns-in_ok-conditional-in-Cond-clause-read : goal.returns-in_ok-conditional-in-Cond-clause-read
returns-in_ok-conditional-in-Cond-clause-read g c = as_grown c.args.growth growth.Cond c.in-Cond.is refl c.in_ok-conditional-in-Cond.ensures.read

pub returns-in_err-conditional-in-Cond-clause-refused : goal.returns-in_err-conditional-in-Cond-clause-refused
returns-in_err-conditional-in-Cond-clause-refused g c = passed _ c.in_err-conditional-in-Cond.ensures.refused c.from_residual-in_err-conditional-in-Cond.ensures.1 (λ n. as_not_grown c.args.growth growth.Cond c.in-Cond.is refl n)

pub returns-in_ok-call-in-Call-clause-read : goal.returns-in_ok-call-in-Call-clause-read
returns-in_ok-call-in-Call-clause-read g c = as_grown c.args.growth growth.Call c.in-Call.is refl c.in_ok-call-in-Call.ensures.read

pub returns-in_err-call-in-Call-clause-refused : goal.returns-in_err-call-in-Call-clause-refused
returns-in_err-call-in-Call-clause-refused g c = passed _ c.in_err-call-in-Call.ensures.refused c.from_residual-in_err-call-in-Call.ensures.1 (λ n. as_not_grown c.args.growth growth.Call c.in-Call.is refl n)

pub returns-in_ok-member-in-Member-clause-read : goal.returns-in_ok-member-in-Member-clause-read
returns-in_ok-member-in-Member-clause-read g c = as_grown c.args.growth growth.Member c.in-Member.is refl c.in_ok-member-in-Member.ensures.read

pub returns-in_err-member-in-Member-clause-refused : goal.returns-in_err-member-in-Member-clause-refused
returns-in_err-member-in-Member-clause-refused g c = passed _ c.in_err-member-in-Member.ensures.refused c.from_residual-in_err-member-in-Member.ensures.1 (λ n. as_not_grown c.args.growth growth.Member c.in-Member.is refl n)

pub returns-in_ok-index-in-Index-clause-read : goal.returns-in_ok-index-in-Index-clause-read
returns-in_ok-index-in-Index-clause-read g c = as_grown c.args.growth growth.Index c.in-Index.is refl c.in_ok-index-in-Index.ensures.read

pub returns-in_err-index-in-Index-clause-refused : goal.returns-in_err-index-in-Index-clause-refused
returns-in_err-index-in-Index-clause-refused g c = passed _ c.in_err-index-in-Index.ensures.refused c.from_residual-in_err-index-in-Index.ensures.1 (λ n. as_not_grown c.args.growth growth.Index c.in-Index.is refl n)

pub returns-in_ok-postfix_update-in-Update-clause-read : goal.returns-in_ok-postfix_update-in-Update-clause-read
returns-in_ok-postfix_update-in-Update-clause-read g c = as_grown c.args.growth (growth.Update c.in-Update.operator) c.in-Update.is refl c.in_ok-postfix_update-in-Update.ensures.read

pub returns-in_err-postfix_update-in-Update-clause-refused : goal.returns-in_err-postfix_update-in-Update-clause-refused
returns-in_err-postfix_update-in-Update-clause-refused g c = passed _ c.in_err-postfix_update-in-Update.ensures.refused c.from_residual-in_err-postfix_update-in-Update.ensures.1 (λ n. as_not_grown c.args.growth (growth.Update c.in-Update.operator) c.in-Update.is refl n)

pub returns-in_ok-chain-in-Chain-clause-read : goal.returns-in_ok-chain-in-Chain-clause-read
returns-in_ok-chain-in-Chain-clause-read g c = grown_as c.args.growth growth.Chain c.in-Chain.is c.in_ok-chain-in-Chain.ensures.read

pub returns-in_err-chain-in-Chain-clause-refused : goal.returns-in_err-chain-in-Chain-clause-refused
returns-in_err-chain-in-Chain-clause-refused g c = passed _ c.in_err-chain-in-Chain.ensures.refused c.from_residual-in_err-chain-in-Chain.ensures.1 (λ n. not_grown_as c.args.growth growth.Chain c.in-Chain.is n)

pub returns-in_ok-binary-in-Binary-clause-ended : goal.returns-in_ok-binary-in-Binary-clause-ended
returns-in_ok-binary-in-Binary-clause-ended g c = closed_of (place_of c.binary.new.lexer) c.in_ok-binary-in-Binary.ensures.ended

pub returns-in_ok-binary-in-Binary-clause-settles : goal.returns-in_ok-binary-in-Binary-clause-settles
returns-in_ok-binary-in-Binary-clause-settles g c = settles_by c.in_ok-binary-in-Binary.ensures.ended

pub returns-in_ok-operator_assignment-in-OpAssign-clause-settles : goal.returns-in_ok-operator_assignment-in-OpAssign-clause-settles
returns-in_ok-operator_assignment-in-OpAssign-clause-settles g c = settles_low c.args.growth (growth.OpAssign c.in-OpAssign.operator) c.in-OpAssign.is refl

pub returns-in_ok-assignment-in-Assign-clause-settles : goal.returns-in_ok-assignment-in-Assign-clause-settles
returns-in_ok-assignment-in-Assign-clause-settles g c = settles_low c.args.growth growth.Assign c.in-Assign.is refl

pub returns-in_ok-conditional-in-Cond-clause-settles : goal.returns-in_ok-conditional-in-Cond-clause-settles
returns-in_ok-conditional-in-Cond-clause-settles g c = settles_low c.args.growth growth.Cond c.in-Cond.is refl

pub returns-in_ok-call-in-Call-clause-ended : goal.returns-in_ok-call-in-Call-clause-ended
returns-in_ok-call-in-Call-clause-ended g c = closed_of (place_of c.call.new.lexer) c.in_ok-call-in-Call.ensures.ended

pub returns-in_ok-call-in-Call-clause-settles : goal.returns-in_ok-call-in-Call-clause-settles
returns-in_ok-call-in-Call-clause-settles g c = settles_by c.in_ok-call-in-Call.ensures.ended

pub returns-in_ok-member-in-Member-clause-ended : goal.returns-in_ok-member-in-Member-clause-ended
returns-in_ok-member-in-Member-clause-ended g c = closed_of (place_of c.member.new.lexer) c.in_ok-member-in-Member.ensures.ended

pub returns-in_ok-member-in-Member-clause-settles : goal.returns-in_ok-member-in-Member-clause-settles
returns-in_ok-member-in-Member-clause-settles g c = settles_by c.in_ok-member-in-Member.ensures.ended

pub returns-in_ok-index-in-Index-clause-ended : goal.returns-in_ok-index-in-Index-clause-ended
returns-in_ok-index-in-Index-clause-ended g c = closed_of (place_of c.index.new.lexer) c.in_ok-index-in-Index.ensures.ended

pub returns-in_ok-index-in-Index-clause-settles : goal.returns-in_ok-index-in-Index-clause-settles
returns-in_ok-index-in-Index-clause-settles g c = settles_by c.in_ok-index-in-Index.ensures.ended

pub returns-in_ok-chain-in-Chain-clause-ended : goal.returns-in_ok-chain-in-Chain-clause-ended
returns-in_ok-chain-in-Chain-clause-ended g c = closed_of (place_of c.chain.new.lexer) c.in_ok-chain-in-Chain.ensures.ended

pub returns-in_ok-chain-in-Chain-clause-settles : goal.returns-in_ok-chain-in-Chain-clause-settles
returns-in_ok-chain-in-Chain-clause-settles g c = settles_by c.in_ok-chain-in-Chain.ensures.ended

pub returns-in_ok-postfix_update-in-Update-clause-ended : goal.returns-in_ok-postfix_update-in-Update-clause-ended
returns-in_ok-postfix_update-in-Update-clause-ended g c = closed_of (place_of c.args.lexer.now) c.requires.settled

pub returns-in_ok-postfix_update-in-Update-clause-settles : goal.returns-in_ok-postfix_update-in-Update-clause-settles
returns-in_ok-postfix_update-in-Update-clause-settles g c = settles_by c.requires.settled
