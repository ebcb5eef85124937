use Rattle.std.proofs.Common.{true≢false, sym, arith}
use Rattle.std.proofs.lemmas.List.{get_or_default}
use Rattle.jsx_base.proofs.calls.is_listed.Goals as goal

-- no element of the list is as large
pub returns-in-Err-clause-listed : goal.returns-in-Err-clause-listed
returns-in-Err-clause-listed c = (
  λ h. absurd (true≢false (sym h)),
  λ (k, within, read). absurd (c.in-Err.ensures (omega (arith, read, c.type_inv.list k, get_or_default c.args.list.now k 0 c.args.number within))),
)
