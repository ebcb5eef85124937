use Rattle.jsx_plan.proofs.Planning.{planned, planning}
use Rattle.jsx_print.proofs.module.export_all.Goals as goal

pub returns : goal.returns
returns c = planned c.sign-2.result _ _ c.sign-2.ensures (rw (c.in_ok-word.ensures, c.in_ok-sign.ensures) (simp planning))
