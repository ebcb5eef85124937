use Rattle.jsx_plan.proofs.Planning.{planned, plain}
use Rattle.jsx_print.proofs.control.for_in.Goals as goal

pub returns : goal.returns
returns c = planned c.sign-2.result _ _ c.sign-2.ensures (rw (c.in_ok-pat.ensures, c.in_ok-raw.ensures, c.in_ok-expr.ensures, c.in_ok-sign.ensures, c.in_ok-stmt.ensures) (simp plain))
