use Rattle.jsx_plan.proofs.Noted.{noted_views}
use Rattle.jsx_plan.proofs.Planning.{planned_on}
use Rattle.jsx_print.proofs.access.open_access.Goals as goal

pub returns-in-Tagged : goal.returns-in-Tagged
returns-in-Tagged c = planned_on c.tagged.result _ _ c.tagged.ensures (rw (c.deref-in-Tagged.ensures.value, c.deref-in-Tagged-2.ensures.value, c.in-Tagged.is) (simp noted_views))

pub returns-in-Call : goal.returns-in-Call
returns-in-Call c = planned_on c.call.result _ _ c.call.ensures (rw (c.deref.ensures.value, c.in-Call.is) (simp noted_views))
