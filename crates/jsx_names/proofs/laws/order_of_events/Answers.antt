use Rattle.jsx_names.proofs.RisesTree.{events_rise}
use Rattle.jsx_names.proofs.laws.order_of_events.Goals as goal

pub returns : goal.returns
returns c = λ t h. events_rise t h
