-- The rules by which productions are proved.
use Rattle.jsx_plan.proofs.Folding as from_folding
use Rattle.jsx_plan.proofs.Noted as from_noted
use Rattle.jsx_plan.proofs.Planning as from_planning

pub ruleset items = (from_folding.items)

pub ruleset noted_views = (from_noted.noted_views)

pub ruleset absent = (from_planning.absent)

pub ruleset accessors = (from_planning.accessors)

pub ruleset arrays = (from_planning.arrays)

pub ruleset calls = (from_planning.calls)

pub ruleset clauses = (from_planning.clauses)

pub ruleset importing = (from_planning.importing)

pub ruleset opening = (from_planning.opening)

pub ruleset plain = (from_planning.plain)

pub ruleset planning = (from_planning.planning)

pub ruleset running = (from_planning.running)

pub ruleset stepping = (from_planning.stepping)

pub ruleset variants = (from_planning.variants)
