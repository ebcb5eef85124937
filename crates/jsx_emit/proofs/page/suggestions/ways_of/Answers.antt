use Rattle.jsx_diag.specs.Data.{suggestion_of}
use Rattle.jsx_emit.proofs.Ways.{ways_shown}
use Rattle.jsx_emit.proofs.page.suggestions.ways_of.Goals as goal

pub returns-in-Ok : goal.returns-in-Ok
returns-in-Ok g c =
    ways_shown (g.M.SourceMapper.files c.args.cm.now) (suggestion_of c.args.it.now) c.in-Ok.ways.items c.unless_overlapping.result.items c.in-Ok.ensures.taken c.in-Ok.ensures.texts c.unless_overlapping.ensures
