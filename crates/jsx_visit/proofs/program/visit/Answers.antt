use Rattle.jsx_tree.specs.Told.{told}
use Rattle.jsx_visit.proofs.Keeping.{told_stays}
use Rattle.jsx_visit.proofs.program.visit.Goals as goal

pub returns-clause-places : goal.returns-clause-places
returns-clause-places g c = told_stays c.program.result g.V.Visitor.keeps (told c.program.new.program) (told c.args.program.now) c.program.ensures.places
