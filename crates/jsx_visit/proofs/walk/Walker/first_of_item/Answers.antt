use Rattle.jsx_visit.proofs.Visits.{names_but, from_but}
use Rattle.jsx_visit.proofs.walk.Walker.first_of_item.Goals as goal

pub returns-in-ExportNames-clause-seen : goal.returns-in-ExportNames-clause-seen
returns-in-ExportNames-clause-seen g c = names_but g.V.Visitor.made c.args.item.now c.in-ExportNames.field-0 c.in-ExportNames.field-1 c.in-ExportNames.is

pub returns-in-ExportFrom-clause-seen : goal.returns-in-ExportFrom-clause-seen
returns-in-ExportFrom-clause-seen g c = from_but g.V.Visitor.made c.args.item.now c.in-ExportFrom.field-0 c.in-ExportFrom.field-1 c.in-ExportFrom.field-2 c.in-ExportFrom.is
