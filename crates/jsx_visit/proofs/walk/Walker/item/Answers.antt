use Rattle.jsx_tree.specs.ViewProgram.{view_item}
use Rattle.jsx_visit.specs.Visit.{visited}
use Rattle.jsx_visit.specs.Parts.{but_export, with_export}
use Rattle.jsx_visit.proofs.Outcomes.{two_ok}
use Rattle.jsx_visit.proofs.Visits.{item_all}
use Rattle.jsx_visit.proofs.walk.Walker.item.Goals as goal

pub returns-clause-seen : goal.returns-clause-seen
returns-clause-seen g c = two_ok c.second_of_item.result (but_export g.V.Visitor.made) (with_export g.V.Visitor.made) (view_item c.args.item.now) (view_item c.first_of_item.new.item) (view_item c.second_of_item.new.item) (visited g.V.Visitor.made (view_item c.args.item.now))
    (item_all g.V.Visitor.made c.args.item.now) c.in_ok-first_of_item.ensures.seen c.second_of_item.ensures.seen
