use Rattle.std.proofs.Common.{false, ◌∙◌}
use Rattle.jsx_tree.specs.ViewProgram.{view_item}
use Rattle.jsx_scope.specs.declared.place.Place.TheVariants as place
use Rattle.jsx_scope.specs.Walk.{walk, but_export, with_export}
use Rattle.jsx_scope.proofs.Items.{export_inner}
use Rattle.jsx_scope.proofs.Outcomes.{two_ok}
use Rattle.jsx_scope.proofs.walk.Walker.item.Goals as goal

pub returns : goal.returns
returns c = two_ok c.second_of_item.result but_export with_export (view_item c.args.item.now) (view_item c.first_of_item.new.item) (view_item c.second_of_item.new.item) (walk (place.Level 0) false (view_item c.args.item.now))
    (λ e. e ∙ export_inner (view_item c.args.item.now)) c.in_ok-first_of_item.ensures c.second_of_item.ensures
