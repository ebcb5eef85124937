use Rattle.std.proofs.Common.{◌∙◌, ap}
use Rattle.jsx_tree.specs.declared.tree.Pat.TheVariants as pat
use Rattle.jsx_tree.specs.Kinds.{ArrayPat, Assigns, Binds, function, node, list, none, part}
use Rattle.jsx_tree.specs.View.{view_pat, view_target}
use Rattle.jsx_tree.specs.Told.{told_pat}
use Rattle.jsx_tree.proofs.Views.{bound_forest, view-Pat-Array}
use Rattle.jsx_tree.proofs.Telling.{told-Pat-Array}
use Rattle.jsx_make.proofs.Making.{assigned_forest, shows}
use Rattle.jsx_make.proofs.functions.array_pattern.Goals as goal

pub returns-clause-view : goal.returns-clause-view
returns-clause-view c = shows view_pat c.boxed.result (pat.Array c.args.at c.args.slots) c.boxed.ensures (view-Pat-Array c.args.at c.args.slots Binds ∙ ap (λ ts. node (function (ArrayPat Binds)) (part (list ts) none)) (bound_forest c.args.slots.items))

pub returns-clause-assigns : goal.returns-clause-assigns
returns-clause-assigns c = shows view_target c.boxed.result (pat.Array c.args.at c.args.slots) c.boxed.ensures (view-Pat-Array c.args.at c.args.slots Assigns ∙ ap (λ ts. node (function (ArrayPat Assigns)) (part (list ts) none)) (assigned_forest c.args.slots.items))

pub returns-clause-told : goal.returns-clause-told
returns-clause-told c = shows told_pat c.boxed.result (pat.Array c.args.at c.args.slots) c.boxed.ensures (told-Pat-Array c.args.at c.args.slots)
