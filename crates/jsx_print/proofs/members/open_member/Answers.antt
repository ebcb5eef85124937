use Rattle.std.proofs.Common.{◌∙◌, Box, Global, List, ap, map, sym}
use Rattle.jsx_tree.specs.Kinds.{Binds, Method, function, list, node, none, part}
use Rattle.jsx_tree.specs.View.{body, forest_at, holder_of, inside}
use Rattle.jsx_tree.specs.declared.text.Text.{Text}
use Rattle.jsx_tree.specs.declared.tree.Pat.{Pat}
use Rattle.jsx_tree.specs.declared.tree.Stmt.{Stmt}
use Rattle.jsx_plan.specs.Noted.{noted_key, noted_member, noted_pattern, noted_stmt}
use Rattle.jsx_plan.proofs.Noted.{noted-Prop-Method}
use Rattle.jsx_pen.specs.Pen.{State}
use Rattle.jsx_plan.specs.Plan.{job_of, owner_of, with_tree}
use Rattle.jsx_plan.proofs.Planning.{planned_on}
use Rattle.jsx_print.proofs.members.open_member.Goals as goal

pub returns-in-Method : goal.returns-in-Method
returns-in-Method c =
    let j = job_of c.args.printer.now in
    let o = owner_of c.args.owner in
    let i = c.in-Method in
    let at : List (Box Pat Global) → List Text → List (Box Stmt Global) → State = λ ps ds ss. with_tree j (node (function (Method (holder_of o i.placement))) (part (noted_key i.key) (part (list (forest_at Binds (map (inside noted_pattern) ps))) (part (body ds (map (inside noted_stmt) ss)) none)))) in
    planned_on c.method.result _ _ c.method.ensures
    (ap (λ ps. at ps c.deref-in-Method-2.result.now c.deref-in-Method-3.result.now) c.deref-in-Method.ensures.value ∙ ap (λ ds. at i.params.items ds c.deref-in-Method-3.result.now) c.deref-in-Method-2.ensures.value
    ∙ ap (λ ss. at i.params.items i.directives.items ss) c.deref-in-Method-3.ensures.value
    ∙ ap (with_tree j) (sym (noted-Prop-Method i.field-0 i.placement i.key i.params i.directives i.stmts o)) ∙ ap (λ m. with_tree j (noted_member m o)) (sym i.is ∙ c.deref.ensures))
