use Rattle.std.proofs.Common.{◌≡◌, ◌-◌, ap, arith, length, map, sym, true, ◌∙◌}
use Rattle.std.specs.Prelude.{◌&&◌}
use Rattle.std.proofs.lemmas.Bool.{false≢true}
use Rattle.std.proofs.lemmas.List.{length-map}
use Rattle.jsx_tree.specs.Kinds.{Tree, Binds, Assigns}
use Rattle.jsx_tree.specs.View.{OfObject, OfClass, inside, template, view_access, view_expr, view_link, view_stmt, view_control, view_jsx, view_pattern, view_member}
use Rattle.jsx_tree.proofs.Views.{view-Access-Tagged}
use Rattle.jsx_depth.specs.Fits.{fits, fits_inside, used}
use Rattle.jsx_depth.proofs.Depths.{setter_fits, template_fits}
use Rattle.jsx_depth.proofs.Lists.{past, failed, ended, front_past, front_over, front_failed, front_ended, front_fit, forest_fit, roles_fit, objects_fit, classes_fit}
use Rattle.jsx_depth.proofs.+depth.Goals.{«expressions::fits_front-else-i-count-via-else-i-count», «expressions::fits_front-else-i-count-via-then-i-count+else-not-fits_expr», «objects::parts_of_member-else-fits_key-4», «objects::parts_of_member-then-fits_key-4»}
use Rattle.jsx_depth.proofs.+depth.Goals as goal

pub «expressions::fits_exprs-loop-expr-preserved» : goal.«expressions::fits_exprs-loop-expr-preserved»
«expressions::fits_exprs-loop-expr-preserved» t c = past (λ x. fits c.args.levels (view_expr x.value)) c.args.exprs.now c.loop-expr.expr-index c.expr-item.result (omega arith) c.expr-item.is (ap (λ s. fits c.args.levels (view_expr s)) (sym c.deref.ensures) ∙ (sym c.fits_expr.ensures ∙ c.if-not-fits_expr.false)) c.loop-expr.invariant

pub «expressions::fits_exprs-returns-then-not-fits_expr» : goal.«expressions::fits_exprs-returns-then-not-fits_expr»
«expressions::fits_exprs-returns-then-not-fits_expr» t c = failed (λ x. fits c.args.levels (view_expr x.value)) c.args.exprs.now c.loop-expr.expr-index c.expr-item.result (omega arith) c.expr-item.is (ap (λ s. fits c.args.levels (view_expr s)) (sym c.deref.ensures) ∙ (sym c.fits_expr.ensures ∙ c.if-not-fits_expr.true)) c.loop-expr.invariant ∙ sym (forest_fit c.args.levels (inside view_expr) c.args.exprs.now)

pub «expressions::fits_exprs-returns» : goal.«expressions::fits_exprs-returns»
«expressions::fits_exprs-returns» t c = ended (λ x. fits c.args.levels (view_expr x.value)) c.args.exprs.now c.loop-expr.expr-index (omega arith) c.loop-expr.invariant ∙ sym (forest_fit c.args.levels (inside view_expr) c.args.exprs.now)

pub «operators::fits_links-loop-link-preserved» : goal.«operators::fits_links-loop-link-preserved»
«operators::fits_links-loop-link-preserved» t c = past (λ x. fits c.args.levels (view_link x.value)) c.args.links.now c.loop-link.link-index c.link-item.result (omega arith) c.link-item.is (ap (λ s. fits c.args.levels (view_link s)) (sym c.deref.ensures) ∙ (sym c.fits_link.ensures ∙ c.if-not-fits_link.false)) c.loop-link.invariant

pub «operators::fits_links-returns-then-not-fits_link» : goal.«operators::fits_links-returns-then-not-fits_link»
«operators::fits_links-returns-then-not-fits_link» t c = failed (λ x. fits c.args.levels (view_link x.value)) c.args.links.now c.loop-link.link-index c.link-item.result (omega arith) c.link-item.is (ap (λ s. fits c.args.levels (view_link s)) (sym c.deref.ensures) ∙ (sym c.fits_link.ensures ∙ c.if-not-fits_link.true)) c.loop-link.invariant ∙ sym (forest_fit c.args.levels (inside view_link) c.args.links.now)

pub «operators::fits_links-returns» : goal.«operators::fits_links-returns»
«operators::fits_links-returns» t c = ended (λ x. fits c.args.levels (view_link x.value)) c.args.links.now c.loop-link.link-index (omega arith) c.loop-link.invariant ∙ sym (forest_fit c.args.levels (inside view_link) c.args.links.now)

pub «statements::fits_stmts-loop-stmt-preserved» : goal.«statements::fits_stmts-loop-stmt-preserved»
«statements::fits_stmts-loop-stmt-preserved» t c = past (λ x. fits c.args.levels (view_stmt x.value)) c.args.stmts.now c.loop-stmt.stmt-index c.stmt-item.result (omega arith) c.stmt-item.is (ap (λ s. fits c.args.levels (view_stmt s)) (sym c.deref.ensures) ∙ (sym c.fits_stmt.ensures ∙ c.if-not-fits_stmt.false)) c.loop-stmt.invariant

pub «statements::fits_stmts-returns-then-not-fits_stmt» : goal.«statements::fits_stmts-returns-then-not-fits_stmt»
«statements::fits_stmts-returns-then-not-fits_stmt» t c = failed (λ x. fits c.args.levels (view_stmt x.value)) c.args.stmts.now c.loop-stmt.stmt-index c.stmt-item.result (omega arith) c.stmt-item.is (ap (λ s. fits c.args.levels (view_stmt s)) (sym c.deref.ensures) ∙ (sym c.fits_stmt.ensures ∙ c.if-not-fits_stmt.true)) c.loop-stmt.invariant ∙ sym (forest_fit c.args.levels (inside view_stmt) c.args.stmts.now)

pub «statements::fits_stmts-returns» : goal.«statements::fits_stmts-returns»
«statements::fits_stmts-returns» t c = ended (λ x. fits c.args.levels (view_stmt x.value)) c.args.stmts.now c.loop-stmt.stmt-index (omega arith) c.loop-stmt.invariant ∙ sym (forest_fit c.args.levels (inside view_stmt) c.args.stmts.now)

pub «control::fits_controls-loop-control-preserved» : goal.«control::fits_controls-loop-control-preserved»
«control::fits_controls-loop-control-preserved» t c = past (λ x. fits c.args.levels (view_control x.value)) c.args.controls.now c.loop-control.control-index c.control-item.result (omega arith) c.control-item.is (ap (λ s. fits c.args.levels (view_control s)) (sym c.deref.ensures) ∙ (sym c.fits_control.ensures ∙ c.if-not-fits_control.false)) c.loop-control.invariant

pub «control::fits_controls-returns-then-not-fits_control» : goal.«control::fits_controls-returns-then-not-fits_control»
«control::fits_controls-returns-then-not-fits_control» t c = failed (λ x. fits c.args.levels (view_control x.value)) c.args.controls.now c.loop-control.control-index c.control-item.result (omega arith) c.control-item.is (ap (λ s. fits c.args.levels (view_control s)) (sym c.deref.ensures) ∙ (sym c.fits_control.ensures ∙ c.if-not-fits_control.true)) c.loop-control.invariant ∙ sym (forest_fit c.args.levels (inside view_control) c.args.controls.now)

pub «control::fits_controls-returns» : goal.«control::fits_controls-returns»
«control::fits_controls-returns» t c = ended (λ x. fits c.args.levels (view_control x.value)) c.args.controls.now c.loop-control.control-index (omega arith) c.loop-control.invariant ∙ sym (forest_fit c.args.levels (inside view_control) c.args.controls.now)

pub «elements::fits_elements-loop-element-preserved» : goal.«elements::fits_elements-loop-element-preserved»
«elements::fits_elements-loop-element-preserved» t c = past (λ x. fits c.args.levels (view_jsx x.value)) c.args.elements.now c.loop-element.element-index c.element-item.result (omega arith) c.element-item.is (ap (λ s. fits c.args.levels (view_jsx s)) (sym c.deref.ensures) ∙ (sym c.fits_element.ensures ∙ c.if-not-fits_element.false)) c.loop-element.invariant

pub «elements::fits_elements-returns-then-not-fits_element» : goal.«elements::fits_elements-returns-then-not-fits_element»
«elements::fits_elements-returns-then-not-fits_element» t c = failed (λ x. fits c.args.levels (view_jsx x.value)) c.args.elements.now c.loop-element.element-index c.element-item.result (omega arith) c.element-item.is (ap (λ s. fits c.args.levels (view_jsx s)) (sym c.deref.ensures) ∙ (sym c.fits_element.ensures ∙ c.if-not-fits_element.true)) c.loop-element.invariant ∙ sym (forest_fit c.args.levels (inside view_jsx) c.args.elements.now)

pub «elements::fits_elements-returns» : goal.«elements::fits_elements-returns»
«elements::fits_elements-returns» t c = ended (λ x. fits c.args.levels (view_jsx x.value)) c.args.elements.now c.loop-element.element-index (omega arith) c.loop-element.invariant ∙ sym (forest_fit c.args.levels (inside view_jsx) c.args.elements.now)

pub «patterns::fits_patterns-returns-then-not-fits_pattern-clause-binds» : goal.«patterns::fits_patterns-returns-then-not-fits_pattern-clause-binds»
«patterns::fits_patterns-returns-then-not-fits_pattern-clause-binds» t c = failed (λ x. fits c.args.levels (view_pattern x.value Binds)) c.args.patterns.now c.loop-pattern.pattern-index c.pattern-item.result (omega arith) c.pattern-item.is (ap (λ s. fits c.args.levels (view_pattern s Binds)) (sym c.deref.ensures) ∙ (sym c.fits_pattern.ensures.binds ∙ c.if-not-fits_pattern.true)) c.loop-pattern.invariant.binds ∙ sym (roles_fit c.args.levels Binds c.args.patterns.now)

pub «patterns::fits_patterns-returns-clause-binds» : goal.«patterns::fits_patterns-returns-clause-binds»
«patterns::fits_patterns-returns-clause-binds» t c = ended (λ x. fits c.args.levels (view_pattern x.value Binds)) c.args.patterns.now c.loop-pattern.pattern-index (omega arith) c.loop-pattern.invariant.binds ∙ sym (roles_fit c.args.levels Binds c.args.patterns.now)

pub «patterns::fits_patterns-returns-then-not-fits_pattern-clause-assigns» : goal.«patterns::fits_patterns-returns-then-not-fits_pattern-clause-assigns»
«patterns::fits_patterns-returns-then-not-fits_pattern-clause-assigns» t c = failed (λ x. fits c.args.levels (view_pattern x.value Assigns)) c.args.patterns.now c.loop-pattern.pattern-index c.pattern-item.result (omega arith) c.pattern-item.is (ap (λ s. fits c.args.levels (view_pattern s Assigns)) (sym c.deref.ensures) ∙ (sym c.fits_pattern.ensures.assigns ∙ c.if-not-fits_pattern.true)) c.loop-pattern.invariant.assigns ∙ sym (roles_fit c.args.levels Assigns c.args.patterns.now)

pub «patterns::fits_patterns-returns-clause-assigns» : goal.«patterns::fits_patterns-returns-clause-assigns»
«patterns::fits_patterns-returns-clause-assigns» t c = ended (λ x. fits c.args.levels (view_pattern x.value Assigns)) c.args.patterns.now c.loop-pattern.pattern-index (omega arith) c.loop-pattern.invariant.assigns ∙ sym (roles_fit c.args.levels Assigns c.args.patterns.now)

pub «patterns::fits_patterns-loop-pattern-preserved» : goal.«patterns::fits_patterns-loop-pattern-preserved»
«patterns::fits_patterns-loop-pattern-preserved» t c = record {
  binds = past (λ x. fits c.args.levels (view_pattern x.value Binds)) c.args.patterns.now c.loop-pattern.pattern-index c.pattern-item.result (omega arith) c.pattern-item.is (ap (λ s. fits c.args.levels (view_pattern s Binds)) (sym c.deref.ensures) ∙ (sym c.fits_pattern.ensures.binds ∙ c.if-not-fits_pattern.false)) c.loop-pattern.invariant.binds;
  assigns = past (λ x. fits c.args.levels (view_pattern x.value Assigns)) c.args.patterns.now c.loop-pattern.pattern-index c.pattern-item.result (omega arith) c.pattern-item.is (ap (λ s. fits c.args.levels (view_pattern s Assigns)) (sym c.deref.ensures) ∙ (sym c.fits_pattern.ensures.assigns ∙ c.if-not-fits_pattern.false)) c.loop-pattern.invariant.assigns;
}

pub «objects::fits_members-returns-then-not-fits_member-clause-of_object» : goal.«objects::fits_members-returns-then-not-fits_member-clause-of_object»
«objects::fits_members-returns-then-not-fits_member-clause-of_object» t c = failed (λ x. fits c.args.levels (view_member x.value OfObject)) c.args.members.now c.loop-member.member-index c.member-item.result (omega arith) c.member-item.is (ap (λ s. fits c.args.levels (view_member s OfObject)) (sym c.deref.ensures) ∙ (sym c.fits_member.ensures.of_object ∙ c.if-not-fits_member.true)) c.loop-member.invariant.of_object ∙ sym (objects_fit c.args.levels c.args.members.now)

pub «objects::fits_members-returns-clause-of_object» : goal.«objects::fits_members-returns-clause-of_object»
«objects::fits_members-returns-clause-of_object» t c = ended (λ x. fits c.args.levels (view_member x.value OfObject)) c.args.members.now c.loop-member.member-index (omega arith) c.loop-member.invariant.of_object ∙ sym (objects_fit c.args.levels c.args.members.now)

pub «objects::fits_members-returns-then-not-fits_member-clause-of_class» : goal.«objects::fits_members-returns-then-not-fits_member-clause-of_class»
«objects::fits_members-returns-then-not-fits_member-clause-of_class» t c = failed (λ x. fits c.args.levels (view_member x.value OfClass)) c.args.members.now c.loop-member.member-index c.member-item.result (omega arith) c.member-item.is (ap (λ s. fits c.args.levels (view_member s OfClass)) (sym c.deref.ensures) ∙ (sym c.fits_member.ensures.of_class ∙ c.if-not-fits_member.true)) c.loop-member.invariant.of_class ∙ sym (classes_fit c.args.levels c.args.members.now)

pub «objects::fits_members-returns-clause-of_class» : goal.«objects::fits_members-returns-clause-of_class»
«objects::fits_members-returns-clause-of_class» t c = ended (λ x. fits c.args.levels (view_member x.value OfClass)) c.args.members.now c.loop-member.member-index (omega arith) c.loop-member.invariant.of_class ∙ sym (classes_fit c.args.levels c.args.members.now)

pub «objects::fits_members-loop-member-preserved» : goal.«objects::fits_members-loop-member-preserved»
«objects::fits_members-loop-member-preserved» t c = record {
  of_object = past (λ x. fits c.args.levels (view_member x.value OfObject)) c.args.members.now c.loop-member.member-index c.member-item.result (omega arith) c.member-item.is (ap (λ s. fits c.args.levels (view_member s OfObject)) (sym c.deref.ensures) ∙ (sym c.fits_member.ensures.of_object ∙ c.if-not-fits_member.false)) c.loop-member.invariant.of_object;
  of_class = past (λ x. fits c.args.levels (view_member x.value OfClass)) c.args.members.now c.loop-member.member-index c.member-item.result (omega arith) c.member-item.is (ap (λ s. fits c.args.levels (view_member s OfClass)) (sym c.deref.ensures) ∙ (sym c.fits_member.ensures.of_class ∙ c.if-not-fits_member.false)) c.loop-member.invariant.of_class;
}

pub «expressions::fits_front-returns-then-not-fits_expr» : goal.«expressions::fits_front-returns-then-not-fits_expr»
«expressions::fits_front-returns-then-not-fits_expr» t c =
    front_failed (λ x. fits c.args.levels (view_expr x.value)) c.args.exprs.now c.args.count c.loop-i.i c.index-exprs-i.result c.if-i-count.true (omega arith) c.index-exprs-i.is
    (ap (λ s. fits c.args.levels (view_expr s)) (sym c.deref.ensures) ∙ (sym c.fits_expr.ensures ∙ c.if-not-fits_expr.true)) c.loop-i.invariant
    ∙ front_fit c.args.levels (inside view_expr) c.args.count c.args.exprs.now

pub «expressions::fits_front-returns» : goal.«expressions::fits_front-returns»
«expressions::fits_front-returns» t c =
    front_ended (λ x. fits c.args.levels (view_expr x.value)) c.args.exprs.now c.args.count c.loop-i.i (omega arith) c.loop-i.invariant
    ∙ front_fit c.args.levels (inside view_expr) c.args.count c.args.exprs.now

pub «expressions::fits_front-loop-i-preserved» : goal.«expressions::fits_front-loop-i-preserved»
«expressions::fits_front-loop-i-preserved» t c =
    elim c.else-i-count.branch [
      | «expressions::fits_front-else-i-count-via-then-i-count+else-not-fits_expr» w ↦
          front_past (λ x. fits c.args.levels (view_expr x.value)) c.args.exprs.now c.args.count c.loop-i.i c.index-exprs-i.result w.if-i-count.true (omega arith) c.index-exprs-i.is
          (ap (λ s. fits c.args.levels (view_expr s)) (sym w.deref.ensures) ∙ (sym w.fits_expr.ensures ∙ w.if-not-fits_expr.false)) c.loop-i.invariant
      | «expressions::fits_front-else-i-count-via-else-i-count» w ↦
          front_over (λ x. fits c.args.levels (view_expr x.value)) c.args.exprs.now c.args.count c.loop-i.i (omega (arith, w.if-i-count.false)) c.loop-i.invariant
    ]

pub «expressions::fits_template-returns-then-has_level» : goal.«expressions::fits_template-returns-then-has_level»
«expressions::fits_template-returns-then-has_level» t c = λ b.
    c.fits_front.ensures
    ∙ template_fits b c.args.levels c.count_of.result c.args.pieces.now (map (inside view_expr) c.args.values.now) c.is_empty.result c.is_empty.ensures c.if-is_empty.false
    (c.count_of.ensures ∙ ap (used (length c.args.pieces.now - 1)) (sym (length-map c.args.values.now (inside view_expr)))) (sym c.has_level.ensures ∙ c.if-has_level.true)

pub «objects::parts_of_member-returns-then-fits_pattern-clause-of_object» : goal.«objects::parts_of_member-returns-then-fits_pattern-clause-of_object»
«objects::parts_of_member-returns-then-fits_pattern-clause-of_object» t c = elim c.if-fits_key-4.branch [
  | «objects::parts_of_member-then-fits_key-4» w ↦
      setter_fits c.args.levels c.in-Setter.field-0 c.in-Setter.field-1 c.in-Setter.key c.in-Setter.parameter c.in-Setter.directives c.in-Setter.body OfObject c.args.member.now _ _ _ c.fits_body-then-fits_pattern.result
      c.in-Setter.is (sym c.fits_key-in-Setter.ensures ∙ w.if-fits_key-4.true) w.deref-then-fits_key-4.ensures (sym w.fits_pattern.ensures.binds ∙ (sym w.value-is ∙ c.if-fits_pattern.true))
      c.deref-then-fits_pattern.ensures.value c.deref-then-fits_pattern-2.ensures.value c.fits_body-then-fits_pattern.ensures
  | «objects::parts_of_member-else-fits_key-4» w ↦ absurd (false≢true (sym w.if-fits_key-4.false ∙ (sym w.value-is ∙ c.if-fits_pattern.true)))
]

pub «objects::parts_of_member-returns-then-fits_pattern-clause-of_class» : goal.«objects::parts_of_member-returns-then-fits_pattern-clause-of_class»
«objects::parts_of_member-returns-then-fits_pattern-clause-of_class» t c = elim c.if-fits_key-4.branch [
  | «objects::parts_of_member-then-fits_key-4» w ↦
      setter_fits c.args.levels c.in-Setter.field-0 c.in-Setter.field-1 c.in-Setter.key c.in-Setter.parameter c.in-Setter.directives c.in-Setter.body OfClass c.args.member.now _ _ _ c.fits_body-then-fits_pattern.result
      c.in-Setter.is (sym c.fits_key-in-Setter.ensures ∙ w.if-fits_key-4.true) w.deref-then-fits_key-4.ensures (sym w.fits_pattern.ensures.binds ∙ (sym w.value-is ∙ c.if-fits_pattern.true))
      c.deref-then-fits_pattern.ensures.value c.deref-then-fits_pattern-2.ensures.value c.fits_body-then-fits_pattern.ensures
  | «objects::parts_of_member-else-fits_key-4» w ↦ absurd (false≢true (sym w.if-fits_key-4.false ∙ (sym w.value-is ∙ c.if-fits_pattern.true)))
]

pub «operators::parts_of_access-returns-then-fits_expr-4» : goal.«operators::parts_of_access-returns-then-fits_expr-4»
«operators::parts_of_access-returns-then-fits_expr-4» t c =
    let n = c.args.levels in
    let m = c.in-Tagged in
    let fit : true ≡ fits n (view_expr m.tag.value) = c.if-fits_expr-4.ensures ∙ ap (λ x. fits n (view_expr x)) c.deref-in-Tagged.ensures in
    let quoted : Tree = template true m.pieces.items (map (inside view_expr) m.values.items) in
    c.fits_quoted.ensures
    ∙ (ap (λ ps. fits n (template true ps (map (inside view_expr) c.deref-then-fits_expr-4-2.result.now))) c.deref-then-fits_expr-4.ensures.value
    ∙ (ap (λ xs. fits n (template true m.pieces.items (map (inside view_expr) xs))) c.deref-then-fits_expr-4-2.ensures.value
    ∙ (ap (λ b. b && fits n quoted) fit
    ∙ sym (ap (λ x. fits_inside n (view_access x)) m.is ∙ ap (fits_inside n) (view-Access-Tagged m.field-0 m.tag m.field-2 m.pieces m.values)))))
