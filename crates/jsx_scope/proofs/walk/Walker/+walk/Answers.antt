use Rattle.std.proofs.Common.{◌≡◌, true, false, ap, sym, ◌∙◌, map, rules}
use Rattle.jsx_tree.specs.Kinds.{Binds, Assigns}
use Rattle.jsx_tree.specs.Parentheses.{parens_of, first_no_directive}
use Rattle.jsx_tree.specs.View.{OfObject, OfClass, inside, forest, view_expr, view_operation, view_access, view_stmt, view_control, view_link, view_member, view_pattern}
use Rattle.jsx_scope.specs.declared.place.Place.TheVariants as place
use Rattle.jsx_scope.specs.Walk.{due, walk, walk_each, inner, with_part, with_code, but_code, with_half, but_half, with_test, with_second, finished, seen_at, member_at}
use Rattle.jsx_scope.proofs.Inner.{walk_due, walk_bare, code_inner, control_inner, pattern_inner}
use Rattle.jsx_scope.proofs.Layers.{expr_root, root_no_list, stmt_root, control_root, statement_walk, operation_done, access_done, member_done, member_walk}
use Rattle.jsx_scope.proofs.Lists.{seen_next}
use Rattle.jsx_scope.proofs.Outcomes.{as_made, then_ok, two_ok, three_ok, five_ok}
use Rattle.jsx_scope.proofs.Walks.{walk_forest}
use Rattle.jsx_tree.specs.declared.tree.Expr as the_expr
use Rattle.jsx_tree.specs.declared.tree.Expr.TheVariants as expr
use Rattle.jsx_tree.specs.declared.tree.Operation as the_operation
use Rattle.jsx_tree.specs.declared.tree.Operation.TheVariants as operation
use Rattle.jsx_tree.specs.declared.tree.Access as the_access
use Rattle.jsx_tree.specs.declared.tree.Access.TheVariants as access
use Rattle.jsx_tree.specs.declared.tree.Link as the_link
use Rattle.jsx_tree.specs.declared.tree.Link.TheVariants as link
use Rattle.jsx_tree.specs.declared.tree.Prop as the_member
use Rattle.jsx_tree.specs.declared.tree.Prop.TheVariants as prop
use Rattle.jsx_tree.specs.declared.tree.Pat as the_pattern
use Rattle.jsx_tree.specs.declared.tree.Pat.TheVariants as pat
use Rattle.jsx_tree.specs.declared.tree.Stmt as the_stmt
use Rattle.jsx_tree.specs.declared.tree.Stmt.TheVariants as stmt
use Rattle.jsx_tree.specs.declared.tree.Control as the_control
use Rattle.jsx_tree.specs.declared.tree.Control.TheVariants as control
use Rattle.jsx_tree.specs.declared.tree.Pat.{Pat}
use Rattle.jsx_tree.specs.declared.tree.Prop.{Prop}
use Rattle.jsx_scope.proofs.Arms.{access_call, access_chain, access_new, arrow_block_first, arrow_block_second, arrow_first, bare_arrow_block_second, catch_first, class_decl_third, class_third, control_case, control_switch, function_decl_second, function_decl_third, function_second, function_third, getter_second, half_stays, link_call, method_second, method_third, pattern_declaration, setter_third, some_control, stmt_var, tagged_second, target_first, template_first}
use Rattle.jsx_scope.proofs.walk.Walker.+walk.Goals as goal

pub access-returns : goal.access-returns
access-returns t c = two_ok c.second_of_access.result (with_part 0 c.args.bare) (with_part 1 c.args.bare) (view_access c.args.access.now) (view_access c.first_of_access.new.access) (view_access c.second_of_access.new.access) (inner c.args.bare (view_access c.args.access.now))
    (access_done c.args.bare (view_access c.args.access.now) c.second_of_access.new.access) c.in_ok-first_of_access.ensures c.second_of_access.ensures

pub operation-returns : goal.operation-returns
operation-returns t c = three_ok c.third_of_operation.result (with_part 0 c.args.bare) (with_part 1 c.args.bare) (with_part 2 c.args.bare) (view_operation c.args.operation.now) (view_operation c.first_of_operation.new.operation) (view_operation c.second_of_operation.new.operation) (view_operation c.third_of_operation.new.operation) (inner c.args.bare (view_operation c.args.operation.now))
    (operation_done c.args.bare (view_operation c.args.operation.now) c.third_of_operation.new.operation) c.in_ok-first_of_operation.ensures c.in_ok-second_of_operation.ensures c.third_of_operation.ensures

pub parts-returns : goal.parts-returns
parts-returns t c = three_ok c.third_of_expr.result (but_code c.args.bare) (with_code 1 c.args.bare) (with_code 2 false) (view_expr c.args.expr.now) (view_expr c.first_of_expr.new.expr) (view_expr c.second_of_expr.new.expr) (view_expr c.third_of_expr.new.expr) (inner c.args.bare (view_expr c.args.expr.now))
    (λ e. e ∙ code_inner c.args.bare (view_expr c.args.expr.now)) c.in_ok-first_of_expr.ensures c.in_ok-second_of_expr.ensures c.third_of_expr.ensures

pub parts_of_stmt-returns : goal.parts_of_stmt-returns
parts_of_stmt-returns t c = three_ok c.third_of_stmt.result (but_code c.args.bare) (with_code 1 c.args.bare) (with_code 2 false) (view_stmt c.args.stmt.now) (view_stmt c.first_of_stmt.new.stmt) (view_stmt c.second_of_stmt.new.stmt) (view_stmt c.third_of_stmt.new.stmt) (inner c.args.bare (view_stmt c.args.stmt.now))
    (λ e. e ∙ code_inner c.args.bare (view_stmt c.args.stmt.now)) c.in_ok-first_of_stmt.ensures c.in_ok-second_of_stmt.ensures c.third_of_stmt.ensures

pub parts_of_pattern-returns-clause-binds : goal.parts_of_pattern-returns-clause-binds
parts_of_pattern-returns-clause-binds t c = two_ok c.second_of_pattern.result (but_half c.args.bare) (with_half c.args.bare) (view_pattern c.args.pattern.now Binds) (view_pattern c.first_of_pattern.new.pattern Binds) (view_pattern c.second_of_pattern.new.pattern Binds) (walk (place.Level 0) c.args.bare (view_pattern c.args.pattern.now Binds))
    (λ e. e ∙ pattern_inner c.args.bare (view_pattern c.args.pattern.now Binds)) c.in_ok-first_of_pattern.ensures.binds c.second_of_pattern.ensures.binds

pub pattern-returns-clause-binds : goal.pattern-returns-clause-binds
pattern-returns-clause-binds t c = then_ok c.parts_of_pattern.result (view_pattern c.parts_of_pattern.new.pattern Binds) (walk (place.Level 0) c.args.bare (view_pattern c.deref_mut.result.now Binds)) (walk (place.Level 0) c.args.bare (view_pattern c.args.pattern.now.value Binds))
    (λ e. e ∙ ap (λ x. walk (place.Level 0) c.args.bare (view_pattern x Binds)) c.deref_mut.ensures.value) c.parts_of_pattern.ensures.binds

pub parts_of_pattern-returns-clause-assigns : goal.parts_of_pattern-returns-clause-assigns
parts_of_pattern-returns-clause-assigns t c = two_ok c.second_of_pattern.result (but_half c.args.bare) (with_half c.args.bare) (view_pattern c.args.pattern.now Assigns) (view_pattern c.first_of_pattern.new.pattern Assigns) (view_pattern c.second_of_pattern.new.pattern Assigns) (walk (place.Level 0) c.args.bare (view_pattern c.args.pattern.now Assigns))
    (λ e. e ∙ pattern_inner c.args.bare (view_pattern c.args.pattern.now Assigns)) c.in_ok-first_of_pattern.ensures.assigns c.second_of_pattern.ensures.assigns

pub pattern-returns-clause-assigns : goal.pattern-returns-clause-assigns
pattern-returns-clause-assigns t c = then_ok c.parts_of_pattern.result (view_pattern c.parts_of_pattern.new.pattern Assigns) (walk (place.Level 0) c.args.bare (view_pattern c.deref_mut.result.now Assigns)) (walk (place.Level 0) c.args.bare (view_pattern c.args.pattern.now.value Assigns))
    (λ e. e ∙ ap (λ x. walk (place.Level 0) c.args.bare (view_pattern x Assigns)) c.deref_mut.ensures.value) c.parts_of_pattern.ensures.assigns

pub member-returns-clause-of_object : goal.member-returns-clause-of_object
member-returns-clause-of_object t c = three_ok c.third_of_member.result (with_part 0 false) (with_part 1 false) (with_part 2 false) (view_member c.args.member.now OfObject) (view_member c.first_of_member.new.member OfObject) (view_member c.second_of_member.new.member OfObject) (view_member c.third_of_member.new.member OfObject) (inner false (view_member c.args.member.now OfObject))
    (member_done false (view_member c.args.member.now OfObject) c.third_of_member.new.member OfObject) c.in_ok-first_of_member.ensures.of_object c.in_ok-second_of_member.ensures.of_object c.third_of_member.ensures.of_object

pub member-returns-clause-of_class : goal.member-returns-clause-of_class
member-returns-clause-of_class t c = three_ok c.third_of_member.result (with_part 0 false) (with_part 1 false) (with_part 2 false) (view_member c.args.member.now OfClass) (view_member c.first_of_member.new.member OfClass) (view_member c.second_of_member.new.member OfClass) (view_member c.third_of_member.new.member OfClass) (inner false (view_member c.args.member.now OfClass))
    (member_done false (view_member c.args.member.now OfClass) c.third_of_member.new.member OfClass) c.in_ok-first_of_member.ensures.of_class c.in_ok-second_of_member.ensures.of_class c.third_of_member.ensures.of_class

pub stmt-returns : goal.stmt-returns
stmt-returns t c = then_ok c.parts_of_stmt.result (view_stmt c.parts_of_stmt.new.stmt) (inner c.args.bare (view_stmt c.deref_mut.result.now)) (walk (place.Level 0) c.args.bare (view_stmt c.args.stmt.now.value))
    (λ e. e ∙ (ap (λ x. inner c.args.bare (view_stmt x)) c.deref_mut.ensures.value ∙ statement_walk c.args.bare (view_stmt c.args.stmt.now.value) (stmt_root c.args.stmt.now.value))) c.parts_of_stmt.ensures

pub control-returns : goal.control-returns
control-returns t c = five_ok c.hold.result (with_test c.args.bare) (with_second c.args.bare) (with_part 2 c.args.bare) (with_part 3 c.args.bare) finished (view_control c.args.control.now) (view_control c.first_of_control.new.control) (view_control c.second_of_control.new.control) (view_control c.third_of_control.new.control) (view_control c.fourth_of_control.new.control) (view_control c.hold.new.control) (inner c.args.bare (view_control c.args.control.now))
    (λ e. e ∙ control_inner c.args.bare (view_control c.args.control.now)) c.in_ok-first_of_control.ensures c.in_ok-second_of_control.ensures c.in_ok-third_of_control.ensures c.in_ok-fourth_of_control.ensures c.hold.ensures

pub expr-returns-in_ok-parts : goal.expr-returns-in_ok-parts
expr-returns-in_ok-parts t c =
    let d : due c.args.place c.args.bare (view_expr c.args.expr.now.value) ≡ true = ap (λ x. due c.args.place c.args.bare (view_expr x)) (sym c.deref.ensures) ∙ (sym c.is_due.ensures ∙ c.if-is_due.true) in
    two_ok c.pair.result (inner false) parens_of (view_expr c.args.expr.now.value) (view_expr c.parts.new.expr) (view_expr c.pair.new.expr.value) (walk c.args.place c.args.bare (view_expr c.args.expr.now.value))
    (λ e. e ∙ walk_due c.args.place c.args.bare (view_expr c.args.expr.now.value) (root_no_list (view_expr c.args.expr.now.value) (expr_root c.args.expr.now.value)) d) (c.in_ok-parts.ensures ∙ ap (λ x. inner false (view_expr x)) c.deref_mut.ensures.value) c.pair.ensures

pub expr-returns-else-is_due : goal.expr-returns-else-is_due
expr-returns-else-is_due t c =
    let d : due c.args.place c.args.bare (view_expr c.args.expr.now.value) ≡ false = ap (λ x. due c.args.place c.args.bare (view_expr x)) (sym c.deref.ensures) ∙ (sym c.is_due.ensures ∙ c.if-is_due.false) in
    then_ok c.parts-else-is_due.result (view_expr c.parts-else-is_due.new.expr) (inner c.args.bare (view_expr c.deref_mut-else-is_due.result.now)) (walk c.args.place c.args.bare (view_expr c.args.expr.now.value))
    (λ e. e ∙ (ap (λ x. inner c.args.bare (view_expr x)) c.deref_mut-else-is_due.ensures.value ∙ walk_bare c.args.place c.args.bare (view_expr c.args.expr.now.value) (root_no_list (view_expr c.args.expr.now.value) (expr_root c.args.expr.now.value)) d)) c.parts-else-is_due.ensures

pub body-returns : goal.body-returns
body-returns t c = then_ok c.keep_from_directives.result (forest (map (inside view_stmt) c.keep_from_directives.new.stmts.items)) (first_no_directive (forest (map (inside view_stmt) c.stmts.new.stmts.items))) (first_no_directive (walk_each (place.Level 0) false (forest (map (inside view_stmt) c.args.stmts.now.items))))
    (λ e. e ∙ ap first_no_directive (ap forest c.in_ok-stmts.ensures ∙ sym (walk_forest (place.Level 0) false (map (inside view_stmt) c.args.stmts.now.items)))) c.keep_from_directives.ensures

pub exprs-loop-expr-preserved : goal.exprs-loop-expr-preserved
exprs-loop-expr-preserved t c = seen_next (inside view_expr) (walk c.args.place c.args.bare) _ c.loop-expr.expr-items c.loop-expr.expr-index c.expr-item.result _ c.loop-expr-test.true c.loop-expr.auto.expr-items c.loop-expr.invariant (c.in_ok-expr.ensures)

pub stmts-loop-stmt-preserved : goal.stmts-loop-stmt-preserved
stmts-loop-stmt-preserved t c = seen_next (inside view_stmt) (walk (place.Level 0) c.args.bare) _ c.loop-stmt.stmt-items c.loop-stmt.stmt-index c.stmt-item.result _ c.loop-stmt-test.true c.loop-stmt.auto.stmt-items c.loop-stmt.invariant (c.in_ok-stmt.ensures)

pub links-loop-link-preserved : goal.links-loop-link-preserved
links-loop-link-preserved t c = seen_next (inside view_link) (walk (place.Level 0) c.args.bare) _ c.loop-link.link-items c.loop-link.link-index c.link-item.result _ c.loop-link-test.true c.loop-link.auto.link-items c.loop-link.invariant (c.in_ok-link.ensures ∙ ap (λ x. walk (place.Level 0) c.args.bare (view_link x)) c.deref_mut.ensures.value)

pub controls-loop-control-preserved : goal.controls-loop-control-preserved
controls-loop-control-preserved t c = seen_next (inside view_control) (walk (place.Level 0) false) _ c.loop-control.control-items c.loop-control.control-index c.control-item.result _ c.loop-control-test.true c.loop-control.auto.control-items c.loop-control.invariant (c.in_ok-control.ensures ∙ (ap (λ x. inner false (view_control x)) c.deref_mut.ensures.value ∙ statement_walk false _ (control_root _)))

pub members-loop-member-preserved : goal.members-loop-member-preserved
members-loop-member-preserved t c = record {
  of_object = seen_next (member_at OfObject) (walk (place.Level 0) false) _ c.loop-member.member-items c.loop-member.member-index c.member-item.result _ c.loop-member-test.true c.loop-member.auto.member-items c.loop-member.invariant.of_object (c.in_ok-member.ensures.of_object ∙ (ap (λ x. inner false (view_member x OfObject)) c.deref_mut.ensures.value ∙ member_walk _ OfObject));
  of_class = seen_next (member_at OfClass) (walk (place.Level 0) false) _ c.loop-member.member-items c.loop-member.member-index c.member-item.result _ c.loop-member-test.true c.loop-member.auto.member-items c.loop-member.invariant.of_class (c.in_ok-member.ensures.of_class ∙ (ap (λ x. inner false (view_member x OfClass)) c.deref_mut.ensures.value ∙ member_walk _ OfClass));
}

pub patterns-loop-pattern-preserved : goal.patterns-loop-pattern-preserved
patterns-loop-pattern-preserved t c = record {
  binds = seen_next (seen_at Binds) (walk (place.Level 0) c.args.bare) _ c.loop-pattern.pattern-items c.loop-pattern.pattern-index c.pattern-item.result _ c.loop-pattern-test.true c.loop-pattern.auto.pattern-items c.loop-pattern.invariant.binds (c.in_ok-pattern.ensures.binds);
  assigns = seen_next (seen_at Assigns) (walk (place.Level 0) c.args.bare) _ c.loop-pattern.pattern-items c.loop-pattern.pattern-index c.pattern-item.result _ c.loop-pattern-test.true c.loop-pattern.auto.pattern-items c.loop-pattern.invariant.assigns (c.in_ok-pattern.ensures.assigns);
}

pub first_of_control-returns-in-Catch : goal.first_of_control-returns-in-Catch
first_of_control-returns-in-Catch t c = as_made c.optional_pattern-in-Catch.result view_control (control.Catch c.in-Catch.field-0 c.optional_pattern-in-Catch.new.pattern c.in-Catch.field-2) (with_test c.args.bare (view_control c.args.control.now))
    (catch_first c.optional_pattern-in-Catch.result c.args.bare c.in-Catch.field-0 c.in-Catch.field-2 c.in-Catch.pattern c.optional_pattern-in-Catch.new.pattern _ c.args.control.now c.in-Catch.is c.in-Catch.pattern-is c.optional_pattern-in-Catch.ensures.binds) _ (search (rules, the_control.the_lemmas))

pub first_of_expr-returns-in-Template : goal.first_of_expr-returns-in-Template
first_of_expr-returns-in-Template t c = as_made c.exprs-in-Template.result view_expr (expr.Template c.in-Template.field-0 c.in-Template.field-1 c.exprs-in-Template.new.exprs) (but_code c.args.bare (view_expr c.args.expr.now))
    (template_first c.exprs-in-Template.result c.args.bare c.in-Template.field-0 c.in-Template.field-1 c.in-Template.parts c.exprs-in-Template.new.exprs _ c.args.expr.now c.in-Template.is c.in-Template.parts-is c.exprs-in-Template.ensures) _ (search (rules, the_expr.the_lemmas))

pub first_of_operation-returns-in-Arrow : goal.first_of_operation-returns-in-Arrow
first_of_operation-returns-in-Arrow t c = as_made c.patterns.result view_operation (operation.Arrow c.in-Arrow.field-0 c.patterns.new.patterns c.in-Arrow.field-2) (with_part 0 c.args.bare (view_operation c.args.operation.now))
    (arrow_first c.patterns.result c.args.bare c.in-Arrow.field-0 c.in-Arrow.field-2 c.in-Arrow.parameters c.patterns.new.patterns _ c.args.operation.now c.in-Arrow.is c.in-Arrow.parameters-is c.patterns.ensures.binds) _ (search (rules, the_operation.the_lemmas))

pub first_of_operation-returns-in-ArrowBlock : goal.first_of_operation-returns-in-ArrowBlock
first_of_operation-returns-in-ArrowBlock t c = as_made c.patterns-in-ArrowBlock.result view_operation (operation.ArrowBlock c.in-ArrowBlock.field-0 c.patterns-in-ArrowBlock.new.patterns c.in-ArrowBlock.field-2 c.in-ArrowBlock.field-3) (with_part 0 c.args.bare (view_operation c.args.operation.now))
    (arrow_block_first c.patterns-in-ArrowBlock.result c.args.bare c.in-ArrowBlock.field-0 c.in-ArrowBlock.field-2 c.in-ArrowBlock.field-3 c.in-ArrowBlock.parameters c.patterns-in-ArrowBlock.new.patterns _ c.args.operation.now c.in-ArrowBlock.is c.in-ArrowBlock.parameters-is c.patterns-in-ArrowBlock.ensures.binds) _ (search (rules, the_operation.the_lemmas))

pub first_of_pattern-returns-in-Declaration-clause-binds : goal.first_of_pattern-returns-in-Declaration-clause-binds
first_of_pattern-returns-in-Declaration-clause-binds t c = as_made c.patterns-in-Declaration.result (λ (q : Pat). view_pattern q Binds) (pat.Declaration c.in-Declaration.field-0 c.in-Declaration.field-1 c.patterns-in-Declaration.new.patterns) (but_half c.args.bare (view_pattern c.args.pattern.now Binds))
    (pattern_declaration c.patterns-in-Declaration.result c.args.bare Binds c.in-Declaration.field-0 c.in-Declaration.field-1 c.in-Declaration.declarators c.patterns-in-Declaration.new.patterns _ c.args.pattern.now c.in-Declaration.is c.in-Declaration.declarators-is c.patterns-in-Declaration.ensures.binds) _ (search (rules, the_pattern.the_lemmas))

pub first_of_pattern-returns-in-Target-clause-binds : goal.first_of_pattern-returns-in-Target-clause-binds
first_of_pattern-returns-in-Target-clause-binds t c = as_made c.expr.result (λ (q : Pat). view_pattern q Binds) (pat.Target c.expr.new.expr) (but_half c.args.bare (view_pattern c.args.pattern.now Binds))
    (target_first c.expr.result c.args.bare Binds c.in-Target.expr c.expr.new.expr _ c.args.pattern.now c.in-Target.is c.in-Target.expr-is c.expr.ensures) _ (search (rules, the_pattern.the_lemmas))

pub first_of_pattern-returns-in-Declaration-clause-assigns : goal.first_of_pattern-returns-in-Declaration-clause-assigns
first_of_pattern-returns-in-Declaration-clause-assigns t c = as_made c.patterns-in-Declaration.result (λ (q : Pat). view_pattern q Assigns) (pat.Declaration c.in-Declaration.field-0 c.in-Declaration.field-1 c.patterns-in-Declaration.new.patterns) (but_half c.args.bare (view_pattern c.args.pattern.now Assigns))
    (pattern_declaration c.patterns-in-Declaration.result c.args.bare Assigns c.in-Declaration.field-0 c.in-Declaration.field-1 c.in-Declaration.declarators c.patterns-in-Declaration.new.patterns _ c.args.pattern.now c.in-Declaration.is c.in-Declaration.declarators-is c.patterns-in-Declaration.ensures.binds) _ (search (rules, the_pattern.the_lemmas))

pub first_of_pattern-returns-in-Target-clause-assigns : goal.first_of_pattern-returns-in-Target-clause-assigns
first_of_pattern-returns-in-Target-clause-assigns t c = as_made c.expr.result (λ (q : Pat). view_pattern q Assigns) (pat.Target c.expr.new.expr) (but_half c.args.bare (view_pattern c.args.pattern.now Assigns))
    (target_first c.expr.result c.args.bare Assigns c.in-Target.expr c.expr.new.expr _ c.args.pattern.now c.in-Target.is c.in-Target.expr-is c.expr.ensures) _ (search (rules, the_pattern.the_lemmas))

pub first_of_stmt-returns-in-Var : goal.first_of_stmt-returns-in-Var
first_of_stmt-returns-in-Var t c = as_made c.patterns.result view_stmt (stmt.Var c.in-Var.field-0 c.in-Var.field-1 c.patterns.new.patterns) (but_code c.args.bare (view_stmt c.args.stmt.now))
    (stmt_var c.patterns.result c.args.bare c.in-Var.field-0 c.in-Var.field-1 c.in-Var.declarators c.patterns.new.patterns _ c.args.stmt.now c.in-Var.is c.in-Var.declarators-is c.patterns.ensures.binds) _ (search (rules, the_stmt.the_lemmas))

pub link-returns-in-Call : goal.link-returns-in-Call
link-returns-in-Call t c = as_made c.exprs.result view_link (link.Call c.in-Call.field-0 c.in-Call.field-1 c.exprs.new.exprs) (walk (place.Level 0) c.args.bare (view_link c.args.link.now))
    (link_call c.exprs.result c.args.bare c.in-Call.field-0 c.in-Call.field-1 c.in-Call.arguments c.exprs.new.exprs _ c.args.link.now c.in-Call.is c.in-Call.arguments-is c.exprs.ensures) _ (search (rules, the_link.the_lemmas))

pub second_of_access-returns-in-Call : goal.second_of_access-returns-in-Call
second_of_access-returns-in-Call t c = as_made c.exprs.result view_access (access.Call c.in-Call.field-0 c.in-Call.field-1 c.exprs.new.exprs) (with_part 1 c.args.bare (view_access c.args.access.now))
    (access_call c.exprs.result c.args.bare c.in-Call.field-0 c.in-Call.field-1 c.in-Call.arguments c.exprs.new.exprs _ c.args.access.now c.in-Call.is c.in-Call.arguments-is c.exprs.ensures) _ (search (rules, the_access.the_lemmas))

pub second_of_access-returns-in-Chain : goal.second_of_access-returns-in-Chain
second_of_access-returns-in-Chain t c = as_made c.links.result view_access (access.Chain c.in-Chain.field-0 c.in-Chain.field-1 c.links.new.links) (with_part 1 c.args.bare (view_access c.args.access.now))
    (access_chain c.links.result c.args.bare c.in-Chain.field-0 c.in-Chain.field-1 c.in-Chain.links c.links.new.links _ c.args.access.now c.in-Chain.is c.in-Chain.links-is c.links.ensures) _ (search (rules, the_access.the_lemmas))

pub second_of_access-returns-in-New : goal.second_of_access-returns-in-New
second_of_access-returns-in-New t c = as_made c.exprs-in-New.result view_access (access.New c.in-New.field-0 c.in-New.field-1 c.exprs-in-New.new.exprs) (with_part 1 c.args.bare (view_access c.args.access.now))
    (access_new c.exprs-in-New.result c.args.bare c.in-New.field-0 c.in-New.field-1 c.in-New.arguments c.exprs-in-New.new.exprs _ c.args.access.now c.in-New.is c.in-New.arguments-is c.exprs-in-New.ensures) _ (search (rules, the_access.the_lemmas))

pub second_of_access-returns-in-Tagged : goal.second_of_access-returns-in-Tagged
second_of_access-returns-in-Tagged t c = as_made c.exprs-in-Tagged.result view_access (access.Tagged c.in-Tagged.field-0 c.in-Tagged.field-1 c.in-Tagged.field-2 c.in-Tagged.field-3 c.exprs-in-Tagged.new.exprs) (with_part 1 c.args.bare (view_access c.args.access.now))
    (tagged_second c.exprs-in-Tagged.result c.args.bare c.in-Tagged.field-0 c.in-Tagged.field-1 c.in-Tagged.field-2 c.in-Tagged.field-3 c.in-Tagged.parts c.exprs-in-Tagged.new.exprs _ c.args.access.now c.in-Tagged.is c.in-Tagged.parts-is c.exprs-in-Tagged.ensures) _ (search (rules, the_access.the_lemmas))

pub second_of_control-returns-in-Case : goal.second_of_control-returns-in-Case
second_of_control-returns-in-Case t c = as_made c.stmts.result view_control (control.Case c.in-Case.field-0 c.in-Case.field-1 c.stmts.new.stmts) (with_second c.args.bare (view_control c.args.control.now))
    (control_case c.stmts.result c.args.bare c.in-Case.field-0 c.in-Case.field-1 c.in-Case.body c.stmts.new.stmts _ c.args.control.now c.in-Case.is c.in-Case.body-is c.stmts.ensures) _ (search (rules, the_control.the_lemmas))

pub second_of_control-returns-in-Switch : goal.second_of_control-returns-in-Switch
second_of_control-returns-in-Switch t c = as_made c.controls.result view_control (control.Switch c.in-Switch.field-0 c.in-Switch.field-1 c.controls.new.controls) (with_second c.args.bare (view_control c.args.control.now))
    (control_switch c.controls.result c.args.bare c.in-Switch.field-0 c.in-Switch.field-1 c.in-Switch.clauses c.controls.new.controls _ c.args.control.now c.in-Switch.is c.in-Switch.clauses-is c.controls.ensures) _ (search (rules, the_control.the_lemmas))

pub second_of_expr-returns-in-Function : goal.second_of_expr-returns-in-Function
second_of_expr-returns-in-Function t c = as_made c.patterns.result view_expr (expr.Function c.in-Function.field-0 c.in-Function.field-1 c.patterns.new.patterns c.in-Function.field-3 c.in-Function.field-4) (with_code 1 c.args.bare (view_expr c.args.expr.now))
    (function_second c.patterns.result c.args.bare c.in-Function.field-0 c.in-Function.field-1 c.in-Function.field-3 c.in-Function.field-4 c.in-Function.parameters c.patterns.new.patterns _ c.args.expr.now c.in-Function.is c.in-Function.parameters-is c.patterns.ensures.binds) _ (search (rules, the_expr.the_lemmas))

pub second_of_stmt-returns-in-Function : goal.second_of_stmt-returns-in-Function
second_of_stmt-returns-in-Function t c = as_made c.patterns.result view_stmt (stmt.Function c.in-Function.field-0 c.in-Function.field-1 c.patterns.new.patterns c.in-Function.field-3 c.in-Function.field-4) (with_code 1 c.args.bare (view_stmt c.args.stmt.now))
    (function_decl_second c.patterns.result c.args.bare c.in-Function.field-0 c.in-Function.field-1 c.in-Function.field-3 c.in-Function.field-4 c.in-Function.parameters c.patterns.new.patterns _ c.args.stmt.now c.in-Function.is c.in-Function.parameters-is c.patterns.ensures.binds) _ (search (rules, the_stmt.the_lemmas))

pub second_of_member-returns-in-Getter-clause-of_object : goal.second_of_member-returns-in-Getter-clause-of_object
second_of_member-returns-in-Getter-clause-of_object t c = as_made c.body.result (λ (q : Prop). view_member q OfObject) (prop.Getter c.in-Getter.field-0 c.in-Getter.field-1 c.in-Getter.field-2 c.in-Getter.field-3 c.body.new.stmts) (with_part 1 false (view_member c.args.member.now OfObject))
    (getter_second c.body.result false OfObject c.in-Getter.field-0 c.in-Getter.field-1 c.in-Getter.field-2 c.in-Getter.field-3 c.in-Getter.body c.body.new.stmts _ c.args.member.now c.in-Getter.is c.in-Getter.body-is c.body.ensures) _ (search (rules, the_member.the_lemmas))

pub second_of_member-returns-in-Method-clause-of_object : goal.second_of_member-returns-in-Method-clause-of_object
second_of_member-returns-in-Method-clause-of_object t c = as_made c.patterns.result (λ (q : Prop). view_member q OfObject) (prop.Method c.in-Method.field-0 c.in-Method.field-1 c.in-Method.field-2 c.patterns.new.patterns c.in-Method.field-4 c.in-Method.field-5) (with_part 1 false (view_member c.args.member.now OfObject))
    (method_second c.patterns.result false OfObject c.in-Method.field-0 c.in-Method.field-1 c.in-Method.field-2 c.in-Method.field-4 c.in-Method.field-5 c.in-Method.parameters c.patterns.new.patterns _ c.args.member.now c.in-Method.is c.in-Method.parameters-is c.patterns.ensures.binds) _ (search (rules, the_member.the_lemmas))

pub third_of_member-returns-in-Method-clause-of_object : goal.third_of_member-returns-in-Method-clause-of_object
third_of_member-returns-in-Method-clause-of_object t c = as_made c.body.result (λ (q : Prop). view_member q OfObject) (prop.Method c.in-Method.field-0 c.in-Method.field-1 c.in-Method.field-2 c.in-Method.field-3 c.in-Method.field-4 c.body.new.stmts) (with_part 2 false (view_member c.args.member.now OfObject))
    (method_third c.body.result false OfObject c.in-Method.field-0 c.in-Method.field-1 c.in-Method.field-2 c.in-Method.field-3 c.in-Method.field-4 c.in-Method.body c.body.new.stmts _ c.args.member.now c.in-Method.is c.in-Method.body-is c.body.ensures) _ (search (rules, the_member.the_lemmas))

pub third_of_member-returns-in-Setter-clause-of_object : goal.third_of_member-returns-in-Setter-clause-of_object
third_of_member-returns-in-Setter-clause-of_object t c = as_made c.body-in-Setter.result (λ (q : Prop). view_member q OfObject) (prop.Setter c.in-Setter.field-0 c.in-Setter.field-1 c.in-Setter.field-2 c.in-Setter.field-3 c.in-Setter.field-4 c.body-in-Setter.new.stmts) (with_part 2 false (view_member c.args.member.now OfObject))
    (setter_third c.body-in-Setter.result false OfObject c.in-Setter.field-0 c.in-Setter.field-1 c.in-Setter.field-2 c.in-Setter.field-3 c.in-Setter.field-4 c.in-Setter.body c.body-in-Setter.new.stmts _ c.args.member.now c.in-Setter.is c.in-Setter.body-is c.body-in-Setter.ensures) _ (search (rules, the_member.the_lemmas))

pub second_of_member-returns-in-Getter-clause-of_class : goal.second_of_member-returns-in-Getter-clause-of_class
second_of_member-returns-in-Getter-clause-of_class t c = as_made c.body.result (λ (q : Prop). view_member q OfClass) (prop.Getter c.in-Getter.field-0 c.in-Getter.field-1 c.in-Getter.field-2 c.in-Getter.field-3 c.body.new.stmts) (with_part 1 false (view_member c.args.member.now OfClass))
    (getter_second c.body.result false OfClass c.in-Getter.field-0 c.in-Getter.field-1 c.in-Getter.field-2 c.in-Getter.field-3 c.in-Getter.body c.body.new.stmts _ c.args.member.now c.in-Getter.is c.in-Getter.body-is c.body.ensures) _ (search (rules, the_member.the_lemmas))

pub second_of_member-returns-in-Method-clause-of_class : goal.second_of_member-returns-in-Method-clause-of_class
second_of_member-returns-in-Method-clause-of_class t c = as_made c.patterns.result (λ (q : Prop). view_member q OfClass) (prop.Method c.in-Method.field-0 c.in-Method.field-1 c.in-Method.field-2 c.patterns.new.patterns c.in-Method.field-4 c.in-Method.field-5) (with_part 1 false (view_member c.args.member.now OfClass))
    (method_second c.patterns.result false OfClass c.in-Method.field-0 c.in-Method.field-1 c.in-Method.field-2 c.in-Method.field-4 c.in-Method.field-5 c.in-Method.parameters c.patterns.new.patterns _ c.args.member.now c.in-Method.is c.in-Method.parameters-is c.patterns.ensures.binds) _ (search (rules, the_member.the_lemmas))

pub third_of_member-returns-in-Method-clause-of_class : goal.third_of_member-returns-in-Method-clause-of_class
third_of_member-returns-in-Method-clause-of_class t c = as_made c.body.result (λ (q : Prop). view_member q OfClass) (prop.Method c.in-Method.field-0 c.in-Method.field-1 c.in-Method.field-2 c.in-Method.field-3 c.in-Method.field-4 c.body.new.stmts) (with_part 2 false (view_member c.args.member.now OfClass))
    (method_third c.body.result false OfClass c.in-Method.field-0 c.in-Method.field-1 c.in-Method.field-2 c.in-Method.field-3 c.in-Method.field-4 c.in-Method.body c.body.new.stmts _ c.args.member.now c.in-Method.is c.in-Method.body-is c.body.ensures) _ (search (rules, the_member.the_lemmas))

pub third_of_member-returns-in-Setter-clause-of_class : goal.third_of_member-returns-in-Setter-clause-of_class
third_of_member-returns-in-Setter-clause-of_class t c = as_made c.body-in-Setter.result (λ (q : Prop). view_member q OfClass) (prop.Setter c.in-Setter.field-0 c.in-Setter.field-1 c.in-Setter.field-2 c.in-Setter.field-3 c.in-Setter.field-4 c.body-in-Setter.new.stmts) (with_part 2 false (view_member c.args.member.now OfClass))
    (setter_third c.body-in-Setter.result false OfClass c.in-Setter.field-0 c.in-Setter.field-1 c.in-Setter.field-2 c.in-Setter.field-3 c.in-Setter.field-4 c.in-Setter.body c.body-in-Setter.new.stmts _ c.args.member.now c.in-Setter.is c.in-Setter.body-is c.body-in-Setter.ensures) _ (search (rules, the_member.the_lemmas))

pub second_of_operation-returns-in-ArrowBlock : goal.second_of_operation-returns-in-ArrowBlock
second_of_operation-returns-in-ArrowBlock t c = as_made c.body.result view_operation (operation.ArrowBlock c.in-ArrowBlock.field-0 c.in-ArrowBlock.field-1 c.in-ArrowBlock.field-2 c.body.new.stmts) (with_part 1 c.args.bare (view_operation c.args.operation.now))
    (arrow_block_second c.body.result c.args.bare c.in-ArrowBlock.field-0 c.in-ArrowBlock.field-1 c.in-ArrowBlock.field-2 c.in-ArrowBlock.body c.body.new.stmts _ c.args.operation.now c.in-ArrowBlock.is c.in-ArrowBlock.body-is c.body.ensures) _ (search (rules, the_operation.the_lemmas))

pub second_of_operation-returns-in-BareArrowBlock : goal.second_of_operation-returns-in-BareArrowBlock
second_of_operation-returns-in-BareArrowBlock t c = as_made c.body-in-BareArrowBlock.result view_operation (operation.BareArrowBlock c.in-BareArrowBlock.field-0 c.in-BareArrowBlock.field-1 c.in-BareArrowBlock.field-2 c.body-in-BareArrowBlock.new.stmts) (with_part 1 c.args.bare (view_operation c.args.operation.now))
    (bare_arrow_block_second c.body-in-BareArrowBlock.result c.args.bare c.in-BareArrowBlock.field-0 c.in-BareArrowBlock.field-1 c.in-BareArrowBlock.field-2 c.in-BareArrowBlock.body c.body-in-BareArrowBlock.new.stmts _ c.args.operation.now c.in-BareArrowBlock.is c.in-BareArrowBlock.body-is c.body-in-BareArrowBlock.ensures) _ (search (rules, the_operation.the_lemmas))

pub third_of_expr-returns-in-Class : goal.third_of_expr-returns-in-Class
third_of_expr-returns-in-Class t c = as_made c.members.result view_expr (expr.Class c.in-Class.field-0 c.in-Class.field-1 c.in-Class.field-2 c.members.new.members) (with_code 2 false (view_expr c.args.expr.now))
    (class_third c.members.result false c.in-Class.field-0 c.in-Class.field-1 c.in-Class.field-2 c.in-Class.members c.members.new.members _ c.args.expr.now c.in-Class.is c.in-Class.members-is c.members.ensures.of_class) _ (search (rules, the_expr.the_lemmas))

pub third_of_expr-returns-in-Function : goal.third_of_expr-returns-in-Function
third_of_expr-returns-in-Function t c = as_made c.body.result view_expr (expr.Function c.in-Function.field-0 c.in-Function.field-1 c.in-Function.field-2 c.in-Function.field-3 c.body.new.stmts) (with_code 2 false (view_expr c.args.expr.now))
    (function_third c.body.result false c.in-Function.field-0 c.in-Function.field-1 c.in-Function.field-2 c.in-Function.field-3 c.in-Function.body c.body.new.stmts _ c.args.expr.now c.in-Function.is c.in-Function.body-is c.body.ensures) _ (search (rules, the_expr.the_lemmas))

pub third_of_stmt-returns-in-Class : goal.third_of_stmt-returns-in-Class
third_of_stmt-returns-in-Class t c = as_made c.members.result view_stmt (stmt.Class c.in-Class.field-0 c.in-Class.field-1 c.in-Class.field-2 c.members.new.members) (with_code 2 false (view_stmt c.args.stmt.now))
    (class_decl_third c.members.result false c.in-Class.field-0 c.in-Class.field-1 c.in-Class.field-2 c.in-Class.members c.members.new.members _ c.args.stmt.now c.in-Class.is c.in-Class.members-is c.members.ensures.of_class) _ (search (rules, the_stmt.the_lemmas))

pub third_of_stmt-returns-in-Function : goal.third_of_stmt-returns-in-Function
third_of_stmt-returns-in-Function t c = as_made c.body.result view_stmt (stmt.Function c.in-Function.field-0 c.in-Function.field-1 c.in-Function.field-2 c.in-Function.field-3 c.body.new.stmts) (with_code 2 false (view_stmt c.args.stmt.now))
    (function_decl_third c.body.result false c.in-Function.field-0 c.in-Function.field-1 c.in-Function.field-2 c.in-Function.field-3 c.in-Function.body c.body.new.stmts _ c.args.stmt.now c.in-Function.is c.in-Function.body-is c.body.ensures) _ (search (rules, the_stmt.the_lemmas))

pub optional_control-returns-in-Some : goal.optional_control-returns-in-Some
optional_control-returns-in-Some t c = some_control c.control.result c.args.bare c.control.new.control c.deref_mut.result.now c.in-Some.control c.args.control.now c.in-Some.is c.deref_mut.ensures.value c.control.ensures

pub second_of_pattern-returns-in_default : goal.second_of_pattern-returns-in_default
second_of_pattern-returns-in_default t c = record {
  binds = half_stays c.args.bare c.args.pattern.now Binds (c.in_default.not-Binding, (c.in_default.not-WithInit, (c.in_default.not-Pair, c.in_default.not-Shorthand)));
  assigns = half_stays c.args.bare c.args.pattern.now Assigns (c.in_default.not-Binding, (c.in_default.not-WithInit, (c.in_default.not-Pair, c.in_default.not-Shorthand)));
}
