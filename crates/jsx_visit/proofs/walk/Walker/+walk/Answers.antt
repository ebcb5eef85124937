use Rattle.std.proofs.Common.{List, [], ◌∷◌, refl, true, false, cond, ap, sym, ◌∙◌, map, rules, Option, Box, Vec, Global}
use Rattle.jsx_tree.specs.Kinds.{Binds, Assigns, FunctionExpr, ClassExpr, Method, Getter, Setter, Arrow, ArrowBlock, BareArrowBlock, Call, Tagged, New, Chain, CallLink, Var, ForDeclaration, Switch, FunctionDecl, ClassDecl, statement, function, expression, Tree, node, list, Forest, none, part}
use Rattle.jsx_tree.specs.View.{OfObject, OfClass, inside, name_of, word_of, is_optional, holder_of, forest, forest_at, optional_of, template, body, clause_of, view_expr, view_operation, view_access, view_key, view_stmt, view_control, view_link, view_member, view_pattern}
use Rattle.jsx_tree.proofs.Views.{ap_2, view-Access-Call, view-Access-New, view-Access-Chain, view-Access-Tagged, view-Control-Switch, view-Control-Case, view-Expr-Function, view-Expr-Class, view-Expr-Template, view-Expr-Access, view-Expr-Operation, view-Operation-Arrow, view-Operation-ArrowBlock, view-Operation-BareArrowBlock, view-Stmt-Var, view-Stmt-Function, view-Stmt-Class, view-Link-Call, view-Prop-Method, view-Prop-Getter, view-Prop-Setter, view-Pat-Declaration, view-Pat-Target}
use Rattle.jsx_tree.specs.declared.tree.Expr as the_expr
use Rattle.jsx_tree.specs.declared.tree.Expr.TheVariants as expr
use Rattle.jsx_tree.specs.declared.tree.Operation as the_operation
use Rattle.jsx_tree.specs.declared.tree.Operation.TheVariants as operation
use Rattle.jsx_tree.specs.declared.tree.Access as the_access
use Rattle.jsx_tree.specs.declared.tree.Access.TheVariants as access
use Rattle.jsx_tree.specs.declared.tree.Link as the_link
use Rattle.jsx_tree.specs.declared.tree.Link.TheVariants as link
use Rattle.jsx_tree.specs.declared.tree.Prop as the_member
use Rattle.jsx_tree.specs.declared.tree.Prop.TheVariants as prop
use Rattle.jsx_tree.specs.declared.tree.Pat as the_pattern
use Rattle.jsx_tree.specs.declared.tree.Pat.TheVariants as pat
use Rattle.jsx_tree.specs.declared.tree.Stmt as the_stmt
use Rattle.jsx_tree.specs.declared.tree.Stmt.TheVariants as stmt
use Rattle.jsx_tree.specs.declared.tree.Control as the_control
use Rattle.jsx_tree.specs.declared.tree.Control.TheVariants as control
use Rattle.jsx_tree.specs.declared.tree.Expr.{Expr}
use Rattle.jsx_tree.specs.declared.tree.Link.{Link}
use Rattle.jsx_tree.specs.declared.tree.Pat.{Pat}
use Rattle.jsx_tree.specs.declared.tree.Prop.{Prop}
use Rattle.jsx_tree.specs.declared.tree.Stmt.{Stmt}
use Rattle.jsx_tree.specs.declared.tree.Control.{Control}
use Rattle.jsx_visit.specs.Visit.{visited, within, changed_target}
use Rattle.jsx_visit.specs.Parts.{kept, kept_each, with_part, but_code, front_of_code, rest_of_code, but_half, but_pair, is_pair, with_test, with_second, seen_at, member_at}
use Rattle.jsx_visit.proofs.Layers.{operation_but, access_but, stmt_root, operation_all, access_all, member_all, control_all, statement_visit}
use Rattle.jsx_visit.proofs.Lists.{seen_next}
use Rattle.jsx_visit.proofs.Outcomes.{arm, then_ok, two_ok, three_ok, four_ok}
use Rattle.jsx_visit.proofs.Visits.{visiteds_forest, forest_roles, class_members, name_stays, body_visit, template_but, tagged_visit, target_first, clause_second}
use Rattle.jsx_visit.proofs.Halves.{half_stays}
use Rattle.jsx_visit.proofs.Pairs.{pair_visited}
use Rattle.jsx_visit.proofs.Keeping.{kept_next, kept_made, kept_arm, kept_list, kept_by, kept_led}
use Rattle.jsx_tree.specs.Told.{led_by, told_access, told_body, told_control, told_expr, told_ident, told_key, told_link, told_list, told_node, told_operation, told_optional, told_pat, told_prop, told_stmt, told_template, told_text}
use Rattle.jsx_tree.proofs.Telling.{told-Access-Call, told-Access-Chain, told-Access-New, told-Access-SuperCall, told-Access-Tagged, told-Control-Case, told-Control-Switch, told-Expr-Array, told-Expr-Class, told-Expr-Function, told-Expr-Object, told-Expr-Template, told-Link-Call, told-Operation-Arrow, told-Operation-ArrowBlock, told-Operation-BareArrowBlock, told-Operation-Seq, told-Pat-Array, told-Pat-Declaration, told-Pat-Object, told-Pat-Shorthand, told-Prop-Getter, told-Prop-Method, told-Prop-Setter, told-Stmt-Block, told-Stmt-Class, told-Stmt-Function, told-Stmt-Var}
use Rattle.jsx_visit.proofs.walk.Walker.+walk.Goals as goal

pub access-returns-clause-seen : goal.access-returns-clause-seen
access-returns-clause-seen g t c = two_ok c.second_of_access.result (with_part 0 g.V.Visitor.made) (with_part 1 g.V.Visitor.made) (view_access c.args.access.now) (view_access c.first_of_access.new.access) (view_access c.second_of_access.new.access) (within g.V.Visitor.made (view_access c.args.access.now))
    (access_all g.V.Visitor.made c.args.access.now) c.in_ok-first_of_access.ensures.seen c.second_of_access.ensures.seen

pub operation-returns-clause-seen : goal.operation-returns-clause-seen
operation-returns-clause-seen g t c = three_ok c.third_of_operation.result (with_part 0 g.V.Visitor.made) (with_part 1 g.V.Visitor.made) (with_part 2 g.V.Visitor.made) (view_operation c.args.operation.now) (view_operation c.first_of_operation.new.operation) (view_operation c.second_of_operation.new.operation) (view_operation c.third_of_operation.new.operation) (within g.V.Visitor.made (view_operation c.args.operation.now))
    (operation_all g.V.Visitor.made c.args.operation.now) c.in_ok-first_of_operation.ensures.seen c.in_ok-second_of_operation.ensures.seen c.third_of_operation.ensures.seen

pub stmt-returns-clause-seen : goal.stmt-returns-clause-seen
stmt-returns-clause-seen g t c = then_ok c.parts_of_stmt.result (view_stmt c.parts_of_stmt.new.stmt) (within g.V.Visitor.made (view_stmt c.deref_mut.result.now)) (visited g.V.Visitor.made (view_stmt c.args.stmt.now.value))
    (λ e. e ∙ (ap (λ x. within g.V.Visitor.made (view_stmt x)) c.deref_mut.ensures.value ∙ statement_visit g.V.Visitor.made (view_stmt c.args.stmt.now.value) (stmt_root c.args.stmt.now.value))) c.parts_of_stmt.ensures.seen

pub control-returns-clause-seen : goal.control-returns-clause-seen
control-returns-clause-seen g t c = four_ok c.fourth_of_control.result (with_test g.V.Visitor.made) (with_second g.V.Visitor.made) (with_part 2 g.V.Visitor.made) (with_part 3 g.V.Visitor.made) (view_control c.args.control.now) (view_control c.first_of_control.new.control) (view_control c.second_of_control.new.control) (view_control c.third_of_control.new.control) (view_control c.fourth_of_control.new.control) (visited g.V.Visitor.made (view_control c.args.control.now))
    (control_all g.V.Visitor.made c.args.control.now) c.in_ok-first_of_control.ensures.seen c.in_ok-second_of_control.ensures.seen c.in_ok-third_of_control.ensures.seen c.fourth_of_control.ensures.seen

pub pattern-returns-clause-binds : goal.pattern-returns-clause-binds
pattern-returns-clause-binds g t c = then_ok c.closed.result (view_pattern c.closed.new.pattern.value Binds) (cond c.has_pair-paired.result (changed_target g.V.Visitor.made (view_pattern c.parts_of_pattern.new.pattern Binds)) (view_pattern c.parts_of_pattern.new.pattern Binds)) (visited g.V.Visitor.made (view_pattern c.args.pattern.now.value Binds))
    (pair_visited g.V.Visitor.made c.has_pair-paired.result (view_pattern c.args.pattern.now.value Binds) (view_pattern c.parts_of_pattern.new.pattern Binds) (view_pattern c.closed.new.pattern.value Binds)
    (c.has_pair-paired.ensures.binds ∙ ap (λ x. is_pair (view_pattern x Binds)) c.deref.ensures) (c.in_ok-parts_of_pattern.ensures.binds ∙ ap (λ x. but_pair g.V.Visitor.made (view_pattern x Binds)) c.deref_mut.ensures.value)) c.closed.ensures.binds

pub pattern-returns-clause-assigns : goal.pattern-returns-clause-assigns
pattern-returns-clause-assigns g t c = then_ok c.closed.result (view_pattern c.closed.new.pattern.value Assigns) (cond c.has_pair-paired.result (changed_target g.V.Visitor.made (view_pattern c.parts_of_pattern.new.pattern Assigns)) (view_pattern c.parts_of_pattern.new.pattern Assigns)) (visited g.V.Visitor.made (view_pattern c.args.pattern.now.value Assigns))
    (pair_visited g.V.Visitor.made c.has_pair-paired.result (view_pattern c.args.pattern.now.value Assigns) (view_pattern c.parts_of_pattern.new.pattern Assigns) (view_pattern c.closed.new.pattern.value Assigns)
    (c.has_pair-paired.ensures.assigns ∙ ap (λ x. is_pair (view_pattern x Assigns)) c.deref.ensures) (c.in_ok-parts_of_pattern.ensures.assigns ∙ ap (λ x. but_pair g.V.Visitor.made (view_pattern x Assigns)) c.deref_mut.ensures.value)) c.closed.ensures.assigns

pub member-returns-clause-of_object : goal.member-returns-clause-of_object
member-returns-clause-of_object g t c = three_ok c.third_of_member.result (with_part 0 g.V.Visitor.made) (with_part 1 g.V.Visitor.made) (with_part 2 g.V.Visitor.made) (view_member c.args.member.now OfObject) (view_member c.first_of_member.new.member OfObject) (view_member c.second_of_member.new.member OfObject) (view_member c.third_of_member.new.member OfObject) (visited g.V.Visitor.made (view_member c.args.member.now OfObject))
    (member_all g.V.Visitor.made c.args.member.now OfObject) c.in_ok-first_of_member.ensures.of_object c.in_ok-second_of_member.ensures.of_object c.third_of_member.ensures.of_object

pub member-returns-clause-of_class : goal.member-returns-clause-of_class
member-returns-clause-of_class g t c = three_ok c.third_of_member.result (with_part 0 g.V.Visitor.made) (with_part 1 g.V.Visitor.made) (with_part 2 g.V.Visitor.made) (view_member c.args.member.now OfClass) (view_member c.first_of_member.new.member OfClass) (view_member c.second_of_member.new.member OfClass) (view_member c.third_of_member.new.member OfClass) (visited g.V.Visitor.made (view_member c.args.member.now OfClass))
    (member_all g.V.Visitor.made c.args.member.now OfClass) c.in_ok-first_of_member.ensures.of_class c.in_ok-second_of_member.ensures.of_class c.third_of_member.ensures.of_class

pub exprs-loop-expr-preserved : goal.exprs-loop-expr-preserved
exprs-loop-expr-preserved g t c = record {
  seen = seen_next (inside view_expr) (visited g.V.Visitor.made) _ c.loop-expr.expr-items c.loop-expr.expr-index c.expr-item.result _ c.loop-expr-test.true c.loop-expr.auto.expr-items c.loop-expr.invariant.seen (c.in_ok-expr.ensures.seen);
  places = kept_next g.V.Visitor.keeps (inside told_expr) _ c.loop-expr.expr-items c.loop-expr.expr-index c.expr-item.result _ c.loop-expr.invariant.places c.in_ok-expr.ensures.places;
}

pub stmts-loop-stmt-preserved : goal.stmts-loop-stmt-preserved
stmts-loop-stmt-preserved g t c = record {
  seen = seen_next (inside view_stmt) (visited g.V.Visitor.made) _ c.loop-stmt.stmt-items c.loop-stmt.stmt-index c.stmt-item.result _ c.loop-stmt-test.true c.loop-stmt.auto.stmt-items c.loop-stmt.invariant.seen (c.in_ok-stmt.ensures.seen);
  places = kept_next g.V.Visitor.keeps (inside told_stmt) _ c.loop-stmt.stmt-items c.loop-stmt.stmt-index c.stmt-item.result _ c.loop-stmt.invariant.places c.in_ok-stmt.ensures.places;
}

pub links-loop-link-preserved : goal.links-loop-link-preserved
links-loop-link-preserved g t c = record {
  seen = seen_next (inside view_link) (visited g.V.Visitor.made) _ c.loop-link.link-items c.loop-link.link-index c.link-item.result _ c.loop-link-test.true c.loop-link.auto.link-items c.loop-link.invariant.seen (c.in_ok-link.ensures.seen ∙ ap (λ x. visited g.V.Visitor.made (view_link x)) c.deref_mut.ensures.value);
  places = kept_next g.V.Visitor.keeps (inside told_link) _ c.loop-link.link-items c.loop-link.link-index c.link-item.result _ c.loop-link.invariant.places (c.in_ok-link.ensures.places ∙ ap (λ x. kept g.V.Visitor.keeps (told_link x)) c.deref_mut.ensures.value);
}

pub controls-loop-control-preserved : goal.controls-loop-control-preserved
controls-loop-control-preserved g t c = record {
  seen = seen_next (inside view_control) (visited g.V.Visitor.made) _ c.loop-control.control-items c.loop-control.control-index c.control-item.result _ c.loop-control-test.true c.loop-control.auto.control-items c.loop-control.invariant.seen (c.in_ok-control.ensures.seen ∙ ap (λ x. visited g.V.Visitor.made (view_control x)) c.deref_mut.ensures.value);
  places = kept_next g.V.Visitor.keeps (inside told_control) _ c.loop-control.control-items c.loop-control.control-index c.control-item.result _ c.loop-control.invariant.places (c.in_ok-control.ensures.places ∙ ap (λ x. kept g.V.Visitor.keeps (told_control x)) c.deref_mut.ensures.value);
}

pub members-loop-member-preserved : goal.members-loop-member-preserved
members-loop-member-preserved g t c = record {
  of_object = seen_next (member_at OfObject) (visited g.V.Visitor.made) _ c.loop-member.member-items c.loop-member.member-index c.member-item.result _ c.loop-member-test.true c.loop-member.auto.member-items c.loop-member.invariant.of_object (c.in_ok-member.ensures.of_object ∙ ap (λ x. visited g.V.Visitor.made (view_member x OfObject)) c.deref_mut.ensures.value);
  of_class = seen_next (member_at OfClass) (visited g.V.Visitor.made) _ c.loop-member.member-items c.loop-member.member-index c.member-item.result _ c.loop-member-test.true c.loop-member.auto.member-items c.loop-member.invariant.of_class (c.in_ok-member.ensures.of_class ∙ ap (λ x. visited g.V.Visitor.made (view_member x OfClass)) c.deref_mut.ensures.value);
  places = kept_next g.V.Visitor.keeps (inside told_prop) _ c.loop-member.member-items c.loop-member.member-index c.member-item.result _ c.loop-member.invariant.places (c.in_ok-member.ensures.places ∙ ap (λ x. kept g.V.Visitor.keeps (told_prop x)) c.deref_mut.ensures.value);
}

pub patterns-loop-pattern-preserved : goal.patterns-loop-pattern-preserved
patterns-loop-pattern-preserved g t c = record {
  binds = seen_next (seen_at Binds) (visited g.V.Visitor.made) _ c.loop-pattern.pattern-items c.loop-pattern.pattern-index c.pattern-item.result _ c.loop-pattern-test.true c.loop-pattern.auto.pattern-items c.loop-pattern.invariant.binds (c.in_ok-pattern.ensures.binds);
  assigns = seen_next (seen_at Assigns) (visited g.V.Visitor.made) _ c.loop-pattern.pattern-items c.loop-pattern.pattern-index c.pattern-item.result _ c.loop-pattern-test.true c.loop-pattern.auto.pattern-items c.loop-pattern.invariant.assigns (c.in_ok-pattern.ensures.assigns);
  places = kept_next g.V.Visitor.keeps (inside told_pat) _ c.loop-pattern.pattern-items c.loop-pattern.pattern-index c.pattern-item.result _ c.loop-pattern.invariant.places c.in_ok-pattern.ensures.places;
}

pub second_of_access-returns-in-Call-clause-seen : goal.second_of_access-returns-in-Call-clause-seen
second_of_access-returns-in-Call-clause-seen g t c = arm c.exprs.result (map (visited g.V.Visitor.made)) (with_part 1 g.V.Visitor.made) (view_access) (λ (v : Vec (Box Expr Global) Global). map (inside view_expr) v.items) (λ (v : Vec (Box Expr Global) Global). access.Call c.in-Call.field-0 c.in-Call.field-1 v) (λ (us : List Tree). node (expression Call) (part (view_expr c.in-Call.field-1.value) (part (list (forest us)) none)))
    (λ (v : Vec (Box Expr Global) Global). view-Access-Call c.in-Call.field-0 c.in-Call.field-1 v) c.in-Call.arguments c.exprs.new.exprs _ (ap (λ (us : Forest). node (expression Call) (part (view_expr c.in-Call.field-1.value) (part (list us) none))) (visiteds_forest g.V.Visitor.made (map (inside view_expr) c.in-Call.arguments.items)))
    c.args.access.now _ c.in-Call.is c.in-Call.arguments-is (search (rules, the_access.the_lemmas)) c.exprs.ensures.seen

pub second_of_access-returns-in-New-clause-seen : goal.second_of_access-returns-in-New-clause-seen
second_of_access-returns-in-New-clause-seen g t c = arm c.exprs-in-New.result (map (visited g.V.Visitor.made)) (with_part 1 g.V.Visitor.made) (view_access) (λ (v : Vec (Box Expr Global) Global). map (inside view_expr) v.items) (λ (v : Vec (Box Expr Global) Global). access.New c.in-New.field-0 c.in-New.field-1 v) (λ (us : List Tree). node (expression New) (part (view_expr c.in-New.field-1.value) (part (list (forest us)) none)))
    (λ (v : Vec (Box Expr Global) Global). view-Access-New c.in-New.field-0 c.in-New.field-1 v) c.in-New.arguments c.exprs-in-New.new.exprs _ (ap (λ (us : Forest). node (expression New) (part (view_expr c.in-New.field-1.value) (part (list us) none))) (visiteds_forest g.V.Visitor.made (map (inside view_expr) c.in-New.arguments.items)))
    c.args.access.now _ c.in-New.is c.in-New.arguments-is (search (rules, the_access.the_lemmas)) c.exprs-in-New.ensures.seen

pub second_of_access-returns-in-Chain-clause-seen : goal.second_of_access-returns-in-Chain-clause-seen
second_of_access-returns-in-Chain-clause-seen g t c = arm c.links.result (map (visited g.V.Visitor.made)) (with_part 1 g.V.Visitor.made) (view_access) (λ (v : Vec (Box Link Global) Global). map (inside view_link) v.items) (λ (v : Vec (Box Link Global) Global). access.Chain c.in-Chain.field-0 c.in-Chain.field-1 v) (λ (us : List Tree). node (expression Chain) (part (view_expr c.in-Chain.field-1.value) (part (list (forest us)) none)))
    (λ (v : Vec (Box Link Global) Global). view-Access-Chain c.in-Chain.field-0 c.in-Chain.field-1 v) c.in-Chain.links c.links.new.links _ (ap (λ (us : Forest). node (expression Chain) (part (view_expr c.in-Chain.field-1.value) (part (list us) none))) (visiteds_forest g.V.Visitor.made (map (inside view_link) c.in-Chain.links.items)))
    c.args.access.now _ c.in-Chain.is c.in-Chain.links-is (search (rules, the_access.the_lemmas)) c.links.ensures.seen

pub second_of_access-returns-in-Tagged-clause-seen : goal.second_of_access-returns-in-Tagged-clause-seen
second_of_access-returns-in-Tagged-clause-seen g t c = arm c.exprs-in-Tagged.result (map (visited g.V.Visitor.made)) (with_part 1 g.V.Visitor.made) view_access (λ (v : Vec (Box Expr Global) Global). map (inside view_expr) v.items) (λ (v : Vec (Box Expr Global) Global). access.Tagged c.in-Tagged.field-0 c.in-Tagged.field-1 c.in-Tagged.field-2 c.in-Tagged.field-3 v) (λ (us : List Tree). node (expression Tagged) (part (view_expr c.in-Tagged.field-1.value) (part (template true c.in-Tagged.field-3.items us) none)))
    (λ (v : Vec (Box Expr Global) Global). view-Access-Tagged c.in-Tagged.field-0 c.in-Tagged.field-1 c.in-Tagged.field-2 c.in-Tagged.field-3 v) c.in-Tagged.parts c.exprs-in-Tagged.new.exprs _ (ap (λ (u : Tree). node (expression Tagged) (part (view_expr c.in-Tagged.field-1.value) (part u none))) (tagged_visit g.V.Visitor.made c.in-Tagged.field-3.items (map (inside view_expr) c.in-Tagged.parts.items)))
    c.args.access.now _ c.in-Tagged.is c.in-Tagged.parts-is (search (rules, the_access.the_lemmas)) c.exprs-in-Tagged.ensures.seen

pub second_of_control-returns-in-Switch-clause-seen : goal.second_of_control-returns-in-Switch-clause-seen
second_of_control-returns-in-Switch-clause-seen g t c = arm c.controls.result (map (visited g.V.Visitor.made)) (with_second g.V.Visitor.made) (view_control) (λ (v : Vec (Box Control Global) Global). map (inside view_control) v.items) (λ (v : Vec (Box Control Global) Global). control.Switch c.in-Switch.field-0 c.in-Switch.field-1 v) (λ (us : List Tree). node (statement Switch) (part (view_expr c.in-Switch.field-1.value) (part (list (forest us)) none)))
    (λ (v : Vec (Box Control Global) Global). view-Control-Switch c.in-Switch.field-0 c.in-Switch.field-1 v) c.in-Switch.clauses c.controls.new.controls _ (ap (λ (us : Forest). node (statement Switch) (part (view_expr c.in-Switch.field-1.value) (part (list us) none))) (visiteds_forest g.V.Visitor.made (map (inside view_control) c.in-Switch.clauses.items)))
    c.args.control.now _ c.in-Switch.is c.in-Switch.clauses-is (search (rules, the_control.the_lemmas)) c.controls.ensures.seen

pub second_of_control-returns-in-Case-clause-seen : goal.second_of_control-returns-in-Case-clause-seen
second_of_control-returns-in-Case-clause-seen g t c = arm c.stmts.result (map (visited g.V.Visitor.made)) (with_second g.V.Visitor.made) (view_control) (λ (v : Vec (Box Stmt Global) Global). map (inside view_stmt) v.items) (λ (v : Vec (Box Stmt Global) Global). control.Case c.in-Case.field-0 c.in-Case.field-1 v) (λ (us : List Tree). clause_of view_expr c.in-Case.field-1 (list (forest us)))
    (λ (v : Vec (Box Stmt Global) Global). view-Control-Case c.in-Case.field-0 c.in-Case.field-1 v) c.in-Case.body c.stmts.new.stmts _ (clause_second g.V.Visitor.made c.in-Case.field-1 (map (inside view_stmt) c.in-Case.body.items))
    c.args.control.now _ c.in-Case.is c.in-Case.body-is (search (rules, the_control.the_lemmas)) c.stmts.ensures.seen

pub second_of_expr-returns-in-Function-clause-seen : goal.second_of_expr-returns-in-Function-clause-seen
second_of_expr-returns-in-Function-clause-seen g t c = arm c.patterns.result (map (visited g.V.Visitor.made)) (front_of_code g.V.Visitor.made) (view_expr) (λ (v : Vec (Box Pat Global) Global). map (seen_at Binds) v.items) (λ (v : Vec (Box Pat Global) Global). expr.Function c.in-Function.field-0 c.in-Function.field-1 v c.in-Function.field-3 c.in-Function.field-4) (λ (us : List Tree). node (function FunctionExpr) (part (optional_of name_of c.in-Function.field-1) (part (list (forest us)) (part (body c.in-Function.field-3.items (map (inside view_stmt) c.in-Function.field-4.items)) none))))
    (λ (v : Vec (Box Pat Global) Global). view-Expr-Function c.in-Function.field-0 c.in-Function.field-1 v c.in-Function.field-3 c.in-Function.field-4 ∙ ap (λ (us : Forest). node (function FunctionExpr) (part (optional_of name_of c.in-Function.field-1) (part (list us) (part (body c.in-Function.field-3.items (map (inside view_stmt) c.in-Function.field-4.items)) none)))) (forest_roles Binds v.items)) c.in-Function.parameters c.patterns.new.patterns _ (ap_2 (λ (u : Tree) (us : Forest). node (function FunctionExpr) (part u (part (list us) (part (body c.in-Function.field-3.items (map (inside view_stmt) c.in-Function.field-4.items)) none)))) (name_stays g.V.Visitor.made c.in-Function.field-1) (visiteds_forest g.V.Visitor.made (map (seen_at Binds) c.in-Function.parameters.items)))
    c.args.expr.now _ c.in-Function.is c.in-Function.parameters-is (search (rules, the_expr.the_lemmas)) c.patterns.ensures.binds

pub third_of_expr-returns-in-Function-clause-seen : goal.third_of_expr-returns-in-Function-clause-seen
third_of_expr-returns-in-Function-clause-seen g t c = arm c.stmts.result (map (visited g.V.Visitor.made)) (rest_of_code g.V.Visitor.made) (view_expr) (λ (v : Vec (Box Stmt Global) Global). map (inside view_stmt) v.items) (λ (v : Vec (Box Stmt Global) Global). expr.Function c.in-Function.field-0 c.in-Function.field-1 c.in-Function.field-2 c.in-Function.field-3 v) (λ (us : List Tree). node (function FunctionExpr) (part (optional_of name_of c.in-Function.field-1) (part (list (forest_at Binds (map (inside view_pattern) c.in-Function.field-2.items))) (part (body c.in-Function.field-3.items us) none))))
    (λ (v : Vec (Box Stmt Global) Global). view-Expr-Function c.in-Function.field-0 c.in-Function.field-1 c.in-Function.field-2 c.in-Function.field-3 v) c.in-Function.body c.stmts.new.stmts _ (ap (λ (u : Tree). node (function FunctionExpr) (part (optional_of name_of c.in-Function.field-1) (part (list (forest_at Binds (map (inside view_pattern) c.in-Function.field-2.items))) (part u none)))) (body_visit g.V.Visitor.made c.in-Function.field-3.items (map (inside view_stmt) c.in-Function.body.items)))
    c.args.expr.now _ c.in-Function.is c.in-Function.body-is (search (rules, the_expr.the_lemmas)) c.stmts.ensures.seen

pub third_of_expr-returns-in-Class-clause-seen : goal.third_of_expr-returns-in-Class-clause-seen
third_of_expr-returns-in-Class-clause-seen g t c = arm c.members.result (map (visited g.V.Visitor.made)) (rest_of_code g.V.Visitor.made) (view_expr) (λ (v : Vec (Box Prop Global) Global). map (member_at OfClass) v.items) (λ (v : Vec (Box Prop Global) Global). expr.Class c.in-Class.field-0 c.in-Class.field-1 c.in-Class.field-2 v) (λ (us : List Tree). node (function ClassExpr) (part (optional_of name_of c.in-Class.field-1) (part (optional_of view_expr c.in-Class.field-2) (part (list (forest us)) none))))
    (λ (v : Vec (Box Prop Global) Global). view-Expr-Class c.in-Class.field-0 c.in-Class.field-1 c.in-Class.field-2 v ∙ ap (λ (us : Forest). node (function ClassExpr) (part (optional_of name_of c.in-Class.field-1) (part (optional_of view_expr c.in-Class.field-2) (part (list us) none)))) (class_members v.items)) c.in-Class.members c.members.new.members _ (ap (λ (us : Forest). node (function ClassExpr) (part (optional_of name_of c.in-Class.field-1) (part (optional_of view_expr c.in-Class.field-2) (part (list us) none)))) (visiteds_forest g.V.Visitor.made (map (member_at OfClass) c.in-Class.members.items)))
    c.args.expr.now _ c.in-Class.is c.in-Class.members-is (search (rules, the_expr.the_lemmas)) c.members.ensures.of_class

pub first_of_expr-returns-in-Template-clause-seen : goal.first_of_expr-returns-in-Template-clause-seen
first_of_expr-returns-in-Template-clause-seen g t c = arm c.exprs-in-Template.result (map (visited g.V.Visitor.made)) (but_code g.V.Visitor.made) view_expr (λ (v : Vec (Box Expr Global) Global). map (inside view_expr) v.items) (λ (v : Vec (Box Expr Global) Global). expr.Template c.in-Template.field-0 c.in-Template.field-1 v) (template false c.in-Template.field-1.items)
    (λ (v : Vec (Box Expr Global) Global). view-Expr-Template c.in-Template.field-0 c.in-Template.field-1 v) c.in-Template.parts c.exprs-in-Template.new.exprs _ (template_but g.V.Visitor.made c.in-Template.field-1.items (map (inside view_expr) c.in-Template.parts.items))
    c.args.expr.now _ c.in-Template.is c.in-Template.parts-is (search (rules, the_expr.the_lemmas)) c.exprs-in-Template.ensures.seen

pub first_of_expr-returns-in-Access-clause-seen : goal.first_of_expr-returns-in-Access-clause-seen
first_of_expr-returns-in-Access-clause-seen g t c = arm c.access.result (within g.V.Visitor.made) (but_code g.V.Visitor.made) view_expr view_access expr.Access (λ (u : Tree). u)
    view-Expr-Access c.in-Access.access c.access.new.access _ (access_but g.V.Visitor.made c.in-Access.access)
    c.args.expr.now _ c.in-Access.is c.in-Access.access-is (search (rules, the_expr.the_lemmas)) c.access.ensures.seen

pub first_of_expr-returns-in-Operation-clause-seen : goal.first_of_expr-returns-in-Operation-clause-seen
first_of_expr-returns-in-Operation-clause-seen g t c = arm c.operation.result (within g.V.Visitor.made) (but_code g.V.Visitor.made) view_expr view_operation expr.Operation (λ (u : Tree). u)
    view-Expr-Operation c.in-Operation.operation c.operation.new.operation _ (operation_but g.V.Visitor.made c.in-Operation.operation)
    c.args.expr.now _ c.in-Operation.is c.in-Operation.operation-is (search (rules, the_expr.the_lemmas)) c.operation.ensures.seen

pub first_of_operation-returns-in-Arrow-clause-seen : goal.first_of_operation-returns-in-Arrow-clause-seen
first_of_operation-returns-in-Arrow-clause-seen g t c = arm c.patterns.result (map (visited g.V.Visitor.made)) (with_part 0 g.V.Visitor.made) (view_operation) (λ (v : Vec (Box Pat Global) Global). map (seen_at Binds) v.items) (λ (v : Vec (Box Pat Global) Global). operation.Arrow c.in-Arrow.field-0 v c.in-Arrow.field-2) (λ (us : List Tree). node (expression Arrow) (part (list (forest us)) (part (view_expr c.in-Arrow.field-2.value) none)))
    (λ (v : Vec (Box Pat Global) Global). view-Operation-Arrow c.in-Arrow.field-0 v c.in-Arrow.field-2 ∙ ap (λ (us : Forest). node (expression Arrow) (part (list us) (part (view_expr c.in-Arrow.field-2.value) none))) (forest_roles Binds v.items)) c.in-Arrow.parameters c.patterns.new.patterns _ (ap (λ (us : Forest). node (expression Arrow) (part (list us) (part (view_expr c.in-Arrow.field-2.value) none))) (visiteds_forest g.V.Visitor.made (map (seen_at Binds) c.in-Arrow.parameters.items)))
    c.args.operation.now _ c.in-Arrow.is c.in-Arrow.parameters-is (search (rules, the_operation.the_lemmas)) c.patterns.ensures.binds

pub first_of_operation-returns-in-ArrowBlock-clause-seen : goal.first_of_operation-returns-in-ArrowBlock-clause-seen
first_of_operation-returns-in-ArrowBlock-clause-seen g t c = arm c.patterns-in-ArrowBlock.result (map (visited g.V.Visitor.made)) (with_part 0 g.V.Visitor.made) (view_operation) (λ (v : Vec (Box Pat Global) Global). map (seen_at Binds) v.items) (λ (v : Vec (Box Pat Global) Global). operation.ArrowBlock c.in-ArrowBlock.field-0 v c.in-ArrowBlock.field-2 c.in-ArrowBlock.field-3) (λ (us : List Tree). node (expression ArrowBlock) (part (list (forest us)) (part (body c.in-ArrowBlock.field-2.items (map (inside view_stmt) c.in-ArrowBlock.field-3.items)) none)))
    (λ (v : Vec (Box Pat Global) Global). view-Operation-ArrowBlock c.in-ArrowBlock.field-0 v c.in-ArrowBlock.field-2 c.in-ArrowBlock.field-3 ∙ ap (λ (us : Forest). node (expression ArrowBlock) (part (list us) (part (body c.in-ArrowBlock.field-2.items (map (inside view_stmt) c.in-ArrowBlock.field-3.items)) none))) (forest_roles Binds v.items)) c.in-ArrowBlock.parameters c.patterns-in-ArrowBlock.new.patterns _ (ap (λ (us : Forest). node (expression ArrowBlock) (part (list us) (part (body c.in-ArrowBlock.field-2.items (map (inside view_stmt) c.in-ArrowBlock.field-3.items)) none))) (visiteds_forest g.V.Visitor.made (map (seen_at Binds) c.in-ArrowBlock.parameters.items)))
    c.args.operation.now _ c.in-ArrowBlock.is c.in-ArrowBlock.parameters-is (search (rules, the_operation.the_lemmas)) c.patterns-in-ArrowBlock.ensures.binds

pub second_of_operation-returns-in-ArrowBlock-clause-seen : goal.second_of_operation-returns-in-ArrowBlock-clause-seen
second_of_operation-returns-in-ArrowBlock-clause-seen g t c = arm c.stmts.result (map (visited g.V.Visitor.made)) (with_part 1 g.V.Visitor.made) (view_operation) (λ (v : Vec (Box Stmt Global) Global). map (inside view_stmt) v.items) (λ (v : Vec (Box Stmt Global) Global). operation.ArrowBlock c.in-ArrowBlock.field-0 c.in-ArrowBlock.field-1 c.in-ArrowBlock.field-2 v) (λ (us : List Tree). node (expression ArrowBlock) (part (list (forest_at Binds (map (inside view_pattern) c.in-ArrowBlock.field-1.items))) (part (body c.in-ArrowBlock.field-2.items us) none)))
    (λ (v : Vec (Box Stmt Global) Global). view-Operation-ArrowBlock c.in-ArrowBlock.field-0 c.in-ArrowBlock.field-1 c.in-ArrowBlock.field-2 v) c.in-ArrowBlock.body c.stmts.new.stmts _ (ap (λ (u : Tree). node (expression ArrowBlock) (part (list (forest_at Binds (map (inside view_pattern) c.in-ArrowBlock.field-1.items))) (part u none))) (body_visit g.V.Visitor.made c.in-ArrowBlock.field-2.items (map (inside view_stmt) c.in-ArrowBlock.body.items)))
    c.args.operation.now _ c.in-ArrowBlock.is c.in-ArrowBlock.body-is (search (rules, the_operation.the_lemmas)) c.stmts.ensures.seen

pub second_of_operation-returns-in-BareArrowBlock-clause-seen : goal.second_of_operation-returns-in-BareArrowBlock-clause-seen
second_of_operation-returns-in-BareArrowBlock-clause-seen g t c = arm c.stmts-in-BareArrowBlock.result (map (visited g.V.Visitor.made)) (with_part 1 g.V.Visitor.made) (view_operation) (λ (v : Vec (Box Stmt Global) Global). map (inside view_stmt) v.items) (λ (v : Vec (Box Stmt Global) Global). operation.BareArrowBlock c.in-BareArrowBlock.field-0 c.in-BareArrowBlock.field-1 c.in-BareArrowBlock.field-2 v) (λ (us : List Tree). node (expression BareArrowBlock) (part (name_of c.in-BareArrowBlock.field-1) (part (body c.in-BareArrowBlock.field-2.items us) none)))
    (λ (v : Vec (Box Stmt Global) Global). view-Operation-BareArrowBlock c.in-BareArrowBlock.field-0 c.in-BareArrowBlock.field-1 c.in-BareArrowBlock.field-2 v) c.in-BareArrowBlock.body c.stmts-in-BareArrowBlock.new.stmts _ (ap (λ (u : Tree). node (expression BareArrowBlock) (part (name_of c.in-BareArrowBlock.field-1) (part u none))) (body_visit g.V.Visitor.made c.in-BareArrowBlock.field-2.items (map (inside view_stmt) c.in-BareArrowBlock.body.items)))
    c.args.operation.now _ c.in-BareArrowBlock.is c.in-BareArrowBlock.body-is (search (rules, the_operation.the_lemmas)) c.stmts-in-BareArrowBlock.ensures.seen

pub first_of_stmt-returns-in-Var-clause-seen : goal.first_of_stmt-returns-in-Var-clause-seen
first_of_stmt-returns-in-Var-clause-seen g t c = arm c.patterns.result (map (visited g.V.Visitor.made)) (but_code g.V.Visitor.made) (view_stmt) (λ (v : Vec (Box Pat Global) Global). map (seen_at Binds) v.items) (λ (v : Vec (Box Pat Global) Global). stmt.Var c.in-Var.field-0 c.in-Var.field-1 v) (λ (us : List Tree). node (statement (Var (word_of c.in-Var.field-1))) (part (list (forest us)) none))
    (λ (v : Vec (Box Pat Global) Global). view-Stmt-Var c.in-Var.field-0 c.in-Var.field-1 v ∙ ap (λ (us : Forest). node (statement (Var (word_of c.in-Var.field-1))) (part (list us) none)) (forest_roles Binds v.items)) c.in-Var.declarators c.patterns.new.patterns _ (ap (λ (us : Forest). node (statement (Var (word_of c.in-Var.field-1))) (part (list us) none)) (visiteds_forest g.V.Visitor.made (map (seen_at Binds) c.in-Var.declarators.items)))
    c.args.stmt.now _ c.in-Var.is c.in-Var.declarators-is (search (rules, the_stmt.the_lemmas)) c.patterns.ensures.binds

pub second_of_stmt-returns-in-Function-clause-seen : goal.second_of_stmt-returns-in-Function-clause-seen
second_of_stmt-returns-in-Function-clause-seen g t c = arm c.patterns.result (map (visited g.V.Visitor.made)) (front_of_code g.V.Visitor.made) (view_stmt) (λ (v : Vec (Box Pat Global) Global). map (seen_at Binds) v.items) (λ (v : Vec (Box Pat Global) Global). stmt.Function c.in-Function.field-0 c.in-Function.field-1 v c.in-Function.field-3 c.in-Function.field-4) (λ (us : List Tree). node (statement FunctionDecl) (part (name_of c.in-Function.field-1) (part (list (forest us)) (part (body c.in-Function.field-3.items (map (inside view_stmt) c.in-Function.field-4.items)) none))))
    (λ (v : Vec (Box Pat Global) Global). view-Stmt-Function c.in-Function.field-0 c.in-Function.field-1 v c.in-Function.field-3 c.in-Function.field-4 ∙ ap (λ (us : Forest). node (statement FunctionDecl) (part (name_of c.in-Function.field-1) (part (list us) (part (body c.in-Function.field-3.items (map (inside view_stmt) c.in-Function.field-4.items)) none)))) (forest_roles Binds v.items)) c.in-Function.parameters c.patterns.new.patterns _ (ap (λ (us : Forest). node (statement FunctionDecl) (part (name_of c.in-Function.field-1) (part (list us) (part (body c.in-Function.field-3.items (map (inside view_stmt) c.in-Function.field-4.items)) none)))) (visiteds_forest g.V.Visitor.made (map (seen_at Binds) c.in-Function.parameters.items)))
    c.args.stmt.now _ c.in-Function.is c.in-Function.parameters-is (search (rules, the_stmt.the_lemmas)) c.patterns.ensures.binds

pub third_of_stmt-returns-in-Function-clause-seen : goal.third_of_stmt-returns-in-Function-clause-seen
third_of_stmt-returns-in-Function-clause-seen g t c = arm c.stmts.result (map (visited g.V.Visitor.made)) (rest_of_code g.V.Visitor.made) (view_stmt) (λ (v : Vec (Box Stmt Global) Global). map (inside view_stmt) v.items) (λ (v : Vec (Box Stmt Global) Global). stmt.Function c.in-Function.field-0 c.in-Function.field-1 c.in-Function.field-2 c.in-Function.field-3 v) (λ (us : List Tree). node (statement FunctionDecl) (part (name_of c.in-Function.field-1) (part (list (forest_at Binds (map (inside view_pattern) c.in-Function.field-2.items))) (part (body c.in-Function.field-3.items us) none))))
    (λ (v : Vec (Box Stmt Global) Global). view-Stmt-Function c.in-Function.field-0 c.in-Function.field-1 c.in-Function.field-2 c.in-Function.field-3 v) c.in-Function.body c.stmts.new.stmts _ (ap (λ (u : Tree). node (statement FunctionDecl) (part (name_of c.in-Function.field-1) (part (list (forest_at Binds (map (inside view_pattern) c.in-Function.field-2.items))) (part u none)))) (body_visit g.V.Visitor.made c.in-Function.field-3.items (map (inside view_stmt) c.in-Function.body.items)))
    c.args.stmt.now _ c.in-Function.is c.in-Function.body-is (search (rules, the_stmt.the_lemmas)) c.stmts.ensures.seen

pub third_of_stmt-returns-in-Class-clause-seen : goal.third_of_stmt-returns-in-Class-clause-seen
third_of_stmt-returns-in-Class-clause-seen g t c = arm c.members.result (map (visited g.V.Visitor.made)) (rest_of_code g.V.Visitor.made) (view_stmt) (λ (v : Vec (Box Prop Global) Global). map (member_at OfClass) v.items) (λ (v : Vec (Box Prop Global) Global). stmt.Class c.in-Class.field-0 c.in-Class.field-1 c.in-Class.field-2 v) (λ (us : List Tree). node (statement ClassDecl) (part (name_of c.in-Class.field-1) (part (optional_of view_expr c.in-Class.field-2) (part (list (forest us)) none))))
    (λ (v : Vec (Box Prop Global) Global). view-Stmt-Class c.in-Class.field-0 c.in-Class.field-1 c.in-Class.field-2 v ∙ ap (λ (us : Forest). node (statement ClassDecl) (part (name_of c.in-Class.field-1) (part (optional_of view_expr c.in-Class.field-2) (part (list us) none)))) (class_members v.items)) c.in-Class.members c.members.new.members _ (ap (λ (us : Forest). node (statement ClassDecl) (part (name_of c.in-Class.field-1) (part (optional_of view_expr c.in-Class.field-2) (part (list us) none)))) (visiteds_forest g.V.Visitor.made (map (member_at OfClass) c.in-Class.members.items)))
    c.args.stmt.now _ c.in-Class.is c.in-Class.members-is (search (rules, the_stmt.the_lemmas)) c.members.ensures.of_class

pub link-returns-in-Call-clause-seen : goal.link-returns-in-Call-clause-seen
link-returns-in-Call-clause-seen g t c = arm c.exprs.result (map (visited g.V.Visitor.made)) (visited g.V.Visitor.made) (view_link) (λ (v : Vec (Box Expr Global) Global). map (inside view_expr) v.items) (λ (v : Vec (Box Expr Global) Global). link.Call c.in-Call.field-0 c.in-Call.field-1 v) (λ (us : List Tree). node (expression (CallLink (is_optional c.in-Call.field-1))) (part (list (forest us)) none))
    (λ (v : Vec (Box Expr Global) Global). view-Link-Call c.in-Call.field-0 c.in-Call.field-1 v) c.in-Call.arguments c.exprs.new.exprs _ (ap (λ (us : Forest). node (expression (CallLink (is_optional c.in-Call.field-1))) (part (list us) none)) (visiteds_forest g.V.Visitor.made (map (inside view_expr) c.in-Call.arguments.items)))
    c.args.link.now _ c.in-Call.is c.in-Call.arguments-is (search (rules, the_link.the_lemmas)) c.exprs.ensures.seen

pub second_of_member-returns-in-Method-clause-of_object : goal.second_of_member-returns-in-Method-clause-of_object
second_of_member-returns-in-Method-clause-of_object g t c = arm c.patterns.result (map (visited g.V.Visitor.made)) (with_part 1 g.V.Visitor.made) (λ (q : Prop). view_member q OfObject) (λ (v : Vec (Box Pat Global) Global). map (seen_at Binds) v.items) (λ (v : Vec (Box Pat Global) Global). prop.Method c.in-Method.field-0 c.in-Method.field-1 c.in-Method.field-2 v c.in-Method.field-4 c.in-Method.field-5) (λ (us : List Tree). node (function (Method (holder_of OfObject c.in-Method.field-1))) (part (view_key c.in-Method.field-2) (part (list (forest us)) (part (body c.in-Method.field-4.items (map (inside view_stmt) c.in-Method.field-5.items)) none))))
    (λ (v : Vec (Box Pat Global) Global). view-Prop-Method c.in-Method.field-0 c.in-Method.field-1 c.in-Method.field-2 v c.in-Method.field-4 c.in-Method.field-5 OfObject ∙ ap (λ (us : Forest). node (function (Method (holder_of OfObject c.in-Method.field-1))) (part (view_key c.in-Method.field-2) (part (list us) (part (body c.in-Method.field-4.items (map (inside view_stmt) c.in-Method.field-5.items)) none)))) (forest_roles Binds v.items)) c.in-Method.parameters c.patterns.new.patterns _ (ap (λ (us : Forest). node (function (Method (holder_of OfObject c.in-Method.field-1))) (part (view_key c.in-Method.field-2) (part (list us) (part (body c.in-Method.field-4.items (map (inside view_stmt) c.in-Method.field-5.items)) none)))) (visiteds_forest g.V.Visitor.made (map (seen_at Binds) c.in-Method.parameters.items)))
    c.args.member.now _ c.in-Method.is c.in-Method.parameters-is (search (rules, the_member.the_lemmas)) c.patterns.ensures.binds

pub second_of_member-returns-in-Getter-clause-of_object : goal.second_of_member-returns-in-Getter-clause-of_object
second_of_member-returns-in-Getter-clause-of_object g t c = arm c.stmts.result (map (visited g.V.Visitor.made)) (with_part 1 g.V.Visitor.made) (λ (q : Prop). view_member q OfObject) (λ (v : Vec (Box Stmt Global) Global). map (inside view_stmt) v.items) (λ (v : Vec (Box Stmt Global) Global). prop.Getter c.in-Getter.field-0 c.in-Getter.field-1 c.in-Getter.field-2 c.in-Getter.field-3 v) (λ (us : List Tree). node (function (Getter (holder_of OfObject c.in-Getter.field-1))) (part (view_key c.in-Getter.field-2) (part (body c.in-Getter.field-3.items us) none)))
    (λ (v : Vec (Box Stmt Global) Global). view-Prop-Getter c.in-Getter.field-0 c.in-Getter.field-1 c.in-Getter.field-2 c.in-Getter.field-3 v OfObject) c.in-Getter.body c.stmts.new.stmts _ (ap (λ (u : Tree). node (function (Getter (holder_of OfObject c.in-Getter.field-1))) (part (view_key c.in-Getter.field-2) (part u none))) (body_visit g.V.Visitor.made c.in-Getter.field-3.items (map (inside view_stmt) c.in-Getter.body.items)))
    c.args.member.now _ c.in-Getter.is c.in-Getter.body-is (search (rules, the_member.the_lemmas)) c.stmts.ensures.seen

pub third_of_member-returns-in-Method-clause-of_object : goal.third_of_member-returns-in-Method-clause-of_object
third_of_member-returns-in-Method-clause-of_object g t c = arm c.stmts.result (map (visited g.V.Visitor.made)) (with_part 2 g.V.Visitor.made) (λ (q : Prop). view_member q OfObject) (λ (v : Vec (Box Stmt Global) Global). map (inside view_stmt) v.items) (λ (v : Vec (Box Stmt Global) Global). prop.Method c.in-Method.field-0 c.in-Method.field-1 c.in-Method.field-2 c.in-Method.field-3 c.in-Method.field-4 v) (λ (us : List Tree). node (function (Method (holder_of OfObject c.in-Method.field-1))) (part (view_key c.in-Method.field-2) (part (list (forest_at Binds (map (inside view_pattern) c.in-Method.field-3.items))) (part (body c.in-Method.field-4.items us) none))))
    (λ (v : Vec (Box Stmt Global) Global). view-Prop-Method c.in-Method.field-0 c.in-Method.field-1 c.in-Method.field-2 c.in-Method.field-3 c.in-Method.field-4 v OfObject) c.in-Method.body c.stmts.new.stmts _ (ap (λ (u : Tree). node (function (Method (holder_of OfObject c.in-Method.field-1))) (part (view_key c.in-Method.field-2) (part (list (forest_at Binds (map (inside view_pattern) c.in-Method.field-3.items))) (part u none)))) (body_visit g.V.Visitor.made c.in-Method.field-4.items (map (inside view_stmt) c.in-Method.body.items)))
    c.args.member.now _ c.in-Method.is c.in-Method.body-is (search (rules, the_member.the_lemmas)) c.stmts.ensures.seen

pub third_of_member-returns-in-Setter-clause-of_object : goal.third_of_member-returns-in-Setter-clause-of_object
third_of_member-returns-in-Setter-clause-of_object g t c = arm c.stmts-in-Setter.result (map (visited g.V.Visitor.made)) (with_part 2 g.V.Visitor.made) (λ (q : Prop). view_member q OfObject) (λ (v : Vec (Box Stmt Global) Global). map (inside view_stmt) v.items) (λ (v : Vec (Box Stmt Global) Global). prop.Setter c.in-Setter.field-0 c.in-Setter.field-1 c.in-Setter.field-2 c.in-Setter.field-3 c.in-Setter.field-4 v) (λ (us : List Tree). node (function (Setter (holder_of OfObject c.in-Setter.field-1))) (part (view_key c.in-Setter.field-2) (part (view_pattern c.in-Setter.field-3.value Binds) (part (body c.in-Setter.field-4.items us) none))))
    (λ (v : Vec (Box Stmt Global) Global). view-Prop-Setter c.in-Setter.field-0 c.in-Setter.field-1 c.in-Setter.field-2 c.in-Setter.field-3 c.in-Setter.field-4 v OfObject) c.in-Setter.body c.stmts-in-Setter.new.stmts _ (ap (λ (u : Tree). node (function (Setter (holder_of OfObject c.in-Setter.field-1))) (part (view_key c.in-Setter.field-2) (part (view_pattern c.in-Setter.field-3.value Binds) (part u none)))) (body_visit g.V.Visitor.made c.in-Setter.field-4.items (map (inside view_stmt) c.in-Setter.body.items)))
    c.args.member.now _ c.in-Setter.is c.in-Setter.body-is (search (rules, the_member.the_lemmas)) c.stmts-in-Setter.ensures.seen

pub second_of_member-returns-in-Method-clause-of_class : goal.second_of_member-returns-in-Method-clause-of_class
second_of_member-returns-in-Method-clause-of_class g t c = arm c.patterns.result (map (visited g.V.Visitor.made)) (with_part 1 g.V.Visitor.made) (λ (q : Prop). view_member q OfClass) (λ (v : Vec (Box Pat Global) Global). map (seen_at Binds) v.items) (λ (v : Vec (Box Pat Global) Global). prop.Method c.in-Method.field-0 c.in-Method.field-1 c.in-Method.field-2 v c.in-Method.field-4 c.in-Method.field-5) (λ (us : List Tree). node (function (Method (holder_of OfClass c.in-Method.field-1))) (part (view_key c.in-Method.field-2) (part (list (forest us)) (part (body c.in-Method.field-4.items (map (inside view_stmt) c.in-Method.field-5.items)) none))))
    (λ (v : Vec (Box Pat Global) Global). view-Prop-Method c.in-Method.field-0 c.in-Method.field-1 c.in-Method.field-2 v c.in-Method.field-4 c.in-Method.field-5 OfClass ∙ ap (λ (us : Forest). node (function (Method (holder_of OfClass c.in-Method.field-1))) (part (view_key c.in-Method.field-2) (part (list us) (part (body c.in-Method.field-4.items (map (inside view_stmt) c.in-Method.field-5.items)) none)))) (forest_roles Binds v.items)) c.in-Method.parameters c.patterns.new.patterns _ (ap (λ (us : Forest). node (function (Method (holder_of OfClass c.in-Method.field-1))) (part (view_key c.in-Method.field-2) (part (list us) (part (body c.in-Method.field-4.items (map (inside view_stmt) c.in-Method.field-5.items)) none)))) (visiteds_forest g.V.Visitor.made (map (seen_at Binds) c.in-Method.parameters.items)))
    c.args.member.now _ c.in-Method.is c.in-Method.parameters-is (search (rules, the_member.the_lemmas)) c.patterns.ensures.binds

pub second_of_member-returns-in-Getter-clause-of_class : goal.second_of_member-returns-in-Getter-clause-of_class
second_of_member-returns-in-Getter-clause-of_class g t c = arm c.stmts.result (map (visited g.V.Visitor.made)) (with_part 1 g.V.Visitor.made) (λ (q : Prop). view_member q OfClass) (λ (v : Vec (Box Stmt Global) Global). map (inside view_stmt) v.items) (λ (v : Vec (Box Stmt Global) Global). prop.Getter c.in-Getter.field-0 c.in-Getter.field-1 c.in-Getter.field-2 c.in-Getter.field-3 v) (λ (us : List Tree). node (function (Getter (holder_of OfClass c.in-Getter.field-1))) (part (view_key c.in-Getter.field-2) (part (body c.in-Getter.field-3.items us) none)))
    (λ (v : Vec (Box Stmt Global) Global). view-Prop-Getter c.in-Getter.field-0 c.in-Getter.field-1 c.in-Getter.field-2 c.in-Getter.field-3 v OfClass) c.in-Getter.body c.stmts.new.stmts _ (ap (λ (u : Tree). node (function (Getter (holder_of OfClass c.in-Getter.field-1))) (part (view_key c.in-Getter.field-2) (part u none))) (body_visit g.V.Visitor.made c.in-Getter.field-3.items (map (inside view_stmt) c.in-Getter.body.items)))
    c.args.member.now _ c.in-Getter.is c.in-Getter.body-is (search (rules, the_member.the_lemmas)) c.stmts.ensures.seen

pub third_of_member-returns-in-Method-clause-of_class : goal.third_of_member-returns-in-Method-clause-of_class
third_of_member-returns-in-Method-clause-of_class g t c = arm c.stmts.result (map (visited g.V.Visitor.made)) (with_part 2 g.V.Visitor.made) (λ (q : Prop). view_member q OfClass) (λ (v : Vec (Box Stmt Global) Global). map (inside view_stmt) v.items) (λ (v : Vec (Box Stmt Global) Global). prop.Method c.in-Method.field-0 c.in-Method.field-1 c.in-Method.field-2 c.in-Method.field-3 c.in-Method.field-4 v) (λ (us : List Tree). node (function (Method (holder_of OfClass c.in-Method.field-1))) (part (view_key c.in-Method.field-2) (part (list (forest_at Binds (map (inside view_pattern) c.in-Method.field-3.items))) (part (body c.in-Method.field-4.items us) none))))
    (λ (v : Vec (Box Stmt Global) Global). view-Prop-Method c.in-Method.field-0 c.in-Method.field-1 c.in-Method.field-2 c.in-Method.field-3 c.in-Method.field-4 v OfClass) c.in-Method.body c.stmts.new.stmts _ (ap (λ (u : Tree). node (function (Method (holder_of OfClass c.in-Method.field-1))) (part (view_key c.in-Method.field-2) (part (list (forest_at Binds (map (inside view_pattern) c.in-Method.field-3.items))) (part u none)))) (body_visit g.V.Visitor.made c.in-Method.field-4.items (map (inside view_stmt) c.in-Method.body.items)))
    c.args.member.now _ c.in-Method.is c.in-Method.body-is (search (rules, the_member.the_lemmas)) c.stmts.ensures.seen

pub third_of_member-returns-in-Setter-clause-of_class : goal.third_of_member-returns-in-Setter-clause-of_class
third_of_member-returns-in-Setter-clause-of_class g t c = arm c.stmts-in-Setter.result (map (visited g.V.Visitor.made)) (with_part 2 g.V.Visitor.made) (λ (q : Prop). view_member q OfClass) (λ (v : Vec (Box Stmt Global) Global). map (inside view_stmt) v.items) (λ (v : Vec (Box Stmt Global) Global). prop.Setter c.in-Setter.field-0 c.in-Setter.field-1 c.in-Setter.field-2 c.in-Setter.field-3 c.in-Setter.field-4 v) (λ (us : List Tree). node (function (Setter (holder_of OfClass c.in-Setter.field-1))) (part (view_key c.in-Setter.field-2) (part (view_pattern c.in-Setter.field-3.value Binds) (part (body c.in-Setter.field-4.items us) none))))
    (λ (v : Vec (Box Stmt Global) Global). view-Prop-Setter c.in-Setter.field-0 c.in-Setter.field-1 c.in-Setter.field-2 c.in-Setter.field-3 c.in-Setter.field-4 v OfClass) c.in-Setter.body c.stmts-in-Setter.new.stmts _ (ap (λ (u : Tree). node (function (Setter (holder_of OfClass c.in-Setter.field-1))) (part (view_key c.in-Setter.field-2) (part (view_pattern c.in-Setter.field-3.value Binds) (part u none)))) (body_visit g.V.Visitor.made c.in-Setter.field-4.items (map (inside view_stmt) c.in-Setter.body.items)))
    c.args.member.now _ c.in-Setter.is c.in-Setter.body-is (search (rules, the_member.the_lemmas)) c.stmts-in-Setter.ensures.seen

pub first_of_pattern-returns-in-Declaration-clause-binds : goal.first_of_pattern-returns-in-Declaration-clause-binds
first_of_pattern-returns-in-Declaration-clause-binds g t c = arm c.patterns-in-Declaration.result (map (visited g.V.Visitor.made)) (but_half g.V.Visitor.made) (λ (q : Pat). view_pattern q Binds) (λ (v : Vec (Box Pat Global) Global). map (seen_at Binds) v.items) (λ (v : Vec (Box Pat Global) Global). pat.Declaration c.in-Declaration.field-0 c.in-Declaration.field-1 v) (λ (us : List Tree). node (statement (ForDeclaration (word_of c.in-Declaration.field-1))) (part (list (forest us)) none))
    (λ (v : Vec (Box Pat Global) Global). view-Pat-Declaration c.in-Declaration.field-0 c.in-Declaration.field-1 v Binds ∙ ap (λ (us : Forest). node (statement (ForDeclaration (word_of c.in-Declaration.field-1))) (part (list us) none)) (forest_roles Binds v.items)) c.in-Declaration.declarators c.patterns-in-Declaration.new.patterns _ (ap (λ (us : Forest). node (statement (ForDeclaration (word_of c.in-Declaration.field-1))) (part (list us) none)) (visiteds_forest g.V.Visitor.made (map (seen_at Binds) c.in-Declaration.declarators.items)))
    c.args.pattern.now _ c.in-Declaration.is c.in-Declaration.declarators-is (search (rules, the_pattern.the_lemmas)) c.patterns-in-Declaration.ensures.binds

pub first_of_pattern-returns-in-Target-clause-binds : goal.first_of_pattern-returns-in-Target-clause-binds
first_of_pattern-returns-in-Target-clause-binds g t c = arm c.expr.result (visited g.V.Visitor.made) (but_half g.V.Visitor.made) (λ (q : Pat). view_pattern q Binds) (λ (b : Box Expr Global). view_expr b.value) pat.Target (λ (u : Tree). u)
    (λ (b : Box Expr Global). view-Pat-Target b Binds) c.in-Target.expr c.expr.new.expr _ (target_first g.V.Visitor.made c.in-Target.expr.value)
    c.args.pattern.now _ c.in-Target.is c.in-Target.expr-is (search (rules, the_pattern.the_lemmas)) c.expr.ensures.seen

pub first_of_pattern-returns-in-Declaration-clause-assigns : goal.first_of_pattern-returns-in-Declaration-clause-assigns
first_of_pattern-returns-in-Declaration-clause-assigns g t c = arm c.patterns-in-Declaration.result (map (visited g.V.Visitor.made)) (but_half g.V.Visitor.made) (λ (q : Pat). view_pattern q Assigns) (λ (v : Vec (Box Pat Global) Global). map (seen_at Binds) v.items) (λ (v : Vec (Box Pat Global) Global). pat.Declaration c.in-Declaration.field-0 c.in-Declaration.field-1 v) (λ (us : List Tree). node (statement (ForDeclaration (word_of c.in-Declaration.field-1))) (part (list (forest us)) none))
    (λ (v : Vec (Box Pat Global) Global). view-Pat-Declaration c.in-Declaration.field-0 c.in-Declaration.field-1 v Assigns ∙ ap (λ (us : Forest). node (statement (ForDeclaration (word_of c.in-Declaration.field-1))) (part (list us) none)) (forest_roles Binds v.items)) c.in-Declaration.declarators c.patterns-in-Declaration.new.patterns _ (ap (λ (us : Forest). node (statement (ForDeclaration (word_of c.in-Declaration.field-1))) (part (list us) none)) (visiteds_forest g.V.Visitor.made (map (seen_at Binds) c.in-Declaration.declarators.items)))
    c.args.pattern.now _ c.in-Declaration.is c.in-Declaration.declarators-is (search (rules, the_pattern.the_lemmas)) c.patterns-in-Declaration.ensures.binds

pub first_of_pattern-returns-in-Target-clause-assigns : goal.first_of_pattern-returns-in-Target-clause-assigns
first_of_pattern-returns-in-Target-clause-assigns g t c = arm c.expr.result (visited g.V.Visitor.made) (but_half g.V.Visitor.made) (λ (q : Pat). view_pattern q Assigns) (λ (b : Box Expr Global). view_expr b.value) pat.Target (λ (u : Tree). u)
    (λ (b : Box Expr Global). view-Pat-Target b Assigns) c.in-Target.expr c.expr.new.expr _ (target_first g.V.Visitor.made c.in-Target.expr.value)
    c.args.pattern.now _ c.in-Target.is c.in-Target.expr-is (search (rules, the_pattern.the_lemmas)) c.expr.ensures.seen

pub second_of_pattern-returns-in_default : goal.second_of_pattern-returns-in_default
second_of_pattern-returns-in_default g t c = record {
  binds = half_stays g.V.Visitor.made c.args.pattern.now Binds (c.in_default.not-Binding, (c.in_default.not-WithInit, (c.in_default.not-Pair, c.in_default.not-Shorthand)));
  assigns = half_stays g.V.Visitor.made c.args.pattern.now Assigns (c.in_default.not-Binding, (c.in_default.not-WithInit, (c.in_default.not-Pair, c.in_default.not-Shorthand)));
  places = refl;
}

pub expr-returns-clause-places : goal.expr-returns-clause-places
expr-returns-clause-places g t c = kept_made c.expr.result g.V.Visitor.keeps _ _ _ (c.in_ok-parts.ensures.places ∙ ap (λ x. kept g.V.Visitor.keeps (told_expr x)) c.deref_mut.ensures.value) c.expr.ensures.places

pub first_of_expr-returns-in-Template-clause-places : goal.first_of_expr-returns-in-Template-clause-places
first_of_expr-returns-in-Template-clause-places g t c = kept_arm c.exprs-in-Template.result g.V.Visitor.keeps told_expr (λ (v : Vec (Box Expr Global) Global). kept_each g.V.Visitor.keeps (inside told_expr) v.items) (λ (v : Vec (Box Expr Global) Global). expr.Template c.in-Template.field-0 c.in-Template.field-1 v)
    (λ (v w : Vec (Box Expr Global) Global) e. ap (kept g.V.Visitor.keeps) (told-Expr-Template c.in-Template.field-0 c.in-Template.field-1 v) ∙ (kept_by g.V.Visitor.keeps (told_template c.in-Template.field-0 c.in-Template.field-1.items) (map (inside told_expr) v.items) (map (inside told_expr) w.items) e ∙ sym (ap (kept g.V.Visitor.keeps) (told-Expr-Template c.in-Template.field-0 c.in-Template.field-1 w))))
    c.in-Template.parts c.exprs-in-Template.new.exprs _ c.args.expr.now _ c.in-Template.is c.in-Template.parts-is (search (rules, the_expr.the_lemmas)) c.exprs-in-Template.ensures.places

pub second_of_access-returns-in-Tagged-clause-places : goal.second_of_access-returns-in-Tagged-clause-places
second_of_access-returns-in-Tagged-clause-places g t c = kept_arm c.exprs-in-Tagged.result g.V.Visitor.keeps told_access (λ (v : Vec (Box Expr Global) Global). kept_each g.V.Visitor.keeps (inside told_expr) v.items) (λ (v : Vec (Box Expr Global) Global). access.Tagged c.in-Tagged.field-0 c.in-Tagged.field-1 c.in-Tagged.field-2 c.in-Tagged.field-3 v)
    (λ (v w : Vec (Box Expr Global) Global) e. ap (kept g.V.Visitor.keeps) (told-Access-Tagged c.in-Tagged.field-0 c.in-Tagged.field-1 c.in-Tagged.field-2 c.in-Tagged.field-3 v) ∙ (kept_by g.V.Visitor.keeps (λ us. told_node c.in-Tagged.field-0 (told_expr c.in-Tagged.field-1.value ∷ told_template c.in-Tagged.field-2 c.in-Tagged.field-3.items us ∷ [])) (map (inside told_expr) v.items) (map (inside told_expr) w.items) e ∙ sym (ap (kept g.V.Visitor.keeps) (told-Access-Tagged c.in-Tagged.field-0 c.in-Tagged.field-1 c.in-Tagged.field-2 c.in-Tagged.field-3 w))))
    c.in-Tagged.parts c.exprs-in-Tagged.new.exprs _ c.args.access.now _ c.in-Tagged.is c.in-Tagged.parts-is (search (rules, the_access.the_lemmas)) c.exprs-in-Tagged.ensures.places

pub first_of_control-returns-in-Case-clause-places : goal.first_of_control-returns-in-Case-clause-places
first_of_control-returns-in-Case-clause-places g t c = kept_arm c.optional.result g.V.Visitor.keeps told_control (λ (v : Option (Box Expr Global)). kept g.V.Visitor.keeps (told_optional told_expr v)) (λ (v : Option (Box Expr Global)). control.Case c.in-Case.field-0 v c.in-Case.field-2)
    (λ (v w : Option (Box Expr Global)) e. ap (kept g.V.Visitor.keeps) (told-Control-Case c.in-Case.field-0 v c.in-Case.field-2) ∙ (kept_led g.V.Visitor.keeps told_expr (told_node c.in-Case.field-0) (told_list (map (inside told_stmt) c.in-Case.field-2.items) ∷ []) v w e ∙ sym (ap (kept g.V.Visitor.keeps) (told-Control-Case c.in-Case.field-0 w c.in-Case.field-2))))
    c.in-Case.test c.optional.new.expr _ c.args.control.now _ c.in-Case.is c.in-Case.test-is (search (rules, the_control.the_lemmas)) c.optional.ensures.places

pub second_of_pattern-returns-in-Shorthand-clause-places : goal.second_of_pattern-returns-in-Shorthand-clause-places
second_of_pattern-returns-in-Shorthand-clause-places g t c = kept_arm c.optional-in-Shorthand.result g.V.Visitor.keeps told_pat (λ (v : Option (Box Expr Global)). kept g.V.Visitor.keeps (told_optional told_expr v)) (λ (v : Option (Box Expr Global)). pat.Shorthand c.in-Shorthand.field-0 c.in-Shorthand.field-1 v)
    (λ (v w : Option (Box Expr Global)) e. ap (kept g.V.Visitor.keeps) (told-Pat-Shorthand c.in-Shorthand.field-0 c.in-Shorthand.field-1 v) ∙ (kept_led g.V.Visitor.keeps told_expr (λ us. told_node c.in-Shorthand.field-0 (told_text c.in-Shorthand.field-1.text ∷ us)) [] v w e ∙ sym (ap (kept g.V.Visitor.keeps) (told-Pat-Shorthand c.in-Shorthand.field-0 c.in-Shorthand.field-1 w))))
    c.in-Shorthand.value c.optional-in-Shorthand.new.expr _ c.args.pattern.now _ c.in-Shorthand.is c.in-Shorthand.value-is (search (rules, the_pattern.the_lemmas)) c.optional-in-Shorthand.ensures.places

pub first_of_access-returns-in-SuperCall-clause-places : goal.first_of_access-returns-in-SuperCall-clause-places
first_of_access-returns-in-SuperCall-clause-places g t c = kept_list c.exprs.result g.V.Visitor.keeps told_access told_expr (λ (v : Vec (Box Expr Global) Global). access.SuperCall c.in-SuperCall.field-0 v) (λ us. told_node c.in-SuperCall.field-0 (told_list us ∷ []))
    (λ (v : Vec (Box Expr Global) Global). told-Access-SuperCall c.in-SuperCall.field-0 v) c.in-SuperCall.arguments c.exprs.new.exprs _ c.args.access.now _ c.in-SuperCall.is c.in-SuperCall.arguments-is (search (rules, the_access.the_lemmas)) c.exprs.ensures.places

pub first_of_expr-returns-in-Array-clause-places : goal.first_of_expr-returns-in-Array-clause-places
first_of_expr-returns-in-Array-clause-places g t c = kept_list c.exprs.result g.V.Visitor.keeps told_expr told_expr (λ (v : Vec (Box Expr Global) Global). expr.Array c.in-Array.field-0 v) (λ us. told_node c.in-Array.field-0 (told_list us ∷ []))
    (λ (v : Vec (Box Expr Global) Global). told-Expr-Array c.in-Array.field-0 v) c.in-Array.items c.exprs.new.exprs _ c.args.expr.now _ c.in-Array.is c.in-Array.items-is (search (rules, the_expr.the_lemmas)) c.exprs.ensures.places

pub first_of_expr-returns-in-Object-clause-places : goal.first_of_expr-returns-in-Object-clause-places
first_of_expr-returns-in-Object-clause-places g t c = kept_list c.members.result g.V.Visitor.keeps told_expr told_prop (λ (v : Vec (Box Prop Global) Global). expr.Object c.in-Object.field-0 v) (λ us. told_node c.in-Object.field-0 (told_list us ∷ []))
    (λ (v : Vec (Box Prop Global) Global). told-Expr-Object c.in-Object.field-0 v) c.in-Object.members c.members.new.members _ c.args.expr.now _ c.in-Object.is c.in-Object.members-is (search (rules, the_expr.the_lemmas)) c.members.ensures.places

pub first_of_operation-returns-in-Arrow-clause-places : goal.first_of_operation-returns-in-Arrow-clause-places
first_of_operation-returns-in-Arrow-clause-places g t c = kept_list c.patterns.result g.V.Visitor.keeps told_operation told_pat (λ (v : Vec (Box Pat Global) Global). operation.Arrow c.in-Arrow.field-0 v c.in-Arrow.field-2) (λ us. told_node c.in-Arrow.field-0 (told_list us ∷ told_expr c.in-Arrow.field-2.value ∷ []))
    (λ (v : Vec (Box Pat Global) Global). told-Operation-Arrow c.in-Arrow.field-0 v c.in-Arrow.field-2) c.in-Arrow.parameters c.patterns.new.patterns _ c.args.operation.now _ c.in-Arrow.is c.in-Arrow.parameters-is (search (rules, the_operation.the_lemmas)) c.patterns.ensures.places

pub first_of_operation-returns-in-ArrowBlock-clause-places : goal.first_of_operation-returns-in-ArrowBlock-clause-places
first_of_operation-returns-in-ArrowBlock-clause-places g t c = kept_list c.patterns-in-ArrowBlock.result g.V.Visitor.keeps told_operation told_pat (λ (v : Vec (Box Pat Global) Global). operation.ArrowBlock c.in-ArrowBlock.field-0 v c.in-ArrowBlock.field-2 c.in-ArrowBlock.field-3) (λ us. told_node c.in-ArrowBlock.field-0 (told_list us ∷ told_body c.in-ArrowBlock.field-2.items (map (inside told_stmt) c.in-ArrowBlock.field-3.items) ∷ []))
    (λ (v : Vec (Box Pat Global) Global). told-Operation-ArrowBlock c.in-ArrowBlock.field-0 v c.in-ArrowBlock.field-2 c.in-ArrowBlock.field-3) c.in-ArrowBlock.parameters c.patterns-in-ArrowBlock.new.patterns _ c.args.operation.now _ c.in-ArrowBlock.is c.in-ArrowBlock.parameters-is (search (rules, the_operation.the_lemmas)) c.patterns-in-ArrowBlock.ensures.places

pub first_of_operation-returns-in-Seq-clause-places : goal.first_of_operation-returns-in-Seq-clause-places
first_of_operation-returns-in-Seq-clause-places g t c = kept_list c.exprs.result g.V.Visitor.keeps told_operation told_expr (λ (v : Vec (Box Expr Global) Global). operation.Seq c.in-Seq.field-0 v) (λ us. told_node c.in-Seq.field-0 (told_list us ∷ []))
    (λ (v : Vec (Box Expr Global) Global). told-Operation-Seq c.in-Seq.field-0 v) c.in-Seq.items c.exprs.new.exprs _ c.args.operation.now _ c.in-Seq.is c.in-Seq.items-is (search (rules, the_operation.the_lemmas)) c.exprs.ensures.places

pub first_of_pattern-returns-in-Array-clause-places : goal.first_of_pattern-returns-in-Array-clause-places
first_of_pattern-returns-in-Array-clause-places g t c = kept_list c.patterns.result g.V.Visitor.keeps told_pat told_pat (λ (v : Vec (Box Pat Global) Global). pat.Array c.in-Array.field-0 v) (λ us. told_node c.in-Array.field-0 (told_list us ∷ []))
    (λ (v : Vec (Box Pat Global) Global). told-Pat-Array c.in-Array.field-0 v) c.in-Array.items c.patterns.new.patterns _ c.args.pattern.now _ c.in-Array.is c.in-Array.items-is (search (rules, the_pattern.the_lemmas)) c.patterns.ensures.places

pub first_of_pattern-returns-in-Declaration-clause-places : goal.first_of_pattern-returns-in-Declaration-clause-places
first_of_pattern-returns-in-Declaration-clause-places g t c = kept_list c.patterns-in-Declaration.result g.V.Visitor.keeps told_pat told_pat (λ (v : Vec (Box Pat Global) Global). pat.Declaration c.in-Declaration.field-0 c.in-Declaration.field-1 v) (λ us. told_node c.in-Declaration.field-0 (told_list us ∷ []))
    (λ (v : Vec (Box Pat Global) Global). told-Pat-Declaration c.in-Declaration.field-0 c.in-Declaration.field-1 v) c.in-Declaration.declarators c.patterns-in-Declaration.new.patterns _ c.args.pattern.now _ c.in-Declaration.is c.in-Declaration.declarators-is (search (rules, the_pattern.the_lemmas)) c.patterns-in-Declaration.ensures.places

pub first_of_pattern-returns-in-Object-clause-places : goal.first_of_pattern-returns-in-Object-clause-places
first_of_pattern-returns-in-Object-clause-places g t c = kept_list c.patterns-in-Object.result g.V.Visitor.keeps told_pat told_pat (λ (v : Vec (Box Pat Global) Global). pat.Object c.in-Object.field-0 v) (λ us. told_node c.in-Object.field-0 (told_list us ∷ []))
    (λ (v : Vec (Box Pat Global) Global). told-Pat-Object c.in-Object.field-0 v) c.in-Object.items c.patterns-in-Object.new.patterns _ c.args.pattern.now _ c.in-Object.is c.in-Object.items-is (search (rules, the_pattern.the_lemmas)) c.patterns-in-Object.ensures.places

pub first_of_stmt-returns-in-Block-clause-places : goal.first_of_stmt-returns-in-Block-clause-places
first_of_stmt-returns-in-Block-clause-places g t c = kept_list c.stmts.result g.V.Visitor.keeps told_stmt told_stmt (λ (v : Vec (Box Stmt Global) Global). stmt.Block c.in-Block.field-0 v) (λ us. told_node c.in-Block.field-0 (told_list us ∷ []))
    (λ (v : Vec (Box Stmt Global) Global). told-Stmt-Block c.in-Block.field-0 v) c.in-Block.body c.stmts.new.stmts _ c.args.stmt.now _ c.in-Block.is c.in-Block.body-is (search (rules, the_stmt.the_lemmas)) c.stmts.ensures.places

pub first_of_stmt-returns-in-Var-clause-places : goal.first_of_stmt-returns-in-Var-clause-places
first_of_stmt-returns-in-Var-clause-places g t c = kept_list c.patterns.result g.V.Visitor.keeps told_stmt told_pat (λ (v : Vec (Box Pat Global) Global). stmt.Var c.in-Var.field-0 c.in-Var.field-1 v) (λ us. told_node c.in-Var.field-0 (told_list us ∷ []))
    (λ (v : Vec (Box Pat Global) Global). told-Stmt-Var c.in-Var.field-0 c.in-Var.field-1 v) c.in-Var.declarators c.patterns.new.patterns _ c.args.stmt.now _ c.in-Var.is c.in-Var.declarators-is (search (rules, the_stmt.the_lemmas)) c.patterns.ensures.places

pub link-returns-in-Call-clause-places : goal.link-returns-in-Call-clause-places
link-returns-in-Call-clause-places g t c = kept_list c.exprs.result g.V.Visitor.keeps told_link told_expr (λ (v : Vec (Box Expr Global) Global). link.Call c.in-Call.field-0 c.in-Call.field-1 v) (λ us. told_node c.in-Call.field-0 (told_list us ∷ []))
    (λ (v : Vec (Box Expr Global) Global). told-Link-Call c.in-Call.field-0 c.in-Call.field-1 v) c.in-Call.arguments c.exprs.new.exprs _ c.args.link.now _ c.in-Call.is c.in-Call.arguments-is (search (rules, the_link.the_lemmas)) c.exprs.ensures.places

pub second_of_access-returns-in-Call-clause-places : goal.second_of_access-returns-in-Call-clause-places
second_of_access-returns-in-Call-clause-places g t c = kept_list c.exprs.result g.V.Visitor.keeps told_access told_expr (λ (v : Vec (Box Expr Global) Global). access.Call c.in-Call.field-0 c.in-Call.field-1 v) (λ us. told_node c.in-Call.field-0 (told_expr c.in-Call.field-1.value ∷ told_list us ∷ []))
    (λ (v : Vec (Box Expr Global) Global). told-Access-Call c.in-Call.field-0 c.in-Call.field-1 v) c.in-Call.arguments c.exprs.new.exprs _ c.args.access.now _ c.in-Call.is c.in-Call.arguments-is (search (rules, the_access.the_lemmas)) c.exprs.ensures.places

pub second_of_access-returns-in-Chain-clause-places : goal.second_of_access-returns-in-Chain-clause-places
second_of_access-returns-in-Chain-clause-places g t c = kept_list c.links.result g.V.Visitor.keeps told_access told_link (λ (v : Vec (Box Link Global) Global). access.Chain c.in-Chain.field-0 c.in-Chain.field-1 v) (λ us. told_node c.in-Chain.field-0 (told_expr c.in-Chain.field-1.value ∷ told_list us ∷ []))
    (λ (v : Vec (Box Link Global) Global). told-Access-Chain c.in-Chain.field-0 c.in-Chain.field-1 v) c.in-Chain.links c.links.new.links _ c.args.access.now _ c.in-Chain.is c.in-Chain.links-is (search (rules, the_access.the_lemmas)) c.links.ensures.places

pub second_of_access-returns-in-New-clause-places : goal.second_of_access-returns-in-New-clause-places
second_of_access-returns-in-New-clause-places g t c = kept_list c.exprs-in-New.result g.V.Visitor.keeps told_access told_expr (λ (v : Vec (Box Expr Global) Global). access.New c.in-New.field-0 c.in-New.field-1 v) (λ us. told_node c.in-New.field-0 (told_expr c.in-New.field-1.value ∷ told_list us ∷ []))
    (λ (v : Vec (Box Expr Global) Global). told-Access-New c.in-New.field-0 c.in-New.field-1 v) c.in-New.arguments c.exprs-in-New.new.exprs _ c.args.access.now _ c.in-New.is c.in-New.arguments-is (search (rules, the_access.the_lemmas)) c.exprs-in-New.ensures.places

pub second_of_control-returns-in-Case-clause-places : goal.second_of_control-returns-in-Case-clause-places
second_of_control-returns-in-Case-clause-places g t c = kept_list c.stmts.result g.V.Visitor.keeps told_control told_stmt (λ (v : Vec (Box Stmt Global) Global). control.Case c.in-Case.field-0 c.in-Case.field-1 v) (λ us. told_node c.in-Case.field-0 (led_by told_expr c.in-Case.field-1 (told_list us ∷ [])))
    (λ (v : Vec (Box Stmt Global) Global). told-Control-Case c.in-Case.field-0 c.in-Case.field-1 v) c.in-Case.body c.stmts.new.stmts _ c.args.control.now _ c.in-Case.is c.in-Case.body-is (search (rules, the_control.the_lemmas)) c.stmts.ensures.places

pub second_of_control-returns-in-Switch-clause-places : goal.second_of_control-returns-in-Switch-clause-places
second_of_control-returns-in-Switch-clause-places g t c = kept_list c.controls.result g.V.Visitor.keeps told_control told_control (λ (v : Vec (Box Control Global) Global). control.Switch c.in-Switch.field-0 c.in-Switch.field-1 v) (λ us. told_node c.in-Switch.field-0 (told_expr c.in-Switch.field-1.value ∷ told_list us ∷ []))
    (λ (v : Vec (Box Control Global) Global). told-Control-Switch c.in-Switch.field-0 c.in-Switch.field-1 v) c.in-Switch.clauses c.controls.new.controls _ c.args.control.now _ c.in-Switch.is c.in-Switch.clauses-is (search (rules, the_control.the_lemmas)) c.controls.ensures.places

pub second_of_expr-returns-in-Function-clause-places : goal.second_of_expr-returns-in-Function-clause-places
second_of_expr-returns-in-Function-clause-places g t c = kept_list c.patterns.result g.V.Visitor.keeps told_expr told_pat (λ (v : Vec (Box Pat Global) Global). expr.Function c.in-Function.field-0 c.in-Function.field-1 v c.in-Function.field-3 c.in-Function.field-4) (λ us. told_node c.in-Function.field-0 (told_optional told_ident c.in-Function.field-1 ∷ told_list us ∷ told_body c.in-Function.field-3.items (map (inside told_stmt) c.in-Function.field-4.items) ∷ []))
    (λ (v : Vec (Box Pat Global) Global). told-Expr-Function c.in-Function.field-0 c.in-Function.field-1 v c.in-Function.field-3 c.in-Function.field-4) c.in-Function.parameters c.patterns.new.patterns _ c.args.expr.now _ c.in-Function.is c.in-Function.parameters-is (search (rules, the_expr.the_lemmas)) c.patterns.ensures.places

pub second_of_member-returns-in-Getter-clause-places : goal.second_of_member-returns-in-Getter-clause-places
second_of_member-returns-in-Getter-clause-places g t c = kept_list c.stmts.result g.V.Visitor.keeps told_prop told_stmt (λ (v : Vec (Box Stmt Global) Global). prop.Getter c.in-Getter.field-0 c.in-Getter.field-1 c.in-Getter.field-2 c.in-Getter.field-3 v) (λ us. told_node c.in-Getter.field-0 (told_key c.in-Getter.field-2 ∷ told_body c.in-Getter.field-3.items us ∷ []))
    (λ (v : Vec (Box Stmt Global) Global). told-Prop-Getter c.in-Getter.field-0 c.in-Getter.field-1 c.in-Getter.field-2 c.in-Getter.field-3 v) c.in-Getter.body c.stmts.new.stmts _ c.args.member.now _ c.in-Getter.is c.in-Getter.body-is (search (rules, the_member.the_lemmas)) c.stmts.ensures.places

pub second_of_member-returns-in-Method-clause-places : goal.second_of_member-returns-in-Method-clause-places
second_of_member-returns-in-Method-clause-places g t c = kept_list c.patterns.result g.V.Visitor.keeps told_prop told_pat (λ (v : Vec (Box Pat Global) Global). prop.Method c.in-Method.field-0 c.in-Method.field-1 c.in-Method.field-2 v c.in-Method.field-4 c.in-Method.field-5) (λ us. told_node c.in-Method.field-0 (told_key c.in-Method.field-2 ∷ told_list us ∷ told_body c.in-Method.field-4.items (map (inside told_stmt) c.in-Method.field-5.items) ∷ []))
    (λ (v : Vec (Box Pat Global) Global). told-Prop-Method c.in-Method.field-0 c.in-Method.field-1 c.in-Method.field-2 v c.in-Method.field-4 c.in-Method.field-5) c.in-Method.parameters c.patterns.new.patterns _ c.args.member.now _ c.in-Method.is c.in-Method.parameters-is (search (rules, the_member.the_lemmas)) c.patterns.ensures.places

pub second_of_operation-returns-in-ArrowBlock-clause-places : goal.second_of_operation-returns-in-ArrowBlock-clause-places
second_of_operation-returns-in-ArrowBlock-clause-places g t c = kept_list c.stmts.result g.V.Visitor.keeps told_operation told_stmt (λ (v : Vec (Box Stmt Global) Global). operation.ArrowBlock c.in-ArrowBlock.field-0 c.in-ArrowBlock.field-1 c.in-ArrowBlock.field-2 v) (λ us. told_node c.in-ArrowBlock.field-0 (told_list (map (inside told_pat) c.in-ArrowBlock.field-1.items) ∷ told_body c.in-ArrowBlock.field-2.items us ∷ []))
    (λ (v : Vec (Box Stmt Global) Global). told-Operation-ArrowBlock c.in-ArrowBlock.field-0 c.in-ArrowBlock.field-1 c.in-ArrowBlock.field-2 v) c.in-ArrowBlock.body c.stmts.new.stmts _ c.args.operation.now _ c.in-ArrowBlock.is c.in-ArrowBlock.body-is (search (rules, the_operation.the_lemmas)) c.stmts.ensures.places

pub second_of_operation-returns-in-BareArrowBlock-clause-places : goal.second_of_operation-returns-in-BareArrowBlock-clause-places
second_of_operation-returns-in-BareArrowBlock-clause-places g t c = kept_list c.stmts-in-BareArrowBlock.result g.V.Visitor.keeps told_operation told_stmt (λ (v : Vec (Box Stmt Global) Global). operation.BareArrowBlock c.in-BareArrowBlock.field-0 c.in-BareArrowBlock.field-1 c.in-BareArrowBlock.field-2 v) (λ us. told_node c.in-BareArrowBlock.field-0 (told_text c.in-BareArrowBlock.field-1.text ∷ told_body c.in-BareArrowBlock.field-2.items us ∷ []))
    (λ (v : Vec (Box Stmt Global) Global). told-Operation-BareArrowBlock c.in-BareArrowBlock.field-0 c.in-BareArrowBlock.field-1 c.in-BareArrowBlock.field-2 v) c.in-BareArrowBlock.body c.stmts-in-BareArrowBlock.new.stmts _ c.args.operation.now _ c.in-BareArrowBlock.is c.in-BareArrowBlock.body-is (search (rules, the_operation.the_lemmas)) c.stmts-in-BareArrowBlock.ensures.places

pub second_of_stmt-returns-in-Function-clause-places : goal.second_of_stmt-returns-in-Function-clause-places
second_of_stmt-returns-in-Function-clause-places g t c = kept_list c.patterns.result g.V.Visitor.keeps told_stmt told_pat (λ (v : Vec (Box Pat Global) Global). stmt.Function c.in-Function.field-0 c.in-Function.field-1 v c.in-Function.field-3 c.in-Function.field-4) (λ us. told_node c.in-Function.field-0 (told_text c.in-Function.field-1.text ∷ told_list us ∷ told_body c.in-Function.field-3.items (map (inside told_stmt) c.in-Function.field-4.items) ∷ []))
    (λ (v : Vec (Box Pat Global) Global). told-Stmt-Function c.in-Function.field-0 c.in-Function.field-1 v c.in-Function.field-3 c.in-Function.field-4) c.in-Function.parameters c.patterns.new.patterns _ c.args.stmt.now _ c.in-Function.is c.in-Function.parameters-is (search (rules, the_stmt.the_lemmas)) c.patterns.ensures.places

pub third_of_expr-returns-in-Class-clause-places : goal.third_of_expr-returns-in-Class-clause-places
third_of_expr-returns-in-Class-clause-places g t c = kept_list c.members.result g.V.Visitor.keeps told_expr told_prop (λ (v : Vec (Box Prop Global) Global). expr.Class c.in-Class.field-0 c.in-Class.field-1 c.in-Class.field-2 v) (λ us. told_node c.in-Class.field-0 (told_optional told_ident c.in-Class.field-1 ∷ told_optional told_expr c.in-Class.field-2 ∷ told_list us ∷ []))
    (λ (v : Vec (Box Prop Global) Global). told-Expr-Class c.in-Class.field-0 c.in-Class.field-1 c.in-Class.field-2 v) c.in-Class.members c.members.new.members _ c.args.expr.now _ c.in-Class.is c.in-Class.members-is (search (rules, the_expr.the_lemmas)) c.members.ensures.places

pub third_of_expr-returns-in-Function-clause-places : goal.third_of_expr-returns-in-Function-clause-places
third_of_expr-returns-in-Function-clause-places g t c = kept_list c.stmts.result g.V.Visitor.keeps told_expr told_stmt (λ (v : Vec (Box Stmt Global) Global). expr.Function c.in-Function.field-0 c.in-Function.field-1 c.in-Function.field-2 c.in-Function.field-3 v) (λ us. told_node c.in-Function.field-0 (told_optional told_ident c.in-Function.field-1 ∷ told_list (map (inside told_pat) c.in-Function.field-2.items) ∷ told_body c.in-Function.field-3.items us ∷ []))
    (λ (v : Vec (Box Stmt Global) Global). told-Expr-Function c.in-Function.field-0 c.in-Function.field-1 c.in-Function.field-2 c.in-Function.field-3 v) c.in-Function.body c.stmts.new.stmts _ c.args.expr.now _ c.in-Function.is c.in-Function.body-is (search (rules, the_expr.the_lemmas)) c.stmts.ensures.places

pub third_of_member-returns-in-Method-clause-places : goal.third_of_member-returns-in-Method-clause-places
third_of_member-returns-in-Method-clause-places g t c = kept_list c.stmts.result g.V.Visitor.keeps told_prop told_stmt (λ (v : Vec (Box Stmt Global) Global). prop.Method c.in-Method.field-0 c.in-Method.field-1 c.in-Method.field-2 c.in-Method.field-3 c.in-Method.field-4 v) (λ us. told_node c.in-Method.field-0 (told_key c.in-Method.field-2 ∷ told_list (map (inside told_pat) c.in-Method.field-3.items) ∷ told_body c.in-Method.field-4.items us ∷ []))
    (λ (v : Vec (Box Stmt Global) Global). told-Prop-Method c.in-Method.field-0 c.in-Method.field-1 c.in-Method.field-2 c.in-Method.field-3 c.in-Method.field-4 v) c.in-Method.body c.stmts.new.stmts _ c.args.member.now _ c.in-Method.is c.in-Method.body-is (search (rules, the_member.the_lemmas)) c.stmts.ensures.places

pub third_of_member-returns-in-Setter-clause-places : goal.third_of_member-returns-in-Setter-clause-places
third_of_member-returns-in-Setter-clause-places g t c = kept_list c.stmts-in-Setter.result g.V.Visitor.keeps told_prop told_stmt (λ (v : Vec (Box Stmt Global) Global). prop.Setter c.in-Setter.field-0 c.in-Setter.field-1 c.in-Setter.field-2 c.in-Setter.field-3 c.in-Setter.field-4 v) (λ us. told_node c.in-Setter.field-0 (told_key c.in-Setter.field-2 ∷ told_pat c.in-Setter.field-3.value ∷ told_body c.in-Setter.field-4.items us ∷ []))
    (λ (v : Vec (Box Stmt Global) Global). told-Prop-Setter c.in-Setter.field-0 c.in-Setter.field-1 c.in-Setter.field-2 c.in-Setter.field-3 c.in-Setter.field-4 v) c.in-Setter.body c.stmts-in-Setter.new.stmts _ c.args.member.now _ c.in-Setter.is c.in-Setter.body-is (search (rules, the_member.the_lemmas)) c.stmts-in-Setter.ensures.places

pub third_of_stmt-returns-in-Class-clause-places : goal.third_of_stmt-returns-in-Class-clause-places
third_of_stmt-returns-in-Class-clause-places g t c = kept_list c.members.result g.V.Visitor.keeps told_stmt told_prop (λ (v : Vec (Box Prop Global) Global). stmt.Class c.in-Class.field-0 c.in-Class.field-1 c.in-Class.field-2 v) (λ us. told_node c.in-Class.field-0 (told_text c.in-Class.field-1.text ∷ told_optional told_expr c.in-Class.field-2 ∷ told_list us ∷ []))
    (λ (v : Vec (Box Prop Global) Global). told-Stmt-Class c.in-Class.field-0 c.in-Class.field-1 c.in-Class.field-2 v) c.in-Class.members c.members.new.members _ c.args.stmt.now _ c.in-Class.is c.in-Class.members-is (search (rules, the_stmt.the_lemmas)) c.members.ensures.places

pub third_of_stmt-returns-in-Function-clause-places : goal.third_of_stmt-returns-in-Function-clause-places
third_of_stmt-returns-in-Function-clause-places g t c = kept_list c.stmts.result g.V.Visitor.keeps told_stmt told_stmt (λ (v : Vec (Box Stmt Global) Global). stmt.Function c.in-Function.field-0 c.in-Function.field-1 c.in-Function.field-2 c.in-Function.field-3 v) (λ us. told_node c.in-Function.field-0 (told_text c.in-Function.field-1.text ∷ told_list (map (inside told_pat) c.in-Function.field-2.items) ∷ told_body c.in-Function.field-3.items us ∷ []))
    (λ (v : Vec (Box Stmt Global) Global). told-Stmt-Function c.in-Function.field-0 c.in-Function.field-1 c.in-Function.field-2 c.in-Function.field-3 v) c.in-Function.body c.stmts.new.stmts _ c.args.stmt.now _ c.in-Function.is c.in-Function.body-is (search (rules, the_stmt.the_lemmas)) c.stmts.ensures.places
