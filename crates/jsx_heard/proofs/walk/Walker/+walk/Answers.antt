use Rattle.jsx_heard.proofs.Anywhere.{expr_anywhere, expr_unnamed}
use Rattle.jsx_heard.proofs.Evals.{called_by}
use Rattle.jsx_heard.proofs.Hearing.{as_said, both_said, class_more, four_said, object_more, patterns_more, pushed, said_all, said_more, then_said, three_said}
use Rattle.jsx_heard.proofs.Outcomes.{at_both, at_each, at_three, at_two, enclosed}
use Rattle.jsx_heard.proofs.SaidControls.{clause_met, control_met, controls_met, each_same, loop_met, said-Control-Case, said-Control-Catch, said-Control-For, said-Control-ForIn, said-Control-ForOf, said-Control-Switch}
use Rattle.jsx_heard.proofs.SaidJsx.{element_met, expr_met, jsx_met, jsx_next, jsxs_met, optional_jsx_met, said-Jsx-Attribute, said-Jsx-Container, said-Jsx-Element, said-Jsx-ElementWithChildren, said-Jsx-Fragment, said-Jsx-Spread, some_jsx, tag_met}
use Rattle.jsx_heard.proofs.SaidMembers.{class_at, class_said, default_class_said, function_at, function_said, key_met, members, optional_met, own_met, said-Expr-Class, said-Expr-Function, said-Prop-Field, said-Prop-Getter, said-Prop-Method, said-Prop-Setter, setter_met}
use Rattle.jsx_heard.proofs.SaidPatterns.{items_met, pattern_met, properties_met, property_met, property_naming, said-Pat-Array, said-Pat-Binding, said-Pat-Declaration, said-Pat-Object, said-Pat-Pair, said-Pat-Shorthand, said-Pat-WithInit}
use Rattle.jsx_heard.proofs.SaidStatements.{block_met, caught-Stmt-Block, caught_met, caught_other, name_met, patterns_met, said-Stmt-Block, said-Stmt-Class, said-Stmt-Control, said-Stmt-Function, said-Stmt-Var, statement_met}
use Rattle.jsx_heard.proofs.SaidValues.{code_met, links, object_members, parameter, parameters, said-Access-Call, said-Access-Chain, said-Access-Index, said-Access-New, said-Access-SuperCall, said-Access-Tagged, said-Expr-Array, said-Expr-Jsx, said-Expr-Object, said-Expr-Paren, said-Expr-Template, said-Link-Call, said-Operation-Arrow, said-Operation-ArrowBlock, said-Operation-BareArrowBlock, said-Operation-Binary, said-Operation-Cond, said-Operation-Seq, statements, template_met, templated, value, values}
use Rattle.jsx_heard.proofs.Templates.{template_all, template_some}
use Rattle.jsx_heard.specs.Code.{exporting, mode_of, role_of, way_of}
use Rattle.jsx_heard.specs.Said.{Elsewhere, Idents, Unnamed, met_all, of_value, said}
use Rattle.jsx_names.specs.Code.{sort_of}
use Rattle.jsx_names.specs.Events.{OfFunction, OfName, Plain}
use Rattle.jsx_tree.proofs.Views.{ap_2}
use Rattle.jsx_tree.specs.Scopes.{AsFunction, AsLexical}
use Rattle.jsx_tree.specs.Told.{told_access, told_control, told_expr, told_jsx, told_link, told_operation, told_optional, told_prop, told_stmt}
use Rattle.jsx_tree.specs.View.{OfClass, OfObject, inside, optional_of, view_access, view_control, view_expr, view_jsx, view_link, view_member, view_operation, view_stmt}
use Rattle.std.proofs.Common.{[], ap, append-nil, arith, false, length, refl, sym, take, true, ◌++◌, ◌-◌, ◌∙◌, ◌≡◌}
use Rattle.jsx_names.specs.declared.event.Event.TheVariants as event
use Rattle.jsx_names.specs.Events as events
use Rattle.jsx_names.specs.declared.event.Frame.TheVariants as frame
use Rattle.jsx_heard.proofs.walk.Walker.+walk.Goals as goal

pub exprs-loop-expr-preserved : goal.exprs-loop-expr-preserved
exprs-loop-expr-preserved t c = record { so = said_more Plain Idents Elsewhere (inside view_expr) (inside told_expr) c.args.exprs.now c.loop-expr.expr-index c.expr-item.result _ _ _ c.loop-expr-test.true c.expr-item.is c.loop-expr.invariant.so (c.in_ok-expr.ensures ∙ ap (λ x. met_all c.loop-expr.events.items ++ value x) c.deref.ensures) }

pub links-loop-link-preserved : goal.links-loop-link-preserved
links-loop-link-preserved t c = record { so = said_more Plain Unnamed Elsewhere (inside view_link) (inside told_link) c.args.links.now c.loop-link.link-index c.link-item.result _ _ _ c.loop-link-test.true c.link-item.is c.loop-link.invariant.so (c.in_ok-link.ensures ∙ ap (λ x. met_all c.loop-link.events.items ++ said Plain Unnamed Elsewhere (view_link x) (told_link x)) c.deref.ensures) }

pub members-loop-member-preserved : goal.members-loop-member-preserved
members-loop-member-preserved t c = record {
  of_object = object_more Plain Unnamed Elsewhere c.args.members.now c.loop-member.member-index c.member-item.result _ _ _ c.loop-member-test.true c.member-item.is c.loop-member.invariant.of_object (c.in_ok-member.ensures.of_object ∙ ap (λ x. met_all c.loop-member.events.items ++ said Plain Unnamed Elsewhere (view_member x OfObject) (told_prop x)) c.deref.ensures);
  of_class = class_more Plain Unnamed Elsewhere c.args.members.now c.loop-member.member-index c.member-item.result _ _ _ c.loop-member-test.true c.member-item.is c.loop-member.invariant.of_class (c.in_ok-member.ensures.of_class ∙ ap (λ x. met_all c.loop-member.events.items ++ said Plain Unnamed Elsewhere (view_member x OfClass) (told_prop x)) c.deref.ensures);
}

pub template-returns-then-parts-pieces : goal.template-returns-then-parts-pieces
template-returns-then-parts-pieces t c = templated c.exprs.result (met_all c.args.events.now.items) (met_all c.exprs.new.events.items) c.args.pieces.now c.args.parts.now c.args.parts.now (λ b at. template_all b at (inside view_expr) (inside told_expr) c.args.pieces.now c.args.parts.now c.if-parts-pieces.true) c.exprs.ensures

pub template-returns-else-parts-pieces : goal.template-returns-else-parts-pieces
template-returns-else-parts-pieces t c =
    let e : c.saturating_sub.result ≡ length c.args.pieces.now - 2 = omega (arith, c.saturating_sub.ensures) in
    templated c.exprs-else-parts-pieces.result (met_all c.args.events.now.items) (met_all c.exprs-else-parts-pieces.new.events.items) c.args.pieces.now c.args.parts.now (take c.saturating_sub.result c.args.parts.now)
    (λ b at. template_some b at (inside view_expr) (inside told_expr) c.args.pieces.now c.args.parts.now c.if-parts-pieces.false ∙ ap (λ n. values (take n c.args.parts.now)) (sym e)) c.exprs-else-parts-pieces.ensures

pub operation-returns-in-Seq : goal.operation-returns-in-Seq
operation-returns-in-Seq t c = as_said c.exprs.result _ _ _ _ (ap (λ o. of_value (view_operation o) (told_operation o)) c.in-Seq.is ∙ said-Operation-Seq c.in-Seq.field-0 c.in-Seq.items ∙ ap values (sym c.deref.ensures.value)) c.exprs.ensures

pub operation-returns-in-Arrow : goal.operation-returns-in-Arrow
operation-returns-in-Arrow t c = as_said c.arrow.result _ _ _ _ (ap (λ o. of_value (view_operation o) (told_operation o)) c.in-Arrow.is ∙ said-Operation-Arrow c.in-Arrow.field-0 c.in-Arrow.parameters c.in-Arrow.value ∙ ap (λ ps. code_met (parameters ps) (value c.in-Arrow.value.value)) (sym c.deref-in-Arrow.ensures.value) ∙ ap (λ x. code_met (parameters c.deref-in-Arrow.result.now) (value x)) (sym c.deref-in-Arrow-2.ensures)) c.arrow.ensures

pub operation-returns-in-ArrowBlock : goal.operation-returns-in-ArrowBlock
operation-returns-in-ArrowBlock t c = as_said c.code.result _ _ _ _ (ap (λ o. of_value (view_operation o) (told_operation o)) c.in-ArrowBlock.is ∙ said-Operation-ArrowBlock c.in-ArrowBlock.field-0 c.in-ArrowBlock.parameters c.in-ArrowBlock.field-2 c.in-ArrowBlock.body ∙ ap (λ ps. code_met (parameters ps) (statements c.in-ArrowBlock.body.items)) (sym c.deref-in-ArrowBlock.ensures.value) ∙ ap (λ x. code_met (parameters c.deref-in-ArrowBlock.result.now) (statements x)) (sym c.deref-in-ArrowBlock-2.ensures.value)) c.code.ensures

pub operation-returns-in-BareArrowBlock : goal.operation-returns-in-BareArrowBlock
operation-returns-in-BareArrowBlock t c = as_said c.bare_code.result _ _ _ _ (ap (λ o. of_value (view_operation o) (told_operation o)) c.in-BareArrowBlock.is ∙ said-Operation-BareArrowBlock c.in-BareArrowBlock.field-0 c.in-BareArrowBlock.parameter c.in-BareArrowBlock.field-2 c.in-BareArrowBlock.body ∙ ap (λ x. code_met (parameter c.in-BareArrowBlock.parameter) (statements x)) (sym c.deref-in-BareArrowBlock.ensures.value)) c.bare_code.ensures

pub operation-returns-in_ok-expr-in-Cond-2 : goal.operation-returns-in_ok-expr-in-Cond-2
operation-returns-in_ok-expr-in-Cond-2 t c = three_said c.expr-in-Cond-2.result _ _ _ _ _ _ _ _ (ap (λ o. of_value (view_operation o) (told_operation o)) c.in-Cond.is ∙ said-Operation-Cond c.in-Cond.field-0 c.in-Cond.test c.in-Cond.then c.in-Cond.other ∙ at_three value value value c.deref-in-Cond.ensures c.deref-in-Cond-2.ensures c.deref-in-Cond-3.ensures) c.in_ok-expr-in-Cond.ensures c.in_ok-expr-in-Cond-2.ensures c.expr-in-Cond-2.ensures

pub operation-returns-in_ok-expr-in-Binary : goal.operation-returns-in_ok-expr-in-Binary
operation-returns-in_ok-expr-in-Binary t c = then_said c.expr-in-Binary-2.result _ _ _ _ _ _ (ap (λ o. of_value (view_operation o) (told_operation o)) c.in-Binary.is ∙ said-Operation-Binary c.in-Binary.field-0 c.in-Binary.field-1 c.in-Binary.left c.in-Binary.right ∙ at_two value value c.deref-in-Binary.ensures c.deref-in-Binary-2.ensures) c.in_ok-expr-in-Binary.ensures c.expr-in-Binary-2.ensures

pub access-returns-in_ok-expr-in-Call : goal.access-returns-in_ok-expr-in-Call
access-returns-in_ok-expr-in-Call t c = three_said c.exprs.result _ _ _ _ _ _ _ _ (ap (λ a. of_value (view_access a) (told_access a)) c.in-Call.is ∙ said-Access-Call c.in-Call.field-0 c.in-Call.callee c.in-Call.arguments ∙ at_three called_by value values c.deref.ensures c.deref-in-Call.ensures c.deref-in-Call-2.ensures.value) c.in_ok-eval-in-Call.ensures c.in_ok-expr-in-Call.ensures c.exprs.ensures

pub access-returns-in_ok-expr-in-Index : goal.access-returns-in_ok-expr-in-Index
access-returns-in_ok-expr-in-Index t c = then_said c.expr-in-Index-2.result _ _ _ _ _ _ (ap (λ a. of_value (view_access a) (told_access a)) c.in-Index.is ∙ said-Access-Index c.in-Index.field-0 c.in-Index.object c.in-Index.index ∙ at_two value value c.deref-in-Index.ensures c.deref-in-Index-2.ensures) c.in_ok-expr-in-Index.ensures c.expr-in-Index-2.ensures

pub access-returns-in_ok-expr-in-New : goal.access-returns-in_ok-expr-in-New
access-returns-in_ok-expr-in-New t c = then_said c.exprs-in-New.result _ _ _ _ _ _ (ap (λ a. of_value (view_access a) (told_access a)) c.in-New.is ∙ said-Access-New c.in-New.field-0 c.in-New.object c.in-New.arguments ∙ at_two value values c.deref-in-New.ensures c.deref-in-New-2.ensures.value) c.in_ok-expr-in-New.ensures c.exprs-in-New.ensures

pub access-returns-in_ok-expr-in-Tagged : goal.access-returns-in_ok-expr-in-Tagged
access-returns-in_ok-expr-in-Tagged t c = then_said c.template.result _ _ _ _ _ _
    (ap (λ a. of_value (view_access a) (told_access a)) c.in-Tagged.is ∙ said-Access-Tagged c.in-Tagged.field-0 c.in-Tagged.tag c.in-Tagged.field-2 c.in-Tagged.pieces c.in-Tagged.parts
    ∙ ap_2 (λ ps xs. value c.in-Tagged.tag.value ++ template_met true c.in-Tagged.field-2 ps xs) (sym c.deref-in-Tagged-2.ensures.value) (sym c.deref-in-Tagged-3.ensures.value)
    ∙ ap (λ x. value x ++ template_met true c.in-Tagged.field-2 c.deref-in-Tagged-2.result.now c.deref-in-Tagged-3.result.now) (sym c.deref-in-Tagged.ensures))
    c.in_ok-expr-in-Tagged.ensures
    (at_both (λ b at. met_all c.template.new.events.items ≡ met_all c.expr-in-Tagged.new.events.items ++ template_met b at c.deref-in-Tagged-2.result.now c.deref-in-Tagged-3.result.now) c.template.result true c.in-Tagged.field-2 c.template.ensures)

pub access-returns-in-SuperCall : goal.access-returns-in-SuperCall
access-returns-in-SuperCall t c = as_said c.exprs-in-SuperCall.result _ _ _ _ (ap (λ a. of_value (view_access a) (told_access a)) c.in-SuperCall.is ∙ said-Access-SuperCall c.in-SuperCall.field-0 c.in-SuperCall.arguments ∙ ap values (sym c.deref-in-SuperCall.ensures.value)) c.exprs-in-SuperCall.ensures

pub access-returns-in_ok-expr-in-Chain : goal.access-returns-in_ok-expr-in-Chain
access-returns-in_ok-expr-in-Chain t c = then_said c.links.result _ _ _ _ _ _ (ap (λ a. of_value (view_access a) (told_access a)) c.in-Chain.is ∙ said-Access-Chain c.in-Chain.field-0 c.in-Chain.object c.in-Chain.links ∙ at_two value links c.deref-in-Chain.ensures c.deref-in-Chain-2.ensures.value) c.in_ok-expr-in-Chain.ensures c.links.ensures

pub link-returns-in-Call : goal.link-returns-in-Call
link-returns-in-Call t c = as_said c.exprs.result _ _ _ _ (ap (λ l. said Plain Unnamed Elsewhere (view_link l) (told_link l)) c.in-Call.is ∙ said-Link-Call c.in-Call.field-0 c.in-Call.field-1 c.in-Call.arguments ∙ ap values (sym c.deref-in-Call.ensures.value)) c.exprs.ensures

pub member-returns-in_ok-key-in-Method-clause-of_object : goal.member-returns-in_ok-key-in-Method-clause-of_object
member-returns-in_ok-key-in-Method-clause-of_object t c = then_said c.code.result _ _ _ _ _ _ (ap (λ m. said Plain Unnamed Elsewhere (view_member m OfObject) (told_prop m)) c.in-Method.is ∙ said-Prop-Method c.in-Method.field-0 c.in-Method.field-1 c.in-Method.key c.in-Method.parameters c.in-Method.field-4 c.in-Method.body OfObject ∙ ap_2 (λ ps ss. key_met c.in-Method.key ++ code_met (parameters ps) (statements ss)) (sym c.deref-in-Method.ensures.value) (sym c.deref-in-Method-2.ensures.value)) c.in_ok-key-in-Method.ensures c.code.ensures

pub member-returns-in_ok-key-in-Getter-clause-of_object : goal.member-returns-in_ok-key-in-Getter-clause-of_object
member-returns-in_ok-key-in-Getter-clause-of_object t c = then_said c.getter.result _ _ _ _ _ _ (ap (λ m. said Plain Unnamed Elsewhere (view_member m OfObject) (told_prop m)) c.in-Getter.is ∙ said-Prop-Getter c.in-Getter.field-0 c.in-Getter.field-1 c.in-Getter.key c.in-Getter.field-3 c.in-Getter.body OfObject ∙ ap (λ ss. key_met c.in-Getter.key ++ code_met [] (statements ss)) (sym c.deref-in-Getter.ensures.value)) c.in_ok-key-in-Getter.ensures c.getter.ensures

pub member-returns-in_ok-key-in-Setter-clause-of_object : goal.member-returns-in_ok-key-in-Setter-clause-of_object
member-returns-in_ok-key-in-Setter-clause-of_object t c = then_said c.setter.result _ _ _ _ _ _ (ap (λ m. said Plain Unnamed Elsewhere (view_member m OfObject) (told_prop m)) c.in-Setter.is ∙ said-Prop-Setter c.in-Setter.field-0 c.in-Setter.field-1 c.in-Setter.key c.in-Setter.parameter c.in-Setter.field-4 c.in-Setter.body OfObject ∙ ap_2 (λ q ss. key_met c.in-Setter.key ++ code_met (setter_met q) (statements ss)) (sym c.deref-in-Setter.ensures) (sym c.deref-in-Setter-2.ensures.value)) c.in_ok-key-in-Setter.ensures c.setter.ensures

pub member-returns-in_ok-key-in-Field-clause-of_object : goal.member-returns-in_ok-key-in-Field-clause-of_object
member-returns-in_ok-key-in-Field-clause-of_object t c = then_said c.optional.result _ _ _ _ _ _ (ap (λ m. said Plain Unnamed Elsewhere (view_member m OfObject) (told_prop m)) c.in-Field.is ∙ said-Prop-Field c.in-Field.field-0 c.in-Field.field-1 c.in-Field.key c.in-Field.value OfObject) c.in_ok-key-in-Field.ensures c.optional.ensures

pub member-returns-in_ok-key-in-Method-clause-of_class : goal.member-returns-in_ok-key-in-Method-clause-of_class
member-returns-in_ok-key-in-Method-clause-of_class t c = then_said c.code.result _ _ _ _ _ _ (ap (λ m. said Plain Unnamed Elsewhere (view_member m OfClass) (told_prop m)) c.in-Method.is ∙ said-Prop-Method c.in-Method.field-0 c.in-Method.field-1 c.in-Method.key c.in-Method.parameters c.in-Method.field-4 c.in-Method.body OfClass ∙ ap_2 (λ ps ss. key_met c.in-Method.key ++ code_met (parameters ps) (statements ss)) (sym c.deref-in-Method.ensures.value) (sym c.deref-in-Method-2.ensures.value)) c.in_ok-key-in-Method.ensures c.code.ensures

pub member-returns-in_ok-key-in-Getter-clause-of_class : goal.member-returns-in_ok-key-in-Getter-clause-of_class
member-returns-in_ok-key-in-Getter-clause-of_class t c = then_said c.getter.result _ _ _ _ _ _ (ap (λ m. said Plain Unnamed Elsewhere (view_member m OfClass) (told_prop m)) c.in-Getter.is ∙ said-Prop-Getter c.in-Getter.field-0 c.in-Getter.field-1 c.in-Getter.key c.in-Getter.field-3 c.in-Getter.body OfClass ∙ ap (λ ss. key_met c.in-Getter.key ++ code_met [] (statements ss)) (sym c.deref-in-Getter.ensures.value)) c.in_ok-key-in-Getter.ensures c.getter.ensures

pub member-returns-in_ok-key-in-Setter-clause-of_class : goal.member-returns-in_ok-key-in-Setter-clause-of_class
member-returns-in_ok-key-in-Setter-clause-of_class t c = then_said c.setter.result _ _ _ _ _ _ (ap (λ m. said Plain Unnamed Elsewhere (view_member m OfClass) (told_prop m)) c.in-Setter.is ∙ said-Prop-Setter c.in-Setter.field-0 c.in-Setter.field-1 c.in-Setter.key c.in-Setter.parameter c.in-Setter.field-4 c.in-Setter.body OfClass ∙ ap_2 (λ q ss. key_met c.in-Setter.key ++ code_met (setter_met q) (statements ss)) (sym c.deref-in-Setter.ensures) (sym c.deref-in-Setter-2.ensures.value)) c.in_ok-key-in-Setter.ensures c.setter.ensures

pub member-returns-in_ok-key-in-Field-clause-of_class : goal.member-returns-in_ok-key-in-Field-clause-of_class
member-returns-in_ok-key-in-Field-clause-of_class t c = then_said c.optional.result _ _ _ _ _ _ (ap (λ m. said Plain Unnamed Elsewhere (view_member m OfClass) (told_prop m)) c.in-Field.is ∙ said-Prop-Field c.in-Field.field-0 c.in-Field.field-1 c.in-Field.key c.in-Field.value OfClass) c.in_ok-key-in-Field.ensures c.optional.ensures

pub function-returns : goal.function-returns
function-returns t c = λ ds at.
    enclosed OfName (met_all c.args.events.now.items) _ _ _ (own_met c.args.name.now ++ code_met (parameters c.args.parameters.now) (statements c.args.statements.now)) (pushed _ _ (event.Opens frame.OwnName) c.in_ok-push.ensures.items)
    (both_said _ _ _ (own_met c.args.name.now) (code_met (parameters c.args.parameters.now) (statements c.args.statements.now)) c.in_ok-own_name.ensures c.in_ok-code.ensures) (pushed _ _ event.Closes c.in_ok-push-2.ensures.items)
    ∙ ap (λ z. met_all c.args.events.now.items ++ z) (sym (function_said at c.args.name.now c.args.parameters.now ds c.args.statements.now))

pub class-returns : goal.class-returns
class-returns t c = λ at.
    enclosed OfName (met_all c.args.events.now.items) _ _ _ (own_met c.args.name.now ++ (optional_met c.args.parent.now ++ members c.args.members.now)) (pushed _ _ (event.Opens frame.OwnName) c.in_ok-push.ensures.items)
    (c.in_ok-named_class.ensures at ∙ ap (λ z. met_all c.push.new.self.items ++ z) (default_class_said at c.args.name.now c.args.parent.now c.args.members.now)) (pushed _ _ event.Closes c.in_ok-push-2.ensures.items)
    ∙ ap (λ z. met_all c.args.events.now.items ++ z) (sym (class_said at c.args.name.now c.args.parent.now c.args.members.now))

pub expr-returns-in-Array : goal.expr-returns-in-Array
expr-returns-in-Array t c = as_said c.exprs.result _ _ _ _ (ap value c.in-Array.is ∙ said-Expr-Array c.in-Array.field-0 c.in-Array.items ∙ ap values (sym c.deref.ensures.value)) c.exprs.ensures

pub expr-returns-in-Object : goal.expr-returns-in-Object
expr-returns-in-Object t c = as_said c.members.result _ _ _ _ (ap value c.in-Object.is ∙ said-Expr-Object c.in-Object.field-0 c.in-Object.members ∙ ap object_members (sym c.deref-in-Object.ensures.value)) c.members.ensures.of_object

pub expr-returns-in-Template : goal.expr-returns-in-Template
expr-returns-in-Template t c = as_said c.template.result _ _ _ _
    (ap value c.in-Template.is ∙ said-Expr-Template c.in-Template.field-0 c.in-Template.pieces c.in-Template.parts ∙ ap_2 (template_met false c.in-Template.field-0) (sym c.deref-in-Template.ensures.value) (sym c.deref-in-Template-2.ensures.value))
    (at_both (λ b at. met_all c.template.new.events.items ≡ met_all c.args.events.now.items ++ template_met b at c.deref-in-Template.result.now c.deref-in-Template-2.result.now) c.template.result false c.in-Template.field-0 c.template.ensures)

pub expr-returns-in-Function : goal.expr-returns-in-Function
expr-returns-in-Function t c = as_said c.function.result _ _ _ _
    (ap value c.in-Function.is ∙ said-Expr-Function c.in-Function.field-0 c.in-Function.name c.in-Function.parameters c.in-Function.field-3 c.in-Function.body ∙ ap_2 (λ ps ss. function_at c.in-Function.field-0 c.in-Function.name ps c.in-Function.field-3.items ss) (sym c.deref-in-Function.ensures.value) (sym c.deref-in-Function-2.ensures.value))
    (at_both (λ ds at. met_all c.function.new.events.items ≡ met_all c.args.events.now.items ++ function_at at c.in-Function.name c.deref-in-Function.result.now ds c.deref-in-Function-2.result.now) c.function.result c.in-Function.field-3.items c.in-Function.field-0 c.function.ensures)

pub expr-returns-in-Class : goal.expr-returns-in-Class
expr-returns-in-Class t c = as_said c.class.result _ _ _ _
    (ap value c.in-Class.is ∙ said-Expr-Class c.in-Class.field-0 c.in-Class.name c.in-Class.parent c.in-Class.members ∙ ap (class_at c.in-Class.field-0 c.in-Class.name c.in-Class.parent) (sym c.deref-in-Class.ensures.value))
    (at_each (λ at. met_all c.class.new.events.items ≡ met_all c.args.events.now.items ++ class_at at c.in-Class.name c.in-Class.parent c.deref-in-Class.result.now) c.class.result c.in-Class.field-0 c.class.ensures)

pub expr-returns-in-Jsx : goal.expr-returns-in-Jsx
expr-returns-in-Jsx t c = as_said c.jsx.result _ _ _ _ (ap value c.in-Jsx.is ∙ said-Expr-Jsx c.in-Jsx.jsx ∙ ap jsx_met (sym c.deref-in-Jsx.ensures)) c.jsx.ensures

pub expr-returns-in-Paren : goal.expr-returns-in-Paren
expr-returns-in-Paren t c = as_said c.expr.result _ _ _ _ (ap value c.in-Paren.is ∙ said-Expr-Paren c.in-Paren.field-0 c.in-Paren.expr ∙ ap value (sym c.deref-in-Paren.ensures)) c.expr.ensures

pub jsxs-loop-jsx-preserved : goal.jsxs-loop-jsx-preserved
jsxs-loop-jsx-preserved t c = record {
  so = said_more Plain Unnamed Elsewhere (inside view_jsx) (inside told_jsx) c.args.jsxs.now c.loop-jsx.jsx-index c.jsx-item.result (met_all c.args.events.now.items) (met_all c.loop-jsx.events.items) (met_all c.jsx.new.events.items) c.loop-jsx-test.true c.jsx-item.is c.loop-jsx.invariant.so
      (jsx_next c.jsx-item.result.value c.deref.result.now (met_all c.loop-jsx.events.items) (met_all c.jsx.new.events.items) c.deref.ensures c.in_ok-jsx.ensures);
}

pub jsxs-returns : goal.jsxs-returns
jsxs-returns t c = said_all Plain Unnamed Elsewhere (inside view_jsx) (inside told_jsx) c.args.jsxs.now c.loop-jsx.jsx-index (met_all c.args.events.now.items) (met_all c.loop-jsx.events.items) c.loop-jsx-test.false c.loop-jsx.invariant.so

pub jsx-returns-in-Fragment : goal.jsx-returns-in-Fragment
jsx-returns-in-Fragment t c = as_said c.jsxs-in-Fragment.result (met_all c.args.events.now.items) (met_all c.jsxs-in-Fragment.new.events.items) (jsxs_met c.deref-in-Fragment.result.now) (jsx_met c.args.jsx.now)
    (ap jsx_met c.in-Fragment.is ∙ (said-Jsx-Fragment c.in-Fragment.field-0 c.in-Fragment.children ∙ ap jsxs_met (sym c.deref-in-Fragment.ensures.value))) c.jsxs-in-Fragment.ensures

pub jsx-returns-in-Container : goal.jsx-returns-in-Container
jsx-returns-in-Container t c = as_said c.optional.result (met_all c.args.events.now.items) (met_all c.optional.new.events.items) (of_value (optional_of view_expr c.in-Container.expr) (told_optional told_expr c.in-Container.expr)) (jsx_met c.args.jsx.now)
    (ap jsx_met c.in-Container.is ∙ said-Jsx-Container c.in-Container.field-0 c.in-Container.expr) c.optional.ensures

pub jsx-returns-in-Spread : goal.jsx-returns-in-Spread
jsx-returns-in-Spread t c = as_said c.expr.result (met_all c.args.events.now.items) (met_all c.expr.new.events.items) (expr_met c.deref-in-Spread.result.now) (jsx_met c.args.jsx.now)
    (ap jsx_met c.in-Spread.is ∙ (said-Jsx-Spread c.in-Spread.field-0 c.in-Spread.expr ∙ ap expr_met (sym c.deref-in-Spread.ensures))) c.expr.ensures

pub jsx-returns-in-Attribute : goal.jsx-returns-in-Attribute
jsx-returns-in-Attribute t c = as_said c.optional_jsx.result (met_all c.args.events.now.items) (met_all c.optional_jsx.new.events.items) (optional_jsx_met c.in-Attribute.value) (jsx_met c.args.jsx.now)
    (ap jsx_met c.in-Attribute.is ∙ said-Jsx-Attribute c.in-Attribute.field-0 c.in-Attribute.field-1 c.in-Attribute.value) c.optional_jsx.ensures

pub optional_jsx-returns-in-Some : goal.optional_jsx-returns-in-Some
optional_jsx-returns-in-Some t c = as_said c.jsx.result (met_all c.args.events.now.items) (met_all c.jsx.new.events.items) (jsx_met c.deref.result.now) (optional_jsx_met c.args.jsx.now)
    (ap optional_jsx_met c.in-Some.is ∙ (some_jsx c.in-Some.jsx ∙ ap jsx_met (sym c.deref.ensures))) c.jsx.ensures

pub optional_jsx-returns-in-None : goal.optional_jsx-returns-in-None
optional_jsx-returns-in-None t c = sym (append-nil (met_all c.args.events.now.items)) ∙ ap (λ j. met_all c.args.events.now.items ++ optional_jsx_met j) (sym c.in-None.is)

pub jsx-returns-in_ok-tag-in-Element : goal.jsx-returns-in_ok-tag-in-Element
jsx-returns-in_ok-tag-in-Element t c = then_said c.jsxs.result (met_all c.args.events.now.items) (met_all c.tag.new.events.items) (met_all c.jsxs.new.events.items) (tag_met c.in-Element.name) (jsxs_met c.deref.result.now) (jsx_met c.args.jsx.now)
    (ap jsx_met c.in-Element.is ∙ (said-Jsx-Element c.in-Element.field-0 c.in-Element.name c.in-Element.attributes ∙ ap (λ xs. tag_met c.in-Element.name ++ jsxs_met xs) (sym c.deref.ensures.value))) c.in_ok-tag-in-Element.ensures c.jsxs.ensures

pub jsx-returns-in_ok-jsxs-in-ElementWithChildren-2 : goal.jsx-returns-in_ok-jsxs-in-ElementWithChildren-2
jsx-returns-in_ok-jsxs-in-ElementWithChildren-2 t c = four_said c.tag-in-ElementWithChildren-2.result (met_all c.args.events.now.items) (met_all c.tag-in-ElementWithChildren.new.events.items) (met_all c.jsxs-in-ElementWithChildren.new.events.items) (met_all c.jsxs-in-ElementWithChildren-2.new.events.items) (met_all c.tag-in-ElementWithChildren-2.new.events.items)
    (tag_met c.in-ElementWithChildren.name) (jsxs_met c.deref-in-ElementWithChildren.result.now) (jsxs_met c.deref-in-ElementWithChildren-2.result.now) (tag_met c.deref-in-ElementWithChildren-3.result.now) (jsx_met c.args.jsx.now)
    (ap jsx_met c.in-ElementWithChildren.is
    ∙ (said-Jsx-ElementWithChildren c.in-ElementWithChildren.field-0 c.in-ElementWithChildren.name c.in-ElementWithChildren.attributes c.in-ElementWithChildren.children c.in-ElementWithChildren.closing
    ∙ element_met c.in-ElementWithChildren.name c.in-ElementWithChildren.attributes.items c.deref-in-ElementWithChildren.result.now c.in-ElementWithChildren.children.items c.deref-in-ElementWithChildren-2.result.now c.in-ElementWithChildren.closing.value c.deref-in-ElementWithChildren-3.result.now
    c.deref-in-ElementWithChildren.ensures.value c.deref-in-ElementWithChildren-2.ensures.value c.deref-in-ElementWithChildren-3.ensures))
    c.in_ok-tag-in-ElementWithChildren.ensures c.in_ok-jsxs-in-ElementWithChildren.ensures c.in_ok-jsxs-in-ElementWithChildren-2.ensures c.tag-in-ElementWithChildren-2.ensures

pub stmt-returns-in-Block : goal.stmt-returns-in-Block
stmt-returns-in-Block t c = as_said c.block.result _ _ _ _ (ap (λ x. statement_met (exporting c.args.is_exported) x) c.in-Block.is ∙ said-Stmt-Block (exporting c.args.is_exported) c.in-Block.field-0 c.in-Block.body ∙ ap (λ x. block_met (statements x)) (sym c.deref.ensures.value)) c.block.ensures

pub stmt-returns-in-Var : goal.stmt-returns-in-Var
stmt-returns-in-Var t c = as_said c.patterns.result _ _ _ _ (ap (λ x. statement_met (exporting c.args.is_exported) x) c.in-Var.is ∙ said-Stmt-Var (exporting c.args.is_exported) c.in-Var.field-0 c.in-Var.word c.in-Var.declarators ∙ ap_2 (λ w s. patterns_met (events.Binding w s) c.in-Var.declarators.items) (sym c.way_of.ensures) (sym c.sort_of.ensures) ∙ ap (λ x. patterns_met (events.Binding (way_of c.way_of.result) (sort_of c.sort_of.result)) x) (sym c.deref-in-Var.ensures.value)) c.patterns.ensures

pub stmt-returns-in-Control : goal.stmt-returns-in-Control
stmt-returns-in-Control t c = as_said c.control.result _ _ _ _ (ap (λ x. statement_met (exporting c.args.is_exported) x) c.in-Control.is ∙ said-Stmt-Control (exporting c.args.is_exported) c.in-Control.control) c.control.ensures

pub stmt-returns-in_ok-declares-in-Function : goal.stmt-returns-in_ok-declares-in-Function
stmt-returns-in_ok-declares-in-Function t c = then_said c.code.result _ _ _ _ _ _ (ap (λ x. statement_met (exporting c.args.is_exported) x) c.in-Function.is ∙ said-Stmt-Function (exporting c.args.is_exported) c.in-Function.field-0 c.in-Function.name c.in-Function.parameters c.in-Function.field-3 c.in-Function.body ∙ ap (λ w. name_met (events.Binding w AsFunction) c.in-Function.name ++ code_met (parameters c.in-Function.parameters.items) (statements c.in-Function.body.items)) (sym c.way_of-in-Function.ensures) ∙ ap_2 (λ x y. name_met (events.Binding (way_of c.way_of-in-Function.result) AsFunction) c.in-Function.name ++ code_met (parameters x) (statements y)) (sym c.deref-in-Function.ensures.value) (sym c.deref-in-Function-2.ensures.value)) c.in_ok-declares-in-Function.ensures c.code.ensures

pub stmt-returns-in_ok-declares-in-Class : goal.stmt-returns-in_ok-declares-in-Class
stmt-returns-in_ok-declares-in-Class t c = then_said c.inside_class.result _ _ _ _ _ _ (ap (λ x. statement_met (exporting c.args.is_exported) x) c.in-Class.is ∙ said-Stmt-Class (exporting c.args.is_exported) c.in-Class.field-0 c.in-Class.name c.in-Class.parent c.in-Class.members ∙ ap (λ w. name_met (events.Binding w AsLexical) c.in-Class.name ++ (optional_met c.in-Class.parent ++ members c.in-Class.members.items)) (sym c.way_of-in-Class.ensures) ∙ ap (λ y. name_met (events.Binding (way_of c.way_of-in-Class.result) AsLexical) c.in-Class.name ++ (optional_met c.in-Class.parent ++ members y)) (sym c.deref-in-Class.ensures.value)) c.in_ok-declares-in-Class.ensures c.inside_class.ensures

pub stmts-loop-stmt-preserved : goal.stmts-loop-stmt-preserved
stmts-loop-stmt-preserved t c = record { so = said_more Plain Unnamed Elsewhere (inside view_stmt) (inside told_stmt) c.args.stmts.now c.loop-stmt.stmt-index c.stmt-item.result _ _ _ c.loop-stmt-test.true c.stmt-item.is c.loop-stmt.invariant.so (c.in_ok-stmt.ensures ∙ ap (λ x. met_all c.loop-stmt.events.items ++ statement_met Plain x) c.deref.ensures) }

pub caught_body-returns-in-Block : goal.caught_body-returns-in-Block
caught_body-returns-in-Block t c = as_said c.stmts.result _ _ _ _ (ap (λ x. caught_met x) c.in-Block.is ∙ caught-Stmt-Block c.in-Block.field-0 c.in-Block.body ∙ ap (λ x. statements x) (sym c.deref.ensures.value)) c.stmts.ensures

pub caught_body-returns-in_default : goal.caught_body-returns-in_default
caught_body-returns-in_default t c = as_said c.stmt.result _ _ _ _ (caught_other c.args.body.now (told_stmt c.args.body.now) c.in_default.not-Block) c.stmt.ensures

pub control-returns-in_ok-optional-in-Case : goal.control-returns-in_ok-optional-in-Case
control-returns-in_ok-optional-in-Case t c = then_said c.stmts.result _ _ _ _ _ _ (ap (λ x. control_met x) c.in-Case.is ∙ said-Control-Case c.in-Case.field-0 c.in-Case.test c.in-Case.body ∙ ap (λ x. optional_met c.in-Case.test ++ statements x) (sym c.deref-in-Case.ensures.value)) c.in_ok-optional-in-Case.ensures c.stmts.ensures

pub control-returns-in-For : goal.control-returns-in-For
control-returns-in-For t c = as_said c.for_loop.result _ _ _ _ (ap (λ x. control_met x) c.in-For.is ∙ said-Control-For c.in-For.field-0 c.in-For.init c.in-For.test c.in-For.update c.in-For.body ∙ ap (λ x. loop_met c.in-For.init c.in-For.test c.in-For.update x) (sym c.deref-in-For.ensures)) c.for_loop.ensures

pub control-returns-in-ForIn : goal.control-returns-in-ForIn
control-returns-in-ForIn t c = as_said c.for_each.result _ _ _ _ (ap (λ x. control_met x) c.in-ForIn.is ∙ said-Control-ForIn c.in-ForIn.field-0 c.in-ForIn.head c.in-ForIn.value c.in-ForIn.body ∙ each_same c.deref-in-ForIn.ensures c.deref-in-ForIn-2.ensures c.deref-in-ForIn-3.ensures) c.for_each.ensures

pub control-returns-in-ForOf : goal.control-returns-in-ForOf
control-returns-in-ForOf t c = as_said c.for_each-in-ForOf.result _ _ _ _ (ap (λ x. control_met x) c.in-ForOf.is ∙ said-Control-ForOf c.in-ForOf.field-0 c.in-ForOf.head c.in-ForOf.value c.in-ForOf.body ∙ each_same c.deref-in-ForOf.ensures c.deref-in-ForOf-2.ensures c.deref-in-ForOf-3.ensures) c.for_each-in-ForOf.ensures

pub control-returns-in-Switch : goal.control-returns-in-Switch
control-returns-in-Switch t c = as_said c.switch.result _ _ _ _ (ap (λ x. control_met x) c.in-Switch.is ∙ said-Control-Switch c.in-Switch.field-0 c.in-Switch.value c.in-Switch.clauses ∙ ap_2 (λ x y. value x ++ block_met (controls_met y)) (sym c.deref-in-Switch.ensures) (sym c.deref-in-Switch-2.ensures.value)) c.switch.ensures

pub control-returns-in-Catch : goal.control-returns-in-Catch
control-returns-in-Catch t c = as_said c.caught.result _ _ _ _ (ap (λ x. control_met x) c.in-Catch.is ∙ said-Control-Catch c.in-Catch.field-0 c.in-Catch.pattern c.in-Catch.body ∙ ap (λ x. clause_met c.in-Catch.pattern x) (sym c.deref-in-Catch.ensures)) c.caught.ensures

pub controls-loop-control-preserved : goal.controls-loop-control-preserved
controls-loop-control-preserved t c = record { so = said_more Plain Unnamed Elsewhere (inside view_control) (inside told_control) c.args.controls.now c.loop-control.control-index c.control-item.result _ _ _ c.loop-control-test.true c.control-item.is c.loop-control.invariant.so (c.in_ok-control.ensures ∙ ap (λ x. met_all c.loop-control.events.items ++ control_met x) c.deref.ensures) }

pub pattern-returns-in-Array : goal.pattern-returns-in-Array
pattern-returns-in-Array t c = as_said c.patterns.result _ _ _ _ (ap (λ x. pattern_met c.args.mode x) c.in-Array.is ∙ said-Pat-Array c.args.mode c.in-Array.field-0 c.in-Array.items ∙ ap (λ x. items_met c.args.mode x) (sym c.deref.ensures.value)) c.patterns.ensures

pub pattern-returns-in-Object : goal.pattern-returns-in-Object
pattern-returns-in-Object t c = as_said c.properties.result _ _ _ _ (ap (λ x. pattern_met c.args.mode x) c.in-Object.is ∙ said-Pat-Object c.args.mode c.in-Object.field-0 c.in-Object.properties ∙ ap (λ x. properties_met c.args.mode x) (sym c.deref-in-Object.ensures.value)) c.properties.ensures

pub pattern-returns-in_ok-pattern-in-Binding : goal.pattern-returns-in_ok-pattern-in-Binding
pattern-returns-in_ok-pattern-in-Binding t c = then_said c.optional.result _ _ _ _ _ _ (ap (λ x. pattern_met c.args.mode x) c.in-Binding.is ∙ said-Pat-Binding c.args.mode c.in-Binding.field-0 c.in-Binding.target c.in-Binding.value ∙ ap (λ x. pattern_met c.args.mode x ++ optional_met c.in-Binding.value) (sym c.deref-in-Binding.ensures)) c.in_ok-pattern-in-Binding.ensures c.optional.ensures

pub pattern-returns-in_ok-pattern-in-WithInit : goal.pattern-returns-in_ok-pattern-in-WithInit
pattern-returns-in_ok-pattern-in-WithInit t c = then_said c.expr.result _ _ _ _ _ _ (ap (λ x. pattern_met c.args.mode x) c.in-WithInit.is ∙ said-Pat-WithInit c.args.mode c.in-WithInit.field-0 c.in-WithInit.target c.in-WithInit.value ∙ at_two (λ x. pattern_met c.args.mode x) (λ x. value x) c.deref-in-WithInit.ensures c.deref-in-WithInit-2.ensures) c.in_ok-pattern-in-WithInit.ensures c.expr.ensures

pub pattern-returns-in_ok-key-in-Pair : goal.pattern-returns-in_ok-key-in-Pair
pattern-returns-in_ok-key-in-Pair t c = then_said c.pattern-in-Pair.result _ _ _ _ _ _ (ap (λ x. pattern_met c.args.mode x) c.in-Pair.is ∙ said-Pat-Pair c.args.mode c.in-Pair.field-0 c.in-Pair.key c.in-Pair.target ∙ ap (λ x. key_met c.in-Pair.key ++ pattern_met c.args.mode x) (sym c.deref-in-Pair.ensures)) c.in_ok-key-in-Pair.ensures c.pattern-in-Pair.ensures

pub pattern-returns-in_ok-ident-in-Shorthand : goal.pattern-returns-in_ok-ident-in-Shorthand
pattern-returns-in_ok-ident-in-Shorthand t c = then_said c.optional-in-Shorthand.result _ _ _ _ _ _ (ap (λ x. pattern_met c.args.mode x) c.in-Shorthand.is ∙ said-Pat-Shorthand c.args.mode c.in-Shorthand.field-0 c.in-Shorthand.name c.in-Shorthand.value) c.in_ok-ident-in-Shorthand.ensures c.optional-in-Shorthand.ensures

pub pattern-returns-in-Declaration : goal.pattern-returns-in-Declaration
pattern-returns-in-Declaration t c = as_said c.patterns-in-Declaration.result _ _ _ _ (ap (λ x. pattern_met c.args.mode x) c.in-Declaration.is ∙ said-Pat-Declaration c.args.mode c.in-Declaration.field-0 c.in-Declaration.word c.in-Declaration.declarators ∙ ap_2 (λ s x. patterns_met (events.Binding events.Simply s) x) (sym c.sort_of.ensures) (sym c.deref-in-Declaration.ensures.value)) c.patterns-in-Declaration.ensures

pub patterns-loop-pattern-preserved : goal.patterns-loop-pattern-preserved
patterns-loop-pattern-preserved t c = record { so = patterns_more (mode_of c.args.mode) Idents Elsewhere (role_of c.args.mode) c.args.patterns.now c.loop-pattern.pattern-index c.pattern-item.result _ _ _ c.loop-pattern-test.true c.pattern-item.is c.loop-pattern.invariant.so (c.in_ok-pattern.ensures ∙ ap (λ x. met_all c.loop-pattern.events.items ++ pattern_met c.args.mode x) c.deref.ensures) }

pub properties-loop-property-preserved : goal.properties-loop-property-preserved
properties-loop-property-preserved t c = record { so = patterns_more (mode_of c.args.mode) (property_naming c.args.mode) Elsewhere (role_of c.args.mode) c.args.properties.now c.loop-property.property-index c.property-item.result _ _ _ c.loop-property-test.true c.property-item.is c.loop-property.invariant.so (c.in_ok-property.ensures ∙ ap (λ x. met_all c.loop-property.events.items ++ property_met c.args.mode x) c.deref.ensures) }

pub target-returns-in_default : goal.target-returns-in_default
target-returns-in_default t c = as_said c.expr.result _ _ _ _ (expr_anywhere (mode_of c.args.mode) Idents Elsewhere c.args.expr.now (told_expr c.args.expr.now) refl c.in_default.not-Ident c.in_default.not-Word) c.expr.ensures

pub unnamed-returns-in_default : goal.unnamed-returns-in_default
unnamed-returns-in_default t c = as_said c.expr.result _ _ _ _ (expr_unnamed c.args.expr.now (told_expr c.args.expr.now) c.in_default.not-Ident) c.expr.ensures
