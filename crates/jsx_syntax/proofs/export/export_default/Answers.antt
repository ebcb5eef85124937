use Rattle.std.proofs.Common.{refl, sym, ◌∙◌, ap, subst, map}
use Rattle.jsx_tree.specs.Kinds.{ExportDefaultFn, program, list, node, none, part}
use Rattle.jsx_tree.specs.Nonterminals.{Expr}
use Rattle.jsx_tree.specs.Grammar.{Part, key}
use Rattle.jsx_tree.specs.Reading.{forth}
use Rattle.jsx_tree.specs.View.{body, inside, optional_name, view_expr, view_stmt}
use Rattle.jsx_tree.specs.Walk.{one}
use Rattle.jsx_tree.specs.Answers.{Only}
use Rattle.jsx_tree.proofs.Views.{bound_forest}
use Rattle.jsx_token.specs.Here.{place_of}
use Rattle.jsx_operand.specs.Around.{around_of}
use Rattle.jsx_operand.specs.SoFar.{so_far}
use Rattle.jsx_operand.proofs.Places.{spans_from}
use Rattle.jsx_operand.proofs.Placing.{placed_as, placed_from}
use Rattle.jsx_operand.proofs.Steps.{passed, passed_in}
use Rattle.jsx_syntax.proofs.Exports.{class_built, class_deep, class_unread, function_built, function_unread, value_built, value_unended, value_unread}
use Rattle.jsx_syntax.proofs.PlacedItems.{class_placed, function_placed, value_placed}
use Rattle.jsx_syntax.proofs.Items.{barred_from}
use Rattle.jsx_syntax.proofs.export.export_default.Goals as goal

-- a function
pub returns-in_err-function-clause-refused : goal.returns-in_err-function-clause-refused
returns-in_err-function-clause-refused c = passed _ c.in_err-function.ensures.refused c.from_residual.ensures.1 (λ n. function_unread (record { is = c.take.ensures.taken c.if-take.true; found = refl }) n)

pub returns-then-take-clause-read : goal.returns-then-take-clause-read
returns-then-take-clause-read c =
    let f = c.in_ok-function.function in
    function_built (record { is = c.take.ensures.taken c.if-take.true; found = refl }) c.in_ok-function.ensures.read c.in_ok-function.ensures.plain
    (ap (λ ts. node (program ExportDefaultFn) (part (optional_name f.name) (part (list ts) (part (body f.code.body.directives.items (map (inside view_stmt) f.code.body.statements.items)) none)))) (bound_forest f.code.params.items))

pub returns-then-take-clause-placed : goal.returns-then-take-clause-placed
returns-then-take-clause-placed c =
    let f = c.in_ok-function.function in
    record {
      on = λ a b export begins sign word.
          placed_as refl (ap (λ ts. node (program ExportDefaultFn) (part (optional_name f.name) (part (list ts) (part (body f.code.body.directives.items (map (inside view_stmt) f.code.body.statements.items)) none)))) (bound_forest f.code.params.items))
          (function_placed export (c.last_place-word.ensures ∙ word) sign (c.take.ensures.takes c.if-take.true) c.in_ok-function.ensures.placed (spans_from c.span_to-span.ensures refl begins refl));
    }

-- a class
pub returns-in_err-levels-clause-refused : goal.returns-in_err-levels-clause-refused
returns-in_err-levels-clause-refused c =
    passed _ c.in_err-levels.ensures.refused c.from_residual-in_err-levels.ensures.1
    (λ b. class_deep (record { is = c.take-2.ensures.taken c.if-take-2.true ∙ ap (λ h. forth (key "class") (place_of h)) (c.take.ensures.stays c.if-take.false); found = refl }) b)

pub returns-in_err-class-clause-refused : goal.returns-in_err-class-clause-refused
returns-in_err-class-clause-refused c =
    passed_in _ c.in_ok-levels.ensures.levels c.in_err-class.ensures.refused c.from_residual-in_err-class.ensures.1
    (λ n. class_unread (record { is = c.take-2.ensures.taken c.if-take-2.true ∙ ap (λ h. forth (key "class") (place_of h)) (c.take.ensures.stays c.if-take.false); found = refl }) n)

pub returns-then-take-2-clause-read : goal.returns-then-take-2-clause-read
returns-then-take-2-clause-read c = class_built (record { is = c.take-2.ensures.taken c.if-take-2.true ∙ ap (λ h. forth (key "class") (place_of h)) (c.take.ensures.stays c.if-take.false); found = refl }) c.in_ok-class.ensures.read refl

pub returns-then-take-2-clause-placed : goal.returns-then-take-2-clause-placed
returns-then-take-2-clause-placed c = record {
  on = λ a b export begins sign word. class_placed export (c.last_place-word.ensures ∙ word) sign (placed_from (c.take.ensures.stays c.if-take.false) (c.in_ok-class.ensures.placed.on c.take.new.self (c.take-2.ensures.takes c.if-take-2.true) (c.take-2.ensures.begins c.if-take-2.true))) (spans_from c.span_to.ensures refl begins refl);
}

-- an expression
pub returns-in_err-value-clause-refused : goal.returns-in_err-value-clause-refused
returns-in_err-value-clause-refused c =
    let same = c.take-2.ensures.stays c.if-take-2.false ∙ c.take.ensures.stays c.if-take.false in
    passed _ c.in_err-value.ensures.refused c.from_residual-in_err-value.ensures.1
    (λ b. value_unread (record { is = c.take.ensures.missing c.if-take.false }) (record { is = sym (ap (λ h. forth (key "class") (place_of h)) (c.take.ensures.stays c.if-take.false)) ∙ c.take-2.ensures.missing c.if-take-2.false }) (barred_from (ap place_of same) b))

pub returns-in_err-semicolon-clause-refused : goal.returns-in_err-semicolon-clause-refused
returns-in_err-semicolon-clause-refused c =
    let same = c.take-2.ensures.stays c.if-take-2.false ∙ c.take.ensures.stays c.if-take.false in
    passed _ c.in_err-semicolon.ensures.refused c.from_residual-in_err-semicolon.ensures.1
    (λ b. value_unended (record { is = c.take.ensures.missing c.if-take.false }) (record { is = sym (ap (λ h. forth (key "class") (place_of h)) (c.take.ensures.stays c.if-take.false)) ∙ c.take-2.ensures.missing c.if-take-2.false }) (subst (λ h. Only so_far (around_of c.args.context.around) (Part (Expr 1)) (place_of h) (one (view_expr c.in_ok-value.value.value)) (place_of c.expression.new.lexer)) same c.in_ok-value.ensures.read) b)

pub returns-clause-read : goal.returns-clause-read
returns-clause-read c =
    let same = c.take-2.ensures.stays c.if-take-2.false ∙ c.take.ensures.stays c.if-take.false in
    value_built (record { is = c.take.ensures.missing c.if-take.false }) (record { is = sym (ap (λ h. forth (key "class") (place_of h)) (c.take.ensures.stays c.if-take.false)) ∙ c.take-2.ensures.missing c.if-take-2.false }) (subst (λ h. Only so_far (around_of c.args.context.around) (Part (Expr 1)) (place_of h) (one (view_expr c.in_ok-value.value.value)) (place_of c.expression.new.lexer)) same c.in_ok-value.ensures.read) c.in_ok-semicolon.ensures.read refl

pub returns-clause-placed : goal.returns-clause-placed
returns-clause-placed c =
    let same = c.take-2.ensures.stays c.if-take-2.false ∙ c.take.ensures.stays c.if-take.false in
    record {
      on = λ a b export begins sign word. value_placed export (c.last_place-word.ensures ∙ word) sign (placed_from same c.in_ok-value.ensures.placed) c.in_ok-semicolon.ensures.takes (spans_from c.span_to-2.ensures refl begins refl);
    }
