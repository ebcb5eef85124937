use Rattle.std.proofs.Common.{◌≡◌, [], ◌∷◌, ◌++◌, length, map, append_assoc, refl, sym, ◌∙◌, ap, arith, rules}
use Rattle.std.specs.Vec.Iter.{into_iter_items}
use Rattle.jsx_tree.specs.Told.{told_expr}
use Rattle.jsx_tree.specs.View.{forest, inside, view_expr}
use Rattle.jsx_operand.specs.Covers.{view_cover}
use Rattle.jsx_operand.proofs.Steps.{plainly}
use Rattle.jsx_expression.specs.Arrows.{are_exprs}
use Rattle.jsx_function.specs.Covers.{told_cover}
use Rattle.jsx_expression.proofs.CoverLists.{all_yielded, exprs_past, exprs_refused, mapped_past}
use Rattle.jsx_expression.proofs.arrow.exprs_of.Goals as goal

pub exprs-init : goal.exprs-init
exprs-init c = record {
  all = refl;
  left = search rules;
  are = refl;
  views = ap (map (inside view_expr)) c.in_ok-all.ensures.items;
  told = ap (map (inside told_expr)) c.in_ok-all.ensures.items;
}

pub returns-in_err-expr-clause-refused : goal.returns-in_err-expr-clause-refused
returns-in_err-expr-clause-refused c =
    let at = c.exprs in
    let steps : into_iter_items at.cover-iterator ≡ c.in-Some.cover ∷ into_iter_items c.next.new.self = c.in-Some.ensures.steps.0 in
    let all = ap (λ z. at.yielded ++ z) (sym steps) ∙ (at.invariant.all ∙ c.into_iter-cover-iterator.ensures.into_iter_gives.0) in
    plainly _ c.in_err-expr.ensures.refused c.from_residual-in_err-expr.ensures.1 (exprs_refused at.yielded c.in-Some.cover (into_iter_items c.next.new.self) all)

pub exprs-preserved : goal.exprs-preserved
exprs-preserved c =
    let at = c.exprs in
    let x = c.in-Some.cover in
    let steps : into_iter_items at.cover-iterator ≡ x ∷ into_iter_items c.next.new.self = c.in-Some.ensures.steps.0 in
    record {
      all = append_assoc at.yielded (x ∷ []) _ ∙ (ap (λ z. at.yielded ++ z) (sym steps) ∙ at.invariant.all);
      left = omega (arith, at.invariant.left, c.in-Some.ensures.steps.1, ap length steps);
      are = exprs_past at.yielded x at.invariant.are c.in_ok-expr.ensures.is;
      views = ap (map (inside view_expr)) c.in_ok-push.ensures.items ∙ mapped_past (inside view_expr) view_cover at.yielded x at.all.items c.in_ok-expr.expr at.invariant.views (ap (inside view_expr) c.in_ok-expr.ensures.expr);
      told = ap (map (inside told_expr)) c.in_ok-push.ensures.items ∙ mapped_past (inside told_expr) told_cover at.yielded x at.all.items c.in_ok-expr.expr at.invariant.told (ap (inside told_expr) c.in_ok-expr.ensures.expr);
    }

pub returns-clause-read : goal.returns-clause-read
returns-clause-read c =
    let at = c.exprs in
    let all = all_yielded (into_iter_items at.cover-iterator) (at.invariant.all ∙ c.into_iter-cover-iterator.ensures.into_iter_gives.0) (sym at.invariant.left ∙ c.in-None.ensures.steps.0) in
    record { are = ap are_exprs (sym all) ∙ at.invariant.are; views = ap forest (at.invariant.views ∙ ap (map view_cover) all) }

pub returns-clause-told : goal.returns-clause-told
returns-clause-told c =
    let at = c.exprs in
    let all = all_yielded (into_iter_items at.cover-iterator) (at.invariant.all ∙ c.into_iter-cover-iterator.ensures.into_iter_gives.0) (sym at.invariant.left ∙ c.in-None.ensures.steps.0) in
    at.invariant.told ∙ ap (map told_cover) all
