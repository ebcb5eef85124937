use Rattle.std.proofs.Common.{◌≡◌}
use Rattle.std.specs.Prelude.{take}
use Rattle.jsx_tree.specs.Kinds.{Binds, Assigns}
use Rattle.jsx_tree.specs.View.{OfObject, OfClass, view_expr, view_link, view_stmt, view_control, view_jsx, view_pattern, view_member}
use Rattle.jsx_depth.specs.Fits.{fits}
use Rattle.jsx_depth.proofs.Lists.{all_fit, from}
use Rattle.jsx_depth.proofs.+depth.Given as goal

abbrev pub «invariant-expressions::fits_exprs-loop-expr» : goal.«invariant-expressions::fits_exprs-loop-expr»
«invariant-expressions::fits_exprs-loop-expr» l = all_fit (λ x. fits l.levels (view_expr x.value)) l.exprs ≡ from (λ x. fits l.levels (view_expr x.value)) l.expr-index l.exprs

abbrev pub «invariant-operators::fits_links-loop-link» : goal.«invariant-operators::fits_links-loop-link»
«invariant-operators::fits_links-loop-link» l = all_fit (λ x. fits l.levels (view_link x.value)) l.links ≡ from (λ x. fits l.levels (view_link x.value)) l.link-index l.links

abbrev pub «invariant-statements::fits_stmts-loop-stmt» : goal.«invariant-statements::fits_stmts-loop-stmt»
«invariant-statements::fits_stmts-loop-stmt» l = all_fit (λ x. fits l.levels (view_stmt x.value)) l.stmts ≡ from (λ x. fits l.levels (view_stmt x.value)) l.stmt-index l.stmts

abbrev pub «invariant-control::fits_controls-loop-control» : goal.«invariant-control::fits_controls-loop-control»
«invariant-control::fits_controls-loop-control» l = all_fit (λ x. fits l.levels (view_control x.value)) l.controls ≡ from (λ x. fits l.levels (view_control x.value)) l.control-index l.controls

abbrev pub «invariant-elements::fits_elements-loop-element» : goal.«invariant-elements::fits_elements-loop-element»
«invariant-elements::fits_elements-loop-element» l = all_fit (λ x. fits l.levels (view_jsx x.value)) l.elements ≡ from (λ x. fits l.levels (view_jsx x.value)) l.element-index l.elements

abbrev pub «invariant-patterns::fits_patterns-loop-pattern» : goal.«invariant-patterns::fits_patterns-loop-pattern»
«invariant-patterns::fits_patterns-loop-pattern» l = record {
  binds : all_fit (λ x. fits l.levels (view_pattern x.value Binds)) l.patterns ≡ from (λ x. fits l.levels (view_pattern x.value Binds)) l.pattern-index l.patterns;
  assigns : all_fit (λ x. fits l.levels (view_pattern x.value Assigns)) l.patterns ≡ from (λ x. fits l.levels (view_pattern x.value Assigns)) l.pattern-index l.patterns;
}

abbrev pub «invariant-objects::fits_members-loop-member» : goal.«invariant-objects::fits_members-loop-member»
«invariant-objects::fits_members-loop-member» l = record {
  of_object : all_fit (λ x. fits l.levels (view_member x.value OfObject)) l.members ≡ from (λ x. fits l.levels (view_member x.value OfObject)) l.member-index l.members;
  of_class : all_fit (λ x. fits l.levels (view_member x.value OfClass)) l.members ≡ from (λ x. fits l.levels (view_member x.value OfClass)) l.member-index l.members;
}

abbrev pub «invariant-expressions::fits_front-loop-i» : goal.«invariant-expressions::fits_front-loop-i»
«invariant-expressions::fits_front-loop-i» l = all_fit (λ x. fits l.levels (view_expr x.value)) (take l.count l.exprs) ≡ from (λ x. fits l.levels (view_expr x.value)) l.i (take l.count l.exprs)
