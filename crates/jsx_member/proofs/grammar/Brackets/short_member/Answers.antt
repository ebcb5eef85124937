use Rattle.std.proofs.Common.{true, false, [], ◌∷◌, refl, sym, ◌∙◌, ap}
use Rattle.jsx_tree.specs.Kinds.{Field, InObject, function, list, node, none, part}
use Rattle.jsx_tree.specs.Told.{told_expr, told_list, told_node, told_prop}
use Rattle.jsx_tree.specs.View.{OfObject, view_expr}
use Rattle.jsx_make.specs.Members.{view_prop}
use Rattle.jsx_token.specs.Here.{place_of}
use Rattle.jsx_token.specs.Places.{end_of}
use Rattle.jsx_operand.proofs.Places.{spans_from}
use Rattle.jsx_operand.proofs.Steps.{passed, passed_in}
use Rattle.jsx_member.proofs.MemberCovers.{deep_short, preset_cover, short_cover, unbound_short, unfilled_short}
use Rattle.jsx_member.proofs.MemberPlaces.{preset_placed, short_placed}
use Rattle.jsx_member.proofs.grammar.Brackets.short_member.Goals as goal

-- alone
pub returns-then-not-take-clause-read : goal.returns-then-not-take-clause-read
returns-then-not-take-clause-read g c = short_cover c.settled.ensures.is_expr c.settled.ensures.may_turn (ap (λ b. view_prop b.value) c.settled.ensures.prop ∙ c.in_ok-prop.ensures.view)
    (record { same = sym (ap place_of (c.take.ensures.stays c.if-not-take.true)); stuck = record { is = c.take.ensures.missing c.if-not-take.true } })

pub returns-then-not-take-clause-placed : goal.returns-then-not-take-clause-placed
returns-then-not-take-clause-placed g c = short_placed (c.take.ensures.stays c.if-not-take.true) refl (ap (λ b. view_prop b.value) c.settled.ensures.prop ∙ c.in_ok-prop.ensures.view) (ap (λ b. told_prop b.value) c.settled.ensures.prop ∙ c.in_ok-prop.ensures.told) (λ p e. e)
    (λ w begins. spans_from c.span_to-span.ensures refl begins (ap end_of (c.take.ensures.stays c.if-not-take.true)))

-- with its default
pub returns-then-not-is_bound-clause-refused : goal.returns-then-not-is_bound-clause-refused
returns-then-not-is_bound-clause-refused g c = record { bars = λ _ _ _. unbound_short (record { is = c.take.ensures.taken c.if-not-take.false; found = refl }) (sym c.is_bound.ensures ∙ c.if-not-is_bound.true) }

pub returns-in_err-levels-clause-refused : goal.returns-in_err-levels-clause-refused
returns-in_err-levels-clause-refused g c = passed _ c.in_err-levels.ensures.refused c.from_residual-in_err-levels.ensures.1 (λ b. deep_short (record { is = c.take.ensures.taken c.if-not-take.false; found = refl }) b)

pub returns-in_err-value-clause-refused : goal.returns-in_err-value-clause-refused
returns-in_err-value-clause-refused g c = passed_in _ c.in_ok-levels.ensures.levels c.in_err-value.ensures.refused c.from_residual-in_err-value.ensures.1 (λ b. unfilled_short (record { is = c.take.ensures.taken c.if-not-take.false; found = refl }) b)

pub returns-clause-read : goal.returns-clause-read
returns-clause-read g c = preset_cover refl refl
    (c.in_ok-prop-2.ensures.view OfObject ∙ ap (λ k. node (function (Field InObject)) (part k (part (list (part (view_expr c.in_ok-value.value.value) none)) none))) c.name_key-key.ensures.view)
    (sym c.is_bound.ensures ∙ c.if-not-is_bound.false) (record { is = c.take.ensures.taken c.if-not-take.false; found = refl }) c.in_ok-value.ensures.read

pub returns-clause-placed : goal.returns-clause-placed
returns-clause-placed g c = preset_placed refl refl
    (c.in_ok-prop-2.ensures.view OfObject ∙ ap (λ k. node (function (Field InObject)) (part k (part (list (part (view_expr c.in_ok-value.value.value) none)) none))) c.name_key-key.ensures.view)
    (c.in_ok-prop-2.ensures.told ∙ ap (λ d. told_node c.span_to-span-2.result (d ∷ told_list (told_expr c.in_ok-value.value.value ∷ []) ∷ [])) c.name_key-key.ensures.told)
    (c.take.ensures.takes c.if-not-take.false) c.in_ok-value.ensures.placed (λ p e. e) (λ w begins. spans_from c.span_to-span-2.ensures refl begins refl)
