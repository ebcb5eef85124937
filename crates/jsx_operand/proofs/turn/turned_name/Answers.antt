use Rattle.std.proofs.Common.{◌≡◌, [], ◌∷◌, sym, ◌∙◌, ap, subst}
use Rattle.jsx_tree.specs.Kinds.{Assigns}
use Rattle.jsx_tree.specs.Told.{told_expr, told_node, told_prop, told_text}
use Rattle.jsx_tree.specs.View.{name_of}
use Rattle.jsx_make.specs.Members.{view_prop}
use Rattle.jsx_make.specs.NodeSpans.{member_at}
use Rattle.jsx_operand.specs.Taken.{IsPresetOf, IsToldOf, behind_first, held, is_preset, is_rest, is_short}
use Rattle.jsx_operand.proofs.Turners.{name_refused, others_turn, preset_refused, preset_retold, preset_turns, short_turns}
use Rattle.jsx_operand.proofs.turn.turned_name.Goals as goal

pub returns-in-Some-clause-read : goal.returns-in-Some-clause-read
returns-in-Some-clause-read c = others_turn (sym (ap view_prop c.deref_mut.ensures.value) ∙ c.in-Some.ensures.taken) c.in-Some.ensures.bound (c.in_ok-rest_property.ensures.view Assigns)

pub returns-in-Some-taken_short-clause-read : goal.returns-in-Some-taken_short-clause-read
returns-in-Some-taken_short-clause-read c =
    let e : c.deref_mut-2.result.now ≡ c.args.member.value = c.deref_mut-2.ensures.value ∙ (c.in_default.ensures.stays ∙ c.deref_mut.ensures.value) in
    short_turns (sym (ap view_prop e) ∙ c.in-Some-taken_short.ensures.taken) c.in-Some-taken_short.ensures.bound (c.in_ok-short_pattern.ensures.view Assigns)

pub returns-in_default-taken_preset-clause-refused : goal.returns-in_default-taken_preset-clause-refused
returns-in_default-taken_preset-clause-refused c =
    let e : c.deref_mut-2.result.now ≡ c.args.member.value = c.deref_mut-2.ensures.value ∙ (c.in_default.ensures.stays ∙ c.deref_mut.ensures.value) in
    let f : c.deref_mut-3.result.now ≡ c.args.member.value = c.deref_mut-3.ensures.value ∙ (c.in_default-taken_short.ensures.stays ∙ e) in
    record {
      bars = λ at k _. name_refused c.requires (ap (λ m. is_rest (view_prop m)) (sym c.deref_mut.ensures.value) ∙ c.in_default.ensures.other)
          (ap (λ m. is_short (view_prop m)) (sym e) ∙ c.in_default-taken_short.ensures.other) (ap (λ m. is_preset (view_prop m)) (sym f) ∙ c.in_default-taken_preset.ensures.other);
    }

pub returns-in_default-taken_default-clause-refused : goal.returns-in_default-taken_default-clause-refused
returns-in_default-taken_default-clause-refused c =
    let e : c.deref_mut-2.result.now ≡ c.args.member.value = c.deref_mut-2.ensures.value ∙ (c.in_default.ensures.stays ∙ c.deref_mut.ensures.value) in
    let f : c.deref_mut-3.result.now ≡ c.args.member.value = c.deref_mut-3.ensures.value ∙ (c.in_default-taken_short.ensures.stays ∙ e) in
    record {
      bars = λ at k _. preset_refused (subst (λ m. IsPresetOf (name_of c.in-Some-taken_preset.name) (view_prop m) (view_prop c.taken_preset.new.member)) f c.in-Some-taken_preset.ensures.taken)
          (ap (λ m. held (view_prop m)) (sym c.deref_mut-4.ensures.value) ∙ c.in_default-taken_default.ensures.other);
    }

pub returns-clause-read : goal.returns-clause-read
returns-clause-read c =
    let e : c.deref_mut-2.result.now ≡ c.args.member.value = c.deref_mut-2.ensures.value ∙ (c.in_default.ensures.stays ∙ c.deref_mut.ensures.value) in
    let f : c.deref_mut-3.result.now ≡ c.args.member.value = c.deref_mut-3.ensures.value ∙ (c.in_default-taken_short.ensures.stays ∙ e) in
    preset_turns (subst (λ m. IsPresetOf (name_of c.in-Some-taken_preset.name) (view_prop m) (view_prop c.taken_preset.new.member)) f c.in-Some-taken_preset.ensures.taken)
    (ap (λ m. held (view_prop m)) (sym c.deref_mut-4.ensures.value) ∙ c.in-Some-taken_default.ensures.taken) (c.in_ok-short_default.ensures.view Assigns)

pub returns-clause-told : goal.returns-clause-told
returns-clause-told c =
    let e : c.deref_mut-2.result.now ≡ c.args.member.value = c.deref_mut-2.ensures.value ∙ (c.in_default.ensures.stays ∙ c.deref_mut.ensures.value) in
    let f : c.deref_mut-3.result.now ≡ c.args.member.value = c.deref_mut-3.ensures.value ∙ (c.in_default-taken_short.ensures.stays ∙ e) in
    preset_retold (subst (λ m. IsPresetOf (name_of c.in-Some-taken_preset.name) (view_prop m) (view_prop c.taken_preset.new.member)) f c.in-Some-taken_preset.ensures.taken)
    (ap (λ m. held (view_prop m)) (sym c.deref_mut-4.ensures.value) ∙ c.in-Some-taken_default.ensures.taken)
    (subst (λ m. IsToldOf (told_text c.in-Some-taken_preset.name.text) (member_at m) (told_prop m) (told_prop c.taken_preset.new.member)) f c.in-Some-taken_preset.ensures.told)
    (ap (λ m. behind_first (told_prop m)) (sym c.deref_mut-4.ensures.value) ∙ c.in-Some-taken_default.ensures.told)
    (c.in_ok-short_default.ensures.told ∙ ap (λ s. told_node s (told_text c.in-Some-taken_preset.name.text ∷ told_expr c.in-Some-taken_default.value.value ∷ [])) (c.span_of_member-span.ensures ∙ ap member_at c.deref.ensures))
