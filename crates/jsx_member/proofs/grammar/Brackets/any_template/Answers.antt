use Rattle.std.proofs.Common.{◌≡◌, true, refl, sym, ◌∙◌, ap, subst}
use Rattle.std.specs.Str.{chars}
use Rattle.jsx_base.specs.Token.{Operator, NoSubstitution, TemplateHead}
use Rattle.jsx_tree.specs.Kinds.{leaf}
use Rattle.jsx_tree.specs.Signs.{Tok}
use Rattle.jsx_tree.specs.View.{text_of}
use Rattle.jsx_tree.specs.Form.{is_leaf}
use Rattle.jsx_tree.specs.Spans.{Comes}
use Rattle.jsx_tree.specs.Reading.{forth}
use Rattle.jsx_token.specs.Here.{place_of}
use Rattle.jsx_operand.specs.Climbing.{fits}
use Rattle.jsx_token.specs.Places.{Takes, next_of}
use Rattle.jsx_operand.proofs.Values.{settled_token}
use Rattle.jsx_operand.proofs.Steps.{passed, passed_plain}
use Rattle.jsx_member.proofs.Parts.{whole_placed, head_placed, rest_with}
use Rattle.jsx_operand.proofs.Templates.{whole_template, unfit_whole, head_template, unfit_head, no_rest, no_template, whole_full, whole_view}
use Rattle.jsx_operand.specs.Templates.{fits_tag}
use Rattle.jsx_member.proofs.grammar.Brackets.any_template.Goals as goal

pub returns-in-Some-clause-read : goal.returns-in-Some-clause-read
returns-in-Some-clause-read g c =
    let whole = c.in_ok-whole_template.ensures in
    whole_template c.args.is_tagged (chars c.in-Some.raw.now) _ c.in-Some.ensures.taken refl c.in-Some.ensures.whole whole.fits (whole_view whole.piece whole.parts)

pub returns-in-Some-clause-begins : goal.returns-in-Some-clause-begins
returns-in-Some-clause-begins g c = c.in_ok-whole_template.ensures.begins ∙ c.in-Some.ensures.begins

pub returns-in-Some-clause-placed : goal.returns-in-Some-clause-placed
returns-in-Some-clause-placed g c = whole_placed c.in_ok-whole_template.ensures.piece c.in-Some.ensures.begins c.in_ok-whole_template.ensures.parts c.in-Some.ensures.takes

pub returns-in-Some-clause-ended : goal.returns-in-Some-clause-ended
returns-in-Some-clause-ended g c = settled_token Operator NoSubstitution (chars c.in-Some.raw.now) (place_of c.args.lexer.now) (whole_full (chars c.in-Some.raw.now) c.in-Some.ensures.whole) (sym c.in-Some.ensures.taken) refl

pub returns-in_err-whole_template-clause-refused : goal.returns-in_err-whole_template-clause-refused
returns-in_err-whole_template-clause-refused g c = passed_plain _ c.in_err-whole_template.ensures.refused c.from_residual.ensures.1 (λ n. unfit_whole c.args.is_tagged (chars c.in-Some.raw.now) c.in-Some.ensures.taken refl c.in-Some.ensures.whole n)

pub returns-in_default-leaf-clause-refused : goal.returns-in_default-leaf-clause-refused
returns-in_default-leaf-clause-refused g c = record { bars = λ _ _ _. no_template c.args.is_tagged c.in_default.ensures.missing (λ r. ap (forth (Tok Operator TemplateHead r)) (sym (ap place_of c.in_default.ensures.stays)) ∙ c.in_default-leaf.ensures.missing r) }

pub returns-in_err-head-clause-refused : goal.returns-in_err-head-clause-refused
returns-in_err-head-clause-refused g c =
    passed_plain _ c.in_err-head.ensures.refused c.from_residual-in_err-head.ensures.1
    (λ n. unfit_head c.args.is_tagged (chars c.in-Some-leaf.raw.now) (c.in-Some-leaf.ensures.taken ∙ ap (forth (Tok Operator TemplateHead (chars c.in-Some-leaf.raw.now))) (ap place_of c.in_default.ensures.stays)) refl c.in-Some-leaf.ensures.whole n)

pub returns-in_err-template_rest-clause-refused : goal.returns-in_err-template_rest-clause-refused
returns-in_err-template_rest-clause-refused g c =
    let text = c.in_ok-head.ensures.text in
    passed _ c.in_err-template_rest.ensures.refused c.from_residual-in_err-template_rest.ensures.1
    (λ n. no_rest c.args.is_tagged (chars c.in-Some-leaf.raw.now) (c.in-Some-leaf.ensures.taken ∙ ap (forth (Tok Operator TemplateHead (chars c.in-Some-leaf.raw.now))) (ap place_of c.in_default.ensures.stays)) refl c.in-Some-leaf.ensures.whole
    (rest_with text n))

pub template_rest-requires-clause-fits : goal.template_rest-requires-clause-fits
template_rest-requires-clause-fits g c = ap (fits_tag c.args.is_tagged) c.in_ok-head.ensures.text ∙ c.in_ok-head.ensures.fits

pub returns-clause-read : goal.returns-clause-read
returns-clause-read g c =
    let text = c.in_ok-head.ensures.text in
    let raw = chars c.in-Some-leaf.raw.now in
    let taken : place_of c.leaf-2.new.self ≡ forth (Tok Operator TemplateHead raw) (place_of c.args.lexer.now) = c.in-Some-leaf.ensures.taken ∙ ap (forth (Tok Operator TemplateHead raw)) (ap place_of c.in_default.ensures.stays) in
    head_template c.args.is_tagged (text_of c.in_ok-head.head) _ _ (subst (λ r. place_of c.leaf-2.new.self ≡ forth (Tok Operator TemplateHead r) (place_of c.args.lexer.now)) (sym text) taken) refl (subst (λ r. is_leaf TemplateHead r ≡ true) (sym text) c.in-Some-leaf.ensures.whole)
    c.in_ok-template_rest.ensures.read c.in_ok-template_rest.ensures.divided.view

pub returns-clause-begins : goal.returns-clause-begins
returns-clause-begins g c = ap (λ l. l.0) c.in_ok-template_rest.ensures.begins ∙ (c.last_place-lo.ensures ∙ (c.in-Some-leaf.ensures.begins ∙ ap next_of c.in_default.ensures.stays))

pub returns-clause-placed : goal.returns-clause-placed
returns-clause-placed g c =
    let stays = c.in_default.ensures.stays in
    head_placed c.in_ok-template_rest.ensures.divided
    (subst (λ h. Takes (Tok Operator TemplateHead (text_of c.in_ok-head.head)) h c.leaf-2.new.self) stays (subst (λ r. Takes (Tok Operator TemplateHead r) c.leaf.new.self c.leaf-2.new.self) (sym c.in_ok-head.ensures.text) c.in-Some-leaf.ensures.takes))
    (subst (Comes c.in_ok-head.head) (c.in-Some-leaf.ensures.begins ∙ ap next_of stays) c.in_ok-head.ensures.place) c.in_ok-template_rest.ensures.placed

-- a template behind its tag
