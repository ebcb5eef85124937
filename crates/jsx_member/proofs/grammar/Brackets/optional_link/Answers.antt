use Rattle.std.proofs.Common.{true, false, refl, sym, ◌∙◌, ap, subst}
use Rattle.jsx_tree.specs.Grammar.{pun}
use Rattle.jsx_tree.specs.View.{view_link}
use Rattle.jsx_tree.specs.Reading.{forth}
use Rattle.jsx_tree.specs.StaticRules.{is_optional}
use Rattle.jsx_operand.specs.Around.{around_of}
use Rattle.jsx_token.specs.Here.{place_of}
use Rattle.jsx_token.specs.Places.{Takes, begin_of}
use Rattle.jsx_tree.proofs.Rows.Steps.{on}
use Rattle.jsx_operand.proofs.Steps.{passed}
use Rattle.jsx_operand.proofs.Placing.{takes_from}
use Rattle.jsx_operand.specs.Links.{OnlyLink, link_sign, optionally}
use Rattle.jsx_member.proofs.Links.{name_from, no_optional, no_optional_call, no_optional_index, optional_call, optional_index, optional_name}
use Rattle.jsx_operand.specs.declared.link.Linking.TheVariants as linking
use Rattle.jsx_member.proofs.grammar.Brackets.optional_link.Goals as goal

pub returns-then-take-clause-read : goal.returns-then-take-clause-read
returns-then-take-clause-read g c = optional_index (record { is = c.take.ensures.taken c.if-take.true; found = refl }) c.in_ok-index_link.ensures.read

pub returns-then-take-clause-optional : goal.returns-then-take-clause-optional
returns-then-take-clause-optional g c = ap is_optional c.in_ok-index_link.ensures.read.is

pub returns-then-take-clause-placed : goal.returns-then-take-clause-placed
returns-then-take-clause-placed g c = record { on = λ w k i. c.in_ok-index_link.ensures.placed.on w (c.last_place-lo.ensures ∙ i) (optionally k (c.take.ensures.takes c.if-take.true)) }

pub returns-in_err-index_link-clause-refused : goal.returns-in_err-index_link-clause-refused
returns-in_err-index_link-clause-refused g c = passed _ c.in_err-index_link.ensures.refused c.from_residual.ensures.1 (λ n. no_optional_index (record { is = c.take.ensures.taken c.if-take.true; found = refl }) n)

pub returns-then-take-2-clause-read : goal.returns-then-take-2-clause-read
returns-then-take-2-clause-read g c = optional_call (record { is = c.take-2.ensures.taken c.if-take-2.true ∙ ap (λ h. forth (pun "(") (place_of h)) (c.take.ensures.stays c.if-take.false); found = refl }) c.in_ok-call_link.ensures.read

pub returns-then-take-2-clause-optional : goal.returns-then-take-2-clause-optional
returns-then-take-2-clause-optional g c = ap is_optional c.in_ok-call_link.ensures.read.is

pub returns-then-take-2-clause-placed : goal.returns-then-take-2-clause-placed
returns-then-take-2-clause-placed g c = record { on = λ w k i. c.in_ok-call_link.ensures.placed.on w (c.last_place-lo.ensures ∙ i) (optionally k (takes_from (c.take.ensures.stays c.if-take.false) (c.take-2.ensures.takes c.if-take-2.true))) }

pub returns-in_err-call_link-clause-refused : goal.returns-in_err-call_link-clause-refused
returns-in_err-call_link-clause-refused g c = passed _ c.in_err-call_link.ensures.refused c.from_residual-in_err-call_link.ensures.1
    (λ n. no_optional_call (record { is = c.take-2.ensures.taken c.if-take-2.true ∙ ap (λ h. forth (pun "(") (place_of h)) (c.take.ensures.stays c.if-take.false); found = refl }) n)

pub returns-clause-read : goal.returns-clause-read
returns-clause-read g c = subst (λ p. OnlyLink (around_of c.args.context.around) (link_sign linking.Optional) p (view_link c.in_ok-name_link.field-0.value) (place_of c.name_link.new.lexer)) (ap place_of (c.take-2.ensures.stays c.if-take-2.false ∙ c.take.ensures.stays c.if-take.false)) (optional_name c.in_ok-name_link.ensures.read)

pub returns-clause-optional : goal.returns-clause-optional
returns-clause-optional g c = ap is_optional c.in_ok-name_link.ensures.read.is

-- ---- what goes on, by its token

pub returns-clause-placed : goal.returns-clause-placed
returns-clause-placed g c = record { on = λ w k i. let e = c.take-2.ensures.stays c.if-take-2.false ∙ c.take.ensures.stays c.if-take.false in c.in_ok-name_link.ensures.placed.on w (subst (Takes (link_sign linking.Optional) w) (sym e) k) (ap begin_of e ∙ i) }

pub returns-in_err-name_link-clause-refused : goal.returns-in_err-name_link-clause-refused
returns-in_err-name_link-clause-refused g c = passed _ c.in_err-name_link.ensures.refused c.from_residual-in_err-name_link.ensures.1
    (λ n. no_optional (c.take.ensures.missing c.if-take.false) (ap (λ h. forth (pun "(") (place_of h)) (sym (c.take.ensures.stays c.if-take.false)) ∙ c.take-2.ensures.missing c.if-take-2.false)
    (name_from (c.take-2.ensures.stays c.if-take-2.false ∙ c.take.ensures.stays c.if-take.false) n))
