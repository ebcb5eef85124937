use Rattle.std.proofs.Common.{false, sym, refl, ◌∙◌, subst}
use Rattle.jsx_token.specs.Here.{place_of}
use Rattle.jsx_token.specs.Headings.{NoHeading}
use Rattle.jsx_declaration.specs.Labels.{IsBeforeLoop}
use Rattle.jsx_declaration.proofs.Labels.{at_expression, at_heading, if_none, past_one}
use Rattle.jsx_declaration.proofs.label.is_before_loop.Goals as goal

pub labels-preserved : goal.labels-preserved
labels-preserved c = record { past = past_one c.take_label.result (sym c.is_some.ensures ∙ c.labels-test.true) c.take_label.ensures.taken c.labels.invariant.past }

pub returns-in-Some : goal.returns-in-Some
returns-in-Some c =
    let stays = if_none c.take_label.result (sym c.is_some.ensures ∙ c.labels-test.false) c.take_label.ensures.stays in
    c.labels.invariant.past.on c.is_loop.result
    (subst (λ h. IsBeforeLoop c.is_loop.result (place_of h)) stays (subst (λ b. IsBeforeLoop b (place_of c.take_label.new.lexer)) (sym c.is_loop.ensures) (at_heading c.in-Some.heading (record { is = c.in-Some.ensures.taken; found = refl }))))

pub returns-in-None : goal.returns-in-None
returns-in-None c =
    let none = sym c.is_some.ensures ∙ c.labels-test.false in
    let stays = if_none c.take_label.result none c.take_label.ensures.stays in
    c.labels.invariant.past.on false (at_expression (subst (λ h. NoHeading (place_of h)) stays c.in-None.ensures.missing) (if_none c.take_label.result none c.take_label.ensures.missing))
