use Rattle.std.proofs.Common.{refl, sym, ◌∙◌, ap}
use Rattle.jsx_tree.specs.Grammar.{key, pun}
use Rattle.jsx_tree.specs.Reading.{forth}
use Rattle.jsx_tree.specs.Walk.{is_found}
use Rattle.jsx_token.specs.Here.{place_of}
use Rattle.jsx_token.specs.Places.{begin_of, next_of}
use Rattle.jsx_operand.proofs.Placing.{takes_from}
use Rattle.jsx_syntax.specs.Items.{called, dotted, elsewhere}
use Rattle.jsx_syntax.proofs.Items.{unfound}
use Rattle.jsx_syntax.proofs.import.take_import.Goals as goal

pub returns-then-not-take-clause-missing : goal.returns-then-not-take-clause-missing
returns-then-not-take-clause-missing c = λ _. elsewhere (ap (λ h. forth (key "import") (place_of h)) (sym c.fork-ahead.ensures) ∙ c.take.ensures.missing c.if-not-take.true)

pub returns-then-is_before-clause-missing : goal.returns-then-is_before-clause-missing
returns-then-is_before-clause-missing c =
    let word = c.take.ensures.taken c.if-not-take.false ∙ ap (λ h. forth (key "import") (place_of h)) c.fork-ahead.ensures in
    λ _. called (ap (λ p. is_found (forth (pun "(") p)) (sym word) ∙ (sym c.is_before.ensures.ahead ∙ c.if-is_before.true))

pub returns-then-is_before-2-clause-missing : goal.returns-then-is_before-2-clause-missing
returns-then-is_before-2-clause-missing c =
    let word = ap place_of c.is_before.ensures.stays ∙ (c.take.ensures.taken c.if-not-take.false ∙ ap (λ h. forth (key "import") (place_of h)) c.fork-ahead.ensures) in
    λ _. dotted (ap (λ p. is_found (forth (pun ".") p)) (sym word) ∙ (sym c.is_before-2.ensures.ahead ∙ c.if-is_before-2.true))

pub returns-clause-taken : goal.returns-clause-taken
returns-clause-taken c =
    let same = c.is_before-2.ensures.stays ∙ c.is_before.ensures.stays in
    λ _. record {
      word = record { is = ap place_of same ∙ (c.take.ensures.taken c.if-not-take.false ∙ ap (λ h. forth (key "import") (place_of h)) c.fork-ahead.ensures); found = refl };
      uncalled = record { is = unfound _ (ap (λ h. is_found (forth (pun "(") (place_of h))) same ∙ (sym c.is_before.ensures.ahead ∙ c.if-is_before.false)) };
      undotted = record { is = unfound _ (ap (λ h. is_found (forth (pun ".") (place_of h))) c.is_before-2.ensures.stays ∙ (sym c.is_before-2.ensures.ahead ∙ c.if-is_before-2.false)) };
    }

pub returns-clause-takes : goal.returns-clause-takes
returns-clause-takes c =
    let same = c.is_before-2.ensures.stays ∙ c.is_before.ensures.stays in
    let takes = takes_from c.fork-ahead.ensures (c.take.ensures.takes c.if-not-take.false) in
    λ _. record { leads = takes.leads ∙ sym (ap place_of same); same = ap (λ h. h.end) same ∙ takes.same }

pub returns-clause-begins : goal.returns-clause-begins
returns-clause-begins c =
    let same = c.is_before-2.ensures.stays ∙ c.is_before.ensures.stays in
    λ _. ap begin_of same ∙ (c.take.ensures.begins c.if-not-take.false ∙ ap next_of c.fork-ahead.ensures)
