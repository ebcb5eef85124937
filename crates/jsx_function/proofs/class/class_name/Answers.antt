use Rattle.std.proofs.Common.{true, false, sym, ◌∙◌, ap}
use Rattle.jsx_tree.specs.Grammar.{key}
use Rattle.jsx_tree.specs.Reading.{forth}
use Rattle.jsx_tree.specs.Walk.{is_found}
use Rattle.jsx_token.specs.Here.{place_of}
use Rattle.jsx_function.proofs.Inside.{passed_as}
use Rattle.jsx_function.proofs.Classes.{barred_in, extending, name_absent_placed, name_placed, named, not_named, only_in, unnamed}
use Rattle.jsx_function.proofs.class.class_name.Goals as goal

pub returns-then-is_before-clause-read : goal.returns-then-is_before-clause-read
returns-then-is_before-clause-read c = unnamed (ap place_of c.is_before.ensures.stays) (sym c.is_before.ensures.ahead ∙ c.if-is_before.true)

pub returns-then-is_before-clause-placed : goal.returns-then-is_before-clause-placed
returns-then-is_before-clause-placed c = name_absent_placed c.is_before.ensures.stays

pub returns-then-is_before-2-clause-read : goal.returns-then-is_before-2-clause-read
returns-then-is_before-2-clause-read c =
    extending (ap place_of (c.is_before-2.ensures.stays ∙ c.is_before.ensures.stays)) (ap (λ h. is_found (forth (key "extends") (place_of h))) (sym c.is_before.ensures.stays) ∙ (sym c.is_before-2.ensures.ahead ∙ c.if-is_before-2.true))

pub returns-then-is_before-2-clause-placed : goal.returns-then-is_before-2-clause-placed
returns-then-is_before-2-clause-placed c = name_absent_placed (c.is_before-2.ensures.stays ∙ c.is_before.ensures.stays)

pub returns-in_err-name-clause-refused : goal.returns-in_err-name-clause-refused
returns-in_err-name-clause-refused c = passed_as _ c.of_class.ensures.levels c.in_err-name.ensures.refused c.from_residual.ensures.1
    (λ b.
    not_named (ap place_of (c.is_before-2.ensures.stays ∙ c.is_before.ensures.stays)) (sym c.is_before.ensures.ahead ∙ c.if-is_before.false)
    (ap (λ h. is_found (forth (key "extends") (place_of h))) (sym c.is_before.ensures.stays) ∙ (sym c.is_before-2.ensures.ahead ∙ c.if-is_before-2.false)) (barred_in c.of_class.ensures.around b))

pub returns-clause-read : goal.returns-clause-read
returns-clause-read c =
    named (ap place_of (c.is_before-2.ensures.stays ∙ c.is_before.ensures.stays)) (sym c.is_before.ensures.ahead ∙ c.if-is_before.false)
    (ap (λ h. is_found (forth (key "extends") (place_of h))) (sym c.is_before.ensures.stays) ∙ (sym c.is_before-2.ensures.ahead ∙ c.if-is_before-2.false)) (only_in c.of_class.ensures.around c.in_ok-name.ensures.read)

pub returns-clause-placed : goal.returns-clause-placed
returns-clause-placed c = name_placed (c.is_before-2.ensures.stays ∙ c.is_before.ensures.stays) c.in_ok-name.ensures.placed
