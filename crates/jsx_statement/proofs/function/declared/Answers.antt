use Rattle.std.proofs.Common.{refl, sym, ◌∙◌, ap, subst}
use Rattle.jsx_tree.specs.Grammar.{key}
use Rattle.jsx_tree.specs.Reading.{forth}
use Rattle.jsx_token.specs.declared.heading.Heading.TheVariants as heading
use Rattle.jsx_token.specs.Here.{place_of}
use Rattle.jsx_token.specs.Places.{Takes, next_of}
use Rattle.jsx_declaration.specs.Heads.{NoDeclaring, declare_sign}
use Rattle.jsx_operand.proofs.Placing.{takes_from}
use Rattle.jsx_operand.proofs.Steps.{passed, passed_in}
use Rattle.jsx_statement.proofs.Declarations.{class_opens, declared_barred, declared_deep, declared_only, declared_parts, function_opens, no_declared_parts, undeclared, word_moves, word_opens, word_takes}
use Rattle.jsx_statement.proofs.function.declared.Goals as goal

pub returns-then-take-clause-read : goal.returns-then-take-clause-read
returns-then-take-clause-read c = declared_only heading.Function function_opens refl (record { is = c.take.ensures.taken c.if-take.true; found = refl }) c.in_ok-function_declaration.ensures.read

pub returns-then-take-clause-placed : goal.returns-then-take-clause-placed
returns-then-take-clause-placed c = c.in_ok-function_declaration.ensures.placed.on c.args.lexer.now (c.take.ensures.takes c.if-take.true) (c.take.ensures.begins c.if-take.true)

pub returns-in_err-function_declaration-clause-refused : goal.returns-in_err-function_declaration-clause-refused
returns-in_err-function_declaration-clause-refused c = passed_in _ c.in_ok-levels.ensures.levels c.in_err-function_declaration.ensures.refused c.from_residual-in_err-function_declaration.ensures.1 (λ n. declared_barred heading.Function function_opens refl (record { is = c.take.ensures.taken c.if-take.true; found = refl }) n)

pub returns-then-take-2-clause-read : goal.returns-then-take-2-clause-read
returns-then-take-2-clause-read c = declared_parts heading.Class class_opens (record { is = c.take-2.ensures.taken c.if-take-2.true ∙ ap (λ h. forth (key "class") (place_of h)) (c.take.ensures.stays c.if-take.false); found = refl }) c.in_ok-class_declaration.ensures.read

pub returns-then-take-2-clause-placed : goal.returns-then-take-2-clause-placed
returns-then-take-2-clause-placed c = c.in_ok-class_declaration.ensures.placed.on c.args.lexer.now (takes_from (c.take.ensures.stays c.if-take.false) (c.take-2.ensures.takes c.if-take-2.true)) (c.take-2.ensures.begins c.if-take-2.true ∙ ap next_of (c.take.ensures.stays c.if-take.false))

pub returns-in_err-class_declaration-clause-refused : goal.returns-in_err-class_declaration-clause-refused
returns-in_err-class_declaration-clause-refused c = passed_in _ c.in_ok-levels-2.ensures.levels c.in_err-class_declaration.ensures.refused c.from_residual-in_err-class_declaration.ensures.1
    (λ n. no_declared_parts heading.Class class_opens (record { is = c.take-2.ensures.taken c.if-take-2.true ∙ ap (λ h. forth (key "class") (place_of h)) (c.take.ensures.stays c.if-take.false); found = refl }) n)

pub returns-in_default-clause-refused : goal.returns-in_default-clause-refused
returns-in_default-clause-refused c =
    let same = c.take-2.ensures.stays c.if-take-2.false ∙ c.take.ensures.stays c.if-take.false in
    record {
      bars = λ _ _ _. undeclared (subst (λ h. NoDeclaring (place_of h)) same c.in_default.ensures.missing) (record { is = c.take.ensures.missing c.if-take.false })
          (record { is = sym (ap (λ h. forth (key "class") (place_of h)) (c.take.ensures.stays c.if-take.false)) ∙ c.take-2.ensures.missing c.if-take-2.false });
    }

pub returns-in_err-declaration-clause-refused : goal.returns-in_err-declaration-clause-refused
returns-in_err-declaration-clause-refused c =
    let same = c.take-2.ensures.stays c.if-take-2.false ∙ c.take.ensures.stays c.if-take.false in
    passed_in _ c.in_ok-levels-3.ensures.levels c.in_err-declaration.ensures.refused c.from_residual-in_err-declaration.ensures.1
    (λ n. declared_barred (heading.Var c.in-Some.word) (word_opens c.in-Some.word) refl (word_moves c.in-Some.word (record { is = c.in-Some.ensures.taken ∙ ap (λ h. forth (declare_sign c.in-Some.word) (place_of h)) same; found = refl })) n)

pub returns-clause-read : goal.returns-clause-read
returns-clause-read c =
    let same = c.take-2.ensures.stays c.if-take-2.false ∙ c.take.ensures.stays c.if-take.false in
    declared_only (heading.Var c.in-Some.word) (word_opens c.in-Some.word) refl (word_moves c.in-Some.word (record { is = c.in-Some.ensures.taken ∙ ap (λ h. forth (declare_sign c.in-Some.word) (place_of h)) same; found = refl })) c.in_ok-declaration.ensures.read

pub returns-clause-placed : goal.returns-clause-placed
returns-clause-placed c =
    let same = c.take-2.ensures.stays c.if-take-2.false ∙ c.take.ensures.stays c.if-take.false in
    c.in_ok-declaration.ensures.placed.on c.args.lexer.now (word_takes c.in-Some.word (subst (λ h. Takes (declare_sign c.in-Some.word) h c.declare_word.new.lexer) same c.in-Some.ensures.takes)) (c.in-Some.ensures.begins ∙ ap next_of same)

pub returns-in_err-levels-clause-refused : goal.returns-in_err-levels-clause-refused
returns-in_err-levels-clause-refused c = passed _ c.in_err-levels.ensures.refused c.from_residual.ensures.1 (λ b. declared_deep heading.Function function_opens (record { is = c.take.ensures.taken c.if-take.true; found = refl }) b)

pub returns-in_err-levels-2-clause-refused : goal.returns-in_err-levels-2-clause-refused
returns-in_err-levels-2-clause-refused c = passed _ c.in_err-levels-2.ensures.refused c.from_residual-in_err-levels-2.ensures.1
    (λ b. declared_deep heading.Class class_opens (record { is = c.take-2.ensures.taken c.if-take-2.true ∙ ap (λ h. forth (key "class") (place_of h)) (c.take.ensures.stays c.if-take.false); found = refl }) b)

pub returns-in_err-levels-3-clause-refused : goal.returns-in_err-levels-3-clause-refused
returns-in_err-levels-3-clause-refused c =
    let same = c.take-2.ensures.stays c.if-take-2.false ∙ c.take.ensures.stays c.if-take.false in
    passed _ c.in_err-levels-3.ensures.refused c.from_residual-in_err-levels-3.ensures.1 (λ b. declared_deep (heading.Var c.in-Some.word) (word_opens c.in-Some.word) (word_moves c.in-Some.word (record { is = c.in-Some.ensures.taken ∙ ap (λ h. forth (declare_sign c.in-Some.word) (place_of h)) same; found = refl })) b)
