use Rattle.std.proofs.Common.{refl, sym, ◌∙◌, ap, subst}
use Rattle.jsx_tree.specs.Grammar.{key}
use Rattle.jsx_tree.specs.Reading.{forth}
use Rattle.jsx_token.specs.Here.{place_of}
use Rattle.jsx_operand.proofs.Placing.{placed_from}
use Rattle.jsx_operand.proofs.Steps.{passed, passed_in}
use Rattle.jsx_syntax.specs.Items.{NoImport}
use Rattle.jsx_syntax.proofs.Items.{barred_from, export_opens, import_opens, item_behind, item_deep, item_statement, item_unread, no_exported, no_imported, no_statement_item, only_from, there}
use Rattle.jsx_syntax.proofs.item.item.Goals as goal

-- an export
pub returns-in_err-levels-clause-refused : goal.returns-in_err-levels-clause-refused
returns-in_err-levels-clause-refused c = passed _ c.in_err-levels.ensures.refused c.from_residual.ensures.1 (λ b. item_deep (λ k ts z r. no_exported (there {s = key "export"} {x = place_of c.args.lexer.now} (record { is = c.take.ensures.taken c.if-take.true; found = refl })) r) b)

pub returns-in_err-export-clause-refused : goal.returns-in_err-export-clause-refused
returns-in_err-export-clause-refused c =
    passed_in _ c.in_ok-levels.ensures.levels c.in_err-export.ensures.refused c.from_residual-in_err-export.ensures.1
    (λ n. item_unread export_opens (record { is = c.take.ensures.taken c.if-take.true; found = refl }) (λ k ts z r. no_exported (there {s = key "export"} {x = place_of c.args.lexer.now} (record { is = c.take.ensures.taken c.if-take.true; found = refl })) r) n)

pub returns-then-take-clause-read : goal.returns-then-take-clause-read
returns-then-take-clause-read c = item_behind export_opens (record { is = c.take.ensures.taken c.if-take.true; found = refl }) (λ k ts z r. no_exported (there {s = key "export"} {x = place_of c.args.lexer.now} (record { is = c.take.ensures.taken c.if-take.true; found = refl })) r) c.in_ok-export.ensures.read

pub returns-then-take-clause-placed : goal.returns-then-take-clause-placed
returns-then-take-clause-placed c = c.in_ok-export.ensures.placed.on _ (c.take.ensures.takes c.if-take.true) (c.take.ensures.begins c.if-take.true)

-- an import
pub returns-in_err-levels-2-clause-refused : goal.returns-in_err-levels-2-clause-refused
returns-in_err-levels-2-clause-refused c =
    let i = c.take_import.ensures.taken c.if-take_import.true in
    passed _ c.in_err-levels-2.ensures.refused c.from_residual-in_err-levels-2.ensures.1
    (λ b. barred_from (ap place_of (c.take.ensures.stays c.if-take.false)) (item_deep (λ k ts z r. no_imported i r) b))

pub returns-in_err-import-clause-refused : goal.returns-in_err-import-clause-refused
returns-in_err-import-clause-refused c =
    let i = c.take_import.ensures.taken c.if-take_import.true in
    passed_in _ c.in_ok-levels-2.ensures.levels c.in_err-import.ensures.refused c.from_residual-in_err-import.ensures.1
    (λ n. barred_from (ap place_of (c.take.ensures.stays c.if-take.false)) (item_unread import_opens i.word (λ k ts z r. no_imported i r) n))

pub returns-then-take_import-clause-read : goal.returns-then-take_import-clause-read
returns-then-take_import-clause-read c =
    let i = c.take_import.ensures.taken c.if-take_import.true in
    only_from (ap place_of (c.take.ensures.stays c.if-take.false)) (item_behind import_opens i.word (λ k ts z r. no_imported i r) c.in_ok-import.ensures.read)

pub returns-then-take_import-clause-placed : goal.returns-then-take_import-clause-placed
returns-then-take_import-clause-placed c = placed_from (c.take.ensures.stays c.if-take.false) (c.in_ok-import.ensures.placed.on _ (c.take_import.ensures.takes c.if-take_import.true) (c.take_import.ensures.begins c.if-take_import.true))

-- a statement
pub returns-in_err-statement-clause-refused : goal.returns-in_err-statement-clause-refused
returns-in_err-statement-clause-refused c =
    let here = c.take_import.ensures.stays c.if-take_import.false in
    let same = here ∙ c.take.ensures.stays c.if-take.false in
    passed _ c.in_err-statement.ensures.refused c.from_residual-in_err-statement.ensures.1
    (λ b. barred_from (ap place_of same)
    (no_statement_item (ap (λ h. forth (key "export") (place_of h)) same ∙ c.take.ensures.missing c.if-take.false) (subst (λ h. NoImport (place_of h)) (sym here) (c.take_import.ensures.missing c.if-take_import.false)) b))

pub returns-clause-read : goal.returns-clause-read
returns-clause-read c =
    let here = c.take_import.ensures.stays c.if-take_import.false in
    let same = here ∙ c.take.ensures.stays c.if-take.false in
    only_from (ap place_of same)
    (item_statement (ap (λ h. forth (key "export") (place_of h)) same ∙ c.take.ensures.missing c.if-take.false) (subst (λ h. NoImport (place_of h)) (sym here) (c.take_import.ensures.missing c.if-take_import.false)) c.in_ok-statement.ensures.read)

pub returns-clause-placed : goal.returns-clause-placed
returns-clause-placed c = placed_from (c.take_import.ensures.stays c.if-take_import.false ∙ c.take.ensures.stays c.if-take.false) c.in_ok-statement.ensures.placed
