use Rattle.std.proofs.Common.{refl, sym, ◌∙◌, ap, subst}
use Rattle.jsx_tree.specs.Nonterminals.{ImportBindings}
use Rattle.jsx_tree.specs.Grammar.{Part, pun}
use Rattle.jsx_tree.specs.Reading.{forth}
use Rattle.jsx_tree.specs.ViewProgram.{view_import_names}
use Rattle.jsx_tree.specs.Walk.{one}
use Rattle.jsx_tree.specs.Answers.{Only}
use Rattle.jsx_token.specs.Here.{place_of}
use Rattle.jsx_operand.specs.Around.{around_of}
use Rattle.jsx_operand.specs.SoFar.{so_far}
use Rattle.jsx_operand.proofs.Placing.{placed_from}
use Rattle.jsx_operand.proofs.Steps.{passed}
use Rattle.jsx_syntax.proofs.Imports.{all_read, all_unread, list_read, list_unread, none_read}
use Rattle.jsx_syntax.proofs.Items.{barred_from}
use Rattle.jsx_syntax.proofs.import.import_names.Goals as goal

pub returns-in_err-import_all-clause-refused : goal.returns-in_err-import_all-clause-refused
returns-in_err-import_all-clause-refused c = passed _ c.in_err-import_all.ensures.refused c.from_residual.ensures.1 (λ n. all_unread (record { is = c.take.ensures.taken c.if-take.true; found = refl }) n)

pub returns-then-take-clause-read : goal.returns-then-take-clause-read
returns-then-take-clause-read c = all_read (record { is = c.take.ensures.taken c.if-take.true; found = refl }) c.in_ok-import_all.ensures.read

pub returns-then-take-clause-placed : goal.returns-then-take-clause-placed
returns-then-take-clause-placed c = c.in_ok-import_all.ensures.placed.on _ (c.take.ensures.takes c.if-take.true) (c.take.ensures.begins c.if-take.true)

pub returns-then-not-take-clause-refused : goal.returns-then-not-take-clause-refused
returns-then-not-take-clause-refused c =
    let same = c.take.ensures.stays c.if-take.false in
    record { bars = λ _ _ _. none_read (c.take.ensures.missing c.if-take.false) (ap (λ h. forth (pun "{") (place_of h)) (sym same) ∙ c.take-2.ensures.missing c.if-not-take.true) }

pub returns-in_err-import_list-clause-refused : goal.returns-in_err-import_list-clause-refused
returns-in_err-import_list-clause-refused c =
    passed _ c.in_err-import_list.ensures.refused c.from_residual-in_err-import_list.ensures.1
    (λ n. barred_from (ap place_of (c.take.ensures.stays c.if-take.false)) (list_unread (record { is = c.take-2.ensures.taken c.if-not-take.false; found = refl }) n))

pub returns-clause-read : goal.returns-clause-read
returns-clause-read c =
    subst (λ p. Only so_far (around_of c.args.context.around) (Part ImportBindings) p (one (view_import_names c.in_ok-import_list.field-0)) (place_of c.import_list.new.lexer)) (ap place_of (c.take.ensures.stays c.if-take.false))
    (list_read (record { is = c.take-2.ensures.taken c.if-not-take.false; found = refl }) c.in_ok-import_list.ensures.read)

pub returns-clause-placed : goal.returns-clause-placed
returns-clause-placed c = placed_from (c.take.ensures.stays c.if-take.false) (c.in_ok-import_list.ensures.placed.on _ (c.take-2.ensures.takes c.if-not-take.false) (c.take-2.ensures.begins c.if-not-take.false))
