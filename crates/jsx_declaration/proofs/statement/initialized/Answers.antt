use Rattle.std.proofs.Common.{refl, sym, ◌∙◌, ap, subst}
use Rattle.jsx_tree.specs.View.{view_pat}
use Rattle.jsx_tree.specs.Kinds.{Binds}
use Rattle.jsx_tree.specs.Nonterminals.{Declarators}
use Rattle.jsx_tree.specs.Grammar.{Part}
use Rattle.jsx_tree.specs.Walk.{one}
use Rattle.jsx_tree.specs.Answers.{Only}
use Rattle.jsx_operand.specs.SoFar.{so_far}
use Rattle.jsx_operand.specs.Around.{around_of}
use Rattle.jsx_token.specs.Here.{place_of}
use Rattle.jsx_token.specs.Places.{end_of}
use Rattle.jsx_declaration.proofs.Controls.{outgrown_as}
use Rattle.jsx_declaration.proofs.Items.{initialized, uninitialized, no_initializer, outgrown_initializer}
use Rattle.jsx_token.specs.Semicolons.{in_list}
use Rattle.jsx_token.proofs.Semicolons.{closed_in_list}
use Rattle.jsx_operand.proofs.Steps.{passed, passed_in}
use Rattle.jsx_operand.proofs.Places.{spans_from}
use Rattle.jsx_operand.proofs.Placing.{placed_as, placed_to, takes_ends}
use Rattle.jsx_declaration.proofs.PlacedNodes.{declarator_row, plain_row}
use Rattle.jsx_declaration.proofs.statement.initialized.Goals as goal

pub returns-then-not-take-clause-read : goal.returns-then-not-take-clause-read
returns-then-not-take-clause-read g c = record {
  on = λ x o. subst (λ p. Only so_far (around_of c.args.context.around) (Part Declarators) x (one (view_pat c.in_ok-declarator.field-0.value)) p) (sym (ap place_of (c.take.ensures.stays c.if-not-take.true)))
      (uninitialized o (record { is = ap place_of c.ends.ensures; found = refl }) (record { is = c.take.ensures.missing c.if-not-take.true }) (c.in_ok-declarator.ensures.view Binds));
}

pub returns-in_err-levels-clause-refused : goal.returns-in_err-levels-clause-refused
returns-in_err-levels-clause-refused g c = passed _ (outgrown_as (ap view_pat c.deref.ensures) c.in_err-levels.ensures.binds) c.from_residual-in_err-levels.ensures.1
    (λ b. record { no = λ x o. outgrown_initializer o (record { is = ap place_of c.ends.ensures; found = refl }) (record { is = c.take.ensures.taken c.if-not-take.false; found = refl }) b })

pub returns-in_err-value-clause-refused : goal.returns-in_err-value-clause-refused
returns-in_err-value-clause-refused g c = passed_in _ c.in_ok-levels.ensures.levels c.in_err-value.ensures.refused c.from_residual-in_err-value.ensures.1
    (λ b. record { no = λ x o. no_initializer o (record { is = ap place_of c.ends.ensures; found = refl }) (record { is = c.take.ensures.taken c.if-not-take.false; found = refl }) b })

pub returns-clause-read : goal.returns-clause-read
returns-clause-read g c = record {
  on = λ x o. initialized o (record { is = ap place_of c.ends.ensures; found = refl }) (record { is = c.take.ensures.taken c.if-not-take.false; found = refl }) c.in_ok-value.ensures.read (c.in_ok-declarator-2.ensures.view Binds);
}

pub returns-then-not-take-clause-placed : goal.returns-then-not-take-clause-placed
returns-then-not-take-clause-placed g c = record {
  on = λ w begins l. placed_to (c.take.ensures.stays c.if-not-take.true) (placed_as c.in_ok-declarator.ensures.told (c.in_ok-declarator.ensures.view Binds) (plain_row l (takes_ends c.ends.ensures)
      (spans_from c.span_to.ensures refl begins (ap end_of (c.take.ensures.stays c.if-not-take.true)))));
}

pub returns-clause-placed : goal.returns-clause-placed
returns-clause-placed g c = record {
  on = λ w begins l. placed_as c.in_ok-declarator-2.ensures.told (c.in_ok-declarator-2.ensures.view Binds) (declarator_row l (takes_ends c.ends.ensures) (c.take.ensures.takes c.if-not-take.false) c.in_ok-value.ensures.placed (spans_from c.span_to-2.ensures refl begins refl));
}

pub returns-then-not-take-clause-behind : goal.returns-then-not-take-clause-behind
returns-then-not-take-clause-behind g c = ap (λ h. in_list (place_of h)) (c.take.ensures.stays c.if-not-take.true ∙ c.ends.ensures)

pub returns-clause-behind : goal.returns-clause-behind
returns-clause-behind g c = closed_in_list (place_of c.expression.new.lexer) c.in_ok-value.ensures.ended
