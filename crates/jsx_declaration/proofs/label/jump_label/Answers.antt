use Rattle.std.proofs.Common.{◌≡◌, true, not, None, refl, sym, ◌∙◌, ap, subst}
use Rattle.std.specs.Prelude.{◌&&◌}
use Rattle.std.specs.Str.{chars}
use Rattle.jsx_base.specs.Token.{breaks}
use Rattle.jsx_tree.specs.Reading.{is_do}
use Rattle.jsx_tree.proofs.Rows.Bridge.{found_at}
use Rattle.jsx_tree.proofs.Rows.Steps.{no_sign}
use Rattle.jsx_token.specs.Here.{place_of}
use Rattle.jsx_operand.specs.Around.{around_of}
use Rattle.jsx_operand.specs.Spans.{IsPlacedFront}
use Rattle.jsx_operand.proofs.Homes.{idents, no_leaf, only_leaf, unfit_leaf}
use Rattle.jsx_operand.proofs.Placing.{takes_ends}
use Rattle.jsx_operand.proofs.Steps.{passed}
use Rattle.jsx_declaration.specs.Heads.{Front, free_end}
use Rattle.jsx_declaration.specs.Labels.{jump_row, jump_symbols, target_of, told_target}
use Rattle.jsx_declaration.proofs.Controls.{on_line}
use Rattle.jsx_declaration.proofs.Jumps.{deep_label, no_semicolon, no_target, not_there, off_line, some_target, unended}
use Rattle.jsx_declaration.proofs.PlacedNodes.{no_target_placed, takes_line, target_placed}
use Rattle.jsx_declaration.proofs.label.jump_label.Goals as goal

pub returns-then-not-is_on_line-clause-read : goal.returns-then-not-is_on_line-clause-read
returns-then-not-is_on_line-clause-read c = no_target (record { is = ap place_of c.ends.ensures; found = refl }) (off_line c.ends.new.self (sym c.is_on_line.ensures ∙ c.if-not-is_on_line.true))

pub returns-then-not-is_on_line-clause-placed : goal.returns-then-not-is_on_line-clause-placed
returns-then-not-is_on_line-clause-placed c = no_target_placed (takes_ends c.ends.ensures)

pub returns-in_default-clause-read : goal.returns-in_default-clause-read
returns-in_default-clause-read c =
    let on : not (breaks c.ends.new.self.rest) ≡ true = sym c.is_on_line.ensures ∙ c.if-not-is_on_line.false in
    subst (λ h. Front (around_of c.args.context.around) jump_row free_end (place_of c.args.lexer.now) (target_of None) (place_of h)) (sym c.in_default.ensures.stays)
    (no_target (record { is = ap place_of c.ends.ensures; found = refl }) (not_there (on_line c.ends.new.self on) (no_leaf idents c.in_default.ensures.missing)))

pub returns-in_default-clause-placed : goal.returns-in_default-clause-placed
returns-in_default-clause-placed c = subst (λ h. IsPlacedFront jump_symbols (told_target None) (target_of None) c.args.lexer.now h) (sym c.in_default.ensures.stays) (no_target_placed (takes_ends c.ends.ensures))

pub returns-then-is_reserved-clause-refused : goal.returns-then-is_reserved-clause-refused
returns-then-is_reserved-clause-refused c =
    let on : not (breaks c.ends.new.self.rest) ≡ true = sym c.is_on_line.ensures ∙ c.if-not-is_on_line.false in
    let name = chars c.in-Some.name.now in
    record {
      bars = λ _ _ _. unended (no_target (record { is = ap place_of c.ends.ensures; found = refl }) (not_there (on_line c.ends.new.self on) (unfit_leaf name idents c.in-Some.ensures.taken refl (ap (λ b. not b && true) (sym c.is_reserved.ensures ∙ c.if-is_reserved.true)))))
          (no_sign (record { is = no_semicolon c.ends.new.self name (ap (λ h. is_do h.ending) c.ends.ensures) on (found_at (sym c.in-Some.ensures.taken) refl) }));
    }

pub returns-in_err-counted-clause-refused : goal.returns-in_err-counted-clause-refused
returns-in_err-counted-clause-refused c =
    let on : not (breaks c.ends.new.self.rest) ≡ true = sym c.is_on_line.ensures ∙ c.if-not-is_on_line.false in
    passed _ c.in_err-counted.ensures.refused c.from_residual.ensures.1
    (λ b. deep_label (some_target (record { is = ap place_of c.ends.ensures; found = refl }) (on_line c.ends.new.self on) (only_leaf idents (ap not (sym c.is_reserved.ensures ∙ c.if-is_reserved.false)) refl c.in-Some.ensures.whole c.in-Some.ensures.taken refl)
    (record { is = refl; found = refl }) (no_semicolon c.ends.new.self (chars c.in-Some.name.now) (ap (λ h. is_do h.ending) c.ends.ensures) on (found_at (sym c.in-Some.ensures.taken) refl))) b)

pub returns-clause-read : goal.returns-clause-read
returns-clause-read c =
    let on : not (breaks c.ends.new.self.rest) ≡ true = sym c.is_on_line.ensures ∙ c.if-not-is_on_line.false in
    some_target (record { is = ap place_of c.ends.ensures; found = refl }) (on_line c.ends.new.self on)
    (only_leaf idents (ap not (sym c.is_reserved.ensures ∙ c.if-is_reserved.false)) refl c.in-Some.ensures.whole c.in-Some.ensures.taken refl)
    (record { is = ap place_of c.ends-2.ensures; found = refl })
    (no_semicolon c.ends.new.self (chars c.in-Some.name.now) (ap (λ h. is_do h.ending) c.ends.ensures) on (found_at (sym c.in-Some.ensures.taken) refl))

pub returns-clause-placed : goal.returns-clause-placed
returns-clause-placed c = target_placed _ (takes_ends c.ends.ensures) (takes_line (sym c.is_on_line.ensures ∙ c.if-not-is_on_line.false)) c.in-Some.ensures.takes (c.last_place-place.ensures ∙ c.in-Some.ensures.begins) (takes_ends c.ends-2.ensures)
