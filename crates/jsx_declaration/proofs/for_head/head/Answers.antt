use Rattle.std.proofs.Common.{◌≡◌, refl, sym, ◌∙◌, ap, subst}
use Rattle.jsx_tree.specs.Grammar.{pun}
use Rattle.jsx_tree.specs.Reading.{Lost, forth}
use Rattle.jsx_declaration.specs.Heads.{NoDeclaring, declare_sign}
use Rattle.jsx_token.specs.Here.{place_of}
use Rattle.jsx_declaration.proofs.Heads.{no_initial}
use Rattle.jsx_declaration.proofs.Overs.{marked_over}
use Rattle.jsx_declaration.proofs.PlacedNodes.{no_initial_placed}
use Rattle.jsx_tree.proofs.Rows.Bridge.{found_at}
use Rattle.jsx_token.specs.Places.{Takes, next_of}
use Rattle.jsx_operand.proofs.Steps.{passed}
use Rattle.jsx_declaration.proofs.for_head.head.Goals as goal

pub returns-then-take-clause-read : goal.returns-then-take-clause-read
returns-then-take-clause-read g c = record {
  initial = no_initial (record { is = c.take.ensures.taken c.if-take.true; found = refl });
  closed = refl;
  over = marked_over (found_at (sym (c.take.ensures.taken c.if-take.true)) refl);
}

pub returns-then-take-clause-placed : goal.returns-then-take-clause-placed
returns-then-take-clause-placed g c = no_initial_placed (c.take.ensures.takes c.if-take.true)

pub value_head-requires-clause-value : goal.value_head-requires-clause-value
value_head-requires-clause-value g c = record {
  undeclared = subst (λ h. NoDeclaring (place_of h)) (sym c.in_default.ensures.stays) c.in_default.ensures.missing;
  unmarked = record { is = subst (λ h. forth (pun ";") (place_of h) ≡ Lost) (sym (c.in_default.ensures.stays ∙ c.take.ensures.stays c.if-take.false)) (c.take.ensures.missing c.if-take.false) };
}

pub returns-clause-read : goal.returns-clause-read
returns-clause-read g c = c.in_ok-declared_head.ensures.read.on _ (record { is = c.in-Some.ensures.taken ∙ ap (λ h. forth (declare_sign c.in-Some.word) (place_of h)) (c.take.ensures.stays c.if-take.false); found = refl })

pub returns-in_err-declared_head-clause-refused : goal.returns-in_err-declared_head-clause-refused
returns-in_err-declared_head-clause-refused g c =
    passed _ c.in_err-declared_head.ensures.refused c.from_residual-in_err-declared_head.ensures.1
    (λ n. n.no _ (record { is = c.in-Some.ensures.taken ∙ ap (λ h. forth (declare_sign c.in-Some.word) (place_of h)) (c.take.ensures.stays c.if-take.false); found = refl }))

pub returns-clause-placed : goal.returns-clause-placed
returns-clause-placed g c =
    c.in_ok-declared_head.ensures.placed.on c.args.lexer.now (subst (λ h. Takes (declare_sign c.in-Some.word) h c.declare_word.new.lexer) (c.take.ensures.stays c.if-take.false) c.in-Some.ensures.takes) (c.in-Some.ensures.begins ∙ ap next_of (c.take.ensures.stays c.if-take.false))
