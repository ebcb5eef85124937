use Rattle.std.proofs.Common.{refl, sym, ◌∙◌, subst}
use Rattle.std.specs.Prelude.{IsTrue}
use Rattle.jsx_tree.specs.Walk.{is_found}
use Rattle.jsx_tree.proofs.Signs.{semi_too}
use Rattle.jsx_token.specs.Here.{place_of}
use Rattle.jsx_token.proofs.lexer.Lexer.semicolon.Goals as goal

pub returns-then-take-clause-taken : goal.returns-then-take-clause-taken
returns-then-take-clause-taken c =
    let taken = c.take.ensures.taken c.if-take.true in
    λ _. taken ∙ sym (semi_too (place_of c.args.self.now) (subst (λ p. IsTrue (is_found p)) taken refl))

pub returns-then-take-clause-takes : goal.returns-then-take-clause-takes
returns-then-take-clause-takes c =
    let takes = c.take.ensures.takes c.if-take.true in
    λ _. record { leads = semi_too (place_of c.args.self.now) (subst (λ p. IsTrue (is_found p)) (sym takes.leads) refl) ∙ takes.leads; same = takes.same }
