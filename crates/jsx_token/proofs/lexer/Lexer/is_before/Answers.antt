use Rattle.std.proofs.Common.{sym, ap, ◌∙◌, subst}
use Rattle.jsx_tree.specs.Reading.{forth}
use Rattle.jsx_tree.specs.Walk.{is_found}
use Rattle.jsx_token.specs.Here.{place_of}
use Rattle.jsx_token.specs.Seen.{IsNext, NoNext}
use Rattle.jsx_token.specs.Spelled.{fixed_kind, fixed_text}
use Rattle.jsx_token.proofs.Taking.{fixed_some, none_by, seen_by, sign_is}
use Rattle.jsx_token.proofs.lexer.Lexer.is_before.Goals as goal

pub returns-in_default-clause-ahead : goal.returns-in_default-clause-ahead
returns-in_default-clause-ahead c =
    let n = subst (λ m. NoNext m c.args.self.now) c.mode.ensures c.in_default.ensures.found in
    sym (ap is_found (ap (λ s. forth s (place_of c.args.self.now)) (sign_is c.args.fixed) ∙ none_by (fixed_kind c.args.fixed) (fixed_text c.args.fixed) (fixed_some c.args.fixed) n))

pub returns-clause-ahead : goal.returns-clause-ahead
returns-clause-ahead c =
    let n = subst (λ m. IsNext m c.args.self.now c.in-Some.seen.token c.in-Some.seen.behind) c.mode.ensures c.in-Some.ensures.found in
    c.is.ensures ∙ (seen_by (fixed_kind c.args.fixed) (fixed_text c.args.fixed) n ∙ ap (λ s. is_found (forth s (place_of c.args.self.now))) (sym (sign_is c.args.fixed)))
