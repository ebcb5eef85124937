use Rattle.std.proofs.Common.{◌≡◌, ◌<◌, true, sym, ap, ◌∙◌, subst}
use Rattle.jsx_tree.specs.Reading.{forth}
use Rattle.jsx_token.specs.Here.{place_of, left}
use Rattle.jsx_token.specs.Seen.{IsNext, is_it}
use Rattle.jsx_token.specs.Places.{begin_of}
use Rattle.jsx_token.specs.Spelled.{fixed_kind, fixed_text}
use Rattle.jsx_token.proofs.Taking.{begins_alike, taken_by, missing_by, begins_by, shorter_by, fixed_kind_is, fixed_raw, fixed_skips, sign_is}
use Rattle.jsx_token.proofs.lexer.Lexer.take.Goals as goal

pub returns-then-not-is-clause-missing : goal.returns-then-not-is-clause-missing
returns-then-not-is-clause-missing c =
    let n = subst (λ m. IsNext m c.args.self.now c.in-Some.seen.token c.in-Some.seen.behind) c.mode.ensures c.in-Some.ensures.found in
    λ _. ap (λ s. forth s (place_of c.args.self.now)) (sign_is c.args.fixed) ∙ missing_by (fixed_kind c.args.fixed) (fixed_text c.args.fixed) n (sym c.is.ensures ∙ c.if-not-is.true)

pub step-requires-clause-full : goal.step-requires-clause-full
step-requires-clause-full c = fixed_raw c.args.fixed c.in-Some.seen.token (sym c.is.ensures ∙ c.if-not-is.false)

pub returns-clause-taken : goal.returns-clause-taken
returns-clause-taken c =
    let n = subst (λ m. IsNext m c.args.self.now c.in-Some.seen.token c.in-Some.seen.behind) c.mode.ensures c.in-Some.ensures.found in
    λ _. ap place_of c.step.ensures ∙ taken_by (fixed_kind c.args.fixed) (fixed_text c.args.fixed) n (sym c.is.ensures ∙ c.if-not-is.false)
    ∙ sym (ap (λ s. forth s (place_of c.args.self.now)) (sign_is c.args.fixed))

pub returns-clause-begins : goal.returns-clause-begins
returns-clause-begins c =
    let n = subst (λ m. IsNext m c.args.self.now c.in-Some.seen.token c.in-Some.seen.behind) c.mode.ensures c.in-Some.ensures.found in
    λ _. ap begin_of c.step.ensures ∙ begins_alike c.in-Some.seen.token.raw.now c.in-Some.seen.behind c.look.ensures.stays ∙ begins_by n (fixed_skips c.args.fixed) (fixed_kind_is c.args.fixed c.in-Some.seen.token (sym c.is.ensures ∙ c.if-not-is.false))

pub returns-clause-shorter : goal.returns-clause-shorter
returns-clause-shorter c =
    let n = subst (λ m. IsNext m c.args.self.now c.in-Some.seen.token c.in-Some.seen.behind) c.mode.ensures c.in-Some.ensures.found in
    let is : is_it c.in-Some.seen.token (fixed_kind c.args.fixed) (fixed_text c.args.fixed) ≡ true = sym c.is.ensures ∙ c.if-not-is.false in
    λ _. subst (λ y. left y < left c.args.self.now) (sym c.step.ensures)
    (shorter_by n (fixed_skips c.args.fixed) (fixed_kind_is c.args.fixed c.in-Some.seen.token is) (fixed_raw c.args.fixed c.in-Some.seen.token is))

pub returns-clause-takes : goal.returns-clause-takes
returns-clause-takes c = λ i. record { leads = sym (returns-clause-taken c i); same = ap (λ h. h.end) c.step.ensures ∙ ap (λ h. h.end) c.look.ensures.stays }
