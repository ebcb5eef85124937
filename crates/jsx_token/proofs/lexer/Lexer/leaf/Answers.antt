use Rattle.std.proofs.Common.{◌≡◌, ◌<◌, true, sym, ap, ◌∙◌, subst}
use Rattle.jsx_base.specs.Token.{is_kind}
use Rattle.jsx_lex.specs.Kinds.{kind_of}
use Rattle.jsx_token.specs.Here.{place_of, left, leaf_kind}
use Rattle.jsx_token.specs.Seen.{IsNext}
use Rattle.jsx_token.specs.Places.{begin_of}
use Rattle.jsx_token.proofs.Taking.{begins_alike, taken_by, begins_by, shorter_by, kind_some, leaf_some, leaf_skips, leaf_by, leaf_full, leaf_it}
use Rattle.jsx_token.proofs.lexer.Lexer.leaf.Goals as goal

pub step-requires-clause-full : goal.step-requires-clause-full
step-requires-clause-full c =
    let n = subst (λ m. IsNext m c.args.self.now c.in-Some.seen.token c.in-Some.seen.behind) c.mode.ensures c.in-Some.ensures.found in
    leaf_full c.args.leaf _ (leaf_by c.args.leaf n (sym c.is.ensures ∙ c.if-not-is.false))

pub returns-clause-taken : goal.returns-clause-taken
returns-clause-taken c =
    let n = subst (λ m. IsNext m c.args.self.now c.in-Some.seen.token c.in-Some.seen.behind) c.mode.ensures c.in-Some.ensures.found in
    ap place_of c.step.ensures ∙ taken_by (leaf_kind c.args.leaf) _ n (leaf_it c.args.leaf c.in-Some.seen.token (sym c.is.ensures ∙ c.if-not-is.false))

pub returns-clause-begins : goal.returns-clause-begins
returns-clause-begins c =
    let n = subst (λ m. IsNext m c.args.self.now c.in-Some.seen.token c.in-Some.seen.behind) c.mode.ensures c.in-Some.ensures.found in
    ap begin_of c.step.ensures ∙ begins_alike c.in-Some.seen.token.raw.now c.in-Some.seen.behind c.look.ensures.stays ∙ begins_by n (leaf_skips c.args.leaf) (kind_some _ (leaf_kind c.args.leaf) (leaf_some c.args.leaf) (sym c.is.ensures ∙ c.if-not-is.false))

pub returns-clause-shorter : goal.returns-clause-shorter
returns-clause-shorter c =
    let n = subst (λ m. IsNext m c.args.self.now c.in-Some.seen.token c.in-Some.seen.behind) c.mode.ensures c.in-Some.ensures.found in
    let is : is_kind (kind_of c.in-Some.seen.token.kind) (leaf_kind c.args.leaf) ≡ true = sym c.is.ensures ∙ c.if-not-is.false in
    subst (λ y. left y < left c.args.self.now) (sym c.step.ensures)
    (shorter_by n (leaf_skips c.args.leaf) (kind_some _ (leaf_kind c.args.leaf) (leaf_some c.args.leaf) is) (leaf_full c.args.leaf _ (leaf_by c.args.leaf n is)))

pub returns-clause-whole : goal.returns-clause-whole
returns-clause-whole c =
    let n = subst (λ m. IsNext m c.args.self.now c.in-Some.seen.token c.in-Some.seen.behind) c.mode.ensures c.in-Some.ensures.found in
    leaf_by c.args.leaf n (sym c.is.ensures ∙ c.if-not-is.false)

pub returns-clause-takes : goal.returns-clause-takes
returns-clause-takes c = record { leads = sym (returns-clause-taken c); same = ap (λ h. h.end) c.step.ensures ∙ ap (λ h. h.end) c.look.ensures.stays }
