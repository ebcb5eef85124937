use Rattle.std.proofs.Common.{◌≡◌, ◌<◌, true, sym, ap, ◌∙◌, subst}
use Rattle.jsx_base.specs.Token.{is_kind}
use Rattle.jsx_lex.specs.Kinds.{kind_of}
use Rattle.jsx_token.specs.Here.{place_of, left, piece_kind}
use Rattle.jsx_token.specs.Places.{begin_of}
use Rattle.jsx_token.proofs.Taking.{begins_alike, taken_by, kind_some, piece_some, piece_by, piece_full, piece_it, piece_begins, piece_shorter}
use Rattle.jsx_token.proofs.lexer.Lexer.piece.Goals as goal

pub step-requires-clause-full : goal.step-requires-clause-full
step-requires-clause-full c = piece_full c.args.piece _ (piece_by c.args.piece c.in-Some.ensures.found (sym c.is.ensures ∙ c.if-not-is.false))

pub returns-clause-taken : goal.returns-clause-taken
returns-clause-taken c = ap place_of c.step.ensures ∙ taken_by (piece_kind c.args.piece) _ c.in-Some.ensures.found (piece_it c.args.piece c.in-Some.seen.token (sym c.is.ensures ∙ c.if-not-is.false))

pub returns-clause-begins : goal.returns-clause-begins
returns-clause-begins c = ap begin_of c.step.ensures ∙ begins_alike c.in-Some.seen.token.raw.now c.in-Some.seen.behind c.look.ensures.stays ∙ piece_begins c.in-Some.ensures.found (kind_some _ (piece_kind c.args.piece) (piece_some c.args.piece) (sym c.is.ensures ∙ c.if-not-is.false))

pub returns-clause-shorter : goal.returns-clause-shorter
returns-clause-shorter c =
    let is : is_kind (kind_of c.in-Some.seen.token.kind) (piece_kind c.args.piece) ≡ true = sym c.is.ensures ∙ c.if-not-is.false in
    subst (λ y. left y < left c.args.self.now) (sym c.step.ensures)
    (piece_shorter c.in-Some.ensures.found (kind_some _ (piece_kind c.args.piece) (piece_some c.args.piece) is) (piece_full c.args.piece _ (piece_by c.args.piece c.in-Some.ensures.found is)))

pub returns-clause-whole : goal.returns-clause-whole
returns-clause-whole c = piece_by c.args.piece c.in-Some.ensures.found (sym c.is.ensures ∙ c.if-not-is.false)

pub returns-clause-takes : goal.returns-clause-takes
returns-clause-takes c = record { leads = sym (returns-clause-taken c); same = ap (λ h. h.end) c.step.ensures ∙ ap (λ h. h.end) c.look.ensures.stays }
