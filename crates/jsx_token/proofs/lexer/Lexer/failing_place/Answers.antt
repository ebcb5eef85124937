use Rattle.std.proofs.Common.{sym, ap, ◌∙◌, arith}
use Rattle.std.specs.Str.{chars}
use Rattle.jsx_base.specs.Lines.{size}
use Rattle.jsx_base.proofs.LineParts.{size-append}
use Rattle.jsx_lex.specs.Stand.{rest_of}
use Rattle.jsx_token.specs.Places.{at_next, next_of}
use Rattle.jsx_token.proofs.Taking.{parted_too}
use Rattle.jsx_token.proofs.lexer.Lexer.failing_place.Goals as goal

pub returns : goal.returns
returns c =
    let n = c.self.inside.is_seen c.in-Some.seen c.in-Some.is in
    let parts = parted_too n (sym c.is_behind_gap.ensures ∙ c.if-not-is_behind_gap.false) in
    at_next (omega (arith, size-append (chars c.in-Some.seen.token.raw.now) (rest_of c.in-Some.seen.behind), ap size parts, ap next_of c.self.view_is, c.saturating_sub.ensures, c.saturating_sub-place.ensures, c.bytes.ensures, c.bytes-2.ensures, ap (λ s. size (chars s)) c.rest.ensures))
