use Rattle.std.proofs.Common.{ap, arith}
use Rattle.std.specs.Str.{chars}
use Rattle.jsx_base.specs.Lines.{size}
use Rattle.jsx_lex.specs.Stand.{rest_of}
use Rattle.jsx_token.specs.Places.{begin_of}
use Rattle.jsx_base.proofs.LineParts.{size-append}
use Rattle.jsx_token.proofs.lexer.Lexer.last_place.Goals as goal

pub returns : goal.returns
returns c =
    omega (arith, size-append (chars c.self.inside.last.now) (rest_of c.self.inside.here), ap begin_of c.self.view_is, c.saturating_sub.ensures, c.saturating_sub-place.ensures, c.bytes.ensures, c.bytes-2.ensures, ap (λ s. size (chars s)) c.rest.ensures)
