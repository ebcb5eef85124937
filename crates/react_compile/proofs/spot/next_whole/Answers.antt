use Rattle.std.proofs.Common.{◌≡◌, ◌++◌, sym, ap, ◌∙◌, arith}
use Rattle.std.specs.Str.{chars}
use Rattle.std.specs.Prelude.{encode_utf8}
use Rattle.std.proofs.lemmas.List.{nil_from_length}
use Rattle.std.proofs.lemmas.Str.{chars-nil}
use Rattle.jsx_base.specs.Lines.{front}
use Rattle.jsx_base.proofs.Walks.{begins_with, none_whole}
use Rattle.react_compile.proofs.spot.next_whole.Goals as goal

pub returns-in-None : goal.returns-in-None
returns-in-None c = ap (λ bs. front (chars bs) c.args.left) (sym c.chars-chars.ensures.rest ∙ nil_from_length _ c.in-None.ensures.steps.0.0) ∙ ap (λ text. front text c.args.left) chars-nil

pub returns-then-len_utf8-left : goal.returns-then-len_utf8-left
returns-then-len_utf8-left c =
    let e : c.args.text.now ≡ encode_utf8 c.in-Some.c ++ c.as_str.result.now =
    sym c.chars-chars.ensures.rest ∙ c.in-Some.ensures.steps.0 ∙ ap (λ t. encode_utf8 c.in-Some.c ++ t) (sym c.as_str.ensures) in
    begins_with c.args.text.now c.as_str.result.now c.args.left c.in-Some.c c.utf8.text e (omega (arith, c.len_utf8.ensures.value, c.if-len_utf8-left.true))

pub returns-else-len_utf8-left : goal.returns-else-len_utf8-left
returns-else-len_utf8-left c =
    none_whole c.args.text.now _ c.args.left c.in-Some.c c.utf8.text (sym c.chars-chars.ensures.rest ∙ c.in-Some.ensures.steps.0) (omega (arith, c.len_utf8.ensures.value, c.if-len_utf8-left.false))
