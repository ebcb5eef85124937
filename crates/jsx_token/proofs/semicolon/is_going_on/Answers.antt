use Rattle.std.proofs.Common.{◌∙◌, ap, Bor}
use Rattle.std.specs.List.{list_any, slice_get}
use Rattle.std.specs.Str.{bytes_eq}
use Rattle.jsx_base.specs.Token.{Text}
use Rattle.jsx_tree.specs.Reading.{going_on}
use Rattle.jsx_token.proofs.Spellings.{any_going_on}
use Rattle.jsx_token.proofs.Tables.{any_from, any_map, begins_nothing}
use Rattle.jsx_token.proofs.semicolon.is_going_on.Goals as goal

pub returns-in-Some : goal.returns-in-Some
returns-in-Some c =
    let bs = c.args.raw.now in
    let test = λ (w : Text). bytes_eq w bs in
    c.contains.ensures.value ∙ (any_map test (λ (w : Bor Text). w.now) c.going_on_from.result.now ∙ (ap (list_any test) c.going_on_from.ensures
    ∙ (any_from c.in-Some.field-0.now bs going_on (c.in-Some.ensures.value ∙ ap (λ s. slice_get s 0) c.as_bytes.ensures.value) ∙ any_going_on bs c.utf8.raw)))

pub returns-in-None : goal.returns-in-None
returns-in-None c =
    let bs = c.args.raw.now in
    ap (λ t. list_any (λ w. bytes_eq w t) going_on) (begins_nothing bs (c.in-None.ensures.value ∙ ap (λ s. slice_get s 0) c.as_bytes.ensures.value)) ∙ any_going_on bs c.utf8.raw
