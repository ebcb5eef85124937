use Rattle.std.proofs.Common.{◌∙◌, ap, Bor}
use Rattle.std.specs.List.{list_any, slice_get}
use Rattle.std.specs.Str.{bytes_eq}
use Rattle.jsx_base.specs.Token.{Text}
use Rattle.jsx_tree.specs.Nonterminals as grammar
use Rattle.jsx_token.proofs.Spellings.{any_reserved}
use Rattle.jsx_token.proofs.Tables.{any_from, any_map, begins_nothing}
use Rattle.jsx_token.proofs.identifiers.is_reserved.Goals as goal

pub returns-in-Some : goal.returns-in-Some
returns-in-Some c =
    let bs = c.args.name.now in
    let test = λ (w : Text). bytes_eq w bs in
    c.is_among.ensures ∙ (any_map test (λ (w : Bor Text). w.now) c.reserved_from.result.now ∙ (ap (list_any test) c.reserved_from.ensures
    ∙ (any_from c.in-Some.field-0.now bs grammar.reserved (c.in-Some.ensures.value ∙ ap (λ s. slice_get s 0) c.as_bytes.ensures.value) ∙ any_reserved bs c.utf8.name)))

pub returns-in-None : goal.returns-in-None
returns-in-None c =
    let bs = c.args.name.now in
    ap (λ t. list_any (λ w. bytes_eq w t) grammar.reserved) (begins_nothing bs (c.in-None.ensures.value ∙ ap (λ s. slice_get s 0) c.as_bytes.ensures.value)) ∙ any_reserved bs c.utf8.name
