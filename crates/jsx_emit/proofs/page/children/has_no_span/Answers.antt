use Rattle.std.proofs.Common.{◌≡◌, ap, ◌∙◌, length, nat_eq, rules}
use Rattle.std.specs.Prelude.{vec_len}
use Rattle.jsx_base.specs.MultiSpan.{spans_of}
use Rattle.jsx_emit.proofs.Children.{points_nowhere}
use Rattle.jsx_emit.proofs.page.children.has_no_span.Goals as goal

pub returns : goal.returns
returns c =
    let count : vec_len c.in_ok-labels.labels ≡ length c.in_ok-labels.labels.items = search rules in
    points_nowhere (spans_of c.args.spans.now) c.in_ok-labels.labels.items c.is_empty.result c.in_ok-labels.ensures (c.is_empty.ensures ∙ ap (λ n. nat_eq n 0) count)
