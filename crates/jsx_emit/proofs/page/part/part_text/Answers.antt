use Rattle.std.proofs.Common.{◌∷◌, ◌++◌, [], ap, map, ◌∙◌}
use Rattle.std.specs.Prelude.{string_bytes}
use Rattle.std.specs.Option.{option_map}
use Rattle.jsx_base.specs.MultiSpan.{spans_of}
use Rattle.jsx_diag.specs.Data.{code_of, piece_of}
use Rattle.jsx_emit.specs.Layout.{header}
use Rattle.jsx_emit.specs.Page.{message_text, spaced}
use Rattle.jsx_emit.proofs.Own.{own_part}
use Rattle.jsx_emit.proofs.Sole.{labels_are_text}
use Rattle.jsx_emit.proofs.page.part.part_text.Goals as goal

pub returns-clause-part : goal.returns-clause-part
unfolding lib.Utf8.encode
returns-clause-part g c =
    rw c.in-Some.is
    (own_part (record { ui_testing = c.args.look.ui_testing; skip_filename = c.args.look.skip_filename; offset_line = g.M.SourceMapper.offset_line c.in-Some.cm.now }) (g.M.SourceMapper.files c.in-Some.cm.now) c.args.width c.args.header.0 c.args.header.1.now c.args.header.2.now (spans_of c.args.spans.now) (string_bytes c.push.new.self) (string_bytes c.push_spans.new.text) (labels_are_text c.args.spans.now.span_labels.items)
    (c.in_ok-push.ensures.bytes ∙ ap (λ z. z ++ 10 ∷ []) (c.in_ok-push_header.ensures ∙ ap (λ z. z ++ spaced (header c.args.header.0 (option_map code_of c.args.header.1.now) (message_text (map piece_of c.args.header.2.now)))) c.new-text.ensures.bytes))
    c.in_ok-push_spans.ensures.rows c.in_ok-push_spans.ensures.is_text)
