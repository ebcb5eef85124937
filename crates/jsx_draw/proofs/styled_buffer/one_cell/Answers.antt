use Rattle.std.proofs.Common.{◌≡◌, ap, ◌∙◌, string_bytes, [], ◌∷◌, ◌++◌}
use Rattle.std.specs.Str.{chars}
use Rattle.std.specs.Char.{encode_utf8}
use Rattle.std.proofs.lemmas.Str.{IsUtf8-nil, IsUtf8-string_bytes, chars-nil}
use Rattle.jsx_draw.proofs.Grids.{pushed_char}
use Rattle.jsx_draw.proofs.styled_buffer.one_cell.Goals as goal

pub returns : goal.returns
returns c =
    let text : chars (string_bytes c.push.new.self) ≡ c.args.cell.0 ∷ [] =
    pushed_char [] (string_bytes c.push.new.self) c.args.cell.0 IsUtf8-nil (IsUtf8-string_bytes c.push.new.self) (c.in_ok-push.ensures.bytes ∙ ap (λ z. z ++ encode_utf8 c.args.cell.0) c.new-text.ensures.bytes)
    ∙ ap (λ z. z ++ c.args.cell.0 ∷ []) chars-nil in
    ap (λ z. record { text = z; style = c.args.cell.1 }) text
