use Rattle.std.proofs.Common.{◌≡◌, ◌+◌, ◌++◌, ap, codes, map, ◌∙◌}
use Rattle.std.specs.Prelude.{decimal, string_bytes}
use Rattle.std.specs.Str.{chars}
use Rattle.std.proofs.lemmas.Str.{IsUtf8-string_bytes}
use Rattle.jsx_base.specs.SourceFile.{shared_file}
use Rattle.jsx_base.specs.SpanPlaces.{shown}
use Rattle.jsx_emit.specs.Sheets.{first_col}
use Rattle.jsx_emit.specs.Written.{bar_row}
use Rattle.jsx_draw.specs.Drawn.{marks_in}
use Rattle.jsx_emit.specs.Page.{blanks}
use Rattle.jsx_draw.specs.Views.{shown_line, spot_of, wide_of}
use Rattle.jsx_emit.proofs.LineRows.{open_row, other_row, shown_is, three_rows_if}
use Rattle.jsx_emit.proofs.page.part.push_other_place.Goals as goal

pub returns : goal.returns
returns g c =
    let w = c.args.sheet.width in
    let file = shared_file c.args.at.file.now in
    let col = first_col (marks_in (map spot_of c.args.sheet.singles.now) (map wide_of c.args.sheet.wides.now) (shown_line c.args.at)) in
    let line = g.M.SourceMapper.offset_line c.args.cm.now c.args.at.line in
    let want = shown file.name ++ (codes ":" ++ (decimal line ++ (codes ":" ++ decimal col))) in
    let place : string_bytes c.in_ok-shown.shown ≡ want =
    (rw c.deref.ensures at c.in_ok-shown.ensures)
    ∙ shown_is c.args.at.file.now.value.name c.doctest_offset_line.result line c.in_ok-first_col.field-0 col c.doctest_offset_line.ensures ((rw c.deref-2.ensures.value at c.in_ok-first_col.ensures) ∙ ap first_col c.in_ok-marks.ensures) in
    three_rows_if (blanks (w + 1) ++ codes "| ") (chars (blanks w ++ (codes "::: " ++ want))) (bar_row w) (string_bytes c.args.text.now) (string_bytes c.push_row.new.text) (string_bytes c.push_row-2.new.text) (string_bytes c.push_bar_row.new.text) c.push_bar_row.result
    (open_row w (string_bytes c.args.text.now) (string_bytes c.push_blanks.new.text) (string_bytes c.push_row.new.text) c.in_ok-push_blanks.ensures c.in_ok-push_row.ensures)
    (other_row w (string_bytes c.in_ok-shown.shown) want (string_bytes c.push_row.new.text) (string_bytes c.push_blanks-2.new.text) (string_bytes c.push_row-2.new.text) (IsUtf8-string_bytes c.in_ok-shown.shown) place c.in_ok-push_blanks-2.ensures (rw c.as_str.ensures.value at c.in_ok-push_row-2.ensures))
    c.push_bar_row.ensures
