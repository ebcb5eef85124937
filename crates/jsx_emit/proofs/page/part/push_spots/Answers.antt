use Rattle.std.proofs.Common.{map, refl}
use Rattle.std.specs.Prelude.{string_bytes}
use Rattle.jsx_emit.specs.Page.{Look}
use Rattle.jsx_draw.specs.Views.{shown_file, spot_of, wide_of}
use Rattle.jsx_emit.proofs.Own.{files_shown, sheet_is, spot_rows_if}
use Rattle.jsx_emit.proofs.page.part.push_spots.Goals as goal

pub returns : goal.returns
returns g c =
    let look : Look = record { ui_testing = c.args.look.ui_testing; skip_filename = c.args.look.skip_filename; offset_line = g.M.SourceMapper.offset_line c.args.cm.now } in
    let all = c.args.spots.now in
    let narrow = c.in_ok-narrow.narrow.items in
    let lines = c.in_ok-lines.lines.items in
    let wides = c.in_ok-wides.wides.items in
    let same = sheet_is spot_of wide_of look c.args.width c.depth_of.result all narrow lines wides (map spot_of all) refl c.in_ok-narrow.ensures c.in_ok-lines.ensures (rw c.deref.ensures.value at c.in_ok-wides.ensures) (rw c.deref-4.ensures.value at c.depth_of.ensures) in
    let shown = files_shown c.args.start (map spot_of narrow) (map spot_of lines) (map spot_of all) (map shown_file c.in_ok-files.files.items) (map shown_file c.put_first.new.files.items) c.in_ok-narrow.ensures c.in_ok-lines.ensures (rw (c.deref-2.ensures.value, c.deref-3.ensures.value) at c.in_ok-files.ensures) c.put_first.ensures in
    spot_rows_if look _ _ _ _ (string_bytes c.args.text.now) (string_bytes c.push_files.new.text) c.push_files.result same shown
    (rw (c.deref-5.ensures.value, c.deref-6.ensures.value, c.deref-7.ensures.value) at c.push_files.ensures)
