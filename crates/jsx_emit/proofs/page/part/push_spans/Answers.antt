use Rattle.std.proofs.Common.{◌≡◌, ap, map, ◌∙◌}
use Rattle.std.specs.Prelude.{string_bytes}
use Rattle.std.specs.List.{flat_map}
use Rattle.jsx_base.specs.Locs.{loc_data}
use Rattle.jsx_base.specs.MultiSpan.{Label, spans_of}
use Rattle.jsx_draw.specs.Spots.{held_in, primary_first, shown_files, spot_in, spots}
use Rattle.jsx_emit.specs.Page.{Look}
use Rattle.jsx_emit.specs.Sheets.{sheet_for}
use Rattle.jsx_draw.specs.Views.{spot_of}
use Rattle.jsx_emit.proofs.Own.{span_rows_if}
use Rattle.jsx_emit.proofs.page.part.push_spans.Goals as goal

pub returns-clause-rows : goal.returns-clause-rows
returns-clause-rows g c =
    let look : Look = record { ui_testing = c.args.look.ui_testing; skip_filename = c.args.look.skip_filename; offset_line = g.M.SourceMapper.offset_line c.args.cm.now } in
    let files = g.M.SourceMapper.files c.args.cm.now in
    let spans = spans_of c.args.spans.now in
    let all = c.in_ok-spots.spots.items in
    let place = loc_data c.in-Some.place in
    let are : map spot_of all ≡ spots files spans = (rw c.deref.ensures.value at c.in_ok-spots.ensures) ∙ ap (flat_map (λ (it : Label). spot_in (held_in files it.span) it)) c.in_ok-labels.ensures in
    span_rows_if look files c.args.width spans place (sheet_for look c.args.width (map spot_of all)) (primary_first place.file.start (shown_files (map spot_of all))) (string_bytes c.args.text.now) (string_bytes c.push_place_line.new.text) (string_bytes c.push_spots.new.text) c.push_spots.result c.in-Some.ensures
    (ap (sheet_for look c.args.width) are)
    (ap (λ z. primary_first place.file.start (shown_files z)) are)
    c.in_ok-push_place_line.ensures.added
    (rw (c.deref-2.ensures, c.deref-3.ensures.value) at c.push_spots.ensures)
