-- The rows of a report's spans, and its own part.
use Rattle.std.proofs.Common.{◌≡◌, ℕ, not, List, [], ◌∷◌, ◌++◌, Option, Some, filter, map, refl, ap, sym, ◌∙◌, subst}
use Rattle.std.specs.Prelude.{Result, Ok, Err, OnOk}
use Rattle.std.specs.Option.{option_map}
use Rattle.std.specs.Str.{chars}
use Rattle.jsx_base.specs.Files.{File, Place}
use Rattle.jsx_base.specs.MultiSpan.{Spans}
use Rattle.jsx_diag.specs.declared.diagnostic.DiagnosticId.{DiagnosticId}
use Rattle.jsx_diag.specs.declared.level.Level.{Level}
use Rattle.jsx_diag.specs.declared.message.Message.{Message}
use Rattle.jsx_diag.specs.Data.{Text, code_of, piece_of}
use Rattle.jsx_emit.specs.Page.{Look, message_text, place_line, spaced, rows_text}
use Rattle.jsx_draw.specs.Spots.{ShownFile, Spot, by_lines, greatest, is_single, primary_first, primary_place, shown_files, spots, spots_put}
use Rattle.jsx_emit.specs.Layout.{header}
use Rattle.jsx_emit.specs.Parts.{PlaceIsText}
use Rattle.jsx_emit.specs.Shows.{OwnPart}
use Rattle.jsx_emit.specs.Sheets.{RowsOf, Sheet, SpanRows, file_blocks, sheet_for, wides_in}
use Rattle.jsx_draw.specs.Drawn.{Wide, side_by_side}
use Rattle.jsx_emit.proofs.Blocks.{added_both}
use Rattle.jsx_emit.proofs.Part.{behind_of, header_is_text, headed_rows}
use Rattle.jsx_emit.proofs.Sole.{AllText, rows_told}

-- ---- what lines are drawn by

seen_twice : {X Y Z : Type 0} (g : X → Y) (h : Y → Z) (xs : List X) → map h (map g xs) ≡ map (λ x. h (g x)) xs
seen_twice g h [] = refl
seen_twice g h (x ∷ xs) = ap (λ z. h (g x) ∷ z) (seen_twice g h xs)

pub sheet_is : {X Y : Type 0} (f : X → Spot) (g : Y → Wide) (look : Look) (w depth : ℕ) (all narrow lines : List X) (wides : List Y) (ss : List Spot) → map f all ≡ ss → map f narrow ≡ filter is_single (map f all) → map f lines ≡ by_lines (filter (λ spot. not (is_single spot)) (map f all)) → map g wides ≡ side_by_side (map f lines) → depth ≡ greatest (map (λ y. (g y).depth) wides) → record { ui_testing = look.ui_testing; width = w; depth = depth; singles = map f narrow; wides = map g wides } ≡ sheet_for look w ss
sheet_is f g look w depth all narrow lines wides ss is singles wide beside deep =
    let ws : map g wides ≡ wides_in ss = beside ∙ ap side_by_side (wide ∙ ap (λ z. by_lines (filter (λ spot. not (is_single spot)) z)) is) in
    let ns : map f narrow ≡ filter is_single ss = singles ∙ ap (filter is_single) is in
    let deepest : depth ≡ greatest (map (λ (it : Wide). it.depth) (wides_in ss)) = deep ∙ ap greatest (sym (seen_twice g (λ (it : Wide). it.depth) wides)) ∙ ap (λ z. greatest (map (λ (it : Wide). it.depth) z)) ws in
    ap (λ n. record { ui_testing = look.ui_testing; width = w; depth = n; singles = map f narrow; wides = map g wides }) deepest
    ∙ ap (λ z. record { ui_testing = look.ui_testing; width = w; depth = greatest (map (λ (it : Wide). it.depth) (wides_in ss)); singles = z; wides = map g wides }) ns
    ∙ ap (λ z. record { ui_testing = look.ui_testing; width = w; depth = greatest (map (λ (it : Wide). it.depth) (wides_in ss)); singles = filter is_single ss; wides = z }) ws

pub files_shown : (start : ℕ) (narrow lines ss : List Spot) (made put : List ShownFile) → narrow ≡ filter is_single ss → lines ≡ by_lines (filter (λ spot. not (is_single spot)) ss) → made ≡ spots_put (narrow ++ lines) [] → put ≡ primary_first start made → put ≡ primary_first start (shown_files ss)
files_shown start narrow lines ss made put singles wide is first =
    first ∙ ap (primary_first start) (is ∙ ap (λ z. spots_put (z ++ lines) []) singles ∙ ap (λ z. spots_put (filter is_single ss ++ z) []) wide)

pub spot_rows_if : {X : Type 0} (look : Look) (sheet want : Sheet) (shown wanted : List ShownFile) (old new : Text) (r : Result (Unit {0}) X) → sheet ≡ want → shown ≡ wanted → OnOk r (new ≡ old ++ rows_text (file_blocks look sheet shown)) → OnOk r (new ≡ old ++ rows_text (file_blocks look want wanted))
spot_rows_if look sheet want shown wanted old new (Err e) same first is = tt
spot_rows_if look sheet want shown wanted old new (Ok u) same first is =
    is ∙ ap (λ z. old ++ rows_text (file_blocks look z shown)) same ∙ ap (λ z. old ++ rows_text (file_blocks look want z)) first

pub span_rows_if : {X : Type 0} (look : Look) (files : List File) (w : ℕ) (spans : Spans) (place : Place) (sheet : Sheet) (shown : List ShownFile) (old a new : Text) (r : Result (Unit {0}) X) → Some place ≡ primary_place files spans.primary → sheet ≡ sheet_for look w (spots files spans) → shown ≡ primary_first place.file.start (shown_files (spots files spans)) → a ≡ old ++ rows_text (chars (place_line look w place) ∷ []) → OnOk r (new ≡ a ++ rows_text (file_blocks look sheet shown)) → OnOk r (SpanRows look files w spans old new)
span_rows_if look files w spans place sheet shown old a new (Err e) found same first e1 e2 = tt
span_rows_if look files w spans place sheet shown old a new (Ok u) found same first e1 e2 = record {
  rows = chars (place_line look w place) ∷ file_blocks look sheet shown;
  is = added_both (chars (place_line look w place) ∷ []) (file_blocks look sheet shown) old a new e1 e2;
  are = subst (λ o. RowsOf look w (spots files spans) o (chars (place_line look w place) ∷ file_blocks look sheet shown)) found (ap (λ z. chars (place_line look w place) ∷ file_blocks look sheet z) first ∙ ap (λ (z : Sheet). chars (place_line look w place) ∷ file_blocks look z (primary_first place.file.start (shown_files (spots files spans)))) same);
}

-- ---- the own part

pub own_part : (look : Look) (files : List File) (w : ℕ) (l : Level) (code : Option DiagnosticId) (message : List Message) (spans : Spans) (a new : Text) → AllText spans.labels → a ≡ spaced (header l (option_map code_of code) (message_text (map piece_of message))) ++ 10 ∷ [] → SpanRows look files w spans a new → PlaceIsText look w (primary_place files spans.primary) → OwnPart look files w l (option_map code_of code) (message_text (map piece_of message)) spans new
own_part look files w l code message spans a new texts begins rows place =
    let utf8 = header_is_text l code message in
    let is = headed_rows a (header l (option_map code_of code) (message_text (map piece_of message))) new rows.rows utf8 begins rows.is in record {
      told = rows_told look files w l (option_map code_of code) (message_text (map piece_of message)) spans rows.rows new utf8 texts rows.are place is;
      rows = rows.rows;
      is = is;
      drawn = rows.are;
      behind = behind_of look w (spots files spans) (primary_place files spans.primary) rows.rows rows.are;
    }
