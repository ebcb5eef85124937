-- Short pages.
use Rattle.std.proofs.Common.{◌≡◌, ℕ, ◌+◌, [], ◌∷◌, ◌++◌, refl, ap, sym, ◌∙◌, append_assoc, Option, Some, None}
use Rattle.std.specs.Prelude.{codes, decimal, Result, Ok, Err, OnOk, is_ok, if◌then◌else◌}
use Rattle.std.specs.Option.{option_map, unwrap_or}
use Rattle.jsx_base.specs.Files.{Place}
use Rattle.jsx_base.specs.SpanPlaces.{shown}
use Rattle.jsx_diag.specs.Data.{Text, Report}
use Rattle.jsx_emit.specs.Page.{spaced, message_text}
use Rattle.jsx_emit.specs.Layout.{header, place_before}
use Rattle.jsx_draw.specs.Spots.{primary_place}
use Rattle.jsx_emit.specs.Shows.{Map}
use Rattle.jsx_emit.specs.Texts.{before_header, before_place, short_page, whole_look}
use Rattle.jsx_emit.proofs.Pages.{spaced-append}

-- a place and what follows it
before_is : (offset : ℕ → ℕ) (place : Place) → before_place offset (Some place) ≡ place_before (whole_look offset) place
before_is offset place =
    let name = shown place.file.name in
    let line = decimal (offset place.line) in
    let col = decimal (place.col + 1) in
    append_assoc name (codes ":" ++ (line ++ (codes ":" ++ col))) (codes ": ")
    ∙ ap (λ z. name ++ (codes ":" ++ z)) (append_assoc line (codes ":" ++ col) (codes ": "))

before_any : (offset : ℕ → ℕ) (place : Option Place) → before_place offset place ≡ unwrap_or (option_map (place_before (whole_look offset)) place) []
before_any offset None = refl
before_any offset (Some place) = before_is offset place

-- the header behind what stands before it
short_is : (map : Option Map) (report : Report) → spaced (before_header map report.span.primary) ++ (spaced (header report.level report.code (message_text report.message)) ++ 10 ∷ []) ≡ short_page map report
short_is None report = refl
short_is (Some map) report =
    let place = primary_place map.files report.span.primary in
    let front = before_place map.offset_line place in
    let head = header report.level report.code (message_text report.message) in
    sym (append_assoc (spaced front) (spaced head) (10 ∷ []))
    ∙ ap (λ z. z ++ 10 ∷ []) (sym (spaced-append front head) ∙ ap (λ z. spaced (z ++ head)) (before_any map.offset_line place))

pub short_if : {X : Type 0} (map : Option Map) (report : Report) (old a b c : Text) (r : Result (Unit {0}) X) → a ≡ old ++ spaced (before_header map report.span.primary) → b ≡ a ++ spaced (header report.level report.code (message_text report.message)) → c ≡ (if is_ok r then b ++ 10 ∷ [] else b) → OnOk r (c ≡ old ++ short_page map report)
short_if map report old a b c (Err e) first second third = tt
short_if map report old a b c (Ok x) first second third =
    let head = spaced (header report.level report.code (message_text report.message)) in
    let front = spaced (before_header map report.span.primary) in
    third
    ∙ ap (λ z. z ++ 10 ∷ []) (second ∙ ap (λ z. z ++ head) first)
    ∙ append_assoc (old ++ front) head (10 ∷ [])
    ∙ append_assoc old front (head ++ 10 ∷ [])
    ∙ ap (λ z. old ++ z) (short_is map report)
