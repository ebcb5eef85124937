-- The greatest line in which spans end.
use Rattle.std.proofs.Common.{◌≡◌, ℕ, ◌+◌, ◌<◌, List, [], ◌∷◌, ◌++◌, map, take, length, get_or, Option, Some, None, refl, ap, sym, ◌∙◌, arith}
use Rattle.std.specs.Prelude.{max}
use Rattle.std.specs.List.{flat_map}
use Rattle.std.proofs.lemmas.Grind.{flat_map-append}
use Rattle.std.proofs.lemmas.List.{map-append, append-nil}
use Rattle.jsx_base.specs.declared.multi_span.SpanLabel.{SpanLabel}
use Rattle.jsx_base.specs.Files.{File}
use Rattle.jsx_base.specs.MultiSpan.{Label, label_data}
use Rattle.jsx_diag.specs.declared.sub_diagnostic.SubDiagnostic.{SubDiagnostic}
use Rattle.jsx_diag.specs.Data.{Child, child_of}
use Rattle.jsx_draw.specs.Spots.{Spot, greatest, held_in, spot_in}
use Rattle.jsx_emit.specs.Layout.{end_line}
use Rattle.jsx_emit.specs.Texts.{end_in}
use Rattle.jsx_draw.proofs.Orders.{take_next}

max_assoc : (a b c : ℕ) → max a (max b c) ≡ max (max a b) c
max_assoc a b c = omega arith

greatest-append : (xs ys : List ℕ) → greatest (xs ++ ys) ≡ max (greatest xs) (greatest ys)
greatest-append [] ys = omega arith
greatest-append (x ∷ xs) ys = ap (max x) (greatest-append xs ys) ∙ max_assoc x (greatest xs) (greatest ys)

abbrev spots_of : List File → Label → List Spot
spots_of files it = spot_in (held_in files it.span) it

-- the greatest line in which the spans of labels end
abbrev pub labels_end : List File → List Label → ℕ
labels_end files labels = greatest (map (λ (spot : Spot). spot.reach.last.line) (flat_map (spots_of files) labels))

spot_end : (o : Option File) (it : Label) → greatest (map (λ (spot : Spot). spot.reach.last.line) (spot_in o it)) ≡ end_in it.span o
spot_end None it = refl
spot_end (Some file) it = omega arith

labels_more : (files : List File) (labels : List Label) (it : Label) → labels_end files (labels ++ it ∷ []) ≡ max (labels_end files labels) (end_in it.span (held_in files it.span))
labels_more files labels it =
    ap (λ z. greatest (map (λ (spot : Spot). spot.reach.last.line) z)) (flat_map-append (spots_of files) labels (it ∷ []) ∙ ap (λ z. flat_map (spots_of files) labels ++ z) (append-nil (spots_of files it)))
    ∙ ap greatest (map-append (λ (spot : Spot). spot.reach.last.line) (flat_map (spots_of files) labels) (spots_of files it))
    ∙ greatest-append (map (λ (spot : Spot). spot.reach.last.line) (flat_map (spots_of files) labels)) (map (λ (spot : Spot). spot.reach.last.line) (spots_of files it))
    ∙ ap (max (labels_end files labels)) (spot_end (held_in files it.span) it)

-- one label more of those that a loop has gone over
pub line_more : (files : List File) (labels : List SpanLabel) (i line more : ℕ) (it : SpanLabel) → i < length labels → it ≡ get_or labels i it → line ≡ labels_end files (take i (map label_data labels)) → more ≡ end_in it.span (held_in files it.span) → max line more ≡ labels_end files (take (i + 1) (map label_data labels))
line_more files labels i line more it within at before is =
    ap (λ z. max z more) before
    ∙ ap (max (labels_end files (take i (map label_data labels)))) is
    ∙ sym (ap (labels_end files) (take_next label_data labels i it within at) ∙ labels_more files (take i (map label_data labels)) (label_data it))

-- one note more
pub note_more : (files : List File) (notes : List SubDiagnostic) (i line more : ℕ) (it : SubDiagnostic) → i < length notes → it ≡ get_or notes i it → line ≡ greatest (map (λ (child : Child). end_line files child.span) (take i (map child_of notes))) → more ≡ end_line files (child_of it).span → max line more ≡ greatest (map (λ (child : Child). end_line files child.span) (take (i + 1) (map child_of notes)))
note_more files notes i line more it within at before is =
    let done = take i (map child_of notes) in
    let end : Child → ℕ = λ child. end_line files child.span in
    ap (λ z. max z more) before
    ∙ ap (max (greatest (map end done))) (is ∙ last_alone (end (child_of it)))
    ∙ sym (ap (λ z. greatest (map end z)) (take_next child_of notes i it within at) ∙ ap greatest (map-append end done (child_of it ∷ [])) ∙ greatest-append (map end done) (map end (child_of it ∷ [])))
  where
    last_alone : (n : ℕ) → n ≡ greatest (n ∷ [])
    last_alone n = omega arith
