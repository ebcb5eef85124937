-- Lines that are added to a page with what stands under and between them.
use Rattle.std.proofs.Common.{◌≡◌, ℕ, ◌+◌, ◌<◌, ◌≤◌, List, [], ◌∷◌, ◌++◌, map, take, length, get_or, arith, refl, ap, sym, ◌∙◌, append_assoc, append-nil}
use Rattle.std.specs.Prelude.{Result, Ok, Err, OnOk}
use Rattle.std.specs.List.{flat_map}
use Rattle.std.proofs.lemmas.List.{length-map, take_all}
use Rattle.jsx_base.specs.Files.{File}
use Rattle.jsx_diag.specs.Data.{Text}
use Rattle.jsx_emit.specs.Page.{Look, rows_text}
use Rattle.jsx_draw.specs.Spots.{ShownFile}
use Rattle.jsx_emit.specs.Sheets.{Sheet, block, file_blocks, gap_before, line_blocks, other_file}
use Rattle.jsx_emit.specs.Written.{bar_row}
use Rattle.jsx_draw.proofs.Loops.{flat_last}
use Rattle.jsx_draw.proofs.Orders.{take_next}
use Rattle.jsx_emit.proofs.Rows.{rows_text-append}

pub blocks_are : (sheet : Sheet) (file : File) (line : ℕ) (more : List ℕ) → line_blocks sheet file (line ∷ more) ≡ block sheet (record { file = file; line = line }) ++ (gap_before sheet file line more ++ line_blocks sheet file more)
blocks_are sheet file line [] = sym (append-nil (block sheet (record { file = file; line = line })))
blocks_are sheet file line (next ∷ more) = refl

-- rows that were added, and more of them
pub added_both : (xs ys : List (List ℕ)) (a b c : Text) → b ≡ a ++ rows_text xs → c ≡ b ++ rows_text ys → c ≡ a ++ rows_text (xs ++ ys)
added_both xs ys a b c e1 e2 = e2 ∙ ap (λ z. z ++ rows_text ys) e1 ∙ append_assoc a (rows_text xs) (rows_text ys) ∙ ap (λ z. a ++ z) (sym (rows_text-append xs ys))

pub block_more : (sheet : Sheet) (file : File) (line : ℕ) (left more : List ℕ) (old a b c : Text) → left ≡ line ∷ more → b ≡ a ++ rows_text (block sheet (record { file = file; line = line })) → c ≡ b ++ rows_text (gap_before sheet file line more) → a ++ rows_text (line_blocks sheet file left) ≡ old → c ++ rows_text (line_blocks sheet file more) ≡ old
block_more sheet file line left more old a b c split e1 e2 before =
    let here = block sheet (record { file = file; line = line }) in
    let between = gap_before sheet file line more in
    let behind = line_blocks sheet file more in
    ap (λ z. z ++ rows_text behind) (added_both here between a b c e1 e2)
    ∙ append_assoc a (rows_text (here ++ between)) (rows_text behind)
    ∙ ap (λ z. a ++ z) (sym (rows_text-append (here ++ between) behind) ∙ ap rows_text (append_assoc here between behind ∙ sym (blocks_are sheet file line more) ∙ ap (line_blocks sheet file) (sym split)))
    ∙ before

pub block_all : (sheet : Sheet) (file : File) (left : List ℕ) (a old : Text) → left ≡ [] → a ++ rows_text (line_blocks sheet file left) ≡ old → a ≡ old
block_all sheet file left a old none before = sym (append-nil a) ∙ sym (ap (λ z. a ++ rows_text (line_blocks sheet file z)) none) ∙ before

pub added_both_if : {X : Type 0} (xs ys : List (List ℕ)) (a b c : Text) (r : Result (Unit {0}) X) → b ≡ a ++ rows_text xs → OnOk r (c ≡ b ++ rows_text ys) → OnOk r (c ≡ a ++ rows_text (xs ++ ys))
added_both_if xs ys a b c (Ok x) e1 e2 = added_both xs ys a b c e1 e2
added_both_if xs ys a b c (Err e) e1 e2 = tt

pub rows_more : {X Y : Type 0} (h : Y → List (List ℕ)) (f : X → Y) (xs : List X) (i : ℕ) (x : X) (old now new : Text) → i < length xs → x ≡ get_or xs i x → now ≡ old ++ rows_text (flat_map h (take i (map f xs))) → new ≡ now ++ rows_text (h (f x)) → new ≡ old ++ rows_text (flat_map h (take (i + 1) (map f xs)))
rows_more h f xs i x old now new within at before is =
    let done = take i (map f xs) in
    added_both (flat_map h done) (h (f x)) old now new before is
    ∙ ap (λ z. old ++ rows_text z) (sym (ap (flat_map h) (take_next f xs i x within at) ∙ flat_last h done (f x)))

pub rows_whole : {X Y : Type 0} (h : Y → List (List ℕ)) (f : X → Y) (xs : List X) (i : ℕ) (old now : Text) → length xs ≤ i → now ≡ old ++ rows_text (flat_map h (take i (map f xs))) → now ≡ old ++ rows_text (flat_map h (map f xs))
rows_whole h f xs i old now all is = is ∙ ap (λ z. old ++ rows_text (flat_map h z)) (take_all i (map f xs) (omega (arith, all, length-map xs f)))

-- the lines of the first file, and the others
pub files_if : {X : Type 0} (look : Look) (sheet : Sheet) (first : ShownFile) (more all : List ShownFile) (old a b c : Text) (r : Result (Unit {0}) X) → all ≡ first ∷ more → a ≡ old ++ rows_text (bar_row sheet.width ∷ []) → b ≡ a ++ rows_text (line_blocks sheet first.file first.lines) → OnOk r (c ≡ b ++ rows_text (flat_map (other_file look sheet) more)) → OnOk r (c ≡ old ++ rows_text (file_blocks look sheet all))
files_if look sheet first more all old a b c (Err e) is e1 e2 e3 = tt
files_if look sheet first more all old a b c (Ok u) is e1 e2 e3 =
    let lines = line_blocks sheet first.file first.lines in
    added_both (bar_row sheet.width ∷ lines) (flat_map (other_file look sheet) more) old b c (added_both (bar_row sheet.width ∷ []) lines old a b e1 e2) e3
    ∙ ap (λ z. old ++ rows_text (file_blocks look sheet z)) (sym is)

pub no_files : (look : Look) (sheet : Sheet) (all : List ShownFile) (old : Text) → all ≡ [] → old ≡ old ++ rows_text (file_blocks look sheet all)
no_files look sheet all old none = sym (append-nil old) ∙ ap (λ z. old ++ rows_text (file_blocks look sheet z)) (sym none)
