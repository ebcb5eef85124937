-- The page of an error that points at one span, line by line.
use Rattle.std.specs.Prelude.{ℕ, ◌+◌, ◌-◌, List, [], ◌∷◌, ◌++◌, Option, Some, None, Bool, true, false, not, ◌&&◌, cond, nat_eq, nat_lt, length, map, take, replicate, codes, decimal, slice_get}
use Rattle.std.specs.Char.{is_whitespace}
use Rattle.std.specs.List.{flat_map, list_all, list_any, range_with_len}
use Rattle.std.specs.Option.{unwrap_or, is_none, option_map}
use Rattle.std.specs.Str.{encode_utf8_all}
use Rattle.jsx_base.specs.declared.place.Span.{Span}
use Rattle.jsx_base.specs.Files.{File, Place}
use Rattle.jsx_base.specs.Lines.{lines}
use Rattle.jsx_base.specs.MultiSpan.{Spans, is_span}
use Rattle.jsx_base.specs.SpanPlaces.{span_file, shown}
use Rattle.jsx_diag.specs.declared.level.Level.{Level}
use Rattle.jsx_diag.specs.declared.level.Level.TheVariants as level
use Rattle.jsx_diag.specs.Data.{Text, Piece, Code, Report}
use Rattle.jsx_draw.specs.Spots.{Reach, reach_in, mark_end}

-- how pages are made: whether numbers of lines and places are left out, and which number is shown for a line
pub record Look : Type 0 where
  pub ui_testing : Bool
  pub skip_filename : Bool
  pub offset_line : ℕ → ℕ

-- ---- parts of lines

abbrev pub blanks : ℕ → Text
blanks n = replicate n 32

-- how many cells the numbers of lines take, of which this is the greatest
abbrev pub number_width : Look → ℕ → ℕ
number_width look line = cond look.ui_testing 2 (length (decimal line))

-- a text that takes at least w cells
abbrev pub left_in : ℕ → Text → Text
left_in w text = text ++ blanks (w - length text)

abbrev pub number : Look → ℕ → ℕ → Text
number look w line = left_in w (cond look.ui_testing (codes "LL") (decimal line))

-- the characters of a line, from 1
abbrev pub line_chars : File → ℕ → List ℕ
line_chars file line = unwrap_or (slice_get (lines file.text) (line - 1)) []

-- the text of a line behind what stands before it, which ends in a blank that an empty line doesn't have
abbrev pub behind : Text → List ℕ → Text
behind before [] = before
behind before (c ∷ cs) = before ++ 32 ∷ encode_utf8_all (c ∷ cs)

-- what follows the last caret
abbrev pub label_text : Option Text → Text
label_text None = []
label_text (Some text) = 32 ∷ text

-- ---- lines

-- `--> name:line:column`
abbrev pub place_line : Look → ℕ → Place → Text
place_line look w place =
    blanks w ++ cond look.skip_filename [] (codes "--> " ++ (shown place.file.name ++ (codes ":" ++ (decimal (look.offset_line place.line) ++ (codes ":" ++ decimal (place.col + 1))))))

-- a span on one line
abbrev pub one_line : Look → ℕ → Reach → Option Text → List Text
one_line look w reach label =
    (number look w reach.first.line ++ (codes " | " ++ encode_utf8_all (line_chars reach.first.file reach.first.line)))
    ∷ (blanks (w + 1) ++ (codes "| " ++ (blanks reach.first.col_display ++ (replicate (mark_end reach - reach.first.col_display) 94 ++ label_text label))))
    ∷ []

-- only white space stands before the first place in its line
abbrev pub begins_line : Reach → Bool
begins_line reach = list_all is_whitespace (take reach.first.col_display (line_chars reach.first.file reach.first.line))

-- the line in which a span over several lines begins
abbrev pub begin_lines : Look → ℕ → Reach → List Text
begin_lines look w reach =
    cond (begins_line reach)
    (behind (number look w reach.first.line ++ codes " | /") (line_chars reach.first.file reach.first.line) ∷ [])
    ((number look w reach.first.line ++ (codes " |   " ++ encode_utf8_all (line_chars reach.first.file reach.first.line)))
    ∷ (blanks (w + 1) ++ (codes "|  " ++ (replicate (reach.first.col_display + 1) 95 ++ codes "^")))
    ∷ [])

-- a line behind it
abbrev pub later_line : Look → ℕ → File → ℕ → Text
later_line look w file line = behind (number look w line ++ codes " | |") (line_chars file line)

-- lines that are left out
abbrev pub gap_line : ℕ → Text
gap_line w = left_in (w + 3) (codes "...") ++ codes "|"

-- the lines behind the first: all, or the next three and the last two
abbrev pub later_lines : Look → ℕ → File → ℕ → ℕ → List Text
later_lines look w file first last =
    cond (nat_lt (first + 6) last)
    (map (later_line look w file) (range_with_len (first + 1) 3) ++ (gap_line w ∷ map (later_line look w file) (range_with_len (last - 1) 2)))
    (map (later_line look w file) (range_with_len (first + 1) (last - first)))

-- a span over several lines
abbrev pub several_lines : Look → ℕ → Reach → Option Text → List Text
several_lines look w reach label =
    begin_lines look w reach
    ++ (later_lines look w reach.first.file reach.first.line reach.last.line
    ++ ((blanks (w + 1) ++ (codes "| |" ++ (replicate reach.last.col_display 95 ++ (codes "^" ++ label_text label)))) ∷ []))

abbrev pub span_lines : Look → ℕ → Reach → Option Text → List Text
span_lines look w reach label =
    cond (nat_eq reach.first.line reach.last.line) (one_line look w reach label) (several_lines look w reach label)

-- the lines of an error, where the numbers take w cells
abbrev pub error_lines : Look → ℕ → Reach → Text → Option Text → List Text
error_lines look w reach message label =
    (codes "error: " ++ message)
    ∷ place_line look w reach.first
    ∷ (blanks (w + 1) ++ codes "|")
    ∷ span_lines look w reach label

-- ---- the page

-- a tab becomes four spaces
abbrev pub spaced : Text → Text
spaced text = flat_map (λ b. cond (nat_eq b 9) (blanks 4) (b ∷ [])) text

abbrev pub page_text : List Text → Text
page_text page = flat_map (λ line. spaced line ++ 10 ∷ []) page

-- rows of characters as a text: each tab becomes four spaces, and each row ends with LF
abbrev pub rows_text : List (List ℕ) → Text
rows_text rows = flat_map (λ row. encode_utf8_all (spaced row) ++ 10 ∷ []) rows

-- the text of a message
abbrev pub message_text : List Piece → Text
message_text message = flat_map (λ piece. piece.text) message

-- it lies on one line, or ends behind the first column of a later one
abbrev pub has_end : Reach → Bool
has_end reach = cond (nat_eq reach.first.line reach.last.line) true (not (nat_eq reach.last.col_display 0))

abbrev pub is_error : Level → Bool
is_error level.Bug = false
is_error level.Fatal = false
is_error level.PhaseFatal = false
is_error level.Error = true
is_error level.Warning = false
is_error level.Note = false
is_error level.Help = false
is_error level.Cancelled = false
is_error level.FailureNote = false

-- the span that is the only one, and no dummy
abbrev pub sole_span : List Span → Option Span
sole_span [] = None
sole_span (sp ∷ []) = cond (nat_eq sp.lo.0 0 && nat_eq sp.hi.0 0) None (Some sp)
sole_span (sp ∷ next ∷ more) = None

-- the label of a page, or none, where there is no other
abbrev pub sole_label : Span → List (Span × Text) → Option (Option Text)
sole_label sp [] = Some None
sole_label sp (label ∷ []) =
    cond (is_span sp label.0 && (not (nat_eq (length label.1) 0) && not (list_any (λ b. nat_eq b 10) label.1))) (Some (Some label.1)) None
sole_label sp (label ∷ next ∷ more) = None

abbrev pub told_of : Look → ℕ → Reach → Text → Option Text → Option (List Text)
told_of look w reach message label = cond (has_end reach) (Some (error_lines look w reach message label)) None

abbrev pub told_in : Look → (Reach → ℕ) → Option File → Span → Text → Option (Option Text) → Option (List Text)
told_in look width None sp message label = None
told_in look width (Some file) sp message None = None
told_in look width (Some file) sp message (Some label) = told_of look (width (reach_in file sp)) (reach_in file sp) message label

abbrev pub told_at : Look → (Reach → ℕ) → List File → Option Span → Text → Spans → Option (List Text)
told_at look width files None message spans = None
told_at look width files (Some sp) message spans = told_in look width (span_file files sp) sp message (sole_label sp spans.labels)

-- the lines of an error without a code, with one span and at most one label, which is that span's
abbrev pub told : Look → (Reach → ℕ) → List File → Level → Option Code → Text → Spans → Option (List Text)
told look width files level code message spans =
    cond (is_error level && is_none code) (told_at look width files (sole_span spans.primary) message spans) None

-- the numbers take as many cells as that of the span's last line
abbrev pub own_width : Look → Reach → ℕ
own_width look reach = number_width look reach.last.line

-- the page of such an error without notes and suggestions, which ends with an empty line
abbrev pub page : Look → List File → Report → Option Text
page look files report =
    cond (nat_eq (length report.children) 0 && nat_eq (length report.suggestions) 0)
    (option_map (λ page. page_text (page ++ [] ∷ [])) (told look (own_width look) files report.level report.code (message_text report.message) report.span))
    None
