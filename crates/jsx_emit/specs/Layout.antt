-- What a page is made of: headers, the lines that are shown, where labels stand, and the parts of notes and suggestions.
use Rattle.std.specs.Prelude.{ℕ, ◌+◌, ◌-◌, List, [], ◌∷◌, ◌++◌, Option, Some, None, Bool, true, false, not, ◌&&◌, ◌||◌, cond, nat_eq, nat_le, nat_lt, length, map, filter, max, reverse, codes, decimal}
use Rattle.std.specs.Char.{is_whitespace}
use Rattle.std.specs.List.{list_all, list_any}
use Rattle.std.specs.Option.{is_none}
use Rattle.std.specs.Str.{chars, encode_utf8_all}
use Rattle.jsx_base.specs.declared.place.Span.{Span}
use Rattle.jsx_base.specs.Files.{File, Place}
use Rattle.jsx_base.specs.Lines.{lines}
use Rattle.jsx_base.specs.MultiSpan.{Spans}
use Rattle.jsx_base.specs.SpanPlaces.{shown}
use Rattle.jsx_diag.specs.declared.level.Level.{Level}
use Rattle.jsx_diag.specs.Level.{shown_text}
use Rattle.jsx_diag.specs.Data.{Text, Code, ErrorCode, LintCode, Edit, Suggestion, Child, Report}
use Rattle.jsx_emit.specs.Page.{Look, blanks}
use Rattle.jsx_draw.specs.Spots.{Spot, spots, greatest, start_col, end_col, label_bytes, overlap}

-- ---- headers

abbrev pub code_text : Option Code → Text
code_text None = []
code_text (Some (ErrorCode text)) = codes "[" ++ (text ++ codes "]")
code_text (Some (LintCode text)) = []

-- what stands behind a word, where there is one
abbrev pub colon : Text → Text
colon [] = []
colon (b ∷ word) = codes ": "

-- `error[CODE]: message`
abbrev pub header : Level → Option Code → Text → Text
header level code message = shown_text level ++ (code_text code ++ (colon (shown_text level) ++ message))

-- `name:line:column: `
abbrev pub place_before : Look → Place → Text
place_before look place =
    shown place.file.name ++ (codes ":" ++ (decimal (look.offset_line place.line) ++ (codes ":" ++ (decimal (place.col + 1) ++ codes ": "))))

-- ---- the width of the numbers

-- the greatest line in which a span ends
abbrev pub end_line : List File → Spans → ℕ
end_line files spans = greatest (map (λ spot. spot.reach.last.line) (spots files spans))

abbrev pub last_line_of : List File → Spans → List Child → ℕ
last_line_of files spans children = max (end_line files spans) (greatest (map (λ child. end_line files child.span) children))

-- ---- where labels stand, on a line whose spans all lie on one line

-- a label that isn't empty
abbrev pub is_text : Option Text → Bool
is_text None = false
is_text (Some []) = false
is_text (Some (b ∷ text)) = true

-- whether a span overlaps another once n columns are added to its end
abbrev pub overlaps : ℕ → Spot → Spot → Bool
overlaps n one other = overlap (start_col one) (end_col one + n) (start_col other) (end_col other)

-- whether a labelled span in row p meets a later one, or an unlabelled one in row 0 a later one that ends no later
abbrev pub meets : ℕ → Spot → Spot → Bool
meets p spot later =
    is_text later.label
    && (overlaps (length (label_bytes later.label) + 2) later spot
    && (is_text spot.label || (nat_eq p 0 && nat_le (end_col later) (end_col spot))))

-- a span and the row of its label
pub record Placed : Type 0 where
  pub spot : Spot
  pub row : ℕ

-- the row of a span's label where p is the row so far
abbrev pub row_from : ℕ → Spot → List Spot → ℕ
row_from p spot later = cond (nat_eq p 0 && (is_text spot.label && list_any (λ other. overlaps 0 other spot) later)) 1 p

abbrev pub row_after : ℕ → Spot → List Spot → ℕ
row_after p spot later = cond (list_any (meets p spot) later) (p + 1) p

abbrev pub placed_from : ℕ → List Spot → List Placed
placed_from p [] = []
placed_from p (spot ∷ later) = record { spot = spot; row = row_from p spot later } ∷ placed_from (row_after (row_from p spot later) spot later) later

abbrev pub falling_put : Spot → List Spot → List Spot
falling_put spot [] = spot ∷ []
falling_put spot (next ∷ more) = cond (nat_le (start_col next) (start_col spot)) (spot ∷ next ∷ more) (next ∷ falling_put spot more)

-- by falling start; spans that begin at one column keep their order
abbrev pub falling : List Spot → List Spot
falling [] = []
falling (spot ∷ more) = falling_put spot (falling more)

-- the spans of a line, each with the row of its label
abbrev pub placed : List Spot → List Placed
placed spots = placed_from 0 (falling spots)

-- ---- cells under a line

abbrev pub covers : ℕ → Spot → Bool
covers col spot = nat_le (start_col spot) col && nat_lt col (end_col spot)

abbrev pub is_covered : ℕ → List Spot → Bool
is_covered col spots = list_any (covers col) spots

abbrev pub mark_of : Spot → ℕ
mark_of spot = cond spot.is_primary 94 45

abbrev pub is_no_shorter : ℕ → Spot → Spot → Bool
is_no_shorter col spot other = not (covers col other) || nat_le (end_col spot - start_col spot) (end_col other - start_col other)

-- a character that may stand under a column: the mark of a shortest span that covers it
abbrev pub may_mark : ℕ → List Spot → ℕ → Bool
may_mark col spots c = list_any (λ spot. covers col spot && (list_all (is_no_shorter col spot) spots && nat_eq c (mark_of spot))) spots

-- how many rows below the underlines a label stands, and from which column on
abbrev pub label_row : Placed → ℕ
label_row it = cond (nat_eq it.row 0) 0 (it.row + 1)

abbrev pub label_col : Placed → ℕ
label_col it = cond (nat_eq it.row 0) (end_col it.spot + 1) (start_col it.spot)

abbrev pub label_chars : Placed → List ℕ
label_chars it = chars (label_bytes it.spot.label)

abbrev pub occupies : ℕ → ℕ → Placed → Bool
occupies row col it = nat_eq (label_row it) row && (nat_le (label_col it) col && nat_lt col (label_col it + length (label_chars it)))

-- a cell of a label that an underline or another label may cover
abbrev pub may_be_hidden : ℕ → ℕ → List Spot → Bool
may_be_hidden row col spots = (nat_eq row 0 && is_covered col spots) || nat_lt 1 (length (filter (occupies row col) (placed spots)))

-- ---- notes

abbrev pub has_no_span : Spans → Bool
has_no_span spans = nat_eq (length spans.primary) 0 && nat_eq (length spans.labels) 0

-- the first line, and the others behind so many blanks
abbrev pub indented : ℕ → List Text → List Text
indented n [] = []
indented n (line ∷ more) = line ∷ map (λ line. blanks n ++ line) more

abbrev pub before_all : Text → List Text → List Text
before_all text [] = text ∷ []
before_all text (line ∷ more) = (text ++ line) ∷ more

-- a note that points nowhere: `= note: message`
abbrev pub note_lines : ℕ → Level → Text → List Text
note_lines w level message =
    before_all (blanks (w + 1) ++ (codes "= " ++ (shown_text level ++ colon (shown_text level)))) (indented (w + 9) (lines message))

-- ---- suggestions that become labels

abbrev pub begins_word : Bool → ℕ → Bool
begins_word inside c = not inside && not (is_whitespace c)

-- how many words a text has, of which the one before may go on
abbrev pub words_from : Bool → List ℕ → ℕ
words_from inside [] = 0
words_from inside (c ∷ text) = cond (begins_word inside c) 1 0 + words_from (not (is_whitespace c)) text

abbrev pub past_blanks : List ℕ → List ℕ
past_blanks [] = []
past_blanks (c ∷ text) = cond (is_whitespace c) (past_blanks text) (c ∷ text)

-- without white space at both ends
abbrev pub trimmed : List ℕ → List ℕ
trimmed text = reverse (past_blanks (reverse (past_blanks text)))

abbrev pub code_shown : Bool → List ℕ → Text
code_shown shown [] = []
code_shown shown (c ∷ text) = cond shown (codes ": `" ++ (encode_utf8_all (c ∷ text) ++ codes "`")) []

abbrev pub inline_label : Suggestion → Edit → Option (Span × Text)
inline_label it part =
    cond (nat_lt (words_from false (chars it.msg)) 10 && not (list_any (λ b. nat_eq b 10) part.snippet))
    (Some (part.span, codes "help: " ++ (it.msg ++ code_shown it.show_code_when_inline (trimmed (chars part.snippet)))))
    None

abbrev pub inline_way : Suggestion → List (List Edit) → Option (Span × Text)
inline_way it [] = None
inline_way it ([] ∷ ways) = None
inline_way it ((part ∷ []) ∷ []) = inline_label it part
inline_way it ((part ∷ []) ∷ way ∷ ways) = None
inline_way it ((part ∷ next ∷ parts) ∷ ways) = None

-- the label that a sole suggestion becomes
abbrev pub inline : List Suggestion → Option (Span × Text)
inline [] = None
inline (it ∷ []) = inline_way it it.substitutions
inline (it ∷ next ∷ more) = None

abbrev pub labelled_with : Option (Span × Text) → Spans → Spans
labelled_with None spans = spans
labelled_with (Some label) spans = record spans { labels = spans.labels ++ label ∷ [] }

-- the spans of a report, with the label that its suggestion becomes
abbrev pub pointed : Report → Spans
pointed report = labelled_with (inline report.suggestions) report.span

-- the suggestions that don't become a label
abbrev pub apart : Report → List Suggestion
apart report = cond (is_none (inline report.suggestions)) report.suggestions []
