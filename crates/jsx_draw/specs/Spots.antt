-- The spans of a report in their files, and the lines that are shown.
use Rattle.std.specs.Prelude.{ℕ, ◌+◌, ◌-◌, List, [], ◌∷◌, ◌++◌, Option, Some, None, Bool, not, ◌&&◌, ◌||◌, cond, nat_eq, nat_le, nat_lt, map, filter, max, min}
use Rattle.std.specs.List.{flat_map, range_with_len}
use Rattle.jsx_base.specs.declared.place.Span.{Span}
use Rattle.jsx_base.specs.Files.{File, Place, place_in}
use Rattle.jsx_base.specs.MultiSpan.{Spans, Label, shown_labels}
use Rattle.jsx_base.specs.SpanPlaces.{high, low, span_file}
use Rattle.jsx_diag.specs.Data.{Text}

-- the first and the last place of a span
pub record Reach : Type 0 where
  pub first : Place
  pub last : Place

abbrev pub reach_in : File → Span → Reach
reach_in file sp = record { first = place_in (low sp) file; last = place_in (high sp) file }

-- the column behind the last one that is marked: a span of no width marks one
abbrev pub mark_end : Reach → ℕ
mark_end reach = cond (nat_eq reach.first.col_display reach.last.col_display) (reach.first.col_display + 1) reach.last.col_display

-- the ends of a span in a file
abbrev pub ends_in : Span → File → Place × Place
ends_in sp file = (place_in (low sp) file, place_in (high sp) file)

-- ---- spans in files

-- a span that is pointed at: its file, its places there, and its label
pub record Spot : Type 0 where
  pub file : File
  pub reach : Reach
  pub is_primary : Bool
  pub label : Option Text

abbrev pub is_dummy : Span → Bool
is_dummy sp = nat_eq sp.lo.0 0 && nat_eq sp.hi.0 0

-- the file of a span that is no dummy
abbrev pub held_in : List File → Span → Option File
held_in files sp = cond (is_dummy sp) None (span_file files sp)

abbrev pub spot_in : Option File → Label → List Spot
spot_in None it = []
spot_in (Some file) it = record { file = file; reach = reach_in file it.span; is_primary = it.is_primary; label = it.label } ∷ []

-- the spans that are in a file: those with a label in their order, and then the primary ones without
abbrev pub spots : List File → Spans → List Spot
spots files spans = flat_map (λ it. spot_in (held_in files it.span) it) (shown_labels spans)

abbrev pub is_single : Spot → Bool
is_single spot = nat_eq spot.reach.first.line spot.reach.last.line

-- where the first primary span begins, if it is in a file
abbrev pub primary_in : Option File → Span → Option Place
primary_in None sp = None
primary_in (Some file) sp = Some (place_in (low sp) file)

abbrev pub primary_place : List File → List Span → Option Place
primary_place files [] = None
primary_place files (sp ∷ more) = primary_in (held_in files sp) sp

-- ---- the lines that are shown

-- the lines of a span: of one over several lines the first four, the line before the last, and the last
abbrev pub spot_lines : Spot → List ℕ
spot_lines spot =
    cond (is_single spot) (spot.reach.first.line ∷ [])
    (range_with_len spot.reach.first.line (min (spot.reach.first.line + 4) spot.reach.last.line - spot.reach.first.line)
    ++ (cond (nat_lt (spot.reach.first.line + 4) (spot.reach.last.line - 1)) ((spot.reach.last.line - 1) ∷ []) []
    ++ (spot.reach.last.line ∷ [])))

-- a number among rising ones, once
abbrev pub line_put : ℕ → List ℕ → List ℕ
line_put line [] = line ∷ []
line_put line (next ∷ more) = cond (nat_eq line next) (next ∷ more) (cond (nat_lt line next) (line ∷ next ∷ more) (next ∷ line_put line more))

abbrev pub lines_put : List ℕ → List ℕ → List ℕ
lines_put [] rising = rising
lines_put (line ∷ more) rising = lines_put more (line_put line rising)

-- a file, and its lines that are shown, from 1
pub record ShownFile : Type 0 where
  pub file : File
  pub lines : List ℕ

-- the lines of a span with those of its file, or of a file that comes last
abbrev pub spot_put : Spot → List ShownFile → List ShownFile
spot_put spot [] = record { file = spot.file; lines = lines_put (spot_lines spot) [] } ∷ []
spot_put spot (it ∷ more) =
    cond (nat_eq it.file.start spot.file.start) (record it { lines = lines_put (spot_lines spot) it.lines } ∷ more) (it ∷ spot_put spot more)

abbrev pub spots_put : List Spot → List ShownFile → List ShownFile
spots_put [] files = files
spots_put (spot ∷ more) files = spots_put more (spot_put spot files)

-- by first and last line; spans with both alike keep their order
abbrev pub is_before : Spot → Spot → Bool
is_before a b = nat_lt a.reach.first.line b.reach.first.line || (nat_eq a.reach.first.line b.reach.first.line && nat_le a.reach.last.line b.reach.last.line)

abbrev pub by_lines_put : Spot → List Spot → List Spot
by_lines_put spot [] = spot ∷ []
by_lines_put spot (next ∷ more) = cond (is_before spot next) (spot ∷ next ∷ more) (next ∷ by_lines_put spot more)

abbrev pub by_lines : List Spot → List Spot
by_lines [] = []
by_lines (spot ∷ more) = by_lines_put spot (by_lines more)

-- the files in the order of their spans, those on one line first
abbrev pub shown_files : List Spot → List ShownFile
shown_files spots = spots_put (filter is_single spots ++ by_lines (filter (λ spot. not (is_single spot)) spots)) []

-- the first file put in the place of one, and that one first
abbrev pub put_where : ℕ → ShownFile → List ShownFile → List ShownFile
put_where start first [] = []
put_where start first (it ∷ more) = cond (nat_eq it.file.start start) (first ∷ more) (it ∷ put_where start first more)

abbrev pub only_where : ℕ → List ShownFile → List ShownFile
only_where start files = filter (λ it. nat_eq it.file.start start) files

abbrev pub swapped : List ShownFile → ShownFile → List ShownFile → List ShownFile
swapped [] first more = first ∷ more
swapped (found ∷ others) first more = found ∷ put_where found.file.start first more

-- the file that begins at this place changes places with the first
abbrev pub primary_first : ℕ → List ShownFile → List ShownFile
primary_first start [] = []
primary_first start (first ∷ more) = cond (nat_eq first.file.start start) (first ∷ more) (swapped (only_where start more) first more)

-- a line of a file
pub record ShownLine : Type 0 where
  pub file : File
  pub line : ℕ

-- the lines that are shown, file by file
abbrev pub shown_lines : ℕ → List Spot → List ShownLine
shown_lines start spots = flat_map (λ it. map (λ line. record { file = it.file; line = line }) it.lines) (primary_first start (shown_files spots))

-- ---- columns

abbrev pub greatest : List ℕ → ℕ
greatest [] = 0
greatest (n ∷ more) = max n (greatest more)

abbrev pub start_col : Spot → ℕ
start_col spot = spot.reach.first.col_display

abbrev pub end_col : Spot → ℕ
end_col spot = mark_end spot.reach

abbrev pub label_bytes : Option Text → Text
label_bytes None = []
label_bytes (Some text) = text

-- whether one of two ranges of columns begins in the other
abbrev pub overlap : ℕ → ℕ → ℕ → ℕ → Bool
overlap start end other_start other_end = (nat_le other_start start && nat_lt start other_end) || (nat_le start other_start && nat_lt other_start end)

-- the spans of a line
abbrev pub at_line : ShownLine → List Spot → List Spot
at_line it spots = filter (λ spot. nat_eq spot.file.start it.file.start && nat_eq spot.reach.first.line it.line) spots
