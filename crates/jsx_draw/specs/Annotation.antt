-- What clients see of what is drawn at the lines of a file: the bytes of each label, and all other fields as they are.
use Rattle.std.specs.Prelude.{ℕ, ◌+◌, ◌-◌, Bool, true, false, not, cond, nat_eq, nat_lt, List, Option, Some, None, length, map, string_bytes}
use Rattle.std.specs.Option.{option_map}
use Rattle.jsx_draw.specs.declared.annotation.Line.{Line}
use Rattle.jsx_draw.specs.declared.annotation.MultilineAnnotation.{MultilineAnnotation}
use Rattle.jsx_draw.specs.declared.annotation.Annotation.{Annotation}
use Rattle.jsx_draw.specs.declared.annotation.AnnotationType.{AnnotationType}
use Rattle.jsx_draw.specs.declared.annotation.AnnotationType.TheVariants.{Singleline, Multiline, MultilineStart, MultilineEnd, MultilineLine}

-- a span over several lines
pub record Multi : Type 0 where
  pub depth : ℕ
  pub line_start : ℕ
  pub line_end : ℕ
  pub start_col : ℕ
  pub end_col : ℕ
  pub is_primary : Bool
  pub label : Option (List ℕ)

abbrev pub multi_of : MultilineAnnotation → Multi
multi_of it = record { depth = it.depth; line_start = it.line_start; line_end = it.line_end; start_col = it.start_col; end_col = it.end_col; is_primary = it.is_primary; label = option_map string_bytes it.label }

-- a span on one line, or all of one over several, or where that begins or ends, or a line in between
pub data Kind : Type 0 where
  Single : Kind
  Whole : Multi → Kind
  First : ℕ → Kind
  Last : ℕ → Kind
  Side : ℕ → Kind

abbrev pub annotation_kind : AnnotationType → Kind
annotation_kind Singleline = Single
annotation_kind (Multiline it) = Whole (multi_of it)
annotation_kind (MultilineStart depth) = First depth
annotation_kind (MultilineEnd depth) = Last depth
annotation_kind (MultilineLine depth) = Side depth

-- what is drawn from one column to another
pub record Mark : Type 0 where
  pub start_col : ℕ
  pub end_col : ℕ
  pub is_primary : Bool
  pub label : Option (List ℕ)
  pub kind : Kind

abbrev pub mark_of : Annotation → Mark
mark_of it = record { start_col = it.start_col; end_col = it.end_col; is_primary = it.is_primary; label = option_map string_bytes it.label; kind = annotation_kind it.annotation_type }

-- a line, and what is drawn at it
pub record MarkedLine : Type 0 where
  pub line_index : ℕ
  pub marks : List Mark

abbrev pub marked_line : Line → MarkedLine
marked_line it = record { line_index = it.line_index; marks = map mark_of it.annotations.items }

-- ---- the parts of a span over several lines

abbrev pub first_mark : Multi → Mark
first_mark it = record { start_col = it.start_col; end_col = it.start_col + 1; is_primary = it.is_primary; label = None; kind = First it.depth }

abbrev pub last_mark : Multi → Mark
last_mark it = record { start_col = it.end_col - 1; end_col = it.end_col; is_primary = it.is_primary; label = it.label; kind = Last it.depth }

abbrev pub side_mark : Multi → Mark
side_mark it = record { start_col = 0; end_col = 0; is_primary = it.is_primary; label = None; kind = Side it.depth }

-- ---- queries

abbrev pub is_single : Kind → Bool
is_single Single = true
is_single (Whole it) = false
is_single (First depth) = false
is_single (Last depth) = false
is_single (Side depth) = false

-- where a span over several lines begins or ends
abbrev pub is_edge : Kind → Bool
is_edge Single = false
is_edge (Whole it) = false
is_edge (First depth) = true
is_edge (Last depth) = true
is_edge (Side depth) = false

abbrev pub is_side : Kind → Bool
is_side Single = false
is_side (Whole it) = false
is_side (First depth) = false
is_side (Last depth) = false
is_side (Side depth) = true

-- a label that isn't empty
abbrev pub has_text : Option (List ℕ) → Bool
has_text None = false
has_text (Some text) = not (nat_eq (length text) 0)

abbrev pub distance : ℕ → ℕ → ℕ
distance a b = cond (nat_lt a b) (b - a) (a - b)
