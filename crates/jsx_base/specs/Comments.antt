-- Comments by the place that they lead, and the places that are marked.
use Rattle.std.specs.Prelude.{◌≡◌, ℕ, List, [], ◌∷◌, ◌++◌, Bool, cond, nat_eq, map, Option, Some, None}
use Rattle.std.specs.Option.{unwrap_or}
use Rattle.std.specs.List.{Any, list_any}
use Rattle.std.specs.Map.{lookup}
use Rattle.std.specs.String.{string_bytes}
use Rattle.std.specs.Str.Iter.{HasSubslice}
use Rattle.std.specs.declared.alloc.Global.{Global}
use Rattle.std.specs.declared.vec.Vec.{Vec}
use Rattle.jsx_base.specs.declared.place.Span.{Span}
use Rattle.jsx_base.specs.declared.comments.CommentKind.{CommentKind}
use Rattle.jsx_base.specs.declared.comments.Comment.{Comment}

-- a comment, with the bytes of its text
pub record CommentData : Type 0 where
  pub kind : CommentKind
  pub span : Span
  pub text : List ℕ

abbrev pub comment_data : Comment → CommentData
comment_data it = record { kind = it.kind; span = it.span; text = string_bytes it.text }

-- a finite map: places, each with its comments in order
abbrev pub Lists : Type 0
Lists = List (ℕ × List CommentData)

-- the comments that lead a place
abbrev pub comments_at : Lists → ℕ → List CommentData
comments_at lists place = unwrap_or (lookup (nat_eq place) lists) []

-- a place has one comment more, at its end, and every other place has its own
abbrev pub AddsComment : ℕ → CommentData → Lists → Lists → Type 0
AddsComment place comment old new =
    (q : ℕ) → comments_at new q ≡ cond (nat_eq place q) (comments_at old q ++ comment ∷ []) (comments_at old q)

-- every place has the comments that it had
abbrev pub SameComments : Lists → Lists → Type 0
SameComments old new = (q : ℕ) → comments_at new q ≡ comments_at old q

-- the text stands in a comment of some place
abbrev pub SomeContains : List ℕ → Lists → Type 0
SomeContains text lists = (place : ℕ) × Any (λ comment. HasSubslice comment.text text) (comments_at lists place)

-- whether a place is one of the marked ones
abbrev pub is_marked : List ℕ → ℕ → Bool
is_marked marked place = list_any (nat_eq place) marked

-- comments by place, and the marked places
pub record PlacedComments : Type 0 where
  pub lists : Lists
  pub marked : List ℕ

-- a place of a map, with the data of its comments
abbrev pub entry_data : ℕ × Vec Comment Global → ℕ × List CommentData
entry_data entry = (entry.0, map comment_data entry.1.items)

-- the comments that a map of std has at a place
abbrev pub held : Option (Vec Comment Global) → List CommentData
held None = []
held (Some comments) = map comment_data comments.items
