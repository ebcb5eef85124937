-- The spans of nodes that were read, and the places of all that a tree has in it.
use Rattle.std.specs.Prelude.{◌≡◌, ◌++◌, ℕ, suc, List, [], ◌∷◌, Option, Some, IsTrue, Bool, true, false, cond}
use Rattle.jsx_base.specs.Token.{Text, skip}
use Rattle.jsx_base.specs.declared.place.BytePos.{BytePos}
use Rattle.jsx_base.specs.declared.place.Span.{Span}
use Rattle.jsx_tree.specs.declared.tree.Expr.{Expr}
use Rattle.jsx_tree.specs.declared.program.Program.{Program}
use Rattle.jsx_tree.specs.declared.program.Program.TheVariants as programs
use Rattle.jsx_operand.specs.declared.error.ParseError.{ParseError}
use Rattle.jsx_operand.specs.declared.error.ParseError.TheVariants.{Syntax}
use Rattle.jsx_tree.specs.Signs.{Sign}
use Rattle.jsx_tree.specs.Kinds.{ParenTarget, Parenthesized, function, expression, Tree, leaf, node, list, Forest, none, part}
use Rattle.jsx_tree.specs.Nonterminals.{Nonterminal, Argument}
use Rattle.jsx_tree.specs.Grammar.{ListShape, Production}
use Rattle.jsx_tree.specs.Spelling.{gathered, walk, saids, each_said, spelled}
use Rattle.jsx_tree.specs.Reading.{scan}
use Rattle.jsx_tree.specs.View.{view_expr}
use Rattle.jsx_tree.specs.Told.{told_expr}
use Rattle.jsx_tree.specs.Spans.{from_first, extent, is_text, start, list_starts, starts, placed, places, each_placed, within, Claim, spans, comes, default_is, Holds, Told, tells, Tales, tale, IsTold, AreTold}
use Rattle.jsx_tree.specs.Walk.{is_found}
use Rattle.jsx_token.specs.Here.{Here, place_of}
use Rattle.jsx_make.specs.NodeSpans.{expr_at}
use Rattle.jsx_token.specs.Places.{FailsNear, Takes, begin_of, end_of, next_of}

-- from one place to another
pub record Spans (at : Option Span) (lo hi : ℕ) : Type 0 where
  pub span : Span
  pub is : at ≡ Some span
  pub from : span.lo.0 ≡ lo
  pub to : span.hi.0 ≡ hi

-- begins where the one before does, and ends at the place
pub record Extends (before at : Option Span) (hi : ℕ) : Type 0 where
  pub on : (lo h : ℕ) → Spans before lo h → Spans at lo hi

-- the first place of a span
pub record Starts (at : Option Span) (p : BytePos) : Type 0 where
  pub on : (lo hi : ℕ) → Spans at lo hi → p.0 ≡ lo

-- an error at the token that was taken last, or at the one behind it
pub record FailsAt (e : ParseError) (h : Here) : Type 0 where
  pub at : BytePos
  pub is : e ≡ Syntax at
  pub place_is : FailsNear h at.0

-- the span of a whole program
abbrev pub program_at : Program → Span
program_at (programs.Module m) = m.span
program_at (programs.Script m) = m.span

-- ---- the places of all that a tree has in it

-- whether what stands at a place is an argument, which stands where its parentheses do
abbrev pub is_argument : Nonterminal → Bool
is_argument Argument = true
is_argument c = false

-- what is told, with another span in place of the tree's own
abbrev pub spanned_claims : Option Span → List Claim → List Claim
spanned_claims at [] = []
spanned_claims at (spans s ∷ cs) = spans at ∷ spanned_claims at cs
spanned_claims at (comes t ∷ cs) = comes t ∷ spanned_claims at cs
spanned_claims at (default_is b ∷ cs) = default_is b ∷ spanned_claims at cs

abbrev pub spanned : Option Span → Told → Told
spanned at (tells cs ds) = tells (spanned_claims at cs) ds

abbrev pub is_parens : Tree → Bool
is_parens (node (expression Parenthesized) ts) = true
is_parens t = false

-- an expression, or a target, that is in no parentheses
abbrev pub is_plain : Tree → Bool
is_plain (leaf k s) = true
is_plain (node (expression Parenthesized) ts) = false
is_plain (node (function ParenTarget) ts) = false
is_plain (node k ts) = true
is_plain (list ts) = false

-- how many pairs of parentheses stand round a tree
abbrev pub pairs_round : Tree → ℕ
pairs_round (node (expression Parenthesized) (part t ts)) = suc (pairs_round t)
pairs_round t = 0

-- an expression whose pairs of parentheses each hold one
abbrev pub pairs_formed : Tree → Bool
pairs_formed (leaf k s) = true
pairs_formed (node (expression Parenthesized) (part t none)) = pairs_formed t
pairs_formed (node (expression Parenthesized) ts) = false
pairs_formed (node (function ParenTarget) ts) = false
pairs_formed (node k ts) = true
pairs_formed (list ts) = false

-- what is told of an expression with a span as an argument, of what is told elsewhere
abbrev pub as_argument : Tree → Option Span → Told → Told
as_argument t at d = cond (is_parens t) (spanned at d) d

-- Where the tree's signs can be read from the one place, they lead to the other, and all that is told of its places is so: as an argument, or anywhere else.
pub record IsPlacedAs (a : Bool) (d : Told) (t : Tree) (x y : Here) : Type 0 where
  pub same : y.end ≡ x.end
  -- it begins with a token before which a gap is skipped
  pub begins : (ms : List Sign) (text : Text) → from_first (spelled t ++ ms) text ≡ skip text
  pub leads : IsTrue (is_found (scan (place_of x) (spelled t))) → scan (place_of x) (spelled t) ≡ place_of y
  pub told : IsTrue (is_found (scan (place_of x) (spelled t))) → (c : Nonterminal) → is_argument c ≡ a → IsTold d (placed x.end (start c false (place_of x ∷ [])) t)
  -- and so it is in another place's stead
  pub moved : a ≡ false → IsTrue (is_found (scan (place_of x) (spelled t))) → (c : Nonterminal) → is_argument c ≡ false → (lo next hi : ℕ) (at : Option Span) → Holds (extent lo next hi) lo (spans at) → IsTold (spanned at d) (within (extent lo next hi) (placed x.end (start c false (place_of x ∷ [])) t))

abbrev pub IsPlaced : Told → Tree → Here → Here → Type 0
IsPlaced d t x y = IsPlacedAs false d t x y

-- the same of a row's rest and its parts
pub record IsPlacedRow (ps : Production) (ds : Tales) (ts : Forest) (x y : Here) : Type 0 where
  pub same : y.end ≡ x.end
  pub leads : IsTrue (is_found (scan (place_of x) (walk ps (saids ts)))) → scan (place_of x) (walk ps (saids ts)) ≡ place_of y
  pub told : IsTrue (is_found (scan (place_of x) (walk ps (saids ts)))) → AreTold ds (places x.end (starts (place_of x) ps (saids ts)) ts)

-- some symbols of a row and their one part, with whatever stands behind them
pub record IsPlacedFront (ss : Production) (d : Told) (t : Tree) (x y : Here) : Type 0 where
  pub on : (ps : Production) (ds : Tales) (ts : Forest) (z : Here) → IsPlacedRow ps ds ts y z → IsPlacedRow (ss ++ ps) (tale d ds) (part t ts) x z

-- the same of a list, of arguments or of anything else
pub record IsPlacedListAs (a : Bool) (s : ListShape) (ds : Tales) (ts : Forest) (x y : Here) : Type 0 where
  pub same : y.end ≡ x.end
  pub leads : IsTrue (is_found (scan (place_of x) (gathered s (each_said ts)))) → scan (place_of x) (gathered s (each_said ts)) ≡ place_of y
  pub told : IsTrue (is_found (scan (place_of x) (gathered s (each_said ts)))) → (c : Nonterminal) → is_argument c ≡ a → AreTold ds (each_placed x.end c (is_text s) (list_starts s (place_of x) (each_said ts)) ts)

abbrev pub IsPlacedList : ListShape → Tales → Forest → Here → Here → Type 0
IsPlacedList s ds ts x y = IsPlacedListAs false s ds ts x y

-- an expression that goes on from one that ended before a sign, behind which it stands
pub record IsPlacedOn (s : Sign) (first : Expr) (x : Here) (whole : Expr) (y : Here) : Type 0 where
  pub on : (w z : Here) → Spans (expr_at first) (next_of w) (end_of z) → IsPlaced (told_expr first) (view_expr first) w z → Takes s z x → IsPlaced (told_expr whole) (view_expr whole) w y

-- a node that begins with a part from a place, behind which the rest of it stands
pub record IsPlacedPast (lo : ℕ) (d : Told) (t : Tree) (x : Here) (e : Told) (u : Tree) (y : Here) : Type 0 where
  pub on : (w : Here) → lo ≡ next_of w → IsPlaced d t w x → IsPlaced e u w y

-- a node that begins with a sign, behind which it stands
pub record IsPlacedBehind (s : Sign) (x : Here) (d : Told) (t : Tree) (y : Here) : Type 0 where
  pub on : (w : Here) → Takes s w x → begin_of x ≡ next_of w → IsPlaced d t w y
