-- Where the calls of a program begin, and which tokens of its layout have a mark.
use Rattle.std.specs.Prelude.{ℕ, suc, List, [], ◌∷◌, Bool, true, false, cond, nat_eq, not, ◌&&◌, ◌||◌, Option, Some, None}
use Rattle.jsx_base.specs.Token as token
use Rattle.jsx_base.specs.Token.{Operator, Piece, Children, TokenKind, NoToken, first_is}
use Rattle.jsx_base.specs.declared.place.Span.{Span}
use Rattle.jsx_tree.specs.Kinds.{Call, Parenthesized, ParenTarget, Kind, function, expression, Tree, leaf, node, list, Forest, none, part}
use Rattle.jsx_tree.specs.Signs.{Sign, Tok, Semicolon, Space, Pad, Line, Indent, Outdent, Unindent, Apart, Begin}
use Rattle.jsx_tree.specs.Grammar.{production}
use Rattle.jsx_tree.specs.Spelling.{leaf_signs, walk, joined}
use Rattle.jsx_tree.specs.Spans.{Claim, spans, Told, tells, Tales, no_tales, tale}

-- ---- a tree with the places of its calls, by what the code's tree tells of places

-- a leaf that is no token: here begins the call at this place
abbrev pub call_at : Span → Tree
call_at s = leaf NoToken (s.lo.0 ∷ [])

-- what is called, with the place before it
abbrev pub from_call : Option Span → Tree → Tree
from_call None t = t
from_call (Some s) t = list (part (call_at s) (part t none))

abbrev pub place_of : List Claim → Option Span
place_of (spans at ∷ cs) = at
place_of cs = None

abbrev pub with_place : Kind → Told → Forest → Forest
with_place (expression Call) (tells cs ds) (part f as') = part (from_call (place_of cs) f) as'
with_place k d ts = ts

-- parentheses tell what stands in them
abbrev pub parts_of : Kind → Told → Tales
parts_of (expression Parenthesized) d = tale d no_tales
parts_of (function ParenTarget) d = tale d no_tales
parts_of k (tells cs ds) = ds

abbrev pub first_of : Tales → Told
first_of no_tales = tells [] no_tales
first_of (tale d ds) = d

abbrev pub others : Tales → Tales
others no_tales = no_tales
others (tale d ds) = ds

abbrev mutual
  pub noted : Tree → Told → Tree
  noted (leaf k t) d = leaf k t
  noted (node k cs) d = node k (with_place k d (noteds cs (parts_of k d)))
  noted (list ts) (tells cs ds) = list (noteds ts ds)

  pub noteds : Forest → Tales → Forest
  noteds none ds = none
  noteds (part t ts) ds = part (noted t (first_of ds)) (noteds ts (others ds))

-- ---- its signs

abbrev pub is_place : TokenKind → Bool
is_place NoToken = true
is_place k = false

abbrev pub first_place : token.Text → ℕ
first_place [] = 0
first_place (x ∷ xs) = x

-- as a tree without places is spelled, with each place as a sign
abbrev pub leaf_or_place : Bool → TokenKind → token.Text → List Sign
leaf_or_place true k t = Tok Operator k t ∷ []
leaf_or_place false k t = leaf_signs k t

abbrev mutual
  pub said : Tree → List (List Sign)
  said (leaf k t) = leaf_or_place (is_place k) k t ∷ []
  said (node k cs) = (Begin ∷ walk (production k) (saids cs)) ∷ []
  said (list ts) = each_said ts

  pub saids : Forest → List (List (List Sign))
  saids none = []
  saids (part t ts) = said t ∷ saids ts

  pub each_said : Forest → List (List Sign)
  each_said none = []
  each_said (part t ts) = joined (said t) ∷ each_said ts

-- the signs of the tree alone
abbrev pub bare : List Sign → List Sign
bare [] = []
bare (Tok m k t ∷ ms) = cond (is_place k) (bare ms) (Tok m k t ∷ bare ms)
bare (m ∷ ms) = m ∷ bare ms

-- what is said of token i, and of the others
abbrev pub hold : ℕ → Bool → (ℕ → Bool) → ℕ → Bool
hold i b g k = cond (nat_eq k i) b (g k)

-- a semicolon begins nothing, nor does what isn't read as code
abbrev pub may_mark : token.Mode → token.Text → Bool
may_mark Piece t = false
may_mark Children t = false
may_mark m t = not (first_is (nat_eq 59) t)

-- the tokens that are the first of a call whose place is marked, from token i on; d is whether such a call begins here
abbrev pub begun : (ℕ → Bool) → ℕ → Bool → List Sign → ℕ → Bool
begun f i d [] = λ k. false
begun f i d (Tok m k t ∷ ms) = cond (is_place k) (begun f i (d || f (first_place t)) ms) (hold i (may_mark m t && d) (begun f (suc i) false ms))
begun f i d (Semicolon ∷ ms) = begun f (suc i) false ms
begun f i d (Space ∷ ms) = begun f i false ms
begun f i d (Pad ∷ ms) = begun f i false ms
begun f i d (Line ∷ ms) = begun f i false ms
begun f i d (Indent ∷ ms) = begun f i false ms
begun f i d (Outdent ∷ ms) = begun f i false ms
begun f i d (Unindent ∷ ms) = begun f i false ms
begun f i d (Apart ∷ ms) = begun f i false ms
begun f i d (m ∷ ms) = begun f i d ms
