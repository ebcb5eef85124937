-- Where the parts of a tree stand in the text that it reads: each node from where its first token begins to where its last one ends. Places are in bytes, counted on from the place of the text's first one.
use Rattle.std.specs.Prelude.{◌≡◌, ◌+◌, ◌-◌, ℕ, List, [], ◌∷◌, ◌++◌, Bool, true, false, cond, not, ◌||◌, Option, Some, None, ⊤}
use Rattle.jsx_base.specs.Token.{Text, Children, TokenKind, IdentifierName, Elision, skip, skips}
use Rattle.jsx_base.specs.Lines.{size}
use Rattle.jsx_base.specs.declared.place.BytePos.{BytePos}
use Rattle.jsx_base.specs.declared.place.Span.{Span}
use Rattle.jsx_tree.specs.declared.text.Text.{Text as TreeText}
use Rattle.jsx_tree.specs.declared.text.Text.TheVariants.{Read, Made}
use Rattle.jsx_tree.specs.Signs.{Sign, Tok, AfterExpr}
use Rattle.jsx_tree.specs.Kinds.{ExportDefaultFn, ExportDefaultClass, ExportDefaultExpr, Parenthesized, ParenTarget, Kind, program, function, expression, Tree, leaf, node, list, Forest, none, part}
use Rattle.jsx_tree.specs.Nonterminals.{Nonterminal, Argument, WholeProgram, is_ident}
use Rattle.jsx_tree.specs.Grammar.{ListShape, JsxChildren, Fixed, Part, Optional, Many, Within, Production, production}
use Rattle.jsx_tree.specs.Spelling.{leaf_signs, among_text, before, between, gathered, joined, maybe, saids, spelled}
use Rattle.jsx_tree.specs.Reading.{Place, Lost, At, forth, scan}

-- ---- where signs begin and end

abbrev pub rest_at : Place → Text
rest_at Lost = []
rest_at (At q e text) = text

-- the text from the first token on
abbrev pub from_first : List Sign → Text → Text
from_first [] text = text
from_first (Tok m k t ∷ ms) text = cond (skips m) (skip text) text
from_first (m ∷ ms) text = from_first ms text

-- where the first token begins, where the second one does, and where the last one ends
pub data Extent : Type 0 where
  extent : ℕ → ℕ → ℕ → Extent

-- the text from the second token on, or what stands behind the only one
abbrev pub from_second : List Sign → Place → Text
from_second [] x = rest_at x
from_second (Tok m k t ∷ ms) x = from_first ms (rest_at (forth (Tok m k t) x))
from_second (m ∷ ms) x = from_second ms (forth m x)

-- of a text that ends at n what signs read from a place on
abbrev pub extent_of : ℕ → Place → List Sign → Extent
extent_of n x ms = extent (n - size (from_first ms (rest_at x))) (n - size (from_second ms x)) (n - size (rest_at (scan x ms)))

-- ---- where the parts of a node begin

-- among JSX children the first token of each is read as one of theirs
abbrev pub is_text : ListShape → Bool
is_text JsxChildren = true
is_text s = false

abbrev pub front : Bool → List Sign → List Sign
front true ms = among_text ms
front false ms = ms

abbrev pub in_text : Production → Production
in_text (Fixed (Tok m k t) ∷ ps) = Fixed (Tok Children k t) ∷ ps
in_text (Fixed m ∷ ps) = Fixed m ∷ in_text ps
in_text ps = ps

abbrev pub row : Bool → Kind → Production
row true k = in_text (production k)
row false k = production k

-- what is asked of the trees of a part, whether they stand among JSX children, and the place from which each is read
pub data Start : Type 0 where
  start : Nonterminal → Bool → List Place → Start

abbrev pub list_starts : ListShape → Place → List (List Sign) → List Place
list_starts s x [] = []
list_starts s x (y ∷ ys) = x ∷ list_starts s (scan x (before s y ++ between s)) ys

abbrev pub starts : Place → Production → List (List (List Sign)) → List Start
starts x [] ys = []
starts x (Fixed m ∷ ps) ys = starts (forth m x) ps ys
starts x (Within a ∷ ps) ys = starts x ps ys
starts x (_ ∷ ps) [] = []
starts x (Part c ∷ ps) (y ∷ ys) = start c false (x ∷ []) ∷ starts (scan x (joined y)) ps ys
starts x (Optional a c b r ∷ ps) (y ∷ ys) = start c false (scan x a ∷ []) ∷ starts (scan x (maybe a b r y)) ps ys
starts x (Many s c ∷ ps) (y ∷ ys) = start c (is_text s) (list_starts s x y) ∷ starts (scan x (gathered s y)) ps ys

-- ---- a tree with its places

mutual
  pub data Placed : Type 0 where
    -- a token whose text begins at the place
    leaf_at : ℕ → Extent → TokenKind → Text → Placed
    node_at : Extent → Kind → Places → Placed
    -- an export of the default, whose `default` begins at the place
    default_at : ℕ → Extent → Kind → Places → Placed
    list_at : Places → Placed

  pub data Places : Type 0 where
    end : Places
    and : Placed → Places → Places

abbrev pub token_at : Extent → TokenKind → Text → Placed
token_at (extent lo next hi) k t = leaf_at lo (extent lo next hi) k t

abbrev pub within : Extent → Placed → Placed
within e (leaf_at at f k t) = leaf_at at e k t
within e (node_at f k ps) = node_at e k ps
within e (default_at at f k ps) = default_at at e k ps
within e (list_at ps) = list_at ps

-- parentheses are off; an argument stands where its parentheses do
abbrev pub in_parens : Nonterminal → Extent → Placed → Placed
in_parens Argument e p = within e p
in_parens c e p = p

abbrev pub first_byte : Extent → ℕ
first_byte (extent lo next hi) = lo

abbrev pub second_byte : Extent → ℕ
second_byte (extent lo next hi) = next

-- `default` is the second token of its export
abbrev pub settled : Kind → Nonterminal → Extent → Places → Placed
settled (expression Parenthesized) c e (and p end) = in_parens c e p
settled (function ParenTarget) c e (and p end) = p
settled (program ExportDefaultFn) c e ps = default_at (second_byte e) e (program ExportDefaultFn) ps
settled (program ExportDefaultClass) c e ps = default_at (second_byte e) e (program ExportDefaultClass) ps
settled (program ExportDefaultExpr) c e ps = default_at (second_byte e) e (program ExportDefaultExpr) ps
settled k c e ps = node_at e k ps

abbrev mutual
  pub placed : ℕ → Start → Tree → Placed
  placed n (start c b xs) (list ts) = list_at (each_placed n c b xs ts)
  placed n (start c b []) t = list_at end
  placed n (start c b (x ∷ xs)) (leaf k t) = token_at (extent_of n x (front b (leaf_signs k t))) k t
  placed n (start c b (x ∷ xs)) (node k cs) = settled k c (extent_of n x (front b (spelled (node k cs)))) (places n (starts x (row b k) (saids cs)) cs)

  pub places : ℕ → List Start → Forest → Places
  places n [] ts = end
  places n (s ∷ ss) none = end
  places n (s ∷ ss) (part t ts) = and (placed n s t) (places n ss ts)

  pub each_placed : ℕ → Nonterminal → Bool → List Place → Forest → Places
  each_placed n c b [] ts = end
  each_placed n c b (x ∷ xs) none = end
  each_placed n c b (x ∷ xs) (part t ts) = and (placed n (start c b (x ∷ [])) t) (each_placed n c b xs ts)

-- the tree of a whole text, whose first byte has the place
abbrev pub placed_in : ℕ → Text → Tree → Placed
placed_in from text t = placed (from + size text) (start WholeProgram false (At [] AfterExpr text ∷ [])) t

-- ---- what a tree of the code tells of places

pub data Claim : Type 0 where
  -- a span of the node, where it has one; a text and its place; the place of the `default` of an export
  spans : Option Span → Claim
  comes : TreeText → Claim
  default_is : BytePos → Claim

mutual
  -- of a node or a leaf, and of its parts in order
  pub data Told : Type 0 where
    tells : List Claim → Tales → Told

  pub data Tales : Type 0 where
    no_tales : Tales
    tale : Told → Tales → Tales

-- a text that was read, and begins at the place
abbrev pub Comes : TreeText → ℕ → Type 0
Comes (Read t place) at = place.0 ≡ at
Comes (Made t origin) at = ⊥

-- of what has the extent, and its text or its `default` at the place
abbrev pub Holds : Extent → ℕ → Claim → Type 0
Holds (extent lo next hi) at (spans (Some s)) = (s.lo.0 ≡ lo) × (s.hi.0 ≡ hi)
Holds e at (spans None) = ⊥
Holds e at (comes t) = Comes t at
Holds e at (default_is b) = b.0 ≡ at

abbrev pub AllHold : Extent → ℕ → List Claim → Type 0
AllHold e at [] = ⊤
AllHold e at (c ∷ cs) = (Holds e at c) × (AllHold e at cs)

-- whether a text is told
abbrev pub has_text : List Claim → Bool
has_text [] = false
has_text (comes t ∷ cs) = true
has_text (c ∷ cs) = has_text cs

-- a leaf without its text isn't told; but a hole has none, and a reserved word may go without, since `this` is no text in the code's tree
abbrev pub is_whole : TokenKind → Text → List Claim → Bool
is_whole Elision t cs = true
is_whole IdentifierName t cs = not (is_ident t) || has_text cs
is_whole k t cs = has_text cs

-- whether the place of a `default` is told
abbrev pub has_default : List Claim → Bool
has_default [] = false
has_default (default_is b ∷ cs) = true
has_default (c ∷ cs) = has_default cs

abbrev mutual
  -- all that is told is so, and each text and each part is told
  pub IsTold : Told → Placed → Type 0
  IsTold (tells cs ds) (leaf_at at e k t) = (AllHold e at cs) × ((is_whole k t cs ≡ true) × (ds ≡ no_tales))
  IsTold (tells cs ds) (node_at e k ps) = (AllHold e (first_byte e) cs) × (AreTold ds ps)
  IsTold (tells cs ds) (default_at at e k ps) = (AllHold e at cs) × ((has_default cs ≡ true) × (AreTold ds ps))
  IsTold (tells cs ds) (list_at ps) = (cs ≡ []) × (AreTold ds ps)

  pub AreTold : Tales → Places → Type 0
  AreTold no_tales end = ⊤
  AreTold (tale d ds) (and p ps) = (IsTold d p) × (AreTold ds ps)
  AreTold ds ps = ⊥
