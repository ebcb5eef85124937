-- When a printed tree stands for a source tree: every node for itself, and each JSX node for one call that makes the element that it writes.
use Rattle.std.specs.Prelude.{◌≡◌, List, [], ◌∷◌, ◌++◌, Bool, true, false, IsFalse, Some, None, ◌||◌}
use Rattle.jsx_base.specs.Token.{TokenKind, StringLiteral, JsxName, JsxString, JsxText}
use Rattle.jsx_tree.specs.Kinds.{Kind, jsx, Tree, leaf, node, list, Forest, none, part}
use Rattle.react_compile.specs.Made.{quoted}
use Rattle.react_compile.specs.Element.{Piece, expr, text, Entry, entry, spread, Child, plain, spread_child, Elem, Settings, written, called}

-- what the compiler adds beside the lowered calls: nothing so far
pub data Added : Type 0 where

abbrev pub is_jsx : Kind → Bool
is_jsx (jsx k) = true
is_jsx k = false

abbrev pub is_jsx_leaf : TokenKind → Bool
is_jsx_leaf JsxName = true
is_jsx_leaf JsxString = true
is_jsx_leaf JsxText = true
is_jsx_leaf k = false

-- whether a tree has JSX in it
abbrev mutual
  pub has_jsx : Tree → Bool
  has_jsx (leaf k t) = is_jsx_leaf k
  has_jsx (node k cs) = is_jsx k || have_jsx cs
  has_jsx (list ts) = have_jsx ts

  pub have_jsx : Forest → Bool
  have_jsx none = false
  have_jsx (part t ts) = has_jsx t || have_jsx ts

mutual
  -- the printed tree stands for the source tree, with these additions, each met once and in order
  pub data StandsFor (g : Settings) : Tree → Tree → List Added → Type 0 where
    same_leaf : (k : TokenKind) (t : List _) → StandsFor g (leaf k t) (leaf k t) []
    same_list : {ts us : Forest} {a : List Added} → InOrder g ts us a → StandsFor g (list ts) (list us) a
    same_node : (k : Kind) {ts us : Forest} {a : List Added} → IsFalse (is_jsx k) → InOrder g ts us a → StandsFor g (node k ts) (node k us) a
    lowered : {t u : Tree} {e f : Elem} {a : List Added} → written g t ≡ Some e → called g u ≡ Some f → MakesElem g e f a → StandsFor g t u a

  pub data InOrder (g : Settings) : Forest → Forest → List Added → Type 0 where
    no_more : InOrder g none none []
    next_stands : {t u : Tree} {ts us : Forest} {a b : List Added} → StandsFor g t u a → InOrder g ts us b → InOrder g (part t ts) (part u us) (a ++ b)

  -- an element that is made stands for one that is written, part for part
  pub data MakesElem (g : Settings) : Elem → Elem → List Added → Type 0 where
    makes : {e f : Elem} {a b c : List Added} → MakesPiece g e.type f.type a → MakesEntries g e.entries f.entries b → MakesChildren g e.children f.children c
        → e.key ≡ None → f.key ≡ None → e.is_static ≡ f.is_static → e.source ≡ None → f.source ≡ None → e.self ≡ None → f.self ≡ None → MakesElem g e f (a ++ (b ++ c))

  -- an expression for an expression, a literal for the text that is its value
  pub data MakesPiece (g : Settings) : Piece → Piece → List Added → Type 0 where
    expression_for : {t u : Tree} {a : List Added} → StandsFor g t u a → MakesPiece g (expr t) (expr u) a
    literal_for : (t : List _) → MakesPiece g (text t) (expr (leaf StringLiteral (quoted t))) []

  pub data MakesEntries (g : Settings) : List Entry → List Entry → List Added → Type 0 where
    no_entries : MakesEntries g [] [] []
    next_entry : {k l v w : Piece} {es fs : List Entry} {a b c : List Added} → MakesPiece g k l a → MakesPiece g v w b → MakesEntries g es fs c → MakesEntries g (entry k v ∷ es) (entry l w ∷ fs) (a ++ (b ++ c))
    next_spread : {v w : Piece} {es fs : List Entry} {a b : List Added} → MakesPiece g v w a → MakesEntries g es fs b → MakesEntries g (spread v ∷ es) (spread w ∷ fs) (a ++ b)

  pub data MakesChildren (g : Settings) : List Child → List Child → List Added → Type 0 where
    no_children : MakesChildren g [] [] []
    next_child : {v w : Piece} {es fs : List Child} {a b : List Added} → MakesPiece g v w a → MakesChildren g es fs b → MakesChildren g (plain v ∷ es) (plain w ∷ fs) (a ++ b)
    next_spread_child : {v w : Piece} {es fs : List Child} {a b : List Added} → MakesPiece g v w a → MakesChildren g es fs b → MakesChildren g (spread_child v ∷ es) (spread_child w ∷ fs) (a ++ b)
