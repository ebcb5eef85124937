-- The element that a JSX node writes, and the element that a call makes: two readings by cases of their own (JSX specification; React's `createElement`).
use Rattle.std.specs.Prelude.{ℕ, List, [], ◌∷◌, codes, Bool, true, false, cond, ◌&&◌, ◌||◌, nat_le, Option, Some, None}
use Rattle.jsx_base.specs.Token.{Text, IdentifierName, JsxName, same, first_is}
use Rattle.jsx_tree.specs.Kinds.{Call, Member, Object, Spread, Element, expression, jsx, Tree, leaf, node, list, Forest, none, part}
use Rattle.jsx_tree.specs.Nonterminals.{has_dash}

-- what an element is made of: an expression, or a text that a tag, an attribute or a child says
pub data Piece : Type 0 where
  expr : Tree → Piece
  text : Text → Piece

pub data Entry : Type 0 where
  entry : Piece → Piece → Entry
  spread : Piece → Entry

pub data Child : Type 0 where
  plain : Piece → Child
  spread_child : Piece → Child

pub record Elem : Type 0 where
  pub type : Piece
  pub entries : List Entry
  pub key : Option Piece
  pub children : List Child
  pub is_static : Option Bool
  pub source : Option Piece
  pub self : Option Piece

-- how JSX is lowered: the classic runtime's pragma, a name and the members behind it, the last one first
pub record Settings : Type 0 where
  pub root : Text
  pub members : List Text

abbrev pub default_settings : Settings
default_settings = record { root = codes "React"; members = codes "createElement" ∷ [] }

-- ---- what a JSX node writes

abbrev pub is_lower : ℕ → Bool
is_lower c = nat_le 97 c && nat_le c 122

-- `this`, a string for a name that begins with a lower-case letter or has a dash, else a reference
abbrev pub tag_type : Text → Piece
tag_type t =
    cond (same t (codes "this")) (expr (leaf IdentifierName t))
    (cond (first_is is_lower t || has_dash t) (text t) (expr (leaf IdentifierName t)))

abbrev pub bare_element : Piece → Elem
bare_element type = record { type = type; entries = []; key = None; children = []; is_static = None; source = None; self = None }

-- the tags, attributes and children that the compiler doesn't take yet write nothing
abbrev pub written : Settings → Tree → Option Elem
written g (node (jsx Element) (part (leaf JsxName t) (part (list none) none))) = Some (bare_element (tag_type t))
written g t = None

-- ---- what a call makes

-- whether an expression is the name, or its member by these names
abbrev pub is_path : Text → List Text → Tree → Bool
is_path root [] (leaf IdentifierName t) = same t root
is_path root (m ∷ ms) (node (expression Member) (part a (part (leaf IdentifierName t) none))) = same t m && is_path root ms a
is_path root ms t = false

-- the entries of the second argument: none for `null`, those of an object literal (which the compiler doesn't make yet), else a spread of it
abbrev pub props : Tree → Option (List Entry)
props (leaf IdentifierName t) = cond (same t (codes "null")) (Some []) (Some (spread (expr (leaf IdentifierName t)) ∷ []))
props (node (expression Object) cs) = None
props (node (expression Spread) cs) = None
props t = Some (spread (expr t) ∷ [])

abbrev pub child : Tree → Child
child (node (expression Spread) (part t none)) = spread_child (expr t)
child t = plain (expr t)

abbrev pub children : Forest → List Child
children none = []
children (part t ts) = child t ∷ children ts

abbrev pub is_spread : Tree → Bool
is_spread (node (expression Spread) cs) = true
is_spread t = false

abbrev pub made : Tree → Option (List Entry) → Forest → Option Elem
made type None cs = None
made type (Some es) cs = Some (record { type = expr type; entries = es; key = None; children = children cs; is_static = None; source = None; self = None })

-- the pragma's arguments: a type, the properties, and the children
abbrev pub from_arguments : Forest → Option Elem
from_arguments (part type (part p cs)) = cond (is_spread type) None (made type (props p) cs)
from_arguments cs = None

abbrev pub called : Settings → Tree → Option Elem
called g (node (expression Call) (part f (part (list args) none))) = cond (is_path g.root g.members f) (from_arguments args) None
called g t = None
