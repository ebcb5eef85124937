-- JSX lowered to calls, so far each element without attributes and children to the call that makes it; and the tree that is printed of a source's.
use Rattle.std.specs.Prelude.{[], codes, Bool, true, false, cond, not, ◌&&◌, ◌||◌, IsTrue, IsFalse}
use Rattle.jsx_base.specs.Token.{Text, IdentifierName, StringLiteral, JsxName, same, first_is}
use Rattle.jsx_tree.specs.declared.text.Goal.{Goal}
use Rattle.jsx_tree.specs.Kinds.{Call, Member, Element, Kind, expression, jsx, Tree, leaf, node, list, Forest, none, part}
use Rattle.jsx_tree.specs.Nonterminals.{has_dash}
use Rattle.jsx_tree.specs.Normal.{remade, without_parentheses, nf, laid_tree}
use Rattle.jsx_tree.specs.Parentheses.{parenthesise}
use Rattle.jsx_tree.specs.Program.{is_goal}
use Rattle.jsx_tree.specs.Fits.{fits}
use Rattle.jsx_tree.specs.Sound.{each_node}
use Rattle.react_compile.specs.Element.{default_settings, is_lower}
use Rattle.react_compile.specs.Made.{quoted}
use Rattle.react_compile.specs.StandsFor.{StandsFor, has_jsx}

-- whether a tag is a string: its name begins with a lower-case letter or has a dash, and isn't `this`
abbrev pub is_string_tag : Text → Bool
is_string_tag t = not (same t (codes "this")) && (first_is is_lower t || has_dash t)

abbrev pub name : Text → Tree
name t = leaf IdentifierName t

abbrev pub tag_type : Text → Tree
tag_type t = cond (is_string_tag t) (leaf StringLiteral (quoted t)) (name t)

abbrev pub pragma : Tree
pragma = node (expression Member) (part (name (codes "React")) (part (name (codes "createElement")) none))

-- the call that makes an element
abbrev pub element_call : Text → Tree
element_call t = node (expression Call) (part pragma (part (list (part (tag_type t) (part (name (codes "null")) none))) none))

abbrev pub lower_node : Kind → Forest → Tree
lower_node (jsx Element) (part (leaf JsxName t) as') = element_call t
lower_node k cs = node k cs

abbrev pub lower : Tree → Tree
lower t = remade lower_node t

-- a node that isn't JSX, or an element that is lowered so far: its tag is one name, and it has no attributes
abbrev pub is_lowerable : Kind → Forest → Bool
is_lowerable (jsx Element) (part (leaf JsxName t) (part (list none) none)) = true
is_lowerable (jsx k) cs = false
is_lowerable k cs = true

abbrev pub can_lower : Tree → Bool
can_lower t = each_node is_lowerable t

-- the tree that is printed: parentheses off, elements lowered, and parentheses where they are needed
abbrev pub prepared : Tree → Tree
prepared t = parenthesise (lower (without_parentheses t))

-- it can be printed, under the goal, and what its layout reads as is free of JSX and stands for the source's tree
pub record IsPrepared (goal : Goal) (t : Tree) : Type 0 where
  pub of_goal : IsTrue (is_goal goal (prepared t))
  pub can_print : IsTrue (fits (prepared t))
  pub jsx_free : IsFalse (has_jsx (laid_tree (prepared t)))
  pub stands_for : StandsFor default_settings (nf t) (nf (laid_tree (prepared t))) []
