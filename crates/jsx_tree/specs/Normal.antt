-- The normal form of a tree, and the tree that its layout reads as (ECMA-262 section 13.2.5 for shorthands, 16.2 for specifiers).
use Rattle.std.specs.Prelude.{List, [], ◌∷◌, codes, Bool, true, false, cond}
use Rattle.jsx_base.specs.Token.{IdentifierName, StringLiteral, same}
use Rattle.jsx_tree.specs.Kinds.{Specifier, SpecifierAs, Empty, Role, ComputedKey, ObjectPat, PropertyPat, ShorthandPat, ShorthandInit, WithInit, ParenTarget, Arrow, ArrowBlock, BareArrow, BareArrowBlock, New, NewWithoutArguments, Object, Property, Shorthand, Parenthesized, Kind, program, statement, function, expression, Tree, leaf, node, list, Forest, none, part}
use Rattle.jsx_tree.specs.Form.{Form, Several, Position, position, positions}

abbrev pub pair : Tree → Tree → Forest
pair a b = part a (part b none)

-- a shorthand written out, in a literal and in a pattern: `{ a }` as `{ a: a }`. `{ __proto__ }` makes a property of its own, which `{ __proto__: __proto__ }` wouldn't, so the key is computed.
abbrev pub long_prop : Tree → Tree
long_prop (node (expression Shorthand) (part (leaf IdentifierName t) none)) =
    node (expression Property) (pair (cond (same t (codes "__proto__")) (node (function ComputedKey) (part (leaf StringLiteral (codes "\"__proto__\"")) none)) (leaf IdentifierName t)) (leaf IdentifierName t))
long_prop t = t

abbrev pub long_pat : Role → Tree → Tree
long_pat r (node (function (ShorthandPat q)) (part a none)) = node (function (PropertyPat r)) (pair a a)
long_pat r (node (function (ShorthandInit q)) (part a (part e none))) = node (function (PropertyPat r)) (pair a (node (function (WithInit r)) (pair a e)))
long_pat r t = t

abbrev pub each : (Tree → Tree) → Forest → Forest
each f none = none
each f (part t ts) = part (f t) (each f ts)

abbrev pub is_empty : Tree → Bool
is_empty (node (statement Empty) cs) = true
is_empty t = false

abbrev pub unless_empty : Bool → Tree → Forest → Forest
unless_empty true t ts = ts
unless_empty false t ts = part t ts

abbrev pub without_empty : Forest → Forest
without_empty none = none
without_empty (part t ts) = unless_empty (is_empty t) t (without_empty ts)

-- the rules that the layout keeps: `a => b` is written `(a) => b`, `new F` is written `new F()`
abbrev pub laid_node : Kind → Forest → Tree
laid_node (expression BareArrow) (part a b) = node (expression Arrow) (part (list (part a none)) b)
laid_node (expression BareArrowBlock) (part a b) = node (expression ArrowBlock) (part (list (part a none)) b)
laid_node (expression NewWithoutArguments) (part a none) = node (expression New) (pair a (list none))
laid_node k cs = node k cs

-- the others: parentheses off, shorthands written out
abbrev pub plain_node : Kind → Forest → Tree
plain_node (expression Parenthesized) (part e none) = e
plain_node (function ParenTarget) (part e none) = e
plain_node (expression Object) (part (list ts) none) = node (expression Object) (part (list (each long_prop ts)) none)
plain_node (function (ObjectPat r)) (part (list ts) none) = node (function (ObjectPat r)) (part (list (each (long_pat r) ts)) none)
plain_node (program (Specifier s)) (part a none) = node (program (SpecifierAs s)) (pair a a)
plain_node k cs = laid_node k cs

abbrev pub of_list : Form → Tree → Tree
of_list (Several s) (list ts) = list (without_empty ts)
of_list f t = t

abbrev mutual
  -- with each node made anew by the rule
  pub made : (Kind → Forest → Tree) → Tree → Tree
  made f (leaf s t) = leaf s t
  made f (node k cs) = f k (mades f (positions k) cs)
  made f (list ts) = list (each_made f ts)

  pub mades : (Kind → Forest → Tree) → List Position → Forest → Forest
  mades f ss none = none
  mades f [] (part t ts) = part (made f t) (mades f [] ts)
  mades f (position o c g b a ∷ ss) (part t ts) = part (of_list o (made f t)) (mades f ss ts)

  pub each_made : (Kind → Forest → Tree) → Forest → Forest
  each_made f none = none
  each_made f (part t ts) = part (made f t) (each_made f ts)

abbrev mutual
  -- the same with all lists kept
  pub remade : (Kind → Forest → Tree) → Tree → Tree
  remade f (leaf s t) = leaf s t
  remade f (node k cs) = f k (remades f cs)
  remade f (list ts) = list (remades f ts)

  pub remades : (Kind → Forest → Tree) → Forest → Forest
  remades f none = none
  remades f (part t ts) = part (remade f t) (remades f ts)

abbrev pub nf : Tree → Tree
nf t = made plain_node t

abbrev pub laid_tree : Tree → Tree
laid_tree t = made laid_node t

-- parentheses off, and nothing else changed
abbrev pub unwrapped_node : Kind → Forest → Tree
unwrapped_node (expression Parenthesized) (part e none) = e
unwrapped_node (function ParenTarget) (part e none) = e
unwrapped_node k cs = node k cs

abbrev pub without_parentheses : Tree → Tree
without_parentheses t = remade unwrapped_node t
