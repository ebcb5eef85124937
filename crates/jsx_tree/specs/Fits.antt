-- Which trees fit: their layout reads back. Beside the grammar's form and the static rules it is asked that each part begins as it may at its place, and that nothing is JSX.
use Rattle.std.specs.Prelude.{List, [], ◌∷◌, Bool, true, false, not, ◌&&◌}
use Rattle.jsx_base.specs.Token.{Text, TokenKind, IdentifierName, NumericLiteral, BigIntLiteral, StringLiteral, RegExpLiteral, NoSubstitution, TemplateHead, TemplateMiddle, TemplateTail, Elision, among}
use Rattle.jsx_tree.specs.Kinds.{InObject, Field, BareArrow, BareArrowBlock, NewWithoutArguments, OpAssign, Kind, function, expression, jsx, Tree, leaf, node, list, Forest, none, part}
use Rattle.jsx_tree.specs.Nonterminals.{Nonterminal, WholeProgram, assigns}
use Rattle.jsx_tree.specs.Spelling.{spelled}
use Rattle.jsx_tree.specs.Layout.{first_token}
use Rattle.jsx_tree.specs.Normal.{laid_tree}
use Rattle.jsx_tree.specs.Form.{Position, position, positions, is}
use Rattle.jsx_tree.specs.Parentheses.{is_dotted_number}
use Rattle.jsx_tree.specs.StaticRules.{outside, legal}

-- the kinds of leaf of code
abbrev pub is_solid : TokenKind → Bool
is_solid IdentifierName = true
is_solid NumericLiteral = true
is_solid BigIntLiteral = true
is_solid StringLiteral = true
is_solid RegExpLiteral = true
is_solid NoSubstitution = true
is_solid TemplateHead = true
is_solid TemplateMiddle = true
is_solid TemplateTail = true
is_solid Elision = true
is_solid s = false

-- what a printed tree has: no JSX, and what is written in one form alone
abbrev pub is_plain : Kind → Bool
is_plain (jsx k) = false
is_plain (expression BareArrow) = false
is_plain (expression BareArrowBlock) = false
is_plain (expression NewWithoutArguments) = false
is_plain (function (Field InObject)) = false
is_plain (expression (OpAssign o)) = assigns o
is_plain k = true

-- what begins a part isn't among the tokens that may not come first there; no number stands before a `.`
abbrev pub may_begin : Nonterminal → List Text → Tree → Bool
may_begin c g t = not (among (first_token (spelled t)) g) && not (is_dotted_number c t)

abbrev mutual
  -- no JSX, nothing but what is laid, and each part begins as it may
  pub held : Nonterminal → List Text → Tree → Bool
  held c g (leaf s t) = may_begin c g (leaf s t) && is_solid s
  held c g (node k cs) = may_begin c g (node k cs) && (is_plain k && helds (positions k) cs)
  held c g (list ts) = held_each c ts

  pub helds : List Position → Forest → Bool
  helds [] ts = true
  helds (s ∷ ss) none = true
  helds (position f c g b a ∷ ss) (part t ts) = held c g t && helds ss ts

  pub held_each : Nonterminal → Forest → Bool
  held_each c none = true
  held_each c (part t ts) = held c [] t && held_each c ts

-- a tree that is laid, and fits
abbrev pub fits_laid : Tree → Bool
fits_laid t = is WholeProgram t && (legal outside t && held WholeProgram [] t)

-- a tree that fits is one whose laid tree does
abbrev pub fits : Tree → Bool
fits t = fits_laid (laid_tree t)
