-- A tree's signs: the walk over its production (ECMA-262 sections 13 to 16; JSX specification).
use Rattle.std.specs.Prelude.{List, [], ◌∷◌, ◌++◌}
use Rattle.jsx_base.specs.Token.{Text, Mode, Operand, Operator, Piece, Tag, Children, TokenKind, RegExpLiteral, TemplateMiddle, TemplateTail, JsxName, JsxString, JsxText, Elision}
use Rattle.jsx_tree.specs.Signs.{Sign, Tok, TrailingComma, Unless, Space, Line, Begin, One, End}
use Rattle.jsx_tree.specs.Kinds.{Tree, leaf, node, list, Forest, none, part}
use Rattle.jsx_tree.specs.Grammar.{ListShape, Commas, Elisions, NoTrailing, TwoOrMore, Lines, TopLines, Spaced, Dotted, JsxChildren, Fixed, Part, Optional, Many, Within, Production, pun, tag, production}

-- the mode in which a literal is read
abbrev pub mode_of : TokenKind → Mode
mode_of RegExpLiteral = Operand
mode_of TemplateMiddle = Piece
mode_of TemplateTail = Piece
mode_of JsxName = Tag
mode_of JsxString = Tag
mode_of JsxText = Children
mode_of _ = Operator

abbrev pub leaf_signs : TokenKind → Text → List Sign
leaf_signs Elision t = []
leaf_signs s t = One ∷ Tok (mode_of s) s t ∷ []

-- the first token among JSX children: no blank is skipped before it
abbrev pub among_text : List Sign → List Sign
among_text [] = []
among_text (Tok m s t ∷ ms) = Tok Children s t ∷ ms
among_text (m ∷ ms) = m ∷ among_text ms

abbrev pub before : ListShape → List Sign → List Sign
before Lines x = Line ∷ x
before Spaced x = Space ∷ x
before JsxChildren x = among_text x
before s x = x

abbrev pub between : ListShape → List Sign
between Commas = pun "," ∷ Space ∷ []
between Elisions = pun "," ∷ Space ∷ []
between NoTrailing = pun "," ∷ Space ∷ []
between TwoOrMore = pun "," ∷ Space ∷ []
between TopLines = Line ∷ []
between Dotted = tag "." ∷ []
between s = []

-- behind the last one: a trailing comma may be read, and one must follow a last hole
abbrev pub behind : ListShape → List Sign → List Sign
behind Commas x = TrailingComma ∷ []
behind Elisions [] = pun "," ∷ []
behind Elisions x = TrailingComma ∷ []
behind TopLines x = Line ∷ []
behind s x = []

abbrev pub gathered : ListShape → List (List Sign) → List Sign
gathered s [] = []
gathered s (x ∷ []) = before s x ++ behind s x
gathered s (x ∷ y ∷ ys) = before s x ++ (between s ++ gathered s (y ∷ ys))

abbrev pub joined : List (List Sign) → List Sign
joined [] = []
joined (x ∷ []) = x
joined (x ∷ y ∷ ys) = x ++ joined (y ∷ ys)

-- an optional part, between the signs before and behind it; where it is absent, none of these tokens may come next
abbrev pub maybe : List Sign → List Sign → List Text → List (List Sign) → List Sign
maybe a b [] [] = []
maybe a b (r ∷ rs) [] = Unless (r ∷ rs) ∷ []
maybe a b rs (x ∷ xs) = a ++ (x ++ b)

-- the symbols in order, each part's signs in its place
abbrev pub walk : Production → List (List (List Sign)) → List Sign
walk [] xs = End ∷ []
walk (Fixed m ∷ ps) xs = m ∷ walk ps xs
walk (Within a ∷ ps) xs = walk ps xs
walk (Part c ∷ ps) (x ∷ xs) = joined x ++ walk ps xs
walk (Optional a c b r ∷ ps) (x ∷ xs) = maybe a b r x ++ walk ps xs
walk (Many s c ∷ ps) (x ∷ xs) = gathered s x ++ walk ps xs
walk (_ ∷ ps) [] = End ∷ []

abbrev mutual
  -- the signs of a tree, or of each tree of a list
  pub said : Tree → List (List Sign)
  said (leaf s t) = leaf_signs s t ∷ []
  said (node k cs) = (Begin ∷ walk (production k) (saids cs)) ∷ []
  said (list ts) = each_said ts

  pub saids : Forest → List (List (List Sign))
  saids none = []
  saids (part t ts) = said t ∷ saids ts

  pub each_said : Forest → List (List Sign)
  each_said none = []
  each_said (part t ts) = joined (said t) ∷ each_said ts

abbrev pub spelled : Tree → List Sign
spelled t = joined (said t)
