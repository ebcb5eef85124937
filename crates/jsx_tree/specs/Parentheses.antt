-- Where parentheses are put (ECMA-262 sections 13.2, parenthesized expressions, and 14.5).
use Rattle.std.specs.Prelude.{List, [], ◌∷◌, codes, Bool, true, false, cond, not, ◌&&◌, ◌||◌}
use Rattle.jsx_base.specs.Token.{Text, IdentifierName, NumericLiteral, StringLiteral, same, among}
use Rattle.jsx_tree.specs.Kinds.{Module, Script, FunctionBody, ExprStmt, ForOf, ParenTarget, InOp, Binary, Parenthesized, Kind, program, statement, function, expression, Tree, leaf, node, list, Forest, none, part}
use Rattle.jsx_tree.specs.Nonterminals.{Nonterminal, Expr, MemberObject, Argument, ArrayItem, ForInit, WholeProgram, NullishLeft, NewCallee, DotObject, in_homes, homes, leaf_in}
use Rattle.jsx_tree.specs.Normal.{is_empty, laid_node, remade}
use Rattle.jsx_tree.specs.Form.{Position, position, positions, admits}
use Rattle.jsx_tree.specs.Spelling.{spelled}
use Rattle.jsx_tree.specs.Layout.{first_token}

-- the places of expressions
abbrev pub asks : Nonterminal → Bool
asks (Expr n) = true
asks MemberObject = true
asks NullishLeft = true
asks NewCallee = true
asks DotObject = true
asks Argument = true
asks ArrayItem = true
asks ForInit = true
asks c = false

abbrev pub is_expression : Tree → Bool
is_expression (leaf s t) = leaf_in (Expr 0) s t
is_expression (node k cs) = in_homes (Expr 0) (homes k)
is_expression (list ts) = false

abbrev pub parens_of : Tree → Tree
parens_of e = node (expression Parenthesized) (part e none)

-- where a number would take the dot that follows: `(1).a`
abbrev pub is_dotted_number : Nonterminal → Tree → Bool
is_dotted_number DotObject (leaf NumericLiteral t) = true
is_dotted_number c t = false

abbrev pub is_in : Tree → Bool
is_in (node (expression (Binary InOp)) cs) = true
is_in t = false

-- an expression as it is written: `new F` is written `new F()`, so `new F().x` needs no parentheses
abbrev pub as_laid : Tree → Tree
as_laid (leaf s t) = leaf s t
as_laid (node k cs) = laid_node k cs
as_laid (list ts) = list ts

-- whether an expression stands at a place only in parentheses: it isn't at home there, or it would begin with a token that may not come first
abbrev pub wants : Nonterminal → List Text → Tree → Bool
wants c g t = asks c && (is_expression t && (not (admits c (as_laid t)) || (among (first_token (spelled t)) g || is_dotted_number c t)))

abbrev pub wrapped : Nonterminal → List Text → Tree → Tree
wrapped c g t = cond (wants c g t) (parens_of t) t

abbrev mutual
  -- what the productions ask by themselves
  pub dress : Nonterminal → List Text → Tree → Tree
  dress c g (leaf s t) = wrapped c g (leaf s t)
  dress c g (node k cs) = wrapped c g (node k (dresses (positions k) cs))
  dress c g (list ts) = list (dress_each c ts)

  pub dresses : List Position → Forest → Forest
  dresses ss none = none
  dresses [] (part t ts) = part t ts
  dresses (position f c g b a ∷ ss) (part t ts) = part (dress c g t) (dresses ss ts)

  pub dress_each : Nonterminal → Forest → Forest
  dress_each c none = none
  dress_each c (part t ts) = part (dress c [] t) (dress_each c ts)

-- a string that would be read as a directive, and the name `async` before `of`
abbrev pub no_directive : Tree → Tree
no_directive (node (statement ExprStmt) (part (leaf StringLiteral t) none)) = node (statement ExprStmt) (part (parens_of (leaf StringLiteral t)) none)
no_directive t = t

-- the first statement that is written: empty statements aren't
abbrev pub first_no_directive : Forest → Forest
first_no_directive none = none
first_no_directive (part t ts) = cond (is_empty t) (part t (first_no_directive ts)) (part (no_directive t) ts)

abbrev pub behind_directives : Forest → Forest
behind_directives (part ds (part (list ts) none)) = part ds (part (list (first_no_directive ts)) none)
behind_directives cs = cs

abbrev pub held_async : Forest → Forest
held_async (part (leaf IdentifierName t) cs) = part (cond (same t (codes "async")) (node (function ParenTarget) (part (leaf IdentifierName t) none)) (leaf IdentifierName t)) cs
held_async cs = cs

abbrev pub special : Kind → Forest → Tree
special (program Module) cs = node (program Module) (behind_directives cs)
special (program Script) cs = node (program Script) (behind_directives cs)
special (program FunctionBody) cs = node (program FunctionBody) (behind_directives cs)
special (statement ForOf) cs = node (statement ForOf) (held_async cs)
special k cs = node k cs

abbrev pub is_init : Nonterminal → Bool
is_init ForInit = true
is_init c = false

abbrev pub if_in : Bool → Tree → Tree
if_in shut t = cond (shut && is_in t) (parens_of t) t

abbrev mutual
  -- the parentheses round each `in` that stands open in the head of a `for`
  pub shield : Bool → Tree → Tree
  shield shut (leaf s t) = leaf s t
  shield shut (node k cs) = if_in shut (node k (shields (shut && not (is_in (node k cs))) (positions k) cs))
  shield shut (list ts) = list (shield_each shut ts)

  pub shields : Bool → List Position → Forest → Forest
  shields shut ss none = none
  shields shut [] (part t ts) = part t ts
  shields shut (position f c g b a ∷ ss) (part t ts) = part (shield (is_init c || (shut && not b)) t) (shields shut ss ts)

  pub shield_each : Bool → Forest → Forest
  shield_each shut none = none
  shield_each shut (part t ts) = part (shield shut t) (shield_each shut ts)

abbrev pub parenthesise : Tree → Tree
parenthesise t = shield false (remade special (dress WholeProgram [] t))
