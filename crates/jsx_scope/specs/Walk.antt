-- Where parentheses are put, as the code finds them in one walk: by how tightly an expression binds, and by what it begins with.
use Rattle.std.specs.Prelude.{ℕ, zero, suc, List, [], ◌∷◌, Bool, true, false, cond, not, ◌&&◌, ◌||◌, nat_lt, nat_eq, codes, Box}
use Rattle.jsx_base.specs.Token.{NumericLiteral, StringLiteral, IdentifierName, same}
use Rattle.jsx_tree.specs.Kinds.{FunctionExpr, ClassExpr, Method, Getter, Setter, Field, ObjectPat, ExpressionKind, Seq, Assign, OpAssign, Arrow, ArrowBlock, BareArrow, BareArrowBlock, Cond, Binary, Unary, PrefixUpdate, PostfixUpdate, Call, Member, Index, Tagged, New, NewWithoutArguments, SuperCall, SuperMember, SuperIndex, ImportCall, ImportMeta, NewTarget, Chain, NameLink, IndexLink, CallLink, Object, BinaryOp, Nullish, Exponentiate, PropertyPat, ShorthandInit, WithInit, ParenTarget, Declarator, Default, FunctionDecl, ClassDecl, ExportDefaultFn, Role, Kind, program, statement, function, expression, jsx, Tree, leaf, node, list, Forest, none, part}
use Rattle.jsx_tree.specs.Nonterminals.{Key, level_of}
use Rattle.jsx_tree.specs.Grammar.{right_of}
use Rattle.jsx_tree.specs.Form.{Position, position, positions}
use Rattle.jsx_tree.specs.Parentheses.{special, is_in, is_init, parens_of, first_no_directive}
use Rattle.std.specs.Global.{Global}
use Rattle.jsx_tree.specs.View.{Owner, forest, view_pattern, view_member}
use Rattle.jsx_tree.specs.declared.tree.Pat.{Pat}
use Rattle.jsx_tree.specs.declared.tree.Prop.{Prop}
use Rattle.jsx_scope.specs.OneWalk.{paired, below}
use Rattle.jsx_scope.specs.Places.{place_at}
use Rattle.jsx_scope.specs.declared.place.Place.{Place}
use Rattle.jsx_scope.specs.declared.place.Place.TheVariants as place
use Rattle.jsx_scope.specs.declared.opening.Opening.{Opening}
use Rattle.jsx_scope.specs.declared.opening.Opening.TheVariants as first

-- ---- how tightly an expression binds (ECMA-262 section 13): the levels of the grammar up to 17, then what may have members, then what is primary. What is no expression binds most.

abbrev pub expression_rank : ExpressionKind → ℕ
expression_rank Seq = 0
expression_rank Assign = 1
expression_rank (OpAssign o) = 1
expression_rank Arrow = 1
expression_rank ArrowBlock = 1
expression_rank BareArrow = 1
expression_rank BareArrowBlock = 1
expression_rank Cond = 2
expression_rank (Binary o) = level_of o
expression_rank (Unary o) = 15
expression_rank (PrefixUpdate o) = 16
expression_rank (PostfixUpdate o) = 16
expression_rank Chain = 17
expression_rank Call = 18
expression_rank Member = 18
expression_rank Index = 18
expression_rank Tagged = 18
expression_rank New = 18
expression_rank NewWithoutArguments = 18
expression_rank SuperCall = 18
expression_rank SuperMember = 18
expression_rank SuperIndex = 18
expression_rank ImportCall = 18
expression_rank ImportMeta = 18
expression_rank NewTarget = 18
expression_rank k = 19

abbrev pub rank : Tree → ℕ
rank (node (expression k) cs) = expression_rank k
rank t = 19

-- whether it binds less than a place asks
abbrev pub low : Place → ℕ → Bool
low (place.Level n) r = nat_lt r n
low place.NullishLeft r = nat_lt r 6 && not (nat_eq r 3)
low place.NewCallee r = nat_lt r 18
low place.DotObject r = nat_lt r 18
low place.Statement r = false
low place.Default r = nat_lt r 1
low place.ArrowBody r = nat_lt r 1

-- ---- the places of a node's parts, and where an `in` stands open

-- whether what a part begins stands open in the head of a `for`, is enclosed in brackets, or stands as the node does
pub data Reach : Type 0 where
  Starts : Reach
  Enclosed : Reach
  Open : Reach

abbrev pub reach_of : Bool → Bool → Reach
reach_of true b = Starts
reach_of false true = Enclosed
reach_of false false = Open

abbrev pub reached : Reach → Bool → Bool
reached Starts bare = true
reached Enclosed bare = false
reached Open bare = bare

-- what a part gets: a place, or nothing, as a name that is bound
pub data Spot : Type 0 where
  spot : Place → Reach → Spot
  still : Spot

abbrev pub plain : Spot
plain = spot (place.Level 0) Open

abbrev pub enclosed : Spot
enclosed = spot (place.Level 0) Enclosed

-- what stands in a key stands in brackets
abbrev pub spot_of : Position → Spot
spot_of (position f Key g b a) = enclosed
spot_of (position f c g b a) = spot (place_at c g) (reach_of (is_init c) b)

abbrev pub spots_of : List Position → List Spot
spots_of [] = []
spots_of (p ∷ ps) = spot_of p ∷ spots_of ps

abbrev pub left_place : BinaryOp → Place
left_place Nullish = place.NullishLeft
left_place Exponentiate = place.Level 16
left_place o = place.Level (level_of o)

-- as the rows say, where the row of a kind looks at its parameter written out
abbrev pub spots : Kind → List Spot
spots (expression (Binary o)) = spot (left_place o) Open ∷ spot (place.Level (right_of o)) Open ∷ []
spots (expression (OpAssign o)) = plain ∷ spot (place.Level 1) Open ∷ []
spots (expression (Unary o)) = spot (place.Level 15) Open ∷ []
spots (expression (PrefixUpdate o)) = plain ∷ []
spots (expression (PostfixUpdate o)) = plain ∷ []
spots (expression (NameLink q)) = plain ∷ []
spots (expression (IndexLink q)) = enclosed ∷ []
spots (expression (CallLink q)) = spot (place.Level 1) Enclosed ∷ []
spots (function (Method h)) = enclosed ∷ enclosed ∷ enclosed ∷ []
spots (function (Getter h)) = enclosed ∷ enclosed ∷ []
spots (function (Setter h)) = enclosed ∷ enclosed ∷ enclosed ∷ []
spots (function (Field h)) = enclosed ∷ spot (place.Level 1) Open ∷ []
spots (jsx k) = []
spots (function FunctionExpr) = still ∷ enclosed ∷ enclosed ∷ []
spots (function ClassExpr) = still ∷ spot (place.Level 17) Open ∷ enclosed ∷ []
spots (statement FunctionDecl) = still ∷ enclosed ∷ enclosed ∷ []
spots (statement ClassDecl) = still ∷ spot (place.Level 17) Open ∷ enclosed ∷ []
spots (program ExportDefaultFn) = still ∷ enclosed ∷ enclosed ∷ []
spots k = spots_of (positions k)

-- ---- what an expression begins with, of what may not come first somewhere

abbrev pub goes_left : ExpressionKind → Bool
goes_left Seq = true
goes_left Assign = true
goes_left (OpAssign o) = true
goes_left Cond = true
goes_left (Binary o) = true
goes_left (PostfixUpdate o) = true
goes_left Call = true
goes_left Member = true
goes_left Index = true
goes_left Tagged = true
goes_left Chain = true
goes_left k = false

abbrev pub opening_of : Kind → Opening → Opening
opening_of (expression Object) o = first.Brace
opening_of (function FunctionExpr) o = first.Keyword
opening_of (function ClassExpr) o = first.Keyword
opening_of (function (ObjectPat r)) o = first.Brace
opening_of (expression k) o = cond (goes_left k) o first.Other
opening_of k o = first.Other

abbrev mutual
  pub opening : Tree → Opening
  opening (leaf s x) = first.Other
  opening (node k cs) = opening_of k (first_opening (spots k) cs)
  opening (list ts) = first.Other

  -- of the first part at its place, where it may get a pair
  pub first_opening : List Spot → Forest → Opening
  first_opening ss none = first.Other
  first_opening [] (part t ts) = first.Other
  first_opening (spot p r ∷ ss) (part t ts) = opening_at p t
  first_opening (still ∷ ss) (part t ts) = first.Other

  pub opening_at : Place → Tree → Opening
  opening_at p (leaf s x) = first.Other
  opening_at p (node k cs) = cond (low p (rank (node k cs))) first.Other (opening_of k (first_opening (spots k) cs))
  opening_at p (list ts) = opening_in p ts

  pub opening_in : Place → Forest → Opening
  opening_in p none = first.Other
  opening_in p (part t ts) = opening_at p t

abbrev pub bars : Place → Opening → Bool
bars place.Statement first.Brace = true
bars place.Statement first.Keyword = true
bars place.Default first.Keyword = true
bars place.ArrowBody first.Brace = true
bars p o = false

-- a call before members, with no pair between: `a().b`, `a()[b]`
abbrev pub is_member : ExpressionKind → Bool
is_member Member = true
is_member Index = true
is_member Tagged = true
is_member k = false

abbrev pub is_call : ExpressionKind → Bool
is_call Call = true
is_call SuperCall = true
is_call ImportCall = true
is_call k = false

abbrev mutual
  pub calls : Tree → Bool
  calls (node (expression k) cs) = is_call k || (is_member k && first_calls cs)
  calls t = false

  pub first_calls : Forest → Bool
  first_calls none = false
  first_calls (part t ts) = calls t

abbrev pub is_number : Tree → Bool
is_number (leaf NumericLiteral x) = true
is_number t = false

-- what a place asks beside
abbrev pub lacks : Place → Tree → Bool
lacks place.NewCallee t = calls t
lacks place.DotObject t = is_number t
lacks p t = bars p (opening t)

-- whether an expression gets a pair at its place
abbrev pub due : Place → Bool → Tree → Bool
due p bare t = (low p (rank t) || lacks p t) || (is_in t && bare)

-- ---- the walk

abbrev mutual
  pub walk : Place → Bool → Tree → Tree
  walk p bare (leaf s x) = paired (due p bare (leaf s x)) (leaf s x)
  walk p bare (node k cs) = paired (due p bare (node k cs)) (special k (walks (below (due p bare (node k cs)) bare) (spots k) cs))
  walk p bare (list ts) = list (walk_each p bare ts)

  pub walks : Bool → List Spot → Forest → Forest
  walks bare ss none = none
  walks bare [] (part t ts) = part t ts
  walks bare (spot p r ∷ ss) (part t ts) = part (walk p (reached r bare) t) (walks bare ss ts)
  walks bare (still ∷ ss) (part t ts) = part t (walks bare ss ts)

  pub walk_each : Place → Bool → Forest → Forest
  walk_each p bare none = none
  walk_each p bare (part t ts) = part (walk p bare t) (walk_each p bare ts)

-- a tree whose parts are walked, with no pair round it
abbrev pub inner : Bool → Tree → Tree
inner bare (leaf s x) = leaf s x
inner bare (node k cs) = special k (walks bare (spots k) cs)
inner bare (list ts) = list ts

-- one part of a tree walked
abbrev pub walk_nth : ℕ → Bool → List Spot → Forest → Forest
walk_nth n bare ss none = none
walk_nth n bare [] (part t ts) = part t ts
walk_nth zero bare (spot p r ∷ ss) (part t ts) = part (walk p (reached r bare) t) ts
walk_nth zero bare (still ∷ ss) (part t ts) = part t ts
walk_nth (suc n) bare (s ∷ ss) (part t ts) = part t (walk_nth n bare ss ts)

abbrev pub with_part : ℕ → Bool → Tree → Tree
with_part n bare (leaf s x) = leaf s x
with_part n bare (node k cs) = node k (walk_nth n bare (spots k) cs)
with_part n bare (list ts) = list ts

-- and what no part has by itself
abbrev pub finished : Tree → Tree
finished (node k cs) = special k cs
finished t = t

-- the place of one part
abbrev pub nth_place : ℕ → List Spot → Place
nth_place n [] = place.Level 0
nth_place zero (spot p r ∷ ss) = p
nth_place zero (still ∷ ss) = place.Level 0
nth_place (suc n) (s ∷ ss) = nth_place n ss

abbrev pub place_of : ℕ → Tree → Place
place_of n (node k cs) = nth_place n (spots k)
place_of n t = place.Level 0

-- functions and classes, whose parts are walked one by one
abbrev pub with_code : ℕ → Bool → Tree → Tree
with_code n bare (node (function FunctionExpr) cs) = with_part n bare (node (function FunctionExpr) cs)
with_code n bare (node (function ClassExpr) cs) = with_part n bare (node (function ClassExpr) cs)
with_code n bare (node (statement FunctionDecl) cs) = with_part n bare (node (statement FunctionDecl) cs)
with_code n bare (node (statement ClassDecl) cs) = with_part n bare (node (statement ClassDecl) cs)
with_code n bare t = t

abbrev pub but_code : Bool → Tree → Tree
but_code bare (node (function FunctionExpr) cs) = node (function FunctionExpr) cs
but_code bare (node (function ClassExpr) cs) = node (function ClassExpr) cs
but_code bare (node (statement FunctionDecl) cs) = node (statement FunctionDecl) cs
but_code bare (node (statement ClassDecl) cs) = node (statement ClassDecl) cs
but_code bare t = inner bare t

-- whether a tree is a string, and the name `async`
abbrev pub is_string : Tree → Bool
is_string (leaf StringLiteral x) = true
is_string t = false

abbrev pub is_async : Tree → Bool
is_async (leaf IdentifierName x) = same x (codes "async")
is_async t = false

-- patterns and members with two parts that are walked
abbrev pub has_halves : Kind → Bool
has_halves (statement Declarator) = true
has_halves (function (WithInit r)) = true
has_halves (function (PropertyPat r)) = true
has_halves (function (ShorthandInit r)) = true
has_halves k = false

abbrev pub but_half : Bool → Tree → Tree
but_half bare (leaf s x) = leaf s x
but_half bare (node k cs) = cond (has_halves k) (with_part 0 bare (node k cs)) (walk (place.Level 0) bare (node k cs))
but_half bare (list ts) = walk (place.Level 0) bare (list ts)

abbrev pub with_half : Bool → Tree → Tree
with_half bare (leaf s x) = leaf s x
with_half bare (node k cs) = cond (has_halves k) (with_part 1 bare (node k cs)) (node k cs)
with_half bare (list ts) = list ts

-- a clause's test, and its statements: `default` has no test
abbrev pub with_test : Bool → Tree → Tree
with_test bare (node (statement Default) cs) = node (statement Default) cs
with_test bare t = with_part 0 bare t

abbrev pub with_second : Bool → Tree → Tree
with_second bare (node (statement Default) cs) = with_part 0 bare (node (statement Default) cs)
with_second bare t = with_part 1 bare t

abbrev pub held : Tree → Tree
held (leaf IdentifierName x) = cond (same x (codes "async")) (node (function ParenTarget) (part (leaf IdentifierName x) none)) (leaf IdentifierName x)
held t = t

-- a pattern and a member in a box, as they are seen
abbrev pub seen_at : Role → Box Pat Global → Tree
seen_at r p = view_pattern p.value r

abbrev pub member_at : Owner → Box Prop Global → Tree
member_at o m = view_member m.value o

-- a string that is an expression statement, where it would be a directive
abbrev pub quoted : Tree → Tree
quoted t = cond (is_string t) (parens_of t) t

-- a function that is the default export, whose parts are walked one by one
abbrev pub but_export : Tree → Tree
but_export (node (program ExportDefaultFn) cs) = with_part 1 false (node (program ExportDefaultFn) cs)
but_export t = walk (place.Level 0) false t

abbrev pub with_export : Tree → Tree
with_export (node (program ExportDefaultFn) cs) = with_part 2 false (node (program ExportDefaultFn) cs)
with_export t = t

-- statements up to a place, and behind it as they are where the first that is written is no directive
abbrev pub kept : ℕ → List Tree → Forest
kept zero ts = first_no_directive (forest ts)
kept (suc i) [] = none
kept (suc i) (t ∷ ts) = part t (kept i ts)
