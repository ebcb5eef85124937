-- One part of a node visited after the other: what each function of the walk does.
use Rattle.std.specs.Prelude.{ℕ, zero, suc, List, [], map, Bool, true, false, cond, Box}
use Rattle.std.specs.Global.{Global}
use Rattle.jsx_tree.specs.Kinds.{Declarator, Default, FunctionDecl, ClassDecl, Role, FunctionExpr, ClassExpr, PropertyPat, ShorthandInit, WithInit, ParenTarget, ExportDefaultFn, Kind, program, statement, function, Tree, leaf, node, list, Forest, none, part}
use Rattle.jsx_tree.specs.Spans.{Told, tells, Tales, no_tales, tale}
use Rattle.jsx_tree.specs.Told.{tales}
use Rattle.jsx_tree.specs.View.{Owner, view_pattern, view_member}
use Rattle.jsx_tree.specs.declared.tree.Pat.{Pat}
use Rattle.jsx_tree.specs.declared.tree.Prop.{Prop}
use Rattle.jsx_visit.specs.Visit.{visited, visiteds, within}

-- the n-th part of a node, counted from 0
abbrev pub nth_visited : ℕ → (Kind → Forest → Tree) → Forest → Forest
nth_visited n f none = none
nth_visited zero f (part t ts) = part (visited f t) ts
nth_visited (suc n) f (part t ts) = part t (nth_visited n f ts)

abbrev pub with_part : ℕ → (Kind → Forest → Tree) → Tree → Tree
with_part n f (leaf s x) = leaf s x
with_part n f (node k cs) = node k (nth_visited n f cs)
with_part n f (list ts) = list ts

-- the first two parts, and those behind them
abbrev pub front_visited : (Kind → Forest → Tree) → Forest → Forest
front_visited f (part t (part u us)) = part (visited f t) (part (visited f u) us)
front_visited f ts = visiteds f ts

abbrev pub rest_visited : (Kind → Forest → Tree) → Forest → Forest
rest_visited f (part t (part u us)) = part t (part u (visiteds f us))
rest_visited f ts = ts

-- functions and classes, whose parts are visited one by one: a name and the parameters or the parent, then what stands in braces
abbrev pub is_code : Kind → Bool
is_code (function FunctionExpr) = true
is_code (function ClassExpr) = true
is_code (statement FunctionDecl) = true
is_code (statement ClassDecl) = true
is_code k = false

abbrev pub but_code : (Kind → Forest → Tree) → Tree → Tree
but_code f (leaf s x) = leaf s x
but_code f (node k cs) = cond (is_code k) (node k cs) (within f (node k cs))
but_code f (list ts) = list (visiteds f ts)

abbrev pub front_of_code : (Kind → Forest → Tree) → Tree → Tree
front_of_code f (leaf s x) = leaf s x
front_of_code f (node k cs) = cond (is_code k) (node k (front_visited f cs)) (node k cs)
front_of_code f (list ts) = list ts

abbrev pub rest_of_code : (Kind → Forest → Tree) → Tree → Tree
rest_of_code f (leaf s x) = leaf s x
rest_of_code f (node k cs) = cond (is_code k) (node k (rest_visited f cs)) (node k cs)
rest_of_code f (list ts) = list ts

-- patterns whose first part isn't all that is visited, and targets in parentheses, which aren't made anew with it
abbrev pub has_halves : Kind → Bool
has_halves (statement Declarator) = true
has_halves (function (WithInit r)) = true
has_halves (function (PropertyPat r)) = true
has_halves (function (ShorthandInit r)) = true
has_halves (function ParenTarget) = true
has_halves k = false

abbrev pub tail_visited : (Kind → Forest → Tree) → Forest → Forest
tail_visited f none = none
tail_visited f (part t ts) = part t (visiteds f ts)

abbrev pub with_half : (Kind → Forest → Tree) → Tree → Tree
with_half f (leaf s x) = leaf s x
with_half f (node k cs) = cond (has_halves k) (node k (tail_visited f cs)) (node k cs)
with_half f (list ts) = list ts

abbrev pub but_half : (Kind → Forest → Tree) → Tree → Tree
but_half f (leaf s x) = leaf s x
but_half f (node k cs) = cond (has_halves k) (node k (nth_visited 0 f cs)) (visited f (node k cs))
but_half f (list ts) = list (visiteds f ts)

-- a target in parentheses
abbrev pub is_pair : Tree → Bool
is_pair (node (function ParenTarget) cs) = true
is_pair t = false

-- a pattern that is visited, but for its own parentheses
abbrev pub but_pair : (Kind → Forest → Tree) → Tree → Tree
but_pair f (node (function ParenTarget) cs) = node (function ParenTarget) (visiteds f cs)
but_pair f t = visited f t

-- a clause's test, and its statements: `default` has no test
abbrev pub with_test : (Kind → Forest → Tree) → Tree → Tree
with_test f (node (statement Default) cs) = node (statement Default) cs
with_test f t = with_part 0 f t

abbrev pub with_second : (Kind → Forest → Tree) → Tree → Tree
with_second f (node (statement Default) cs) = node (statement Default) (visiteds f cs)
with_second f t = with_part 1 f t

-- a function that is the default export, whose parts are visited one by one
abbrev pub but_export : (Kind → Forest → Tree) → Tree → Tree
but_export f (node (program ExportDefaultFn) cs) = node (program ExportDefaultFn) (front_visited f cs)
but_export f t = visited f t

abbrev pub with_export : (Kind → Forest → Tree) → Tree → Tree
with_export f (node (program ExportDefaultFn) cs) = node (program ExportDefaultFn) (rest_visited f cs)
with_export f t = t

-- a pattern in a box as it binds or assigns, and a member as one of an object or a class
abbrev pub seen_at : Role → Box Pat Global → Tree
seen_at r b = view_pattern b.value r

abbrev pub member_at : Owner → Box Prop Global → Tree
member_at o b = view_member b.value o

-- ---- places

abbrev pub nothing : Told
nothing = tells [] no_tales

-- what is told of places, part by part, where a visitor keeps it, and else nothing
abbrev mutual
  pub kept : Bool → Told → Told
  kept b (tells cs ds) = cond b (tells cs (kepts b ds)) nothing

  pub kepts : Bool → Tales → Tales
  kepts b no_tales = no_tales
  kepts b (tale d ds) = tale (kept b d) (kepts b ds)

abbrev pub kept_each : {A : Type 0} → Bool → (A → Told) → List A → Tales
kept_each b f xs = kepts b (tales (map f xs))
