-- An `in` that no bracket encloses, in the trees that the compiler takes so far.
use Rattle.std.specs.Prelude.{Bool, true, false, cond, ◌||◌}
use Rattle.jsx_tree.specs.Kinds.{Declarator, Seq, Arrow, BareArrow, Assign, OpAssign, Cond, Binary, Unary, PrefixUpdate, PostfixUpdate, Call, Member, Index, New, NewWithoutArguments, Kind, statement, expression, Tree, leaf, node, list, Forest, none, part, Tagged, Chain}
use Rattle.jsx_tree.specs.StaticRules.{is_in_op}

-- brackets of its own enclose no part, or all but the first, or all but the last, which is the value of an arrow function; of the other kinds they enclose all
abbrev pub spreads : Kind → Bool
spreads (expression (Binary o)) = true
spreads (expression Assign) = true
spreads (expression (OpAssign o)) = true
spreads (expression Cond) = true
spreads (expression (Unary o)) = true
spreads (expression (PrefixUpdate o)) = true
spreads (expression (PostfixUpdate o)) = true
spreads k = false

abbrev pub fronts : Kind → Bool
fronts (expression Call) = true
fronts (expression Member) = true
fronts (expression Index) = true
fronts (expression Tagged) = true
fronts (expression Chain) = true
fronts (expression New) = true
fronts (expression NewWithoutArguments) = true
fronts k = false

abbrev pub lasts : Kind → Bool
lasts (expression Arrow) = true
lasts (expression BareArrow) = true
lasts k = false

abbrev mutual
  pub opens : Tree → Bool
  opens (leaf s t) = false
  opens (node k cs) = cond (spreads k) (is_in_op k || any_of cs) (cond (fronts k) (first_of cs) (cond (lasts k) (second_of cs) false))
  opens (list ts) = false

  pub any_of : Forest → Bool
  any_of none = false
  any_of (part t none) = opens t
  any_of (part t (part u us)) = opens t || any_of (part u us)

  pub first_of : Forest → Bool
  first_of none = false
  first_of (part t ts) = opens t

  pub second_of : Forest → Bool
  second_of none = false
  second_of (part t none) = false
  second_of (part t (part u us)) = opens u

abbrev pub some_of : (Tree → Bool) → Forest → Bool
some_of f none = false
some_of f (part t ts) = f t || some_of f ts

-- of what may be a sequence: no place outside of brackets takes one
abbrev pub is_several : Kind → Bool
is_several (expression Seq) = true
is_several k = false

abbrev pub opens_listed : Forest → Bool
opens_listed (part (list ts) none) = some_of opens ts
opens_listed ts = false

abbrev pub opens_whole : Tree → Bool
opens_whole (node k ts) = cond (is_several k) (opens_listed ts) (opens (node k ts))
opens_whole t = opens t

-- of a declarator: what is bound has none in it
abbrev pub opens_declared : Tree → Bool
opens_declared (node (statement Declarator) (part p (part (list (part i none)) none))) = opens i
opens_declared t = opens t

abbrev pub any_opens : Forest → Bool
any_opens ts = some_of opens_declared ts
