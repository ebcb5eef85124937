-- Why a function of a parser reads nothing: nothing stands there, or nothing that is as shallow as it must be.
use Rattle.std.specs.Prelude.{◌≤◌, ℕ, zero, suc, max, Bool, true, false, ⊤}
use Rattle.jsx_tree.specs.Kinds.{Tree, leaf, node, list, Forest, none, part}
use Rattle.jsx_tree.specs.Walk.{Given, nothing, one}
use Rattle.jsx_tree.specs.Depth.{depth}

-- of a text that no tree reads; of one that no tree reads which is no deeper than this, and of which a front is deeper
pub data Fault : Type 0 where
  Unread : Fault
  Deep : ℕ → Fault

-- the same round a node that counts, and round one that may
abbrev pub outer : Fault → Fault
outer Unread = Unread
outer (Deep n) = Deep (suc n)

abbrev pub outer_if : Bool → Fault → Fault
outer_if true e = outer e
outer_if false e = e

-- and within one: where no level is left, none is
abbrev pub inner : Fault → Fault
inner Unread = Unread
inner (Deep zero) = Deep 0
inner (Deep (suc n)) = Deep n

-- so few levels are left, or fewer
abbrev pub Below : ℕ → Fault → Type 0
Below k Unread = ⊥
Below k (Deep n) = n ≤ k

-- a depth that a fault speaks of
abbrev pub Shallow : Fault → ℕ → Type 0
Shallow Unread d = ⊤
Shallow (Deep n) d = d ≤ n

-- how deep the parts of a node are, and what a symbol gives: of a list, the deepest of its trees
abbrev mutual
  pub part_depth : Tree → ℕ
  part_depth (leaf s t) = depth (leaf s t)
  part_depth (node k cs) = depth (node k cs)
  part_depth (list ts) = deepest ts

  pub deepest : Forest → ℕ
  deepest none = 0
  deepest (part t ts) = max (part_depth t) (deepest ts)

abbrev pub given_depth : Given → ℕ
given_depth nothing = 0
given_depth (one t) = part_depth t
