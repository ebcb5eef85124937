-- What is given is no deeper than all that is.
use Rattle.std.proofs.Common.{◌≡◌, ◌≤◌, ℕ, zero, suc, max, Bool, true, false, arith}
use Rattle.jsx_tree.specs.Kinds.{Tree, Forest, list, none, part}
use Rattle.jsx_tree.specs.Walk.{Given, nothing, one, with}
use Rattle.jsx_tree.specs.Depth.{frame, depth_of}
use Rattle.jsx_tree.specs.Faults.{Fault, Unread, Deep, outer, outer_if, inner, Below, Shallow, part_depth, deepest, given_depth}

pub shallow_up : (e : Fault) (a b : ℕ) → a ≤ b → Shallow e b → Shallow e a
shallow_up Unread a b le s = tt
shallow_up (Deep n) a b le s = omega (arith, le, s)

pub shallow_inner : (e : Fault) (d : ℕ) → Shallow (inner e) d → Shallow e d
shallow_inner Unread d s = tt
shallow_inner (Deep zero) d s = s
shallow_inner (Deep (suc n)) d s = omega (arith, s)

pub shallow_outer : (e : Fault) (d : ℕ) → Shallow e d → Shallow (outer (inner e)) d
shallow_outer Unread d s = tt
shallow_outer (Deep zero) d s = omega (arith, s)
shallow_outer (Deep (suc n)) d s = s

pub below_shallow : (k : ℕ) (e : Fault) (d : ℕ) → Below k e → Shallow e d → d ≤ k
below_shallow k Unread d b s = absurd b
below_shallow k (Deep n) d b s = omega (arith, b, s)

pub below_inner : (k : ℕ) (e : Fault) → Below (suc k) e → Below k (inner e)
below_inner k Unread b = b
below_inner k (Deep zero) b = omega arith
below_inner k (Deep (suc n)) b = omega (arith, b)

-- ---- along a row

pub with_up : (g : Given) (us : Forest) → deepest us ≤ deepest (with g us)
with_up nothing us = omega arith
with_up (one t) us = omega arith

pub part_up : (t : Tree) (us : Forest) → deepest us ≤ deepest (part t us)
part_up t us = omega arith

pub shallow_first : (e : Fault) (g : Given) (ts : Forest) → Shallow e (deepest (with g ts)) → Shallow e (given_depth g)
shallow_first Unread g ts s = s
shallow_first (Deep n) nothing ts s = omega arith
shallow_first (Deep n) (one t) ts s = omega (arith, s)

pub shallow_rest : (e : Fault) (g : Given) (ts : Forest) → Shallow e (deepest (with g ts)) → Shallow e (deepest ts)
shallow_rest Unread g ts s = s
shallow_rest (Deep n) nothing ts s = s
shallow_rest (Deep n) (one t) ts s = omega (arith, s)

-- what was read before is read within the fault too, where it is as shallow: a row that goes on from there
pub shallow_walk : (e : Fault) (g : Given) (ts : Forest) → Shallow e (given_depth g) → Shallow e (deepest ts) → Shallow e (deepest (with g ts))
shallow_walk Unread g ts s t = tt
shallow_walk (Deep n) nothing ts s t = t
shallow_walk (Deep n) (one u) ts s t = omega (arith, s, t)

pub shallow_nothing : (e : Fault) → Shallow e 0
shallow_nothing Unread = tt
shallow_nothing (Deep n) = omega arith

-- of a row that ends there
pub shallow_alone : (e : Fault) (g : Given) → Shallow e (given_depth g) → Shallow e (deepest (with g none))
shallow_alone Unread g s = tt
shallow_alone (Deep n) nothing s = omega arith
shallow_alone (Deep n) (one t) s = omega (arith, s)

-- ---- a list: of its trees, the first and the others

pub shallow_head : (e : Fault) (t : Tree) (ts : Forest) → Shallow e (deepest (part t ts)) → Shallow e (part_depth t)
shallow_head Unread t ts s = s
shallow_head (Deep n) t ts s = omega (arith, s)

pub shallow_tail : (e : Fault) (t : Tree) (ts : Forest) → Shallow e (deepest (part t ts)) → Shallow e (deepest ts)
shallow_tail Unread t ts s = s
shallow_tail (Deep n) t ts s = omega (arith, s)

-- an optional part that is there, as a part
pub shallow_opened : (e : Fault) (t : Tree) (us : Forest) → Shallow e (deepest (part (list (part t none)) us)) → Shallow e (deepest (part t us))
shallow_opened Unread t us s = s
shallow_opened (Deep n) t us s = omega (arith, s)

-- ---- a node: its parts are one less deep where it counts

pub shallow_parts : (e : Fault) (b : Bool) (d o m : ℕ) → d ≡ depth_of (frame b (max o m)) → Shallow (outer_if b e) d → Shallow e m
shallow_parts Unread b d o m is s = tt
shallow_parts (Deep n) true d o m is s = omega (arith, is, s)
shallow_parts (Deep n) false d o m is s = omega (arith, is, s)
