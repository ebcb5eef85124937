-- How deep a front of a tree's signs is. A limit on depth keeps the reading of ECMA-262's nested productions (sections 13 to 16) within a stack.
use Rattle.std.specs.Prelude.{ℕ, zero, suc, List, [], ◌∷◌, Bool, true, false, cond, nat_le}
use Rattle.jsx_tree.specs.Signs.{Sign, Tok, Begin, Count, One, End}
use Rattle.jsx_tree.specs.Kinds.{Tree}
use Rattle.jsx_tree.specs.Spelling.{spelled}

-- a node that is open: whether it counts yet, and its deepest part so far
pub data Frame : Type 0 where
  frame : Bool → ℕ → Frame

abbrev pub more : ℕ → ℕ → ℕ
more a b = cond (nat_le a b) b a

abbrev pub depth_of : Frame → ℕ
depth_of (frame true d) = suc d
depth_of (frame false d) = d

abbrev pub raise : ℕ → List Frame → List Frame
raise d [] = []
raise d (frame b e ∷ fs) = frame b (more d e) ∷ fs

abbrev pub close : List Frame → List Frame
close [] = []
close (f ∷ fs) = raise (depth_of f) fs

abbrev pub counted : List Frame → List Frame
counted [] = []
counted (frame b d ∷ fs) = frame true d ∷ fs

abbrev pub depth_step : Sign → List Frame → List Frame
depth_step Begin fs = frame false 0 ∷ fs
depth_step End fs = close fs
depth_step Count fs = counted fs
depth_step One fs = raise 1 fs
depth_step m fs = fs

abbrev pub height : ℕ → List Frame → ℕ
height d [] = d
height d (frame b e ∷ fs) = height (depth_of (frame b (more d e))) fs

abbrev pub deep_from : List Frame → List Sign → ℕ
deep_from fs [] = height 0 fs
deep_from fs (m ∷ ms) = deep_from (depth_step m fs) ms

-- the depth of a front: `a` has 1, `a +` has 2, for the sum counts from its operator on
abbrev pub deep : List Sign → ℕ
deep ms = deep_from (frame false 0 ∷ []) ms

abbrev pub depth : Tree → ℕ
depth t = deep (spelled t)

-- the signs up to and with the n-th token. Semicolons and trailing commas aren't counted, nothing is deeper at one than before it.
abbrev pub front : ℕ → List Sign → List Sign
front n [] = []
front zero (m ∷ ms) = []
front (suc n) (Tok k s t ∷ ms) = Tok k s t ∷ front n ms
front (suc n) (m ∷ ms) = m ∷ front (suc n) ms
