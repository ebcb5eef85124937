-- Whether a tree is within so many levels, node by node: what the depth of its signs says, wherever the tree has its form.
use Rattle.std.specs.Prelude.{ℕ, zero, suc, Bool, true, false, cond, Option, Some, None, ◌&&◌}
use Rattle.jsx_tree.specs.Kinds.{Tree, leaf, node, list, Forest, none, part}
use Rattle.jsx_tree.specs.Reach.{weighs, counts, counts_twice}

-- the levels that are left within what counts, or doesn't, if there are any
abbrev pub level_in : Bool → ℕ → Option ℕ
level_in false n = Some n
level_in true zero = None
level_in true (suc n) = Some n

abbrev pub is_left : ℕ → Bool
is_left zero = false
is_left (suc n) = true

abbrev pub at_level : Option ℕ → (ℕ → Bool) → Bool
at_level None f = false
at_level (Some n) f = f n

-- within a node whose kind counts once more
abbrev pub at_second : Bool → ℕ → (ℕ → Bool) → Bool
at_second false n f = f n
at_second true n f = at_level (level_in true n) f

abbrev mutual
  pub fits : ℕ → Tree → Bool
  fits n (leaf k t) = cond (weighs k) (is_left n) true
  fits n (node k ts) = at_level (level_in (counts k ts) n) (λ m. at_second (counts_twice k) m (λ i. fits_each i ts))
  fits n (list ts) = fits_each n ts

  pub fits_each : ℕ → Forest → Bool
  fits_each n none = true
  fits_each n (part t none) = fits n t
  fits_each n (part t (part u us)) = fits n t && fits_each n (part u us)

-- whether a tree counts, and whether its parts are within so many levels that are left them
abbrev pub counts_tree : Tree → Bool
counts_tree (leaf k t) = weighs k
counts_tree (node k ts) = counts k ts
counts_tree (list ts) = false

abbrev pub fits_inside : ℕ → Tree → Bool
fits_inside n (leaf k t) = true
fits_inside n (node k ts) = at_second (counts_twice k) n (λ i. fits_each i ts)
fits_inside n (list ts) = fits_each n ts

-- a name and its default, within a property; and a name alone
abbrev pub fits_default : ℕ → Tree → Bool
fits_default n t = at_level (level_in true n) (λ i. is_left i && fits i t)

abbrev pub short_inside : ℕ → Tree → Bool
short_inside n (list (part t ts)) = fits_default n t
short_inside n t = is_left n

-- of a template with so many pieces behind its first, how many of so many expressions belong to it: each, where a piece is behind each
abbrev pub used : ℕ → ℕ → ℕ
used zero n = zero
used (suc m) zero = zero
used (suc zero) (suc zero) = 1
used (suc zero) (suc (suc n)) = zero
used (suc (suc m)) (suc n) = suc (used (suc m) n)
