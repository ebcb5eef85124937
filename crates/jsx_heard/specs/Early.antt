-- What an early error on names says of a tree, and where it is in bytes: declarations that clash and exports that are amiss (ECMA-262 sections 14.2.1, 14.7, 14.12.1, 14.15.1, 15.1.1, 15.2.1, 16.1.1 and 16.2.1), and direct calls of `eval` (section 13.3.6.1).
use Rattle.std.specs.Prelude.{◌≡◌, ℕ, List, [], ◌∷◌, Some, None, Result, Ok, Err}
use Rattle.jsx_tree.specs.Kinds.{Tree}
use Rattle.jsx_tree.specs.Spans.{Placed}
use Rattle.jsx_tree.specs.Scopes.{Path}
use Rattle.jsx_tree.specs.Clashes.{Place, first_clash, direct_evals}
use Rattle.jsx_names.specs.declared.event.EarlyError.{EarlyError}
use Rattle.jsx_names.specs.declared.event.EarlyError.TheVariants.{Scope, DirectEval}
use Rattle.jsx_heard.specs.Bytes.{byte_at, byte_of}

-- the first of the declarations and exports that are early errors is at this byte
pub record ClashesAt (t : Tree) (q : Placed) (b : ℕ) : Type 0 where
  pub place : Place
  pub first : first_clash t ≡ Some place
  pub at : b ≡ byte_of place q

-- there is none of these, and the first direct call of `eval` has its name at this byte
pub record CallsAt (t : Tree) (q : Placed) (b : ℕ) : Type 0 where
  pub path : Path
  pub others : List Path
  pub clean : first_clash t ≡ None
  pub calls : direct_evals t ≡ path ∷ others
  pub at : b ≡ byte_at path q

-- there is neither
pub record IsClean (t : Tree) : Type 0 where
  pub clean : first_clash t ≡ None
  pub uncalled : direct_evals t ≡ []

-- what is found of a tree with its places is its first early error on names
abbrev pub Early : Tree → Placed → Result Unit EarlyError → Type 0
Early t q (Ok u) = IsClean t
Early t q (Err (Scope b)) = ClashesAt t q b.0
Early t q (Err (DirectEval b)) = CallsAt t q b.0
