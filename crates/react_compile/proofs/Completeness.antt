-- A source that reads, isn't too deep and has no early errors on names isn't refused.
use Rattle.std.proofs.Common.{◌≡◌, ◌⊎◌, ℕ, ◌<◌, ◌≤◌, List, ◌++◌, append-nil, arith, length, length-append, inl, inr, ap, ◌∙◌, subst, Option, Some, None}
use Rattle.jsx_base.specs.Faults.{Rose}
use Rattle.jsx_base.specs.Source.{Gives}
use Rattle.jsx_tree.specs.Kinds.{Tree}
use Rattle.jsx_tree.specs.Depth.{depth}
use Rattle.jsx_tree.specs.declared.text.Goal.TheVariants as goals
use Rattle.jsx_tree.specs.Normal.{without_parentheses}
use Rattle.jsx_heard.specs.Early.{IsClean}
use Rattle.react_compile.specs.Compiles.{IsSource}
use Rattle.react_compile.specs.Lines.{max_depth}
use Rattle.react_compile.specs.Run.{IsAtEnd, TakesAll, TakesTooMany, IsValid}
use Rattle.react_compile.specs.declared.program.Status.{Status}
use Rattle.react_compile.specs.declared.program.Status.TheVariants.{Done, Fault, Write, Memory}

-- what a told source gives up to its end is all that it tells
taken_all : (bytes taken : List ℕ) (rest : Option (List ℕ)) → Gives (Some bytes) rest taken → IsAtEnd rest → bytes ≡ taken
taken_all bytes taken None e end = cc
taken_all bytes taken (Some more) e end = let f : bytes ≡ taken ++ more = cc in f ∙ ap (λ xs. taken ++ xs) end ∙ append-nil taken

some_taken : (bytes taken : List ℕ) (rest : Option (List ℕ)) → Gives (Some bytes) rest taken → length taken ≤ length bytes
some_taken bytes taken None e = absurd (cc)
some_taken bytes taken (Some more) e = let f : bytes ≡ taken ++ more = cc in omega (arith, ap length f, length-append taken more)

pub not_refused : (left rest : Option (List ℕ)) (source : List ℕ) (a b c d e f : ℕ) → IsValid left a b c d e f → TakesAll left rest source → ((tree : Tree) → IsSource goals.Module source tree → IsClean (without_parentheses tree) → max_depth < depth tree) → ⊥
not_refused left rest source a b c d e f v t deep_trees =
    let g : Gives (Some v.bytes) rest source = subst (λ l. Gives l rest source) v.told t.gives in
    let deep = deep_trees v.tree (subst (λ xs. IsSource goals.Module xs v.tree) (taken_all v.bytes source rest g t.to_end) v.is_source) v.names in
    omega (arith, deep, v.shallow)

pub not_too_big : (left rest : Option (List ℕ)) (a b c d e f : ℕ) → IsValid left a b c d e f → TakesTooMany left rest → ⊥
not_too_big left rest a b c d e f v t =
    let g : Gives (Some v.bytes) rest t.bytes = subst (λ l. Gives l rest t.bytes) v.told t.gives in
    omega (arith, some_taken v.bytes t.bytes rest g, v.few, t.too_many)

pub ends_well : (r : Status) → (r ≡ Done) ⊎ ((r ≡ Fault) ⊎ ((r ≡ Memory) ⊎ (r ≡ Write))) → (r ≡ Fault → ⊥) → (r ≡ Write → ⊥) → (r ≡ Done) ⊎ (r ≡ Memory)
ends_well r (inl done) fault write = inl done
ends_well r (inr (inl f)) fault write = absurd (fault f)
ends_well r (inr (inr (inl m))) fault write = inr m
ends_well r (inr (inr (inr w))) fault write = absurd (write w)

pub tells_well : (r s : Status) → (r ≡ s) ⊎ ((r ≡ Memory) ⊎ (r ≡ Write)) → (r ≡ s → ⊥) → (r ≡ Write → ⊥) → (r ≡ Done) ⊎ (r ≡ Memory)
tells_well r s (inl same) told write = absurd (told same)
tells_well r s (inr (inl m)) told write = inr m
tells_well r s (inr (inr w)) told write = absurd (write w)

pub short_well : (r : Status) → (r ≡ Memory) ⊎ (r ≡ Write) → (r ≡ Write → ⊥) → (r ≡ Done) ⊎ (r ≡ Memory)
short_well r (inl m) write = inr m
short_well r (inr w) write = absurd (write w)

pub no_write : (left : Option (List ℕ)) (a b c d e f : ℕ) → IsValid left a b c d e f → Rose c d ⊎ Rose e f → ⊥
no_write left a b c d e f v (inl r) = v.out r
no_write left a b c d e f v (inr r) = v.err r
