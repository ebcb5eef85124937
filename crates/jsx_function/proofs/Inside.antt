-- A member counts from its first token on, so what is refused in it is refused with one level less; and no key is as shallow as nothing (ECMA-262 sections 15.4 and 15.7).
use Rattle.std.proofs.Common.{◌≡◌, ◌≤◌, ℕ, Bool, false, zero, suc, arith, refl, sym, subst}
use Rattle.std.specs.Prelude.{Result, Err}
use Rattle.std.specs.Result.{IsErrAnd}
use Rattle.jsx_tree.specs.Kinds.{Tree, Kind}
use Rattle.jsx_tree.specs.Nonterminals.{Key}
use Rattle.jsx_tree.specs.Grammar.{Part, Symbol}
use Rattle.jsx_tree.specs.Form.{admits, fits_below}
use Rattle.jsx_tree.specs.Reading.{Place}
use Rattle.jsx_tree.specs.StaticRules.{Surroundings}
use Rattle.jsx_tree.specs.Walk.{Given, one, Past, tree}
use Rattle.jsx_tree.specs.Language.{Language, Whole}
use Rattle.jsx_tree.specs.Answers.{Barred}
use Rattle.jsx_tree.specs.Faults.{Fault, Unread, Deep, outer, inner, Below, Shallow, part_depth, given_depth}
use Rattle.jsx_tree.proofs.Tokens.{and_left, and_right}
use Rattle.jsx_tree.proofs.Depth.Reach.{key_reach, reach_told}
use Rattle.jsx_tree.proofs.Depth.Shallow.{below_inner, below_shallow, shallow_inner}
use Rattle.jsx_operand.specs.SoFar.{so_far}
use Rattle.jsx_operand.specs.Answers.{Refused, fault_of}
use Rattle.jsx_operand.specs.declared.error.ParseError.{ParseError}
use Rattle.jsx_operand.proofs.Steps.{passed}
use Rattle.jsx_function.specs.Methods.{NoneFromKey}

-- ---- a key

key_deep : {v : Surroundings} {x z : Place} (t : Tree) → Whole so_far v false Key x t z → 1 ≤ part_depth t
key_deep t w =
    let i = w.reads.reads.is in
    let d = reach_told Key t (and_right (admits Key t) (fits_below Key t) i) in
    let p = key_reach t (and_left (admits Key t) (fits_below Key t) i) (and_right (admits Key t) (fits_below Key t) i) in
    omega (arith, d, p)

pub deep_key : {v : Surroundings} {x : Place} {e : Fault} → Below 0 e → Barred so_far v (Part Key) x e
deep_key {v} {x} {e} b = record { no = at }
  where
    at : (g : Given) (z : Place) → Past (Whole so_far) v (Part Key) x g z → Shallow e (given_depth g) → ⊥
    at g z (tree {t = t} w) s = let d = below_shallow 0 e (part_depth t) b s in omega (arith, d, key_deep t w)

-- behind a word or a name: a member with one of these in it is two levels deep
pub deep_behind : {v : Surroundings} {x : Place} (e : Fault) → Below 1 e → Barred so_far v (Part Key) x (inner e)
deep_behind e b = deep_key (below_inner 0 e b)

-- at a bracket
pub deep_at : {v : Surroundings} {x : Place} (e : Fault) → Below 0 e → Barred so_far v (Part Key) x (inner e)
deep_at Unread b = absurd b
deep_at (Deep zero) b = deep_key (omega arith)
deep_at (Deep (suc n)) b = absurd (omega (arith, b))

-- ---- an error in surroundings that have as many levels

pub passed_as : {T U : Type 0} (answer : Result T ParseError) {m n : ℕ} {x : ParseError} {A B : Fault → Type 0} → n ≡ m → Refused {T = U} n (Err x) A → IsErrAnd answer (λ y. y ≡ x) → (A (fault_of m x) → B (fault_of m x)) → Refused m answer B
passed_as {U = U} answer {x = x} {A = A} same nope is f = passed answer (subst (λ k. Refused {T = U} k (Err x) A) same nope) is f

-- ---- one level in

pub inner_outer : (e : Fault) → inner (outer e) ≡ e
inner_outer Unread = refl
inner_outer (Deep n) = refl

pub barred_inner : {L : Language} {v : Surroundings} {p : Symbol} {x : Place} (e : Fault) → Barred L v p x e → Barred L v p x (inner e)
barred_inner e b = record { no = λ g z q s. b.no g z q (shallow_inner e (given_depth g) s) }

pub barred_inside : {L : Language} {v : Surroundings} {p : Symbol} {x : Place} {e : Fault} → Barred L v p x e → Barred L v p x (inner (outer e))
barred_inside {L} {v} {p} {x} {e} b = subst (λ o. Barred L v p x o) (sym (inner_outer e)) b

pub from_inside : {p : Kind → Bool} {v : Surroundings} {x : Place} {e : Fault} → NoneFromKey p v x e → NoneFromKey p v x (inner (outer e))
from_inside {p} {v} {x} {e} n = subst (λ o. NoneFromKey p v x o) (sym (inner_outer e)) n
