-- Bytes of a source, piece after piece.
use Rattle.std.proofs.Common.{◌≡◌, ℕ, ◌+◌, ◌≤◌, List, [], ◌++◌, arith, inl, inr, append_assoc, append-nil, refl, sym, ap, ◌∙◌, Option, Some, None, subst, length, take, drop, ◌↔◌, IfSome}
use Rattle.std.proofs.Math.Seq.{take-append_seam}
use Rattle.std.specs.Io.KnownBytes.{prepend_known}
use Rattle.jsx_base.specs.Faults.{Rose}
use Rattle.jsx_base.specs.Source.{Gives}
use Rattle.react_compile.specs.Run.{IsAtEnd, TakesAll, TakesFew, max_source, read_size}

pub gives_nothing : (left : Option (List ℕ)) → Gives left left []
gives_nothing None = refl
gives_nothing (Some bytes) = refl

pub gives_more : (first middle last : Option (List ℕ)) (xs ys : List ℕ) → Gives first middle xs → Gives middle last ys → Gives first last (xs ++ ys)
gives_more first middle None xs ys e f = e ∙ ap (prepend_known xs) f
gives_more first middle (Some bytes) xs ys e f = e ∙ ap (prepend_known xs) f ∙ ap Some (sym (append_assoc xs ys bytes))

-- what the end of a source that tells its bytes is
abbrev EndsAt : Option (List ℕ) → ℕ → Type 0
EndsAt left n = IfSome left (λ bytes. (n ≡ 0) ↔ (bytes ≡ []))

-- a read of nothing into room for a byte ends such a source
ended : (old new : Option (List ℕ)) (n : ℕ) → n ≡ 0 → Gives old new [] → EndsAt old n → IsAtEnd new
ended old None n zero e h = tt
ended old (Some bytes) n zero e h = let k : EndsAt (Some bytes) n = subst (λ o. EndsAt o n) e h in k.0 zero

pub takes_all : (first old new : Option (List ℕ)) (xs buf : List ℕ) (n : ℕ) → n ≡ 0 → Gives first old xs → Gives old new (take n buf) → EndsAt old n → TakesAll first new xs
takes_all first old new xs buf n zero e f h =
    let f' : Gives old new [] = subst (λ m. Gives old new (take m buf)) zero f in
    record {
      gives = subst (λ ys. Gives first new ys) (append-nil xs) (gives_more first old new xs [] e f');
      to_end = ended old new n zero f' h;
    }

pub takes_none : (left : Option (List ℕ)) → TakesFew left left
takes_none left = record { bytes = []; gives = gives_nothing left; few = omega arith }

-- what a read that gave nothing more, or one buffer at most, leaves
pub takes_few : (left rest : Option (List ℕ)) (xs : List ℕ) → length xs ≤ max_source + read_size → Gives left rest xs → TakesFew left rest
takes_few left rest xs few g = record { bytes = xs; gives = g; few = few }

pub rose_since : (first old new : ℕ) → first ≤ old → Rose old new → Rose first new
rose_since first old new le (inl lt) = inl (omega arith)
rose_since first old new le (inr e) = inr e

-- a whole buffer that is written back is the buffer
pub written_back : (buf old : List ℕ) (n : ℕ) → length buf ≡ n → take n (buf ++ drop (length buf) old) ≡ buf
written_back buf old n e = subst (λ m. take m (buf ++ drop (length buf) old) ≡ buf) e (take-append_seam buf (drop (length buf) old))
