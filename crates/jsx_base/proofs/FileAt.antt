-- The file of a place.
use Rattle.std.proofs.Common.{◌≡◌, ⊎_elim, ℕ, zero, suc, ◌+◌, ◌<◌, ◌≤◌, true, false, cond, ◌&&◌, nat_le, List, [], ◌∷◌, map, length, get_or, Some, None, refl, ap, sym, ◌∙◌, subst, arith}
use Rattle.std.specs.List.Sorted.{IsPartitionedBy}
use Rattle.std.proofs.lemmas.Bool.{cases_lt}
use Rattle.std.proofs.lemmas.Bool.Decides.{nat_tests}
use Rattle.std.proofs.lemmas.List.{length-map, get_or-map}
use Rattle.jsx_base.specs.Lines.{size}
use Rattle.jsx_base.specs.Files.{File, InOrder, end_of, holds, file_at}

in_order_tail : (file : File) (files : List File) → InOrder (file ∷ files) → InOrder files
in_order_tail file files ordered = λ i j d order within. ordered (suc i) (suc j) d (omega arith) (omega arith)

in_order_head : (file : File) (files : List File) (j : ℕ) (d : File) → InOrder (file ∷ files) → j < length files → end_of file < (get_or files j d).start
in_order_head file files j d ordered within = ordered 0 (suc j) d (omega arith) (omega arith)

find_none : {X : Type 0} (f : X → File) (xs : List X) (pos : ℕ) → ((k : ℕ) (d : X) → k < length xs → pos < (f (get_or xs k d)).start) → file_at (map f xs) pos ≡ None
find_none f [] pos past = refl
find_none f (x ∷ xs) pos past =
    let out : holds pos (f x) ≡ false = let h = past 0 x (omega arith) in grind (arith, nat_tests, h) in
    ap (λ b. cond b (Some (f x)) (file_at (map f xs) pos)) out
    ∙ find_none f xs pos (λ k d within. past (suc k) d (omega arith))

find_here : {X : Type 0} (f : X → File) (x : X) (xs : List X) (pos : ℕ) → (f x).start ≤ pos → file_at (map f xs) pos ≡ None → file_at (f x ∷ map f xs) pos ≡ cond (nat_le pos (end_of (f x))) (Some (f x)) None
find_here f x xs pos low none =
    let first : nat_le (f x).start pos ≡ true = grind (arith, nat_tests, low) in
    ap (λ b. cond (b && nat_le pos (end_of (f x))) (Some (f x)) (file_at (map f xs) pos)) first
    ∙ ap (λ z. cond (nat_le pos (end_of (f x))) (Some (f x)) z) none

-- of the files that begin at a place or before it, only the last may hold it
pub find_file : {X : Type 0} (f : X → File) (xs : List X) (pos j : ℕ) (x : X) → InOrder (map f xs) → j < length xs → ((k : ℕ) (d : X) → k < suc j → (f (get_or xs k d)).start ≤ pos) → ((k : ℕ) (d : X) → suc j ≤ k → k < length xs → pos < (f (get_or xs k d)).start) → x ≡ get_or xs j x → file_at (map f xs) pos ≡ cond (nat_le pos (end_of (f x))) (Some (f x)) None
find_file f [] pos j x ordered within until from is = absurd (omega arith)
find_file f (y ∷ xs) pos zero x ordered within until from is =
    find_here f y xs pos (until 0 y (omega arith)) (find_none f xs pos (λ k d inside. from (suc k) d (omega arith) (omega arith)))
    ∙ ap (λ z. cond (nat_le pos (end_of (f z))) (Some (f z)) None) (sym is)
find_file f (y ∷ xs) pos (suc j) x ordered within until from is =
    let low : (f x).start ≤ pos = subst (λ z. (f z).start ≤ pos) (sym is) (until (suc j) x (omega arith)) in
    let before : end_of (f y) < (f x).start = subst (λ z. end_of (f y) < z.start) (get_or-map f xs j x (f x) (omega arith) ∙ ap f (sym is)) (in_order_head (f y) (map f xs) j (f x) ordered (subst (λ n. j < n) (sym (length-map xs f)) (omega arith))) in
    let out : holds pos (f y) ≡ false = grind (arith, nat_tests, low, before) in
    ap (λ b. cond b (Some (f y)) (file_at (map f xs) pos)) out
    ∙ find_file f xs pos j x (in_order_tail (f y) (map f xs) ordered) (omega arith) (λ k d below. until (suc k) d (omega arith)) (λ k d above inside. from (suc k) d (omega arith) (omega arith)) is

pub find_no_file : {X : Type 0} (f : X → File) (xs : List X) (pos : ℕ) → ((k : ℕ) (d : X) → 0 ≤ k → k < length xs → pos < (f (get_or xs k d)).start) → file_at (map f xs) pos ≡ None
find_no_file f xs pos from = find_none f xs pos (λ k d within. from k d (omega arith) within)

begins_low : (a n b pos : ℕ) → a + n < b → nat_le b pos ≡ true → nat_le a pos ≡ true
begins_low a n b pos low passes = grind (arith, nat_tests, low)

-- files begin at rising places
pub files_partitioned : {X : Type 0} (f : X → File) (xs : List X) (pos : ℕ) → InOrder (map f xs) → IsPartitionedBy (λ x. nat_le (f x).start pos) xs
files_partitioned f xs pos ordered = λ i j d order within passes.
    ⊎_elim
    (λ before.
    let h = ordered i j (f d) before (subst (λ n. j < n) (sym (length-map xs f)) within) in
    let at-i = get_or-map f xs i d (f d) (omega arith) in
    let at-j = get_or-map f xs j d (f d) within in
    let low : end_of (f (get_or xs i d)) < (f (get_or xs j d)).start = subst (λ z. end_of z < (f (get_or xs j d)).start) at-i (subst (λ z. end_of (get_or (map f xs) i (f d)) < z.start) at-j h) in
    begins_low (f (get_or xs i d)).start (size (f (get_or xs i d)).text) (f (get_or xs j d)).start pos low passes)
    (λ same. subst (λ k. nat_le (f (get_or xs k d)).start pos ≡ true) (let e : j ≡ i = omega arith in e) passes)
    (cases_lt i j)
