-- What the items of a map or a set are reduced to, item by item and in any order.
use Rattle.std.proofs.Common.{◌≡◌, ℕ, ◌+◌, ◌%◌, ◌^◌, List, [], ◌∷◌, ◌++◌, length, Option, None, Some, refl, sym, ap, ◌∙◌, subst, arith, sum_by, nat_eq, true, false, ◌≢◌, ◌<◌}
use Rattle.std.specs.Option.{unwrap_or}
use Rattle.std.specs.List.{flat_map, swap}
use Rattle.std.specs.List.Sorted.{IsPermutation}
use Rattle.std.specs.Int.{w128, to_le_bytes}
use Rattle.std.proofs.lemmas.Bool.Decides.{nat_tests}
use Rattle.std.proofs.lemmas.List.Sorted.{All-permutation, IsPermutation-sym, IsPermutation-map, IsPermutation-keeps, length_permutation, sum_by-IsPermutation}
use Rattle.std.proofs.lemmas.List.{append-nil, length-map}
use Rattle.std.proofs.lemmas.List.Concat.{flat_map-append}
use Rattle.std.proofs.lemmas.List.Elements.{All-pop}
use Rattle.std.proofs.lemmas.List.Sums.{sum_by-append}
use Rattle.jsx_kit.specs.SipHash.{Holds, Feeds}
use Rattle.jsx_kit.specs.Fed.{Fed, just, Hashed, fed_option, OptionIsSaid, length_bytes, sum_bytes, own_hash, sum_of_hashes, reduced, bytes_of_each, fed_items, IsSteady, AreSteady}
use Rattle.jsx_kit.proofs.Hashing.{Feeds_none, Feeds_append}
use Rattle.jsx_kit.specs.declared.hasher.StableHasher.{StableHasher}

bytes_of_each-push : {C T : Type 0} (fed : T → C → Fed C) (items : List T) (x : T) (c : C)
    → bytes_of_each fed (items ++ x ∷ []) c ≡ bytes_of_each fed items c ++ (fed x c).bytes ∷ []
bytes_of_each-push fed [] x c = refl
bytes_of_each-push fed (y ∷ items) x c = ap (λ bs. (fed y c).bytes ∷ bs) (bytes_of_each-push fed items x c)

-- the sum with one more item
sum_of_hashes-push : (bs : List (List ℕ)) (b : List ℕ) → Some ((unwrap_or (sum_of_hashes bs) 0 + own_hash b) % 2 ^ 128) ≡ sum_of_hashes (bs ++ b ∷ [])
sum_of_hashes-push [] b = refl
sum_of_hashes-push (x ∷ bs) b = ap (λ n. Some n) (omega (arith, sum_by-append own_hash (x ∷ bs) (b ∷ [])))

-- the items so far are summed, and the context is as it was, if they are steady
pub record Summed {C T : Type 0} (fed : T → C → Fed C) (said : T → C → Type 0) (items : List T) (start left : C) (sum : Option ℕ) : Type 0 where
  pub when_steady : AreSteady fed said items start → (sum ≡ sum_of_hashes (bytes_of_each fed items start)) × (left ≡ start)

pub Summed-none : {C T : Type 0} (fed : T → C → Fed C) (said : T → C → Type 0) (start : C) → Summed fed said [] start start None
Summed-none fed said start = record { when_steady = λ _. (refl, refl) }

-- a steady item at the context that the items before it left
at_start : {C T : Type 0} (fed : T → C → Fed C) (said : T → C → Type 0) (x : T) (a b : StableHasher) (start m e : C)
    → IsSteady fed said start x → m ≡ start → (said x m → Hashed (fed x m) a b e) → Feeds a b (fed x start).bytes × (e ≡ start)
at_start {C} {T} fed said x a b start m e steady same h =
    let P : C → Type 0 = λ c. said x c → Hashed (fed x c) a b e in
    let k : Hashed (fed x start) a b e = subst P same h steady.0 in
    (k.feeds, k.leaves ∙ steady.1)

pub Summed-more : {C T : Type 0} {fed : T → C → Fed C} {said : T → C → Type 0} {items : List T} {start m : C} {sum : Option ℕ}
    (x : T) (e : C) (a b : StableHasher) (hash : ℕ)
    → Summed fed said items start m sum → Holds a [] → (said x m → Hashed (fed x m) a b e) → ((bytes : List ℕ) → Holds b bytes → hash ≡ own_hash bytes)
    → Summed fed said (items ++ x ∷ []) start e (Some ((unwrap_or sum 0 + hash) % 2 ^ 128))
Summed-more {C} {T} {fed} {said} {items} {start} {m} {sum} x e a b hash s empty h finish = record {
  when_steady = λ steady.
      let parts = All-pop (IsSteady fed said start) (items ++ x ∷ []) items (Some x) refl steady in
      let before = s.when_steady parts.0 in
      let k = at_start fed said x a b start m e parts.1 before.1 h in
      let is : hash ≡ own_hash (fed x start).bytes = finish _ (k.0.more [] empty) in
      (rw (before.0, is, bytes_of_each-push fed items x start) (sum_of_hashes-push (bytes_of_each fed items start) (fed x start).bytes), k.1);
}

-- the items so far are fed one by one, and the context is as it was, if they are steady
pub record InTurn {C T : Type 0} (fed : T → C → Fed C) (said : T → C → Type 0) (items : List T) (start left : C) (old new : StableHasher) : Type 0 where
  pub when_steady : AreSteady fed said items start → Feeds old new (flat_map (λ bytes. bytes) (bytes_of_each fed items start)) × (left ≡ start)

pub InTurn-none : {C T : Type 0} (fed : T → C → Fed C) (said : T → C → Type 0) (start : C) (a : StableHasher) → InTurn fed said [] start start a a
InTurn-none fed said start a = record { when_steady = λ _. (Feeds_none a, refl) }

pub InTurn-more : {C T : Type 0} {fed : T → C → Fed C} {said : T → C → Type 0} {items : List T} {start m : C} {old a : StableHasher}
    (x : T) (e : C) (b : StableHasher)
    → InTurn fed said items start m old a → (said x m → Hashed (fed x m) a b e) → InTurn fed said (items ++ x ∷ []) start e old b
InTurn-more {C} {T} {fed} {said} {items} {start} {m} {old} {a} x e b s h = record {
  when_steady = λ steady.
      let parts = All-pop (IsSteady fed said start) (items ++ x ∷ []) items (Some x) refl steady in
      let before = s.when_steady parts.0 in
      let k = at_start fed said x a b start m e parts.1 before.1 h in
      let bytes = bytes_of_each fed items start in
      let last = (fed x start).bytes in
      let all : flat_map (λ bs. bs) (bytes_of_each fed (items ++ x ∷ []) start) ≡ flat_map (λ bs. bs) bytes ++ last =
      rw (bytes_of_each-push fed items x start, flat_map-append (λ (bs : List ℕ). bs) bytes (last ∷ []), append-nil last) refl in
      (rw all (Feeds_append old a b before.0 k.0), k.1);
}

-- ---- the number of the items, and then what they are reduced to

-- the sum as the hasher is fed it
abbrev pub fed_sum : {C : Type 0} → Option ℕ → C → Fed C
fed_sum = fed_option (λ n c. just (to_le_bytes w128 n) c)

abbrev pub SumIsSaid : {C : Type 0} → Option ℕ → C → Type 0
SumIsSaid = OptionIsSaid (λ n c. Unit {0})

sum_is_said : {C : Type 0} (sum : Option ℕ) (c : C) → SumIsSaid sum c
sum_is_said None c = tt
sum_is_said (Some n) c = tt

fed_sum_is : {C : Type 0} (sum : Option ℕ) (c : C) → fed_sum sum c ≡ just (sum_bytes sum) c
fed_sum_is None c = refl
fed_sum_is (Some n) c = refl

reduced_one : (bs : List (List ℕ)) (n : ℕ) → length bs ≡ n → n ≡ 1 → reduced bs ≡ length_bytes n ++ flat_map (λ b. b) bs
reduced_one bs n e one =
    let test : nat_eq (length bs) 1 ≡ true = grind (arith, nat_tests) in
    rw (test, e) refl

reduced_more : (bs : List (List ℕ)) (n : ℕ) → length bs ≡ n → n ≢ 1 → reduced bs ≡ length_bytes n ++ sum_bytes (sum_of_hashes bs)
reduced_more bs n e more =
    let test : nat_eq (length bs) 1 ≡ false = grind (arith, nat_tests) in
    rw (test, e) refl

pub one_item : {C T : Type 0} (fed : T → C → Fed C) (said : T → C → Type 0) (xs : List T) (c m : C) (n : ℕ) (a b d : StableHasher)
    → length xs ≡ n → n ≡ 1 → Feeds a b (length_bytes n)
    → (AreSteady fed said xs c → Feeds b d (flat_map (λ bytes. bytes) (bytes_of_each fed xs c)) × (m ≡ c))
    → AreSteady fed said xs c → Hashed (fed_items fed xs c) a d m
one_item fed said xs c m n a b d len one first f steady =
    let bs = bytes_of_each fed xs c in
    let e : length bs ≡ n = length-map xs (λ x. (fed x c).bytes) ∙ len in
    let k = f steady in
    record { feeds = rw (reduced_one bs n e one) (Feeds_append a b d first k.0); leaves = k.1 }

pub more_items : {C T : Type 0} (fed : T → C → Fed C) (said : T → C → Type 0) (xs : List T) (c k m : C) (n : ℕ) (a b d : StableHasher) (sum : Option ℕ)
    → length xs ≡ n → n ≢ 1 → Feeds a b (length_bytes n)
    → (AreSteady fed said xs c → (sum ≡ sum_of_hashes (bytes_of_each fed xs c)) × (k ≡ c))
    → (SumIsSaid sum k → Hashed (fed_sum sum k) b d m)
    → AreSteady fed said xs c → Hashed (fed_items fed xs c) a d m
more_items {C} {T} fed said xs c k m n a b d sum len more first f h steady =
    let bs = bytes_of_each fed xs c in
    let e : length bs ≡ n = length-map xs (λ x. (fed x c).bytes) ∙ len in
    let s = f steady in
    let P : Fed C → Type 0 = λ fed_one. Hashed fed_one b d m in
    let last : Hashed (just (sum_bytes sum) k) b d m = subst P (fed_sum_is sum k) (h (sum_is_said sum k)) in
    record { feeds = rw (reduced_more bs n e more, ← s.0) (Feeds_append a b d first last.feeds); leaves = last.leaves ∙ s.1 }

-- ---- any order

swapped_one : (b : List ℕ) (l : List (List ℕ)) (i j : ℕ) → i < length l → j < length l → l ≡ b ∷ [] → swap l i j ≡ b ∷ []
swapped_one b l i j hi hj e =
    let one : length l ≡ 1 = ap length e in
    let first : i ≡ 0 = omega arith in
    let second : j ≡ 0 = omega arith in
    rw (first, second, e) refl

sum_of_hashes-alike : (bs cs : List (List ℕ)) → length bs ≡ length cs → sum_by own_hash bs ≡ sum_by own_hash cs → sum_of_hashes bs ≡ sum_of_hashes cs
sum_of_hashes-alike [] [] len e = refl
sum_of_hashes-alike [] (c ∷ cs) len e = absurd (omega arith)
sum_of_hashes-alike (b ∷ bs) [] len e = absurd (omega arith)
sum_of_hashes-alike (b ∷ bs) (c ∷ cs) len e = ap (λ n. Some (n % 2 ^ 128)) e

reduced_others : (bs cs : List (List ℕ)) → IsPermutation bs cs → length bs ≢ 1 → reduced bs ≡ reduced cs
reduced_others bs cs p more =
    let len : length cs ≡ length bs = length_permutation bs cs p in
    let sums : sum_of_hashes bs ≡ sum_of_hashes cs = sum_of_hashes-alike bs cs (sym len) (sym (sum_by-IsPermutation own_hash bs cs p)) in
    reduced_more bs (length bs) refl more ∙ ap (λ sum. length_bytes (length bs) ++ sum_bytes sum) sums ∙ sym (reduced_more cs (length bs) len more)

-- items that come in another order are reduced to the same
pub reduced-IsPermutation : (bs cs : List (List ℕ)) → IsPermutation bs cs → reduced bs ≡ reduced cs
reduced-IsPermutation [] cs p = reduced_others [] cs p (λ e. absurd (omega arith))
reduced-IsPermutation (b ∷ []) cs p =
    let same : cs ≡ b ∷ [] = IsPermutation-keeps (b ∷ []) (λ l. l ≡ b ∷ []) refl (λ l i j hi hj e. swapped_one b l i j hi hj e) cs p in
    ap reduced (sym same)
reduced-IsPermutation (b ∷ x ∷ bs) cs p = reduced_others (b ∷ x ∷ bs) cs p (λ e. absurd (omega arith))

pub AreSteady-IsPermutation : {C T : Type 0} (fed : T → C → Fed C) (said : T → C → Type 0) (xs ys : List T) (c : C)
    → IsPermutation xs ys → AreSteady fed said ys c → AreSteady fed said xs c
AreSteady-IsPermutation fed said xs ys c p steady = All-permutation (IsSteady fed said c) ys xs (IsPermutation-sym xs ys p) steady

pub fed_items-IsPermutation : {C T : Type 0} (fed : T → C → Fed C) (xs ys : List T) (c : C)
    → IsPermutation xs ys → fed_items fed xs c ≡ fed_items fed ys c
fed_items-IsPermutation fed xs ys c p =
    ap (λ bytes. just bytes c) (reduced-IsPermutation (bytes_of_each fed xs c) (bytes_of_each fed ys c) (IsPermutation-map (λ x. (fed x c).bytes) xs ys p))
