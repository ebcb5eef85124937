-- What hashing a value feeds, as bytes, and the context that it leaves.
use Rattle.std.specs.Prelude.{◌≡◌, ℕ, ◌%◌, ◌^◌, ◌==◌, nat_lt, ℤ, List, [], ◌∷◌, ◌++◌, length, map, sum_by, Bool, true, false, if◌then◌else◌, Option, None, Some, Result, Ok, Err}
use Rattle.std.specs.List.{flat_map, All}
use Rattle.std.specs.Int.{w64, w128, to_le_bytes, cast_unsigned}
use Rattle.std.specs.declared.cmp.Ordering.{Ordering}
use Rattle.std.specs.declared.cmp.Ordering.TheVariants.{Less, Equal, Greater}
use Rattle.jsx_kit.specs.SipHash.{Feeds, sip128, as_number}
use Rattle.jsx_kit.specs.declared.hasher.StableHasher.{StableHasher}

-- the bytes fed, and the context left
pub record Fed (C : Type 0) : Type 0 where
  pub bytes : List ℕ
  pub after : C

-- these bytes, and the context as it was
abbrev pub just : {C : Type 0} → List ℕ → C → Fed C
just bytes context = record { bytes = bytes; after = context }

-- the one, and then the other, which was taken with the context that the one left
abbrev pub joined : {C : Type 0} → Fed C → Fed C → Fed C
joined f g = record { bytes = f.bytes ++ g.bytes; after = g.after }

-- hashing led from the one hasher to the other and left this context, as f says
pub record Hashed {C : Type 0} (f : Fed C) (old new : StableHasher) (left : C) : Type 0 where
  pub feeds : Feeds old new f.bytes
  pub leaves : left ≡ f.after

-- the key is hashed in each context as the wanted one is, and compares equal to it
pub record IsKey {C K : Type 0} (fed : K → C → Fed C) (said : K → C → Type 0) (cmp : K → K → Ordering) (key wanted : K) : Type 0 where
  pub fed_alike : (context : C) → fed key context ≡ fed wanted context
  pub said_alike : (context : C) → said wanted context → said key context
  pub compares : cmp key wanted ≡ Equal

-- ---- whole numbers and their kin

-- an isize is one byte where its value as a u64 is below 255, else the byte 255 and its eight bytes
abbrev pub isize_bytes : ℤ → List ℕ
isize_bytes z = if nat_lt (cast_unsigned w64 z) 255 then cast_unsigned w64 z ∷ [] else 255 ∷ to_le_bytes w64 (cast_unsigned w64 z)

abbrev pub bool_bytes : Bool → List ℕ
bool_bytes false = 0 ∷ []
bool_bytes true = 1 ∷ []

-- an i8: -1, 0 or 1
abbrev pub ordering_bytes : Ordering → List ℕ
ordering_bytes Less = 255 ∷ []
ordering_bytes Equal = 0 ∷ []
ordering_bytes Greater = 1 ∷ []

abbrev pub length_bytes : ℕ → List ℕ
length_bytes n = to_le_bytes w64 n

-- a text is its length twice, and then its bytes
abbrev pub text_bytes : List ℕ → List ℕ
text_bytes text = length_bytes (length text) ++ (length_bytes (length text) ++ text)

-- ---- values of parts

module _ {C : Type 0} where
  abbrev pub fed_option : {T : Type 0} → (T → C → Fed C) → Option T → C → Fed C
  fed_option fed None c = just (0 ∷ []) c
  fed_option fed (Some x) c = joined (just (1 ∷ []) c) (fed x c)

  abbrev pub fed_result : {T E : Type 0} → (T → C → Fed C) → (E → C → Fed C) → Result T E → C → Fed C
  fed_result ok err (Ok x) c = joined (just (0 ∷ []) c) (ok x c)
  fed_result ok err (Err e) c = joined (just (1 ∷ []) c) (err e c)

  -- each item in turn
  abbrev pub fed_each : {T : Type 0} → (T → C → Fed C) → List T → C → Fed C
  fed_each fed [] c = just [] c
  fed_each fed (x ∷ xs) c = joined (fed x c) (fed_each fed xs (fed x c).after)

  -- a slice is its length, and then its items
  abbrev pub fed_slice : {T : Type 0} → (T → C → Fed C) → List T → C → Fed C
  fed_slice fed xs c = joined (just (length_bytes (length xs)) c) (fed_each fed xs c)

  -- ---- where that is said: of a map or a set only where hashing an item leaves the context as it was

  abbrev pub OptionIsSaid : {T : Type 0} → (T → C → Type 0) → Option T → C → Type 0
  OptionIsSaid said None c = Unit {0}
  OptionIsSaid said (Some x) c = said x c

  abbrev pub ResultIsSaid : {T E : Type 0} → (T → C → Type 0) → (E → C → Type 0) → Result T E → C → Type 0
  ResultIsSaid ok err (Ok x) c = ok x c
  ResultIsSaid ok err (Err e) c = err e c

  abbrev pub EachIsSaid : {T : Type 0} → (T → C → Fed C) → (T → C → Type 0) → List T → C → Type 0
  EachIsSaid fed said [] c = Unit {0}
  EachIsSaid fed said (x ∷ xs) c = said x c × EachIsSaid fed said xs (fed x c).after

-- ---- maps and sets, whose items come in some order

-- the bytes' own hash, as a number
abbrev pub own_hash : List ℕ → ℕ
own_hash bytes = as_number (sip128 bytes)

-- `None`, or the wrapping sum of the items' own hashes
abbrev pub sum_of_hashes : List (List ℕ) → Option ℕ
sum_of_hashes [] = None
sum_of_hashes (x ∷ xs) = Some (sum_by own_hash (x ∷ xs) % 2 ^ 128)

abbrev pub sum_bytes : Option ℕ → List ℕ
sum_bytes None = 0 ∷ []
sum_bytes (Some sum) = 1 ∷ to_le_bytes w128 sum

-- what the items' bytes are reduced to: the number of the items; for one item the item itself, else the sum
abbrev pub reduced : List (List ℕ) → List ℕ
reduced items = length_bytes (length items) ++ (if length items == 1 then flat_map (λ bytes. bytes) items else sum_bytes (sum_of_hashes items))

module _ {C T : Type 0} (fed : T → C → Fed C) where
  abbrev pub bytes_of_each : List T → C → List (List ℕ)
  bytes_of_each items c = map (λ x. (fed x c).bytes) items

  -- each item in the context that the map or set was hashed in
  abbrev pub fed_items : List T → C → Fed C
  fed_items items c = just (reduced (bytes_of_each items c)) c

  -- what hashing an item feeds is said, and it leaves the context as it was
  abbrev pub IsSteady : (T → C → Type 0) → C → T → Type 0
  IsSteady said c x = said x c × ((fed x c).after ≡ c)

  abbrev pub AreSteady : (T → C → Type 0) → List T → C → Type 0
  AreSteady said items c = All (IsSteady said c) items

-- an item of a set is its stable key; an entry of a map is its key's stable key, and then its value
module _ {C K X : Type 0} (stable_key : K → C → X) (key_fed : X → C → Fed C) where
  abbrev pub fed_key : K → C → Fed C
  fed_key k c = key_fed (stable_key k c) c

  abbrev pub fed_entry : {V : Type 0} → (V → C → Fed C) → K × V → C → Fed C
  fed_entry value_fed e c = joined (fed_key e.0 c) (value_fed e.1 (fed_key e.0 c).after)

  abbrev pub KeyIsSaid : (X → C → Type 0) → K → C → Type 0
  KeyIsSaid key_said k c = key_said (stable_key k c) c

  abbrev pub EntryIsSaid : {V : Type 0} → (X → C → Type 0) → (V → C → Type 0) → K × V → C → Type 0
  EntryIsSaid key_said value_said e c = KeyIsSaid key_said e.0 c × value_said e.1 (fed_key e.0 c).after
