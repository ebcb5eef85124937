-- Inserting a value that has to be the one that the key holds.
use Rattle.std.specs.Prelude.{◌≡◌, ◌↔◌, Bool, false, true, Some, Result, Err, OnOk, OnErr, MatchOption}
use Rattle.std.specs.HashMap.{HashMap, get, Updates, IsUnchanged}
use Rattle.jsx_kit.specs.declared.sync.InsertError.{InsertError}
use Rattle.jsx_kit.specs.declared.sync.InsertError.TheVariants.{Different}

module _ {K V S : Type 0} (key_eq : K → K → Bool) (value_eq : V → V → Bool) where
  -- the key holds a value that isn't equal to this one
  abbrev pub HoldsAnother : HashMap K V S → K → V → Type 0
  HoldsAnother m k v = (w : V) × (get key_eq m k ≡ Some w) × (value_eq w v ≡ false)

  pub record InsertsSame (m : HashMap K V S) (k : K) (v : V) (r : Result (Unit {0}) InsertError) (n : HashMap K V S) : Type 0 where
    pub different : (r ≡ Err Different) ↔ HoldsAnother m k v
    pub ok : OnOk r (MatchOption (get key_eq m k) (Updates key_eq m n k (Some v)) (λ w. (value_eq w v ≡ true) × IsUnchanged m n))
    pub err : OnErr r (IsUnchanged m n)
