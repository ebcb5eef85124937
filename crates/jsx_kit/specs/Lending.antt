-- What a lock holds once the `&mut` to its value has ended.
use Rattle.std.specs.Prelude.{Result}
use Rattle.std.specs.Borrow.{Fml, RattleType, MutBor, Lends, LendsIfOk}
use Rattle.jsx_kit.specs.declared.sync.Lock.{Lock}
use Rattle.jsx_kit.specs.declared.sync.RwLock.{RwLock}
use Rattle.jsx_kit.specs.contracts.sync.Lock as lock
use Rattle.jsx_kit.specs.contracts.sync.RwLock as rw_lock

-- the lock ends with the last value behind r
abbrev pub LendsLocked : (T : RattleType) → MutBor (Lock T.Denot) → MutBor T.Denot → Fml
LendsLocked T s r = Lends (lock.the_row T) T s r (λ w. record { inner = w })

abbrev pub LendsWritten : (T : RattleType) → MutBor (RwLock T.Denot) → MutBor T.Denot → Fml
LendsWritten T s r = Lends (rw_lock.the_row T) T s r (λ w. record { inner = w })

abbrev pub LendsWrittenIfOk : (T : RattleType) → MutBor (RwLock T.Denot) → Result (MutBor T.Denot) (Unit {0}) → Fml
LendsWrittenIfOk T s r = LendsIfOk (rw_lock.the_row T) T s r (λ w. record { inner = w }) s.now
