use Rattle.std.specs.Map.Iter.{deref_pair}
use Rattle.std.proofs.lemmas.Result.{on_ok_weaker}
use Rattle.jsx_kit.specs.Fed.{fed_entry, EntryIsSaid}
use Rattle.jsx_kit.proofs.Walks.{counted, in_order, in_any_order}
use Rattle.jsx_kit.proofs.hash_maps.BTreeMapHashStable.hash_stable.Goals as goal

pub stable_hash_reduce-requires-clause-counted : goal.stable_hash_reduce-requires-clause-counted
stable_hash_reduce-requires-clause-counted g c = λ xs p. counted deref_pair _ c.args.self.now.entries _ xs c.iter.ensures.rest c.len.ensures.len p

pub returns-clause-hashed : goal.returns-clause-hashed
returns-clause-hashed g c =
    on_ok_weaker c.stable_hash_reduce.result
    (λ p. in_order (fed_entry g.K.ToStableHashKey.stable_key g.K.KeyType.HashStable.fed g.V.HashStable.fed) (EntryIsSaid g.K.ToStableHashKey.stable_key g.K.KeyType.HashStable.fed g.K.KeyType.HashStable.is_said g.V.HashStable.is_said) deref_pair c.iter.result c.args.self.now.entries c.args.hcx.now _ c.args.hasher.now _
    c.iter.ensures.rest p)
    c.stable_hash_reduce.ensures

pub returns-clause-in_any_order : goal.returns-clause-in_any_order
returns-clause-in_any_order g c =
    on_ok_weaker c.stable_hash_reduce.result
    (λ p order. in_any_order (fed_entry g.K.ToStableHashKey.stable_key g.K.KeyType.HashStable.fed g.V.HashStable.fed) (EntryIsSaid g.K.ToStableHashKey.stable_key g.K.KeyType.HashStable.fed g.K.KeyType.HashStable.is_said g.V.HashStable.is_said) deref_pair c.iter.result c.args.self.now.entries order c.args.hcx.now _ c.args.hasher.now _
    c.iter.ensures.rest p)
    c.stable_hash_reduce.ensures
