use Rattle.std.specs.Map.Iter.{deref}
use Rattle.std.proofs.lemmas.Result.{on_ok_weaker}
use Rattle.jsx_kit.specs.Fed.{fed_key, KeyIsSaid}
use Rattle.jsx_kit.proofs.Walks.{counted, in_order, in_any_order}
use Rattle.jsx_kit.proofs.hash_maps.BTreeSetHashStable.hash_stable.Goals as goal

pub stable_hash_reduce-requires-clause-counted : goal.stable_hash_reduce-requires-clause-counted
stable_hash_reduce-requires-clause-counted g c = λ xs p. counted deref _ c.args.self.now.keys _ xs c.iter.ensures.rest c.len.ensures.len p

pub returns-clause-hashed : goal.returns-clause-hashed
returns-clause-hashed g c =
    on_ok_weaker c.stable_hash_reduce.result
    (λ p. in_order (fed_key g.K.ToStableHashKey.stable_key g.K.KeyType.HashStable.fed) (KeyIsSaid g.K.ToStableHashKey.stable_key g.K.KeyType.HashStable.fed g.K.KeyType.HashStable.is_said) deref c.iter.result c.args.self.now.keys c.args.hcx.now _ c.args.hasher.now _
    c.iter.ensures.rest p)
    c.stable_hash_reduce.ensures

pub returns-clause-in_any_order : goal.returns-clause-in_any_order
returns-clause-in_any_order g c =
    on_ok_weaker c.stable_hash_reduce.result
    (λ p order. in_any_order (fed_key g.K.ToStableHashKey.stable_key g.K.KeyType.HashStable.fed) (KeyIsSaid g.K.ToStableHashKey.stable_key g.K.KeyType.HashStable.fed g.K.KeyType.HashStable.is_said) deref c.iter.result c.args.self.now.keys order c.args.hcx.now _ c.args.hasher.now _
    c.iter.ensures.rest p)
    c.stable_hash_reduce.ensures
