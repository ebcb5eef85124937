use Rattle.std.proofs.lemmas.Result.{on_ok_weaker}
use Rattle.jsx_kit.proofs.Reducing.{one_item, more_items}
use Rattle.jsx_kit.proofs.reduce.stable_hash_reduce.Goals as goal

pub returns-then-count-eq1 : goal.returns-then-count-eq1
returns-then-count-eq1 g c =
    on_ok_weaker c.feed_items.result
    (λ p. (
      p.0,
      p.1,
      one_item g.T.Item.fed_item g.T.Item.item_is_said p.0 c.args.hcx.now _ c.args.count c.args.hasher.now _ _
          (c.requires.counted p.0 p.1) c.if-count-eq1.true c.write_usize.ensures p.2,
    ))
    c.feed_items.ensures

pub returns : goal.returns
returns g c =
    let p = c.in_ok-sum.ensures in
    on_ok_weaker c.hash_stable.result
    (λ h. (
      p.0,
      p.1,
      more_items g.T.Item.fed_item g.T.Item.item_is_said p.0 c.args.hcx.now _ _ c.args.count c.args.hasher.now _ _ c.in_ok-sum.sum
          (c.requires.counted p.0 p.1) c.if-count-eq1.false c.write_usize.ensures p.2 h,
    ))
    c.hash_stable.ensures
