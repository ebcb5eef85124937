use Rattle.std.proofs.Common.{◌+◌, ◌∷◌, drop, ap, sym, ◌∙◌}
use Rattle.std.proofs.lemmas.List.{drop_more, drop_all}
use Rattle.jsx_kit.proofs.Hashing.{Remaining-more, Remaining-end}
use Rattle.jsx_kit.proofs.hash_parts.RefSliceHashStable.hash_stable.Goals as goal

pub loop-item-preserved : goal.loop-item-preserved
loop-item-preserved g c = λ said.
    let xs = c.args.self.now.now in
    let i = c.loop-item.item-index in
    let rest = drop_more xs i c.item-item.result c.loop-item-test.true ∙ ap (λ x. x ∷ drop (i + 1) xs) (sym c.item-item.is) in
    Remaining-more _ _ (c.loop-item.invariant said) rest c.in_ok-hash_stable.ensures

pub returns : goal.returns
returns g c = λ said. Remaining-end (c.loop-item.invariant said) (drop_all c.loop-item.item-index c.args.self.now.now c.loop-item-test.false)
