use Rattle.std.proofs.Common.{refl, rules}
use Rattle.std.proofs.lemmas.Int.{to_z-of_z}
use Rattle.std.specs.Int.{w128}
use mir.Val.{SFits}
use Rattle.jsx_kit.proofs.hash_stable.I128HashStable.hash_stable.Goals as goal

pub returns : goal.returns
returns g c =
    let fits : SFits w128 c.args.self.now = search rules in
    λ said. record { feeds = record { more = simp to_z-of_z at c.write_i128.ensures.more }; leaves = refl }
