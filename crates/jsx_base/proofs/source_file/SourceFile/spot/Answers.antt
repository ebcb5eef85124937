use Rattle.std.proofs.Common.{◌<◌, ◌^◌, length, sym, subst, arith}
use Rattle.jsx_base.proofs.source_file.SourceFile.spot.Goals as goal

pub spot_in-requires-clause-short : goal.spot_in-requires-clause-short
spot_in-requires-clause-short c =
    let it = c.args.self.now in
    subst (λ bs. length bs < 2 ^ 32) (sym c.as_str.ensures.value) (omega (arith, it.end, it.short))
