use Rattle.std.proofs.Common.{◌≡◌, ◌%◌, ◌-◌, arith, refl, ap, length}
use Rattle.std.proofs.lemmas.List.{take-replicate}
use Rattle.jsx_kit.specs.SipHash.{sip128, halves}
use Rattle.jsx_kit.proofs.Absorbing.{Holds_padded, Holds_count}
use Rattle.jsx_kit.proofs.hasher.StableHasher.finalize.Goals as goal

pub returns : goal.returns
unfolding sip128 halves
returns c = λ m held.
    let count = Holds_count c.args.self m held in
    let used : c.args.self.count % 8 ≡ length m % 8 = omega arith in
    let low : c.args.self.count % 256 ≡ length m % 256 = omega arith in
    let padded = c.write-2.ensures.more _ (c.write.ensures.more m held) in
    let state = Holds_padded c.write-2.new.self m _ _ padded (rw used (take-replicate (7 - length m % 8) 7 0 (omega arith))) (rw low refl) in
    rw (c.folded.ensures, c.folded-2.ensures, c.second_end-second.ensures, c.first_end-first.ensures) (ap halves state)
