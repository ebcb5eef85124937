use Rattle.std.proofs.Common.{◌≡◌, arith}
use Rattle.jsx_names.specs.Shadowed.{named_of}
use Rattle.jsx_names.proofs.Keeping.{through_all}
use Rattle.jsx_names.proofs.gather.keep_through.Goals as goal

pub returns : goal.returns
returns c = let l = c.loop-at-test.false in let e : c.loop-at.at ≡ 0 = omega (arith, l) in through_all c.args.lists.now c.loop-at.lists (named_of c.args.kept) c.args.scopes.now c.loop-at.at e c.loop-at.invariant.through
