use Rattle.std.proofs.Common.{refl}
use Rattle.jsx_tree.specs.Kinds.{Binds, Assigns}
use Rattle.jsx_syntax.proofs.Unwrapping.{pattern_left}
use Rattle.jsx_syntax.proofs.bare.take_out_target.Goals as goal

pub returns-in_default : goal.returns-in_default
returns-in_default c = record {
  binds = pattern_left c.args.target.now Binds c.in_default.not-Paren;
  assigns = pattern_left c.args.target.now Assigns c.in_default.not-Paren;
  places = tt;
  stays = refl;
}
