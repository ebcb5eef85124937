use Rattle.std.proofs.Common.{◌∙◌}
use Rattle.jsx_names.proofs.Collecting.{all_open_flags}
use Rattle.jsx_names.proofs.wanted.reaches.Goals as goal

pub returns-in-Var : goal.returns-in-Var
returns-in-Var c = λ fs e. rw c.in-Var.is (c.all_passed.ensures ∙ all_open_flags _ fs e)
