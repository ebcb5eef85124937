use Rattle.jsx_tree.proofs.ReadBack.Programs.{marked_is}
use Rattle.jsx_tree.proofs.reading_back.marks_read_back.Goals as goal

pub returns : goal.returns
returns c = λ goal at t w g h. marked_is goal at t w g h
