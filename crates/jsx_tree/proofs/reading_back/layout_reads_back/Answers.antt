use Rattle.jsx_tree.proofs.ReadBack.Programs.{printed_is}
use Rattle.jsx_tree.proofs.reading_back.layout_reads_back.Goals as goal

pub returns : goal.returns
returns c = λ goal t g h. printed_is goal t g h
