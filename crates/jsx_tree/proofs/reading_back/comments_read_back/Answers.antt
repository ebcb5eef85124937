use Rattle.jsx_tree.proofs.ReadBack.Programs.{noted_is}
use Rattle.jsx_tree.proofs.reading_back.comments_read_back.Goals as goal

pub returns : goal.returns
returns c = λ goal f t n w g h. noted_is goal f t n w g h
