use Rattle.std.proofs.lemmas.Bool.{and_parts}
use Rattle.jsx_tree.specs.Normal.{laid_tree}
use Rattle.jsx_tree.specs.Parentheses.{parenthesise}
use Rattle.jsx_tree.specs.StaticRules.{outside}
use Rattle.jsx_tree.specs.Sound.{formed, lawful}
use Rattle.jsx_tree.proofs.ReadBack.Programs.{printed_is}
use Rattle.jsx_tree.proofs.Parentheses.Programs.{dressed_fits, dressed_goal, dressed_same}
use Rattle.jsx_tree.proofs.reading_back.sound_programs_read_back.Goals as goal

pub returns-clause-reads : goal.returns-clause-reads
returns-clause-reads c = λ goal t g h. printed_is goal (parenthesise t) (dressed_goal goal t g) (dressed_fits t h)

pub returns-clause-same : goal.returns-clause-same
returns-clause-same c = λ t h. dressed_same t (and_parts (formed t) (lawful outside (laid_tree t)) h).0
