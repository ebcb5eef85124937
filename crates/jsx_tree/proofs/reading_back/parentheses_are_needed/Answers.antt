use Rattle.jsx_tree.proofs.Parentheses.Unneeded.{parenthesise_none}
use Rattle.jsx_tree.proofs.reading_back.parentheses_are_needed.Goals as goal

pub returns : goal.returns
returns c = λ t h. parenthesise_none t h
