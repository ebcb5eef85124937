use Rattle.jsx_tree.proofs.Parentheses.NormalForms.{parenthesise_same}
use Rattle.jsx_tree.proofs.reading_back.parentheses_say_nothing.Goals as goal

pub returns : goal.returns
returns c = λ t. parenthesise_same t
