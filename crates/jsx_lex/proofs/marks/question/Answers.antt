use Rattle.jsx_lex.proofs.MarkLaws.{moved, chain_is, question_is}
use Rattle.jsx_lex.proofs.marks.question.Goals as goal

pub returns-in-Some-clause-mark : goal.returns-in-Some-clause-mark
returns-in-Some-clause-mark c = moved 63 _ _ _ _ c.in-Some.ensures.chars_are c.with_equal.ensures.mark

pub returns-in-Some-after_chain-clause-mark : goal.returns-in-Some-after_chain-clause-mark
returns-in-Some-after_chain-clause-mark c = chain_is _ _ c.in-Some-after_chain.ensures.behind c.in-Some-after_chain.ensures.chain

pub returns-clause-mark : goal.returns-clause-mark
returns-clause-mark c = question_is _ c.in_default.ensures c.in_default-after_chain.ensures.chain
