use Rattle.jsx_heard.proofs.SaidHeard.{program_heard}
use Rattle.jsx_heard.proofs.laws.said_is_heard.Goals as goal

pub returns : goal.returns
returns c = λ t d. program_heard t d
