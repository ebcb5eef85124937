use Rattle.jsx_heard.proofs.InPlace.{early_in_place}
use Rattle.jsx_heard.proofs.laws.early_in_place.Goals as goal

pub returns : goal.returns
returns c = λ g text from w p es r v k m. early_in_place g text from w p es r v k m
