use Rattle.std.proofs.Common.{ap, refl}
use Rattle.std.specs.Prelude.{[], None}
use Rattle.jsx_tree.specs.Told.{told_node}
use Rattle.jsx_tree.proofs.Views.{ap_2}
use Rattle.jsx_heard.specs.Code.{mode_of}
use Rattle.jsx_heard.specs.Said.{Idents, Elsewhere, said}
use Rattle.jsx_heard.proofs.Hearing.{as_said}
use Rattle.jsx_heard.proofs.SaidStatements.{nothing_said}
use Rattle.jsx_heard.proofs.patterns.word.Goals as goal

pub returns-in_default-spelling : goal.returns-in_default-spelling
returns-in_default-spelling c = nothing_said _ _ (c.spelling.ensures.none c.in_default-spelling.is (mode_of c.args.mode))

pub returns : goal.returns
returns c = as_said c.declares_word.result _ _ _ _ (ap_2 (λ m t. said m Idents Elsewhere t (told_node None [])) (ap mode_of c.in-Binding.is) (c.in-Some.ensures.some c.in-Some.name refl)) c.declares_word.ensures
