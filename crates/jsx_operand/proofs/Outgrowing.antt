-- An expression that is too deep for what goes on with it.
use Rattle.std.proofs.Common.{◌≡◌, true, sym}
use Rattle.jsx_tree.specs.Kinds.{Kind, Tree}
use Rattle.jsx_tree.specs.Grammar.{Part}
use Rattle.jsx_tree.specs.Reading.{Place}
use Rattle.jsx_tree.specs.StaticRules.{Surroundings}
use Rattle.jsx_tree.specs.Answers.{Moves, Barred}
use Rattle.jsx_tree.specs.Faults.{Fault}
use Rattle.jsx_tree.proofs.Rows.Bridge.{found_at}
use Rattle.jsx_token.specs.Growths.{Rung, is_rung, seat, reaches, OnLine, mark}
use Rattle.jsx_token.proofs.Listed.{Listed}
use Rattle.jsx_token.proofs.Levels.{marks_on}
use Rattle.jsx_operand.specs.SoFar.{so_far}
use Rattle.jsx_operand.specs.Climbing.{Climbs}
use Rattle.jsx_operand.specs.Outgrown.{Outgrown}
use Rattle.jsx_operand.proofs.Outgrown.{left_outgrown}
use Rattle.jsx_operand.proofs.Climbing.{counts_listed, decides}

-- its mark stands there, so whatever is read is one deeper
pub climb_outgrown : {v : Surroundings} (r : Rung) {x a b : Place} {t : Tree} (k : Kind) (e : Fault) → is_rung r ≡ true → Listed k → marks_on k ≡ true → Climbs v r x t a → OnLine k a → Moves (mark k) a b → reaches r k ≡ true → Outgrown t e → Barred so_far v (Part (seat r)) x e
climb_outgrown r k e h m g c o f i q = left_outgrown e (counts_listed k m) c.follows (decides r h c m g i o (found_at (sym f.is) f.found)) c.reads q
