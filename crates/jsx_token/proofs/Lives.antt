-- Where a kind is at home, by places.
use Rattle.std.proofs.Common.{Bool, not}
use Rattle.std.specs.Prelude.{◌&&◌}
use Rattle.jsx_tree.specs.Kinds.{Kind, function, expression, ParenTarget, Seq, Spread}
use Rattle.jsx_tree.specs.Nonterminals.{Nonterminal, homes, in_homes}
use Rattle.jsx_tree.specs.Form.{is_piece}
use Rattle.jsx_tree.specs.Grows.{is_operand}

-- whether a kind is at home there
abbrev pub lives : Nonterminal → Kind → Bool
lives c k = in_homes c (homes k)

-- where an expression stands that is neither a sequence nor a spread, or a target
abbrev pub is_lone : Nonterminal → Bool
is_lone c = is_operand c && (not (lives c (expression Seq)) && (not (lives c (expression Spread)) && not (is_piece c)))

-- and no target
abbrev pub is_single : Nonterminal → Bool
is_single c = is_lone c && not (lives c (function ParenTarget))
