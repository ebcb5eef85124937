use Rattle.std.proofs.Common.{◌≡◌, length, false}
use Rattle.std.specs.Str.{chars}
use denote.Shadow.{shadow}
use denote.Text.{Utf8}
use Rattle.jsx_base.specs.Token.{InString, is_dead}
use Rattle.jsx_tree.specs.StaticRules.{escapes}
use Rattle.jsx_lex.specs.Automaton.{state_of}
use Rattle.jsx_token.proofs.cooked.is_cooked.Given as goal

abbrev pub invariant-loop-c : goal.invariant-loop-c
invariant-loop-c l = record {
  escapes_are : escapes (state_of l.escapes.state) (chars l.rest) ≡ escapes (InString 96) (chars l.raw);
  alive : is_dead (state_of l.escapes.state) ≡ false;
  text : shadow (Utf8 l.rest);
}

abbrev pub decreases-loop-c : goal.decreases-loop-c
decreases-loop-c l = length l.rest
