use Rattle.std.proofs.Common.{◌≡◌, length}
use Rattle.std.specs.Str.{chars}
use denote.Shadow.{shadow}
use denote.Text.{Utf8}
use Rattle.jsx_base.specs.Token.{left, last_state}
use Rattle.jsx_lex.specs.Automaton.{state_of}
use Rattle.jsx_lex.specs.Places.{EndsWith}
use Rattle.jsx_lex.proofs.machine.run.Given as goal

abbrev pub invariant-loop-c : goal.invariant-loop-c
invariant-loop-c l = record {
  rest : left (state_of l.state) (chars l.rest) ≡ left (state_of l.fn.start) (chars l.text);
  last : last_state (state_of l.state) (chars l.rest) ≡ last_state (state_of l.fn.start) (chars l.text);
  ends : EndsWith l.text l.rest;
  text : shadow (Utf8 l.rest);
}

abbrev pub decreases-loop-c : goal.decreases-loop-c
decreases-loop-c l = length l.rest
