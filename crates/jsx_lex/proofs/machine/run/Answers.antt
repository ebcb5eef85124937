use Rattle.std.proofs.Common.{◌∙◌}
use Rattle.std.proofs.lemmas.Str.{IsUtf8-past_char}
use Rattle.jsx_lex.specs.Automaton.{state_of}
use Rattle.jsx_lex.proofs.Endings.{ends_behind}
use Rattle.jsx_lex.proofs.States.{lives, further}
use Rattle.jsx_lex.proofs.machine.run.Goals as goal

pub loop-c-preserved : goal.loop-c-preserved
loop-c-preserved c =
    let l = c.loop-c in
    let e = further (state_of l.state) (state_of c.step-after.result) c.in-Some.c _ _ c.in-Some.ensures.chars_are c.step-after.ensures (lives c.step-after.result c.in_default-after.not-Dead) in
    record {
      rest = e.rest_is ∙ l.invariant.rest;
      last = e.last_is ∙ l.invariant.last;
      ends = ends_behind _ _ _ _ l.invariant.ends c.in-Some.ensures;
      text = IsUtf8-past_char _ _ _ l.invariant.text c.in-Some.ensures.bytes_are;
    }
