use Rattle.std.proofs.Common.{ap, sym, ◌∙◌, rules}
use Rattle.std.specs.Str.{chars}
use Rattle.jsx_tree.specs.StaticRules.{escapes}
use Rattle.jsx_lex.specs.Automaton.{state_of}
use Rattle.jsx_token.proofs.Escaping.{escaped_at}
use Rattle.jsx_token.proofs.cooked.is_cooked.Goals as goal

pub loop-c-preserved : goal.loop-c-preserved
loop-c-preserved c = record {
  escapes_are = ap (λ s. escapes s (chars c.in-Some.behind.now)) c.further-escapes.ensures
      ∙ (sym (escaped_at (state_of c.loop-c.escapes.state) c.in-Some.c (chars c.loop-c.rest.now) (chars c.in-Some.behind.now) c.loop-c.invariant.alive c.in-Some.ensures.chars_are) ∙ c.loop-c.invariant.escapes_are);
  alive = sym c.is_dead.ensures ∙ c.if-is_dead.false;
  text = search rules;
}
