use Rattle.std.proofs.Common.{◌<◌, arith, map, sym, ap, subst}
use Rattle.jsx_base.specs.Token.{StringLiteral}
use Rattle.jsx_tree.specs.View.{directive, forest, text_of}
use Rattle.jsx_tree.specs.Kinds.{leaf, none, part}
use Rattle.jsx_tree.specs.Spans.{no_tales, tale}
use Rattle.jsx_tree.specs.Told.{told_text}
use Rattle.jsx_token.specs.Here.{left, place_of}
use Rattle.jsx_operand.specs.Spans.{IsPlacedRow}
use Rattle.jsx_operand.proofs.Placing.{list_to}
use Rattle.jsx_operand.proofs.Trees.{pushed}
use Rattle.jsx_operand.proofs.Steps.{passed}
use Rattle.jsx_statement.specs.Directives.{IsDirective, Prologue, directive_symbols}
use Rattle.jsx_statement.proofs.Directives.{ahead_end, ahead_more, ahead_none, led_more, led_none, of_none, of_some}
use Rattle.jsx_statement.proofs.PlacedRuns.{directive_placed, lines, placed_more, placed_none, top_lines}
use Rattle.jsx_statement.proofs.body.directives.Goals as goal

pub directives-init : goal.directives-init
directives-init c = record {
  led = led_none;
  ahead = ahead_none _ (ap (λ ds. forest (map directive ds)) c.new-all.ensures.items);
  lines = placed_none c.new-all.ensures.items;
  top_lines = placed_none c.new-all.ensures.items;
  within = omega arith;
}

pub directives-preserved : goal.directives-preserved
directives-preserved c =
    let x = c.directives.lexer in
    let y = c.take_directive.new.lexer in
    let taken = of_some (λ t. IsDirective (place_of x) (directive t) (place_of y)) c.in-Some.is c.in_ok-text.ensures.taken in
    let placed = directive_placed c.in-Some.text (of_some (λ t. IsPlacedRow directive_symbols (tale (told_text t) no_tales) (part (leaf StringLiteral (text_of t)) none) x y) c.in-Some.is c.in_ok-text.ensures.placed) in
    record {
      led = led_more c.directives.invariant.led taken;
      ahead = ahead_more _ _ c.directives.invariant.ahead taken (pushed directive _ _ _ c.in_ok-push.ensures.items);
      lines = placed_more lines c.directives.invariant.lines c.in_ok-push.ensures.items placed;
      top_lines = placed_more top_lines c.directives.invariant.top_lines c.in_ok-push.ensures.items placed;
      within = omega (arith, of_some (λ t. left y < left x) c.in-Some.is c.in_ok-text.ensures.shorter, c.directives.invariant.within);
    }

pub returns-clause-read : goal.returns-clause-read
returns-clause-read c = subst (λ h. Prologue (place_of c.args.lexer.now) (forest (map directive c.directives.all.items)) (place_of h)) (sym (of_none c.in_default.is c.in_ok-text.ensures.stays)) (ahead_end _ c.directives.invariant.ahead (of_none c.in_default.is c.in_ok-text.ensures.missing))

pub returns-clause-lines : goal.returns-clause-lines
returns-clause-lines c = list_to (of_none c.in_default.is c.in_ok-text.ensures.stays) c.directives.invariant.lines.all

pub returns-clause-top_lines : goal.returns-clause-top_lines
returns-clause-top_lines c = list_to (of_none c.in_default.is c.in_ok-text.ensures.stays) c.directives.invariant.top_lines.all

pub returns-in_err-text-clause-refused : goal.returns-in_err-text-clause-refused
returns-in_err-text-clause-refused c = passed _ c.in_err-text.ensures.refused c.from_residual.ensures.1 (λ p. c.directives.invariant.led.on p)
