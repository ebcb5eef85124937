use Rattle.std.proofs.Common.{◌≡◌, ◌||◌, nat_eq, false, sym, ap, ◌∙◌}
use Rattle.std.proofs.lemmas.Str.{IsUtf8-past_char}
use Rattle.std.proofs.lemmas.Bool.{ne_eqb}
use Rattle.jsx_lex.proofs.Endings.{ends_behind}
use Rattle.jsx_lex.proofs.Gaps.{block_further, flagged, or_true, or_false}
use Rattle.jsx_lex.proofs.gap.past_block.Goals as goal

pub loop-c-preserved-then-is_line_end : goal.loop-c-preserved-then-is_line_end
loop-c-preserved-then-is_line_end c =
    let l = c.loop-c in
    let other : nat_eq 42 c.in-Some.c ≡ false = ne_eqb 42 c.in-Some.c (λ is. c.if-c-eq42.false (sym is)) in
    let e = block_further _ _ _ c.in-Some.c _ l.invariant.leads c.in-Some.ensures.chars_are other in
    record {
      leads = flagged _ _ _ _ _ _ (ap (λ b. l.has_new_line || b) (sym c.is_line_end.ensures ∙ c.if-is_line_end.true) ∙ or_true l.has_new_line) e;
      ends = ends_behind _ _ _ _ l.invariant.ends c.in-Some.ensures;
      text = IsUtf8-past_char _ _ _ l.invariant.text c.in-Some.ensures.bytes_are;
    }

pub loop-c-preserved : goal.loop-c-preserved
loop-c-preserved c =
    let l = c.loop-c in
    let other : nat_eq 42 c.in-Some.c ≡ false = ne_eqb 42 c.in-Some.c (λ is. c.if-c-eq42.false (sym is)) in
    let e = block_further _ _ _ c.in-Some.c _ l.invariant.leads c.in-Some.ensures.chars_are other in
    record {
      leads = flagged _ _ _ _ _ _ (ap (λ b. l.has_new_line || b) (sym c.is_line_end.ensures ∙ c.if-is_line_end.false) ∙ or_false l.has_new_line) e;
      ends = ends_behind _ _ _ _ l.invariant.ends c.in-Some.ensures;
      text = IsUtf8-past_char _ _ _ l.invariant.text c.in-Some.ensures.bytes_are;
    }
