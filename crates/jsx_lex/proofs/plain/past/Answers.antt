use Rattle.std.proofs.Common.{sym, ◌∙◌}
use Rattle.std.proofs.lemmas.Str.{IsUtf8-past_char}
use Rattle.jsx_lex.proofs.Endings.{ends_behind}
use Rattle.jsx_lex.proofs.PlainRuns.{further}
use Rattle.jsx_lex.proofs.plain.past.Goals as goal

pub loop-c-preserved : goal.loop-c-preserved
loop-c-preserved c =
    let l = c.loop-c in
    record {
      keeps = further c.args.plain c.in-Some.c _ _ _ l.invariant.keeps c.in-Some.ensures.chars_are (sym c.stays.ensures ∙ c.if-not-stays.false);
      ends = ends_behind _ _ _ _ l.invariant.ends c.in-Some.ensures;
      text = IsUtf8-past_char _ _ _ l.invariant.text c.in-Some.ensures.bytes_are;
    }
