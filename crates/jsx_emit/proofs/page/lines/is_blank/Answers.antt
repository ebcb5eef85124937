use Rattle.std.proofs.Common.{◌≡◌, rules, take, true}
use Rattle.std.specs.Char.{is_whitespace}
use Rattle.std.specs.List.{list_all}
use Rattle.std.specs.Str.{chars}
use Rattle.jsx_emit.proofs.LineRows.{blank_next}
use Rattle.jsx_emit.proofs.page.lines.is_blank.Goals as goal

pub loop-c-preserved : goal.loop-c-preserved
loop-c-preserved c =
    let blank : is_whitespace c.in-Some.c ≡ true = search rules in record {
      is_text = c.in-Some.ensures.is_text;
      so = blank_next c.loop-c.left c.in-Some.c (chars c.loop-c.rest.now) (chars c.in-Some.behind.now) (list_all is_whitespace (take c.args.n (chars c.args.source.now))) c.if-left-eq0.false blank c.in-Some.ensures.chars_are c.loop-c.invariant.so;
    }
