use Rattle.std.proofs.Common.{sym, ap, subst, ◌∙◌, nat_eq, ◌≡◌, false}
use Rattle.std.proofs.lemmas.Bool.{ne_eqb}
use Rattle.std.proofs.lemmas.Str.{IsUtf8-past_char}
use Rattle.std.specs.Str.{chars}
use Rattle.jsx_lex.specs.Characters.{Follows}
use Rattle.jsx_lex.specs.Comments.{from_close}
use Rattle.jsx_lex.proofs.Endings.{ends_behind}
use Rattle.jsx_lex.proofs.CommentLaws.{closed, from_star, close_further, star_further}
use Rattle.jsx_lex.proofs.comment.close.Goals as goal

pub returns-in-Some-after : goal.returns-in-Some-after
returns-in-Some-after c =
    let l = c.loop-c in
    let star : Follows l.rest.now 42 c.in-Some.behind.now = subst (λ x. Follows l.rest.now x c.in-Some.behind.now) c.if-c-eq42.true c.in-Some.ensures in
    closed c.args.text.now c.before-in-Some-after.result.now l.rest.now c.in-Some.behind.now c.in-Some-after.more.now c.before-in-Some-after.ensures.bytes c.before-in-Some-after.ensures.characters
    (star.chars_are ∙ (sym (from_star (chars c.in-Some.behind.now) (chars c.in-Some-after.more.now) c.in-Some-after.ensures.chars_are) ∙ (ap from_close (sym star.chars_are) ∙ l.invariant.same)))
    star c.in-Some-after.ensures
    (IsUtf8-past_char _ _ _ (IsUtf8-past_char _ _ _ l.invariant.text c.in-Some.ensures.bytes_are) c.in-Some-after.ensures.bytes_are)

pub loop-c-preserved-in_default-after : goal.loop-c-preserved-in_default-after
loop-c-preserved-in_default-after c =
    let l = c.loop-c in
    let star : Follows l.rest.now 42 c.in-Some.behind.now = subst (λ x. Follows l.rest.now x c.in-Some.behind.now) c.if-c-eq42.true c.in-Some.ensures in
    record {
      same = star_further _ _ star.chars_are c.in_default-after.ensures ∙ l.invariant.same;
      ends = ends_behind _ _ _ _ l.invariant.ends c.in-Some.ensures;
      text = IsUtf8-past_char _ _ _ l.invariant.text c.in-Some.ensures.bytes_are;
    }

pub loop-c-preserved : goal.loop-c-preserved
loop-c-preserved c =
    let l = c.loop-c in
    let other : nat_eq 42 c.in-Some.c ≡ false = ne_eqb 42 c.in-Some.c (λ is. c.if-c-eq42.false (sym is)) in
    record {
      same = close_further _ _ c.in-Some.c c.in-Some.ensures.chars_are other ∙ l.invariant.same;
      ends = ends_behind _ _ _ _ l.invariant.ends c.in-Some.ensures;
      text = IsUtf8-past_char _ _ _ l.invariant.text c.in-Some.ensures.bytes_are;
    }
