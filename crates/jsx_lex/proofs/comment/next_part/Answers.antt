use Rattle.std.proofs.Common.{subst}
use Rattle.std.specs.Str.{chars}
use Rattle.jsx_lex.specs.Characters.{Follows}
use Rattle.jsx_lex.specs.Gaps.{IsBehind}
use Rattle.jsx_lex.proofs.CommentLaws.{line, block, not_open}
use Rattle.jsx_lex.proofs.comment.next_part.Goals as goal

pub returns-in-Some-after : goal.returns-in-Some-after
returns-in-Some-after c =
    let slash : Follows c.args.text.now 47 c.in-Some.behind.now = subst (λ x. Follows c.args.text.now x c.in-Some.behind.now) c.if-c-ne47.false c.in-Some.ensures in
    line _ _ _ _ _ slash c.in-Some-after.ensures c.before-in-Some-after.ensures.bytes c.before-in-Some-after.ensures.characters c.line_end-rest.ensures.line c.line_end-rest.utf8

pub returns-in_default-close : goal.returns-in_default-close
returns-in_default-close c =
    let slash : Follows c.args.text.now 47 c.in-Some.behind.now = subst (λ x. Follows c.args.text.now x c.in-Some.behind.now) c.if-c-ne47.false c.in-Some.ensures in
    not_open (IsBehind (chars c.args.text.now)) _ _ _ slash c.in-Some-after-2.ensures c.in_default-close.ensures c.requires

pub returns-in-Some-after-2 : goal.returns-in-Some-after-2
returns-in-Some-after-2 c =
    let slash : Follows c.args.text.now 47 c.in-Some.behind.now = subst (λ x. Follows c.args.text.now x c.in-Some.behind.now) c.if-c-ne47.false c.in-Some.ensures in
    block _ _ _ _ _ slash c.in-Some-after-2.ensures c.in-Some-close.ensures
