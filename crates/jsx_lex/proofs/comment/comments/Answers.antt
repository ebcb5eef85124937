use Rattle.std.proofs.Common.{length, drop, ap, sym, subst, ◌∙◌}
use Rattle.std.proofs.lemmas.Str.{IsUtf8-drop}
use Rattle.jsx_lex.specs.Parts.{IsPart, IsSpace, IsLine, IsBlock}
use Rattle.jsx_lex.proofs.Endings.{ends_within}
use Rattle.jsx_lex.proofs.FoundComments.{space_ends, line_ends, block_ends, space_shorter, more_space, more_line, more_block, pushed, none, all_found, ends_length}
use Rattle.jsx_lex.proofs.comment.comments.Goals as goal

pub returns-then-from-to : goal.returns-then-from-to
returns-then-from-to c = none _ _ _ _ (ap (λ n. drop n c.args.text.now) c.if-from-to.true) c.new-found.ensures.items

pub loop-part-smaller-in-Space : goal.loop-part-smaller-in-Space
loop-part-smaller-in-Space c =
    let s : IsSpace c.loop-part.rest.now c.in-Space.behind.now = subst (IsPart c.loop-part.rest.now) c.in-Space.is c.in-Some.ensures in
    space_shorter _ _ s

pub loop-part-preserved-in-Space : goal.loop-part-preserved-in-Space
loop-part-preserved-in-Space c =
    let l = c.loop-part in
    let s : IsSpace l.rest.now c.in-Space.behind.now = subst (IsPart l.rest.now) c.in-Space.is c.in-Some.ensures in
    record {
      behind = sym s.goes_on.behind_is ∙ l.invariant.behind;
      cut = sym s.goes_on.cut_is ∙ l.invariant.cut;
      ends = ends_within _ _ _ l.invariant.ends (space_ends _ _ s);
      more = more_space c.args.start.0 (length c.args.text.now) _ _ _ _ _ _ (ends_length _ _ l.invariant.ends) s l.invariant.more;
      text = s.goes_on.text_is;
    }

pub place-hi-requires-clause-ends : goal.place-hi-requires-clause-ends
place-hi-requires-clause-ends c =
    let l = c.loop-part in
    let s : IsLine l.rest.now c.in-Line.body.now c.in-Line.behind.now = subst (IsPart l.rest.now) c.in-Line.is c.in-Some.ensures in
    ends_within _ _ _ l.invariant.ends (line_ends _ _ _ s)

pub loop-part-preserved-in-Line : goal.loop-part-preserved-in-Line
loop-part-preserved-in-Line c =
    let l = c.loop-part in
    let s : IsLine l.rest.now c.in-Line.body.now c.in-Line.behind.now = subst (IsPart l.rest.now) c.in-Line.is c.in-Some.ensures in
    record {
      behind = sym s.goes_on.behind_is ∙ l.invariant.behind;
      cut = sym s.goes_on.cut_is ∙ l.invariant.cut;
      ends = ends_within _ _ _ l.invariant.ends (line_ends _ _ _ s);
      more = more_line c.args.start.0 (length c.args.text.now) _ c.in-Line.body.now _ _ _ c.place-lo.result.0 c.place-hi.result.0 _ _ _ (ends_length _ _ l.invariant.ends) s c.place-lo.ensures c.place-hi.ensures
          (pushed _ _ _ _ c.in_ok-push-in-Line.ensures.items c.in_ok-line-in-Line.ensures) l.invariant.more;
      text = s.goes_on.text_is;
    }

pub place-hi-requires-in-Block-clause-ends : goal.place-hi-requires-in-Block-clause-ends
place-hi-requires-in-Block-clause-ends c =
    let l = c.loop-part in
    let s : IsBlock l.rest.now c.in-Block.body.now c.in-Block.behind.now = subst (IsPart l.rest.now) c.in-Block.is c.in-Some.ensures in
    ends_within _ _ _ l.invariant.ends (block_ends _ _ _ s)

pub loop-part-preserved : goal.loop-part-preserved
loop-part-preserved c =
    let l = c.loop-part in
    let s : IsBlock l.rest.now c.in-Block.body.now c.in-Block.behind.now = subst (IsPart l.rest.now) c.in-Block.is c.in-Some.ensures in
    record {
      behind = sym s.goes_on.behind_is ∙ l.invariant.behind;
      cut = sym s.goes_on.cut_is ∙ l.invariant.cut;
      ends = ends_within _ _ _ l.invariant.ends (block_ends _ _ _ s);
      more = more_block c.args.start.0 (length c.args.text.now) _ c.in-Block.body.now _ _ _ c.place-lo.result.0 c.place-hi-in-Block.result.0 _ _ _ (ends_length _ _ l.invariant.ends) s c.place-lo.ensures c.place-hi-in-Block.ensures
          (pushed _ _ _ _ c.in_ok-push-in-Block.ensures.items c.in_ok-block-in-Block.ensures) l.invariant.more;
      text = s.goes_on.text_is;
    }

pub returns : goal.returns
returns c =
    let l = c.loop-part in
    all_found _ _ _ _ _ _ l.invariant.text (IsUtf8-drop c.args.text.now c.args.to c.utf8.text c.requires.to) c.in_default.ensures l.invariant.behind l.invariant.more
