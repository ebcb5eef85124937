use Rattle.std.proofs.Common.{◌∙◌, ◌++◌, map, ap, string_bytes}
use Rattle.std.specs.Str.{chars}
use Rattle.jsx_base.specs.Comments.{is_marked}
use Rattle.jsx_pen.specs.Pen.{begin, joint, portion_of, puts, signs}
use Rattle.jsx_pen.proofs.Characters.{appended}
use Rattle.jsx_plan.specs.Noted.{noted_program}
use Rattle.jsx_print.proofs.Prints.{exact, is_printed, text_reads}
use Rattle.jsx_print.proofs.printed.print.Goals as goal

pub returns-clause-marks : goal.returns-clause-marks
returns-clause-marks g c h =
    let p = c.args.program.now in
    let f = is_marked (g.C.Comments.marked c.args.comments.now) in
    let r = chars (string_bytes c.in_ok-draft.draft.rest) in
    exact p _ f
    (ap chars c.in_ok-push_str.ensures.bytes ∙ appended c.in_ok-text.text _ ∙ ap (λ x. chars (string_bytes c.in_ok-text.text) ++ chars x) c.as_str.ensures.value ∙ ap (λ t. t ++ r) c.in_ok-text.ensures
    ∙ ap (λ ss. joint f (map portion_of ss) ++ r) c.deref.ensures.value ∙ ap (λ ss. joint f ss ++ r) c.in_ok-draft.ensures.stretches ∙ ap (λ t. joint f (puts begin (signs (noted_program p))).done ++ t) c.in_ok-draft.ensures.rest)
    h

pub returns-clause-layout : goal.returns-clause-layout
returns-clause-layout g c h = is_printed c.args.program.now _ (is_marked (g.C.Comments.marked c.args.comments.now)) h (returns-clause-marks g c h)

pub returns-clause-reads : goal.returns-clause-reads
returns-clause-reads g c q i h = text_reads c.args.program.now _ (is_marked (g.C.Comments.marked c.args.comments.now)) q (returns-clause-marks g c h) i h
