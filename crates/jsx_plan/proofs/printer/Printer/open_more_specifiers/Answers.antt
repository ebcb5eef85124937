use Rattle.std.proofs.Common.{◌≡◌, ◌<◌, ap, get_or, length, subst, sym}
use Rattle.jsx_plan.specs.Plan.{behind, job_of, pen_of, side_of}
use Rattle.jsx_plan.proofs.Folding.{later_specifier}
use Rattle.jsx_plan.proofs.Planning.{behind_pushed, behind_renamed, pen_pushed, pen_renamed, planned}
use Rattle.jsx_plan.proofs.printer.Printer.open_more_specifiers.Goals as goal

pub returns-in_ok-specifier-in-Some : goal.returns-in_ok-specifier-in-Some
returns-in_ok-specifier-in-Some c =
    let h = c.in-Some.ensures.lookup in
    let x = c.in-Some.specifier.now in
    let e = subst (λ ys. x ≡ get_or ys c.args.i x) c.deref.ensures.value h.1 in
    let l = subst (λ ys. c.args.i < length ys) c.deref.ensures.value h.3.0 in
    planned c.sign.result _ _ c.sign.ensures (rw (c.in_ok-specifier-in-Some.ensures, c.in_ok-more_specifiers-in-Some.ensures) (simp (behind_renamed, pen_renamed, behind_pushed, pen_pushed) (ap (behind (job_of c.args.self.now)) (sym (later_specifier (side_of c.args.side) c.args.xs.now.items c.args.i x (pen_of (job_of c.args.self.now)) l e)))))
