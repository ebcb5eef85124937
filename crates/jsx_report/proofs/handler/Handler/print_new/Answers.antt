use Rattle.std.proofs.Common.{◌≡◌, [], ◌∷◌, Result, Ok, Err}
use Rattle.jsx_diag.specs.Data.{report_of}
use Rattle.jsx_report.specs.declared.error.HandlerError.{HandlerError}
use Rattle.jsx_report.specs.Handler.{books_of}
use Rattle.jsx_report.proofs.Handed.{from_before, not_ok, refused_again, wanting}
use Rattle.jsx_report.proofs.handler.Handler.print_new.Goals as goal

pub returns-in_default-clause-hands : goal.returns-in_default-clause-hands
returns-in_default-clause-hands g c =
    wanting g.E.Emitter.text g.E.Emitter.faults g.E.Emitter.explains g.E.Emitter.shows (report_of c.args.report.now ∷ []) (books_of c.args.self.now) c.args.self.now c.ready_for.new.self c.ready_for.ensures.rest c.ready_for.ensures.same_books

pub returns-in-Err-clause-hands : goal.returns-in-Err-clause-hands
returns-in-Err-clause-hands g c =
    let e = c.in-Err.error in
    let rs = report_of c.args.report.now ∷ [] in
    let bad : Result (Unit {0}) HandlerError = Err e in
    let never = λ (h : bad ≡ Ok tt). not_ok e h in
    from_before g.E.Emitter.text g.E.Emitter.faults g.E.Emitter.explains g.E.Emitter.shows rs c.args.self.now c.ready_for.new.self c.print.new.self (Err e) c.ready_for.ensures.rest c.ready_for.ensures.same_books
    (refused_again g.E.Emitter.text g.E.Emitter.faults g.E.Emitter.explains g.E.Emitter.shows (bad ≡ Ok tt) never e rs (books_of c.ready_for.new.self) (books_of c.ready_for.new.self) c.ready_for.new.self c.print.new.self c.in-Err.ensures.answer c.in-Err.ensures.hands)
