use Rattle.std.proofs.Common.{◌≡◌, [], map, take, drop, append-nil, Result, Err, refl, sym, subst}
use Rattle.std.proofs.lemmas.List.{take-append-drop, length-map}
use Rattle.jsx_diag.specs.Data.{report_of}
use Rattle.jsx_report.specs.declared.error.HandlerError.{HandlerError}
use Rattle.jsx_report.specs.Handler.{UnlessRefused, books_of}
use Rattle.jsx_report.proofs.Ending.{answers_fine, some_left}
use Rattle.jsx_report.proofs.handler.Handler.report_closing.Goals as goal

pub returns-in-Err-clause-answer : goal.returns-in-Err-clause-answer
returns-in-Err-clause-answer g c =
    let e = c.in-Err.stop.error in
    subst (λ (it : Result (Unit {0}) HandlerError). UnlessRefused {T = Unit {0}} (Err e) (Err e ≡ it)) (answers_fine c.args.self.now.flags (books_of c.args.self.now) (map report_of c.args.reports.now) c.requires) c.in-Err.ensures.answer

pub returns-in-Ok-clause-hands : goal.returns-in-Ok-clause-hands
returns-in-Ok-clause-hands g c =
    let rs = map report_of c.args.reports.now in
    record {
      done = rs;
      rest = [];
      split = sym (append-nil rs);
      hands = c.in-Ok.ensures.hands;
      fine = answers_fine c.args.self.now.flags (books_of c.args.self.now) rs c.requires;
      stops = tt;
      answered = refl;
    }

pub returns-in-Err-clause-hands : goal.returns-in-Err-clause-hands
returns-in-Err-clause-hands g c =
    let rs = map report_of c.args.reports.now in
    let n = c.in-Err.stop.done in
    record {
      done = take n rs;
      rest = drop n rs;
      split = sym (take-append-drop n rs);
      hands = c.in-Err.ensures.hands;
      fine = answers_fine c.args.self.now.flags (books_of c.args.self.now) (take n rs) c.requires;
      stops = some_left n rs (rw (length-map c.args.reports.now report_of) c.in-Err.ensures.within);
      answered = c.in-Err.ensures.answered;
    }
