use Rattle.std.proofs.Common.{◌≡◌, [], map, take, drop, append-nil, Result, Err, refl, sym, ap, subst, ◌∙◌}
use Rattle.std.proofs.lemmas.List.{take-append-drop, drop-map, length-map}
use Rattle.jsx_diag.specs.Data.{report_of}
use Rattle.jsx_report.specs.declared.error.HandlerError.{HandlerError}
use Rattle.jsx_report.specs.Handler.{UnlessRefused, books_of}
use Rattle.jsx_report.proofs.Ending.{some_left}
use Rattle.jsx_report.proofs.Waiting.{put_back, none_left, answer_all_waiting, first_waiting}
use Rattle.jsx_report.proofs.handler.Handler.report_delayed.Goals as goal

pub returns-in-Ok-clause-hands : goal.returns-in-Ok-clause-hands
returns-in-Ok-clause-hands g c =
    let rs = map report_of c.args.self.now.delayed.items in
    let taken : c.deref.result.now ≡ c.args.self.now.delayed.items = c.deref.ensures.value ∙ ap (λ v. v.items) c.replace-bugs.ensures.value in
    let none : map report_of c.replace-bugs.new.dest.items ≡ [] = ap (λ v. map report_of v.items) c.replace-bugs.ensures.after ∙ ap (map report_of) c.new-none.ensures.items in
    record {
      done = rs;
      rest = [];
      split = sym (append-nil rs);
      hands = none_left g.E.Emitter.text g.E.Emitter.faults g.E.Emitter.explains g.E.Emitter.shows rs c.args.self.now c.report_each.new.self c.replace-bugs.new.dest none (rw taken at c.in-Ok.ensures.hands);
      fine = sym (answer_all_waiting c.args.self.now.flags (map report_of c.replace-bugs.new.dest.items) (books_of c.args.self.now) rs) ∙ (rw taken at c.in-Ok.ensures.fine);
      stops = tt;
      answered = refl;
    }

pub returns-in-Ok-clause-answer : goal.returns-in-Ok-clause-answer
returns-in-Ok-clause-answer g c =
    let rs = map report_of c.args.self.now.delayed.items in
    let taken : c.deref.result.now ≡ c.args.self.now.delayed.items = c.deref.ensures.value ∙ ap (λ v. v.items) c.replace-bugs.ensures.value in
    (rw taken at c.in-Ok.ensures.answer) ∙ answer_all_waiting c.args.self.now.flags (map report_of c.replace-bugs.new.dest.items) (books_of c.args.self.now) rs

pub returns-in-Err-clause-hands : goal.returns-in-Err-clause-hands
returns-in-Err-clause-hands g c =
    let rs = map report_of c.args.self.now.delayed.items in
    let n = c.in-Err.stop.done in
    let taken : c.deref.result.now ≡ c.args.self.now.delayed.items = c.deref.ensures.value ∙ ap (λ v. v.items) c.replace-bugs.ensures.value in
    let put : map report_of c.drop_front.new.reports.items ≡ drop n rs = ap (map report_of) (c.drop_front.ensures ∙ ap (λ v. drop n v.items) c.replace-bugs.ensures.value) ∙ sym (drop-map report_of n c.args.self.now.delayed.items) in
    record {
      done = take n rs;
      rest = drop n rs;
      split = sym (take-append-drop n rs);
      hands = put_back g.E.Emitter.text g.E.Emitter.faults g.E.Emitter.explains g.E.Emitter.shows (take n rs) (drop n rs) c.args.self.now c.report_each.new.self c.replace-bugs.new.dest c.drop_front.new.reports (Err c.in-Err.stop.error) put (rw taken at c.in-Err.ensures.hands);
      fine = sym (answer_all_waiting c.args.self.now.flags (map report_of c.replace-bugs.new.dest.items) (books_of c.args.self.now) (take n rs)) ∙ (rw taken at c.in-Err.ensures.fine);
      stops = some_left n rs (rw (length-map c.args.self.now.delayed.items report_of) (rw taken at c.in-Err.ensures.within));
      answered = subst (λ (it : Result (Unit {0}) HandlerError). UnlessRefused {T = Unit {0}} (Err c.in-Err.stop.error) (Err c.in-Err.stop.error ≡ it)) (first_waiting c.args.self.now.flags (map report_of c.replace-bugs.new.dest.items) (books_of c.args.self.now) (take n rs) (drop n rs)) (rw taken at c.in-Err.ensures.answered);
    }

pub returns-in-Err-clause-answer : goal.returns-in-Err-clause-answer
returns-in-Err-clause-answer g c =
    let rs = map report_of c.args.self.now.delayed.items in
    let e = c.in-Err.stop.error in
    let taken : c.deref.result.now ≡ c.args.self.now.delayed.items = c.deref.ensures.value ∙ ap (λ v. v.items) c.replace-bugs.ensures.value in
    subst (λ (it : Result (Unit {0}) HandlerError). UnlessRefused {T = Unit {0}} (Err e) (Err e ≡ it)) (answer_all_waiting c.args.self.now.flags (map report_of c.replace-bugs.new.dest.items) (books_of c.args.self.now) rs) (rw taken at c.in-Err.ensures.answer)
