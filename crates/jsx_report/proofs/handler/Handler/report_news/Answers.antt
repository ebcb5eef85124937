use Rattle.std.proofs.Common.{◌≡◌, true, false, true≢false, [], ◌∷◌, sym}
use Rattle.jsx_diag.specs.Data.{report_of}
use Rattle.jsx_diag.specs.Level.{is_error_level}
use Rattle.jsx_report.specs.Books.{entered}
use Rattle.jsx_report.specs.Handler.{books_of}
use Rattle.jsx_report.proofs.Handed.{entered_after, refused_again, unknown}
use Rattle.jsx_report.proofs.handler.Handler.report_news.Goals as goal

pub returns-in-Ok-clause-hands : goal.returns-in-Ok-clause-hands
returns-in-Ok-clause-hands g c =
    entered_after g.E.Emitter.text g.E.Emitter.faults g.E.Emitter.explains g.E.Emitter.shows c.in-Ok.code (report_of c.args.report) (is_error_level c.args.report.level) c.args.self.now c.print_new.new.self c.enter.new.self c.enter.result c.in-Ok.ensures.hands c.enter.ensures.books c.enter.ensures.answer (record { same_flags = c.enter.ensures.flags; same_emitter = c.enter.ensures.emitter; same_will = c.enter.ensures.continues })

pub returns-in-Err-clause-hands : goal.returns-in-Err-clause-hands
returns-in-Err-clause-hands g c =
    let r = report_of c.args.report in
    refused_again g.E.Emitter.text g.E.Emitter.faults g.E.Emitter.explains g.E.Emitter.shows (false ≡ true) (λ (h : false ≡ true). true≢false (sym h)) c.in-Err.error (r ∷ []) (books_of c.args.self.now) (entered c.args.self.now.flags (books_of c.args.self.now) r) c.args.self.now c.print_new.new.self c.in-Err.ensures.answer c.in-Err.ensures.hands

pub enter-requires-clause-new : goal.enter-requires-clause-new
enter-requires-clause-new g c = unknown (books_of c.args.self.now) (books_of c.print_new.new.self) (report_of c.args.report) c.requires c.in-Ok.ensures.hands.booked
