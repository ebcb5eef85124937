use Rattle.std.proofs.Common.{[], ◌∷◌, sym, ◌∙◌}
use Rattle.jsx_diag.specs.Data.{report_of}
use Rattle.jsx_diag.specs.Level.{is_error_level}
use Rattle.jsx_report.specs.Books.{entered, is_news}
use Rattle.jsx_report.specs.Handler.{books_of}
use Rattle.jsx_report.proofs.Handed.{as_news, news_answer, no_news}
use Rattle.jsx_report.proofs.handler.Handler.report.Goals as goal

pub returns-then-is_news-clause-reports : goal.returns-then-is_news-clause-reports
returns-then-is_news-clause-reports g c =
    let b = books_of c.args.self.now in
    let r = report_of c.args.report in
    as_news g.E.Emitter.text g.E.Emitter.faults g.E.Emitter.explains g.E.Emitter.shows (is_news b r) (r ∷ []) (entered c.args.self.now.flags b r) c.args.self.now c.report_news.new.self c.report_news.result (sym c.is_news.ensures ∙ c.if-is_news.true) c.report_news.ensures.hands

pub returns-then-is_news-clause-answer : goal.returns-then-is_news-clause-answer
returns-then-is_news-clause-answer g c =
    news_answer (is_news (books_of c.args.self.now) (report_of c.args.report)) (is_error_level c.args.report.level) c.args.self.now.flags.treat_err_as_bug c.report_news.result (sym c.is_news.ensures ∙ c.if-is_news.true) c.report_news.ensures.answer

pub returns-clause-reports : goal.returns-clause-reports
returns-clause-reports g c =
    let b = books_of c.args.self.now in
    let r = report_of c.args.report in
    no_news g.E.Emitter.text g.E.Emitter.faults g.E.Emitter.explains g.E.Emitter.shows (is_news b r) (r ∷ []) (entered c.args.self.now.flags b r) c.args.self.now (sym c.is_news.ensures ∙ c.if-is_news.false)
