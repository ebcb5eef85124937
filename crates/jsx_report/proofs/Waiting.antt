-- Which bugs wait changes nothing of what is entered and printed.
use Rattle.std.proofs.Common.{◌≡◌, ℕ, Bool, true, false, not, List, [], ◌∷◌, ◌++◌, map, Option, Result, Ok, IsTrue, refl, ap, subst, ◌∙◌}
use Rattle.std.specs.Prelude.{if◌then◌else◌, Vec}
use Rattle.std.specs.declared.alloc.Global.{Global}
use Rattle.jsx_diag.specs.declared.flags.HandlerFlags.{HandlerFlags}
use Rattle.jsx_diag.specs.declared.diagnostic.Diagnostic.{Diagnostic}
use Rattle.jsx_diag.specs.Data.{Text, Report, report_of}
use Rattle.jsx_report.specs.declared.handler.Handler.{Handler}
use Rattle.jsx_report.specs.declared.error.HandlerError.{HandlerError}
use Rattle.jsx_report.specs.Emitter.{PrintsAll, is_empty}
use Rattle.jsx_report.specs.Books.{Books, is_news, entered, booked, news, booked_all, news_all}
use Rattle.jsx_report.specs.Handler.{OnEmit, answer_to, books_of, emitter_of}
use Rattle.jsx_report.specs.Ending.{HandsSome, and_then, answer_all, first_of, entered_reports, waiting}

waiting_if : (b : Bool) (x : List Report) (m n : Books) → (if b then waiting x m else waiting x n) ≡ waiting x (if b then m else n)
waiting_if true x m n = refl
waiting_if false x m n = refl

pub booked_waiting : (f : HandlerFlags) (x : List Report) (b : Books) (r : Report) → booked f (waiting x b) r ≡ waiting x (booked f b r)
booked_waiting f x b r = waiting_if (is_news b r) x (entered f b r) b

pub booked_all_waiting : (f : HandlerFlags) (x : List Report) (b : Books) (rs : List Report) → booked_all f (waiting x b) rs ≡ waiting x (booked_all f b rs)
booked_all_waiting f x b [] = refl
booked_all_waiting f x b (r ∷ rs) = ap (λ (it : Books). booked_all f it rs) (booked_waiting f x b r) ∙ booked_all_waiting f x (booked f b r) rs

pub news_all_waiting : (f : HandlerFlags) (x : List Report) (b : Books) (rs : List Report) → news_all f (waiting x b) rs ≡ news_all f b rs
news_all_waiting f x b [] = refl
news_all_waiting f x b (r ∷ rs) = ap (λ (it : List Report). news b r ++ it) (ap (λ (it : Books). news_all f it rs) (booked_waiting f x b r) ∙ news_all_waiting f x (booked f b r) rs)

pub answer_all_waiting : (f : HandlerFlags) (x : List Report) (b : Books) (rs : List Report) → answer_all f (waiting x b) rs ≡ answer_all f b rs
answer_all_waiting f x b [] = refl
answer_all_waiting f x b (r ∷ rs) = ap (λ (it : Result (Unit {0}) HandlerError). and_then (answer_to f b r) it) (ap (λ (it : Books). answer_all f it rs) (booked_waiting f x b r) ∙ answer_all_waiting f x (booked f b r) rs)

pub first_waiting : (f : HandlerFlags) (x : List Report) (b : Books) (done rest : List Report) → answer_all f (booked_all f (waiting x b) done) (first_of rest) ≡ answer_all f (booked_all f b done) (first_of rest)
first_waiting f x b done rest = ap (λ (it : Books). answer_all f it (first_of rest)) (booked_all_waiting f x b done) ∙ answer_all_waiting f x (booked_all f b done) (first_of rest)

module _ {E : Type 0} (text : E → Option Text) (faults : E → ℕ) (explains : E → Bool) (shows : E → HandlerFlags → Report → Text → Type 0) where
  -- the bugs that waited are taken out, handed in, and the rest is put back
  pub put_back : {T : Type 0} (done rest : List Report) (old mid : Handler E) (x y : Vec Diagnostic Global) (result : Result T HandlerError) → map report_of y.items ≡ rest → HandsSome text faults explains shows (λ b. b) done rest (record old { delayed = x }) mid result → HandsSome text faults explains shows (waiting rest) done rest old (record mid { delayed = y }) result
  put_back done rest old mid x y result put h =
      let b = books_of old in
      let taken = map report_of x.items in
      let went = entered_reports result done rest in
      record {
        whole = h.whole;
        booked = ap (λ (d : List Report). waiting d (books_of mid)) put ∙ ap (λ (it : Books). waiting rest it) (h.booked ∙ booked_all_waiting old.flags taken b went);
        between = h.between;
        printed = subst (λ (it : List Report). PrintsAll (shows (emitter_of old) old.flags) it (text (emitter_of old)) h.between) (news_all_waiting old.flags taken b went) h.printed;
        quiet = h.quiet;
        prefix = h.prefix;
        cause = h.cause;
        asked = subst (λ (it : List Report). OnEmit result (IsTrue (not (is_empty it)))) (ap (λ (it : Books). news_all old.flags it (first_of rest)) (booked_all_waiting old.flags taken b done) ∙ news_all_waiting old.flags taken (booked_all old.flags b done) (first_of rest)) h.asked;
        settings = record {
          same_flags = h.settings.same_flags;
          same_will = h.settings.same_will;
          same_explains = h.settings.same_explains;
          same_pages = h.settings.same_pages;
          never_falls = h.settings.never_falls;
        };
      }

  -- none is left
  pub none_left : (done : List Report) (old mid : Handler E) (x : Vec Diagnostic Global) → map report_of x.items ≡ [] → HandsSome text faults explains shows {T = Unit {0}} (λ b. b) done [] (record old { delayed = x }) mid (Ok tt) → HandsSome text faults explains shows {T = Unit {0}} (waiting []) done [] old mid (Ok tt)
  none_left done old mid x none h =
      put_back done [] old mid x mid.delayed (Ok tt) (ap (λ (it : Books). it.delayed) (h.booked ∙ booked_all_waiting old.flags (map report_of x.items) (books_of old) done) ∙ none) h
