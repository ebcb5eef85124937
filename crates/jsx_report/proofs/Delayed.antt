-- A bug that waits is put into the books, handed in, and taken back where that is refused.
use Rattle.std.proofs.Common.{◌≡◌, ℕ, ◌-◌, Bool, true, not, List, [], ◌∷◌, ◌++◌, length, take, Option, Result, IsTrue, refl, sym, ap, ◌∙◌, arith}
use Rattle.std.specs.Prelude.{if◌then◌else◌}
use Rattle.std.proofs.lemmas.List.{length-append, take_at}
use Rattle.jsx_base.specs.Faults.{Rose}
use Rattle.jsx_diag.specs.declared.flags.HandlerFlags.{HandlerFlags}
use Rattle.jsx_diag.specs.Data.{Text, Report}
use Rattle.jsx_report.specs.declared.handler.Handler.{Handler}
use Rattle.jsx_report.specs.declared.error.HandlerError.{HandlerError}
use Rattle.jsx_report.specs.Emitter.{PrintsAll, PrintsFront, is_empty}
use Rattle.jsx_report.specs.Books.{Books, booked, delayed_after, delayed_news, news}
use Rattle.jsx_report.specs.Handler.{Delays, KeepsRest, OnEmit, OnFault, OnRefused, OnWant, UnlessRefused, Reports, answer_to, books_of, emitter_of}
use Rattle.jsx_report.specs.Ending.{waiting}
use Rattle.jsx_report.proofs.Ending.{settings_trans}
use Rattle.jsx_report.proofs.Handed.{carried, kept_settings, refused_both, went_both}
use Rattle.jsx_report.proofs.Waiting.{booked_waiting}

-- the books in which the report waits too
abbrev pub also_waiting : Books → Report → Books
also_waiting books report = waiting (books.delayed ++ report ∷ []) books

-- the books in which the last doesn't wait
abbrev one_fewer : Books → Books
one_fewer books = waiting (take (length books.delayed - 1) books.delayed) books

but_last : (rs : List Report) (r : Report) → take (length (rs ++ r ∷ []) - 1) (rs ++ r ∷ []) ≡ rs
but_last rs r =
    let n : length rs ≡ length (rs ++ r ∷ []) - 1 = omega (arith, length-append rs (r ∷ [])) in
    take_at rs (r ∷ []) (length (rs ++ r ∷ []) - 1) n

taken_back : (b m n l : Books) (r : Report) → m ≡ also_waiting b r → l ≡ one_fewer n → n ≡ m → l ≡ b
taken_back b m n l r put fewer kept = fewer ∙ ap one_fewer (kept ∙ put) ∙ ap (λ (it : List Report). waiting it b) (but_last b.delayed r)

then_first : {A : Type 0} (b : Bool) (x y : A) → b ≡ true → x ≡ (if b then x else y)
then_first b x y h = rw h refl

news_at_once : (f : HandlerFlags) (b m : Books) (r : Report) → f.report_delayed_bugs ≡ true → m ≡ also_waiting b r → news m r ≡ delayed_news f b r
news_at_once f b m r at_once put = ap (λ (it : Books). news it r) put ∙ then_first f.report_delayed_bugs (news b r) [] at_once

after_at_once : (f : HandlerFlags) (b : Books) (r : Report) → f.report_delayed_bugs ≡ true → waiting (b.delayed ++ r ∷ []) (booked f b r) ≡ delayed_after f b r
after_at_once f b r at_once = ap (waiting (b.delayed ++ r ∷ [])) (then_first f.report_delayed_bugs (booked f b r) b at_once)

books_at_once : (f g : HandlerFlags) (b m n : Books) (r : Report) → f.report_delayed_bugs ≡ true → g ≡ f → m ≡ also_waiting b r → n ≡ booked g m r → n ≡ delayed_after f b r
books_at_once f g b m n r at_once flags put went =
    went ∙ ap (λ (it : HandlerFlags). booked it m r) flags ∙ ap (λ (it : Books). booked f it r) put ∙ booked_waiting f (b.delayed ++ r ∷ []) b r ∙ after_at_once f b r at_once

-- that it waits too changes nothing of the answer
pub answer_waiting : (f g : HandlerFlags) (b m : Books) (r : Report) (result : Result (Unit {0}) HandlerError) → g ≡ f → m ≡ also_waiting b r → UnlessRefused result (result ≡ answer_to g m r) → UnlessRefused result (result ≡ answer_to f b r)
answer_waiting f g b m r result flags put answer = rw (ap (λ (it : HandlerFlags). answer_to it m r) flags ∙ ap (λ (it : Books). answer_to f it r) put) at answer

module _ {E : Type 0} (text : E → Option Text) (faults : E → ℕ) (explains : E → Bool) (shows : E → HandlerFlags → Report → Text → Type 0) where
  -- it was put into the books, handed in, and taken back where that was refused
  pub delays : {T : Type 0} (old mid new last : Handler E) (r : Report) (result : Result T HandlerError) → old.flags.report_delayed_bugs ≡ true → KeepsRest old mid → books_of mid ≡ also_waiting (books_of old) r → Reports text faults explains shows r mid new result → UnlessRefused result (last ≡ new) → OnRefused result (books_of last ≡ one_fewer (books_of new)) → KeepsRest new last → Delays text faults explains shows r old last result
  delays old mid new last r result at_once before put step went refused after =
      let only = news_at_once old.flags (books_of old) (books_of mid) r at_once put in
      let move = λ (P : E → HandlerFlags → List Report → E → Type 0). carried P (emitter_of old) (emitter_of mid) old.flags mid.flags (delayed_news old.flags (books_of old) r) (news (books_of mid) r) (emitter_of last) (emitter_of new) before.same_emitter before.same_flags only (sym after.same_emitter) in
      record {
        booked = went_both result (λ (same : last ≡ new) (books : books_of new ≡ booked mid.flags (books_of mid) r). ap books_of same ∙ books_at_once old.flags mid.flags (books_of old) (books_of mid) (books_of new) r at_once before.same_flags put books) went step.booked;
        printed = move (λ (e : E) (f : HandlerFlags) (rs : List Report) (l : E). UnlessRefused result (PrintsAll (shows e f) rs (text e) (text l))) step.printed;
        kept = refused_both result (λ (fewer : books_of last ≡ one_fewer (books_of new)) (kept : books_of new ≡ books_of mid). taken_back (books_of old) (books_of mid) (books_of new) (books_of last) r put fewer kept) refused step.kept;
        asked = move (λ (e : E) (f : HandlerFlags) (rs : List Report) (l : E). OnEmit result (IsTrue (not (is_empty rs)))) step.asked;
        cause = move (λ (e : E) (f : HandlerFlags) (rs : List Report) (l : E). OnFault result (Rose (faults e) (faults l))) step.cause;
        prefix = move (λ (e : E) (f : HandlerFlags) (rs : List Report) (l : E). OnFault result (PrintsFront (shows e f) rs (text e) (text l))) step.prefix;
        unprinted = move (λ (e : E) (f : HandlerFlags) (rs : List Report) (l : E). OnWant result (text l ≡ text e)) step.unprinted;
        settings = settings_trans text faults explains shows old mid last (kept_settings text faults explains shows old mid before) (settings_trans text faults explains shows mid new last step.settings (kept_settings text faults explains shows new last after));
      }
