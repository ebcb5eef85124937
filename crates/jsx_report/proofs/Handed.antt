-- What holds of a call that hands in a report, from what holds of its parts.
use Rattle.std.proofs.Common.{◌≡◌, ℕ, Bool, true, false, not, ◌&&◌, List, [], ◌∷◌, Option, Result, Ok, Err, refl, sym, ap, true≢false, ◌∙◌}
use Rattle.std.specs.Prelude.{if◌then◌else◌}
use Rattle.jsx_base.specs.Faults.{Rose}
use Rattle.jsx_diag.specs.declared.flags.HandlerFlags.{HandlerFlags}
use Rattle.jsx_diag.specs.Data.{Text, Report}
use Rattle.jsx_report.specs.declared.handler.Handler.{Handler}
use Rattle.jsx_report.specs.declared.error.HandlerError.{HandlerError}
use Rattle.jsx_report.specs.declared.error.HandlerError.TheVariants.{Emit, ExplicitBug, FatalError, Memory}
use Rattle.jsx_report.specs.declared.error.EmitError.TheVariants.{WriteFault, Memory as NoRoom}
use Rattle.jsx_report.specs.Emitter.{PrintsAll, PrintsFront}
use Rattle.jsx_report.specs.Books.{Books, entered, is_news, knows_report}
use Rattle.jsx_report.specs.Handler.{HandsIn, KeepsRest, KeepsSettings, OnFault, OnRefused, OnWant, UnlessRefused, answer_entered, books_of, emitter_of}
use Rattle.jsx_report.proofs.Ending.{settings_refl, settings_trans}

-- what holds of emitters, flags and reports holds of equal ones
pub carried : {E : Type 0} (P : E → HandlerFlags → List Report → E → Type 0) (e e' : E) (f f' : HandlerFlags) (rs rs' : List Report) (l l' : E) → e' ≡ e → f' ≡ f → rs' ≡ rs → l' ≡ l → P e' f' rs' l' → P e f rs l
carried P e e' f f' rs rs' l l' same_e same_f same_rs same_l h = rw (same_e, same_f, same_rs, same_l) at h

pub went_both : {T P Q R : Type 0} (result : Result T HandlerError) → (P → Q → R) → UnlessRefused result P → UnlessRefused result Q → UnlessRefused result R
went_both (Ok x) both p q = both p q
went_both (Err ExplicitBug) both p q = both p q
went_both (Err FatalError) both p q = both p q
went_both (Err (Emit e)) both p q = tt
went_both (Err Memory) both p q = tt

pub refused_both : {T P Q R : Type 0} (result : Result T HandlerError) → (P → Q → R) → OnRefused result P → OnRefused result Q → OnRefused result R
refused_both (Ok x) both p q = tt
refused_both (Err ExplicitBug) both p q = tt
refused_both (Err FatalError) both p q = tt
refused_both (Err (Emit e)) both p q = both p q
refused_both (Err Memory) both p q = both p q

second_not : (x y : Bool) → (not x && not y) ≡ true → y ≡ false
second_not x false h = refl
second_not true true h = absurd (true≢false (sym h))
second_not false true h = absurd (true≢false (sym h))

-- what is news isn't known
pub unknown : (b m : Books) (r : Report) → is_news b r ≡ true → m ≡ b → knows_report m.reports r ≡ false
unknown b m r new same = ap (λ (it : Books). knows_report it.reports r) same ∙ second_not _ (knows_report b.reports r) new

pub not_ok : {T E : Type 0} {x : T} (e : E) → Err e ≡ Ok x → ⊥
not_ok e h = cc

-- the answer to a report that is news
pub news_answer : (x y z : Bool) (result : Result (Unit {0}) HandlerError) → x ≡ true → UnlessRefused result (result ≡ (if y && z then Err ExplicitBug else Ok tt)) → UnlessRefused result (result ≡ (if x && y && z then Err ExplicitBug else Ok tt))
news_answer true y z result new h = h
news_answer false y z result new h = absurd (true≢false (sym new))

module _ {E : Type 0} (text : E → Option Text) (faults : E → ℕ) (explains : E → Bool) (shows : E → HandlerFlags → Report → Text → Type 0) where
  -- what changes nothing but books changes no settings
  pub kept_settings : (old new : Handler E) → KeepsRest old new → KeepsSettings text faults explains shows old new
  kept_settings old new same = record {
    same_flags = same.same_flags;
    same_will = same.same_will;
    same_explains = ap explains same.same_emitter;
    same_pages = rw same.same_emitter (settings_refl text faults explains shows old).same_pages;
    never_falls = rw same.same_emitter (settings_refl text faults explains shows old).never_falls;
  }

  -- memory was wanting
  pub wanting : {T : Type 0} (reports : List Report) (after : Books) (old new : Handler E) → KeepsRest old new → books_of new ≡ books_of old → HandsIn text faults explains shows {T = T} reports after old new (Err Memory)
  wanting reports after old new rest same = record { booked = tt; printed = tt; kept = same; asked = tt; cause = tt; prefix = tt; unprinted = ap text rest.same_emitter; settings = kept_settings old new rest }

  -- it was refused, whatever it would have answered else
  pub refused_again : {T U : Type 0} (P : Type 0) → (P → ⊥) → (e : HandlerError) (reports : List Report) (after other : Books) (old new : Handler E) → UnlessRefused {T = T} (Err e) P → HandsIn text faults explains shows {T = T} reports after old new (Err e) → HandsIn text faults explains shows {T = U} reports other old new (Err e)
  refused_again P never ExplicitBug reports after other old new went h = absurd (never went)
  refused_again P never FatalError reports after other old new went h = absurd (never went)
  refused_again P never (Emit WriteFault) reports after other old new went h = record { booked = tt; printed = tt; kept = h.kept; asked = h.asked; cause = h.cause; prefix = h.prefix; unprinted = tt; settings = h.settings }
  refused_again P never (Emit NoRoom) reports after other old new went h = record { booked = tt; printed = tt; kept = h.kept; asked = h.asked; cause = tt; prefix = tt; unprinted = h.unprinted; settings = h.settings }
  refused_again P never Memory reports after other old new went h = record { booked = tt; printed = tt; kept = h.kept; asked = tt; cause = tt; prefix = tt; unprinted = h.unprinted; settings = h.settings }

  -- a call before it changed neither books nor settings
  pub from_before : {T : Type 0} (reports : List Report) (old mid new : Handler E) (result : Result T HandlerError) → KeepsRest old mid → books_of mid ≡ books_of old → HandsIn text faults explains shows reports (books_of mid) mid new result → HandsIn text faults explains shows reports (books_of old) old new result
  from_before reports old mid new result before same h =
      let move = λ (P : E → HandlerFlags → List Report → E → Type 0). carried P (emitter_of old) (emitter_of mid) old.flags mid.flags reports reports (emitter_of new) (emitter_of new) before.same_emitter before.same_flags refl refl in
      record {
        booked = went_both result (λ (one : books_of new ≡ books_of mid) (two : books_of new ≡ books_of mid). one ∙ same) h.booked h.booked;
        printed = move (λ (e : E) (f : HandlerFlags) (rs : List Report) (l : E). UnlessRefused result (PrintsAll (shows e f) rs (text e) (text l))) h.printed;
        kept = refused_both result (λ (one : books_of new ≡ books_of mid) (two : books_of new ≡ books_of mid). one ∙ same) h.kept h.kept;
        asked = h.asked;
        cause = move (λ (e : E) (f : HandlerFlags) (rs : List Report) (l : E). OnFault result (Rose (faults e) (faults l))) h.cause;
        prefix = move (λ (e : E) (f : HandlerFlags) (rs : List Report) (l : E). OnFault result (PrintsFront (shows e f) rs (text e) (text l))) h.prefix;
        unprinted = move (λ (e : E) (f : HandlerFlags) (rs : List Report) (l : E). OnWant result (text l ≡ text e)) h.unprinted;
        settings = settings_trans text faults explains shows old mid new (kept_settings old mid before) h.settings;
      }

  went : (x : Bool) (reports : List Report) (after : Books) (old new : Handler E) → books_of new ≡ after → PrintsAll (shows (emitter_of old) old.flags) reports (text (emitter_of old)) (text (emitter_of new)) → KeepsSettings text faults explains shows old new → HandsIn text faults explains shows {T = Unit {0}} reports after old new (if x then Err ExplicitBug else Ok tt)
  went true reports after old new books pages settings = record { booked = books; printed = pages; kept = tt; asked = tt; cause = tt; prefix = tt; unprinted = tt; settings = settings }
  went false reports after old new books pages settings = record { booked = books; printed = pages; kept = tt; asked = tt; cause = tt; prefix = tt; unprinted = tt; settings = settings }

  -- it was printed, and then entered
  pub entered_after : {T : Type 0} (x : T) (r : Report) (is_error : Bool) (old mid new : Handler E) (result : Result (Unit {0}) HandlerError) → HandsIn text faults explains shows {T = T} (r ∷ []) (books_of old) old mid (Ok x) → books_of new ≡ entered mid.flags (books_of mid) r → result ≡ answer_entered mid.flags is_error → KeepsRest mid new → HandsIn text faults explains shows (r ∷ []) (entered old.flags (books_of old) r) old new result
  entered_after x r is_error old mid new result h books answer rest =
      let booked : books_of new ≡ entered old.flags (books_of old) r = books ∙ ap (λ (it : HandlerFlags). entered it (books_of mid) r) h.settings.same_flags ∙ ap (λ (it : Books). entered old.flags it r) h.booked in
      let pages : PrintsAll (shows (emitter_of old) old.flags) (r ∷ []) (text (emitter_of old)) (text (emitter_of new)) = rw rest.same_emitter h.printed in
      rw answer (went (is_error && mid.flags.treat_err_as_bug) (r ∷ []) (entered old.flags (books_of old) r) old new booked pages (settings_trans text faults explains shows old mid new h.settings (kept_settings mid new rest)))

  -- a report that is news was handed in
  pub as_news : {T : Type 0} (x : Bool) (reports : List Report) (after : Books) (old new : Handler E) (result : Result T HandlerError) → x ≡ true → HandsIn text faults explains shows reports after old new result → HandsIn text faults explains shows (if x then reports else []) (if x then after else books_of old) old new result
  as_news true reports after old new result is h = h
  as_news false reports after old new result is h = absurd (true≢false (sym is))

  -- a report that is none was handed in
  pub no_news : (x : Bool) (reports : List Report) (after : Books) (old : Handler E) → x ≡ false → HandsIn text faults explains shows {T = Unit {0}} (if x then reports else []) (if x then after else books_of old) old old (Ok tt)
  no_news true reports after old is = absurd (true≢false is)
  no_news false reports after old is = record { booked = refl; printed = refl; kept = tt; asked = tt; cause = tt; prefix = tt; unprinted = tt; settings = settings_refl text faults explains shows old }
