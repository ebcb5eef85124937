-- One report after another.
use Rattle.std.proofs.Common.{◌≡◌, ℕ, zero, ◌≤◌, Bool, true, false, not, ◌&&◌, List, [], ◌∷◌, ◌++◌, Option, Result, Ok, Err, IsTrue, refl, sym, ap, subst, true≢false, ◌∙◌, append_assoc, append-nil, suc, ◌+◌, ◌<◌, map, length, take, drop, get_or, take-suc, drop-cons, add-one, arith}
use Rattle.std.specs.Prelude.{if◌then◌else◌}
use Rattle.std.proofs.lemmas.List.{get_or-map, length-map}
use Rattle.jsx_base.specs.Faults.{Rose}
use Rattle.jsx_diag.specs.declared.flags.HandlerFlags.{HandlerFlags}
use Rattle.jsx_diag.specs.Level.{is_error_level}
use Rattle.jsx_diag.specs.Data.{Text, Report}
use Rattle.jsx_report.specs.declared.handler.Handler.{Handler}
use Rattle.jsx_report.specs.declared.error.EmitError.TheVariants.{WriteFault, Memory as NoRoom}
use Rattle.jsx_report.specs.declared.error.HandlerError.{HandlerError}
use Rattle.jsx_report.specs.declared.error.HandlerError.TheVariants.{Emit, ExplicitBug, FatalError, Memory}
use Rattle.jsx_report.specs.Emitter.{PrintsPrefix, PrintsAll, PrintsFront, ShowAlike, is_empty}
use Rattle.jsx_report.specs.Books.{Books, is_news, booked, news, booked_all, news_all}
use Rattle.jsx_report.specs.Handler.{KeepsSettings, UnlessRefused, Reports, answer_to, books_of, emitter_of}
use Rattle.jsx_report.specs.Ending.{HandsSome, and_then, answer_all}

pub booked_all-append : (f : HandlerFlags) (b : Books) (rs ss : List Report) → booked_all f b (rs ++ ss) ≡ booked_all f (booked_all f b rs) ss
booked_all-append f b [] ss = refl
booked_all-append f b (r ∷ rs) ss = booked_all-append f (booked f b r) rs ss

pub news_all-append : (f : HandlerFlags) (b : Books) (rs ss : List Report) → news_all f b (rs ++ ss) ≡ news_all f b rs ++ news_all f (booked_all f b rs) ss
news_all-append f b [] ss = refl
news_all-append f b (r ∷ rs) ss = ap (λ (x : List Report). news b r ++ x) (news_all-append f (booked f b r) rs ss) ∙ sym (append_assoc (news b r) (news_all f (booked f b r) rs) (news_all f (booked_all f (booked f b r) rs) ss))

pub prints-append : (P : Report → Text → Type 0) (rs ss : List Report) (a b c : Option Text) → PrintsAll P rs a b → PrintsAll P ss b c → PrintsAll P (rs ++ ss) a c
prints-append P [] ss a b c first second = subst (λ (x : Option Text). PrintsAll P ss x c) first second
prints-append P (r ∷ rs) ss a b c first second = (first.0, first.1, prints-append P rs ss first.0 b c first.2 second)

prints_alike : (P Q : Report → Text → Type 0) → ((r : Report) (page : Text) → Q r page → P r page) → (rs : List Report) (a b : Option Text) → PrintsAll Q rs a b → PrintsAll P rs a b
prints_alike P Q turn [] a b h = h
prints_alike P Q turn (r ∷ rs) a b h = (h.0, record { page = h.1.page; shown = turn r h.1.page h.1.shown; gained = h.1.gained }, prints_alike P Q turn rs h.0 b h.2)

-- the books after one report more
step_books : (f g : HandlerFlags) (b m n : Books) (done : List Report) (r : Report) → g ≡ f → m ≡ booked_all f b done → n ≡ booked g m r → n ≡ booked_all f b (done ++ r ∷ [])
step_books f g b m n done r flags before step = step ∙ rw (flags, before) (sym (booked_all-append f b done (r ∷ [])))

-- the text after one report more
step_prints : (P Q : HandlerFlags → Report → Text → Type 0) (f g : HandlerFlags) (b m : Books) (done : List Report) (r : Report) (x y z : Option Text) → ShowAlike P Q → g ≡ f → m ≡ booked_all f b done → PrintsAll (P f) (news_all f b done) x y → PrintsAll (Q g) (news m r) y z → PrintsAll (P f) (news_all f b (done ++ r ∷ [])) x z
step_prints P Q f g b m done r x y z alike flags before first second =
    let now : PrintsAll (Q f) (news m r) y z = subst (λ (it : HandlerFlags). PrintsAll (Q it) (news m r) y z) flags second in
    let here : PrintsAll (Q f) (news (booked_all f b done) r) y z = subst (λ (it : Books). PrintsAll (Q f) (news it r) y z) before now in
    let whole = prints-append (P f) (news_all f b done) (news (booked_all f b done) r) x y z first (prints_alike (P f) (Q f) (alike.from f) (news (booked_all f b done) r) y z here) in
    subst (λ (it : List Report). PrintsAll (P f) it x z) (ap (λ (it : List Report). news_all f b done ++ it) (sym (append-nil (news (booked_all f b done) r))) ∙ sym (news_all-append f b done (r ∷ []))) whole

then_ok : (x next : Result (Unit {0}) HandlerError) → and_then x next ≡ Ok tt → (x ≡ Ok tt) × (next ≡ Ok tt)
then_ok (Ok t) next h = (refl, h)
then_ok (Err e) next h = cc

then_end : (x : Result (Unit {0}) HandlerError) → and_then x (Ok tt) ≡ x
then_end (Ok t) = refl
then_end (Err e) = refl

answers-append : (f : HandlerFlags) (b : Books) (rs ss : List Report) → answer_all f b rs ≡ Ok tt → answer_all f b (rs ++ ss) ≡ answer_all f (booked_all f b rs) ss
answers-append f b [] ss h = refl
answers-append f b (r ∷ rs) ss h =
    let p = then_ok (answer_to f b r) (answer_all f (booked f b r) rs) h in
    ap (λ (x : Result (Unit {0}) HandlerError). and_then x (answer_all f (booked f b r) (rs ++ ss))) p.0 ∙ answers-append f (booked f b r) rs ss p.1

-- the answer after one report more
pub answers_step : (f g : HandlerFlags) (b m : Books) (done : List Report) (r : Report) → g ≡ f → m ≡ booked_all f b done → answer_all f b done ≡ Ok tt → Ok tt ≡ answer_to g m r → answer_all f b (done ++ r ∷ []) ≡ Ok tt
answers_step f g b m done r flags before went step =
    answers-append f b done (r ∷ []) went ∙ then_end (answer_to f (booked_all f b done) r) ∙ sym (step ∙ ap (λ (x : HandlerFlags). answer_to x m r) flags ∙ ap (λ (x : Books). answer_to f x r) before)

answers_end : (e : HandlerError) (f g : HandlerFlags) (b m : Books) (done : List Report) (r : Report) (later : List Report) → g ≡ f → m ≡ booked_all f b done → answer_all f b done ≡ Ok tt → Err e ≡ answer_to g m r → Err e ≡ answer_all f b (done ++ r ∷ later)
answers_end e f g b m done r later flags before went step =
    let here : answer_to f (booked_all f b done) r ≡ Err e = sym (step ∙ ap (λ (x : HandlerFlags). answer_to x m r) flags ∙ ap (λ (x : Books). answer_to f x r) before) in
    sym (answers-append f b done (r ∷ later) went ∙ ap (λ (x : Result (Unit {0}) HandlerError). and_then x (answer_all f (booked f (booked_all f b done) r) later)) here)

-- the answer, where the next report ended it
pub answer_ended : (e : HandlerError) (f g : HandlerFlags) (b m : Books) (done : List Report) (r : Report) (later : List Report) → g ≡ f → m ≡ booked_all f b done → answer_all f b done ≡ Ok tt → UnlessRefused {T = Unit {0}} (Err e) (Err e ≡ answer_to g m r) → UnlessRefused {T = Unit {0}} (Err e) (Err e ≡ answer_all f b (done ++ r ∷ later))
answer_ended ExplicitBug f g b m done r later flags before went step = answers_end ExplicitBug f g b m done r later flags before went step
answer_ended FatalError f g b m done r later flags before went step = answers_end FatalError f g b m done r later flags before went step
answer_ended (Emit e) f g b m done r later flags before went step = tt
answer_ended Memory f g b m done r later flags before went step = tt

first_answers : (e : HandlerError) (f g : HandlerFlags) (b m : Books) (done : List Report) (r : Report) → g ≡ f → m ≡ booked_all f b done → Err e ≡ answer_to g m r → Err e ≡ answer_all f (booked_all f b done) (r ∷ [])
first_answers e f g b m done r flags before step =
    step ∙ ap (λ (x : HandlerFlags). answer_to x m r) flags ∙ ap (λ (x : Books). answer_to f x r) before ∙ sym (then_end (answer_to f (booked_all f b done) r))

-- the answer is that of the report which ended it
pub answer_first : (e : HandlerError) (f g : HandlerFlags) (b m : Books) (done : List Report) (r : Report) → g ≡ f → m ≡ booked_all f b done → UnlessRefused {T = Unit {0}} (Err e) (Err e ≡ answer_to g m r) → UnlessRefused {T = Unit {0}} (Err e) (Err e ≡ answer_all f (booked_all f b done) (r ∷ []))
answer_first ExplicitBug f g b m done r flags before step = first_answers ExplicitBug f g b m done r flags before step
answer_first FatalError f g b m done r flags before step = first_answers FatalError f g b m done r flags before step
answer_first (Emit e) f g b m done r flags before step = tt
answer_first Memory f g b m done r flags before step = tt

-- fewer than all leave some
pub some_left : (n : ℕ) (rs : List Report) → n < length rs → IsTrue (not (is_empty (drop n rs)))
some_left n [] h = absurd (omega (arith, h))
some_left zero (r ∷ rs) h = refl
some_left (suc n) (r ∷ rs) h = some_left n rs (omega (arith, h))

no_bug : (x t : Bool) → t ≡ false → (if◌then◌else◌ {A = Result (Unit {0}) HandlerError} (x && t) (Err ExplicitBug) (Ok tt)) ≡ Ok tt
no_bug true t h = rw h refl
no_bug false t h = refl

-- where errors aren't bugs, nothing ends it but a refusal
pub answers_fine : (f : HandlerFlags) (b : Books) (rs : List Report) → f.treat_err_as_bug ≡ false → answer_all f b rs ≡ Ok tt
answers_fine f b [] h = refl
answers_fine f b (r ∷ rs) h =
    ap (λ (x : Result (Unit {0}) HandlerError). and_then x (answer_all f (booked f b r) rs)) (no_bug (is_news b r && is_error_level r.level) f.treat_err_as_bug h) ∙ answers_fine f (booked f b r) rs h

-- the next report, where it is the i-th
mapped_at : {X Y : Type 0} (f : X → Y) (xs : List X) (i : ℕ) (x : X) → i < length xs → x ≡ get_or xs i x → get_or (map f xs) i (f x) ≡ f x
mapped_at f xs i x h e = get_or-map f xs i x (f x) h ∙ ap f (sym e)

pub take_next : {X Y : Type 0} (f : X → Y) (xs : List X) (i : ℕ) (x : X) → i < length xs → x ≡ get_or xs i x → take (i + 1) (map f xs) ≡ take i (map f xs) ++ f x ∷ []
take_next f xs i x h e = rw add-one (take-suc (map f xs) i (f x) (rw (length-map xs f) h) ∙ ap (λ y. take i (map f xs) ++ y ∷ []) (mapped_at f xs i x h e))

pub drop_here : {X Y : Type 0} (f : X → Y) (xs : List X) (i : ℕ) (x : X) → i < length xs → x ≡ get_or xs i x → drop i (map f xs) ≡ f x ∷ drop (suc i) (map f xs)
drop_here f xs i x h e = drop-cons (map f xs) i (f x) (rw (length-map xs f) h) ∙ ap (λ y. y ∷ drop (suc i) (map f xs)) (mapped_at f xs i x h e)

one_if : (b : Bool) (r : Report) → IsTrue (not (is_empty (if b then r ∷ [] else []))) → (if b then r ∷ [] else []) ≡ r ∷ []
one_if true r h = refl
one_if false r h = absurd (true≢false (sym h))

pub ShowAlike_refl : (P : HandlerFlags → Report → Text → Type 0) → ShowAlike P P
ShowAlike_refl P = record { to = λ f r page h. h; from = λ f r page h. h }

pub ShowAlike_trans : (P Q R : HandlerFlags → Report → Text → Type 0) → ShowAlike P Q → ShowAlike Q R → ShowAlike P R
ShowAlike_trans P Q R one two = record { to = λ f r page h. two.to f r page (one.to f r page h); from = λ f r page h. one.from f r page (two.from f r page h) }

module _ {E : Type 0} (text : E → Option Text) (faults : E → ℕ) (explains : E → Bool) (shows : E → HandlerFlags → Report → Text → Type 0) where
  pub settings_refl : (h : Handler E) → KeepsSettings text faults explains shows h h
  settings_refl h = record { same_flags = refl; same_will = refl; same_explains = refl; same_pages = ShowAlike_refl (shows (emitter_of h)); never_falls = omega arith }

  pub settings_trans : (a b c : Handler E) → KeepsSettings text faults explains shows a b → KeepsSettings text faults explains shows b c → KeepsSettings text faults explains shows a c
  settings_trans a b c one two =
      let low : faults (emitter_of a) ≤ faults (emitter_of b) = one.never_falls in
      let high : faults (emitter_of b) ≤ faults (emitter_of c) = two.never_falls in
      record {
        same_flags = two.same_flags ∙ one.same_flags;
        same_will = two.same_will ∙ one.same_will;
        same_explains = two.same_explains ∙ one.same_explains;
        same_pages = ShowAlike_trans (shows (emitter_of a)) (shows (emitter_of b)) (shows (emitter_of c)) one.same_pages two.same_pages;
        never_falls = omega arith;
      }

  -- nothing was handed in yet
  pub none_yet : (h : Handler E) → HandsSome text faults explains shows {T = Unit {0}} (λ b. b) [] [] h h (Ok tt)
  none_yet h = record { whole = refl; booked = refl; between = text (emitter_of h); printed = refl; quiet = refl; prefix = tt; cause = tt; asked = tt; settings = settings_refl h }

  -- one report more went well
  pub one_more_went : (done : List Report) (r : Report) (old mid new : Handler E) → HandsSome text faults explains shows {T = Unit {0}} (λ b. b) done [] old mid (Ok tt) → Reports text faults explains shows {T = Unit {0}} r mid new (Ok tt) → HandsSome text faults explains shows {T = Unit {0}} (λ b. b) (done ++ r ∷ []) [] old new (Ok tt)
  one_more_went done r old mid new before step = record {
    whole = refl;
    booked = step_books old.flags mid.flags (books_of old) (books_of mid) (books_of new) done r before.settings.same_flags before.booked step.booked;
    between = text (emitter_of new);
    printed = step_prints (shows (emitter_of old)) (shows (emitter_of mid)) old.flags mid.flags (books_of old) (books_of mid) done r (text (emitter_of old)) before.between (text (emitter_of new)) before.settings.same_pages before.settings.same_flags before.booked before.printed (subst (λ (t : Option Text). PrintsAll (shows (emitter_of mid) mid.flags) (news (books_of mid) r) t (text (emitter_of new))) before.quiet step.printed);
    quiet = refl;
    prefix = tt;
    cause = tt;
    asked = tt;
    settings = settings_trans old mid new before.settings step.settings;
  }

  -- the next report shows a bug
  bug_ended : (e : HandlerError) (done : List Report) (r : Report) (later : List Report) (old mid new : Handler E) → HandsSome text faults explains shows {T = Unit {0}} (λ b. b) done [] old mid (Ok tt) → (books_of new ≡ booked mid.flags (books_of mid) r) → PrintsAll (shows (emitter_of mid) mid.flags) (news (books_of mid) r) (text (emitter_of mid)) (text (emitter_of new)) → (books_of new ≡ booked_all old.flags (books_of old) (done ++ r ∷ [])) × PrintsAll (shows (emitter_of old) old.flags) (news_all old.flags (books_of old) (done ++ r ∷ [])) (text (emitter_of old)) (text (emitter_of new))
  bug_ended e done r later old mid new before books pages = (
    step_books old.flags mid.flags (books_of old) (books_of mid) (books_of new) done r before.settings.same_flags before.booked books,
    step_prints (shows (emitter_of old)) (shows (emitter_of mid)) old.flags mid.flags (books_of old) (books_of mid) done r (text (emitter_of old)) before.between (text (emitter_of new)) before.settings.same_pages before.settings.same_flags before.booked before.printed (subst (λ (t : Option Text). PrintsAll (shows (emitter_of mid) mid.flags) (news (books_of mid) r) t (text (emitter_of new))) before.quiet pages),
  )

  -- the emitter was asked for the next report
  asked_at : (done : List Report) (r : Report) (f : HandlerFlags) (b m : Books) → m ≡ booked_all f b done → IsTrue (not (is_empty (news m r))) → IsTrue (not (is_empty (news_all f (booked_all f b done) (r ∷ []))))
  asked_at done r f b m before asked = subst (λ (it : List Report). IsTrue (not (is_empty it))) (ap (λ (it : Books). news it r) before ∙ sym (append-nil (news (booked_all f b done) r))) asked

  -- the front of a page of the next report
  front_at : (P Q : HandlerFlags → Report → Text → Type 0) (f g : HandlerFlags) (m : Books) (r : Report) (later : List Report) (x y z : Option Text) → ShowAlike P Q → g ≡ f → y ≡ x → IsTrue (not (is_empty (news m r))) → PrintsFront (Q g) (news m r) y z → PrintsFront (P f) (r ∷ later) x z
  front_at P Q f g m r later x y z alike flags quiet asked front =
      let only = one_if (is_news m r) r asked in
      let one : PrintsPrefix (Q g) r y z = subst (λ (it : List Report). PrintsFront (Q g) it y z) only front in
      let here : PrintsPrefix (Q g) r x z = subst (λ (t : Option Text). PrintsPrefix (Q g) r t z) quiet one in
      let now : PrintsPrefix (Q f) r x z = subst (λ (it : HandlerFlags). PrintsPrefix (Q it) r x z) flags here in
      record { page = now.page; shown = alike.from f r now.page now.shown; gained = now.gained }

  -- the next report ended it
  pub ended : (e : HandlerError) (done : List Report) (r : Report) (later : List Report) (old mid new : Handler E) → HandsSome text faults explains shows {T = Unit {0}} (λ b. b) done [] old mid (Ok tt) → Reports text faults explains shows {T = Unit {0}} r mid new (Err e) → HandsSome text faults explains shows {T = Unit {0}} (λ b. b) done (r ∷ later) old new (Err e)
  ended ExplicitBug done r later old mid new before step =
      let both = bug_ended ExplicitBug done r later old mid new before step.booked step.printed in
      record { whole = tt; booked = both.0; between = text (emitter_of new); printed = both.1; quiet = refl; prefix = tt; cause = tt; asked = tt; settings = settings_trans old mid new before.settings step.settings }
  ended FatalError done r later old mid new before step =
      let both = bug_ended FatalError done r later old mid new before step.booked step.printed in
      record { whole = tt; booked = both.0; between = text (emitter_of new); printed = both.1; quiet = refl; prefix = tt; cause = tt; asked = tt; settings = settings_trans old mid new before.settings step.settings }
  ended (Emit WriteFault) done r later old mid new before step =
      let low : faults (emitter_of old) ≤ faults (emitter_of mid) = before.settings.never_falls in
      let rose : Rose (faults (emitter_of mid)) (faults (emitter_of new)) = step.cause in
      record {
        whole = tt;
        booked = step.kept ∙ before.booked;
        between = before.between;
        printed = before.printed;
        quiet = tt;
        prefix = front_at (shows (emitter_of old)) (shows (emitter_of mid)) old.flags mid.flags (books_of mid) r later before.between (text (emitter_of mid)) (text (emitter_of new)) before.settings.same_pages before.settings.same_flags before.quiet step.asked step.prefix;
        cause = grind (arith, low, rose);
        asked = asked_at done r old.flags (books_of old) (books_of mid) before.booked step.asked;
        settings = settings_trans old mid new before.settings step.settings;
      }
  ended (Emit NoRoom) done r later old mid new before step =
      record { whole = tt; booked = step.kept ∙ before.booked; between = before.between; printed = before.printed; quiet = step.unprinted ∙ before.quiet; prefix = tt; cause = tt; asked = asked_at done r old.flags (books_of old) (books_of mid) before.booked step.asked; settings = settings_trans old mid new before.settings step.settings }
  ended Memory done r later old mid new before step =
      record { whole = tt; booked = step.kept ∙ before.booked; between = before.between; printed = before.printed; quiet = step.unprinted ∙ before.quiet; prefix = tt; cause = tt; asked = tt; settings = settings_trans old mid new before.settings step.settings }
