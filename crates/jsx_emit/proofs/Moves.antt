-- Spans that are shown in place of those of macros.
use Rattle.std.proofs.Common.{◌≡◌, ℕ, zero, suc, ◌+◌, ◌<◌, ◌≤◌, Bool, true, false, not, ◌&&◌, ◌||◌, cond, nat_eq, List, [], ◌∷◌, ◌++◌, Option, Some, None, map, take, drop, length, get_or, set, refl, ap, sym, ◌∙◌, arith}
use Rattle.std.specs.List.{list_any}
use Rattle.std.specs.Option.{option_map}
use Rattle.std.proofs.lemmas.Bool.Decides.{nat_tests}
use Rattle.std.proofs.lemmas.List.{append-nil, drop_all, length-map, take_all}
use Rattle.std.proofs.Math.Seq.{drop-cons}
use Rattle.jsx_base.specs.declared.place.Span.{Span}
use Rattle.jsx_base.specs.declared.multi_span.MultiSpan.{MultiSpan}
use Rattle.jsx_base.specs.MultiSpan.{Spans, is_span, replaced, replaced_label, spans_of}
use Rattle.jsx_diag.specs.declared.sub_diagnostic.SubDiagnostic.{SubDiagnostic}
use Rattle.jsx_diag.specs.Data.{Child, Report, Text, child_of, piece_of}
use Rattle.jsx_emit.specs.Shows.{Map}
use Rattle.jsx_emit.specs.Texts.{MovesNone, MovesNoneOf, SameIf, called_note, called_over, called_spans, called_with_note, macro_note, moves, note_moves, put_call, put_calls, report_moves, some_move}

-- ---- one after another

left_at : {X : Type 0} (xs : List X) (i : ℕ) (x : X) → i < length xs → x ≡ get_or xs i x → drop i xs ≡ x ∷ drop (i + 1) xs
left_at xs i x within at =
    drop-cons xs i x within ∙ ap (λ z. z ∷ drop (suc i) xs) (sym at) ∙ ap (λ k. x ∷ drop k xs) (let e : suc i ≡ i + 1 = omega arith in e)

either : (a b c : Bool) → ((a || b) || c) ≡ (a || (b || c))
either true b c = refl
either false b c = refl

or_none : (a : Bool) → (a || false) ≡ a
or_none true = refl
or_none false = refl

-- whether one of the first was found, or one is left to find
pub found_next : {X : Type 0} (p : X → Bool) (xs : List X) (i : ℕ) (x : X) (found now all : Bool) → i < length xs → x ≡ get_or xs i x → now ≡ p x → (found || list_any p (drop i xs)) ≡ all → ((found || now) || list_any p (drop (i + 1) xs)) ≡ all
found_next p xs i x found now all within at is before =
    either found now (list_any p (drop (i + 1) xs))
    ∙ ap (λ b. found || (b || list_any p (drop (i + 1) xs))) is
    ∙ sym (ap (λ z. found || list_any p z) (left_at xs i x within at))
    ∙ before

pub found_all : {X : Type 0} (p : X → Bool) (xs : List X) (i : ℕ) (found all : Bool) → length xs ≤ i → (found || list_any p (drop i xs)) ≡ all → found ≡ all
found_all p xs i found all past before = sym (or_none found) ∙ sym (ap (λ z. found || list_any p z) (drop_all i xs past)) ∙ before

pub calls_next : (call : Span → Span) (xs : List Span) (i : ℕ) (sp : Span) (now new all : Spans) → i < length xs → sp ≡ get_or xs i sp → new ≡ put_call call sp now → put_calls call (drop i xs) now ≡ all → put_calls call (drop (i + 1) xs) new ≡ all
calls_next call xs i sp now new all within at is before =
    ap (put_calls call (drop (i + 1) xs)) is ∙ sym (ap (λ z. put_calls call z now) (left_at xs i sp within at)) ∙ before

pub calls_all : (call : Span → Span) (xs : List Span) (i : ℕ) (now all : Spans) → length xs ≤ i → put_calls call (drop i xs) now ≡ all → now ≡ all
calls_all call xs i now all past before = sym (ap (λ z. put_calls call z now) (drop_all i xs past)) ∙ before

-- the first are changed, and the others as they were
pub changed_next : {X Y : Type 0} (f : X → Y) (g : Y → Y) (olds : List Y) (xs : List X) (i : ℕ) (x d : X) → i < length xs → map f xs ≡ take i (map g olds) ++ drop i olds → f x ≡ g (f (get_or xs i d)) → map f (set xs i x) ≡ take (i + 1) (map g olds) ++ drop (i + 1) olds
changed_next f g olds [] i x d within are is = absurd (omega arith)
changed_next f g [] (y ∷ ys) zero x d within are is = cc
changed_next f g (o ∷ os) (y ∷ ys) zero x d within are is =
    let here : f y ≡ o = cc in
    let there : map f ys ≡ os = cc in
    ap (λ z. z ∷ map f ys) (is ∙ ap g here) ∙ ap (λ z. g o ∷ z) there
changed_next f g [] (y ∷ ys) (suc i) x d within are is = cc
changed_next f g (o ∷ os) (y ∷ ys) (suc i) x d within are is =
    let here : f y ≡ g o = cc in
    let there : map f ys ≡ take i (map g os) ++ drop i os = cc in
    let e : suc (i + 1) ≡ suc i + 1 = omega arith in
    ap (λ z. z ∷ map f (set ys i x)) here
    ∙ ap (λ z. g o ∷ z) (changed_next f g os ys i x d (omega (arith, within)) there is)
    ∙ ap (λ k. take k (map g (o ∷ os)) ++ drop k (o ∷ os)) e

-- what isn't reached yet is as it was
pub untouched : {X Y : Type 0} (f : X → Y) (g : Y → Y) (olds : List Y) (xs : List X) (i : ℕ) (d : X) → i < length xs → map f xs ≡ take i (map g olds) ++ drop i olds → f (get_or xs i d) ≡ get_or olds i (f (get_or xs i d))
untouched f g olds [] i d within are = absurd (omega arith)
untouched f g [] (y ∷ ys) zero d within are = cc
untouched f g (o ∷ os) (y ∷ ys) zero d within are = cc
untouched f g [] (y ∷ ys) (suc i) d within are = cc
untouched f g (o ∷ os) (y ∷ ys) (suc i) d within are =
    let there : map f ys ≡ take i (map g os) ++ drop i os = cc in
    untouched f g os ys i d (omega (arith, within)) there

-- as many as before
pub within_olds : {X Y : Type 0} (f : X → Y) (g : Y → Y) (olds : List Y) (xs : List X) (i : ℕ) → i < length xs → map f xs ≡ take i (map g olds) ++ drop i olds → i < length olds
within_olds f g olds [] i within are = absurd (omega arith)
within_olds f g [] (y ∷ ys) zero within are = cc
within_olds f g (o ∷ os) (y ∷ ys) zero within are = omega arith
within_olds f g [] (y ∷ ys) (suc i) within are = cc
within_olds f g (o ∷ os) (y ∷ ys) (suc i) within are =
    let there : map f ys ≡ take i (map g os) ++ drop i os = cc in
    omega (arith, within_olds f g os ys i (omega (arith, within)) there)

pub changed_all : {X Y : Type 0} (f : X → Y) (g : Y → Y) (olds : List Y) (xs : List X) (i : ℕ) → length olds ≤ i → map f xs ≡ take i (map g olds) ++ drop i olds → map f xs ≡ map g olds
changed_all f g olds xs i past are =
    are
    ∙ ap (λ z. z ++ drop i olds) (take_all i (map g olds) (omega (arith, past, length-map olds g)))
    ∙ ap (λ z. map g olds ++ z) (drop_all i olds past)
    ∙ append-nil (map g olds)

-- a note whose spans moved
pub child_called : (call : Span → Span) (note : SubDiagnostic) (span : MultiSpan) → spans_of span ≡ called_spans call (spans_of note.span) → child_of (record note { span = span }) ≡ called_note call (child_of note)
child_called call note span e = ap (λ s. record { level = note.level; message = map piece_of note.message.items; span = s; render_span = option_map spans_of note.render_span }) e

pub spans_are : (s : Spans) (primary : List Span) (labels : List (Span × Text)) → s.primary ≡ primary → s.labels ≡ labels → s ≡ record { primary = primary; labels = labels }
spans_are s primary labels e1 e2 = ap (λ z. record { primary = z; labels = s.labels }) e1 ∙ ap (λ z. record { primary = primary; labels = z }) e2

-- ---- where no span stands for another

self_span : (sp : Span) → is_span sp sp ≡ true
self_span sp = let e : (nat_eq sp.lo.0 sp.lo.0 && nat_eq sp.hi.0 sp.hi.0) ≡ true = grind (arith, nat_tests) in e

stays_put : (call : Span → Span) → MovesNone call → (sp : Span) → moves call sp ≡ false
stays_put call stays sp = ap (λ z. not (is_span sp z)) (stays sp) ∙ ap not (self_span sp)

none_put : (call : Span → Span) → MovesNone call → (xs : List Span) (s : Spans) → put_calls call xs s ≡ s
none_put call stays [] s = refl
none_put call stays (sp ∷ more) s =
    none_put call stays more (put_call call sp s) ∙ ap (λ b. cond b (record { primary = map (replaced sp (call sp)) s.primary; labels = map (replaced_label sp (call sp)) s.labels }) s) (stays_put call stays sp)

none_found : {X : Type 0} (p : X → Bool) → ((x : X) → p x ≡ false) → (xs : List X) → list_any p xs ≡ false
none_found p none [] = refl
none_found p none (x ∷ xs) = ap (λ b. b || list_any p xs) (none x) ∙ none_found p none xs

each_same : {X : Type 0} (f : X → X) → ((x : X) → f x ≡ x) → (xs : List X) → map f xs ≡ xs
each_same f same [] = refl
each_same f same (x ∷ xs) = ap (λ z. z ∷ map f xs) (same x) ∙ ap (λ z. x ∷ z) (each_same f same xs)

note_same : (call : Span → Span) → MovesNone call → (it : Child) → called_note call it ≡ it
note_same call stays it = ap (λ (s : Spans). record it { span = s }) (none_put call stays it.span.primary it.span)

report_same : (call : Span → Span) → MovesNone call → (r : Report) → called_with_note call r ≡ r
report_same call stays r =
    let no_move : (s : Spans) → some_move call s ≡ false = λ s. none_found (moves call) (stays_put call stays) s.primary in
    let none : report_moves call r ≡ false = ap (λ b. b || list_any (note_moves call) r.children) (no_move r.span) ∙ none_found (note_moves call) (λ it. no_move it.span) r.children in
    ap (λ (s : Spans). record r { span = s; children = map (called_note call) r.children ++ cond (report_moves call r) (macro_note ∷ []) [] }) (none_put call stays r.span.primary r.span)
    ∙ ap (λ b. record r { children = map (called_note call) r.children ++ cond b (macro_note ∷ []) [] }) none
    ∙ ap (λ (z : List Child). record r { children = z }) (append-nil (map (called_note call) r.children) ∙ each_same (called_note call) (note_same call stays) r.children)

over_same : (call : Span → Span) → MovesNone call → (backtrace : Bool) (r : Report) → called_over (Some call) backtrace r ≡ r
over_same call stays true r = refl
over_same call stays false r = report_same call stays r

pub same_called : {X : Type 0} (f : X → Map) (o : Option X) (backtrace : Bool) (p r : Report) → p ≡ called_over (option_map (λ x. (f x).call_span) o) backtrace r → SameIf (MovesNoneOf (option_map f o)) p r
same_called f None backtrace p r is = record { same = λ _. is }
same_called f (Some x) backtrace p r is = record { same = λ stays. is ∙ over_same (f x).call_span stays backtrace r }
