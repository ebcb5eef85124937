-- From the page of a report as it is shown to that of the report.
use Rattle.std.proofs.Common.{◌≡◌, ℕ, Bool, true, false, cond, List, [], ◌∷◌, ◌++◌, Option, Some, None, nat_eq, ◌&&◌, length, ◌<◌, arith, refl, ap, sym, subst, ◌∙◌}
use Rattle.std.specs.Bool.{MatchBool}
use Rattle.std.specs.Prelude.{MatchOption, Result, Ok, Err, IfOk, string_bytes}
use Rattle.std.specs.declared.string.String.{String}
use Rattle.std.specs.declared.alloc.Global.{Global}
use Rattle.std.specs.Option.{is_none, option_map}
use Rattle.std.proofs.lemmas.Bool.{ne_eqb}
use Rattle.jsx_base.specs.declared.place.Span.{Span}
use Rattle.jsx_base.specs.Files.{File}
use Rattle.jsx_base.specs.MultiSpan.{Spans}
use Rattle.jsx_diag.specs.Level.{is_failure_level}
use Rattle.jsx_diag.specs.Data.{Text, Report, Suggestion}
use Rattle.jsx_emit.specs.Page.{Look, number_width, message_text, own_width, page_text, told}
use Rattle.jsx_emit.specs.Layout.{apart, inline, labelled_with, last_line_of, pointed}
use Rattle.jsx_emit.specs.Shows.{Map, Setting, Each, Headed, IsPage, Long, LongBare, OwnPart, NotePart, ShowsOver, SuggestionPart, Whole, before_notes, end_of, id_line, look_of}
use Rattle.jsx_emit.specs.Texts.{MovesNoneOf, SameIf, called_over, short_page, shown_report}
use Rattle.jsx_emit.specs.Called.{ShowsEach}
use Rattle.jsx_emit.proofs.Moves.{same_called}
use Rattle.jsx_emit.specs.Parts.{LongOver}

when_true : (b : Bool) (A B : Type 0) → b ≡ true → A → MatchBool b A B
when_true b A B e it = subst (λ z. MatchBool z A B) (sym e) it

when_false : (b : Bool) (A B : Type 0) → b ≡ false → B → MatchBool b A B
when_false b A B e it = subst (λ z. MatchBool z A B) (sym e) it

-- ---- short pages

pub shows_short : (set : Setting) (map : Option Map) (r p : Report) (text : Text) → set.short ≡ true → SameIf (MovesNoneOf map) p (shown_report r) → text ≡ short_page map p → ShowsOver set map r text
shows_short set None r p text short same is = when_true set.short _ _ short (is ∙ ap (short_page None) (same.same tt))
shows_short set (Some map) r p text short same is = λ stays. when_true set.short _ _ short (is ∙ ap (short_page (Some map)) (same.same stays))

-- ---- whole pages

-- what stands apart becomes no label
inline_apart : (found : Option (Span × Text)) (all : List Suggestion) → inline all ≡ found → inline (cond (is_none found) all []) ≡ None
inline_apart None all e = e
inline_apart (Some label) all e = refl

pub none_inline : (r : Report) → inline (apart r) ≡ None
none_inline r = inline_apart (inline r.suggestions) r.suggestions refl

pointed_again : (r : Report) → pointed (shown_report r) ≡ pointed r
pointed_again r = ap (λ o. labelled_with o (pointed r)) (none_inline r)

apart_again : (r : Report) → apart (shown_report r) ≡ apart r
apart_again r = ap (λ o. cond (is_none o) (apart r) []) (none_inline r)

whole_again : (look : Look) (files : List File) (r : Report) (text : Text) → Whole look files (shown_report r) text → Whole look files r text
whole_again look files r text it =
    let same = pointed_again r in
    record {
      own = it.own;
      notes = it.notes;
      suggestions = it.suggestions;
      is = subst (λ (s : Spans). text ≡ it.own ++ (before_notes (is_failure_level r.level) (number_width look (last_line_of files s r.children)) r.children ++ (it.notes ++ (it.suggestions ++ 10 ∷ [])))) same it.is;
      own_part = subst (λ (s : Spans). OwnPart look files (number_width look (last_line_of files s r.children)) r.level r.code (message_text r.message) s (it.own ++ end_of (is_failure_level r.level))) same it.own_part;
      note_parts = subst (λ (s : Spans). Each (NotePart look files (number_width look (last_line_of files s r.children))) r.children it.notes) same it.note_parts;
      suggestion_parts =
          subst (λ (all : List Suggestion). Each (SuggestionPart look.ui_testing files (number_width look (last_line_of files (pointed r) r.children))) all it.suggestions) (apart_again r)
          (subst (λ (s : Spans). Each (SuggestionPart look.ui_testing files (number_width look (last_line_of files s r.children))) (apart (shown_report r)) it.suggestions) same it.suggestion_parts);
    }

headed_again : (r : Report) (text : Text) → Headed (shown_report r) text → Headed r text
headed_again r text it = record { rest = it.rest; is = it.is }

bare_again : (look : Look) (r : Report) (text : Text) → LongBare look (shown_report r) text → LongBare look r text
bare_again look r text it = record {
  headed = headed_again r text it.headed;
  whole = record { own = it.whole.own; notes = it.whole.notes; is = it.whole.is; own_part = it.whole.own_part; note_parts = it.whole.note_parts };
}

-- the page that is told of spans, where nothing is suggested
abbrev ToldWith : Look → List File → Report → Text → List Suggestion → Spans → Type 0
ToldWith look files r text all spans =
    MatchOption (cond (nat_eq (length r.children) 0 && nat_eq (length all) 0) (option_map (λ page. page_text (page ++ [] ∷ [])) (told look (own_width look) files r.level r.code (message_text r.message) spans)) None) (Unit {0}) (λ page. text ≡ page)

not_zero : (n : ℕ) → 0 < n → nat_eq n 0 ≡ false
not_zero n more = ne_eqb n 0 (λ (e : n ≡ 0). omega (arith, more, e))

and_false : (b : Bool) → (b && false) ≡ false
and_false true = refl
and_false false = refl

-- where there are suggestions no page is told
told_again : (look : Look) (files : List File) (r : Report) (text : Text) (all : List Suggestion) → ToldWith look files r text (cond (is_none (inline all)) all []) (labelled_with (inline all) r.span) → ToldWith look files r text all r.span
told_again look files r text [] it = it
told_again look files r text (first ∷ more) it =
    subst (λ b. MatchOption (cond b (option_map (λ page. page_text (page ++ [] ∷ [])) (told look (own_width look) files r.level r.code (message_text r.message) r.span)) None) (Unit {0}) (λ page. text ≡ page))
    (sym (ap (λ z. nat_eq (length r.children) 0 && z) (not_zero (length (first ∷ more)) (omega arith)) ∙ and_false (nat_eq (length r.children) 0))) tt

page_again : (look : Look) (files : List File) (r : Report) (text : Text) → IsPage look files (shown_report r) text → IsPage look files r text
page_again look files r text it = told_again look files r text r.suggestions it

pub shows_long : (set : Setting) (map : Option Map) (r p : Report) (text : Text) → set.short ≡ false → SameIf (MovesNoneOf map) p (shown_report r) → LongOver set map p text → ShowsOver set map r text
shows_long set None r p text short same is = when_false set.short _ (LongBare (look_of set id_line) r text) short (bare_again (look_of set id_line) r text (subst (λ z. LongBare (look_of set id_line) z text) (same.same tt) is))
shows_long set (Some map) r p text short same is =
    λ stays. when_false set.short _ (Long (look_of set map.offset_line) map.files r text) short (
    let is_shown : p ≡ shown_report r = same.same stays in
    let it : Long (look_of set map.offset_line) map.files (shown_report r) text = subst (λ z. LongOver set (Some map) z text) is_shown is (none_inline r) in
    record { page = page_again (look_of set map.offset_line) map.files r text it.page; headed = headed_again r text it.headed; whole = whole_again (look_of set map.offset_line) map.files r text it.whole }
    )

-- ---- where spans have moved

none_called : (call : Span → Span) (backtrace : Bool) (r : Report) → inline (called_over (Some call) backtrace (shown_report r)).suggestions ≡ None
none_called call true r = none_inline r
none_called call false r = none_inline r

each_long : {X : Type 0} (f : X → Map) (o : Option X) (set : Setting) (backtrace : Bool) (r p : Report) (text : Text) → set.short ≡ false → p ≡ called_over (option_map (λ x. (f x).call_span) o) backtrace (shown_report r) → LongOver set (option_map f o) p text → ShowsEach set (option_map f o) backtrace r text
each_long f None set backtrace r p text short is it = record { shows = shows_long set None r p text short (same_called f None backtrace p (shown_report r) is) it; called = tt }
each_long f (Some x) set backtrace r p text short is it = record {
  shows = shows_long set (Some (f x)) r p text short (same_called f (Some x) backtrace p (shown_report r) is) it;
  called =
      when_false set.short _ (Long (look_of set (f x).offset_line) (f x).files (called_over (Some (f x).call_span) backtrace (shown_report r)) text) short
      (subst (λ z. Long (look_of set (f x).offset_line) (f x).files z text) is (it (ap (λ z. inline z.suggestions) is ∙ none_called (f x).call_span backtrace r)));
}

each_short : {X : Type 0} (f : X → Map) (o : Option X) (set : Setting) (backtrace : Bool) (r p : Report) (text : Text) → set.short ≡ true → p ≡ called_over (option_map (λ x. (f x).call_span) o) backtrace (shown_report r) → text ≡ short_page (option_map f o) p → ShowsEach set (option_map f o) backtrace r text
each_short f None set backtrace r p text short is it = record { shows = shows_short set None r p text short (same_called f None backtrace p (shown_report r) is) it; called = tt }
each_short f (Some x) set backtrace r p text short is it = record {
  shows = shows_short set (Some (f x)) r p text short (same_called f (Some x) backtrace p (shown_report r) is) it;
  called = when_true set.short _ _ short (it ∙ ap (short_page (Some (f x))) is);
}

-- ---- what is answered

pub each_long_if : {X Y : Type 0} (f : X → Map) (o : Option X) (set : Setting) (backtrace : Bool) (r p : Report) (result : Result (String Global) Y) → set.short ≡ false → p ≡ called_over (option_map (λ x. (f x).call_span) o) backtrace (shown_report r) → IfOk result (λ text. LongOver set (option_map f o) p (string_bytes text)) → IfOk result (λ text. ShowsEach set (option_map f o) backtrace r (string_bytes text))
each_long_if f o set backtrace r p (Ok text) short is it = each_long f o set backtrace r p (string_bytes text) short is it
each_long_if f o set backtrace r p (Err e) short is it = tt

pub each_short_if : {X Y : Type 0} (f : X → Map) (o : Option X) (set : Setting) (backtrace : Bool) (r p : Report) (result : Result (String Global) Y) → set.short ≡ true → p ≡ called_over (option_map (λ x. (f x).call_span) o) backtrace (shown_report r) → IfOk result (λ text. string_bytes text ≡ short_page (option_map f o) p) → IfOk result (λ text. ShowsEach set (option_map f o) backtrace r (string_bytes text))
each_short_if f o set backtrace r p (Ok text) short is it = each_short f o set backtrace r p (string_bytes text) short is it
each_short_if f o set backtrace r p (Err e) short is it = tt
