-- A whole page: the report's own part, its notes and its suggestions, one behind another.
use Rattle.std.proofs.Common.{◌≡◌, ℕ, Bool, true, false, not, ◌&&◌, ◌||◌, cond, nat_eq, List, [], ◌∷◌, ◌++◌, Option, Some, None, length, map, max, rules, refl, ap, sym, subst, ◌∙◌, arith, append_assoc, append-nil}
use Rattle.std.specs.Prelude.{MatchOption, IsFalse, Result, Ok, Err, IfOk, string_bytes, decimal}
use Rattle.std.specs.declared.string.String.{String}
use Rattle.std.specs.declared.alloc.Global.{Global}
use Rattle.std.specs.List.{flat_map, list_any}
use Rattle.std.specs.Option.{is_none, option_map}
use Rattle.std.proofs.lemmas.Grind.{flat_map-append}
use Rattle.jsx_base.specs.declared.place.Span.{Span}
use Rattle.jsx_base.specs.Files.{File}
use Rattle.jsx_base.specs.MultiSpan.{Spans, is_span, labelled}
use Rattle.jsx_base.specs.SpanPlaces.{span_file}
use Rattle.jsx_diag.specs.declared.level.Level.{Level}
use Rattle.jsx_diag.specs.Level.{is_failure_level}
use Rattle.jsx_diag.specs.Data.{Text, Code, Child, Report, Suggestion}
use Rattle.jsx_emit.specs.Page.{Look, is_error, message_text, number_width, own_width, page_text, sole_label, sole_span, spaced, told, told_at, told_in, told_of}
use Rattle.jsx_draw.specs.Spots.{Reach, reach_in, greatest, held_in, is_dummy, spot_in}
use Rattle.jsx_emit.specs.Layout.{apart, end_line, header, inline, labelled_with, last_line_of, pointed}
use Rattle.jsx_emit.specs.Shows.{Map, Setting, Bare, BareNote, Each, Headed, IsTold, Long, NotePart, OwnPart, SuggestionPart, before_notes, end_of, id_line, look_of, report_width}
use Rattle.jsx_diag.specs.declared.level.Level.TheVariants as level
use Rattle.jsx_emit.specs.Texts.{last_line_over}
use Rattle.jsx_emit.proofs.Children.{not_zero}
use Rattle.std.proofs.lemmas.List.{length-append}
use Rattle.jsx_emit.specs.Parts.{BeginsWith, StartsWith, LongOver, NoteOver, OwnOver, SuggestionsOver}

-- ---- the width of the page that is told

-- the width matters at one span alone
same_told : (look : Look) (a b : Reach → ℕ) (file : Option File) (sp : Span) (message : Text) (label : Option (Option Text)) → ((f : File) → file ≡ Some f → a (reach_in f sp) ≡ b (reach_in f sp)) → told_in look a file sp message label ≡ told_in look b file sp message label
same_told look a b None sp message label same = refl
same_told look a b (Some file) sp message None same = refl
same_told look a b (Some file) sp message (Some label) same = ap (λ w. told_of look w (reach_in file sp) message label) (same file refl)

none_told : (look : Look) (a b : Reach → ℕ) (file : Option File) (sp : Span) (message : Text) → told_in look a file sp message None ≡ told_in look b file sp message None
none_told look a b None sp message = refl
none_told look a b (Some file) sp message = refl

with_zero : (n : ℕ) → max n 0 ≡ n
with_zero n = omega arith

end_bare : (files : List File) (sp : Span) (f : File) → held_in files sp ≡ Some f → end_line files (record { primary = sp ∷ []; labels = [] }) ≡ (reach_in f sp).last.line
end_bare files sp f held =
    ap (λ (o : Option File). greatest (map (λ spot. spot.reach.last.line) (spot_in o (record { span = sp; is_primary = true; label = None }) ++ []))) held ∙ with_zero _

end_labelled : (files : List File) (sp : Span) (f : File) (label : Text) → is_span sp sp ≡ true → held_in files sp ≡ Some f → end_line files (record { primary = sp ∷ []; labels = (sp, label) ∷ [] }) ≡ (reach_in f sp).last.line
end_labelled files sp f label same held =
    ap (λ (b : Bool). greatest (map (λ spot. spot.reach.last.line) (flat_map (λ it. spot_in (held_in files it.span) it) (labelled (sp ∷ []) (sp, label) ∷ map (λ z. record { span = z; is_primary = true; label = None }) (cond (not (b || false)) (sp ∷ []) []))))) same
    ∙ ap (λ (o : Option File). greatest (map (λ spot. spot.reach.last.line) (spot_in o (labelled (sp ∷ []) (sp, label)) ++ []))) held
    ∙ with_zero _

same_span : (a b : Span) → is_span a b ≡ true → b ≡ a
same_span a b same = search rules

-- the width of the only span's last line is that of the greatest one
abbrev OneWidth : Look → List File → Text → Spans → Option Span → Type 0
OneWidth look files message spans sp = told_at look (λ _. number_width look (max (end_line files spans) 0)) files sp message spans ≡ told_at look (own_width look) files sp message spans

one_bare : (look : Look) (files : List File) (message : Text) (sp : Span) (b : Bool) → b ≡ is_dummy sp → OneWidth look files message (record { primary = sp ∷ []; labels = [] }) (cond b None (Some sp))
one_bare look files message sp true dummy = refl
one_bare look files message sp false dummy =
    same_told look (λ _. number_width look (max (end_line files (record { primary = sp ∷ []; labels = [] })) 0)) (own_width look) (span_file files sp) sp message (Some None) (λ f found.
    let held : held_in files sp ≡ Some f = ap (λ b. cond b None (span_file files sp)) (sym dummy) ∙ found in
    ap (number_width look) (ap (λ n. max n 0) (end_bare files sp f held) ∙ with_zero _))

one_labelled : (look : Look) (files : List File) (message : Text) (sp : Span) (label : Text) (b ok : Bool) → b ≡ is_dummy sp → is_span sp sp ≡ true → told_at look (λ _. number_width look (max (end_line files (record { primary = sp ∷ []; labels = (sp, label) ∷ [] })) 0)) files (cond b None (Some sp)) message (record { primary = sp ∷ []; labels = (sp, label) ∷ [] }) ≡ told_at look (own_width look) files (cond b None (Some sp)) message (record { primary = sp ∷ []; labels = (sp, label) ∷ [] })
one_labelled look files message sp label true ok dummy same = refl
one_labelled look files message sp label false ok dummy same =
    same_told look (λ _. number_width look (max (end_line files (record { primary = sp ∷ []; labels = (sp, label) ∷ [] })) 0)) (own_width look) (span_file files sp) sp message (sole_label sp ((sp, label) ∷ [])) (λ f found.
    let held : held_in files sp ≡ Some f = ap (λ b. cond b None (span_file files sp)) (sym dummy) ∙ found in
    ap (number_width look) (ap (λ n. max n 0) (end_labelled files sp f label same held) ∙ with_zero _))

not_sole : (sp : Span) (l : Span) (text : Text) → is_span sp l ≡ false → sole_label sp ((l, text) ∷ []) ≡ None
not_sole sp l text other = ap (λ b. cond (b && (not (nat_eq (length text) 0) && not (list_any (λ b. nat_eq b 10) text))) (Some (Some text)) None) other

same_without : (look : Look) (a b : Reach → ℕ) (files : List File) (dummy : Bool) (sp : Span) (message : Text) (spans : Spans) → sole_label sp spans.labels ≡ None → told_at look a files (cond dummy None (Some sp)) message spans ≡ told_at look b files (cond dummy None (Some sp)) message spans
same_without look a b files true sp message spans none = refl
same_without look a b files false sp message spans none =
    ap (told_in look a (span_file files sp) sp message) none ∙ none_told look a b (span_file files sp) sp message ∙ ap (told_in look b (span_file files sp) sp message) (sym none)

one_label : (look : Look) (files : List File) (message : Text) (sp l : Span) (text : Text) (same : Bool) → is_span sp l ≡ same → OneWidth look files message (record { primary = sp ∷ []; labels = (l, text) ∷ [] }) (cond (is_dummy sp) None (Some sp))
one_label look files message sp l text false other = same_without look (λ _. number_width look (max (end_line files (record { primary = sp ∷ []; labels = (l, text) ∷ [] })) 0)) (own_width look) files (is_dummy sp) sp message (record { primary = sp ∷ []; labels = (l, text) ∷ [] }) (not_sole sp l text other)
one_label look files message sp l text true same =
    subst (λ (z : Span). OneWidth look files message (record { primary = sp ∷ []; labels = (z, text) ∷ [] }) (cond (is_dummy sp) None (Some sp))) (sym (same_span sp l same))
    (one_labelled look files message sp text (is_dummy sp) true refl (subst (λ (z : Span). is_span sp z ≡ true) (same_span sp l same) same))

same_width : (look : Look) (files : List File) (message : Text) (primary : List Span) (labels : List (Span × Text)) → OneWidth look files message (record { primary = primary; labels = labels }) (sole_span primary)
same_width look files message [] labels = refl
same_width look files message (sp ∷ next ∷ more) labels = refl
same_width look files message (sp ∷ []) [] = one_bare look files message sp (is_dummy sp) refl
same_width look files message (sp ∷ []) (label ∷ []) = one_label look files message sp label.0 label.1 (is_span sp label.0) refl
same_width look files message (sp ∷ []) (label ∷ next ∷ more) = same_without look (λ _. number_width look (max (end_line files (record { primary = sp ∷ []; labels = label ∷ next ∷ more })) 0)) (own_width look) files (is_dummy sp) sp message (record { primary = sp ∷ []; labels = label ∷ next ∷ more }) refl

told_same : (look : Look) (files : List File) (level : Level) (code : Option Code) (message : Text) (spans : Spans) → told look (λ _. number_width look (max (end_line files spans) 0)) files level code message spans ≡ told look (own_width look) files level code message spans
told_same look files level code message spans = ap (λ z. cond (is_error level && is_none code) z None) (same_width look files message spans.primary spans.labels)

-- ---- the page that is told

abbrev PageOf : Look → List File → Report → Text → List Child → List Suggestion → Type 0
PageOf look files r text children suggestions =
    MatchOption (cond (nat_eq (length children) 0 && nat_eq (length suggestions) 0) (option_map (λ page. page_text (page ++ [] ∷ [])) (told look (own_width look) files r.level r.code (message_text r.message) r.span)) None) (Unit {0}) (λ page. text ≡ page)

not_told : (o : Option Text) (b : Bool) (text : Text) → b ≡ false → MatchOption (cond b o None) (Unit {0}) (λ page. text ≡ page)
not_told o true text e = cc
not_told o false text e = tt

told_page : (o : Option (List Text)) (own text : Text) → IsTold o own → text ≡ own ++ 10 ∷ [] → MatchOption (option_map (λ page. page_text (page ++ [] ∷ [])) o) (Unit {0}) (λ page. text ≡ page)
told_page None own text it is = tt
told_page (Some lines) own text it is =
    is ∙ ap (λ z. z ++ 10 ∷ []) it ∙ sym (flat_map-append (λ line. spaced line ++ 10 ∷ []) lines ([] ∷ []))

no_failure : (l : Level) → is_error l ≡ true → IsFalse (is_failure_level l)
no_failure level.Bug e = cc
no_failure level.Fatal e = cc
no_failure level.PhaseFatal e = cc
no_failure level.Error e = refl
no_failure level.Warning e = cc
no_failure level.Note e = cc
no_failure level.Help e = cc
no_failure level.Cancelled e = cc
no_failure level.FailureNote e = cc

none_for_others : (look : Look) (files : List File) (r : Report) (text : Text) → is_error r.level ≡ false → MatchOption (option_map (λ page. page_text (page ++ [] ∷ [])) (told look (own_width look) files r.level r.code (message_text r.message) r.span)) (Unit {0}) (λ page. text ≡ page)
none_for_others look files r text other =
    subst (λ b. MatchOption (option_map (λ page. page_text (page ++ [] ∷ [])) (cond (b && is_none r.code) (told_at look (own_width look) files (sole_span r.span.primary) (message_text r.message) r.span) None)) (Unit {0}) (λ page. text ≡ page)) (sym other) tt

sole_page : (look : Look) (files : List File) (r : Report) (w : ℕ) (own text : Text) (error : Bool) → is_error r.level ≡ error → w ≡ number_width look (max (end_line files r.span) 0) → OwnPart look files w r.level r.code (message_text r.message) r.span (own ++ end_of (is_failure_level r.level)) → text ≡ own ++ 10 ∷ [] → MatchOption (option_map (λ page. page_text (page ++ [] ∷ [])) (told look (own_width look) files r.level r.code (message_text r.message) r.span)) (Unit {0}) (λ page. text ≡ page)
sole_page look files r w own text false other wide it is = none_for_others look files r text other
sole_page look files r w own text true so wide it is =
    let with_lf = subst (OwnPart look files w r.level r.code (message_text r.message) r.span) (ap (λ b. own ++ end_of b) (no_failure r.level so) ∙ append-nil own) it in
    told_page _ own text
    (subst (λ o. IsTold o own) (ap (λ n. told look (λ _. n) files r.level r.code (message_text r.message) r.span) wide ∙ told_same look files r.level r.code (message_text r.message) r.span) (with_lf.told))
    is

page_of : (look : Look) (files : List File) (r : Report) (w : ℕ) (own text : Text) (children : List Child) (suggestions : List Suggestion) → w ≡ number_width look (last_line_of files r.span children) → OwnPart look files w r.level r.code (message_text r.message) r.span (own ++ end_of (is_failure_level r.level)) → (children ≡ [] → suggestions ≡ [] → text ≡ own ++ 10 ∷ []) → PageOf look files r text children suggestions
page_of look files r w own text [] [] wide it is = sole_page look files r w own text (is_error r.level) refl wide it (is refl refl)
page_of look files r w own text [] (s ∷ suggestions) wide it is = not_told _ _ text (not_zero (length (s ∷ suggestions)) (omega arith))
page_of look files r w own text (c ∷ children) suggestions wide it is =
    not_told _ _ text (ap (λ b. b && nat_eq (length suggestions) 0) (not_zero (length (c ∷ children)) (omega arith)))

-- ---- the whole

none_each : {X : Type 0} (P : X → Text → Type 0) (xs : List X) (text : Text) → xs ≡ [] → Each P xs text → text ≡ []
none_each P [] text e it = it
none_each P (x ∷ xs) text e it = cc

no_separator : (failing : Bool) (w : ℕ) (children : List Child) → children ≡ [] → before_notes failing w children ≡ []
no_separator failing w [] e = refl
no_separator failing w (it ∷ more) e = cc

-- what is put together
pub record Joined (failing : Bool) (w : ℕ) (children : List Child) (own notes suggestions text : Text) : Type 0 where
  pub is : text ≡ own ++ (before_notes failing w children ++ (notes ++ (suggestions ++ 10 ∷ [])))

pub joined : (failing : Bool) (w : ℕ) (children : List Child) (own notes suggestions a b c d : Text) → a ≡ own ++ before_notes failing w children → b ≡ a ++ notes → c ≡ b ++ suggestions → d ≡ c ++ 10 ∷ [] → Joined failing w children own notes suggestions d
joined failing w children own notes suggestions a b c d e1 e2 e3 e4 =
    let sep = before_notes failing w children in record {
      is =
          e4
          ∙ ap (λ z. z ++ 10 ∷ []) (e3 ∙ ap (λ z. z ++ suggestions) (e2 ∙ ap (λ z. z ++ notes) e1))
          ∙ append_assoc ((own ++ sep) ++ notes) suggestions (10 ∷ [])
          ∙ append_assoc (own ++ sep) notes (suggestions ++ 10 ∷ [])
          ∙ append_assoc own sep (notes ++ (suggestions ++ 10 ∷ []));
    }

headed : (r : Report) (own more text : Text) → Headed r own → text ≡ own ++ more → Headed r text
headed r own more text it is = record {
  rest = it.rest ++ more;
  is = is ∙ ap (λ z. z ++ more) it.is ∙ append_assoc (spaced (header r.level r.code (message_text r.message))) it.rest more;
}

long_of : (look : Look) (files : List File) (r : Report) (w : ℕ) (own notes suggestions text : Text) → inline r.suggestions ≡ None → w ≡ number_width look (last_line_of files r.span r.children) → OwnPart look files w r.level r.code (message_text r.message) r.span (own ++ end_of (is_failure_level r.level)) → Headed r own → Each (NotePart look files w) r.children notes → Each (SuggestionPart look.ui_testing files w) r.suggestions suggestions → Joined (is_failure_level r.level) w r.children own notes suggestions text → Long look files r text
long_of look files r w own notes suggestions text none wide part begins each_note each_suggestion it =
    let same_spans : r.span ≡ pointed r = sym (ap (λ o. labelled_with o r.span) none) in
    let same_apart : r.suggestions ≡ apart r = sym (ap (λ o. cond (is_none o) r.suggestions []) none) in
    let same_w : w ≡ report_width look files r = wide ∙ ap (λ (s : Spans). number_width look (last_line_of files s r.children)) same_spans in
    record {
      page = page_of look files r w own text r.children r.suggestions wide part (λ no_notes no_suggestions.
          it.is
          ∙ ap (λ z. own ++ (z ++ (notes ++ (suggestions ++ 10 ∷ [])))) (no_separator (is_failure_level r.level) w r.children no_notes)
          ∙ ap (λ z. own ++ (z ++ (suggestions ++ 10 ∷ []))) (none_each _ r.children notes no_notes each_note)
          ∙ ap (λ z. own ++ (z ++ 10 ∷ [])) (none_each _ r.suggestions suggestions no_suggestions each_suggestion));
      headed = headed r own _ text begins it.is;
      whole = record {
        own = own;
        notes = notes;
        suggestions = suggestions;
        is = it.is ∙ ap (λ n. own ++ (before_notes (is_failure_level r.level) n r.children ++ (notes ++ (suggestions ++ 10 ∷ [])))) same_w;
        own_part = subst (λ (s : Spans). OwnPart look files (report_width look files r) r.level r.code (message_text r.message) s (own ++ end_of (is_failure_level r.level))) same_spans (subst (λ n. OwnPart look files n r.level r.code (message_text r.message) r.span (own ++ end_of (is_failure_level r.level))) same_w part);
        note_parts = subst (λ n. Each (NotePart look files n) r.children notes) same_w each_note;
        suggestion_parts = subst (λ (all : List Suggestion). Each (SuggestionPart look.ui_testing files (report_width look files r)) all suggestions) same_apart (subst (λ n. Each (SuggestionPart look.ui_testing files n) r.suggestions suggestions) same_w each_suggestion);
      };
    }

bare_of : (set : Setting) (r : Report) (w : ℕ) (own notes suggestions text : Text) → w ≡ number_width (look_of set id_line) 0 → OwnOver set None w r own → Each (NoteOver set None w) r.children notes → suggestions ≡ [] → Joined (is_failure_level r.level) w r.children own notes suggestions text → Bare (number_width (look_of set id_line) 0) r text
bare_of set r w own notes suggestions text same_w own_is each_note none it = record {
  own = own;
  notes = notes;
  is =
      it.is
      ∙ ap (λ n. own ++ (before_notes (is_failure_level r.level) n r.children ++ (notes ++ (suggestions ++ 10 ∷ [])))) same_w
      ∙ ap (λ z. own ++ (before_notes (is_failure_level r.level) (number_width (look_of set id_line) 0) r.children ++ (notes ++ (z ++ 10 ∷ [])))) none;
  own_part = own_is;
  note_parts = subst (λ n. Each (BareNote n) r.children notes) same_w each_note;
}

pub long_over : (set : Setting) (map : Option Map) (r : Report) (w : ℕ) (own notes suggestions text : Text) → w ≡ cond set.ui_testing 2 (length (decimal (last_line_over (option_map (λ m. m.files) map) r.span r.children))) → OwnOver set map w r own → Headed r own → Each (NoteOver set map w) r.children notes → SuggestionsOver set.ui_testing map w r.suggestions suggestions → Joined (is_failure_level r.level) w r.children own notes suggestions text → LongOver set map r text
long_over set None r w own notes suggestions text wide part begins each_note each_suggestion it = record {
  headed = headed r own _ text begins it.is;
  whole = bare_of set r w own notes suggestions text wide part each_note each_suggestion it;
}
long_over set (Some map) r w own notes suggestions text wide part begins each_note each_suggestion it =
    λ none. long_of (look_of set map.offset_line) map.files r w own notes suggestions text none wide part begins each_note each_suggestion it

-- ---- a text without the LF at its end

without_last : (front text : Text) (rest : Text) → text ++ 10 ∷ [] ≡ front ++ 10 ∷ rest → (more : Text) × (text ≡ front ++ more)
without_last [] text rest e = (text, refl)
without_last (b ∷ front) [] rest e = let tail : [] ≡ front ++ 10 ∷ rest = cc in absurd (let no : ⊥ = omega (arith, ap length tail, length-append front (10 ∷ rest)) in no)
without_last (b ∷ front) (c ∷ text) rest e =
    let same : c ≡ b = cc in
    let tail : text ++ 10 ∷ [] ≡ front ++ 10 ∷ rest = cc in
    let it = without_last front text rest tail in
    (it.0, ap (λ z. z ∷ text) same ∙ ap (λ z. b ∷ z) it.1)

pub end_off : (bs front header : Text) → bs ≡ front ++ 10 ∷ [] → BeginsWith header bs → StartsWith header front
end_off bs front header is begins =
    let it = without_last (spaced header) front begins.rest (sym is ∙ begins.is) in
    record { rest = it.0; is = it.1 }

pub no_end : (bs header : Text) → BeginsWith header bs → StartsWith header bs
no_end bs header begins = record { rest = 10 ∷ begins.rest; is = begins.is }

pub end_off_if : {X : Type 0} (bs front : Text) (r : Result (String Global) X) → bs ≡ front ++ 10 ∷ [] → IfOk r (λ t. string_bytes t ≡ front) → IfOk r (λ it. (header : Text) → BeginsWith header bs → StartsWith header (string_bytes it))
end_off_if bs front (Ok t) is same = λ header begins. subst (StartsWith header) (sym same) (end_off bs front header is begins)
end_off_if bs front (Err e) is same = tt

pub no_end_if : {X : Type 0} (bs : Text) (r : Result (String Global) X) → IfOk r (λ t. string_bytes t ≡ bs) → IfOk r (λ it. (header : Text) → BeginsWith header bs → StartsWith header (string_bytes it))
no_end_if bs (Ok t) same = λ header begins. subst (StartsWith header) (sym same) (no_end bs header begins)
no_end_if bs (Err e) same = tt

pub same_files : {X : Type 0} (f : X → Map) (o : Option X) → option_map (λ x. (f x).files) o ≡ option_map (λ (m : Map). m.files) (option_map f o)
same_files f None = refl
same_files f (Some x) = refl
