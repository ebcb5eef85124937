-- Texts that end with LF.
use Rattle.std.proofs.Common.{◌≡◌, ℕ, ◌+◌, codes, Bool, true, false, List, [], ◌∷◌, ◌++◌, Option, Some, None, map, ap, sym, subst, ◌∙◌, append_assoc, append-nil}
use Rattle.std.proofs.lemmas.List.{append_cancel_right}
use Rattle.std.specs.Bool.{MatchBool}
use Rattle.std.specs.Prelude.{IfOk, Result, Ok, Err, string_bytes}
use Rattle.std.specs.List.{flat_map}
use Rattle.std.specs.Str.{chars, encode_utf8_all}
use Rattle.std.specs.declared.string.String.{String}
use Rattle.std.specs.declared.alloc.Global.{Global}
use Rattle.jsx_base.specs.MultiSpan.{Spans}
use Rattle.jsx_diag.specs.declared.level.Level.{Level}
use Rattle.jsx_diag.specs.Level.{is_failure_level, shown_text}
use Rattle.jsx_diag.specs.Data.{Text, Code, Child, Report}
use Rattle.jsx_emit.specs.Page.{blanks, message_text, page_text, spaced}
use Rattle.jsx_base.specs.Lines.{lines}
use Rattle.jsx_emit.specs.Layout.{before_all, colon, has_no_span, header, indented, note_lines}
use Rattle.jsx_emit.specs.Shows.{Map, Setting, end_of, note_spans}
use Rattle.jsx_emit.specs.Parts.{EndedNote, IsCut, NoteOver, OwnOver, PartOver}

pub record Ends (text : Text) : Type 0 where
  pub front : Text
  pub is : text ≡ front ++ 10 ∷ []

-- ---- lines one after another

lines_end : {X : Type 0} (line : X → Text) (x : X) (xs : List X) → Ends (flat_map (λ y. line y ++ 10 ∷ []) (x ∷ xs))
lines_end line x [] = record { front = line x; is = append-nil (line x ++ 10 ∷ []) }
lines_end line x (y ∷ ys) =
    let it = lines_end line y ys in
    record {
      front = (line x ++ 10 ∷ []) ++ it.front;
      is = ap (λ z. (line x ++ 10 ∷ []) ++ z) it.is ∙ sym (append_assoc (line x ++ 10 ∷ []) it.front (10 ∷ []));
    }

note_ends : (text : Text) (lines : List Text) → Ends (page_text (before_all text lines))
note_ends text [] = lines_end spaced text []
note_ends text (line ∷ more) = lines_end spaced (text ++ line) more

at_end : (text same : Text) → text ≡ same → Ends same → Ends text
at_end text same is it = record { front = it.front; is = is ∙ it.is }

part_ends : (set : Setting) (map : Option Map) (w : ℕ) (level : Level) (code : Option Code) (message : Text) (spans : Spans) (text : Text) → PartOver set map w level code message spans text → Ends text
part_ends set None w level code message spans text it = record { front = spaced (header level code message); is = it }
part_ends set (Some map) w level code message spans text it =
    at_end text _ it.is (lines_end (λ row. encode_utf8_all (spaced row)) (chars (header level code message)) it.rows)

either_ends : (b : Bool) (A B : Type 0) (text : Text) → (A → Ends text) → (B → Ends text) → MatchBool b A B → Ends text
either_ends true A B text one two it = one it
either_ends false A B text one two it = two it

child_ends : (set : Setting) (map : Option Map) (w : ℕ) (it : Child) (text : Text) → EndedNote set map w it text → Ends text
child_ends set map w it text ended =
    either_ends (has_no_span (note_spans it)) _ _ text
    (λ (is : text ≡ page_text (note_lines w it.level (message_text it.message))). at_end text _ is (note_ends (blanks (w + 1) ++ (codes "= " ++ (shown_text it.level ++ colon (shown_text it.level)))) (indented (w + 9) (lines (message_text it.message)))))
    (part_ends set map w it.level None (message_text it.message) (note_spans it) text)
    ended

-- ---- the LF left out

-- what is cut, and its end
whole_of : (text cut : Text) → IsCut text cut → Ends text → text ≡ cut ++ 10 ∷ []
whole_of text cut is_cut it = it.is ∙ ap (λ z. z ++ 10 ∷ []) (sym (is_cut.is it.front it.is))

with_end : (P : Text → Type 0) (is_out : Bool) (text cut : Text) → is_out ≡ true → IsCut text cut → Ends text → P text → P (cut ++ end_of is_out)
with_end P is_out text cut out is_cut ends it = subst P (whole_of text cut is_cut ends ∙ ap (λ b. cut ++ end_of b) (sym out)) it

as_it_is : (P : Text → Type 0) (is_out : Bool) (text : Text) → is_out ≡ false → P text → P (text ++ end_of is_out)
as_it_is P is_out text out it = subst P (sym (append-nil text) ∙ ap (λ b. text ++ end_of b) (sym out)) it

pub cut_if : {X : Type 0} (P : Text → Type 0) (is_out : Bool) (text : Text) (r : Result (String Global) X) → is_out ≡ true → Ends text → P text → IfOk r (λ it. IsCut text (string_bytes it)) → IfOk r (λ it. P (string_bytes it ++ end_of is_out))
cut_if P is_out text (Ok t) out ends it is_cut = with_end P is_out text (string_bytes t) out is_cut ends it
cut_if P is_out text (Err e) out ends it is_cut = tt

pub own_cut : {X : Type 0} (set : Setting) (map : Option Map) (w : ℕ) (r : Report) (text : Text) (result : Result (String Global) X) → is_failure_level r.level ≡ true → PartOver set map w r.level r.code (message_text r.message) r.span text → IfOk result (λ it. IsCut text (string_bytes it)) → IfOk result (λ it. OwnOver set map w r (string_bytes it))
own_cut set map w r text result out part is_cut =
    cut_if (PartOver set map w r.level r.code (message_text r.message) r.span) (is_failure_level r.level) text result out (part_ends set map w r.level r.code (message_text r.message) r.span text part) part is_cut

pub own_whole : (set : Setting) (map : Option Map) (w : ℕ) (r : Report) (text : Text) → is_failure_level r.level ≡ false → PartOver set map w r.level r.code (message_text r.message) r.span text → OwnOver set map w r text
own_whole set map w r text out part = as_it_is (PartOver set map w r.level r.code (message_text r.message) r.span) (is_failure_level r.level) text out part

pub note_cut : {X : Type 0} (set : Setting) (map : Option Map) (w : ℕ) (it : Child) (text : Text) (result : Result (String Global) X) → is_failure_level it.level ≡ true → EndedNote set map w it text → IfOk result (λ t. IsCut text (string_bytes t)) → IfOk result (λ t. NoteOver set map w it (string_bytes t))
note_cut set map w it text result out note is_cut = cut_if (EndedNote set map w it) (is_failure_level it.level) text result out (child_ends set map w it text note) note is_cut

pub note_whole : (set : Setting) (map : Option Map) (w : ℕ) (it : Child) (text : Text) → is_failure_level it.level ≡ false → EndedNote set map w it text → NoteOver set map w it text
note_whole set map w it text out note = as_it_is (EndedNote set map w it) (is_failure_level it.level) text out note

-- what `without_end` answers
pub cut_at_end : {X : Type 0} (bs front : Text) (r : Result (String Global) X) → bs ≡ front ++ 10 ∷ [] → IfOk r (λ t. string_bytes t ≡ front) → IfOk r (λ it. IsCut bs (string_bytes it))
cut_at_end bs front (Ok t) is same = record { is = λ other e. same ∙ append_cancel_right front other (10 ∷ []) (sym is ∙ e) }
cut_at_end bs front (Err e) is same = tt

pub cut_nothing : {X : Type 0} (bs : Text) (r : Result (String Global) X) → ((front : Text) → bs ≡ front ++ 10 ∷ [] → ⊥) → IfOk r (λ it. IsCut bs (string_bytes it))
cut_nothing bs (Ok t) none = record { is = λ front e. absurd (none front e) }
cut_nothing bs (Err e) none = tt
