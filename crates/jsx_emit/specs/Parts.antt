-- Parts of pages, over the files of a setting.
use Rattle.std.specs.Prelude.{◌≡◌, ℕ, Bool, List, [], ◌∷◌, ◌++◌, Option, Some, None}
use Rattle.std.specs.Bool.{MatchBool}
use Rattle.jsx_base.specs.MultiSpan.{Spans}
use Rattle.jsx_diag.specs.declared.level.Level.{Level}
use Rattle.jsx_diag.specs.Level.{is_failure_level}
use Rattle.jsx_diag.specs.Data.{Text, Code, Child, Report, Suggestion}
use Rattle.std.specs.Str.{IsUtf8}
use Rattle.jsx_base.specs.Files.{Place}
use Rattle.jsx_emit.specs.Page.{Look, message_text, page_text, place_line, spaced}
use Rattle.jsx_emit.specs.Layout.{has_no_span, header, inline, note_lines}
use Rattle.jsx_emit.specs.Shows.{Each, Map, Setting, Long, LongBare, OwnPart, SuggestionPart, end_of, id_line, look_of, note_spans}

-- a header and the lines of its spans; the header alone where there are no files
abbrev pub PartOver : Setting → Option Map → ℕ → Level → Option Code → Text → Spans → Text → Type 0
PartOver set None w level code message spans text = text ≡ spaced (header level code message) ++ 10 ∷ []
PartOver set (Some map) w level code message spans text = OwnPart (look_of set map.offset_line) map.files w level code message spans text

-- a note of a level that ends with LF
abbrev pub EndedNote : Setting → Option Map → ℕ → Child → Text → Type 0
EndedNote set map w it text =
    MatchBool (has_no_span (note_spans it))
    (text ≡ page_text (note_lines w it.level (message_text it.message)))
    (PartOver set map w it.level None (message_text it.message) (note_spans it) text)

-- a note, of which a failure note lacks the LF at its end
abbrev pub NoteOver : Setting → Option Map → ℕ → Child → Text → Type 0
NoteOver set map w it text = EndedNote set map w it (text ++ end_of (is_failure_level it.level))

-- a whole page of a report of which no suggestion becomes a label
abbrev pub LongOver : Setting → Option Map → Report → Text → Type 0
LongOver set None report text = LongBare (look_of set id_line) report text
LongOver set (Some map) report text = inline report.suggestions ≡ None → Long (look_of set map.offset_line) map.files report text

-- suggestions, which are shown where there are files
abbrev pub SuggestionsOver : Bool → Option Map → ℕ → List Suggestion → Text → Type 0
SuggestionsOver ui_testing None w suggestions text = text ≡ []
SuggestionsOver ui_testing (Some map) w suggestions text = Each (SuggestionPart ui_testing map.files w) suggestions text

-- the report's own part, of which a failure note lacks the LF at its end
abbrev pub OwnOver : Setting → Option Map → ℕ → Report → Text → Type 0
OwnOver set map w report text = PartOver set map w report.level report.code (message_text report.message) report.span (text ++ end_of (is_failure_level report.level))

-- a text begins with a header and LF
pub record BeginsWith (header text : Text) : Type 0 where
  pub rest : Text
  pub is : text ≡ spaced header ++ 10 ∷ rest

pub record StartsWith (header text : Text) : Type 0 where
  pub rest : Text
  pub is : text ≡ spaced header ++ rest

-- a text is another without the LF at its end
pub record IsCut (text cut : Text) : Type 0 where
  pub is : (front : Text) → text ≡ front ++ 10 ∷ [] → cut ≡ front

-- the line of a place, if there is one, is a text
abbrev pub PlaceIsText : Look → ℕ → Option Place → Type 0
PlaceIsText look w None = Unit {0}
PlaceIsText look w (Some place) = IsUtf8 (place_line look w place)
