-- Pages of reports with labels, notes and suggestions, written as rustc shows them: each is a page of its report.
use Rattle.std.specs.Prelude.{ℕ, ◌+◌, List, [], ◌∷◌, ◌++◌, Some, None, true, false, codes, refl}
use Rattle.std.specs.Fmt.{digits}
use Rattle.std.specs.List.{flat_map}
use Rattle.std.specs.Str.{chars, trim_end, trim_start}
use Rattle.unicode_width.specs.Width.{char_width}
use Rattle.jsx_base.specs.declared.place.Span.{Span}
use Rattle.jsx_base.specs.FileName.{RealName}
use Rattle.jsx_base.specs.Files.{File}
use Rattle.jsx_diag.specs.declared.level.Level.TheVariants.{Error, Note}
use Rattle.jsx_diag.specs.declared.level.Style.TheVariants.{NoStyle}
use Rattle.jsx_diag.specs.declared.level.Applicability.TheVariants.{Unspecified}
use Rattle.jsx_diag.specs.Data.{Text, Piece, Child, Suggestion, Report}
use Rattle.jsx_emit.specs.Shows.{Setting, Shows}

-- a file whose first byte has place 1
file : File
file = record { name = RealName (codes "x.js"); text = codes "a = a;"; start = 1 }

plain : Setting
unfolding file
plain = record { map = Some (record { files = file ∷ []; call_span = λ sp. sp; offset_line = λ line. line }); short = false; ui_testing = false; skip_filename = false }

place : ℕ → ℕ → Span
place lo hi = record { lo = record { 0 = lo + 1 }; hi = record { 0 = hi + 1 } }

message : Text → List Piece
message text = record { text = text; style = NoStyle } ∷ []

lines : List Text → Text
lines page = flat_map (λ line. line ++ 10 ∷ []) page

note : Child
unfolding message
note = record { level = Note; message = message (codes "n"); span = record { primary = []; labels = [] }; render_span = None }

-- a label of another span, and a note
with_note : Report
unfolding message place note
with_note = record { level = Error; message = message (codes "m"); code = None; span = record { primary = place 4 5 ∷ []; labels = (place 0 1, codes "x") ∷ [] }; children = note ∷ []; suggestions = [] }

page_with_note : Shows plain with_note (lines (codes "error: m" ∷ codes " --> x.js:1:5" ∷ codes "  |" ∷ codes "1 | a = a;" ∷ codes "  | - x ^" ∷ codes "  |" ∷ codes "  = note: n" ∷ [] ∷ []))
unfolding plain file with_note message place note lines digits char_width chars lib.Utf8.encode
page_with_note same = record {
  page = tt;
  headed = record { rest = _; is = refl };
  whole = record {
    own = lines (codes "error: m" ∷ codes " --> x.js:1:5" ∷ codes "  |" ∷ codes "1 | a = a;" ∷ codes "  | - x ^" ∷ []);
    notes = lines (codes "  = note: n" ∷ []);
    suggestions = [];
    is = refl;
    own_part = record {
      told = tt;
      rows = codes " --> x.js:1:5" ∷ codes "  |" ∷ codes "1 | a = a;" ∷ codes "  | - x ^" ∷ [];
      is = refl;
      drawn = refl;
      behind = (codes "  |" ∷ codes "1 | a = a;" ∷ codes "  | - x ^" ∷ [], refl, (codes "  |" ∷ [], codes "1 | a = a;", codes "  | - x ^" ∷ [], refl, record { gutter = codes " "; is = refl }, λ _. record { underlined = refl; labels = refl }, tt));
    };
    note_parts = (lines (codes "  = note: n" ∷ []), [], refl, refl, refl);
    suggestion_parts = refl;
  };
}

way : Text → Suggestion
unfolding place
way text = record { substitutions = (record { span = place 4 5; snippet = codes "b" } ∷ []) ∷ (record { span = place 4 5; snippet = text } ∷ []) ∷ []; msg = codes "use"; show_code_when_inline = true; applicability = Unspecified }

-- two ways to write the span
with_ways : Report
unfolding message place way
with_ways = record { level = Error; message = message (codes "m"); code = None; span = record { primary = place 4 5 ∷ []; labels = [] }; children = []; suggestions = way (codes "c") ∷ [] }

page_with_ways : Shows plain with_ways (lines (codes "error: m" ∷ codes " --> x.js:1:5" ∷ codes "  |" ∷ codes "1 | a = a;" ∷ codes "  |     ^" ∷ codes "help: use" ∷ codes "  |" ∷ codes "1 | a = b;" ∷ codes "  |     ^" ∷ codes "1 | a = c;" ∷ codes "  |     ^" ∷ [] ∷ []))
unfolding plain file with_ways way message place lines digits char_width chars trim_end trim_start lib.Utf8.encode
page_with_ways same = record {
  page = tt;
  headed = record { rest = _; is = refl };
  whole = record {
    own = lines (codes "error: m" ∷ codes " --> x.js:1:5" ∷ codes "  |" ∷ codes "1 | a = a;" ∷ codes "  |     ^" ∷ []);
    notes = [];
    suggestions = lines (codes "help: use" ∷ codes "  |" ∷ codes "1 | a = b;" ∷ codes "  |     ^" ∷ codes "1 | a = c;" ∷ codes "  |     ^" ∷ []);
    is = refl;
    own_part = record {
      told = refl;
      rows = codes " --> x.js:1:5" ∷ codes "  |" ∷ codes "1 | a = a;" ∷ codes "  |     ^" ∷ [];
      is = refl;
      drawn = refl;
      behind = (codes "  |" ∷ codes "1 | a = a;" ∷ codes "  |     ^" ∷ [], refl, (codes "  |" ∷ [], codes "1 | a = a;", codes "  |     ^" ∷ [], refl, record { gutter = codes " "; is = refl }, λ _. record { underlined = refl; labels = refl }, tt));
    };
    note_parts = refl;
    suggestion_parts = (
      lines (codes "help: use" ∷ codes "  |" ∷ codes "1 | a = b;" ∷ codes "  |     ^" ∷ codes "1 | a = c;" ∷ codes "  |     ^" ∷ []),
      [],
      refl,
      refl,
      refl,
    );
  };
}

bare : Setting
bare = record { map = None; short = false; ui_testing = false; skip_filename = false }

-- without files the header and the notes stand alone
page_without_files : Shows bare with_note (lines (codes "error: m" ∷ codes "  |" ∷ codes "  = note: n" ∷ [] ∷ []))
unfolding bare with_note message place note lines digits
page_without_files = record {
  headed = record { rest = _; is = refl };
  whole = record {
    own = lines (codes "error: m" ∷ []);
    notes = lines (codes "  = note: n" ∷ []);
    is = refl;
    own_part = refl;
    note_parts = (lines (codes "  = note: n" ∷ []), [], refl, refl, refl);
  };
}
