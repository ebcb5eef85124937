-- When a text is a page of a report, also over files whose map shows other spans in place of those of macros.
use Rattle.std.specs.Prelude.{◌≡◌, Bool, Option, Some, None}
use Rattle.std.specs.Bool.{MatchBool}
use Rattle.jsx_diag.specs.Data.{Text, Report}
use Rattle.jsx_emit.specs.Shows.{Map, Setting, Long, ShowsOver, look_of}
use Rattle.jsx_emit.specs.Texts.{called_over, short_page, shown_report}

-- the page is that of the report whose spans have moved
abbrev pub ShowsCalled : Setting → Option Map → Bool → Report → Text → Type 0
ShowsCalled set None backtrace report text = Unit {0}
ShowsCalled set (Some map) backtrace report text =
    MatchBool set.short
    (text ≡ short_page (Some map) (called_over (Some map.call_span) backtrace (shown_report report)))
    (Long (look_of set map.offset_line) map.files (called_over (Some map.call_span) backtrace (shown_report report)) text)

pub record ShowsEach (set : Setting) (map : Option Map) (backtrace : Bool) (report : Report) (text : Text) : Type 0 where
  pub shows : ShowsOver set map report text
  pub called : ShowsCalled set map backtrace report text

-- a text is a page of a report, where calls of macros are shown or not
abbrev pub ShowsAny : Setting → Bool → Report → Text → Type 0
ShowsAny set backtrace report text = ShowsEach set set.map backtrace report text
