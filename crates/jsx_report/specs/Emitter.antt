-- What an emitter prints.
use Rattle.std.specs.Prelude.{◌≡◌, Bool, true, false, List, [], ◌∷◌, Option}
use Rattle.jsx_base.specs.Sink.{Gains, GainsPrefix}
use Rattle.jsx_diag.specs.declared.flags.HandlerFlags.{HandlerFlags}
use Rattle.jsx_diag.specs.Data.{Text, Report}

-- the text, where it is told, grows by a page of the report
pub record Prints (shows : Report → Text → Type 0) (report : Report) (old new : Option Text) : Type 0 where
  pub page : Text
  pub shown : shows report page
  pub gained : Gains old new page

-- it grows by some front of such a page
pub record PrintsPrefix (shows : Report → Text → Type 0) (report : Report) (old new : Option Text) : Type 0 where
  pub page : Text
  pub shown : shows report page
  pub gained : GainsPrefix old new page

-- it grows by a page of each of the reports, in their order
abbrev pub PrintsAll : (Report → Text → Type 0) → List Report → Option Text → Option Text → Type 0
PrintsAll shows [] old new = new ≡ old
PrintsAll shows (report ∷ reports) old new = (between : Option Text) × Prints shows report old between × PrintsAll shows reports between new

abbrev pub is_empty : List Report → Bool
is_empty [] = true
is_empty (report ∷ reports) = false

-- it grows by some front of a page of the first of the reports
abbrev pub PrintsFront : (Report → Text → Type 0) → List Report → Option Text → Option Text → Type 0
PrintsFront shows [] old new = ⊥
PrintsFront shows (report ∷ reports) old new = PrintsPrefix shows report old new

-- two emitters give the same pages
pub record ShowAlike (one other : HandlerFlags → Report → Text → Type 0) : Type 0 where
  pub to : (flags : HandlerFlags) (report : Report) (page : Text) → one flags report page → other flags report page
  pub from : (flags : HandlerFlags) (report : Report) (page : Text) → other flags report page → one flags report page
