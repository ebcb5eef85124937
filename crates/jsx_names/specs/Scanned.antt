-- What is kept of a list of events on the way from left to right.
use Rattle.std.specs.Prelude.{◌≡◌, ℕ, List}
use Rattle.jsx_names.specs.Ends.{ends_of}
use Rattle.jsx_names.specs.Events.{Event}
use Rattle.jsx_names.specs.Faults.{Noted}
use Rattle.jsx_names.specs.Tables.{Tells}
use Rattle.jsx_names.specs.declared.late.Scan.{Scan}

-- before event i, with the events es from it on, and behind the declarations ks
pub record Stands (i : ℕ) (es : List Event) (ks : List Noted) (scan : Scan) : Type 0 where
  pub ends : scan.ends.items ≡ ends_of i es
  pub tells : Tells scan.table ks
