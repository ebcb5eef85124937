-- The code's events as those of the definitions, without their places, and where they are.
use Rattle.std.specs.Prelude.{ℕ, List, [], map, Option, Some, None, Result, Ok, Err, slice_get}
use Rattle.std.specs.Str.{chars}
use Rattle.jsx_tree.specs.Scopes as scopes
use Rattle.jsx_tree.specs.Clashes.{AtName}
use Rattle.jsx_base.specs.declared.place.BytePos.{BytePos}
use Rattle.jsx_names.specs.Events as events
use Rattle.jsx_names.specs.Faults.{calls, first, first_faulty}
use Rattle.jsx_names.specs.declared.event.EarlyError.{EarlyError}
use Rattle.jsx_names.specs.declared.event.EarlyError.TheVariants as error
use Rattle.jsx_names.specs.declared.event.Frame.{Frame}
use Rattle.jsx_names.specs.declared.event.Frame.TheVariants as frame
use Rattle.jsx_names.specs.declared.event.Sort.{Sort}
use Rattle.jsx_names.specs.declared.event.Sort.TheVariants as sort
use Rattle.jsx_names.specs.declared.event.Event.{Event}
use Rattle.jsx_names.specs.declared.event.Event.TheVariants.{Opens, Enters, Closes, Declares, Refers, Exports, Wants, Evals}

abbrev pub frame_of : Frame → events.Frame
frame_of frame.Module = events.OfModule
frame_of frame.Script = events.OfScript
frame_of frame.Function = events.OfFunction
frame_of frame.Block = events.OfBlock
frame_of frame.Catch = events.OfCatch
frame_of frame.OwnName = events.OfName

abbrev pub sort_of : Sort → scopes.Sort
sort_of sort.Var = scopes.AsVar
sort_of sort.Parameter = scopes.AsParameter
sort_of sort.Function = scopes.AsFunction
sort_of sort.Lexical = scopes.AsLexical

abbrev pub plain : Event → events.Event
plain (Opens f) = events.Opens (frame_of f) []
plain Enters = events.Enters
plain Closes = events.Closes
plain (Declares h s x b) = events.Declares h (sort_of s) (chars x.now) []
plain (Refers x b) = events.Refers (chars x.now) []
plain (Exports x b) = events.Exports (chars x.now) (AtName [])
plain (Wants x b) = events.Wants (chars x.now) (AtName [])
plain (Evals b) = events.Evals []

abbrev pub plain_all : List Event → List events.Event
plain_all es = map plain es

-- the place of a name or an export; scopes have none
abbrev pub place_of : Event → BytePos
place_of (Declares h s x b) = b
place_of (Refers x b) = b
place_of (Exports x b) = b
place_of (Wants x b) = b
place_of (Evals b) = b
place_of e = record { 0 = 0 }

abbrev pub place_at : Option Event → BytePos
place_at (Some e) = place_of e
place_at None = record { 0 = 0 }

abbrev pub place_in : List Event → ℕ → BytePos
place_in es i = place_at (slice_get es i)

-- the early error of these events, by the numbers of the first fault and of the first call
abbrev pub verdict_of : Option ℕ → Option ℕ → List Event → Result Unit EarlyError
verdict_of (Some i) c es = Err (error.Scope (place_in es i))
verdict_of None (Some i) es = Err (error.DirectEval (place_in es i))
verdict_of None None es = Ok tt

abbrev pub verdict : List Event → Result Unit EarlyError
verdict es = verdict_of (first_faulty (plain_all es)) (first (calls 0 (plain_all es))) es
