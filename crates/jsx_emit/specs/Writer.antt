-- What clients see of an emitter that writes pages.
use Rattle.std.specs.Prelude.{Bool, Option}
use Rattle.std.specs.Option.{option_map}
use Rattle.jsx_emit.specs.declared.emitter_writer.EmitterWriter.{EmitterWriter}
use Rattle.jsx_emit.specs.Shows.{Map, Setting}

abbrev pub sink_of : {S M : Type 0} → EmitterWriter S M → S
sink_of it = it.dst

abbrev pub source_map_of : {S M : Type 0} → EmitterWriter S M → Option M
source_map_of it = it.source_map

-- whether it writes the header alone
abbrev pub is_short : {S M : Type 0} → EmitterWriter S M → Bool
is_short it = it.look.short

-- whether it leaves out the numbers of lines
abbrev pub leaves_numbers : {S M : Type 0} → EmitterWriter S M → Bool
leaves_numbers it = it.look.ui_testing

-- whether it leaves out places
abbrev pub leaves_places : {S M : Type 0} → EmitterWriter S M → Bool
leaves_places it = it.look.skip_filename

-- how it is set, where a map is seen so
abbrev pub setting_of : {S M : Type 0} → (M → Map) → EmitterWriter S M → Setting
setting_of map_of it = record { map = option_map map_of (source_map_of it); short = is_short it; ui_testing = leaves_numbers it; skip_filename = leaves_places it }
