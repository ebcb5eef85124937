-- The order of the events of a program: that of the text.
use Rattle.std.specs.Prelude.{List, [], ◌∷◌, Bool, true, not, ◌&&◌}
use Rattle.jsx_tree.specs.Clashes.{Place, AtName}
use Rattle.jsx_names.specs.Events.{Event, Declares, Exports, Wants}
use Rattle.jsx_names.specs.Least.{is_out}

-- where names are declared, exported and wanted: where early errors on names may be
abbrev pub places_in : List Event → List Place
places_in [] = []
places_in (Declares h r t p ∷ es) = AtName p ∷ places_in es
places_in (Exports t a ∷ es) = a ∷ places_in es
places_in (Wants t a ∷ es) = a ∷ places_in es
places_in (e ∷ es) = places_in es

abbrev pub none_before : Place → List Place → Bool
none_before a [] = true
none_before a (b ∷ bs) = not (is_out a b) && none_before a bs

-- each is behind those that stand in front of it, or at the same place
abbrev pub rising : List Place → Bool
rising [] = true
rising (a ∷ as') = none_before a as' && rising as'
