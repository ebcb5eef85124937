-- So few levels are left that nothing that begins with the tree, and counts round it, is within them.
use Rattle.std.specs.Prelude.{◌≡◌, zero, suc, false, ⊤}
use Rattle.jsx_tree.specs.Kinds.{Tree}
use Rattle.jsx_tree.specs.Faults.{Fault, Unread, Deep}
use Rattle.jsx_depth.specs.Fits.{fits}

abbrev pub Outgrown : Tree → Fault → Type 0
Outgrown t Unread = ⊥
Outgrown t (Deep zero) = ⊤
Outgrown t (Deep (suc n)) = fits n t ≡ false
