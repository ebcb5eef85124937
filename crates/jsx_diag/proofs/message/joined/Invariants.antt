use Rattle.std.proofs.Common.{◌≡◌, map, take, string_bytes}
use Rattle.std.specs.List.{flat_map}
use Rattle.jsx_diag.specs.Data.{piece_of}
use Rattle.jsx_diag.proofs.message.joined.Given as goal

abbrev pub invariant-loop-message : goal.invariant-loop-message
invariant-loop-message l = string_bytes l.text ≡ flat_map (λ piece. piece.text) (map piece_of (take l.message-index l.messages))
