-- What `super` begins (ECMA-262 section 13.3.7): it is told from where that begins, behind another sign.
use Rattle.std.specs.Prelude.{◌≡◌, ℕ}
use Rattle.jsx_tree.specs.Signs.{Sign}
use Rattle.jsx_tree.specs.Kinds.{Tree}
use Rattle.jsx_tree.specs.Grammar.{key}
use Rattle.jsx_tree.specs.Spans.{Told}
use Rattle.jsx_token.specs.Here.{Here}
use Rattle.jsx_token.specs.Places.{Takes, next_of}
use Rattle.jsx_operand.specs.Spans.{IsPlaced}

pub record IsPlacedSuper (s : Sign) (lo : ℕ) (x : Here) (d : Told) (t : Tree) (y : Here) : Type 0 where
  pub on : (a b : Here) → Takes (key "super") a b → lo ≡ next_of a → Takes s b x → IsPlaced d t a y
