-- The body of a function: where it ends, and what its directives say of it.
use Rattle.std.proofs.Common.{◌≡◌, ℕ, suc, nat_le, Bool, true, false, cond, List, [], ◌∷◌, map, codes, arith, refl, sym}
use Rattle.std.specs.Prelude.{◌||◌, IsTrue}
use Rattle.std.specs.List.{list_any}
use Rattle.std.specs.Str.{bytes_eq, chars, IsUtf8}
use Rattle.std.proofs.lemmas.Bool.{le-leb}
use lib.Utf8.{encode}
use Rattle.jsx_base.specs.Token.{among}
use Rattle.jsx_tree.specs.declared.text.Text.{Text}
use Rattle.jsx_tree.specs.Kinds.{Forest}
use Rattle.jsx_tree.specs.Reading.{Place}
use Rattle.jsx_tree.specs.StaticRules.{Surroundings, count_of, is_strict_directive}
use Rattle.jsx_tree.specs.View.{directive, forest}
use Rattle.jsx_tree.specs.Walk.{tree, Walk, done, next, steady}
use Rattle.jsx_tree.specs.Language.{Whole}
use Rattle.jsx_tree.specs.Answers.{OnlyRow}
use Rattle.jsx_token.specs.Growths.{settled}
use Rattle.jsx_token.proofs.Spellings.{same_bytes}
use Rattle.jsx_operand.specs.Bodies.{body_row}
use Rattle.jsx_operand.specs.SoFar.{so_far}
use Rattle.jsx_operand.proofs.Values.{sign_ended}

pub body_ended : {v : Surroundings} {x y : Place} {ts : Forest} → OnlyRow so_far v body_row x ts y → IsTrue (settled y)
body_ended {v} {x} {y} o = at o.walk
  where
    at : {us : Forest} → Walk (Whole so_far) (steady v) body_row x us y → settled y ≡ true
    at (next (tree q) (next close (done f))) = sign_ended close

-- ---- the directive that makes code strict

pub any_strict : (bs : List ℕ) → IsUtf8 bs → list_any (λ y. bytes_eq y bs) (codes "\"use strict\"" ∷ codes "'use strict'" ∷ []) ≡ among (chars bs) (codes "\"use strict\"" ∷ codes "'use strict'" ∷ [])
unfolding encode
any_strict bs u = λ i. same_bytes (codes "\"use strict\"") bs u refl i || (same_bytes (codes "'use strict'") bs u refl i || false)

one_more : (b : Bool) (n : ℕ) → b ≡ nat_le 1 n → (c : Bool) → (c || b) ≡ nat_le 1 (cond c (suc n) n)
one_more b n e true = sym (le-leb 1 (suc n) (omega arith))
one_more b n e false = e

-- one of some directives makes it so
pub strict_of_any : (ds : List Text) → list_any (λ d. is_strict_directive (directive d)) ds ≡ nat_le 1 (count_of is_strict_directive (forest (map directive ds)))
strict_of_any [] = refl
strict_of_any (d ∷ ds) = one_more _ _ (strict_of_any ds) (is_strict_directive (directive d))
