-- What is behind a gap, and the text's end.
use Rattle.std.proofs.Common.{ℕ, ◌≤◌, [], ◌∷◌, Bool, true, false, cond, length, arith}
use Rattle.jsx_base.specs.Token.{Text, skip, Gap, Blank, gap_next, is_over, behind_gap}

-- a gap has no more characters than the text
within : (b : Bool) (c : ℕ) (x text : Text) → length x ≤ length text → length (cond b (c ∷ text) x) ≤ length (c ∷ text)
within true c x text h = omega arith
within false c x text h = omega arith

behind_within : (g : Gap) (text : Text) → length (behind_gap g text) ≤ length text
behind_within g [] = omega arith
behind_within g (c ∷ text) = within (is_over (gap_next g c text)) c (behind_gap (gap_next g c text) text) text (behind_within (gap_next g c text) text)

pub skip_within : (text : Text) → length (skip text) ≤ length text
skip_within text = behind_within Blank text
