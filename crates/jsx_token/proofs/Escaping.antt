-- The escapes of a template's piece, a character further.
use Rattle.std.proofs.Common.{◌≡◌, ℕ, [], ◌∷◌, true, false, refl, ap, ◌∙◌}
use Rattle.jsx_base.specs.Token.{Text, State, Dead, is_dead}
use Rattle.jsx_tree.specs.StaticRules.{escapes}
use Rattle.jsx_token.specs.Cooked.{further}

pub escaped : (s : State) (c : ℕ) (t : Text) → is_dead s ≡ false → escapes s (c ∷ t) ≡ escapes (further s c) t
escaped Dead c t a = cc
escaped _ c t a = refl

pub escaped_at : (s : State) (c : ℕ) (r t : Text) → is_dead s ≡ false → r ≡ c ∷ t → escapes s r ≡ escapes (further s c) t
escaped_at s c r t a e = ap (escapes s) e ∙ escaped s c t a

pub dead_escapes : (s : State) (t : Text) → is_dead s ≡ true → escapes s t ≡ false
dead_escapes Dead t d = refl
dead_escapes _ t d = cc

pub done_escapes : (s : State) → is_dead s ≡ false → escapes s [] ≡ true
done_escapes Dead d = cc
done_escapes _ d = refl
