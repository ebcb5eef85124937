-- A word of the code as its characters.
use Rattle.std.proofs.Common.{◌≡◌, true, refl, sym, ap, ◌∙◌, codes}
use Rattle.std.specs.Str.{chars}
use Rattle.std.proofs.lemmas.Str.{chars-encodes}
use Rattle.std.proofs.lemmas.Slice.Eq.{bytes_eq-Decides}
use lib.Utf8.{encode, encodes}
use Rattle.jsx_base.specs.Token.{Text}
use Rattle.jsx_tree.proofs.Tokens.{and_left, and_right}
use Rattle.jsx_token.proofs.Spellings.{is_plain}

pub spelled : (w : Text) → is_plain w ≡ true → chars w ≡ w
spelled w p = ap chars (sym ((bytes_eq-Decides (encodes w) w).0 (and_left _ _ p))) ∙ chars-encodes w (and_right _ _ p)

pub spelled_default : chars (codes "default") ≡ codes "default"
unfolding encode
spelled_default = spelled (codes "default") refl
