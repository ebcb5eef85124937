-- A word as a text and as bytes.
use Rattle.std.proofs.Common.{◌≡◌, ℕ, Bool, true, false, List, refl, sym, ◌∙◌, ap}
use Rattle.std.specs.Prelude.{◌&&◌, codes}
use Rattle.std.specs.Str.{chars, bytes_eq, IsUtf8}
use Rattle.std.proofs.lemmas.Str.{chars-encodes, encodes-chars}
use Rattle.std.proofs.lemmas.Slice.Eq.{bytes_eq-Decides}
use lib.Utf8.{encode, scalars, encodes}
use Rattle.jsx_base.specs.Token.{Text, same}
use Rattle.jsx_tree.proofs.Tokens.{and_left, and_right, same_is, same_self}

-- whether the characters of the word are its bytes
abbrev is_plain : Text → Bool
is_plain w = bytes_eq (encodes w) w && scalars w

by_both : (a b : Bool) → (a ≡ true → b ≡ true) → (b ≡ true → a ≡ true) → a ≡ b
by_both true b f g = sym (f refl)
by_both false true f g = g refl
by_both false false f g = refl

same_bytes : (w bs : List ℕ) → IsUtf8 bs → is_plain w ≡ true → bytes_eq bs w ≡ same (chars bs) w
same_bytes w bs u p =
    let e : encodes w ≡ w = (bytes_eq-Decides (encodes w) w).0 (and_left _ _ p) in
    by_both _ _
    (λ is. let f : w ≡ bs = sym ((bytes_eq-Decides bs w).0 is) in
    let g : chars bs ≡ w = ap chars (sym f) ∙ (ap chars (sym e) ∙ chars-encodes w (and_right _ _ p)) in
    ap (λ t. same t w) g ∙ same_self w)
    (λ is. (bytes_eq-Decides bs w).1 (let g : chars bs ≡ w = same_is _ _ is in sym (sym e ∙ (ap encodes (sym g) ∙ encodes-chars bs u))))

pub same_async : (bs : List ℕ) → IsUtf8 bs → bytes_eq bs (codes "async") ≡ same (chars bs) (codes "async")
unfolding encode
same_async bs u = same_bytes (codes "async") bs u refl
