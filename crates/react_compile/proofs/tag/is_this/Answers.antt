use Rattle.std.proofs.Common.{◌≡◌, ℕ, List, codes, refl, sym, ap, ◌∙◌, Decides}
use Rattle.std.specs.Str.{chars, IsUtf8}
use Rattle.std.proofs.lemmas.Str.{encodes-chars}
use Rattle.std.proofs.Math.Utf8.{encodes}
use Rattle.std.proofs.lemmas.Slice.Eq.{slice_eq-Decides}
use Rattle.std.proofs.lemmas.Bool.Decides.{same_from_decides, Decides-eqb}
use Rattle.jsx_base.specs.Token.{same}
use Rattle.react_compile.proofs.Tests.{same_is}
use Rattle.react_compile.proofs.Characters.{chars_ascii, encodes_ascii}
use Rattle.react_compile.proofs.tag.is_this.Goals as goal

this_is : (bs : List ℕ) → IsUtf8 bs → Decides (same (chars bs) (codes "this")) (bs ≡ codes "this")
this_is bs u = (
  λ h. sym (encodes-chars bs u) ∙ ap encodes (same_is (chars bs) (codes "this") h) ∙ encodes_ascii (codes "this") refl,
  λ h. ap (λ t. same t (codes "this")) (ap chars h ∙ chars_ascii (codes "this") refl),
)

pub returns : goal.returns
returns c =
    let text = c.args.name.now in
    same_from_decides c.eq.result (same (chars text) (codes "this")) (slice_eq-Decides Decides-eqb text (codes "this") c.eq.result c.eq.ensures) (this_is text c.utf8.name)
