-- What is found at the front of a text is its next token, or its end.
use Rattle.std.proofs.Common.{◌≡◌, [], ◌∷◌, ◌++◌, Bool, true, false, refl, sym, ap, ◌∙◌, subst}
use Rattle.std.proofs.lemmas.Bool.{false≢true}
use Rattle.jsx_base.specs.Token.{Text, Mode, NoToken, is_kind, same, at_front}
use Rattle.jsx_lex.specs.declared.token.TokenKind.{TokenKind}
use Rattle.jsx_lex.specs.declared.token.TokenKind.TheVariants as token
use Rattle.jsx_lex.specs.Front.{IsFound, IsNext}
use Rattle.jsx_lex.specs.Kinds.{kind_of}
pub use Rattle.jsx_base.proofs.Lexemes.{whole}

-- the end, and a token that isn't

kind_clash : (k : TokenKind) → is_kind (kind_of k) NoToken ≡ false → k ≡ token.End → ⊥
kind_clash k h e = false≢true (sym (sym (ap (λ k. is_kind (kind_of k) NoToken) e) ∙ h))

pub next_is : (m : Mode) (f : Bool) (text : Text) (k : TokenKind) (rest : Text) → same text [] ≡ false → IsFound (at_front m f text) k rest → IsNext m f text k rest
next_is m f text k rest n x = record {
  kind_is = sym x.kind_is;
  rest_is = sym x.rest_is;
  spelled = x.spelled;
  raw_is = sym (ap (λ r. (at_front m f text).raw ++ r) (sym x.rest_is) ∙ whole m f text (ap (λ j. is_kind j NoToken) x.kind_is ∙ x.is_some));
  end_is = (λ e. absurd (kind_clash k x.is_some e), λ h. absurd (false≢true (sym n ∙ h)));
}

same_nil : (text : Text) → same text [] ≡ true → text ≡ []
same_nil [] h = refl
same_nil (c ∷ text) h = absurd (false≢true h)

pub end_is : (m : Mode) (f : Bool) (text : Text) → same text [] ≡ true → IsNext m f text token.End text
end_is m f text h =
    subst (λ t. IsNext m f t token.End t) (sym (same_nil text h))
    (record { kind_is = refl; rest_is = refl; spelled = λ e. absurd (false≢true e); raw_is = refl; end_is = (λ _. refl, λ _. refl) })
