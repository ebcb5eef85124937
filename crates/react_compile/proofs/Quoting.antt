-- A literal that grows, one character of the text after the other.
use Rattle.std.proofs.Common.{◌≡◌, ℕ, List, [], ◌∷◌, ◌++◌, ap, sym, ◌∙◌, append_assoc, append-nil, encode_utf8}
use Rattle.std.specs.Str.{IsUtf8, chars}
use Rattle.std.proofs.lemmas.Str.{chars_past_char}
use Rattle.jsx_base.specs.Token.{Text}
use Rattle.react_compile.specs.Made.{escaped, escaped_all, quoted}

-- what stands in the literal, and what is left of the text: together they are the whole
pub begun : (bytes rest text : List ℕ) (u : IsUtf8 text) → rest ≡ text → bytes ≡ [] ++ 34 ∷ [] → bytes ++ escaped_all (chars rest) ≡ 34 ∷ escaped_all (chars text)
begun bytes rest text u same first = ap (λ x. x ++ escaped_all (chars rest)) first ∙ ap (λ x. 34 ∷ escaped_all (chars x)) same

pub one_more : (old new rest left : List ℕ) (c : ℕ) (whole : Text) → IsUtf8 rest → rest ≡ encode_utf8 c ++ left → new ≡ old ++ escaped c → old ++ escaped_all (chars rest) ≡ whole → new ++ escaped_all (chars left) ≡ whole
one_more old new rest left c whole u parts put so_far =
    ap (λ x. x ++ escaped_all (chars left)) put
    ∙ append_assoc old (escaped c) (escaped_all (chars left))
    ∙ ap (λ x. old ++ escaped_all x) (sym (chars_past_char rest left c u parts))
    ∙ so_far

pub all_quoted : (old new rest text : List ℕ) → chars rest ≡ [] → new ≡ old ++ 34 ∷ [] → old ++ escaped_all (chars rest) ≡ 34 ∷ escaped_all (chars text) → new ≡ quoted (chars text)
all_quoted old new rest text over put so_far =
    put ∙ ap (λ x. x ++ 34 ∷ []) (sym (append-nil old) ∙ ap (λ x. old ++ escaped_all x) (sym over) ∙ so_far)
