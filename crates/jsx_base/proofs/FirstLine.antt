-- The first line of a text in UTF-8.
use Rattle.std.proofs.Common.{◌≡◌, ℕ, suc, ◌-◌, List, [], ◌∷◌, ◌++◌, length, take, drop, get_or, nat_eq, Option, Some, None, take-append-drop, length-drop, refl, ap, sym, ◌∙◌, subst, arith}
use Rattle.std.specs.Str.{IsUtf8, IsCharBoundary, NoCharPasses, chars}
use Rattle.std.specs.Str.Pattern.{HasCharAt}
use Rattle.std.specs.Borrow.{Bor}
use Rattle.std.specs.Prelude.{MatchOption}
use Rattle.std.proofs.lemmas.Str.Pattern.{IsSplitOnceResult}
use Rattle.std.proofs.lemmas.Str.{encodes_same, encodes-chars, encode_ascii, chars-append, IsUtf8-take, IsUtf8-drop, IsUtf8-past_char, IsCharBoundary-before_ascii}
use Rattle.std.proofs.lemmas.List.{length-take-le}
use Rattle.jsx_base.specs.Lines.{lines, size}
use Rattle.jsx_base.specs.LineStarts.{Split}
use Rattle.jsx_base.proofs.LineParts.{NoEnd, lines_single, lines_first}

pub chars_end : (rest : List ℕ) → chars (10 ∷ rest) ≡ 10 ∷ chars rest
unfolding chars
chars_end [] = refl
chars_end (b ∷ rest) = refl

no_end : (bs : List ℕ) → IsUtf8 bs → NoCharPasses (λ d. nat_eq d 10) bs → NoEnd (chars bs)
no_end bs utf8 (cs, is, none) = subst NoEnd (encodes_same cs (chars bs) (is ∙ sym (encodes-chars bs utf8))) none

pub only_line : (bs : List ℕ) → IsUtf8 bs → NoCharPasses (λ d. nat_eq d 10) bs → lines (chars bs) ≡ chars bs ∷ []
only_line bs utf8 none = lines_single (chars bs) (no_end bs utf8 none)

pub size-chars : (bs : List ℕ) → IsUtf8 bs → size (chars bs) ≡ length bs
size-chars bs utf8 = ap length (encodes-chars bs utf8)

pub split_line_is : (bs line rest : List ℕ) (i j : ℕ) → IsUtf8 bs → NoCharPasses (λ d. nat_eq d 10) (take i bs) → HasCharAt 10 bs i j → line ≡ take i bs → rest ≡ drop j bs → Split bs line rest
split_line_is bs line rest i j utf8 none at is-line is-rest =
    let split : drop i bs ≡ 10 ∷ drop j bs = at.split ∙ ap (λ z. z ++ drop j bs) (encode_ascii 10 (omega arith)) in
    let whole : bs ≡ take i bs ++ 10 ∷ drop j bs = sym (take-append-drop i bs) ∙ ap (λ z. take i bs ++ z) split in
    let long : length bs - i ≡ suc (length (drop j bs)) = sym (length-drop i bs) ∙ ap length split in
    let byte : get_or bs i 0 ≡ 10 = at.byte (omega arith) in
    let boundary : IsCharBoundary bs i = IsCharBoundary-before_ascii bs i (omega arith) (omega arith) in
    let front : IsUtf8 (take i bs) = IsUtf8-take bs i utf8 boundary in
    let back : IsUtf8 (10 ∷ drop j bs) = subst (λ z. IsUtf8 z) split (IsUtf8-drop bs i utf8 boundary) in
    let after : IsUtf8 (drop j bs) = IsUtf8-past_char (10 ∷ drop j bs) (drop j bs) 10 back (ap (λ z. z ++ drop j bs) (sym (encode_ascii 10 (omega arith)))) in
    let wide : size (chars line) ≡ length line = ap (λ z. size (chars z)) is-line ∙ size-chars (take i bs) front ∙ ap length (sym is-line) in record {
      lines_are =
          ap (λ z. lines (chars z)) whole
          ∙ ap lines (chars-append (take i bs) (10 ∷ drop j bs) front ∙ ap (λ z. chars (take i bs) ++ z) (chars_end (drop j bs)))
          ∙ lines_first (chars (take i bs)) (chars (drop j bs)) (no_end (take i bs) front none)
          ∙ ap (λ z. chars z ∷ lines (chars (drop j bs))) (sym is-line)
          ∙ ap (λ z. chars line ∷ lines (chars z)) (sym is-rest);
      bytes = omega (arith, wide, ap length is-line, ap length is-rest, long, length-take-le i bs (omega arith));
      width = wide;
      text = subst (λ z. IsUtf8 z) (sym is-rest) after;
    }

pub split_line_result : (bs : List ℕ) (r : Option (Bor (List ℕ) × Bor (List ℕ))) → IsUtf8 bs → IsSplitOnceResult 10 bs r → MatchOption r (lines (chars bs) ≡ chars bs ∷ []) (λ it. Split bs it.0.now it.1.now)
split_line_result bs None utf8 none = only_line bs utf8 none
split_line_result bs (Some it) utf8 h = split_line_is bs it.0.now it.1.now h.0 h.1 utf8 h.2.0 h.2.1 h.3 h.4
