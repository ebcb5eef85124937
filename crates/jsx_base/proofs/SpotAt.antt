-- The line of a place, by the list of line starts.
use Rattle.std.proofs.Common.{◌≡◌, ⊎_elim, nat_le, true, false, ℕ, zero, suc, ◌+◌, ◌-◌, ◌<◌, ◌≤◌, List, [], ◌∷◌, length, take, drop, get_or, refl, ap, sym, ◌∙◌, subst, arith, length-append}
use Rattle.std.specs.Str.{IsUtf8, IsCharBoundary, chars}
use Rattle.std.specs.Char.{len_utf8}
use Rattle.std.proofs.lemmas.Bool.Decides.{leb_tells, nat_tests}
use Rattle.std.proofs.lemmas.List.{length-take-le}
use Rattle.jsx_base.specs.Lines.{lines, last_line, size, front}
use Rattle.jsx_base.specs.LineStarts.{starts}
use Rattle.jsx_base.proofs.LineParts.{size-cons, last_line_of}
use Rattle.jsx_base.proofs.Walks.{front_fits, front_full}
use Rattle.jsx_base.proofs.LineAt.{LineAt, length-starts, found_line, starts_begin}

-- p lines begin at or before a place, the last of them at s
pub record SpotAt (bs : List ℕ) (place p s : ℕ) : Type 0 where
  pub some : 1 ≤ p
  pub low : s ≤ place
  pub boundary : IsCharBoundary bs s
  pub line : length (lines (front (chars bs) place)) ≡ p
  pub last : last_line (lines (front (chars bs) place)) ≡ front (chars (drop s bs)) (place - s)
  pub before : size (front (chars bs) place) ≡ s + size (front (chars (drop s bs)) (place - s))

begins_at_zero : (bs kept : List ℕ) → kept ≡ starts 0 (lines (chars bs)) → (get_or kept 0 0 ≡ 0) × (0 < length kept)
begins_at_zero bs kept are =
    let all = are ∙ starts_begin 0 (chars bs) in
    (ap (λ z. get_or z 0 0) all, subst (λ z. 0 < length z) (sym all) (omega arith))

spot_of_line : (bs kept : List ℕ) (place j s : ℕ) → LineAt bs j s → kept ≡ starts 0 (lines (chars bs)) → s ≤ place → (suc j < length kept → place < get_or kept (suc j) 0) → SpotAt bs place (suc j) s
spot_of_line bs kept place j s at are low next =
    let all = lines (chars bs) in
    let count : length kept ≡ length all = ap length are ∙ length-starts 0 all in
    let ends = at.fronts place low (λ some. subst (λ z. place < get_or z (suc j) 0) are (next (omega (arith, count, at.last, some)))) in record {
      some = omega arith;
      low = low;
      boundary = at.boundary;
      line =
          ap length ends
          ∙ length-append (take j all) (front (chars (drop s bs)) (place - s) ∷ [])
          ∙ omega (arith, length-take-le j all (omega (arith, at.last)));
      last = ap last_line ends ∙ last_line_of (take j all) (front (chars (drop s bs)) (place - s));
      before = at.sizes place low;
    }

pub spot_at : (bs kept : List ℕ) (place p : ℕ) → IsUtf8 bs → kept ≡ starts 0 (lines (chars bs)) → p ≤ length kept → ((k : ℕ) → k < p → get_or kept k 0 ≤ place) → ((k : ℕ) → p ≤ k → k < length kept → place < get_or kept k 0) → SpotAt bs place p (get_or kept (p - 1) 0)
spot_at bs kept place zero utf8 are within until from =
    let z = begins_at_zero bs kept are in
    absurd (let h = from 0 (omega arith) z.1 in omega (arith, h, z.0))
spot_at bs kept place (suc j) utf8 are within until from =
    let back : j ≡ suc j - 1 = omega arith in
    let at = found_line bs kept j (get_or kept j 0) utf8 are (omega arith) refl in
    subst (λ k. SpotAt bs place (suc j) (get_or kept k 0)) back (spot_of_line bs kept place j (get_or kept j 0) at are (until j (omega arith)) (λ more. from (suc j) (omega arith) more))

pub le_of : (a n : ℕ) → nat_le a n ≡ true → a ≤ n
le_of a n passes = grind (arith, nat_tests)

pub lt_of : (a n : ℕ) → nat_le a n ≡ false → n < a
lt_of a n fails = grind (arith, nat_tests)

pub size_front : (text : List ℕ) (n : ℕ) → size (front text n) ≤ n
size_front [] n = omega arith
size_front (c ∷ text) n =
    ⊎_elim
    (λ e. subst (λ z. size z ≤ n) (sym (front_fits c text n e.1)) (let h = size_front text (n - len_utf8 c) in omega (arith, h, e.1, size-cons c (front text (n - len_utf8 c)))))
    (λ e. subst (λ z. size z ≤ n) (sym (front_full c text n e.1)) (omega arith))
    (leb_tells (len_utf8 c) n)
