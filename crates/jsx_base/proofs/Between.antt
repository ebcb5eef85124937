-- The text between two places.
use Rattle.std.proofs.Common.{◌≡◌, ⊎_elim, ℕ, ◌-◌, ◌≤◌, List, [], ◌∷◌, ◌++◌, length, take, drop, refl, ap, sym, ◌∙◌, subst, arith}
use Rattle.std.specs.Str.{IsUtf8, IsCharBoundary, chars, encode_utf8_all}
use Rattle.std.specs.Char.{len_utf8}
use Rattle.std.proofs.Math.Seq.{drop-append_seam, take-append_seam}
use Rattle.std.proofs.lemmas.Bool.Decides.{leb_tells}
use Rattle.std.proofs.lemmas.Str.{encodes-append, encodes_same, encodes-chars, IsCharBoundary-at_seam, IsUtf8-take}
use Rattle.jsx_base.specs.Lines.{size, front}
use Rattle.jsx_base.proofs.LineAt.{utf8_back}
use Rattle.jsx_base.proofs.Walks.{front_fits, front_full}

-- a front is a front
pub front_prefix : (text : List ℕ) (n : ℕ) → (rest : List ℕ) × (text ≡ front text n ++ rest)
front_prefix [] n = ([], refl)
front_prefix (c ∷ text) n =
    ⊎_elim
    (λ e. let p = front_prefix text (n - len_utf8 c) in (p.0, ap (λ z. c ∷ z) p.1 ∙ ap (λ z. z ++ p.0) (sym (front_fits c text n e.1))))
    (λ e. (c ∷ text, ap (λ z. z ++ c ∷ text) (sym (front_full c text n e.1))))
    (leb_tells (len_utf8 c) n)

-- a shorter front is a front of a longer one
pub front_longer : (text : List ℕ) (a b : ℕ) → a ≤ b → (more : List ℕ) × (front text b ≡ front text a ++ more)
front_longer [] a b order = ([], refl)
front_longer (c ∷ text) a b order =
    ⊎_elim
    (λ e.
    let p = front_longer text (a - len_utf8 c) (b - len_utf8 c) (omega (arith, order, e.1)) in
    (p.0, front_fits c text b (omega (arith, order, e.1)) ∙ ap (λ z. c ∷ z) p.1 ∙ ap (λ z. z ++ p.0) (sym (front_fits c text a e.1))))
    (λ e. (front (c ∷ text) b, ap (λ z. z ++ front (c ∷ text) b) (sym (front_full c text a e.1))))
    (leb_tells (len_utf8 c) a)

pub record Between (bs : List ℕ) (a b : ℕ) : Type 0 where
  pub end : IsCharBoundary bs (size (front (chars bs) b))
  pub begin : IsCharBoundary (take (size (front (chars bs) b)) bs) (size (front (chars bs) a))
  pub is : chars (drop (size (front (chars bs) a)) (take (size (front (chars bs) b)) bs)) ≡ drop (length (front (chars bs) a)) (front (chars bs) b)

pub between : (bs : List ℕ) (a b : ℕ) → IsUtf8 bs → a ≤ b → Between bs a b
between bs a b utf8 order =
    let upto = front (chars bs) b in
    let before = front (chars bs) a in
    let p = front_prefix (chars bs) b in
    let q = front_longer (chars bs) a b order in
    let whole : bs ≡ encode_utf8_all upto ++ encode_utf8_all p.0 = sym (encodes-chars bs utf8) ∙ ap encode_utf8_all p.1 ∙ encodes-append upto p.0 in
    let after : IsUtf8 (encode_utf8_all p.0) = utf8_back upto p.0 (subst (λ z. IsUtf8 z) (whole ∙ sym (encodes-append upto p.0)) utf8) in
    let end : IsCharBoundary bs (size upto) = IsCharBoundary-at_seam bs (encode_utf8_all upto) (encode_utf8_all p.0) whole after in
    let taken : take (size upto) bs ≡ encode_utf8_all upto = ap (take (size upto)) whole ∙ take-append_seam (encode_utf8_all upto) (encode_utf8_all p.0) in
    let parts : take (size upto) bs ≡ encode_utf8_all before ++ encode_utf8_all q.0 = taken ∙ ap encode_utf8_all q.1 ∙ encodes-append before q.0 in
    let middle : IsUtf8 (encode_utf8_all q.0) = utf8_back before q.0 (subst (λ z. IsUtf8 z) (parts ∙ sym (encodes-append before q.0)) (IsUtf8-take bs (size upto) utf8 end)) in record {
      end = end;
      begin = IsCharBoundary-at_seam (take (size upto) bs) (encode_utf8_all before) (encode_utf8_all q.0) parts middle;
      is =
          ap (λ z. chars (drop (size before) z)) parts
          ∙ ap chars (drop-append_seam (encode_utf8_all before) (encode_utf8_all q.0))
          ∙ encodes_same (chars (encode_utf8_all q.0)) q.0 (encodes-chars (encode_utf8_all q.0) middle)
          ∙ sym (ap (drop (length before)) q.1 ∙ drop-append_seam before q.0);
    }
