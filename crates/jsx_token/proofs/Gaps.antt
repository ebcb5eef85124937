-- Behind a gap stands a token's first character.
use Rattle.std.proofs.Common.{◌≡◌, ℕ, zero, suc, [], ◌∷◌, Bool, true, false, cond, codes, sym, refl, ap}
use Rattle.std.proofs.lemmas.Bool.{false≢true}
use Rattle.jsx_token.specs.Gaps.{IsBehind}
use Rattle.jsx_base.specs.Token.{Text, Gap, Blank, InLineComment, Opening, InBlockComment, Closing, BehindGap, gap_next, gap_after_blank, is_over, behind_gap, skip, is_line_end, begins}

never : (b : Bool) (P : Type 0) → is_over (cond b Blank InLineComment) ≡ true → P
never true P h = absurd (false≢true h)
never false P h = absurd (false≢true h)

inside : (b : Bool) (P : Type 0) → is_over (cond b Closing InBlockComment) ≡ true → P
inside true P h = absurd (false≢true h)
inside false P h = absurd (false≢true h)

over_at : (g : Gap) (c : ℕ) (text : Text) → is_over g ≡ false → is_over (gap_next g c text) ≡ true → is_over (gap_after_blank c text) ≡ true
over_at Blank c text n h = h
over_at InLineComment c text n h = never (is_line_end c) _ h
over_at (Opening zero) c text n h = inside (begins (codes "*/") (c ∷ text)) _ h
over_at (Opening (suc m)) c text n h = absurd (false≢true h)
over_at InBlockComment c text n h = inside (begins (codes "*/") (c ∷ text)) _ h
over_at Closing c text n h = absurd (false≢true h)
over_at BehindGap c text n h = absurd (false≢true (sym n))

behind_at : (b : Bool) (g : Gap) (c : ℕ) (text : Text) → (b ≡ true → is_over (gap_after_blank c text) ≡ true) → (b ≡ false → IsBehind (behind_gap g text)) → IsBehind (cond b (c ∷ text) (behind_gap g text))
behind_at true g c text p q = p refl
behind_at false g c text p q = q refl

pub is_behind : (g : Gap) (text : Text) → is_over g ≡ false → IsBehind (behind_gap g text)
is_behind g [] n = tt
is_behind g (c ∷ text) n = behind_at (is_over (gap_next g c text)) (gap_next g c text) c text (over_at g c text n) (is_behind (gap_next g c text) text)

-- skipping what stands behind a gap does nothing
pub stays : (c : ℕ) (text : Text) → is_over (gap_after_blank c text) ≡ true → skip (c ∷ text) ≡ c ∷ text
stays c text h = ap (λ b. cond b (c ∷ text) (behind_gap (gap_after_blank c text) text)) h
