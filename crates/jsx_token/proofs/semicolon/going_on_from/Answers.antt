use Rattle.std.proofs.Common.{◌≡◌, ℕ, List, [], ◌∷◌, refl, arith}
use Rattle.std.proofs.lemmas.Bool.{ne_eqb}
use Rattle.jsx_tree.specs.Reading.{going_on}
use Rattle.jsx_token.proofs.Tables.{at, neither, passes_none}
use Rattle.jsx_token.proofs.semicolon.going_on_from.Goals as goal

-- what the tokens begin with
abbrev firsts : List ℕ
firsts = 40 ∷ 91 ∷ 46 ∷ 44 ∷ 58 ∷ 105 ∷ 63 ∷ 124 ∷ 38 ∷ 94 ∷ 61 ∷ 33 ∷ 60 ∷ 62 ∷ 43 ∷ 45 ∷ 42 ∷ 47 ∷ 37 ∷ []

pub returns-in-40 : goal.returns-in-40
returns-in-40 c = at _ 40 _ going_on c.in-40.is refl

pub returns-in-91 : goal.returns-in-91
returns-in-91 c = at _ 91 _ going_on c.in-91.is refl

pub returns-in-46 : goal.returns-in-46
returns-in-46 c = at _ 46 _ going_on c.in-46.is refl

pub returns-in-44 : goal.returns-in-44
returns-in-44 c = at _ 44 _ going_on c.in-44.is refl

pub returns-in-58 : goal.returns-in-58
returns-in-58 c = at _ 58 _ going_on c.in-58.is refl

pub returns-in-105 : goal.returns-in-105
returns-in-105 c = at _ 105 _ going_on c.in-105.is refl

pub returns-in-63 : goal.returns-in-63
returns-in-63 c = at _ 63 _ going_on c.in-63.is refl

pub returns-in-124 : goal.returns-in-124
returns-in-124 c = at _ 124 _ going_on c.in-124.is refl

pub returns-in-38 : goal.returns-in-38
returns-in-38 c = at _ 38 _ going_on c.in-38.is refl

pub returns-in-94 : goal.returns-in-94
returns-in-94 c = at _ 94 _ going_on c.in-94.is refl

pub returns-in-61 : goal.returns-in-61
returns-in-61 c = at _ 61 _ going_on c.in-61.is refl

pub returns-in-33 : goal.returns-in-33
returns-in-33 c = at _ 33 _ going_on c.in-33.is refl

pub returns-in-60 : goal.returns-in-60
returns-in-60 c = at _ 60 _ going_on c.in-60.is refl

pub returns-in-62 : goal.returns-in-62
returns-in-62 c = at _ 62 _ going_on c.in-62.is refl

pub returns-in-43 : goal.returns-in-43
returns-in-43 c = at _ 43 _ going_on c.in-43.is refl

pub returns-in-45 : goal.returns-in-45
returns-in-45 c = at _ 45 _ going_on c.in-45.is refl

pub returns-in-42 : goal.returns-in-42
returns-in-42 c = at _ 42 _ going_on c.in-42.is refl

pub returns-in-47 : goal.returns-in-47
returns-in-47 c = at _ 47 _ going_on c.in-47.is refl

pub returns-in-37 : goal.returns-in-37
returns-in-37 c = at _ 37 _ going_on c.in-37.is refl

pub returns-in_default : goal.returns-in_default
returns-in_default c = let b = c.args.first in passes_none b firsts going_on
    (neither _ _ (ne_eqb b 40 (λ (is : b ≡ 40). omega arith))
    (neither _ _ (ne_eqb b 91 (λ (is : b ≡ 91). omega arith))
    (neither _ _ (ne_eqb b 46 (λ (is : b ≡ 46). omega arith))
    (neither _ _ (ne_eqb b 44 (λ (is : b ≡ 44). omega arith))
    (neither _ _ (ne_eqb b 58 (λ (is : b ≡ 58). omega arith))
    (neither _ _ (ne_eqb b 105 (λ (is : b ≡ 105). omega arith))
    (neither _ _ (ne_eqb b 63 (λ (is : b ≡ 63). omega arith))
    (neither _ _ (ne_eqb b 124 (λ (is : b ≡ 124). omega arith))
    (neither _ _ (ne_eqb b 38 (λ (is : b ≡ 38). omega arith))
    (neither _ _ (ne_eqb b 94 (λ (is : b ≡ 94). omega arith))
    (neither _ _ (ne_eqb b 61 (λ (is : b ≡ 61). omega arith))
    (neither _ _ (ne_eqb b 33 (λ (is : b ≡ 33). omega arith))
    (neither _ _ (ne_eqb b 60 (λ (is : b ≡ 60). omega arith))
    (neither _ _ (ne_eqb b 62 (λ (is : b ≡ 62). omega arith))
    (neither _ _ (ne_eqb b 43 (λ (is : b ≡ 43). omega arith))
    (neither _ _ (ne_eqb b 45 (λ (is : b ≡ 45). omega arith))
    (neither _ _ (ne_eqb b 42 (λ (is : b ≡ 42). omega arith))
    (neither _ _ (ne_eqb b 47 (λ (is : b ≡ 47). omega arith))
    (neither _ _ (ne_eqb b 37 (λ (is : b ≡ 37). omega arith)) refl))))))))))))))))))) refl
