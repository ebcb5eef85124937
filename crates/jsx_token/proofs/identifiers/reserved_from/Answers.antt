use Rattle.std.proofs.Common.{◌≡◌, ℕ, List, [], ◌∷◌, refl, arith}
use Rattle.std.proofs.lemmas.Bool.{ne_eqb}
use Rattle.jsx_tree.specs.Nonterminals as grammar
use Rattle.jsx_token.proofs.Tables.{at, neither, passes_none}
use Rattle.jsx_token.proofs.identifiers.reserved_from.Goals as goal

-- the letters that words begin with
abbrev letters : List ℕ
letters = 97 ∷ 98 ∷ 99 ∷ 100 ∷ 101 ∷ 102 ∷ 105 ∷ 108 ∷ 110 ∷ 112 ∷ 114 ∷ 115 ∷ 116 ∷ 118 ∷ 119 ∷ 121 ∷ []

pub returns-in-97 : goal.returns-in-97
returns-in-97 c = at _ 97 _ grammar.reserved c.in-97.is refl

pub returns-in-98 : goal.returns-in-98
returns-in-98 c = at _ 98 _ grammar.reserved c.in-98.is refl

pub returns-in-99 : goal.returns-in-99
returns-in-99 c = at _ 99 _ grammar.reserved c.in-99.is refl

pub returns-in-100 : goal.returns-in-100
returns-in-100 c = at _ 100 _ grammar.reserved c.in-100.is refl

pub returns-in-101 : goal.returns-in-101
returns-in-101 c = at _ 101 _ grammar.reserved c.in-101.is refl

pub returns-in-102 : goal.returns-in-102
returns-in-102 c = at _ 102 _ grammar.reserved c.in-102.is refl

pub returns-in-105 : goal.returns-in-105
returns-in-105 c = at _ 105 _ grammar.reserved c.in-105.is refl

pub returns-in-108 : goal.returns-in-108
returns-in-108 c = at _ 108 _ grammar.reserved c.in-108.is refl

pub returns-in-110 : goal.returns-in-110
returns-in-110 c = at _ 110 _ grammar.reserved c.in-110.is refl

pub returns-in-112 : goal.returns-in-112
returns-in-112 c = at _ 112 _ grammar.reserved c.in-112.is refl

pub returns-in-114 : goal.returns-in-114
returns-in-114 c = at _ 114 _ grammar.reserved c.in-114.is refl

pub returns-in-115 : goal.returns-in-115
returns-in-115 c = at _ 115 _ grammar.reserved c.in-115.is refl

pub returns-in-116 : goal.returns-in-116
returns-in-116 c = at _ 116 _ grammar.reserved c.in-116.is refl

pub returns-in-118 : goal.returns-in-118
returns-in-118 c = at _ 118 _ grammar.reserved c.in-118.is refl

pub returns-in-119 : goal.returns-in-119
returns-in-119 c = at _ 119 _ grammar.reserved c.in-119.is refl

pub returns-in-121 : goal.returns-in-121
returns-in-121 c = at _ 121 _ grammar.reserved c.in-121.is refl

pub returns-in_default : goal.returns-in_default
returns-in_default c = let b = c.args.first in passes_none b letters grammar.reserved
    (neither _ _ (ne_eqb b 97 (λ (is : b ≡ 97). omega arith))
    (neither _ _ (ne_eqb b 98 (λ (is : b ≡ 98). omega arith))
    (neither _ _ (ne_eqb b 99 (λ (is : b ≡ 99). omega arith))
    (neither _ _ (ne_eqb b 100 (λ (is : b ≡ 100). omega arith))
    (neither _ _ (ne_eqb b 101 (λ (is : b ≡ 101). omega arith))
    (neither _ _ (ne_eqb b 102 (λ (is : b ≡ 102). omega arith))
    (neither _ _ (ne_eqb b 105 (λ (is : b ≡ 105). omega arith))
    (neither _ _ (ne_eqb b 108 (λ (is : b ≡ 108). omega arith))
    (neither _ _ (ne_eqb b 110 (λ (is : b ≡ 110). omega arith))
    (neither _ _ (ne_eqb b 112 (λ (is : b ≡ 112). omega arith))
    (neither _ _ (ne_eqb b 114 (λ (is : b ≡ 114). omega arith))
    (neither _ _ (ne_eqb b 115 (λ (is : b ≡ 115). omega arith))
    (neither _ _ (ne_eqb b 116 (λ (is : b ≡ 116). omega arith))
    (neither _ _ (ne_eqb b 118 (λ (is : b ≡ 118). omega arith))
    (neither _ _ (ne_eqb b 119 (λ (is : b ≡ 119). omega arith))
    (neither _ _ (ne_eqb b 121 (λ (is : b ≡ 121). omega arith)) refl)))))))))))))))) refl
