use Rattle.std.proofs.Common.{ℕ, nat_eq, Bool, ◌||◌, rules, refl, ◌∙◌, tests}
use Rattle.std.specs.List.{list_any}
use Rattle.std.specs.Str.{chars}
use Rattle.std.proofs.lemmas.Iterator.{YieldsList-from_chars}
use Rattle.std.proofs.lemmas.Iterator.Search.{any_from_yields_List}
use Rattle.std.proofs.lemmas.List.Recursion.{same_from_clauses}
use Rattle.jsx_tree.specs.Nonterminals.{has_dash}
use Rattle.react_compile.proofs.tag.has_dash.Goals as goal

is_dash : ℕ → Bool
is_dash c = nat_eq c 45

pub returns : goal.returns
unfolding is_dash
returns c =
    let text = c.args.name.now in
    any_from_yields_List is_dash _ _ c.any.result c.any.ensures.ran (YieldsList-from_chars text c.utf8.name c.chars.ensures.rest) (λ x b q k. search (rules, tests))
    ∙ same_from_clauses (list_any is_dash) has_dash (λ x b. nat_eq x 45 || b) refl (λ _ _. refl) (λ _ _. refl) (chars text)
