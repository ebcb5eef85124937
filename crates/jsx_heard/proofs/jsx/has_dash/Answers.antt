use Rattle.std.proofs.Common.{◌≡◌, [], ◌∷◌, rules, tests, nat_eq, ◌∙◌, ap, refl}
use Rattle.std.specs.Prelude.{◌||◌}
use Rattle.std.specs.List.{list_any}
use Rattle.std.specs.Str.{chars}
use Rattle.std.proofs.lemmas.Iterator.{YieldsList-from_chars}
use Rattle.std.proofs.lemmas.Iterator.Search.{any_from_yields_List}
use Rattle.jsx_base.specs.Token.{Text}
use Rattle.jsx_tree.specs.Nonterminals as grammar
use Rattle.jsx_heard.proofs.jsx.has_dash.Goals as goal

as_any : (t : Text) → list_any (λ c. nat_eq c 45) t ≡ grammar.has_dash t
as_any [] = refl
as_any (c ∷ t) = ap (λ b. nat_eq c 45 || b) (as_any t)

pub returns : goal.returns
returns c = any_from_yields_List (λ x. nat_eq x 45) _ _ _ c.any.ensures.ran (YieldsList-from_chars c.args.name.now c.utf8.name cc) (λ x b q k. search (rules, tests)) ∙ as_any (chars c.args.name.now)
