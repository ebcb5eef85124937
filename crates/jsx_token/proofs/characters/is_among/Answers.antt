use Rattle.std.proofs.Common.{rules, tests, Bor, List, ℕ}
use Rattle.std.specs.Str.{bytes_eq}
use Rattle.std.proofs.lemmas.Iterator.{YieldsList-from_slice}
use Rattle.std.proofs.lemmas.Iterator.Search.{any_from_yields_List}
use Rattle.jsx_token.proofs.characters.is_among.Goals as goal

pub returns : goal.returns
returns c = any_from_yields_List (λ (w : Bor (List ℕ)). bytes_eq w.now c.args.text.now) _ _ _ c.any.ensures.ran (YieldsList-from_slice c.args.words.now cc) (λ x b q k. search (rules, tests))
