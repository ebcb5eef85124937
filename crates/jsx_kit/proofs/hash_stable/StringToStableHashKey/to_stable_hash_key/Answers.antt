use Rattle.std.proofs.Common.{ap, sym, subst, ◌≡◌, List, ℕ}
use Rattle.std.proofs.lemmas.Result.{MatchResult-weaker}
use Rattle.std.proofs.lemmas.Cmp.{tied_itself}
use Rattle.std.specs.Cmp.Lexicographic.{slice_cmp}
use Rattle.std.specs.Ordering.{nat_cmp}
use Rattle.std.specs.declared.cmp.Ordering.TheVariants.{Equal}
use Rattle.std.specs.String.{string_bytes, string_cmp_total}
use Rattle.jsx_kit.specs.Fed.{just, text_bytes}
use Rattle.jsx_kit.proofs.hash_stable.StringToStableHashKey.to_stable_hash_key.Goals as goal

pub returns : goal.returns
returns g c =
    MatchResult-weaker c.clone.result c.clone.ensures.cases
    (λ key same. record {
      fed_alike = λ context. ap (λ bytes. just (text_bytes bytes) context) same;
      said_alike = λ context said. tt;
      compares =
          let P : List ℕ → Type 0 = λ bytes. slice_cmp nat_cmp bytes (string_bytes c.args.self.now) ≡ Equal in
          subst P (sym same) (tied_itself string_cmp_total c.args.self.now);
    })
    (λ _ _. tt)
