use Rattle.std.proofs.Common.{◌≡◌, [], ◌∷◌, ◌++◌, ap, sym, ◌∙◌, subst, rules}
use Rattle.std.specs.Str.{IsUtf8, chars}
use Rattle.std.specs.Str.Iter.{chars_rest}
use Rattle.std.proofs.lemmas.Str.{IsUtf8-past_char, chars-nil}
use Rattle.std.proofs.StrCases.{chars_of_empty}
use Rattle.react_compile.proofs.Quoting.{begun, one_more, all_quoted}
use Rattle.react_compile.proofs.literal.quoted.Goals as goal

pub loop-c-init : goal.loop-c-init
loop-c-init c =
    let whole : chars_rest c.into_iter-c-iterator.result ≡ c.args.text.now = search rules in (
      subst IsUtf8 (sym whole) c.utf8.text,
      begun _ _ _ c.utf8.text whole (c.in_ok-put.ensures ∙ ap (λ x. x ++ 34 ∷ []) (ap chars c.new-literal.ensures.bytes ∙ chars-nil)),
    )

pub loop-c-preserved : goal.loop-c-preserved
loop-c-preserved c =
    let held = c.loop-c.invariant in
    let parts = c.in-Some.ensures.steps.0 in (
      IsUtf8-past_char _ _ c.in-Some.c held.0 parts,
      one_more _ _ _ _ c.in-Some.c _ held.0 parts c.in_ok-put_escaped.ensures held.1,
    )

pub returns : goal.returns
returns c = all_quoted _ _ _ _ (chars_of_empty _ c.in-None.ensures.steps.0.0) c.in_ok-put-2.ensures c.loop-c.invariant.1
