use Rattle.std.proofs.Common.{◌≡◌, [], ◌∷◌, ◌++◌, length, map, append_assoc, append-nil, refl, sym, ◌∙◌, ap, subst, false, not, arith, rules}
use Rattle.std.specs.Prelude.{IfSome}
use Rattle.std.proofs.lemmas.List.{map-append}
use Rattle.std.specs.Vec.Iter.{into_iter_items}
use Rattle.jsx_tree.specs.StaticRules.{all_of, is_word}
use Rattle.jsx_tree.specs.Told.{told_pat}
use Rattle.jsx_tree.specs.View.{inside, view_pat}
use Rattle.jsx_operand.proofs.Steps.{plainly}
use Rattle.jsx_operand.specs.Patterns.{is_compound}
use Rattle.jsx_expression.specs.Arrows.{TurnCovers, retold_cover, retold_covers, told_rest, view_rest}
use Rattle.jsx_expression.proofs.CoverLists.{all_yielded, mapped_past, patterns, simple_past, simple_rest, turn_all, turn_none, turn_past, turn_refused, turn_rest}
use Rattle.jsx_expression.proofs.arrow.parameters_of.Goals as goal

pub parameters-init : goal.parameters-init
parameters-init c = record {
  all = refl;
  left = search rules;
  turns = turn_none c.in_ok-all.ensures.items;
  told = ap (map (inside told_pat)) c.in_ok-all.ensures.items;
  rest = refl;
  simple = sym (ap (λ ps. all_of is_word (patterns ps)) c.in_ok-all.ensures.items);
}

pub returns-in_err-parameter-clause-refused : goal.returns-in_err-parameter-clause-refused
returns-in_err-parameter-clause-refused c =
    let at = c.parameters in
    let steps : into_iter_items at.cover-iterator ≡ c.in-Some.cover ∷ into_iter_items c.next.new.self = c.in-Some.ensures.steps.0 in
    let all = ap (λ z. at.yielded ++ z) (sym steps) ∙ (at.invariant.all ∙ c.into_iter-cover-iterator.ensures.into_iter_gives.0) in
    plainly _ c.in_err-parameter.ensures.refused c.from_residual-in_err-parameter.ensures.1 (turn_refused at.yielded c.in-Some.cover (into_iter_items c.next.new.self) all)

pub parameters-preserved : goal.parameters-preserved
parameters-preserved c =
    let at = c.parameters in
    let x = c.in-Some.cover in
    let steps : into_iter_items at.cover-iterator ≡ x ∷ into_iter_items c.next.new.self = c.in-Some.ensures.steps.0 in
    record {
      all = append_assoc at.yielded (x ∷ []) _ ∙ (ap (λ z. at.yielded ++ z) (sym steps) ∙ at.invariant.all);
      left = omega (arith, at.invariant.left, c.in-Some.ensures.steps.1, ap length steps);
      turns = turn_past c.in_ok-parameter.parameter at.invariant.turns c.in_ok-parameter.ensures.read c.in_ok-push.ensures.items;
      told = ap (map (inside told_pat)) c.in_ok-push.ensures.items ∙ mapped_past (inside told_pat) retold_cover at.yielded x at.all.items c.in_ok-parameter.parameter at.invariant.told c.in_ok-parameter.ensures.told;
      rest = at.invariant.rest;
      simple = simple_past at.all.items c.in_ok-parameter.parameter at.invariant.simple c.in_ok-parameter.ensures.read (ap not (c.is_compound.ensures ∙ ap (λ p. is_compound (view_pat p)) c.deref.ensures)) refl c.in_ok-push.ensures.items;
    }

pub returns-in-Some-rest-clause-read : goal.returns-in-Some-rest-clause-read
returns-in-Some-rest-clause-read c =
    let at = c.parameters in
    let all = all_yielded (into_iter_items at.cover-iterator) (at.invariant.all ∙ c.into_iter-cover-iterator.ensures.into_iter_gives.0) (sym at.invariant.left ∙ c.in-None.ensures.steps.0) in
    subst (λ o. TurnCovers c.args.group.all.items (view_rest o) (patterns c.push-in-Some-rest.new.self.items)) (sym c.in-Some-rest.is ∙ at.invariant.rest) (turn_rest c.in-Some-rest.rest all at.invariant.turns c.in_ok-push-2.ensures.items)

pub returns-in-Some-rest-clause-told : goal.returns-in-Some-rest-clause-told
returns-in-Some-rest-clause-told c =
    let at = c.parameters in
    let all = all_yielded (into_iter_items at.cover-iterator) (at.invariant.all ∙ c.into_iter-cover-iterator.ensures.into_iter_gives.0) (sym at.invariant.left ∙ c.in-None.ensures.steps.0) in
    ap (map (inside told_pat)) c.in_ok-push-2.ensures.items
    ∙ (map-append (inside told_pat) at.all.items (c.in-Some-rest.rest ∷ []) ∙ (ap (λ ds. ds ++ told_pat c.in-Some-rest.rest.value ∷ []) (at.invariant.told ∙ ap retold_covers all)
    ∙ ap (λ o. retold_covers c.args.group.all.items ++ told_rest o) (sym c.in-Some-rest.is ∙ at.invariant.rest)))

pub returns-in-Some-rest-clause-simple : goal.returns-in-Some-rest-clause-simple
returns-in-Some-rest-clause-simple c = simple_rest c.parameters.all.items c.in-Some-rest.rest (subst (λ o. IfSome o (λ p. is_word (view_pat p.value) ≡ false)) (sym c.parameters.invariant.rest ∙ c.in-Some-rest.is) c.requires.rest) c.in_ok-push-2.ensures.items

pub returns-clause-read : goal.returns-clause-read
returns-clause-read c =
    let at = c.parameters in
    let all = all_yielded (into_iter_items at.cover-iterator) (at.invariant.all ∙ c.into_iter-cover-iterator.ensures.into_iter_gives.0) (sym at.invariant.left ∙ c.in-None.ensures.steps.0) in
    subst (λ o. TurnCovers c.args.group.all.items (view_rest o) (patterns at.all.items)) (sym c.in_default.is ∙ at.invariant.rest) (turn_all all at.invariant.turns)

pub returns-clause-told : goal.returns-clause-told
returns-clause-told c =
    let at = c.parameters in
    let all = all_yielded (into_iter_items at.cover-iterator) (at.invariant.all ∙ c.into_iter-cover-iterator.ensures.into_iter_gives.0) (sym at.invariant.left ∙ c.in-None.ensures.steps.0) in
    at.invariant.told ∙ (ap retold_covers all ∙ (sym (append-nil (retold_covers c.args.group.all.items)) ∙ ap (λ o. retold_covers c.args.group.all.items ++ told_rest o) (sym c.in_default.is ∙ at.invariant.rest)))
