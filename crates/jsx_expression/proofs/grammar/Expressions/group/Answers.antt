use Rattle.std.proofs.Common.{arith, [], ◌∷◌, ◌++◌, refl, sym, ◌∙◌, ap}
use Rattle.jsx_tree.specs.StaticRules.{is_word}
use Rattle.jsx_token.specs.Here.{left}
use Rattle.jsx_operand.proofs.Placing.{placed_from}
use Rattle.jsx_operand.proofs.Steps.{passed}
use Rattle.jsx_expression.proofs.ArrowOpenings.{group_inside, group_last, group_no_rest, group_rest, group_trailing, group_unread}
use Rattle.jsx_expression.proofs.Parentheses.{passes_more, passes_one}
use Rattle.jsx_expression.proofs.PlacedArrows.{cover_from, cover_to, covers_next, covers_one, covers_to, last_placed, rest_placed, trailing_placed}
use Rattle.jsx_expression.proofs.grammar.Expressions.group.Goals as goal

pub items-init : goal.items-init
items-init g c = record {
  so_far = record { on = λ w z i m. passes_one (c.in_ok-push.ensures.items ∙ ap (λ xs. xs ++ c.args.first ∷ []) c.in_ok-all.ensures.items) i m };
  placed = record { on = λ a z l m. covers_one (c.in_ok-push.ensures.items ∙ ap (λ xs. xs ++ c.args.first ∷ []) c.in_ok-all.ensures.items) l m };
  within = omega arith;
}

-- a comma at the end
pub returns-then-is_before-clause-read : goal.returns-then-is_before-clause-read
returns-then-is_before-clause-read g c = group_trailing _ c.is_before.ensures.stays c.items.invariant.so_far (sym c.is_before.ensures.ahead ∙ c.if-is_before.true) refl refl

pub returns-then-is_before-clause-placed : goal.returns-then-is_before-clause-placed
returns-then-is_before-clause-placed g c = record { on = λ a z l m. trailing_placed _ (covers_to c.is_before.ensures.stays (c.items.invariant.placed.on a z l m)) refl refl }

pub returns-then-is_before-clause-within : goal.returns-then-is_before-clause-within
returns-then-is_before-clause-within g c = omega (arith, ap left c.is_before.ensures.stays, c.items.invariant.within)

-- a rest
pub returns-in_err-rest-clause-refused : goal.returns-in_err-rest-clause-refused
returns-in_err-rest-clause-refused g c = passed _ c.in_err-rest.ensures.refused c.from_residual-in_err-rest.ensures.1
    (λ n. group_no_rest c.is_before.ensures.stays c.items.invariant.so_far (record { is = c.take.ensures.taken c.if-take.true; found = refl }) n)

pub returns-then-take-clause-read : goal.returns-then-take-clause-read
returns-then-take-clause-read g c = group_rest _ c.in_ok-rest.rest c.is_before.ensures.stays c.items.invariant.so_far (record { is = c.take.ensures.taken c.if-take.true; found = refl }) c.in_ok-rest.ensures.read refl

pub returns-then-take-clause-placed : goal.returns-then-take-clause-placed
returns-then-take-clause-placed g c = record {
  on = λ a z l m. rest_placed _ c.in_ok-rest.rest (c.items.invariant.placed.on a z l m) (placed_from c.is_before.ensures.stays (c.in_ok-rest.ensures.placed.on _ (c.take.ensures.takes c.if-take.true) (c.take.ensures.begins c.if-take.true))) refl;
}

pub returns-then-take-clause-rest : goal.returns-then-take-clause-rest
returns-then-take-clause-rest g c = ap is_word c.in_ok-rest.ensures.read.is

pub returns-then-take-clause-within : goal.returns-then-take-clause-within
returns-then-take-clause-within g c = omega (arith, ap left c.is_before.ensures.stays, c.take.ensures.shorter c.if-take.true, c.in_ok-rest.ensures.shorter, c.items.invariant.within)

-- a further cover
pub returns-in_err-next-clause-refused : goal.returns-in_err-next-clause-refused
returns-in_err-next-clause-refused g c = passed _ c.in_err-next.ensures.refused c.from_residual-in_err-next.ensures.1
    (λ n. group_unread c.is_before.ensures.stays (c.take.ensures.stays c.if-take.false) c.items.invariant.so_far (sym c.is_before.ensures.ahead ∙ c.if-is_before.false) (c.take.ensures.missing c.if-take.false) n)

pub items-preserved : goal.items-preserved
items-preserved g c = record {
  so_far = record {
    on = λ w z i m. passes_more (c.items.invariant.so_far.on w z i m)
        (group_inside c.is_before.ensures.stays (c.take.ensures.stays c.if-take.false) (sym c.is_before.ensures.ahead ∙ c.if-is_before.false) (c.take.ensures.missing c.if-take.false) c.in_ok-next.ensures.read c.in_ok-next.ensures.ended)
        (record { is = c.take-in-items.ensures.taken c.if-not-take.false; found = refl }) c.in_ok-push-2.ensures.items;
  };
  placed = record {
    on = λ a z l m. covers_next (c.items.invariant.placed.on a z l m) (cover_from c.is_before.ensures.stays (cover_from (c.take.ensures.stays c.if-take.false) c.in_ok-next.ensures.placed)) (c.take-in-items.ensures.takes c.if-not-take.false) c.in_ok-push-2.ensures.items;
  };
  within = omega (arith, ap left c.is_before.ensures.stays, ap left (c.take.ensures.stays c.if-take.false), c.in_ok-next.ensures.shorter, c.take-in-items.ensures.shorter c.if-not-take.false, c.items.invariant.within);
}

-- the last one
pub returns-then-not-take-clause-read : goal.returns-then-not-take-clause-read
returns-then-not-take-clause-read g c =
    group_last _ (c.take-in-items.ensures.stays c.if-not-take.true) c.items.invariant.so_far
    (group_inside c.is_before.ensures.stays (c.take.ensures.stays c.if-take.false) (sym c.is_before.ensures.ahead ∙ c.if-is_before.false) (c.take.ensures.missing c.if-take.false) c.in_ok-next.ensures.read c.in_ok-next.ensures.ended)
    (c.take-in-items.ensures.missing c.if-not-take.true) c.in_ok-push-2.ensures.items refl refl

pub returns-then-not-take-clause-placed : goal.returns-then-not-take-clause-placed
returns-then-not-take-clause-placed g c = record {
  on = λ a z l m. last_placed _ (c.items.invariant.placed.on a z l m) (cover_to (c.take-in-items.ensures.stays c.if-not-take.true) (cover_from c.is_before.ensures.stays (cover_from (c.take.ensures.stays c.if-take.false) c.in_ok-next.ensures.placed))) c.in_ok-push-2.ensures.items refl;
}

pub returns-then-not-take-clause-within : goal.returns-then-not-take-clause-within
returns-then-not-take-clause-within g c = omega (arith, ap left c.is_before.ensures.stays, ap left (c.take.ensures.stays c.if-take.false), c.in_ok-next.ensures.shorter, ap left (c.take-in-items.ensures.stays c.if-not-take.true), c.items.invariant.within)
