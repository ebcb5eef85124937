use Rattle.std.proofs.Common.{◌≡◌, true, refl, sym, ◌∙◌, ap, subst}
use Rattle.jsx_tree.specs.Grammar.{key}
use Rattle.jsx_tree.specs.Kinds.{Assigns}
use Rattle.jsx_tree.specs.Reading.{forth}
use Rattle.jsx_tree.specs.Told.{told_expr}
use Rattle.jsx_tree.specs.View.{view_expr}
use Rattle.jsx_token.specs.Here.{place_of}
use Rattle.jsx_token.specs.Growths.{closed}
use Rattle.jsx_token.specs.Places.{end_of}
use Rattle.jsx_make.specs.NodeSpans.{expr_at}
use Rattle.jsx_operand.proofs.Placing.{placed_as, placed_to}
use Rattle.jsx_operand.proofs.Places.{spans_from}
use Rattle.jsx_operand.proofs.Steps.{passed, passed_plain}
use Rattle.jsx_declaration.specs.Heads.{is_async}
use Rattle.jsx_declaration.specs.OpenIn.{opens_whole}
use Rattle.jsx_declaration.proofs.Declaring.{lost_from}
use Rattle.jsx_declaration.proofs.Stems.{initial_as}
use Rattle.jsx_declaration.proofs.Turned.{not_gathered, stem_async, stem_expr, stem_initial, stem_items, stem_keys, stem_no_items, stem_no_keys, stem_no_more, stem_none, stem_open, stem_unended, stem_unsettled}
use Rattle.jsx_declaration.proofs.PlacedNodes.{initial_placed, items_placed, keys_placed}
use Rattle.jsx_declaration.proofs.for_head.value_head.Goals as goal

pub stem-requires-clause-undeclared : goal.stem-requires-clause-undeclared
stem-requires-clause-undeclared g c = c.requires.value.undeclared

pub returns-in_err-first-clause-refused : goal.returns-in_err-first-clause-refused
returns-in_err-first-clause-refused g c = passed _ c.in_err-first.ensures.refused c.from_residual.ensures.1 (λ n. stem_none c.requires.value.unmarked c.requires.value.undeclared n)

pub returns-in_err-aim-clause-refused : goal.returns-in_err-aim-clause-refused
returns-in_err-aim-clause-refused g c = passed_plain _ c.in_err-aim.ensures.refused c.from_residual-in_err-aim.ensures.1
    (λ n. stem_no_keys c.requires.value.unmarked c.requires.value.undeclared c.in_ok-first.ensures.read (record { is = c.take.ensures.taken c.if-take.true; found = refl }) n)

pub returns-then-take-clause-read : goal.returns-then-take-clause-read
returns-then-take-clause-read g c = stem_keys c.requires.value.unmarked c.requires.value.undeclared c.in_ok-first.ensures.read (record { is = c.take.ensures.taken c.if-take.true; found = refl }) c.in_ok-aim.ensures.read

pub returns-then-take-clause-placed : goal.returns-then-take-clause-placed
returns-then-take-clause-placed g c = keys_placed (placed_as c.in_ok-aim.ensures.told refl (c.in_ok-first.ensures.placed.pattern _ c.in_ok-aim.ensures.read)) (c.take.ensures.takes c.if-take.true)

pub returns-then-is_async-clause-refused : goal.returns-then-is_async-clause-refused
returns-then-is_async-clause-refused g c = record {
  bars = λ _ _ _.
      stem_async c.requires.value.unmarked c.requires.value.undeclared c.in_ok-first.ensures.read (c.take.ensures.missing c.if-take.false) (record { is = c.take-2.ensures.taken c.if-take-2.true ∙ ap (λ h. forth (key "of") (place_of h)) (c.take.ensures.stays c.if-take.false); found = refl })
      (ap (λ e. is_async (view_expr e)) (sym c.deref.ensures) ∙ (sym c.is_async.ensures ∙ c.if-is_async.true));
}

pub returns-in_err-aim-2-clause-refused : goal.returns-in_err-aim-2-clause-refused
returns-in_err-aim-2-clause-refused g c = passed_plain _ c.in_err-aim-2.ensures.refused c.from_residual-in_err-aim-2.ensures.1
    (λ n. stem_no_items c.requires.value.unmarked c.requires.value.undeclared c.in_ok-first.ensures.read (c.take.ensures.missing c.if-take.false) (record { is = c.take-2.ensures.taken c.if-take-2.true ∙ ap (λ h. forth (key "of") (place_of h)) (c.take.ensures.stays c.if-take.false); found = refl }) n)

pub returns-then-take-2-clause-read : goal.returns-then-take-2-clause-read
returns-then-take-2-clause-read g c =
    stem_items c.requires.value.unmarked c.requires.value.undeclared c.in_ok-first.ensures.read (c.take.ensures.missing c.if-take.false) (record { is = c.take-2.ensures.taken c.if-take-2.true ∙ ap (λ h. forth (key "of") (place_of h)) (c.take.ensures.stays c.if-take.false); found = refl })
    (ap (λ e. is_async (view_expr e)) (sym c.deref.ensures) ∙ (sym c.is_async.ensures ∙ c.if-is_async.false)) c.in_ok-aim-2.ensures.read

pub returns-then-take-2-clause-placed : goal.returns-then-take-2-clause-placed
returns-then-take-2-clause-placed g c = items_placed (placed_to (c.take.ensures.stays c.if-take.false) (placed_as c.in_ok-aim-2.ensures.told refl (c.in_ok-first.ensures.placed.pattern _ c.in_ok-aim-2.ensures.read))) (c.take-2.ensures.takes c.if-take-2.true)

pub returns-in_err-expr-clause-refused : goal.returns-in_err-expr-clause-refused
returns-in_err-expr-clause-refused g c = passed_plain _ c.in_err-expr.ensures.refused c.from_residual-in_err-expr.ensures.1
    (λ n. stem_unsettled c.requires.value.unmarked c.requires.value.undeclared c.in_ok-first.ensures.read (c.take.ensures.missing c.if-take.false) (lost_from (key "of") (c.take.ensures.stays c.if-take.false) (c.take-2.ensures.missing c.if-take-2.false)) n)

pub more_items-requires-clause-settled : goal.more_items-requires-clause-settled
more_items-requires-clause-settled g c = subst (λ h. closed (place_of h) ≡ true) (sym (c.take-2.ensures.stays c.if-take-2.false ∙ c.take.ensures.stays c.if-take.false)) c.in_ok-first.ensures.read.ended

pub returns-in_err-expr-2-clause-refused : goal.returns-in_err-expr-2-clause-refused
returns-in_err-expr-2-clause-refused g c =
    let e = c.take-2.ensures.stays c.if-take-2.false ∙ c.take.ensures.stays c.if-take.false in
    passed _ c.in_err-expr-2.ensures.refused c.from_residual-in_err-expr-2.ensures.1
    (λ n. stem_no_more c.requires.value.unmarked c.requires.value.undeclared c.in_ok-first.ensures.read (c.take.ensures.missing c.if-take.false) (lost_from (key "of") (c.take.ensures.stays c.if-take.false) (c.take-2.ensures.missing c.if-take-2.false)) c.in_ok-expr.ensures.is (not_gathered c.in_ok-first.first c.in_ok-expr.ensures.expr e n))

pub returns-then-head_has_open_in-clause-refused : goal.returns-then-head_has_open_in-clause-refused
returns-then-head_has_open_in-clause-refused g c =
    let e = c.take-2.ensures.stays c.if-take-2.false ∙ c.take.ensures.stays c.if-take.false in
    let s = c.in_ok-first.ensures.read in
    let a = c.take.ensures.missing c.if-take.false in
    record {
      bars = λ _ _ _. stem_open c.requires.value.unmarked c.requires.value.undeclared s a (lost_from (key "of") (c.take.ensures.stays c.if-take.false) (c.take-2.ensures.missing c.if-take-2.false)) (c.in_ok-expr-2.ensures.read.reads _ (stem_expr c.in_ok-expr.ensures.expr e s a c.in_ok-expr.ensures.is))
          (ap (λ e. opens_whole (view_expr e)) (sym c.deref-2.ensures) ∙ (sym c.head_has_open_in.ensures ∙ c.if-head_has_open_in.true));
    }

pub returns-in_err-expect-clause-refused : goal.returns-in_err-expect-clause-refused
returns-in_err-expect-clause-refused g c =
    let e = c.take-2.ensures.stays c.if-take-2.false ∙ c.take.ensures.stays c.if-take.false in
    let s = c.in_ok-first.ensures.read in
    let a = c.take.ensures.missing c.if-take.false in
    passed _ c.in_err-expect.ensures.refused c.from_residual-in_err-expect.ensures.1
    (λ b. stem_unended c.requires.value.undeclared s a (lost_from (key "of") (c.take.ensures.stays c.if-take.false) (c.take-2.ensures.missing c.if-take-2.false)) (c.in_ok-expr-2.ensures.read.reads _ (stem_expr c.in_ok-expr.ensures.expr e s a c.in_ok-expr.ensures.is))
    (ap (λ e. opens_whole (view_expr e)) (sym c.deref-2.ensures) ∙ (sym c.head_has_open_in.ensures ∙ c.if-head_has_open_in.false)) b)

pub returns-clause-read : goal.returns-clause-read
returns-clause-read g c =
    let e = c.take-2.ensures.stays c.if-take-2.false ∙ c.take.ensures.stays c.if-take.false in
    let s = c.in_ok-first.ensures.read in
    let a = c.take.ensures.missing c.if-take.false in
    initial_as (c.in_ok-target.ensures.view Assigns)
    (stem_initial c.requires.value.undeclared s a (lost_from (key "of") (c.take.ensures.stays c.if-take.false) (c.take-2.ensures.missing c.if-take-2.false)) (c.in_ok-expr-2.ensures.read.reads _ (stem_expr c.in_ok-expr.ensures.expr e s a c.in_ok-expr.ensures.is))
    (ap (λ e. opens_whole (view_expr e)) (sym c.deref-2.ensures) ∙ (sym c.head_has_open_in.ensures ∙ c.if-head_has_open_in.false)) c.in_ok-expect.ensures.read)

pub returns-clause-placed : goal.returns-clause-placed
returns-clause-placed g c =
    let e = c.take-2.ensures.stays c.if-take-2.false ∙ c.take.ensures.stays c.if-take.false in
    let is = c.in_ok-expr.ensures.expr in
    initial_placed (placed_as c.in_ok-target.ensures.told (c.in_ok-target.ensures.view Assigns)
    (c.in_ok-expr-2.ensures.read.placed c.args.lexer.now (spans_from c.in_ok-first.ensures.span (ap (λ q. expr_at q.value) is) refl (sym (ap end_of e)))
    (placed_to e (placed_as (ap (λ q. told_expr q.value) is) (ap (λ q. view_expr q.value) is) (c.in_ok-first.ensures.placed.expr c.in_ok-expr.ensures.is))))) c.in_ok-expect.ensures.takes
