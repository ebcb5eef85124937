use Rattle.std.proofs.Common.{refl, subst, sym, ◌∙◌, ap, map}
use Rattle.jsx_tree.specs.Kinds.{Assigns}
use Rattle.jsx_tree.specs.Grammar.{key}
use Rattle.jsx_tree.specs.View.{forest, inside, view_pat, view_target, word_of}
use Rattle.jsx_tree.specs.Reading.{forth}
use Rattle.jsx_tree.specs.StaticRules.{open_in}
use Rattle.jsx_token.specs.Here.{place_of}
use Rattle.jsx_token.specs.Places.{end_of, next_of}
use Rattle.jsx_make.specs.NodeSpans.{pat_at}
use Rattle.jsx_operand.specs.Spans.{Spans}
use Rattle.jsx_operand.specs.Around.{around_of}
use Rattle.jsx_declaration.specs.OpenIn.{any_opens}
use Rattle.jsx_declaration.proofs.Items.{head_keeps}
use Rattle.jsx_declaration.proofs.Heads.{any_closed}
use Rattle.jsx_declaration.proofs.Declaring.{bound_items, bound_keys, declared_initial, first_read, lost_from, no_first, no_name, none_more, only_from, open_more, unended_more}
use Rattle.jsx_operand.proofs.Steps.{passed}
use Rattle.jsx_operand.proofs.Placing.{placed_as, placed_to}
use Rattle.jsx_operand.proofs.Places.{spans_from}
use Rattle.jsx_declaration.proofs.PlacedNodes.{binding_placed, head_placed, initial_placed, items_placed, keys_placed}
use Rattle.jsx_declaration.proofs.for_head.declared_head.Goals as goal

pub returns-in_err-name-clause-refused : goal.returns-in_err-name-clause-refused
returns-in_err-name-clause-refused g c = passed _ c.in_err-name.ensures.refused c.from_residual.ensures.1 (λ b. record { no = λ x m. no_name c.args.word m b })

pub returns-then-take-clause-read : goal.returns-then-take-clause-read
returns-then-take-clause-read g c = record { on = λ x m. bound_keys c.args.word m c.in_ok-name.ensures.read (record { is = c.take.ensures.taken c.if-take.true; found = refl }) (c.in_ok-head.ensures.view Assigns) }

pub returns-then-take-clause-placed : goal.returns-then-take-clause-placed
returns-then-take-clause-placed g c = record {
  on = λ w word begins.
      keys_placed (placed_as c.in_ok-head.ensures.told (c.in_ok-head.ensures.view Assigns) (binding_placed c.args.word word c.in_ok-name.ensures.placed (spans_from c.span_to-span.ensures refl (c.last_place-lo.ensures ∙ begins) refl))) (c.take.ensures.takes c.if-take.true);
}

pub returns-then-take-2-clause-read : goal.returns-then-take-2-clause-read
returns-then-take-2-clause-read g c = record {
  on = λ x m. bound_items c.args.word m c.in_ok-name.ensures.read (record { is = c.take-2.ensures.taken c.if-take-2.true ∙ ap (λ h. forth (key "of") (place_of h)) (c.take.ensures.stays c.if-take.false); found = refl }) (c.in_ok-head-2.ensures.view Assigns);
}

pub returns-then-take-2-clause-placed : goal.returns-then-take-2-clause-placed
returns-then-take-2-clause-placed g c = record {
  on = λ w word begins.
      items_placed (placed_to (c.take.ensures.stays c.if-take.false) (placed_as c.in_ok-head-2.ensures.told (c.in_ok-head-2.ensures.view Assigns) (binding_placed c.args.word word c.in_ok-name.ensures.placed (spans_from c.span_to-span.ensures refl (c.last_place-lo.ensures ∙ begins) refl))))
      (c.take-2.ensures.takes c.if-take-2.true);
}

pub returns-in_err-first-clause-refused : goal.returns-in_err-first-clause-refused
returns-in_err-first-clause-refused g c =
    let e = c.take-2.ensures.stays c.if-take-2.false ∙ c.take.ensures.stays c.if-take.false in
    passed _ c.in_err-first.ensures.refused c.from_residual-in_err-first.ensures.1
    (λ n. record { no = λ x m. no_first c.args.word m c.in_ok-name.ensures.read (c.take.ensures.missing c.if-take.false) (lost_from (key "of") (c.take.ensures.stays c.if-take.false) (c.take-2.ensures.missing c.if-take-2.false)) (n.no _ (only_from e c.in_ok-name.ensures.read)) })

pub more_declarators-requires-clause-listed : goal.more_declarators-requires-clause-listed
more_declarators-requires-clause-listed g c = c.in_ok-first.ensures.behind

pub returns-in_err-all-clause-refused : goal.returns-in_err-all-clause-refused
returns-in_err-all-clause-refused g c =
    let e = c.take-2.ensures.stays c.if-take-2.false ∙ c.take.ensures.stays c.if-take.false in
    let f = first_read c.in_ok-name.name.value c.in_ok-first.first.value e c.in_ok-name.ensures.read c.in_ok-name.ensures.placed (c.start_of_pattern-start.ensures.on _ _ (subst (λ p. Spans (pat_at p) (next_of c.args.lexer.now) (end_of c.binding.new.lexer)) (sym c.deref.ensures) c.in_ok-name.ensures.span)) c.in_ok-first.ensures.read c.in_ok-first.ensures.placed in
    passed _ c.in_err-all.ensures.refused c.from_residual-in_err-all.ensures.1
    (λ n. record { no = λ x m. none_more c.args.word m c.in_ok-name.ensures.read (c.take.ensures.missing c.if-take.false) (lost_from (key "of") (c.take.ensures.stays c.if-take.false) (c.take-2.ensures.missing c.if-take-2.false)) (n.no c.args.lexer.now f) })

pub returns-then-any_has_open_in-clause-refused : goal.returns-then-any_has_open_in-clause-refused
returns-then-any_has_open_in-clause-refused g c =
    let e = c.take-2.ensures.stays c.if-take-2.false ∙ c.take.ensures.stays c.if-take.false in
    let f = first_read c.in_ok-name.name.value c.in_ok-first.first.value e c.in_ok-name.ensures.read c.in_ok-name.ensures.placed (c.start_of_pattern-start.ensures.on _ _ (subst (λ p. Spans (pat_at p) (next_of c.args.lexer.now) (end_of c.binding.new.lexer)) (sym c.deref.ensures) c.in_ok-name.ensures.span)) c.in_ok-first.ensures.read c.in_ok-first.ensures.placed in
    record {
      bars = λ _ _ _. record {
        no = λ x m.
            open_more _ c.args.word m c.in_ok-name.ensures.read (c.take.ensures.missing c.if-take.false) (lost_from (key "of") (c.take.ensures.stays c.if-take.false) (c.take-2.ensures.missing c.if-take-2.false))
            (c.in_ok-all.ensures.read.on c.args.lexer.now f).declares (ap (λ xs. any_opens (forest (map (inside view_pat) xs))) (sym c.deref-2.ensures.value) ∙ (sym c.any_has_open_in.ensures ∙ c.if-any_has_open_in.true));
      };
    }

pub returns-in_err-expect-clause-refused : goal.returns-in_err-expect-clause-refused
returns-in_err-expect-clause-refused g c =
    let e = c.take-2.ensures.stays c.if-take-2.false ∙ c.take.ensures.stays c.if-take.false in
    let f = first_read c.in_ok-name.name.value c.in_ok-first.first.value e c.in_ok-name.ensures.read c.in_ok-name.ensures.placed (c.start_of_pattern-start.ensures.on _ _ (subst (λ p. Spans (pat_at p) (next_of c.args.lexer.now) (end_of c.binding.new.lexer)) (sym c.deref.ensures) c.in_ok-name.ensures.span)) c.in_ok-first.ensures.read c.in_ok-first.ensures.placed in
    let all = c.in_ok-all.ensures.read.on c.args.lexer.now f in
    let closed = ap (λ xs. any_opens (forest (map (inside view_pat) xs))) (sym c.deref-2.ensures.value) ∙ (sym c.any_has_open_in.ensures ∙ c.if-any_has_open_in.false) in
    passed _ c.in_err-expect.ensures.refused c.from_residual-in_err-expect.ensures.1
    (λ b. record {
      no = λ x m.
          unended_more {t = view_target c.in_ok-init.init.value} c.args.word m c.in_ok-name.ensures.read (c.take.ensures.missing c.if-take.false) (lost_from (key "of") (c.take.ensures.stays c.if-take.false) (c.take-2.ensures.missing c.if-take-2.false))
          (record { all = _; is = c.in_ok-init.ensures.view Assigns; declares = all.declares; keeps = head_keeps (word_of c.args.word) (around_of c.args.context.around) (forest (map (inside view_pat) c.in_ok-all.all.items)) all.initialized; closed = ap open_in (c.in_ok-init.ensures.view Assigns) ∙ any_closed (word_of c.args.word) _ all.declares closed }) b;
    })

pub returns-clause-read : goal.returns-clause-read
returns-clause-read g c =
    let e = c.take-2.ensures.stays c.if-take-2.false ∙ c.take.ensures.stays c.if-take.false in
    let f = first_read c.in_ok-name.name.value c.in_ok-first.first.value e c.in_ok-name.ensures.read c.in_ok-name.ensures.placed (c.start_of_pattern-start.ensures.on _ _ (subst (λ p. Spans (pat_at p) (next_of c.args.lexer.now) (end_of c.binding.new.lexer)) (sym c.deref.ensures) c.in_ok-name.ensures.span)) c.in_ok-first.ensures.read c.in_ok-first.ensures.placed in
    let all = c.in_ok-all.ensures.read.on c.args.lexer.now f in
    let closed = ap (λ xs. any_opens (forest (map (inside view_pat) xs))) (sym c.deref-2.ensures.value) ∙ (sym c.any_has_open_in.ensures ∙ c.if-any_has_open_in.false) in
    record {
      on = λ x m.
          declared_initial {t = view_target c.in_ok-init.init.value} c.args.word m c.in_ok-name.ensures.read (c.take.ensures.missing c.if-take.false) (lost_from (key "of") (c.take.ensures.stays c.if-take.false) (c.take-2.ensures.missing c.if-take-2.false))
          (record { all = _; is = c.in_ok-init.ensures.view Assigns; declares = all.declares; keeps = head_keeps (word_of c.args.word) (around_of c.args.context.around) (forest (map (inside view_pat) c.in_ok-all.all.items)) all.initialized; closed = ap open_in (c.in_ok-init.ensures.view Assigns) ∙ any_closed (word_of c.args.word) _ all.declares closed }) c.in_ok-expect.ensures.read;
    }

pub returns-clause-placed : goal.returns-clause-placed
returns-clause-placed g c =
    let e = c.take-2.ensures.stays c.if-take-2.false ∙ c.take.ensures.stays c.if-take.false in
    let f = first_read c.in_ok-name.name.value c.in_ok-first.first.value e c.in_ok-name.ensures.read c.in_ok-name.ensures.placed (c.start_of_pattern-start.ensures.on _ _ (subst (λ p. Spans (pat_at p) (next_of c.args.lexer.now) (end_of c.binding.new.lexer)) (sym c.deref.ensures) c.in_ok-name.ensures.span)) c.in_ok-first.ensures.read c.in_ok-first.ensures.placed in
    let all = c.in_ok-all.ensures.read.on c.args.lexer.now f in
    record {
      on = λ w word begins.
          initial_placed (placed_as c.in_ok-init.ensures.told (c.in_ok-init.ensures.view Assigns) (head_placed c.args.word word all.placed (spans_from c.span_to.ensures refl (c.last_place-lo.ensures ∙ begins) refl))) c.in_ok-expect.ensures.takes;
    }
