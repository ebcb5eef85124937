use Rattle.std.proofs.Common.{codes, false, refl, sym, ◌∙◌}
use Rattle.std.specs.Prelude.{◌||◌}
use Rattle.std.specs.Str.{chars}
use Rattle.jsx_token.proofs.Spellings.{word_view, word_value}
use Rattle.jsx_token.proofs.identifiers.value_word.Goals as goal

pub returns-then-is_this-clause-view : goal.returns-then-is_this-clause-view
returns-then-is_this-clause-view c = word_view (codes "this") (sym c.is_this.ensures ∙ c.if-is_this.true)

pub returns-then-is_this-clause-value : goal.returns-then-is_this-clause-value
returns-then-is_this-clause-value c = word_value (chars c.args.name.now) (codes "this") refl (sym c.is_this.ensures ∙ c.if-is_this.true)

pub returns-then-is_null-clause-view : goal.returns-then-is_null-clause-view
returns-then-is_null-clause-view c = word_view (codes "null") (sym c.is_null.ensures ∙ c.if-is_null.true)

pub returns-then-is_null-clause-value : goal.returns-then-is_null-clause-value
returns-then-is_null-clause-value c = word_value (chars c.args.name.now) (codes "null") refl (sym c.is_null.ensures ∙ c.if-is_null.true)

pub returns-then-is_true-clause-view : goal.returns-then-is_true-clause-view
returns-then-is_true-clause-view c = word_view (codes "true") (sym c.is_true.ensures ∙ c.if-is_true.true)

pub returns-then-is_true-clause-value : goal.returns-then-is_true-clause-value
returns-then-is_true-clause-value c = word_value (chars c.args.name.now) (codes "true") refl (sym c.is_true.ensures ∙ c.if-is_true.true)

pub returns-then-is_false-clause-view : goal.returns-then-is_false-clause-view
returns-then-is_false-clause-view c = word_view (codes "false") (sym c.is_false.ensures ∙ c.if-is_false.true)

pub returns-then-is_false-clause-value : goal.returns-then-is_false-clause-value
returns-then-is_false-clause-value c = word_value (chars c.args.name.now) (codes "false") refl (sym c.is_false.ensures ∙ c.if-is_false.true)

pub returns-clause-none : goal.returns-clause-none
returns-clause-none c =
    let a = sym c.is_this.ensures ∙ c.if-is_this.false in
    let b = sym c.is_null.ensures ∙ c.if-is_null.false in
    let d = sym c.is_true.ensures ∙ c.if-is_true.false in
    let e = sym c.is_false.ensures ∙ c.if-is_false.false in
    (λ i. a i || (b i || (d i || (e i || false))))
