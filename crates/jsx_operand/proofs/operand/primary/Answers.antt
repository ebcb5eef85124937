use Rattle.std.proofs.Common.{◌≡◌, not, refl, sym, ◌∙◌, ap, subst}
use Rattle.std.specs.Prelude.{◌||◌}
use Rattle.std.specs.Str.{chars}
use Rattle.jsx_base.specs.Token.{Operand, Operator, NumericLiteral, BigIntLiteral, StringLiteral, RegExpLiteral}
use Rattle.jsx_tree.specs.Kinds.{Element, Tree, jsx}
use Rattle.jsx_tree.specs.Signs.{Tok}
use Rattle.jsx_tree.specs.Reading.{Place, forth}
use Rattle.jsx_tree.specs.StaticRules.{Surroundings}
use Rattle.jsx_tree.specs.View.{view_expr}
use Rattle.jsx_tree.specs.Answers.{NoRow, Built}
use Rattle.jsx_tree.specs.Faults.{Fault}
use Rattle.jsx_token.specs.Marks.{row_so_far}
use Rattle.jsx_operand.specs.SoFar.{so_far}
use Rattle.jsx_operand.specs.Around.{around_of}
use Rattle.jsx_token.specs.Here.{place_of}
use Rattle.jsx_operand.specs.Climbing.{Begins}
use Rattle.jsx_operand.proofs.Homes.{IsName, IsNumber, IsLong, IsString, IsPattern}
use Rattle.jsx_token.proofs.Listed.{listed}
use Rattle.jsx_operand.proofs.Values.{literal_follows, or_left}
use Rattle.jsx_operand.proofs.Openings.{deep_begins, kept_whole, opened_follows, outer_begins, unfit_literal, no_value}
use Rattle.jsx_operand.proofs.Places.{spans_from}
use Rattle.jsx_operand.proofs.Placing.{placed_as}
use Rattle.jsx_operand.proofs.PlacedExpressions.{word_placed}
use Rattle.jsx_operand.proofs.Steps.{passed}
use Rattle.jsx_operand.proofs.Templates.{unquoted}
use Rattle.jsx_operand.proofs.operand.primary.Goals as goal

-- the same tree in the code
seen : {v : Surroundings} {x y : Place} {t u : Tree} → u ≡ t → Begins v x t y → Begins v x u y
seen {v} {x} {y} e f = subst (λ t. Begins v x t y) (sym e) f

there : {v : Surroundings} {x y : Place} {e : Fault} → x ≡ y → NoRow so_far v (row_so_far (jsx Element)) x e → NoRow so_far v (row_so_far (jsx Element)) y e
there {v} {e = e} s n = subst (λ w. NoRow so_far v (row_so_far (jsx Element)) w e) s n

pub returns-in_err-counted-clause-refused : goal.returns-in_err-counted-clause-refused
returns-in_err-counted-clause-refused c = passed _ c.in_err-counted.ensures.refused c.from_residual.ensures.1 (λ b. deep_begins b)

pub returns-in_err-counted-2-clause-refused : goal.returns-in_err-counted-2-clause-refused
returns-in_err-counted-2-clause-refused c = passed _ c.in_err-counted-2.ensures.refused c.from_residual-in_err-counted-2.ensures.1 (λ b. deep_begins b)

pub returns-in_err-counted-3-clause-refused : goal.returns-in_err-counted-3-clause-refused
returns-in_err-counted-3-clause-refused c = passed _ c.in_err-counted-3.ensures.refused c.from_residual-in_err-counted-3.ensures.1 (λ b. deep_begins b)

pub returns-in_err-counted-4-clause-refused : goal.returns-in_err-counted-4-clause-refused
returns-in_err-counted-4-clause-refused c = passed _ c.in_err-counted-4.ensures.refused c.from_residual-in_err-counted-4.ensures.1 (λ b. deep_begins b)

pub returns-in_err-counted-5-clause-refused : goal.returns-in_err-counted-5-clause-refused
returns-in_err-counted-5-clause-refused c = passed _ c.in_err-counted-5.ensures.refused c.from_residual-in_err-counted-5.ensures.1 (λ b. deep_begins b)

pub returns-in_err-counted-6-clause-refused : goal.returns-in_err-counted-6-clause-refused
returns-in_err-counted-6-clause-refused c = passed _ c.in_err-counted-6.ensures.refused c.from_residual-in_err-counted-6.ensures.1 (λ b. deep_begins b)

pub returns-in-Some-value_word-clause-read : goal.returns-in-Some-value_word-clause-read
returns-in-Some-value_word-clause-read c = seen (c.in_ok-constant.ensures.view ∙ c.in-Some-value_word.ensures.view)
    (literal_follows IsName (chars c.in-Some.raw.now) c.in-Some-value_word.ensures.value c.in-Some.ensures.whole c.in-Some.ensures.taken refl)

pub returns-in-Some-value_word-clause-placed : goal.returns-in-Some-value_word-clause-placed
returns-in-Some-value_word-clause-placed c = placed_as c.in_ok-constant.ensures.told (c.in_ok-constant.ensures.view ∙ c.in-Some-value_word.ensures.view)
    (word_placed c.in-Some-value_word.word c.in-Some-value_word.ensures.view c.in-Some.ensures.takes (spans_from c.span_to.ensures refl (c.last_place-lo.ensures ∙ c.in-Some.ensures.begins) refl))

pub returns-then-is_reserved-clause-refused : goal.returns-then-is_reserved-clause-refused
returns-then-is_reserved-clause-refused c =
    let a = ap not (sym c.is_reserved.ensures ∙ c.if-is_reserved.true) in
    record { bars = λ _ _ _. unfit_literal IsName (chars c.in-Some.raw.now) c.requires.opening c.in-Some.ensures.taken refl (λ i. a i || c.in_default-value_word.ensures.none i) }

pub returns-in-Some-clause-read : goal.returns-in-Some-clause-read
returns-in-Some-clause-read c = seen c.in_ok-name.ensures.view
    (literal_follows IsName (chars c.in-Some.raw.now) (or_left _ _ (ap not (sym c.is_reserved.ensures ∙ c.if-is_reserved.false))) c.in-Some.ensures.whole c.in-Some.ensures.taken refl)

pub returns-in-Some-leaf-clause-read : goal.returns-in-Some-leaf-clause-read
returns-in-Some-leaf-clause-read c =
    let stays : place_of c.leaf.new.self ≡ place_of c.args.lexer.now = ap place_of c.in_default.ensures.stays in
    seen c.in_ok-literal.ensures.view
    (literal_follows IsString (chars c.in-Some-leaf.raw.now) refl c.in-Some-leaf.ensures.whole (c.in-Some-leaf.ensures.taken ∙ ap (forth (Tok Operator StringLiteral (chars c.in-Some-leaf.raw.now))) stays) refl)

pub returns-in-Some-leaf-2-clause-read : goal.returns-in-Some-leaf-2-clause-read
returns-in-Some-leaf-2-clause-read c =
    let stays : place_of c.leaf-2.new.self ≡ place_of c.args.lexer.now = ap place_of c.in_default-leaf.ensures.stays ∙ ap place_of c.in_default.ensures.stays in
    seen c.in_ok-literal-2.ensures.view
    (literal_follows IsNumber (chars c.in-Some-leaf-2.raw.now) refl c.in-Some-leaf-2.ensures.whole (c.in-Some-leaf-2.ensures.taken ∙ ap (forth (Tok Operator NumericLiteral (chars c.in-Some-leaf-2.raw.now))) stays) refl)

pub returns-in-Some-leaf-3-clause-read : goal.returns-in-Some-leaf-3-clause-read
returns-in-Some-leaf-3-clause-read c =
    let stays : place_of c.leaf-3.new.self ≡ place_of c.args.lexer.now = ap place_of c.in_default-leaf-2.ensures.stays ∙ (ap place_of c.in_default-leaf.ensures.stays ∙ ap place_of c.in_default.ensures.stays) in
    seen c.in_ok-literal-3.ensures.view
    (literal_follows IsLong (chars c.in-Some-leaf-3.raw.now) refl c.in-Some-leaf-3.ensures.whole (c.in-Some-leaf-3.ensures.taken ∙ ap (forth (Tok Operator BigIntLiteral (chars c.in-Some-leaf-3.raw.now))) stays) refl)

pub returns-in-Some-leaf-4-clause-read : goal.returns-in-Some-leaf-4-clause-read
returns-in-Some-leaf-4-clause-read c =
    let stays : place_of c.leaf-4.new.self ≡ place_of c.args.lexer.now = ap place_of c.in_default-leaf-3.ensures.stays ∙ (ap place_of c.in_default-leaf-2.ensures.stays ∙ (ap place_of c.in_default-leaf.ensures.stays ∙ ap place_of c.in_default.ensures.stays)) in
    seen c.in_ok-literal-4.ensures.view
    (literal_follows IsPattern (chars c.in-Some-leaf-4.raw.now) refl c.in-Some-leaf-4.ensures.whole (c.in-Some-leaf-4.ensures.taken ∙ ap (forth (Tok Operand RegExpLiteral (chars c.in-Some-leaf-4.raw.now))) stays) refl)

pub returns-clause-read : goal.returns-clause-read
returns-clause-read c =
    let stays : c.leaf-5.new.self ≡ c.args.lexer.now = c.in_default-leaf-4.ensures.stays ∙ (c.in_default-leaf-3.ensures.stays ∙ (c.in_default-leaf-2.ensures.stays ∙ (c.in_default-leaf.ensures.stays ∙ c.in_default.ensures.stays))) in
    opened_follows (jsx Element) (listed (jsx Element) refl refl refl) refl refl refl (kept_whole (jsx Element) (listed (jsx Element) refl refl refl) refl refl refl (subst (λ p. Built so_far (around_of c.args.context.around) (row_so_far (jsx Element)) (jsx Element) (λ ts. ts) (view_expr c.in_ok-element.field-0.value) p (place_of c.element.new.lexer)) (ap place_of stays) c.in_ok-element.ensures.read)) c.in_ok-element.ensures.ended

pub returns-in_err-element-clause-refused : goal.returns-in_err-element-clause-refused
returns-in_err-element-clause-refused c =
    let stays : place_of c.leaf.new.self ≡ place_of c.args.lexer.now = ap place_of c.in_default.ensures.stays in
    let stays' : place_of c.leaf-2.new.self ≡ place_of c.args.lexer.now = ap place_of c.in_default-leaf.ensures.stays ∙ stays in
    let stays'' : place_of c.leaf-3.new.self ≡ place_of c.args.lexer.now = ap place_of c.in_default-leaf-2.ensures.stays ∙ stays' in
    let stays''' : place_of c.leaf-4.new.self ≡ place_of c.args.lexer.now = ap place_of c.in_default-leaf-3.ensures.stays ∙ stays'' in
    let stays'''' : place_of c.leaf-5.new.self ≡ place_of c.args.lexer.now = ap place_of c.in_default-leaf-4.ensures.stays ∙ stays''' in
    passed _ c.in_err-element.ensures.refused c.from_residual-in_err-element.ensures.1
    (λ n. outer_begins (no_value c.requires.opening c.in_default.ensures.missing
    (λ t. ap (forth (Tok Operator NumericLiteral t)) (sym stays') ∙ c.in_default-leaf-2.ensures.missing t)
    (λ t. ap (forth (Tok Operator BigIntLiteral t)) (sym stays'') ∙ c.in_default-leaf-3.ensures.missing t)
    (λ t. ap (forth (Tok Operator StringLiteral t)) (sym stays) ∙ c.in_default-leaf.ensures.missing t)
    (λ t. ap (forth (Tok Operand RegExpLiteral t)) (sym stays''') ∙ c.in_default-leaf-4.ensures.missing t)
    (there stays'''' n)
    (unquoted c.args.lexer.now c.requires.template)))
