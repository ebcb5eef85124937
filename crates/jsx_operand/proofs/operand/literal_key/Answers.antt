use Rattle.std.proofs.Common.{◌≡◌, refl, sym, ◌∙◌, ap, subst}
use Rattle.std.specs.Str.{chars}
use Rattle.jsx_base.specs.Token.{Operator, NumericLiteral, BigIntLiteral}
use Rattle.jsx_tree.specs.Signs.{Tok}
use Rattle.jsx_tree.specs.Kinds.{Tree}
use Rattle.jsx_tree.specs.Nonterminals.{Key}
use Rattle.jsx_tree.specs.Grammar.{Part}
use Rattle.jsx_tree.specs.Reading.{Place, forth}
use Rattle.jsx_tree.specs.StaticRules.{Surroundings}
use Rattle.jsx_tree.specs.Walk.{one}
use Rattle.jsx_tree.specs.Answers.{Only}
use Rattle.jsx_tree.specs.Faults.{part_depth}
use Rattle.jsx_operand.specs.SoFar.{so_far}
use Rattle.jsx_operand.specs.Members.{is_word}
use Rattle.jsx_token.specs.Here.{place_of}
use Rattle.jsx_operand.proofs.Homes.{IsNumber, IsLong, IsString}
use Rattle.jsx_operand.proofs.Keys.{deep_key, literal_key, no_literal_key}
use Rattle.jsx_operand.proofs.Steps.{passed}
use Rattle.jsx_operand.proofs.Placing.{placed_as, placed_from}
use Rattle.jsx_operand.proofs.PlacedExpressions.{string_placed, number_placed, long_placed}
use Rattle.jsx_operand.proofs.operand.literal_key.Goals as goal

-- the same tree in the code
seen : {v : Surroundings} {x y : Place} {t u : Tree} → u ≡ t → Only so_far v (Part Key) x (one t) y → Only so_far v (Part Key) x (one u) y
seen {v} {x} {y} e o = subst (λ t. Only so_far v (Part Key) x (one t) y) (sym e) o

pub returns-in_err-counted-clause-refused : goal.returns-in_err-counted-clause-refused
returns-in_err-counted-clause-refused c = passed _ c.in_err-counted.ensures.refused c.from_residual.ensures.1 (λ b. deep_key (literal_key IsString (chars c.in-Some.raw.now) refl c.in-Some.ensures.whole c.in-Some.ensures.taken refl) refl b)

pub returns-in_err-counted-2-clause-refused : goal.returns-in_err-counted-2-clause-refused
returns-in_err-counted-2-clause-refused c =
    let stays : place_of c.leaf.new.self ≡ place_of c.args.lexer.now = ap place_of c.in_default.ensures.stays in
    passed _ c.in_err-counted-2.ensures.refused c.from_residual-in_err-counted-2.ensures.1
    (λ b. deep_key (literal_key IsNumber (chars c.in-Some-leaf.raw.now) refl c.in-Some-leaf.ensures.whole (c.in-Some-leaf.ensures.taken ∙ ap (forth (Tok Operator NumericLiteral (chars c.in-Some-leaf.raw.now))) stays) refl) refl b)

pub returns-in_err-counted-3-clause-refused : goal.returns-in_err-counted-3-clause-refused
returns-in_err-counted-3-clause-refused c =
    let stays : place_of c.leaf-2.new.self ≡ place_of c.args.lexer.now = ap place_of c.in_default-leaf.ensures.stays ∙ ap place_of c.in_default.ensures.stays in
    passed _ c.in_err-counted-3.ensures.refused c.from_residual-in_err-counted-3.ensures.1
    (λ b. deep_key (literal_key IsLong (chars c.in-Some-leaf-2.raw.now) refl c.in-Some-leaf-2.ensures.whole (c.in-Some-leaf-2.ensures.taken ∙ ap (forth (Tok Operator BigIntLiteral (chars c.in-Some-leaf-2.raw.now))) stays) refl) refl b)

pub returns-in-Some-clause-read : goal.returns-in-Some-clause-read
returns-in-Some-clause-read c = seen c.literal_key.ensures.view (literal_key IsString (chars c.in-Some.raw.now) refl c.in-Some.ensures.whole c.in-Some.ensures.taken refl)

pub returns-in-Some-leaf-clause-read : goal.returns-in-Some-leaf-clause-read
returns-in-Some-leaf-clause-read c =
    let stays : place_of c.leaf.new.self ≡ place_of c.args.lexer.now = ap place_of c.in_default.ensures.stays in
    seen c.literal_key-in-Some-leaf.ensures.view (literal_key IsNumber (chars c.in-Some-leaf.raw.now) refl c.in-Some-leaf.ensures.whole (c.in-Some-leaf.ensures.taken ∙ ap (forth (Tok Operator NumericLiteral (chars c.in-Some-leaf.raw.now))) stays) refl)

pub returns-in-Some-leaf-2-clause-read : goal.returns-in-Some-leaf-2-clause-read
returns-in-Some-leaf-2-clause-read c =
    let stays : place_of c.leaf-2.new.self ≡ place_of c.args.lexer.now = ap place_of c.in_default-leaf.ensures.stays ∙ ap place_of c.in_default.ensures.stays in
    seen c.literal_key-in-Some-leaf-2.ensures.view (literal_key IsLong (chars c.in-Some-leaf-2.raw.now) refl c.in-Some-leaf-2.ensures.whole (c.in-Some-leaf-2.ensures.taken ∙ ap (forth (Tok Operator BigIntLiteral (chars c.in-Some-leaf-2.raw.now))) stays) refl)

pub returns-in-Some-clause-literal : goal.returns-in-Some-clause-literal
returns-in-Some-clause-literal c = ap is_word c.literal_key.ensures.view

pub returns-in-Some-leaf-clause-literal : goal.returns-in-Some-leaf-clause-literal
returns-in-Some-leaf-clause-literal c = ap is_word c.literal_key-in-Some-leaf.ensures.view

pub returns-in-Some-leaf-2-clause-literal : goal.returns-in-Some-leaf-2-clause-literal
returns-in-Some-leaf-2-clause-literal c = ap is_word c.literal_key-in-Some-leaf-2.ensures.view

pub returns-in-Some-clause-depth : goal.returns-in-Some-clause-depth
returns-in-Some-clause-depth c = ap part_depth c.literal_key.ensures.view

pub returns-in-Some-leaf-clause-depth : goal.returns-in-Some-leaf-clause-depth
returns-in-Some-leaf-clause-depth c = ap part_depth c.literal_key-in-Some-leaf.ensures.view

pub returns-in-Some-leaf-2-clause-depth : goal.returns-in-Some-leaf-2-clause-depth
returns-in-Some-leaf-2-clause-depth c = ap part_depth c.literal_key-in-Some-leaf-2.ensures.view

pub returns-in-Some-clause-placed : goal.returns-in-Some-clause-placed
returns-in-Some-clause-placed c = placed_as c.literal_key.ensures.told c.literal_key.ensures.view (string_placed c.in-Some.ensures.takes (c.last_place.ensures ∙ c.in-Some.ensures.begins))

pub returns-in-Some-leaf-clause-placed : goal.returns-in-Some-leaf-clause-placed
returns-in-Some-leaf-clause-placed c = placed_as c.literal_key-in-Some-leaf.ensures.told c.literal_key-in-Some-leaf.ensures.view (placed_from c.in_default.ensures.stays (number_placed c.in-Some-leaf.ensures.takes (c.last_place-in-Some-leaf.ensures ∙ c.in-Some-leaf.ensures.begins)))

pub returns-in-Some-leaf-2-clause-placed : goal.returns-in-Some-leaf-2-clause-placed
returns-in-Some-leaf-2-clause-placed c = placed_as c.literal_key-in-Some-leaf-2.ensures.told c.literal_key-in-Some-leaf-2.ensures.view (placed_from (c.in_default-leaf.ensures.stays ∙ c.in_default.ensures.stays) (long_placed c.in-Some-leaf-2.ensures.takes (c.last_place-in-Some-leaf-2.ensures ∙ c.in-Some-leaf-2.ensures.begins)))

pub returns-clause-refused : goal.returns-clause-refused
returns-clause-refused c =
    let stays : place_of c.leaf.new.self ≡ place_of c.args.lexer.now = ap place_of c.in_default.ensures.stays in
    let stays' : place_of c.leaf-2.new.self ≡ place_of c.args.lexer.now = ap place_of c.in_default-leaf.ensures.stays ∙ stays in
    record {
      bars = λ _ _ _. no_literal_key c.requires c.in_default.ensures.missing
          (λ t. ap (forth (Tok Operator NumericLiteral t)) (sym stays) ∙ c.in_default-leaf.ensures.missing t)
          (λ t. ap (forth (Tok Operator BigIntLiteral t)) (sym stays') ∙ c.in_default-leaf-2.ensures.missing t);
    }
