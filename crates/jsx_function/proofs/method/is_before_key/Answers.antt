use Rattle.std.proofs.Common.{true, false, refl, ◌∙◌}
use Rattle.std.specs.Str.{chars}
use Rattle.jsx_base.specs.Token.{Operator, IdentifierName, StringLiteral, NumericLiteral, BigIntLiteral}
use Rattle.jsx_tree.specs.Signs.{Tok}
use Rattle.jsx_token.specs.declared.lexer.Leaf.TheVariants as leaf
use Rattle.jsx_function.proofs.Prefixes.{bracket_gone, bracket_there, leaf_there, lost_to, no_key_by}
use Rattle.jsx_function.proofs.method.is_before_key.Goals as goal

pub returns-then-is_before-clause-there : goal.returns-then-is_before-clause-there
returns-then-is_before-clause-there c = λ _. bracket_there c.fork-ahead.ensures c.is_before.ensures.ahead c.if-is_before.true

pub returns-in-Some-clause-there : goal.returns-in-Some-clause-there
returns-in-Some-clause-there c = λ _. leaf_there c.leaf.new.self leaf.Name (chars c.in-Some._raw.now) refl (c.is_before.ensures.stays ∙ c.fork-ahead.ensures) c.in-Some.ensures.taken

pub returns-in-Some-leaf-clause-there : goal.returns-in-Some-leaf-clause-there
returns-in-Some-leaf-clause-there c = λ _. leaf_there c.leaf-2.new.self leaf.Str (chars c.in-Some-leaf._raw.now) refl (c.in_default.ensures.stays ∙ (c.is_before.ensures.stays ∙ c.fork-ahead.ensures)) c.in-Some-leaf.ensures.taken

pub returns-in-Some-leaf-2-clause-there : goal.returns-in-Some-leaf-2-clause-there
returns-in-Some-leaf-2-clause-there c = λ _. leaf_there c.leaf-3.new.self leaf.Num (chars c.in-Some-leaf-2._raw.now) refl (c.in_default-leaf.ensures.stays ∙ (c.in_default.ensures.stays ∙ (c.is_before.ensures.stays ∙ c.fork-ahead.ensures))) c.in-Some-leaf-2.ensures.taken

pub returns-in-Some-leaf-3-clause-there : goal.returns-in-Some-leaf-3-clause-there
returns-in-Some-leaf-3-clause-there c = λ _.
    leaf_there c.leaf-4.new.self leaf.BigInt (chars c.in-Some-leaf-3._raw.now) refl (c.in_default-leaf-2.ensures.stays ∙ (c.in_default-leaf.ensures.stays ∙ (c.in_default.ensures.stays ∙ (c.is_before.ensures.stays ∙ c.fork-ahead.ensures)))) c.in-Some-leaf-3.ensures.taken

pub returns-clause-none : goal.returns-clause-none
returns-clause-none c =
    let one = c.is_before.ensures.stays ∙ c.fork-ahead.ensures in
    let two = c.in_default.ensures.stays ∙ one in
    let three = c.in_default-leaf.ensures.stays ∙ two in
    let four = c.in_default-leaf-2.ensures.stays ∙ three in
    λ _.
    no_key_by (bracket_gone c.fork-ahead.ensures c.is_before.ensures.ahead c.if-is_before.false) (lost_to (λ t. Tok Operator IdentifierName t) one c.in_default.ensures.missing) (lost_to (λ t. Tok Operator StringLiteral t) two c.in_default-leaf.ensures.missing)
    (lost_to (λ t. Tok Operator NumericLiteral t) three c.in_default-leaf-2.ensures.missing) (lost_to (λ t. Tok Operator BigIntLiteral t) four c.in_default-leaf-3.ensures.missing)
