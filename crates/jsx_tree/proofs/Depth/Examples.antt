-- Fronts, computed.
use Rattle.std.proofs.Common.{arith}
use Rattle.std.specs.Prelude.{◌≡◌, [], codes, refl}
use Rattle.jsx_tree.specs.declared.text.Goal.TheVariants as goals
use Rattle.jsx_tree.specs.Signs.{AfterExpr}
use Rattle.jsx_tree.specs.Kinds.{Assigns, ArrayPat, Array, ExprStmt, Parenthesized, function, statement, expression, list, none, part}
use Rattle.jsx_tree.specs.Reading.{At}
use Rattle.jsx_tree.specs.Spelling.{spelled}
use Rattle.jsx_tree.specs.Walk.{nothing, one, sign, many, within, nil}
use Rattle.jsx_tree.specs.Depth.{deep, front}
use Rattle.jsx_tree.specs.Fronts.{inside, whole, at_token, at_part, at_list, at_item, TooDeepText}
use Rattle.jsx_tree.proofs.Samples.{n, n1, l1, l2, paren, arrow}

-- `(` is deeper than nothing, and `((` than one
paren_begun : TooDeepText goals.Script (codes "(") 0
paren_begun = record {
  parts = part (list none) none;
  deep = 1;
  place = At (codes "(") AfterExpr [];
  front = whole {g = nothing} (within refl) (whole {g = one (list none)} (many refl (nil refl))
      (at_list {d = 1} (at_item (inside (statement ExprStmt) none refl (whole {g = nothing} (sign refl refl)
      (at_part {d = 1} (inside (expression Parenthesized) none refl (whole {g = nothing} (sign refl refl) (at_token refl refl)))))))));
  deeper = omega arith;
}

-- a literal and the pattern of the same tokens count alike: `[a, b`; an arrow's parameters and parentheses: `(a`
literal_pattern : deep (front 4 (spelled (n1 (expression Array) (l2 (n "a") (n "b"))))) ≡ deep (front 4 (spelled (n1 (function (ArrayPat Assigns)) (l2 (n "a") (n "b")))))
literal_pattern = refl

paren_arrow : deep (front 2 (spelled (arrow (l1 (n "a")) (n "b")))) ≡ deep (front 2 (spelled (paren (n "a"))))
paren_arrow = refl
