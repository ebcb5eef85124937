-- What may stand at the left of a step, and which step a token tells.
use Rattle.std.proofs.Common.{◌≡◌, ℕ, Bool, true, false, not, [], ◌∷◌, refl, sym, subst}
use Rattle.std.specs.Prelude.{Some, ◌||◌}
use Rattle.jsx_tree.specs.Kinds.{Tree, node, Forest, none, part, BinaryOp, Nullish, Or, And, BitOr, BitXor, BitAnd, Equal, Unequal, StrictEqual, StrictUnequal, Less, Greater, AtMost, AtLeast, InOp, InstanceOf, ShiftLeft, ShiftRight, ShiftOut, Add, Subtract, Multiply, Divide, Remainder, Exponentiate, Binary, expression}
use Rattle.jsx_tree.specs.Nonterminals.{Expr, homes, in_homes, level_of, binary}
use Rattle.jsx_tree.specs.Grammar.{Fixed, Part, left_of, right_of}
use Rattle.jsx_tree.specs.Form.{is, admits}
use Rattle.jsx_tree.specs.Reading.{Place}
use Rattle.jsx_tree.specs.StaticRules.{Surroundings}
use Rattle.jsx_tree.specs.Walk.{nothing, one, piece, row, tail, IsRead, tree, Walk, next, around, steady}
use Rattle.jsx_tree.specs.Grows.{operator_sign}
use Rattle.jsx_tree.specs.Language.{grammar, Whole}
use Rattle.jsx_tree.specs.Grows.{Joins}
use Rattle.jsx_tree.specs.Answers.{Only, Barred, NoRow, Built}
use Rattle.jsx_tree.specs.Faults.{Fault}
use Rattle.jsx_tree.proofs.Rows.Steps.{on, bar, then', end}
use Rattle.jsx_tree.proofs.Rows.Turns.{whole_of}
use Rattle.jsx_tree.proofs.Rows.Stopping.{deaf}
use Rattle.jsx_tree.proofs.Tokens.{and_both}
use Rattle.jsx_tree.proofs.Rows.Laws.{of_grammar}
use Rattle.jsx_tree.proofs.Rows.Guarded.{to_grammar}
use Rattle.jsx_tree.proofs.Rows.Placing.{free, free_around, moved}
use Rattle.jsx_tree.proofs.Rows.Bodies.{bodiless, plain}

-- ---- for each operator

each : (P : BinaryOp → Type 0) → P Nullish → P Or → P And → P BitOr → P BitXor → P BitAnd → P Equal → P Unequal → P StrictEqual → P StrictUnequal → P Less → P Greater → P AtMost → P AtLeast → P InOp → P InstanceOf → P ShiftLeft → P ShiftRight → P ShiftOut → P Add → P Subtract → P Multiply → P Divide → P Remainder → P Exponentiate → (o : BinaryOp) → P o
each P p0 p1 p2 p3 p4 p5 p6 p7 p8 p9 p10 p11 p12 p13 p14 p15 p16 p17 p18 p19 p20 p21 p22 p23 p24 Nullish = p0
each P p0 p1 p2 p3 p4 p5 p6 p7 p8 p9 p10 p11 p12 p13 p14 p15 p16 p17 p18 p19 p20 p21 p22 p23 p24 Or = p1
each P p0 p1 p2 p3 p4 p5 p6 p7 p8 p9 p10 p11 p12 p13 p14 p15 p16 p17 p18 p19 p20 p21 p22 p23 p24 And = p2
each P p0 p1 p2 p3 p4 p5 p6 p7 p8 p9 p10 p11 p12 p13 p14 p15 p16 p17 p18 p19 p20 p21 p22 p23 p24 BitOr = p3
each P p0 p1 p2 p3 p4 p5 p6 p7 p8 p9 p10 p11 p12 p13 p14 p15 p16 p17 p18 p19 p20 p21 p22 p23 p24 BitXor = p4
each P p0 p1 p2 p3 p4 p5 p6 p7 p8 p9 p10 p11 p12 p13 p14 p15 p16 p17 p18 p19 p20 p21 p22 p23 p24 BitAnd = p5
each P p0 p1 p2 p3 p4 p5 p6 p7 p8 p9 p10 p11 p12 p13 p14 p15 p16 p17 p18 p19 p20 p21 p22 p23 p24 Equal = p6
each P p0 p1 p2 p3 p4 p5 p6 p7 p8 p9 p10 p11 p12 p13 p14 p15 p16 p17 p18 p19 p20 p21 p22 p23 p24 Unequal = p7
each P p0 p1 p2 p3 p4 p5 p6 p7 p8 p9 p10 p11 p12 p13 p14 p15 p16 p17 p18 p19 p20 p21 p22 p23 p24 StrictEqual = p8
each P p0 p1 p2 p3 p4 p5 p6 p7 p8 p9 p10 p11 p12 p13 p14 p15 p16 p17 p18 p19 p20 p21 p22 p23 p24 StrictUnequal = p9
each P p0 p1 p2 p3 p4 p5 p6 p7 p8 p9 p10 p11 p12 p13 p14 p15 p16 p17 p18 p19 p20 p21 p22 p23 p24 Less = p10
each P p0 p1 p2 p3 p4 p5 p6 p7 p8 p9 p10 p11 p12 p13 p14 p15 p16 p17 p18 p19 p20 p21 p22 p23 p24 Greater = p11
each P p0 p1 p2 p3 p4 p5 p6 p7 p8 p9 p10 p11 p12 p13 p14 p15 p16 p17 p18 p19 p20 p21 p22 p23 p24 AtMost = p12
each P p0 p1 p2 p3 p4 p5 p6 p7 p8 p9 p10 p11 p12 p13 p14 p15 p16 p17 p18 p19 p20 p21 p22 p23 p24 AtLeast = p13
each P p0 p1 p2 p3 p4 p5 p6 p7 p8 p9 p10 p11 p12 p13 p14 p15 p16 p17 p18 p19 p20 p21 p22 p23 p24 InOp = p14
each P p0 p1 p2 p3 p4 p5 p6 p7 p8 p9 p10 p11 p12 p13 p14 p15 p16 p17 p18 p19 p20 p21 p22 p23 p24 InstanceOf = p15
each P p0 p1 p2 p3 p4 p5 p6 p7 p8 p9 p10 p11 p12 p13 p14 p15 p16 p17 p18 p19 p20 p21 p22 p23 p24 ShiftLeft = p16
each P p0 p1 p2 p3 p4 p5 p6 p7 p8 p9 p10 p11 p12 p13 p14 p15 p16 p17 p18 p19 p20 p21 p22 p23 p24 ShiftRight = p17
each P p0 p1 p2 p3 p4 p5 p6 p7 p8 p9 p10 p11 p12 p13 p14 p15 p16 p17 p18 p19 p20 p21 p22 p23 p24 ShiftOut = p18
each P p0 p1 p2 p3 p4 p5 p6 p7 p8 p9 p10 p11 p12 p13 p14 p15 p16 p17 p18 p19 p20 p21 p22 p23 p24 Add = p19
each P p0 p1 p2 p3 p4 p5 p6 p7 p8 p9 p10 p11 p12 p13 p14 p15 p16 p17 p18 p19 p20 p21 p22 p23 p24 Subtract = p20
each P p0 p1 p2 p3 p4 p5 p6 p7 p8 p9 p10 p11 p12 p13 p14 p15 p16 p17 p18 p19 p20 p21 p22 p23 p24 Multiply = p21
each P p0 p1 p2 p3 p4 p5 p6 p7 p8 p9 p10 p11 p12 p13 p14 p15 p16 p17 p18 p19 p20 p21 p22 p23 p24 Divide = p22
each P p0 p1 p2 p3 p4 p5 p6 p7 p8 p9 p10 p11 p12 p13 p14 p15 p16 p17 p18 p19 p20 p21 p22 p23 p24 Remainder = p23
each P p0 p1 p2 p3 p4 p5 p6 p7 p8 p9 p10 p11 p12 p13 p14 p15 p16 p17 p18 p19 p20 p21 p22 p23 p24 Exponentiate = p24

free_tail : (o : BinaryOp) → free (tail (row false (expression (Binary o)))) ≡ true
free_tail = each (λ o. free (tail (row false (expression (Binary o)))) ≡ true) refl refl refl refl refl refl refl refl refl refl refl refl refl refl refl refl refl refl refl refl refl refl refl refl refl

home_of : (o : BinaryOp) (ts : Forest) → admits (Expr (level_of o)) (node (expression (Binary o)) ts) ≡ true
home_of o ts = each (λ o. admits (Expr (level_of o)) (node (expression (Binary o)) ts) ≡ true) refl refl refl refl refl refl refl refl refl refl refl refl refl refl refl refl refl refl refl refl refl refl refl refl refl o

no_body : (o : BinaryOp) → bodiless (row false (expression (Binary o))) ≡ true
no_body = each (λ o. bodiless (row false (expression (Binary o))) ≡ true) refl refl refl refl refl refl refl refl refl refl refl refl refl refl refl refl refl refl refl refl refl refl refl refl refl

-- an operator joins what may stand at its left
pub joins_binary : (o : BinaryOp) {v : Surroundings} {x a : Place} {t : Tree} → IsRead v false (left_of o) x t a → Joins grammar v x t a (expression (Binary o)) (tail (row false (expression (Binary o))))
joins_binary o {v} {x} {a} {t} r = record {
  side = left_of o;
  begins = refl;
  left = r;
  frees = moves;
  home = Expr (level_of o);
  operand = refl;
  at_home = home_of o;
  keeps = λ ts y w. and_both _ _ (plain (row false (expression (Binary o))) (no_body o) (next (tree r) (to_grammar of_grammar (moves ts y w)))) refl;
}
  where
    moves : (ts : Forest) (y : Place) → Walk (Whole grammar) (steady v) (tail (row false (expression (Binary o)))) a ts y → Walk (Whole grammar) (around v (part t ts)) (tail (row false (expression (Binary o)))) a ts y
    moves ts y w = moved (λ c h. sym (free_around c (part t ts) v h)) (free_tail o) w

-- ---- behind the right side of an operator, another one that takes the whole at its left stops it

abbrev pub gives_way : BinaryOp → BinaryOp → Bool
gives_way o p = not (in_homes (left_of p) (homes (expression (Binary o)))) || deaf (Some (right_of o)) (binary p)

pub way : (o p : BinaryOp) → gives_way o p ≡ true
way o p = each (λ o. gives_way o p ≡ true)
    (each (λ p. gives_way Nullish p ≡ true) refl refl refl refl refl refl refl refl refl refl refl refl refl refl refl refl refl refl refl refl refl refl refl refl refl p)
    (each (λ p. gives_way Or p ≡ true) refl refl refl refl refl refl refl refl refl refl refl refl refl refl refl refl refl refl refl refl refl refl refl refl refl p)
    (each (λ p. gives_way And p ≡ true) refl refl refl refl refl refl refl refl refl refl refl refl refl refl refl refl refl refl refl refl refl refl refl refl refl p)
    (each (λ p. gives_way BitOr p ≡ true) refl refl refl refl refl refl refl refl refl refl refl refl refl refl refl refl refl refl refl refl refl refl refl refl refl p)
    (each (λ p. gives_way BitXor p ≡ true) refl refl refl refl refl refl refl refl refl refl refl refl refl refl refl refl refl refl refl refl refl refl refl refl refl p)
    (each (λ p. gives_way BitAnd p ≡ true) refl refl refl refl refl refl refl refl refl refl refl refl refl refl refl refl refl refl refl refl refl refl refl refl refl p)
    (each (λ p. gives_way Equal p ≡ true) refl refl refl refl refl refl refl refl refl refl refl refl refl refl refl refl refl refl refl refl refl refl refl refl refl p)
    (each (λ p. gives_way Unequal p ≡ true) refl refl refl refl refl refl refl refl refl refl refl refl refl refl refl refl refl refl refl refl refl refl refl refl refl p)
    (each (λ p. gives_way StrictEqual p ≡ true) refl refl refl refl refl refl refl refl refl refl refl refl refl refl refl refl refl refl refl refl refl refl refl refl refl p)
    (each (λ p. gives_way StrictUnequal p ≡ true) refl refl refl refl refl refl refl refl refl refl refl refl refl refl refl refl refl refl refl refl refl refl refl refl refl p)
    (each (λ p. gives_way Less p ≡ true) refl refl refl refl refl refl refl refl refl refl refl refl refl refl refl refl refl refl refl refl refl refl refl refl refl p)
    (each (λ p. gives_way Greater p ≡ true) refl refl refl refl refl refl refl refl refl refl refl refl refl refl refl refl refl refl refl refl refl refl refl refl refl p)
    (each (λ p. gives_way AtMost p ≡ true) refl refl refl refl refl refl refl refl refl refl refl refl refl refl refl refl refl refl refl refl refl refl refl refl refl p)
    (each (λ p. gives_way AtLeast p ≡ true) refl refl refl refl refl refl refl refl refl refl refl refl refl refl refl refl refl refl refl refl refl refl refl refl refl p)
    (each (λ p. gives_way InOp p ≡ true) refl refl refl refl refl refl refl refl refl refl refl refl refl refl refl refl refl refl refl refl refl refl refl refl refl p)
    (each (λ p. gives_way InstanceOf p ≡ true) refl refl refl refl refl refl refl refl refl refl refl refl refl refl refl refl refl refl refl refl refl refl refl refl refl p)
    (each (λ p. gives_way ShiftLeft p ≡ true) refl refl refl refl refl refl refl refl refl refl refl refl refl refl refl refl refl refl refl refl refl refl refl refl refl p)
    (each (λ p. gives_way ShiftRight p ≡ true) refl refl refl refl refl refl refl refl refl refl refl refl refl refl refl refl refl refl refl refl refl refl refl refl refl p)
    (each (λ p. gives_way ShiftOut p ≡ true) refl refl refl refl refl refl refl refl refl refl refl refl refl refl refl refl refl refl refl refl refl refl refl refl refl p)
    (each (λ p. gives_way Add p ≡ true) refl refl refl refl refl refl refl refl refl refl refl refl refl refl refl refl refl refl refl refl refl refl refl refl refl p)
    (each (λ p. gives_way Subtract p ≡ true) refl refl refl refl refl refl refl refl refl refl refl refl refl refl refl refl refl refl refl refl refl refl refl refl refl p)
    (each (λ p. gives_way Multiply p ≡ true) refl refl refl refl refl refl refl refl refl refl refl refl refl refl refl refl refl refl refl refl refl refl refl refl refl p)
    (each (λ p. gives_way Divide p ≡ true) refl refl refl refl refl refl refl refl refl refl refl refl refl refl refl refl refl refl refl refl refl refl refl refl refl p)
    (each (λ p. gives_way Remainder p ≡ true) refl refl refl refl refl refl refl refl refl refl refl refl refl refl refl refl refl refl refl refl refl refl refl refl refl p)
    (each (λ p. gives_way Exponentiate p ≡ true) refl refl refl refl refl refl refl refl refl refl refl refl refl refl refl refl refl refl refl refl refl refl refl refl refl p)
    o

pub binary_row : (o : BinaryOp) → piece [] (Fixed (operator_sign o)) ∷ piece [] (Part (Expr (right_of o))) ∷ [] ≡ tail (row false (expression (Binary o)))
binary_row = each (λ o. piece [] (Fixed (operator_sign o)) ∷ piece [] (Part (Expr (right_of o))) ∷ [] ≡ tail (row false (expression (Binary o)))) refl refl refl refl refl refl refl refl refl refl refl refl refl refl refl refl refl refl refl refl refl refl refl refl refl

pub step_none : (o : BinaryOp) {v : Surroundings} {m : ℕ} {x y : Place} {f : Fault} → m ≡ right_of o → Only grammar v (Fixed (operator_sign o)) x nothing y → Barred grammar v (Part (Expr m)) y f → NoRow grammar v (tail (row false (expression (Binary o)))) x f
step_none o {v} {x = x} {y = y} {f = f} e q b = subst (λ ps. NoRow grammar v ps x f) (binary_row o) (on q (bar (subst (λ n. Barred grammar v (Part (Expr n)) y f) e b)))

pub step_built : (o : BinaryOp) {v : Surroundings} {m : ℕ} {x y z : Place} {t u w : Tree} → m ≡ right_of o → Only grammar v (Fixed (operator_sign o)) x nothing y → Only grammar v (Part (Expr m)) y (one u) z → w ≡ node (expression (Binary o)) (part t (part u none)) → Built grammar v (tail (row false (expression (Binary o)))) (expression (Binary o)) (part t) w x z
step_built o {v} {x = x} {y = y} {z = z} {t = t} {u = u} {w = w} e q r is = subst (λ ps. Built grammar v ps (expression (Binary o)) (part t) w x z) (binary_row o)
    (record { parts = part u none; is = is; row = then' q (then' (subst (λ n. Only grammar v (Part (Expr n)) y (one u) z) e r) (end (whole_of r.past).reads.found)) })
