-- How deep what was read is: what all that is read begins with, a node and its parts, and a target and the expression that it was read as.
use Rattle.std.proofs.Common.{◌≡◌, ℕ, suc, true, false, refl, sym, ◌∙◌, ap, subst, arith}
use Rattle.std.specs.Prelude.{Result}
use Rattle.jsx_tree.specs.Kinds.{Assign, Assigns, WithInit, Kind, expression, function, Tree, node, Forest}
use Rattle.jsx_tree.specs.Nonterminals.{Nonterminal}
use Rattle.jsx_tree.specs.Form.{admits, fits_below}
use Rattle.jsx_tree.specs.Reading.{Place}
use Rattle.jsx_tree.specs.StaticRules.{Surroundings}
use Rattle.jsx_tree.specs.Depth.{deep, depth}
use Rattle.jsx_tree.specs.Grows.{Onward, as_target}
use Rattle.jsx_tree.specs.Faults.{Fault, Shallow, part_depth, deepest}
use Rattle.jsx_tree.proofs.Tokens.{and_right}
use Rattle.jsx_tree.proofs.Rows.Growing.{onward_up}
use Rattle.jsx_tree.proofs.Rows.Targets.{spelled_target}
use Rattle.jsx_tree.proofs.Depth.Nodes.{counts_as, depth_told, read_depth}
use Rattle.jsx_tree.proofs.Depth.Shallow.{shallow_up}
use Rattle.jsx_operand.specs.declared.error.ParseError.{ParseError}
use Rattle.jsx_operand.specs.Answers.{Refused}
use Rattle.jsx_operand.specs.Outgrown.{Outgrown}
use Rattle.jsx_operand.specs.SoFar.{Staged, so_far}
use Rattle.jsx_operand.proofs.OfSoFar.{of_so_far}

pub staged_form : {v : Surroundings} {c : Nonterminal} {x y : Place} {t : Tree} → Staged v false c x t y → fits_below c t ≡ true
staged_form {c = c} {t = t} q = and_right (admits c t) (fits_below c t) q.reads.is

-- the first part as it was handed on
pub outgrown_as : {T : Type 0} {n : ℕ} {r : Result T ParseError} {t u : Tree} → t ≡ u → Refused n r (Outgrown t) → Refused n r (Outgrown u)
outgrown_as {n = n} {r} e b = subst (λ w. Refused n r (Outgrown w)) e b

-- what all that is read begins with
pub onward_shallow : {v : Surroundings} {c d : Nonterminal} {x y z : Place} {t u : Tree} (e : Fault) → Staged v false d x t y → Onward so_far v x t y u z → Staged v false c x u z → Shallow e (part_depth u) → Shallow e (part_depth t)
onward_shallow {c = c} {d} {t = t} {u} e q o r s =
    let f = onward_up of_so_far o in
    let g = read_depth c u (staged_form r) in
    let h = read_depth d t (staged_form q) in
    shallow_up e (part_depth t) (part_depth u) (omega (arith, f, g, h)) s

-- with a node that counts its parts are one less deep
pub counted_shallow : {v : Surroundings} {c : Nonterminal} {x y : Place} {ts : Forest} (e : Fault) (k : Kind) → counts_as true k ≡ true → Staged v false c x (node k ts) y → Shallow e (part_depth (node k ts)) → Shallow e (suc (deepest ts))
counted_shallow {c = c} {ts = ts} e k i q s =
    let d = depth_told true c k ts i (staged_form q) in
    shallow_up e (suc (deepest ts)) (part_depth (node k ts)) (omega (arith, d)) s

-- a target is as deep as the expression
pub value_shallow : {v : Surroundings} {c d : Nonterminal} {x y z : Place} {t u : Tree} (e : Fault) → as_target t ≡ u → Staged v false c x t y → Staged v false d x u z → Shallow e (part_depth u) → Shallow e (part_depth t)
value_shallow {c = c} {d} {t = t} {u} e same q r s =
    let f = read_depth c t (staged_form q) in
    let g = read_depth d u (staged_form r) in
    let h : depth u ≡ depth t = ap depth (sym same) ∙ ap deep (spelled_target t) in
    shallow_up e (part_depth t) (part_depth u) (omega (arith, f, g, h)) s

-- an assignment is as deep as a pattern with its default
pub filled_shallow : {v : Surroundings} {c d : Nonterminal} {x y z : Place} {ts : Forest} (e : Fault) → Staged v false c x (node (expression Assign) ts) y → Staged v false d x (node (function (WithInit Assigns)) ts) z → Shallow e (part_depth (node (function (WithInit Assigns)) ts)) → Shallow e (part_depth (node (expression Assign) ts))
filled_shallow {c = c} {d} {ts = ts} e q r s =
    let f = depth_told true c (expression Assign) ts refl (staged_form q) in
    let g = depth_told true d (function (WithInit Assigns)) ts refl (staged_form r) in
    shallow_up e (part_depth (node (expression Assign) ts)) (part_depth (node (function (WithInit Assigns)) ts)) (omega (arith, f, g)) s
