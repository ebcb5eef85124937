-- What may be assigned to, of what is read at the level of calls and members.
use Rattle.std.proofs.Common.{◌≡◌, true, false, refl, sym, ◌∙◌, ap}
use Rattle.jsx_tree.specs.Kinds.{Tree}
use Rattle.jsx_tree.specs.Nonterminals.{Expr, SimpleTarget}
use Rattle.jsx_tree.specs.Grammar.{Part}
use Rattle.jsx_tree.specs.Reading.{Place, Lost, At}
use Rattle.jsx_tree.specs.StaticRules.{Surroundings}
use Rattle.jsx_tree.specs.Walk.{Given, one, Past, tree}
use Rattle.jsx_tree.specs.Language.{Whole}
use Rattle.jsx_tree.specs.Answers.{Only, Barred}
use Rattle.jsx_tree.specs.Grows.{as_target}
use Rattle.jsx_tree.specs.Faults.{Fault, Shallow, given_depth}
use Rattle.jsx_operand.specs.SoFar.{so_far}
use Rattle.jsx_token.specs.Marks.{ends_so_far}
use Rattle.jsx_tree.proofs.Apart.{clash}
use Rattle.jsx_tree.proofs.Rows.Turns.{whole_of}
use Rattle.jsx_tree.proofs.Rows.Targets.{as_value, value_aims, target_back, left_simple, level_17}
use Rattle.jsx_operand.specs.Climbing.{is_target}
use Rattle.jsx_operand.proofs.Homes.{bound_word}
use Rattle.jsx_expression.proofs.Depths.{value_shallow}
use Rattle.jsx_operand.proofs.Aims.{aim_of, aim_is, staged_target, staged_value, simple_reads}

same_ends : (y : Place) → ends_so_far SimpleTarget y ≡ ends_so_far (Expr 17) y
same_ends Lost = refl
same_ends (At q e text) = refl

-- a target is an expression of the level
whole_value : {v : Surroundings} {x z : Place} {u : Tree} → Whole so_far v false SimpleTarget x u z → Whole so_far v false (Expr 17) x (as_value u) z
whole_value {z = z} {u} w = record { reads = staged_value level_17 bound_word (simple_reads u w.reads) w.reads; ends_there = sym (same_ends z) ∙ w.ends_there }

one_is : {t u : Tree} → one t ≡ one u → t ≡ u
one_is e = cc

pub only_target : {v : Surroundings} {x y : Place} {t : Tree} → is_target t ≡ true → Only so_far v (Part (Expr 17)) x (one t) y → Only so_far v (Part SimpleTarget) x (one (as_target t)) y
only_target {v} {x} {y} {t} h o = record {
  past = tree (let w = whole_of o.past in record { reads = staged_target left_simple refl (aim_of t h) w.reads; ends_there = same_ends y ∙ w.ends_there });
  alone = at;
}
  where
    at : (g : Given) (z : Place) → Past (Whole so_far) v (Part SimpleTarget) x g z → (one (as_target t) ≡ g) × (y ≡ z)
    at g z (tree {t = u} w) =
        let q = o.alone (one (as_value u)) z (tree (whole_value w)) in
        (ap (λ s. one (as_target s)) (one_is q.0) ∙ ap one (target_back (simple_reads u w.reads)), q.1)

pub no_target : {v : Surroundings} {x : Place} {e : Fault} → Barred so_far v (Part (Expr 17)) x e → Barred so_far v (Part SimpleTarget) x e
no_target {v} {x} {e = e} b = record { no = at }
  where
    at : (g : Given) (z : Place) → Past (Whole so_far) v (Part SimpleTarget) x g z → Shallow e (given_depth g) → ⊥
    at g z (tree {t = u} w) s = b.no (one (as_value u)) z (tree (whole_value w)) (value_shallow e (target_back (simple_reads u w.reads)) (whole_value w).reads w.reads s)

-- what stands there is no target
pub unfit_target : {v : Surroundings} {x y : Place} {t : Tree} {e : Fault} → is_target t ≡ false → Only so_far v (Part (Expr 17)) x (one t) y → Barred so_far v (Part SimpleTarget) x e
unfit_target {v} {x} {y} {t} {e = e} h o = record { no = at }
  where
    at : (g : Given) (z : Place) → Past (Whole so_far) v (Part SimpleTarget) x g z → Shallow e (given_depth g) → ⊥
    at g z (tree {t = u} w) s = clash (is_target t) (ap is_target (one_is (o.alone (one (as_value u)) z (tree (whole_value w))).0) ∙ aim_is (value_aims (simple_reads u w.reads))) h
