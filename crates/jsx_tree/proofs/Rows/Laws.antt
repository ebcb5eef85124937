-- What is asked of a language, so that its rows are read as the grammar's are.
use Rattle.std.proofs.Common.{◌≡◌, true, false, refl, sym, ◌∙◌, ap, subst}
use Rattle.std.specs.Prelude.{Some, IsTrue}
use Rattle.jsx_tree.specs.Kinds.{Kind, Tree, Forest, node}
use Rattle.jsx_tree.specs.Nonterminals.{Nonterminal, homes, in_homes}
use Rattle.jsx_tree.specs.Form.{admits}
use Rattle.jsx_tree.specs.Grammar.{Part}
use Rattle.jsx_tree.specs.Spelling.{spelled}
use Rattle.jsx_tree.specs.Reading.{Place, Lost, scan}
use Rattle.jsx_tree.specs.Answers.{Barred}
use Rattle.jsx_tree.specs.Faults.{Fault, Shallow, given_depth}
use Rattle.jsx_tree.specs.StaticRules.{Surroundings, rule, stands}
use Rattle.jsx_tree.specs.Stops.{level_asked, stops}
use Rattle.jsx_tree.specs.Language.{Language, grammar, Whole}
use Rattle.jsx_tree.specs.Walk.{is_found, front, IsRead, Given, Past, tree, Walk, around}
use Rattle.jsx_tree.specs.Grows.{starts, is_operand}
use Rattle.jsx_tree.proofs.Laws.{scan_lost}
use Rattle.jsx_tree.proofs.Tokens.{and_left, and_right, and_both}
use Rattle.jsx_tree.proofs.Rows.Bridge.{found_first, found_at, node_read, node_walk}
use Rattle.jsx_tree.proofs.Rows.Stopping.{covers, covered_stops}
use Rattle.jsx_tree.proofs.Rows.Closers.{Shut, shut_reading, operand_start}

-- the parts of a node, as its row says
pub record Parts (L : Language) (k : Kind) (v : Surroundings) (x : Place) (ts : Forest) (y : Place) : Type 0 where
  pub walk : Walk L.reads (around v ts) (L.rows k) x ts y
  pub keeps : L.keeps k v ts ≡ true

pub record Lawful (L : Language) : Type 0 where
  -- it is part of the grammar
  pub is_read : {v : Surroundings} {b : _} {c : Nonterminal} {x y : Place} {t : Tree} → L.reads v b c x t y → IsRead v b c x t y
  -- a node is what its row says
  pub to_node : (k : Kind) {v : Surroundings} {c : Nonterminal} {x y : Place} {ts : Forest} → admits c (node k ts) ≡ true → Parts L k v x ts y → L.reads v false c x (node k ts) y
  pub from_node : (k : Kind) {v : Surroundings} {c : Nonterminal} {x y : Place} {ts : Forest} → L.reads v false c x (node k ts) y → Parts L k v x ts y
  -- what has come to its end in the grammar has so here
  pub ends_there : (c : Nonterminal) (y : Place) → stops c y ≡ true → L.ends c y ≡ true
  pub covered : (o c : Nonterminal) (y : Place) → covers (level_asked o) (level_asked c) ≡ true → L.ends o y ≡ true → L.ends c y ≡ true
  -- what begins an expression's row is an operand
  pub heads : (k : Kind) (c d : Nonterminal) → is_operand c ≡ true → in_homes c (homes k) ≡ true → starts (L.rows k) ≡ Some d → is_operand d ≡ true

pub of_grammar : Lawful grammar
of_grammar = record {
  is_read = λ r. r;
  to_node = λ k {v} {c} {x} {y} {ts} a p. node_read false k a refl (record { walk = p.walk; keeps = and_left (rule k ts) (stands k ts v) p.keeps; may_stand = and_right (rule k ts) (stands k ts v) p.keeps });
  from_node = λ k r. let n = node_walk false k refl r in record { walk = n.walk; keeps = and_both _ _ n.keeps n.may_stand };
  ends_there = λ c y s. s;
  covered = covered_stops;
  heads = operand_start;
}

-- no expression stands where nothing of what one begins with stands; from nowhere nothing is read
pub shut_out : {L : Language} {v : Surroundings} {c : Nonterminal} {x : Place} {e : Fault} → Lawful L → is_operand c ≡ true → Shut x → Barred L v (Part c) x e
shut_out {L} {v} {c} {x} {e} l m s = record { no = at }
  where
    at : (g : Given) (y : Place) → Past (Whole L) v (Part c) x g y → Shallow e (given_depth g) → ⊥
    at g y (tree w) q = shut_reading m s (l.is_read w.reads)

pub lost_barred : {L : Language} {v : Surroundings} {c : Nonterminal} {x : Place} {e : Fault} → Lawful L → x ≡ Lost → Barred L v (Part c) x e
lost_barred {L} {v} {c} {x} {e = f} l e = record { no = at }
  where
    at : (g : Given) (y : Place) → Past (Whole L) v (Part c) x g y → Shallow f (given_depth g) → ⊥
    at g y (tree {t = t} w) s =
        let r = l.is_read w.reads in
        let bad : IsTrue (is_found Lost) = subst (λ p. IsTrue (is_found p)) (sym r.scans ∙ (ap (λ p. scan p (spelled t)) e ∙ scan_lost (spelled t))) r.found in cc

pub start_found : {L : Language} {v : Surroundings} {b : _} {c : Nonterminal} {x y : Place} {t : Tree} → Lawful L → L.reads v b c x t y → IsTrue (is_found x)
start_found {b = b} {t = t} l r = let q = l.is_read r in found_first (front b (spelled t)) _ (found_at q.scans q.found)

pub end_found : {L : Language} {v : Surroundings} {b : _} {c : Nonterminal} {x y : Place} {t : Tree} → Lawful L → L.reads v b c x t y → IsTrue (is_found y)
end_found l r = (l.is_read r).found
