-- A visit that lowers each element lowers the tree, where all elements are ones that can be lowered.
use Rattle.std.proofs.Common.{◌≡◌, true, false, refl}
use Rattle.std.proofs.lemmas.Bool.{and_parts, and_from, true≢false, false≢true}
use Rattle.jsx_base.specs.Token.{Text, JsxName}
use Rattle.jsx_tree.specs.declared.text.Goal.{Goal}
use Rattle.jsx_tree.specs.Kinds.{Kind, function, expression, jsx, ParenTarget, Parenthesized, Element, Tree, leaf, node, list, Forest, none, part}
use Rattle.jsx_tree.specs.Normal.{remades, unwrapped_node, without_parentheses}
use Rattle.jsx_tree.specs.Sound.{each_nodes}
use Rattle.jsx_token.specs.Stage.{ReadsSoFar}
use Rattle.jsx_visit.specs.Visit.{is_handed, visited, changed_target}
use Rattle.jsx_visit.proofs.Remade.{is_bare, visited_remade, each_weaker}
use Rattle.jsx_syntax.proofs.Staged.{is_simple, so_far_simple}
use Rattle.react_compile.specs.Lowering.{lower_node, lower, is_lowerable, can_lower}

others_stay : (k : Kind) (cs : Forest) → is_handed k ≡ false → lower_node k cs ≡ node k cs
others_stay (jsx j) cs h = absurd (true≢false h)
others_stay k cs h = refl

of_tokens : (k : Kind) (cs : Forest) → is_lowerable k cs ≡ true → is_bare k cs ≡ true
of_tokens (jsx Element) (part (leaf JsxName t) (part (list none) none)) o = refl
of_tokens (jsx j) cs o = absurd (false≢true o)
of_tokens k cs o = refl

pub visited_lower : (t : Tree) → can_lower t ≡ true → visited lower_node t ≡ lower t
visited_lower t o = visited_remade lower_node (record { keeps = others_stay }) t (each_weaker is_lowerable is_bare of_tokens t o)

-- no target is lowered
pub target_stays : (t : Tree) → changed_target lower_node t ≡ t
target_stays (node (function ParenTarget) cs) = refl
target_stays t = refl

pub ruleset targets = (target_stays)

-- ---- what reads can be lowered, with its parentheses off

of_simple : (k : Kind) (cs : Forest) → is_simple k cs ≡ true → is_lowerable k cs ≡ true
of_simple (jsx Element) (part (leaf JsxName t) (part (list none) none)) o = refl
of_simple (jsx j) cs o = absurd (false≢true o)
of_simple k cs o = refl

pub so_far_lowers : (goal : Goal) (text : Text) (t : Tree) → ReadsSoFar goal text t → can_lower t ≡ true
so_far_lowers goal text t r = each_weaker is_simple is_lowerable of_simple t (so_far_simple goal text t r)

-- a node whose parts can be lowered, with its own pair off
node_lowers : (k : Kind) (cs : Forest) → is_lowerable k cs ≡ true → each_nodes is_lowerable (remades unwrapped_node cs) ≡ true → can_lower (unwrapped_node k (remades unwrapped_node cs)) ≡ true
node_lowers (expression Parenthesized) (part e none) o h = (and_parts (can_lower (without_parentheses e)) true h).0
node_lowers (function ParenTarget) (part e none) o h = (and_parts (can_lower (without_parentheses e)) true h).0
node_lowers (jsx Element) (part (leaf JsxName t) (part (list none) none)) o h = refl
node_lowers (jsx j) cs o h = absurd (false≢true o)
node_lowers k cs o h = h

mutual
  pub bare_lowers : (t : Tree) → can_lower t ≡ true → can_lower (without_parentheses t) ≡ true
  bare_lowers (leaf s x) o = refl
  bare_lowers (list ts) o = all_lower ts o
  bare_lowers (node k cs) o =
      let p = and_parts (is_lowerable k cs) (each_nodes is_lowerable cs) o in
      node_lowers k cs p.0 (all_lower cs p.1)

  all_lower : (ts : Forest) → each_nodes is_lowerable ts ≡ true → each_nodes is_lowerable (remades unwrapped_node ts) ≡ true
  all_lower none o = refl
  all_lower (part t ts) o =
      let p = and_parts (can_lower t) (each_nodes is_lowerable ts) o in
      and_from _ _ (bare_lowers t p.0) (all_lower ts p.1)
