-- The call that an element becomes is an expression that keeps the static rules; so a program that is lowered is sound with its parentheses off.
use Rattle.std.proofs.Common.{◌≡◌, Bool, true, false, cond, refl, sym, ap, ◌∙◌}
use Rattle.std.proofs.lemmas.Bool.{and_parts, false≢true}
use Rattle.std.specs.Prelude.{IsTrue}
use Rattle.jsx_base.specs.Token.{Text, TokenKind, IdentifierName, StringLiteral, JsxName}
use Rattle.jsx_tree.specs.declared.text.Goal.{Goal}
use Rattle.jsx_tree.specs.declared.text.Goal.TheVariants as goals
use Rattle.jsx_tree.specs.Kinds.{Kind, program, function, expression, jsx, JsxKind, Element, Module, Script, ParenTarget, Parenthesized, Tree, leaf, node, list, Forest, none, part}
use Rattle.jsx_tree.specs.Nonterminals.{Expr, TagName}
use Rattle.jsx_tree.specs.Normal.{laid_tree, remade, remades, unwrapped_node, without_parentheses}
use Rattle.jsx_tree.specs.Form.{positions, is_leaf, shaped, Single, fit_slots}
use Rattle.jsx_tree.specs.StaticRules.{Surroundings}
use Rattle.jsx_tree.specs.Program.{is_goal, Reads}
use Rattle.jsx_tree.specs.Sound.{is_no_jsx, lawful, is_sound, each_nodes}
use Rattle.jsx_tree.proofs.Parentheses.Idempotent.{head_is}
use Rattle.jsx_tree.proofs.Parentheses.Seen.{At}
use Rattle.jsx_tree.proofs.Parentheses.Replaced.{is_element, Image, kept, called, Replacing}
use Rattle.jsx_tree.proofs.Parentheses.FromReading.{replaced_sound}
use Rattle.react_compile.specs.Made.{quoted}
use Rattle.react_compile.specs.Lowering.{is_string_tag, tag_type, element_call, lower_node, lower, is_lowerable, can_lower}
use Rattle.react_compile.proofs.Tags.{tag_of_leaf}
use Rattle.react_compile.proofs.Lowering.Types.{IsType, a_reference, a_string, type_of, with_type}

-- ---- the call of a tag

type_formed : (u : Tree) → IsType u → At (Expr 0) (with_type u)
type_formed _ (a_reference l v) = record { may = refl; below = rw (v, l) refl }
type_formed _ (a_string l) = record { may = refl; below = rw l refl }

-- one leaf or the other
either_leaf : (b : Bool) (k m : TokenKind) (x y : Text) (v : Surroundings) → lawful v (laid_tree (with_type (cond b (leaf k x) (leaf m y)))) ≡ true
either_leaf true k m x y v = refl
either_leaf false k m x y v = refl

type_lawful : (t : Text) (v : Surroundings) → lawful v (laid_tree (element_call t)) ≡ true
type_lawful t v = either_leaf (is_string_tag t) StringLiteral IdentifierName (quoted t) t v

stays : (k : Kind) (ds : Forest) → is_no_jsx k ≡ true → lower_node k ds ≡ node k ds
stays (jsx j) ds n = absurd (false≢true n)
stays k ds n = refl

image : (j : JsxKind) (ds : Forest) → Image j ds (lower_node (jsx j) ds)
image Element (part (leaf JsxName t) as') = called refl
image j ds = kept

elements : (j : JsxKind) (cs : Forest) → is_lowerable (jsx j) cs ≡ true → is_element j ≡ true
elements Element cs o = refl
elements _ cs o = absurd (false≢true o)

tag_leaf : (t : Text) → fit_slots (positions (jsx Element)) (part (leaf JsxName t) (part (list none) none)) ≡ true → is_leaf JsxName t ≡ true
tag_leaf t f = (and_parts (is_leaf JsxName t) _ (and_parts (shaped Single TagName (leaf JsxName t)) _ f).1).0

formed : (j : JsxKind) (cs : Forest) → is_lowerable (jsx j) cs ≡ true → fit_slots (positions (jsx j)) cs ≡ true → At (Expr 0) (lower_node (jsx j) (remades lower_node cs))
formed Element (part (leaf JsxName t) (part (list none) none)) o f = type_formed (tag_type t) (type_of t (tag_of_leaf t (tag_leaf t f)))
formed _ cs o f = absurd (false≢true o)

keeps : (j : JsxKind) (cs : Forest) → is_lowerable (jsx j) cs ≡ true → (v : Surroundings) → lawful v (laid_tree (lower_node (jsx j) (remades lower_node cs))) ≡ true
keeps Element (part (leaf JsxName t) (part (list none) none)) o v = type_lawful t v
keeps _ cs o v = absurd (false≢true o)

calls : Replacing
calls = record {
  ok = is_lowerable;
  make = lower_node;
  stays = stays;
  image = image;
  elements = elements;
  formed = formed;
  keeps = keeps;
}

-- ---- parentheses off and then lowered, or lowered and then parentheses off

leaf_same : (f : Kind → Forest → Tree) (b : Bool) (k m : TokenKind) (x y : Text) → remade f (cond b (leaf k x) (leaf m y)) ≡ cond b (leaf k x) (leaf m y)
leaf_same f true k m x y = refl
leaf_same f false k m x y = refl

node_swapped : (k : Kind) (cs : Forest) → is_lowerable k cs ≡ true → remades lower_node (remades unwrapped_node cs) ≡ remades unwrapped_node (remades lower_node cs)
    → lower (unwrapped_node k (remades unwrapped_node cs)) ≡ without_parentheses (lower_node k (remades lower_node cs))
node_swapped (expression Parenthesized) (part e none) o h = head_is _ _ _ _ h
node_swapped (function ParenTarget) (part e none) o h = head_is _ _ _ _ h
node_swapped (jsx Element) (part (leaf JsxName t) (part (list none) none)) o h = ap with_type (sym (leaf_same unwrapped_node (is_string_tag t) StringLiteral IdentifierName (quoted t) t))
node_swapped (jsx j) cs o h = absurd (false≢true o)
node_swapped k cs o h = ap (node k) h

mutual
  pub swapped : (t : Tree) → can_lower t ≡ true → lower (without_parentheses t) ≡ without_parentheses (lower t)
  swapped (leaf s x) o = refl
  swapped (list ts) o = ap list (swapped_all ts o)
  swapped (node k cs) o = let p = and_parts (is_lowerable k cs) (each_nodes is_lowerable cs) o in node_swapped k cs p.0 (swapped_all cs p.1)

  swapped_all : (ts : Forest) → each_nodes is_lowerable ts ≡ true → remades lower_node (remades unwrapped_node ts) ≡ remades unwrapped_node (remades lower_node ts)
  swapped_all none o = refl
  swapped_all (part t ts) o =
      let p = and_parts (can_lower t) (each_nodes is_lowerable ts) o in
      ap (λ u. part u (remades lower_node (remades unwrapped_node ts))) (swapped t p.0) ∙ ap (part (without_parentheses (lower t))) (swapped_all ts p.1)

-- ---- the law

pub lowered_sound : (goal : Goal) (text : Text) (t : Tree) → can_lower t ≡ true → Reads goal text t → is_sound (lower (without_parentheses t)) ≡ true
unfolding calls
lowered_sound goal text t o h = ap is_sound (swapped t o) ∙ replaced_sound calls goal text t o h

pub lowered_goal : (goal : Goal) (t : Tree) → IsTrue (is_goal goal t) → IsTrue (is_goal goal (lower t))
lowered_goal goals.Module (node (program Module) cs) g = refl
lowered_goal goals.Script (node (program Script) cs) g = refl
lowered_goal goals.Module _ g = absurd (false≢true g)
lowered_goal goals.Script _ g = absurd (false≢true g)
