-- Trees made anew with their elements replaced by calls.
use Rattle.std.proofs.Common.{◌≡◌, Bool, true, false, refl, ap}
use Rattle.jsx_tree.specs.Kinds.{Kind, program, statement, function, expression, jsx, JsxKind, Element, ElementWithChildren, Fragment, Call, Tree, leaf, node, list, Forest}
use Rattle.jsx_tree.specs.Nonterminals.{Expr}
use Rattle.jsx_tree.specs.Normal.{laid_tree, remade, remades}
use Rattle.jsx_tree.specs.Form.{positions, is_last, fit_slots}
use Rattle.jsx_tree.specs.StaticRules.{Surroundings}
use Rattle.jsx_tree.specs.Sound.{is_no_jsx, lawful}
use Rattle.jsx_tree.proofs.Parentheses.Seen.{At}

abbrev pub is_element : JsxKind → Bool
is_element Element = true
is_element ElementWithChildren = true
is_element Fragment = true
is_element j = false

-- what is made of a node of JSX: itself, or of an element a call
pub data Image (j : JsxKind) (ds : Forest) : Tree → Type 0 where
  kept : Image j ds (node (jsx j) ds)
  called : {args : Forest} → is_element j ≡ true → Image j ds (node (expression Call) args)

-- a way to make trees anew that replaces elements, where each node of JSX that isn't inside of another passes a test
pub record Replacing : Type 0 where
  pub ok : Kind → Forest → Bool
  pub make : Kind → Forest → Tree
  pub stays : (k : Kind) (ds : Forest) → is_no_jsx k ≡ true → make k ds ≡ node k ds
  pub image : (j : JsxKind) (ds : Forest) → Image j ds (make (jsx j) ds)
  pub elements : (j : JsxKind) (cs : Forest) → ok (jsx j) cs ≡ true → is_element j ≡ true
  -- a call that is made is an expression, and lawful as it is laid
  pub formed : (j : JsxKind) (cs : Forest) → ok (jsx j) cs ≡ true → fit_slots (positions (jsx j)) cs ≡ true → At (Expr 0) (make (jsx j) (remades make cs))
  pub keeps : (j : JsxKind) (cs : Forest) → ok (jsx j) cs ≡ true → (v : Surroundings) → lawful v (laid_tree (make (jsx j) (remades make cs))) ≡ true

abbrev pub out : Replacing → Tree → Tree
out r t = remade r.make t

abbrev pub outs : Replacing → Forest → Forest
outs r ts = remades r.make ts

-- none of them stands last in a list
last_image : (j : JsxKind) (ds : Forest) (u : Tree) → Image j ds u → is_last u ≡ false
last_image j ds _ kept = refl
last_image j ds _ (called i) = refl

pub last_out : (r : Replacing) (t : Tree) → is_last (out r t) ≡ is_last t
last_out r (leaf s x) = refl
last_out r (list ts) = refl
last_out r (node (jsx j) cs) = last_image j (outs r cs) (r.make (jsx j) (outs r cs)) (r.image j (outs r cs))
last_out r (node (program k) cs) = ap is_last (r.stays (program k) (outs r cs) refl)
last_out r (node (statement k) cs) = ap is_last (r.stays (statement k) (outs r cs) refl)
last_out r (node (function k) cs) = ap is_last (r.stays (function k) (outs r cs) refl)
last_out r (node (expression k) cs) = ap is_last (r.stays (expression k) (outs r cs) refl)
