-- Functions, elements and the like inside of expressions: two of them that begin at one place are one, up to a size.
use Rattle.jsx_base.specs.Token.{Operand}
use Rattle.std.proofs.Common.{◌≡◌, ℕ, ◌≤◌, Bool, true, false, refl, sym, arith}
use Rattle.std.specs.Prelude.{IsTrue, ◌||◌, nat_le, codes}
use Rattle.std.proofs.lemmas.Bool.{leb-true, leb-false}
use Rattle.jsx_base.specs.Token.{Text, Operator, IdentifierName, Punctuator}
use Rattle.jsx_tree.specs.Signs.{Tok}
use Rattle.jsx_tree.specs.Kinds.{FunctionBody, FunctionExpr, ClassExpr, InObject, Method, Getter, Setter, Element, ElementWithChildren, Fragment, Kind, program, function, jsx, node, Forest}
use Rattle.jsx_tree.specs.Nonterminals.{Nonterminal, Expr, Body}
use Rattle.jsx_tree.specs.StaticRules.{Surroundings}
use Rattle.jsx_tree.specs.Reading.{Place, forth}
use Rattle.jsx_tree.specs.Walk.{is_found, IsRead}
use Rattle.jsx_tree.proofs.OneTree.Known.{kept, size}

-- those that begin with a word
abbrev pub is_worded : Kind → Bool
is_worded (function FunctionExpr) = true
is_worded (function ClassExpr) = true
is_worded k = false

abbrev pub is_element : Kind → Bool
is_element (jsx Element) = true
is_element (jsx ElementWithChildren) = true
is_element (jsx Fragment) = true
is_element k = false

abbrev pub is_sealed : Kind → Bool
is_sealed k = is_worded k || is_element k

-- methods of objects
abbrev pub is_member : Kind → Bool
is_member (function (Method InObject)) = true
is_member (function (Getter InObject)) = true
is_member (function (Setter InObject)) = true
is_member k = false

-- a node of such a kind at a place for it, among text or not, and the law up to a size
pub record Closed (p : Kind → Bool) (b : Bool) (c : Nonterminal) (x : Place) (k : Kind) (cs : Forest) (y : Place) : Type 0 where
  pub kind' : p k ≡ true
  pub bound : ℕ
  pub small : size (node k cs) ≤ bound
  pub good : kept (node k cs) ≡ true
  pub surroundings : Surroundings
  pub read : IsRead surroundings b c x (node k cs) y
  pub law : (l : Kind) (ds : Forest) {v : Surroundings} {z : Place} → p l ≡ true → size (node l ds) ≤ bound → kept (node l ds) ≡ true → IsRead v b c x (node l ds) z → (node k cs ≡ node l ds) × (y ≡ z)

pub closed_same : {p : Kind → Bool} {f : Bool} {c : Nonterminal} {x y z : Place} {k l : Kind} {cs ds : Forest} → Closed p f c x k cs y → Closed p f c x l ds z → (node k cs ≡ node l ds) × (y ≡ z)
closed_same {y = y} {z} {k} {l} {cs} {ds} a b = by_bound (nat_le a.bound b.bound) refl
  where
    by_bound : (c : Bool) → nat_le a.bound b.bound ≡ c → (node k cs ≡ node l ds) × (y ≡ z)
    by_bound true e =
        let le = leb-true a.bound b.bound e in
        let r = b.law k cs a.kind' (omega (arith, le, a.small)) a.good a.read in
        (sym r.0, sym r.1)
    by_bound false e =
        let le = leb-false a.bound b.bound e in
        a.law l ds b.kind' (omega (arith, le, b.small)) b.good b.read

-- a function's body before its brace, and the law up to a size
pub record Filled (x : Place) (cs : Forest) (y : Place) : Type 0 where
  pub bound : ℕ
  pub small : size (node (program FunctionBody) cs) ≤ bound
  pub good : kept (node (program FunctionBody) cs) ≡ true
  pub surroundings : Surroundings
  pub read : IsRead surroundings false Body x (node (program FunctionBody) cs) y
  pub shuts : IsTrue (is_found (forth (Tok Operator Punctuator (codes "}")) y))
  pub law : (ds : Forest) {v : Surroundings} {z : Place} → size (node (program FunctionBody) ds) ≤ bound → kept (node (program FunctionBody) ds) ≡ true → IsRead v false Body x (node (program FunctionBody) ds) z
      → IsTrue (is_found (forth (Tok Operator Punctuator (codes "}")) z)) → (cs ≡ ds) × (y ≡ z)

pub filled_same : {x y z : Place} {cs ds : Forest} → Filled x cs y → Filled x ds z → (cs ≡ ds) × (y ≡ z)
filled_same {y = y} {z} {cs} {ds} a b = by_bound (nat_le a.bound b.bound) refl
  where
    by_bound : (c : Bool) → nat_le a.bound b.bound ≡ c → (cs ≡ ds) × (y ≡ z)
    by_bound true e =
        let le = leb-true a.bound b.bound e in
        let r = b.law cs (omega (arith, le, a.small)) a.good a.read a.shuts in
        (sym r.0, sym r.1)
    by_bound false e =
        let le = leb-false a.bound b.bound e in
        a.law ds (omega (arith, le, b.small)) b.good b.read b.shuts

-- the words that functions and classes begin with
pub data Opener : Text → Type 0 where
  of_function : Opener (codes "function")
  of_class : Opener (codes "class")

-- such a word, or the bracket of a tag
pub data Opens (x : Place) : Type 0 where
  by_word : (w : Text) → Opener w → IsTrue (is_found (forth (Tok Operator IdentifierName w) x)) → Opens x
  by_tag : IsTrue (is_found (forth (Tok Operand Punctuator (codes "<")) x)) → Opens x

pub record Sealed (x : Place) (k : Kind) (cs : Forest) (y : Place) : Type 0 where
  pub closed : Closed is_sealed false (Expr 18) x k cs y
  pub opener : Opens x

pub sealed_same : {x y z : Place} {k l : Kind} {cs ds : Forest} → Sealed x k cs y → Sealed x l ds z → (node k cs ≡ node l ds) × (y ≡ z)
sealed_same a b = closed_same a.closed b.closed
