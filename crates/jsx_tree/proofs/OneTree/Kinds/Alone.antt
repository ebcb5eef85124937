-- A class alone: what stands behind `export default` is read as in an expression.
use Rattle.jsx_tree.proofs.OneTree.Spines.{blocked_home}
use Rattle.jsx_tree.proofs.OneTree.Kept.{a_blocked, a_jsx}
use Rattle.jsx_tree.proofs.OneTree.Tags.{no_jsx}
use Rattle.jsx_tree.specs.Kinds.{Arrow}
use Rattle.std.proofs.Common.{◌≡◌, Bool, true, false, not, refl, sym, ◌∙◌, ap, subst}
use Rattle.std.specs.Prelude.{◌||◌, codes}
use Rattle.jsx_base.specs.Token.{Text, TokenKind, IdentifierName}
use Rattle.jsx_tree.specs.Kinds.{Seq, ClassExpr, Kind, function, expression, Tree, leaf, node, list, Forest}
use Rattle.jsx_tree.specs.Nonterminals.{ClassOnly, homes, in_homes, leaf_in}
use Rattle.jsx_tree.specs.Form.{admits, fits_below}
use Rattle.jsx_tree.specs.StaticRules.{Surroundings}
use Rattle.jsx_tree.specs.Reading.{Place}
use Rattle.jsx_tree.specs.Walk.{IsRead}
use Rattle.jsx_tree.proofs.Tokens.{and_left}
use Rattle.jsx_tree.proofs.Rows.Bridge.{node_walk}
use Rattle.jsx_tree.proofs.OneTree.Table.{kinds}
use Rattle.jsx_tree.proofs.OneTree.Checks.{every}
use Rattle.jsx_tree.proofs.OneTree.Statements.{stated_kinds, for_stated}
use Rattle.jsx_tree.proofs.OneTree.Facts.{never, or_else, not_is, for_kind, Seen, took}
use Rattle.jsx_tree.proofs.OneTree.Sealed.{sealed_same}
use Rattle.jsx_tree.proofs.OneTree.Fine.{at_sign}
use Rattle.jsx_tree.proofs.OneTree.Evidence.{Kept, kept_kind}
use Rattle.jsx_tree.proofs.OneTree.Spines.{home_of}
use Rattle.jsx_tree.proofs.OneTree.Chains.{seals}
use Rattle.jsx_tree.proofs.OneTree.Kept.{Which, a_statement, a_taken, a_seq, which}
use Rattle.jsx_tree.proofs.OneTree.Parts.{SameAt}

abbrev is_class : Kind → Bool
is_class (function ClassExpr) = true
is_class k = false

class_is : (k : Kind) → is_class k ≡ true → k ≡ function ClassExpr
class_is (function ClassExpr) h = refl
class_is (function _) h = cc
class_is _ h = cc

class_stated : every (λ k. not (in_homes ClassOnly (homes k)) || is_class k) stated_kinds ≡ true
class_stated = refl

class_taken : every (λ k. not (in_homes ClassOnly (homes k))) kinds ≡ true
class_taken = refl

class_seq : in_homes ClassOnly (homes (expression Seq)) ≡ false
class_seq = refl

class_leaf : (s : TokenKind) (t : Text) → leaf_in ClassOnly s t ≡ true → ⊥
class_leaf IdentifierName t h = cc
class_leaf _ t h = cc

record ClassAt (v : Surroundings) (x : Place) (t : Tree) (y : Place) : Type 0 where
  parts : Forest
  is_node : t ≡ node (function ClassExpr) parts
  good : Kept (node (function ClassExpr) parts)
  read : IsRead v false ClassOnly x (node (function ClassExpr) parts) y

class_view : {v : Surroundings} {x y : Place} (t : Tree) → Kept t → IsRead v false ClassOnly x t y → ClassAt v x t y
class_view (leaf s t) h r = absurd (class_leaf s t (and_left (leaf_in ClassOnly s t) _ r.is))
class_view (list ts) h r = let bad = r.is in cc
class_view {v} {x} {y} (node k cs) h r = by_which (which k (kept_kind h))
  where
    i : in_homes ClassOnly (homes k) ≡ true
    i = home_of ClassOnly k cs (and_left (admits ClassOnly (node k cs)) (fits_below ClassOnly (node k cs)) r.is)

    by_which : Which k → ClassAt v x (node k cs) y
    by_which (a_statement s) =
        let e = class_is k (or_else (not (in_homes ClassOnly (homes k))) _ (for_stated (λ k. not (in_homes ClassOnly (homes k)) || is_class k) class_stated k s) (ap not i)) in
        record { parts = cs; is_node = ap (λ k. node k cs) e; good = subst (λ k. Kept (node k cs)) e h; read = subst (λ k. IsRead v false ClassOnly x (node k cs) y) e r }
    by_which (a_blocked s) = absurd (never (in_homes ClassOnly (homes (expression Arrow))) (blocked_home ClassOnly k s i) refl)
    by_which (a_jsx j) = absurd (no_jsx ClassOnly k j refl i)
    by_which (a_taken s) = absurd (never (in_homes ClassOnly (homes k)) i (not_is _ (for_kind (λ k. not (in_homes ClassOnly (homes k))) class_taken k s)))
    by_which (a_seq e) = absurd (never (in_homes ClassOnly (homes k)) i (ap (λ k. in_homes ClassOnly (homes k)) e ∙ class_seq))

pub class_part : {v w : Surroundings} {x y z : Place} (t u : Tree) → Kept t → Kept u → IsRead v false ClassOnly x t y → IsRead w false ClassOnly x u z → SameAt t u y z
class_part t u h k r s =
    let a = class_view t h r in
    let b = class_view u k s in
    let q = sealed_same ((seals (function ClassExpr) a.parts refl a.good).seals a.read) ((seals (function ClassExpr) b.parts refl b.good).seals b.read) in
    record { tree = a.is_node ∙ (q.0 ∙ sym b.is_node); place = q.1 }

pub class_first : {v : Surroundings} {x y : Place} (t : Tree) → Kept t → IsRead v false ClassOnly x t y → Seen x IdentifierName (codes "class")
class_first {x = x} t h r =
    let a = class_view t h r in
    let p = at_sign (node_walk false (function ClassExpr) refl a.read).walk in
    took IdentifierName (codes "class") x p.moves p.found
