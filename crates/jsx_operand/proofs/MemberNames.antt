-- The names that the members of a class may have, with `static` before them or not (ECMA-262 section 15.7.1).
use Rattle.std.proofs.Common.{◌≡◌, Bool, true, false, not, List, [], ◌∷◌, map, refl}
use Rattle.std.specs.Prelude.{codes, Box, ◌&&◌, ◌||◌}
use Rattle.std.specs.Global.{Global}
use Rattle.std.specs.List.{list_any}
use Rattle.jsx_tree.specs.Kinds.{Method, Getter, Setter, Field, function, Tree, node, Forest, part}
use Rattle.jsx_tree.specs.StaticRules.{all_of, is_constructor, is_good_member, is_key}
use Rattle.jsx_tree.specs.View.{OfClass, forest, holder_of, inside}
use Rattle.jsx_tree.specs.declared.text.Placement.{Placement}
use Rattle.jsx_tree.specs.declared.text.Placement.TheVariants as placement
use Rattle.jsx_tree.specs.declared.tree.Prop.{Prop}
use Rattle.jsx_tree.proofs.Views.{views}
use Rattle.jsx_make.specs.Members.{view_class_member}
use Rattle.jsx_operand.specs.Members.{good_accessor, good_field, good_method, is_own}

-- ---- a member of each kind

pub named_method : (p : Placement) (k : Tree) (cs : Forest) → is_good_member (node (function (Method (holder_of OfClass p))) (part k cs)) ≡ good_method (holder_of OfClass p) k
named_method placement.Instance k cs = refl
named_method placement.Static k cs = refl

pub named_getter : (p : Placement) (k : Tree) (cs : Forest) → is_good_member (node (function (Getter (holder_of OfClass p))) (part k cs)) ≡ good_accessor (holder_of OfClass p) k
named_getter placement.Instance k cs = refl
named_getter placement.Static k cs = refl

pub named_setter : (p : Placement) (k : Tree) (cs : Forest) → is_good_member (node (function (Setter (holder_of OfClass p))) (part k cs)) ≡ good_accessor (holder_of OfClass p) k
named_setter placement.Instance k cs = refl
named_setter placement.Static k cs = refl

pub named_field : (p : Placement) (k : Tree) (cs : Forest) → is_good_member (node (function (Field (holder_of OfClass p))) (part k cs)) ≡ good_field (holder_of OfClass p) k
named_field placement.Instance k cs = refl
named_field placement.Static k cs = refl

pub constructing : (p : Placement) (k : Tree) (cs : Forest) → is_constructor (node (function (Method (holder_of OfClass p))) (part k cs)) ≡ (is_own p && is_key (codes "constructor") k)
constructing placement.Instance k cs = refl
constructing placement.Static k cs = refl

pub ruleset membering = (views, named_method, named_getter, named_setter, named_field, constructing)

-- ---- all of them

one_bad : (a b c : Bool) → b ≡ not c → (not a || b) ≡ not (a && c)
one_bad true b c e = e
one_bad false b c e = refl

pub any_misnamed : (ms : List (Box Prop Global)) → list_any (λ m. not (is_good_member (inside view_class_member m))) ms ≡ not (all_of is_good_member (forest (map (inside view_class_member) ms)))
any_misnamed [] = refl
any_misnamed (m ∷ ms) = one_bad (is_good_member (inside view_class_member m)) _ _ (any_misnamed ms)
