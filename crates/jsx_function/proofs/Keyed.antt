-- What stands behind the key of a member, in what the member makes of its surroundings: methods, getters, setters and fields (ECMA-262 sections 15.4 and 15.7).
use Rattle.std.proofs.Common.{◌≡◌, Bool, true, false, cond, not, nat_eq, List, [], ◌∷◌, refl, sym, ◌∙◌, ap, subst, Option, Some, None, Box, Global}
use Rattle.std.specs.Prelude.{IsTrue, suc, ◌&&◌, ◌||◌}
use Rattle.jsx_tree.specs.declared.tree.Key.{Key}
use Rattle.jsx_tree.specs.declared.tree.Expr.{Expr}
use Rattle.jsx_tree.specs.declared.tree.Access.TheOpen.{Key-F}
use Rattle.jsx_tree.specs.declared.tree.Access.TheFolds.{fold_out-Key}
use Rattle.jsx_tree.specs.Kinds.{Field, Getter, Holder, InClass, InObject, Kind, Method, Role, Setter, Static, function, Tree, node, Forest, none, part}
use Rattle.jsx_tree.specs.Nonterminals.{Key as KeyPlace}
use Rattle.jsx_tree.specs.Grammar.{Context, InField, InMethod, Part, pun}
use Rattle.jsx_tree.specs.Reading.{Place, forth}
use Rattle.jsx_tree.specs.StaticRules.{Surroundings, all_of, count_of, enters, first_is_constructor, has_plain_params, is_plain_list, is_strict_body, is_word}
use Rattle.jsx_tree.specs.View.{Owner, access_step, control_step, expr_step, jsx_step, key_step, link_step, operation_step, optional_of, pat_step, prop_step, stmt_step, view_expr, view_key}
use Rattle.jsx_tree.specs.Walk.{is_found, Relation, Piece, one, sign, tree, Walk, done, next, around, steady}
use Rattle.jsx_tree.specs.Language.{Whole}
use Rattle.jsx_tree.specs.Answers.{Only, Barred, OnlyRow, NoRow}
use Rattle.jsx_tree.specs.Faults.{Fault, Unread, Shallow, deepest}
use Rattle.jsx_tree.proofs.Tokens.{and_both, and_left}
use Rattle.jsx_tree.proofs.Apart.{clash}
use Rattle.jsx_tree.proofs.Rows.Bridge.{found_at}
use Rattle.jsx_tree.proofs.Rows.Placing.{free, free_around, moved}
use Rattle.jsx_tree.proofs.Rows.Stopping.{or_cases}
use Rattle.jsx_tree.proofs.Rows.Turns.{item_of}
use Rattle.jsx_tree.proofs.Depth.Shallow.{shallow_first}
use Rattle.jsx_function.proofs.Functions.{shallow_behind}
use Rattle.jsx_token.specs.Here.{Here, place_of}
use Rattle.jsx_operand.specs.Around.{in_field, in_method}
use Rattle.jsx_operand.specs.Bodies.{view_body}
use Rattle.jsx_operand.specs.SoFar.{so_far}
use Rattle.jsx_operand.specs.declared.body.Body.{Body}
use Rattle.jsx_operand.proofs.Entering.{deeper, enters_deeper, walk_in, walk_out}
use Rattle.jsx_operand.proofs.Values.{or_left, or_right}
use Rattle.jsx_function.specs.Functions.{NoOwnCode, own_row}
use Rattle.jsx_function.specs.Methods.{NoSetter, NoneFromKey, NoneKeyed, OnlyFromKey, OnlyKeyed, behind_key, field_row, from_key, getter_row, is_field, is_getter, is_method, is_setter, same_holder, setter_row, suits_setter}

-- ---- a row whose symbols stand in further contexts, which may look at the parts

pub inwards : {R : Relation} {v : Surroundings} {x y : Place} {ts : Forest} (c : List Context) (us : Forest) (ps : List Piece) → free ps ≡ true → Walk R (around v us) (deeper c ps) x ts y → Walk R (steady (enters us c v)) ps x ts y
inwards {v = v} c us ps f w = moved (λ a h. free_around a us (enters us c v) h) f (walk_in {V = around v us} {W = around (enters us c v) us} c (λ a. enters_deeper us a c v) ps w)

pub outwards : {R : Relation} {v : Surroundings} {x y : Place} {ts : Forest} (c : List Context) (us : Forest) (ps : List Piece) → free ps ≡ true → Walk R (steady (enters us c v)) ps x ts y → Walk R (around v us) (deeper c ps) x ts y
outwards {v = v} c us ps f w = walk_out {V = around v us} {W = around (enters us c v) us} c (λ a. enters_deeper us a c v) ps (moved (λ a h. sym (free_around a us (enters us c v) h)) f w)

-- ---- of one kind

-- this kind alone passes, and behind its key stands this row, in these contexts more
pub record Behind (p : Kind → Bool) (k : Kind) (c : List Context) (ps : List Piece) : Type 0 where
  pub passes : p k ≡ true
  pub alone : (j : Kind) → p j ≡ true → k ≡ j
  pub row : behind_key k ≡ deeper c ps
  pub freed : free ps ≡ true

behind_in : {p : Kind → Bool} {k : Kind} {c : List Context} {ps : List Piece} {v w : Surroundings} {key : Tree} {us : Forest} {x z : Place} → Behind p k c ps → enters (part key us) c v ≡ w → Walk (Whole so_far) (around v (part key us)) (behind_key k) x us z → Walk (Whole so_far) (steady w) ps x us z
behind_in {c = c} {ps} {v} {key = key} {us} {x} {z} b e r = subst (λ u. Walk (Whole so_far) (steady u) ps x us z) e (inwards c (part key us) ps b.freed (subst (λ qs. Walk (Whole so_far) (around v (part key us)) qs x us z) b.row r))

pub keyed_only : {p : Kind → Bool} {k : Kind} {c : List Context} {ps : List Piece} {v w : Surroundings} {x y : Place} {key t : Tree} {ts : Forest} → Behind p k c ps → ((us : Forest) → enters (part key us) c v ≡ w) → OnlyRow so_far w ps x ts y → so_far.keeps k v (part key ts) ≡ true → t ≡ node k (part key ts) → OnlyKeyed p v key t x y
keyed_only {p} {k} {c} {ps} {v} {w} {x} {y} {key} {t} {ts} b e o h is = record {
  kind = k;
  keyed = b.passes;
  parts = ts;
  is = is;
  walk = subst (λ qs. Walk (Whole so_far) (around v (part key ts)) qs x ts y) (sym b.row) (outwards c (part key ts) ps b.freed (subst (λ u. Walk (Whole so_far) (steady u) ps x ts y) (sym (e ts)) o.walk));
  keeps = h;
  alone = λ j us z q r m. at j us z (b.alone j q) r;
}
  where
    at : (j : Kind) (us : Forest) (z : Place) → k ≡ j → Walk (Whole so_far) (around v (part key us)) (behind_key j) x us z → (node j (part key us) ≡ t) × (z ≡ y)
    at j us z q r =
        let s = o.alone us z (behind_in b (e us) (subst (λ i. Walk (Whole so_far) (around v (part key us)) (behind_key i) x us z) (sym q) r)) in
        ((λ i. node (sym q i) (part key (sym s.0 i))) ∙ sym is, sym s.1)

pub keyed_none : {p : Kind → Bool} {k : Kind} {c : List Context} {ps : List Piece} {v w : Surroundings} {x : Place} {key : Tree} {o : Fault} → Behind p k c ps → ((us : Forest) → enters (part key us) c v ≡ w) → ((us : Forest) (z : Place) → Walk (Whole so_far) (steady w) ps x us z → so_far.keeps k v (part key us) ≡ true → Shallow o (deepest us) → ⊥) → NoneKeyed p v key x o
keyed_none {p} {k} {c} {ps} {v} {w} {x} {key} {o = o} b e n = record { no = λ j us z q r m h. at j us z (b.alone j q) r m h }
  where
    at : (j : Kind) (us : Forest) (z : Place) → k ≡ j → Walk (Whole so_far) (around v (part key us)) (behind_key j) x us z → so_far.keeps j v (part key us) ≡ true → Shallow o (deepest us) → ⊥
    at j us z q r m h = subst (λ i. Walk (Whole so_far) (around v (part key us)) (behind_key i) x us z → so_far.keeps i v (part key us) ≡ true → ⊥) q (λ w l. n us z (behind_in b (e us) w) l h) r m

-- ---- of two kinds

pub keyed_first : {p q : Kind → Bool} {v : Surroundings} {key t : Tree} {x y : Place} → OnlyKeyed p v key t x y → NoneKeyed q v key x Unread → OnlyKeyed (λ k. p k || q k) v key t x y
keyed_first {p} {q} o n = record {
  kind = o.kind;
  keyed = or_left (p o.kind) (q o.kind) o.keyed;
  parts = o.parts;
  is = o.is;
  walk = o.walk;
  keeps = o.keeps;
  alone = λ k us z h w m. or_cases (p k) (q k) h (λ i. o.alone k us z i w m) (λ i. absurd (n.no k us z i w m tt));
}

pub keyed_second : {p q : Kind → Bool} {v : Surroundings} {key t : Tree} {x y : Place} → NoneKeyed p v key x Unread → OnlyKeyed q v key t x y → OnlyKeyed (λ k. p k || q k) v key t x y
keyed_second {p} {q} n o = record {
  kind = o.kind;
  keyed = or_right (p o.kind) (q o.kind) o.keyed;
  parts = o.parts;
  is = o.is;
  walk = o.walk;
  keeps = o.keeps;
  alone = λ k us z h w m. or_cases (p k) (q k) h (λ i. absurd (n.no k us z i w m tt)) (λ i. o.alone k us z i w m);
}

pub keyed_neither : {p q : Kind → Bool} {v : Surroundings} {key : Tree} {x : Place} {e : Fault} → NoneKeyed p v key x e → NoneKeyed q v key x e → NoneKeyed (λ k. p k || q k) v key x e
keyed_neither {p} {q} n m = record { no = λ k us z h w r s. or_cases (p k) (q k) h (λ i. n.no k us z i w r s) (λ i. m.no k us z i w r s) }

-- ---- with the key before it

-- what a walk from the key on is behind this key
pub record Rest (v : Surroundings) (k : Kind) (key : Tree) (y : Place) (ts : Forest) (z : Place) : Type 0 where
  pub parts : Forest
  pub is : part key parts ≡ ts
  pub walk : Walk (Whole so_far) (around v (part key parts)) (behind_key k) y parts z

pub past : {v : Surroundings} {k : Kind} {x y z : Place} {key : Tree} {ts : Forest} → Only so_far v (Part KeyPlace) x (one key) y → Walk (Whole so_far) (around v ts) (from_key k) x ts z → Rest v k key y ts z
past {v} {k} {z = z} {key = key} o (next {y = y'} {ts = us} (tree {t = t} q) w) =
    let s = o.alone (one t) y' (tree q) in
    record {
      parts = us;
      is = ap (λ g. part (item_of g) us) s.0;
      walk = subst (λ p. Walk (Whole so_far) (around v (part key us)) (behind_key k) p us z) (sym s.1) (subst (λ c. Walk (Whole so_far) (around v (part c us)) (behind_key k) y' us z) (sym (ap item_of s.0)) w);
    }

pub from_only : {p : Kind → Bool} {v : Surroundings} {key t : Tree} {x y z : Place} → Only so_far v (Part KeyPlace) x (one key) y → OnlyKeyed p v key t y z → OnlyFromKey p v t x z
from_only {p} {v} {key} {t} {x} {y} {z} o k = record { kind = k.kind; keyed = k.keyed; parts = part key k.parts; is = k.is; walk = next o.past k.walk; keeps = k.keeps; alone = at }
  where
    at : (j : Kind) (us : Forest) (w : Place) → p j ≡ true → Walk (Whole so_far) (around v us) (from_key j) x us w → so_far.keeps j v us ≡ true → (node j us ≡ t) × (w ≡ z)
    at j us w h walk m =
        let r = past o walk in
        let s = k.alone j r.parts w h r.walk (subst (λ f. so_far.keeps j v f ≡ true) (sym r.is) m) in
        (ap (node j) (sym r.is) ∙ s.0, s.1)

pub from_none : {p : Kind → Bool} {v : Surroundings} {key : Tree} {x y : Place} {e : Fault} → Only so_far v (Part KeyPlace) x (one key) y → NoneKeyed p v key y e → NoneFromKey p v x e
from_none {v = v} {key = key} {e = e} o n = record { no = λ j us z h w m s. let r = past o w in n.no j r.parts z h r.walk (subst (λ f. so_far.keeps j v f ≡ true) (sym r.is) m) (shallow_behind e key r.parts us r.is s) }

pub from_barred : {p : Kind → Bool} {v : Surroundings} {x : Place} {e : Fault} → Barred so_far v (Part KeyPlace) x e → NoneFromKey p v x e
from_barred {v = v} {x} {e = e} b = record { no = λ j us z h w m a. at j w a }
  where
    at : (k : Kind) {us ts : Forest} {z : Place} → Walk (Whole so_far) (around v us) (from_key k) x ts z → Shallow e (deepest ts) → ⊥
    at k (next {g = g'} {ts = us'} q w) s = b.no _ _ q (shallow_first e g' us' s)

-- ---- the key of the code's tree is neither a body nor a list

strict_step : (x : Key-F Tree Tree Tree Tree Tree Tree Tree (Role → Tree) (Owner → Tree) Tree) → is_strict_body (key_step x) ≡ false
strict_step (Key-F.Name a) = refl
strict_step (Key-F.«Key::Literal» k a) = refl
strict_step (Key-F.Computed at a) = refl

plain_step : (x : Key-F Tree Tree Tree Tree Tree Tree Tree (Role → Tree) (Owner → Tree) Tree) → is_plain_list (key_step x) ≡ true
plain_step (Key-F.Name a) = refl
plain_step (Key-F.«Key::Literal» k a) = refl
plain_step (Key-F.Computed at a) = refl

key_strict : (k : Key) → is_strict_body (view_key k) ≡ false
key_strict k = ap is_strict_body (fold_out-Key Tree Tree Tree Tree Tree Tree Tree (Role → Tree) (Owner → Tree) Tree access_step control_step expr_step jsx_step key_step link_step operation_step pat_step prop_step stmt_step k) ∙ strict_step _

key_plain : (k : Key) → is_plain_list (view_key k) ≡ true
key_plain k = ap is_plain_list (fold_out-Key Tree Tree Tree Tree Tree Tree Tree (Role → Tree) (Owner → Tree) Tree access_step control_step expr_step jsx_step key_step link_step operation_step pat_step prop_step stmt_step k) ∙ plain_step _

-- so it makes no matter to the rule on parameters
pub plain_keyed : (k : Key) (us : Forest) → has_plain_params (part (view_key k) us) ≡ has_plain_params us
plain_keyed k us = (λ i. nat_eq (cond (key_strict k i) (suc (count_of is_strict_body us)) (count_of is_strict_body us)) 0 || (key_plain k i && all_of is_plain_list us))

-- ---- holders

pub same_self : (h : Holder) → same_holder h h ≡ true
same_self InObject = refl
same_self InClass = refl
same_self Static = refl

one_holder : (h g : Holder) → same_holder h g ≡ true → h ≡ g
one_holder InObject InObject e = refl
one_holder InClass InClass e = refl
one_holder Static Static e = refl
one_holder InObject InClass e = cc
one_holder InObject Static e = cc
one_holder InClass InObject e = cc
one_holder InClass Static e = cc
one_holder Static InObject e = cc
one_holder Static InClass e = cc

-- what the code of a method stands in
in_code : (h : Holder) (key : Tree) (v : Surroundings) (us : Forest) {b : Bool} → b ≡ first_is_constructor h (part key none) → enters (part key us) (InMethod h ∷ []) v ≡ in_method b v
in_code InObject key v us e = ap (λ c. in_method c v) (sym e)
in_code InClass key v us e = ap (λ c. in_method c v) (sym e)
in_code Static key v us e = ap (λ c. in_method c v) (sym e)

-- ---- methods

pub method_is : (h : Holder) (j : Kind) → is_method h j ≡ true → function (Method h) ≡ j
method_is h (function (Method g)) e = ap (λ i. function (Method i)) (one_holder h g e)
method_is h _ e = cc

method_row : (h : Holder) → behind_key (function (Method h)) ≡ deeper (InMethod h ∷ []) own_row
method_row InObject = refl
method_row InClass = refl
method_row Static = refl

method_behind : (h : Holder) → Behind (is_method h) (function (Method h)) (InMethod h ∷ []) own_row
method_behind h = record { passes = same_self h; alone = λ j e. method_is h j e; row = method_row h; freed = refl }

pub method_only : {v : Surroundings} {x y : Place} {t : Tree} {ts : Forest} {b : Bool} (h : Holder) (k : Key) → b ≡ first_is_constructor h (part (view_key k) none) → OnlyRow so_far (in_method b v) own_row x ts y → has_plain_params ts ≡ true → t ≡ node (function (Method h)) (part (view_key k) ts) → OnlyKeyed (is_method h) v (view_key k) t x y
method_only {v} {ts = ts} h k e o p is = keyed_only (method_behind h) (λ us. in_code h (view_key k) v us e) o (and_both _ _ (plain_keyed k ts ∙ p) refl) is

pub no_method : {v : Surroundings} {x : Place} {b : Bool} {o : Fault} (h : Holder) (k : Key) → b ≡ first_is_constructor h (part (view_key k) none) → NoOwnCode (in_method b v) x o → NoneKeyed (is_method h) v (view_key k) x o
no_method {v} h k e n = keyed_none (method_behind h) (λ us. in_code h (view_key k) v us e) (λ us z w m s. n.no us z w (sym (plain_keyed k us) ∙ and_left (has_plain_params (part (view_key k) us)) true m) s)

-- no `(` stands there
pub uncalled : {v : Surroundings} {x : Place} {e : Fault} (h : Holder) (k : Key) → ((w : Surroundings) → NoRow so_far w own_row x e) → NoneKeyed (is_method h) v (view_key k) x e
uncalled h k n = no_method h k refl (record { no = λ ts y w p s. (n _).no ts y w s })

-- ---- getters

pub getter_is : (h : Holder) (j : Kind) → is_getter h j ≡ true → function (Getter h) ≡ j
getter_is h (function (Getter g)) e = ap (λ i. function (Getter i)) (one_holder h g e)
getter_is h _ e = cc

getter_deeper : (h : Holder) → behind_key (function (Getter h)) ≡ deeper (InMethod h ∷ []) getter_row
getter_deeper InObject = refl
getter_deeper InClass = refl
getter_deeper Static = refl

getter_behind : (h : Holder) → Behind (is_getter h) (function (Getter h)) (InMethod h ∷ []) getter_row
getter_behind h = record { passes = same_self h; alone = λ j e. getter_is h j e; row = getter_deeper h; freed = refl }

pub getter_only : {v : Surroundings} {x y : Place} {t : Tree} {b : Bool} (h : Holder) (k : Key) (d : Body) → b ≡ first_is_constructor h (part (view_key k) none) → OnlyRow so_far (in_method b v) getter_row x (part (view_body d) none) y → t ≡ node (function (Getter h)) (part (view_key k) (part (view_body d) none)) → OnlyKeyed (is_getter h) v (view_key k) t x y
getter_only {v} h k d e o is = keyed_only (getter_behind h) (λ us. in_code h (view_key k) v us e) o (and_both _ _ (or_right _ _ (and_both _ _ (key_plain k) refl)) refl) is

pub no_getter : {v : Surroundings} {x : Place} {b : Bool} {o : Fault} (h : Holder) (k : Key) → b ≡ first_is_constructor h (part (view_key k) none) → NoRow so_far (in_method b v) getter_row x o → NoneKeyed (is_getter h) v (view_key k) x o
no_getter {v} h k e n = keyed_none (getter_behind h) (λ us. in_code h (view_key k) v us e) (λ us z w m s. n.no us z w s)

-- ---- setters

pub setter_is : (h : Holder) (j : Kind) → is_setter h j ≡ true → function (Setter h) ≡ j
setter_is h (function (Setter g)) e = ap (λ i. function (Setter i)) (one_holder h g e)
setter_is h _ e = cc

setter_deeper : (h : Holder) → behind_key (function (Setter h)) ≡ deeper (InMethod h ∷ []) setter_row
setter_deeper InObject = refl
setter_deeper InClass = refl
setter_deeper Static = refl

setter_behind : (h : Holder) → Behind (is_setter h) (function (Setter h)) (InMethod h ∷ []) setter_row
setter_behind h = record { passes = same_self h; alone = λ j e. setter_is h j e; row = setter_deeper h; freed = refl }

pub setter_only : {v : Surroundings} {x y : Place} {t q : Tree} {b : Bool} (h : Holder) (k : Key) (d : Body) → b ≡ first_is_constructor h (part (view_key k) none) → OnlyRow so_far (in_method b v) setter_row x (part q (part (view_body d) none)) y → suits_setter (part q (part (view_body d) none)) ≡ true → t ≡ node (function (Setter h)) (part (view_key k) (part q (part (view_body d) none)))
    → OnlyKeyed (is_setter h) v (view_key k) t x y
setter_only {v} h k d e o s is = keyed_only (setter_behind h) (λ us. in_code h (view_key k) v us e) o (and_both _ _ s refl) is

-- its parts are a parameter and a body
setter_suits : {V : List Context → Surroundings} {x z : Place} {us : Forest} (v : Surroundings) (h : Holder) (key : Tree) → Walk (Whole so_far) V setter_row x us z → so_far.keeps (function (Setter h)) v (part key us) ≡ true → suits_setter us ≡ true
setter_suits v h key (next (sign a b) (next (tree {t = q} r) (next (sign c d) (next (sign e f) (next (tree {t = s} g) (next (sign i j) (done l))))))) m = and_left (not (is_strict_body s) || is_word q) true m

pub no_setter : {v : Surroundings} {x : Place} {b : Bool} {o : Fault} (h : Holder) (k : Key) → b ≡ first_is_constructor h (part (view_key k) none) → NoSetter (in_method b v) x o → NoneKeyed (is_setter h) v (view_key k) x o
no_setter {v} h k e n = keyed_none (setter_behind h) (λ us. in_code h (view_key k) v us e) (λ us z w m s. n.no us z w (setter_suits v h (view_key k) w m) s)

-- ---- fields

pub field_is : (h : Holder) (j : Kind) → is_field h j ≡ true → function (Field h) ≡ j
field_is h (function (Field g)) e = ap (λ i. function (Field i)) (one_holder h g e)
field_is h _ e = cc

field_deeper : (h : Holder) → behind_key (function (Field h)) ≡ deeper (InField ∷ []) field_row
field_deeper InObject = refl
field_deeper InClass = refl
field_deeper Static = refl

field_behind : (h : Holder) → Behind (is_field h) (function (Field h)) (InField ∷ []) field_row
field_behind h = record { passes = same_self h; alone = λ j e. field_is h j e; row = field_deeper h; freed = refl }

-- a value is no body
bodiless : (o : Option (Box Expr Global)) → has_plain_params (part (optional_of view_expr o) none) ≡ true
bodiless None = refl
bodiless (Some e) = refl

field_keeps : (h : Holder) (v : Surroundings) (ts : Forest) → same_holder h InObject ≡ false → has_plain_params ts ≡ true → so_far.keeps (function (Field h)) v ts ≡ true
field_keeps InClass v ts n p = and_both _ _ p refl
field_keeps Static v ts n p = and_both _ _ p refl
field_keeps InObject v ts n p = cc

pub field_only : {v : Surroundings} {x y : Place} {t : Tree} (h : Holder) (k : Key) (o : Option (Box Expr Global)) → same_holder h InObject ≡ false → OnlyRow so_far (in_field v) field_row x (part (optional_of view_expr o) none) y → t ≡ node (function (Field h)) (part (view_key k) (part (optional_of view_expr o) none)) → OnlyKeyed (is_field h) v (view_key k) t x y
field_only {v} h k o n r is = keyed_only (field_behind h) (λ us. refl) r (field_keeps h v (part (view_key k) (part (optional_of view_expr o) none)) n (plain_keyed k (part (optional_of view_expr o) none) ∙ bodiless o)) is

pub no_field : {v : Surroundings} {x : Place} {e : Fault} (h : Holder) (k : Key) → NoRow so_far (in_field v) field_row x e → NoneKeyed (is_field h) v (view_key k) x e
no_field {v} h k n = keyed_none (field_behind h) (λ us. refl) (λ us z w m s. n.no us z w s)

-- ---- from a place that is another, and in surroundings that are others

pub keyed_at : {p : Kind → Bool} {v : Surroundings} {c t : Tree} {x y : Here} {z : Place} → x ≡ y → OnlyKeyed p v c t (place_of x) z → OnlyKeyed p v c t (place_of y) z
keyed_at {p} {v} {c} {t} {z = z} e o = subst (λ h. OnlyKeyed p v c t (place_of h) z) e o

pub no_keyed_at : {p : Kind → Bool} {v : Surroundings} {c : Tree} {x y : Here} {o : Fault} → x ≡ y → NoneKeyed p v c (place_of x) o → NoneKeyed p v c (place_of y) o
no_keyed_at {p} {v} {c} {o = o} e n = subst (λ h. NoneKeyed p v c (place_of h) o) e n

pub row_in : {v w : Surroundings} {ps : List Piece} {x y : Place} {ts : Forest} → v ≡ w → OnlyRow so_far v ps x ts y → OnlyRow so_far w ps x ts y
row_in {ps = ps} {x} {y} {ts} e o = subst (λ u. OnlyRow so_far u ps x ts y) e o

pub no_row_in : {v w : Surroundings} {ps : List Piece} {x : Place} {o : Fault} → v ≡ w → NoRow so_far v ps x o → NoRow so_far w ps x o
no_row_in {ps = ps} {x} {o = o} e n = subst (λ u. NoRow so_far u ps x o) e n

pub no_code_in : {v w : Surroundings} {x : Place} {o : Fault} → v ≡ w → NoOwnCode v x o → NoOwnCode w x o
no_code_in {x = x} {o = o} e n = subst (λ u. NoOwnCode u x o) e n

pub no_setter_in : {v w : Surroundings} {x : Place} {o : Fault} → v ≡ w → NoSetter v x o → NoSetter w x o
no_setter_in {x = x} {o = o} e n = subst (λ u. NoSetter u x o) e n

-- ---- no `(` behind a key

pub unbracketed : {w : Surroundings} {x : Place} {o : Fault} → is_found (forth (pun "(") x) ≡ false → NoRow so_far w own_row x o
unbracketed {w} {x} {o = o} n = record { no = λ ts z k h. at k h }
  where
    at : {ts : Forest} {z : Place} → Walk (Whole so_far) (steady w) own_row x ts z → Shallow o (deepest ts) → ⊥
    at (next (sign e g) k) s = clash _ (found_at e g) n

-- ---- what isn't behind a key, whatever the key

pub code_behind : {v : Surroundings} {c : Tree} {us : Forest} {x z : Place} (h : Holder) → (IsTrue (is_found (forth (pun "(") x)) → ⊥) → Walk (Whole so_far) (around v (part c us)) (behind_key (function (Method h))) x us z → ⊥
code_behind {x = x} {z} h n r = at (behind_in (method_behind h) refl r)
  where
    at : {u : Surroundings} {ts : Forest} → Walk (Whole so_far) (steady u) own_row x ts z → ⊥
    at (next (sign e f) w) = n (found_at e f)

pub field_behind_in : {v : Surroundings} {c : Tree} {us : Forest} {x z : Place} (h : Holder) → ((w : Surroundings) → NoRow so_far w field_row x Unread) → Walk (Whole so_far) (around v (part c us)) (behind_key (function (Field h))) x us z → ⊥
field_behind_in {us = us} {z = z} h n r = (n _).no us z (behind_in (field_behind h) refl r) tt
