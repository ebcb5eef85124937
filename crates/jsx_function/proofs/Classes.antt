-- Classes behind their words: a name or none, what is extended, and the members (ECMA-262 section 15.7).
use Rattle.std.proofs.Common.{◌≡◌, Bool, true, false, not, nat_le, List, [], ◌∷◌, ◌++◌, refl, sym, ◌∙◌, ap, subst, Option, Some, None, Box, Global}
use Rattle.std.specs.Prelude.{IsTrue, codes, cond, ◌&&◌, ◌||◌}
use Rattle.jsx_base.specs.Token.{Text, Operator, IdentifierName, same}
use Rattle.jsx_tree.specs.declared.text.Ident.{Ident}
use Rattle.jsx_tree.specs.declared.tree.Expr.{Expr as Expression}
use Rattle.jsx_tree.specs.Signs.{Tok, Unless}
use Rattle.std.specs.Option.{is_some}
use Rattle.jsx_tree.specs.Kinds.{ClassExpr, Field, Getter, Kind, Method, Setter, function, Tree, leaf, node, list, Forest, none, part}
use Rattle.jsx_tree.specs.Nonterminals.{BindingIdent, Expr, is_bound, leaf_in}
use Rattle.jsx_tree.specs.Grammar.{Context, Fixed, InClassCode, InMembers, Part, Symbol, key, pun}
use Rattle.jsx_tree.specs.Form.{is_leaf}
use Rattle.jsx_tree.specs.Reading.{Place, Lost, At, forth}
use Rattle.jsx_tree.specs.StaticRules.{Surroundings, all_of, enter, enters, is_constructor, is_good_member, is_here, list_rule, members_rule, rule, stands}
use Rattle.jsx_tree.specs.Spans.{Told, Tales, tale}
use Rattle.jsx_tree.specs.Told.{told_list, told_name}
use Rattle.jsx_tree.specs.View.{optional_name, optional_of, view_expr}
use Rattle.jsx_tree.specs.Walk.{is_found, Given, nothing, one, Piece, piece, Past, sign, tree, absent, present, Walk, next, steady, tail}
use Rattle.jsx_tree.specs.Language.{Whole}
use Rattle.jsx_tree.specs.Answers.{Moves, Only, Barred, OnlyRow, NoRow}
use Rattle.jsx_tree.specs.Faults.{Fault, Shallow, deepest}
use Rattle.jsx_tree.proofs.Tokens.{and_both, and_left, same_is}
use Rattle.jsx_tree.proofs.Apart.{clash, one_token}
use Rattle.jsx_tree.proofs.Rows.Bridge.{found_first, found_at}
use Rattle.jsx_tree.proofs.Rows.Firsts.{kind_home}
use Rattle.jsx_tree.proofs.Rows.Laws.{end_found, start_found}
use Rattle.jsx_tree.proofs.Rows.Steps.{bar, on, then'}
use Rattle.jsx_tree.proofs.Rows.Turns.{item_of, whole_of}
use Rattle.jsx_tree.proofs.Depth.Shallow.{shallow_first, shallow_head}
use Rattle.jsx_function.proofs.Functions.{shallow_behind}
use Rattle.jsx_token.specs.Here.{Here}
use Rattle.jsx_token.specs.Places.{Takes}
use Rattle.jsx_operand.specs.Around.{in_members}
use Rattle.jsx_operand.specs.Openings.{NoParts, OnlyParts}
use Rattle.jsx_operand.specs.SoFar.{Staged, so_far}
use Rattle.jsx_operand.specs.Spans.{IsPlaced, IsPlacedFront, IsPlacedRow}
use Rattle.jsx_operand.proofs.Entering.{renamed}
use Rattle.jsx_operand.proofs.Homes.{IsName, bindings, taken_by, home_of, no_list}
use Rattle.jsx_operand.proofs.Keys.{mark_none}
use Rattle.jsx_operand.proofs.OfSoFar.{of_so_far}
use Rattle.jsx_operand.proofs.Placing.{row_absent, row_present, row_quiet, row_sign}
use Rattle.jsx_operand.proofs.Standing.{standing}
use Rattle.jsx_function.specs.Classes.{ClassRest, HeritageRest, IsClassName, IsHeritage, NoClass, NoNamedClass, OnlyClass, OnlyNamedClass, class_in, class_name, class_row, class_symbols, heritage, keep_members, members_row, members_symbols, named_class_in, named_class_row}
use Rattle.jsx_function.proofs.Keyed.{inwards, outwards}

unless_none : (x : Place) → IsTrue (is_found x) → forth (Unless []) x ≡ x
unless_none Lost f = refl
unless_none (At q e text) f = refl

lost_by : (x : Place) → is_found x ≡ false → x ≡ Lost
lost_by Lost e = refl
lost_by (At q e text) h = cc

lost_found : {x : Place} → x ≡ Lost → IsTrue (is_found x) → ⊥
lost_found e f = let bad : IsTrue (is_found Lost) = subst (λ p. IsTrue (is_found p)) e f in cc

-- in the same surroundings
pub only_in : {u v : Surroundings} {p : Symbol} {x y : Place} {g : Given} → u ≡ v → Only so_far u p x g y → Only so_far v p x g y
only_in {p = p} {x} {y} {g} e o = subst (λ w. Only so_far w p x g y) e o

pub barred_in : {u v : Surroundings} {p : Symbol} {x : Place} {o : Fault} → u ≡ v → Barred so_far u p x o → Barred so_far v p x o
barred_in {p = p} {x} {o = o} e b = subst (λ w. Barred so_far w p x o) e b

-- ---- what is extended

-- the row from what is extended on begins with the brace
braced : {V : List Context → Surroundings} {x w : Place} {ts : Forest} → Walk (Whole so_far) V (tail class_row) x ts w → IsTrue (is_found (forth (pun "{") x))
braced (next (sign e f) walk) = found_at e f

-- where a word stands no brace does
word_braced : (t : Text) (x : Place) → IsTrue (is_found (forth (Tok Operator IdentifierName t) x)) → IsTrue (is_found (forth (pun "{") x)) → ⊥
word_braced t x f g = mark_none IsName t (codes "{") x refl f g

pub heritage_absent : {v : Surroundings} {x x' : Place} → x' ≡ x → forth (key "extends") x ≡ Lost → IsHeritage v x (list none) x'
heritage_absent {v} {x} {x'} e n = subst (λ p. IsHeritage v x (list none) p) (sym e) (record { to = forward; from = back })
  where
    there : {V : List Context → Surroundings} {ts : Forest} {w : Place} → Walk (Whole so_far) V (tail class_row) x ts w → IsTrue (is_found x)
    there walk = found_first (pun "{" ∷ []) x (braced walk)

    forward : (ts : Forest) (w : Place) → Walk (Whole so_far) (class_in v (part (list none) ts)) (tail class_row) x ts w → Walk (Whole so_far) (class_in v (part (list none) ts)) class_row x (part (list none) ts) w
    forward ts w walk = next (absent (unless_none x (there walk)) (there walk)) walk

    back : (us : Forest) (w : Place) → Walk (Whole so_far) (class_in v us) class_row x us w → HeritageRest v (list none) x us w
    back us w (next {ts = ts} (absent f g) walk) = record { parts = ts; is = refl; walk = subst (λ p. Walk (Whole so_far) (class_in v (part (list none) ts)) (tail class_row) p ts w) (sym f ∙ unless_none x (found_first (Unless [] ∷ []) x (found_at f g))) walk }
    back us w (next (present d q f g) walk) = absurd (lost_found (sym d ∙ n) (start_found of_so_far q.reads))

pub heritage_present : {v : Surroundings} {x a b : Place} {t : Tree} → Moves (key "extends") x a → Only so_far (enter none InClassCode v) (Part (Expr 17)) a (one t) b → IsHeritage v x (list (part t none)) b
heritage_present {v} {x} {a} {b} {t} m o = record { to = forward; from = back }
  where
    whole : Whole so_far (enter none InClassCode v) false (Expr 17) a t b
    whole = whole_of o.past

    forward : (ts : Forest) (w : Place) → Walk (Whole so_far) (class_in v (part (list (part t none)) ts)) (tail class_row) b ts w → Walk (Whole so_far) (class_in v (part (list (part t none)) ts)) class_row x (part (list (part t none)) ts) w
    forward ts w walk = next (present (sym m.is) whole refl (end_found of_so_far whole.reads)) walk

    back : (us : Forest) (w : Place) → Walk (Whole so_far) (class_in v us) class_row x us w → HeritageRest v (list (part t none)) b us w
    back us w (next {ts = ts} (absent f g) walk) =
        let here : IsTrue (is_found x) = found_first (Unless [] ∷ []) x (found_at f g) in
        absurd (word_braced (codes "extends") x (found_at (sym m.is) m.found) (subst (λ p. IsTrue (is_found (forth (pun "{") p))) (sym f ∙ unless_none x here) (braced walk)))
    back us w (next {ts = ts} (present {y = y} {z = z} {w = b'} {t = u} d q f g) walk) =
        let read : Whole so_far (enter none InClassCode v) false (Expr 17) a u z = subst (λ p. Whole so_far (enter none InClassCode v) false (Expr 17) p u z) (sym (m.is ∙ d)) q in
        let e = o.alone (one u) z (tree read) in
        let same : t ≡ u = ap item_of e.0 in
        record {
          parts = ts;
          is = ap (λ r. part (list (part r none)) ts) same;
          walk = subst (λ p. Walk (Whole so_far) (class_in v (part (list (part t none)) ts)) (tail class_row) p ts w) (sym (e.1 ∙ f)) (subst (λ r. Walk (Whole so_far) (class_in v (part (list (part r none)) ts)) (tail class_row) b' ts w) (sym same) walk);
        }

pub heritage_none : {v : Surroundings} {x a : Place} {e : Fault} → Moves (key "extends") x a → Barred so_far (enter none InClassCode v) (Part (Expr 17)) a e → NoClass v x e
heritage_none {v} {x} {a} {e = e} m b = record { no = λ us w walk k h. at walk h }
  where
    at : {us ts : Forest} {w : Place} → Walk (Whole so_far) (class_in v us) class_row x ts w → Shallow e (deepest ts) → ⊥
    at (next (absent f g) walk) s =
        let here : IsTrue (is_found x) = found_first (Unless [] ∷ []) x (found_at f g) in
        word_braced (codes "extends") x (found_at (sym m.is) m.found) (subst (λ p. IsTrue (is_found (forth (pun "{") p))) (sym f ∙ unless_none x here) (braced walk))
    at (next {ts = us'} (present {y = y} {z = z} {t = u} d q f g) walk) s = b.no (one u) z (tree (subst (λ p. Whole so_far (enter none InClassCode v) false (Expr 17) p u z) (sym (m.is ∙ d)) q)) (shallow_head e u none (shallow_first e (one (list (part u none))) us' s))

-- ---- no expression is a member

abbrev is_member_kind : Kind → Bool
is_member_kind (function (Method h)) = true
is_member_kind (function (Getter h)) = true
is_member_kind (function (Setter h)) = true
is_member_kind (function (Field h)) = true
is_member_kind k = false

record Plain (t : Tree) : Type 0 where
  constructs : is_constructor t ≡ false
  good : is_good_member t ≡ true

plain_node : (k : Kind) (ts : Forest) → not (is_member_kind k) ≡ true → Plain (node k ts)
plain_node (function (Method h)) ts e = cc
plain_node (function (Getter h)) ts e = cc
plain_node (function (Setter h)) ts e = cc
plain_node (function (Field h)) ts e = cc
plain_node _ ts e = record { constructs = refl; good = refl }

plain_value : {v : Surroundings} {x y : Place} (t : Tree) → Staged v false (Expr 17) x t y → Plain t
plain_value (leaf k s) r = record { constructs = refl; good = refl }
plain_value (node k ts) r = plain_node k ts (standing (Expr 17) (λ j. not (is_member_kind j)) refl k (taken_by r) (kind_home (Expr 17) k ts (home_of r)))
plain_value (list ts) r = absurd (no_list r)

rule_of : (t : Tree) → Plain t → members_rule (part t none) ≡ true
rule_of t p = (λ i. nat_le (cond (p.constructs i) 1 0) 1 && (p.good i && true))

pub extended_plain : {v : Surroundings} {x y : Place} (e : Expression) → Only so_far v (Part (Expr 17)) x (one (view_expr e)) y → list_rule members_rule (list (part (view_expr e) none)) ≡ true
extended_plain e o = rule_of (view_expr e) (plain_value (view_expr e) (whole_of o.past).reads)

-- ---- the members

abbrev contexts : List Context
contexts = InMembers ∷ InClassCode ∷ []

abbrev inner_row : List Piece
inner_row = piece [] (Fixed (pun "{")) ∷ members_row

-- a sign stands there in whatever surroundings
brace_in : {v w : Surroundings} {x y : Place} → Only so_far v (Fixed (pun "{")) x nothing y → Only so_far w (Fixed (pun "{")) x nothing y
brace_in {v} {w} {x} {y} o = record { past = over o.past; alone = λ g z p. o.alone g z (back p) }
  where
    over : {g : Given} {z : Place} → Past (Whole so_far) v (Fixed (pun "{")) x g z → Past (Whole so_far) w (Fixed (pun "{")) x g z
    over (sign e f) = sign e f

    back : {g : Given} {z : Place} → Past (Whole so_far) w (Fixed (pun "{")) x g z → Past (Whole so_far) v (Fixed (pun "{")) x g z
    back (sign e f) = sign e f

no_brace_in : {v w : Surroundings} {x : Place} {o : Fault} → Barred so_far v (Fixed (pun "{")) x o → Barred so_far w (Fixed (pun "{")) x o
no_brace_in {v} {w} {x} b = record { no = λ g z p s. b.no g z (back p) s }
  where
    back : {g : Given} {z : Place} → Past (Whole so_far) w (Fixed (pun "{")) x g z → Past (Whole so_far) v (Fixed (pun "{")) x g z
    back (sign e f) = sign e f

inner_in : {v : Surroundings} {x z : Place} {us ts : Forest} → Walk (Whole so_far) (class_in v us) (tail class_row) x ts z → Walk (Whole so_far) (steady (enters (part (list none) us) contexts v)) inner_row x ts z
inner_in {us = us} walk = inwards contexts (part (list none) us) inner_row refl walk

pub class_only : {v : Surroundings} {x y y' z : Place} {h ms : Tree} {b : Bool} → IsHeritage v x h y → b ≡ is_here h → Only so_far v (Fixed (pun "{")) y nothing y' → OnlyRow so_far (in_members b v) members_row y' (part ms none) z → OnlyClass v x (part h (part ms none)) z
class_only {v} {x} {y} {z = z} {h} {ms} {b} i e brace given = record { walk = i.to (part ms none) z (outwards contexts (part (list none) (part h (part ms none))) inner_row refl row.walk); alone = at }
  where
    row : OnlyRow so_far (in_members (is_here h) v) inner_row y (part ms none) z
    row = subst (λ a. OnlyRow so_far (in_members a v) inner_row y (part ms none) z) e (then' (brace_in brace) given)

    at : (us : Forest) (w : Place) → Walk (Whole so_far) (class_in v us) class_row x us w → (part h (part ms none) ≡ us) × (z ≡ w)
    at us w walk =
        let r = i.from us w walk in
        let s = row.alone r.parts w (inner_in {us = part h r.parts} r.walk) in
        (ap (part h) s.0 ∙ r.is, s.1)

class_none : {v : Surroundings} {x y : Place} {h : Tree} {e : Fault} → IsHeritage v x h y → NoRow so_far (in_members (is_here h) v) inner_row y e → NoClass v x e
class_none {h = h} {e = e} i n = record { no = λ us w walk k s. let r = i.from us w walk in n.no r.parts w (inner_in {us = part h r.parts} r.walk) (shallow_behind e h r.parts us r.is s) }

pub class_no_brace : {v : Surroundings} {x y : Place} {h : Tree} {e : Fault} → IsHeritage v x h y → Barred so_far v (Fixed (pun "{")) y e → NoClass v x e
class_no_brace i b = class_none i (bar (no_brace_in b))

pub class_no_members : {v : Surroundings} {x y y' : Place} {h : Tree} {b : Bool} {o : Fault} → IsHeritage v x h y → b ≡ is_here h → Only so_far v (Fixed (pun "{")) y nothing y' → NoRow so_far (in_members b v) members_row y' o → NoClass v x o
class_no_members {v} {y = y} {o = o} i e brace n = class_none i (subst (λ a. NoRow so_far (in_members a v) inner_row y o) e (on (brace_in brace) n))

-- members that break the rules
pub class_misruled : {v : Surroundings} {x z : Place} {h : Tree} {ms : Forest} {e : Fault} → OnlyClass v x (part h (part (list ms) none)) z → members_rule ms ≡ false → NoClass v x e
class_misruled {h = h} {ms} o m = record { no = λ us w walk k s. clash _ k (ap (all_of (list_rule members_rule)) (sym (o.alone us w walk).0) ∙ ((λ i. list_rule members_rule h && (m i && true)) ∙ and_false (list_rule members_rule h))) }
  where
    and_false : (a : Bool) → (a && false) ≡ false
    and_false true = refl
    and_false false = refl

pub class_kept : (h : Tree) (ms : Forest) → list_rule members_rule h ≡ true → members_rule ms ≡ true → keep_members (part h (part (list ms) none))
class_kept h ms p m = and_both _ _ p (and_both _ _ m refl)

pub here_is : {b : Bool} (o : Option (Box Expression Global)) → b ≡ is_some o → b ≡ is_here (optional_of view_expr o)
here_is None e = e
here_is (Some a) e = e

-- ---- a name, or none

-- a class without a name begins with `extends` or the brace
unnamed_front : {v : Surroundings} {x w : Place} {us ts : Forest} → Walk (Whole so_far) (class_in v us) class_row x ts w → (IsTrue (is_found (forth (pun "{") x)) → ⊥) → (IsTrue (is_found (forth (key "extends") x)) → ⊥) → ⊥
unnamed_front {x = x} (next (absent f g) walk) n m =
    let here : IsTrue (is_found x) = found_first (Unless [] ∷ []) x (found_at f g) in
    n (subst (λ p. IsTrue (is_found (forth (pun "{") p))) (sym f ∙ unless_none x here) (braced walk))
unnamed_front (next (present d q f g) walk) n m = m (found_at d (start_found of_so_far q.reads))

-- no name stands before a mark, and none is `extends`
name_leaf : {v : Surroundings} {x y : Place} {t : Text} → Staged v false BindingIdent x (leaf IdentifierName t) y → IsTrue (is_found (forth (Tok Operator IdentifierName t) x))
name_leaf r = found_at r.reads.scans r.reads.found

no_name : {v : Surroundings} {x : Place} → ((t : Text) → is_bound t ≡ true → IsTrue (is_found (forth (Tok Operator IdentifierName t) x)) → ⊥) → {y : Place} (t : Tree) → Staged v false BindingIdent x t y → ⊥
no_name n (leaf IdentifierName t) r = n t (and_left (leaf_in BindingIdent IdentifierName t) (is_leaf IdentifierName t) r.reads.is) (name_leaf r)
no_name n (leaf _ t) r = let bad = r.staged in cc
no_name n (node k ts) r = bindings.node k ts (taken_by r) (home_of r)
no_name n (list ts) r = no_list r

at_brace : (x : Place) → IsTrue (is_found (forth (pun "{") x)) → (t : Text) → is_bound t ≡ true → IsTrue (is_found (forth (Tok Operator IdentifierName t) x)) → ⊥
at_brace x f t b g = word_braced t x g f

at_word : (x : Place) → IsTrue (is_found (forth (key "extends") x)) → (t : Text) → is_bound t ≡ true → IsTrue (is_found (forth (Tok Operator IdentifierName t) x)) → ⊥
at_word x f t b g =
    let e : codes "extends" ≡ t = same_is (codes "extends") t (one_token IdentifierName IdentifierName (codes "extends") t x f g) in
    clash _ (subst (λ u. is_bound u ≡ true) (sym e) b) refl

absent_name : {v : Surroundings} {x x' : Place} → x' ≡ x → ((t : Text) → is_bound t ≡ true → IsTrue (is_found (forth (Tok Operator IdentifierName t) x)) → ⊥) → IsTrue (is_found x) → IsClassName v x (list none) x'
absent_name {v} {x} {x'} e n here = subst (λ p. IsClassName v x (list none) p) (sym e) (record { to = forward; from = back })
  where
    forward : (ts : Forest) (w : Place) → Walk (Whole so_far) (class_in v ts) class_row x ts w → Walk (Whole so_far) (named_class_in v (part (list none) ts)) named_class_row x (part (list none) ts) w
    forward ts w walk = next (absent (unless_none x here) here) walk

    back : (us : Forest) (w : Place) → Walk (Whole so_far) (named_class_in v us) named_class_row x us w → ClassRest v (list none) x us w
    back us w (next {ts = ts} (absent f g) walk) = record { parts = ts; is = refl; walk = subst (λ p. Walk (Whole so_far) (class_in v ts) class_row p ts w) (sym f ∙ unless_none x here) walk }
    back us w (next (present {z = z} {t = t} d q f g) walk) = absurd (no_name {v = record v { strict = true }} n t (subst (λ p. Staged (record v { strict = true }) false BindingIdent p t z) (sym d) q.reads))

pub unnamed : {v : Surroundings} {x x' : Place} → x' ≡ x → is_found (forth (pun "{") x) ≡ true → IsClassName v x (list none) x'
unnamed {x = x} e f = absent_name e (at_brace x f) (found_first (pun "{" ∷ []) x f)

pub extending : {v : Surroundings} {x x' : Place} → x' ≡ x → is_found (forth (key "extends") x) ≡ true → IsClassName v x (list none) x'
extending {x = x} e f = absent_name e (at_word x f) (found_first (key "extends" ∷ []) x f)

not_found : (x : Place) → is_found x ≡ false → IsTrue (is_found x) → ⊥
not_found x e f = clash _ f e

pub named : {v : Surroundings} {x x' y : Place} {t : Tree} → x' ≡ x → is_found (forth (pun "{") x) ≡ false → is_found (forth (key "extends") x) ≡ false → Only so_far (enter none InClassCode v) (Part BindingIdent) x' (one t) y → IsClassName v x (list (part t none)) y
named {v} {x} {x'} {y} {t} e n m given = record { to = forward; from = back }
  where
    o : Only so_far (enter none InClassCode v) (Part BindingIdent) x (one t) y
    o = subst (λ p. Only so_far (enter none InClassCode v) (Part BindingIdent) p (one t) y) e given

    whole : Whole so_far (enter none InClassCode v) false BindingIdent x t y
    whole = whole_of o.past

    forward : (ts : Forest) (w : Place) → Walk (Whole so_far) (class_in v ts) class_row y ts w → Walk (Whole so_far) (named_class_in v (part (list (part t none)) ts)) named_class_row x (part (list (part t none)) ts) w
    forward ts w walk = next (present refl whole refl (end_found of_so_far whole.reads)) (renamed (list none) (list (part t none)) ts refl walk)

    back : (us : Forest) (w : Place) → Walk (Whole so_far) (named_class_in v us) named_class_row x us w → ClassRest v (list (part t none)) y us w
    back us w (next {ts = ts} (absent f g) walk) =
        let here : IsTrue (is_found x) = found_first (Unless [] ∷ []) x (found_at f g) in
        absurd (unnamed_front {us = ts} (subst (λ p. Walk (Whole so_far) (class_in v ts) class_row p ts w) (sym f ∙ unless_none x here) walk) (not_found (forth (pun "{") x) n) (not_found (forth (key "extends") x) m))
    back us w (next {ts = ts} (present {y = a} {z = z} {t = u} d q f g) walk) =
        let read : Whole so_far (enter none InClassCode v) false BindingIdent x u z = subst (λ p. Whole so_far (enter none InClassCode v) false BindingIdent p u z) (sym d) q in
        let r = o.alone (one u) z (tree read) in
        record {
          parts = ts;
          is = ap (λ g. part (list (part (item_of g) none)) ts) r.0;
          walk = subst (λ p. Walk (Whole so_far) (class_in v ts) class_row p ts w) (sym (r.1 ∙ f)) (renamed (list (part u none)) (list none) ts refl walk);
        }

pub not_named : {v : Surroundings} {x x' : Place} {o : Fault} → x' ≡ x → is_found (forth (pun "{") x) ≡ false → is_found (forth (key "extends") x) ≡ false → Barred so_far (enter none InClassCode v) (Part BindingIdent) x' o → NoNamedClass v x o
not_named {v} {x} {o = o} e n m b = record { no = λ us w walk k h. at walk h }
  where
    here : Barred so_far (enter none InClassCode v) (Part BindingIdent) x o
    here = subst (λ w. Barred so_far (enter none InClassCode v) (Part BindingIdent) w o) e b

    at : {us : Forest} {w : Place} → Walk (Whole so_far) (named_class_in v us) named_class_row x us w → Shallow o (deepest us) → ⊥
    at {w = w} (next {ts = ts} (absent f g) walk) s =
        let there : IsTrue (is_found x) = found_first (Unless [] ∷ []) x (found_at f g) in
        unnamed_front {us = ts} (subst (λ p. Walk (Whole so_far) (class_in v ts) class_row p ts w) (sym f ∙ unless_none x there) walk) (not_found (forth (pun "{") x) n) (not_found (forth (key "extends") x) m)
    at (next {ts = us'} (present {y = a} {z = z} {t = u} d q f g) walk) s = here.no (one u) z (tree (subst (λ p. Whole so_far (enter none InClassCode v) false BindingIdent p u z) (sym d) q)) (shallow_head o u none (shallow_first o (one (list (part u none))) us' s))

-- ---- with what stands behind it

pub named_only : {v : Surroundings} {x y z : Place} {t : Tree} {ts : Forest} → IsClassName v x t y → OnlyClass v y ts z → OnlyNamedClass v x (part t ts) z
named_only {v} {x} {z = z} {t} {ts} n o = record { walk = n.to ts z o.walk; alone = at }
  where
    at : (us : Forest) (w : Place) → Walk (Whole so_far) (named_class_in v us) named_class_row x us w → (part t ts ≡ us) × (z ≡ w)
    at us w walk = let r = n.from us w walk in let s = o.alone r.parts w r.walk in (ap (part t) s.0 ∙ r.is, s.1)

-- a name is no member
name_rule : (n : Option Ident) → list_rule members_rule (optional_name n) ≡ true
name_rule None = refl
name_rule (Some a) = refl

pub named_kept : (n : Option Ident) (ts : Forest) → keep_members ts → keep_members (part (optional_name n) ts)
named_kept n ts k = and_both _ _ (name_rule n) k

pub named_none : {v : Surroundings} {x y : Place} {e : Fault} (n : Option Ident) → IsClassName v x (optional_name n) y → NoClass v y e → NoNamedClass v x e
named_none {e = e} n i c = record { no = λ us w walk k s. let r = i.from us w walk in c.no r.parts w r.walk (ap (λ b. b && all_of (list_rule members_rule) r.parts) (sym (name_rule n)) ∙ (ap (all_of (list_rule members_rule)) r.is ∙ k)) (shallow_behind e (optional_name n) r.parts us r.is s) }

-- ---- a class behind its word

pub class_parts_only : {v : Surroundings} {x y : Place} {t : Tree} {ts : Forest} → OnlyNamedClass v x ts y → keep_members ts → t ≡ node (function ClassExpr) ts → OnlyParts v (function ClassExpr) t x y
class_parts_only {ts = ts} o k e = record { parts = ts; is = e; walk = o.walk; keeps = and_both _ _ k refl; alone = λ us z w h. o.alone us z w }

pub no_class_parts : {v : Surroundings} {x : Place} {e : Fault} → NoNamedClass v x e → NoParts v (function ClassExpr) x e
no_class_parts {v} n = record { no = λ us z w h s. n.no us z w (and_left (rule (function ClassExpr) us) (stands (function ClassExpr) us v) h) s }

-- ---- places

pub heritage_absent_placed : {x y : Here} → y ≡ x → IsPlacedFront heritage (told_list []) (list none) x y
heritage_absent_placed {x} e = subst (λ h. IsPlacedFront heritage (told_list []) (list none) x h) (sym e) (record { on = λ ps ds ts z r. row_absent r })

pub heritage_placed : {d : Told} {t : Tree} {x y z : Here} → Takes (key "extends") x y → IsPlaced d t y z → IsPlacedFront heritage (told_list (d ∷ [])) (list (part t none)) x z
heritage_placed k l = record { on = λ ps ds ts z r. row_present k.same k.leads l r }

pub name_absent_placed : {x y : Here} → y ≡ x → IsPlacedFront class_name (told_name None) (list none) x y
name_absent_placed {x} e = subst (λ h. IsPlacedFront class_name (told_name None) (list none) x h) (sym e) (record { on = λ ps ds ts z r. row_absent r })

pub name_placed : {d : Told} {t : Tree} {x x' y : Here} → x' ≡ x → IsPlaced d t x' y → IsPlacedFront class_name (told_list (d ∷ [])) (list (part t none)) x y
name_placed {d} {t} {x} {x'} {y} e l = record { on = λ ps ds ts z r. row_present refl refl (subst (λ h. IsPlaced d t h y) e l) r }

pub class_placed : {d : Told} {h : Tree} {ds : Tales} {ts : Forest} {x y y' z : Here} → IsPlacedFront heritage d h x y → Takes (pun "{") y y' → IsPlacedRow members_symbols ds ts y' z → IsPlacedRow class_symbols (tale d ds) (part h ts) x z
class_placed h brace r = h.on _ _ _ _ (row_quiet (λ q. refl) (row_sign brace r))
