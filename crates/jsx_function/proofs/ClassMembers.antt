-- The members of a class, up to its `}`: each with `static` before it or not (ECMA-262 section 15.7).
use Rattle.std.proofs.Common.{◌≡◌, Bool, true, false, List, [], ◌∷◌, refl, sym, ◌∙◌, ap, subst}
use Rattle.std.specs.Prelude.{IsTrue, codes, ◌||◌}
use Rattle.jsx_base.specs.Token.{Operator, Punctuator, IdentifierName, same}
use Rattle.jsx_tree.specs.Kinds.{Field, Getter, InClass, InObject, Kind, Method, Setter, Static, function, Tree, leaf, node, list, Forest, none, part}
use Rattle.jsx_tree.specs.Nonterminals.{ClassMember, Key}
use Rattle.jsx_tree.specs.Grammar.{Fixed, Lines, Part, pun}
use Rattle.jsx_tree.specs.Grammar as symbol
use Rattle.jsx_tree.specs.Form.{admits}
use Rattle.jsx_tree.specs.Reading.{Place, Lost, forth}
use Rattle.jsx_tree.specs.StaticRules.{Surroundings}
use Rattle.jsx_tree.specs.Walk.{is_found, Given, one, Piece, piece, Items, nil, last, more, Past, many, sign, tree, Walk, next, around, steady}
use Rattle.jsx_tree.specs.Language.{Whole}
use Rattle.jsx_tree.specs.Answers.{Moves, Stuck, Missed, Only, Barred, OnlyRow, NoRow}
use Rattle.jsx_tree.specs.Faults.{Fault, Shallow, part_depth, deepest, given_depth, inner, Below, Unread}
use Rattle.jsx_tree.proofs.Apart.{never_both}
use Rattle.jsx_tree.proofs.Rows.Bridge.{found_first, found_at}
use Rattle.jsx_tree.proofs.Rows.Firsts.{kind_home}
use Rattle.jsx_tree.proofs.Rows.Guarded.{guarded, loosen, whole_walk}
use Rattle.jsx_tree.proofs.Rows.Lists.{closed}
use Rattle.jsx_tree.proofs.Rows.Steps.{bar, both, no_sign}
use Rattle.jsx_tree.proofs.Rows.Stopping.{never_stops, or_cases}
use Rattle.jsx_tree.proofs.Rows.Turns.{Turn, prepend, prepend_cons, turn_as, turn_both, turn_none, turn_only}
use Rattle.jsx_tree.proofs.Depth.Nodes.{counts_as}
use Rattle.jsx_tree.proofs.Depth.Shallow.{shallow_first, shallow_rest, shallow_head, shallow_outer}
use Rattle.jsx_tree.proofs.Rows.Placing.{node_shallow}
use Rattle.jsx_token.specs.Marks.{row_so_far}
use Rattle.jsx_token.specs.declared.lexer.Leaf.TheVariants as leaf'
use Rattle.jsx_operand.specs.SoFar.{Staged, so_far}
use Rattle.jsx_operand.proofs.Homes.{IsName, taken_by, home_of, no_list}
use Rattle.jsx_operand.proofs.Keys.{key_unmarked, mark_none}
use Rattle.jsx_operand.proofs.OfSoFar.{of_so_far}
use Rattle.jsx_operand.proofs.Standing.{standing}
use Rattle.jsx_operand.proofs.Values.{settled_token}
use Rattle.jsx_token.specs.Growths.{settled}
use Rattle.jsx_function.specs.Classes.{members_row}
use Rattle.jsx_function.specs.Methods.{IsPrefix, NoElement, NoKey, NoPrefix, OnlyElement, element_row, is_element, keyed_in_class, from_key}
use Rattle.jsx_function.proofs.ClassElements.{Front, by_key, by_word, deep_element, front_of, no_keyed_word}
use Rattle.jsx_function.proofs.Keyed.{past}
use Rattle.jsx_function.proofs.Lines.{turn_line, turn_none_left}
use Rattle.jsx_function.proofs.Prefixes.{no_key_there, word_key}
use Rattle.jsx_function.proofs.Worded.{accessor_sign, accessor_word, worded_led}

-- ---- what stands there

abbrev is_member : Kind → Bool
is_member k = is_element InClass k || is_element Static k

-- of what the class makes, or of the class itself
data AtClass (k : Kind) : Type 0 where
  own : is_element InClass k ≡ true → AtClass k
  static' : is_element Static k ≡ true → AtClass k

at_class : {v : Surroundings} {x y : Place} (k : Kind) (ts : Forest) → Staged v false ClassMember x (node k ts) y → AtClass k
at_class k ts r = or_cases (is_element InClass k) (is_element Static k) (standing ClassMember is_member refl k (taken_by r) (kind_home ClassMember k ts (home_of r))) (λ e. own e) (λ e. static' e)

member_guarded : (k : Kind) → is_member k ≡ true → guarded ClassMember (row_so_far k) ≡ true
member_guarded (function (Method InClass)) e = refl
member_guarded (function (Method Static)) e = refl
member_guarded (function (Method InObject)) e = cc
member_guarded (function (Getter InClass)) e = refl
member_guarded (function (Getter Static)) e = refl
member_guarded (function (Getter InObject)) e = cc
member_guarded (function (Setter InClass)) e = refl
member_guarded (function (Setter Static)) e = refl
member_guarded (function (Setter InObject)) e = cc
member_guarded (function (Field InClass)) e = refl
member_guarded (function (Field Static)) e = refl
member_guarded (function (Field InObject)) e = cc
member_guarded _ e = cc

member_home : (k : Kind) (ts : Forest) → is_member k ≡ true → admits ClassMember (node k ts) ≡ true
member_home (function (Method InClass)) ts e = refl
member_home (function (Method Static)) ts e = refl
member_home (function (Method InObject)) ts e = cc
member_home (function (Getter InClass)) ts e = refl
member_home (function (Getter Static)) ts e = refl
member_home (function (Getter InObject)) ts e = cc
member_home (function (Setter InClass)) ts e = refl
member_home (function (Setter Static)) ts e = refl
member_home (function (Setter InObject)) ts e = cc
member_home (function (Field InClass)) ts e = refl
member_home (function (Field Static)) ts e = refl
member_home (function (Field InObject)) ts e = cc
member_home _ ts e = cc

static_row : (k : Kind) → is_element Static k ≡ true → row_so_far k ≡ piece [] (Fixed (symbol.key "static")) ∷ element_row Static k
static_row (function (Method Static)) e = refl
static_row (function (Method InClass)) e = cc
static_row (function (Method InObject)) e = cc
static_row (function (Getter Static)) e = refl
static_row (function (Getter InClass)) e = cc
static_row (function (Getter InObject)) e = cc
static_row (function (Setter Static)) e = refl
static_row (function (Setter InClass)) e = cc
static_row (function (Setter InObject)) e = cc
static_row (function (Field Static)) e = refl
static_row (function (Field InClass)) e = cc
static_row (function (Field InObject)) e = cc
static_row _ e = cc

-- each counts
member_counts : (k : Kind) → is_member k ≡ true → counts_as true k ≡ true
member_counts (function (Method InClass)) e = refl
member_counts (function (Method Static)) e = refl
member_counts (function (Method InObject)) e = cc
member_counts (function (Getter InClass)) e = refl
member_counts (function (Getter Static)) e = refl
member_counts (function (Getter InObject)) e = cc
member_counts (function (Setter InClass)) e = refl
member_counts (function (Setter Static)) e = refl
member_counts (function (Setter InObject)) e = cc
member_counts (function (Field InClass)) e = refl
member_counts (function (Field Static)) e = refl
member_counts (function (Field InObject)) e = cc
member_counts _ e = cc

or_left : (a b : Bool) → a ≡ true → (a || b) ≡ true
or_left true b e = refl
or_left false b e = cc

or_right : (a b : Bool) → b ≡ true → (a || b) ≡ true
or_right true b e = refl
or_right false b e = e

member_kind : {k : Kind} → AtClass k → is_member k ≡ true
member_kind {k} (own e) = or_left (is_element InClass k) (is_element Static k) e
member_kind {k} (static' e) = or_right (is_element InClass k) (is_element Static k) e

member_parts : {v : Surroundings} {x z : Place} {ts : Forest} (e : Fault) (k : Kind) → is_member k ≡ true → Staged v false ClassMember x (node k ts) z → Shallow e (part_depth (node k ts)) → Shallow (inner e) (deepest ts)
member_parts {ts = ts} e k m r s = node_shallow (inner e) true (member_counts k m) of_so_far r (shallow_outer e (part_depth (node k ts)) s)

member_walk : {v : Surroundings} {x z : Place} {ts : Forest} (k : Kind) → is_member k ≡ true → Staged v false ClassMember x (node k ts) z → Walk (Whole so_far) (around v ts) (row_so_far k) x ts z
member_walk {z = z} k e r = whole_walk of_so_far ClassMember (row_so_far k) (member_guarded k e) (of_so_far.ends_there ClassMember z (never_stops ClassMember z refl)) (of_so_far.from_node k r).walk

static_walk : {v : Surroundings} {x z : Place} {ts : Forest} (k : Kind) → is_element Static k ≡ true → Staged v false ClassMember x (node k ts) z → Walk (Whole so_far) (around v ts) (piece [] (Fixed (symbol.key "static")) ∷ element_row Static k) x ts z
static_walk {v} {x} {z} {ts} k e r = subst (λ ps. Walk (Whole so_far) (around v ts) ps x ts z) (static_row k e) (member_walk k (member_kind (static' e)) r)

own_walk : {v : Surroundings} {x z : Place} {ts : Forest} (k : Kind) → is_element InClass k ≡ true → Staged v false ClassMember x (node k ts) z → Walk (Whole so_far) (around v ts) (element_row InClass k) x ts z
own_walk k e r = member_walk k (member_kind (own e)) r

-- along its row, with its rules, it is a member
member_staged : {v : Surroundings} {x z : Place} {ts : Forest} (k : Kind) → is_member k ≡ true → Walk (Whole so_far) (around v ts) (row_so_far k) x ts z → so_far.keeps k v ts ≡ true → Staged v false ClassMember x (node k ts) z
member_staged {ts = ts} k e w m = of_so_far.to_node k (member_home k ts e) (record { walk = loosen w; keeps = m })

whole_member : {v : Surroundings} {x z : Place} {t : Tree} → Staged v false ClassMember x t z → Whole so_far v false ClassMember x t z
whole_member {z = z} r = record { reads = r; ends_there = of_so_far.ends_there ClassMember z (never_stops ClassMember z refl) }

barred_by : {v : Surroundings} {x : Place} {e : Fault} → ((k : Kind) (ts : Forest) (z : Place) → AtClass k → Staged v false ClassMember x (node k ts) z → Shallow e (part_depth (node k ts)) → ⊥) → Barred so_far v (Part ClassMember) x e
barred_by {v} {x} {e = e} f = record { no = at }
  where
    here : (u : Tree) (z : Place) → Staged v false ClassMember x u z → Shallow e (part_depth u) → ⊥
    here (leaf k t) z r h = let bad = r.staged in cc
    here (node k ts) z r h = f k ts z (at_class k ts r) r h
    here (list ts) z r h = no_list r

    at : (g : Given) (z : Place) → Past (Whole so_far) v (Part ClassMember) x g z → Shallow e (given_depth g) → ⊥
    at g z (tree {t = u} w) s = here u z w.reads s

only_by : {v : Surroundings} {x y : Place} {t : Tree} → Staged v false ClassMember x t y → ((k : Kind) (ts : Forest) (z : Place) → AtClass k → Staged v false ClassMember x (node k ts) z → (node k ts ≡ t) × (z ≡ y)) → Only so_far v (Part ClassMember) x (one t) y
only_by {v} {x} {y} {t} s f = record { past = tree (whole_member s); alone = at }
  where
    here : (u : Tree) (z : Place) → Staged v false ClassMember x u z → (t ≡ u) × (y ≡ z)
    here (leaf k r) z q = let bad = q.staged in cc
    here (node k ts) z q = let e = f k ts z (at_class k ts q) q in (sym e.0, sym e.1)
    here (list ts) z q = absurd (no_list q)

    at : (g : Given) (z : Place) → Past (Whole so_far) v (Part ClassMember) x g z → (one t ≡ g) × (y ≡ z)
    at g z (tree {t = u} w) = let e = here u z w.reads in (ap one e.0, e.1)

-- ---- behind `static`

record Behind (v : Surroundings) (k : Kind) (y : Place) (ts : Forest) (z : Place) : Type 0 where
  walk : Walk (Whole so_far) (around v ts) (element_row Static k) y ts z

past_static : {v : Surroundings} {k : Kind} {x y z : Place} {ts : Forest} → Moves (symbol.key "static") x y → Walk (Whole so_far) (around v ts) (piece [] (Fixed (symbol.key "static")) ∷ element_row Static k) x ts z → Behind v k y ts z
past_static {v} {k} {z = z} {ts} m (next (sign e f) w) = record { walk = subst (λ q. Walk (Whole so_far) (around v ts) (element_row Static k) q ts z) (sym (m.is ∙ e)) w }

-- a member without it, whose row begins with its key or with another word
data OwnForm (k : Kind) : Type 0 where
  keyed : keyed_in_class InClass k ≡ true → element_row InClass k ≡ from_key k → OwnForm k
  worded : (b : Bool) → element_row InClass k ≡ piece [] (Fixed (accessor_sign b)) ∷ from_key k → OwnForm k

own_form : (k : Kind) → is_element InClass k ≡ true → OwnForm k
own_form (function (Method InClass)) e = keyed refl refl
own_form (function (Method Static)) e = cc
own_form (function (Method InObject)) e = cc
own_form (function (Field InClass)) e = keyed refl refl
own_form (function (Field Static)) e = cc
own_form (function (Field InObject)) e = cc
own_form (function (Getter InClass)) e = worded true refl
own_form (function (Getter Static)) e = cc
own_form (function (Getter InObject)) e = cc
own_form (function (Setter InClass)) e = worded false refl
own_form (function (Setter Static)) e = cc
own_form (function (Setter InObject)) e = cc
own_form _ e = cc

word_apart : (b : Bool) (x : Place) → IsTrue (is_found (forth (symbol.key "static") x)) → IsTrue (is_found (forth (accessor_sign b) x)) → ⊥
word_apart true x f g = never_both IdentifierName IdentifierName (codes "static") (codes "get") x refl f g
word_apart false x f g = never_both IdentifierName IdentifierName (codes "static") (codes "set") x refl f g

-- before a key it is neither a key nor another word
no_own : {v : Surroundings} {x y z : Place} {ts : Forest} (k : Kind) → is_element InClass k ≡ true → IsPrefix (symbol.key "static") x y → Walk (Whole so_far) (around v ts) (element_row InClass k) x ts z → ⊥
no_own {v} {x} {y} {z} {ts} k e i w = at (own_form k e)
  where
    literal : Only so_far v (Part Key) x (one (leaf IdentifierName (codes "static"))) y
    literal = word_key (codes "static") refl i.word

    at : OwnForm k → ⊥
    at (keyed f r) = let p = past {k = k} literal (subst (λ ps. Walk (Whole so_far) (around v ts) ps x ts z) r w) in no_keyed_word (codes "static") InClass k f refl i.word i.before p.walk
    at (worded b r) = word_apart b x (found_at (sym i.word.is) i.word.found) (worded_led (subst (λ ps. Walk (Whole so_far) (around v ts) ps x ts z) r w))

pub static_member : {v : Surroundings} {x y z : Place} {t : Tree} → IsPrefix (symbol.key "static") x y → OnlyElement Static v t y z → Only so_far v (Part ClassMember) x (one t) z
static_member {v} {x} {y} {z} {t} i o = only_by staged at
  where
    row : Walk (Whole so_far) (around v o.parts) (row_so_far o.kind) x o.parts z
    row = subst (λ ps. Walk (Whole so_far) (around v o.parts) ps x o.parts z) (sym (static_row o.kind o.one)) (next (sign (sym i.word.is) i.word.found) o.walk)

    staged : Staged v false ClassMember x t z
    staged = subst (λ u. Staged v false ClassMember x u z) (sym o.is) (member_staged o.kind (member_kind (static' o.one)) row o.keeps)

    at : (k : Kind) (ts : Forest) (w : Place) → AtClass k → Staged v false ClassMember x (node k ts) w → (node k ts ≡ t) × (w ≡ z)
    at k ts w (own e) r = absurd (no_own k e i (own_walk k e r))
    at k ts w (static' e) r = o.alone k ts w e (past_static {k = k} i.word (static_walk k e r)).walk (of_so_far.from_node k r).keeps

pub no_static_member : {v : Surroundings} {x y : Place} {o : Fault} → IsPrefix (symbol.key "static") x y → NoElement Static v y (inner o) → Barred so_far v (Part ClassMember) x o
no_static_member {v} {x} {o = o} i n = barred_by at
  where
    at : (k : Kind) (ts : Forest) (w : Place) → AtClass k → Staged v false ClassMember x (node k ts) w → Shallow o (part_depth (node k ts)) → ⊥
    at k ts w (own e) r s = no_own k e i (own_walk k e r)
    at k ts w (static' e) r s = n.no k ts w e (past_static {k = k} i.word (static_walk k e r)).walk (of_so_far.from_node k r).keeps (member_parts o k (member_kind (static' e)) r s)

-- where no level is left for the word in it
pub deep_static : {v : Surroundings} {x y : Place} {e : Fault} → IsPrefix (symbol.key "static") x y → Below 1 e → Barred so_far v (Part ClassMember) x e
deep_static {e = e} i b = no_static_member i (deep_element e Static b)

-- ---- without it

accessor_key : (b : Bool) {x : Place} → NoKey x → IsTrue (is_found (forth (accessor_sign b) x)) → ⊥
accessor_key b n f = let bad : IsTrue (is_found Lost) = subst (λ p. IsTrue (is_found p)) (n.leaves leaf'.Name (accessor_word b) refl) f in cc

no_front : {v : Surroundings} {x : Place} → NoKey x → Front v x → ⊥
no_front {v} n (by_key q) = (no_key_there {e = Unread} n).no _ _ (tree q) tt
no_front n (by_word b f) = accessor_key b n f

no_static : {v : Surroundings} {x z : Place} {ts : Forest} (k : Kind) → is_element Static k ≡ true → NoPrefix (symbol.key "static") x → Walk (Whole so_far) (around v ts) (piece [] (Fixed (symbol.key "static")) ∷ element_row Static k) x ts z → ⊥
no_static k e n (next (sign f g) w) = no_front (subst NoKey f (n.behind (found_at f g))) (front_of Static k e w)

pub own_member : {v : Surroundings} {x z : Place} {t : Tree} → NoPrefix (symbol.key "static") x → OnlyElement InClass v t x z → Only so_far v (Part ClassMember) x (one t) z
own_member {v} {x} {z} {t} n o = only_by staged at
  where
    staged : Staged v false ClassMember x t z
    staged = subst (λ u. Staged v false ClassMember x u z) (sym o.is) (member_staged o.kind (member_kind (own o.one)) o.walk o.keeps)

    at : (k : Kind) (ts : Forest) (w : Place) → AtClass k → Staged v false ClassMember x (node k ts) w → (node k ts ≡ t) × (w ≡ z)
    at k ts w (own e) r = o.alone k ts w e (own_walk k e r) (of_so_far.from_node k r).keeps
    at k ts w (static' e) r = absurd (no_static k e n (static_walk k e r))

pub no_own_member : {v : Surroundings} {x : Place} {d : Fault} → NoPrefix (symbol.key "static") x → NoElement InClass v x (inner d) → Barred so_far v (Part ClassMember) x d
no_own_member {v} {x} {d = d} n o = barred_by at
  where
    at : (k : Kind) (ts : Forest) (w : Place) → AtClass k → Staged v false ClassMember x (node k ts) w → Shallow d (part_depth (node k ts)) → ⊥
    at k ts w (own e) r s = o.no k ts w e (own_walk k e r) (of_so_far.from_node k r).keeps (member_parts d k (member_kind (own e)) r s)
    at k ts w (static' e) r s = no_static k e n (static_walk k e r)

-- ---- the list, and the brace behind it

abbrev closing : List Piece
closing = piece [] (Fixed (pun "}")) ∷ []

unbraced : {v : Surroundings} {x : Place} {e : Fault} → Stuck (pun "}") x → NoRow so_far v closing x e
unbraced n = bar (no_sign n)

-- no member begins with the brace
front_unbraced : {v : Surroundings} {x : Place} → IsTrue (is_found (forth (pun "}") x)) → Front v x → ⊥
front_unbraced f (by_key q) = key_unmarked (codes "}") refl q.reads f
front_unbraced {x = x} f (by_word b g) = mark_none IsName (accessor_word b) (codes "}") x refl g f

no_member : {v : Surroundings} {x : Place} {o : Fault} → IsTrue (is_found (forth (pun "}") x)) → Barred so_far v (Part ClassMember) x o
no_member {v} {x} {o = o} f = barred_by at
  where
    worded : (k : Kind) {us ts : Forest} {w : Place} → Walk (Whole so_far) (around v us) (piece [] (Fixed (symbol.key "static")) ∷ element_row Static k) x ts w → ⊥
    worded k (next (sign e g) w) = mark_none IsName (codes "static") (codes "}") x refl (found_at e g) f

    at : (k : Kind) (ts : Forest) (w : Place) → AtClass k → Staged v false ClassMember x (node k ts) w → Shallow o (part_depth (node k ts)) → ⊥
    at k ts w (own e) r s = front_unbraced f (front_of InClass k e (own_walk k e r))
    at k ts w (static' e) r s = worded k (static_walk k e r)

-- ---- the steps of the loop

pub member_more : {v : Surroundings} {x y y' z : Place} {t : Tree} (ts us : Forest) → Turn so_far v members_row members_row x y (prepend ts) → Missed (pun "}") y y' → Only so_far v (Part ClassMember) y' (one t) z → us ≡ both ts (part t none) → Turn so_far v members_row members_row x z (prepend us)
member_more {v} {z = z} {t = t} ts us so n o e =
    turn_as (λ vs. prepend_cons ts t vs ∙ (λ i. prepend (sym e i) vs)) (turn_both so (turn_line of_so_far refl (subst (λ p. Only so_far v (Part ClassMember) p (one t) z) (sym n.same) o) (unbraced n.stuck)))

none_left : {v : Surroundings} {x : Place} {o : Fault} → Barred so_far v (Part ClassMember) x o → Stuck (pun "}") x → NoRow so_far v members_row x o
none_left {v} {x} {o = o} b n = record { no = back }
  where
    inner : (ts : Forest) (y : Place) → Items (Whole so_far) v Lines ClassMember x ts y → (us : Forest) (w : Place) → Walk (Whole so_far) (steady v) closing y us w → Shallow o (deepest ts) → Shallow o (deepest us) → ⊥
    inner ts y (nil f) us w walk h q' = (unbraced n).no us w walk q'
    inner ts y (last {t = t'} r e f) us w walk h q' = b.no _ _ (tree r) (shallow_head o t' none h)
    inner ts y (more {t = t'} {u = u'} {us = vs'} m r e all) us w walk h q' = b.no _ _ (tree r) (shallow_head o t' (part u' vs') h)

    back : (us : Forest) (w : Place) → Walk (Whole so_far) (steady v) members_row x us w → Shallow o (deepest us) → ⊥
    back us w (next {ts = vs} (many {ts = ts} e all) walk) s = inner ts _ all vs w walk (shallow_first o (one (list ts)) vs s) (shallow_rest o (one (list ts)) vs s)

pub member_barred : {v : Surroundings} {x y y' : Place} {e : Fault} (ts : Forest) → Turn so_far v members_row members_row x y (prepend ts) → Missed (pun "}") y y' → Barred so_far v (Part ClassMember) y' e → NoRow so_far v members_row x e
member_barred {v} {e = e} ts so n b = turn_none so (none_left (subst (λ w. Barred so_far v (Part ClassMember) w e) (sym n.same) b) n.stuck)

both_none : (ts : Forest) → both ts none ≡ ts
both_none none = refl
both_none (part t ts) = ap (part t) (both_none ts)

pub members_ended : {v : Surroundings} {x y z : Place} (ts : Forest) → Turn so_far v members_row members_row x y (prepend ts) → Moves (pun "}") y z → OnlyRow so_far v members_row x (part (list ts) none) z
members_ended {v} {x} {y} {z} ts so m =
    let there = found_at (sym m.is) m.found in
    subst (λ us. OnlyRow so_far v members_row x (part (list us) none) z) (both_none ts) (turn_only so (turn_only (turn_none_left (found_first (pun "}" ∷ []) y there) (no_member there)) (closed m)))

pub brace_ended : {y z : Place} → Moves (pun "}") y z → settled z ≡ true
brace_ended {y} m = settled_token Operator Punctuator (codes "}") y refl (sym m.is) m.found
