-- Imports: names of a module, what an import binds up to its `from`, and an import behind its word.
use Rattle.std.proofs.Common.{◌≡◌, arith, Bool, true, false, List, refl, sym, ◌∙◌, ap, subst}
use Rattle.std.specs.Prelude.{IsTrue, codes}
use Rattle.jsx_base.specs.Token.{Text, Operator, Punctuator, IdentifierName, StringLiteral}
use Rattle.jsx_tree.specs.Signs.{AfterWord, Ends, Tok}
use Rattle.jsx_tree.specs.Kinds.{ImportBare, Import, ImportAll, ImportList, ImportBoth, Kind, program, Tree, leaf, node, list, Forest, none, part}
use Rattle.jsx_tree.specs.Nonterminals.{BindingIdent, ImportBindings, ImportClause, StringOnly, is_bound}
use Rattle.jsx_tree.specs.Grammar.{Part, key, pun, semi}
use Rattle.jsx_tree.specs.Form.{is_leaf}
use Rattle.jsx_tree.specs.Reading.{Place, Lost, forth}
use Rattle.jsx_tree.specs.StaticRules.{Surroundings}
use Rattle.jsx_tree.specs.Walk.{Given, Past, Piece, Walk, around, done, is_found, next, nothing, one, sign, steady, tail, tree}
use Rattle.jsx_tree.specs.Language.{Whole}
use Rattle.jsx_tree.specs.Answers.{Moves, Stuck, Only, Barred, OnlyRow, NoRow, NoNode, Built}
use Rattle.jsx_tree.specs.Faults.{Below, Fault, Shallow, deepest, given_depth, part_depth}
use Rattle.jsx_tree.proofs.Tokens.{and_both, and_left, one_text}
use Rattle.jsx_tree.proofs.Apart.{clash, never_both}
use Rattle.jsx_tree.proofs.Rows.Bodies.{plain as plain_row}
use Rattle.jsx_tree.proofs.Rows.Bridge.{found_at}
use Rattle.jsx_tree.proofs.Rows.Firsts.{kind_home}
use Rattle.jsx_tree.proofs.Rows.Guarded.{loosen, to_grammar}
use Rattle.jsx_tree.proofs.Rows.Laws.{end_found}
use Rattle.jsx_tree.proofs.Rows.Placing.{Chosen, barred_node, flat_shallow, free_around, moved, no_node, only_node}
use Rattle.jsx_tree.proofs.Rows.Steps.{bar, end, on, only_sign, then'}
use Rattle.jsx_tree.proofs.Rows.Stopping.{never_stops}
use Rattle.jsx_tree.proofs.Rows.Turns.{item_of, turn_as, turn_none, turn_only, turn_symbol, whole_of}
use Rattle.jsx_tree.proofs.Depth.Shallow.{below_shallow, shallow_first, shallow_head, shallow_tail}
use Rattle.jsx_token.specs.Marks.{ends_so_far, row_so_far}
use Rattle.jsx_operand.specs.SoFar.{Staged, so_far}
use Rattle.jsx_operand.proofs.OfSoFar.{of_so_far}
use Rattle.jsx_operand.proofs.Climbing.{signed_built, signed_none}
use Rattle.jsx_operand.proofs.Homes.{IsName, IsString, bindings, deep_leaf, home_of, no_leaf, no_list, only_leaf, staged_leaf, strings, taken_by}
use Rattle.jsx_operand.proofs.Keys.{mark_none}
use Rattle.jsx_operand.proofs.Standing.{standing}
use Rattle.jsx_operand.proofs.Values.{led_sign, leaf_forth, node_to}
use Rattle.jsx_declaration.specs.Heads.{Front, Rest}
use Rattle.jsx_declaration.proofs.Heads.{as_front, as_turn}
use Rattle.jsx_declaration.proofs.Statements.{lost_there}
use Rattle.jsx_syntax.specs.Items.{NoneBehind, OnlyBehind, begins_with, behind_word, from_row, source_row}
use Rattle.jsx_syntax.proofs.Items.{AtClause, all, at_clause, barred, bound, bound_there, clause_starts, itself, only_of, Other, some, stuck_there, there, two, unquoted_start}

-- ---- the module that is named

ends_found : {v : Surroundings} {x y : Place} {g : Given} → Past (Whole so_far) v semi x g y → IsTrue (is_found y)
ends_found (sign e f) = f

pub source_read : {v : Surroundings} {x y z w : Place} {t : Tree} → Only so_far v (Part StringOnly) x (one t) y → Moves (Ends AfterWord) y z → Only so_far v semi z nothing w → OnlyRow so_far v source_row x (part t none) w
source_read s e o = then' s (then' (only_sign e) (then' o (end (ends_found o.past))))

pub source_unread : {v : Surroundings} {x y z : Place} {t : Tree} {o : Fault} → Only so_far v (Part StringOnly) x (one t) y → Moves (Ends AfterWord) y z → Barred so_far v semi z o → NoRow so_far v source_row x o
source_unread s e b = on s (on (only_sign e) (bar b))

-- ---- names of a module

bindings_ends : (y : Place) → ends_so_far ImportBindings y ≡ true
bindings_ends y = of_so_far.ends_there ImportBindings y (never_stops ImportBindings y refl)

abbrev is_binding : Kind → Bool
is_binding (program ImportAll) = true
is_binding (program ImportList) = true
is_binding k = false

binding_kind : {v : Surroundings} {x y : Place} {ts : Forest} (k : Kind) → Staged v false ImportBindings x (node k ts) y → is_binding k ≡ true
binding_kind {ts = ts} k r = standing ImportBindings is_binding refl k (taken_by r) (kind_home ImportBindings k ts (home_of r))

-- one of the two, by the mark with which it begins
by_mark : {v : Surroundings} {x y : Place} {ts : Forest} (k : Kind) {A : Type 0} → is_binding k ≡ true → Staged v false ImportBindings x (node k ts) y → (IsTrue (is_found (forth (pun "*") x)) → k ≡ program ImportAll → A) → (IsTrue (is_found (forth (pun "{") x)) → k ≡ program ImportList → A) → A
by_mark (program ImportAll) h r f g = f (led_sign (row_so_far (program ImportAll)) refl (of_so_far.from_node (program ImportAll) r).walk) refl
by_mark (program ImportList) h r f g = g (led_sign (row_so_far (program ImportList)) refl (of_so_far.from_node (program ImportList) r).walk) refl
by_mark (program _) h r f g = cc
by_mark _ h r f g = cc

star_brace : (x : Place) → IsTrue (is_found (forth (pun "*") x)) → IsTrue (is_found (forth (pun "{") x)) → ⊥
star_brace x f g = never_both Punctuator Punctuator (codes "*") (codes "{") x refl f g

all_chosen : {v : Surroundings} {x a : Place} → Moves (pun "*") x a → Chosen so_far v ImportBindings (program ImportAll) x
all_chosen {x = x} m = record { no_leaf = λ k t y w. let bad = w.reads.staged in cc; kind = λ k ts y w. by_mark k (binding_kind k w.reads) w.reads (λ f e. e) (λ f e. absurd (star_brace x (there m) f)) }

list_chosen : {v : Surroundings} {x a : Place} → Moves (pun "{") x a → Chosen so_far v ImportBindings (program ImportList) x
list_chosen {x = x} m = record { no_leaf = λ k t y w. let bad = w.reads.staged in cc; kind = λ k ts y w. by_mark k (binding_kind k w.reads) w.reads (λ f e. absurd (star_brace x f (there m))) (λ f e. e) }

pub all_read : {v : Surroundings} {x a y : Place} {t : Tree} → Moves (pun "*") x a → Built so_far v (tail (row_so_far (program ImportAll))) (program ImportAll) (λ ts. ts) t a y → Only so_far v (Part ImportBindings) x (one t) y
all_read {y = y} m b =
    let w = signed_built (row_so_far (program ImportAll)) refl m b in
    only_node of_so_far (all_chosen m) refl refl (λ ts. refl) w (and_both _ _ (plain_row (row_so_far (program ImportAll)) refl (to_grammar of_so_far w.row.walk)) refl) (bindings_ends y)

pub all_unread : {v : Surroundings} {x a : Place} {e : Fault} → Moves (pun "*") x a → NoRow so_far v (tail (row_so_far (program ImportAll))) a e → Barred so_far v (Part ImportBindings) x e
all_unread m n = barred_node false refl of_so_far (all_chosen m) refl refl (no_node (signed_none (row_so_far (program ImportAll)) refl m n))

pub list_read : {v : Surroundings} {x a y : Place} {t : Tree} → Moves (pun "{") x a → Built so_far v (tail (row_so_far (program ImportList))) (program ImportList) (λ ts. ts) t a y → Only so_far v (Part ImportBindings) x (one t) y
list_read {y = y} m b =
    let w = signed_built (row_so_far (program ImportList)) refl m b in
    only_node of_so_far (list_chosen m) refl refl (λ ts. refl) w (and_both _ _ (plain_row (row_so_far (program ImportList)) refl (to_grammar of_so_far w.row.walk)) refl) (bindings_ends y)

pub list_unread : {v : Surroundings} {x a : Place} {e : Fault} → Moves (pun "{") x a → NoRow so_far v (tail (row_so_far (program ImportList))) a e → Barred so_far v (Part ImportBindings) x e
list_unread m n = barred_node false refl of_so_far (list_chosen m) refl refl (no_node (signed_none (row_so_far (program ImportList)) refl m n))

-- neither mark stands there
pub none_read : {v : Surroundings} {x : Place} {o : Fault} → forth (pun "*") x ≡ Lost → forth (pun "{") x ≡ Lost → Barred so_far v (Part ImportBindings) x o
none_read {v} {x} {o = o} e f = record { no = at }
  where
    at : (g : Given) (y : Place) → Past (Whole so_far) v (Part ImportBindings) x g y → Shallow o (given_depth g) → ⊥
    at g y (tree {t = leaf k t} w) s = let bad = w.reads.staged in cc
    at g y (tree {t = list ts} w) s = no_list w.reads
    at g y (tree {t = node k ts} w) s = by_mark k (binding_kind k w.reads) w.reads (λ h e'. lost_there (pun "*") x e h) (λ h e'. lost_there (pun "{") x f h)

-- ---- what an import binds

abbrev pub clause_row : List Piece
clause_row = tail (row_so_far (program Import))

pub front_from : {v : Surroundings} {x y z : Place} {t : Tree} → x ≡ y → Front v clause_row from_row x t z → Front v clause_row from_row y t z
front_from {v} {z = z} {t} e o = subst (λ p. Front v clause_row from_row p t z) e o

pub front_to : {v : Surroundings} {x y z : Place} {t : Tree} → z ≡ y → Front v clause_row from_row x t y → Front v clause_row from_row x t z
front_to {v} {x} {t = t} e o = subst (λ p. Front v clause_row from_row x t p) (sym e) o

clause_ends : (y : Place) → ends_so_far ImportClause y ≡ true
clause_ends y = of_so_far.ends_there ImportClause y (never_stops ImportClause y refl)

whole_clause : {v : Surroundings} {x y : Place} {t : Tree} → Staged v false ImportClause x t y → Whole so_far v false ImportClause x t y
whole_clause {y = y} r = record { reads = r; ends_there = clause_ends y }

whole_names : {v : Surroundings} {x y : Place} {t : Tree} → Staged v false ImportBindings x t y → Whole so_far v false ImportBindings x t y
whole_names {y = y} r = record { reads = r; ends_there = bindings_ends y }

-- the names alone
as_clause : {v : Surroundings} {x y : Place} (t : Tree) → Staged v false ImportBindings x t y → Staged v false ImportClause x t y
as_clause (leaf k t) r = let bad = r.staged in cc
as_clause (list ts) r = absurd (no_list r)
as_clause {v} {x} {y} (node k ts) r = by_mark k (binding_kind k r) r
    (λ f e. subst (λ j. Staged v false ImportClause x (node j ts) y) (sym e) (node_to ImportClause refl (subst (λ j. Staged v false ImportBindings x (node j ts) y) e r)))
    (λ f e. subst (λ j. Staged v false ImportClause x (node j ts) y) (sym e) (node_to ImportClause refl (subst (λ j. Staged v false ImportBindings x (node j ts) y) e r)))

-- what begins with a name is that name, or goes on with a comma
data NameClause (v : Surroundings) (t : Text) (y : Place) : Tree → Place → Type 0 where
  alone' : is_bound t ≡ true → NameClause v t y (leaf IdentifierName t) y
  goes : {a z : Place} {n : Tree} → is_bound t ≡ true → forth (pun ",") y ≡ a → IsTrue (is_found a) → Staged v false ImportBindings a n z → NameClause v t y (node (program ImportBoth) (part (leaf IdentifierName t) (part n none))) z

record Two (v : Surroundings) (x : Place) (ts : Forest) (z : Place) : Type 0 where
  name : Text
  names : Tree
  comma : Place
  behind : Place
  is : ts ≡ part (leaf IdentifierName name) (part names none)
  bound' : is_bound name ≡ true
  first : forth (Tok Operator IdentifierName name) x ≡ comma
  here : IsTrue (is_found comma)
  sign' : forth (pun ",") comma ≡ behind
  found : IsTrue (is_found behind)
  second : Staged v false ImportBindings behind names z

bound_leaf : {v : Surroundings} {x y : Place} {u : Tree} (t : Text) → u ≡ leaf IdentifierName t → Staged v false BindingIdent x u y → is_bound t ≡ true
bound_leaf {v} {x} {y} t e r = and_left (is_bound t) (is_leaf IdentifierName t) (subst (λ u. Staged v false BindingIdent x u y) e r).reads.is

two_walk : {v : Surroundings} {x z : Place} {us ts : Forest} → Walk Staged (around v us) (row_so_far (program ImportBoth)) x ts z → Two v x ts z
two_walk (next {y = y} (tree {t = t} q) (next {y = a} (sign e f) (next (tree {t = u} s) (done g)))) =
    let n = bound_there t q in
    record { name = n.text; names = u; comma = y; behind = a; is = ap (λ w. part w (part u none)) n.is; bound' = bound_leaf n.text n.is q; first = n.moves; here = n.found; sign' = e; found = f; second = s }

two_of : {v : Surroundings} {x z : Place} {ts : Forest} → Staged v false ImportClause x (node (program ImportBoth) ts) z → Two v x ts z
two_of {ts = ts} r = two_walk {us = ts} (of_so_far.from_node (program ImportBoth) r).walk

name_clause : {v : Surroundings} {x y z : Place} {u : Tree} (t : Text) → y ≡ forth (Tok Operator IdentifierName t) x → IsTrue (is_found y) → Staged v false ImportClause x u z → NameClause v t y u z
name_clause {v} {x} {y} {z} {u} t e f r = at (at_clause u r) r
  where
    name_here : IsTrue (is_found (forth (Tok Operator IdentifierName t) x))
    name_here = found_at (sym e) f

    same_name : (s : Text) {p : Place} → forth (Tok Operator IdentifierName s) x ≡ p → IsTrue (is_found p) → t ≡ s
    same_name s g h = one_text Operator IdentifierName t s x name_here (found_at g h)

    same_place : (s : Text) {p : Place} → forth (Tok Operator IdentifierName s) x ≡ p → IsTrue (is_found p) → y ≡ p
    same_place s g h = e ∙ (ap (λ n. forth (Tok Operator IdentifierName n) x) (same_name s g h) ∙ g)

    of_two : {ts : Forest} {p : Place} → Two v x ts p → NameClause v t y (node (program ImportBoth) ts) p
    of_two {p = p} w =
        let s = same_name w.name w.first w.here in
        subst (λ ts. NameClause v t y (node (program ImportBoth) ts) p) (sym w.is)
        (subst (λ n. NameClause v t y (node (program ImportBoth) (part (leaf IdentifierName n) (part w.names none))) p) s
        (goes (subst (λ n. is_bound n ≡ true) (sym s) w.bound') (ap (forth (pun ",")) (same_place w.name w.first w.here) ∙ w.sign') w.found w.second))

    at : {w : Tree} {p : Place} → AtClause w → Staged v false ImportClause x w p → NameClause v t y w p
    at {p = p} (bound {t = s}) q =
        let g = leaf_forth IsName q in
        let same' = same_name s g q.reads.found in
        subst (λ p. NameClause v t y (leaf IdentifierName s) p) (same_place s g q.reads.found)
        (subst (λ n. NameClause v t y (leaf IdentifierName n) y) same' (alone' (subst (λ n. is_bound n ≡ true) (sym same') (and_left (is_bound s) (is_leaf IdentifierName s) q.reads.is))))
    at all q = absurd (mark_none IsName t (codes "*") x refl name_here (led_sign (row_so_far (program ImportAll)) refl (of_so_far.from_node (program ImportAll) q).walk))
    at some q = absurd (mark_none IsName t (codes "{") x refl name_here (led_sign (row_so_far (program ImportList)) refl (of_so_far.from_node (program ImportList) q).walk))
    at two q = of_two (two_of q)

-- behind a name with a comma no `from` stands
from_comma : {v : Surroundings} {y a w : Place} {us : Forest} → Moves (pun ",") y a → Walk (Whole so_far) (steady v) from_row y us w → ⊥
from_comma {y = y} m (next (sign e f) walk) = mark_none IsName (codes "from") (codes ",") y refl (found_at e f) (there m)

-- where no name stands, names of a module are all that is bound
nameless : {v : Surroundings} {x y : Place} {u : Tree} {A : Type 0} → ((n : Text) → forth (Tok Operator IdentifierName n) x ≡ Lost) → AtClause u → Staged v false ImportClause x u y → (Staged v false ImportBindings x u y → A) → A
nameless {x = x} n (bound {t}) r f = absurd (lost_there (Tok Operator IdentifierName t) x (n t) (found_at (leaf_forth IsName r) r.reads.found))
nameless n all r f = f (node_to ImportBindings refl r)
nameless n some r f = f (node_to ImportBindings refl r)
nameless {x = x} n two r f = let w = two_of r in absurd (lost_there (Tok Operator IdentifierName w.name) x (n w.name) (found_at w.first w.here))

pub clause_names : {v : Surroundings} {x y : Place} {t : Tree} → ((n : Text) → forth (Tok Operator IdentifierName n) x ≡ Lost) → Only so_far v (Part ImportBindings) x (one t) y → Front v clause_row from_row x t y
clause_names {v} {x} {y} {t} n o = as_front (turn_as (λ ts. refl) (turn_symbol only'))
  where
    at : (g : Given) (z : Place) → Past (Whole so_far) v (Part ImportClause) x g z → (one t ≡ g) × (y ≡ z)
    at g z (tree {t = u} q) = nameless n (at_clause u q.reads) q.reads (λ r. o.alone (one u) z (tree (whole_names r)))

    only' : Only so_far v (Part ImportClause) x (one t) y
    only' = record { past = tree (whole_clause (as_clause t (whole_of o.past).reads)); alone = at }

pub no_names : {v : Surroundings} {x : Place} {e : Fault} → ((n : Text) → forth (Tok Operator IdentifierName n) x ≡ Lost) → Barred so_far v (Part ImportBindings) x e → NoRow so_far v clause_row x e
no_names {v} {x} {e = e} n b = record { no = at }
  where
    at : (us : Forest) (w : Place) → Walk (Whole so_far) (steady v) clause_row x us w → Shallow e (deepest us) → ⊥
    at us w (next {y = z} {ts = vs} (tree {t = u} q) walk) s = nameless n (at_clause u q.reads) q.reads (λ r. b.no (one u) z (tree (whole_names r)) (shallow_first e (one u) vs s))

-- a name alone
pub clause_name : {v : Surroundings} {x y : Place} (t : Text) → is_bound t ≡ true → is_leaf IdentifierName t ≡ true → y ≡ forth (Tok Operator IdentifierName t) x → IsTrue (is_found y) → Stuck (pun ",") y → Front v clause_row from_row x (leaf IdentifierName t) y
clause_name {v} {x} {y} t b l e f s = record { to = λ ts w walk. next (tree (whole_clause (staged_leaf refl b refl l e f))) walk; from = at }
  where
    by : {u : Tree} {z w : Place} {vs : Forest} → NameClause v t y u z → Walk (Whole so_far) (steady v) from_row z vs w → Rest v from_row y (leaf IdentifierName t) (part u vs) w
    by {vs = vs} (alone' h) walk = record { parts = vs; is = refl; walk = walk }
    by (goes h g i r) walk = absurd (stuck_there (pun ",") y s (found_at g i))

    at : (us : Forest) (w : Place) → Walk (Whole so_far) (steady v) clause_row x us w → Rest v from_row y (leaf IdentifierName t) us w
    at us w (next (tree q) walk) = by (name_clause t e f q.reads) walk

-- one that may not be bound
pub unbound : {v : Surroundings} {x y : Place} {o : Fault} (t : Text) → is_bound t ≡ false → y ≡ forth (Tok Operator IdentifierName t) x → IsTrue (is_found y) → NoRow so_far v clause_row x o
unbound {v} {x} {y} {o = o} t n e f = record { no = at }
  where
    by : {u : Tree} {z : Place} → NameClause v t y u z → ⊥
    by (alone' h) = clash _ h n
    by (goes h g i r) = clash _ h n

    at : (us : Forest) (w : Place) → Walk (Whole so_far) (steady v) clause_row x us w → Shallow o (deepest us) → ⊥
    at us w (next (tree q) walk) s = by (name_clause t e f q.reads)

-- one for which no level is left
pub clause_deep : {v : Surroundings} {x y : Place} {o : Fault} (t : Text) → y ≡ forth (Tok Operator IdentifierName t) x → IsTrue (is_found y) → Below 0 o → NoRow so_far v clause_row x o
clause_deep {v} {x} {y} {o = o} t e f b = record { no = at }
  where
    one_deep : Shallow o (part_depth (leaf IdentifierName t)) → ⊥
    one_deep s = let w = below_shallow 0 o 1 b s in omega (arith, w)

    by : {u : Tree} {z : Place} → NameClause v t y u z → Staged v false ImportClause x u z → Shallow o (part_depth u) → ⊥
    by (alone' h) r s = one_deep s
    by (goes {n = k} h g i q) r s = one_deep (shallow_head o (leaf IdentifierName t) (part k none) (flat_shallow o of_so_far r s))

    at : (us : Forest) (w : Place) → Walk (Whole so_far) (steady v) clause_row x us w → Shallow o (deepest us) → ⊥
    at us w (next {ts = vs} (tree {t = u} q) walk) s = by (name_clause t e f q.reads) q.reads (shallow_first o (one u) vs s)

-- a name, and names of the module
pub clause_both : {v : Surroundings} {x y a z : Place} {n u : Tree} (t : Text) → is_bound t ≡ true → is_leaf IdentifierName t ≡ true → y ≡ forth (Tok Operator IdentifierName t) x → IsTrue (is_found y) → Moves (pun ",") y a → Only so_far v (Part ImportBindings) a (one n) z → u ≡ node (program ImportBoth) (part (leaf IdentifierName t) (part n none)) → Front v clause_row from_row x u z
clause_both {v} {x} {y} {a} {z} {n} {u} t b l e f m o is = record { to = λ ts w walk. next (tree (whole_clause reads')) walk; from = at }
  where
    walk' : Walk (Whole so_far) (steady v) (row_so_far (program ImportBoth)) x (part (leaf IdentifierName t) (part n none)) z
    walk' = next (only_leaf bindings b refl l e f).past (next (sign (sym m.is) m.found) (next o.past (done (end_found of_so_far (whole_of o.past).reads))))

    reads' : Staged v false ImportClause x u z
    reads' = subst (λ w. Staged v false ImportClause x w z) (sym is) (of_so_far.to_node (program ImportBoth) refl (record { walk = loosen (moved (λ c h. sym (free_around c (part (leaf IdentifierName t) (part n none)) v h)) refl walk'); keeps = and_both _ _ (plain_row (row_so_far (program ImportBoth)) refl (to_grammar of_so_far walk')) refl }))

    by : {q : Tree} {p w : Place} {vs : Forest} → NameClause v t y q p → Walk (Whole so_far) (steady v) from_row p vs w → Rest v from_row z u (part q vs) w
    by (alone' h) walk = absurd (from_comma m walk)
    by {p = p} {w} {vs} (goes {n = k} h g i r) walk =
        let same' = o.alone (one k) p (tree (whole_names (subst (λ c. Staged v false ImportBindings c k p) (sym g ∙ sym m.is) r))) in
        record { parts = vs; is = ap (λ w. part w vs) (is ∙ (λ i. node (program ImportBoth) (part (leaf IdentifierName t) (part (item_of (same'.0 i)) none)))); walk = subst (λ c. Walk (Whole so_far) (steady v) from_row c vs w) (sym same'.1) walk }

    at : (us : Forest) (w : Place) → Walk (Whole so_far) (steady v) clause_row x us w → Rest v from_row z u us w
    at us w (next (tree q) walk) = by (name_clause t e f q.reads) walk

pub no_second : {v : Surroundings} {x y a : Place} {o : Fault} (t : Text) → y ≡ forth (Tok Operator IdentifierName t) x → IsTrue (is_found y) → Moves (pun ",") y a → Barred so_far v (Part ImportBindings) a o → NoRow so_far v clause_row x o
no_second {v} {x} {y} {a} {o = o} t e f m b = record { no = at }
  where
    by : {q : Tree} {p w : Place} {vs : Forest} → NameClause v t y q p → Staged v false ImportClause x q p → Walk (Whole so_far) (steady v) from_row p vs w → Shallow o (part_depth q) → ⊥
    by (alone' h) q walk a = from_comma m walk
    by {p = p} (goes {n = k} h g i r) q walk a =
        b.no (one k) p (tree (whole_names (subst (λ c. Staged v false ImportBindings c k p) (sym g ∙ sym m.is) r))) (shallow_head o k none (shallow_tail o (leaf IdentifierName t) (part k none) (flat_shallow o of_so_far q a)))

    at : (us : Forest) (w : Place) → Walk (Whole so_far) (steady v) clause_row x us w → Shallow o (deepest us) → ⊥
    at us w (next {ts = vs} (tree {t = u} q) walk) s = by (name_clause t e f q.reads) q.reads walk (shallow_first o (one u) vs s)

-- ---- an import behind its word

of_import : (P : Kind → Type 0) → P (program ImportBare) → P (program Import) → (k : Kind) → begins_with (key "import") k ≡ true → P k
of_import P a b (program ImportBare) h = a
of_import P a b (program Import) h = b
of_import P a b (program _) h = cc
of_import P a b _ h = cc

-- no string stands where something is bound
unquoted : {v : Surroundings} {x : Place} {e : Fault} (s : Text) → IsTrue (is_found (forth (Tok Operator StringLiteral s) x)) → NoRow so_far v clause_row x e
unquoted {v} {x} {e = e} s f = record { no = at }
  where
    at : (us : Forest) (w : Place) → Walk (Whole so_far) (steady v) clause_row x us w → Shallow e (deepest us) → ⊥
    at us w (next (tree {t = u} q) walk) h = unquoted_start s (clause_starts (at_clause u q.reads) q.reads) f

unnamed : {v : Surroundings} {x : Place} {e : Fault} → ((s : Text) → forth (Tok Operator StringLiteral s) x ≡ Lost) → NoRow so_far v source_row x e
unnamed n = bar (no_leaf strings n)

string_found : {v : Surroundings} {x y : Place} {s : Text} → Only so_far v (Part StringOnly) x (one (leaf StringLiteral s)) y → IsTrue (is_found (forth (Tok Operator StringLiteral s) x))
string_found o = let r = (whole_of o.past).reads in found_at (leaf_forth IsString r) r.reads.found

pub bare_built : {v : Surroundings} {x y z : Place} {s : Text} {t : Tree} → Only so_far v (Part StringOnly) x (one (leaf StringLiteral s)) y → OnlyRow so_far v source_row x (part (leaf StringLiteral s) none) z → t ≡ node (program ImportBare) (part (leaf StringLiteral s) none) → OnlyBehind (key "import") v t x z
bare_built {v} {x} {s = s} o r is = only_of (program ImportBare) refl (record { parts = part (leaf StringLiteral s) none; is = is; row = r; keeps = refl }) (of_import (Other behind_word v x (program ImportBare)) itself (barred (no_node (unquoted s (string_found o)))))

pub bare_unread : {v : Surroundings} {x y : Place} {s : Text} {e : Fault} → Only so_far v (Part StringOnly) x (one (leaf StringLiteral s)) y → NoRow so_far v source_row x e → NoneBehind (key "import") v x e
bare_unread {v} {x} {s = s} {e = e} o n = record { no = of_import (λ k. NoNode so_far v (behind_word k) k x e) (no_node n) (no_node (unquoted s (string_found o))) }

-- the string counts
pub bare_deep : {v : Surroundings} {x y : Place} {s : Text} {e : Fault} → Only so_far v (Part StringOnly) x (one (leaf StringLiteral s)) y → Below 0 e → NoneBehind (key "import") v x e
bare_deep {v} {x} {s = s} {e = e} o b = record { no = of_import (λ k. NoNode so_far v (behind_word k) k x e) (no_node (bar (deep_leaf strings b))) (no_node (unquoted s (string_found o))) }

pub import_built : {v : Surroundings} {x y z : Place} {c t : Tree} {s : Text} → ((s : Text) → forth (Tok Operator StringLiteral s) x ≡ Lost) → Front v clause_row from_row x c y → OnlyRow so_far v from_row y (part (leaf StringLiteral s) none) z → t ≡ node (program Import) (part c (part (leaf StringLiteral s) none)) → OnlyBehind (key "import") v t x z
import_built {v} {x} {z = z} {c} {s = s} n f r is =
    let row = turn_only (as_turn f) r in
    only_of (program Import) refl (record { parts = part c (part (leaf StringLiteral s) none); is = is; row = row; keeps = and_both _ _ (plain_row clause_row refl (to_grammar of_so_far row.walk)) refl }) (of_import (Other behind_word v x (program Import)) (barred (no_node (unnamed n))) itself)

pub import_unread : {v : Surroundings} {x : Place} {e : Fault} → ((s : Text) → forth (Tok Operator StringLiteral s) x ≡ Lost) → NoRow so_far v clause_row x e → NoneBehind (key "import") v x e
import_unread {v} {x} {e = e} n m = record { no = of_import (λ k. NoNode so_far v (behind_word k) k x e) (no_node (unnamed n)) (no_node m) }

pub import_unended : {v : Surroundings} {x y : Place} {c : Tree} {e : Fault} → ((s : Text) → forth (Tok Operator StringLiteral s) x ≡ Lost) → Front v clause_row from_row x c y → NoRow so_far v from_row y e → NoneBehind (key "import") v x e
import_unended n f m = import_unread n (turn_none (as_turn f) m)
