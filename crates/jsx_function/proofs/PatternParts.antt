-- What stands in an object's pattern, up to its `}`: as a loop of the parser reads it (ECMA-262 section 14.3.3). A name alone, one with its default and the key of a property may be read from one place, so it is what stands behind that tells.
use Rattle.std.proofs.Common.{◌≡◌, Bool, List, [], ◌∷◌, true, false, not, refl, sym, ◌∙◌, ap, subst, ◌≤◌, ℕ, suc, arith}
use Rattle.std.specs.Prelude.{IsTrue, codes, ◌||◌}
use Rattle.jsx_base.specs.Token.{Text, Operator, Punctuator, IdentifierName, Elision, same}
use Rattle.jsx_tree.specs.Signs.{Sign, Tok, TrailingComma, Unless}
use Rattle.jsx_tree.specs.Kinds.{Assign, Assigns, Binds, Kind, PropertyPat, RestProperty, ShorthandInit, ShorthandPat, RestPat, expression, function, Tree, leaf, node, list, Forest, none, part}
use Rattle.jsx_tree.specs.Nonterminals.{BindingIdent, Expr, Key, PatElement, PatProp, is_bound, leaf_in}
use Rattle.jsx_tree.specs.Grammar.{Commas, Fixed, Many, Part, pun}
use Rattle.jsx_tree.specs.Form.{admits, is_last, is_leaf}
use Rattle.jsx_tree.specs.Reading.{Place, Lost, At, forth}
use Rattle.jsx_tree.specs.StaticRules.{Surroundings}
use Rattle.jsx_tree.specs.Walk.{is_found, IsRead, nothing, one, Piece, piece, Items, nil, last, more, Past, sign, tree, many, Walk, done, next, around, steady, tail}
use Rattle.jsx_tree.specs.Language.{Whole}
use Rattle.jsx_tree.specs.Answers.{Moves, Stuck, Missed, Only, Barred, OnlyRow, NoRow, Built}
use Rattle.jsx_tree.specs.Faults.{Fault, Shallow, part_depth, deepest, outer, Unread, Deep, Below}
use Rattle.jsx_tree.proofs.Tokens.{and_left, and_both, and_right}
use Rattle.jsx_tree.proofs.Apart.{clash, never_both}
use Rattle.jsx_tree.proofs.Rows.Bridge.{found_first, found_at}
use Rattle.jsx_tree.proofs.Rows.Stopping.{is_not, never_stops, or_cases, stays, token_stops}
use Rattle.jsx_tree.proofs.Rows.Guarded.{whole_walk, whole_items_found, loosen, to_grammar}
use Rattle.jsx_tree.proofs.Rows.Bodies.{plain as plain_row}
use Rattle.jsx_tree.proofs.Rows.Laws.{end_found}
use Rattle.jsx_tree.proofs.Rows.Lists.{closed, ended_sign}
use Rattle.jsx_tree.proofs.Rows.Placing.{free_around, moved, node_shallow, nested_shallow}
use Rattle.jsx_tree.proofs.Rows.Steps.{bar, both, end, only_sign, then'}
use Rattle.jsx_tree.proofs.Rows.Turns.{From, Turn, turn_symbol, turn_only, turn_none, turn_as, turn_both, cons, item_of, whole_of, comma_trails, nothing_trails, prepend, prepend_cons, turn_shallow, cons_up}
use Rattle.jsx_operand.specs.SoFar.{Staged, so_far}
use Rattle.jsx_operand.specs.Members.{is_word}
use Rattle.jsx_function.specs.Patterns.{NoElement, NoPart, NoShort, OnlyFilled, OnlyPair, OnlyPart, OnlyShort}
use Rattle.jsx_token.specs.Growths.{on_line, rung, settled}
use Rattle.jsx_token.specs.Marks.{ends_so_far, row_so_far}
use Rattle.jsx_token.proofs.Listed.{listed}
use Rattle.jsx_operand.proofs.OfSoFar.{of_so_far}
use Rattle.jsx_tree.proofs.Rows.Firsts.{kind_home}
use Rattle.jsx_tree.proofs.Depth.Shallow.{below_shallow, shallow_first, shallow_rest, shallow_head, part_up}
use Rattle.jsx_token.specs.Here.{Here, place_of}
use Rattle.jsx_function.proofs.Functions.{shallow_behind}
use Rattle.jsx_operand.proofs.Patterns.{deep_counted, deep_nested}
use Rattle.jsx_operand.proofs.Standing.{standing}
use Rattle.jsx_operand.proofs.Homes.{IsName, Taken, taken_by, home_of, no_list, bindings, told, leaf_one}
use Rattle.jsx_operand.proofs.Values.{leaf_full, leaf_to, led_sign, settled_token}
use Rattle.jsx_operand.proofs.Climbing.{mark_goes, signed_built, signed_none}
use Rattle.jsx_function.proofs.Params.{comma_unless}
use Rattle.jsx_operand.proofs.Keys.{key_unmarked, literal_key, mark_none}
use Rattle.jsx_operand.specs.Patterns.{is_rest}
use Rattle.jsx_function.specs.Elements.{is_hole}

stuck_not : {s : Sign} {x : Place} → Stuck s x → IsTrue (is_found (forth s x)) → ⊥
stuck_not k f = let bad : IsTrue (is_found Lost) = subst (λ p. IsTrue (is_found p)) k.is f in cc

lost_from : (x : Place) → (IsTrue (is_found x) → ⊥) → x ≡ Lost
lost_from Lost n = refl
lost_from (At q e text) n = absurd (n refl)

abbrev pair_row : List Piece
pair_row = row_so_far (function (PropertyPat Binds))

abbrev short_row : List Piece
short_row = row_so_far (function (ShorthandPat Binds))

abbrev default_row : List Piece
default_row = row_so_far (function (ShorthandInit Binds))

abbrev rest_row : List Piece
rest_row = row_so_far (function (RestProperty Binds))

-- ---- what stands there

pub data AtPart : Tree → Type 0 where
  paired : {ts : Forest} → AtPart (node (function (PropertyPat Binds)) ts)
  short : {ts : Forest} → AtPart (node (function (ShorthandPat Binds)) ts)
  valued : {ts : Forest} → AtPart (node (function (ShorthandInit Binds)) ts)
  rest : {ts : Forest} → AtPart (node (function (RestProperty Binds)) ts)

abbrev is_part : Kind → Bool
is_part (function (PropertyPat Binds)) = true
is_part (function (ShorthandPat Binds)) = true
is_part (function (ShorthandInit Binds)) = true
is_part (function (RestProperty Binds)) = true
is_part k = false

part_is : (k : Kind) (ts : Forest) → is_part k ≡ true → AtPart (node k ts)
part_is (function (PropertyPat Binds)) ts h = paired
part_is (function (ShorthandPat Binds)) ts h = short
part_is (function (ShorthandInit Binds)) ts h = valued
part_is (function (RestProperty Binds)) ts h = rest
part_is _ ts h = cc

part_kind : (k : Kind) (ts : Forest) → Taken k → admits (PatProp Binds) (node k ts) ≡ true → AtPart (node k ts)
part_kind k ts t h = part_is k ts (standing (PatProp Binds) is_part refl k t (kind_home (PatProp Binds) k ts h))

at_part : {v : Surroundings} {x y : Place} (t : Tree) → Staged v false (PatProp Binds) x t y → AtPart t
at_part (leaf k t) r = let bad = r.staged in cc
at_part (node k ts) r = part_kind k ts (taken_by r) (home_of r)
at_part (list ts) r = absurd (no_list r)

-- ---- along the rows

pair_whole : {v : Surroundings} {x z : Place} {ts : Forest} → Whole so_far v false (PatProp Binds) x (node (function (PropertyPat Binds)) ts) z → Walk (Whole so_far) (steady v) pair_row x ts z
pair_whole {v} {ts = ts} w = moved (λ a h. free_around a ts v h) refl (whole_walk of_so_far (PatProp Binds) pair_row refl w.ends_there (of_so_far.from_node (function (PropertyPat Binds)) w.reads).walk)

short_whole : {v : Surroundings} {x z : Place} {ts : Forest} → Whole so_far v false (PatProp Binds) x (node (function (ShorthandPat Binds)) ts) z → Walk (Whole so_far) (steady v) short_row x ts z
short_whole {v} {ts = ts} w = moved (λ a h. free_around a ts v h) refl (whole_walk of_so_far (PatProp Binds) short_row refl w.ends_there (of_so_far.from_node (function (ShorthandPat Binds)) w.reads).walk)

default_whole : {v : Surroundings} {x z : Place} {ts : Forest} → Whole so_far v false (PatProp Binds) x (node (function (ShorthandInit Binds)) ts) z → Walk (Whole so_far) (steady v) default_row x ts z
default_whole {v} {ts = ts} w = moved (λ a h. free_around a ts v h) refl (whole_walk of_so_far (PatProp Binds) default_row refl w.ends_there (of_so_far.from_node (function (ShorthandInit Binds)) w.reads).walk)

rest_whole : {v : Surroundings} {x z : Place} {ts : Forest} → Whole so_far v false (PatProp Binds) x (node (function (RestProperty Binds)) ts) z → Walk (Whole so_far) (steady v) rest_row x ts z
rest_whole {v} {ts = ts} w = moved (λ a h. free_around a ts v h) refl (whole_walk of_so_far (PatProp Binds) rest_row refl w.ends_there (of_so_far.from_node (function (RestProperty Binds)) w.reads).walk)

rest_led : {v : Surroundings} {x z : Place} {ts : Forest} → Staged v false (PatProp Binds) x (node (function (RestProperty Binds)) ts) z → IsTrue (is_found (forth (pun "...") x))
rest_led r = led_sign rest_row refl (of_so_far.from_node (function (RestProperty Binds)) r).walk

-- ---- a name that is bound

-- is a key too
pub as_key : {v : Surroundings} {x z : Place} (t : Tree) → Staged v false BindingIdent x t z → Whole so_far v false Key x t z
as_key {z = z} (leaf IdentifierName t) r = record { reads = leaf_to Key IsName refl refl r; ends_there = of_so_far.ends_there Key z (never_stops Key z refl) }
as_key (leaf _ t) r = let bad = r.staged in cc
as_key (node k ts) r = absurd (bindings.node k ts (taken_by r) (home_of r))
as_key (list ts) r = absurd (no_list r)

pub key_of : {v : Surroundings} {x y : Place} (t : Tree) → Staged v false BindingIdent x t y → Only so_far v (Part Key) x (one t) y
key_of (leaf IdentifierName t) r = literal_key IsName t refl (and_right (leaf_in BindingIdent IdentifierName t) _ r.reads.is) (sym r.reads.scans) r.reads.found
key_of (leaf _ t) r = let bad = r.staged in cc
key_of (node k ts) r = absurd (bindings.node k ts (taken_by r) (home_of r))
key_of (list ts) r = absurd (no_list r)

-- it ends where the key does
pub key_end : {v : Surroundings} {x y a : Place} {t n : Tree} → Only so_far v (Part Key) x (one t) y → Whole so_far v false BindingIdent x n a → y ≡ a
key_end {a = a} {n = n} o q = (o.alone (one n) a (tree (as_key n q.reads))).1

pub record Bound (t : Tree) : Type 0 where
  pub text : Text
  pub is : t ≡ leaf IdentifierName text
  pub bound : is_bound text ≡ true

pub bound_by : {v : Surroundings} {x y : Place} (t : Tree) → Staged v false BindingIdent x t y → Bound t
bound_by (leaf IdentifierName t) r = record { text = t; is = refl; bound = and_left (leaf_in BindingIdent IdentifierName t) (is_leaf IdentifierName t) r.reads.is }
bound_by (leaf _ t) r = let bad = r.staged in cc
bound_by (node k ts) r = absurd (bindings.node k ts (taken_by r) (home_of r))
bound_by (list ts) r = absurd (no_list r)

name_settled : {v : Surroundings} {x y : Place} (t : Tree) → Staged v false BindingIdent x t y → settled y ≡ true
name_settled {x = x} (leaf IdentifierName t) r = settled_token Operator IdentifierName t x (leaf_full IsName t (and_right (leaf_in BindingIdent IdentifierName t) _ r.reads.is)) r.reads.scans r.reads.found
name_settled (leaf _ t) r = let bad = r.staged in cc
name_settled (node k ts) r = absurd (bindings.node k ts (taken_by r) (home_of r))
name_settled (list ts) r = absurd (no_list r)

pub name_unmarked : {v : Surroundings} {x z : Place} (t : Tree) (d : Text) → Staged v false BindingIdent x t z → IsTrue (is_found (forth (Tok Operator Punctuator d) x)) → ⊥
name_unmarked {x = x} (leaf IdentifierName t) d r f = mark_none IsName t d x refl (found_at r.reads.scans r.reads.found) f
name_unmarked (leaf _ t) d r f = let bad = r.staged in cc
name_unmarked (node k ts) d r f = bindings.node k ts (taken_by r) (home_of r)
name_unmarked (list ts) d r f = no_list r

-- ---- where a mark stands, or behind one

-- no name does, and no key but one in brackets
short_marked : {v : Surroundings} {x z : Place} {ts : Forest} (d : Text) → Walk (Whole so_far) (steady v) short_row x ts z → IsTrue (is_found (forth (Tok Operator Punctuator d) x)) → ⊥
short_marked d (next (tree {t = t} q) w) f = name_unmarked t d q.reads f

default_marked : {v : Surroundings} {x z : Place} {ts : Forest} (d : Text) → Walk (Whole so_far) (steady v) default_row x ts z → IsTrue (is_found (forth (Tok Operator Punctuator d) x)) → ⊥
default_marked d (next (tree {t = t} q) w) f = name_unmarked t d q.reads f

key_marked : {v : Surroundings} {x z : Place} {ts : Forest} (d : Text) → same (codes "[") d ≡ false → Walk (Whole so_far) (steady v) pair_row x ts z → IsTrue (is_found (forth (Tok Operator Punctuator d) x)) → ⊥
key_marked d n (next (tree q) w) f = key_unmarked d n q.reads f

-- where another mark stands, no part does
unmarked : {v : Surroundings} {x z : Place} {u : Tree} (d : Text) → same (codes "[") d ≡ false → same (codes "...") d ≡ false → IsTrue (is_found (forth (Tok Operator Punctuator d) x)) → Whole so_far v false (PatProp Binds) x u z → ⊥
unmarked {v} {x} {z} {u} d n m f w = at (at_part u w.reads) w
  where
    at : {t : Tree} → AtPart t → Whole so_far v false (PatProp Binds) x t z → ⊥
    at paired q = key_marked d n (pair_whole q) f
    at short q = short_marked d (short_whole q) f
    at valued q = default_marked d (default_whole q) f
    at rest q = never_both Punctuator Punctuator (codes "...") d x m (rest_led q.reads) f

-- a name alone ends with no `:` behind it, and no `:` stands before a default
short_uncoloned : {v : Surroundings} {x y p : Place} {t : Tree} {ts : Forest} → Only so_far v (Part Key) x (one t) y → IsTrue (is_found (forth (pun ":") y)) → Stuck (pun ":") p → Walk (Whole so_far) (steady v) short_row x ts p → ⊥
short_uncoloned o f s (next (tree q) (done g)) = stuck_not s (subst (λ a. IsTrue (is_found (forth (pun ":") a))) (key_end o q) f)

default_uncoloned : {v : Surroundings} {x y p : Place} {t : Tree} {ts : Forest} → Only so_far v (Part Key) x (one t) y → IsTrue (is_found (forth (pun ":") y)) → Walk (Whole so_far) (steady v) default_row x ts p → ⊥
default_uncoloned o f (next (tree q) (next {x = a} (sign e g) w)) = never_both Punctuator Punctuator (codes ":") (codes "=") a refl (subst (λ a. IsTrue (is_found (forth (pun ":") a))) (key_end o q) f) (found_at e g)

-- ---- a property

pub colon_moves : {v : Surroundings} {x a : Place} → Only so_far v (Fixed (pun ":")) x nothing a → Moves (pun ":") x a
colon_moves {v} {x} {a} o = at o.past
  where
    at : Past (Whole so_far) v (Fixed (pun ":")) x nothing a → Moves (pun ":") x a
    at (sign e f) = record { is = sym e; found = f }

-- one level more, as of what is round a node
shallow_outwards : (e : Fault) (d : ℕ) → Shallow e d → Shallow (outer e) d
shallow_outwards Unread d s = tt
shallow_outwards (Deep n) d s = omega (arith, s)

below_more : (k : ℕ) (e : Fault) → Below k e → Below (suc k) e
below_more k Unread b = b
below_more k (Deep n) b = omega (arith, b)

one_below : (k : ℕ) → k ≤ k
one_below k = omega arith

unholed : {v : Surroundings} {x y : Place} (t : Tree) → Staged v false (PatElement Binds) x t y → is_hole t ≡ false
unholed (leaf Elision t) r = let bad = r.staged in cc
unholed (leaf _ t) r = refl
unholed (node k ts) r = refl
unholed (list ts) r = refl

unrested : {v : Surroundings} {x y : Place} (t : Tree) → Staged v false (PatElement Binds) x t y → is_rest t ≡ false
unrested (node (function (RestPat Binds)) ts) q = absurd (clash _ (kind_home (PatElement Binds) (function (RestPat Binds)) ts (home_of q)) refl)
unrested (node (function (RestPat Assigns)) ts) q = absurd (clash _ (kind_home (PatElement Binds) (function (RestPat Assigns)) ts (home_of q)) refl)
unrested (node _ ts) q = refl
unrested (leaf k t) q = refl
unrested (list ts) q = refl

pub no_pair_value : {v : Surroundings} {a : Place} {e : Fault} → NoElement v a e → NoRow so_far v (tail (tail pair_row)) a e
no_pair_value {v} {a} {e = e} n = record { no = at }
  where
    unfilled : {u : Tree} {z : Place} → Whole so_far v false (PatElement Binds) a u z → Shallow e (part_depth u) → ⊥
    unfilled {u} {z} w h = n.no (PatElement Binds) refl u z (unholed u w.reads) (unrested u w.reads) w h

    at : (us : Forest) (z : Place) → Walk (Whole so_far) (steady v) (tail (tail pair_row)) a us z → Shallow e (deepest us) → ⊥
    at us z (next {ts = vs} (tree {t = u} q) w) s = unfilled q (shallow_first e (one u) vs s)

pub pair_part : {v : Surroundings} {x y z : Place} {t u : Tree} → Only so_far v (Part Key) x (one t) y → OnlyPair v y t u z → OnlyPart v x u z
pair_part {v} {x} {y} {z} {t} {u} o b = record {
  reads = subst (λ w. Staged v false (PatProp Binds) x w z) (sym b.is) (of_so_far.to_node (function (PropertyPat Binds)) refl (record { walk = row; keeps = and_both _ _ (plain_row pair_row refl read) refl }));
  alone = λ w p s q. at s (at_part w q.reads) q;
}
  where
    value : OnlyFilled v (PatElement Binds) b.behind b.value z
    value = b.element.on (PatElement Binds) refl

    row : Walk Staged (around v (part t (part b.value none))) pair_row x (part t (part b.value none)) z
    row = next (tree (whole_of o.past).reads) (next (sign (sym b.colon.is) b.colon.found) (next (tree value.reads) (done (end_found of_so_far value.reads))))

    read : Walk IsRead (steady v) pair_row x (part t (part b.value none)) z
    read = next (tree (whole_of o.past).reads.reads) (next (sign (sym b.colon.is) b.colon.found) (next (tree value.reads.reads) (done (end_found of_so_far value.reads))))

    colon : IsTrue (is_found (forth (pun ":") y))
    colon = found_at (sym b.colon.is) b.colon.found

    same_pair : {ts : Forest} {p : Place} → Walk (Whole so_far) (steady v) pair_row x ts p → (u ≡ node (function (PropertyPat Binds)) ts) × (z ≡ p)
    same_pair (next (tree {t = k} q) (next (sign e f) (next (tree {t = w} r) (done g)))) =
        let s = o.alone (one k) _ (tree q) in
        let there = sym (b.colon.is ∙ (ap (forth (pun ":")) s.1 ∙ e)) in
        let m = value.alone w _ (unholed w r.reads) (subst (λ c. Whole so_far v false (PatElement Binds) c w _) there r) in
        (b.is ∙ (λ i. node (function (PropertyPat Binds)) (part (item_of (s.0 i)) (part (m.0 i) none))), m.1)

    at : {w : Tree} {p : Place} → Stuck (pun ":") p → AtPart w → Whole so_far v false (PatProp Binds) x w p → (u ≡ w) × (z ≡ p)
    at s paired q = same_pair (pair_whole q)
    at s short q = absurd (short_uncoloned o colon s (short_whole q))
    at s valued q = absurd (default_uncoloned o colon (default_whole q))
    at s rest q = absurd (key_unmarked (codes "...") refl (whole_of o.past).reads (rest_led q.reads))

-- none that begins with the key, which is no name that may be bound, or before a `:`
pub no_pair_part : {v : Surroundings} {x y : Place} {t : Tree} {d : Fault} → Only so_far v (Part Key) x (one t) y → ((s : Text) → t ≡ leaf IdentifierName s → is_bound s ≡ true → IsTrue (is_found (forth (pun ":") y))) → NoRow so_far v (tail pair_row) y d → NoPart v x (outer d)
no_pair_part {v} {x} {y} {t} {d = d} o c n = record { no = λ w p s q shallow. at s (at_part w q.reads) q shallow }
  where
    tree_is : {u : Tree} → one t ≡ one u → t ≡ u
    tree_is e = ap item_of e

    colon : {u : Tree} {a : Place} → Whole so_far v false BindingIdent x u a → IsTrue (is_found (forth (pun ":") y))
    colon {u} {a} q =
        let m = bound_by u q.reads in
        let e = o.alone (one u) a (tree (as_key u q.reads)) in
        c m.text (tree_is e.0 ∙ m.is) m.bound

    short_none : {ts : Forest} {p : Place} → Stuck (pun ":") p → Walk (Whole so_far) (steady v) short_row x ts p → ⊥
    short_none s (next (tree q) (done g)) = stuck_not s (subst (λ a. IsTrue (is_found (forth (pun ":") a))) (key_end o q) (colon q))

    default_none : {ts : Forest} {p : Place} → Walk (Whole so_far) (steady v) default_row x ts p → ⊥
    default_none (next (tree q) (next {x = a} (sign e g) w)) = never_both Punctuator Punctuator (codes ":") (codes "=") a refl (subst (λ a. IsTrue (is_found (forth (pun ":") a))) (key_end o q) (colon q)) (found_at e g)

    at : {w : Tree} {p : Place} → Stuck (pun ":") p → AtPart w → Whole so_far v false (PatProp Binds) x w p → Shallow (outer d) (part_depth w) → ⊥
    at {p = p} s (paired {ts}) q h = let f = (turn_symbol o).from ts p (pair_whole q) in n.no f.parts p f.walk (turn_shallow d (turn_symbol o) ts p (pair_whole q) (node_shallow d true refl of_so_far q.reads h))
    at s short q h = short_none s (short_whole q)
    at s valued q h = default_none (default_whole q)
    at s rest q h = key_unmarked (codes "...") refl (whole_of o.past).reads (rest_led q.reads)

-- the same of a key that is no name
pub no_wordless_part : {v : Surroundings} {x y : Place} {t : Tree} {d : Fault} → Only so_far v (Part Key) x (one t) y → is_word t ≡ false → NoRow so_far v (tail pair_row) y d → NoPart v x (outer d)
no_wordless_part o w n = no_pair_part o (λ s e i. let bad : true ≡ false = ap is_word (sym e) ∙ w in cc) n

-- one that is a name can't be bound, or stands before a `:`; or neither
pub keyed_word : {y p : Place} {u : Tree} (t : Text) → u ≡ leaf IdentifierName t → y ≡ p → (not (is_bound t) || is_found (forth (pun ":") p)) ≡ true → (s : Text) → u ≡ leaf IdentifierName s → is_bound s ≡ true → IsTrue (is_found (forth (pun ":") y))
keyed_word {y} {p} t e same h s f i = ap (λ q. is_found (forth (pun ":") q)) same ∙ or_cases (not (is_bound t)) _ h (λ r. absurd (clash (is_bound t) (ap is_bound (text_is (sym e ∙ f)) ∙ i) (is_not _ r))) (λ r. r)
  where
    text_is : {a b : Text} → leaf IdentifierName a ≡ leaf IdentifierName b → a ≡ b
    text_is g = cc

pub unkeyed : {y p : Place} (t : Text) → y ≡ p → (not (is_bound t) || is_found (forth (pun ":") p)) ≡ false → (is_bound t ≡ true) × Stuck (pun ":") y
unkeyed {y} {p} t same h = let n = neither _ _ h in (held (is_bound t) n.0, record { is = lost_from _ (λ g. clash _ (ap (λ q. is_found (forth (pun ":") q)) (sym same) ∙ g) n.1) })
  where
    neither : (a b : Bool) → (a || b) ≡ false → (a ≡ false) × (b ≡ false)
    neither true b e = cc
    neither false b e = (refl, e)

    held : (b : Bool) → not b ≡ false → b ≡ true
    held true e = refl
    held false e = cc

-- no key stands there, and no dots
pub no_key_part : {v : Surroundings} {x : Place} {e : Fault} → Stuck (pun "...") x → Barred so_far v (Part Key) x e → NoPart v x (outer e)
no_key_part {v} {x} {e = e} k b = record { no = λ w p s q h'. at (at_part w q.reads) q h' }
  where
    pair_none : {ts : Forest} {p : Place} → Walk (Whole so_far) (steady v) pair_row x ts p → Shallow e (deepest ts) → ⊥
    pair_none (next {g = g'} {ts = us'} q w) s' = b.no _ _ q (shallow_first e g' us' s')

    short_none : {ts : Forest} {p : Place} → Walk (Whole so_far) (steady v) short_row x ts p → Shallow e (deepest ts) → ⊥
    short_none (next {ts = us'} (tree {t = n} q) w) a = b.no (one n) _ (tree (as_key n q.reads)) (shallow_first e (one n) us' a)

    default_none : {ts : Forest} {p : Place} → Walk (Whole so_far) (steady v) default_row x ts p → Shallow e (deepest ts) → ⊥
    default_none (next {ts = us'} (tree {t = n} q) w) h = b.no (one n) _ (tree (as_key n q.reads)) (shallow_first e (one n) us' h)

    at : {w : Tree} {p : Place} → AtPart w → Whole so_far v false (PatProp Binds) x w p → Shallow (outer e) (part_depth w) → ⊥
    at paired q s = pair_none (pair_whole q) (node_shallow e true refl of_so_far q.reads s)
    at short q s = short_none (short_whole q) (node_shallow e true refl of_so_far q.reads s)
    at (valued {ts}) q s = default_none (default_whole q) (nested_shallow e of_so_far q.reads (shallow_outwards (outer e) (part_depth (node (function (ShorthandInit Binds)) ts)) s))
    at rest q s = stuck_not k (rest_led q.reads)

-- ---- a name alone, or with its default

part_ends : (y : Place) → ends_so_far (PatProp Binds) y ≡ ends_so_far (Expr 1) y
part_ends Lost = refl
part_ends (At q e text) = refl

value_on : (y : Place) → settled y ≡ true → IsTrue (is_found (forth (pun "=") y)) → ends_so_far (PatProp Binds) y ≡ false
value_on y s f = part_ends y ∙ mark_goes (rung 1) (expression Assign) y refl (listed (expression Assign) refl refl refl) refl s (record { stays = λ o. absurd (clash (on_line (expression Assign)) o refl) }) f

-- a property there begins with the name, so it stands before a `:`
unpaired : {v : Surroundings} {x y z : Place} {n : Tree} {ts : Forest} → Only so_far v (Part BindingIdent) x (one n) y → Stuck (pun ":") y → Walk (Whole so_far) (steady v) pair_row x ts z → ⊥
unpaired {v} {x} {y} {n = n} o c (next (tree {t = k} q) (next (sign e f) w)) = stuck_not c (subst (λ a. IsTrue (is_found (forth (pun ":") a))) (sym (key.alone (one k) _ (tree q)).1) (found_at e f))
  where
    key : Only so_far v (Part Key) x (one n) y
    key = key_of n (whole_of o.past).reads

-- nor does the dots of a rest
unresting : {v : Surroundings} {x y z : Place} {n : Tree} {ts : Forest} → Only so_far v (Part BindingIdent) x (one n) y → Staged v false (PatProp Binds) x (node (function (RestProperty Binds)) ts) z → ⊥
unresting {n = n} o r = name_unmarked n (codes "...") (whole_of o.past).reads (rest_led r)

-- with a default behind it a name alone has not come to its end
unshort : {v : Surroundings} {x y p : Place} {n : Tree} {ts : Forest} → Only so_far v (Part BindingIdent) x (one n) y → IsTrue (is_found (forth (pun "=") y)) → ends_so_far (PatProp Binds) p ≡ true → Walk (Whole so_far) (steady v) short_row x ts p → ⊥
unshort {n = n} o f e (next (tree {t = m} q) (done g)) =
    let s = o.alone (one m) _ (tree q) in
    clash _ (subst (λ a. ends_so_far (PatProp Binds) a ≡ true) (sym s.1) e) (value_on _ (name_settled n (whole_of o.past).reads) f)

lone_part : {v : Surroundings} {x y : Place} {n t : Tree} → Stuck (pun "=") y → t ≡ node (function (ShorthandPat Binds)) (part n none) → Only so_far v (Part BindingIdent) x (one n) y → Stuck (pun ":") y → OnlyPart v x t y
lone_part {v} {x} {y} {n} {t} m is o c = record {
  reads = subst (λ w. Staged v false (PatProp Binds) x w y) (sym is) (of_so_far.to_node (function (ShorthandPat Binds)) refl (record { walk = loosen (moved (λ a h. sym (free_around a (part n none) v h)) refl row); keeps = and_both _ _ (plain_row short_row refl (to_grammar of_so_far row)) refl }));
  alone = λ w p s q. at (at_part w q.reads) q;
}
  where
    row : Walk (Whole so_far) (steady v) short_row x (part n none) y
    row = next o.past (done (end_found of_so_far (whole_of o.past).reads))

    same_name : {ts : Forest} {p : Place} → Walk (Whole so_far) (steady v) short_row x ts p → (t ≡ node (function (ShorthandPat Binds)) ts) × (y ≡ p)
    same_name (next (tree {t = w} q) (done g)) =
        let s = o.alone (one w) _ (tree q) in
        (is ∙ (λ i. node (function (ShorthandPat Binds)) (part (item_of (s.0 i)) none)), s.1)

    unvalued : {ts : Forest} {p : Place} → Walk (Whole so_far) (steady v) default_row x ts p → ⊥
    unvalued (next (tree {t = w} q) (next (sign e f) walk)) =
        let s = o.alone (one w) _ (tree q) in
        stuck_not m (subst (λ a. IsTrue (is_found (forth (pun "=") a))) (sym s.1) (found_at e f))

    at : {w : Tree} {p : Place} → AtPart w → Whole so_far v false (PatProp Binds) x w p → (t ≡ w) × (y ≡ p)
    at paired q = absurd (unpaired o c (pair_whole q))
    at short q = same_name (short_whole q)
    at valued q = absurd (unvalued (default_whole q))
    at rest q = absurd (unresting o q.reads)

pub short_part : {v : Surroundings} {y y' : Place} {n t : Tree} → Missed (pun "=") y y' → t ≡ node (function (ShorthandPat Binds)) (part n none) → OnlyShort v n y t y'
short_part {v} {t = t} m is = record { on = λ x o c. subst (OnlyPart v x t) m.same (lone_part m.stuck is o c) }

filled_part : {v : Surroundings} {x y a z : Place} {n e t : Tree} → Moves (pun "=") y a → Only so_far v (Part (Expr 1)) a (one e) z → t ≡ node (function (ShorthandInit Binds)) (part n (part e none)) → Only so_far v (Part BindingIdent) x (one n) y → Stuck (pun ":") y → OnlyPart v x t z
filled_part {v} {x} {y} {a} {z} {n} {e} {t} k value is o c = record {
  reads = subst (λ w. Staged v false (PatProp Binds) x w z) (sym is) (of_so_far.to_node (function (ShorthandInit Binds)) refl (record { walk = loosen (moved (λ b h. sym (free_around b (part n (part e none)) v h)) refl row.walk); keeps = and_both _ _ (plain_row default_row refl (to_grammar of_so_far row.walk)) refl }));
  alone = λ w p s q. at (at_part w q.reads) q;
}
  where
    row : OnlyRow so_far v default_row x (part n (part e none)) z
    row = then' o (then' (only_sign k) (then' value (end (end_found of_so_far (whole_of value.past).reads))))

    at : {w : Tree} {p : Place} → AtPart w → Whole so_far v false (PatProp Binds) x w p → (t ≡ w) × (z ≡ p)
    at paired q = absurd (unpaired o c (pair_whole q))
    at short q = absurd (unshort o (found_at (sym k.is) k.found) q.ends_there (short_whole q))
    at {p = p} (valued {ts}) q = let s = row.alone ts p (default_whole q) in (is ∙ ap (node (function (ShorthandInit Binds))) s.0, s.1)
    at rest q = absurd (unresting o q.reads)

pub valued_part : {v : Surroundings} {y a z : Place} {n e t : Tree} → Moves (pun "=") y a → Only so_far v (Part (Expr 1)) a (one e) z → t ≡ node (function (ShorthandInit Binds)) (part n (part e none)) → OnlyShort v n y t z
valued_part k value is = record { on = λ x o c. filled_part k value is o c }

unfilled_part : {v : Surroundings} {x y a : Place} {n : Tree} {d : Fault} → Moves (pun "=") y a → Barred so_far v (Part (Expr 1)) a d → Only so_far v (Part BindingIdent) x (one n) y → Stuck (pun ":") y → NoPart v x (outer (outer d))
unfilled_part {v} {x} {y} {a} {n} {d = d} k b o c = record { no = λ w p s q s'. at (at_part w q.reads) q s' }
  where
    unvalued : {ts : Forest} {p : Place} → Walk (Whole so_far) (steady v) default_row x ts p → Shallow d (deepest ts) → ⊥
    unvalued (next {ts = us'} (tree {t = w} q) (next (sign e f) (next {g = g'} {ts = vs'} r walk))) h =
        let s = o.alone (one w) _ (tree q) in
        (subst (λ w. Barred so_far v (Part (Expr 1)) w d) (k.is ∙ (ap (forth (pun "=")) s.1 ∙ e)) b).no _ _ r (shallow_first d g' vs' (shallow_rest d (one w) us' h))

    at : {w : Tree} {p : Place} → AtPart w → Whole so_far v false (PatProp Binds) x w p → Shallow (outer (outer d)) (part_depth w) → ⊥
    at paired q s = unpaired o c (pair_whole q)
    at short q s = unshort o (found_at (sym k.is) k.found) q.ends_there (short_whole q)
    at valued q s = unvalued (default_whole q) (nested_shallow d of_so_far q.reads s)
    at rest q s = unresting o q.reads

pub no_valued_part : {v : Surroundings} {y a : Place} {n : Tree} {e : Fault} → Moves (pun "=") y a → Barred so_far v (Part (Expr 1)) a e → NoShort v n y (outer e)
no_valued_part k b = record { no = λ x o c. unfilled_part k b o c }

-- ---- what is too deep

-- at a level less than a property's
outer_part : {v : Surroundings} {x : Place} {e : Fault} → NoPart v x (outer e) → NoPart v x e
outer_part {e = e} n = record { no = λ u z s q h. n.no u z s q (shallow_outwards e (part_depth u) h) }

pub no_literal_part : {v : Surroundings} {x : Place} {e : Fault} → Stuck (pun "...") x → Barred so_far v (Part Key) x e → NoPart v x e
no_literal_part k b = outer_part (no_key_part k b)

-- from a place that is another
pub no_part_from : {v : Surroundings} {x y : Here} {e : Fault} → x ≡ y → NoPart v (place_of x) e → NoPart v (place_of y) e
no_part_from {v} {e = e} q n = subst (λ h. NoPart v (place_of h) e) q n

-- where no dots stand, whatever stands there counts
pub deep_bracket : {v : Surroundings} {x : Place} {e : Fault} → Stuck (pun "...") x → Below 0 e → NoPart v x e
deep_bracket {v} {x} {e} k b = record { no = λ u p s q h. at (at_part u q.reads) q h }
  where
    at : {u : Tree} {p : Place} → AtPart u → Whole so_far v false (PatProp Binds) x u p → Shallow e (part_depth u) → ⊥
    at paired q h = deep_counted e refl q.reads b h
    at short q h = deep_counted e refl q.reads b h
    at valued q h = deep_nested e q.reads (below_more 0 e b) h
    at rest q h = stuck_not k (rest_led q.reads)

-- and so does its key
pub deep_part : {v : Surroundings} {x y : Place} {t : Tree} {e : Fault} → Only so_far v (Part Key) x (one t) y → part_depth t ≡ 1 → Below 1 e → NoPart v x e
deep_part {v} {x} {y} {t} {e} o d b = record { no = λ u p s q h. at (at_part u q.reads) q (below_shallow 1 e (part_depth u) b h) }
  where
    none_key : {k : Tree} {a : Place} → Whole so_far v false Key x k a → part_depth k ≤ 0 → ⊥
    none_key {k} {a} q h =
        let s : t ≡ k = ap item_of (o.alone (one k) a (tree q)).0 in
        let same : part_depth t ≡ part_depth k = ap part_depth s in
        omega (arith, d, same, h)

    paired_none : {ts : Forest} {p : Place} → Walk (Whole so_far) (steady v) pair_row x ts p → deepest ts ≤ 0 → ⊥
    paired_none (next {ts = us'} (tree {t = k} q) w) h = none_key q (shallow_first (Deep 0) (one k) us' h)

    short_none : {ts : Forest} {p : Place} → Walk (Whole so_far) (steady v) short_row x ts p → deepest ts ≤ 0 → ⊥
    short_none (next {ts = us'} (tree {t = k} q) w) h = none_key (as_key k q.reads) (shallow_first (Deep 0) (one k) us' h)

    at : {u : Tree} {p : Place} → AtPart u → Whole so_far v false (PatProp Binds) x u p → part_depth u ≤ 1 → ⊥
    at paired q h = paired_none (pair_whole q) (node_shallow (Deep 0) true refl of_so_far q.reads h)
    at short q h = short_none (short_whole q) (node_shallow (Deep 0) true refl of_so_far q.reads h)
    at valued q h = deep_nested (Deep 1) q.reads (one_below 1) h
    at rest q h = key_unmarked (codes "...") refl (whole_of o.past).reads (rest_led q.reads)

-- a name with its default is deeper by two levels than the name
pub deep_default : {v : Surroundings} {y a : Place} {n : Tree} {e : Fault} → Moves (pun "=") y a → Below 1 e → NoShort v n y e
deep_default {v} {y} {n = n} {e} k b = record { no = λ x o c. record { no = λ u p s q h. at o c (at_part u q.reads) q h } }
  where
    lower : (d : Fault) (m : ℕ) → Below 1 d → Shallow (outer d) m → m ≤ 2
    lower Unread m w s = absurd w
    lower (Deep i) m w s = omega (arith, w, s)

    none_name : {x p : Place} {ts : Forest} → Walk (Whole so_far) (steady v) default_row x ts p → deepest ts ≤ 0 → ⊥
    none_name (next {ts = us'} (tree {t = u} q) w) h =
        let m = told bindings u q.reads in
        let d = ap part_depth m.is ∙ leaf_one IdentifierName m.text refl in
        let low : part_depth u ≤ 0 = shallow_first (Deep 0) (one u) us' h in
        omega (arith, d, low)

    at : {x : Place} → Only so_far v (Part BindingIdent) x (one n) y → Stuck (pun ":") y → {u : Tree} {p : Place} → AtPart u → Whole so_far v false (PatProp Binds) x u p → Shallow (outer e) (part_depth u) → ⊥
    at o c paired q s = unpaired o c (pair_whole q)
    at o c short q s = unshort o (found_at (sym k.is) k.found) q.ends_there (short_whole q)
    at o c {u} valued q s = none_name (default_whole q) (nested_shallow (Deep 0) of_so_far q.reads (lower e (part_depth u) b s))
    at o c rest q s = unresting o q.reads

-- ---- a rest

pub rest_property_read : {v : Surroundings} {x a y : Place} {t : Tree} → Moves (pun "...") x a → Built so_far v (tail rest_row) (function (RestProperty Binds)) (λ ts. ts) t a y → OnlyPart v x t y
rest_property_read {v} {x} {a} {y} {t} m b = record {
  reads = subst (λ u. Staged v false (PatProp Binds) x u y) (sym w.is) (of_so_far.to_node (function (RestProperty Binds)) refl (record { walk = loosen (moved (λ c h. sym (free_around c w.parts v h)) refl w.row.walk); keeps = and_both _ _ (plain_row rest_row refl (to_grammar of_so_far w.row.walk)) refl }));
  alone = λ u p s q. at (at_part u q.reads) q;
}
  where
    w : Built so_far v rest_row (function (RestProperty Binds)) (λ ts. ts) t x y
    w = signed_built rest_row refl m b

    there : IsTrue (is_found (forth (pun "...") x))
    there = found_at (sym m.is) m.found

    at : {u : Tree} {p : Place} → AtPart u → Whole so_far v false (PatProp Binds) x u p → (t ≡ u) × (y ≡ p)
    at paired q = absurd (key_marked (codes "...") refl (pair_whole q) there)
    at short q = absurd (short_marked (codes "...") (short_whole q) there)
    at valued q = absurd (default_marked (codes "...") (default_whole q) there)
    at {p = p} (rest {ts}) q = let e = w.row.alone ts p (rest_whole q) in (w.is ∙ ap (node (function (RestProperty Binds))) e.0, e.1)

pub no_rest_property : {v : Surroundings} {x a : Place} {e : Fault} → Moves (pun "...") x a → NoRow so_far v (tail rest_row) a e → NoPart v x e
no_rest_property {v} {x} {e = e} m n = record { no = λ u p s q h. at (at_part u q.reads) q h }
  where
    there : IsTrue (is_found (forth (pun "...") x))
    there = found_at (sym m.is) m.found

    at : {u : Tree} {p : Place} → AtPart u → Whole so_far v false (PatProp Binds) x u p → Shallow e (part_depth u) → ⊥
    at paired q s = key_marked (codes "...") refl (pair_whole q) there
    at short q s = short_marked (codes "...") (short_whole q) there
    at valued q s = default_marked (codes "...") (default_whole q) there
    at {p = p} (rest {ts}) q s = (signed_none rest_row refl m n).no ts p (rest_whole q) (node_shallow e false refl of_so_far q.reads s)

-- no comma stands behind one
rest_guard : {v : Surroundings} {x y : Place} {ts us : Forest} → Walk Staged (around v us) rest_row x ts y → IsTrue (is_found (forth (pun ",") y)) → ⊥
rest_guard (next d (next q (next {x = p} (sign e f) (done g)))) c =
    let there = sym e ∙ stays (Unless (codes "," ∷ [])) p refl (found_at e f) in
    let gone : forth (Unless (codes "," ∷ [])) p ≡ Lost = comma_unless p (subst (λ b. IsTrue (is_found (forth (pun ",") b))) there c) in
    let bad : IsTrue (is_found Lost) = subst (λ b. IsTrue (is_found b)) (sym e ∙ gone) f in cc

not_last : {v : Surroundings} {x y : Place} {t : Tree} → Staged v false (PatProp Binds) x t y → IsTrue (is_found (forth (pun ",") y)) → is_last t ≡ false
not_last {v} {x} {y} {t} r c = at (at_part t r) r
  where
    at : {u : Tree} → AtPart u → Staged v false (PatProp Binds) x u y → is_last u ≡ false
    at paired q = refl
    at short q = refl
    at valued q = refl
    at (rest {ts}) q = absurd (rest_guard {us = ts} (of_so_far.from_node (function (RestProperty Binds)) q).walk c)

-- behind its `...`: the name, and no comma
pub name_found : {v : Surroundings} {x y : Place} {t : Tree} → Only so_far v (Part BindingIdent) x (one t) y → IsTrue (is_found y)
name_found o = end_found of_so_far (whole_of o.past).reads

-- ---- the list, and what closes it

abbrev closing : List Piece
closing = piece [] (Fixed (pun "}")) ∷ []

abbrev inside : List Piece
inside = piece [] (Many Commas (PatProp Binds)) ∷ closing

closing_found : {v : Surroundings} {x w : Place} {us : Forest} → Walk (Whole so_far) (steady v) closing x us w → IsTrue (is_found (forth (pun "}") x))
closing_found (next (sign e f) walk) = found_at e f

-- behind a part of the list no `:` stands
uncoloned : (d : Text) (x : Place) → same (codes ":") d ≡ false → IsTrue (is_found (forth (Tok Operator Punctuator d) x)) → Stuck (pun ":") x
uncoloned d x n f = record { is = lost_from _ (λ g. never_both Punctuator Punctuator (codes ":") d x n g f) }

before_comma : {x z : Place} → forth (pun ",") x ≡ z → IsTrue (is_found z) → Stuck (pun ":") x
before_comma {x} e f = uncoloned (codes ",") x refl (found_at e f)

before_close : {y p : Place} → forth TrailingComma y ≡ p → IsTrue (is_found (forth (pun "}") p)) → Stuck (pun ":") y
before_close {y} {p} e f = by (is_found (forth (pun ",") y)) refl
  where
    by : (b : Bool) → is_found (forth (pun ",") y) ≡ b → Stuck (pun ":") y
    by true h = uncoloned (codes ",") y refl h
    by false h = uncoloned (codes "}") y refl (subst (λ q. IsTrue (is_found (forth (pun "}") q))) (sym e ∙ nothing_trails y (record { is = lost_from _ (λ g. clash _ g h) })) f)

whole_before : {v : Surroundings} {x y : Place} {t : Tree} → OnlyPart v x t y → ends_so_far (PatProp Binds) y ≡ true → Whole so_far v false (PatProp Binds) x t y
whole_before o e = record { reads = o.reads; ends_there = e }

comma_ends : (y : Place) → IsTrue (is_found (forth (pun ",") y)) → ends_so_far (PatProp Binds) y ≡ true
comma_ends y f = of_so_far.ends_there (PatProp Binds) y (token_stops (PatProp Binds) Punctuator 44 [] y refl f)

close_ends : (y : Place) → IsTrue (is_found (forth (pun "}") y)) → ends_so_far (PatProp Binds) y ≡ true
close_ends y f = of_so_far.ends_there (PatProp Binds) y (token_stops (PatProp Binds) Punctuator 125 [] y refl f)

-- ---- a part and a comma

turn_part : {v : Surroundings} {x y z : Place} {t : Tree} → OnlyPart v x t y → Stuck (pun "}") x → Moves (pun ",") y z → Turn so_far v inside inside x z (cons t)
turn_part {v} {x} {y} {z} {t} o c m = record { to = forward; from = back; rises = cons_up t }
  where
    there : IsTrue (is_found (forth (pun ",") y))
    there = found_at (sym m.is) m.found

    whole : Whole so_far v false (PatProp Binds) x t y
    whole = whole_before o (comma_ends y there)

    ahead : (ts : Forest) (p : Place) → Items (Whole so_far) v Commas (PatProp Binds) z ts p → Items (Whole so_far) v Commas (PatProp Binds) x (part t ts) p
    ahead none p (nil f) = last whole (comma_trails m) m.found
    ahead (part u none) p all = more (not_last o.reads there) whole (sym m.is) all
    ahead (part u (part u' us)) p all = more (not_last o.reads there) whole (sym m.is) all

    forward : (ts : Forest) (w : Place) → Walk (Whole so_far) (steady v) inside z ts w → Walk (Whole so_far) (steady v) inside x (cons t ts) w
    forward ts w (next {ts = vs} (many {ts = us} e all) walk) = next (many refl (ahead us _ all)) walk

    inner : (ts : Forest) (p : Place) → Items (Whole so_far) v Commas (PatProp Binds) x ts p → (us : Forest) (w : Place) → Walk (Whole so_far) (steady v) closing p us w → From so_far v inside z (cons t) (part (list ts) us) w
    inner ts p (nil f) us w walk = absurd (stuck_not c (closing_found walk))
    inner ts p (last {y = y'} {t = t'} r e f) us w walk =
        let s = o.alone t' y' (before_close e (closing_found walk)) r in
        let place : z ≡ p = sym (comma_trails m) ∙ (ap (forth TrailingComma) s.1 ∙ e) in
        record { parts = part (list none) us; is = λ i. part (list (part (s.0 i) none)) us; walk = next (many refl (nil m.found)) (subst (λ p. Walk (Whole so_far) (steady v) closing p us w) (sym place) walk) }
    inner ts p (more {y = y'} {z = z'} {t = t'} {u = u} {us = vs} n r e all) us w walk =
        let s = o.alone t' y' (before_comma e (whole_items_found of_so_far all)) r in
        let place : z ≡ z' = m.is ∙ (ap (forth (pun ",")) s.1 ∙ e) in
        record { parts = part (list (part u vs)) us; is = λ i. part (list (part (s.0 i) (part u vs))) us; walk = next (many refl (subst (λ q. Items (Whole so_far) v Commas (PatProp Binds) q (part u vs) p) (sym place) all)) walk }

    back : (us : Forest) (w : Place) → Walk (Whole so_far) (steady v) inside x us w → From so_far v inside z (cons t) us w
    back us w (next {ts = vs} (many {ts = ts} e all) walk) = inner ts _ all vs w walk

-- ---- the last part, with no comma behind it

-- whatever is read there is this one and the bracket
last_from : {v : Surroundings} {x y : Place} {t : Tree} → OnlyPart v x t y → Stuck (pun "}") x → Stuck (pun ",") y → (us : Forest) (w : Place) → Walk (Whole so_far) (steady v) inside x us w → From so_far v closing y (part (list (part t none))) us w
last_from {v} {x} {y} {t} o c n us w (next {ts = vs} (many {ts = ts} e all) walk) = inner ts _ all vs w walk
  where
    inner : (ts : Forest) (p : Place) → Items (Whole so_far) v Commas (PatProp Binds) x ts p → (us : Forest) (w : Place) → Walk (Whole so_far) (steady v) closing p us w → From so_far v closing y (part (list (part t none))) (part (list ts) us) w
    inner ts p (nil f) us w walk = absurd (stuck_not c (closing_found walk))
    inner ts p (last {y = y'} {t = t'} r e f) us w walk =
        let s = o.alone t' y' (before_close e (closing_found walk)) r in
        let there : y ≡ p = sym (nothing_trails y n) ∙ (ap (forth TrailingComma) s.1 ∙ e) in
        record { parts = us; is = λ i. part (list (part (s.0 i) none)) us; walk = subst (λ p. Walk (Whole so_far) (steady v) closing p us w) (sym there) walk }
    inner ts p (more {y = y'} {z = z'} {t = t'} m r e all) us w walk =
        let s = o.alone t' y' (before_comma e (whole_items_found of_so_far all)) r in
        absurd (stuck_not n (subst (λ q. IsTrue (is_found (forth (pun ",") q))) (sym s.1) (found_at e (whole_items_found of_so_far all))))

turn_end : {v : Surroundings} {x y : Place} {t : Tree} → OnlyPart v x t y → Stuck (pun "}") x → Stuck (pun ",") y → IsTrue (is_found (forth (pun "}") y)) → Turn so_far v inside closing x y (part (list (part t none)))
turn_end {y = y} {t = t} o c n f = record { to = λ ts w walk. next (many refl (last (whole_before o (close_ends y f)) (nothing_trails y n) (end_found of_so_far o.reads))) walk; from = last_from o c n; rises = part_up (list (part t none)) }

-- ---- where nothing more stands

turn_shut : {v : Surroundings} {x z : Place} → Moves (pun "}") x z → Turn so_far v inside closing x x (part (list none))
turn_shut {v} {x} {z} m = record { to = λ ts w walk. next (many refl (nil (found_first (pun "}" ∷ []) x there))) walk; from = back; rises = part_up (list none) }
  where
    there : IsTrue (is_found (forth (pun "}") x))
    there = found_at (sym m.is) m.found

    inner : (ts : Forest) (p : Place) → Items (Whole so_far) v Commas (PatProp Binds) x ts p → (us : Forest) (w : Place) → Walk (Whole so_far) (steady v) closing p us w → From so_far v closing x (part (list none)) (part (list ts) us) w
    inner ts p (nil f) us w walk = record { parts = us; is = refl; walk = walk }
    inner ts p (last r e f) us w walk = absurd (unmarked (codes "}") refl refl there r)
    inner ts p (more n r e all) us w walk = absurd (unmarked (codes "}") refl refl there r)

    back : (us : Forest) (w : Place) → Walk (Whole so_far) (steady v) inside x us w → From so_far v closing x (part (list none)) us w
    back us w (next {ts = vs} (many {ts = ts} e all) walk) = inner ts _ all vs w walk

both_none : (ts : Forest) → both ts none ≡ ts
both_none none = refl
both_none (part t ts) = ap (part t) (both_none ts)

-- ---- the steps of the loop

pub shut : {v : Surroundings} {x y z : Place} (ts : Forest) → Turn so_far v inside inside x y (prepend ts) → Moves (pun "}") y z → OnlyRow so_far v inside x (part (list ts) none) z
shut {v} {x} {z = z} ts so m = subst (λ us. OnlyRow so_far v inside x (part (list us) none) z) (both_none ts) (turn_only so (turn_only (turn_shut m) (closed m)))

pub none_more : {v : Surroundings} {x y y' : Place} {o : Fault} (ts : Forest) → Turn so_far v inside inside x y (prepend ts) → Missed (pun "}") y y' → NoPart v y' o → NoRow so_far v inside x o
none_more {v} {y = y} {o = o} ts so m n = turn_none so (record { no = back })
  where
    here : NoPart v y o
    here = subst (λ w. NoPart v w o) (sym m.same) n

    inner : (ts : Forest) (p : Place) → Items (Whole so_far) v Commas (PatProp Binds) y ts p → (us : Forest) (w : Place) → Walk (Whole so_far) (steady v) closing p us w → Shallow o (deepest ts) → Shallow o (deepest us) → ⊥
    inner ts p (nil f) us w walk h q' = stuck_not m.stuck (closing_found walk)
    inner ts p (last {y = y'} {t = t'} r e f) us w walk h q' = here.no t' y' (before_close e (closing_found walk)) r (shallow_head o t' none h)
    inner ts p (more {y = y'} {t = t'} {u = u'} {us = vs'} k r e all) us w walk h q' = here.no t' y' (before_comma e (whole_items_found of_so_far all)) r (shallow_head o t' (part u' vs') h)

    back : (us : Forest) (w : Place) → Walk (Whole so_far) (steady v) inside y us w → Shallow o (deepest us) → ⊥
    back us w (next {ts = vs} (many {ts = ts} e all) walk) s = inner ts _ all vs w walk (shallow_first o (one (list ts)) vs s) (shallow_rest o (one (list ts)) vs s)

part_at : {v : Surroundings} {y y' z : Place} {t : Tree} → Missed (pun "}") y y' → OnlyPart v y' t z → OnlyPart v y t z
part_at {v} {z = z} {t} n o = subst (λ p. OnlyPart v p t z) (sym n.same) o

pub part_more : {v : Surroundings} {x y y' z w : Place} {t : Tree} (ts us : Forest) → Turn so_far v inside inside x y (prepend ts) → Missed (pun "}") y y' → OnlyPart v y' t z → Moves (pun ",") z w → us ≡ both ts (part t none) → Turn so_far v inside inside x w (prepend us)
part_more {t = t} ts us so n o m e = turn_as (λ vs. prepend_cons ts t vs ∙ (λ i. prepend (sym e i) vs)) (turn_both so (turn_part (part_at n o) n.stuck m))

pub shut_behind : {v : Surroundings} {x y y' z z' w : Place} {t : Tree} (ts us : Forest) → Turn so_far v inside inside x y (prepend ts) → Missed (pun "}") y y' → OnlyPart v y' t z → Missed (pun ",") z z' → Only so_far v (Fixed (pun "}")) z' nothing w → us ≡ both ts (part t none) → OnlyRow so_far v inside x (part (list us) none) w
shut_behind {v} {x} {z = z} {z'} {w} {t} ts us so n o m k e =
    subst (λ vs. OnlyRow so_far v inside x (part (list vs) none) w) (sym e)
    (turn_only so (turn_only (turn_end (part_at n o) n.stuck m.stuck (at here.past)) (ended_sign here)))
  where
    here : Only so_far v (Fixed (pun "}")) z nothing w
    here = subst (λ p. Only so_far v (Fixed (pun "}")) p nothing w) (sym m.same) k

    at : Past (Whole so_far) v (Fixed (pun "}")) z nothing w → IsTrue (is_found (forth (pun "}") z))
    at (sign e f) = found_at e f

pub unshut : {v : Surroundings} {x y y' z z' : Place} {t : Tree} {e : Fault} (ts : Forest) → Turn so_far v inside inside x y (prepend ts) → Missed (pun "}") y y' → OnlyPart v y' t z → Missed (pun ",") z z' → Barred so_far v (Fixed (pun "}")) z' e → NoRow so_far v inside x e
unshut {v} {y = y} {z = z} {t = t} {e = e} ts so n o m b = turn_none so (record { no = λ us w walk s. let f = last_from (part_at n o) n.stuck m.stuck us w walk in here.no f.parts w f.walk (shallow_behind e (list (part t none)) f.parts us f.is s) })
  where
    here : NoRow so_far v closing z e
    here = bar (subst (λ p. Barred so_far v (Fixed (pun "}")) p e) (sym m.same) b)
