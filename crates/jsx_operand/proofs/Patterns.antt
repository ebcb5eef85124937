-- What stands where names are bound: a name, or a pattern in brackets. The three are told apart by their first token, and none of them goes on.
use Rattle.std.proofs.Common.{◌≡◌, Bool, List, true, false, not, refl, sym, ◌∙◌, ap, subst, arith}
use Rattle.std.specs.Prelude.{IsTrue, codes}
use Rattle.jsx_base.specs.Token.{Text, Operator, Punctuator, IdentifierName, same}
use Rattle.jsx_tree.specs.Signs.{Sign, Tok}
use Rattle.jsx_tree.specs.Kinds.{ArrayPat, Binds, Kind, ObjectPat, function, Tree, leaf, node, list, Forest, Role, ShorthandInit}
use Rattle.jsx_tree.specs.Nonterminals.{BindingIdent, Pat, leaf_in, Nonterminal}
use Rattle.jsx_tree.specs.Grammar.{Part, pun}
use Rattle.jsx_tree.specs.Form.{admits, is_last, is_leaf, fits_below}
use Rattle.jsx_tree.specs.Reading.{Place, Lost, forth}
use Rattle.jsx_tree.specs.StaticRules.{Surroundings, is_word, open_in}
use Rattle.jsx_tree.specs.Walk.{is_found, Given, one, Past, sign, tree, many, Piece, Walk, done, next, around, steady, tail}
use Rattle.jsx_tree.specs.Language.{Whole}
use Rattle.jsx_tree.specs.Answers.{Moves, Missed, Stuck, Only, Barred, NoRow, Built}
use Rattle.jsx_tree.specs.Faults.{Fault, Shallow, part_depth, given_depth, outer, Below}
use Rattle.jsx_tree.proofs.Tokens.{and_both, and_left, and_right}
use Rattle.jsx_tree.proofs.Apart.{never_both}
use Rattle.jsx_tree.proofs.Rows.Bridge.{found_at}
use Rattle.jsx_tree.proofs.Rows.Stopping.{never_stops}
use Rattle.jsx_tree.proofs.Rows.Guarded.{whole_walk, loosen, to_grammar}
use Rattle.jsx_tree.proofs.Rows.Bodies.{plain as plain_row}
use Rattle.jsx_tree.proofs.Rows.Placing.{free_around, moved, node_shallow}
use Rattle.jsx_tree.proofs.Rows.Firsts.{kind_home}
use Rattle.jsx_tree.proofs.Rows.Turns.{whole_of}
use Rattle.jsx_tree.proofs.Depth.Shallow.{below_shallow}
use Rattle.jsx_tree.proofs.Depth.Nodes.{counts_as, depth_told, nested_up}
use Rattle.jsx_operand.specs.Patterns.{is_compound, is_rest}
use Rattle.jsx_operand.specs.SoFar.{Staged, so_far}
use Rattle.jsx_token.specs.Growths.{settled}
use Rattle.jsx_token.specs.Marks.{row_so_far}
use Rattle.jsx_operand.proofs.OfSoFar.{of_so_far}
use Rattle.jsx_operand.proofs.Standing.{standing}
use Rattle.jsx_operand.proofs.Homes.{IsName, Taken, taken_by, home_of, no_list, bindings, leaf_one}
use Rattle.jsx_operand.proofs.Values.{leaf_full, leaf_to, led_sign, settled_token}
use Rattle.jsx_operand.proofs.Climbing.{signed_built, signed_none}
use Rattle.jsx_operand.proofs.Keys.{mark_none}

stuck_not : {s : Sign} {x : Place} → Stuck s x → IsTrue (is_found (forth s x)) → ⊥
stuck_not k f = let bad : IsTrue (is_found Lost) = subst (λ p. IsTrue (is_found p)) k.is f in cc

abbrev pub array_pattern_row : List Piece
array_pattern_row = row_so_far (function (ArrayPat Binds))

abbrev pub object_pattern_row : List Piece
object_pattern_row = row_so_far (function (ObjectPat Binds))

-- ---- what stands there

pub data AtPattern : Tree → Type 0 where
  named : {t : Text} → AtPattern (leaf IdentifierName t)
  array : {ts : Forest} → AtPattern (node (function (ArrayPat Binds)) ts)
  object : {ts : Forest} → AtPattern (node (function (ObjectPat Binds)) ts)

abbrev is_pattern : Kind → Bool
is_pattern (function (ArrayPat Binds)) = true
is_pattern (function (ObjectPat Binds)) = true
is_pattern k = false

pattern_is : (k : Kind) (ts : Forest) → is_pattern k ≡ true → AtPattern (node k ts)
pattern_is (function (ArrayPat Binds)) ts h = array
pattern_is (function (ObjectPat Binds)) ts h = object
pattern_is _ ts h = cc

pattern_kind : (k : Kind) (ts : Forest) → Taken k → admits (Pat Binds) (node k ts) ≡ true → AtPattern (node k ts)
pattern_kind k ts t h = pattern_is k ts (standing (Pat Binds) is_pattern refl k t (kind_home (Pat Binds) k ts h))

pub at_pattern : {v : Surroundings} {x y : Place} (t : Tree) → Staged v false (Pat Binds) x t y → AtPattern t
at_pattern (leaf IdentifierName t) r = named
at_pattern (leaf _ t) r = let bad = r.staged in cc
at_pattern (node k ts) r = pattern_kind k ts (taken_by r) (home_of r)
at_pattern (list ts) r = absurd (no_list r)

-- it stands there as a whole
pub pattern_whole : {v : Surroundings} {x y : Place} {t : Tree} → Staged v false (Pat Binds) x t y → Whole so_far v false (Pat Binds) x t y
pattern_whole {y = y} r = record { reads = r; ends_there = of_so_far.ends_there (Pat Binds) y (never_stops (Pat Binds) y refl) }

-- ---- with what it begins

array_led : {v : Surroundings} {x z : Place} {ts : Forest} → Staged v false (Pat Binds) x (node (function (ArrayPat Binds)) ts) z → IsTrue (is_found (forth (pun "[") x))
array_led r = led_sign array_pattern_row refl (of_so_far.from_node (function (ArrayPat Binds)) r).walk

object_led : {v : Surroundings} {x z : Place} {ts : Forest} → Staged v false (Pat Binds) x (node (function (ObjectPat Binds)) ts) z → IsTrue (is_found (forth (pun "{") x))
object_led r = led_sign object_pattern_row refl (of_so_far.from_node (function (ObjectPat Binds)) r).walk

name_marked : {v : Surroundings} {x z : Place} {t : Text} (d : Text) → Staged v false (Pat Binds) x (leaf IdentifierName t) z → IsTrue (is_found (forth (Tok Operator Punctuator d) x)) → ⊥
name_marked {x = x} {t = t} d r f = mark_none IsName t d x refl (found_at r.reads.scans r.reads.found) f

-- but for the two brackets no mark stands where one does
pub pattern_unmarked : {v : Surroundings} {x z : Place} (t : Tree) (d : Text) → same (codes "[") d ≡ false → same (codes "{") d ≡ false → Staged v false (Pat Binds) x t z → IsTrue (is_found (forth (Tok Operator Punctuator d) x)) → ⊥
pattern_unmarked {v} {x} {z} t d m n r f = at (at_pattern t r) r
  where
    at : {u : Tree} → AtPattern u → Staged v false (Pat Binds) x u z → ⊥
    at named q = name_marked d q f
    at array q = never_both Punctuator Punctuator (codes "[") d x m (array_led q) f
    at object q = never_both Punctuator Punctuator (codes "{") d x n (object_led q) f

-- ---- with what it ends

array_settled : {v : Surroundings} {x y : Place} {us ts : Forest} → Walk Staged (around v us) array_pattern_row x ts y → settled y ≡ true
array_settled (next d (next q (next {x = p} (sign e f) (done g)))) = settled_token Operator Punctuator (codes "]") p refl e f

object_settled : {v : Surroundings} {x y : Place} {us ts : Forest} → Walk Staged (around v us) object_pattern_row x ts y → settled y ≡ true
object_settled (next d (next q (next {x = p} (sign e f) (done g)))) = settled_token Operator Punctuator (codes "}") p refl e f

pub pattern_settled : {v : Surroundings} {x y : Place} (t : Tree) → Staged v false (Pat Binds) x t y → settled y ≡ true
pattern_settled {v} {x} {y} t r = at (at_pattern t r) r
  where
    at : {u : Tree} → AtPattern u → Staged v false (Pat Binds) x u y → settled y ≡ true
    at (named {t = s}) q = settled_token Operator IdentifierName s x (leaf_full IsName s (and_right (leaf_in (Pat Binds) IdentifierName s) _ q.reads.is)) q.reads.scans q.reads.found
    at (array {ts}) q = array_settled {us = ts} (of_so_far.from_node (function (ArrayPat Binds)) q).walk
    at (object {ts}) q = object_settled {us = ts} (of_so_far.from_node (function (ObjectPat Binds)) q).walk

-- ---- what its tree is

pub pattern_word : {v : Surroundings} {x y : Place} (t : Tree) → Staged v false (Pat Binds) x t y → is_word t ≡ not (is_compound t)
pattern_word {v} {x} {y} t r = at (at_pattern t r)
  where
    at : {u : Tree} → AtPattern u → is_word u ≡ not (is_compound u)
    at named = refl
    at array = refl
    at object = refl

-- neither the last of a list by itself, nor a rest
pub pattern_early : {v : Surroundings} {x y : Place} (t : Tree) → Staged v false (Pat Binds) x t y → is_last t ≡ false
pattern_early {v} {x} {y} t r = at (at_pattern t r)
  where
    at : {u : Tree} → AtPattern u → is_last u ≡ false
    at named = refl
    at array = refl
    at object = refl

pub unresting : {v : Surroundings} {x y : Place} (t : Tree) → Staged v false (Pat Binds) x t y → is_rest t ≡ false
unresting {v} {x} {y} t r = at (at_pattern t r)
  where
    at : {u : Tree} → AtPattern u → is_rest u ≡ false
    at named = refl
    at array = refl
    at object = refl

-- brackets enclose all of it
pub pattern_shut : {v : Surroundings} {x y : Place} (t : Tree) → Staged v false (Pat Binds) x t y → open_in t ≡ false
pattern_shut {v} {x} {y} t r = at (at_pattern t r) r
  where
    array_shut : {us ts : Forest} {z : Place} → Walk Staged (around v us) array_pattern_row x ts z → open_in (node (function (ArrayPat Binds)) ts) ≡ false
    array_shut (next (sign e f) (next (many n all) (next (sign e' f') (done g)))) = refl

    object_shut : {us ts : Forest} {z : Place} → Walk Staged (around v us) object_pattern_row x ts z → open_in (node (function (ObjectPat Binds)) ts) ≡ false
    object_shut (next (sign e f) (next (many n all) (next (sign e' f') (done g)))) = refl

    at : {u : Tree} → AtPattern u → Staged v false (Pat Binds) x u y → open_in u ≡ false
    at named q = refl
    at (array {ts}) q = array_shut {us = ts} (of_so_far.from_node (function (ArrayPat Binds)) q).walk
    at (object {ts}) q = object_shut {us = ts} (of_so_far.from_node (function (ObjectPat Binds)) q).walk

-- ---- a name

pub name_pattern : {v : Surroundings} {x y : Place} {t : Text} → Staged v false BindingIdent x (leaf IdentifierName t) y → Staged v false (Pat Binds) x (leaf IdentifierName t) y
name_pattern {t = t} r = leaf_to (Pat Binds) IsName (and_left (leaf_in BindingIdent IdentifierName t) (is_leaf IdentifierName t) r.reads.is) refl r

pub pattern_name : {v : Surroundings} {x y : Place} {t : Text} → Staged v false (Pat Binds) x (leaf IdentifierName t) y → Whole so_far v false BindingIdent x (leaf IdentifierName t) y
pattern_name {y = y} {t} r = record { reads = leaf_to BindingIdent IsName (and_left (leaf_in (Pat Binds) IdentifierName t) (is_leaf IdentifierName t) r.reads.is) refl r; ends_there = of_so_far.ends_there BindingIdent y (never_stops BindingIdent y refl) }

bound_tree : {v : Surroundings} {x y : Place} (t : Tree) → Staged v false BindingIdent x t y → Staged v false (Pat Binds) x t y
bound_tree (leaf IdentifierName t) r = name_pattern r
bound_tree (leaf _ t) r = let bad = r.staged in cc
bound_tree (node k ts) r = absurd (bindings.node k ts (taken_by r) (home_of r))
bound_tree (list ts) r = absurd (no_list r)

pub name_only : {v : Surroundings} {x x' x'' y : Place} {t u : Tree} → Missed (pun "[") x x' → Missed (pun "{") x' x'' → Only so_far v (Part BindingIdent) x'' (one t) y → u ≡ t → Only so_far v (Part (Pat Binds)) x (one u) y
name_only {v} {x} {y = y} {t} {u} m n given is = record { past = tree (pattern_whole (subst (λ w. Staged v false (Pat Binds) x w y) (sym is) (bound_tree t (whole_of o.past).reads))); alone = at }
  where
    o : Only so_far v (Part BindingIdent) x (one t) y
    o = subst (λ p. Only so_far v (Part BindingIdent) p (one t) y) (sym (m.same ∙ n.same)) given

    brace : Stuck (pun "{") x
    brace = subst (Stuck (pun "{")) (sym m.same) n.stuck

    here : {w : Tree} {z : Place} → AtPattern w → Staged v false (Pat Binds) x w z → (one u ≡ one w) × (y ≡ z)
    here {z = z} (named {t = s}) q = let e = o.alone (one (leaf IdentifierName s)) z (tree (pattern_name q)) in (ap one is ∙ e.0, e.1)
    here array q = absurd (stuck_not m.stuck (array_led q))
    here object q = absurd (stuck_not brace (object_led q))

    at : (h : Given) (z : Place) → Past (Whole so_far) v (Part (Pat Binds)) x h z → (one u ≡ h) × (y ≡ z)
    at h z (tree {t = w} q) = here (at_pattern w q.reads) q.reads

pub no_name_pattern : {v : Surroundings} {x x' x'' : Place} {e : Fault} → Missed (pun "[") x x' → Missed (pun "{") x' x'' → Barred so_far v (Part BindingIdent) x'' e → Barred so_far v (Part (Pat Binds)) x e
no_name_pattern {v} {x} {e = e} m n given = record { no = at }
  where
    b : Barred so_far v (Part BindingIdent) x e
    b = subst (λ w. Barred so_far v (Part BindingIdent) w e) (sym (m.same ∙ n.same)) given

    brace : Stuck (pun "{") x
    brace = subst (Stuck (pun "{")) (sym m.same) n.stuck

    here : {w : Tree} {z : Place} → AtPattern w → Staged v false (Pat Binds) x w z → Shallow e (part_depth w) → ⊥
    here {z = z} (named {t = s}) q a = b.no (one (leaf IdentifierName s)) z (tree (pattern_name q)) a
    here array q a = stuck_not m.stuck (array_led q)
    here object q a = stuck_not brace (object_led q)

    at : (h : Given) (z : Place) → Past (Whole so_far) v (Part (Pat Binds)) x h z → Shallow e (given_depth h) → ⊥
    at h z (tree {t = w} q) s = here (at_pattern w q.reads) q.reads s

-- ---- a pattern in brackets

array_whole : {v : Surroundings} {x z : Place} {ts : Forest} → Staged v false (Pat Binds) x (node (function (ArrayPat Binds)) ts) z → Walk (Whole so_far) (steady v) array_pattern_row x ts z
array_whole {v} {z = z} {ts} r = moved (λ a h. free_around a ts v h) refl (whole_walk of_so_far (Pat Binds) array_pattern_row refl (of_so_far.ends_there (Pat Binds) z (never_stops (Pat Binds) z refl)) (of_so_far.from_node (function (ArrayPat Binds)) r).walk)

object_whole : {v : Surroundings} {x z : Place} {ts : Forest} → Staged v false (Pat Binds) x (node (function (ObjectPat Binds)) ts) z → Walk (Whole so_far) (steady v) object_pattern_row x ts z
object_whole {v} {z = z} {ts} r = moved (λ a h. free_around a ts v h) refl (whole_walk of_so_far (Pat Binds) object_pattern_row refl (of_so_far.ends_there (Pat Binds) z (never_stops (Pat Binds) z refl)) (of_so_far.from_node (function (ObjectPat Binds)) r).walk)

pub array_only : {v : Surroundings} {x a y : Place} {t : Tree} → Moves (pun "[") x a → Built so_far v (tail array_pattern_row) (function (ArrayPat Binds)) (λ ts. ts) t a y → Only so_far v (Part (Pat Binds)) x (one t) y
array_only {v} {x} {a} {y} {t} m b = record {
  past = tree (pattern_whole (subst (λ u. Staged v false (Pat Binds) x u y) (sym w.is) (of_so_far.to_node (function (ArrayPat Binds)) refl (record { walk = loosen (moved (λ c h. sym (free_around c w.parts v h)) refl w.row.walk); keeps = and_both _ _ (plain_row array_pattern_row refl (to_grammar of_so_far w.row.walk)) refl }))));
  alone = at;
}
  where
    w : Built so_far v array_pattern_row (function (ArrayPat Binds)) (λ ts. ts) t x y
    w = signed_built array_pattern_row refl m b

    there : IsTrue (is_found (forth (pun "[") x))
    there = found_at (sym m.is) m.found

    here : {u : Tree} {z : Place} → AtPattern u → Staged v false (Pat Binds) x u z → (one t ≡ one u) × (y ≡ z)
    here named q = absurd (name_marked (codes "[") q there)
    here {z = z} (array {ts}) q = let e = w.row.alone ts z (array_whole q) in (ap one (w.is ∙ ap (node (function (ArrayPat Binds))) e.0), e.1)
    here object q = absurd (never_both Punctuator Punctuator (codes "{") (codes "[") x refl (object_led q) there)

    at : (h : Given) (z : Place) → Past (Whole so_far) v (Part (Pat Binds)) x h z → (one t ≡ h) × (y ≡ z)
    at h z (tree {t = u} q) = here (at_pattern u q.reads) q.reads

pub no_array : {v : Surroundings} {x a : Place} {e : Fault} → Moves (pun "[") x a → NoRow so_far v (tail array_pattern_row) a e → Barred so_far v (Part (Pat Binds)) x (outer e)
no_array {v} {x} {e = e} m n = record { no = at }
  where
    there : IsTrue (is_found (forth (pun "[") x))
    there = found_at (sym m.is) m.found

    here : {u : Tree} {z : Place} → AtPattern u → Staged v false (Pat Binds) x u z → Shallow (outer e) (part_depth u) → ⊥
    here named q a = name_marked (codes "[") q there
    here {z = z} (array {ts}) q a = (signed_none array_pattern_row refl m n).no ts z (array_whole q) (node_shallow e true refl of_so_far q a)
    here object q a = never_both Punctuator Punctuator (codes "{") (codes "[") x refl (object_led q) there

    at : (h : Given) (z : Place) → Past (Whole so_far) v (Part (Pat Binds)) x h z → Shallow (outer e) (given_depth h) → ⊥
    at h z (tree {t = u} q) s = here (at_pattern u q.reads) q.reads s

-- a node that counts, and one that counts twice
pub deep_counted : {v : Surroundings} {c : Nonterminal} {k : Kind} {x z : Place} {ts : Forest} (e : Fault) → counts_as true k ≡ true → Staged v false c x (node k ts) z → Below 0 e → Shallow e (part_depth (node k ts)) → ⊥
deep_counted {c = c} {k} {ts = ts} e i q b s =
    let d = depth_told true c k ts i (and_right (admits c (node k ts)) (fits_below c (node k ts)) (of_so_far.is_read q).is) in
    let w = below_shallow 0 e (part_depth (node k ts)) b s in
    omega (arith, d, w)

pub deep_nested : {v : Surroundings} {c : Nonterminal} {r : Role} {x z : Place} {ts : Forest} (e : Fault) → Staged v false c x (node (function (ShorthandInit r)) ts) z → Below 1 e → Shallow e (part_depth (node (function (ShorthandInit r)) ts)) → ⊥
deep_nested {c = c} {r} {ts = ts} e q b s =
    let d = nested_up r ts (and_right (admits c (node (function (ShorthandInit r)) ts)) (fits_below c (node (function (ShorthandInit r)) ts)) (of_so_far.is_read q).is) in
    let w = below_shallow 1 e (part_depth (node (function (ShorthandInit r)) ts)) b s in
    omega (arith, d, w)

-- whatever stands there counts
pub deep_pattern : {v : Surroundings} {x : Place} {e : Fault} → Below 0 e → Barred so_far v (Part (Pat Binds)) x e
deep_pattern {v} {x} {e} b = record { no = at }
  where
    here : {u : Tree} {z : Place} → AtPattern u → Staged v false (Pat Binds) x u z → Shallow e (part_depth u) → ⊥
    here (named {t}) q s = let w = below_shallow 0 e (part_depth (leaf IdentifierName t)) b s in omega (arith, leaf_one IdentifierName t refl, w)
    here array q s = deep_counted e refl q b s
    here object q s = deep_counted e refl q b s

    at : (h : Given) (z : Place) → Past (Whole so_far) v (Part (Pat Binds)) x h z → Shallow e (given_depth h) → ⊥
    at h z (tree {t = u} q) s = here (at_pattern u q.reads) q.reads s

-- the same of an object's, behind a bracket that wasn't there
pub object_only : {v : Surroundings} {x x' a y : Place} {t : Tree} → Missed (pun "[") x x' → Moves (pun "{") x' a → Built so_far v (tail object_pattern_row) (function (ObjectPat Binds)) (λ ts. ts) t a y → Only so_far v (Part (Pat Binds)) x (one t) y
object_only {v} {x} {x'} {a} {y} {t} k m b = record {
  past = tree (pattern_whole (subst (λ u. Staged v false (Pat Binds) x u y) (sym w.is) (of_so_far.to_node (function (ObjectPat Binds)) refl (record { walk = loosen (moved (λ c h. sym (free_around c w.parts v h)) refl w.row.walk); keeps = and_both _ _ (plain_row object_pattern_row refl (to_grammar of_so_far w.row.walk)) refl }))));
  alone = at;
}
  where
    n : Moves (pun "{") x a
    n = subst (λ p. Moves (pun "{") p a) (sym k.same) m

    w : Built so_far v object_pattern_row (function (ObjectPat Binds)) (λ ts. ts) t x y
    w = signed_built object_pattern_row refl n b

    there : IsTrue (is_found (forth (pun "{") x))
    there = found_at (sym n.is) n.found

    here : {u : Tree} {z : Place} → AtPattern u → Staged v false (Pat Binds) x u z → (one t ≡ one u) × (y ≡ z)
    here named q = absurd (name_marked (codes "{") q there)
    here array q = absurd (stuck_not k.stuck (array_led q))
    here {z = z} (object {ts}) q = let e = w.row.alone ts z (object_whole q) in (ap one (w.is ∙ ap (node (function (ObjectPat Binds))) e.0), e.1)

    at : (h : Given) (z : Place) → Past (Whole so_far) v (Part (Pat Binds)) x h z → (one t ≡ h) × (y ≡ z)
    at h z (tree {t = u} q) = here (at_pattern u q.reads) q.reads

pub no_object : {v : Surroundings} {x x' a : Place} {e : Fault} → Missed (pun "[") x x' → Moves (pun "{") x' a → NoRow so_far v (tail object_pattern_row) a e → Barred so_far v (Part (Pat Binds)) x (outer e)
no_object {v} {x} {x'} {a} {e = e} k m r = record { no = at }
  where
    n : Moves (pun "{") x a
    n = subst (λ p. Moves (pun "{") p a) (sym k.same) m

    there : IsTrue (is_found (forth (pun "{") x))
    there = found_at (sym n.is) n.found

    here : {u : Tree} {z : Place} → AtPattern u → Staged v false (Pat Binds) x u z → Shallow (outer e) (part_depth u) → ⊥
    here named q s = name_marked (codes "{") q there
    here array q s = stuck_not k.stuck (array_led q)
    here {z = z} (object {ts}) q s = (signed_none object_pattern_row refl n r).no ts z (object_whole q) (node_shallow e true refl of_so_far q s)

    at : (h : Given) (z : Place) → Past (Whole so_far) v (Part (Pat Binds)) x h z → Shallow (outer e) (given_depth h) → ⊥
    at h z (tree {t = u} q) s = here (at_pattern u q.reads) q.reads s
