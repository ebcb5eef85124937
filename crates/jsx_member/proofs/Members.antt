-- What stands in an object as a literal has it, member by member (ECMA-262 section 13.2.5). A name alone and the key of a property or a method may be read from one place, and so may `get` and `set` as words and as keys; so it is what stands behind that tells.
use Rattle.std.proofs.Common.{◌≡◌, Bool, List, [], ◌∷◌, true, false, not, refl, sym, ◌∙◌, ap, subst, arith}
use Rattle.std.specs.Prelude.{IsTrue, codes, ◌||◌}
use Rattle.jsx_base.specs.Token.{Text, Operator, Punctuator, IdentifierName, among, same}
use Rattle.jsx_tree.specs.Signs.{Sign, Tok}
use Rattle.jsx_tree.specs.Kinds.{Getter, Holder, InClass, InObject, Kind, Method, Property, Setter, Shorthand, Spread, Static, expression, function, Tree, leaf, node, list, Forest, none, part}
use Rattle.jsx_tree.specs.Nonterminals.{Expr, Ident, Key, ObjectMember, is_ident, leaf_in, reserved}
use Rattle.jsx_tree.specs.Grammar.{Context, Fixed, Part, pun}
use Rattle.jsx_tree.specs.Grammar as symbol
use Rattle.jsx_tree.specs.Form.{admits, is_leaf}
use Rattle.jsx_tree.specs.Reading.{Place, Lost, At, forth}
use Rattle.jsx_tree.specs.StaticRules.{Surroundings}
use Rattle.jsx_tree.specs.Walk.{is_found, one, piece, sign, tree, Walk, done, next, around, steady, tail}
use Rattle.jsx_tree.specs.Language.{Whole}
use Rattle.jsx_tree.specs.Answers.{Moves, Stuck, Only, Barred, NoRow, Built}
use Rattle.jsx_tree.specs.Faults.{Fault, Deep, Shallow, Below, outer, inner, part_depth, deepest, given_depth}
use Rattle.jsx_tree.proofs.Tokens.{and_left, and_both}
use Rattle.jsx_tree.proofs.Apart.{clash, never_both}
use Rattle.jsx_tree.proofs.Rows.Bridge.{found_at}
use Rattle.jsx_tree.proofs.Rows.Stopping.{is_not, never_stops, or_cases}
use Rattle.jsx_tree.proofs.Rows.Guarded.{whole_walk, loosen, to_grammar}
use Rattle.jsx_tree.proofs.Rows.Bodies.{plain as plain_row}
use Rattle.jsx_tree.proofs.Rows.Placing.{free_around, moved, node_shallow}
use Rattle.jsx_tree.proofs.Depth.Nodes.{counts_as}
use Rattle.jsx_tree.proofs.Depth.Shallow.{below_shallow, shallow_first, shallow_head, shallow_outer}
use Rattle.jsx_tree.proofs.Rows.Turns.{item_of}
use Rattle.jsx_operand.specs.SoFar.{Staged, so_far}
use Rattle.jsx_operand.specs.Members.{Closed, OnlyMember, NoMember, by_brace, by_comma}
use Rattle.jsx_token.specs.Here.{Here, place_of}
use Rattle.jsx_token.specs.Marks.{ends_so_far, row_so_far}
use Rattle.jsx_operand.proofs.OfSoFar.{of_so_far}
use Rattle.jsx_tree.proofs.Rows.Firsts.{kind_home}
use Rattle.jsx_function.proofs.Functions.{shallow_behind}
use Rattle.jsx_operand.proofs.Standing.{standing}
use Rattle.jsx_operand.proofs.Homes.{IsName, Taken, taken_by, home_of, no_list, idents, only_leaf}
use Rattle.jsx_operand.proofs.Values.{leaf_to}
use Rattle.jsx_operand.proofs.Climbing.{signed_built, signed_none}
use Rattle.jsx_operand.proofs.Keys.{key_unmarked, literal_key, mark_none}
use Rattle.jsx_operand.proofs.Patterns.{deep_counted}
use Rattle.jsx_member.proofs.Properties.{keyed_in_object}
use Rattle.jsx_member.specs.Covers.{IsBare}
use Rattle.jsx_function.specs.Methods.{IsPrefix, NoPrefix, NoneFromKey, NoneKeyed, OnlyFromKey, OnlyKeyed, behind_key, from_key}
use Rattle.jsx_member.proofs.Elements.{dots_led, spread_whole}
use Rattle.jsx_function.proofs.Keyed.{past, same_self}
use Rattle.jsx_function.proofs.Prefixes.{key_before}
use Rattle.jsx_function.proofs.Worded.{accessor_is, accessor_key, accessor_kind, accessor_row, accessor_sign, accessor_word, behind_word, is_accessor, one_accessor, unworded, word_there, worded_led}

stuck_not : {s : Sign} {x : Place} → Stuck s x → IsTrue (is_found (forth s x)) → ⊥
stuck_not k f = let bad : IsTrue (is_found Lost) = subst (λ p. IsTrue (is_found p)) k.is f in cc

lost_from : (x : Place) → (IsTrue (is_found x) → ⊥) → x ≡ Lost
lost_from Lost n = refl
lost_from (At q e text) n = absurd (n refl)

-- neither dots nor a word before a key
pub bare_by : {x y z : Here} {p : Place} → z ≡ y → y ≡ x → NoPrefix (symbol.key "get") (place_of x) → NoPrefix (symbol.key "set") (place_of y) → place_of x ≡ p → forth (pun "...") p ≡ Lost → IsBare (place_of z)
bare_by e f g s h d = record {
  dots = record { is = ap (λ k. forth (pun "...") (place_of k)) (e ∙ f) ∙ (ap (forth (pun "...")) h ∙ d) };
  getting = subst (λ k. NoPrefix (symbol.key "get") (place_of k)) (sym (e ∙ f)) g;
  setting = subst (λ k. NoPrefix (symbol.key "set") (place_of k)) (sym e) s;
}

bare_word : {x : Place} → IsBare x → (b : Bool) → NoPrefix (accessor_sign b) x
bare_word n true = n.getting
bare_word n false = n.setting

accessor_self : (h : Holder) (b : Bool) → is_accessor h b (accessor_kind h b) ≡ true
accessor_self h true = same_self h
accessor_self h false = same_self h

-- no mark stands where such a word does
pub word_marked : (x : Place) (b : Bool) (d : Text) → IsTrue (is_found (forth (accessor_sign b) x)) → IsTrue (is_found (forth (Tok Operator Punctuator d) x)) → ⊥
word_marked x b d f g = mark_none IsName (accessor_word b) d x refl f g

-- a row that begins with a key begins with no mark but its bracket
key_there : {V : List Context → Surroundings} {x z : Place} {ts : Forest} (k : Kind) (d : Text) → same (codes "[") d ≡ false → Walk (Whole so_far) V (from_key k) x ts z → IsTrue (is_found (forth (Tok Operator Punctuator d) x)) → ⊥
key_there k d n (next (tree q) w) f = key_unmarked d n q.reads f

-- ---- what stands there

pub data AtMember : Tree → Type 0 where
  keyed : {k : Kind} {ts : Forest} → keyed_in_object k ≡ true → AtMember (node k ts)
  short : {ts : Forest} → AtMember (node (expression Shorthand) ts)
  spreads : {ts : Forest} → AtMember (node (expression Spread) ts)
  worded : (b : Bool) {ts : Forest} → AtMember (node (accessor_kind InObject b) ts)

abbrev is_member : Kind → Bool
is_member (expression Property) = true
is_member (expression Shorthand) = true
is_member (expression Spread) = true
is_member (function (Method InObject)) = true
is_member (function (Getter InObject)) = true
is_member (function (Setter InObject)) = true
is_member k = false

member_is : (k : Kind) (ts : Forest) → is_member k ≡ true → AtMember (node k ts)
member_is (expression Property) ts h = keyed refl
member_is (expression Shorthand) ts h = short
member_is (expression Spread) ts h = spreads
member_is (function (Method InObject)) ts h = keyed refl
member_is (function (Getter InObject)) ts h = worded true
member_is (function (Setter InObject)) ts h = worded false
member_is _ ts h = cc

member_kind : (k : Kind) (ts : Forest) → Taken k → admits ObjectMember (node k ts) ≡ true → AtMember (node k ts)
member_kind k ts t h = member_is k ts (standing ObjectMember is_member refl k t (kind_home ObjectMember k ts h))

at_member : {v : Surroundings} {x y : Place} (t : Tree) → Staged v false ObjectMember x t y → AtMember t
at_member (leaf k t) r = let bad = r.staged in cc
at_member (node k ts) r = member_kind k ts (taken_by r) (home_of r)
at_member (list ts) r = absurd (no_list r)

-- ---- a property or a method, along its row

pub member_ends : (y : Place) → ends_so_far ObjectMember y ≡ ends_so_far (Expr 1) y
member_ends Lost = refl
member_ends (At q e text) = refl

keyed_walk : {v : Surroundings} {x z : Place} {ts : Forest} (k : Kind) → keyed_in_object k ≡ true → Whole so_far v false ObjectMember x (node k ts) z → Walk (Whole so_far) (around v ts) (from_key k) x ts z
keyed_walk {z = z} (expression Property) e w = whole_walk of_so_far (Expr 1) (row_so_far (expression Property)) refl (sym (member_ends z) ∙ w.ends_there) (of_so_far.from_node (expression Property) w.reads).walk
keyed_walk (function (Method InObject)) e w = whole_walk of_so_far ObjectMember (row_so_far (function (Method InObject))) refl w.ends_there (of_so_far.from_node (function (Method InObject)) w.reads).walk
keyed_walk (function (Method InClass)) e w = cc
keyed_walk (function (Method Static)) e w = cc
keyed_walk _ e w = cc

keyed_row : (k : Kind) → keyed_in_object k ≡ true → row_so_far k ≡ from_key k
keyed_row (expression Property) e = refl
keyed_row (function (Method InObject)) e = refl
keyed_row (function (Method InClass)) e = cc
keyed_row (function (Method Static)) e = cc
keyed_row _ e = cc

keyed_home : (k : Kind) (ts : Forest) → keyed_in_object k ≡ true → admits ObjectMember (node k ts) ≡ true
keyed_home (expression Property) ts e = refl
keyed_home (function (Method InObject)) ts e = refl
keyed_home (function (Method InClass)) ts e = cc
keyed_home (function (Method Static)) ts e = cc
keyed_home _ ts e = cc

-- each of them counts
keyed_counts : (k : Kind) → keyed_in_object k ≡ true → counts_as true k ≡ true
keyed_counts (expression Property) e = refl
keyed_counts (function (Method InObject)) e = refl
keyed_counts (function (Method InClass)) e = cc
keyed_counts (function (Method Static)) e = cc
keyed_counts _ e = cc

no_keyed : {v : Surroundings} {x z : Place} {us ts : Forest} {e : Fault} (k : Kind) → Barred so_far v (Part Key) x e → Walk (Whole so_far) (around v us) (from_key k) x ts z → Shallow e (deepest ts) → ⊥
no_keyed {e = e} k b (next {g = g} {ts = ts} q w) s = b.no _ _ q (shallow_first e g ts s)

-- behind the key neither a comma nor the brace stands
pub shut_not : {x : Place} (d : Text) → same (codes ",") d ≡ false → same (codes "}") d ≡ false → Closed x → IsTrue (is_found (forth (Tok Operator Punctuator d) x)) → ⊥
shut_not {x} d n m (by_comma f) g = never_both Punctuator Punctuator (codes ",") d x n f g
shut_not {x} d n m (by_brace f) g = never_both Punctuator Punctuator (codes "}") d x m f g

-- a `:` stands there, or a `(`
pub goes_by : {V : List Context → Surroundings} {y z : Place} {ts : Forest} (k : Kind) → keyed_in_object k ≡ true → (IsTrue (is_found (forth (pun ":") y)) → ⊥) → (IsTrue (is_found (forth (pun "(") y)) → ⊥) → Walk (Whole so_far) V (behind_key k) y ts z → ⊥
goes_by (expression Property) e c o (next (sign g f) w) = c (found_at g f)
goes_by (function (Method InObject)) e c o (next (sign g f) w) = o (found_at g f)
goes_by (function (Method InClass)) e c o w = cc
goes_by (function (Method Static)) e c o w = cc
goes_by _ e c o w = cc

-- ---- one behind its word

accessor_home : (b : Bool) (ts : Forest) → admits ObjectMember (node (accessor_kind InObject b) ts) ≡ true
accessor_home true ts = refl
accessor_home false ts = refl

worded_walk : {v : Surroundings} {x z : Place} {ts : Forest} (b : Bool) → Whole so_far v false ObjectMember x (node (accessor_kind InObject b) ts) z → Walk (Whole so_far) (around v ts) (piece [] (Fixed (accessor_sign b)) ∷ from_key (accessor_kind InObject b)) x ts z
worded_walk true w = whole_walk of_so_far ObjectMember (row_so_far (function (Getter InObject))) refl w.ends_there (of_so_far.from_node (function (Getter InObject)) w.reads).walk
worded_walk false w = whole_walk of_so_far ObjectMember (row_so_far (function (Setter InObject))) refl w.ends_there (of_so_far.from_node (function (Setter InObject)) w.reads).walk

-- ---- a name alone

record Named (v : Surroundings) (x : Place) (ts : Forest) (z : Place) : Type 0 where
  text : Text
  is : ts ≡ part (leaf IdentifierName text) none
  reads : Staged v false Ident x (leaf IdentifierName text) z

named_by : {v : Surroundings} {x z : Place} {ts us : Forest} → Walk Staged (around v us) (row_so_far (expression Shorthand)) x ts z → Named v x ts z
named_by (next (tree {t = leaf IdentifierName t} q) (done f)) = record { text = t; is = refl; reads = q }
named_by (next (tree {t = leaf _ t} q) (done f)) = let bad = q.staged in cc
named_by (next (tree {t = node k us} q) (done f)) = absurd (idents.node k us (taken_by q) (home_of q))
named_by (next (tree {t = list us} q) (done f)) = absurd (no_list q)

name_of : {v : Surroundings} {x z : Place} {ts : Forest} → Staged v false ObjectMember x (node (expression Shorthand) ts) z → Named v x ts z
name_of {ts = ts} r = named_by {us = ts} (of_so_far.from_node (expression Shorthand) r).walk

-- is a key too
as_key : {v : Surroundings} {x z : Place} {t : Text} → Staged v false Ident x (leaf IdentifierName t) z → Whole so_far v false Key x (leaf IdentifierName t) z
as_key {z = z} r = record { reads = leaf_to Key IsName refl refl r; ends_there = of_so_far.ends_there Key z (never_stops Key z refl) }

name_marked : {v : Surroundings} {x z : Place} {ts : Forest} (d : Text) → Staged v false ObjectMember x (node (expression Shorthand) ts) z → IsTrue (is_found (forth (Tok Operator Punctuator d) x)) → ⊥
name_marked {x = x} d r f = let n = name_of r in mark_none IsName n.text d x refl (found_at n.reads.reads.scans n.reads.reads.found) f

-- where another mark stands, no member does
pub unmarked : {v : Surroundings} {x z : Place} {u : Tree} (d : Text) → same (codes "[") d ≡ false → same (codes "...") d ≡ false → IsTrue (is_found (forth (Tok Operator Punctuator d) x)) → Whole so_far v false ObjectMember x u z → ⊥
unmarked {v} {x} {z} {u} d n m f w = at (at_member u w.reads) w
  where
    at : {t : Tree} → AtMember t → Whole so_far v false ObjectMember x t z → ⊥
    at (keyed {k = k} e) q = key_there k d n (keyed_walk k e q) f
    at short q = name_marked d q.reads f
    at spreads q = never_both Punctuator Punctuator (codes "...") d x m (dots_led q.reads) f
    at (worded b) q = word_marked x b d (worded_led (worded_walk b q)) f

-- ---- a property or a method that was read

-- is what is read as one from its key on
same_keyed : {v : Surroundings} {x y z p : Place} {c u : Tree} {ts : Forest} (k : Kind) → keyed_in_object k ≡ true → Only so_far v (Part Key) x (one c) y → OnlyKeyed keyed_in_object v c u y z → Whole so_far v false ObjectMember x (node k ts) p → (u ≡ node k ts) × (z ≡ p)
same_keyed {v} {p = p} k e o d q =
    let r = past {k = k} o (keyed_walk k e q) in
    let s = d.alone k r.parts p e r.walk (subst (λ f. so_far.keeps k v f ≡ true) (sym r.is) (of_so_far.from_node k q.reads).keeps) in
    (sym s.0 ∙ ap (node k) r.is, sym s.1)

pub keyed_member : {v : Surroundings} {x y z : Place} {c u : Tree} → IsBare x → Only so_far v (Part Key) x (one c) y → OnlyKeyed keyed_in_object v c u y z → OnlyMember v x u z
keyed_member {v} {x} {y} {z} {c} {u} n o d = record {
  reads = subst (λ w. Staged v false ObjectMember x w z) (sym d.is) (of_so_far.to_node d.kind (keyed_home d.kind (part c d.parts) d.keyed) (record { walk = subst (λ ps. Walk Staged (around v (part c d.parts)) ps x (part c d.parts) z) (sym (keyed_row d.kind d.keyed)) (loosen (next o.past d.walk)); keeps = d.keeps }));
  alone = λ w p s q. at s (at_member w q.reads) q;
}
  where
    at : {w : Tree} {p : Place} → Closed p → AtMember w → Whole so_far v false ObjectMember x w p → (u ≡ w) × (z ≡ p)
    at s (keyed {k = k} e) q = same_keyed k e o d q
    at {p = p} s short q =
        let m = name_of q.reads in
        let here : Closed y = subst Closed (sym (o.alone (one (leaf IdentifierName m.text)) p (tree (as_key m.reads))).1) s in
        absurd (goes_by d.kind d.keyed (shut_not (codes ":") refl refl here) (shut_not (codes "(") refl refl here) d.walk)
    at s spreads q = absurd (stuck_not n.dots (dots_led q.reads))
    at s (worded b) q = absurd (unworded (accessor_kind InObject b) (bare_word n b) (worded_walk b q))

-- none that begins with the key, which is no name that may stand alone, or before `:` or `(`
pub no_keyed_member : {v : Surroundings} {x y : Place} {t : Tree} {fault : Fault} → IsBare x → Only so_far v (Part Key) x (one t) y → ((s : Text) → t ≡ leaf IdentifierName s → is_ident s ≡ true → Closed y → ⊥) → NoneKeyed keyed_in_object v t y fault → NoMember v x (outer fault)
no_keyed_member {v} {x} {y} {t} {fault = fault} b o c n = record { no = λ w p s q a. at s (at_member w q.reads) q a }
  where
    tree_is : {s : Text} → one t ≡ one (leaf IdentifierName s) → t ≡ leaf IdentifierName s
    tree_is e = ap item_of e

    at : {w : Tree} {p : Place} → Closed p → AtMember w → Whole so_far v false ObjectMember x w p → Shallow (outer fault) (part_depth w) → ⊥
    at {p = p} s (keyed {k = k} e) q h =
        let r = past {k = k} o (keyed_walk k e q) in
        n.no k r.parts p e r.walk (subst (λ f. so_far.keeps k v f ≡ true) (sym r.is) (of_so_far.from_node k q.reads).keeps) (shallow_behind fault t r.parts _ r.is (node_shallow fault true (keyed_counts k e) of_so_far q.reads h))
    at {p = p} s short q h =
        let m = name_of q.reads in
        let e = o.alone (one (leaf IdentifierName m.text)) p (tree (as_key m.reads)) in
        c m.text (tree_is e.0) (and_left (leaf_in Ident IdentifierName m.text) (is_leaf IdentifierName m.text) m.reads.reads.is) (subst Closed (sym e.1) s)
    at s spreads q h = stuck_not b.dots (dots_led q.reads)
    at s (worded d) q h = unworded (accessor_kind InObject d) (bare_word b d) (worded_walk d q)

-- one that is a name is reserved, or stands before a `:` or a `(`; or neither
pub keyed_word : {y p : Place} {u : Tree} (t : Text) → u ≡ leaf IdentifierName t → y ≡ p → (among t reserved || (is_found (forth (pun ":") p) || is_found (forth (pun "(") p))) ≡ true → (s : Text) → u ≡ leaf IdentifierName s → is_ident s ≡ true → Closed y → ⊥
keyed_word {y} {p} t e same h s f i g =
    let here : Closed p = subst Closed same g in
    or_cases (among t reserved) _ h (λ r. clash _ r (is_not _ (ap is_ident (text_is (sym e ∙ f)) ∙ i)))
    (λ r. or_cases (is_found (forth (pun ":") p)) _ r (λ a. shut_not (codes ":") refl refl here a) (λ a. shut_not (codes "(") refl refl here a))
  where
    text_is : {a b : Text} → leaf IdentifierName a ≡ leaf IdentifierName b → a ≡ b
    text_is g = cc

-- a name behind which neither stands
pub record ShortName (t : Text) (y : Place) : Type 0 where
  pub ident : is_ident t ≡ true
  pub colon : Stuck (pun ":") y
  pub bracket : Stuck (pun "(") y

pub unkeyed : {y p : Place} (t : Text) → y ≡ p → (among t reserved || (is_found (forth (pun ":") p) || is_found (forth (pun "(") p))) ≡ false → ShortName t y
unkeyed {y} {p} t same h =
    let n = neither (among t reserved) _ h in
    let m = neither (is_found (forth (pun ":") p)) _ n.1 in
    record { ident = ap not n.0; colon = record { is = lost_from _ (λ g. clash _ (ap (λ q. is_found (forth (pun ":") q)) (sym same) ∙ g) m.0) }; bracket = record { is = lost_from _ (λ g. clash _ (ap (λ q. is_found (forth (pun "(") q)) (sym same) ∙ g) m.1) } }
  where
    neither : (a b : Bool) → (a || b) ≡ false → (a ≡ false) × (b ≡ false)
    neither true b e = cc
    neither false b e = (refl, e)

-- no key stands there, and no dots
pub no_key : {v : Surroundings} {x : Place} {o : Fault} → IsBare x → Barred so_far v (Part Key) x o → NoMember v x (outer o)
no_key {v} {x} {o = o} n b = record { no = λ w p s q h. at (at_member w q.reads) q h }
  where
    at : {w : Tree} {p : Place} → AtMember w → Whole so_far v false ObjectMember x w p → Shallow (outer o) (part_depth w) → ⊥
    at (keyed {k = k} e) q s = no_keyed k b (keyed_walk k e q) (node_shallow o true (keyed_counts k e) of_so_far q.reads s)
    at {p = p} (short {ts}) q s =
        let m = name_of q.reads in
        let low : Shallow o (deepest ts) = node_shallow o true refl of_so_far q.reads s in
        b.no (one (leaf IdentifierName m.text)) p (tree (as_key m.reads)) (shallow_head o (leaf IdentifierName m.text) none (subst (λ us. Shallow o (deepest us)) m.is low))
    at spreads q s = stuck_not n.dots (dots_led q.reads)
    at (worded c) q s = unworded (accessor_kind InObject c) (bare_word n c) (worded_walk c q)

-- ---- what is too deep

pub outer_member : {v : Surroundings} {x : Place} {e : Fault} → NoMember v x (outer (inner e)) → NoMember v x e
outer_member {e = e} n = record { no = λ u z s q h. n.no u z s q (shallow_outer e (part_depth u) h) }

-- where no dots stand, and no word before a key, whatever stands there counts
pub deep_member : {v : Surroundings} {x : Place} {e : Fault} → IsBare x → Below 0 e → NoMember v x e
deep_member {v} {x} {e} n b = record { no = λ w p s q h. at (at_member w q.reads) q h }
  where
    at : {w : Tree} {p : Place} → AtMember w → Whole so_far v false ObjectMember x w p → Shallow e (part_depth w) → ⊥
    at (keyed {k = k} i) q s = deep_counted e (keyed_counts k i) q.reads b s
    at short q s = deep_counted e refl q.reads b s
    at spreads q s = stuck_not n.dots (dots_led q.reads)
    at (worded c) q s = unworded (accessor_kind InObject c) (bare_word n c) (worded_walk c q)

-- and so does its key
pub deep_key : {v : Surroundings} {x y : Place} {t : Tree} {e : Fault} → IsBare x → Only so_far v (Part Key) x (one t) y → part_depth t ≡ 1 → Below 1 e → NoMember v x e
deep_key {v} {x} {y} {t} {e} n o d b = record { no = λ w p s q h. (no_key n none).no w p s q (below_shallow 1 e (part_depth w) b h) }
  where
    none : Barred so_far v (Part Key) x (Deep 0)
    none = record { no = λ g a q h. let s = o.alone g a q in let same = ap given_depth s.0 in omega (arith, d, same, h) }

-- ---- a name alone that was read

pub short_member : {v : Surroundings} {x y : Place} {t : Text} {u : Tree} → IsBare x → ShortName t y → is_leaf IdentifierName t ≡ true → y ≡ forth (Tok Operator IdentifierName t) x → IsTrue (is_found y) → u ≡ node (expression Shorthand) (part (leaf IdentifierName t) none) → OnlyMember v x u y
short_member {v} {x} {y} {t} {u} n a w e f is = record {
  reads = subst (λ w. Staged v false ObjectMember x w y) (sym is) (of_so_far.to_node (expression Shorthand) refl (record { walk = loosen (moved (λ a h. sym (free_around a (part (leaf IdentifierName t) none) v h)) refl whole); keeps = and_both _ _ (plain_row (row_so_far (expression Shorthand)) refl (to_grammar of_so_far whole)) refl }));
  alone = λ w p s q. at (at_member w q.reads) q;
}
  where
    name : Only so_far v (Part Ident) x (one (leaf IdentifierName t)) y
    name = only_leaf idents a.ident refl w e f

    literal : Only so_far v (Part Key) x (one (leaf IdentifierName t)) y
    literal = literal_key IsName t refl w e f

    whole : Walk (Whole so_far) (steady v) (row_so_far (expression Shorthand)) x (part (leaf IdentifierName t) none) y
    whole = next name.past (done f)

    at : {w : Tree} {p : Place} → AtMember w → Whole so_far v false ObjectMember x w p → (u ≡ w) × (y ≡ p)
    at {p = p} (keyed {k = k} h) q = let r = past {k = k} literal (keyed_walk k h q) in absurd (goes_by k h (stuck_not a.colon) (stuck_not a.bracket) r.walk)
    at {p = p} (short {ts}) q =
        let m = name_of q.reads in
        let s = literal.alone (one (leaf IdentifierName m.text)) p (tree (as_key m.reads)) in
        (is ∙ ((λ j. node (expression Shorthand) (part (item_of (s.0 j)) none)) ∙ ap (node (expression Shorthand)) (sym m.is)), s.1)
    at spreads q = absurd (stuck_not n.dots (dots_led q.reads))
    at (worded b) q = absurd (unworded (accessor_kind InObject b) (bare_word n b) (worded_walk b q))

-- ---- a spread

pub spread_read : {v : Surroundings} {x a y : Place} {t : Tree} → Moves (pun "...") x a → Built so_far v (tail (row_so_far (expression Spread))) (expression Spread) (λ ts. ts) t a y → OnlyMember v x t y
spread_read {v} {x} {a} {y} {t} m b = record {
  reads = subst (λ u. Staged v false ObjectMember x u y) (sym w.is) (of_so_far.to_node (expression Spread) refl (record { walk = loosen (moved (λ a h. sym (free_around a w.parts v h)) refl w.row.walk); keeps = and_both _ _ (plain_row (row_so_far (expression Spread)) refl (to_grammar of_so_far w.row.walk)) refl }));
  alone = λ u p s q. at (at_member u q.reads) q;
}
  where
    w : Built so_far v (row_so_far (expression Spread)) (expression Spread) (λ ts. ts) t x y
    w = signed_built (row_so_far (expression Spread)) refl m b

    there : IsTrue (is_found (forth (pun "...") x))
    there = found_at (sym m.is) m.found

    at : {u : Tree} {p : Place} → AtMember u → Whole so_far v false ObjectMember x u p → (t ≡ u) × (y ≡ p)
    at (keyed {k = k} e) q = absurd (key_there k (codes "...") refl (keyed_walk k e q) there)
    at short q = absurd (name_marked (codes "...") q.reads there)
    at {p = p} (spreads {ts}) q = let e = w.row.alone ts p (spread_whole q.reads (sym (member_ends p) ∙ q.ends_there)) in (w.is ∙ ap (node (expression Spread)) e.0, e.1)
    at (worded c) q = absurd (word_marked x c (codes "...") (worded_led (worded_walk c q)) there)

pub no_spread : {v : Surroundings} {x a : Place} {o : Fault} → Moves (pun "...") x a → NoRow so_far v (tail (row_so_far (expression Spread))) a o → NoMember v x o
no_spread {v} {x} {o = o} m n = record { no = λ u p s q h. at (at_member u q.reads) q h }
  where
    there : IsTrue (is_found (forth (pun "...") x))
    there = found_at (sym m.is) m.found

    at : {u : Tree} {p : Place} → AtMember u → Whole so_far v false ObjectMember x u p → Shallow o (part_depth u) → ⊥
    at (keyed {k = k} e) q s = key_there k (codes "...") refl (keyed_walk k e q) there
    at short q s = name_marked (codes "...") q.reads there
    at {p = p} (spreads {ts}) q s = (signed_none (row_so_far (expression Spread)) refl m n).no ts p (spread_whole q.reads (sym (member_ends p) ∙ q.ends_there)) (node_shallow o false refl of_so_far q.reads s)
    at (worded c) q s = word_marked x c (codes "...") (worded_led (worded_walk c q)) there

-- ---- a getter or a setter

-- the word is no key there, and no name alone
no_word_key : {v : Surroundings} {x y p : Place} {ts : Forest} (b : Bool) (k : Kind) → keyed_in_object k ≡ true → IsPrefix (accessor_sign b) x y → Whole so_far v false ObjectMember x (node k ts) p → ⊥
no_word_key {v} {x} {y} b k e i q =
    let literal : Only so_far v (Part Key) x (one (leaf IdentifierName (accessor_word b))) y = accessor_key b i.word in
    let r = past {k = k} literal (keyed_walk k e q) in
    goes_by k e (key_before (codes ":") refl i.before) (key_before (codes "(") refl i.before) r.walk

no_word_name : {v : Surroundings} {x y p : Place} {ts : Forest} (b : Bool) → Closed p → IsPrefix (accessor_sign b) x y → Staged v false ObjectMember x (node (expression Shorthand) ts) p → ⊥
no_word_name {v} {x} {y} {p} b s i r =
    let literal : Only so_far v (Part Key) x (one (leaf IdentifierName (accessor_word b))) y = accessor_key b i.word in
    let m = name_of r in
    at (subst Closed (sym (literal.alone (one (leaf IdentifierName m.text)) p (tree (as_key m.reads))).1) s)
  where
    at : Closed y → ⊥
    at (by_comma f) = key_before (codes ",") refl i.before f
    at (by_brace f) = key_before (codes "}") refl i.before f

no_word_dots : {v : Surroundings} {x y p : Place} {ts : Forest} (b : Bool) → Moves (accessor_sign b) x y → Staged v false ObjectMember x (node (expression Spread) ts) p → ⊥
no_word_dots {x = x} b m r = word_marked x b (codes "...") (found_at (sym m.is) m.found) (dots_led r)

pub accessor_member : {v : Surroundings} {x y z : Place} {u : Tree} (b : Bool) → IsPrefix (accessor_sign b) x y → OnlyFromKey (is_accessor InObject b) v u y z → OnlyMember v x u z
accessor_member {v} {x} {y} {z} {u} b i d = record { reads = reads; alone = λ w p s q. at s (at_member w q.reads) q }
  where
    kind : accessor_kind InObject b ≡ d.kind
    kind = accessor_is InObject b d.kind d.keyed

    walk : Walk (Whole so_far) (around v d.parts) (piece [] (Fixed (accessor_sign b)) ∷ from_key (accessor_kind InObject b)) x d.parts z
    walk = next (sign (sym i.word.is) i.word.found) (subst (λ k. Walk (Whole so_far) (around v d.parts) (from_key k) y d.parts z) (sym kind) d.walk)

    reads : Staged v false ObjectMember x u z
    reads = subst (λ w. Staged v false ObjectMember x w z) (ap (λ k. node k d.parts) kind ∙ sym d.is)
        (of_so_far.to_node (accessor_kind InObject b) (accessor_home b d.parts) (record { walk = subst (λ ps. Walk Staged (around v d.parts) ps x d.parts z) (sym (accessor_row InObject b)) (loosen walk); keeps = subst (λ k. so_far.keeps k v d.parts ≡ true) (sym kind) d.keeps }))

    same : {ts : Forest} {p : Place} → Whole so_far v false ObjectMember x (node (accessor_kind InObject b) ts) p → (u ≡ node (accessor_kind InObject b) ts) × (z ≡ p)
    same {ts} {p} q = let s = d.alone (accessor_kind InObject b) ts p (accessor_self InObject b) (behind_word i.word (worded_walk b q)).walk (of_so_far.from_node (accessor_kind InObject b) q.reads).keeps in (sym s.0, sym s.1)

    at : {w : Tree} {p : Place} → Closed p → AtMember w → Whole so_far v false ObjectMember x w p → (u ≡ w) × (z ≡ p)
    at s (keyed {k = k} e) q = absurd (no_word_key b k e i q)
    at s short q = absurd (no_word_name b s i q.reads)
    at s spreads q = absurd (no_word_dots b i.word q.reads)
    at {p = p} s (worded c {ts}) q = subst (λ k. Whole so_far v false ObjectMember x (node (accessor_kind InObject k) ts) p → (u ≡ node (accessor_kind InObject k) ts) × (z ≡ p)) (one_accessor b c x (word_there b i) (worded_led (worded_walk c q))) same q

accessor_counts : (b : Bool) → counts_as true (accessor_kind InObject b) ≡ true
accessor_counts true = refl
accessor_counts false = refl

pub no_accessor : {v : Surroundings} {x y : Place} {o : Fault} (b : Bool) → IsPrefix (accessor_sign b) x y → NoneFromKey (is_accessor InObject b) v y (inner o) → NoMember v x o
no_accessor {v} {x} {y} {o = o} b i n = record { no = λ w p s q s'. at s (at_member w q.reads) q s' }
  where
    same : {ts : Forest} {p : Place} → Whole so_far v false ObjectMember x (node (accessor_kind InObject b) ts) p → Shallow o (part_depth (node (accessor_kind InObject b) ts)) → ⊥
    same {ts} {p} q a = n.no (accessor_kind InObject b) ts p (accessor_self InObject b) (behind_word i.word (worded_walk b q)).walk (of_so_far.from_node (accessor_kind InObject b) q.reads).keeps (node_shallow (inner o) true (accessor_counts b) of_so_far q.reads (shallow_outer o _ a))

    at : {w : Tree} {p : Place} → Closed p → AtMember w → Whole so_far v false ObjectMember x w p → Shallow o (part_depth w) → ⊥
    at s (keyed {k = k} e) q h = no_word_key b k e i q
    at s short q h = no_word_name b s i q.reads
    at s spreads q h = no_word_dots b i.word q.reads
    at {p = p} s (worded c {ts}) q h = subst (λ k. Whole so_far v false ObjectMember x (node (accessor_kind InObject k) ts) p → Shallow o (part_depth (node (accessor_kind InObject k) ts)) → ⊥) (one_accessor b c x (word_there b i) (worded_led (worded_walk c q))) same q h
