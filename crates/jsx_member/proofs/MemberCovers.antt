-- What stands in an object, as a member of it and as a part of the pattern that assigns: one by one, and all up to the `}` (ECMA-262 sections 13.2.5 and 13.15.5).
use Rattle.std.proofs.Common.{◌≡◌, ◌≤◌, ℕ, Bool, true, false, not, [], map, refl, sym, ◌∙◌, ap, subst, arith, Box, Vec, Global}
use Rattle.std.specs.Prelude.{IsTrue, codes, ◌&&◌, ◌||◌}
use Rattle.jsx_base.specs.Token.{Text, Operator, Punctuator, IdentifierName, among, same}
use Rattle.jsx_tree.specs.Signs.{Sign, Tok}
use Rattle.jsx_tree.specs.Kinds.{Field, InObject, Kind, Property, PropertyPat, RestProperty, Shorthand, ShorthandInit, ShorthandPat, Spread, Assigns, function, expression, Tree, leaf, node, list, Forest, none, part}
use Rattle.jsx_tree.specs.Nonterminals.{BindingIdent, Expr, Ident, Key, ObjectMember, PatElement, PatProp, is_bound, is_ident, leaf_in, reserved}
use Rattle.jsx_tree.specs.Grammar.{Fixed, Part, pun}
use Rattle.jsx_tree.specs.Form.{is_leaf}
use Rattle.jsx_tree.specs.Reading.{Place, Lost, At, forth}
use Rattle.jsx_tree.specs.StaticRules.{Surroundings}
use Rattle.jsx_tree.specs.View.{forest, inside, view_key}
use Rattle.jsx_tree.specs.declared.tree.Key.{Key as Code}
use Rattle.jsx_tree.specs.declared.tree.Prop.{Prop}
use Rattle.jsx_tree.specs.Walk.{is_found, Given, IsRead, nothing, one, Past, sign, tree, Walk, done, next, steady, tail}
use Rattle.jsx_tree.specs.Language.{Whole}
use Rattle.jsx_tree.specs.Answers.{Moves, Stuck, Missed, Only, Barred, OnlyRow, NoRow, Built}
use Rattle.jsx_tree.specs.Faults.{Fault, Unread, Deep, Shallow, Below, outer, inner, part_depth, deepest, given_depth}
use Rattle.jsx_tree.proofs.Tokens.{and_both, and_left, and_right}
use Rattle.jsx_tree.proofs.Apart.{clash, never_both}
use Rattle.jsx_tree.proofs.Rows.Bodies.{plain as plain_row}
use Rattle.jsx_tree.proofs.Rows.Bridge.{found_at}
use Rattle.jsx_tree.proofs.Rows.Laws.{end_found}
use Rattle.jsx_tree.proofs.Rows.Guarded.{loosen, to_grammar}
use Rattle.jsx_tree.proofs.Rows.Placing.{free_around, moved, flat_shallow, nested_shallow, node_shallow}
use Rattle.jsx_tree.proofs.Rows.Steps.{bar, both, built_2, end, on, only_sign, then'}
use Rattle.jsx_tree.proofs.Rows.Stopping.{is_not, or_cases, token_stops}
use Rattle.jsx_tree.proofs.Rows.Turns.{item_of, whole_of}
use Rattle.jsx_tree.proofs.Depth.Shallow.{below_shallow, shallow_first, shallow_rest}
use Rattle.jsx_token.specs.Here.{Here, place_of}
use Rattle.jsx_token.specs.Marks.{ends_so_far, row_so_far}
use Rattle.jsx_make.specs.Members.{view_prop}
use Rattle.jsx_operand.specs.Covers.{view_cover}
use Rattle.jsx_operand.specs.Members.{Closed, NoMember, OnlyMember, by_brace, by_comma, is_word}
use Rattle.jsx_operand.specs.SoFar.{Staged, so_far}
use Rattle.jsx_operand.specs.Turning.{TurnsElement, TurnsParts, parts_none, part_pair, part_short, part_preset, part_rest, preset}
use Rattle.jsx_operand.specs.declared.cover.Cover.{Cover}
use Rattle.jsx_operand.proofs.OfSoFar.{of_so_far}
use Rattle.jsx_operand.proofs.Homes.{IsName, bindings, bound_word, idents, leaf_one, only_leaf}
use Rattle.jsx_operand.proofs.Keys.{key_unmarked, literal_key}
use Rattle.jsx_operand.proofs.Patterns.{deep_counted, deep_nested}
use Rattle.jsx_operand.proofs.Turned.{parts_both, parts_parted}
use Rattle.jsx_operand.proofs.Values.{leaf_to}
use Rattle.jsx_member.specs.Covers.{CoversKeyed, CoversMembers, CoversPair, CoversShort, IsKeyed, IsMemberCover, IsTurnedPart, NoCoverKeyed, NoMemberCover, NoPair, NoShortCover, IsBare}
use Rattle.jsx_function.specs.Covers.{IsCover, NoCover}
use Rattle.jsx_member.proofs.Properties.{keyed_in_object, no_colon, no_property, property_only}
use Rattle.jsx_function.specs.Methods.{IsPrefix, NoneFromKey, NoneKeyed, OnlyFromKey, OnlyKeyed, is_method}
use Rattle.jsx_member.specs.declared.literals.Member.{Member}
use Rattle.jsx_member.specs.declared.literals.Members.{Members}
use Rattle.jsx_member.proofs.CoverItems.{Ends, Longer}
use Rattle.jsx_member.proofs.CoverMembers.{FillsClosed, NoneCloses, inside as within}
use Rattle.jsx_member.proofs.ItemCovers.{AreAll}
use Rattle.jsx_function.proofs.Keyed.{keyed_first, keyed_neither, keyed_second, method_is, unbracketed, uncalled}
use Rattle.jsx_member.proofs.Members.{ShortName, accessor_member, deep_key, deep_member, outer_member, goes_by, keyed_member, keyed_word, no_accessor, no_key, no_keyed_member, no_spread, short_member, shut_not, spread_read, word_marked}
use Rattle.jsx_member.proofs.Parted.{AtPart, at_part, default_marked, default_row, default_unvalued, default_whole, key_marked, pair_row, pair_whole, paired, part_behind, rest, rest_led, rest_parts, rest_row, short, short_closed, short_marked, short_row, short_whole, uncoloned, valued, RestRead}
use Rattle.jsx_function.proofs.PatternParts.{Bound, as_key, bound_by, colon_moves, key_end}
use Rattle.jsx_function.proofs.Params.{unless_comma}
use Rattle.jsx_function.proofs.Prefixes.{key_before}
use Rattle.jsx_function.proofs.Worded.{accessor_is, accessor_key, accessor_kind, accessor_sign, accessor_word, is_accessor}

outwards : (e : Fault) (d : ℕ) → Shallow e d → Shallow (outer e) d
outwards Unread d s = tt
outwards (Deep n) d s = omega (arith, s)

below_more : (e : Fault) → Below 0 e → Below 1 e
below_more Unread b = b
below_more (Deep n) b = omega (arith, b)

stuck_not : {s : Sign} {x : Place} → Stuck s x → IsTrue (is_found (forth s x)) → ⊥
stuck_not k f = let bad : IsTrue (is_found Lost) = subst (λ p. IsTrue (is_found p)) k.is f in cc

-- ---- one that turns into a part

-- which kinds do
abbrev pub turns_kind : Kind → Bool
turns_kind (expression Property) = true
turns_kind (expression Shorthand) = true
turns_kind (expression Spread) = true
turns_kind (function (Field InObject)) = true
turns_kind k = false

abbrev pub turns_tree : Tree → Bool
turns_tree (node k ts) = turns_kind k
turns_tree t = false

pub turns_so : {t : Tree} {ts us : Forest} → TurnsParts (part t ts) us → turns_tree t ≡ true
turns_so (part_pair i l) = refl
turns_so (part_short e l) = refl
turns_so (part_preset l) = refl
turns_so (part_rest e l) = refl

-- what a property, a name, a name with its default and a spread turn into
pub record PairOf (k s p : Tree) : Type 0 where
  pub value : Tree
  pub turns : TurnsElement s value
  pub is : p ≡ node (function (PropertyPat Assigns)) (part k (part value none))

property_is : {k l s t : Tree} → node (expression Property) (part k (part s none)) ≡ node (expression Property) (part l (part t none)) → (k ≡ l) × (s ≡ t)
property_is e = (ap first e, ap second e)
  where
    first : Tree → Tree
    first (node k (part t ts)) = t
    first t = t

    second : Tree → Tree
    second (node k (part t (part u ts))) = u
    second t = t

pub pair_of : {t p k s : Tree} → TurnsParts (part t none) (part p none) → t ≡ node (expression Property) (part k (part s none)) → PairOf k s p
pair_of (part_pair {u = u} i l) e = let q = property_is e in record { value = u; turns = subst (λ a. TurnsElement a u) q.1 i; is = ap (λ a. node (function (PropertyPat Assigns)) (part a (part u none))) q.0 }
pair_of (part_short b l) e = cc
pair_of (part_preset l) e = cc
pair_of (part_rest b l) e = cc

pub record ShortOf (n : Text) (p : Tree) : Type 0 where
  pub bound : is_bound n ≡ true
  pub is : p ≡ node (function (ShorthandPat Assigns)) (part (leaf IdentifierName n) none)

name_is : {k l : Kind} {n m : Text} {ts us : Forest} → node k (part (leaf IdentifierName n) ts) ≡ node l (part (leaf IdentifierName m) us) → n ≡ m
name_is e = ap text e
  where
    text : Tree → Text
    text (node k (part (leaf j t) ts)) = t
    text t = []

pub short_of : {t p : Tree} {n : Text} → TurnsParts (part t none) (part p none) → t ≡ node (expression Shorthand) (part (leaf IdentifierName n) none) → ShortOf n p
short_of (part_short {n = m} b l) e = let q = name_is e in record { bound = subst (λ s. is_bound s ≡ true) q b; is = ap (λ s. node (function (ShorthandPat Assigns)) (part (leaf IdentifierName s) none)) q }
short_of (part_pair i l) e = cc
short_of (part_preset l) e = cc
short_of (part_rest b l) e = cc

value_of : {n m : Text} {a b : Tree} → preset n a ≡ preset m b → a ≡ b
value_of e = ap value e
  where
    value : Tree → Tree
    value (node k (part t (part (list (part u us)) ts))) = u
    value t = t

pub preset_of : {t p e : Tree} {n : Text} → TurnsParts (part t none) (part p none) → t ≡ preset n e → p ≡ node (function (ShorthandInit Assigns)) (part (leaf IdentifierName n) (part e none))
preset_of (part_preset {n = m} {e = w} l) q = λ i. node (function (ShorthandInit Assigns)) (part (leaf IdentifierName (name_is q i)) (part (value_of q i) none))
preset_of (part_pair i l) q = cc
preset_of (part_short b l) q = cc
preset_of (part_rest b l) q = cc

pub record RestOf (s p : Tree) : Type 0 where
  pub name : Text
  pub bound : is_bound name ≡ true
  pub from : s ≡ leaf IdentifierName name
  pub is : p ≡ node (function (RestProperty Assigns)) (part (leaf IdentifierName name) none)

spread_of : {a b : Tree} → node (expression Spread) (part a none) ≡ node (expression Spread) (part b none) → a ≡ b
spread_of e = cc

pub rest_of : {t p s : Tree} → TurnsParts (part t none) (part p none) → t ≡ node (expression Spread) (part s none) → RestOf s p
rest_of (part_rest {n = n} b l) e = record { name = n; bound = b; from = sym (spread_of e); is = refl }
rest_of (part_pair i l) e = cc
rest_of (part_short b l) e = cc
rest_of (part_preset l) e = cc

-- ---- from what is known of the literal's member, and of the pattern's part

record IsPart (v : Surroundings) (x : Place) (m : Member) (y : Place) : Type 0 where
  reads : (p : Tree) → IsTurnedPart m p → Staged v false (PatProp Assigns) x p y
  alone : (p : Tree) (z : Place) → Closed z → Whole so_far v false (PatProp Assigns) x p z → IsTurnedPart m p × (y ≡ z)

member_too : {v : Surroundings} {x y : Place} {m : Member} → m.is_expr ≡ true → OnlyMember v x (view_prop m.prop.value) y → IsPart v x m y → IsMemberCover v x m y
member_too e o p = record { reads_member = λ f. o.reads; member = λ u z s w. (e, o.alone u z s w); reads = p.reads; alone = p.alone }

part_alone : {v : Surroundings} {x y : Place} {m : Member} → m.is_expr ≡ false → NoMember v x Unread → IsPart v x m y → IsMemberCover v x m y
part_alone e n p = record { reads_member = λ f. absurd (clash _ f e); member = λ u z s w. absurd (n.no u z s w tt); reads = p.reads; alone = p.alone }

-- one that turns into none
no_part : {v : Surroundings} {x y : Place} {m : Member} → turns_tree (view_prop m.prop.value) ≡ false → ((p : Tree) (z : Place) → Closed z → Whole so_far v false (PatProp Assigns) x p z → ⊥) → IsPart v x m y
no_part e n = record { reads = λ p q. absurd (clash _ (turns_so q.turns) e); alone = λ p z s w. absurd (n p z s w) }

undotted : {v : Surroundings} {x y : Place} {k : Tree} → Only so_far v (Part Key) x (one k) y → IsTrue (is_found (forth (pun "...") x)) → ⊥
undotted o f = key_unmarked (codes "...") refl (whole_of o.past).reads f

-- ---- behind a key

-- a name that is a key alone doesn't end a member
unended : {k : Tree} {x : Place} → IsKeyed k x → (t : Text) → k ≡ leaf IdentifierName t → is_ident t ≡ true → Closed x → ⊥
unended k t e i s = keyed_word t e refl (k.named t e) t e i s

bound_ident : (t : Text) → is_bound t ≡ true → is_ident t ≡ true
bound_ident t b = and_left (is_ident t) _ b

-- nor has it a default
unvalued : {k : Tree} {x : Place} → IsKeyed k x → (t : Text) → k ≡ leaf IdentifierName t → is_ident t ≡ true → IsTrue (is_found (forth (pun "=") x)) → ⊥
unvalued {x = x} k t e i f =
    or_cases (among t reserved) _ (k.named t e) (λ r. clash _ r (is_not _ i))
    (λ r. or_cases (is_found (forth (pun ":") x)) _ r (λ g. never_both Punctuator Punctuator (codes ":") (codes "=") x refl g f) (λ g. never_both Punctuator Punctuator (codes "(") (codes "=") x refl g f))

pub no_keyed_cover : {v : Surroundings} {w x : Place} {k : Tree} {d : Fault} → IsBare w → IsKeyed k x → Only so_far v (Part Key) w (one k) x → NoneKeyed keyed_in_object v k x d → NoRow so_far v (tail pair_row) x d → NoMemberCover v w (outer d)
no_keyed_cover {v} {w} {x} {k} {d = d} b i o n r = record { member = λ u z s q a. (no_keyed_member b o (unended i) n).no u z s q a; part' = λ p z s q a. at s (at_part p q.reads) q a }
  where
    name_key : {u : Tree} {a : Place} → Whole so_far v false BindingIdent w u a → (g : Bound u) → k ≡ leaf IdentifierName g.text
    name_key {u} {a} q g = ap item_of (o.alone (one u) a (tree (as_key u q.reads))).0 ∙ g.is

    shorts : {ts : Forest} {z : Place} → Closed z → Walk (Whole so_far) (steady v) short_row w ts z → ⊥
    shorts s (next (tree {t = u} q) (done f)) = let g = bound_by u q.reads in unended i g.text (name_key q g) (bound_ident g.text g.bound) (subst Closed (sym (key_end o q)) s)

    defaults : {ts : Forest} {z : Place} → Walk (Whole so_far) (steady v) default_row w ts z → ⊥
    defaults (next (tree {t = u} q) (next (sign e f) h)) = let g = bound_by u q.reads in unvalued i g.text (name_key q g) (bound_ident g.text g.bound) (subst (λ a. IsTrue (is_found (forth (pun "=") a))) (sym (key_end o q)) (found_at e f))

    pairs : {ts : Forest} {z : Place} → Walk (Whole so_far) (steady v) pair_row w ts z → Shallow d (deepest ts) → ⊥
    pairs (next {z = z} {g = g} {ts = ts} q h) s' = r.no ts z (subst (λ a. Walk (Whole so_far) (steady v) (tail pair_row) a ts z) (sym (o.alone _ _ q).1) h) (shallow_rest d g ts s')

    at : {p : Tree} {z : Place} → Closed z → AtPart p → Whole so_far v false (PatProp Assigns) w p z → Shallow (outer d) (part_depth p) → ⊥
    at s paired q h = pairs (pair_whole q) (node_shallow d true refl of_so_far q.reads h)
    at s short q h = shorts s (short_whole q)
    at s valued q h = defaults (default_whole q)
    at s rest q h = undotted o (rest_led q.reads)

-- ---- a property

unfound : (x : Place) → (IsTrue (is_found x) → ⊥) → is_found x ≡ false
unfound Lost n = refl
unfound (At q e text) n = absurd (n refl)

no_value : {v : Surroundings} {a : Place} {e : Fault} → NoCover v 1 a e → Barred so_far v (Part (PatElement Assigns)) a e
no_value {v} {a} {e = e} o = record { no = λ g y q h. at q h }
  where
    at : {g : Given} {y : Place} → Past (Whole so_far) v (Part (PatElement Assigns)) a g y → Shallow e (given_depth g) → ⊥
    at {y = y} (tree {t = u} w) s = o.element refl u y w s

pub pair_cover : {v : Surroundings} {x a y : Place} {i : Cover} {m : Member} (k : Code) → Only so_far v (Fixed (pun ":")) x nothing a → IsCover v 1 a i y → view_prop m.prop.value ≡ node (expression Property) (part (view_key k) (part (view_cover i) none)) → m.is_expr ≡ i.is_expr → m.may_turn ≡ i.may_turn → CoversPair v (view_key k) m x y
pair_cover {v} {x} {a} {y} {i} {m} k c o is e f = record { on = λ w b q. at b q i.is_expr refl }
  where
    moves : Moves (pun ":") x a
    moves = colon_moves c

    colon : IsTrue (is_found (forth (pun ":") x))
    colon = found_at (sym moves.is) moves.found

    no_call : NoneKeyed (is_method InObject) v (view_key k) x Unread
    no_call = uncalled InObject k (λ w. unbracketed (unfound (forth (pun "(") x) (λ g. never_both Punctuator Punctuator (codes "(") (codes ":") x refl g colon)))

    pairs : {w z : Place} {ts : Forest} → Only so_far v (Part Key) w (one (view_key k)) x → Walk (Whole so_far) (steady v) pair_row w ts z → IsTurnedPart m (node (function (PropertyPat Assigns)) ts) × (y ≡ z)
    pairs {w} {z} q (next (tree {t = l} g) (next (sign e1 f1) (next (tree {t = u} r) (done h)))) =
        let s = q.alone (one l) _ (tree g) in
        let there = moves.is ∙ (ap (forth (pun ":")) s.1 ∙ e1) in
        let t = (o.element refl).alone u z (subst (λ p. Whole so_far v false (PatElement Assigns) p u z) (sym there) r) in (
          record {
            may = f ∙ t.0.may;
            turns = subst (λ n. TurnsParts (part n none) (part (node (function (PropertyPat Assigns)) (part l (part u none))) none)) (sym is) (subst (λ n. TurnsParts (part (node (expression Property) (part (view_key k) (part (view_cover i) none))) none) (part (node (function (PropertyPat Assigns)) (part n (part u none))) none)) (ap item_of s.0) (part_pair t.0.turns parts_none));
          },
          t.1,
        )

    turned : {w : Place} → Only so_far v (Part Key) w (one (view_key k)) x → IsPart v w m y
    turned {w} q = record { reads = reads; alone = λ p z s g. parted s (at_part p g.reads) g }
      where
        reads : (p : Tree) → IsTurnedPart m p → Staged v false (PatProp Assigns) w p y
        reads p t =
            let r = pair_of t.turns is in
            let u = (o.element refl).reads r.value (record { may = sym f ∙ t.may; turns = r.turns }) in
            let read : Walk IsRead (steady v) pair_row w (part (view_key k) (part r.value none)) y = next (tree (whole_of q.past).reads.reads) (next (sign (sym moves.is) moves.found) (next (tree u.reads) (done u.reads.found))) in
            subst (λ n. Staged v false (PatProp Assigns) w n y) (sym r.is)
            (of_so_far.to_node (function (PropertyPat Assigns)) refl (record { walk = next (tree (whole_of q.past).reads) (next (sign (sym moves.is) moves.found) (next (tree u) (done u.reads.found))); keeps = and_both _ _ (plain_row pair_row refl read) refl }))

        parted : {p : Tree} {z : Place} → Closed z → AtPart p → Whole so_far v false (PatProp Assigns) w p z → IsTurnedPart m p × (y ≡ z)
        parted s paired g = pairs q (pair_whole g)
        parted s short g = absurd (short_closed q s (λ h. shut_not (codes ":") refl refl h colon) (short_whole g))
        parted s valued g = absurd (default_unvalued q (λ h. never_both Punctuator Punctuator (codes ":") (codes "=") x refl colon h) (default_whole g))
        parted s rest g = absurd (undotted q (rest_led g.reads))

    at : {w : Place} → IsBare w → Only so_far v (Part Key) w (one (view_key k)) x → (h : Bool) → i.is_expr ≡ h → IsMemberCover v w m y
    at b q true h = let r = o.expr h in member_too (e ∙ h) (keyed_member b q (keyed_first (property_only k (built_2 (end_found of_so_far (whole_of r.past).reads) c r is)) no_call)) (turned q)
    at b q false h = part_alone (e ∙ h) (no_keyed_member {fault = Unread} b q (λ s g j n. shut_not (codes ":") refl refl n colon) (keyed_neither (no_property (view_key k) (on c (bar (o.none h)))) no_call)) (turned q)

-- no `:` stands there
pub no_colon_pair : {v : Surroundings} {x : Place} {e : Fault} (k : Code) → Barred so_far v (Fixed (pun ":")) x e → NoPair v (view_key k) x e
no_colon_pair k n = record { no = λ w b i q s. no_keyed_cover b i q (keyed_neither (no_property (view_key k) (bar n)) (uncalled InObject k (λ w. unbracketed (unfound _ (stuck_not s))))) (bar n) }

-- or no value behind it
pub no_value_pair : {v : Surroundings} {x a : Place} {e : Fault} (k : Code) → Only so_far v (Fixed (pun ":")) x nothing a → NoCover v 1 a e → NoPair v (view_key k) x e
no_value_pair k c o = record { no = λ w b i q s. no_keyed_cover b i q (keyed_neither (no_property (view_key k) (on c (bar o.none))) (uncalled InObject k (λ w. unbracketed (unfound _ (stuck_not s))))) (on c (bar (no_value o))) }

-- ---- a method

pub method_unturned : {v : Surroundings} {k t : Tree} {x y : Place} → OnlyKeyed (is_method InObject) v k t x y → turns_tree t ≡ false
method_unturned {k = k} o = ap turns_tree (o.is ∙ ap (λ j. node j (part k o.parts)) (sym (method_is InObject o.kind o.keyed)))

pub method_cover : {v : Surroundings} {x y : Place} {k : Tree} {m : Member} → IsTrue (is_found (forth (pun "(") x)) → m.is_expr ≡ true → OnlyKeyed (is_method InObject) v k (view_prop m.prop.value) x y → CoversKeyed v k m x y
method_cover {v} {x} {y} {k} {m} f e o = record { on = λ w b q. member_too e (keyed_member b q (keyed_second (no_property k (no_colon f)) o)) (no_part (method_unturned o) (λ p z s g. part_behind (codes "(") q f refl refl (λ h. shut_not (codes "(") refl refl h f) (undotted q) s g)) }

no_colon_row : {v : Surroundings} {x : Place} {o : Fault} → IsTrue (is_found (forth (pun "(") x)) → NoRow so_far v (tail pair_row) x o
no_colon_row {v} {x} {o = o} f = record { no = λ ts z w h. at w h }
  where
    at : {ts : Forest} {z : Place} → Walk (Whole so_far) (steady v) (tail pair_row) x ts z → Shallow o (deepest ts) → ⊥
    at (next (sign e g) w) s = never_both Punctuator Punctuator (codes "(") (codes ":") x refl f (found_at e g)

pub no_method_cover : {v : Surroundings} {x : Place} {k : Tree} {e : Fault} → IsTrue (is_found (forth (pun "(") x)) → NoneKeyed (is_method InObject) v k x e → NoCoverKeyed v k x e
no_method_cover {k = k} f n = record { no = λ w b i q. no_keyed_cover b i q (keyed_neither (no_property k (no_colon f)) n) (no_colon_row f) }

-- ---- a getter or a setter, behind its word

pub accessor_unturned : (b : Bool) (ts : Forest) → turns_tree (node (accessor_kind InObject b) ts) ≡ false
accessor_unturned true ts = refl
accessor_unturned false ts = refl

no_worded_part : {v : Surroundings} {x y z : Place} {p : Tree} (b : Bool) → IsPrefix (accessor_sign b) x y → Closed z → Whole so_far v false (PatProp Assigns) x p z → ⊥
no_worded_part {v} {x} {y} {z} {p} b i s w = at (at_part p w.reads) w
  where
    literal : Only so_far v (Part Key) x (one (leaf IdentifierName (accessor_word b))) y
    literal = accessor_key b i.word

    shut : Closed y → ⊥
    shut (by_comma f) = key_before (codes ",") refl i.before f
    shut (by_brace f) = key_before (codes "}") refl i.before f

    at : {q : Tree} → AtPart q → Whole so_far v false (PatProp Assigns) x q z → ⊥
    at paired g = uncoloned literal (key_before (codes ":") refl i.before) (pair_whole g)
    at short g = short_closed literal s shut (short_whole g)
    at valued g = default_unvalued literal (key_before (codes "=") refl i.before) (default_whole g)
    at rest g = word_marked x b (codes "...") (found_at (sym i.word.is) i.word.found) (rest_led g.reads)

pub worded_unturned : {v : Surroundings} {t : Tree} {x y : Place} (b : Bool) → OnlyFromKey (is_accessor InObject b) v t x y → turns_tree t ≡ false
worded_unturned b d = ap turns_tree (d.is ∙ ap (λ j. node j d.parts) (sym (accessor_is InObject b d.kind d.keyed))) ∙ accessor_unturned b d.parts

pub accessor_cover : {v : Surroundings} {x y z : Place} {m : Member} (b : Bool) → IsPrefix (accessor_sign b) x y → m.is_expr ≡ true → OnlyFromKey (is_accessor InObject b) v (view_prop m.prop.value) y z → IsMemberCover v x m z
accessor_cover {m = m} b i e d = member_too e (accessor_member b i d) (no_part (worded_unturned b d) (λ p z s g. no_worded_part b i s g))

pub no_accessor_cover : {v : Surroundings} {x y : Place} {e : Fault} (b : Bool) → IsPrefix (accessor_sign b) x y → NoneFromKey (is_accessor InObject b) v y (inner e) → NoMemberCover v x e
no_accessor_cover b i n = record { member = (no_accessor b i n).no; part' = λ p z s g h. no_worded_part b i s g }

-- ---- a name

-- with what it says of its token
record Word (n : Text) (w x : Place) : Type 0 where
  ident : is_ident n ≡ true
  whole : is_leaf IdentifierName n ≡ true
  leads : x ≡ forth (Tok Operator IdentifierName n) w
  found : IsTrue (is_found x)

word_of : {v : Surroundings} {w x : Place} {n : Text} → Only so_far v (Part Ident) w (one (leaf IdentifierName n)) x → Word n w x
word_of {n = n} q = let r = (whole_of q.past).reads.reads in record { ident = and_left (leaf_in Ident IdentifierName n) (is_leaf IdentifierName n) r.is; whole = and_right (leaf_in Ident IdentifierName n) (is_leaf IdentifierName n) r.is; leads = sym r.scans; found = r.found }

word_key : {v : Surroundings} {w x : Place} {n : Text} → Word n w x → Only so_far v (Part Key) w (one (leaf IdentifierName n)) x
word_key {n = n} r = literal_key IsName n refl r.whole r.leads r.found

bound_name : {v : Surroundings} {w x : Place} {n : Text} → is_bound n ≡ true → Word n w x → Only so_far v (Part BindingIdent) w (one (leaf IdentifierName n)) x
bound_name b r = only_leaf bindings b refl r.whole r.leads r.found

leaf_text : {n m : Text} → leaf IdentifierName n ≡ leaf IdentifierName m → n ≡ m
leaf_text e = cc

-- alone
pub short_cover : {v : Surroundings} {x x' : Place} {n : Text} {m : Member} → m.is_expr ≡ true → m.may_turn ≡ true → view_prop m.prop.value ≡ node (expression Shorthand) (part (leaf IdentifierName n) none) → Missed (pun "=") x x' → CoversShort v n x m x'
short_cover {v} {x} {x'} {n} {m} e f is k = record { on = λ w b q c d. subst (IsMemberCover v w m) k.same (member_too e (short_member b (record { ident = (word_of q).ident; colon = c; bracket = d }) (word_of q).whole (word_of q).leads (word_of q).found is) (turned (word_of q) c)) }
  where
    turned : {w : Place} → Word n w x → Stuck (pun ":") x → IsPart v w m x
    turned {w} r c = record { reads = reads; alone = λ p z s g. parted (at_part p g.reads) g }
      where
        literal : Only so_far v (Part Key) w (one (leaf IdentifierName n)) x
        literal = word_key r

        reads : (p : Tree) → IsTurnedPart m p → Staged v false (PatProp Assigns) w p x
        reads p t =
            let s = short_of t.turns is in
            let u = (whole_of (bound_name {v = v} s.bound r).past).reads in
            let read : Walk IsRead (steady v) short_row w (part (leaf IdentifierName n) none) x = next (tree u.reads) (done r.found) in
            subst (λ a. Staged v false (PatProp Assigns) w a x) (sym s.is) (of_so_far.to_node (function (ShorthandPat Assigns)) refl (record { walk = next (tree u) (done r.found); keeps = and_both _ _ (plain_row short_row refl read) refl }))

        names : {ts : Forest} {z : Place} → Walk (Whole so_far) (steady v) short_row w ts z → IsTurnedPart m (node (function (ShorthandPat Assigns)) ts) × (x ≡ z)
        names (next (tree {t = u} g) (done h)) =
            let b = bound_by u g.reads in
            let s = literal.alone (one u) _ (tree (as_key u g.reads)) in
            let same : leaf IdentifierName n ≡ u = ap item_of s.0 in (
              record {
                may = f;
                turns = subst (λ a. TurnsParts (part a none) (part (node (function (ShorthandPat Assigns)) (part u none)) none)) (sym is) (subst (λ a. TurnsParts (part (node (expression Shorthand) (part (leaf IdentifierName n) none)) none) (part (node (function (ShorthandPat Assigns)) (part a none)) none)) same (part_short (ap is_bound (leaf_text (same ∙ b.is)) ∙ b.bound) parts_none));
              },
              s.1,
            )

        parted : {p : Tree} {z : Place} → AtPart p → Whole so_far v false (PatProp Assigns) w p z → IsTurnedPart m p × (x ≡ z)
        parted paired g = absurd (uncoloned literal (stuck_not c) (pair_whole g))
        parted short g = names (short_whole g)
        parted valued g = absurd (default_unvalued literal (stuck_not k.stuck) (default_whole g))
        parted rest g = absurd (undotted literal (rest_led g.reads))

-- before `=` it is no member of a literal
unshort : {v : Surroundings} {w x : Place} {n : Text} {e : Fault} → IsBare w → Word n w x → Stuck (pun ":") x → Stuck (pun "(") x → IsTrue (is_found (forth (pun "=") x)) → NoMember v w e
unshort {v} {w} {x} {e = e} b r c d f = outer_member (no_keyed_member {fault = inner e} b (word_key r) (λ s g h n. shut_not (codes "=") refl refl n f) (record { no = λ k us z h g j s. goes_by k h (stuck_not c) (stuck_not d) g }))

-- with its default
pub preset_cover : {v : Surroundings} {x a y : Place} {n : Text} {t : Tree} {m : Member} → m.is_expr ≡ false → m.may_turn ≡ true → view_prop m.prop.value ≡ preset n t → is_bound n ≡ true → Moves (pun "=") x a → Only so_far v (Part (Expr 1)) a (one t) y → CoversShort v n x m y
preset_cover {v} {x} {a} {y} {n} {t} {m} e f is bound k value = record { on = λ w b q c d. part_alone e (unshort b (word_of q) c d there) (turned (word_of q) c) }
  where
    there : IsTrue (is_found (forth (pun "=") x))
    there = found_at (sym k.is) k.found

    turned : {w : Place} → Word n w x → Stuck (pun ":") x → IsPart v w m y
    turned {w} r c = record { reads = reads; alone = λ p z s g. parted s (at_part p g.reads) g }
      where
        row : OnlyRow so_far v default_row w (part (leaf IdentifierName n) (part t none)) y
        row = then' (bound_name bound r) (then' (only_sign k) (then' value (end (end_found of_so_far (whole_of value.past).reads))))

        reads : (p : Tree) → IsTurnedPart m p → Staged v false (PatProp Assigns) w p y
        reads p q = subst (λ u. Staged v false (PatProp Assigns) w u y) (sym (preset_of q.turns is))
            (of_so_far.to_node (function (ShorthandInit Assigns)) refl (record { walk = loosen (moved (λ b h. sym (free_around b (part (leaf IdentifierName n) (part t none)) v h)) refl row.walk); keeps = and_both _ _ (plain_row default_row refl (to_grammar of_so_far row.walk)) refl }))

        parted : {p : Tree} {z : Place} → Closed z → AtPart p → Whole so_far v false (PatProp Assigns) w p z → IsTurnedPart m p × (y ≡ z)
        parted s paired g = absurd (uncoloned (word_key r) (stuck_not c) (pair_whole g))
        parted s short g = absurd (short_closed (word_key r) s (λ h. shut_not (codes "=") refl refl h there) (short_whole g))
        parted {z = z} s (valued {ts}) g =
            let o = row.alone ts z (default_whole g) in
            (record { may = f; turns = subst (λ u. TurnsParts (part u none) (part (node (function (ShorthandInit Assigns)) ts) none)) (sym is) (subst (λ us. TurnsParts (part (preset n t) none) (part (node (function (ShorthandInit Assigns)) us) none)) o.0 (part_preset parts_none)) }, o.1)
        parted s rest g = absurd (undotted {v = v} (word_key r) (rest_led g.reads))

no_preset : {v : Surroundings} {x a : Place} {n : Text} {e : Fault} → Moves (pun "=") x a → ((w : Place) (ts : Forest) (z : Place) → Word n w x → Whole so_far v false (PatProp Assigns) w (node (function (ShorthandInit Assigns)) ts) z → Shallow (outer e) (part_depth (node (function (ShorthandInit Assigns)) ts)) → ⊥) → NoShortCover v n x e
no_preset {v} {x} {a} {n} {e = e} k gone = record { no = λ w b q c d. record { member = (unshort b (word_of q) c d there).no; part' = λ p z s g a. at (word_of q) c s (at_part p g.reads) g a } }
  where
    there : IsTrue (is_found (forth (pun "=") x))
    there = found_at (sym k.is) k.found

    at : {w z : Place} {p : Tree} → Word n w x → Stuck (pun ":") x → Closed z → AtPart p → Whole so_far v false (PatProp Assigns) w p z → Shallow (outer e) (part_depth p) → ⊥
    at r c s paired g a = uncoloned (word_key r) (stuck_not c) (pair_whole g)
    at r c s short g a = short_closed (word_key r) s (λ h. shut_not (codes "=") refl refl h there) (short_whole g)
    at {w} {z} r c s (valued {ts}) g a = gone w ts z r g a
    at r c s rest g a = undotted {v = v} (word_key r) (rest_led g.reads)

-- a name that isn't bound
pub unbound_short : {v : Surroundings} {x a : Place} {n : Text} {e : Fault} → Moves (pun "=") x a → is_bound n ≡ false → NoShortCover v n x e
unbound_short {v} {x} {n = n} k u = no_preset k (λ w ts z r g a. at r (default_whole g))
  where
    at : {w z : Place} {ts : Forest} → Word n w x → Walk (Whole so_far) (steady v) default_row w ts z → ⊥
    at r (next (tree {t = t} q) h) =
        let b = bound_by t q.reads in
        let s = (word_key r).alone (one t) _ (tree (as_key t q.reads)) in
        clash _ (ap is_bound (leaf_text (ap item_of s.0 ∙ b.is)) ∙ b.bound) u

-- or no value behind the `=`
pub unfilled_short : {v : Surroundings} {x a : Place} {n : Text} {d : Fault} → Moves (pun "=") x a → Barred so_far v (Part (Expr 1)) a d → NoShortCover v n x (outer d)
unfilled_short {v} {x} {a} {n} {d = d} k o = no_preset k (λ w ts z r g h. at r (default_whole g) (nested_shallow d of_so_far g.reads h))
  where
    at : {w z : Place} {ts : Forest} → Word n w x → Walk (Whole so_far) (steady v) default_row w ts z → Shallow d (deepest ts) → ⊥
    at r (next {ts = us'} (tree {t = t} q) (next (sign e f) (next {g = g'} {ts = vs'} g h))) a =
        let s = (word_key r).alone (one t) _ (tree (as_key t q.reads)) in
        (subst (λ w. Barred so_far v (Part (Expr 1)) w d) (k.is ∙ (ap (forth (pun "=")) s.1 ∙ e)) o).no _ _ g (shallow_first d g' vs' (shallow_rest d (one t) us' a))

-- a name with its default is deeper by two levels than the name
pub deep_short : {v : Surroundings} {x a : Place} {n : Text} {e : Fault} → Moves (pun "=") x a → Below 1 e → NoShortCover v n x e
deep_short {v} {x} {e = e} k b = no_preset k (λ w ts z r g h. none_name (default_whole g) (nested_shallow (Deep 0) of_so_far g.reads (lower e _ b h)))
  where
    lower : (d : Fault) (m : ℕ) → Below 1 d → Shallow (outer d) m → m ≤ 2
    lower Unread m w s = absurd w
    lower (Deep i) m w s = omega (arith, w, s)

    none_name : {w p : Place} {ts : Forest} → Walk (Whole so_far) (steady v) default_row w ts p → deepest ts ≤ 0 → ⊥
    none_name (next {ts = us'} (tree {t = u} q) h) s =
        let m = bound_by u q.reads in
        let d = ap part_depth m.is ∙ leaf_one IdentifierName m.text refl in
        let low : part_depth u ≤ 0 = shallow_first (Deep 0) (one u) us' s in
        omega (arith, d, low)

-- ---- a spread

pub record SpreadRead (v : Surroundings) (a : Place) (ts : Forest) (y : Place) : Type 0 where
  pub value : Tree
  pub is : ts ≡ part value none
  pub reads : Staged v false (Expr 1) a value y

pub spread_parts : {v : Surroundings} {a y : Place} {ts : Forest} → Walk (Whole so_far) (steady v) (tail (row_so_far (expression Spread))) a ts y → SpreadRead v a ts y
spread_parts (next (tree {t = u} q) (done f)) = record { value = u; is = refl; reads = q.reads }

closed_ends : (z : Place) → Closed z → ends_so_far (Expr 1) z ≡ true
closed_ends z (by_comma f) = of_so_far.ends_there (Expr 1) z (token_stops (Expr 1) Punctuator 44 [] z refl f)
closed_ends z (by_brace f) = of_so_far.ends_there (Expr 1) z (token_stops (Expr 1) Punctuator 125 [] z refl f)

pub spread_cover : {v : Surroundings} {x a y : Place} {m : Member} → Moves (pun "...") x a → Built so_far v (tail (row_so_far (expression Spread))) (expression Spread) (λ ts. ts) (view_prop m.prop.value) a y → m.is_expr ≡ true → m.may_turn ≡ not (is_found (forth (pun ",") y)) → IsMemberCover v x m y
spread_cover {v} {x} {a} {y} {m} k b e f = member_too e (spread_read k b) (record { reads = reads; alone = λ p z s g. at s (at_part p g.reads) g })
  where
    inner : SpreadRead v a b.parts y
    inner = spread_parts b.row.walk

    there : IsTrue (is_found (forth (pun "...") x))
    there = found_at (sym k.is) k.found

    reads : (p : Tree) → IsTurnedPart m p → Staged v false (PatProp Assigns) x p y
    reads p t =
        let r = rest_of t.turns (b.is ∙ ap (node (expression Spread)) inner.is) in
        let u : Staged v false BindingIdent a (leaf IdentifierName r.name) y = leaf_to BindingIdent IsName r.bound refl (subst (λ s. Staged v false (Expr 1) a s y) r.from inner.reads) in
        let ends = unless_comma y (is_not _ (sym f ∙ t.may)) u.reads.found in
        let read : Walk IsRead (steady v) rest_row x (part (leaf IdentifierName r.name) none) y = next (sign (sym k.is) k.found) (next (tree u.reads) (next (sign ends u.reads.found) (done u.reads.found))) in
        subst (λ n. Staged v false (PatProp Assigns) x n y) (sym r.is)
        (of_so_far.to_node (function (RestProperty Assigns)) refl (record { walk = next (sign (sym k.is) k.found) (next (tree u) (next (sign ends u.reads.found) (done u.reads.found))); keeps = and_both _ _ (plain_row rest_row refl read) refl }))

    rests : {ts : Forest} {z : Place} → Closed z → RestRead v a ts z → IsTurnedPart m (node (function (RestProperty Assigns)) ts) × (y ≡ z)
    rests {ts} {z} s r =
        let n = bound_by r.name r.reads in
        let name : Staged v false BindingIdent a (leaf IdentifierName n.text) z = subst (λ u. Staged v false BindingIdent a u z) n.is r.reads in
        let value : Staged v false (Expr 1) a (leaf IdentifierName n.text) z = leaf_to (Expr 1) IsName (bound_word n.text n.bound) (bound_word n.text n.bound) name in
        let o = b.row.alone (part (leaf IdentifierName n.text) none) z (next (tree (record { reads = value; ends_there = closed_ends z s })) (done value.reads.found)) in
        let view : view_prop m.prop.value ≡ node (expression Spread) (part (leaf IdentifierName n.text) none) = b.is ∙ ap (node (expression Spread)) o.0 in
        let parts : part (leaf IdentifierName n.text) none ≡ ts = ap (λ u. part u none) (sym n.is) ∙ sym r.is in (
          record {
            may = f ∙ ap not (ap (λ p. is_found (forth (pun ",") p)) o.1 ∙ r.no_comma);
            turns = subst (λ u. TurnsParts (part u none) (part (node (function (RestProperty Assigns)) ts) none)) (sym view) (subst (λ us. TurnsParts (part (node (expression Spread) (part (leaf IdentifierName n.text) none)) none) (part (node (function (RestProperty Assigns)) us) none)) parts (part_rest n.bound parts_none));
          },
          o.1,
        )

    at : {p : Tree} {z : Place} → Closed z → AtPart p → Whole so_far v false (PatProp Assigns) x p z → IsTurnedPart m p × (y ≡ z)
    at s paired g = absurd (key_marked (codes "...") refl (pair_whole g) there)
    at s short g = absurd (short_marked (codes "...") (short_whole g) there)
    at s valued g = absurd (default_marked (codes "...") (default_whole g) there)
    at s (rest {ts}) g = rests s (rest_parts {us = ts} k (of_so_far.from_node (function (RestProperty Assigns)) g.reads).walk)

pub no_spread_cover : {v : Surroundings} {x a : Place} {e : Fault} → Moves (pun "...") x a → NoRow so_far v (tail (row_so_far (expression Spread))) a e → NoMemberCover v x e
no_spread_cover {v} {x} {a} {e = e} k o = record { member = (no_spread k o).no; part' = λ p z s g a. at s (at_part p g.reads) g a }
  where
    there : IsTrue (is_found (forth (pun "...") x))
    there = found_at (sym k.is) k.found

    rests : {ts : Forest} {z : Place} → Closed z → RestRead v a ts z → Shallow e (deepest ts) → ⊥
    rests {ts} {z} s r h =
        let n = bound_by r.name r.reads in
        let name : Staged v false BindingIdent a (leaf IdentifierName n.text) z = subst (λ u. Staged v false BindingIdent a u z) n.is r.reads in
        let value : Staged v false (Expr 1) a (leaf IdentifierName n.text) z = leaf_to (Expr 1) IsName (bound_word n.text n.bound) (bound_word n.text n.bound) name in
        o.no (part (leaf IdentifierName n.text) none) z (next (tree (record { reads = value; ends_there = closed_ends z s })) (done value.reads.found)) (subst (λ us. Shallow e (deepest us)) (r.is ∙ ap (λ u. part u none) n.is) h)

    at : {p : Tree} {z : Place} → Closed z → AtPart p → Whole so_far v false (PatProp Assigns) x p z → Shallow e (part_depth p) → ⊥
    at s paired g h = key_marked (codes "...") refl (pair_whole g) there
    at s short g h = short_marked (codes "...") (short_whole g) there
    at s valued g h = default_marked (codes "...") (default_whole g) there
    at s (rest {ts}) g h = rests s (rest_parts {us = ts} k (of_so_far.from_node (function (RestProperty Assigns)) g.reads).walk) (flat_shallow e of_so_far g.reads h)

-- ---- where no key stands

pub no_key_cover : {v : Surroundings} {x : Place} {e : Fault} → IsBare x → Barred so_far v (Part Key) x e → NoMemberCover v x (outer e)
no_key_cover {v} {x} {e = e} b k = record { member = (no_key b k).no; part' = λ p z s g a. at (at_part p g.reads) g a }
  where
    pairs : {ts : Forest} {z : Place} → Walk (Whole so_far) (steady v) pair_row x ts z → Shallow e (deepest ts) → ⊥
    pairs (next {g = g'} {ts = us'} q w) s' = k.no _ _ q (shallow_first e g' us' s')

    shorts : {ts : Forest} {z : Place} → Walk (Whole so_far) (steady v) short_row x ts z → Shallow e (deepest ts) → ⊥
    shorts (next {ts = us'} (tree {t = n} q) w) a = k.no (one n) _ (tree (as_key n q.reads)) (shallow_first e (one n) us' a)

    defaults : {ts : Forest} {z : Place} → Walk (Whole so_far) (steady v) default_row x ts z → Shallow e (deepest ts) → ⊥
    defaults (next {ts = us'} (tree {t = n} q) w) h = k.no (one n) _ (tree (as_key n q.reads)) (shallow_first e (one n) us' h)

    at : {p : Tree} {z : Place} → AtPart p → Whole so_far v false (PatProp Assigns) x p z → Shallow (outer e) (part_depth p) → ⊥
    at paired g s = pairs (pair_whole g) (node_shallow e true refl of_so_far g.reads s)
    at short g s = shorts (short_whole g) (node_shallow e true refl of_so_far g.reads s)
    at (valued {ts}) g s = defaults (default_whole g) (nested_shallow e of_so_far g.reads (outwards (outer e) (part_depth (node (function (ShorthandInit Assigns)) ts)) s))
    at rest g s = stuck_not b.dots (rest_led g.reads)

-- at a level less than a member's
pub outer_cover : {v : Surroundings} {x : Place} {e : Fault} → NoMemberCover v x (outer e) → NoMemberCover v x e
outer_cover {e = e} n = record { member = λ u z s q h. n.member u z s q (outwards e (part_depth u) h); part' = λ p z s q h. n.part' p z s q (outwards e (part_depth p) h) }

-- where neither dots stand nor a word before a key, whatever stands there counts
pub deep_bracket : {v : Surroundings} {x : Place} {e : Fault} → IsBare x → Below 0 e → NoMemberCover v x e
deep_bracket {v} {x} {e} n b = record { member = (deep_member n b).no; part' = λ p z s q h. at (at_part p q.reads) q h }
  where
    at : {u : Tree} {p : Place} → AtPart u → Whole so_far v false (PatProp Assigns) x u p → Shallow e (part_depth u) → ⊥
    at paired q h = deep_counted e refl q.reads b h
    at short q h = deep_counted e refl q.reads b h
    at valued q h = deep_nested e q.reads (below_more e b) h
    at rest q h = stuck_not n.dots (rest_led q.reads)

-- and so does its key
pub deep_keyed : {v : Surroundings} {x y : Place} {t : Tree} {e : Fault} → IsBare x → Only so_far v (Part Key) x (one t) y → part_depth t ≡ 1 → Below 1 e → NoMemberCover v x e
deep_keyed {v} {x} {y} {t} {e} n o d b = record { member = (deep_key n o d b).no; part' = λ p z s q h. (no_key_cover n none).part' p z s q (below_shallow 1 e (part_depth p) b h) }
  where
    none : Barred so_far v (Part Key) x (Deep 0)
    none = record { no = λ g a q h. let s = o.alone g a q in let same = ap given_depth s.0 in omega (arith, d, same, h) }

-- a key that is no name is a key alone
pub wordless : {k : Tree} {x : Place} → is_word k ≡ false → IsKeyed k x
wordless w = record { named = λ t e. let bad : true ≡ false = ap is_word (sym e) ∙ w in cc }

-- and so is a name of which the test says so
pub worded : {k : Tree} {x y : Place} (t : Text) → k ≡ leaf IdentifierName t → x ≡ y → (among t reserved || (is_found (forth (pun ":") y) || is_found (forth (pun "(") y))) ≡ true → IsKeyed k x
worded t e same h = record { named = λ s f. (λ i. among (leaf_text (sym f ∙ e) i) reserved || (is_found (forth (pun ":") (same i)) || is_found (forth (pun "(") (same i)))) ∙ h }

-- ---- from a place that is another

pub cover_from : {v : Surroundings} {x y : Here} {m : Member} {z : Place} → x ≡ y → IsMemberCover v (place_of x) m z → IsMemberCover v (place_of y) m z
cover_from {v} {m = m} {z} e o = subst (λ h. IsMemberCover v (place_of h) m z) e o

pub cover_to : {v : Surroundings} {x : Place} {m : Member} {y z : Here} → z ≡ y → IsMemberCover v x m (place_of y) → IsMemberCover v x m (place_of z)
cover_to {v} {x} {m} e o = subst (λ h. IsMemberCover v x m (place_of h)) (sym e) o

pub no_cover_from : {v : Surroundings} {x y : Here} {o : Fault} → x ≡ y → NoMemberCover v (place_of x) o → NoMemberCover v (place_of y) o
no_cover_from {v} {o = o} e n = subst (λ h. NoMemberCover v (place_of h) o) e n

-- a property, or none, where no `(` stands
pub pair_keyed : {v : Surroundings} {k : Tree} {m : Member} {x y : Here} {z : Place} → x ≡ y → CoversPair v k m (place_of x) z → CoversKeyed v k m (place_of y) z
pair_keyed {v} {k} {m} {x} {y} {z} e o = subst (λ h. CoversKeyed v k m (place_of h) z) e (record { on = o.on })

pub no_pair_keyed : {v : Surroundings} {k : Tree} {x y : Here} {o : Fault} → x ≡ y → is_found (forth (pun "(") (place_of y)) ≡ false → NoPair v k (place_of x) o → NoCoverKeyed v k (place_of y) o
no_pair_keyed {v} {k} {x} {y} {o = o} e f n = record { no = λ w b i q. (subst (λ h. NoPair v k (place_of h) o) e n).no w b i q (record { is = lost_by _ f }) }
  where
    lost_by : (p : Place) → is_found p ≡ false → p ≡ Lost
    lost_by Lost h = refl
    lost_by (At q e text) h = cc

-- a member that is settled, with the tree that was read
pub keyed_as : {v : Surroundings} {k t u : Tree} {x y : Place} → t ≡ u → OnlyKeyed (is_method InObject) v k u x y → OnlyKeyed (is_method InObject) v k t x y
keyed_as {v} {k} {x = x} {y} e o = subst (λ t. OnlyKeyed (is_method InObject) v k t x y) (sym e) o

pub from_key_as : {v : Surroundings} {t u : Tree} {x y : Place} (b : Bool) → t ≡ u → OnlyFromKey (is_accessor InObject b) v u x y → OnlyFromKey (is_accessor InObject b) v t x y
from_key_as {v} {x = x} {y} b e o = subst (λ t. OnlyFromKey (is_accessor InObject b) v t x y) (sym e) o

-- a name that was read, as an expression is
pub name_read : {v : Surroundings} {w x : Place} {t : Text} → ShortName t x → is_leaf IdentifierName t ≡ true → x ≡ forth (Tok Operator IdentifierName t) w → IsTrue (is_found x) → Only so_far v (Part Ident) w (one (leaf IdentifierName t)) x
name_read n w e f = only_leaf idents n.ident refl w e f

-- ---- what a loop over both rows keeps

pub record IsMember (m : Member) (t : Tree) : Type 0 where
  pub settled : m.is_expr ≡ true
  pub is : view_prop m.prop.value ≡ t

pub record PartInto (m : Bool) (ts us : Forest) : Type 0 where
  pub may : m ≡ true
  pub turns : TurnsParts ts us

pub member_fills : {v : Surroundings} {x y : Place} {m : Member} → IsMemberCover v x m y → FillsClosed v ObjectMember x (IsMember m) y
member_fills {v} {x} {y} o = record {
  reads = λ t q. subst (λ u. Staged v false ObjectMember x u y) q.is (o.reads_member q.settled);
  alone = λ u z s w. let r = o.member u z s w in (record { settled = r.0; is = r.1.0 }, r.1.1);
}

pub part_fills : {v : Surroundings} {x y : Place} {m : Member} → IsMemberCover v x m y → FillsClosed v (PatProp Assigns) x (IsTurnedPart m) y
part_fills o = record { reads = o.reads; alone = o.alone }

pub no_member : {v : Surroundings} {x : Place} {e : Fault} → NoMemberCover v x e → NoneCloses v ObjectMember x e
no_member n = record { no = n.member }

pub no_turned_part : {v : Surroundings} {x : Place} {e : Fault} → NoMemberCover v x e → NoneCloses v (PatProp Assigns) x e
no_turned_part n = record { no = n.part' }

pub members_longer : {e b : Bool} {m : Member} {ts us : Forest} → b ≡ (e && m.is_expr) → us ≡ both ts (part (view_prop m.prop.value) none) → Longer (AreAll e ts) (IsMember m) (AreAll b us)
members_longer {e} {b} {m} {ts} {us} f g = record {
  join = λ fs t q p. record { settled = f ∙ and_both _ _ q.settled p.settled; is = g ∙ (λ i. both (q.is i) (part (p.is i) none)) };
  split = λ ws r. record { front = ts; item = view_prop m.prop.value; before = record { settled = and_left e _ (sym f ∙ r.settled); is = refl }; one = record { settled = and_right e _ (sym f ∙ r.settled); is = refl }; is = sym r.is ∙ g };
}

-- such a list has one tree
record Alone (t : Tree) (us : Forest) : Type 0 where
  item : Tree
  is : us ≡ part item none
  turns : TurnsParts (part t none) (part item none)

alone_of : {t : Tree} {us : Forest} → TurnsParts (part t none) us → Alone t us
alone_of (part_pair {k = k} {u = u} i parts_none) = record { item = node (function (PropertyPat Assigns)) (part k (part u none)); is = refl; turns = part_pair i parts_none }
alone_of (part_short {n = n} b parts_none) = record { item = node (function (ShorthandPat Assigns)) (part (leaf IdentifierName n) none); is = refl; turns = part_short b parts_none }
alone_of (part_preset {n = n} {e = e} parts_none) = record { item = node (function (ShorthandInit Assigns)) (part (leaf IdentifierName n) (part e none)); is = refl; turns = part_preset parts_none }
alone_of (part_rest {n = n} b parts_none) = record { item = node (function (RestProperty Assigns)) (part (leaf IdentifierName n) none); is = refl; turns = part_rest b parts_none }

pub parts_longer : {e b : Bool} {m : Member} {ts us : Forest} → b ≡ (e && m.may_turn) → us ≡ both ts (part (view_prop m.prop.value) none) → Longer (PartInto e ts) (IsTurnedPart m) (PartInto b us)
parts_longer {e} {b} {m} {ts} {us} f g = record {
  join = λ fs t q p. record { may = f ∙ and_both _ _ q.may p.may; turns = subst (λ hs. TurnsParts hs (both fs (part t none))) (sym g) (parts_both q.turns p.turns) };
  split = λ ws r.
      let s = parts_parted ts (subst (λ hs. TurnsParts hs ws) g r.turns) in
      let o = alone_of s.second in
      record { front = s.front; item = o.item; before = record { may = and_left e _ (sym f ∙ r.may); turns = s.first }; one = record { may = and_right e _ (sym f ∙ r.may); turns = o.turns }; is = s.is ∙ ap (both s.front) o.is };
}

no_parts : {us : Forest} → TurnsParts none us → us ≡ none
no_parts parts_none = refl

pub none_parted : {e : Bool} → e ≡ true → PartInto e none none
none_parted f = record { may = f; turns = parts_none }

pub parted_none : {e : Bool} (fs : Forest) → PartInto e none fs → fs ≡ none
parted_none fs q = no_parts q.turns

-- ---- what both rows give

pub members_cover : {v : Surroundings} {x y : Place} {all : Vec (Box Prop Global) Global} {e m : Bool} (q : Members) → q ≡ record { all = all; are_exprs = e; may_turn = m } → Ends v (within ObjectMember) x (AreAll e (forest (map (inside view_prop) all.items))) y → Ends v (within (PatProp Assigns)) x (PartInto m (forest (map (inside view_prop) all.items))) y → CoversMembers v x q y
members_cover {v} {x} {y} {all} {e} {m} q is r s = subst (λ k. CoversMembers v x k y) (sym is) (record {
  expr = λ f. record { walk = r.reads _ (record { settled = f; is = refl }); alone = λ us z w. let g = r.alone us z w in (ap (λ ts. part (list ts) none) g.0.among.is ∙ sym g.0.is, g.1) };
  none = λ f. record { no = λ us z w s. clash e (r.alone us z w).0.among.settled f };
  reads = λ ts a. subst (λ us. Walk (Whole so_far) (steady v) (within (PatProp Assigns)) x us y) (sym a.is) (s.reads a.parts (record { may = a.may; turns = a.turns }));
  alone = λ ts z w. let g = s.alone ts z w in (record { may = g.0.among.may; parts = g.0.items; is = g.0.is; turns = g.0.among.turns }, g.1);
})
