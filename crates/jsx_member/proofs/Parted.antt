-- What stands in an object's pattern that assigns: a property, a name with its default or without one, or a rest (ECMA-262 section 13.15.5). What stands behind the key or the name tells which.
use Rattle.std.proofs.Common.{◌≡◌, Bool, true, false, List, [], ◌∷◌, refl, sym, ◌∙◌, subst}
use Rattle.std.specs.Prelude.{IsTrue, codes}
use Rattle.jsx_base.specs.Token.{Text, Operator, Punctuator, same}
use Rattle.jsx_tree.specs.Signs.{Sign, Tok, Unless}
use Rattle.jsx_tree.specs.Kinds.{Assigns, Kind, PropertyPat, RestProperty, ShorthandInit, ShorthandPat, function, Tree, leaf, node, list, Forest, none, part}
use Rattle.jsx_tree.specs.Nonterminals.{BindingIdent, Key, ObjectMember, PatProp}
use Rattle.jsx_tree.specs.Grammar.{Part, pun}
use Rattle.jsx_tree.specs.Form.{admits, is_last}
use Rattle.jsx_tree.specs.Reading.{Place, Lost, forth}
use Rattle.jsx_tree.specs.StaticRules.{Surroundings}
use Rattle.jsx_tree.specs.Walk.{is_found, one, Piece, sign, tree, Walk, done, next, around, steady}
use Rattle.jsx_tree.specs.Language.{Whole}
use Rattle.jsx_tree.specs.Answers.{Moves, Stuck, Only}
use Rattle.jsx_tree.proofs.Apart.{clash, never_both}
use Rattle.jsx_tree.proofs.Rows.Bridge.{found_at}
use Rattle.jsx_tree.proofs.Rows.Firsts.{kind_home}
use Rattle.jsx_tree.proofs.Rows.Guarded.{whole_walk}
use Rattle.jsx_tree.proofs.Rows.Placing.{free_around, moved}
use Rattle.jsx_tree.proofs.Rows.Stopping.{stays, token_stops}
use Rattle.jsx_tree.proofs.Rows.Turns.{early}
use Rattle.jsx_operand.specs.Members.{Closed}
use Rattle.jsx_operand.specs.SoFar.{Staged, so_far}
use Rattle.jsx_token.specs.Marks.{row_so_far}
use Rattle.jsx_operand.proofs.OfSoFar.{of_so_far}
use Rattle.jsx_operand.proofs.Homes.{Taken, taken_by, home_of, no_list}
use Rattle.jsx_operand.proofs.Keys.{key_unmarked}
use Rattle.jsx_operand.proofs.Standing.{standing}
use Rattle.jsx_operand.proofs.Values.{led_sign}
use Rattle.jsx_member.proofs.CoverMembers.{Braced}
use Rattle.jsx_member.proofs.Members.{unmarked}
use Rattle.jsx_function.proofs.Params.{comma_unless}
use Rattle.jsx_function.proofs.PatternParts.{key_end, name_unmarked}

stuck_not : {s : Sign} {x : Place} → Stuck s x → IsTrue (is_found (forth s x)) → ⊥
stuck_not k f = let bad : IsTrue (is_found Lost) = subst (λ p. IsTrue (is_found p)) k.is f in cc

abbrev pub pair_row : List Piece
pair_row = row_so_far (function (PropertyPat Assigns))

abbrev pub short_row : List Piece
short_row = row_so_far (function (ShorthandPat Assigns))

abbrev pub default_row : List Piece
default_row = row_so_far (function (ShorthandInit Assigns))

abbrev pub rest_row : List Piece
rest_row = row_so_far (function (RestProperty Assigns))

-- ---- what stands there

pub data AtPart : Tree → Type 0 where
  paired : {ts : Forest} → AtPart (node (function (PropertyPat Assigns)) ts)
  short : {ts : Forest} → AtPart (node (function (ShorthandPat Assigns)) ts)
  valued : {ts : Forest} → AtPart (node (function (ShorthandInit Assigns)) ts)
  rest : {ts : Forest} → AtPart (node (function (RestProperty Assigns)) ts)

abbrev is_part : Kind → Bool
is_part (function (PropertyPat Assigns)) = true
is_part (function (ShorthandPat Assigns)) = true
is_part (function (ShorthandInit Assigns)) = true
is_part (function (RestProperty Assigns)) = true
is_part k = false

part_is : (k : Kind) (ts : Forest) → is_part k ≡ true → AtPart (node k ts)
part_is (function (PropertyPat Assigns)) ts h = paired
part_is (function (ShorthandPat Assigns)) ts h = short
part_is (function (ShorthandInit Assigns)) ts h = valued
part_is (function (RestProperty Assigns)) ts h = rest
part_is _ ts h = cc

part_kind : (k : Kind) (ts : Forest) → Taken k → admits (PatProp Assigns) (node k ts) ≡ true → AtPart (node k ts)
part_kind k ts t h = part_is k ts (standing (PatProp Assigns) is_part refl k t (kind_home (PatProp Assigns) k ts h))

pub at_part : {v : Surroundings} {x y : Place} (t : Tree) → Staged v false (PatProp Assigns) x t y → AtPart t
at_part (leaf k t) r = let bad = r.staged in cc
at_part (node k ts) r = part_kind k ts (taken_by r) (home_of r)
at_part (list ts) r = absurd (no_list r)

-- ---- along the rows

pub pair_whole : {v : Surroundings} {x z : Place} {ts : Forest} → Whole so_far v false (PatProp Assigns) x (node (function (PropertyPat Assigns)) ts) z → Walk (Whole so_far) (steady v) pair_row x ts z
pair_whole {v} {ts = ts} w = moved (λ a h. free_around a ts v h) refl (whole_walk of_so_far (PatProp Assigns) pair_row refl w.ends_there (of_so_far.from_node (function (PropertyPat Assigns)) w.reads).walk)

pub short_whole : {v : Surroundings} {x z : Place} {ts : Forest} → Whole so_far v false (PatProp Assigns) x (node (function (ShorthandPat Assigns)) ts) z → Walk (Whole so_far) (steady v) short_row x ts z
short_whole {v} {ts = ts} w = moved (λ a h. free_around a ts v h) refl (whole_walk of_so_far (PatProp Assigns) short_row refl w.ends_there (of_so_far.from_node (function (ShorthandPat Assigns)) w.reads).walk)

pub default_whole : {v : Surroundings} {x z : Place} {ts : Forest} → Whole so_far v false (PatProp Assigns) x (node (function (ShorthandInit Assigns)) ts) z → Walk (Whole so_far) (steady v) default_row x ts z
default_whole {v} {ts = ts} w = moved (λ a h. free_around a ts v h) refl (whole_walk of_so_far (PatProp Assigns) default_row refl w.ends_there (of_so_far.from_node (function (ShorthandInit Assigns)) w.reads).walk)

pub rest_led : {v : Surroundings} {x z : Place} {ts : Forest} → Staged v false (PatProp Assigns) x (node (function (RestProperty Assigns)) ts) z → IsTrue (is_found (forth (pun "...") x))
rest_led r = led_sign rest_row refl (of_so_far.from_node (function (RestProperty Assigns)) r).walk

-- ---- where a mark stands

pub short_marked : {v : Surroundings} {x z : Place} {ts : Forest} (d : Text) → Walk (Whole so_far) (steady v) short_row x ts z → IsTrue (is_found (forth (Tok Operator Punctuator d) x)) → ⊥
short_marked d (next (tree {t = t} q) w) f = name_unmarked t d q.reads f

pub default_marked : {v : Surroundings} {x z : Place} {ts : Forest} (d : Text) → Walk (Whole so_far) (steady v) default_row x ts z → IsTrue (is_found (forth (Tok Operator Punctuator d) x)) → ⊥
default_marked d (next (tree {t = t} q) w) f = name_unmarked t d q.reads f

pub key_marked : {v : Surroundings} {x z : Place} {ts : Forest} (d : Text) → same (codes "[") d ≡ false → Walk (Whole so_far) (steady v) pair_row x ts z → IsTrue (is_found (forth (Tok Operator Punctuator d) x)) → ⊥
key_marked d n (next (tree q) w) f = key_unmarked d n q.reads f

part_unmarked : {v : Surroundings} {x z : Place} {u : Tree} (d : Text) → same (codes "[") d ≡ false → same (codes "...") d ≡ false → IsTrue (is_found (forth (Tok Operator Punctuator d) x)) → Whole so_far v false (PatProp Assigns) x u z → ⊥
part_unmarked {v} {x} {z} {u} d n m f w = at (at_part u w.reads) w
  where
    at : {t : Tree} → AtPart t → Whole so_far v false (PatProp Assigns) x t z → ⊥
    at paired q = key_marked d n (pair_whole q) f
    at short q = short_marked d (short_whole q) f
    at valued q = default_marked d (default_whole q) f
    at rest q = never_both Punctuator Punctuator (codes "...") d x m (rest_led q.reads) f

-- ---- a rest

pub record RestRead (v : Surroundings) (a : Place) (ts : Forest) (z : Place) : Type 0 where
  pub name : Tree
  pub is : ts ≡ part name none
  pub reads : Staged v false BindingIdent a name z
  pub no_comma : is_found (forth (pun ",") z) ≡ false

pub rest_parts : {v : Surroundings} {x a z : Place} {ts us : Forest} → Moves (pun "...") x a → Walk Staged (around v us) rest_row x ts z → RestRead v a ts z
rest_parts {v} {x} {a} {z} m (next {y = d} (sign e f) (next {y = b} (tree {t = u} r) (next (sign g h) (done k)))) =
    let here = sym g ∙ stays (Unless (codes "," ∷ [])) b refl (subst (λ p. IsTrue (is_found p)) (sym g) h) in
    record {
      name = u;
      is = refl;
      reads = subst (λ p. Staged v false BindingIdent p u z) (sym (m.is ∙ e)) (subst (λ p. Staged v false BindingIdent d u p) (sym here) r);
      no_comma = unfollowed (is_found (forth (pun ",") z)) refl (λ c. gone b g h (subst (λ p. IsTrue (is_found (forth (pun ",") p))) here c));
    }
  where
    unfollowed : (b : Bool) → is_found (forth (pun ",") z) ≡ b → (IsTrue (is_found (forth (pun ",") z)) → ⊥) → is_found (forth (pun ",") z) ≡ false
    unfollowed true e n = absurd (n e)
    unfollowed false e n = e

    gone : (b : Place) → forth (Unless (codes "," ∷ [])) b ≡ z → IsTrue (is_found z) → IsTrue (is_found (forth (pun ",") b)) → ⊥
    gone b g h c = let bad : IsTrue (is_found Lost) = subst (λ p. IsTrue (is_found p)) (sym g ∙ comma_unless b c) h in cc

part_early : {v : Surroundings} {x y : Place} (t : Tree) → Staged v false (PatProp Assigns) x t y → IsTrue (is_found (forth (pun ",") y)) → is_last t ≡ false
part_early {v} {x} {y} t r f = at (at_part t r) r
  where
    at : {u : Tree} → AtPart u → Staged v false (PatProp Assigns) x u y → is_last u ≡ false
    at paired q = refl
    at short q = refl
    at valued q = refl
    at (rest {ts}) q = absurd (clash _ f (rest_parts {us = ts} (record { is = refl; found = rest_led q }) (of_so_far.from_node (function (RestProperty Assigns)) q).walk).no_comma)

-- ---- behind a key, or a name, that was read

-- a property there has its colon
pub uncoloned : {v : Surroundings} {x y p : Place} {t : Tree} {ts : Forest} → Only so_far v (Part Key) x (one t) y → (IsTrue (is_found (forth (pun ":") y)) → ⊥) → Walk (Whole so_far) (steady v) pair_row x ts p → ⊥
uncoloned o n (next (tree {t = k} q) (next (sign e f) w)) = n (subst (λ a. IsTrue (is_found (forth (pun ":") a))) (sym (o.alone (one k) _ (tree q)).1) (found_at e f))

-- a name alone ends there
pub short_closed : {v : Surroundings} {x y p : Place} {t : Tree} {ts : Forest} → Only so_far v (Part Key) x (one t) y → Closed p → (Closed y → ⊥) → Walk (Whole so_far) (steady v) short_row x ts p → ⊥
short_closed o s n (next (tree q) (done g)) = n (subst Closed (sym (key_end o q)) s)

-- and one with its default goes on with `=`
pub default_unvalued : {v : Surroundings} {x y p : Place} {t : Tree} {ts : Forest} → Only so_far v (Part Key) x (one t) y → (IsTrue (is_found (forth (pun "=") y)) → ⊥) → Walk (Whole so_far) (steady v) default_row x ts p → ⊥
default_unvalued o n (next (tree q) (next (sign e f) w)) = n (subst (λ a. IsTrue (is_found (forth (pun "=") a))) (sym (key_end o q)) (found_at e f))

-- where another mark stands behind the key, none of them does
pub part_behind : {v : Surroundings} {x y z : Place} {t u : Tree} (d : Text) → Only so_far v (Part Key) x (one t) y → IsTrue (is_found (forth (Tok Operator Punctuator d) y)) → same (codes ":") d ≡ false → same (codes "=") d ≡ false → (Closed y → ⊥) → (IsTrue (is_found (forth (pun "...") x)) → ⊥) → Closed z → Whole so_far v false (PatProp Assigns) x u z → ⊥
part_behind {v} {x} {y} {z} {u = u} d o f a b n m s w = at (at_part u w.reads) w
  where
    at : {t : Tree} → AtPart t → Whole so_far v false (PatProp Assigns) x t z → ⊥
    at paired q = uncoloned o (λ g. never_both Punctuator Punctuator (codes ":") d y a g f) (pair_whole q)
    at short q = short_closed o s n (short_whole q)
    at valued q = default_unvalued o (λ g. never_both Punctuator Punctuator (codes "=") d y b g f) (default_whole q)
    at rest q = m (rest_led q.reads)

-- ---- both places of a loop over an object

pub pattern_parts : Braced (PatProp Assigns)
pattern_parts = record {
  none = λ u f w. part_unmarked (codes "}") refl refl f w;
  early = part_early;
  comma_ends = λ y f. of_so_far.ends_there (PatProp Assigns) y (token_stops (PatProp Assigns) Punctuator 44 [] y refl f);
  close_ends = λ y f. of_so_far.ends_there (PatProp Assigns) y (token_stops (PatProp Assigns) Punctuator 125 [] y refl f);
}

pub literal_members : Braced ObjectMember
literal_members = record {
  none = λ u f w. unmarked (codes "}") refl refl f w;
  early = λ t r f. early ObjectMember t refl r.reads.is;
  comma_ends = λ y f. of_so_far.ends_there ObjectMember y (token_stops ObjectMember Punctuator 44 [] y refl f);
  close_ends = λ y f. of_so_far.ends_there ObjectMember y (token_stops ObjectMember Punctuator 125 [] y refl f);
}
