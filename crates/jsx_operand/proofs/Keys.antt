-- The key of a member of an object: a name, a string, a number, or an expression in brackets (ECMA-262 section 13.2.5).
use Rattle.std.proofs.Common.{◌≡◌, Bool, true, false, refl, sym, ◌∙◌, ap, subst, arith}
use Rattle.std.specs.Prelude.{IsTrue, codes}
use Rattle.jsx_base.specs.Token.{Text, TokenKind, Operator, Punctuator, IdentifierName, NumericLiteral, BigIntLiteral, StringLiteral, same}
use Rattle.jsx_tree.specs.Signs.{Tok}
use Rattle.jsx_tree.specs.Kinds.{ComputedKey, Kind, function, Tree, leaf, node, list, Forest}
use Rattle.jsx_tree.specs.Nonterminals.{Key}
use Rattle.jsx_tree.specs.Grammar.{Part, pun}
use Rattle.jsx_tree.specs.Form.{admits, is_leaf}
use Rattle.jsx_tree.specs.Reading.{Place, Lost, forth}
use Rattle.jsx_tree.specs.StaticRules.{Surroundings}
use Rattle.jsx_tree.specs.Walk.{is_found, Given, one, Past, tree, Walk, steady, tail}
use Rattle.jsx_tree.specs.Language.{Whole}
use Rattle.jsx_tree.specs.Answers.{Moves, Only, Barred, NoRow, Built}
use Rattle.jsx_tree.specs.Faults.{Fault, Below, Shallow, part_depth, given_depth}
use Rattle.jsx_tree.proofs.Tokens.{and_both}
use Rattle.jsx_tree.proofs.Apart.{clash, one_token, never_both}
use Rattle.jsx_tree.proofs.Depth.Shallow.{below_shallow}
use Rattle.jsx_tree.proofs.Rows.Bridge.{found_at}
use Rattle.jsx_tree.proofs.Rows.Stopping.{never_stops}
use Rattle.jsx_tree.proofs.Rows.Guarded.{whole_walk, loosen, to_grammar}
use Rattle.jsx_tree.proofs.Rows.Bodies.{plain as plain_row}
use Rattle.jsx_tree.proofs.Rows.Placing.{free_around, moved, node_shallow}
use Rattle.jsx_operand.specs.SoFar.{Staged, so_far}
use Rattle.jsx_operand.specs.Members.{NoOtherKey}
use Rattle.jsx_token.specs.Stage.{leaf_at}
use Rattle.jsx_token.specs.Marks.{row_so_far}
use Rattle.jsx_operand.proofs.OfSoFar.{of_so_far}
use Rattle.jsx_tree.proofs.Rows.Firsts.{kind_home}
use Rattle.jsx_operand.proofs.Standing.{standing}
use Rattle.jsx_operand.proofs.Homes.{Literal, IsName, IsNumber, IsLong, IsString, IsPattern, token_kind, Taken, taken_by, home_of, no_list, staged_leaf}
use Rattle.jsx_operand.proofs.Values.{is_plain, plain_there, literal_sign, mark_other, same_both, leaf_is, leaf_forth, led_sign}
use Rattle.jsx_operand.proofs.Climbing.{signed_built, signed_none}

-- ---- what stands there

-- a literal that is read as an operator is, as all but a regular expression are
pub data AtKey : Tree → Type 0 where
  named : (l : Literal) {t : Text} → is_plain l ≡ true → AtKey (leaf (token_kind l) t)
  bracketed : {ts : Forest} → AtKey (node (function ComputedKey) ts)

key_token : (k : TokenKind) (t : Text) → leaf_at Key k t ≡ true → AtKey (leaf k t)
key_token IdentifierName t h = named IsName refl
key_token NumericLiteral t h = named IsNumber refl
key_token BigIntLiteral t h = named IsLong refl
key_token StringLiteral t h = named IsString refl
key_token _ t h = cc

abbrev is_computed : Kind → Bool
is_computed (function ComputedKey) = true
is_computed k = false

computed_is : (k : Kind) (ts : Forest) → is_computed k ≡ true → AtKey (node k ts)
computed_is (function ComputedKey) ts h = bracketed
computed_is _ ts h = cc

key_kind : (k : Kind) (ts : Forest) → Taken k → admits Key (node k ts) ≡ true → AtKey (node k ts)
key_kind k ts t h = computed_is k ts (standing Key is_computed refl k t (kind_home Key k ts h))

pub at_key : {v : Surroundings} {x y : Place} (t : Tree) → Staged v false Key x t y → AtKey t
at_key (leaf k t) r = key_token k t r.staged
at_key (node k ts) r = key_kind k ts (taken_by r) (home_of r)
at_key (list ts) r = absurd (no_list r)

-- ---- the signs

-- no mark stands where a literal does
pub mark_none : (l : Literal) (t d : Text) (x : Place) → is_plain l ≡ true → IsTrue (is_found (forth (literal_sign l t) x)) → IsTrue (is_found (forth (Tok Operator Punctuator d) x)) → ⊥
mark_none l t d x p f g = clash _ (one_token Punctuator (token_kind l) d t x g (plain_there l t x p f)) (mark_other d l t)

bracket_led : {v : Surroundings} {x z : Place} {ts : Forest} → Staged v false Key x (node (function ComputedKey) ts) z → IsTrue (is_found (forth (pun "[") x))
bracket_led r = led_sign (row_so_far (function ComputedKey)) refl (of_so_far.from_node (function ComputedKey) r).walk

-- and but for the bracket none stands where a key does
pub key_unmarked : {v : Surroundings} {x y : Place} {t : Tree} (d : Text) → same (codes "[") d ≡ false → Staged v false Key x t y → IsTrue (is_found (forth (Tok Operator Punctuator d) x)) → ⊥
key_unmarked {v} {x} {y} {t} d n r f = at (at_key t r) r
  where
    at : {u : Tree} → AtKey u → Staged v false Key x u y → ⊥
    at (named l {t = u} p) q = mark_none l u d x p (found_at (leaf_forth l q) q.reads.found) f
    at bracketed q = never_both Punctuator Punctuator (codes "[") d x n (bracket_led q) f

-- ---- a key that is one token

key_staged : {v : Surroundings} {x y : Place} (l : Literal) (t : Text) → is_plain l ≡ true → is_leaf (token_kind l) t ≡ true → y ≡ forth (literal_sign l t) x → IsTrue (is_found y) → Staged v false Key x (leaf (token_kind l) t) y
key_staged IsName t p w e f = staged_leaf refl refl refl w e f
key_staged IsNumber t p w e f = staged_leaf refl refl refl w e f
key_staged IsLong t p w e f = staged_leaf refl refl refl w e f
key_staged IsString t p w e f = staged_leaf refl refl refl w e f
key_staged IsPattern t p w e f = cc

pub literal_key : {v : Surroundings} {x y : Place} (l : Literal) (t : Text) → is_plain l ≡ true → is_leaf (token_kind l) t ≡ true → y ≡ forth (literal_sign l t) x → IsTrue (is_found y) → Only so_far v (Part Key) x (one (leaf (token_kind l) t)) y
literal_key {v} {x} {y} l t p w e f = record { past = tree (record { reads = key_staged l t p w e f; ends_there = of_so_far.ends_there Key y (never_stops Key y refl) }); alone = at }
  where
    here : {u : Tree} {z : Place} → AtKey u → Staged v false Key x u z → (one (leaf (token_kind l) t) ≡ one u) × (y ≡ z)
    here (named m {t = s} q) r =
        let g = leaf_forth m r in
        let is = same_both l m t s x (found_at (sym e) f) (found_at g r.reads.found) in
        (ap one (leaf_is is.kinds is.texts), e ∙ ((λ i. forth (literal_sign (is.kinds i) (is.texts i)) x) ∙ g))
    here bracketed r = absurd (mark_none l t (codes "[") x p (found_at (sym e) f) (bracket_led r))

    at : (h : Given) (z : Place) → Past (Whole so_far) v (Part Key) x h z → (one (leaf (token_kind l) t) ≡ h) × (y ≡ z)
    at h z (tree {t = u} q) = here (at_key u q.reads) q.reads

-- no token stands there that is one
pub no_literal_key : {v : Surroundings} {x : Place} {o : Fault} → NoOtherKey x → ((t : Text) → forth (Tok Operator StringLiteral t) x ≡ Lost) → ((t : Text) → forth (Tok Operator NumericLiteral t) x ≡ Lost) → ((t : Text) → forth (Tok Operator BigIntLiteral t) x ≡ Lost) → Barred so_far v (Part Key) x o
no_literal_key {v} {x} {o = o} n a b c = record { no = at }
  where
    lost : {p q : Place} → p ≡ Lost → p ≡ q → IsTrue (is_found q) → ⊥
    lost l e f = let bad : IsTrue (is_found Lost) = subst (λ p. IsTrue (is_found p)) l (found_at e f) in cc

    here : {u : Tree} {z : Place} → AtKey u → Staged v false Key x u z → Shallow o (part_depth u) → ⊥
    here (named IsName {t = t} q) r s' = lost (n.name t) (leaf_forth IsName r) r.reads.found
    here (named IsString {t = t} q) r s' = lost (a t) (leaf_forth IsString r) r.reads.found
    here (named IsNumber {t = t} q) r s' = lost (b t) (leaf_forth IsNumber r) r.reads.found
    here (named IsLong {t = t} q) r s' = lost (c t) (leaf_forth IsLong r) r.reads.found
    here (named IsPattern q) r s' = cc
    here bracketed r s' = let bad : IsTrue (is_found Lost) = subst (λ p. IsTrue (is_found p)) n.bracket (bracket_led r) in cc

    at : (h : Given) (z : Place) → Past (Whole so_far) v (Part Key) x h z → Shallow o (given_depth h) → ⊥
    at h z (tree {t = u} q) s = here (at_key u q.reads) q.reads s

-- where no level is left the one that stands there may not
pub deep_key : {v : Surroundings} {x y : Place} {t : Tree} {e : Fault} → Only so_far v (Part Key) x (one t) y → part_depth t ≡ 1 → Below 0 e → Barred so_far v (Part Key) x e
deep_key {e = e} o is b = record {
  no = λ h z q s.
      let d = ap given_depth (o.alone h z q).0 in
      let w = below_shallow 0 e (given_depth h) b s in
      omega (arith, is, d, w);
}

-- the same tree in the code
pub key_as : {v : Surroundings} {x y : Place} {t u : Tree} → u ≡ t → Only so_far v (Part Key) x (one t) y → Only so_far v (Part Key) x (one u) y
key_as {v} {x} {y} e o = subst (λ t. Only so_far v (Part Key) x (one t) y) (sym e) o

-- ---- one in brackets

key_whole : {v : Surroundings} {x z : Place} {ts : Forest} → Staged v false Key x (node (function ComputedKey) ts) z → Walk (Whole so_far) (steady v) (row_so_far (function ComputedKey)) x ts z
key_whole {v} {z = z} {ts} r = moved (λ a h. free_around a ts v h) refl (whole_walk of_so_far Key (row_so_far (function ComputedKey)) refl (of_so_far.ends_there Key z (never_stops Key z refl)) (of_so_far.from_node (function ComputedKey) r).walk)

pub computed_only : {v : Surroundings} {x a y : Place} {t : Tree} → Moves (pun "[") x a → Built so_far v (tail (row_so_far (function ComputedKey))) (function ComputedKey) (λ ts. ts) t a y → Only so_far v (Part Key) x (one t) y
computed_only {v} {x} {a} {y} {t} m b = record {
  past = tree (record {
    reads = subst (λ u. Staged v false Key x u y) (sym w.is) (of_so_far.to_node (function ComputedKey) refl (record { walk = loosen (moved (λ a h. sym (free_around a w.parts v h)) refl w.row.walk); keeps = and_both _ _ (plain_row (row_so_far (function ComputedKey)) refl (to_grammar of_so_far w.row.walk)) refl }));
    ends_there = of_so_far.ends_there Key y (never_stops Key y refl);
  });
  alone = at;
}
  where
    w : Built so_far v (row_so_far (function ComputedKey)) (function ComputedKey) (λ ts. ts) t x y
    w = signed_built (row_so_far (function ComputedKey)) refl m b

    here : {u : Tree} {z : Place} → AtKey u → Staged v false Key x u z → (one t ≡ one u) × (y ≡ z)
    here (named l {t = s} q) r = absurd (mark_none l s (codes "[") x q (found_at (leaf_forth l r) r.reads.found) (found_at (sym m.is) m.found))
    here {z = z} (bracketed {ts}) r = let e = w.row.alone ts z (key_whole r) in (ap one (w.is ∙ ap (node (function ComputedKey)) e.0), e.1)

    at : (h : Given) (z : Place) → Past (Whole so_far) v (Part Key) x h z → (one t ≡ h) × (y ≡ z)
    at h z (tree {t = u} q) = here (at_key u q.reads) q.reads

-- it counts for nothing itself
pub computed_barred : {v : Surroundings} {x a : Place} {e : Fault} → Moves (pun "[") x a → NoRow so_far v (tail (row_so_far (function ComputedKey))) a e → Barred so_far v (Part Key) x e
computed_barred {v} {x} {e = e} m n = record { no = at }
  where
    here : {u : Tree} {z : Place} → AtKey u → Staged v false Key x u z → Shallow e (part_depth u) → ⊥
    here (named l {t = s} q) r a = mark_none l s (codes "[") x q (found_at (leaf_forth l r) r.reads.found) (found_at (sym m.is) m.found)
    here {z = z} (bracketed {ts}) r a = (signed_none (row_so_far (function ComputedKey)) refl m n).no ts z (key_whole r) (node_shallow e false refl of_so_far r a)

    at : (h : Given) (z : Place) → Past (Whole so_far) v (Part Key) x h z → Shallow e (given_depth h) → ⊥
    at h z (tree {t = u} q) s = here (at_key u q.reads) q.reads s
