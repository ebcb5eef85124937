-- What the definitions read, with what may stand behind each part: properties in braces.
use Rattle.jsx_tree.proofs.OneTree.Spines.{blockless, no_blocked}
use Rattle.jsx_tree.proofs.OneTree.Fine.{fine_blocked}
use Rattle.jsx_tree.proofs.OneTree.Known.{taken, plain_leaf}
use Rattle.std.proofs.Common.{◌≡◌, ℕ, ◌≤◌, Bool, true, false, not, List, [], ◌∷◌, refl, sym, ◌∙◌, ap, subst}
use Rattle.std.specs.Prelude.{IsTrue, ◌&&◌, ◌||◌, nat_le, codes}
use Rattle.jsx_base.specs.Token.{Text, Operator, TokenKind, IdentifierName, Punctuator, NumericLiteral, BigIntLiteral, StringLiteral, RegExpLiteral, Elision, kind_number}
use Rattle.jsx_tree.specs.Signs.{Sign, Tok, Unless}
use Rattle.jsx_tree.specs.Kinds.{InObject, Method, Getter, Setter, Role, Binds, Assigns, SubstitutedTemplate, TemplateSpan, Spread, ObjectPat, PropertyPat, ShorthandPat, ShorthandInit, RestProperty, ComputedKey, Object, Property, Shorthand, PlainTemplate, Kind, function, expression, Tree, leaf, node, list, Forest, none, part}
use Rattle.jsx_tree.specs.Nonterminals.{Nonterminal, Expr, Ident, BindingIdent, Key, ObjectMember, PatProp, PatElement, ArrayItem, homes, in_homes, leaf_in}
use Rattle.jsx_tree.specs.Grammar.{Commas, Context, Fixed, Part, Many}
use Rattle.jsx_tree.specs.Form.{admits, is, fits_below}
use Rattle.jsx_tree.specs.StaticRules.{Surroundings}
use Rattle.jsx_tree.specs.Reading.{Place, forth}
use Rattle.jsx_tree.specs.Walk as W
use Rattle.jsx_tree.specs.Walk.{is_found, IsRead}
use Rattle.jsx_tree.proofs.Tokens.{and_left, and_right, and_both}
use Rattle.jsx_tree.proofs.OneTree.Table.{code, kinds}
use Rattle.jsx_tree.proofs.OneTree.Readings.{calm, is_arrow, Reads, head, grow, done, take, under, Prop, long, computed, short, preset, rest, member, Opening, o_named, o_computed, o_worded, Props, key_start, kind_at, text_at, p_shut, p_last, p_more, may_key}
use Rattle.jsx_tree.proofs.OneTree.Readings.{sealed, braces}
use Rattle.jsx_tree.proofs.OneTree.Checks.{every}
use Rattle.jsx_tree.proofs.OneTree.Facts.{never, or_else, not_is, Test, yes', no', test, le_nat, for_kind, Seen, took}
use Rattle.jsx_tree.proofs.OneTree.Sealed.{is_member}
use Rattle.jsx_tree.proofs.OneTree.Places.{is_prop, is_key, is_brace, at_home, no_seq, no_hole, is_inner, free}
use Rattle.jsx_tree.proofs.Rows.Bridge.{node_walk}
use Rattle.jsx_tree.proofs.OneTree.Fine.{at_sign, at_part, at_many, at_end}
use Rattle.jsx_tree.proofs.OneTree.Fine.{tame, tames, tames_of, Good, Fine, fine_leaf, fine_regexp, fine_piece, fine_node, fine_prop, fine_seq, fine_sealed, fine_member, fine_list, Fines, fine_part, one_sign, in_is, no_piece, leaf_reads}
use Rattle.jsx_tree.proofs.OneTree.Spines.{sealless, absent, no_sealed, no_member, home_of, at_kind, taken_scope, no_seq_here}
use Rattle.jsx_tree.proofs.OneTree.Next.{unless_kept, calm_at}
use Rattle.jsx_tree.proofs.OneTree.Placed.{Placed, no_elision, hole_free, regexp_reads, tree_reads, comma_calm, Trail, with_comma, without, trail, close_reach, comma_space, found_start, one_placed, list_fines}
use Rattle.jsx_tree.proofs.OneTree.Templates.{template_walk}

-- ---- braces

-- a leaf of a key, and of a name
pub record IsLeafAt (x : Place) (t : Tree) (y : Place) (k : TokenKind → Bool) : Type 0 where
  pub kind : TokenKind
  pub text : Text
  pub is_tree : t ≡ leaf kind text
  pub keyed : k kind ≡ true
  pub moves : forth (Tok Operator kind text) x ≡ y

abbrev pub is_name : TokenKind → Bool
is_name IdentifierName = true
is_name k = false

no_keys : every (λ l. (is_key l || not (in_homes Key (homes l))) && (not (in_homes Ident (homes l)) && not (in_homes BindingIdent (homes l)))) kinds ≡ true
no_keys = refl

abbrev is_key_tree : Tree → Bool
is_key_tree (leaf s t) = false
is_key_tree (node k cs) = is_key k
is_key_tree (list ts) = false

key_leaf : {v : Surroundings} {x y : Place} {t : Tree} → is_key_tree t ≡ false → Fine t → IsRead v false Key x t y → IsLeafAt x t y may_key
key_leaf {x = x} nk (fine_leaf {s = IdentifierName} {t = t} p) r = record { kind = IdentifierName; text = t; is_tree = refl; keyed = refl; moves = ap (forth (Tok Operator IdentifierName t)) (sym (one_sign x)) ∙ r.scans }
key_leaf {x = x} nk (fine_leaf {s = NumericLiteral} {t = t} p) r = record { kind = NumericLiteral; text = t; is_tree = refl; keyed = refl; moves = ap (forth (Tok Operator NumericLiteral t)) (sym (one_sign x)) ∙ r.scans }
key_leaf {x = x} nk (fine_leaf {s = BigIntLiteral} {t = t} p) r = record { kind = BigIntLiteral; text = t; is_tree = refl; keyed = refl; moves = ap (forth (Tok Operator BigIntLiteral t)) (sym (one_sign x)) ∙ r.scans }
key_leaf {x = x} nk (fine_leaf {s = StringLiteral} {t = t} p) r = record { kind = StringLiteral; text = t; is_tree = refl; keyed = refl; moves = ap (forth (Tok Operator StringLiteral t)) (sym (one_sign x)) ∙ r.scans }
key_leaf nk (fine_leaf {s = Elision} p) r = let bad = in_is r in cc
key_leaf nk (fine_leaf {s = s} p) r = cc
key_leaf nk (fine_piece {s = s} {t = t} p) r = absurd (no_piece Key s t refl p (in_is r))
key_leaf nk (fine_regexp) r = let bad = in_is r in cc
key_leaf nk (fine_sealed {k = k} {cs = cs} s f) r = absurd (no_sealed Key k cs s refl r.is)
key_leaf nk (fine_blocked {k = k} {cs = cs} s f) r = absurd (no_blocked Key k cs s refl r.is)
key_leaf nk (fine_member {k = k} {t = u} {ts = us} s f m g) r = absurd (no_member Key k (part u us) s refl r.is)
key_leaf nk (fine_list f) r = let bad = r.is in cc
key_leaf nk (fine_seq {k = k} {cs = cs} s f) r = absurd (no_seq_here Key k cs s refl r.is)
key_leaf nk (fine_node {k = k} {cs = cs} t np g) r =
    let i = home_of Key k cs (and_left (admits Key (node k cs)) (fits_below Key (node k cs)) r.is) in
    absurd (never (in_homes Key (homes k)) i (not_is _ (or_else (is_key k) (not (in_homes Key (homes k))) (and_left (is_key k || not (in_homes Key (homes k))) _ (for_kind (λ l. (is_key l || not (in_homes Key (homes l))) && (not (in_homes Ident (homes l)) && not (in_homes BindingIdent (homes l)))) no_keys k (taken_scope k t))) nk)))
key_leaf nk (fine_prop {k = k} {cs = cs} t p g) r =
    let i = home_of Key k cs (and_left (admits Key (node k cs)) (fits_below Key (node k cs)) r.is) in
    absurd (never (in_homes Key (homes k)) i (not_is _ (or_else (is_key k) (not (in_homes Key (homes k))) (and_left (is_key k || not (in_homes Key (homes k))) _ (for_kind (λ l. (is_key l || not (in_homes Key (homes l))) && (not (in_homes Ident (homes l)) && not (in_homes BindingIdent (homes l)))) no_keys k (taken_scope k t))) nk)))

-- a key: a token, or an expression in brackets
data KeyAt (x : Place) (t : Tree) (y : Place) : Type 0 where
  by_leaf : IsLeafAt x t y may_key → KeyAt x t y
  by_brackets : {a b : Place} {o : Tree} → t ≡ node (function ComputedKey) (part o none) → forth (Tok Operator Punctuator (codes "[")) x ≡ a → IsTrue (is_found a) → Reads 1 a o b → calm 1 b ≡ true → forth (Tok Operator Punctuator (codes "]")) b ≡ y → KeyAt x t y

key_is : (k : Kind) → is_key k ≡ true → k ≡ function ComputedKey
key_is (function ComputedKey) h = refl
key_is _ h = cc

computed_key : {v : Surroundings} {x y : Place} (cs : Forest) → Fines cs → tames cs ≡ true → IsRead v false Key x (node (function ComputedKey) cs) y → KeyAt x (node (function ComputedKey) cs) y
computed_key {x = x} {y} cs f m r =
    let s = at_sign (node_walk false (function ComputedKey) refl r).walk in
    let p = at_part s.walk in
    let u = at_sign p.walk in
    let z = at_end u.walk in
    let is : cs ≡ part p.tree none = p.is ∙ ap (part p.tree) z.0 in
    let m0 = and_left (tame p.tree) true (subst (λ cs. tames cs ≡ true) is m) in
    let q = close_reach (codes "]") p.next refl u.moves u.found in
    by_brackets (ap (node (function ComputedKey)) is) s.moves s.found (tree_reads 1 1 (Expr 1) (one_fine (subst Fines is f)) m0 (hole_free p.tree (Expr 1) refl p.read) p.read one_placed q) q (u.moves ∙ z.1)
  where
    one_fine : {t : Tree} {ts : Forest} → Fines (part t ts) → Fine t
    one_fine (fine_part f fs) = f

key_at : {v : Surroundings} {x y : Place} {t : Tree} → Fine t → tame t ≡ true → IsRead v false Key x t y → KeyAt x t y
key_at {v} {x} {y} (fine_prop {k = k} {cs = cs} t p g) m r = by_case (test (is_key k))
  where
    by_case : Test (is_key k) → KeyAt x (node k cs) y
    by_case (no' n) = by_leaf (key_leaf n (fine_prop t p g) r)
    by_case (yes' b) = subst (λ k. KeyAt x (node k cs) y) (sym (key_is k b)) (computed_key cs g (tames_of k cs t m) (subst (λ k. IsRead v false Key x (node k cs) y) (key_is k b) r))
key_at {v} {x} {y} (fine_node {k = k} {cs = cs} t p g) m r = by_leaf (key_leaf (no_key k p) (fine_node t p g) r)
  where
    no_key : (k : Kind) → is_prop k ≡ false → is_key k ≡ false
    no_key k p = by_case (test (is_key k))
      where
        by_case : Test (is_key k) → is_key k ≡ false
        by_case (no' n) = n
        by_case (yes' b) = absurd (never (is_prop k) (ap is_prop (key_is k b)) p)
key_at (fine_piece p) m r = by_leaf (key_leaf refl (fine_piece p) r)
key_at (fine_regexp) m r = by_leaf (key_leaf refl fine_regexp r)
key_at (fine_leaf p) m r = by_leaf (key_leaf refl (fine_leaf p) r)
key_at (fine_sealed {k = k} {cs = cs} s f) m r = absurd (no_sealed Key k cs s refl r.is)
key_at (fine_blocked {k = k} {cs = cs} s f) m r = absurd (no_blocked Key k cs s refl r.is)
key_at (fine_member {k = k} {t = u} {ts = us} s f n g) m r = absurd (no_member Key k (part u us) s refl r.is)
key_at (fine_list f) m r = by_leaf (key_leaf refl (fine_list f) r)
key_at (fine_seq {k = k} {cs = cs} s f) m r = absurd (no_seq_here Key k cs s refl r.is)

abbrev pub is_name_place : Nonterminal → Bool
is_name_place Ident = true
is_name_place BindingIdent = true
is_name_place c = false

name_home : (c : Nonterminal) (k : Kind) → is_name_place c ≡ true → taken k ≡ true → in_homes c (homes k) ≡ false
name_home Ident k n t = not_is _ (and_left (not (in_homes Ident (homes k))) _ (and_right (is_key k || not (in_homes Key (homes k))) _ (for_kind (λ l. (is_key l || not (in_homes Key (homes l))) && (not (in_homes Ident (homes l)) && not (in_homes BindingIdent (homes l)))) no_keys k (taken_scope k t))))
name_home BindingIdent k n t = not_is _ (and_right (not (in_homes Ident (homes k))) _ (and_right (is_key k || not (in_homes Key (homes k))) _ (for_kind (λ l. (is_key l || not (in_homes Key (homes l))) && (not (in_homes Ident (homes l)) && not (in_homes BindingIdent (homes l)))) no_keys k (taken_scope k t))))
name_home _ k n t = cc

name_blockless : (c : Nonterminal) → is_name_place c ≡ true → blockless c ≡ true
name_blockless Ident n = refl
name_blockless BindingIdent n = refl
name_blockless _ n = cc

name_absent : (c : Nonterminal) → is_name_place c ≡ true → absent c ≡ true
name_absent Ident n = refl
name_absent BindingIdent n = refl
name_absent _ n = cc

name_seq : (c : Nonterminal) → is_name_place c ≡ true → no_seq c ≡ true
name_seq Ident n = refl
name_seq BindingIdent n = refl
name_seq _ n = cc

name_regexp : (c : Nonterminal) (t : Text) → is_name_place c ≡ true → leaf_in c RegExpLiteral t ≡ true → ⊥
name_regexp Ident t n i = cc
name_regexp BindingIdent t n i = cc
name_regexp _ t n i = cc

name_free : (c : Nonterminal) → is_name_place c ≡ true → free c ≡ true
name_free Ident n = refl
name_free BindingIdent n = refl
name_free _ n = cc

other_leaf : (c : Nonterminal) (s : TokenKind) (t : Text) → is_name_place c ≡ true → plain_leaf s ≡ true → is_name s ≡ false → leaf_in c s t ≡ true → ⊥
other_leaf Ident NumericLiteral t n p o i = cc
other_leaf Ident BigIntLiteral t n p o i = cc
other_leaf Ident StringLiteral t n p o i = cc
other_leaf Ident Elision t n p o i = cc
other_leaf BindingIdent NumericLiteral t n p o i = cc
other_leaf BindingIdent BigIntLiteral t n p o i = cc
other_leaf BindingIdent StringLiteral t n p o i = cc
other_leaf BindingIdent Elision t n p o i = cc
other_leaf Ident _ t n p o i = cc
other_leaf BindingIdent _ t n p o i = cc
other_leaf _ s t n p o i = cc

pub name_leaf : (c : Nonterminal) {v : Surroundings} {x y : Place} {t : Tree} → is_name_place c ≡ true → Fine t → IsRead v false c x t y → IsLeafAt x t y is_name
name_leaf c {x = x} n (fine_leaf {s = IdentifierName} {t = t} p) r = record { kind = IdentifierName; text = t; is_tree = refl; keyed = refl; moves = ap (forth (Tok Operator IdentifierName t)) (sym (one_sign x)) ∙ r.scans }
name_leaf c n (fine_leaf {s = NumericLiteral} {t = t} p) r = absurd (other_leaf c NumericLiteral t n p refl (in_is r))
name_leaf c n (fine_leaf {s = BigIntLiteral} {t = t} p) r = absurd (other_leaf c BigIntLiteral t n p refl (in_is r))
name_leaf c n (fine_leaf {s = StringLiteral} {t = t} p) r = absurd (other_leaf c StringLiteral t n p refl (in_is r))
name_leaf c n (fine_leaf {s = Elision} {t = t} p) r = absurd (other_leaf c Elision t n p refl (in_is r))
name_leaf c n (fine_leaf {s = s} p) r = cc
name_leaf c n (fine_piece {s = s} {t = t} p) r = absurd (no_piece c s t (name_free c n) p (in_is r))
name_leaf c n (fine_regexp {t = t}) r = absurd (name_regexp c t n (in_is r))
name_leaf c n (fine_sealed {k = k} {cs = cs} s f) r = absurd (no_sealed c k cs s (and_left (sealless c) _ (name_absent c n)) r.is)
name_leaf c n (fine_blocked {k = k} {cs = cs} s f) r = absurd (no_blocked c k cs s (name_blockless c n) r.is)
name_leaf c n (fine_member {k = k} {t = u} {ts = us} s f m g) r = absurd (no_member c k (part u us) s (and_right (sealless c) _ (name_absent c n)) r.is)
name_leaf c n (fine_list f) r = let bad = r.is in cc
name_leaf c n (fine_seq {k = k} {cs = cs} s f) r = absurd (no_seq_here c k cs s (name_seq c n) r.is)
name_leaf c n (fine_node {k = k} {cs = cs} t np g) r = absurd (never _ (home_of c k cs (and_left (admits c (node k cs)) (fits_below c (node k cs)) r.is)) (name_home c k n t))
name_leaf c n (fine_prop {k = k} {cs = cs} t p g) r = absurd (never _ (home_of c k cs (and_left (admits c (node k cs)) (fits_below c (node k cs)) r.is)) (name_home c k n t))

pub name_text : (s : TokenKind) → is_name s ≡ true → s ≡ IdentifierName
name_text IdentifierName h = refl
name_text _ h = cc

part_fines : {t : Tree} {ts : Forest} → Fines (part t ts) → Fine t × Fines ts
part_fines (fine_part f fs) = (f, fs)

colon_sign : Sign
colon_sign = Tok Operator Punctuator (codes ":")

with_key : (k : Kind) {x p q y : Place} {t u : Tree} → code k ≡ 50 → is_arrow k ≡ false → KeyAt x t p → IsTrue (is_found p) → forth (Tok Operator Punctuator (codes ":")) p ≡ q → IsTrue (is_found q) → Reads 1 q u y → calm 1 y ≡ true → Prop x (node k (part t (part u none))) y
with_key k {x = x} {y = y} {u = u} d o (by_leaf h) f e g r c = subst (λ t. Prop x (node k (part t (part u none))) y) (sym h.is_tree) (long d o h.keyed h.moves f e g r c)
with_key k {x = x} {y = y} {u = u} d o (by_brackets is a b r' c' z) f e g r c = subst (λ t. Prop x (node k (part t (part u none))) y) (sym is) (computed d o a b r' c' z f e g r c)

-- `key: value`
long_reads : (k : Kind) (c : Nonterminal) {V : List Context → Surroundings} {a : List Context} {x y : Place} (cs : Forest) → code k ≡ 50 → is_arrow k ≡ false → Placed 1 1 c → no_hole c ≡ true → Fines cs → tames cs ≡ true
    → W.Walk IsRead V (W.piece a (Part Key) ∷ W.piece a (Fixed (Tok Operator Punctuator (codes ":"))) ∷ W.piece a (Part c) ∷ []) x cs y → calm 1 y ≡ true → Prop x (node k cs) y
long_reads k c {x = x} {y} cs d o l n f m w q =
    let p = at_part w in
    let s = at_sign p.walk in
    let b = at_part s.walk in
    let z = at_end b.walk in
    let is : cs ≡ part p.tree (part b.tree none) = p.is ∙ (ap (part p.tree) b.is ∙ ap (λ u. part p.tree (part b.tree u)) z.0) in
    let f0 = part_fines (subst Fines is f) in
    let f1 = part_fines f0.1 in
    let m0 = subst (λ u. tames u ≡ true) is m in
    let m1 = and_left (tame b.tree) true (and_right (tame p.tree) (tames (part b.tree none)) m0) in
    let q' : calm 1 b.next ≡ true = calm_at 1 z.1 q in
    let r = tree_reads 1 1 c f1.0 m1 (hole_free b.tree c n b.read) b.read l q' in
    subst (λ y. Prop x (node k cs) y) z.1 (subst (λ cs. Prop x (node k cs) b.next) (sym is) (with_key k d o (key_at f0.0 (and_left (tame p.tree) (tames (part b.tree none)) m0) p.read) p.read.found s.moves s.found r q'))

-- `key`, in a literal and a pattern
short_reads : (k : Kind) (c : Nonterminal) {V : List Context → Surroundings} {a : List Context} {x y : Place} (cs : Forest) → code k ≡ 51 → is_arrow k ≡ false → is_name_place c ≡ true → Fines cs
    → W.Walk IsRead V (W.piece a (Part c) ∷ []) x cs y → Prop x (node k cs) y
short_reads k c {x = x} {y} cs d o n f w =
    let p = at_part w in
    let z = at_end p.walk in
    let is : cs ≡ part p.tree none = p.is ∙ ap (part p.tree) z.0 in
    let f0 = part_fines (subst Fines is f) in
    let h = name_leaf c n f0.0 p.read in
    let g = name_text h.kind h.keyed in
    subst (λ y. Prop x (node k cs) y) z.1
    (subst (λ cs. Prop x (node k cs) p.next) (sym (is ∙ (ap (λ t. part t none) h.is_tree ∙ ap (λ s. part (leaf s h.text) none) g))) (short d o (ap (λ s. forth (Tok Operator s h.text) x) (sym g) ∙ h.moves) p.read.found))

-- `key = value`
preset_reads : (k : Kind) {V : List Context → Surroundings} {a : List Context} {x y : Place} (cs : Forest) → code k ≡ 52 → is_arrow k ≡ false → Fines cs → tames cs ≡ true
    → W.Walk IsRead V (W.piece a (Part BindingIdent) ∷ W.piece a (Fixed (Tok Operator Punctuator (codes "="))) ∷ W.piece a (Part (Expr 1)) ∷ []) x cs y → calm 1 y ≡ true → Prop x (node k cs) y
preset_reads k {x = x} {y} cs d o f m w q =
    let p = at_part w in
    let s = at_sign p.walk in
    let b = at_part s.walk in
    let z = at_end b.walk in
    let is : cs ≡ part p.tree (part b.tree none) = p.is ∙ (ap (part p.tree) b.is ∙ ap (λ u. part p.tree (part b.tree u)) z.0) in
    let f0 = part_fines (subst Fines is f) in
    let f1 = part_fines f0.1 in
    let m0 = subst (λ u. tames u ≡ true) is m in
    let m1 = and_left (tame b.tree) true (and_right (tame p.tree) (tames (part b.tree none)) m0) in
    let h = name_leaf BindingIdent refl f0.0 p.read in
    let g = name_text h.kind h.keyed in
    let q' : calm 1 b.next ≡ true = calm_at 1 z.1 q in
    let r = tree_reads 1 1 (Expr 1) f1.0 m1 (hole_free b.tree (Expr 1) refl b.read) b.read one_placed q' in
    subst (λ y. Prop x (node k cs) y) z.1
    (subst (λ cs. Prop x (node k cs) b.next) (sym (is ∙ (ap (λ t. part t (part b.tree none)) h.is_tree ∙ ap (λ s. part (leaf s h.text) (part b.tree none)) g)))
    (preset d o (ap (λ s. forth (Tok Operator s h.text) x) (sym g) ∙ h.moves) p.read.found s.moves s.found r q'))

-- `...rest` of a pattern
rest_reads : (k : Kind) {V : List Context → Surroundings} {a : List Context} {x y : Place} (cs : Forest) → code k ≡ 2 → is_arrow k ≡ false → Fines cs
    → W.Walk IsRead V (W.piece a (Fixed (Tok Operator Punctuator (codes "..."))) ∷ W.piece a (Part BindingIdent) ∷ W.piece a (Fixed (Unless (codes "," ∷ []))) ∷ []) x cs y → calm 1 y ≡ true → Prop x (node k cs) y
rest_reads k {x = x} {y} cs d o f w q =
    let s = at_sign w in
    let p = at_part s.walk in
    let u = at_sign p.walk in
    let z = at_end u.walk in
    let g = unless_kept (codes "," ∷ []) p.next u.next refl u.moves u.found in
    let is : cs ≡ part p.tree none = p.is ∙ ap (part p.tree) z.0 in
    let f0 = part_fines (subst Fines is f) in
    let h = name_leaf BindingIdent refl f0.0 p.read in
    let y' : p.next ≡ y = g.place ∙ z.1 in
    let q' : calm 1 p.next ≡ true = calm_at 1 y' q in
    subst (λ y. Prop x (node k cs) y) y'
    (subst (λ cs. Prop x (node k cs) p.next) (sym is) (rest d o s.moves s.found (name_reads f0.0 p.read) q'))
  where
    name_reads : {v : Surroundings} {x y : Place} {t : Tree} → Fine t → IsRead v false BindingIdent x t y → Reads 1 x t y
    name_reads (fine_leaf {s = s} {t = t} p) r = leaf_reads 1 s t r refl p (no_elision BindingIdent s t refl (in_is r))
    name_reads (fine_piece {s = s} {t = t} p) r = absurd (no_piece BindingIdent s t refl p (in_is r))
    name_reads (fine_regexp {t = t}) r = regexp_reads 1 t r
    name_reads (fine_sealed {k = k} {cs = cs} s f) r = absurd (no_sealed BindingIdent k cs s refl r.is)
    name_reads (fine_blocked {k = k} {cs = cs} s f) r = absurd (no_blocked BindingIdent k cs s refl r.is)
    name_reads (fine_member {k = k} {t = u} {ts = us} s f m g) r = absurd (no_member BindingIdent k (part u us) s refl r.is)
    name_reads (fine_list f) r = let bad = r.is in cc
    name_reads (fine_seq {k = k} {cs = cs} s f) r = absurd (no_seq_here BindingIdent k cs s refl r.is)
    name_reads (fine_node {k = k} {cs = cs} t np g) r = absurd (never _ (home_of BindingIdent k cs (and_left (admits BindingIdent (node k cs)) (fits_below BindingIdent (node k cs)) r.is)) (name_home BindingIdent k refl t))
    name_reads (fine_prop {k = k} {cs = cs} t p g) r = absurd (never _ (home_of BindingIdent k cs (and_left (admits BindingIdent (node k cs)) (fits_below BindingIdent (node k cs)) r.is)) (name_home BindingIdent k refl t))

-- `...a` of a literal
spread_prop : {n : ℕ} {x y : Place} {cs : Forest} → Reads n x (node (expression Spread) cs) y → Prop x (node (expression Spread) cs) y
spread_prop (head s a i l d (take e f (under r c done))) = rest refl refl e f r c
spread_prop (grow s d l b r w) = cc
spread_prop (sealed l s) = let bad = s.closed.kind' in cc
spread_prop (braces l c a e f p) = cc

element_placed : (r : Role) → Placed 1 1 (PatElement r)
element_placed Binds = record { kin' = refl; home' = refl; ended' = refl; seq' = refl }
element_placed Assigns = record { kin' = refl; home' = refl; ended' = refl; seq' = refl }

element_hole : (r : Role) → no_hole (PatElement r) ≡ true
element_hole Binds = refl
element_hole Assigns = refl

own_prop : (k : Kind) (cs : Forest) {v : Surroundings} {c : Nonterminal} {x y : Place} → is_inner k ≡ false → is_prop k ≡ true → Fines cs → tames cs ≡ true → IsRead v false c x (node k cs) y → calm 1 y ≡ true → Prop x (node k cs) y
own_prop (expression Property) cs nk p f m r q = long_reads (expression Property) (Expr 1) cs refl refl one_placed refl f m (node_walk false (expression Property) refl r).walk q
own_prop (function (PropertyPat o)) cs nk p f m r q = long_reads (function (PropertyPat o)) (PatElement o) cs (long_code o) refl (element_placed o) (element_hole o) f m (node_walk false (function (PropertyPat o)) refl r).walk q
  where
    long_code : (o : Role) → code (function (PropertyPat o)) ≡ 50
    long_code Binds = refl
    long_code Assigns = refl
own_prop (expression Shorthand) cs nk p f m r q = short_reads (expression Shorthand) Ident cs refl refl refl f (node_walk false (expression Shorthand) refl r).walk
own_prop (function (ShorthandPat o)) cs nk p f m r q = short_reads (function (ShorthandPat o)) BindingIdent cs (short_code o) refl refl f (node_walk false (function (ShorthandPat o)) refl r).walk
  where
    short_code : (o : Role) → code (function (ShorthandPat o)) ≡ 51
    short_code Binds = refl
    short_code Assigns = refl
own_prop (function (ShorthandInit o)) cs nk p f m r q = preset_reads (function (ShorthandInit o)) cs (preset_code o) refl f m (node_walk false (function (ShorthandInit o)) refl r).walk q
  where
    preset_code : (o : Role) → code (function (ShorthandInit o)) ≡ 52
    preset_code Binds = refl
    preset_code Assigns = refl
own_prop (function (RestProperty o)) cs nk p f m r q = rest_reads (function (RestProperty o)) cs (rest_code o) refl f (node_walk false (function (RestProperty o)) refl r).walk q
  where
    rest_code : (o : Role) → code (function (RestProperty o)) ≡ 2
    rest_code Binds = refl
    rest_code Assigns = refl
own_prop (expression (PlainTemplate true)) cs nk p f m r q = absurd (never true refl nk)
own_prop (expression (PlainTemplate false)) cs nk p f m r q = absurd (never false p refl)
own_prop (expression (SubstitutedTemplate true)) cs nk p f m r q = absurd (never true refl nk)
own_prop (expression (SubstitutedTemplate false)) cs nk p f m r q = absurd (never false p refl)
own_prop (expression (TemplateSpan b)) cs nk p f m r q = absurd (never true refl nk)
own_prop _ cs nk p f m r q = cc

abbrev prop_place : Nonterminal → Bool
prop_place ObjectMember = true
prop_place (PatProp Binds) = true
prop_place (PatProp Assigns) = true
prop_place c = false

abbrev is_spread : Kind → Bool
is_spread (expression Spread) = true
is_spread k = false

spread_is : (k : Kind) → is_spread k ≡ true → k ≡ expression Spread
spread_is (expression Spread) h = refl
spread_is _ h = cc

abbrev prop_or_spread : Kind → Bool
prop_or_spread l = is_prop l || is_spread l

prop_homes : (c : Nonterminal) → prop_place c ≡ true → at_home c prop_or_spread ≡ true
prop_homes ObjectMember p = refl
prop_homes (PatProp Binds) p = refl
prop_homes (PatProp Assigns) p = refl
prop_homes _ p = cc

prop_blockless : (c : Nonterminal) → prop_place c ≡ true → blockless c ≡ true
prop_blockless ObjectMember p = refl
prop_blockless (PatProp Binds) p = refl
prop_blockless (PatProp Assigns) p = refl
prop_blockless _ p = cc

prop_absent : (c : Nonterminal) → prop_place c ≡ true → sealless c ≡ true
prop_absent ObjectMember p = refl
prop_absent (PatProp Binds) p = refl
prop_absent (PatProp Assigns) p = refl
prop_absent _ p = cc

prop_seq : (c : Nonterminal) → prop_place c ≡ true → no_seq c ≡ true
prop_seq ObjectMember p = refl
prop_seq (PatProp Binds) p = refl
prop_seq (PatProp Assigns) p = refl
prop_seq _ p = cc

prop_regexp : (c : Nonterminal) (t : Text) → prop_place c ≡ true → leaf_in c RegExpLiteral t ≡ true → ⊥
prop_regexp ObjectMember t p i = cc
prop_regexp (PatProp Binds) t p i = cc
prop_regexp (PatProp Assigns) t p i = cc
prop_regexp _ t p i = cc

prop_free : (c : Nonterminal) → prop_place c ≡ true → free c ≡ true
prop_free ObjectMember p = refl
prop_free (PatProp Binds) p = refl
prop_free (PatProp Assigns) p = refl
prop_free _ p = cc

prop_leaf : (c : Nonterminal) (s : TokenKind) (t : Text) → prop_place c ≡ true → leaf_in c s t ≡ true → plain_leaf s ≡ true → ⊥
prop_leaf ObjectMember IdentifierName t p i l = cc
prop_leaf ObjectMember NumericLiteral t p i l = cc
prop_leaf ObjectMember BigIntLiteral t p i l = cc
prop_leaf ObjectMember StringLiteral t p i l = cc
prop_leaf ObjectMember Elision t p i l = cc
prop_leaf (PatProp Binds) IdentifierName t p i l = cc
prop_leaf (PatProp Binds) NumericLiteral t p i l = cc
prop_leaf (PatProp Binds) BigIntLiteral t p i l = cc
prop_leaf (PatProp Binds) StringLiteral t p i l = cc
prop_leaf (PatProp Binds) Elision t p i l = cc
prop_leaf (PatProp Assigns) IdentifierName t p i l = cc
prop_leaf (PatProp Assigns) NumericLiteral t p i l = cc
prop_leaf (PatProp Assigns) BigIntLiteral t p i l = cc
prop_leaf (PatProp Assigns) StringLiteral t p i l = cc
prop_leaf (PatProp Assigns) Elision t p i l = cc
prop_leaf ObjectMember _ t p i l = cc
prop_leaf (PatProp Binds) _ t p i l = cc
prop_leaf (PatProp Assigns) _ t p i l = cc
prop_leaf _ s t p i l = cc

inner_home : (c : Nonterminal) → prop_place c ≡ true → at_home c (λ l. not (is_inner l)) ≡ true
inner_home ObjectMember p = refl
inner_home (PatProp Binds) p = refl
inner_home (PatProp Assigns) p = refl
inner_home _ p = cc

spread_reads : {v : Surroundings} {c : Nonterminal} {x y : Place} (cs : Forest) → Good (node (expression Spread) cs) → IsRead v false c x (node (expression Spread) cs) y → calm 1 y ≡ true → Prop x (node (expression Spread) cs) y
spread_reads {v} {c} {x} {y} cs g r q =
    spread_prop (g.reads 1 v ArrayItem x y (record { is = and_both true (fits_below c (node (expression Spread) cs)) refl (and_right (admits c (node (expression Spread) cs)) (fits_below c (node (expression Spread) cs)) r.is); is_legal = r.is_legal; scans = r.scans; found = r.found }) refl refl q)

-- ---- methods

abbrev first_part : Forest → Tree
first_part (part t ts) = t
first_part none = list none

key_begun : {x y : Place} {t : Tree} → KeyAt x t y → IsTrue (is_found y) → key_start (kind_at x) (text_at x) ≡ true
key_begun {x = x} (by_leaf l) f = let r : Seen x l.kind l.text = took l.kind l.text x l.moves f in (λ i. key_start (r.kind i) (r.text i)) ∙ by_kind l.kind l.text l.keyed
  where
    by_kind : (s : TokenKind) (t : Text) → may_key s ≡ true → key_start (kind_number s) t ≡ true
    by_kind IdentifierName t h = refl
    by_kind NumericLiteral t h = refl
    by_kind BigIntLiteral t h = refl
    by_kind StringLiteral t h = refl
    by_kind _ t h = cc
key_begun {x = x} (by_brackets q e f' r c g) f = let r : Seen x Punctuator (codes "[") = took Punctuator (codes "[") x e f' in (λ i. key_start (r.kind i) (r.text i))

key_opens : {x y : Place} {t : Tree} → KeyAt x t y → IsTrue (is_found y) → IsTrue (is_found (forth (Tok Operator Punctuator (codes "(")) y)) → Opening x
key_opens {y = y} (by_leaf l) f o = o_named l.kind l.text y l.keyed l.moves f o
key_opens {y = y} (by_brackets {a = a} {b = b} {o = u} q e f' r c g) f o = o_computed a b y u e f' r c g f o

opening : (k : Kind) (t : Tree) (ts : Forest) {v : Surroundings} {x y : Place} → is_member k ≡ true → Fine t → tame t ≡ true → IsRead v false ObjectMember x (node k (part t ts)) y → Opening x
opening (function (Method InObject)) t ts s f m r =
    let p = at_part (node_walk false (function (Method InObject)) refl r).walk in
    let o = at_sign p.walk in
    let e : t ≡ p.tree = ap first_part p.is in
    key_opens (key_at (subst Fine e f) (subst (λ t. tame t ≡ true) e m) p.read) p.read.found (subst (λ z. IsTrue (is_found z)) (sym o.moves) o.found)
opening (function (Getter InObject)) t ts s f m r =
    let w = at_sign (node_walk false (function (Getter InObject)) refl r).walk in
    let p = at_part w.walk in
    let e : t ≡ p.tree = ap first_part p.is in
    o_worded (codes "get") w.next w.moves w.found (key_begun (key_at (subst Fine e f) (subst (λ t. tame t ≡ true) e m) p.read) p.read.found)
opening (function (Setter InObject)) t ts s f m r =
    let w = at_sign (node_walk false (function (Setter InObject)) refl r).walk in
    let p = at_part w.walk in
    let e : t ≡ p.tree = ap first_part p.is in
    o_worded (codes "set") w.next w.moves w.found (key_begun (key_at (subst Fine e f) (subst (λ t. tame t ≡ true) e m) p.read) p.read.found)
opening (function (Method _)) t ts s f m r = cc
opening (function (Getter _)) t ts s f m r = cc
opening (function (Setter _)) t ts s f m r = cc
opening (function _) t ts s f m r = cc
opening _ t ts s f m r = cc

prop_reads : (c : Nonterminal) {v : Surroundings} {x y : Place} {t : Tree} → prop_place c ≡ true → Fine t → tame t ≡ true → IsRead v false c x t y → calm 1 y ≡ true → Prop x t y
prop_reads c p (fine_leaf {s = s} {t = t} l) m r q = absurd (prop_leaf c s t p (in_is r) l)
prop_reads c p (fine_piece {s = s} {t = t} l) m r q = absurd (no_piece c s t (prop_free c p) l (in_is r))
prop_reads c p (fine_regexp {t = t}) m r q = absurd (prop_regexp c t p (in_is r))
prop_reads c p (fine_sealed {k = k} {cs = cs} s f) m r q = absurd (no_sealed c k cs s (prop_absent c p) r.is)
prop_reads c p (fine_blocked {k = k} {cs = cs} s f) m r q = absurd (no_blocked c k cs s (prop_blockless c p) r.is)
prop_reads ObjectMember p (fine_member {t = u} {ts = us} s f n g) m r q = member (g.closes' r) (opening _ u us s f n r)
prop_reads (PatProp Binds) p (fine_member {k = k} {t = u} {ts = us} s f n g) m r q = absurd (no_member (PatProp Binds) k (part u us) s refl r.is)
prop_reads (PatProp Assigns) p (fine_member {k = k} {t = u} {ts = us} s f n g) m r q = absurd (no_member (PatProp Assigns) k (part u us) s refl r.is)
prop_reads _ p (fine_member s f n g) m r q = cc
prop_reads c p (fine_list f) m r q = let bad = r.is in cc
prop_reads c p (fine_seq {k = k} {cs = cs} s f) m r q = absurd (no_seq_here c k cs s (prop_seq c p) r.is)
prop_reads c {x = x} {y} p (fine_prop {k = k} {cs = cs} t g f) m r q = by_case (test (is_inner k))
  where
    by_case : Test (is_inner k) → Prop x (node k cs) y
    by_case (no' n) = own_prop k cs n g f (tames_of k cs t m) r q
    by_case (yes' b) =
        let i = home_of c k cs (and_left (admits c (node k cs)) (fits_below c (node k cs)) r.is) in
        absurd (never (is_inner k) b (not_is _ (at_kind c (λ l. not (is_inner l)) k (inner_home c p) (taken_scope k t) i)))
prop_reads c {v} {x} {y} p (fine_node {k = k} {cs = cs} t np g) m r q =
    let i = home_of c k cs (and_left (admits c (node k cs)) (fits_below c (node k cs)) r.is) in
    let s = spread_is k (or_else (is_prop k) (is_spread k) (at_kind c prop_or_spread k (prop_homes c p) (taken_scope k t) i) np) in
    subst (λ k. Good (node k cs) → IsRead v false c x (node k cs) y → Prop x (node k cs) y) (sym s) (λ g r. spread_reads cs g r q) g r

trail_props : {x y w z : Place} {t : Tree} → ((n : calm 1 y ≡ true) → Prop x t y) → Trail y w → forth (Tok Operator Punctuator (codes "}")) w ≡ z → IsTrue (is_found z) → Props x (part t none) z
trail_props {y = y} r (with_comma g' k') e o = p_more (r (comma_calm y g' k')) g' k' (p_shut e o)
trail_props {y = y} r (without p) e o =
    let e' = ap (forth (Tok Operator Punctuator (codes "}"))) p ∙ e in
    p_last (r (close_reach (codes "}") y refl e' o)) e' o

pub props_listed : (c : Nonterminal) {v : Surroundings} {x y z : Place} (ts : Forest) → prop_place c ≡ true → Fines ts → tames ts ≡ true → W.Items IsRead v Commas c x ts y → forth (Tok Operator Punctuator (codes "}")) y ≡ z → IsTrue (is_found z) → Props x ts z
props_listed c none p f m (W.nil g) e o = p_shut e o
props_listed c (part t none) p (fine_part f fs) m (W.last {y = y} {z = w} r g k) e o = trail_props (λ n. prop_reads c p f (and_left (tame t) true m) r n) (trail y w g k) e o
props_listed c (part t (part t' ts)) p (fine_part f fs) m (W.more {y = y} {z = w} n r g i) e o =
    let g' = comma_space y w g in
    let k' = found_start i in
    p_more (prop_reads c p f (and_left (tame t) _ m) r (comma_calm y g' k')) g' k' (props_listed c (part t' ts) p fs (and_right (tame t) _ m) i e o)

brace_walk : (k : Kind) (c : Nonterminal) {n : ℕ} {V : List Context → Surroundings} {a : List Context} {x y : Place} (cs : Forest) → code k ≡ 54 → is_arrow k ≡ false → n ≤ 19 → prop_place c ≡ true → Fines cs → tames cs ≡ true
    → W.Walk IsRead V (W.piece a (Fixed (Tok Operator Punctuator (codes "{"))) ∷ W.piece a (Many Commas c) ∷ W.piece a (Fixed (Tok Operator Punctuator (codes "}"))) ∷ []) x cs y → Reads n x (node k cs) y
brace_walk k c {n} {x = x} {y} cs d o l p f m w =
    let s = at_sign w in
    let b = at_many s.walk in
    let u = at_sign b.walk in
    let z = at_end u.walk in
    let is : cs ≡ part (list b.trees) none = b.is ∙ ap (part (list b.trees)) z.0 in
    let fs = list_fines (subst Fines is f) in
    let ms = and_left (tames b.trees) true (subst (λ u. tames u ≡ true) is m) in
    subst (λ y. Reads n x (node k cs) y) z.1
    (subst (λ cs. Reads n x (node k cs) u.next) (sym is) (braces l d o s.moves s.found (props_listed c b.trees p fs ms b.read u.moves u.found)))

pub braces_good : (k : Kind) (cs : Forest) → taken k ≡ true → is_brace k ≡ true → tames cs ≡ true → Fines cs → Good (node k cs)
braces_good (expression Object) cs t b m f = record { reads = λ n v c x y r i s q. brace_walk (expression Object) ObjectMember cs refl refl (le_nat (and_left (nat_le n 19) _ s)) refl f m (node_walk false (expression Object) refl r).walk }
braces_good (function (ObjectPat Binds)) cs t b m f = record { reads = λ n v c x y r i s q. brace_walk (function (ObjectPat Binds)) (PatProp Binds) cs refl refl (le_nat (and_left (nat_le n 19) _ s)) refl f m (node_walk false (function (ObjectPat Binds)) refl r).walk }
braces_good (function (ObjectPat Assigns)) cs t b m f = record { reads = λ n v c x y r i s q. brace_walk (function (ObjectPat Assigns)) (PatProp Assigns) cs refl refl (le_nat (and_left (nat_le n 19) _ s)) refl f m (node_walk false (function (ObjectPat Assigns)) refl r).walk }
braces_good (expression (SubstitutedTemplate false)) cs t b m f = record { reads = λ n v c x y r i s q. head refl refl refl (le_nat (and_left (nat_le n 19) _ s)) refl (template_walk false cs f m (node_walk false (expression (SubstitutedTemplate false)) refl r).walk) }
braces_good _ cs t b m f = cc
