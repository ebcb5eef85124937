-- A walk along a row taken apart; trees that can be read at their places, and leaves.
use Rattle.jsx_tree.proofs.OneTree.Known.{is_blocked}
use Rattle.jsx_tree.proofs.OneTree.Known.{is_seq, taken, plain_leaf, is_piece, is_regexp}
use Rattle.jsx_tree.specs.Walk as W
use Rattle.std.proofs.Common.{◌≡◌, ℕ, ◌≤◌, Bool, true, false, not, refl, sym, ◌∙◌, ap, arith, List, [], ◌∷◌}
use Rattle.std.specs.Prelude.{◌&&◌, ◌||◌, nat_eq, nat_le, IsTrue}
use Rattle.std.proofs.lemmas.Bool.{le-leb}
use Rattle.jsx_base.specs.Token.{Text, Operator, TokenKind, IdentifierName, NumericLiteral, BigIntLiteral, StringLiteral, RegExpLiteral, NoSubstitution, TemplateHead, TemplateMiddle, TemplateTail, Elision, kind_number}
use Rattle.jsx_tree.specs.Signs.{Tok, One, Sign}
use Rattle.jsx_tree.specs.Kinds.{Seq, Binds, Assigns, Kind, expression, Tree, leaf, node, list, Forest, none, part}
use Rattle.jsx_tree.specs.Nonterminals.{Nonterminal, Expr, MemberObject, ObjectMember, SimpleTarget, Ident, BindingIdent, Pat, Slot, PatElement, Param, Argument, ArrayItem, NullishLeft, NewCallee, DotObject, in_homes, leaf_in, literal_homes, is_ident, is_value_word}
use Rattle.jsx_tree.specs.Grammar.{production, ListShape, Context, Fixed, Part, Many}
use Rattle.jsx_tree.specs.Form.{leads, enough, admits, is_leaf, fit_slots, positions}
use Rattle.jsx_tree.specs.StaticRules.{Surroundings}
use Rattle.jsx_tree.specs.Reading.{Place, Lost, At, forth}
use Rattle.jsx_tree.specs.Walk.{IsRead, is_found}
use Rattle.jsx_tree.proofs.Tokens.{and_left, and_right, and_both}
use Rattle.jsx_tree.proofs.OneTree.Readings.{level, reach, calm, Reads, word}
use Rattle.jsx_tree.proofs.OneTree.Facts.{never, or_else, not_is, Test, yes', no', test, le_nat, for_kind}
use Rattle.jsx_tree.proofs.OneTree.Table.{kinds}
use Rattle.jsx_tree.proofs.OneTree.Checks.{every}
use Rattle.jsx_tree.proofs.OneTree.Sealed.{is_sealed, is_member, Closed, Sealed}
use Rattle.jsx_tree.proofs.OneTree.Places.{needs, kin, is_prop, free}

-- ---- walks of the other relation, taken apart

pub record AtSign (V : List Context → Surroundings) (s : Sign) (ps : List W.Piece) (x : Place) (ts : Forest) (z : Place) : Type 0 where
  pub next : Place
  pub moves : forth s x ≡ next
  pub found : IsTrue (is_found next)
  pub walk : W.Walk IsRead V ps next ts z

pub at_sign : {V : List Context → Surroundings} {a : List Context} {s : Sign} {ps : List W.Piece} {x z : Place} {ts : Forest} → W.Walk IsRead V (W.piece a (Fixed s) ∷ ps) x ts z → AtSign V s ps x ts z
at_sign (W.next (W.sign {y = y} e f) w) = record { next = y; moves = e; found = f; walk = w }

pub record AtPart (V : List Context → Surroundings) (a : List Context) (c : Nonterminal) (ps : List W.Piece) (x : Place) (ts : Forest) (z : Place) : Type 0 where
  pub tree : Tree
  pub others : Forest
  pub next : Place
  pub is : ts ≡ part tree others
  pub read : IsRead (V a) false c x tree next
  pub walk : W.Walk IsRead V ps next others z

pub at_part : {V : List Context → Surroundings} {a : List Context} {c : Nonterminal} {ps : List W.Piece} {x z : Place} {ts : Forest} → W.Walk IsRead V (W.piece a (Part c) ∷ ps) x ts z → AtPart V a c ps x ts z
at_part (W.next {ts = us} (W.tree {y = y} {t = t} r) w) = record { tree = t; others = us; next = y; is = refl; read = r; walk = w }

pub record AtMany (V : List Context → Surroundings) (a : List Context) (s : ListShape) (c : Nonterminal) (ps : List W.Piece) (x : Place) (ts : Forest) (z : Place) : Type 0 where
  pub trees : Forest
  pub others : Forest
  pub next : Place
  pub is : ts ≡ part (list trees) others
  pub enough' : enough s trees ≡ true
  pub read : W.Items IsRead (V a) s c x trees next
  pub walk : W.Walk IsRead V ps next others z

pub at_many : {V : List Context → Surroundings} {a : List Context} {s : ListShape} {c : Nonterminal} {ps : List W.Piece} {x z : Place} {ts : Forest} → W.Walk IsRead V (W.piece a (Many s c) ∷ ps) x ts z → AtMany V a s c ps x ts z
at_many (W.next {ts = us} (W.many {y = y} {ts = ts} e i) w) = record { trees = ts; others = us; next = y; is = refl; enough' = e; read = i; walk = w }

pub at_end : {V : List Context → Surroundings} {x z : Place} {ts : Forest} → W.Walk IsRead V [] x ts z → (ts ≡ none) × (x ≡ z)
at_end (W.done f) = (refl, refl)

-- ---- trees that can be read at their places

abbrev mutual
  pub tame : Tree → Bool
  tame (leaf s t) = plain_leaf s || (is_piece s || is_regexp s)
  -- what is sealed brings its own evidence, and so does what stands behind a method's key
  tame (node k cs) = (is_sealed k && fit_slots (positions k) cs) || ((is_member k && (fit_slots (positions k) cs && first_tame cs)) || ((is_blocked k && (fit_slots (positions k) cs && first_tame cs)) || ((taken k || is_seq k) && tames cs)))
  tame (list ts) = tames ts

  pub first_tame : Forest → Bool
  first_tame none = false
  first_tame (part t ts) = tame t

  pub tames : Forest → Bool
  tames none = true
  tames (part t ts) = tame t && tames ts

-- a node, by what is known of its parts
pub data Tamed (k : Kind) (cs : Forest) : Type 0 where
  of_sealed : is_sealed k ≡ true → fit_slots (positions k) cs ≡ true → Tamed k cs
  of_member : is_member k ≡ true → fit_slots (positions k) cs ≡ true → first_tame cs ≡ true → Tamed k cs
  of_blocked : is_blocked k ≡ true → fit_slots (positions k) cs ≡ true → first_tame cs ≡ true → Tamed k cs
  of_open : (taken k || is_seq k) ≡ true → tames cs ≡ true → Tamed k cs

pub tamed : (k : Kind) (cs : Forest) → tame (node k cs) ≡ true → Tamed k cs
tamed k cs h = by_sealed (test (is_sealed k && fit_slots (positions k) cs))
  where
    by_sealed : Test (is_sealed k && fit_slots (positions k) cs) → Tamed k cs
    by_sealed (yes' s) = of_sealed (and_left (is_sealed k) _ s) (and_right (is_sealed k) _ s)
    by_sealed (no' n) = by_member (test (is_member k && (fit_slots (positions k) cs && first_tame cs))) (or_else (is_sealed k && fit_slots (positions k) cs) _ h n)
      where
        by_member : Test (is_member k && (fit_slots (positions k) cs && first_tame cs)) → ((is_member k && (fit_slots (positions k) cs && first_tame cs)) || ((is_blocked k && (fit_slots (positions k) cs && first_tame cs)) || ((taken k || is_seq k) && tames cs))) ≡ true → Tamed k cs
        by_member (yes' s) g =
            let r = and_right (is_member k) _ s in
            of_member (and_left (is_member k) _ s) (and_left (fit_slots (positions k) cs) _ r) (and_right (fit_slots (positions k) cs) _ r)
        by_member (no' m) g = by_blocked (test (is_blocked k && (fit_slots (positions k) cs && first_tame cs))) (or_else (is_member k && (fit_slots (positions k) cs && first_tame cs)) ((is_blocked k && (fit_slots (positions k) cs && first_tame cs)) || ((taken k || is_seq k) && tames cs)) g m)
          where
            by_blocked : Test (is_blocked k && (fit_slots (positions k) cs && first_tame cs)) → ((is_blocked k && (fit_slots (positions k) cs && first_tame cs)) || ((taken k || is_seq k) && tames cs)) ≡ true → Tamed k cs
            by_blocked (yes' s) g =
                let r = and_right (is_blocked k) _ s in
                of_blocked (and_left (is_blocked k) _ s) (and_left (fit_slots (positions k) cs) _ r) (and_right (fit_slots (positions k) cs) _ r)
            by_blocked (no' b) g =
                let o = or_else (is_blocked k && (fit_slots (positions k) cs && first_tame cs)) ((taken k || is_seq k) && tames cs) g b in
                of_open (and_left (taken k || is_seq k) (tames cs) o) (and_right (taken k || is_seq k) (tames cs) o)

none_sealed : every (λ k. not (is_sealed k) && not (is_member k)) kinds ≡ true
none_sealed = refl

none_blocked : every (λ k. not (is_blocked k)) kinds ≡ true
none_blocked = refl

pub tames_of : (k : Kind) (cs : Forest) → taken k ≡ true → tame (node k cs) ≡ true → tames cs ≡ true
tames_of k cs t h = by_tamed (tamed k cs h)
  where
    by_tamed : Tamed k cs → tames cs ≡ true
    by_tamed (of_open o m) = m
    by_tamed (of_sealed s f) = absurd (never (is_sealed k) s (not_is _ (and_left (not (is_sealed k)) _ (for_kind (λ k. not (is_sealed k) && not (is_member k)) none_sealed k t))))
    by_tamed (of_member s f g) = absurd (never (is_member k) s (not_is _ (and_right (not (is_sealed k)) _ (for_kind (λ k. not (is_sealed k) && not (is_member k)) none_sealed k t))))
    by_tamed (of_blocked s f g) = absurd (never (is_blocked k) s (not_is _ (for_kind (λ k. not (is_blocked k)) none_blocked k t)))

pub seq_tames : (k : Kind) (cs : Forest) → is_seq k ≡ true → tame (node k cs) ≡ true → tames cs ≡ true
seq_tames k cs q h = by_tamed (tamed k cs h)
  where
    not_sealed : (k : Kind) → is_seq k ≡ true → (is_sealed k ≡ false) × (is_member k ≡ false)
    not_sealed (expression Seq) q = (refl, refl)
    not_sealed _ q = cc

    by_tamed : Tamed k cs → tames cs ≡ true
    by_tamed (of_open o m) = m
    by_tamed (of_sealed s f) = absurd (never (is_sealed k) s (not_sealed k q).0)
    by_tamed (of_member s f g) = absurd (never (is_member k) s (not_sealed k q).1)
    by_tamed (of_blocked s f g) = absurd (never (is_blocked k) s (not_blocked k q))
      where
        not_blocked : (k : Kind) → is_seq k ≡ true → is_blocked k ≡ false
        not_blocked (expression Seq) q = refl
        not_blocked _ q = cc

abbrev mutual
  pub spine_ok : ℕ → Tree → Bool
  spine_ok n (leaf s t) = true
  spine_ok n (node k cs) = nat_le n (level k) && (not (leads (production k)) || first_ok n cs)
  spine_ok n (list ts) = false

  pub first_ok : ℕ → Forest → Bool
  first_ok n none = false
  first_ok n (part t ts) = spine_ok n t

pub record Good (t : Tree) : Type 0 where
  pub reads : (n : ℕ) (v : Surroundings) (c : Nonterminal) (x y : Place) → IsRead v false c x t y → kin c ≡ true → spine_ok n t ≡ true → calm (needs t) y ≡ true → Reads n x t y

-- what is sealed, wherever it is read
pub record Seals (k : Kind) (cs : Forest) : Type 0 where
  pub seals : {v : Surroundings} {c : Nonterminal} {x y : Place} → IsRead v false c x (node k cs) y → Sealed x k cs y

pub record Closes (k : Kind) (cs : Forest) : Type 0 where
  pub closes' : {v : Surroundings} {x y : Place} → IsRead v false ObjectMember x (node k cs) y → Closed is_member false ObjectMember x k cs y

-- an arrow with a block, wherever it is read
pub record Blocks (k : Kind) (cs : Forest) : Type 0 where
  pub blocks' : {n : ℕ} {v : Surroundings} {c : Nonterminal} {x y : Place} → n ≤ 1 → IsRead v false c x (node k cs) y → Reads n x (node k cs) y

mutual
  pub data Fine : Tree → Type 0 where
    fine_leaf : {s : TokenKind} {t : Text} → plain_leaf s ≡ true → Fine (leaf s t)
    fine_regexp : {t : Text} → Fine (leaf RegExpLiteral t)
    fine_piece : {s : TokenKind} {t : Text} → is_piece s ≡ true → Fine (leaf s t)
    fine_node : {k : Kind} {cs : Forest} → taken k ≡ true → is_prop k ≡ false → Good (node k cs) → Fine (node k cs)
    fine_prop : {k : Kind} {cs : Forest} → taken k ≡ true → is_prop k ≡ true → Fines cs → Fine (node k cs)
    fine_seq : {k : Kind} {cs : Forest} → is_seq k ≡ true → Fines cs → Fine (node k cs)
    fine_sealed : {k : Kind} {cs : Forest} → is_sealed k ≡ true → Seals k cs → Fine (node k cs)
    fine_member : {k : Kind} {t : Tree} {ts : Forest} → is_member k ≡ true → Fine t → tame t ≡ true → Closes k (part t ts) → Fine (node k (part t ts))
    fine_blocked : {k : Kind} {cs : Forest} → is_blocked k ≡ true → Blocks k cs → Fine (node k cs)
    fine_list : {ts : Forest} → Fines ts → Fine (list ts)

  pub data Fines : Forest → Type 0 where
    fine_none : Fines none
    fine_part : {t : Tree} {ts : Forest} → Fine t → Fines ts → Fines (part t ts)

pub calm_more : (n m : ℕ) (x : Place) → n ≤ m → calm n x ≡ true → calm m x ≡ true
calm_more n m x le c = let l : reach x ≤ n = le_nat c in le-leb (reach x) m (omega (arith, le, l))

-- ---- a leaf

pub one_sign : (x : Place) → forth One x ≡ x
one_sign Lost = refl
one_sign (At q e text) = refl

bound_value : (a b : Bool) (t : Text) → (is_ident t && a) ≡ true → (is_ident t || b) ≡ true
bound_value a b t h = or_in (is_ident t) b (and_left (is_ident t) a h)
  where
    or_in : (a b : Bool) → a ≡ true → (a || b) ≡ true
    or_in true b e = refl
    or_in false b e = cc

pub word_kin : (c : Nonterminal) (t : Text) → kin c ≡ true → leaf_in c IdentifierName t ≡ true → is_value_word t ≡ true
word_kin (Expr n) t k h = and_right (nat_le n 18) (is_value_word t) h
word_kin MemberObject t k h = h
word_kin DotObject t k h = h
word_kin NullishLeft t k h = h
word_kin NewCallee t k h = h
word_kin Argument t k h = h
word_kin ArrayItem t k h = h
word_kin SimpleTarget t k h = bound_value _ _ t h
word_kin BindingIdent t k h = bound_value _ _ t h
word_kin (Pat r) t k h = bound_value _ _ t h
word_kin (PatElement r) t k h = bound_value _ _ t h
word_kin (Slot r) t k h = bound_value _ _ t h
word_kin Param t k h = bound_value _ _ t h
word_kin Ident t k h = bound_value true _ t (and_both _ _ h refl)
word_kin _ t k h = cc

pub in_is : {v : Surroundings} {c : Nonterminal} {x y : Place} {s : TokenKind} {t : Text} → IsRead v false c x (leaf s t) y → leaf_in c s t ≡ true
in_is {c = c} {s = s} {t = t} r = and_left (leaf_in c s t) _ r.is

pub no_piece : (c : Nonterminal) (s : TokenKind) (t : Text) → free c ≡ true → is_piece s ≡ true → leaf_in c s t ≡ true → ⊥
no_piece c NoSubstitution t f p i = never _ i (not_is _ (and_left (not (in_homes c (literal_homes NoSubstitution))) _ f))
no_piece c TemplateHead t f p i = never _ i (not_is _ (and_left (not (in_homes c (literal_homes TemplateHead))) _ (and_right (not (in_homes c (literal_homes NoSubstitution))) _ f)))
no_piece c TemplateMiddle t f p i = never _ i (not_is _ (and_left (not (in_homes c (literal_homes TemplateMiddle))) _ (and_right (not (in_homes c (literal_homes TemplateHead))) _ (and_right (not (in_homes c (literal_homes NoSubstitution))) _ f))))
no_piece c TemplateTail t f p i = never _ i (not_is _ (and_right (not (in_homes c (literal_homes TemplateMiddle))) _ (and_right (not (in_homes c (literal_homes TemplateHead))) _ (and_right (not (in_homes c (literal_homes NoSubstitution))) _ f))))
no_piece c _ t f p i = cc

pub kin_free : (c : Nonterminal) → kin c ≡ true → free c ≡ true
kin_free (Expr n) k = refl
kin_free MemberObject k = refl
kin_free DotObject k = refl
kin_free NullishLeft k = refl
kin_free SimpleTarget k = refl
kin_free NewCallee k = refl
kin_free Ident k = refl
kin_free BindingIdent k = refl
kin_free (Pat Binds) k = refl
kin_free (Pat Assigns) k = refl
kin_free (PatElement Binds) k = refl
kin_free (PatElement Assigns) k = refl
kin_free (Slot Binds) k = refl
kin_free (Slot Assigns) k = refl
kin_free Param k = refl
kin_free Argument k = refl
kin_free ArrayItem k = refl
kin_free _ k = cc

pub leaf_reads : (n : ℕ) (s : TokenKind) (t : Text) {v : Surroundings} {c : Nonterminal} {x y : Place} → IsRead v false c x (leaf s t) y → kin c ≡ true → plain_leaf s ≡ true → (nat_eq (kind_number s) 13) ≡ false → Reads n x (leaf s t) y
leaf_reads n IdentifierName t {c = c} {x} r k p e = word (word_kin c t k (in_is r)) (ap (forth (Tok Operator IdentifierName t)) (sym (one_sign x)) ∙ r.scans) r.found
leaf_reads n NumericLiteral t {x = x} r k p e = word refl (ap (forth (Tok Operator NumericLiteral t)) (sym (one_sign x)) ∙ r.scans) r.found
leaf_reads n BigIntLiteral t {x = x} r k p e = word refl (ap (forth (Tok Operator BigIntLiteral t)) (sym (one_sign x)) ∙ r.scans) r.found
leaf_reads n StringLiteral t {x = x} r k p e = word refl (ap (forth (Tok Operator StringLiteral t)) (sym (one_sign x)) ∙ r.scans) r.found
leaf_reads n Elision t r k p e = cc
leaf_reads n _ t r k p e = cc

-- ---- a tree at another place

pub re_home : {v : Surroundings} {x y : Place} (c d : Nonterminal) (t : Tree) → admits d t ≡ true → IsRead v false c x t y → IsRead v false d x t y
re_home c d (leaf s u) h r = record { is = and_both (leaf_in d s u) (is_leaf s u) h (and_right (leaf_in c s u) _ r.is); is_legal = r.is_legal; scans = r.scans; found = r.found }
re_home c d (node k cs) h r = record { is = and_both (admits d (node k cs)) (fit_slots (positions k) cs) h (and_right (admits c (node k cs)) _ r.is); is_legal = r.is_legal; scans = r.scans; found = r.found }
re_home c d (list ts) h r = cc
