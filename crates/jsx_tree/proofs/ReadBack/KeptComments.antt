-- Kept comments are gaps.
use Rattle.std.proofs.Common.{◌≡◌, ℕ, List, [], ◌∷◌, ◌++◌, Bool, true, false, cond, not, ◌||◌, ◌&&◌, refl, sym, ap, ◌∙◌, subst}
use Rattle.std.specs.Prelude.{nat_eq}
use Rattle.std.proofs.lemmas.Bool.{false≢true, and_parts, eqb-true, not-true}
use Rattle.jsx_base.specs.Token.{Text, same, first_is, is_line_end, Gap as At, Blank, InLineComment, InBlockComment, Closing, is_over, behind_gap, is_cut, breaks_in, skip, breaks}
use Rattle.jsx_tree.specs.Layout.{Note, Own, Beside, notes_text, line, indent}
use Rattle.jsx_tree.specs.Notes.{no_note, all_beside, no_ends, closes, is_line_comment, is_block_comment, all_notes}
use Rattle.jsx_base.proofs.Longest.{same_is}
use Rattle.jsx_tree.proofs.ReadBack.Joins.{has_line}
use Rattle.jsx_tree.proofs.ReadBack.CommentGaps.{Gap, Comments, gap_pad, gap_nil, gap_blank, gap_more}
use Rattle.jsx_tree.proofs.ReadBack.Signs.{append, indent_pad}

-- ---- to the line's end

line_behind : (t y : Text) → no_ends t ≡ true → behind_gap InLineComment (t ++ (10 ∷ y)) ≡ behind_gap Blank y
line_behind [] y h = refl
line_behind (c ∷ t) y h =
    let a = and_parts (not (is_line_end c)) (no_ends t) h in
    ap (λ b. cond (is_over (cond b Blank InLineComment)) (c ∷ (t ++ (10 ∷ y))) (behind_gap (cond b Blank InLineComment) (t ++ (10 ∷ y)))) (not-true _ a.0) ∙ line_behind t y a.1

line_cut : (t y : Text) → no_ends t ≡ true → is_cut InLineComment (t ++ (10 ∷ y)) ≡ is_cut Blank y
line_cut [] y h = refl
line_cut (c ∷ t) y h =
    let a = and_parts (not (is_line_end c)) (no_ends t) h in
    ap (λ b. is_cut (cond b Blank InLineComment) (t ++ (10 ∷ y))) (not-true _ a.0) ∙ line_cut t y a.1

line_gap : (t : Text) → no_ends t ≡ true → Gap true ((47 ∷ 47 ∷ t) ++ (10 ∷ []))
line_gap t h = record {
  skipped = λ y. ap (λ x. skip (47 ∷ 47 ∷ x)) (append t (10 ∷ []) y) ∙ line_behind t y h;
  cuts = λ y. ap (λ x. is_cut Blank (47 ∷ 47 ∷ x)) (append t (10 ∷ []) y) ∙ line_cut t y h;
  unbroken = λ e. absurd (false≢true (sym e));
}

-- ---- in `/*` and `*/`

abbrev step_block : Bool → At
step_block b = cond b Closing InBlockComment

block_behind : (t y : Text) → closes t ≡ true → behind_gap InBlockComment (t ++ y) ≡ behind_gap Blank y
block_behind [] y h = absurd (false≢true h)
block_behind (c ∷ []) y h = absurd (false≢true h)
block_behind (c ∷ d ∷ t) y h = go (nat_eq 42 c) (nat_eq 47 d) h (block_behind (d ∷ t) y)
  where
    go : (a b : Bool) → cond (a && b) (same t []) (closes (d ∷ t)) ≡ true → (closes (d ∷ t) ≡ true → behind_gap InBlockComment (d ∷ (t ++ y)) ≡ behind_gap Blank y)
        → cond (is_over (step_block (a && (b && true)))) (c ∷ d ∷ (t ++ y)) (behind_gap (step_block (a && (b && true))) (d ∷ (t ++ y))) ≡ behind_gap Blank y
    go true true e r = ap (λ x. behind_gap Blank (x ++ y)) (same_is t [] e)
    go true false e r = r e
    go false b e r = r e

block_cut : (t y : Text) → closes t ≡ true → is_cut InBlockComment (t ++ y) ≡ is_cut Blank y
block_cut [] y h = absurd (false≢true h)
block_cut (c ∷ []) y h = absurd (false≢true h)
block_cut (c ∷ d ∷ t) y h = go (nat_eq 42 c) (nat_eq 47 d) h (block_cut (d ∷ t) y)
  where
    go : (a b : Bool) → cond (a && b) (same t []) (closes (d ∷ t)) ≡ true → (closes (d ∷ t) ≡ true → is_cut InBlockComment (d ∷ (t ++ y)) ≡ is_cut Blank y) → is_cut (step_block (a && (b && true))) (d ∷ (t ++ y)) ≡ is_cut Blank y
    go true true e r = ap (λ x. is_cut Blank (x ++ y)) (same_is t [] e)
    go true false e r = r e
    go false b e r = r e

block_flat : (t y : Text) → closes t ≡ true → no_ends t ≡ true → breaks_in InBlockComment (t ++ y) ≡ breaks_in Blank y
block_flat [] y h n = absurd (false≢true h)
block_flat (c ∷ []) y h n = absurd (false≢true h)
block_flat (c ∷ d ∷ t) y h n =
    let p = and_parts (not (is_line_end c)) (not (is_line_end d) && no_ends t) n in
    let q = and_parts (not (is_line_end d)) (no_ends t) p.1 in
    go (nat_eq 42 c) (nat_eq 47 d) h (is_line_end c) (not-true _ p.0) (not-true _ q.0) (λ e. block_flat (d ∷ t) y e p.1)
  where
    go : (a b : Bool) → cond (a && b) (same t []) (closes (d ∷ t)) ≡ true → (u : Bool) → u ≡ false → is_line_end d ≡ false → (closes (d ∷ t) ≡ true → breaks_in InBlockComment (d ∷ (t ++ y)) ≡ breaks_in Blank y)
        → (not (is_over (step_block (a && (b && true)))) && (u || breaks_in (step_block (a && (b && true))) (d ∷ (t ++ y)))) ≡ breaks_in Blank y
    go a b e true p q r = absurd (false≢true (sym p))
    go true true e false p q r = ap (λ z. z || breaks_in Blank (t ++ y)) q ∙ ap (λ x. breaks_in Blank (x ++ y)) (same_is t [] e)
    go true false e false p q r = r e
    go false b e false p q r = r e

-- behind `/*` it is read as inside
open_behind : (t y : Text) → closes t ≡ true → skip (47 ∷ 42 ∷ (t ++ y)) ≡ skip y
open_behind [] y h = absurd (false≢true h)
open_behind (c ∷ []) y h = absurd (false≢true h)
open_behind (c ∷ d ∷ t) y h = block_behind (c ∷ d ∷ t) y h

open_cut : (t y : Text) → closes t ≡ true → is_cut Blank (47 ∷ 42 ∷ (t ++ y)) ≡ is_cut Blank y
open_cut [] y h = absurd (false≢true h)
open_cut (c ∷ []) y h = absurd (false≢true h)
open_cut (c ∷ d ∷ t) y h = block_cut (c ∷ d ∷ t) y h

open_flat : (t y : Text) → closes t ≡ true → no_ends t ≡ true → breaks (47 ∷ 42 ∷ (t ++ y)) ≡ breaks y
open_flat [] y h n = absurd (false≢true h)
open_flat (c ∷ []) y h n = absurd (false≢true h)
open_flat (c ∷ d ∷ t) y h n = block_flat (c ∷ d ∷ t) y h n

block_gap : (t : Text) → closes t ≡ true → Gap true (47 ∷ 42 ∷ t)
block_gap t h = record { skipped = λ y. open_behind t y h; cuts = λ y. open_cut t y h; unbroken = λ e. absurd (false≢true (sym e)) }

flat_gap : (t : Text) → closes t ≡ true → no_ends t ≡ true → Gap false (47 ∷ 42 ∷ t)
flat_gap t h n = record { skipped = λ y. open_behind t y h; cuts = λ y. open_cut t y h; unbroken = λ e y. open_flat t y h n }

-- ---- notes

-- a comment to the line's end with the line end, one in `/*` and `*/`
record LineText (t : Text) : Type 0 where
  pub rest : Text
  pub is : t ≡ 47 ∷ 47 ∷ rest
  pub ends : no_ends rest ≡ true

record BlockText (t : Text) : Type 0 where
  pub rest : Text
  pub is : t ≡ 47 ∷ 42 ∷ rest
  pub closed : closes rest ≡ true

line_text : (t : Text) → is_line_comment t ≡ true → LineText t
line_text [] h = absurd (false≢true h)
line_text (b ∷ []) h = absurd (false≢true h)
line_text (b ∷ c ∷ t) h =
    let p = and_parts (nat_eq b 47 && nat_eq c 47) (no_ends t) h in
    let q = and_parts (nat_eq b 47) (nat_eq c 47) p.0 in
    record { rest = t; is = ap (λ x. x ∷ c ∷ t) (eqb-true b 47 q.0) ∙ ap (λ x. 47 ∷ x ∷ t) (eqb-true c 47 q.1); ends = p.1 }

block_text : (t : Text) → is_block_comment t ≡ true → BlockText t
block_text [] h = absurd (false≢true h)
block_text (b ∷ []) h = absurd (false≢true h)
block_text (b ∷ c ∷ t) h =
    let p = and_parts (nat_eq b 47 && nat_eq c 42) (closes t) h in
    let q = and_parts (nat_eq b 47) (nat_eq c 42) p.0 in
    record { rest = t; is = ap (λ x. x ∷ c ∷ t) (eqb-true b 47 q.0) ∙ ap (λ x. 47 ∷ x ∷ t) (eqb-true c 42 q.1); closed = p.1 }

no_ends_rest : (t r : Text) → t ≡ 47 ∷ 42 ∷ r → no_ends t ≡ true → no_ends r ≡ true
no_ends_rest t r e h = subst (λ x. no_ends x ≡ true) e h

own_gap : (t : Text) (n : List Bool) → (is_line_comment t || is_block_comment t) ≡ true → Gap true (t ++ line n)
own_gap t n h = go (is_line_comment t) refl h
  where
    go : (b : Bool) → is_line_comment t ≡ b → (b || is_block_comment t) ≡ true → Gap true (t ++ line n)
    go true e h =
        let x : LineText t = line_text t e in
        let i : Text = indent n in
        subst (Gap true) (append (47 ∷ 47 ∷ x.rest) (10 ∷ []) i ∙ ap (λ z. z ++ (10 ∷ i)) (sym x.is)) (gap_more true true ((47 ∷ 47 ∷ x.rest) ++ (10 ∷ [])) i (line_gap x.rest x.ends) (lined i (has_line i) (gap_pad i (indent_pad n))))
      where
        lined : (i : Text) (b : Bool) → Gap b i → Gap true i
        lined i b p = record { skipped = p.skipped; cuts = p.cuts; unbroken = λ e. absurd (false≢true (sym e)) }
    go false e h = let x : BlockText t = block_text t h in subst (λ z. Gap true (z ++ line n)) (sym x.is) (gap_more true true (47 ∷ 42 ∷ x.rest) (line n) (block_gap x.rest x.closed) (gap_pad (line n) (indent_pad n)))

beside_gap : (t : Text) → (is_block_comment t && no_ends t) ≡ true → Gap false (t ++ (32 ∷ []))
beside_gap t h =
    let p = and_parts (is_block_comment t) (no_ends t) h in
    let x : BlockText t = block_text t p.0 in
    subst (λ z. Gap false (z ++ (32 ∷ []))) (sym x.is) (gap_more false false (47 ∷ 42 ∷ x.rest) (32 ∷ []) (flat_gap x.rest x.closed (no_ends_rest t x.rest x.is p.1)) gap_blank)

notes_gap : (ns : List Note) (n : List Bool) → all_notes ns ≡ true → Gap (not (all_beside ns)) (notes_text n ns)
notes_gap [] n h = gap_nil
notes_gap (Own t ∷ ns) n h =
    let p = and_parts (is_line_comment t || is_block_comment t) (all_notes ns) h in
    subst (Gap true) (append t (line n) (notes_text n ns)) (gap_more true (not (all_beside ns)) (t ++ line n) (notes_text n ns) (own_gap t n p.0) (notes_gap ns n p.1))
notes_gap (Beside t ∷ ns) n h =
    let p = and_parts (is_block_comment t && no_ends t) (all_notes ns) h in
    subst (Gap (not (all_beside ns))) (append t (32 ∷ []) (notes_text n ns)) (gap_more false (not (all_beside ns)) (t ++ (32 ∷ [])) (notes_text n ns) (beside_gap t p.0) (notes_gap ns n p.1))

note_slash : (t y : Text) → (is_line_comment t || is_block_comment t) ≡ true → first_is (nat_eq 47) (t ++ y) ≡ true
note_slash t y h = go (is_line_comment t) refl h
  where
    go : (b : Bool) → is_line_comment t ≡ b → (b || is_block_comment t) ≡ true → first_is (nat_eq 47) (t ++ y) ≡ true
    go true e h = subst (λ z. first_is (nat_eq 47) (z ++ y) ≡ true) (sym (line_text t e).is) refl
    go false e h = subst (λ z. first_is (nat_eq 47) (z ++ y) ≡ true) (sym (block_text t h).is) refl

notes_slash : (ns : List Note) (n : List Bool) (y : Text) → all_notes ns ≡ true → no_note ns ≡ false → first_is (nat_eq 47) (notes_text n ns ++ y) ≡ true
notes_slash [] n y h e = absurd (false≢true (sym e))
notes_slash (Own t ∷ ns) n y h e =
    let p = and_parts (is_line_comment t || is_block_comment t) (all_notes ns) h in
    ap (first_is (nat_eq 47)) (append t (line n ++ notes_text n ns) y) ∙ note_slash t ((line n ++ notes_text n ns) ++ y) p.0
notes_slash (Beside t ∷ ns) n y h e =
    let p = and_parts (is_block_comment t && no_ends t) (all_notes ns) h in
    ap (first_is (nat_eq 47)) (append t (32 ∷ notes_text n ns) y) ∙ subst (λ z. first_is (nat_eq 47) (z ++ ((32 ∷ notes_text n ns) ++ y)) ≡ true) (sym (block_text t ((and_parts (is_block_comment t) (no_ends t) p.0).0)).is) refl

-- notes that are whole comments
pub comments_are : (f : ℕ → List Note) → ((i : ℕ) → all_notes (f i) ≡ true) → Comments f
comments_are f h = record { gap = λ i n. notes_gap (f i) n (h i); slash = λ i n y e. notes_slash (f i) n y (h i) e }
