-- Gaps with comments in them.
use Rattle.std.proofs.Common.{suc, ◌≡◌, ℕ, List, [], ◌∷◌, ◌++◌, Bool, true, false, cond, not, ◌||◌, codes, refl, sym, ap, ◌∙◌}
use Rattle.std.specs.Prelude.{nat_eq}
use Rattle.std.proofs.lemmas.Bool.{false≢true, and_parts, and_from, or_parts}
use Rattle.jsx_base.specs.Token.{Text, Blank, first_is, same, skip, breaks, is_cut, is_end, skips}
use Rattle.jsx_tree.specs.Layout.{Note, Beside, notes_text}
use Rattle.jsx_tree.specs.Notes.{no_note, all_beside, noted, at_code, marks}
use Rattle.jsx_tree.specs.Signs.{Sign, Tok, Semicolon, TrailingComma, Unless, SameLine, Ends, Space, Pad, Line, Indent, Outdent, Unindent, Apart, Begin, Count, One, End}
use Rattle.jsx_tree.proofs.ReadBack.Joins.{pad, has_line}
use Rattle.jsx_tree.proofs.ReadBack.Signs.{append, append_nil, by_pad, skip_pad, breaks_pad}

-- a text that is skipped as a gap is, with a line end in it or, where not l, without
pub record Gap (l : Bool) (g : Text) : Type 0 where
  pub skipped : (y : Text) → skip (g ++ y) ≡ skip y
  pub cuts : (y : Text) → is_cut Blank (g ++ y) ≡ is_cut Blank y
  pub unbroken : l ≡ false → (y : Text) → breaks (g ++ y) ≡ breaks y

-- notes are whole comments, which begin with a slash; those beside a token have no line end
pub record Comments (f : ℕ → List Note) : Type 0 where
  pub gap : (i : ℕ) (n : List Bool) → Gap (not (all_beside (f i))) (notes_text n (f i))
  pub slash : (i : ℕ) (n : List Bool) (y : Text) → no_note (f i) ≡ false → first_is (nat_eq 47) (notes_text n (f i) ++ y) ≡ true

cut_pad : (g y : Text) → pad g ≡ true → is_cut Blank (g ++ y) ≡ is_cut Blank y
cut_pad [] y h = refl
cut_pad (c ∷ g) y h =
    let a = and_parts (nat_eq c 32 || nat_eq c 10) (pad g) h in
    by_pad (λ x. is_cut Blank (x ∷ (g ++ y)) ≡ is_cut Blank y) c a.0 (cut_pad g y a.1) (cut_pad g y a.1)

pub gap_pad : (g : Text) → pad g ≡ true → Gap (has_line g) g
gap_pad g h = record { skipped = λ y. skip_pad g y h; cuts = λ y. cut_pad g y h; unbroken = λ n y. breaks_pad g y h n }

pub gap_nil : Gap false []
gap_nil = record { skipped = λ y. refl; cuts = λ y. refl; unbroken = λ n y. refl }

pub gap_blank : Gap false (32 ∷ [])
gap_blank = record { skipped = λ y. refl; cuts = λ y. refl; unbroken = λ n y. refl }

pub gap_more : (a b : Bool) (g h : Text) → Gap a g → Gap b h → Gap (a || b) (g ++ h)
gap_more a b g h p q = record {
  skipped = λ y. ap skip (append g h y) ∙ p.skipped (h ++ y) ∙ q.skipped y;
  cuts = λ y. ap (is_cut Blank) (append g h y) ∙ p.cuts (h ++ y) ∙ q.cuts y;
  unbroken = λ n y. let r = or_parts a b n in ap breaks (append g h y) ∙ p.unbroken r.0 (h ++ y) ∙ q.unbroken r.1 y;
}

pub gap_end : (l : Bool) (g : Text) → Gap l g → is_end g ≡ true
gap_end l g p =
    and_from (same (skip g) []) (not (is_cut Blank g)) (ap (λ x. same x []) (ap skip (sym (append_nil g)) ∙ p.skipped [])) (ap not (ap (is_cut Blank) (sym (append_nil g)) ∙ p.cuts []))

-- ---- pure marks

abbrev pure_mark : Text
pure_mark = codes "/*#__PURE__*/ "

gap_mark : Gap false pure_mark
gap_mark = record { skipped = λ y. refl; cuts = λ y. refl; unbroken = λ n y. refl }

pub marks_are : (at : ℕ → Bool) → Comments (marks at)
marks_are at = record { gap = λ i n. one (at i) n; slash = λ i n y. front (at i) n y }
  where
    one : (b : Bool) (n : List Bool) → Gap (not (all_beside (cond b (Beside (codes "/*#__PURE__*/") ∷ []) []))) (notes_text n (cond b (Beside (codes "/*#__PURE__*/") ∷ []) []))
    one true n = gap_mark
    one false n = gap_nil

    front : (b : Bool) (n : List Bool) (y : Text) → no_note (cond b (Beside (codes "/*#__PURE__*/") ∷ []) []) ≡ false → first_is (nat_eq 47) (notes_text n (cond b (Beside (codes "/*#__PURE__*/") ∷ []) []) ++ y) ≡ true
    front true n y h = refl
    front false n y h = absurd (false≢true (sym h))

mark_or : (b x : Bool) → (not b || x) ≡ true → (no_note (cond b (Beside (codes "/*#__PURE__*/") ∷ []) []) || x) ≡ true
mark_or true x h = h
mark_or false x h = refl

mark_beside : (b : Bool) → all_beside (cond b (Beside (codes "/*#__PURE__*/") ∷ []) []) ≡ true
mark_beside true = refl
mark_beside false = refl

pub marks_noted : (at : ℕ → Bool) (ms : List Sign) (i : ℕ) → at_code at i ms ≡ true → noted (marks at) i ms ≡ true
marks_noted at [] i h = refl
marks_noted at (Tok m s t ∷ ms) i h =
    let a = and_parts (not (at i) || skips m) (at_code at (suc i) ms) h in
    and_from (no_note (marks at i) || skips m) (noted (marks at) (suc i) ms) (mark_or (at i) (skips m) a.0) (marks_noted at ms (suc i) a.1)
marks_noted at (Semicolon ∷ ms) i h = marks_noted at ms (suc i) h
marks_noted at (SameLine ∷ ms) i h = and_from (all_beside (marks at i)) (noted (marks at) i ms) (mark_beside (at i)) (marks_noted at ms i h)
marks_noted at (TrailingComma ∷ ms) i h = marks_noted at ms i h
marks_noted at (Unless ts ∷ ms) i h = marks_noted at ms i h
marks_noted at (Ends e ∷ ms) i h = marks_noted at ms i h
marks_noted at (Space ∷ ms) i h = marks_noted at ms i h
marks_noted at (Pad ∷ ms) i h = marks_noted at ms i h
marks_noted at (Line ∷ ms) i h = marks_noted at ms i h
marks_noted at (Indent ∷ ms) i h = marks_noted at ms i h
marks_noted at (Outdent ∷ ms) i h = marks_noted at ms i h
marks_noted at (Unindent ∷ ms) i h = marks_noted at ms i h
marks_noted at (Apart ∷ ms) i h = marks_noted at ms i h
marks_noted at (Begin ∷ ms) i h = marks_noted at ms i h
marks_noted at (Count ∷ ms) i h = marks_noted at ms i h
marks_noted at (One ∷ ms) i h = marks_noted at ms i h
marks_noted at (End ∷ ms) i h = marks_noted at ms i h
