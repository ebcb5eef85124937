-- The ends of a span in a file are in order.
use Rattle.std.proofs.Common.{◌≡◌, ℕ, ◌-◌, ◌<◌, ◌≤◌, Bool, true, false, cond, nat_eq, List, [], ◌∷◌, ◌++◌, length, ap, sym, subst, ◌∙◌, arith}
use Rattle.std.specs.List.{sum_by}
use Rattle.std.proofs.lemmas.List.Sums.{sum_by-cons}
use Rattle.jsx_base.specs.declared.place.Span.{Span}
use Rattle.jsx_base.specs.Lines.{before_first, columns_of, display_col_of, last_line, line_of, lines}
use Rattle.jsx_base.specs.Files.{File, front_at}
use Rattle.jsx_base.specs.SpanPlaces.{high, low}
use Rattle.jsx_base.proofs.Between.{front_longer}
use Rattle.jsx_draw.specs.Spots.{reach_in}

-- ---- lines of a longer text

has_cases : (b : Bool) (c : ℕ) (ls : List (List ℕ)) → 0 < length (cond b ([] ∷ ls) (before_first c ls))
has_cases true c ls = omega arith
has_cases false c [] = omega arith
has_cases false c (line ∷ more) = omega arith

has_line : (text : List ℕ) → 0 < length (lines text)
has_line [] = omega arith
has_line (c ∷ text) = has_cases (nat_eq c 10) c (lines text)

more_cases : (b : Bool) (c : ℕ) (xs ys : List (List ℕ)) → 0 < length xs → length xs ≤ length ys → length (cond b ([] ∷ xs) (before_first c xs)) ≤ length (cond b ([] ∷ ys) (before_first c ys))
more_cases true c xs ys some less = omega (arith, less)
more_cases false c [] ys some less = absurd (let no : ⊥ = omega (arith, some) in no)
more_cases false c (x ∷ xs) [] some less = absurd (let no : ⊥ = omega (arith, less) in no)
more_cases false c (x ∷ xs) (y ∷ ys) some less = less

more_lines : (front more : List ℕ) → line_of front ≤ line_of (front ++ more)
more_lines [] more = omega (arith, has_line more)
more_lines (c ∷ front) more = more_cases (nat_eq c 10) c (lines front) (lines (front ++ more)) (has_line front) (more_lines front more)

abbrev columns : List (List ℕ) → ℕ
columns ls = sum_by columns_of (last_line ls)

cols_cases : (b : Bool) (c : ℕ) (xs ys : List (List ℕ)) → 0 < length xs → 0 < length ys → length (cond b ([] ∷ xs) (before_first c xs)) ≡ length (cond b ([] ∷ ys) (before_first c ys)) → (length xs ≡ length ys → columns xs ≤ columns ys) → columns (cond b ([] ∷ xs) (before_first c xs)) ≤ columns (cond b ([] ∷ ys) (before_first c ys))
cols_cases b c [] ys some also same less = absurd (let no : ⊥ = omega (arith, some) in no)
cols_cases b c (x ∷ xs) [] some also same less = absurd (let no : ⊥ = omega (arith, also) in no)
cols_cases true c (x ∷ xs) (y ∷ ys) some also same less = less (omega (arith, same))
cols_cases false c (x ∷ []) (y ∷ []) some also same less =
    rw (sum_by-cons columns_of c x, sum_by-cons columns_of c y) (omega (arith, less same))
cols_cases false c (x ∷ []) (y ∷ next ∷ ys) some also same less = absurd (let no : ⊥ = omega (arith, same) in no)
cols_cases false c (x ∷ next ∷ xs) (y ∷ []) some also same less = absurd (let no : ⊥ = omega (arith, same) in no)
cols_cases false c (x ∷ next ∷ xs) (y ∷ other ∷ ys) some also same less = less same

more_columns : (front more : List ℕ) → line_of front ≡ line_of (front ++ more) → display_col_of front ≤ display_col_of (front ++ more)
more_columns [] more same = omega arith
more_columns (c ∷ front) more same = cols_cases (nat_eq c 10) c (lines front) (lines (front ++ more)) (has_line front) (has_line (front ++ more)) same (more_columns front more)

-- ---- the ends of a span

ordered : (file : File) (sp : Span) → (more : List ℕ) × (front_at file (high sp) ≡ front_at file (low sp) ++ more)
ordered file sp = front_longer file.text (low sp - file.start) (high sp - file.start) (omega arith)

pub lines_rise : (file : File) (sp : Span) → (reach_in file sp).first.line ≤ (reach_in file sp).last.line
lines_rise file sp =
    let it = ordered file sp in
    subst (λ (text : List ℕ). line_of (front_at file (low sp)) ≤ line_of text) (sym it.1) (more_lines (front_at file (low sp)) it.0)

pub columns_rise : (file : File) (sp : Span) → (reach_in file sp).first.line ≡ (reach_in file sp).last.line → (reach_in file sp).first.col_display ≤ (reach_in file sp).last.col_display
columns_rise file sp same =
    let it = ordered file sp in
    subst (λ (text : List ℕ). display_col_of (front_at file (low sp)) ≤ display_col_of text) (sym it.1) (more_columns (front_at file (low sp)) it.0 (same ∙ ap line_of it.1))
