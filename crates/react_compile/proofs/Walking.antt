-- A walk over a text comes to the line and the column of its end.
use Rattle.std.proofs.Common.{◌≡◌, ℕ, ◌+◌, ◌-◌, ◌≤◌, List, [], ◌∷◌, Bool, true, false, cond, nat_eq, length, refl, sym, ap, ◌∙◌, subst, arith}
use Rattle.std.specs.Str.{chars}
use Rattle.std.specs.Char.{len_utf8}
use Rattle.jsx_base.specs.Columns.{BeginsWith}
use Rattle.jsx_base.specs.Lines.{lines, before_first, last_line, front, line_of, col_of}
use Rattle.jsx_base.proofs.LineParts.{parts}
use Rattle.react_compile.specs.Spots.{past, behind}

-- ---- one character more

abbrev pub IsNear : ℕ × ℕ → ℕ × ℕ → Type 0
IsNear spot next = (1 ≤ next.1) × (next.0 + next.1 ≤ spot.0 + spot.1 + 1)

-- the line and the column grow by one together, and the column is one at least
pub near : (c : ℕ) (spot next : ℕ × ℕ) → 1 ≤ spot.1 → next ≡ past c spot → IsNear spot next
near c spot next low n = subst (λ s. IsNear spot s) (sym n) (go (nat_eq c 10))
  where
    go : (b : Bool) → IsNear spot (cond b (spot.0 + 1, 1) (spot.0, spot.1 + 1))
    go true = (omega arith, omega (arith, low))
    go false = (omega arith, omega arith)

pub goes_on : (bs more : List ℕ) (left less c : ℕ) (spot next : ℕ × ℕ) → BeginsWith bs left c more → less ≡ left - len_utf8 c → next ≡ past c spot
    → behind spot (front (chars bs) left) ≡ behind next (front (chars more) less)
goes_on bs more left less c spot next b l n =
    ap (behind spot) b.front_is
    ∙ ap (λ s. behind s (front (chars more) (left - len_utf8 c))) (sym n)
    ∙ ap (λ k. behind next (front (chars more) k)) (sym l)

-- where the walk ends
pub ends : (first spot : ℕ × ℕ) (whole rest : List ℕ) → behind first whole ≡ behind spot rest → rest ≡ [] → behind first whole ≡ spot
ends first spot whole rest so none = so ∙ ap (behind spot) none

-- ---- the line

line_step : (b : Bool) (c : ℕ) (spot : ℕ × ℕ) (ls : List (List ℕ)) (line : List ℕ) (more : List (List ℕ)) → ls ≡ line ∷ more
    → (cond {A = ℕ × ℕ} b (spot.0 + 1, 1) (spot.0, spot.1 + 1)).0 + length ls ≡ spot.0 + length (cond b ([] ∷ ls) (before_first c ls))
line_step true c spot ls line more e = omega arith
line_step false c spot ls line more e = subst (λ xs. spot.0 + length xs ≡ spot.0 + length (before_first c xs)) (sym e) refl

line_behind : (spot : ℕ × ℕ) (text : List ℕ) → (behind spot text).0 + 1 ≡ spot.0 + length (lines text)
line_behind spot [] = refl
line_behind spot (c ∷ text) = let p = parts text in line_behind (past c spot) text ∙ line_step (nat_eq c 10) c spot (lines text) p.line p.more p.are

-- ---- the column

-- the column behind some lines of which the first begins in this one
abbrev pub column_from : ℕ → List (List ℕ) → ℕ
column_from n [] = n
column_from n (line ∷ []) = n + length line
column_from n (line ∷ next ∷ more) = 1 + length (last_line (next ∷ more))

column_first : (line : List ℕ) (more : List (List ℕ)) → column_from 1 (line ∷ more) ≡ 1 + length (last_line (line ∷ more))
column_first line [] = refl
column_first line (next ∷ more) = refl

column_next : (c n : ℕ) (line : List ℕ) (more : List (List ℕ)) → column_from (n + 1) (line ∷ more) ≡ column_from n ((c ∷ line) ∷ more)
column_next c n line [] = omega arith
column_next c n line (next ∷ more) = refl

column_step : (b : Bool) (c : ℕ) (spot : ℕ × ℕ) (ls : List (List ℕ)) (line : List ℕ) (more : List (List ℕ)) → ls ≡ line ∷ more
    → column_from (cond {A = ℕ × ℕ} b (spot.0 + 1, 1) (spot.0, spot.1 + 1)).1 ls ≡ column_from spot.1 (cond b ([] ∷ ls) (before_first c ls))
column_step true c spot ls line more e = subst (λ xs. column_from 1 xs ≡ column_from spot.1 ([] ∷ xs)) (sym e) (column_first line more)
column_step false c spot ls line more e = subst (λ xs. column_from (spot.1 + 1) xs ≡ column_from spot.1 (before_first c xs)) (sym e) (column_next c spot.1 line more)

column_behind : (spot : ℕ × ℕ) (text : List ℕ) → (behind spot text).1 ≡ column_from spot.1 (lines text)
column_behind spot [] = omega arith
column_behind spot (c ∷ text) = let p = parts text in column_behind (past c spot) text ∙ column_step (nat_eq c 10) c spot (lines text) p.line p.more p.are

-- ---- a walk from the begin of a text

pub line_is : (text : List ℕ) (spot : ℕ × ℕ) → behind (1, 1) text ≡ spot → spot.0 ≡ line_of text
line_is text spot so =
    let h : (behind (1, 1) text).0 + 1 ≡ 1 + length (lines text) = line_behind (1, 1) text in
    let k : (behind (1, 1) text).0 ≡ length (lines text) = omega (arith, h) in
    ap (λ s. s.0) (sym so) ∙ k

pub column_is : (text : List ℕ) (spot : ℕ × ℕ) → behind (1, 1) text ≡ spot → spot.1 ≡ col_of text + 1
column_is text spot so =
    let p = parts text in
    let h : column_from 1 (lines text) ≡ 1 + length (last_line (lines text)) = subst (λ xs. column_from 1 xs ≡ 1 + length (last_line xs)) (sym p.are) (column_first p.line p.more) in
    let k : 1 + length (last_line (lines text)) ≡ length (last_line (lines text)) + 1 = omega arith in
    ap (λ s. s.1) (sym so) ∙ column_behind (1, 1) text ∙ h ∙ k
