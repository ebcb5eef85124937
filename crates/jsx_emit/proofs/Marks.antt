-- The marks under what a suggestion writes.
use Rattle.std.proofs.Common.{◌≡◌, ℕ, ◌+◌, ◌<◌, Bool, true, false, not, cond, get_or, nat_eq, arith, length, Option, List, [], ◌∷◌, Some, None, map, refl, ap, sym, ◌∙◌}
use Rattle.std.specs.Prelude.{Result, Ok, Err, OnOk, codes}
use Rattle.std.specs.List.{sum_by}
use Rattle.std.specs.Str.{IsUtf8, bytes_eq, chars, encode_utf8_all, trim}
use Rattle.std.proofs.lemmas.Str.{encodes-chars}
use Rattle.jsx_diag.specs.declared.suggestion.SubstitutionPart.{SubstitutionPart}
use Rattle.std.proofs.lemmas.List.Sums.{sum_by-cons}
use Rattle.jsx_base.specs.Files.{File}
use Rattle.jsx_base.specs.Lines.{before_first, columns_of, lines}
use Rattle.jsx_base.specs.LineStarts.{Split}
use Rattle.std.specs.Option.{is_none, is_some}
use Rattle.std.specs.Prelude.{MatchOption, string_bytes}
use Rattle.std.proofs.lemmas.Bool.{ne_eqb}
use Rattle.jsx_diag.specs.declared.level.Style.TheVariants as style
use Rattle.jsx_diag.specs.Data.{Text, Edit, edit_of}
use Rattle.jsx_draw.specs.Grid.{Grid, in_style, put_text}
use Rattle.jsx_emit.specs.Marks.{columns, columns_at, mark_then, marks_drawn, marks_of, part_mark}
use Rattle.jsx_emit.specs.Written.{is_sole}

pub columns_next : (text rest : Text) (c : ℕ) → chars text ≡ c ∷ chars rest → columns text ≡ columns_of c + columns rest
columns_next text rest c is = ap (λ z. sum_by columns_of z) is ∙ sum_by-cons columns_of c (chars rest)

pub columns_none : (text : Text) → chars text ≡ [] → columns text ≡ 0
columns_none text is = ap (λ z. sum_by columns_of z) is

-- one part more is marked
pub marks_next : {X : Type 0} (f : X → Edit) (files : List File) (row code by back next_by next_back : ℕ) (xs ys : List X) (x : X) (ends : ℕ × ℕ) (grid next start : Grid) → xs ≡ x ∷ ys → Some ends ≡ columns_at files (f x).span → next ≡ part_mark row code by back ends.0 (f x).snippet grid → next_by ≡ by + columns (f x).snippet + ends.0 → next_back ≡ back + ends.1 → marks_of files row code by back (map f xs) grid ≡ start → marks_of files row code next_by next_back (map f ys) next ≡ start
marks_next f files row code by back next_by next_back xs ys x ends grid next start split is e1 e2 e3 before =
    let more = map f ys in
    let snippet = (f x).snippet in
    ap (λ z. marks_of files row code next_by next_back more z) e1
    ∙ ap (λ k. marks_of files row code k next_back more (part_mark row code by back ends.0 snippet grid)) e2
    ∙ ap (λ k. marks_of files row code (by + columns snippet + ends.0) k more (part_mark row code by back ends.0 snippet grid)) e3
    ∙ ap (λ o. mark_then o (λ at. marks_of files row code (by + columns snippet + at.0) (back + at.1) more (part_mark row code by back at.0 snippet grid)) grid) is
    ∙ sym (ap (λ z. marks_of files row code by back (map f z) grid) split)
    ∙ before

-- a part is in no file
pub marks_lost : {X : Type 0} (f : X → Edit) (files : List File) (row code by back : ℕ) (xs ys : List X) (x : X) (grid start : Grid) → xs ≡ x ∷ ys → None ≡ columns_at files (f x).span → marks_of files row code by back (map f xs) grid ≡ start → grid ≡ start
marks_lost f files row code by back xs ys x grid start split is before =
    ap (λ o. mark_then o (λ at. marks_of files row code (by + columns (f x).snippet + at.0) (back + at.1) (map f ys) (part_mark row code by back at.0 (f x).snippet grid)) grid) is
    ∙ sym (ap (λ z. marks_of files row code by back (map f z) grid) split)
    ∙ before

-- all parts are marked
pub marks_all : {X : Type 0} (f : X → Edit) (files : List File) (row code by back : ℕ) (xs : List X) (grid start : Grid) → xs ≡ [] → marks_of files row code by back (map f xs) grid ≡ start → grid ≡ start
marks_all f files row code by back xs grid start none before = sym (ap (λ z. marks_of files row code by back (map f z) grid) none) ∙ before

bar_spelled : chars (codes "| ") ≡ codes "| "
unfolding chars
bar_spelled = refl

-- the bar behind the numbers, and the marks
pub marks_drawn_if : {X : Type 0} (files : List File) (w row a b : ℕ) (parts : List Edit) (g0 g1 g2 : Grid) (r : Result (Unit {0}) X) → a ≡ w + 1 → b ≡ w + 3 → g1 ≡ put_text row a (in_style style.LineNumber (chars (codes "| "))) g0 → OnOk r (g2 ≡ marks_of files row b 0 0 parts g1) → OnOk r (g2 ≡ marks_drawn files w row parts g0)
marks_drawn_if files w row a b parts g0 g1 g2 (Err e) bar code e1 e2 = tt
marks_drawn_if files w row a b parts g0 g1 g2 (Ok u) bar code e1 e2 =
    e2
    ∙ ap (λ k. marks_of files row k 0 0 parts g1) code
    ∙ ap (marks_of files row (w + 3) 0 0 parts) (e1 ∙ ap (λ z. put_text row a (in_style style.LineNumber z) g0) bar_spelled ∙ ap (λ k. put_text row k (in_style style.LineNumber (codes "| ")) g0) bar)

-- ---- whether a text has marks

some_lines : (cs : List ℕ) → 0 < length (lines cs)
some_lines [] = omega arith
some_lines (c ∷ cs) = at (nat_eq c 10) (lines cs)
  where
    first : (ls : List (List ℕ)) → 0 < length (before_first c ls)
    first [] = omega arith
    first (line ∷ more) = omega arith

    at : (b : Bool) (ls : List (List ℕ)) → 0 < length (cond b ([] ∷ ls) (before_first c ls))
    at true ls = omega arith
    at false ls = first ls

not_one : (n : ℕ) → 0 < n → nat_eq (n + 1) 1 ≡ false
not_one n more = ne_eqb (n + 1) 1 (λ (e : n + 1 ≡ 1). omega (arith, more, e))

none_tells : {X : Type 0} (o : Option X) (r : Bool) → is_some o ≡ not r → r ≡ is_none o
none_tells None true is = refl
none_tells None false is = cc
none_tells (Some x) true is = cc
none_tells (Some x) false is = refl

one_line_if : {X : Type 0} (f g : X → Text) (text : Text) (o : Option X) (r : Bool) → r ≡ is_none o → MatchOption o (lines (chars text) ≡ chars text ∷ []) (λ it. Split text (f it) (g it)) → r ≡ nat_eq (length (lines (chars text))) 1
one_line_if f g text None r is it = is ∙ sym (ap (λ z. nat_eq (length z) 1) it)
one_line_if f g text (Some x) r is it =
    let long : length (lines (chars text)) ≡ length (lines (chars (g x))) + 1 = ap (λ (z : List (List ℕ)). length z) it.lines_are ∙ (let e : length (chars (f x) ∷ lines (chars (g x))) ≡ length (lines (chars (g x))) + 1 = omega arith in e) in
    is ∙ sym (ap (λ n. nat_eq n 1) long ∙ not_one (length (lines (chars (g x)))) (some_lines (chars (g x))))

pub one_line_is : {X : Type 0} (f g : X → Text) (text : Text) (o : Option X) (r : Bool) → is_some o ≡ not r → MatchOption o (lines (chars text) ≡ chars text ∷ []) (λ it. Split text (f it) (g it)) → r ≡ nat_eq (length (lines (chars text))) 1
one_line_is f g text o r is it = one_line_if f g text o r (none_tells o r is) it

sole_case : (parts : List SubstitutionPart) (part : SubstitutionPart) (source : Text) (same : Bool) → length parts ≡ 1 → part ≡ get_or parts 0 part → same ≡ bytes_eq (trim (string_bytes part.snippet)) (trim (encode_utf8_all (chars source))) → same ≡ is_sole (chars source) (map edit_of parts)
sole_case [] part source same one at is = absurd (let no : ⊥ = omega (arith, one) in no)
sole_case (first ∷ []) part source same one at is = is ∙ ap (λ (z : SubstitutionPart). bytes_eq (trim (string_bytes z.snippet)) (trim (encode_utf8_all (chars source)))) at
sole_case (first ∷ next ∷ more) part source same one at is = absurd (let no : ⊥ = omega (arith, one) in no)

pub sole_is : (parts : List SubstitutionPart) (part : SubstitutionPart) (source a b : Text) (same : Bool) → length parts ≡ 1 → part ≡ get_or parts 0 part → IsUtf8 source → a ≡ trim (string_bytes part.snippet) → b ≡ trim source → same ≡ bytes_eq a b → same ≡ is_sole (chars source) (map edit_of parts)
sole_is parts part source a b same one at utf8 e1 e2 is =
    sole_case parts part source same one at (is ∙ ap (λ z. bytes_eq z b) e1 ∙ ap (bytes_eq (trim (string_bytes part.snippet))) (e2 ∙ ap trim (sym (encodes-chars source utf8))))
