-- A line of a text in UTF-8, by the bytes before it.
use Rattle.std.proofs.Common.{◌≡◌, ℕ, zero, suc, ◌+◌, ◌-◌, ◌<◌, ◌≤◌, List, [], ◌∷◌, ◌++◌, length, take, drop, get_or, nat_le, true, Some, refl, ap, sym, ◌∙◌, subst, append_assoc, arith}
use Rattle.std.specs.Prelude.{slice_get}
use Rattle.std.specs.Str.{IsUtf8, IsCharBoundary, chars, encode_utf8_all}
use Rattle.std.specs.List.Sorted.{IsPartitionedBy}
use Rattle.std.proofs.lemmas.Bool.Decides.{nat_tests}
use Rattle.std.proofs.Math.Seq.{drop-append_seam}
use Rattle.std.proofs.lemmas.Str.{encodes-append, encodes_same, encodes-chars, IsCharBoundary-at_seam, IsUtf8-past_char}
use Rattle.jsx_base.specs.Lines.{lines, size, front}
use Rattle.jsx_base.specs.LineStarts.{Split, starts}
use Rattle.jsx_base.proofs.LineParts.{NoEnd, AllNoEnd, text_of, parts, cut, lines_single, lines_first, size-append, front_append, front_stops, front_NoEnd}

leb_of : (n a b : ℕ) → a ≤ b → nat_le b n ≡ true → nat_le a n ≡ true
leb_of n a b order passes = grind (arith, nat_tests)

pub utf8_back : (xs ys : List ℕ) → IsUtf8 (encode_utf8_all (xs ++ ys)) → IsUtf8 (encode_utf8_all ys)
utf8_back [] ys utf8 = utf8
utf8_back (c ∷ xs) ys utf8 = utf8_back xs ys (IsUtf8-past_char (encode_utf8_all (c ∷ (xs ++ ys))) (encode_utf8_all (xs ++ ys)) c utf8 refl)

pub lines_back : (line : List ℕ) (more : List (List ℕ)) → NoEnd line → AllNoEnd more → lines (text_of line more) ≡ line ∷ more
lines_back line [] ok others = lines_single line ok
lines_back line (next ∷ more) ok others =
    lines_first line (text_of next more) ok ∙ ap (λ z. line ∷ z) (lines_back next more others.0 others.1)

pub length-starts : (at : ℕ) (ls : List (List ℕ)) → length (starts at ls) ≡ length ls
length-starts at [] = refl
length-starts at (line ∷ more) = ap suc (length-starts (at + size line + 1) more)

-- where line j of a text begins, and what stands from there
pub record LineAt (bs : List ℕ) (j start : ℕ) : Type 0 where
  pub line : List ℕ
  pub more : List (List ℕ)
  pub boundary : IsCharBoundary bs start
  pub rest : lines (chars (drop start bs)) ≡ line ∷ more
  pub here : slice_get (lines (chars bs)) j ≡ Some line
  pub last : length (lines (chars bs)) ≡ j + 1 + length more
  pub sizes : (n : ℕ) → start ≤ n → size (front (chars bs) n) ≡ start + size (front (chars (drop start bs)) (n - start))
  pub fronts : (n : ℕ) → start ≤ n → (0 < length more → n < get_or (starts 0 (lines (chars bs))) (suc j) 0) → lines (front (chars bs) n) ≡ take j (lines (chars bs)) ++ front (chars (drop start bs)) (n - start) ∷ []

front_in_line : (line : List ℕ) (more : List (List ℕ)) (n : ℕ) → (0 < length more → n < size line + 1) → front (text_of line more) n ≡ front line n
front_in_line line [] n short = refl
front_in_line line (next ∷ more) n short = front_stops line (text_of next more) n (short (omega arith))

pub line_at : (bs : List ℕ) (j : ℕ) → IsUtf8 bs → j < length (lines (chars bs)) → LineAt bs j (get_or (starts 0 (lines (chars bs))) j 0)
line_at bs j utf8 within =
    let p = parts (chars bs) in
    let c = cut 0 j p.line p.more p.ok (subst (λ ls. j < length ls) p.are within) in
    let tail = text_of c.line c.more in
    let whole : chars bs ≡ c.before ++ tail = p.back ∙ c.text in
    let bytes : bs ≡ encode_utf8_all c.before ++ encode_utf8_all tail = sym (encodes-chars bs utf8) ∙ ap encode_utf8_all whole ∙ encodes-append c.before tail in
    let back : IsUtf8 (encode_utf8_all tail) = utf8_back c.before tail (subst (λ z. IsUtf8 z) (bytes ∙ sym (encodes-append c.before tail)) utf8) in
    let dropped : drop (size c.before) bs ≡ encode_utf8_all tail = ap (drop (size c.before)) bytes ∙ drop-append_seam (encode_utf8_all c.before) (encode_utf8_all tail) in
    let text : chars (drop (size c.before) bs) ≡ tail = ap chars dropped ∙ encodes_same (chars (encode_utf8_all tail)) tail (encodes-chars (encode_utf8_all tail) back) in
    let begins : size c.before ≡ get_or (starts 0 (lines (chars bs))) j 0 = sym (ap (λ ls. get_or (starts 0 ls) j 0) p.are ∙ c.start ∙ omega arith) in
    subst (LineAt bs j) begins (record {
      line = c.line;
      more = c.more;
      boundary = IsCharBoundary-at_seam bs (encode_utf8_all c.before) (encode_utf8_all tail) bytes back;
      rest = ap lines text ∙ lines_back c.line c.more c.ok.0 c.ok.1;
      here = ap (λ ls. slice_get ls j) p.are ∙ c.here;
      last = ap length p.are ∙ c.last;
      sizes = λ n from.
          ap (λ z. size (front z n)) whole
          ∙ ap size (front_append c.before tail n from)
          ∙ size-append c.before (front tail (n - size c.before))
          ∙ ap (λ z. size c.before + size (front z (n - size c.before))) (sym text);
      fronts = λ n from until.
          let short : 0 < length c.more → n - size c.before < size c.line + 1 = λ some.
          let next = c.next some in
          let limit = subst (λ ls. n < get_or (starts 0 ls) (suc j) 0) p.are (until some) in
          omega (arith, next, limit, from) in
          let same : front tail (n - size c.before) ≡ front c.line (n - size c.before) = front_in_line c.line c.more (n - size c.before) short in
          ap (λ z. lines (front z n)) whole
          ∙ ap lines (front_append c.before tail n from)
          ∙ ap (λ z. lines (c.before ++ z)) same
          ∙ c.fronts (front c.line (n - size c.before)) (front_NoEnd c.line (n - size c.before) c.ok.0)
          ∙ ap (λ ls. take j ls ++ front c.line (n - size c.before) ∷ []) (sym p.are)
          ∙ ap (λ z. take j (lines (chars bs)) ++ z ∷ []) (sym same ∙ ap (λ z. front z (n - size c.before)) (sym text));
    })

-- the same of the list of starts that a file keeps
pub found_line : (bs : List ℕ) (kept : List ℕ) (j start : ℕ) → IsUtf8 bs → kept ≡ starts 0 (lines (chars bs)) → j < length kept → start ≡ get_or kept j 0 → LineAt bs j start
found_line bs kept j start utf8 are within is =
    let place : get_or (starts 0 (lines (chars bs))) j 0 ≡ start = sym (is ∙ ap (λ z. get_or z j 0) are) in
    subst (LineAt bs j) place (line_at bs j utf8 (subst (λ n. j < n) (ap length are ∙ length-starts 0 (lines (chars bs))) within))

abbrev pub first_of_lines : List (List ℕ) → List ℕ
first_of_lines [] = []
first_of_lines (line ∷ more) = line

-- the first line of what stands from there is the line
pub is_line : (bs rest first : List ℕ) (more : List (List ℕ)) (j start : ℕ) → LineAt bs j start → rest ≡ drop start bs → lines (chars rest) ≡ first ∷ more → Some first ≡ slice_get (lines (chars bs)) j
is_line bs rest first more j start at is are =
    ap (λ ls. Some (first_of_lines ls)) (sym are ∙ ap (λ z. lines (chars z)) is ∙ at.rest) ∙ sym at.here

pub starts_begin : (at : ℕ) (text : List ℕ) → starts at (lines text) ≡ at ∷ drop 1 (starts at (lines text))
starts_begin at text =
    let p = parts text in
    ap (starts at) p.are ∙ ap (λ ls. at ∷ drop 1 (starts at ls)) (sym p.are)

-- one more line was walked over
pub starts_more : (bs line rest : List ℕ) (at : ℕ) (kept : List ℕ) (all : List ℕ) → Split bs line rest → all ≡ kept ++ drop 1 (starts at (lines (chars bs))) → all ≡ (kept ++ ((at + (length line + 1)) ∷ [])) ++ drop 1 (starts (at + (length line + 1)) (lines (chars rest)))
starts_more bs line rest at kept all split are =
    let next : at + size (chars line) + 1 ≡ at + (length line + 1) = omega (arith, split.width) in
    are
    ∙ ap (λ ls. kept ++ drop 1 (starts at ls)) split.lines_are
    ∙ ap (λ n. kept ++ starts n (lines (chars rest))) next
    ∙ ap (λ z. kept ++ z) (starts_begin (at + (length line + 1)) (chars rest))
    ∙ sym (append_assoc kept ((at + (length line + 1)) ∷ []) (drop 1 (starts (at + (length line + 1)) (lines (chars rest)))))

-- lines begin at rising places
starts_from : (at : ℕ) (ls : List (List ℕ)) (j d : ℕ) → j < length (starts at ls) → at ≤ get_or (starts at ls) j d
starts_from at [] j d within = absurd (omega arith)
starts_from at (line ∷ more) zero d within = omega arith
starts_from at (line ∷ more) (suc j) d within = let h = starts_from (at + size line + 1) more j d (omega arith) in omega (arith, h)

pub starts_rise : (at : ℕ) (ls : List (List ℕ)) (i j d : ℕ) → i ≤ j → j < length (starts at ls) → get_or (starts at ls) i d ≤ get_or (starts at ls) j d
starts_rise at [] i j d order within = absurd (omega arith)
starts_rise at (line ∷ more) zero j d order within = starts_from at (line ∷ more) j d within
starts_rise at (line ∷ more) (suc i) zero d order within = absurd (omega arith)
starts_rise at (line ∷ more) (suc i) (suc j) d order within = starts_rise (at + size line + 1) more i j d (omega arith) (omega arith)

pub starts_partitioned : (n : ℕ) (ls : List (List ℕ)) (kept : List ℕ) → kept ≡ starts 0 ls → IsPartitionedBy (λ start. nat_le start n) kept
starts_partitioned n ls kept are =
    subst (IsPartitionedBy (λ start. nat_le start n)) (sym are)
    (λ i j d order within passes. let rise = starts_rise 0 ls i j d order within in leb_of n _ _ rise passes)
