-- Pieces of a file's text, and parts put in.
use Rattle.std.proofs.Common.{◌≡◌, ⊎_elim, ℕ, suc, ◌+◌, ◌-◌, ◌<◌, ◌≤◌, Bool, true, false, true≢false, ◌||◌, cond, nat_eq, nat_le, List, [], ◌∷◌, ◌++◌, map, length, take, drop, get_or, Option, Some, None, string_bytes, refl, ap, sym, ◌∙◌, subst, arith, append_assoc, take-append-drop, length-drop, length-append}
use Rattle.std.specs.Prelude.{MatchOption}
use Rattle.std.specs.Borrow.{Bor}
use Rattle.std.specs.Str.{IsUtf8, IsCharBoundary, NoCharPasses, chars, encode_utf8_all}
use Rattle.std.specs.Str.Pattern.{RFindsChar, HasCharAt}
use Rattle.std.proofs.lemmas.Bool.{cases_Bool}
use Rattle.std.proofs.lemmas.Bool.Decides.{eqb_tells, leb_tells, nat_tests}
use Rattle.std.proofs.lemmas.List.{length-take-le, drop_all, get_or-append_right, append-nil, take_more, get_or-map, map-append, take-map, drop-map}
use Rattle.std.specs.Option.{option_map, is_none, is_some}
use Rattle.std.proofs.lemmas.List.Folds.{list_any_at, list_any_more}
use Rattle.std.specs.List.{insert, list_any}
use Rattle.std.proofs.Math.Seq.{drop-cons, drop-append_seam, take-append_seam}
use Rattle.std.proofs.lemmas.Str.{encodes-append, encodes_same, encodes-chars, encode_ascii, chars-append, chars-nil, IsUtf8-take, IsUtf8-drop, IsUtf8-past_char, IsCharBoundary-before_ascii}
use Rattle.jsx_base.specs.Lines.{lines, before_first, last_line, size, front}
use Rattle.jsx_base.specs.LineStarts.{Split}
use Rattle.jsx_base.proofs.LineParts.{NoEnd, lines_single, size-append, front_append, last_line_of, parts}
use Rattle.jsx_base.proofs.FirstLine.{chars_end, size-chars}
use Rattle.jsx_base.proofs.FileEnds.{le_true}
use Rattle.jsx_base.proofs.SpotAt.{size_front}
use Rattle.jsx_base.proofs.Between as Cuts
use Rattle.jsx_base.proofs.Between.{front_prefix, front_longer}
use Rattle.jsx_base.specs.Files.{File}
use Rattle.jsx_base.specs.SpanPlaces.{low, high}
use Rattle.jsx_diag.specs.declared.suggestion.SubstitutionPart.{SubstitutionPart}
use Rattle.jsx_diag.specs.Data.{Edit, edit_of}
use Rattle.jsx_diag.specs.Splice.{put_in, put_all, by_start, between, line_before, line_behind, replaced, last_end, Spliced, spliced_text, spliced_in, splice_of, spliced, parts_file, first_line, ends_line, before_rest, without_ends, completed}

le_false : (a b : ℕ) → b < a → nat_le a b ≡ false
le_false a b order = grind (arith, nat_tests)

-- ---- where whole characters end

-- the last place at which a text may be cut, up to n, is where the characters end that stand whole before n
pub floor_is : (bs : List ℕ) (n k : ℕ) → IsUtf8 bs → k ≤ n → IsCharBoundary bs k → ((i : ℕ) → k < i → i ≤ n → IsCharBoundary bs i → ⊥) → k ≡ size (front (chars bs) n)
floor_is bs n k utf8 low cut nearest =
    let s = size (front (chars bs) n) in
    let upto : s ≤ n = size_front (chars bs) n in
    let split : chars bs ≡ chars (take k bs) ++ chars (drop k bs) =
    ap chars (sym (take-append-drop k bs)) ∙ chars-append (take k bs) (drop k bs) (IsUtf8-take bs k utf8 cut) in
    let wide : size (chars (take k bs)) ≡ k = size-chars (take k bs) (IsUtf8-take bs k utf8 cut) ∙ length-take-le k bs cut.0 in
    let grown : s ≡ size (chars (take k bs)) + size (front (chars (drop k bs)) (n - size (chars (take k bs)))) =
    ap (λ z. size (front z n)) split
    ∙ ap size (front_append (chars (take k bs)) (chars (drop k bs)) n (omega (arith, wide, low)))
    ∙ size-append (chars (take k bs)) (front (chars (drop k bs)) (n - size (chars (take k bs)))) in
    ⊎_elim
    (λ e. omega (arith, e.1, grown, wide))
    (λ e. absurd (nearest s e.1 upto (Cuts.between bs n n utf8 (omega arith)).end))
    (leb_tells s k)

-- a text is cut behind its whole characters up to n
pub record CutAt (bs : List ℕ) (n : ℕ) : Type 0 where
  pub cut : IsCharBoundary bs (size (front (chars bs) n))
  pub front_is : chars (take (size (front (chars bs) n)) bs) ≡ front (chars bs) n
  pub back_is : chars (drop (size (front (chars bs) n)) bs) ≡ drop (length (front (chars bs) n)) (chars bs)

pub cut_at : (bs : List ℕ) (n : ℕ) → IsUtf8 bs → CutAt bs n
cut_at bs n utf8 =
    let f = front (chars bs) n in
    let p = front_prefix (chars bs) n in
    let cut : IsCharBoundary bs (size f) = (Cuts.between bs n n utf8 (omega arith)).end in
    let whole : bs ≡ encode_utf8_all f ++ encode_utf8_all p.0 = sym (encodes-chars bs utf8) ∙ ap encode_utf8_all p.1 ∙ encodes-append f p.0 in
    let taken : take (size f) bs ≡ encode_utf8_all f = ap (take (size f)) whole ∙ take-append_seam (encode_utf8_all f) (encode_utf8_all p.0) in
    let left : drop (size f) bs ≡ encode_utf8_all p.0 = ap (drop (size f)) whole ∙ drop-append_seam (encode_utf8_all f) (encode_utf8_all p.0) in record {
      cut = cut;
      front_is =
          encodes_same (chars (take (size f) bs)) f (encodes-chars (take (size f) bs) (IsUtf8-take bs (size f) utf8 cut) ∙ taken);
      back_is =
          encodes_same (chars (drop (size f) bs)) p.0 (encodes-chars (drop (size f) bs) (IsUtf8-drop bs (size f) utf8 cut) ∙ left)
          ∙ sym (ap (drop (length f)) p.1 ∙ drop-append_seam f p.0);
    }

-- nothing stands between two places of which the second isn't behind the first
pub between_none : (text : List ℕ) (a b : ℕ) → b ≤ a → drop (length (front text a)) (front text b) ≡ []
between_none text a b order =
    let p = front_longer text b a order in
    drop_all (length (front text a)) (front text b) (omega (arith, ap length p.1, length-append (front text b) p.0))

-- ---- lines

lines_begin : (text : List ℕ) (more : List (List ℕ)) → (c : ℕ) → before_first c (lines text ++ more) ≡ before_first c (lines text) ++ more
lines_begin text more c =
    let p = parts text in
    ap (λ z. before_first c (z ++ more)) p.are ∙ ap (λ z. before_first c z ++ more) (sym p.are)

pub lines_joined : (xs ys : List ℕ) → lines (xs ++ 10 ∷ ys) ≡ lines xs ++ lines ys
lines_joined [] ys = refl
lines_joined (c ∷ xs) ys =
    ap (λ z. cond (nat_eq c 10) ([] ∷ z) (before_first c z)) (lines_joined xs ys)
    ∙ ⊎_elim
    (λ e. ap (λ b. cond b ([] ∷ (lines xs ++ lines ys)) (before_first c (lines xs ++ lines ys))) e ∙ ap (λ b. cond b ([] ∷ lines xs) (before_first c (lines xs)) ++ lines ys) (sym e))
    (λ e. ap (λ b. cond b ([] ∷ (lines xs ++ lines ys)) (before_first c (lines xs ++ lines ys))) e ∙ lines_begin xs (lines ys) c ∙ ap (λ b. cond b ([] ∷ lines xs) (before_first c (lines xs)) ++ lines ys) (sym e))
    (cases_Bool (nat_eq c 10))

no_end : (bs : List ℕ) → IsUtf8 bs → NoCharPasses (λ d. nat_eq d 10) bs → NoEnd (chars bs)
no_end bs utf8 (cs, is, none) = subst NoEnd (encodes_same cs (chars bs) (is ∙ sym (encodes-chars bs utf8))) none

-- the text behind the last LF
last_line_after : (xs ys : List ℕ) → NoEnd ys → last_line (lines (xs ++ 10 ∷ ys)) ≡ ys
last_line_after xs ys ok = ap last_line (lines_joined xs ys ∙ ap (λ z. lines xs ++ z) (lines_single ys ok)) ∙ last_line_of (lines xs) ys

-- an LF in UTF-8 parts the characters
pub chars_at_end : (bs : List ℕ) (i j : ℕ) → IsUtf8 bs → HasCharAt 10 bs i j → chars bs ≡ chars (take i bs) ++ 10 ∷ chars (drop j bs)
chars_at_end bs i j utf8 at =
    let split : drop i bs ≡ 10 ∷ drop j bs = at.split ∙ ap (λ z. z ++ drop j bs) (encode_ascii 10 (omega arith)) in
    let whole : bs ≡ take i bs ++ 10 ∷ drop j bs = sym (take-append-drop i bs) ∙ ap (λ z. take i bs ++ z) split in
    let long : length bs - i ≡ suc (length (drop j bs)) = sym (length-drop i bs) ∙ ap length split in
    let byte : get_or bs i 0 ≡ 10 = at.byte (omega arith) in
    let cut : IsCharBoundary bs i = IsCharBoundary-before_ascii bs i (omega arith) (omega arith) in
    ap chars whole
    ∙ chars-append (take i bs) (10 ∷ drop j bs) (IsUtf8-take bs i utf8 cut)
    ∙ ap (λ z. chars (take i bs) ++ z) (chars_end (drop j bs))

behind_end : (bs : List ℕ) (i j : ℕ) → IsUtf8 bs → HasCharAt 10 bs i j → IsUtf8 (drop j bs)
behind_end bs i j utf8 at =
    let split : drop i bs ≡ 10 ∷ drop j bs = at.split ∙ ap (λ z. z ++ drop j bs) (encode_ascii 10 (omega arith)) in
    let long : length bs - i ≡ suc (length (drop j bs)) = sym (length-drop i bs) ∙ ap length split in
    let byte : get_or bs i 0 ≡ 10 = at.byte (omega arith) in
    let cut : IsCharBoundary bs i = IsCharBoundary-before_ascii bs i (omega arith) (omega arith) in
    IsUtf8-past_char (10 ∷ drop j bs) (drop j bs) 10 (subst (λ z. IsUtf8 z) split (IsUtf8-drop bs i utf8 cut)) (ap (λ z. z ++ drop j bs) (sym (encode_ascii 10 (omega arith))))

-- what `rsplit_once` gives at LF
abbrev pub IsRsplitResult : List ℕ → Option (Bor (List ℕ) × Bor (List ℕ)) → Type 0
IsRsplitResult bs r = MatchOption r (RFindsChar 10 bs None) (λ x. (i : ℕ) × (j : ℕ) × RFindsChar 10 bs (Some (i, j)) × (x.0.now ≡ take i bs) × (x.1.now ≡ drop j bs) × (i ≤ j) × (length x.0.now ≡ i) × (length x.1.now + j ≡ length bs))

pub rsplit_line : (bs : List ℕ) (r : Option (Bor (List ℕ) × Bor (List ℕ))) → IsUtf8 bs → IsRsplitResult bs r → MatchOption r (chars bs ≡ last_line (lines (chars bs))) (λ it. chars it.1.now ≡ last_line (lines (chars bs)))
rsplit_line bs None utf8 none = sym (ap last_line (lines_single (chars bs) (no_end bs utf8 none)))
rsplit_line bs (Some it) utf8 h =
    let back : IsUtf8 (drop h.1 bs) = behind_end bs h.0 h.1 utf8 h.2.1 in
    ap chars h.4
    ∙ sym (ap (λ z. last_line (lines z)) (chars_at_end bs h.0 h.1 utf8 h.2.1) ∙ last_line_after (chars (take h.0 bs)) (chars (drop h.1 bs)) (no_end (drop h.1 bs) back h.2.0))

pub split_line_first : (bs : List ℕ) (r : Option (Bor (List ℕ) × Bor (List ℕ))) → MatchOption r (lines (chars bs) ≡ chars bs ∷ []) (λ it. Split bs it.0.now it.1.now) → MatchOption r (chars bs ≡ first_line (lines (chars bs))) (λ it. chars it.0.now ≡ first_line (lines (chars bs)))
split_line_first bs None whole = sym (ap first_line whole)
split_line_first bs (Some it) split = sym (ap first_line split.lines_are)

-- ---- the LF at the end

ends_line-more : (xs : List ℕ) (c : ℕ) → ends_line (xs ++ c ∷ []) ≡ nat_eq c 10
ends_line-more [] c = refl
ends_line-more (x ∷ []) c = refl
ends_line-more (x ∷ y ∷ xs) c = ends_line-more (y ∷ xs) c

record EndsIn (xs : List ℕ) : Type 0 where
  front : List ℕ
  is : xs ≡ front ++ 10 ∷ []

ends_in : (xs : List ℕ) → ends_line xs ≡ true → EndsIn xs
ends_in [] ends = absurd (true≢false (sym ends))
ends_in (x ∷ []) ends = ⊎_elim (λ e. record { front = []; is = ap (λ z. z ∷ []) e.1 }) (λ e. absurd (true≢false (sym ends ∙ e.0))) (eqb_tells x 10)
ends_in (x ∷ y ∷ xs) ends = let p = ends_in (y ∷ xs) ends in record { front = x ∷ p.front; is = ap (λ z. x ∷ z) p.is }

pub last_cut : (bs : List ℕ) → bs ≡ take (length bs - 1) bs ++ 10 ∷ [] → IsCharBoundary bs (length bs - 1)
last_cut bs is =
    let n = length bs - 1 in
    let long : length bs ≡ length (take n bs) + 1 = ap length is ∙ length-append (take n bs) (10 ∷ []) in
    let front : length (take n bs) ≡ n = length-take-le n bs (omega arith) in
    let last : get_or bs n 0 ≡ 10 = ap (λ z. get_or z n 0) is ∙ get_or-append_right (take n bs) (10 ∷ []) n n 0 front (omega arith) ∙ ap (λ k. get_or (10 ∷ []) k 0) (let e : n - n ≡ 0 = omega arith in e) in
    IsCharBoundary-before_ascii bs n (omega (arith, long, front)) (omega (arith, last))

-- the characters of a text whose last byte is LF
pub last_chars : (bs : List ℕ) → IsUtf8 bs → bs ≡ take (length bs - 1) bs ++ 10 ∷ [] → chars bs ≡ chars (take (length bs - 1) bs) ++ 10 ∷ []
last_chars bs utf8 is = ap chars is ∙ chars-append (take (length bs - 1) bs) (10 ∷ []) (IsUtf8-take bs (length bs - 1) utf8 (last_cut bs is)) ∙ ap (λ z. chars (take (length bs - 1) bs) ++ z) (chars_end [] ∙ ap (λ z. 10 ∷ z) chars-nil)

-- the last byte is LF exactly where the last character is
pub ends_same : (bs : List ℕ) (r : Bool) → IsUtf8 bs → (r ≡ true → bs ≡ take (length bs - 1) bs ++ 10 ∷ []) × ((f : List ℕ) → bs ≡ f ++ 10 ∷ [] → r ≡ true) → r ≡ ends_line (chars bs)
ends_same bs true utf8 h = sym (ap ends_line (last_chars bs utf8 (h.0 refl)) ∙ ends_line-more (chars (take (length bs - 1) bs)) 10)
ends_same bs false utf8 h =
    ⊎_elim
    (λ e. let p = ends_in (chars bs) e in
    let whole : bs ≡ encode_utf8_all p.front ++ 10 ∷ [] = sym (encodes-chars bs utf8) ∙ ap encode_utf8_all p.is ∙ encodes-append p.front (10 ∷ []) ∙ ap (λ z. encode_utf8_all p.front ++ (z ++ [])) (encode_ascii 10 (omega arith)) in
    absurd (true≢false (sym (h.1 (encode_utf8_all p.front) whole))))
    (λ e. sym e)
    (cases_Bool (ends_line (chars bs)))

pub without_ends-more : (xs : List ℕ) → without_ends (xs ++ 10 ∷ []) ≡ without_ends xs
without_ends-more [] = refl
without_ends-more (c ∷ xs) = ap (before_rest c) (without_ends-more xs)

pub without_ends-none : (xs : List ℕ) → ends_line xs ≡ false → without_ends xs ≡ xs
without_ends-none [] ends = refl
without_ends-none (c ∷ []) ends = ap (λ b. cond b [] (c ∷ [])) ends
without_ends-none (c ∷ d ∷ xs) ends = ap (before_rest c) (without_ends-none (d ∷ xs) ends)

-- an LF that was taken off doesn't matter
pub end_cut : (old new : List ℕ) → IsUtf8 old → old ≡ take (length old - 1) old ++ 10 ∷ [] → new ≡ take (length old - 1) old → without_ends (chars old) ≡ without_ends (chars new)
end_cut old new utf8 ends is =
    ap without_ends (last_chars old utf8 ends) ∙ without_ends-more (chars (take (length old - 1) old)) ∙ ap (λ z. without_ends (chars z)) (sym is)

-- what follows in the line was added, or the text ends with LF
pub completed_more : (old new : List ℕ) (rest line : List ℕ) → IsUtf8 old → ends_line (chars old) ≡ false → new ≡ old ++ rest → chars rest ≡ line → chars new ≡ completed (chars old) line
completed_more old new rest line utf8 ends is line_is =
    ap chars is ∙ chars-append old rest utf8 ∙ ap (λ z. chars old ++ z) line_is ∙ ap (λ b. cond b (chars old) (chars old ++ line)) (sym ends)

-- ---- the parts

-- the first i elements don't begin later
abbrev pub PutBehind : ℕ → ℕ → List Edit → Type 0
PutBehind start i es = (part : Edit) → low part.span ≡ start → put_in part es ≡ take i es ++ put_in part (drop i es)

pub behind_none : (start : ℕ) (es : List Edit) → PutBehind start 0 es
behind_none start es part is = refl

pub behind_more : (start i : ℕ) (es : List Edit) (e : Edit) → i < length es → get_or es i e ≡ e → low e.span ≤ start → PutBehind start i es → PutBehind start (i + 1) es
behind_more start i es e within read low_e put part is =
    let split : drop i es ≡ e ∷ drop (i + 1) es = drop-cons es i e within ∙ ap (λ z. z ∷ drop (suc i) es) read ∙ ap (λ k. e ∷ drop k es) (let k : suc i ≡ i + 1 = omega arith in k) in
    let test : nat_le (low e.span) (low part.span) ≡ true = le_true (low e.span) (low part.span) (omega (arith, is, low_e)) in
    put part is
    ∙ ap (λ z. take i es ++ put_in part z) split
    ∙ ap (λ b. take i es ++ cond b (e ∷ put_in part (drop (i + 1) es)) (part ∷ e ∷ drop (i + 1) es)) test
    ∙ sym (append_assoc (take i es) (e ∷ []) (put_in part (drop (i + 1) es)))
    ∙ ap (λ z. z ++ put_in part (drop (i + 1) es)) (sym (take_more es i e within ∙ ap (λ z. take i es ++ z ∷ []) read))

pub put_here : (start i : ℕ) (es : List Edit) (e : Edit) → i < length es → get_or es i e ≡ e → start < low e.span → PutBehind start i es → (part : Edit) → low part.span ≡ start → put_in part es ≡ insert es i part
put_here start i es e within read low_e put part is =
    let split : drop i es ≡ e ∷ drop (suc i) es = drop-cons es i e within ∙ ap (λ z. z ∷ drop (suc i) es) read in
    let test : nat_le (low e.span) (low part.span) ≡ false = le_false (low e.span) (low part.span) (omega (arith, is, low_e)) in
    put part is
    ∙ ap (λ z. take i es ++ put_in part z) split
    ∙ ap (λ b. take i es ++ cond b (e ∷ put_in part (drop (suc i) es)) (part ∷ e ∷ drop (suc i) es)) test
    ∙ ap (λ z. take i es ++ part ∷ z) (sym split)

pub put_last : (start i : ℕ) (es : List Edit) → length es ≤ i → PutBehind start i es → (part : Edit) → low part.span ≡ start → put_in part es ≡ insert es i part
put_last start i es all put part is =
    put part is ∙ ap (λ z. take i es ++ put_in part z) (drop_all i es all) ∙ ap (λ z. take i es ++ part ∷ z) (sym (drop_all i es all))

-- the element at i, seen as an edit
pub edit_at : (xs : List SubstitutionPart) (i : ℕ) (x : SubstitutionPart) → i < length xs → x ≡ get_or xs i x → get_or (map edit_of xs) i (edit_of x) ≡ edit_of x
edit_at xs i x within read = get_or-map edit_of xs i x (edit_of x) within ∙ ap edit_of (sym read)

pub first_left : (xs : List SubstitutionPart) (i : ℕ) (x : SubstitutionPart) → i < length xs → x ≡ get_or xs i x → map edit_of (drop i xs) ≡ edit_of x ∷ map edit_of (drop (i + 1) xs)
first_left xs i x within read =
    ap (map edit_of) (drop-cons xs i x within)
    ∙ ap (λ z. edit_of z ∷ map edit_of (drop (suc i) xs)) (sym read)
    ∙ ap (λ k. edit_of x ∷ map edit_of (drop k xs)) (let k : suc i ≡ i + 1 = omega arith in k)

-- those that are in order so far, and those that are left
abbrev pub SortedFrom : ℕ → List SubstitutionPart → List SubstitutionPart → Type 0
SortedFrom i xs sorted = put_all (map edit_of sorted) (map edit_of (drop i xs)) ≡ by_start (map edit_of xs)

pub sorted_more : (xs old new : List SubstitutionPart) (i : ℕ) (x y : SubstitutionPart) → i < length xs → x ≡ get_or xs i x → edit_of y ≡ edit_of x → map edit_of new ≡ put_in (edit_of y) (map edit_of old) → SortedFrom i xs old → SortedFrom (i + 1) xs new
sorted_more xs old new i x y within read same put sorted =
    ap (λ z. put_all z (map edit_of (drop (i + 1) xs))) (put ∙ ap (λ e. put_in e (map edit_of old)) same)
    ∙ sym (ap (put_all (map edit_of old)) (first_left xs i x within read))
    ∙ sorted

pub sorted_all : (xs sorted : List SubstitutionPart) (i : ℕ) → length xs ≤ i → SortedFrom i xs sorted → map edit_of sorted ≡ by_start (map edit_of xs)
sorted_all xs sorted i all is = sym (ap (λ z. put_all (map edit_of sorted) (map edit_of z)) (drop_all i xs all)) ∙ is

-- what is written, then what is left, is the whole
pub record Replaces (file : File) (pos : ℕ) (xs : List SubstitutionPart) (begun : List ℕ) (i at : ℕ) (text : List ℕ) : Type 0 where
  pub whole : chars text ++ replaced file at (map edit_of (drop i xs)) ≡ chars begun ++ replaced file pos (map edit_of xs)
  pub end : last_end at (map edit_of (drop i xs)) ≡ last_end pos (map edit_of xs)

pub replaces_none : (file : File) (pos : ℕ) (xs : List SubstitutionPart) (text : List ℕ) → Replaces file pos xs text 0 pos text
replaces_none file pos xs text = record { whole = refl; end = refl }

pub replaces_more : (file : File) (pos : ℕ) (xs : List SubstitutionPart) (begun : List ℕ) (i at to : ℕ) (x : SubstitutionPart) (text gap mid new : List ℕ) → i < length xs → x ≡ get_or xs i x → IsUtf8 text → IsUtf8 mid → mid ≡ text ++ gap → new ≡ mid ++ string_bytes x.snippet → chars gap ≡ between file at (low x.span) → to ≡ high x.span → Replaces file pos xs begun i at text → Replaces file pos xs begun (i + 1) to new
replaces_more file pos xs begun i at to x text gap mid new within read utf8 utf8_mid mid_is new_is gap_is to_is sofar =
    let left : map edit_of (drop i xs) ≡ edit_of x ∷ map edit_of (drop (i + 1) xs) = first_left xs i x within read in
    let more = map edit_of (drop (i + 1) xs) in
    let snippet = chars (string_bytes x.snippet) in
    let written : chars new ≡ (chars text ++ between file at (low x.span)) ++ snippet =
    ap chars new_is ∙ chars-append mid (string_bytes x.snippet) utf8_mid
    ∙ ap (λ z. z ++ snippet) (ap chars mid_is ∙ chars-append text gap utf8 ∙ ap (λ z. chars text ++ z) gap_is) in record {
      whole =
          ap (λ z. z ++ replaced file to more) written
          ∙ ap (λ p. ((chars text ++ between file at (low x.span)) ++ snippet) ++ replaced file p more) to_is
          ∙ append_assoc (chars text ++ between file at (low x.span)) snippet (replaced file (high x.span) more)
          ∙ append_assoc (chars text) (between file at (low x.span)) (snippet ++ replaced file (high x.span) more)
          ∙ sym (ap (λ z. chars text ++ replaced file at z) left)
          ∙ sofar.whole;
      end = ap (λ p. last_end p more) to_is ∙ sym (ap (last_end at) left) ∙ sofar.end;
    }

pub replaces_all : (file : File) (pos : ℕ) (xs : List SubstitutionPart) (begun : List ℕ) (i at : ℕ) (text : List ℕ) → length xs ≤ i → Replaces file pos xs begun i at text → (chars text ≡ chars begun ++ replaced file pos (map edit_of xs)) × (at ≡ last_end pos (map edit_of xs))
replaces_all file pos xs begun i at text all sofar = (
  sym (append-nil (chars text)) ∙ sym (ap (λ z. chars text ++ replaced file at (map edit_of z)) (drop_all i xs all)) ∙ sofar.whole,
  sym (ap (λ z. last_end at (map edit_of z)) (drop_all i xs all)) ∙ sofar.end,
)

-- no element passes
pub none_at : {X : Type 0} (p : X → Bool) (xs : List X) (i : ℕ) (d : X) → i < length xs → list_any p xs ≡ false → p (get_or xs i d) ≡ false
none_at p xs i d within none =
    ⊎_elim (λ e. absurd (true≢false (sym (list_any_at p xs i d within e) ∙ none))) (λ e. e) (cases_Bool (p (get_or xs i d)))

pub edits-insert : (xs : List SubstitutionPart) (i : ℕ) (x : SubstitutionPart) → map edit_of (insert xs i x) ≡ insert (map edit_of xs) i (edit_of x)
edits-insert xs i x =
    map-append edit_of (take i xs) (x ∷ drop i xs)
    ∙ ap (λ z. z ++ edit_of x ∷ map edit_of (drop i xs)) (sym (take-map edit_of i xs))
    ∙ ap (λ z. take i (map edit_of xs) ++ edit_of x ∷ z) (sym (drop-map edit_of i xs))

-- the text is made in four steps
pub made_text : (file : File) (xs : List SubstitutionPart) (x : SubstitutionPart) (pos end : ℕ) (begun whole ended cut : List ℕ) → 0 < length xs → x ≡ get_or xs 0 x → pos ≡ low x.span → begun ≡ line_before file pos → whole ≡ begun ++ replaced file pos (map edit_of xs) → end ≡ last_end pos (map edit_of xs) → ended ≡ completed whole (line_behind file end) → cut ≡ without_ends ended → cut ≡ spliced_text file (map edit_of xs)
made_text file xs x pos end begun whole ended cut some read pos_is begun_is whole_is end_is ended_is cut_is =
    let es = map edit_of xs in
    let first : es ≡ edit_of x ∷ map edit_of (drop 1 xs) = first_left xs 0 x some read in
    let at : (es ≡ edit_of x ∷ map edit_of (drop 1 xs)) → spliced_text file es ≡ without_ends (completed (line_before file (low x.span) ++ replaced file (low x.span) es) (line_behind file (last_end (low x.span) es))) =
    λ e. ap (spliced_text file) e ∙ ap (λ z. without_ends (completed (line_before file (low x.span) ++ replaced file (low x.span) z) (line_behind file (last_end (low x.span) z)))) (sym e) in
    cut_is
    ∙ ap without_ends ended_is
    ∙ ap (λ p. without_ends (completed whole (line_behind file p))) end_is
    ∙ ap (λ z. without_ends (completed z (line_behind file (last_end pos es)))) (whole_is ∙ ap (λ z. z ++ replaced file pos es) begun_is)
    ∙ ap (λ p. without_ends (completed (line_before file p ++ replaced file p es) (line_behind file (last_end p es)))) pos_is
    ∙ sym (at first)

pub seen_some : {X Y : Type 0} (f : X → Y) (o : Option X) (p : Option Y) → option_map f o ≡ p → is_none p ≡ is_none o
seen_some f None p is = ap is_none (sym is)
seen_some f (Some x) p is = ap is_none (sym is)

pub some_of : {X : Type 0} (o : Option X) → is_none o ≡ false → is_some o ≡ true
some_of None is = absurd (true≢false is)
some_of (Some x) is = refl

pub none_more : {X : Type 0} (p : X → Bool) (xs : List X) (i : ℕ) (x : X) → i < length xs → x ≡ get_or xs i x → p x ≡ false → list_any p (take i xs) ≡ false → list_any p (take (i + 1) xs) ≡ false
none_more p xs i x within read fails none =
    list_any_more p xs i x within ∙ ap (λ b. b || p (get_or xs i x)) none ∙ ap p (sym read) ∙ fails

pub some_at : {X : Type 0} (p : X → Bool) (xs : List X) (i : ℕ) (x : X) → i < length xs → x ≡ get_or xs i x → p x ≡ true → list_any p xs ≡ true
some_at p xs i x within read passes = list_any_at p xs i x within (ap p (sym read) ∙ passes)

pub splice_seen : (files : List File) (parts : List Edit) (file : File) (it : Spliced) → parts_file files parts ≡ Some file → it ≡ spliced_in file parts → Some it ≡ spliced files parts
splice_seen files parts file it found is = ap Some is ∙ sym (ap (λ o. splice_of o parts) found)

pub no_text : (file : File) (xs : List SubstitutionPart) (text : List ℕ) → length xs < 1 → text ≡ [] → chars text ≡ spliced_text file (map edit_of xs)
no_text file xs text none is = ap chars is ∙ chars-nil ∙ sym (ap (λ z. spliced_text file (map edit_of z)) (drop_all 0 xs (omega arith)))
