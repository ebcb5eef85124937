-- What loops have gone over so far.
use Rattle.std.proofs.Common.{◌≡◌, ℕ, zero, suc, ◌+◌, ◌-◌, ◌<◌, ◌≤◌, min, max, Bool, true, false, ◌&&◌, ◌||◌, cond, nat_eq, nat_le, nat_lt, List, [], ◌∷◌, ◌++◌, map, filter, length, take, drop, get_or, refl, ap, sym, ◌∙◌, arith, append_assoc, append-nil}
use Rattle.std.specs.Prelude.{Result, Ok, Err, OnOk}
use Rattle.std.specs.List.{flat_map, list_any, range_with_len, insert}
use Rattle.std.proofs.lemmas.Grind.{flat_map-append}
use Rattle.std.proofs.lemmas.List.{length-map, take_all, take_more, drop_all, take-append-drop}
use Rattle.std.proofs.lemmas.Bool.Decides.{nat_tests}
use Rattle.jsx_draw.specs.Spots.{ShownFile, ShownLine, Spot, by_lines, by_lines_put, greatest, is_before, is_single, line_put, lines_put, spot_put, spots_put, spot_lines, at_line}
use Rattle.jsx_draw.specs.Drawn.{put_by, single_mark, sorted_by}
use Rattle.jsx_draw.proofs.Drawing.{greatest_last}
use Rattle.jsx_draw.proofs.Orders.{split_at, take_next}

-- ---- lists that grow

pub flat_last : {X Y : Type 0} (h : X → List Y) (xs : List X) (x : X) → flat_map h (xs ++ x ∷ []) ≡ flat_map h xs ++ h x
flat_last h xs x = flat_map-append h xs (x ∷ []) ∙ ap (λ z. flat_map h xs ++ z) (append-nil (h x))

pub flat_next : {X Y Z : Type 0} (h : Y → List Z) (f : X → Y) (xs : List X) (i : ℕ) (x : X) (front old new : List Z) → i < length xs → x ≡ get_or xs i x → old ≡ front ++ flat_map h (take i (map f xs)) → new ≡ old ++ h (f x) → new ≡ front ++ flat_map h (take (i + 1) (map f xs))
flat_next h f xs i x front old new within at before is =
    let done = take i (map f xs) in
    is
    ∙ ap (λ z. z ++ h (f x)) before
    ∙ append_assoc front (flat_map h done) (h (f x))
    ∙ ap (λ z. front ++ z) (sym (ap (flat_map h) (take_next f xs i x within at) ∙ flat_last h done (f x)))

pub flat_all : {X Y Z : Type 0} (h : Y → List Z) (f : X → Y) (xs : List X) (i : ℕ) (front now : List Z) → length xs ≤ i → now ≡ front ++ flat_map h (take i (map f xs)) → now ≡ front ++ flat_map h (map f xs)
flat_all h f xs i front now all is = is ∙ ap (λ z. front ++ flat_map h z) (take_all i (map f xs) (omega (arith, all, length-map xs f)))

-- an item where it passes
abbrev pub if_so : {X : Type 0} → (X → Bool) → X → List X
if_so p x = cond (p x) (x ∷ []) []

filter_cases : {X : Type 0} (b : Bool) (x : X) (xs : List X) → cond b (x ∷ xs) xs ≡ cond b (x ∷ []) [] ++ xs
filter_cases true x xs = refl
filter_cases false x xs = refl

pub filter_flat : {X : Type 0} (p : X → Bool) (xs : List X) → filter p xs ≡ flat_map (if_so p) xs
filter_flat p [] = refl
filter_flat p (x ∷ xs) = filter_cases (p x) x (filter p xs) ∙ ap (λ z. if_so p x ++ z) (filter_flat p xs)

map_cases : {X Y : Type 0} (f : X → Y) (b : Bool) (x : X) (xs : List X) → map f (cond b (x ∷ xs) xs) ≡ map f (cond b (x ∷ []) []) ++ map f xs
map_cases f true x xs = refl
map_cases f false x xs = refl

-- the marks of the spans of a line, one by one
pub marks_flat : (at : ShownLine) (spots : List Spot) → map single_mark (at_line at spots) ≡ flat_map (λ spot. map single_mark (at_line at (spot ∷ []))) spots
marks_flat at [] = refl
marks_flat at (spot ∷ spots) =
    map_cases single_mark (nat_eq spot.file.start at.file.start && nat_eq spot.reach.first.line at.line) spot (at_line at spots)
    ∙ ap (λ z. map single_mark (at_line at (spot ∷ [])) ++ z) (marks_flat at spots)

-- ---- lines

lines_last : (xs : List ℕ) (x : ℕ) (rising : List ℕ) → lines_put (xs ++ x ∷ []) rising ≡ line_put x (lines_put xs rising)
lines_last [] x rising = refl
lines_last (y ∷ xs) x rising = lines_last xs x (line_put y rising)

pub lines_both : (xs ys rising : List ℕ) → lines_put (xs ++ ys) rising ≡ lines_put ys (lines_put xs rising)
lines_both [] ys rising = refl
lines_both (x ∷ xs) ys rising = lines_both xs ys (line_put x rising)

pub range_last : (a n : ℕ) → range_with_len a (suc n) ≡ range_with_len a n ++ (a + n) ∷ []
range_last a zero = ap (λ k. k ∷ []) (let e : a ≡ a + 0 = omega arith in e)
range_last a (suc n) = ap (λ z. a ∷ z) (range_last (a + 1) n ∙ ap (λ k. range_with_len (a + 1) n ++ k ∷ []) (let e : a + 1 + n ≡ a + suc n = omega arith in e))

pub range_next : (from line : ℕ) (old now new : List ℕ) → from ≤ line → now ≡ lines_put (range_with_len from (line - from)) old → new ≡ line_put line now → new ≡ lines_put (range_with_len from (line + 1 - from)) old
range_next from line old now new low before is =
    let n = line - from in
    is
    ∙ ap (line_put line) before
    ∙ sym (
    ap (λ k. lines_put (range_with_len from k) old) (let e : line + 1 - from ≡ suc n = omega (arith, low) in e)
    ∙ ap (λ z. lines_put z old) (range_last from n ∙ ap (λ k. range_with_len from n ++ k ∷ []) (let e : from + n ≡ line = omega (arith, low) in e))
    ∙ lines_last (range_with_len from n) line old
    )

pub range_end : (from to line : ℕ) (old now : List ℕ) → from ≤ line → to ≤ line → line ≤ max from to → now ≡ lines_put (range_with_len from (line - from)) old → now ≡ lines_put (range_with_len from (to - from)) old
range_end from to line old now low all high is = is ∙ ap (λ n. lines_put (range_with_len from n) old) (let e : line - from ≡ to - from = omega (arith, low, all, high) in e)

-- a line stands behind the first i
pub record Passed (line : ℕ) (xs : List ℕ) (i : ℕ) : Type 0 where
  pub is : line_put line xs ≡ take i xs ++ line_put line (drop i xs)

pub passed_none : (line : ℕ) (xs : List ℕ) → Passed line xs 0
passed_none line xs = record { is = refl }

here : (line x : ℕ) (xs : List ℕ) (i : ℕ) → i < length xs → x ≡ get_or xs i x → Passed line xs i → line_put line xs ≡ take i xs ++ line_put line (x ∷ drop (i + 1) xs)
here line x xs i within at it = it.is ∙ ap (λ z. take i xs ++ line_put line z) (split_at xs i x within at)

whole : (x : ℕ) (xs : List ℕ) (i : ℕ) → i < length xs → x ≡ get_or xs i x → take i xs ++ x ∷ drop (i + 1) xs ≡ xs
whole x xs i within at = ap (λ z. take i xs ++ z) (sym (split_at xs i x within at)) ∙ take-append-drop i xs

pub passed_same : (line x : ℕ) (xs : List ℕ) (i : ℕ) → i < length xs → x ≡ get_or xs i x → x ≡ line → Passed line xs i → xs ≡ line_put line xs
passed_same line x xs i within at same it =
    let seen : nat_eq line x ≡ true = grind (arith, nat_tests) in
    sym (here line x xs i within at it ∙ ap (λ b. take i xs ++ cond b (x ∷ drop (i + 1) xs) (cond (nat_lt line x) (line ∷ x ∷ drop (i + 1) xs) (x ∷ line_put line (drop (i + 1) xs)))) seen ∙ whole x xs i within at)

pub passed_before : (line x : ℕ) (xs : List ℕ) (i : ℕ) → i < length xs → x ≡ get_or xs i x → line < x → Passed line xs i → insert xs i line ≡ line_put line xs
passed_before line x xs i within at less it =
    let other : nat_eq line x ≡ false = grind (arith, nat_tests) in
    let seen : nat_lt line x ≡ true = grind (arith, nat_tests) in
    sym (here line x xs i within at it
    ∙ ap (λ b. take i xs ++ cond b (x ∷ drop (i + 1) xs) (cond (nat_lt line x) (line ∷ x ∷ drop (i + 1) xs) (x ∷ line_put line (drop (i + 1) xs)))) other
    ∙ ap (λ b. take i xs ++ cond b (line ∷ x ∷ drop (i + 1) xs) (x ∷ line_put line (drop (i + 1) xs))) seen
    ∙ ap (λ z. take i xs ++ line ∷ z) (sym (split_at xs i x within at)))

pub passed_more : (line x : ℕ) (xs : List ℕ) (i : ℕ) → i < length xs → x ≡ get_or xs i x → x < line → Passed line xs i → Passed line xs (i + 1)
passed_more line x xs i within at less it =
    let other : nat_eq line x ≡ false = grind (arith, nat_tests) in
    let not_less : nat_lt line x ≡ false = grind (arith, nat_tests) in record {
      is =
          here line x xs i within at it
          ∙ ap (λ b. take i xs ++ cond b (x ∷ drop (i + 1) xs) (cond (nat_lt line x) (line ∷ x ∷ drop (i + 1) xs) (x ∷ line_put line (drop (i + 1) xs)))) other
          ∙ ap (λ b. take i xs ++ cond b (line ∷ x ∷ drop (i + 1) xs) (x ∷ line_put line (drop (i + 1) xs))) not_less
          ∙ sym (append_assoc (take i xs) (x ∷ []) (line_put line (drop (i + 1) xs)))
          ∙ ap (λ z. z ++ line_put line (drop (i + 1) xs)) (sym (take_more xs i x within ∙ ap (λ z. take i xs ++ z ∷ []) (sym at)));
    }

pub passed_all : (line : ℕ) (xs : List ℕ) (i : ℕ) → length xs ≤ i → Passed line xs i → xs ++ line ∷ [] ≡ line_put line xs
passed_all line xs i all it = sym (it.is ∙ ap (λ z. take i xs ++ line_put line z) (drop_all i xs all) ∙ ap (λ z. z ++ line ∷ []) (take_all i xs all))

-- ---- files

pub spots_last : (xs : List Spot) (x : Spot) (files : List ShownFile) → spots_put (xs ++ x ∷ []) files ≡ spot_put x (spots_put xs files)
spots_last [] x files = refl
spots_last (y ∷ xs) x files = spots_last xs x (spot_put y files)

pub spots_both : (xs ys : List Spot) (files : List ShownFile) → spots_put (xs ++ ys) files ≡ spots_put ys (spots_put xs files)
spots_both [] ys files = refl
spots_both (x ∷ xs) ys files = spots_both xs ys (spot_put x files)

pub spots_next : {X : Type 0} (f : X → Spot) (xs : List X) (i : ℕ) (x : X) (old now new : List ShownFile) → i < length xs → x ≡ get_or xs i x → now ≡ spots_put (take i (map f xs)) old → new ≡ spot_put (f x) now → new ≡ spots_put (take (i + 1) (map f xs)) old
spots_next f xs i x old now new within at before is =
    is ∙ ap (spot_put (f x)) before ∙ sym (ap (λ z. spots_put z old) (take_next f xs i x within at) ∙ spots_last (take i (map f xs)) (f x) old)

pub spots_all : {X : Type 0} (f : X → Spot) (xs : List X) (i : ℕ) (old now : List ShownFile) → length xs ≤ i → now ≡ spots_put (take i (map f xs)) old → now ≡ spots_put (map f xs) old
spots_all f xs i old now all is = is ∙ ap (λ z. spots_put z old) (take_all i (map f xs) (omega (arith, all, length-map xs f)))

-- ---- items that pass

pub filter_next : {X Y : Type 0} (p : Y → Bool) (f : X → Y) (xs : List X) (i : ℕ) (x : X) (so : Bool) (old new : List Y) → i < length xs → x ≡ get_or xs i x → so ≡ p (f x) → new ≡ old ++ cond so (f x ∷ []) [] → old ≡ flat_map (if_so p) (take i (map f xs)) → new ≡ flat_map (if_so p) (take (i + 1) (map f xs))
filter_next p f xs i x so old new within at same is before = flat_next (if_so p) f xs i x [] old new within at before (is ∙ ap (λ b. old ++ cond b (f x ∷ []) []) same)

pub filter_all : {X Y : Type 0} (p : Y → Bool) (f : X → Y) (xs : List X) (i : ℕ) (now : List Y) → length xs ≤ i → now ≡ flat_map (if_so p) (take i (map f xs)) → now ≡ filter p (map f xs)
filter_all p f xs i now all is = flat_all (if_so p) f xs i [] now all is ∙ sym (filter_flat p (map f xs))

-- ---- spans by their lines

put_lines : (x : Spot) (ys : List Spot) → put_by is_before x ys ≡ by_lines_put x ys
put_lines x [] = refl
put_lines x (y ∷ ys) = ap (λ z. cond (is_before x y) (x ∷ y ∷ ys) (y ∷ z)) (put_lines x ys)

pub lines_sorted : (xs : List Spot) → sorted_by is_before xs ≡ by_lines xs
lines_sorted [] = refl
lines_sorted (x ∷ xs) = ap (put_by is_before x) (lines_sorted xs) ∙ put_lines x (by_lines xs)

-- ---- the greatest of some numbers

pub greatest_next : (xs : List ℕ) (i now x : ℕ) → i < length xs → x ≡ get_or xs i x → now ≡ greatest (take i xs) → max now x ≡ greatest (take (i + 1) xs)
greatest_next xs i now x within at before = ap (λ n. max n x) before ∙ sym (ap greatest (take_more xs i x within ∙ ap (λ z. take i xs ++ z ∷ []) (sym at)) ∙ greatest_last (take i xs) x)

pub depth_next : {X : Type 0} (f : X → ℕ) (xs : List X) (i now : ℕ) (x : X) → i < length xs → x ≡ get_or xs i x → now ≡ greatest (take i (map f xs)) → max now (f x) ≡ greatest (take (i + 1) (map f xs))
depth_next f xs i now x within at before = ap (λ n. max n (f x)) before ∙ sym (ap greatest (take_next f xs i x within at) ∙ greatest_last (take i (map f xs)) (f x))

-- ---- lines of a span

or_next : (a b c : Bool) → (a || (b || c)) ≡ ((a || b) || c)
or_next true b c = refl
or_next false b c = refl

any_both : (p : ℕ → Bool) (xs ys : List ℕ) → list_any p (xs ++ ys) ≡ (list_any p xs || list_any p ys)
any_both p [] ys = refl
any_both p (x ∷ xs) ys = ap (λ b. p x || b) (any_both p xs ys) ∙ or_next (p x) (list_any p xs) (list_any p ys)

or_false : (b : Bool) → (b || false) ≡ b
or_false true = refl
or_false false = refl

-- a number among some that follow each other
range_cases : (line a n : ℕ) (same : Bool) → nat_eq line a ≡ same → (same || (nat_le (a + 1) line && nat_lt line (a + 1 + n))) ≡ (nat_le a line && nat_lt line (a + suc n))
range_cases line a n true is = grind (arith, nat_tests)
range_cases line a n false is = grind (arith, nat_tests)

pub range_any : (line a n : ℕ) → list_any (nat_eq line) (range_with_len a n) ≡ (nat_le a line && nat_lt line (a + n))
range_any line a zero = grind (arith, nat_tests)
range_any line a (suc n) = ap (λ b. nat_eq line a || b) (range_any line (a + 1) n) ∙ range_cases line a n (nat_eq line a) refl

pub shown_any : (line a b : ℕ) (begun next : List ℕ) → list_any (nat_eq line) (begun ++ (next ++ b ∷ [])) ≡ (list_any (nat_eq line) begun || (list_any (nat_eq line) next || nat_eq line b))
shown_any line a b begun next =
    any_both (nat_eq line) begun (next ++ b ∷ [])
    ∙ ap (λ z. list_any (nat_eq line) begun || z) (any_both (nat_eq line) next (b ∷ []) ∙ ap (λ z. list_any (nat_eq line) next || z) (or_false (nat_eq line b)))

is_less : (m n : ℕ) → m < n → nat_lt m n ≡ true
is_less m n less = grind (arith, nat_tests)

pub not_less : (m n : ℕ) → n ≤ m → nat_lt m n ≡ false
not_less m n le = grind (arith, nat_tests)

is_most : (m n : ℕ) → m ≤ n → nat_le m n ≡ true
is_most m n le = grind (arith, nat_tests)

not_most : (m n : ℕ) → n < m → nat_le m n ≡ false
not_most m n less = grind (arith, nat_tests)

pub begun_low : (line a b : ℕ) → line < a → false ≡ list_any (nat_eq line) (range_with_len a (min (a + 4) b - a))
begun_low line a b low = sym (range_any line a (min (a + 4) b - a) ∙ ap (λ z. z && nat_lt line (a + (min (a + 4) b - a))) (not_most a line low))

begun_test : (line a b : ℕ) (t : Bool) → nat_lt line b ≡ t → a ≤ line → line - a < 4 → t ≡ nat_lt line (a + (min (a + 4) b - a))
begun_test line a b true is low near = let less : line < b = grind (arith, nat_tests) in sym (is_less line (a + (min (a + 4) b - a)) (omega (arith, less, low, near)))
begun_test line a b false is low near = let most : b ≤ line = grind (arith, nat_tests) in sym (not_less line (a + (min (a + 4) b - a)) (omega (arith, most, low)))

pub begun_near : (line a b : ℕ) → a ≤ line → line - a < 4 → nat_lt line b ≡ list_any (nat_eq line) (range_with_len a (min (a + 4) b - a))
begun_near line a b low near = sym (range_any line a (min (a + 4) b - a) ∙ ap (λ z. z && nat_lt line (a + (min (a + 4) b - a))) (is_most a line low) ∙ sym (begun_test line a b (nat_lt line b) refl low near))

pub begun_far : (line a b : ℕ) → a ≤ line → 4 ≤ line - a → false ≡ list_any (nat_eq line) (range_with_len a (min (a + 4) b - a))
begun_far line a b low far = sym (range_any line a (min (a + 4) b - a) ∙ ap (λ z. z && nat_lt line (a + (min (a + 4) b - a))) (is_most a line low) ∙ not_less line (a + (min (a + 4) b - a)) (omega (arith, low, far)))

pub single_any : (line : ℕ) (spot : Spot) → is_single spot ≡ true → nat_eq line spot.reach.first.line ≡ list_any (nat_eq line) (spot_lines spot)
single_any line spot is = sym (ap (λ b. list_any (nat_eq line) (cond b (spot.reach.first.line ∷ []) (range_with_len spot.reach.first.line (min (spot.reach.first.line + 4) spot.reach.last.line - spot.reach.first.line) ++ (cond (nat_lt (spot.reach.first.line + 4) (spot.reach.last.line - 1)) ((spot.reach.last.line - 1) ∷ []) [] ++ spot.reach.last.line ∷ [])))) is ∙ or_false (nat_eq line spot.reach.first.line))

pub wide_any : (line : ℕ) (spot : Spot) (begun ending : Bool) → is_single spot ≡ false → begun ≡ list_any (nat_eq line) (range_with_len spot.reach.first.line (min (spot.reach.first.line + 4) spot.reach.last.line - spot.reach.first.line)) → ending ≡ (list_any (nat_eq line) (cond (nat_lt (spot.reach.first.line + 4) (spot.reach.last.line - 1)) ((spot.reach.last.line - 1) ∷ []) []) || nat_eq line spot.reach.last.line) → (begun || ending) ≡ list_any (nat_eq line) (spot_lines spot)
wide_any line spot begun ending is first last =
    let firsts = range_with_len spot.reach.first.line (min (spot.reach.first.line + 4) spot.reach.last.line - spot.reach.first.line) in
    let next = cond (nat_lt (spot.reach.first.line + 4) (spot.reach.last.line - 1)) ((spot.reach.last.line - 1) ∷ []) [] in
    ap (λ b. b || ending) first
    ∙ ap (λ b. list_any (nat_eq line) firsts || b) last
    ∙ sym (shown_any line spot.reach.first.line spot.reach.last.line firsts next)
    ∙ sym (ap (λ b. list_any (nat_eq line) (cond b (spot.reach.first.line ∷ []) (firsts ++ (next ++ spot.reach.last.line ∷ [])))) is)

abbrev begun_of : Spot → List ℕ
begun_of spot = range_with_len spot.reach.first.line (min (spot.reach.first.line + 4) spot.reach.last.line - spot.reach.first.line)

abbrev next_of : Spot → List ℕ
next_of spot = cond (nat_lt (spot.reach.first.line + 4) (spot.reach.last.line - 1)) ((spot.reach.last.line - 1) ∷ []) []

pub begun_any : (line : ℕ) (spot : Spot) → is_single spot ≡ false → true ≡ list_any (nat_eq line) (begun_of spot) → true ≡ list_any (nat_eq line) (spot_lines spot)
begun_any line spot is first = wide_any line spot true (list_any (nat_eq line) (next_of spot) || nat_eq line spot.reach.last.line) is first refl

pub ending_any : (line : ℕ) (spot : Spot) (ending : Bool) → is_single spot ≡ false → false ≡ list_any (nat_eq line) (begun_of spot) → ending ≡ (list_any (nat_eq line) (next_of spot) || nat_eq line spot.reach.last.line) → ending ≡ list_any (nat_eq line) (spot_lines spot)
ending_any line spot ending is first last = wide_any line spot false ending is first last

-- ---- the lines of a span, put among others

pub span_put_if : {X : Type 0} (spot : Spot) (old first second new : List ℕ) (begun : ℕ) (r : Result (Unit {0}) X) → is_single spot ≡ false → begun ≡ spot.reach.first.line + 4 → first ≡ lines_put (range_with_len spot.reach.first.line (min begun spot.reach.last.line - spot.reach.first.line)) old → second ≡ lines_put (cond (nat_lt begun (spot.reach.last.line - 1)) ((spot.reach.last.line - 1) ∷ []) []) first → OnOk r (new ≡ line_put spot.reach.last.line second) → OnOk r (new ≡ lines_put (spot_lines spot) old)
span_put_if spot old first second new begun (Err e) is same e1 e2 e3 = tt
span_put_if spot old first second new begun (Ok u) is same e1 e2 e3 =
    let firsts = λ (n : ℕ). range_with_len spot.reach.first.line (min n spot.reach.last.line - spot.reach.first.line) in
    let next = λ (n : ℕ). cond (nat_lt n (spot.reach.last.line - 1)) ((spot.reach.last.line - 1) ∷ []) [] in
    let last = spot.reach.last.line ∷ [] in
    e3
    ∙ ap (line_put spot.reach.last.line) (e2 ∙ ap (lines_put (next begun)) e1)
    ∙ sym (lines_both (firsts begun) (next begun ++ last) old ∙ lines_both (next begun) last (lines_put (firsts begun) old))
    ∙ ap (λ n. lines_put (firsts n ++ (next n ++ last)) old) same
    ∙ sym (ap (λ b. lines_put (cond b (spot.reach.first.line ∷ []) (firsts (spot.reach.first.line + 4) ++ (next (spot.reach.first.line + 4) ++ last))) old) is)
