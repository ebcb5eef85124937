-- The columns of the bars of spans over several lines.
use Rattle.std.proofs.Common.{◌≡◌, ℕ, ◌+◌, ◌<◌, ◌≤◌, Bool, true, false, not, cond, ◌&&◌, List, [], ◌∷◌, ◌++◌, map, length, take, drop, get_or, set, nat_eq, Option, Some, None, refl, ap, sym, ◌∙◌, arith, append_assoc, append-nil}
use Rattle.std.proofs.lemmas.List.{drop_all, drop-set-lt, get_or-map, length-map, map-set, take_all, take-append-drop, take_more_set}
use Rattle.std.proofs.lemmas.Bool.Decides.{nat_tests}
use Rattle.std.proofs.lemmas.Slice.Eq.{bytes_eq-Decides}
use Rattle.jsx_diag.specs.Data.{Text}
use Rattle.jsx_draw.specs.Spots.{Spot}
use Rattle.jsx_draw.specs.Drawn.{Wide, drawn_alike, first_column, moved_by, moved_by_each, moves_with, same_label, share_line, side_by_side}
use Rattle.jsx_draw.proofs.Orders.{split_at, take_next}

-- ---- a walk along the list

item_is : {X : Type 0} (f : X → Wide) (xs : List X) (i : ℕ) (x : X) → i < length xs → x ≡ get_or xs i x → f x ≡ get_or (map f xs) i (f x)
item_is f xs i x within at = sym (get_or-map f xs i x (f x) within ∙ ap f (sym at))

-- one more is moved
pub moving_more : {X : Type 0} (f : X → Wide) (one : Spot) (xs new : List X) (i : ℕ) (x y : X) (all : List Wide) → i < length xs → x ≡ get_or xs i x → new ≡ set xs i y → moves_with one (f x) ≡ true → f y ≡ record (f x) { depth = (f x).depth + 1 } → all ≡ take i (map f xs) ++ moved_by one (drop i (map f xs)) → all ≡ take (i + 1) (map f new) ++ moved_by one (drop (i + 1) (map f new))
moving_more f one xs new i x y all within at is moves to before =
    let ys = map f xs in
    let long : i < length ys = omega (arith, within, length-map xs f) in
    let here : f x ≡ get_or ys i (f x) = item_is f xs i x within at in
    before
    ∙ ap (λ z. take i ys ++ moved_by one z) (split_at ys i (f x) long here)
    ∙ ap (λ b. take i ys ++ cond b (record (f x) { depth = (f x).depth + 1 } ∷ moved_by one (drop (i + 1) ys)) (f x ∷ drop (i + 1) ys)) moves
    ∙ ap (λ z. take i ys ++ z ∷ moved_by one (drop (i + 1) ys)) (sym to)
    ∙ sym (append_assoc (take i ys) (f y ∷ []) (moved_by one (drop (i + 1) ys)))
    ∙ ap (λ z. z ++ moved_by one (drop (i + 1) ys)) (sym (take_more_set ys i (f y) long))
    ∙ ap (λ z. take (i + 1) (set ys i (f y)) ++ moved_by one z) (sym (drop-set-lt (i + 1) ys i (f y) (omega arith)))
    ∙ ap (λ z. take (i + 1) z ++ moved_by one (drop (i + 1) z)) (sym (ap (map f) is ∙ map-set f xs i y))

-- one doesn't move, and ends the walk
pub moving_ends : {X : Type 0} (f : X → Wide) (one : Spot) (xs : List X) (i : ℕ) (x : X) (all : List Wide) → i < length xs → x ≡ get_or xs i x → moves_with one (f x) ≡ false → all ≡ take i (map f xs) ++ moved_by one (drop i (map f xs)) → map f xs ≡ all
moving_ends f one xs i x all within at stays before =
    let ys = map f xs in
    let long : i < length ys = omega (arith, within, length-map xs f) in
    let split = split_at ys i (f x) long (item_is f xs i x within at) in
    sym (before
    ∙ ap (λ z. take i ys ++ moved_by one z) split
    ∙ ap (λ b. take i ys ++ cond b (record (f x) { depth = (f x).depth + 1 } ∷ moved_by one (drop (i + 1) ys)) (f x ∷ drop (i + 1) ys)) stays
    ∙ ap (λ z. take i ys ++ z) (sym split)
    ∙ take-append-drop i ys)

-- all are moved
pub moving_all : {X : Type 0} (f : X → Wide) (one : Spot) (xs : List X) (i : ℕ) (all : List Wide) → length xs ≤ i → all ≡ take i (map f xs) ++ moved_by one (drop i (map f xs)) → map f xs ≡ all
moving_all f one xs i all end before =
    let ys = map f xs in
    let long : length ys ≤ i = omega (arith, end, length-map xs f) in
    sym (before ∙ ap (λ z. take i ys ++ moved_by one z) (drop_all i ys long) ∙ append-nil (take i ys) ∙ take_all i ys long)

-- ---- each span in turn

each_last : (spots : List Spot) (one : Spot) (wides : List Wide) → moved_by_each (spots ++ one ∷ []) wides ≡ moved_by one (moved_by_each spots wides)
each_last [] one wides = refl
each_last (spot ∷ spots) one wides = each_last spots one (moved_by spot wides)

pub each_next : {X : Type 0} (f : X → Spot) (xs : List X) (i : ℕ) (x : X) (old now new : List Wide) → i < length xs → x ≡ get_or xs i x → now ≡ moved_by_each (take i (map f xs)) old → new ≡ moved_by (f x) now → new ≡ moved_by_each (take (i + 1) (map f xs)) old
each_next f xs i x old now new within at before is = is ∙ ap (moved_by (f x)) before ∙ sym (ap (λ z. moved_by_each z old) (take_next f xs i x within at) ∙ each_last (take i (map f xs)) (f x) old)

pub each_all : {X : Type 0} (f : X → Spot) (xs : List X) (i : ℕ) (old now : List Wide) → length xs ≤ i → now ≡ moved_by_each (take i (map f xs)) old → now ≡ moved_by_each (map f xs) old
each_all f xs i old now all is = is ∙ ap (λ z. moved_by_each z old) (take_all i (map f xs) (omega (arith, all, length-map xs f)))

-- ---- laws

kept_if : (b : Bool) (it : Wide) (more moved : List Wide) → map (λ (it : Wide). it.spot) moved ≡ map (λ (it : Wide). it.spot) more → map (λ (it : Wide). it.spot) (cond b (record it { depth = it.depth + 1 } ∷ moved) (it ∷ more)) ≡ map (λ (it : Wide). it.spot) (it ∷ more)
kept_if true it more moved same = ap (λ z. it.spot ∷ z) same
kept_if false it more moved same = refl

moved_kept : (one : Spot) (wides : List Wide) → map (λ (it : Wide). it.spot) (moved_by one wides) ≡ map (λ (it : Wide). it.spot) wides
moved_kept one [] = refl
moved_kept one (it ∷ more) = kept_if (moves_with one it) it more (moved_by one more) (moved_kept one more)

each_kept : (spots : List Spot) (wides : List Wide) → map (λ (it : Wide). it.spot) (moved_by_each spots wides) ≡ map (λ (it : Wide). it.spot) wides
each_kept [] wides = refl
each_kept (one ∷ more) wides = each_kept more (moved_by one wides) ∙ moved_kept one wides

first_kept : (spots : List Spot) → map (λ (it : Wide). it.spot) (map first_column spots) ≡ spots
first_kept [] = refl
first_kept (spot ∷ more) = ap (λ z. spot ∷ z) (first_kept more)

-- the spans stay as they are
pub spots_kept : (spots : List Spot) → map (λ (it : Wide). it.spot) (side_by_side spots) ≡ spots
spots_kept spots = each_kept spots (map first_column spots) ∙ first_kept spots

same_number : (n : ℕ) → nat_eq n n ≡ true
same_number n = grind (arith, nat_tests)

both_true : (a b : Bool) → a ≡ true → b ≡ true → (a && b) ≡ true
both_true a b one two = ap (λ z. z && b) one ∙ two

same_flag : (b : Bool) → cond b b (not b) ≡ true
same_flag true = refl
same_flag false = refl

label_alike : (label : Option Text) → same_label label label ≡ true
label_alike None = refl
label_alike (Some text) = (bytes_eq-Decides text text).1 refl

alike_itself : (spot : Spot) → drawn_alike spot spot ≡ true
alike_itself spot =
    both_true _ _ (both_true _ _ (same_number spot.reach.first.line) (same_number spot.reach.first.col_display))
    (both_true _ _ (both_true _ _ (same_number spot.reach.last.line) (same_number spot.reach.last.col_display))
    (both_true _ _ (same_flag spot.is_primary) (label_alike spot.label)))

not_both : (b : Bool) → (b && false) ≡ false
not_both true = refl
not_both false = refl

-- a sole span stands in the first column
pub alone : (spot : Spot) → side_by_side (spot ∷ []) ≡ first_column spot ∷ []
alone spot =
    ap (λ b. cond (share_line spot spot && not b) (record (first_column spot) { depth = 2 } ∷ []) (first_column spot ∷ [])) (alike_itself spot)
    ∙ ap (λ b. cond b (record (first_column spot) { depth = 2 } ∷ []) (first_column spot ∷ [])) (not_both (share_line spot spot))

-- ---- the whole vector

length_kept : (spots : List Spot) (wides : List Wide) → length (moved_by_each spots wides) ≡ length wides
length_kept spots wides =
    sym (length-map (moved_by_each spots wides) (λ (it : Wide). it.spot)) ∙ ap (λ (z : List Spot). length z) (each_kept spots wides) ∙ length-map wides (λ (it : Wide). it.spot)

-- what is seen of a vector whose items were moved in place
pub whole_vec : {X : Type 0} (f : X → Wide) (spots : List Spot) (items now new : List X) (n : ℕ) → now ≡ items → n ≡ length now → map f new ≡ moved_by_each spots (map f now) → map f (take n (new ++ drop (length new) items)) ≡ moved_by_each spots (map f items)
whole_vec {X = X} f spots items now new n same size is =
    let long : length new ≡ length now = sym (length-map new f) ∙ ap (λ (z : List Wide). length z) is ∙ length_kept spots (map f now) ∙ length-map now f in
    let also : length new ≡ length items = long ∙ ap (λ (z : List X). length z) same in
    ap (λ z. map f (take n (new ++ z))) (drop_all (length new) items (omega (arith, also)))
    ∙ ap (λ z. map f (take n z)) (append-nil new)
    ∙ ap (map f) (take_all n new (omega (arith, long, size)))
    ∙ is
    ∙ ap (λ z. moved_by_each spots (map f z)) same

pub firsts_seen : {X : Type 0} (g : X → Spot) (xs : List X) → map (λ x. first_column (g x)) xs ≡ map first_column (map g xs)
firsts_seen g [] = refl
firsts_seen g (x ∷ xs) = ap (λ z. first_column (g x) ∷ z) (firsts_seen g xs)
