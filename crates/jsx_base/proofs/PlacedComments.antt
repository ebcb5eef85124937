-- The comments of a map by place, and its marked places.
use Rattle.std.proofs.Common.{◌≡◌, ℕ, zero, suc, ◌+◌, ◌<◌, ◌≤◌, take, get_or, Bool, true, false, cond, ◌||◌, nat_eq, List, [], ◌∷◌, ◌++◌, map, length, Option, None, Some, refl, ap, sym, subst, ◌∙◌, arith}
use Rattle.std.specs.Option.{unwrap_or}
use Rattle.std.specs.List.{All, Any, list_any, Contains, HoldsAt}
use Rattle.std.specs.Ordering.{nat_cmp}
use Rattle.std.specs.Map.{lookup}
use Rattle.std.specs.BTreeMap.{BTreeMap, IsOrdered, is_at, get, values}
use Rattle.std.specs.declared.alloc.Global.{Global}
use Rattle.std.specs.declared.vec.Vec.{Vec}
use Rattle.std.specs.Cmp.{unsigned_tied, nat_cmp_total}
use Rattle.std.proofs.lemmas.List.{map-append, take_more, take_all, length-map, get_or-map}
use Rattle.std.proofs.lemmas.List.Elements.{All-push}
use Rattle.std.proofs.lemmas.Map.Lookups.{exact_unsigned}
use Rattle.std.proofs.lemmas.Map.Made.{Contains-from_values_of, Contains-values_of}
use Rattle.std.proofs.lemmas.Map.Views.{btree_map_get_iff}
use Rattle.jsx_base.specs.declared.comments.Comment.{Comment}
use Rattle.jsx_base.specs.Comments.{CommentData, comment_data, entry_data, comments_at, AddsComment, SameComments, is_marked, held}

step : (b : Bool) (v : Vec Comment Global) (x : Option (List CommentData)) (y : Option (Vec Comment Global)) → unwrap_or x [] ≡ held y → unwrap_or (cond b (Some (map comment_data v.items)) x) [] ≡ held (cond b (Some v) y)
step true v x y same = refl
step false v x y same = same

pub comments_at-entries : (es : List (ℕ × Vec Comment Global)) (q : ℕ) → comments_at (map entry_data es) q ≡ held (lookup (is_at (nat_cmp q)) es)
comments_at-entries [] q = refl
comments_at-entries (e ∷ es) q =
    step (nat_eq q e.0) e.1 (lookup (nat_eq q) (map entry_data es)) (lookup (is_at (nat_cmp q)) es) (comments_at-entries es q)
    ∙ ap (λ b. held (cond b (Some e.1) (lookup (is_at (nat_cmp q)) es))) (sym (unsigned_tied q e.0))

pub marked_by_cmp : (q : ℕ) (ks : List ℕ) → list_any (is_at (nat_cmp q)) ks ≡ is_marked ks q
marked_by_cmp q [] = refl
marked_by_cmp q (k ∷ ks) = cc (unsigned_tied q k, marked_by_cmp q ks)

pub cond_true : (b a : Bool) → cond b true a ≡ (b || a)
cond_true true a = refl
cond_true false a = refl

pub marked_more : (place q : ℕ) (old new : List ℕ) → list_any (is_at (nat_cmp q)) new ≡ cond (is_at (nat_cmp place) q) true (list_any (is_at (nat_cmp q)) old) → is_marked new q ≡ (nat_eq place q || is_marked old q)
marked_more place q old new updates =
    sym (marked_by_cmp q new)
    ∙ updates
    ∙ ap (λ b. cond b true (list_any (is_at (nat_cmp q)) old)) (unsigned_tied place q)
    ∙ cond_true (nat_eq place q) (list_any (is_at (nat_cmp q)) old)
    ∙ ap (λ b. nat_eq place q || b) (marked_by_cmp q old)

-- a comment was added
pub added : (m n : BTreeMap ℕ (Vec Comment Global)) (k : ℕ) (comment : CommentData) → ((q : ℕ) → held (get nat_cmp n q) ≡ cond (nat_eq k q) (held (get nat_cmp m q) ++ comment ∷ []) (held (get nat_cmp m q))) → AddsComment k comment (map entry_data m.entries) (map entry_data n.entries)
added m n k comment adds = λ q.
    comments_at-entries n.entries q
    ∙ adds q
    ∙ ap (λ z. cond (nat_eq k q) (z ++ comment ∷ []) z) (sym (comments_at-entries m.entries q))

pub unchanged : (m n : BTreeMap ℕ (Vec Comment Global)) → ((q : ℕ) → held (get nat_cmp n q) ≡ held (get nat_cmp m q)) → SameComments (map entry_data m.entries) (map entry_data n.entries)
unchanged m n same = λ q. comments_at-entries n.entries q ∙ same q ∙ sym (comments_at-entries m.entries q)

-- one element has P
pub any_at : {X Z : Type 0} (f : X → Z) (P : Z → Type 0) (xs : List X) (i : ℕ) (x : X) → i < length xs → x ≡ get_or xs i x → P (f x) → Any P (map f xs)
any_at f P xs i x within read holds =
    (i, f x, subst (λ n. i < n) (sym (length-map xs f)) within, get_or-map f xs i x (f x) within ∙ ap f (sym read), holds)

-- one element more has no P
pub none_more : {X Z : Type 0} (f : X → Z) (P : Z → Type 0) (xs : List X) (i : ℕ) (x : X) → i < length xs → x ≡ get_or xs i x → (P (f x) → ⊥) → All (λ z. P z → ⊥) (map f (take i xs)) → All (λ z. P z → ⊥) (map f (take (i + 1) xs))
none_more f P xs i x within read fails sofar =
    let step : map f (take (i + 1) xs) ≡ map f (take i xs) ++ f x ∷ [] =
    ap (map f) (take_more xs i x within ∙ ap (λ z. take i xs ++ z ∷ []) (sym read)) ∙ map-append f (take i xs) (x ∷ []) in
    rw step (All-push (λ z. P z → ⊥) (map f (take i xs)) (f x) sofar fails)

pub none_of : {Z : Type 0} (P : Z → Type 0) (zs : List Z) → All (λ z. P z → ⊥) zs → Any P zs → ⊥
none_of P zs none (k, z, within, read, holds) = none k z within (subst P (sym read) holds)

pub none_of_all : {X Z : Type 0} (f : X → Z) (P : Z → Type 0) (xs : List X) (i : ℕ) → length xs ≤ i → All (λ z. P z → ⊥) (map f (take i xs)) → Any P (map f xs) → ⊥
none_of_all f P xs i all none some =
    none_of P (map f xs) (subst (λ ys. All (λ z. P z → ⊥) (map f ys)) (take_all i xs all) none) some

element_at : {X : Type 0} (xs : List X) (k : ℕ) → k < length xs → (x : X) × (get_or xs k x ≡ x)
element_at [] k within = absurd (omega arith)
element_at (x ∷ xs) zero within = (x, refl)
element_at (x ∷ xs) (suc k) within = element_at xs k (omega arith)

-- a value of a map stands at a place
pub some_place : (m : BTreeMap ℕ (Vec Comment Global)) → IsOrdered nat_cmp m → (P : CommentData → Type 0) → (k : ℕ) × (k < length (values m)) × HoldsAt (λ v. Any P (map comment_data v.items)) (values m) k → (q : ℕ) × Any P (comments_at (map entry_data m.entries) q)
some_place m ordered P (k, within, holds) =
    let found = element_at (values m) k within in
    let v = found.0 in
    let here : Any P (map comment_data v.items) = subst (λ it. Any P (map comment_data it.items)) found.1 (holds v) in
    let entry = Contains-from_values_of m.entries v (k, within, found.1) in
    let got : get nat_cmp m entry.0 ≡ Some v = (btree_map_get_iff nat_cmp_total exact_unsigned m ordered entry.0 v).1 entry.1 in
    (entry.0, subst (λ zs. Any P zs) (sym (comments_at-entries m.entries entry.0 ∙ ap held got)) here)

some_held : (m : BTreeMap ℕ (Vec Comment Global)) → IsOrdered nat_cmp m → (P : CommentData → Type 0) (q : ℕ) (o : Option (Vec Comment Global)) → get nat_cmp m q ≡ o → Any P (held o) → (v : Vec Comment Global) × Contains (values m) v × Any P (map comment_data v.items)
some_held m ordered P q None got (k, z, within, read, holds) = absurd (omega arith)
some_held m ordered P q (Some v) got some =
    (v, Contains-values_of m.entries q v ((btree_map_get_iff nat_cmp_total exact_unsigned m ordered q v).0 got), some)

-- a comment of a place stands in a value
pub some_value : (m : BTreeMap ℕ (Vec Comment Global)) → IsOrdered nat_cmp m → (P : CommentData → Type 0) (q : ℕ) → Any P (comments_at (map entry_data m.entries) q) → (v : Vec Comment Global) × Contains (values m) v × Any P (map comment_data v.items)
some_value m ordered P q some =
    some_held m ordered P q (get nat_cmp m q) refl (subst (λ zs. Any P zs) (comments_at-entries m.entries q) some)
