-- What a walk over a map or a set feeds is what its items feed, in whatever order.
use Rattle.std.proofs.Common.{◌≡◌, ℕ, List, [], ◌∷◌, ◌++◌, length, map, None, refl, sym, ap, ◌∙◌, subst}
use Rattle.std.specs.Iterator.{Drains}
use Rattle.std.specs.List.{All}
use Rattle.std.specs.List.Sorted.{IsPermutation}
use Rattle.std.specs.Map.Iter.{TakesFirst}
use Rattle.std.proofs.lemmas.List.{append-nil, length-map, get_or-map}
use Rattle.std.proofs.lemmas.List.Sorted.{IsPermutation-refl}
use Rattle.std.proofs.lemmas.Map.Iter.{rest_so_far, rest_all}
use Rattle.jsx_kit.specs.Fed.{Fed, just, Hashed, bytes_of_each, fed_items, reduced, IsSteady, AreSteady}
use Rattle.jsx_kit.proofs.Reducing.{AreSteady-IsPermutation, fed_items-IsPermutation}
use Rattle.jsx_kit.specs.declared.hasher.StableHasher.{StableHasher}

-- a walk to the end shows all items
shown : {A X : Type 0} (shows : A → X) (all : List X) (xs : List A) → Drains (TakesFirst shows) all xs → all ≡ map shows xs
shown shows all xs p =
    let rest : p.1.0 ≡ [] = rest_all shows p.1.0 p.0 None refl p.1.2 in
    rest_so_far shows xs all p.1.0 p.1.1 ∙ ap (λ t. map shows xs ++ t) rest ∙ append-nil (map shows xs)

pub counted : {A X : Type 0} (shows : A → X) (s all : List X) (n : ℕ) (xs : List A) → s ≡ all → n ≡ length all → Drains (TakesFirst shows) s xs → length xs ≡ n
counted shows s all n xs start len p = sym (length-map xs shows) ∙ ap length (sym (shown shows s xs p)) ∙ ap length start ∙ sym len

bytes_of_each-map : {C A X : Type 0} (fed : X → C → Fed C) (shows : A → X) (xs : List A) (c : C)
    → bytes_of_each fed (map shows xs) c ≡ bytes_of_each (λ x. fed (shows x)) xs c
bytes_of_each-map fed shows [] c = refl
bytes_of_each-map fed shows (x ∷ xs) c = ap (λ bs. (fed (shows x) c).bytes ∷ bs) (bytes_of_each-map fed shows xs c)

All-shown : {A X : Type 0} (P : X → Type 0) (shows : A → X) (xs : List A) → All P (map shows xs) → All (λ x. P (shows x)) xs
All-shown P shows xs all k d lt = subst P (get_or-map shows xs k d (shows d) lt) (all k (shows d) (rw (length-map xs shows) lt))

-- what the reduction over a walk says, in any order of the items
pub in_any_order : {C A X : Type 0} (fed : X → C → Fed C) (said : X → C → Type 0) (shows : A → X) (s all order : List X) (c m : C) (a b : StableHasher)
    → s ≡ all
    → ((xs : List A) × Drains (TakesFirst shows) s xs
    × (AreSteady (λ x. fed (shows x)) (λ x. said (shows x)) xs c → Hashed (fed_items (λ x. fed (shows x)) xs c) a b m))
    → IsPermutation all order → AreSteady fed said order c → Hashed (fed_items fed order c) a b m
in_any_order {C} {A} {X} fed said shows s all order c m a b start p moved steady =
    let e : all ≡ map shows p.0 = sym start ∙ shown shows s p.0 p.1 in
    let All_steady : List X → Type 0 = λ ys. AreSteady fed said ys c in
    let here : AreSteady fed said (map shows p.0) c = subst All_steady e (AreSteady-IsPermutation fed said all order c moved steady) in
    let walked = p.2 (All-shown (IsSteady fed said c) shows p.0 here) in
    let same : fed_items (λ x. fed (shows x)) p.0 c ≡ fed_items fed order c =
    ap (λ bs. just (reduced bs) c) (sym (bytes_of_each-map fed shows p.0 c))
    ∙ ap (λ ys. fed_items fed ys c) (sym e)
    ∙ fed_items-IsPermutation fed all order c moved in
    let P : Fed C → Type 0 = λ f. Hashed f a b m in
    subst P same walked

pub in_order : {C A X : Type 0} (fed : X → C → Fed C) (said : X → C → Type 0) (shows : A → X) (s all : List X) (c m : C) (a b : StableHasher)
    → s ≡ all
    → ((xs : List A) × Drains (TakesFirst shows) s xs
    × (AreSteady (λ x. fed (shows x)) (λ x. said (shows x)) xs c → Hashed (fed_items (λ x. fed (shows x)) xs c) a b m))
    → AreSteady fed said all c → Hashed (fed_items fed all c) a b m
in_order fed said shows s all c m a b start p steady = in_any_order fed said shows s all all c m a b start p (IsPermutation-refl all) steady
