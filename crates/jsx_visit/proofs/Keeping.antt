-- What is told of places, where a visitor keeps it: part by part, it stays.
use Rattle.std.proofs.Common.{◌≡◌, ℕ, List, [], ◌∷◌, ◌++◌, map, set, get_or, Bool, true, false, refl, sym, ap, ◌∙◌, Option, Some, None, Box, Vec, Global, Result, Ok, Err}
use Rattle.std.specs.Prelude.{OnOk, IsTrue}
use Rattle.std.proofs.lemmas.Bool.{false≢true}
use Rattle.std.proofs.lemmas.Result.{on_ok_weaker}
use Rattle.std.proofs.Math.Seq.{map-set_same}
use Rattle.jsx_tree.specs.Spans.{Told, tells, Tales, no_tales, tale}
use Rattle.jsx_tree.specs.Told.{tales, told_optional, led_by}
use Rattle.jsx_tree.specs.View.{inside}
use Rattle.jsx_visit.specs.Parts.{nothing, kept, kepts, kept_each}

mutual
  kept_true : (d : Told) → kept true d ≡ d
  kept_true (tells cs ds) = ap (tells cs) (kepts_true ds)

  kepts_true : (ds : Tales) → kepts true ds ≡ ds
  kepts_true no_tales = refl
  kepts_true (tale d ds) = ap (λ e. tale e (kepts true ds)) (kept_true d) ∙ ap (tale d) (kepts_true ds)

pub kept_none : (d : Told) → kept false d ≡ nothing
kept_none (tells cs ds) = refl

-- from what is told to what is kept of it, and back
pub kept_as : (b : Bool) (x y : Told) → (IsTrue b → x ≡ y) → kept b x ≡ kept b y
kept_as true x y h = ap (kept true) (h refl)
kept_as false x y h = kept_none x ∙ sym (kept_none y)

pub kept_is : (b : Bool) (x y : Told) → IsTrue b → kept b x ≡ kept b y → x ≡ y
kept_is true x y h e = sym (kept_true x) ∙ (e ∙ kept_true y)
kept_is false x y h e = absurd (false≢true h)

kepts_is : (b : Bool) (x y : Tales) → IsTrue b → kepts b x ≡ kepts b y → x ≡ y
kepts_is true x y h e = sym (kepts_true x) ∙ (e ∙ kepts_true y)
kepts_is false x y h e = absurd (false≢true h)

-- the parts that are told of
abbrev untales : Tales → List Told
untales no_tales = []
untales (tale d ds) = d ∷ untales ds

told_of : (us : List Told) → untales (tales us) ≡ us
told_of [] = refl
told_of (u ∷ us) = ap (λ vs. u ∷ vs) (told_of us)

abbrev parts_told : Told → List Told
parts_told (tells cs ds) = untales ds

led_parts : {A : Type 0} (f : A → Told) (x : Option (Box A Global)) (ds : List Told) → led_by f x ds ≡ parts_told (told_optional f x) ++ ds
led_parts f None ds = refl
led_parts f (Some x) ds = refl

-- a list within what is told, and a part that is there or not
pub kept_by : (b : Bool) (F : List Told → Told) (us vs : List Told) → kepts b (tales us) ≡ kepts b (tales vs) → kept b (F us) ≡ kept b (F vs)
kept_by b F us vs e = kept_as b (F us) (F vs) (λ h. ap F (sym (told_of us) ∙ (ap untales (kepts_is b (tales us) (tales vs) h e) ∙ told_of vs)))

pub kept_led : {A : Type 0} (b : Bool) (f : A → Told) (F : List Told → Told) (ds : List Told) (x y : Option (Box A Global)) → kept b (told_optional f x) ≡ kept b (told_optional f y) → kept b (F (led_by f x ds)) ≡ kept b (F (led_by f y ds))
kept_led b f F ds x y e =
    kept_as b (F (led_by f x ds)) (F (led_by f y ds)) (λ h. ap F (led_parts f x ds ∙ (ap (λ d. parts_told d ++ ds) (kept_is b (told_optional f x) (told_optional f y) h e) ∙ sym (led_parts f y ds))))

-- an element that a loop writes
kept_items : {A : Type 0} (b : Bool) (v : A → Told) (xs : List A) → kept_each b v xs ≡ tales (map (λ x. kept b (v x)) xs)
kept_items b v [] = refl
kept_items b v (x ∷ xs) = ap (tale (kept b (v x))) (kept_items b v xs)

pub kept_next : {A : Type 0} (b : Bool) (v : A → Told) (start xs : List A) (i : ℕ) (d y : A) → kept_each b v xs ≡ kept_each b v start → kept b (v y) ≡ kept b (v (get_or xs i d)) → kept_each b v (set xs i y) ≡ kept_each b v start
kept_next b v start xs i d y so_far e = kept_items b v (set xs i y) ∙ (ap tales (map-set_same (λ x. kept b (v x)) xs i y d e) ∙ (sym (kept_items b v xs) ∙ so_far))

-- a visitor's own clause
always : {T E P : Type 0} (r : Result T E) → P → OnOk r P
always (Ok x) p = p
always (Err e) p = tt

pub kept_made : {T E : Type 0} (r : Result T E) (b : Bool) (new mid old : Told) → kept b mid ≡ kept b old → (IsTrue b → OnOk r (new ≡ mid)) → OnOk r (kept b new ≡ kept b old)
kept_made r true new mid old e h = on_ok_weaker {P = new ≡ mid} {Q = kept true new ≡ kept true old} r (λ m. ap (kept true) m ∙ e) (h refl)
kept_made r false new mid old e h = always {P = kept false new ≡ kept false old} r (kept_none new ∙ sym (kept_none old))

-- a node that is written in one place
pub kept_arm : {T E A X Y : Type 0} (r : Result T E) (b : Bool) (tell : A → Told) (S : X → Y) (variant : X → A)
    → ((x y : X) → S x ≡ S y → kept b (tell (variant x)) ≡ kept b (tell (variant y))) → (xs ys zs : X)
    → (old new : A) → old ≡ variant xs → zs ≡ xs → new ≡ variant ys → OnOk r (S ys ≡ S zs) → OnOk r (kept b (tell new) ≡ kept b (tell old))
kept_arm r b tell S variant goes xs ys zs old new is same written k =
    on_ok_weaker {P = S ys ≡ S zs} {Q = kept b (tell new) ≡ kept b (tell old)} r
    (λ e. ap (λ x. kept b (tell x)) written ∙ (goes ys xs (e ∙ ap S same) ∙ sym (ap (λ x. kept b (tell x)) is))) k

-- the same of a list
pub kept_list : {T E A B : Type 0} (r : Result T E) (b : Bool) (tell : A → Told) (f : B → Told) (variant : Vec (Box B Global) Global → A) (make : List Told → Told)
    → ((v : Vec (Box B Global) Global) → tell (variant v) ≡ make (map (inside f) v.items)) → (xs ys zs : Vec (Box B Global) Global)
    → (old new : A) → old ≡ variant xs → zs ≡ xs → new ≡ variant ys → OnOk r (kept_each b (inside f) ys.items ≡ kept_each b (inside f) zs.items) → OnOk r (kept b (tell new) ≡ kept b (tell old))
kept_list r b tell f variant make sees xs ys zs old new is same written k =
    kept_arm r b tell (λ v. kept_each b (inside f) v.items) variant
    (λ v w e. ap (kept b) (sees v) ∙ (kept_by b make (map (inside f) v.items) (map (inside f) w.items) e ∙ sym (ap (kept b) (sees w)))) xs ys zs old new is same written k

-- what the walk keeps is what is told
pub told_stays : {T E : Type 0} (r : Result T E) (b : Bool) (new old : Told) → OnOk r (kept b new ≡ kept b old) → IsTrue b → OnOk r (new ≡ old)
told_stays r b new old k h = on_ok_weaker {P = kept b new ≡ kept b old} {Q = new ≡ old} r (λ e. kept_is b new old h e) k
