-- Loops that write over a list in place, or copy it.
use Rattle.std.proofs.Common.{◌≡◌, ℕ, ◌+◌, ◌-◌, ◌<◌, ◌≤◌, Bool, true, false, cond, ◌||◌, List, [], ◌∷◌, ◌++◌, map, filter, length, get_or, set, take, drop, arith, ap, sym, ◌∙◌, refl}
use Rattle.std.specs.List.{list_any, AllZip}
use Rattle.std.proofs.lemmas.List.{take_more, map-append, get_or-drop, get_or-append_right, length-take-le, length-map, get_or_default, take_all, drop_all, append-nil, append_assoc}
use Rattle.std.proofs.lemmas.List.Elements.{filter_more}
use Rattle.std.proofs.lemmas.List.Folds.{list_any_more}
use Rattle.std.proofs.lemmas.List.Edits.{map_over_more}

-- the first i elements have their f, and the others stand as they were
abbrev pub MappedTo : {X : Type 0} → (X → X) → ℕ → List X → List X → Type 0
MappedTo f i old new = new ≡ map f (take i old) ++ drop i old

-- the element at i becomes its f
pub mapped_more : {X : Type 0} (f : X → X) (old new : List X) (i : ℕ) (x y : X) → i < length old → MappedTo f i old new → x ≡ get_or new i x → f x ≡ y → MappedTo f (i + 1) old (set new i y)
mapped_more f old new i x y within mapped read is = ap (λ z. set new i z) (sym is) ∙ map_over_more f old new i x within mapped read

-- the element at i, as it was read, becomes its f
pub mapped_next : {X : Type 0} (f : X → X) (old new : List X) (i : ℕ) (d : X) → i < length old → length new ≡ length old → MappedTo f i old new → MappedTo f (i + 1) old (set new i (f (get_or new i d)))
mapped_next f old new i d within same mapped =
    mapped_more f old new i (get_or new i d) _ within mapped (get_or_default new i d (get_or new i d) (omega arith)) refl

-- the element at i is still the old one
pub unmapped : {X : Type 0} (f : X → X) (old new : List X) (i : ℕ) (d : X) → i < length old → MappedTo f i old new → get_or new i d ≡ get_or old i d
unmapped f old new i d within mapped =
    let n : length (map f (take i old)) ≡ i = length-map (take i old) f ∙ length-take-le i old (omega arith) in
    ap (λ z. get_or z i d) mapped ∙ get_or-append_right (map f (take i old)) (drop i old) i i d n (omega arith) ∙ get_or-drop i old (i - i) d ∙ ap (λ z. get_or old z d) (omega arith)

-- what a loop has found so far
abbrev pub Found : {X : Type 0} → (X → Bool) → ℕ → List X → Bool → Type 0
Found p i old found = found ≡ list_any p (take i old)

-- one more element is replaced
pub replaced_more : {X : Type 0} (p : X → Bool) (f : X → X) (old new : List X) (i : ℕ) (d : X) (found r : Bool) (y : X) → i < length old → length new ≡ length old → Found p i old found → MappedTo f i old new → r ≡ p (get_or new i d) → y ≡ f (get_or new i d) → Found p (i + 1) old (found || r) × MappedTo f (i + 1) old (set new i y)
replaced_more p f old new i d found r y within same sofar mapped tested written =
    let x = get_or new i d in
    let read : x ≡ get_or new i x = get_or_default new i d x (omega arith) in
    let here : x ≡ get_or old i d = unmapped f old new i d within mapped in (
      cc (sofar, tested, here, list_any_more p old i d within),
      mapped_more f old new i x y within mapped read (sym written),
    )

pub found_all : {X : Type 0} (p : X → Bool) (old : List X) (i : ℕ) (found : Bool) → length old ≤ i → Found p i old found → found ≡ list_any p old
found_all p old i found all sofar = sofar ∙ ap (list_any p) (take_all i old all)

pub mapped_all : {X : Type 0} (f : X → X) (old new : List X) (i : ℕ) → length old ≤ i → MappedTo f i old new → new ≡ map f old
mapped_all f old new i all mapped = mapped ∙ cc (take_all i old all, drop_all i old all, append-nil (map f old))

-- the views of new are those of the first elements of old
abbrev pub Viewed : {X Y Z : Type 0} → (X → Z) → (Y → Z) → ℕ → List X → List Y → Type 0
Viewed f g i old new = map g new ≡ map f (take i old)

pub viewed_more : {X Y Z : Type 0} (f : X → Z) (g : Y → Z) (old : List X) (new more : List Y) (i : ℕ) (x : X) (y : Y) → i < length old → Viewed f g i old new → x ≡ get_or old i x → g y ≡ f x → more ≡ new ++ y ∷ [] → Viewed f g (i + 1) old more
viewed_more f g old new more i x y within viewed read is pushed =
    let step : take (i + 1) old ≡ take i old ++ x ∷ [] = take_more old i x within ∙ ap (λ z. take i old ++ z ∷ []) (sym read) in
    cc (ap (map g) pushed, map-append g new (y ∷ []), viewed, is, ap (map f) step, map-append f (take i old) (x ∷ []))

pub viewed_all : {X Y Z : Type 0} (f : X → Z) (g : Y → Z) (old : List X) (new : List Y) (i : ℕ) → length old ≤ i → Viewed f g i old new → map g new ≡ map f old
viewed_all f g old new i all viewed = viewed ∙ ap (map f) (take_all i old all)

pub list_any-map : {X Y : Type 0} (p : Y → Bool) (f : X → Y) (xs : List X) → list_any p (map f xs) ≡ list_any (λ x. p (f x)) xs
list_any-map p f [] = refl
list_any-map p f (x ∷ xs) = ap (λ z. p (f x) || z) (list_any-map p f xs)

-- the views of new are the front, and then those of the first elements of old that pass
abbrev pub ViewedAfter : {X Y Z : Type 0} → List Z → (X → Bool) → (X → Z) → (Y → Z) → ℕ → List X → List Y → Type 0
ViewedAfter front p f g i old new = map g new ≡ front ++ map f (filter p (take i old))

pub viewed_kept : {X Y Z : Type 0} (front : List Z) (p : X → Bool) (f : X → Z) (g : Y → Z) (old : List X) (new more : List Y) (i : ℕ) (x d : X) (y : Y) → i < length old → ViewedAfter front p f g i old new → get_or old i d ≡ x → p x ≡ true → g y ≡ f x → more ≡ new ++ y ∷ [] → ViewedAfter front p f g (i + 1) old more
viewed_kept front p f g old new more i x d y within viewed read passes is pushed =
    let at : p (get_or old i d) ≡ true = cc in
    let kept : filter p (take (i + 1) old) ≡ filter p (take i old) ++ x ∷ [] =
    filter_more p old i d within ∙ ap (λ b. filter p (take i old) ++ cond b (get_or old i d ∷ []) []) at ∙ ap (λ z. filter p (take i old) ++ z ∷ []) read in
    ap (map g) pushed ∙ map-append g new (y ∷ []) ∙ ap (λ z. z ++ g y ∷ []) viewed ∙ append_assoc front (map f (filter p (take i old))) (g y ∷ [])
    ∙ ap (λ z. front ++ (map f (filter p (take i old)) ++ z ∷ [])) is
    ∙ ap (λ z. front ++ z) (sym (map-append f (filter p (take i old)) (x ∷ [])))
    ∙ ap (λ z. front ++ map f z) (sym kept)

pub viewed_skipped : {X Y Z : Type 0} (front : List Z) (p : X → Bool) (f : X → Z) (g : Y → Z) (old : List X) (new more : List Y) (i : ℕ) (d : X) → i < length old → ViewedAfter front p f g i old new → p (get_or old i d) ≡ false → more ≡ new → ViewedAfter front p f g (i + 1) old more
viewed_skipped front p f g old new more i d within viewed fails stays =
    let same : filter p (take (i + 1) old) ≡ filter p (take i old) =
    filter_more p old i d within ∙ ap (λ b. filter p (take i old) ++ cond b (get_or old i d ∷ []) []) fails ∙ append-nil (filter p (take i old)) in
    ap (map g) stays ∙ viewed ∙ ap (λ z. front ++ map f z) (sym same)

-- clones that are viewed alike
pub viewed_clones : {X Z : Type 0} (g : X → Z) (R : X → X → Type 0) → ((x y : X) → R x y → g y ≡ g x) → (xs ys : List X) → AllZip R xs ys → map g ys ≡ map g xs
viewed_clones g R alike [] [] each = refl
viewed_clones g R alike [] (y ∷ ys) each = absurd each
viewed_clones g R alike (x ∷ xs) [] each = absurd each
viewed_clones g R alike (x ∷ xs) (y ∷ ys) each = ap (λ z. z ∷ map g ys) (alike x y each.0) ∙ ap (λ zs. g x ∷ zs) (viewed_clones g R alike xs ys each.1)

pub viewed_after_all : {X Y Z : Type 0} (front : List Z) (p : X → Bool) (f : X → Z) (g : Y → Z) (old : List X) (new : List Y) (i : ℕ) → length old ≤ i → ViewedAfter front p f g i old new → map g new ≡ front ++ map f (filter p old)
viewed_after_all front p f g old new i all viewed = viewed ∙ ap (λ xs. front ++ map f (filter p xs)) (take_all i old all)
