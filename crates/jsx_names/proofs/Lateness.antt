-- The declarations that clash with one before them, event by event, are those that clash scope by scope.
use Rattle.std.proofs.Common.{◌≡◌, ◌<◌, ◌≤◌, ℕ, zero, suc, List, [], ◌∷◌, ◌++◌, Bool, true, false, refl, sym, ap, ◌∙◌, arith, ◌⊎◌, inl, inr}
use Rattle.std.proofs.lemmas.Grind.{common_steps}
use Rattle.std.specs.Prelude.{cond, ◌&&◌, ◌||◌, nat_eq, nat_lt, ⊤}
use Rattle.std.specs.List.{list_any}
use Rattle.jsx_base.specs.Token.{Text, same}
use Rattle.jsx_tree.specs.Scopes.{Path, Sort, AsVar, AsParameter, AsFunction, AsLexical, Declaration, declaration}
use Rattle.jsx_tree.specs.Clashes.{Place, AtName, clash, clashes_with, later}
use Rattle.jsx_names.specs.Events.{Frame, Event, Opens, Enters, Closes, Declares, Refers, Exports, Wants, Evals}
use Rattle.jsx_names.specs.Answers.{Named, all_of, are_passed, clashing, collected, is_passed, is_wide, named, reaches}
use Rattle.jsx_names.specs.Faults.{Extent, Noted, end_of, extent, home_in, is_late, is_late_at, meets, noted, noting, placed, within}

-- a scope that stands open
pub record Open : Type 0 where
  pub frame : Frame
  pub ext : Extent

abbrev exts : List Open → List Extent
exts [] = []
exts (o ∷ os) = o.ext ∷ exts os

-- the places of those that are late
abbrev pub lates : ℕ → List Extent → List Noted → List Event → List Place
lates i ns ks [] = []
lates i ns ks (e ∷ es) = cond (is_late_at i ns ks e) (placed e ∷ []) [] ++ lates (suc i) (within i ns e es) (noting i ns ks e) es

-- whether a declaration stands in a scope
abbrev is_in : Sort → Noted → Extent → Bool
is_in AsVar k n = nat_eq k.scope.home n.home && nat_lt n.begin k.at
is_in s k n = nat_eq k.scope.begin n.begin

abbrev those : Extent → List Noted → List Declaration
those n [] = []
those n (k ∷ ks) = cond (is_in k.sort k n) (declaration k.sort k.name [] ∷ []) [] ++ those n ks

-- whether a place that passes the test is to come of one of the scopes that stand open; fs are the frames inside of the first
abbrev pending : (Place → Bool) → List Frame → List Open → List Noted → List Event → Bool
pending P fs [] ks es = false
pending P fs (o ∷ os) ks es = list_any P (later o.ext.wide (those o.ext ks) (all_of (collected fs es))) || pending P (fs ++ o.frame ∷ []) os ks es

-- whether a declaration clashes in one of the scopes that it reaches
abbrev hit : Sort → Text → List Frame → List Open → List Noted → Bool
hit s t fs [] ks = false
hit s t fs (o ∷ os) ks = (reaches s fs && clashes_with o.ext.wide (declaration s t []) (those o.ext ks)) || hit s t (fs ++ o.frame ∷ []) os ks

any_append : (P : Place → Bool) (xs ys : List Place) → list_any P (xs ++ ys) ≡ list_any P xs || list_any P ys
any_append P xs ys = grind (arith, common_steps)

pending_ends : (P : Place → Bool) (fs : List Frame) (os : List Open) (ks : List Noted) → pending P fs os ks [] ≡ false
pending_ends P fs [] ks = refl
pending_ends P fs (o ∷ os) ks = pending_ends P (fs ++ o.frame ∷ []) os ks

pending_opens : (P : Place → Bool) (fs : List Frame) (os : List Open) (ks : List Noted) (f : Frame) (p : Path) (es : List Event) → pending P fs os ks (Opens f p ∷ es) ≡ pending P (f ∷ fs) os ks es
pending_opens P fs [] ks f p es = refl
pending_opens P fs (o ∷ os) ks f p es = ap (λ z. list_any P (later o.ext.wide (those o.ext ks) (all_of (collected (f ∷ fs) es))) || z) (pending_opens P (fs ++ o.frame ∷ []) os ks f p es)

pending_closes : (P : Place → Bool) (fs : List Frame) (os : List Open) (ks : List Noted) (f : Frame) (es : List Event) → pending P (f ∷ fs) os ks (Closes ∷ es) ≡ pending P fs os ks es
pending_closes P fs [] ks f es = refl
pending_closes P fs (o ∷ os) ks f es = ap (λ z. list_any P (later o.ext.wide (those o.ext ks) (all_of (collected fs es))) || z) (pending_closes P (fs ++ o.frame ∷ []) os ks f es)

pending_passes : (P : Place → Bool) (fs : List Frame) (os : List Open) (ks : List Noted) (e : Event) (es : List Event) → ((gs : List Frame) → collected gs (e ∷ es) ≡ collected gs es) →
    pending P fs os ks (e ∷ es) ≡ pending P fs os ks es
pending_passes P fs [] ks e es h = refl
pending_passes P fs (o ∷ os) ks e es h =
    ap (λ z. list_any P (later o.ext.wide (those o.ext ks) (all_of z)) || pending P (fs ++ o.frame ∷ []) os ks (e ∷ es)) (h fs)
    ∙ ap (λ z. list_any P (later o.ext.wide (those o.ext ks) (all_of (collected fs es))) || z) (pending_passes P (fs ++ o.frame ∷ []) os ks e es h)

-- where the earlier declarations stand makes no difference
abbrev unplaced : Declaration → Declaration
unplaced d = declaration d.sort d.name []

abbrev unplaced_all : List Declaration → List Declaration
unplaced_all [] = []
unplaced_all (d ∷ ds) = unplaced d ∷ unplaced_all ds

clashes_bare : (w : Bool) (d : Declaration) (bs : List Declaration) → clashes_with w d bs ≡ clashes_with w d (unplaced_all bs)
clashes_bare w d [] = refl
clashes_bare w d (b ∷ bs) = ap (λ z. (same d.name b.name && clash w b.sort d.sort) || z) (clashes_bare w d bs)

clashes_unplaced : (w : Bool) (d : Declaration) (bs cs : List Declaration) → unplaced_all bs ≡ unplaced_all cs → clashes_with w d bs ≡ clashes_with w d cs
clashes_unplaced w d bs cs e = clashes_bare w d bs ∙ (ap (clashes_with w d) e ∙ sym (clashes_bare w d cs))

later_unplaced : (w : Bool) (bs cs ds : List Declaration) → unplaced_all bs ≡ unplaced_all cs → later w bs ds ≡ later w cs ds
later_unplaced w bs cs [] e = refl
later_unplaced w bs cs (d ∷ ds) e =
    ap (λ z. cond z (AtName d.at ∷ []) [] ++ later w (d ∷ bs) ds) (clashes_unplaced w d bs cs e)
    ∙ ap (λ z. cond (clashes_with w d cs) (AtName d.at ∷ []) [] ++ z) (later_unplaced w (d ∷ bs) (d ∷ cs) ds (ap (λ z. unplaced d ∷ z) e))

turn : (b : Bool) → b || false ≡ b && true
turn true = refl
turn false = refl

and_none : (b : Bool) → b && false ≡ false
and_none true = refl
and_none false = refl

clashes_name : (w : Bool) (s : Sort) (t : Text) (p : Path) (T : List Declaration) → clashes_with w (declaration s t p) T ≡ clashes_with w (declaration s t []) T
clashes_name w s t p [] = refl
clashes_name w s t p (b ∷ T) = ap (λ z. (same t b.name && clash w b.sort s) || z) (clashes_name w s t p T)

any_if : (P : Place → Bool) (b : Bool) (a : Place) → list_any P (cond b (a ∷ []) []) ≡ P a && b
any_if P true a = turn (P a)
any_if P false a = sym (and_none (P a))

-- one declaration more, in one scope
level_more : (P : Place → Bool) (w r h : Bool) (s : Sort) (t : Text) (p : Path) (T : List Declaration) (ns : List Named) →
    list_any P (later w T (all_of (cond r (named h s t p ∷ []) [] ++ ns)))
    ≡ (P (AtName p) && (r && clashes_with w (declaration s t []) T)) || list_any P (later w (cond r (declaration s t [] ∷ []) [] ++ T) (all_of ns))
level_more P w false h s t p T ns = ap (λ z. z || list_any P (later w T (all_of ns))) (sym (and_none (P (AtName p))))
level_more P w true h s t p T ns =
    any_append P (cond (clashes_with w (declaration s t p) T) (AtName p ∷ []) []) (later w (declaration s t p ∷ T) (all_of ns))
    ∙ (ap (λ z. z || list_any P (later w (declaration s t p ∷ T) (all_of ns))) (any_if P (clashes_with w (declaration s t p) T) (AtName p))
    ∙ (ap (λ z. (P (AtName p) && clashes_with w (declaration s t p) T) || list_any P z) (later_unplaced w (declaration s t p ∷ T) (declaration s t [] ∷ T) (all_of ns) refl)
    ∙ ap (λ z. (P (AtName p) && z) || list_any P (later w (declaration s t [] ∷ T) (all_of ns))) (clashes_name w s t p T)))

gather : (p a b x y : Bool) → ((p && a) || x) || ((p && b) || y) ≡ (p && (a || b)) || (x || y)
gather true true b x y = refl
gather true false true true y = refl
gather true false true false y = refl
gather true false false x y = refl
gather false a b x y = refl

-- what stands in each scope is what reaches it
abbrev Reaches : Sort → Noted → List Frame → List Open → Type 0
Reaches s k fs [] = ⊤
Reaches s k fs (o ∷ os) = (is_in s k o.ext ≡ reaches s fs) × Reaches s k (fs ++ o.frame ∷ []) os

pending_declares : (P : Place → Bool) (fs : List Frame) (os : List Open) (ks : List Noted) (h : Bool) (s : Sort) (t : Text) (p : Path) (es : List Event) (i : ℕ) (n : Extent) → Reaches s (noted s t i n) fs os →
    pending P fs os ks (Declares h s t p ∷ es) ≡ (P (AtName p) && hit s t fs os ks) || pending P fs os (noted s t i n ∷ ks) es
pending_declares P fs [] ks h s t p es i n r = ap (λ z. z || false) (sym (and_none (P (AtName p))))
pending_declares P fs (o ∷ os) ks h s t p es i n r =
    ap (λ z. list_any P (later o.ext.wide (those o.ext ks) (all_of (cond (reaches s fs) (named h s t p ∷ []) [] ++ collected fs es))) || z) (pending_declares P (fs ++ o.frame ∷ []) os ks h s t p es i n r.1)
    ∙ (ap (λ z. z || ((P (AtName p) && hit s t (fs ++ o.frame ∷ []) os ks) || pending P (fs ++ o.frame ∷ []) os (noted s t i n ∷ ks) es)) (level_more P o.ext.wide (reaches s fs) h s t p (those o.ext ks) (collected fs es))
    ∙ (gather (P (AtName p)) (reaches s fs && clashes_with o.ext.wide (declaration s t []) (those o.ext ks)) (hit s t (fs ++ o.frame ∷ []) os ks) _ _
    ∙ ap (λ z. (P (AtName p) && hit s t fs (o ∷ os) ks) || (list_any P (later o.ext.wide (cond z (declaration s t [] ∷ []) [] ++ those o.ext ks) (all_of (collected fs es))) || pending P (fs ++ o.frame ∷ []) os (noted s t i n ∷ ks) es)) (sym r.0)))

-- how the scopes that stand open lie within each other
abbrev Down : ℕ → List Open → Type 0
Down b [] = ⊤
Down b (o ∷ os) = (o.ext.begin < b) × Down o.ext.begin os

abbrev Homes : List Open → Type 0
Homes [] = ⊤
Homes (o ∷ os) = (o.ext.home ≡ cond (is_passed o.frame) (home_in o.ext.begin (exts os)) o.ext.begin) × Homes os

abbrev Ends : ℕ → ℕ → List Open → List Event → Type 0
Ends d i [] es = ⊤
Ends d i (o ∷ os) es = (o.ext.end' ≡ end_of d i es) × Ends (suc d) i os es

abbrev In : Extent → List Open → Type 0
In n [] = true ≡ false
In n (o ∷ os) = (n ≡ o.ext) ⊎ In n os

abbrev Apart : ℕ → List Open → Type 0
Apart b [] = ⊤
Apart b (o ∷ os) = (nat_eq b o.ext.begin ≡ false) × Apart b os

-- a scope of a declaration stands open, or has ended
abbrev Kept : ℕ → List Open → Noted → Type 0
Kept i os k = In k.scope os ⊎ ((k.scope.end' < i) × Apart k.scope.begin os)

abbrev Notes : ℕ → List Open → List Noted → Type 0
Notes i os [] = ⊤
Notes i os (k ∷ ks) = (k.at < i) × (k.scope.begin < i) × Kept i os k × Notes i os ks

absurd : {X : Type 0} → true ≡ false → X
absurd e = cc

unlike : (a b : ℕ) → b < a → nat_eq a b ≡ false
unlike a b l = grind arith

alike : (a b : ℕ) → a ≡ b → nat_eq a b ≡ true
alike a b e = grind arith

below : (a b : ℕ) → a < b → nat_lt a b ≡ true
below a b l = grind arith

not_below : (a b : ℕ) → b ≤ a → nat_lt a b ≡ false
not_below a b l = grind arith

flip_eq : (a b : ℕ) → nat_eq a b ≡ nat_eq b a
flip_eq a b = grind arith

apart_down : (a b : ℕ) (os : List Open) → Down b os → b ≤ a → Apart a os
apart_down a b [] h l = tt
apart_down a b (o ∷ os) h l = (unlike a o.ext.begin (omega (arith, h.0, l)), apart_down a o.ext.begin os h.1 (omega (arith, h.0, l)))

down_up : (a b : ℕ) (os : List Open) → Down a os → a ≤ b → Down b os
down_up a b [] h l = tt
down_up a b (o ∷ os) h l = (omega (arith, h.0, l), h.1)

home_here : (c : Bool) (x y b : ℕ) → x ≡ cond c y b → y ≤ b → x ≤ b
home_here true x y b e l = omega (arith, e, l)
home_here false x y b e l = omega (arith, e)

and_turn : (b : Bool) → b && true ≡ true && b
and_turn true = refl
and_turn false = refl

and_one : (b : Bool) → b && true ≡ b
and_one true = refl
and_one false = refl

and_assoc : (a b c : Bool) → (a && b) && c ≡ a && (b && c)
and_assoc true b c = refl
and_assoc false b c = refl

-- `var` names go to a scope that begins where the one that they stand in does, or before
home_low : (o : Open) (os : List Open) → Down o.ext.begin os → Homes (o ∷ os) → o.ext.home ≤ o.ext.begin
home_low o [] d h = home_here (is_passed o.frame) o.ext.home o.ext.begin o.ext.begin h.0 (omega arith)
home_low o (p ∷ os) d h = home_here (is_passed o.frame) o.ext.home p.ext.home o.ext.begin h.0 (let l : p.ext.home ≤ p.ext.begin = home_low p os d.1 h.1 in omega (arith, l, d.0))

passed_on : (fs : List Frame) (f : Frame) → are_passed (fs ++ f ∷ []) ≡ are_passed fs && is_passed f
passed_on [] f = and_turn (is_passed f)
passed_on (g ∷ fs) f = ap (λ z. is_passed g && z) (passed_on fs f) ∙ sym (and_assoc (is_passed g) (are_passed fs) (is_passed f))

-- whether a scope with the home H is the innermost of these, or such that a `var` doesn't come to them
abbrev Joined : ℕ → ℕ → List Frame → List Open → Type 0
Joined H b fs os = ((are_passed fs ≡ true) × (H ≡ home_in b (exts os))) ⊎ ((are_passed fs ≡ false) × (b ≤ H))

joined_next : (H b : ℕ) (fs : List Frame) (o : Open) (os : List Open) (c : Bool) → is_passed o.frame ≡ c → o.ext.begin < b → Homes (o ∷ os) → Joined H b fs (o ∷ os) → Joined H o.ext.begin (fs ++ o.frame ∷ []) os
joined_next H b fs o os true e l h (inl j) = inl (passed_on fs o.frame ∙ (ap (λ z. z && is_passed o.frame) j.0 ∙ e), j.1 ∙ (h.0 ∙ ap (λ z. cond z (home_in o.ext.begin (exts os)) o.ext.begin) e))
joined_next H b fs o os false e l h (inl j) = inr (passed_on fs o.frame ∙ (ap (λ z. z && is_passed o.frame) j.0 ∙ e), (let q : H ≡ o.ext.begin = j.1 ∙ (h.0 ∙ ap (λ z. cond z (home_in o.ext.begin (exts os)) o.ext.begin) e) in omega (arith, q)))
joined_next H b fs o os c e l h (inr j) = inr (passed_on fs o.frame ∙ ap (λ z. z && is_passed o.frame) j.0, omega (arith, j.1, l))

home_test : (H b : ℕ) (fs : List Frame) (o : Open) (os : List Open) → o.ext.begin < b → Down o.ext.begin os → Homes (o ∷ os) → Joined H b fs (o ∷ os) → nat_eq H o.ext.home ≡ are_passed fs
home_test H b fs o os l d h (inl j) = alike H o.ext.home j.1 ∙ sym j.0
home_test H b fs o os l d h (inr j) = unlike H o.ext.home (let m : o.ext.home ≤ o.ext.begin = home_low o os d h in omega (arith, m, l, j.1)) ∙ sym j.0

var_reaches : (t : Text) (i : ℕ) (n : Extent) (b : ℕ) (fs : List Frame) (os : List Open) → Down b os → Homes os → b ≤ i → Joined n.home b fs os → Reaches AsVar (noted AsVar t i n) fs os
var_reaches t i n b fs [] d h l j = tt
var_reaches t i n b fs (o ∷ os) d h l j = (
  ap (λ z. nat_eq n.home o.ext.home && z) (below o.ext.begin i (omega (arith, d.0, l))) ∙ (and_one (nat_eq n.home o.ext.home) ∙ home_test n.home b fs o os d.0 d.1 h j),
  var_reaches t i n o.ext.begin (fs ++ o.frame ∷ []) os d.1 h.1 (omega (arith, d.0, l)) (joined_next n.home b fs o os (is_passed o.frame) refl d.0 h j),
)

-- what isn't a `var` comes to its own scope alone
abbrev is_var : Sort → Bool
is_var AsVar = true
is_var s = false

no_further : (s : Sort) (f : Frame) (fs : List Frame) → is_var s ≡ false → reaches s (f ∷ fs) ≡ false
no_further AsVar f fs e = absurd e
no_further AsParameter f fs e = refl
no_further AsFunction f fs e = refl
no_further AsLexical f fs e = refl

reaches_own : (s : Sort) → reaches s [] ≡ true
reaches_own AsVar = refl
reaches_own AsParameter = refl
reaches_own AsFunction = refl
reaches_own AsLexical = refl

in_own : (s : Sort) (k : Noted) (n : Extent) → is_var s ≡ false → is_in s k n ≡ nat_eq k.scope.begin n.begin
in_own AsVar k n e = absurd e
in_own AsParameter k n e = refl
in_own AsFunction k n e = refl
in_own AsLexical k n e = refl

not_reached : (s : Sort) (k : Noted) (f : Frame) (fs : List Frame) (os : List Open) → is_var s ≡ false → Apart k.scope.begin os → Reaches s k (f ∷ fs) os
not_reached s k f fs [] e a = tt
not_reached s k f fs (o ∷ os) e a = (in_own s k o.ext e ∙ (a.0 ∙ sym (no_further s f fs e)), not_reached s k f (fs ++ o.frame ∷ []) os e a.1)

reached_all : (v : Bool) (s : Sort) (t : Text) (i : ℕ) (o : Open) (os : List Open) → is_var s ≡ v → Down i (o ∷ os) → Homes (o ∷ os) → Reaches s (noted s t i o.ext) [] (o ∷ os)
reached_all true AsVar t i o os e d h = var_reaches t i o.ext i [] (o ∷ os) d h (omega arith) (inl (refl, refl))
reached_all true AsParameter t i o os e d h = absurd (sym e)
reached_all true AsFunction t i o os e d h = absurd (sym e)
reached_all true AsLexical t i o os e d h = absurd (sym e)
reached_all false s t i o os e d h = (
  in_own s (noted s t i o.ext) o.ext e ∙ (alike o.ext.begin o.ext.begin refl ∙ sym (reaches_own s)),
  not_reached s (noted s t i o.ext) o.frame [] os e (apart_down o.ext.begin o.ext.begin os d.1 (omega arith)),
)

-- whether an earlier declaration clashes with one of sort s in a scope that both reach
abbrev level : Sort → List Frame → List Open → Noted → Bool
level s fs [] k = false
level s fs (o ∷ os) k = (reaches s fs && (is_in k.sort k o.ext && clash o.ext.wide k.sort s)) || level s (fs ++ o.frame ∷ []) os k

one_clash : (w b m : Bool) (s r : Sort) (t u : Text) (T : List Declaration) → same t u ≡ m →
    clashes_with w (declaration s t []) (cond b (declaration r u [] ∷ []) [] ++ T) ≡ (b && (m && clash w r s)) || clashes_with w (declaration s t []) T
one_clash w true m s r t u T e = ap (λ z. (z && clash w r s) || clashes_with w (declaration s t []) T) e
one_clash w false m s r t u T e = refl

sort_out : (r b m c x l y : Bool) → (r && ((b && (m && c)) || x)) || ((m && l) || y) ≡ (m && ((r && (b && c)) || l)) || ((r && x) || y)
sort_out false b m c x l y = refl
sort_out true false true c false l y = refl
sort_out true false true c true true y = refl
sort_out true false true c true false y = refl
sort_out true false false c x l y = refl
sort_out true true false c x l y = refl
sort_out true true true true x l y = refl
sort_out true true true false false l y = refl
sort_out true true true false true true y = refl
sort_out true true true false true false y = refl

hit_more : (s : Sort) (t : Text) (fs : List Frame) (os : List Open) (k : Noted) (ks : List Noted) → hit s t fs os (k ∷ ks) ≡ (same t k.name && level s fs os k) || hit s t fs os ks
hit_more s t fs [] k ks = ap (λ z. z || false) (sym (and_none (same t k.name)))
hit_more s t fs (o ∷ os) k ks =
    ap (λ z. (reaches s fs && clashes_with o.ext.wide (declaration s t []) (those o.ext (k ∷ ks))) || z) (hit_more s t (fs ++ o.frame ∷ []) os k ks)
    ∙ (ap (λ z. (reaches s fs && z) || ((same t k.name && level s (fs ++ o.frame ∷ []) os k) || hit s t (fs ++ o.frame ∷ []) os ks)) (one_clash o.ext.wide (is_in k.sort k o.ext) (same t k.name) s k.sort t k.name (those o.ext ks) refl)
    ∙ sort_out (reaches s fs) (is_in k.sort k o.ext) (same t k.name) (clash o.ext.wide k.sort s) (clashes_with o.ext.wide (declaration s t []) (those o.ext ks)) (level s (fs ++ o.frame ∷ []) os k) (hit s t (fs ++ o.frame ∷ []) os ks))

hit_none : (s : Sort) (t : Text) (fs : List Frame) (os : List Open) → hit s t fs os [] ≡ false
hit_none s t fs [] = refl
hit_none s t fs (o ∷ os) = ap (λ z. z || hit s t (fs ++ o.frame ∷ []) os []) (and_none (reaches s fs)) ∙ hit_none s t (fs ++ o.frame ∷ []) os

or_none : (b : Bool) → b || false ≡ b
or_none true = refl
or_none false = refl

-- a declaration that isn't by `var`: in its own scope alone
no_level : (s : Sort) (f : Frame) (fs : List Frame) (os : List Open) (k : Noted) → is_var s ≡ false → level s (f ∷ fs) os k ≡ false
no_level s f fs [] k e = refl
no_level s f fs (o ∷ os) k e = ap (λ z. (z && (is_in k.sort k o.ext && clash o.ext.wide k.sort s)) || level s ((f ∷ fs) ++ o.frame ∷ []) os k) (no_further s f fs e) ∙ no_level s f (fs ++ o.frame ∷ []) os k e

own_level : (s : Sort) (o : Open) (os : List Open) (k : Noted) → is_var s ≡ false → level s [] (o ∷ os) k ≡ is_in k.sort k o.ext && clash o.ext.wide k.sort s
own_level s o os k e =
    ap (λ z. (z && (is_in k.sort k o.ext && clash o.ext.wide k.sort s)) || level s (o.frame ∷ []) os k) (reaches_own s)
    ∙ (ap (λ z. (is_in k.sort k o.ext && clash o.ext.wide k.sort s) || z) (no_level s o.frame [] os k e) ∙ or_none (is_in k.sort k o.ext && clash o.ext.wide k.sort s))

meets_own : (s r : Sort) (k : Noted) (i : ℕ) (n : Extent) → is_var s ≡ false → meets r s k i n ≡ is_in r k n && clash n.wide r s
meets_own AsVar r k i n e = absurd e
meets_own AsParameter AsVar k i n e = sym (and_assoc (nat_eq k.scope.home n.home) (nat_lt n.begin k.at) (clash n.wide AsVar AsParameter))
meets_own AsParameter AsParameter k i n e = refl
meets_own AsParameter AsFunction k i n e = refl
meets_own AsParameter AsLexical k i n e = refl
meets_own AsFunction AsVar k i n e = sym (and_assoc (nat_eq k.scope.home n.home) (nat_lt n.begin k.at) (clash n.wide AsVar AsFunction))
meets_own AsFunction AsParameter k i n e = refl
meets_own AsFunction AsFunction k i n e = refl
meets_own AsFunction AsLexical k i n e = refl
meets_own AsLexical AsVar k i n e = sym (and_assoc (nat_eq k.scope.home n.home) (nat_lt n.begin k.at) (clash n.wide AsVar AsLexical))
meets_own AsLexical AsParameter k i n e = refl
meets_own AsLexical AsFunction k i n e = refl
meets_own AsLexical AsLexical k i n e = refl

-- two `var`s never clash
vars_level : (fs : List Frame) (os : List Open) (k : Noted) → k.sort ≡ AsVar → level AsVar fs os k ≡ false
vars_level fs [] k e = refl
vars_level fs (o ∷ os) k e =
    ap (λ z. (are_passed fs && (is_in k.sort k o.ext && clash o.ext.wide z AsVar)) || level AsVar (fs ++ o.frame ∷ []) os k) e
    ∙ (ap (λ z. (are_passed fs && z) || level AsVar (fs ++ o.frame ∷ []) os k) (and_none (is_in k.sort k o.ext))
    ∙ (ap (λ z. z || level AsVar (fs ++ o.frame ∷ []) os k) (and_none (are_passed fs)) ∙ vars_level (fs ++ o.frame ∷ []) os k e))

-- a `var` behind another declaration, whose scope has ended
apart_level : (fs : List Frame) (os : List Open) (k : Noted) → is_var k.sort ≡ false → Apart k.scope.begin os → level AsVar fs os k ≡ false
apart_level fs [] k e a = refl
apart_level fs (o ∷ os) k e a =
    ap (λ z. (are_passed fs && (z && clash o.ext.wide k.sort AsVar)) || level AsVar (fs ++ o.frame ∷ []) os k) (in_own k.sort k o.ext e ∙ a.0)
    ∙ (ap (λ z. z || level AsVar (fs ++ o.frame ∷ []) os k) (and_none (are_passed fs)) ∙ apart_level (fs ++ o.frame ∷ []) os k e a.1)

in_below : (n : Extent) (b : ℕ) (os : List Open) → In n os → Down b os → n.begin < b
in_below n b [] h d = absurd h
in_below n b (o ∷ os) (inl e) d = let q : n.begin ≡ o.ext.begin = ap (λ z. z.begin) e in omega (arith, q, d.0)
in_below n b (o ∷ os) (inr h) d = let l : n.begin < o.ext.begin = in_below n o.ext.begin os h d.1 in omega (arith, l, d.0)

-- a scope that stands open ends behind the next event
end_most : (d i : ℕ) (es : List Event) → i ≤ end_of d i es
end_most d i [] = omega arith
end_most d i (Opens f p ∷ es) = let l : suc i ≤ end_of (suc d) (suc i) es = end_most (suc d) (suc i) es in omega (arith, l)
end_most zero i (Closes ∷ es) = omega arith
end_most (suc d) i (Closes ∷ es) = let l : suc i ≤ end_of d (suc i) es = end_most d (suc i) es in omega (arith, l)
end_most d i (Enters ∷ es) = let l : suc i ≤ end_of d (suc i) es = end_most d (suc i) es in omega (arith, l)
end_most d i (Declares h s t p ∷ es) = let l : suc i ≤ end_of d (suc i) es = end_most d (suc i) es in omega (arith, l)
end_most d i (Refers t p ∷ es) = let l : suc i ≤ end_of d (suc i) es = end_most d (suc i) es in omega (arith, l)
end_most d i (Exports t a ∷ es) = let l : suc i ≤ end_of d (suc i) es = end_most d (suc i) es in omega (arith, l)
end_most d i (Wants t a ∷ es) = let l : suc i ≤ end_of d (suc i) es = end_most d (suc i) es in omega (arith, l)
end_most d i (Evals p ∷ es) = let l : suc i ≤ end_of d (suc i) es = end_most d (suc i) es in omega (arith, l)

-- whose scope stands open
open_level : (t : Text) (d i : ℕ) (n : Extent) (b : ℕ) (fs : List Frame) (os : List Open) (k : Noted) (es : List Event) → is_var k.sort ≡ false → b ≤ i → In k.scope os → Down b os →
    Ends d (suc i) os es → Reaches AsVar (noted AsVar t i n) fs os → level AsVar fs os k ≡ nat_eq k.scope.home n.home && (nat_lt i k.scope.end' && clash k.scope.wide k.sort AsVar)
open_level t d i n b fs [] k es e l h w x r = absurd h
open_level t d i n b fs (o ∷ os) k es e l (inl q) w x r =
    ap (λ z. (are_passed fs && (z && clash o.ext.wide k.sort AsVar)) || level AsVar (fs ++ o.frame ∷ []) os k) (in_own k.sort k o.ext e ∙ alike k.scope.begin o.ext.begin (ap (λ z. z.begin) q))
    ∙ (ap (λ z. (are_passed fs && clash o.ext.wide k.sort AsVar) || z) (apart_level (fs ++ o.frame ∷ []) os k e (apart_down k.scope.begin o.ext.begin os w.1 (let m : k.scope.begin ≡ o.ext.begin = ap (λ z. z.begin) q in omega (arith, m))))
    ∙ (or_none (are_passed fs && clash o.ext.wide k.sort AsVar)
    ∙ (ap (λ z. z && clash o.ext.wide k.sort AsVar) (sym r.0)
    ∙ (and_assoc (nat_eq n.home o.ext.home) (nat_lt o.ext.begin i) (clash o.ext.wide k.sort AsVar)
    ∙ (ap (λ z. z && (nat_lt o.ext.begin i && clash o.ext.wide k.sort AsVar)) (flip_eq n.home o.ext.home)
    ∙ (ap (λ z. nat_eq o.ext.home n.home && (z && clash o.ext.wide k.sort AsVar)) (below o.ext.begin i (omega (arith, w.0, l)) ∙ sym (below i o.ext.end' (let m : suc i ≤ end_of d (suc i) es = end_most d (suc i) es in let v : o.ext.end' ≡ end_of d (suc i) es = x.0 in omega (arith, m, v))))
    ∙ ap (λ (z : Extent). nat_eq z.home n.home && (nat_lt i z.end' && clash z.wide k.sort AsVar)) (sym q)))))))
open_level t d i n b fs (o ∷ os) k es e l (inr h) w x r =
    ap (λ z. (are_passed fs && (z && clash o.ext.wide k.sort AsVar)) || level AsVar (fs ++ o.frame ∷ []) os k)
    (in_own k.sort k o.ext e ∙ (flip_eq k.scope.begin o.ext.begin ∙ unlike o.ext.begin k.scope.begin (in_below k.scope o.ext.begin os h w.1)))
    ∙ (ap (λ z. z || level AsVar (fs ++ o.frame ∷ []) os k) (and_none (are_passed fs))
    ∙ open_level t (suc d) i n o.ext.begin (fs ++ o.frame ∷ []) os k es e (omega (arith, w.0, l)) h w.1 x.1 r.1)

meets_var : (r : Sort) (k : Noted) (i : ℕ) (n : Extent) → is_var r ≡ false → meets r AsVar k i n ≡ nat_eq k.scope.home n.home && (nat_lt i k.scope.end' && clash k.scope.wide r AsVar)
meets_var AsVar k i n e = absurd e
meets_var AsParameter k i n e = refl
meets_var AsFunction k i n e = refl
meets_var AsLexical k i n e = refl

sort_var : (r : Sort) → is_var r ≡ true → r ≡ AsVar
sort_var AsVar e = refl
sort_var AsParameter e = absurd (sym e)
sort_var AsFunction e = absurd (sym e)
sort_var AsLexical e = absurd (sym e)

two_vars : (r : Sort) (k : Noted) (i : ℕ) (n : Extent) → is_var r ≡ true → meets r AsVar k i n ≡ false
two_vars AsVar k i n e = refl
two_vars AsParameter k i n e = absurd (sym e)
two_vars AsFunction k i n e = absurd (sym e)
two_vars AsLexical k i n e = absurd (sym e)

meets_level : (v c : Bool) (s : Sort) (t : Text) (i : ℕ) (o : Open) (os : List Open) (k : Noted) (es : List Event) → is_var s ≡ v → is_var k.sort ≡ c → Down i (o ∷ os) → Homes (o ∷ os) → Ends 0 (suc i) (o ∷ os) es → Kept i (o ∷ os) k →
    meets k.sort s k i o.ext ≡ level s [] (o ∷ os) k
meets_level false c s t i o os k es e f d h x q = meets_own s k.sort k i o.ext e ∙ sym (own_level s o os k e)
meets_level true c AsParameter t i o os k es e f d h x q = absurd (sym e)
meets_level true c AsFunction t i o os k es e f d h x q = absurd (sym e)
meets_level true c AsLexical t i o os k es e f d h x q = absurd (sym e)
meets_level true true AsVar t i o os k es e f d h x q = two_vars k.sort k i o.ext f ∙ sym (vars_level [] (o ∷ os) k (sort_var k.sort f))
meets_level true false AsVar t i o os k es e f d h x (inl q) = meets_var k.sort k i o.ext f ∙ sym (open_level t 0 i o.ext i [] (o ∷ os) k es f (omega arith) q d x (reached_all true AsVar t i o os refl d h))
meets_level true false AsVar t i o os k es e f d h x (inr q) =
    meets_var k.sort k i o.ext f ∙ (ap (λ z. nat_eq k.scope.home o.ext.home && (z && clash k.scope.wide k.sort AsVar)) (not_below i k.scope.end' (omega (arith, q.0)))
    ∙ (and_none (nat_eq k.scope.home o.ext.home) ∙ sym (apart_level [] (o ∷ os) k f q.1)))

late_hit : (s : Sort) (t : Text) (i : ℕ) (o : Open) (os : List Open) (ks : List Noted) (es : List Event) → Down i (o ∷ os) → Homes (o ∷ os) → Ends 0 (suc i) (o ∷ os) es → Notes i (o ∷ os) ks →
    is_late s t i o.ext ks ≡ hit s t [] (o ∷ os) ks
late_hit s t i o os [] es d h x q = sym (hit_none s t [] (o ∷ os))
late_hit s t i o os (k ∷ ks) es d h x q =
    ap (λ z. (same t k.name && z) || is_late s t i o.ext ks) (meets_level (is_var s) (is_var k.sort) s t i o os k es refl refl d h x q.2)
    ∙ (ap (λ z. (same t k.name && level s [] (o ∷ os) k) || z) (late_hit s t i o os ks es d h x q.3) ∙ sym (hit_more s t [] (o ∷ os) k ks))

-- what is known of the scopes that stand open, and of the declarations before event i
record Well (i : ℕ) (os : List Open) (ks : List Noted) (es : List Event) : Type 0 where
  down : Down i os
  homes : Homes os
  ends : Ends 0 i os es
  notes : Notes i os ks

ends_pass : (d i : ℕ) (os : List Open) (e : Event) (es : List Event) → ((c : ℕ) → end_of c i (e ∷ es) ≡ end_of c (suc i) es) → Ends d i os (e ∷ es) → Ends d (suc i) os es
ends_pass d i [] e es h x = tt
ends_pass d i (o ∷ os) e es h x = (x.0 ∙ h d, ends_pass (suc d) i os e es h x.1)

ends_open : (d i : ℕ) (os : List Open) (f : Frame) (p : Path) (es : List Event) → Ends d i os (Opens f p ∷ es) → Ends (suc d) (suc i) os es
ends_open d i [] f p es x = tt
ends_open d i (o ∷ os) f p es x = (x.0, ends_open (suc d) i os f p es x.1)

ends_close : (d i : ℕ) (os : List Open) (es : List Event) → Ends (suc d) i os (Closes ∷ es) → Ends d (suc i) os es
ends_close d i [] es x = tt
ends_close d i (o ∷ os) es x = (x.0, ends_close (suc d) i os es x.1)

kept_on : (i : ℕ) (os : List Open) (k : Noted) → Kept i os k → Kept (suc i) os k
kept_on i os k (inl h) = inl h
kept_on i os k (inr h) = inr (omega (arith, h.0), h.1)

notes_on : (i : ℕ) (os : List Open) (ks : List Noted) → Notes i os ks → Notes (suc i) os ks
notes_on i os [] q = tt
notes_on i os (k ∷ ks) q = (omega (arith, q.0), omega (arith, q.1), kept_on i os k q.2, notes_on i os ks q.3)

kept_open : (i : ℕ) (o : Open) (os : List Open) (k : Noted) → o.ext.begin ≡ i → k.scope.begin < i → Kept i os k → Kept (suc i) (o ∷ os) k
kept_open i o os k e l (inl h) = inl (inr h)
kept_open i o os k e l (inr h) = inr (omega (arith, h.0), (flip_eq k.scope.begin o.ext.begin ∙ unlike o.ext.begin k.scope.begin (omega (arith, e, l)), h.1))

notes_open : (i : ℕ) (o : Open) (os : List Open) (ks : List Noted) → o.ext.begin ≡ i → Notes i os ks → Notes (suc i) (o ∷ os) ks
notes_open i o os [] e q = tt
notes_open i o os (k ∷ ks) e q = (omega (arith, q.0), omega (arith, q.1), kept_open i o os k e q.1 q.2, notes_open i o os ks e q.3)

kept_close : (i : ℕ) (o : Open) (os : List Open) (k : Noted) → o.ext.end' ≡ i → Down o.ext.begin os → Kept i (o ∷ os) k → Kept (suc i) os k
kept_close i o os k e d (inl (inl h)) = inr ((let a : k.scope.end' ≡ o.ext.end' = ap (λ z. z.end') h in omega (arith, a, e)), apart_down k.scope.begin o.ext.begin os d (let b : k.scope.begin ≡ o.ext.begin = ap (λ z. z.begin) h in omega (arith, b)))
kept_close i o os k e d (inl (inr h)) = inl h
kept_close i o os k e d (inr h) = inr (omega (arith, h.0), h.1.1)

notes_close : (i : ℕ) (o : Open) (os : List Open) (ks : List Noted) → o.ext.end' ≡ i → Down o.ext.begin os → Notes i (o ∷ os) ks → Notes (suc i) os ks
notes_close i o os [] e d q = tt
notes_close i o os (k ∷ ks) e d q = (omega (arith, q.0), omega (arith, q.1), kept_close i o os k e d q.2, notes_close i o os ks e d q.3)

-- nothing stands in a scope that begins
not_in : (r : Sort) (i : ℕ) (k : Noted) (n : Extent) → n.begin ≡ i → k.at < i → k.scope.begin < i → is_in r k n ≡ false
not_in AsVar i k n e a b = ap (λ z. nat_eq k.scope.home n.home && z) (not_below n.begin k.at (omega (arith, e, a))) ∙ and_none (nat_eq k.scope.home n.home)
not_in AsParameter i k n e a b = flip_eq k.scope.begin n.begin ∙ unlike n.begin k.scope.begin (omega (arith, e, b))
not_in AsFunction i k n e a b = flip_eq k.scope.begin n.begin ∙ unlike n.begin k.scope.begin (omega (arith, e, b))
not_in AsLexical i k n e a b = flip_eq k.scope.begin n.begin ∙ unlike n.begin k.scope.begin (omega (arith, e, b))

those_none : (i : ℕ) (os : List Open) (ks : List Noted) (n : Extent) → n.begin ≡ i → Notes i os ks → those n ks ≡ []
those_none i os [] n e q = refl
those_none i os (k ∷ ks) n e q = ap (λ z. cond z (declaration k.sort k.name [] ∷ []) [] ++ those n ks) (not_in k.sort i k n e q.0 q.1) ∙ those_none i os ks n e q.3

abbrev is_declaration : Event → Bool
is_declaration (Declares h s t p) = true
is_declaration e = false

not_late : (i : ℕ) (ns : List Extent) (ks : List Noted) (e : Event) → is_declaration e ≡ false → is_late_at i ns ks e ≡ false
not_late i [] ks e h = refl
not_late i (n ∷ ns) ks (Opens f p) h = refl
not_late i (n ∷ ns) ks Enters h = refl
not_late i (n ∷ ns) ks Closes h = refl
not_late i (n ∷ ns) ks (Declares a s t p) h = absurd h
not_late i (n ∷ ns) ks (Refers t p) h = refl
not_late i (n ∷ ns) ks (Exports t a) h = refl
not_late i (n ∷ ns) ks (Wants t a) h = refl
not_late i (n ∷ ns) ks (Evals p) h = refl

not_noted : (i : ℕ) (ns : List Extent) (ks : List Noted) (e : Event) → is_declaration e ≡ false → noting i ns ks e ≡ ks
not_noted i [] ks e h = refl
not_noted i (n ∷ ns) ks (Opens f p) h = refl
not_noted i (n ∷ ns) ks Enters h = refl
not_noted i (n ∷ ns) ks Closes h = refl
not_noted i (n ∷ ns) ks (Declares a s t p) h = absurd h
not_noted i (n ∷ ns) ks (Refers t p) h = refl
not_noted i (n ∷ ns) ks (Exports t a) h = refl
not_noted i (n ∷ ns) ks (Wants t a) h = refl
not_noted i (n ∷ ns) ks (Evals p) h = refl

lates_on : (i : ℕ) (ns : List Extent) (ks : List Noted) (e : Event) (es : List Event) → is_declaration e ≡ false → lates i ns ks (e ∷ es) ≡ lates (suc i) (within i ns e es) ks es
lates_on i ns ks e es h = ap (λ z. cond z (placed e ∷ []) [] ++ lates (suc i) (within i ns e es) (noting i ns ks e) es) (not_late i ns ks e h) ∙ ap (λ z. lates (suc i) (within i ns e es) z es) (not_noted i ns ks e h)

front : (a c p : Bool) → (a || c) || p ≡ c || (a || p)
front true true p = refl
front true false p = refl
front false c p = refl

fore : (c a p : Bool) → c || (a || p) ≡ a || (c || p)
fore true true p = refl
fore true false p = refl
fore false a p = refl

well_on : (i : ℕ) (os : List Open) (ks : List Noted) (e : Event) (es : List Event) → ((c : ℕ) → end_of c i (e ∷ es) ≡ end_of c (suc i) es) → Well i os ks (e ∷ es) → Well (suc i) os ks es
well_on i os ks e es h w = record { down = down_up i (suc i) os w.down (omega arith); homes = w.homes; ends = ends_pass 0 i os e es h w.ends; notes = notes_on i os ks w.notes }

passed_by : (P : Place → Bool) (i : ℕ) (os : List Open) (ks : List Noted) (e : Event) (es : List Event) → is_declaration e ≡ false → within i (exts os) e es ≡ exts os → clashing (e ∷ es) ≡ clashing es →
    ((gs : List Frame) → collected gs (e ∷ es) ≡ collected gs es) → list_any P (clashing es) || pending P [] os ks es ≡ list_any P (lates (suc i) (exts os) ks es) →
    list_any P (clashing (e ∷ es)) || pending P [] os ks (e ∷ es) ≡ list_any P (lates i (exts os) ks (e ∷ es))
passed_by P i os ks e es d w c g h =
    ap (λ z. list_any P z || pending P [] os ks (e ∷ es)) c ∙ (ap (λ z. list_any P (clashing es) || z) (pending_passes P [] os ks e es g)
    ∙ (h ∙ sym (ap (list_any P) (lates_on i (exts os) ks e es d ∙ ap (λ z. lates (suc i) z ks es) w))))

all_late : (P : Place → Bool) (i : ℕ) (os : List Open) (ks : List Noted) (es : List Event) → Well i os ks es → list_any P (clashing es) || pending P [] os ks es ≡ list_any P (lates i (exts os) ks es)
all_late P i os ks [] w = pending_ends P [] os ks
all_late P i os ks (Opens f p ∷ es) w =
    let n = extent f i (exts os) es in
    let o : Open = record { frame = f; ext = n } in
    ap (λ z. z || pending P [] os ks (Opens f p ∷ es)) (any_append P (later (is_wide f) [] (all_of (collected [] es))) (clashing es))
    ∙ (front (list_any P (later (is_wide f) [] (all_of (collected [] es)))) (list_any P (clashing es)) (pending P [] os ks (Opens f p ∷ es))
    ∙ (ap (λ z. list_any P (clashing es) || (list_any P (later (is_wide f) z (all_of (collected [] es))) || pending P [] os ks (Opens f p ∷ es))) (sym (those_none i os ks n refl w.notes))
    ∙ (ap (λ z. list_any P (clashing es) || (list_any P (later (is_wide f) (those n ks) (all_of (collected [] es))) || z)) (pending_opens P [] os ks f p es)
    ∙ (all_late P (suc i) (o ∷ os) ks es (record { down = (omega arith, w.down); homes = (refl, w.homes); ends = (refl, ends_open 0 i os f p es w.ends); notes = notes_open i o os ks refl w.notes })
    ∙ sym (ap (list_any P) (lates_on i (exts os) ks (Opens f p) es refl))))))
all_late P i [] ks (Closes ∷ es) w =
    all_late P (suc i) [] ks es (record { down = tt; homes = tt; ends = tt; notes = notes_on i [] ks w.notes }) ∙ sym (ap (list_any P) (lates_on i [] ks Closes es refl))
all_late P i (o ∷ os) ks (Closes ∷ es) w =
    ap (λ z. list_any P (clashing es) || z) (pending_closes P [] os ks o.frame es)
    ∙ (all_late P (suc i) os ks es (record { down = down_up o.ext.begin (suc i) os w.down.1 (let l = w.down.0 in omega (arith, l)); homes = w.homes.1; ends = ends_close 0 i os es w.ends.1; notes = notes_close i o os ks w.ends.0 w.down.1 w.notes })
    ∙ sym (ap (list_any P) (lates_on i (exts (o ∷ os)) ks Closes es refl)))
all_late P i [] ks (Declares h s t p ∷ es) w = all_late P (suc i) [] ks es (record { down = tt; homes = tt; ends = tt; notes = notes_on i [] ks w.notes })
all_late P i (o ∷ os) ks (Declares h s t p ∷ es) w =
    let k = noted s t i o.ext in
    ap (λ z. list_any P (clashing es) || z) (pending_declares P [] (o ∷ os) ks h s t p es i o.ext (reached_all (is_var s) s t i o os refl w.down w.homes))
    ∙ (fore (list_any P (clashing es)) (P (AtName p) && hit s t [] (o ∷ os) ks) (pending P [] (o ∷ os) (k ∷ ks) es)
    ∙ (ap (λ z. (P (AtName p) && hit s t [] (o ∷ os) ks) || z) (all_late P (suc i) (o ∷ os) (k ∷ ks) es (record {
      down = down_up i (suc i) (o ∷ os) w.down (omega arith);
      homes = w.homes;
      ends = ends_pass 0 i (o ∷ os) (Declares h s t p) es (λ c. refl) w.ends;
      notes = (omega arith, (let l = w.down.0 in omega (arith, l)), inl (inl refl), notes_on i (o ∷ os) ks w.notes);
    }))
    ∙ (ap (λ z. (P (AtName p) && z) || list_any P (lates (suc i) (exts (o ∷ os)) (k ∷ ks) es)) (sym (late_hit s t i o os ks es w.down w.homes (ends_pass 0 i (o ∷ os) (Declares h s t p) es (λ c. refl) w.ends) w.notes))
    ∙ (ap (λ z. z || list_any P (lates (suc i) (exts (o ∷ os)) (k ∷ ks) es)) (sym (any_if P (is_late s t i o.ext ks) (AtName p)))
    ∙ sym (any_append P (cond (is_late s t i o.ext ks) (AtName p ∷ []) []) (lates (suc i) (exts (o ∷ os)) (k ∷ ks) es))))))
all_late P i os ks (Enters ∷ es) w = passed_by P i os ks Enters es refl refl refl (λ gs. refl) (all_late P (suc i) os ks es (well_on i os ks Enters es (λ c. refl) w))
all_late P i os ks (Refers t p ∷ es) w = passed_by P i os ks (Refers t p) es refl refl refl (λ gs. refl) (all_late P (suc i) os ks es (well_on i os ks (Refers t p) es (λ c. refl) w))
all_late P i os ks (Exports t a ∷ es) w = passed_by P i os ks (Exports t a) es refl refl refl (λ gs. refl) (all_late P (suc i) os ks es (well_on i os ks (Exports t a) es (λ c. refl) w))
all_late P i os ks (Wants t a ∷ es) w = passed_by P i os ks (Wants t a) es refl refl refl (λ gs. refl) (all_late P (suc i) os ks es (well_on i os ks (Wants t a) es (λ c. refl) w))
all_late P i os ks (Evals p ∷ es) w = passed_by P i os ks (Evals p) es refl refl refl (λ gs. refl) (all_late P (suc i) os ks es (well_on i os ks (Evals p) es (λ c. refl) w))

-- whatever is asked of a place: one of the declarations that clash has it, scope by scope, exactly where one of those that are late has it
pub clashing_late : (P : Place → Bool) (es : List Event) → list_any P (clashing es) ≡ list_any P (lates 0 [] [] es)
clashing_late P es = sym (or_none (list_any P (clashing es))) ∙ all_late P 0 [] [] es (record { down = tt; homes = tt; ends = tt; notes = tt })
