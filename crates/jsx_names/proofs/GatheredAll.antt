-- What a scope keeps of all events shows what it declares.
use Rattle.std.proofs.Common.{◌≡◌, ◌<◌, ◌+◌, ℕ, zero, suc, List, [], ◌∷◌, ◌++◌, drop, Bool, true, false, refl, sym, ap, ◌∙◌, arith}
use Rattle.std.specs.Prelude.{cond, not, ◌&&◌, ◌||◌, nat_eq, ⊤}
use Rattle.jsx_base.specs.Token.{Text, same}
use Rattle.jsx_tree.specs.Scopes.{Path, Sort, AsVar, AsParameter, AsFunction, AsLexical, Declaration, is_declared, is_of_parameter, is_var}
use Rattle.jsx_names.specs.Events.{Frame, OfModule, OfScript, OfFunction, OfBlock, OfCatch, OfName, Event, Opens, Enters, Closes, Declares, Refers, Exports, Wants, Evals}
use Rattle.jsx_names.specs.Answers.{Named, are_passed, at_first, at_last, collected, is_passed, named, reaches}
use Rattle.jsx_names.specs.Gathered.{Begun, behind, begun, gathered, given, giving, is_shown, outer, shows}

absurd : {X : Type 0} → true ≡ false → X
absurd e = cc

-- none of these is scope b
abbrev Apart : ℕ → List Begun → Type 0
Apart b [] = ⊤
Apart b (k ∷ ks) = (nat_eq k.number b ≡ false) × Apart b ks

apart_outer : (b : ℕ) (ks : List Begun) → Apart b ks → Apart b (outer ks)
apart_outer b [] a = a
apart_outer b (k ∷ ks) a = a.1

no_head : (h : Bool) → h && false ≡ false
no_head true = refl
no_head false = refl

none_by : (c d e : Bool) (n : Named) (xs : List Named) → d ≡ false → e ≡ false → xs ≡ [] → cond c (cond e (n ∷ []) [] ++ xs) (cond d (n ∷ []) []) ≡ []
none_by true d e n xs p q r = ap (λ z. cond z (n ∷ []) [] ++ xs) q ∙ r
none_by false d e n xs p q r = ap (λ z. cond z (n ∷ []) []) p

none_given : (b : ℕ) (n : Named) (ks : List Begun) → Apart b ks → given b n ks ≡ []
none_given b n [] a = refl
none_given b n (k ∷ ks) a = none_by (is_var n.is.sort && is_passed k.frame) (nat_eq k.number b) (n.head && nat_eq k.number b) n (given b n ks) a.0 (ap (λ z. n.head && z) a.0 ∙ no_head n.head) (none_given b n ks a.1)

later_apart : (b j : ℕ) → b < j → nat_eq j b ≡ false
later_apart b j l = grind arith

sooner_apart : (b j : ℕ) → j < b → nat_eq j b ≡ false
sooner_apart b j l = grind arith

later_still : (b j : ℕ) → b < j → b < suc j
later_still b j l = omega (arith, l)

apart_behind : (b j : ℕ) (ks : List Begun) (e : Event) → nat_eq j b ≡ false → Apart b ks → Apart b (behind j ks e)
apart_behind b j ks (Opens f p) l a = (l, a)
apart_behind b j ks Closes l a = apart_outer b ks a
apart_behind b j ks Enters l a = a
apart_behind b j ks (Declares h s t p) l a = a
apart_behind b j ks (Refers t p) l a = a
apart_behind b j ks (Exports t p) l a = a
apart_behind b j ks (Wants t p) l a = a
apart_behind b j ks (Evals p) l a = a

none_giving : (b : ℕ) (ks : List Begun) (e : Event) → Apart b ks → giving b ks e ≡ []
none_giving b ks (Declares h s t p) a = none_given b (named h s t p) ks a
none_giving b ks (Opens f p) a = refl
none_giving b ks Closes a = refl
none_giving b ks Enters a = refl
none_giving b ks (Refers t p) a = refl
none_giving b ks (Exports t p) a = refl
none_giving b ks (Wants t p) a = refl
none_giving b ks (Evals p) a = refl

-- behind its end it keeps nothing
none_after : (b j : ℕ) (ks : List Begun) (es : List Event) → b < j → Apart b ks → gathered b j ks es ≡ []
none_after b j ks [] l a = refl
none_after b j ks (e ∷ es) l a = ap (λ z. z ++ gathered b (suc j) (behind j ks e) es) (none_giving b ks e a)
    ∙ none_after b (suc j) (behind j ks e) es (later_still b j l) (apart_behind b j ks e (later_apart b j l) a)

-- the frames of the scopes in it
abbrev frames : List Begun → List Frame
frames [] = []
frames (k ∷ ks) = k.frame ∷ frames ks

-- a declaration in it shows, or is kept, alike
abbrev Alike : Bool → Frame → Text → List Named → List Named → Type 0
Alike q f t xs ys = (ns ms : List Named) → is_shown q f t ns ≡ is_shown q f t ms → is_shown q f t (xs ++ ns) ≡ is_shown q f t (ys ++ ms)

one_alike : (q : Bool) (f : Frame) (t : Text) (n : Named) → Alike q f t (n ∷ []) (n ∷ [])
one_alike q f t n = λ ns ms e. ap (λ z. (shows q f n && same t n.is.name) || z) e

none_alike : (q : Bool) (f : Frame) (t : Text) → Alike q f t [] []
none_alike q f t = λ ns ms e. e

hidden_alike : (q : Bool) (f : Frame) (t : Text) (n : Named) → shows q f n ≡ false → Alike q f t [] (n ∷ [])
hidden_alike q f t n h = λ ns ms e. e ∙ sym (ap (λ z. (z && same t n.is.name) || is_shown q f t ms) h)

same_number : (b : ℕ) → nat_eq b b ≡ true
same_number b = grind arith

-- a `var` that isn't in a head shows in no scope that it goes through
hidden_var : (q : Bool) (f : Frame) (n : Named) → is_var n.is.sort ≡ true → n.head ≡ false → is_passed f ≡ true → shows q f n ≡ false
hidden_var true OfCatch n v h p = ap not v
hidden_var false OfCatch n v h p = h
hidden_var true OfBlock n v h p = ap not v
hidden_var false OfBlock n v h p = ap not v
hidden_var q OfModule n v h p = absurd (sym p)
hidden_var q OfScript n v h p = absurd (sym p)
hidden_var q OfFunction n v h p = absurd (sym p)
hidden_var q OfName n v h p = absurd (sym p)

by_passing : (b : ℕ) (n : Named) (k : Begun) (c : Bool) (xs : List Named) → nat_eq k.number b ≡ false → cond c (cond (n.head && nat_eq k.number b) (n ∷ []) [] ++ xs) (cond (nat_eq k.number b) (n ∷ []) []) ≡ cond c xs []
by_passing b n k true xs e = ap (λ z. cond z (n ∷ []) [] ++ xs) (ap (λ z. n.head && z) e ∙ no_head n.head)
by_passing b n k false xs e = ap (λ z. cond z (n ∷ []) []) e

both_passed : (c d : Bool) (xs : List Named) → cond c (cond d xs []) [] ≡ cond (c && d) xs []
both_passed true d xs = refl
both_passed false d xs = refl

-- a `var` goes through scopes
through : (b : ℕ) (h : Bool) (u : Text) (p : Path) (xs ks : List Begun) → Apart b xs → given b (named h AsVar u p) (xs ++ ks) ≡ cond (are_passed (frames xs)) (given b (named h AsVar u p) ks) []
through b h u p [] ks a = refl
through b h u p (x ∷ xs) ks a =
    by_passing b (named h AsVar u p) x (is_passed x.frame) (given b (named h AsVar u p) (xs ++ ks)) a.0
    ∙ (ap (λ z. cond (is_passed x.frame) z []) (through b h u p xs ks a.1)
    ∙ both_passed (is_passed x.frame) (are_passed (frames xs)) (given b (named h AsVar u p) ks))

head_only : (h c : Bool) (n : Named) (xs : List Named) → c ≡ true → xs ≡ [] → cond (h && c) (n ∷ []) [] ++ xs ≡ cond h (n ∷ []) []
head_only true c n xs e r = ap (λ z. cond z (n ∷ []) [] ++ xs) e ∙ ap (λ z. n ∷ z) r
head_only false c n xs e r = r

arrives_by : (b : ℕ) (h c : Bool) (n : Named) (xs : List Named) → xs ≡ [] → cond c (cond (h && nat_eq b b) (n ∷ []) [] ++ xs) (cond (nat_eq b b) (n ∷ []) []) ≡ cond c (cond h (n ∷ []) []) (n ∷ [])
arrives_by b h true n xs r = head_only h (nat_eq b b) n xs (same_number b) r
arrives_by b h false n xs r = ap (λ z. cond z (n ∷ []) []) (same_number b)

arrives : (b : ℕ) (h : Bool) (u : Text) (p : Path) (f : Frame) (ks : List Begun) → Apart b ks → given b (named h AsVar u p) (begun b f ∷ ks) ≡ cond (is_passed f) (cond h (named h AsVar u p ∷ []) []) (named h AsVar u p ∷ [])
arrives b h u p f ks a = arrives_by b h (is_passed f) (named h AsVar u p) (given b (named h AsVar u p) ks) (none_given b (named h AsVar u p) ks a)

alike_through : (q : Bool) (f : Frame) (t : Text) (h : Bool) (u : Text) (p : Path) (c d : Bool) → is_passed f ≡ d → Alike q f t (cond c (cond d (cond h (named h AsVar u p ∷ []) []) (named h AsVar u p ∷ [])) []) (cond c (named h AsVar u p ∷ []) [])
alike_through q f t h u p false d e = none_alike q f t
alike_through q f t h u p true false e = one_alike q f t (named h AsVar u p)
alike_through q f t true u p true true e = one_alike q f t (named true AsVar u p)
alike_through q f t false u p true true e = hidden_alike q f t (named false AsVar u p) (hidden_var q f (named false AsVar u p) refl refl e)

-- what is the same shows alike
alike_as : (q : Bool) (f : Frame) (t : Text) (xs ys zs : List Named) → xs ≡ ys → Alike q f t ys zs → Alike q f t xs zs
alike_as q f t xs ys zs e a = λ ns ms h. ap (λ z. is_shown q f t (z ++ ns)) e ∙ a ns ms h

here : (b : ℕ) (q : Bool) (f : Frame) (t : Text) (n : Named) → Alike q f t (cond (nat_eq b b) (n ∷ []) []) (n ∷ [])
here b q f t n = alike_as q f t (cond (nat_eq b b) (n ∷ []) []) (n ∷ []) (n ∷ []) (ap (λ z. cond z (n ∷ []) []) (same_number b)) (one_alike q f t n)

elsewhere : (b i : ℕ) (q : Bool) (f : Frame) (t : Text) (n : Named) → nat_eq i b ≡ false → Alike q f t (cond (nat_eq i b) (n ∷ []) []) []
elsewhere b i q f t n e = alike_as q f t (cond (nat_eq i b) (n ∷ []) []) [] [] (ap (λ z. cond z (n ∷ []) []) e) (none_alike q f t)

given_alike : (b : ℕ) (q : Bool) (f : Frame) (t : Text) (h : Bool) (s : Sort) (u : Text) (p : Path) (xs ks : List Begun) → Apart b xs → Apart b ks →
    Alike q f t (given b (named h s u p) (xs ++ begun b f ∷ ks)) (cond (reaches s (frames xs)) (named h s u p ∷ []) [])
given_alike b q f t h AsVar u p xs ks a c =
    alike_as q f t (given b (named h AsVar u p) (xs ++ begun b f ∷ ks)) (cond (are_passed (frames xs)) (cond (is_passed f) (cond h (named h AsVar u p ∷ []) []) (named h AsVar u p ∷ [])) []) (cond (are_passed (frames xs)) (named h AsVar u p ∷ []) [])
    (through b h u p xs (begun b f ∷ ks) a ∙ ap (λ z. cond (are_passed (frames xs)) z []) (arrives b h u p f ks c))
    (alike_through q f t h u p (are_passed (frames xs)) (is_passed f) refl)
given_alike b q f t h AsParameter u p [] ks a c = here b q f t (named h AsParameter u p)
given_alike b q f t h AsFunction u p [] ks a c = here b q f t (named h AsFunction u p)
given_alike b q f t h AsLexical u p [] ks a c = here b q f t (named h AsLexical u p)
given_alike b q f t h AsParameter u p (x ∷ xs) ks a c = elsewhere b x.number q f t (named h AsParameter u p) a.0
given_alike b q f t h AsFunction u p (x ∷ xs) ks a c = elsewhere b x.number q f t (named h AsFunction u p) a.0
given_alike b q f t h AsLexical u p (x ∷ xs) ks a c = elsewhere b x.number q f t (named h AsLexical u p) a.0

-- inside of it
shown_inside : (q : Bool) (f : Frame) (t : Text) (b j : ℕ) (xs ks : List Begun) (es : List Event) → b < j → Apart b xs → Apart b ks →
    is_shown q f t (gathered b j (xs ++ begun b f ∷ ks) es) ≡ is_shown q f t (collected (frames xs) es)
shown_inside q f t b j xs ks [] l a c = refl
shown_inside q f t b j xs ks (Opens g p ∷ es) l a c = shown_inside q f t b (suc j) (begun j g ∷ xs) ks es (later_still b j l) (later_apart b j l, a) c
shown_inside q f t b j [] ks (Closes ∷ es) l a c = ap (is_shown q f t) (none_after b (suc j) ks es (later_still b j l) c)
shown_inside q f t b j (x ∷ xs) ks (Closes ∷ es) l a c = shown_inside q f t b (suc j) xs ks es (later_still b j l) a.1 c
shown_inside q f t b j xs ks (Declares h s u p ∷ es) l a c =
    given_alike b q f t h s u p xs ks a c (gathered b (suc j) (xs ++ begun b f ∷ ks) es) (collected (frames xs) es) (shown_inside q f t b (suc j) xs ks es (later_still b j l) a c)
shown_inside q f t b j xs ks (Enters ∷ es) l a c = shown_inside q f t b (suc j) xs ks es (later_still b j l) a c
shown_inside q f t b j xs ks (Refers u p ∷ es) l a c = shown_inside q f t b (suc j) xs ks es (later_still b j l) a c
shown_inside q f t b j xs ks (Exports u p ∷ es) l a c = shown_inside q f t b (suc j) xs ks es (later_still b j l) a c
shown_inside q f t b j xs ks (Wants u p ∷ es) l a c = shown_inside q f t b (suc j) xs ks es (later_still b j l) a c
shown_inside q f t b j xs ks (Evals p ∷ es) l a c = shown_inside q f t b (suc j) xs ks es (later_still b j l) a c

abbrev rest : List Event → List Event
rest [] = []
rest (e ∷ es) = es

never : {X : Type 0} (e : Event) (es : List Event) → [] ≡ e ∷ es → X
never e es h = cc

no_more : (j b : ℕ) → j + 0 ≡ b → j ≡ b
no_more j b h = omega (arith, h)

one_less : (j k b : ℕ) → j + suc k ≡ b → suc j + k ≡ b
one_less j k b h = omega (arith, h)

not_yet : (j k b : ℕ) → j + suc k ≡ b → j < b
not_yet j k b h = omega (arith, h)

next : (b : ℕ) → b < suc b
next b = omega arith

-- up to its beginning
shown_from : (q : Bool) (f : Frame) (p : Path) (t : Text) (k j b : ℕ) (ks : List Begun) (es inside : List Event) → j + k ≡ b → Apart b ks → drop k es ≡ Opens f p ∷ inside →
    is_shown q f t (gathered b j ks es) ≡ is_shown q f t (collected [] inside)
shown_from q f p t zero j b ks es inside h a d =
    ap (λ z. is_shown q f t (gathered b z ks es)) (no_more j b h)
    ∙ (ap (λ z. is_shown q f t (gathered b b ks z)) d
    ∙ shown_inside q f t b (suc b) [] ks inside (next b) tt a)
shown_from q f p t (suc k) j b ks [] inside h a d = never (Opens f p) inside d
shown_from q f p t (suc k) j b ks (e ∷ es) inside h a d =
    ap (λ z. is_shown q f t (z ++ gathered b (suc j) (behind j ks e) es)) (none_giving b ks e a)
    ∙ shown_from q f p t k (suc j) b (behind j ks e) es inside (one_less j k b h) (apart_behind b j ks e (sooner_apart b j (not_yet j k b h)) a) d

from_zero : (b : ℕ) → 0 + b ≡ b
from_zero b = omega arith

pub shown_all : (q : Bool) (f : Frame) (p : Path) (t : Text) (i : ℕ) (es inside : List Event) → drop i es ≡ Opens f p ∷ inside → is_shown q f t (gathered i 0 [] es) ≡ is_shown q f t (collected [] inside)
shown_all q f p t i es inside d = shown_from q f p t i 0 i [] es inside (from_zero i) tt d

-- what is seen of what a scope declares
kept_if : (t : Text) (b : Bool) (n : Named) (r : Bool) (ds : List Declaration) → is_declared t ds ≡ r → is_declared t (cond b (n.is ∷ ds) ds) ≡ (b && same t n.is.name) || r
kept_if t true n r ds e = ap (λ z. same t n.is.name || z) e
kept_if t false n r ds e = e

put_if : (t : Text) (b : Bool) (n : Named) (r : Bool) (ds : List Declaration) → is_declared t ds ≡ r → is_declared t (cond b (n.is ∷ []) [] ++ ds) ≡ (b && same t n.is.name) || r
put_if t true n r ds e = ap (λ z. same t n.is.name || z) e
put_if t false n r ds e = e

left_if : (t : Text) (b : Bool) (n : Named) (r : Bool) (ds : List Declaration) → is_declared t ds ≡ r → is_declared t (cond b ds (n.is ∷ ds)) ≡ (not b && same t n.is.name) || r
left_if t true n r ds e = e
left_if t false n r ds e = ap (λ z. same t n.is.name || z) e

pub declared_first : (f : Frame) (t : Text) (ns : List Named) → is_declared t (at_first f ns) ≡ is_shown false f t ns
declared_first OfModule t [] = refl
declared_first OfScript t [] = refl
declared_first OfFunction t [] = refl
declared_first OfBlock t [] = refl
declared_first OfCatch t [] = refl
declared_first OfName t [] = refl
declared_first OfModule t (n ∷ ns) = ap (λ z. same t n.is.name || z) (declared_first OfModule t ns)
declared_first OfScript t (n ∷ ns) = ap (λ z. same t n.is.name || z) (declared_first OfScript t ns)
declared_first OfName t (n ∷ ns) = ap (λ z. same t n.is.name || z) (declared_first OfName t ns)
declared_first OfFunction t (n ∷ ns) = kept_if t (is_of_parameter n.is.sort) n (is_shown false OfFunction t ns) (at_first OfFunction ns) (declared_first OfFunction t ns)
declared_first OfBlock t (n ∷ ns) = left_if t (is_var n.is.sort) n (is_shown false OfBlock t ns) (at_first OfBlock ns) (declared_first OfBlock t ns)
declared_first OfCatch t (n ∷ ns) = put_if t n.head n (is_shown false OfCatch t ns) (at_first OfCatch ns) (declared_first OfCatch t ns)

pub declared_last : (f : Frame) (t : Text) (ns : List Named) → is_declared t (at_last f ns) ≡ is_shown true f t ns
declared_last OfModule t [] = refl
declared_last OfScript t [] = refl
declared_last OfFunction t [] = refl
declared_last OfBlock t [] = refl
declared_last OfCatch t [] = refl
declared_last OfName t [] = refl
declared_last OfModule t (n ∷ ns) = ap (λ z. same t n.is.name || z) (declared_last OfModule t ns)
declared_last OfScript t (n ∷ ns) = ap (λ z. same t n.is.name || z) (declared_last OfScript t ns)
declared_last OfName t (n ∷ ns) = ap (λ z. same t n.is.name || z) (declared_last OfName t ns)
declared_last OfFunction t (n ∷ ns) = ap (λ z. same t n.is.name || z) (declared_last OfFunction t ns)
declared_last OfBlock t (n ∷ ns) = left_if t (is_var n.is.sort) n (is_shown true OfBlock t ns) (at_last OfBlock ns) (declared_last OfBlock t ns)
declared_last OfCatch t (n ∷ ns) = left_if t (is_var n.is.sort) n (is_shown true OfCatch t ns) (at_last OfCatch ns) (declared_last OfCatch t ns)
