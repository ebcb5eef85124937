-- What is kept of the declarations so far tells whether one is late.
use Rattle.std.proofs.Common.{◌≡◌, ℕ, Bool, true, false, List, [], ◌∷◌, refl, sym, ◌∙◌, ap, arith}
use Rattle.std.proofs.lemmas.Grind.{common_steps}
use Rattle.std.specs.Prelude.{◌&&◌, ◌||◌, cond, nat_eq, nat_lt, max}
use Rattle.jsx_base.specs.Token.{Text, same}
use Rattle.jsx_tree.specs.Scopes.{Sort, AsVar, AsParameter, AsFunction, AsLexical}
use Rattle.jsx_tree.specs.Clashes.{clash}
use Rattle.jsx_tree.proofs.Tokens.{and_left, and_right, same_is}
use Rattle.jsx_names.specs.Faults.{Extent, Noted, noted, meets, is_late}
use Rattle.jsx_names.specs.Tables.{stood, reached, standing, seen_by, clashes_here, tells_late}
use Rattle.jsx_names.specs.declared.seen.Seen.{Seen}

beyond : (p a b : ℕ) → nat_lt p (max a b) ≡ nat_lt p b || nat_lt p a
beyond p a b = grind (arith, common_steps)

-- the last part of a key's record
standing_end : (d : Bool) (r : Sort) (x : Seen) → (cond d (stood r x) x).last_end ≡ x.last_end
standing_end false r x = refl
standing_end true AsVar x = refl
standing_end true AsParameter x = refl
standing_end true AsFunction x = refl
standing_end true AsLexical x = refl

standing_var : (d : Bool) (r : Sort) (x : Seen) → (cond d (stood r x) x).last_var ≡ x.last_var
standing_var false r x = refl
standing_var true AsVar x = refl
standing_var true AsParameter x = refl
standing_var true AsFunction x = refl
standing_var true AsLexical x = refl

abbrev is_var : Sort → Bool
is_var AsVar = true
is_var s = false

absurd : {X : Type 0} → true ≡ false → X
absurd e = cc

clear : (c : Bool) (w : Bool) (s : Sort) (e : ℕ) (x : Seen) → clashes_here w s (cond c (record x { last_end = e }) x) ≡ clashes_here w s x
clear true w s e x = refl
clear false w s e x = refl

going_here : (d : Bool) (r : Sort) (i : ℕ) (n : Extent) (w : Bool) (s : Sort) (x : Seen) → clashes_here w s (cond d (reached r i n x) x) ≡ clashes_here w s x
going_here false r i n w s x = refl
going_here true AsVar i n w s x = refl
going_here true AsParameter i n w s x = clear (clash n.wide AsParameter AsVar) w s (max x.last_end n.end') x
going_here true AsFunction i n w s x = clear (clash n.wide AsFunction AsVar) w s (max x.last_end n.end') x
going_here true AsLexical i n w s x = clear (clash n.wide AsLexical AsVar) w s (max x.last_end n.end') x

clear_var : (c : Bool) (e : ℕ) (x : Seen) → (cond c (record x { last_end = e }) x).last_var ≡ x.last_var
clear_var true e x = refl
clear_var false e x = refl

and_true : (a b : Bool) → (a && true) || b ≡ a || b
and_true true b = refl
and_true false b = refl

and_false : (a b : Bool) → (a && false) || b ≡ b
and_false true b = refl
and_false false b = refl

-- a `var` behind others
end_step : (b h c : Bool) (i e : ℕ) (x : Seen) → (b && (h && (nat_lt i e && c))) || nat_lt i x.last_end ≡ nat_lt i (cond (h && b) (cond c (record x { last_end = max x.last_end e }) x) x).last_end
end_step true true true i e x = and_true (nat_lt i e) (nat_lt i x.last_end) ∙ sym (beyond i x.last_end e)
end_step true true false i e x = and_false (nat_lt i e) (nat_lt i x.last_end)
end_step true false c i e x = refl
end_step false true c i e x = refl
end_step false false c i e x = refl

-- another declaration behind a `var`
spread : (a c o z : Bool) → (a && c) || (o || (z && c)) ≡ o || ((a || z) && c)
spread true true true z = refl
spread true true false z = refl
spread true false true z = refl
spread true false false true = refl
spread true false false false = refl
spread false c o z = refl

var_step : (b h c o : Bool) (p at : ℕ) (x : Seen) → (b && (h && (nat_lt p at && c))) || (o || (nat_lt p x.last_var && c)) ≡ o || (nat_lt p (cond (h && b) (record x { last_var = max x.last_var at }) x).last_var && c)
var_step true true c o p at x = spread (nat_lt p at) c o (nat_lt p x.last_var) ∙ ap (λ z. o || (z && c)) (sym (beyond p x.last_var at))
var_step true false c o p at x = refl
var_step false true c o p at x = refl
var_step false false c o p at x = refl

-- behind another in the same scope
first_flag : (c p y v : Bool) → c || (((p && c) || y) || v) ≡ (c || y) || v
first_flag true p y v = refl
first_flag false true y v = refl
first_flag false false y v = refl

mid_flag : (c a f l v : Bool) → c || ((a || ((f && c) || l)) || v) ≡ (a || (c || l)) || v
mid_flag true true f l v = refl
mid_flag true false f l v = refl
mid_flag false a true l v = refl
mid_flag false a false l v = refl

last_flag : (c a f l v : Bool) → c || ((a || (f || (l && c))) || v) ≡ (a || (f || c)) || v
last_flag true true f l v = refl
last_flag true false true l v = refl
last_flag true false false l v = refl
last_flag false a f true v = refl
last_flag false a f false v = refl

here_step : (b g w : Bool) (r s : Sort) (y : Seen) (v : Bool) → is_var r ≡ false → (b && (g && clash w r s)) || (clashes_here w s y || v) ≡ clashes_here w s (cond (g && b) (stood r y) y) || v
here_step true true w AsParameter s y v e = first_flag (clash w AsParameter s) y.parameter ((y.function && clash w AsFunction s) || (y.lexical && clash w AsLexical s)) v
here_step true true w AsFunction s y v e = mid_flag (clash w AsFunction s) (y.parameter && clash w AsParameter s) y.function (y.lexical && clash w AsLexical s) v
here_step true true w AsLexical s y v e = last_flag (clash w AsLexical s) (y.parameter && clash w AsParameter s) (y.function && clash w AsFunction s) y.lexical v
here_step true true w AsVar s y v e = absurd e
here_step true false w r s y v e = refl
here_step false true w r s y v e = refl
here_step false false w r s y v e = refl

standing_here : (d w : Bool) (s : Sort) (y : Seen) → clashes_here w s (cond d y y) ≡ clashes_here w s y
standing_here true w s y = refl
standing_here false w s y = refl

-- what is kept of a last `var` is that of declarations by `var`
going_var : (d : Bool) (r : Sort) (i : ℕ) (n : Extent) (x : Seen) → is_var r ≡ false → (cond d (reached r i n x) x).last_var ≡ x.last_var
going_var false r i n x e = refl
going_var true AsVar i n x e = absurd e
going_var true AsParameter i n x e = clear_var (clash n.wide AsParameter AsVar) (max x.last_end n.end') x
going_var true AsFunction i n x e = clear_var (clash n.wide AsFunction AsVar) (max x.last_end n.end') x
going_var true AsLexical i n x e = clear_var (clash n.wide AsLexical AsVar) (max x.last_end n.end') x

two_vars : (b d : Bool) (i m : ℕ) (z : Seen) → (b && false) || nat_lt i z.last_end ≡ nat_lt i (cond d (record z { last_var = m }) z).last_end
two_vars true true i m z = refl
two_vars true false i m z = refl
two_vars false true i m z = refl
two_vars false false i m z = refl

going_end : (r : Sort) (b : Bool) (k : Noted) (i : ℕ) (n : Extent) (z : Seen) → (b && meets r AsVar k i n) || nat_lt i z.last_end ≡ nat_lt i (cond (nat_eq k.scope.home n.home && b) (reached r k.at k.scope z) z).last_end
going_end AsVar b k i n z = two_vars b (nat_eq k.scope.home n.home && b) i (max z.last_var k.at) z
going_end AsParameter b k i n z = end_step b (nat_eq k.scope.home n.home) (clash k.scope.wide AsParameter AsVar) i k.scope.end' z
going_end AsFunction b k i n z = end_step b (nat_eq k.scope.home n.home) (clash k.scope.wide AsFunction AsVar) i k.scope.end' z
going_end AsLexical b k i n z = end_step b (nat_eq k.scope.home n.home) (clash k.scope.wide AsLexical AsVar) i k.scope.end' z

-- a declaration that isn't by `var`, behind a `var`
behind_var : (b h c d1 d2 d3 : Bool) (p at : ℕ) (m : Extent) (w : Bool) (s : Sort) (y x : Seen) →
    (b && (h && (nat_lt p at && c))) || (clashes_here w s y || (nat_lt p x.last_var && c))
    ≡ clashes_here w s (cond d1 (reached AsVar at m (cond d2 y y)) (cond d2 y y)) || (nat_lt p (cond (h && b) (reached AsVar at m (cond d3 x x)) (cond d3 x x)).last_var && c)
behind_var b h c d1 d2 d3 p at m w s y x =
    ap (λ z. (b && (h && (nat_lt p at && c))) || (clashes_here w s y || (nat_lt p z && c))) (sym (standing_var d3 AsVar x))
    ∙ (var_step b h c (clashes_here w s y) p at (cond d3 x x)
    ∙ ap (λ z. z || (nat_lt p (cond (h && b) (reached AsVar at m (cond d3 x x)) (cond d3 x x)).last_var && c)) (sym (going_here d1 AsVar at m w s (cond d2 y y) ∙ standing_here d2 w s y)))

-- behind another that isn't by `var`
behind_other : (b g c d1 d2 d3 : Bool) (p at : ℕ) (m : Extent) (w : Bool) (r s : Sort) (y x : Seen) → is_var r ≡ false →
    (b && (g && clash w r s)) || (clashes_here w s y || (nat_lt p x.last_var && c))
    ≡ clashes_here w s (cond d1 (reached r at m (cond (g && b) (stood r y) y)) (cond (g && b) (stood r y) y)) || (nat_lt p (cond d2 (reached r at m (cond d3 (stood r x) x)) (cond d3 (stood r x) x)).last_var && c)
behind_other b g c d1 d2 d3 p at m w r s y x e =
    here_step b g w r s y (nat_lt p x.last_var && c) e
    ∙ (ap (λ z. z || (nat_lt p x.last_var && c)) (sym (going_here d1 r at m w s (cond (g && b) (stood r y) y)))
    ∙ ap (λ z. clashes_here w s (cond d1 (reached r at m (cond (g && b) (stood r y) y)) (cond (g && b) (stood r y) y)) || (nat_lt p z && c)) (sym (going_var d2 r at m (cond d3 (stood r x) x) e ∙ standing_var d3 r x)))

-- one declaration more
late_by : (s r : Sort) (b : Bool) (k : Noted) (d1 d2 d3 : Bool) (i : ℕ) (n : Extent) (y x : Seen) →
    (b && meets r s k i n) || tells_late y x s i n
    ≡ tells_late (cond d1 (reached r k.at k.scope (cond (nat_eq k.scope.begin n.begin && b) (stood r y) y)) (cond (nat_eq k.scope.begin n.begin && b) (stood r y) y)) (cond (nat_eq k.scope.home n.home && b) (reached r k.at k.scope (cond d3 (stood r x) x)) (cond d3 (stood r x) x)) s i n
late_by AsVar r b k d1 d2 d3 i n y x = ap (λ z. (b && meets r AsVar k i n) || nat_lt i z) (sym (standing_end d3 r x)) ∙ going_end r b k i n (cond d3 (stood r x) x)
late_by AsParameter AsVar b k d1 d2 d3 i n y x = behind_var b (nat_eq k.scope.home n.home) (clash n.wide AsVar AsParameter) d1 (nat_eq k.scope.begin n.begin && b) d3 n.begin k.at k.scope n.wide AsParameter y x
late_by AsParameter AsParameter b k d1 d2 d3 i n y x = behind_other b (nat_eq k.scope.begin n.begin) (clash n.wide AsVar AsParameter) d1 (nat_eq k.scope.home n.home && b) d3 n.begin k.at k.scope n.wide AsParameter AsParameter y x refl
late_by AsParameter AsFunction b k d1 d2 d3 i n y x = behind_other b (nat_eq k.scope.begin n.begin) (clash n.wide AsVar AsParameter) d1 (nat_eq k.scope.home n.home && b) d3 n.begin k.at k.scope n.wide AsFunction AsParameter y x refl
late_by AsParameter AsLexical b k d1 d2 d3 i n y x = behind_other b (nat_eq k.scope.begin n.begin) (clash n.wide AsVar AsParameter) d1 (nat_eq k.scope.home n.home && b) d3 n.begin k.at k.scope n.wide AsLexical AsParameter y x refl
late_by AsFunction AsVar b k d1 d2 d3 i n y x = behind_var b (nat_eq k.scope.home n.home) (clash n.wide AsVar AsFunction) d1 (nat_eq k.scope.begin n.begin && b) d3 n.begin k.at k.scope n.wide AsFunction y x
late_by AsFunction AsParameter b k d1 d2 d3 i n y x = behind_other b (nat_eq k.scope.begin n.begin) (clash n.wide AsVar AsFunction) d1 (nat_eq k.scope.home n.home && b) d3 n.begin k.at k.scope n.wide AsParameter AsFunction y x refl
late_by AsFunction AsFunction b k d1 d2 d3 i n y x = behind_other b (nat_eq k.scope.begin n.begin) (clash n.wide AsVar AsFunction) d1 (nat_eq k.scope.home n.home && b) d3 n.begin k.at k.scope n.wide AsFunction AsFunction y x refl
late_by AsFunction AsLexical b k d1 d2 d3 i n y x = behind_other b (nat_eq k.scope.begin n.begin) (clash n.wide AsVar AsFunction) d1 (nat_eq k.scope.home n.home && b) d3 n.begin k.at k.scope n.wide AsLexical AsFunction y x refl
late_by AsLexical AsVar b k d1 d2 d3 i n y x = behind_var b (nat_eq k.scope.home n.home) (clash n.wide AsVar AsLexical) d1 (nat_eq k.scope.begin n.begin && b) d3 n.begin k.at k.scope n.wide AsLexical y x
late_by AsLexical AsParameter b k d1 d2 d3 i n y x = behind_other b (nat_eq k.scope.begin n.begin) (clash n.wide AsVar AsLexical) d1 (nat_eq k.scope.home n.home && b) d3 n.begin k.at k.scope n.wide AsParameter AsLexical y x refl
late_by AsLexical AsFunction b k d1 d2 d3 i n y x = behind_other b (nat_eq k.scope.begin n.begin) (clash n.wide AsVar AsLexical) d1 (nat_eq k.scope.home n.home && b) d3 n.begin k.at k.scope n.wide AsFunction AsLexical y x refl
late_by AsLexical AsLexical b k d1 d2 d3 i n y x = behind_other b (nat_eq k.scope.begin n.begin) (clash n.wide AsVar AsLexical) d1 (nat_eq k.scope.home n.home && b) d3 n.begin k.at k.scope n.wide AsLexical AsLexical y x refl

none_below : (i : ℕ) → nat_lt i 0 ≡ false
none_below i = grind arith

pub late_seen : (s : Sort) (t : Text) (i : ℕ) (n : Extent) (ks : List Noted) → is_late s t i n ks ≡ tells_late (seen_by n.begin t ks) (seen_by n.home t ks) s i n
late_seen AsVar t i n [] = sym (none_below i)
late_seen AsParameter t i n [] = sym (ap (λ z. z && clash n.wide AsVar AsParameter) (none_below n.begin))
late_seen AsFunction t i n [] = sym (ap (λ z. z && clash n.wide AsVar AsFunction) (none_below n.begin))
late_seen AsLexical t i n [] = sym (ap (λ z. z && clash n.wide AsVar AsLexical) (none_below n.begin))
late_seen s t i n (k ∷ ks) = ap (λ z. (same t k.name && meets k.sort s k i n) || z) (late_seen s t i n ks)
    ∙ late_by s k.sort (same t k.name) k (nat_eq k.scope.home n.begin && same t k.name) false (nat_eq k.scope.begin n.home && same t k.name) i n (seen_by n.begin t ks) (seen_by n.home t ks)

number_is : (a n : ℕ) → nat_eq a n ≡ true → a ≡ n
number_is a n e = grind arith

key_is : (a n : ℕ) (t u : Text) (f : ℕ → Text → Seen) → nat_eq a n && same t u ≡ true → f a u ≡ f n t
key_is a n t u f e = ap (λ z. f z u) (number_is a n (and_left _ _ e)) ∙ ap (f n) (sym (same_is t u (and_right _ _ e)))

-- what is set at a key, of what stood there
at_key : (d : Bool) (a n : ℕ) (t u : Text) (f : ℕ → Text → Seen) (g : Seen → Seen) (z : Seen) → nat_eq a n && same t u ≡ d → cond d (g (f a u)) z ≡ cond d (g (f n t)) z
at_key false a n t u f g z e = refl
at_key true a n t u f g z e = ap g (key_is a n t u f e)

pub stood_once : (s : Sort) (t : Text) (i : ℕ) (m : Extent) (ks : List Noted) (n : ℕ) (u : Text) (x y : Seen) →
    x ≡ stood s (seen_by m.begin t ks) → y ≡ seen_by n u ks → cond (nat_eq m.begin n && same u t) x y ≡ standing n u (noted s t i m) (seen_by n u ks)
stood_once s t i m ks n u x y e f =
    ap (λ z. cond (nat_eq m.begin n && same u t) z y) e
    ∙ (ap (λ z. cond (nat_eq m.begin n && same u t) (stood s (seen_by m.begin t ks)) z) f
    ∙ at_key (nat_eq m.begin n && same u t) m.begin n u t (λ a v. seen_by a v ks) (stood s) (seen_by n u ks) refl)

pub reached_once : (s : Sort) (t : Text) (i : ℕ) (m : Extent) (ks : List Noted) (n : ℕ) (u : Text) (x y : Seen) →
    x ≡ reached s i m (standing m.home t (noted s t i m) (seen_by m.home t ks)) → y ≡ standing n u (noted s t i m) (seen_by n u ks) →
    cond (nat_eq m.home n && same u t) x y ≡ seen_by n u (noted s t i m ∷ ks)
reached_once s t i m ks n u x y e f =
    ap (λ z. cond (nat_eq m.home n && same u t) z y) e
    ∙ (ap (λ z. cond (nat_eq m.home n && same u t) (reached s i m (standing m.home t (noted s t i m) (seen_by m.home t ks))) z) f
    ∙ at_key (nat_eq m.home n && same u t) m.home n u t (λ a v. standing a v (noted s t i m) (seen_by a v ks)) (reached s i m) (standing n u (noted s t i m) (seen_by n u ks)) refl)
