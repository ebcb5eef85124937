-- Where a row goes on, its part has come to its end.
use Rattle.std.proofs.Common.{◌≡◌, ℕ, nat_eq, nat_le, Bool, true, false, not, cond, List, [], ◌∷◌, refl, sym, ◌∙◌, ap}
use Rattle.std.specs.Prelude.{IsTrue, codes, Option, Some, None, ◌&&◌, ◌||◌}
use Rattle.jsx_base.specs.Token.{Text, Operator, TokenKind, Punctuator, Lexeme, is_token, is_end, breaks, token, no_token, same, among, skip, at_front}
use Rattle.jsx_tree.specs.Signs.{Ending, AfterExpr, AfterBlock, AfterWord, AfterList, AfterBinding, AfterKey, AfterDo, Sign, Tok, Semicolon, Unless, SameLine}
use Rattle.jsx_tree.specs.Nonterminals.{Nonterminal}
use Rattle.jsx_tree.specs.Reading.{Place, Lost, At, forth, is_backquote, going_on, continues, is_do, may_lack}
use Rattle.jsx_tree.proofs.Tokens.{and_left, and_right, same_is}
use Rattle.jsx_tree.proofs.Signs.{not_first}
use Rattle.jsx_tree.specs.Walk.{is_found}
use Rattle.jsx_tree.specs.Stops.{going, quotes, goes_on, goes, level_asked, stops}

-- ---- truth

pub or_cases : (a b : Bool) {A : Type 0} → (a || b) ≡ true → (a ≡ true → A) → (b ≡ true → A) → A
or_cases true b e f g = f refl
or_cases false b e f g = g e

no_or : (a b : Bool) → a ≡ false → b ≡ false → (a || b) ≡ false
no_or a b e f = (λ i. e i || f i)

pub is_not : (b : Bool) → not b ≡ true → b ≡ false
is_not true e = cc
is_not false e = refl

pub not_is : (b : Bool) → b ≡ false → not b ≡ true
not_is b e = ap not e

no_and : (a b : Bool) → a ≡ false → (a && b) ≡ false
no_and a b e = ap (λ c. c && b) e

pub found_if : (b : Bool) (x : Place) → IsTrue (is_found (cond b x Lost)) → b ≡ true
found_if true x f = refl
found_if false x f = cc

-- ---- a token that goes on with nothing

-- nothing goes on with what is read to an end by itself
abbrev pub is_never : Nonterminal → Bool
is_never c = elim (level_asked c) as (λ x. Bool) [ Some n ↦ false | None ↦ true ]

abbrev pub deaf : Option ℕ → Text → Bool
deaf None t = true
deaf (Some n) t = not (among t (going n)) && (not (quotes n && is_backquote t) && (not (nat_le n 16 && among t (codes "++" ∷ codes "--" ∷ [])) && not (nat_eq n 0 && same t (codes ","))))

no_marks : (a b c : Bool) → (a && c) ≡ false → (a && (b && c)) ≡ false
no_marks true true c e = e
no_marks true false c e = refl
no_marks false b c e = refl

deaf_on : (n : ℕ) (b : Bool) (t : Text) → deaf (Some n) t ≡ true → goes_on n b t ≡ false
deaf_on n b t d =
    let m = among t (codes "++" ∷ codes "--" ∷ []) in
    let d1 = and_right (not (among t (going n))) _ d in
    let d2 = and_right (not (quotes n && is_backquote t)) _ d1 in
    no_or _ _ (is_not _ (and_left _ _ d)) (no_or _ _ (is_not _ (and_left _ _ d1)) (no_marks (nat_le n 16) (not b) m (is_not _ (and_left (not (nat_le n 16 && m)) _ d2))))

deaf_goes : (l : Option ℕ) (e : Ending) (b : Bool) (t : Text) → deaf l t ≡ true → goes l e b t ≡ false
deaf_goes None e b t d = refl
deaf_goes (Some n) AfterExpr b t d = deaf_on n b t d
deaf_goes (Some n) AfterBlock b t d =
    let d1 = and_right (not (among t (going n))) _ d in
    let d2 = and_right (not (quotes n && is_backquote t)) _ d1 in
    is_not _ (and_right (not (nat_le n 16 && among t (codes "++" ∷ codes "--" ∷ []))) _ d2)
deaf_goes (Some n) AfterWord b t d = refl
deaf_goes (Some n) AfterList b t d = refl
deaf_goes (Some n) AfterBinding b t d = no_and (among t (going n)) (same t (codes "=")) (is_not _ (and_left _ _ d))
deaf_goes (Some n) AfterKey b t d = refl
deaf_goes (Some n) AfterDo b t d = refl

pub raw_of : (k : TokenKind) (t : Text) (x : Lexeme) → is_token x k t ≡ true → x.raw ≡ t
raw_of k t x e = same_is x.raw t (and_right _ _ e)

and_false : (a : Bool) → (a && false) ≡ false
and_false true = refl
and_false false = refl

no_kind : (k : TokenKind) (d : ℕ) (t s : Text) → is_token (no_token s) k (d ∷ t) ≡ false
no_kind k d t s = and_false _

pub raw_there : (k : TokenKind) (d : ℕ) (t q text : Text) → is_token (token Operator (same q []) text) k (d ∷ t) ≡ true → (token Operator false text).raw ≡ d ∷ t
raw_there k d t q text h = ap (λ x. x.raw) (not_first (λ x. is_token x k (d ∷ t)) (no_kind k d t) (same q []) text h) ∙ raw_of k (d ∷ t) (token Operator (same q []) text) h

pub stops_at : (c : Nonterminal) (q : Text) (e : Ending) (text t : Text) → (token Operator false text).raw ≡ t → deaf (level_asked c) t ≡ true → stops c (At q e text) ≡ true
stops_at c q e text t raw d = not_is _ (ap (goes (level_asked c) e (breaks text)) raw ∙ deaf_goes (level_asked c) e (breaks text) t d)

-- a token of code that is there, and with which nothing goes on
pub token_stops : (c : Nonterminal) (k : TokenKind) (d : ℕ) (t : Text) (y : Place) → deaf (level_asked c) (d ∷ t) ≡ true → IsTrue (is_found (forth (Tok Operator k (d ∷ t)) y)) → stops c y ≡ true
token_stops c k d t Lost l f = refl
token_stops c k d t (At q e text) l f = stops_at c q e text (d ∷ t) (raw_there k d t q text (found_if _ (At (d ∷ t) AfterExpr (token Operator (same q []) text).rest) f)) l

-- ---- a semicolon, or where one is missing

abbrev pub subset : List Text → List Text → Bool
subset [] us = true
subset (t ∷ ts) us = among t us && subset ts us

among_same : (x t : Text) (us : List Text) → same x t ≡ true → among x us ≡ among t us
among_same x t us e = ap (λ y. among y us) (same_is x t e)

pub not_among : (x : Text) (ts us : List Text) → subset ts us ≡ true → among x us ≡ false → among x ts ≡ false
not_among x [] us e f = refl
not_among x (t ∷ ts) us e f = no_or (same x t) (among x ts) (neither (same x t) refl) (not_among x ts us (and_right (among t us) _ e) f)
  where
    neither : (b : Bool) → same x t ≡ b → same x t ≡ false
    neither true h = let bad : true ≡ false = sym (and_left (among t us) _ e) ∙ (sym (among_same x t us h) ∙ f) in cc
    neither false h = h

-- whether a semicolon, and where one is missing, is told from what goes on
abbrev pub ends_at_semicolon : Option ℕ → Bool
ends_at_semicolon None = true
ends_at_semicolon (Some n) = deaf (Some n) (codes ";") && (deaf (Some n) (codes "}") && (deaf (Some n) [] && subset (going n) going_on))

no_first : (a b : Bool) → (a || b) ≡ false → a ≡ false
no_first true b e = cc
no_first false b e = refl

line_stops : (n : ℕ) (e : Ending) (q t : Text) → subset (going n) going_on ≡ true → continues e q t ≡ false → goes (Some n) e true t ≡ false
line_stops n AfterExpr q t s f =
    let a = no_or_left (among t going_on) (is_backquote t) f in
    no_or _ _ (not_among t (going n) going_on s a.0) (no_or _ _ (ap (λ b. quotes n && b) a.1 ∙ and_false _) (and_false _))
  where
    no_or_left : (a b : Bool) → (a || b) ≡ false → (a ≡ false) × (b ≡ false)
    no_or_left true b e = cc
    no_or_left false b e = (refl, e)
line_stops n AfterBlock q t s f = ap (λ b. nat_eq n 0 && b) f ∙ and_false _
line_stops n AfterWord q t s f = refl
line_stops n AfterList q t s f = refl
line_stops n AfterBinding q t s f = ap (λ b. among t (going n) && b) (no_first (same t (codes "=")) _ f) ∙ and_false _
line_stops n AfterKey q t s f = refl
line_stops n AfterDo q t s f = refl

end_raw : (text : Text) → is_end text ≡ true → (token Operator false text).raw ≡ []
end_raw text e = ap (λ s. (at_front Operator (breaks text) s).raw) (same_is (skip text) [] (and_left (same (skip text) []) _ e))

do_stops : (n : ℕ) (e : Ending) (b : Bool) (t : Text) → is_do e ≡ true → goes (Some n) e b t ≡ false
do_stops n AfterDo b t h = refl
do_stops n AfterExpr b t h = cc
do_stops n AfterBlock b t h = cc
do_stops n AfterWord b t h = cc
do_stops n AfterList b t h = cc
do_stops n AfterBinding b t h = cc
do_stops n AfterKey b t h = cc

lack_stops : (n : ℕ) (q : Text) (e : Ending) (text : Text) → ends_at_semicolon (Some n) ≡ true → may_lack e q text ≡ true → goes (Some n) e (breaks text) (token Operator false text).raw ≡ false
lack_stops n q e text s l =
    let raw = (token Operator false text).raw in
    let s1 = and_right (deaf (Some n) (codes ";")) _ s in
    let s2 = and_right (deaf (Some n) (codes "}")) _ s1 in
    let on_line = breaks text && not (continues e q raw) in
    let ends = is_do e || is_end text in
    or_cases (ends || same raw (codes "}")) on_line (and_right (not (same raw (codes ";"))) ((ends || same raw (codes "}")) || on_line) l)
    (λ r. or_cases ends (same raw (codes "}")) r
    (λ r. or_cases (is_do e) (is_end text) r (λ h. do_stops n e (breaks text) raw h) (λ h. ap (goes (Some n) e (breaks text)) (end_raw text h) ∙ deaf_goes (Some n) e (breaks text) [] (and_left (deaf (Some n) []) _ s2)))
    (λ h. ap (goes (Some n) e (breaks text)) (same_is raw (codes "}") h) ∙ deaf_goes (Some n) e (breaks text) (codes "}") (and_left (deaf (Some n) (codes "}")) _ s1)))
    (λ r. ap (λ b. goes (Some n) e b raw) (and_left (breaks text) (not (continues e q raw)) r) ∙ line_stops n e q raw (and_right (deaf (Some n) []) _ s2) (is_not _ (and_right (breaks text) (not (continues e q raw)) r)))

pub semi_cases : (b l : Bool) (x y : Place) {A : Type 0} → IsTrue (is_found (cond b x (cond l y Lost))) → (b ≡ true → A) → (l ≡ true → A) → A
semi_cases true l x y f g h = g refl
semi_cases false true x y f g h = h refl
semi_cases false false x y f g h = cc

level_stops : (l : Option ℕ) (q : Text) (e : Ending) (text : Text) → ends_at_semicolon l ≡ true → IsTrue (is_found (forth Semicolon (At q e text))) → goes l e (breaks text) (token Operator false text).raw ≡ false
level_stops None q e text s f = refl
level_stops (Some n) q e text s f =
    let x = token Operator false text in
    semi_cases (is_token x Punctuator (codes ";")) (may_lack e q text) (At (codes ";") AfterExpr x.rest) (At q e text) f
    (λ h. ap (goes (Some n) e (breaks text)) (raw_of Punctuator (codes ";") x h) ∙ deaf_goes (Some n) e (breaks text) (codes ";") (and_left (deaf (Some n) (codes ";")) _ s)) (λ l. lack_stops n q e text s l)

semicolon_stops : (c : Nonterminal) (y : Place) → ends_at_semicolon (level_asked c) ≡ true → IsTrue (is_found (forth Semicolon y)) → stops c y ≡ true
semicolon_stops c Lost s f = refl
semicolon_stops c (At q e text) s f = not_is _ (level_stops (level_asked c) q e text s f)

-- ---- the rows in which each part is followed by what stops it

-- what the first level goes on with, the second does as well
abbrev pub covers : Option ℕ → Option ℕ → Bool
covers o None = true
covers None (Some n) = false
covers (Some m) (Some n) = subset (going n) (going m) && ((not (quotes n) || quotes m) && ((not (nat_le n 16) || nat_le m 16) && (not (nat_eq n 0) || nat_eq m 0)))

abbrev pub heeds : Nonterminal → Sign → Bool
heeds c (Tok Operator k (d ∷ t)) = deaf (level_asked c) (d ∷ t)
heeds c Semicolon = ends_at_semicolon (level_asked c)
heeds c s = is_never c

abbrev pub is_still : Sign → Bool
is_still (Unless ts) = true
is_still SameLine = true
is_still s = false

pub never_stops : (c : Nonterminal) (y : Place) → is_never c ≡ true → stops c y ≡ true
never_stops c Lost n = refl
never_stops c (At q e text) n = none_goes (level_asked c) n
  where
    none_goes : (l : Option ℕ) → elim l as (λ x. Bool) [ Some n ↦ false | None ↦ true ] ≡ true → not (goes l e (breaks text) (token Operator false text).raw) ≡ true
    none_goes None n = refl
    none_goes (Some m) n = cc

pub sign_stops : (c : Nonterminal) (s : Sign) (y : Place) → heeds c s ≡ true → IsTrue (is_found (forth s y)) → stops c y ≡ true
sign_stops c (Tok Operator k (d ∷ t)) y h f = token_stops c k d t y h f
sign_stops c Semicolon y h f = semicolon_stops c y h f
sign_stops c (Tok Operator k []) y h f = never_stops c y h
sign_stops c (Tok m k t) y h f = never_stops c y h
sign_stops c _ y h f = never_stops c y h

pub stays : (s : Sign) (y : Place) → is_still s ≡ true → IsTrue (is_found (forth s y)) → forth s y ≡ y
stays (Unless ts) Lost h f = refl
stays SameLine Lost h f = refl
stays (Unless ts) (At q e text) h f = ap (λ b. cond b (At q e text) Lost) (found_if _ (At q e text) f)
stays SameLine (At q e text) h f = ap (λ b. cond b (At q e text) Lost) (found_if _ (At q e text) f)
stays Semicolon y h f = cc
stays _ y h f = cc

implied : (a b x : Bool) → (not a || b) ≡ true → (b && x) ≡ false → (a && x) ≡ false
implied true true x i e = e
implied true false x i e = cc
implied false b x i e = refl

halves : (a b : Bool) → (a || b) ≡ false → (a ≡ false) × (b ≡ false)
halves true b e = cc
halves false b e = (refl, e)

on_covers : (m n : ℕ) (b : Bool) (t : Text) → covers (Some m) (Some n) ≡ true → goes_on m b t ≡ false → goes_on n b t ≡ false
on_covers m n b t c e =
    let marks = among t (codes "++" ∷ codes "--" ∷ []) in
    let e1 = halves (among t (going m)) ((quotes m && is_backquote t) || (nat_le m 16 && (not b && marks))) e in
    let e2 = halves (quotes m && is_backquote t) (nat_le m 16 && (not b && marks)) e1.1 in
    let c1 = and_right (subset (going n) (going m)) _ c in
    let c2 = and_right (not (quotes n) || quotes m) _ c1 in
    no_or _ _ (not_among t (going n) (going m) (and_left (subset (going n) (going m)) _ c) e1.0) (no_or _ _ (implied (quotes n) (quotes m) _ (and_left (not (quotes n) || quotes m) _ c1) e2.0) (implied (nat_le n 16) (nat_le m 16) _ (and_left (not (nat_le n 16) || nat_le m 16) _ c2) e2.1))

pub smaller : (a b c : Bool) → (b ≡ false → a ≡ false) → (b && c) ≡ false → (a && c) ≡ false
smaller true true c f e = e
smaller true false c f e = let bad : true ≡ false = f refl in cc
smaller false b c f e = refl

goes_covers : (k l : Option ℕ) (e : Ending) (b : Bool) (t : Text) → covers k l ≡ true → goes k e b t ≡ false → goes l e b t ≡ false
goes_covers k None e b t c f = refl
goes_covers None (Some n) e b t c f = cc
goes_covers (Some m) (Some n) AfterExpr b t c f = on_covers m n b t c f
goes_covers (Some m) (Some n) AfterBlock b t c f =
    let c1 = and_right (subset (going n) (going m)) _ c in
    let c2 = and_right (not (quotes n) || quotes m) _ c1 in
    implied (nat_eq n 0) (nat_eq m 0) _ (and_right (not (nat_le n 16) || nat_le m 16) _ c2) f
goes_covers (Some m) (Some n) AfterBinding b t c f = smaller (among t (going n)) (among t (going m)) _ (not_among t (going n) (going m) (and_left (subset (going n) (going m)) _ c)) f
goes_covers (Some m) (Some n) _ b t c f = refl

pub covered_stops : (o c : Nonterminal) (y : Place) → covers (level_asked o) (level_asked c) ≡ true → stops o y ≡ true → stops c y ≡ true
covered_stops o c Lost h s = refl
covered_stops o c (At q e text) h s = not_is _ (goes_covers (level_asked o) (level_asked c) e (breaks text) _ h (is_not _ s))
