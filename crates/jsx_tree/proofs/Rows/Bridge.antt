-- A walk along a row is what the definitions read, for every row.
use Rattle.std.proofs.Common.{◌≡◌, Bool, true, false, not, List, [], ◌∷◌, ◌++◌, refl, sym, ◌∙◌, ap, subst}
use Rattle.std.specs.Prelude.{IsTrue, ◌&&◌, ◌||◌}
use Rattle.jsx_base.specs.Token.{Text, Punctuator}
use Rattle.jsx_tree.specs.Signs.{Sign, Tok, Semicolon, TrailingComma, Unless, SameLine, Ends}
use Rattle.jsx_tree.specs.Kinds.{Kind, Tree, leaf, node, list, Forest, none, part}
use Rattle.jsx_tree.specs.Nonterminals.{Nonterminal}
use Rattle.jsx_tree.specs.Grammar.{ListShape, Lines, Spaced, Commas, Symbol, Fixed, Part, Optional, Many, Within, Context, Production, production}
use Rattle.jsx_tree.specs.Form.{Single, Maybe, Several, slots, positions, inside, is_piece, enough, last_only, is_last, admits, shaped, fits_below, fit_slots, fit_each, is}
use Rattle.jsx_tree.specs.Spelling.{among_text, walk, maybe, gathered, before, between, behind, joined, saids, each_said, spelled}
use Rattle.jsx_tree.specs.Reading.{Place, Lost, At, forth, scan}
use Rattle.jsx_tree.proofs.Laws.{scan_append, scan_lost}
use Rattle.jsx_tree.proofs.Tokens.{and_left, and_right, and_both}
use Rattle.jsx_tree.specs.StaticRules.{Surroundings, enters, rule, stands, legal, legals, each_legal}
use Rattle.jsx_tree.specs.Walk.{is_found, heard, Piece, piece, pieces, in_text, row, is_text, front, IsRead, Given, nothing, one, with, Items, nil, last, more, Past, sign, tree, absent, present, many, within, Walk, done, next, around, IsNode}

-- ---- the form that a row asks, and the static rules of its parts, with no look at what stands round a part

abbrev pub symbols : List Piece → Production
symbols [] = []
symbols (piece a p ∷ ps) = p ∷ symbols ps

abbrev pub fits : List Piece → Forest → Bool
fits [] none = true
fits [] (part t ts) = false
fits (piece a (Fixed m) ∷ ps) ts = fits ps ts
fits (piece a (Within x) ∷ ps) ts = fits ps ts
fits (piece a p ∷ ps) none = false
fits (piece a (Part c) ∷ ps) (part t ts) = shaped Single c t && (fits_below c t && fits ps ts)
fits (piece a (Optional x c y r) ∷ ps) (part t ts) = shaped Maybe c t && (fits_below c t && fits ps ts)
fits (piece a (Many s c) ∷ ps) (part t ts) = shaped (Several s) c t && (fits_below c t && fits ps ts)

abbrev pub lawful : (List Context → Surroundings) → List Piece → Forest → Bool
lawful V [] ts = true
lawful V (piece a (Fixed m) ∷ ps) ts = lawful V ps ts
lawful V (piece a (Within x) ∷ ps) ts = lawful V ps ts
lawful V (piece a p ∷ ps) none = true
lawful V (piece a p ∷ ps) (part t ts) = legal (V a) t && lawful V ps ts

form_of : (g : List Text) (b : Bool) (a : List Context) (ps : Production) (ts : Forest) → fit_slots (slots g b a ps) ts ≡ fits (pieces a ps) ts
form_of g b a [] none = refl
form_of g b a [] (part t ts) = refl
form_of g b a (Fixed (Tok m Punctuator t) ∷ ps) ts = form_of [] (inside t b) a ps ts
form_of g b a (Fixed (Unless us) ∷ ps) ts = form_of us b a ps ts
form_of g b a (Fixed _ ∷ ps) ts = form_of g b a ps ts
form_of g b a (Within x ∷ ps) ts = form_of g b (x ∷ a) ps ts
form_of g b a (Part c ∷ ps) none = refl
form_of g b a (Optional x c y r ∷ ps) none = refl
form_of g b a (Many s c ∷ ps) none = refl
form_of g b a (Part c ∷ ps) (part t ts) = ap (λ v. shaped Single c t && (fits_below c t && v)) (form_of [] (b || is_piece c) a ps ts)
form_of g b a (Optional x c y r ∷ ps) (part t ts) = ap (λ v. shaped Maybe c t && (fits_below c t && v)) (form_of [] b a ps ts)
form_of g b a (Many s c ∷ ps) (part t ts) = ap (λ v. shaped (Several s) c t && (fits_below c t && v)) (form_of [] b a ps ts)

law_of : (all : Forest) (v : Surroundings) (g : List Text) (b : Bool) (a : List Context) (ps : Production) (ts : Forest) → legals all v (slots g b a ps) ts ≡ lawful (around v all) (pieces a ps) ts
law_of all v g b a [] ts = refl
law_of all v g b a (Fixed (Tok m Punctuator t) ∷ ps) ts = law_of all v [] (inside t b) a ps ts
law_of all v g b a (Fixed (Unless us) ∷ ps) ts = law_of all v us b a ps ts
law_of all v g b a (Fixed _ ∷ ps) ts = law_of all v g b a ps ts
law_of all v g b a (Within x ∷ ps) ts = law_of all v g b (x ∷ a) ps ts
law_of all v g b a (Part c ∷ ps) none = refl
law_of all v g b a (Optional x c y r ∷ ps) none = refl
law_of all v g b a (Many s c ∷ ps) none = refl
law_of all v g b a (Part c ∷ ps) (part t ts) = ap (λ w. legal (enters all a v) t && w) (law_of all v [] (b || is_piece c) a ps ts)
law_of all v g b a (Optional x c y r ∷ ps) (part t ts) = ap (λ w. legal (enters all a v) t && w) (law_of all v [] b a ps ts)
law_of all v g b a (Many s c ∷ ps) (part t ts) = ap (λ w. legal (enters all a v) t && w) (law_of all v [] b a ps ts)

-- ---- what isn't heard does nothing

pub scan_heard : (x : Place) (ms : List Sign) → scan x (heard ms) ≡ scan x ms
scan_heard x [] = refl
scan_heard x (Tok m k t ∷ ms) = scan_heard (forth (Tok m k t) x) ms
scan_heard x (Semicolon ∷ ms) = scan_heard (forth Semicolon x) ms
scan_heard x (TrailingComma ∷ ms) = scan_heard (forth TrailingComma x) ms
scan_heard x (Unless ts ∷ ms) = scan_heard (forth (Unless ts) x) ms
scan_heard x (SameLine ∷ ms) = scan_heard (forth SameLine x) ms
scan_heard x (Ends e ∷ ms) = scan_heard (forth (Ends e) x) ms
scan_heard x (_ ∷ ms) = scan_heard x ms

-- two lists of signs, the first of which another does as well
after : (x : Place) (ls ms ns os : List Sign) → scan x ls ≡ scan x ms → ((y : Place) → scan y ns ≡ scan y os) → scan x (ls ++ ns) ≡ scan x (ms ++ os)
after x ls ms ns os e f = scan_append x ls ns ∙ (ap (λ y. scan y ns) e ∙ (f (scan x ms) ∙ sym (scan_append x ms os)))

maybe_heard : (x : Place) (a b : List Sign) (r : List Text) (ys : List (List Sign)) → scan x (maybe (heard a) (heard b) r ys) ≡ scan x (maybe a b r ys)
maybe_heard x a b [] [] = refl
maybe_heard x a b (r ∷ rs) [] = refl
maybe_heard x a b [] (y ∷ ys) = after x (heard a) a (y ++ heard b) (y ++ b) (scan_heard x a) (λ z. after z y y (heard b) b refl (λ w. scan_heard w b))
maybe_heard x a b (r ∷ rs) (y ∷ ys) = after x (heard a) a (y ++ heard b) (y ++ b) (scan_heard x a) (λ z. after z y y (heard b) b refl (λ w. scan_heard w b))

scan_pieces : (a : List Context) (ps : Production) (xs : List (List (List Sign))) (x : Place) → scan x (walk (symbols (pieces a ps)) xs) ≡ scan x (walk ps xs)
scan_pieces a [] xs x = refl
scan_pieces a (Fixed (Tok m k t) ∷ ps) xs x = scan_pieces a ps xs (forth (Tok m k t) x)
scan_pieces a (Fixed Semicolon ∷ ps) xs x = scan_pieces a ps xs (forth Semicolon x)
scan_pieces a (Fixed TrailingComma ∷ ps) xs x = scan_pieces a ps xs (forth TrailingComma x)
scan_pieces a (Fixed (Unless ts) ∷ ps) xs x = scan_pieces a ps xs (forth (Unless ts) x)
scan_pieces a (Fixed SameLine ∷ ps) xs x = scan_pieces a ps xs (forth SameLine x)
scan_pieces a (Fixed (Ends e) ∷ ps) xs x = scan_pieces a ps xs (forth (Ends e) x)
scan_pieces a (Fixed _ ∷ ps) xs x = scan_pieces a ps xs x
scan_pieces a (Within d ∷ ps) xs x = scan_pieces (d ∷ a) ps xs x
scan_pieces a (Part c ∷ ps) [] x = refl
scan_pieces a (Optional d c b r ∷ ps) [] x = refl
scan_pieces a (Many s c ∷ ps) [] x = refl
scan_pieces a (Part c ∷ ps) (y ∷ ys) x = after x (joined y) (joined y) (walk (symbols (pieces a ps)) ys) (walk ps ys) refl (scan_pieces a ps ys)
scan_pieces a (Optional d c b r ∷ ps) (y ∷ ys) x = after x (maybe (heard d) (heard b) r y) (maybe d b r y) (walk (symbols (pieces a ps)) ys) (walk ps ys) (maybe_heard x d b r y) (scan_pieces a ps ys)
scan_pieces a (Many s c ∷ ps) (y ∷ ys) x = after x (gathered s y) (gathered s y) (walk (symbols (pieces a ps)) ys) (walk ps ys) refl (scan_pieces a ps ys)

-- ---- what is lost stays lost

pub found_first : (ms : List Sign) (x : Place) → IsTrue (is_found (scan x ms)) → IsTrue (is_found x)
found_first ms (At q e text) f = refl
found_first ms Lost f = subst (λ x. IsTrue (is_found x)) (scan_lost ms) f

pub found_at : {x y : Place} → x ≡ y → IsTrue (is_found y) → IsTrue (is_found x)
found_at e f = subst (λ p. IsTrue (is_found p)) (sym e) f

-- ---- the trees of a list

scan_before : (s : ListShape) (x : Place) (ms : List Sign) → scan x (before s ms) ≡ scan x (front (is_text s) ms)
scan_before Lines x ms = refl
scan_before Spaced x ms = refl
scan_before Commas x ms = refl
scan_before _ x ms = refl

scan_last : (s : ListShape) (x : Place) (ms : List Sign) → scan x (gathered s (ms ∷ [])) ≡ scan (scan x (front (is_text s) ms)) (behind s ms)
scan_last s x ms = scan_append x (before s ms) (behind s ms) ∙ ap (λ y. scan y (behind s ms)) (scan_before s x ms)

scan_more : (s : ListShape) (x : Place) (ms ns : List Sign) (os : List (List Sign)) → scan x (gathered s (ms ∷ ns ∷ os)) ≡ scan (scan (scan x (front (is_text s) ms)) (between s)) (gathered s (ns ∷ os))
scan_more s x ms ns os = scan_append x (before s ms) _ ∙ (ap (λ y. scan y (between s ++ gathered s (ns ∷ os))) (scan_before s x ms) ∙ scan_append _ (between s) _)

record Listed (v : Surroundings) (s : ListShape) (c : Nonterminal) (x : Place) (ts : Forest) (y : Place) : Type 0 where
  each : fit_each c ts ≡ true
  lasts : last_only ts ≡ true
  lawfully : each_legal v ts ≡ true
  scans : scan x (gathered s (each_said ts)) ≡ y
  found : IsTrue (is_found y)

is_false : (b : Bool) → not b ≡ true → b ≡ false
is_false true e = cc
is_false false e = refl

-- the two halves of `is`
at_home : (c : Nonterminal) (t : Tree) → is c t ≡ true → admits c t ≡ true
at_home c t e = and_left (admits c t) (fits_below c t) e

has_form : (c : Nonterminal) (t : Tree) → is c t ≡ true → fits_below c t ≡ true
has_form c t e = and_right (admits c t) (fits_below c t) e

listed : {v : Surroundings} {s : ListShape} {c : Nonterminal} {x y : Place} {ts : Forest} → Items IsRead v s c x ts y → Listed v s c x ts y
listed (nil f) = record { each = refl; lasts = refl; lawfully = refl; scans = refl; found = f }
listed {s = s} {c} {x} (last {t = t} r e f) = record {
  each = and_both _ _ (at_home c t r.is) (and_both _ _ (has_form c t r.is) refl);
  lasts = refl;
  lawfully = and_both _ _ r.is_legal refl;
  scans = scan_last s x (spelled t) ∙ (ap (λ y. scan y (behind s (spelled t))) r.scans ∙ e);
  found = f;
}
listed {s = s} {c} {x} (more {t = t} {u = u} {us = us} n r e all) =
    let l = listed all in
    record {
      each = and_both _ _ (at_home c t r.is) (and_both _ _ (has_form c t r.is) l.each);
      lasts = and_both _ _ (ap not n) l.lasts;
      lawfully = and_both _ _ r.is_legal l.lawfully;
      scans = scan_more s x (spelled t) (spelled u) (each_said us)
          ∙ (ap (λ y. scan (scan y (between s)) (gathered s (each_said (part u us)))) r.scans ∙ (ap (λ y. scan y (gathered s (each_said (part u us)))) e ∙ l.scans));
      found = l.found;
    }

read : {v : Surroundings} {b : Bool} {c : Nonterminal} {x : Place} (t : Tree) → admits c t ≡ true → fits_below c t ≡ true → legal v t ≡ true → IsTrue (is_found (scan x (front b (spelled t)))) → IsRead v b c x t (scan x (front b (spelled t)))
read t a h l f = record { is = and_both _ _ a h; is_legal = l; scans = refl; found = f }

item_last : {v : Surroundings} {s : ListShape} {c : Nonterminal} {x y : Place} (t : Tree) → Listed v s c x (part t none) y → Items IsRead v s c x (part t none) y
item_last {v} {s} {c} {x} t l =
    let e = sym (scan_last s x (spelled t)) ∙ l.scans in
    last (read t (and_left (admits c t) _ l.each) (and_left (fits_below c t) _ (and_right (admits c t) _ l.each)) (and_left (legal v t) _ l.lawfully) (found_first (behind s (spelled t)) _ (found_at e l.found))) e l.found

record Head (v : Surroundings) (s : ListShape) (c : Nonterminal) (x : Place) (t : Tree) (ts : Forest) (y : Place) : Type 0 where
  early : is_last t ≡ false
  place : Place
  first : IsRead v (is_text s) c x t place
  rest : Listed v s c (scan place (between s)) ts y

head : {v : Surroundings} {s : ListShape} {c : Nonterminal} {x y : Place} (t u : Tree) (us : Forest) → Listed v s c x (part t (part u us)) y → Head v s c x t (part u us) y
head {v} {s} {c} {x} t u us l =
    let e = sym (scan_more s x (spelled t) (spelled u) (each_said us)) ∙ l.scans in
    let f = found_first (between s) _ (found_first (gathered s (each_said (part u us))) _ (found_at e l.found)) in
    let below = and_right (admits c t) (fits_below c t && fit_each c (part u us)) l.each in
    record {
      early = is_false (is_last t) (and_left _ _ l.lasts);
      place = scan x (front (is_text s) (spelled t));
      first = read t (and_left (admits c t) _ l.each) (and_left (fits_below c t) _ below) (and_left (legal v t) _ l.lawfully) f;
      rest = record { each = and_right (fits_below c t) (fit_each c (part u us)) below; lasts = and_right (not (is_last t)) _ l.lasts; lawfully = and_right (legal v t) _ l.lawfully; scans = e; found = l.found };
    }

-- along a list, from what is said of the whole of it to the same of what is left
along : (P Q : Place → Forest → Type 0) → ((x : Place) (t : Tree) → P x (part t none) → Q x (part t none)) → ((x : Place) (t u : Tree) (us : Forest) → P x (part t (part u us)) → (z : Place) × (P z (part u us) × (Q z (part u us) → Q x (part t (part u us)))))
    → (x : Place) (t : Tree) (ts : Forest) → P x (part t ts) → Q x (part t ts)
along P Q f g x t none l = f x t l
along P Q f g x t (part u us) l = let h = g x t u us l in h.1.1 (along P Q f g h.0 u us h.1.0)

items : {v : Surroundings} {s : ListShape} {c : Nonterminal} {x y : Place} (ts : Forest) → Listed v s c x ts y → Items IsRead v s c x ts y
items {v} {s} {c} {x} none l = subst (λ y. Items IsRead v s c x none y) l.scans (nil (found_at l.scans l.found))
items {v} {s} {c} {x} {y} (part t ts) l = along (λ x ts. Listed v s c x ts y) (λ x ts. Items IsRead v s c x ts y) (λ x t l. item_last t l)
    (λ x t u us l. let h = head t u us l in (scan h.place (between s), (h.rest, λ all. more h.early h.first refl all))) x t ts l

-- ---- a row

pub record Fit (V : List Context → Surroundings) (ps : List Piece) (x : Place) (ts : Forest) (y : Place) : Type 0 where
  pub form : fits ps ts ≡ true
  pub law : lawful V ps ts ≡ true
  pub scans : scan x (walk (symbols ps) (saids ts)) ≡ y
  pub found : IsTrue (is_found y)

-- what one symbol gives, before the rest of its row
record Gives (V : List Context → Surroundings) (a : List Context) (p : Symbol) (x : Place) (g : Given) (y : Place) : Type 0 where
  form : (ps : List Piece) (ts : Forest) → fits ps ts ≡ true → fits (piece a p ∷ ps) (with g ts) ≡ true
  law : (ps : List Piece) (ts : Forest) → lawful V ps ts ≡ true → lawful V (piece a p ∷ ps) (with g ts) ≡ true
  scans : (ps : Production) (ts : Forest) → scan x (walk (p ∷ ps) (saids (with g ts))) ≡ scan y (walk ps (saids ts))

part_scan : (x : Place) {y : Place} (ms ns : List Sign) → scan x ms ≡ y → scan x (ms ++ ns) ≡ scan y ns
part_scan x ms ns e = scan_append x ms ns ∙ ap (λ z. scan z ns) e

maybe_scan : (x y : Place) {z w : Place} (a b : List Sign) (r : List Text) (ms : List Sign) → scan x a ≡ y → scan y ms ≡ z → scan z b ≡ w → scan x (maybe a b r (ms ∷ [])) ≡ w
maybe_scan x y a b [] ms e f g = part_scan x a (ms ++ b) e ∙ (part_scan y ms b f ∙ g)
maybe_scan x y a b (r ∷ rs) ms e f g = part_scan x a (ms ++ b) e ∙ (part_scan y ms b f ∙ g)

unless_none : (x : Place) → forth (Unless []) x ≡ x
unless_none Lost = refl
unless_none (At q e text) = refl

absent_scan : (x : Place) (a b : List Sign) (r : List Text) → scan x (maybe a b r []) ≡ forth (Unless r) x
absent_scan x a b [] = sym (unless_none x)
absent_scan x a b (r ∷ rs) = refl

gives : (V : List Context → Surroundings) (a : List Context) {p : Symbol} {x y : Place} {g : Given} → Past IsRead (V a) p x g y → Gives V a p x g y
gives V a (sign {s = s} e f) = record { form = λ ps ts h. h; law = λ ps ts h. h; scans = λ ps ts. ap (λ z. scan z (walk ps (saids ts))) e }
gives V a (within f) = record { form = λ ps ts h. h; law = λ ps ts h. h; scans = λ ps ts. refl }
gives V a {x = x} (tree {c = c} {t = t} r) = record {
  form = λ ps ts h. and_both _ _ (at_home c t r.is) (and_both _ _ (has_form c t r.is) h);
  law = λ ps ts h. and_both _ _ r.is_legal h;
  scans = λ ps ts. part_scan x (spelled t) (walk ps (saids ts)) r.scans;
}
gives V a {x = x} (absent {a = b} {b = d} {r = r} e f) = record {
  form = λ ps ts h. h;
  law = λ ps ts h. h;
  scans = λ ps ts. part_scan x (maybe b d r []) (walk ps (saids ts)) (absent_scan x b d r ∙ e);
}
gives V a {x = x} (present {a = b} {b = d} {c = c} {r = r} {y = y} {t = t} e q f g) = record {
  form = λ ps ts h. and_both _ _ (and_both _ _ (at_home c t q.is) (and_both _ _ (has_form c t q.is) refl)) h;
  law = λ ps ts h. and_both _ _ (and_both _ _ q.is_legal refl) h;
  scans = λ ps ts. part_scan x (maybe b d r (spelled t ∷ [])) (walk ps (saids ts)) (maybe_scan x y b d r (spelled t) e q.scans f);
}
gives V a {x = x} (many {s = s} {c = c} {ts = us} e all) =
    let l = listed all in
    record {
      form = λ ps ts h. and_both _ _ (and_both _ _ e l.lasts) (and_both _ _ l.each h);
      law = λ ps ts h. and_both _ _ l.lawfully h;
      scans = λ ps ts. part_scan x (gathered s (each_said us)) (walk ps (saids ts)) l.scans;
    }

pub fit : {V : List Context → Surroundings} {ps : List Piece} {x y : Place} {ts : Forest} → Walk IsRead V ps x ts y → Fit V ps x ts y
fit (done f) = record { form = refl; law = refl; scans = refl; found = f }
fit {V} (next {a = a} {ps = ps} {ts = ts} q w) =
    let m = fit w in
    let h = gives V a q in
    record { form = h.form ps ts m.form; law = h.law ps ts m.law; scans = h.scans (symbols ps) ts ∙ m.scans; found = m.found }

-- the first symbol of a row, and what is left
record Begun (V : List Context → Surroundings) (a : List Context) (p : Symbol) (ps : List Piece) (x : Place) (ts : Forest) (y : Place) : Type 0 where
  given : Given
  place : Place
  rest : Forest
  is : ts ≡ with given rest
  first : Past IsRead (V a) p x given place
  left : Fit V ps place rest y

begun_part : {V : List Context → Surroundings} {a : List Context} {c : Nonterminal} (ps : List Piece) {x y : Place} (t : Tree) (ts : Forest) → Fit V (piece a (Part c) ∷ ps) x (part t ts) y → Begun V a (Part c) ps x (part t ts) y
begun_part {V} {a} {c} ps {x} t ts m =
    let e = sym (part_scan x (spelled t) (walk (symbols ps) (saids ts)) refl) ∙ m.scans in
    let h = and_right (shaped Single c t) (fits_below c t && fits ps ts) m.form in
    record {
      given = one t;
      place = scan x (spelled t);
      rest = ts;
      is = refl;
      first = tree (read t (and_left (shaped Single c t) _ m.form) (and_left (fits_below c t) _ h) (and_left (legal (V a) t) _ m.law) (found_first (walk (symbols ps) (saids ts)) _ (found_at e m.found)));
      left = record { form = and_right (fits_below c t) _ h; law = and_right (legal (V a) t) _ m.law; scans = e; found = m.found };
    }

begun_absent : {V : List Context → Surroundings} {a : List Context} (b d : List Sign) {c : Nonterminal} (r : List Text) (ps : List Piece) {x y : Place} (ts : Forest) → Fit V (piece a (Optional b c d r) ∷ ps) x (part (list none) ts) y → Begun V a (Optional b c d r) ps x (part (list none) ts) y
begun_absent b d r ps {x} ts m =
    let e = sym (part_scan x (maybe b d r []) (walk (symbols ps) (saids ts)) (absent_scan x b d r)) ∙ m.scans in
    record {
      given = one (list none);
      place = forth (Unless r) x;
      rest = ts;
      is = refl;
      first = absent refl (found_first (walk (symbols ps) (saids ts)) _ (found_at e m.found));
      left = record { form = m.form; law = m.law; scans = e; found = m.found };
    }

begun_present : {V : List Context → Surroundings} {a : List Context} (b d : List Sign) {c : Nonterminal} (r : List Text) (ps : List Piece) {x y : Place} (t : Tree) (ts : Forest) → Fit V (piece a (Optional b c d r) ∷ ps) x (part (list (part t none)) ts) y
    → Begun V a (Optional b c d r) ps x (part (list (part t none)) ts) y
begun_present {V} {a} b d {c} r ps {x} t ts m =
    let e = sym (part_scan x (maybe b d r (spelled t ∷ [])) (walk (symbols ps) (saids ts)) (maybe_scan x (scan x b) b d r (spelled t) refl refl refl)) ∙ m.scans in
    let f = found_first (walk (symbols ps) (saids ts)) _ (found_at e m.found) in
    let h = and_left (admits c t && (fits_below c t && true)) (fits ps ts) m.form in
    let l = and_left (legal (V a) t && true) (lawful V ps ts) m.law in
    record {
      given = one (list (part t none));
      place = scan (scan (scan x b) (spelled t)) d;
      rest = ts;
      is = refl;
      first = present refl (read t (and_left (admits c t) (fits_below c t && true) h) (and_left (fits_below c t) true (and_right (admits c t) (fits_below c t && true) h)) (and_left (legal (V a) t) true l) (found_first d _ f)) refl f;
      left = record { form = and_right (admits c t && (fits_below c t && true)) (fits ps ts) m.form; law = and_right (legal (V a) t && true) (lawful V ps ts) m.law; scans = e; found = m.found };
    }

begun_many : {V : List Context → Surroundings} {a : List Context} (s : ListShape) {c : Nonterminal} (ps : List Piece) {x y : Place} (us ts : Forest) → Fit V (piece a (Many s c) ∷ ps) x (part (list us) ts) y → Begun V a (Many s c) ps x (part (list us) ts) y
begun_many {V} {a} s {c} ps {x} us ts m =
    let e = sym (part_scan x (gathered s (each_said us)) (walk (symbols ps) (saids ts)) refl) ∙ m.scans in
    let h = and_left (enough s us && last_only us) (fit_each c us && fits ps ts) m.form in
    let h' = and_right (enough s us && last_only us) (fit_each c us && fits ps ts) m.form in
    record {
      given = one (list us);
      place = scan x (gathered s (each_said us));
      rest = ts;
      is = refl;
      first = many (and_left _ _ h) (items us (record {
        each = and_left (fit_each c us) (fits ps ts) h';
        lasts = and_right (enough s us) _ h;
        lawfully = and_left (each_legal (V a) us) (lawful V ps ts) m.law;
        scans = refl;
        found = found_first (walk (symbols ps) (saids ts)) _ (found_at e m.found);
      }));
      left = record { form = and_right (fit_each c us) (fits ps ts) h'; law = and_right (each_legal (V a) us) (lawful V ps ts) m.law; scans = e; found = m.found };
    }

begun : {V : List Context → Surroundings} {a : List Context} (p : Symbol) (ps : List Piece) {x y : Place} (ts : Forest) → Fit V (piece a p ∷ ps) x ts y → Begun V a p ps x ts y
begun (Fixed s) ps {x} ts m = record { given = nothing; place = forth s x; rest = ts; is = refl; first = sign refl (found_first (walk (symbols ps) (saids ts)) _ (found_at m.scans m.found)); left = record { form = m.form; law = m.law; scans = m.scans; found = m.found } }
begun (Within d) ps {x} ts m = record { given = nothing; place = x; rest = ts; is = refl; first = within (found_first (walk (symbols ps) (saids ts)) _ (found_at m.scans m.found)); left = record { form = m.form; law = m.law; scans = m.scans; found = m.found } }
begun (Part c) ps none m = let bad = m.form in cc
begun (Part c) ps (part t ts) m = begun_part ps t ts m
begun (Optional b c d r) ps none m = let bad = m.form in cc
begun (Optional b c d r) ps (part (leaf k t) ts) m = let bad = m.form in cc
begun (Optional b c d r) ps (part (node k us) ts) m = let bad = m.form in cc
begun (Optional b c d r) ps (part (list none) ts) m = begun_absent b d r ps ts m
begun (Optional b c d r) ps (part (list (part t none)) ts) m = begun_present b d r ps t ts m
begun (Optional b c d r) ps (part (list (part t (part u us))) ts) m = let bad = m.form in cc
begun (Many s c) ps none m = let bad = m.form in cc
begun (Many s c) ps (part (leaf k t) ts) m = let bad = m.form in cc
begun (Many s c) ps (part (node k us) ts) m = let bad = m.form in cc
begun (Many s c) ps (part (list us) ts) m = begun_many s ps us ts m

empty_fit : {V : List Context → Surroundings} {x y : Place} (ts : Forest) → Fit V [] x ts y → Walk IsRead V [] x ts y
empty_fit {V} {x} none m = subst (λ z. Walk IsRead V [] x none z) m.scans (done (found_at m.scans m.found))
empty_fit (part t ts) m = let bad = m.form in cc

pub walked : (V : List Context → Surroundings) (ps : List Piece) (x y : Place) (ts : Forest) → Fit V ps x ts y → Walk IsRead V ps x ts y
walked V [] x y ts m = empty_fit ts m
walked V (piece a p ∷ ps) x y ts m = let b = begun p ps ts m in subst (λ us. Walk IsRead V (piece a p ∷ ps) x us y) (sym b.is) (next b.first (walked V ps b.place y b.rest b.left))

-- ---- a node

-- whether a row's first token stands before all its parts
abbrev pub opens : Production → Bool
opens (Fixed (Tok m k t) ∷ ps) = true
opens (Fixed s ∷ ps) = opens ps
opens ps = false

among_walk : (ps : Production) (xs : List (List (List Sign))) → opens ps ≡ true → among_text (walk ps xs) ≡ walk (in_text ps) xs
among_walk (Fixed (Tok m k t) ∷ ps) xs e = refl
among_walk (Fixed Semicolon ∷ ps) xs e = ap (λ ms. Semicolon ∷ ms) (among_walk ps xs e)
among_walk (Fixed TrailingComma ∷ ps) xs e = ap (λ ms. TrailingComma ∷ ms) (among_walk ps xs e)
among_walk (Fixed s ∷ ps) xs e = ap (λ ms. s ∷ ms) (among_walk ps xs e)
among_walk [] xs e = cc
among_walk (Part c ∷ ps) xs e = cc
among_walk (Optional a c b r ∷ ps) xs e = cc
among_walk (Many s c ∷ ps) xs e = cc
among_walk (Within a ∷ ps) xs e = cc

slots_in_text : (g : List Text) (b : Bool) (a : List Context) (ps : Production) → slots g b a (in_text ps) ≡ slots g b a ps
slots_in_text g b a (Fixed (Tok m Punctuator t) ∷ ps) = refl
slots_in_text g b a (Fixed (Tok m k t) ∷ ps) = refl
slots_in_text g b a (Fixed (Unless us) ∷ ps) = slots_in_text us b a ps
slots_in_text g b a (Fixed s ∷ ps) = slots_in_text g b a ps
slots_in_text g b a [] = refl
slots_in_text g b a (Part c ∷ ps) = refl
slots_in_text g b a (Optional x c y r ∷ ps) = refl
slots_in_text g b a (Many s c ∷ ps) = refl
slots_in_text g b a (Within x ∷ ps) = refl

-- whether a node of the kind may be read there
abbrev pub readable : Bool → Kind → Bool
readable true k = opens (production k)
readable false k = true

form_row : (b : Bool) (k : Kind) (ts : Forest) → fit_slots (positions k) ts ≡ fits (row b k) ts
form_row true k ts = ap (λ ss. fit_slots ss ts) (sym (slots_in_text [] false [] (production k))) ∙ form_of [] false [] (in_text (production k)) ts
form_row false k ts = form_of [] false [] (production k) ts

law_row : (b : Bool) (k : Kind) (v : Surroundings) (ts : Forest) → legals ts v (positions k) ts ≡ lawful (around v ts) (row b k) ts
law_row true k v ts = ap (λ ss. legals ts v ss ts) (sym (slots_in_text [] false [] (production k))) ∙ law_of ts v [] false [] (in_text (production k)) ts
law_row false k v ts = law_of ts v [] false [] (production k) ts

scan_row : (b : Bool) (k : Kind) (ts : Forest) (x : Place) → readable b k ≡ true → scan x (front b (spelled (node k ts))) ≡ scan x (walk (symbols (row b k)) (saids ts))
scan_row true k ts x e = ap (scan x) (among_walk (production k) (saids ts) e) ∙ sym (scan_pieces [] (in_text (production k)) (saids ts) x)
scan_row false k ts x e = sym (scan_pieces [] (production k) (saids ts) x)

-- a walk along the row of a kind is a node of the kind, wherever that is at home
pub node_read : (b : Bool) (k : Kind) {v : Surroundings} {c : Nonterminal} {x y : Place} {ts : Forest} → admits c (node k ts) ≡ true → readable b k ≡ true → IsNode IsRead v b k x ts y → IsRead v b c x (node k ts) y
node_read b k {v} {c} {x} {y} {ts} a e n =
    let m = fit n.walk in
    record {
      is = and_both _ _ a (form_row b k ts ∙ m.form);
      is_legal = and_both _ _ n.keeps (and_both _ _ n.may_stand (law_row b k v ts ∙ m.law));
      scans = scan_row b k ts x e ∙ m.scans;
      found = m.found;
    }

-- and every node that the definitions read is a walk along its row
pub node_walk : (b : Bool) (k : Kind) {v : Surroundings} {c : Nonterminal} {x y : Place} {ts : Forest} → readable b k ≡ true → IsRead v b c x (node k ts) y → IsNode IsRead v b k x ts y
node_walk b k {v} {c} {x} {y} {ts} e r =
    let l = and_right (rule k ts) _ r.is_legal in
    record {
      walk = walked (around v ts) (row b k) x y ts
          (record { form = sym (form_row b k ts) ∙ has_form c (node k ts) r.is; law = sym (law_row b k v ts) ∙ and_right (stands k ts v) _ l; scans = sym (scan_row b k ts x e) ∙ r.scans; found = r.found });
      keeps = and_left (rule k ts) _ r.is_legal;
      may_stand = and_left (stands k ts v) _ l;
    }
