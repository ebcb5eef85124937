-- In a guarded row each part has come to its end, for every row.
use Rattle.std.proofs.Common.{◌≡◌, Bool, true, false, cond, List, [], ◌∷◌, refl, sym, ◌∙◌, subst}
use Rattle.std.specs.Prelude.{IsTrue, codes, ◌&&◌, ◌||◌}
use Rattle.jsx_base.specs.Token.{Operator, Punctuator, token, is_token}
use Rattle.jsx_tree.specs.Signs.{Sign, Tok, TrailingComma, AfterExpr}
use Rattle.jsx_tree.specs.Kinds.{Tree, Forest}
use Rattle.jsx_tree.specs.Nonterminals.{Nonterminal}
use Rattle.jsx_tree.specs.Grammar.{ListShape, Commas, Elisions, NoTrailing, TwoOrMore, Context, Symbol, Fixed, Part, Optional, Many, Within}
use Rattle.jsx_tree.specs.Spelling.{between, behind, spelled}
use Rattle.jsx_tree.specs.Reading.{Place, Lost, At, forth, scan}
use Rattle.jsx_tree.specs.StaticRules.{Surroundings}
use Rattle.jsx_tree.proofs.Tokens.{and_left, and_right}
use Rattle.jsx_tree.specs.Walk.{is_found, Piece, piece, Relation, IsRead, Given, Items, nil, last, more, Past, sign, tree, absent, present, many, within, Walk, done, next}
use Rattle.jsx_tree.specs.Stops.{level_asked, stops}
use Rattle.jsx_tree.specs.Language.{Language, Whole}
use Rattle.jsx_tree.proofs.Rows.Laws.{Lawful, start_found}
use Rattle.jsx_tree.proofs.Rows.Bridge.{found_first, found_at}
use Rattle.jsx_tree.proofs.Rows.Stopping.{or_cases, is_never, deaf, heeds, is_still, covers, never_stops, sign_stops, stays, token_stops, stops_at, raw_of}

abbrev pub is_comma : ListShape → Bool
is_comma Commas = true
is_comma Elisions = true
is_comma NoTrailing = true
is_comma TwoOrMore = true
is_comma s = false

abbrev pub heeds_list : ListShape → Nonterminal → Bool
heeds_list s c = is_never c || (is_comma s && deaf (level_asked c) (codes ","))

-- what stands behind a part `c` of a node at home in `o`
abbrev pub shuts : Nonterminal → Nonterminal → List Piece → Bool
shuts o c [] = covers (level_asked o) (level_asked c)
shuts o c (piece a (Fixed s) ∷ ps) = heeds c s || (is_still s && shuts o c ps)
shuts o c (piece a p ∷ ps) = is_never c

abbrev pub shuts_behind : Nonterminal → Nonterminal → List Sign → List Piece → Bool
shuts_behind o c [] ps = shuts o c ps
shuts_behind o c (s ∷ ss) ps = heeds c s

abbrev pub guarded : Nonterminal → List Piece → Bool
guarded o [] = true
guarded o (piece a (Part c) ∷ ps) = shuts o c ps && guarded o ps
guarded o (piece a (Optional x c y r) ∷ ps) = shuts_behind o c y ps && guarded o ps
guarded o (piece a (Many s c) ∷ ps) = (heeds_list s c && shuts o c ps) && guarded o ps
guarded o (piece a p ∷ ps) = guarded o ps

shut : {L : Language} {R : Relation} {V : List Context → Surroundings} → Lawful L → (o c : Nonterminal) (ps : List Piece) {y z : Place} {us : Forest} → shuts o c ps ≡ true → L.ends o z ≡ true → Walk R V ps y us z → L.ends c y ≡ true
shut l o c [] h s (done f) = l.covered o c _ h s
shut {L} l o c (piece a (Fixed g) ∷ ps) {y} h s (next (sign e f) w) =
    let found = found_at e f in
    or_cases (heeds c g) (is_still g && shuts o c ps) h (λ h. l.ends_there c y (sign_stops c g y h found))
    (λ h. subst (λ p. L.ends c p ≡ true) (sym e ∙ stays g y (and_left (is_still g) (shuts o c ps) h) found) (shut l o c ps (and_right (is_still g) (shuts o c ps) h) s w))
shut l o c (piece a (Part d) ∷ ps) {y} h s w = l.ends_there c y (never_stops c y h)
shut l o c (piece a (Optional d e f g) ∷ ps) {y} h s w = l.ends_there c y (never_stops c y h)
shut l o c (piece a (Many d e) ∷ ps) {y} h s w = l.ends_there c y (never_stops c y h)
shut l o c (piece a (Within d) ∷ ps) {y} h s w = l.ends_there c y (never_stops c y h)

-- ---- lists

or_false : (a : Bool) → (a || false) ≡ true → a ≡ true
or_false true e = refl
or_false false e = e

by_comma : (c : Nonterminal) (y : Place) → (is_never c || deaf (level_asked c) (codes ",")) ≡ true → IsTrue (is_found (forth (Tok Operator Punctuator (codes ",")) y)) → stops c y ≡ true
by_comma c y h f = or_cases (is_never c) (deaf (level_asked c) (codes ",")) h (never_stops c y) (λ d. token_stops c Punctuator 44 [] y d f)

item_stops : (c : Nonterminal) (s : ListShape) (y : Place) {z : Place} → heeds_list s c ≡ true → scan y (between s) ≡ z → IsTrue (is_found z) → stops c y ≡ true
item_stops c Commas y h e f = by_comma c y h (found_at e f)
item_stops c Elisions y h e f = by_comma c y h (found_at e f)
item_stops c NoTrailing y h e f = by_comma c y h (found_at e f)
item_stops c TwoOrMore y h e f = by_comma c y h (found_at e f)
item_stops c _ y h e f = never_stops c y (or_false _ h)

comma_cases : (b : Bool) (x y z : Place) {A : Type 0} → cond b x y ≡ z → (b ≡ true → A) → (y ≡ z → A) → A
comma_cases true x y z e g h = g refl
comma_cases false x y z e g h = h e

trailing_ends : {L : Language} → Lawful L → (c : Nonterminal) (y z : Place) → (is_never c || deaf (level_asked c) (codes ",")) ≡ true → forth TrailingComma y ≡ z → L.ends c z ≡ true → L.ends c y ≡ true
trailing_ends l c Lost z h e s = l.ends_there c Lost refl
trailing_ends {L} l c (At q g text) z h e s =
    let x = token Operator false text in
    comma_cases (is_token x Punctuator (codes ",")) (At (codes ",") AfterExpr x.rest) (At q g text) z e
    (λ t. l.ends_there c (At q g text) (or_cases (is_never c) (deaf (level_asked c) (codes ",")) h (never_stops c (At q g text)) (λ d. stops_at c q g text (codes ",") (raw_of Punctuator (codes ",") x t) d)))
    (λ same. subst (λ p. L.ends c p ≡ true) (sym same) s)

last_ends : {L : Language} → Lawful L → (c : Nonterminal) (s : ListShape) (ms : List Sign) (y : Place) {z : Place} → heeds_list s c ≡ true → scan y (behind s ms) ≡ z → IsTrue (is_found z) → L.ends c z ≡ true → L.ends c y ≡ true
last_ends l c Commas ms y {z} h e f s = trailing_ends l c y z h e s
last_ends l c Elisions [] y h e f s = l.ends_there c y (by_comma c y h (found_at e f))
last_ends l c Elisions (m ∷ ms) y {z} h e f s = trailing_ends l c y z h e s
last_ends {L} l c NoTrailing ms y h e f s = subst (λ p. L.ends c p ≡ true) (sym e) s
last_ends {L} l c TwoOrMore ms y h e f s = subst (λ p. L.ends c p ≡ true) (sym e) s
last_ends l c _ ms y h e f s = l.ends_there c y (never_stops c y (or_false _ h))

pub items_found : {L : Language} {v : Surroundings} {s : ListShape} {c : Nonterminal} {x y : Place} {us : Forest} → Lawful L → Items L.reads v s c x us y → IsTrue (is_found x)
items_found l (nil f) = f
items_found l (last r e f) = start_found l r
items_found l (more n r e all) = start_found l r

pub whole_items_found : {L : Language} {v : Surroundings} {s : ListShape} {c : Nonterminal} {x y : Place} {us : Forest} → Lawful L → Items (Whole L) v s c x us y → IsTrue (is_found x)
whole_items_found l (nil f) = f
whole_items_found l (last r e f) = start_found l r.reads
whole_items_found l (more n r e all) = start_found l r.reads

pub whole_items : {L : Language} {v : Surroundings} {s : ListShape} {c : Nonterminal} {x y : Place} {us : Forest} → Lawful L → heeds_list s c ≡ true → L.ends c y ≡ true → Items L.reads v s c x us y → Items (Whole L) v s c x us y
whole_items l h st (nil f) = nil f
whole_items {s = s} {c} l h st (last {y = y} {t = t} r e f) = last (record { reads = r; ends_there = last_ends l c s (spelled t) y h e f st }) e f
whole_items {s = s} {c} l h st (more {y = y} n r e all) = more n (record { reads = r; ends_there = l.ends_there c y (item_stops c s y h e (items_found l all)) }) e (whole_items l h st all)

-- ---- rows

behind_ends : {L : Language} {R : Relation} {V : List Context → Surroundings} → Lawful L → (o c : Nonterminal) (b : List Sign) (ps : List Piece) (y : Place) {w z : Place} {us : Forest} → shuts_behind o c b ps ≡ true → L.ends o z ≡ true → scan y b ≡ w → IsTrue (is_found w) → Walk R V ps w us z → L.ends c y ≡ true
behind_ends {L} l o c [] ps y h s e f w = subst (λ p. L.ends c p ≡ true) (sym e) (shut l o c ps h s w)
behind_ends l o c (g ∷ gs) ps y h s e f w = l.ends_there c y (sign_stops c g y h (found_first gs _ (found_at e f)))

pub whole_walk : {L : Language} {V : List Context → Surroundings} → Lawful L → (o : Nonterminal) (ps : List Piece) {x z : Place} {ts : Forest} → guarded o ps ≡ true → L.ends o z ≡ true → Walk L.reads V ps x ts z → Walk (Whole L) V ps x ts z
whole_walk l o [] g s (done f) = done f
whole_walk l o (piece a (Fixed m) ∷ ps) g s (next (sign e f) w) = next (sign e f) (whole_walk l o ps g s w)
whole_walk l o (piece a (Within m) ∷ ps) g s (next (within f) w) = next (within f) (whole_walk l o ps g s w)
whole_walk l o (piece a (Part c) ∷ ps) g s (next (tree r) w) =
    next (tree (record { reads = r; ends_there = shut l o c ps (and_left (shuts o c ps) (guarded o ps) g) s w })) (whole_walk l o ps (and_right (shuts o c ps) (guarded o ps) g) s w)
whole_walk l o (piece a (Optional x c y r) ∷ ps) g s (next (absent e f) w) = next (absent e f) (whole_walk l o ps (and_right (shuts_behind o c y ps) (guarded o ps) g) s w)
whole_walk l o (piece a (Optional x c y r) ∷ ps) g s (next (present {z = m} d q e f) w) =
    next (present d (record { reads = q; ends_there = behind_ends l o c y ps m (and_left (shuts_behind o c y ps) (guarded o ps) g) s e f w }) e f) (whole_walk l o ps (and_right (shuts_behind o c y ps) (guarded o ps) g) s w)
whole_walk l o (piece a (Many m c) ∷ ps) g s (next (many e all) w) =
    let h = and_left (heeds_list m c && shuts o c ps) (guarded o ps) g in
    next (many e (whole_items l (and_left (heeds_list m c) (shuts o c ps) h) (shut l o c ps (and_right (heeds_list m c) (shuts o c ps) h) s w) all)) (whole_walk l o ps (and_right (heeds_list m c && shuts o c ps) (guarded o ps) g) s w)

-- ---- from one relation to another

abbrev pub Follow : Relation → Relation → Type 0
Follow R S = (v : Surroundings) (b : Bool) (c : Nonterminal) (x : Place) (t : Tree) (y : Place) → R v b c x t y → S v b c x t y

pub weaken_items : {R S : Relation} {v : Surroundings} {s : ListShape} {c : Nonterminal} {x y : Place} {us : Forest} → Follow R S → Items R v s c x us y → Items S v s c x us y
weaken_items g (nil f) = nil f
weaken_items g (last r e f) = last (g _ _ _ _ _ _ r) e f
weaken_items g (more n r e all) = more n (g _ _ _ _ _ _ r) e (weaken_items g all)

weaken_past : {R S : Relation} {v : Surroundings} {p : Symbol} {x y : Place} {g : Given} → Follow R S → Past R v p x g y → Past S v p x g y
weaken_past g (sign e f) = sign e f
weaken_past g (within f) = within f
weaken_past g (tree r) = tree (g _ _ _ _ _ _ r)
weaken_past g (absent e f) = absent e f
weaken_past g (present d r e f) = present d (g _ _ _ _ _ _ r) e f
weaken_past g (many e all) = many e (weaken_items g all)

pub weaken : {R S : Relation} {V : List Context → Surroundings} {ps : List Piece} {x y : Place} {ts : Forest} → Follow R S → Walk R V ps x ts y → Walk S V ps x ts y
weaken g (done f) = done f
weaken g (next q w) = next (weaken_past g q) (weaken g w)

-- what has come to its end was read
pub loosen : {L : Language} {V : List Context → Surroundings} {ps : List Piece} {x y : Place} {ts : Forest} → Walk (Whole L) V ps x ts y → Walk L.reads V ps x ts y
loosen w = weaken (λ v b c x t y r. r.reads) w

pub to_grammar : {L : Language} {V : List Context → Surroundings} {ps : List Piece} {x y : Place} {ts : Forest} → Lawful L → Walk (Whole L) V ps x ts y → Walk IsRead V ps x ts y
to_grammar l w = weaken (λ v b c x t y r. l.is_read r.reads) w
