-- What is written sign by sign.
use Rattle.std.proofs.Common.{◌≡◌, ℕ, zero, suc, ◌+◌, ◌-◌, ◌<◌, ◌≤◌, List, [], ◌∷◌, ◌++◌, Bool, true, false, not, ◌&&◌, cond, codes, length, drop, get_or, map, refl, sym, ap, ◌∙◌, arith, add-one, drop-cons, append_assoc, append-nil, length-append, string_bytes}
use Rattle.std.specs.Prelude.{nat_eq}
use Rattle.std.proofs.lemmas.Bool.{ne_eqb}
use Rattle.std.proofs.lemmas.List.{map-append}
use Rattle.jsx_base.specs.Token.{Text}
use Rattle.jsx_tree.specs.Layout.{four, last}
use Rattle.jsx_tree.specs.Signs.{Sign, Tok, Semicolon, TrailingComma, Unless, SameLine, Ends, Space, Pad, Line, Indent, Outdent, Unindent, Apart, Begin, Count, One, End}
use Rattle.jsx_pen.specs.declared.pen.Gap.{Gap}
use Rattle.jsx_pen.specs.declared.pen.Gap.TheVariants as gap
use Rattle.jsx_pen.specs.Calls.{is_place}
use Rattle.jsx_pen.specs.Pen.{Portion, State, at, margin, blank, is_due, is_word, ink, placed, raw, inked, unready, piece, padded, lined, indented, unindented, outdented, parted, turned, sign_gap, is_opened, toked, puts}
use Rattle.jsx_pen.proofs.Characters.{appended, chars_ascii}

-- ---- one sign

pub raw_is : (p : State) (t : Text) → raw p t ≡ at p.done (p.written ++ t) p.depth gap.Settled []
unfolding raw
raw_is p t = refl

pub inked_is : (p : State) (t : Text) → inked p t ≡ ink (is_word t && is_due p.due) p t
unfolding inked
inked_is p t = refl

pub padded_is : (p : State) → padded p ≡ at p.done p.written p.depth (turned p.gap) []
unfolding padded
padded_is p = refl

pub indented_is : (p : State) → indented p ≡ at p.done p.written (suc p.depth) gap.Opened []
unfolding indented
indented_is p = refl

pub unindented_is : (p : State) → unindented p ≡ at p.done p.written (p.depth - 1) gap.Settled []
unfolding unindented
unindented_is p = refl

pub ruleset inking = (raw_is, padded_is, indented_is, unindented_is, appended, append-nil, add-one)

pub raw_raw : (p : State) (a : Text) (b : Text) → raw (raw p a) b ≡ raw p (a ++ b)
unfolding raw
raw_raw p a b = ap (λ t. at p.done t p.depth gap.Settled []) (append_assoc p.written a b)

pub not_due : (b : Bool) → (b && false) ≡ false
not_due true = refl
not_due false = refl

-- where nothing is open before it
pub settled_plain : (p : State) (t : Text) → p.gap ≡ gap.Settled → raw p t ≡ ink false p t
unfolding raw ink
settled_plain p t e = ap (λ g. at p.done (p.written ++ (blank g t ++ t)) p.depth gap.Settled []) (sym e)

-- a token, piece by piece
pub ink_plain : (p : State) (t : Text) → raw (raw p (blank p.gap t)) t ≡ ink false p t
unfolding raw ink
ink_plain p t = ap (λ x. at p.done x p.depth gap.Settled []) (append_assoc p.written (blank p.gap t) t)

pub ink_first : (p : State) (t : Text) → at (p.done ++ ((p.written ++ blank p.gap t, p.due) ∷ [])) t p.depth gap.Settled [] ≡ ink true p t
unfolding ink
ink_first p t = refl

pub inked_plain : (p : State) (t : Text) → (is_word t && is_due p.due) ≡ false → ink false p t ≡ inked p t
unfolding inked
inked_plain p t h = ap (λ b. ink b p t) (sym h)

pub inked_first : (p : State) (t : Text) → (is_word t && is_due p.due) ≡ true → ink true p t ≡ inked p t
unfolding inked
inked_first p t h = ap (λ b. ink b p t) (sym h)

pub piece_plain : (p : State) (t : Text) → ink false p t ≡ piece p t
unfolding ink inked unready
piece_plain p t = ap (λ b. ink b (unready p) t) (sym (not_due (is_word t)))

pub ruleset wording = (ink_plain, inked_plain, inked_first, piece_plain, chars_ascii)

-- whether a call is due
any_due : {A : Type 0} (f : A → ℕ) (xs : List A) → is_due (map f xs) ≡ not (nat_eq (length xs) 0)
any_due f [] = refl
any_due f (x ∷ xs) = ap not (sym (ne_eqb (suc (length xs)) 0 (λ e. omega (arith, e))))

also_due : (b : Bool) → b ≡ (b && true)
also_due true = refl
also_due false = refl

pub due_word : {A : Type 0} (f : A → ℕ) (xs : List A) (b : Bool) → nat_eq (length xs) 0 ≡ false → b ≡ (b && is_due (map f xs))
due_word f xs b e = also_due b ∙ ap (λ c. b && c) (sym (any_due f xs ∙ ap not e))

pub undue_word : {A : Type 0} (f : A → ℕ) (xs : List A) (b : Bool) → nat_eq (length xs) 0 ≡ true → false ≡ (b && is_due (map f xs))
undue_word f xs b e = sym (ap (λ c. b && c) (any_due f xs ∙ ap not e) ∙ not_due b)

-- a call begins
pub placed_is : (p : State) (x : ℕ) → placed p x ≡ at p.done p.written p.depth p.gap (p.due ++ (x ∷ []))
unfolding placed
placed_is p x = refl

pub ruleset calling = (placed_is, map-append)

-- a sign that the next token mustn't join
last_of : (w : Text) (c : ℕ) → last (w ++ (c ∷ [])) ≡ c
last_of [] c = refl
last_of (b ∷ []) c = refl
last_of (b ∷ d ∷ w) c = last_of (d ∷ w) c

last_ink : (d : Bool) (p : State) (c : ℕ) → last (ink d p (c ∷ [])).written ≡ c
unfolding ink
last_ink true p c = refl
last_ink false p c = ap last (sym (append_assoc p.written (blank p.gap (c ∷ [])) (c ∷ []))) ∙ last_of (p.written ++ blank p.gap (c ∷ [])) c

last_inked : (p : State) (c : ℕ) → last (inked p (c ∷ [])).written ≡ c
unfolding inked
last_inked p c = last_ink (is_word (c ∷ []) && is_due p.due) p c

ink_calm : (d : Bool) (p : State) (t : Text) → (ink d p t).due ≡ []
unfolding ink
ink_calm true p t = refl
ink_calm false p t = refl

inked_calm : (p : State) (t : Text) → (inked p t).due ≡ []
unfolding inked
inked_calm p t = ink_calm (is_word t && is_due p.due) p t

pub parted_is : (p : State) (c : ℕ) (s : List Portion) (w : Text) (n : ℕ) (g : Gap) (d : List ℕ) → at s w n g d ≡ inked p (c ∷ []) → at s w n (sign_gap c) d ≡ parted (inked p (c ∷ []))
unfolding parted
parted_is p c s w n g d e =
    ap (λ x. at s w n (sign_gap c) x) (ap (λ q. q.due) e ∙ inked_calm p (c ∷ [])) ∙ ap (λ x. at s w n (sign_gap x) []) (sym (ap (λ q. last q.written) e ∙ last_inked p c))
    ∙ ap (λ q. at q.done q.written q.depth (sign_gap (last q.written)) []) e

pub parted_plus : (p : State) (s : List Portion) (w : Text) (n : ℕ) (g : Gap) (d : List ℕ) → at s w n g d ≡ inked p (43 ∷ []) → at s w n gap.Plus d ≡ parted (inked p (43 ∷ []))
parted_plus p s w n g d e = parted_is p 43 s w n g d e

pub parted_minus : (p : State) (s : List Portion) (w : Text) (n : ℕ) (g : Gap) (d : List ℕ) → at s w n g d ≡ inked p (45 ∷ []) → at s w n gap.Minus d ≡ parted (inked p (45 ∷ []))
parted_minus p s w n g d e = parted_is p 45 s w n g d e

pub ruleset parting = (parted_plus, parted_minus)

-- the margin of a line
margin_end : (n : ℕ) → margin n ++ four ≡ margin (suc n)
margin_end zero = refl
margin_end (suc n) = append_assoc four (margin n) four ∙ ap (λ t. four ++ t) (margin_end n)

pub margin_step : (p : State) (n : ℕ) → raw (raw p (10 ∷ margin n)) four ≡ raw p (10 ∷ margin (n + 1))
margin_step p n = raw_raw p (10 ∷ margin n) four ∙ ap (λ t. raw p (10 ∷ t)) (margin_end n) ∙ rw add-one refl

pub lined_is : (p : State) → lined p ≡ raw p (10 ∷ margin p.depth)
unfolding lined raw
lined_is p = refl

pub ruleset lining = (margin_step, lined_is)

pub outdented_is : (p : State) → outdented p ≡ cond (is_opened p.gap) (unindented p) (lined (unindented p))
unfolding outdented
outdented_is p = refl

pub ruleset outdenting = (outdented_is)

-- ---- several

pub puts_append : (p : State) (xs : List Sign) (ys : List Sign) → puts p (xs ++ ys) ≡ puts (puts p xs) ys
puts_append p [] ys = refl
puts_append p (Tok m k t ∷ xs) ys = puts_append (toked (is_place k) m t p) xs ys
puts_append p (Semicolon ∷ xs) ys = puts_append (inked p (59 ∷ [])) xs ys
puts_append p (Space ∷ xs) ys = puts_append (raw p (32 ∷ [])) xs ys
puts_append p (Pad ∷ xs) ys = puts_append (padded p) xs ys
puts_append p (Line ∷ xs) ys = puts_append (lined p) xs ys
puts_append p (Indent ∷ xs) ys = puts_append (indented p) xs ys
puts_append p (Outdent ∷ xs) ys = puts_append (outdented p) xs ys
puts_append p (Unindent ∷ xs) ys = puts_append (unindented p) xs ys
puts_append p (Apart ∷ xs) ys = puts_append (parted p) xs ys
puts_append p (TrailingComma ∷ xs) ys = puts_append p xs ys
puts_append p (Unless ts ∷ xs) ys = puts_append p xs ys
puts_append p (SameLine ∷ xs) ys = puts_append p xs ys
puts_append p (Ends e ∷ xs) ys = puts_append p xs ys
puts_append p (Begin ∷ xs) ys = puts_append p xs ys
puts_append p (Count ∷ xs) ys = puts_append p xs ys
puts_append p (One ∷ xs) ys = puts_append p xs ys
puts_append p (End ∷ xs) ys = puts_append p xs ys

pub raw_inked : (p : State) (a : Text) (b : Text) → inked (raw p a) b ≡ raw p (a ++ b)
unfolding raw inked ink
raw_inked p a b = ap (λ d. ink d (raw p a) b) (not_due (is_word b)) ∙ ap (λ t. at p.done t p.depth gap.Settled []) (append_assoc p.written a b)

blank_first : (g : Gap) (c : ℕ) (t : Text) (u : Text) → blank g (c ∷ t) ≡ blank g (c ∷ u)
blank_first gap.Settled c t u = refl
blank_first gap.Opened c t u = refl
blank_first gap.Padded c t u = refl
blank_first gap.Plus c t u = refl
blank_first gap.Minus c t u = refl

joins : (w : Text) (g : Gap) (c : ℕ) (t : Text) (b : Text) → (w ++ (blank g (c ∷ t) ++ (c ∷ t))) ++ b ≡ w ++ (blank g (c ∷ (t ++ b)) ++ (c ∷ (t ++ b)))
joins w g c t b = append_assoc w (blank g (c ∷ t) ++ (c ∷ t)) b ∙ ap (λ x. w ++ x) (append_assoc (blank g (c ∷ t)) (c ∷ t) b) ∙ ap (λ x. w ++ (x ++ (c ∷ (t ++ b)))) (blank_first g c t (t ++ b))

ink_raw : (d : Bool) (p : State) (c : ℕ) (a : Text) (b : Text) → raw (ink d p (c ∷ a)) b ≡ ink d p (c ∷ (a ++ b))
unfolding raw ink
ink_raw true p c a b = ap (λ x. at (p.done ++ ((p.written ++ x, p.due) ∷ [])) (c ∷ (a ++ b)) p.depth gap.Settled []) (blank_first p.gap c a (a ++ b))
ink_raw false p c a b = ap (λ t. at p.done t p.depth gap.Settled []) (joins p.written p.gap c a b)

pub inked_raw : (p : State) (c : ℕ) (a : Text) (b : Text) → raw (inked p (c ∷ a)) b ≡ inked p (c ∷ (a ++ b))
unfolding inked
inked_raw p c a b = ink_raw (is_word (c ∷ a) && is_due p.due) p c a b

ink_settled : (d : Bool) (p : State) (t : Text) (u : Text) → inked (ink d p t) u ≡ raw (ink d p t) u
unfolding raw inked ink
ink_settled true p t u = ap (λ e. ink e (ink true p t) u) (not_due (is_word u))
ink_settled false p t u = ap (λ e. ink e (ink false p t) u) (not_due (is_word u))

-- behind a token nothing is due
pub inked_settled : (p : State) (t : Text) (u : Text) → inked (inked p t) u ≡ raw (inked p t) u
inked_settled p t u = ap (λ q. inked q u) (inked_is p t) ∙ ink_settled (is_word t && is_due p.due) p t u ∙ ap (λ q. raw q u) (sym (inked_is p t))

pub inked_inked : (p : State) (c : ℕ) (a : Text) (b : Text) → inked (inked p (c ∷ a)) b ≡ inked p (c ∷ (a ++ b))
inked_inked p c a b = inked_settled p (c ∷ a) b ∙ inked_raw p c a b

pub ruleset writing = (puts_append, raw_raw, raw_inked, inked_raw, inked_inked)
