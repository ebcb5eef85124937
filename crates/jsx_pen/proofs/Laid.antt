-- What a pen writes of a list of signs is their layout.
use Rattle.std.proofs.Common.{◌≡◌, ℕ, suc, ◌-◌, List, [], ◌∷◌, ◌++◌, Bool, true, false, ◌&&◌, ◌||◌, cond, codes, length, refl, sym, ap, ◌∙◌, subst, append_assoc, append-nil, arith}
use Rattle.std.specs.Prelude.{nat_eq}
use Rattle.std.specs.List.{list_any}
use Rattle.std.proofs.lemmas.List.Folds.{list_any-append}
use Rattle.std.proofs.lemmas.Bool.{false≢true}
use Rattle.jsx_base.specs.Token.{Text, Mode, Operand, Operator, Piece, Tag, Children, TokenKind, IdentifierName, Punctuator, NumericLiteral, BigIntLiteral, StringLiteral, RegExpLiteral, NoSubstitution, TemplateHead, TemplateMiddle, TemplateTail, JsxName, JsxString, JsxText, Elision, NoToken, same, first_is}
use Rattle.jsx_base.proofs.Longest.{same_is}
use Rattle.jsx_tree.specs.Signs.{Sign, Tok, Semicolon, TrailingComma, Unless, SameLine, Ends, Space, Pad, Line, Indent, Outdent, Unindent, Apart, Begin, Count, One, End}
use Rattle.jsx_tree.specs.Layout.{Beside, four, indent, line, last, first_char, first_token, pull, is_out, is_pad, laid, notes_text}
use Rattle.jsx_tree.specs.Notes.{marks}
use Rattle.jsx_pen.specs.declared.pen.Gap.TheVariants as gap
use Rattle.jsx_pen.specs.Calls.{is_place, first_place, bare, hold, may_mark, begun}
use Rattle.jsx_pen.specs.Pen.{Portion, at, begin, joint, whole, mark, margin, blank, is_word, is_due, ink, placed, raw, inked, unready, padded, lined, indented, unindented, outdented, parted, sign_gap, coded, toked, puts}
use Rattle.jsx_pen.proofs.Marking.{held_here, held_on, mark_text, laid_on}
use Rattle.jsx_pen.proofs.Writing.{not_due}
use Rattle.jsx_pen.proofs.Phases.{Phase, Free, PlusMark, MinusMark, PlusHeld, MinusHeld, Opened, OpenedOn, Due, DueOn, Twice, Bad, quiet, passed, after_token, unless_bad, past, step, run, is_fine, bad_run, gap_of, owed, bare_in}

-- what is written goes on by the layout
abbrev pub Goes : Phase → Text → List Bool → ℕ → Text → List ℕ → List Portion → (ℕ → Bool) → List Sign → Type 0
Goes s w n i q d c mk ms = whole mk (puts (at c w (length n) (gap_of s) d) ms) ≡ joint mk c ++ (w ++ (owed s (is_pad (bare ms)) (first_token (bare ms)) ++ laid (marks (begun mk i (list_any mk d) ms)) i n q (bare_in s (is_out (bare ms)) (is_pad (bare ms))) (bare ms)))

-- a mark is the token before, and the last that was written
abbrev pub Known : Phase → Text → Text → Type 0
Known PlusMark q w = (last q ≡ 43) × (last w ≡ 43)
Known MinusMark q w = (last q ≡ 45) × (last w ≡ 45)
Known s q w = Unit {0}

abbrev pub Lays : List Sign → Type 0
Lays ms = (s : Phase) (w : Text) (n : List Bool) (i : ℕ) (q : Text) (d : List ℕ) (c : List Portion) (mk : ℕ → Bool) → is_fine (run s ms) ≡ true → Known s q w → Goes s w n i q d c mk ms

-- ---- small laws

bad : {A : Type 0} (ms : List Sign) → is_fine (run Bad ms) ≡ true → A
bad ms h = absurd (false≢true (sym (ap is_fine (bad_run ms)) ∙ h))

margin_is : (n : List Bool) → margin (length n) ≡ indent n
margin_is [] = refl
margin_is (b ∷ n) = ap (λ t. four ++ t) (margin_is n)

pull_is : (n : List Bool) → length n - 1 ≡ length (pull n)
pull_is [] = refl
pull_is (b ∷ n) = omega arith

not_bad : (s r : Phase) (ms : List Sign) → is_fine (run (unless_bad s r) ms) ≡ true → is_fine (run r ms) ≡ true
not_bad Bad r ms h = bad ms h
not_bad Free r ms h = h
not_bad PlusMark r ms h = h
not_bad MinusMark r ms h = h
not_bad PlusHeld r ms h = h
not_bad MinusHeld r ms h = h
not_bad Opened r ms h = h
not_bad OpenedOn r ms h = h
not_bad Due r ms h = h
not_bad DueOn r ms h = h
not_bad Twice r ms h = h

quiet_known : (s : Phase) (q w : Text) → Known (quiet s) q w
quiet_known Free q w = tt
quiet_known PlusMark q w = tt
quiet_known MinusMark q w = tt
quiet_known PlusHeld q w = tt
quiet_known MinusHeld q w = tt
quiet_known Opened q w = tt
quiet_known OpenedOn q w = tt
quiet_known Due q w = tt
quiet_known DueOn q w = tt
quiet_known Twice q w = tt
quiet_known Bad q w = tt

passed_known : (s : Phase) (q w : Text) → Known (passed s) q w
passed_known Free q w = tt
passed_known PlusMark q w = tt
passed_known MinusMark q w = tt
passed_known PlusHeld q w = tt
passed_known MinusHeld q w = tt
passed_known Opened q w = tt
passed_known OpenedOn q w = tt
passed_known Due q w = tt
passed_known DueOn q w = tt
passed_known Twice q w = tt
passed_known Bad q w = tt

put_on : (mk : ℕ → Bool) (c : List Portion) (w x r : Text) → joint mk c ++ ((w ++ x) ++ r) ≡ joint mk c ++ (w ++ (x ++ r))
put_on mk c w x r = ap (λ y. joint mk c ++ y) (append_assoc w x r)

-- one more portion
pub joint_end : (mk : ℕ → Bool) (c : List Portion) (s : Portion) → joint mk (c ++ (s ∷ [])) ≡ joint mk c ++ (s.0 ++ mark (list_any mk s.1))
joint_end mk [] s = ap (λ y. s.0 ++ y) (append-nil (mark (list_any mk s.1)))
joint_end mk (r ∷ c) s =
    let m = mark (list_any mk r.1) in
    let z = s.0 ++ mark (list_any mk s.1) in
    ap (λ y. r.0 ++ (m ++ y)) (joint_end mk c s) ∙ sym (append_assoc r.0 (m ++ joint mk c) z ∙ ap (λ y. r.0 ++ y) (append_assoc m (joint mk c) z))

or_no : (b : Bool) → (b || false) ≡ b
or_no true = refl
or_no false = refl

-- one more call
any_end : (mk : ℕ → Bool) (d : List ℕ) (x : ℕ) → list_any mk (d ++ (x ∷ [])) ≡ (list_any mk d || mk x)
any_end mk d x = list_any-append mk d (x ∷ []) ∙ ap (λ e. list_any mk d || e) (or_no (mk x))

-- ---- what isn't laid

quieted : (s : Phase) (w : Text) (n : List Bool) (i : ℕ) (q : Text) (d : List ℕ) (c : List Portion) (mk : ℕ → Bool) (ms : List Sign) → is_fine (run (quiet s) ms) ≡ true → Goes (quiet s) w n i q d c mk ms → whole mk (puts (at c w (length n) (gap_of s) d) ms) ≡ joint mk c ++ (w ++ (owed s false (first_token (bare ms)) ++ laid (marks (begun mk i (list_any mk d) ms)) i n q (bare_in s false false) (bare ms)))
quieted Free w n i q d c mk ms h g = g
quieted PlusMark w n i q d c mk ms h g = g
quieted MinusMark w n i q d c mk ms h g = g
quieted PlusHeld w n i q d c mk ms h g = g
quieted MinusHeld w n i q d c mk ms h g = g
quieted Opened w n i q d c mk ms h g = g
quieted OpenedOn w n i q d c mk ms h g = g
quieted Due w n i q d c mk ms h g = g
quieted DueOn w n i q d c mk ms h g = g
quieted Twice w n i q d c mk ms h g = g
quieted Bad w n i q d c mk ms h g = bad ms h

let_by : (s : Phase) (w : Text) (n : List Bool) (i : ℕ) (q : Text) (d : List ℕ) (c : List Portion) (mk : ℕ → Bool) (ms : List Sign) → is_fine (run (passed s) ms) ≡ true → Goes (passed s) w n i q d c mk ms → whole mk (puts (at c w (length n) (gap_of s) d) ms) ≡ joint mk c ++ (w ++ (owed s false (first_token (bare ms)) ++ laid (marks (begun mk i (list_any mk d) ms)) i n q (bare_in s (is_out (bare ms)) false) (bare ms)))
let_by Free w n i q d c mk ms h g = g
let_by PlusMark w n i q d c mk ms h g = g
let_by MinusMark w n i q d c mk ms h g = g
let_by PlusHeld w n i q d c mk ms h g = g
let_by MinusHeld w n i q d c mk ms h g = g
let_by Opened w n i q d c mk ms h g = g
let_by OpenedOn w n i q d c mk ms h g = g
let_by Due w n i q d c mk ms h g = g
let_by DueOn w n i q d c mk ms h g = g
let_by Twice w n i q d c mk ms h g = g
let_by Bad w n i q d c mk ms h g = bad ms h

-- ---- tokens

plus_first : (t : Text) → first_is (nat_eq 43) t ≡ nat_eq 43 (first_char t)
plus_first [] = refl
plus_first (c ∷ t) = refl

minus_first : (t : Text) → first_is (nat_eq 45) t ≡ nat_eq 45 (first_char t)
minus_first [] = refl
minus_first (c ∷ t) = refl

blank_is : (s : Phase) (t : Text) → blank (gap_of s) t ≡ owed s false t
blank_is Free t = refl
blank_is PlusMark t = refl
blank_is MinusMark t = refl
blank_is PlusHeld t = ap (λ b. cond b (32 ∷ []) []) (plus_first t)
blank_is MinusHeld t = ap (λ b. cond b (32 ∷ []) []) (minus_first t)
blank_is Opened t = refl
blank_is OpenedOn t = refl
blank_is Due t = refl
blank_is DueOn t = refl
blank_is Twice t = refl
blank_is Bad t = refl

-- a phase behind a token
abbrev is_after : Phase → Bool
is_after Free = true
is_after PlusMark = true
is_after MinusMark = true
is_after s = false

after_goes : (s : Phase) (w : Text) (n : List Bool) (i : ℕ) (q : Text) (c : List Portion) (mk : ℕ → Bool) (ms : List Sign) → is_after s ≡ true → Goes s w n i q [] c mk ms → whole mk (puts (at c w (length n) gap.Settled []) ms) ≡ joint mk c ++ (w ++ laid (marks (begun mk i false ms)) i n q false (bare ms))
after_goes Free w n i q c mk ms h g = g
after_goes PlusMark w n i q c mk ms h g = g
after_goes MinusMark w n i q c mk ms h g = g
after_goes PlusHeld w n i q c mk ms h g = absurd (false≢true h)
after_goes MinusHeld w n i q c mk ms h g = absurd (false≢true h)
after_goes Opened w n i q c mk ms h g = absurd (false≢true h)
after_goes OpenedOn w n i q c mk ms h g = absurd (false≢true h)
after_goes Due w n i q c mk ms h g = absurd (false≢true h)
after_goes DueOn w n i q c mk ms h g = absurd (false≢true h)
after_goes Twice w n i q c mk ms h g = absurd (false≢true h)
after_goes Bad w n i q c mk ms h g = absurd (false≢true h)

last_written : (w : Text) (c : ℕ) → last (w ++ (c ∷ [])) ≡ c
last_written [] c = refl
last_written (b ∷ []) c = refl
last_written (b ∷ d ∷ w) c = last_written (d ∷ w) c

record After (k : TokenKind) (t : Text) : Type 0 where
  pub after : is_after (after_token k t) ≡ true
  pub known : (w : Text) → Known (after_token k t) t (w ++ t)

free_after : (k : TokenKind) (t : Text) → after_token k t ≡ Free → After k t
free_after k t e = record { after = ap is_after e; known = λ w. subst (λ s. Known s t (w ++ t)) (sym e) tt }

mark_after : (t : Text) → After Punctuator t
mark_after t = go (same t (codes "+")) (same t (codes "-")) refl refl
  where
    go : (a b : Bool) → same t (codes "+") ≡ a → same t (codes "-") ≡ b → After Punctuator t
    go true b e f =
        let m : after_token Punctuator t ≡ PlusMark = ap (λ x. cond x PlusMark (cond (same t (codes "-")) MinusMark Free)) e in
        record { after = ap is_after m; known = λ w. subst (λ s. Known s t (w ++ t)) (sym m) (subst (λ x. (last x ≡ 43) × (last (w ++ x) ≡ 43)) (sym (same_is t (codes "+") e)) (refl, last_written w 43)) }
    go false true e f =
        let m : after_token Punctuator t ≡ MinusMark = ap (λ x. cond x PlusMark (cond (same t (codes "-")) MinusMark Free)) e ∙ ap (λ x. cond x MinusMark Free) f in
        record { after = ap is_after m; known = λ w. subst (λ s. Known s t (w ++ t)) (sym m) (subst (λ x. (last x ≡ 45) × (last (w ++ x) ≡ 45)) (sym (same_is t (codes "-") f)) (refl, last_written w 45)) }
    go false false e f = free_after Punctuator t (ap (λ x. cond x PlusMark (cond (same t (codes "-")) MinusMark Free)) e ∙ ap (λ x. cond x MinusMark Free) f)

token_after : (k : TokenKind) (t : Text) → After k t
token_after Punctuator t = mark_after t
token_after IdentifierName t = free_after IdentifierName t refl
token_after NumericLiteral t = free_after NumericLiteral t refl
token_after BigIntLiteral t = free_after BigIntLiteral t refl
token_after StringLiteral t = free_after StringLiteral t refl
token_after RegExpLiteral t = free_after RegExpLiteral t refl
token_after NoSubstitution t = free_after NoSubstitution t refl
token_after TemplateHead t = free_after TemplateHead t refl
token_after TemplateMiddle t = free_after TemplateMiddle t refl
token_after TemplateTail t = free_after TemplateTail t refl
token_after JsxName t = free_after JsxName t refl
token_after JsxString t = free_after JsxString t refl
token_after JsxText t = free_after JsxText t refl
token_after Elision t = free_after Elision t refl
token_after NoToken t = free_after NoToken t refl

-- w, then what is due, and the token
three_parts : (w a t r : Text) → (w ++ (a ++ t)) ++ r ≡ w ++ (a ++ (t ++ r))
three_parts w a t r = append_assoc w (a ++ t) r ∙ ap (λ x. w ++ x) (append_assoc a t r)

-- what is before, w, what is due, and the mark
four_parts : (j w a m r : Text) → (j ++ ((w ++ a) ++ m)) ++ r ≡ j ++ (w ++ (a ++ (m ++ r)))
four_parts j w a m r = append_assoc j ((w ++ a) ++ m) r ∙ ap (λ x. j ++ x) (append_assoc (w ++ a) m r ∙ append_assoc w a (m ++ r))

-- a token that begins no call, and what follows
plain_goes : (k : TokenKind) (t : Text) (ms : List Sign) → Lays ms → (s : Phase) (w : Text) (n : List Bool) (i : ℕ) (q : Text) (c : List Portion) (mk : ℕ → Bool) → is_fine (run (unless_bad s (after_token k t)) ms) ≡ true
    → whole mk (puts (at c (w ++ (blank (gap_of s) t ++ t)) (length n) gap.Settled []) ms) ≡ joint mk c ++ (w ++ (owed s false t ++ (t ++ laid (marks (begun mk (suc i) false ms)) (suc i) n t false (bare ms))))
plain_goes k t ms f s w n i q c mk h =
    let a : After k t = token_after k t in
    let v = w ++ (blank (gap_of s) t ++ t) in
    let x = laid (marks (begun mk (suc i) false ms)) (suc i) n t false (bare ms) in
    after_goes (after_token k t) v n (suc i) t c mk ms a.after (f (after_token k t) v n (suc i) t [] c mk (not_bad s (after_token k t) ms h) (subst (λ y. Known (after_token k t) t y) (append_assoc w (blank (gap_of s) t) t) (a.known (w ++ blank (gap_of s) t))))
    ∙ ap (λ y. joint mk c ++ y) (three_parts w (blank (gap_of s) t) t x) ∙ ap (λ y. joint mk c ++ (w ++ (y ++ (t ++ x)))) (blank_is s t)

-- the first token of calls, with the mark that stands before it, and what follows
first_goes : (k : TokenKind) (t : Text) (ms : List Sign) → Lays ms → (s : Phase) (w : Text) (n : List Bool) (i : ℕ) (q : Text) (d : List ℕ) (c : List Portion) (mk : ℕ → Bool) → is_fine (run (unless_bad s (after_token k t)) ms) ≡ true
    → whole mk (puts (at (c ++ ((w ++ blank (gap_of s) t, d) ∷ [])) t (length n) gap.Settled []) ms) ≡ joint mk c ++ (w ++ (owed s false t ++ (mark (list_any mk d) ++ (t ++ laid (marks (begun mk (suc i) false ms)) (suc i) n t false (bare ms)))))
first_goes k t ms f s w n i q d c mk h =
    let a : After k t = token_after k t in
    let e : List Portion = c ++ ((w ++ blank (gap_of s) t, d) ∷ []) in
    let m = mark (list_any mk d) in
    let x = laid (marks (begun mk (suc i) false ms)) (suc i) n t false (bare ms) in
    after_goes (after_token k t) t n (suc i) t e mk ms a.after (f (after_token k t) t n (suc i) t [] e mk (not_bad s (after_token k t) ms h) (a.known []))
    ∙ ap (λ y. y ++ (t ++ x)) (joint_end mk c (w ++ blank (gap_of s) t, d)) ∙ four_parts (joint mk c) w (blank (gap_of s) t) m (t ++ x) ∙ ap (λ y. joint mk c ++ (w ++ (y ++ (m ++ (t ++ x))))) (blank_is s t)

-- what the layout has of it
token_noted : (t : Text) (ms : List Sign) (n : List Bool) (i : ℕ) (b : Bool) (g : ℕ → Bool) → mark b ++ (t ++ laid (marks g) (suc i) n t false ms) ≡ notes_text n (marks (hold i b g) i) ++ (t ++ laid (marks (hold i b g)) (suc i) n t false ms)
token_noted t ms n i b g =
    ap (λ x. x ++ (t ++ laid (marks g) (suc i) n t false ms)) (sym (mark_text n b) ∙ ap (λ c. notes_text n (cond c (Beside (codes "/*#__PURE__*/") ∷ []) [])) (sym (held_here i b g)))
    ∙ ap (λ x. notes_text n (marks (hold i b g) i) ++ (t ++ x)) (sym (laid_on (hold i b g) g (suc i) n t false ms (held_on i b g)))

-- what the layout has behind w of a token with a mark or without
abbrev Noted : Bool → Phase → Text → Text → List Bool → ℕ → List Portion → (ℕ → Bool) → List Sign → Text
Noted b s w t n i c mk ms = joint mk c ++ (w ++ (owed s false t ++ (notes_text n (marks (hold i b (begun mk (suc i) false ms)) i) ++ (t ++ laid (marks (hold i b (begun mk (suc i) false ms))) (suc i) n t false (bare ms)))))

ink_lays : (k : TokenKind) (t : Text) (ms : List Sign) → Lays ms → (b : Bool) (s : Phase) (w : Text) (n : List Bool) (i : ℕ) (q : Text) (d : List ℕ) (c : List Portion) (mk : ℕ → Bool) → is_fine (run (unless_bad s (after_token k t)) ms) ≡ true
    → whole mk (puts (ink (b && is_due d) (at c w (length n) (gap_of s) d) t) ms) ≡ Noted (b && list_any mk d) s w t n i c mk ms
unfolding ink
ink_lays k t ms f true s w n i q (x ∷ d) c mk h = first_goes k t ms f s w n i q (x ∷ d) c mk h ∙ ap (λ y. joint mk c ++ (w ++ (owed s false t ++ y))) (token_noted t (bare ms) n i (list_any mk (x ∷ d)) (begun mk (suc i) false ms))
ink_lays k t ms f true s w n i q [] c mk h = plain_goes k t ms f s w n i q c mk h ∙ ap (λ y. joint mk c ++ (w ++ (owed s false t ++ y))) (token_noted t (bare ms) n i false (begun mk (suc i) false ms))
ink_lays k t ms f false s w n i q d c mk h = plain_goes k t ms f s w n i q c mk h ∙ ap (λ y. joint mk c ++ (w ++ (owed s false t ++ y))) (token_noted t (bare ms) n i false (begun mk (suc i) false ms))

-- by the mode in which it is read
coded_lays : (m : Mode) (k : TokenKind) (t : Text) (ms : List Sign) → Lays ms → (s : Phase) (w : Text) (n : List Bool) (i : ℕ) (q : Text) (d : List ℕ) (c : List Portion) (mk : ℕ → Bool) → is_fine (run (unless_bad s (after_token k t)) ms) ≡ true
    → whole mk (puts (coded m t (at c w (length n) (gap_of s) d)) ms) ≡ Noted (may_mark m t && list_any mk d) s w t n i c mk ms
unfolding inked unready
coded_lays Piece k t ms f s w n i q d c mk h = ap (λ b. whole mk (puts (ink b (at c w (length n) (gap_of s) []) t) ms)) (not_due (is_word t)) ∙ ink_lays k t ms f false s w n i q [] c mk h
coded_lays Children k t ms f s w n i q d c mk h = ap (λ b. whole mk (puts (ink b (at c w (length n) (gap_of s) []) t) ms)) (not_due (is_word t)) ∙ ink_lays k t ms f false s w n i q [] c mk h
coded_lays Operand k t ms f s w n i q d c mk h = ink_lays k t ms f (is_word t) s w n i q d c mk h
coded_lays Operator k t ms f s w n i q d c mk h = ink_lays k t ms f (is_word t) s w n i q d c mk h
coded_lays Tag k t ms f s w n i q d c mk h = ink_lays k t ms f (is_word t) s w n i q d c mk h

-- a token, or the place of a call
tok_lays : (b : Bool) (m : Mode) (k : TokenKind) (t : Text) (ms : List Sign) → Lays ms → (s : Phase) (w : Text) (n : List Bool) (i : ℕ) (q : Text) (d : List ℕ) (c : List Portion) (mk : ℕ → Bool) → is_fine (run (past b s k t) ms) ≡ true → Known s q w
    → whole mk (puts (toked b m t (at c w (length n) (gap_of s) d)) ms)
    ≡ joint mk c ++ (w ++ (owed s (is_pad (cond b (bare ms) (Tok m k t ∷ bare ms))) (first_token (cond b (bare ms) (Tok m k t ∷ bare ms))) ++ laid (marks (cond b (begun mk i (list_any mk d || mk (first_place t)) ms) (hold i (may_mark m t && list_any mk d) (begun mk (suc i) false ms)))) i n q (bare_in s (is_out (cond b (bare ms) (Tok m k t ∷ bare ms))) (is_pad (cond b (bare ms) (Tok m k t ∷ bare ms)))) (cond b (bare ms) (Tok m k t ∷ bare ms))))
unfolding placed
tok_lays true m k t ms f s w n i q d c mk h l =
    f s w n i q (d ++ (first_place t ∷ [])) c mk h l
    ∙ ap (λ e. joint mk c ++ (w ++ (owed s (is_pad (bare ms)) (first_token (bare ms)) ++ laid (marks (begun mk i e ms)) i n q (bare_in s (is_out (bare ms)) (is_pad (bare ms))) (bare ms)))) (any_end mk d (first_place t))
tok_lays false m k t ms f s w n i q d c mk h l = coded_lays m k t ms f s w n i q d c mk h

semi_lays : (ms : List Sign) → Lays ms → (s : Phase) (w : Text) (n : List Bool) (i : ℕ) (q : Text) (d : List ℕ) (c : List Portion) (mk : ℕ → Bool) → is_fine (run (step s Semicolon) ms) ≡ true
    → whole mk (puts (inked (at c w (length n) (gap_of s) d) (59 ∷ [])) ms) ≡ joint mk c ++ (w ++ (owed s false (first_token (bare ms)) ++ (59 ∷ laid (marks (begun mk (suc i) false ms)) (suc i) n q false (bare ms))))
unfolding inked ink
semi_lays ms f PlusHeld w n i q d c mk h = bad ms h
semi_lays ms f MinusHeld w n i q d c mk h = bad ms h
semi_lays ms f Bad w n i q d c mk h = bad ms h
semi_lays ms f Free w n i q d c mk h = f Free (w ++ (59 ∷ [])) n (suc i) q [] c mk h tt ∙ put_on mk c w (59 ∷ []) _
semi_lays ms f PlusMark w n i q d c mk h = f Free (w ++ (59 ∷ [])) n (suc i) q [] c mk h tt ∙ put_on mk c w (59 ∷ []) _
semi_lays ms f MinusMark w n i q d c mk h = f Free (w ++ (59 ∷ [])) n (suc i) q [] c mk h tt ∙ put_on mk c w (59 ∷ []) _
semi_lays ms f Opened w n i q d c mk h = f Free (w ++ (59 ∷ [])) n (suc i) q [] c mk h tt ∙ put_on mk c w (59 ∷ []) _
semi_lays ms f OpenedOn w n i q d c mk h = f Free (w ++ (59 ∷ [])) n (suc i) q [] c mk h tt ∙ put_on mk c w (59 ∷ []) _
semi_lays ms f Twice w n i q d c mk h = f Free (w ++ (59 ∷ [])) n (suc i) q [] c mk h tt ∙ put_on mk c w (59 ∷ []) _
semi_lays ms f Due w n i q d c mk h = f Free (w ++ (32 ∷ 59 ∷ [])) n (suc i) q [] c mk h tt ∙ put_on mk c w (32 ∷ 59 ∷ []) _
semi_lays ms f DueOn w n i q d c mk h = f Free (w ++ (32 ∷ 59 ∷ [])) n (suc i) q [] c mk h tt ∙ put_on mk c w (32 ∷ 59 ∷ []) _

-- ---- blanks and lines

free_text : (ms : List Sign) → Lays ms → (w x : Text) (n : List Bool) (i : ℕ) (q : Text) (c : List Portion) (mk : ℕ → Bool) → is_fine (run Free ms) ≡ true → whole mk (puts (at c (w ++ x) (length n) gap.Settled []) ms) ≡ joint mk c ++ (w ++ (x ++ laid (marks (begun mk i false ms)) i n q false (bare ms)))
free_text ms f w x n i q c mk h = f Free (w ++ x) n i q [] c mk h tt ∙ put_on mk c w x _

space_lays : (ms : List Sign) → Lays ms → (s : Phase) (w : Text) (n : List Bool) (i : ℕ) (q : Text) (d : List ℕ) (c : List Portion) (mk : ℕ → Bool) → is_fine (run (step s Space) ms) ≡ true → Goes s w n i q d c mk (Space ∷ ms)
unfolding raw
space_lays ms f Free w n i q d c mk h = free_text ms f w (32 ∷ []) n i q c mk h
space_lays ms f PlusMark w n i q d c mk h = free_text ms f w (32 ∷ []) n i q c mk h
space_lays ms f MinusMark w n i q d c mk h = free_text ms f w (32 ∷ []) n i q c mk h
space_lays ms f Opened w n i q d c mk h = free_text ms f w (32 ∷ []) n i q c mk h
space_lays ms f OpenedOn w n i q d c mk h = free_text ms f w (32 ∷ []) n i q c mk h
space_lays ms f PlusHeld w n i q d c mk h = bad ms h
space_lays ms f MinusHeld w n i q d c mk h = bad ms h
space_lays ms f Due w n i q d c mk h = bad ms h
space_lays ms f DueOn w n i q d c mk h = bad ms h
space_lays ms f Twice w n i q d c mk h = bad ms h
space_lays ms f Bad w n i q d c mk h = bad ms h

line_text : (ms : List Sign) → Lays ms → (w : Text) (n : List Bool) (i : ℕ) (q : Text) (c : List Portion) (mk : ℕ → Bool) → is_fine (run Free ms) ≡ true → whole mk (puts (at c (w ++ (10 ∷ margin (length n))) (length n) gap.Settled []) ms) ≡ joint mk c ++ (w ++ (line n ++ laid (marks (begun mk i false ms)) i n q false (bare ms)))
line_text ms f w n i q c mk h = ap (λ t. whole mk (puts (at c (w ++ (10 ∷ t)) (length n) gap.Settled []) ms)) (margin_is n) ∙ free_text ms f w (line n) n i q c mk h

line_lays : (ms : List Sign) → Lays ms → (s : Phase) (w : Text) (n : List Bool) (i : ℕ) (q : Text) (d : List ℕ) (c : List Portion) (mk : ℕ → Bool) → is_fine (run (step s Line) ms) ≡ true → Goes s w n i q d c mk (Line ∷ ms)
unfolding lined
line_lays ms f Free w n i q d c mk h = line_text ms f w n i q c mk h
line_lays ms f PlusMark w n i q d c mk h = line_text ms f w n i q c mk h
line_lays ms f MinusMark w n i q d c mk h = line_text ms f w n i q c mk h
line_lays ms f Opened w n i q d c mk h = line_text ms f w n i q c mk h
line_lays ms f OpenedOn w n i q d c mk h = line_text ms f w n i q c mk h
line_lays ms f PlusHeld w n i q d c mk h = bad ms h
line_lays ms f MinusHeld w n i q d c mk h = bad ms h
line_lays ms f Due w n i q d c mk h = bad ms h
line_lays ms f DueOn w n i q d c mk h = bad ms h
line_lays ms f Twice w n i q d c mk h = bad ms h
line_lays ms f Bad w n i q d c mk h = bad ms h

pulled : (ms : List Sign) → Lays ms → (w : Text) (n : List Bool) (i : ℕ) (q : Text) (c : List Portion) (mk : ℕ → Bool) → is_fine (run Free ms) ≡ true → whole mk (puts (at c w (length n - 1) gap.Settled []) ms) ≡ joint mk c ++ (w ++ laid (marks (begun mk i false ms)) i (pull n) q false (bare ms))
pulled ms f w n i q c mk h = ap (λ d. whole mk (puts (at c w d gap.Settled []) ms)) (pull_is n) ∙ f Free w (pull n) i q [] c mk h tt

unindent_lays : (ms : List Sign) → Lays ms → (s : Phase) (w : Text) (n : List Bool) (i : ℕ) (q : Text) (d : List ℕ) (c : List Portion) (mk : ℕ → Bool) → is_fine (run (step s Unindent) ms) ≡ true → Goes s w n i q d c mk (Unindent ∷ ms)
unfolding unindented
unindent_lays ms f Free w n i q d c mk h = pulled ms f w n i q c mk h
unindent_lays ms f PlusMark w n i q d c mk h = pulled ms f w n i q c mk h
unindent_lays ms f MinusMark w n i q d c mk h = pulled ms f w n i q c mk h
unindent_lays ms f Opened w n i q d c mk h = pulled ms f w n i q c mk h
unindent_lays ms f OpenedOn w n i q d c mk h = pulled ms f w n i q c mk h
unindent_lays ms f PlusHeld w n i q d c mk h = bad ms h
unindent_lays ms f MinusHeld w n i q d c mk h = bad ms h
unindent_lays ms f Due w n i q d c mk h = bad ms h
unindent_lays ms f DueOn w n i q d c mk h = bad ms h
unindent_lays ms f Twice w n i q d c mk h = bad ms h
unindent_lays ms f Bad w n i q d c mk h = bad ms h

outdent_text : (ms : List Sign) → Lays ms → (w : Text) (n : List Bool) (i : ℕ) (q : Text) (c : List Portion) (mk : ℕ → Bool) → is_fine (run Free ms) ≡ true → whole mk (puts (at c (w ++ (10 ∷ margin (length n - 1))) (length n - 1) gap.Settled []) ms) ≡ joint mk c ++ (w ++ (line (pull n) ++ laid (marks (begun mk i false ms)) i (pull n) q false (bare ms)))
outdent_text ms f w n i q c mk h = ap (λ d. whole mk (puts (at c (w ++ (10 ∷ margin d)) d gap.Settled []) ms)) (pull_is n) ∙ line_text ms f w (pull n) i q c mk h

outdent_lays : (ms : List Sign) → Lays ms → (s : Phase) (w : Text) (n : List Bool) (i : ℕ) (q : Text) (d : List ℕ) (c : List Portion) (mk : ℕ → Bool) → is_fine (run (step s Outdent) ms) ≡ true → Goes s w n i q d c mk (Outdent ∷ ms)
unfolding outdented unindented lined
outdent_lays ms f Free w n i q d c mk h = outdent_text ms f w n i q c mk h
outdent_lays ms f PlusMark w n i q d c mk h = outdent_text ms f w n i q c mk h
outdent_lays ms f MinusMark w n i q d c mk h = outdent_text ms f w n i q c mk h
outdent_lays ms f Opened w n i q d c mk h = pulled ms f w n i q c mk h
outdent_lays ms f OpenedOn w n i q d c mk h = bad ms h
outdent_lays ms f PlusHeld w n i q d c mk h = bad ms h
outdent_lays ms f MinusHeld w n i q d c mk h = bad ms h
outdent_lays ms f Due w n i q d c mk h = bad ms h
outdent_lays ms f DueOn w n i q d c mk h = bad ms h
outdent_lays ms f Twice w n i q d c mk h = bad ms h
outdent_lays ms f Bad w n i q d c mk h = bad ms h

indent_lays : (ms : List Sign) → Lays ms → (s : Phase) (w : Text) (n : List Bool) (i : ℕ) (q : Text) (d : List ℕ) (c : List Portion) (mk : ℕ → Bool) → is_fine (run (step s Indent) ms) ≡ true → Goes s w n i q d c mk (Indent ∷ ms)
unfolding indented
indent_lays ms f Free w n i q d c mk h = f Opened w (true ∷ n) i q [] c mk h tt
indent_lays ms f PlusMark w n i q d c mk h = f Opened w (true ∷ n) i q [] c mk h tt
indent_lays ms f MinusMark w n i q d c mk h = f Opened w (true ∷ n) i q [] c mk h tt
indent_lays ms f Opened w n i q d c mk h = bad ms h
indent_lays ms f OpenedOn w n i q d c mk h = bad ms h
indent_lays ms f PlusHeld w n i q d c mk h = bad ms h
indent_lays ms f MinusHeld w n i q d c mk h = bad ms h
indent_lays ms f Due w n i q d c mk h = bad ms h
indent_lays ms f DueOn w n i q d c mk h = bad ms h
indent_lays ms f Twice w n i q d c mk h = bad ms h
indent_lays ms f Bad w n i q d c mk h = bad ms h

pad_lays : (ms : List Sign) → Lays ms → (s : Phase) (w : Text) (n : List Bool) (i : ℕ) (q : Text) (d : List ℕ) (c : List Portion) (mk : ℕ → Bool) → is_fine (run (step s Pad) ms) ≡ true → Goes s w n i q d c mk (Pad ∷ ms)
unfolding padded
pad_lays ms f Free w n i q d c mk h = f Due w n i q [] c mk h tt
pad_lays ms f PlusMark w n i q d c mk h = f Due w n i q [] c mk h tt
pad_lays ms f MinusMark w n i q d c mk h = f Due w n i q [] c mk h tt
pad_lays ms f Due w n i q d c mk h = f Twice w n i q [] c mk h tt
pad_lays ms f Opened w n i q d c mk h = bad ms h
pad_lays ms f OpenedOn w n i q d c mk h = bad ms h
pad_lays ms f PlusHeld w n i q d c mk h = bad ms h
pad_lays ms f MinusHeld w n i q d c mk h = bad ms h
pad_lays ms f DueOn w n i q d c mk h = bad ms h
pad_lays ms f Twice w n i q d c mk h = bad ms h
pad_lays ms f Bad w n i q d c mk h = bad ms h

apart_lays : (ms : List Sign) → Lays ms → (s : Phase) (w : Text) (n : List Bool) (i : ℕ) (q : Text) (d : List ℕ) (c : List Portion) (mk : ℕ → Bool) → is_fine (run (step s Apart) ms) ≡ true → Known s q w → Goes s w n i q d c mk (Apart ∷ ms)
unfolding parted
apart_lays ms f PlusMark w n i q d c mk h k =
    ap (λ z. whole mk (puts (at c w (length n) (sign_gap z) []) ms)) k.1 ∙ f PlusHeld w n i q [] c mk h tt
    ∙ ap (λ z. joint mk c ++ (w ++ (cond (nat_eq z (first_char (first_token (bare ms)))) (32 ∷ []) [] ++ laid (marks (begun mk i false ms)) i n q false (bare ms)))) (sym k.0)
apart_lays ms f MinusMark w n i q d c mk h k =
    ap (λ z. whole mk (puts (at c w (length n) (sign_gap z) []) ms)) k.1 ∙ f MinusHeld w n i q [] c mk h tt
    ∙ ap (λ z. joint mk c ++ (w ++ (cond (nat_eq z (first_char (first_token (bare ms)))) (32 ∷ []) [] ++ laid (marks (begun mk i false ms)) i n q false (bare ms)))) (sym k.0)
apart_lays ms f Free w n i q d c mk h k = bad ms h
apart_lays ms f Opened w n i q d c mk h k = bad ms h
apart_lays ms f OpenedOn w n i q d c mk h k = bad ms h
apart_lays ms f PlusHeld w n i q d c mk h k = bad ms h
apart_lays ms f MinusHeld w n i q d c mk h k = bad ms h
apart_lays ms f Due w n i q d c mk h k = bad ms h
apart_lays ms f DueOn w n i q d c mk h k = bad ms h
apart_lays ms f Twice w n i q d c mk h k = bad ms h
apart_lays ms f Bad w n i q d c mk h k = bad ms h

end_lays : Lays []
end_lays Free w n i q d c mk h k = ap (λ y. joint mk c ++ y) (sym (append-nil w))
end_lays PlusMark w n i q d c mk h k = ap (λ y. joint mk c ++ y) (sym (append-nil w))
end_lays MinusMark w n i q d c mk h k = ap (λ y. joint mk c ++ y) (sym (append-nil w))
end_lays PlusHeld w n i q d c mk h k = absurd (false≢true h)
end_lays MinusHeld w n i q d c mk h k = absurd (false≢true h)
end_lays Opened w n i q d c mk h k = absurd (false≢true h)
end_lays OpenedOn w n i q d c mk h k = absurd (false≢true h)
end_lays Due w n i q d c mk h k = absurd (false≢true h)
end_lays DueOn w n i q d c mk h k = absurd (false≢true h)
end_lays Twice w n i q d c mk h k = absurd (false≢true h)
end_lays Bad w n i q d c mk h k = absurd (false≢true h)

-- ---- all signs

pub lays : (ms : List Sign) → Lays ms
lays [] s w n i q d c mk h k = end_lays s w n i q d c mk h k
lays (Tok m z t ∷ ms) s w n i q d c mk h k = tok_lays (is_place z) m z t ms (lays ms) s w n i q d c mk h k
lays (Semicolon ∷ ms) s w n i q d c mk h k = semi_lays ms (lays ms) s w n i q d c mk h
lays (Space ∷ ms) s w n i q d c mk h k = space_lays ms (lays ms) s w n i q d c mk h
lays (Pad ∷ ms) s w n i q d c mk h k = pad_lays ms (lays ms) s w n i q d c mk h
lays (Line ∷ ms) s w n i q d c mk h k = line_lays ms (lays ms) s w n i q d c mk h
lays (Indent ∷ ms) s w n i q d c mk h k = indent_lays ms (lays ms) s w n i q d c mk h
lays (Outdent ∷ ms) s w n i q d c mk h k = outdent_lays ms (lays ms) s w n i q d c mk h
lays (Unindent ∷ ms) s w n i q d c mk h k = unindent_lays ms (lays ms) s w n i q d c mk h
lays (Apart ∷ ms) s w n i q d c mk h k = apart_lays ms (lays ms) s w n i q d c mk h k
lays (Begin ∷ ms) s w n i q d c mk h k = let_by s w n i q d c mk ms h (lays ms (passed s) w n i q d c mk h (passed_known s q w))
lays (End ∷ ms) s w n i q d c mk h k = let_by s w n i q d c mk ms h (lays ms (passed s) w n i q d c mk h (passed_known s q w))
lays (TrailingComma ∷ ms) s w n i q d c mk h k = quieted s w n i q d c mk ms h (lays ms (quiet s) w n i q d c mk h (quiet_known s q w))
lays (Unless ts ∷ ms) s w n i q d c mk h k = quieted s w n i q d c mk ms h (lays ms (quiet s) w n i q d c mk h (quiet_known s q w))
lays (SameLine ∷ ms) s w n i q d c mk h k = quieted s w n i q d c mk ms h (lays ms (quiet s) w n i q d c mk h (quiet_known s q w))
lays (Ends e ∷ ms) s w n i q d c mk h k = quieted s w n i q d c mk ms h (lays ms (quiet s) w n i q d c mk h (quiet_known s q w))
lays (Count ∷ ms) s w n i q d c mk h k = quieted s w n i q d c mk ms h (lays ms (quiet s) w n i q d c mk h (quiet_known s q w))
lays (One ∷ ms) s w n i q d c mk h k = quieted s w n i q d c mk ms h (lays ms (quiet s) w n i q d c mk h (quiet_known s q w))

-- with the marks that are said of the places of the calls
pub puts_lay : (mk : ℕ → Bool) (ms : List Sign) → is_fine (run Free ms) ≡ true → whole mk (puts begin ms) ≡ laid (marks (begun mk 0 false ms)) 0 [] [] false (bare ms)
puts_lay mk ms h = lays ms Free [] [] 0 [] [] [] mk h tt
