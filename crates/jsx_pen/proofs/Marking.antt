-- Which tokens of a list of signs have a mark, where it is said of the words.
use Rattle.std.proofs.Common.{◌≡◌, ℕ, suc, ◌-◌, ◌≤◌, List, [], ◌∷◌, ◌++◌, Bool, true, false, not, ◌&&◌, ◌||◌, cond, codes, refl, sym, ap, ◌∙◌, arith, append_assoc, append-nil}
use Rattle.std.specs.Prelude.{nat_eq}
use Rattle.std.proofs.lemmas.Bool.{eq-eqb, ne_eqb, and_from, and_parts}
use Rattle.jsx_base.specs.Token.{Text, Mode, TokenKind, Operand, Operator, Piece, Tag, Children, skips}
use Rattle.jsx_tree.specs.Signs.{Sign, Tok, Semicolon, TrailingComma, Unless, SameLine, Ends, Space, Pad, Line, Indent, Outdent, Unindent, Apart, Begin, Count, One, End}
use Rattle.jsx_tree.specs.Layout.{Beside, laid, notes_text, line, pull, is_pad, is_out, last, first_char, first_token}
use Rattle.jsx_tree.specs.Notes.{marks, at_code}
use Rattle.jsx_pen.specs.Calls.{is_place, first_place, bare, hold, may_mark, begun}
use Rattle.jsx_pen.specs.Pen.{mark}

pub held_here : (i : ℕ) (b : Bool) (g : ℕ → Bool) → hold i b g i ≡ b
held_here i b g = ap (λ c. cond c b (g i)) (eq-eqb i i refl)

pub held_on : (i : ℕ) (b : Bool) (g : ℕ → Bool) (k : ℕ) → suc i ≤ k → hold i b g k ≡ g k
held_on i b g k l = ap (λ c. cond c b (g k)) (ne_eqb k i (λ e. omega (arith, l, e)))

-- a mark as a note of a layout
pub mark_text : (n : List Bool) (b : Bool) → notes_text n (cond b (Beside (codes "/*#__PURE__*/") ∷ []) []) ≡ mark b
mark_text n true = refl
mark_text n false = refl

-- ---- what is said of earlier tokens doesn't matter

abbrev Same : (ℕ → Bool) → (ℕ → Bool) → ℕ → Type 0
Same g h i = (k : ℕ) → i ≤ k → g k ≡ h k

later : (g h : ℕ → Bool) (i : ℕ) → Same g h i → Same g h (suc i)
later g h i e k l = e k (omega (arith, l))

here : (g h : ℕ → Bool) (i : ℕ) → Same g h i → g i ≡ h i
here g h i e = e i (omega arith)

pub laid_on : (g h : ℕ → Bool) (i : ℕ) (n : List Bool) (q : Text) (b : Bool) (ms : List Sign) → Same g h i → laid (marks g) i n q b ms ≡ laid (marks h) i n q b ms
laid_on g h i n q b [] e = ap (λ c. notes_text n (cond c (Beside (codes "/*#__PURE__*/") ∷ []) [])) (here g h i e)
laid_on g h i n q b (Tok m z t ∷ ms) e =
    ap (λ c. notes_text n (cond c (Beside (codes "/*#__PURE__*/") ∷ []) []) ++ (t ++ laid (marks g) (suc i) n t false ms)) (here g h i e)
    ∙ ap (λ r. notes_text n (marks h i) ++ (t ++ r)) (laid_on g h (suc i) n t false ms (later g h i e))
laid_on g h i n q b (Semicolon ∷ ms) e = ap (λ r. 59 ∷ r) (laid_on g h (suc i) n q false ms (later g h i e))
laid_on g h i n q b (Space ∷ ms) e = ap (λ r. 32 ∷ r) (laid_on g h i n q false ms e)
laid_on g h i n q b (Pad ∷ ms) e = ap (λ r. cond (b || is_pad ms) [] (32 ∷ []) ++ r) (laid_on g h i n q (is_pad ms) ms e)
laid_on g h i n q b (Line ∷ ms) e = ap (λ r. line n ++ r) (laid_on g h i n q false ms e)
laid_on g h i n q b (Indent ∷ ms) e = laid_on g h i (true ∷ n) q (is_out ms) ms e
laid_on g h i n q b (Outdent ∷ ms) e = ap (λ r. cond b [] (line (pull n)) ++ r) (laid_on g h i (pull n) q false ms e)
laid_on g h i n q b (Unindent ∷ ms) e = laid_on g h i (pull n) q false ms e
laid_on g h i n q b (Apart ∷ ms) e = ap (λ r. cond (nat_eq (last q) (first_char (first_token ms))) (32 ∷ []) [] ++ r) (laid_on g h i n q false ms e)
laid_on g h i n q b (TrailingComma ∷ ms) e = laid_on g h i n q b ms e
laid_on g h i n q b (Unless ts ∷ ms) e = laid_on g h i n q b ms e
laid_on g h i n q b (SameLine ∷ ms) e = laid_on g h i n q b ms e
laid_on g h i n q b (Ends x ∷ ms) e = laid_on g h i n q b ms e
laid_on g h i n q b (Begin ∷ ms) e = laid_on g h i n q b ms e
laid_on g h i n q b (Count ∷ ms) e = laid_on g h i n q b ms e
laid_on g h i n q b (One ∷ ms) e = laid_on g h i n q b ms e
laid_on g h i n q b (End ∷ ms) e = laid_on g h i n q b ms e

code_on : (g h : ℕ → Bool) (i : ℕ) (ms : List Sign) → Same g h i → at_code h i ms ≡ true → at_code g i ms ≡ true
code_on g h i [] e w = refl
code_on g h i (Tok Piece z t ∷ ms) e w = let p = and_parts _ _ w in and_from _ _ (ap (λ c. not c || false) (here g h i e) ∙ p.0) (code_on g h (suc i) ms (later g h i e) p.1)
code_on g h i (Tok Children z t ∷ ms) e w = let p = and_parts _ _ w in and_from _ _ (ap (λ c. not c || false) (here g h i e) ∙ p.0) (code_on g h (suc i) ms (later g h i e) p.1)
code_on g h i (Tok Operand z t ∷ ms) e w = let p = and_parts _ _ w in and_from _ _ (ap (λ c. not c || true) (here g h i e) ∙ p.0) (code_on g h (suc i) ms (later g h i e) p.1)
code_on g h i (Tok Operator z t ∷ ms) e w = let p = and_parts _ _ w in and_from _ _ (ap (λ c. not c || true) (here g h i e) ∙ p.0) (code_on g h (suc i) ms (later g h i e) p.1)
code_on g h i (Tok Tag z t ∷ ms) e w = let p = and_parts _ _ w in and_from _ _ (ap (λ c. not c || true) (here g h i e) ∙ p.0) (code_on g h (suc i) ms (later g h i e) p.1)
code_on g h i (Semicolon ∷ ms) e w = code_on g h (suc i) ms (later g h i e) w
code_on g h i (Space ∷ ms) e w = code_on g h i ms e w
code_on g h i (Pad ∷ ms) e w = code_on g h i ms e w
code_on g h i (Line ∷ ms) e w = code_on g h i ms e w
code_on g h i (Indent ∷ ms) e w = code_on g h i ms e w
code_on g h i (Outdent ∷ ms) e w = code_on g h i ms e w
code_on g h i (Unindent ∷ ms) e w = code_on g h i ms e w
code_on g h i (Apart ∷ ms) e w = code_on g h i ms e w
code_on g h i (TrailingComma ∷ ms) e w = code_on g h i ms e w
code_on g h i (Unless ts ∷ ms) e w = code_on g h i ms e w
code_on g h i (SameLine ∷ ms) e w = code_on g h i ms e w
code_on g h i (Ends x ∷ ms) e w = code_on g h i ms e w
code_on g h i (Begin ∷ ms) e w = code_on g h i ms e w
code_on g h i (Count ∷ ms) e w = code_on g h i ms e w
code_on g h i (One ∷ ms) e w = code_on g h i ms e w
code_on g h i (End ∷ ms) e w = code_on g h i ms e w

-- ---- only tokens of code have marks

or_yes : (b : Bool) → (not b || true) ≡ true
or_yes true = refl
or_yes false = refl

-- a token that may have one is a token of code
code_token : (m : Mode) (t : Text) (d : Bool) → (not (may_mark m t && d) || skips m) ≡ true
code_token Piece t d = refl
code_token Children t d = refl
code_token Operand t d = or_yes (may_mark Operand t && d)
code_token Operator t d = or_yes (may_mark Operator t && d)
code_token Tag t d = or_yes (may_mark Tag t && d)

token_code : (b : Bool) (f : ℕ → Bool) (i : ℕ) (d : Bool) (m : Mode) (k : TokenKind) (t : Text) (ms : List Sign) → ((i : ℕ) (d : Bool) → at_code (begun f i d ms) i (bare ms) ≡ true)
    → at_code (cond b (begun f i (d || f (first_place t)) ms) (hold i (may_mark m t && d) (begun f (suc i) false ms))) i (cond b (bare ms) (Tok m k t ∷ bare ms)) ≡ true
token_code true f i d m k t ms h = h i (d || f (first_place t))
token_code false f i d m k t ms h =
    let b = may_mark m t && d in
    let g = begun f (suc i) false ms in
    and_from _ _ (ap (λ c. not c || skips m) (held_here i b g) ∙ code_token m t d) (code_on (hold i b g) g (suc i) (bare ms) (held_on i b g) (h (suc i) false))

pub begun_code : (f : ℕ → Bool) (i : ℕ) (d : Bool) (ms : List Sign) → at_code (begun f i d ms) i (bare ms) ≡ true
begun_code f i d [] = refl
begun_code f i d (Tok m k t ∷ ms) = token_code (is_place k) f i d m k t ms (λ j c. begun_code f j c ms)
begun_code f i d (Semicolon ∷ ms) = begun_code f (suc i) false ms
begun_code f i d (Space ∷ ms) = begun_code f i false ms
begun_code f i d (Pad ∷ ms) = begun_code f i false ms
begun_code f i d (Line ∷ ms) = begun_code f i false ms
begun_code f i d (Indent ∷ ms) = begun_code f i false ms
begun_code f i d (Outdent ∷ ms) = begun_code f i false ms
begun_code f i d (Unindent ∷ ms) = begun_code f i false ms
begun_code f i d (Apart ∷ ms) = begun_code f i false ms
begun_code f i d (TrailingComma ∷ ms) = begun_code f i d ms
begun_code f i d (Unless ts ∷ ms) = begun_code f i d ms
begun_code f i d (SameLine ∷ ms) = begun_code f i d ms
begun_code f i d (Ends x ∷ ms) = begun_code f i d ms
begun_code f i d (Begin ∷ ms) = begun_code f i d ms
begun_code f i d (Count ∷ ms) = begun_code f i d ms
begun_code f i d (One ∷ ms) = begun_code f i d ms
begun_code f i d (End ∷ ms) = begun_code f i d ms
