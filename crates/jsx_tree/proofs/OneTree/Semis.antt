-- Where a semicolon stands or is missing behind an expression, nothing goes on with the expression.
use Rattle.std.proofs.Common.{◌≡◌, ℕ, Bool, true, false, not, cond, List, [], ◌∷◌, refl, sym, ◌∙◌, ap, subst, inl, inr}
use Rattle.std.specs.Prelude.{IsTrue, ◌&&◌, ◌||◌, ◌⊎◌, nat_eq, nat_le, codes}
use Rattle.jsx_base.specs.Token.{Text, Operator, Punctuator, Lexeme, kind_number, same, among, begins, state, lexed, no_token, at_front, token, skip, breaks, is_token, is_end}
use Rattle.jsx_tree.specs.Signs.{Ending, AfterExpr, Semicolon}
use Rattle.jsx_tree.specs.Reading.{Place, At, forth, go_if, may_lack, continues, going_on, is_backquote}
use Rattle.jsx_tree.proofs.Tokens.{and_left, and_right, same_is}
use Rattle.jsx_tree.specs.Walk.{is_found}
use Rattle.jsx_tree.proofs.OneTree.Readings.{ahead, Entry, entry, entries, lookup, is_step, reach_of, calm}
use Rattle.jsx_tree.proofs.OneTree.Facts.{never, or_else, not_is, Test, yes', no', test}

-- every token that goes on is one of the definitions' list
abbrev pub covered : List Entry → Bool
covered [] = true
covered (entry t n ∷ es) = among t going_on && covered es

all_covered : covered entries ≡ true
all_covered = refl

lookup_none : (t : Text) (es : List Entry) → covered es ≡ true → among t going_on ≡ false → lookup t es ≡ 0
lookup_none t [] c a = refl
lookup_none t (entry u n ∷ es) c a = by_case (test (same t u)) (lookup_none t es (and_right (among u going_on) (covered es) c) a)
  where
    by_case : Test (same t u) → lookup t es ≡ 0 → lookup t (entry u n ∷ es) ≡ 0
    by_case (yes' s) r = absurd (never (among u going_on) (and_left (among u going_on) (covered es) c) (subst (λ v. among v going_on ≡ false) (same_is t u s) a))
    by_case (no' s) r = subst (λ b. cond b n (lookup t es) ≡ 0) (sym s) r

-- what doesn't go on, at the front of a line
quiet_token : (k : ℕ) (t : Text) → among t going_on ≡ false → is_backquote t ≡ false → reach_of k t true ≡ 0
quiet_token k t a b =
    (λ i. cond (b i) 19 (cond (nat_eq k 1 || nat_eq k 0) (cond (is_step t) 0 (lookup_none t entries all_covered a i)) 0)) ∙ all_zero (nat_eq k 1 || nat_eq k 0) (is_step t)
  where
    all_zero : (p q : Bool) → ◌≡◌ {A = ℕ} (cond p (cond q 0 0) 0) 0
    all_zero true true = refl
    all_zero true false = refl
    all_zero false q = refl

-- the token that is looked at, and the one that is read: they differ before a `-->` at the front of a text alone, where none is read
unsure : (p q b : Bool) (n l : Lexeme) → (cond (p || q) n l ≡ cond (p || (b && q)) n l) ⊎ (cond (p || q) n l ≡ n)
unsure true q b n l = inl refl
unsure false false true n l = inl refl
unsure false false false n l = inl refl
unsure false true b n l = inr refl

front : (b : Bool) (s : Text) → (at_front Operator true s ≡ at_front Operator b s) ⊎ (at_front Operator true s ≡ no_token s)
front b [] = inl refl
front b (c ∷ s) = unsure (begins (codes "<!--") (c ∷ s)) (begins (codes "-->") (c ∷ s)) b (no_token (c ∷ s)) (lexed Operator (state Operator c s) c s)

pub next_same : (f : Bool) (text : Text) → (token Operator f text ≡ token Operator false text) ⊎ (token Operator f text ≡ no_token (skip text))
next_same false text = inl refl
next_same true text = front (breaks text) (skip text)

pub reach_from : (q : Text) (e : Ending) (text : Text) → reach_of (kind_number (token Operator false text).kind) (token Operator false text).raw (breaks text) ≡ 0 → ahead (At q e text) ≡ 0
reach_from q e text h = by_next (next_same (same q []) text)
  where
    none_here : (b : Bool) → reach_of 14 [] b ≡ 0
    none_here b = refl

    by_next : (token Operator (same q []) text ≡ token Operator false text) ⊎ (token Operator (same q []) text ≡ no_token (skip text)) → ahead (At q e text) ≡ 0
    by_next (inl s) = (λ i. reach_of (kind_number (s i).kind) (s i).raw (breaks text)) ∙ h
    by_next (inr s) = (λ i. reach_of (kind_number (s i).kind) (s i).raw (breaks text)) ∙ none_here (breaks text)

-- at the end of the text
pub end_reach : (text : Text) → is_end text ≡ true → reach_of (kind_number (token Operator false text).kind) (token Operator false text).raw (breaks text) ≡ 0
end_reach text h =
    let s : skip text ≡ [] = same_is (skip text) [] (and_left (same (skip text) []) _ h) in
    (λ i. reach_of (kind_number (at_front Operator (breaks text) (s i)).kind) (at_front Operator (breaks text) (s i)).raw (breaks text))

brace_reach : (k : ℕ) (b : Bool) → reach_of k (codes "}") b ≡ 0
brace_reach k b = zero_if (nat_eq k 1 || nat_eq k 0)
  where
    zero_if : (p : Bool) → ◌≡◌ {A = ℕ} (cond p 0 0) 0
    zero_if true = refl
    zero_if false = refl

semi_reach : (k : ℕ) (b : Bool) → reach_of k (codes ";") b ≡ 0
semi_reach k b = zero_if (nat_eq k 1 || nat_eq k 0)
  where
    zero_if : (p : Bool) → ◌≡◌ {A = ℕ} (cond p 0 0) 0
    zero_if true = refl
    zero_if false = refl

or_false : (a b : Bool) → (a || b) ≡ false → (a ≡ false) × (b ≡ false)
or_false true b h = absurd (never true refl h)
or_false false b h = (refl, h)

three : (a b c : Bool) → ((a || b) || c) ≡ true → (a || (b || c)) ≡ true
three true b c h = refl
three false b c h = h

lost : {b : Bool} (x : Place) → b ≡ false → IsTrue (is_found (go_if b x)) → ⊥
lost {b} x e f = never false (subst (λ b. IsTrue (is_found (go_if b x))) e f) refl

-- the token that is looked at doesn't go on, where a semicolon stands or is missing behind an expression
semi_token : (q text : Text) → IsTrue (is_found (forth Semicolon (At q AfterExpr text))) → reach_of (kind_number (token Operator false text).kind) (token Operator false text).raw (breaks text) ≡ 0
semi_token q text f = by_semi (test (is_token (token Operator false text) Punctuator (codes ";")))
  where
    l : Lexeme
    l = token Operator false text

    by_line : (breaks text && not (continues AfterExpr q (token Operator false text).raw)) ≡ true → reach_of (kind_number (token Operator false text).kind) (token Operator false text).raw (breaks text) ≡ 0
    by_line h =
        let n = not_is _ (and_right (breaks text) (not (continues AfterExpr q (token Operator false text).raw)) h) in
        let o = or_false (among (token Operator false text).raw going_on) (is_backquote (token Operator false text).raw) n in
        (λ i. reach_of (kind_number (token Operator false text).kind) (token Operator false text).raw (and_left (breaks text) (not (continues AfterExpr q (token Operator false text).raw)) h i)) ∙ quiet_token (kind_number (token Operator false text).kind) (token Operator false text).raw o.0 o.1

    by_brace : Test (same (token Operator false text).raw (codes "}")) → (same (token Operator false text).raw (codes "}") || (breaks text && not (continues AfterExpr q (token Operator false text).raw))) ≡ true → reach_of (kind_number (token Operator false text).kind) (token Operator false text).raw (breaks text) ≡ 0
    by_brace (yes' s) h = (λ i. reach_of (kind_number (token Operator false text).kind) (same_is (token Operator false text).raw (codes "}") s i) (breaks text)) ∙ brace_reach (kind_number (token Operator false text).kind) (breaks text)
    by_brace (no' s) h = by_line (or_else (same (token Operator false text).raw (codes "}")) (breaks text && not (continues AfterExpr q (token Operator false text).raw)) h s)

    by_end : Test (is_end text) → (is_end text || (same (token Operator false text).raw (codes "}") || (breaks text && not (continues AfterExpr q (token Operator false text).raw)))) ≡ true → reach_of (kind_number (token Operator false text).kind) (token Operator false text).raw (breaks text) ≡ 0
    by_end (yes' e) h = end_reach text e
    by_end (no' e) h = by_brace (test (same (token Operator false text).raw (codes "}"))) (or_else (is_end text) (same (token Operator false text).raw (codes "}") || (breaks text && not (continues AfterExpr q (token Operator false text).raw))) h e)

    by_lack : Test (may_lack AfterExpr q text) → is_token (token Operator false text) Punctuator (codes ";") ≡ false → reach_of (kind_number (token Operator false text).kind) (token Operator false text).raw (breaks text) ≡ 0
    by_lack (no' m) s = absurd (lost (At q AfterExpr text) m (subst (λ b. IsTrue (is_found (cond b (At (codes ";") AfterExpr (token Operator false text).rest) (go_if (may_lack AfterExpr q text) (At q AfterExpr text))))) s f))
    by_lack (yes' m) s = by_end (test (is_end text)) (three (is_end text) (same (token Operator false text).raw (codes "}")) (breaks text && not (continues AfterExpr q (token Operator false text).raw)) (and_right (not (same (token Operator false text).raw (codes ";"))) ((is_end text || same (token Operator false text).raw (codes "}")) || (breaks text && not (continues AfterExpr q (token Operator false text).raw))) m))

    by_semi : Test (is_token (token Operator false text) Punctuator (codes ";")) → reach_of (kind_number (token Operator false text).kind) (token Operator false text).raw (breaks text) ≡ 0
    by_semi (yes' s) = (λ i. reach_of (kind_number (token Operator false text).kind) (same_is (token Operator false text).raw (codes ";") (and_right (nat_eq (kind_number (token Operator false text).kind) 1) (same (token Operator false text).raw (codes ";")) s) i) (breaks text)) ∙ semi_reach (kind_number (token Operator false text).kind) (breaks text)
    by_semi (no' s) = by_lack (test (may_lack AfterExpr q text)) s

pub semi_calm : (q text : Text) → IsTrue (is_found (forth Semicolon (At q AfterExpr text))) → calm 0 (At q AfterExpr text) ≡ true
semi_calm q text f = ap (λ n. nat_le n 0) (reach_from q AfterExpr text (semi_token q text f))
