-- Where a semicolon stands or is missing: what the next token can't be.
use Rattle.std.proofs.Common.{◌≡◌, ℕ, Bool, true, false, not, cond, [], ◌∷◌, refl, ◌∙◌, ap, subst, inl, inr}
use Rattle.std.specs.Prelude.{IsTrue, ◌&&◌, ◌||◌, ◌⊎◌, nat_eq, nat_le, codes}
use Rattle.std.proofs.lemmas.Bool.{eq-eqb}
use Rattle.jsx_base.specs.Token.{Text, Operator, Punctuator, kind_number, same, no_token, at_front, token, skip, breaks, is_token, is_kind, is_end}
use Rattle.jsx_tree.specs.Signs.{Semicolon, Ending, AfterExpr, AfterBlock}
use Rattle.jsx_tree.specs.Reading.{Place, At, forth, go_if, may_lack, continues, is_do}
use Rattle.jsx_tree.proofs.Tokens.{and_left, and_right, and_both, same_is}
use Rattle.jsx_base.proofs.Fronts.{other_ahead}
use Rattle.jsx_tree.specs.Walk.{is_found}
use Rattle.jsx_tree.proofs.OneTree.Readings.{block_reach, calm, kind_at, text_at}
use Rattle.jsx_tree.proofs.OneTree.Facts.{never, or_else, not_is, Test, yes', no', test, eq_nat}
use Rattle.jsx_tree.proofs.OneTree.Semis.{next_same, semi_calm}
use Rattle.jsx_tree.proofs.OneTree.Endings.{end_kind, past}

brace_mark : (f : Bool) (s : Text) → nat_eq (kind_number (at_front Operator f (125 ∷ s)).kind) 1 ≡ true
brace_mark true s = refl
brace_mark false s = refl

-- a token with the text `}` is a punctuator
brace_front : (f : Bool) (s : Text) → same (at_front Operator f s).raw (codes "}") ≡ true → nat_eq (kind_number (at_front Operator f s).kind) 1 ≡ true
brace_front f [] h = cc
brace_front f (c ∷ s) h = by_first (test (nat_eq 125 c))
  where
    by_first : Test (nat_eq 125 c) → nat_eq (kind_number (at_front Operator f (c ∷ s)).kind) 1 ≡ true
    by_first (yes' e) = subst (λ d. nat_eq (kind_number (at_front Operator f (d ∷ s)).kind) 1 ≡ true) (eq_nat {a = 125} {b = c} e) (brace_mark f s)
    by_first (no' e) =
        absurd (never (is_token (at_front Operator f (c ∷ s)) (at_front Operator f (c ∷ s)).kind (codes "}"))
        (and_both (is_kind (at_front Operator f (c ∷ s)).kind (at_front Operator f (c ∷ s)).kind) _ (eq-eqb (kind_number (at_front Operator f (c ∷ s)).kind) (kind_number (at_front Operator f (c ∷ s)).kind) refl) h)
        ((other_ahead (at_front Operator f (c ∷ s)).kind 125 [] Operator (c ∷ s) e).not_it f))

-- the token behind a place where a semicolon stands or is missing, but for that of a `do`
pub data Missing (q : Text) (e : Ending) (text : Text) : Type 0 where
  at_mark : is_token (token Operator false text) Punctuator (codes ";") ≡ true → Missing q e text
  at_end : is_end text ≡ true → Missing q e text
  at_brace : same (token Operator false text).raw (codes "}") ≡ true → Missing q e text
  at_line : breaks text ≡ true → continues e q (token Operator false text).raw ≡ false → Missing q e text

lost : {b : Bool} (x : Place) → b ≡ false → IsTrue (is_found (go_if b x)) → ⊥
lost {b} x e f = never false (subst (λ b. IsTrue (is_found (go_if b x))) e f) refl

missing : (q : Text) (e : Ending) (text : Text) → is_do e ≡ false → IsTrue (is_found (forth Semicolon (At q e text))) → Missing q e text
missing q e text d f = by_mark (test (is_token (token Operator false text) Punctuator (codes ";")))
  where
    raw : Text
    raw = (token Operator false text).raw

    by_lack : Test (may_lack e q text) → is_token (token Operator false text) Punctuator (codes ";") ≡ false → Missing q e text
    by_lack (no' m) s = absurd (lost (At q e text) m (subst (λ b. IsTrue (is_found (cond b (At (codes ";") AfterExpr (token Operator false text).rest) (go_if (may_lack e q text) (At q e text))))) s f))
    by_lack (yes' m) s = by_do (and_right (not (same (token Operator false text).raw (codes ";"))) _ m)
      where
        by_line : (breaks text && not (continues e q (token Operator false text).raw)) ≡ true → Missing q e text
        by_line h = at_line (and_left (breaks text) _ h) (not_is _ (and_right (breaks text) _ h))

        by_brace : Test (same (token Operator false text).raw (codes "}")) → (same (token Operator false text).raw (codes "}") || (breaks text && not (continues e q (token Operator false text).raw))) ≡ true → Missing q e text
        by_brace (yes' g) h = at_brace g
        by_brace (no' g) h = by_line (or_else (same (token Operator false text).raw (codes "}")) _ h g)

        by_end : Test (is_end text) → (is_end text || (same (token Operator false text).raw (codes "}") || (breaks text && not (continues e q (token Operator false text).raw)))) ≡ true → Missing q e text
        by_end (yes' g) h = at_end g
        by_end (no' g) h = by_brace (test (same (token Operator false text).raw (codes "}"))) (or_else (is_end text) _ h g)

        grouped : (a b c g : Bool) → a ≡ false → (((a || b) || c) || g) ≡ true → (b || (c || g)) ≡ true
        grouped true b c g o h = absurd (never true refl o)
        grouped false true c g o h = refl
        grouped false false c g o h = h

        by_do : (((is_do e || is_end text) || same (token Operator false text).raw (codes "}")) || (breaks text && not (continues e q (token Operator false text).raw))) ≡ true → Missing q e text
        by_do h = by_end (test (is_end text)) (grouped (is_do e) (is_end text) (same (token Operator false text).raw (codes "}")) (breaks text && not (continues e q (token Operator false text).raw)) d h)

    by_mark : Test (is_token (token Operator false text) Punctuator (codes ";")) → Missing q e text
    by_mark (yes' s) = at_mark s
    by_mark (no' s) = by_lack (test (may_lack e q text)) s

-- what is looked at there, where it is a token
pub data Behind (e : Ending) (q : Text) (b : Bool) (k : ℕ) (t : Text) : Type 0 where
  a_mark : k ≡ 1 → t ≡ codes ";" → Behind e q b k t
  a_brace : k ≡ 1 → t ≡ codes "}" → Behind e q b k t
  a_line : b ≡ true → continues e q t ≡ false → Behind e q b k t

pub behind : (q : Text) (e : Ending) (text : Text) → is_do e ≡ false → IsTrue (is_found (forth Semicolon (At q e text))) → (nat_eq (kind_at (At q e text)) 14 ≡ false) → Behind e q (breaks text) (kind_at (At q e text)) (text_at (At q e text))
behind q e text d f n = by_next (next_same (same q []) text)
  where
    by_next : (token Operator (same q []) text ≡ token Operator false text) ⊎ (token Operator (same q []) text ≡ no_token (skip text)) → Behind e q (breaks text) (kind_at (At q e text)) (text_at (At q e text))
    by_next (inr s) = absurd (never (nat_eq (kind_at (At q e text)) 14) (λ i. nat_eq (kind_number (s i).kind) 14) n)
    by_next (inl s) = by_missing (missing q e text d f)
      where
        by_missing : Missing q e text → Behind e q (breaks text) (kind_at (At q e text)) (text_at (At q e text))
        by_missing (at_mark m) = a_mark ((λ i. kind_number (s i).kind) ∙ eq_nat {a = kind_number (token Operator false text).kind} {b = 1} (and_left (nat_eq (kind_number (token Operator false text).kind) 1) _ m)) ((λ i. (s i).raw) ∙ same_is (token Operator false text).raw (codes ";") (and_right (nat_eq (kind_number (token Operator false text).kind) 1) _ m))
        by_missing (at_end m) = absurd (never (nat_eq (kind_at (At q e text)) 14) (ap (λ k. nat_eq k 14) (end_kind (At q e text) m)) n)
        by_missing (at_brace m) = a_brace ((λ i. kind_number (s i).kind) ∙ eq_nat {a = kind_number (token Operator false text).kind} {b = 1} (brace_front (breaks text) (skip text) m)) ((λ i. (s i).raw) ∙ same_is (token Operator false text).raw (codes "}") m)
        by_missing (at_line b c) = a_line b ((λ i. continues e q (s i).raw) ∙ c)

-- ---- where an expression ends

block_quiet : (k : ℕ) (t : Text) → same t (codes ",") ≡ false → nat_le (block_reach k t) 0 ≡ true
block_quiet k t n = by_mark (nat_eq k 1)
  where
    by_mark : (b : Bool) → nat_le (cond (b && same t (codes ",")) 1 0) 0 ≡ true
    by_mark true = (λ i. nat_le (cond (n i) 1 0) 0)
    by_mark false = refl

block_semi : (q text : Text) → IsTrue (is_found (forth Semicolon (At q AfterBlock text))) → calm 0 (At q AfterBlock text) ≡ true
block_semi q text f = by_end (test (nat_eq (kind_at (At q AfterBlock text)) 14))
  where
    by_behind : Behind AfterBlock q (breaks text) (kind_at (At q AfterBlock text)) (text_at (At q AfterBlock text)) → calm 0 (At q AfterBlock text) ≡ true
    by_behind (a_mark k t) = (λ i. nat_le (block_reach (k i) (t i)) 0)
    by_behind (a_brace k t) = (λ i. nat_le (block_reach (k i) (t i)) 0)
    by_behind (a_line b c) = block_quiet (kind_at (At q AfterBlock text)) (text_at (At q AfterBlock text)) c

    by_end : Test (nat_eq (kind_at (At q AfterBlock text)) 14) → calm 0 (At q AfterBlock text) ≡ true
    by_end (yes' e) = (λ i. nat_le (block_reach (end_is (kind_at (At q AfterBlock text)) e i) (text_at (At q AfterBlock text))) 0)
      where
        end_is : (k : ℕ) → nat_eq k 14 ≡ true → k ≡ 14
        end_is k h = eq_nat {a = k} {b = 14} h
    by_end (no' n) = by_behind (behind q AfterBlock text refl f n)

pub at_semi : (y : Place) → past y ≡ true → IsTrue (is_found (forth Semicolon y)) → calm 0 y ≡ true
at_semi (At q AfterExpr text) a f = semi_calm q text f
at_semi (At q AfterBlock text) a f = block_semi q text f
at_semi _ a f = cc
