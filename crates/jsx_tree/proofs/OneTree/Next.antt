-- What the definitions read, with what may stand behind each part: guards, and what stands next.
use Rattle.std.proofs.Common.{◌≡◌, ℕ, Bool, true, false, not, cond, List, [], ◌∷◌, refl, sym, ◌∙◌, ap, subst, arith, inl, inr}
use Rattle.std.specs.Prelude.{IsTrue, ◌&&◌, ◌||◌, ◌⊎◌, nat_eq, nat_le, codes}
use Rattle.std.proofs.lemmas.Bool.{le-leb}
use Rattle.jsx_base.specs.Token.{Text, Operator, TokenKind, Lexeme, kind_number, same, among, begins, state, lexed, no_token, at_front, token, skip, breaks}
use Rattle.jsx_tree.specs.Signs.{Sign, Tok, Unless, SameLine, Space, Count, Apart}
use Rattle.jsx_tree.specs.Kinds.{Forest}
use Rattle.jsx_tree.specs.Grammar.{Context, Fixed, Within, Production}
use Rattle.jsx_tree.specs.StaticRules.{Surroundings}
use Rattle.jsx_tree.specs.Reading.{Place, Lost, At, forth}
use Rattle.jsx_tree.specs.Walk as W
use Rattle.jsx_tree.specs.Walk.{is_found, IsRead, pieces}
use Rattle.jsx_tree.proofs.Tokens.{and_left, and_right, same_is}
use Rattle.jsx_tree.proofs.OneTree.Readings.{is_block, block_reach, ahead, kind_at, text_at, reach_of, calm, broken, holds}
use Rattle.jsx_tree.proofs.OneTree.Facts.{not_is, Test, yes', no', test, eq_nat, le_nat, Seen, took}
use Rattle.jsx_tree.proofs.OneTree.Places.{quiet, row_ok}
use Rattle.jsx_tree.proofs.OneTree.Fine.{at_sign, at_end}
use Rattle.jsx_tree.proofs.OneTree.Fine.{calm_more}

-- ---- guards

unsure : (p q b : Bool) (n l : Lexeme) → n.raw ≡ [] → ((cond (p || q) n l).raw ≡ (cond (p || (b && q)) n l).raw) ⊎ ((cond (p || q) n l).raw ≡ [])
unsure true q b n l e = inl refl
unsure false false b n l e = inl (ap (λ c. (cond c n l).raw) (sym (and_no b)))
  where
    and_no : (b : Bool) → (b && false) ≡ false
    and_no true = refl
    and_no false = refl
unsure false true b n l e = inr e

raw_front : (b : Bool) (s : Text) → ((at_front Operator true s).raw ≡ (at_front Operator b s).raw) ⊎ ((at_front Operator true s).raw ≡ [])
raw_front b [] = inl refl
raw_front b (c ∷ s) = unsure (begins (codes "<!--") (c ∷ s)) (begins (codes "-->") (c ∷ s)) b (no_token (c ∷ s)) (lexed Operator (state Operator c s) c s) refl

raw_next : (f : Bool) (text : Text) → ((token Operator f text).raw ≡ (token Operator false text).raw) ⊎ ((token Operator f text).raw ≡ [])
raw_next false text = inl refl
raw_next true text = raw_front (breaks text) (skip text)

pub record Kept (s : Sign) (x y : Place) : Type 0 where
  pub place : x ≡ y
  pub held : holds s x ≡ true

if_same : (b : Bool) (x y : Place) → cond b x Lost ≡ y → IsTrue (is_found y) → (b ≡ true) × (x ≡ y)
if_same true x y e f = (refl, e)
if_same false x y e f = absurd (lost_found (subst (λ p. IsTrue (is_found p)) (sym e) f))
  where
    lost_found : IsTrue (is_found Lost) → ⊥
    lost_found h = cc

pub unless_kept : (ts : List Text) (x y : Place) → among [] ts ≡ false → forth (Unless ts) x ≡ y → IsTrue (is_found y) → Kept (Unless ts) x y
unless_kept ts Lost y n e f = absurd (lost_found (subst (λ p. IsTrue (is_found p)) (sym e) f))
  where
    lost_found : IsTrue (is_found Lost) → ⊥
    lost_found h = cc
unless_kept ts (At q e' text) y n e f =
    let r = if_same (not (among (token Operator false text).raw ts)) (At q e' text) y e f in
    record { place = r.1; held = by_raw (raw_next (same q []) text) r.0 }
  where
    by_raw : ((token Operator (same q []) text).raw ≡ (token Operator false text).raw) ⊎ ((token Operator (same q []) text).raw ≡ []) → not (among (token Operator false text).raw ts) ≡ true → not (among (token Operator (same q []) text).raw ts) ≡ true
    by_raw (inl s) h = subst (λ t. not (among t ts) ≡ true) (sym s) h
    by_raw (inr s) h = subst (λ t. not (among t ts) ≡ true) (sym s) (ap not n)

pub line_kept : (x y : Place) → forth SameLine x ≡ y → IsTrue (is_found y) → Kept SameLine x y
line_kept Lost y e f = absurd (lost_found (subst (λ p. IsTrue (is_found p)) (sym e) f))
  where
    lost_found : IsTrue (is_found Lost) → ⊥
    lost_found h = cc
line_kept (At q e' text) y e f = let r = if_same (not (breaks text)) (At q e' text) y e f in record { place = r.1; held = r.0 }

-- ---- what stands next

block_small : (k : ℕ) (t : Text) (n : ℕ) → nat_le (reach_of k t false) n ≡ true → nat_le (block_reach k t) n ≡ true
block_small k t n h = by_comma (test (nat_eq k 1 && same t (codes ",")))
  where
    by_comma : Test (nat_eq k 1 && same t (codes ",")) → nat_le (block_reach k t) n ≡ true
    by_comma (no' c) = (λ i. nat_le (cond (c i) 1 0) n) ∙ le-leb 0 n (omega arith)
    by_comma (yes' c) =
        let e : k ≡ 1 = eq_nat {a = k} {b = 1} (and_left (nat_eq k 1) _ c) in
        let f = same_is t (codes ",") (and_right (nat_eq k 1) _ c) in
        (λ i. nat_le (block_reach (e i) (f i)) n) ∙ ((λ i. nat_le (reach_of (sym e i) (sym f i) false) n) ∙ h)

pub reach_seen : (k : TokenKind) (t : Text) (n : ℕ) (x : Place) → Seen x k t → (nat_le (reach_of (kind_number k) t true) n && nat_le (reach_of (kind_number k) t false) n) ≡ true → calm n x ≡ true
reach_seen k t n x s h = by_block (test (is_block x)) (test (broken x))
  where
    by_block : Test (is_block x) → Test (broken x) → calm n x ≡ true
    by_block (yes' c) b = (λ i. nat_le (cond (c i) (block_reach (s.kind i) (s.text i)) (ahead x)) n) ∙ block_small (kind_number k) t n (and_right (nat_le (reach_of (kind_number k) t true) n) _ h)
    by_block (no' c) (yes' b) = (λ i. nat_le (cond (c i) (block_reach (kind_at x) (text_at x)) (reach_of (s.kind i) (s.text i) (b i))) n) ∙ and_left (nat_le (reach_of (kind_number k) t true) n) _ h
    by_block (no' c) (no' b) = (λ i. nat_le (cond (c i) (block_reach (kind_at x) (text_at x)) (reach_of (s.kind i) (s.text i) (b i))) n) ∙ and_right (nat_le (reach_of (kind_number k) t true) n) _ h

pub calm_at : (n : ℕ) {x y : Place} → x ≡ y → calm n y ≡ true → calm n x ≡ true
calm_at n e c = subst (λ p. calm n p ≡ true) (sym e) c

pub quiet_calm : {V : List Context → Surroundings} (e n : ℕ) (ps : Production) (a : List Context) {y z : Place} {ts : Forest} → row_ok e ps ≡ true → quiet e n ps ≡ true → W.Walk IsRead V (pieces a ps) y ts z → calm e z ≡ true → calm n y ≡ true
quiet_calm e n [] a {y} {z} o q w c = let h = at_end w in calm_at n {x = y} {y = z} h.1 (calm_more e n z (le_nat q) c)
quiet_calm e n (Fixed (Tok Operator k t) ∷ ps) a {y} o q w c = let s = at_sign w in reach_seen k t n y (took k t y s.moves s.found) q
quiet_calm e n (Fixed (Unless ts) ∷ ps) a {y} o q w c = let s = at_sign w in let k = unless_kept ts y s.next (not_is _ (and_left (not (among [] ts)) (row_ok e ps) o)) s.moves s.found in calm_at n {x = y} {y = s.next} k.place (quiet_calm e n ps a (and_right (not (among [] ts)) (row_ok e ps) o) q s.walk c)
quiet_calm e n (Fixed SameLine ∷ ps) a {y} o q w c = let s = at_sign w in let k = line_kept y s.next s.moves s.found in calm_at n {x = y} {y = s.next} k.place (quiet_calm e n ps a o q s.walk c)
quiet_calm e n (Fixed Space ∷ ps) a o q w c = quiet_calm e n ps a o q w c
quiet_calm e n (Fixed Count ∷ ps) a o q w c = quiet_calm e n ps a o q w c
quiet_calm e n (Fixed Apart ∷ ps) a o q w c = quiet_calm e n ps a o q w c
quiet_calm e n (Within d ∷ ps) a o q w c = quiet_calm e n ps (d ∷ a) o q w c
quiet_calm e n _ a o q w c = cc
