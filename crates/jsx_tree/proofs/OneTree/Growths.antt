-- An expression as its first tree and what grows from it.
use Rattle.std.proofs.Common.{◌≡◌, ℕ, ◌≤◌, true, false, not, cond, refl, sym, ◌∙◌, ap, subst, arith}
use Rattle.std.specs.Prelude.{IsTrue, nat_eq, codes}
use Rattle.std.proofs.lemmas.Bool.{le-leb}
use Rattle.jsx_base.specs.Token.{Text, Operand, Operator, TokenKind, Punctuator, RegExpLiteral, IdentifierName}
use Rattle.jsx_tree.specs.Signs.{Tok, Ends, AfterBlock}
use Rattle.jsx_tree.specs.Kinds.{FunctionExpr, ClassExpr, Element, ElementWithChildren, Fragment, BareArrow, Kind, function, expression, jsx, Tree, node, Forest, none, part, FunctionBody, program}
use Rattle.jsx_tree.specs.Reading.{Place, forth, Lost, At}
use Rattle.jsx_tree.specs.Walk.{is_found}
use Rattle.jsx_tree.proofs.OneTree.Table.{code, scope}
use Rattle.jsx_tree.proofs.OneTree.Sealed.{is_sealed, Sealed}
use Rattle.jsx_tree.proofs.OneTree.Readings.{is_block, row, tail, level, grows, reach, calm, Flat, Flats, one, some, row_of, nil, cons, unseq, paren_of, in_parens, is_arrow, is_paren, made, flat, flats, may_be, Reads, word, head, Props, paren, target, grow, arrow, Walk, done, take, each, regexp, Whole, single, several, Rest, final, also, Items, last, more}
use Rattle.jsx_tree.proofs.OneTree.Readings.{sealed, braces, Blocked, blocked, bare_blocked, arrow_of}
use Rattle.jsx_tree.proofs.OneTree.Facts.{not_is, Test, yes', no', test, le_nat, never}
use Rattle.jsx_tree.proofs.OneTree.Starting.{items_clear, or_other, weaken, arrow_leads, cond_no, of_head, of_grow, tok_clear}

-- ---- spines

pub data Through (n : ℕ) : Place → Flat → Place → Flat → Type 0 where
  here : {y : Place} {f : Flat} → Through n y f y f
  step : (k : Kind) {y p z : Place} {f g : Flat} {ts : Forest} → scope k ≡ true → grows k ≡ true → n ≤ level k → is_block y ≡ false → Walk (tail k) y ts p → Through n p (some (code k) (cons f (flats ts))) z g → Through n y f z g
  -- the block of an arrow is the last
  block : {y z : Place} {f : Flat} {cs : Forest} → n ≤ 1 → is_block y ≡ false → Blocked y cs z → Through n y f z (some 70 (cons f (cons (flat (node (program FunctionBody) cs)) nil)))

pub at_block : {y z : Place} {cs : Forest} → Blocked y cs z → is_block z ≡ true
at_block b = subst (λ z. is_block z ≡ true) b.ends' (ends_block b.shut b.found_close)
  where
    ends_block : (x : Place) → IsTrue (is_found x) → is_block (forth (Ends AfterBlock) x) ≡ true
    ends_block Lost f = cc
    ends_block (At q e text) f = refl

pub snoc : (k : Kind) {n : ℕ} {y p z : Place} {f g : Flat} {ts : Forest} → Through n y f p g → scope k ≡ true → grows k ≡ true → n ≤ level k → is_block p ≡ false → Walk (tail k) p ts z → Through n y f z (some (code k) (cons g (flats ts)))
snoc k here s d l b w = step k s d l b w here
snoc k (step k' s' d' l' b' w' th) s d l b w = step k' s' d' l' b' w' (snoc k th s d l b w)
snoc k {p = p} (block l' b' a) s d l b w = absurd (never (is_block p) (at_block a) b)

pub data Start : Place → Flat → Place → Type 0 where
  s_word : {s : TokenKind} {t : Text} {x y : Place} → may_be s t ≡ true → forth (Tok Operator s t) x ≡ y → IsTrue (is_found y) → Start x (one s t) y
  s_regexp : {t : Text} {x y : Place} → forth (Tok Operand RegExpLiteral t) x ≡ y → IsTrue (is_found y) → Start x (one RegExpLiteral t) y
  s_head : (k : Kind) {x y : Place} {ts : Forest} → scope k ≡ true → is_arrow k ≡ false → grows k ≡ false → is_paren k ≡ false → Walk (row k) x ts y → Start x (some (code k) (flats ts)) y
  s_paren : {x p y : Place} {ts : Forest} → forth (Tok Operator Punctuator (codes "(")) x ≡ p → IsTrue (is_found p) → Items false (codes ")") p ts y → Start x (paren_of (flats ts)) y
  s_sealed : {k : Kind} {x y : Place} {cs : Forest} → Sealed x k cs y → Start x (flat (node k cs)) y
  s_braces : {x p y : Place} {ts : Forest} → forth (Tok Operator Punctuator (codes "{")) x ≡ p → IsTrue (is_found p) → Props p ts y → Start x (some 54 (cons (row_of (flats ts)) nil)) y

pub record Split (n : ℕ) (x : Place) (g : Flat) (z : Place) : Type 0 where
  pub first : Flat
  pub rest : Place
  pub start : Start x first rest
  pub through : Through n rest first z g

pub made_plain : (k : Kind) (ts : Flats) → is_arrow k ≡ false → nat_eq (code k) 3 ≡ false → made k ts ≡ some (code k) ts
made_plain k ts a c = cond_no (is_arrow k) _ _ a ∙ cond_no (nat_eq (code k) 3) _ _ c

pub made_coded : (k : Kind) (n : ℕ) (ts : Flats) → is_arrow k ≡ false → nat_eq n 3 ≡ false → code k ≡ n → made k ts ≡ some n ts
made_coded k n ts a h c = made_plain k ts a (ap (λ m. nat_eq m 3) c ∙ h) ∙ (λ i. some (c i) ts)

pub made_paren : (k : Kind) (ts : Flats) → is_arrow k ≡ false → nat_eq (code k) 3 ≡ true → made k ts ≡ in_parens ts
made_paren k ts a c = cond_no (is_arrow k) _ _ a ∙ ap (λ b. cond b (in_parens ts) (some (code k) ts)) c

pub unseq_some : (n : ℕ) (ts : Flats) → nat_eq n 19 ≡ false → unseq (some n ts) ≡ cons (some n ts) nil
unseq_some n ts e = cond_no (nat_eq n 19) _ _ e

unseq_parens : (ts : Flats) → unseq (in_parens ts) ≡ cons (in_parens ts) nil
unseq_parens nil = refl
unseq_parens (cons e nil) = refl
unseq_parens (cons e (cons f ts)) = refl

pub unseq_made : (k : Kind) (ts : Flats) → is_arrow k ≡ false → nat_eq (code k) 19 ≡ false → unseq (made k ts) ≡ cons (made k ts) nil
unseq_made k ts a e = by_case (test (nat_eq (code k) 3))
  where
    by_case : Test (nat_eq (code k) 3) → unseq (made k ts) ≡ cons (made k ts) nil
    by_case (yes' c) = subst (λ f. unseq f ≡ cons f nil) (sym (made_paren k ts a c)) (unseq_parens ts)
    by_case (no' c) = subst (λ f. unseq f ≡ cons f nil) (sym (made_plain k ts a c)) (unseq_some (code k) ts e)

pub made_arrow : (k : Kind) (ts : Flats) → is_arrow k ≡ true → made k ts ≡ arrow_of (code k) ts
made_arrow k ts a = (λ i. cond (a i) (arrow_of (code k) ts) (cond (nat_eq (code k) 3) (in_parens ts) (some (code k) ts)))

sealed_plain : (k : Kind) → is_sealed k ≡ true → (is_arrow k ≡ false) × (nat_eq (code k) 19 ≡ false)
sealed_plain (function FunctionExpr) h = (refl, refl)
sealed_plain (function ClassExpr) h = (refl, refl)
sealed_plain (jsx Element) h = (refl, refl)
sealed_plain (jsx ElementWithChildren) h = (refl, refl)
sealed_plain (jsx Fragment) h = (refl, refl)
sealed_plain (function _) h = cc
sealed_plain (jsx _) h = cc
sealed_plain _ h = cc

pub unseq_one : {n : ℕ} {x y : Place} {t : Tree} → Reads n x t y → unseq (flat t) ≡ cons (flat t) nil
unseq_one (word a e f) = refl
unseq_one (regexp e f) = refl
unseq_one (braces {k = k} {ts = ts} l c a e f p) = unseq_made k (cons (row_of (flats ts)) nil) a (ap (λ n. nat_eq n 19) c)
unseq_one (sealed {k = k} {cs = cs} l s) = let p = sealed_plain k s.closed.kind' in unseq_made k (flats cs) p.0 p.1
unseq_one (paren l e f a g h) = refl
unseq_one (target l e f r c g h) = refl
unseq_one (head {k = k} {ts = ts} s a i l d w) = unseq_made k (flats ts) a (of_head k s a d i).not_seq
unseq_one (grow {k = k} {t = t} {ts = ts} s d l b r w) = unseq_made k (cons (flat t) (flats ts)) (arrow_leads k d) (of_grow k s d).not_seq
unseq_one (arrow l p w) = refl
unseq_one (blocked l e f p b) = refl
unseq_one (bare_blocked l a e f b) = refl

pub calm_one : (x : Place) → calm 0 x ≡ true → calm 1 x ≡ true
calm_one x c = let l : reach x ≤ 0 = le_nat c in le-leb (reach x) 1 (omega (arith, l))

pub record Listed (x : Place) (es : Flats) (y : Place) : Type 0 where
  pub parts : Forest
  pub is : flats parts ≡ es
  pub items : Items false (codes ")") x parts y

rest_listed : {x y z : Place} {ts : Forest} → Rest x ts y → forth (Tok Operator Punctuator (codes ")")) y ≡ z → IsTrue (is_found z) → Items false (codes ")") x ts z
rest_listed (final {y = y} r c) e f = last r (calm_one y c) e f
rest_listed (also r c g h d) e f = more r c g h (rest_listed d e f)

whole_listed : {x y z : Place} {t : Tree} → Whole x t y → forth (Tok Operator Punctuator (codes ")")) y ≡ z → IsTrue (is_found z) → Listed x (unseq (flat t)) z
whole_listed (single {y = y} {t = t} r c) e f = record { parts = part t none; is = sym (unseq_one r); items = last r (calm_one y c) e f }
whole_listed (several {t = t} {ts = ts} r c g h d) e f = record { parts = part t ts; is = refl; items = more r c g h (rest_listed d e f) }

start_of : {x p y : Place} {es : Flats} → forth (Tok Operator Punctuator (codes "(")) x ≡ p → IsTrue (is_found p) → Listed p es y → Start x (paren_of es) y
start_of {x} {y = y} e f l = subst (λ ts. Start x (paren_of ts) y) l.is (s_paren e f l.items)

pub head_code : (k : Kind) → scope k ≡ true → is_arrow k ≡ false → is_paren k ≡ false → grows k ≡ false → nat_eq (code k) 3 ≡ false
head_code k s a i d = not_is (nat_eq (code k) 3) (or_other (not (nat_eq (code k) 3)) (is_paren k) (of_head k s a d i).paren' i)

pub split : {n m : ℕ} {x z : Place} {u : Tree} → Reads m x u z → n ≤ m → Split n x (flat u) z
split (word {s = s} {t = t} {y = y} a e f) le = record { first = one s t; rest = y; start = s_word a e f; through = here }
split (regexp {t = t} {y = y} e f) le = record { first = one RegExpLiteral t; rest = y; start = s_regexp e f; through = here }
split {n} {x = x} (head {k = k} {y = y} {ts = ts} s a i l d w) le =
    subst (λ f. Split n x f y) (sym (made_plain k (flats ts) a (head_code k s a i d))) (record { first = some (code k) (flats ts); rest = y; start = s_head k s a d i w; through = here })
split {n} {x = x} (braces {k = k} {y = y} {ts = ts} l c a e f p) le =
    subst (λ f. Split n x f y) (sym (made_coded k 54 (cons (row_of (flats ts)) nil) a refl c)) (record { first = some 54 (cons (row_of (flats ts)) nil); rest = y; start = s_braces e f p; through = here })
split (sealed {k = k} {y = y} {cs = cs} l s) le = record { first = flat (node k cs); rest = y; start = s_sealed s; through = here }
split {n} {x = x} (paren {z = z} {t = t} l e f a g h) le = record { first = paren_of (unseq (flat t)); rest = z; start = start_of e f (whole_listed a g h); through = here }
split (target {y = y} {z = z} {t = t} l e f r c g h) le =
    record { first = paren_of (unseq (flat t)); rest = z; start = start_of e f (record { parts = part t none; is = sym (unseq_one r); items = last (weaken r (omega arith)) (calm_one y c) g h }); through = here }
split {n} (grow {k = k} {z = z} {t = t} {ts = ts} s d l b r w) le =
    let p = split {n = n} r le in
    record {
      first = p.first;
      rest = p.rest;
      start = p.start;
      through = subst (λ f. Through n p.rest p.first z f) (sym (made_plain k (cons (flat t) (flats ts)) (arrow_leads k d) ((of_grow k s d).not_paren))) (snoc k p.through s d (omega (arith, le, l)) b w);
    }
split (arrow {y = y} {ts = ts} l (take e f (each {ts = ps} i done)) w) le =
    record { first = paren_of (flats ps); rest = y; start = s_paren e f i; through = step (expression BareArrow) refl refl (omega (arith, le, l)) (items_clear i) w here }
split (blocked {y = y} {ts = ps} l e f i b) le = record { first = paren_of (flats ps); rest = y; start = s_paren e f i; through = block (omega (arith, le, l)) (items_clear i) b }
split (bare_blocked {x = x} {y = y} {t = t} l a e f b) le = record { first = one IdentifierName t; rest = y; start = s_word a e f; through = block (omega (arith, le, l)) (tok_clear Operator IdentifierName t x e) b }
