-- What an expression begins with, and what goes on with one.
use Rattle.jsx_tree.proofs.OneTree.Angles.{Angle, angle_here, angle_case}
use Rattle.std.proofs.Common.{[], ◌≡◌, ℕ, ◌≤◌, suc, Bool, true, false, not, cond, List, refl, sym, ◌∙◌, ap, subst, arith}
use Rattle.std.specs.Prelude.{IsTrue, ◌&&◌, ◌||◌, nat_eq, codes}
use Rattle.jsx_base.specs.Token.{Text, Mode, is_token, token, Operator, TokenKind, IdentifierName, Punctuator, NumericLiteral, BigIntLiteral, StringLiteral, NoSubstitution, TemplateHead, kind_number, same}
use Rattle.jsx_tree.specs.Signs.{AfterExpr, Tok, SameLine}
use Rattle.jsx_tree.specs.Kinds.{Arrow, Kind, expression, Tree, Forest, ArrowBlock}
use Rattle.jsx_tree.specs.Spelling.{mode_of}
use Rattle.jsx_tree.specs.Reading.{Place, Lost, At, forth, go_if, is_backquote}
use Rattle.jsx_tree.specs.Nonterminals.{is_value_word}
use Rattle.jsx_tree.specs.Walk.{is_found}
use Rattle.jsx_tree.proofs.Tokens.{and_left, and_right}
use Rattle.jsx_tree.proofs.OneTree.Table.{code, scope}
use Rattle.jsx_tree.proofs.OneTree.Readings.{is_block, block_reach, ahead, Items, shut, gap, last, more, Step, row, tail, level, grows, lookup, entries, is_step, reach_of, reach, calm, kind_at, text_at, broken, is_arrow, is_paren, may_be, Reads, word, head, paren, target, grow, arrow, Walk, done, take, pass, literal, under, all, each, is_tagged, is_quote, is_slash, regexp}
use Rattle.jsx_tree.proofs.OneTree.Sealed.{Opener, of_function, of_class, Opens, by_word, by_tag}
use Rattle.jsx_tree.proofs.OneTree.Readings.{sealed, braces, linked, filled, tagged, blocked, bare_blocked}
use Rattle.jsx_tree.proofs.OneTree.Checks.{is_op, starts, bare, no_line, opens, no_word, no_open, reaches, on_line, goes_by, one_ok, tagged_ok, tagged_ones, opens_quote, ones}
use Rattle.jsx_tree.proofs.OneTree.Slashes.{regexp_slash}
use Rattle.jsx_tree.proofs.OneTree.Quotes.{quote_begins}
use Rattle.jsx_tree.proofs.OneTree.Facts.{never, or_else, not_is, Test, yes', no', test, eq_nat, le_nat, op_is, kind_is, Seen, seen, found_at, took, took_in, for_kind}

-- ---- without guards

pub strip : {ps : List Step} {x y : Place} {ts : Forest} → Walk ps x ts y → Walk (bare ps) x ts y
strip done = done
strip (take e f w) = take e f (strip w)
strip (pass h w) = strip w
strip (literal e f w) = literal e f (strip w)
strip (under r c w) = under r c (strip w)
strip (all a w) = all a (strip w)
strip (each a w) = each a (strip w)
strip (linked g a w) = linked g a (strip w)
strip (filled a w) = filled a (strip w)
strip (tagged s l a w) = tagged s l a (strip w)

pub strip_line : {ps : List Step} {x y : Place} {ts : Forest} → Walk ps x ts y → Walk (no_line ps) x ts y
strip_line done = done
strip_line (take e f w) = take e f (strip_line w)
strip_line (pass {s = SameLine} h w) = strip_line w
strip_line (pass {s = s} h w) = pass h (strip_line w)
strip_line (literal e f w) = literal e f (strip_line w)
strip_line (under r c w) = under r c (strip_line w)
strip_line (all a w) = all a (strip_line w)
strip_line (each a w) = each a (strip_line w)
strip_line (linked g a w) = linked g a (strip_line w)
strip_line (filled a w) = filled a (strip_line w)
strip_line (tagged s l a w) = tagged s l a (strip_line w)

-- ---- what stands first

or_left : (a b : Bool) → a ≡ true → (a || b) ≡ true
or_left true b e = refl
or_left false b e = cc

pub or_other : (a b : Bool) → (a || b) ≡ true → b ≡ false → a ≡ true
or_other true b e f = refl
or_other false b e f = absurd (never b e f)

pub may_start : (s : TokenKind) (t : Text) → may_be s t ≡ true → starts (kind_number s) t ≡ true
may_start IdentifierName t h = or_left _ _ h
may_start NumericLiteral t h = refl
may_start BigIntLiteral t h = refl
may_start StringLiteral t h = refl
may_start _ t h = cc

pub not_mark : (s : TokenKind) (t : Text) → may_be s t ≡ true → (nat_eq (kind_number s) 1 ≡ false) × (is_quote s ≡ false)
not_mark IdentifierName t h = (refl, refl)
not_mark NumericLiteral t h = (refl, refl)
not_mark BigIntLiteral t h = (refl, refl)
not_mark StringLiteral t h = (refl, refl)
not_mark _ t h = cc

pub is_value : (s : TokenKind) (t : Text) → may_be s t ≡ true → nat_eq (kind_number s) 0 ≡ true → is_value_word t ≡ true
is_value IdentifierName t h e = h
is_value NumericLiteral t h e = cc
is_value BigIntLiteral t h e = cc
is_value StringLiteral t h e = cc
is_value _ t h e = cc

pub weaken : {n m : ℕ} {x y : Place} {t : Tree} → Reads n x t y → m ≤ n → Reads m x t y
weaken (word a e f) le = word a e f
weaken (regexp e f) le = regexp e f
weaken (head s a i l d w) le = head s a i (omega (arith, le, l)) d w
weaken (sealed l s) le = sealed (omega (arith, le, l)) s
weaken (braces l c a e f p) le = braces (omega (arith, le, l)) c a e f p
weaken (paren l e f a g h) le = paren (omega (arith, le, l)) e f a g h
weaken (target l e f r c g h) le = target (omega (arith, le, l)) e f r c g h
weaken (grow s d l b r w) le = grow s d (omega (arith, le, l)) b (weaken r le) w
weaken (arrow l p w) le = arrow (omega (arith, le, l)) p w
weaken (blocked l e f p b) le = blocked (omega (arith, le, l)) e f p b
weaken (bare_blocked l a e f b) le = bare_blocked (omega (arith, le, l)) a e f b

at_kind : (p : ℕ → Text → Bool) {x : Place} {k : TokenKind} {t : Text} → Seen x k t → p (kind_number k) t ≡ true → p (kind_at x) (text_at x) ≡ true
at_kind p s h = (λ i. p (s.kind i) (s.text i)) ∙ h

six : (s : TokenKind) (t : Text) → is_quote s ≡ true → starts (kind_number s) t ≡ true
six NoSubstitution t e = refl
six TemplateHead t e = refl
six _ t e = cc

pub begins_row : {ps : List Step} {x y : Place} {ts : Forest} → Walk ps x ts y → opens ps ≡ true → starts (kind_at x) (text_at x) ≡ true
begins_row (take {m = Operator} {k = k} {t = t} {x = x} e f w) h = at_kind starts (took k t x e f) h
begins_row (literal {s = s} {t = t} {x = x} e f w) h =
    at_kind starts (took_in (mode_of s) s t x (and_left (is_op (mode_of s)) (is_quote s) h) e f) (six s t (and_right (is_op (mode_of s)) (is_quote s) h))
begins_row _ h = cc

pub arrow_leads : (k : Kind) → grows k ≡ true → is_arrow k ≡ false
arrow_leads k h = by_kind k (is_arrow k) refl h
  where
    by_kind : (k : Kind) (b : Bool) → is_arrow k ≡ b → grows k ≡ true → b ≡ false
    by_kind k false e h = refl
    by_kind (expression Arrow) true e h = cc
    by_kind (expression ArrowBlock) true e h = cc
    by_kind _ true e h = cc

pub record HeadFacts (k : Kind) : Type 0 where
  pub opens' : opens (row k) ≡ true
  pub no_word' : no_word (row k) ≡ true
  pub open' : (is_paren k || no_open (row k)) ≡ true
  pub paren' : (not (nat_eq (code k) 3) || is_paren k) ≡ true
  pub not_seq : nat_eq (code k) 19 ≡ false

pub record GrowFacts (k : Kind) : Type 0 where
  pub goes : goes_by (tail k) (suc (level k)) ≡ true
  pub not_paren : nat_eq (code k) 3 ≡ false
  pub not_seq : nat_eq (code k) 19 ≡ false

cond_yes : {A : Type 0} (b : Bool) (x y : A) → b ≡ true → cond b x y ≡ x
cond_yes true x y e = refl
cond_yes false x y e = cc

pub cond_no : {A : Type 0} (b : Bool) (x y : A) → b ≡ false → cond b x y ≡ y
cond_no true x y e = cc
cond_no false x y e = refl

five : (a b c d e : Bool) → (a && (b && (c && (d && e)))) ≡ true → (a ≡ true) × (b ≡ true) × (c ≡ true) × (d ≡ true) × (e ≡ true)
five a b c d e h =
    let r = and_right a _ h in
    let q = and_right b _ r in
    let p = and_right c _ q in
    (and_left a _ h, and_left b _ r, and_left c _ q, and_left d e p, and_right d e p)

pub of_head : (k : Kind) → scope k ≡ true → is_arrow k ≡ false → grows k ≡ false → is_paren k ≡ false → HeadFacts k
of_head k s a d i =
    let h : one_ok k ≡ true = for_kind one_ok ones k s in
    let g : (is_arrow k || (is_paren k || (opens (row k) && (no_word (row k) && ((is_paren k || no_open (row k)) && ((not (nat_eq (code k) 3) || is_paren k) && not (nat_eq (code k) 19))))))) ≡ true = sym (cond_no (grows k) _ _ d) ∙ h in
    let o = or_else (is_paren k) _ (or_else (is_arrow k) _ g a) i in
    let q = five (opens (row k)) (no_word (row k)) (is_paren k || no_open (row k)) (not (nat_eq (code k) 3) || is_paren k) (not (nat_eq (code k) 19)) o in
    record { opens' = q.0; no_word' = q.1; open' = q.2; paren' = q.3; not_seq = not_is _ q.4 }

pub of_grow : (k : Kind) → scope k ≡ true → grows k ≡ true → GrowFacts k
of_grow k s d =
    let h : one_ok k ≡ true = for_kind one_ok ones k s in
    let g : (goes_by (tail k) (suc (level k)) && (not (nat_eq (code k) 3) && not (nat_eq (code k) 19))) ≡ true = sym (cond_yes (grows k) _ _ d) ∙ h in
    let r = and_right (goes_by (tail k) (suc (level k))) _ g in
    record { goes = and_left (goes_by (tail k) (suc (level k))) _ g; not_paren = not_is _ (and_left (not (nat_eq (code k) 3)) _ r); not_seq = not_is _ (and_right (not (nat_eq (code k) 3)) _ r) }

-- the word that a function or a class begins with
pub data Opened (x : Place) : Type 0 where
  a_word : (w : Text) → Opener w → Seen x IdentifierName w → Opened x
  a_tag : Angle x → Opened x

pub opened_at : (x : Place) → Opens x → Opened x
opened_at x (by_word w o f) = a_word w o (seen IdentifierName w x f)
opened_at x (by_tag f) = a_tag (angle_here x f)

pub opener_value : {w : Text} → Opener w → is_value_word w ≡ false
opener_value of_function = refl
opener_value of_class = refl

opener_starts : {w : Text} → Opener w → starts 0 w ≡ true
opener_starts of_function = refl
opener_starts of_class = refl

opened_starts : {x : Place} → Opened x → starts (kind_at x) (text_at x) ≡ true
opened_starts (a_word w o s) = at_kind starts s (opener_starts o)
opened_starts {x} (a_tag a) = (λ i. starts (a.kind i) (text_at x)) ∙ angle_case (starts 1) refl refl refl refl (text_at x) a.text

two_first : (a b c : Bool) → (a || b) ≡ true → (a || (b || c)) ≡ true
two_first true b c h = refl
two_first false b c h = (λ i. h i || c)

slash_mark : (t : Text) → is_slash t ≡ true → starts 1 t ≡ true
slash_mark t h = two_first (same t (codes "/")) (same t (codes "/=")) _ h

pub begins : {n : ℕ} {x y : Place} {t : Tree} → Reads n x t y → starts (kind_at x) (text_at x) ≡ true
begins (word {s = s} {t = t} {x = x} a e f) = at_kind starts (took s t x e f) (may_start s t a)
begins (regexp {t = t} {x = x} e f) = let s = regexp_slash t x (found_at e f) in (λ i. starts (s.kind i) (text_at x)) ∙ slash_mark (text_at x) s.text
begins (head {k = k} s a i l d w) = begins_row w (of_head k s a d i).opens'
begins (sealed {x = x} l s) = opened_starts (opened_at x s.opener)
begins (braces {x = x} l c a e f p) = at_kind starts (took Punctuator (codes "{") x e f) refl
begins (paren {x = x} l e f a g h) = at_kind starts (took Punctuator (codes "(") x e f) refl
begins (target {x = x} l e f r c g h) = at_kind starts (took Punctuator (codes "(") x e f) refl
begins (grow s d l b r w) = begins r
begins (arrow {x = x} l (take e f p) w) = at_kind starts (took Punctuator (codes "(") x e f) refl
begins (blocked {x = x} l e f p b) = at_kind starts (took Punctuator (codes "(") x e f) refl
begins (bare_blocked {x = x} {t = t} l a e f b) = at_kind starts (took IdentifierName t x e f) (may_start IdentifierName t a)

-- no expression begins with this token
pub no_start : {n : ℕ} {x y : Place} {t : Tree} {k : TokenKind} {u : Text} → Seen x k u → starts (kind_number k) u ≡ false → Reads n x t y → ⊥
no_start {x = x} {k = k} {u = u} s h r = never (starts (kind_number k) u) (sym (λ i. starts (s.kind i) (s.text i)) ∙ begins r) h

pub word_mark : {s k : TokenKind} {t u : Text} {x : Place} → may_be s t ≡ true → Seen x s t → Seen x k u → (nat_eq (kind_number k) 1 || (nat_eq (kind_number k) 0 && not (is_value_word u))) ≡ true → ⊥
word_mark {s} {k} {t} {u} a r v h = by_case (test (nat_eq (kind_number k) 1))
  where
    by_case : Test (nat_eq (kind_number k) 1) → ⊥
    by_case (yes' mark) = never _ (subst (λ n. nat_eq n 1 ≡ true) (sym v.kind ∙ r.kind) mark) (not_mark s t a).0
    by_case (no' other) =
        let z = or_else (nat_eq (kind_number k) 1) (nat_eq (kind_number k) 0 && not (is_value_word u)) h other in
        never (is_value_word u) (subst (λ t. is_value_word t ≡ true) (sym r.text ∙ v.text) (is_value s t a (subst (λ n. nat_eq n 0 ≡ true) (sym v.kind ∙ r.kind) (and_left (nat_eq (kind_number k) 0) (not (is_value_word u)) z))))
        (not_is (is_value_word u) (and_right (nat_eq (kind_number k) 0) (not (is_value_word u)) z))

pub word_apart : {s : TokenKind} {t : Text} {ps : List Step} {x y : Place} {ts : Forest} → may_be s t ≡ true → Seen x s t → Walk ps x ts y → no_word ps ≡ true → ⊥
word_apart {s} {t} a r (take {m = Operator} {k = k} {t = u} {x = x} e f w) h = word_mark a r (took k u x e f) h
word_apart {s} {t} a r (literal {s = k} {t = u} {x = x} e f w) h =
    let v = took_in (mode_of k) k u x (and_left (is_op (mode_of k)) (is_quote k) h) e f in
    never _ (subst (λ n. is_quote n ≡ true) (kind_is k s (sym v.kind ∙ r.kind)) (and_right (is_op (mode_of k)) (is_quote k) h)) (not_mark s t a).1
word_apart a r _ h = cc

-- ---- what goes on

-- a template's first token
pub record Quoted (x : Place) : Type 0 where
  pub kind : TokenKind
  pub text : Text
  pub here : Seen x kind text
  pub quotes : is_quote kind ≡ true
  pub back : is_backquote text ≡ true

opened : {ps : List Step} {x y : Place} {ts : Forest} → Walk ps x ts y → opens_quote ps ≡ true → Quoted x
opened (literal {s = s} {t = t} {x = x} e f w) h =
    let q = and_right (is_op (mode_of s)) (is_quote s) h in
    let e' = subst (λ m. IsTrue (is_found (forth (Tok m s t) x))) (op_is (mode_of s) (and_left (is_op (mode_of s)) (is_quote s) h)) (found_at e f) in
    record { kind = s; text = t; here = seen s t x e'; quotes = q; back = quote_begins s t x q e' }
opened _ h = cc

pub tagged_facts : (k : Kind) → scope k ≡ true → is_tagged k ≡ true → (opens_quote (row k) ≡ true) × ((is_arrow k ≡ false) × (nat_eq (code k) 3 ≡ false))
tagged_facts k s l =
    let h = or_else (not (is_tagged k)) _ (for_kind tagged_ok tagged_ones k s) (ap not l) in
    let r = and_right (opens_quote (row k)) _ h in
    (and_left (opens_quote (row k)) _ h, (not_is _ (and_left (not (is_arrow k)) _ r), not_is _ (and_right (not (is_arrow k)) _ r)))

pub tagged_start : (k : Kind) {x y : Place} {cs : Forest} → scope k ≡ true → is_tagged k ≡ true → Walk (row k) x cs y → Quoted x
tagged_start k s l w = opened w (tagged_facts k s l).0

quote_reach : {x : Place} → Quoted x → ahead x ≡ 19
quote_reach {x} q = (λ i. reach_of (q.here.kind i) (q.here.text i) (broken x)) ∙ (λ i. cond (q.back i) 19 (cond (nat_eq (kind_number q.kind) (kind_number Punctuator) || nat_eq (kind_number q.kind) (kind_number IdentifierName)) (cond (is_step q.text) (cond (broken x) 0 17) (lookup q.text entries)) 0))

dot_reach : {x : Place} → Seen x Punctuator (codes "?.") → ahead x ≡ 18
dot_reach {x} s = (λ i. reach_of (s.kind i) (s.text i) (broken x))

reach_by : {ps : List Step} {x y : Place} {ts : Forest} {n : ℕ} (b : Bool) → broken x ≡ b → Walk ps x ts y → reaches b ps n ≡ true → ahead x ≡ n
reach_by b o (pass g w) h = reach_by b o w h
reach_by b o (take {m = Operator} {k = k} {t = t} {x = x} e f w) h = let s : Seen x k t = took k t x e f in (λ i. reach_of (s.kind i) (s.text i) (o i)) ∙ eq_nat h
reach_by {n = n} b o (linked {x = x} g a w) h = dot_reach (seen Punctuator (codes "?.") x g) ∙ sym (eq_nat h)
reach_by {n = n} b o (tagged {k = k} {x = x} s l a w) h = quote_reach (tagged_start k s l a) ∙ sym (eq_nat h)
reach_by b o _ h = cc

whole_line : {ps : List Step} {x y : Place} {ts : Forest} → Walk ps x ts y → on_line ps ≡ true → broken x ≡ false
whole_line (pass {s = SameLine} g w) h = not_is _ g
whole_line _ h = cc

goes_ahead : {ps : List Step} {x y : Place} {ts : Forest} {n : ℕ} → Walk ps x ts y → goes_by ps n ≡ true → ahead x ≡ n
goes_ahead {ps} {x} {n = n} w h = by_case (test (broken x))
  where
    by_case : Test (broken x) → ahead x ≡ n
    by_case (no' o) = reach_by false o w (and_left (reaches false ps n) (on_line ps || reaches true ps n) h)
    by_case (yes' o) = by_line (test (on_line ps))
      where
        by_line : Test (on_line ps) → ahead x ≡ n
        by_line (yes' l) = absurd (never (broken x) o (whole_line w l))
        by_line (no' l) = reach_by true o w (or_else (on_line ps) (reaches true ps n) (and_right (reaches false ps n) (on_line ps || reaches true ps n) h) l)

pub goes_on : {ps : List Step} {x y : Place} {ts : Forest} {n : ℕ} → is_block x ≡ false → Walk ps x ts y → goes_by ps n ≡ true → reach x ≡ n
goes_on {x = x} b w h = (λ i. cond (b i) (block_reach (kind_at x) (text_at x)) (ahead x)) ∙ goes_ahead w h

-- no place behind a token is behind a block
pub tok_clear : (m : Mode) (k : TokenKind) (t : Text) (x : Place) {y : Place} → forth (Tok m k t) x ≡ y → is_block y ≡ false
tok_clear m k t Lost e = subst (λ z. is_block z ≡ false) e refl
tok_clear m k t (At q g text) e = subst (λ z. is_block z ≡ false) e (if_clear (is_token (token m (same q []) text) k t) (token m (same q []) text).rest)
  where
    if_clear : (b : Bool) (r : Text) → is_block (go_if b (At t AfterExpr r)) ≡ false
    if_clear true r = refl
    if_clear false r = refl

pub items_clear : {h : Bool} {u : Text} {x y : Place} {ts : Forest} → Items h u x ts y → is_block y ≡ false
items_clear (shut {u = u} {x = x} e f) = tok_clear Operator Punctuator u x e
items_clear (gap e f i) = items_clear i
items_clear (last {u = u} {y = y} r c e f) = tok_clear Operator Punctuator u y e
items_clear (more r c e f i) = items_clear i

pub no_growth : (k : Kind) {n : ℕ} {x y : Place} {ts : Forest} → scope k ≡ true → grows k ≡ true → n ≤ level k → is_block x ≡ false → Walk (tail k) x ts y → calm n x ≡ true → ⊥
no_growth k {n} {x} s d le b w c =
    let r : reach x ≡ suc (level k) = goes_on b w (of_grow k s d).goes in
    let l : reach x ≤ n = le_nat c in
    omega (arith, le, r, l)
