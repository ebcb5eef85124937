-- Two readings from one place, one step after another.
use Rattle.jsx_tree.proofs.OneTree.Checks.{no_tag, tag_ok, tag_ones}
use Rattle.jsx_tree.proofs.OneTree.Readings.{is_angle}
use Rattle.jsx_tree.proofs.OneTree.Angles.{Angle, angle_case}
use Rattle.jsx_tree.proofs.OneTree.Readings.{Blocked, brace, pass, linked, tagged}
use Rattle.std.proofs.Common.{◌≡◌, ℕ, ◌≤◌, Bool, true, false, not, cond, List, [], refl, sym, ◌∙◌, ap, subst, arith}
use Rattle.std.specs.Prelude.{IsTrue, ◌&&◌, ◌||◌, nat_eq, codes}
use Rattle.std.proofs.lemmas.Bool.{eq-eqb}
use Rattle.jsx_base.specs.Token.{Text, Mode, Operand, Operator, TokenKind, IdentifierName, Punctuator, NumericLiteral, BigIntLiteral, StringLiteral, RegExpLiteral, kind_number, same, among, is_token, token}
use Rattle.jsx_tree.specs.Signs.{Sign, Tok, Unless, Ends, AfterBlock}
use Rattle.jsx_tree.specs.Kinds.{Kind, Tree, node, Forest, FunctionBody, program}
use Rattle.jsx_tree.specs.Spelling.{mode_of}
use Rattle.jsx_tree.specs.Reading.{Place, Lost, At, forth, go_if}
use Rattle.jsx_tree.specs.Walk.{is_found}
use Rattle.jsx_tree.proofs.Tokens.{and_left, and_right, same_is}
use Rattle.jsx_tree.proofs.OneTree.Table.{code, scope, kinds}
use Rattle.jsx_tree.proofs.OneTree.Sealed.{Opener, of_function, of_class, Sealed, sealed_same, Filled, filled_same}
use Rattle.jsx_tree.proofs.OneTree.Readings.{is_block, block_reach, ahead, Step, row, tail, level, grows, reach_of, reach, calm, text_at, broken, Flat, Flats, one, some, row_of, nil, cons, unseq, paren_of, is_arrow, is_paren, made, flat, flats, may_be, holds, comma, Reads, Prop, long, computed, short, preset, rest, member, Opening, o_named, o_computed, o_worded, Props, key_start, kind_at, may_key, Walk, take, literal, is_link, is_tagged, is_quote, is_slash, Rest, Items, shut, gap, last, more}
use Rattle.jsx_tree.proofs.OneTree.Checks.{is_op, starts, blocks, same_token, apart, twin, bare, no_line, no_open, goes_by, every, heads_pair, tails_pair, no_opener, opener_ok, opener_ones, no_slash, slash_ok, slash_ones, tagged_pair, all_tagged, links_pair, link_ok, links, link_ones, heads, tails, past_arrow, no_block, unblocked, block_ones}
use Rattle.jsx_tree.proofs.OneTree.Slashes.{Slash, regexp_slash}
use Rattle.jsx_tree.proofs.OneTree.Facts.{never, or_else, not_is, Test, yes', no', test, eq_nat, le_nat, op_is, kind_is, Seen, seen, found_at, took, took_in, same_seen, for_kind}
use Rattle.jsx_tree.proofs.OneTree.Starting.{Opened, a_word, a_tag, opened_at, opener_value, strip, strip_line, or_other, not_mark, of_head, no_start, word_mark, word_apart, Quoted, tagged_facts, goes_on, no_growth, tagged_start}
use Rattle.jsx_tree.proofs.OneTree.Growths.{s_sealed, s_braces, Through, here, step, Start, s_word, s_regexp, s_head, s_paren, made_plain, head_code, block}

-- ---- the one reading

pub record Same (f g : Flats) (y z : Place) : Type 0 where
  pub trees : f ≡ g
  pub places : y ≡ z

pub record SameOne (f g : Flat) (y z : Place) : Type 0 where
  pub tree : f ≡ g
  pub place : y ≡ z

pub and3 : (a b c : Bool) → (a && (b && c)) ≡ true → (a ≡ true) × (b ≡ true) × (c ≡ true)
and3 a b c h = let r = and_right a (b && c) h in (and_left a (b && c) h, and_left b c r, and_right b c r)

pub record SameSign (m : Mode) (k : TokenKind) (t : Text) (n : Mode) (l : TokenKind) (u : Text) : Type 0 where
  pub mode : m ≡ n
  pub kind : k ≡ l
  pub text : t ≡ u

pub same_sign : (m n : Mode) (k l : TokenKind) (t u : Text) → (is_op m && (is_op n && same_token k t l u)) ≡ true → SameSign m k t n l u
same_sign m n k l t u h =
    let r = and3 (is_op m) (is_op n) (same_token k t l u) h in
    record { mode = op_is m r.0 ∙ sym (op_is n r.1); kind = kind_is k l (eq_nat (and_left (nat_eq (kind_number k) (kind_number l)) (same t u) r.2)); text = same_is t u (and_right (nat_eq (kind_number k) (kind_number l)) (same t u) r.2) }

pub same_place : {m n : Mode} {k l : TokenKind} {t u : Text} (x : Place) {y z : Place} → SameSign m k t n l u → forth (Tok m k t) x ≡ y → forth (Tok n l u) x ≡ z → y ≡ z
same_place x s e f = sym e ∙ ((λ i. forth (Tok (s.mode i) (s.kind i) (s.text i)) x) ∙ f)

pub record SameLit (s r : TokenKind) : Type 0 where
  pub kind : s ≡ r
  pub first : is_op (mode_of s) ≡ true
  pub second : is_op (mode_of r) ≡ true

pub same_lit : (s r : TokenKind) → (is_op (mode_of s) && (is_op (mode_of r) && nat_eq (kind_number s) (kind_number r))) ≡ true → SameLit s r
same_lit s r h = let q = and3 (is_op (mode_of s)) (is_op (mode_of r)) (nat_eq (kind_number s) (kind_number r)) h in record { kind = kind_is s r (eq_nat q.2); first = q.0; second = q.1 }

-- two tokens that differ don't stand at one place
pub two_tokens : {x : Place} {k l : TokenKind} {t u : Text} → Seen x k t → Seen x l u → same_token k t l u ≡ false → ⊥
two_tokens {k = k} {l} {t} {u} s r h = never (same_token k t l u) (same_seen s r) h

pub move : {y z w : Place} {ps : List Step} {us : Forest} → y ≡ z → Walk ps z us w → Walk ps y us w
move {w = w} {ps} {us} e v = subst (λ p. Walk ps p us w) (sym e) v

pub move_items : {h : Bool} {u : Text} {y z w : Place} {us : Forest} → y ≡ z → Items h u z us w → Items h u y us w
move_items {h} {u} {w = w} {us} e v = subst (λ p. Items h u p us w) (sym e) v

pub move_rest : {y z w : Place} {us : Forest} → y ≡ z → Rest z us w → Rest y us w
move_rest {w = w} {us} e v = subst (λ p. Rest p us w) (sym e) v

comma_reach : {x : Place} → Seen x Punctuator (codes ",") → reach x ≡ 1
comma_reach {x} s = by_block (test (is_block x))
  where
    by_block : Test (is_block x) → reach x ≡ 1
    by_block (yes' b) = (λ i. cond (b i) (block_reach (s.kind i) (s.text i)) (ahead x))
    by_block (no' b) = (λ i. cond (b i) (block_reach (kind_at x) (text_at x)) (reach_of (s.kind i) (s.text i) (broken x)))

pub no_comma : {x : Place} → Seen x Punctuator (codes ",") → calm 0 x ≡ true → ⊥
no_comma {x} s c = let r : reach x ≡ 1 = comma_reach s in let l : reach x ≤ 0 = le_nat c in omega (arith, r, l)

pub seen_at : {x y : Place} {k : TokenKind} {t : Text} → x ≡ y → Seen y k t → Seen x k t
seen_at {k = k} {t} e s = subst (λ p. Seen p k t) (sym e) s

pub comma_seen : {x y : Place} → forth comma x ≡ y → IsTrue (is_found y) → Seen x Punctuator (codes ",")
comma_seen {x} e f = took Punctuator (codes ",") x e f

pub close_seen : {x y : Place} {u : Text} → forth (Tok Operator Punctuator u) x ≡ y → IsTrue (is_found y) → Seen x Punctuator u
close_seen {x} {u = u} e f = took Punctuator u x e f

pub move_tok : (s : Sign) {x x' y y' : Place} → forth s x ≡ y → x ≡ x' → forth s x' ≡ y' → y ≡ y'
move_tok s e p f = sym e ∙ (ap (forth s) p ∙ f)

-- ---- the block of an arrow

arrow_seen : {y z : Place} {cs : Forest} → Blocked y cs z → Seen y Punctuator (codes "=>")
arrow_seen {y} b = took Punctuator (codes "=>") y b.arrow' b.found_arrow

pub no_arrow : {n : ℕ} {y z : Place} {cs : Forest} → n ≤ 1 → is_block y ≡ false → Blocked y cs z → calm n y ≡ true → ⊥
no_arrow {n} {y} le c b q =
    let s = arrow_seen b in
    let r : reach y ≡ 2 = (λ i. cond (c i) (block_reach (kind_at y) (text_at y)) (reach_of (s.kind i) (s.text i) (broken y))) in
    let l : reach y ≤ n = le_nat q in
    omega (arith, le, r, l)

arrow_passed : {ps : List Step} {x y : Place} {ts : Forest} → Walk ps x ts y → past_arrow ps ≡ true → Seen x Punctuator (codes "{") → ⊥
arrow_passed (take {m = Operator} {k = k} {t = t} {x = x} e f w) h s = two_tokens (took k t x e f) s (not_is _ h)
arrow_passed (pass {s = Unless ts} {ps = ps} {x = x} g w) h s = by_guard (test (among (codes "{") ts)) (arrow_passed w)
  where
    by_guard : Test (among (codes "{") ts) → (past_arrow ps ≡ true → Seen x Punctuator (codes "{") → ⊥) → ⊥
    by_guard (yes' a) r = never (among (codes "{") ts) a (subst (λ u. among u ts ≡ false) s.text (not_is (among (text_at x) ts) g))
    by_guard (no' a) r = r (or_else (among (codes "{") ts) (past_arrow ps) h a) s
arrow_passed _ h s = cc

pub block_apart : {ps : List Step} {y z w : Place} {cs ts : Forest} → Walk ps y ts w → no_block ps ≡ true → Blocked y cs z → ⊥
block_apart (pass g v) h b = block_apart v h b
block_apart (take {m = Operator} {k = k} {t = t} {ps = ps} {x = y} e f v) h b = by_same (test (same_token k t Punctuator (codes "=>")))
  where
    by_same : Test (same_token k t Punctuator (codes "=>")) → ⊥
    by_same (no' n) = two_tokens (took k t y e f) (arrow_seen b) n
    by_same (yes' n) =
        let p = same_place y (same_sign Operator Operator k Punctuator t (codes "=>") n) e b.arrow' in
        arrow_passed v (or_else (not (same_token k t Punctuator (codes "=>"))) (past_arrow ps) h (ap not n)) (seen_at p (took Punctuator (codes "{") b.behind b.open' b.found_open))
block_apart (linked {x = y} g a v) h b = two_tokens (seen Punctuator (codes "?.") y g) (arrow_seen b) refl
block_apart (tagged {k = k} s l a v) h b =
    let q = tagged_start k s l a in
    never (is_quote Punctuator) (subst (λ n. is_quote n ≡ true) (kind_is q.kind Punctuator (sym q.here.kind ∙ (arrow_seen b).kind)) q.quotes) refl
block_apart _ h b = cc

pub tail_block : (k : Kind) {y z w : Place} {cs ts : Forest} → scope k ≡ true → grows k ≡ true → Walk (tail k) y ts w → Blocked y cs z → ⊥
tail_block k s d v b = block_apart v (or_else (not (grows k)) (no_block (tail k)) (for_kind unblocked block_ones k s) (ap not d)) b

pub blocks_same : {y z w : Place} {cs ds : Forest} → Blocked y cs z → Blocked y ds w → (cs ≡ ds) × (z ≡ w)
blocks_same {cs = cs} {ds} a b =
    let p = sym a.arrow' ∙ b.arrow' in
    let q = move_tok (Tok Operator Punctuator (codes "{")) a.open' p b.open' in
    let r = filled_same a.filled (subst (λ x. Filled x ds b.last) (sym q) b.filled) in
    (r.0, move_tok (Ends AfterBlock) a.ends' (move_tok brace a.close' r.1 b.close') b.ends')

pub ends : {n : ℕ} {y z : Place} {f g : Flat} → Through n y f z g → calm n y ≡ true → SameOne f g y z
ends here c = record { tree = refl; place = refl }
ends (step k s d l b w th) c = absurd (no_growth k s d l b w c)
ends (block l b a) c = absurd (no_arrow l b a c)

-- what a growth is compared with: any tail that stands at its place
pub record Only (k : Kind) (y : Place) (f : Flats) (z : Place) : Type 0 where
  pub only : (l : Kind) (us : Forest) (w : Place) → scope l ≡ true → grows l ≡ true → Walk (tail l) y us w → (code k ≡ code l) × (f ≡ flats us) × (z ≡ w)

pub onward : (k : Kind) {n : ℕ} {y p z : Place} {f g : Flat} {ts : Forest} → scope k ≡ true → grows k ≡ true → n ≤ level k → is_block y ≡ false → Walk (tail k) y ts p → Only k y (flats ts) p → Through n y f z g → calm n z ≡ true → Through n p (some (code k) (cons f (flats ts))) z g
onward k s d le b w o here c = absurd (no_growth k s d le b w c)
onward k {n} {y} {p} {z} {f} {g} {ts} s d le b w o (step l {p = q} {ts = us} s' d' le' b' v th) c =
    let is = o.only l us q s' d' v in
    subst (λ x. Through n x (some (code k) (cons f (flats ts))) z g) (sym is.2)
    (subst (λ x. Through n q x z g) (λ i. some (sym is.0 i) (cons f (sym is.1 i))) th)
onward k s d le b w o (block l' b' a) c = absurd (tail_block k s d w a)

-- the same where it is the block of an arrow that is read
pub onward_block : {n : ℕ} {y p z : Place} {f g : Flat} {cs : Forest} → n ≤ 1 → is_block y ≡ false → Blocked y cs p → Through n y f z g → calm n z ≡ true → Through n p (some 70 (cons f (cons (flat (node (program FunctionBody) cs)) nil))) z g
onward_block le b a here c = absurd (no_arrow le b a c)
onward_block le b a (step k s d l b' w th) c = absurd (tail_block k s d w a)
onward_block {n} {p = p} {z} {f} {cs = cs} le b a (block {cs = ds} l b' a') c =
    let o = blocks_same a a' in
    subst (λ x. Through n x (some 70 (cons f (cons (flat (node (program FunctionBody) cs)) nil))) z (some 70 (cons f (cons (flat (node (program FunctionBody) ds)) nil)))) (sym o.1)
    (subst (λ us. Through n z (some 70 (cons f (cons (flat (node (program FunctionBody) cs)) nil))) z (some 70 (cons f (cons (flat (node (program FunctionBody) us)) nil)))) o.0 here)

not_true : (b : Bool) → b ≡ true → not b ≡ false
not_true true e = refl
not_true false e = absurd (never false e refl)

-- two tails of growths
pub tail_only : (k : Kind) {y p : Place} (ts : Forest) → scope k ≡ true → grows k ≡ true
    → ((qs : List Step) (us : Forest) (w : Place) → twin (tail k) qs ≡ true → Walk qs y us w → Same (flats ts) (flats us) p w)
    → ((qs : List Step) (us : Forest) (w : Place) → apart (tail k) qs ≡ true → Walk qs y us w → ⊥) → Only k y (flats ts) p
tail_only k {y} {p} ts s d twins apart' = record { only = λ l us w s' d' v. by_pair l us w s' d' v (test (nat_eq (code k) (code l) && twin (tail k) (bare (tail l)))) }
  where
    by_pair : (l : Kind) (us : Forest) (w : Place) → scope l ≡ true → grows l ≡ true → Walk (tail l) y us w → Test (nat_eq (code k) (code l) && twin (tail k) (bare (tail l))) → (code k ≡ code l) × (flats ts ≡ flats us) × (p ≡ w)
    by_pair l us w s' d' v (yes' h) =
        let same = twins (bare (tail l)) us w (and_right (nat_eq (code k) (code l)) (twin (tail k) (bare (tail l))) h) (strip v) in
        (eq_nat (and_left (nat_eq (code k) (code l)) (twin (tail k) (bare (tail l))) h), same.trees, same.places)
    by_pair l us w s' d' v (no' h) =
        let h1 : tails_pair k l ≡ true = for_kind (tails_pair k) (for_kind (λ k. every (tails_pair k) kinds) tails k s) l s' in
        let h2 = or_else (not (grows k)) _ h1 (not_true (grows k) d) in
        let h3 = or_else (not (grows l)) _ h2 (not_true (grows l) d') in
        absurd (apart' (no_line (tail l)) us w (or_else (nat_eq (code k) (code l) && twin (tail k) (bare (tail l))) (apart (tail k) (no_line (tail l))) h3 h) (strip_line v))

pub settle : {n : ℕ} {y q z : Place} {f g h : Flat} → SameOne f g y q → Through n q g z h → Through n y f z h
settle {n} {q = q} {z = z} {f = f} {h = h} o th = subst (λ p. Through n p f z h) (sym o.place) (subst (λ e. Through n q e z h) (sym o.tree) th)

open_seen : {x p : Place} → forth (Tok Operator Punctuator (codes "(")) x ≡ p → IsTrue (is_found p) → Seen x Punctuator (codes "(")
open_seen {x} e f = took Punctuator (codes "(") x e f

not_open : {ps : List Step} {x y : Place} {ts : Forest} → Walk ps x ts y → no_open ps ≡ true → Seen x Punctuator (codes "(") → ⊥
not_open (take {m = Operator} {k = k} {t = t} {x = x} e f w) h s = two_tokens (took k t x e f) s (not_is (same_token k t Punctuator (codes "(")) (and_left (not (same_token k t Punctuator (codes "("))) (not (same_token k t Punctuator (codes "{"))) h))
not_open (literal {s = k} {t = t} {x = x} e f w) h s =
    let v = took_in (mode_of k) k t x (and_left (is_op (mode_of k)) (is_quote k) h) e f in
    never (is_quote Punctuator) (subst (λ n. is_quote n ≡ true) (kind_is k Punctuator (sym v.kind ∙ s.kind)) (and_right (is_op (mode_of k)) (is_quote k) h)) refl
not_open _ h s = cc

brace_seen : {x p : Place} → forth (Tok Operator Punctuator (codes "{")) x ≡ p → IsTrue (is_found p) → Seen x Punctuator (codes "{")
brace_seen {x} e f = took Punctuator (codes "{") x e f

not_brace : {ps : List Step} {x y : Place} {ts : Forest} → Walk ps x ts y → no_open ps ≡ true → Seen x Punctuator (codes "{") → ⊥
not_brace (take {m = Operator} {k = k} {t = t} {x = x} e f w) h s = two_tokens (took k t x e f) s (not_is (same_token k t Punctuator (codes "{")) (and_right (not (same_token k t Punctuator (codes "("))) (not (same_token k t Punctuator (codes "{"))) h))
not_brace (literal {s = k} {t = t} {x = x} e f w) h s =
    let v = took_in (mode_of k) k t x (and_left (is_op (mode_of k)) (is_quote k) h) e f in
    never (is_quote Punctuator) (subst (λ n. is_quote n ≡ true) (kind_is k Punctuator (sym v.kind ∙ s.kind)) (and_right (is_op (mode_of k)) (is_quote k) h)) refl
not_brace _ h s = cc

not_slash : {ps : List Step} {x y : Place} {ts : Forest} → Walk ps x ts y → no_slash ps ≡ true → Slash x → ⊥
not_slash (take {m = Operator} {k = k} {t = t} {x = x} e f w) h s = never (is_slash t) (subst (λ t. is_slash t ≡ true) (took k t x e f).text s.text) (not_is _ h)
not_slash (literal {s = k} {t = t} {x = x} e f w) h s =
    let v = took_in (mode_of k) k t x (and_left (is_op (mode_of k)) (is_quote k) h) e f in
    never (is_quote Punctuator) (subst (λ n. is_quote n ≡ true) (kind_is k Punctuator (sym v.kind ∙ s.kind)) (and_right (is_op (mode_of k)) (is_quote k) h)) refl
not_slash _ h s = cc

head_slash : (k : Kind) {x y : Place} {ts : Forest} → scope k ≡ true → is_arrow k ≡ false → grows k ≡ false → is_paren k ≡ false → Walk (row k) x ts y → Slash x → ⊥
head_slash k s a d p w h = not_slash w (or_else (is_paren k) _ (or_else (is_arrow k) _ (or_else (grows k) _ (for_kind slash_ok slash_ones k s) d) a) p) h

word_slash : {s : TokenKind} {t : Text} {x : Place} → may_be s t ≡ true → Seen x s t → Slash x → ⊥
word_slash {s} {t} a r h = never _ (eq-eqb (kind_number s) 1 (sym r.kind ∙ h.kind)) (not_mark s t a).0

mark_slash : {t : Text} {x : Place} → is_slash t ≡ false → Seen x Punctuator t → Slash x → ⊥
mark_slash {t} n r h = never (is_slash t) (subst (λ t. is_slash t ≡ true) r.text h.text) n

slash_here : (t : Text) (x : Place) {y : Place} → forth (Tok Operand RegExpLiteral t) x ≡ y → IsTrue (is_found y) → Slash x
slash_here t x e f = regexp_slash t x (found_at e f)

-- two tokens that are read in one mode
place_found : (b : Bool) (x : Place) → IsTrue (is_found (go_if b x)) → b ≡ true
place_found true x e = refl
place_found false x e = cc

pub one_token : (m : Mode) (k l : TokenKind) (t u : Text) (x : Place) → IsTrue (is_found (forth (Tok m k t) x)) → IsTrue (is_found (forth (Tok m l u) x)) → (kind_number k ≡ kind_number l) × (t ≡ u)
one_token m k l t u Lost f g = cc
one_token m k l t u (At q e text) f g =
    let a = place_found (is_token (token m (same q []) text) k t) _ f in
    let b = place_found (is_token (token m (same q []) text) l u) _ g in
    (sym (eq_nat {a = kind_number (token m (same q []) text).kind} (and_left _ _ a)) ∙ eq_nat {a = kind_number (token m (same q []) text).kind} (and_left _ _ b), sym (same_is (token m (same q []) text).raw t (and_right _ _ a)) ∙ same_is (token m (same q []) text).raw u (and_right _ _ b))

sealed_slash : {x y : Place} {k : Kind} {cs : Forest} → Sealed x k cs y → Slash x → ⊥
sealed_slash {x} s h = by_opened (opened_at x s.opener)
  where
    by_opened : Opened x → ⊥
    by_opened (a_word w o v) = never (nat_eq 0 1) (ap (λ n. nat_eq n 1) (sym v.kind ∙ h.kind)) refl
    by_opened (a_tag a) = never (is_slash (text_at x)) h.text (not_is _ (angle_case (λ t. not (is_slash t)) refl refl refl refl (text_at x) a.text))

sealed_word : {s : TokenKind} {t : Text} {x y : Place} {k : Kind} {cs : Forest} → may_be s t ≡ true → Seen x s t → Sealed x k cs y → ⊥
sealed_word {s} {t} {x} a r q = by_opened (opened_at x q.opener)
  where
    by_opened : Opened x → ⊥
    by_opened (a_word w o v) = word_mark a r v (ap not (opener_value o))
    by_opened (a_tag b) = never (nat_eq (kind_number s) 1) (eq-eqb (kind_number s) 1 (sym r.kind ∙ b.kind)) (not_mark s t a).0

sealed_mark : {t : Text} {x y : Place} {k : Kind} {cs : Forest} → is_angle t ≡ false → Sealed x k cs y → Seen x Punctuator t → ⊥
sealed_mark {t} {x} n q s = by_opened (opened_at x q.opener)
  where
    by_opened : Opened x → ⊥
    by_opened (a_word w o v) = two_tokens v s refl
    by_opened (a_tag a) = never (is_angle t) (subst (λ u. is_angle u ≡ true) s.text a.text) n

not_tag : {ps : List Step} {x y : Place} {ts : Forest} → Walk ps x ts y → no_tag ps ≡ true → Angle x → ⊥
not_tag (take {m = Operator} {k = k} {t = t} {x = x} e f w) h s = never (is_angle t) (subst (λ t. is_angle t ≡ true) (took k t x e f).text s.text) (not_is _ h)
not_tag (literal {s = k} {t = t} {x = x} e f w) h s =
    let v = took_in (mode_of k) k t x (and_left (is_op (mode_of k)) (is_quote k) h) e f in
    never (is_quote Punctuator) (subst (λ n. is_quote n ≡ true) (kind_is k Punctuator (sym v.kind ∙ s.kind)) (and_right (is_op (mode_of k)) (is_quote k) h)) refl
not_tag _ h s = cc

opener_row : {w : Text} {ps : List Step} {x y : Place} {ts : Forest} → Opener w → Seen x IdentifierName w → Walk ps x ts y → no_opener ps ≡ true → ⊥
opener_row of_function s (take {m = Operator} {k = k} {t = t} {x = x} e f w) h = two_tokens (took k t x e f) s (not_is _ (and_left (not (same_token k t IdentifierName (codes "function"))) _ h))
opener_row of_class s (take {m = Operator} {k = k} {t = t} {x = x} e f w) h = two_tokens (took k t x e f) s (not_is _ (and_right (not (same_token k t IdentifierName (codes "function"))) _ h))
opener_row o s (literal {s = k} {t = t} {x = x} e f w) h =
    let v = took_in (mode_of k) k t x (and_left (is_op (mode_of k)) (is_quote k) h) e f in
    never (is_quote IdentifierName) (subst (λ n. is_quote n ≡ true) (kind_is k IdentifierName (sym v.kind ∙ s.kind)) (and_right (is_op (mode_of k)) (is_quote k) h)) refl
opener_row o s _ h = cc

sealed_head : (l : Kind) {x y z : Place} {k : Kind} {cs ts : Forest} → scope l ≡ true → is_arrow l ≡ false → grows l ≡ false → is_paren l ≡ false → Walk (row l) x ts z → Sealed x k cs y → ⊥
sealed_head l {x = x} s a d p w q = by_opened (opened_at x q.opener)
  where
    by_opened : Opened x → ⊥
    by_opened (a_word u o v) = opener_row o v w (or_else (is_paren l) _ (or_else (is_arrow l) _ (or_else (grows l) _ (for_kind opener_ok opener_ones l s) d) a) p)
    by_opened (a_tag b) = not_tag w (or_else (is_paren l) _ (or_else (is_arrow l) _ (or_else (grows l) _ (for_kind tag_ok tag_ones l s) d) a) p) b

pub sealed_start : {x y q : Place} {k : Kind} {cs : Forest} {f : Flat} → Sealed x k cs y → Start x f q → SameOne (flat (node k cs)) f y q
sealed_start a (s_word {s = r} {t = u} {x = x} b e f) = absurd (sealed_word b (took r u x e f) a)
sealed_start a (s_regexp {t = u} {x = x} e f) = absurd (sealed_slash a (slash_here u x e f))
sealed_start a (s_head l s b d p w) = absurd (sealed_head l s b d p w a)
sealed_start a (s_paren {x = x} e f i) = absurd (sealed_mark refl a (open_seen {x = x} e f))
sealed_start a (s_braces {x = x} e f i) = absurd (sealed_mark refl a (brace_seen {x = x} e f))
sealed_start a (s_sealed b) = let r = sealed_same a b in record { tree = ap flat r.0; place = r.1 }

pub start_regexp : {t : Text} {x y q : Place} {f : Flat} → forth (Tok Operand RegExpLiteral t) x ≡ y → IsTrue (is_found y) → Start x f q → SameOne (one RegExpLiteral t) f y q
start_regexp {t} {x} e f (s_word {s = s} {t = u} a e' f') = absurd (word_slash a (took s u x e' f') (slash_here t x e f))
start_regexp {t} {x} e f (s_regexp {t = u} e' f') =
    let q = one_token Operand RegExpLiteral RegExpLiteral t u x (found_at e f) (found_at e' f') in
    record { tree = λ i. one RegExpLiteral (q.1 i); place = sym e ∙ ((λ i. forth (Tok Operand RegExpLiteral (q.1 i)) x) ∙ e') }
start_regexp {t} {x} e f (s_head k s' a' d' p' w) = absurd (head_slash k s' a' d' p' w (slash_here t x e f))
start_regexp {t} {x} e f (s_paren e' f' i) = absurd (mark_slash refl (open_seen {x = x} e' f') (slash_here t x e f))
start_regexp {t} {x} e f (s_sealed s) = absurd (sealed_slash s (slash_here t x e f))
start_regexp {t} {x} e f (s_braces e' f' i) = absurd (mark_slash refl (brace_seen {x = x} e' f') (slash_here t x e f))

pub start_word : {s : TokenKind} {t : Text} {x y q : Place} {f : Flat} → may_be s t ≡ true → forth (Tok Operator s t) x ≡ y → IsTrue (is_found y) → Start x f q → SameOne (one s t) f y q
start_word {s} {t} {x} a e f (s_word {s = r} {t = u} a' e' f') =
    let v : Seen x s t = took s t x e f in
    let w : Seen x r u = took r u x e' f' in
    let k : s ≡ r = kind_is s r (sym v.kind ∙ w.kind) in
    let l : t ≡ u = sym v.text ∙ w.text in
    record { tree = λ i. one (k i) (l i); place = sym e ∙ ((λ i. forth (Tok Operator (k i) (l i)) x) ∙ e') }
start_word {s} {t} {x} a e f (s_head k s' a' d' p' w) = absurd (word_apart a (took s t x e f) w (of_head k s' a' d' p').no_word')
start_word {s} {t} {x} a e f (s_paren e' f' i) = absurd (word_mark a (took s t x e f) (open_seen e' f') refl)
start_word {s} {t} {x} a e f (s_regexp {t = u} e' f') = absurd (word_slash a (took s t x e f) (slash_here u x e' f'))
start_word {s} {t} {x} a e f (s_sealed q) = absurd (sealed_word a (took s t x e f) q)
start_word {s} {t} {x} a e f (s_braces e' f' i) = absurd (word_mark a (took s t x e f) (brace_seen e' f') refl)

-- a head that is no parenthesis
head_same : (k : Kind) {x y q : Place} (ts : Forest) {f : Flat} → scope k ≡ true → is_arrow k ≡ false → grows k ≡ false → is_paren k ≡ false → Walk (row k) x ts y
    → ((qs : List Step) (us : Forest) (w : Place) → twin (row k) qs ≡ true → Walk qs x us w → Same (flats ts) (flats us) y w)
    → ((qs : List Step) (us : Forest) (w : Place) → apart (row k) qs ≡ true → Walk qs x us w → ⊥) → Start x f q → SameOne (some (code k) (flats ts)) f y q
head_same k ts s a d p w twins apart' (s_word {s = r} {t = u} {x = x} a' e' f') = absurd (word_apart a' (took r u x e' f') w (of_head k s a d p).no_word')
head_same k ts s a d p w twins apart' (s_regexp {t = u} {x = x} e' f') = absurd (head_slash k s a d p w (slash_here u x e' f'))
head_same k ts s a d p w twins apart' (s_sealed q) = absurd (sealed_head k s a d p w q)
head_same k ts s a d p w twins apart' (s_paren e' f' i) = absurd (not_open w (or_else (is_paren k) (no_open (row k)) (of_head k s a d p).open' p) (open_seen e' f'))
head_same k ts s a d p w twins apart' (s_braces e' f' i) = absurd (not_brace w (or_else (is_paren k) (no_open (row k)) (of_head k s a d p).open' p) (brace_seen e' f'))
head_same k {x} {y} {q} ts s a d p w twins apart' (s_head l {ts = us} s' a' d' p' v) = by_pair (test (nat_eq (code k) (code l) && twin (row k) (bare (row l))))
  where
    by_pair : Test (nat_eq (code k) (code l) && twin (row k) (bare (row l))) → SameOne (some (code k) (flats ts)) (some (code l) (flats us)) y q
    by_pair (yes' h) =
        let same = twins (bare (row l)) us q (and_right (nat_eq (code k) (code l)) (twin (row k) (bare (row l))) h) (strip v) in
        let c : code k ≡ code l = eq_nat (and_left (nat_eq (code k) (code l)) (twin (row k) (bare (row l))) h) in
        record { tree = λ i. some (c i) (same.trees i); place = same.places }
    by_pair (no' h) =
        let h1 : heads_pair k l ≡ true = for_kind (heads_pair k) (for_kind (λ k. every (heads_pair k) kinds) heads k s) l s' in
        let h2 = or_else (grows k) _ h1 d in
        let h3 = or_else (grows l) _ h2 d' in
        let h4 = or_else (is_arrow k) _ h3 a in
        let h5 = or_else (is_arrow l) _ h4 a' in
        let h6 = or_else (is_paren k) _ h5 p in
        let h7 = or_else (is_paren l) _ h6 p' in
        absurd (apart' (no_line (row l)) us q (or_else (nat_eq (code k) (code l) && twin (row k) (bare (row l))) (apart (row k) (no_line (row l))) h7 h) (strip_line v))

-- what stands in parentheses, an expression or the parameters of an arrow
pub parens_same : {x p y q : Place} {es : Flats} {f : Flat} → forth (Tok Operator Punctuator (codes "(")) x ≡ p → IsTrue (is_found p)
    → ((us : Forest) (w : Place) → Items false (codes ")") p us w → Same es (flats us) y w) → Start x f q → SameOne (paren_of es) f y q
parens_same e f only (s_word {s = r} {t = u} {x = x} a' e' f') = absurd (word_mark a' (took r u x e' f') (open_seen e f) refl)
parens_same {x = x} e f only (s_regexp {t = u} e' f') = absurd (mark_slash refl (open_seen {x = x} e f) (slash_here u x e' f'))
parens_same e f only (s_head l s' a' d' p' v) = absurd (not_open v (or_else (is_paren l) (no_open (row l)) (of_head l s' a' d' p').open' p') (open_seen e f))
parens_same {x = x} e f only (s_sealed q) = absurd (sealed_mark refl q (open_seen {x = x} e f))
parens_same {x = x} e f only (s_braces e' f' i) = absurd (two_tokens (open_seen {x = x} e f) (brace_seen {x = x} e' f') refl)
parens_same e f only (s_paren {y = q} {ts = us} e' f' i) =
    let o = only us q (move_items (sym e ∙ e') i) in
    record { tree = ap paren_of o.trees; place = o.places }

-- what stands in braces
pub braces_same : {x p y q : Place} {es : Flats} {f : Flat} → forth (Tok Operator Punctuator (codes "{")) x ≡ p → IsTrue (is_found p)
    → ((us : Forest) (w : Place) → Props p us w → Same es (flats us) y w) → Start x f q → SameOne (some 54 (cons (row_of es) nil)) f y q
braces_same e f only (s_word {s = r} {t = u} {x = x} a' e' f') = absurd (word_mark a' (took r u x e' f') (brace_seen e f) refl)
braces_same {x = x} e f only (s_regexp {t = u} e' f') = absurd (mark_slash refl (brace_seen {x = x} e f) (slash_here u x e' f'))
braces_same e f only (s_head l s' a' d' p' v) = absurd (not_brace v (or_else (is_paren l) (no_open (row l)) (of_head l s' a' d' p').open' p') (brace_seen e f))
braces_same {x = x} e f only (s_sealed q) = absurd (sealed_mark refl q (brace_seen {x = x} e f))
braces_same {x = x} e f only (s_paren e' f' i) = absurd (two_tokens (open_seen {x = x} e' f') (brace_seen {x = x} e f) refl)
braces_same e f only (s_braces {y = q} {ts = us} e' f' i) =
    let o = only us q (subst (λ p. Props p us q) (sym (sym e ∙ e')) i) in
    record { tree = λ i. some 54 (cons (row_of (o.trees i)) nil); place = o.places }

pub blocked : (s : Sign) {t : Text} {x : Place} {k : TokenKind} → blocks s t ≡ true → holds s x ≡ true → Seen x k t → ⊥
blocked (Unless ts) {t} {x} b h s = never (among t ts) b (subst (λ u. among u ts ≡ false) s.text (not_is (among (text_at x) ts) h))
blocked _ b h s = cc

pub pass_take : (s : Sign) (m : Mode) (k : TokenKind) (t : Text) (x : Place) {y : Place} → holds s x ≡ true → forth (Tok m k t) x ≡ y → IsTrue (is_found y) → (a : Bool) → (a ≡ true → ⊥) → ((is_op m && blocks s t) || a) ≡ true → ⊥
pass_take s m k t x g e f a none' h = by_case (test (is_op m && blocks s t))
  where
    by_case : Test (is_op m && blocks s t) → ⊥
    by_case (yes' b) = blocked s (and_right (is_op m) (blocks s t) b) g (took_in m k t x (and_left (is_op m) (blocks s t) b) e f)
    by_case (no' b) = none' (or_else (is_op m && blocks s t) a h b)

pub nothing_more : false ≡ true → ⊥
nothing_more h = cc

pub take_take : (m n : Mode) (k l : TokenKind) (t u : Text) (x : Place) {y z : Place} → forth (Tok m k t) x ≡ y → IsTrue (is_found y) → forth (Tok n l u) x ≡ z → IsTrue (is_found z) → (a : Bool) → (SameSign m k t n l u → a ≡ true → ⊥)
    → ((is_op m && (is_op n && not (same_token k t l u))) || ((is_op m && (is_op n && same_token k t l u)) && a)) ≡ true → ⊥
take_take m n k l t u x e f e' f' a on h = by_case (test (is_op m && (is_op n && not (same_token k t l u))))
  where
    by_case : Test (is_op m && (is_op n && not (same_token k t l u))) → ⊥
    by_case (yes' b) =
        let q = and3 (is_op m) (is_op n) (not (same_token k t l u)) b in
        two_tokens (took_in m k t x q.0 e f) (took_in n l u x q.1 e' f') (not_is (same_token k t l u) q.2)
    by_case (no' b) =
        let r = or_else (is_op m && (is_op n && not (same_token k t l u))) ((is_op m && (is_op n && same_token k t l u)) && a) h b in
        on (same_sign m n k l t u (and_left (is_op m && (is_op n && same_token k t l u)) a r)) (and_right (is_op m && (is_op n && same_token k t l u)) a r)

pub take_literal : (m : Mode) (k : TokenKind) (t : Text) (r : TokenKind) (u : Text) (x : Place) {y z : Place} → forth (Tok m k t) x ≡ y → IsTrue (is_found y) → forth (Tok (mode_of r) r u) x ≡ z → IsTrue (is_found z)
    → ((is_op m && (is_op (mode_of r) && not (nat_eq (kind_number k) (kind_number r)))) || false) ≡ true → ⊥
take_literal m k t r u x e f e' f' h =
    let q = and3 (is_op m) (is_op (mode_of r)) (not (nat_eq (kind_number k) (kind_number r))) (or_other _ false h refl) in
    let v = took_in m k t x q.0 e f in
    let w = took_in (mode_of r) r u x q.1 e' f' in
    never (nat_eq (kind_number k) (kind_number r)) (eq-eqb _ _ (sym v.kind ∙ w.kind)) (not_is _ q.2)

pub take_under : (m : Mode) (k : TokenKind) (t : Text) (x : Place) {b : ℕ} {y z : Place} {u : Tree} → forth (Tok m k t) x ≡ y → IsTrue (is_found y) → Reads b x u z → ((is_op m && not (starts (kind_number k) t)) || false) ≡ true → ⊥
take_under m k t x e f r h =
    let q = or_other (is_op m && not (starts (kind_number k) t)) false h refl in
    no_start (took_in m k t x (and_left (is_op m) (not (starts (kind_number k) t)) q) e f) (not_is _ (and_right (is_op m) (not (starts (kind_number k) t)) q)) r

pub plain_same : (k : Kind) {x y q : Place} (ts : Forest) {f : Flat} → scope k ≡ true → is_arrow k ≡ false → is_paren k ≡ false → grows k ≡ false → Walk (row k) x ts y
    → ((qs : List Step) (us : Forest) (w : Place) → twin (row k) qs ≡ true → Walk qs x us w → Same (flats ts) (flats us) y w)
    → ((qs : List Step) (us : Forest) (w : Place) → apart (row k) qs ≡ true → Walk qs x us w → ⊥) → Start x f q → SameOne (made k (flats ts)) f y q
plain_same k {y = y} {q} ts {f} s a i d w twins apart' p = subst (λ g. SameOne g f y q) (sym (made_plain k (flats ts) a (head_code k s a i d))) (head_same k ts s a d i w twins apart' p)

-- one expression in parentheses, against a list
pub one_against : {b : ℕ} {h : Bool} {x y z w : Place} {t : Tree} {us : Forest} → Reads b x t y → forth (Tok Operator Punctuator (codes ")")) y ≡ z → IsTrue (is_found z)
    → ((u : Tree) (v : Place) → Reads 1 x u v → calm 1 v ≡ true → SameOne (flat t) (flat u) y v) → Items h (codes ")") x us w → Same (cons (flat t) nil) (flats us) z w
one_against r e f same (shut e' f') = absurd (no_start (close_seen e' f') refl r)
one_against r e f same (gap e' f' j) = absurd (no_start (comma_seen e' f') refl r)
one_against r e f same (last {y = v} {t = u} r' c' e' f') =
    let s = same u v r' c' in
    record { trees = λ i. cons (s.tree i) nil; places = move_tok (Tok Operator Punctuator (codes ")")) e s.place e' }
one_against r e f same (more {y = v} {t = u} r' c' e' f' j) =
    let s = same u v r' c' in
    absurd (two_tokens (close_seen e f) (seen_at s.place (comma_seen e' f')) refl)

pub as_unseq : (f : Flat) {fs gs : Flats} {y z : Place} → unseq f ≡ fs → Same fs gs y z → Same (unseq f) gs y z
as_unseq f {gs = gs} {y} {z} e s = subst (λ h. Same h gs y z) (sym e) s

-- properties
abbrev pub ends_prop : Text → Bool
ends_prop d = (not (same d (codes ":")) && not (same d (codes "="))) && (not (same (codes "(") d) && not (key_start 1 d))

abbrev pub colon : Sign
colon = Tok Operator Punctuator (codes ":")

abbrev pub equals : Sign
equals = Tok Operator Punctuator (codes "=")

pub colon_seen : {x y : Place} → forth (Tok Operator Punctuator (codes ":")) x ≡ y → IsTrue (is_found y) → Seen x Punctuator (codes ":")
colon_seen {x} e f = took Punctuator (codes ":") x e f

pub equals_seen : {x y : Place} → forth (Tok Operator Punctuator (codes "=")) x ≡ y → IsTrue (is_found y) → Seen x Punctuator (codes "=")
equals_seen {x} e f = took Punctuator (codes "=") x e f

pub dots_seen : {x y : Place} → forth (Tok Operator Punctuator (codes "...")) x ≡ y → IsTrue (is_found y) → Seen x Punctuator (codes "...")
dots_seen {x} e f = took Punctuator (codes "...") x e f

pub bracket_seen : {x y : Place} → forth (Tok Operator Punctuator (codes "[")) x ≡ y → IsTrue (is_found y) → Seen x Punctuator (codes "[")
bracket_seen {x} e f = took Punctuator (codes "[") x e f

pub shut_seen : {x y : Place} → forth (Tok Operator Punctuator (codes "}")) x ≡ y → IsTrue (is_found y) → Seen x Punctuator (codes "}")
shut_seen {x} e f = took Punctuator (codes "}") x e f

pub same_name : {x : Place} {k l : TokenKind} {t u : Text} → Seen x k t → Seen x l u → (k ≡ l) × (t ≡ u)
same_name {k = k} {l} s r = (kind_is k l (sym s.kind ∙ r.kind), sym s.text ∙ r.text)

key_number : (s : TokenKind) → may_key s ≡ true → nat_eq (kind_number s) 1 ≡ false
key_number IdentifierName h = refl
key_number NumericLiteral h = refl
key_number BigIntLiteral h = refl
key_number StringLiteral h = refl
key_number _ h = cc

pub key_dots : {x : Place} {s : TokenKind} {t u : Text} → may_key s ≡ true → Seen x s t → Seen x Punctuator u → ⊥
key_dots {s = s} m a b = never (nat_eq (kind_number s) 1) (eq-eqb (kind_number s) 1 (sym a.kind ∙ b.kind)) (key_number s m)

pub no_end : {y : Place} {d u : Text} → Seen y Punctuator d → ends_prop d ≡ true → Seen y Punctuator u → (same u (codes ":") || same u (codes "=")) ≡ true → ⊥
no_end {d = d} {u} a h b g =
    let e : d ≡ u = sym a.text ∙ b.text in
    by_case (subst (λ v. (same v (codes ":") || same v (codes "=")) ≡ true) (sym e) g) (test (same d (codes ":")))
  where
    by_case : (same d (codes ":") || same d (codes "=")) ≡ true → Test (same d (codes ":")) → ⊥
    by_case g (yes' c) = never _ c (not_is _ (and_left (not (same d (codes ":"))) (not (same d (codes "="))) (and_left (not (same d (codes ":")) && not (same d (codes "="))) _ h)))
    by_case g (no' c) = never _ (or_else (same d (codes ":")) (same d (codes "=")) g c) (not_is _ (and_right (not (same d (codes ":"))) (not (same d (codes "="))) (and_left (not (same d (codes ":")) && not (same d (codes "="))) _ h)))

-- what a method begins with isn't this punctuator
pub open_mark : {x : Place} {u : Text} → Seen x Punctuator u → same (codes "[") u ≡ false → Opening x → ⊥
open_mark b n (o_named s t {x = x} p m e f g) = key_dots m (took s t x e f) b
open_mark b n (o_computed {x = x} a d p o e f r c g h i) = two_tokens (took Punctuator (codes "[") x e f) b n
open_mark b n (o_worded t {x = x} p e f g) = key_dots refl (took IdentifierName t x e f) b

-- nor does this punctuator stand behind the token that it begins with
pub named_open : {x p : Place} {u : Text} (s : TokenKind) (t : Text) → may_key s ≡ true → forth (Tok Operator s t) x ≡ p → IsTrue (is_found p) → Seen p Punctuator u → same (codes "(") u ≡ false → key_start 1 u ≡ false → Opening x → ⊥
named_open {x} {p} s t m e f b n k (o_named s' t' p' m' e' f' g) =
    let w = same_name (took s t x e f) (took s' t' x e' f') in
    let q : p ≡ p' = sym e ∙ ((λ i. forth (Tok Operator (w.0 i) (w.1 i)) x) ∙ e') in
    two_tokens (seen Punctuator (codes "(") p' g) (seen_at (sym q) b) n
named_open {x} {p} s t m e f b n k (o_computed a d q o e' f' r c g h i) = key_dots m (took s t x e f) (took Punctuator (codes "[") x e' f')
named_open {x} {p} {u} s t m e f b n k (o_worded t' p' e' f' g) =
    let w = same_name (took s t x e f) (took IdentifierName t' x e' f') in
    let q : p ≡ p' = sym e ∙ ((λ i. forth (Tok Operator (w.0 i) (w.1 i)) x) ∙ e') in
    let d : Seen p' Punctuator u = seen_at (sym q) b in
    never (key_start (kind_at p') (text_at p')) g ((λ i. key_start (d.kind i) (d.text i)) ∙ k)

-- behind a name alone
pub short_open : {x p : Place} {d : Text} (t : Text) → forth (Tok Operator IdentifierName t) x ≡ p → IsTrue (is_found p) → Seen p Punctuator d → ends_prop d ≡ true → Opening x → ⊥
short_open {d = d} t e f n h o =
    let r = and_right (not (same d (codes ":")) && not (same d (codes "="))) _ h in
    named_open IdentifierName t refl e f n (not_is _ (and_left (not (same (codes "(") d)) _ r)) (not_is _ (and_right (not (same (codes "(") d)) _ r)) o

pub no_prop : {x y : Place} {t : Tree} → Seen x Punctuator (codes "}") → Prop x t y → ⊥
no_prop b (long {s = s} {t = t} {x = x} c a m e f g o r d) = key_dots m (took s t x e f) b
no_prop b (computed {x = x} c a e f r d g o e' f' r' d') = two_tokens (took Punctuator (codes "[") x e f) b refl
no_prop b (short {t = t} {x = x} c a e f) = key_dots refl (took IdentifierName t x e f) b
no_prop b (preset {t = t} {x = x} c a e f g o r d) = key_dots refl (took IdentifierName t x e f) b
no_prop b (member c o) = open_mark b refl o
no_prop b (rest {x = x} c a e f r d) = two_tokens (took Punctuator (codes "...") x e f) b refl

-- links
link_facts : (k : Kind) → scope k ≡ true → is_link k ≡ true → ((goes_by (row k) 18 || goes_by (row k) 19) ≡ true) × ((is_arrow k ≡ false) × (nat_eq (code k) 3 ≡ false))
link_facts k s l =
    let h = or_else (not (is_link k)) _ (for_kind link_ok link_ones k s) (ap not l) in
    let r = and_right (goes_by (row k) 18 || goes_by (row k) 19) _ h in
    (and_left (goes_by (row k) 18 || goes_by (row k) 19) _ h, (not_is _ (and_left (not (is_arrow k)) _ r), not_is _ (and_right (not (is_arrow k)) _ r)))

pub link_reach : (k : Kind) {x y : Place} {cs : Forest} → scope k ≡ true → is_link k ≡ true → is_block x ≡ false → Walk (row k) x cs y → (18 ≤ reach x) × (reach x ≤ 99)
link_reach k {x} s l b w = by_case (test (goes_by (row k) 18))
  where
    by_case : Test (goes_by (row k) 18) → (18 ≤ reach x) × (reach x ≤ 99)
    by_case (yes' h) = let r : reach x ≡ 18 = goes_on b w h in (omega (arith, r), omega (arith, r))
    by_case (no' h) = let r : reach x ≡ 19 = goes_on b w (or_else (goes_by (row k) 18) (goes_by (row k) 19) (link_facts k s l).0 h) in (omega (arith, r), omega (arith, r))

pub no_link : (k : Kind) {x y : Place} {cs : Forest} → scope k ≡ true → is_link k ≡ true → is_block x ≡ false → Walk (row k) x cs y → calm 17 x ≡ true → ⊥
no_link k {x} s l b w c =
    let a = (link_reach k s l b w).0 in
    let b : reach x ≤ 17 = le_nat c in
    omega (arith, a, b)

-- two links at one place
pub link_only : (k l : Kind) {x y z : Place} (cs ds : Forest) → scope k ≡ true → is_link k ≡ true → scope l ≡ true → is_link l ≡ true → Walk (row l) x ds z
    → ((qs : List Step) (us : Forest) (w : Place) → twin (row k) qs ≡ true → Walk qs x us w → Same (flats cs) (flats us) y w)
    → ((qs : List Step) (us : Forest) (w : Place) → apart (row k) qs ≡ true → Walk qs x us w → ⊥) → SameOne (made k (flats cs)) (made l (flats ds)) y z
link_only k l {x} {y} {z} cs ds s a s' a' v twins apart' = by_pair (test (nat_eq (code k) (code l) && twin (row k) (bare (row l))))
  where
    by_pair : Test (nat_eq (code k) (code l) && twin (row k) (bare (row l))) → SameOne (made k (flats cs)) (made l (flats ds)) y z
    by_pair (yes' h) =
        let same = twins (bare (row l)) ds z (and_right (nat_eq (code k) (code l)) (twin (row k) (bare (row l))) h) (strip v) in
        let c : code k ≡ code l = eq_nat (and_left (nat_eq (code k) (code l)) (twin (row k) (bare (row l))) h) in
        let f = (link_facts k s a).1 in
        let g = (link_facts l s' a').1 in
        record { tree = made_plain k (flats cs) f.0 f.1 ∙ ((λ i. some (c i) (same.trees i)) ∙ sym (made_plain l (flats ds) g.0 g.1)); place = same.places }
    by_pair (no' h) =
        let h1 : links_pair k l ≡ true = for_kind (links_pair k) (for_kind (λ k. every (links_pair k) kinds) links k s) l s' in
        let h2 = or_else (not (is_link k)) _ h1 (ap not a) in
        let h3 = or_else (not (is_link l)) _ h2 (ap not a') in
        absurd (apart' (no_line (row l)) ds z (or_else (nat_eq (code k) (code l) && twin (row k) (bare (row l))) (apart (row k) (no_line (row l))) h3 h) (strip_line v))

pub take_linked : (m : Mode) (k : TokenKind) (t : Text) (x : Place) {y : Place} → forth (Tok m k t) x ≡ y → IsTrue (is_found y) → IsTrue (is_found (forth (Tok Operator Punctuator (codes "?.")) x)) → ((is_op m && not (same_token k t Punctuator (codes "?."))) || false) ≡ true → ⊥
take_linked m k t x e f g h =
    let q = or_other (is_op m && not (same_token k t Punctuator (codes "?."))) false h refl in
    two_tokens (took_in m k t x (and_left (is_op m) _ q) e f) (seen Punctuator (codes "?.") x g) (not_is _ (and_right (is_op m) (not (same_token k t Punctuator (codes "?."))) q))

pub take_tagged : (m : Mode) (k : TokenKind) (t : Text) (x : Place) {y : Place} → forth (Tok m k t) x ≡ y → IsTrue (is_found y) → Quoted x → ((is_op m && not (is_quote k)) || false) ≡ true → ⊥
take_tagged m k t x e f g h =
    let q = or_other (is_op m && not (is_quote k)) false h refl in
    let s = took_in m k t x (and_left (is_op m) _ q) e f in
    never (is_quote k) (subst (λ n. is_quote n ≡ true) (kind_is g.kind k (sym g.here.kind ∙ s.kind)) g.quotes) (not_is _ (and_right (is_op m) (not (is_quote k)) q))

pub linked_tagged : (x : Place) → IsTrue (is_found (forth (Tok Operator Punctuator (codes "?.")) x)) → Quoted x → ⊥
linked_tagged x g q = never (is_quote Punctuator) (subst (λ n. is_quote n ≡ true) (kind_is q.kind Punctuator (sym q.here.kind ∙ (seen Punctuator (codes "?.") x g).kind)) q.quotes) refl

pub tagged_only : (k l : Kind) {x y z : Place} (cs ds : Forest) → scope k ≡ true → is_tagged k ≡ true → scope l ≡ true → is_tagged l ≡ true → Walk (row l) x ds z
    → ((qs : List Step) (us : Forest) (w : Place) → twin (row k) qs ≡ true → Walk qs x us w → Same (flats cs) (flats us) y w)
    → ((qs : List Step) (us : Forest) (w : Place) → apart (row k) qs ≡ true → Walk qs x us w → ⊥) → SameOne (made k (flats cs)) (made l (flats ds)) y z
tagged_only k l {x} {y} {z} cs ds s a s' a' v twins apart' = by_pair (test (nat_eq (code k) (code l) && twin (row k) (bare (row l))))
  where
    by_pair : Test (nat_eq (code k) (code l) && twin (row k) (bare (row l))) → SameOne (made k (flats cs)) (made l (flats ds)) y z
    by_pair (yes' h) =
        let same = twins (bare (row l)) ds z (and_right (nat_eq (code k) (code l)) (twin (row k) (bare (row l))) h) (strip v) in
        let c : code k ≡ code l = eq_nat (and_left (nat_eq (code k) (code l)) (twin (row k) (bare (row l))) h) in
        let f = (tagged_facts k s a).1 in
        let g = (tagged_facts l s' a').1 in
        record { tree = made_plain k (flats cs) f.0 f.1 ∙ ((λ i. some (c i) (same.trees i)) ∙ sym (made_plain l (flats ds) g.0 g.1)); place = same.places }
    by_pair (no' h) =
        let h1 : tagged_pair k l ≡ true = for_kind (tagged_pair k) (for_kind (λ k. every (tagged_pair k) kinds) all_tagged k s) l s' in
        let h2 = or_else (not (is_tagged k)) _ h1 (ap not a) in
        let h3 = or_else (not (is_tagged l)) _ h2 (ap not a') in
        absurd (apart' (no_line (row l)) ds z (or_else (nat_eq (code k) (code l) && twin (row k) (bare (row l))) (apart (row k) (no_line (row l))) h3 h) (strip_line v))

pub lit_lit : (s r : TokenKind) (t u : Text) (x : Place) {y z : Place} → forth (Tok (mode_of s) s t) x ≡ y → IsTrue (is_found y) → forth (Tok (mode_of r) r u) x ≡ z → IsTrue (is_found z) → (a : Bool) → (SameLit s r → a ≡ true → ⊥)
    → ((is_op (mode_of s) && (is_op (mode_of r) && not (nat_eq (kind_number s) (kind_number r)))) || ((is_op (mode_of s) && (is_op (mode_of r) && nat_eq (kind_number s) (kind_number r))) && a)) ≡ true → ⊥
lit_lit s r t u x e f e' f' a on h = by_case (test (is_op (mode_of s) && (is_op (mode_of r) && not (nat_eq (kind_number s) (kind_number r)))))
  where
    by_case : Test (is_op (mode_of s) && (is_op (mode_of r) && not (nat_eq (kind_number s) (kind_number r)))) → ⊥
    by_case (yes' b) =
        let q = and3 (is_op (mode_of s)) (is_op (mode_of r)) (not (nat_eq (kind_number s) (kind_number r))) b in
        never _ (eq-eqb (kind_number s) (kind_number r) (sym (took_in (mode_of s) s t x q.0 e f).kind ∙ (took_in (mode_of r) r u x q.1 e' f').kind)) (not_is _ q.2)
    by_case (no' b) =
        let r' = or_else (is_op (mode_of s) && (is_op (mode_of r) && not (nat_eq (kind_number s) (kind_number r)))) ((is_op (mode_of s) && (is_op (mode_of r) && nat_eq (kind_number s) (kind_number r))) && a) h b in
        on (same_lit s r (and_left (is_op (mode_of s) && (is_op (mode_of r) && nat_eq (kind_number s) (kind_number r))) a r')) (and_right (is_op (mode_of s) && (is_op (mode_of r) && nat_eq (kind_number s) (kind_number r))) a r')

pub record SameSpans (f g : Flats) (h k : Flat) (t u : Text) (y z : Place) : Type 0 where
  pub trees : f ≡ g
  pub tree : h ≡ k
  pub text : t ≡ u
  pub place : y ≡ z
