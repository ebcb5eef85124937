-- The longest of a table that a text begins with: one law for all punctuators.
use Rattle.std.proofs.Common.{◌≡◌, ℕ, List, [], ◌∷◌, ◌++◌, Bool, true, false, cond, ◌||◌, ◌&&◌, refl, sym, ap, ◌∙◌, subst, ⊎_elim}
use Rattle.std.specs.Prelude.{nat_eq}
use Rattle.std.proofs.lemmas.Bool.{false≢true, and_parts, and_from, and_left, or_parts, or_cases, eq-eqb, eqb-true, false_from_ne_true}
use Rattle.jsx_base.specs.Token.{Text, among, same, begins, is_longer, longer, longest, drop_as, first_is, is_one_of}
use Rattle.jsx_base.specs.Longer.{extends, all_begin}

both : (b : Bool) → (b ≡ true → ⊥) → b ≡ false
both b h = false_from_ne_true b h

pub same_is : (s t : Text) → same s t ≡ true → s ≡ t
same_is [] [] h = refl
same_is [] (c ∷ t) h = absurd (false≢true h)
same_is (b ∷ s) [] h = absurd (false≢true h)
same_is (b ∷ s) (c ∷ t) h =
    let p = and_parts (nat_eq b c) (same s t) h in
    let e : b ≡ c = eqb-true b c p.0 in
    let f : s ≡ t = same_is s t p.1 in
    ap (λ x. x ∷ s) e ∙ ap (λ x. c ∷ x) f

begins_itself : (p r : Text) → begins p (p ++ r) ≡ true
begins_itself [] r = refl
begins_itself (c ∷ p) r = and_from (nat_eq c c) (begins p (p ++ r)) (eq-eqb c c refl) (begins_itself p r)

not_longer : (p : Text) → is_longer p p ≡ false
not_longer [] = refl
not_longer (c ∷ p) = not_longer p

-- one of the texts begins it
abbrev pub any_begins : List Text → Text → Bool
any_begins [] r = false
any_begins (e ∷ es) r = begins e r || any_begins es r

record Splits (p q r : Text) : Type 0 where
  pub front : begins p q ≡ true
  pub back : begins (drop_as p q) r ≡ true

-- a longer one that the text begins with begins with the shorter one
splits : (p q r : Text) → begins q (p ++ r) ≡ true → is_longer q p ≡ true → Splits p q r
splits [] q r h l = record { front = refl; back = h }
splits (c ∷ p) [] r h l = absurd (false≢true l)
splits (c ∷ p) (d ∷ q) r h l =
    let b = and_parts (nat_eq d c) (begins q (p ++ r)) h in
    let e : c ≡ d = sym (eqb-true d c b.0) in
    let s : Splits p q r = splits p q r b.1 l in
    record { front = and_from (nat_eq c d) (begins p q) (eq-eqb c d e) s.front; back = s.back }

rest_of : (b : Bool) (e : Text) (es : List Text) (r : Text) → any_begins (cond b (e ∷ es) es) r ≡ false → any_begins es r ≡ false
rest_of true e es r h = (or_parts (begins e r) (any_begins es r) h).1
rest_of false e es r h = h

head_of : (b : Bool) (e : Text) (es : List Text) (r : Text) → any_begins (cond b (e ∷ es) es) r ≡ false → b ≡ true → begins e r ≡ false
head_of true e es r h k = (or_parts (begins e r) (any_begins es r) h).0
head_of false e es r h k = absurd (false≢true k)

choice : (P : Text → Type 0) (b : Bool) (x y : Text) → (b ≡ true → P x) → (b ≡ false → P y) → P (cond b x y)
choice P true x y p q = p refl
choice P false x y p q = q refl

no_longer : (qs : List Text) (p r : Text) → any_begins (extends qs p) r ≡ false → is_longer (longest qs (p ++ r)) p ≡ false
no_longer [] p r h = refl
no_longer (q ∷ qs) p r h =
    let t : Text = p ++ r in
    let more = begins p q && is_longer q p in
    let P : Text → Type 0 = λ x. is_longer x p ≡ false in
    choice P (is_longer (cond (begins q t) q []) (longest qs t)) _ _
    (λ _. choice P (begins q t) q [] (λ b. both (is_longer q p) (λ l.
    let s : Splits p q r = splits p q r b l in
    false≢true (sym (head_of more (drop_as p q) (extends qs p) r h (and_from (begins p q) (is_longer q p) s.front l)) ∙ s.back))) (λ _. refl))
    (λ _. no_longer qs p r (rest_of more (drop_as p q) (extends qs p) r h))

longer_still : (p x y : Text) → is_longer p y ≡ false → is_longer x y ≡ true → is_longer p x ≡ false
longer_still [] x y h k = refl
longer_still (c ∷ p) [] y h k = absurd (false≢true k)
longer_still (c ∷ p) (d ∷ x) [] h k = absurd (false≢true (sym h))
longer_still (c ∷ p) (d ∷ x) (e ∷ y) h k = longer_still p x y h k

first_taken : (b : Bool) (x y : Text) → b ≡ true → cond b x y ≡ x
first_taken true x y e = refl
first_taken false x y e = absurd (false≢true e)

no_shorter : (qs : List Text) (p r : Text) → among p qs ≡ true → is_longer p (longest qs (p ++ r)) ≡ false
no_shorter [] p r h = absurd (false≢true h)
no_shorter (q ∷ qs) p r h =
    let t : Text = p ++ r in
    let P : Text → Type 0 = λ x. is_longer p x ≡ false in
    let y : Text = longest qs t in
    ⊎_elim (λ (s : same p q ≡ true).
    let e : p ≡ q = same_is p q s in
    let x_is : cond (begins q t) q [] ≡ p = first_taken (begins q t) q [] (subst (λ z. begins z t ≡ true) e (begins_itself p r)) ∙ sym e in
    subst (λ z. is_longer p (cond (is_longer z y) z y) ≡ false) (sym x_is) (choice P (is_longer p y) p y (λ _. not_longer p) (λ n. n)))
    (λ (a : among p qs ≡ true).
    let below : is_longer p y ≡ false = no_shorter qs p r a in
    choice P (is_longer (cond (begins q t) q []) y) _ y (λ l. longer_still p (cond (begins q t) q []) y below l) (λ _. below)) (or_cases (same p q) (among p qs) h)

pub begins_longest : (qs : List Text) (t : Text) → begins (longest qs t) t ≡ true
begins_longest [] t = refl
begins_longest (q ∷ qs) t =
    let P : Text → Type 0 = λ x. begins x t ≡ true in
    choice P (is_longer (cond (begins q t) q []) (longest qs t)) _ _ (λ _. choice P (begins q t) q [] (λ b. b) (λ _. refl)) (λ _. begins_longest qs t)

as_long : (u p r : Text) → begins u (p ++ r) ≡ true → is_longer u p ≡ false → is_longer p u ≡ false → u ≡ p
as_long [] [] r b h k = refl
as_long (d ∷ u) [] r b h k = absurd (false≢true (sym h))
as_long [] (c ∷ p) r b h k = absurd (false≢true (sym k))
as_long (d ∷ u) (c ∷ p) r b h k =
    let e = and_parts (nat_eq d c) (begins u (p ++ r)) b in
    let f : d ≡ c = eqb-true d c e.0 in
    let g : u ≡ p = as_long u p r e.1 h k in
    ap (λ x. x ∷ u) f ∙ ap (λ x. c ∷ x) g

-- what stands in the table is the longest where no longer one begins the text
pub longest_is : (qs : List Text) (p r : Text) → among p qs ≡ true → any_begins (extends qs p) r ≡ false → longest qs (p ++ r) ≡ p
longest_is qs p r a h = as_long (longest qs (p ++ r)) p r (begins_longest qs (p ++ r)) (no_longer qs p r h) (no_shorter qs p r a)

-- by first characters

abbrev pub Bars : Text → Text → Type 0
Bars [] r = Unit {0}
Bars (d ∷ ds) r = (first_is (nat_eq d) r ≡ false) × Bars ds r

barred : (d c : ℕ) (ds r : Text) → is_one_of c ds ≡ true → Bars ds (d ∷ r) → nat_eq c d ≡ false
barred d c [] r h b = absurd (false≢true h)
barred d c (x ∷ ds) r h b =
    ⊎_elim (λ (e : nat_eq c x ≡ true). subst (λ z. nat_eq z d ≡ false) (sym (eqb-true c x e)) b.0) (λ (e : is_one_of c ds ≡ true). barred d c ds r e b.1) (or_cases (nat_eq c x) (is_one_of c ds) h)

none_begins : (es : List Text) (ds r : Text) → all_begin es ds ≡ true → Bars ds r → any_begins es r ≡ false
none_begins [] ds r h b = refl
none_begins ([] ∷ es) ds r h b = absurd (false≢true h)
none_begins ((d ∷ e) ∷ es) ds [] h b = none_begins es ds [] ((and_parts (is_one_of d ds) (all_begin es ds) h).1) b
none_begins ((d ∷ e) ∷ es) ds (c ∷ r) h b =
    let p = and_parts (is_one_of d ds) (all_begin es ds) h in
    let n : begins (d ∷ e) (c ∷ r) ≡ false = and_left (nat_eq d c) (begins e r) (barred c d ds r p.0 b) in
    ap (λ x. x || any_begins es (c ∷ r)) n ∙ none_begins es ds (c ∷ r) p.1 b

pub longest_by : (qs : List Text) (p ds r : Text) → among p qs ≡ true → all_begin (extends qs p) ds ≡ true → Bars ds r → longest qs (p ++ r) ≡ p
longest_by qs p ds r a h b = longest_is qs p r a (none_begins (extends qs p) ds r h b)

-- a text that begins with none of the first characters
other : (c d : ℕ) (ds : Text) → is_one_of d ds ≡ true → is_one_of c ds ≡ false → nat_eq d c ≡ false
other c d ds h n = both (nat_eq d c) (λ e. false≢true (sym n ∙ (ap (λ x. is_one_of x ds) (sym (eqb-true d c e)) ∙ h)))

pub longest_none : (qs : List Text) (ds : Text) (c : ℕ) (r : Text) → all_begin qs ds ≡ true → is_one_of c ds ≡ false → longest qs (c ∷ r) ≡ []
longest_none [] ds c r h n = refl
longest_none ([] ∷ qs) ds c r h n = absurd (false≢true h)
longest_none ((d ∷ q) ∷ qs) ds c r h n =
    let p = and_parts (is_one_of d ds) (all_begin qs ds) h in
    let b : begins (d ∷ q) (c ∷ r) ≡ false = and_left (nat_eq d c) (begins q r) (other c d ds p.0 n) in
    ap (λ x. longer (cond x (d ∷ q) []) (longest qs (c ∷ r))) b ∙ longest_none qs ds c r p.1 n
