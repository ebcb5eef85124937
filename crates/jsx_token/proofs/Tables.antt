-- Words in a table by their first byte.
use Rattle.std.proofs.Common.{◌≡◌, ℕ, nat_eq, Bool, true, false, List, [], ◌∷◌, map, refl, sym, ◌∙◌, ap, cond, Some, None}
use Rattle.std.specs.Prelude.{◌||◌, ◌&&◌}
use Rattle.std.specs.List.{filter, list_any, slice_get}
use Rattle.std.specs.Str.{bytes_eq}
use Rattle.std.proofs.lemmas.Bool.{eq-eqb, ne_eqb, false≢true}
use Rattle.std.proofs.lemmas.Slice.Eq.{bytes_eq-Decides}
use Rattle.jsx_base.specs.Token.{Text, first_is, is_one_of}
use Rattle.jsx_tree.proofs.Tokens.{and_left, and_right}

-- ---- the words that begin with a byte

pub at : (b n : ℕ) (ws us : List Text) → b ≡ n → ws ≡ filter (first_is (nat_eq n)) us → ws ≡ filter (first_is (nat_eq b)) us
at b n ws us is e = e ∙ ap (λ a. filter (first_is (nat_eq a)) us) (sym is)

abbrev pub begin_among : List ℕ → List Text → Bool
begin_among ds [] = true
begin_among ds (w ∷ ws) = first_is (λ d. is_one_of d ds) w && begin_among ds ws

pub neither : (a b : Bool) → a ≡ false → b ≡ false → (a || b) ≡ false
neither true b e f = absurd (false≢true (sym e))
neither false b e f = f

differs : (b d : ℕ) (ds : List ℕ) → is_one_of b ds ≡ false → is_one_of d ds ≡ true → nat_eq b d ≡ false
differs b d ds e f = ne_eqb b d (λ is. false≢true (sym e ∙ (ap (λ a. is_one_of a ds) is ∙ f)))

pub passes_none : (b : ℕ) (ds : List ℕ) (ws : List Text) → is_one_of b ds ≡ false → begin_among ds ws ≡ true → [] ≡ filter (first_is (nat_eq b)) ws
passes_none b ds [] e f = refl
passes_none b ds ([] ∷ ws) e f = absurd (false≢true f)
passes_none b ds ((d ∷ w) ∷ ws) e f =
    passes_none b ds ws e (and_right _ _ f) ∙ ap (λ k. cond k ((d ∷ w) ∷ filter (first_is (nat_eq b)) ws) (filter (first_is (nat_eq b)) ws)) (sym (differs b d ds e (and_left _ _ f)))

-- ---- whether a word is among them

kept : (k : Bool) (p : Text → Bool) (w : Text) (us vs : List Text) → (k ≡ false → p w ≡ false) → list_any p us ≡ list_any p vs → list_any p (cond k (w ∷ us) us) ≡ list_any p (w ∷ vs)
kept true p w us vs n e = λ i. p w || e i
kept false p w us vs n e = λ i. sym (n refl) i || e i

any_filter : (q p : Text → Bool) → ((w : Text) → q w ≡ false → p w ≡ false) → (ws : List Text) → list_any p (filter q ws) ≡ list_any p ws
any_filter q p n [] = refl
any_filter q p n (w ∷ ws) = kept (q w) p w _ ws (n w) (any_filter q p n ws)

pub any_map : {X : Type 0} (p : Text → Bool) (h : X → Text) (xs : List X) → list_any (λ x. p (h x)) xs ≡ list_any p (map h xs)
any_map p h [] = refl
any_map p h (x ∷ xs) = λ i. p (h x) || any_map p h xs i

not_true : (x : Bool) → (x ≡ true → ⊥) → x ≡ false
not_true true n = absurd (n refl)
not_true false n = refl

begins : (b : ℕ) (bs : List ℕ) → Some b ≡ slice_get bs 0 → first_is (nat_eq b) bs ≡ true
begins b [] e = cc
begins b (d ∷ t) e = eq-eqb b d (cc)

pub begins_nothing : (bs : List ℕ) → None ≡ slice_get bs 0 → [] ≡ bs
begins_nothing [] e = refl
begins_nothing (d ∷ t) e = cc

-- only the words that begin as the text does can be the text
pub any_from : (b : ℕ) (bs : List ℕ) (ws : List Text) → Some b ≡ slice_get bs 0 → list_any (λ w. bytes_eq w bs) (filter (first_is (nat_eq b)) ws) ≡ list_any (λ w. bytes_eq w bs) ws
any_from b bs ws e = any_filter (first_is (nat_eq b)) (λ w. bytes_eq w bs)
    (λ w n. not_true _ (λ is. false≢true (sym n ∙ (ap (first_is (nat_eq b)) ((bytes_eq-Decides w bs).0 is) ∙ begins b bs e)))) ws
