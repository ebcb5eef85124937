-- Names as texts and as bytes.
use Rattle.std.proofs.Common.{◌≡◌, ℕ, Bool, true, false, List, refl, sym, ◌∙◌, ap, arith}
use Rattle.std.proofs.lemmas.Grind.{common_steps}
use Rattle.std.specs.Prelude.{◌&&◌, ◌||◌, cond, nat_eq, Option, Some}
use Rattle.std.specs.Option.{unwrap_or}
use Rattle.std.specs.declared.cmp.Ordering.{Ordering}
use Rattle.std.specs.declared.cmp.Ordering.TheVariants.{Less, Equal, Greater}
use Rattle.std.specs.Str.{chars, IsUtf8}
use Rattle.std.specs.Ordering.{is_eq, nat_cmp, ordering_then}
use Rattle.std.specs.Cmp.Lexicographic.{slice_cmp}
use Rattle.std.proofs.lemmas.Str.{encodes-chars}
use Rattle.std.proofs.lemmas.Slice.Eq.{bytes_eq-Decides}
use Rattle.std.proofs.lemmas.Map.Text.{is_eq-slice_cmp}
use lib.Utf8.{encodes}
use Rattle.jsx_base.specs.Token.{same}
use Rattle.jsx_tree.proofs.Tokens.{same_is, same_self}

by_both : (a b : Bool) → (a ≡ true → b ≡ true) → (b ≡ true → a ≡ true) → a ≡ b
by_both true b f g = sym (f refl)
by_both false true f g = g refl
by_both false false f g = refl

pub name_test : (v w : List ℕ) → IsUtf8 v → IsUtf8 w → is_eq (slice_cmp nat_cmp v w) ≡ same (chars w) (chars v)
name_test v w u x = is_eq-slice_cmp v w ∙ by_both _ _
    (λ is. let e : v ≡ w = (bytes_eq-Decides v w).0 is in ap (λ z. same (chars w) (chars z)) e ∙ same_self (chars w))
    (λ is. let e : chars w ≡ chars v = same_is _ _ is in (bytes_eq-Decides v w).1 (sym (encodes-chars v u) ∙ (ap encodes (sym e) ∙ encodes-chars w x)))

either : (b x : Bool) → cond b true x ≡ b || x
either true x = refl
either false x = refl

both_eq : (o p : Ordering) → is_eq (ordering_then o p) ≡ is_eq o && is_eq p
both_eq Less p = refl
both_eq Equal p = refl
both_eq Greater p = refl

number_test : (a n : ℕ) → is_eq (nat_cmp a n) ≡ nat_eq a n
number_test a n = grind (arith, common_steps)

-- a name among others, once one was added
pub added_test : (v w : List ℕ) (b x : Bool) → IsUtf8 v → IsUtf8 w → b ≡ x → cond (is_eq (slice_cmp nat_cmp v w)) true b ≡ same (chars w) (chars v) || x
added_test v w b x u y e = ap (λ z. cond z true b) (name_test v w u y) ∙ (either (same (chars w) (chars v)) b ∙ ap (λ z. same (chars w) (chars v) || z) e)

pub key_test : (a n : ℕ) (v w : List ℕ) → IsUtf8 v → IsUtf8 w → is_eq (ordering_then (nat_cmp a n) (slice_cmp nat_cmp v w)) ≡ nat_eq a n && same (chars w) (chars v)
key_test a n v w u x = both_eq (nat_cmp a n) (slice_cmp nat_cmp v w) ∙ (ap (λ z. z && is_eq (slice_cmp nat_cmp v w)) (number_test a n) ∙ ap (λ z. nat_eq a n && z) (name_test v w u x))

-- what stands at a key, once one was set
found : {X : Type 0} (b : Bool) (x d : X) (o : Option X) → unwrap_or (cond b (Some x) o) d ≡ cond b x (unwrap_or o d)
found true x d o = refl
found false x d o = refl

pub found_test : {X : Type 0} (a n : ℕ) (v w : List ℕ) (x d : X) (o : Option X) → IsUtf8 v → IsUtf8 w → unwrap_or (cond (is_eq (ordering_then (nat_cmp a n) (slice_cmp nat_cmp v w))) (Some x) o) d ≡ cond (nat_eq a n && same (chars w) (chars v)) x (unwrap_or o d)
found_test a n v w x d o u y = found (is_eq (ordering_then (nat_cmp a n) (slice_cmp nat_cmp v w))) x d o ∙ ap (λ z. cond z x (unwrap_or o d)) (key_test a n v w u y)
