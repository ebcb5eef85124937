-- A string is a quote, parts, and the quote again.
use Rattle.std.proofs.Common.{◌≡◌, inl, inr, ℕ, ◌+◌, ◌*◌, Bool, true, false, not, cond, ◌&&◌, ◌||◌, nat_eq, nat_le, List, [], ◌∷◌, ◌++◌, append_assoc, refl, sym, ap, ◌∙◌, subst, arith, ◌≤◌}
use Rattle.std.proofs.lemmas.Bool.Decides.{Decides-eqb}
use Rattle.std.proofs.lemmas.Bool.{le-leb, leb-true}
use Rattle.jsx_base.specs.Token.{Text, StringLiteral, is_hex, hex_value, is_digit, State, Dead, Done, InString, InEscape, InHex, InUnicode, InBraces, BehindNul, BehindCr, in_string, accepts, taken, left, last_state, ended}
use Rattle.jsx_base.specs.LiteralParts.{StringPart, Character, Escaped, Nul, ContinuedAtCr, ContinuedAtCrLf, TwoDigits, FourDigits, Braced, text_of_string_part, all_hex, hex_number, is_some, may_stand_in_string, text_of_string_parts, all_may_stand_in_string, IsStringBody, StringsAreParts}
use Rattle.jsx_base.proofs.WholeTokens.{ends_as, never, both, number_is, is_dead, closes, lexeme_of, from_token, to_token}

abbrev ends : State → Text → Bool
ends s t = ends_as StringLiteral s t

dead : {A : Type 0} (t : Text) → ends Dead t ≡ true → A
dead t h = is_dead StringLiteral refl t h

alive : (b : Bool) (s : State) (t : Text) → ends (cond b s Dead) t ≡ true → (b ≡ true) × (ends s t ≡ true)
alive true s t h = (refl, h)
alive false s t h = dead t h

put : (q : ℕ) (p : StringPart) (t : Text) → may_stand_in_string q p t ≡ true → IsStringBody q t → IsStringBody q (text_of_string_part p ++ t)
put q p t m b = record {
  parts = p ∷ b.parts;
  stand = both (subst (λ (u : Text). may_stand_in_string q p u ≡ true) b.is m) b.stand;
  is = ap (λ (u : Text). text_of_string_part p ++ u) b.is ∙ sym (append_assoc (text_of_string_part p) (text_of_string_parts b.parts) (q ∷ []));
}

-- one character of a string
at_character : (q c : ℕ) (t : Text) (b1 b2 b3 : Bool) → nat_eq c q ≡ b1 → nat_eq c 92 ≡ b2 → (nat_eq c 10 || nat_eq c 13) ≡ b3
    → (ends (InString q) t ≡ true → IsStringBody q t) → (ends (InEscape q) t ≡ true → IsStringBody q (92 ∷ t))
    → ends (cond b1 (Done StringLiteral) (cond b2 (InEscape q) (cond b3 Dead (InString q)))) t ≡ true → IsStringBody q (c ∷ t)
at_character q c t true b2 b3 e1 e2 e3 more escape h =
    let p : c ≡ q = number_is c q e1 in
    let r : t ≡ [] = closes StringLiteral refl t h in
    record { parts = []; stand = refl; is = cc }
at_character q c t false true b3 e1 e2 e3 more escape h = let p : c ≡ 92 = number_is c 92 e2 in subst (λ (d : ℕ). IsStringBody q (d ∷ t)) (sym p) (escape h)
at_character q c t false false true e1 e2 e3 more escape h = dead t h
at_character q c t false false false e1 e2 e3 more escape h = put q (Character c) t (rw (e1, e2, e3) refl) (more h)

-- the character behind a backslash
at_escape : (q c : ℕ) (t : Text) (b1 b2 b3 b4 b5 : Bool) → nat_eq c 120 ≡ b1 → nat_eq c 117 ≡ b2 → nat_eq c 48 ≡ b3 → is_digit c ≡ b4 → nat_eq c 13 ≡ b5
    → (ends (InHex q 2) t ≡ true → IsStringBody q (92 ∷ 120 ∷ t)) → (ends (InUnicode q) t ≡ true → IsStringBody q (92 ∷ 117 ∷ t)) → (ends (BehindNul q) t ≡ true → IsStringBody q (92 ∷ 48 ∷ t)) → (ends (BehindCr q) t ≡ true → IsStringBody q (92 ∷ 13 ∷ t)) → (ends (InString q) t ≡ true → IsStringBody q t)
    → ends (cond b1 (InHex q 2) (cond b2 (InUnicode q) (cond b3 (BehindNul q) (cond b4 Dead (cond b5 (BehindCr q) (InString q)))))) t ≡ true → IsStringBody q (92 ∷ c ∷ t)
at_escape q c t true b2 b3 b4 b5 e1 e2 e3 e4 e5 two uni nul cr more h = let p : c ≡ 120 = number_is c 120 e1 in subst (λ (d : ℕ). IsStringBody q (92 ∷ d ∷ t)) (sym p) (two h)
at_escape q c t false true b3 b4 b5 e1 e2 e3 e4 e5 two uni nul cr more h = let p : c ≡ 117 = number_is c 117 e2 in subst (λ (d : ℕ). IsStringBody q (92 ∷ d ∷ t)) (sym p) (uni h)
at_escape q c t false false true b4 b5 e1 e2 e3 e4 e5 two uni nul cr more h = let p : c ≡ 48 = number_is c 48 e3 in subst (λ (d : ℕ). IsStringBody q (92 ∷ d ∷ t)) (sym p) (nul h)
at_escape q c t false false false true b5 e1 e2 e3 e4 e5 two uni nul cr more h = dead t h
at_escape q c t false false false false true e1 e2 e3 e4 e5 two uni nul cr more h = let p : c ≡ 13 = number_is c 13 e5 in subst (λ (d : ℕ). IsStringBody q (92 ∷ d ∷ t)) (sym p) (cr h)
at_escape q c t false false false false false e1 e2 e3 e4 e5 two uni nul cr more h = put q (Escaped c) t (rw (e1, e2, e4, e5) refl) (more h)

-- a text that is over behind a backslash and a character
cut_escape : {A : Type 0} (q : ℕ) (b1 b2 b3 b4 b5 : Bool) → ends (cond b1 (InHex q 2) (cond b2 (InUnicode q) (cond b3 (BehindNul q) (cond b4 Dead (cond b5 (BehindCr q) (InString q)))))) [] ≡ true → A
cut_escape q true b2 b3 b4 b5 h = never h
cut_escape q false true b3 b4 b5 h = never h
cut_escape q false false true b4 b5 h = never h
cut_escape q false false false true b5 h = never h
cut_escape q false false false false true h = never h
cut_escape q false false false false false h = never h

behind_nul : (q d : ℕ) (u : Text) (b : Bool) → is_digit d ≡ b → (ends (InString q) (d ∷ u) ≡ true → IsStringBody q (d ∷ u)) → ends (cond b Dead (in_string q d)) u ≡ true → IsStringBody q (92 ∷ 48 ∷ d ∷ u)
behind_nul q d u true e more h = dead u h
behind_nul q d u false e more h = put q Nul (d ∷ u) (rw e refl) (more h)

behind_cr : (q d : ℕ) (u : Text) (b : Bool) → nat_eq d 10 ≡ b → (ends (InString q) u ≡ true → IsStringBody q u) → (ends (InString q) (d ∷ u) ≡ true → IsStringBody q (d ∷ u)) → ends (cond b (InString q) (in_string q d)) u ≡ true → IsStringBody q (92 ∷ 13 ∷ d ∷ u)
behind_cr q d u true e past more h = let p : d ≡ 10 = number_is d 10 e in subst (λ (x : ℕ). IsStringBody q (92 ∷ 13 ∷ x ∷ u)) (sym p) (put q ContinuedAtCrLf u refl (past h))
behind_cr q d u false e past more h = put q ContinuedAtCr (d ∷ u) (rw e refl) (more h)

-- digits up to a brace, and a string behind it
record Digits (q v : ℕ) (b : Bool) (t : Text) : Type 0 where
  digits : Text
  behind : Text
  is : t ≡ digits ++ 125 ∷ behind
  hex : all_hex digits ≡ true
  small : nat_le (hex_number v digits) 1114111 ≡ true
  some : (b || is_some digits) ≡ true
  body : IsStringBody q behind

or_true : (b : Bool) → (b || true) ≡ true
or_true true = refl
or_true false = refl

and_left : (a b : Bool) → (a && b) ≡ true → a ≡ true
and_left true b h = refl
and_left false b h = h

and_right : (a b : Bool) → (a && b) ≡ true → b ≡ true
and_right true b h = h
and_right false b h = never h

at_brace : (q v c : ℕ) (t : Text) (b x y : Bool) → nat_le v 1114111 ≡ true → (is_hex c && nat_le (v * 16 + hex_value c) 1114111) ≡ x → (b && nat_eq c 125) ≡ y
    → (nat_le (v * 16 + hex_value c) 1114111 ≡ true → ends (InBraces q true (v * 16 + hex_value c)) t ≡ true → Digits q (v * 16 + hex_value c) true t) → (ends (InString q) t ≡ true → IsStringBody q t)
    → ends (cond x (InBraces q true (v * 16 + hex_value c)) (cond y (InString q) Dead)) t ≡ true → Digits q v b (c ∷ t)
at_brace q v c t b true y low e1 e2 more str h =
    let r = more (and_right (is_hex c) (nat_le (v * 16 + hex_value c) 1114111) e1) h in
    record { digits = c ∷ r.digits; behind = r.behind; is = ap (λ (u : Text). c ∷ u) r.is; hex = both (and_left (is_hex c) (nat_le (v * 16 + hex_value c) 1114111) e1) r.hex; small = r.small; some = or_true b; body = r.body }
at_brace q v c t b false true low e1 e2 more str h =
    let p : c ≡ 125 = number_is c 125 (and_right b (nat_eq c 125) e2) in
    record { digits = []; behind = t; is = ap (λ (x : ℕ). x ∷ t) p; hex = refl; small = low; some = rw (and_left b (nat_eq c 125) e2) refl; body = str h }
at_brace q v c t b false false low e1 e2 more str h = dead t h

at_unicode : (q c : ℕ) (t : Text) (b1 b2 : Bool) → is_hex c ≡ b1 → nat_eq c 123 ≡ b2 → (is_hex c ≡ true → ends (InHex q 3) t ≡ true → IsStringBody q (92 ∷ 117 ∷ c ∷ t)) → (ends (InBraces q false 0) t ≡ true → Digits q 0 false t)
    → ends (cond b1 (InHex q 3) (cond b2 (InBraces q false 0) Dead)) t ≡ true → IsStringBody q (92 ∷ 117 ∷ c ∷ t)
at_unicode q c t true b2 e1 e2 four braces h = four e1 h
at_unicode q c t false true e1 e2 four braces h =
    let p : c ≡ 123 = number_is c 123 e2 in
    let r = braces h in
    let whole : t ≡ (r.digits ++ 125 ∷ []) ++ r.behind = r.is ∙ sym (append_assoc r.digits (125 ∷ []) r.behind) in
    subst (λ (u : Text). IsStringBody q (92 ∷ 117 ∷ u)) (sym (ap (λ (x : ℕ). x ∷ t) p ∙ ap (λ (u : Text). 123 ∷ u) whole)) (put q (Braced r.digits) r.behind (both r.some (both r.hex r.small)) r.body)
at_unicode q c t false false e1 e2 four braces h = dead t h

mutual
  str : (q : ℕ) (t : Text) → ends (InString q) t ≡ true → IsStringBody q t
  str q [] h = never h
  str q (c ∷ t) h = at_character q c t (nat_eq c q) (nat_eq c 92) (nat_eq c 10 || nat_eq c 13) refl refl refl (λ k. str q t k) (λ k. esc q t k) h

  esc : (q : ℕ) (t : Text) → ends (InEscape q) t ≡ true → IsStringBody q (92 ∷ t)
  esc q [] h = never h
  esc q (c ∷ []) h = cut_escape q (nat_eq c 120) (nat_eq c 117) (nat_eq c 48) (is_digit c) (nat_eq c 13) h
  esc q (c ∷ d ∷ u) h =
      at_escape q c (d ∷ u) (nat_eq c 120) (nat_eq c 117) (nat_eq c 48) (is_digit c) (nat_eq c 13) refl refl refl refl refl
      (λ k. two q d u k) (λ k. uni q (d ∷ u) k)
      (λ k. behind_nul q d u (is_digit d) refl (λ l. str q (d ∷ u) l) k)
      (λ k. behind_cr q d u (nat_eq d 10) refl (λ l. str q u l) (λ l. str q (d ∷ u) l) k)
      (λ k. str q (d ∷ u) k) h

  two : (q a : ℕ) (t : Text) → ends (InHex q 2) (a ∷ t) ≡ true → IsStringBody q (92 ∷ 120 ∷ a ∷ t)
  two q a [] h = let p = alive (is_hex a) (InHex q 1) [] h in never p.1
  two q a (b ∷ t) h =
      let p = alive (is_hex a) (InHex q 1) (b ∷ t) h in
      let r = alive (is_hex b) (InString q) t p.1 in
      put q (TwoDigits a b) t (both p.0 r.0) (str q t r.1)

  uni : (q : ℕ) (t : Text) → ends (InUnicode q) t ≡ true → IsStringBody q (92 ∷ 117 ∷ t)
  uni q [] h = never h
  uni q (c ∷ t) h = at_unicode q c t (is_hex c) (nat_eq c 123) refl refl (λ l k. four q c t l k) (λ k. braces q 0 false t refl k) h

  four : (q a : ℕ) (t : Text) → is_hex a ≡ true → ends (InHex q 3) t ≡ true → IsStringBody q (92 ∷ 117 ∷ a ∷ t)
  four q a [] l h = never h
  four q a (b ∷ []) l h = let p = alive (is_hex b) (InHex q 2) [] h in never p.1
  four q a (b ∷ c ∷ []) l h =
      let p = alive (is_hex b) (InHex q 2) (c ∷ []) h in
      let r = alive (is_hex c) (InHex q 1) [] p.1 in
      never r.1
  four q a (b ∷ c ∷ d ∷ t) l h =
      let p = alive (is_hex b) (InHex q 2) (c ∷ d ∷ t) h in
      let r = alive (is_hex c) (InHex q 1) (d ∷ t) p.1 in
      let w = alive (is_hex d) (InString q) t r.1 in
      put q (FourDigits a b c d) t (both l (both p.0 (both r.0 w.0))) (str q t w.1)

  braces : (q v : ℕ) (b : Bool) (t : Text) → nat_le v 1114111 ≡ true → ends (InBraces q b v) t ≡ true → Digits q v b t
  braces q v b [] low h = never h
  braces q v b (c ∷ t) low h = at_brace q v c t b (is_hex c && nat_le (v * 16 + hex_value c) 1114111) (b && nat_eq c 125) low refl refl (λ l k. braces q (v * 16 + hex_value c) true t l k) (λ k. str q t k) h

not_true : (b : Bool) → not b ≡ true → b ≡ false
not_true true h = never h
not_true false h = refl

not_zero : (c : ℕ) → is_digit c ≡ false → nat_eq c 48 ≡ false
not_zero c h = go (nat_eq c 48) refl
  where
    go : (b : Bool) → nat_eq c 48 ≡ b → b ≡ false
    go false e = refl
    go true e = let p : c ≡ 48 = number_is c 48 e in let f : is_digit 48 ≡ false = subst (λ (x : ℕ). is_digit x ≡ false) p h in f

grows : (v : ℕ) (ds : Text) → v ≤ hex_number v ds
grows v [] = omega arith
grows v (d ∷ ds) = let k : v * 16 + hex_value d ≤ hex_number (v * 16 + hex_value d) ds = grows (v * 16 + hex_value d) ds in omega (arith, k)

-- a string goes on behind one of its parts
braced_ends : (q v : ℕ) (b : Bool) (ds u : Text) → all_hex ds ≡ true → nat_le (hex_number v ds) 1114111 ≡ true → (b || is_some ds) ≡ true → ends (InString q) u ≡ true → ends (InBraces q b v) (ds ++ 125 ∷ u) ≡ true
braced_ends q v true [] u h low some k = k
braced_ends q v false [] u h low some k = never some
braced_ends q v b (d ∷ ds) u h low some k =
    let top : hex_number (v * 16 + hex_value d) ds ≤ 1114111 = leb-true (hex_number (v * 16 + hex_value d) ds) 1114111 low in
    let k' : v * 16 + hex_value d ≤ hex_number (v * 16 + hex_value d) ds = grows (v * 16 + hex_value d) ds in
    let small : nat_le (v * 16 + hex_value d) 1114111 ≡ true = le-leb (v * 16 + hex_value d) 1114111 (omega (arith, top, k')) in
    subst (λ (x : Bool). ends (cond x (InBraces q true (v * 16 + hex_value d)) (cond (b && nat_eq d 125) (InString q) Dead)) (ds ++ 125 ∷ u) ≡ true) (sym (both (and_left (is_hex d) (all_hex ds) h) small)) (braced_ends q (v * 16 + hex_value d) true ds u (and_right (is_hex d) (all_hex ds) h) low refl k)

escape_begins : (q : ℕ) → nat_eq 92 q ≡ false → (t : Text) → ends (InEscape q) t ≡ true → ends (InString q) (92 ∷ t) ≡ true
escape_begins q quote t k = subst (λ (x : Bool). ends (cond x (Done StringLiteral) (InEscape q)) t ≡ true) (sym quote) k

part_ends : (q : ℕ) → nat_eq 92 q ≡ false → (p : StringPart) (u : Text) → may_stand_in_string q p u ≡ true → ends (InString q) u ≡ true → ends (InString q) (text_of_string_part p ++ u) ≡ true
part_ends q quote (Character c) u m k =
    let a : nat_eq c q ≡ false = not_true (nat_eq c q) (and_left (not (nat_eq c q)) (not (nat_eq c 92) && not (nat_eq c 10 || nat_eq c 13)) m) in
    let r = and_right (not (nat_eq c q)) (not (nat_eq c 92) && not (nat_eq c 10 || nat_eq c 13)) m in
    let b : nat_eq c 92 ≡ false = not_true (nat_eq c 92) (and_left (not (nat_eq c 92)) (not (nat_eq c 10 || nat_eq c 13)) r) in
    let d : (nat_eq c 10 || nat_eq c 13) ≡ false = not_true (nat_eq c 10 || nat_eq c 13) (and_right (not (nat_eq c 92)) (not (nat_eq c 10 || nat_eq c 13)) r) in
    rw (a, b, d) k
part_ends q quote (Escaped c) u m k =
    let m1 = and_right (not (nat_eq c 120)) (not (nat_eq c 117) && (not (is_digit c) && not (nat_eq c 13))) m in
    let m2 = and_right (not (nat_eq c 117)) (not (is_digit c) && not (nat_eq c 13)) m1 in
    let a : nat_eq c 120 ≡ false = not_true (nat_eq c 120) (and_left (not (nat_eq c 120)) (not (nat_eq c 117) && (not (is_digit c) && not (nat_eq c 13))) m) in
    let b : nat_eq c 117 ≡ false = not_true (nat_eq c 117) (and_left (not (nat_eq c 117)) (not (is_digit c) && not (nat_eq c 13)) m1) in
    let d : is_digit c ≡ false = not_true (is_digit c) (and_left (not (is_digit c)) (not (nat_eq c 13)) m2) in
    let e : nat_eq c 13 ≡ false = not_true (nat_eq c 13) (and_right (not (is_digit c)) (not (nat_eq c 13)) m2) in
    rw (quote, a, b, not_zero c d, d, e) k
part_ends q quote Nul [] m k = never k
part_ends q quote Nul (d ∷ u) m k = rw (quote, not_true (is_digit d) m) k
part_ends q quote ContinuedAtCr [] m k = never k
part_ends q quote ContinuedAtCr (d ∷ u) m k = rw quote (subst (λ (x : Bool). ends (cond x (InString q) (in_string q d)) u ≡ true) (sym (not_true (nat_eq d 10) m)) k)
part_ends q quote ContinuedAtCrLf u m k = rw quote k
part_ends q quote (TwoDigits a b) u m k = rw (quote, and_left (is_hex a) (is_hex b) m, and_right (is_hex a) (is_hex b) m) k
part_ends q quote (FourDigits a b c d) u m k =
    let m1 = and_right (is_hex a) (is_hex b && (is_hex c && is_hex d)) m in
    let m2 = and_right (is_hex b) (is_hex c && is_hex d) m1 in
    rw (quote, and_left (is_hex a) (is_hex b && (is_hex c && is_hex d)) m, and_left (is_hex b) (is_hex c && is_hex d) m1, and_left (is_hex c) (is_hex d) m2, and_right (is_hex c) (is_hex d) m2) k
part_ends q quote (Braced ds) u m k =
    let m1 = and_right (is_some ds) (all_hex ds && nat_le (hex_number 0 ds) 1114111) m in
    let whole : (ds ++ 125 ∷ []) ++ u ≡ ds ++ 125 ∷ u = append_assoc ds (125 ∷ []) u in
    escape_begins q quote (117 ∷ 123 ∷ ((ds ++ 125 ∷ []) ++ u)) (subst (λ (t : Text). ends (InBraces q false 0) t ≡ true) (sym whole) (braced_ends q 0 false ds u (and_left (all_hex ds) (nat_le (hex_number 0 ds) 1114111) m1) (and_right (all_hex ds) (nat_le (hex_number 0 ds) 1114111) m1) (and_left (is_some ds) (all_hex ds && nat_le (hex_number 0 ds) 1114111) m) k))

parts_end : (q : ℕ) → nat_eq 92 q ≡ false → (ps : List StringPart) → all_may_stand_in_string q ps ≡ true → ends (InString q) (text_of_string_parts ps ++ q ∷ []) ≡ true
parts_end q quote [] m = rw ((Decides-eqb q q).1 refl) refl
parts_end q quote (p ∷ ps) m =
    let u : Text = text_of_string_parts ps ++ q ∷ [] in
    rw (append_assoc (text_of_string_part p) (text_of_string_parts ps) (q ∷ [])) (part_ends q quote p u (and_left (may_stand_in_string q p u) (all_may_stand_in_string q ps) m) (parts_end q quote ps (and_right (may_stand_in_string q p u) (all_may_stand_in_string q ps) m)))

from_string : (q : ℕ) (body : Text) → ended (accepts (last_state (InString q) body)) (q ∷ taken (InString q) body) (left (InString q) body) ≡ lexeme_of StringLiteral (q ∷ body) → IsStringBody q body
from_string q body h = str q body (from_token StringLiteral refl (InString q) q body h)

to_string : (q : ℕ) (body : Text) → nat_eq 92 q ≡ false → IsStringBody q body → ended (accepts (last_state (InString q) body)) (q ∷ taken (InString q) body) (left (InString q) body) ≡ lexeme_of StringLiteral (q ∷ body)
to_string q body quote b = to_token StringLiteral refl (λ raw rest. refl) (InString q) q body (subst (λ (t : Text). ends (InString q) t ≡ true) (sym b.is) (parts_end q quote b.parts b.stand))

pub strings_are_parts : StringsAreParts
strings_are_parts q body (inl e) = rw e ((λ h. from_string 34 body h), (λ b. to_string 34 body refl b))
strings_are_parts q body (inr e) = rw e ((λ h. from_string 39 body h), (λ b. to_string 39 body refl b))
