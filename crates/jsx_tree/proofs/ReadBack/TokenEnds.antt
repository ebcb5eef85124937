-- A token that is whole stops before a character that may follow it.
use Rattle.std.proofs.Common.{◌≡◌, ℕ, ◌+◌, Bool, true, false, cond, not, ◌&&◌, refl, sym, ap, ◌∙◌, subst, arith}
use Rattle.std.specs.Prelude.{nat_eq}
use Rattle.std.proofs.lemmas.Bool.{false≢true, and_parts, eqb-true, false_from_ne_true, not-true, or_from}
use Rattle.jsx_base.specs.Token.{Text, NumericLiteral, is_start, is_part, is_digit, is_letter, is_base_digit, Base, Hexadecimal, Octal, BinaryDigits, State, Dead, Done, InName, BehindZero, InDigits, BehindPoint, InFraction, BehindE, BehindSign, InExponent, InBase, BehindN, InString, InEscape, InHex, InUnicode, InBraces, BehindNul, BehindCr, AtRegExp, InRegExp, InRegExpEscape, InFlags, InPiece, InPieceEscape, BehindDollar, InJsxName, InJsxString, InJsxText, step, is_dead, accepts}
use Rattle.jsx_tree.proofs.ReadBack.Joins.{follows}
use Rattle.jsx_tree.proofs.ReadBack.Basics.{clash, if_false}

-- what isn't a part of names is none of these
pub record Outside (d : ℕ) : Type 0 where
  pub part : is_part d ≡ false
  pub start : is_start d ≡ false
  pub point : nat_eq d 46 ≡ false
  pub digit : is_digit d ≡ false
  pub hex : is_base_digit Hexadecimal d ≡ false
  pub octal : is_base_digit Octal d ≡ false
  pub binary : is_base_digit BinaryDigits d ≡ false

unlike : (d x : ℕ) → is_part x ≡ true → is_part d ≡ false → nat_eq d x ≡ false
unlike d x h n = false_from_ne_true (nat_eq d x) (λ e. clash _ (subst (λ y. is_part y ≡ true) (sym (eqb-true d x e)) h) n)

upper : (d l u : ℕ) → u + 32 ≡ l → is_part u ≡ true → is_part d ≡ false → nat_eq (d + 32) l ≡ false
upper d l u k h n =
    false_from_ne_true (nat_eq (d + 32) l) (λ e. let f : d + 32 ≡ l = eqb-true (d + 32) l e in let g : u ≡ d = omega arith in clash _ (subst (λ y. is_part y ≡ true) g h) n)

no_letter : (d l u : ℕ) → u + 32 ≡ l → is_part l ≡ true → is_part u ≡ true → is_part d ≡ false → is_letter l d ≡ false
no_letter d l u k h j n = or_from (nat_eq d l) (nat_eq (d + 32) l) (unlike d l h n) (upper d l u k j n)

pub outside : (t : Text) (d : ℕ) → follows NumericLiteral t d ≡ true → Outside d
outside t d h =
    let hx = not (is_base_digit Hexadecimal d) in
    let oc = not (is_base_digit Octal d) in
    let bi = not (is_base_digit BinaryDigits d) in
    let a = and_parts (not (is_part d)) (not (is_start d) && (not (nat_eq d 46) && (not (is_digit d) && (hx && (oc && bi))))) h in
    let b = and_parts (not (is_start d)) (not (nat_eq d 46) && (not (is_digit d) && (hx && (oc && bi)))) a.1 in
    let e = and_parts (not (nat_eq d 46)) (not (is_digit d) && (hx && (oc && bi))) b.1 in
    let f = and_parts (not (is_digit d)) (hx && (oc && bi)) e.1 in
    let g = and_parts hx (oc && bi) f.1 in
    let i = and_parts oc bi g.1 in
    record { part = not-true _ a.0; start = not-true _ b.0; point = not-true _ e.0; digit = not-true _ f.0; hex = not-true _ g.0; octal = not-true _ i.0; binary = not-true _ i.1 }

e_letter : (d : ℕ) → is_part d ≡ false → is_letter 101 d ≡ false
e_letter d n = no_letter d 101 69 refl refl refl n

dead_if : (b : Bool) (x y : State) → b ≡ false → is_dead y ≡ true → is_dead (cond b x y) ≡ true
dead_if b x y e h = ap is_dead (if_false b x y e) ∙ h

pub stop_at : (st : State) (t : Text) (d : ℕ) → follows (accepts st) t d ≡ true → is_dead (step st d) ≡ true
stop_at Dead t d h = refl
stop_at (Done k) t d h = refl
stop_at InName t d h = dead_if (is_part d) InName Dead (not-true _ h) refl
stop_at BehindZero t d h =
    let o : Outside d = outside t d h in
    dead_if _ BehindPoint _ o.point (dead_if _ BehindE _ (e_letter d o.part) (dead_if _ BehindN _ (unlike d 110 refl o.part) (dead_if _ (InBase Hexadecimal false) _ (no_letter d 120 88 refl refl refl o.part)
    (dead_if _ (InBase Octal false) _ (no_letter d 111 79 refl refl refl o.part) (dead_if _ (InBase BinaryDigits false) _ (no_letter d 98 66 refl refl refl o.part) refl)))))
stop_at (InDigits true) t d h =
    let o : Outside d = outside t d h in
    dead_if _ (InDigits true) _ o.digit (dead_if _ (InDigits false) _ (unlike d 95 refl o.part) (dead_if _ BehindPoint _ o.point (dead_if _ BehindE _ (e_letter d o.part) (dead_if _ BehindN _ (unlike d 110 refl o.part) refl))))
stop_at (InDigits false) t d h = absurd (false≢true h)
stop_at BehindPoint t d h =
    let o : Outside d = outside t d h in
    dead_if _ (InFraction true) _ o.digit (dead_if _ BehindE _ (e_letter d o.part) refl)
stop_at (InFraction true) t d h =
    let o : Outside d = outside t d h in
    dead_if _ (InFraction true) _ o.digit (dead_if _ (InFraction false) _ (unlike d 95 refl o.part) (dead_if _ BehindE _ (e_letter d o.part) refl))
stop_at (InFraction false) t d h = absurd (false≢true h)
stop_at BehindE t d h = absurd (false≢true h)
stop_at BehindSign t d h = absurd (false≢true h)
stop_at (InExponent true) t d h =
    let o : Outside d = outside t d h in
    dead_if _ (InExponent true) _ o.digit (dead_if _ (InExponent false) _ (unlike d 95 refl o.part) refl)
stop_at (InExponent false) t d h = absurd (false≢true h)
stop_at (InBase b true) t d h =
    let o : Outside d = outside t d h in
    dead_if _ (InBase b true) _ (base_part b o) (dead_if _ (InBase b false) _ (unlike d 95 refl o.part) (dead_if _ BehindN _ (unlike d 110 refl o.part) refl))
  where
    base_part : (b : Base) → Outside d → is_base_digit b d ≡ false
    base_part Hexadecimal o = o.hex
    base_part Octal o = o.octal
    base_part BinaryDigits o = o.binary
stop_at (InBase b false) t d h = absurd (false≢true h)
stop_at BehindN t d h = refl
stop_at (InString q) t d h = absurd (false≢true h)
stop_at (InEscape q) t d h = absurd (false≢true h)
stop_at (InHex q n) t d h = absurd (false≢true h)
stop_at (InUnicode q) t d h = absurd (false≢true h)
stop_at (InBraces q b v) t d h = absurd (false≢true h)
stop_at (BehindNul q) t d h = absurd (false≢true h)
stop_at (BehindCr q) t d h = absurd (false≢true h)
stop_at AtRegExp t d h = absurd (false≢true h)
stop_at (InRegExp b) t d h = absurd (false≢true h)
stop_at (InRegExpEscape b) t d h = absurd (false≢true h)
stop_at InFlags t d h = dead_if (is_part d) InFlags Dead (not-true _ h) refl
stop_at (InPiece a b) t d h = absurd (false≢true h)
stop_at (InPieceEscape a b) t d h = absurd (false≢true h)
stop_at (BehindDollar a b) t d h = absurd (false≢true h)
stop_at InJsxName t d h = absurd (false≢true h)
stop_at (InJsxString q) t d h = absurd (false≢true h)
stop_at InJsxText t d h = absurd (false≢true h)
