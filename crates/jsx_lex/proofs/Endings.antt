-- Texts that end with another.
use Rattle.std.proofs.Common.{◌≡◌, ℕ, List, [], ◌++◌, ◌-◌, take, length, sym, refl, ap, ◌∙◌, arith, append_assoc, length-append, take_at}
use Rattle.std.specs.Prelude.{encode_utf8}
use Rattle.jsx_lex.specs.Characters.{Follows}
use Rattle.jsx_lex.specs.Places.{EndsWith, front_of}

pub ends_by : (s front rest : List ℕ) → s ≡ front ++ rest → EndsWith s rest
ends_by s front rest e =
    let n : length front ≡ length s - length rest = omega (arith, ap length e, length-append front rest) in
    let f : front_of s rest ≡ front = ap (take (length s - length rest)) e ∙ take_at front rest (length s - length rest) n in
    record { is = e ∙ ap (λ t. t ++ rest) (sym f) }

pub ends_with_all : (s : List ℕ) → EndsWith s s
ends_with_all s = ends_by s [] s refl

pub ends_within : (s t u : List ℕ) → EndsWith s t → EndsWith t u → EndsWith s u
ends_within s t u e f =
    ends_by s (front_of s t ++ front_of t u) u (e.is ∙ ap (λ x. front_of s t ++ x) f.is ∙ sym (append_assoc (front_of s t) (front_of t u) u))

pub ends_behind : (s t rest : List ℕ) (c : ℕ) → EndsWith s t → Follows t c rest → EndsWith s rest
ends_behind s t rest c e f = ends_within s t rest e (ends_by t (encode_utf8 c) rest f.bytes_are)
