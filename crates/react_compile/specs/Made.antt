-- How a text that the compiler makes is spelled as a string literal (ECMA-262 section 12.9.4).
use Rattle.std.specs.Prelude.{ℕ, ◌+◌, ◌/◌, ◌%◌, List, [], ◌∷◌, ◌++◌, codes, Bool, true, cond, nat_eq, nat_lt, ◌&&◌, ◌||◌}
use Rattle.jsx_base.specs.Token.{Text}

-- bytes that are characters by themselves
abbrev pub is_ascii : List ℕ → Bool
is_ascii [] = true
is_ascii (b ∷ bs) = nat_lt b 128 && is_ascii bs

abbrev pub hex_digit : ℕ → ℕ
hex_digit d = cond (nat_lt d 10) (48 + d) (87 + d)

-- a character of the text
abbrev pub escaped : ℕ → Text
escaped c =
    cond (nat_eq c 34 || nat_eq c 92) (92 ∷ c ∷ [])
    (cond (nat_eq c 10) (codes "\\n") (cond (nat_eq c 13) (codes "\\r") (cond (nat_eq c 9) (codes "\\t")
    (cond (nat_eq c 8232) (codes "\\u2028") (cond (nat_eq c 8233) (codes "\\u2029")
    (cond (nat_lt c 32 || nat_eq c 127) (codes "\\x" ++ hex_digit (c / 16) ∷ hex_digit (c % 16) ∷ []) (c ∷ [])))))))

abbrev pub escaped_all : Text → Text
escaped_all [] = []
escaped_all (c ∷ t) = escaped c ++ escaped_all t

-- the literal whose value is the text
abbrev pub quoted : Text → Text
quoted t = 34 ∷ (escaped_all t ++ 34 ∷ [])
