-- The states in which a token stays over most characters.
use Rattle.std.specs.Prelude.{ℕ, Bool, not, ◌||◌, nat_eq, codes}
use Rattle.jsx_base.specs.Token.{State, InName, InJsxName, InString, InPiece, InJsxString, InJsxText, is_part, is_one_of}
use Rattle.jsx_lex.specs.Automaton.{closed_kind, open_kind}
use Rattle.jsx_lex.specs.declared.plain.Plain.{Plain}
use Rattle.jsx_lex.specs.declared.plain.Plain.TheVariants as plain

abbrev pub plain_state : Plain → State
plain_state plain.Name = InName
plain_state plain.JsxName = InJsxName
plain_state (plain.String q) = InString q
plain_state (plain.Template b) = InPiece (closed_kind b) (open_kind b)
plain_state (plain.JsxString q) = InJsxString q
plain_state plain.JsxText = InJsxText

-- the characters over which it stays
abbrev pub stays : Plain → ℕ → Bool
stays plain.Name c = is_part c
stays plain.JsxName c = is_part c || nat_eq c 45
stays (plain.String q) c = not (nat_eq c q || nat_eq c 92 || nat_eq c 10 || nat_eq c 13)
stays (plain.Template b) c = not (nat_eq c 96 || nat_eq c 92 || nat_eq c 36)
stays (plain.JsxString q) c = not (nat_eq c q)
stays plain.JsxText c = not (is_one_of c (codes "{}<>"))
