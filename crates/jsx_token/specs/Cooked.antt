-- The escapes of a template's piece, character by character.
use Rattle.std.specs.Prelude.{ℕ, cond}
use Rattle.jsx_base.specs.Token.{State, Done, InString, is_line_end, step}

-- a character as a string may have it
abbrev pub in_line : ℕ → ℕ
in_line c = cond (is_line_end c) 32 c

abbrev pub further : State → ℕ → State
further (Done k) c = step (InString 96) (in_line c)
further s c = step s (in_line c)
