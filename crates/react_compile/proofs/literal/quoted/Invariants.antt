use Rattle.std.proofs.Common.{◌≡◌, ◌∷◌, ◌++◌, string_bytes}
use Rattle.std.specs.Str.{IsUtf8, chars}
use Rattle.std.specs.Str.Iter.{chars_rest}
use Rattle.react_compile.specs.Made.{escaped_all}
use Rattle.react_compile.proofs.literal.quoted.Given as goal

abbrev pub invariant-loop-c : goal.invariant-loop-c
invariant-loop-c l = IsUtf8 (chars_rest l.c-iterator) × (chars (string_bytes l.literal) ++ escaped_all (chars (chars_rest l.c-iterator)) ≡ 34 ∷ escaped_all (chars l.fn.text))
