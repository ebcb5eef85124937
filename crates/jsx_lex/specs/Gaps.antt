-- The gap before a token, as the code goes over it.
use Rattle.std.specs.Prelude.{◌≡◌, ℕ, List, [], ◌∷◌, Bool, true, ◌||◌}
use Rattle.std.specs.Str.{chars}
use Rattle.jsx_base.specs.Token.{Text, Gap, Blank, gap_after_blank, is_over, behind_gap, is_cut, breaks_in}
use Rattle.jsx_lex.specs.Characters.{IsTail}
use Rattle.jsx_lex.specs.declared.gap.Between.{Between}
use Rattle.jsx_lex.specs.declared.gap.Between.TheVariants.{Part, Cut, Over}

-- From the first text in its state of the gap on, the second is reached in its state. The flag says whether a line ended on the way.
pub record Leads (g : Gap) (text : Text) (h : Gap) (rest : Text) (broke : Bool) : Type 0 where
  pub behind_is : behind_gap g text ≡ behind_gap h rest
  pub cut_is : is_cut g text ≡ is_cut h rest
  pub breaks_are : breaks_in g text ≡ (broke || breaks_in h rest)

-- neither a blank nor a comment is first
abbrev pub IsBehind : Text → Type 0
IsBehind [] = Unit {0}
IsBehind (c ∷ text) = is_over (gap_after_blank c text) ≡ true

-- what the character begins, before the text
abbrev pub IsBetween : ℕ → Text → Between → Type 0
IsBetween c text (Part p) = Leads Blank (c ∷ text) Blank (chars p.rest.now) p.has_new_line
IsBetween c text Cut = is_cut Blank (c ∷ text) ≡ true
IsBetween c text Over = is_over (gap_after_blank c text) ≡ true

-- what is left behind a part is an end of the text
abbrev pub IsPartOf : List ℕ → Between → Type 0
IsPartOf text (Part p) = IsTail text p.rest.now
IsPartOf text _ = Unit {0}
