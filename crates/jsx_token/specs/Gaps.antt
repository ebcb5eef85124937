-- What stands between tokens.
use Rattle.std.specs.Prelude.{◌≡◌, [], ◌∷◌, true}
use Rattle.jsx_base.specs.Token.{Text, Gap, Blank, InLineComment, Opening, InBlockComment, Closing, BehindGap, gap_after_blank, is_over}
use Rattle.jsx_token.specs.declared.gap.Gap as code
use Rattle.jsx_token.specs.declared.gap.Gap.TheVariants as gap

-- neither a blank nor a comment is first
abbrev pub IsBehind : Text → Type 0
IsBehind [] = Unit {0}
IsBehind (c ∷ text) = is_over (gap_after_blank c text) ≡ true

abbrev pub gap_of : code.Gap → Gap
gap_of gap.Blank = Blank
gap_of gap.LineComment = InLineComment
gap_of gap.Slash = Opening 1
gap_of gap.Opened = Opening 0
gap_of gap.BlockComment = InBlockComment
gap_of gap.Star = Closing
gap_of gap.Over = BehindGap
