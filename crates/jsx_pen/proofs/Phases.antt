-- What a pen and a layout have in common at a place among the signs: what is open there.
use Rattle.std.proofs.Common.{◌≡◌, List, [], ◌∷◌, ◌++◌, Bool, true, false, cond, codes, refl, sym, ap, ◌∙◌}
use Rattle.std.specs.Prelude.{nat_eq}
use Rattle.jsx_base.specs.Token.{Text, Mode, TokenKind, Punctuator, same}
use Rattle.jsx_tree.specs.Signs.{Sign, Tok, Semicolon, TrailingComma, Unless, SameLine, Ends, Space, Pad, Line, Indent, Outdent, Unindent, Apart, Begin, Count, One, End}
use Rattle.jsx_tree.specs.Layout.{first_char}
use Rattle.jsx_pen.specs.Calls.{is_place, bare}
use Rattle.jsx_pen.specs.declared.pen.Gap.{Gap}
use Rattle.jsx_pen.specs.declared.pen.Gap.TheVariants as gap

pub data Phase : Type 0 where
  Free : Phase
  -- the token before is a `+` or a `-`, which the next one is held apart from
  PlusMark : Phase
  MinusMark : Phase
  PlusHeld : Phase
  MinusHeld : Phase
  -- the lines of a pair of braces begin here, and nothing stands in them; the same behind what only reading looks at
  Opened : Phase
  OpenedOn : Phase
  -- a blank in braces is due; the same behind what isn't laid; two that met
  Due : Phase
  DueOn : Phase
  Twice : Phase
  -- where a pen and a layout part
  Bad : Phase

-- behind what is not laid
abbrev pub quiet : Phase → Phase
quiet Free = Free
quiet PlusMark = Free
quiet MinusMark = Free
quiet PlusHeld = PlusHeld
quiet MinusHeld = MinusHeld
quiet Opened = OpenedOn
quiet OpenedOn = OpenedOn
quiet Due = DueOn
quiet DueOn = DueOn
quiet Twice = Free
quiet Bad = Bad

-- behind the begin or the end of a node
abbrev pub passed : Phase → Phase
passed Opened = Opened
passed s = quiet s

abbrev pub after_token : TokenKind → Text → Phase
after_token Punctuator t = cond (same t (codes "+")) PlusMark (cond (same t (codes "-")) MinusMark Free)
after_token k t = Free

abbrev pub unless_bad : Phase → Phase → Phase
unless_bad Bad s = Bad
unless_bad _ s = s

abbrev pub after_semicolon : Phase → Phase
after_semicolon PlusHeld = Bad
after_semicolon MinusHeld = Bad
after_semicolon Bad = Bad
after_semicolon s = Free

-- behind a blank, a line or the end of an indentation
abbrev pub settled : Phase → Phase
settled Free = Free
settled PlusMark = Free
settled MinusMark = Free
settled Opened = Free
settled OpenedOn = Free
settled s = Bad

abbrev pub after_pad : Phase → Phase
after_pad Free = Due
after_pad PlusMark = Due
after_pad MinusMark = Due
after_pad Due = Twice
after_pad s = Bad

abbrev pub after_indent : Phase → Phase
after_indent Free = Opened
after_indent PlusMark = Opened
after_indent MinusMark = Opened
after_indent s = Bad

abbrev pub after_outdent : Phase → Phase
after_outdent Free = Free
after_outdent PlusMark = Free
after_outdent MinusMark = Free
after_outdent Opened = Free
after_outdent s = Bad

abbrev pub after_apart : Phase → Phase
after_apart PlusMark = PlusHeld
after_apart MinusMark = MinusHeld
after_apart s = Bad

-- behind a token, or the place of a call
abbrev pub past : Bool → Phase → TokenKind → Text → Phase
past true s k t = s
past false s k t = unless_bad s (after_token k t)

abbrev pub step : Phase → Sign → Phase
step s (Tok m k t) = past (is_place k) s k t
step s Semicolon = after_semicolon s
step s Space = settled s
step s Line = settled s
step s Unindent = settled s
step s Pad = after_pad s
step s Indent = after_indent s
step s Outdent = after_outdent s
step s Apart = after_apart s
step s Begin = passed s
step s End = passed s
step s m = quiet s

abbrev pub run : Phase → List Sign → Phase
run s [] = s
run s (m ∷ ms) = run (step s m) ms

-- where both agree at the end
abbrev pub is_fine : Phase → Bool
is_fine Free = true
is_fine PlusMark = true
is_fine MinusMark = true
is_fine s = false

abbrev pub is_bad : Phase → Bool
is_bad Bad = true
is_bad s = false

pub run_append : (s : Phase) (xs ys : List Sign) → run s (xs ++ ys) ≡ run (run s xs) ys
run_append s [] ys = refl
run_append s (m ∷ xs) ys = run_append (step s m) xs ys

bad_past : (b : Bool) (k : TokenKind) (t : Text) → past b Bad k t ≡ Bad
bad_past true k t = refl
bad_past false k t = refl

pub bad_run : (ms : List Sign) → run Bad ms ≡ Bad
bad_run [] = refl
bad_run (Tok m k t ∷ ms) = ap (λ s. run s ms) (bad_past (is_place k) k t) ∙ bad_run ms
bad_run (Semicolon ∷ ms) = bad_run ms
bad_run (TrailingComma ∷ ms) = bad_run ms
bad_run (Unless ts ∷ ms) = bad_run ms
bad_run (SameLine ∷ ms) = bad_run ms
bad_run (Ends e ∷ ms) = bad_run ms
bad_run (Space ∷ ms) = bad_run ms
bad_run (Pad ∷ ms) = bad_run ms
bad_run (Line ∷ ms) = bad_run ms
bad_run (Indent ∷ ms) = bad_run ms
bad_run (Outdent ∷ ms) = bad_run ms
bad_run (Unindent ∷ ms) = bad_run ms
bad_run (Apart ∷ ms) = bad_run ms
bad_run (Begin ∷ ms) = bad_run ms
bad_run (Count ∷ ms) = bad_run ms
bad_run (One ∷ ms) = bad_run ms
bad_run (End ∷ ms) = bad_run ms

-- the places of calls don't matter
bare_past : (b : Bool) (s : Phase) (m : Mode) (k : TokenKind) (t : Text) (ms : List Sign) → is_place k ≡ b → ((r : Phase) → run r ms ≡ run r (bare ms)) → run (past b s k t) ms ≡ run s (cond b (bare ms) (Tok m k t ∷ bare ms))
bare_past true s m k t ms e f = f s
bare_past false s m k t ms e f = f (unless_bad s (after_token k t)) ∙ ap (λ b. run (past b s k t) (bare ms)) (sym e)

pub bare_run : (s : Phase) (ms : List Sign) → run s ms ≡ run s (bare ms)
bare_run s [] = refl
bare_run s (Tok m k t ∷ ms) = bare_past (is_place k) s m k t ms refl (λ r. bare_run r ms)
bare_run s (Semicolon ∷ ms) = bare_run (step s Semicolon) ms
bare_run s (TrailingComma ∷ ms) = bare_run (step s TrailingComma) ms
bare_run s (Unless ts ∷ ms) = bare_run (step s (Unless ts)) ms
bare_run s (SameLine ∷ ms) = bare_run (step s SameLine) ms
bare_run s (Ends e ∷ ms) = bare_run (step s (Ends e)) ms
bare_run s (Space ∷ ms) = bare_run (step s Space) ms
bare_run s (Pad ∷ ms) = bare_run (step s Pad) ms
bare_run s (Line ∷ ms) = bare_run (step s Line) ms
bare_run s (Indent ∷ ms) = bare_run (step s Indent) ms
bare_run s (Outdent ∷ ms) = bare_run (step s Outdent) ms
bare_run s (Unindent ∷ ms) = bare_run (step s Unindent) ms
bare_run s (Apart ∷ ms) = bare_run (step s Apart) ms
bare_run s (Begin ∷ ms) = bare_run (step s Begin) ms
bare_run s (Count ∷ ms) = bare_run (step s Count) ms
bare_run s (One ∷ ms) = bare_run (step s One) ms
bare_run s (End ∷ ms) = bare_run (step s End) ms

-- ---- the pen and the layout in a phase

abbrev pub gap_of : Phase → Gap
gap_of PlusHeld = gap.Plus
gap_of MinusHeld = gap.Minus
gap_of Opened = gap.Opened
gap_of OpenedOn = gap.Opened
gap_of Due = gap.Padded
gap_of DueOn = gap.Padded
gap_of s = gap.Settled

-- what the layout has written already and the pen not yet: by whether a `Pad` comes next, and the next token
abbrev pub owed : Phase → Bool → Text → Text
owed PlusHeld p t = cond (nat_eq 43 (first_char t)) (32 ∷ []) []
owed MinusHeld p t = cond (nat_eq 45 (first_char t)) (32 ∷ []) []
owed Due p t = cond p [] (32 ∷ [])
owed DueOn p t = 32 ∷ []
owed s p t = []

-- whether a brace stands just before in the layout: by whether nothing stands in the braces, and whether a `Pad` comes next
abbrev pub bare_in : Phase → Bool → Bool → Bool
bare_in Opened o p = o
bare_in Due o p = p
bare_in Twice o p = p
bare_in s o p = false
