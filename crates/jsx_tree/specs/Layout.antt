-- The text of a tree: its tokens (ECMA-262 section 12) with blanks, line ends and comments between them.
use Rattle.std.specs.Prelude.{ℕ, suc, List, [], ◌∷◌, ◌++◌, codes, Bool, true, false, cond, nat_eq, ◌||◌}
use Rattle.jsx_tree.specs.Kinds.{Tree}
use Rattle.jsx_base.specs.Token.{Text}
use Rattle.jsx_tree.specs.Signs.{Sign, Tok, Semicolon, Space, Pad, Line, Indent, Outdent, Unindent, Apart, Begin, End}
use Rattle.jsx_tree.specs.Spelling.{spelled}
use Rattle.jsx_tree.specs.Normal.{laid_tree}

-- a comment before a token: on a line of its own, or on the token's
pub data Note : Type 0 where
  Own : Text → Note
  Beside : Text → Note

abbrev pub four : Text
four = codes "    "

abbrev pub indent : List Bool → Text
indent [] = []
indent (b ∷ n) = four ++ indent n

abbrev pub line : List Bool → Text
line n = 10 ∷ indent n

abbrev pub notes_text : List Bool → List Note → Text
notes_text n [] = []
notes_text n (Own t ∷ ns) = t ++ (line n ++ notes_text n ns)
notes_text n (Beside t ∷ ns) = t ++ (32 ∷ notes_text n ns)

-- the last character of a token, 0 where it has none
abbrev pub last : Text → ℕ
last [] = 0
last (c ∷ []) = c
last (c ∷ d ∷ t) = last (d ∷ t)

abbrev pub first_token : List Sign → Text
first_token [] = []
first_token (Tok m s t ∷ ms) = t
first_token (m ∷ ms) = first_token ms

abbrev pub first_char : Text → ℕ
first_char [] = 0
first_char (c ∷ t) = c

abbrev pub pull : List Bool → List Bool
pull [] = []
pull (b ∷ n) = n

-- what an opening brace or bracket is followed by, where nothing stands in it
abbrev pub is_out : List Sign → Bool
is_out (Outdent ∷ ms) = true
is_out (Begin ∷ ms) = is_out ms
is_out (End ∷ ms) = is_out ms
is_out _ = false

abbrev pub is_pad : List Sign → Bool
is_pad (Pad ∷ ms) = true
is_pad _ = false

-- the text from token i on: `n` is the indentation, `q` the token before, and `bare` whether a brace stands just before
abbrev pub laid : (ℕ → List Note) → ℕ → List Bool → Text → Bool → List Sign → Text
laid f i n q bare [] = notes_text n (f i)
laid f i n q bare (Tok m s t ∷ ms) = notes_text n (f i) ++ (t ++ laid f (suc i) n t false ms)
laid f i n q bare (Semicolon ∷ ms) = 59 ∷ laid f (suc i) n q false ms
laid f i n q bare (Space ∷ ms) = 32 ∷ laid f i n q false ms
laid f i n q bare (Pad ∷ ms) = cond (bare || is_pad ms) [] (32 ∷ []) ++ laid f i n q (is_pad ms) ms
laid f i n q bare (Line ∷ ms) = line n ++ laid f i n q false ms
laid f i n q bare (Indent ∷ ms) = laid f i (true ∷ n) q (is_out ms) ms
laid f i n q bare (Outdent ∷ ms) = cond bare [] (line (pull n)) ++ laid f i (pull n) q false ms
laid f i n q bare (Unindent ∷ ms) = laid f i (pull n) q false ms
laid f i n q bare (Apart ∷ ms) = cond (nat_eq (last q) (first_char (first_token ms))) (32 ∷ []) [] ++ laid f i n q false ms
laid f i n q bare (m ∷ ms) = laid f i n q bare ms

abbrev pub no_notes : ℕ → List Note
no_notes i = []

abbrev pub layout : Tree → Text
layout t = laid no_notes 0 [] [] false (spelled t)

-- the text that is printed: no empty statements in lists, an arrow's parameters in parentheses, `new` with its arguments
abbrev pub printed : Tree → Text
printed t = layout (laid_tree t)
