-- What suggestions write, computed.
use Rattle.std.specs.Prelude.{◌≡◌, ℕ, ◌+◌, List, [], ◌∷◌, Some, None, codes, refl}
use Rattle.std.specs.Str.{chars}
use Rattle.jsx_base.specs.FileName.{AnonName}
use Rattle.jsx_base.specs.Files.{File}
use Rattle.jsx_diag.specs.declared.splice.SpliceError.TheVariants.{NoSubstitutions, NoParts, OtherFile}
use Rattle.jsx_diag.specs.Data.{Text, Edit}
use Rattle.jsx_diag.specs.Splice.{by_start, spliced_in, refusal, without_ends}

-- a file whose first byte has place 1
file : Text → File
file text = record { name = AnonName; text = text; start = 1 }

-- a text in place of the bytes from `lo` to `hi`, from 0
put : ℕ → ℕ → Text → Edit
put lo hi text = record { span = record { lo = record { 0 = lo + 1 }; hi = record { 0 = hi + 1 } }; snippet = text }

written : Text → List Edit → Text
unfolding file
written text parts = (spliced_in (file text) parts).text

-- one word in its line
one_word : written (codes "let a = b;") (put 8 9 (codes "c") ∷ []) ≡ codes "let a = c;"
unfolding written file put chars lib.Utf8.encode
one_word = refl

-- only the lines of the parts
one_line_of_three : written (codes "x\nlet a = b;\ny") (put 10 11 (codes "c") ∷ []) ≡ codes "let a = c;"
unfolding written file put chars lib.Utf8.encode
one_line_of_three = refl

-- from the first part's line to the last one's
two_lines : written (codes "a\nb\nc\nd") (put 2 3 (codes "x") ∷ put 4 5 (codes "y") ∷ []) ≡ codes "x\ny"
unfolding written file put chars lib.Utf8.encode
two_lines = refl

-- a line between two parts stays
line_between : written (codes "a\nb\nc\nd") (put 0 1 (codes "x") ∷ put 4 5 (codes "y") ∷ []) ≡ codes "x\nb\ny"
unfolding written file put chars lib.Utf8.encode
line_between = refl

-- parts that touch
touching : written (codes "abcd") (put 1 2 (codes "x") ∷ put 2 3 (codes "y") ∷ []) ≡ codes "axyd"
unfolding written file put chars lib.Utf8.encode
touching = refl

-- a part of no width is put in between
no_width : written (codes "ab") (put 1 1 (codes "x") ∷ []) ≡ codes "axb"
unfolding written file put chars lib.Utf8.encode
no_width = refl

-- two of no width at one place keep their order
same_place : written (codes "ab") (put 1 1 (codes "x") ∷ put 1 1 (codes "y") ∷ []) ≡ codes "axyb"
unfolding written file put chars lib.Utf8.encode
same_place = refl

-- the later one was given first
out_of_order : written (codes "abcd") (put 2 3 (codes "y") ∷ put 0 1 (codes "x") ∷ []) ≡ codes "xbyd"
unfolding written file put chars lib.Utf8.encode
out_of_order = refl

-- the ends of a span in the other order
ends_swapped : written (codes "abcd") (put 3 1 (codes "x") ∷ []) ≡ codes "axd"
unfolding written file put chars lib.Utf8.encode
ends_swapped = refl

-- a part over several lines
several_lines : written (codes "ab\ncd\nef") (put 1 7 (codes "-") ∷ []) ≡ codes "a-f"
unfolding written file put chars lib.Utf8.encode
several_lines = refl

-- nothing in place of a word
removed : written (codes "abc") (put 1 2 [] ∷ []) ≡ codes "ac"
unfolding written file put chars lib.Utf8.encode
removed = refl

-- a snippet that ends with LF leaves out what follows
ends_in_line_end : written (codes "ab\ncd") (put 1 2 (codes "x\n") ∷ []) ≡ codes "ax"
unfolding written file put chars lib.Utf8.encode
ends_in_line_end = refl

-- so does a removal at a line's begin behind another part
line_end_before_removal : written (codes "ab\ncd") (put 0 1 (codes "x") ∷ put 3 4 [] ∷ []) ≡ codes "xb"
unfolding written file put chars lib.Utf8.encode
line_end_before_removal = refl

-- a removal at the first line's begin leaves what follows
removal_of_line : written (codes "ab\ncd") (put 3 4 [] ∷ []) ≡ codes "d"
unfolding written file put chars lib.Utf8.encode
removal_of_line = refl

-- line ends at the end are taken off
ends_off : written (codes "a\n\n\nb") (put 0 2 [] ∷ []) ≡ []
unfolding written file put chars lib.Utf8.encode
ends_off = refl

-- others stay
inner_ends_stay : written (codes "a") (put 0 1 (codes "x\n\ny") ∷ []) ≡ codes "x\n\ny"
unfolding written file put chars lib.Utf8.encode
inner_ends_stay = refl

-- LF alone ends a line
cr_stays : written (codes "a\r\nb") (put 0 1 (codes "x") ∷ []) ≡ codes "x\r"
unfolding written file put chars lib.Utf8.encode
cr_stays = refl

-- the end of the text
at_end : written (codes "ab") (put 2 2 (codes "c") ∷ []) ≡ codes "abc"
unfolding written file put chars lib.Utf8.encode
at_end = refl

-- nothing stands between parts that overlap
overlap : written (codes "abcdef") (put 0 4 (codes "x") ∷ put 2 5 (codes "y") ∷ []) ≡ codes "xyf"
unfolding written file put chars lib.Utf8.encode
overlap = refl

-- U+00E9 takes two bytes: a place inside of it is its begin
inside_character : written (97 ∷ 233 ∷ 98 ∷ []) (put 2 3 (codes "x") ∷ []) ≡ codes "axb"
unfolding written file put chars lib.Utf8.encode
inside_character = refl

in_characters : written (233 ∷ 98 ∷ []) (put 2 3 (195 ∷ 169 ∷ []) ∷ []) ≡ 233 ∷ 233 ∷ []
unfolding written file put chars lib.Utf8.encode
in_characters = refl

parts_by_start : by_start (put 4 5 (codes "a") ∷ put 1 2 (codes "b") ∷ put 4 4 (codes "c") ∷ []) ≡ put 1 2 (codes "b") ∷ put 4 5 (codes "a") ∷ put 4 4 (codes "c") ∷ []
unfolding put
parts_by_start = refl

ends_alone : without_ends (codes "\n\n") ≡ []
ends_alone = refl

-- ---- refusals

abbrev other : File
other = record { name = AnonName; text = codes "x"; start = 7 }

no_ways : refusal [] [] ≡ Some NoSubstitutions
no_ways = refl

-- a way without parts, also where one before it is in no file
no_parts : refusal [] ((put 0 1 [] ∷ []) ∷ [] ∷ []) ≡ Some NoParts
unfolding put
no_parts = refl

outside : refusal [] ((put 0 1 [] ∷ []) ∷ []) ≡ Some OtherFile
unfolding put
outside = refl

ends_apart : refusal (file (codes "abc") ∷ other ∷ []) ((put 1 7 [] ∷ []) ∷ []) ≡ Some OtherFile
unfolding put file lib.Utf8.encode
ends_apart = refl

parts_apart : refusal (file (codes "abc") ∷ other ∷ []) ((put 1 2 [] ∷ put 6 7 [] ∷ []) ∷ []) ≡ Some OtherFile
unfolding put file lib.Utf8.encode
parts_apart = refl

-- two ways may be in two files
ways_apart : refusal (file (codes "abc") ∷ other ∷ []) ((put 1 2 [] ∷ []) ∷ (put 6 7 [] ∷ []) ∷ []) ≡ None
unfolding put file lib.Utf8.encode
ways_apart = refl
