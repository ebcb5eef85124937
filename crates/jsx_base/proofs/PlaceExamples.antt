-- Lines, fronts and places, computed.
use Rattle.std.specs.Prelude.{◌≡◌, [], ◌∷◌, Some, None, codes, refl}
use Rattle.jsx_base.specs.FileName.{AnonName}
use Rattle.jsx_base.specs.Lines.{lines, front, columns_of, line_of, col_of}
use Rattle.jsx_base.specs.Files.{File, file_at, end_of}

-- LF alone ends a line
lines_end_at_lf : lines (codes "a\r\n\nb") ≡ codes "a\r" ∷ [] ∷ codes "b" ∷ []
lines_end_at_lf = refl

-- a text has one line more than LF
no_text : lines [] ≡ [] ∷ []
no_text = refl

last_is_empty : lines (codes "a\n") ≡ codes "a" ∷ [] ∷ []
last_is_empty = refl

-- U+00E9 takes two bytes, U+4E2D three
cut_character : front (233 ∷ 97 ∷ []) 1 ≡ []
cut_character = refl

whole_character : front (233 ∷ 97 ∷ []) 2 ≡ 233 ∷ []
whole_character = refl

cut_behind : front (97 ∷ 20013 ∷ 98 ∷ []) 3 ≡ 97 ∷ []
cut_behind = refl

all : front (codes "ab") 7 ≡ codes "ab"
all = refl

-- lines count from 1, columns from 0
at_begin : line_of [] ≡ 1
at_begin = refl

at_begin_col : col_of [] ≡ 0
at_begin_col = refl

behind_lf : line_of (codes "a\n") ≡ 2
behind_lf = refl

behind_lf_col : col_of (codes "a\n") ≡ 0
behind_lf_col = refl

in_second : col_of (codes "a\nbc") ≡ 2
in_second = refl

cr_is_a_character : col_of (codes "a\r") ≡ 2
cr_is_a_character = refl

tab_is_four : columns_of 9 ≡ 4
tab_is_four = refl

-- two files, of which the first has the places from 1 to 3 and the second those from 4 to 6
first : File
first = record { name = AnonName; text = codes "ab"; start = 1 }

second : File
second = record { name = AnonName; text = 233 ∷ []; start = 4 }

end_of_first : end_of first ≡ 3
unfolding first lib.Utf8.encode
end_of_first = refl

end_is_inside : file_at (first ∷ second ∷ []) 3 ≡ Some first
unfolding first second lib.Utf8.encode
end_is_inside = refl

begin_of_second : file_at (first ∷ second ∷ []) 4 ≡ Some second
unfolding first second lib.Utf8.encode
begin_of_second = refl

before_all : file_at (first ∷ second ∷ []) 0 ≡ None
unfolding first second lib.Utf8.encode
before_all = refl

behind_all : file_at (first ∷ second ∷ []) 7 ≡ None
unfolding first second lib.Utf8.encode
behind_all = refl
