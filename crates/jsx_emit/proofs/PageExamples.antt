-- Pages, computed. Those of rows with known pages are written as rustc and swc show them.
use Rattle.std.specs.Prelude.{◌≡◌, ℕ, ◌+◌, List, [], ◌∷◌, ◌++◌, Option, Some, None, true, false, codes, refl}
use Rattle.std.specs.Fmt.{digits}
use Rattle.std.specs.List.{flat_map}
use Rattle.unicode_width.specs.Width.{char_width}
use Rattle.jsx_base.specs.declared.place.Span.{Span}
use Rattle.jsx_base.specs.FileName.{RealName}
use Rattle.jsx_base.specs.Files.{File}
use Rattle.jsx_diag.specs.declared.level.Level.TheVariants.{Error, Warning}
use Rattle.jsx_diag.specs.declared.level.Style.TheVariants.{NoStyle}
use Rattle.jsx_diag.specs.Data.{Text, Report, ErrorCode}
use Rattle.std.specs.Option.{option_map}
use Rattle.jsx_emit.specs.Page.{Look, page, page_text, told_of}
use Rattle.jsx_draw.specs.Spots.{Reach}

plain : Look
plain = record { ui_testing = false; skip_filename = false; offset_line = λ line. line }

abbrev testing : Look
testing = record { ui_testing = true; skip_filename = false; offset_line = λ line. line }

abbrev nameless : Look
nameless = record { ui_testing = false; skip_filename = true; offset_line = λ line. line }

abbrev shifted : Look
shifted = record { ui_testing = false; skip_filename = false; offset_line = λ line. line + 7 }

-- a file whose first byte has place 1
file : List ℕ → File
file text = record { name = RealName (codes "x.js"); text = text; start = 1 }

-- the bytes from `lo` to `hi`, from 0
place : ℕ → ℕ → Span
place lo hi = record { lo = record { 0 = lo + 1 }; hi = record { 0 = hi + 1 } }

abbrev label_at : Span → Option Text → List (Span × Text)
label_at sp None = []
label_at sp (Some text) = (sp, text) ∷ []

-- an error with the message `m`
report : Span → Option Text → Report
report sp label = record { level = Error; message = record { text = codes "m"; style = NoStyle } ∷ []; code = None; span = record { primary = sp ∷ []; labels = label_at sp label }; children = []; suggestions = [] }

page_shown : Look → List ℕ → ℕ → ℕ → Option Text → Option Text
unfolding file place report
page_shown look text lo hi label = page look (file text ∷ []) (report (place lo hi) label)

shown_lines : List Text → Option Text
shown_lines page = Some (flat_map (λ line. line ++ 10 ∷ []) page)

-- one character on one line
one_character : page_shown plain (codes "a = a;\n") 4 5 None ≡ shown_lines (codes "error: m" ∷ codes " --> x.js:1:5" ∷ codes "  |" ∷ codes "1 | a = a;" ∷ codes "  |     ^" ∷ [] ∷ [])
unfolding page_shown shown_lines report file place plain digits char_width lib.Utf8.encode
one_character = refl

-- its label follows the last caret
with_label : page_shown plain (codes "a = a;\n") 4 5 (Some (codes "x")) ≡ shown_lines (codes "error: m" ∷ codes " --> x.js:1:5" ∷ codes "  |" ∷ codes "1 | a = a;" ∷ codes "  |     ^ x" ∷ [] ∷ [])
unfolding page_shown shown_lines report file place plain digits char_width lib.Utf8.encode
with_label = refl

-- a span over two lines, with a label
two_lines : page_shown plain (codes "f(a,\nb);\n") 0 7 (Some (codes "x")) ≡ shown_lines (codes "error: m" ∷ codes " --> x.js:1:1" ∷ codes "  |" ∷ codes "1 | / f(a," ∷ codes "2 | | b);" ∷ codes "  | |__^ x" ∷ [] ∷ [])
unfolding page_shown shown_lines report file place plain digits char_width lib.Utf8.encode
two_lines = refl

-- a line to its end
whole_line : page_shown plain (codes "/* @jsxRuntime fast */") 0 22 None ≡ shown_lines (codes "error: m" ∷ codes " --> x.js:1:1" ∷ codes "  |" ∷ codes "1 | /* @jsxRuntime fast */" ∷ codes "  | ^^^^^^^^^^^^^^^^^^^^^^" ∷ [] ∷ [])
unfolding page_shown shown_lines report file place plain digits char_width lib.Utf8.encode
whole_line = refl

-- a span that begins behind text
begins_behind_text : page_shown plain (codes "/* @jsxRuntime fast */\nconst x = <a\n  b:c=\"d\"/>;\n") 33 47 None ≡ shown_lines (codes "error: m" ∷ codes " --> x.js:2:11" ∷ codes "  |" ∷ codes "2 |   const x = <a" ∷ codes "  |  ___________^" ∷ codes "3 | |   b:c=\"d\"/>;" ∷ codes "  | |___________^" ∷ [] ∷ [])
unfolding page_shown shown_lines report file place plain digits char_width lib.Utf8.encode
begins_behind_text = refl

-- a span of no width marks one column
no_width : page_shown plain (codes "ab") 1 1 None ≡ shown_lines (codes "error: m" ∷ codes " --> x.js:1:2" ∷ codes "  |" ∷ codes "1 | ab" ∷ codes "  |  ^" ∷ [] ∷ [])
unfolding page_shown shown_lines report file place plain digits char_width lib.Utf8.encode
no_width = refl

-- a span of no width at the end
behind_the_end : page_shown plain (codes "ab") 2 2 None ≡ shown_lines (codes "error: m" ∷ codes " --> x.js:1:3" ∷ codes "  |" ∷ codes "1 | ab" ∷ codes "  |   ^" ∷ [] ∷ [])
unfolding page_shown shown_lines report file place plain digits char_width lib.Utf8.encode
behind_the_end = refl

-- an empty line keeps the blank behind the bar
empty_file : page_shown plain (codes "") 0 0 None ≡ shown_lines (codes "error: m" ∷ codes " --> x.js:1:1" ∷ codes "  |" ∷ codes "1 | " ∷ codes "  | ^" ∷ [] ∷ [])
unfolding page_shown shown_lines report file place plain digits char_width lib.Utf8.encode
empty_file = refl

-- a tab takes four columns, and one character
tab_before : page_shown plain (codes "\tab") 1 2 None ≡ shown_lines (codes "error: m" ∷ codes " --> x.js:1:2" ∷ codes "  |" ∷ codes "1 |     ab" ∷ codes "  |     ^" ∷ [] ∷ [])
unfolding page_shown shown_lines report file place plain digits char_width lib.Utf8.encode
tab_before = refl

-- a tab is marked by four carets
tab_marked : page_shown plain (codes "a\tb") 1 2 None ≡ shown_lines (codes "error: m" ∷ codes " --> x.js:1:2" ∷ codes "  |" ∷ codes "1 | a    b" ∷ codes "  |  ^^^^" ∷ [] ∷ [])
unfolding page_shown shown_lines report file place plain digits char_width lib.Utf8.encode
tab_marked = refl

-- a word
several_characters : page_shown plain (codes "let x = yes;") 8 11 None ≡ shown_lines (codes "error: m" ∷ codes " --> x.js:1:9" ∷ codes "  |" ∷ codes "1 | let x = yes;" ∷ codes "  |         ^^^" ∷ [] ∷ [])
unfolding page_shown shown_lines report file place plain digits char_width lib.Utf8.encode
several_characters = refl

-- the ends in the other order
ends_swapped : page_shown plain (codes "let x = yes;") 11 8 None ≡ shown_lines (codes "error: m" ∷ codes " --> x.js:1:9" ∷ codes "  |" ∷ codes "1 | let x = yes;" ∷ codes "  |         ^^^" ∷ [] ∷ [])
unfolding page_shown shown_lines report file place plain digits char_width lib.Utf8.encode
ends_swapped = refl

-- the place of LF is the end of its line
to_line_end : page_shown plain (codes "ab\ncd") 1 2 None ≡ shown_lines (codes "error: m" ∷ codes " --> x.js:1:2" ∷ codes "  |" ∷ codes "1 | ab" ∷ codes "  |  ^" ∷ [] ∷ [])
unfolding page_shown shown_lines report file place plain digits char_width lib.Utf8.encode
to_line_end = refl

-- a later line
second_line : page_shown plain (codes "ab\ncd") 3 5 None ≡ shown_lines (codes "error: m" ∷ codes " --> x.js:2:1" ∷ codes "  |" ∷ codes "2 | cd" ∷ codes "  | ^^" ∷ [] ∷ [])
unfolding page_shown shown_lines report file place plain digits char_width lib.Utf8.encode
second_line = refl

-- an empty line within has no blank behind its bar
empty_line_between : page_shown plain (codes "f(\n\nb);\n") 0 5 None ≡ shown_lines (codes "error: m" ∷ codes " --> x.js:1:1" ∷ codes "  |" ∷ codes "1 | / f(" ∷ codes "2 | |" ∷ codes "3 | | b);" ∷ codes "  | |_^" ∷ [] ∷ [])
unfolding page_shown shown_lines report file place plain digits char_width lib.Utf8.encode
empty_line_between = refl

-- an empty line that begins has none either
begins_at_empty_line : page_shown plain (codes "\nb;\n") 0 2 None ≡ shown_lines (codes "error: m" ∷ codes " --> x.js:1:1" ∷ codes "  |" ∷ codes "1 | /" ∷ codes "2 | | b;" ∷ codes "  | |_^" ∷ [] ∷ [])
unfolding page_shown shown_lines report file place plain digits char_width lib.Utf8.encode
begins_at_empty_line = refl

-- white space alone before it
begins_behind_blanks : page_shown plain (codes "  a(\nb)\n") 2 7 None ≡ shown_lines (codes "error: m" ∷ codes " --> x.js:1:3" ∷ codes "  |" ∷ codes "1 | /   a(" ∷ codes "2 | | b)" ∷ codes "  | |__^" ∷ [] ∷ [])
unfolding page_shown shown_lines report file place plain digits char_width lib.Utf8.encode
begins_behind_blanks = refl

-- from the end of a line on
begins_at_line_end : page_shown plain (codes "ab\nc\n") 2 4 None ≡ shown_lines (codes "error: m" ∷ codes " --> x.js:1:3" ∷ codes "  |" ∷ codes "1 |   ab" ∷ codes "  |  ___^" ∷ codes "2 | | c" ∷ codes "  | |_^" ∷ [] ∷ [])
unfolding page_shown shown_lines report file place plain digits char_width lib.Utf8.encode
begins_at_line_end = refl

-- four lines stand all
four_lines : page_shown plain (codes "a\nb\nc\nd") 0 7 None ≡ shown_lines (codes "error: m" ∷ codes " --> x.js:1:1" ∷ codes "  |" ∷ codes "1 | / a" ∷ codes "2 | | b" ∷ codes "3 | | c" ∷ codes "4 | | d" ∷ codes "  | |_^" ∷ [] ∷ [])
unfolding page_shown shown_lines report file place plain digits char_width lib.Utf8.encode
four_lines = refl

-- six more lines stand all
six_more : page_shown plain (codes "a\nb\nc\nd\ne\nf\ng") 0 13 None ≡ shown_lines (codes "error: m" ∷ codes " --> x.js:1:1" ∷ codes "  |" ∷ codes "1 | / a" ∷ codes "2 | | b" ∷ codes "3 | | c" ∷ codes "4 | | d" ∷ codes "5 | | e" ∷ codes "6 | | f" ∷ codes "7 | | g" ∷ codes "  | |_^" ∷ [] ∷ [])
unfolding page_shown shown_lines report file place plain digits char_width lib.Utf8.encode
six_more = refl

-- of more lines the middle ones are left out
seven_more : page_shown plain (codes "a\nb\nc\nd\ne\nf\ng\nh") 0 15 None ≡ shown_lines (codes "error: m" ∷ codes " --> x.js:1:1" ∷ codes "  |" ∷ codes "1 | / a" ∷ codes "2 | | b" ∷ codes "3 | | c" ∷ codes "4 | | d" ∷ codes "... |" ∷ codes "7 | | g" ∷ codes "8 | | h" ∷ codes "  | |_^" ∷ [] ∷ [])
unfolding page_shown shown_lines report file place plain digits char_width lib.Utf8.encode
seven_more = refl

-- numbers stand left
wide_numbers : page_shown plain (codes "a\nb\nc\nd\ne\nf\ng\nh\ni\nj") 16 19 None ≡ shown_lines (codes "error: m" ∷ codes "  --> x.js:9:1" ∷ codes "   |" ∷ codes "9  | / i" ∷ codes "10 | | j" ∷ codes "   | |_^" ∷ [] ∷ [])
unfolding page_shown shown_lines report file place plain digits char_width lib.Utf8.encode
wide_numbers = refl

-- the bar beside lines that are left out stands in the third cell behind the numbers
gap_of_wide_numbers : page_shown plain (codes "a\nb\nc\nd\ne\nf\ng\nh\ni\nj") 0 19 None ≡ shown_lines (codes "error: m" ∷ codes "  --> x.js:1:1" ∷ codes "   |" ∷ codes "1  | / a" ∷ codes "2  | | b" ∷ codes "3  | | c" ∷ codes "4  | | d" ∷ codes "...  |" ∷ codes "9  | | i" ∷ codes "10 | | j" ∷ codes "   | |_^" ∷ [] ∷ [])
unfolding page_shown shown_lines report file place plain digits char_width lib.Utf8.encode
gap_of_wide_numbers = refl

-- a label behind several lines
label_of_several : page_shown plain (codes "ab\ncd") 1 5 (Some (codes "end")) ≡ shown_lines (codes "error: m" ∷ codes " --> x.js:1:2" ∷ codes "  |" ∷ codes "1 |   ab" ∷ codes "  |  __^" ∷ codes "2 | | cd" ∷ codes "  | |__^ end" ∷ [] ∷ [])
unfolding page_shown shown_lines report file place plain digits char_width lib.Utf8.encode
label_of_several = refl

-- numbers of lines may be left out
numbers_left_out : page_shown testing (codes "a = a;") 4 5 None ≡ shown_lines (codes "error: m" ∷ codes "  --> x.js:1:5" ∷ codes "   |" ∷ codes "LL | a = a;" ∷ codes "   |     ^" ∷ [] ∷ [])
unfolding page_shown shown_lines report file place plain digits char_width lib.Utf8.encode
numbers_left_out = refl

-- so may the place
place_left_out : page_shown nameless (codes "a = a;") 4 5 None ≡ shown_lines (codes "error: m" ∷ codes " " ∷ codes "  |" ∷ codes "1 | a = a;" ∷ codes "  |     ^" ∷ [] ∷ [])
unfolding page_shown shown_lines report file place plain digits char_width lib.Utf8.encode
place_left_out = refl

-- another number may stand for a line in its place
offset_lines : page_shown shifted (codes "a = a;") 4 5 None ≡ shown_lines (codes "error: m" ∷ codes " --> x.js:8:5" ∷ codes "  |" ∷ codes "1 | a = a;" ∷ codes "  |     ^" ∷ [] ∷ [])
unfolding page_shown shown_lines report file place plain digits char_width lib.Utf8.encode
offset_lines = refl

-- a tab in a label becomes spaces
tab_in_label : page_shown plain (codes "a") 0 1 (Some (codes "x\ty")) ≡ shown_lines (codes "error: m" ∷ codes " --> x.js:1:1" ∷ codes "  |" ∷ codes "1 | a" ∷ codes "  | ^ x    y" ∷ [] ∷ [])
unfolding page_shown shown_lines report file place plain digits char_width lib.Utf8.encode
tab_in_label = refl

-- ---- columns are display columns, whatever the characters

-- a span on the first line, which begins behind so many characters, between two display columns
on_line : List ℕ → ℕ → ℕ → ℕ → Reach
unfolding file
on_line text col begin end = record { first = record { file = file text; line = 1; col = col; col_display = begin }; last = record { file = file text; line = 1; col = col + 1; col_display = end } }

line_told : Look → Reach → Text → Option Text → Option Text
line_told look reach message label = option_map (λ page. page_text (page ++ [] ∷ [])) (told_of look 1 reach message label)

-- U+4E2D takes three bytes and two columns
wide_character : line_told plain (on_line (97 ∷ 20013 ∷ 98 ∷ []) 1 1 3) (codes "m") None ≡ shown_lines (codes "error: m" ∷ codes " --> x.js:1:2" ∷ codes "  |" ∷ (codes "1 | a" ++ 228 ∷ 184 ∷ 173 ∷ codes "b") ∷ codes "  |  ^^" ∷ [] ∷ [])
unfolding line_told on_line shown_lines file plain digits lib.Utf8.encode
wide_character = refl

-- what stands behind it begins two columns later
behind_wide_character : line_told plain (on_line (97 ∷ 20013 ∷ 98 ∷ []) 2 3 4) (codes "m") None ≡ shown_lines (codes "error: m" ∷ codes " --> x.js:1:3" ∷ codes "  |" ∷ (codes "1 | a" ++ 228 ∷ 184 ∷ 173 ∷ codes "b") ∷ codes "  |    ^" ∷ [] ∷ [])
unfolding line_told on_line shown_lines file plain digits lib.Utf8.encode
behind_wide_character = refl

-- U+0301 combines with the letter before it and takes no column
combining_character : line_told plain (on_line (101 ∷ 769 ∷ 98 ∷ []) 2 1 2) (codes "m") None ≡ shown_lines (codes "error: m" ∷ codes " --> x.js:1:3" ∷ codes "  |" ∷ (codes "1 | e" ++ 204 ∷ 129 ∷ codes "b") ∷ codes "  |  ^" ∷ [] ∷ [])
unfolding line_told on_line shown_lines file plain digits lib.Utf8.encode
combining_character = refl

-- alone it has no width, and one column is marked
combining_alone : line_told plain (on_line (101 ∷ 769 ∷ 98 ∷ []) 1 1 1) (codes "m") None ≡ shown_lines (codes "error: m" ∷ codes " --> x.js:1:2" ∷ codes "  |" ∷ (codes "1 | e" ++ 204 ∷ 129 ∷ codes "b") ∷ codes "  |  ^" ∷ [] ∷ [])
unfolding line_told on_line shown_lines file plain digits lib.Utf8.encode
combining_alone = refl

-- ---- where there is no such page

-- a span that ends before the first column of a later line
ends_at_column_0 : page_shown plain (codes "ab\ncd") 0 3 None ≡ None
unfolding page_shown file place report plain digits char_width lib.Utf8.encode
ends_at_column_0 = refl

outside_all_files : page_shown plain (codes "ab") 0 9 None ≡ None
unfolding page_shown file place report plain digits char_width lib.Utf8.encode
outside_all_files = refl

empty_label : page_shown plain (codes "ab") 0 1 (Some []) ≡ None
unfolding page_shown file place report plain digits char_width lib.Utf8.encode
empty_label = refl

label_of_two_lines : page_shown plain (codes "ab") 0 1 (Some (codes "x\ny")) ≡ None
unfolding page_shown file place report plain digits char_width lib.Utf8.encode
label_of_two_lines = refl

warning : page plain (file (codes "ab") ∷ []) (record (report (place 0 1) None) { level = Warning }) ≡ None
unfolding file place report plain digits char_width lib.Utf8.encode
warning = refl

with_a_code : page plain (file (codes "ab") ∷ []) (record (report (place 0 1) None) { code = Some (ErrorCode (codes "E1")) }) ≡ None
unfolding file place report plain digits char_width lib.Utf8.encode
with_a_code = refl

dummy : page plain (file (codes "ab") ∷ []) (report (record { lo = record { 0 = 0 }; hi = record { 0 = 0 } }) None) ≡ None
unfolding file place report plain digits char_width lib.Utf8.encode
dummy = refl
