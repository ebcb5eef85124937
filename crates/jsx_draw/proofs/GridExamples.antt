-- Grids, computed.
use Rattle.std.specs.Prelude.{◌≡◌, [], ◌∷◌, codes, true, false, refl}
use Rattle.jsx_diag.specs.declared.level.Style.TheVariants.{NoStyle, Quotation, LineNumber, Highlight}
use Rattle.jsx_draw.specs.Grid.{Grid, blank, in_style, put_cell, put_text, put_before, put_behind, restyle, shown_row}

-- a row of two plain characters
ab : Grid
ab = in_style Quotation (codes "ab") ∷ []

put_over : put_cell 0 1 (120, LineNumber) ab ≡ ((97, Quotation) ∷ (120, LineNumber) ∷ []) ∷ []
unfolding ab
put_over = refl

put_behind_end : put_cell 0 2 (120, LineNumber) ab ≡ ((97, Quotation) ∷ (98, Quotation) ∷ (120, LineNumber) ∷ []) ∷ []
unfolding ab
put_behind_end = refl

put_far : put_cell 0 4 (120, LineNumber) ab ≡ ((97, Quotation) ∷ (98, Quotation) ∷ blank ∷ blank ∷ (120, LineNumber) ∷ []) ∷ []
unfolding ab
put_far = refl

put_in_new_row : put_cell 2 1 (120, LineNumber) ab ≡ in_style Quotation (codes "ab") ∷ [] ∷ (blank ∷ (120, LineNumber) ∷ []) ∷ []
unfolding ab
put_in_new_row = refl

text_over : put_text 0 1 (in_style LineNumber (codes "xyz")) ab ≡ ((97, Quotation) ∷ in_style LineNumber (codes "xyz")) ∷ []
unfolding ab
text_over = refl

-- an empty text makes no row and pads nothing
empty_text : put_text 3 7 [] ab ≡ ab
unfolding ab
empty_text = refl

before : put_before 0 (in_style LineNumber (codes "x")) ab ≡ ((120, LineNumber) ∷ in_style Quotation (codes "ab")) ∷ []
unfolding ab
before = refl

before_in_new_row : put_before 1 [] ab ≡ in_style Quotation (codes "ab") ∷ [] ∷ []
unfolding ab
before_in_new_row = refl

behind : put_behind 0 (in_style LineNumber (codes "x")) ab ≡ ((97, Quotation) ∷ (98, Quotation) ∷ (120, LineNumber) ∷ []) ∷ []
unfolding ab
behind = refl

behind_in_new_row : put_behind 1 (in_style LineNumber (codes "x")) ab ≡ in_style Quotation (codes "ab") ∷ in_style LineNumber (codes "x") ∷ []
unfolding ab
behind_in_new_row = refl

-- two blanks, two columns later a text, and one before it
padded_and_pushed : put_before 0 (in_style NoStyle (233 ∷ [])) (put_text 0 2 (in_style NoStyle (codes "ab")) []) ≡ in_style NoStyle (233 ∷ 32 ∷ 32 ∷ 97 ∷ 98 ∷ []) ∷ []
padded_and_pushed = refl

-- a quoted cell takes another style
restyled_cell : restyle 0 1 1 Highlight false ab ≡ ((97, Quotation) ∷ (98, Highlight) ∷ []) ∷ []
unfolding ab
restyled_cell = refl

kept_style : restyle 0 0 1 NoStyle false (in_style LineNumber (codes "a") ∷ []) ≡ in_style LineNumber (codes "a") ∷ []
kept_style = refl

overwritten_style : restyle 0 0 1 NoStyle true (in_style LineNumber (codes "a") ∷ []) ≡ in_style NoStyle (codes "a") ∷ []
overwritten_style = refl

-- cells that aren't there take none
past_the_row : restyle 0 1 9 Highlight true ab ≡ ((97, Quotation) ∷ (98, Highlight) ∷ []) ∷ []
unfolding ab
past_the_row = refl

past_the_grid : restyle 1 0 9 Highlight true ab ≡ ab
unfolding ab
past_the_grid = refl

one_run : shown_row (in_style Quotation (codes "ab")) ≡ record { text = codes "ab"; style = Quotation } ∷ []
one_run = refl

two_runs : shown_row ((97, Quotation) ∷ (98, LineNumber) ∷ (99, LineNumber) ∷ []) ≡ record { text = codes "a"; style = Quotation } ∷ record { text = codes "bc"; style = LineNumber } ∷ []
two_runs = refl

tab_is_four : shown_row ((97, Quotation) ∷ (9, LineNumber) ∷ []) ≡ record { text = codes "a"; style = Quotation } ∷ record { text = codes "    "; style = LineNumber } ∷ []
tab_is_four = refl

no_run : shown_row [] ≡ []
no_run = refl
