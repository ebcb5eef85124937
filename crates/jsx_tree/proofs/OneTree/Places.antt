-- What is computed of the rows for the step from the definitions' reading to the one that says what stands behind each part.
use Rattle.jsx_tree.proofs.OneTree.Known.{taken}
use Rattle.std.specs.Prelude.{◌≡◌, ℕ, zero, suc, [], ◌∷◌, codes, Bool, true, false, cond, nat_le, not, ◌&&◌, ◌||◌, refl}
use Rattle.jsx_base.specs.Token.{Operator, Punctuator, NoSubstitution, TemplateHead, TemplateMiddle, TemplateTail, Elision, kind_number, among}
use Rattle.jsx_tree.specs.Signs.{Tok, Unless, SameLine, Space, Count, Apart}
use Rattle.jsx_tree.specs.Kinds.{SubstitutedTemplate, TemplateSpan, Seq, Chain, NameLink, IndexLink, CallLink, ObjectPat, PropertyPat, ShorthandPat, ShorthandInit, RestProperty, ComputedKey, Object, Property, Shorthand, function, PlainTemplate, Kind, expression, Tree, node}
use Rattle.jsx_tree.specs.Nonterminals.{Nonterminal, Expr, MemberObject, SimpleTarget, Ident, BindingIdent, Name, Pat, Slot, PatElement, Param, Argument, ArrayItem, ChainLink, TemplateOf, TemplatePart, TemplateSpans, NullishLeft, NewCallee, DotObject, homes, in_homes, literal_homes}
use Rattle.jsx_tree.specs.Grammar.{ListShape, Commas, Elisions, OneOrMore, Fixed, Part, Many, Within, Production, production}
use Rattle.jsx_tree.specs.Form.{leads, calls}
use Rattle.jsx_tree.proofs.OneTree.Table.{kinds}
use Rattle.jsx_tree.proofs.OneTree.Readings.{level, base, low_of, low, tail_of, reach_of, is_link, is_tagged, is_span}
use Rattle.jsx_tree.proofs.OneTree.Checks.{every}

abbrev pub part_low : Nonterminal → ℕ
part_low Name = 99
part_low (TemplatePart s) = 99
part_low TemplateOf = 99
part_low c = low_of c

abbrev pub is_bare : Production → Bool
is_bare [] = true
is_bare (Fixed (Tok m k t) ∷ ps) = false
is_bare (Fixed s ∷ ps) = is_bare ps
is_bare (Within a ∷ ps) = is_bare ps
is_bare ps = false

-- the level at which the last part of a row has ended, 99 where the row ends with a token
abbrev pub ending_row : Production → ℕ
ending_row [] = 99
ending_row (Part c ∷ ps) = cond (is_bare ps) (part_low c) (ending_row ps)
ending_row (Many OneOrMore c ∷ ps) = 17
ending_row (q ∷ ps) = ending_row ps

abbrev pub ending : Kind → ℕ
ending k = ending_row (production k)

abbrev pub needs : Tree → ℕ
needs (node k cs) = ending k
needs t = 99

abbrev pub first_of : Production → Nonterminal
first_of (Part c ∷ ps) = c
first_of ps = Name

-- the places of expressions and patterns
abbrev pub kin : Nonterminal → Bool
kin (Expr n) = true
kin MemberObject = true
kin DotObject = true
kin NullishLeft = true
kin SimpleTarget = true
kin NewCallee = true
kin Ident = true
kin BindingIdent = true
kin (Pat r) = true
kin (PatElement r) = true
kin (Slot r) = true
kin Param = true
kin Argument = true
kin ArrayItem = true
kin c = false

-- of all kinds that are at home there
abbrev pub at_home : Nonterminal → (Kind → Bool) → Bool
at_home c p = every (λ l. not (in_homes c (homes l)) || p l) kinds

-- properties, and what they stand in
abbrev pub is_prop : Kind → Bool
is_prop (expression Property) = true
is_prop (expression Shorthand) = true
is_prop (function (PropertyPat r)) = true
is_prop (function (ShorthandPat r)) = true
is_prop (function (ShorthandInit r)) = true
is_prop (function (RestProperty r)) = true
is_prop (function ComputedKey) = true
is_prop (expression (NameLink q)) = true
is_prop (expression (IndexLink q)) = true
is_prop (expression (CallLink q)) = true
is_prop (expression (PlainTemplate true)) = true
is_prop (expression (SubstitutedTemplate true)) = true
is_prop (expression (TemplateSpan b)) = true
is_prop k = false

abbrev pub spine_check : ℕ → Kind → Bool
spine_check n l = not (is_prop l) && (nat_le n (level l) && (not (leads (production l)) || nat_le n (base (first_of (production l)))))

-- all that is at home there may be read at level n; the comma's list isn't
abbrev pub place_at : ℕ → Nonterminal → Bool
place_at n c = kin c && at_home c (spine_check n)

abbrev pub no_seq : Nonterminal → Bool
no_seq c = not (in_homes c (homes (expression Seq)))

abbrev pub no_hole : Nonterminal → Bool
no_hole c = not (in_homes c (literal_homes Elision))

abbrev pub place_ok : Nonterminal → Bool
place_ok c = place_at (base c) c && no_seq c

-- what stands next ends an expression of level n; `e` is what is known where the row is at its end
abbrev pub quiet : ℕ → ℕ → Production → Bool
quiet e n [] = nat_le e n
quiet e n (Fixed (Tok Operator k t) ∷ ps) = nat_le (reach_of (kind_number k) t true) n && nat_le (reach_of (kind_number k) t false) n
quiet e n (Fixed (Tok m k t) ∷ ps) = false
quiet e n (Fixed (Unless ts) ∷ ps) = quiet e n ps
quiet e n (Fixed SameLine ∷ ps) = quiet e n ps
quiet e n (Fixed Space ∷ ps) = quiet e n ps
quiet e n (Fixed Count ∷ ps) = quiet e n ps
quiet e n (Fixed Apart ∷ ps) = quiet e n ps
quiet e n (Within a ∷ ps) = quiet e n ps
quiet e n ps = false

-- keys that are computed are read with their property
abbrev pub is_key : Kind → Bool
is_key (function ComputedKey) = true
is_key k = false

abbrev pub is_brace : Kind → Bool
is_brace (expression Object) = true
is_brace (expression (SubstitutedTemplate false)) = true
is_brace (function (ObjectPat r)) = true
is_brace k = false

abbrev pub ends_by : ℕ → Kind → Bool
ends_by n l = not (is_prop l) && nat_le n (ending l)

-- the same of what has level n or more
abbrev pub ends_over : ℕ → ℕ → Kind → Bool
ends_over n m l = not (nat_le n (level l)) || ends_by m l

abbrev pub ended_on : Nonterminal → ℕ → ℕ → Bool
ended_on c n m = nat_le m 99 && at_home c (ends_over n m)

abbrev pub ended_at : Nonterminal → ℕ → Bool
ended_at c n = nat_le n 99 && at_home c (ends_by n)

abbrev pub part_ok : ℕ → Nonterminal → Production → Bool
part_ok e Name ps = true
part_ok e (TemplatePart NoSubstitution) ps = true
part_ok e (TemplatePart s) ps = false
part_ok e TemplateOf ps = quiet e 99 ps
part_ok e (Expr zero) ps = quiet e 0 ps && (place_at 1 (Expr 0) && ended_at (Expr 0) 0)
part_ok e NewCallee ps = quiet e 18 ps && (place_at 17 NewCallee && (no_seq NewCallee && (ended_on NewCallee 18 18 && no_hole NewCallee)))
part_ok e c ps = quiet e (low c ps) ps && (place_ok c && (ended_at c (low c ps) && no_hole c))

abbrev pub good_shape : ListShape → Bool
good_shape Commas = true
good_shape Elisions = true
good_shape s = false

abbrev pub holed : ListShape → Bool
holed Elisions = true
holed s = false

abbrev pub closes : Production → Bool
closes (Fixed (Tok Operator Punctuator t) ∷ ps) = nat_le (reach_of 1 t true) 1 && (nat_le (reach_of 1 t false) 1 && true)
closes ps = false

abbrev pub row_ok : ℕ → Production → Bool
row_ok e [] = true
row_ok e (Fixed (Tok m k t) ∷ ps) = row_ok e ps
row_ok e (Fixed (Unless ts) ∷ ps) = not (among [] ts) && row_ok e ps
row_ok e (Fixed SameLine ∷ ps) = row_ok e ps
row_ok e (Fixed Space ∷ ps) = row_ok e ps
row_ok e (Fixed Count ∷ ps) = row_ok e ps
row_ok e (Fixed Apart ∷ ps) = row_ok e ps
row_ok e (Within a ∷ ps) = row_ok e ps
row_ok e (Part c ∷ ps) = part_ok e c ps && row_ok e ps
row_ok e (Many s c ∷ ps) = closes ps && (good_shape s && (place_at 1 c && (no_seq c && (ended_at c 1 && ((holed s || no_hole c) && row_ok e ps)))))
row_ok e ps = false

abbrev pub is_chain : Kind → Bool
is_chain (expression Chain) = true
is_chain k = false

-- what is read with the kind that it stands in
abbrev pub is_inner : Kind → Bool
is_inner k = (is_key k || is_link k) || (is_tagged k || is_span k)

abbrev pub kind_ok : Kind → Bool
kind_ok k =
    not (taken k) || ((is_brace k || is_prop k) || cond (leads (production k))
    ((is_chain k || row_ok (ending k) (tail_of (production k))) && (place_ok (first_of (production k)) && (ended_at (first_of (production k)) (suc (level k)) && no_hole (first_of (production k)))))
    (row_ok (ending k) (production k)))

pub rows : every kind_ok kinds ≡ true
rows = refl

-- what has level 17 and no more is a call
pub only_calls : every (λ k. calls k || (not (nat_le 17 (level k)) || nat_le 18 (level k))) kinds ≡ true
only_calls = refl

pub link_rows : every (λ l. not (is_link l) || row_ok 99 (production l)) kinds ≡ true
link_rows = refl

pub tagged_home : at_home TemplateOf (λ l. is_tagged l && is_prop l) ≡ true
tagged_home = refl

pub span_home : (b : Bool) → at_home (TemplateSpans b) (λ l. is_span l && is_prop l) ≡ true
span_home true = refl
span_home false = refl

-- templates' pieces stand at their places alone
abbrev pub free : Nonterminal → Bool
free c = not (in_homes c (literal_homes NoSubstitution)) && (not (in_homes c (literal_homes TemplateHead)) && (not (in_homes c (literal_homes TemplateMiddle)) && not (in_homes c (literal_homes TemplateTail))))

pub link_home : at_home ChainLink is_link ≡ true
link_home = refl

pub link_props : every (λ l. not (is_link l) || is_prop l) kinds ≡ true
link_props = refl

pub no_names : every (λ l. not (in_homes Name (homes l))) kinds ≡ true
no_names = refl

pub seq_whole : (place_at 1 (Expr 1) && (no_seq (Expr 1) && (ended_at (Expr 1) 0 && (ended_at (Expr 1) 1 && no_hole (Expr 1))))) ≡ true
seq_whole = refl

-- the checks say something: no sum stands before a `*`
not_quiet : quiet 99 13 (Fixed (Tok Operator Punctuator (codes "*")) ∷ []) ≡ false
not_quiet = refl

not_ended : ended_at (Expr 12) 14 ≡ false
not_ended = refl
