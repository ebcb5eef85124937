-- What a pen has written, and what each further sign adds to it.
use Rattle.std.specs.Prelude.{ℕ, zero, suc, ◌-◌, List, [], ◌∷◌, ◌++◌, codes, map, string_bytes, Bool, true, false, cond, nat_eq, not, ◌&&◌, Option, Some, None}
use Rattle.std.specs.List.{list_any}
use Rattle.std.specs.Str.{chars}
use Rattle.jsx_base.specs.Token as token
use Rattle.jsx_base.specs.Token.{Operator, Piece, Children, IdentifierName, first_is}
use Rattle.jsx_base.specs.declared.place.Span.{Span}
use Rattle.jsx_tree.specs.Kinds.{UnaryOp, Positive, Negative, Complement, Not, Holder, Static, Tree, list, Forest, part}
use Rattle.jsx_tree.specs.declared.text.Text.{Text}
use Rattle.jsx_tree.specs.View.{text_of}
use Rattle.jsx_tree.specs.Nonterminals.{unary}
use Rattle.jsx_tree.specs.declared.text.LinkForm.{LinkForm}
use Rattle.jsx_tree.specs.declared.text.LinkForm.TheVariants as link_form
use Rattle.jsx_tree.specs.Signs.{Sign, Tok, Semicolon, Space, Pad, Line, Indent, Outdent, Unindent, Apart}
use Rattle.jsx_tree.specs.Grammar.{NoTrailing, Lines, pun}
use Rattle.jsx_tree.specs.Spelling.{gathered, joined}
use Rattle.jsx_tree.specs.Normal.{laid_node, laid_tree, without_empty, each_made}
use Rattle.jsx_tree.specs.Layout.{four, last}
use Rattle.jsx_pen.specs.Calls.{is_place, first_place, said, each_said}
use Rattle.jsx_pen.specs.declared.pen.Gap.{Gap}
use Rattle.jsx_pen.specs.declared.pen.Gap.TheVariants as gap
use Rattle.jsx_pen.specs.declared.pen.Stretch.{Stretch}

-- a text, and the places of the calls whose first token comes behind it
abbrev pub Portion : Type 0
Portion = token.Text × List ℕ

abbrev pub portion_of : Stretch → Portion
portion_of s = (chars (string_bytes s.text), map (λ b. b.0) s.calls.items)

-- the text up to the last token that is the first of a call, and from there on; how many levels it is indented; what is open before the next token, and the places of the calls that begin with it
pub record State : Type 0 where
  pub done : List Portion
  pub written : token.Text
  pub depth : ℕ
  pub gap : Gap
  pub due : List ℕ

abbrev pub at : List Portion → token.Text → ℕ → Gap → List ℕ → State
at s w n g d = record { done = s; written = w; depth = n; gap = g; due = d }

abbrev pub begin : State
begin = at [] [] 0 gap.Settled []

abbrev pub mark : Bool → token.Text
mark true = codes "/*#__PURE__*/ "
mark false = []

-- the text of these portions, with a mark before each token with which a call begins that has one
abbrev pub joint : (ℕ → Bool) → List Portion → token.Text
joint f [] = []
joint f (s ∷ ss) = s.0 ++ (mark (list_any f s.1) ++ joint f ss)

-- all of the text
abbrev pub whole : (ℕ → Bool) → State → token.Text
whole f p = joint f p.done ++ p.written

abbrev pub margin : ℕ → token.Text
margin zero = []
margin (suc n) = four ++ margin n

-- the blank before a token
abbrev pub blank : Gap → token.Text → token.Text
blank gap.Settled t = []
blank gap.Opened t = []
blank gap.Padded t = 32 ∷ []
blank gap.Plus t = cond (first_is (nat_eq 43) t) (32 ∷ []) []
blank gap.Minus t = cond (first_is (nat_eq 45) t) (32 ∷ []) []

-- a text that needs no blank before it
unfoldable pub raw : State → token.Text → State
raw p t = at p.done (p.written ++ t) p.depth gap.Settled []

-- no call begins with a semicolon
abbrev pub is_word : token.Text → Bool
is_word t = not (first_is (nat_eq 59) t)

abbrev pub is_due : List ℕ → Bool
is_due [] = false
is_due (x ∷ xs) = true

-- a token that is the first of the calls that are due, and one that is not
unfoldable pub ink : Bool → State → token.Text → State
ink true p t = at (p.done ++ ((p.written ++ blank p.gap t, p.due) ∷ [])) t p.depth gap.Settled []
ink false p t = at p.done (p.written ++ (blank p.gap t ++ t)) p.depth gap.Settled []

-- a token
unfoldable pub inked : State → token.Text → State
inked p t = ink (is_word t && is_due p.due) p t

-- a call begins here
unfoldable pub placed : State → ℕ → State
placed p x = at p.done p.written p.depth p.gap (p.due ++ (x ∷ []))

-- the same, if it has a place
abbrev pub placed_at : State → Option Span → State
placed_at p None = p
placed_at p (Some s) = placed p s.lo.0

-- what comes next begins no call
unfoldable pub unready : State → State
unready p = at p.done p.written p.depth p.gap []

-- a blank inside of braces: two that meet are none
abbrev pub turned : Gap → Gap
turned gap.Padded = gap.Settled
turned gap.Settled = gap.Padded
turned gap.Opened = gap.Padded
turned gap.Plus = gap.Padded
turned gap.Minus = gap.Padded

unfoldable pub padded : State → State
padded p = at p.done p.written p.depth (turned p.gap) []

unfoldable pub lined : State → State
lined p = at p.done (p.written ++ (10 ∷ margin p.depth)) p.depth gap.Settled []

unfoldable pub indented : State → State
indented p = at p.done p.written (suc p.depth) gap.Opened []

unfoldable pub unindented : State → State
unindented p = at p.done p.written (p.depth - 1) gap.Settled []

abbrev pub is_opened : Gap → Bool
is_opened gap.Opened = true
is_opened g = false

-- a new line, where something stands in the lines of the braces
unfoldable pub outdented : State → State
outdented p = cond (is_opened p.gap) (unindented p) (lined (unindented p))

-- which sign the next token is kept apart from
abbrev pub sign_gap : ℕ → Gap
sign_gap c = cond (nat_eq c 43) gap.Plus (cond (nat_eq c 45) gap.Minus gap.Settled)

unfoldable pub parted : State → State
parted p = at p.done p.written p.depth (sign_gap (last p.written)) []

-- a token that is read in this mode, or the place of a call
abbrev pub coded : token.Mode → token.Text → State → State
coded Piece t p = inked (unready p) t
coded Children t p = inked (unready p) t
coded m t p = inked p t

abbrev pub toked : Bool → token.Mode → token.Text → State → State
toked true m t p = placed p (first_place t)
toked false m t p = coded m t p

abbrev pub puts : State → List Sign → State
puts p [] = p
puts p (Tok m k t ∷ ms) = puts (toked (is_place k) m t p) ms
puts p (Semicolon ∷ ms) = puts (inked p (59 ∷ [])) ms
puts p (Space ∷ ms) = puts (raw p (32 ∷ [])) ms
puts p (Pad ∷ ms) = puts (padded p) ms
puts p (Line ∷ ms) = puts (lined p) ms
puts p (Indent ∷ ms) = puts (indented p) ms
puts p (Outdent ∷ ms) = puts (outdented p) ms
puts p (Unindent ∷ ms) = puts (unindented p) ms
puts p (Apart ∷ ms) = puts (parted p) ms
puts p (m ∷ ms) = puts p ms

-- the signs of a tree with the places of its calls, and of the trees of one place, as they are laid
abbrev pub signs : Tree → List Sign
signs t = joined (said (laid_tree t))

abbrev pub rows : Forest → List (List Sign)
rows ts = each_said (without_empty (each_made laid_node ts))

-- the others of a list with commas
abbrev pub later : List (List Sign) → List Sign
later [] = []
later (x ∷ xs) = pun "," ∷ Space ∷ gathered NoTrailing (x ∷ xs)

-- whether a last item is a hole
abbrev pub is_void : List Sign → Bool
is_void [] = true
is_void (m ∷ ms) = false

abbrev pub ends_void : List (List Sign) → Bool
ends_void [] = false
ends_void (x ∷ []) = is_void x
ends_void (x ∷ y ∷ ys) = ends_void (y ∷ ys)

-- an operator with a blank on either side
abbrev pub spaced : token.Text → token.Text
spaced t = 32 ∷ (t ++ (32 ∷ []))

-- what stands before an operand
abbrev pub prefix_signs : UnaryOp → List Sign
prefix_signs Positive = pun "+" ∷ Apart ∷ []
prefix_signs Negative = pun "-" ∷ Apart ∷ []
prefix_signs Complement = pun "~" ∷ []
prefix_signs Not = pun "!" ∷ []
prefix_signs o = Tok Operator IdentifierName (unary o) ∷ Space ∷ []

-- what a link of a chain begins with: before a name, an index and arguments
abbrev pub dot_text : LinkForm → token.Text
dot_text link_form.Optional = codes "?."
dot_text link_form.Plain = codes "."

abbrev pub index_text : LinkForm → token.Text
index_text link_form.Optional = codes "?.["
index_text link_form.Plain = codes "["

abbrev pub call_text : LinkForm → token.Text
call_text link_form.Optional = codes "?.("
call_text link_form.Plain = codes "("

-- the end of an array: with a comma behind a last hole
abbrev pub end_text : List (List Sign) → token.Text
end_text xs = cond (ends_void xs) (codes ",]") (codes "]")

-- an optional part, and one with this before it
abbrev pub named : State → Tree → State
named p (list (part t ts)) = puts p (signs t)
named p t = p

abbrev pub opted : State → token.Text → Tree → State
opted p a (list (part t ts)) = puts (raw p a) (signs t)
opted p a t = p

-- a body in braces, and trees on lines in braces
abbrev pub bodied : State → Tree → State
bodied p b = inked (outdented (puts (indented (inked p (codes "{"))) (signs b))) (codes "}")

abbrev pub blocked : State → Forest → State
blocked p ts = inked (outdented (puts (indented (inked p (codes "{"))) (gathered Lines (rows ts)))) (codes "}")

-- what stands before a member
abbrev pub marked : State → Holder → State
marked p Static = raw (inked p (codes "static")) (32 ∷ [])
marked p h = p

-- a template: its first piece, and then each expression with the piece behind it, as far as there are both
-- a piece of a template, which is read in a mode of its own
abbrev pub piece : State → token.Text → State
piece p t = inked (unready p) t

abbrev pub spanned : State → List Text → List Tree → State
spanned p (a ∷ []) (t ∷ []) = piece (inked (puts p (signs t)) (codes "}")) (text_of a)
spanned p (a ∷ b ∷ as') (t ∷ ts) = spanned (piece (inked (puts p (signs t)) (codes "}")) (text_of a)) (b ∷ as') ts
spanned p as' ts = p

abbrev pub templated : State → List Text → List Tree → State
templated p [] ts = p
templated p (a ∷ as') ts = spanned (inked p (text_of a)) as' ts

-- whether a span that these follow is written: there is a piece behind it, or nothing at all
abbrev pub goes_on : {A : Type 0} → List Text → List A → Bool
goes_on (a ∷ as') xs = true
goes_on [] [] = true
goes_on [] (x ∷ xs) = false
