-- Which trees have the form that the productions ask (ECMA-262 sections 13 to 16; JSX specification): a part at each place, of a kind that is at home there.
use Rattle.std.specs.Prelude.{List, [], ◌∷◌, codes, Bool, true, false, cond, ◌&&◌, ◌||◌, not}
use Rattle.jsx_base.specs.Token.{Text, TokenKind, Punctuator, Elision, same, among}
use Rattle.jsx_tree.specs.Signs.{Tok, Unless}
use Rattle.jsx_tree.specs.Kinds.{RestPat, RestProperty, Call, SuperCall, ImportCall, Chain, Kind, function, expression, Tree, leaf, node, list, Forest, none, part}
use Rattle.jsx_tree.specs.Nonterminals.{Nonterminal, TemplatePart, NewCallee, in_homes, homes, leaf_in}
use Rattle.jsx_base.specs.Token.{is_token, token}
use Rattle.jsx_tree.specs.Spelling.{mode_of}
use Rattle.jsx_tree.specs.Grammar.{ListShape, NoTrailing, TwoOrMore, OneOrMore, Dotted, Context, Fixed, Part, Optional, Many, Within, Production, production}

pub data Form : Type 0 where
  Single : Form
  Maybe : Form
  Several : ListShape → Form

-- a place of a production: what stands there, the tokens that may not be first there, whether brackets of the node enclose it, and what it stands in
pub data Position : Type 0 where
  position : Form → Nonterminal → List Text → Bool → List Context → Position

abbrev pub is_open : Text → Bool
is_open t = among t (codes "(" ∷ codes "[" ∷ codes "{" ∷ [])

abbrev pub is_close : Text → Bool
is_close t = among t (codes ")" ∷ codes "]" ∷ codes "}" ∷ [])

abbrev pub is_piece : Nonterminal → Bool
is_piece (TemplatePart s) = true
is_piece c = false

abbrev pub inside : Text → Bool → Bool
inside t b = cond (is_open t) true (cond (is_close t) false b)

-- `g` are the tokens that may not come first, `b` whether brackets are open, `a` what the parts stand in
abbrev pub slots : List Text → Bool → List Context → Production → List Position
slots g b a [] = []
slots g b a (Part c ∷ ps) = position Single c g b a ∷ slots [] (b || is_piece c) a ps
slots g b a (Optional x c y r ∷ ps) = position Maybe c [] b a ∷ slots [] b a ps
slots g b a (Many s c ∷ ps) = position (Several s) c [] b a ∷ slots [] b a ps
slots g b a (Within x ∷ ps) = slots g b (x ∷ a) ps
slots g b a (Fixed (Tok m Punctuator t) ∷ ps) = slots [] (inside t b) a ps
slots g b a (Fixed (Unless ts) ∷ ps) = slots ts b a ps
slots g b a (Fixed m ∷ ps) = slots g b a ps

abbrev pub positions : Kind → List Position
positions k = slots [] false [] (production k)

-- how many trees a place asks at least
abbrev pub enough : ListShape → Forest → Bool
enough NoTrailing none = false
enough TwoOrMore none = false
enough TwoOrMore (part t none) = false
enough OneOrMore none = false
enough Dotted none = false
enough s ts = true

abbrev pub at_most_one : Forest → Bool
at_most_one none = true
at_most_one (part t none) = true
at_most_one (part t (part u us)) = false

-- what only stands last
abbrev pub last_kind : Kind → Bool
last_kind (function (RestPat r)) = true
last_kind (function (RestProperty r)) = true
last_kind k = false

abbrev pub is_last : Tree → Bool
is_last (leaf s t) = false
is_last (node k cs) = last_kind k
is_last (list ts) = false

abbrev pub last_only : Forest → Bool
last_only none = true
last_only (part t none) = true
last_only (part t (part u us)) = not (is_last t) && last_only (part u us)

-- whether the first part stands before all tokens of a node
abbrev pub leads : Production → Bool
leads (Part c ∷ ps) = true
leads ps = false

-- `new a().b()` has the callee `a`: `new (a().b)()` needs its parentheses (ECMA-262 section 13.3)
abbrev pub calls : Kind → Bool
calls (expression Call) = true
calls (expression SuperCall) = true
calls (expression ImportCall) = true
calls (expression Chain) = true
calls k = false

-- a call on the left spine, outside of parentheses
abbrev mutual
  pub spine_calls : Tree → Bool
  spine_calls (leaf s t) = false
  spine_calls (node k cs) = calls k || (leads (production k) && first_calls cs)
  spine_calls (list ts) = false

  pub first_calls : Forest → Bool
  first_calls none = false
  first_calls (part t ts) = spine_calls t

abbrev pub admits_node : Nonterminal → Tree → Kind → Bool
admits_node NewCallee t k = in_homes NewCallee (homes k) && not (spine_calls t)
admits_node c t k = in_homes c (homes k)

abbrev pub admits : Nonterminal → Tree → Bool
admits c (leaf s t) = leaf_in c s t
admits c (node k cs) = admits_node c (node k cs) k
admits c (list ts) = false

abbrev pub shaped : Form → Nonterminal → Tree → Bool
shaped Single c t = admits c t
shaped Maybe c (list ts) = at_most_one ts
shaped (Several s) c (list ts) = enough s ts && last_only ts
shaped f c t = false

-- whether a leaf's text is one token of its kind
abbrev pub is_leaf : TokenKind → Text → Bool
is_leaf Elision t = same t []
is_leaf s t = is_token (token (mode_of s) false t) s t && same (token (mode_of s) false t).rest []

abbrev mutual
  -- the trees below a tree have the form that their productions ask
  pub fits_below : Nonterminal → Tree → Bool
  fits_below c (leaf s t) = is_leaf s t
  fits_below c (node k cs) = fit_slots (positions k) cs
  fits_below c (list ts) = fit_each c ts

  pub fit_slots : List Position → Forest → Bool
  fit_slots [] none = true
  fit_slots [] (part t ts) = false
  fit_slots (s ∷ ss) none = false
  fit_slots (position f c g b a ∷ ss) (part t ts) = shaped f c t && (fits_below c t && fit_slots ss ts)

  pub fit_each : Nonterminal → Forest → Bool
  fit_each c none = true
  fit_each c (part t ts) = admits c t && (fits_below c t && fit_each c ts)

abbrev pub is : Nonterminal → Tree → Bool
is c t = admits c t && fits_below c t
