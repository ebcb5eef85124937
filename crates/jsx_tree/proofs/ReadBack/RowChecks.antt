-- Which rows of the grammar make lists of signs that join: a check of each row by itself.
use Rattle.std.specs.Prelude.{ℕ, List, [], ◌∷◌, ◌++◌, codes, Bool, true, false, cond, not, ◌&&◌, ◌||◌, nat_eq}
use Rattle.jsx_base.specs.Token.{Text, Mode, Operator, TokenKind, Punctuator, NoSubstitution, TemplateHead, among, same, is_one_of, is_code, Elision, TemplateMiddle, TemplateTail}
use Rattle.jsx_tree.specs.Signs.{Sign, Tok, Semicolon, TrailingComma, Unless, SameLine, Ends, Space, Line, Indent, Unindent, Begin, Count, One, End}
use Rattle.jsx_tree.specs.Kinds.{Specifier, SpecifierAs, Method, PropertyPat, Property, NameLink, While, For, ForIn, ForOf, Label, Catch, Module, Script, FunctionBody, Field, RestPat, RestProperty, Binds, Assigns, Kind, program, statement, function, expression, If, Chain, TemplateSpan, Tree, leaf, node, list, Forest, none, part}
use Rattle.jsx_tree.specs.Nonterminals.{Nonterminal, MemberObject, SimpleTarget, Ident, BindingIdent, StringOnly, Pat, NullishLeft, NewCallee, number, in_homes, leaf_in, homes, literal_homes, Expr, DotObject, ChainLink, TemplateOf, TemplatePart, TemplateSpans, Name, ArrayItem, Slot, Body, ClassMember, SubStmt, BlockOnly, CatchClause, Stmt, Item, DirectiveOnly, CaseClause, Declaration}
use Rattle.jsx_tree.specs.Grows.{any_of}
use Rattle.jsx_tree.specs.Grammar.{ListShape, Commas, Elisions, NoTrailing, TwoOrMore, Lines, TopLines, OneOrMore, Spaced, JsxChildren, Fixed, Part, Optional, Many, Within, Production, production, fixed, pun, key}
use Rattle.jsx_tree.specs.Spelling.{spelled, between}
use Rattle.jsx_tree.specs.Layout.{first_char, first_token, last}
use Rattle.jsx_tree.specs.Form.{last_kind, Form, Single, Maybe, Several, Position, position, positions, at_most_one, enough, last_only, admits, is_leaf}
use Rattle.jsx_tree.specs.Parentheses.{is_dotted_number}
use Rattle.jsx_tree.specs.StaticRules.{rule, open_if, trails}
use Rattle.jsx_tree.specs.Fits.{is_plain, is_solid}
use Rattle.jsx_tree.proofs.ReadBack.Joins.{Next, Nothing, Semi, Token, Ahead, at_once, ahead, goes_on, is_pointed, follows, stands, skips_next, open_gap, joint, no_slash, at_end, is_none_of}

-- ---- what is asked of what comes next

-- what stands next behind a whole tree, where it stands directly behind: `.` too, where b
abbrev pub calm_chars : Bool → Text
calm_chars true = codes "()[]{};,:?`+-."
calm_chars false = codes "()[]{};,:?`+-"

abbrev pub calm_next : Bool → Next → Bool
calm_next b Nothing = true
calm_next b Semi = true
calm_next b (Token m s t) = is_one_of (first_char t) (calm_chars b)

abbrev pub even : Ahead → Bool
even v = skips_next v.next && not (v.same_line && v.line)

-- what may follow a whole tree: a `.` where b, an `else` where e
abbrev pub calm : Bool → Bool → Ahead → Bool
calm b e v = even v && ((v.sure || calm_next b v.next) && (is_none_of v.next (codes "=>" ∷ []) && (e || is_none_of v.next (codes "else" ∷ []))))

abbrev pub is_tagged : Nonterminal → Bool
is_tagged TemplateOf = true
is_tagged c = false

abbrev pub is_linked : Nonterminal → Bool
is_linked ChainLink = true
is_linked c = false

pub data Need : Type 0 where
  Even : Need
  Calm : Bool → Bool → Need
  After : TokenKind → Text → Need
  NoneOf : List Text → Need
  Sure : Need

abbrev pub holds : Need → Ahead → Bool
holds Even v = even v
holds (Calm b e) v = calm b e v
holds (After s t) v = open_gap [] v && joint s t v
holds (NoneOf ts) v = is_none_of v.next ts
holds Sure v = v.sure

-- what is known of what comes behind a node: whether it is calm at all, whether a `.` and an `else` may come, whether no comma does, and no word of a `try`
pub record Outs : Type 0 where
  pub known : Bool
  pub dot : Bool
  pub els : Bool
  pub no_comma : Bool
  pub no_part : Bool
  -- whether nothing at all comes
  pub nothing : Bool

-- ---- words

-- with which a `try` goes on
abbrev pub try_words : List Text
try_words = codes "catch" ∷ codes "finally" ∷ []

-- with which a statement goes on, and none begins
abbrev pub part_words : List Text
part_words = codes "else" ∷ try_words

abbrev pub all_in : List Text → List Text → Bool
all_in [] us = true
all_in (t ∷ ts) us = among t us && all_in ts us

-- ---- nonterminals

-- whose trees begin with a token of code: not a program or a body, which may be empty, no hole and no later piece of a template
abbrev pub frontal : Nonterminal → Bool
frontal c =
    not (in_homes c (homes (program FunctionBody))) && (not (in_homes c (homes (program Module))) && (not (in_homes c (literal_homes Elision)) && (not (in_homes c (literal_homes TemplateMiddle)) && not (in_homes c (literal_homes TemplateTail)))))

abbrev pub is_body : Nonterminal → Bool
is_body Body = true
is_body c = false

-- where a hole may stand
abbrev pub holes : Nonterminal → Bool
holes ArrayItem = true
holes (Slot r) = true
holes c = false

-- behind whose trees a `.` may stand
abbrev pub dots : Nonterminal → Bool
dots DotObject = true
dots ChainLink = true
dots Name = true
dots TemplateOf = true
dots (TemplatePart NoSubstitution) = true
dots (TemplatePart TemplateTail) = true
dots c = false

-- what ends with `${`, behind which anything may stand
abbrev pub is_opened : Nonterminal → Bool
is_opened (TemplatePart TemplateHead) = true
is_opened (TemplatePart TemplateMiddle) = true
is_opened (TemplateSpans b) = true
is_opened c = false

-- a later piece, which is read as such
abbrev pub is_later : Nonterminal → Bool
is_later (TemplatePart TemplateMiddle) = true
is_later (TemplatePart TemplateTail) = true
is_later c = false

-- where a rest may stand
abbrev pub rests : Nonterminal → Bool
rests c = in_homes c (homes (function (RestPat Binds))) || (in_homes c (homes (function (RestPat Assigns))) || (in_homes c (homes (function (RestProperty Binds))) || in_homes c (homes (function (RestProperty Assigns)))))

-- where neither a rest nor a program stands
abbrev pub is_inner : Nonterminal → Bool
is_inner c = not (in_homes c (homes (program Module))) && not (in_homes c (homes (program Script)))

-- behind whose trees an `else` does no harm
abbrev pub is_member : Nonterminal → Bool
is_member ClassMember = true
is_member c = false

abbrev pub is_name_place : Nonterminal → Bool
is_name_place Name = true
is_name_place c = false

-- what begins a statement, a case or a directive
abbrev pub is_line : Nonterminal → Bool
is_line Stmt = true
is_line Item = true
is_line DirectiveOnly = true
is_line CaseClause = true
is_line c = false

-- whose trees don't begin with a word with which a statement goes on
abbrev pub elseless : Nonterminal → Bool
elseless (Expr n) = true
elseless MemberObject = true
elseless DotObject = true
elseless SimpleTarget = true
elseless Ident = true
elseless BindingIdent = true
elseless StringOnly = true
elseless (Pat r) = true
elseless NullishLeft = true
elseless NewCallee = true
elseless (TemplatePart NoSubstitution) = true
elseless (TemplatePart TemplateHead) = true
elseless Stmt = true
elseless Item = true
elseless DirectiveOnly = true
elseless CaseClause = true
elseless BlockOnly = true
elseless c = false

-- a statement, or what may end with one: no word of a `try` comes behind it
abbrev pub whole_numbers : List ℕ
whole_numbers = number Stmt ∷ number SubStmt ∷ number Item ∷ number Body ∷ number CaseClause ∷ number Declaration ∷ []

abbrev pub is_whole : Nonterminal → Bool
is_whole c = any_of (number c) whole_numbers

abbrev pub all_whole : List Nonterminal → Bool
all_whole [] = true
all_whole (c ∷ cs) = is_whole c && all_whole cs

-- ---- what a row lets come next

abbrev pub idle : List Sign → Bool
idle [] = true
idle (Count ∷ ms) = idle ms
idle (Ends e ∷ ms) = idle ms
idle (Begin ∷ ms) = idle ms
idle (One ∷ ms) = idle ms
idle (End ∷ ms) = idle ms
idle (Unless ts ∷ ms) = idle ms
idle (TrailingComma ∷ ms) = idle ms
idle (Indent ∷ ms) = idle ms
idle (Unindent ∷ ms) = idle ms
idle (m ∷ ms) = false

abbrev pub chars_are : (ℕ → Bool) → Text → Bool
chars_are p [] = true
chars_are p (c ∷ t) = p c && chars_are p t

abbrev pub is_one_text : List Text → Text → Bool
is_one_text [] t = false
is_one_text (u ∷ []) t = same u t
is_one_text (u ∷ v ∷ us) t = false

-- behind the row
abbrev pub outside_ok : Outs → Need → Bool
outside_ok o Even = true
outside_ok o Sure = false
outside_ok o (Calm c f) = o.known && ((not o.dot || c) && (not o.els || f))
outside_ok o (After s t) = o.known && chars_are (follows s t) (calm_chars o.dot)
outside_ok o (NoneOf ts) = (o.known && is_one_text ts (codes "=>")) || ((o.known && (not o.els && is_one_text ts (codes "else"))) || ((o.no_comma && is_one_text ts (codes ",")) || (o.no_part && all_in ts try_words)))

-- the characters that no tree begins with
abbrev pub is_starter : ℕ → Bool
is_starter c = not (is_one_of c (codes "=>"))

-- but for the one before which a blank is put
abbrev pub no_starter : Bool → Text → Text → Bool
no_starter a t [] = true
no_starter a t (c ∷ ds) = ((a && nat_eq (last t) c) || not (is_starter c)) && no_starter a t ds

abbrev pub is_punct : TokenKind → Bool
is_punct Punctuator = true
is_punct s = false

abbrev pub flat : Ahead → Bool
flat v = not (v.same_line && v.line)

-- the first token of a tree at c, where d stands before it
abbrev pub seen : Need → Ahead → Nonterminal → Bool
seen Even d c = flat d
seen Sure d c = d.sure
seen (Calm b e) d c = flat d && (is_tagged c || ((is_linked c && b) || (d.sure && (e || is_line c))))
seen (After s t) d c = flat d && (d.sure || (is_punct s && ((not (is_pointed t) && no_starter d.apart t (goes_on t)) || (is_name_place c && is_pointed t))))
seen (NoneOf ts) d c = elseless c && all_in ts part_words

-- a later piece of a template
abbrev pub seen_piece : Need → Ahead → Bool
seen_piece (After s t) d = flat d && (d.void && (is_punct s && (not (is_pointed t) && same (goes_on t) [])))
seen_piece n d = false

abbrev pub with_token : List Sign → Bool
with_token [] = false
with_token (Tok m s t ∷ ms) = true
with_token (Semicolon ∷ ms) = true
with_token (m ∷ ms) = with_token ms

abbrev pub before_signs : ListShape → List Sign
before_signs Lines = Line ∷ []
before_signs Spaced = Space ∷ []
before_signs s = []

abbrev pub comma : Next
comma = Token Operator Punctuator (codes ",")

-- which has an item
abbrev pub is_some_shape : ListShape → Bool
is_some_shape NoTrailing = true
is_some_shape TwoOrMore = true
is_some_shape OneOrMore = true
is_some_shape s = false

abbrev pub is_code_shape : ListShape → Bool
is_code_shape JsxChildren = false
is_code_shape s = true

abbrev pub is_holey : ListShape → Bool
is_holey Elisions = true
is_holey s = false

abbrev pub seen_part : Need → List Sign → Nonterminal → Bool
seen_part n pre c = cond (frontal c) (seen n (ahead pre (at_once Nothing)) c) (is_later c && seen_piece n (ahead pre (at_once Nothing)))

abbrev pub seen_many : Need → List Sign → ListShape → Nonterminal → Bool
seen_many n pre s c = is_code_shape s && (seen n (ahead (pre ++ before_signs s) (at_once Nothing)) c && (frontal c || (is_holey s && (holes c && holds n (ahead pre (at_once comma))))))

abbrev pub sees : Outs → Need → List Sign → Production → Bool
sees o n pre [] = cond o.nothing (holds n (ahead pre at_end)) (idle pre && outside_ok o n)
sees o n pre (Fixed (Tok m s t) ∷ ps) = holds n (ahead pre (at_once (Token m s t)))
sees o n pre (Fixed Semicolon ∷ ps) = holds n (ahead pre (at_once Semi))
sees o n pre (Fixed m ∷ ps) = sees o n (pre ++ m ∷ []) ps
sees o n pre (Within a ∷ ps) = sees o n pre ps
sees o n pre (Part c ∷ ps) = cond (is_body c) (seen n (ahead (pre ++ Line ∷ []) (at_once Nothing)) Stmt && sees o n pre ps) (seen_part n pre c)
sees o n pre (Optional x c y r ∷ ps) = cond (with_token x) (holds n (ahead (pre ++ x) (at_once Nothing))) (seen_part n (pre ++ x) c) && sees o n pre ps
sees o n pre (Many s c ∷ ps) = seen_many n pre s c && (is_some_shape s || sees o n pre ps)

-- ---- a row by itself

-- whether an `else` may come here
abbrev pub may_else : Outs → Production → Bool
may_else o ps = not (sees o (Calm true false) [] ps)

-- behind whose trees an `else` may stand, unless they end with an open `if`
abbrev pub elsed : Nonterminal → Bool
elsed SubStmt = true
elsed BlockOnly = true
elsed CatchClause = true
elsed c = false

abbrev pub need_of : Nonterminal → Bool → Need
need_of c e = cond (is_opened c) Even (Calm (dots c) (is_member c || e))

abbrev pub part_ok : Outs → Nonterminal → Production → Bool
part_ok o c ps = (sees o (need_of c (may_else o ps)) [] ps && (not (may_else o ps) || (elsed c || (is_member c || is_opened c)))) && (not (is_whole c) || sees o (NoneOf try_words) [] ps)

abbrev pub guards : Production → Bool
guards (Part c ∷ ps) = frontal c
guards ps = false

abbrev pub sign_ok : Outs → Sign → Production → Bool
sign_ok o (Tok m s t) ps = stands m s t && (sees o (After s t) [] ps && (not (same t (codes "/")) || sees o Sure [] ps))
sign_ok o Semicolon ps = sees o Even [] ps
sign_ok o (Unless ts) ps = (guards ps && no_slash ts) || sees o (NoneOf ts) [] ps
sign_ok o SameLine ps = sees o Even [] ps
sign_ok o TrailingComma ps = sees o (NoneOf (codes "," ∷ [])) [] ps
sign_ok o m ps = true

abbrev pub is_no_guard : Sign → Bool
is_no_guard (Unless ts) = false
is_no_guard m = true

abbrev pub signs_ok : Outs → List Sign → Production → Bool
signs_ok o [] ps = true
signs_ok o (m ∷ ms) ps = (is_no_guard m && sign_ok o m (fixed ms ++ ps)) && signs_ok o ms ps

-- whether the word that a guard asks for may come behind the row: an `else`
abbrev pub is_due : Outs → List Text → Bool
is_due o r = is_one_text r (codes "else") && o.els

abbrev pub absent_ok : Outs → List Text → Production → Bool
absent_ok o [] ps = true
absent_ok o (r ∷ rs) ps = is_due o (r ∷ rs) || sees o (NoneOf (r ∷ rs)) [] ps

abbrev pub behind_signs : ListShape → List Sign
behind_signs Commas = TrailingComma ∷ []
behind_signs Elisions = TrailingComma ∷ []
behind_signs TopLines = Line ∷ []
behind_signs s = []

-- an item before another, the signs between, the last item and the signs behind it, a last hole
abbrev pub many_ok : Outs → ListShape → Nonterminal → Production → Bool
many_ok o s c ps =
    (part_ok o c (fixed (between s) ++ (Many s c ∷ ps)) && signs_ok o (between s) (Many s c ∷ ps))
    && ((part_ok o c (fixed (behind_signs s) ++ ps) && signs_ok o (behind_signs s) ps)
    && ((not (rests c) || sees o (NoneOf (codes "," ∷ [])) [] (fixed (behind_signs s) ++ ps)) && (not (is_holey s) || signs_ok o (pun "," ∷ []) ps)))

abbrev pub row_ok : Outs → Production → Bool
row_ok o [] = true
row_ok o (Fixed m ∷ ps) = sign_ok o m ps && row_ok o ps
row_ok o (Within a ∷ ps) = row_ok o ps
row_ok o (Part c ∷ ps) = (part_ok o c ps && (not (rests c) && is_inner c)) && row_ok o ps
row_ok o (Optional a c b r ∷ ps) = (signs_ok o a (Part c ∷ (fixed b ++ ps)) && (part_ok o c (fixed b ++ ps) && (not (rests c) && is_inner c))) && ((signs_ok o b ps && absent_ok o r ps) && row_ok o ps)
row_ok o (Many s c ∷ ps) = (many_ok o s c ps && (is_inner c && (not (elsed c) && is_code_shape s))) && row_ok o ps

-- ---- all rows

abbrev pub is_dotted : Kind → Bool
is_dotted k = in_homes DotObject (homes k) || (in_homes ChainLink (homes k) || in_homes TemplateOf (homes k))

abbrev pub is_elsed : Kind → Bool
is_elsed k = in_homes SubStmt (homes k) || (in_homes BlockOnly (homes k) || (in_homes CatchClause (homes k) || in_homes ClassMember (homes k)))

abbrev pub is_program : Kind → Bool
is_program (program Module) = true
is_program (program Script) = true
is_program k = false

abbrev pub is_span : Kind → Bool
is_span (expression (TemplateSpan b)) = true
is_span k = false

abbrev pub outs : Kind → Bool → Outs
outs k e = record { known = not (is_span k); dot = is_dotted k; els = e; no_comma = last_kind k; no_part = all_whole (homes k); nothing = is_program k }

-- a chain's object may be a number, whose first link is `?.`
abbrev pub its_row : Kind → Production
its_row (expression Chain) = Fixed Count ∷ Many OneOrMore ChainLink ∷ []
its_row k = production k

abbrev pub kind_ok : Kind → Bool
kind_ok k = row_ok (outs k false) (its_row k) && (not (is_elsed k) || row_ok (outs k true) (its_row k))

-- ---- trees

-- what a row asks of its parts beside their kinds: a chain begins with `?.`, and no `else` follows an open `if`
abbrev pub link_ok : Kind → Forest → Bool
link_ok (expression Chain) cs = rule (expression Chain) cs
link_ok (statement If) cs = rule (statement If) cs
link_ok k cs = true

-- one tree, or a list of them with the form that its place asks
abbrev pub is_formed : Form → Tree → Bool
is_formed Single (leaf s t) = true
is_formed Single (node k cs) = true
is_formed Maybe (list ts) = at_most_one ts
is_formed (Several s) (list ts) = enough s ts && last_only ts
is_formed f t = false

abbrev mutual
  -- a tree that fits at a place, with the tokens that may not come first there
  pub sound : Nonterminal → List Text → Tree → Bool
  sound c g (leaf s t) = (leaf_in c s t && not (among (first_token (spelled (leaf s t))) g)) && ((is_leaf s t && is_solid s) && not (is_dotted_number c (leaf s t)))
  sound c g (node k cs) = (admits c (node k cs) && not (among (first_token (spelled (node k cs))) g)) && ((is_plain k && link_ok k cs) && sounds (positions k) cs)
  sound c g (list ts) = sound_each c ts

  pub sounds : List Position → Forest → Bool
  sounds [] none = true
  sounds [] (part t ts) = false
  sounds (s ∷ ss) none = false
  sounds (position f c g b a ∷ ss) (part t ts) = is_formed f t && (sound c g t && sounds ss ts)

  pub sound_each : Nonterminal → Forest → Bool
  sound_each c none = true
  sound_each c (part t ts) = is_formed Single t && (sound c [] t && sound_each c ts)

-- a row's parts, as the walk over the row meets them
abbrev pub rowed : List Text → Production → Forest → Bool
rowed g [] none = true
rowed g [] (part t ts) = false
rowed g (Fixed (Tok m k t) ∷ ps) cs = rowed (cond (is_punct k) [] g) ps cs
rowed g (Fixed (Unless ts) ∷ ps) cs = rowed ts ps cs
rowed g (Fixed m ∷ ps) cs = rowed g ps cs
rowed g (Within a ∷ ps) cs = rowed g ps cs
rowed g (Part c ∷ ps) none = false
rowed g (Part c ∷ ps) (part t ts) = is_formed Single t && (sound c g t && rowed [] ps ts)
rowed g (Optional a c b r ∷ ps) none = false
rowed g (Optional a c b r ∷ ps) (part t ts) = is_formed Maybe t && (sound c [] t && rowed [] ps ts)
rowed g (Many s c ∷ ps) none = false
rowed g (Many s c ∷ ps) (part t ts) = is_formed (Several s) t && (sound c [] t && rowed [] ps ts)

abbrev pub is_none : List Text → Bool
is_none [] = true
is_none (t ∷ ts) = false

-- what may stand before an `else` doesn't end with an open `if`
abbrev pub elses : Outs → Production → Forest → Bool
elses o [] cs = true
elses o (Fixed m ∷ ps) cs = elses o ps cs
elses o (Within a ∷ ps) cs = elses o ps cs
elses o (Part c ∷ ps) none = true
elses o (Part c ∷ ps) (part t ts) = (not (may_else o ps && elsed c) || not (open_if t)) && elses o ps ts
elses o (Optional a c b r ∷ ps) (part (list none) ts) = not (is_due o r) && elses o ps ts
elses o (Optional a c b r ∷ ps) (part (list (part t us)) ts) = (not (may_else o (fixed b ++ ps) && elsed c) || not (open_if t)) && elses o ps ts
elses o (Optional a c b r ∷ ps) cs = true
elses o (Many s c ∷ ps) none = true
elses o (Many s c ∷ ps) (part t ts) = elses o ps ts

-- ---- further facts of a kind

abbrev pub is_if_kind : Kind → Bool
is_if_kind (statement If) = true
is_if_kind k = false

-- whose last part is a statement
abbrev pub is_tail : Kind → Bool
is_tail (statement If) = true
is_tail (statement While) = true
is_tail (statement For) = true
is_tail (statement ForIn) = true
is_tail (statement ForOf) = true
is_tail (statement Label) = true
is_tail k = false

abbrev pub is_catch : Kind → Bool
is_catch (statement Catch) = true
is_catch k = false

abbrev pub is_sub : Nonterminal → Bool
is_sub SubStmt = true
is_sub c = false

-- a row in which no `else` may stand behind what could end with an open `if`
abbrev pub calm_row : Outs → Production → Bool
calm_row o [] = true
calm_row o (Fixed m ∷ ps) = calm_row o ps
calm_row o (Within a ∷ ps) = calm_row o ps
calm_row o (Part c ∷ ps) = not (may_else o ps && is_sub c) && calm_row o ps
calm_row o (Optional a c b r ∷ ps) = (not (may_else o (fixed b ++ ps) && is_sub c) && not (is_due o r)) && calm_row o ps
calm_row o (Many s c ∷ ps) = calm_row o ps

abbrev pub imply : Bool → Bool → Bool
imply a b = not a || b

abbrev pub kind_facts : Kind → Bool
kind_facts k =
    ((is_if_kind k || calm_row (outs k false) (its_row k)) && (imply (is_elsed k) (is_tail k || calm_row (outs k true) (its_row k))))
    && (((not (in_homes (TemplatePart TemplateHead) (homes k)) && not (in_homes (TemplatePart TemplateMiddle) (homes k))) && (imply (in_homes (TemplateSpans true) (homes k)) (is_span k) && imply (in_homes (TemplateSpans false) (homes k)) (is_span k)))
    && ((not (in_homes Name (homes k)) && (not (in_homes (TemplatePart NoSubstitution) (homes k)) && not (in_homes (TemplatePart TemplateTail) (homes k))))
    && (imply (in_homes BlockOnly (homes k)) (not (trails (production k))) && imply (in_homes CatchClause (homes k)) (is_catch k))))

-- an `if` without `else`
abbrev pub if_row : Production
if_row = Fixed Count ∷ Fixed (key "if") ∷ Fixed Space ∷ Fixed (pun "(") ∷ Part (Expr 0) ∷ Fixed (pun ")") ∷ Fixed Space ∷ Part SubStmt ∷ Fixed (Unless (codes "else" ∷ [])) ∷ []

-- ---- what a row begins with

-- where a template's first piece stands
abbrev pub is_quoted : Nonterminal → Bool
is_quoted (TemplatePart NoSubstitution) = true
is_quoted (TemplatePart TemplateHead) = true
is_quoted c = false

-- which of a place's facts are asked: of a tagged template, of a chain's link, of what isn't `else`, `catch` or `finally`
pub record Asks : Type 0 where
  pub tagged : Bool
  pub linked : Bool
  pub lined : Bool

abbrev pub token_opens : Asks → Mode → Text → Bool
token_opens f m t =
    (is_code m && is_starter (first_char t)) && ((not f.tagged || nat_eq (first_char t) 96) && ((not f.linked || is_one_of (first_char t) (codes "?.[(")) && (not f.lined || not (among t part_words))))

abbrev pub part_opens : Asks → Nonterminal → Bool
part_opens f c = frontal c && ((not f.tagged || is_quoted c) && ((not f.linked || is_linked c) && (not f.lined || elseless c)))

abbrev pub signs_open : Asks → List Sign → Bool
signs_open f (Tok m s t ∷ ms) = token_opens f m t
signs_open f ms = false

abbrev pub row_opens : Asks → Production → Bool
row_opens f [] = false
row_opens f (Fixed (Tok m s t) ∷ ps) = token_opens f m t
row_opens f (Fixed Count ∷ ps) = row_opens f ps
row_opens f (Fixed One ∷ ps) = row_opens f ps
row_opens f (Fixed Begin ∷ ps) = row_opens f ps
row_opens f (Fixed (Unless ts) ∷ ps) = row_opens f ps
row_opens f (Fixed m ∷ ps) = false
row_opens f (Within a ∷ ps) = row_opens f ps
row_opens f (Part c ∷ ps) = part_opens f c
row_opens f (Optional a c b r ∷ ps) = signs_open f a && row_opens f ps
row_opens f (Many TwoOrMore c ∷ ps) = part_opens f c
row_opens f (Many s c ∷ ps) = false

-- what may begin with no token
abbrev pub is_loose : Kind → Bool
is_loose (program Module) = true
is_loose (program Script) = true
is_loose (program FunctionBody) = true
is_loose k = false

-- what may begin with a key or any name
abbrev pub is_keyed : Kind → Bool
is_keyed (program (Specifier s)) = true
is_keyed (program (SpecifierAs s)) = true
is_keyed (function (Method h)) = true
is_keyed (function (Field h)) = true
is_keyed (function (PropertyPat r)) = true
is_keyed (expression Property) = true
is_keyed (expression (NameLink q)) = true
is_keyed k = false

abbrev pub asks_none : Asks
asks_none = record { tagged = false; linked = false; lined = false }

abbrev pub is_body_kind : Kind → Bool
is_body_kind (program FunctionBody) = true
is_body_kind k = false

abbrev pub kind_opens : Kind → Bool
kind_opens k =
    (is_loose k || row_opens asks_none (production k)) && ((not (in_homes TemplateOf (homes k)) || row_opens (record asks_none { tagged = true }) (production k))
    && ((not (in_homes ChainLink (homes k)) || row_opens (record asks_none { linked = true }) (production k)) && ((is_loose k || (is_keyed k || row_opens (record asks_none { lined = true }) (production k))) && (not (in_homes Body (homes k)) || is_body_kind k))))
