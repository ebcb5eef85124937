-- Names in the head of a scope don't pass it: a block gives none.
use Rattle.std.proofs.Common.{◌≡◌, ℕ, suc, List, [], ◌∷◌, ◌++◌, Bool, true, false, cond, ◌&&◌, ◌||◌, not, refl, sym, ap, ◌∙◌}
use Rattle.jsx_base.specs.Token.{TokenKind, Text, IdentifierName}
use Rattle.jsx_tree.specs.Kinds.{Import, ExportDecl, ExportDefaultFn, Catch, FunctionDecl, ClassDecl, ClassExpr, Arrow, BareArrow, VarWord, Imported, Module, Specifier, SpecifierAs, Block, Var, ForDeclaration, ForBinding, InObject, Binds, FunctionExpr, Method, Getter, Setter, Field, ArrayPat, ObjectPat, PropertyPat, ShorthandPat, ShorthandInit, WithInit, RestPat, RestProperty, Nullish, Delete, Increment, Seq, OpAssign, Binary, Unary, PrefixUpdate, PostfixUpdate, NameLink, IndexLink, CallLink, PlainTemplate, SubstitutedTemplate, TemplateSpan, Element, Kind, program, statement, function, expression, jsx, Tree, leaf, node, list, Forest, none, part}
use Rattle.jsx_tree.specs.Nonterminals.{Nonterminal, BindingIdent, Pat, Declarators, Declaration, BlockOnly, ImportClause}
use Rattle.jsx_tree.specs.Form.{Position, position, positions}
use Rattle.jsx_tree.specs.Scopes.{Path, below, Sort, AsVar, AsParameter, AsFunction, AsLexical, declaration, sort_of, binds, is_parameter, is_catch, is_var}
use Rattle.jsx_tree.proofs.Tokens.{and_left, and_right, and_both}
use Rattle.jsx_names.specs.Events.{Frame, InHead, is_head, Mode, Plain, Exporting, Binding, way, mode, is_scope, frame, has_scope, inner, is_inner, is_behind}
use Rattle.jsx_names.specs.Answers.{Named, reaches, heads_of}
use Rattle.jsx_names.specs.Given.{passing, held, given_leaf, given, given_parts, given_each}
use Rattle.jsx_names.proofs.Bound.{not_so}
use Rattle.jsx_names.proofs.ScopeNames.{never}

-- ---- each row: a catch clause has a pattern and a block, parameters stand inside of functions, and what stands behind a head stands last

abbrev pub is_caught_place : Nonterminal → Bool
is_caught_place (Pat Binds) = true
is_caught_place BlockOnly = true
is_caught_place c = false

-- an arrow with an expression has its parameters and its code alone
abbrev pub is_code_arrow : Kind → Bool
is_code_arrow (expression Arrow) = true
is_code_arrow (expression BareArrow) = true
is_code_arrow k = false

abbrev pub is_known : Kind → Nonterminal → Bool
is_known k c = (not (is_catch k) || is_caught_place c) && (not (is_code_arrow k) || is_inner k c)

abbrev pub is_cool : Kind → Nonterminal → Bool
is_cool k c = cond (has_scope k && is_inner k c) true (not (is_parameter k c))

abbrev pub is_over : List Position → Bool
is_over [] = true
is_over (s ∷ ss) = false

abbrev pub framed : Kind → List Position → Bool
framed k [] = true
framed k (position f c g o a ∷ ss) = (is_known k c && (is_cool k c && (not (is_behind k c) || is_over ss))) && framed k ss

abbrev pub is_framed : Kind → Bool
is_framed k = framed k (positions k)

pub all_framed : (k : Kind) → is_framed k ≡ true
all_framed (program Module) = refl
all_framed (program (Specifier Imported)) = refl
all_framed (program (SpecifierAs Imported)) = refl
all_framed (statement Block) = refl
all_framed (statement (Var VarWord)) = refl
all_framed (statement (ForDeclaration VarWord)) = refl
all_framed (statement (ForBinding VarWord)) = refl
all_framed (function FunctionExpr) = refl
all_framed (function (Method InObject)) = refl
all_framed (function (Getter InObject)) = refl
all_framed (function (Setter InObject)) = refl
all_framed (function (Field InObject)) = refl
all_framed (function (ArrayPat Binds)) = refl
all_framed (function (ObjectPat Binds)) = refl
all_framed (function (PropertyPat Binds)) = refl
all_framed (function (ShorthandPat Binds)) = refl
all_framed (function (ShorthandInit Binds)) = refl
all_framed (function (WithInit Binds)) = refl
all_framed (function (RestPat Binds)) = refl
all_framed (function (RestProperty Binds)) = refl
all_framed (expression Seq) = refl
all_framed (expression (Binary Nullish)) = refl
all_framed (expression (OpAssign Nullish)) = refl
all_framed (expression (Unary Delete)) = refl
all_framed (expression (PrefixUpdate Increment)) = refl
all_framed (expression (PostfixUpdate Increment)) = refl
all_framed (expression (NameLink true)) = refl
all_framed (expression (IndexLink true)) = refl
all_framed (expression (CallLink true)) = refl
all_framed (expression (PlainTemplate true)) = refl
all_framed (expression (SubstitutedTemplate true)) = refl
all_framed (expression (TemplateSpan true)) = refl
all_framed (jsx Element) = refl
all_framed k = refl

pub known_here : (k : Kind) (c : Nonterminal) (ss : List Position) → (is_known k c && (is_cool k c && (not (is_behind k c) || is_over ss))) && framed k ss ≡ true → is_known k c ≡ true
known_here k c ss h = and_left (is_known k c) (is_cool k c && (not (is_behind k c) || is_over ss)) (and_left (is_known k c && (is_cool k c && (not (is_behind k c) || is_over ss))) (framed k ss) h)

pub last_here : (k : Kind) (c : Nonterminal) (ss : List Position) → (is_known k c && (is_cool k c && (not (is_behind k c) || is_over ss))) && framed k ss ≡ true → not (is_behind k c) || is_over ss ≡ true
last_here k c ss h = and_right (is_cool k c) (not (is_behind k c) || is_over ss) (and_right (is_known k c) (is_cool k c && (not (is_behind k c) || is_over ss)) (and_left (is_known k c && (is_cool k c && (not (is_behind k c) || is_over ss))) (framed k ss) h))

cool_here : (k : Kind) (c : Nonterminal) (ss : List Position) → (is_known k c && (is_cool k c && (not (is_behind k c) || is_over ss))) && framed k ss ≡ true → is_cool k c ≡ true
cool_here k c ss h = and_left (is_cool k c) (not (is_behind k c) || is_over ss) (and_right (is_known k c) (is_cool k c && (not (is_behind k c) || is_over ss)) (and_left (is_known k c && (is_cool k c && (not (is_behind k c) || is_over ss))) (framed k ss) h))

pub framed_rest : (k : Kind) (c : Nonterminal) (ss : List Position) → (is_known k c && (is_cool k c && (not (is_behind k c) || is_over ss))) && framed k ss ≡ true → framed k ss ≡ true
framed_rest k c ss h = and_right (is_known k c && (is_cool k c && (not (is_behind k c) || is_over ss))) (framed k ss) h

-- ---- no name of a head is a `var` name

abbrev lasts : Named → Bool
lasts n = not (n.head && is_var n.is.sort)

abbrev all_last : List Named → Bool
all_last [] = true
all_last (n ∷ ns) = lasts n && all_last ns

last_append : (ns ms : List Named) → all_last ns ≡ true → all_last ms ≡ true → all_last (ns ++ ms) ≡ true
last_append [] ms a b = b
last_append (n ∷ ns) ms a b = and_both (lasts n) (all_last (ns ++ ms)) (and_left (lasts n) (all_last ns) a) (last_append ns ms (and_right (lasts n) (all_last ns) a) b)

last_if : (b : Bool) (n : Named) → lasts n ≡ true → all_last (cond b (n ∷ []) []) ≡ true
last_if true n h = and_both (lasts n) true h refl
last_if false n h = refl

last_passing : (fs : List Frame) (ns : List Named) → all_last ns ≡ true → all_last (passing fs ns) ≡ true
last_passing fs [] h = refl
last_passing fs (n ∷ ns) h = last_append (cond (reaches n.is.sort fs) (n ∷ []) []) (passing fs ns) (last_if (reaches n.is.sort fs) n (and_left (lasts n) (all_last ns) h)) (last_passing fs ns (and_right (lasts n) (all_last ns) h))

last_held : (b : Bool) (f : Frame) (ns : List Named) → all_last ns ≡ true → all_last (held b f ns) ≡ true
last_held true f ns h = last_passing (f ∷ []) ns h
last_held false f ns h = h

last_either : (b : Bool) (ns : List Named) → all_last ns ≡ true → all_last (cond b ns []) ≡ true
last_either true ns h = h
last_either false ns h = refl

last_unless : (b : Bool) (ns : List Named) → all_last ns ≡ true → all_last (cond b [] ns) ≡ true
last_unless true ns h = refl
last_unless false ns h = h

abbrev sane : Mode → Bool
sane (Binding w s) = not (is_head w && is_var s)
sane m = true

sane_way : (m : Mode) (s : Sort) → sane (Binding (way m) s) ≡ true
sane_way Plain s = refl
sane_way Exporting s = refl
sane_way (Binding w r) s = refl

sane_last : (m : Mode) (a b : Bool) → sane m ≡ true → sane (cond a (Binding InHead AsParameter) (cond b m Plain)) ≡ true
sane_last m true b h = refl
sane_last m false true h = h
sane_last m false false h = refl

sane_mode : (m : Mode) (k : Kind) (c : Nonterminal) → sane m ≡ true → sane (mode m k c) ≡ true
sane_mode m (program Import) ImportClause s = refl
sane_mode m (program ExportDecl) Declaration s = refl
sane_mode m (program ExportDefaultFn) BindingIdent s = refl
sane_mode m (statement (Var v)) Declarators s = sane_way m (sort_of v)
sane_mode m (statement (ForDeclaration v)) Declarators s = refl
sane_mode m (statement (ForBinding v)) (Pat Binds) s = refl
sane_mode m (statement FunctionDecl) BindingIdent s = sane_way m AsFunction
sane_mode m (statement ClassDecl) BindingIdent s = sane_way m AsLexical
sane_mode m (statement Catch) (Pat Binds) s = refl
sane_mode m (function FunctionExpr) BindingIdent s = refl
sane_mode m (function ClassExpr) BindingIdent s = refl
sane_mode m k c s = sane_last m (is_parameter k c) (binds c) s

last_leaf : (m : Mode) (p : Path) (s : TokenKind) (t : Text) → sane m ≡ true → all_last (given_leaf m p s t) ≡ true
last_leaf (Binding w r) p IdentifierName t h = and_both (not (is_head w && is_var r)) true h refl
last_leaf m p s t h = refl

mutual
  last_tree : (m : Mode) (q : Kind) (p : Path) (t : Tree) → sane m ≡ true → all_last (given m q p t) ≡ true
  last_tree m q p (leaf s x) h = last_leaf m p s x h
  last_tree m q p (list ts) h = last_each m q p 0 ts h
  last_tree m q p (node k cs) h =
      last_held (is_scope q k) (frame k) (given_parts false m k p 0 (positions k) cs ++ held (has_scope k) (inner k) (given_parts true m k p 0 (positions k) cs))
      (last_append (given_parts false m k p 0 (positions k) cs) (held (has_scope k) (inner k) (given_parts true m k p 0 (positions k) cs)) (last_parts false m k p 0 (positions k) cs h)
      (last_held (has_scope k) (inner k) (given_parts true m k p 0 (positions k) cs) (last_parts true m k p 0 (positions k) cs h)))

  last_parts : (b : Bool) (m : Mode) (k : Kind) (p : Path) (i : ℕ) (ss : List Position) (cs : Forest) → sane m ≡ true → all_last (given_parts b m k p i ss cs) ≡ true
  last_parts b m k p i [] cs h = refl
  last_parts b m k p i (s ∷ ss) none h = refl
  last_parts true m k p i (position f c g o a ∷ ss) (part t ts) h =
      last_append (cond (is_inner k c) (given (mode m k c) k (below p i) t) []) (given_parts true m k p (suc i) ss ts)
      (last_either (is_inner k c) (given (mode m k c) k (below p i) t) (last_tree (mode m k c) k (below p i) t (sane_mode m k c h)))
      (last_parts true m k p (suc i) ss ts h)
  last_parts false m k p i (position f c g o a ∷ ss) (part t ts) h =
      last_append (cond (is_inner k c) [] (given (mode m k c) k (below p i) t)) (given_parts false m k p (suc i) ss ts)
      (last_unless (is_inner k c) (given (mode m k c) k (below p i) t) (last_tree (mode m k c) k (below p i) t (sane_mode m k c h)))
      (last_parts false m k p (suc i) ss ts h)

  last_each : (m : Mode) (q : Kind) (p : Path) (i : ℕ) (ts : Forest) → sane m ≡ true → all_last (given_each m q p i ts) ≡ true
  last_each m q p i none h = refl
  last_each m q p i (part t ts) h = last_append (given m q (below p i) t) (given_each m q p (suc i) ts) (last_tree m q (below p i) t h) (last_each m q p (suc i) ts h)

-- ---- heads pass no scope

pub heads_append : (ns ms : List Named) → heads_of (ns ++ ms) ≡ heads_of ns ++ heads_of ms
heads_append [] ms = refl
heads_append (n ∷ ns) ms = ap (λ z. cond n.head (n.is ∷ []) [] ++ z) (heads_append ns ms) ∙ first n.head
  where
    first : (b : Bool) → cond b (n.is ∷ []) [] ++ (heads_of ns ++ heads_of ms) ≡ (cond b (n.is ∷ []) [] ++ heads_of ns) ++ heads_of ms
    first true = refl
    first false = refl

one_passing : (f : Frame) (n : Named) (s : Sort) (b : Bool) → n.is.sort ≡ s → n.head ≡ b → lasts n ≡ true → heads_of (cond (reaches s (f ∷ [])) (n ∷ []) []) ≡ []
one_passing f n AsParameter b e x h = refl
one_passing f n AsFunction b e x h = refl
one_passing f n AsLexical b e x h = refl
one_passing f n AsVar true e x h = never (sym (ap (λ z. not (z && is_var n.is.sort)) x ∙ ap (λ z. not (is_var z)) e) ∙ h)
one_passing f n AsVar false e x h = go (reaches AsVar (f ∷ []))
  where
    go : (c : Bool) → heads_of (cond c (n ∷ []) []) ≡ []
    go true = ap (λ z. cond z (n.is ∷ []) [] ++ []) x
    go false = refl

none_heads : (f : Frame) (ns : List Named) → all_last ns ≡ true → heads_of (passing (f ∷ []) ns) ≡ []
none_heads f [] h = refl
none_heads f (n ∷ ns) h =
    heads_append (cond (reaches n.is.sort (f ∷ [])) (n ∷ []) []) (passing (f ∷ []) ns)
    ∙ ap (λ z. z ++ heads_of (passing (f ∷ []) ns)) (one_passing f n n.is.sort n.head refl refl (and_left (lasts n) (all_last ns) h))
    ∙ none_heads f ns (and_right (lasts n) (all_last ns) h)

-- ---- so a tree has none outside of itself, but where a head's names are bound

abbrev heady : Mode → Bool
heady (Binding w s) = is_head w
heady m = false

cool_way : (m : Mode) (s : Sort) → heady (Binding (way m) s) ≡ false
cool_way Plain s = refl
cool_way Exporting s = refl
cool_way (Binding w r) s = refl

cool_last : (m : Mode) (a b : Bool) → heady m ≡ false → a ≡ false → heady (cond a (Binding InHead AsParameter) (cond b m Plain)) ≡ false
cool_last m true b h e = never (sym e)
cool_last m false true h e = h
cool_last m false false h e = refl

cool_mode : (m : Mode) (k : Kind) (c : Nonterminal) → heady m ≡ false → is_parameter k c ≡ false → is_catch k ≡ false → heady (mode m k c) ≡ false
cool_mode m (program Import) ImportClause s e n = refl
cool_mode m (program ExportDecl) Declaration s e n = refl
cool_mode m (program ExportDefaultFn) BindingIdent s e n = refl
cool_mode m (statement (Var v)) Declarators s e n = cool_way m (sort_of v)
cool_mode m (statement (ForDeclaration v)) Declarators s e n = refl
cool_mode m (statement (ForBinding v)) (Pat Binds) s e n = refl
cool_mode m (statement FunctionDecl) BindingIdent s e n = cool_way m AsFunction
cool_mode m (statement ClassDecl) BindingIdent s e n = cool_way m AsLexical
cool_mode m (statement Catch) c s e n = never (sym n)
cool_mode m (function FunctionExpr) BindingIdent s e n = refl
cool_mode m (function ClassExpr) BindingIdent s e n = refl
cool_mode m k c s e n = cool_last m (is_parameter k c) (binds c) s e

cool_sane : (m : Mode) → heady m ≡ false → sane m ≡ true
cool_sane Plain h = refl
cool_sane Exporting h = refl
cool_sane (Binding w s) h = ap (λ z. not (z && is_var s)) h

catch_scope : (q k : Kind) → is_scope q k ≡ false → is_catch k ≡ false
catch_scope q (statement Catch) h = sym (sym h)
catch_scope q k h = refl

no_parameter : (a b c : Bool) → cond (a && b) true (not c) ≡ true → a ≡ false → c ≡ false
no_parameter false b c h e = not_so c h
no_parameter true b c h e = never (sym e)

outer_parameter : (a b c : Bool) → cond (a && b) true (not c) ≡ true → b ≡ false → c ≡ false
outer_parameter a true c h e = never (sym e)
outer_parameter true false c h e = not_so c h
outer_parameter false false c h e = not_so c h

heads_held : (b : Bool) (f : Frame) (ns : List Named) → all_last ns ≡ true → (b ≡ false → heads_of ns ≡ []) → heads_of (held b f ns) ≡ []
heads_held true f ns l h = none_heads f ns l
heads_held false f ns l h = h refl

heads_both : (ns ms : List Named) → heads_of ns ≡ [] → heads_of ms ≡ [] → heads_of (ns ++ ms) ≡ []
heads_both ns ms a b = heads_append ns ms ∙ ap (λ z. z ++ heads_of ms) a ∙ b

heads_if : (b : Bool) (ns : List Named) → (b ≡ true → heads_of ns ≡ []) → heads_of (cond b ns []) ≡ []
heads_if true ns h = h refl
heads_if false ns h = refl

heads_unless : (b : Bool) (ns : List Named) → (b ≡ false → heads_of ns ≡ []) → heads_of (cond b [] ns) ≡ []
heads_unless true ns h = refl
heads_unless false ns h = h refl

mutual
  pub heads_tree : (m : Mode) (q : Kind) (p : Path) (t : Tree) → heady m ≡ false → heads_of (given m q p t) ≡ []
  heads_tree (Binding w r) q p (leaf IdentifierName x) h = ap (λ z. cond z (declaration r x p ∷ []) [] ++ []) h
  heads_tree m q p (leaf s x) h = refl
  heads_tree m q p (list ts) h = heads_each m q p 0 ts h
  heads_tree m q p (node k cs) h =
      heads_held (is_scope q k) (frame k) (given_parts false m k p 0 (positions k) cs ++ held (has_scope k) (inner k) (given_parts true m k p 0 (positions k) cs))
      (last_append (given_parts false m k p 0 (positions k) cs) (held (has_scope k) (inner k) (given_parts true m k p 0 (positions k) cs)) (last_parts false m k p 0 (positions k) cs (cool_sane m h))
      (last_held (has_scope k) (inner k) (given_parts true m k p 0 (positions k) cs) (last_parts true m k p 0 (positions k) cs (cool_sane m h))))
      (λ e. heads_both (given_parts false m k p 0 (positions k) cs) (held (has_scope k) (inner k) (given_parts true m k p 0 (positions k) cs))
      (heads_outer m k p 0 (positions k) cs h (catch_scope q k e) (all_framed k))
      (heads_held (has_scope k) (inner k) (given_parts true m k p 0 (positions k) cs) (last_parts true m k p 0 (positions k) cs (cool_sane m h))
      (λ b. heads_inner m k p 0 (positions k) cs h (catch_scope q k e) b (all_framed k))))

  heads_outer : (m : Mode) (k : Kind) (p : Path) (i : ℕ) (ss : List Position) (cs : Forest) → heady m ≡ false → is_catch k ≡ false → framed k ss ≡ true → heads_of (given_parts false m k p i ss cs) ≡ []
  heads_outer m k p i [] cs h n r = refl
  heads_outer m k p i (s ∷ ss) none h n r = refl
  heads_outer m k p i (position f c g o a ∷ ss) (part t ts) h n r =
      heads_both (cond (is_inner k c) [] (given (mode m k c) k (below p i) t)) (given_parts false m k p (suc i) ss ts)
      (heads_unless (is_inner k c) (given (mode m k c) k (below p i) t) (λ e. heads_tree (mode m k c) k (below p i) t (cool_mode m k c h (outer_parameter (has_scope k) (is_inner k c) (is_parameter k c) (cool_here k c ss r) e) n)))
      (heads_outer m k p (suc i) ss ts h n (framed_rest k c ss r))

  heads_inner : (m : Mode) (k : Kind) (p : Path) (i : ℕ) (ss : List Position) (cs : Forest) → heady m ≡ false → is_catch k ≡ false → has_scope k ≡ false → framed k ss ≡ true → heads_of (given_parts true m k p i ss cs) ≡ []
  heads_inner m k p i [] cs h n b r = refl
  heads_inner m k p i (s ∷ ss) none h n b r = refl
  heads_inner m k p i (position f c g o a ∷ ss) (part t ts) h n b r =
      heads_both (cond (is_inner k c) (given (mode m k c) k (below p i) t) []) (given_parts true m k p (suc i) ss ts)
      (heads_if (is_inner k c) (given (mode m k c) k (below p i) t) (λ e. heads_tree (mode m k c) k (below p i) t (cool_mode m k c h (no_parameter (has_scope k) (is_inner k c) (is_parameter k c) (cool_here k c ss r) b) n)))
      (heads_inner m k p (suc i) ss ts h n b (framed_rest k c ss r))

  heads_each : (m : Mode) (q : Kind) (p : Path) (i : ℕ) (ts : Forest) → heady m ≡ false → heads_of (given_each m q p i ts) ≡ []
  heads_each m q p i none h = refl
  heads_each m q p i (part t ts) h = heads_both (given m q (below p i) t) (given_each m q p (suc i) ts) (heads_tree m q (below p i) t h) (heads_each m q p (suc i) ts h)
