-- What a scope declares by its events is what the definitions say.
use Rattle.std.proofs.Common.{◌≡◌, ℕ, suc, List, [], ◌∷◌, ◌++◌, Bool, true, false, cond, ◌&&◌, not, refl, sym, ap, ◌∙◌, append-nil}
use Rattle.std.proofs.lemmas.Bool.{false≢true}
use Rattle.jsx_tree.specs.Kinds.{Module, Script, FunctionBody, Directive, ExportDefaultFn, Block, Switch, Case, Default, Catch, FunctionDecl, InObject, Binds, FunctionExpr, Method, Getter, Setter, Arrow, ArrowBlock, BareArrow, BareArrowBlock, Kind, program, statement, function, expression, Tree, leaf, node, list, Forest, none, part}
use Rattle.jsx_tree.specs.Nonterminals.{Nonterminal, Expr, BindingIdent, Pat, Param, SetterParam, Stmt, Item, DirectiveOnly, Body, BlockOnly, CaseClause}
use Rattle.jsx_tree.specs.Form.{Form, Single, Maybe, Several, Position, position, positions}
use Rattle.jsx_tree.specs.Sound.{each_node, each_nodes}
use Rattle.jsx_tree.specs.Scopes.{Path, below, AsParameter, AsLexical, binds, bound, in_list, listed, listed_in, listed_cases, is_function, is_parameter, in_function, function_names, is_catch, declared, own_name}
use Rattle.jsx_tree.proofs.Tokens.{and_left, and_right}
use Rattle.jsx_names.specs.Events.{OfFunction, Simply, InHead, Mode, Plain, Binding, inherited, mode, has_scope, is_inner}
use Rattle.jsx_names.specs.Answers.{Named, all_of}
use Rattle.jsx_names.specs.Given.{passing, given, given_parts, given_each}
use Rattle.jsx_names.specs.Resolved.{inner_names, outer_names}
use Rattle.jsx_names.specs.Proper.{stands, each_stands, has_form, fill, is_proper}
use Rattle.jsx_names.proofs.Quiet.{is_quiet, is_plain, plain_is, is_default, none_pass, form_valued, quiet_tree, quiet_inners}
use Rattle.jsx_names.proofs.Bound.{form_tied, all_inner, no_outer, not_so}
use Rattle.jsx_names.proofs.Vars.{all_append}
use Rattle.jsx_names.proofs.Listed.{bound_all, no_outers, tail_of, only_first, statements_listed, items_listed}

pub never : {A : Type 0} → false ≡ true → A
never e = absurd (false≢true e)

-- ---- lists of statements

directive_none : (q : Kind) (p : Path) (t : Tree) → stands DirectiveOnly t ≡ true → each_node is_proper t ≡ true → given Plain q p t ≡ []
directive_none q p (leaf s x) e h = refl
directive_none q p (list ts) e h = cc
directive_none q p (node (program Directive) cs) e h =
    let k : Kind = program Directive in
    ap (λ z. z ++ given_parts true Plain k p 0 (positions k) cs) (no_outer Plain k p 0 (positions k) cs refl)
    ∙ quiet_inners Plain k p 0 (positions k) cs refl refl (and_left (fill (positions k) cs) (each_nodes is_proper cs) h) (and_right (fill (positions k) cs) (each_nodes is_proper cs) h)
directive_none q p (node k cs) e h = cc

directives_none : (q : Kind) (p : Path) (i : ℕ) (ts : Forest) → each_stands DirectiveOnly ts ≡ true → each_nodes is_proper ts ≡ true → given_each Plain q p i ts ≡ []
directives_none q p i none e h = refl
directives_none q p i (part t ts) e h =
    ap (λ z. z ++ given_each Plain q p (suc i) ts) (directive_none q (below p i) t (and_left (stands DirectiveOnly t) (each_stands DirectiveOnly ts) e) (and_left (each_node is_proper t) (each_nodes is_proper ts) h))
    ∙ directives_none q p (suc i) ts (and_right (stands DirectiveOnly t) (each_stands DirectiveOnly ts) e) (and_right (each_node is_proper t) (each_nodes is_proper ts) h)

-- places of lists of statements, of directives, and of expressions
abbrev is_listing : Form → Nonterminal → Bool
is_listing (Several s) Stmt = true
is_listing (Several s) Item = true
is_listing (Several s) DirectiveOnly = true
is_listing f c = is_quiet c

abbrev listing_row : Kind → List Position → Bool
listing_row k [] = true
listing_row k (position f c g o a ∷ ss) = (is_plain (mode Plain k c) && is_listing f c) && listing_row k ss

unlisted : (c : Nonterminal) (p : Path) (t : Tree) → is_quiet c ≡ true → in_list c p t ≡ []
unlisted Stmt p t q = cc
unlisted Item p t q = cc
unlisted c p t q = refl

listing_place : (k : Kind) (f : Form) (c : Nonterminal) (p : Path) (t : Tree) → is_default k ≡ false → is_catch k ≡ false → is_listing f c ≡ true → has_form f c t ≡ true → each_node is_proper t ≡ true → all_of (given Plain k p t) ≡ in_list c p t
listing_place k (Several s) Stmt p (list ts) d n l w h = statements_listed k p 0 ts d n w h
listing_place k (Several s) Stmt p t d n l w h = cc
listing_place k (Several s) Item p (list ts) d n l w h = items_listed k p 0 ts d n w h
listing_place k (Several s) Item p t d n l w h = cc
listing_place k (Several s) DirectiveOnly p (list ts) d n l w h = ap all_of (directives_none k p 0 ts w h)
listing_place k (Several s) DirectiveOnly p t d n l w h = cc
listing_place k f c p t d n l w h = ap all_of (quiet_tree k p t d (form_valued f c t l w) h) ∙ sym (unlisted c p t l)

listing_parts : (k : Kind) (p : Path) (i : ℕ) (ss : List Position) (cs : Forest) → is_default k ≡ false → is_catch k ≡ false → has_scope k ≡ false → listing_row k ss ≡ true → fill ss cs ≡ true → each_nodes is_proper cs ≡ true → all_of (given_parts true Plain k p i ss cs) ≡ listed p i ss cs
listing_parts k p i [] cs d n b e w h = refl
listing_parts k p i (s ∷ ss) none d n b e w h = refl
listing_parts k p i (position f c g o a ∷ ss) (part t ts) d n b e w h =
    let here : (is_plain (mode Plain k c) && is_listing f c) ≡ true = and_left (is_plain (mode Plain k c) && is_listing f c) (listing_row k ss) e in
    ap (λ z. all_of (cond z (given (mode Plain k c) k (below p i) t) [] ++ given_parts true Plain k p (suc i) ss ts)) (all_inner k c b)
    ∙ all_append (given (mode Plain k c) k (below p i) t) (given_parts true Plain k p (suc i) ss ts)
    ∙ ap (λ z. all_of (given z k (below p i) t) ++ all_of (given_parts true Plain k p (suc i) ss ts)) (plain_is (mode Plain k c) (and_left (is_plain (mode Plain k c)) (is_listing f c) here))
    ∙ ap (λ z. z ++ all_of (given_parts true Plain k p (suc i) ss ts)) (listing_place k f c (below p i) t d n (and_right (is_plain (mode Plain k c)) (is_listing f c) here) (and_left (has_form f c t) (fill ss ts) w) (and_left (each_node is_proper t) (each_nodes is_proper ts) h))
    ∙ ap (λ z. in_list c (below p i) t ++ z) (listing_parts k p (suc i) ss ts d n b (and_right (is_plain (mode Plain k c) && is_listing f c) (listing_row k ss) e) (and_right (has_form f c t) (fill ss ts) w) (and_right (each_node is_proper t) (each_nodes is_proper ts) h))

-- a node whose parts are lists
listing_node : (k : Kind) (p : Path) (cs : Forest) → is_default k ≡ false → is_catch k ≡ false → has_scope k ≡ false → listing_row k (positions k) ≡ true → fill (positions k) cs ≡ true → each_nodes is_proper cs ≡ true → all_of (given_parts false Plain k p 0 (positions k) cs ++ given_parts true Plain k p 0 (positions k) cs) ≡ listed p 0 (positions k) cs
listing_node k p cs d n b e w h =
    ap (λ z. all_of (z ++ given_parts true Plain k p 0 (positions k) cs)) (no_outer Plain k p 0 (positions k) cs b)
    ∙ listing_parts k p 0 (positions k) cs d n b e w h

pub module_names : (q : Kind) (p : Path) (cs : Forest) → fill (positions (program Module)) cs ≡ true → each_nodes is_proper cs ≡ true → all_of (outer_names Plain (program Module) p cs) ≡ declared q (program Module) p cs
module_names q p cs w h = listing_node (program Module) p cs refl refl refl refl w h

pub script_names : (q : Kind) (p : Path) (cs : Forest) → fill (positions (program Script)) cs ≡ true → each_nodes is_proper cs ≡ true → all_of (outer_names Plain (program Script) p cs) ≡ declared q (program Script) p cs
script_names q p cs w h = listing_node (program Script) p cs refl refl refl refl w h

pub block_names : (q : Kind) (p : Path) (cs : Forest) → is_catch q ≡ false → fill (positions (statement Block)) cs ≡ true → each_nodes is_proper cs ≡ true → all_of (outer_names Plain (statement Block) p cs) ≡ declared q (statement Block) p cs
block_names q p cs n w h = listing_node (statement Block) p cs refl refl refl refl w h ∙ ap (λ z. cond z [] (listed p 0 (positions (statement Block)) cs)) (sym n)

body_given : (q : Kind) (p : Path) (cs : Forest) → fill (positions (program FunctionBody)) cs ≡ true → each_nodes is_proper cs ≡ true → all_of (given Plain q p (node (program FunctionBody) cs)) ≡ listed_in p (node (program FunctionBody) cs)
body_given q p cs w h = listing_node (program FunctionBody) p cs refl refl refl refl w h

caught_given : (p : Path) (cs : Forest) → fill (positions (statement Block)) cs ≡ true → each_nodes is_proper cs ≡ true → all_of (given Plain (statement Catch) p (node (statement Block) cs)) ≡ listed_in p (node (statement Block) cs)
caught_given p cs w h = listing_node (statement Block) p cs refl refl refl refl w h

-- ---- the cases of a switch

clause_given : (q : Kind) (p : Path) (t : Tree) → stands CaseClause t ≡ true → each_node is_proper t ≡ true → all_of (given Plain q p t) ≡ listed_in p t
clause_given q p (leaf s x) e h = refl
clause_given q p (list ts) e h = cc
clause_given q p (node (statement Case) cs) e h = listing_node (statement Case) p cs refl refl refl refl (and_left (fill (positions (statement Case)) cs) (each_nodes is_proper cs) h) (and_right (fill (positions (statement Case)) cs) (each_nodes is_proper cs) h)
clause_given q p (node (statement Default) cs) e h = listing_node (statement Default) p cs refl refl refl refl (and_left (fill (positions (statement Default)) cs) (each_nodes is_proper cs) h) (and_right (fill (positions (statement Default)) cs) (each_nodes is_proper cs) h)
clause_given q p (node k cs) e h = cc

clauses_given : (q : Kind) (p : Path) (i : ℕ) (ts : Forest) → each_stands CaseClause ts ≡ true → each_nodes is_proper ts ≡ true → all_of (given_each Plain q p i ts) ≡ listed_cases p i ts
clauses_given q p i none e h = refl
clauses_given q p i (part t ts) e h =
    all_append (given Plain q (below p i) t) (given_each Plain q p (suc i) ts)
    ∙ ap (λ z. z ++ all_of (given_each Plain q p (suc i) ts)) (clause_given q (below p i) t (and_left (stands CaseClause t) (each_stands CaseClause ts) e) (and_left (each_node is_proper t) (each_nodes is_proper ts) h))
    ∙ ap (λ z. listed_in (below p i) t ++ z) (clauses_given q p (suc i) ts (and_right (stands CaseClause t) (each_stands CaseClause ts) e) (and_right (each_node is_proper t) (each_nodes is_proper ts) h))

pub switch_names : (q : Kind) (p : Path) (cs : Forest) → fill (positions (statement Switch)) cs ≡ true → each_nodes is_proper cs ≡ true → all_of (inner_names Plain (statement Switch) p cs) ≡ declared q (statement Switch) p cs
switch_names q p none w h = never w
switch_names q p (part e none) w h = never (and_right (stands (Expr 0) e) false w)
switch_names q p (part e (part (leaf s x) ts)) w h = never (and_right (stands (Expr 0) e) false w)
switch_names q p (part e (part (node k cs) ts)) w h = never (and_right (stands (Expr 0) e) false w)
switch_names q p (part e (part (list ts) (part t us))) w h = never (and_right (each_stands CaseClause ts) false (and_right (stands (Expr 0) e) (each_stands CaseClause ts && false) w))
switch_names q p (part e (part (list ts) none)) w h =
    ap all_of (append-nil (given_each Plain (statement Switch) (below p 1) 0 ts))
    ∙ clauses_given (statement Switch) (below p 1) 0 ts
    (and_left (each_stands CaseClause ts) true (and_right (stands (Expr 0) e) (each_stands CaseClause ts && true) w))
    (and_left (each_nodes is_proper ts) true (and_right (each_node is_proper e) (each_nodes is_proper ts && true) h))

-- ---- own names

pub own_function : (q : Kind) (p : Path) (n : Tree) (cs : Forest) → fill (positions (function FunctionExpr)) (part n cs) ≡ true → each_nodes is_proper (part n cs) ≡ true → all_of (outer_names Plain (function FunctionExpr) p (part n cs)) ≡ own_name q (function FunctionExpr) p (part n cs)
own_function q p n cs w h =
    let k : Kind = function FunctionExpr in
    ap all_of (only_first (given (Binding Simply AsLexical) k (below p 0) n) (given_parts false Plain k p 1 (tail_of (positions k)) cs) (passing (OfFunction ∷ []) (inner_names Plain k p (part n cs)))
    (no_outers Plain k p 1 (tail_of (positions k)) cs refl)
    (none_pass OfFunction (inner_names Plain k p (part n cs)) refl))
    ∙ bound_all Simply AsLexical k (below p 0) n (form_tied Maybe BindingIdent n refl (and_left (has_form Maybe BindingIdent n) (fill (tail_of (positions k)) cs) w)) (and_left (each_node is_proper n) (each_nodes is_proper cs) h)

-- ---- functions

abbrev is_whole : Nonterminal → Bool
is_whole Body = true
is_whole c = false

abbrev is_single : Form → Bool
is_single Single = true
is_single f = false

abbrev function_row : Kind → List Position → Bool
function_row k [] = true
function_row k (position f c g o a ∷ ss) =
    cond (is_inner k c) (cond (is_parameter k c) true (is_plain (mode Plain k c) && cond (is_whole c) (is_single f) (is_quiet c))) (not (is_parameter k c) && not (is_whole c)) && function_row k ss

all_functions : (k : Kind) → is_function k ≡ true → function_row k (positions k) ≡ true
all_functions (statement FunctionDecl) h = refl
all_functions (program ExportDefaultFn) h = refl
all_functions (function FunctionExpr) h = refl
all_functions (function (Method InObject)) h = refl
all_functions (function (Method s)) h = refl
all_functions (function (Getter InObject)) h = refl
all_functions (function (Getter s)) h = refl
all_functions (function (Setter InObject)) h = refl
all_functions (function (Setter s)) h = refl
all_functions (expression Arrow) h = refl
all_functions (expression ArrowBlock) h = refl
all_functions (expression BareArrow) h = refl
all_functions (expression BareArrowBlock) h = refl
all_functions k h = cc

function_default : (k : Kind) → is_function k ≡ true → is_default k ≡ false
function_default (program ExportDefaultFn) h = refl
function_default (program k) h = cc
function_default k h = refl

param_binds : (k : Kind) (c : Nonterminal) → is_parameter k c ≡ true → binds c ≡ true
param_binds k Param h = refl
param_binds k SetterParam h = refl
param_binds k BindingIdent h = refl
param_binds k c h = cc

param_whole : (k : Kind) (c : Nonterminal) → is_parameter k c ≡ true → is_whole c ≡ false
param_whole k Body h = sym h
param_whole k c h = refl

pub param_mode : (k : Kind) (c : Nonterminal) (m : Mode) → is_function k ≡ true → is_parameter k c ≡ true → mode m k c ≡ Binding InHead AsParameter
param_mode (statement FunctionDecl) BindingIdent m e h = cc
param_mode (statement FunctionDecl) c m e h = ap (λ b. cond b (Binding InHead AsParameter) (inherited c m)) h
param_mode (program ExportDefaultFn) BindingIdent m e h = cc
param_mode (program ExportDefaultFn) c m e h = ap (λ b. cond b (Binding InHead AsParameter) (inherited c m)) h
param_mode (function FunctionExpr) BindingIdent m e h = cc
param_mode (function FunctionExpr) c m e h = ap (λ b. cond b (Binding InHead AsParameter) (inherited c m)) h
param_mode (function (Method s)) c m e h = ap (λ b. cond b (Binding InHead AsParameter) (inherited c m)) h
param_mode (function (Getter s)) c m e h = ap (λ b. cond b (Binding InHead AsParameter) (inherited c m)) h
param_mode (function (Setter s)) c m e h = ap (λ b. cond b (Binding InHead AsParameter) (inherited c m)) h
param_mode (expression Arrow) c m e h = ap (λ b. cond b (Binding InHead AsParameter) (inherited c m)) h
param_mode (expression ArrowBlock) c m e h = ap (λ b. cond b (Binding InHead AsParameter) (inherited c m)) h
param_mode (expression BareArrow) c m e h = ap (λ b. cond b (Binding InHead AsParameter) (inherited c m)) h
param_mode (expression BareArrowBlock) c m e h = ap (λ b. cond b (Binding InHead AsParameter) (inherited c m)) h
param_mode k c m e h = cc

other_place : (k : Kind) (c : Nonterminal) (p : Path) (t : Tree) → is_whole c ≡ false → in_function k c p t ≡ cond (is_parameter k c) (bound AsParameter p t) []
other_place k Body p t e = cc
other_place k c p t e = refl

whole_part : (k : Kind) (c : Nonterminal) (f : Form) (p : Path) (t : Tree) → is_whole c ≡ true → is_single f ≡ true → has_form f c t ≡ true → each_node is_proper t ≡ true → all_of (given Plain k p t) ≡ in_function k c p t
whole_part k Body Single p (leaf s x) e g w h = refl
whole_part k Body Single p (list ts) e g w h = cc
whole_part k Body Single p (node (program FunctionBody) cs) e g w h = body_given k p cs (and_left (fill (positions (program FunctionBody)) cs) (each_nodes is_proper cs) h) (and_right (fill (positions (program FunctionBody)) cs) (each_nodes is_proper cs) h)
whole_part k Body Single p (node l cs) e g w h = cc
whole_part k Body f p t e g w h = cc
whole_part k c f p t e g w h = cc

function_part : (k : Kind) (c : Nonterminal) (f : Form) (p : Path) (t : Tree) → is_function k ≡ true
    → cond (is_inner k c) (cond (is_parameter k c) true (is_plain (mode Plain k c) && cond (is_whole c) (is_single f) (is_quiet c))) (not (is_parameter k c) && not (is_whole c)) ≡ true
    → has_form f c t ≡ true → each_node is_proper t ≡ true → all_of (cond (is_inner k c) (given (mode Plain k c) k p t) []) ≡ in_function k c p t
function_part k c f p t e r w h = at (is_inner k c) r
  where
    plain : (b : Bool) → is_whole c ≡ b → is_parameter k c ≡ false → (is_plain (mode Plain k c) && cond b (is_single f) (is_quiet c)) ≡ true → all_of (given (mode Plain k c) k p t) ≡ in_function k c p t
    plain true x y z = ap (λ m. all_of (given m k p t)) (plain_is (mode Plain k c) (and_left (is_plain (mode Plain k c)) (is_single f) z)) ∙ whole_part k c f p t x (and_right (is_plain (mode Plain k c)) (is_single f) z) w h
    plain false x y z =
        ap (λ m. all_of (given m k p t)) (plain_is (mode Plain k c) (and_left (is_plain (mode Plain k c)) (is_quiet c) z))
        ∙ ap all_of (quiet_tree k p t (function_default k e) (form_valued f c t (and_right (is_plain (mode Plain k c)) (is_quiet c) z) w) h)
        ∙ ap (λ b. cond b (bound AsParameter p t) []) (sym y)
        ∙ sym (other_place k c p t x)

    inside : (b : Bool) → is_parameter k c ≡ b → cond b true (is_plain (mode Plain k c) && cond (is_whole c) (is_single f) (is_quiet c)) ≡ true → all_of (given (mode Plain k c) k p t) ≡ in_function k c p t
    inside true x z =
        ap (λ m. all_of (given m k p t)) (param_mode k c Plain e x)
        ∙ bound_all InHead AsParameter k p t (form_tied f c t (param_binds k c x) w) h
        ∙ ap (λ b. cond b (bound AsParameter p t) []) (sym x)
        ∙ sym (other_place k c p t (param_whole k c x))
    inside false x z = plain (is_whole c) refl x z

    at : (b : Bool) → cond b (cond (is_parameter k c) true (is_plain (mode Plain k c) && cond (is_whole c) (is_single f) (is_quiet c))) (not (is_parameter k c) && not (is_whole c)) ≡ true → all_of (cond b (given (mode Plain k c) k p t) []) ≡ in_function k c p t
    at true z = inside (is_parameter k c) refl z
    at false z =
        ap (λ b. cond b (bound AsParameter p t) []) (sym (not_so (is_parameter k c) (and_left (not (is_parameter k c)) (not (is_whole c)) z)))
        ∙ sym (other_place k c p t (not_so (is_whole c) (and_right (not (is_parameter k c)) (not (is_whole c)) z)))

function_parts : (k : Kind) (p : Path) (i : ℕ) (ss : List Position) (cs : Forest) → is_function k ≡ true → function_row k ss ≡ true → fill ss cs ≡ true → each_nodes is_proper cs ≡ true → all_of (given_parts true Plain k p i ss cs) ≡ function_names k p i ss cs
function_parts k p i [] cs e r w h = refl
function_parts k p i (s ∷ ss) none e r w h = refl
function_parts k p i (position f c g o a ∷ ss) (part t ts) e r w h =
    let here : Bool = cond (is_inner k c) (cond (is_parameter k c) true (is_plain (mode Plain k c) && cond (is_whole c) (is_single f) (is_quiet c))) (not (is_parameter k c) && not (is_whole c)) in
    all_append (cond (is_inner k c) (given (mode Plain k c) k (below p i) t) []) (given_parts true Plain k p (suc i) ss ts)
    ∙ ap (λ z. z ++ all_of (given_parts true Plain k p (suc i) ss ts)) (function_part k c f (below p i) t e (and_left here (function_row k ss) r) (and_left (has_form f c t) (fill ss ts) w) (and_left (each_node is_proper t) (each_nodes is_proper ts) h))
    ∙ ap (λ z. in_function k c (below p i) t ++ z) (function_parts k p (suc i) ss ts e (and_right here (function_row k ss) r) (and_right (has_form f c t) (fill ss ts) w) (and_right (each_node is_proper t) (each_nodes is_proper ts) h))

-- parameters, and what the body declares
pub functions_names : (k : Kind) (p : Path) (cs : Forest) → is_function k ≡ true → fill (positions k) cs ≡ true → each_nodes is_proper cs ≡ true → all_of (inner_names Plain k p cs) ≡ function_names k p 0 (positions k) cs
functions_names k p cs e w h = function_parts k p 0 (positions k) cs e (all_functions k e) w h

-- ---- catch clauses

block_given : (p : Path) (b : Tree) → stands BlockOnly b ≡ true → each_node is_proper b ≡ true → all_of (given Plain (statement Catch) p b) ≡ listed_in p b
block_given p (leaf s x) e h = refl
block_given p (list ts) e h = cc
block_given p (node (statement Block) cs) e h = caught_given p cs (and_left (fill (positions (statement Block)) cs) (each_nodes is_proper cs) h) (and_right (fill (positions (statement Block)) cs) (each_nodes is_proper cs) h)
block_given p (node k cs) e h = cc

pub caught_names : (q : Kind) (p : Path) (cs : Forest) → fill (positions (statement Catch)) cs ≡ true → each_nodes is_proper cs ≡ true → all_of (outer_names Plain (statement Catch) p cs) ≡ declared q (statement Catch) p cs
caught_names q p none w h = never w
caught_names q p (part a none) w h = never (and_right (has_form Maybe (Pat Binds) a) false w)
caught_names q p (part a (part b (part c cs))) w h = never (and_right (stands BlockOnly b) false (and_right (has_form Maybe (Pat Binds) a) (stands BlockOnly b && false) w))
caught_names q p (part a (part b none)) w h =
    let k : Kind = statement Catch in
    let pattern : List Named = given (Binding InHead AsLexical) k (below p 0) a in
    let block : List Named = given Plain k (below p 1) b in
    all_append pattern (block ++ [])
    ∙ ap (λ z. z ++ all_of (block ++ [])) (bound_all InHead AsLexical k (below p 0) a (form_tied Maybe (Pat Binds) a refl (and_left (has_form Maybe (Pat Binds) a) (stands BlockOnly b && true) w)) (and_left (each_node is_proper a) (each_node is_proper b && true) h))
    ∙ ap (λ z. bound AsLexical (below p 0) a ++ all_of z) (append-nil block)
    ∙ ap (λ z. bound AsLexical (below p 0) a ++ z) (block_given (below p 1) b (and_left (stands BlockOnly b) true (and_right (has_form Maybe (Pat Binds) a) (stands BlockOnly b && true) w)) (and_left (each_node is_proper b) true (and_right (each_node is_proper a) (each_node is_proper b && true) h)))
