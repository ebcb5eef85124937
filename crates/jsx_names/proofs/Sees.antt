-- What the parts of a node see by its events is what the definitions say.
use Rattle.std.proofs.Common.{◌≡◌, List, [], ◌∷◌, ◌++◌, Bool, true, false, cond, ◌&&◌, ◌||◌, not, refl, sym, ap, ◌∙◌, append-nil, subst}
use Rattle.jsx_base.specs.Token.{Text}
use Rattle.jsx_tree.specs.Kinds.{Module, Script, ExportDefaultFn, ExportDefaultClass, Block, For, ForIn, ForOf, Switch, Catch, FunctionDecl, Binds, FunctionExpr, ClassExpr, Method, Getter, Setter, Arrow, ArrowBlock, BareArrow, BareArrowBlock, Kind, program, statement, function, expression, Tree, Forest, none, part}
use Rattle.jsx_tree.specs.Nonterminals.{Nonterminal, Expr, BindingIdent, Pat, Param, SetterParam, Body, BlockOnly, CaseClause}
use Rattle.jsx_tree.specs.Form.{Maybe, positions}
use Rattle.jsx_tree.specs.Sound.{each_node, each_nodes}
use Rattle.jsx_tree.specs.Scopes.{Path, below, AsLexical, Declaration, bound, listed, is_function, is_parameter, function_names, is_catch, own_name, without_vars, parameters, function_sees, seen, Scope, Bound, is_declared, lookup, inside}
use Rattle.jsx_tree.proofs.Tokens.{and_left, and_right}
use Rattle.jsx_names.specs.Events.{OfFunction, OfBlock, OfName, InHead, Mode, Plain, is_scope, has_scope, inner, is_code, is_inner, is_behind}
use Rattle.jsx_names.specs.Events.{Binding as Binds'}
use Rattle.jsx_names.specs.Answers.{Named, all_of, heads_of, Standing, opened, scopes}
use Rattle.jsx_names.specs.Given.{given}
use Rattle.jsx_names.specs.Resolved.{inner_names, outer_names, stand, enter, in_node}
use Rattle.jsx_names.specs.Proper.{stands, has_form, fill, is_proper}
use Rattle.jsx_names.proofs.Quiet.{is_default}
use Rattle.jsx_names.proofs.Bound.{form_tied, flagged, bound_tree}
use Rattle.jsx_names.proofs.ScopeNames.{never, module_names, script_names, block_names, switch_names, functions_names, own_function, caught_names}
use Rattle.jsx_names.proofs.ForNames.{own_class}
use Rattle.jsx_names.proofs.Turns.{for_turn, for_in_turn, for_of_turn}
use Rattle.jsx_names.proofs.OwnClashes.{function_inner, inner_plain, switch_plain, block_plain, catch_plain, class_plain, own_plain}
use Rattle.jsx_names.proofs.Unheaded.{is_caught_place, is_code_arrow, is_known, heads_append, heads_tree}

-- two lists of scopes in which each name is bound alike
pub record Sees (xs ys : List Scope) : Type 0 where
  pub sees' : (x : Text) → lookup x xs ≡ lookup x ys

abbrev scoped : Path → Bool → List Declaration → Scope
scoped p o ds = record { node' = p; own = o; names = ds }

both_see : (p : Path) (o : Bool) (ds es : List Declaration) (xs ys : List Scope) → ds ≡ es → Sees xs ys → Sees (scoped p o ds ∷ xs) (scoped p o es ∷ ys)
both_see p o ds es xs ys e s = record { sees' = λ x. ap (λ d. cond (is_declared x d) (Bound p o x) (lookup x xs)) e ∙ ap (λ z. cond (is_declared x es) (Bound p o x) z) (s.sees' x) }

none_sees : (p : Path) (o : Bool) (es : List Declaration) (xs ys : List Scope) → es ≡ [] → Sees xs ys → Sees xs (scoped p o es ∷ ys)
none_sees p o es xs ys e s = record { sees' = λ x. s.sees' x ∙ sym (ap (λ d. cond (is_declared x d) (Bound p o x) (lookup x ys)) e) }

-- ours: no scope, one of the node, one of its own name
see_none : (q k : Kind) (p : Path) (cs : Forest) (c : Nonterminal) (xs ss : List Scope) → seen q k p cs c ≡ [] → own_name q k p cs ≡ [] → Sees xs ss → Sees xs (inside q k p cs c ss)
see_none q k p cs c xs ss a b s = none_sees p false (seen q k p cs c) xs (scoped p true (own_name q k p cs) ∷ ss) a (none_sees p true (own_name q k p cs) xs ss b s)

see_one : (q k : Kind) (p : Path) (cs : Forest) (c : Nonterminal) (ds : List Declaration) (xs ss : List Scope) → ds ≡ seen q k p cs c → own_name q k p cs ≡ [] → Sees xs ss → Sees (scoped p false ds ∷ xs) (inside q k p cs c ss)
see_one q k p cs c ds xs ss a b s = both_see p false ds (seen q k p cs c) xs (scoped p true (own_name q k p cs) ∷ ss) a (none_sees p true (own_name q k p cs) xs ss b s)

see_own : (q k : Kind) (p : Path) (cs : Forest) (c : Nonterminal) (ds : List Declaration) (xs ss : List Scope) → seen q k p cs c ≡ [] → ds ≡ own_name q k p cs → Sees xs ss → Sees (scoped p true ds ∷ xs) (inside q k p cs c ss)
see_own q k p cs c ds xs ss a b s = none_sees p false (seen q k p cs c) (scoped p true ds ∷ xs) (scoped p true (own_name q k p cs) ∷ ss) a (both_see p true ds (own_name q k p cs) xs ss b s)

-- ---- own names

function_own : (m : Mode) (q : Kind) (p : Path) (cs : Forest) → fill (positions (function FunctionExpr)) cs ≡ true → each_nodes is_proper cs ≡ true → all_of (outer_names m (function FunctionExpr) p cs) ≡ own_name q (function FunctionExpr) p cs
function_own m q p none w h = never w
function_own m q p (part n cs) w h = ap all_of (own_plain m p (part n cs)) ∙ own_function q p n cs w h

class_own : (m : Mode) (q : Kind) (p : Path) (cs : Forest) → is_default q ≡ false → fill (positions (function ClassExpr)) cs ≡ true → each_nodes is_proper cs ≡ true → all_of (outer_names m (function ClassExpr) p cs) ≡ own_name q (function ClassExpr) p cs
class_own m q p none d w h = never w
class_own m q p (part n cs) d w h = ap all_of (class_plain m p (part n cs)) ∙ own_class q p n cs d w h

-- ---- functions

inner_all_names : (m : Mode) (k : Kind) (p : Path) (cs : Forest) → is_function k ≡ true → fill (positions k) cs ≡ true → each_nodes is_proper cs ≡ true → all_of (inner_names m k p cs) ≡ function_names k p 0 (positions k) cs
inner_all_names m k p cs e w h = ap all_of (inner_plain m k p cs e) ∙ functions_names k p cs e w h

code_sees : (k : Kind) (c : Nonterminal) (ds : List Declaration) → is_code k c ≡ true → function_sees k c ds ≡ ds
code_sees k Body ds h = refl
code_sees (expression Arrow) (Expr n) ds h = refl
code_sees (expression BareArrow) (Expr n) ds h = refl
code_sees k c ds h = never h

parameter_sees : (k : Kind) (c : Nonterminal) (ds : List Declaration) → is_parameter k c ≡ true → function_sees k c ds ≡ parameters ds
parameter_sees (expression Arrow) Param ds h = refl
parameter_sees (expression BareArrow) Param ds h = refl
parameter_sees k Param ds h = refl
parameter_sees (expression Arrow) SetterParam ds h = refl
parameter_sees (expression BareArrow) SetterParam ds h = refl
parameter_sees k SetterParam ds h = refl
parameter_sees (expression BareArrow) BindingIdent ds h = refl
parameter_sees (expression BareArrowBlock) BindingIdent ds h = refl
parameter_sees k c ds h = never h

other_sees : (k : Kind) (c : Nonterminal) (ds : List Declaration) → is_code_arrow k ≡ false → is_code k c ≡ false → is_parameter k c ≡ false → function_sees k c ds ≡ []
other_sees k Body ds a x p = never (sym x)
other_sees (expression Arrow) c ds a x p = never (sym a)
other_sees (expression BareArrow) c ds a x p = never (sym a)
other_sees k c ds a x p = ap (λ b. cond b (parameters ds) []) p

function_seen : (q k : Kind) (p : Path) (cs : Forest) (c : Nonterminal) → is_function k ≡ true → seen q k p cs c ≡ function_sees k c (function_names k p 0 (positions k) cs)
function_seen q (statement FunctionDecl) p cs c e = refl
function_seen q (program ExportDefaultFn) p cs c e = refl
function_seen q (function FunctionExpr) p cs c e = refl
function_seen q (function (Method s)) p cs c e = refl
function_seen q (function (Getter s)) p cs c e = refl
function_seen q (function (Setter s)) p cs c e = refl
function_seen q (expression Arrow) p cs c e = refl
function_seen q (expression ArrowBlock) p cs c e = refl
function_seen q (expression BareArrow) p cs c e = refl
function_seen q (expression BareArrowBlock) p cs c e = refl
function_seen q k p cs c e = never e

own_sees : (m : Mode) (q k : Kind) (p : Path) (cs : Forest) (st : List Standing) (ss : List Scope) → is_function k ≡ true → fill (positions k) cs ≡ true → each_nodes is_proper cs ≡ true → Sees (scopes st) ss → Sees (scopes (in_node st m q k p cs)) (scoped p true (own_name q k p cs) ∷ ss)
own_sees m q (function FunctionExpr) p cs st ss e w h s = both_see p true (all_of (outer_names m (function FunctionExpr) p cs)) (own_name q (function FunctionExpr) p cs) (scopes st) ss (function_own m q p cs w h) s
own_sees m q (statement FunctionDecl) p cs st ss e w h s = none_sees p true [] (scopes st) ss refl s
own_sees m q (program ExportDefaultFn) p cs st ss e w h s = none_sees p true [] (scopes st) ss refl s
own_sees m q (function (Method a)) p cs st ss e w h s = none_sees p true [] (scopes st) ss refl s
own_sees m q (function (Getter a)) p cs st ss e w h s = none_sees p true [] (scopes st) ss refl s
own_sees m q (function (Setter a)) p cs st ss e w h s = none_sees p true [] (scopes st) ss refl s
own_sees m q (expression Arrow) p cs st ss e w h s = none_sees p true [] (scopes st) ss refl s
own_sees m q (expression ArrowBlock) p cs st ss e w h s = none_sees p true [] (scopes st) ss refl s
own_sees m q (expression BareArrow) p cs st ss e w h s = none_sees p true [] (scopes st) ss refl s
own_sees m q (expression BareArrowBlock) p cs st ss e w h s = none_sees p true [] (scopes st) ss refl s
own_sees m q k p cs st ss e w h s = never e

function_frame : (k : Kind) → is_function k ≡ true → inner k ≡ OfFunction
function_frame (statement Switch) e = never e
function_frame k e = refl

function_scope : (k : Kind) → is_function k ≡ true → has_scope k ≡ true
function_scope (statement Switch) e = refl
function_scope k e = e

or_true : (a b : Bool) → b ≡ true → a || b ≡ true
or_true true b h = refl
or_true false b h = h

function_behind : (k : Kind) (c : Nonterminal) → is_function k ≡ true → is_parameter k c || is_code k c ≡ true → is_behind k c ≡ is_code k c
function_behind k BlockOnly e h = never h
function_behind k c e h = ap (λ b. b && is_code k c) (or_true (is_catch k) (is_function k) e)

-- the scopes round an inner part: behind the head all is seen, before it the parameters
function_state : (b d : Bool) (k : Kind) (p : Path) (ns : List Named) (st : List Standing) → d ≡ b → is_function k ≡ true → scopes (enter d (stand (has_scope k) (inner k) p ns st)) ≡ scoped p false (cond b (all_of ns) (parameters (all_of ns))) ∷ scopes st
function_state b d k p ns st e f =
    ap (λ z. scopes (enter z (stand (has_scope k) (inner k) p ns st))) e
    ∙ ap (λ z. scopes (enter b (stand z (inner k) p ns st))) (function_scope k f)
    ∙ ap (λ z. scopes (enter b (opened z p ns ∷ st))) (function_frame k f)
    ∙ by_head b
  where
    by_head : (z : Bool) → scopes (enter z (opened OfFunction p ns ∷ st)) ≡ scoped p false (cond z (all_of ns) (parameters (all_of ns))) ∷ scopes st
    by_head true = refl
    by_head false = refl

or_first : (a b : Bool) → a || b ≡ true → b ≡ false → a ≡ true
or_first true b h e = refl
or_first false b h e = never (sym e ∙ h)

function_inside : (m : Mode) (q k : Kind) (c : Nonterminal) (p : Path) (cs : Forest) (st : List Standing) (ss : List Scope) → is_function k ≡ true → is_inner k c ≡ true → fill (positions k) cs ≡ true → each_nodes is_proper cs ≡ true → Sees (scopes st) ss
    → Sees (scopes (enter (is_behind k c) (stand (has_scope k) (inner k) p (inner_names m k p cs) (in_node st m q k p cs)))) (inside q k p cs c ss)
function_inside m q k c p cs st ss e i w h s =
    subst (λ z. Sees z (inside q k p cs c ss)) (sym (function_state (is_code k c) (is_behind k c) k p (inner_names m k p cs) (in_node st m q k p cs) (function_behind k c e (function_inner k c e i)) e))
    (both_see p false (cond (is_code k c) (all_of (inner_names m k p cs)) (parameters (all_of (inner_names m k p cs)))) (seen q k p cs c) (scopes (in_node st m q k p cs)) (scoped p true (own_name q k p cs) ∷ ss)
    (ap (λ z. cond (is_code k c) z (parameters z)) (inner_all_names m k p cs e w h) ∙ by_code (is_code k c) refl ∙ sym (function_seen q k p cs c e))
    (own_sees m q k p cs st ss e w h s))
  where
    by_code : (b : Bool) → is_code k c ≡ b → cond b (function_names k p 0 (positions k) cs) (parameters (function_names k p 0 (positions k) cs)) ≡ function_sees k c (function_names k p 0 (positions k) cs)
    by_code true x = sym (code_sees k c (function_names k p 0 (positions k) cs) x)
    by_code false x = sym (parameter_sees k c (function_names k p 0 (positions k) cs) (or_first (is_parameter k c) (is_code k c) (function_inner k c e i) x))

not_known : (b c : Bool) → (not b || c) ≡ true → c ≡ false → b ≡ false
not_known true c h e = never (sym e ∙ h)
not_known false c h e = refl

either_none : (a b c : Bool) → not c || (a || b) ≡ false → c ≡ true → a || b ≡ false
either_none a b true h e = h
either_none a b false h e = never e

outer_other : (k : Kind) (c : Nonterminal) → is_function k ≡ true → is_inner k c ≡ false → is_parameter k c || is_code k c ≡ false
outer_other (statement Switch) c e x = never e
outer_other k c e x = either_none (is_parameter k c) (is_code k c) (is_function k) x e

none_one : (a b : Bool) → a || b ≡ false → a ≡ false
none_one false b h = refl
none_one true b h = h

none_two : (a b : Bool) → a || b ≡ false → b ≡ false
none_two false b h = h
none_two true b h = never (sym h)

function_outside : (m : Mode) (q k : Kind) (c : Nonterminal) (p : Path) (cs : Forest) (st : List Standing) (ss : List Scope) → is_function k ≡ true → is_known k c ≡ true → is_inner k c ≡ false → fill (positions k) cs ≡ true → each_nodes is_proper cs ≡ true → Sees (scopes st) ss
    → Sees (scopes (in_node st m q k p cs)) (inside q k p cs c ss)
function_outside m q k c p cs st ss e n i w h s =
    none_sees p false (seen q k p cs c) (scopes (in_node st m q k p cs)) (scoped p true (own_name q k p cs) ∷ ss)
    (function_seen q k p cs c e ∙ other_sees k c (function_names k p 0 (positions k) cs)
    (not_known (is_code_arrow k) (is_inner k c) (and_right (not (is_catch k) || is_caught_place c) (not (is_code_arrow k) || is_inner k c) n) i)
    (none_two (is_parameter k c) (is_code k c) (outer_other k c e i)) (none_one (is_parameter k c) (is_code k c) (outer_other k c e i)))
    (own_sees m q k p cs st ss e w h s)

-- ---- catch clauses

heads_flagged : (ds : List Declaration) → heads_of (flagged InHead ds) ≡ ds
heads_flagged [] = refl
heads_flagged (d ∷ ds) = ap (λ z. d ∷ z) (heads_flagged ds)

catch_head : (m : Mode) (p : Path) (a b : Tree) → fill (positions (statement Catch)) (part a (part b none)) ≡ true → each_nodes is_proper (part a (part b none)) ≡ true → heads_of (outer_names m (statement Catch) p (part a (part b none))) ≡ bound AsLexical (below p 0) a
catch_head m p a b w h =
    heads_append (given (Binds' InHead AsLexical) k (below p 0) a) (given Plain k (below p 1) b ++ [])
    ∙ ap (λ z. heads_of (given (Binds' InHead AsLexical) k (below p 0) a) ++ heads_of z) (append-nil (given Plain k (below p 1) b))
    ∙ ap (λ z. heads_of (given (Binds' InHead AsLexical) k (below p 0) a) ++ z) (heads_tree Plain k (below p 1) b refl)
    ∙ append-nil (heads_of (given (Binds' InHead AsLexical) k (below p 0) a))
    ∙ ap heads_of (bound_tree InHead AsLexical k (below p 0) a (form_tied Maybe (Pat Binds) a refl (and_left (has_form Maybe (Pat Binds) a) (stands BlockOnly b && true) w)) (and_left (each_node is_proper a) (each_node is_proper b && true) h))
    ∙ heads_flagged (bound AsLexical (below p 0) a)
  where
    k : Kind
    k = statement Catch

caught_inside : (m : Mode) (q : Kind) (c : Nonterminal) (p : Path) (cs : Forest) (st : List Standing) (ss : List Scope) → is_caught_place c ≡ true → fill (positions (statement Catch)) cs ≡ true → each_nodes is_proper cs ≡ true → Sees (scopes st) ss
    → Sees (scopes (enter (is_behind (statement Catch) c) (in_node st m q (statement Catch) p cs))) (inside q (statement Catch) p cs c ss)
caught_inside m q c p none st ss n w h s = never w
caught_inside m q c p (part a none) st ss n w h s = never (and_right (has_form Maybe (Pat Binds) a) false w)
caught_inside m q c p (part a (part b (part d ds))) st ss n w h s = never (and_right (stands BlockOnly b) false (and_right (has_form Maybe (Pat Binds) a) (stands BlockOnly b && false) w))
caught_inside m q (Pat Binds) p (part a (part b none)) st ss n w h s =
    see_one q (statement Catch) p (part a (part b none)) (Pat Binds) (heads_of (outer_names m (statement Catch) p (part a (part b none)))) (scopes st) ss (catch_head m p a b w h) refl s
caught_inside m q BlockOnly p (part a (part b none)) st ss n w h s =
    see_one q (statement Catch) p (part a (part b none)) BlockOnly (without_vars (all_of (outer_names m (statement Catch) p (part a (part b none))))) (scopes st) ss
    (ap (λ z. without_vars (all_of z)) (catch_plain m p (part a (part b none))) ∙ ap without_vars (caught_names q p (part a (part b none)) w h)) refl s
caught_inside m q c p (part a (part b none)) st ss n w h s = never n

-- ---- the others

module_plain : (m : Mode) (p : Path) (cs : Forest) → outer_names m (program Module) p cs ≡ outer_names Plain (program Module) p cs
module_plain m p none = refl
module_plain m p (part a none) = refl
module_plain m p (part a (part b cs)) = refl

script_plain : (m : Mode) (p : Path) (cs : Forest) → outer_names m (program Script) p cs ≡ outer_names Plain (program Script) p cs
script_plain m p none = refl
script_plain m p (part a none) = refl
script_plain m p (part a (part b cs)) = refl

block_inside : (m : Mode) (q : Kind) (c : Nonterminal) (p : Path) (cs : Forest) (st : List Standing) (ss : List Scope) (b : Bool) → is_catch q ≡ b → fill (positions (statement Block)) cs ≡ true → each_nodes is_proper cs ≡ true → Sees (scopes st) ss
    → Sees (scopes (stand (not b) OfBlock p (outer_names m (statement Block) p cs) st)) (inside q (statement Block) p cs c ss)
block_inside m q c p cs st ss true e w h s = see_none q (statement Block) p cs c (scopes st) ss (ap (λ b. without_vars (cond b [] (listed p 0 (positions (statement Block)) cs))) e) refl s
block_inside m q c p cs st ss false e w h s =
    see_one q (statement Block) p cs c (without_vars (all_of (outer_names m (statement Block) p cs))) (scopes st) ss
    (ap (λ z. without_vars (all_of z)) (block_plain m p cs) ∙ ap without_vars (block_names q p cs e w h)) refl s

class_inside : (m : Mode) (q : Kind) (c : Nonterminal) (p : Path) (cs : Forest) (st : List Standing) (ss : List Scope) → is_default q ≡ false → is_scope q (function ClassExpr) ≡ true → fill (positions (function ClassExpr)) cs ≡ true → each_nodes is_proper cs ≡ true → Sees (scopes st) ss
    → Sees (scopes (stand (is_scope q (function ClassExpr)) OfName p (outer_names m (function ClassExpr) p cs) st)) (inside q (function ClassExpr) p cs c ss)
class_inside m q c p cs st ss d e w h s =
    subst (λ b. Sees (scopes (stand b OfName p (outer_names m (function ClassExpr) p cs) st)) (inside q (function ClassExpr) p cs c ss)) (sym e)
    (see_own q (function ClassExpr) p cs c (all_of (outer_names m (function ClassExpr) p cs)) (scopes st) ss refl (class_own m q p cs d w h) s)

pub part_inside : (m : Mode) (q k : Kind) (c : Nonterminal) (p : Path) (cs : Forest) (st : List Standing) (ss : List Scope) → is_known k c ≡ true → is_inner k c ≡ true → fill (positions k) cs ≡ true → each_nodes is_proper cs ≡ true → Sees (scopes st) ss
    → Sees (scopes (enter (is_behind k c) (stand (has_scope k) (inner k) p (inner_names m k p cs) (in_node st m q k p cs)))) (inside q k p cs c ss)
part_inside m q (program Module) c p cs st ss n i w h s = see_one q (program Module) p cs c (all_of (outer_names m (program Module) p cs)) (scopes st) ss (ap all_of (module_plain m p cs) ∙ module_names q p cs w h) refl s
part_inside m q (program Script) c p cs st ss n i w h s = see_one q (program Script) p cs c (all_of (outer_names m (program Script) p cs)) (scopes st) ss (ap all_of (script_plain m p cs) ∙ script_names q p cs w h) refl s
part_inside m q (program ExportDefaultFn) c p cs st ss n i w h s = function_inside m q (program ExportDefaultFn) c p cs st ss refl i w h s
part_inside m q (statement Block) c p cs st ss n i w h s = block_inside m q c p cs st ss (is_catch q) refl w h s
part_inside m q (statement For) c p cs st ss n i w h s = see_one q (statement For) p cs c (without_vars (all_of (outer_names m (statement For) p cs))) (scopes st) ss (for_turn m q p cs w h).lasting refl s
part_inside m q (statement ForIn) c p cs st ss n i w h s = see_one q (statement ForIn) p cs c (without_vars (all_of (outer_names m (statement ForIn) p cs))) (scopes st) ss (for_in_turn m q p cs w h).lasting refl s
part_inside m q (statement ForOf) c p cs st ss n i w h s = see_one q (statement ForOf) p cs c (without_vars (all_of (outer_names m (statement ForOf) p cs))) (scopes st) ss (for_of_turn m q p cs w h).lasting refl s
part_inside m q (statement Switch) CaseClause p cs st ss n i w h s =
    see_one q (statement Switch) p cs CaseClause (without_vars (all_of (inner_names m (statement Switch) p cs))) (scopes st) ss
    (ap (λ z. without_vars (all_of z)) (switch_plain m p cs) ∙ ap without_vars (switch_names q p cs w h)) refl s
part_inside m q (statement Switch) c p cs st ss n i w h s = never i
part_inside m q (statement FunctionDecl) c p cs st ss n i w h s = function_inside m q (statement FunctionDecl) c p cs st ss refl i w h s
part_inside m q (statement Catch) c p cs st ss n i w h s = caught_inside m q c p cs st ss (and_left (is_caught_place c) true n) w h s
part_inside m q (function FunctionExpr) c p cs st ss n i w h s = function_inside m q (function FunctionExpr) c p cs st ss refl i w h s
part_inside m (program ExportDefaultClass) (function ClassExpr) c p cs st ss n i w h s = see_none (program ExportDefaultClass) (function ClassExpr) p cs c (scopes st) ss refl refl s
part_inside m q (function ClassExpr) c p cs st ss n i w h s = class_inside m q c p cs st ss refl refl w h s
part_inside m q (function (Method a)) c p cs st ss n i w h s = function_inside m q (function (Method a)) c p cs st ss refl i w h s
part_inside m q (function (Getter a)) c p cs st ss n i w h s = function_inside m q (function (Getter a)) c p cs st ss refl i w h s
part_inside m q (function (Setter a)) c p cs st ss n i w h s = function_inside m q (function (Setter a)) c p cs st ss refl i w h s
part_inside m q (expression Arrow) c p cs st ss n i w h s = function_inside m q (expression Arrow) c p cs st ss refl i w h s
part_inside m q (expression ArrowBlock) c p cs st ss n i w h s = function_inside m q (expression ArrowBlock) c p cs st ss refl i w h s
part_inside m q (expression BareArrow) c p cs st ss n i w h s = function_inside m q (expression BareArrow) c p cs st ss refl i w h s
part_inside m q (expression BareArrowBlock) c p cs st ss n i w h s = function_inside m q (expression BareArrowBlock) c p cs st ss refl i w h s
part_inside m q k c p cs st ss n i w h s = see_none q k p cs c (scopes st) ss refl refl s

pub part_outside : (m : Mode) (q k : Kind) (c : Nonterminal) (p : Path) (cs : Forest) (st : List Standing) (ss : List Scope) → is_known k c ≡ true → is_inner k c ≡ false → fill (positions k) cs ≡ true → each_nodes is_proper cs ≡ true → Sees (scopes st) ss
    → Sees (scopes (in_node st m q k p cs)) (inside q k p cs c ss)
part_outside m q (program ExportDefaultFn) c p cs st ss n i w h s = function_outside m q (program ExportDefaultFn) c p cs st ss refl n i w h s
part_outside m q (statement Switch) CaseClause p cs st ss n i w h s = never (sym i)
part_outside m q (statement Switch) c p cs st ss n i w h s = see_none q (statement Switch) p cs c (scopes st) ss refl refl s
part_outside m q (statement FunctionDecl) c p cs st ss n i w h s = function_outside m q (statement FunctionDecl) c p cs st ss refl n i w h s
part_outside m q (function FunctionExpr) c p cs st ss n i w h s = function_outside m q (function FunctionExpr) c p cs st ss refl n i w h s
part_outside m q (function (Method a)) c p cs st ss n i w h s = function_outside m q (function (Method a)) c p cs st ss refl n i w h s
part_outside m q (function (Getter a)) c p cs st ss n i w h s = function_outside m q (function (Getter a)) c p cs st ss refl n i w h s
part_outside m q (function (Setter a)) c p cs st ss n i w h s = function_outside m q (function (Setter a)) c p cs st ss refl n i w h s
part_outside m q (expression Arrow) c p cs st ss n i w h s = function_outside m q (expression Arrow) c p cs st ss refl n i w h s
part_outside m q (expression ArrowBlock) c p cs st ss n i w h s = function_outside m q (expression ArrowBlock) c p cs st ss refl n i w h s
part_outside m q (expression BareArrow) c p cs st ss n i w h s = function_outside m q (expression BareArrow) c p cs st ss refl n i w h s
part_outside m q (expression BareArrowBlock) c p cs st ss n i w h s = function_outside m q (expression BareArrowBlock) c p cs st ss refl n i w h s
part_outside m q k c p cs st ss n i w h s = never (sym i)
