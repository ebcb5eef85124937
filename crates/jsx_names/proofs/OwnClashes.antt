-- The clashes in the scopes of a node by its events are those of the definitions.
use Rattle.std.proofs.Common.{◌≡◌, ℕ, suc, List, [], ◌∷◌, ◌++◌, Bool, true, false, cond, ◌||◌, not, refl, sym, ap, ◌∙◌, append-nil}
use Rattle.jsx_base.specs.Token.{IdentifierName}
use Rattle.jsx_tree.specs.Kinds.{Module, Script, Import, ExportDefaultFn, ExportDefaultClass, Block, For, ForIn, ForOf, Switch, Catch, FunctionDecl, FunctionExpr, ClassExpr, Method, Getter, Setter, Arrow, ArrowBlock, BareArrow, BareArrowBlock, Kind, program, statement, function, expression, Tree, leaf, node, list, Forest, none, part}
use Rattle.jsx_tree.specs.Nonterminals.{Nonterminal, Expr, BindingIdent, Body}
use Rattle.jsx_tree.specs.Form.{Maybe, Position, position, positions}
use Rattle.jsx_tree.specs.Sound.{each_nodes}
use Rattle.jsx_tree.specs.Scopes.{Path, below, AsLexical, Declaration, bound, listed, is_function, is_parameter, function_names, is_catch}
use Rattle.jsx_tree.specs.Clashes.{later, own_clashes}
use Rattle.jsx_tree.proofs.Tokens.{and_left}
use Rattle.jsx_names.specs.Events.{OfBlock, Mode, Plain, mode, is_scope, frame, has_scope, inner, is_code, is_inner}
use Rattle.jsx_names.specs.Answers.{all_of}
use Rattle.jsx_names.specs.Given.{given, given_parts}
use Rattle.jsx_names.specs.Resolved.{inner_names, outer_names, within}
use Rattle.jsx_names.specs.Proper.{is_program, stands, has_form, fill, is_proper}
use Rattle.jsx_names.proofs.ScopeNames.{never, param_mode, block_names, switch_names, functions_names, own_function, caught_names}
use Rattle.jsx_names.proofs.ForNames.{own_class}
use Rattle.jsx_names.proofs.Turns.{for_turn, for_in_turn, for_of_turn}

-- ---- what a node declares in its scopes doesn't hang on how names are bound around it

pub body_mode : (m : Mode) (k : Kind) → mode m k Body ≡ Plain
body_mode m (program Import) = refl
body_mode m (statement FunctionDecl) = refl
body_mode m (function FunctionExpr) = refl
body_mode m k = refl

code_plain : (m : Mode) (k : Kind) (c : Nonterminal) → is_code k c ≡ true → mode m k c ≡ Plain
code_plain m k Body h = body_mode m k
code_plain m (expression Arrow) (Expr n) h = refl
code_plain m (expression BareArrow) (Expr n) h = refl
code_plain m k c h = never h

or_other : (a b : Bool) → a ≡ false → a || b ≡ true → b ≡ true
or_other false b e h = h
or_other true b e h = never (sym e)

pub function_inner : (k : Kind) (c : Nonterminal) → is_function k ≡ true → is_inner k c ≡ true → is_parameter k c || is_code k c ≡ true
function_inner (statement Switch) c e h = never e
function_inner k c e h = sym (ap (λ b. not b || (is_parameter k c || is_code k c)) e) ∙ h

pub inner_mode : (m : Mode) (k : Kind) (c : Nonterminal) → is_function k ≡ true → is_inner k c ≡ true → mode m k c ≡ mode Plain k c
inner_mode m k c e h = go (is_parameter k c) refl
  where
    go : (b : Bool) → is_parameter k c ≡ b → mode m k c ≡ mode Plain k c
    go true x = param_mode k c m e x ∙ sym (param_mode k c Plain e x)
    go false x =
        let code : is_code k c ≡ true = or_other (is_parameter k c) (is_code k c) x (function_inner k c e h) in
        code_plain m k c code ∙ sym (code_plain Plain k c code)

same_given : (m : Mode) (k : Kind) (c : Nonterminal) (p : Path) (t : Tree) (b : Bool) → is_function k ≡ true → is_inner k c ≡ b → cond b (given (mode m k c) k p t) [] ≡ cond b (given (mode Plain k c) k p t) []
same_given m k c p t true e x = ap (λ z. given z k p t) (inner_mode m k c e x)
same_given m k c p t false e x = refl

inner_parts : (m : Mode) (k : Kind) (p : Path) (i : ℕ) (ss : List Position) (cs : Forest) → is_function k ≡ true → given_parts true m k p i ss cs ≡ given_parts true Plain k p i ss cs
inner_parts m k p i [] cs e = refl
inner_parts m k p i (s ∷ ss) none e = refl
inner_parts m k p i (position f c g o a ∷ ss) (part t ts) e =
    ap (λ z. z ++ given_parts true m k p (suc i) ss ts) (same_given m k c (below p i) t (is_inner k c) e refl)
    ∙ ap (λ z. cond (is_inner k c) (given (mode Plain k c) k (below p i) t) [] ++ z) (inner_parts m k p (suc i) ss ts e)

pub inner_plain : (m : Mode) (k : Kind) (p : Path) (cs : Forest) → is_function k ≡ true → inner_names m k p cs ≡ inner_names Plain k p cs
inner_plain m k p cs e = inner_parts m k p 0 (positions k) cs e

pub switch_plain : (m : Mode) (p : Path) (cs : Forest) → inner_names m (statement Switch) p cs ≡ inner_names Plain (statement Switch) p cs
switch_plain m p none = refl
switch_plain m p (part a none) = refl
switch_plain m p (part a (part b cs)) = refl

pub block_plain : (m : Mode) (p : Path) (cs : Forest) → outer_names m (statement Block) p cs ≡ outer_names Plain (statement Block) p cs
block_plain m p none = refl
block_plain m p (part a cs) = refl

pub catch_plain : (m : Mode) (p : Path) (cs : Forest) → outer_names m (statement Catch) p cs ≡ outer_names Plain (statement Catch) p cs
catch_plain m p none = refl
catch_plain m p (part a none) = refl
catch_plain m p (part a (part b cs)) = refl

pub class_plain : (m : Mode) (p : Path) (cs : Forest) → outer_names m (function ClassExpr) p cs ≡ outer_names Plain (function ClassExpr) p cs
class_plain m p none = refl
class_plain m p (part a none) = refl
class_plain m p (part a (part b none)) = refl
class_plain m p (part a (part b (part c cs))) = refl

pub own_plain : (m : Mode) (p : Path) (cs : Forest) → outer_names m (function FunctionExpr) p cs ≡ outer_names Plain (function FunctionExpr) p cs
own_plain m p none = refl
own_plain m p (part a none) = refl
own_plain m p (part a (part b none)) = refl
own_plain m p (part a (part b (part c cs))) = refl

-- ---- own names: one name at most

single_late : (p : Path) (t : Tree) (ds : List Declaration) → ds ≡ bound AsLexical p t → stands BindingIdent t ≡ true → later false [] ds ≡ []
single_late p (leaf IdentifierName x) ds e h = ap (later false []) e
single_late p (leaf k x) ds e h = ap (later false []) e
single_late p (list ts) ds e h = never h
single_late p (node k cs) ds e h = never h

own_late : (p : Path) (t : Tree) (ds : List Declaration) → ds ≡ bound AsLexical p t → has_form Maybe BindingIdent t ≡ true → later false [] ds ≡ []
own_late p (list none) ds e h = ap (later false []) e
own_late p (list (part t none)) ds e h = single_late (below p 0) t ds (e ∙ append-nil (bound AsLexical (below p 0) t)) (and_left (stands BindingIdent t) true h)
own_late p (list (part t (part u us))) ds e h = never h
own_late p (leaf s x) ds e h = never h
own_late p (node k cs) ds e h = never h

own_function_late : (m : Mode) (p : Path) (cs : Forest) → fill (positions (function FunctionExpr)) cs ≡ true → each_nodes is_proper cs ≡ true → later false [] (all_of (outer_names m (function FunctionExpr) p cs)) ≡ []
own_function_late m p none w h = never w
own_function_late m p (part n cs) w h =
    own_late (below p 0) n (all_of (outer_names m (function FunctionExpr) p (part n cs)))
    (ap all_of (own_plain m p (part n cs)) ∙ own_function (statement Block) p n cs w h)
    (and_left (has_form Maybe BindingIdent n) _ w)

own_class_late : (m : Mode) (p : Path) (cs : Forest) → fill (positions (function ClassExpr)) cs ≡ true → each_nodes is_proper cs ≡ true → later false [] (all_of (outer_names m (function ClassExpr) p cs)) ≡ []
own_class_late m p none w h = never w
own_class_late m p (part n cs) w h =
    own_late (below p 0) n (all_of (outer_names m (function ClassExpr) p (part n cs)))
    (ap all_of (class_plain m p (part n cs)) ∙ own_class (statement Block) p n cs refl w h)
    (and_left (has_form Maybe BindingIdent n) _ w)

-- ---- the inner scope

function_late : (m : Mode) (k : Kind) (p : Path) (cs : Forest) → is_function k ≡ true → fill (positions k) cs ≡ true → each_nodes is_proper cs ≡ true → later true [] (all_of (inner_names m k p cs)) ≡ later true [] (function_names k p 0 (positions k) cs)
function_late m k p cs e w h = ap (later true []) (ap all_of (inner_plain m k p cs e) ∙ functions_names k p cs e w h)

pub inner_late : (m : Mode) (q k : Kind) (p : Path) (cs : Forest) → has_scope k ≡ true → fill (positions k) cs ≡ true → each_nodes is_proper cs ≡ true → within (has_scope k) (inner k) (inner_names m k p cs) ≡ own_clashes q k p cs
inner_late m q (statement Switch) p cs e w h = ap (later false []) (ap all_of (switch_plain m p cs) ∙ switch_names q p cs w h)
inner_late m q (statement FunctionDecl) p cs e w h = function_late m (statement FunctionDecl) p cs refl w h
inner_late m q (program ExportDefaultFn) p cs e w h = function_late m (program ExportDefaultFn) p cs refl w h
inner_late m q (function FunctionExpr) p cs e w h = function_late m (function FunctionExpr) p cs refl w h
inner_late m q (function (Method s)) p cs e w h = function_late m (function (Method s)) p cs refl w h
inner_late m q (function (Getter s)) p cs e w h = function_late m (function (Getter s)) p cs refl w h
inner_late m q (function (Setter s)) p cs e w h = function_late m (function (Setter s)) p cs refl w h
inner_late m q (expression Arrow) p cs e w h = function_late m (expression Arrow) p cs refl w h
inner_late m q (expression ArrowBlock) p cs e w h = function_late m (expression ArrowBlock) p cs refl w h
inner_late m q (expression BareArrow) p cs e w h = function_late m (expression BareArrow) p cs refl w h
inner_late m q (expression BareArrowBlock) p cs e w h = function_late m (expression BareArrowBlock) p cs refl w h
inner_late m q k p cs e w h = never e

-- the scope round the whole node is then that of an own name
pub outer_none : (m : Mode) (q k : Kind) (p : Path) (cs : Forest) → has_scope k ≡ true → fill (positions k) cs ≡ true → each_nodes is_proper cs ≡ true → within (is_scope q k) (frame k) (outer_names m k p cs) ≡ []
outer_none m q (function FunctionExpr) p cs e w h = own_function_late m p cs w h
outer_none m q (statement Switch) p cs e w h = refl
outer_none m q (statement FunctionDecl) p cs e w h = refl
outer_none m q (program ExportDefaultFn) p cs e w h = refl
outer_none m q (function (Method s)) p cs e w h = refl
outer_none m q (function (Getter s)) p cs e w h = refl
outer_none m q (function (Setter s)) p cs e w h = refl
outer_none m q (expression k) p cs e w h = refl
outer_none m q k p cs e w h = never e

-- ---- the scope of a node that has no inner one

block_late : (m : Mode) (q : Kind) (p : Path) (cs : Forest) (b : Bool) → is_catch q ≡ b → fill (positions (statement Block)) cs ≡ true → each_nodes is_proper cs ≡ true → within (not b) OfBlock (outer_names m (statement Block) p cs) ≡ later false [] (cond b [] (listed p 0 (positions (statement Block)) cs))
block_late m q p cs true e w h = refl
block_late m q p cs false e w h = ap (later false []) (ap all_of (block_plain m p cs) ∙ block_names q p cs e w h ∙ ap (λ b. cond b [] (listed p 0 (positions (statement Block)) cs)) e)

pub outer_late : (m : Mode) (q k : Kind) (p : Path) (cs : Forest) → is_program k ≡ false → has_scope k ≡ false → fill (positions k) cs ≡ true → each_nodes is_proper cs ≡ true → within (is_scope q k) (frame k) (outer_names m k p cs) ≡ own_clashes q k p cs
outer_late m q (program Module) p cs o e w h = never (sym o)
outer_late m q (program Script) p cs o e w h = never (sym o)
outer_late m q (program ExportDefaultFn) p cs o e w h = never (sym e)
outer_late m q (statement Block) p cs o e w h = block_late m q p cs (is_catch q) refl w h
outer_late m q (statement For) p cs o e w h = (for_turn m q p cs w h).clashes
outer_late m q (statement ForIn) p cs o e w h = (for_in_turn m q p cs w h).clashes
outer_late m q (statement ForOf) p cs o e w h = (for_of_turn m q p cs w h).clashes
outer_late m q (statement Switch) p cs o e w h = never (sym e)
outer_late m q (statement FunctionDecl) p cs o e w h = never (sym e)
outer_late m q (statement Catch) p cs o e w h = ap (later false []) (ap all_of (catch_plain m p cs) ∙ caught_names q p cs w h)
outer_late m q (function FunctionExpr) p cs o e w h = never (sym e)
outer_late m q (function (Method s)) p cs o e w h = never (sym e)
outer_late m q (function (Getter s)) p cs o e w h = never (sym e)
outer_late m q (function (Setter s)) p cs o e w h = never (sym e)
outer_late m (program ExportDefaultClass) (function ClassExpr) p cs o e w h = refl
outer_late m q (function ClassExpr) p cs o e w h = own_class_late m p cs w h
outer_late m q (expression Arrow) p cs o e w h = never (sym e)
outer_late m q (expression ArrowBlock) p cs o e w h = never (sym e)
outer_late m q (expression BareArrow) p cs o e w h = never (sym e)
outer_late m q (expression BareArrowBlock) p cs o e w h = never (sym e)
outer_late m q k p cs o e w h = refl
