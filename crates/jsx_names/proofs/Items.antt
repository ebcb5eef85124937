-- Item by item: what a module exports, and the names that it must declare.
use Rattle.std.proofs.Common.{◌≡◌, ℕ, suc, List, [], ◌∷◌, ◌++◌, Bool, true, false, cond, ◌&&◌, refl, sym, ap, ◌∙◌, append-nil, subst}
use Rattle.jsx_base.specs.Token.{IdentifierName}
use Rattle.jsx_tree.specs.Kinds.{Exported, From, Module, Script, FunctionBody, Directive, ImportAll, ImportList, ImportBoth, ImportBare, Import, ExportAll, Specifier, SpecifierAs, ExportNames, ExportFrom, ExportAllAs, ExportDecl, ExportDefaultFn, ExportDefaultClass, ExportDefaultExpr, Var, FunctionDecl, ClassDecl, Kind, program, statement, Tree, leaf, node, list, Forest, none, part}
use Rattle.jsx_tree.specs.Nonterminals.{Nonterminal, Ident, BindingIdent, Name, Declarators, StringOnly, Item, Declaration, Specifiers}
use Rattle.jsx_tree.specs.Grammar.{NoTrailing}
use Rattle.jsx_tree.specs.Form.{Single, Several, Position, position, positions}
use Rattle.jsx_tree.specs.Sound.{each_node, each_nodes}
use Rattle.jsx_tree.specs.Scopes.{Path, below, AsFunction, AsLexical, sort_of, bound, is_declared, declares}
use Rattle.jsx_tree.specs.Scopes.{Declaration as Declared}
use Rattle.jsx_tree.specs.Clashes.{Place, AtName, Export, export_name, export_specifier, export_specifiers, export_each, exports, exports_each, undeclared, undeclared_each, undeclared_in, undeclared_items}
use Rattle.jsx_tree.proofs.Tokens.{and_left, and_right}
use Rattle.jsx_names.specs.Events.{OfFunction, Event, Plain, Exporting, wanted_here, around, events_below, events_parts, events_each}
use Rattle.jsx_names.specs.Answers.{exported_in, missing}
use Rattle.jsx_names.specs.Proper.{stands, each_stands, has_form, fill, is_proper, is_specifier_of, sided, each_sided, has_sides, sides, is_sided}
use Rattle.jsx_names.proofs.Bound.{form_tied}
use Rattle.jsx_names.proofs.Listed.{tail_of}
use Rattle.jsx_names.proofs.ScopeNames.{never}
use Rattle.jsx_names.proofs.Unspoken.{unspoken, unspoken_append, unspoken_around, is_native, form_native, unspoken_leaf, unspoken_tree, unspoken_parts}
use Rattle.jsx_names.proofs.Exported.{lacking, Says, says_nothing, says_before, says_behind, says_append, says_node, Sends, sends_nothing, sends_append, sends_tree, exported_append, missing_append}

-- ---- specifiers

name_lacks : (ds : List Declared) (p : Path) (n : Tree) → stands Ident n ≡ true → lacking ds (export_name p n) ≡ undeclared ds p n
name_lacks ds p (leaf IdentifierName t) h = append-nil (cond (is_declared t ds) [] (AtName p ∷ []))
name_lacks ds p (leaf k t) h = refl
name_lacks ds p (node k cs) h = never h
name_lacks ds p (list ts) h = never h

specifier_lacks : (ds : List Declared) (p : Path) (k : Kind) (cs : Forest) → is_specifier_of Exported k ≡ true → fill (positions k) cs ≡ true → lacking ds (wanted_here k p cs) ≡ undeclared ds p (node k cs)
specifier_lacks ds p (program (Specifier Exported)) none e w = never w
specifier_lacks ds p (program (Specifier Exported)) (part n us) e w = name_lacks ds (below p 0) n (and_left (stands Ident n) (fill [] us) w)
specifier_lacks ds p (program (SpecifierAs Exported)) none e w = never w
specifier_lacks ds p (program (SpecifierAs Exported)) (part n us) e w = name_lacks ds (below p 0) n (and_left (stands Ident n) (fill (tail_of (positions (program (SpecifierAs Exported)))) us) w)
specifier_lacks ds p k cs e w = never e

-- what an item says by its events, and by the definitions
pub record Tells (es : List Event) (xs : List Export) (p : Path) (f : List Declared → List Place) : Type 0 where
  pub exports' : exported_in es ≡ xs
  pub wants : (ds : List Declared) → missing ds es ≡ f ds

specifier_tells : (q : Kind) (c : Nonterminal) (p : Path) (t : Tree) → sided (Specifiers Exported) t ≡ true → each_node is_proper t ≡ true → each_node is_sided t ≡ true → Tells (events_below Plain q c p t) (export_specifier p t) p (λ ds. undeclared ds p t)
specifier_tells q c p (leaf s x) e h z = never e
specifier_tells q c p (list ts) e h z = never e
specifier_tells q c p (node (program (Specifier Exported)) cs) e h z =
    let k : Kind = program (Specifier Exported) in
    let a = says_node Plain q k c p cs refl refl refl h z in
    record { exports' = a.exports'; wants = λ ds. a.wants ds ∙ specifier_lacks ds p k cs refl (and_left (fill (positions k) cs) (each_nodes is_proper cs) h) }
specifier_tells q c p (node (program (SpecifierAs Exported)) cs) e h z =
    let k : Kind = program (SpecifierAs Exported) in
    let a = says_node Plain q k c p cs refl refl refl h z in
    record { exports' = a.exports'; wants = λ ds. a.wants ds ∙ specifier_lacks ds p k cs refl (and_left (fill (positions k) cs) (each_nodes is_proper cs) h) }
specifier_tells q c p (node k cs) e h z = never e

specifiers_tell : (q : Kind) (c : Nonterminal) (p : Path) (i : ℕ) (ts : Forest) → each_sided (Specifiers Exported) ts ≡ true → each_nodes is_proper ts ≡ true → each_nodes is_sided ts ≡ true → Tells (events_each Plain q c p i ts) (export_specifiers p i ts) p (λ ds. undeclared_each ds p i ts)
specifiers_tell q c p i none e h z = record { exports' = refl; wants = λ ds. refl }
specifiers_tell q c p i (part t ts) e h z =
    let a = specifier_tells q c (below p i) t (and_left (sided (Specifiers Exported) t) (each_sided (Specifiers Exported) ts) e) (and_left (each_node is_proper t) (each_nodes is_proper ts) h) (and_left (each_node is_sided t) (each_nodes is_sided ts) z) in
    let b = specifiers_tell q c p (suc i) ts (and_right (sided (Specifiers Exported) t) (each_sided (Specifiers Exported) ts) e) (and_right (each_node is_proper t) (each_nodes is_proper ts) h) (and_right (each_node is_sided t) (each_nodes is_sided ts) z) in
    record {
      exports' = exported_append (events_below Plain q c (below p i) t) (events_each Plain q c p (suc i) ts) ∙ ap (λ v. v ++ exported_in (events_each Plain q c p (suc i) ts)) a.exports' ∙ ap (λ v. export_specifier (below p i) t ++ v) b.exports';
      wants = λ ds. missing_append ds (events_below Plain q c (below p i) t) (events_each Plain q c p (suc i) ts) ∙ ap (λ v. v ++ missing ds (events_each Plain q c p (suc i) ts)) (a.wants ds) ∙ ap (λ v. undeclared ds (below p i) t ++ v) (b.wants ds);
    }

-- those of `export { .. } from`
sender_tells : (q : Kind) (c : Nonterminal) (p : Path) (t : Tree) → sided (Specifiers From) t ≡ true → each_node is_proper t ≡ true → each_node is_sided t ≡ true → Says (events_below Plain q c p t) (export_specifier p t) []
sender_tells q c p (leaf s x) e h z = never e
sender_tells q c p (list ts) e h z = never e
sender_tells q c p (node (program (Specifier From)) cs) e h z = says_node Plain q (program (Specifier From)) c p cs refl refl refl h z
sender_tells q c p (node (program (SpecifierAs From)) cs) e h z = says_node Plain q (program (SpecifierAs From)) c p cs refl refl refl h z
sender_tells q c p (node k cs) e h z = never e

senders_tell : (q : Kind) (c : Nonterminal) (p : Path) (i : ℕ) (ts : Forest) → each_sided (Specifiers From) ts ≡ true → each_nodes is_proper ts ≡ true → each_nodes is_sided ts ≡ true → Says (events_each Plain q c p i ts) (export_specifiers p i ts) []
senders_tell q c p i none e h z = says_nothing [] refl
senders_tell q c p i (part t ts) e h z =
    says_append
    (sender_tells q c (below p i) t (and_left (sided (Specifiers From) t) (each_sided (Specifiers From) ts) e) (and_left (each_node is_proper t) (each_nodes is_proper ts) h) (and_left (each_node is_sided t) (each_nodes is_sided ts) z))
    (senders_tell q c p (suc i) ts (and_right (sided (Specifiers From) t) (each_sided (Specifiers From) ts) e) (and_right (each_node is_proper t) (each_nodes is_proper ts) h) (and_right (each_node is_sided t) (each_nodes is_sided ts) z))

-- ---- what `export` stands before

string_unspoken : (q : Kind) (p : Path) (s : Tree) → stands StringOnly s ≡ true → unspoken (events_below Plain q StringOnly p s) ≡ true
string_unspoken q p (leaf a x) h = unspoken_leaf Plain q StringOnly p a x refl
string_unspoken q p (node k cs) h = never h
string_unspoken q p (list ts) h = never h

function_sent : (q : Kind) (c : Nonterminal) (p : Path) (n : Tree) (cs : Forest) → each_node is_proper (node (statement FunctionDecl) (part n cs)) ≡ true → each_node is_sided (node (statement FunctionDecl) (part n cs)) ≡ true → Sends (events_below Exporting q c p (node (statement FunctionDecl) (part n cs))) (bound AsFunction (below p 0) n)
function_sent q c p n cs h z = record {
  sends =
      says_before (around true OfFunction p (events_parts true Exporting k p 1 (tail_of (positions k)) cs))
      (says_before (events_parts false Exporting k p 1 (tail_of (positions k)) cs)
      (sends_tree AsFunction k BindingIdent (below p 0) n (form_tied Single BindingIdent n refl w) (form_native Single BindingIdent n refl refl w (and_left (has_sides BindingIdent n) (sides (tail_of (positions k)) cs) s)) (and_left (each_node is_proper n) (each_nodes is_proper cs) hs) (and_left (each_node is_sided n) (each_nodes is_sided cs) zs)).sends
      (rest false))
      (unspoken_around true OfFunction p (events_parts true Exporting k p 1 (tail_of (positions k)) cs) (rest true));
}
  where
    k : Kind
    k = statement FunctionDecl

    f : fill (positions (statement FunctionDecl)) (part n cs) ≡ true
    f = and_left (fill (positions k) (part n cs)) (each_nodes is_proper (part n cs)) h

    hs : each_nodes is_proper (part n cs) ≡ true
    hs = and_right (fill (positions k) (part n cs)) (each_nodes is_proper (part n cs)) h

    s : sides (positions (statement FunctionDecl)) (part n cs) ≡ true
    s = and_left (sides (positions k) (part n cs)) (each_nodes is_sided (part n cs)) z

    zs : each_nodes is_sided (part n cs) ≡ true
    zs = and_right (sides (positions k) (part n cs)) (each_nodes is_sided (part n cs)) z

    w : stands BindingIdent n ≡ true
    w = and_left (stands BindingIdent n) (fill (tail_of (positions k)) cs) f

    rest : (b : Bool) → unspoken (events_parts b Exporting (statement FunctionDecl) p 1 (tail_of (positions (statement FunctionDecl))) cs) ≡ true
    rest b = unspoken_parts b Exporting k p 1 (tail_of (positions k)) cs refl refl refl (and_right (stands BindingIdent n) (fill (tail_of (positions k)) cs) f) (and_right (each_node is_proper n) (each_nodes is_proper cs) hs) (and_right (has_sides BindingIdent n) (sides (tail_of (positions k)) cs) s) (and_right (each_node is_sided n) (each_nodes is_sided cs) zs)

no_outer_class : (p : Path) (i : ℕ) (ss : List Position) (cs : Forest) → (events_parts false Exporting (statement ClassDecl) p i ss cs) ≡ []
no_outer_class p i [] cs = refl
no_outer_class p i (s ∷ ss) none = refl
no_outer_class p i (position f c g o a ∷ ss) (part t ts) = no_outer_class p (suc i) ss ts

class_sent : (q : Kind) (c : Nonterminal) (p : Path) (n : Tree) (cs : Forest) → each_node is_proper (node (statement ClassDecl) (part n cs)) ≡ true → each_node is_sided (node (statement ClassDecl) (part n cs)) ≡ true → Sends (events_below Exporting q c p (node (statement ClassDecl) (part n cs))) (bound AsLexical (below p 0) n)
class_sent q c p n cs h z = record {
  sends =
      says_behind (events_parts false Exporting k p 0 (positions k) (part n cs)) (ap unspoken (no_outer_class p 0 (positions k) (part n cs)))
      (says_before (events_parts true Exporting k p 1 (tail_of (positions k)) cs)
      (sends_tree AsLexical k BindingIdent (below p 0) n (form_tied Single BindingIdent n refl w) (form_native Single BindingIdent n refl refl w (and_left (has_sides BindingIdent n) (sides (tail_of (positions k)) cs) s)) (and_left (each_node is_proper n) (each_nodes is_proper cs) hs) (and_left (each_node is_sided n) (each_nodes is_sided cs) zs)).sends
      rest);
}
  where
    k : Kind
    k = statement ClassDecl

    f : fill (positions (statement ClassDecl)) (part n cs) ≡ true
    f = and_left (fill (positions k) (part n cs)) (each_nodes is_proper (part n cs)) h

    hs : each_nodes is_proper (part n cs) ≡ true
    hs = and_right (fill (positions k) (part n cs)) (each_nodes is_proper (part n cs)) h

    s : sides (positions (statement ClassDecl)) (part n cs) ≡ true
    s = and_left (sides (positions k) (part n cs)) (each_nodes is_sided (part n cs)) z

    zs : each_nodes is_sided (part n cs) ≡ true
    zs = and_right (sides (positions k) (part n cs)) (each_nodes is_sided (part n cs)) z

    w : stands BindingIdent n ≡ true
    w = and_left (stands BindingIdent n) (fill (tail_of (positions k)) cs) f

    rest : unspoken (events_parts true Exporting (statement ClassDecl) p 1 (tail_of (positions (statement ClassDecl))) cs) ≡ true
    rest = unspoken_parts true Exporting k p 1 (tail_of (positions k)) cs refl refl refl (and_right (stands BindingIdent n) (fill (tail_of (positions k)) cs) f) (and_right (each_node is_proper n) (each_nodes is_proper cs) hs) (and_right (has_sides BindingIdent n) (sides (tail_of (positions k)) cs) s) (and_right (each_node is_sided n) (each_nodes is_sided cs) zs)

-- a declaration that is exported: what it declares is
declaration_sent : (q : Kind) (p : Path) (d : Tree) (us : Forest) → stands Declaration d ≡ true → each_node is_proper d ≡ true → each_node is_sided d ≡ true → Sends (events_below Exporting q Declaration (below p 0) d) (declares p (node (program ExportDecl) (part d us)))
declaration_sent q p (leaf s x) us e h z = sends_nothing (events_below Plain q Declaration (below p 0) (leaf s x)) (unspoken_leaf Plain q Declaration (below p 0) s x refl)
declaration_sent q p (list ts) us e h z = never e
declaration_sent q p (node (statement (Var v)) none) us e h z = never (and_left false (each_nodes is_proper none) h)
declaration_sent q p (node (statement (Var v)) (part t ts)) us e h z =
    let k : Kind = statement (Var v) in
    let f : has_form (Several NoTrailing) Declarators t ≡ true = and_left (has_form (Several NoTrailing) Declarators t) (fill [] ts) (and_left (fill (positions k) (part t ts)) (each_nodes is_proper (part t ts)) h) in
    let s : has_sides Declarators t ≡ true = and_left (has_sides Declarators t) (sides [] ts) (and_left (sides (positions k) (part t ts)) (each_nodes is_sided (part t ts)) z) in
    sends_append
    (sends_tree (sort_of v) k Declarators (below (below p 0) 0) t (form_tied (Several NoTrailing) Declarators t refl f) (form_native (Several NoTrailing) Declarators t refl refl f s)
    (and_left (each_node is_proper t) (each_nodes is_proper ts) (and_right (fill (positions k) (part t ts)) (each_nodes is_proper (part t ts)) h))
    (and_left (each_node is_sided t) (each_nodes is_sided ts) (and_right (sides (positions k) (part t ts)) (each_nodes is_sided (part t ts)) z)))
    (sends_nothing [] refl)
declaration_sent q p (node (statement FunctionDecl) none) us e h z = never (and_left false (each_nodes is_proper none) h)
declaration_sent q p (node (statement FunctionDecl) (part n cs)) us e h z = function_sent q Declaration (below p 0) n cs h z
declaration_sent q p (node (statement ClassDecl) none) us e h z = never (and_left false (each_nodes is_proper none) h)
declaration_sent q p (node (statement ClassDecl) (part n cs)) us e h z = class_sent q Declaration (below p 0) n cs h z
declaration_sent q p (node k cs) us e h z = never e

-- ---- items

item_tells_nothing : (q : Kind) (c : Nonterminal) (p : Path) (t : Tree) → unspoken (events_below Plain q c p t) ≡ true → Tells (events_below Plain q c p t) [] p (λ ds. [])
item_tells_nothing q c p t h = record { exports' = (says_nothing (events_below Plain q c p t) h).exports'; wants = (says_nothing (events_below Plain q c p t) h).wants }

native_tells : (q k : Kind) (p : Path) (cs : Forest) → is_native k ≡ true → each_node is_proper (node k cs) ≡ true → each_node is_sided (node k cs) ≡ true → Tells (events_below Plain q Item p (node k cs)) [] p (λ ds. [])
native_tells q k p cs n h z = item_tells_nothing q Item p (node k cs) (unspoken_tree Plain q Item p (node k cs) refl n h z)

says_tells : (es : List Event) (xs : List Export) (p : Path) → Says es xs [] → Tells es xs p (λ ds. [])
says_tells es xs p a = record { exports' = a.exports'; wants = a.wants }

more_tells : (es : List Event) (xs : List Export) (p : Path) (f : List Declared → List Place) → Tells es xs p f → Tells (es ++ []) xs p f
more_tells es xs p f a = subst (λ z. Tells z xs p f) (sym (append-nil es)) a

names_tell : (q : Kind) (p : Path) (cs : Forest) → each_node is_proper (node (program ExportNames) cs) ≡ true → each_node is_sided (node (program ExportNames) cs) ≡ true → Tells (events_below Plain q Item p (node (program ExportNames) cs)) (exports p (node (program ExportNames) cs)) p (λ ds. undeclared_in ds p (node (program ExportNames) cs))
names_tell q p none h z = never (and_left false (each_nodes is_proper none) h)
names_tell q p (part (leaf s x) us) h z = never (and_left false (each_nodes is_proper us) h)
names_tell q p (part (node k cs) us) h z = never (and_left false (each_nodes is_proper (part (node k cs) us)) h)
names_tell q p (part (list ts) (part u us)) h z = never (and_right (each_stands (Specifiers Exported) ts) false (and_left (each_stands (Specifiers Exported) ts && false) (each_nodes is_proper (part (list ts) (part u us))) h))
names_tell q p (part (list ts) none) h z =
    let k : Kind = program ExportNames in
    more_tells (events_each Plain k (Specifiers Exported) (below p 0) 0 ts) (export_specifiers (below p 0) 0 ts) p (λ ds. undeclared_each ds (below p 0) 0 ts)
    (record {
      exports' = (specifiers_tell k (Specifiers Exported) (below p 0) 0 ts s hs zs).exports';
      wants = (specifiers_tell k (Specifiers Exported) (below p 0) 0 ts s hs zs).wants;
    })
  where
    s : each_sided (Specifiers Exported) ts ≡ true
    s = and_left (each_sided (Specifiers Exported) ts) true (and_left (each_sided (Specifiers Exported) ts && true) (each_nodes is_sided (part (list ts) none)) z)

    hs : each_nodes is_proper ts ≡ true
    hs = and_left (each_nodes is_proper ts) true (and_right (fill (positions (program ExportNames)) (part (list ts) none)) (each_nodes is_proper (part (list ts) none)) h)

    zs : each_nodes is_sided ts ≡ true
    zs = and_left (each_nodes is_sided ts) true (and_right (each_sided (Specifiers Exported) ts && true) (each_nodes is_sided (part (list ts) none)) z)

from_tells : (q : Kind) (p : Path) (cs : Forest) → each_node is_proper (node (program ExportFrom) cs) ≡ true → each_node is_sided (node (program ExportFrom) cs) ≡ true → Tells (events_below Plain q Item p (node (program ExportFrom) cs)) (exports p (node (program ExportFrom) cs)) p (λ ds. undeclared_in ds p (node (program ExportFrom) cs))
from_tells q p none h z = never (and_left false (each_nodes is_proper none) h)
from_tells q p (part (leaf s x) us) h z = never (and_left false (each_nodes is_proper us) h)
from_tells q p (part (node k cs) us) h z = never (and_left false (each_nodes is_proper (part (node k cs) us)) h)
from_tells q p (part (list ts) none) h z = never (and_right (each_stands (Specifiers From) ts) false (and_left (each_stands (Specifiers From) ts && false) (each_nodes is_proper (part (list ts) none)) h))
from_tells q p (part (list ts) (part u (part v vs))) h z =
    never (and_right (stands StringOnly u) false (and_right (each_stands (Specifiers From) ts) (stands StringOnly u && false) (and_left (each_stands (Specifiers From) ts && (stands StringOnly u && false)) (each_nodes is_proper (part (list ts) (part u (part v vs)))) h)))
from_tells q p (part (list ts) (part u none)) h z =
    let k : Kind = program ExportFrom in
    says_tells (events_each Plain k (Specifiers From) (below p 0) 0 ts ++ (events_below Plain k StringOnly (below p 1) u ++ [])) (export_specifiers (below p 0) 0 ts) p
    (says_before (events_below Plain k StringOnly (below p 1) u ++ []) (senders_tell k (Specifiers From) (below p 0) 0 ts s hs zs)
    (unspoken_append (events_below Plain k StringOnly (below p 1) u) [] (string_unspoken k (below p 1) u w) refl))
  where
    w : stands StringOnly u ≡ true
    w = and_left (stands StringOnly u) true (and_right (each_stands (Specifiers From) ts) (stands StringOnly u && true) (and_left (each_stands (Specifiers From) ts && (stands StringOnly u && true)) (each_nodes is_proper (part (list ts) (part u none))) h))

    s : each_sided (Specifiers From) ts ≡ true
    s = and_left (each_sided (Specifiers From) ts) (has_sides StringOnly u && true) (and_left (each_sided (Specifiers From) ts && (has_sides StringOnly u && true)) (each_nodes is_sided (part (list ts) (part u none))) z)

    hs : each_nodes is_proper ts ≡ true
    hs = and_left (each_nodes is_proper ts) (each_nodes is_proper (part u none)) (and_right (fill (positions (program ExportFrom)) (part (list ts) (part u none))) (each_nodes is_proper (part (list ts) (part u none))) h)

    zs : each_nodes is_sided ts ≡ true
    zs = and_left (each_nodes is_sided ts) (each_nodes is_sided (part u none)) (and_right (each_sided (Specifiers From) ts && (has_sides StringOnly u && true)) (each_nodes is_sided (part (list ts) (part u none))) z)

all_as_tells : (q : Kind) (p : Path) (cs : Forest) → each_node is_proper (node (program ExportAllAs) cs) ≡ true → each_node is_sided (node (program ExportAllAs) cs) ≡ true → Tells (events_below Plain q Item p (node (program ExportAllAs) cs)) (exports p (node (program ExportAllAs) cs)) p (λ ds. undeclared_in ds p (node (program ExportAllAs) cs))
all_as_tells q p none h z = never (and_left false (each_nodes is_proper none) h)
all_as_tells q p (part n none) h z = never (and_right (stands Name n) false (and_left (stands Name n && false) (each_nodes is_proper (part n none)) h))
all_as_tells q p (part n (part s none)) h z =
    says_tells (events_below Plain q Item p (node (program ExportAllAs) (part n (part s none)))) (export_name (below p 0) n) p (says_node Plain q (program ExportAllAs) Item p (part n (part s none)) refl refl refl h z)
all_as_tells q p (part n (part s (part u us))) h z =
    never (and_right (stands StringOnly s) false (and_right (stands Name n) (stands StringOnly s && false) (and_left (stands Name n && (stands StringOnly s && false)) (each_nodes is_proper (part n (part s (part u us)))) h)))

declaration_tells : (q : Kind) (p : Path) (cs : Forest) → each_node is_proper (node (program ExportDecl) cs) ≡ true → each_node is_sided (node (program ExportDecl) cs) ≡ true → Tells (events_below Plain q Item p (node (program ExportDecl) cs)) (exports p (node (program ExportDecl) cs)) p (λ ds. undeclared_in ds p (node (program ExportDecl) cs))
declaration_tells q p none h z = never (and_left false (each_nodes is_proper none) h)
declaration_tells q p (part d us) h z =
    let k : Kind = program ExportDecl in
    let a = declaration_sent k p d us
    (and_left (stands Declaration d) (fill [] us) (and_left (fill (positions k) (part d us)) (each_nodes is_proper (part d us)) h))
    (and_left (each_node is_proper d) (each_nodes is_proper us) (and_right (fill (positions k) (part d us)) (each_nodes is_proper (part d us)) h))
    (and_left (each_node is_sided d) (each_nodes is_sided us) (and_right (sides (positions k) (part d us)) (each_nodes is_sided (part d us)) z)) in
    more_tells (events_below Exporting k Declaration (below p 0) d) (export_each (declares p (node (program ExportDecl) (part d us)))) p (λ ds. [])
    (says_tells (events_below Exporting k Declaration (below p 0) d) (export_each (declares p (node (program ExportDecl) (part d us)))) p a.sends)

item_tells : (q : Kind) (p : Path) (t : Tree) → stands Item t ≡ true → each_node is_proper t ≡ true → each_node is_sided t ≡ true → Tells (events_below Plain q Item p t) (exports p t) p (λ ds. undeclared_in ds p t)
item_tells q p (leaf s x) e h z = item_tells_nothing q Item p (leaf s x) (unspoken_leaf Plain q Item p s x refl)
item_tells q p (list ts) e h z = never e
item_tells q p (node (program Module) cs) e h z = never e
item_tells q p (node (program Script) cs) e h z = never e
item_tells q p (node (program FunctionBody) cs) e h z = never e
item_tells q p (node (program Directive) cs) e h z = never e
item_tells q p (node (program (Specifier s)) cs) e h z = never e
item_tells q p (node (program (SpecifierAs s)) cs) e h z = never e
item_tells q p (node (program ImportAll) cs) e h z = never e
item_tells q p (node (program ImportList) cs) e h z = never e
item_tells q p (node (program ImportBoth) cs) e h z = never e
item_tells q p (node (program ExportNames) cs) e h z = names_tell q p cs h z
item_tells q p (node (program ExportFrom) cs) e h z = from_tells q p cs h z
item_tells q p (node (program ExportAllAs) cs) e h z = all_as_tells q p cs h z
item_tells q p (node (program ExportDecl) cs) e h z = declaration_tells q p cs h z
item_tells q p (node (program ExportDefaultFn) cs) e h z = says_tells (events_below Plain q Item p (node (program ExportDefaultFn) cs)) (exports p (node (program ExportDefaultFn) cs)) p (says_node Plain q (program ExportDefaultFn) Item p cs refl refl refl h z)
item_tells q p (node (program ExportDefaultClass) cs) e h z = says_tells (events_below Plain q Item p (node (program ExportDefaultClass) cs)) (exports p (node (program ExportDefaultClass) cs)) p (says_node Plain q (program ExportDefaultClass) Item p cs refl refl refl h z)
item_tells q p (node (program ExportDefaultExpr) cs) e h z = says_tells (events_below Plain q Item p (node (program ExportDefaultExpr) cs)) (exports p (node (program ExportDefaultExpr) cs)) p (says_node Plain q (program ExportDefaultExpr) Item p cs refl refl refl h z)
item_tells q p (node (program ImportBare) cs) e h z = native_tells q (program ImportBare) p cs refl h z
item_tells q p (node (program Import) cs) e h z = native_tells q (program Import) p cs refl h z
item_tells q p (node (program ExportAll) cs) e h z = native_tells q (program ExportAll) p cs refl h z
item_tells q p (node k cs) e h z = native_tells q k p cs refl h z

pub items_tell : (q : Kind) (p : Path) (i : ℕ) (ts : Forest) → each_stands Item ts ≡ true → each_nodes is_proper ts ≡ true → each_nodes is_sided ts ≡ true → Tells (events_each Plain q Item p i ts) (exports_each p i ts) p (λ ds. undeclared_items ds p i ts)
items_tell q p i none e h z = record { exports' = refl; wants = λ ds. refl }
items_tell q p i (part t ts) e h z =
    let a = item_tells q (below p i) t (and_left (stands Item t) (each_stands Item ts) e) (and_left (each_node is_proper t) (each_nodes is_proper ts) h) (and_left (each_node is_sided t) (each_nodes is_sided ts) z) in
    let b = items_tell q p (suc i) ts (and_right (stands Item t) (each_stands Item ts) e) (and_right (each_node is_proper t) (each_nodes is_proper ts) h) (and_right (each_node is_sided t) (each_nodes is_sided ts) z) in
    record {
      exports' = exported_append (events_below Plain q Item (below p i) t) (events_each Plain q Item p (suc i) ts) ∙ ap (λ v. v ++ exported_in (events_each Plain q Item p (suc i) ts)) a.exports' ∙ ap (λ v. exports (below p i) t ++ v) b.exports';
      wants = λ ds. missing_append ds (events_below Plain q Item (below p i) t) (events_each Plain q Item p (suc i) ts) ∙ ap (λ v. v ++ missing ds (events_each Plain q Item p (suc i) ts)) (a.wants ds) ∙ ap (λ v. undeclared_in ds (below p i) t ++ v) (b.wants ds);
    }
