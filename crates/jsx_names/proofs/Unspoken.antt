-- Below the items of a module nothing is exported.
use Rattle.std.proofs.Common.{◌≡◌, ℕ, suc, List, [], ◌∷◌, ◌++◌, Bool, true, false, cond, ◌&&◌, refl, sym, ap, ◌∙◌}
use Rattle.jsx_base.specs.Token.{TokenKind, Text, IdentifierName}
use Rattle.jsx_tree.specs.Kinds.{Exported, Imported, From, Module, Script, FunctionBody, Directive, ImportBare, Import, ImportAll, ImportList, ImportBoth, Specifier, SpecifierAs, ExportNames, ExportFrom, ExportAll, ExportAllAs, ExportDecl, ExportDefaultFn, ExportDefaultClass, ExportDefaultExpr, Var, ForDeclaration, ForBinding, Catch, FunctionDecl, ClassDecl, Binds, FunctionExpr, ClassExpr, Kind, program, statement, function, Tree, leaf, node, list, Forest, none, part}
use Rattle.jsx_tree.specs.Nonterminals.{Nonterminal, BindingIdent, Pat, Slot, PatProp, PatElement, Declarators, Item, ImportClause, Specifiers, WholeProgram}
use Rattle.jsx_tree.specs.Form.{Form, Single, Maybe, Several, Position, position, positions, at_most_one}
use Rattle.jsx_tree.specs.Sound.{each_node, each_nodes}
use Rattle.jsx_tree.specs.Scopes.{Path, below, Sort, AsParameter, AsFunction, AsLexical, sort_of, binds, is_parameter, is_name_at}
use Rattle.jsx_tree.specs.Clashes.{evals_here}
use Rattle.jsx_tree.proofs.Tokens.{and_left, and_right, and_both}
use Rattle.jsx_names.specs.Events.{Frame, Event, Opens, Enters, Closes, Declares, Refers, Exports, Wants, Evals, Simply, Exported', InHead, Mode, Plain, Exporting, Binding, way, mode, is_scope, frame, has_scope, inner, is_inner, is_behind, entering, around, called, of_node, of_leaf, events_below, events_parts, events_each}
use Rattle.jsx_names.specs.Proper.{fits, stands, each_stands, has_form, fill, is_proper, sided, each_sided, has_sides, sides, is_sided}
use Rattle.jsx_names.proofs.ScopeNames.{never}
use Rattle.jsx_names.proofs.Places.{is_whole, is_outland, is_listing, tame, tame_row, all_tame, no_whole, no_outland}

-- ---- lists of events with nothing exported, and nothing wanted

abbrev pub unspoken : List Event → Bool
unspoken [] = true
unspoken (Exports t a ∷ es) = false
unspoken (Wants t a ∷ es) = false
unspoken (e ∷ es) = unspoken es

pub unspoken_append : (es fs : List Event) → unspoken es ≡ true → unspoken fs ≡ true → unspoken (es ++ fs) ≡ true
unspoken_append [] fs x y = y
unspoken_append (Opens f p ∷ es) fs x y = unspoken_append es fs x y
unspoken_append (Enters ∷ es) fs x y = unspoken_append es fs x y
unspoken_append (Closes ∷ es) fs x y = unspoken_append es fs x y
unspoken_append (Declares h r t p ∷ es) fs x y = unspoken_append es fs x y
unspoken_append (Refers t p ∷ es) fs x y = unspoken_append es fs x y
unspoken_append (Exports t a ∷ es) fs x y = never x
unspoken_append (Wants t a ∷ es) fs x y = never x
unspoken_append (Evals p ∷ es) fs x y = unspoken_append es fs x y

pub unspoken_around : (b : Bool) (f : Frame) (p : Path) (es : List Event) → unspoken es ≡ true → unspoken (around b f p es) ≡ true
unspoken_around true f p es h = unspoken_append es (Closes ∷ []) h refl
unspoken_around false f p es h = h

pub unspoken_entering : (b : Bool) → unspoken (entering b) ≡ true
unspoken_entering true = refl
unspoken_entering false = refl

pub unspoken_called : (ps : List Path) → unspoken (called ps) ≡ true
unspoken_called [] = refl
unspoken_called (p ∷ ps) = unspoken_called ps

unspoken_if : (b : Bool) (es : List Event) → unspoken es ≡ true → unspoken (cond b es []) ≡ true
unspoken_if true es h = h
unspoken_if false es h = refl

unspoken_unless : (b : Bool) (es : List Event) → unspoken es ≡ true → unspoken (cond b [] es) ≡ true
unspoken_unless true es h = refl
unspoken_unless false es h = h

unspoken_name : (b : Bool) (t : Text) (p : Path) → unspoken (cond b (Refers t p ∷ []) []) ≡ true
unspoken_name true t p = refl
unspoken_name false t p = refl

-- ---- modes in which nothing is exported

abbrev pub is_still : Mode → Bool
is_still Exporting = false
is_still (Binding Exported' s) = false
is_still m = true

still_way : (m : Mode) (s : Sort) → is_still m ≡ true → is_still (Binding (way m) s) ≡ true
still_way Plain s h = refl
still_way Exporting s h = never h
still_way (Binding w r) s h = refl

still_last : (m : Mode) (a b : Bool) → is_still m ≡ true → is_still (cond a (Binding InHead AsParameter) (cond b m Plain)) ≡ true
still_last m true b h = refl
still_last m false true h = h
still_last m false false h = refl

abbrev pub is_declaring_item : Kind → Bool
is_declaring_item (program ExportDecl) = true
is_declaring_item k = false

still_mode : (m : Mode) (k : Kind) (c : Nonterminal) → is_still m ≡ true → is_declaring_item k ≡ false → is_still (mode m k c) ≡ true
still_mode m (program ExportDecl) c s n = never (sym n)
still_mode m (program Import) ImportClause s n = refl
still_mode m (program ExportDefaultFn) BindingIdent s n = refl
still_mode m (statement (Var v)) Declarators s n = still_way m (sort_of v) s
still_mode m (statement (ForDeclaration v)) Declarators s n = refl
still_mode m (statement (ForBinding v)) (Pat Binds) s n = refl
still_mode m (statement FunctionDecl) BindingIdent s n = still_way m AsFunction s
still_mode m (statement ClassDecl) BindingIdent s n = still_way m AsLexical s
still_mode m (statement Catch) (Pat Binds) s n = refl
still_mode m (function FunctionExpr) BindingIdent s n = refl
still_mode m (function ClassExpr) BindingIdent s n = refl
still_mode m k c s n = still_last m (is_parameter k c) (binds c) s

abbrev pub still_row : Mode → Kind → List Position → Bool
still_row m k [] = true
still_row m k (position f c g o a ∷ ss) = is_still (mode m k c) && still_row m k ss

pub all_still : (m : Mode) (k : Kind) (ss : List Position) → is_still m ≡ true → is_declaring_item k ≡ false → still_row m k ss ≡ true
all_still m k [] s n = refl
all_still m k (position f c g o a ∷ ss) s n = and_both (is_still (mode m k c)) (still_row m k ss) (still_mode m k c s n) (all_still m k ss s n)

pub unspoken_leaf : (m : Mode) (q : Kind) (c : Nonterminal) (p : Path) (s : TokenKind) (t : Text) → is_still m ≡ true → unspoken (of_leaf m q c p s t) ≡ true
unspoken_leaf (Binding Simply r) q c p IdentifierName t h = refl
unspoken_leaf (Binding InHead r) q c p IdentifierName t h = refl
unspoken_leaf (Binding Exported' r) q c p IdentifierName t h = never h
unspoken_leaf m q c p s t h = unspoken_name (is_name_at q c s t) t p

-- ---- kinds that export nothing themselves, and no item that does

abbrev pub is_native : Kind → Bool
is_native (program Module) = false
is_native (program Script) = false
is_native (program (Specifier Exported)) = false
is_native (program (Specifier From)) = false
is_native (program (SpecifierAs Exported)) = false
is_native (program (SpecifierAs From)) = false
is_native (program ExportNames) = false
is_native (program ExportFrom) = false
is_native (program ExportAllAs) = false
is_native (program ExportDecl) = false
is_native (program ExportDefaultFn) = false
is_native (program ExportDefaultClass) = false
is_native (program ExportDefaultExpr) = false
is_native k = true

abbrev mutual
  pub native : Tree → Bool
  native (leaf s t) = true
  native (node k cs) = is_native k
  native (list ts) = each_native ts

  pub each_native : Forest → Bool
  each_native none = true
  each_native (part t ts) = native t && each_native ts

pub native_here : (k : Kind) (p : Path) (cs : Forest) → is_native k ≡ true → of_node k p cs ≡ called (evals_here k p cs)
native_here (program (Specifier Exported)) p cs n = never n
native_here (program (Specifier From)) p cs n = never n
native_here (program (SpecifierAs Exported)) p cs n = never n
native_here (program (SpecifierAs From)) p cs n = never n
native_here (program ExportAllAs) p cs n = never n
native_here (program ExportDefaultFn) p cs n = never n
native_here (program ExportDefaultClass) p cs n = never n
native_here (program ExportDefaultExpr) p cs n = never n
native_here k p cs n = refl

pub native_listing : (k : Kind) → is_native k ≡ true → is_listing k ≡ false
native_listing (program Module) n = never n
native_listing (program ExportNames) n = never n
native_listing (program ExportFrom) n = never n
native_listing k n = refl

pub native_item : (k : Kind) → is_native k ≡ true → is_declaring_item k ≡ false
native_item (program ExportDecl) n = never n
native_item k n = refl

native_fits : (k : Kind) (c : Nonterminal) (cs : Forest) → is_whole c ≡ false → is_outland c ≡ false → fits c k ≡ true → sided c (node k cs) ≡ true → is_native k ≡ true
native_fits (program FunctionBody) c cs w o h s = refl
native_fits (program Directive) c cs w o h s = refl
native_fits (program ImportBare) c cs w o h s = refl
native_fits (program Import) c cs w o h s = refl
native_fits (program ImportAll) c cs w o h s = refl
native_fits (program ImportList) c cs w o h s = refl
native_fits (program ImportBoth) c cs w o h s = refl
native_fits (program ExportAll) c cs w o h s = refl
native_fits (program (Specifier Imported)) c cs w o h s = refl
native_fits (program (SpecifierAs Imported)) c cs w o h s = refl
native_fits (program (Specifier Exported)) (Specifiers Exported) cs w o h s = sym o
native_fits (program (Specifier Exported)) c cs w o h s = s
native_fits (program (Specifier From)) (Specifiers From) cs w o h s = sym o
native_fits (program (Specifier From)) c cs w o h s = s
native_fits (program (SpecifierAs Exported)) (Specifiers Exported) cs w o h s = sym o
native_fits (program (SpecifierAs Exported)) c cs w o h s = s
native_fits (program (SpecifierAs From)) (Specifiers From) cs w o h s = sym o
native_fits (program (SpecifierAs From)) c cs w o h s = s
native_fits (program k) WholeProgram cs w o h s = never (sym w)
native_fits (program k) Item cs w o h s = never (sym o)
native_fits (program k) (Pat Binds) cs w o h s = never h
native_fits (program k) (Slot Binds) cs w o h s = never h
native_fits (program k) (PatElement Binds) cs w o h s = never h
native_fits (program k) (PatProp Binds) cs w o h s = never h
native_fits (program k) c cs w o h s = never h
native_fits k c cs w o h s = refl

stands_native : (c : Nonterminal) (t : Tree) → is_whole c ≡ false → is_outland c ≡ false → stands c t ≡ true → sided c t ≡ true → native t ≡ true
stands_native c (leaf a x) w o h s = refl
stands_native c (node k cs) w o h s = native_fits k c cs w o h s
stands_native c (list ts) w o h s = never h

each_stands_native : (c : Nonterminal) (ts : Forest) → is_whole c ≡ false → is_outland c ≡ false → each_stands c ts ≡ true → each_sided c ts ≡ true → each_native ts ≡ true
each_stands_native c none w o h s = refl
each_stands_native c (part t ts) w o h s =
    and_both (native t) (each_native ts)
    (stands_native c t w o (and_left (stands c t) (each_stands c ts) h) (and_left (sided c t) (each_sided c ts) s))
    (each_stands_native c ts w o (and_right (stands c t) (each_stands c ts) h) (and_right (sided c t) (each_sided c ts) s))

pub form_native : (f : Form) (c : Nonterminal) (t : Tree) → is_whole c ≡ false → is_outland c ≡ false → has_form f c t ≡ true → has_sides c t ≡ true → native t ≡ true
form_native Single c (leaf a x) w o h s = refl
form_native Single c (node k cs) w o h s = native_fits k c cs w o h s
form_native Single c (list ts) w o h s = never h
form_native Maybe c (list ts) w o h s = each_stands_native c ts w o (and_right (at_most_one ts) (each_stands c ts) h) s
form_native Maybe c (leaf a x) w o h s = never h
form_native Maybe c (node k cs) w o h s = never h
form_native (Several l) c (list ts) w o h s = each_stands_native c ts w o h s
form_native (Several l) c (leaf a x) w o h s = never h
form_native (Several l) c (node k cs) w o h s = never h

-- a part at a place where nothing is exported
pub part_native : (k : Kind) (f : Form) (c : Nonterminal) (t : Tree) → is_listing k ≡ false → tame k c ≡ true → has_form f c t ≡ true → has_sides c t ≡ true → native t ≡ true
part_native k f c t l r h s = form_native f c t (no_whole k c r) (no_outland k c l r) h s

node_unspoken : (q k : Kind) (p : Path) (cs : Forest) (xs ys : List Event) → is_native k ≡ true → unspoken xs ≡ true → unspoken ys ≡ true → unspoken (around (is_scope q k) (frame k) p (of_node k p cs ++ (xs ++ around (has_scope k) (inner k) p ys))) ≡ true
node_unspoken q k p cs xs ys n x y =
    unspoken_around (is_scope q k) (frame k) p (of_node k p cs ++ (xs ++ around (has_scope k) (inner k) p ys))
    (unspoken_append (of_node k p cs) (xs ++ around (has_scope k) (inner k) p ys) (ap unspoken (native_here k p cs n) ∙ unspoken_called (evals_here k p cs))
    (unspoken_append xs (around (has_scope k) (inner k) p ys) x (unspoken_around (has_scope k) (inner k) p ys y)))

mutual
  pub unspoken_tree : (m : Mode) (q : Kind) (c : Nonterminal) (p : Path) (t : Tree) → is_still m ≡ true → native t ≡ true → each_node is_proper t ≡ true → each_node is_sided t ≡ true → unspoken (events_below m q c p t) ≡ true
  unspoken_tree m q c p (leaf s x) e n h z = unspoken_leaf m q c p s x e
  unspoken_tree m q c p (list ts) e n h z = unspoken_each m q c p 0 ts e n h z
  unspoken_tree m q c p (node k cs) e n h z =
      node_unspoken q k p cs (events_parts false m k p 0 (positions k) cs) (events_parts true m k p 0 (positions k) cs) n
      (unspoken_parts false m k p 0 (positions k) cs (native_listing k n) (all_still m k (positions k) e (native_item k n)) (all_tame k) (and_left (fill (positions k) cs) (each_nodes is_proper cs) h) (and_right (fill (positions k) cs) (each_nodes is_proper cs) h) (and_left (sides (positions k) cs) (each_nodes is_sided cs) z) (and_right (sides (positions k) cs) (each_nodes is_sided cs) z))
      (unspoken_parts true m k p 0 (positions k) cs (native_listing k n) (all_still m k (positions k) e (native_item k n)) (all_tame k) (and_left (fill (positions k) cs) (each_nodes is_proper cs) h) (and_right (fill (positions k) cs) (each_nodes is_proper cs) h) (and_left (sides (positions k) cs) (each_nodes is_sided cs) z) (and_right (sides (positions k) cs) (each_nodes is_sided cs) z))

  pub unspoken_parts : (b : Bool) (m : Mode) (k : Kind) (p : Path) (i : ℕ) (ss : List Position) (cs : Forest) → is_listing k ≡ false → still_row m k ss ≡ true → tame_row k ss ≡ true → fill ss cs ≡ true → each_nodes is_proper cs ≡ true → sides ss cs ≡ true → each_nodes is_sided cs ≡ true → unspoken (events_parts b m k p i ss cs) ≡ true
  unspoken_parts b m k p i [] cs l e r w h s z = refl
  unspoken_parts b m k p i (s' ∷ ss) none l e r w h s z = refl
  unspoken_parts true m k p i (position f c g o a ∷ ss) (part t ts) l e r w h s z =
      unspoken_append (entering (is_behind k c)) (cond (is_inner k c) (events_below (mode m k c) k c (below p i) t) [] ++ events_parts true m k p (suc i) ss ts) (unspoken_entering (is_behind k c))
      (unspoken_append (cond (is_inner k c) (events_below (mode m k c) k c (below p i) t) []) (events_parts true m k p (suc i) ss ts)
      (unspoken_if (is_inner k c) (events_below (mode m k c) k c (below p i) t)
      (unspoken_tree (mode m k c) k c (below p i) t (and_left (is_still (mode m k c)) (still_row m k ss) e) (part_native k f c t l (and_left (tame k c) (tame_row k ss) r) (and_left (has_form f c t) (fill ss ts) w) (and_left (has_sides c t) (sides ss ts) s)) (and_left (each_node is_proper t) (each_nodes is_proper ts) h) (and_left (each_node is_sided t) (each_nodes is_sided ts) z)))
      (unspoken_parts true m k p (suc i) ss ts l (and_right (is_still (mode m k c)) (still_row m k ss) e) (and_right (tame k c) (tame_row k ss) r) (and_right (has_form f c t) (fill ss ts) w) (and_right (each_node is_proper t) (each_nodes is_proper ts) h) (and_right (has_sides c t) (sides ss ts) s) (and_right (each_node is_sided t) (each_nodes is_sided ts) z)))
  unspoken_parts false m k p i (position f c g o a ∷ ss) (part t ts) l e r w h s z =
      unspoken_append (cond (is_inner k c) [] (events_below (mode m k c) k c (below p i) t)) (events_parts false m k p (suc i) ss ts)
      (unspoken_unless (is_inner k c) (events_below (mode m k c) k c (below p i) t)
      (unspoken_tree (mode m k c) k c (below p i) t (and_left (is_still (mode m k c)) (still_row m k ss) e) (part_native k f c t l (and_left (tame k c) (tame_row k ss) r) (and_left (has_form f c t) (fill ss ts) w) (and_left (has_sides c t) (sides ss ts) s)) (and_left (each_node is_proper t) (each_nodes is_proper ts) h) (and_left (each_node is_sided t) (each_nodes is_sided ts) z)))
      (unspoken_parts false m k p (suc i) ss ts l (and_right (is_still (mode m k c)) (still_row m k ss) e) (and_right (tame k c) (tame_row k ss) r) (and_right (has_form f c t) (fill ss ts) w) (and_right (each_node is_proper t) (each_nodes is_proper ts) h) (and_right (has_sides c t) (sides ss ts) s) (and_right (each_node is_sided t) (each_nodes is_sided ts) z))

  pub unspoken_each : (m : Mode) (q : Kind) (c : Nonterminal) (p : Path) (i : ℕ) (ts : Forest) → is_still m ≡ true → each_native ts ≡ true → each_nodes is_proper ts ≡ true → each_nodes is_sided ts ≡ true → unspoken (events_each m q c p i ts) ≡ true
  unspoken_each m q c p i none e n h z = refl
  unspoken_each m q c p i (part t ts) e n h z =
      unspoken_append (events_below m q c (below p i) t) (events_each m q c p (suc i) ts)
      (unspoken_tree m q c (below p i) t e (and_left (native t) (each_native ts) n) (and_left (each_node is_proper t) (each_nodes is_proper ts) h) (and_left (each_node is_sided t) (each_nodes is_sided ts) z))
      (unspoken_each m q c p (suc i) ts e (and_right (native t) (each_native ts) n) (and_right (each_node is_proper t) (each_nodes is_proper ts) h) (and_right (each_node is_sided t) (each_nodes is_sided ts) z))
