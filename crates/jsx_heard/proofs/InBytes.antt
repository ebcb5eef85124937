-- Each event of a tree that was read is at the byte of its place, where all that is told of the tree is so.
use Rattle.std.proofs.Common.{◌≡◌, ◌+◌, ℕ, zero, suc, List, [], ◌∷◌, ◌++◌, Bool, true, false, cond, append-nil, append_assoc, arith, refl, sym, ap, ◌∙◌}
use Rattle.std.specs.Prelude.{not, ◌&&◌, ◌||◌}
use Rattle.jsx_tree.specs.Kinds.{VarWord, Imported, Exported, From, Module, Script, Import, Specifier, SpecifierAs, ExportNames, ExportFrom, ExportAllAs, ExportDecl, ExportDefaultFn, Block, Var, ForDeclaration, ForBinding, Catch, FunctionDecl, ClassDecl, InObject, Binds, FunctionExpr, ClassExpr, Method, Getter, Setter, Field, ArrayPat, ObjectPat, PropertyPat, ShorthandPat, ShorthandInit, WithInit, RestPat, RestProperty, ParenTarget, Nullish, Delete, Increment, Seq, OpAssign, Binary, Unary, PrefixUpdate, PostfixUpdate, NameLink, IndexLink, CallLink, Parenthesized, PlainTemplate, SubstitutedTemplate, TemplateSpan, Element, Kind, program, statement, function, expression, jsx, Tree, leaf, node, list, Forest, none, part}
use Rattle.jsx_tree.specs.Nonterminals.{Nonterminal, BindingIdent, Pat, Param, SetterParam, Declarators, Declaration, ImportClause, WholeProgram}
use Rattle.jsx_tree.specs.Form.{Position, position, positions}
use Rattle.jsx_tree.specs.Scopes.{Path, below, AsParameter, binds, is_parameter}
use Rattle.jsx_tree.specs.Spans.{Extent, Placed, leaf_at, node_at, default_at, list_at, Places, end, and, Claim, Told, tells, Tales, no_tales, tale, IsTold, AreTold}
use Rattle.jsx_tree.proofs.Tokens.{and_left, and_right, and_both}
use Rattle.jsx_names.specs.Events.{Frame, Event, Closes, InHead, Mode, Plain, Exporting, Binding, mode, inherited, is_scope, frame, has_scope, inner, is_inner, is_behind, of_node, events_below, events_parts, events_each, events}
use Rattle.jsx_names.specs.Events as events'
use Rattle.jsx_names.proofs.ScopeNames.{never}
use Rattle.jsx_heard.specs.Bytes.{byte_at, byte_among, bytes_in, bytes_of}
use Rattle.jsx_heard.specs.Said.{Met, naming, round, its, closes, head_tale, tail_tales, node_said, entering, around, said, said_parts, said_each, of_program}
use Rattle.jsx_heard.proofs.SaidHeard.{scoped_alike, is_pair, said_node}
use Rattle.jsx_heard.proofs.Shaped.{is_paired, is_outer, is_deep, is_seated, IsShaped, AreShaped, EachShaped}
use Rattle.jsx_heard.proofs.ToldBytes.{default_byte, own_told, suits, leaf_bytes, leaf_byte, far, Among, join, own_bytes}

-- ---- the mode of a part binds names only where names are bound

inherited_suits : (m : Mode) (c : Nonterminal) → suits (inherited c m) c ≡ true
inherited_suits m c = by (binds c) m refl
  where
    by : (b : Bool) (m : Mode) → binds c ≡ b → suits (cond b m Plain) c ≡ true
    by true (Binding w r) e = e
    by true Plain e = refl
    by true Exporting e = refl
    by false m e = refl

parameter_binds : (k : Kind) (c : Nonterminal) → is_parameter k c ≡ true → binds c ≡ true
parameter_binds k Param h = refl
parameter_binds k SetterParam h = refl
parameter_binds k BindingIdent h = refl
parameter_binds k c h = never h

other_suits : (m : Mode) (k : Kind) (c : Nonterminal) → suits (cond (is_parameter k c) (Binding InHead AsParameter) (inherited c m)) c ≡ true
other_suits m k c = by (is_parameter k c) refl
  where
    by : (b : Bool) → is_parameter k c ≡ b → suits (cond b (Binding InHead AsParameter) (inherited c m)) c ≡ true
    by true e = parameter_binds k c e
    by false e = inherited_suits m c

mode_suits : (m : Mode) (k : Kind) (c : Nonterminal) → suits (mode m k c) c ≡ true
mode_suits m (program Import) ImportClause = refl
mode_suits m (program ExportDecl) Declaration = refl
mode_suits m (program ExportDefaultFn) BindingIdent = refl
mode_suits m (statement (Var v)) Declarators = refl
mode_suits m (statement (ForDeclaration v)) Declarators = refl
mode_suits m (statement (ForBinding v)) (Pat Binds) = refl
mode_suits m (statement FunctionDecl) BindingIdent = refl
mode_suits m (statement ClassDecl) BindingIdent = refl
mode_suits m (statement Catch) (Pat Binds) = refl
mode_suits m (function FunctionExpr) BindingIdent = refl
mode_suits m (function ClassExpr) BindingIdent = refl
mode_suits m k c = other_suits m k c

-- ---- what exports names tells their texts, wherever it may stand

abbrev mutual
  pub names_told : Tree → Told → Bool
  names_told (leaf s t) d = true
  names_told (node k ts) (tells cs ds) = not (is_outer k) || (own_told k ds && parts_named (positions k) ts ds)
  names_told (list ts) (tells cs ds) = each_named ts ds

  pub parts_named : List Position → Forest → Tales → Bool
  parts_named [] ts ds = true
  parts_named (s ∷ ss) none ds = true
  parts_named (position f c g b a ∷ ss) (part t ts) ds = (is_deep c || names_told t (head_tale ds)) && parts_named ss ts (tail_tales ds)

  pub each_named : Forest → Tales → Bool
  each_named none ds = true
  each_named (part t ts) ds = names_told t (head_tale ds) && each_named ts (tail_tales ds)

own_plain : (k : Kind) (ds : Tales) → is_outer k ≡ false → own_told k ds ≡ true
own_plain (program (Specifier Exported)) ds e = never (sym e)
own_plain (program (Specifier From)) ds e = never (sym e)
own_plain (program (SpecifierAs Exported)) ds e = never (sym e)
own_plain (program (SpecifierAs From)) ds e = never (sym e)
own_plain (program ExportAllAs) ds e = never (sym e)
own_plain k ds e = refl

abbrev all_deep : List Position → Bool
all_deep [] = true
all_deep (position f c g b a ∷ ss) = is_deep c && all_deep ss

deep_parts : (k : Kind) → is_outer k ≡ false → all_deep (positions k) ≡ true
deep_parts (program Module) e = never (sym e)
deep_parts (program ExportNames) e = never (sym e)
deep_parts (program ExportFrom) e = never (sym e)
deep_parts (program (Specifier Imported)) e = refl
deep_parts (program (Specifier s)) e = refl
deep_parts (program (SpecifierAs Imported)) e = refl
deep_parts (program (SpecifierAs s)) e = refl
deep_parts (statement Block) e = refl
deep_parts (statement (Var VarWord)) e = refl
deep_parts (statement (ForDeclaration VarWord)) e = refl
deep_parts (statement (ForBinding VarWord)) e = refl
deep_parts (function FunctionExpr) e = refl
deep_parts (function (Method InObject)) e = refl
deep_parts (function (Getter InObject)) e = refl
deep_parts (function (Setter InObject)) e = refl
deep_parts (function (Field InObject)) e = refl
deep_parts (function (ArrayPat Binds)) e = refl
deep_parts (function (ObjectPat Binds)) e = refl
deep_parts (function (PropertyPat Binds)) e = refl
deep_parts (function (ShorthandPat Binds)) e = refl
deep_parts (function (ShorthandInit Binds)) e = refl
deep_parts (function (WithInit Binds)) e = refl
deep_parts (function (RestPat Binds)) e = refl
deep_parts (function (RestProperty Binds)) e = refl
deep_parts (expression Seq) e = refl
deep_parts (expression (Binary Nullish)) e = refl
deep_parts (expression (OpAssign Nullish)) e = refl
deep_parts (expression (Unary Delete)) e = refl
deep_parts (expression (PrefixUpdate Increment)) e = refl
deep_parts (expression (PostfixUpdate Increment)) e = refl
deep_parts (expression (NameLink true)) e = refl
deep_parts (expression (IndexLink true)) e = refl
deep_parts (expression (CallLink true)) e = refl
deep_parts (expression (PlainTemplate true)) e = refl
deep_parts (expression (SubstitutedTemplate true)) e = refl
deep_parts (expression (TemplateSpan true)) e = refl
deep_parts (jsx Element) e = refl
deep_parts k e = refl

deep_named : (ss : List Position) (ts : Forest) (ds : Tales) → all_deep ss ≡ true → parts_named ss ts ds ≡ true
deep_named [] ts ds h = refl
deep_named (s ∷ ss) none ds h = refl
deep_named (position f c g b a ∷ ss) (part t ts) ds h =
    and_both (is_deep c || names_told t (head_tale ds)) (parts_named ss ts (tail_tales ds))
    (ap (λ z. z || names_told t (head_tale ds)) (and_left (is_deep c) (all_deep ss) h)) (deep_named ss ts (tail_tales ds) (and_right (is_deep c) (all_deep ss) h))

-- so of each node that stands where it may
node_named : (c : Nonterminal) (k : Kind) (ts : Forest) (cs : List Claim) (ds : Tales) → is_seated c k ≡ true → is_deep c || names_told (node k ts) (tells cs ds) ≡ true → own_told k ds && parts_named (positions k) ts ds ≡ true
node_named c k ts cs ds s h = by (is_deep c) (is_outer k) s h (λ e. and_both (own_told k ds) (parts_named (positions k) ts ds) (own_plain k ds e) (deep_named (positions k) ts ds (deep_parts k e))) refl
  where
    by : (d o : Bool) → not d || not o ≡ true → d || (not o || (own_told k ds && parts_named (positions k) ts ds)) ≡ true → (is_outer k ≡ false → own_told k ds && parts_named (positions k) ts ds ≡ true) → is_outer k ≡ o → own_told k ds && parts_named (positions k) ts ds ≡ true
    by d false s h f e = f e
    by true true s h f e = never s
    by false true s h f e = h

-- ---- paths

-- what stands at a path and below it
abbrev pub Leads : Path → Placed → Placed → Type 0
Leads p x q = (is : Path) → byte_at (p ++ is) q ≡ byte_at is x

here_leads : (p : Path) (x q : Placed) → Leads p x q → byte_at p q ≡ byte_at [] x
here_leads p x q l = ap (λ z. byte_at z q) (sym (append-nil p)) ∙ l []

first_leads : (p : Path) (i : ℕ) (x : Placed) (ps : Places) (q : Placed) → Among p i (and x ps) q → Leads (below p i) x q
first_leads p i x ps q m is = ap (λ z. byte_at z q) (append_assoc p (i ∷ []) is) ∙ m 0 is

rest_among : (p : Path) (i : ℕ) (x : Placed) (ps : Places) (q : Placed) → Among p i (and x ps) q → Among p (suc i) ps q
rest_among p i x ps q m j is = m (suc j) is

far_is : (j i : ℕ) → far j i ≡ j + i
far_is zero i = omega arith
far_is (suc j) i = far_is j (suc i) ∙ omega arith

pub far_zero : (j : ℕ) → far j 0 ≡ j
far_zero j = far_is j 0 ∙ omega arith

node_among : (p : Path) (e : Extent) (k : Kind) (ps : Places) (q : Placed) → Leads p (node_at e k ps) q → Among p 0 ps q
node_among p e k ps q l j is = l (far j 0 ∷ is) ∙ ap (λ z. byte_among z is ps) (far_zero j)

default_among : (p : Path) (at : ℕ) (e : Extent) (k : Kind) (ps : Places) (q : Placed) → Leads p (default_at at e k ps) q → Among p 0 ps q
default_among p at e k ps q l j is = l (far j 0 ∷ is) ∙ ap (λ z. byte_among z is ps) (far_zero j)

list_among : (p : Path) (ps : Places) (q : Placed) → Leads p (list_at ps) q → Among p 0 ps q
list_among p ps q l j is = l (far j 0 ∷ is) ∙ ap (λ z. byte_among z is ps) (far_zero j)

-- ---- scopes

around_bytes : (b : Bool) (f : Frame) (p : Path) (xs : List Met) (es : List Event) (q : Placed) → bytes_of xs ≡ bytes_in q es → bytes_of (around b f xs) ≡ bytes_in q (events'.around b f p es)
around_bytes false f p xs es q e = e
around_bytes true f p xs es q e = ap (λ z. 0 ∷ z) (join q xs (closes ∷ []) es (Closes ∷ []) e refl)

inner_bytes : (b i : Bool) (xs ys : List Met) (es fs : List Event) (q : Placed) → bytes_of xs ≡ bytes_in q es → bytes_of ys ≡ bytes_in q fs → bytes_of (entering b ++ (cond i xs [] ++ ys)) ≡ bytes_in q (events'.entering b ++ (cond i es [] ++ fs))
inner_bytes true true xs ys es fs q e f = ap (λ z. 0 ∷ z) (join q xs ys es fs e f)
inner_bytes true false xs ys es fs q e f = ap (λ z. 0 ∷ z) f
inner_bytes false true xs ys es fs q e f = join q xs ys es fs e f
inner_bytes false false xs ys es fs q e f = f

outer_bytes : (i : Bool) (xs ys : List Met) (es fs : List Event) (q : Placed) → bytes_of xs ≡ bytes_in q es → bytes_of ys ≡ bytes_in q fs → bytes_of (cond i [] xs ++ ys) ≡ bytes_in q (cond i [] es ++ fs)
outer_bytes true xs ys es fs q e f = f
outer_bytes false xs ys es fs q e f = join q xs ys es fs e f

unpaired : (k : Kind) (ts : Forest) → is_paired k ≡ false → is_pair k ts ≡ false
unpaired (expression Parenthesized) ts e = never (sym e)
unpaired (function ParenTarget) ts e = never (sym e)
unpaired k ts e = refl

-- a node, by its parts
node_bytes : (m : Mode) (r : Kind) (c : Nonterminal) (k : Kind) (p : Path) (ts : Forest) (cs : List Claim) (ds : Tales) (q : Placed) → is_paired k ≡ false
    → bytes_of (node_said k ts cs ds) ≡ bytes_in q (of_node k p ts)
    → bytes_of (said_parts false m k (positions k) ts ds) ≡ bytes_in q (events_parts false m k p 0 (positions k) ts)
    → bytes_of (said_parts true m k (positions k) ts ds) ≡ bytes_in q (events_parts true m k p 0 (positions k) ts)
    → bytes_of (said m (naming r c) (round r) (node k ts) (tells cs ds)) ≡ bytes_in q (events_below m r c p (node k ts))
node_bytes m r c k p ts cs ds q u own x y =
    ap bytes_of (said_node m (naming r c) (round r) k ts cs ds (unpaired k ts u))
    ∙ (ap (λ b. bytes_of (around b (frame k) (node_said k ts cs ds ++ (said_parts false m k (positions k) ts ds ++ around (has_scope k) (inner k) (said_parts true m k (positions k) ts ds))))) (scoped_alike r k)
    ∙ around_bytes (is_scope r k) (frame k) p (node_said k ts cs ds ++ (said_parts false m k (positions k) ts ds ++ around (has_scope k) (inner k) (said_parts true m k (positions k) ts ds)))
    (of_node k p ts ++ (events_parts false m k p 0 (positions k) ts ++ events'.around (has_scope k) (inner k) p (events_parts true m k p 0 (positions k) ts))) q
    (join q (node_said k ts cs ds) (said_parts false m k (positions k) ts ds ++ around (has_scope k) (inner k) (said_parts true m k (positions k) ts ds))
    (of_node k p ts) (events_parts false m k p 0 (positions k) ts ++ events'.around (has_scope k) (inner k) p (events_parts true m k p 0 (positions k) ts)) own
    (join q (said_parts false m k (positions k) ts ds) (around (has_scope k) (inner k) (said_parts true m k (positions k) ts ds)) (events_parts false m k p 0 (positions k) ts) (events'.around (has_scope k) (inner k) p (events_parts true m k p 0 (positions k) ts)) x
    (around_bytes (has_scope k) (inner k) p (said_parts true m k (positions k) ts ds) (events_parts true m k p 0 (positions k) ts) q y))))

-- ---- trees

each_first : (d a b : Bool) → d || (a && b) ≡ true → (d || a ≡ true) × (d || b ≡ true)
each_first true a b h = (refl, refl)
each_first false a b h = (and_left a b h, and_right a b h)

mutual
  pub tree_bytes : (m : Mode) (r : Kind) (c : Nonterminal) (p : Path) (t : Tree) (d : Told) (x q : Placed) → suits m c ≡ true → IsShaped c t x → IsTold d x → is_deep c || names_told t d ≡ true → Leads p x q
      → bytes_of (said m (naming r c) (round r) t d) ≡ bytes_in q (events_below m r c p t)
  tree_bytes m r c p (leaf s t) d (leaf_at at e k u) q v h g n l = leaf_bytes m r c p s t (its d) q v h.1.1 (λ o. leaf_byte c s t (leaf_at at e k u) d h g o ∙ sym (here_leads p (leaf_at at e k u) q l))
  tree_bytes m r c p (leaf s t) d (node_at e k ps) q v h g n l = absurd h
  tree_bytes m r c p (leaf s t) d (default_at at e k ps) q v h g n l = absurd h
  tree_bytes m r c p (leaf s t) d (list_at ps) q v h g n l = absurd h
  tree_bytes m r c p (node k ts) (tells cs ds) (node_at e j ps) q v h g n l =
      let i = node_named c k ts cs ds h.1.1.0 n in
      let a = node_among p e j ps q l in
      node_bytes m r c k p ts cs ds q h.0
      (own_bytes k p ts cs ds ps q h.1.1.1 g.1 (and_left (own_told k ds) (parts_named (positions k) ts ds) i) a (λ z. never (sym (sym z ∙ h.1.0))))
      (parts_bytes false m k p 0 (positions k) ts ds ps q h.1.1.1 g.1 (and_right (own_told k ds) (parts_named (positions k) ts ds) i) a)
      (parts_bytes true m k p 0 (positions k) ts ds ps q h.1.1.1 g.1 (and_right (own_told k ds) (parts_named (positions k) ts ds) i) a)
  tree_bytes m r c p (node k ts) (tells cs ds) (default_at at e j ps) q v h g n l =
      let i = node_named c k ts cs ds h.1.1.0 n in
      let a = default_among p at e j ps q l in
      node_bytes m r c k p ts cs ds q h.0
      (own_bytes k p ts cs ds ps q h.1.1.1 g.1.1 (and_left (own_told k ds) (parts_named (positions k) ts ds) i) a (λ z. default_byte e at cs g.0 g.1.0 ∙ sym (here_leads p (default_at at e j ps) q l)))
      (parts_bytes false m k p 0 (positions k) ts ds ps q h.1.1.1 g.1.1 (and_right (own_told k ds) (parts_named (positions k) ts ds) i) a)
      (parts_bytes true m k p 0 (positions k) ts ds ps q h.1.1.1 g.1.1 (and_right (own_told k ds) (parts_named (positions k) ts ds) i) a)
  tree_bytes m r c p (node k ts) d (leaf_at at e j u) q v h g n l = absurd h
  tree_bytes m r c p (node k ts) d (list_at ps) q v h g n l = absurd h
  tree_bytes m r c p (list ts) (tells cs ds) (list_at ps) q v h g n l = each_bytes m r c p 0 ts ds ps q v h g.1 n (list_among p ps q l)
  tree_bytes m r c p (list ts) d (leaf_at at e j u) q v h g n l = absurd h
  tree_bytes m r c p (list ts) d (node_at e j ps) q v h g n l = absurd h
  tree_bytes m r c p (list ts) d (default_at at e j ps) q v h g n l = absurd h

  parts_bytes : (b : Bool) (m : Mode) (k : Kind) (p : Path) (i : ℕ) (ss : List Position) (ts : Forest) (ds : Tales) (ps : Places) (q : Placed) → AreShaped ss ts ps → AreTold ds ps → parts_named ss ts ds ≡ true → Among p i ps q
      → bytes_of (said_parts b m k ss ts ds) ≡ bytes_in q (events_parts b m k p i ss ts)
  parts_bytes b m k p i [] ts ds ps q h g n a = refl
  parts_bytes b m k p i (s ∷ ss) none ds ps q h g n a = refl
  parts_bytes true m k p i (position f c r o w ∷ ss) (part t ts) (tale d ds) (and x ps) q h g n a =
      inner_bytes (is_behind k c) (is_inner k c) (said (mode m k c) (naming k c) (round k) t d) (said_parts true m k ss ts ds) (events_below (mode m k c) k c (below p i) t) (events_parts true m k p (suc i) ss ts) q
      (tree_bytes (mode m k c) k c (below p i) t d x q (mode_suits m k c) h.0 g.0 (and_left (is_deep c || names_told t d) (parts_named ss ts ds) n) (first_leads p i x ps q a))
      (parts_bytes true m k p (suc i) ss ts ds ps q h.1 g.1 (and_right (is_deep c || names_told t d) (parts_named ss ts ds) n) (rest_among p i x ps q a))
  parts_bytes false m k p i (position f c r o w ∷ ss) (part t ts) (tale d ds) (and x ps) q h g n a =
      outer_bytes (is_inner k c) (said (mode m k c) (naming k c) (round k) t d) (said_parts false m k ss ts ds) (events_below (mode m k c) k c (below p i) t) (events_parts false m k p (suc i) ss ts) q
      (tree_bytes (mode m k c) k c (below p i) t d x q (mode_suits m k c) h.0 g.0 (and_left (is_deep c || names_told t d) (parts_named ss ts ds) n) (first_leads p i x ps q a))
      (parts_bytes false m k p (suc i) ss ts ds ps q h.1 g.1 (and_right (is_deep c || names_told t d) (parts_named ss ts ds) n) (rest_among p i x ps q a))
  parts_bytes b m k p i (position f c r o w ∷ ss) (part t ts) no_tales (and x ps) q h g n a = absurd g
  parts_bytes b m k p i (position f c r o w ∷ ss) (part t ts) ds end q h g n a = absurd h

  each_bytes : (m : Mode) (r : Kind) (c : Nonterminal) (p : Path) (i : ℕ) (ts : Forest) (ds : Tales) (ps : Places) (q : Placed) → suits m c ≡ true → EachShaped c ts ps → AreTold ds ps → is_deep c || each_named ts ds ≡ true → Among p i ps q
      → bytes_of (said_each m (naming r c) (round r) ts ds) ≡ bytes_in q (events_each m r c p i ts)
  each_bytes m r c p i none ds ps q v h g n a = refl
  each_bytes m r c p i (part t ts) (tale d ds) (and x ps) q v h g n a =
      let both = each_first (is_deep c) (names_told t d) (each_named ts ds) n in
      join q (said m (naming r c) (round r) t d) (said_each m (naming r c) (round r) ts ds) (events_below m r c (below p i) t) (events_each m r c p (suc i) ts)
      (tree_bytes m r c (below p i) t d x q v h.0 g.0 both.0 (first_leads p i x ps q a))
      (each_bytes m r c p (suc i) ts ds ps q v h.1 g.1 both.1 (rest_among p i x ps q a))
  each_bytes m r c p i (part t ts) no_tales (and x ps) q v h g n a = absurd g
  each_bytes m r c p i (part t ts) ds end q v h g n a = absurd h

-- a whole program
pub program_bytes : (t : Tree) (d : Told) (q : Placed) → IsShaped WholeProgram t q → IsTold d q → names_told t d ≡ true → bytes_of (of_program t d) ≡ bytes_in q (events t)
program_bytes t d q h g n = tree_bytes Plain (program Script) WholeProgram [] t d q q refl h g n (λ is. refl)
