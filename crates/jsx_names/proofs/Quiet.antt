-- An expression declares nothing outside of itself.
use Rattle.std.proofs.Common.{◌≡◌, ℕ, suc, List, [], ◌∷◌, ◌++◌, Bool, true, false, cond, ◌&&◌, ◌||◌, refl, ap, ◌∙◌}
use Rattle.jsx_tree.specs.Kinds.{Imported, Specifier, SpecifierAs, ExportDefaultClass, InObject, Binds, FunctionExpr, ClassExpr, Method, Getter, Setter, Field, Assigns, ArrayPat, ObjectPat, PropertyPat, ShorthandPat, ShorthandInit, WithInit, RestPat, RestProperty, Nullish, Delete, Increment, OpAssign, Binary, Unary, PrefixUpdate, PostfixUpdate, NameLink, IndexLink, CallLink, PlainTemplate, SubstitutedTemplate, TemplateSpan, Element, Kind, program, statement, function, expression, jsx, Tree, leaf, node, list, Forest, none, part}
use Rattle.jsx_tree.specs.Nonterminals.{Nonterminal, Ident, BindingIdent, Name, StringOnly, Pat, Slot, PatProp, PatElement, Param, SetterParam, Declarators, Stmt, SubStmt, Item, DirectiveOnly, Body, BlockOnly, CaseClause, CatchClause, Declaration, ClassOnly, ForInit, ForHead, ForOfHead, ImportClause, ImportBindings, Specifiers, WholeProgram}
use Rattle.jsx_tree.specs.Form.{Form, Single, Maybe, Several, Position, position, positions, at_most_one}
use Rattle.jsx_tree.specs.Sound.{each_node, each_nodes}
use Rattle.jsx_tree.specs.Scopes.{Path, below, Sort, AsVar, AsParameter, AsFunction, AsLexical}
use Rattle.jsx_tree.proofs.Tokens.{and_left, and_right, and_both}
use Rattle.jsx_names.specs.Events.{Frame, Mode, Plain, Exporting, Binding, mode, is_scope, frame, has_scope, inner, is_inner}
use Rattle.jsx_names.specs.Answers.{Named, is_passed, reaches}
use Rattle.jsx_names.specs.Given.{passing, held, given, given_parts, given_each}
use Rattle.jsx_names.specs.Proper.{is_value, is_pattern, is_specifier, fits, stands, each_stands, has_form, fill, is_proper}

-- places of expressions and of what they are made of, and of names
abbrev pub is_quiet : Nonterminal → Bool
is_quiet WholeProgram = false
is_quiet Stmt = false
is_quiet SubStmt = false
is_quiet Item = false
is_quiet Declaration = false
is_quiet BlockOnly = false
is_quiet CaseClause = false
is_quiet CatchClause = false
is_quiet ClassOnly = false
is_quiet Body = false
is_quiet ForInit = false
is_quiet ForHead = false
is_quiet ForOfHead = false
is_quiet DirectiveOnly = false
is_quiet Declarators = false
is_quiet ImportClause = false
is_quiet ImportBindings = false
is_quiet c = true

-- trees of expressions
abbrev mutual
  pub valued : Tree → Bool
  valued (leaf s t) = true
  valued (node k cs) = is_value k
  valued (list ts) = each_valued ts

  pub each_valued : Forest → Bool
  each_valued none = true
  each_valued (part t ts) = valued t && each_valued ts

-- a pattern is a value
of_pattern : (k : Kind) → is_pattern k ≡ true → is_value k ≡ true
of_pattern (function k) h = refl
of_pattern (program k) h = cc
of_pattern (statement k) h = cc
of_pattern (expression k) h = cc
of_pattern (jsx k) h = cc

of_specifier : (k : Kind) → is_specifier k ≡ true → is_value k ≡ true
of_specifier (program (Specifier s)) h = refl
of_specifier (program (SpecifierAs s)) h = refl
of_specifier k h = cc

pattern_value : (k : Kind) (c : Nonterminal) → is_quiet c ≡ true → fits c k ≡ true → is_value k ≡ true
pattern_value k (Pat Binds) q h = of_pattern k h
pattern_value k (Slot Binds) q h = of_pattern k h
pattern_value k (PatElement Binds) q h = of_pattern k h
pattern_value k (PatProp Binds) q h = of_pattern k h
pattern_value k Param q h = of_pattern k h
pattern_value k SetterParam q h = of_pattern k h
pattern_value k (Specifiers s) q h = of_specifier k h
pattern_value k (Pat Assigns) q h = h
pattern_value k (Slot Assigns) q h = h
pattern_value k (PatElement Assigns) q h = h
pattern_value k (PatProp Assigns) q h = h
pattern_value k Ident q h = cc
pattern_value k BindingIdent q h = cc
pattern_value k Name q h = cc
pattern_value k StringOnly q h = cc
pattern_value k WholeProgram q h = cc
pattern_value k Stmt q h = cc
pattern_value k SubStmt q h = cc
pattern_value k Item q h = cc
pattern_value k Declaration q h = cc
pattern_value k BlockOnly q h = cc
pattern_value k CaseClause q h = cc
pattern_value k CatchClause q h = cc
pattern_value k ClassOnly q h = cc
pattern_value k Body q h = cc
pattern_value k ForInit q h = cc
pattern_value k ForHead q h = cc
pattern_value k ForOfHead q h = cc
pattern_value k DirectiveOnly q h = cc
pattern_value k Declarators q h = cc
pattern_value k ImportClause q h = cc
pattern_value k ImportBindings q h = cc
pattern_value k c q h = h

stands_valued : (c : Nonterminal) (t : Tree) → is_quiet c ≡ true → stands c t ≡ true → valued t ≡ true
stands_valued c (leaf s x) q h = refl
stands_valued c (node k cs) q h = pattern_value k c q h
stands_valued c (list ts) q h = cc

each_stands_valued : (c : Nonterminal) (ts : Forest) → is_quiet c ≡ true → each_stands c ts ≡ true → each_valued ts ≡ true
each_stands_valued c none q h = refl
each_stands_valued c (part t ts) q h = and_both _ _ (stands_valued c t q (and_left (stands c t) (each_stands c ts) h)) (each_stands_valued c ts q (and_right (stands c t) (each_stands c ts) h))

pub form_valued : (f : Form) (c : Nonterminal) (t : Tree) → is_quiet c ≡ true → has_form f c t ≡ true → valued t ≡ true
form_valued Single c t q h = stands_valued c t q h
form_valued Maybe c (list ts) q h = each_stands_valued c ts q (and_right (at_most_one ts) (each_stands c ts) h)
form_valued Maybe c (leaf s x) q h = refl
form_valued Maybe c (node k cs) q h = cc
form_valued (Several s) c (list ts) q h = each_stands_valued c ts q h
form_valued (Several s) c (leaf a x) q h = refl
form_valued (Several s) c (node k cs) q h = cc

-- nothing passes a function, or the scope of an own name
shut_out : (f : Frame) (s : Sort) → is_passed f ≡ false → reaches s (f ∷ []) ≡ false
shut_out f AsVar h = ap (λ b. b && true) h
shut_out f AsParameter h = refl
shut_out f AsFunction h = refl
shut_out f AsLexical h = refl

pub none_pass : (f : Frame) (ds : List Named) → is_passed f ≡ false → passing (f ∷ []) ds ≡ []
none_pass f [] h = refl
none_pass f (d ∷ ds) h = ap (λ b. cond b (d ∷ []) [] ++ passing (f ∷ []) ds) (shut_out f d.is.sort h) ∙ none_pass f ds h

abbrev pub is_plain : Mode → Bool
is_plain Plain = true
is_plain m = false

pub plain_is : (m : Mode) → is_plain m ≡ true → m ≡ Plain
plain_is Plain h = refl
plain_is Exporting h = cc
plain_is (Binding w s) h = cc

-- the parts inside of a node's inner scope, or outside of it, are places of expressions where no name is bound
abbrev pub quiet_inner : Mode → Kind → List Position → Bool
quiet_inner m k [] = true
quiet_inner m k (position f c g o a ∷ ss) = cond (is_inner k c) (is_plain (mode m k c) && is_quiet c) true && quiet_inner m k ss

abbrev pub quiet_outer : Mode → Kind → List Position → Bool
quiet_outer m k [] = true
quiet_outer m k (position f c g o a ∷ ss) = cond (is_inner k c) true (is_plain (mode m k c) && is_quiet c) && quiet_outer m k ss

abbrev is_named : Kind → Bool
is_named (function FunctionExpr) = true
is_named (function ClassExpr) = true
is_named k = false

abbrev quiet_row : Kind → Bool
quiet_row k = is_named k || (quiet_outer Plain k (positions k) && (has_scope k || quiet_inner Plain k (positions k)))

-- computed for each kind
all_quiet : (k : Kind) → is_value k ≡ true → quiet_row k ≡ true
all_quiet (program (Specifier Imported)) h = refl
all_quiet (program (Specifier s)) h = refl
all_quiet (program (SpecifierAs Imported)) h = refl
all_quiet (program (SpecifierAs s)) h = refl
all_quiet (program k) h = cc
all_quiet (statement k) h = cc
all_quiet (function FunctionExpr) h = refl
all_quiet (function (Method InObject)) h = refl
all_quiet (function (Getter InObject)) h = refl
all_quiet (function (Setter InObject)) h = refl
all_quiet (function (Field InObject)) h = refl
all_quiet (function (ArrayPat Binds)) h = refl
all_quiet (function (ObjectPat Binds)) h = refl
all_quiet (function (PropertyPat Binds)) h = refl
all_quiet (function (ShorthandPat Binds)) h = refl
all_quiet (function (ShorthandInit Binds)) h = refl
all_quiet (function (WithInit Binds)) h = refl
all_quiet (function (RestPat Binds)) h = refl
all_quiet (function (RestProperty Binds)) h = refl
all_quiet (expression (Binary Nullish)) h = refl
all_quiet (expression (OpAssign Nullish)) h = refl
all_quiet (expression (Unary Delete)) h = refl
all_quiet (expression (PrefixUpdate Increment)) h = refl
all_quiet (expression (PostfixUpdate Increment)) h = refl
all_quiet (expression (NameLink true)) h = refl
all_quiet (expression (IndexLink true)) h = refl
all_quiet (expression (CallLink true)) h = refl
all_quiet (expression (PlainTemplate true)) h = refl
all_quiet (expression (SubstitutedTemplate true)) h = refl
all_quiet (expression (TemplateSpan true)) h = refl
all_quiet (jsx Element) h = refl
all_quiet k h = refl

pub if_inner : (b : Bool) (m : Mode) (q : Kind) (p : Path) (t : Tree) → (b ≡ true → m ≡ Plain) → (b ≡ true → given Plain q p t ≡ []) → cond b (given m q p t) [] ≡ []
if_inner true m q p t e h = ap (λ z. given z q p t) (e refl) ∙ h refl
if_inner false m q p t e h = refl

if_outer : (b : Bool) (m : Mode) (q : Kind) (p : Path) (t : Tree) → (b ≡ false → m ≡ Plain) → (b ≡ false → given Plain q p t ≡ []) → cond b [] (given m q p t) ≡ []
if_outer false m q p t e h = ap (λ z. given z q p t) (e refl) ∙ h refl
if_outer true m q p t e h = refl

pub then_so : (b x : Bool) → b ≡ true → cond b x true ≡ true → x ≡ true
then_so true x e h = h
then_so false x e h = cc

pub else_so : (b x : Bool) → b ≡ false → cond b true x ≡ true → x ≡ true
else_so false x e h = h
else_so true x e h = cc

pub no_more : {xs ys : List Named} → xs ≡ [] → ys ≡ [] → xs ++ ys ≡ []
no_more {xs} {ys} e f = ap (λ z. z ++ ys) e ∙ f

held_none : (b : Bool) (f : Frame) {ds : List Named} → ds ≡ [] → held b f ds ≡ []
held_none true f e = ap (passing (f ∷ [])) e
held_none false f e = e

inner_shut : (k : Kind) → is_value k ≡ true → has_scope k ≡ true → is_passed (inner k) ≡ false
inner_shut (program (Specifier s)) h i = cc
inner_shut (program (SpecifierAs s)) h i = cc
inner_shut (program k) h i = cc
inner_shut (statement k) h i = cc
inner_shut k h i = refl

scope_named : (q k : Kind) → is_value k ≡ true → is_named k ≡ false → is_scope q k ≡ false
scope_named q (program (Specifier s)) h i = refl
scope_named q (program (SpecifierAs s)) h i = refl
scope_named q (program k) h i = cc
scope_named q (statement k) h i = cc
scope_named q (function FunctionExpr) h i = i
scope_named q (function ClassExpr) h i = cc
scope_named q k h i = refl

named_frame : (k : Kind) → is_named k ≡ true → is_passed (frame k) ≡ false
named_frame (function k) h = refl
named_frame (program k) h = cc
named_frame (statement k) h = cc
named_frame (expression k) h = cc
named_frame (jsx k) h = cc

-- what the class behind `export default` declares isn't its own
abbrev pub is_default : Kind → Bool
is_default (program ExportDefaultClass) = true
is_default k = false

named_scope : (q k : Kind) → is_default q ≡ false → is_named k ≡ true → is_scope q k ≡ true
named_scope q (function FunctionExpr) d h = refl
named_scope (program ExportDefaultClass) (function ClassExpr) d h = cc
named_scope q (function ClassExpr) d h = refl
named_scope q k d h = cc

pub value_default : (k : Kind) → is_value k ≡ true → is_default k ≡ false
value_default (program (Specifier s)) h = refl
value_default (program (SpecifierAs s)) h = refl
value_default (program k) h = cc
value_default k h = refl

-- what a node gives, of what its parts give
abbrev pub of_parts : Kind → Kind → List Named → List Named → List Named
of_parts q k os is = held (is_scope q k) (frame k) (os ++ held (has_scope k) (inner k) is)

or_right : (a b : Bool) → a ≡ false → a || b ≡ true → b ≡ true
or_right false b e h = h
or_right true b e h = cc

quiet_rest : (q k : Kind) (os is : List Named) → is_value k ≡ true → (quiet_inner Plain k (positions k) ≡ true → is ≡ []) → (b : Bool) → has_scope k ≡ b → b || quiet_inner Plain k (positions k) ≡ true → held b (inner k) is ≡ []
quiet_rest q k os is v g true e h = none_pass (inner k) is (inner_shut k v e)
quiet_rest q k os is v g false e h = g h

quiet_node : (q k : Kind) (os is : List Named) → is_default q ≡ false → is_value k ≡ true → (quiet_outer Plain k (positions k) ≡ true → os ≡ []) → (quiet_inner Plain k (positions k) ≡ true → is ≡ []) → of_parts q k os is ≡ []
quiet_node q k os is d v f g = go (is_named k) refl
  where
    go : (b : Bool) → is_named k ≡ b → of_parts q k os is ≡ []
    go true e = ap (λ b. held b (frame k) (os ++ held (has_scope k) (inner k) is)) (named_scope q k d e) ∙ none_pass (frame k) (os ++ held (has_scope k) (inner k) is) (named_frame k e)
    go false e =
        let h : (quiet_outer Plain k (positions k) && (has_scope k || quiet_inner Plain k (positions k))) ≡ true = or_right (is_named k) _ e (all_quiet k v) in
        held_none (is_scope q k) (frame k) (no_more (f (and_left _ _ h)) (quiet_rest q k os is v g (has_scope k) refl (and_right (quiet_outer Plain k (positions k)) _ h)))

mutual
  pub quiet_tree : (q : Kind) (p : Path) (t : Tree) → is_default q ≡ false → valued t ≡ true → each_node is_proper t ≡ true → given Plain q p t ≡ []
  quiet_tree q p (leaf s x) d v h = refl
  quiet_tree q p (list ts) d v h = quiet_each q p 0 ts d v h
  quiet_tree q p (node k cs) d v h =
      quiet_node q k (given_parts false Plain k p 0 (positions k) cs) (given_parts true Plain k p 0 (positions k) cs) d v
      (λ e. quiet_outers Plain k p 0 (positions k) cs (value_default k v) e (and_left (fill (positions k) cs) (each_nodes is_proper cs) h) (and_right (fill (positions k) cs) (each_nodes is_proper cs) h))
      (λ e. quiet_inners Plain k p 0 (positions k) cs (value_default k v) e (and_left (fill (positions k) cs) (each_nodes is_proper cs) h) (and_right (fill (positions k) cs) (each_nodes is_proper cs) h))

  pub quiet_outers : (m : Mode) (k : Kind) (p : Path) (i : ℕ) (ss : List Position) (cs : Forest) → is_default k ≡ false → quiet_outer m k ss ≡ true → fill ss cs ≡ true → each_nodes is_proper cs ≡ true → given_parts false m k p i ss cs ≡ []
  quiet_outers m k p i [] cs d e f h = refl
  quiet_outers m k p i (s ∷ ss) none d e f h = refl
  quiet_outers m k p i (position f c g o a ∷ ss) (part t ts) d e w h =
      no_more
      (if_outer (is_inner k c) (mode m k c) k (below p i) t
      (λ x. plain_is (mode m k c) (and_left _ _ (else_so (is_inner k c) _ x (and_left _ _ e))))
      (λ x. quiet_tree k (below p i) t d (form_valued f c t (and_right (is_plain (mode m k c)) _ (else_so (is_inner k c) _ x (and_left _ _ e))) (and_left _ _ w)) (and_left _ _ h)))
      (quiet_outers m k p (suc i) ss ts d (and_right (cond (is_inner k c) true (is_plain (mode m k c) && is_quiet c)) _ e) (and_right (has_form f c t) _ w) (and_right (each_node is_proper t) _ h))

  pub quiet_inners : (m : Mode) (k : Kind) (p : Path) (i : ℕ) (ss : List Position) (cs : Forest) → is_default k ≡ false → quiet_inner m k ss ≡ true → fill ss cs ≡ true → each_nodes is_proper cs ≡ true → given_parts true m k p i ss cs ≡ []
  quiet_inners m k p i [] cs d e f h = refl
  quiet_inners m k p i (s ∷ ss) none d e f h = refl
  quiet_inners m k p i (position f c g o a ∷ ss) (part t ts) d e w h =
      no_more
      (if_inner (is_inner k c) (mode m k c) k (below p i) t
      (λ x. plain_is (mode m k c) (and_left _ _ (then_so (is_inner k c) _ x (and_left _ _ e))))
      (λ x. quiet_tree k (below p i) t d (form_valued f c t (and_right (is_plain (mode m k c)) _ (then_so (is_inner k c) _ x (and_left _ _ e))) (and_left _ _ w)) (and_left _ _ h)))
      (quiet_inners m k p (suc i) ss ts d (and_right (cond (is_inner k c) (is_plain (mode m k c) && is_quiet c) true) _ e) (and_right (has_form f c t) _ w) (and_right (each_node is_proper t) _ h))

  quiet_each : (q : Kind) (p : Path) (i : ℕ) (ts : Forest) → is_default q ≡ false → each_valued ts ≡ true → each_nodes is_proper ts ≡ true → given_each Plain q p i ts ≡ []
  quiet_each q p i none d v h = refl
  quiet_each q p i (part t ts) d v h =
      no_more (quiet_tree q (below p i) t d (and_left (valued t) (each_valued ts) v) (and_left _ _ h)) (quiet_each q p (suc i) ts d (and_right (valued t) (each_valued ts) v) (and_right (each_node is_proper t) _ h))
