-- The direct calls of `eval` among the events of a tree are those of the definitions.
use Rattle.std.proofs.Common.{◌≡◌, ℕ, suc, List, [], ◌∷◌, ◌++◌, Bool, true, false, cond, ◌&&◌, refl, ap, ◌∙◌, append_assoc}
use Rattle.jsx_base.specs.Token.{TokenKind, Text, IdentifierName}
use Rattle.jsx_tree.specs.Kinds.{VarWord, Imported, Module, Specifier, SpecifierAs, Block, Var, ForDeclaration, ForBinding, InObject, Binds, FunctionExpr, Method, Getter, Setter, Field, ArrayPat, ObjectPat, PropertyPat, ShorthandPat, ShorthandInit, WithInit, RestPat, RestProperty, Nullish, Delete, Increment, Seq, OpAssign, Binary, Unary, PrefixUpdate, PostfixUpdate, NameLink, IndexLink, CallLink, PlainTemplate, SubstitutedTemplate, TemplateSpan, Element, Kind, program, statement, function, expression, jsx, Tree, leaf, node, list, Forest, none, part}
use Rattle.jsx_tree.specs.Nonterminals.{Nonterminal}
use Rattle.jsx_tree.specs.Form.{Position, position, positions}
use Rattle.jsx_tree.specs.Sound.{each_node, each_nodes}
use Rattle.jsx_tree.specs.Scopes.{Path, below, is_name_at}
use Rattle.jsx_tree.specs.Clashes.{evals_here, direct_evals_below, direct_evals_each}
use Rattle.jsx_tree.proofs.Tokens.{and_left, and_right}
use Rattle.jsx_names.specs.Events.{Event, Refers, Way, Simply, Exported', InHead, Mode, Binding, mode, is_scope, frame, has_scope, inner, is_inner, is_behind, entering, around, exported_here, wanted_here, exported, wanted, called, of_node, exporting, of_leaf, events_below, events_parts, events_each}
use Rattle.jsx_names.specs.Answers.{evals_in}
use Rattle.jsx_names.specs.Proper.{has_form, fill, is_proper}
use Rattle.jsx_names.proofs.Calls.{evals_append, evals_around, evals_wanted, evals_exported, evals_called}

evals_node : (k : Kind) (p : Path) (cs : Forest) → evals_in (of_node k p cs) ≡ evals_here k p cs
evals_node k p cs =
    evals_append (wanted (wanted_here k p cs)) (exported (exported_here k p cs) ++ called (evals_here k p cs))
    ∙ ap (λ z. z ++ evals_in (exported (exported_here k p cs) ++ called (evals_here k p cs))) (evals_wanted (wanted_here k p cs))
    ∙ evals_append (exported (exported_here k p cs)) (called (evals_here k p cs))
    ∙ ap (λ z. z ++ evals_in (called (evals_here k p cs))) (evals_exported (exported_here k p cs))
    ∙ evals_called (evals_here k p cs)

evals_exporting : (w : Way) (t : Text) (p : Path) → evals_in (exporting w t p) ≡ []
evals_exporting Exported' t p = refl
evals_exporting Simply t p = refl
evals_exporting InHead t p = refl

evals_name : (b : Bool) (t : Text) (p : Path) → evals_in (cond b (Refers t p ∷ []) []) ≡ []
evals_name true t p = refl
evals_name false t p = refl

evals_leaf : (m : Mode) (q : Kind) (c : Nonterminal) (p : Path) (s : TokenKind) (t : Text) → evals_in (of_leaf m q c p s t) ≡ []
evals_leaf (Binding w r) q c p IdentifierName t = evals_exporting w t p
evals_leaf m q c p s t = evals_name (is_name_at q c s t) t p

evals_entering : (b : Bool) (es : List Event) → evals_in (entering b ++ es) ≡ evals_in es
evals_entering true es = refl
evals_entering false es = refl

-- parts outside of a scope stand before those inside
abbrev pub inner_all : Kind → List Position → Bool
inner_all k [] = true
inner_all k (position f c g o a ∷ ss) = is_inner k c && inner_all k ss

abbrev pub outer_first : Kind → List Position → Bool
outer_first k [] = true
outer_first k (position f c g o a ∷ ss) = cond (is_inner k c) (inner_all k ss) (outer_first k ss)

abbrev pub in_order : Kind → Bool
in_order k = outer_first k (positions k)

pub all_ordered : (k : Kind) → in_order k ≡ true
all_ordered (program Module) = refl
all_ordered (program (Specifier Imported)) = refl
all_ordered (program (SpecifierAs Imported)) = refl
all_ordered (statement Block) = refl
all_ordered (statement (Var VarWord)) = refl
all_ordered (statement (ForDeclaration VarWord)) = refl
all_ordered (statement (ForBinding VarWord)) = refl
all_ordered (function FunctionExpr) = refl
all_ordered (function (Method InObject)) = refl
all_ordered (function (Getter InObject)) = refl
all_ordered (function (Setter InObject)) = refl
all_ordered (function (Field InObject)) = refl
all_ordered (function (ArrayPat Binds)) = refl
all_ordered (function (ObjectPat Binds)) = refl
all_ordered (function (PropertyPat Binds)) = refl
all_ordered (function (ShorthandPat Binds)) = refl
all_ordered (function (ShorthandInit Binds)) = refl
all_ordered (function (WithInit Binds)) = refl
all_ordered (function (RestPat Binds)) = refl
all_ordered (function (RestProperty Binds)) = refl
all_ordered (expression Seq) = refl
all_ordered (expression (Binary Nullish)) = refl
all_ordered (expression (OpAssign Nullish)) = refl
all_ordered (expression (Unary Delete)) = refl
all_ordered (expression (PrefixUpdate Increment)) = refl
all_ordered (expression (PostfixUpdate Increment)) = refl
all_ordered (expression (NameLink true)) = refl
all_ordered (expression (IndexLink true)) = refl
all_ordered (expression (CallLink true)) = refl
all_ordered (expression (PlainTemplate true)) = refl
all_ordered (expression (SubstitutedTemplate true)) = refl
all_ordered (expression (TemplateSpan true)) = refl
all_ordered (jsx Element) = refl
all_ordered _ = refl

no_outer_events : (m : Mode) (k : Kind) (p : Path) (i : ℕ) (ss : List Position) (cs : Forest) → inner_all k ss ≡ true → events_parts false m k p i ss cs ≡ []
no_outer_events m k p i [] cs h = refl
no_outer_events m k p i (s ∷ ss) none h = refl
no_outer_events m k p i (position f c g o a ∷ ss) (part t ts) h =
    ap (λ b. cond b [] (events_below (mode m k c) k c (below p i) t) ++ events_parts false m k p (suc i) ss ts) (and_left (is_inner k c) (inner_all k ss) h)
    ∙ no_outer_events m k p (suc i) ss ts (and_right (is_inner k c) (inner_all k ss) h)

-- one part of each row, and the others
one_inner : (b : Bool) (es fs gs : List Event) (xs ys : List Path) → evals_in fs ≡ xs → gs ≡ [] → evals_in es ≡ ys → evals_in gs ++ evals_in (entering b ++ (fs ++ es)) ≡ xs ++ ys
one_inner b es fs gs xs ys f g e =
    ap (λ z. evals_in z ++ evals_in (entering b ++ (fs ++ es))) g
    ∙ evals_entering b (fs ++ es)
    ∙ evals_append fs es
    ∙ ap (λ z. z ++ evals_in es) f
    ∙ ap (λ z. xs ++ z) e

one_outer : (b : Bool) (es fs gs : List Event) (xs ys : List Path) → evals_in fs ≡ xs → evals_in gs ++ evals_in es ≡ ys → evals_in (fs ++ gs) ++ evals_in (entering b ++ es) ≡ xs ++ ys
one_outer b es fs gs xs ys f e =
    ap (λ z. z ++ evals_in (entering b ++ es)) (evals_append fs gs)
    ∙ ap (λ z. (evals_in fs ++ evals_in gs) ++ z) (evals_entering b es)
    ∙ append_assoc (evals_in fs) (evals_in gs) (evals_in es)
    ∙ ap (λ z. z ++ (evals_in gs ++ evals_in es)) f
    ∙ ap (λ z. xs ++ z) e

either : (b c : Bool) (m : Mode) (k : Kind) (p : Path) (i : ℕ) (ss : List Position) (ts : Forest) (fs : List Event) (xs ys : List Path)
    → cond b (inner_all k ss) (outer_first k ss) ≡ true
    → evals_in fs ≡ xs
    → (inner_all k ss ≡ true → evals_in (events_parts true m k p i ss ts) ≡ ys)
    → (outer_first k ss ≡ true → evals_in (events_parts false m k p i ss ts) ++ evals_in (events_parts true m k p i ss ts) ≡ ys)
    → evals_in (cond b [] fs ++ events_parts false m k p i ss ts) ++ evals_in (entering c ++ (cond b fs [] ++ events_parts true m k p i ss ts)) ≡ xs ++ ys
either true c m k p i ss ts fs xs ys h f x y = one_inner c (events_parts true m k p i ss ts) fs (events_parts false m k p i ss ts) xs ys f (no_outer_events m k p i ss ts h) (x h)
either false c m k p i ss ts fs xs ys h f x y = one_outer c (events_parts true m k p i ss ts) fs (events_parts false m k p i ss ts) xs ys f (y h)

inner_part : (b c : Bool) (fs es : List Event) (xs ys : List Path) → b ≡ true → evals_in fs ≡ xs → evals_in es ≡ ys → evals_in (entering c ++ (cond b fs [] ++ es)) ≡ xs ++ ys
inner_part true c fs es xs ys b f e = evals_entering c (fs ++ es) ∙ evals_append fs es ∙ ap (λ z. z ++ evals_in es) f ∙ ap (λ z. xs ++ z) e
inner_part false c fs es xs ys b f e = cc

mutual
  pub evals_tree : (m : Mode) (q : Kind) (c : Nonterminal) (p : Path) (t : Tree) → each_node is_proper t ≡ true → evals_in (events_below m q c p t) ≡ direct_evals_below p t
  evals_tree m q c p (leaf s t) h = evals_leaf m q c p s t
  evals_tree m q c p (list ts) h = evals_each m q c p 0 ts h
  evals_tree m q c p (node k cs) h =
      let out : List Event = events_parts false m k p 0 (positions k) cs in
      let ins : List Event = events_parts true m k p 0 (positions k) cs in
      evals_around (is_scope q k) (frame k) p (of_node k p cs ++ (out ++ around (has_scope k) (inner k) p ins))
      ∙ evals_append (of_node k p cs) (out ++ around (has_scope k) (inner k) p ins)
      ∙ ap (λ z. z ++ evals_in (out ++ around (has_scope k) (inner k) p ins)) (evals_node k p cs)
      ∙ ap (λ z. evals_here k p cs ++ z) (evals_append out (around (has_scope k) (inner k) p ins) ∙ ap (λ z. evals_in out ++ z) (evals_around (has_scope k) (inner k) p ins)
      ∙ evals_parts m k p 0 (positions k) cs (all_ordered k) (and_left (fill (positions k) cs) (each_nodes is_proper cs) h) (and_right (fill (positions k) cs) (each_nodes is_proper cs) h))

  evals_parts : (m : Mode) (k : Kind) (p : Path) (i : ℕ) (ss : List Position) (cs : Forest) → outer_first k ss ≡ true → fill ss cs ≡ true → each_nodes is_proper cs ≡ true → evals_in (events_parts false m k p i ss cs) ++ evals_in (events_parts true m k p i ss cs) ≡ direct_evals_each p i cs
  evals_parts m k p i [] none e f h = refl
  evals_parts m k p i [] (part t ts) e f h = cc
  evals_parts m k p i (s ∷ ss) none e f h = cc
  evals_parts m k p i (position f c g o a ∷ ss) (part t ts) e w h =
      either (is_inner k c) (is_behind k c) m k p (suc i) ss ts (events_below (mode m k c) k c (below p i) t) (direct_evals_below (below p i) t) (direct_evals_each p (suc i) ts) e
      (evals_tree (mode m k c) k c (below p i) t (and_left (each_node is_proper t) (each_nodes is_proper ts) h))
      (λ x. evals_inner m k p (suc i) ss ts x (and_right (has_form f c t) (fill ss ts) w) (and_right (each_node is_proper t) (each_nodes is_proper ts) h))
      (λ x. evals_parts m k p (suc i) ss ts x (and_right (has_form f c t) (fill ss ts) w) (and_right (each_node is_proper t) (each_nodes is_proper ts) h))

  evals_inner : (m : Mode) (k : Kind) (p : Path) (i : ℕ) (ss : List Position) (cs : Forest) → inner_all k ss ≡ true → fill ss cs ≡ true → each_nodes is_proper cs ≡ true → evals_in (events_parts true m k p i ss cs) ≡ direct_evals_each p i cs
  evals_inner m k p i [] none e f h = refl
  evals_inner m k p i [] (part t ts) e f h = cc
  evals_inner m k p i (s ∷ ss) none e f h = cc
  evals_inner m k p i (position f c g o a ∷ ss) (part t ts) e w h =
      inner_part (is_inner k c) (is_behind k c) (events_below (mode m k c) k c (below p i) t) (events_parts true m k p (suc i) ss ts) (direct_evals_below (below p i) t) (direct_evals_each p (suc i) ts) (and_left (is_inner k c) (inner_all k ss) e)
      (evals_tree (mode m k c) k c (below p i) t (and_left (each_node is_proper t) (each_nodes is_proper ts) h))
      (evals_inner m k p (suc i) ss ts (and_right (is_inner k c) (inner_all k ss) e) (and_right (has_form f c t) (fill ss ts) w) (and_right (each_node is_proper t) (each_nodes is_proper ts) h))

  evals_each : (m : Mode) (q : Kind) (c : Nonterminal) (p : Path) (i : ℕ) (ts : Forest) → each_nodes is_proper ts ≡ true → evals_in (events_each m q c p i ts) ≡ direct_evals_each p i ts
  evals_each m q c p i none h = refl
  evals_each m q c p i (part t ts) h =
      evals_append (events_below m q c (below p i) t) (events_each m q c p (suc i) ts)
      ∙ ap (λ z. z ++ evals_in (events_each m q c p (suc i) ts)) (evals_tree m q c (below p i) t (and_left (each_node is_proper t) (each_nodes is_proper ts) h))
      ∙ ap (λ z. direct_evals_below (below p i) t ++ z) (evals_each m q c p (suc i) ts (and_right (each_node is_proper t) (each_nodes is_proper ts) h))
