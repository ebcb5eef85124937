-- What each name of a program refers to by its events is what the definitions say.
use Rattle.std.proofs.Common.{◌≡◌, ℕ, suc, List, [], ◌∷◌, ◌++◌, Bool, true, false, cond, ◌&&◌, ◌||◌, not, refl, sym, ap, ◌∙◌, append_assoc}
use Rattle.jsx_base.specs.Token.{TokenKind, Text, IdentifierName}
use Rattle.jsx_tree.specs.Kinds.{Script, Import, ExportDecl, ExportDefaultFn, Var, ForDeclaration, ForBinding, Catch, FunctionDecl, ClassDecl, Binds, FunctionExpr, ClassExpr, Kind, program, statement, function, Tree, leaf, node, list, Forest, none, part}
use Rattle.jsx_tree.specs.Nonterminals.{Nonterminal, BindingIdent, Pat, Param, SetterParam, Declarators, Declaration, ImportClause, WholeProgram, is_ident}
use Rattle.jsx_tree.specs.Form.{Position, position, positions}
use Rattle.jsx_tree.specs.Sound.{each_node, each_nodes}
use Rattle.jsx_tree.specs.Parentheses.{asks}
use Rattle.jsx_tree.specs.Scopes.{Path, below, AsParameter, binds, assigns, is_short, is_parameter, Scope, inside, is_name_at, refers}
use Rattle.jsx_tree.proofs.Tokens.{and_left, and_right}
use Rattle.jsx_names.specs.Events.{InHead, Mode, Plain, Exporting, Binding, mode, has_scope, inner, is_inner, is_behind, events}
use Rattle.jsx_names.specs.Answers.{Standing, scopes, Answer, answer, answers}
use Rattle.jsx_names.specs.Resolved.{inner_names, stand, enter, in_node, resolved_leaf, resolved, resolved_parts, resolved_each}
use Rattle.jsx_names.specs.Referred.{referred, referred_parts, referred_each, all_referred, answer_at}
use Rattle.jsx_names.specs.Proper.{stands, has_form, fill, is_proper, is_sided, proper}
use Rattle.jsx_names.proofs.ScopeNames.{never}
use Rattle.jsx_names.proofs.Evals.{inner_all, outer_first, all_ordered}
use Rattle.jsx_names.proofs.ClashTree.{rest_first, rest_inner}
use Rattle.jsx_names.proofs.Unheaded.{is_known, is_over, framed, all_framed, known_here, last_here, framed_rest}
use Rattle.jsx_names.proofs.Sees.{Sees, part_inside, part_outside}
use Rattle.jsx_names.proofs.Found.{refers_answer}
use Rattle.jsx_names.proofs.Whole.{answers_resolved}

-- ---- names are declared at places where names are bound alone

abbrev is_placed : Mode → Nonterminal → Bool
is_placed (Binding w s) c = binds c
is_placed m c = true

placed_last : (m : Mode) (c : Nonterminal) (a b : Bool) → (a ≡ true → binds c ≡ true) → binds c ≡ b → is_placed (cond a (Binding InHead AsParameter) (cond b m Plain)) c ≡ true
placed_last m c true b h e = h refl
placed_last m c false false h e = refl
placed_last Plain c false true h e = refl
placed_last Exporting c false true h e = refl
placed_last (Binding w s) c false true h e = e

parameter_binds : (k : Kind) (c : Nonterminal) → is_parameter k c ≡ true → binds c ≡ true
parameter_binds k Param h = refl
parameter_binds k SetterParam h = refl
parameter_binds k BindingIdent h = refl
parameter_binds k c h = never h

placed_mode : (m : Mode) (k : Kind) (c : Nonterminal) → is_placed (mode m k c) c ≡ true
placed_mode m (program Import) ImportClause = refl
placed_mode m (program ExportDecl) Declaration = refl
placed_mode m (program ExportDefaultFn) BindingIdent = refl
placed_mode m (statement (Var v)) Declarators = refl
placed_mode m (statement (ForDeclaration v)) Declarators = refl
placed_mode m (statement (ForBinding v)) (Pat Binds) = refl
placed_mode m (statement FunctionDecl) BindingIdent = refl
placed_mode m (statement ClassDecl) BindingIdent = refl
placed_mode m (statement Catch) (Pat Binds) = refl
placed_mode m (function FunctionExpr) BindingIdent = refl
placed_mode m (function ClassExpr) BindingIdent = refl
placed_mode m k c = placed_last m c (is_parameter k c) (binds c) (parameter_binds k c) refl

-- ---- one name

same_answer : (b c : Bool) (st : List Standing) (ss : List Scope) (t : Text) (p : Path) → b ≡ c → Sees (scopes st) ss → cond b (answer (scopes st) t p ∷ []) [] ≡ cond c (answer ss t p ∷ []) []
same_answer b c st ss t p e s = ap (λ z. cond z (answer (scopes st) t p ∷ []) []) e ∙ ap (λ z. cond c (record { at = p; binding = z } ∷ []) []) (s.sees' t)

and_true : (b : Bool) → b && true ≡ b
and_true true = refl
and_true false = refl

bound_name : (q : Kind) (c : Nonterminal) (t : Text) → binds c ≡ true → is_ident t ≡ is_name_at q c IdentifierName t
bound_name q c t h = sym (and_true (is_ident t)) ∙ ap (λ z. is_ident t && (z || (asks c || (assigns c || is_short q c)))) (sym h)

leaf_refers : (st : List Standing) (ss : List Scope) (m : Mode) (q : Kind) (c : Nonterminal) (p : Path) (s : TokenKind) (t : Text) → is_placed m c ≡ true → Sees (scopes st) ss → resolved_leaf st m q c p s t ≡ cond (is_name_at q c s t) (answer ss t p ∷ []) []
leaf_refers st ss (Binding w r) q c p IdentifierName t h s = same_answer (is_ident t) (is_name_at q c IdentifierName t) st ss t p (bound_name q c t h) s
leaf_refers st ss m q c p k t h s = same_answer (is_name_at q c k t) (is_name_at q c k t) st ss t p refl s

-- ---- parts

no_outside : (st : List Standing) (m : Mode) (k : Kind) (p : Path) (i : ℕ) (qs : List Position) (ts : Forest) → inner_all k qs ≡ true → resolved_parts false st m k p i qs ts ≡ []
no_outside st m k p i [] ts h = refl
no_outside st m k p i (s ∷ qs) none h = refl
no_outside st m k p i (position f c g o a ∷ qs) (part t ts) h =
    ap (λ b. cond b [] (resolved st (mode m k c) k c (below p i) t) ++ resolved_parts false st m k p (suc i) qs ts) (and_left (is_inner k c) (inner_all k qs) h)
    ∙ no_outside st m k p (suc i) qs ts (and_right (is_inner k c) (inner_all k qs) h)

-- nothing stands behind what stands behind a head
rest_state : (b : Bool) (st : List Standing) (m : Mode) (k : Kind) (p : Path) (i : ℕ) (qs : List Position) (ts : Forest) → not b || is_over qs ≡ true → resolved_parts true (enter b st) m k p i qs ts ≡ resolved_parts true st m k p i qs ts
rest_state false st m k p i qs ts h = refl
rest_state true st m k p i [] ts h = refl
rest_state true st m k p i (s ∷ qs) ts h = never h

one_part : (b : Bool) (xs ys zs fs ts us : List Answer) → (b ≡ true → fs ≡ []) → (b ≡ true → xs ≡ zs) → (b ≡ false → ys ≡ zs) → fs ++ ts ≡ us → (cond b [] ys ++ fs) ++ (cond b xs [] ++ ts) ≡ zs ++ us
one_part true xs ys zs fs ts us f g h e = ap (λ z. z ++ (xs ++ ts)) (f refl) ∙ ap (λ z. z ++ ts) (g refl) ∙ ap (λ z. zs ++ z) (sym (ap (λ z. z ++ ts) (f refl)) ∙ e)
one_part false xs ys zs fs ts us f g h e = append_assoc ys fs ts ∙ ap (λ z. z ++ (fs ++ ts)) (h refl) ∙ ap (λ z. zs ++ z) e

mutual
  refers_tree : (st : List Standing) (ss : List Scope) (m : Mode) (q : Kind) (c : Nonterminal) (p : Path) (t : Tree) → is_placed m c ≡ true → Sees (scopes st) ss → each_node is_proper t ≡ true → resolved st m q c p t ≡ referred ss q c p t
  refers_tree st ss m q c p (leaf s x) e v h = leaf_refers st ss m q c p s x e v
  refers_tree st ss m q c p (list ts) e v h = refers_each st ss m q c p 0 ts e v h
  refers_tree st ss m q c p (node k cs) e v h =
      refers_parts (in_node st m q k p cs) (stand (has_scope k) (inner k) p (inner_names m k p cs) (in_node st m q k p cs)) ss m q k p cs 0 (positions k) cs
      (λ c n i. part_outside m q k c p cs st ss n i (and_left (fill (positions k) cs) (each_nodes is_proper cs) h) (and_right (fill (positions k) cs) (each_nodes is_proper cs) h) v)
      (λ c n i. part_inside m q k c p cs st ss n i (and_left (fill (positions k) cs) (each_nodes is_proper cs) h) (and_right (fill (positions k) cs) (each_nodes is_proper cs) h) v)
      (all_ordered k) (all_framed k) (and_left (fill (positions k) cs) (each_nodes is_proper cs) h) (and_right (fill (positions k) cs) (each_nodes is_proper cs) h)

  refers_parts : (so si : List Standing) (ss : List Scope) (m : Mode) (q k : Kind) (p : Path) (all : Forest) (i : ℕ) (qs : List Position) (ts : Forest)
      → ((c : Nonterminal) → is_known k c ≡ true → is_inner k c ≡ false → Sees (scopes so) (inside q k p all c ss))
      → ((c : Nonterminal) → is_known k c ≡ true → is_inner k c ≡ true → Sees (scopes (enter (is_behind k c) si)) (inside q k p all c ss))
      → outer_first k qs ≡ true → framed k qs ≡ true → fill qs ts ≡ true → each_nodes is_proper ts ≡ true
      → resolved_parts false so m k p i qs ts ++ resolved_parts true si m k p i qs ts ≡ referred_parts ss q k p all i qs ts
  refers_parts so si ss m q k p all i [] ts x y e r w h = refl
  refers_parts so si ss m q k p all i (position f c g o a ∷ qs) none x y e r w h = refl
  refers_parts so si ss m q k p all i (position f c g o a ∷ qs) (part t ts) x y e r w h =
      ap (λ z. (cond (is_inner k c) [] (resolved so (mode m k c) k c (below p i) t) ++ resolved_parts false so m k p (suc i) qs ts) ++ (cond (is_inner k c) (resolved (enter (is_behind k c) si) (mode m k c) k c (below p i) t) [] ++ z))
      (rest_state (is_behind k c) si m k p (suc i) qs ts (last_here k c qs r))
      ∙ one_part (is_inner k c) (resolved (enter (is_behind k c) si) (mode m k c) k c (below p i) t) (resolved so (mode m k c) k c (below p i) t) (referred (inside q k p all c ss) k c (below p i) t)
      (resolved_parts false so m k p (suc i) qs ts) (resolved_parts true si m k p (suc i) qs ts) (referred_parts ss q k p all (suc i) qs ts)
      (λ b. no_outside so m k p (suc i) qs ts (rest_inner k qs (is_inner k c) (is_inner k c) refl e b))
      (λ b. refers_tree (enter (is_behind k c) si) (inside q k p all c ss) (mode m k c) k c (below p i) t (placed_mode m k c) (y c (known_here k c qs r) b) (and_left (each_node is_proper t) (each_nodes is_proper ts) h))
      (λ b. refers_tree so (inside q k p all c ss) (mode m k c) k c (below p i) t (placed_mode m k c) (x c (known_here k c qs r) b) (and_left (each_node is_proper t) (each_nodes is_proper ts) h))
      (refers_parts so si ss m q k p all (suc i) qs ts x y (rest_first k qs (is_inner k c) e) (framed_rest k c qs r) (and_right (has_form f c t) (fill qs ts) w) (and_right (each_node is_proper t) (each_nodes is_proper ts) h))

  refers_each : (st : List Standing) (ss : List Scope) (m : Mode) (q : Kind) (c : Nonterminal) (p : Path) (i : ℕ) (ts : Forest) → is_placed m c ≡ true → Sees (scopes st) ss → each_nodes is_proper ts ≡ true → resolved_each st m q c p i ts ≡ referred_each ss q c p i ts
  refers_each st ss m q c p i none e v h = refl
  refers_each st ss m q c p i (part t ts) e v h =
      ap (λ z. z ++ resolved_each st m q c p (suc i) ts) (refers_tree st ss m q c (below p i) t e v (and_left (each_node is_proper t) (each_nodes is_proper ts) h))
      ∙ ap (λ z. referred ss q c (below p i) t ++ z) (refers_each st ss m q c p (suc i) ts e v (and_right (each_node is_proper t) (each_nodes is_proper ts) h))

-- ---- programs

pub answers_referred : (t : Tree) → proper t ≡ true → answers [] (events t) ≡ all_referred t
answers_referred t h =
    answers_resolved t
    ∙ refers_tree [] [] Plain (program Script) WholeProgram [] t refl (record { sees' = λ x. refl })
    (and_left (each_node is_proper t) (each_node is_sided t) (and_right (stands WholeProgram t) (each_node is_proper t && each_node is_sided t) h))

pub references_told : (t : Tree) (p : Path) → proper t ≡ true → refers t p ≡ answer_at p (answers [] (events t))
references_told t p h = refers_answer t p ∙ ap (answer_at p) (sym (answers_referred t h))
