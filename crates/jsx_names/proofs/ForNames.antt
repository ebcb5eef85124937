-- The names of the head of a `for`, and the own name of a class.
use Rattle.std.proofs.Common.{◌≡◌, List, [], ◌∷◌, ◌++◌, Bool, true, false, cond, ◌||◌, refl, sym, ap, ◌∙◌, append-nil}
use Rattle.std.proofs.lemmas.Bool.{false≢true}
use Rattle.jsx_tree.specs.Kinds.{DeclareWord, VarWord, LetWord, ConstWord, ExportDefaultClass, ForDeclaration, ForBinding, ClassExpr, Kind, program, statement, function, Tree, leaf, node, list, Forest, none, part}
use Rattle.jsx_tree.specs.Nonterminals.{ForInit, ForHead}
use Rattle.jsx_tree.specs.Form.{Maybe, positions}
use Rattle.jsx_tree.specs.Sound.{each_node, each_nodes}
use Rattle.jsx_tree.specs.Scopes.{Path, below, Sort, AsVar, AsParameter, AsFunction, AsLexical, Declaration, sort_of, bound, is_var, without_vars, lexical_head, behind_head, own_name}
use Rattle.jsx_tree.proofs.Tokens.{and_left, and_right}
use Rattle.jsx_names.specs.Events.{OfBlock, Simply, Plain}
use Rattle.jsx_names.specs.Answers.{Named, all_of, reaches}
use Rattle.jsx_names.specs.Given.{given, given_parts}
use Rattle.jsx_names.specs.Resolved.{outer_names}
use Rattle.jsx_names.specs.Proper.{is_value, is_declaring, is_heading, stands, has_form, fill, is_proper}
use Rattle.jsx_names.proofs.Quiet.{is_default, quiet_tree}
use Rattle.jsx_names.proofs.Bound.{flagged, no_outer}
use Rattle.jsx_names.proofs.Vars.{all_append, all_flagged, through, through_bound}
use Rattle.jsx_names.proofs.Stated.{declaration_given, binding_given}
use Rattle.jsx_names.proofs.Listed.{default_given}

own_of_class : (q : Kind) (p : Path) (n : Tree) (cs : Forest) → is_default q ≡ false → own_name q (function ClassExpr) p (part n cs) ≡ bound AsLexical (below p 0) n
own_of_class (program ExportDefaultClass) p n cs d = cc
own_of_class q p n cs d = refl

pub own_class : (q : Kind) (p : Path) (n : Tree) (cs : Forest) → is_default q ≡ false → fill (positions (function ClassExpr)) (part n cs) ≡ true → each_nodes is_proper (part n cs) ≡ true → all_of (outer_names Plain (function ClassExpr) p (part n cs)) ≡ own_name q (function ClassExpr) p (part n cs)
own_class q p n cs d f h = default_given p n cs f h ∙ sym (own_of_class q p n cs d)

-- ---- the head of a `for`, where `var` names are passed over

without_step : (b : Bool) (d : Declaration) (xs ys es : List Declaration) → xs ≡ ys ++ without_vars es → cond b xs (d ∷ xs) ≡ cond b ys (d ∷ ys) ++ without_vars es
without_step true d xs ys es e = e
without_step false d xs ys es e = ap (λ z. d ∷ z) e

pub without_append : (ds es : List Declaration) → without_vars (ds ++ es) ≡ without_vars ds ++ without_vars es
without_append [] es = refl
without_append (d ∷ ds) es = without_step (is_var d.sort) d (without_vars (ds ++ es)) (without_vars ds) es (without_append ds es)

one_through : (n : Named) (s : Sort) → n.is.sort ≡ s → without_vars (all_of (cond (reaches s (OfBlock ∷ [])) (n ∷ []) [])) ≡ []
one_through n AsVar e = ap (λ r. cond (is_var r) [] (n.is ∷ [])) e
one_through n AsParameter e = refl
one_through n AsFunction e = refl
one_through n AsLexical e = refl

pub none_last : (ns : List Named) → without_vars (all_of (through ns)) ≡ []
none_last [] = refl
none_last (n ∷ ns) =
    ap without_vars (all_append (cond (reaches n.is.sort (OfBlock ∷ [])) (n ∷ []) []) (through ns))
    ∙ without_append (all_of (cond (reaches n.is.sort (OfBlock ∷ [])) (n ∷ []) [])) (all_of (through ns))
    ∙ ap (λ z. z ++ without_vars (all_of (through ns))) (one_through n n.is.sort refl)
    ∙ none_last ns

pub steady_last : (ns : List Named) → through ns ≡ ns → without_vars (all_of ns) ≡ []
steady_last ns e = ap (λ z. without_vars (all_of z)) (sym e) ∙ none_last ns

-- behind a head that declares by `let` or `const`
with_head : (ds vs : List Declaration) → without_vars vs ≡ [] → without_vars (behind_head ds vs) ≡ without_vars ds
with_head [] vs e = refl
with_head (d ∷ ds) vs e = without_append (d ∷ ds) vs ∙ ap (λ z. without_vars (d ∷ ds) ++ z) e ∙ append-nil (without_vars (d ∷ ds))

pub value_head : (k : Kind) (p : Path) (cs : Forest) → is_value k ≡ true → lexical_head p (node k cs) ≡ []
value_head (statement k) p cs v = cc
value_head k p cs v = refl

never : {A : Type 0} → false ≡ true → A
never e = absurd (false≢true e)

or_other : (a b : Bool) → a ≡ false → a || b ≡ true → b ≡ true
or_other false b e h = h
or_other true b e h = never (sym e)

-- bound names that last, or none where they are `var` names
bound_last : (v : DeclareWord) (p : Path) (t : Tree) → without_vars (bound (sort_of v) p t) ≡ cond (is_var (sort_of v)) [] (without_vars (bound (sort_of v) p t))
bound_last VarWord p t = ap without_vars (sym (all_flagged Simply (bound AsVar p t))) ∙ steady_last (flagged Simply (bound AsVar p t)) (through_bound Simply AsVar p t)
bound_last LetWord p t = refl
bound_last ConstWord p t = refl

pub heading_last : (q k : Kind) (p : Path) (cs : Forest) → is_heading k ≡ true → fill (positions k) cs ≡ true → each_nodes is_proper cs ≡ true → without_vars (all_of (given Plain q p (node k cs))) ≡ without_vars (lexical_head p (node k cs))
heading_last q (statement (ForBinding v)) p cs e f h =
    ap (λ z. without_vars (all_of (z ++ given_parts true Plain (statement (ForBinding v)) p 0 (positions (statement (ForBinding v))) cs))) (no_outer Plain (statement (ForBinding v)) p 0 (positions (statement (ForBinding v))) cs refl)
    ∙ ap (λ z. without_vars (all_of z)) (binding_given Plain p v cs f h)
    ∙ ap without_vars (all_flagged Simply (bound (sort_of v) p (node (statement (ForBinding v)) cs)))
    ∙ by_word v
  where
    by_word : (v : DeclareWord) → without_vars (bound (sort_of v) p (node (statement (ForBinding v)) cs)) ≡ without_vars (lexical_head p (node (statement (ForBinding v)) cs))
    by_word VarWord = bound_last VarWord p (node (statement (ForBinding VarWord)) cs)
    by_word LetWord = refl
    by_word ConstWord = refl
heading_last q k p cs e f h = cc

pub declaring_last : (q k : Kind) (p : Path) (cs : Forest) → is_declaring k ≡ true → fill (positions k) cs ≡ true → each_nodes is_proper cs ≡ true → without_vars (all_of (given Plain q p (node k cs))) ≡ without_vars (lexical_head p (node k cs))
declaring_last q (statement (ForDeclaration v)) p cs e f h =
    ap (λ z. without_vars (all_of (z ++ given_parts true Plain (statement (ForDeclaration v)) p 0 (positions (statement (ForDeclaration v))) cs))) (no_outer Plain (statement (ForDeclaration v)) p 0 (positions (statement (ForDeclaration v))) cs refl)
    ∙ ap (λ z. without_vars (all_of z)) (declaration_given Plain p v cs f h)
    ∙ ap without_vars (all_flagged Simply (bound (sort_of v) p (node (statement (ForDeclaration v)) cs)))
    ∙ by_word v
  where
    by_word : (v : DeclareWord) → without_vars (bound (sort_of v) p (node (statement (ForDeclaration v)) cs)) ≡ without_vars (lexical_head p (node (statement (ForDeclaration v)) cs))
    by_word VarWord = bound_last VarWord p (node (statement (ForDeclaration VarWord)) cs)
    by_word LetWord = refl
    by_word ConstWord = refl
declaring_last q k p cs e f h = cc

head_by : (q k : Kind) (p : Path) (cs : Forest) → is_default q ≡ false → is_heading k || is_value k ≡ true → each_node is_proper (node k cs) ≡ true → without_vars (all_of (given Plain q p (node k cs))) ≡ without_vars (lexical_head p (node k cs))
head_by q k p cs d e h = go (is_heading k) refl
  where
    go : (b : Bool) → is_heading k ≡ b → without_vars (all_of (given Plain q p (node k cs))) ≡ without_vars (lexical_head p (node k cs))
    go true x = heading_last q k p cs x (and_left (fill (positions k) cs) (each_nodes is_proper cs) h) (and_right (fill (positions k) cs) (each_nodes is_proper cs) h)
    go false x =
        let v : is_value k ≡ true = or_other (is_heading k) (is_value k) x e in
        ap (λ z. without_vars (all_of z)) (quiet_tree q p (node k cs) d v h) ∙ ap without_vars (sym (value_head k p cs v))

init_by : (q k : Kind) (p : Path) (cs : Forest) → is_default q ≡ false → is_declaring k || is_value k ≡ true → each_node is_proper (node k cs) ≡ true → without_vars (all_of (given Plain q p (node k cs))) ≡ without_vars (lexical_head p (node k cs))
init_by q k p cs d e h = go (is_declaring k) refl
  where
    go : (b : Bool) → is_declaring k ≡ b → without_vars (all_of (given Plain q p (node k cs))) ≡ without_vars (lexical_head p (node k cs))
    go true x = declaring_last q k p cs x (and_left (fill (positions k) cs) (each_nodes is_proper cs) h) (and_right (fill (positions k) cs) (each_nodes is_proper cs) h)
    go false x =
        let v : is_value k ≡ true = or_other (is_declaring k) (is_value k) x e in
        ap (λ z. without_vars (all_of z)) (quiet_tree q p (node k cs) d v h) ∙ ap without_vars (sym (value_head k p cs v))

head_last : (q : Kind) (p : Path) (t : Tree) → is_default q ≡ false → stands ForHead t ≡ true → each_node is_proper t ≡ true → without_vars (all_of (given Plain q p t)) ≡ without_vars (lexical_head p t)
head_last q p (leaf s x) d e h = refl
head_last q p (node k cs) d e h = head_by q k p cs d e h
head_last q p (list ts) d e h = never e

init_last : (q : Kind) (p : Path) (t : Tree) → is_default q ≡ false → has_form Maybe ForInit t ≡ true → each_node is_proper t ≡ true → without_vars (all_of (given Plain q p t)) ≡ without_vars (lexical_head p t)
init_last q p (leaf s x) d e h = refl
init_last q p (node k cs) d e h = never e
init_last q p (list none) d e h = refl
init_last q p (list (part (leaf s x) none)) d e h = refl
init_last q p (list (part (list us) none)) d e h = never e
init_last q p (list (part t (part u ts))) d e h = never e
init_last q p (list (part (node k cs) none)) d e h =
    ap (λ z. without_vars (all_of z)) (append-nil (given Plain q (below p 0) (node k cs)))
    ∙ init_by q k (below p 0) cs d (and_left (is_declaring k || is_value k) true e) (and_left (each_node is_proper (node k cs)) true h)
