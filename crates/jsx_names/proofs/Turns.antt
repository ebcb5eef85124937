-- The names that the head of a `for` declares, and the `var` names below it: one list, where a name of the head lasts.
use Rattle.std.proofs.Common.{◌≡◌, List, [], ◌∷◌, ◌++◌, Bool, true, false, cond, ◌&&◌, ◌||◌, refl, sym, ap, ◌∙◌, subst, append-nil}
use Rattle.std.proofs.lemmas.Bool.{false≢true}
use Rattle.jsx_base.specs.Token.{same}
use Rattle.jsx_tree.specs.Kinds.{VarWord, LetWord, ConstWord, For, ForDeclaration, ForIn, ForOf, ForBinding, Kind, statement, Tree, leaf, node, list, Forest, none, part}
use Rattle.jsx_tree.specs.Nonterminals.{Expr, ForInit, ForHead, ForOfHead, SubStmt}
use Rattle.jsx_tree.specs.Form.{Single, Maybe, positions}
use Rattle.jsx_tree.specs.Sound.{each_node, each_nodes}
use Rattle.jsx_tree.specs.Scopes.{Path, below, Sort, AsVar, AsParameter, AsFunction, AsLexical, Declaration, bound, vars, is_var, without_vars, lexical_head, behind_head, is_catch, declared}
use Rattle.jsx_tree.specs.Clashes.{AtName, clash, clashes_with, later}
use Rattle.jsx_tree.proofs.Tokens.{and_left, and_right}
use Rattle.jsx_names.specs.Events.{Simply, Mode, Plain}
use Rattle.jsx_names.specs.Answers.{Named, all_of}
use Rattle.jsx_names.specs.Given.{given, given_parts}
use Rattle.jsx_names.specs.Resolved.{outer_names}
use Rattle.jsx_names.specs.Proper.{is_value, is_declaring, is_heading, stands, has_form, fill, is_proper}
use Rattle.jsx_names.proofs.Quiet.{is_default, form_valued, quiet_tree}
use Rattle.jsx_names.proofs.Bound.{no_outer}
use Rattle.jsx_names.proofs.Vars.{all_append, all_flagged}
use Rattle.jsx_names.proofs.Stated.{vars_tree, vars_of_value, no_vars, declaration_given, binding_given}
use Rattle.jsx_names.proofs.Listed.{vars_declared, sub_stated, sub_tree}
use Rattle.jsx_names.proofs.ForNames.{without_append, none_last, value_head, heading_last, declaring_last}

never : {A : Type 0} → false ≡ true → A
never e = absurd (false≢true e)

-- ---- `var` names don't clash with each other

nothing_kept : (d : Declaration) (ds : List Declaration) → d ∷ ds ≡ [] → false ≡ true
nothing_kept d ds e = cc

first_var : (b : Bool) (d : Declaration) (ds : List Declaration) → cond b ds (d ∷ ds) ≡ [] → b ≡ true
first_var true d ds e = refl
first_var false d ds e = never (nothing_kept d ds e)

rest_vars : (b : Bool) (d : Declaration) (ds : List Declaration) → cond b ds (d ∷ ds) ≡ [] → ds ≡ []
rest_vars true d ds e = e
rest_vars false d ds e = never (nothing_kept d ds e)

no_clash : (top : Bool) (r s : Sort) → is_var r ≡ true → is_var s ≡ true → clash top r s ≡ false
no_clash top AsVar AsVar a b = refl
no_clash top AsVar AsParameter a b = never b
no_clash top AsVar AsFunction a b = never b
no_clash top AsVar AsLexical a b = never b
no_clash top AsParameter s a b = never a
no_clash top AsFunction s a b = never a
no_clash top AsLexical s a b = never a

neither : (a b c : Bool) → b ≡ false → c ≡ false → (a && b) || c ≡ false
neither true b c x y = ap (λ z. z || c) x ∙ y
neither false b c x y = y

var_alone : (top : Bool) (d : Declaration) (es : List Declaration) → is_var d.sort ≡ true → without_vars es ≡ [] → clashes_with top d es ≡ false
var_alone top d [] a b = refl
var_alone top d (e ∷ es) a b =
    neither (same d.name e.name) (clash top e.sort d.sort) (clashes_with top d es)
    (no_clash top e.sort d.sort (first_var (is_var e.sort) e (without_vars es) b) a)
    (var_alone top d es a (rest_vars (is_var e.sort) e (without_vars es) b))

one_more : (b : Bool) (d : Declaration) (ds : List Declaration) → b ≡ true → ds ≡ [] → cond b ds (d ∷ ds) ≡ []
one_more true d ds a b = b
one_more false d ds a b = never a

pub vars_later : (top : Bool) (es ds : List Declaration) → without_vars es ≡ [] → without_vars ds ≡ [] → later top es ds ≡ []
vars_later top es [] a b = refl
vars_later top es (d ∷ ds) a b =
    let v : is_var d.sort ≡ true = first_var (is_var d.sort) d (without_vars ds) b in
    ap (λ z. cond z (AtName d.at ∷ []) [] ++ later top (d ∷ es) ds) (var_alone top d es v a)
    ∙ vars_later top (d ∷ es) ds (one_more (is_var d.sort) d (without_vars es) v a) (rest_vars (is_var d.sort) d (without_vars ds) b)

-- ---- heads

-- either the head's names last, and no `var` stands in it, or all of them are `var` names
data Head (hs xs vs : List Declaration) : Type 0 where
  Lasts : hs ≡ xs → vs ≡ [] → Head hs xs vs
  Passes : xs ≡ [] → without_vars hs ≡ [] → Head hs xs vs

nothing_left : (hs ss : List Declaration) → without_vars hs ≡ [] → without_vars ss ≡ [] → without_vars (hs ++ ss) ≡ []
nothing_left hs ss a b = without_append hs ss ∙ ap (λ z. z ++ without_vars ss) a ∙ b

-- what is declared there, as it is compared: the clashes, and the names that last
pub record Turn (ours theirs : List Declaration) : Type 0 where
  pub clashes : later false [] ours ≡ later false [] theirs
  pub lasting : without_vars ours ≡ without_vars theirs

behind_lasting : (xs ss : List Declaration) → without_vars ss ≡ [] → Turn (xs ++ ss) (behind_head xs ss)
behind_lasting [] ss e = record { clashes = vars_later false [] ss refl e; lasting = e }
behind_lasting (x ∷ xs) ss e = record { clashes = refl; lasting = refl }

behind_passing : (hs ss us : List Declaration) → without_vars hs ≡ [] → without_vars ss ≡ [] → Turn (hs ++ ss) (behind_head [] us)
behind_passing hs ss us a b = record { clashes = vars_later false [] (hs ++ ss) refl (nothing_left hs ss a b); lasting = nothing_left hs ss a b }

head_turn : (hs xs vs ss : List Declaration) → Head hs xs vs → without_vars ss ≡ [] → Turn (hs ++ ss) (behind_head xs (vs ++ ss))
head_turn hs xs vs ss (Lasts a b) e = subst (λ z. Turn (z ++ ss) (behind_head xs (vs ++ ss))) (sym a) (subst (λ z. Turn (xs ++ ss) (behind_head xs (z ++ ss))) (sym b) (behind_lasting xs ss e))
head_turn hs xs vs ss (Passes a b) e = subst (λ z. Turn (hs ++ ss) (behind_head z (vs ++ ss))) (sym a) (behind_passing hs ss (vs ++ ss) b e)

heading_head : (q k : Kind) (p : Path) (cs : Forest) → is_heading k ≡ true → fill (positions k) cs ≡ true → each_nodes is_proper cs ≡ true → Head (all_of (given Plain q p (node k cs))) (lexical_head p (node k cs)) (vars p (node k cs))
heading_head q (statement (ForBinding VarWord)) p cs e f h = Passes refl (heading_last q (statement (ForBinding VarWord)) p cs e f h)
heading_head q (statement (ForBinding LetWord)) p cs e f h =
    Lasts
    (ap (λ z. all_of (z ++ given_parts true Plain (statement (ForBinding LetWord)) p 0 (positions (statement (ForBinding LetWord))) cs)) (no_outer Plain (statement (ForBinding LetWord)) p 0 (positions (statement (ForBinding LetWord))) cs refl)
    ∙ ap all_of (binding_given Plain p LetWord cs f h)
    ∙ all_flagged Simply (bound AsLexical p (node (statement (ForBinding LetWord)) cs)))
    (no_vars p 0 (positions (statement (ForBinding LetWord))) cs refl)
heading_head q (statement (ForBinding ConstWord)) p cs e f h =
    Lasts
    (ap (λ z. all_of (z ++ given_parts true Plain (statement (ForBinding ConstWord)) p 0 (positions (statement (ForBinding ConstWord))) cs)) (no_outer Plain (statement (ForBinding ConstWord)) p 0 (positions (statement (ForBinding ConstWord))) cs refl)
    ∙ ap all_of (binding_given Plain p ConstWord cs f h)
    ∙ all_flagged Simply (bound AsLexical p (node (statement (ForBinding ConstWord)) cs)))
    (no_vars p 0 (positions (statement (ForBinding ConstWord))) cs refl)
heading_head q k p cs e f h = never e

declaring_head : (q k : Kind) (p : Path) (cs : Forest) → is_declaring k ≡ true → fill (positions k) cs ≡ true → each_nodes is_proper cs ≡ true → Head (all_of (given Plain q p (node k cs))) (lexical_head p (node k cs)) (vars p (node k cs))
declaring_head q (statement (ForDeclaration VarWord)) p cs e f h = Passes refl (declaring_last q (statement (ForDeclaration VarWord)) p cs e f h)
declaring_head q (statement (ForDeclaration LetWord)) p cs e f h =
    Lasts
    (ap (λ z. all_of (z ++ given_parts true Plain (statement (ForDeclaration LetWord)) p 0 (positions (statement (ForDeclaration LetWord))) cs)) (no_outer Plain (statement (ForDeclaration LetWord)) p 0 (positions (statement (ForDeclaration LetWord))) cs refl)
    ∙ ap all_of (declaration_given Plain p LetWord cs f h)
    ∙ all_flagged Simply (bound AsLexical p (node (statement (ForDeclaration LetWord)) cs)))
    (no_vars p 0 (positions (statement (ForDeclaration LetWord))) cs refl)
declaring_head q (statement (ForDeclaration ConstWord)) p cs e f h =
    Lasts
    (ap (λ z. all_of (z ++ given_parts true Plain (statement (ForDeclaration ConstWord)) p 0 (positions (statement (ForDeclaration ConstWord))) cs)) (no_outer Plain (statement (ForDeclaration ConstWord)) p 0 (positions (statement (ForDeclaration ConstWord))) cs refl)
    ∙ ap all_of (declaration_given Plain p ConstWord cs f h)
    ∙ all_flagged Simply (bound AsLexical p (node (statement (ForDeclaration ConstWord)) cs)))
    (no_vars p 0 (positions (statement (ForDeclaration ConstWord))) cs refl)
declaring_head q k p cs e f h = never e

value_turn : (q k : Kind) (p : Path) (cs : Forest) → is_default q ≡ false → is_value k ≡ true → each_node is_proper (node k cs) ≡ true → Head (all_of (given Plain q p (node k cs))) (lexical_head p (node k cs)) (vars p (node k cs))
value_turn q k p cs d v h = Lasts (ap all_of (quiet_tree q p (node k cs) d v h) ∙ sym (value_head k p cs v)) (vars_of_value k p cs v)

or_other : (a b : Bool) → a ≡ false → a || b ≡ true → b ≡ true
or_other false b e h = h
or_other true b e h = never (sym e)

heads_node : (q k : Kind) (p : Path) (cs : Forest) → is_default q ≡ false → is_heading k || is_value k ≡ true → each_node is_proper (node k cs) ≡ true → Head (all_of (given Plain q p (node k cs))) (lexical_head p (node k cs)) (vars p (node k cs))
heads_node q k p cs d e h = go (is_heading k) refl
  where
    go : (b : Bool) → is_heading k ≡ b → Head (all_of (given Plain q p (node k cs))) (lexical_head p (node k cs)) (vars p (node k cs))
    go true x = heading_head q k p cs x (and_left (fill (positions k) cs) (each_nodes is_proper cs) h) (and_right (fill (positions k) cs) (each_nodes is_proper cs) h)
    go false x = value_turn q k p cs d (or_other (is_heading k) (is_value k) x e) h

inits_node : (q k : Kind) (p : Path) (cs : Forest) → is_default q ≡ false → is_declaring k || is_value k ≡ true → each_node is_proper (node k cs) ≡ true → Head (all_of (given Plain q p (node k cs))) (lexical_head p (node k cs)) (vars p (node k cs))
inits_node q k p cs d e h = go (is_declaring k) refl
  where
    go : (b : Bool) → is_declaring k ≡ b → Head (all_of (given Plain q p (node k cs))) (lexical_head p (node k cs)) (vars p (node k cs))
    go true x = declaring_head q k p cs x (and_left (fill (positions k) cs) (each_nodes is_proper cs) h) (and_right (fill (positions k) cs) (each_nodes is_proper cs) h)
    go false x = value_turn q k p cs d (or_other (is_declaring k) (is_value k) x e) h

head_tree : (q : Kind) (p : Path) (t : Tree) → is_default q ≡ false → stands ForHead t ≡ true → each_node is_proper t ≡ true → Head (all_of (given Plain q p t)) (lexical_head p t) (vars p t)
head_tree q p (leaf s x) d e h = Lasts refl refl
head_tree q p (node k cs) d e h = heads_node q k p cs d e h
head_tree q p (list ts) d e h = never e

init_more : (hs xs vs : List Declaration) (ns : List Named) → hs ≡ all_of ns → Head hs xs vs → Head (all_of (ns ++ [])) xs (vs ++ [])
init_more hs xs vs ns e h = subst (λ z. Head (all_of z) xs (vs ++ [])) (sym (append-nil ns)) (subst (λ z. Head (all_of ns) xs z) (sym (append-nil vs)) (subst (λ z. Head z xs vs) e h))

init_tree : (q : Kind) (p : Path) (t : Tree) → is_default q ≡ false → has_form Maybe ForInit t ≡ true → each_node is_proper t ≡ true → Head (all_of (given Plain q p t)) (lexical_head p t) (vars p t)
init_tree q p (leaf s x) d e h = Lasts refl refl
init_tree q p (node k cs) d e h = never e
init_tree q p (list none) d e h = Lasts refl refl
init_tree q p (list (part (leaf s x) none)) d e h = Lasts refl refl
init_tree q p (list (part (list us) none)) d e h = never e
init_tree q p (list (part t (part u ts))) d e h = never e
init_tree q p (list (part (node k cs) none)) d e h =
    init_more (all_of (given Plain q (below p 0) (node k cs))) (lexical_head (below p 0) (node k cs)) (vars (below p 0) (node k cs)) (given Plain q (below p 0) (node k cs)) refl
    (inits_node q k (below p 0) cs d (and_left (is_declaring k || is_value k) true e) (and_left (each_node is_proper (node k cs)) true h))

-- ---- the statement below

sub_given : (q : Kind) (p : Path) (t : Tree) → is_default q ≡ false → is_catch q ≡ false → stands SubStmt t ≡ true → each_node is_proper t ≡ true → all_of (given Plain q p t) ≡ vars p t
sub_given q p (leaf s x) d n e h = refl
sub_given q p (list ts) d n e h = never e
sub_given q p (node k cs) d n e h = sub_tree q k p cs d n e h ∙ sym (vars_declared k p cs e)

sub_lasting : (q : Kind) (p : Path) (t : Tree) → is_default q ≡ false → stands SubStmt t ≡ true → each_node is_proper t ≡ true → without_vars (vars p t) ≡ []
sub_lasting q p (leaf s x) d e h = refl
sub_lasting q p (list ts) d e h = never e
sub_lasting q p (node k cs) d e h = ap without_vars (sym (vars_tree q p (node k cs) d (sub_stated k e) h)) ∙ none_last (given Plain q p (node k cs))

-- ---- the three kinds of `for`

turned : (ns : List Named) (hs xs vs ss : List Declaration) → all_of ns ≡ hs ++ ss → Head hs xs vs → without_vars ss ≡ [] → Turn (all_of ns) (behind_head xs (vs ++ (ss ++ [])))
turned ns hs xs vs ss e h v = subst (λ z. Turn z (behind_head xs (vs ++ (ss ++ [])))) (sym e) (subst (λ z. Turn (hs ++ ss) (behind_head xs (vs ++ z))) (sym (append-nil ss)) (head_turn hs xs vs ss h v))

four_given : (as' bs cs ds : List Named) (ss : List Declaration) → bs ≡ [] → cs ≡ [] → all_of ds ≡ ss → all_of (as' ++ (bs ++ (cs ++ (ds ++ [])))) ≡ all_of as' ++ ss
four_given as' bs cs ds ss b c d =
    ap (λ z. all_of (as' ++ (z ++ (cs ++ (ds ++ []))))) b
    ∙ ap (λ z. all_of (as' ++ (z ++ (ds ++ [])))) c
    ∙ ap (λ z. all_of (as' ++ z)) (append-nil ds)
    ∙ all_append as' ds
    ∙ ap (λ z. all_of as' ++ z) d

three_given : (as' bs ds : List Named) (ss : List Declaration) → bs ≡ [] → all_of ds ≡ ss → all_of (as' ++ (bs ++ (ds ++ []))) ≡ all_of as' ++ ss
three_given as' bs ds ss b d = four_given as' bs [] ds ss b refl d

pub for_turn : (m : Mode) (q : Kind) (p : Path) (cs : Forest) → fill (positions (statement For)) cs ≡ true → each_nodes is_proper cs ≡ true → Turn (all_of (outer_names m (statement For) p cs)) (declared q (statement For) p cs)
for_turn m q p none f h = never f
for_turn m q p (part i none) f h = never (and_right (has_form Maybe ForInit i) false f)
for_turn m q p (part i (part e none)) f h = never (and_right (has_form Maybe (Expr 0) e) false (and_right (has_form Maybe ForInit i) (has_form Maybe (Expr 0) e && false) f))
for_turn m q p (part i (part e (part u none))) f h =
    never (and_right (has_form Maybe (Expr 0) u) false (and_right (has_form Maybe (Expr 0) e) (has_form Maybe (Expr 0) u && false) (and_right (has_form Maybe ForInit i) (has_form Maybe (Expr 0) e && (has_form Maybe (Expr 0) u && false)) f)))
for_turn m q p (part i (part e (part u (part s ts)))) f h =
    let k : Kind = statement For in
    let f1 = and_right (has_form Maybe ForInit i) (has_form Maybe (Expr 0) e && (has_form Maybe (Expr 0) u && (stands SubStmt s && fill [] ts))) f in
    let f2 = and_right (has_form Maybe (Expr 0) e) (has_form Maybe (Expr 0) u && (stands SubStmt s && fill [] ts)) f1 in
    let f3 = and_right (has_form Maybe (Expr 0) u) (stands SubStmt s && fill [] ts) f2 in
    let fs : stands SubStmt s ≡ true = and_left (stands SubStmt s) (fill [] ts) f3 in
    let h1 = and_right (each_node is_proper i) (each_nodes is_proper (part e (part u (part s ts)))) h in
    let h2 = and_right (each_node is_proper e) (each_nodes is_proper (part u (part s ts))) h1 in
    let h3 = and_right (each_node is_proper u) (each_nodes is_proper (part s ts)) h2 in
    let hs : each_node is_proper s ≡ true = and_left (each_node is_proper s) (each_nodes is_proper ts) h3 in
    turned (outer_names m k p (part i (part e (part u (part s ts))))) (all_of (given Plain k (below p 0) i)) (lexical_head (below p 0) i) (vars (below p 0) i) (vars (below p 3) s)
    (four_given (given Plain k (below p 0) i) (given Plain k (below p 1) e) (given Plain k (below p 2) u) (given Plain k (below p 3) s) (vars (below p 3) s)
    (quiet_tree k (below p 1) e refl (form_valued Maybe (Expr 0) e refl (and_left (has_form Maybe (Expr 0) e) (has_form Maybe (Expr 0) u && (stands SubStmt s && fill [] ts)) f1)) (and_left (each_node is_proper e) (each_nodes is_proper (part u (part s ts))) h1))
    (quiet_tree k (below p 2) u refl (form_valued Maybe (Expr 0) u refl (and_left (has_form Maybe (Expr 0) u) (stands SubStmt s && fill [] ts) f2)) (and_left (each_node is_proper u) (each_nodes is_proper (part s ts)) h2))
    (sub_given k (below p 3) s refl refl fs hs))
    (init_tree k (below p 0) i refl (and_left (has_form Maybe ForInit i) (has_form Maybe (Expr 0) e && (has_form Maybe (Expr 0) u && (stands SubStmt s && fill [] ts))) f) (and_left (each_node is_proper i) (each_nodes is_proper (part e (part u (part s ts)))) h))
    (sub_lasting k (below p 3) s refl fs hs)

pub for_in_turn : (m : Mode) (q : Kind) (p : Path) (cs : Forest) → fill (positions (statement ForIn)) cs ≡ true → each_nodes is_proper cs ≡ true → Turn (all_of (outer_names m (statement ForIn) p cs)) (declared q (statement ForIn) p cs)
for_in_turn m q p none f h = never f
for_in_turn m q p (part i none) f h = never (and_right (stands ForHead i) false f)
for_in_turn m q p (part i (part e none)) f h = never (and_right (stands (Expr 0) e) false (and_right (stands ForHead i) (stands (Expr 0) e && false) f))
for_in_turn m q p (part i (part e (part s ts))) f h =
    let k : Kind = statement ForIn in
    let f1 = and_right (stands ForHead i) (stands (Expr 0) e && (stands SubStmt s && fill [] ts)) f in
    let f2 = and_right (stands (Expr 0) e) (stands SubStmt s && fill [] ts) f1 in
    let fs : stands SubStmt s ≡ true = and_left (stands SubStmt s) (fill [] ts) f2 in
    let h1 = and_right (each_node is_proper i) (each_nodes is_proper (part e (part s ts))) h in
    let h2 = and_right (each_node is_proper e) (each_nodes is_proper (part s ts)) h1 in
    let hs : each_node is_proper s ≡ true = and_left (each_node is_proper s) (each_nodes is_proper ts) h2 in
    turned (outer_names m k p (part i (part e (part s ts)))) (all_of (given Plain k (below p 0) i)) (lexical_head (below p 0) i) (vars (below p 0) i) (vars (below p 2) s)
    (three_given (given Plain k (below p 0) i) (given Plain k (below p 1) e) (given Plain k (below p 2) s) (vars (below p 2) s)
    (quiet_tree k (below p 1) e refl (form_valued Single (Expr 0) e refl (and_left (stands (Expr 0) e) (stands SubStmt s && fill [] ts) f1)) (and_left (each_node is_proper e) (each_nodes is_proper (part s ts)) h1))
    (sub_given k (below p 2) s refl refl fs hs))
    (head_tree k (below p 0) i refl (and_left (stands ForHead i) (stands (Expr 0) e && (stands SubStmt s && fill [] ts)) f) (and_left (each_node is_proper i) (each_nodes is_proper (part e (part s ts))) h))
    (sub_lasting k (below p 2) s refl fs hs)

-- the same places stand in a `for` with `of`
of_head : (t : Tree) → stands ForOfHead t ≡ true → stands ForHead t ≡ true
of_head (leaf s x) h = h
of_head (node k cs) h = h
of_head (list ts) h = h

pub for_of_turn : (m : Mode) (q : Kind) (p : Path) (cs : Forest) → fill (positions (statement ForOf)) cs ≡ true → each_nodes is_proper cs ≡ true → Turn (all_of (outer_names m (statement ForOf) p cs)) (declared q (statement ForOf) p cs)
for_of_turn m q p none f h = never f
for_of_turn m q p (part i none) f h = never (and_right (stands ForOfHead i) false f)
for_of_turn m q p (part i (part e none)) f h = never (and_right (stands (Expr 1) e) false (and_right (stands ForOfHead i) (stands (Expr 1) e && false) f))
for_of_turn m q p (part i (part e (part s ts))) f h =
    let k : Kind = statement ForOf in
    let f1 = and_right (stands ForOfHead i) (stands (Expr 1) e && (stands SubStmt s && fill [] ts)) f in
    let f2 = and_right (stands (Expr 1) e) (stands SubStmt s && fill [] ts) f1 in
    let fs : stands SubStmt s ≡ true = and_left (stands SubStmt s) (fill [] ts) f2 in
    let h1 = and_right (each_node is_proper i) (each_nodes is_proper (part e (part s ts))) h in
    let h2 = and_right (each_node is_proper e) (each_nodes is_proper (part s ts)) h1 in
    let hs : each_node is_proper s ≡ true = and_left (each_node is_proper s) (each_nodes is_proper ts) h2 in
    turned (outer_names m k p (part i (part e (part s ts)))) (all_of (given Plain k (below p 0) i)) (lexical_head (below p 0) i) (vars (below p 0) i) (vars (below p 2) s)
    (three_given (given Plain k (below p 0) i) (given Plain k (below p 1) e) (given Plain k (below p 2) s) (vars (below p 2) s)
    (quiet_tree k (below p 1) e refl (form_valued Single (Expr 1) e refl (and_left (stands (Expr 1) e) (stands SubStmt s && fill [] ts) f1)) (and_left (each_node is_proper e) (each_nodes is_proper (part s ts)) h1))
    (sub_given k (below p 2) s refl refl fs hs))
    (head_tree k (below p 0) i refl (of_head i (and_left (stands ForOfHead i) (stands (Expr 1) e && (stands SubStmt s && fill [] ts)) f)) (and_left (each_node is_proper i) (each_nodes is_proper (part e (part s ts))) h))
    (sub_lasting k (below p 2) s refl fs hs)
