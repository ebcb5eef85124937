-- The static rules of one node are the same with pairs and without.
use Rattle.std.proofs.Common.{◌≡◌, ℕ, suc, List, [], ◌∷◌, ◌++◌, Bool, true, false, cond, sym, refl, ap, ◌∙◌, ⊎_elim}
use Rattle.std.proofs.lemmas.Bool.{and_parts, or_cases, false≢true}
use Rattle.std.specs.Prelude.{codes, not, ◌&&◌, ◌||◌, nat_eq, nat_le}
use Rattle.jsx_base.specs.Token.{Text, IdentifierName}
use Rattle.jsx_tree.specs.Kinds.{Kind, program, statement, function, expression, jsx, DeclareWord, Module, Script, FunctionBody, Block, Var, If, For, ForDeclaration, Continue, Break, Label, Switch, Case, Default, Try, ClassDecl, Holder, InObject, InClass, Static, ClassExpr, Method, Getter, Setter, Delete, Unary, NewTarget, ImportMeta, SuperMember, SuperIndex, SuperCall, Chain, Object, PlainTemplate, SubstitutedTemplate, TemplateSpan, BareArrow, BareArrowBlock, NewWithoutArguments, Tree, leaf, node, list, Forest, none, part}
use Rattle.jsx_tree.specs.Nonterminals.{Nonterminal, Expr, MemberObject, SubStmt, Ident, Key, ChainLink, SetterParam, BlockOnly, CatchClause, DirectiveOnly, Body, in_homes}
use Rattle.jsx_tree.specs.Grammar.{OneOrMore, Context, InFunction, InArrow, InMethod, InField, InClassCode, InMembers, InLoop, InSwitch, InLabel, InCode, InModuleCode}
use Rattle.jsx_tree.specs.Normal.{without_empty, laid_node, mades, each_made, of_list, laid_tree}
use Rattle.jsx_tree.specs.Form.{Form, Single, Maybe, Several, Position, position, positions, enough, last_only}
use Rattle.jsx_tree.specs.Parentheses.{asks}
use Rattle.jsx_tree.specs.StaticRules.{Surroundings, Jump, jump, rule, stands, enter, enters, all_of, count_of, at_most, is_here, is_proto, is_constructor, is_good_member, is_default, is_function, is_strict_body, is_word, is_plain_list, has_plain_params, has_init, first_of_list, open_if, is_cooked, is_optional, list_rule, members_rule, label_in, is_fresh_label, label_of, first_is_constructor, has_strict, third}
use Rattle.jsx_tree.specs.Sound.{lax, may_stand, may_shape, is_no_jsx, is_mended, loose, loose_slots, loose_each}
use Rattle.jsx_tree.proofs.Parentheses.Bare.{bare_node, bare, lays, bares, laid_stays, bare_stays, firm, no_turn, nowhere, no_list, even}
use Rattle.jsx_tree.proofs.Parentheses.Seen.{At, Same, firm_by, by_kind, Step, counts, alls, firsts, fold_all, fold_some, first_at, rest_at, each_at, no_more, key_same, word_same, here_same, here_list, proto_same, constructor_same, good_same, default_same, function_same, optional_same, init_same, directives_same, body_same, loop_same}
use Rattle.jsx_tree.proofs.Parentheses.Names.{name_same, expr_cooked, piece_cooked}
use Rattle.jsx_tree.proofs.Parentheses.OpenEnds.{open_same}
use Rattle.jsx_tree.proofs.Parentheses.PlaceTests.{no_bodies, all_firm, is_method, is_class, is_label, is_code_kind, known, all_known}
use Rattle.jsx_tree.proofs.Parentheses.PlaceTable.{row_facts}

-- ---- the parts of a node, one by one

-- a test that is the same on what a place has
abbrev SameAt : (Tree → Bool) → Form → Nonterminal → Tree → Type 0
SameAt f o c t = may_shape o c t ≡ true → loose c t ≡ true → f (of_list o (laid_tree t)) ≡ f (of_list o (bare t))

parts_fold : {A : Type 0} (F : Forest → A) (f : Tree → Bool) → Step F f → ((o : Form) (c : Nonterminal) (t : Tree) → SameAt f o c t) → (ss : List Position) (cs : Forest) → loose_slots ss cs ≡ true → F (mades laid_node ss cs) ≡ F (mades bare_node ss cs)
parts_fold F f s g ss none h = refl
parts_fold F f s g [] (part t ts) h = absurd (false≢true h)
parts_fold F f s g (position o c l b a ∷ ss) (part t ts) h =
    let p = and_parts (may_shape o c t) (loose c t && loose_slots ss ts) h in
    let q = and_parts (loose c t) (loose_slots ss ts) p.1 in
    s _ _ _ _ (g o c t p.0 q.0) (parts_fold F f s g ss ts q.1)

-- a list as it stands at a place, with its empty statements or without
abbrev trim : Bool → Forest → Forest
trim true ts = without_empty ts
trim false ts = ts

fold_trim : {A : Type 0} (F : Forest → A) (f : Tree → Bool) → Step F f → (c : Nonterminal) → ((t : Tree) → At c t → Same f t) → (w : Bool) (ts : Forest) → loose_each c ts ≡ true → F (trim w (each_made laid_node ts)) ≡ F (trim w (each_made bare_node ts))
fold_trim F f s c g true ts h = fold_some F f s c g ts h
fold_trim F f s c g false ts h = fold_all F f s c g ts h

even_list : (r : Forest → Bool) (u : Tree) → even u ≡ true → list_rule r u ≡ true
even_list r (leaf s x) h = refl
even_list r (node k cs) h = refl
even_list r (list ts) h = absurd (false≢true h)

-- a rule on lists
list_at : (r : Forest → Bool) → ((c : Nonterminal) (w : Bool) (ts : Forest) → loose_each c ts ≡ true → r (trim w (each_made laid_node ts)) ≡ r (trim w (each_made bare_node ts))) → (o : Form) (c : Nonterminal) (t : Tree) → SameAt (list_rule r) o c t
list_at r g Single c (leaf s x) m h = refl
list_at r g Single c (list ts) m h = no_list c ts m
list_at r g Single c (node k cs) m h = by_kind (list_rule r) true c k cs (record { may = m; below = h }) (even_list r) refl
list_at r g Maybe c (list ts) m h = g c false ts h
list_at r g Maybe c (leaf s x) m h = absurd (false≢true m)
list_at r g Maybe c (node k cs) m h = absurd (false≢true m)
list_at r g (Several s) c (list ts) m h = g c true ts h
list_at r g (Several s') c (leaf s x) m h = absurd (false≢true m)
list_at r g (Several s') c (node k cs) m h = absurd (false≢true m)

lists_same : (r : Forest → Bool) → ((c : Nonterminal) (w : Bool) (ts : Forest) → loose_each c ts ≡ true → r (trim w (each_made laid_node ts)) ≡ r (trim w (each_made bare_node ts)))
    → (k : Kind) (cs : Forest) → loose_slots (positions k) cs ≡ true → all_of (list_rule r) (lays k cs) ≡ all_of (list_rule r) (bares k cs)
lists_same r g k cs h = parts_fold (all_of (list_rule r)) (list_rule r) (alls (list_rule r)) (list_at r g) (positions k) cs h

at_most_same : (n : ℕ) (f : Tree → Bool) → ((c : Nonterminal) (t : Tree) → At c t → Same f t) → (c : Nonterminal) (w : Bool) (ts : Forest) → loose_each c ts ≡ true → at_most n f (trim w (each_made laid_node ts)) ≡ at_most n f (trim w (each_made bare_node ts))
at_most_same n f g c w ts h = ap (λ m. nat_le m n) (fold_trim (count_of f) f (counts f) c (g c) w ts h)

members_same : (c : Nonterminal) (w : Bool) (ts : Forest) → loose_each c ts ≡ true → members_rule (trim w (each_made laid_node ts)) ≡ members_rule (trim w (each_made bare_node ts))
members_same c w ts h =
    ap (λ b. b && all_of is_good_member (trim w (each_made laid_node ts))) (at_most_same 1 is_constructor constructor_same c w ts h)
    ∙ ap (λ b. at_most 1 is_constructor (trim w (each_made bare_node ts)) && b) (fold_trim (all_of is_good_member) is_good_member (alls is_good_member) c (good_same c) w ts h)

inits_same : (v : DeclareWord) (c : Nonterminal) (w : Bool) (ts : Forest) → loose_each c ts ≡ true → all_of (has_init v) (trim w (each_made laid_node ts)) ≡ all_of (has_init v) (trim w (each_made bare_node ts))
inits_same v c w ts h = fold_trim (all_of (has_init v)) (has_init v) (alls (has_init v)) c (init_same v c) w ts h

-- whether a list is there
here_at : (o : Form) (c : Nonterminal) (t : Tree) → may_shape o c t ≡ true → loose c t ≡ true → is_here (of_list Maybe (laid_tree t)) ≡ is_here (of_list Maybe (bare t))
here_at Single c t m h = here_same c t (record { may = m; below = h })
here_at Maybe c (list ts) m h = here_list ts
here_at (Several s) c (list ts) m h = here_list ts
here_at Maybe c (leaf s x) m h = absurd (false≢true m)
here_at Maybe c (node k cs) m h = absurd (false≢true m)
here_at (Several s') c (leaf s x) m h = absurd (false≢true m)
here_at (Several s') c (node k cs) m h = absurd (false≢true m)

-- ---- parameters of bodies that are strict by their own

body_at : (o : Form) (c : Nonterminal) (t : Tree) → SameAt is_strict_body o c t
body_at Single c t m h = body_same c t (record { may = m; below = h })
body_at Maybe c (list ts) m h = refl
body_at (Several s) c (list ts) m h = refl
body_at Maybe c (leaf s x) m h = absurd (false≢true m)
body_at Maybe c (node k cs) m h = absurd (false≢true m)
body_at (Several s') c (leaf s x) m h = absurd (false≢true m)
body_at (Several s') c (node k cs) m h = absurd (false≢true m)

bodies_same : (k : Kind) (cs : Forest) → loose_slots (positions k) cs ≡ true → count_of is_strict_body (lays k cs) ≡ count_of is_strict_body (bares k cs)
bodies_same k cs h = parts_fold (count_of is_strict_body) is_strict_body (counts is_strict_body) body_at (positions k) cs h

no_body_node : (c : Nonterminal) (k : Kind) (cs : Forest) → not (in_homes (lax c) (Body ∷ [])) ≡ true → may_stand c (node k cs) ≡ true → is_strict_body (laid_node k (lays k cs)) ≡ false
no_body_node c (program FunctionBody) cs n m = nowhere (asks c) (in_homes (lax c) (Body ∷ [])) n m
no_body_node c (expression BareArrow) none n m = refl
no_body_node c (expression BareArrow) (part a b) n m = refl
no_body_node c (expression BareArrowBlock) none n m = refl
no_body_node c (expression BareArrowBlock) (part a b) n m = refl
no_body_node c (expression NewWithoutArguments) none n m = refl
no_body_node c (expression NewWithoutArguments) (part a none) n m = refl
no_body_node c (expression NewWithoutArguments) (part a (part b bs)) n m = refl
no_body_node c k cs n m = refl

pub no_body : (c : Nonterminal) (t : Tree) → not (in_homes (lax c) (Body ∷ [])) ≡ true → may_stand c t ≡ true → is_strict_body (laid_tree t) ≡ false
no_body c (leaf s x) n m = refl
no_body c (list ts) n m = refl
no_body c (node k cs) n m = no_body_node c k cs n m

no_body_at : (o : Form) (c : Nonterminal) (t : Tree) → not (in_homes (lax c) (Body ∷ [])) ≡ true → may_shape o c t ≡ true → is_strict_body (of_list o (laid_tree t)) ≡ false
no_body_at Single c t n m = no_body c t n m
no_body_at Maybe c (list ts) n m = refl
no_body_at (Several s) c (list ts) n m = refl
no_body_at Maybe c (leaf s x) n m = absurd (false≢true m)
no_body_at Maybe c (node k cs) n m = absurd (false≢true m)
no_body_at (Several s') c (leaf s x) n m = absurd (false≢true m)
no_body_at (Several s') c (node k cs) n m = absurd (false≢true m)

not_counted : (f : Tree → Bool) (t : Tree) (ts : Forest) → f t ≡ false → count_of f ts ≡ 0 → count_of f (part t ts) ≡ 0
not_counted f t ts e h = ap (λ b. cond b (suc (count_of f ts)) (count_of f ts)) e ∙ h

none_counted : (ss : List Position) (cs : Forest) → no_bodies ss ≡ true → loose_slots ss cs ≡ true → count_of is_strict_body (mades laid_node ss cs) ≡ 0
none_counted ss none n h = refl
none_counted [] (part t ts) n h = absurd (false≢true h)
none_counted (position o c l b a ∷ ss) (part t ts) n h =
    let p = and_parts (may_shape o c t) (loose c t && loose_slots ss ts) h in
    let q = and_parts (loose c t) (loose_slots ss ts) p.1 in
    let r = and_parts (not (in_homes (lax c) (Body ∷ []))) (no_bodies ss) n in
    not_counted is_strict_body (of_list o (laid_tree t)) (mades laid_node ss ts) (no_body_at o c t r.0 p.0) (none_counted ss ts r.1 q.1)

plain_at : (o : Form) (c : Nonterminal) (t : Tree) → firm c ≡ true → SameAt is_plain_list o c t
plain_at Single c (leaf s x) p m h = refl
plain_at Single c (list ts) p m h = no_list c ts m
plain_at Single c (node k cs) p m h = firm_by is_plain_list c k cs p m refl
plain_at Maybe c (list ts) p m h = fold_all (all_of is_word) is_word (alls is_word) c (λ t a. word_same c t p a) ts h
plain_at (Several s) c (list ts) p m h = fold_some (all_of is_word) is_word (alls is_word) c (λ t a. word_same c t p a) ts h
plain_at Maybe c (leaf s x) p m h = absurd (false≢true m)
plain_at Maybe c (node k cs) p m h = absurd (false≢true m)
plain_at (Several s') c (leaf s x) p m h = absurd (false≢true m)
plain_at (Several s') c (node k cs) p m h = absurd (false≢true m)

plains_same : (ss : List Position) (cs : Forest) → all_firm ss ≡ true → loose_slots ss cs ≡ true → all_of is_plain_list (mades laid_node ss cs) ≡ all_of is_plain_list (mades bare_node ss cs)
plains_same ss none f h = refl
plains_same [] (part t ts) f h = absurd (false≢true h)
plains_same (position o c l b a ∷ ss) (part t ts) f h =
    let p = and_parts (may_shape o c t) (loose c t && loose_slots ss ts) h in
    let q = and_parts (loose c t) (loose_slots ss ts) p.1 in
    let r = and_parts (firm c) (all_firm ss) f in
    ap (λ d. d && all_of is_plain_list (mades laid_node ss ts)) (plain_at o c t r.0 p.0 q.0) ∙ ap (λ d. is_plain_list (of_list o (bare t)) && d) (plains_same ss ts r.1 q.1)

none_strict : (n m : ℕ) (a b : Bool) → n ≡ m → n ≡ 0 → (nat_eq n 0 || a) ≡ (nat_eq m 0 || b)
none_strict n m a b e z = ap (λ i. nat_eq i 0 || a) z ∙ sym (ap (λ i. nat_eq i 0 || b) (sym e ∙ z))

plain_same : (k : Kind) (cs : Forest) → loose_slots (positions k) cs ≡ true → has_plain_params (lays k cs) ≡ has_plain_params (bares k cs)
plain_same k cs h =
    ⊎_elim (λ n. none_strict (count_of is_strict_body (lays k cs)) (count_of is_strict_body (bares k cs)) (all_of is_plain_list (lays k cs)) (all_of is_plain_list (bares k cs)) (bodies_same k cs h) (none_counted (positions k) cs n h))
    (λ f. ap (λ n. nat_eq n 0 || all_of is_plain_list (lays k cs)) (bodies_same k cs h) ∙ ap (λ b. nat_eq (count_of is_strict_body (bares k cs)) 0 || b) (plains_same (positions k) cs f h))
    (or_cases (no_bodies (positions k)) (all_firm (positions k)) (row_facts k).bodies)

-- ---- templates

abbrev is_expr : Nonterminal → Bool
is_expr (Expr n) = true
is_expr c = false

abbrev cookable : List Position → Bool
cookable [] = true
cookable (position o c l b a ∷ ss) = (firm c || is_expr c) && cookable ss

expr_at : (c : Nonterminal) (t : Tree) → is_expr c ≡ true → At c t → Same is_cooked t
expr_at (Expr n) t e a = expr_cooked n t a
expr_at _ t e a = absurd (false≢true e)

cooked_at : (o : Form) (c : Nonterminal) (t : Tree) → (firm c || is_expr c) ≡ true → SameAt is_cooked o c t
cooked_at Single c t p m h = ⊎_elim (λ f. piece_cooked c t f (record { may = m; below = h })) (λ e. expr_at c t e (record { may = m; below = h })) (or_cases (firm c) (is_expr c) p)
cooked_at Maybe c (list ts) p m h = refl
cooked_at (Several s) c (list ts) p m h = refl
cooked_at Maybe c (leaf s x) p m h = absurd (false≢true m)
cooked_at Maybe c (node k cs) p m h = absurd (false≢true m)
cooked_at (Several s') c (leaf s x) p m h = absurd (false≢true m)
cooked_at (Several s') c (node k cs) p m h = absurd (false≢true m)

cooked_same : (ss : List Position) (cs : Forest) → cookable ss ≡ true → loose_slots ss cs ≡ true → all_of is_cooked (mades laid_node ss cs) ≡ all_of is_cooked (mades bare_node ss cs)
cooked_same ss none f h = refl
cooked_same [] (part t ts) f h = absurd (false≢true h)
cooked_same (position o c l b a ∷ ss) (part t ts) f h =
    let p = and_parts (may_shape o c t) (loose c t && loose_slots ss ts) h in
    let q = and_parts (loose c t) (loose_slots ss ts) p.1 in
    let r = and_parts (firm c || is_expr c) (cookable ss) f in
    ap (λ d. d && all_of is_cooked (mades laid_node ss ts)) (cooked_at o c t r.0 p.0 q.0) ∙ ap (λ d. is_cooked (of_list o (bare t)) && d) (cooked_same ss ts r.1 q.1)

-- ---- the rules of one node, but for those that pairs mend

delete_same : (cs : Forest) → loose_slots (positions (expression (Unary Delete))) cs ≡ true → rule (expression (Unary Delete)) (lays (expression (Unary Delete)) cs) ≡ rule (expression (Unary Delete)) (bares (expression (Unary Delete)) cs)
delete_same none h = refl
delete_same (part t ts) h = ap not (name_same 15 t (first_at (Expr 15) t _ h))

links_same : (o : Tree) (ls : Forest) → loose_slots (positions (expression Chain)) (part o (part (list ls) none)) ≡ true
    → rule (expression Chain) (lays (expression Chain) (part o (part (list ls) none))) ≡ rule (expression Chain) (bares (expression Chain) (part o (part (list ls) none)))
links_same o ls h =
    fold_some (first_of_list is_optional) is_optional (firsts is_optional) ChainLink optional_same ls
    (each_at (enough OneOrMore ls && last_only ls) (loose_each ChainLink ls) true (rest_at (may_stand MemberObject o) (loose MemberObject o) ((enough OneOrMore ls && last_only ls) && (loose_each ChainLink ls && true)) h))

try_same : (x y z : Tree) → loose_slots (positions (statement Try)) (part x (part y (part z none))) ≡ true
    → (is_here (of_list Maybe (laid_tree y)) || is_here (of_list Maybe (laid_tree z))) ≡ (is_here (of_list Maybe (bare y)) || is_here (of_list Maybe (bare z)))
try_same x y z h =
    let p = rest_at (may_stand BlockOnly x) (loose BlockOnly x) (may_shape Maybe CatchClause y && (loose CatchClause y && (may_shape Maybe BlockOnly z && (loose BlockOnly z && true)))) h in
    let q = and_parts (may_shape Maybe CatchClause y) (loose CatchClause y && (may_shape Maybe BlockOnly z && (loose BlockOnly z && true))) p in
    let r = and_parts (loose CatchClause y) (may_shape Maybe BlockOnly z && (loose BlockOnly z && true)) q.1 in
    let s = and_parts (may_shape Maybe BlockOnly z) (loose BlockOnly z && true) r.1 in
    ap (λ b. b || is_here (of_list Maybe (laid_tree z))) (here_at Maybe CatchClause y q.0 r.0)
    ∙ ap (λ b. is_here (of_list Maybe (bare y)) || b) (here_at Maybe BlockOnly z s.0 (and_parts (loose BlockOnly z) true s.1).0)

if_same : (e s o : Tree) → loose_slots (positions (statement If)) (part e (part s (part o none))) ≡ true
    → not (is_here (of_list Maybe (laid_tree o)) && open_if (laid_tree s)) ≡ not (is_here (of_list Maybe (bare o)) && open_if (bare s))
if_same e s o h =
    let p = rest_at (may_stand (Expr 0) e) (loose (Expr 0) e) (may_stand SubStmt s && (loose SubStmt s && (may_shape Maybe SubStmt o && (loose SubStmt o && true)))) h in
    let q = rest_at (may_stand SubStmt s) (loose SubStmt s) (may_shape Maybe SubStmt o && (loose SubStmt o && true)) p in
    let r = and_parts (may_shape Maybe SubStmt o) (loose SubStmt o && true) q in
    ap (λ b. not (b && open_if (laid_tree s))) (here_at Maybe SubStmt o r.0 (and_parts (loose SubStmt o) true r.1).0)
    ∙ ap (λ b. not (is_here (of_list Maybe (bare o)) && b)) (open_same SubStmt s (first_at SubStmt s (may_shape Maybe SubStmt o && (loose SubStmt o && true)) p))

setter_same : (x q b : Tree) → (may_stand Key x && (loose Key x && (may_stand SetterParam q && (loose SetterParam q && (may_stand Body b && (loose Body b && true)))))) ≡ true
    → (not (is_strict_body (laid_tree b)) || is_word (laid_tree q)) ≡ (not (is_strict_body (bare b)) || is_word (bare q))
setter_same x q b h =
    let p = rest_at (may_stand Key x) (loose Key x) (may_stand SetterParam q && (loose SetterParam q && (may_stand Body b && (loose Body b && true)))) h in
    let r = rest_at (may_stand SetterParam q) (loose SetterParam q) (may_stand Body b && (loose Body b && true)) p in
    ap (λ d. not d || is_word (laid_tree q)) (body_same Body b (first_at Body b true r)) ∙ ap (λ d. not (is_strict_body (bare b)) || d) (word_same SetterParam q refl (first_at SetterParam q (may_stand Body b && (loose Body b && true)) p))

pub rule_same : (k : Kind) (cs : Forest) → is_no_jsx k ≡ true → loose_slots (positions k) cs ≡ true → (is_mended k || rule k (lays k cs)) ≡ (is_mended k || rule k (bares k cs))
rule_same (jsx j) cs n h = absurd (false≢true n)
rule_same (expression Object) cs n h = lists_same (at_most 1 is_proto) (at_most_same 1 is_proto proto_same) (expression Object) cs h
rule_same (expression (Unary Delete)) cs n h = delete_same cs h
rule_same (expression Chain) (part o (part (list ls) none)) n h = links_same o ls h
rule_same (expression Chain) (part o (part (leaf s x) us)) n h = no_more (may_stand MemberObject o) (loose MemberObject o) h
rule_same (expression Chain) (part o (part (node k cs) us)) n h = no_more (may_stand MemberObject o) (loose MemberObject o) h
rule_same (expression (PlainTemplate false)) cs n h = cooked_same (positions (expression (PlainTemplate false))) cs refl h
rule_same (expression (SubstitutedTemplate false)) cs n h = cooked_same (positions (expression (SubstitutedTemplate false))) cs refl h
rule_same (expression (TemplateSpan false)) cs n h = cooked_same (positions (expression (TemplateSpan false))) cs refl h
rule_same (function ClassExpr) cs n h = lists_same members_rule members_same (function ClassExpr) cs h
rule_same (statement ClassDecl) cs n h = lists_same members_rule members_same (statement ClassDecl) cs h
rule_same (statement (Var v)) cs n h = lists_same (all_of (has_init v)) (inits_same v) (statement (Var v)) cs h
rule_same (statement (ForDeclaration v)) cs n h = lists_same (all_of (has_init v)) (inits_same v) (statement (ForDeclaration v)) cs h
rule_same (statement Switch) cs n h = lists_same (at_most 1 is_default) (at_most_same 1 is_default default_same) (statement Switch) cs h
rule_same (statement For) cs n h = refl
rule_same (program Module) cs n h = refl
rule_same (program Script) cs n h = refl
rule_same (program FunctionBody) cs n h = refl
rule_same (statement Try) (part x (part y (part z none))) n h = try_same x y z h
rule_same (statement If) (part e (part s (part o none))) n h = if_same e s o h
rule_same (function (Setter InObject)) (part x (part q (part b none))) n h = setter_same x q b h
rule_same (function (Setter InClass)) (part x (part q (part b none))) n h = setter_same x q b h
rule_same (function (Setter Static)) (part x (part q (part b none))) n h = setter_same x q b h
rule_same (function (Setter InObject)) cs n h = plain_same (function (Setter InObject)) cs h
rule_same (function (Setter InClass)) cs n h = plain_same (function (Setter InClass)) cs h
rule_same (function (Setter Static)) cs n h = plain_same (function (Setter Static)) cs h
rule_same k cs n h = plain_same k cs h

-- ---- the rules on what a node stands in

jump_same : (l : Bool) (js : List Jump) (t : Tree) → At Ident t → label_in l js (list (part (laid_tree t) none)) ≡ label_in l js (list (part (bare t) none))
jump_same l js (leaf s x) a = refl
jump_same l js (list ts) a = refl
jump_same l js (node k cs) a = firm_by (λ u. label_in l js (list (part u none))) Ident k cs refl a.may refl

fresh_same : (t : Tree) (ts us : Forest) (js : List Jump) → At Ident t → is_fresh_label (part (laid_tree t) ts) js ≡ is_fresh_label (part (bare t) us) js
fresh_same (leaf IdentifierName x) ts us js a = refl
fresh_same (leaf s x) ts us js a = refl
fresh_same (list vs) ts us js a = refl
fresh_same (node k cs) ts us js a =
    let o = no_turn Ident k cs refl a.may in
    ap (λ u. is_fresh_label (part u ts) js) (laid_stays k (lays k cs) o) ∙ sym (ap (λ u. is_fresh_label (part u us) js) (bare_stays k (bares k cs) o))

abbrev rest : List Position → List Position
rest [] = []
rest (s ∷ ss) = ss

functions_same : (k : Kind) (cs : Forest) → loose_slots (positions k) cs ≡ true → all_of (list_rule (at_most 0 is_function)) (lays k cs) ≡ all_of (list_rule (at_most 0 is_function)) (bares k cs)
functions_same k cs h = lists_same (at_most 0 is_function) (at_most_same 0 is_function function_same) k cs h

pub stands_same : (k : Kind) (cs : Forest) (v : Surroundings) → loose_slots (positions k) cs ≡ true → stands k (lays k cs) v ≡ stands k (bares k cs) v
stands_same (statement Break) (part (list none) none) v h = refl
stands_same (statement Break) (part (list (part t none)) none) v h = jump_same false v.labels t (first_at Ident t true (each_at true (loose_each Ident (part t none)) true h))
stands_same (statement Break) (part (list (part t (part u us))) none) v h = absurd (false≢true h)
stands_same (statement Break) (part (leaf s x) us) v h = absurd (false≢true h)
stands_same (statement Break) (part (node k cs) us) v h = absurd (false≢true h)
stands_same (statement Continue) (part (list none) none) v h = refl
stands_same (statement Continue) (part (list (part t none)) none) v h = jump_same true v.labels t (first_at Ident t true (each_at true (loose_each Ident (part t none)) true h))
stands_same (statement Continue) (part (list (part t (part u us))) none) v h = absurd (false≢true h)
stands_same (statement Continue) (part (leaf s x) us) v h = absurd (false≢true h)
stands_same (statement Continue) (part (node k cs) us) v h = absurd (false≢true h)
stands_same (statement Label) none v h = refl
stands_same (statement Label) (part t ts) v h = fresh_same t (mades laid_node (rest (positions (statement Label))) ts) (mades bare_node (rest (positions (statement Label))) ts) v.labels (first_at Ident t (loose_slots (rest (positions (statement Label))) ts) h)
stands_same (statement Block) cs v h = ap (λ b. v.strict || b) (functions_same (statement Block) cs h)
stands_same (statement Case) cs v h = ap (λ b. v.strict || b) (functions_same (statement Case) cs h)
stands_same (statement Default) cs v h = ap (λ b. v.strict || b) (functions_same (statement Default) cs h)
stands_same (expression NewTarget) cs v h = refl
stands_same (expression ImportMeta) cs v h = refl
stands_same (expression SuperMember) cs v h = refl
stands_same (expression SuperIndex) cs v h = refl
stands_same (expression SuperCall) cs v h = refl
stands_same _ cs v h = refl

-- ---- what the parts stand in

abbrev key_first : List Position → Bool
key_first (position Single Key g b a ∷ ss) = true
key_first ss = false

method_first : (k : Kind) → is_method k ≡ true → key_first (positions k) ≡ true
method_first (function (Method InObject)) h = refl
method_first (function (Method InClass)) h = refl
method_first (function (Method Static)) h = refl
method_first (function (Getter InObject)) h = refl
method_first (function (Getter InClass)) h = refl
method_first (function (Getter Static)) h = refl
method_first (function (Setter InObject)) h = refl
method_first (function (Setter InClass)) h = refl
method_first (function (Setter Static)) h = refl
method_first _ h = absurd (false≢true h)

constructors_same : (d : Holder) (ss : List Position) (cs : Forest) → key_first ss ≡ true → loose_slots ss cs ≡ true → first_is_constructor d (mades laid_node ss cs) ≡ first_is_constructor d (mades bare_node ss cs)
constructors_same InClass (position Single Key g b a ∷ ss) (part t ts) e h = key_same (codes "constructor") Key t refl (first_at Key t (loose_slots ss ts) h)
constructors_same InClass (position _ _ g b a ∷ ss) (part t ts) e h = absurd (false≢true e)
constructors_same InClass ss none e h = refl
constructors_same InClass [] (part t ts) e h = absurd (false≢true e)
constructors_same InObject ss cs e h = refl
constructors_same Static ss cs e h = refl

third_same : (ss : List Position) (o : Form) (c d : Nonterminal) (g g' : List Text) (b b' : Bool) (a a' : List Context) (cs : Forest) → loose_slots (position o c g b a ∷ position Maybe d g' b' a' ∷ ss) cs ≡ true
    → third (mades laid_node (position o c g b a ∷ position Maybe d g' b' a' ∷ ss) cs) ≡ third (mades bare_node (position o c g b a ∷ position Maybe d g' b' a' ∷ ss) cs)
third_same ss o c d g g' b b' a a' none h = refl
third_same ss o c d g g' b b' a a' (part t none) h = refl
third_same ss o c d g g' b b' a a' (part t (part (list ws) us)) h = here_list ws
third_same ss o c d g g' b b' a a' (part t (part (leaf s x) us)) h = no_more (may_shape o c t) (loose c t) h
third_same ss o c d g g' b b' a a' (part t (part (node k cs) us)) h = no_more (may_shape o c t) (loose c t) h

members_third : (k : Kind) (cs : Forest) → is_class k ≡ true → loose_slots (positions k) cs ≡ true → third (lays k cs) ≡ third (bares k cs)
members_third (function ClassExpr) cs i h = third_same _ _ _ _ _ _ _ _ _ _ cs h
members_third (statement ClassDecl) cs i h = third_same _ _ _ _ _ _ _ _ _ _ cs h
members_third _ cs i h = absurd (false≢true i)

label_same : (k : Kind) (cs : Forest) → is_label k ≡ true → loose_slots (positions k) cs ≡ true → label_of (lays k cs) ≡ label_of (bares k cs)
label_same (statement Label) none i h = refl
label_same (statement Label) (part (leaf IdentifierName x) none) i h = refl
label_same (statement Label) (part (leaf IdentifierName x) (part s none)) i h =
    ap (λ b. jump x b ∷ []) (loop_same SubStmt s (first_at SubStmt s true (rest_at (may_stand Ident (leaf IdentifierName x)) (loose Ident (leaf IdentifierName x)) (may_stand SubStmt s && (loose SubStmt s && true)) h)))
label_same (statement Label) (part (leaf IdentifierName x) (part s (part u us))) i h = refl
label_same (statement Label) (part (leaf s x) ts) i h = refl
label_same (statement Label) (part (list vs) ts) i h = refl
label_same (statement Label) (part (node k cs) ts) i h =
    let o = no_turn Ident k cs refl (and_parts (may_stand Ident (node k cs)) (loose Ident (node k cs) && loose_slots (rest (positions (statement Label))) ts) h).0 in
    ap (λ u. label_of (part u (mades laid_node (rest (positions (statement Label))) ts))) (laid_stays k (lays k cs) o)
    ∙ sym (ap (λ u. label_of (part u (mades bare_node (rest (positions (statement Label))) ts))) (bare_stays k (bares k cs) o))
label_same _ cs i h = absurd (false≢true i)

code_same : (k : Kind) (cs : Forest) → is_code_kind k ≡ true → loose_slots (positions k) cs ≡ true → has_strict (lays k cs) ≡ has_strict (bares k cs)
code_same (program Script) none i h = refl
code_same (program Script) (part (list ts) us) i h = directives_same ts (each_at (last_only ts) (loose_each DirectiveOnly ts) (loose_slots (rest (positions (program Script))) us) h)
code_same (program Script) (part (leaf s x) us) i h = refl
code_same (program Script) (part (node k cs) us) i h = absurd (false≢true h)
code_same (program FunctionBody) none i h = refl
code_same (program FunctionBody) (part (list ts) us) i h = directives_same ts (each_at (last_only ts) (loose_each DirectiveOnly ts) (loose_slots (rest (positions (program FunctionBody))) us) h)
code_same (program FunctionBody) (part (leaf s x) us) i h = refl
code_same (program FunctionBody) (part (node k cs) us) i h = absurd (false≢true h)
code_same _ cs i h = absurd (false≢true i)

enter_same : (k : Kind) (cs : Forest) (a : Context) (v : Surroundings) → known k a ≡ true → loose_slots (positions k) cs ≡ true → enter (lays k cs) a v ≡ enter (bares k cs) a v
enter_same k cs (InMethod d) v i h =
    ap (λ b. record v { returns = true; target' = true; super' = true; super_call = v.derived && b; loop = false; breakable = false; labels = [] }) (constructors_same d (positions k) cs (method_first k i) h)
enter_same k cs InMembers v i h = ap (λ b. record v { derived = b }) (members_third k cs i h)
enter_same k cs InLabel v i h = ap (λ l. record v { labels = l ++ v.labels }) (label_same k cs i h)
enter_same k cs InCode v i h = ap (λ b. record v { strict = v.strict || b }) (code_same k cs i h)
enter_same k cs InFunction v i h = refl
enter_same k cs InArrow v i h = refl
enter_same k cs InField v i h = refl
enter_same k cs InClassCode v i h = refl
enter_same k cs InLoop v i h = refl
enter_same k cs InSwitch v i h = refl
enter_same k cs InModuleCode v i h = refl

pub enters_same : (k : Kind) (cs : Forest) (a : List Context) (v : Surroundings) → all_known k a ≡ true → loose_slots (positions k) cs ≡ true → enters (lays k cs) a v ≡ enters (bares k cs) a v
enters_same k cs [] v i h = refl
enters_same k cs (a ∷ as') v i h =
    let p = and_parts (known k a) (all_known k as') i in
    enter_same k cs a (enters (lays k cs) as' v) p.0 h ∙ ap (enter (bares k cs) a) (enters_same k cs as' v p.1 h)
