-- A program that keeps the static rules keeps them as it is laid with its elements replaced, but for those that pairs mend.
use Rattle.std.proofs.Common.{◌≡◌, ℕ, suc, List, [], ◌∷◌, ◌++◌, Bool, true, false, cond, sym, refl, ap, ◌∙◌, ⊎_elim}
use Rattle.std.proofs.lemmas.Bool.{and_parts, and_from, or_cases, or_left, or_right, false≢true, not-true}
use Rattle.std.specs.Prelude.{codes, not, ◌&&◌, ◌||◌, nat_eq, nat_le}
use Rattle.jsx_base.specs.Token.{Text, TokenKind, IdentifierName, JsxName}
use Rattle.jsx_tree.specs.Kinds.{Kind, program, statement, function, expression, jsx, DeclareWord, Module, Script, FunctionBody, Empty, Block, Var, If, For, ForDeclaration, Continue, Break, Label, Switch, Case, Default, Try, ClassDecl, Holder, InObject, InClass, Static, ClassExpr, Method, Getter, Setter, Delete, Unary, Chain, Object, PlainTemplate, SubstitutedTemplate, TemplateSpan, NewTarget, Arrow, ArrowBlock, BareArrow, BareArrowBlock, New, NewWithoutArguments, Tree, leaf, node, list, Forest, none, part}
use Rattle.jsx_tree.specs.Nonterminals.{Nonterminal, Expr, MemberObject, SubStmt, Ident, BindingIdent, Key, ChainLink, SetterParam, DirectiveOnly, Body, leaf_in, in_homes, homes}
use Rattle.jsx_tree.specs.Grammar.{OneOrMore, Context, InFunction, InArrow, InMethod, InField, InClassCode, InMembers, InLoop, InSwitch, InLabel, InCode, InModuleCode}
use Rattle.jsx_tree.specs.Normal.{is_empty, unless_empty, without_empty, laid_node, mades, of_list, laid_tree}
use Rattle.jsx_tree.specs.StaticRules.{Surroundings, Jump, jump, rule, stands, enter, enters, legal, legals, each_legal, all_of, count_of, at_most, is_here, is_proto, is_constructor, is_good_member, is_default, is_function, is_strict_body, is_word, is_plain_list, has_plain_params, has_init, first_of_list, open_if, is_cooked, is_optional, list_rule, members_rule, label_in, is_fresh_label, label_of, first_is_constructor, has_strict, third}
use Rattle.jsx_tree.specs.Form.{Form, Single, Maybe, Several, Position, position, positions, enough, last_only, at_most_one, shaped, admits, fits_below, fit_slots, fit_each}
use Rattle.jsx_tree.specs.Sound.{is_no_jsx, is_mended, lawful, lawfuls, each_lawful, each_node, each_nodes}
use Rattle.jsx_tree.proofs.ReadBack.Basics.{clash}
use Rattle.jsx_tree.proofs.Parentheses.EmptyStatements.{drops, all_drops}
use Rattle.jsx_tree.proofs.Parentheses.PlaceTests.{is_method, is_class, is_label, is_code_kind, known, all_known, knowns}
use Rattle.jsx_tree.proofs.Parentheses.PlaceTable.{row_facts}
use Rattle.jsx_tree.proofs.Parentheses.Replaced.{Replacing, outs}
use Rattle.jsx_tree.proofs.Parentheses.Seen.{rest_at, each_at, no_more}
use Rattle.jsx_tree.proofs.Parentheses.SeenLaid.{Keeps, Fit, first_fit, one_fit, rest_fit, laid_out, lays_out, each_out, turned, key_laid, word_laid, cooked_laid, here_laid, name_laid, empty_laid, default_laid, function_laid, optional_laid, proto_laid, constructor_laid, good_laid, init_laid, trim, of_empty, counted, all_laid, directives_laid, body_laid, loop_laid, open_laid}

-- ---- the parts of a node, one by one

-- a test that holds of a tree where it stands holds of it as it is laid
abbrev KeptAt : Replacing → (Tree → Bool) → Type 0
KeptAt r f = (o : Form) (c : Nonterminal) (t : Tree) → shaped o c t ≡ true → fits_below c t ≡ true → f t ≡ true → f (of_list o (laid_out r t)) ≡ true

parts_kept : (r : Replacing) (f : Tree → Bool) → KeptAt r f → (ss : List Position) (cs : Forest) → fit_slots ss cs ≡ true → all_of f cs ≡ true → all_of f (mades laid_node ss (outs r cs)) ≡ true
parts_kept r f g ss none h l = refl
parts_kept r f g [] (part t ts) h l = absurd (false≢true h)
parts_kept r f g (position o c e b a ∷ ss) (part t ts) h l =
    let p = and_parts (shaped o c t) (fits_below c t && fit_slots ss ts) h in
    let q = and_parts (fits_below c t) (fit_slots ss ts) p.1 in
    let s = and_parts (f t) (all_of f ts) l in
    and_from _ _ (g o c t p.0 q.0 s.0) (parts_kept r f g ss ts q.1 s.1)

-- a rule on lists that holds of one holds of it laid, with its empty statements and without
abbrev KeptList : Replacing → (Forest → Bool) → Type 0
KeptList r q = (c : Nonterminal) (w : Bool) (ts : Forest) → fit_each c ts ≡ true → q ts ≡ true → q (trim w (each_out r ts)) ≡ true

list_at : (r : Replacing) (q : Forest → Bool) → KeptList r q → KeptAt r (list_rule q)
list_at r q g Single c (leaf s x) m h l = refl
list_at r q g Single c (list ts) m h l = absurd (false≢true m)
list_at r q g Single c (node k cs) m h l = turned r (list_rule q) (λ d e. refl, λ d e. refl, λ d e. refl, λ j d e. refl) k cs refl
list_at r q g Maybe c (list ts) m h l = g c false ts h l
list_at r q g (Several s) c (list ts) m h l = g c true ts h l
list_at r q g Maybe c (leaf s x) m h l = absurd (false≢true m)
list_at r q g Maybe c (node k cs) m h l = absurd (false≢true m)
list_at r q g (Several s') c (leaf s x) m h l = absurd (false≢true m)
list_at r q g (Several s') c (node k cs) m h l = absurd (false≢true m)

lists_kept : (r : Replacing) (q : Forest → Bool) → KeptList r q → (k : Kind) (cs : Forest) → fit_slots (positions k) cs ≡ true → all_of (list_rule q) cs ≡ true → all_of (list_rule q) (lays_out r k cs) ≡ true
lists_kept r q g k cs h l = parts_kept r (list_rule q) (list_at r q g) (positions k) cs h l

at_most_kept : (r : Replacing) (n : ℕ) (f : Tree → Bool) → ((t : Tree) → is_empty t ≡ true → f t ≡ false) → ((t : Tree) → Keeps r f t) → KeptList r (at_most n f)
at_most_kept r n f e g c w ts h l = ap (λ m. nat_le m n) (counted r f e c (λ t a. g t) w ts h) ∙ l

members_kept : (r : Replacing) → KeptList r members_rule
members_kept r c w ts h l =
    let p = and_parts (at_most 1 is_constructor ts) (all_of is_good_member ts) l in
    and_from _ _ (at_most_kept r 1 is_constructor (of_empty is_constructor (λ cs. refl)) (constructor_laid r) c w ts h p.0) (all_laid r is_good_member c (λ t a. good_laid r t) w ts h p.1)

-- ---- parameters of bodies that are strict by their own

body_at : (r : Replacing) (o : Form) (c : Nonterminal) (t : Tree) → shaped o c t ≡ true → fits_below c t ≡ true → is_strict_body (of_list o (laid_out r t)) ≡ is_strict_body t
body_at r Single c t m h = body_laid r c t (record { home = m; below = h })
body_at r Maybe c (list ts) m h = refl
body_at r (Several s) c (list ts) m h = refl
body_at r Maybe c (leaf s x) m h = absurd (false≢true m)
body_at r Maybe c (node k cs) m h = absurd (false≢true m)
body_at r (Several s') c (leaf s x) m h = absurd (false≢true m)
body_at r (Several s') c (node k cs) m h = absurd (false≢true m)

bodies_laid : (r : Replacing) (ss : List Position) (cs : Forest) → fit_slots ss cs ≡ true → count_of is_strict_body (mades laid_node ss (outs r cs)) ≡ count_of is_strict_body cs
bodies_laid r ss none h = refl
bodies_laid r [] (part t ts) h = absurd (false≢true h)
bodies_laid r (position o c e b a ∷ ss) (part t ts) h =
    let p = and_parts (shaped o c t) (fits_below c t && fit_slots ss ts) h in
    let q = and_parts (fits_below c t) (fit_slots ss ts) p.1 in
    ap (λ v. cond v (suc (count_of is_strict_body (mades laid_node ss (outs r ts)))) (count_of is_strict_body (mades laid_node ss (outs r ts)))) (body_at r o c t p.0 q.0)
    ∙ ap (λ n. cond (is_strict_body t) (suc n) n) (bodies_laid r ss ts q.1)

plain_list : (t : Tree) → is_plain_list t ≡ list_rule (all_of is_word) t
plain_list (leaf s x) = refl
plain_list (node k cs) = refl
plain_list (list ts) = refl

plain_at : (r : Replacing) → KeptAt r is_plain_list
plain_at r o c t m h l = plain_list (of_list o (laid_out r t)) ∙ list_at r (all_of is_word) (λ d w ts i p. all_laid r is_word d (λ u a. word_laid r u) w ts i p) o c t m h (sym (plain_list t) ∙ l)

plain_kept : (r : Replacing) (k : Kind) (cs : Forest) → fit_slots (positions k) cs ≡ true → has_plain_params cs ≡ true → has_plain_params (lays_out r k cs) ≡ true
plain_kept r k cs h l =
    ⊎_elim (λ p. or_left _ _ (ap (λ n. nat_eq n 0) (bodies_laid r (positions k) cs h) ∙ p)) (λ p. or_right (nat_eq (count_of is_strict_body (lays_out r k cs)) 0) _ (parts_kept r is_plain_list (plain_at r) (positions k) cs h p))
    (or_cases (nat_eq (count_of is_strict_body cs) 0) (all_of is_plain_list cs) l)

-- ---- the rules of one node, but for those that pairs mend

cooked_at : (r : Replacing) → KeptAt r is_cooked
cooked_at r Single c t m h l = cooked_laid r t ∙ l
cooked_at r Maybe c (list ts) m h l = refl
cooked_at r (Several s) c (list ts) m h l = refl
cooked_at r Maybe c (leaf s x) m h l = absurd (false≢true m)
cooked_at r Maybe c (node k cs) m h l = absurd (false≢true m)
cooked_at r (Several s') c (leaf s x) m h l = absurd (false≢true m)
cooked_at r (Several s') c (node k cs) m h l = absurd (false≢true m)

delete_kept : (r : Replacing) (cs : Forest) → rule (expression (Unary Delete)) cs ≡ true → rule (expression (Unary Delete)) (lays_out r (expression (Unary Delete)) cs) ≡ true
delete_kept r none l = refl
delete_kept r (part t ts) l = ap not (name_laid r t) ∙ l

link_kept : (r : Replacing) (t : Tree) (us : Forest) → admits ChainLink t ≡ true → is_optional t ≡ true → first_of_list is_optional (unless_empty (is_empty (laid_out r t)) (laid_out r t) us) ≡ true
link_kept r t us m l = ap (λ b. first_of_list is_optional (unless_empty b (laid_out r t) us)) (empty_laid r t ∙ filled t m) ∙ (optional_laid r t ∙ l)
  where
    filled : (t : Tree) → admits ChainLink t ≡ true → is_empty t ≡ false
    filled (node (statement Empty) cs) m = absurd (false≢true m)
    filled _ m = refl

links_kept : (r : Replacing) (o : Tree) (ls : Forest) → fit_slots (positions (expression Chain)) (part o (part (list ls) none)) ≡ true → first_of_list is_optional ls ≡ true → first_of_list is_optional (without_empty (each_out r ls)) ≡ true
links_kept r o none h l = absurd (false≢true l)
links_kept r o (part t ts) h l =
    link_kept r t (without_empty (each_out r ts))
    (one_fit ChainLink t ts (each_at (enough OneOrMore (part t ts) && last_only (part t ts)) (fit_each ChainLink (part t ts)) true (rest_at (admits MemberObject o) (fits_below MemberObject o) ((enough OneOrMore (part t ts) && last_only (part t ts)) && (fit_each ChainLink (part t ts) && true)) h))).home l

try_kept : (r : Replacing) (x y z : Tree) → (is_here y || is_here z) ≡ true → (is_here (laid_out r y) || is_here (laid_out r z)) ≡ true
try_kept r x y z l = ap (λ b. b || is_here (laid_out r z)) (here_laid r y) ∙ (ap (λ b. is_here y || b) (here_laid r z) ∙ l)

if_kept : (r : Replacing) (e s o : Tree) → fit_slots (positions (statement If)) (part e (part s (part o none))) ≡ true → not (is_here o && open_if s) ≡ true → not (is_here (laid_out r o) && open_if (laid_out r s)) ≡ true
if_kept r e s o h l =
    let p = rest_at (admits (Expr 0) e) (fits_below (Expr 0) e) (admits SubStmt s && (fits_below SubStmt s && (shaped Maybe SubStmt o && (fits_below SubStmt o && true)))) h in
    ap (λ b. not (b && open_if (laid_out r s))) (here_laid r o) ∙ (ap (λ b. not (is_here o && b)) (open_laid r SubStmt s (first_fit SubStmt s (shaped Maybe SubStmt o && (fits_below SubStmt o && true)) p)) ∙ l)

setter_kept : (r : Replacing) (x q b : Tree) → (admits Key x && (fits_below Key x && (admits SetterParam q && (fits_below SetterParam q && (admits Body b && (fits_below Body b && true)))))) ≡ true
    → (not (is_strict_body b) || is_word q) ≡ true → (not (is_strict_body (laid_out r b)) || is_word (laid_out r q)) ≡ true
setter_kept r x q b h l =
    let p = rest_at (admits Key x) (fits_below Key x) (admits SetterParam q && (fits_below SetterParam q && (admits Body b && (fits_below Body b && true)))) h in
    let s = rest_at (admits SetterParam q) (fits_below SetterParam q) (admits Body b && (fits_below Body b && true)) p in
    ap (λ d. not d || is_word (laid_out r q)) (body_laid r Body b (first_fit Body b true s)) ∙ (ap (λ d. not (is_strict_body b) || d) (word_laid r q) ∙ l)

inits_kept : (r : Replacing) (v : DeclareWord) → KeptList r (all_of (has_init v))
inits_kept r v c w ts h l = all_laid r (has_init v) c (init_laid r v c) w ts h l

rule_kept : (r : Replacing) (k : Kind) (cs : Forest) → is_no_jsx k ≡ true → fit_slots (positions k) cs ≡ true → rule k cs ≡ true → (is_mended k || rule k (lays_out r k cs)) ≡ true
rule_kept r (jsx j) cs n h l = absurd (false≢true n)
rule_kept r (expression Object) cs n h l = lists_kept r (at_most 1 is_proto) (at_most_kept r 1 is_proto (of_empty is_proto (λ cs. refl)) (proto_laid r)) (expression Object) cs h l
rule_kept r (expression (Unary Delete)) cs n h l = delete_kept r cs l
rule_kept r (expression Chain) (part o (part (list ls) none)) n h l = links_kept r o ls h l
rule_kept r (expression Chain) (part o (part (leaf s x) us)) n h l = no_more (admits MemberObject o) (fits_below MemberObject o) h
rule_kept r (expression Chain) (part o (part (node k cs) us)) n h l = no_more (admits MemberObject o) (fits_below MemberObject o) h
rule_kept r (expression (PlainTemplate false)) cs n h l = parts_kept r is_cooked (cooked_at r) (positions (expression (PlainTemplate false))) cs h l
rule_kept r (expression (SubstitutedTemplate false)) cs n h l = parts_kept r is_cooked (cooked_at r) (positions (expression (SubstitutedTemplate false))) cs h l
rule_kept r (expression (TemplateSpan false)) cs n h l = parts_kept r is_cooked (cooked_at r) (positions (expression (TemplateSpan false))) cs h l
rule_kept r (function ClassExpr) cs n h l = lists_kept r members_rule (members_kept r) (function ClassExpr) cs h l
rule_kept r (statement ClassDecl) cs n h l = lists_kept r members_rule (members_kept r) (statement ClassDecl) cs h l
rule_kept r (statement (Var v)) cs n h l = lists_kept r (all_of (has_init v)) (inits_kept r v) (statement (Var v)) cs h l
rule_kept r (statement (ForDeclaration v)) cs n h l = lists_kept r (all_of (has_init v)) (inits_kept r v) (statement (ForDeclaration v)) cs h l
rule_kept r (statement Switch) cs n h l = lists_kept r (at_most 1 is_default) (at_most_kept r 1 is_default (of_empty is_default (λ cs. refl)) (default_laid r)) (statement Switch) cs h l
rule_kept r (statement For) cs n h l = refl
rule_kept r (program Module) cs n h l = refl
rule_kept r (program Script) cs n h l = refl
rule_kept r (program FunctionBody) cs n h l = refl
rule_kept r (statement Try) (part x (part y (part z none))) n h l = try_kept r x y z l
rule_kept r (statement If) (part e (part s (part o none))) n h l = if_kept r e s o h l
rule_kept r (function (Setter InObject)) (part x (part q (part b none))) n h l = setter_kept r x q b h l
rule_kept r (function (Setter InClass)) (part x (part q (part b none))) n h l = setter_kept r x q b h l
rule_kept r (function (Setter Static)) (part x (part q (part b none))) n h l = setter_kept r x q b h l
rule_kept r (function (Setter InObject)) cs n h l = plain_kept r (function (Setter InObject)) cs h l
rule_kept r (function (Setter InClass)) cs n h l = plain_kept r (function (Setter InClass)) cs h l
rule_kept r (function (Setter Static)) cs n h l = plain_kept r (function (Setter Static)) cs h l
rule_kept r k cs n h l = plain_kept r k cs h l

-- ---- the rules on what a node stands in

jump_kept : (r : Replacing) (j : Bool) (js : List Jump) (t : Tree) → label_in j js t ≡ true → label_in j js (laid_out r t) ≡ true
jump_kept r j js (list (part (leaf IdentifierName x) none)) l = l
jump_kept r j js t l = absurd (false≢true l)

fresh_kept : (r : Replacing) (t : Tree) (ts us : Forest) (js : List Jump) → is_fresh_label (part t ts) js ≡ true → is_fresh_label (part (laid_out r t) us) js ≡ true
fresh_kept r (leaf IdentifierName x) ts us js l = l
fresh_kept r (leaf s x) ts us js l = refl
fresh_kept r (list vs) ts us js l = refl
fresh_kept r (node k cs) ts us js l = turned r (λ u. is_fresh_label (part u us) js) (λ d e. refl, λ d e. refl, λ d e. refl, λ j d e. refl) k cs refl

abbrev rest : List Position → List Position
rest [] = []
rest (s ∷ ss) = ss

functions_kept : (r : Replacing) (k : Kind) (cs : Forest) (s : Bool) → fit_slots (positions k) cs ≡ true → (s || all_of (list_rule (at_most 0 is_function)) cs) ≡ true → (s || all_of (list_rule (at_most 0 is_function)) (lays_out r k cs)) ≡ true
functions_kept r k cs true h l = refl
functions_kept r k cs false h l = lists_kept r (at_most 0 is_function) (at_most_kept r 0 is_function (of_empty is_function (λ cs. refl)) (function_laid r)) k cs h l

stands_kept : (r : Replacing) (k : Kind) (cs : Forest) (v : Surroundings) → fit_slots (positions k) cs ≡ true → stands k cs v ≡ true → stands k (lays_out r k cs) v ≡ true
stands_kept r (statement Break) (part (list none) none) v h l = l
stands_kept r (statement Break) (part (list (part t ts)) none) v h l = jump_kept r false v.labels (list (part t ts)) l
stands_kept r (statement Break) (part (leaf s x) us) v h l = absurd (false≢true h)
stands_kept r (statement Break) (part (node k cs) us) v h l = absurd (false≢true h)
stands_kept r (statement Continue) (part (list none) none) v h l = l
stands_kept r (statement Continue) (part (list (part t ts)) none) v h l = jump_kept r true v.labels (list (part t ts)) l
stands_kept r (statement Continue) (part (leaf s x) us) v h l = absurd (false≢true h)
stands_kept r (statement Continue) (part (node k cs) us) v h l = absurd (false≢true h)
stands_kept r (statement Label) none v h l = refl
stands_kept r (statement Label) (part t ts) v h l = fresh_kept r t ts (mades laid_node (rest (positions (statement Label))) (outs r ts)) v.labels l
stands_kept r (statement Block) cs v h l = functions_kept r (statement Block) cs v.strict h l
stands_kept r (statement Case) cs v h l = functions_kept r (statement Case) cs v.strict h l
stands_kept r (statement Default) cs v h l = functions_kept r (statement Default) cs v.strict h l
stands_kept r (expression NewTarget) cs v h l = l
stands_kept r _ cs v h l = l

-- ---- what the parts stand in

abbrev key_first : List Position → Bool
key_first (position Single Key g b a ∷ ss) = true
key_first ss = false

method_first : (k : Kind) → is_method k ≡ true → key_first (positions k) ≡ true
method_first (function (Method InObject)) h = refl
method_first (function (Method InClass)) h = refl
method_first (function (Method Static)) h = refl
method_first (function (Getter InObject)) h = refl
method_first (function (Getter InClass)) h = refl
method_first (function (Getter Static)) h = refl
method_first (function (Setter InObject)) h = refl
method_first (function (Setter InClass)) h = refl
method_first (function (Setter Static)) h = refl
method_first _ h = absurd (false≢true h)

constructors_laid : (r : Replacing) (d : Holder) (ss : List Position) (cs : Forest) → key_first ss ≡ true → first_is_constructor d (mades laid_node ss (outs r cs)) ≡ first_is_constructor d cs
constructors_laid r InClass (position Single Key g b a ∷ ss) (part t ts) e = key_laid r (codes "constructor") t
constructors_laid r InClass (position _ _ g b a ∷ ss) (part t ts) e = absurd (false≢true e)
constructors_laid r InClass ss none e = refl
constructors_laid r InClass [] (part t ts) e = absurd (false≢true e)
constructors_laid r InObject ss cs e = refl
constructors_laid r Static ss cs e = refl

third_laid : (r : Replacing) (ss : List Position) (o : Form) (c d : Nonterminal) (g g' : List Text) (b b' : Bool) (a a' : List Context) (cs : Forest) → third (mades laid_node (position o c g b a ∷ position Maybe d g' b' a' ∷ ss) (outs r cs)) ≡ third cs
third_laid r ss o c d g g' b b' a a' none = refl
third_laid r ss o c d g g' b b' a a' (part t none) = refl
third_laid r ss o c d g g' b b' a a' (part t (part u us)) = here_laid r u

members_third : (r : Replacing) (k : Kind) (cs : Forest) → is_class k ≡ true → third (lays_out r k cs) ≡ third cs
members_third r (function ClassExpr) cs i = third_laid r _ _ _ _ _ _ _ _ _ _ cs
members_third r (statement ClassDecl) cs i = third_laid r _ _ _ _ _ _ _ _ _ _ cs
members_third r _ cs i = absurd (false≢true i)

label_laid : (r : Replacing) (k : Kind) (cs : Forest) → is_label k ≡ true → fit_slots (positions k) cs ≡ true → label_of (lays_out r k cs) ≡ label_of cs
label_laid r (statement Label) none i h = refl
label_laid r (statement Label) (part (leaf IdentifierName x) none) i h = refl
label_laid r (statement Label) (part (leaf IdentifierName x) (part s none)) i h =
    ap (λ b. jump x b ∷ []) (loop_laid r SubStmt s (first_fit SubStmt s true (rest_at (admits Ident (leaf IdentifierName x)) (fits_below Ident (leaf IdentifierName x)) (admits SubStmt s && (fits_below SubStmt s && true)) h)))
label_laid r (statement Label) (part (leaf IdentifierName x) (part s (part u us))) i h = refl
label_laid r (statement Label) (part (leaf s x) ts) i h = refl
label_laid r (statement Label) (part (list vs) ts) i h = refl
label_laid r (statement Label) (part (node k cs) ts) i h = turned r (λ u. label_of (part u (mades laid_node (rest (positions (statement Label))) (outs r ts)))) (λ d e. refl, λ d e. refl, λ d e. refl, λ j d e. refl) k cs refl
label_laid r _ cs i h = absurd (false≢true i)

code_laid : (r : Replacing) (k : Kind) (cs : Forest) → is_code_kind k ≡ true → fit_slots (positions k) cs ≡ true → has_strict (lays_out r k cs) ≡ has_strict cs
code_laid r (program Script) none i h = refl
code_laid r (program Script) (part (list ts) us) i h = directives_laid r ts (each_at (last_only ts) (fit_each DirectiveOnly ts) (fit_slots (rest (positions (program Script))) us) h)
code_laid r (program Script) (part (leaf s x) us) i h = refl
code_laid r (program Script) (part (node k cs) us) i h = absurd (false≢true h)
code_laid r (program FunctionBody) none i h = refl
code_laid r (program FunctionBody) (part (list ts) us) i h = directives_laid r ts (each_at (last_only ts) (fit_each DirectiveOnly ts) (fit_slots (rest (positions (program FunctionBody))) us) h)
code_laid r (program FunctionBody) (part (leaf s x) us) i h = refl
code_laid r (program FunctionBody) (part (node k cs) us) i h = absurd (false≢true h)
code_laid r _ cs i h = absurd (false≢true i)

enter_laid : (r : Replacing) (k : Kind) (cs : Forest) (a : Context) (v : Surroundings) → known k a ≡ true → fit_slots (positions k) cs ≡ true → enter (lays_out r k cs) a v ≡ enter cs a v
enter_laid r k cs (InMethod d) v i h =
    ap (λ b. record v { returns = true; target' = true; super' = true; super_call = v.derived && b; loop = false; breakable = false; labels = [] }) (constructors_laid r d (positions k) cs (method_first k i))
enter_laid r k cs InMembers v i h = ap (λ b. record v { derived = b }) (members_third r k cs i)
enter_laid r k cs InLabel v i h = ap (λ l. record v { labels = l ++ v.labels }) (label_laid r k cs i h)
enter_laid r k cs InCode v i h = ap (λ b. record v { strict = v.strict || b }) (code_laid r k cs i h)
enter_laid r k cs InFunction v i h = refl
enter_laid r k cs InArrow v i h = refl
enter_laid r k cs InField v i h = refl
enter_laid r k cs InClassCode v i h = refl
enter_laid r k cs InLoop v i h = refl
enter_laid r k cs InSwitch v i h = refl
enter_laid r k cs InModuleCode v i h = refl

-- what is so of each context of a kind is so of all
entered : (k : Kind) (ds es : Forest) → ((a : Context) (v : Surroundings) → known k a ≡ true → enter ds a v ≡ enter es a v) → (a : List Context) (v : Surroundings) → all_known k a ≡ true → enters ds a v ≡ enters es a v
entered k ds es f [] v i = refl
entered k ds es f (a ∷ as') v i =
    let p = and_parts (known k a) (all_known k as') i in
    f a (enters ds as' v) p.0 ∙ ap (enter es a) (entered k ds es f as' v p.1)

-- the contexts of a kind that has none that looks at its parts
record Still (k : Kind) : Type 0 where
  pub methods : is_method k ≡ false
  pub classes : is_class k ≡ false
  pub labels : is_label k ≡ false
  pub codes : is_code_kind k ≡ false

still : (k : Kind) (ds es : Forest) → Still k → (a : Context) (v : Surroundings) → known k a ≡ true → enter ds a v ≡ enter es a v
still k ds es s (InMethod d) v i = clash (is_method k) i s.methods
still k ds es s InMembers v i = clash (is_class k) i s.classes
still k ds es s InLabel v i = clash (is_label k) i s.labels
still k ds es s InCode v i = clash (is_code_kind k) i s.codes
still k ds es s InFunction v i = refl
still k ds es s InArrow v i = refl
still k ds es s InField v i = refl
still k ds es s InClassCode v i = refl
still k ds es s InLoop v i = refl
still k ds es s InSwitch v i = refl
still k ds es s InModuleCode v i = refl

-- ---- nodes

-- the rules hold of the parts, laid, as the parts of any node in whose contexts they stand as before
abbrev Parts : Replacing → Kind → Forest → Surroundings → Type 0
Parts r k cs v = (ds : Forest) → ((a : List Context) (w : Surroundings) → all_known k a ≡ true → enters ds a w ≡ enters cs a w) → lawfuls ds v (positions k) (lays_out r k cs) ≡ true

kind_kept : (r : Replacing) (k : Kind) (cs : Forest) (v : Surroundings) → is_no_jsx k ≡ true → fit_slots (positions k) cs ≡ true → rule k cs ≡ true → stands k cs v ≡ true → Parts r k cs v → lawful v (node k (lays_out r k cs)) ≡ true
kind_kept r k cs v n h l s p =
    and_from _ _ (rule_kept r k cs n h l) (and_from _ _ (stands_kept r k cs v h s) (p (lays_out r k cs) (entered k (lays_out r k cs) cs (λ a w i. enter_laid r k cs a w i h))))

-- `a => b` is laid as `(a) => b`: its parameter is a word
word_leaf : (s : TokenKind) (x : Text) → leaf_in BindingIdent s x ≡ true → is_word (leaf s x) ≡ true
word_leaf IdentifierName x m = refl
word_leaf JsxName x m = absurd (false≢true m)
word_leaf _ x m = absurd (false≢true m)

param_plain : (s : TokenKind) (x : Text) (us : Forest) → is_word (leaf s x) ≡ true → has_plain_params (part (leaf s x) us) ≡ true → has_plain_params (part (list (part (leaf s x) none)) us) ≡ true
param_plain s x us w l =
    ⊎_elim (λ p. or_left _ _ p) (λ p. or_right (nat_eq (count_of is_strict_body us) 0) _ (and_from _ _ (and_from _ true w refl) p)) (or_cases (nat_eq (count_of is_strict_body us) 0) (all_of is_plain_list us) l)

arrow_kept : (r : Replacing) (s : TokenKind) (x : Text) (e : Tree) (v : Surroundings) → fit_slots (positions (expression BareArrow)) (part (leaf s x) (part e none)) ≡ true → has_plain_params (part (leaf s x) (part e none)) ≡ true
    → Parts r (expression BareArrow) (part (leaf s x) (part e none)) v → lawful v (node (expression Arrow) (part (list (part (leaf s x) none)) (part (laid_out r e) none))) ≡ true
arrow_kept r s x e v h l p =
    let cs : Forest = part (leaf s x) (part e none) in
    let ds : Forest = part (list (part (leaf s x) none)) (part (laid_out r e) none) in
    and_from _ _ (param_plain s x (part (laid_out r e) none) (word_leaf s x (first_fit BindingIdent (leaf s x) _ h).home) (plain_kept r (expression BareArrow) cs h l))
    (p ds (entered (expression BareArrow) ds cs (still (expression BareArrow) ds cs (record { methods = refl; classes = refl; labels = refl; codes = refl }))))

block_kept : (r : Replacing) (s : TokenKind) (x : Text) (e : Tree) (v : Surroundings) → fit_slots (positions (expression BareArrowBlock)) (part (leaf s x) (part e none)) ≡ true → has_plain_params (part (leaf s x) (part e none)) ≡ true
    → Parts r (expression BareArrowBlock) (part (leaf s x) (part e none)) v → lawful v (node (expression ArrowBlock) (part (list (part (leaf s x) none)) (part (laid_out r e) none))) ≡ true
block_kept r s x e v h l p =
    let cs : Forest = part (leaf s x) (part e none) in
    let ds : Forest = part (list (part (leaf s x) none)) (part (laid_out r e) none) in
    and_from _ _ (param_plain s x (part (laid_out r e) none) (word_leaf s x (first_fit BindingIdent (leaf s x) _ h).home) (plain_kept r (expression BareArrowBlock) cs h l))
    (p ds (entered (expression BareArrowBlock) ds cs (still (expression BareArrowBlock) ds cs (record { methods = refl; classes = refl; labels = refl; codes = refl }))))

new_kept : (r : Replacing) (e : Tree) (v : Surroundings) → fit_slots (positions (expression NewWithoutArguments)) (part e none) ≡ true → has_plain_params (part e none) ≡ true
    → Parts r (expression NewWithoutArguments) (part e none) v → lawful v (node (expression New) (part (laid_out r e) (part (list none) none))) ≡ true
new_kept r e v h l p =
    let ds : Forest = part (laid_out r e) (part (list none) none) in
    and_from _ _ (plain_kept r (expression NewWithoutArguments) (part e none) h l)
    (p ds (entered (expression NewWithoutArguments) ds (part e none) (still (expression NewWithoutArguments) ds (part e none) (record { methods = refl; classes = refl; labels = refl; codes = refl }))))

-- no node is a name that is bound
no_node : {A : Type 0} (k : Kind) (cs : Forest) → admits BindingIdent (node k cs) ≡ true → A
no_node k cs m = clash (in_homes BindingIdent (homes k)) m (not-true (in_homes BindingIdent (homes k)) (and_parts (drops (positions k)) (not (in_homes BindingIdent (homes k))) (all_drops k)).1)

node_kept : (r : Replacing) (k : Kind) (cs : Forest) (v : Surroundings) → is_no_jsx k ≡ true → fit_slots (positions k) cs ≡ true → rule k cs ≡ true → stands k cs v ≡ true → Parts r k cs v → lawful v (laid_node k (lays_out r k cs)) ≡ true
node_kept r (expression BareArrow) (part (leaf s x) (part e none)) v n h l w p = arrow_kept r s x e v h l p
node_kept r (expression BareArrow) (part (node k cs) ts) v n h l w p = no_node k cs (and_parts (admits BindingIdent (node k cs)) _ h).0
node_kept r (expression BareArrow) (part (list us) ts) v n h l w p = absurd (false≢true h)
node_kept r (expression BareArrow) (part (leaf s x) none) v n h l w p = no_more (admits BindingIdent (leaf s x)) (fits_below BindingIdent (leaf s x)) h
node_kept r (expression BareArrow) (part (leaf s x) (part e (part y ys))) v n h l w p = no_more (admits (Expr 1) e) (fits_below (Expr 1) e) (rest_at (admits BindingIdent (leaf s x)) (fits_below BindingIdent (leaf s x)) (admits (Expr 1) e && (fits_below (Expr 1) e && false)) h)
node_kept r (expression BareArrowBlock) (part (leaf s x) (part e none)) v n h l w p = block_kept r s x e v h l p
node_kept r (expression BareArrowBlock) (part (node k cs) ts) v n h l w p = no_node k cs (and_parts (admits BindingIdent (node k cs)) _ h).0
node_kept r (expression BareArrowBlock) (part (list us) ts) v n h l w p = absurd (false≢true h)
node_kept r (expression BareArrowBlock) (part (leaf s x) none) v n h l w p = no_more (admits BindingIdent (leaf s x)) (fits_below BindingIdent (leaf s x)) h
node_kept r (expression BareArrowBlock) (part (leaf s x) (part e (part y ys))) v n h l w p = no_more (admits Body e) (fits_below Body e) (rest_at (admits BindingIdent (leaf s x)) (fits_below BindingIdent (leaf s x)) (admits Body e && (fits_below Body e && false)) h)
node_kept r (expression NewWithoutArguments) (part e none) v n h l w p = new_kept r e v h l p
node_kept r k cs v n h l w p = kind_kept r k cs v n h l w p

-- what is made of a node
node_out : (r : Replacing) (k : Kind) (cs : Forest) (v : Surroundings) → r.ok k cs ≡ true → fit_slots (positions k) cs ≡ true → rule k cs ≡ true → stands k cs v ≡ true → Parts r k cs v → lawful v (laid_out r (node k cs)) ≡ true
node_out r (jsx j) cs v o h l w p = r.keeps j cs o v
node_out r (program k) cs v o h l w p = ap (λ u. lawful v (laid_tree u)) (r.stays (program k) (outs r cs) refl) ∙ node_kept r (program k) cs v refl h l w p
node_out r (statement k) cs v o h l w p = ap (λ u. lawful v (laid_tree u)) (r.stays (statement k) (outs r cs) refl) ∙ node_kept r (statement k) cs v refl h l w p
node_out r (function k) cs v o h l w p = ap (λ u. lawful v (laid_tree u)) (r.stays (function k) (outs r cs) refl) ∙ node_kept r (function k) cs v refl h l w p
node_out r (expression k) cs v o h l w p = ap (λ u. lawful v (laid_tree u)) (r.stays (expression k) (outs r cs) refl) ∙ node_kept r (expression k) cs v refl h l w p

-- ---- all trees

lawful_drop : (v : Surroundings) (b : Bool) (u : Tree) (us : Forest) → lawful v u ≡ true → each_lawful v us ≡ true → each_lawful v (unless_empty b u us) ≡ true
lawful_drop v true u us p q = q
lawful_drop v false u us p q = and_from _ _ p q

mutual
  pub lawful_laid : (r : Replacing) (c : Nonterminal) (t : Tree) → Fit c t → each_node r.ok t ≡ true → (v : Surroundings) → legal v t ≡ true → lawful v (laid_out r t) ≡ true
  lawful_laid r c (leaf s x) a o v l = refl
  lawful_laid r c (list ts) a o v l = absurd (false≢true a.home)
  lawful_laid r c (node k cs) a o v l =
      let p = and_parts (rule k cs) (stands k cs v && legals cs v (positions k) cs) l in
      let q = and_parts (stands k cs v) (legals cs v (positions k) cs) p.1 in
      let w = and_parts (r.ok k cs) (each_nodes r.ok cs) o in
      node_out r k cs v w.0 a.below p.0 q.0 (λ ds i. slots_laid r k ds cs i (positions k) cs (row_facts k).contexts a.below w.1 v q.1)

  slots_laid : (r : Replacing) (k : Kind) (ds all : Forest) → ((a : List Context) (w : Surroundings) → all_known k a ≡ true → enters ds a w ≡ enters all a w) → (ss : List Position) (cs : Forest) → knowns k ss ≡ true → fit_slots ss cs ≡ true → each_nodes r.ok cs ≡ true → (v : Surroundings)
      → legals all v ss cs ≡ true → lawfuls ds v ss (mades laid_node ss (outs r cs)) ≡ true
  slots_laid r k ds all i [] ts n h o v l = refl
  slots_laid r k ds all i (s ∷ ss) none n h o v l = absurd (false≢true h)
  slots_laid r k ds all i (position Single c g b a ∷ ss) (part t ts) n h o v l =
      let s = and_parts (all_known k a) (knowns k ss) n in
      let q = and_parts (legal (enters all a v) t) (legals all v ss ts) l in
      let w = and_parts (each_node r.ok t) (each_nodes r.ok ts) o in
      and_from _ _ (ap (λ x. lawful x (laid_out r t)) (i a v s.0) ∙ lawful_laid r c t (first_fit c t (fit_slots ss ts) h) w.0 (enters all a v) q.0)
      (slots_laid r k ds all i ss ts s.1 (rest_at (admits c t) (fits_below c t) (fit_slots ss ts) h) w.1 v q.1)
  slots_laid r k ds all i (position Maybe c g b a ∷ ss) (part (list us) ts) n h o v l =
      let s = and_parts (all_known k a) (knowns k ss) n in
      let q = and_parts (each_legal (enters all a v) us) (legals all v ss ts) l in
      let w = and_parts (each_nodes r.ok us) (each_nodes r.ok ts) o in
      and_from _ _ (ap (λ x. each_lawful x (each_out r us)) (i a v s.0) ∙ items_laid r false c us (each_at (at_most_one us) (fit_each c us) (fit_slots ss ts) h) w.0 (enters all a v) q.0)
      (slots_laid r k ds all i ss ts s.1 (rest_at (at_most_one us) (fit_each c us) (fit_slots ss ts) h) w.1 v q.1)
  slots_laid r k ds all i (position (Several d) c g b a ∷ ss) (part (list us) ts) n h o v l =
      let s = and_parts (all_known k a) (knowns k ss) n in
      let q = and_parts (each_legal (enters all a v) us) (legals all v ss ts) l in
      let w = and_parts (each_nodes r.ok us) (each_nodes r.ok ts) o in
      and_from _ _ (ap (λ x. each_lawful x (without_empty (each_out r us))) (i a v s.0) ∙ items_laid r true c us (each_at (enough d us && last_only us) (fit_each c us) (fit_slots ss ts) h) w.0 (enters all a v) q.0)
      (slots_laid r k ds all i ss ts s.1 (rest_at (enough d us && last_only us) (fit_each c us) (fit_slots ss ts) h) w.1 v q.1)
  slots_laid r k ds all i (position Maybe c g b a ∷ ss) (part (leaf s x) ts) n h o v l = absurd (false≢true h)
  slots_laid r k ds all i (position Maybe c g b a ∷ ss) (part (node j cs) ts) n h o v l = absurd (false≢true h)
  slots_laid r k ds all i (position (Several s') c g b a ∷ ss) (part (leaf s x) ts) n h o v l = absurd (false≢true h)
  slots_laid r k ds all i (position (Several s') c g b a ∷ ss) (part (node j cs) ts) n h o v l = absurd (false≢true h)

  items_laid : (r : Replacing) (w : Bool) (c : Nonterminal) (ts : Forest) → fit_each c ts ≡ true → each_nodes r.ok ts ≡ true → (v : Surroundings) → each_legal v ts ≡ true → each_lawful v (trim w (each_out r ts)) ≡ true
  items_laid r true c none h o v l = refl
  items_laid r false c none h o v l = refl
  items_laid r true c (part t ts) h o v l =
      let p = and_parts (legal v t) (each_legal v ts) l in
      let w = and_parts (each_node r.ok t) (each_nodes r.ok ts) o in
      lawful_drop v (is_empty (laid_out r t)) (laid_out r t) (without_empty (each_out r ts)) (lawful_laid r c t (one_fit c t ts h) w.0 v p.0) (items_laid r true c ts (rest_fit c t ts h) w.1 v p.1)
  items_laid r false c (part t ts) h o v l =
      let p = and_parts (legal v t) (each_legal v ts) l in
      let w = and_parts (each_node r.ok t) (each_nodes r.ok ts) o in
      and_from _ _ (lawful_laid r c t (one_fit c t ts h) w.0 v p.0) (items_laid r false c ts (rest_fit c t ts h) w.1 v p.1)
