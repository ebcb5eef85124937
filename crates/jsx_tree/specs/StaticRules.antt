-- The static rules (early errors of ECMA-262 sections 13 to 16): those of one node, and those on what a node stands in.
use Rattle.std.specs.Prelude.{ℕ, suc, List, [], ◌∷◌, ◌++◌, codes, Bool, true, false, cond, not, ◌&&◌, ◌||◌, nat_eq, nat_le}
use Rattle.jsx_base.specs.Token.{Text, IdentifierName, StringLiteral, NoSubstitution, TemplateHead, TemplateMiddle, TemplateTail, JsxText, same, among}
use Rattle.jsx_tree.specs.Signs.{Sign, Tok}
use Rattle.jsx_tree.specs.Kinds.{DeclareWord, ConstWord, Module, Script, FunctionBody, Directive, Block, Var, Declarator, ExprStmt, If, Do, While, For, ForDeclaration, ForIn, ForOf, Continue, Break, Return, Label, Switch, Case, Default, Try, FunctionDecl, ClassDecl, Holder, InClass, Static, ClassExpr, Method, Getter, Setter, Field, InOp, Delete, Binary, Unary, SuperCall, SuperMember, SuperIndex, ImportMeta, NewTarget, Chain, NameLink, IndexLink, CallLink, Object, Property, Parenthesized, PlainTemplate, SubstitutedTemplate, TemplateSpan, ElementWithChildren, Fragment, Kind, program, statement, function, expression, jsx, Tree, leaf, node, list, Forest, none, part}
use Rattle.jsx_tree.specs.Nonterminals.{is_ident}
use Rattle.jsx_tree.specs.Grammar.{Context, InFunction, InArrow, InMethod, InField, InClassCode, InMembers, InLoop, InSwitch, InLabel, InCode, InModuleCode, Part, Optional, Production, production}
use Rattle.jsx_tree.specs.Form.{Position, position, positions}
use Rattle.jsx_base.specs.Token.{is_line_end, State, Dead, Done, InString, step}
use Rattle.jsx_tree.specs.Spelling.{spelled}

-- the tokens of a tree
abbrev pub tokens : List Sign → List Text
tokens [] = []
tokens (Tok m s t ∷ ms) = t ∷ tokens ms
tokens (m ∷ ms) = tokens ms

abbrev pub same_all : List Text → List Text → Bool
same_all [] [] = true
same_all [] (u ∷ us) = false
same_all (t ∷ ts) [] = false
same_all (t ∷ ts) (u ∷ us) = same t u && same_all ts us

abbrev pub same_tokens : Tree → Tree → Bool
same_tokens a b = same_all (tokens (spelled a)) (tokens (spelled b))

abbrev pub all_of : (Tree → Bool) → Forest → Bool
all_of f none = true
all_of f (part t ts) = f t && all_of f ts

abbrev pub count_of : (Tree → Bool) → Forest → ℕ
count_of f none = 0
count_of f (part t ts) = cond (f t) (suc (count_of f ts)) (count_of f ts)

abbrev pub at_most : ℕ → (Tree → Bool) → Forest → Bool
at_most n f ts = nat_le (count_of f ts) n

abbrev pub is_here : Tree → Bool
is_here (list none) = false
is_here t = true

-- a key with this name, plain or quoted
abbrev pub is_key : Text → Tree → Bool
is_key t (leaf IdentifierName u) = same t u
is_key t (leaf StringLiteral u) = same (34 ∷ (t ++ 34 ∷ [])) u || same (39 ∷ (t ++ 39 ∷ [])) u
is_key t k = false

-- `__proto__: v` (ECMA-262 section 13.2.5.1); a shorthand, a method and a computed key aren't it
abbrev pub is_proto : Tree → Bool
is_proto (node (expression Property) (part k cs)) = is_key (codes "__proto__") k
is_proto t = false

abbrev pub is_constructor : Tree → Bool
is_constructor (node (function (Method InClass)) (part k cs)) = is_key (codes "constructor") k
is_constructor t = false

-- names that members may not have (ECMA-262 section 15.7.1): `get constructor`, a field `constructor`, `static prototype`
abbrev pub is_good_member : Tree → Bool
is_good_member (node (function (Getter InClass)) (part k cs)) = not (is_key (codes "constructor") k)
is_good_member (node (function (Setter InClass)) (part k cs)) = not (is_key (codes "constructor") k)
is_good_member (node (function (Field InClass)) (part k cs)) = not (is_key (codes "constructor") k)
is_good_member (node (function (Field Static)) (part k cs)) = not (is_key (codes "constructor") k) && not (is_key (codes "prototype") k)
is_good_member (node (function (Method Static)) (part k cs)) = not (is_key (codes "prototype") k)
is_good_member (node (function (Getter Static)) (part k cs)) = not (is_key (codes "prototype") k)
is_good_member (node (function (Setter Static)) (part k cs)) = not (is_key (codes "prototype") k)
is_good_member t = true

abbrev pub is_default : Tree → Bool
is_default (node (statement Default) cs) = true
is_default t = false

abbrev pub is_string_stmt : Tree → Bool
is_string_stmt (node (statement ExprStmt) (part (leaf StringLiteral t) none)) = true
is_string_stmt t = false

abbrev pub first_of_list : (Tree → Bool) → Forest → Bool
first_of_list f none = false
first_of_list f (part t ts) = f t

-- a Use Strict Directive, by its raw text (ECMA-262 section 11.2.1)
abbrev pub is_strict_directive : Tree → Bool
is_strict_directive (node (program Directive) (part (leaf StringLiteral t) none)) = among t (codes "\"use strict\"" ∷ codes "'use strict'" ∷ [])
is_strict_directive t = false

abbrev pub is_strict_body : Tree → Bool
is_strict_body (node (program FunctionBody) (part (list ds) cs)) = nat_le 1 (count_of is_strict_directive ds)
is_strict_body t = false

abbrev pub is_word : Tree → Bool
is_word (leaf IdentifierName t) = true
is_word t = false

-- a list of plain names, or no list of parameters
abbrev pub is_plain_list : Tree → Bool
is_plain_list (list ts) = all_of is_word ts
is_plain_list t = true

-- what a body that is strict by its own directive asks of its parameters
abbrev pub has_plain_params : Forest → Bool
has_plain_params cs = nat_eq (count_of is_strict_body cs) 0 || all_of is_plain_list cs

-- `const a;` and `let [a];` are refused (ECMA-262 section 14.3)
abbrev pub has_init : DeclareWord → Tree → Bool
has_init ConstWord (node (statement Declarator) (part q (part i none))) = is_here i
has_init v (node (statement Declarator) (part (leaf IdentifierName t) cs)) = true
has_init v (node (statement Declarator) (part q (part i none))) = is_here i
has_init v t = true

abbrev mutual
  -- a name, in parentheses or not
  pub is_name : Tree → Bool
  is_name (leaf IdentifierName t) = is_ident t
  is_name (leaf s t) = false
  is_name (node (expression Parenthesized) cs) = is_names cs
  is_name (node k cs) = false
  is_name (list ts) = false

  pub is_names : Forest → Bool
  is_names none = false
  is_names (part t ts) = is_name t

abbrev pub is_in_op : Kind → Bool
is_in_op (expression (Binary InOp)) = true
is_in_op k = false

abbrev mutual
  -- an `in` that no bracket encloses: refused in `for (a in b;;)`, read in `for ((a in b);;)`
  pub open_in : Tree → Bool
  open_in (leaf s t) = false
  open_in (node k cs) = is_in_op k || open_ins (positions k) cs
  open_in (list ts) = any_open ts

  pub open_ins : List Position → Forest → Bool
  open_ins [] ts = false
  open_ins (s ∷ ss) none = false
  open_ins (position f c g b a ∷ ss) (part t ts) = (not b && open_in t) || open_ins ss ts

  pub any_open : Forest → Bool
  any_open none = false
  any_open (part t ts) = open_in t || any_open ts

-- whether a node's last part stands behind all its tokens
abbrev pub trails : Production → Bool
trails [] = false
trails (Part c ∷ []) = true
trails (Optional x c [] r ∷ []) = true
trails (q ∷ qs) = trails qs

abbrev pub is_if : Kind → Bool
is_if (statement If) = true
is_if k = false

abbrev mutual
  -- an `if` without `else` at the end, which an `else` behind would belong to: `if (a) while (b) if (c) d; else e`
  pub open_if : Tree → Bool
  open_if (leaf s t) = false
  open_if (node k cs) = trails (production k) && last_open (is_if k) cs
  open_if (list ts) = last_open false ts

  pub last_open : Bool → Forest → Bool
  last_open b none = false
  last_open b (part t none) = (b && not (is_here t)) || open_if t
  last_open b (part t (part u us)) = last_open b (part u us)

-- whether all escapes of a template's piece are those of strings, also one that the piece's end cuts off: `\x4` (ECMA-262 section 12.9.6)
abbrev pub escapes : State → Text → Bool
escapes Dead t = false
escapes s [] = true
escapes (Done k) (c ∷ t) = escapes (step (InString 96) (cond (is_line_end c) 32 c)) t
escapes s (c ∷ t) = escapes (step s (cond (is_line_end c) 32 c)) t

abbrev pub is_cooked : Tree → Bool
is_cooked (leaf NoSubstitution t) = escapes (InString 96) t
is_cooked (leaf TemplateHead t) = escapes (InString 96) t
is_cooked (leaf TemplateMiddle t) = escapes (InString 96) t
is_cooked (leaf TemplateTail t) = escapes (InString 96) t
is_cooked t = true

abbrev pub is_optional : Tree → Bool
is_optional (node (expression (NameLink q)) cs) = q
is_optional (node (expression (IndexLink q)) cs) = q
is_optional (node (expression (CallLink q)) cs) = q
is_optional t = false

abbrev pub not_list : (Tree → Bool) → Tree → Bool
not_list f (list ts) = f (list ts)
not_list f t = true

abbrev pub list_rule : (Forest → Bool) → Tree → Bool
list_rule f (list ts) = f ts
list_rule f t = true

abbrev pub members_rule : Forest → Bool
members_rule ts = at_most 1 is_constructor ts && all_of is_good_member ts

abbrev pub is_text : Tree → Bool
is_text (leaf JsxText t) = true
is_text t = false

-- no two texts stand side by side
abbrev pub apart_text : Forest → Bool
apart_text none = true
apart_text (part t none) = true
apart_text (part t (part u us)) = not (is_text t && is_text u) && apart_text (part u us)

-- the rules of one node
abbrev pub rule : Kind → Forest → Bool
rule (jsx ElementWithChildren) (part a (part x (part (list ts) (part b none)))) = same_tokens a b && apart_text ts
rule (jsx Fragment) (part (list ts) none) = apart_text ts
rule (expression Object) cs = all_of (list_rule (at_most 1 is_proto)) cs
rule (expression (Unary Delete)) cs = not (first_of_list is_name cs)
rule (expression Chain) (part o (part (list ls) none)) = first_of_list is_optional ls
rule (expression (PlainTemplate false)) cs = all_of is_cooked cs
rule (expression (SubstitutedTemplate false)) cs = all_of is_cooked cs
rule (expression (TemplateSpan false)) cs = all_of is_cooked cs
rule (function ClassExpr) cs = all_of (list_rule members_rule) cs
rule (statement ClassDecl) cs = all_of (list_rule members_rule) cs
rule (statement (Var v)) cs = all_of (list_rule (all_of (has_init v))) cs
rule (statement (ForDeclaration v)) cs = all_of (list_rule (all_of (has_init v))) cs
rule (statement Switch) cs = all_of (list_rule (at_most 1 is_default)) cs
rule (statement Try) (part b (part c (part f none))) = is_here c || is_here f
rule (statement For) (part i cs) = not (open_in i)
rule (statement If) (part e (part s (part o none))) = not (is_here o && open_if s)
rule (program Module) (part ds (part (list ts) none)) = not (first_of_list is_string_stmt ts)
rule (program Script) (part ds (part (list ts) none)) = not (first_of_list is_string_stmt ts)
rule (program FunctionBody) (part ds (part (list ts) none)) = not (first_of_list is_string_stmt ts)
rule (function (Setter h)) (part k (part q (part b none))) = not (is_strict_body b) || is_word q
rule k cs = has_plain_params cs

-- a label that encloses, and whether it stands on a loop
pub data Jump : Type 0 where
  jump : Text → Bool → Jump

-- what a node stands in: a module, strict code, something that may return, that has `new.target`, `super` members, `super()`, a class with `extends`, a loop, something to break from, labels
pub record Surroundings : Type 0 where
  pub module' : Bool
  pub strict : Bool
  pub returns : Bool
  pub target' : Bool
  pub super' : Bool
  pub super_call : Bool
  pub derived : Bool
  pub loop : Bool
  pub breakable : Bool
  pub labels : List Jump

abbrev pub outside : Surroundings
outside = record { module' = false; strict = false; returns = false; target' = false; super' = false; super_call = false; derived = false; loop = false; breakable = false; labels = [] }

abbrev pub is_loop : Tree → Bool
is_loop (node (statement Do) cs) = true
is_loop (node (statement While) cs) = true
is_loop (node (statement For) cs) = true
is_loop (node (statement ForIn) cs) = true
is_loop (node (statement ForOf) cs) = true
is_loop t = false

abbrev mutual
  -- a loop behind labels
  pub labels_loop : Tree → Bool
  labels_loop (leaf s t) = false
  labels_loop (node (statement Label) cs) = second_loop cs
  labels_loop (node k cs) = is_loop (node k cs)
  labels_loop (list ts) = false

  pub second_loop : Forest → Bool
  second_loop none = false
  second_loop (part t none) = labels_loop t
  second_loop (part t (part u us)) = second_loop (part u us)

abbrev pub label_of : Forest → List Jump
label_of (part (leaf IdentifierName t) (part s none)) = jump t (labels_loop s) ∷ []
label_of cs = []

abbrev pub first_is_constructor : Holder → Forest → Bool
first_is_constructor InClass (part k cs) = is_key (codes "constructor") k
first_is_constructor h cs = false

abbrev pub has_strict : Forest → Bool
has_strict (part (list ds) cs) = nat_le 1 (count_of is_strict_directive ds)
has_strict cs = false

abbrev pub third : Forest → Bool
third (part a (part b cs)) = is_here b
third cs = false

-- what a part stands in, of a node with these parts
abbrev pub enter : Forest → Context → Surroundings → Surroundings
enter cs InFunction v = record v { returns = true; target' = true; super' = false; super_call = false; loop = false; breakable = false; labels = [] }
enter cs InArrow v = record v { returns = true; loop = false; breakable = false; labels = [] }
enter cs (InMethod h) v = record v { returns = true; target' = true; super' = true; super_call = v.derived && first_is_constructor h cs; loop = false; breakable = false; labels = [] }
enter cs InField v = record v { returns = false; target' = true; super' = true; super_call = false; loop = false; breakable = false; labels = [] }
enter cs InClassCode v = record v { strict = true }
enter cs InMembers v = record v { derived = third cs }
enter cs InLoop v = record v { loop = true; breakable = true }
enter cs InSwitch v = record v { breakable = true }
enter cs InLabel v = record v { labels = label_of cs ++ v.labels }
enter cs InCode v = record v { strict = v.strict || has_strict cs }
enter cs InModuleCode v = record v { strict = true; module' = true }

abbrev pub enters : Forest → List Context → Surroundings → Surroundings
enters cs [] v = v
enters cs (a ∷ as') v = enter cs a (enters cs as' v)

abbrev pub has_label : Text → Bool → List Jump → Bool
has_label t l [] = false
has_label t l (jump u b ∷ js) = (same t u && (b || not l)) || has_label t l js

abbrev pub label_in : Bool → List Jump → Tree → Bool
label_in l js (list (part (leaf IdentifierName t) none)) = has_label t l js
label_in l js t = false

abbrev pub is_fresh_label : Forest → List Jump → Bool
is_fresh_label (part (leaf IdentifierName t) cs) js = not (has_label t false js)
is_fresh_label cs js = true

abbrev pub is_function : Tree → Bool
is_function (node (statement FunctionDecl) cs) = true
is_function t = false

-- the rules on what a node stands in
abbrev pub stands : Kind → Forest → Surroundings → Bool
stands (statement Return) cs v = v.returns
stands (statement Break) (part (list none) none) v = v.breakable
stands (statement Break) (part l none) v = label_in false v.labels l
stands (statement Continue) (part (list none) none) v = v.loop
stands (statement Continue) (part l none) v = label_in true v.labels l
stands (statement Label) cs v = is_fresh_label cs v.labels
stands (statement Block) cs v = v.strict || all_of (list_rule (at_most 0 is_function)) cs
stands (statement Case) cs v = v.strict || all_of (list_rule (at_most 0 is_function)) cs
stands (statement Default) cs v = v.strict || all_of (list_rule (at_most 0 is_function)) cs
stands (expression NewTarget) cs v = v.target'
stands (expression ImportMeta) cs v = v.module'
stands (expression SuperMember) cs v = v.super'
stands (expression SuperIndex) cs v = v.super'
stands (expression SuperCall) cs v = v.super_call
stands k cs v = true

abbrev mutual
  pub legal : Surroundings → Tree → Bool
  legal v (leaf s t) = true
  legal v (node k cs) = rule k cs && (stands k cs v && legals cs v (positions k) cs)
  legal v (list ts) = each_legal v ts

  -- `all` are all parts of the node, of which those of the last argument are left
  pub legals : Forest → Surroundings → List Position → Forest → Bool
  legals all v [] ts = true
  legals all v (s ∷ ss) none = true
  legals all v (position f c g b a ∷ ss) (part t ts) = legal (enters all a v) t && legals all v ss ts

  pub each_legal : Surroundings → Forest → Bool
  each_legal v none = true
  each_legal v (part t ts) = legal v t && each_legal v ts
