-- What the static rules look at is the same in a tree and as it is laid, with its elements replaced.
use Rattle.std.proofs.Common.{◌≡◌, suc, List, [], ◌∷◌, Bool, true, false, cond, sym, refl, ap, ◌∙◌}
use Rattle.std.proofs.lemmas.Bool.{and_parts, and_from, false≢true}
use Rattle.std.specs.Prelude.{codes, not, ◌&&◌, ◌||◌, nat_le}
use Rattle.jsx_base.specs.Token.{Text, IdentifierName}
use Rattle.jsx_tree.specs.Kinds.{DeclareWord, ConstWord, VarWord, LetWord, Kind, program, statement, function, expression, jsx, JsxKind, Element, ElementWithChildren, Fragment, FunctionBody, Directive, Empty, Declarator, Do, While, For, ForIn, ForOf, Label, Default, FunctionDecl, Method, Getter, Setter, Field, InClass, Static, Property, Call, NameLink, IndexLink, CallLink, Binds, Arrow, ArrowBlock, BareArrow, BareArrowBlock, New, NewWithoutArguments, Parenthesized, Tree, leaf, node, list, Forest, none, part}
use Rattle.jsx_tree.specs.Nonterminals.{Nonterminal, Expr, StringOnly, DirectiveOnly, Pat, Ident, SubStmt}
use Rattle.jsx_tree.specs.Grammar.{production}
use Rattle.jsx_tree.specs.Normal.{is_empty, unless_empty, without_empty, laid_node, mades, each_made, laid_tree}
use Rattle.jsx_tree.specs.Form.{Single, Maybe, Several, Position, position, positions, at_most_one, last_only, shaped, admits, fits_below, fit_slots, fit_each}
use Rattle.jsx_tree.specs.StaticRules.{all_of, count_of, is_here, is_key, is_proto, is_constructor, is_good_member, is_default, is_strict_directive, is_strict_body, is_word, is_name, is_cooked, has_init, is_optional, is_function, labels_loop, trails, is_if, open_if, last_open}
use Rattle.jsx_tree.proofs.Parentheses.Bare.{lays}
use Rattle.jsx_tree.proofs.Parentheses.PlaceTests.{last_one}
use Rattle.jsx_tree.proofs.Parentheses.PlaceTable.{row_facts}
use Rattle.jsx_tree.proofs.Parentheses.Replaced.{is_element, Image, kept, called, Replacing, out, outs}
use Rattle.jsx_tree.proofs.Parentheses.Seen.{rest_at, each_at, no_more}

-- a tree as it is laid with its elements replaced
abbrev pub laid_out : Replacing → Tree → Tree
laid_out r t = laid_tree (out r t)

-- the parts of a node so, and the trees of a list
abbrev pub lays_out : Replacing → Kind → Forest → Forest
lays_out r k cs = lays k (outs r cs)

abbrev pub each_out : Replacing → Forest → Forest
each_out r ts = each_made laid_node (outs r ts)

-- a test that is the same on a tree and as it is laid
abbrev pub Keeps : Replacing → (Tree → Bool) → Tree → Type 0
Keeps r f t = f (laid_out r t) ≡ f t

-- a test that says the same of an arrow and of one without parentheses, of a `new` with arguments and without, and of a call and of a node of JSX
abbrev pub Blind : {A : Type 0} → (Tree → A) → Type 0
Blind f =
    ((ds es : Forest) → f (node (expression Arrow) ds) ≡ f (node (expression BareArrow) es))
    × ((ds es : Forest) → f (node (expression ArrowBlock) ds) ≡ f (node (expression BareArrowBlock) es))
    × ((ds es : Forest) → f (node (expression New) ds) ≡ f (node (expression NewWithoutArguments) es))
    × ((j : JsxKind) (ds es : Forest) → f (node (expression Call) ds) ≡ f (node (jsx j) es))

laid_turned : {A : Type 0} (f : Tree → A) → Blind f → (k : Kind) (ds cs : Forest) → f (node k ds) ≡ f (node k cs) → f (laid_node k ds) ≡ f (node k cs)
laid_turned f b (expression BareArrow) (part x y) cs e = b.0 _ cs
laid_turned f b (expression BareArrowBlock) (part x y) cs e = b.1 _ cs
laid_turned f b (expression NewWithoutArguments) (part x none) cs e = b.2 _ cs
laid_turned f b k ds cs e = e

imaged : {A : Type 0} (f : Tree → A) → Blind f → (j : JsxKind) (ds cs : Forest) (u : Tree) → Image j ds u → f (node (jsx j) (lays (jsx j) ds)) ≡ f (node (jsx j) cs) → f (laid_tree u) ≡ f (node (jsx j) cs)
imaged f b j ds cs _ kept e = e
imaged f b j ds cs _ (called i) e = b.3 j _ cs

-- so it is enough to look at nodes of one kind
pub turned : {A : Type 0} (r : Replacing) (f : Tree → A) → Blind f → (k : Kind) (cs : Forest) → f (node k (lays_out r k cs)) ≡ f (node k cs) → f (laid_out r (node k cs)) ≡ f (node k cs)
turned r f b (jsx j) cs e = imaged f b j (outs r cs) cs (r.make (jsx j) (outs r cs)) (r.image j (outs r cs)) e
turned r f b (program k) cs e = ap (λ u. f (laid_tree u)) (r.stays (program k) (outs r cs) refl) ∙ laid_turned f b (program k) (lays_out r (program k) cs) cs e
turned r f b (statement k) cs e = ap (λ u. f (laid_tree u)) (r.stays (statement k) (outs r cs) refl) ∙ laid_turned f b (statement k) (lays_out r (statement k) cs) cs e
turned r f b (function k) cs e = ap (λ u. f (laid_tree u)) (r.stays (function k) (outs r cs) refl) ∙ laid_turned f b (function k) (lays_out r (function k) cs) cs e
turned r f b (expression k) cs e = ap (λ u. f (laid_tree u)) (r.stays (expression k) (outs r cs) refl) ∙ laid_turned f b (expression k) (lays_out r (expression k) cs) cs e

tested : (r : Replacing) (f : Tree → Bool) → Blind f → ((k : Kind) (cs : Forest) → f (node k (lays_out r k cs)) ≡ f (node k cs)) → ((ts us : Forest) → f (list ts) ≡ f (list us)) → (t : Tree) → Keeps r f t
tested r f b g l (leaf s x) = refl
tested r f b g l (list ts) = l _ ts
tested r f b g l (node k cs) = turned r f b k cs (g k cs)

-- what stands at a place has its form
pub record Fit (c : Nonterminal) (t : Tree) : Type 0 where
  pub home : admits c t ≡ true
  pub below : fits_below c t ≡ true

pub first_fit : (c : Nonterminal) (t : Tree) (rest : Bool) → (admits c t && (fits_below c t && rest)) ≡ true → Fit c t
first_fit c t rest h = let p = and_parts (admits c t) (fits_below c t && rest) h in record { home = p.0; below = (and_parts (fits_below c t) rest p.1).0 }

pub one_fit : (c : Nonterminal) (t : Tree) (ts : Forest) → fit_each c (part t ts) ≡ true → Fit c t
one_fit c t ts h = first_fit c t (fit_each c ts) h

pub rest_fit : (c : Nonterminal) (t : Tree) (ts : Forest) → fit_each c (part t ts) ≡ true → fit_each c ts ≡ true
rest_fit c t ts h = rest_at (admits c t) (fits_below c t) (fit_each c ts) h

-- ---- leaves, names and lists

pub key_laid : (r : Replacing) (x : Text) (t : Tree) → Keeps r (is_key x) t
key_laid r x t = tested r (is_key x) (λ d e. refl, λ d e. refl, λ d e. refl, λ j d e. refl) (λ k cs. refl) (λ ts us. refl) t

pub word_laid : (r : Replacing) (t : Tree) → Keeps r is_word t
word_laid r t = tested r is_word (λ d e. refl, λ d e. refl, λ d e. refl, λ j d e. refl) (λ k cs. refl) (λ ts us. refl) t

pub cooked_laid : (r : Replacing) (t : Tree) → Keeps r is_cooked t
cooked_laid r t = tested r is_cooked (λ d e. refl, λ d e. refl, λ d e. refl, λ j d e. refl) (λ k cs. refl) (λ ts us. refl) t

pub here_laid_list : (r : Replacing) (ts : Forest) → is_here (list (each_out r ts)) ≡ is_here (list ts)
here_laid_list r none = refl
here_laid_list r (part t ts) = refl

pub here_laid : (r : Replacing) (t : Tree) → Keeps r is_here t
here_laid r (leaf s x) = refl
here_laid r (list ts) = here_laid_list r ts
here_laid r (node k cs) = turned r is_here (λ d e. refl, λ d e. refl, λ d e. refl, λ j d e. refl) k cs refl

mutual
  pub name_laid : (r : Replacing) (t : Tree) → Keeps r is_name t
  name_laid r (leaf s x) = refl
  name_laid r (list ts) = refl
  name_laid r (node k cs) = turned r is_name (λ d e. refl, λ d e. refl, λ d e. refl, λ j d e. refl) k cs (name_node r k cs)

  name_node : (r : Replacing) (k : Kind) (cs : Forest) → is_name (node k (lays_out r k cs)) ≡ is_name (node k cs)
  name_node r (expression Parenthesized) none = refl
  name_node r (expression Parenthesized) (part t ts) = name_laid r t
  name_node r _ cs = refl

-- ---- tests of a kind alone

empty_node : (k : Kind) (ds es : Forest) → is_empty (node k ds) ≡ is_empty (node k es)
empty_node (statement Empty) ds es = refl
empty_node _ ds es = refl

pub empty_laid : (r : Replacing) (t : Tree) → Keeps r is_empty t
empty_laid r t = tested r is_empty (λ d e. refl, λ d e. refl, λ d e. refl, λ j d e. refl) (λ k cs. empty_node k _ cs) (λ ts us. refl) t

default_node : (k : Kind) (ds es : Forest) → is_default (node k ds) ≡ is_default (node k es)
default_node (statement Default) ds es = refl
default_node _ ds es = refl

pub default_laid : (r : Replacing) (t : Tree) → Keeps r is_default t
default_laid r t = tested r is_default (λ d e. refl, λ d e. refl, λ d e. refl, λ j d e. refl) (λ k cs. default_node k _ cs) (λ ts us. refl) t

function_node : (k : Kind) (ds es : Forest) → is_function (node k ds) ≡ is_function (node k es)
function_node (statement FunctionDecl) ds es = refl
function_node _ ds es = refl

pub function_laid : (r : Replacing) (t : Tree) → Keeps r is_function t
function_laid r t = tested r is_function (λ d e. refl, λ d e. refl, λ d e. refl, λ j d e. refl) (λ k cs. function_node k _ cs) (λ ts us. refl) t

optional_node : (k : Kind) (ds es : Forest) → is_optional (node k ds) ≡ is_optional (node k es)
optional_node (expression (NameLink q)) ds es = refl
optional_node (expression (IndexLink q)) ds es = refl
optional_node (expression (CallLink q)) ds es = refl
optional_node _ ds es = refl

pub optional_laid : (r : Replacing) (t : Tree) → Keeps r is_optional t
optional_laid r t = tested r is_optional (λ d e. refl, λ d e. refl, λ d e. refl, λ j d e. refl) (λ k cs. optional_node k _ cs) (λ ts us. refl) t

-- ---- members and properties, by their keys

proto_node : (r : Replacing) (k : Kind) (cs : Forest) → is_proto (node k (lays_out r k cs)) ≡ is_proto (node k cs)
proto_node r (expression Property) none = refl
proto_node r (expression Property) (part t ts) = key_laid r (codes "__proto__") t
proto_node r _ cs = refl

pub proto_laid : (r : Replacing) (t : Tree) → Keeps r is_proto t
proto_laid r t = tested r is_proto (λ d e. refl, λ d e. refl, λ d e. refl, λ j d e. refl) (proto_node r) (λ ts us. refl) t

constructor_node : (r : Replacing) (k : Kind) (cs : Forest) → is_constructor (node k (lays_out r k cs)) ≡ is_constructor (node k cs)
constructor_node r (function (Method InClass)) none = refl
constructor_node r (function (Method InClass)) (part t ts) = key_laid r (codes "constructor") t
constructor_node r _ cs = refl

pub constructor_laid : (r : Replacing) (t : Tree) → Keeps r is_constructor t
constructor_laid r t = tested r is_constructor (λ d e. refl, λ d e. refl, λ d e. refl, λ j d e. refl) (constructor_node r) (λ ts us. refl) t

not_key : (r : Replacing) (x : Text) (t : Tree) → not (is_key x (laid_out r t)) ≡ not (is_key x t)
not_key r x t = ap not (key_laid r x t)

good_node : (r : Replacing) (k : Kind) (cs : Forest) → is_good_member (node k (lays_out r k cs)) ≡ is_good_member (node k cs)
good_node r (function (Getter InClass)) (part t ts) = not_key r (codes "constructor") t
good_node r (function (Setter InClass)) (part t ts) = not_key r (codes "constructor") t
good_node r (function (Field InClass)) (part t ts) = not_key r (codes "constructor") t
good_node r (function (Field Static)) (part t ts) =
    ap (λ b. b && not (is_key (codes "prototype") (laid_out r t))) (not_key r (codes "constructor") t) ∙ ap (λ b. not (is_key (codes "constructor") t) && b) (not_key r (codes "prototype") t)
good_node r (function (Method Static)) (part t ts) = not_key r (codes "prototype") t
good_node r (function (Getter Static)) (part t ts) = not_key r (codes "prototype") t
good_node r (function (Setter Static)) (part t ts) = not_key r (codes "prototype") t
good_node r (function (Getter InClass)) none = refl
good_node r (function (Setter InClass)) none = refl
good_node r (function (Field InClass)) none = refl
good_node r (function (Field Static)) none = refl
good_node r (function (Method Static)) none = refl
good_node r (function (Getter Static)) none = refl
good_node r (function (Setter Static)) none = refl
good_node r _ cs = refl

pub good_laid : (r : Replacing) (t : Tree) → Keeps r is_good_member t
good_laid r t = tested r is_good_member (λ d e. refl, λ d e. refl, λ d e. refl, λ j d e. refl) (good_node r) (λ ts us. refl) t

-- ---- declarators

init_parts : (r : Replacing) (v : DeclareWord) (t : Tree) (us : Forest) → has_init v (node (statement Declarator) (part (laid_out r t) (part (list (each_out r us)) none))) ≡ has_init v (node (statement Declarator) (part t (part (list us) none)))
init_parts r ConstWord t us = here_laid_list r us
init_parts r VarWord (leaf IdentifierName x) us = refl
init_parts r LetWord (leaf IdentifierName x) us = refl
init_parts r VarWord (leaf s x) us = here_laid_list r us
init_parts r LetWord (leaf s x) us = here_laid_list r us
init_parts r VarWord (list ts) us = here_laid_list r us
init_parts r LetWord (list ts) us = here_laid_list r us
init_parts r VarWord (node k cs) us =
    turned r (λ u. has_init VarWord (node (statement Declarator) (part u (part (list (each_out r us)) none)))) (λ d e. refl, λ d e. refl, λ d e. refl, λ j d e. refl) k cs refl ∙ here_laid_list r us
init_parts r LetWord (node k cs) us =
    turned r (λ u. has_init LetWord (node (statement Declarator) (part u (part (list (each_out r us)) none)))) (λ d e. refl, λ d e. refl, λ d e. refl, λ j d e. refl) k cs refl ∙ here_laid_list r us

init_node : (r : Replacing) (v : DeclareWord) (k : Kind) (cs : Forest) → fit_slots (positions k) cs ≡ true → has_init v (node k (lays_out r k cs)) ≡ has_init v (node k cs)
init_node r v (statement Declarator) (part t (part (list us) none)) h = init_parts r v t us
init_node r v (statement Declarator) none h = absurd (false≢true h)
init_node r v (statement Declarator) (part t none) h = no_more (admits (Pat Binds) t) (fits_below (Pat Binds) t) h
init_node r v (statement Declarator) (part t (part (leaf s x) us)) h = no_more (admits (Pat Binds) t) (fits_below (Pat Binds) t) h
init_node r v (statement Declarator) (part t (part (node k cs) us)) h = no_more (admits (Pat Binds) t) (fits_below (Pat Binds) t) h
init_node r v (statement Declarator) (part t (part (list us) (part w ws))) h = no_more (at_most_one us) (fit_each (Expr 1) us) (rest_at (admits (Pat Binds) t) (fits_below (Pat Binds) t) (at_most_one us && (fit_each (Expr 1) us && false)) h)
init_node r ConstWord _ cs h = refl
init_node r VarWord _ cs h = refl
init_node r LetWord _ cs h = refl

blind_init : (v : DeclareWord) → Blind (has_init v)
blind_init ConstWord = (λ d e. refl, λ d e. refl, λ d e. refl, λ j d e. refl)
blind_init VarWord = (λ d e. refl, λ d e. refl, λ d e. refl, λ j d e. refl)
blind_init LetWord = (λ d e. refl, λ d e. refl, λ d e. refl, λ j d e. refl)

pub init_laid : (r : Replacing) (v : DeclareWord) (c : Nonterminal) (t : Tree) → Fit c t → Keeps r (has_init v) t
init_laid r v c (leaf s x) a = refl
init_laid r v c (list ts) a = absurd (false≢true a.home)
init_laid r v c (node k cs) a = turned r (has_init v) (blind_init v) k cs (init_node r v k cs a.below)

-- ---- lists, from which empty statements are dropped

abbrev pub trim : Bool → Forest → Forest
trim true ts = without_empty ts
trim false ts = ts

-- a test that says no of an empty statement, in whatever tree it is
pub of_empty : (f : Tree → Bool) → ((cs : Forest) → f (node (statement Empty) cs) ≡ false) → (t : Tree) → is_empty t ≡ true → f t ≡ false
of_empty f g (node (statement Empty) cs) e = g cs
of_empty f g _ e = absurd (false≢true e)

-- such a test counts the same
count_drop : (f : Tree → Bool) → ((t : Tree) → is_empty t ≡ true → f t ≡ false) → (b : Bool) (t u : Tree) (ts us : Forest) → is_empty t ≡ b → f u ≡ f t → count_of f us ≡ count_of f ts → count_of f (unless_empty b u us) ≡ count_of f (part t ts)
count_drop f e true t u ts us i p q = q ∙ sym (ap (λ v. cond v (suc (count_of f ts)) (count_of f ts)) (e t i))
count_drop f e false t u ts us i p q = ap (λ v. cond v (suc (count_of f us)) (count_of f us)) p ∙ ap (λ n. cond (f t) (suc n) n) q

pub counted : (r : Replacing) (f : Tree → Bool) → ((t : Tree) → is_empty t ≡ true → f t ≡ false) → (c : Nonterminal) → ((t : Tree) → Fit c t → Keeps r f t) → (w : Bool) (ts : Forest) → fit_each c ts ≡ true → count_of f (trim w (each_out r ts)) ≡ count_of f ts
counted r f e c g true none h = refl
counted r f e c g false none h = refl
counted r f e c g true (part t ts) h =
    ap (λ b. count_of f (unless_empty b (laid_out r t) (without_empty (each_out r ts)))) (empty_laid r t)
    ∙ count_drop f e (is_empty t) t (laid_out r t) ts (without_empty (each_out r ts)) refl (g t (one_fit c t ts h)) (counted r f e c g true ts (rest_fit c t ts h))
counted r f e c g false (part t ts) h =
    ap (λ v. cond v (suc (count_of f (each_out r ts))) (count_of f (each_out r ts))) (g t (one_fit c t ts h)) ∙ ap (λ n. cond (f t) (suc n) n) (counted r f e c g false ts (rest_fit c t ts h))

all_drop : (f : Tree → Bool) (b : Bool) (u : Tree) (us : Forest) → f u ≡ true → all_of f us ≡ true → all_of f (unless_empty b u us) ≡ true
all_drop f true u us p q = q
all_drop f false u us p q = and_from _ _ p q

-- and one that holds of all trees of a list holds of them as they are laid
pub all_laid : (r : Replacing) (f : Tree → Bool) (c : Nonterminal) → ((t : Tree) → Fit c t → Keeps r f t) → (w : Bool) (ts : Forest) → fit_each c ts ≡ true → all_of f ts ≡ true → all_of f (trim w (each_out r ts)) ≡ true
all_laid r f c g true none h l = refl
all_laid r f c g false none h l = refl
all_laid r f c g true (part t ts) h l =
    let p = and_parts (f t) (all_of f ts) l in
    all_drop f (is_empty (laid_out r t)) (laid_out r t) (without_empty (each_out r ts)) (g t (one_fit c t ts h) ∙ p.0) (all_laid r f c g true ts (rest_fit c t ts h) p.1)
all_laid r f c g false (part t ts) h l =
    let p = and_parts (f t) (all_of f ts) l in
    and_from _ _ (g t (one_fit c t ts h) ∙ p.0) (all_laid r f c g false ts (rest_fit c t ts h) p.1)

-- ---- directives, and bodies that are strict by their own

directive_node : (r : Replacing) (k : Kind) (cs : Forest) → fit_slots (positions k) cs ≡ true → is_strict_directive (node k (lays_out r k cs)) ≡ is_strict_directive (node k cs)
directive_node r (program Directive) none h = refl
directive_node r (program Directive) (part (leaf s x) none) h = refl
directive_node r (program Directive) (part (list ts) none) h = refl
directive_node r (program Directive) (part (node k cs) none) h = turned r (λ u. is_strict_directive (node (program Directive) (part u none))) (λ d e. refl, λ d e. refl, λ d e. refl, λ j d e. refl) k cs refl
directive_node r (program Directive) (part t (part u us)) h = no_more (admits StringOnly t) (fits_below StringOnly t) h
directive_node r _ cs h = refl

directive_laid : (r : Replacing) (t : Tree) → Fit DirectiveOnly t → Keeps r is_strict_directive t
directive_laid r (leaf s x) a = refl
directive_laid r (list ts) a = refl
directive_laid r (node k cs) a = turned r is_strict_directive (λ d e. refl, λ d e. refl, λ d e. refl, λ j d e. refl) k cs (directive_node r k cs a.below)

pub directives_laid : (r : Replacing) (ts : Forest) → fit_each DirectiveOnly ts ≡ true → nat_le 1 (count_of is_strict_directive (without_empty (each_out r ts))) ≡ nat_le 1 (count_of is_strict_directive ts)
directives_laid r ts h = ap (nat_le 1) (counted r is_strict_directive (of_empty is_strict_directive (λ cs. refl)) DirectiveOnly (directive_laid r) true ts h)

body_node : (r : Replacing) (k : Kind) (cs : Forest) → fit_slots (positions k) cs ≡ true → is_strict_body (node k (lays_out r k cs)) ≡ is_strict_body (node k cs)
body_node r (program FunctionBody) none h = refl
body_node r (program FunctionBody) (part (list ts) us) h = directives_laid r ts (each_at (last_only ts) (fit_each DirectiveOnly ts) _ h)
body_node r (program FunctionBody) (part (leaf s x) us) h = refl
body_node r (program FunctionBody) (part (node k cs) us) h = absurd (false≢true h)
body_node r _ cs h = refl

pub body_laid : (r : Replacing) (c : Nonterminal) (t : Tree) → Fit c t → Keeps r is_strict_body t
body_laid r c (leaf s x) a = refl
body_laid r c (list ts) a = refl
body_laid r c (node k cs) a = turned r is_strict_body (λ d e. refl, λ d e. refl, λ d e. refl, λ j d e. refl) k cs (body_node r k cs a.below)

-- ---- loops behind labels

mutual
  pub loop_laid : (r : Replacing) (c : Nonterminal) (t : Tree) → Fit c t → Keeps r labels_loop t
  loop_laid r c (leaf s x) a = refl
  loop_laid r c (list ts) a = refl
  loop_laid r c (node k cs) a = turned r labels_loop (λ d e. refl, λ d e. refl, λ d e. refl, λ j d e. refl) k cs (loop_node r k cs a.below)

  loop_node : (r : Replacing) (k : Kind) (cs : Forest) → fit_slots (positions k) cs ≡ true → labels_loop (node k (lays_out r k cs)) ≡ labels_loop (node k cs)
  loop_node r (statement Label) none h = refl
  loop_node r (statement Label) (part t none) h = no_more (admits Ident t) (fits_below Ident t) h
  loop_node r (statement Label) (part t (part s none)) h = loop_laid r SubStmt s (first_fit SubStmt s true (rest_at (admits Ident t) (fits_below Ident t) (admits SubStmt s && (fits_below SubStmt s && true)) h))
  loop_node r (statement Label) (part t (part s (part u us))) h = no_more (admits SubStmt s) (fits_below SubStmt s) (rest_at (admits Ident t) (fits_below Ident t) (admits SubStmt s && (fits_below SubStmt s && false)) h)
  loop_node r (statement Do) cs h = refl
  loop_node r (statement While) cs h = refl
  loop_node r (statement For) cs h = refl
  loop_node r (statement ForIn) cs h = refl
  loop_node r (statement ForOf) cs h = refl
  loop_node r _ cs h = refl

-- ---- an `if` that stands open at the end

same_end : (b l i : Bool) (ds es : Forest) → (not b || l) ≡ true → (l ≡ true → last_open i ds ≡ last_open i es) → (b && last_open i ds) ≡ (b && last_open i es)
same_end false l i ds es h f = refl
same_end true l i ds es h f = f h

plain_open : (r : Replacing) (k : Kind) (cs : Forest) → (last_one (positions k) ≡ true → last_open (is_if k) (lays_out r k cs) ≡ last_open (is_if k) cs) → open_if (laid_node k (lays_out r k cs)) ≡ open_if (node k cs)
plain_open r (expression BareArrow) none f = refl
plain_open r (expression BareArrow) (part a none) f = f refl
plain_open r (expression BareArrow) (part a (part b bs)) f = f refl
plain_open r (expression BareArrowBlock) none f = refl
plain_open r (expression BareArrowBlock) (part a b) f = refl
plain_open r (expression NewWithoutArguments) none f = refl
plain_open r (expression NewWithoutArguments) (part a none) f = refl
plain_open r (expression NewWithoutArguments) (part a (part b bs)) f = refl
plain_open r k cs f = same_end (trails (production k)) (last_one (positions k)) (is_if k) (lays_out r k cs) cs (row_facts k).one_end f

-- at the end of no element and of no call does one
ends_of : (j : JsxKind) → is_element j ≡ true → trails (production (jsx j)) ≡ false
ends_of Element i = refl
ends_of ElementWithChildren i = refl
ends_of Fragment i = refl
ends_of _ i = absurd (false≢true i)

open_image : (j : JsxKind) (ds cs : Forest) (u : Tree) → Image j ds u → open_if (laid_tree (node (jsx j) ds)) ≡ open_if (node (jsx j) cs) → open_if (laid_tree u) ≡ open_if (node (jsx j) cs)
open_image j ds cs _ kept e = e
open_image j ds cs _ (called i) e = sym (ap (λ b. b && last_open false cs) (ends_of j i))

open_node : (r : Replacing) (k : Kind) (cs : Forest) → (last_one (positions k) ≡ true → last_open (is_if k) (lays_out r k cs) ≡ last_open (is_if k) cs) → open_if (laid_out r (node k cs)) ≡ open_if (node k cs)
open_node r (jsx j) cs f = open_image j (outs r cs) cs (r.make (jsx j) (outs r cs)) (r.image j (outs r cs)) (plain_open r (jsx j) cs f)
open_node r (program k) cs f = ap (λ u. open_if (laid_tree u)) (r.stays (program k) (outs r cs) refl) ∙ plain_open r (program k) cs f
open_node r (statement k) cs f = ap (λ u. open_if (laid_tree u)) (r.stays (statement k) (outs r cs) refl) ∙ plain_open r (statement k) cs f
open_node r (function k) cs f = ap (λ u. open_if (laid_tree u)) (r.stays (function k) (outs r cs) refl) ∙ plain_open r (function k) cs f
open_node r (expression k) cs f = ap (λ u. open_if (laid_tree u)) (r.stays (expression k) (outs r cs) refl) ∙ plain_open r (expression k) cs f

mutual
  pub open_laid : (r : Replacing) (c : Nonterminal) (t : Tree) → Fit c t → Keeps r open_if t
  open_laid r c (leaf s x) a = refl
  open_laid r c (list ts) a = absurd (false≢true a.home)
  open_laid r c (node k cs) a = open_node r k cs (λ l. opens_laid r (is_if k) (positions k) cs l a.below)

  opens_laid : (r : Replacing) (i : Bool) (ss : List Position) (cs : Forest) → last_one ss ≡ true → fit_slots ss cs ≡ true → last_open i (mades laid_node ss (outs r cs)) ≡ last_open i cs
  opens_laid r i [] none l h = refl
  opens_laid r i [] (part t ts) l h = absurd (false≢true h)
  opens_laid r i (s ∷ ss) none l h = absurd (false≢true h)
  opens_laid r i (position Single c g b a ∷ []) (part t none) l h =
      ap (λ d. (i && not d) || open_if (laid_out r t)) (here_laid r t) ∙ ap (λ d. (i && not (is_here t)) || d) (open_laid r c t (first_fit c t true h))
  opens_laid r i (position Maybe c g b a ∷ []) (part (list us) none) l h =
      ap (λ d. (i && not d) || open_if (list (each_out r us))) (here_laid_list r us)
      ∙ ap (λ d. (i && not (is_here (list us))) || d) (opens_each r c us (each_at (at_most_one us) (fit_each c us) true h))
  opens_laid r i (position Maybe c g b a ∷ []) (part (leaf s x) none) l h = absurd (false≢true h)
  opens_laid r i (position Maybe c g b a ∷ []) (part (node k cs) none) l h = absurd (false≢true h)
  opens_laid r i (position (Several s) c g b a ∷ []) (part t none) l h = absurd (false≢true l)
  opens_laid r i (position f c g b a ∷ []) (part t (part u us)) l h = no_more (shaped f c t) (fits_below c t) h
  opens_laid r i (position f c g b a ∷ q ∷ ss) (part t none) l h = no_more (shaped f c t) (fits_below c t) h
  opens_laid r i (position f c g b a ∷ position f' c' g' b' a' ∷ ss) (part t (part u us)) l h = opens_laid r i (position f' c' g' b' a' ∷ ss) (part u us) l (rest_at (shaped f c t) (fits_below c t) _ h)

  opens_each : (r : Replacing) (c : Nonterminal) (ts : Forest) → fit_each c ts ≡ true → last_open false (each_out r ts) ≡ last_open false ts
  opens_each r c none h = refl
  opens_each r c (part t none) h = open_laid r c t (one_fit c t none h)
  opens_each r c (part t (part u us)) h = opens_each r c (part u us) (rest_fit c t (part u us) h)
