-- What the static rules look at is the same in a tree as it is laid and with its pairs off.
use Rattle.std.proofs.Common.{◌≡◌, suc, List, [], ◌∷◌, Bool, true, false, cond, sym, refl, ap, ◌∙◌}
use Rattle.std.proofs.lemmas.Bool.{and_parts, false≢true}
use Rattle.std.specs.Prelude.{codes, not, ◌&&◌, nat_le}
use Rattle.jsx_base.specs.Token.{Text, IdentifierName}
use Rattle.jsx_tree.specs.Kinds.{DeclareWord, ConstWord, VarWord, LetWord, Kind, program, statement, function, expression, FunctionBody, Directive, Empty, Declarator, Do, While, For, ForIn, ForOf, Label, Default, FunctionDecl, Method, Getter, Setter, Field, InClass, Static, Property, NameLink, IndexLink, CallLink, Binds, Tree, leaf, node, list, Forest, none, part}
use Rattle.jsx_tree.specs.Nonterminals.{Nonterminal, Expr, Key, StringOnly, DirectiveOnly, ChainLink, Pat}
use Rattle.jsx_tree.specs.Normal.{is_empty, unless_empty, without_empty, laid_node, mades, each_made, of_list, laid_tree}
use Rattle.jsx_tree.specs.Form.{Form, Single, Maybe, Several, Position, position, positions, at_most_one, last_only}
use Rattle.jsx_tree.specs.StaticRules.{all_of, count_of, first_of_list, is_here, is_key, is_proto, is_constructor, is_good_member, is_default, is_strict_directive, is_strict_body, is_word, has_init, is_optional, is_function, labels_loop, second_loop}
use Rattle.jsx_tree.specs.Sound.{may_stand, may_shape, is_no_jsx, loose, loose_slots, loose_each}
use Rattle.jsx_tree.proofs.Parentheses.Bare.{bare_node, bare, lays, bares, laid_stays, bare_stays, firm, no_turn, no_list, even, even_laid, even_bare}

-- what stands at a place may stand there and is loose
pub record At (c : Nonterminal) (t : Tree) : Type 0 where
  pub may : may_stand c t ≡ true
  pub below : loose c t ≡ true

-- a test that is the same on both trees
abbrev pub Same : (Tree → Bool) → Tree → Type 0
Same f t = f (laid_tree t) ≡ f (bare t)

-- at a place where no kind changes it is enough to look at nodes of one kind; elsewhere the test says nothing of an expression or a target
pub firm_by : (f : Tree → Bool) (c : Nonterminal) (k : Kind) (cs : Forest) → firm c ≡ true → may_stand c (node k cs) ≡ true → f (node k (lays k cs)) ≡ f (node k (bares k cs)) → Same f (node k cs)
firm_by f c k cs p m e = let o = no_turn c k cs p m in ap f (laid_stays k (lays k cs) o) ∙ (e ∙ sym (ap f (bare_stays k (bares k cs) o)))

pub by_kind : (f : Tree → Bool) (d : Bool) (c : Nonterminal) (k : Kind) (cs : Forest) → At c (node k cs) → ((u : Tree) → even u ≡ true → f u ≡ d) → f (node k (lays k cs)) ≡ f (node k (bares k cs)) → Same f (node k cs)
by_kind f d c k cs a g e = at (firm c) refl
  where
    at : (b : Bool) → firm c ≡ b → Same f (node k cs)
    at true p = firm_by f c k cs p a.may e
    at false n = g (laid_tree (node k cs)) (even_laid c (node k cs) n a.may) ∙ sym (g (bare (node k cs)) (even_bare c (node k cs) n a.may a.below))

-- ---- lists, from which empty statements are dropped

even_empty : (u : Tree) → even u ≡ true → is_empty u ≡ false
even_empty (leaf s x) h = refl
even_empty (node (statement Empty) cs) h = absurd (false≢true h)
even_empty (node k cs) h = refl
even_empty (list ts) h = refl

empty_node : (k : Kind) (ds es : Forest) → is_empty (node k ds) ≡ is_empty (node k es)
empty_node (statement Empty) ds es = refl
empty_node _ ds es = refl

pub empty_same : (c : Nonterminal) (t : Tree) → At c t → Same is_empty t
empty_same c (leaf s x) a = refl
empty_same c (list ts) a = refl
empty_same c (node k cs) a = by_kind is_empty false c k cs a even_empty (empty_node k _ _)

-- what a fold over a list makes of a test
abbrev pub Step : {A : Type 0} → (Forest → A) → (Tree → Bool) → Type 0
Step F f = (t u : Tree) (ts us : Forest) → f t ≡ f u → F ts ≡ F us → F (part t ts) ≡ F (part u us)

pub counts : (f : Tree → Bool) → Step (count_of f) f
counts f t u ts us p q = ap (λ b. cond b (suc (count_of f ts)) (count_of f ts)) p ∙ ap (λ n. cond (f u) (suc n) n) q

pub alls : (f : Tree → Bool) → Step (all_of f) f
alls f t u ts us p q = ap (λ b. b && all_of f ts) p ∙ ap (λ b. f u && b) q

pub firsts : (f : Tree → Bool) → Step (first_of_list f) f
firsts f t u ts us p q = p

pub one_of : (c : Nonterminal) (t : Tree) (ts : Forest) → loose_each c (part t ts) ≡ true → At c t
one_of c t ts h = let p = and_parts (may_stand c t) (loose c t && loose_each c ts) h in record { may = p.0; below = (and_parts (loose c t) (loose_each c ts) p.1).0 }

pub rest_of : (c : Nonterminal) (t : Tree) (ts : Forest) → loose_each c (part t ts) ≡ true → loose_each c ts ≡ true
rest_of c t ts h = (and_parts (loose c t) (loose_each c ts) (and_parts (may_stand c t) (loose c t && loose_each c ts) h).1).1

pub fold_all : {A : Type 0} (F : Forest → A) (f : Tree → Bool) → Step F f → (c : Nonterminal) → ((t : Tree) → At c t → Same f t) → (ts : Forest) → loose_each c ts ≡ true → F (each_made laid_node ts) ≡ F (each_made bare_node ts)
fold_all F f s c g none h = refl
fold_all F f s c g (part t ts) h = s _ _ _ _ (g t (one_of c t ts h)) (fold_all F f s c g ts (rest_of c t ts h))

fold_drop : {A : Type 0} (F : Forest → A) (f : Tree → Bool) → Step F f → (v : Bool) (t u : Tree) (ts us : Forest) → f t ≡ f u → F ts ≡ F us → F (unless_empty v t ts) ≡ F (unless_empty v u us)
fold_drop F f s true t u ts us p q = q
fold_drop F f s false t u ts us p q = s t u ts us p q

pub fold_some : {A : Type 0} (F : Forest → A) (f : Tree → Bool) → Step F f → (c : Nonterminal) → ((t : Tree) → At c t → Same f t) → (ts : Forest) → loose_each c ts ≡ true
    → F (without_empty (each_made laid_node ts)) ≡ F (without_empty (each_made bare_node ts))
fold_some F f s c g none h = refl
fold_some F f s c g (part t ts) h =
    let a = one_of c t ts h in
    ap (λ v. F (unless_empty v (laid_tree t) (without_empty (each_made laid_node ts)))) (empty_same c t a)
    ∙ fold_drop F f s (is_empty (bare t)) (laid_tree t) (bare t) _ _ (g t a) (fold_some F f s c g ts (rest_of c t ts h))

-- ---- the parts of a row

pub first_at : (c : Nonterminal) (t : Tree) (rest : Bool) → (may_stand c t && (loose c t && rest)) ≡ true → At c t
first_at c t rest h = let p = and_parts (may_stand c t) (loose c t && rest) h in record { may = p.0; below = (and_parts (loose c t) rest p.1).0 }

pub rest_at : (a b rest : Bool) → (a && (b && rest)) ≡ true → rest ≡ true
rest_at a b rest h = (and_parts b rest (and_parts a (b && rest) h).1).1

pub each_at : (a b rest : Bool) → (a && (b && rest)) ≡ true → b ≡ true
each_at a b rest h = (and_parts b rest (and_parts a (b && rest) h).1).0

pub no_more : {A : Type 0} (a b : Bool) → (a && (b && false)) ≡ true → A
no_more true true h = absurd (false≢true h)
no_more true false h = absurd (false≢true h)
no_more false b h = absurd (false≢true h)

-- ---- keys, words and other leaves

pub key_same : (x : Text) (c : Nonterminal) (t : Tree) → firm c ≡ true → At c t → Same (is_key x) t
key_same x c (leaf s y) p a = refl
key_same x c (list ts) p a = refl
key_same x c (node k cs) p a = firm_by (is_key x) c k cs p a.may refl

pub word_same : (c : Nonterminal) (t : Tree) → firm c ≡ true → At c t → Same is_word t
word_same c (leaf s y) p a = refl
word_same c (list ts) p a = refl
word_same c (node k cs) p a = firm_by is_word c k cs p a.may refl

even_here : (u : Tree) → even u ≡ true → is_here u ≡ true
even_here (leaf s x) h = refl
even_here (node k cs) h = refl
even_here (list ts) h = absurd (false≢true h)

pub here_same : (c : Nonterminal) (t : Tree) → At c t → Same is_here t
here_same c (leaf s x) a = refl
here_same c (list none) a = refl
here_same c (list (part t ts)) a = refl
here_same c (node k cs) a = by_kind is_here true c k cs a even_here refl

pub here_list : (ts : Forest) → is_here (list (each_made laid_node ts)) ≡ is_here (list (each_made bare_node ts))
here_list none = refl
here_list (part t ts) = refl

-- ---- members and properties

proto_node : (k : Kind) (cs : Forest) → loose_slots (positions k) cs ≡ true → is_proto (node k (lays k cs)) ≡ is_proto (node k (bares k cs))
proto_node (expression Property) none h = refl
proto_node (expression Property) (part t ts) h = key_same (codes "__proto__") Key t refl (first_at Key t _ h)
proto_node _ cs h = refl

pub slots_of : (c : Nonterminal) (k : Kind) (cs : Forest) → At c (node k cs) → loose_slots (positions k) cs ≡ true
slots_of c k cs a = (and_parts (is_no_jsx k) (loose_slots (positions k) cs) a.below).1

even_proto : (u : Tree) → even u ≡ true → is_proto u ≡ false
even_proto (leaf s x) h = refl
even_proto (node (expression Property) cs) h = absurd (false≢true h)
even_proto (node k cs) h = refl
even_proto (list ts) h = refl

pub proto_same : (c : Nonterminal) (t : Tree) → At c t → Same is_proto t
proto_same c (leaf s x) a = refl
proto_same c (list ts) a = refl
proto_same c (node k cs) a = by_kind is_proto false c k cs a even_proto (proto_node k cs (slots_of c k cs a))

constructor_node : (k : Kind) (cs : Forest) → loose_slots (positions k) cs ≡ true → is_constructor (node k (lays k cs)) ≡ is_constructor (node k (bares k cs))
constructor_node (function (Method InClass)) none h = refl
constructor_node (function (Method InClass)) (part t ts) h = key_same (codes "constructor") Key t refl (first_at Key t _ h)
constructor_node _ cs h = refl

even_constructor : (u : Tree) → even u ≡ true → is_constructor u ≡ false
even_constructor (leaf s x) h = refl
even_constructor (node (function (Method InClass)) cs) h = absurd (false≢true h)
even_constructor (node k cs) h = refl
even_constructor (list ts) h = refl

pub constructor_same : (c : Nonterminal) (t : Tree) → At c t → Same is_constructor t
constructor_same c (leaf s x) a = refl
constructor_same c (list ts) a = refl
constructor_same c (node k cs) a = by_kind is_constructor false c k cs a even_constructor (constructor_node k cs (slots_of c k cs a))

good_key : (x : Text) (t : Tree) → At Key t → not (is_key x (laid_tree t)) ≡ not (is_key x (bare t))
good_key x t a = ap not (key_same x Key t refl a)

good_node : (k : Kind) (cs : Forest) → loose_slots (positions k) cs ≡ true → is_good_member (node k (lays k cs)) ≡ is_good_member (node k (bares k cs))
good_node (function (Getter InClass)) (part t ts) h = good_key (codes "constructor") t (first_at Key t _ h)
good_node (function (Setter InClass)) (part t ts) h = good_key (codes "constructor") t (first_at Key t _ h)
good_node (function (Field InClass)) (part t ts) h = good_key (codes "constructor") t (first_at Key t _ h)
good_node (function (Field Static)) (part t ts) h =
    let a = first_at Key t _ h in
    ap (λ b. b && not (is_key (codes "prototype") (laid_tree t))) (good_key (codes "constructor") t a) ∙ ap (λ b. not (is_key (codes "constructor") (bare t)) && b) (good_key (codes "prototype") t a)
good_node (function (Method Static)) (part t ts) h = good_key (codes "prototype") t (first_at Key t _ h)
good_node (function (Getter Static)) (part t ts) h = good_key (codes "prototype") t (first_at Key t _ h)
good_node (function (Setter Static)) (part t ts) h = good_key (codes "prototype") t (first_at Key t _ h)
good_node (function (Getter InClass)) none h = refl
good_node (function (Setter InClass)) none h = refl
good_node (function (Field InClass)) none h = refl
good_node (function (Field Static)) none h = refl
good_node (function (Method Static)) none h = refl
good_node (function (Getter Static)) none h = refl
good_node (function (Setter Static)) none h = refl
good_node _ cs h = refl

even_good : (u : Tree) → even u ≡ true → is_good_member u ≡ true
even_good (leaf s x) h = refl
even_good (node (function (Getter g)) cs) h = absurd (false≢true h)
even_good (node (function (Setter g)) cs) h = absurd (false≢true h)
even_good (node (function (Field g)) cs) h = absurd (false≢true h)
even_good (node (function (Method g)) cs) h = absurd (false≢true h)
even_good (node k cs) h = refl
even_good (list ts) h = refl

pub good_same : (c : Nonterminal) (t : Tree) → At c t → Same is_good_member t
good_same c (leaf s x) a = refl
good_same c (list ts) a = refl
good_same c (node k cs) a = by_kind is_good_member true c k cs a even_good (good_node k cs (slots_of c k cs a))

-- ---- kinds

default_node : (k : Kind) (ds es : Forest) → is_default (node k ds) ≡ is_default (node k es)
default_node (statement Default) ds es = refl
default_node _ ds es = refl

even_default : (u : Tree) → even u ≡ true → is_default u ≡ false
even_default (leaf s x) h = refl
even_default (node (statement Default) cs) h = absurd (false≢true h)
even_default (node k cs) h = refl
even_default (list ts) h = refl

pub default_same : (c : Nonterminal) (t : Tree) → At c t → Same is_default t
default_same c (leaf s x) a = refl
default_same c (list ts) a = refl
default_same c (node k cs) a = by_kind is_default false c k cs a even_default (default_node k _ _)

function_node : (k : Kind) (ds es : Forest) → is_function (node k ds) ≡ is_function (node k es)
function_node (statement FunctionDecl) ds es = refl
function_node _ ds es = refl

even_function : (u : Tree) → even u ≡ true → is_function u ≡ false
even_function (leaf s x) h = refl
even_function (node (statement FunctionDecl) cs) h = absurd (false≢true h)
even_function (node k cs) h = refl
even_function (list ts) h = refl

pub function_same : (c : Nonterminal) (t : Tree) → At c t → Same is_function t
function_same c (leaf s x) a = refl
function_same c (list ts) a = refl
function_same c (node k cs) a = by_kind is_function false c k cs a even_function (function_node k _ _)

optional_node : (k : Kind) (ds es : Forest) → is_optional (node k ds) ≡ is_optional (node k es)
optional_node (expression (NameLink q)) ds es = refl
optional_node (expression (IndexLink q)) ds es = refl
optional_node (expression (CallLink q)) ds es = refl
optional_node _ ds es = refl

pub optional_same : (t : Tree) → At ChainLink t → Same is_optional t
optional_same (leaf s x) a = refl
optional_same (list ts) a = refl
optional_same (node k cs) a = firm_by is_optional ChainLink k cs refl a.may (optional_node k _ _)

-- ---- declarators: what is declared is a name or a pattern, and a value is there or not

init_parts : (v : DeclareWord) (t : Tree) (us : Forest) → At (Pat Binds) t → has_init v (node (statement Declarator) (part (laid_tree t) (part (list (each_made laid_node us)) none))) ≡ has_init v (node (statement Declarator) (part (bare t) (part (list (each_made bare_node us)) none)))
init_parts ConstWord t us a = here_list us
init_parts VarWord (leaf IdentifierName x) us a = refl
init_parts LetWord (leaf IdentifierName x) us a = refl
init_parts VarWord (leaf s x) us a = here_list us
init_parts LetWord (leaf s x) us a = here_list us
init_parts VarWord (list ts) us a = here_list us
init_parts LetWord (list ts) us a = here_list us
init_parts VarWord (node k cs) us a =
    let o = no_turn (Pat Binds) k cs refl a.may in
    ap (λ u. has_init VarWord (node (statement Declarator) (part u (part (list (each_made laid_node us)) none)))) (laid_stays k (lays k cs) o)
    ∙ (here_list us ∙ sym (ap (λ u. has_init VarWord (node (statement Declarator) (part u (part (list (each_made bare_node us)) none)))) (bare_stays k (bares k cs) o)))
init_parts LetWord (node k cs) us a =
    let o = no_turn (Pat Binds) k cs refl a.may in
    ap (λ u. has_init LetWord (node (statement Declarator) (part u (part (list (each_made laid_node us)) none)))) (laid_stays k (lays k cs) o)
    ∙ (here_list us ∙ sym (ap (λ u. has_init LetWord (node (statement Declarator) (part u (part (list (each_made bare_node us)) none)))) (bare_stays k (bares k cs) o)))

init_node : (v : DeclareWord) (k : Kind) (cs : Forest) → loose_slots (positions k) cs ≡ true → has_init v (node k (lays k cs)) ≡ has_init v (node k (bares k cs))
init_node v (statement Declarator) (part t (part (list us) none)) h = init_parts v t us (first_at (Pat Binds) t _ h)
init_node v (statement Declarator) none h = absurd (false≢true h)
init_node v (statement Declarator) (part t none) h = no_more (may_stand (Pat Binds) t) (loose (Pat Binds) t) h
init_node v (statement Declarator) (part t (part (leaf s x) us)) h = no_more (may_stand (Pat Binds) t) (loose (Pat Binds) t) h
init_node v (statement Declarator) (part t (part (node k cs) us)) h = no_more (may_stand (Pat Binds) t) (loose (Pat Binds) t) h
init_node v (statement Declarator) (part t (part (list us) (part w ws))) h = no_more (at_most_one us) (loose_each (Expr 1) us) (rest_at (may_stand (Pat Binds) t) (loose (Pat Binds) t) (at_most_one us && (loose_each (Expr 1) us && false)) h)
init_node ConstWord _ cs h = refl
init_node VarWord _ cs h = refl
init_node LetWord _ cs h = refl

even_init : (v : DeclareWord) (u : Tree) → even u ≡ true → has_init v u ≡ true
even_init ConstWord (leaf s x) h = refl
even_init VarWord (leaf s x) h = refl
even_init LetWord (leaf s x) h = refl
even_init v (node (statement Declarator) cs) h = absurd (false≢true h)
even_init ConstWord (node k cs) h = refl
even_init VarWord (node k cs) h = refl
even_init LetWord (node k cs) h = refl
even_init v (list ts) h = absurd (false≢true h)

pub init_same : (v : DeclareWord) (c : Nonterminal) (t : Tree) → At c t → Same (has_init v) t
init_same ConstWord c (leaf s x) a = refl
init_same VarWord c (leaf s x) a = refl
init_same LetWord c (leaf s x) a = refl
init_same v c (list ts) a = no_list c ts a.may
init_same v c (node k cs) a = by_kind (has_init v) true c k cs a (even_init v) (init_node v k cs (slots_of c k cs a))

-- ---- directives, and bodies that are strict by their own

directive_node : (k : Kind) (cs : Forest) → loose_slots (positions k) cs ≡ true → is_strict_directive (node k (lays k cs)) ≡ is_strict_directive (node k (bares k cs))
directive_node (program Directive) none h = refl
directive_node (program Directive) (part (leaf s x) none) h = refl
directive_node (program Directive) (part (list ts) none) h = refl
directive_node (program Directive) (part (node k cs) none) h =
    firm_by (λ u. is_strict_directive (node (program Directive) (part u none))) StringOnly k cs refl (first_at StringOnly (node k cs) _ h).may refl
directive_node (program Directive) (part t (part u us)) h = no_more (may_stand StringOnly t) (loose StringOnly t) h
directive_node _ cs h = refl

pub directive_same : (t : Tree) → At DirectiveOnly t → Same is_strict_directive t
directive_same (leaf s x) a = refl
directive_same (list ts) a = refl
directive_same (node k cs) a = firm_by is_strict_directive DirectiveOnly k cs refl a.may (directive_node k cs (slots_of DirectiveOnly k cs a))

pub directives_same : (ts : Forest) → loose_each DirectiveOnly ts ≡ true
    → nat_le 1 (count_of is_strict_directive (without_empty (each_made laid_node ts))) ≡ nat_le 1 (count_of is_strict_directive (without_empty (each_made bare_node ts)))
directives_same ts h = ap (nat_le 1) (fold_some (count_of is_strict_directive) is_strict_directive (counts is_strict_directive) DirectiveOnly directive_same ts h)

body_node : (k : Kind) (cs : Forest) → loose_slots (positions k) cs ≡ true → is_strict_body (node k (lays k cs)) ≡ is_strict_body (node k (bares k cs))
body_node (program FunctionBody) none h = refl
body_node (program FunctionBody) (part (list ts) us) h = directives_same ts (each_at (last_only ts) (loose_each DirectiveOnly ts) _ h)
body_node (program FunctionBody) (part (leaf s x) us) h = refl
body_node (program FunctionBody) (part (node k cs) us) h = absurd (false≢true h)
body_node _ cs h = refl

even_body : (u : Tree) → even u ≡ true → is_strict_body u ≡ false
even_body (leaf s x) h = refl
even_body (node (program FunctionBody) cs) h = absurd (false≢true h)
even_body (node k cs) h = refl
even_body (list ts) h = refl

pub body_same : (c : Nonterminal) (t : Tree) → At c t → Same is_strict_body t
body_same c (leaf s x) a = refl
body_same c (list ts) a = refl
body_same c (node k cs) a = by_kind is_strict_body false c k cs a even_body (body_node k cs (slots_of c k cs a))

-- ---- loops behind labels

even_loop : (u : Tree) → even u ≡ true → labels_loop u ≡ false
even_loop (leaf s x) h = refl
even_loop (node (statement Label) cs) h = absurd (false≢true h)
even_loop (node (statement Do) cs) h = absurd (false≢true h)
even_loop (node (statement While) cs) h = absurd (false≢true h)
even_loop (node (statement For) cs) h = absurd (false≢true h)
even_loop (node (statement ForIn) cs) h = absurd (false≢true h)
even_loop (node (statement ForOf) cs) h = absurd (false≢true h)
even_loop (node k cs) h = refl
even_loop (list ts) h = refl

loop_node : (k : Kind) (ds es : Forest) → second_loop ds ≡ second_loop es → labels_loop (node k ds) ≡ labels_loop (node k es)
loop_node (statement Label) ds es h = h
loop_node (statement Do) ds es h = refl
loop_node (statement While) ds es h = refl
loop_node (statement For) ds es h = refl
loop_node (statement ForIn) ds es h = refl
loop_node (statement ForOf) ds es h = refl
loop_node _ ds es h = refl

shaped_loop : (f : Form) (c : Nonterminal) (t : Tree) → may_shape f c t ≡ true → loose c t ≡ true → (At c t → Same labels_loop t) → labels_loop (of_list f (laid_tree t)) ≡ labels_loop (of_list f (bare t))
shaped_loop Single c t m h g = g (record { may = m; below = h })
shaped_loop Maybe c (list ts) m h g = refl
shaped_loop (Several s) c (list ts) m h g = refl
shaped_loop Maybe c (leaf s x) m h g = absurd (false≢true m)
shaped_loop Maybe c (node k cs) m h g = absurd (false≢true m)
shaped_loop (Several s') c (leaf s x) m h g = absurd (false≢true m)
shaped_loop (Several s') c (node k cs) m h g = absurd (false≢true m)

mutual
  pub loop_same : (c : Nonterminal) (t : Tree) → At c t → Same labels_loop t
  loop_same c (leaf s x) a = refl
  loop_same c (list ts) a = refl
  loop_same c (node k cs) a = by_kind labels_loop false c k cs a even_loop (loop_node k _ _ (loops_same (positions k) cs (slots_of c k cs a)))

  loops_same : (ss : List Position) (cs : Forest) → loose_slots ss cs ≡ true → second_loop (mades laid_node ss cs) ≡ second_loop (mades bare_node ss cs)
  loops_same [] none h = refl
  loops_same [] (part t ts) h = absurd (false≢true h)
  loops_same (s ∷ ss) none h = absurd (false≢true h)
  loops_same (position f c g b a ∷ ss) (part t ts) h =
      let p = and_parts (may_shape f c t) (loose c t && loose_slots ss ts) h in
      let q = and_parts (loose c t) (loose_slots ss ts) p.1 in
      last_loop ss ts (of_list f (laid_tree t)) (of_list f (bare t)) q.1 (shaped_loop f c t p.0 q.0 (λ i. loop_same c t i)) (loops_same ss ts q.1)

  last_loop : (ss : List Position) (ts : Forest) (t u : Tree) → loose_slots ss ts ≡ true → labels_loop t ≡ labels_loop u → second_loop (mades laid_node ss ts) ≡ second_loop (mades bare_node ss ts)
      → second_loop (part t (mades laid_node ss ts)) ≡ second_loop (part u (mades bare_node ss ts))
  last_loop ss none t u h p q = p
  last_loop [] (part x xs) t u h p q = absurd (false≢true h)
  last_loop (position f c g b a ∷ ss) (part x xs) t u h p q = q
