-- What stands in the parentheses of a `for`.
use Rattle.std.proofs.Common.{◌≡◌, Bool, true, false, not, List, [], ◌∷◌, refl, sym, ◌∙◌, ap, subst}
use Rattle.std.specs.Prelude.{IsTrue, codes, ◌||◌}
use Rattle.jsx_base.specs.Token.{Operator, IdentifierName, Punctuator, among, same, token}
use Rattle.jsx_tree.specs.Signs.{AfterBinding, AfterExpr, AfterBlock, Sign, Tok, Unless}
use Rattle.jsx_tree.specs.Kinds.{DeclareWord, VarWord, LetWord, ConstWord, Var, ForDeclaration, Kind, statement, Tree, leaf, node, list, Forest, none, part}
use Rattle.jsx_tree.specs.Nonterminals.{Expr, Declarators, ForInit, homes, in_homes}
use Rattle.jsx_tree.specs.Grammar.{NoTrailing, Fixed, Many, Part, pun, semi, vars}
use Rattle.jsx_tree.specs.Form.{admits, enough}
use Rattle.jsx_tree.specs.Reading.{Place, Lost, At, forth}
use Rattle.jsx_tree.specs.StaticRules.{Surroundings, open_in, any_open, has_init}
use Rattle.jsx_tree.specs.View.{word_of}
use Rattle.jsx_tree.specs.Walk.{is_found, nothing, one, Piece, piece, Given, Items, nil, last, more, Past, sign, tree, absent, present, many, Walk, done, next, around, steady}
use Rattle.jsx_tree.specs.Stops.{going}
use Rattle.jsx_tree.specs.Language.{Whole}
use Rattle.jsx_tree.specs.Answers.{Moves, Stuck, Missed, Only, Barred, OnlyRow, NoRow}
use Rattle.jsx_tree.specs.declared.text.DeclareWord as code
use Rattle.jsx_tree.specs.declared.text.DeclareWord.TheVariants as declare_word
use Rattle.jsx_tree.specs.Faults.{Fault, Unread, Shallow, part_depth, deepest}
use Rattle.jsx_tree.proofs.Tokens.{found_first, one_text, same_self}
use Rattle.jsx_tree.proofs.Apart.{clash, never_both}
use Rattle.jsx_tree.proofs.Rows.Bridge.{found_at}
use Rattle.jsx_tree.proofs.Rows.Stopping.{is_not, or_cases}
use Rattle.jsx_tree.proofs.Rows.Guarded.{loosen, whole_walk}
use Rattle.jsx_tree.proofs.Rows.Laws.{end_found, shut_out, start_found}
use Rattle.jsx_tree.proofs.Rows.Firsts.{kind_home, no_expression}
use Rattle.jsx_tree.proofs.Rows.Closers.{Shut, closes, shut_reading}
use Rattle.jsx_tree.proofs.Rows.Lists.{none_next, round}
use Rattle.jsx_tree.proofs.Rows.Optionals.{turn_absent, turn_present}
use Rattle.jsx_tree.proofs.Rows.Placing.{no_node, node_shallow}
use Rattle.jsx_tree.proofs.Rows.Steps.{bar, both, end, no_sign, only_sign, then'}
use Rattle.jsx_tree.proofs.Rows.Turns.{Turn, early, prepend, turn_both, turn_final, turn_none, turn_only, whole_of}
use Rattle.jsx_tree.proofs.Depth.Shallow.{shallow_first, shallow_head, part_up}
use Rattle.jsx_operand.specs.SoFar.{Staged, so_far}
use Rattle.jsx_token.specs.Marks.{ends_so_far, is_sign, row_so_far}
use Rattle.jsx_token.specs.Semicolons.{in_list}
use Rattle.jsx_token.specs.Here.{sign_of}
use Rattle.jsx_declaration.specs.Heads.{Rest, Front, Declares, NotDeclared, IsDeclared, NotHeaded, IsHead, NoDeclaring, NoHead, NoInitial, clause_row, declare_sign, first_opens, free_row, initial_row, is_closer, marked_end, marked_row}
use Rattle.jsx_declaration.specs.OpenIn.{any_opens, opens_whole}
use Rattle.jsx_token.specs.declared.lexer.Fixed.{Fixed as Mark}
use Rattle.jsx_token.specs.declared.lexer.Fixed.TheVariants as fixed
use Rattle.jsx_operand.proofs.OfSoFar.{of_so_far}
use Rattle.jsx_token.proofs.Headings.{of_begun}
use Rattle.jsx_operand.proofs.Inners.{inner_kind, of_inner}
use Rattle.jsx_token.proofs.Listed.{agree, agreed, of_each}
use Rattle.jsx_token.proofs.Marks.{by_sign}
use Rattle.jsx_operand.proofs.Homes.{Taken, module', headed, inner, evaluation, labelled, sequence, spread, aimed, operand, no_list, taken_by, home_of, AtWhole, single, several, at_whole, made, value_kind}
use Rattle.jsx_token.proofs.Lives.{lives}
use Rattle.jsx_operand.proofs.Values.{Seat, at_any, led_sign, move, node_to}
use Rattle.jsx_member.proofs.Sequences.{and_equal, no_comma_ends}
use Rattle.jsx_declaration.proofs.Items.{head_inits, list_inits, no_init, unless_none}
use Rattle.jsx_declaration.proofs.OpenIn.{items_opened, whole_opened}
use Rattle.jsx_declaration.proofs.Statements.{KeySign, key_sign, keyed, semicolon}

-- ---- a part and what stands behind it

pub as_front : {v : Surroundings} {ps qs : List Piece} {x y : Place} {t : Tree} → Turn so_far v ps qs x y (part t) → Front v ps qs x t y
as_front s = record { to = s.to; from = λ us w walk. let f = s.from us w walk in record { parts = f.parts; is = f.is; walk = f.walk } }

pub as_turn : {v : Surroundings} {ps qs : List Piece} {x y : Place} {t : Tree} → Front v ps qs x t y → Turn so_far v ps qs x y (part t)
as_turn {t = t} s = record { to = s.to; from = λ us w walk. let f = s.from us w walk in record { parts = f.parts; is = f.is; walk = f.walk }; rises = part_up t }

pub lost_there : (s : Sign) (x : Place) → forth s x ≡ Lost → IsTrue (is_found (forth s x)) → ⊥
lost_there s x e f = let bad : IsTrue (is_found Lost) = subst (λ p. IsTrue (is_found p)) e f in cc

sign_there : {v : Surroundings} {s : Sign} {x y : Place} {g : Given} → Past (Whole so_far) v (Fixed s) x g y → IsTrue (is_found y)
sign_there (sign e f) = f

abbrev pub head_of : Forest → Tree
head_of none = list none
head_of (part t ts) = t

abbrev pub rest_of : Forest → Forest
rest_of none = none
rest_of (part t ts) = ts

abbrev pub items_of : Tree → Forest
items_of (list ts) = ts
items_of t = none

-- ---- declarators, as a loop reads them

-- those that were read lead to a list of those and what is read next
pub record Leads (v : Surroundings) (x : Place) (ts : Forest) (y : Place) : Type 0 where
  pub on : (u : Tree) (us : Forest) (z : Place) → Items (Whole so_far) v NoTrailing Declarators y (part u us) z → Items (Whole so_far) v NoTrailing Declarators x (both ts (part u us)) z

pub leads_none : {v : Surroundings} {x : Place} (ts : Forest) → ts ≡ none → Leads v x ts x
leads_none {v} {x} ts e = subst (λ us. Leads v x us x) (sym e) (record { on = λ u us z all. all })

pub behind_both : (ts : Forest) (t : Tree) (us : Forest) → both ts (part t us) ≡ both (both ts (part t none)) us
behind_both none t us = refl
behind_both (part u ts) t us = ap (part u) (behind_both ts t us)

pub leads_more : {v : Surroundings} {x y z w : Place} {t : Tree} (ts us : Forest) → Leads v x ts y → Only so_far v (Part Declarators) y (one t) z → Moves (pun ",") z w → us ≡ both ts (part t none) → Leads v x us w
leads_more {v} {x} {w = w} {t = t} ts us l o m e = subst (λ vs. Leads v x vs w) (sym e) (record {
  on = λ u vs p all. subst (λ ws. Items (Whole so_far) v NoTrailing Declarators x ws p) (behind_both ts t (part u vs)) (l.on t (part u vs) p (more (early Declarators t refl (whole_of o.past).reads.reads.is) (whole_of o.past) (sym m.is) all));
})

enough_both : (ts : Forest) (t : Tree) → enough NoTrailing (both ts (part t none)) ≡ true
enough_both none t = refl
enough_both (part u ts) t = refl

free_declares : {v : Surroundings} {ps : List Piece} {x y z z' : Place} {t : Tree} (ts us : Forest) → Turn so_far v (piece [] (Many NoTrailing Declarators) ∷ ps) (piece [] (Many NoTrailing Declarators) ∷ ps) x y (prepend ts) → Only so_far v (Part Declarators) y (one t) z → Missed (pun ",") z z' → us ≡ both ts (part t none)
    → Front v (piece [] (Many NoTrailing Declarators) ∷ ps) ps x (list us) z'
free_declares {v} {ps} {x} {z = z} {t = t} ts us so o m e =
    subst (λ p. Front v (piece [] (Many NoTrailing Declarators) ∷ ps) ps x (list us) p) m.same
    (subst (λ vs. Front v (piece [] (Many NoTrailing Declarators) ∷ ps) ps x (list vs) z) (sym e) (as_front (turn_both so (turn_final of_so_far o m.stuck))))

one_ends : (y : Place) → ends_so_far Declarators y ≡ ends_so_far (Expr 1) y
one_ends Lost = refl
one_ends (At q e text) = refl

-- with no comma behind it the list has ended where a sequence might stand, too
list_ended : (y : Place) → in_list y ≡ true → forth (pun ",") y ≡ Lost → ends_so_far (Expr 1) y ≡ true → ends_so_far (Expr 0) y ≡ true
list_ended Lost h l e = refl
list_ended (At q AfterExpr text) h l e = no_comma_ends (At q AfterExpr text) h l e
list_ended (At q AfterBlock text) h l e = no_comma_ends (At q AfterBlock text) h l e
list_ended (At q AfterBinding text) h l e =
    let x = token Operator false text in
    ap not (and_equal (among x.raw (going 0)) (among x.raw (going 1)) (is_sign x (pun "=")) (λ k. agreed (among x.raw (going 0)) (among x.raw (going 1)) (by_sign (λ t. agree (among t (going 0)) (among t (going 1))) (pun "=") x refl k))) ∙ e
list_ended (At q _ text) h l e = cc

pub declares : {v : Surroundings} {x y z z' : Place} {t : Tree} (ts us : Forest) → Leads v x ts y → Turn so_far v free_row free_row x y (prepend ts) → Turn so_far v marked_row marked_row x y (prepend ts) → Only so_far v (Part Declarators) y (one t) z → in_list z ≡ true → Missed (pun ",") z z' → us ≡ both ts (part t none) → Declares v x (list us) z'
declares {v} {x} {z = z} {t = t} ts us l free marked o b m e = record {
  stands = subst (λ p. Past (Whole so_far) v (Many NoTrailing Declarators) x (one (list us)) p) m.same
      (subst (λ vs. Past (Whole so_far) v (Many NoTrailing Declarators) x (one (list vs)) z) (sym e) (many (enough_both ts t) (l.on t none z (last (whole_of o.past) refl (end_found of_so_far (whole_of o.past).reads)))));
  free = free_declares ts us free o m e;
  marked = free_declares ts us marked o m e;
  ended = subst (λ p. ends_so_far (Expr 0) p ≡ true) m.same (list_ended z b m.stuck.is (sym (one_ends z) ∙ (whole_of o.past).ends_there));
}

pub not_declared : {v : Surroundings} {x y : Place} {e : Fault} (w : DeclareWord) (ts : Forest) → Turn so_far v free_row free_row x y (prepend ts) → Turn so_far v marked_row marked_row x y (prepend ts) → Barred so_far v (Part Declarators) y e → NotDeclared v w x e
not_declared w ts free marked b = record { free = no_node (none_next ts free b); marked = no_node (none_next ts marked b) }

pub not_initialized : {v : Surroundings} {x y z : Place} {t : Tree} {e : Fault} (w : DeclareWord) (ts : Forest) → Turn so_far v free_row free_row x y (prepend ts) → Turn so_far v marked_row marked_row x y (prepend ts) → Only so_far v (Part Declarators) y (one t) z → has_init w t ≡ false → NotDeclared v w x e
not_initialized {v} w ts free marked o n = record { free = no_init w (statement (Var w)) ts (list_inits w v) free o n; marked = no_init w (statement (ForDeclaration w)) ts (head_inits w v) marked o n }

-- a statement's, with its semicolon
pub declared_row : {v : Surroundings} {x y z : Place} {t : Tree} → Declares v x t y → Only so_far v semi y nothing z → OnlyRow so_far v free_row x (part t none) z
declared_row d o = turn_only (as_turn d.free) (then' o (end (sign_there o.past)))

pub undeclared_row : {v : Surroundings} {x y : Place} {t : Tree} {e : Fault} → Declares v x t y → Barred so_far v semi y e → NoRow so_far v free_row x e
undeclared_row d b = turn_none (as_turn d.free) (bar b)

-- ---- the word of a declaration

pub declare_is : (w : code.DeclareWord) → declare_sign w ≡ Tok Operator IdentifierName (vars (word_of w))
declare_is declare_word.Var = refl
declare_is declare_word.Let = refl
declare_is declare_word.Const = refl

pub declare_key : (w : code.DeclareWord) → KeySign (declare_sign w)
declare_key declare_word.Var = keyed (declare_sign declare_word.Var) refl
declare_key declare_word.Let = keyed (declare_sign declare_word.Let) refl
declare_key declare_word.Const = keyed (declare_sign declare_word.Const) refl

pub undeclaring : {x : Place} → NoDeclaring x → (w : DeclareWord) → forth (Tok Operator IdentifierName (vars w)) x ≡ Lost
undeclaring n VarWord = n.on declare_word.Var
undeclaring n LetWord = n.on declare_word.Let
undeclaring n ConstWord = n.on declare_word.Const

one_word : (v w : DeclareWord) → same (vars v) (vars w) ≡ true → v ≡ w
one_word VarWord VarWord h = refl
one_word LetWord LetWord h = refl
one_word ConstWord ConstWord h = refl
one_word VarWord _ h = cc
one_word LetWord _ h = cc
one_word ConstWord _ h = cc

pub same_word : (v w : DeclareWord) (x : Place) → IsTrue (is_found (forth (Tok Operator IdentifierName (vars v)) x)) → IsTrue (is_found (forth (Tok Operator IdentifierName (vars w)) x)) → v ≡ w
same_word v w x f g = one_word v w (subst (λ t. same (vars v) t ≡ true) (one_text Operator IdentifierName (vars v) (vars w) x f g) (same_self (vars v)))

-- ---- what may stand before the first `;`

data Begin (x : Place) : Tree → Type 0 where
  of_value : {t : Tree} → AtWhole t → Begin x t
  of_declaration : (w : DeclareWord) (ts : Forest) → IsTrue (is_found (forth (Tok Operator IdentifierName (vars w)) x)) → Begin x (node (statement (ForDeclaration w)) ts)

abbrev is_head : Kind → Bool
is_head (statement (ForDeclaration w)) = true
is_head k = false

head_begins : {v : Surroundings} {x y : Place} (l : Kind) (ts : Forest) → is_head l ≡ true → Staged v false ForInit x (node l ts) y → Begin x (node l ts)
head_begins (statement (ForDeclaration w)) ts h r = of_declaration w ts (led_sign (row_so_far (statement (ForDeclaration w))) refl (of_so_far.from_node (statement (ForDeclaration w)) r).walk)
head_begins _ ts h r = cc

begin_kind : {v : Surroundings} {x y : Place} (l : Kind) (ts : Forest) → Taken l → admits ForInit (node l ts) ≡ true → Staged v false ForInit x (node l ts) y → Begin x (node l ts)
begin_kind l ts (operand m) h r = of_value (single (made m))
begin_kind l ts sequence h r = of_value several
begin_kind l ts spread h r = cc
begin_kind l ts aimed h r = cc
begin_kind l ts (inner i) h r =
    head_begins (inner_kind i) ts
    (or_cases (not (lives ForInit (inner_kind i))) (is_head (inner_kind i)) (of_inner (λ j. not (lives ForInit (inner_kind j)) || is_head (inner_kind j)) refl i) (λ n. absurd (clash _ (kind_home ForInit (inner_kind i) ts h) (is_not _ n))) (λ e. e))
    r
begin_kind l ts module' h r = cc
begin_kind l ts evaluation h r = cc
begin_kind l ts labelled h r = cc
begin_kind l ts (headed b) h r = absurd (clash _ h (is_not _ (of_begun (λ j. not (lives ForInit j)) refl b)))

begin_of : {v : Surroundings} {x y : Place} (t : Tree) → Staged v false ForInit x t y → Begin x t
begin_of (leaf k r) q = of_value (single (value_kind k r q.staged))
begin_of (node l ts) q = begin_kind l ts (taken_by q) (home_of q) q
begin_of (list ts) q = absurd (no_list q)

at_init : Seat ForInit
at_init = record { word = λ t h. h; number = λ t. refl; long = λ t. refl; string = λ t. refl; pattern = λ t. refl; at = λ l t h. h; node = λ k ts l. of_each (λ j. in_homes ForInit (homes j)) refl k l }

init_ends : (y : Place) → ends_so_far ForInit y ≡ ends_so_far (Expr 0) y
init_ends Lost = refl
init_ends (At q e text) = refl

to_whole : {v : Surroundings} {x y : Place} {t : Tree} → AtWhole t → Staged v false ForInit x t y → Staged v false (Expr 0) x t y
to_whole (single k) r = move at_any k r
to_whole several r = node_to (Expr 0) refl r

to_init : {v : Surroundings} {x y : Place} {t : Tree} → AtWhole t → Staged v false (Expr 0) x t y → Staged v false ForInit x t y
to_init (single k) r = move at_init k r
to_init several r = node_to ForInit refl r

-- no expression stands where the word does
pub key_value : {v : Surroundings} {x y : Place} {t : Tree} {s : Sign} → KeySign s → IsTrue (is_found (forth s x)) → Staged v false (Expr 0) x t y → ⊥
key_value (key_sign {d} {w} k) f r = no_expression d w k.no_less k.no_slash k.no_head refl f r.reads

word_value : {v : Surroundings} {x y : Place} {t : Tree} (w : code.DeclareWord) → IsTrue (is_found (forth (declare_sign w) x)) → AtWhole t → Staged v false ForInit x t y → ⊥
word_value w f k r = key_value (declare_key w) f (to_whole k r)

as_value : {x : Place} {t : Tree} → NoDeclaring x → Begin x t → AtWhole t
as_value n (of_value k) = k
as_value {x} n (of_declaration w ts f) = absurd (lost_there (Tok Operator IdentifierName (vars w)) x (undeclaring n w) f)

-- ---- an expression

pub whole_value : {v : Surroundings} {x y : Place} {t : Tree} → NoDeclaring x → Whole so_far v false ForInit x t y → Whole so_far v false (Expr 0) x t y
whole_value {y = y} {t = t} n w = record { reads = to_whole (as_value n (begin_of t w.reads)) w.reads; ends_there = sym (init_ends y) ∙ w.ends_there }

only_init : {v : Surroundings} {x y : Place} {t : Tree} → NoDeclaring x → Only so_far v (Part (Expr 0)) x (one t) y → Only so_far v (Part ForInit) x (one t) y
only_init {v} {x} {y} {t} n o = record { past = tree (record { reads = to_init (at_whole t (whole_of o.past).reads) (whole_of o.past).reads; ends_there = init_ends y ∙ (whole_of o.past).ends_there }); alone = at }
  where
    at : (h : Given) (z : Place) → Past (Whole so_far) v (Part ForInit) x h z → (one t ≡ h) × (y ≡ z)
    at h z (tree {t = u} w) = o.alone (one u) z (tree (whole_value n w))

-- no `;` stands where an expression does
unmarked : {v : Surroundings} {x y : Place} {t : Tree} {o : Fault} → Staged v false (Expr 0) x t y → NoRow so_far v marked_end (forth (Unless []) x) o
unmarked {v} {x} {y} {t} {o = o} r = record { no = at }
  where
    at : (us : Forest) (z : Place) → Walk (Whole so_far) (steady v) marked_end (forth (Unless []) x) us z → Shallow o (deepest us) → ⊥
    at us z (next (sign e f) w) s = shut_reading refl (closes {x = x} semicolon (subst (λ p. IsTrue (is_found (forth (pun ";") p))) (unless_none x (start_found of_so_far r)) (found_at e f))) r.reads

pub value_head : {v : Surroundings} {x y : Place} {t : Tree} → NoDeclaring x → Only so_far v (Part (Expr 0)) x (one t) y → opens_whole t ≡ false → IsHead v x t y
value_head n o h =
    let i = only_init n o in
    let r = (whole_of o.past).reads in
    record { front = as_front (turn_present refl i refl (end_found of_so_far r) (unmarked r)); closed = sym (whole_opened r) ∙ h }

pub no_value_head : {v : Surroundings} {x : Place} {e : Fault} → NoDeclaring x → Barred so_far v (Part (Expr 0)) x e → NoHead v x e
no_value_head n b = record { no = λ t y w f c s. b.no (one t) y (tree (whole_value n w)) s }

abbrev pub tree_of : Given → Tree
tree_of nothing = list none
tree_of (one t) = t

pub open_head : {v : Surroundings} {x y : Place} {t : Tree} {e : Fault} → NoDeclaring x → Only so_far v (Part (Expr 0)) x (one t) y → opens_whole t ≡ true → NoHead v x e
open_head {t = t} n o h = record {
  no = λ u z w f c s. clash _ (sym (whole_opened (whole_of o.past).reads) ∙ h) (ap (λ g. open_in (tree_of g)) (o.alone (one u) z (tree (whole_value n w))).0 ∙ c);
}

-- ---- a declaration

list_found : {v : Surroundings} {x y : Place} {g : Given} → Past (Whole so_far) v (Many NoTrailing Declarators) x g y → IsTrue (is_found y)
list_found (many n all) = all_found n all
  where
    all_found : {v : Surroundings} {x y : Place} {ts : Forest} → enough NoTrailing ts ≡ true → Items (Whole so_far) v NoTrailing Declarators x ts y → IsTrue (is_found y)
    all_found n (nil f) = f
    all_found n (last r e f) = f
    all_found n (more m r e all) = all_found refl all

-- it was read, as a node
declared_whole : {v : Surroundings} {x x1 y : Place} {t : Tree} (w : DeclareWord) → Moves (Tok Operator IdentifierName (vars w)) x x1 → IsDeclared v w x1 t y → Whole so_far v false ForInit x t y
declared_whole {v} {x} {x1} {y} {t} w m d = subst (λ u. Whole so_far v false ForInit x u y) (sym d.is) (record {
  reads = of_so_far.to_node (statement (ForDeclaration w)) refl (record { walk = loosen walk; keeps = d.keeps });
  ends_there = init_ends y ∙ d.declares.ended;
})
  where
    walk : Walk (Whole so_far) (around v (part d.all none)) (row_so_far (statement (ForDeclaration w))) x (part d.all none) y
    walk = next (sign (sym m.is) m.found) (next d.declares.stands (done (list_found d.declares.stands)))

-- its row, and the `;` behind it
record Marked (v : Surroundings) (w : DeclareWord) (x : Place) (ts us : Forest) (z : Place) : Type 0 where
  all : Tree
  is : ts ≡ part all none
  walk : Walk (Whole so_far) (steady v) marked_row x (part all us) z

row_marked : {v : Surroundings} {p q r x1 z : Place} {ts us : Forest} (w : DeclareWord) → x1 ≡ forth (Tok Operator IdentifierName (vars w)) p → Walk (Whole so_far) (around v ts) (row_so_far (statement (ForDeclaration w))) p ts q → q ≡ r → Walk (Whole so_far) (steady v) marked_end r us z → Marked v w x1 ts us z
row_marked {v} {z = z} {us = us} w m (next (sign e f) (next {y = p} (many {ts = ds} n all) (done g))) same rest = record {
  all = list ds;
  is = refl;
  walk = next (many n (subst (λ a. Items (Whole so_far) v NoTrailing Declarators a ds p) (sym (m ∙ e)) all)) (subst (λ a. Walk (Whole so_far) (steady v) marked_end a us z) (sym same) rest);
}

node_marked : {v : Surroundings} {p q r x1 z : Place} {ts us : Forest} (w : DeclareWord) → x1 ≡ forth (Tok Operator IdentifierName (vars w)) p → Whole so_far v false ForInit p (node (statement (ForDeclaration w)) ts) q → q ≡ r → Walk (Whole so_far) (steady v) marked_end r us z → Marked v w x1 ts us z
node_marked w m n same rest = row_marked w m (whole_walk of_so_far ForInit (row_so_far (statement (ForDeclaration w))) refl n.ends_there (of_so_far.from_node (statement (ForDeclaration w)) n.reads).walk) same rest

-- what stands where the word does
record AtWord (v : Surroundings) (w : DeclareWord) (x : Place) (t : Tree) (y : Place) : Type 0 where
  parts : Forest
  is : t ≡ node (statement (ForDeclaration w)) parts
  whole : Whole so_far v false ForInit x (node (statement (ForDeclaration w)) parts) y

begin_word : {v : Surroundings} {x y : Place} {t : Tree} (w : code.DeclareWord) → IsTrue (is_found (forth (declare_sign w) x)) → Begin x t → Whole so_far v false ForInit x t y → AtWord v (word_of w) x t y
begin_word w f (of_value k) n = absurd (word_value w f k n.reads)
begin_word {v} {x} {y} w f (of_declaration u ts g) n =
    let e = same_word u (word_of w) x g (subst (λ s. IsTrue (is_found (forth s x))) (declare_is w) f) in
    record { parts = ts; is = ap (λ j. node (statement (ForDeclaration j)) ts) e; whole = subst (λ j. Whole so_far v false ForInit x (node (statement (ForDeclaration j)) ts) y) e n }

at_word : {v : Surroundings} {x y : Place} {t : Tree} (w : code.DeclareWord) → IsTrue (is_found (forth (declare_sign w) x)) → Whole so_far v false ForInit x t y → AtWord v (word_of w) x t y
at_word {t = t} w f n = begin_word w f (begin_of t n.reads) n

word_moves : {x x1 : Place} (w : code.DeclareWord) → Moves (declare_sign w) x x1 → Moves (Tok Operator IdentifierName (vars (word_of w))) x x1
word_moves {x} {x1} w m = subst (λ s. Moves s x x1) (declare_is w) m

pub declared_head : {v : Surroundings} {x x1 y : Place} {t : Tree} (w : code.DeclareWord) → Moves (declare_sign w) x x1 → IsDeclared v (word_of w) x1 t y → IsHead v x t y
declared_head {v} {x} {x1} {y} {t} w m d = record { front = record { to = to; from = from }; closed = d.closed }
  where
    there : IsTrue (is_found (forth (declare_sign w) x))
    there = found_at (sym m.is) m.found

    whole : Whole so_far v false ForInit x t y
    whole = declared_whole (word_of w) (word_moves w m) d

    to : (us : Forest) (z : Place) → Walk (Whole so_far) (steady v) marked_end y us z → Walk (Whole so_far) (steady v) initial_row x (part (list (part t none)) us) z
    to us z rest = next (present refl whole refl (end_found of_so_far whole.reads)) rest

    behind : {q : Place} (u : Tree) → AtWord v (word_of w) x u q → (r z : Place) (us : Forest) → q ≡ r → Walk (Whole so_far) (steady v) marked_end r us z → Rest v marked_end y (list (part t none)) (part (list (part u none)) us) z
    behind u a r z us same rest =
        let k = node_marked (word_of w) (word_moves w m).is a.whole same rest in
        let f = d.declares.marked.from (part k.all us) z k.walk in
        record {
          parts = f.parts;
          is = (λ i. part (list (part (d.is i) none)) f.parts)
              ∙ ((λ i. part (list (part (node (statement (ForDeclaration (word_of w))) (part (head_of (f.is i)) none)) none)) (rest_of (f.is i)))
              ∙ ((λ i. part (list (part (node (statement (ForDeclaration (word_of w))) (sym k.is i)) none)) us) ∙ (λ i. part (list (part (sym a.is i) none)) us)));
          walk = f.walk;
        }

    from : (us : Forest) (z : Place) → Walk (Whole so_far) (steady v) initial_row x us z → Rest v marked_end y (list (part t none)) us z
    from us z (next (absent e f) (next (sign g h) rest)) =
        absurd (never_both Punctuator IdentifierName (codes ";") _ x refl (subst (λ p. IsTrue (is_found (forth (pun ";") p))) (sym e ∙ unless_none x (found_first (declare_sign w ∷ []) x there)) (found_at g h)) there)
    from us z (next {ts = vs} (present {y = p} {z = q} {w = r} {t = u} a n b f) rest) =
        behind u (at_word w there (subst (λ s. Whole so_far v false ForInit s u q) (sym a) n)) r z vs b rest

pub any_closed : {v : Surroundings} {x y : Place} (w : DeclareWord) (ts : Forest) → Declares v x (list ts) y → any_opens ts ≡ false → open_in (node (statement (ForDeclaration w)) (part (list ts) none)) ≡ false
any_closed w ts d h = by d.stands
  where
    by : {v : Surroundings} {x y : Place} → Past (Whole so_far) v (Many NoTrailing Declarators) x (one (list ts)) y → (any_open ts || false) ≡ false
    by (many n all) = ap (λ b. b || false) (sym (items_opened all) ∙ h)

pub not_headed : {v : Surroundings} {x : Place} {w : DeclareWord} {e : Fault} → NotDeclared v w x e → NotHeaded v w x e
not_headed n = record { no = λ ts y walk k c s. n.marked.no ts y walk k s }

or_left_false : (a b : Bool) → (a || b) ≡ false → a ≡ false
or_left_false true b h = cc
or_left_false false b h = refl

pub open_headed : {v : Surroundings} {x y : Place} {w : DeclareWord} {o : Fault} (ts : Forest) → Declares v x (list ts) y → any_opens ts ≡ true → NotHeaded v w x o
open_headed {v} {x} {y} {w} {o = o} ts d h = record { no = at }
  where
    at : (us : Forest) (z : Place) → Walk (Whole so_far) (steady v) marked_row x us z → so_far.keeps (statement (ForDeclaration w)) v us ≡ true → open_in (node (statement (ForDeclaration w)) us) ≡ false → Shallow o (deepest us) → ⊥
    at us z (next {ts = vs} (many {ts = ds} n all) rest) k c s =
        let f = d.marked.from (part (list ds) vs) z (next (many n all) rest) in
        let e : ts ≡ ds = λ i. items_of (head_of (f.is i)) in
        clash _ (sym (items_opened all) ∙ (ap any_opens (sym e) ∙ h)) (or_left_false (any_open ds) _ c)

pub no_declared_head : {v : Surroundings} {x x1 : Place} {e : Fault} (w : code.DeclareWord) → Moves (declare_sign w) x x1 → NotHeaded v (word_of w) x1 e → NoHead v x e
no_declared_head {v} {x} {x1} {e = e} w m n = record { no = at }
  where
    at : (t : Tree) (y : Place) → Whole so_far v false ForInit x t y → IsTrue (is_found (forth (pun ";") y)) → open_in t ≡ false → Shallow e (part_depth t) → ⊥
    at t y r f c s =
        let a = at_word w (found_at (sym m.is) m.found) r in
        let k = node_marked (word_of w) (word_moves w m).is a.whole refl (next (sign refl f) (done f)) in
        let p = of_so_far.from_node (statement (ForDeclaration (word_of w))) a.whole.reads in
        n.no (part k.all none) _ k.walk (subst (λ ts. so_far.keeps (statement (ForDeclaration (word_of w))) v ts ≡ true) k.is p.keeps) (ap (λ ts. open_in (node (statement (ForDeclaration (word_of w))) ts)) (sym k.is) ∙ (ap open_in (sym a.is) ∙ c))
        (subst (λ ts. Shallow e (deepest ts)) k.is (node_shallow e false refl of_so_far a.whole.reads (subst (λ u. Shallow e (part_depth u)) a.is s)))

-- ---- with the `;`

pub no_initial : {v : Surroundings} {x y : Place} → Moves (pun ";") x y → OnlyRow so_far v initial_row x (part (list none) none) y
no_initial {v} {x} {y} m = record { walk = next (absent (unless_none x here) here) (next (sign (sym m.is) m.found) (done m.found)); alone = at }
  where
    there : IsTrue (is_found (forth (pun ";") x))
    there = found_at (sym m.is) m.found

    here : IsTrue (is_found x)
    here = found_first (pun ";" ∷ []) x there

    none_begins : {t : Tree} {z : Place} → Begin x t → Whole so_far v false ForInit x t z → ⊥
    none_begins (of_value k) r = shut_reading refl (closes {x = x} semicolon there) (to_whole k r.reads).reads
    none_begins (of_declaration w ts f) r = never_both Punctuator IdentifierName (codes ";") (vars w) x refl there f

    at : (us : Forest) (z : Place) → Walk (Whole so_far) (steady v) initial_row x us z → (part (list none) none ≡ us) × (y ≡ z)
    at us z (next (absent e f) (next (sign g h) (done k))) = (refl, m.is ∙ (ap (forth (pun ";")) (sym (unless_none x here) ∙ e) ∙ g))
    at us z (next (present {z = q} {t = t} a n b f) rest) = let r = subst (λ s. Whole so_far v false ForInit s t q) (sym a) n in absurd (none_begins (begin_of t r.reads) r)

pub some_initial : {v : Surroundings} {x y z : Place} {t : Tree} → IsHead v x t y → Only so_far v (Fixed (pun ";")) y nothing z → OnlyRow so_far v initial_row x (part (list (part t none)) none) z
some_initial h o = turn_only (as_turn h.front) (then' o (end (sign_there o.past)))

pub initial_closed : (t : Tree) → open_in t ≡ false → open_in (list (part t none)) ≡ false
initial_closed t h = ap (λ b. b || false) h

-- no `;` comes next, and what does come is none
pub none_initial : {v : Surroundings} {x : Place} {o : Fault} → Stuck (pun ";") x → NoHead v x o → NoInitial v x o
none_initial {v} {x} {o = o} k n = record { no = at }
  where
    at : (us : Forest) (z : Place) → Walk (Whole so_far) (steady v) initial_row x us z → first_opens us ≡ false → Shallow o (deepest us) → ⊥
    at us z (next (absent e f) (next (sign g h) rest)) c s' = lost_there (pun ";") x k.is (subst (λ p. IsTrue (is_found (forth (pun ";") p))) (sym e ∙ unless_none x (found_first (Unless [] ∷ []) x (found_at e f))) (found_at g h))
    at us z (next {ts = us'} (present {z = q} {t = t} a s b f) (next (sign g h) rest)) c s' =
        n.no t q (subst (λ p. Whole so_far v false ForInit p t q) (sym a) s) (subst (λ p. IsTrue (is_found (forth (pun ";") p))) (sym b) (found_at g h)) (or_left_false (open_in t) false c) (shallow_head o t none (shallow_first o (one (list (part t none))) us' s'))

pub unended_initial : {v : Surroundings} {x y : Place} {t : Tree} {e : Fault} → IsHead v x t y → Barred so_far v (Fixed (pun ";")) y e → NoInitial v x e
unended_initial h b = let n = turn_none (as_turn h.front) (bar b) in record { no = λ us z w c s. n.no us z w s }

-- ---- the other two parts

shut_by : (f : Mark) {x : Place} → is_closer f ≡ true → IsTrue (is_found (forth (sign_of f) x)) → Shut x
shut_by fixed.Semicolon h g = closes semicolon g
shut_by fixed.Close h g = closes round g
shut_by _ h g = cc

pub no_clause : {v : Surroundings} {x y : Place} (f : Mark) → is_closer f ≡ true → Moves (sign_of f) x y → OnlyRow so_far v (clause_row f) x (part (list none) none) y
no_clause {x = x} f h m =
    let there = found_at (sym m.is) m.found in
    let here = found_first (sign_of f ∷ []) x there in
    turn_only (turn_absent (unless_none x here) here (shut_out of_so_far refl (shut_by f h there))) (then' (only_sign m) (end m.found))

some_turn : {v : Surroundings} {x y : Place} {t : Tree} (f : Mark) → Stuck (sign_of f) x → Only so_far v (Part (Expr 0)) x (one t) y → Turn so_far v (clause_row f) (piece [] (Fixed (sign_of f)) ∷ []) x y (part (list (part t none)))
some_turn {v} {x} f k o =
    let r = (whole_of o.past).reads in
    turn_present refl o refl (end_found of_so_far r) (subst (λ p. NoRow so_far v (piece [] (Fixed (sign_of f)) ∷ []) p Unread) (sym (unless_none x (start_found of_so_far r))) (bar (no_sign k)))

pub some_clause : {v : Surroundings} {x x' y z : Place} {t : Tree} (f : Mark) → Missed (sign_of f) x x' → Only so_far v (Part (Expr 0)) x' (one t) y → Only so_far v (Fixed (sign_of f)) y nothing z → OnlyRow so_far v (clause_row f) x (part (list (part t none)) none) z
some_clause {v} {y = y} {t = t} f m o e = turn_only (some_turn f m.stuck (subst (λ p. Only so_far v (Part (Expr 0)) p (one t) y) (sym m.same) o)) (then' e (end (sign_there e.past)))

pub none_clause : {v : Surroundings} {x x' : Place} {o : Fault} (f : Mark) → Missed (sign_of f) x x' → Barred so_far v (Part (Expr 0)) x' o → NoRow so_far v (clause_row f) x o
none_clause {v} {x} {x'} {o = o} f m b = record { no = at }
  where
    at : (us : Forest) (z : Place) → Walk (Whole so_far) (steady v) (clause_row f) x us z → Shallow o (deepest us) → ⊥
    at us z (next (absent e g) (next (sign d h) rest)) s' = lost_there (sign_of f) x m.stuck.is (subst (λ p. IsTrue (is_found (forth (sign_of f) p))) (sym e ∙ unless_none x (found_first (Unless [] ∷ []) x (found_at e g))) (found_at d h))
    at us z (next {ts = us'} (present {t = t} a s d g) rest) s' = (subst (λ p. Barred so_far v (Part (Expr 0)) p o) (sym m.same ∙ a) b).no (one t) _ (tree s) (shallow_head o t none (shallow_first o (one (list (part t none))) us' s'))

pub unended_clause : {v : Surroundings} {x x' y : Place} {t : Tree} {e : Fault} (f : Mark) → Missed (sign_of f) x x' → Only so_far v (Part (Expr 0)) x' (one t) y → Barred so_far v (Fixed (sign_of f)) y e → NoRow so_far v (clause_row f) x e
unended_clause {v} {y = y} {t = t} f m o b = turn_none (some_turn f m.stuck (subst (λ p. Only so_far v (Part (Expr 0)) p (one t) y) (sym m.same) o)) (bar b)
