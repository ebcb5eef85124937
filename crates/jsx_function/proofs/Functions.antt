-- Functions, behind their words: a name or none, parameters and a body (ECMA-262 sections 15.1 and 15.2).
use Rattle.std.proofs.Common.{◌≡◌, Bool, List, [], ◌∷◌, ◌++◌, true, false, cond, not, nat_eq, refl, sym, ◌∙◌, ap, subst, Option, Some, None}
use Rattle.std.specs.Prelude.{IsTrue, codes, ◌&&◌, ◌||◌}
use Rattle.jsx_base.specs.Token.{IdentifierName}
use Rattle.jsx_base.specs.declared.place.Span.{Span}
use Rattle.jsx_tree.specs.declared.text.Ident.{Ident}
use Rattle.jsx_tree.specs.Signs.{Unless}
use Rattle.jsx_tree.specs.Kinds.{FunctionExpr, function, Tree, leaf, node, list, Forest, none, part}
use Rattle.jsx_tree.specs.Nonterminals.{BindingIdent}
use Rattle.jsx_tree.specs.Grammar.{InFunction, Fixed, Optional, Part, Within, pun}
use Rattle.jsx_tree.specs.Reading.{Place, Lost, At, forth}
use Rattle.jsx_tree.specs.StaticRules.{Surroundings, all_of, enter, enters, has_plain_params, is_strict_body, is_word, rule, stands}
use Rattle.jsx_tree.specs.Spans.{Told, Tales, spans, tale, tells}
use Rattle.jsx_tree.specs.Told.{told_list, told_name}
use Rattle.jsx_tree.specs.View.{forest, optional_name}
use Rattle.jsx_tree.specs.Walk.{is_found, nothing, one, Piece, piece, Past, sign, tree, absent, present, Walk, done, next, steady, tail}
use Rattle.jsx_tree.specs.Language.{Whole}
use Rattle.jsx_tree.specs.Answers.{Only, Barred, OnlyRow, NoRow, BuiltNode, NoNode}
use Rattle.jsx_tree.specs.Faults.{Fault, Unread, Shallow, part_depth, deepest, given_depth}
use Rattle.jsx_token.specs.Here.{Here}
use Rattle.jsx_token.specs.Growths.{opening_sign}
use Rattle.jsx_token.specs.Marks.{row_so_far}
use Rattle.jsx_token.specs.Places.{Takes, next_of, end_of}
use Rattle.jsx_tree.proofs.Tokens.{and_both, and_left}
use Rattle.jsx_tree.proofs.Apart.{clash}
use Rattle.jsx_tree.proofs.Rows.Bridge.{found_first, found_at}
use Rattle.jsx_tree.proofs.Rows.Laws.{end_found}
use Rattle.jsx_tree.proofs.Rows.Optionals.{turn_absent, turn_present}
use Rattle.jsx_tree.proofs.Rows.Steps.{bar, no_sign, on, on_row, then', then_row}
use Rattle.jsx_tree.proofs.Rows.Turns.{Turn, whole_of}
use Rattle.jsx_tree.proofs.Depth.Shallow.{shallow_first, shallow_rest, shallow_head, shallow_alone, shallow_tail}
use Rattle.jsx_operand.specs.SoFar.{Staged, so_far}
use Rattle.jsx_operand.specs.declared.body.Body.{Body}
use Rattle.jsx_operand.specs.Bodies.{body_row, body_symbols, view_body}
use Rattle.jsx_operand.specs.Spans.{Spans, IsPlaced, IsPlacedFront, IsPlacedRow}
use Rattle.jsx_operand.proofs.Entering.{enters_deeper, row_out, walk_in}
use Rattle.jsx_operand.proofs.Homes.{IsName, bindings, taken_by, home_of, no_list}
use Rattle.jsx_operand.proofs.Keys.{mark_none}
use Rattle.jsx_operand.proofs.OfSoFar.{of_so_far}
use Rattle.jsx_operand.proofs.Placing.{node_is, row_absent, row_present, row_quiet, row_sign}
use Rattle.jsx_function.specs.Functions.{IsNamed, NoCode, NoNamed, NoOwnCode, code_row, code_symbols, name_symbols, named_row, named_symbols, own_row, params_row, params_symbols}

-- ---- what stands behind the name, in the surroundings of the function

abbrev behind_open : List Piece
behind_open = params_row ++ piece [] (Fixed (pun "{")) ∷ body_row

pub own_only : {w : Surroundings} {x0 x1 x2 x3 x4 : Place} {ps b : Tree} → Only so_far w (Fixed (pun "(")) x0 nothing x1 → OnlyRow so_far w params_row x1 (part ps none) x2 → Only so_far w (Fixed (pun "{")) x2 nothing x3 → OnlyRow so_far w body_row x3 (part b none) x4
    → OnlyRow so_far w own_row x0 (part ps (part b none)) x4
own_only bracket params brace body = then' bracket (then_row of_so_far params_row params (then' brace body))

no_own : {w : Surroundings} {x : Place} {e : Fault} → NoRow so_far w own_row x e → NoOwnCode w x e
no_own n = record { no = λ ts y walk h s. n.no ts y walk s }

pub no_bracket : {w : Surroundings} {x : Place} {e : Fault} → Barred so_far w (Fixed (pun "(")) x e → NoOwnCode w x e
no_bracket b = no_own (bar b)

behind_no_params : {w : Surroundings} {y z : Place} {us : Forest} {o : Fault} → NoRow so_far w params_row y o → Walk (Whole so_far) (steady w) behind_open y us z → Shallow o (deepest us) → ⊥
behind_no_params {o = o} n (next {g = g'} {ts = vs} q (next (sign e f) r)) s = n.no _ _ (next q (next (sign e f) (done f))) (shallow_alone o g' (shallow_first o g' vs s))

pub no_params : {w : Surroundings} {x y : Place} {e : Fault} → Only so_far w (Fixed (pun "(")) x nothing y → NoRow so_far w params_row y e → NoOwnCode w x e
no_params {w} {y = y} {e = e} bracket n = no_own (on bracket unread)
  where
    unread : NoRow so_far w behind_open y e
    unread = record { no = λ us z walk s. behind_no_params n walk s }

pub no_brace : {w : Surroundings} {x y z : Place} {ts : Forest} {e : Fault} → Only so_far w (Fixed (pun "(")) x nothing y → OnlyRow so_far w params_row y ts z → Barred so_far w (Fixed (pun "{")) z e → NoOwnCode w x e
no_brace bracket params b = no_own (on bracket (on_row of_so_far params_row params (bar b)))

pub no_body : {w : Surroundings} {x y z a : Place} {ts : Forest} {e : Fault} → Only so_far w (Fixed (pun "(")) x nothing y → OnlyRow so_far w params_row y ts z → Only so_far w (Fixed (pun "{")) z nothing a → NoRow so_far w body_row a e → NoOwnCode w x e
no_body bracket params brace n = no_own (on bracket (on_row of_so_far params_row params (on brace n)))

-- a row that breaks the rule on parameters
pub unplain : {w : Surroundings} {x y : Place} {ts : Forest} {e : Fault} → OnlyRow so_far w own_row x ts y → has_plain_params ts ≡ false → NoOwnCode w x e
unplain o h = record { no = λ us z walk k s. clash _ k (ap has_plain_params (sym (o.alone us z walk).0) ∙ h) }

-- ---- and in those outside

pub code_only : {v w : Surroundings} {x y : Place} {ts : Forest} → w ≡ enter none InFunction v → OnlyRow so_far w own_row x ts y → OnlyRow so_far v code_row x ts y
code_only {v} {w} {x} {y} {ts} e o = row_out (InFunction ∷ []) v own_row (subst (λ u. OnlyRow so_far u own_row x ts y) e o)

pub no_code : {v w : Surroundings} {x : Place} {o : Fault} → w ≡ enter none InFunction v → NoOwnCode w x o → NoCode v x o
no_code {v} {w} {x} {o = o} e n = record { no = λ ts y walk h s. inner.no ts y (walk_in {V = steady v} {W = steady (enters none (InFunction ∷ []) v)} (InFunction ∷ []) (λ a. enters_deeper none a (InFunction ∷ []) v) own_row walk) h s }
  where
    inner : NoOwnCode (enter none InFunction v) x o
    inner = subst (λ u. NoOwnCode u x o) e n

-- ---- the rule on parameters

by_strict : (s w : Bool) → (nat_eq (cond s 1 0) 0 || (w && true)) ≡ (w || not s)
by_strict true true = refl
by_strict true false = refl
by_strict false true = refl
by_strict false false = refl

-- of parameters and a body that suit, or don't
pub plain_by : {w : Bool} (ps : Forest) (b : Body) {s t : Bool} → s ≡ all_of is_word ps → t ≡ (s || not (is_strict_body (view_body b))) → t ≡ w → has_plain_params (part (list ps) (part (view_body b) none)) ≡ w
plain_by ps b e f g = by_strict (is_strict_body (view_body b)) (all_of is_word ps) ∙ (ap (λ w. w || not (is_strict_body (view_body b))) (sym e) ∙ (sym f ∙ g))

-- with one more parameter
pub all_more : (f : Tree → Bool) (ts : List Tree) (t : Tree) {us : List Tree} → us ≡ ts ++ t ∷ [] → all_of f (forest us) ≡ (all_of f (forest ts) && f t)
all_more f ts t e = ap (λ us. all_of f (forest us)) e ∙ at ts
  where
    last : (b : Bool) → (b && true) ≡ (true && b)
    last true = refl
    last false = refl

    and_more : (a b c d : Bool) → d ≡ (b && c) → (a && d) ≡ ((a && b) && c)
    and_more true b c d e = e
    and_more false b c d e = refl

    at : (us : List Tree) → all_of f (forest (us ++ t ∷ [])) ≡ (all_of f (forest us) && f t)
    at [] = last (f t)
    at (u ∷ us) = and_more (f u) (all_of f (forest us)) (f t) _ (at us)

-- what stands behind the first part is no deeper
pub shallow_behind : (e : Fault) (t : Tree) (ts us : Forest) → part t ts ≡ us → Shallow e (deepest us) → Shallow e (deepest ts)
shallow_behind e t ts us is s = shallow_tail e t ts (subst (λ vs. Shallow e (deepest vs)) (sym is) s)

-- a name before them makes no matter
pub plain_named : (n : Option Ident) (ts : Forest) → has_plain_params (part (optional_name n) ts) ≡ has_plain_params ts
plain_named None ts = refl
plain_named (Some a) ts = refl

-- ---- a name, or none before the `(`

named_by : {v : Surroundings} {x y : Place} {t : Tree} → Turn so_far v named_row code_row x y (part t) → IsNamed v x t y
named_by t = record { to = t.to; from = λ us w walk. let r = t.from us w walk in record { parts = r.parts; is = r.is; walk = r.walk } }

unless_none : (x : Place) → IsTrue (is_found x) → forth (Unless []) x ≡ x
unless_none Lost f = refl
unless_none (At q e text) f = refl

lost_by : (x : Place) → is_found x ≡ false → x ≡ Lost
lost_by Lost e = refl
lost_by (At q e text) h = cc

-- no name stands before a mark
no_name_at : {v : Surroundings} {x : Place} {e : Fault} → IsTrue (is_found (forth (pun "(") x)) → Barred so_far v (Part BindingIdent) x e
no_name_at {v} {x} {e = e} f = record { no = λ g y p a. at p a }
  where
    marked : {y : Place} (t : Tree) → Staged v false BindingIdent x t y → Shallow e (part_depth t) → ⊥
    marked (leaf IdentifierName t) r h = mark_none IsName t (codes "(") x refl (found_at r.reads.scans r.reads.found) f
    marked (leaf _ t) r h = let bad = r.staged in cc
    marked (node k ts) r h = bindings.node k ts (taken_by r) (home_of r)
    marked (list ts) r h = no_list r

    at : {g : _} {y : Place} → Past (Whole so_far) v (Part BindingIdent) x g y → Shallow e (given_depth g) → ⊥
    at (tree {t = t} q) s = marked t q.reads s

pub unnamed : {v : Surroundings} {x x' : Place} → x' ≡ x → is_found (forth (pun "(") x) ≡ true → IsNamed v x (list none) x'
unnamed {v} {x} {x'} e f =
    let there : IsTrue (is_found x) = found_first (pun "(" ∷ []) x f in
    subst (λ p. IsNamed v x (list none) p) (sym e) (named_by (turn_absent (unless_none x there) there (no_name_at f)))

no_bracket_row : {v : Surroundings} {x : Place} {e : Fault} → is_found (forth (pun "(") x) ≡ false → NoRow so_far v code_row x e
no_bracket_row {x = x} n = bar (no_sign (record { is = lost_by (forth (pun "(") x) n }))

named_there : {v : Surroundings} {x y : Place} {t : Tree} → is_found (forth (pun "(") x) ≡ false → Only so_far v (Part BindingIdent) x (one t) y → IsNamed v x (list (part t none)) y
named_there {v} {x} n o =
    let q = whole_of o.past in
    named_by (turn_present refl o refl (end_found of_so_far q.reads) (bar (no_sign (record { is = lost_by _ (unless_lost n) }))))
  where
    unless_lost : is_found (forth (pun "(") x) ≡ false → is_found (forth (pun "(") (forth (Unless []) x)) ≡ false
    unless_lost h = ap (λ p. is_found (forth (pun "(") p)) (any x) ∙ h
      where
        any : (p : Place) → forth (Unless []) p ≡ p
        any Lost = refl
        any (At q e text) = refl

pub named : {v : Surroundings} {x x' y : Place} {t : Tree} → x' ≡ x → is_found (forth (pun "(") x) ≡ false → Only so_far v (Part BindingIdent) x' (one t) y → IsNamed v x (list (part t none)) y
named {v} {x} {x'} {y} {t} e n o = named_there n (subst (λ p. Only so_far v (Part BindingIdent) p (one t) y) e o)

pub not_named : {v : Surroundings} {x x' : Place} {o : Fault} → x' ≡ x → is_found (forth (pun "(") x) ≡ false → Barred so_far v (Part BindingIdent) x' o → NoRow so_far v named_row x o
not_named {v} {x} {o = o} e n b = record { no = at }
  where
    here : Barred so_far v (Part BindingIdent) x o
    here = subst (λ w. Barred so_far v (Part BindingIdent) w o) e b

    at : (us : Forest) (w : Place) → Walk (Whole so_far) (steady v) named_row x us w → Shallow o (deepest us) → ⊥
    at us w (next {ts = vs} (absent f g) walk) s = (no_bracket_row n).no vs w (subst (λ p. Walk (Whole so_far) (steady v) code_row p vs w) (sym f ∙ unless_none x (found_first (Unless [] ∷ []) x (found_at f g))) walk) (shallow_rest o (one (list none)) vs s)
    at us w (next {ts = us'} (present {z = z} {t = t} d q f g) walk) s = here.no (one t) z (tree (subst (λ p. Whole so_far v false BindingIdent p t z) (sym d) q)) (shallow_head o t none (shallow_first o (one (list (part t none))) us' s))

-- ---- with what stands behind it

pub named_only : {v : Surroundings} {x y z : Place} {t : Tree} {ts : Forest} → IsNamed v x t y → OnlyRow so_far v code_row y ts z → OnlyRow so_far v named_row x (part t ts) z
named_only {v} {x} {z = z} {t} {ts} n o = record { walk = n.to ts z o.walk; alone = at }
  where
    at : (us : Forest) (w : Place) → Walk (Whole so_far) (steady v) named_row x us w → (part t ts ≡ us) × (z ≡ w)
    at us w walk = let r = n.from us w walk in let s = o.alone r.parts w r.walk in (ap (part t) s.0 ∙ r.is, s.1)

pub no_named : {v : Surroundings} {x : Place} {e : Fault} → NoRow so_far v named_row x e → NoNamed v x e
no_named n = record { no = λ ts y w h s. n.no ts y w s }

pub no_named_code : {v : Surroundings} {x y : Place} {e : Fault} (n : Option Ident) → IsNamed v x (optional_name n) y → NoCode v y e → NoNamed v x e
no_named_code {e = e} n i c = record { no = λ us w walk h s. let r = i.from us w walk in c.no r.parts w r.walk (sym (plain_named n r.parts) ∙ (ap has_plain_params r.is ∙ h)) (shallow_behind e (optional_name n) r.parts us r.is s) }

-- ---- a function behind its word

pub function_built : {v : Surroundings} {x y : Place} {t : Tree} {ts : Forest} → OnlyRow so_far v named_row x ts y → has_plain_params ts ≡ true → t ≡ node (function FunctionExpr) ts → BuiltNode so_far v (tail (row_so_far (function FunctionExpr))) (function FunctionExpr) t x y
function_built o h e = record { parts = _; is = e; row = o; keeps = and_both _ _ h refl }

pub no_function : {v : Surroundings} {x : Place} {e : Fault} → NoNamed v x e → NoNode so_far v (tail (row_so_far (function FunctionExpr))) (function FunctionExpr) x e
no_function {v} n = record { no = λ ts y w k s. n.no ts y w (and_left (rule (function FunctionExpr) ts) (stands (function FunctionExpr) ts v) k) s }

-- ---- places

pub name_absent_placed : {x y : Here} → y ≡ x → IsPlacedFront name_symbols (told_name None) (list none) x y
name_absent_placed {x} e = subst (λ h. IsPlacedFront name_symbols (told_name None) (list none) x h) (sym e) (record { on = λ ps ds ts z r. row_absent r })

pub name_placed : {d : Told} {t : Tree} {x x' y : Here} → x' ≡ x → IsPlaced d t x' y → IsPlacedFront name_symbols (told_list (d ∷ [])) (list (part t none)) x y
name_placed {d} {t} {x} {x'} {y} e l = record { on = λ ps ds ts z r. row_present refl refl (subst (λ h. IsPlaced d t h y) e l) r }

pub code_placed : {d : Told} {t : Tree} {ds : Tales} {ts : Forest} {x0 x1 x2 x3 x4 : Here} → Takes (pun "(") x0 x1 → IsPlacedFront params_symbols d t x1 x2 → Takes (pun "{") x2 x3 → IsPlacedRow body_symbols ds ts x3 x4 → IsPlacedRow code_symbols (tale d ds) (part t ts) x0 x4
code_placed bracket params brace body = row_sign bracket (params.on _ _ _ _ (row_quiet (λ q. refl) (row_sign brace body)))

-- what stands in a function stands behind its name
pub named_placed : {ds : Tales} {t : Tree} {ts : Forest} {x y : Here} → IsPlacedRow named_symbols ds (part t ts) x y → IsPlacedRow (Optional [] BindingIdent [] [] ∷ Within InFunction ∷ code_symbols) ds (part t ts) x y
named_placed r = record { same = r.same; leads = r.leads; told = r.told }

pub function_row : {at : Option Span} {ds : Tales} {t : Tree} {ts : Forest} {w x y : Here} → Takes (opening_sign (function FunctionExpr)) w x → IsPlacedRow named_symbols ds (part t ts) x y → Spans at (next_of w) (end_of y) → IsPlaced (tells (spans at ∷ []) ds) (node (function FunctionExpr) (part t ts)) w y
function_row m r s = node_is (λ c e ps. refl) (λ ms text. refl) s (row_quiet (λ q. refl) (row_sign m (row_quiet (λ q. refl) (named_placed r))))
