-- Getters and setters behind their keys, in what they make of their surroundings: `() { a }`, `(a) { b }` (ECMA-262 section 15.4).
use Rattle.std.proofs.Common.{◌≡◌, Bool, true, false, not, [], ◌∷◌, refl, sym, ◌∙◌, ap}
use Rattle.std.specs.Prelude.{IsTrue, ◌||◌}
use Rattle.jsx_base.specs.Token.{Punctuator, Elision}
use Rattle.jsx_tree.specs.Kinds.{Tree, leaf, node, list, Forest, none, part}
use Rattle.jsx_tree.specs.Nonterminals.{SetterParam}
use Rattle.jsx_tree.specs.Grammar.{Fixed, Part, pun}
use Rattle.jsx_tree.specs.Reading.{Place, forth}
use Rattle.jsx_tree.specs.StaticRules.{Surroundings, is_strict_body, is_word}
use Rattle.jsx_tree.specs.Spans.{Told, Tales, tale}
use Rattle.jsx_tree.specs.Walk.{is_found, Given, nothing, one, Past, sign, tree, Walk, next, steady, tail}
use Rattle.jsx_tree.specs.Language.{Whole}
use Rattle.jsx_tree.specs.Answers.{Only, Barred, OnlyRow, NoRow}
use Rattle.jsx_tree.specs.Faults.{Fault, Shallow, part_depth, deepest, given_depth}
use Rattle.jsx_tree.proofs.Apart.{clash}
use Rattle.jsx_tree.proofs.Rows.Bridge.{found_at}
use Rattle.jsx_tree.proofs.Rows.Stopping.{token_stops}
use Rattle.jsx_tree.proofs.Rows.Steps.{bar, on, then'}
use Rattle.jsx_tree.proofs.Depth.Shallow.{shallow_nothing}
use Rattle.jsx_token.specs.Here.{Here}
use Rattle.jsx_token.specs.Marks.{ends_so_far}
use Rattle.jsx_token.specs.Places.{Takes}
use Rattle.jsx_operand.specs.Bodies.{body_row, body_symbols, view_body}
use Rattle.jsx_operand.specs.SoFar.{Staged, so_far}
use Rattle.jsx_operand.specs.Spans.{IsPlaced, IsPlacedRow}
use Rattle.jsx_operand.specs.declared.body.Body.{Body}
use Rattle.jsx_operand.proofs.OfSoFar.{of_so_far}
use Rattle.jsx_operand.proofs.Patterns.{unresting}
use Rattle.jsx_operand.proofs.Placing.{row_part, row_quiet, row_sign}
use Rattle.jsx_function.specs.Elements.{is_hole}
use Rattle.jsx_function.specs.Methods.{NoSetter, OnlySetterParam, getter_row, getter_symbols, setter_row, setter_symbols, suits_setter}
use Rattle.jsx_function.specs.Patterns.{IsElement, NoElement}
use Rattle.jsx_function.proofs.Defaults.{AtDefault, pattern, valued, rest, hole, at_default}

-- ---- a getter

pub getter_own : {w : Surroundings} {x0 x1 x2 x3 x4 : Place} {ts : Forest} → Only so_far w (Fixed (pun "(")) x0 nothing x1 → Only so_far w (Fixed (pun ")")) x1 nothing x2 → Only so_far w (Fixed (pun "{")) x2 nothing x3 → OnlyRow so_far w body_row x3 ts x4 → OnlyRow so_far w getter_row x0 ts x4
getter_own bracket close brace body = then' bracket (then' close (then' brace body))

pub getter_row_placed : {ds : Tales} {ts : Forest} {x0 x1 x2 x3 x4 : Here} → Takes (pun "(") x0 x1 → Takes (pun ")") x1 x2 → Takes (pun "{") x2 x3 → IsPlacedRow body_symbols ds ts x3 x4 → IsPlacedRow getter_symbols ds ts x0 x4
getter_row_placed bracket close brace body = row_sign bracket (row_sign close (row_quiet (λ q. refl) (row_sign brace body)))

-- ---- the parameter of a setter

unholed : {v : Surroundings} {x y : Place} (t : Tree) → Staged v false SetterParam x t y → is_hole t ≡ false
unholed (leaf Elision t) r = let bad = r.staged in cc
unholed (leaf _ t) r = refl
unholed (node k ts) r = refl
unholed (list ts) r = refl

pub setter_element : {v : Surroundings} {x y : Place} {t : Tree} → IsElement v x t y → OnlySetterParam v x t y
setter_element o = let f = o.on SetterParam refl in record { reads = f.reads; alone = λ u z w. f.alone u z (unholed u w.reads) w }

-- no rest is at home there
pub no_setter_element : {v : Surroundings} {x : Place} {e : Fault} → NoElement v x e → Barred so_far v (Part SetterParam) x e
no_setter_element {v} {x} {e = e} n = record { no = at }
  where
    here : {u : Tree} {z : Place} → AtDefault v x z u → Whole so_far v false SetterParam x u z → Shallow e (part_depth u) → ⊥
    here {u} {z} (pattern r) w h = n.no SetterParam refl u z (unholed u w.reads) (unresting u r) w h
    here {u} {z} valued w h = n.no SetterParam refl u z refl refl w h
    here rest w h = let bad = w.reads.reads.is in cc
    here hole w h = let bad = w.reads.staged in cc

    at : (g : Given) (z : Place) → Past (Whole so_far) v (Part SetterParam) x g z → Shallow e (given_depth g) → ⊥
    at g z (tree {t = u} w) s = here (at_default SetterParam u refl w.reads) w s

-- before the `)` it has come to its end
param_ends : (y : Place) → IsTrue (is_found (forth (pun ")") y)) → ends_so_far SetterParam y ≡ true
param_ends y f = of_so_far.ends_there SetterParam y (token_stops SetterParam Punctuator 41 [] y refl f)

close_found : {v : Surroundings} {y z : Place} → Past (Whole so_far) v (Fixed (pun ")")) y nothing z → IsTrue (is_found (forth (pun ")") y))
close_found (sign e f) = found_at e f

param_only : {v : Surroundings} {x y z : Place} {t : Tree} → OnlySetterParam v x t y → Only so_far v (Fixed (pun ")")) y nothing z → Only so_far v (Part SetterParam) x (one t) y
param_only {v} {x} {y} {t = t} o close = record { past = tree (record { reads = o.reads; ends_there = param_ends y (close_found close.past) }); alone = at }
  where
    at : (g : Given) (p : Place) → Past (Whole so_far) v (Part SetterParam) x g p → (one t ≡ g) × (y ≡ p)
    at g p (tree {t = u} w) = let s = o.alone u p w in (ap one s.0, s.1)

unclosed : {v : Surroundings} {x y : Place} {t : Tree} {d : Fault} → OnlySetterParam v x t y → Barred so_far v (Fixed (pun ")")) y d → NoRow so_far v (tail setter_row) x d
unclosed {v} {x} {y} {d = d} o b = record { no = λ ts z w a. at w a }
  where
    at : {ts : Forest} {z : Place} → Walk (Whole so_far) (steady v) (tail setter_row) x ts z → Shallow d (deepest ts) → ⊥
    at (next (tree {t = u} w) (next {y = q} (sign e f) r)) h = let s = o.alone u _ w in b.no nothing q (sign (ap (forth (pun ")")) s.1 ∙ e) f) (shallow_nothing d)

-- ---- a setter

pub setter_own : {w : Surroundings} {x0 x1 x2 x3 x4 x5 : Place} {q : Tree} {ts : Forest} → Only so_far w (Fixed (pun "(")) x0 nothing x1 → OnlySetterParam w x1 q x2 → Only so_far w (Fixed (pun ")")) x2 nothing x3 → Only so_far w (Fixed (pun "{")) x3 nothing x4 → OnlyRow so_far w body_row x4 ts x5
    → OnlyRow so_far w setter_row x0 (part q ts) x5
setter_own bracket param close brace body = then' bracket (then' (param_only param close) (then' close (then' brace body)))

no_row : {w : Surroundings} {x : Place} {e : Fault} → NoRow so_far w setter_row x e → NoSetter w x e
no_row n = record { no = λ ts y walk h s. n.no ts y walk s }

pub setter_no_bracket : {w : Surroundings} {x : Place} {e : Fault} → Barred so_far w (Fixed (pun "(")) x e → NoSetter w x e
setter_no_bracket b = no_row (bar b)

pub setter_no_param : {w : Surroundings} {x y : Place} {e : Fault} → Only so_far w (Fixed (pun "(")) x nothing y → Barred so_far w (Part SetterParam) y e → NoSetter w x e
setter_no_param bracket b = no_row (on bracket (bar b))

pub setter_no_close : {w : Surroundings} {x y z : Place} {q : Tree} {e : Fault} → Only so_far w (Fixed (pun "(")) x nothing y → OnlySetterParam w y q z → Barred so_far w (Fixed (pun ")")) z e → NoSetter w x e
setter_no_close bracket param b = no_row (on bracket (unclosed param b))

pub setter_no_brace : {w : Surroundings} {x y z a : Place} {q : Tree} {e : Fault} → Only so_far w (Fixed (pun "(")) x nothing y → OnlySetterParam w y q z → Only so_far w (Fixed (pun ")")) z nothing a → Barred so_far w (Fixed (pun "{")) a e → NoSetter w x e
setter_no_brace bracket param close b = no_row (on bracket (on (param_only param close) (on close (bar b))))

pub setter_no_body : {w : Surroundings} {x y z a c : Place} {q : Tree} {e : Fault} → Only so_far w (Fixed (pun "(")) x nothing y → OnlySetterParam w y q z → Only so_far w (Fixed (pun ")")) z nothing a → Only so_far w (Fixed (pun "{")) a nothing c → NoRow so_far w body_row c e → NoSetter w x e
setter_no_body bracket param close brace n = no_row (on bracket (on (param_only param close) (on close (on brace n))))

-- one that breaks the rule on parameters
pub unsuited : {w : Surroundings} {x y : Place} {ts : Forest} {e : Fault} → OnlyRow so_far w setter_row x ts y → suits_setter ts ≡ false → NoSetter w x e
unsuited o h = record { no = λ us z walk k s. clash _ k (ap suits_setter (sym (o.alone us z walk).0) ∙ h) }

or_swap : (a b : Bool) → (a || b) ≡ (b || a)
or_swap true true = refl
or_swap true false = refl
or_swap false true = refl
or_swap false false = refl

pub suits_by : {w s t : Bool} (q : Tree) (b : Body) → s ≡ is_word q → t ≡ (s || not (is_strict_body (view_body b))) → t ≡ w → suits_setter (part q (part (view_body b) none)) ≡ w
suits_by q b e f g = or_swap (not (is_strict_body (view_body b))) (is_word q) ∙ (ap (λ w. w || not (is_strict_body (view_body b))) (sym e) ∙ (sym f ∙ g))

pub setter_row_placed : {d : Told} {q : Tree} {ds : Tales} {ts : Forest} {x0 x1 x2 x3 x4 x5 : Here} → Takes (pun "(") x0 x1 → IsPlaced d q x1 x2 → Takes (pun ")") x2 x3 → Takes (pun "{") x3 x4 → IsPlacedRow body_symbols ds ts x4 x5 → IsPlacedRow setter_symbols (tale d ds) (part q ts) x0 x5
setter_row_placed bracket param close brace body = row_sign bracket (row_part param (row_sign close (row_quiet (λ q. refl) (row_sign brace body))))
