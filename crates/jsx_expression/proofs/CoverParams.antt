-- Covers in parentheses as the parameters of an arrow function, up to the `)` (ECMA-262 section 15.3).
use Rattle.std.proofs.Common.{◌≡◌, true, false, not, List, [], ◌∷◌, ◌++◌, refl, sym, ◌∙◌, ap, subst}
use Rattle.std.specs.Prelude.{IsTrue, codes}
use Rattle.jsx_base.specs.Token.{IdentifierName, Punctuator}
use Rattle.jsx_tree.specs.Signs.{Sign, TrailingComma}
use Rattle.jsx_tree.specs.Kinds.{Binds, Assigns, RestPat, Index, Member, Parenthesized, SuperIndex, SuperMember, Kind, expression, function, Tree, leaf, node, list, Forest, none, part}
use Rattle.jsx_tree.specs.Nonterminals.{Param, PatElement}
use Rattle.jsx_tree.specs.Grammar.{Commas, pun}
use Rattle.jsx_tree.specs.Grows.{as_target}
use Rattle.jsx_tree.specs.Reading.{Place, Lost, forth}
use Rattle.jsx_tree.specs.StaticRules.{Surroundings, is_word}
use Rattle.jsx_tree.specs.Walk.{is_found, Items, nil, last, more, sign, many, Walk, done, next, steady}
use Rattle.jsx_tree.specs.Language.{Whole}
use Rattle.jsx_tree.specs.Answers.{Moves, Stuck}
use Rattle.jsx_tree.specs.Faults.{Fault, Shallow, part_depth}
use Rattle.jsx_tree.proofs.Apart.{never_both}
use Rattle.jsx_tree.proofs.Rows.Bridge.{found_first, found_at}
use Rattle.jsx_tree.proofs.Rows.Guarded.{whole_items_found}
use Rattle.jsx_tree.proofs.Rows.Laws.{end_found}
use Rattle.jsx_tree.proofs.Rows.Turns.{comma_trails, nothing_trails}
use Rattle.jsx_tree.specs.Form.{admits, fits_below}
use Rattle.jsx_tree.proofs.Tokens.{and_right}
use Rattle.jsx_operand.proofs.Reaching.{suits_depth}
use Rattle.jsx_operand.specs.Covers.{IsParameter}
use Rattle.jsx_operand.specs.Patterns.{is_compound, is_rest}
use Rattle.jsx_operand.specs.SoFar.{Staged, so_far}
use Rattle.jsx_operand.specs.Climbing.{is_target}
use Rattle.jsx_operand.specs.Turning.{TurnsElement, turn_plain, turn_filled, turn_target, turn_array, turn_object, Suits, suits_name, suits_array, suits_object, suits_filled, binding}
use Rattle.jsx_operand.specs.declared.cover.Cover.{Cover}
use Rattle.jsx_operand.proofs.Binding.{at_element}
use Rattle.jsx_operand.proofs.OfSoFar.{of_so_far}
use Rattle.jsx_operand.proofs.Turned.{element_assigns, element_param, ends_alike, param_element, suits_staged, suits_unstaged}
use Rattle.jsx_operand.proofs.Turning.{element_once, suits_binds, suits_once}
use Rattle.jsx_expression.specs.Arrows.{AreParams, IsInside, TurnCovers, covers_none, covers_more}
use Rattle.jsx_function.specs.Covers.{NoCover}
use Rattle.jsx_function.specs.Functions.{OnlyParam, params_row}
use Rattle.jsx_function.proofs.Defaults.{rest_led}
use Rattle.jsx_function.proofs.Params.{close_ends, comma_ends, not_last, rest_guard, unmarked}

pub stuck_not : {s : Sign} {x : Place} → Stuck s x → IsTrue (is_found (forth s x)) → ⊥
stuck_not k f = let bad : IsTrue (is_found Lost) = subst (λ p. IsTrue (is_found p)) k.is f in cc

-- before a `)` no comma stands
lost_if : (x : Place) → (IsTrue (is_found x) → ⊥) → x ≡ Lost
lost_if x f = by x refl
  where
    by : (y : Place) → x ≡ y → x ≡ Lost
    by Lost e = e
    by y e = absurd (f (subst (λ p. IsTrue (is_found p)) (sym e) refl))

pub close_stuck : {y : Place} → IsTrue (is_found (forth (pun ")") y)) → Stuck (pun ",") y
close_stuck {y} f = record { is = lost_if (forth (pun ",") y) (λ g. never_both Punctuator Punctuator (codes ")") (codes ",") y refl f g) }

-- ---- one cover

pub record CoverParam (v : Surroundings) (x : Place) (c : Cover) (y : Place) : Type 0 where
  pub reads : (q : Tree) → IsParameter c q → Staged v false Param x q y
  pub alone : (u : Tree) (z : Place) → Whole so_far v false Param x u z → IsParameter c u × (y ≡ z)

-- a rest begins with its dots
unspread : {v : Surroundings} {x y : Place} (u : Tree) → Stuck (pun "...") x → Staged v false Param x u y → is_rest u ≡ false
unspread (leaf k t) n r = refl
unspread (list ts) n r = refl
unspread (node (function (RestPat Binds)) ts) n r = absurd (stuck_not n (rest_led r))
unspread (node (function (RestPat _)) ts) n r = let bad = r.reads.is in cc
unspread (node _ ts) n r = refl

pub cover_param : {v : Surroundings} {x y : Place} {c : Cover} → IsInside v x c y → CoverParam v x c y
cover_param {v} {x} {y} {c} i = record {
  reads = λ q p. element_param q (suits_staged at_element p.suits ((i.cover.element refl).reads p.pattern p.turned));
  alone = at;
}
  where
    at : (u : Tree) (z : Place) → Whole so_far v false Param x u z → IsParameter c u × (y ≡ z)
    at u z w =
        let r = param_element u (unspread u i.not_rest w.reads) w.reads in
        let a = element_assigns u r in
        let s = (i.cover.element refl).alone a.pattern z (record { reads = suits_unstaged at_element a.suits r; ends_there = ends_alike (PatElement Assigns) Param z refl ∙ w.ends_there }) in
        (record { pattern = a.pattern; turned = s.0; suits = a.suits }, s.1)

-- where no cover is read no parameter is, but a rest
pub no_param : {v : Surroundings} {x : Place} {e : Fault} → NoCover v 1 x e → Stuck (pun "...") x → (u : Tree) (z : Place) → Whole so_far v false Param x u z → Shallow e (part_depth u) → ⊥
no_param {e = o} n d u z w s =
    let r = param_element u (unspread u d w.reads) w.reads in
    let a = element_assigns u r in
    let q = suits_unstaged at_element a.suits r in
    n.element refl a.pattern z (record { reads = q; ends_there = ends_alike (PatElement Assigns) Param z refl ∙ w.ends_there }) (subst (λ m. Shallow o m) (sym (suits_depth (PatElement Assigns) Param a.suits (and_right (admits (PatElement Assigns) a.pattern) (fits_below (PatElement Assigns) a.pattern) q.reads.is) (and_right (admits Param u) (fits_below Param u) w.reads.reads.is))) s)

-- it is one parameter
pub parameter_once : {c : Cover} {p q : Tree} → IsParameter c p → IsParameter c q → p ≡ q
parameter_once {c} {p} {q} a b = suits_once a.suits (subst (λ t. Suits t q) (element_once b.turned.turns a.turned.turns) b.suits)

pub covers_once : {cs : List Cover} {rs ps qs : Forest} → TurnCovers cs rs ps → TurnCovers cs rs qs → ps ≡ qs
covers_once covers_none covers_none = refl
covers_once (covers_more i t) (covers_more j u) = λ k. part (parameter_once i j k) (covers_once t u k)

-- whether it is a name alone
node_unnamed : (k : Kind) (ts : Forest) → is_target (node k ts) ≡ true → binding (as_target (node k ts)) ≡ true → ⊥
node_unnamed (expression Parenthesized) ts e b = cc
node_unnamed (expression Member) ts e b = cc
node_unnamed (expression Index) ts e b = cc
node_unnamed (expression SuperMember) ts e b = cc
node_unnamed (expression SuperIndex) ts e b = cc
node_unnamed _ ts e b = cc

target_word : {q : Tree} (t : Tree) → is_target t ≡ true → Suits (as_target t) q → is_word q ≡ not (is_compound q)
target_word (leaf IdentifierName n) e suits_name = refl
target_word (leaf _ n) e s = cc
target_word (list ts) e s = cc
target_word (node k ts) e s = absurd (node_unnamed k ts e (suits_binds s))

element_word : {t p q : Tree} → TurnsElement t p → Suits p q → is_word q ≡ not (is_compound q)
element_word (turn_plain (turn_target {t = t} e)) s = target_word t e s
element_word (turn_plain (turn_array l)) (suits_array m) = refl
element_word (turn_plain (turn_object l)) (suits_object m) = refl
element_word turn_filled (suits_filled s) = refl

pub param_word : {c : Cover} {q : Tree} → IsParameter c q → is_word q ≡ not (is_compound q)
param_word p = element_word p.turned.turns p.suits

-- ---- covers with commas behind them, and what is read behind these

pub record PassedTo (v : Surroundings) (cs : List Cover) (y : Place) (ps : Forest) (z : Place) : Type 0 where
  pub rest : Forest
  pub turns : TurnCovers cs rest ps
  pub items : Items (Whole so_far) v Commas Param y rest z

pub record Passing (v : Surroundings) (x : Place) (cs : List Cover) (y : Place) : Type 0 where
  pub to : (rs ps : Forest) (z : Place) → TurnCovers cs rs ps → Items (Whole so_far) v Commas Param y rs z → Items (Whole so_far) v Commas Param x ps z
  pub from : (ps : Forest) (z : Place) → Items (Whole so_far) v Commas Param x ps z → IsTrue (is_found (forth (pun ")") z)) → PassedTo v cs y ps z

pub passing_none : {v : Surroundings} {x : Place} → Passing v x [] x
passing_none {v} {x} = record { to = ahead; from = λ ps z items f. record { rest = ps; turns = covers_none; items = items } }
  where
    ahead : (rs ps : Forest) (z : Place) → TurnCovers [] rs ps → Items (Whole so_far) v Commas Param x rs z → Items (Whole so_far) v Commas Param x ps z
    ahead rs ps z covers_none items = items

pub passing_one : {v : Surroundings} {x y z : Place} {c : Cover} → CoverParam v x c y → Stuck (pun ")") x → Moves (pun ",") y z → Passing v x (c ∷ []) z
passing_one {v} {x} {y} {z} {c} o n m = record { to = forward; from = back }
  where
    there : IsTrue (is_found (forth (pun ",") y))
    there = found_at (sym m.is) m.found

    ahead : (q : Tree) → IsParameter c q → (rs : Forest) (p : Place) → Items (Whole so_far) v Commas Param z rs p → Items (Whole so_far) v Commas Param x (part q rs) p
    ahead q i none p (nil f) = last (record { reads = o.reads q i; ends_there = comma_ends y there }) (comma_trails m) m.found
    ahead q i (part u none) p all = more (not_last (o.reads q i) there) (record { reads = o.reads q i; ends_there = comma_ends y there }) (sym m.is) all
    ahead q i (part u (part u' us)) p all = more (not_last (o.reads q i) there) (record { reads = o.reads q i; ends_there = comma_ends y there }) (sym m.is) all

    forward : (rs ps : Forest) (p : Place) → TurnCovers (c ∷ []) rs ps → Items (Whole so_far) v Commas Param z rs p → Items (Whole so_far) v Commas Param x ps p
    forward rs ps p (covers_more {q = q} i covers_none) items = ahead q i rs p items

    back : (ps : Forest) (p : Place) → Items (Whole so_far) v Commas Param x ps p → IsTrue (is_found (forth (pun ")") p)) → PassedTo v (c ∷ []) z ps p
    back ps p (nil f) close = absurd (stuck_not n close)
    back ps p (last {y = y'} {t = u} r e f) close =
        let s = o.alone u y' r in
        let here : z ≡ p = sym (comma_trails m) ∙ (ap (forth TrailingComma) s.1 ∙ e) in
        record { rest = none; turns = covers_more s.0 covers_none; items = subst (λ q. Items (Whole so_far) v Commas Param z none q) here (nil m.found) }
    back ps p (more {y = y'} {z = z'} {t = t} {u = u} {us = us} k r e all) close =
        let s = o.alone t y' r in
        let here : z ≡ z' = m.is ∙ (ap (forth (pun ",")) s.1 ∙ e) in
        record { rest = part u us; turns = covers_more s.0 covers_none; items = subst (λ q. Items (Whole so_far) v Commas Param q (part u us) p) (sym here) all }

pub record TurnsParted (cs ds : List Cover) (rs ps : Forest) : Type 0 where
  pub middle : Forest
  pub first : TurnCovers cs middle ps
  pub second : TurnCovers ds rs middle

pub turns_parted : (cs : List Cover) {ds : List Cover} {rs ps : Forest} → TurnCovers (cs ++ ds) rs ps → TurnsParted cs ds rs ps
turns_parted [] {ps = ps} t = record { middle = ps; first = covers_none; second = t }
turns_parted (c ∷ cs) (covers_more i t) = let s = turns_parted cs t in record { middle = s.middle; first = covers_more i s.first; second = s.second }

pub turns_joined : {cs ds : List Cover} {rs ms ps : Forest} → TurnCovers cs ms ps → TurnCovers ds rs ms → TurnCovers (cs ++ ds) rs ps
turns_joined covers_none u = u
turns_joined (covers_more i t) u = covers_more i (turns_joined t u)

pub passing_both : {v : Surroundings} {x y z : Place} {cs ds : List Cover} → Passing v x cs y → Passing v y ds z → Passing v x (cs ++ ds) z
passing_both {cs = cs} a b = record {
  to = λ rs ps p t items. let s = turns_parted cs t in a.to s.middle ps p s.first (b.to rs s.middle p s.second items);
  from = λ ps p items f. let r = a.from ps p items f in let s = b.from r.rest p r.items f in record { rest = s.rest; turns = turns_joined r.turns s.turns; items = s.items };
}

-- ---- what stands last, up to the `)`

pub record Lasting (v : Surroundings) (y : Place) (ds : List Cover) (rs : Forest) (z : Place) : Type 0 where
  pub to : (qs : Forest) → TurnCovers ds rs qs → IsTrue (is_found (forth (pun ")") z)) → Items (Whole so_far) v Commas Param y qs z
  pub from : (qs : Forest) (p : Place) → Items (Whole so_far) v Commas Param y qs p → IsTrue (is_found (forth (pun ")") p)) → TurnCovers ds rs qs × (z ≡ p)

-- nothing behind the last comma
pub lasting_none : {v : Surroundings} {y : Place} → IsTrue (is_found (forth (pun ")") y)) → Lasting v y [] none y
lasting_none {v} {y} there = record { to = forward; from = back }
  where
    forward : (qs : Forest) → TurnCovers [] none qs → IsTrue (is_found (forth (pun ")") y)) → Items (Whole so_far) v Commas Param y qs y
    forward qs covers_none f = nil (found_first (pun ")" ∷ []) y f)

    back : (qs : Forest) (p : Place) → Items (Whole so_far) v Commas Param y qs p → IsTrue (is_found (forth (pun ")") p)) → TurnCovers [] none qs × (y ≡ p)
    back qs p (nil f) close = (covers_none, refl)
    back qs p (last r e f) close = absurd (unmarked (codes ")") refl refl refl there r)
    back qs p (more k r e all) close = absurd (unmarked (codes ")") refl refl refl there r)

-- a cover without a comma behind it
pub lasting_one : {v : Surroundings} {y z : Place} {c : Cover} → CoverParam v y c z → Stuck (pun ")") y → Stuck (pun ",") z → Lasting v y (c ∷ []) none z
lasting_one {v} {y} {z} {c} o n k = record { to = forward; from = back }
  where
    forward : (qs : Forest) → TurnCovers (c ∷ []) none qs → IsTrue (is_found (forth (pun ")") z)) → Items (Whole so_far) v Commas Param y qs z
    forward qs (covers_more {q = q} i covers_none) f = last (record { reads = o.reads q i; ends_there = close_ends z f }) (nothing_trails z k) (end_found of_so_far (o.reads q i))

    back : (qs : Forest) (p : Place) → Items (Whole so_far) v Commas Param y qs p → IsTrue (is_found (forth (pun ")") p)) → TurnCovers (c ∷ []) none qs × (z ≡ p)
    back qs p (nil f) close = absurd (stuck_not n close)
    back qs p (last {y = y'} {t = u} r e f) close = let s = o.alone u y' r in (covers_more s.0 covers_none, sym (nothing_trails z k) ∙ (ap (forth TrailingComma) s.1 ∙ e))
    back qs p (more {y = y'} {t = t} m r e all) close =
        let s = o.alone t y' r in
        absurd (stuck_not k (subst (λ q. IsTrue (is_found (forth (pun ",") q))) (sym s.1) (found_at e (whole_items_found of_so_far all))))

-- a rest, behind which no comma stands
no_comma_behind : {v : Surroundings} {x y : Place} {ts : Forest} → Staged v false Param x (node (function (RestPat Binds)) ts) y → Stuck (pun ",") y
no_comma_behind {y = y} {ts = ts} r = record { is = lost_if (forth (pun ",") y) (λ f. rest_guard {us = ts} (of_so_far.from_node (function (RestPat Binds)) r).walk f) }

pub lasting_rest : {v : Surroundings} {y z : Place} {t : Tree} {ts : Forest} → OnlyParam v y t z → t ≡ node (function (RestPat Binds)) ts → Lasting v y [] (part t none) z
lasting_rest {v} {y} {z} {t} {ts} o e = record { to = forward; from = back }
  where
    reads : Staged v false Param y (node (function (RestPat Binds)) ts) z
    reads = subst (λ u. Staged v false Param y u z) e o.reads

    k : Stuck (pun ",") z
    k = no_comma_behind reads

    forward : (qs : Forest) → TurnCovers [] (part t none) qs → IsTrue (is_found (forth (pun ")") z)) → Items (Whole so_far) v Commas Param y qs z
    forward qs covers_none f = last (record { reads = o.reads; ends_there = close_ends z f }) (nothing_trails z k) (end_found of_so_far o.reads)

    back : (qs : Forest) (p : Place) → Items (Whole so_far) v Commas Param y qs p → IsTrue (is_found (forth (pun ")") p)) → TurnCovers [] (part t none) qs × (z ≡ p)
    back qs p (nil f) close = absurd (never_both Punctuator Punctuator (codes "...") (codes ")") y refl (rest_led reads) close)
    back qs p (last {y = y'} {t = u} r d f) close =
        let s = o.alone u y' r in
        (subst (λ w. TurnCovers [] (part t none) (part w none)) s.0 covers_none, sym (nothing_trails z k) ∙ (ap (forth TrailingComma) s.1 ∙ d))
    back qs p (more {y = y'} {t = u} m r d all) close =
        let s = o.alone u y' r in
        absurd (stuck_not k (subst (λ q. IsTrue (is_found (forth (pun ",") q))) (sym s.1) (found_at d (whole_items_found of_so_far all))))

-- ---- the row of parameters

pub params_reads : {v : Surroundings} {x y z : Place} {ds : List Cover} {rs : Forest} (cs : List Cover) → Passing v x cs y → Lasting v y ds rs z → (ps : Forest) (p : Place) → TurnCovers (cs ++ ds) rs ps → Moves (pun ")") z p → Walk (Whole so_far) (steady v) params_row x (part (list ps) none) p
params_reads cs a l ps p t m =
    let s = turns_parted cs t in
    next (many refl (a.to s.middle ps _ s.first (l.to s.middle s.second (found_at (sym m.is) m.found)))) (next (sign (sym m.is) m.found) (done m.found))

pub params_alone : {v : Surroundings} {x y z : Place} {ds : List Cover} {rs : Forest} (cs : List Cover) → Passing v x cs y → Lasting v y ds rs z → (ts : Forest) (p : Place) → Walk (Whole so_far) (steady v) params_row x ts p → AreParams (cs ++ ds) rs ts z p
params_alone {v} {x} {z = z} {ds} {rs} cs a l ts p (next {y = w} (many {ts = ps} n items) (next (sign e f) (done g))) =
    let r = a.from ps w items (found_at e f) in
    let s = l.from r.rest w r.items (found_at e f) in
    record { params = ps; is = refl; turns = turns_joined r.turns s.0; closes = record { is = sym e ∙ ap (forth (pun ")")) (sym s.1); found = f } }
