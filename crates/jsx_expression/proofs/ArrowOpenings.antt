-- What begins with a `(`: an expression in parentheses, or an arrow function with a value or with a block, told apart by what stands behind the `)` (ECMA-262 sections 13.2.9 and 15.3).
use Rattle.std.proofs.Common.{◌≡◌, ◌≤◌, ℕ, nat_eq, nat_le, Bool, true, false, not, List, [], ◌∷◌, ◌++◌, map, refl, sym, ◌∙◌, ap, subst, arith, Box, Global, None, Some}
use Rattle.std.specs.Prelude.{IsTrue, codes, ◌&&◌, ◌||◌}
use Rattle.jsx_base.specs.Token.{Operator, Punctuator, same, is_kind}
use Rattle.jsx_tree.specs.Signs.{AfterExpr, SameLine, Sign}
use Rattle.jsx_tree.specs.Kinds.{Binds, RestPat, Arrow, ArrowBlock, Parenthesized, Kind, expression, function, Tree, node, list, Forest, none, part}
use Rattle.jsx_tree.specs.Nonterminals.{Expr, Param}
use Rattle.jsx_tree.specs.Grammar.{Commas, InArrow, Fixed, Part, Symbol, pun}
use Rattle.jsx_tree.specs.Reading.{Place, Lost, At, forth, go_if}
use Rattle.jsx_tree.specs.StaticRules.{Surroundings, all_of, enter, has_plain_params, is_word, rule, stands}
use Rattle.jsx_tree.specs.View.{forest, inside, view_pat}
use Rattle.jsx_tree.specs.declared.tree.Pat.{Pat}
use Rattle.jsx_tree.specs.Walk.{is_found, nothing, one, Piece, Items, nil, last, more, sign, tree, many, Walk, done, next, steady, tail}
use Rattle.jsx_tree.specs.Language.{Whole}
use Rattle.jsx_tree.specs.Answers.{Moves, Stuck, Only, Barred, OnlyRow, NoRow, NoNode, Built, BuiltNode}
use Rattle.jsx_tree.specs.Faults.{Fault, Unread, Shallow, part_depth, deepest}
use Rattle.jsx_tree.proofs.Apart.{never_both}
use Rattle.jsx_tree.proofs.Tokens.{and_both, and_left}
use Rattle.jsx_tree.proofs.Rows.Bridge.{found_at}
use Rattle.jsx_tree.proofs.Rows.Placing.{no_node}
use Rattle.jsx_tree.proofs.Rows.Steps.{bar, built_3, no_sign, on, only_sign, then_row, any_barred}
use Rattle.jsx_tree.proofs.Rows.Stopping.{or_cases, stays}
use Rattle.jsx_tree.proofs.Depth.Shallow.{shallow_alone, shallow_first, shallow_head, shallow_nothing, shallow_tail, shallow_up}
use Rattle.jsx_token.specs.Growths.{closed, settled}
use Rattle.jsx_token.proofs.Ahead.{an_arrow, no_arrow as no_arrow_next}
use Rattle.jsx_token.specs.Here.{Here, place_of}
use Rattle.jsx_token.specs.Marks.{row_so_far}
use Rattle.jsx_token.specs.Seen.{next_token}
use Rattle.jsx_token.proofs.Listed.{code, every, implied, implies, kinds, listed, of_each, one_place}
use Rattle.jsx_operand.specs.Climbing.{level}
use Rattle.jsx_operand.specs.Covers.{IsParameter}
use Rattle.jsx_operand.specs.Patterns.{is_compound}
use Rattle.jsx_operand.specs.Openings.{NoParts, NoneOpened, OnlyOpened, opens_with}
use Rattle.jsx_operand.specs.SoFar.{so_far}
use Rattle.jsx_operand.specs.declared.cover.Cover.{Cover}
use Rattle.jsx_operand.proofs.Entering.{deeper, row_out}
use Rattle.jsx_operand.proofs.OfSoFar.{of_so_far}
use Rattle.jsx_operand.proofs.Openings.{Other, barred, free_none, itself, kept_behind, opened_by, opens_listed}
use Rattle.jsx_operand.proofs.Turned.{arrow_staged, arrow_unstaged}
use Rattle.jsx_expression.specs.Arrows.{ArrowEnds, Contents, IsInside, NoArrowEnd, NoGroup, OnlyEnd, OnlyGroup, TurnCovers, covers_none, covers_more, are_exprs, arrow_kind, end_row, has_rest, is_sequence, unless_arrow}
use Rattle.jsx_expression.specs.declared.arrow.Group.{Group}
use Rattle.jsx_function.specs.Covers.{IsCover, NoCover, Settles}
use Rattle.jsx_function.specs.Functions.{params_row}
use Rattle.jsx_expression.proofs.CoverParams.{covers_once, no_param, param_word, stuck_not}
use Rattle.jsx_function.proofs.Defaults.{rest_row}
use Rattle.jsx_function.proofs.Params.{no_rest_param}
use Rattle.jsx_expression.proofs.Parentheses.{Passes, PassesFrom, dotted_value, last_contents, passes_barred, rest_contents, trailing_contents}
use Rattle.jsx_member.proofs.Sequences.{closed_of, whole_barred}

-- ---- which kinds begin so

abbrev parens : Kind → Bool
parens j = implies (opens_with (pun "(") j) (nat_eq (code j) (code (expression Parenthesized)) || (nat_eq (code j) (code (expression Arrow)) || nat_eq (code j) (code (expression ArrowBlock))))

all_parens : every parens kinds ≡ true
all_parens = refl

of_paren : (P : Kind → Type 0) → P (expression Parenthesized) → P (expression Arrow) → P (expression ArrowBlock) → (j : Kind) → opens_with (pun "(") j ≡ true → P j
of_paren P p q r j o =
    let m = opens_listed (pun "(") j o in
    or_cases (nat_eq (code j) (code (expression Parenthesized))) _ (implied (opens_with (pun "(") j) _ (of_each parens all_parens j m) o)
    (λ e. subst P (sym (one_place j (expression Parenthesized) m (listed (expression Parenthesized) refl refl refl) e)) p)
    (λ s. or_cases (nat_eq (code j) (code (expression Arrow))) (nat_eq (code j) (code (expression ArrowBlock))) s
    (λ e. subst P (sym (one_place j (expression Arrow) m (listed (expression Arrow) refl refl refl) e)) q)
    (λ e. subst P (sym (one_place j (expression ArrowBlock) m (listed (expression ArrowBlock) refl refl refl) e)) r))

abbrev paren_row : List Piece
paren_row = tail (row_so_far (expression Parenthesized))

abbrev arrow_row : Bool → List Piece
arrow_row b = tail (row_so_far (arrow_kind b))

abbrev NoParen : Surroundings → Place → Fault → Type 0
NoParen v x e = NoNode so_far v paren_row (expression Parenthesized) x e

abbrev NoArrow : Surroundings → Bool → Place → Fault → Type 0
NoArrow v b x e = NoNode so_far v (arrow_row b) (arrow_kind b) x e

none_of : {v : Surroundings} {x : Place} {e : Fault} → NoParen v x e → NoArrow v false x e → NoArrow v true x e → NoneOpened v (pun "(") x e
none_of {v} {x} {e = e} p q r = record { no = of_paren (λ j. NoParts v j x e) (free_none (expression Parenthesized) refl p) (free_none (expression Arrow) refl q) (free_none (expression ArrowBlock) refl r) }

-- ---- parameters are read alike in the function and outside of it

items_into : {v : Surroundings} {x y : Place} {ts : Forest} → Items (Whole so_far) v Commas Param x ts y → Items (Whole so_far) (enter none InArrow v) Commas Param x ts y
items_into (nil f) = nil f
items_into (last r e f) = last (record { reads = arrow_staged refl r.reads; ends_there = r.ends_there }) e f
items_into (more n r e all) = more n (record { reads = arrow_staged refl r.reads; ends_there = r.ends_there }) e (items_into all)

items_back : {v : Surroundings} {x y : Place} {ts : Forest} → Items (Whole so_far) (enter none InArrow v) Commas Param x ts y → Items (Whole so_far) v Commas Param x ts y
items_back (nil f) = nil f
items_back (last r e f) = last (record { reads = arrow_unstaged refl r.reads; ends_there = r.ends_there }) e f
items_back (more n r e all) = more n (record { reads = arrow_unstaged refl r.reads; ends_there = r.ends_there }) e (items_back all)

params_into : {v : Surroundings} {x y : Place} {ts : Forest} → Walk (Whole so_far) (steady v) params_row x ts y → Walk (Whole so_far) (steady (enter none InArrow v)) params_row x ts y
params_into (next (many n items) (next (sign e f) (done g))) = next (many n (items_into items)) (next (sign e f) (done g))

params_back : {v : Surroundings} {x y : Place} {ts : Forest} → Walk (Whole so_far) (steady (enter none InArrow v)) params_row x ts y → Walk (Whole so_far) (steady v) params_row x ts y
params_back (next (many n items) (next (sign e f) (done g))) = next (many n (items_back items)) (next (sign e f) (done g))

params_out : {v : Surroundings} {x y : Place} {ts : Forest} → OnlyRow so_far v params_row x ts y → OnlyRow so_far v (deeper (InArrow ∷ []) params_row) x ts y
params_out {v} o = row_out (InArrow ∷ []) v params_row (record { walk = params_into o.walk; alone = λ us z w. o.alone us z (params_back w) })

-- ---- an arrow function behind its `(`

arrow_parts : {v : Surroundings} {x y z : Place} {ps : Forest} {t : Tree} (b : Bool) → OnlyRow so_far v params_row x (part (list ps) none) y → OnlyEnd v b t y z → OnlyRow so_far v (arrow_row b) x (part (list ps) (part t none)) z
arrow_parts true o e = then_row of_so_far (deeper (InArrow ∷ []) params_row) (params_out o) e.only
arrow_parts false o e = then_row of_so_far (deeper (InArrow ∷ []) params_row) (params_out o) e.only

arrow_built : {v : Surroundings} {x y z : Place} {ps : Forest} {e t : Tree} (b : Bool) → OnlyRow so_far v params_row x (part (list ps) none) y → OnlyEnd v b e y z → has_plain_params (part (list ps) (part e none)) ≡ true → t ≡ node (arrow_kind b) (part (list ps) (part e none)) → BuiltNode so_far v (arrow_row b) (arrow_kind b) t x z
arrow_built true o e h is = record { parts = _; is = is; row = arrow_parts true o e; keeps = and_both _ _ h refl }
arrow_built false o e h is = record { parts = _; is = is; row = arrow_parts false o e; keeps = and_both _ _ h refl }

-- its row, as parameters and what is behind them
record Split (v : Surroundings) (b : Bool) (x : Place) (us : Forest) (z : Place) : Type 0 where
  params : Forest
  rest : Forest
  place : Place
  is : us ≡ part (list params) rest
  first : Walk (Whole so_far) (steady v) params_row x (part (list params) none) place
  second : Walk (Whole so_far) (steady v) (end_row b) place rest z

split : {v : Surroundings} (b : Bool) {x z : Place} {us : Forest} → Walk (Whole so_far) (steady v) (arrow_row b) x us z → Split v b x us z
split true (next (many {ts = ps} n items) (next {y = y} {ts = rs} (sign e f) w)) = record { params = ps; rest = rs; place = y; is = refl; first = next (many n (items_back items)) (next (sign e f) (done f)); second = w }
split false (next (many {ts = ps} n items) (next {y = y} {ts = rs} (sign e f) w)) = record { params = ps; rest = rs; place = y; is = refl; first = next (many n (items_back items)) (next (sign e f) (done f)); second = w }

keeps_plain : (v : Surroundings) (b : Bool) (us : Forest) → so_far.keeps (arrow_kind b) v us ≡ true → has_plain_params us ≡ true
keeps_plain v true us k = and_left (rule (expression ArrowBlock) us) (stands (expression ArrowBlock) us v) k
keeps_plain v false us k = and_left (rule (expression Arrow) us) (stands (expression Arrow) us v) k

-- none stands there where what is behind any parameters isn't read, or breaks the rule on them
record Unended (v : Surroundings) (b : Bool) (x : Place) (e : Fault) : Type 0 where
  no : (ps us : Forest) (y z : Place) → Walk (Whole so_far) (steady v) params_row x (part (list ps) none) y → Walk (Whole so_far) (steady v) (end_row b) y us z → has_plain_params (part (list ps) us) ≡ true → Shallow e (deepest (part (list ps) us)) → ⊥

no_arrow : {v : Surroundings} {x : Place} {e : Fault} (b : Bool) → Unended v b x e → NoArrow v b x e
no_arrow {v} {e = e} b n = record { no = λ us z w k h. let s = split b w in n.no s.params s.rest s.place z s.first s.second (ap has_plain_params (sym s.is) ∙ keeps_plain v b us k) (subst (λ ts. Shallow e (deepest ts)) s.is h) }

list_is : {ps qs ts us : Forest} → part (list ps) ts ≡ part (list qs) us → ps ≡ qs
list_is {ps} e = ap listed_in e
  where
    listed_in : Forest → Forest
    listed_in (part (list ts) us) = ts
    listed_in us = us

-- the other one, where one is read
other_arrow : {v : Surroundings} {x y z : Place} {ps : Forest} {e : Tree} {d : Fault} (b : Bool) → OnlyRow so_far v params_row x (part (list ps) none) y → OnlyEnd v b e y z → NoArrow v (not b) x d
other_arrow {v} b o e = no_arrow (not b) (record { no = λ qs us p q w r h s. e.other.no us q (subst (λ a. Walk (Whole so_far) (steady v) (end_row (not b)) a us q) (sym (o.alone (part (list qs) none) p w).1) r) tt })

pub arrow_opened : {v : Surroundings} {x y z : Place} {ps : Forest} {t : Tree} → OnlyRow so_far v params_row x (part (list ps) none) y → NoParen v x Unread → ArrowEnds v ps t y z → OnlyOpened v (pun "(") t x z
arrow_opened {v} {x} {y} {z} {ps} {t} o n e = by e.block e.is e.read e.plain
  where
    by : (b : Bool) → t ≡ node (arrow_kind b) (part (list ps) (part e.end' none)) → OnlyEnd v b e.end' y z → has_plain_params (part (list ps) (part e.end' none)) ≡ true → OnlyOpened v (pun "(") t x z
    by true is r h = opened_by (expression ArrowBlock) refl refl (arrow_built true o r h is) (of_paren (Other v x (expression ArrowBlock)) (barred refl n) (barred refl (other_arrow true o r)) itself)
    by false is r h = opened_by (expression Arrow) refl refl (arrow_built false o r h is) (of_paren (Other v x (expression Arrow)) (barred refl n) itself (barred refl (other_arrow false o r)))

unread : {v : Surroundings} {x y : Place} {ps : Forest} {e : Fault} (b : Bool) → OnlyRow so_far v params_row x (part (list ps) none) y → NoArrowEnd v ps y e → Unended v b x e
unread {v} {ps = ps} {e = e} b o n = record {
  no = λ qs us p q w r h a.
      let s = o.alone (part (list qs) none) p w in
      n.no b us q (subst (λ a. Walk (Whole so_far) (steady v) (end_row b) a us q) (sym s.1) r) (subst (λ ws. has_plain_params (part (list ws) us) ≡ true) (sym (list_is s.0)) h) (shallow_tail e (list qs) us a);
}

pub arrow_unread : {v : Surroundings} {x y : Place} {ps : Forest} {d : Fault} → OnlyRow so_far v params_row x (part (list ps) none) y → NoParen v x d → NoArrowEnd v ps y d → NoneOpened v (pun "(") x d
arrow_unread o n e = none_of n (no_arrow false (unread false o e)) (no_arrow true (unread true o e))

pub params_unread : {v : Surroundings} {x : Place} {e : Fault} → NoRow so_far v params_row x e → NoParen v x e → NoneOpened v (pun "(") x e
params_unread {v} {x} {e = e} r n = none_of n (no_arrow false (at false)) (no_arrow true (at true))
  where
    at : (b : Bool) → Unended v b x e
    at b = record { no = λ ps us y z w q h s. r.no (part (list ps) none) y w (shallow_alone e (one (list ps)) (shallow_head e (list ps) us s)) }

-- ---- no parentheses

pub no_paren : {v : Surroundings} {x : Place} {e : Fault} → Barred so_far v (Part (Expr 0)) x e → NoParen v x e
no_paren b = no_node (bar b)

paren_by : {v : Surroundings} {b : Bool} {t : Tree} {cs : List Cover} {rs : Forest} {x y : Place} {o : Fault} → Contents v b t cs rs x y → (Only so_far v (Part (Expr 0)) x (one t) y → NoParen v x o) → NoParen v x o
paren_by {v} {b} {x = x} {o = o} c f = by b refl
  where
    by : (a : Bool) → b ≡ a → NoParen v x o
    by true e = f (c.expr e)
    by false e = no_paren (any_barred (c.barred e))

-- before a `=>`
paren_guarded : {v : Surroundings} {b : Bool} {t : Tree} {cs : List Cover} {rs : Forest} {x y z : Place} {e : Fault} → Contents v b t cs rs x y → Moves (pun ")") y z → Stuck unless_arrow z → NoParen v x e
paren_guarded c m n = paren_by c (λ o. no_node (on o (on (only_sign m) (bar (no_sign n)))))

-- ---- what was read in the parentheses, with what stands behind them

pub params_only : {v : Surroundings} {b : Bool} {t : Tree} {cs : List Cover} {rs ps : Forest} {x y z : Place} → Contents v b t cs rs x y → TurnCovers cs rs ps → Moves (pun ")") y z → OnlyRow so_far v params_row x (part (list ps) none) z
params_only c k m = record {
  walk = c.reads _ _ k m;
  alone = λ us p w. let a = c.alone us p w in ((λ i. part (list (covers_once k a.turns i)) none) ∙ sym a.is, m.is ∙ sym a.closes.is);
}

pub turned_opened : {v : Surroundings} {b : Bool} {u t : Tree} {cs : List Cover} {rs ps : Forest} {x y z p : Place} → Contents v b u cs rs x y → Moves (pun ")") y z → Stuck unless_arrow z → TurnCovers cs rs ps → ArrowEnds v ps t z p → OnlyOpened v (pun "(") t x p
turned_opened c m n k e = arrow_opened (params_only c k m) (paren_guarded c m n) e

pub turned_unread : {v : Surroundings} {b : Bool} {u : Tree} {cs : List Cover} {rs ps : Forest} {x y z : Place} {o : Fault} → Contents v b u cs rs x y → Moves (pun ")") y z → Stuck unless_arrow z → TurnCovers cs rs ps → NoArrowEnd v ps z o → NoneOpened v (pun "(") x o
turned_unread c m n k e = arrow_unread (params_only c k m) (paren_guarded c m n) e

pub unturned : {v : Surroundings} {b : Bool} {u : Tree} {cs : List Cover} {rs : Forest} {x y z : Place} {e : Fault} → Contents v b u cs rs x y → Moves (pun ")") y z → Stuck unless_arrow z → ((ps : Forest) → TurnCovers cs rs ps → ⊥) → NoneOpened v (pun "(") x e
unturned c m n f = params_unread (record { no = λ ts p w _. let a = c.alone ts p w in f a.params a.turns }) (paren_guarded c m n)

pub unclosed : {v : Surroundings} {b : Bool} {u : Tree} {cs : List Cover} {rs : Forest} {x y : Place} {e : Fault} → Contents v b u cs rs x y → Barred so_far v (Fixed (pun ")")) y e → NoneOpened v (pun "(") x e
unclosed {e = e} c n = params_unread (record { no = λ ts p w _. let a = c.alone ts p w in n.no nothing p (sign (sym a.closes.is) a.closes.found) (shallow_nothing e) }) (paren_by c (λ o. no_node (on o (bar n))))

-- no `=>` behind them
line_arrow : {v : Surroundings} {x z : Place} {us : Forest} (b : Bool) → forth (pun "=>") x ≡ Lost → Walk (Whole so_far) (steady v) (end_row b) x us z → ⊥
line_arrow {x = x} b n w = at b w
  where
    lost : {y z : Place} → forth SameLine x ≡ y → IsTrue (is_found y) → forth (pun "=>") y ≡ z → IsTrue (is_found z) → ⊥
    lost e f g h =
        let there : IsTrue (is_found (forth (pun "=>") x)) = subst (λ p. IsTrue (is_found (forth (pun "=>") p))) (sym e ∙ stays SameLine x refl (found_at e f)) (found_at g h) in
        let bad : IsTrue (is_found Lost) = subst (λ p. IsTrue (is_found p)) n there in cc

    at : {v : Surroundings} {z : Place} {us : Forest} (b : Bool) → Walk (Whole so_far) (steady v) (end_row b) x us z → ⊥
    at true (next (sign e f) (next (sign g h) r)) = lost e f g h
    at false (next (sign e f) (next (sign g h) r)) = lost e f g h

unarrowed : {v : Surroundings} {b : Bool} {u : Tree} {cs : List Cover} {rs : Forest} {x y z : Place} {e : Fault} → Contents v b u cs rs x y → Moves (pun ")") y z → forth (pun "=>") z ≡ Lost → (a : Bool) → NoArrow v a x e
unarrowed {v} {x = x} c m n a = no_arrow a (record {
  no = λ ps us p q w r h _.
      let k = c.alone _ p w in
      line_arrow a n (subst (λ o. Walk (Whole so_far) (steady v) (end_row a) o us q) (k.closes.is ∙ sym m.is) r);
})

pub paren_opened : {v : Surroundings} {b : Bool} {u t : Tree} {cs : List Cover} {rs : Forest} {x y z : Place} → Contents v b u cs rs x y → b ≡ true → Moves (pun ")") y z → Moves unless_arrow z z → forth (pun "=>") z ≡ Lost → t ≡ node (expression Parenthesized) (part u none) → OnlyOpened v (pun "(") t x z
paren_opened {v} {x = x} c h m g n e =
    opened_by (expression Parenthesized) refl refl (kept_behind (expression Parenthesized) (listed (expression Parenthesized) refl refl refl) refl refl (built_3 g.found (c.expr h) (only_sign m) (only_sign g) e))
    (of_paren (Other v x (expression Parenthesized)) itself (barred refl (unarrowed c m n false)) (barred refl (unarrowed c m n true)))

pub paren_unread : {v : Surroundings} {b : Bool} {u : Tree} {cs : List Cover} {rs : Forest} {x y z : Place} {e : Fault} → Contents v b u cs rs x y → b ≡ false → Moves (pun ")") y z → forth (pun "=>") z ≡ Lost → NoneOpened v (pun "(") x e
paren_unread c h m n = none_of (no_paren (any_barred (c.barred h))) (unarrowed c m n false) (unarrowed c m n true)

-- `=>` isn't there where no token is spelled so
pub no_arrow_sign : (h : Here) → same (next_token Operator h).raw (codes "=>") ≡ false → forth (pun "=>") (place_of h) ≡ Lost
no_arrow_sign h n =
    let x = next_token Operator h in
    let y : Place = At (codes "=>") AfterExpr x.rest in
    ap (λ b. go_if (is_kind x.kind Punctuator && b) y) n ∙ none_there (is_kind x.kind Punctuator) y
  where
    none_there : (a : Bool) (y : Place) → go_if (a && false) y ≡ Lost
    none_there true y = refl
    none_there false y = refl

-- ---- where nothing is read in the parentheses

-- no first cover, and neither `)` nor `...`
pub nothing_inside : {v : Surroundings} {x : Place} {o : Fault} → NoCover v 1 x o → Stuck (pun ")") x → Stuck (pun "...") x → NoneOpened v (pun "(") x o
nothing_inside {v} {x} {o = o} n k d = params_unread (record { no = at }) (no_paren (whole_barred n.none))
  where
    inner : {y : Place} (ps : Forest) → Items (Whole so_far) v Commas Param x ps y → IsTrue (is_found (forth (pun ")") y)) → Shallow o (deepest ps) → ⊥
    inner ps (nil f) g h = stuck_not k g
    inner ps (last {y = y} {t = u} r e f) g h = no_param n d u y r (shallow_head o u none h)
    inner ps (more {y = y} {t = u} {u = u'} {us = us'} m r e all) g h = no_param n d u y r (shallow_head o u (part u' us') h)

    at : (ts : Forest) (z : Place) → Walk (Whole so_far) (steady v) params_row x ts z → Shallow o (deepest ts) → ⊥
    at ts z (next {ts = vs} (many {ts = ps} m items) (next (sign e f) r)) s = inner ps items (found_at e f) (shallow_first o (one (list ps)) vs s)

-- what stands behind some of the parameters is no deeper than all
rest_up : {cs : List Cover} {rs ps : Forest} → TurnCovers cs rs ps → deepest rs ≤ deepest ps
rest_up covers_none = omega arith
rest_up (covers_more i t) = let h = rest_up t in omega (arith, h)

-- behind covers with commas nothing more is read, and no `)` comes
pub nothing_more : {v : Surroundings} {x y : Place} {cs : List Cover} {o : Fault} → Passes v x cs y → Barred so_far v (Part (Expr 1)) y o → ((u : Tree) (z : Place) → Whole so_far v false Param y u z → Shallow o (part_depth u) → ⊥) → Stuck (pun ")") y → NoneOpened v (pun "(") x o
nothing_more {v} {x} {y} {o = o} p b f k = params_unread (record { no = at }) (no_paren (passes_barred p b))
  where
    inner : {z : Place} (ps : Forest) → Items (Whole so_far) v Commas Param y ps z → IsTrue (is_found (forth (pun ")") z)) → Shallow o (deepest ps) → ⊥
    inner ps (nil e) g h = stuck_not k g
    inner ps (last {y = z} {t = u} r d e) g h = f u z r (shallow_head o u none h)
    inner ps (more {y = z} {t = u} {u = u'} {us = us'} m r d all) g h = f u z r (shallow_head o u (part u' us') h)

    at : (ts : Forest) (z : Place) → Walk (Whole so_far) (steady v) params_row x ts z → Shallow o (deepest ts) → ⊥
    at ts z (next {y = w} {ts = vs} (many {ts = ps} m items) (next (sign e g) r)) s =
        let a = p.params.from ps w items (found_at e g) in
        inner a.rest a.items (found_at e g) (shallow_up o (deepest a.rest) (deepest ps) (rest_up a.turns) (shallow_first o (one (list ps)) vs s))

-- ---- the answers of single functions

pub one_unturned : {c : Cover} {ps : Forest} → ((p : Tree) → IsParameter c p → ⊥) → TurnCovers (c ∷ []) none ps → ⊥
one_unturned f (covers_more {q = q} i t) = f q i

pub one_turns : {c : Cover} {p : Box Pat Global} {xs : List (Box Pat Global)} → xs ≡ p ∷ [] → IsParameter c (view_pat p.value) → TurnCovers (c ∷ []) none (forest (map (inside view_pat) xs))
one_turns {c} e i = subst (λ ys. TurnCovers (c ∷ []) none (forest (map (inside view_pat) ys))) (sym e) (covers_more i covers_none)

pub one_simple : {c : Cover} {p : Box Pat Global} {xs : List (Box Pat Global)} {s : Bool} → xs ≡ p ∷ [] → IsParameter c (view_pat p.value) → s ≡ not (is_compound (view_pat p.value)) → s ≡ all_of is_word (forest (map (inside view_pat) xs))
one_simple {p = p} e i h = h ∙ (sym (param_word i) ∙ (alone (is_word (view_pat p.value)) ∙ ap (λ ys. all_of is_word (forest (map (inside view_pat) ys))) (sym e)))
  where
    alone : (b : Bool) → b ≡ (b && true)
    alone true = refl
    alone false = refl

level_arrow : (b : Bool) (ts : Forest) → level (node (arrow_kind b) ts) ≡ 1
level_arrow true ts = refl
level_arrow false ts = refl

pub arrow_settles : {v : Surroundings} {ps : Forest} {t : Tree} {x y : Place} → ArrowEnds v ps t x y → Settles (level t) y
arrow_settles {ps = ps} {t = t} e = record { on = λ h. absurd (low (sym (ap (nat_le 3) (ap level e.is ∙ level_arrow e.block (part (list ps) (part e.end' none)))) ∙ h)) }
  where
    low : nat_le 3 1 ≡ true → ⊥
    low h = cc

-- where neither `)` nor `...` stands
either_false : (a b : Bool) → (a || b) ≡ false → (a ≡ false) × (b ≡ false)
either_false true b h = cc
either_false false b h = (refl, h)

unfound : (x : Place) → is_found x ≡ false → x ≡ Lost
unfound Lost h = refl
unfound (At q e text) h = cc

pub not_shut : {x : Place} → (is_found (forth (pun ")") x) || is_found (forth (pun "...") x)) ≡ false → Stuck (pun ")") x
not_shut {x} h = record { is = unfound (forth (pun ")") x) (either_false (is_found (forth (pun ")") x)) (is_found (forth (pun "...") x)) h).0 }

pub not_rest : {x : Place} → (is_found (forth (pun ")") x) || is_found (forth (pun "...") x)) ≡ false → Stuck (pun "...") x
not_rest {x} h = record { is = unfound (forth (pun "...") x) (either_false (is_found (forth (pun ")") x)) (is_found (forth (pun "...") x)) h).1 }

pub inside_of : {v : Surroundings} {x x' z : Place} {c : Cover} → x' ≡ x → (is_found (forth (pun ")") x) || is_found (forth (pun "...") x)) ≡ false → IsCover v 1 x' c z → closed z ≡ true → IsInside v x c z
inside_of {v} {z = z} {c} e h i s = record { cover = subst (λ p. IsCover v 1 p c z) e i; ended = s; not_shut = not_shut h; not_rest = not_rest h }

-- why several are no sequence
pub trails_unread : (q : Group) → q.trails ≡ true → is_sequence q ≡ false
trails_unread q h = ap (λ b. are_exprs q.all.items && (not (has_rest q.rest) && not b)) h ∙ last_false (are_exprs q.all.items) (not (has_rest q.rest))
  where
    last_false : (a b : Bool) → (a && (b && false)) ≡ false
    last_false true true = refl
    last_false true false = refl
    last_false false b = refl

pub rest_unread : (q : Group) → has_rest q.rest ≡ true → is_sequence q ≡ false
rest_unread q h = ap (λ b. are_exprs q.all.items && (not b && not q.trails)) h ∙ middle_false (are_exprs q.all.items) (not q.trails)
  where
    middle_false : (a c : Bool) → (a && (false && c)) ≡ false
    middle_false true c = refl
    middle_false false c = refl

pub covers_unread : (q : Group) → are_exprs q.all.items ≡ false → is_sequence q ≡ false
covers_unread q h = ap (λ b. b && (not (has_rest q.rest) && not q.trails)) h

pub sequence_read : (q : Group) → are_exprs q.all.items ≡ true → has_rest q.rest ≡ false → q.trails ≡ false → is_sequence q ≡ true
sequence_read q a r t = (λ i. a i && (not (r i) && not (t i)))

-- ---- from and to equal places

pub moves_to : {s : Sign} {y : Place} {z z' : Here} → z' ≡ z → Moves s y (place_of z) → Moves s y (place_of z')
moves_to {s} {y} e m = subst (λ h. Moves s y (place_of h)) (sym e) m

pub moves_from : {s : Sign} {x x' : Here} {y : Place} → x' ≡ x → Moves s (place_of x') y → Moves s (place_of x) y
moves_from {s} {y = y} e m = subst (λ h. Moves s (place_of h) y) e m

pub barred_from : {v : Surroundings} {p : Symbol} {x x' : Here} {o : Fault} → x' ≡ x → Barred so_far v p (place_of x') o → Barred so_far v p (place_of x) o
barred_from {v} {p} {o = o} e b = subst (λ h. Barred so_far v p (place_of h) o) e b

pub row_from : {v : Surroundings} {ps : List Piece} {ts : Forest} {x x' : Here} {y : Place} → x' ≡ x → OnlyRow so_far v ps (place_of x') ts y → OnlyRow so_far v ps (place_of x) ts y
row_from {v} {ps} {ts} {y = y} e o = subst (λ h. OnlyRow so_far v ps (place_of h) ts y) e o

pub no_row_from : {v : Surroundings} {ps : List Piece} {x x' : Here} {o : Fault} → x' ≡ x → NoRow so_far v ps (place_of x') o → NoRow so_far v ps (place_of x) o
no_row_from {v} {ps} {o = o} e n = subst (λ h. NoRow so_far v ps (place_of h) o) e n

pub no_cover_from : {v : Surroundings} {x x' : Here} {o : Fault} → x' ≡ x → NoCover v 1 (place_of x') o → NoCover v 1 (place_of x) o
no_cover_from {v} {o = o} e n = subst (λ h. NoCover v 1 (place_of h) o) e n

-- ---- whether `=>` comes next

pub arrow_guard : {x y : Here} {b : Bool} → y ≡ x → settled (place_of x) ≡ true → b ≡ same (next_token Operator x).raw (codes "=>") → b ≡ true → Stuck unless_arrow (place_of y)
arrow_guard {x} e s f h = record { is = ap (λ p. forth unless_arrow (place_of p)) e ∙ an_arrow x s (sym f ∙ h) }

pub guard_kept : {x y : Here} {b : Bool} → y ≡ x → settled (place_of x) ≡ true → b ≡ same (next_token Operator x).raw (codes "=>") → b ≡ false → Moves unless_arrow (place_of y) (place_of y)
guard_kept {x} e s f h = record { is = ap place_of e ∙ (sym (no_arrow_next x s (sym f ∙ h)) ∙ sym (ap (λ p. forth unless_arrow (place_of p)) e)); found = refl }

pub no_arrow_at : {x y : Here} {b : Bool} → y ≡ x → b ≡ same (next_token Operator x).raw (codes "=>") → b ≡ false → forth (pun "=>") (place_of y) ≡ Lost
no_arrow_at {x} e f h = ap (λ p. forth (pun "=>") (place_of p)) e ∙ no_arrow_sign x (sym f ∙ h)

pub paren_settles : {n : ℕ} {x y : Here} → y ≡ x → settled (place_of x) ≡ true → Settles n (place_of y)
paren_settles e s = record { on = λ h. ap (λ p. settled (place_of p)) e ∙ s }

pub paren_ended : {x y : Here} → y ≡ x → settled (place_of x) ≡ true → closed (place_of y) ≡ true
paren_ended {x} e s = ap (λ p. closed (place_of p)) e ∙ closed_of (place_of x) s

-- ---- several, as the loop reads them

pub group_trailing : {v : Surroundings} {c : Cover} {x : Place} {y y' : Here} (q : Group) → y' ≡ y → PassesFrom v c x q.all.items (place_of y) → is_found (forth (pun ")") (place_of y)) ≡ true → q.rest ≡ None → q.trails ≡ true → OnlyGroup v c q x (place_of y')
group_trailing {v} {c} {x} q e p f r t = subst (λ h. OnlyGroup v c q x (place_of h)) (sym e) (record { on = λ w z i m. trailing_contents q (p.on w z i m) f r t })

pub group_rest : {v : Surroundings} {c : Cover} {x a z : Place} {y y' : Here} (q : Group) (t : Box Pat Global) → y' ≡ y → PassesFrom v c x q.all.items (place_of y) → Moves (pun "...") (place_of y') a → Built so_far v (tail rest_row) (function (RestPat Binds)) (λ ts. ts) (view_pat t.value) a z → q.rest ≡ Some t → OnlyGroup v c q x z
group_rest q t e p m b r = record { on = λ w z i n. rest_contents q t (p.on w z i n) (moves_from e m) b r }

pub group_no_rest : {v : Surroundings} {c : Cover} {cs : List Cover} {x a : Place} {y y' : Here} {o : Fault} → y' ≡ y → PassesFrom v c x cs (place_of y) → Moves (pun "...") (place_of y') a → NoRow so_far v (tail rest_row) a o → NoGroup v c x o
group_no_rest {y = y} e p m n =
    let here = moves_from e m in
    let there : IsTrue (is_found (forth (pun "...") (place_of y))) = found_at (sym here.is) here.found in
    record { no = λ w z i k. nothing_more (p.on w z i k) (dotted_value there) (λ u b q s. (no_rest_param here n).no (one u) b (tree q) s) (record { is = unfound_by (forth (pun ")") (place_of y)) (λ f. never_both Punctuator Punctuator (codes "...") (codes ")") (place_of y) refl there f) }) }
  where
    unfound_by : (b : Place) → (IsTrue (is_found b) → ⊥) → b ≡ Lost
    unfound_by Lost f = refl
    unfound_by (At q d text) f = absurd (f refl)

pub group_inside : {v : Surroundings} {c : Cover} {z : Place} {y y1 y2 : Here} → y1 ≡ y → y2 ≡ y1 → is_found (forth (pun ")") (place_of y)) ≡ false → forth (pun "...") (place_of y1) ≡ Lost → IsCover v 1 (place_of y2) c z → closed z ≡ true → IsInside v (place_of y) c z
group_inside {v} {c} {z} {y} e d f l i s = record {
  cover = subst (λ h. IsCover v 1 (place_of h) c z) (d ∙ e) i;
  ended = s;
  not_shut = record { is = unfound (forth (pun ")") (place_of y)) f };
  not_rest = record { is = sym (ap (λ h. forth (pun "...") (place_of h)) e) ∙ l };
}

pub group_unread : {v : Surroundings} {c : Cover} {cs : List Cover} {x : Place} {y y1 y2 : Here} {o : Fault} → y1 ≡ y → y2 ≡ y1 → PassesFrom v c x cs (place_of y) → is_found (forth (pun ")") (place_of y)) ≡ false → forth (pun "...") (place_of y1) ≡ Lost → NoCover v 1 (place_of y2) o → NoGroup v c x o
group_unread {v} {y = y} {o = o} e d p f l n =
    let here : NoCover v 1 (place_of y) o = no_cover_from (d ∙ e) n in
    let dots : Stuck (pun "...") (place_of y) = record { is = sym (ap (λ h. forth (pun "...") (place_of h)) e) ∙ l } in
    record { no = λ w z i k. nothing_more (p.on w z i k) here.none (no_param here dots) (record { is = unfound (forth (pun ")") (place_of y)) f }) }

pub group_last : {v : Surroundings} {c next : Cover} {cs : List Cover} {x y : Place} {z z' : Here} (q : Group) → z' ≡ z → PassesFrom v c x cs y → IsInside v y next (place_of z) → forth (pun ",") (place_of z) ≡ Lost → q.all.items ≡ cs ++ next ∷ [] → q.rest ≡ None → q.trails ≡ false → OnlyGroup v c q x (place_of z')
group_last {v} {c} {x = x} q e p i l a r t = subst (λ h. OnlyGroup v c q x (place_of h)) (sym e) (record { on = λ w b j m. last_contents q (p.on w b j m) i (record { is = l }) a r t })
