-- What stands in parentheses, up to the `)`: an expression, or the parameters of an arrow function that it turns into (ECMA-262 sections 13.2.9 and 15.3).
use Rattle.std.proofs.Common.{◌≡◌, Bool, true, false, not, List, [], ◌∷◌, ◌++◌, append-nil, refl, sym, ◌∙◌, ap, subst, None, Some, Box, Global}
use Rattle.std.specs.Prelude.{IsTrue, ◌&&◌, ◌||◌}
use Rattle.jsx_tree.specs.Kinds.{Binds, RestPat, Kind, function, Tree, none, part}
use Rattle.jsx_tree.specs.Nonterminals.{Expr}
use Rattle.jsx_tree.specs.Grammar.{Part, pun}
use Rattle.jsx_tree.specs.Reading.{Place, forth}
use Rattle.jsx_tree.specs.StaticRules.{Surroundings}
use Rattle.jsx_tree.specs.Walk.{is_found, Given, Past, tree, tail}
use Rattle.jsx_tree.specs.Language.{Whole}
use Rattle.jsx_tree.specs.Answers.{Moves, Stuck, Barred, Built}
use Rattle.jsx_tree.specs.View.{view_pat}
use Rattle.jsx_tree.specs.declared.tree.Pat.{Pat}
use Rattle.jsx_tree.specs.Faults.{Fault, Unread, Shallow, given_depth}
use Rattle.jsx_tree.proofs.Tokens.{and_left, and_right}
use Rattle.jsx_tree.proofs.Apart.{clash}
use Rattle.jsx_tree.proofs.Rows.Bridge.{found_at}
use Rattle.jsx_tree.proofs.Rows.Closers.{closes}
use Rattle.jsx_tree.proofs.Rows.Laws.{shut_out}
use Rattle.jsx_tree.proofs.Rows.Lists.{round}
use Rattle.jsx_tree.proofs.Rows.Steps.{both, any_barred}
use Rattle.jsx_tree.proofs.Rows.Stopping.{is_not, or_cases}
use Rattle.jsx_token.specs.Growths.{opening_sign, same_sign}
use Rattle.jsx_token.proofs.Levels.{grows_on}
use Rattle.jsx_token.proofs.Listed.{every, kinds, of_each}
use Rattle.jsx_operand.specs.Covers.{view_cover}
use Rattle.jsx_operand.specs.SoFar.{so_far}
use Rattle.jsx_operand.specs.declared.cover.Cover.{Cover}
use Rattle.jsx_operand.proofs.OfSoFar.{of_so_far}
use Rattle.jsx_operand.proofs.Values.{First, begun, bracket_none, bracketed, literal_opening, name, one_opening, opened, opened_sign, opener, opener_of, opener_piece, piece_of, quoted}
use Rattle.jsx_expression.specs.Arrows.{Contents, IsInside, TurnCovers, are_exprs, has_rest, is_sequence, sequence_of, view_covers, view_rest}
use Rattle.jsx_expression.specs.declared.arrow.Group.{Group}
use Rattle.jsx_expression.proofs.CoverParams.{Lasting, Passing, cover_param, lasting_none, lasting_one, lasting_rest, params_alone, params_reads, passing_both, passing_none, passing_one}
use Rattle.jsx_function.proofs.Defaults.{rest_row}
use Rattle.jsx_function.proofs.Params.{rest_param}
use Rattle.jsx_member.proofs.Sequences.{Listing, listing_more, listing_one, sequence_barred, sequence_only, whole_barred, whole_only}

-- ---- where no expression begins

shut_value : {v : Surroundings} {x : Place} {e : Fault} → IsTrue (is_found (forth (pun ")") x)) → Barred so_far v (Part (Expr 1)) x e
shut_value f = shut_out of_so_far refl (closes round f)

abbrev undotted_opening : Kind → Bool
undotted_opening k = grows_on k || not (same_sign (opening_sign k) (pun "..."))

all_undotted : every undotted_opening kinds ≡ true
all_undotted = refl

dotted_first : {v : Surroundings} {x p : Place} {f : Tree} → IsTrue (is_found (forth (pun "...") x)) → First v x f p → ⊥
dotted_first {x = x} there (name l {t} h w g i) = literal_opening l t (pun "...") x (opener (pun "...") refl) h (found_at g i) there
dotted_first there (bracketed d b r) = bracket_none (opener (pun "...") refl) refl there b r
dotted_first {x = x} there (quoted d q r) = opener_piece x (opener (pun "...") refl) there (piece_of q r)
dotted_first {x = x} there (opened d {k} m g q) =
    clash _ (one_opening (opening_sign k) (pun "...") x (opener_of k m g) (opener (pun "...") refl) (opened_sign k m g q) there)
    (is_not _ (or_cases (grows_on k) _ (of_each undotted_opening all_undotted k m) (λ h. absurd (clash _ h g)) (λ n. n)))

pub dotted_value : {v : Surroundings} {x : Place} {e : Fault} → IsTrue (is_found (forth (pun "...") x)) → Barred so_far v (Part (Expr 1)) x e
dotted_value {v} {x} {e = e} there = record { no = at }
  where
    at : (h : Given) (z : Place) → Past (Whole so_far) v (Part (Expr 1)) x h z → Shallow e (given_depth h) → ⊥
    at h z (tree {t = u} q) s = dotted_first there (begun {c = Expr 1} refl u q.reads).first

-- behind a `(`, where `)` or `...` comes
pub no_expression : {v : Surroundings} {x : Place} {e : Fault} → (is_found (forth (pun ")") x) || is_found (forth (pun "...") x)) ≡ true → Barred so_far v (Part (Expr 0)) x e
no_expression {v} {x} h = or_cases (is_found (forth (pun ")") x)) (is_found (forth (pun "...") x)) h (λ f. whole_barred (shut_value f)) (λ f. whole_barred (dotted_value f))

-- ---- covers one behind another, with commas behind them

are_snoc : (cs : List Cover) (c : Cover) → are_exprs (cs ++ c ∷ []) ≡ (are_exprs cs && c.is_expr)
are_snoc [] c = last_true c.is_expr
  where
    last_true : (b : Bool) → (b && true) ≡ b
    last_true true = refl
    last_true false = refl
are_snoc (d ∷ cs) c = ap (λ b. d.is_expr && b) (are_snoc cs c) ∙ grouped d.is_expr (are_exprs cs) c.is_expr
  where
    grouped : (a b c : Bool) → (a && (b && c)) ≡ ((a && b) && c)
    grouped true b c = refl
    grouped false b c = refl

views_snoc : (cs : List Cover) (c : Cover) → view_covers (cs ++ c ∷ []) ≡ both (view_covers cs) (part (view_cover c) none)
views_snoc [] c = refl
views_snoc (d ∷ cs) c = ap (part (view_cover d)) (views_snoc cs c)

pub record Passes (v : Surroundings) (x : Place) (cs : List Cover) (y : Place) : Type 0 where
  pub first : Cover
  pub others : List Cover
  pub is : cs ≡ first ∷ others
  pub params : Passing v x cs y
  pub listing : are_exprs cs ≡ true → Listing v x (view_covers cs) y
  pub barred : are_exprs cs ≡ false → Barred so_far v (Part (Expr 0)) x Unread

-- the trees of those with one at least
led_listing : {v : Surroundings} {x y : Place} {cs : List Cover} → (p : Passes v x cs y) → are_exprs cs ≡ true → Listing v x (part (view_cover p.first) (view_covers p.others)) y
led_listing {v} {x} {y} p h = subst (λ es. Listing v x (view_covers es) y) p.is (p.listing h)

-- whether they are expressions
by_exprs : {P : Type 0} (cs : List Cover) → (are_exprs cs ≡ true → P) → (are_exprs cs ≡ false → P) → P
by_exprs {P} cs f g = by (are_exprs cs) refl
  where
    by : (b : Bool) → are_exprs cs ≡ b → P
    by true e = f e
    by false e = g e

-- where no expression stands behind them no sequence does
pub passes_barred : {v : Surroundings} {x y : Place} {cs : List Cover} {e : Fault} → Passes v x cs y → Barred so_far v (Part (Expr 1)) y e → Barred so_far v (Part (Expr 0)) x e
passes_barred {cs = cs} p b = by_exprs cs (λ h. sequence_barred (led_listing p h) b) (λ h. any_barred (p.barred h))

alone_true : (b : Bool) → (b && true) ≡ true → b ≡ true
alone_true true h = refl
alone_true false h = cc

alone_false : (b : Bool) → (b && true) ≡ false → b ≡ false
alone_false true h = cc
alone_false false h = refl

pub passes_one : {v : Surroundings} {x y z : Place} {c : Cover} {cs : List Cover} → cs ≡ c ∷ [] → IsInside v x c y → Moves (pun ",") y z → Passes v x cs z
passes_one {v} {x} {y} {z} {c} e i m = subst (λ ds. Passes v x ds z) (sym e) (record {
  first = c;
  others = [];
  is = refl;
  params = passing_one (cover_param i) i.not_shut m;
  listing = λ h. listing_one (i.cover.expr (alone_true c.is_expr h)) i.ended m;
  barred = λ h. whole_barred (i.cover.none (alone_false c.is_expr h));
})

left_false : (a b : Bool) → (a && b) ≡ false → a ≡ true → b ≡ false
left_false true b h e = h
left_false false b h e = cc

pub passes_more : {v : Surroundings} {x y z w : Place} {c : Cover} {cs ds : List Cover} → Passes v x cs y → IsInside v y c z → Moves (pun ",") z w → ds ≡ cs ++ c ∷ [] → Passes v x ds w
passes_more {v} {x} {y} {z} {w} {c} {cs} p i m e = subst (λ es. Passes v x es w) (sym e) (record {
  first = p.first;
  others = p.others ++ c ∷ [];
  is = ap (λ es. es ++ c ∷ []) p.is;
  params = passing_both p.params (passing_one (cover_param i) i.not_shut m);
  listing = λ h. let b = sym (are_snoc cs c) ∙ h in listing_more (p.listing (and_left (are_exprs cs) c.is_expr b)) (i.cover.expr (and_right (are_exprs cs) c.is_expr b)) i.ended m (views_snoc cs c);
  barred = λ h. by_exprs cs (λ k. sequence_barred (led_listing p k) (i.cover.none (left_false (are_exprs cs) c.is_expr (sym (are_snoc cs c) ∙ h) k))) p.barred;
})

-- ---- what stands in the parentheses, where the `)` comes

no_sequence : (a b : Bool) → (a && (b && false)) ≡ true → ⊥
no_sequence true true h = cc
no_sequence true false h = cc
no_sequence false b h = cc

rest_sequence : (a c : Bool) → (a && (false && c)) ≡ true → ⊥
rest_sequence true c h = cc
rest_sequence false c h = cc

-- one cover
pub one_contents : {v : Surroundings} {x y : Place} {c : Cover} → IsInside v x c y → Stuck (pun ",") y → Contents v c.is_expr (view_cover c) (c ∷ []) none x y
one_contents {v} {x} {y} {c} i k = record {
  expr = λ h. whole_only (i.cover.expr h) i.ended k.is;
  barred = λ h. whole_barred (i.cover.none h);
  reads = params_reads [] passing_none (lasting_one (cover_param i) i.not_shut k);
  alone = params_alone [] passing_none (lasting_one (cover_param i) i.not_shut k);
}

-- a comma at the end
pub trailing_contents : {v : Surroundings} {x y : Place} (q : Group) → Passes v x q.all.items y → IsTrue (is_found (forth (pun ")") y)) → q.rest ≡ None → q.trails ≡ true → Contents v (is_sequence q) (sequence_of q) q.all.items (view_rest q.rest) x y
trailing_contents {v} {x} {y} q p f r t = record {
  expr = λ h. absurd (no_sequence (are_exprs q.all.items) (not (has_rest q.rest)) (subst (λ b. (are_exprs q.all.items && (not (has_rest q.rest) && not b)) ≡ true) t h));
  barred = λ h. passes_barred p (shut_value f);
  reads = λ ps z k m. params_reads q.all.items p.params (lasting_none f) ps z (subst (λ cs. TurnCovers cs none ps) (sym (append-nil q.all.items)) (subst (λ o. TurnCovers q.all.items (view_rest o) ps) r k)) m;
  alone = λ ts z walk.
      let a = params_alone q.all.items p.params (lasting_none f) ts z walk in
      record { params = a.params; is = a.is; turns = subst (λ o. TurnCovers q.all.items (view_rest o) a.params) (sym r) (subst (λ cs. TurnCovers cs none a.params) (append-nil q.all.items) a.turns); closes = a.closes };
}

-- a rest at the end
pub rest_contents : {v : Surroundings} {x y a z : Place} (q : Group) (t : Box Pat Global) → Passes v x q.all.items y → Moves (pun "...") y a → Built so_far v (tail rest_row) (function (RestPat Binds)) (λ ts. ts) (view_pat t.value) a z → q.rest ≡ Some t → Contents v (is_sequence q) (sequence_of q) q.all.items (view_rest q.rest) x z
rest_contents {v} {x} {y} {a} {z} q t p m b r = record {
  expr = λ h. absurd (rest_sequence (are_exprs q.all.items) (not q.trails) (subst (λ o. (are_exprs q.all.items && (not (has_rest o) && not q.trails)) ≡ true) r h));
  barred = λ h. passes_barred p (dotted_value (found_at (sym m.is) m.found));
  reads = λ ps w k n. params_reads q.all.items p.params lasts ps w (subst (λ cs. TurnCovers cs (view_rest (Some t)) ps) (sym (append-nil q.all.items)) (subst (λ o. TurnCovers q.all.items (view_rest o) ps) r k)) n;
  alone = λ ts w walk.
      let c = params_alone q.all.items p.params lasts ts w walk in
      record { params = c.params; is = c.is; turns = subst (λ o. TurnCovers q.all.items (view_rest o) c.params) (sym r) (subst (λ cs. TurnCovers cs (view_rest (Some t)) c.params) (append-nil q.all.items) c.turns); closes = c.closes };
}
  where
    lasts : Lasting v y [] (view_rest (Some t)) z
    lasts = lasting_rest (rest_param m b) b.is

-- a cover at the end
pub last_contents : {v : Surroundings} {x y z : Place} {c : Cover} {cs : List Cover} (q : Group) → Passes v x cs y → IsInside v y c z → Stuck (pun ",") z → q.all.items ≡ cs ++ c ∷ [] → q.rest ≡ None → q.trails ≡ false → Contents v (is_sequence q) (sequence_of q) q.all.items (view_rest q.rest) x z
last_contents {v} {x} {y} {z} {c} {cs} q p i k e r t = record {
  expr = λ h. let b = sym (are_snoc cs c) ∙ (sym (ap are_exprs e) ∙ and_left (are_exprs q.all.items) _ h) in
      sequence_only (led_listing p (and_left (are_exprs cs) c.is_expr b)) (i.cover.expr (and_right (are_exprs cs) c.is_expr b)) i.ended k.is (ap view_covers e ∙ (views_snoc cs c ∙ ap (λ es. both (view_covers es) (part (view_cover c) none)) p.is)) refl;
  barred = λ h. by_exprs cs (λ g. sequence_barred (led_listing p g) (i.cover.none (left_false (are_exprs cs) c.is_expr (sym (are_snoc cs c) ∙ (sym (ap are_exprs e) ∙ unsequenced h)) g))) p.barred;
  reads = λ ps w j m. params_reads cs p.params lasts ps w (subst (λ es. TurnCovers es none ps) e (subst (λ o. TurnCovers q.all.items (view_rest o) ps) r j)) m;
  alone = λ ts w walk.
      let a = params_alone cs p.params lasts ts w walk in
      record { params = a.params; is = a.is; turns = subst (λ o. TurnCovers q.all.items (view_rest o) a.params) (sym r) (subst (λ es. TurnCovers es none a.params) (sym e) a.turns); closes = a.closes };
}
  where
    lasts : Lasting v y (c ∷ []) none z
    lasts = lasting_one (cover_param i) i.not_shut k

    alone : (a : Bool) → (a && true) ≡ false → a ≡ false
    alone true h = cc
    alone false h = refl

    unsequenced : is_sequence q ≡ false → are_exprs q.all.items ≡ false
    unsequenced h = alone (are_exprs q.all.items) (subst (λ b. (are_exprs q.all.items && (not (has_rest None) && not b)) ≡ false) t (subst (λ o. (are_exprs q.all.items && (not (has_rest o) && not q.trails)) ≡ false) r h))

-- ---- as the loop reads them, wherever the first was read from

pub record PassesFrom (v : Surroundings) (first : Cover) (x : Place) (cs : List Cover) (y : Place) : Type 0 where
  pub on : (w z : Place) → IsInside v w first z → Moves (pun ",") z x → Passes v w cs y
