-- Templates: what stands behind the first piece, as a loop of the parser reads it, and a template as a whole.
use Rattle.std.proofs.Common.{◌≡◌, ◌≤◌, ℕ, Bool, true, false, List, [], ◌∷◌, ◌++◌, map, refl, sym, ◌∙◌, ap, subst, arith, Box, Global}
use Rattle.std.specs.Prelude.{IsTrue, ◌&&◌, ◌||◌}
use Rattle.jsx_base.specs.Token.{Text, Mode, Operator, Piece, TokenKind, NoSubstitution, TemplateHead, TemplateMiddle, TemplateTail, Blank, breaks, is_kind, is_token, kind_number, same, skip}
use Rattle.jsx_tree.specs.declared.text.Text.{Text as TreeText}
use Rattle.jsx_tree.specs.declared.tree.Expr.{Expr}
use Rattle.jsx_tree.specs.Signs.{AfterExpr, Tok}
use Rattle.jsx_tree.specs.Kinds.{PlainTemplate, SubstitutedTemplate, TemplateSpan, Kind, expression, Tree, leaf, node, list, Forest, none, part}
use Rattle.jsx_tree.specs.Nonterminals as grammar
use Rattle.jsx_tree.specs.Nonterminals.{Nonterminal, TemplatePart, TemplateSpans, TemplateOf}
use Rattle.jsx_tree.specs.Grammar.{Adjacent, Context, Fixed, Many, Part}
use Rattle.jsx_tree.specs.Form.{admits, is_last, is_leaf}
use Rattle.jsx_tree.specs.Reading.{Place, Lost, At, forth, go_if}
use Rattle.jsx_tree.specs.StaticRules.{Surroundings, is_cooked}
use Rattle.jsx_tree.specs.Spans.{Told, tells, tale, no_tales}
use Rattle.jsx_tree.specs.Told.{tales, told_list, told_text, told_middles, told_closing}
use Rattle.jsx_tree.specs.View.{closing, forest, inside, middle, middles as middles_of, template, text_of, view_expr}
use Rattle.jsx_tree.specs.Walk.{is_found, Given, nothing, one, Piece as RowPiece, piece, Items, nil, last, more, Past, sign, tree, many, Walk, done, next, steady, tail}
use Rattle.jsx_tree.specs.Language.{Language, Whole}
use Rattle.jsx_tree.specs.Answers.{Only, Barred, OnlyRow, NoRow, NoNode, BuiltNode}
use Rattle.jsx_tree.specs.Faults.{Fault, Unread, Shallow, deepest, given_depth, outer, part_depth, Below}
use Rattle.jsx_tree.proofs.Tokens.{and_left, and_right, and_both, one_text, same_self}
use Rattle.jsx_tree.proofs.Apart.{clash, found_token}
use Rattle.jsx_tree.proofs.Rows.Bridge.{found_at}
use Rattle.jsx_tree.proofs.Rows.Stopping.{never_stops, or_cases}
use Rattle.jsx_tree.proofs.Rows.Guarded.{guarded, to_grammar, loosen, whole_walk}
use Rattle.jsx_tree.proofs.Rows.Bodies.{plain as plain_row}
use Rattle.jsx_tree.proofs.Rows.Firsts.{kind_home}
use Rattle.jsx_tree.proofs.Rows.Placing.{Chosen, only_node, barred_node, no_node, free, free_around, moved, node_shallow}
use Rattle.jsx_tree.proofs.Rows.Steps.{bar, both, end, on, then'}
use Rattle.jsx_tree.proofs.Rows.Turns.{From, Turn, item_of, prepend, prepend_cons, cons, turn_as, turn_both, turn_none, turn_only, whole_of, cons_up}
use Rattle.jsx_tree.proofs.Depth.Nodes.{counts_as}
use Rattle.jsx_tree.proofs.Rows.Lists.{no_items}
use Rattle.jsx_tree.proofs.Depth.Shallow.{shallow_tail, part_up, shallow_head, below_shallow}
use Rattle.jsx_token.specs.Here.{Here, place_of, sign_of}
use Rattle.jsx_token.specs.declared.lexer.Fixed.TheVariants as fixed
use Rattle.jsx_token.specs.Marks.{is_quoted, row_so_far}
use Rattle.jsx_token.specs.Seen.{next_token}
use Rattle.jsx_token.proofs.Alone.{alone}
use Rattle.jsx_token.proofs.Gaps.{is_behind}
use Rattle.jsx_token.proofs.Levels.{Quoted, undivided, divided}
use Rattle.jsx_token.specs.Growths.{settled}
use Rattle.jsx_operand.specs.SoFar.{Staged, so_far}
use Rattle.jsx_operand.specs.Climbing.{Begins, NoneBegins}
use Rattle.jsx_operand.specs.Templates.{IsDivided, IsOf, IsPiece, IsRest, IsTemplate, NoMiddle, NoRest, NoTemplate, behind_first, behind_head, fits_tag, plain, rest_of, substituted, told_rest}
use Rattle.jsx_operand.proofs.OfSoFar.{of_so_far}
use Rattle.jsx_operand.proofs.Homes.{home_of, leaf_one, only_leaf, no_leaf, no_list, taken_by, heads, middles, tails, wholes}
use Rattle.jsx_operand.proofs.Standing.{standing}
use Rattle.jsx_operand.proofs.Tags.{one_tag, template_kind}
use Rattle.jsx_operand.proofs.Values.{Quote as Opening, Stands, whole_there, head_there, one_kind}
use Rattle.jsx_operand.proofs.Openings.{quoted_follows, unread_quoted}

-- ---- spans, as they are read so far

abbrev pub spans : Bool → List TreeText → List Tree → List Tree
spans b (p ∷ ps) (t ∷ ts) = middle b t p ∷ spans b ps ts
spans b ps ts = []

abbrev pub told_spans : List TreeText → List Told → List Told
told_spans (p ∷ ps) (d ∷ ds) = tells [] (tales (d ∷ told_text p ∷ [])) ∷ told_spans ps ds
told_spans ps ds = []

-- as many pieces as expressions
pub data Even (A : Type 0) : List TreeText → List A → Type 0 where
  even_none : Even A [] []
  even_one : {p : TreeText} {x : A} {ps : List TreeText} {xs : List A} → Even A ps xs → Even A (p ∷ ps) (x ∷ xs)

pub even_more : {A : Type 0} {ps : List TreeText} {xs : List A} (p : TreeText) (x : A) → Even A ps xs → Even A (ps ++ p ∷ []) (xs ++ x ∷ [])
even_more p x even_none = even_one even_none
even_more p x (even_one e) = even_one (even_more p x e)

pub even_map : {A B : Type 0} {ps : List TreeText} {xs : List A} (f : A → B) → Even A ps xs → Even B ps (map f xs)
even_map f even_none = even_none
even_map f (even_one e) = even_one (even_map f e)

pub even_as : {A : Type 0} {ps qs : List TreeText} {xs ys : List A} → qs ≡ ps → ys ≡ xs → Even A ps xs → Even A qs ys
even_as {A} {ps} {xs = xs} {ys} e f h = subst (λ rs. Even A rs ys) (sym e) (subst (λ zs. Even A ps zs) (sym f) h)

pub spans_more : (b : Bool) {ps : List TreeText} {ts : List Tree} (p : TreeText) (t : Tree) → Even Tree ps ts → spans b (ps ++ p ∷ []) (ts ++ t ∷ []) ≡ spans b ps ts ++ middle b t p ∷ []
spans_more b p t even_none = refl
spans_more b p t (even_one {p = q} {x = u} e) = ap (λ us. middle b u q ∷ us) (spans_more b p t e)

pub told_more : {ps : List TreeText} {ds : List Told} (p : TreeText) (d : Told) → Even Told ps ds → told_spans (ps ++ p ∷ []) (ds ++ d ∷ []) ≡ told_spans ps ds ++ tells [] (tales (d ∷ told_text p ∷ [])) ∷ []
told_more p d even_none = refl
told_more p d (even_one {p = q} {x = e} h) = ap (λ es. tells [] (tales (e ∷ told_text q ∷ [])) ∷ es) (told_more p d h)

middles_end : (b : Bool) {ps : List TreeText} {ts : List Tree} (p : TreeText) (t : Tree) → Even Tree ps ts → middles_of b (ps ++ p ∷ []) (ts ++ t ∷ []) ≡ forest (spans b ps ts)
middles_end b p t even_none = refl
middles_end b p t (even_one even_none) = refl
middles_end b p t (even_one {p = q} {x = u} (even_one e)) = ap (part (middle b u q)) (middles_end b p t (even_one e))

closing_end : {ps : List TreeText} {ts : List Tree} (p : TreeText) (t : Tree) → Even Tree ps ts → closing (ps ++ p ∷ []) (ts ++ t ∷ []) ≡ part t (part (leaf TemplateTail (text_of p)) none)
closing_end p t even_none = refl
closing_end p t (even_one even_none) = refl
closing_end p t (even_one (even_one e)) = closing_end p t (even_one e)

told_middles_end : {ps : List TreeText} {ds : List Told} (p : TreeText) (d : Told) → Even Told ps ds → told_middles (ps ++ p ∷ []) (ds ++ d ∷ []) ≡ told_spans ps ds
told_middles_end p d even_none = refl
told_middles_end p d (even_one even_none) = refl
told_middles_end p d (even_one {p = q} {x = e} (even_one h)) = ap (λ es. tells [] (tales (e ∷ told_text q ∷ [])) ∷ es) (told_middles_end p d (even_one h))

told_closing_end : {ps : List TreeText} {ds : List Told} (p : TreeText) (d : Told) → Even Told ps ds → told_closing (ps ++ p ∷ []) (ds ++ d ∷ []) ≡ d ∷ told_text p ∷ []
told_closing_end p d even_none = refl
told_closing_end p d (even_one even_none) = refl
told_closing_end p d (even_one (even_one h)) = told_closing_end p d (even_one h)

-- with a last expression and the last piece
pub rest_end : (b : Bool) {ps : List TreeText} {ts : List Tree} (p : TreeText) (t : Tree) → Even Tree ps ts → rest_of b (ps ++ p ∷ []) (ts ++ t ∷ []) ≡ part (list (forest (spans b ps ts))) (part t (part (leaf TemplateTail (text_of p)) none))
rest_end b p t e = λ i. part (list (middles_end b p t e i)) (closing_end p t e i)

pub told_end : {ps : List TreeText} {ds : List Told} (p : TreeText) (d : Told) → Even Told ps ds → told_rest (ps ++ p ∷ []) (ds ++ d ∷ []) ≡ tale (tells [] (tales (told_spans ps ds))) (tale d (tale (told_text p) no_tales))
told_end p d e = λ i. tales (told_list (told_middles_end p d e i) ∷ told_closing_end p d e i)

pub forest_more : (ts : List Tree) (t : Tree) → forest (ts ++ t ∷ []) ≡ both (forest ts) (part t none)
forest_more [] t = refl
forest_more (u ∷ ts) t = ap (part u) (forest_more ts t)

-- all pieces, of which one more is pushed
pub behind_pushed : (head : TreeText) (xs ys : List TreeText) (p : TreeText) → xs ≡ head ∷ behind_first xs → ys ≡ xs ++ p ∷ [] → ys ≡ head ∷ (behind_first xs ++ p ∷ [])
behind_pushed head xs ys p e f = f ∙ ap (λ zs. zs ++ p ∷ []) e

pub is_divided : {b : Bool} (head q : TreeText) (ps zs : List TreeText) (xs : List (Box Expr Global)) → zs ≡ head ∷ (ps ++ q ∷ []) → IsDivided b head zs xs
is_divided {b} head q ps zs xs e = subst (λ ys. IsDivided b head ys xs) (sym e) (by ps)
  where
    by : (ps : List TreeText) → IsDivided b head (head ∷ (ps ++ q ∷ [])) xs
    by [] = record { view = refl; told = λ at. refl }
    by (p ∷ ps) = record { view = refl; told = λ at. refl }

-- ---- pieces

lost_at : (x : Place) → (IsTrue (is_found x) → ⊥) → x ≡ Lost
lost_at Lost n = refl
lost_at (At q e text) n = absurd (n refl)

-- where one piece stands another kind doesn't
no_other : (m : Mode) (k l : TokenKind) (t u : Text) (x : Place) → (kind_number k ≡ kind_number l → ⊥) → IsTrue (is_found (forth (Tok m k t) x)) → forth (Tok m l u) x ≡ Lost
no_other m k l t u x n f = lost_at (forth (Tok m l u) x) (λ g. n (one_kind m k l t u x f g))

pub only_head : {v : Surroundings} {x y : Place} (t : Text) → y ≡ forth (Tok Operator TemplateHead t) x → IsTrue (is_found y) → is_leaf TemplateHead t ≡ true → Only so_far v (Part (TemplatePart TemplateHead)) x (one (leaf TemplateHead t)) y
only_head t e f w = only_leaf heads refl refl w e f

pub only_middle : {v : Surroundings} {x y : Place} (t : Text) → y ≡ forth (Tok Piece TemplateMiddle t) x → IsTrue (is_found y) → is_leaf TemplateMiddle t ≡ true → Only so_far v (Part (TemplatePart TemplateMiddle)) x (one (leaf TemplateMiddle t)) y
only_middle t e f w = only_leaf middles refl refl w e f

only_tail : {v : Surroundings} {x y : Place} (t : Text) → y ≡ forth (Tok Piece TemplateTail t) x → IsTrue (is_found y) → is_leaf TemplateTail t ≡ true → Only so_far v (Part (TemplatePart TemplateTail)) x (one (leaf TemplateTail t)) y
only_tail t e f w = only_leaf tails refl refl w e f

-- an expression is no piece
cooked : {v : Surroundings} {x y : Place} (t : Tree) → Staged v false (grammar.Expr 0) x t y → is_cooked t ≡ true
cooked (leaf NoSubstitution s) r = let bad = r.staged in cc
cooked (leaf TemplateHead s) r = let bad = r.staged in cc
cooked (leaf TemplateMiddle s) r = let bad = r.staged in cc
cooked (leaf TemplateTail s) r = let bad = r.staged in cc
cooked (leaf _ s) r = refl
cooked (node k ts) r = refl
cooked (list ts) r = refl

-- ---- a span

abbrev is_span : Bool → Kind → Bool
is_span true (expression (TemplateSpan true)) = true
is_span false (expression (TemplateSpan false)) = true
is_span b k = false

span_is : (b : Bool) (k : Kind) → is_span b k ≡ true → k ≡ expression (TemplateSpan b)
span_is true (expression (TemplateSpan true)) h = refl
span_is false (expression (TemplateSpan false)) h = refl
span_is _ _ h = cc

span_kind : (b : Bool) {v : Surroundings} {x y : Place} (l : Kind) (ts : Forest) → Staged v false (TemplateSpans b) x (node l ts) y → l ≡ expression (TemplateSpan b)
span_kind true l ts r = span_is true l (standing (TemplateSpans true) (is_span true) refl l (taken_by r) (kind_home (TemplateSpans true) l ts (home_of r)))
span_kind false l ts r = span_is false l (standing (TemplateSpans false) (is_span false) refl l (taken_by r) (kind_home (TemplateSpans false) l ts (home_of r)))

span_chosen : (b : Bool) {v : Surroundings} {x : Place} → Chosen so_far v (TemplateSpans b) (expression (TemplateSpan b)) x
span_chosen b = record { no_leaf = λ s t y w. let bad = w.reads.staged in cc; kind = λ l ts y w. span_kind b l ts w.reads }

span_closed : (b : Bool) → guarded (TemplateSpans b) (row_so_far (expression (TemplateSpan b))) ≡ true
span_closed true = refl
span_closed false = refl

-- spans count for nothing themselves
span_uncounted : (b : Bool) → counts_as false (expression (TemplateSpan b)) ≡ true
span_uncounted true = refl
span_uncounted false = refl

span_home : (b : Bool) (ts : Forest) → admits (TemplateSpans b) (node (expression (TemplateSpan b)) ts) ≡ true
span_home true ts = refl
span_home false ts = refl

span_only : (b : Bool) {v : Surroundings} {x y : Place} {t : Tree} → BuiltNode so_far v (row_so_far (expression (TemplateSpan b))) (expression (TemplateSpan b)) t x y → Only so_far v (Part (TemplateSpans b)) x (one t) y
span_only b {y = y} n = only_node of_so_far (span_chosen b) (span_closed b) refl (span_home b) (record { parts = n.parts; is = n.is; row = n.row }) n.keeps (of_so_far.ends_there (TemplateSpans b) y (never_stops (TemplateSpans b) y refl))

span_barred : {e : Fault} (b : Bool) {v : Surroundings} {x : Place} → NoNode so_far v (row_so_far (expression (TemplateSpan b))) (expression (TemplateSpan b)) x e → Barred so_far v (Part (TemplateSpans b)) x e
span_barred b n = barred_node false (span_uncounted b) of_so_far (span_chosen b) (span_closed b) refl n

-- its rule
span_keeps : (b : Bool) {v : Surroundings} {x y : Place} (t : Tree) (p : Text) → is_cooked t ≡ true → fits_tag b p ≡ true → Walk (Whole so_far) (steady v) (row_so_far (expression (TemplateSpan b))) x (part t (part (leaf TemplateMiddle p) none)) y → so_far.keeps (expression (TemplateSpan b)) v (part t (part (leaf TemplateMiddle p) none)) ≡ true
span_keeps true t p c f w = and_both _ _ (plain_row (row_so_far (expression (TemplateSpan true))) refl (to_grammar of_so_far w)) refl
span_keeps false t p c f w = and_both _ _ (and_both _ _ c (and_both _ _ f refl)) refl

span_fits : (b : Bool) (v : Surroundings) (t : Tree) (p : Text) → so_far.keeps (expression (TemplateSpan b)) v (part t (part (leaf TemplateMiddle p) none)) ≡ true → fits_tag b p ≡ true
span_fits true v t p k = refl
span_fits false v t p k = and_left (fits_tag false p) true (and_right (is_cooked t) _ (and_left (is_cooked t && (fits_tag false p && true)) true k))

span_built : (b : Bool) {v : Surroundings} {x y z w : Place} {t : Tree} (p : Text) → Only so_far v (Part (grammar.Expr 0)) x (one t) y → Only so_far v (Fixed (sign_of fixed.CloseBrace)) y nothing z → Only so_far v (Part (TemplatePart TemplateMiddle)) z (one (leaf TemplateMiddle p)) w → IsTrue (is_found w) → fits_tag b p ≡ true
    → BuiltNode so_far v (row_so_far (expression (TemplateSpan b))) (expression (TemplateSpan b)) (node (expression (TemplateSpan b)) (part t (part (leaf TemplateMiddle p) none))) x w
span_built b {v} {x} {w = w} {t} p o k m f h =
    let row : OnlyRow so_far v (row_so_far (expression (TemplateSpan b))) x (part t (part (leaf TemplateMiddle p) none)) w = then' o (then' k (then' m (end f))) in
    record { parts = part t (part (leaf TemplateMiddle p) none); is = refl; row = row; keeps = span_keeps b t p (cooked t (whole_of o.past).reads) h row.walk }

-- a middle piece
record Middle (x : Place) (u : Tree) : Type 0 where
  text : Text
  is : u ≡ leaf TemplateMiddle text
  found : IsTrue (is_found (forth (Tok Piece TemplateMiddle text) x))

middle_there : {v : Surroundings} {x y : Place} (u : Tree) → Staged v false (TemplatePart TemplateMiddle) x u y → Middle x u
middle_there (leaf TemplateMiddle t) r = record { text = t; is = refl; found = found_at r.reads.scans r.reads.found }
middle_there (leaf _ t) r = let bad = r.staged in cc
middle_there (node k ts) r = absurd (middles.node k ts (taken_by r) (home_of r))
middle_there (list ts) r = absurd (no_list r)

-- none stands there that may be one
no_span : {d : Fault} (b : Bool) {v : Surroundings} {x y z : Place} {t : Tree} → Only so_far v (Part (grammar.Expr 0)) x (one t) y → Only so_far v (Fixed (sign_of fixed.CloseBrace)) y nothing z → NoMiddle b z d → NoNode so_far v (row_so_far (expression (TemplateSpan b))) (expression (TemplateSpan b)) x d
no_span {d = d} b {v} {x} {y} {z} o k n = record { no = at }
  where
    unfit : (e : Tree) (u : Tree) → Middle z u → so_far.keeps (expression (TemplateSpan b)) v (part e (part u none)) ≡ true → Shallow d (part_depth u) → ⊥
    unfit e u m h s =
        let fit = span_fits b v e m.text (subst (λ s. so_far.keeps (expression (TemplateSpan b)) v (part e (part s none)) ≡ true) m.is h) in
        let bad : IsTrue (is_found Lost) = subst (λ p. IsTrue (is_found p)) (n.no m.text fit (subst (Shallow d) (ap part_depth m.is ∙ leaf_one TemplateMiddle m.text refl) s)) m.found in cc

    at : (ts : Forest) (w : Place) → Walk (Whole so_far) (steady v) (row_so_far (expression (TemplateSpan b))) x ts w → so_far.keeps (expression (TemplateSpan b)) v ts ≡ true → Shallow d (deepest ts) → ⊥
    at ts w (next {y = y'} (tree {t = e} q) (next {y = z'} (sign {s = s} g f) (next {y = w'} (tree {t = u} m) (done h)))) kept a =
        let first = o.alone (one e) y' (tree q) in
        let second = k.alone nothing z' (subst (λ p. Past (Whole so_far) v (Fixed s) p nothing z') (sym first.1) (sign g f)) in
        unfit e u (middle_there u (subst (λ p. Staged v false (TemplatePart TemplateMiddle) p u w') (sym second.1) m.reads)) kept (shallow_head d u none (shallow_tail d e (part u none) a))

-- one that stands there and may not be one
pub unfit_middle : (b : Bool) {x y : Place} {d : Fault} (p : Text) → y ≡ forth (Tok Piece TemplateMiddle p) x → IsTrue (is_found y) → fits_tag b p ≡ false → NoMiddle b x d
unfit_middle b {x} p e f n = record { no = λ t h s. lost_at (forth (Tok Piece TemplateMiddle t) x) (λ g. clash (fits_tag b t) h (ap (fits_tag b) (one_text Piece TemplateMiddle t p x g (found_at (sym e) f)) ∙ n)) }

-- where no level is left none may
pub deep_middle : (b : Bool) {x : Place} {e : Fault} → Below 0 e → NoMiddle b x e
deep_middle b {e = e} w = record { no = λ t h s. absurd (one_more (below_shallow 0 e 1 w s)) }
  where
    one_more : 1 ≤ 0 → ⊥
    one_more h = omega (arith, h)

-- ---- a list with nothing between

turn_span : {L : Language} {v : Surroundings} {a : List Context} {c : Nonterminal} {ps : List RowPiece} {x y : Place} {t : Tree} → is_last t ≡ false → IsTrue (is_found y) → Only L (steady v a) (Part c) x (one t) y → NoRow L v ps x Unread → Turn L v (piece a (Many Adjacent c) ∷ ps) (piece a (Many Adjacent c) ∷ ps) x y (cons t)
turn_span {L} {v} {a} {c} {ps} {x} {y} {t} early g o n = record { to = forward; from = back; rises = cons_up t }
  where
    ahead : (ts : Forest) (p : Place) → Items (Whole L) (steady v a) Adjacent c y ts p → Items (Whole L) (steady v a) Adjacent c x (part t ts) p
    ahead none p (nil f) = last (whole_of o.past) refl f
    ahead (part u us) p all = more early (whole_of o.past) refl all

    forward : (ts : Forest) (w : Place) → Walk (Whole L) (steady v) (piece a (Many Adjacent c) ∷ ps) y ts w → Walk (Whole L) (steady v) (piece a (Many Adjacent c) ∷ ps) x (cons t ts) w
    forward ts w (next {ts = vs} (many {ts = us} e all) walk) = next (many refl (ahead us _ all)) walk

    inner : (ts : Forest) (p : Place) → Items (Whole L) (steady v a) Adjacent c x ts p → (us : Forest) (w : Place) → Walk (Whole L) (steady v) ps p us w → From L v (piece a (Many Adjacent c) ∷ ps) y (cons t) (part (list ts) us) w
    inner ts p (nil f) us w walk = absurd (n.no us w walk tt)
    inner ts p (last {y = y'} {t = t'} r e f) us w walk =
        let same = o.alone (one t') y' (tree r) in
        record { parts = part (list none) us; is = λ i. part (list (part (item_of (same.0 i)) none)) us; walk = next (many refl (nil g)) (subst (λ q. Walk (Whole L) (steady v) ps q us w) (sym (same.1 ∙ e)) walk) }
    inner ts p (more {y = y'} {z = z'} {t = t'} {u = u} {us = vs} early' r e all) us w walk =
        let same = o.alone (one t') y' (tree r) in
        record { parts = part (list (part u vs)) us; is = λ i. part (list (part (item_of (same.0 i)) (part u vs))) us; walk = next (many refl (subst (λ q. Items (Whole L) (steady v a) Adjacent c q (part u vs) p) (sym (same.1 ∙ e)) all)) walk }

    back : (us : Forest) (w : Place) → Walk (Whole L) (steady v) (piece a (Many Adjacent c) ∷ ps) x us w → From L v (piece a (Many Adjacent c) ∷ ps) y (cons t) us w
    back us w (next {ts = vs} (many {ts = ts} e all) walk) = inner ts _ all vs w walk

turn_done : {L : Language} {v : Surroundings} {a : List Context} {c : Nonterminal} {ps : List RowPiece} {x : Place} → IsTrue (is_found x) → Barred L (steady v a) (Part c) x Unread → Turn L v (piece a (Many Adjacent c) ∷ ps) ps x x (part (list none))
turn_done {L} {v} {a} {c} {ps} {x} f b = record { to = λ ts w walk. next (many refl (nil f)) walk; from = back; rises = part_up (list none) }
  where
    inner : (ts : Forest) (y : Place) → Items (Whole L) (steady v a) Adjacent c x ts y → (us : Forest) (w : Place) → Walk (Whole L) (steady v) ps y us w → From L v ps x (part (list none)) (part (list ts) us) w
    inner ts y (nil f) us w walk = record { parts = us; is = refl; walk = walk }
    inner ts y (last r e f) us w walk = absurd (b.no _ _ (tree r) tt)
    inner ts y (more n r e all) us w walk = absurd (b.no _ _ (tree r) tt)

    back : (us : Forest) (w : Place) → Walk (Whole L) (steady v) (piece a (Many Adjacent c) ∷ ps) x us w → From L v ps x (part (list none)) us w
    back us w (next {z = z} {ts = vs} (many {ts = ts} e all) walk) = inner ts _ all vs w walk

-- ---- the steps of the loop

-- one more span
pub span_more : (b : Bool) {v : Surroundings} {x y z w u : Place} {t : Tree} {p : Text} (ts us : Forest) → Turn so_far v (behind_head b) (behind_head b) x y (prepend ts)
    → Only so_far v (Part (grammar.Expr 0)) y (one t) z → Only so_far v (Fixed (sign_of fixed.CloseBrace)) z nothing w → ((s : Text) → forth (Tok Piece TemplateTail s) w ≡ Lost) → Only so_far v (Part (TemplatePart TemplateMiddle)) w (one (leaf TemplateMiddle p)) u → IsTrue (is_found u) → fits_tag b p ≡ true
    → us ≡ both ts (part (node (expression (TemplateSpan b)) (part t (part (leaf TemplateMiddle p) none))) none) → Turn so_far v (behind_head b) (behind_head b) x u (prepend us)
span_more b {t = t} {p} ts us so o k n m f h e =
    turn_as (λ vs. prepend_cons ts (node (expression (TemplateSpan b)) (part t (part (leaf TemplateMiddle p) none))) vs ∙ (λ i. prepend (sym e i) vs))
    (turn_both so (turn_span refl f (span_only b (span_built b p o k m f h)) (on o (on k (bar (no_leaf tails n))))))

-- nothing more
no_more : {e : Fault} (b : Bool) {v : Surroundings} {x y : Place} (head : Text) (ts : Forest) → Turn so_far v (behind_head b) (behind_head b) x y (prepend ts) → IsTrue (is_found y) → Barred so_far v (Part (TemplateSpans b)) y e → NoRow so_far v (tail (behind_head b)) y e → NoRest v b head x e
no_more b head ts so f s n = record { no = λ us w walk h q. (turn_none so (no_items (λ t y r. r) s n)).no us w walk q }

pub no_part : {e : Fault} (b : Bool) {v : Surroundings} {x y : Place} (head : Text) (ts : Forest) → Turn so_far v (behind_head b) (behind_head b) x y (prepend ts) → IsTrue (is_found y) → Barred so_far v (Part (grammar.Expr 0)) y e → NoRest v b head x e
no_part b head ts so f n = no_more b head ts so f (span_barred b (no_node (bar n))) (bar n)

pub no_brace : {e : Fault} (b : Bool) {v : Surroundings} {x y z : Place} {t : Tree} (head : Text) (ts : Forest) → Turn so_far v (behind_head b) (behind_head b) x y (prepend ts) → IsTrue (is_found y) → Only so_far v (Part (grammar.Expr 0)) y (one t) z → Barred so_far v (Fixed (sign_of fixed.CloseBrace)) z e → NoRest v b head x e
no_brace b head ts so f o n = no_more b head ts so f (span_barred b (no_node (on o (bar n)))) (on o (bar n))

pub no_piece : {e : Fault} (b : Bool) {v : Surroundings} {x y z w : Place} {t : Tree} (head : Text) (ts : Forest) → Turn so_far v (behind_head b) (behind_head b) x y (prepend ts) → IsTrue (is_found y) → Only so_far v (Part (grammar.Expr 0)) y (one t) z → Only so_far v (Fixed (sign_of fixed.CloseBrace)) z nothing w
    → ((s : Text) → forth (Tok Piece TemplateTail s) w ≡ Lost) → NoMiddle b w e → NoRest v b head x e
no_piece b head ts so f o k n m = no_more b head ts so f (span_barred b (no_span b o k m)) (on o (on k (bar (no_leaf tails n))))

both_none : (ts : Forest) → both ts none ≡ ts
both_none none = refl
both_none (part t ts) = ap (part t) (both_none ts)

-- the last expression and the last piece
last_row : (b : Bool) {v : Surroundings} {x y z w u : Place} {t : Tree} (p : Text) (ts : Forest) → Turn so_far v (behind_head b) (behind_head b) x y (prepend ts) → IsTrue (is_found y) → Only so_far v (Part (grammar.Expr 0)) y (one t) z → Only so_far v (Fixed (sign_of fixed.CloseBrace)) z nothing w
    → u ≡ forth (Tok Piece TemplateTail p) w → IsTrue (is_found u) → is_leaf TemplateTail p ≡ true → OnlyRow so_far v (behind_head b) x (part (list ts) (part t (part (leaf TemplateTail p) none))) u
last_row b {v} {x} {w = w} {u} {t} p ts so f o k e g l =
    let barred : Barred so_far v (Part (TemplatePart TemplateMiddle)) w Unread = no_leaf middles (λ s. no_other Piece TemplateTail TemplateMiddle p s w (λ h. cc) (found_at (sym e) g)) in
    subst (λ us. OnlyRow so_far v (behind_head b) x (part (list us) (part t (part (leaf TemplateTail p) none))) u) (both_none ts)
    (turn_only so (turn_only (turn_done f (span_barred b (no_node (on o (on k (bar barred)))))) (then' o (then' k (then' (only_tail p e g l) (end g))))))

rest_keeps : (b : Bool) {v : Surroundings} {x y : Place} (head : Text) (us : Forest) (t : Tree) (p : Text) → fits_tag b head ≡ true → is_cooked t ≡ true → fits_tag b p ≡ true → Walk (Whole so_far) (steady v) (behind_head b) x (part (list us) (part t (part (leaf TemplateTail p) none))) y
    → so_far.keeps (expression (SubstitutedTemplate b)) v (part (leaf TemplateHead head) (part (list us) (part t (part (leaf TemplateTail p) none)))) ≡ true
rest_keeps true head us t p h c f w = and_both _ _ (plain_row (behind_head true) refl (to_grammar of_so_far w)) refl
rest_keeps false head us t p h c f w = and_both _ _ (and_both _ _ h (and_both _ _ c (and_both _ _ f refl))) refl

tail_fits : (b : Bool) (v : Surroundings) (head : Text) (us : Forest) (t : Tree) (p : Text) → so_far.keeps (expression (SubstitutedTemplate b)) v (part (leaf TemplateHead head) (part (list us) (part t (part (leaf TemplateTail p) none)))) ≡ true → fits_tag b p ≡ true
tail_fits true v head us t p k = refl
tail_fits false v head us t p k =
    let all = and_left (fits_tag false head && (is_cooked t && (fits_tag false p && true))) true k in
    and_left (fits_tag false p) true (and_right (is_cooked t) _ (and_right (fits_tag false head) _ all))

pub rest_only : (b : Bool) {v : Surroundings} {x y z w u : Place} {t : Tree} (head p : Text) (ts us : Forest) → Turn so_far v (behind_head b) (behind_head b) x y (prepend ts) → IsTrue (is_found y) → Only so_far v (Part (grammar.Expr 0)) y (one t) z → Only so_far v (Fixed (sign_of fixed.CloseBrace)) z nothing w
    → u ≡ forth (Tok Piece TemplateTail p) w → IsTrue (is_found u) → is_leaf TemplateTail p ≡ true → fits_tag b head ≡ true → fits_tag b p ≡ true → us ≡ part (list ts) (part t (part (leaf TemplateTail p) none)) → IsRest v b head x us u
rest_only b {v} {x} {u = u} {t} head p ts us so f o k e g l h i is =
    let row = last_row b p ts so f o k e g l in
    subst (λ vs. IsRest v b head x vs u) (sym is) (record { row = row; keeps = rest_keeps b head ts t p h (cooked t (whole_of o.past).reads) i row.walk })

pub unfit_tail : {d : Fault} (b : Bool) {v : Surroundings} {x y z w u : Place} {t : Tree} (head p : Text) (ts : Forest) → Turn so_far v (behind_head b) (behind_head b) x y (prepend ts) → IsTrue (is_found y) → Only so_far v (Part (grammar.Expr 0)) y (one t) z → Only so_far v (Fixed (sign_of fixed.CloseBrace)) z nothing w
    → u ≡ forth (Tok Piece TemplateTail p) w → IsTrue (is_found u) → is_leaf TemplateTail p ≡ true → fits_tag b p ≡ false → NoRest v b head x d
unfit_tail b {v} {x} {t = t} head p ts so f o k e g l i =
    let row = last_row b p ts so f o k e g l in
    record { no = λ us w walk h q. clash _ (tail_fits b v head ts t p (subst (λ vs. so_far.keeps (expression (SubstitutedTemplate b)) v (part (leaf TemplateHead head) vs) ≡ true) (sym (row.alone us w walk).0) h)) i }

-- ---- a template of one piece

whole_keeps : (b : Bool) (v : Surroundings) (p : Text) → fits_tag b p ≡ true → so_far.keeps (expression (PlainTemplate b)) v (part (leaf NoSubstitution p) none) ≡ true
whole_keeps true v p f = refl
whole_keeps false v p f = and_both _ _ (and_both _ _ f refl) refl

whole_fits : (b : Bool) (v : Surroundings) (p : Text) → so_far.keeps (expression (PlainTemplate b)) v (part (leaf NoSubstitution p) none) ≡ true → fits_tag b p ≡ true
whole_fits true v p k = refl
whole_fits false v p k = and_left (fits_tag false p) true (and_left (fits_tag false p && true) true k)

whole_row : (b : Bool) {v : Surroundings} {x y : Place} (p : Text) → y ≡ forth (Tok Operator NoSubstitution p) x → IsTrue (is_found y) → is_leaf NoSubstitution p ≡ true → OnlyRow so_far v (row_so_far (expression (PlainTemplate b))) x (part (leaf NoSubstitution p) none) y
whole_row b p e f l = then' (only_leaf wholes refl refl l e f) (end f)

pub whole_template : (b : Bool) {v : Surroundings} {x y : Place} (p : Text) (t : Tree) → y ≡ forth (Tok Operator NoSubstitution p) x → IsTrue (is_found y) → is_leaf NoSubstitution p ≡ true → fits_tag b p ≡ true → t ≡ node (expression (PlainTemplate b)) (part (leaf NoSubstitution p) none) → IsTemplate v b x t y
whole_template b {v} p t e f l i is = record { kind = expression (PlainTemplate b); of = plain; built = record { parts = part (leaf NoSubstitution p) none; is = is; row = whole_row b p e f l; keeps = whole_keeps b v p i } }

pub unfit_whole : {o : Fault} (b : Bool) {v : Surroundings} {x y : Place} (p : Text) → y ≡ forth (Tok Operator NoSubstitution p) x → IsTrue (is_found y) → is_leaf NoSubstitution p ≡ true → fits_tag b p ≡ false → NoTemplate v b x o
unfit_whole {o = o} b {v} {x} {y} p e f l i = record { no = at }
  where
    row : OnlyRow so_far v (row_so_far (expression (PlainTemplate b))) x (part (leaf NoSubstitution p) none) y
    row = whole_row b p e f l

    at : (k : Kind) → IsOf b k → NoNode so_far v (row_so_far k) k x o
    at k plain = record { no = λ us w walk h q. clash _ (whole_fits b v p (subst (λ vs. so_far.keeps (expression (PlainTemplate b)) v vs ≡ true) (sym (row.alone us w walk).0) h)) i }
    at k substituted = no_node (bar (no_leaf heads (λ s. no_other Operator NoSubstitution TemplateHead p s x (λ h. cc) (found_at (sym e) f))))

-- ---- one with substitutions

no_whole_there : {v : Surroundings} {x y : Place} {o : Fault} (p : Text) → y ≡ forth (Tok Operator TemplateHead p) x → IsTrue (is_found y) → Barred so_far v (Part (TemplatePart NoSubstitution)) x o
no_whole_there {x = x} p e f = no_leaf wholes (λ s. no_other Operator TemplateHead NoSubstitution p s x (λ h. cc) (found_at (sym e) f))

pub head_template : (b : Bool) {v : Surroundings} {x a y : Place} (p : Text) (t : Tree) (us : Forest) → a ≡ forth (Tok Operator TemplateHead p) x → IsTrue (is_found a) → is_leaf TemplateHead p ≡ true → IsRest v b p a us y → t ≡ node (expression (SubstitutedTemplate b)) (part (leaf TemplateHead p) us) → IsTemplate v b x t y
head_template b p t us e f l r is = record { kind = expression (SubstitutedTemplate b); of = substituted; built = record { parts = part (leaf TemplateHead p) us; is = is; row = then' (only_head p e f l) r.row; keeps = r.keeps } }

pub no_rest : {d : Fault} (b : Bool) {v : Surroundings} {x a : Place} (p : Text) → a ≡ forth (Tok Operator TemplateHead p) x → IsTrue (is_found a) → is_leaf TemplateHead p ≡ true → NoRest v b p a d → NoTemplate v b x d
no_rest {d = d} b {v} {x} {a} p e f l n = record { no = at }
  where
    o : Only so_far v (Part (TemplatePart TemplateHead)) x (one (leaf TemplateHead p)) a
    o = only_head p e f l

    row : (ts : Forest) (y : Place) → Walk (Whole so_far) (steady v) (row_so_far (expression (SubstitutedTemplate b))) x ts y → so_far.keeps (expression (SubstitutedTemplate b)) v ts ≡ true → Shallow d (deepest ts) → ⊥
    row ts y (next {y = a'} {ts = us} (tree {t = h} q) w) k s =
        let same = o.alone (one h) a' (tree q) in
        n.no us y (subst (λ c. Walk (Whole so_far) (steady v) (behind_head b) c us y) (sym same.1) w) (subst (λ g. so_far.keeps (expression (SubstitutedTemplate b)) v (part (item_of g) us) ≡ true) (sym same.0) k) (shallow_tail d h us s)

    at : (k : Kind) → IsOf b k → NoNode so_far v (row_so_far k) k x d
    at k plain = no_node (bar (no_whole_there p e f))
    at k substituted = record { no = row }

head_fits : (b : Bool) (v : Surroundings) (p : Text) (us : Forest) → so_far.keeps (expression (SubstitutedTemplate b)) v (part (leaf TemplateHead p) us) ≡ true → fits_tag b p ≡ true
head_fits true v p us k = refl
head_fits false v p us k = and_left (fits_tag false p) _ (and_left _ true k)

pub unfit_head : {o : Fault} (b : Bool) {v : Surroundings} {x a : Place} (p : Text) → a ≡ forth (Tok Operator TemplateHead p) x → IsTrue (is_found a) → is_leaf TemplateHead p ≡ true → fits_tag b p ≡ false → NoTemplate v b x o
unfit_head b {v} p e f l i = no_rest b p e f l (record { no = λ us y w k q. clash _ (head_fits b v p us k) i })

-- neither piece stands there
pub no_template : {e : Fault} (b : Bool) {v : Surroundings} {x : Place} → ((t : Text) → forth (Tok Operator NoSubstitution t) x ≡ Lost) → ((t : Text) → forth (Tok Operator TemplateHead t) x ≡ Lost) → NoTemplate v b x e
no_template {e = e} b {v} {x} m n = record { no = at }
  where
    at : (k : Kind) → IsOf b k → NoNode so_far v (row_so_far k) k x e
    at k plain = no_node (bar (no_leaf wholes m))
    at k substituted = no_node (bar (no_leaf heads n))

-- ---- where an expression begins with one

quoted_of : {k : Kind} → IsOf false k → Quoted k
quoted_of plain = undivided
quoted_of substituted = divided

of_quoted : {k : Kind} → Quoted k → IsOf false k
of_quoted undivided = plain
of_quoted divided = substituted

pub template_follows : {v : Surroundings} {x y : Place} {t : Tree} → IsTemplate v false x t y → settled y ≡ true → Begins v x t y
template_follows q s = quoted_follows (quoted_of q.of) q.built s

whole_stands : (h : Here) → is_kind (next_token Operator h).kind NoSubstitution ≡ true → Stands NoSubstitution (place_of h)
whole_stands h e =
    let w = alone Operator NoSubstitution (same h.last [] || breaks h.rest) (skip h.rest) refl refl refl (is_behind Blank h.rest refl) e in
    let x = next_token Operator h in
    record { text = x.raw; whole = and_both _ _ w.it w.ends; found = subst (λ b. IsTrue (is_found (go_if b (At x.raw AfterExpr x.rest)))) (sym (and_both _ _ e (same_self x.raw))) refl }

head_stands : (h : Here) → is_kind (next_token Operator h).kind TemplateHead ≡ true → Stands TemplateHead (place_of h)
head_stands h e =
    let w = alone Operator TemplateHead (same h.last [] || breaks h.rest) (skip h.rest) refl refl refl (is_behind Blank h.rest refl) e in
    let x = next_token Operator h in
    record { text = x.raw; whole = and_both _ _ w.it w.ends; found = subst (λ b. IsTrue (is_found (go_if b (At x.raw AfterExpr x.rest)))) (sym (and_both _ _ e (same_self x.raw))) refl }

pub quoted_there : (h : Here) → is_quoted (next_token Operator h) ≡ true → Opening (place_of h)
quoted_there h e = or_cases (is_kind (next_token Operator h).kind NoSubstitution) (is_kind (next_token Operator h).kind TemplateHead) e (λ i. whole_there (whole_stands h i)) (λ i. head_there (head_stands h i))

kind_found : (k : TokenKind) (h : Here) (t : Text) → IsTrue (is_found (forth (Tok Operator k t) (place_of h))) → is_kind (next_token Operator h).kind k ≡ true
kind_found k h t f = let x = next_token Operator h in and_left (is_kind x.kind k) _ (found_token (is_token x k t) (At t AfterExpr x.rest) f)

or_none : (a b : Bool) → (a || b) ≡ false → (a ≡ false) × (b ≡ false)
or_none true b e = cc
or_none false b e = (refl, e)

pub unquoted : (h : Here) → is_quoted (next_token Operator h) ≡ false → Opening (place_of h) → ⊥
unquoted h e (whole_there s) = clash _ (kind_found NoSubstitution h s.text s.found) (or_none _ _ e).0
unquoted h e (head_there s) = clash _ (kind_found TemplateHead h s.text s.found) (or_none _ _ e).1

-- the same of a lexer that looked at the token
pub quoted_to : {y z : Here} {b : Bool} → z ≡ y → b ≡ is_quoted (next_token Operator y) → b ≡ true → Opening (place_of z)
quoted_to {y} e a h = subst (λ l. Opening (place_of l)) (sym e) (quoted_there y (sym a ∙ h))

pub unquoted_to : {y z : Here} {b : Bool} → z ≡ y → b ≡ is_quoted (next_token Operator y) → b ≡ false → is_quoted (next_token Operator z) ≡ false
unquoted_to e a h = subst (λ l. is_quoted (next_token Operator l) ≡ false) (sym e) (sym a ∙ h)

pub no_template_begins : {v : Surroundings} {x : Place} {e : Fault} → Opening x → NoTemplate v false x e → NoneBegins v x (outer e)
no_template_begins p n = unread_quoted p (λ k q. n.no k (of_quoted q))

-- ---- behind a tag

tag_closed : {k : Kind} → IsOf true k → guarded TemplateOf (row_so_far k) ≡ true
tag_closed plain = refl
tag_closed substituted = refl

tag_freed : {k : Kind} → IsOf true k → free (row_so_far k) ≡ true
tag_freed plain = refl
tag_freed substituted = refl

tag_home : {k : Kind} (ts : Forest) → IsOf true k → admits TemplateOf (node k ts) ≡ true
tag_home ts plain = refl
tag_home ts substituted = refl

tag_chosen : {v : Surroundings} {V : List Context → Surroundings} {x y : Place} {k : Kind} {us : Forest} → IsOf true k → Walk Staged V (row_so_far k) x us y → Chosen so_far v TemplateOf k x
tag_chosen q u = record { no_leaf = λ s t y w. let bad = w.reads.staged in cc; kind = λ l ts y w. one_tag q (template_kind l ts w.reads) u (of_so_far.from_node l w.reads).walk }

pub tag_only : {v : Surroundings} {x y : Place} {t : Tree} → IsTemplate v true x t y → Only so_far v (Part TemplateOf) x (one t) y
tag_only {y = y} q = let n = q.built in only_node of_so_far (tag_chosen q.of (loosen n.row.walk)) (tag_closed q.of) (tag_freed q.of) (λ ts. tag_home ts q.of) (record { parts = n.parts; is = n.is; row = n.row }) n.keeps (of_so_far.ends_there TemplateOf y (never_stops TemplateOf y refl))

tag_counted : {k : Kind} → IsOf true k → counts_as true k ≡ true
tag_counted plain = refl
tag_counted substituted = refl

pub tag_barred : {v : Surroundings} {x : Place} {e : Fault} → NoTemplate v true x e → Barred so_far v (Part TemplateOf) x (outer e)
tag_barred {v} {x} {e = e} n = record { no = at }
  where
    at : (h : Given) (z : Place) → Past (Whole so_far) v (Part TemplateOf) x h z → Shallow (outer e) (given_depth h) → ⊥
    at h z (tree {t = leaf s t} q) s' = let bad = q.reads.staged in cc
    at h z (tree {t = node k ts} q) s' =
        let o = template_kind k ts q.reads in
        let read = of_so_far.from_node k q.reads in
        (n.no k o).no ts z (moved (λ a i. free_around a ts v i) (tag_freed o) (whole_walk of_so_far TemplateOf (row_so_far k) (tag_closed o) q.ends_there read.walk)) read.keeps (node_shallow e true (tag_counted o) of_so_far q.reads s')
    at h z (tree {t = list ts} q) s' = no_list q.reads

-- ---- the same in the code

pub tail_full : (t : Text) → is_leaf TemplateTail t ≡ true → same t [] ≡ false
tail_full (c ∷ t) e = refl
tail_full [] e = cc

pub whole_full : (t : Text) → is_leaf NoSubstitution t ≡ true → same t [] ≡ false
whole_full (c ∷ t) e = refl
whole_full [] e = cc

pub template_as : {v : Surroundings} {x y : Place} {t u : Tree} → u ≡ t → Begins v x t y → Begins v x u y
template_as {v} {x} {y} e f = subst (λ t. Begins v x t y) (sym e) f

pub whole_view : {b : Bool} {ps : List TreeText} {xs : List (Box Expr Global)} {t : Text} {n : ℕ} → IsPiece ps t n → xs ≡ [] → template b ps (map (inside view_expr) xs) ≡ node (expression (PlainTemplate b)) (part (leaf NoSubstitution t) none)
whole_view {b} p e = (λ i. template b (p.is i) (map (inside view_expr) (e i))) ∙ ap (λ s. node (expression (PlainTemplate b)) (part (leaf NoSubstitution s) none)) p.text
