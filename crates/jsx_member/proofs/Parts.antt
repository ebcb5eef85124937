-- What is known of a template behind its first piece, while a loop reads its parts.
use Rattle.std.proofs.Common.{◌≡◌, ◌≤◌, ℕ, Bool, true, false, List, [], ◌∷◌, ◌++◌, map, refl, sym, ◌∙◌, ap, subst, arith, Box, Global}
use Rattle.std.specs.Prelude.{IsTrue}
use Rattle.jsx_base.specs.Token.{Text, TokenKind, Operator, Piece, NoSubstitution, TemplateHead, TemplateMiddle, TemplateTail}
use Rattle.jsx_tree.specs.declared.text.Text.{Text as TreeText}
use Rattle.jsx_tree.specs.declared.tree.Expr.{Expr}
use Rattle.jsx_tree.specs.Signs.{Tok}
use Rattle.jsx_tree.specs.Kinds.{Kind, PlainTemplate, SubstitutedTemplate, Tagged, expression, Tree, leaf, Forest, none, part}
use Rattle.jsx_tree.specs.Nonterminals as grammar
use Rattle.jsx_tree.specs.Nonterminals.{Nonterminal, TemplateOf}
use Rattle.jsx_tree.specs.Grammar.{Adjacent, Fixed, Part}
use Rattle.jsx_tree.specs.Form.{is_leaf}
use Rattle.jsx_tree.specs.Reading.{Place, Lost, forth}
use Rattle.jsx_tree.specs.StaticRules.{Surroundings}
use Rattle.jsx_tree.specs.Spans.{Comes, tells, tale, no_tales}
use Rattle.jsx_tree.specs.Told.{tales, told_expr, told_template, told_text}
use Rattle.jsx_tree.specs.View.{forest, inside, middle, template, text_of, view_expr}
use Rattle.jsx_tree.specs.Walk.{is_found, nothing, one, tree, Walk, next, steady, tail}
use Rattle.jsx_tree.specs.Language.{Whole}
use Rattle.jsx_tree.specs.Answers.{Only, Barred, NoNode, NoRow}
use Rattle.jsx_tree.specs.Faults.{Fault, Unread, Deep, Below, Shallow, outer, inner, deepest, part_depth}
use Rattle.jsx_tree.proofs.Depth.Shallow.{below_inner, below_shallow}
use Rattle.jsx_tree.proofs.Rows.Steps.{bar, outer_barred}
use Rattle.jsx_tree.proofs.Rows.Turns.{Turn, prepend, prepend_none, turn_as, turn_same}
use Rattle.jsx_token.specs.Here.{Here, place_of, sign_of}
use Rattle.jsx_token.specs.declared.lexer.Fixed.TheVariants as fixed
use Rattle.jsx_token.specs.Marks.{row_so_far}
use Rattle.jsx_token.specs.Places.{Takes, end_of, next_of}
use Rattle.jsx_operand.specs.Climbing.{NoneBegins}
use Rattle.jsx_operand.specs.Outgrown.{Outgrown}
use Rattle.jsx_operand.specs.SoFar.{so_far}
use Rattle.jsx_operand.specs.Spans.{IsPlaced, IsPlacedListAs, IsPlacedRow}
use Rattle.jsx_operand.specs.Templates.{IsDivided, IsOf, IsPiece, IsPlacedTemplate, IsRest, NoMiddle, NoRest, NoTemplate, NotTagged, behind_first, behind_head, fits_tag, outgrown, plain, rest_of, rest_production, substituted, told_rest, unread}
use Rattle.jsx_operand.proofs.Homes.{LeafOnly, heads, leaf_one, told, wholes}
use Rattle.jsx_operand.proofs.Openings.{outer_begins}
use Rattle.jsx_operand.proofs.Placing.{PlacedFront, front_none, laid_last, laid_more, list_none, map_pushed, placed_as, plain_adjacent}
use Rattle.jsx_operand.proofs.PlacedExpressions.{head_template_row, rest_row, span_row, whole_template_row}
use Rattle.jsx_operand.proofs.Templates.{Even, even_none, even_more, even_map, spans, spans_more, told_spans, told_more, told_end, rest_end, forest_more, behind_pushed, is_divided, span_more, rest_only, no_part, no_brace, no_piece, no_template_begins, tag_barred, unfit_tail}
use Rattle.jsx_operand.proofs.Values.{Quote}

-- these pieces, of which the first stands before x, and these expressions are read from there up to y
pub record Reads (v : Surroundings) (b : Bool) (head : TreeText) (ps : List TreeText) (xs : List (Box Expr Global)) (x y : Here) : Type 0 where
  pub so_far : Turn so_far v (behind_head b) (behind_head b) (place_of x) (place_of y) (prepend (forest (spans b (behind_first ps) (map (inside view_expr) xs))))
  pub headed : ps ≡ head ∷ behind_first ps
  pub even : Even (Box Expr Global) (behind_first ps) xs
  pub placed : PlacedFront false Adjacent (told_spans (behind_first ps) (map (inside told_expr) xs)) (spans b (behind_first ps) (map (inside view_expr) xs)) x y
  pub closed : IsPlacedListAs false Adjacent (tales (told_spans (behind_first ps) (map (inside told_expr) xs))) (forest (spans b (behind_first ps) (map (inside view_expr) xs))) x y

-- none so far
pub reads_none : {v : Surroundings} {b : Bool} {x : Here} (head : TreeText) (ps : List TreeText) (xs : List (Box Expr Global)) → ps ≡ head ∷ [] → xs ≡ [] → Reads v b head ps xs x x
reads_none {v} {b} {x} head ps xs e f = subst (λ qs. Reads v b head qs xs x x) (sym e) (subst (λ ys. Reads v b head (head ∷ []) ys x x) (sym f) (record { so_far = turn_as prepend_none turn_same; headed = refl; even = even_none; placed = front_none; closed = list_none }))

-- what is pushed comes behind the first piece
behind_first_is : (head : TreeText) (ps qs : List TreeText) (p : TreeText) → ps ≡ head ∷ behind_first ps → qs ≡ ps ++ p ∷ [] → behind_first qs ≡ behind_first ps ++ p ∷ []
behind_first_is head ps qs p e f = ap behind_first (behind_pushed head ps qs p e f)

headed_still : (head : TreeText) (ps qs : List TreeText) (p : TreeText) → ps ≡ head ∷ behind_first ps → qs ≡ ps ++ p ∷ [] → qs ≡ head ∷ behind_first qs
headed_still head ps qs p e f = behind_pushed head ps qs p e f ∙ ap (λ rs. head ∷ rs) (sym (behind_first_is head ps qs p e f))

-- an expression, a `}` and a piece more
pub reads_more : {v : Surroundings} {b : Bool} {head : TreeText} {ps qs : List TreeText} {xs ys : List (Box Expr Global)} {x y z w u : Here} (e : Box Expr Global) (p : TreeText) → Reads v b head ps xs x y
    → Only so_far v (Part (grammar.Expr 0)) (place_of y) (one (view_expr e.value)) (place_of z) → IsPlaced (told_expr e.value) (view_expr e.value) y z → Only so_far v (Fixed (sign_of fixed.CloseBrace)) (place_of z) nothing (place_of w) → Takes (sign_of fixed.CloseBrace) z w
    → ((s : Text) → forth (Tok Piece TemplateTail s) (place_of w) ≡ Lost) → Only so_far v (Part (grammar.TemplatePart TemplateMiddle)) (place_of w) (one (leaf TemplateMiddle (text_of p))) (place_of u) → Takes (Tok Piece TemplateMiddle (text_of p)) w u → Comes p (end_of w) → fits_tag b (text_of p) ≡ true
    → qs ≡ ps ++ p ∷ [] → ys ≡ xs ++ e ∷ [] → Reads v b head qs ys x u
reads_more {v} {b} {head} {ps} {qs} {xs} {ys} {x} {u = u} e p r o l k brace n m piece comes h is more =
    let rest = behind_first_is head ps qs p r.headed is in
    let views = map_pushed (inside view_expr) xs ys e _ more refl in
    let tolds = map_pushed (inside told_expr) xs ys e _ more refl in
    let trees : spans b (behind_first qs) (map (inside view_expr) ys) ≡ spans b (behind_first ps) (map (inside view_expr) xs) ++ middle b (view_expr e.value) p ∷ [] = (λ i. spans b (rest i) (views i)) ∙ spans_more b p (view_expr e.value) (even_map (inside view_expr) r.even) in
    let tales' : told_spans (behind_first qs) (map (inside told_expr) ys) ≡ told_spans (behind_first ps) (map (inside told_expr) xs) ++ tells [] (tale (told_expr e.value) (tale (told_text p) no_tales)) ∷ [] = (λ i. told_spans (rest i) (tolds i)) ∙ told_more p (told_expr e.value) (even_map (inside told_expr) r.even) in
    record {
      so_far = span_more b (forest (spans b (behind_first ps) (map (inside view_expr) xs))) (forest (spans b (behind_first qs) (map (inside view_expr) ys))) r.so_far o k n m refl h (ap forest trees ∙ forest_more (spans b (behind_first ps) (map (inside view_expr) xs)) (middle b (view_expr e.value) p));
      headed = headed_still head ps qs p r.headed is;
      even = subst (λ rs. Even (Box Expr Global) rs ys) (sym rest) (subst (λ zs. Even (Box Expr Global) (behind_first ps ++ p ∷ []) zs) (sym more) (even_more p e r.even));
      placed = laid_more plain_adjacent r.placed (span_row l brace piece comes) refl refl tales' trees;
      closed = laid_last plain_adjacent r.placed (span_row l brace piece comes) refl refl tales' trees;
    }

-- with the last expression and the last piece
pub reads_rest : {v : Surroundings} {b : Bool} {head : TreeText} {ps qs : List TreeText} {xs ys : List (Box Expr Global)} {x y : Here} {z w u : Place} (e : Box Expr Global) (p : TreeText) → Reads v b head ps xs x y
    → Only so_far v (Part (grammar.Expr 0)) (place_of y) (one (view_expr e.value)) z → Only so_far v (Fixed (sign_of fixed.CloseBrace)) z nothing w
    → u ≡ forth (Tok Piece TemplateTail (text_of p)) w → IsTrue (is_found u) → is_leaf TemplateTail (text_of p) ≡ true → fits_tag b (text_of head) ≡ true → fits_tag b (text_of p) ≡ true
    → qs ≡ ps ++ p ∷ [] → ys ≡ xs ++ e ∷ [] → IsRest v b (text_of head) (place_of x) (rest_of b (behind_first qs) (map (inside view_expr) ys)) u
reads_rest {v} {b} {head} {ps} {qs} {xs} {ys} e p r o k piece there whole f g is more =
    let rest = behind_first_is head ps qs p r.headed is in
    let views = map_pushed (inside view_expr) xs ys e _ more refl in
    rest_only b (text_of head) (text_of p) (forest (spans b (behind_first ps) (map (inside view_expr) xs))) (rest_of b (behind_first qs) (map (inside view_expr) ys)) r.so_far refl o k piece there whole f g
    ((λ i. rest_of b (rest i) (views i)) ∙ rest_end b p (view_expr e.value) (even_map (inside view_expr) r.even))

pub reads_placed : {v : Surroundings} {b : Bool} {head : TreeText} {ps qs : List TreeText} {xs ys : List (Box Expr Global)} {x y z w u : Here} (e : Box Expr Global) (p : TreeText) → Reads v b head ps xs x y
    → IsPlaced (told_expr e.value) (view_expr e.value) y z → Takes (sign_of fixed.CloseBrace) z w → Takes (Tok Piece TemplateTail (text_of p)) w u → Comes p (end_of w) → qs ≡ ps ++ p ∷ [] → ys ≡ xs ++ e ∷ []
    → IsPlacedRow (rest_production b) (told_rest (behind_first qs) (map (inside told_expr) ys)) (rest_of b (behind_first qs) (map (inside view_expr) ys)) x u
reads_placed {b = b} {head} {ps} {qs} {xs} {ys} {x} {u = u} e p r l brace piece comes is more =
    let rest = behind_first_is head ps qs p r.headed is in
    let views = map_pushed (inside view_expr) xs ys e _ more refl in
    let tolds = map_pushed (inside told_expr) xs ys e _ more refl in
    subst (λ ds. IsPlacedRow (rest_production b) ds (rest_of b (behind_first qs) (map (inside view_expr) ys)) x u) (sym ((λ i. told_rest (rest i) (tolds i)) ∙ told_end p (told_expr e.value) (even_map (inside told_expr) r.even)))
    (subst (λ ts. IsPlacedRow (rest_production b) (tale (tells [] (tales (told_spans (behind_first ps) (map (inside told_expr) xs)))) (tale (told_expr e.value) (tale (told_text p) no_tales))) ts x u) (sym ((λ i. rest_of b (rest i) (views i)) ∙ rest_end b p (view_expr e.value) (even_map (inside view_expr) r.even)))
    (rest_row r.closed l brace piece comes))

pub reads_divided : {v : Surroundings} {b : Bool} {head : TreeText} {ps qs : List TreeText} {xs ys : List (Box Expr Global)} {x y : Here} (p : TreeText) → Reads v b head ps xs x y → qs ≡ ps ++ p ∷ [] → IsDivided b head qs ys
reads_divided {head = head} {ps} {qs} {ys = ys} p r is = is_divided head p (behind_first ps) qs ys (behind_pushed head ps qs p r.headed is)

-- where it breaks off
pub part_barred : {v : Surroundings} {b : Bool} {head : TreeText} {ps : List TreeText} {xs : List (Box Expr Global)} {x y : Here} {e : Fault} → Reads v b head ps xs x y → Barred so_far v (Part (grammar.Expr 0)) (place_of y) e → NoRest v b (text_of head) (place_of x) e
part_barred {b = b} {head} {ps} {xs} r n = no_part b (text_of head) (forest (spans b (behind_first ps) (map (inside view_expr) xs))) r.so_far refl n

pub brace_barred : {v : Surroundings} {b : Bool} {head : TreeText} {ps : List TreeText} {xs : List (Box Expr Global)} {x y : Here} {z : Place} {d : Fault} (e : Box Expr Global) → Reads v b head ps xs x y → Only so_far v (Part (grammar.Expr 0)) (place_of y) (one (view_expr e.value)) z → Barred so_far v (Fixed (sign_of fixed.CloseBrace)) z d → NoRest v b (text_of head) (place_of x) d
brace_barred {b = b} {head} {ps} {xs} e r o n = no_brace b (text_of head) (forest (spans b (behind_first ps) (map (inside view_expr) xs))) r.so_far refl o n

pub piece_barred : {v : Surroundings} {b : Bool} {head : TreeText} {ps : List TreeText} {xs : List (Box Expr Global)} {x y : Here} {z w : Place} {d : Fault} (e : Box Expr Global) → Reads v b head ps xs x y → Only so_far v (Part (grammar.Expr 0)) (place_of y) (one (view_expr e.value)) z → Only so_far v (Fixed (sign_of fixed.CloseBrace)) z nothing w
    → ((s : Text) → forth (Tok Piece TemplateTail s) w ≡ Lost) → NoMiddle b w d → NoRest v b (text_of head) (place_of x) d
piece_barred {b = b} {head} {ps} {xs} e r o k n m = no_piece b (text_of head) (forest (spans b (behind_first ps) (map (inside view_expr) xs))) r.so_far refl o k n m

pub tail_barred : {v : Surroundings} {b : Bool} {head : TreeText} {ps : List TreeText} {xs : List (Box Expr Global)} {x y : Here} {z w u : Place} {d : Fault} (e : Box Expr Global) (p : Text) → Reads v b head ps xs x y → Only so_far v (Part (grammar.Expr 0)) (place_of y) (one (view_expr e.value)) z → Only so_far v (Fixed (sign_of fixed.CloseBrace)) z nothing w
    → u ≡ forth (Tok Piece TemplateTail p) w → IsTrue (is_found u) → is_leaf TemplateTail p ≡ true → fits_tag b p ≡ false → NoRest v b (text_of head) (place_of x) d
tail_barred {b = b} {head} {ps} {xs} e p r o k piece there whole n = unfit_tail b (text_of head) p (forest (spans b (behind_first ps) (map (inside view_expr) xs))) r.so_far refl o k piece there whole n

-- the same from a place that is another, and with the same first piece
pub middle_from : {b : Bool} {x y : Here} {e : Fault} → x ≡ y → NoMiddle b (place_of x) e → NoMiddle b (place_of y) e
middle_from {b} {e = e} same n = subst (λ h. NoMiddle b (place_of h) e) same n

pub rest_with : {v : Surroundings} {b : Bool} {p q : Text} {x : Place} {e : Fault} → p ≡ q → NoRest v b p x e → NoRest v b q x e
rest_with {v} {b} {x = x} {e} same n = subst (λ t. NoRest v b t x e) same n

-- ---- what is too deep

-- a template is deeper by a level than its first piece
pub deep_template : {v : Surroundings} {b : Bool} {x : Place} (e : Fault) → Below 1 e → NoTemplate v b x (inner e)
deep_template {v} {b} {x} e d = record { no = at }
  where
    none_first : {c : Nonterminal} {k : TokenKind} {y : Place} {u : Tree} (ts : Forest) → LeafOnly c k → Whole so_far v false c x u y → Shallow (inner e) (deepest (part u ts)) → ⊥
    none_first {k = k} {u = u} ts o q s =
        let m = told o u q.reads in
        let one = ap part_depth m.is ∙ leaf_one k m.text o.token in
        let low = below_shallow 0 (inner e) (deepest (part u ts)) (below_inner 0 e d) s in
        let up : part_depth u ≤ deepest (part u ts) = omega arith in
        omega (arith, one, low, up)

    whole : (ts : Forest) (y : Place) → Walk (Whole so_far) (steady v) (row_so_far (expression (PlainTemplate b))) x ts y → Shallow (inner e) (deepest ts) → ⊥
    whole ts y (next {ts = us} (tree q) w) s = none_first us wholes q s

    headed : (ts : Forest) (y : Place) → Walk (Whole so_far) (steady v) (row_so_far (expression (SubstitutedTemplate b))) x ts y → Shallow (inner e) (deepest ts) → ⊥
    headed ts y (next {ts = us} (tree q) w) s = none_first us heads q s

    at : (k : Kind) → IsOf b k → NoNode so_far v (row_so_far k) k x (inner e)
    at k plain = record { no = λ ts y w keeps s. whole ts y w s }
    at k substituted = record { no = λ ts y w keeps s. headed ts y w s }

-- so nothing begins with one, and none stands behind a tag
pub deep_quoted : {v : Surroundings} {x : Place} {e : Fault} → Quote x → Below 1 e → NoneBegins v x e
deep_quoted {e = e} q d = outer_begins (no_template_begins q (deep_template e d))

inner_outer : (e : Fault) → inner (outer e) ≡ e
inner_outer Unread = refl
inner_outer (Deep n) = refl

pub unread_tag : {v : Surroundings} {t : Tree} {x : Place} {e : Fault} → Barred so_far v (Part TemplateOf) x e → NotTagged v t x (outer e)
unread_tag {v} {x = x} {e = e} b = unread (λ f. subst (NoRow so_far v (tail (row_so_far (expression Tagged))) x) (sym (inner_outer e)) (bar b))

pub deep_tag : {v : Surroundings} {t : Tree} {x : Place} (e : Fault) → Below 1 e → NotTagged v t x (outer e)
deep_tag e d = unread_tag (outer_barred (tag_barred (deep_template e d)))

pub outgrown_tag : {v : Surroundings} {t u : Expr} {x : Place} {e : Fault} → t ≡ u → Outgrown (view_expr t) e → NotTagged v (view_expr u) x e
outgrown_tag {e = e} same o = outgrown (subst (λ a. Outgrown (view_expr a) e) same o)

pub unread_template : {v : Surroundings} {t : Tree} {x : Place} {e : Fault} → NoTemplate v true x e → NotTagged v t x (outer (outer e))
unread_template n = unread_tag (tag_barred n)

-- ---- the places of a template

pub whole_placed : {b : Bool} {ps : List TreeText} {xs : List (Box Expr Global)} {t : Text} {n : ℕ} {x y : Here} → IsPiece ps t n → n ≡ next_of x → xs ≡ [] → Takes (Tok Operator NoSubstitution t) x y → IsPlacedTemplate b ps xs x y
whole_placed {b} {ps} {xs} {x = x} {y} p at e takes = record {
  on = λ span s. placed_as (λ i. told_template span (p.is i) (map (inside told_expr) (e i))) (λ i. template b (p.is i) (map (inside view_expr) (e i)))
      (whole_template_row b (subst (λ r. Takes (Tok Operator NoSubstitution r) x y) (sym p.text) takes) (subst (Comes p.piece) at p.comes) s);
}

pub head_placed : {b : Bool} {head : TreeText} {ps : List TreeText} {xs : List (Box Expr Global)} {x y z : Here} → IsDivided b head ps xs → Takes (Tok Operator TemplateHead (text_of head)) x y → Comes head (next_of x)
    → IsPlacedRow (rest_production b) (told_rest (behind_first ps) (map (inside told_expr) xs)) (rest_of b (behind_first ps) (map (inside view_expr) xs)) y z → IsPlacedTemplate b ps xs x z
head_placed {b} d takes comes r = record { on = λ span s. placed_as (d.told span) d.view (head_template_row b takes comes r s) }
