-- What a row lets come next does come next in the signs of its parts.
use Rattle.std.proofs.Common.{◌≡◌, ℕ, List, [], ◌∷◌, ◌++◌, Bool, true, false, cond, not, ◌||◌, ◌&&◌, codes, refl, sym, ap, ◌∙◌, subst, ⊎_elim, ◌⊎◌}
use Rattle.std.specs.Prelude.{nat_eq}
use Rattle.std.proofs.lemmas.Bool.{false≢true, and_parts, and_from, or_parts, or_cases, eqb-true, not-true, not_from_false, or_left, or_right, or_from, and_left}
use Rattle.jsx_base.specs.Token.{Text, Mode, Piece, TokenKind, Punctuator, among, same, is_one_of, is_digit}
use Rattle.jsx_tree.specs.Signs.{Sign, Tok, Semicolon, TrailingComma, Unless, SameLine, Ends, Space, Pad, Line, Indent, Outdent, Unindent, Apart, Begin, Count, One, End}
use Rattle.jsx_tree.specs.Kinds.{Tree, leaf, node, list, Forest, none, part}
use Rattle.jsx_tree.specs.Nonterminals.{Nonterminal, Stmt, Item, DirectiveOnly, CaseClause}
use Rattle.jsx_tree.specs.Grammar.{ListShape, Commas, Elisions, NoTrailing, TwoOrMore, Lines, TopLines, Adjacent, OneOrMore, Spaced, Dotted, JsxChildren, Fixed, Part, Optional, Many, Within, Production, fixed}
use Rattle.jsx_tree.specs.Layout.{last, first_char}
use Rattle.jsx_tree.specs.Spelling.{said, saids, each_said, joined, walk, gathered, before, between, behind}
use Rattle.jsx_tree.specs.Form.{Single, enough, last_only}
use Rattle.jsx_base.proofs.Longest.{same_is}
use Rattle.jsx_tree.proofs.ReadBack.Joins.{Nothing, Token, Ahead, at_once, sign_ahead, ahead, goes_on, is_pointed, follows, skips_next, open_gap, joint, is_none_of, at_end}
use Rattle.jsx_tree.proofs.ReadBack.RowChecks.{calm_chars, calm, is_tagged, is_linked, Need, Even, Calm, After, NoneOf, Sure, holds, Outs, idle, outside_ok, no_starter, is_punct, flat, seen, seen_piece, seen_part, seen_many, sees, is_name_place, is_line, elseless, with_token, before_signs, comma, is_some_shape, is_code_shape, is_holey, frontal, is_body, is_later, holes, is_formed, sound, sound_each, rowed, try_words, part_words, all_in}
use Rattle.jsx_tree.proofs.ReadBack.NextTokens.{ahead_append, char_of, even_gap, Outside, outside_holds, idle_ahead, with_next, next_apart, with_token_ahead, Opens, code_skips, none_code, no_arrow, punct_joint, is_kind_punct, pointed_joint, among_fewer, slash_fewer}

-- ---- one token at the front

no_else_by : (x : Text) → nat_eq (first_char x) 101 ≡ false → same x (codes "else") ≡ false
no_else_by [] h = refl
no_else_by (c ∷ x) h = and_left (nat_eq c 101) (same x (codes "lse")) h

calm_by : (b e : Bool) (d : Ahead) (c : Nonterminal) (m : Mode) (s : TokenKind) (x : Text) → flat d ≡ true → Opens c m x → (d.sure || is_one_of (first_char x) (calm_chars b)) ≡ true → (e ≡ false → same x (codes "else") ≡ false) → calm b e (with_next (Token m s x) d) ≡ true
calm_by b e d c m s x f o h n =
    and_from (skips_next (Token m s x) && not (d.same_line && d.line)) _ (and_from (skips_next (Token m s x)) (not (d.same_line && d.line)) (code_skips m s x o.code) f)
    (and_from (d.sure || is_one_of (first_char x) (calm_chars b)) _ h
    (and_from (is_none_of (Token m s x) (codes "=>" ∷ [])) _ (none_code m s x (codes "=>" ∷ []) o.code (no_arrow x o.starter) refl) (els e n)))
  where
    els : (e : Bool) → (e ≡ false → same x (codes "else") ≡ false) → (e || is_none_of (Token m s x) (codes "else" ∷ [])) ≡ true
    els true n = refl
    els false n = none_code m s x (codes "else" ∷ []) o.code (or_from (same x (codes "else")) false (n refl) refl) refl

back_calm : (b : Bool) (d : ℕ) → nat_eq d 96 ≡ true → is_one_of d (calm_chars b) ≡ true
back_calm true d h = subst (λ x. is_one_of x (calm_chars true) ≡ true) (sym (eqb-true d 96 h)) refl
back_calm false d h = subst (λ x. is_one_of x (calm_chars false) ≡ true) (sym (eqb-true d 96 h)) refl

back_no_else : (d : ℕ) → nat_eq d 96 ≡ true → nat_eq d 101 ≡ false
back_no_else d h = subst (λ x. nat_eq x 101 ≡ false) (sym (eqb-true d 96 h)) refl

link_calm : (b : Bool) (d : ℕ) → b ≡ true → is_one_of d (codes "?.[(") ≡ true → is_one_of d (calm_chars b) ≡ true
link_calm true d e h = char_of (λ c. is_one_of c (calm_chars true)) (codes "?.[(") d refl h
link_calm false d e h = absurd (false≢true e)

link_no_else : (d : ℕ) → is_one_of d (codes "?.[(") ≡ true → nat_eq d 101 ≡ false
link_no_else d h = not-true _ (char_of (λ c. not (nat_eq c 101)) (codes "?.[(") d refl h)

line_elseless : (c : Nonterminal) → is_line c ≡ true → elseless c ≡ true
line_elseless Stmt h = refl
line_elseless Item h = refl
line_elseless DirectiveOnly h = refl
line_elseless CaseClause h = refl
line_elseless _ h = absurd (false≢true h)

seen_calm : (b e : Bool) (d : Ahead) (c : Nonterminal) (m : Mode) (s : TokenKind) (x : Text) → Opens c m x → seen (Calm b e) d c ≡ true → calm b e (with_next (Token m s x) d) ≡ true
seen_calm b e d c m s x o h =
    let a = and_parts (flat d) (is_tagged c || ((is_linked c && b) || (d.sure && (e || is_line c)))) h in
    go (is_tagged c) (is_linked c && b) refl refl a.0 a.1
  where
    go : (p q : Bool) → is_tagged c ≡ p → (is_linked c && b) ≡ q → flat d ≡ true → (p || (q || (d.sure && (e || is_line c)))) ≡ true → calm b e (with_next (Token m s x) d) ≡ true
    go true q f g fl k = calm_by b e d c m s x fl o (or_right d.sure (is_one_of (first_char x) (calm_chars b)) (back_calm b (first_char x) (o.back f))) (λ _. no_else_by x (back_no_else (first_char x) (o.back f)))
    go false true f g fl k =
        let r = and_parts (is_linked c) b g in
        calm_by b e d c m s x fl o (or_right d.sure (is_one_of (first_char x) (calm_chars b)) (link_calm b (first_char x) r.1 (o.link r.0))) (λ _. no_else_by x (link_no_else (first_char x) (o.link r.0)))
    go false false f g fl k =
        let r = and_parts d.sure (e || is_line c) k in
        calm_by b e d c m s x fl o (or_left d.sure (is_one_of (first_char x) (calm_chars b)) r.0) (λ n. (or_parts (same x (codes "else")) (among x try_words) (o.lined (line_elseless c (by_else e n r.1)))).0)
      where
        by_else : (e : Bool) → e ≡ false → (e || is_line c) ≡ true → is_line c ≡ true
        by_else true n k = absurd (false≢true (sym n))
        by_else false n k = k

seen_after : (s : TokenKind) (t : Text) (d : Ahead) (c : Nonterminal) (m : Mode) (k : TokenKind) (x : Text) → Opens c m x → seen (After s t) d c ≡ true → holds (After s t) (with_next (Token m k x) d) ≡ true
seen_after s t d c m k x o h =
    let a = and_parts (flat d) (d.sure || (is_punct s && ((not (is_pointed t) && no_starter d.apart t (goes_on t)) || (is_name_place c && is_pointed t)))) h in
    and_from (open_gap [] (with_next (Token m k x) d)) (joint s t (with_next (Token m k x) d)) (even_gap (with_next (Token m k x) d) (and_from (skips_next (Token m k x)) (flat d) (code_skips m k x o.code) a.0)) (go d.sure d.apart a.1)
  where
    pair : (y : Bool) → ((not (is_pointed t) && no_starter y t (goes_on t)) || (is_name_place c && is_pointed t)) ≡ true → ((y && nat_eq (last t) (first_char x)) || follows Punctuator t (first_char x)) ≡ true
    pair y h =
        ⊎_elim (λ (e : (not (is_pointed t) && no_starter y t (goes_on t)) ≡ true). let r = and_parts (not (is_pointed t)) (no_starter y t (goes_on t)) e in punct_joint y t (first_char x) (not-true _ r.0) r.1 o.starter)
        (λ (e : (is_name_place c && is_pointed t) ≡ true). let r = and_parts (is_name_place c) (is_pointed t) e in let n = o.named r.0 in or_right (y && nat_eq (last t) (first_char x)) (follows Punctuator t (first_char x)) (pointed_joint t (first_char x) r.1 n.1 n.0))
        (or_cases (not (is_pointed t) && no_starter y t (goes_on t)) (is_name_place c && is_pointed t) h)

    go : (z y : Bool) → (z || (is_punct s && ((not (is_pointed t) && no_starter y t (goes_on t)) || (is_name_place c && is_pointed t)))) ≡ true → (z || ((y && nat_eq (last t) (first_char x)) || follows s t (first_char x))) ≡ true
    go true y h = refl
    go false y h =
        let r = and_parts (is_punct s) _ h in
        subst (λ z. ((y && nat_eq (last t) (first_char x)) || follows z t (first_char x)) ≡ true) (sym (is_kind_punct s r.0)) (pair y r.1)

seen_holds : (n : Need) (d : Ahead) (c : Nonterminal) (m : Mode) (s : TokenKind) (x : Text) → Opens c m x → seen n d c ≡ true → holds n (with_next (Token m s x) d) ≡ true
seen_holds Even d c m s x o h = and_from (skips_next (Token m s x)) (flat d) (code_skips m s x o.code) h
seen_holds (Calm b e) d c m s x o h = seen_calm b e d c m s x o h
seen_holds (After k t) d c m s x o h = seen_after k t d c m s x o h
seen_holds (NoneOf ts) d c m s x o h = let a = and_parts (elseless c) (all_in ts part_words) h in none_code m s x ts o.code (among_fewer x ts part_words (o.lined a.0) a.1) (slash_fewer ts part_words refl a.1)
seen_holds Sure d c m s x o h = h

piece_holds : (n : Need) (d : Ahead) (s : TokenKind) (x : Text) → seen_piece n d ≡ true → holds n (with_next (Token Piece s x) d) ≡ true
piece_holds (After k t) d s x h =
    let a = and_parts (flat d) (d.void && (is_punct k && (not (is_pointed t) && same (goes_on t) []))) h in
    let b = and_parts d.void (is_punct k && (not (is_pointed t) && same (goes_on t) [])) a.1 in
    let c = and_parts (is_punct k) (not (is_pointed t) && same (goes_on t) []) b.1 in
    let e = and_parts (not (is_pointed t)) (same (goes_on t) []) c.1 in
    let f : follows Punctuator t (first_char x) ≡ true = and_from (not (is_one_of (first_char x) (goes_on t))) (not (is_pointed t && is_digit (first_char x))) (ap (λ y. not (is_one_of (first_char x) y)) (same_is (goes_on t) [] e.1)) (not_from_false _ (and_left (is_pointed t) (is_digit (first_char x)) (not-true _ e.0))) in
    and_from (open_gap [] (with_next (Token Piece s x) d)) (joint k t (with_next (Token Piece s x) d)) (and_from (flat d) d.void a.0 b.0)
    (or_right d.sure _ (or_right (d.apart && nat_eq (last t) (first_char x)) (follows k t (first_char x)) (subst (λ z. follows z t (first_char x) ≡ true) (sym (is_kind_punct k c.0)) f)))
piece_holds Even d s x h = absurd (false≢true h)
piece_holds (Calm b e) d s x h = absurd (false≢true h)
piece_holds (NoneOf ts) d s x h = absurd (false≢true h)
piece_holds Sure d s x h = absurd (false≢true h)

-- ---- what trees begin with

pub record Front (c : Nonterminal) (t : Tree) : Type 0 where
  pub mode : Mode
  pub kind : TokenKind
  pub text : Text
  pub view : (w : Ahead) → ahead (joined (said t)) w ≡ at_once (Token mode kind text)
  pub opens : Opens c mode text

pub record PieceFront (t : Tree) : Type 0 where
  pub kind : TokenKind
  pub text : Text
  pub view : (w : Ahead) → ahead (joined (said t)) w ≡ at_once (Token Piece kind text)

-- a body: nothing, or a line that begins with a token
pub record LineFront (t : Tree) : Type 0 where
  pub mode : Mode
  pub kind : TokenKind
  pub text : Text
  pub view : (w : Ahead) → ahead (joined (said t)) w ≡ ahead (Line ∷ []) (at_once (Token mode kind text))
  pub opens : Opens Stmt mode text

pub record Fronts (c : Nonterminal) (t : Tree) : Type 0 where
  pub front : frontal c ≡ true → Front c t
  pub later : is_later c ≡ true → PieceFront t
  pub hole : holes c ≡ true → (joined (said t) ≡ []) ⊎ Front c t
  pub body : is_body c ≡ true → ((w : Ahead) → ahead (joined (said t)) w ≡ w) ⊎ LineFront t

-- each tree at a place of which it is a sound part
abbrev pub TreeFront : Tree → Type 0
TreeFront t = (c : Nonterminal) (g : List Text) → sound c g t ≡ true → Fronts c t

abbrev mutual
  pub FrontOf : Tree → Type 0
  FrontOf (leaf s x) = TreeFront (leaf s x)
  FrontOf (node k cs) = TreeFront (node k cs)
  FrontOf (list us) = FrontsOf us

  pub FrontsOf : Forest → Type 0
  FrontsOf none = Unit {0}
  FrontsOf (part t ts) = FrontOf t × FrontsOf ts

-- ---- the walk

append_nil_signs : (x : List Sign) → x ++ [] ≡ x
append_nil_signs [] = refl
append_nil_signs (m ∷ x) = ap (λ y. m ∷ y) (append_nil_signs x)

before_is : (s : ListShape) (x : List Sign) → is_code_shape s ≡ true → before s x ≡ before_signs s ++ x
before_is Commas x h = refl
before_is Elisions x h = refl
before_is NoTrailing x h = refl
before_is TwoOrMore x h = refl
before_is Lines x h = refl
before_is TopLines x h = refl
before_is Adjacent x h = refl
before_is OneOrMore x h = refl
before_is Spaced x h = refl
before_is Dotted x h = refl
before_is JsxChildren x h = absurd (false≢true h)

with_token_append : (x y : List Sign) → with_token x ≡ false → with_token y ≡ false → with_token (x ++ y) ≡ false
with_token_append [] y h k = k
with_token_append (Tok m s t ∷ x) y h k = absurd (false≢true (sym h))
with_token_append (Semicolon ∷ x) y h k = absurd (false≢true (sym h))
with_token_append (TrailingComma ∷ x) y h k = with_token_append x y h k
with_token_append (Unless ts ∷ x) y h k = with_token_append x y h k
with_token_append (SameLine ∷ x) y h k = with_token_append x y h k
with_token_append (Ends e ∷ x) y h k = with_token_append x y h k
with_token_append (Space ∷ x) y h k = with_token_append x y h k
with_token_append (Pad ∷ x) y h k = with_token_append x y h k
with_token_append (Line ∷ x) y h k = with_token_append x y h k
with_token_append (Indent ∷ x) y h k = with_token_append x y h k
with_token_append (Outdent ∷ x) y h k = with_token_append x y h k
with_token_append (Unindent ∷ x) y h k = with_token_append x y h k
with_token_append (Apart ∷ x) y h k = with_token_append x y h k
with_token_append (Begin ∷ x) y h k = with_token_append x y h k
with_token_append (Count ∷ x) y h k = with_token_append x y h k
with_token_append (One ∷ x) y h k = with_token_append x y h k
with_token_append (End ∷ x) y h k = with_token_append x y h k

-- the first token of a part behind signs of layout
front_holds : (n : Need) (pre : List Sign) (c : Nonterminal) (t : Tree) (w : Ahead) → with_token pre ≡ false → Front c t → seen n (ahead pre (at_once Nothing)) c ≡ true → holds n (ahead pre (ahead (joined (said t)) w)) ≡ true
front_holds n pre c t w p f h =
    ap (λ x. holds n (ahead pre x)) (f.view w) ∙ ap (holds n) (next_apart pre (Token f.mode f.kind f.text) p) ∙ seen_holds n (ahead pre (at_once Nothing)) c f.mode f.kind f.text f.opens h

part_holds : (n : Need) (pre : List Sign) (c : Nonterminal) (t : Tree) (w : Ahead) → with_token pre ≡ false → Fronts c t → seen_part n pre c ≡ true → holds n (ahead pre (ahead (joined (said t)) w)) ≡ true
part_holds n pre c t w p f h = go (frontal c) refl h
  where
    go : (b : Bool) → frontal c ≡ b → cond b (seen n (ahead pre (at_once Nothing)) c) (is_later c && seen_piece n (ahead pre (at_once Nothing))) ≡ true → holds n (ahead pre (ahead (joined (said t)) w)) ≡ true
    go true e h = front_holds n pre c t w p (f.front e) h
    go false e h =
        let a = and_parts (is_later c) (seen_piece n (ahead pre (at_once Nothing))) h in
        let q = f.later a.0 in
        ap (λ x. holds n (ahead pre x)) (q.view w) ∙ ap (holds n) (next_apart pre (Token Piece q.kind q.text) p) ∙ piece_holds n (ahead pre (at_once Nothing)) q.kind q.text a.1

-- what a list begins with: its first item, or the comma behind a hole
item_ahead : (s : ListShape) (x : List Sign) (xs : List (List Sign)) (w : Ahead) → is_code_shape s ≡ true → (y : List Sign) × ((v : Ahead) → ahead (gathered s (x ∷ xs)) v ≡ ahead (before_signs s ++ x) (ahead y v))
item_ahead s x [] w h = (behind s x, λ v. ahead_append (before s x) (behind s x) v ∙ ap (λ z. ahead z (ahead (behind s x) v)) (before_is s x h))
item_ahead s x (z ∷ zs) w h = (between s ++ gathered s (z ∷ zs), λ v. ahead_append (before s x) (between s ++ gathered s (z ∷ zs)) v ∙ ap (λ u. ahead u (ahead (between s ++ gathered s (z ∷ zs)) v)) (before_is s x h))

hole_ahead : (xs : List (List Sign)) (v : Ahead) → ahead (gathered Elisions ([] ∷ xs)) v ≡ at_once comma
hole_ahead [] v = refl
hole_ahead (x ∷ xs) v = refl

holey_shape : (s : ListShape) → is_holey s ≡ true → s ≡ Elisions
holey_shape Elisions h = refl
holey_shape _ h = absurd (false≢true h)

first_front : (n : Need) (pre : List Sign) (s : ListShape) (c : Nonterminal) (t : Tree) (ts : Forest) (w : Ahead) → with_token pre ≡ false → is_code_shape s ≡ true → Front c t → seen n (ahead (pre ++ before_signs s) (at_once Nothing)) c ≡ true → holds n (ahead pre (ahead (gathered s (joined (said t) ∷ each_said ts)) w)) ≡ true
first_front n pre s c t ts w p k f h =
    let i = item_ahead s (joined (said t)) (each_said ts) w k in
    ap (λ x. holds n (ahead pre x)) (i.1 w ∙ ahead_append (before_signs s) (joined (said t)) (ahead i.0 w))
    ∙ ap (holds n) (sym (ahead_append pre (before_signs s) (ahead (joined (said t)) (ahead i.0 w))))
    ∙ front_holds n (pre ++ before_signs s) c t (ahead i.0 w) (with_token_append pre (before_signs s) p (no_token s)) f h
  where
    no_token : (s : ListShape) → with_token (before_signs s) ≡ false
    no_token Lines = refl
    no_token Spaced = refl
    no_token Commas = refl
    no_token Elisions = refl
    no_token NoTrailing = refl
    no_token TwoOrMore = refl
    no_token TopLines = refl
    no_token Adjacent = refl
    no_token OneOrMore = refl
    no_token Dotted = refl
    no_token JsxChildren = refl

first_holds : (n : Need) (pre : List Sign) (s : ListShape) (c : Nonterminal) (t : Tree) (ts : Forest) (w : Ahead) → with_token pre ≡ false → Fronts c t → seen_many n pre s c ≡ true → holds n (ahead pre (ahead (gathered s (joined (said t) ∷ each_said ts)) w)) ≡ true
first_holds n pre s c t ts w p f h =
    let a = and_parts (is_code_shape s) _ h in
    let b = and_parts (seen n (ahead (pre ++ before_signs s) (at_once Nothing)) c) (frontal c || (is_holey s && (holes c && holds n (ahead pre (at_once comma))))) a.1 in
    go (frontal c) refl a.0 b.0 b.1
  where
    go : (x : Bool) → frontal c ≡ x → is_code_shape s ≡ true → seen n (ahead (pre ++ before_signs s) (at_once Nothing)) c ≡ true → (x || (is_holey s && (holes c && holds n (ahead pre (at_once comma))))) ≡ true → holds n (ahead pre (ahead (gathered s (joined (said t) ∷ each_said ts)) w)) ≡ true
    go true e k b h = first_front n pre s c t ts w p k (f.front e) b
    go false e k b h =
        let q = and_parts (is_holey s) (holes c && holds n (ahead pre (at_once comma))) h in
        let r = and_parts (holes c) (holds n (ahead pre (at_once comma))) q.1 in
        ⊎_elim (λ (z : joined (said t) ≡ []). ap (λ y. holds n (ahead pre (ahead (gathered s (y ∷ each_said ts)) w))) z ∙ ap (λ y. holds n (ahead pre (ahead (gathered y ([] ∷ each_said ts)) w))) (holey_shape s q.0) ∙ ap (λ y. holds n (ahead pre y)) (hole_ahead (each_said ts) w) ∙ r.1)
        (λ (z : Front c t). first_front n pre s c t ts w p k z b) (f.hole r.0)

some_enough : (s : ListShape) → is_some_shape s ≡ true → enough s none ≡ true → ⊥
some_enough NoTrailing h e = false≢true e
some_enough TwoOrMore h e = false≢true e
some_enough OneOrMore h e = false≢true e
some_enough _ h e = false≢true h

one_sign : (pre : List Sign) (m : Sign) (n : Need) (w : Ahead) → holds n (ahead (pre ++ m ∷ []) w) ≡ true → holds n (ahead pre (sign_ahead m w)) ≡ true
one_sign pre m n w h = ap (holds n) (sym (ahead_append pre (m ∷ []) w)) ∙ h

see_end : (n : Need) (pre : List Sign) (o : Outs) (v : Ahead) → Outside o v → cond o.nothing (holds n (ahead pre at_end)) (idle pre && outside_ok o n) ≡ true → holds n (ahead pre v) ≡ true
see_end n pre o v w h = go o.nothing refl h
  where
    go : (b : Bool) → o.nothing ≡ b → cond b (holds n (ahead pre at_end)) (idle pre && outside_ok o n) ≡ true → holds n (ahead pre v) ≡ true
    go true e h = ap (λ x. holds n (ahead pre x)) (w.end_out e) ∙ h
    go false e h = let a = and_parts (idle pre) (outside_ok o n) h in ap (holds n) (idle_ahead pre v a.0) ∙ outside_holds o n v w a.1

pub front_at : (c : Nonterminal) (g : List Text) (t : Tree) → is_formed Single t ≡ true → FrontOf t → sound c g t ≡ true → Fronts c t
front_at c g (leaf k x) i f h = f c g h
front_at c g (node k cs) i f h = f c g h
front_at c g (list us) i f h = absurd (false≢true i)

one_front : (c : Nonterminal) (t : Tree) (y : Bool) → FrontOf t → ((is_formed Single t && (sound c [] t && true)) && y) ≡ true → Fronts c t
one_front c t y f h =
    let a = and_parts (is_formed Single t && (sound c [] t && true)) y h in
    let b = and_parts (is_formed Single t) (sound c [] t && true) a.0 in
    front_at c [] t b.0 f ((and_parts (sound c [] t) true b.1).0)

part_case : (n : Need) (pre : List Sign) (c : Nonterminal) (t : Tree) (k : List Sign) (v : Ahead) (y : Bool) → with_token pre ≡ false → Fronts c t → cond (is_body c) (seen n (ahead (pre ++ Line ∷ []) (at_once Nothing)) Stmt && y) (seen_part n pre c) ≡ true
    → (y ≡ true → holds n (ahead pre (ahead k v)) ≡ true) → holds n (ahead pre (ahead (joined (said t) ++ k) v)) ≡ true
part_case n pre c t k v y p f h r = ap (λ x. holds n (ahead pre x)) (ahead_append (joined (said t)) k v) ∙ go (is_body c) refl h
  where
    w : Ahead
    w = ahead k v

    go : (b : Bool) → is_body c ≡ b → cond b (seen n (ahead (pre ++ Line ∷ []) (at_once Nothing)) Stmt && y) (seen_part n pre c) ≡ true → holds n (ahead pre (ahead (joined (said t)) (ahead k v))) ≡ true
    go false e h = part_holds n pre c t (ahead k v) p f h
    go true e h =
        let a = and_parts (seen n (ahead (pre ++ Line ∷ []) (at_once Nothing)) Stmt) y h in
        ⊎_elim (λ (z : (u : Ahead) → ahead (joined (said t)) u ≡ u). ap (λ x. holds n (ahead pre x)) (z (ahead k v)) ∙ r a.1)
        (λ (z : LineFront t). ap (λ x. holds n (ahead pre x)) (z.view (ahead k v)) ∙ ap (holds n) (sym (ahead_append pre (Line ∷ []) (at_once (Token z.mode z.kind z.text)))) ∙ ap (holds n) (next_apart (pre ++ Line ∷ []) (Token z.mode z.kind z.text) (with_token_append pre (Line ∷ []) p refl)) ∙ seen_holds n (ahead (pre ++ Line ∷ []) (at_once Nothing)) Stmt z.mode z.kind z.text z.opens a.0) (f.body e)

some_case : (n : Need) (pre x y : List Sign) (c : Nonterminal) (t : Tree) (k : List Sign) (v : Ahead) → with_token pre ≡ false → Fronts c t → cond (with_token x) (holds n (ahead (pre ++ x) (at_once Nothing))) (seen_part n (pre ++ x) c) ≡ true → holds n (ahead pre (ahead ((x ++ (joined (said t) ++ y)) ++ k) v)) ≡ true
some_case n pre x y c t k v p f h =
    ap (λ u. holds n (ahead pre u)) (ahead_append (x ++ (joined (said t) ++ y)) k v ∙ ahead_append x (joined (said t) ++ y) (ahead k v) ∙ ap (ahead x) (ahead_append (joined (said t)) y (ahead k v)))
    ∙ ap (holds n) (sym (ahead_append pre x (ahead (joined (said t)) (ahead y (ahead k v))))) ∙ go (with_token x) refl h
  where
    go : (b : Bool) → with_token x ≡ b → cond b (holds n (ahead (pre ++ x) (at_once Nothing))) (seen_part n (pre ++ x) c) ≡ true → holds n (ahead (pre ++ x) (ahead (joined (said t)) (ahead y (ahead k v)))) ≡ true
    go true e h = ap (holds n) (ahead_append pre x (ahead (joined (said t)) (ahead y (ahead k v))) ∙ ap (ahead pre) (with_token_ahead x (ahead (joined (said t)) (ahead y (ahead k v))) (at_once Nothing) e) ∙ sym (ahead_append pre x (at_once Nothing))) ∙ h
    go false e h = part_holds n (pre ++ x) c t (ahead y (ahead k v)) (with_token_append pre x p e) f h

-- signs that show what is asked
abbrev pub Shows : Need → Outs → Ahead → Production → List Sign → Type 0
Shows n o v ps k = (pre : List Sign) → with_token pre ≡ false → sees o n pre ps ≡ true → holds n (ahead pre (ahead k v)) ≡ true

abbrev See : Need → Outs → Ahead → Production → Type 0
See n o v ps = (pre : List Sign) (cs : Forest) (g : List Text) → with_token pre ≡ false → rowed g ps cs ≡ true → FrontsOf cs → sees o n pre ps ≡ true → holds n (ahead pre (ahead (walk ps (saids cs)) v)) ≡ true

pub see : (n : Need) (o : Outs) (v : Ahead) → Outside o v → (ps : Production) → See n o v ps
see n o v w [] pre cs g p s f h = see_end n pre o v w h
see n o v w (Fixed (Tok m k t) ∷ ps) pre cs g p s f h = h
see n o v w (Fixed Semicolon ∷ ps) pre cs g p s f h = h
see n o v w (Fixed TrailingComma ∷ ps) pre cs g p s f h = one_sign pre TrailingComma n _ (see n o v w ps (pre ++ TrailingComma ∷ []) cs g (with_token_append pre (TrailingComma ∷ []) p refl) s f h)
see n o v w (Fixed (Unless ts) ∷ ps) pre cs g p s f h = one_sign pre (Unless ts) n _ (see n o v w ps (pre ++ Unless ts ∷ []) cs ts (with_token_append pre (Unless ts ∷ []) p refl) s f h)
see n o v w (Fixed SameLine ∷ ps) pre cs g p s f h = one_sign pre SameLine n _ (see n o v w ps (pre ++ SameLine ∷ []) cs g (with_token_append pre (SameLine ∷ []) p refl) s f h)
see n o v w (Fixed (Ends e) ∷ ps) pre cs g p s f h = one_sign pre (Ends e) n _ (see n o v w ps (pre ++ Ends e ∷ []) cs g (with_token_append pre (Ends e ∷ []) p refl) s f h)
see n o v w (Fixed Space ∷ ps) pre cs g p s f h = one_sign pre Space n _ (see n o v w ps (pre ++ Space ∷ []) cs g (with_token_append pre (Space ∷ []) p refl) s f h)
see n o v w (Fixed Pad ∷ ps) pre cs g p s f h = one_sign pre Pad n _ (see n o v w ps (pre ++ Pad ∷ []) cs g (with_token_append pre (Pad ∷ []) p refl) s f h)
see n o v w (Fixed Line ∷ ps) pre cs g p s f h = one_sign pre Line n _ (see n o v w ps (pre ++ Line ∷ []) cs g (with_token_append pre (Line ∷ []) p refl) s f h)
see n o v w (Fixed Indent ∷ ps) pre cs g p s f h = one_sign pre Indent n _ (see n o v w ps (pre ++ Indent ∷ []) cs g (with_token_append pre (Indent ∷ []) p refl) s f h)
see n o v w (Fixed Outdent ∷ ps) pre cs g p s f h = one_sign pre Outdent n _ (see n o v w ps (pre ++ Outdent ∷ []) cs g (with_token_append pre (Outdent ∷ []) p refl) s f h)
see n o v w (Fixed Unindent ∷ ps) pre cs g p s f h = one_sign pre Unindent n _ (see n o v w ps (pre ++ Unindent ∷ []) cs g (with_token_append pre (Unindent ∷ []) p refl) s f h)
see n o v w (Fixed Apart ∷ ps) pre cs g p s f h = one_sign pre Apart n _ (see n o v w ps (pre ++ Apart ∷ []) cs g (with_token_append pre (Apart ∷ []) p refl) s f h)
see n o v w (Fixed Begin ∷ ps) pre cs g p s f h = one_sign pre Begin n _ (see n o v w ps (pre ++ Begin ∷ []) cs g (with_token_append pre (Begin ∷ []) p refl) s f h)
see n o v w (Fixed Count ∷ ps) pre cs g p s f h = one_sign pre Count n _ (see n o v w ps (pre ++ Count ∷ []) cs g (with_token_append pre (Count ∷ []) p refl) s f h)
see n o v w (Fixed One ∷ ps) pre cs g p s f h = one_sign pre One n _ (see n o v w ps (pre ++ One ∷ []) cs g (with_token_append pre (One ∷ []) p refl) s f h)
see n o v w (Fixed End ∷ ps) pre cs g p s f h = one_sign pre End n _ (see n o v w ps (pre ++ End ∷ []) cs g (with_token_append pre (End ∷ []) p refl) s f h)
see n o v w (Within x ∷ ps) pre cs g p s f h = see n o v w ps pre cs g p s f h
see n o v w (Part c ∷ ps) pre none g p s f h = absurd (false≢true s)
see n o v w (Part c ∷ ps) pre (part (list us) ts) g p s f h = absurd (false≢true s)
see n o v w (Part c ∷ ps) pre (part (leaf k x) ts) g p s f h =
    let q = and_parts (sound c g (leaf k x)) (rowed [] ps ts) s in
    part_case n pre c (leaf k x) (walk ps (saids ts)) v (sees o n pre ps) p (f.0 c g q.0) h (see n o v w ps pre ts [] p q.1 f.1)
see n o v w (Part c ∷ ps) pre (part (node k cs) ts) g p s f h =
    let q = and_parts (sound c g (node k cs)) (rowed [] ps ts) s in
    part_case n pre c (node k cs) (walk ps (saids ts)) v (sees o n pre ps) p (f.0 c g q.0) h (see n o v w ps pre ts [] p q.1 f.1)
see n o v w (Optional x c y r ∷ ps) pre none g p s f h = absurd (false≢true s)
see n o v w (Optional x c y r ∷ ps) pre (part (leaf k u) ts) g p s f h = absurd (false≢true s)
see n o v w (Optional x c y r ∷ ps) pre (part (node k cs) ts) g p s f h = absurd (false≢true s)
see n o v w (Optional x c y [] ∷ ps) pre (part (list none) ts) g p s f h = see n o v w ps pre ts [] p s f.1 ((and_parts _ (sees o n pre ps) h).1)
see n o v w (Optional x c y (r ∷ rs) ∷ ps) pre (part (list none) ts) g p s f h = see n o v w ps pre ts [] p s f.1 ((and_parts _ (sees o n pre ps) h).1)
see n o v w (Optional x c y [] ∷ ps) pre (part (list (part t none)) ts) g p s f h = some_case n pre x y c t (walk ps (saids ts)) v p (one_front c t (rowed [] ps ts) f.0.0 s) ((and_parts _ (sees o n pre ps) h).0)
see n o v w (Optional x c y (r ∷ rs) ∷ ps) pre (part (list (part t none)) ts) g p s f h = some_case n pre x y c t (walk ps (saids ts)) v p (one_front c t (rowed [] ps ts) f.0.0 s) ((and_parts _ (sees o n pre ps) h).0)
see n o v w (Optional x c y r ∷ ps) pre (part (list (part t (part u us))) ts) g p s f h = absurd (false≢true s)
see n o v w (Many z c ∷ ps) pre none g p s f h = absurd (false≢true s)
see n o v w (Many z c ∷ ps) pre (part (leaf k u) ts) g p s f h = absurd (false≢true s)
see n o v w (Many z c ∷ ps) pre (part (node k cs) ts) g p s f h = absurd (false≢true s)
see n o v w (Many z c ∷ ps) pre (part (list none) ts) g p s f h =
    let q = and_parts (enough z none && true) (rowed [] ps ts) s in
    let e = and_parts (enough z none) true q.0 in
    let k = and_parts (seen_many n pre z c) (is_some_shape z || sees o n pre ps) h in
    see n o v w ps pre ts [] p q.1 f.1 (⊎_elim (λ (i : is_some_shape z ≡ true). absurd (some_enough z i e.0)) (λ (i : sees o n pre ps ≡ true). i) (or_cases (is_some_shape z) (sees o n pre ps) k.1))
see n o v w (Many z c ∷ ps) pre (part (list (part t us)) ts) g p s f h =
    let q = and_parts (enough z (part t us) && last_only (part t us)) _ s in
    let r = and_parts (is_formed Single t && (sound c [] t && sound_each c us)) (rowed [] ps ts) q.1 in
    let i = and_parts (is_formed Single t) (sound c [] t && sound_each c us) r.0 in
    let j = and_parts (sound c [] t) (sound_each c us) i.1 in
    ap (λ y. holds n (ahead pre y)) (ahead_append (gathered z (joined (said t) ∷ each_said us)) (walk ps (saids ts)) v)
    ∙ first_holds n pre z c t us (ahead (walk ps (saids ts)) v) p (front_at c [] t i.0 f.0.0 j.0) ((and_parts (seen_many n pre z c) (is_some_shape z || sees o n pre ps) h).0)

-- the same for signs by themselves, a part and a list
pub see_fixed : (n : Need) (o : Outs) (v : Ahead) (ps : Production) (k : List Sign) → Shows n o v ps k → (ms : List Sign) → Shows n o v (fixed ms ++ ps) (ms ++ k)
see_fixed n o v ps k r [] pre p h = r pre p h
see_fixed n o v ps k r (Tok m s t ∷ ms) pre p h = h
see_fixed n o v ps k r (Semicolon ∷ ms) pre p h = h
see_fixed n o v ps k r (TrailingComma ∷ ms) pre p h = one_sign pre TrailingComma n _ (see_fixed n o v ps k r ms (pre ++ TrailingComma ∷ []) (with_token_append pre (TrailingComma ∷ []) p refl) h)
see_fixed n o v ps k r (Unless ts ∷ ms) pre p h = one_sign pre (Unless ts) n _ (see_fixed n o v ps k r ms (pre ++ Unless ts ∷ []) (with_token_append pre (Unless ts ∷ []) p refl) h)
see_fixed n o v ps k r (SameLine ∷ ms) pre p h = one_sign pre SameLine n _ (see_fixed n o v ps k r ms (pre ++ SameLine ∷ []) (with_token_append pre (SameLine ∷ []) p refl) h)
see_fixed n o v ps k r (Ends e ∷ ms) pre p h = one_sign pre (Ends e) n _ (see_fixed n o v ps k r ms (pre ++ Ends e ∷ []) (with_token_append pre (Ends e ∷ []) p refl) h)
see_fixed n o v ps k r (Space ∷ ms) pre p h = one_sign pre Space n _ (see_fixed n o v ps k r ms (pre ++ Space ∷ []) (with_token_append pre (Space ∷ []) p refl) h)
see_fixed n o v ps k r (Pad ∷ ms) pre p h = one_sign pre Pad n _ (see_fixed n o v ps k r ms (pre ++ Pad ∷ []) (with_token_append pre (Pad ∷ []) p refl) h)
see_fixed n o v ps k r (Line ∷ ms) pre p h = one_sign pre Line n _ (see_fixed n o v ps k r ms (pre ++ Line ∷ []) (with_token_append pre (Line ∷ []) p refl) h)
see_fixed n o v ps k r (Indent ∷ ms) pre p h = one_sign pre Indent n _ (see_fixed n o v ps k r ms (pre ++ Indent ∷ []) (with_token_append pre (Indent ∷ []) p refl) h)
see_fixed n o v ps k r (Outdent ∷ ms) pre p h = one_sign pre Outdent n _ (see_fixed n o v ps k r ms (pre ++ Outdent ∷ []) (with_token_append pre (Outdent ∷ []) p refl) h)
see_fixed n o v ps k r (Unindent ∷ ms) pre p h = one_sign pre Unindent n _ (see_fixed n o v ps k r ms (pre ++ Unindent ∷ []) (with_token_append pre (Unindent ∷ []) p refl) h)
see_fixed n o v ps k r (Apart ∷ ms) pre p h = one_sign pre Apart n _ (see_fixed n o v ps k r ms (pre ++ Apart ∷ []) (with_token_append pre (Apart ∷ []) p refl) h)
see_fixed n o v ps k r (Begin ∷ ms) pre p h = one_sign pre Begin n _ (see_fixed n o v ps k r ms (pre ++ Begin ∷ []) (with_token_append pre (Begin ∷ []) p refl) h)
see_fixed n o v ps k r (Count ∷ ms) pre p h = one_sign pre Count n _ (see_fixed n o v ps k r ms (pre ++ Count ∷ []) (with_token_append pre (Count ∷ []) p refl) h)
see_fixed n o v ps k r (One ∷ ms) pre p h = one_sign pre One n _ (see_fixed n o v ps k r ms (pre ++ One ∷ []) (with_token_append pre (One ∷ []) p refl) h)
see_fixed n o v ps k r (End ∷ ms) pre p h = one_sign pre End n _ (see_fixed n o v ps k r ms (pre ++ End ∷ []) (with_token_append pre (End ∷ []) p refl) h)

pub see_part : (n : Need) (o : Outs) (v : Ahead) (ps : Production) (k : List Sign) (c : Nonterminal) (t : Tree) → Shows n o v ps k → Fronts c t → Shows n o v (Part c ∷ ps) (joined (said t) ++ k)
see_part n o v ps k c t r f pre p h = part_case n pre c t k v (sees o n pre ps) p f h (r pre p)

pub see_many : (n : Need) (o : Outs) (v : Ahead) (ps : Production) (k : List Sign) (s : ListShape) (c : Nonterminal) (t : Tree) (ts : Forest) → Fronts c t → Shows n o v (Many s c ∷ ps) (gathered s (joined (said t) ∷ each_said ts) ++ k)
see_many n o v ps k s c t ts f pre p h =
    ap (λ y. holds n (ahead pre y)) (ahead_append (gathered s (joined (said t) ∷ each_said ts)) k v)
    ∙ first_holds n pre s c t ts (ahead k v) p f ((and_parts (seen_many n pre s c) (is_some_shape s || sees o n pre ps) h).0)
