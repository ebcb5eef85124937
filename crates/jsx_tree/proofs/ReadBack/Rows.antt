-- A row whose parts are good is good.
use Rattle.std.proofs.Common.{◌≡◌, List, [], ◌∷◌, ◌++◌, Bool, true, false, cond, not, ◌||◌, ◌&&◌, codes, refl, sym, ap, ◌∙◌, ⊎_elim, ◌⊎◌, inl}
use Rattle.std.proofs.lemmas.Bool.{false≢true, and_parts, and_from, or_parts, or_cases, not-true}
use Rattle.jsx_base.specs.Token.{Text, among, same}
use Rattle.jsx_tree.specs.Signs.{Sign, Tok, Semicolon, TrailingComma, Unless, SameLine, Ends, Space, Pad, Line, Indent, Outdent, Unindent, Apart, Begin, Count, One, End}
use Rattle.jsx_tree.specs.Kinds.{RestPat, RestProperty, Binds, Assigns, function, Kind, Tree, leaf, node, list, Forest, none, part}
use Rattle.jsx_tree.specs.Nonterminals.{Nonterminal, NewCallee, in_homes, leaf_in, homes}
use Rattle.jsx_tree.specs.Grammar.{ListShape, Commas, Elisions, NoTrailing, TwoOrMore, Lines, TopLines, Adjacent, OneOrMore, Spaced, Dotted, JsxChildren, Fixed, Part, Optional, Many, Within, Production, fixed, pun}
use Rattle.jsx_tree.specs.Layout.{first_token}
use Rattle.jsx_tree.specs.Spelling.{said, saids, each_said, joined, walk, gathered, before, between, behind, spelled}
use Rattle.jsx_tree.specs.Form.{Single, enough, last_only, is_last, last_kind, admits, admits_node, spine_calls}
use Rattle.jsx_tree.specs.StaticRules.{open_if}
use Rattle.jsx_tree.proofs.ReadBack.Joins.{open_gap, joint, Ahead, ahead, stands, skips_next, no_slash, is_none_of, at_end, good, sign_good}
use Rattle.jsx_tree.proofs.ReadBack.RowChecks.{Need, Even, After, NoneOf, Sure, holds, Outs, is_holey, is_code_shape, before_signs, behind_signs, frontal, rests, is_inner, is_member, is_opened, elsed, is_punct, is_formed, sound, sound_each, rowed, sees, may_else, need_of, part_ok, guards, is_no_guard, sign_ok, signs_ok, absent_ok, many_ok, row_ok, elses, is_due, is_whole, try_words}
use Rattle.jsx_tree.proofs.ReadBack.Signs.{is_some, text_of, first_next}
use Rattle.jsx_tree.proofs.ReadBack.NextTokens.{ahead_append, good_append, even_gap, Outside, none_code}
use Rattle.jsx_tree.proofs.ReadBack.NextInRow.{Front, Fronts, FrontOf, FrontsOf, front_at, Shows, see, see_fixed, see_part, see_many}
use Rattle.jsx_tree.proofs.ReadBack.Basics.{clash}

-- ---- trees

-- what is asked of what comes behind a tree at c: `e` where an `else` may
pub record Before (c : Nonterminal) (e : Bool) (t : Tree) (v : Ahead) : Type 0 where
  pub needs : holds (need_of c e) v ≡ true
  pub no_open : e ≡ true → elsed c ≡ true → open_if t ≡ false
  pub els : e ≡ true → (elsed c || (is_member c || is_opened c)) ≡ true
  pub comma : is_last t ≡ true → is_none_of v.next (codes "," ∷ []) ≡ true
  pub part : is_whole c ≡ true → is_none_of v.next try_words ≡ true
  pub ends : (is_inner c ≡ true) ⊎ (v ≡ at_end)

abbrev pub TreeGood : Tree → Type 0
TreeGood t = (c : Nonterminal) (g : List Text) (e : Bool) (v : Ahead) → sound c g t ≡ true → Before c e t v → good (joined (said t)) v ≡ true

abbrev mutual
  pub GoodOf : Tree → Type 0
  GoodOf (leaf s x) = TreeGood (leaf s x)
  GoodOf (node k cs) = TreeGood (node k cs)
  GoodOf (list us) = GoodsOf us

  pub GoodsOf : Forest → Type 0
  GoodsOf none = Unit {0}
  GoodsOf (part t ts) = GoodOf t × GoodsOf ts

pub good_at : (c : Nonterminal) (g : List Text) (e : Bool) (t : Tree) (v : Ahead) → is_formed Single t ≡ true → GoodOf t → sound c g t ≡ true → Before c e t v → good (joined (said t)) v ≡ true
good_at c g e (leaf k x) v i f h b = f c g e v h b
good_at c g e (node k cs) v i f h b = f c g e v h b
good_at c g e (list us) v i f h b = absurd (false≢true i)

-- ---- signs

-- a guard before a part, which says which tokens may not come first
abbrev pub Guarded : Sign → Production → Ahead → Type 0
Guarded (Unless ts) ps w = guards ps ≡ true → no_slash ts ≡ true → is_none_of w.next ts ≡ true
Guarded m ps w = Unit {0}

sign_holds : (o : Outs) (v : Ahead) (m : Sign) (ps : Production) (k : List Sign) → ((n : Need) → Shows n o v ps k) → Guarded m ps (ahead k v) → sign_ok o m ps ≡ true → sign_good m (ahead k v) ≡ true
sign_holds o v (Tok m s t) ps k f g h =
    let w : Ahead = ahead k v in
    let a = and_parts (stands m s t) (sees o (After s t) [] ps && (not (same t (codes "/")) || sees o Sure [] ps)) h in
    let b = and_parts (sees o (After s t) [] ps) (not (same t (codes "/")) || sees o Sure [] ps) a.1 in
    let d = and_parts (open_gap [] w) (joint s t w) (f (After s t) [] refl b.0) in
    and_from (stands m s t) _ a.0 (and_from (open_gap [] w && (not (same t (codes "/")) || w.sure)) (joint s t w) (and_from (open_gap [] w) (not (same t (codes "/")) || w.sure) d.0 (sure (same t (codes "/")) b.1)) d.1)
  where
    sure : (z : Bool) → (not z || sees o Sure [] ps) ≡ true → (not z || (ahead k v).sure) ≡ true
    sure true e = f Sure [] refl e
    sure false e = refl
sign_holds o v Semicolon ps k f g h = even_gap (ahead k v) (f Even [] refl h)
sign_holds o v TrailingComma ps k f g h = f (NoneOf (codes "," ∷ [])) [] refl h
sign_holds o v (Unless ts) ps k f g h = ⊎_elim (λ (e : (guards ps && no_slash ts) ≡ true). let a = and_parts (guards ps) (no_slash ts) e in g a.0 a.1) (λ (e : sees o (NoneOf ts) [] ps ≡ true). f (NoneOf ts) [] refl e) (or_cases (guards ps && no_slash ts) (sees o (NoneOf ts) [] ps) h)
sign_holds o v SameLine ps k f g h = (and_parts (skips_next (ahead k v).next) _ (f Even [] refl h)).0
sign_holds o v (Ends e) ps k f g h = refl
sign_holds o v Space ps k f g h = refl
sign_holds o v Pad ps k f g h = refl
sign_holds o v Line ps k f g h = refl
sign_holds o v Indent ps k f g h = refl
sign_holds o v Outdent ps k f g h = refl
sign_holds o v Unindent ps k f g h = refl
sign_holds o v Apart ps k f g h = refl
sign_holds o v Begin ps k f g h = refl
sign_holds o v Count ps k f g h = refl
sign_holds o v One ps k f g h = refl
sign_holds o v End ps k f g h = refl

no_guard : (m : Sign) (ps : Production) (w : Ahead) → is_no_guard m ≡ true → Guarded m ps w
no_guard (Unless ts) ps w h = absurd (false≢true h)
no_guard (Tok m s t) ps w h = tt
no_guard Semicolon ps w h = tt
no_guard TrailingComma ps w h = tt
no_guard SameLine ps w h = tt
no_guard (Ends e) ps w h = tt
no_guard Space ps w h = tt
no_guard Pad ps w h = tt
no_guard Line ps w h = tt
no_guard Indent ps w h = tt
no_guard Outdent ps w h = tt
no_guard Unindent ps w h = tt
no_guard Apart ps w h = tt
no_guard Begin ps w h = tt
no_guard Count ps w h = tt
no_guard One ps w h = tt
no_guard End ps w h = tt

signs_hold : (o : Outs) (v : Ahead) (ms : List Sign) (ps : Production) (k : List Sign) → ((n : Need) → Shows n o v ps k) → signs_ok o ms ps ≡ true → good k v ≡ true → good (ms ++ k) v ≡ true
signs_hold o v [] ps k f h q = q
signs_hold o v (m ∷ ms) ps k f h q =
    let a = and_parts (is_no_guard m && sign_ok o m (fixed ms ++ ps)) (signs_ok o ms ps) h in
    let b = and_parts (is_no_guard m) (sign_ok o m (fixed ms ++ ps)) a.0 in
    and_from (sign_good m (ahead (ms ++ k) v)) (good (ms ++ k) v) (sign_holds o v m (fixed ms ++ ps) (ms ++ k) (λ n. see_fixed n o v ps k (f n) ms) (no_guard m (fixed ms ++ ps) (ahead (ms ++ k) v) b.0) b.1) (signs_hold o v ms ps k f a.1 q)

-- ---- parts

-- a part before what its row lets come next
part_good : (o : Outs) (v : Ahead) (c : Nonterminal) (g : List Text) (t : Tree) (ps : Production) (k : List Sign) → is_formed Single t ≡ true → GoodOf t → sound c g t ≡ true → ((n : Need) → Shows n o v ps k) → part_ok o c ps ≡ true → is_inner c ≡ true → (may_else o ps ≡ true → elsed c ≡ true → open_if t ≡ false) → (is_last t ≡ true → is_none_of (ahead k v).next (codes "," ∷ []) ≡ true) → good k v ≡ true → good (joined (said t) ++ k) v ≡ true
part_good o v c g t ps k i q s f h n e l r =
    let z = and_parts (sees o (need_of c (may_else o ps)) [] ps && (not (may_else o ps) || (elsed c || (is_member c || is_opened c)))) (not (is_whole c) || sees o (NoneOf try_words) [] ps) h in
    let a = and_parts (sees o (need_of c (may_else o ps)) [] ps) (not (may_else o ps) || (elsed c || (is_member c || is_opened c))) z.0 in
    good_append (joined (said t)) k v
    (good_at c g (may_else o ps) t (ahead k v) i q s (record { needs = f (need_of c (may_else o ps)) [] refl a.0; no_open = e; els = λ x. imp_to (may_else o ps) (elsed c || (is_member c || is_opened c)) a.1 x; comma = l; part = λ x. f (NoneOf try_words) [] refl (imp_to (is_whole c) (sees o (NoneOf try_words) [] ps) z.1 x); ends = inl n })) r
  where
    imp_to : (a b : Bool) → (not a || b) ≡ true → a ≡ true → b ≡ true
    imp_to true b h e = h
    imp_to false b h e = absurd (false≢true e)

-- no rest stands where none may
abbrev NoRest : Nonterminal → List Text → Tree → Type 0
NoRest c g t = sound c g t ≡ true → rests c ≡ false → is_last t ≡ false

else_by : (x y : Bool) (t : Tree) → (not (x && y) || not (open_if t)) ≡ true → x ≡ true → y ≡ true → open_if t ≡ false
else_by true true t h e f = not-true (open_if t) h
else_by true false t h e f = absurd (false≢true f)
else_by false y t h e f = absurd (false≢true e)

-- ---- guards

guard_holds : (c : Nonterminal) (ts : List Text) (t : Tree) (k : List Sign) (v : Ahead) → frontal c ≡ true → Fronts c t → among (first_token (spelled t)) ts ≡ false → no_slash ts ≡ true → is_none_of (ahead (joined (said t) ++ k) v).next ts ≡ true
guard_holds c ts t k v h f a n =
    let r : Front c t = f.front h in
    let e : first_token (spelled t) ≡ r.text =
    first_next (spelled t) (ap (λ w. is_some w.next) (r.view at_end)) ∙ ap (λ w. text_of w.next) (r.view at_end) in
    ap (λ w. is_none_of w.next ts) (ahead_append (joined (said t)) k v ∙ r.view (ahead k v)) ∙ none_code r.mode r.kind r.text ts r.opens.code (ap (λ x. among x ts) (sym e) ∙ a) n

sound_guard : (c : Nonterminal) (g : List Text) (t : Tree) → is_formed Single t ≡ true → sound c g t ≡ true → among (first_token (spelled t)) g ≡ false
sound_guard c g (leaf s x) i h = not-true _ ((and_parts (leaf_in c s x) (not (among (first_token (spelled (leaf s x))) g)) ((and_parts (leaf_in c s x && not (among (first_token (spelled (leaf s x))) g)) _ h).0)).1)
sound_guard c g (node k cs) i h = not-true _ ((and_parts (admits c (node k cs)) (not (among (first_token (spelled (node k cs))) g)) ((and_parts (admits c (node k cs) && not (among (first_token (spelled (node k cs))) g)) _ h).0)).1)
sound_guard c g (list us) i h = absurd (false≢true i)

pub admits_homes : (c : Nonterminal) (t : Tree) (k : Kind) → admits_node c t k ≡ true → in_homes c (homes k) ≡ true
admits_homes NewCallee t k h = (and_parts (in_homes NewCallee (homes k)) (not (spine_calls t)) h).0
admits_homes _ t k h = h

pub home_of : (c : Nonterminal) (g : List Text) (k : Kind) (cs : Forest) → sound c g (node k cs) ≡ true → in_homes c (homes k) ≡ true
home_of c g k cs h = admits_homes c (node k cs) k ((and_parts (admits c (node k cs)) (not (among (first_token (spelled (node k cs))) g)) ((and_parts (admits c (node k cs) && not (among (first_token (spelled (node k cs))) g)) _ h).0)).0)

no_rest_kind : (c : Nonterminal) (k : Kind) → in_homes c (homes k) ≡ true → rests c ≡ false → last_kind k ≡ false
no_rest_kind c (function (RestPat Binds)) h n = clash _ h ((or_parts (in_homes c (homes (function (RestPat Binds)))) _ n).0)
no_rest_kind c (function (RestPat Assigns)) h n = clash _ h ((or_parts (in_homes c (homes (function (RestPat Assigns)))) _ ((or_parts (in_homes c (homes (function (RestPat Binds)))) _ n).1)).0)
no_rest_kind c (function (RestProperty Binds)) h n =
    clash _ h ((or_parts (in_homes c (homes (function (RestProperty Binds)))) _ ((or_parts (in_homes c (homes (function (RestPat Assigns)))) _ ((or_parts (in_homes c (homes (function (RestPat Binds)))) _ n).1)).1)).0)
no_rest_kind c (function (RestProperty Assigns)) h n =
    clash _ h ((or_parts (in_homes c (homes (function (RestProperty Binds)))) _ ((or_parts (in_homes c (homes (function (RestPat Assigns)))) _ ((or_parts (in_homes c (homes (function (RestPat Binds)))) _ n).1)).1)).1)
no_rest_kind c _ h n = refl

pub no_rest : (c : Nonterminal) (g : List Text) (t : Tree) → sound c g t ≡ true → rests c ≡ false → is_last t ≡ false
no_rest c g (leaf s x) h n = refl
no_rest c g (node k cs) h n = no_rest_kind c k (home_of c g k cs h) n
no_rest c g (list us) h n = refl

-- ---- lists

-- what a list has: its items one by one, each with what stands behind it
between_shows : (n : Need) (o : Outs) (v : Ahead) (ps : Production) (k : List Sign) (s : ListShape) (c : Nonterminal) (t : Tree) (ts : Forest) → Fronts c t → Shows n o v (fixed (between s) ++ (Many s c ∷ ps)) (between s ++ (gathered s (joined (said t) ∷ each_said ts) ++ k))
between_shows n o v ps k s c t ts f = see_fixed n o v (Many s c ∷ ps) (gathered s (joined (said t) ∷ each_said ts) ++ k) (see_many n o v ps k s c t ts f) (between s)

pub append_signs : (x y z : List Sign) → (x ++ y) ++ z ≡ x ++ (y ++ z)
append_signs [] y z = refl
append_signs (m ∷ x) y z = ap (λ w. m ∷ w) (append_signs x y z)

before_is : (s : ListShape) (x : List Sign) → is_code_shape s ≡ true → before s x ≡ before_signs s ++ x
before_is Commas x h = refl
before_is Elisions x h = refl
before_is NoTrailing x h = refl
before_is TwoOrMore x h = refl
before_is Lines x h = refl
before_is TopLines x h = refl
before_is Adjacent x h = refl
before_is OneOrMore x h = refl
before_is Spaced x h = refl
before_is Dotted x h = refl
before_is JsxChildren x h = absurd (false≢true h)

before_good : (s : ListShape) (x : List Sign) (v : Ahead) → is_code_shape s ≡ true → good x v ≡ true → good (before s x) v ≡ true
before_good Commas x v h g = g
before_good Elisions x v h g = g
before_good NoTrailing x v h g = g
before_good TwoOrMore x v h g = g
before_good Lines x v h g = g
before_good TopLines x v h g = g
before_good Adjacent x v h g = g
before_good OneOrMore x v h g = g
before_good Spaced x v h g = g
before_good Dotted x v h g = g
before_good JsxChildren x v h g = absurd (false≢true h)

-- the last item, where x are its signs
last_good : (s : ListShape) (x k : List Sign) (v : Ahead) → is_code_shape s ≡ true → good (x ++ (behind_signs s ++ k)) v ≡ true → (is_holey s ≡ true → good (pun "," ∷ k) v ≡ true) → good ((before s x ++ behind s x) ++ k) v ≡ true
last_good Elisions [] k v h g q = q refl
last_good Elisions (m ∷ x) k v h g q = ap (λ y. good y v) (append_signs (m ∷ x) (TrailingComma ∷ []) k) ∙ g
last_good Commas x k v h g q = ap (λ y. good y v) (append_signs x (TrailingComma ∷ []) k) ∙ g
last_good NoTrailing x k v h g q = ap (λ y. good y v) (append_signs x [] k) ∙ g
last_good TwoOrMore x k v h g q = ap (λ y. good y v) (append_signs x [] k) ∙ g
last_good Lines x k v h g q = ap (λ y. good y v) (append_signs x [] k) ∙ g
last_good TopLines x k v h g q = ap (λ y. good y v) (append_signs x (Line ∷ []) k) ∙ g
last_good Adjacent x k v h g q = ap (λ y. good y v) (append_signs x [] k) ∙ g
last_good OneOrMore x k v h g q = ap (λ y. good y v) (append_signs x [] k) ∙ g
last_good Spaced x k v h g q = ap (λ y. good y v) (append_signs x [] k) ∙ g
last_good Dotted x k v h g q = ap (λ y. good y v) (append_signs x [] k) ∙ g
last_good JsxChildren x k v h g q = absurd (false≢true h)

-- what the check of a list says
record ManyOk (o : Outs) (s : ListShape) (c : Nonterminal) (ps : Production) : Type 0 where
  pub inner_item : part_ok o c (fixed (between s) ++ (Many s c ∷ ps)) ≡ true
  pub inner_signs : signs_ok o (between s) (Many s c ∷ ps) ≡ true
  pub last_item : part_ok o c (fixed (behind_signs s) ++ ps) ≡ true
  pub last_signs : signs_ok o (behind_signs s) ps ≡ true
  pub rest_item : (not (rests c) || sees o (NoneOf (codes "," ∷ [])) [] (fixed (behind_signs s) ++ ps)) ≡ true
  pub hole_signs : (not (is_holey s) || signs_ok o (pun "," ∷ []) ps) ≡ true
  pub inner : is_inner c ≡ true
  pub no_else : elsed c ≡ false
  pub shape : is_code_shape s ≡ true

many_of : (o : Outs) (s : ListShape) (c : Nonterminal) (ps : Production) → (many_ok o s c ps && (is_inner c && (not (elsed c) && is_code_shape s))) ≡ true → ManyOk o s c ps
many_of o s c ps h =
    let p1 = part_ok o c (fixed (between s) ++ (Many s c ∷ ps)) in
    let p2 = signs_ok o (between s) (Many s c ∷ ps) in
    let p3 = part_ok o c (fixed (behind_signs s) ++ ps) in
    let p4 = signs_ok o (behind_signs s) ps in
    let p5 = not (rests c) || sees o (NoneOf (codes "," ∷ [])) [] (fixed (behind_signs s) ++ ps) in
    let p6 = not (is_holey s) || signs_ok o (pun "," ∷ []) ps in
    let a = and_parts (many_ok o s c ps) (is_inner c && (not (elsed c) && is_code_shape s)) h in
    let b = and_parts (is_inner c) (not (elsed c) && is_code_shape s) a.1 in
    let d = and_parts (not (elsed c)) (is_code_shape s) b.1 in
    let e = and_parts (p1 && p2) ((p3 && p4) && (p5 && p6)) a.0 in
    let f = and_parts p1 p2 e.0 in
    let i = and_parts (p3 && p4) (p5 && p6) e.1 in
    let j = and_parts p3 p4 i.0 in
    let k = and_parts p5 p6 i.1 in
    record { inner_item = f.0; inner_signs = f.1; last_item = j.0; last_signs = j.1; rest_item = k.0; hole_signs = k.1; inner = b.0; no_else = not-true _ d.0; shape = d.1 }

many_good : (o : Outs) (v : Ahead) (s : ListShape) (c : Nonterminal) (ps : Production) (k : List Sign) → ManyOk o s c ps → ((n : Need) → Shows n o v ps k) → good k v ≡ true → (us : Forest) → last_only us ≡ true → sound_each c us ≡ true → FrontsOf us → GoodsOf us → good (gathered s (each_said us) ++ k) v ≡ true
many_good o v s c ps k m f q none l h fs gs = q
many_good o v s c ps k m f q (part t none) l h fs gs =
    let a = and_parts (is_formed Single t) (sound c [] t && true) h in
    let b = and_parts (sound c [] t) true a.1 in
    let shows : (n : Need) → Shows n o v (fixed (behind_signs s) ++ ps) (behind_signs s ++ k) = λ n. see_fixed n o v ps k (f n) (behind_signs s) in
    last_good s (joined (said t)) k v m.shape
    (part_good o v c [] t (fixed (behind_signs s) ++ ps) (behind_signs s ++ k) a.0 gs.0 b.0 shows m.last_item m.inner (λ _ e. clash _ e m.no_else) (λ e. rest_comma (rests c) refl e b.0 m.rest_item) (signs_hold o v (behind_signs s) ps k f m.last_signs q))
    (λ e. signs_hold o v (pun "," ∷ []) ps k f (hole_by (is_holey s) e m.hole_signs) q)
  where
    hole_by : (b : Bool) → b ≡ true → (not b || signs_ok o (pun "," ∷ []) ps) ≡ true → signs_ok o (pun "," ∷ []) ps ≡ true
    hole_by true e h = h
    hole_by false e h = absurd (false≢true e)

    rest_comma : (b : Bool) → rests c ≡ b → is_last t ≡ true → sound c [] t ≡ true → (not b || sees o (NoneOf (codes "," ∷ [])) [] (fixed (behind_signs s) ++ ps)) ≡ true → is_none_of (ahead (behind_signs s ++ k) v).next (codes "," ∷ []) ≡ true
    rest_comma true e i j h = see_fixed (NoneOf (codes "," ∷ [])) o v ps k (f (NoneOf (codes "," ∷ []))) (behind_signs s) [] refl h
    rest_comma false e i j h = clash _ i (no_rest c [] t j e)
many_good o v s c ps k m f q (part t (part u us)) l h fs gs =
    let a = and_parts (is_formed Single t) (sound c [] t && sound_each c (part u us)) h in
    let b = and_parts (sound c [] t) (sound_each c (part u us)) a.1 in
    let d = and_parts (not (is_last t)) (last_only (part u us)) l in
    let e = and_parts (is_formed Single u) (sound c [] u && sound_each c us) b.1 in
    let i = and_parts (sound c [] u) (sound_each c us) e.1 in
    let x : List Sign = joined (said t) in
    let y : List Sign = gathered s (joined (said u) ∷ each_said us) in
    let fu : Fronts c u = front_at c [] u e.0 fs.1.0 i.0 in
    let r : good (y ++ k) v ≡ true = many_good o v s c ps k m f q (part u us) d.1 b.1 fs.1 gs.1 in
    let shows : (n : Need) → Shows n o v (fixed (between s) ++ (Many s c ∷ ps)) (between s ++ (y ++ k)) = λ n. between_shows n o v ps k s c u us fu in
    ap (λ z. good z v) (append_signs (before s x) (between s ++ y) k ∙ ap (λ z. before s x ++ z) (append_signs (between s) y k))
    ∙ ap (λ z. good (z ++ (between s ++ (y ++ k))) v) (before_is s x m.shape) ∙ ap (λ z. good z v) (append_signs (before_signs s) x (between s ++ (y ++ k)))
    ∙ line_good s (x ++ (between s ++ (y ++ k)))
    (part_good o v c [] t (fixed (between s) ++ (Many s c ∷ ps)) (between s ++ (y ++ k)) a.0 gs.0 b.0 shows m.inner_item m.inner (λ _ e. clash _ e m.no_else) (λ e. clash _ e (not-true _ d.0))
    (signs_hold o v (between s) (Many s c ∷ ps) (y ++ k) (λ n. see_many n o v ps k s c u us fu) m.inner_signs r))
  where
    line_good : (s : ListShape) (z : List Sign) → good z v ≡ true → good (before_signs s ++ z) v ≡ true
    line_good Lines z g = g
    line_good Spaced z g = g
    line_good Commas z g = g
    line_good Elisions z g = g
    line_good NoTrailing z g = g
    line_good TwoOrMore z g = g
    line_good TopLines z g = g
    line_good Adjacent z g = g
    line_good OneOrMore z g = g
    line_good Dotted z g = g
    line_good JsxChildren z g = g

-- ---- rows

fixed_good : (o : Outs) (v : Ahead) (m : Sign) (ps : Production) (k : List Sign) → ((n : Need) → Shows n o v ps k) → Guarded m ps (ahead k v) → (sign_ok o m ps && row_ok o ps) ≡ true → (row_ok o ps ≡ true → good k v ≡ true) → good (m ∷ k) v ≡ true
fixed_good o v m ps k f g h r = let a = and_parts (sign_ok o m ps) (row_ok o ps) h in and_from (sign_good m (ahead k v)) (good k v) (sign_holds o v m ps k f g a.0) (r a.1)

unless_guard : (ts : List Text) (ps : Production) (cs : Forest) (v : Ahead) → rowed ts ps cs ≡ true → FrontsOf cs → Guarded (Unless ts) ps (ahead (walk ps (saids cs)) v)
unless_guard ts (Part c ∷ ps) none v s f = absurd (false≢true s)
unless_guard ts (Part c ∷ ps) (part t us) v s f = λ g n.
    let a = and_parts (is_formed Single t) (sound c ts t && rowed [] ps us) s in
    let b = and_parts (sound c ts t) (rowed [] ps us) a.1 in
    guard_holds c ts t (walk ps (saids us)) v g (front_at c ts t a.0 f.0 b.0) (sound_guard c ts t a.0 b.0) n
unless_guard ts [] cs v s f = λ g n. absurd (false≢true g)
unless_guard ts (Fixed m ∷ ps) cs v s f = λ g n. absurd (false≢true g)
unless_guard ts (Optional x c y r ∷ ps) cs v s f = λ g n. absurd (false≢true g)
unless_guard ts (Many z c ∷ ps) cs v s f = λ g n. absurd (false≢true g)
unless_guard ts (Within a ∷ ps) cs v s f = λ g n. absurd (false≢true g)

-- an optional part that is there
present : (o : Outs) (v : Ahead) (x y : List Sign) (c : Nonterminal) (r : List Text) (ps : Production) (t : Tree) (k : List Sign) → is_formed Single t ≡ true → sound c [] t ≡ true → FrontOf t → GoodOf t → ((n : Need) → Shows n o v ps k)
    → (not (may_else o (fixed y ++ ps) && elsed c) || not (open_if t)) ≡ true → row_ok o (Optional x c y r ∷ ps) ≡ true → (row_ok o ps ≡ true → good k v ≡ true) → good ((x ++ (joined (said t) ++ y)) ++ k) v ≡ true
present o v x y c r ps t k i s fr gd f e h q =
    let a = and_parts (signs_ok o x (Part c ∷ (fixed y ++ ps)) && (part_ok o c (fixed y ++ ps) && (not (rests c) && is_inner c))) ((signs_ok o y ps && absent_ok o r ps) && row_ok o ps) h in
    let b = and_parts (signs_ok o x (Part c ∷ (fixed y ++ ps))) (part_ok o c (fixed y ++ ps) && (not (rests c) && is_inner c)) a.0 in
    let d = and_parts (part_ok o c (fixed y ++ ps)) (not (rests c) && is_inner c) b.1 in
    let j = and_parts (not (rests c)) (is_inner c) d.1 in
    let l = and_parts (signs_ok o y ps && absent_ok o r ps) (row_ok o ps) a.1 in
    let m = and_parts (signs_ok o y ps) (absent_ok o r ps) l.0 in
    let u : List Sign = joined (said t) in
    let shows : (n : Need) → Shows n o v (fixed y ++ ps) (y ++ k) = λ n. see_fixed n o v ps k (f n) y in
    let g : good (y ++ k) v ≡ true = signs_hold o v y ps k f m.0 (q l.1) in
    let w : good (u ++ (y ++ k)) v ≡ true = part_good o v c [] t (fixed y ++ ps) (y ++ k) i gd s shows d.0 j.1 (else_by (may_else o (fixed y ++ ps)) (elsed c) t e) (λ z. clash _ z (no_rest c [] t s (not-true _ j.0))) g in
    ap (λ z. good z v) (append_signs x (u ++ y) k ∙ ap (λ z. x ++ z) (append_signs u y k))
    ∙ signs_hold o v x (Part c ∷ (fixed y ++ ps)) (u ++ (y ++ k)) (λ n. see_part n o v (fixed y ++ ps) (y ++ k) c t (shows n) (front_at c [] t i fr s)) b.0 w

absent_guard : (o : Outs) (v : Ahead) (r : Text) (rs : List Text) (ps : Production) (k : List Sign) → ((n : Need) → Shows n o v ps k) → (is_due o (r ∷ rs) || sees o (NoneOf (r ∷ rs)) [] ps) ≡ true → not (is_due o (r ∷ rs)) ≡ true → is_none_of (ahead k v).next (r ∷ rs) ≡ true
absent_guard o v r rs ps k f h n = go (is_due o (r ∷ rs)) n h
  where
    go : (b : Bool) → not b ≡ true → (b || sees o (NoneOf (r ∷ rs)) [] ps) ≡ true → is_none_of (ahead k v).next (r ∷ rs) ≡ true
    go true n h = absurd (false≢true n)
    go false n h = f (NoneOf (r ∷ rs)) [] refl h

pub row_good : (o : Outs) (v : Ahead) → Outside o v → (ps : Production) (cs : Forest) (g : List Text) → rowed g ps cs ≡ true → FrontsOf cs → GoodsOf cs → elses o ps cs ≡ true → row_ok o ps ≡ true → good (walk ps (saids cs)) v ≡ true
row_good o v w [] cs g s f q e h = refl
row_good o v w (Fixed (Unless ts) ∷ ps) cs g s f q e h = fixed_good o v (Unless ts) ps (walk ps (saids cs)) (λ n pre p. see n o v w ps pre cs ts p s f) (unless_guard ts ps cs v s f) h (row_good o v w ps cs ts s f q e)
row_good o v w (Fixed (Tok m k t) ∷ ps) cs g s f q e h = fixed_good o v (Tok m k t) ps (walk ps (saids cs)) (λ n pre p. see n o v w ps pre cs (cond (is_punct k) [] g) p s f) tt h (row_good o v w ps cs (cond (is_punct k) [] g) s f q e)
row_good o v w (Fixed Semicolon ∷ ps) cs g s f q e h = fixed_good o v Semicolon ps (walk ps (saids cs)) (λ n pre p. see n o v w ps pre cs g p s f) tt h (row_good o v w ps cs g s f q e)
row_good o v w (Fixed TrailingComma ∷ ps) cs g s f q e h = fixed_good o v TrailingComma ps (walk ps (saids cs)) (λ n pre p. see n o v w ps pre cs g p s f) tt h (row_good o v w ps cs g s f q e)
row_good o v w (Fixed SameLine ∷ ps) cs g s f q e h = fixed_good o v SameLine ps (walk ps (saids cs)) (λ n pre p. see n o v w ps pre cs g p s f) tt h (row_good o v w ps cs g s f q e)
row_good o v w (Fixed (Ends x) ∷ ps) cs g s f q e h = fixed_good o v (Ends x) ps (walk ps (saids cs)) (λ n pre p. see n o v w ps pre cs g p s f) tt h (row_good o v w ps cs g s f q e)
row_good o v w (Fixed Space ∷ ps) cs g s f q e h = fixed_good o v Space ps (walk ps (saids cs)) (λ n pre p. see n o v w ps pre cs g p s f) tt h (row_good o v w ps cs g s f q e)
row_good o v w (Fixed Pad ∷ ps) cs g s f q e h = fixed_good o v Pad ps (walk ps (saids cs)) (λ n pre p. see n o v w ps pre cs g p s f) tt h (row_good o v w ps cs g s f q e)
row_good o v w (Fixed Line ∷ ps) cs g s f q e h = fixed_good o v Line ps (walk ps (saids cs)) (λ n pre p. see n o v w ps pre cs g p s f) tt h (row_good o v w ps cs g s f q e)
row_good o v w (Fixed Indent ∷ ps) cs g s f q e h = fixed_good o v Indent ps (walk ps (saids cs)) (λ n pre p. see n o v w ps pre cs g p s f) tt h (row_good o v w ps cs g s f q e)
row_good o v w (Fixed Outdent ∷ ps) cs g s f q e h = fixed_good o v Outdent ps (walk ps (saids cs)) (λ n pre p. see n o v w ps pre cs g p s f) tt h (row_good o v w ps cs g s f q e)
row_good o v w (Fixed Unindent ∷ ps) cs g s f q e h = fixed_good o v Unindent ps (walk ps (saids cs)) (λ n pre p. see n o v w ps pre cs g p s f) tt h (row_good o v w ps cs g s f q e)
row_good o v w (Fixed Apart ∷ ps) cs g s f q e h = fixed_good o v Apart ps (walk ps (saids cs)) (λ n pre p. see n o v w ps pre cs g p s f) tt h (row_good o v w ps cs g s f q e)
row_good o v w (Fixed Begin ∷ ps) cs g s f q e h = fixed_good o v Begin ps (walk ps (saids cs)) (λ n pre p. see n o v w ps pre cs g p s f) tt h (row_good o v w ps cs g s f q e)
row_good o v w (Fixed Count ∷ ps) cs g s f q e h = fixed_good o v Count ps (walk ps (saids cs)) (λ n pre p. see n o v w ps pre cs g p s f) tt h (row_good o v w ps cs g s f q e)
row_good o v w (Fixed One ∷ ps) cs g s f q e h = fixed_good o v One ps (walk ps (saids cs)) (λ n pre p. see n o v w ps pre cs g p s f) tt h (row_good o v w ps cs g s f q e)
row_good o v w (Fixed End ∷ ps) cs g s f q e h = fixed_good o v End ps (walk ps (saids cs)) (λ n pre p. see n o v w ps pre cs g p s f) tt h (row_good o v w ps cs g s f q e)
row_good o v w (Within x ∷ ps) cs g s f q e h = row_good o v w ps cs g s f q e h
row_good o v w (Part c ∷ ps) none g s f q e h = absurd (false≢true s)
row_good o v w (Part c ∷ ps) (part t ts) g s f q e h =
    let a = and_parts (is_formed Single t) (sound c g t && rowed [] ps ts) s in
    let b = and_parts (sound c g t) (rowed [] ps ts) a.1 in
    let d = and_parts (part_ok o c ps && (not (rests c) && is_inner c)) (row_ok o ps) h in
    let i = and_parts (part_ok o c ps) (not (rests c) && is_inner c) d.0 in
    let j = and_parts (not (rests c)) (is_inner c) i.1 in
    let k = and_parts (not (may_else o ps && elsed c) || not (open_if t)) (elses o ps ts) e in
    one_part c t (walk ps (saids ts)) a.0
    (part_good o v c g t ps (walk ps (saids ts)) a.0 q.0 b.0 (λ n pre p. see n o v w ps pre ts [] p b.1 f.1) i.0 j.1 (else_by (may_else o ps) (elsed c) t k.0) (λ l. clash _ l (no_rest c g t b.0 (not-true _ j.0))) (row_good o v w ps ts [] b.1 f.1 q.1 k.1 d.1))
  where
    one_part : (c : Nonterminal) (t : Tree) (k : List Sign) → is_formed Single t ≡ true → good (joined (said t) ++ k) v ≡ true → good (joined (said t) ++ k) v ≡ true
    one_part c t k i g = g
row_good o v w (Optional x c y r ∷ ps) none g s f q e h = absurd (false≢true s)
row_good o v w (Optional x c y r ∷ ps) (part (leaf k u) ts) g s f q e h = absurd (false≢true s)
row_good o v w (Optional x c y r ∷ ps) (part (node k cs) ts) g s f q e h = absurd (false≢true s)
row_good o v w (Optional x c y [] ∷ ps) (part (list none) ts) g s f q e h = row_good o v w ps ts [] s f.1 q.1 e ((and_parts _ (row_ok o ps) ((and_parts _ ((signs_ok o y ps && absent_ok o [] ps) && row_ok o ps) h).1)).1)
row_good o v w (Optional x c y (r ∷ rs) ∷ ps) (part (list none) ts) g s f q e h =
    let a = and_parts (signs_ok o y ps && absent_ok o (r ∷ rs) ps) (row_ok o ps) ((and_parts _ ((signs_ok o y ps && absent_ok o (r ∷ rs) ps) && row_ok o ps) h).1) in
    let b = and_parts (signs_ok o y ps) (absent_ok o (r ∷ rs) ps) a.0 in
    let d = and_parts (not (is_due o (r ∷ rs))) (elses o ps ts) e in
    and_from (is_none_of (ahead (walk ps (saids ts)) v).next (r ∷ rs)) (good (walk ps (saids ts)) v) (absent_guard o v r rs ps (walk ps (saids ts)) (λ n pre p. see n o v w ps pre ts [] p s f.1) b.1 d.0) (row_good o v w ps ts [] s f.1 q.1 d.1 a.1)
row_good o v w (Optional x c y [] ∷ ps) (part (list (part t none)) ts) g s f q e h =
    let a = and_parts (is_formed Single t && (sound c [] t && true)) (rowed [] ps ts) s in
    let b = and_parts (is_formed Single t) (sound c [] t && true) a.0 in
    let d = and_parts (sound c [] t) true b.1 in
    let i = and_parts (not (may_else o (fixed y ++ ps) && elsed c) || not (open_if t)) (elses o ps ts) e in
    present o v x y c [] ps t (walk ps (saids ts)) b.0 d.0 f.0.0 q.0.0 (λ n pre p. see n o v w ps pre ts [] p a.1 f.1) i.0 h (row_good o v w ps ts [] a.1 f.1 q.1 i.1)
row_good o v w (Optional x c y (r ∷ rs) ∷ ps) (part (list (part t none)) ts) g s f q e h =
    let a = and_parts (is_formed Single t && (sound c [] t && true)) (rowed [] ps ts) s in
    let b = and_parts (is_formed Single t) (sound c [] t && true) a.0 in
    let d = and_parts (sound c [] t) true b.1 in
    let i = and_parts (not (may_else o (fixed y ++ ps) && elsed c) || not (open_if t)) (elses o ps ts) e in
    present o v x y c (r ∷ rs) ps t (walk ps (saids ts)) b.0 d.0 f.0.0 q.0.0 (λ n pre p. see n o v w ps pre ts [] p a.1 f.1) i.0 h (row_good o v w ps ts [] a.1 f.1 q.1 i.1)
row_good o v w (Optional x c y r ∷ ps) (part (list (part t (part u us))) ts) g s f q e h = absurd (false≢true s)
row_good o v w (Many z c ∷ ps) none g s f q e h = absurd (false≢true s)
row_good o v w (Many z c ∷ ps) (part (leaf k u) ts) g s f q e h = absurd (false≢true s)
row_good o v w (Many z c ∷ ps) (part (node k cs) ts) g s f q e h = absurd (false≢true s)
row_good o v w (Many z c ∷ ps) (part (list us) ts) g s f q e h =
    let a = and_parts (enough z us && last_only us) (sound_each c us && rowed [] ps ts) s in
    let b = and_parts (enough z us) (last_only us) a.0 in
    let d = and_parts (sound_each c us) (rowed [] ps ts) a.1 in
    let i = and_parts (many_ok o z c ps && (is_inner c && (not (elsed c) && is_code_shape z))) (row_ok o ps) h in
    many_good o v z c ps (walk ps (saids ts)) (many_of o z c ps i.0) (λ n pre p. see n o v w ps pre ts [] p d.1 f.1) (row_good o v w ps ts [] d.1 f.1 q.1 e i.1) us b.1 d.0 f.0 q.0
