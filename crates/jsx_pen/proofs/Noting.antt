-- The signs of a tree with the places of its calls: without these they are the signs of the tree.
use Rattle.std.proofs.Common.{◌≡◌, ℕ, List, [], ◌∷◌, ◌++◌, Bool, true, false, cond, not, ◌&&◌, map, refl, sym, ap, ◌∙◌, subst, Option, Some, None}
use Rattle.std.proofs.lemmas.Bool.{false≢true, and_parts, and_from}
use Rattle.jsx_base.specs.Token.{Text, Mode, TokenKind, NoToken}
use Rattle.jsx_base.specs.declared.place.Span.{Span}
use Rattle.jsx_tree.specs.Kinds.{ArrayPat, AtLeast, AtMost, BareArrow, BareArrowBlock, Binary, Binds, Block, CallLink, Delete, Equal, Field, ForBinding, ForDeclaration, Forest, FunctionExpr, Getter, Greater, Imported, InClass, InObject, InOp, Increment, IndexLink, InstanceOf, Kind, Less, Method, Module, NameLink, NewWithoutArguments, Nullish, ObjectPat, OpAssign, PlainTemplate, PostfixUpdate, PrefixUpdate, PropertyPat, RestPat, RestProperty, Seq, Setter, ShorthandInit, ShorthandPat, Specifier, SpecifierAs, StrictEqual, StrictUnequal, SubstitutedTemplate, TemplateSpan, Tree, Unary, Unequal, Var, VarWord, WithInit, expression, function, jsx, leaf, list, node, none, part, program, statement, Call, Empty}
use Rattle.jsx_tree.specs.Nonterminals.{Nonterminal}
use Rattle.jsx_tree.specs.Grammar.{ListShape, Commas, Elisions, NoTrailing, TwoOrMore, Lines, TopLines, Adjacent, OneOrMore, Spaced, Dotted, JsxChildren, Fixed, Part, Optional, Many, Within, Production, production}
use Rattle.jsx_tree.specs.Signs.{Sign, Tok, Semicolon, TrailingComma, Unless, SameLine, Ends, Space, Pad, Line, Indent, Outdent, Unindent, Apart, Begin, Count, One, End}
use Rattle.jsx_tree.specs.Spelling as plain
use Rattle.jsx_tree.specs.Spelling.{before, between, behind, gathered, joined, maybe, walk, spelled}
use Rattle.jsx_tree.specs.Spans.{Told, tells, Tales, is_text}
use Rattle.jsx_tree.specs.Form.{Form, Single, Maybe, Several, Position, position, positions}
use Rattle.jsx_tree.specs.Fits.{is_plain, is_solid}
use Rattle.jsx_tree.specs.Normal.{is_empty, unless_empty, without_empty, laid_node, laid_tree, of_list, made, mades, each_made}
use Rattle.jsx_tree.proofs.ReadBack.RowChecks.{sound, sounds, sound_each, is_formed}
use Rattle.jsx_pen.specs.Calls.{from_call, place_of, parts_of, first_of, others, noted, noteds, is_place, said, saids, each_said, bare}
use Rattle.jsx_pen.specs.Pen.{is_void}

-- ---- a tree with places, beside the tree alone

mutual
  pub data Noted : Tree → Tree → Type 0 where
    same_leaf : {k : TokenKind} {x : Text} → Noted (leaf k x) (leaf k x)
    same_node : {k : Kind} {us ts : Forest} → AreNoted us ts → Noted (node k us) (node k ts)
    from_place : {x : ℕ} {u t : Tree} {us ts : Forest} → Noted u t → AreNoted us ts → Noted (node (expression Call) (part (list (part (leaf NoToken (x ∷ [])) (part u none))) us)) (node (expression Call) (part t ts))
    same_list : {us ts : Forest} → AreNoted us ts → Noted (list us) (list ts)

  pub data AreNoted : Forest → Forest → Type 0 where
    no_more : AreNoted none none
    and_more : {u t : Tree} {us ts : Forest} → Noted u t → AreNoted us ts → AreNoted (part u us) (part t ts)

empty_kind : (k : Kind) (us ts : Forest) → is_empty (node k us) ≡ is_empty (node k ts)
empty_kind (statement Empty) us ts = refl
empty_kind _ us ts = refl

empty_noted : {u t : Tree} → Noted u t → is_empty u ≡ is_empty t
empty_noted same_leaf = refl
empty_noted (same_node {k} {us} {ts} as') = empty_kind k us ts
empty_noted (from_place a as') = refl
empty_noted (same_list as') = refl

unless_noted : (b : Bool) {u t : Tree} {us ts : Forest} → Noted u t → AreNoted us ts → AreNoted (unless_empty b u us) (unless_empty b t ts)
unless_noted true a as' = as'
unless_noted false a as' = and_more a as'

full_noted : {us ts : Forest} → AreNoted us ts → AreNoted (without_empty us) (without_empty ts)
full_noted no_more = no_more
full_noted (and_more {u} {t} {us} {ts} a as') = subst (λ b. AreNoted (unless_empty b u (without_empty us)) (unless_empty (is_empty t) t (without_empty ts))) (sym (empty_noted a)) (unless_noted (is_empty t) a (full_noted as'))

of_list_noted : (o : Form) {u t : Tree} → Noted u t → Noted (of_list o u) (of_list o t)
of_list_noted Single a = a
of_list_noted Maybe a = a
of_list_noted (Several s) same_leaf = same_leaf
of_list_noted (Several s) (same_node as') = same_node as'
of_list_noted (Several s) (from_place a as') = from_place a as'
of_list_noted (Several s) (same_list as') = same_list (full_noted as')

laid_noted : (k : Kind) {us ts : Forest} → AreNoted us ts → Noted (laid_node k us) (laid_node k ts)
laid_noted (expression BareArrow) no_more = same_node no_more
laid_noted (expression BareArrow) (and_more a as') = same_node (and_more (same_list (and_more a no_more)) as')
laid_noted (expression BareArrowBlock) no_more = same_node no_more
laid_noted (expression BareArrowBlock) (and_more a as') = same_node (and_more (same_list (and_more a no_more)) as')
laid_noted (expression NewWithoutArguments) no_more = same_node no_more
laid_noted (expression NewWithoutArguments) (and_more a no_more) = same_node (and_more a (and_more (same_list no_more) no_more))
laid_noted (expression NewWithoutArguments) (and_more a (and_more b bs)) = same_node (and_more a (and_more b bs))
laid_noted _ as' = same_node as'

abbrev rest_of : List Position → List Position
rest_of [] = []
rest_of (s ∷ ss) = ss

call_noted : (at : Option Span) (u : Tree) {t : Tree} {us ts : Forest} → Noted (made laid_node u) t → AreNoted us ts → Noted (node (expression Call) (part (made laid_node (from_call at u)) us)) (node (expression Call) (part t ts))
call_noted None u a as' = same_node (and_more a as')
call_noted (Some s) u a as' = from_place a as'

mutual
  pub made_noted : (t : Tree) (d : Told) → Noted (made laid_node (noted t d)) (made laid_node t)
  made_noted (leaf k t) d = same_leaf
  made_noted (node (expression Call) none) (tells c ds) = same_node no_more
  made_noted (node (expression Call) (part f as')) (tells c ds) = call_noted (place_of c) (noted f (first_of ds)) (made_noted f (first_of ds)) (mades_noted (rest_of (positions (expression Call))) as' (others ds))
  made_noted (node k cs) (tells c ds) = laid_noted k (mades_noted (positions k) cs (parts_of k (tells c ds)))
  made_noted (list ts) (tells c ds) = same_list (each_noted ts ds)

  mades_noted : (ss : List Position) (ts : Forest) (ds : Tales) → AreNoted (mades laid_node ss (noteds ts ds)) (mades laid_node ss ts)
  mades_noted ss none ds = no_more
  mades_noted [] (part t ts) ds = and_more (made_noted t (first_of ds)) (mades_noted [] ts (others ds))
  mades_noted (position o c g b a ∷ ss) (part t ts) ds = and_more (of_list_noted o (made_noted t (first_of ds))) (mades_noted ss ts (others ds))

  each_noted : (ts : Forest) (ds : Tales) → AreNoted (each_made laid_node (noteds ts ds)) (each_made laid_node ts)
  each_noted none ds = no_more
  each_noted (part t ts) ds = and_more (made_noted t (first_of ds)) (each_noted ts (others ds))

-- ---- trees without JSX, and without places

abbrev mutual
  pub tidy : Tree → Bool
  tidy (leaf k t) = not (is_place k)
  tidy (node k cs) = is_plain k && tidies cs
  tidy (list ts) = tidies ts

  pub tidies : Forest → Bool
  tidies none = true
  tidies (part t ts) = tidy t && tidies ts

no_place : (k : TokenKind) → is_solid k ≡ true → not (is_place k) ≡ true
no_place NoToken h = absurd (false≢true h)
no_place _ h = refl

mutual
  pub sound_tidy : (c : Nonterminal) (g : List Text) (t : Tree) → sound c g t ≡ true → tidy t ≡ true
  sound_tidy c g (leaf k t) h = no_place k (and_parts _ (is_solid k) (and_parts (_ && is_solid k) _ (and_parts _ _ h).1).0).1
  sound_tidy c g (node k cs) h =
      let p = and_parts _ (sounds (positions k) cs) (and_parts _ _ h).1 in
      and_from (is_plain k) (tidies cs) (and_parts (is_plain k) _ p.0).0 (sounds_tidy (positions k) cs p.1)
  sound_tidy c g (list ts) h = each_tidy c ts h

  sounds_tidy : (ss : List Position) (ts : Forest) → sounds ss ts ≡ true → tidies ts ≡ true
  sounds_tidy [] none h = refl
  sounds_tidy [] (part t ts) h = absurd (false≢true h)
  sounds_tidy (s ∷ ss) none h = refl
  sounds_tidy (position f c g b a ∷ ss) (part t ts) h =
      let p = and_parts (sound c g t) (sounds ss ts) (and_parts (is_formed f t) _ h).1 in
      and_from (tidy t) (tidies ts) (sound_tidy c g t p.0) (sounds_tidy ss ts p.1)

  each_tidy : (c : Nonterminal) (ts : Forest) → sound_each c ts ≡ true → tidies ts ≡ true
  each_tidy c none h = refl
  each_tidy c (part t ts) h =
      let p = and_parts (sound c [] t) (sound_each c ts) (and_parts (is_formed Single t) _ h).1 in
      and_from (tidy t) (tidies ts) (sound_tidy c [] t p.0) (each_tidy c ts p.1)

-- ---- rows without places

abbrev clean_sign : Sign → Bool
clean_sign (Tok m k t) = not (is_place k)
clean_sign _ = true

abbrev clean_signs : List Sign → Bool
clean_signs [] = true
clean_signs (m ∷ ms) = clean_sign m && clean_signs ms

abbrev clean : Production → Bool
clean [] = true
clean (Fixed m ∷ ps) = clean_sign m && clean ps
clean (Within a ∷ ps) = clean ps
clean (Part c ∷ ps) = clean ps
clean (Optional a c b r ∷ ps) = clean_signs a && (clean_signs b && clean ps)
clean (Many s c ∷ ps) = not (is_text s) && clean ps

all_clean : (k : Kind) → is_plain k ≡ true → clean (production k) ≡ true
all_clean (program Module) h = refl
all_clean (program (Specifier Imported)) h = refl
all_clean (program (SpecifierAs Imported)) h = refl
all_clean (statement Block) h = refl
all_clean (statement (Var VarWord)) h = refl
all_clean (statement (ForDeclaration VarWord)) h = refl
all_clean (statement (ForBinding VarWord)) h = refl
all_clean (function FunctionExpr) h = refl
all_clean (function (Method InObject)) h = refl
all_clean (function (Getter InObject)) h = refl
all_clean (function (Setter InObject)) h = refl
all_clean (function (Field InObject)) h = absurd (false≢true h)
all_clean (function (Field InClass)) h = refl
all_clean (function (ArrayPat Binds)) h = refl
all_clean (function (ObjectPat Binds)) h = refl
all_clean (function (PropertyPat Binds)) h = refl
all_clean (function (ShorthandPat Binds)) h = refl
all_clean (function (ShorthandInit Binds)) h = refl
all_clean (function (WithInit Binds)) h = refl
all_clean (function (RestPat Binds)) h = refl
all_clean (function (RestProperty Binds)) h = refl
all_clean (expression Seq) h = refl
all_clean (expression BareArrow) h = absurd (false≢true h)
all_clean (expression BareArrowBlock) h = absurd (false≢true h)
all_clean (expression NewWithoutArguments) h = absurd (false≢true h)
all_clean (expression (Binary Nullish)) h = refl
all_clean (expression (OpAssign Nullish)) h = refl
all_clean (expression (OpAssign Equal)) h = absurd (false≢true h)
all_clean (expression (OpAssign Unequal)) h = absurd (false≢true h)
all_clean (expression (OpAssign StrictEqual)) h = absurd (false≢true h)
all_clean (expression (OpAssign StrictUnequal)) h = absurd (false≢true h)
all_clean (expression (OpAssign Less)) h = absurd (false≢true h)
all_clean (expression (OpAssign Greater)) h = absurd (false≢true h)
all_clean (expression (OpAssign AtMost)) h = absurd (false≢true h)
all_clean (expression (OpAssign AtLeast)) h = absurd (false≢true h)
all_clean (expression (OpAssign InOp)) h = absurd (false≢true h)
all_clean (expression (OpAssign InstanceOf)) h = absurd (false≢true h)
all_clean (expression (Unary Delete)) h = refl
all_clean (expression (PrefixUpdate Increment)) h = refl
all_clean (expression (PostfixUpdate Increment)) h = refl
all_clean (expression (NameLink true)) h = refl
all_clean (expression (IndexLink true)) h = refl
all_clean (expression (CallLink true)) h = refl
all_clean (expression (PlainTemplate true)) h = refl
all_clean (expression (SubstitutedTemplate true)) h = refl
all_clean (expression (TemplateSpan true)) h = refl
all_clean (jsx k) h = absurd (false≢true h)
all_clean _ h = refl

-- ---- the signs without places

bare_tok : (b : Bool) (m : Mode) (k : TokenKind) (t : Text) (xs ys : List Sign) → is_place k ≡ b → bare (xs ++ ys) ≡ bare xs ++ bare ys → cond b (bare (xs ++ ys)) (Tok m k t ∷ bare (xs ++ ys)) ≡ cond b (bare xs) (Tok m k t ∷ bare xs) ++ bare ys
bare_tok true m k t xs ys e h = h
bare_tok false m k t xs ys e h = ap (λ zs. Tok m k t ∷ zs) h

bare_append : (xs ys : List Sign) → bare (xs ++ ys) ≡ bare xs ++ bare ys
bare_append [] ys = refl
bare_append (Tok m k t ∷ xs) ys = bare_tok (is_place k) m k t xs ys refl (bare_append xs ys)
bare_append (Semicolon ∷ xs) ys = ap (λ zs. Semicolon ∷ zs) (bare_append xs ys)
bare_append (TrailingComma ∷ xs) ys = ap (λ zs. TrailingComma ∷ zs) (bare_append xs ys)
bare_append (Unless ts ∷ xs) ys = ap (λ zs. Unless ts ∷ zs) (bare_append xs ys)
bare_append (SameLine ∷ xs) ys = ap (λ zs. SameLine ∷ zs) (bare_append xs ys)
bare_append (Ends e ∷ xs) ys = ap (λ zs. Ends e ∷ zs) (bare_append xs ys)
bare_append (Space ∷ xs) ys = ap (λ zs. Space ∷ zs) (bare_append xs ys)
bare_append (Pad ∷ xs) ys = ap (λ zs. Pad ∷ zs) (bare_append xs ys)
bare_append (Line ∷ xs) ys = ap (λ zs. Line ∷ zs) (bare_append xs ys)
bare_append (Indent ∷ xs) ys = ap (λ zs. Indent ∷ zs) (bare_append xs ys)
bare_append (Outdent ∷ xs) ys = ap (λ zs. Outdent ∷ zs) (bare_append xs ys)
bare_append (Unindent ∷ xs) ys = ap (λ zs. Unindent ∷ zs) (bare_append xs ys)
bare_append (Apart ∷ xs) ys = ap (λ zs. Apart ∷ zs) (bare_append xs ys)
bare_append (Begin ∷ xs) ys = ap (λ zs. Begin ∷ zs) (bare_append xs ys)
bare_append (Count ∷ xs) ys = ap (λ zs. Count ∷ zs) (bare_append xs ys)
bare_append (One ∷ xs) ys = ap (λ zs. One ∷ zs) (bare_append xs ys)
bare_append (End ∷ xs) ys = ap (λ zs. End ∷ zs) (bare_append xs ys)

bare_joined : (xs : List (List Sign)) → bare (joined xs) ≡ joined (map bare xs)
bare_joined [] = refl
bare_joined (x ∷ []) = refl
bare_joined (x ∷ y ∷ ys) = bare_append x (joined (y ∷ ys)) ∙ ap (λ z. bare x ++ z) (bare_joined (y ∷ ys))

not_true : (b : Bool) → not b ≡ true → b ≡ false
not_true true h = absurd (false≢true h)
not_true false h = refl

bare_fixed : (m : Sign) (ms : List Sign) → clean_sign m ≡ true → bare (m ∷ ms) ≡ m ∷ bare ms
bare_fixed (Tok m k t) ms h = ap (λ b. cond b (bare ms) (Tok m k t ∷ bare ms)) (not_true (is_place k) h)
bare_fixed _ ms h = refl

bare_signs : (ms : List Sign) → clean_signs ms ≡ true → bare ms ≡ ms
bare_signs [] h = refl
bare_signs (m ∷ ms) h = let p = and_parts (clean_sign m) (clean_signs ms) h in bare_fixed m ms p.0 ∙ ap (λ z. m ∷ z) (bare_signs ms p.1)

-- where nothing but a place stands nothing stands without it
abbrev Calm : List (List Sign) → Type 0
Calm [] = Unit {0}
Calm (x ∷ xs) = (is_void (bare x) ≡ is_void x) × Calm xs

abbrev Calms : List (List (List Sign)) → Type 0
Calms [] = Unit {0}
Calms (x ∷ xs) = Calm x × Calms xs

bare_before : (s : ListShape) (x : List Sign) → not (is_text s) ≡ true → bare (before s x) ≡ before s (bare x)
bare_before JsxChildren x h = absurd (false≢true h)
bare_before _ x h = refl

bare_between : (s : ListShape) → bare (between s) ≡ between s
bare_between Commas = refl
bare_between Elisions = refl
bare_between NoTrailing = refl
bare_between TwoOrMore = refl
bare_between Lines = refl
bare_between TopLines = refl
bare_between Adjacent = refl
bare_between OneOrMore = refl
bare_between Spaced = refl
bare_between Dotted = refl
bare_between JsxChildren = refl

elided : (y : List Sign) → is_void y ≡ false → behind Elisions y ≡ TrailingComma ∷ []
elided [] h = absurd (false≢true (sym h))
elided (m ∷ ms) h = refl

bare_behind : (s : ListShape) (x : List Sign) → is_void (bare x) ≡ is_void x → bare (behind s x) ≡ behind s (bare x)
bare_behind Elisions [] e = refl
bare_behind Elisions (m ∷ ms) e = sym (elided (bare (m ∷ ms)) e)
bare_behind _ x e = refl

bare_gathered : (s : ListShape) (xs : List (List Sign)) → not (is_text s) ≡ true → Calm xs → bare (gathered s xs) ≡ gathered s (map bare xs)
bare_gathered s [] h q = refl
bare_gathered s (x ∷ []) h q = bare_append (before s x) (behind s x) ∙ ap (λ z. z ++ bare (behind s x)) (bare_before s x h) ∙ ap (λ z. before s (bare x) ++ z) (bare_behind s x q.0)
bare_gathered s (x ∷ y ∷ ys) h q =
    bare_append (before s x) (between s ++ gathered s (y ∷ ys)) ∙ ap (λ z. z ++ bare (between s ++ gathered s (y ∷ ys))) (bare_before s x h)
    ∙ ap (λ z. before s (bare x) ++ z) (bare_append (between s) (gathered s (y ∷ ys)) ∙ ap (λ z. z ++ bare (gathered s (y ∷ ys))) (bare_between s) ∙ ap (λ z. between s ++ z) (bare_gathered s (y ∷ ys) h q.1))

bare_maybe : (a b : List Sign) (r : List Text) (x : List (List Sign)) → clean_signs a ≡ true → clean_signs b ≡ true → bare (maybe a b r x) ≡ maybe a b r (map bare x)
bare_maybe a b [] [] h k = refl
bare_maybe a b (r ∷ rs) [] h k = refl
bare_maybe a b [] (x ∷ xs) h k = bare_append a (x ++ b) ∙ ap (λ z. z ++ bare (x ++ b)) (bare_signs a h) ∙ ap (λ z. a ++ z) (bare_append x b ∙ ap (λ z. bare x ++ z) (bare_signs b k))
bare_maybe a b (r ∷ rs) (x ∷ xs) h k = bare_append a (x ++ b) ∙ ap (λ z. z ++ bare (x ++ b)) (bare_signs a h) ∙ ap (λ z. a ++ z) (bare_append x b ∙ ap (λ z. bare x ++ z) (bare_signs b k))

bare_walk : (ps : Production) (xs : List (List (List Sign))) → clean ps ≡ true → Calms xs → bare (walk ps xs) ≡ walk ps (map (map bare) xs)
bare_walk [] xs h q = refl
bare_walk (Fixed m ∷ ps) xs h q = let p = and_parts (clean_sign m) (clean ps) h in bare_fixed m (walk ps xs) p.0 ∙ ap (λ z. m ∷ z) (bare_walk ps xs p.1 q)
bare_walk (Within a ∷ ps) xs h q = bare_walk ps xs h q
bare_walk (Part c ∷ ps) [] h q = refl
bare_walk (Part c ∷ ps) (x ∷ xs) h q = bare_append (joined x) (walk ps xs) ∙ ap (λ z. z ++ bare (walk ps xs)) (bare_joined x) ∙ ap (λ z. joined (map bare x) ++ z) (bare_walk ps xs h q.1)
bare_walk (Optional a c b r ∷ ps) [] h q = refl
bare_walk (Optional a c b r ∷ ps) (x ∷ xs) h q =
    let p = and_parts (clean_signs a) (clean_signs b && clean ps) h in
    let o = and_parts (clean_signs b) (clean ps) p.1 in
    bare_append (maybe a b r x) (walk ps xs) ∙ ap (λ z. z ++ bare (walk ps xs)) (bare_maybe a b r x p.0 o.0) ∙ ap (λ z. maybe a b r (map bare x) ++ z) (bare_walk ps xs o.1 q.1)
bare_walk (Many s c ∷ ps) [] h q = refl
bare_walk (Many s c ∷ ps) (x ∷ xs) h q =
    let p = and_parts (not (is_text s)) (clean ps) h in
    bare_append (gathered s x) (walk ps xs) ∙ ap (λ z. z ++ bare (walk ps xs)) (bare_gathered s x p.0 q.0) ∙ ap (λ z. gathered s (map bare x) ++ z) (bare_walk ps xs p.1 q.1)

-- ---- trees

pub void_append : (xs ys : List Sign) → is_void (xs ++ ys) ≡ is_void xs && is_void ys
void_append [] ys = refl
void_append (m ∷ xs) ys = refl

calm_joined : (xs : List (List Sign)) → Calm xs → is_void (bare (joined xs)) ≡ is_void (joined xs)
calm_joined [] q = refl
calm_joined (x ∷ []) q = q.0
calm_joined (x ∷ y ∷ ys) q =
    ap is_void (bare_append x (joined (y ∷ ys))) ∙ void_append (bare x) (bare (joined (y ∷ ys))) ∙ ap (λ b. b && is_void (bare (joined (y ∷ ys)))) q.0
    ∙ ap (λ b. is_void x && b) (calm_joined (y ∷ ys) q.1) ∙ sym (void_append x (joined (y ∷ ys)))

calm_leaf : (k : TokenKind) (t : Text) → not (is_place k) ≡ true → Calm (said (leaf k t))
calm_leaf NoToken t h = absurd (false≢true h)
calm_leaf _ t h = (refl, tt)

leaf_bare : (k : TokenKind) (t : Text) → not (is_place k) ≡ true → map bare (said (leaf k t)) ≡ plain.said (leaf k t)
leaf_bare NoToken t h = absurd (false≢true h)
leaf_bare _ t h = refl

both : {A : Type 0} {x y : A} {xs ys : List A} → x ≡ y → xs ≡ ys → x ∷ xs ≡ y ∷ ys
both {A} {x} {y} {xs} {ys} p q = ap (λ z. z ∷ xs) p ∙ ap (λ zs. y ∷ zs) q

mutual
  calm_said : {u t : Tree} → Noted u t → tidy t ≡ true → Calm (said u)
  calm_said (same_leaf {k} {x}) h = calm_leaf k x h
  calm_said (same_node as') h = (refl, tt)
  calm_said (from_place a as') h = (refl, tt)
  calm_said (same_list as') h = calm_each as' h

  calm_each : {us ts : Forest} → AreNoted us ts → tidies ts ≡ true → Calm (each_said us)
  calm_each no_more h = tt
  calm_each (and_more {u} {t} {us} {ts} a as') h = let p = and_parts (tidy t) (tidies ts) h in (calm_joined (said u) (calm_said a p.0), calm_each as' p.1)

calm_saids : {us ts : Forest} → AreNoted us ts → tidies ts ≡ true → Calms (saids us)
calm_saids no_more h = tt
calm_saids (and_more {u} {t} {us} {ts} a as') h = let p = and_parts (tidy t) (tidies ts) h in (calm_said a p.0, calm_saids as' p.1)

node_bare : (k : Kind) (us ts : Forest) → is_plain k ≡ true → Calms (saids us) → map (map bare) (saids us) ≡ plain.saids ts → map bare (said (node k us)) ≡ plain.said (node k ts)
node_bare k us ts h q e = ap (λ z. (Begin ∷ z) ∷ []) (bare_walk (production k) (saids us) (all_clean k h) q ∙ ap (walk (production k)) e)

mutual
  bare_said : {u t : Tree} → Noted u t → tidy t ≡ true → map bare (said u) ≡ plain.said t
  bare_said (same_leaf {k} {x}) h = leaf_bare k x h
  bare_said (same_node {k} {us} {ts} as') h = let p = and_parts (is_plain k) (tidies ts) h in node_bare k us ts p.0 (calm_saids as' p.1) (bare_saids as' p.1)
  bare_said (from_place {x} {u} {t} {us} {ts} a as') h = let p = and_parts (tidy t) (tidies ts) h in node_bare (expression Call) (part u us) (part t ts) refl (calm_said a p.0, calm_saids as' p.1) (both (bare_said a p.0) (bare_saids as' p.1))
  bare_said (same_list as') h = bare_each as' h

  bare_saids : {us ts : Forest} → AreNoted us ts → tidies ts ≡ true → map (map bare) (saids us) ≡ plain.saids ts
  bare_saids no_more h = refl
  bare_saids (and_more {u} {t} {us} {ts} a as') h = let p = and_parts (tidy t) (tidies ts) h in both (bare_said a p.0) (bare_saids as' p.1)

  bare_each : {us ts : Forest} → AreNoted us ts → tidies ts ≡ true → map bare (each_said us) ≡ plain.each_said ts
  bare_each no_more h = refl
  bare_each (and_more {u} {t} {us} {ts} a as') h = let p = and_parts (tidy t) (tidies ts) h in both (bare_joined (said u) ∙ ap joined (bare_said a p.0)) (bare_each as' p.1)

-- the signs of a tree, with the places of its calls and without
pub bare_signs_of : (t : Tree) (d : Told) → tidy (laid_tree t) ≡ true → bare (joined (said (laid_tree (noted t d)))) ≡ spelled (laid_tree t)
bare_signs_of t d h = bare_joined (said (laid_tree (noted t d))) ∙ ap joined (bare_said (made_noted t d) h)
