-- Where expressions end: an expression keeps what a missing semicolon would stand after, and where a semicolon stands or is missing nothing goes on with it.
use Rattle.jsx_tree.proofs.OneTree.Fine.{of_blocked}
use Rattle.jsx_tree.proofs.OneTree.Known.{is_blocked}
use Rattle.jsx_tree.specs.Kinds.{expression, ArrowBlock, BareArrowBlock}
use Rattle.std.proofs.Common.{◌≡◌, Bool, true, false, cond, List, [], ◌∷◌, ◌++◌, refl, sym, ◌∙◌, ap, subst}
use Rattle.std.specs.Prelude.{IsTrue, ◌&&◌, ◌||◌}
use Rattle.jsx_base.specs.Token.{Text, Operator, TokenKind, Elision, Punctuator, is_token, same, token, at_front, kind_number, skip, breaks}
use Rattle.jsx_tree.specs.Signs.{Ending, Sign, AfterExpr, AfterBlock, Tok, Semicolon, TrailingComma, Unless, SameLine, Ends}
use Rattle.jsx_tree.specs.Kinds.{FunctionExpr, ClassExpr, Element, ElementWithChildren, Fragment, jsx, InObject, Method, Getter, Setter, Kind, function, Tree, leaf, node, list, Forest, none, part}
use Rattle.jsx_tree.specs.Grammar.{ListShape, Commas, Elisions, TwoOrMore, OneOrMore, Adjacent, Context, Fixed, Part, Optional, Many, Within, Production, production}
use Rattle.jsx_tree.specs.Spelling.{leaf_signs, maybe, before, between, behind, gathered, joined, walk, said, saids, each_said}
use Rattle.jsx_tree.specs.Form.{Single, Maybe, Several, inside, is_piece, shaped, fits_below, fit_slots, slots, positions}
use Rattle.jsx_tree.specs.Reading.{Place, Lost, At, forth, scan, go_if, may_lack, ended_at}
use Rattle.jsx_tree.proofs.Laws.{scan_lost}
use Rattle.jsx_tree.proofs.Tokens.{and_left, and_right, and_both, same_is}
use Rattle.jsx_tree.specs.Walk.{is_found}
use Rattle.jsx_tree.proofs.OneTree.Table.{kinds}
use Rattle.jsx_tree.proofs.OneTree.Readings.{Whole, single, several, kind_at, text_at}
use Rattle.jsx_tree.proofs.OneTree.Checks.{every, starts}
use Rattle.jsx_tree.proofs.OneTree.Facts.{or_else, Test, yes', no', test, for_kind}
use Rattle.jsx_tree.proofs.OneTree.Known.{taken, is_seq}
use Rattle.jsx_tree.proofs.OneTree.Sealed.{is_sealed, is_member}
use Rattle.jsx_tree.proofs.OneTree.Fine.{tame, tames, Tamed, of_sealed, of_member, of_open, tamed}
use Rattle.jsx_tree.proofs.OneTree.Spines.{seq_is, taken_scope}
use Rattle.jsx_tree.proofs.OneTree.Starting.{begins}

-- at the end of a text no token stands
pub end_kind : (x : Place) → ended_at x ≡ true → kind_at x ≡ 14
end_kind Lost h = cc
end_kind (At q e rest) h =
    let s : skip rest ≡ [] = same_is (skip rest) [] (and_left (same (skip rest) []) _ h) in
    (λ i. kind_number (at_front Operator (same q [] || breaks rest) (s i)).kind)

pub whole_begins : {x y : Place} {t : Tree} → Whole x t y → starts (kind_at x) (text_at x) ≡ true
whole_begins (single r c) = begins r
whole_begins (several r c e f d) = begins r

-- ---- behind an expression

abbrev pub after : Place → Bool
after (At q AfterExpr text) = true
after x = false

-- the same, or behind the block of an arrow
abbrev pub past : Place → Bool
past (At q AfterExpr text) = true
past (At q AfterBlock text) = true
past x = false

pub past_after : (x : Place) → after x ≡ true → past x ≡ true
past_after (At q AfterExpr text) h = refl
past_after _ h = cc

-- the endings that keep: none but an expression's, or the block's of an arrow too
abbrev pub no_end : Ending → Bool
no_end e = false

abbrev pub block_end : Ending → Bool
block_end AfterBlock = true
block_end e = false

abbrev pub stays : (Ending → Bool) → Place → Bool
stays o Lost = false
stays o (At q AfterExpr text) = true
stays o (At q e text) = o e

pub stays_after : (x : Place) → stays no_end x ≡ true → after x ≡ true
stays_after (At q AfterExpr text) h = refl
stays_after _ h = cc

pub stays_past : (x : Place) → stays block_end x ≡ true → past x ≡ true
stays_past (At q AfterExpr text) h = refl
stays_past (At q AfterBlock text) h = refl
stays_past _ h = cc

pub stays_ends : (o : Ending → Bool) (e : Ending) (x : Place) → o e ≡ true → IsTrue (is_found (forth (Ends e) x)) → stays o (forth (Ends e) x) ≡ true
stays_ends o e Lost h f = cc
stays_ends o AfterExpr (At q g text) h f = refl
stays_ends o _ (At q g text) h f = h

-- whether a missing semicolon would stand after what keeps, from whether it would before these signs: a token stands behind all else that is said of it
abbrev pub settle : (Ending → Bool) → Bool → List Sign → Bool
settle o b [] = b
settle o b (Ends e ∷ ms) = settle o (o e) ms
settle o b (Tok m k t ∷ ms) = settle o true ms
settle o b (m ∷ ms) = settle o b ms

abbrev pub keeps : List Sign → Bool
keeps ms = settle block_end true ms

pub settle_append : (o : Ending → Bool) (a c : List Sign) (b : Bool) → settle o b (a ++ c) ≡ settle o (settle o b a) c
settle_append o [] c b = refl
settle_append o (Ends e ∷ a) c b = settle_append o a c (o e)
settle_append o (Tok m k t ∷ a) c b = settle_append o a c true
settle_append o (_ ∷ a) c b = settle_append o a c b

pub settle_any : (o : Ending → Bool) (ms : List Sign) (b : Bool) → settle o false ms ≡ true → settle o b ms ≡ true
settle_any o [] b h = cc
settle_any o (Ends e ∷ ms) b h = h
settle_any o (Tok m k t ∷ ms) b h = h
settle_any o (_ ∷ ms) b h = settle_any o ms b h

pub go_stays : (o : Ending → Bool) (b : Bool) (x : Place) → stays o x ≡ true → IsTrue (is_found (go_if b x)) → stays o (go_if b x) ≡ true
go_stays o true x a f = a
go_stays o false x a f = cc

cond_stays : (o : Ending → Bool) (b : Bool) (x y : Place) → stays o x ≡ true → (IsTrue (is_found y) → stays o y ≡ true) → IsTrue (is_found (cond b x y)) → stays o (cond b x y) ≡ true
cond_stays o true x y a g f = a
cond_stays o false x y a g f = g f

pub stays_sign : (o : Ending → Bool) (m : Sign) (x : Place) → settle o true (m ∷ []) ≡ true → stays o x ≡ true → IsTrue (is_found (forth m x)) → stays o (forth m x) ≡ true
stays_sign o m Lost h a f = cc
stays_sign o (Tok m s t) (At q e text) h a f = go_stays o (is_token (token m (same q []) text) s t) _ refl f
stays_sign o Semicolon (At q e text) h a f = cond_stays o (is_token (token Operator false text) Punctuator _) _ _ refl (go_stays o (may_lack e q text) (At q e text) a) f
stays_sign o TrailingComma (At q e text) h a f = cond_stays o (is_token (token Operator false text) Punctuator _) _ _ refl (λ g. a) f
stays_sign o (Unless ts) (At q e text) h a f = go_stays o _ (At q e text) a f
stays_sign o SameLine (At q e text) h a f = go_stays o _ (At q e text) a f
stays_sign o (Ends g) (At q e text) h a f = stays_ends o g (At q e text) h f
stays_sign o _ (At q e text) h a f = a

pub found_first : (ms : List Sign) (x : Place) → IsTrue (is_found (scan x ms)) → IsTrue (is_found x)
found_first ms (At q e text) f = refl
found_first ms Lost f = subst (λ x. IsTrue (is_found x)) (scan_lost ms) f

-- ---- behind an expression all is kept

keeps_both : (a b : List Sign) → keeps a ≡ true → keeps b ≡ true → keeps (a ++ b) ≡ true
keeps_both a b h g = settle_append block_end a b true ∙ (ap (λ c. settle block_end c b) h ∙ g)

abbrev pub each_ok : List (List Sign) → Bool
each_ok [] = true
each_ok (x ∷ xs) = keeps x && each_ok xs

abbrev pub all_ok : List (List (List Sign)) → Bool
all_ok [] = true
all_ok (x ∷ xs) = each_ok x && all_ok xs

abbrev pub plain_shape : ListShape → Bool
plain_shape Commas = true
plain_shape Elisions = true
plain_shape TwoOrMore = true
plain_shape OneOrMore = true
plain_shape Adjacent = true
plain_shape s = false

abbrev pub row_ends : Production → Bool
row_ends [] = true
row_ends (Fixed (Ends e) ∷ ps) = false
row_ends (Optional a c b r ∷ ps) = false
row_ends (Many s c ∷ ps) = plain_shape s && row_ends ps
row_ends (q ∷ ps) = row_ends ps

all_rows : every (λ k. row_ends (production k)) kinds ≡ true
all_rows = refl

joined_ok : (xs : List (List Sign)) → each_ok xs ≡ true → keeps (joined xs) ≡ true
joined_ok [] h = refl
joined_ok (x ∷ []) h = and_left (keeps x) true h
joined_ok (x ∷ y ∷ ys) h = keeps_both x (joined (y ∷ ys)) (and_left (keeps x) _ h) (joined_ok (y ∷ ys) (and_right (keeps x) _ h))

behind_ok : (s : ListShape) (x : List Sign) → plain_shape s ≡ true → keeps (behind s x) ≡ true
behind_ok Commas x p = refl
behind_ok Elisions [] p = refl
behind_ok Elisions (m ∷ ms) p = refl
behind_ok TwoOrMore x p = refl
behind_ok OneOrMore x p = refl
behind_ok Adjacent x p = refl
behind_ok _ x p = cc

between_ok : (s : ListShape) → plain_shape s ≡ true → keeps (between s) ≡ true
between_ok Commas p = refl
between_ok Elisions p = refl
between_ok TwoOrMore p = refl
between_ok OneOrMore p = refl
between_ok Adjacent p = refl
between_ok _ p = cc

before_ok : (s : ListShape) (x : List Sign) → plain_shape s ≡ true → keeps x ≡ true → keeps (before s x) ≡ true
before_ok Commas x p h = h
before_ok Elisions x p h = h
before_ok TwoOrMore x p h = h
before_ok OneOrMore x p h = h
before_ok Adjacent x p h = h
before_ok _ x p h = cc

pub gathered_ok : (s : ListShape) (xs : List (List Sign)) → plain_shape s ≡ true → each_ok xs ≡ true → keeps (gathered s xs) ≡ true
gathered_ok s [] p h = refl
gathered_ok s (x ∷ []) p h = keeps_both (before s x) (behind s x) (before_ok s x p (and_left (keeps x) true h)) (behind_ok s x p)
gathered_ok s (x ∷ y ∷ ys) p h =
    keeps_both (before s x) (between s ++ gathered s (y ∷ ys)) (before_ok s x p (and_left (keeps x) _ h))
    (keeps_both (between s) (gathered s (y ∷ ys)) (between_ok s p) (gathered_ok s (y ∷ ys) p (and_right (keeps x) _ h)))

pub fixed_ok : (m : Sign) (ps : Production) → row_ends (Fixed m ∷ ps) ≡ true → (keeps (m ∷ []) ≡ true) × (row_ends ps ≡ true)
fixed_ok (Ends e) ps h = cc
fixed_ok _ ps h = (refl, h)

add_first : (m : Sign) (ms : List Sign) → keeps (m ∷ []) ≡ true → keeps ms ≡ true → keeps (m ∷ ms) ≡ true
add_first (Ends e) ms h g = subst (λ b. settle block_end b ms ≡ true) (sym h) g
add_first _ ms h g = g

pub walk_ok : (ps : Production) (xs : List (List (List Sign))) → row_ends ps ≡ true → all_ok xs ≡ true → keeps (walk ps xs) ≡ true
walk_ok [] xs h g = refl
walk_ok (Fixed m ∷ ps) xs h g = let p = fixed_ok m ps h in add_first m (walk ps xs) p.0 (walk_ok ps xs p.1 g)
walk_ok (Within a ∷ ps) xs h g = walk_ok ps xs h g
walk_ok (Part c ∷ ps) [] h g = refl
walk_ok (Part c ∷ ps) (x ∷ xs) h g = keeps_both (joined x) (walk ps xs) (joined_ok x (and_left (each_ok x) (all_ok xs) g)) (walk_ok ps xs h (and_right (each_ok x) (all_ok xs) g))
walk_ok (Many s c ∷ ps) [] h g = refl
walk_ok (Many s c ∷ ps) (x ∷ xs) h g = keeps_both (gathered s x) (walk ps xs) (gathered_ok s x (and_left (plain_shape s) (row_ends ps) h) (and_left (each_ok x) (all_ok xs) g)) (walk_ok ps xs (and_right (plain_shape s) (row_ends ps) h) (and_right (each_ok x) (all_ok xs) g))
walk_ok (Optional a c b r ∷ ps) xs h g = cc

-- a function, a class or an element ends with a token
abbrev pub shuts_row : (Ending → Bool) → Bool → Production → Bool
shuts_row o b [] = b
shuts_row o b (Fixed (Tok m k t) ∷ ps) = shuts_row o true ps
shuts_row o b (Fixed (Ends e) ∷ ps) = shuts_row o (o e) ps
shuts_row o b (Fixed m ∷ ps) = shuts_row o b ps
shuts_row o b (Within a ∷ ps) = shuts_row o b ps
shuts_row o b (q ∷ ps) = shuts_row o false ps

pub data Passed (ps : Production) (a : List Context) (cs : Forest) : Type 0 where
  passed : (g : List Text) (b : Bool) → fit_slots (slots g b a ps) cs ≡ true → Passed ps a cs

pub pass_sign : (m : Sign) (ps : Production) (g : List Text) (b : Bool) (a : List Context) (cs : Forest) → fit_slots (slots g b a (Fixed m ∷ ps)) cs ≡ true → Passed ps a cs
pass_sign (Tok m Punctuator t) ps g b a cs f = passed [] (inside t b) f
pass_sign (Tok m _ t) ps g b a cs f = passed g b f
pass_sign (Unless ts) ps g b a cs f = passed ts b f
pass_sign _ ps g b a cs f = passed g b f

pub no_flag : {P : Type 0} → false ≡ true → P
no_flag h = cc

pub row_settled : (o : Ending → Bool) (ps : Production) (cs : Forest) (g : List Text) (i : Bool) (a : List Context) (b c : Bool) → shuts_row o b ps ≡ true → (b ≡ true → c ≡ true) → fit_slots (slots g i a ps) cs ≡ true → settle o c (walk ps (saids cs)) ≡ true
row_settled o [] cs g i a b c s h f = h s
row_settled o (Fixed m ∷ ps) cs g i a b c s h f = by_passed (pass_sign m ps g i a cs f) (λ g' i' b' c' s' h' f'. row_settled o ps cs g' i' a b' c' s' h' f')
  where
    by_sign : (m : Sign) → shuts_row o b (Fixed m ∷ ps) ≡ true → ((b' c' : Bool) → shuts_row o b' ps ≡ true → (b' ≡ true → c' ≡ true) → settle o c' (walk ps (saids cs)) ≡ true) → settle o c (m ∷ walk ps (saids cs)) ≡ true
    by_sign (Tok n k t) s rest = rest true true s (λ q. refl)
    by_sign (Ends e) s rest = rest (o e) (o e) s (λ q. q)
    by_sign _ s rest = rest b c s h

    by_passed : Passed ps a cs → ((g' : List Text) (i' b' c' : Bool) → shuts_row o b' ps ≡ true → (b' ≡ true → c' ≡ true) → fit_slots (slots g' i' a ps) cs ≡ true → settle o c' (walk ps (saids cs)) ≡ true) → settle o c (m ∷ walk ps (saids cs)) ≡ true
    by_passed (passed g' i' f') rest = by_sign m s (λ b' c' s' h'. rest g' i' b' c' s' h' f')
row_settled o (Within d ∷ ps) cs g i a b c s h f = row_settled o ps cs g i (d ∷ a) b c s h f
row_settled o (q ∷ ps) none g i a b c s h f = cc
row_settled o (Part d ∷ ps) (part t ts) g i a b c s h f =
    let r = and_right (fits_below d t) _ (and_right (shaped Single d t) _ f) in
    settle_append o (joined (said t)) (walk ps (saids ts)) c ∙ row_settled o ps ts [] (i || is_piece d) a false (settle o c (joined (said t))) s no_flag r
row_settled o (Optional x d y u ∷ ps) (part t ts) g i a b c s h f =
    let r = and_right (fits_below d t) _ (and_right (shaped Maybe d t) _ f) in
    settle_append o (maybe x y u (said t)) (walk ps (saids ts)) c ∙ row_settled o ps ts [] i a false (settle o c (maybe x y u (said t))) s no_flag r
row_settled o (Many e d ∷ ps) (part t ts) g i a b c s h f =
    let r = and_right (fits_below d t) _ (and_right (shaped (Several e) d t) _ f) in
    settle_append o (gathered e (said t)) (walk ps (saids ts)) c ∙ row_settled o ps ts [] i a false (settle o c (gathered e (said t))) s no_flag r

pub member_settled : (o : Ending → Bool) (b : Bool) (k : Kind) (cs : Forest) → is_member k ≡ true → fit_slots (positions k) cs ≡ true → settle o b (walk (production k) (saids cs)) ≡ true
member_settled o b (function (Method InObject)) cs s f = row_settled o (production (function (Method InObject))) cs [] false [] false b refl no_flag f
member_settled o b (function (Getter InObject)) cs s f = row_settled o (production (function (Getter InObject))) cs [] false [] false b refl no_flag f
member_settled o b (function (Setter InObject)) cs s f = row_settled o (production (function (Setter InObject))) cs [] false [] false b refl no_flag f
member_settled o b (function (Method _)) cs s f = cc
member_settled o b (function (Getter _)) cs s f = cc
member_settled o b (function (Setter _)) cs s f = cc
member_settled o b (function _) cs s f = cc
member_settled o b _ cs s f = cc

pub sealed_settled : (o : Ending → Bool) (b : Bool) (k : Kind) (cs : Forest) → is_sealed k ≡ true → fit_slots (positions k) cs ≡ true → settle o b (walk (production k) (saids cs)) ≡ true
sealed_settled o b (function FunctionExpr) cs s f = row_settled o (production (function FunctionExpr)) cs [] false [] false b refl no_flag f
sealed_settled o b (function ClassExpr) cs s f = row_settled o (production (function ClassExpr)) cs [] false [] false b refl no_flag f
sealed_settled o b (jsx Element) cs s f = row_settled o (production (jsx Element)) cs [] false [] false b refl no_flag f
sealed_settled o b (jsx ElementWithChildren) cs s f = row_settled o (production (jsx ElementWithChildren)) cs [] false [] false b refl no_flag f
sealed_settled o b (jsx Fragment) cs s f = row_settled o (production (jsx Fragment)) cs [] false [] false b refl no_flag f
sealed_settled o b (function _) cs s f = cc
sealed_settled o b (jsx _) cs s f = cc
sealed_settled o b _ cs s f = cc

-- an arrow's block ends as itself
pub blocked_settled : (b : Bool) (k : Kind) (cs : Forest) → is_blocked k ≡ true → fit_slots (positions k) cs ≡ true → settle block_end b (walk (production k) (saids cs)) ≡ true
blocked_settled b (expression ArrowBlock) cs s f = row_settled block_end (production (expression ArrowBlock)) cs [] false [] false b refl no_flag f
blocked_settled b (expression BareArrowBlock) cs s f = row_settled block_end (production (expression BareArrowBlock)) cs [] false [] false b refl no_flag f
blocked_settled b (expression _) cs s f = cc
blocked_settled b _ cs s f = cc

leaf_ok : (s : TokenKind) (t : Text) → keeps (leaf_signs s t) ≡ true
leaf_ok Elision t = refl
leaf_ok _ t = refl

pub row_of_kind : (k : Kind) → (taken k || is_seq k) ≡ true → row_ends (production k) ≡ true
row_of_kind k h = by_taken (test (taken k))
  where
    by_taken : Test (taken k) → row_ends (production k) ≡ true
    by_taken (yes' t) = for_kind (λ k. row_ends (production k)) all_rows k (taken_scope k t)
    by_taken (no' n) = ap (λ k. row_ends (production k)) (seq_is k (or_else (taken k) (is_seq k) h n))

node_ok : (k : Kind) (cs : Forest) → Tamed k cs → (tames cs ≡ true → all_ok (saids cs) ≡ true) → each_ok (said (node k cs)) ≡ true
node_ok k cs (of_sealed s f) rest = and_both (keeps (walk (production k) (saids cs))) true (sealed_settled block_end true k cs s f) refl
node_ok k cs (of_member s f g) rest = and_both (keeps (walk (production k) (saids cs))) true (member_settled block_end true k cs s f) refl
node_ok k cs (of_blocked s f g) rest = and_both (keeps (walk (production k) (saids cs))) true (blocked_settled true k cs s f) refl
node_ok k cs (of_open t m) rest = and_both (keeps (walk (production k) (saids cs))) true (walk_ok (production k) (saids cs) (row_of_kind k t) (rest m)) refl

mutual
  pub said_ok : (t : Tree) → tame t ≡ true → each_ok (said t) ≡ true
  said_ok (leaf s t) h = and_both (keeps (leaf_signs s t)) true (leaf_ok s t) refl
  said_ok (node k cs) h = node_ok k cs (tamed k cs h) (λ m. saids_ok cs m)
  said_ok (list ts) h = each_said_ok ts h

  pub saids_ok : (ts : Forest) → tames ts ≡ true → all_ok (saids ts) ≡ true
  saids_ok none h = refl
  saids_ok (part t ts) h = and_both (each_ok (said t)) (all_ok (saids ts)) (said_ok t (and_left (tame t) (tames ts) h)) (saids_ok ts (and_right (tame t) (tames ts) h))

  pub each_said_ok : (ts : Forest) → tames ts ≡ true → each_ok (each_said ts) ≡ true
  each_said_ok none h = refl
  each_said_ok (part t ts) h = and_both (keeps (joined (said t))) (each_ok (each_said ts)) (joined_ok (said t) (said_ok t (and_left (tame t) (tames ts) h))) (each_said_ok ts (and_right (tame t) (tames ts) h))
