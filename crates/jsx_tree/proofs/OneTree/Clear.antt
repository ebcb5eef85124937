-- Where no tree ends with the block of an arrow: a missing semicolon would stand after an expression there, and nothing else.
use Rattle.jsx_tree.proofs.OneTree.Fine.{of_blocked}
use Rattle.jsx_tree.proofs.OneTree.Spines.{blockless, no_blocked}
use Rattle.std.proofs.Common.{◌≡◌, ℕ, ◌≤◌, Bool, true, false, not, List, [], ◌∷◌, refl, sym, ◌∙◌, subst, arith}
use Rattle.std.specs.Prelude.{IsTrue, ◌||◌, nat_le, nat_eq}
use Rattle.std.proofs.lemmas.Bool.{le-leb}
use Rattle.jsx_base.specs.Token.{Text, NoSubstitution, TemplateTail}
use Rattle.jsx_tree.specs.Signs.{Sign, AfterExpr, Tok, Ends}
use Rattle.jsx_tree.specs.Kinds.{Binds, Assigns, Kind, Tree, leaf, node, list, Forest, none, part}
use Rattle.jsx_tree.specs.Nonterminals.{Nonterminal, Expr, MemberObject, SimpleTarget, Ident, BindingIdent, Name, Pat, ChainLink, TemplateOf, TemplatePart, NullishLeft, NewCallee, DotObject, number, floor, takes, in_list, in_homes, homes, leaf_in}
use Rattle.jsx_tree.specs.Grammar.{OneOrMore, Context, Fixed, Part, Optional, Many, Within, Production, production}
use Rattle.jsx_tree.specs.Form.{Maybe, Several, is_piece, enough, last_only, shaped, leads, admits, is, fits_below, fit_slots, fit_each, slots}
use Rattle.jsx_tree.specs.StaticRules.{Surroundings}
use Rattle.jsx_tree.specs.Spelling.{maybe, gathered, joined, walk, said, saids, each_said, spelled}
use Rattle.jsx_tree.specs.Reading.{Place, At, scan}
use Rattle.jsx_tree.specs.Walk.{is_found, IsRead}
use Rattle.jsx_tree.proofs.Tokens.{and_left, and_right, and_both}
use Rattle.jsx_tree.proofs.OneTree.Known.{taken, is_seq}
use Rattle.jsx_tree.proofs.OneTree.Table.{kinds, scope}
use Rattle.jsx_tree.proofs.OneTree.Readings.{is_block}
use Rattle.jsx_tree.proofs.OneTree.Checks.{every}
use Rattle.jsx_tree.proofs.OneTree.Facts.{never, or_else, Test, yes', no', test, le_nat, for_kind}
use Rattle.jsx_tree.proofs.OneTree.Places.{first_of, is_prop, no_seq, no_hole}
use Rattle.jsx_tree.proofs.OneTree.Fine.{tame, tames, Tamed, of_sealed, of_member, of_open, tamed}
use Rattle.jsx_tree.proofs.OneTree.Spines.{home_of, at_kind, taken_scope, no_seq_here}
use Rattle.jsx_tree.proofs.OneTree.Endings.{after, no_end, stays_after, settle, settle_append, settle_any, Passed, passed, pass_sign, no_flag, sealed_settled, member_settled}
use Rattle.jsx_tree.proofs.OneTree.Afters.{leaf_tok, settle_stays}

abbrev pub clear : Nonterminal → Bool
clear (Expr n) = nat_le 3 n
clear MemberObject = true
clear DotObject = true
clear SimpleTarget = true
clear NewCallee = true
clear NullishLeft = true
clear Ident = true
clear BindingIdent = true
clear Name = true
clear (Pat Binds) = true
clear (Pat Assigns) = true
clear ChainLink = true
clear TemplateOf = true
clear (TemplatePart NoSubstitution) = true
clear (TemplatePart TemplateTail) = true
clear c = false

abbrev pub clear_row : Bool → Production → Bool
clear_row b [] = b
clear_row b (Fixed (Tok m k t) ∷ ps) = clear_row true ps
clear_row b (Fixed (Ends e) ∷ ps) = clear_row false ps
clear_row b (Fixed m ∷ ps) = clear_row b ps
clear_row b (Within a ∷ ps) = clear_row b ps
clear_row b (Part c ∷ ps) = clear_row (clear c) ps
clear_row b (Many OneOrMore c ∷ ps) = clear_row (clear c) ps
clear_row b (q ∷ ps) = clear_row false ps

abbrev pub clear_kind : Kind → Bool
clear_kind k = clear_row false (production k)

-- ---- all that is at home at a clear place

or_left : (a b : Bool) → a ≡ true → (a || b) ≡ true
or_left true b h = refl
or_left false b h = cc

or_right : (a b : Bool) → b ≡ true → (a || b) ≡ true
or_right true b h = refl
or_right false b h = h

lower : (n : ℕ) (ds : List Nonterminal) → nat_le 3 n ≡ true → in_list (Expr n) ds ≡ true → in_list (Expr 3) ds ≡ true
lower n [] h i = cc
lower n (d ∷ ds) h i = by_first (test (takes (Expr n) d)) (lower n ds h)
  where
    by_first : Test (takes (Expr n) d) → (in_list (Expr n) ds ≡ true → in_list (Expr 3) ds ≡ true) → in_list (Expr 3) (d ∷ ds) ≡ true
    by_first (no' f) rest = or_right (takes (Expr 3) d) (in_list (Expr 3) ds) (rest (or_else (takes (Expr n) d) (in_list (Expr n) ds) i f))
    by_first (yes' t) rest =
        let a : 3 ≤ n = le_nat h in
        let b : n ≤ floor d = le_nat (and_right (nat_eq 0 (number d)) (nat_le n (floor d)) t) in
        or_left (takes (Expr 3) d) (in_list (Expr 3) ds) (and_both (nat_eq 0 (number d)) (nat_le 3 (floor d)) (and_left (nat_eq 0 (number d)) (nat_le n (floor d)) t) (le-leb 3 (floor d) (omega (arith, a, b))))

home_clear : (c : Nonterminal) (k : Kind) → clear c ≡ true → scope k ≡ true → in_homes c (homes k) ≡ true → clear_kind k ≡ true
home_clear (Expr n) k h s i = at_kind (Expr 3) clear_kind k refl s (lower n (homes k) h i)
home_clear MemberObject k h s i = at_kind MemberObject clear_kind k refl s i
home_clear DotObject k h s i = at_kind DotObject clear_kind k refl s i
home_clear SimpleTarget k h s i = at_kind SimpleTarget clear_kind k refl s i
home_clear NewCallee k h s i = at_kind NewCallee clear_kind k refl s i
home_clear NullishLeft k h s i = at_kind NullishLeft clear_kind k refl s i
home_clear Ident k h s i = at_kind Ident clear_kind k refl s i
home_clear BindingIdent k h s i = at_kind BindingIdent clear_kind k refl s i
home_clear Name k h s i = at_kind Name clear_kind k refl s i
home_clear (Pat Binds) k h s i = at_kind (Pat Binds) clear_kind k refl s i
home_clear (Pat Assigns) k h s i = at_kind (Pat Assigns) clear_kind k refl s i
home_clear ChainLink k h s i = at_kind ChainLink clear_kind k refl s i
home_clear TemplateOf k h s i = at_kind TemplateOf clear_kind k refl s i
home_clear (TemplatePart NoSubstitution) k h s i = at_kind (TemplatePart NoSubstitution) clear_kind k refl s i
home_clear (TemplatePart TemplateTail) k h s i = at_kind (TemplatePart TemplateTail) clear_kind k refl s i
home_clear _ k h s i = cc

clear_no_seq : (c : Nonterminal) → clear c ≡ true → no_seq c ≡ true
clear_no_seq (Expr n) h = by_level (test (nat_le n 0))
  where
    by_level : Test (nat_le n 0) → no_seq (Expr n) ≡ true
    by_level (yes' l) = let a : 3 ≤ n = le_nat h in let b : n ≤ 0 = le_nat l in absurd (omega (arith, a, b))
    by_level (no' l) = (λ i. not (l i || false))
clear_no_seq MemberObject h = refl
clear_no_seq DotObject h = refl
clear_no_seq SimpleTarget h = refl
clear_no_seq NewCallee h = refl
clear_no_seq NullishLeft h = refl
clear_no_seq Ident h = refl
clear_no_seq BindingIdent h = refl
clear_no_seq Name h = refl
clear_no_seq (Pat Binds) h = refl
clear_no_seq (Pat Assigns) h = refl
clear_no_seq ChainLink h = refl
clear_no_seq TemplateOf h = refl
clear_no_seq (TemplatePart NoSubstitution) h = refl
clear_no_seq (TemplatePart TemplateTail) h = refl
clear_no_seq _ h = cc

clear_blockless : (c : Nonterminal) → clear c ≡ true → blockless c ≡ true
clear_blockless (Expr n) h = by_level (test (nat_le n 1))
  where
    by_level : Test (nat_le n 1) → blockless (Expr n) ≡ true
    by_level (yes' l) = let a : 3 ≤ n = le_nat h in let b : n ≤ 1 = le_nat l in absurd (omega (arith, a, b))
    by_level (no' l) = (λ i. not (l i || false))
clear_blockless MemberObject h = refl
clear_blockless DotObject h = refl
clear_blockless SimpleTarget h = refl
clear_blockless NewCallee h = refl
clear_blockless NullishLeft h = refl
clear_blockless Ident h = refl
clear_blockless BindingIdent h = refl
clear_blockless Name h = refl
clear_blockless (Pat Binds) h = refl
clear_blockless (Pat Assigns) h = refl
clear_blockless ChainLink h = refl
clear_blockless TemplateOf h = refl
clear_blockless (TemplatePart NoSubstitution) h = refl
clear_blockless (TemplatePart TemplateTail) h = refl
clear_blockless _ h = cc

clear_no_hole : (c : Nonterminal) → clear c ≡ true → no_hole c ≡ true
clear_no_hole (Expr n) h = refl
clear_no_hole MemberObject h = refl
clear_no_hole DotObject h = refl
clear_no_hole SimpleTarget h = refl
clear_no_hole NewCallee h = refl
clear_no_hole NullishLeft h = refl
clear_no_hole Ident h = refl
clear_no_hole BindingIdent h = refl
clear_no_hole Name h = refl
clear_no_hole (Pat Binds) h = refl
clear_no_hole (Pat Assigns) h = refl
clear_no_hole ChainLink h = refl
clear_no_hole TemplateOf h = refl
clear_no_hole (TemplatePart NoSubstitution) h = refl
clear_no_hole (TemplatePart TemplateTail) h = refl
clear_no_hole _ h = cc

-- ---- along a row

node_clear : (k : Kind) (cs : Forest) (c : Nonterminal) → Tamed k cs → clear c ≡ true → is c (node k cs) ≡ true → (clear_kind k ≡ true → tames cs ≡ true → settle no_end false (walk (production k) (saids cs)) ≡ true) → settle no_end false (joined (said (node k cs))) ≡ true
node_clear k cs c (of_sealed s f) n i rest = sealed_settled no_end false k cs s f
node_clear k cs c (of_member s f m) n i rest = member_settled no_end false k cs s f
node_clear k cs c (of_blocked s f m) n i rest = absurd (no_blocked c k cs s (clear_blockless c n) i)
node_clear k cs c (of_open t m) n i rest = rest (by_taken (test (taken k))) m
  where
    by_taken : Test (taken k) → clear_kind k ≡ true
    by_taken (yes' y) = home_clear c k n (taken_scope k y) (home_of c k cs (and_left (admits c (node k cs)) (fits_below c (node k cs)) i))
    by_taken (no' f) = absurd (no_seq_here c k cs (or_else (taken k) (is_seq k) t f) (clear_no_seq c n) i)

gather_one : (x : List Sign) (xs : List (List Sign)) (c : Bool) → settle no_end c (gathered OneOrMore (x ∷ xs)) ≡ settle no_end (settle no_end c x) (gathered OneOrMore xs)
gather_one x [] c = settle_append no_end x [] c
gather_one x (y ∷ ys) c = settle_append no_end x (gathered OneOrMore (y ∷ ys)) c

mutual
  said_clear : (t : Tree) (c : Nonterminal) → tame t ≡ true → clear c ≡ true → is c t ≡ true → settle no_end false (joined (said t)) ≡ true
  said_clear (leaf s t) c h n i = leaf_tok no_end s t c (clear_no_hole c n) (and_left (leaf_in c s t) _ i)
  said_clear (list ts) c h n i = cc
  said_clear (node k cs) c h n i =
      let f = and_right (admits c (node k cs)) (fits_below c (node k cs)) i in
      node_clear k cs c (tamed k cs h) n i (λ r m. row_clear (production k) cs [] false [] false false r no_flag m f)

  row_clear : (ps : Production) (cs : Forest) (g : List Text) (i : Bool) (a : List Context) (b c : Bool) → clear_row b ps ≡ true → (b ≡ true → c ≡ true) → tames cs ≡ true → fit_slots (slots g i a ps) cs ≡ true → settle no_end c (walk ps (saids cs)) ≡ true
  row_clear [] cs g i a b c s h m f = h s
  row_clear (Fixed n ∷ ps) cs g i a b c s h m f = by_passed (pass_sign n ps g i a cs f) (λ g' i' b' c' s' h' f'. row_clear ps cs g' i' a b' c' s' h' m f')
    where
      by_sign : (n : Sign) → clear_row b (Fixed n ∷ ps) ≡ true → ((b' c' : Bool) → clear_row b' ps ≡ true → (b' ≡ true → c' ≡ true) → settle no_end c' (walk ps (saids cs)) ≡ true) → settle no_end c (n ∷ walk ps (saids cs)) ≡ true
      by_sign (Tok n' k t) s rest = rest true true s (λ q. refl)
      by_sign (Ends e) s rest = rest false false s (λ q. q)
      by_sign _ s rest = rest b c s h

      by_passed : Passed ps a cs → ((g' : List Text) (i' b' c' : Bool) → clear_row b' ps ≡ true → (b' ≡ true → c' ≡ true) → fit_slots (slots g' i' a ps) cs ≡ true → settle no_end c' (walk ps (saids cs)) ≡ true) → settle no_end c (n ∷ walk ps (saids cs)) ≡ true
      by_passed (passed g' i' f') rest = by_sign n s (λ b' c' s' h'. rest g' i' b' c' s' h' f')
  row_clear (Within d ∷ ps) cs g i a b c s h m f = row_clear ps cs g i (d ∷ a) b c s h m f
  row_clear (q ∷ ps) none g i a b c s h m f = cc
  row_clear (Part d ∷ ps) (part t ts) g i a b c s h m f =
      let r0 = and_right (admits d t) _ f in
      let r = and_right (fits_below d t) _ r0 in
      settle_append no_end (joined (said t)) (walk ps (saids ts)) c
      ∙ row_clear ps ts [] (i || is_piece d) a (clear d) (settle no_end c (joined (said t))) s (λ n. settle_any no_end (joined (said t)) c (said_clear t d (and_left (tame t) (tames ts) m) n (and_both (admits d t) (fits_below d t) (and_left (admits d t) _ f) (and_left (fits_below d t) _ r0)))) (and_right (tame t) (tames ts) m) r
  row_clear (Many OneOrMore d ∷ ps) (part (list us) ts) g i a b c s h m f =
      let w = and_left (shaped (Several OneOrMore) d (list us)) _ f in
      let r0 = and_right (shaped (Several OneOrMore) d (list us)) _ f in
      let r = and_right (fit_each d us) _ r0 in
      settle_append no_end (gathered OneOrMore (each_said us)) (walk ps (saids ts)) c
      ∙ row_clear ps ts [] i a (clear d) (settle no_end c (gathered OneOrMore (each_said us))) s (λ n. each_clear d us c (λ e. absurd (never (enough OneOrMore us) (and_left (enough OneOrMore us) (last_only us) w) e)) (and_left (tames us) (tames ts) m) n (and_left (fit_each d us) _ r0)) (and_right (tames us) (tames ts) m) r
  row_clear (Many OneOrMore d ∷ ps) (part (leaf k t) ts) g i a b c s h m f = cc
  row_clear (Many OneOrMore d ∷ ps) (part (node k t) ts) g i a b c s h m f = cc
  row_clear (Many e d ∷ ps) (part t ts) g i a b c s h m f =
      let r = and_right (fits_below d t) _ (and_right (shaped (Several e) d t) _ f) in
      settle_append no_end (gathered e (said t)) (walk ps (saids ts)) c ∙ row_clear ps ts [] i a false (settle no_end c (gathered e (said t))) s no_flag (and_right (tame t) (tames ts) m) r
  row_clear (Optional x d y u ∷ ps) (part t ts) g i a b c s h m f =
      let r = and_right (fits_below d t) _ (and_right (shaped Maybe d t) _ f) in
      settle_append no_end (maybe x y u (said t)) (walk ps (saids ts)) c ∙ row_clear ps ts [] i a false (settle no_end c (maybe x y u (said t))) s no_flag (and_right (tame t) (tames ts) m) r

  each_clear : (d : Nonterminal) (ts : Forest) (c : Bool) → (enough OneOrMore ts ≡ false → c ≡ true) → tames ts ≡ true → clear d ≡ true → fit_each d ts ≡ true → settle no_end c (gathered OneOrMore (each_said ts)) ≡ true
  each_clear d none c e m n f = e refl
  each_clear d (part t ts) c e m n f =
      let r = and_right (admits d t) _ f in
      gather_one (joined (said t)) (each_said ts) c
      ∙ each_clear d ts (settle no_end c (joined (said t))) (λ e. settle_any no_end (joined (said t)) c (said_clear t d (and_left (tame t) (tames ts) m) n (and_both (admits d t) (fits_below d t) (and_left (admits d t) _ f) (and_left (fits_below d t) _ r)))) (and_right (tame t) (tames ts) m) n (and_right (fits_below d t) _ r)

-- ---- behind a tree at a clear place

after_clear : (t : Tree) (c : Nonterminal) {v : Surroundings} {x y : Place} → tame t ≡ true → clear c ≡ true → IsRead v false c x t y → after y ≡ true
after_clear t c {v} {x} {y} h n r =
    subst (λ z. after z ≡ true) r.scans (stays_after (scan x (spelled t)) (settle_stays no_end (spelled t) x false no_flag (said_clear t c h n r.is) (subst (λ z. IsTrue (is_found z)) (sym r.scans) r.found)))

no_block : (x : Place) → after x ≡ true → is_block x ≡ false
no_block (At q AfterExpr text) h = refl
no_block _ h = cc

pub clear_tame : (t : Tree) (c : Nonterminal) {v : Surroundings} {x y : Place} → tame t ≡ true → clear c ≡ true → IsRead v false c x t y → is_block y ≡ false
clear_tame t c {y = y} h n r = no_block y (after_clear t c h n r)

-- ---- what an expression goes on from stands at such a place

all_firsts : every (λ k. (is_prop k || not (leads (production k))) || clear (first_of (production k))) kinds ≡ true
all_firsts = refl

pub clear_first : (k : Kind) → taken k ≡ true → is_prop k ≡ false → leads (production k) ≡ true → clear (first_of (production k)) ≡ true
clear_first k t p l = or_else (is_prop k || not (leads (production k))) (clear (first_of (production k))) (for_kind (λ k. (is_prop k || not (leads (production k))) || clear (first_of (production k))) all_firsts k (taken_scope k t)) ((λ i. p i || not (l i)))
