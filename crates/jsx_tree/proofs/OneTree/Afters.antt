-- Behind an expression a missing semicolon would stand after an expression, whatever stood before it: each has a token.
use Rattle.jsx_tree.proofs.OneTree.Fine.{of_blocked}
use Rattle.jsx_tree.proofs.OneTree.Endings.{blocked_settled}
use Rattle.jsx_tree.proofs.OneTree.Known.{taken, is_seq}
use Rattle.std.proofs.Common.{◌≡◌, Bool, true, false, List, [], ◌∷◌, ◌++◌, refl, sym, ◌∙◌, ap, subst}
use Rattle.std.specs.Prelude.{IsTrue, ◌||◌}
use Rattle.jsx_base.specs.Token.{Text, Mode, TokenKind, Elision, is_token, token, same}
use Rattle.jsx_tree.specs.Signs.{Ending, Sign, Tok, Ends, Unless, Space}
use Rattle.jsx_tree.specs.Kinds.{Kind, Tree, leaf, node, list, Forest, none, part}
use Rattle.jsx_tree.specs.Nonterminals.{Nonterminal, in_homes, leaf_in, literal_homes}
use Rattle.jsx_tree.specs.Grammar.{TwoOrMore, Context, Fixed, Part, Many, Within, Production, production, pun}
use Rattle.jsx_tree.specs.Form.{admits, is, fits_below, fit_slots, slots, positions}
use Rattle.jsx_tree.specs.StaticRules.{Surroundings}
use Rattle.jsx_tree.specs.Spelling.{leaf_signs, gathered, joined, walk, said, saids, each_said, spelled}
use Rattle.jsx_tree.specs.Reading.{Place, Lost, At, forth, scan}
use Rattle.jsx_tree.proofs.Tokens.{and_left, and_right, and_both}
use Rattle.jsx_tree.specs.Walk.{is_found, IsRead}
use Rattle.jsx_tree.proofs.OneTree.Table.{kinds}
use Rattle.jsx_tree.proofs.OneTree.Checks.{every}
use Rattle.jsx_tree.proofs.OneTree.Facts.{never, or_else, not_is, Test, yes', no', test, for_kind}
use Rattle.jsx_tree.proofs.OneTree.Places.{no_hole}
use Rattle.jsx_tree.proofs.OneTree.Fine.{tame, tames, Tamed, of_sealed, of_member, of_open, tamed}
use Rattle.jsx_tree.proofs.OneTree.Evidence.{Tame}
use Rattle.jsx_tree.proofs.OneTree.Spines.{seq_is, taken_scope}
use Rattle.jsx_tree.proofs.OneTree.Endings.{after, past, no_end, block_end, stays, stays_after, stays_past, stays_ends, go_stays, stays_sign, found_first, settle, keeps, settle_append, settle_any, row_ends, gathered_ok, fixed_ok, walk_ok, no_flag, row_of_kind, sealed_settled, member_settled, saids_ok, each_said_ok}

abbrev pub is_tok : Sign → Bool
is_tok (Tok m s t) = true
is_tok s = false

tok_left : (a b : List Sign) → settle block_end false a ≡ true → keeps b ≡ true → settle block_end false (a ++ b) ≡ true
tok_left a b h g = settle_append block_end a b false ∙ (ap (λ c. settle block_end c b) h ∙ g)

tok_right : (a b : List Sign) → settle block_end false b ≡ true → settle block_end false (a ++ b) ≡ true
tok_right a b h = settle_append block_end a b false ∙ settle_any block_end b (settle block_end false a) h

-- ---- scans

stays_tok : (o : Ending → Bool) (m : Mode) (k : TokenKind) (t : Text) (x : Place) → IsTrue (is_found (forth (Tok m k t) x)) → stays o (forth (Tok m k t) x) ≡ true
stays_tok o m k t Lost f = cc
stays_tok o m k t (At q g text) f = go_stays o (is_token (token m (same q []) text) k t) _ refl f

pub after_tok : (m : Mode) (k : TokenKind) (t : Text) (x : Place) {y : Place} → forth (Tok m k t) x ≡ y → IsTrue (is_found y) → after y ≡ true
after_tok m k t x {y} e f = subst (λ z. after z ≡ true) e (stays_after (forth (Tok m k t) x) (stays_tok no_end m k t x (subst (λ z. IsTrue (is_found z)) (sym e) f)))

record Step (o : Ending → Bool) (m : Sign) (ms : List Sign) (x : Place) : Type 0 where
  flag : Bool
  kept_after : flag ≡ true → stays o (forth m x) ≡ true
  rest : settle o flag ms ≡ true

sign_step : (o : Ending → Bool) (m : Sign) (ms : List Sign) (x : Place) (b : Bool) → (b ≡ true → stays o x ≡ true) → settle o b (m ∷ ms) ≡ true → IsTrue (is_found (forth m x)) → Step o m ms x
sign_step o (Ends e) ms x b a h f = record { flag = o e; kept_after = λ q. stays_ends o e x q f; rest = h }
sign_step o (Tok m k t) ms x b a h f = record { flag = true; kept_after = λ q. stays_tok o m k t x f; rest = h }
sign_step o m ms x b a h f = record { flag = b; kept_after = λ q. stays_sign o m x refl (a q) f; rest = h }

pub settle_stays : (o : Ending → Bool) (ms : List Sign) (x : Place) (b : Bool) → (b ≡ true → stays o x ≡ true) → settle o b ms ≡ true → IsTrue (is_found (scan x ms)) → stays o (scan x ms) ≡ true
settle_stays o [] x b a h f = a h
settle_stays o (m ∷ ms) x b a h f =
    let p = sign_step o m ms x b a h (found_first ms (forth m x) f) in
    settle_stays o ms (forth m x) p.flag p.kept_after p.rest f

-- ---- each expression has a token

abbrev pub first_tok : Production → Bool
first_tok [] = false
first_tok (Fixed m ∷ ps) = is_tok m || first_tok ps
first_tok (Within a ∷ ps) = first_tok ps
first_tok (Part c ∷ ps) = no_hole c
first_tok (Many TwoOrMore c ∷ ps) = true
first_tok ps = false

all_first : every (λ k. first_tok (production k)) kinds ≡ true
all_first = refl

first_of_kind : (k : Kind) → (taken k || is_seq k) ≡ true → first_tok (production k) ≡ true
first_of_kind k h = by_taken (test (taken k))
  where
    by_taken : Test (taken k) → first_tok (production k) ≡ true
    by_taken (yes' t) = for_kind (λ k. first_tok (production k)) all_first k (taken_scope k t)
    by_taken (no' n) = ap (λ k. first_tok (production k)) (seq_is k (or_else (taken k) (is_seq k) h n))

pub leaf_tok : (o : Ending → Bool) (s : TokenKind) (t : Text) (c : Nonterminal) → no_hole c ≡ true → leaf_in c s t ≡ true → settle o false (leaf_signs s t) ≡ true
leaf_tok o Elision t c n h = absurd (never (in_homes c (literal_homes Elision)) h (not_is _ n))
leaf_tok o _ t c n h = refl

data Skipped (ps : Production) (b : Bool) (a : List Context) (cs : Forest) : Type 0 where
  skipped : (g : List Text) → fit_slots (slots g b a ps) cs ≡ true → Skipped ps b a cs

skip_sign : (m : Sign) (ps : Production) (g : List Text) (b : Bool) (a : List Context) (cs : Forest) → is_tok m ≡ false → fit_slots (slots g b a (Fixed m ∷ ps)) cs ≡ true → Skipped ps b a cs
skip_sign (Tok m k t) ps g b a cs n f = cc
skip_sign (Unless ts) ps g b a cs n f = skipped ts f
skip_sign _ ps g b a cs n f = skipped g f

tok_first : (m : Sign) (ms : List Sign) → is_tok m ≡ true → keeps ms ≡ true → settle block_end false (m ∷ ms) ≡ true
tok_first (Tok m k t) ms h g = g
tok_first _ ms h g = cc

other_first : (m : Sign) (ms : List Sign) → is_tok m ≡ false → keeps (m ∷ []) ≡ true → settle block_end false ms ≡ true → settle block_end false (m ∷ ms) ≡ true
other_first (Tok m k t) ms h n g = cc
other_first (Ends e) ms h n g = settle_any block_end ms (block_end e) g
other_first _ ms h n g = g

node_tok : (k : Kind) (cs : Forest) → Tamed k cs → fit_slots (positions k) cs ≡ true → ((taken k || is_seq k) ≡ true → tames cs ≡ true → settle block_end false (walk (production k) (saids cs)) ≡ true) → settle block_end false (joined (said (node k cs))) ≡ true
node_tok k cs (of_sealed s f) g rest = sealed_settled block_end false k cs s f
node_tok k cs (of_member s f m) g rest = member_settled block_end false k cs s f
node_tok k cs (of_blocked s f m) g rest = blocked_settled false k cs s f
node_tok k cs (of_open t m) g rest = rest t m

mutual
  said_tok : (t : Tree) (c : Nonterminal) → tame t ≡ true → no_hole c ≡ true → is c t ≡ true → settle block_end false (joined (said t)) ≡ true
  said_tok (leaf s t) c h n i = leaf_tok block_end s t c n (and_left (leaf_in c s t) _ i)
  said_tok (list ts) c h n i = cc
  said_tok (node k cs) c h n i =
      let f = and_right (admits c (node k cs)) (fits_below c (node k cs)) i in
      node_tok k cs (tamed k cs h) f (λ t m. row_tok (production k) cs [] false [] (first_of_kind k t) (row_of_kind k t) m f)

  row_tok : (ps : Production) (cs : Forest) (g : List Text) (b : Bool) (a : List Context) → first_tok ps ≡ true → row_ends ps ≡ true → tames cs ≡ true → fit_slots (slots g b a ps) cs ≡ true → settle block_end false (walk ps (saids cs)) ≡ true
  row_tok [] cs g b a o e h f = cc
  row_tok (Fixed m ∷ ps) cs g b a o e h f = by_tok (test (is_tok m)) (λ g' q o'. row_tok ps cs g' b a o' (fixed_ok m ps e).1 h q)
    where
      by_tok : Test (is_tok m) → ((g' : List Text) → fit_slots (slots g' b a ps) cs ≡ true → first_tok ps ≡ true → settle block_end false (walk ps (saids cs)) ≡ true) → settle block_end false (m ∷ walk ps (saids cs)) ≡ true
      by_tok (yes' t) rest = tok_first m (walk ps (saids cs)) t (walk_ok ps (saids cs) (fixed_ok m ps e).1 (saids_ok cs h))
      by_tok (no' t) rest = other_first m (walk ps (saids cs)) t (fixed_ok m ps e).0 (by_skipped (skip_sign m ps g b a cs t f))
        where
          by_skipped : Skipped ps b a cs → settle block_end false (walk ps (saids cs)) ≡ true
          by_skipped (skipped g' q) = rest g' q (or_else (is_tok m) (first_tok ps) o t)
  row_tok (Within d ∷ ps) cs g b a o e h f = row_tok ps cs g b (d ∷ a) o e h f
  row_tok (Part c ∷ ps) none g b a o e h f = cc
  row_tok (Part c ∷ ps) (part t ts) g b a o e h f =
      let r = and_right (admits c t) _ f in
      tok_left (joined (said t)) (walk ps (saids ts)) (said_tok t c (and_left (tame t) (tames ts) h) o (and_both (admits c t) (fits_below c t) (and_left (admits c t) _ f) (and_left (fits_below c t) _ r)))
      (walk_ok ps (saids ts) e (saids_ok ts (and_right (tame t) (tames ts) h)))
  row_tok (Many TwoOrMore c ∷ ps) none g b a o e h f = cc
  row_tok (Many TwoOrMore c ∷ ps) (part (leaf s t) ts) g b a o e h f = cc
  row_tok (Many TwoOrMore c ∷ ps) (part (node k cs) ts) g b a o e h f = cc
  row_tok (Many TwoOrMore c ∷ ps) (part (list none) ts) g b a o e h f = cc
  row_tok (Many TwoOrMore c ∷ ps) (part (list (part u none)) ts) g b a o e h f = cc
  row_tok (Many TwoOrMore c ∷ ps) (part (list (part u (part v us))) ts) g b a o e h f =
      let l = each_said_ok (part u (part v us)) (and_left (tames (part u (part v us))) (tames ts) h) in
      tok_left (gathered TwoOrMore (joined (said u) ∷ joined (said v) ∷ each_said us)) (walk ps (saids ts))
      (tok_right (joined (said u)) (pun "," ∷ Space ∷ gathered TwoOrMore (joined (said v) ∷ each_said us)) (gathered_ok TwoOrMore (joined (said v) ∷ each_said us) refl (and_right (keeps (joined (said u))) _ l)))
      (walk_ok ps (saids ts) e (saids_ok ts (and_right (tames (part u (part v us))) (tames ts) h)))
  row_tok _ cs g b a o e h f = cc

-- behind an expression
pub after_tree : (t : Tree) (c : Nonterminal) {v : Surroundings} {x y : Place} → Tame t → no_hole c ≡ true → IsRead v false c x t y → past y ≡ true
after_tree t c {v} {x} {y} h n r =
    subst (λ z. past z ≡ true) r.scans (stays_past (scan x (spelled t)) (settle_stays block_end (spelled t) x false no_flag (said_tok t c h.tame' n r.is) (subst (λ z. IsTrue (is_found z)) (sym r.scans) r.found)))
