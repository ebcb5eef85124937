-- One part of a row: where two trees of one place end as the row asks, they are one.
use Rattle.jsx_tree.specs.Kinds.{Arrow, ArrowBlock, BareArrowBlock, expression}
use Rattle.jsx_tree.proofs.OneTree.Spines.{blockless, blocked_home}
use Rattle.jsx_tree.proofs.OneTree.Known.{is_blocked}
use Rattle.jsx_tree.proofs.OneTree.Kept.{Which, a_statement, a_taken, a_blocked, a_jsx, a_seq, which}
use Rattle.jsx_tree.proofs.OneTree.Tags.{jsx_kinds, for_jsx, tagless, no_jsx, no_tag_leaves, no_jsx_leaf}
use Rattle.jsx_tree.proofs.OneTree.Known.{stated, taken, is_seq, known, plain_leaf, is_piece, is_regexp, jsx_leaf, kept, kepts}
use Rattle.std.proofs.Common.{subst}
use Rattle.std.proofs.Common.{◌≡◌, ℕ, ◌≤◌, Bool, true, false, not, cond, List, [], ◌∷◌, refl, sym, ◌∙◌, ap}
use Rattle.std.specs.Prelude.{IsTrue, ◌&&◌, ◌||◌, nat_eq, nat_le, codes}
use Rattle.jsx_base.specs.Token.{Text, Operator, TokenKind, IdentifierName, StringLiteral, Punctuator, kind_number, same}
use Rattle.jsx_tree.specs.Signs.{Tok, One}
use Rattle.jsx_tree.specs.Kinds.{InObject, Method, Getter, Setter, Kind, function, Tree, leaf, node, list, Forest, none, part}
use Rattle.jsx_tree.specs.Nonterminals.{Nonterminal, Expr, Ident, BindingIdent, Name, StringOnly, ImportClause, homes, in_homes, leaf_in}
use Rattle.jsx_tree.specs.Form.{Form, Single, Maybe, Several, Position, position, positions, shaped, admits, is, fits_below, fit_slots, fit_each}
use Rattle.jsx_tree.specs.StaticRules.{Surroundings}
use Rattle.jsx_tree.specs.Spelling.{spelled}
use Rattle.jsx_tree.specs.Reading.{Place, Lost, At, forth, scan, is_backquote}
use Rattle.jsx_tree.proofs.Tokens.{and_left, and_right, and_both}
use Rattle.jsx_tree.specs.Walk.{is_found, IsRead}
use Rattle.jsx_tree.proofs.OneTree.Table.{kinds}
use Rattle.jsx_tree.proofs.OneTree.Statements.{stated_kinds}
use Rattle.jsx_tree.proofs.OneTree.Readings.{is_block, block_reach, ahead, calm, Entry, entry, entries, lookup, is_step, kind_at, text_at, broken}
use Rattle.jsx_tree.proofs.OneTree.Checks.{every, starts}
use Rattle.jsx_tree.proofs.OneTree.Facts.{never, or_else, not_is, Test, yes', no', test, kind_is, Seen, took, for_kind}
use Rattle.jsx_tree.proofs.OneTree.Places.{no_hole}
use Rattle.jsx_tree.proofs.OneTree.Starting.{begins}
use Rattle.jsx_tree.proofs.OneTree.Growths.{split}
use Rattle.jsx_tree.proofs.OneTree.Pairs.{ends}
use Rattle.jsx_tree.proofs.OneTree.Agreeing.{passes, one_whole}
use Rattle.jsx_tree.proofs.OneTree.Fine.{tame, first_tame, tames}
use Rattle.jsx_tree.proofs.OneTree.Spines.{home_of, seq_is, taken_scope}
use Rattle.jsx_tree.proofs.OneTree.Placed.{Placed, tree_reads, hole_free, whole_reads}
use Rattle.jsx_tree.proofs.OneTree.Chains.{fine}
use Rattle.jsx_tree.proofs.OneTree.Sealed.{is_sealed, is_member}
use Rattle.jsx_tree.proofs.OneTree.Evidence.{Kept, kept_kind, Tame}
use Rattle.jsx_tree.proofs.OneTree.Turn.{tree_same}
use Rattle.jsx_tree.proofs.OneTree.Statements.{for_stated}
use Rattle.jsx_tree.proofs.OneTree.Endings.{whole_begins}

-- ---- no statement stands in an expression but in what is sealed

abbrev pub bare : Nonterminal → Bool
bare c = every (λ l. not (in_homes c (homes l))) stated_kinds && (blockless c && tagless c)

abbrev pub clean : Nonterminal → Bool
clean c = every (λ l. (is_sealed l || is_member l) || not (in_homes c (homes l))) stated_kinds && (every (λ l. is_sealed l || not (in_homes c (homes l))) jsx_kinds && no_tag_leaves c)

abbrev pub clean_slots : List Position → Bool
clean_slots [] = true
clean_slots (position f c g b a ∷ ss) = clean c && clean_slots ss

all_clean : every (λ k. clean_slots (positions k)) kinds ≡ true
all_clean = refl

clean_kind : (k : Kind) → (taken k || is_seq k) ≡ true → clean_slots (positions k) ≡ true
clean_kind k h = by_taken (test (taken k))
  where
    by_taken : Test (taken k) → clean_slots (positions k) ≡ true
    by_taken (yes' t) = for_kind (λ k. clean_slots (positions k)) all_clean k (taken_scope k t)
    by_taken (no' n) = ap (λ k. clean_slots (positions k)) (seq_is k (or_else (taken k) (is_seq k) h n))

pub stated_home : (c : Nonterminal) (k : Kind) → bare c ≡ true → stated k ≡ true → in_homes c (homes k) ≡ true → ⊥
stated_home c k h s i = never (in_homes c (homes k)) i (not_is _ (for_stated (λ l. not (in_homes c (homes l))) (and_left (every (λ l. not (in_homes c (homes l))) stated_kinds) _ h) k s))

or_left : (a b : Bool) → a ≡ true → (a || b) ≡ true
or_left true b h = refl
or_left false b h = cc

bare_known : (c : Nonterminal) (k : Kind) (cs : Forest) → bare c ≡ true → known k ≡ true → admits c (node k cs) ≡ true → (taken k || is_seq k) ≡ true
bare_known c k cs h s i = by_taken (test (taken k || is_seq k))
  where
    by_taken : Test (taken k || is_seq k) → (taken k || is_seq k) ≡ true
    by_taken (yes' t) = t
    by_taken (no' n) = absurd (by_which (which k s))
      where
        rest : (blockless c && tagless c) ≡ true
        rest = and_right (every (λ l. not (in_homes c (homes l))) stated_kinds) _ h

        by_which : Which k → ⊥
        by_which (a_statement t) = stated_home c k h t (home_of c k cs i)
        by_which (a_blocked b) = never (in_homes c (homes (expression Arrow))) (blocked_home c k b (home_of c k cs i)) (not_is _ (and_left (blockless c) _ rest))
        by_which (a_jsx j) = no_jsx c k j (and_right (blockless c) _ rest) (home_of c k cs i)
        by_which (a_taken t) = never (taken k || is_seq k) (or_left (taken k) (is_seq k) t) n
        by_which (a_seq e) = never (taken k || is_seq k) (ap (λ k. taken k || is_seq k) e) n

-- what a kind is at such a place
data Fair (k : Kind) : Type 0 where
  is_open : (taken k || is_seq k) ≡ true → Fair k
  is_shut : is_sealed k ≡ true → Fair k
  is_keyed : is_member k ≡ true → Fair k
  is_arrowed : is_blocked k ≡ true → Fair k

fair : (c : Nonterminal) (k : Kind) (cs : Forest) → clean c ≡ true → known k ≡ true → admits c (node k cs) ≡ true → Fair k
fair c k cs h s i = by_taken (test (taken k || is_seq k)) (test (is_sealed k)) (test (is_member k))
  where
    or_false : (a b : Bool) → a ≡ false → b ≡ false → (a || b) ≡ false
    or_false true b p q = absurd (never true refl p)
    or_false false b p q = q

    by_taken : Test (taken k || is_seq k) → Test (is_sealed k) → Test (is_member k) → Fair k
    by_taken (yes' t) q m = is_open t
    by_taken (no' n) (yes' q) m = is_shut q
    by_taken (no' n) (no' q) (yes' m) = is_keyed m
    by_taken (no' n) (no' q) (no' m) = by_which (which k s)
      where
        by_which : Which k → Fair k
        by_which (a_blocked b) = is_arrowed b
        by_which (a_taken t) = is_open (or_left (taken k) (is_seq k) t)
        by_which (a_seq e) = is_open (ap (λ k. taken k || is_seq k) e)
        by_which (a_statement t) =
            let g = for_stated (λ l. (is_sealed l || is_member l) || not (in_homes c (homes l))) (and_left (every (λ l. (is_sealed l || is_member l) || not (in_homes c (homes l))) stated_kinds) _ h) k t in
            absurd (never (in_homes c (homes k)) (home_of c k cs i) (not_is _ (or_else (is_sealed k || is_member k) (not (in_homes c (homes k))) g (or_false (is_sealed k) (is_member k) q m))))
        by_which (a_jsx j) =
            let r = and_right (every (λ l. (is_sealed l || is_member l) || not (in_homes c (homes l))) stated_kinds) _ h in
            let g = for_jsx (λ l. is_sealed l || not (in_homes c (homes l))) (and_left (every (λ l. is_sealed l || not (in_homes c (homes l))) jsx_kinds) _ r) k j in
            absurd (never (in_homes c (homes k)) (home_of c k cs i) (not_is _ (or_else (is_sealed k) (not (in_homes c (homes k))) g q)))

or_right : (a b : Bool) → b ≡ true → (a || b) ≡ true
or_right true b h = refl
or_right false b h = h

abbrev clean_first : List Position → Bool
clean_first [] = false
clean_first (position f c g b a ∷ ss) = clean c

-- a method begins with its key
keyed_clean : (k : Kind) → is_member k ≡ true → clean_first (positions k) ≡ true
keyed_clean (function (Method InObject)) h = refl
keyed_clean (function (Getter InObject)) h = refl
keyed_clean (function (Setter InObject)) h = refl
keyed_clean (function (Method _)) h = cc
keyed_clean (function (Getter _)) h = cc
keyed_clean (function (Setter _)) h = cc
keyed_clean (function _) h = cc
keyed_clean _ h = cc

blocked_clean : (k : Kind) → is_blocked k ≡ true → clean_first (positions k) ≡ true
blocked_clean (expression ArrowBlock) h = refl
blocked_clean (expression BareArrowBlock) h = refl
blocked_clean (expression _) h = cc
blocked_clean _ h = cc

node_tame : (k : Kind) (cs : Forest) → Fair k → fit_slots (positions k) cs ≡ true → ((taken k || is_seq k) ≡ true → tames cs ≡ true) → (clean_first (positions k) ≡ true → first_tame cs ≡ true) → tame (node k cs) ≡ true
node_tame k cs (is_shut s) f rest first = or_left (is_sealed k && fit_slots (positions k) cs) _ (and_both (is_sealed k) (fit_slots (positions k) cs) s f)
node_tame k cs (is_keyed s) f rest first =
    or_right (is_sealed k && fit_slots (positions k) cs) _ (or_left (is_member k && (fit_slots (positions k) cs && first_tame cs)) _ (and_both (is_member k) _ s (and_both (fit_slots (positions k) cs) (first_tame cs) f (first (keyed_clean k s)))))
node_tame k cs (is_arrowed s) f rest first =
    or_right (is_sealed k && fit_slots (positions k) cs) _ (or_right (is_member k && (fit_slots (positions k) cs && first_tame cs)) _ (or_left (is_blocked k && (fit_slots (positions k) cs && first_tame cs)) _ (and_both (is_blocked k) _ s (and_both (fit_slots (positions k) cs) (first_tame cs) f (first (blocked_clean k s))))))
node_tame k cs (is_open t) f rest first =
    or_right (is_sealed k && fit_slots (positions k) cs) _ (or_right (is_member k && (fit_slots (positions k) cs && first_tame cs)) ((is_blocked k && (fit_slots (positions k) cs && first_tame cs)) || ((taken k || is_seq k) && tames cs)) (or_right (is_blocked k && (fit_slots (positions k) cs && first_tame cs)) ((taken k || is_seq k) && tames cs) (and_both (taken k || is_seq k) (tames cs) t (rest t))))

pub node_admits : (o : Form) (c : Nonterminal) (k : Kind) (cs : Forest) → shaped o c (node k cs) ≡ true → admits c (node k cs) ≡ true
node_admits Single c k cs h = h
node_admits Maybe c k cs h = cc
node_admits (Several s) c k cs h = cc

leaf_admits : (o : Form) (c : Nonterminal) (s : TokenKind) (t : Text) → shaped o c (leaf s t) ≡ true → leaf_in c s t ≡ true
leaf_admits Single c s t h = h
leaf_admits Maybe c s t h = cc
leaf_admits (Several l) c s t h = cc

leaf_tame : (s : TokenKind) (t : Text) (o : Form) (c : Nonterminal) → clean c ≡ true → kept (leaf s t) ≡ true → shaped o c (leaf s t) ≡ true → tame (leaf s t) ≡ true
leaf_tame s t o c h k a = by_plain (test (plain_leaf s || (is_piece s || is_regexp s)))
  where
    free : no_tag_leaves c ≡ true
    free = and_right (every (λ l. is_sealed l || not (in_homes c (homes l))) jsx_kinds) _ (and_right (every (λ l. (is_sealed l || is_member l) || not (in_homes c (homes l))) stated_kinds) _ h)

    by_plain : Test (plain_leaf s || (is_piece s || is_regexp s)) → (plain_leaf s || (is_piece s || is_regexp s)) ≡ true
    by_plain (yes' p) = p
    by_plain (no' p) = absurd (no_jsx_leaf c s t (or_else (plain_leaf s || (is_piece s || is_regexp s)) (jsx_leaf s) k p) free (leaf_admits o c s t a))

mutual
  tame_at : (t : Tree) (o : Form) (c : Nonterminal) → clean c ≡ true → kept t ≡ true → shaped o c t ≡ true → fits_below c t ≡ true → tame t ≡ true
  tame_at (leaf s t) o c h k a f = leaf_tame s t o c h k a
  tame_at (list ts) o c h k a f = tame_each ts c h k f
  tame_at (node k cs) o c h g a f =
      node_tame k cs (fair c k cs h (and_left (known k) (kepts cs) g) (node_admits o c k cs a)) f (λ q. tame_slots cs (positions k) (clean_kind k q) (and_right (known k) (kepts cs) g) f) (λ q. tame_first cs (positions k) q (and_right (known k) (kepts cs) g) f)

  tame_first : (ts : Forest) (ss : List Position) → clean_first ss ≡ true → kepts ts ≡ true → fit_slots ss ts ≡ true → first_tame ts ≡ true
  tame_first none [] h k f = cc
  tame_first none (s ∷ ss) h k f = cc
  tame_first (part t ts) [] h k f = cc
  tame_first (part t ts) (position o c g b a ∷ ss) h k f =
      tame_at t o c h (and_left (kept t) (kepts ts) k) (and_left (shaped o c t) _ f) (and_left (fits_below c t) _ (and_right (shaped o c t) _ f))

  tame_slots : (ts : Forest) (ss : List Position) → clean_slots ss ≡ true → kepts ts ≡ true → fit_slots ss ts ≡ true → tames ts ≡ true
  tame_slots none ss h k f = refl
  tame_slots (part t ts) [] h k f = cc
  tame_slots (part t ts) (position o c g b a ∷ ss) h k f =
      let r = and_right (shaped o c t) _ f in
      and_both (tame t) (tames ts) (tame_at t o c (and_left (clean c) (clean_slots ss) h) (and_left (kept t) (kepts ts) k) (and_left (shaped o c t) _ f) (and_left (fits_below c t) _ r))
      (tame_slots ts ss (and_right (clean c) (clean_slots ss) h) (and_right (kept t) (kepts ts) k) (and_right (fits_below c t) (fit_slots ss ts) r))

  tame_each : (ts : Forest) (c : Nonterminal) → clean c ≡ true → kepts ts ≡ true → fit_each c ts ≡ true → tames ts ≡ true
  tame_each none c h k f = refl
  tame_each (part t ts) c h k f =
      let r = and_right (admits c t) _ f in
      and_both (tame t) (tames ts) (tame_at t Single c h (and_left (kept t) (kepts ts) k) (and_left (admits c t) _ f) (and_left (fits_below c t) _ r)) (tame_each ts c h (and_right (kept t) (kepts ts) k) (and_right (fits_below c t) (fit_each c ts) r))

pub tame_of : (t : Tree) (c : Nonterminal) → clean c ≡ true → Kept t → is c t ≡ true → Tame t
tame_of t c h k i = record { tame' = tame_at t Single c h k.good (and_left (admits c t) (fits_below c t) i) (and_right (admits c t) (fits_below c t) i); kept' = k }

-- ---- every token goes on with level 18 at most

abbrev small : List Entry → Bool
small [] = true
small (entry t n ∷ es) = nat_le n 19 && small es

lookup_small : (t : Text) (es : List Entry) → small es ≡ true → nat_le (lookup t es) 19 ≡ true
lookup_small t [] h = refl
lookup_small t (entry u n ∷ es) h = by_same (test (same t u)) (lookup_small t es (and_right (nat_le n 19) (small es) h))
  where
    by_same : Test (same t u) → nat_le (lookup t es) 19 ≡ true → nat_le (cond (same t u) n (lookup t es)) 19 ≡ true
    by_same (yes' e) r = (λ i. nat_le (cond (e i) n (lookup t es)) 19) ∙ and_left (nat_le n 19) (small es) h
    by_same (no' e) r = (λ i. nat_le (cond (e i) n (lookup t es)) 19) ∙ r

small_cond : (b : Bool) (n m : ℕ) → nat_le n 19 ≡ true → nat_le m 19 ≡ true → nat_le (cond b n m) 19 ≡ true
small_cond true n m h g = h
small_cond false n m h g = g

pub calm_most : (x : Place) → calm 19 x ≡ true
calm_most x =
    let steps = cond {A = ℕ} (broken x) 0 17 in
    let marks = cond {A = ℕ} (is_step (text_at x)) steps (lookup (text_at x) entries) in
    let is_mark = nat_eq (kind_at x) (kind_number Punctuator) || nat_eq (kind_at x) (kind_number IdentifierName) in
    small_cond (is_block x) (block_reach (kind_at x) (text_at x)) (ahead x) (small_cond (nat_eq (kind_at x) 1 && same (text_at x) (codes ",")) 1 0 refl refl)
    (small_cond (is_backquote (text_at x)) 19 (cond is_mark marks 0) refl (small_cond is_mark marks 0 (small_cond (is_step (text_at x)) steps (lookup (text_at x) entries) (small_cond (broken x) 0 17 refl refl) (lookup_small (text_at x) entries refl)) refl))

-- ---- expressions

pub record SameAt (t u : Tree) (y z : Place) : Type 0 where
  pub tree : t ≡ u
  pub place : y ≡ z

pub expr_same : (n m : ℕ) (c : Nonterminal) {v w : Surroundings} {x y z : Place} (t u : Tree) → m ≤ n → Placed n m c → no_hole c ≡ true → Tame t → Tame u
    → IsRead v false c x t y → IsRead w false c x u z → calm m y ≡ true → calm m z ≡ true → SameAt t u y z
expr_same n m c t u le p h i j r s cy cz =
    let a = tree_reads n m c (fine t i) i.tame' (hole_free t c h r) r p cy in
    let b = tree_reads n m c (fine u j) j.tame' (hole_free u c h s) s p cz in
    let o = ends (passes a le (split b le) cz) cy in
    record { tree = tree_same t u c i.kept'.good j.kept'.good r.is s.is o.tree; place = o.place }

pub whole_same : {v w : Surroundings} {x y z : Place} (t u : Tree) → Tame t → Tame u → IsRead v false (Expr 0) x t y → IsRead w false (Expr 0) x u z → calm 0 y ≡ true → calm 0 z ≡ true → SameAt t u y z
whole_same t u i j r s cy cz =
    let o = one_whole (whole_reads t (fine t i) i.tame' r cy) (whole_reads u (fine u j) j.tame' s cz) in
    record { tree = tree_same t u (Expr 0) i.kept'.good j.kept'.good r.is s.is o.tree; place = o.place }

pub whole_starts : {v : Surroundings} {x y : Place} (t : Tree) → Tame t → IsRead v false (Expr 0) x t y → calm 0 y ≡ true → starts (kind_at x) (text_at x) ≡ true
whole_starts t i r c = whole_begins (whole_reads t (fine t i) i.tame' r c)

pub expr_starts : (n m : ℕ) (c : Nonterminal) {v : Surroundings} {x y : Place} (t : Tree) → Placed n m c → no_hole c ≡ true → Tame t → IsRead v false c x t y → calm m y ≡ true → starts (kind_at x) (text_at x) ≡ true
expr_starts n m c t p h i r cy = begins (tree_reads n m c (fine t i) i.tame' (hole_free t c h r) r p cy)

-- ---- words

abbrev pub wordy : Nonterminal → Bool
wordy Ident = true
wordy BindingIdent = true
wordy Name = true
wordy StringOnly = true
wordy c = false

pub record Word (x : Place) (t : Tree) (y : Place) : Type 0 where
  pub kind : TokenKind
  pub text : Text
  pub is_leaf : t ≡ leaf kind text
  pub moves : forth (Tok Operator kind text) x ≡ y
  pub found : IsTrue (is_found y)

one_sign : (x : Place) → forth One x ≡ x
one_sign Lost = refl
one_sign (At q e text) = refl

word_leaf : (c : Nonterminal) (s : TokenKind) (t : Text) → wordy c ≡ true → leaf_in c s t ≡ true → spelled (leaf s t) ≡ One ∷ Tok Operator s t ∷ []
word_leaf c IdentifierName t w h = refl
word_leaf c StringLiteral t w h = refl
word_leaf Ident _ t w h = cc
word_leaf BindingIdent _ t w h = cc
word_leaf Name _ t w h = cc
word_leaf StringOnly _ t w h = cc
word_leaf _ _ t w h = cc

no_word_kinds : every (λ k. not (in_homes Ident (homes k)) && (not (in_homes BindingIdent (homes k)) && (not (in_homes Name (homes k)) && not (in_homes StringOnly (homes k))))) kinds ≡ true
no_word_kinds = refl

pub word_node : (c : Nonterminal) (k : Kind) → wordy c ≡ true → (taken k || is_seq k) ≡ true → in_homes c (homes k) ≡ true → ⊥
word_node c k w s i = by_taken (test (taken k))
  where
    by_place : (c : Nonterminal) → wordy c ≡ true → in_homes c (homes k) ≡ true
        → (not (in_homes Ident (homes k)) && (not (in_homes BindingIdent (homes k)) && (not (in_homes Name (homes k)) && not (in_homes StringOnly (homes k))))) ≡ true → ⊥
    by_place Ident w i h = never _ i (not_is _ (and_left (not (in_homes Ident (homes k))) _ h))
    by_place BindingIdent w i h = never _ i (not_is _ (and_left (not (in_homes BindingIdent (homes k))) _ (and_right (not (in_homes Ident (homes k))) _ h)))
    by_place Name w i h = never _ i (not_is _ (and_left (not (in_homes Name (homes k))) _ (and_right (not (in_homes BindingIdent (homes k))) _ (and_right (not (in_homes Ident (homes k))) _ h))))
    by_place StringOnly w i h = never _ i (not_is _ (and_right (not (in_homes Name (homes k))) _ (and_right (not (in_homes BindingIdent (homes k))) _ (and_right (not (in_homes Ident (homes k))) _ h))))
    by_place _ w i h = cc

    by_taken : Test (taken k) → ⊥
    by_taken (yes' t) = by_place c w i (for_kind (λ k. not (in_homes Ident (homes k)) && (not (in_homes BindingIdent (homes k)) && (not (in_homes Name (homes k)) && not (in_homes StringOnly (homes k))))) no_word_kinds k (taken_scope k t))
    by_taken (no' n) = by_place c w i (ap (λ k. not (in_homes Ident (homes k)) && (not (in_homes BindingIdent (homes k)) && (not (in_homes Name (homes k)) && not (in_homes StringOnly (homes k))))) (seq_is k (or_else (taken k) (is_seq k) s n)))

word_bare : (c : Nonterminal) → wordy c ≡ true → bare c ≡ true
word_bare Ident w = refl
word_bare BindingIdent w = refl
word_bare Name w = refl
word_bare StringOnly w = refl
word_bare _ w = cc

pub word_read : (c : Nonterminal) {v : Surroundings} {x y : Place} (t : Tree) → wordy c ≡ true → Kept t → IsRead v false c x t y → Word x t y
word_read c {x = x} (leaf s t) w k r =
    record { kind = s; text = t; is_leaf = refl; moves = ap (forth (Tok Operator s t)) (sym (one_sign x)) ∙ (ap (scan x) (sym (word_leaf c s t w (and_left (leaf_in c s t) _ r.is))) ∙ r.scans); found = r.found }
word_read c (list ts) w k r = let bad = r.is in cc
word_read c (node k cs) w h r =
    let i = and_left (admits c (node k cs)) (fits_below c (node k cs)) r.is in
    absurd (word_node c k w (bare_known c k cs (word_bare c w) (kept_kind h) i) (home_of c k cs i))

pub word_same : {x y z : Place} {t u : Tree} → Word x t y → Word x u z → SameAt t u y z
word_same {x} a b =
    let s : Seen x a.kind a.text = took a.kind a.text x a.moves a.found in
    let r : Seen x b.kind b.text = took b.kind b.text x b.moves b.found in
    let k = kind_is a.kind b.kind (sym s.kind ∙ r.kind) in
    let e = sym s.text ∙ r.text in
    record { tree = a.is_leaf ∙ ((λ i. leaf (k i) (e i)) ∙ sym b.is_leaf); place = sym a.moves ∙ ((λ i. forth (Tok Operator (k i) (e i)) x) ∙ b.moves) }

-- a name alone as what is imported
clause_leaf : (s : TokenKind) (t : Text) → leaf_in ImportClause s t ≡ true → s ≡ IdentifierName
clause_leaf IdentifierName t h = refl
clause_leaf _ t h = cc

pub record Named (x : Place) (t : Tree) (y : Place) : Type 0 where
  pub word : Word x t y
  pub is_name : word.kind ≡ IdentifierName

pub clause_read : {v : Surroundings} {x y : Place} (s : TokenKind) (t : Text) → IsRead v false ImportClause x (leaf s t) y → Named x (leaf s t) y
clause_read {v} {x} {y} s t r =
    let e = clause_leaf s t (and_left (leaf_in ImportClause s t) _ r.is) in
    let q : IsRead v false ImportClause x (leaf IdentifierName t) y = subst (λ s. IsRead v false ImportClause x (leaf s t) y) e r in
    record { word = record { kind = IdentifierName; text = t; is_leaf = (λ i. leaf (e i) t); moves = ap (forth (Tok Operator IdentifierName t)) (sym (one_sign x)) ∙ q.scans; found = r.found }; is_name = refl }
