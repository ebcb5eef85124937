-- Two trees at one place that are the same up to patterns and literals are one tree.
use Rattle.jsx_tree.proofs.OneTree.Known.{is_blocked, is_jsx}
use Rattle.jsx_tree.proofs.OneTree.Spines.{blocked_home}
use Rattle.jsx_tree.proofs.OneTree.Kept.{a_blocked, a_jsx}
use Rattle.jsx_tree.proofs.OneTree.Tags.{jsx_kinds, for_jsx, two_jsx, no_jsx}
use Rattle.jsx_tree.specs.Kinds.{BareArrowBlock}
use Rattle.jsx_tree.proofs.OneTree.Known.{stated, known, kept, kepts}
use Rattle.std.proofs.Common.{◌≡◌, ℕ, ◌≤◌, Bool, true, false, not, List, [], ◌∷◌, refl, sym, ◌∙◌, ap, subst, arith}
use Rattle.std.specs.Prelude.{◌&&◌, ◌||◌, nat_eq, nat_le}
use Rattle.jsx_base.specs.Token.{Text, TokenKind}
use Rattle.jsx_tree.specs.Kinds.{Seq, Arrow, ArrowBlock, BareArrow, Spread, Parenthesized, ParenTarget, Kind, function, expression, Tree, leaf, node, list, Forest, none, part}
use Rattle.jsx_tree.specs.Nonterminals.{Nonterminal, Expr, SimpleTarget, BindingIdent, NullishLeft, NullishOnly, NewCallee, DotObject, MemberObject, ForOfHead, ForHead, number, floor, takes, in_list, homes, in_homes}
use Rattle.std.proofs.lemmas.Bool.{eq-eqb, le-leb}
use Rattle.jsx_tree.specs.Grammar.{TwoOrMore}
use Rattle.jsx_tree.specs.Form.{Form, Single, Maybe, Several, Position, position, positions, shaped, admits, is, fits_below, fit_slots, fit_each}
use Rattle.jsx_tree.proofs.Tokens.{and_left, and_right, and_both}
use Rattle.jsx_tree.proofs.OneTree.Table.{code, position as index, scope, kinds, nth}
use Rattle.jsx_tree.proofs.OneTree.Readings.{Flat, Flats, one, some, row_of, nil, cons, unseq, paren_of, in_parens, arrow_of, is_arrow, made, flat, flats}
use Rattle.jsx_tree.proofs.OneTree.Table.{listed}
use Rattle.jsx_tree.proofs.OneTree.Checks.{every}
use Rattle.jsx_tree.proofs.OneTree.Facts.{never, or_else, not_is, Test, yes', no', test, eq_nat, le_nat, for_kind}
use Rattle.jsx_tree.proofs.OneTree.Growths.{made_plain, made_paren, made_arrow, unseq_some, unseq_made}
use Rattle.jsx_tree.proofs.OneTree.Statements.{place, stated_kinds, stated_nth, for_stated}
use Rattle.jsx_tree.proofs.OneTree.Statements as S
use Rattle.jsx_tree.proofs.OneTree.Kept.{Which, a_statement, a_taken, a_seq, which}
use Rattle.jsx_tree.proofs.OneTree.Spines.{home_of}

-- ---- homes that no place takes both of

abbrev pub has_number : ℕ → List Nonterminal → Bool
has_number n [] = false
has_number n (c ∷ cs) = nat_eq n (number c) || has_number n cs

abbrev pub far : List Nonterminal → List Nonterminal → Bool
far [] ds = true
far (c ∷ cs) ds = not (has_number (number c) ds) && far cs ds

abbrev pub lone : List Nonterminal → Bool
lone cs = not (has_number 0 cs) && not (has_number 57 cs)

abbrev pub is_bare_arrow : Kind → Bool
is_bare_arrow (expression BareArrow) = true
is_bare_arrow k = false

abbrev pub told : Kind → Kind → Bool
told k l =
    not (nat_eq (code k) (code l)) || (nat_eq (index k) (index l) || ((is_arrow k && is_bare_arrow l) || ((is_bare_arrow k && is_arrow l)
    || (far (homes k) (homes l) && (lone (homes k) || lone (homes l))))))

all_told : every (λ k. every (told k) kinds) kinds ≡ true
all_told = refl

no_seq_code : every (λ k. not (nat_eq (code k) 19)) kinds ≡ true
no_seq_code = refl

no_names' : every (λ l. not (in_homes BindingIdent (homes l))) kinds ≡ true
no_names' = refl

not_equal : (n m : ℕ) → (n ≡ m → ⊥) → nat_eq n m ≡ false
not_equal n m h = by_case (test (nat_eq n m))
  where
    by_case : Test (nat_eq n m) → nat_eq n m ≡ false
    by_case (yes' e) = absurd (h (eq_nat e))
    by_case (no' e) = e

-- ---- the kinds of statements have numbers of their own

abbrev pub stated_code : Kind → Bool
stated_code k = not (nat_eq (code k) 0) && (not (nat_eq (code k) 3) && (not (nat_eq (code k) 19) && (not (is_arrow k) && not (in_homes BindingIdent (homes k)))))

stated_codes : every stated_code stated_kinds ≡ true
stated_codes = refl

abbrev pub stated_pair : Kind → Kind → Bool
stated_pair k l = not (nat_eq (code k) (code l)) || nat_eq (place k) (place l)

stated_pairs : every (λ k. every (stated_pair k) stated_kinds) stated_kinds ≡ true
stated_pairs = refl

mixed_pairs : every (λ k. every (λ l. not (nat_eq (code k) (code l))) kinds) stated_kinds ≡ true
mixed_pairs = refl

record StatedFacts (k : Kind) : Type 0 where
  no_zero : nat_eq (code k) 0 ≡ false
  no_paren : nat_eq (code k) 3 ≡ false
  no_row : nat_eq (code k) 19 ≡ false
  no_arrow : is_arrow k ≡ false
  no_name : in_homes BindingIdent (homes k) ≡ false

stated_facts : (k : Kind) → stated k ≡ true → StatedFacts k
stated_facts k s =
    let h = for_stated stated_code stated_codes k s in
    let h1 = and_right (not (nat_eq (code k) 0)) _ h in
    let h2 = and_right (not (nat_eq (code k) 3)) _ h1 in
    let h3 = and_right (not (nat_eq (code k) 19)) _ h2 in
    record {
      no_zero = not_is _ (and_left (not (nat_eq (code k) 0)) _ h);
      no_paren = not_is _ (and_left (not (nat_eq (code k) 3)) _ h1);
      no_row = not_is _ (and_left (not (nat_eq (code k) 19)) _ h2);
      no_arrow = not_is _ (and_left (not (is_arrow k)) _ h3);
      no_name = not_is _ (and_right (not (is_arrow k)) _ h3);
    }

two_stated : (k l : Kind) → stated k ≡ true → stated l ≡ true → code k ≡ code l → k ≡ l
two_stated k l s t e =
    let p = or_else (not (nat_eq (code k) (code l))) _ (for_stated (stated_pair k) (for_stated (λ k. every (stated_pair k) stated_kinds) stated_pairs k s) l t) (ap not (eq-eqb (code k) (code l) e)) in
    sym (stated_nth k s) ∙ (ap (S.nth stated_kinds) (eq_nat {a = place k} {b = place l} p) ∙ stated_nth l t)

stated_taken : (k l : Kind) → stated k ≡ true → scope l ≡ true → code k ≡ code l → ⊥
stated_taken k l s t e = never (nat_eq (code k) (code l)) (eq-eqb (code k) (code l) e) (not_is _ (for_kind (λ l. not (nat_eq (code k) (code l))) (for_stated (λ k. every (λ l. not (nat_eq (code k) (code l))) kinds) mixed_pairs k s) l t))

stated_seq : (k : Kind) → stated k ≡ true → code k ≡ 19 → ⊥
stated_seq k s e = never (nat_eq (code k) 19) (eq-eqb (code k) 19 e) ((stated_facts k s).no_row)

-- ---- arrows with a block have a number of their own

blocked_code : (k : Kind) → is_blocked k ≡ true → code k ≡ 70
blocked_code (expression ArrowBlock) h = refl
blocked_code (expression BareArrowBlock) h = refl
blocked_code (expression _) h = cc
blocked_code _ h = cc

data OfBlock (k : Kind) : Type 0 where
  listed_block : k ≡ expression ArrowBlock → OfBlock k
  bare_block : k ≡ expression BareArrowBlock → OfBlock k

of_block : (k : Kind) → is_blocked k ≡ true → OfBlock k
of_block (expression ArrowBlock) h = listed_block refl
of_block (expression BareArrowBlock) h = bare_block refl
of_block (expression _) h = cc
of_block _ h = cc

-- ---- and so have those of JSX

abbrev pub jsx_code : Kind → Bool
jsx_code k = nat_le 71 (code k) && (nat_le (code k) 79 && not (is_arrow k))

jsx_codes : every jsx_code jsx_kinds ≡ true
jsx_codes = refl

record JsxFacts (k : Kind) : Type 0 where
  least : 71 ≤ code k
  most : code k ≤ 79
  no_arrow : is_arrow k ≡ false

jsx_facts : (k : Kind) → is_jsx k ≡ true → JsxFacts k
jsx_facts k j =
    let h = for_jsx jsx_code jsx_codes k j in
    let r = and_right (nat_le 71 (code k)) _ h in
    record { least = le_nat (and_left (nat_le 71 (code k)) _ h); most = le_nat (and_left (nat_le (code k) 79) _ r); no_arrow = not_is _ (and_right (nat_le (code k) 79) _ r) }

-- the number is another
not_jsx : (n : ℕ) (k : Kind) → is_jsx k ≡ true → code k ≡ n → (nat_le 71 n && nat_le n 79) ≡ false → ⊥
not_jsx n k j e h =
    let f = jsx_facts k j in
    let a : 71 ≤ code k = f.least in
    let b : code k ≤ 79 = f.most in
    never (nat_le 71 n && nat_le n 79) (and_both (nat_le 71 n) (nat_le n 79) (le-leb 71 n (omega (arith, a, e))) (le-leb n 79 (omega (arith, b, e)))) h

abbrev pub outside_jsx : Kind → Bool
outside_jsx k = not (nat_le 71 (code k) && nat_le (code k) 79)

outside_kinds : every outside_jsx kinds ≡ true
outside_kinds = refl

outside_stated : every outside_jsx stated_kinds ≡ true
outside_stated = refl

-- a kind with the number of one of JSX is one
jsx_by_code : (k l : Kind) → Which k → is_jsx l ≡ true → code k ≡ code l → is_jsx k ≡ true
jsx_by_code k l (a_jsx j) i e = j
jsx_by_code k l (a_statement t) i e = absurd (not_jsx (code k) l i (sym e) (not_is _ (for_stated outside_jsx outside_stated k t)))
jsx_by_code k l (a_taken t) i e = absurd (not_jsx (code k) l i (sym e) (not_is _ (for_kind outside_jsx outside_kinds k t)))
jsx_by_code k l (a_blocked t) i e = absurd (not_jsx 70 l i (sym e ∙ blocked_code k t) refl)
jsx_by_code k l (a_seq p) i e = absurd (not_jsx 19 l i (sym e ∙ ap code p) refl)

no_seventy : every (λ k. not (nat_eq (code k) 70)) kinds ≡ true
no_seventy = refl

stated_seventy : every (λ k. not (nat_eq (code k) 70)) stated_kinds ≡ true
stated_seventy = refl

seventy : (k : Kind) → Which k → code k ≡ 70 → is_blocked k ≡ true
seventy k (a_blocked b) e = b
seventy k (a_jsx j) e = absurd (not_jsx 70 k j e refl)
seventy k (a_statement t) e = absurd (never (nat_eq (code k) 70) (eq-eqb (code k) 70 e) (not_is _ (for_stated (λ k. not (nat_eq (code k) 70)) stated_seventy k t)))
seventy k (a_taken t) e = absurd (never (nat_eq (code k) 70) (eq-eqb (code k) 70 e) (not_is _ (for_kind (λ k. not (nat_eq (code k) 70)) no_seventy k t)))
seventy k (a_seq p) e = let q : code k ≡ 19 = ap code p in absurd (omega (arith, e, q))

-- ---- one kind at one place

number_of : (c d : Nonterminal) (ds : List Nonterminal) → takes c d ≡ true → number c ≡ number d
number_of c d ds h = eq_nat (and_left (nat_eq (number c) (number d)) _ h)

listed_number : (c : Nonterminal) (ds : List Nonterminal) → in_list c ds ≡ true → has_number (number c) ds ≡ true
listed_number c [] h = cc
listed_number c (d ∷ ds) h = by_case (test (nat_eq (number c) (number d))) (listed_number c ds)
  where
    by_case : Test (nat_eq (number c) (number d)) → (in_list c ds ≡ true → has_number (number c) ds ≡ true) → has_number (number c) (d ∷ ds) ≡ true
    by_case (yes' e) r = subst (λ b. (b || has_number (number c) ds) ≡ true) (sym e) refl
    by_case (no' e) r = subst (λ b. (b || has_number (number c) ds) ≡ true) (sym e) (r (or_else (takes c d) (in_list c ds) h (subst (λ b. (b && nat_le (floor c) (floor d)) ≡ false) (sym e) refl)))

far_apart : (n : ℕ) (cs ds : List Nonterminal) → far cs ds ≡ true → has_number n cs ≡ true → has_number n ds ≡ true → ⊥
far_apart n [] ds f h g = cc
far_apart n (c ∷ cs) ds f h g = by_case (test (nat_eq n (number c))) (λ h. far_apart n cs ds (and_right (not (has_number (number c) ds)) (far cs ds) f) h g)
  where
    by_case : Test (nat_eq n (number c)) → (has_number n cs ≡ true → ⊥) → ⊥
    by_case (yes' e) r = never (has_number n ds) g (subst (λ m. has_number m ds ≡ false) (sym (eq_nat e)) (not_is _ (and_left (not (has_number (number c) ds)) (far cs ds) f)))
    by_case (no' e) r = r (or_else (nat_eq n (number c)) (has_number n cs) h e)

lone_left : (cs : List Nonterminal) → lone cs ≡ true → in_homes NullishLeft cs ≡ true → ⊥
lone_left cs l h = by_case (test (in_list (Expr 6) cs))
  where
    by_case : Test (in_list (Expr 6) cs) → ⊥
    by_case (yes' q) = never (has_number 0 cs) (listed_number (Expr 6) cs q) (not_is _ (and_left (not (has_number 0 cs)) (not (has_number 57 cs)) l))
    by_case (no' q) = never (has_number 57 cs) (listed_number NullishOnly cs (or_else (in_list (Expr 6) cs) (in_list NullishOnly cs) h q)) (not_is _ (and_right (not (has_number 0 cs)) (not (has_number 57 cs)) l))

in_either : (c : Nonterminal) (cs ds : List Nonterminal) → far cs ds ≡ true → (lone cs || lone ds) ≡ true → in_homes c cs ≡ true → in_homes c ds ≡ true → ⊥
in_either NullishLeft cs ds f z h g = by_case (test (lone cs))
  where
    by_case : Test (lone cs) → ⊥
    by_case (yes' l) = lone_left cs l h
    by_case (no' l) = lone_left ds (or_else (lone cs) (lone ds) z l) g
in_either NewCallee cs ds f z h g = far_apart 0 cs ds f (listed_number (Expr 17) cs h) (listed_number (Expr 17) ds g)
in_either DotObject cs ds f z h g = far_apart 1 cs ds f (listed_number MemberObject cs h) (listed_number MemberObject ds g)
in_either ForOfHead cs ds f z h g = far_apart 41 cs ds f (listed_number ForHead cs h) (listed_number ForHead ds g)
in_either c cs ds f z h g = far_apart (number c) cs ds f (listed_number c cs h) (listed_number c ds g)

-- two kinds at one place with one code: one kind, or two arrows
data Alike (k l : Kind) : Type 0 where
  one_kind : k ≡ l → Alike k l
  arrow_bare : is_arrow k ≡ true → is_bare_arrow l ≡ true → Alike k l
  bare_arrow : is_bare_arrow k ≡ true → is_arrow l ≡ true → Alike k l

alike : (c : Nonterminal) (k l : Kind) → scope k ≡ true → scope l ≡ true → in_homes c (homes k) ≡ true → in_homes c (homes l) ≡ true → code k ≡ code l → Alike k l
alike c k l s t h g e = by_index (test (nat_eq (index k) (index l)))
  where
    fact : told k l ≡ true
    fact = for_kind (told k) (for_kind (λ k. every (told k) kinds) all_told k s) l t

    by_index : Test (nat_eq (index k) (index l)) → Alike k l
    by_index (yes' i) = one_kind (sym (listed k s) ∙ (ap (nth kinds) (eq_nat i) ∙ listed l t))
    by_index (no' i) = by_first (test (is_arrow k && is_bare_arrow l))
      where
        r1 : (nat_eq (index k) (index l) || ((is_arrow k && is_bare_arrow l) || ((is_bare_arrow k && is_arrow l) || (far (homes k) (homes l) && (lone (homes k) || lone (homes l)))))) ≡ true
        r1 = or_else (not (nat_eq (code k) (code l))) _ fact (ap not (eq-eqb (code k) (code l) e))

        r2 : ((is_arrow k && is_bare_arrow l) || ((is_bare_arrow k && is_arrow l) || (far (homes k) (homes l) && (lone (homes k) || lone (homes l))))) ≡ true
        r2 = or_else (nat_eq (index k) (index l)) _ r1 i

        by_first : Test (is_arrow k && is_bare_arrow l) → Alike k l
        by_first (yes' a) = arrow_bare (and_left (is_arrow k) (is_bare_arrow l) a) (and_right (is_arrow k) (is_bare_arrow l) a)
        by_first (no' a) = by_second (test (is_bare_arrow k && is_arrow l))
          where
            r3 : ((is_bare_arrow k && is_arrow l) || (far (homes k) (homes l) && (lone (homes k) || lone (homes l)))) ≡ true
            r3 = or_else (is_arrow k && is_bare_arrow l) _ r2 a

            by_second : Test (is_bare_arrow k && is_arrow l) → Alike k l
            by_second (yes' b) = bare_arrow (and_left (is_bare_arrow k) (is_arrow l) b) (and_right (is_bare_arrow k) (is_arrow l) b)
            by_second (no' b) =
                let r4 = or_else (is_bare_arrow k && is_arrow l) (far (homes k) (homes l) && (lone (homes k) || lone (homes l))) r3 b in
                absurd (in_either c (homes k) (homes l) (and_left (far (homes k) (homes l)) _ r4) (and_right (far (homes k) (homes l)) _ r4) h g)

-- ---- flats

top : Flat → ℕ
top (some n ts) = n
top f = 0

inner : Flat → Flats
inner (some n ts) = ts
inner f = nil

first : Flats → Flat
first (cons f fs) = f
first nil = row_of nil

others : Flats → Flats
others (cons f fs) = fs
others nil = nil

held : Flat → Flats
held (row_of ts) = ts
held f = nil

top_parens : (fs : Flats) → top (in_parens fs) ≡ 3
unfolding top
top_parens nil = refl
top_parens (cons f nil) = refl
top_parens (cons f (cons g fs)) = refl

top_arrow : (n : ℕ) (fs : Flats) → top (arrow_of n fs) ≡ n
unfolding top
top_arrow n nil = refl
top_arrow n (cons f fs) = refl

arrow_paren : (k : Kind) → is_arrow k ≡ true → nat_eq (code k) 3 ≡ false
arrow_paren (expression Arrow) h = refl
arrow_paren (expression ArrowBlock) h = refl
arrow_paren _ h = cc

bare_is : (k : Kind) → is_bare_arrow k ≡ true → k ≡ expression BareArrow
bare_is (expression BareArrow) h = refl
bare_is _ h = cc

top_some : (n : ℕ) (fs : Flats) → top (some n fs) ≡ n
unfolding top
top_some n fs = refl

top_made : (k : Kind) (fs : Flats) → top (made k fs) ≡ code k
top_made k fs = by_arrow (test (is_arrow k))
  where
    by_arrow : Test (is_arrow k) → top (made k fs) ≡ code k
    by_arrow (yes' a) = ap top (made_arrow k fs a) ∙ top_arrow (code k) fs
    by_arrow (no' a) = by_paren (test (nat_eq (code k) 3))
      where
        by_paren : Test (nat_eq (code k) 3) → top (made k fs) ≡ code k
        by_paren (no' c) = ap top (made_plain k fs a c) ∙ top_some (code k) fs
        by_paren (yes' c) = ap top (made_paren k fs a c) ∙ (top_parens fs ∙ sym (eq_nat c))

no_zero : every (λ k. not (nat_eq (code k) 0)) kinds ≡ true
no_zero = refl

inner_some : (n : ℕ) (fs : Flats) → inner (some n fs) ≡ fs
unfolding inner
inner_some n fs = refl

first_cons : (f : Flat) (fs : Flats) → first (cons f fs) ≡ f
unfolding first
first_cons f fs = refl

others_cons : (f : Flat) (fs : Flats) → others (cons f fs) ≡ fs
unfolding others
others_cons f fs = refl

pub cons_inj : {f g : Flat} {fs gs : Flats} → cons f fs ≡ cons g gs → (f ≡ g) × (fs ≡ gs)
cons_inj {f} {g} {fs} {gs} e = (sym (first_cons f fs) ∙ (ap first e ∙ first_cons g gs), sym (others_cons f fs) ∙ (ap others e ∙ others_cons g gs))

pub some_inj : {n m : ℕ} {fs gs : Flats} → some n fs ≡ some m gs → fs ≡ gs
some_inj {n} {m} {fs} {gs} e = sym (inner_some n fs) ∙ (ap inner e ∙ inner_some m gs)

arrow_inj : (n : ℕ) (fs gs : Flats) → arrow_of n fs ≡ arrow_of n gs → fs ≡ gs
arrow_inj n nil nil e = refl
arrow_inj n nil (cons g gs) e = let bad = some_inj e in cc
arrow_inj n (cons f fs) nil e = let bad = some_inj e in cc
arrow_inj n (cons f fs) (cons g gs) e =
    let p = cons_inj (some_inj e) in
    let q = cons_inj (some_inj p.0) in
    λ i. cons (q.0 i) (p.1 i)

made_inj : (k : Kind) (fs gs : Flats) → nat_eq (code k) 3 ≡ false → made k fs ≡ made k gs → fs ≡ gs
made_inj k fs gs c e = by_arrow (test (is_arrow k))
  where
    by_arrow : Test (is_arrow k) → fs ≡ gs
    by_arrow (yes' a) = arrow_inj (code k) fs gs (sym (made_arrow k fs a) ∙ (e ∙ made_arrow k gs a))
    by_arrow (no' a) = some_inj (sym (made_plain k fs a c) ∙ (e ∙ made_plain k gs a c))

-- what stands in parentheses is alone, or a list of two or more
data Un (f : Flat) : Type 0 where
  alone : unseq f ≡ cons f nil → Un f
  in_row : (a b : Flat) (hs : Flats) → f ≡ some 19 (cons (row_of (cons a (cons b hs))) nil) → Un f

un_inj : (f g : Flat) → Un f → Un g → unseq f ≡ unseq g → f ≡ g
un_inj f g (alone p) (alone q) e = (cons_inj (sym p ∙ (e ∙ q))).0
un_inj f g (alone p) (in_row a b hs q) e = let bad = (cons_inj (sym p ∙ (e ∙ ap unseq q))).1 in cc
un_inj f g (in_row a b hs p) (alone q) e = let bad = (cons_inj (sym (ap unseq p) ∙ (e ∙ q))).1 in cc
un_inj f g (in_row a b hs p) (in_row a' b' hs' q) e = p ∙ ((λ i. some 19 (cons (row_of ((sym (ap unseq p) ∙ (e ∙ ap unseq q)) i)) nil)) ∙ sym q)

seq_un : (cs : Forest) → fit_slots (positions (expression Seq)) cs ≡ true → Un (flat (node (expression Seq) cs))
seq_un none h = cc
seq_un (part (leaf s t) us) h = cc
seq_un (part (node k cs) us) h = cc
seq_un (part (list none) us) h = cc
seq_un (part (list (part a none)) us) h = cc
seq_un (part (list (part a (part b ts))) none) h = in_row (flat a) (flat b) (flats ts) refl
seq_un (part (list (part a (part b ts))) (part u us)) h =
    let t = list (part a (part b ts)) in
    let bad = and_right (fits_below (Expr 1) t) false (and_right (shaped (Several TwoOrMore) (Expr 1) t) (fits_below (Expr 1) t && false) h) in cc

un : (c : Nonterminal) (t : Tree) → kept t ≡ true → is c t ≡ true → Un (flat t)
un c (leaf s t) h i = alone refl
un c (list ts) h i = cc
un c (node k cs) h i = by_which (which k (and_left (known k) (kepts cs) h))
  where
    arrow_un : (n : ℕ) → nat_eq n 19 ≡ false → (fs : Flats) → Un (arrow_of n fs)
    arrow_un n e nil = alone (unseq_some n nil e)
    arrow_un n e (cons f fs) = alone (unseq_some n (cons (some 3 (cons f nil)) fs) e)

    by_arrow : nat_eq (code k) 19 ≡ false → Test (is_arrow k) → Un (made k (flats cs))
    by_arrow e (yes' a) = subst Un (sym (made_arrow k (flats cs) a)) (arrow_un (code k) e (flats cs))
    by_arrow e (no' a) = alone (unseq_made k (flats cs) a e)

    by_which : Which k → Un (made k (flats cs))
    by_which (a_statement s) = let f = stated_facts k s in alone (unseq_made k (flats cs) f.no_arrow f.no_row)
    by_which (a_taken s) = by_arrow (not_is _ (for_kind (λ k. not (nat_eq (code k) 19)) no_seq_code k s)) (test (is_arrow k))
    by_which (a_blocked s) = by_arrow (ap (λ n. nat_eq n 19) (blocked_code k s)) (test (is_arrow k))
    by_which (a_jsx j) = alone (unseq_made k (flats cs) ((jsx_facts k j).no_arrow) (not_equal (code k) 19 (λ e. not_jsx 19 k j e refl)))
    by_which (a_seq e) = subst (λ k. Un (made k (flats cs))) (sym e) (seq_un cs (subst (λ k. fit_slots (positions k) cs ≡ true) e (and_right (admits c (node k cs)) (fits_below c (node k cs)) i)))

abbrev pub parens_only : Kind → Bool
parens_only k = not (nat_eq (code k) 3) || (nat_eq (index k) (index (expression Parenthesized)) || nat_eq (index k) (index (function ParenTarget)))

all_parens : every parens_only kinds ≡ true
all_parens = refl

held_row : (fs : Flats) → held (row_of fs) ≡ fs
unfolding held
held_row fs = refl

row_inj : {fs gs : Flats} → row_of fs ≡ row_of gs → fs ≡ gs
row_inj {fs} {gs} e = sym (held_row fs) ∙ (ap held e ∙ held_row gs)

paren_arrow : (k : Kind) → nat_eq (code k) 3 ≡ true → is_arrow k ≡ false
paren_arrow k c = by_arrow (test (is_arrow k))
  where
    by_arrow : Test (is_arrow k) → is_arrow k ≡ false
    by_arrow (no' a) = a
    by_arrow (yes' a) = absurd (never (nat_eq (code k) 3) c (arrow_paren k a))

-- in parentheses there is one tree
record Held (k : Kind) (cs : Forest) : Type 0 where
  tree : Tree
  is_part : cs ≡ part tree none
  un_tree : Un (flat tree)

paren_held : (k : Kind) (cs : Forest) → scope k ≡ true → nat_eq (code k) 3 ≡ true → kepts cs ≡ true → fit_slots (positions k) cs ≡ true → Held k cs
paren_held k cs s c h f = by_index (test (nat_eq (index k) (index (expression Parenthesized))))
  where
    one_of : (d : Nonterminal) (cs : Forest) → kepts cs ≡ true → fit_slots (position Single d [] true [] ∷ []) cs ≡ true → Held k cs
    one_of d none m g = cc
    one_of d (part t none) m g =
        let r = and_right (admits d t) (fits_below d t && true) g in
        record { tree = t; is_part = refl; un_tree = un d t (and_left (kept t) true m) (and_both (admits d t) (fits_below d t) (and_left (admits d t) (fits_below d t && true) g) (and_left (fits_below d t) true r)) }
    one_of d (part t (part u us)) m g = let bad = and_right (fits_below d t) false (and_right (admits d t) (fits_below d t && false) g) in cc

    by_index : Test (nat_eq (index k) (index (expression Parenthesized))) → Held k cs
    by_index (yes' i) =
        let p : k ≡ expression Parenthesized = sym (listed k s) ∙ ap (nth kinds) (eq_nat i) in
        one_of (Expr 0) cs h (subst (λ k. fit_slots (positions k) cs ≡ true) p f)
    by_index (no' i) =
        let g : (nat_eq (index k) (index (expression Parenthesized)) || nat_eq (index k) (index (function ParenTarget))) ≡ true = or_else (not (nat_eq (code k) 3)) _ (for_kind parens_only all_parens k s) (ap not c) in
        let p : k ≡ function ParenTarget = sym (listed k s) ∙ ap (nth kinds) (eq_nat (or_else (nat_eq (index k) (index (expression Parenthesized))) _ g i)) in
        one_of SimpleTarget cs h (subst (λ k. fit_slots (positions k) cs ≡ true) p f)

-- the parts of two nodes of one kind
parts_same : (k : Kind) (cs ds : Forest) → known k ≡ true → kepts cs ≡ true → kepts ds ≡ true → fit_slots (positions k) cs ≡ true → fit_slots (positions k) ds ≡ true → made k (flats cs) ≡ made k (flats ds) → flats cs ≡ flats ds
parts_same k cs ds s m n f g e = by_paren (test (nat_eq (code k) 3))
  where
    by_paren : Test (nat_eq (code k) 3) → flats cs ≡ flats ds
    by_paren (no' c) = made_inj k (flats cs) (flats ds) c e
    by_paren (yes' c) = by_which (which k s)
      where
        by_which : Which k → flats cs ≡ flats ds
        by_which (a_statement t) = absurd (never (nat_eq (code k) 3) c ((stated_facts k t).no_paren))
        by_which (a_blocked t) = absurd (never (nat_eq (code k) 3) c (ap (λ n. nat_eq n 3) (blocked_code k t)))
        by_which (a_jsx j) = absurd (not_jsx 3 k j (eq_nat c) refl)
        by_which (a_seq p) = absurd (never (nat_eq (code k) 3) c (ap (λ k. nat_eq (code k) 3) p))
        by_which (a_taken t) =
            let a = paren_held k cs t c m f in
            let b = paren_held k ds t c n g in
            let q : in_parens (flats cs) ≡ in_parens (flats ds) = sym (made_paren k (flats cs) (paren_arrow k c) c) ∙ (e ∙ made_paren k (flats ds) (paren_arrow k c) c) in
            let r : paren_of (unseq (flat a.tree)) ≡ paren_of (unseq (flat b.tree)) = ap (λ cs. in_parens (flats cs)) (sym a.is_part) ∙ (q ∙ ap (λ cs. in_parens (flats cs)) b.is_part) in
            let u = un_inj (flat a.tree) (flat b.tree) a.un_tree b.un_tree (row_inj (cons_inj (some_inj r)).0) in
            ap flats a.is_part ∙ ((λ i. cons (u i) nil) ∙ ap flats (sym b.is_part))

-- ---- the whole tree

leaf_kind : Flat → Tree
leaf_kind (one s t) = leaf s t
leaf_kind f = list none

leaf_one : (s : TokenKind) (t : Text) → leaf_kind (one s t) ≡ leaf s t
unfolding leaf_kind
leaf_one s t = refl

top_one : (s : TokenKind) (t : Text) → top (one s t) ≡ 0
unfolding top
top_one s t = refl

code_some : (k : Kind) → known k ≡ true → code k ≡ 0 → ⊥
code_some k s e = by_which (which k s)
  where
    by_which : Which k → ⊥
    by_which (a_statement t) = never (nat_eq (code k) 0) (eq-eqb (code k) 0 e) ((stated_facts k t).no_zero)
    by_which (a_taken t) = never (nat_eq (code k) 0) (eq-eqb (code k) 0 e) (not_is _ (for_kind (λ k. not (nat_eq (code k) 0)) no_zero k t))
    by_which (a_seq p) = let q : code k ≡ 19 = ap code p in omega (arith, e, q)
    by_which (a_blocked p) = let q : code k ≡ 70 = blocked_code k p in omega (arith, e, q)
    by_which (a_jsx j) = not_jsx 0 k j e refl

leaf_node : (s : TokenKind) (t : Text) (k : Kind) (cs : Forest) → known k ≡ true → one s t ≡ made k (flats cs) → ⊥
leaf_node s t k cs h e = code_some k h (sym (top_made k (flats cs)) ∙ (ap top (sym e) ∙ top_one s t))

-- a bare arrow's parameter is a name
bare_leaf : (ss : List Position) (m : ℕ) (cs : Forest) → kepts cs ≡ true → fit_slots (position Single BindingIdent [] false [] ∷ ss) cs ≡ true → (fs : Flats) → flats cs ≡ others (cons (row_of nil) (flats cs)) → (n : ℕ) (f : Flats) → some m (flats cs) ≡ arrow_of n f → ⊥
bare_leaf ss m none h g fs d n f e = cc
bare_leaf ss m (part (list ts) cs) h g fs d n f e = cc
bare_leaf ss m (part (leaf s t) cs) h g fs d n nil e = let bad = some_inj e in cc
bare_leaf ss m (part (leaf s t) cs) h g fs d n (cons p f) e = let bad = (cons_inj (some_inj e)).0 in cc
bare_leaf ss m (part (node k ks) cs) h g fs d n f e =
    let i = home_of BindingIdent k ks (and_left (in_homes BindingIdent (homes k)) _ g) in
    by_which i (which k (and_left (known k) (kepts ks) (and_left (kept (node k ks)) (kepts cs) h)))
  where
    by_which : in_homes BindingIdent (homes k) ≡ true → Which k → ⊥
    by_which i (a_statement t) = never (in_homes BindingIdent (homes k)) i ((stated_facts k t).no_name)
    by_which i (a_taken t) = never (in_homes BindingIdent (homes k)) i (not_is _ (for_kind (λ l. not (in_homes BindingIdent (homes l))) no_names' k t))
    by_which i (a_blocked t) = never (in_homes BindingIdent (homes (expression Arrow))) (blocked_home BindingIdent k t i) refl
    by_which i (a_jsx j) = no_jsx BindingIdent k j refl i
    by_which i (a_seq p) = never (in_homes BindingIdent (homes k)) i (ap (λ k. in_homes BindingIdent (homes k)) p)

no_bare : (ss : List Position) (m n : ℕ) (cs ds : Forest) → kepts cs ≡ true → fit_slots (position Single BindingIdent [] false [] ∷ ss) cs ≡ true → some m (flats cs) ≡ arrow_of n (flats ds) → ⊥
no_bare ss m n cs ds h g e = bare_leaf ss m cs h g nil (sym (others_cons (row_of nil) (flats cs))) n (flats ds) e

-- two nodes at one place
kind_same : (c : Nonterminal) (k l : Kind) (cs ds : Forest) → known k ≡ true → known l ≡ true → kepts cs ≡ true → kepts ds ≡ true → is c (node k cs) ≡ true → is c (node l ds) ≡ true → made k (flats cs) ≡ made l (flats ds) → k ≡ l
kind_same c k l cs ds s t m n i j e = by_which (which k s) (which l t)
  where
    codes' : code k ≡ code l
    codes' = sym (top_made k (flats cs)) ∙ (ap top e ∙ top_made l (flats ds))

    not_19 : (k : Kind) → scope k ≡ true → code k ≡ 19 → ⊥
    not_19 k t e = never (nat_eq (code k) 19) (eq-eqb (code k) 19 e) (not_is _ (for_kind (λ k. not (nat_eq (code k) 19)) no_seq_code k t))

    by_alike : Alike k l → k ≡ l
    by_alike (one_kind p) = p
    by_alike (arrow_bare a b) =
        absurd (no_bare _ 4 (code k) ds cs n (subst (λ l. fit_slots (positions l) ds ≡ true) (bare_is l b) (and_right (admits c (node l ds)) (fits_below c (node l ds)) j))
        ((λ i. made (sym (bare_is l b) i) (flats ds)) ∙ (sym e ∙ made_arrow k (flats cs) a)))
    by_alike (bare_arrow b a) =
        absurd (no_bare _ 4 (code l) cs ds m (subst (λ k. fit_slots (positions k) cs ≡ true) (bare_is k b) (and_right (admits c (node k cs)) (fits_below c (node k cs)) i))
        ((λ i. made (sym (bare_is k b) i) (flats cs)) ∙ (e ∙ made_arrow l (flats ds) a)))

    fits : {k : Kind} (cs : Forest) (m : Kind) → k ≡ m → is c (node k cs) ≡ true → fit_slots (positions m) cs ≡ true
    fits {k} cs m p i = subst (λ k. fit_slots (positions k) cs ≡ true) p (and_right (admits c (node k cs)) (fits_below c (node k cs)) i)

    two_blocked : OfBlock k → OfBlock l → k ≡ l
    two_blocked (listed_block a) (listed_block b) = a ∙ sym b
    two_blocked (bare_block a) (bare_block b) = a ∙ sym b
    two_blocked (listed_block a) (bare_block b) = absurd (no_bare _ 70 70 ds cs n (fits ds (expression BareArrowBlock) b j) ((λ i. made (sym b i) (flats ds)) ∙ (sym e ∙ (λ i. made (a i) (flats cs)))))
    two_blocked (bare_block a) (listed_block b) = absurd (no_bare _ 70 70 cs ds m (fits cs (expression BareArrowBlock) a i) ((λ i. made (sym a i) (flats cs)) ∙ (e ∙ (λ i. made (b i) (flats ds)))))

    by_which : Which k → Which l → k ≡ l
    by_which (a_jsx p) q = two_jsx k l p (jsx_by_code l k q p (sym codes')) codes'
    by_which p (a_jsx q) = two_jsx k l (jsx_by_code k l p q codes') q codes'
    by_which (a_blocked p) q = two_blocked (of_block k p) (of_block l (seventy l q (sym codes' ∙ blocked_code k p)))
    by_which p (a_blocked q) = two_blocked (of_block k (seventy k p (codes' ∙ blocked_code l q))) (of_block l q)
    by_which (a_statement p) (a_statement q) = two_stated k l p q codes'
    by_which (a_statement p) (a_taken q) = absurd (stated_taken k l p q codes')
    by_which (a_taken p) (a_statement q) = absurd (stated_taken l k q p (sym codes'))
    by_which (a_statement p) (a_seq q) = absurd (stated_seq k p (codes' ∙ ap code q))
    by_which (a_seq p) (a_statement q) = absurd (stated_seq l q (sym codes' ∙ ap code p))
    by_which (a_seq p) (a_seq q) = p ∙ sym q
    by_which (a_taken p) (a_seq q) = absurd (not_19 k p (codes' ∙ ap code q))
    by_which (a_seq p) (a_taken q) = absurd (not_19 l q (sym codes' ∙ ap code p))
    by_which (a_taken p) (a_taken q) =
        by_alike (alike c k l p q (home_of c k cs (and_left (admits c (node k cs)) (fits_below c (node k cs)) i)) (home_of c l ds (and_left (admits c (node l ds)) (fits_below c (node l ds)) j)) codes')

node_same : (c : Nonterminal) (k l : Kind) (cs ds : Forest) → known k ≡ true → known l ≡ true → kepts cs ≡ true → kepts ds ≡ true → is c (node k cs) ≡ true → is c (node l ds) ≡ true → made k (flats cs) ≡ made l (flats ds)
    → ((us : Forest) → kepts us ≡ true → fit_slots (positions k) cs ≡ true → fit_slots (positions k) us ≡ true → flats cs ≡ flats us → cs ≡ us) → node k cs ≡ node l ds
node_same c k l cs ds s t m n i j e slots' =
    let p = kind_same c k l cs ds s t m n i j e in
    let fk = and_right (admits c (node k cs)) (fits_below c (node k cs)) i in
    let fl = subst (λ l. fit_slots (positions l) ds ≡ true) (sym p) (and_right (admits c (node l ds)) (fits_below c (node l ds)) j) in
    let q = parts_same k cs ds s m n fk fl (e ∙ (λ i. made (sym p i) (flats ds))) in
    (λ i. node (p i) (slots' ds n fk fl q i))

node_admits : (o : Form) (c : Nonterminal) (k : Kind) (cs : Forest) → shaped o c (node k cs) ≡ true → fits_below c (node k cs) ≡ true → is c (node k cs) ≡ true
node_admits Single c k cs h f = and_both (admits c (node k cs)) (fits_below c (node k cs)) h f
node_admits Maybe c k cs h f = cc
node_admits (Several s) c k cs h f = cc

top_row : (fs : Flats) → top (row_of fs) ≡ 0
unfolding top
top_row fs = refl

row_node : (k : Kind) (cs us : Forest) → known k ≡ true → made k (flats cs) ≡ row_of (flats us) → ⊥
row_node k cs us h e = code_some k h (sym (top_made k (flats cs)) ∙ (ap top e ∙ top_row (flats us)))

mutual
  pub place_same : (t u : Tree) (o : Form) (c : Nonterminal) → kept t ≡ true → kept u ≡ true → shaped o c t ≡ true → shaped o c u ≡ true → fits_below c t ≡ true → fits_below c u ≡ true → flat t ≡ flat u → t ≡ u
  place_same (leaf s t) (leaf r u) o c h g i j f k e = sym (leaf_one s t) ∙ (ap leaf_kind e ∙ leaf_one r u)
  place_same (leaf s t) (node k cs) o c h g i j f q e = absurd (leaf_node s t k cs (and_left (known k) (kepts cs) g) e)
  place_same (leaf s t) (list us) o c h g i j f k e = cc
  place_same (node k cs) (leaf s t) o c h g i j f q e = absurd (leaf_node s t k cs (and_left (known k) (kepts cs) h) (sym e))
  place_same (node k cs) (list us) o c h g i j f q e = absurd (row_node k cs us (and_left (known k) (kepts cs) h) e)
  place_same (list ts) (leaf s t) o c h g i j f k e = cc
  place_same (list ts) (node k cs) o c h g i j f q e = absurd (row_node k cs ts (and_left (known k) (kepts cs) g) (sym e))
  place_same (list ts) (list us) o c h g i j f k e = ap list (each_same ts us c h g f k (row_inj e))
  place_same (node k cs) (node l ds) o c h g i j f q e =
      node_same c k l cs ds (and_left (known k) (kepts cs) h) (and_left (known l) (kepts ds) g) (and_right (known k) (kepts cs) h) (and_right (known l) (kepts ds) g) (node_admits o c k cs i f) (node_admits o c l ds j q) e
      (λ us n f g' q. slots_same cs us (positions k) (and_right (known k) (kepts cs) h) n f g' q)

  slots_same : (ts us : Forest) (ss : List Position) → kepts ts ≡ true → kepts us ≡ true → fit_slots ss ts ≡ true → fit_slots ss us ≡ true → flats ts ≡ flats us → ts ≡ us
  slots_same none none ss h g i j e = refl
  slots_same none (part u us) ss h g i j e = cc
  slots_same (part t ts) none ss h g i j e = cc
  slots_same (part t ts) (part u us) [] h g i j e = cc
  slots_same (part t ts) (part u us) (position o c x b a ∷ ss) h g i j e =
      let p = cons_inj e in
      let i1 = and_right (shaped o c t) _ i in
      let j1 = and_right (shaped o c u) _ j in
      let q = place_same t u o c (and_left (kept t) (kepts ts) h) (and_left (kept u) (kepts us) g) (and_left (shaped o c t) _ i) (and_left (shaped o c u) _ j) (and_left (fits_below c t) (fit_slots ss ts) i1) (and_left (fits_below c u) (fit_slots ss us) j1) p.0 in
      let r = slots_same ts us ss (and_right (kept t) (kepts ts) h) (and_right (kept u) (kepts us) g) (and_right (fits_below c t) (fit_slots ss ts) i1) (and_right (fits_below c u) (fit_slots ss us) j1) p.1 in
      (λ i. part (q i) (r i))

  each_same : (ts us : Forest) (c : Nonterminal) → kepts ts ≡ true → kepts us ≡ true → fit_each c ts ≡ true → fit_each c us ≡ true → flats ts ≡ flats us → ts ≡ us
  each_same none none c h g i j e = refl
  each_same none (part u us) c h g i j e = cc
  each_same (part t ts) none c h g i j e = cc
  each_same (part t ts) (part u us) c h g i j e =
      let p = cons_inj e in
      let i1 = and_right (admits c t) _ i in
      let j1 = and_right (admits c u) _ j in
      let q = place_same t u Single c (and_left (kept t) (kepts ts) h) (and_left (kept u) (kepts us) g) (and_left (admits c t) _ i) (and_left (admits c u) _ j) (and_left (fits_below c t) (fit_each c ts) i1) (and_left (fits_below c u) (fit_each c us) j1) p.0 in
      let r = each_same ts us c (and_right (kept t) (kepts ts) h) (and_right (kept u) (kepts us) g) (and_right (fits_below c t) (fit_each c ts) i1) (and_right (fits_below c u) (fit_each c us) j1) p.1 in
      (λ i. part (q i) (r i))

pub tree_same : (t u : Tree) (c : Nonterminal) → kept t ≡ true → kept u ≡ true → is c t ≡ true → is c u ≡ true → flat t ≡ flat u → t ≡ u
tree_same t u c h g i j e = place_same t u Single c h g (and_left (admits c t) (fits_below c t) i) (and_left (admits c u) (fits_below c u) j) (and_right (admits c t) (fits_below c t) i) (and_right (admits c u) (fits_below c u) j) e

-- ---- no expression is a spread, by its number

abbrev pub no_spread_code : Kind → Bool
no_spread_code k = not (nat_eq (code k) 2) || not (in_homes (Expr 0) (homes k))

no_spread_kinds : every no_spread_code kinds ≡ true
no_spread_kinds = refl

no_spread_stated : every no_spread_code stated_kinds ≡ true
no_spread_stated = refl

spread_node : (k : Kind) → Which k → in_homes (Expr 0) (homes k) ≡ true → code k ≡ 2 → ⊥
spread_node k (a_taken t) i e = never (in_homes (Expr 0) (homes k)) i (not_is _ (or_else (not (nat_eq (code k) 2)) _ (for_kind no_spread_code no_spread_kinds k t) (ap not (eq-eqb (code k) 2 e))))
spread_node k (a_statement t) i e = never (in_homes (Expr 0) (homes k)) i (not_is _ (or_else (not (nat_eq (code k) 2)) _ (for_stated no_spread_code no_spread_stated k t) (ap not (eq-eqb (code k) 2 e))))
spread_node k (a_blocked t) i e = let q : code k ≡ 70 = blocked_code k t in omega (arith, e, q)
spread_node k (a_seq p) i e = let q : code k ≡ 19 = ap code p in omega (arith, e, q)
spread_node k (a_jsx j) i e = not_jsx 2 k j e refl

pub not_spread : (t u : Tree) → kept t ≡ true → is (Expr 0) t ≡ true → flat t ≡ flat (node (expression Spread) (part u none)) → ⊥
not_spread (leaf s t) u h i e = let bad = sym (top_one s t) ∙ (ap top e ∙ top_some 2 (cons (flat u) nil)) in cc
not_spread (list ts) u h i e = cc
not_spread (node k cs) u h i e =
    spread_node k (which k (and_left (known k) (kepts cs) h)) (home_of (Expr 0) k cs (and_left (admits (Expr 0) (node k cs)) (fits_below (Expr 0) (node k cs)) i)) (sym (top_made k (flats cs)) ∙ (ap top e ∙ top_some 2 (cons (flat u) nil)))
