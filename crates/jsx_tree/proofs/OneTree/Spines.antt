-- Down the left side of a tree the levels are those that its place asks.
use Rattle.jsx_tree.proofs.OneTree.Fine.{of_blocked, first_tame}
use Rattle.jsx_tree.proofs.OneTree.Known.{is_blocked}
use Rattle.jsx_tree.specs.Form.{positions}
use Rattle.jsx_tree.specs.Kinds.{Arrow, ArrowBlock, BareArrowBlock}
use Rattle.jsx_tree.proofs.OneTree.Known.{is_seq, taken}
use Rattle.std.proofs.Common.{◌≡◌, ℕ, ◌≤◌, suc, Bool, true, false, not, cond, [], ◌∷◌, refl, sym, ◌∙◌, ap, subst, arith}
use Rattle.std.specs.Prelude.{◌&&◌, ◌||◌, nat_le}
use Rattle.std.proofs.lemmas.Bool.{le-leb}
use Rattle.jsx_tree.specs.Kinds.{SubstitutedTemplate, Seq, Array, ObjectPat, Object, Binds, Assigns, FunctionExpr, ClassExpr, Element, ElementWithChildren, Fragment, InObject, Method, Getter, Setter, Kind, function, expression, jsx, Tree, leaf, node, list, Forest, none, part}
use Rattle.jsx_tree.specs.Nonterminals.{Nonterminal, Expr, MemberObject, SimpleTarget, Ident, BindingIdent, Pat, Slot, PatElement, Param, Argument, ArrayItem, NullishLeft, NewCallee, DotObject, homes, in_homes}
use Rattle.jsx_tree.specs.Grammar.{Part, Production, production}
use Rattle.jsx_tree.specs.Form.{leads, admits, is, fits_below, fit_slots, slots, calls, spine_calls, first_calls}
use Rattle.jsx_tree.proofs.Tokens.{and_left, and_right, and_both}
use Rattle.jsx_tree.proofs.OneTree.Table.{scope}
use Rattle.jsx_tree.proofs.OneTree.Readings.{tail_of, base, level}
use Rattle.jsx_tree.proofs.OneTree.Facts.{never, or_else, not_is, Test, yes', no', test, le_nat, for_kind}
use Rattle.jsx_tree.proofs.OneTree.Places.{ending, first_of, kin, is_prop, is_brace, at_home, spine_check, place_at, place_ok, no_seq, no_hole, only_calls, ended_at, is_chain, row_ok, kind_ok, rows}
use Rattle.jsx_tree.proofs.OneTree.Sealed.{is_sealed, is_member}
use Rattle.jsx_tree.proofs.OneTree.Fine.{tame, tames, Tamed, of_sealed, of_member, of_open, tamed, spine_ok, first_ok}

-- ---- spines

first_is : (ps : Production) (t : Tree) (ts : Forest) → leads ps ≡ true → fit_slots (slots [] false [] ps) (part t ts) ≡ true → is (first_of ps) t ≡ true
first_is (Part c ∷ ps) t ts l h = let r = and_right (admits c t) _ h in and_both (admits c t) (fits_below c t) (and_left (admits c t) _ h) (and_left (fits_below c t) _ r)
first_is _ t ts l h = cc

first_here : (ps : Production) → leads ps ≡ true → fit_slots (slots [] false [] ps) none ≡ true → ⊥
first_here (Part c ∷ ps) l h = cc
first_here _ l h = cc

pub home_of : (c : Nonterminal) (k : Kind) (cs : Forest) → admits c (node k cs) ≡ true → in_homes c (homes k) ≡ true
home_of NewCallee k cs h = and_left (in_homes NewCallee (homes k)) _ h
home_of _ k cs h = h

pub at_kind : (c : Nonterminal) (p : Kind → Bool) (k : Kind) → at_home c p ≡ true → scope k ≡ true → in_homes c (homes k) ≡ true → p k ≡ true
at_kind c p k h s i = or_else (not (in_homes c (homes k))) (p k) (for_kind (λ l. not (in_homes c (homes l)) || p l) h k s) (ap not i)

pub taken_scope : (k : Kind) → taken k ≡ true → scope k ≡ true
taken_scope k h = h

pub seq_is : (k : Kind) → is_seq k ≡ true → k ≡ expression Seq
seq_is (expression Seq) h = refl
seq_is _ h = cc

brace_leads : (k : Kind) → leads (production k) ≡ true → is_brace k ≡ false
brace_leads k l = by_kind k (is_brace k) refl l
  where
    by_kind : (k : Kind) (b : Bool) → is_brace k ≡ b → leads (production k) ≡ true → b ≡ false
    by_kind k false e h = refl
    by_kind (expression Object) true e h = cc
    by_kind (expression (SubstitutedTemplate false)) true e h = cc
    by_kind (function (ObjectPat r)) true e h = cc
    by_kind _ true e h = cc

own_leads : (k : Kind) → is_prop k ≡ false → leads (production k) ≡ true → (is_brace k || is_prop k) ≡ false
own_leads k p l = (λ i. brace_leads k l i || p i)

pub record LeadFacts (k : Kind) : Type 0 where
  pub row' : (is_chain k || row_ok (ending k) (tail_of (production k))) ≡ true
  pub place' : place_ok (first_of (production k)) ≡ true
  pub ended' : ended_at (first_of (production k)) (suc (level k)) ≡ true
  pub hole' : no_hole (first_of (production k)) ≡ true

pub lead_facts : (k : Kind) → taken k ≡ true → is_prop k ≡ false → leads (production k) ≡ true → LeadFacts k
lead_facts k t np l =
    let h : kind_ok k ≡ true = for_kind kind_ok rows k (taken_scope k t) in
    let g0 = or_else (not (taken k)) _ h (ap not t) in
    let g = or_else (is_brace k || is_prop k) _ g0 (own_leads k np l) in
    let f : ((is_chain k || row_ok (ending k) (tail_of (production k))) && (place_ok (first_of (production k)) && (ended_at (first_of (production k)) (suc (level k)) && no_hole (first_of (production k))))) ≡ true = (λ i. cond (sym l i) ((is_chain k || row_ok (ending k) (tail_of (production k))) && (place_ok (first_of (production k)) && (ended_at (first_of (production k)) (suc (level k)) && no_hole (first_of (production k))))) (row_ok (ending k) (production k))) ∙ g in
    let r = and_right (is_chain k || row_ok (ending k) (tail_of (production k))) _ f in
    let q = and_right (place_ok (first_of (production k))) _ r in
    record { row' = and_left (is_chain k || row_ok (ending k) (tail_of (production k))) _ f; place' = and_left (place_ok (first_of (production k))) _ r; ended' = and_left (ended_at (first_of (production k)) (suc (level k))) _ q; hole' = and_right (ended_at (first_of (production k)) (suc (level k))) _ q }

pub head_row : (k : Kind) → taken k ≡ true → (is_brace k || is_prop k) ≡ false → leads (production k) ≡ false → row_ok (ending k) (production k) ≡ true
head_row k t o l =
    let h : kind_ok k ≡ true = for_kind kind_ok rows k (taken_scope k t) in
    let g = or_else (is_brace k || is_prop k) _ (or_else (not (taken k)) _ h (ap not t)) o in
    (λ i. cond (sym l i) ((is_chain k || row_ok (ending k) (tail_of (production k))) && (place_ok (first_of (production k)) && (ended_at (first_of (production k)) (suc (level k)) && no_hole (first_of (production k))))) (row_ok (ending k) (production k))) ∙ g

pub node_spine : (k : Kind) (cs : Forest) (c : Nonterminal) (m n : ℕ) → m ≤ n → place_at n c ≡ true → taken k ≡ true → is c (node k cs) ≡ true
    → (m ≤ base (first_of (production k)) → place_at (base (first_of (production k))) (first_of (production k)) ≡ true → no_seq (first_of (production k)) ≡ true → leads (production k) ≡ true → fit_slots (slots [] false [] (production k)) cs ≡ true → first_ok m cs ≡ true) → spine_ok m (node k cs) ≡ true
node_spine k cs c m n le p t i rec =
    let h = home_of c k cs (and_left (admits c (node k cs)) (fits_below c (node k cs)) i) in
    let q0 = at_kind c (spine_check n) k (and_right (kin c) _ p) (taken_scope k t) h in
    let q = and_right (not (is_prop k)) (nat_le n (level k) && (not (leads (production k)) || nat_le n (base (first_of (production k))))) q0 in
    let np = not_is (is_prop k) (and_left (not (is_prop k)) (nat_le n (level k) && (not (leads (production k)) || nat_le n (base (first_of (production k))))) q0) in
    let a : n ≤ level k = le_nat (and_left (nat_le n (level k)) _ q) in
    and_both (nat_le m (level k)) _ (le-leb m (level k) (omega (arith, le, a))) (by_case np (test (leads (production k))) (and_right (nat_le n (level k)) _ q))
  where
    by_case : is_prop k ≡ false → Test (leads (production k)) → (not (leads (production k)) || nat_le n (base (first_of (production k)))) ≡ true → (not (leads (production k)) || first_ok m cs) ≡ true
    by_case np (no' l) h = subst (λ b. (not b || first_ok m cs) ≡ true) (sym l) refl
    by_case np (yes' l) h =
        let f = lead_facts k t np l in
        let b : n ≤ base (first_of (production k)) = le_nat (or_else (not (leads (production k))) _ h (ap not l)) in
        let o : first_ok m cs ≡ true = rec (omega (arith, le, b)) (and_left (place_at (base (first_of (production k))) (first_of (production k))) _ f.place') (and_right (place_at (base (first_of (production k))) (first_of (production k))) (no_seq (first_of (production k))) f.place') l (and_right (admits c (node k cs)) (fits_below c (node k cs)) i) in
        subst (λ d. (not (leads (production k)) || d) ≡ true) (sym o) (or_true (not (leads (production k))))
      where
        or_true : (b : Bool) → (b || true) ≡ true
        or_true true = refl
        or_true false = refl

pub no_seq_here : (c : Nonterminal) (k : Kind) (cs : Forest) → is_seq k ≡ true → no_seq c ≡ true → is c (node k cs) ≡ true → ⊥
no_seq_here c k cs s n i = never (in_homes c (homes (expression Seq))) (subst (λ l. in_homes c (homes l) ≡ true) (seq_is k s) (home_of c k cs (and_left (admits c (node k cs)) (fits_below c (node k cs)) i))) (not_is _ n)

by_taken : (k : Kind) (cs : Forest) (c : Nonterminal) (m n : ℕ) → m ≤ n → place_at n c ≡ true → no_seq c ≡ true → (taken k || is_seq k) ≡ true → is c (node k cs) ≡ true → Test (taken k)
    → (m ≤ base (first_of (production k)) → place_at (base (first_of (production k))) (first_of (production k)) ≡ true → no_seq (first_of (production k)) ≡ true → leads (production k) ≡ true → fit_slots (slots [] false [] (production k)) cs ≡ true → first_ok m cs ≡ true) → spine_ok m (node k cs) ≡ true
by_taken k cs c m n le p q h i (yes' t) rec = node_spine k cs c m n le p t i rec
by_taken k cs c m n le p q h i (no' t) rec = absurd (no_seq_here c k cs (or_else (taken k) (is_seq k) h t) q i)

-- what is sealed stands where a literal of an array does
record SealedHomes (c : Nonterminal) : Type 0 where
  of_functions : in_homes c (homes (function FunctionExpr)) ≡ in_homes c (homes (expression Array))
  of_classes : in_homes c (homes (function ClassExpr)) ≡ in_homes c (homes (expression Array))
  of_elements : in_homes c (homes (jsx Element)) ≡ in_homes c (homes (expression Array))

sealed_homes : (c : Nonterminal) → kin c ≡ true → SealedHomes c
sealed_homes (Expr n) l = record { of_functions = refl; of_classes = refl; of_elements = refl }
sealed_homes MemberObject l = record { of_functions = refl; of_classes = refl; of_elements = refl }
sealed_homes DotObject l = record { of_functions = refl; of_classes = refl; of_elements = refl }
sealed_homes NullishLeft l = record { of_functions = refl; of_classes = refl; of_elements = refl }
sealed_homes SimpleTarget l = record { of_functions = refl; of_classes = refl; of_elements = refl }
sealed_homes NewCallee l = record { of_functions = refl; of_classes = refl; of_elements = refl }
sealed_homes Ident l = record { of_functions = refl; of_classes = refl; of_elements = refl }
sealed_homes BindingIdent l = record { of_functions = refl; of_classes = refl; of_elements = refl }
sealed_homes (Pat Binds) l = record { of_functions = refl; of_classes = refl; of_elements = refl }
sealed_homes (Pat Assigns) l = record { of_functions = refl; of_classes = refl; of_elements = refl }
sealed_homes (PatElement Binds) l = record { of_functions = refl; of_classes = refl; of_elements = refl }
sealed_homes (PatElement Assigns) l = record { of_functions = refl; of_classes = refl; of_elements = refl }
sealed_homes (Slot Binds) l = record { of_functions = refl; of_classes = refl; of_elements = refl }
sealed_homes (Slot Assigns) l = record { of_functions = refl; of_classes = refl; of_elements = refl }
sealed_homes Param l = record { of_functions = refl; of_classes = refl; of_elements = refl }
sealed_homes Argument l = record { of_functions = refl; of_classes = refl; of_elements = refl }
sealed_homes ArrayItem l = record { of_functions = refl; of_classes = refl; of_elements = refl }
sealed_homes _ l = cc

sealed_home : (c : Nonterminal) (k : Kind) → kin c ≡ true → is_sealed k ≡ true → in_homes c (homes k) ≡ true → in_homes c (homes (expression Array)) ≡ true
sealed_home c (function FunctionExpr) l s i = sym (sealed_homes c l).of_functions ∙ i
sealed_home c (function ClassExpr) l s i = sym (sealed_homes c l).of_classes ∙ i
sealed_home c (jsx Element) l s i = sym (sealed_homes c l).of_elements ∙ i
sealed_home c (jsx ElementWithChildren) l s i = sym (sealed_homes c l).of_elements ∙ i
sealed_home c (jsx Fragment) l s i = sym (sealed_homes c l).of_elements ∙ i
sealed_home c (function _) l s i = cc
sealed_home c (jsx _) l s i = cc
sealed_home c _ l s i = cc

-- places where no element stands
abbrev pub elementless : Nonterminal → Bool
elementless c = not (in_homes c (homes (jsx Element)))

-- places where nothing that is sealed stands
abbrev pub sealless : Nonterminal → Bool
sealless c = not (in_homes c (homes (function FunctionExpr))) && (not (in_homes c (homes (function ClassExpr))) && elementless c)

abbrev pub memberless : Nonterminal → Bool
memberless c = not (in_homes c (homes (function (Method InObject))))

pub kin_memberless : (c : Nonterminal) → kin c ≡ true → memberless c ≡ true
kin_memberless (Expr n) l = refl
kin_memberless MemberObject l = refl
kin_memberless DotObject l = refl
kin_memberless NullishLeft l = refl
kin_memberless SimpleTarget l = refl
kin_memberless NewCallee l = refl
kin_memberless Ident l = refl
kin_memberless BindingIdent l = refl
kin_memberless (Pat Binds) l = refl
kin_memberless (Pat Assigns) l = refl
kin_memberless (PatElement Binds) l = refl
kin_memberless (PatElement Assigns) l = refl
kin_memberless (Slot Binds) l = refl
kin_memberless (Slot Assigns) l = refl
kin_memberless Param l = refl
kin_memberless Argument l = refl
kin_memberless ArrayItem l = refl
kin_memberless _ l = cc

pub no_member : (c : Nonterminal) (k : Kind) (cs : Forest) → is_member k ≡ true → memberless c ≡ true → is c (node k cs) ≡ true → ⊥
no_member c k cs s a i = by_kind k s (home_of c k cs (and_left (admits c (node k cs)) (fits_below c (node k cs)) i))
  where
    by_kind : (k : Kind) → is_member k ≡ true → in_homes c (homes k) ≡ true → ⊥
    by_kind (function (Method InObject)) s h = never _ h (not_is _ a)
    by_kind (function (Getter InObject)) s h = never _ h (not_is _ a)
    by_kind (function (Setter InObject)) s h = never _ h (not_is _ a)
    by_kind (function (Method _)) s h = cc
    by_kind (function (Getter _)) s h = cc
    by_kind (function (Setter _)) s h = cc
    by_kind (function _) s h = cc
    by_kind _ s h = cc

abbrev pub absent : Nonterminal → Bool
absent c = sealless c && memberless c

pub no_sealed : (c : Nonterminal) (k : Kind) (cs : Forest) → is_sealed k ≡ true → sealless c ≡ true → is c (node k cs) ≡ true → ⊥
no_sealed c k cs s a i = by_kind k s (home_of c k cs (and_left (admits c (node k cs)) (fits_below c (node k cs)) i))
  where
    no_element : elementless c ≡ true
    no_element = and_right (not (in_homes c (homes (function ClassExpr)))) _ (and_right (not (in_homes c (homes (function FunctionExpr)))) _ a)

    by_kind : (k : Kind) → is_sealed k ≡ true → in_homes c (homes k) ≡ true → ⊥
    by_kind (function FunctionExpr) s h = never _ h (not_is _ (and_left (not (in_homes c (homes (function FunctionExpr)))) _ a))
    by_kind (function ClassExpr) s h = never _ h (not_is _ (and_left (not (in_homes c (homes (function ClassExpr)))) _ (and_right (not (in_homes c (homes (function FunctionExpr)))) _ a)))
    by_kind (jsx Element) s h = never _ h (not_is _ no_element)
    by_kind (jsx ElementWithChildren) s h = never _ h (not_is _ no_element)
    by_kind (jsx Fragment) s h = never _ h (not_is _ no_element)
    by_kind (function _) s h = cc
    by_kind (jsx _) s h = cc
    by_kind _ s h = cc

-- arrows with a block stand where other arrows do
abbrev pub blockless : Nonterminal → Bool
blockless c = not (in_homes c (homes (expression ArrowBlock)))

pub no_blocked : (c : Nonterminal) (k : Kind) (cs : Forest) → is_blocked k ≡ true → blockless c ≡ true → is c (node k cs) ≡ true → ⊥
no_blocked c k cs s a i = by_kind k s (home_of c k cs (and_left (admits c (node k cs)) (fits_below c (node k cs)) i))
  where
    by_kind : (k : Kind) → is_blocked k ≡ true → in_homes c (homes k) ≡ true → ⊥
    by_kind (expression ArrowBlock) s h = never _ h (not_is _ a)
    by_kind (expression BareArrowBlock) s h = never _ h (not_is _ a)
    by_kind (expression _) s h = cc
    by_kind _ s h = cc

pub blocked_home : (c : Nonterminal) (k : Kind) → is_blocked k ≡ true → in_homes c (homes k) ≡ true → in_homes c (homes (expression Arrow)) ≡ true
blocked_home c (expression ArrowBlock) s h = h
blocked_home c (expression BareArrowBlock) s h = h
blocked_home c (expression _) s h = cc
blocked_home c _ s h = cc

pub blocked_level : (n : ℕ) (c : Nonterminal) (k : Kind) (cs : Forest) → is_blocked k ≡ true → place_at n c ≡ true → is c (node k cs) ≡ true → n ≤ 1
blocked_level n c k cs s p i =
    let h = blocked_home c k s (home_of c k cs (and_left (admits c (node k cs)) (fits_below c (node k cs)) i)) in
    let q = at_kind c (spine_check n) (expression Arrow) (and_right (kin c) _ p) refl h in
    le_nat (and_left (nat_le n 1) _ (and_right true _ q))

blocked_node : (k : Kind) (cs : Forest) (m : ℕ) → is_blocked k ≡ true → nat_le m 1 ≡ true → fit_slots (positions k) cs ≡ true → (fit_slots (positions (expression BareArrowBlock)) cs ≡ true → first_ok m cs ≡ true) → spine_ok m (node k cs) ≡ true
blocked_node (expression ArrowBlock) cs m s h f r = and_both (nat_le m 1) true h refl
blocked_node (expression BareArrowBlock) cs m s h f r = and_both (nat_le m 1) (first_ok m cs) h (r f)
blocked_node (expression _) cs m s h f r = cc
blocked_node _ cs m s h f r = cc

pub blocked_spine : (k : Kind) (cs : Forest) (m : ℕ) → is_blocked k ≡ true → spine_ok m (node k cs) ≡ true → m ≤ 1
blocked_spine (expression ArrowBlock) cs m s h = le_nat (and_left (nat_le m 1) _ h)
blocked_spine (expression BareArrowBlock) cs m s h = le_nat (and_left (nat_le m 1) _ h)
blocked_spine (expression _) cs m s h = cc
blocked_spine _ cs m s h = cc

pub sealed_level : (n : ℕ) (c : Nonterminal) (k : Kind) (cs : Forest) → is_sealed k ≡ true → place_at n c ≡ true → is c (node k cs) ≡ true → n ≤ 19
sealed_level n c k cs s p i =
    let h = sealed_home c k (and_left (kin c) _ p) s (home_of c k cs (and_left (admits c (node k cs)) (fits_below c (node k cs)) i)) in
    let q = at_kind c (spine_check n) (expression Array) (and_right (kin c) _ p) refl h in
    le_nat (and_left (nat_le n 19) _ (and_right true _ q))

-- it is at the highest level, and begins with a word or a bracket
level_spine : (k : Kind) (cs : Forest) (m : ℕ) → is_sealed k ≡ true → nat_le m 19 ≡ true → spine_ok m (node k cs) ≡ true
level_spine (function FunctionExpr) cs m s h = and_both (nat_le m 19) true h refl
level_spine (function ClassExpr) cs m s h = and_both (nat_le m 19) true h refl
level_spine (jsx Element) cs m s h = and_both (nat_le m 19) true h refl
level_spine (jsx ElementWithChildren) cs m s h = and_both (nat_le m 19) true h refl
level_spine (jsx Fragment) cs m s h = and_both (nat_le m 19) true h refl
level_spine (function _) cs m s h = cc
level_spine (jsx _) cs m s h = cc
level_spine _ cs m s h = cc

member_spine : (k : Kind) (cs : Forest) → is_member k ≡ true → spine_ok 18 (node k cs) ≡ true
member_spine (function (Method InObject)) cs s = refl
member_spine (function (Getter InObject)) cs s = refl
member_spine (function (Setter InObject)) cs s = refl
member_spine (function (Method _)) cs s = cc
member_spine (function (Getter _)) cs s = cc
member_spine (function (Setter _)) cs s = cc
member_spine (function _) cs s = cc
member_spine _ cs s = cc

pub spine_level : (k : Kind) (cs : Forest) (m : ℕ) → is_sealed k ≡ true → spine_ok m (node k cs) ≡ true → m ≤ 19
spine_level (function FunctionExpr) cs m s h = le_nat (and_left (nat_le m 19) _ h)
spine_level (function ClassExpr) cs m s h = le_nat (and_left (nat_le m 19) _ h)
spine_level (jsx Element) cs m s h = le_nat (and_left (nat_le m 19) _ h)
spine_level (jsx ElementWithChildren) cs m s h = le_nat (and_left (nat_le m 19) _ h)
spine_level (jsx Fragment) cs m s h = le_nat (and_left (nat_le m 19) _ h)
spine_level (function _) cs m s h = cc
spine_level (jsx _) cs m s h = cc
spine_level _ cs m s h = cc

by_tamed : (k : Kind) (cs : Forest) (c : Nonterminal) (m n : ℕ) → m ≤ n → place_at n c ≡ true → no_seq c ≡ true → Tamed k cs → is c (node k cs) ≡ true
    → (tames cs ≡ true → m ≤ base (first_of (production k)) → place_at (base (first_of (production k))) (first_of (production k)) ≡ true → no_seq (first_of (production k)) ≡ true → leads (production k) ≡ true → fit_slots (slots [] false [] (production k)) cs ≡ true → first_ok m cs ≡ true)
    → (m ≤ 19 → first_tame cs ≡ true → fit_slots (positions (expression BareArrowBlock)) cs ≡ true → first_ok m cs ≡ true) → spine_ok m (node k cs) ≡ true
by_tamed k cs c m n le p q (of_open h t) i rec bare = by_taken k cs c m n le p q h i (test (taken k)) (rec t)
by_tamed k cs c m n le p q (of_blocked s f g) i rec bare = let l = blocked_level n c k cs s p i in blocked_node k cs m s (le-leb m 1 (omega (arith, le, l))) f (λ h. bare (omega (arith, le, l)) g h)
by_tamed k cs c m n le p q (of_member s f g) i rec bare = absurd (no_member c k cs s (kin_memberless c (and_left (kin c) _ p)) i)
by_tamed k cs c m n le p q (of_sealed s f) i rec bare = let l = sealed_level n c k cs s p i in level_spine k cs m s (le-leb m 19 (omega (arith, le, l)))

mutual
  pub home_spine : (t : Tree) (c : Nonterminal) (m n : ℕ) → m ≤ n → place_at n c ≡ true → no_seq c ≡ true → tame t ≡ true → is c t ≡ true → spine_ok m t ≡ true
  home_spine (leaf s t) c m n le p q h i = refl
  home_spine (list ts) c m n le p q h i = cc
  home_spine (node k cs) c m n le p q h i =
      by_tamed k cs c m n le p q (tamed k cs h) i (λ t a b d l f. home_first cs (production k) m a b d t l f) (λ a g f. home_head cs m a g f)

  pub home_first : (cs : Forest) (ps : Production) (m : ℕ) → m ≤ base (first_of ps) → place_at (base (first_of ps)) (first_of ps) ≡ true → no_seq (first_of ps) ≡ true → tames cs ≡ true → leads ps ≡ true → fit_slots (slots [] false [] ps) cs ≡ true → first_ok m cs ≡ true
  home_first none ps m le p q h l f = absurd (first_here ps l f)
  home_first (part t ts) ps m le p q h l f = home_spine t (first_of ps) m (base (first_of ps)) le p q (and_left (tame t) (tames ts) h) (first_is ps t ts l f)

  home_head : (cs : Forest) (m : ℕ) → m ≤ 19 → first_tame cs ≡ true → fit_slots (positions (expression BareArrowBlock)) cs ≡ true → first_ok m cs ≡ true
  home_head none m le h f = cc
  home_head (part t ts) m le h f = home_spine t BindingIdent m 19 le refl refl h (first_is (production (expression BareArrowBlock)) t ts refl f)

-- a callee of `new` has no call on its spine

or_false : (a b : Bool) → (a || b) ≡ false → (a ≡ false) × (b ≡ false)
or_false true b h = absurd (never true refl h)
or_false false b h = (refl, h)

callee_level : (k : Kind) → (taken k || is_seq k) ≡ true → calls k ≡ false → nat_le 17 (level k) ≡ true → nat_le 18 (level k) ≡ true
callee_level k s c l = by_taken (test (taken k))
  where
    by_taken : Test (taken k) → nat_le 18 (level k) ≡ true
    by_taken (yes' t) = or_else (not (nat_le 17 (level k))) (nat_le 18 (level k)) (or_else (calls k) _ (for_kind (λ k. calls k || (not (nat_le 17 (level k)) || nat_le 18 (level k))) only_calls k (taken_scope k t)) c) (ap not l)
    by_taken (no' t) = absurd (never (nat_le 17 (level k)) l (ap (λ k. nat_le 17 (level k)) (seq_is k (or_else (taken k) (is_seq k) s t))))

callee_node : (k : Kind) (cs : Forest) → (taken k || is_seq k) ≡ true → spine_ok 17 (node k cs) ≡ true → spine_calls (node k cs) ≡ false → (first_ok 17 cs ≡ true → first_calls cs ≡ false → first_ok 18 cs ≡ true) → spine_ok 18 (node k cs) ≡ true
callee_node k cs s h c rec =
    let q = or_false (calls k) (leads (production k) && first_calls cs) c in
    and_both (nat_le 18 (level k)) _ (callee_level k s q.0 (and_left (nat_le 17 (level k)) _ h)) (by_lead (test (leads (production k))) (and_right (nat_le 17 (level k)) _ h) q.1)
  where
    by_lead : Test (leads (production k)) → (not (leads (production k)) || first_ok 17 cs) ≡ true → (leads (production k) && first_calls cs) ≡ false → (not (leads (production k)) || first_ok 18 cs) ≡ true
    by_lead (no' l) h c = subst (λ b. (not b || first_ok 18 cs) ≡ true) (sym l) refl
    by_lead (yes' l) h c =
        let a = rec (or_else (not (leads (production k))) (first_ok 17 cs) h (ap not l)) (sym (ap (λ b. b && first_calls cs) l) ∙ c) in
        subst (λ b. (not b || first_ok 18 cs) ≡ true) (sym l) a

callee_tamed : (k : Kind) (cs : Forest) → Tamed k cs → spine_ok 17 (node k cs) ≡ true → spine_calls (node k cs) ≡ false → (tames cs ≡ true → first_ok 17 cs ≡ true → first_calls cs ≡ false → first_ok 18 cs ≡ true) → spine_ok 18 (node k cs) ≡ true
callee_tamed k cs (of_open t m) h c rec = callee_node k cs t h c (rec m)
callee_tamed k cs (of_member s f g) h c rec = member_spine k cs s
callee_tamed k cs (of_sealed s f) h c rec = level_spine k cs 18 s refl
callee_tamed k cs (of_blocked s f g) h c rec = let l = blocked_spine k cs 17 s h in absurd (omega (arith, l))

mutual
  pub callee_spine : (t : Tree) → tame t ≡ true → spine_ok 17 t ≡ true → spine_calls t ≡ false → spine_ok 18 t ≡ true
  callee_spine (leaf s t) m h c = refl
  callee_spine (list ts) m h c = h
  callee_spine (node k cs) m h c = callee_tamed k cs (tamed k cs m) h c (λ t a b. callee_first cs t a b)

  callee_first : (cs : Forest) → tames cs ≡ true → first_ok 17 cs ≡ true → first_calls cs ≡ false → first_ok 18 cs ≡ true
  callee_first none m h c = h
  callee_first (part t ts) m h c = callee_spine t (and_left (tame t) (tames ts) m) h c

pub callee_calls : (t : Tree) → is NewCallee t ≡ true → spine_calls t ≡ false
callee_calls (leaf s t) i = refl
callee_calls (list ts) i = cc
callee_calls (node k cs) i = not_is _ (and_right (in_homes NewCallee (homes k)) (not (spine_calls (node k cs))) (and_left (admits NewCallee (node k cs)) (fits_below NewCallee (node k cs)) i))
