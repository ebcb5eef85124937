-- Two readings of one row from one place are one: once for all rows of statements.
use Rattle.jsx_tree.proofs.OneTree.Spines.{blocked_home}
use Rattle.jsx_tree.proofs.OneTree.Kept.{Which, a_statement, a_taken, a_blocked, a_seq, which, a_jsx}
use Rattle.jsx_tree.proofs.OneTree.Tags.{tagless, no_jsx}
use Rattle.jsx_tree.specs.Kinds.{Arrow}
use Rattle.std.proofs.Common.{sym}
use Rattle.jsx_tree.proofs.OneTree.Facts.{eq_nat}
use Rattle.jsx_tree.proofs.OneTree.Readings.{text_at}
use Rattle.jsx_tree.proofs.OneTree.Begins.{name', fits, bound_fits}
use Rattle.jsx_tree.specs.Form.{admits, fits_below}
use Rattle.std.specs.Prelude.{nat_eq, ◌∷◌}
use Rattle.std.proofs.Common.{◌≡◌, zero, suc, Bool, true, false, not, List, refl, ◌∙◌, ap, subst, arith}
use Rattle.std.specs.Prelude.{◌&&◌, ◌||◌}
use Rattle.jsx_base.specs.Token.{Text, TokenKind, IdentifierName}
use Rattle.jsx_tree.specs.Kinds.{Imported, Exported, From, Binds, Seq, Kind, expression, Tree, leaf, node, list, Forest, none, part}
use Rattle.jsx_tree.specs.Nonterminals.{Nonterminal, Expr, Pat, Stmt, SubStmt, Item, Declaration, BlockOnly, CatchClause, CaseClause, ClassMember, Declarators, Body, DirectiveOnly, Specifiers, ImportBindings, homes, in_homes, leaf_in}
use Rattle.jsx_tree.specs.Grammar.{Context, Production}
use Rattle.jsx_tree.specs.StaticRules.{Surroundings}
use Rattle.jsx_tree.specs.Reading.{Place}
use Rattle.jsx_tree.proofs.Tokens.{and_left, and_right}
use Rattle.std.specs.Prelude.{codes}
use Rattle.jsx_base.specs.Token.{Text, Operator, Punctuator, kind_number, same}
use Rattle.jsx_tree.specs.Signs.{Tok}
use Rattle.jsx_tree.specs.Nonterminals.{BindingIdent, ImportClause, ClassOnly}
use Rattle.jsx_tree.proofs.OneTree.Kinds.Alone.{class_part}
use Rattle.jsx_tree.specs.Grammar.{Fixed, Part}
use Rattle.jsx_tree.proofs.Tokens.{same_is}
use Rattle.jsx_tree.proofs.Rows.Bridge.{node_walk}
use Rattle.jsx_tree.proofs.OneTree.Statements.{stated_kinds}
use Rattle.jsx_tree.proofs.OneTree.Statements.{for_stated}
use Rattle.jsx_tree.proofs.OneTree.Readings.{kind_at}
use Rattle.jsx_tree.proofs.OneTree.Facts.{Seen, took}
use Rattle.jsx_tree.proofs.OneTree.Fine.{at_sign, at_part}
use Rattle.jsx_tree.proofs.OneTree.Spines.{home_of}
use Rattle.jsx_tree.proofs.OneTree.Parts.{Named, clause_read, word_read, word_same}
use Rattle.jsx_tree.proofs.OneTree.Wants.{other, is_at}
use Rattle.jsx_tree.proofs.OneTree.Begins.{at_seen}
use Rattle.jsx_tree.specs.Walk as W
use Rattle.jsx_tree.specs.Walk.{pieces, IsRead}
use Rattle.jsx_tree.proofs.OneTree.Table.{kinds}
use Rattle.jsx_tree.proofs.OneTree.Known.{stated, known}
use Rattle.jsx_tree.proofs.OneTree.Evidence.{Kept, Kepts, kept_left, kept_kind, kept_parts}
use Rattle.jsx_tree.proofs.OneTree.Checks.{every}
use Rattle.jsx_tree.proofs.OneTree.Facts.{never, or_else, not_is, Test, yes', no', test, for_kind}
use Rattle.jsx_tree.proofs.OneTree.Endings.{past}
use Rattle.jsx_tree.proofs.OneTree.Afters.{after_tree}
use Rattle.jsx_tree.proofs.OneTree.Parts.{tame_of, calm_most, SameAt, expr_same, whole_same, wordy, word_read, word_same}
use Rattle.jsx_tree.proofs.OneTree.Wants.{Want, ended, meets, is_calm, follow, follow_meets}
use Rattle.jsx_tree.proofs.OneTree.Begins.{is_own, want_of}

-- ---- trees for which the law is known

pub record One (t : Tree) : Type 0 where
  pub one : (c : Nonterminal) (u : Tree) {v w : Surroundings} {x y z : Place} → is_own c ≡ true → Kept t → Kept u → IsRead v false c x t y → IsRead w false c x u z
      → meets (want_of c) y ≡ true → meets (want_of c) z ≡ true → SameAt t u y z

pub data Each : Tree → Type 0 where
  each_leaf : {s : TokenKind} {t : Text} → Each (leaf s t)
  each_node : {k : Kind} {cs : Forest} → One (node k cs) → Each (list cs) → Each (node k cs)
  each_none : Each (list none)
  each_part : {t : Tree} {ts : Forest} → Each t → Each (list ts) → Each (list (part t ts))

-- the parts of a node, as a list
abbrev pub All : Forest → Type 0
All ts = Each (list ts)

pub all_parts : {t : Tree} {ts : Forest} → All (part t ts) → Each t × All ts
all_parts (each_part e es) = (e, es)

pub each_all : {k : Kind} {cs : Forest} → Each (node k cs) → All cs
each_all (each_node e a) = a

-- ---- own places

own_clean : (c : Nonterminal) → is_own c ≡ true → (every (λ k. not (in_homes c (homes k))) kinds && tagless c) ≡ true
own_clean Stmt o = refl
own_clean SubStmt o = refl
own_clean Item o = refl
own_clean Declaration o = refl
own_clean BlockOnly o = refl
own_clean CatchClause o = refl
own_clean CaseClause o = refl
own_clean ClassMember o = refl
own_clean Declarators o = refl
own_clean Body o = refl
own_clean DirectiveOnly o = refl
own_clean (Specifiers Imported) o = refl
own_clean (Specifiers Exported) o = refl
own_clean (Specifiers From) o = refl
own_clean ImportBindings o = refl
own_clean ImportClause o = refl
own_clean _ o = cc

own_seq : (c : Nonterminal) → is_own c ≡ true → in_homes c (homes (expression Seq)) ≡ false
own_seq Stmt o = refl
own_seq SubStmt o = refl
own_seq Item o = refl
own_seq Declaration o = refl
own_seq BlockOnly o = refl
own_seq CatchClause o = refl
own_seq CaseClause o = refl
own_seq ClassMember o = refl
own_seq Declarators o = refl
own_seq Body o = refl
own_seq DirectiveOnly o = refl
own_seq (Specifiers Imported) o = refl
own_seq (Specifiers Exported) o = refl
own_seq (Specifiers From) o = refl
own_seq ImportBindings o = refl
own_seq ImportClause o = refl
own_seq _ o = cc

-- where no leaf stands
abbrev pub leafless : Nonterminal → Bool
leafless ImportClause = false
leafless c = is_own c

pub own_leaf : (c : Nonterminal) (s : TokenKind) (t : Text) → leafless c ≡ true → leaf_in c s t ≡ true → ⊥
own_leaf Stmt IdentifierName t o h = cc
own_leaf Stmt _ t o h = cc
own_leaf SubStmt IdentifierName t o h = cc
own_leaf SubStmt _ t o h = cc
own_leaf Item IdentifierName t o h = cc
own_leaf Item _ t o h = cc
own_leaf Declaration IdentifierName t o h = cc
own_leaf Declaration _ t o h = cc
own_leaf BlockOnly IdentifierName t o h = cc
own_leaf BlockOnly _ t o h = cc
own_leaf CatchClause IdentifierName t o h = cc
own_leaf CatchClause _ t o h = cc
own_leaf CaseClause IdentifierName t o h = cc
own_leaf CaseClause _ t o h = cc
own_leaf ClassMember IdentifierName t o h = cc
own_leaf ClassMember _ t o h = cc
own_leaf Declarators IdentifierName t o h = cc
own_leaf Declarators _ t o h = cc
own_leaf Body IdentifierName t o h = cc
own_leaf Body _ t o h = cc
own_leaf DirectiveOnly IdentifierName t o h = cc
own_leaf DirectiveOnly _ t o h = cc
own_leaf (Specifiers Imported) IdentifierName t o h = cc
own_leaf (Specifiers Imported) _ t o h = cc
own_leaf (Specifiers Exported) IdentifierName t o h = cc
own_leaf (Specifiers Exported) _ t o h = cc
own_leaf (Specifiers From) IdentifierName t o h = cc
own_leaf (Specifiers From) _ t o h = cc
own_leaf ImportBindings IdentifierName t o h = cc
own_leaf ImportBindings _ t o h = cc
own_leaf _ s t o h = cc

-- what stands at such a place is a statement's kind
pub own_kind : (c : Nonterminal) (k : Kind) → is_own c ≡ true → known k ≡ true → in_homes c (homes k) ≡ true → stated k ≡ true
own_kind c k o h i = by_which (which k h)
  where
    kinds_clean : every (λ k. not (in_homes c (homes k))) kinds ≡ true
    kinds_clean = and_left (every (λ k. not (in_homes c (homes k))) kinds) (tagless c) (own_clean c o)

    by_which : Which k → stated k ≡ true
    by_which (a_statement t) = t
    by_which (a_taken t) = absurd (never (in_homes c (homes k)) i (not_is _ (for_kind (λ k. not (in_homes c (homes k))) kinds_clean k t)))
    by_which (a_blocked b) = absurd (never (in_homes c (homes (expression Arrow))) (blocked_home c k b i) (not_is _ (for_kind (λ k. not (in_homes c (homes k))) kinds_clean (expression Arrow) refl)))
    by_which (a_jsx j) = absurd (no_jsx c k j (and_right (every (λ k. not (in_homes c (homes k))) kinds) (tagless c) (own_clean c o)) i)
    by_which (a_seq e) = absurd (never (in_homes c (homes k)) i (ap (λ k. in_homes c (homes k)) e ∙ own_seq c o))

-- what is imported is a name alone, or begins otherwise
abbrev pub clause_row : List W.Piece → Bool
clause_row (W.piece a (Fixed (Tok Operator Punctuator t)) ∷ ps) = not (same t (codes "(") || same t (codes "."))
clause_row (W.piece a (Part BindingIdent) ∷ W.piece b (Fixed (Tok Operator Punctuator t)) ∷ ps) = same t (codes ",")
clause_row ps = false

clause_rows : every (λ k. not (in_homes ImportClause (homes k)) || clause_row (W.row false k)) stated_kinds ≡ true
clause_rows = refl

clause_walk : {V : List Context → Surroundings} (ps : List W.Piece) {x y z : Place} {t : Tree} {us : Forest} → clause_row ps ≡ true → Named x t y → Kepts us → W.Walk IsRead V ps x us z → meets (other Punctuator (codes ",")) y ≡ true → ⊥
clause_walk (W.piece a (Fixed (Tok Operator Punctuator u)) ∷ ps) {x} h n k w m =
    let s = at_sign w in
    let b : Seen x Punctuator u = took Punctuator u x s.moves s.found in
    let c : Seen x n.word.kind n.word.text = took n.word.kind n.word.text x n.word.moves n.word.found in
    never (nat_eq (kind_at x) 1) (ap (λ n. nat_eq n 1) b.kind) (ap (λ n. nat_eq n 1) (c.kind ∙ ap kind_number n.is_name))
clause_walk (W.piece a (Part BindingIdent) ∷ W.piece b (Fixed (Tok Operator Punctuator u)) ∷ ps) {x} {y} h n k w m =
    let p = at_part w in
    let s = at_sign p.walk in
    let e = word_same n.word (word_read BindingIdent p.tree refl (kept_left (subst Kepts p.is k)) p.read) in
    let b : Seen p.next Punctuator u = took Punctuator u p.next s.moves s.found in
    let c : Seen y Punctuator u = subst (λ z. Seen z Punctuator u) (sym e.place) b in
    never (is_at y Punctuator (codes ",")) (at_seen {x = y} {k = Punctuator} {t = codes ","} (record { kind = c.kind; text = c.text ∙ same_is u (codes ",") h })) (not_is _ m)
clause_walk _ h n k w m = cc

pub clause_clash : {v w : Surroundings} {x y z : Place} (s : TokenKind) (t : Text) (k : Kind) (cs : Forest) → Kept (node k cs) → IsRead v false ImportClause x (leaf s t) y → IsRead w false ImportClause x (node k cs) z → meets (other Punctuator (codes ",")) y ≡ true → ⊥
clause_clash s t k cs h r p m =
    let i = home_of ImportClause k cs (and_left (admits ImportClause (node k cs)) (fits_below ImportClause (node k cs)) p.is) in
    let o = own_kind ImportClause k refl (kept_kind h) i in
    clause_walk (W.row false k) (or_else (not (in_homes ImportClause (homes k))) _ (for_stated (λ k. not (in_homes ImportClause (homes k)) || clause_row (W.row false k)) clause_rows k o) (ap not i)) (clause_read s t r) (kept_parts h) (node_walk false k refl p).walk m

pub clause_is : (c : Nonterminal) → is_own c ≡ true → leafless c ≡ false → c ≡ ImportClause
clause_is ImportClause o n = refl
clause_is Stmt o n = cc
clause_is SubStmt o n = cc
clause_is Item o n = cc
clause_is Declaration o n = cc
clause_is BlockOnly o n = cc
clause_is CatchClause o n = cc
clause_is CaseClause o n = cc
clause_is ClassMember o n = cc
clause_is Declarators o n = cc
clause_is Body o n = cc
clause_is DirectiveOnly o n = cc
clause_is (Specifiers s) o n = cc
clause_is ImportBindings o n = cc
clause_is _ o n = cc

-- what goes on with the word `import` of an expression
abbrev pub calls_on : Place → Bool
calls_on x = nat_eq (kind_at x) 1 && (same (text_at x) (codes "(") || same (text_at x) (codes "."))

clause_begins : {V : List Context → Surroundings} (ps : List W.Piece) {x z : Place} {us : Forest} → clause_row ps ≡ true → Kepts us → W.Walk IsRead V ps x us z → (calls_on x ≡ false) × (nat_eq (kind_at x) 4 ≡ false)
clause_begins (W.piece a (Fixed (Tok Operator Punctuator u)) ∷ ps) {x} h k w =
    let s = at_sign w in
    let b : Seen x Punctuator u = took Punctuator u x s.moves s.found in
    ((λ i. nat_eq (b.kind i) 1 && (same (b.text i) (codes "(") || same (b.text i) (codes "."))) ∙ not_is _ h, ap (λ n. nat_eq n 4) b.kind)
clause_begins (W.piece a (Part BindingIdent) ∷ W.piece b (Fixed (Tok Operator Punctuator u)) ∷ ps) {x} h k w =
    let p = at_part w in
    let e = zero_kind x (bound_fits p.tree (kept_left (subst Kepts p.is k)) p.read) in
    ((λ i. nat_eq (e i) 1 && (same (text_at x) (codes "(") || same (text_at x) (codes "."))), ap (λ n. nat_eq n 4) e)
  where
    zero_kind : (x : Place) → fits name' x ≡ true → kind_at x ≡ 0
    zero_kind x h = eq_nat {a = kind_at x} {b = 0} (and_left (nat_eq (kind_at x) 0) _ h)
clause_begins _ h k w = cc

-- what is imported begins neither as a string nor as what goes on with the word
pub clause_first : {v : Surroundings} {x y : Place} (t : Tree) → Kept t → IsRead v false ImportClause x t y → (calls_on x ≡ false) × (nat_eq (kind_at x) 4 ≡ false)
clause_first {x = x} (leaf s t) h r =
    let n = clause_read s t r in
    let b : Seen x n.word.kind n.word.text = took n.word.kind n.word.text x n.word.moves n.word.found in
    let e = b.kind ∙ ap kind_number n.is_name in
    ((λ i. nat_eq (e i) 1 && (same (text_at x) (codes "(") || same (text_at x) (codes "."))), ap (λ n. nat_eq n 4) e)
clause_first (list ts) h r = let bad = r.is in cc
clause_first (node k cs) h r =
    let i = home_of ImportClause k cs (and_left (admits ImportClause (node k cs)) (fits_below ImportClause (node k cs)) r.is) in
    let o = own_kind ImportClause k refl (kept_kind h) i in
    clause_begins (W.row false k) (or_else (not (in_homes ImportClause (homes k))) _ (for_stated (λ k. not (in_homes ImportClause (homes k)) || clause_row (W.row false k)) clause_rows k o) (ap not i)) (kept_parts h) (node_walk false k refl r).walk

clause_same : {v w : Surroundings} {x y z : Place} (s : TokenKind) (t : Text) (u : Tree) → Kept u → IsRead v false ImportClause x (leaf s t) y → IsRead w false ImportClause x u z → meets (other Punctuator (codes ",")) y ≡ true → SameAt (leaf s t) u y z
clause_same s t (leaf r u) h p q m = word_same (clause_read s t p).word (clause_read r u q).word
clause_same s t (list us) h p q m = let bad = q.is in cc
clause_same s t (node k cs) h p q m = absurd (clause_clash s t k cs h p q m)

pub own_same : (c : Nonterminal) {v w : Surroundings} {x y z : Place} (t u : Tree) → is_own c ≡ true → Each t → Kept t → Kept u → IsRead v false c x t y → IsRead w false c x u z → meets (want_of c) y ≡ true → meets (want_of c) z ≡ true → SameAt t u y z
own_same c {v} {w} {x} {y} {z} (leaf s t) u o each_leaf h g r p m n = by_leafless (test (leafless c))
  where
    by_leafless : Test (leafless c) → SameAt (leaf s t) u y z
    by_leafless (yes' l) = absurd (own_leaf c s t l (and_left (leaf_in c s t) _ r.is))
    by_leafless (no' l) =
        let e = clause_is c o l in
        clause_same s t u g (subst (λ c. IsRead v false c x (leaf s t) y) e r) (subst (λ c. IsRead w false c x u z) e p) (subst (λ c. meets (want_of c) y ≡ true) e m)
own_same c (node k cs) u o (each_node e a) h g r p m n = e.one c u o h g r p m n
own_same c (list ts) u o e h g r p m n = let bad = r.is in cc

-- ---- a part of a row

abbrev pub is_whole : Nonterminal → Bool
is_whole (Expr zero) = true
is_whole c = false

abbrev pub is_single : Nonterminal → Bool
is_single (Expr (suc zero)) = true
is_single c = false

abbrev pub is_pattern : Nonterminal → Bool
is_pattern (Pat Binds) = true
is_pattern c = false

pub whole_is : (c : Nonterminal) → is_whole c ≡ true → c ≡ Expr 0
whole_is (Expr zero) h = refl
whole_is (Expr (suc n)) h = cc
whole_is _ h = cc

single_is : (c : Nonterminal) → is_single c ≡ true → c ≡ Expr 1
single_is (Expr zero) h = cc
single_is (Expr (suc zero)) h = refl
single_is (Expr (suc (suc n))) h = cc
single_is _ h = cc

pattern_is : (c : Nonterminal) → is_pattern c ≡ true → c ≡ Pat Binds
pattern_is (Pat Binds) h = refl
pattern_is (Pat _) h = cc
pattern_is _ h = cc

abbrev pub is_alone : Nonterminal → Bool
is_alone ClassOnly = true
is_alone c = false

alone_is : (c : Nonterminal) → is_alone c ≡ true → c ≡ ClassOnly
alone_is ClassOnly h = refl
alone_is _ h = cc

abbrev pub part_good : Want → Production → Nonterminal → Bool
part_good e ps c = is_alone c || ((is_whole c && follow e ps (ended 0)) || ((is_single c && follow e ps (ended 1)) || (is_pattern c || (wordy c || (is_own c && follow e ps (want_of c))))))

-- two readings of what stands behind a part
pub record Rest (V : List Context → Surroundings) (a : List Context) (e : Want) (ps : Production) (y : Place) : Type 0 where
  pub trees : Forest
  pub end : Place
  pub walk : W.Walk IsRead V (pieces a ps) y trees end
  pub good : Kepts trees
  pub ends : meets e end ≡ true

pub rest_meets : {V : List Context → Surroundings} {a : List Context} {e : Want} {ps : Production} {y : Place} (w : Want) → Rest V a e ps y → follow e ps w ≡ true → (is_calm w ≡ true → past y ≡ true) → meets w y ≡ true
rest_meets {a = a} {e} {ps} w r h c = follow_meets e ps w a h c r.walk r.good r.ends

whole_part : {V V' : List Context → Surroundings} {v v' : Surroundings} {a : List Context} {e : Want} {ps : Production} {x y z : Place} (t u : Tree) → follow e ps (ended 0) ≡ true → Kept t → Kept u
    → IsRead v false (Expr 0) x t y → IsRead v' false (Expr 0) x u z → Rest V a e ps y → Rest V' a e ps z → SameAt t u y z
whole_part t u h k l r s p q =
    let i = tame_of t (Expr 0) refl k r.is in
    let j = tame_of u (Expr 0) refl l s.is in
    whole_same t u i j r s (rest_meets (ended 0) p h (λ _. after_tree t (Expr 0) i refl r)) (rest_meets (ended 0) q h (λ _. after_tree u (Expr 0) j refl s))

single_part : {V V' : List Context → Surroundings} {v v' : Surroundings} {a : List Context} {e : Want} {ps : Production} {x y z : Place} (t u : Tree) → follow e ps (ended 1) ≡ true → Kept t → Kept u
    → IsRead v false (Expr 1) x t y → IsRead v' false (Expr 1) x u z → Rest V a e ps y → Rest V' a e ps z → SameAt t u y z
single_part t u h k l r s p q =
    let i = tame_of t (Expr 1) refl k r.is in
    let j = tame_of u (Expr 1) refl l s.is in
    expr_same 1 1 (Expr 1) t u (omega arith) (record { kin' = refl; home' = refl; ended' = refl; seq' = refl }) refl i j r s (rest_meets (ended 1) p h (λ _. after_tree t (Expr 1) i refl r)) (rest_meets (ended 1) q h (λ _. after_tree u (Expr 1) j refl s))

pub pattern_part : {v v' : Surroundings} {x y z : Place} (t u : Tree) → Kept t → Kept u → IsRead v false (Pat Binds) x t y → IsRead v' false (Pat Binds) x u z → SameAt t u y z
pattern_part {y = y} {z} t u k l r s =
    expr_same 19 19 (Pat Binds) t u (omega arith) (record { kin' = refl; home' = refl; ended' = refl; seq' = refl }) refl (tame_of t (Pat Binds) refl k r.is) (tame_of u (Pat Binds) refl l s.is) r s (calm_most y) (calm_most z)

move_place : {v : Surroundings} {c d : Nonterminal} {x y : Place} {t : Tree} → c ≡ d → IsRead v false c x t y → IsRead v false d x t y
move_place {v} {x = x} {y} {t} e r = subst (λ c. IsRead v false c x t y) e r

pub part_same : {V V' : List Context → Surroundings} {v v' : Surroundings} {a : List Context} {e : Want} {ps : Production} (c : Nonterminal) {x y z : Place} (t u : Tree) → part_good e ps c ≡ true → Each t → Kept t → Kept u
    → IsRead v false c x t y → IsRead v' false c x u z → Rest V a e ps y → Rest V' a e ps z → SameAt t u y z
part_same {e = e} {ps} c {x} {y} {z} t u h f k l r s p q = by_alone (test (is_alone c))
  where
    by_own : (is_own c && follow e ps (want_of c)) ≡ true → SameAt t u y z
    by_own g =
        let o = and_left (is_own c) _ g in
        let i = and_right (is_own c) _ g in
        own_same c t u o f k l r s (rest_meets (want_of c) p i (no_calm c o)) (rest_meets (want_of c) q i (no_calm c o))
      where
        no_calm : (c : Nonterminal) {P : Type 0} → is_own c ≡ true → is_calm (want_of c) ≡ true → P
        no_calm Stmt o h = cc
        no_calm SubStmt o h = cc
        no_calm Item o h = cc
        no_calm Declaration o h = cc
        no_calm BlockOnly o h = cc
        no_calm CatchClause o h = cc
        no_calm CaseClause o h = cc
        no_calm ClassMember o h = cc
        no_calm Declarators o h = cc
        no_calm Body o h = cc
        no_calm DirectiveOnly o h = cc
        no_calm (Specifiers s) o h = cc
        no_calm ImportBindings o h = cc
        no_calm ImportClause o h = cc
        no_calm _ o h = cc

    by_word : Test (wordy c) → (wordy c || (is_own c && follow e ps (want_of c))) ≡ true → SameAt t u y z
    by_word (yes' w) g = word_same (word_read c t w k r) (word_read c u w l s)
    by_word (no' w) g = by_own (or_else (wordy c) _ g w)

    by_pattern : Test (is_pattern c) → (is_pattern c || (wordy c || (is_own c && follow e ps (want_of c)))) ≡ true → SameAt t u y z
    by_pattern (yes' w) g = pattern_part t u k l (move_place (pattern_is c w) r) (move_place (pattern_is c w) s)
    by_pattern (no' w) g = by_word (test (wordy c)) (or_else (is_pattern c) _ g w)

    by_single : Test (is_single c && follow e ps (ended 1)) → ((is_single c && follow e ps (ended 1)) || (is_pattern c || (wordy c || (is_own c && follow e ps (want_of c))))) ≡ true → SameAt t u y z
    by_single (yes' w) g = let i = single_is c (and_left (is_single c) _ w) in single_part t u (and_right (is_single c) _ w) k l (move_place i r) (move_place i s) p q
    by_single (no' w) g = by_pattern (test (is_pattern c)) (or_else (is_single c && follow e ps (ended 1)) _ g w)

    by_whole : Test (is_whole c && follow e ps (ended 0)) → ((is_whole c && follow e ps (ended 0)) || ((is_single c && follow e ps (ended 1)) || (is_pattern c || (wordy c || (is_own c && follow e ps (want_of c)))))) ≡ true → SameAt t u y z
    by_whole (yes' w) g = let i = whole_is c (and_left (is_whole c) _ w) in whole_part t u (and_right (is_whole c) _ w) k l (move_place i r) (move_place i s) p q
    by_whole (no' w) g = by_single (test (is_single c && follow e ps (ended 1))) (or_else (is_whole c && follow e ps (ended 0)) _ g w)

    by_alone : Test (is_alone c) → SameAt t u y z
    by_alone (yes' w) = let i = alone_is c w in class_part t u k l (move_place i r) (move_place i s)
    by_alone (no' w) = by_whole (test (is_whole c && follow e ps (ended 0))) (or_else (is_alone c) _ h w)
