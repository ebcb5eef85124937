-- A text has one tree: two kinds at one place begin with tokens that differ, and one kind reads its row in one way.
use Rattle.std.specs.Prelude.{◌&&◌}
use Rattle.jsx_tree.proofs.OneTree.Next.{reach_seen}
use Rattle.jsx_tree.proofs.OneTree.Wants.{still}
use Rattle.jsx_tree.proofs.OneTree.Kinds.Directives.{is_expr_stmt, expr_stmt_is}
use Rattle.jsx_tree.proofs.OneTree.Kinds.Imports.{import_row, import_clash}
use Rattle.std.proofs.Common.{◌≡◌, ℕ, ◌≤◌, zero, suc, Bool, true, false, not, List, [], ◌∷◌, refl, sym, ◌∙◌, ap, subst, arith}
use Rattle.std.specs.Prelude.{IsTrue, ◌+◌, ◌||◌, nat_eq, codes}
use Rattle.jsx_base.specs.Token.{Text, Operator, TokenKind, IdentifierName, Punctuator, same, breaks}
use Rattle.jsx_tree.specs.declared.text.Goal.{Goal}
use Rattle.jsx_tree.specs.declared.text.Goal.TheVariants as goals
use Rattle.jsx_tree.specs.Signs.{Tok, Semicolon, Unless, AfterExpr}
use Rattle.jsx_tree.specs.Kinds.{FunctionExpr, ClassExpr, InObject, Method, Getter, Setter, Imported, Exported, From, ProgramKind, Module, Script, FunctionBody, ExprStmt, Label, For, ForIn, ForOf, Kind, ExportNames, ExportFrom, program, statement, function, Tree, leaf, node, list, Forest, none, part}
use Rattle.jsx_tree.specs.Nonterminals.{Nonterminal, Expr, ObjectMember, Ident, Stmt, SubStmt, Item, Declaration, BlockOnly, CatchClause, CaseClause, ClassMember, Declarators, Body, DirectiveOnly, Specifiers, ImportBindings, ImportClause, WholeProgram, homes, in_homes, leaf_in, is_ident}
use Rattle.jsx_tree.specs.Grammar.{heads, Lines, TopLines, InCode, InModuleCode, production}
use Rattle.jsx_tree.specs.Form.{admits, is, fits_below}
use Rattle.jsx_tree.specs.StaticRules.{Surroundings, outside, rule}
use Rattle.jsx_tree.specs.Spelling.{spelled}
use Rattle.jsx_tree.specs.Reading.{Place, Lost, At, forth, scan, continues, ended_at}
use Rattle.jsx_tree.specs.Program.{is_goal, Reads}
use Rattle.jsx_tree.proofs.Tokens.{and_left, and_right}
use Rattle.jsx_tree.specs.Walk as W
use Rattle.jsx_tree.specs.Walk.{is_found, IsRead, IsNode}
use Rattle.jsx_tree.proofs.OneTree.Statements.{place, stated_kinds, nth}
use Rattle.jsx_tree.proofs.OneTree.Readings as R
use Rattle.jsx_tree.proofs.OneTree.Readings.{Whole, single, several, calm, reach_of, kind_at, text_at, broken}
use Rattle.jsx_tree.proofs.OneTree.Checks.{every}
use Rattle.jsx_tree.proofs.OneTree.Facts.{never, or_else, Test, yes', no', test, eq_nat, Seen, took}
use Rattle.jsx_tree.proofs.OneTree.Growths.{split}
use Rattle.jsx_tree.proofs.OneTree.Pairs.{ends, two_tokens}
use Rattle.jsx_tree.proofs.OneTree.Agreeing.{passes}
use Rattle.jsx_tree.proofs.Rows.Bridge.{node_walk}
use Rattle.jsx_tree.proofs.OneTree.Fine.{at_sign, at_part}
use Rattle.jsx_tree.proofs.OneTree.Fine.{calm_more}
use Rattle.jsx_tree.proofs.OneTree.Spines.{home_of}
use Rattle.jsx_tree.proofs.OneTree.Placed.{whole_reads}
use Rattle.jsx_tree.proofs.OneTree.Chains.{fine, element_first}
use Rattle.jsx_tree.proofs.OneTree.Statements.{stated_nth, for_stated}
use Rattle.jsx_tree.proofs.OneTree.Endings.{after}
use Rattle.jsx_tree.proofs.OneTree.Missing.{at_semi}
use Rattle.jsx_tree.proofs.OneTree.Endings.{end_kind}
use Rattle.jsx_tree.proofs.OneTree.Missing.{Behind, a_mark, a_brace, a_line, behind}
use Rattle.jsx_tree.proofs.OneTree.Afters.{after_tok, after_tree}
use Rattle.jsx_tree.proofs.OneTree.Known.{stated, known, kept, kepts, size, sizes}
use Rattle.jsx_tree.proofs.OneTree.Sealed.{is_sealed, is_worded, is_element, is_member}
use Rattle.jsx_tree.proofs.OneTree.Angles.{angle_here}
use Rattle.jsx_tree.proofs.OneTree.Elements.{elements_same}
use Rattle.jsx_tree.proofs.OneTree.Evidence.{Law, Kept, Kepts, kept_left, kept_kind, kept_parts}
use Rattle.jsx_tree.proofs.OneTree.Parts.{tame_of, SameAt, word_read}
use Rattle.jsx_tree.proofs.OneTree.Wants.{anything, parted, idle, shutting, idle_at, meets, seen_met, implied, mark, look_same}
use Rattle.jsx_tree.proofs.OneTree.Begins.{is_own, want_of, front, front_fits}
use Rattle.jsx_tree.proofs.OneTree.Rows.{One, Each, each_leaf, each_node, each_none, each_part, All, leafless, own_leaf, own_kind, clause_is, clause_clash}
use Rattle.jsx_tree.proofs.OneTree.Lists.{SameRow}
use Rattle.jsx_tree.proofs.OneTree.Same.{no_ending, row_good, row_same}
use Rattle.jsx_tree.proofs.OneTree.Prefixes.{front_apart, fronts_apart, rows_apart, rows_clash, words_apart, words_clash}
use Rattle.jsx_tree.proofs.OneTree.Kinds.Directives.{body_same}
use Rattle.jsx_tree.proofs.OneTree.Kinds.Members.{members_apart, members_clash}
use Rattle.jsx_tree.proofs.OneTree.Kinds.Exports.{exports_apart}
use Rattle.jsx_tree.proofs.OneTree.Kinds.ForHeads.{for_in_apart, for_of_apart, in_of_apart}

-- ---- a label and an expression

ident_word : (s : TokenKind) (t : Text) → leaf_in Ident s t ≡ true → R.may_be s t ≡ true
ident_word IdentifierName t h = or_left (is_ident t) _ h
  where
    or_left : (a b : Bool) → a ≡ true → (a || b) ≡ true
    or_left true b h = refl
    or_left false b h = cc
ident_word _ t h = cc

colon_calm : (x : Place) → Seen x Punctuator (codes ":") → calm 1 x ≡ true
colon_calm x s = reach_seen Punctuator (codes ":") 1 x s refl

-- no semicolon is missing before a `:`
colon_semi : (x : Place) → after x ≡ true → Seen x Punctuator (codes ":") → IsTrue (is_found (forth Semicolon x)) → ⊥
colon_semi (At q AfterExpr text) a s f = by_behind (behind q AfterExpr text refl f (ap (λ k. nat_eq k 14) s.kind))
  where
    by_behind : Behind AfterExpr q (breaks text) (kind_at (At q AfterExpr text)) (text_at (At q AfterExpr text)) → ⊥
    by_behind (a_mark k t) = never (same (codes ":") (codes ";")) (ap (λ u. same u (codes ";")) (sym s.text ∙ t)) refl
    by_behind (a_brace k t) = never (same (codes ":") (codes "}")) (ap (λ u. same u (codes "}")) (sym s.text ∙ t)) refl
    by_behind (a_line b' c) = never (continues AfterExpr q (codes ":")) refl (ap (continues AfterExpr q) (sym s.text) ∙ c)
colon_semi _ a s f = cc

-- a name before a `:` begins no expression statement
name_colon : (k : TokenKind) (t : Text) {x p q y : Place} {e : Tree} → leaf_in Ident k t ≡ true → forth (Tok Operator k t) x ≡ p → IsTrue (is_found p) → forth (mark (codes ":")) p ≡ q → IsTrue (is_found q) → Whole x e y → IsTrue (is_found (forth Semicolon y)) → ⊥
name_colon k t {x} {p} {q} {y} d i f g n w s = by_whole w s
  where
    colon : Seen p Punctuator (codes ":")
    colon = took Punctuator (codes ":") p g n

    name : R.Reads 1 x (leaf k t) p
    name = R.word (ident_word k t d) i f

    by_whole : {u : Tree} {z : Place} → Whole x u z → IsTrue (is_found (forth Semicolon z)) → ⊥
    by_whole (single {y = z} r c) s =
        let o = ends (passes name (omega arith) (split r (omega arith)) (calm_more 0 1 z (omega arith) c)) (colon_calm p colon) in
        colon_semi p (after_tok Operator k t x i f) colon (subst (λ z. IsTrue (is_found (forth Semicolon z))) (sym o.place) s)
    by_whole (several {y = z} r c g' n' w') s =
        let o = ends (passes name (omega arith) (split r (omega arith)) c) (colon_calm p colon) in
        two_tokens colon (subst (λ z. Seen z Punctuator (codes ",")) (sym o.place) (took Punctuator (codes ",") z g' n')) refl

label_apart : {v w : Surroundings} {x y z : Place} (cs ds : Forest) → Kepts cs → Kepts ds → IsNode IsRead v false (statement Label) x cs y → IsNode IsRead w false (statement ExprStmt) x ds z → ⊥
label_apart {x = x} cs ds h k a b =
    let p = at_part a.walk in
    let c = at_sign p.walk in
    let w = word_read Ident p.tree refl (kept_left (subst Kepts p.is h)) p.read in
    let s = at_sign b.walk in
    let e = at_part s.walk in
    let i = tame_of e.tree (Expr 0) refl (kept_left (subst Kepts e.is k)) e.read.is in
    let m = at_sign e.walk in
    let f = subst (λ z. IsTrue (is_found z)) (sym m.moves) m.found in
    let whole = whole_reads e.tree (fine e.tree i) i.tame' e.read (at_semi e.next (after_tree e.tree (Expr 0) i refl e.read) f) in
    let back = unless_place heads x s.next s.moves s.found in
    name_colon w.kind w.text (and_left (leaf_in Ident w.kind w.text) _ (subst (λ t. is Ident t ≡ true) w.is_leaf p.read.is)) w.moves w.found c.moves c.found (subst (λ z. Whole z e.tree e.next) (sym back) whole) f
  where
    unless_place : (ts : List Text) (x y : Place) → forth (Unless ts) x ≡ y → IsTrue (is_found y) → x ≡ y
    unless_place ts x y e f = look_same (Unless ts) x y refl e f

no_word : {P : Type 0} → false ≡ true → P
no_word h = cc

-- ---- two kinds at one place

-- pairs with an argument of their own
abbrev pub odd_pair : Kind → Kind → Bool
odd_pair (statement Label) (statement ExprStmt) = true
odd_pair (statement For) (statement ForIn) = true
odd_pair (statement For) (statement ForOf) = true
odd_pair (statement ForIn) (statement ForOf) = true
odd_pair (program ExportNames) (program ExportFrom) = true
odd_pair k l = false

-- the first tokens differ behind one that both have
abbrev pub prefix_apart : Nonterminal → Kind → Kind → Bool
prefix_apart Item k l = rows_apart (W.row false k) (W.row false l) || (import_row (W.row false k) && is_expr_stmt l)
prefix_apart (Specifiers s) k l = words_apart parted (W.row false k) (W.row false l)
prefix_apart ClassMember k l = members_apart (W.row false k) (W.row false l)
prefix_apart c k l = false

abbrev pub pair_told : Nonterminal → Kind → Kind → Bool
pair_told c k l =
    not (in_homes c (homes k)) || (not (in_homes c (homes l)) || (nat_eq (place k) (place l)
    || (front_apart (front (want_of c) (production k)) (front (want_of c) (production l)) || (odd_pair k l || (odd_pair l k || (prefix_apart c k l || prefix_apart c l k))))))

abbrev pub pairs_told : Nonterminal → Bool
pairs_told c = every (λ k. every (pair_told c k) stated_kinds) stated_kinds

-- what holds directives
abbrev pub is_body : Kind → Bool
is_body (program FunctionBody) = true
is_body k = false

body_is : (k : Kind) → is_body k ≡ true → k ≡ program FunctionBody
body_is (program FunctionBody) h = refl
body_is (program _) h = cc
body_is _ h = cc

abbrev pub row_told : Nonterminal → Kind → Bool
row_told c k = not (in_homes c (homes k)) || (is_body k || row_good no_ending (want_of c) (production k))

all_pairs : (c : Nonterminal) → is_own c ≡ true → pairs_told c ≡ true
all_pairs Stmt o = refl
all_pairs SubStmt o = refl
all_pairs Item o = refl
all_pairs Declaration o = refl
all_pairs BlockOnly o = refl
all_pairs CatchClause o = refl
all_pairs CaseClause o = refl
all_pairs ClassMember o = refl
all_pairs Declarators o = refl
all_pairs Body o = refl
all_pairs DirectiveOnly o = refl
all_pairs (Specifiers Imported) o = refl
all_pairs (Specifiers Exported) o = refl
all_pairs (Specifiers From) o = refl
all_pairs ImportBindings o = refl
all_pairs ImportClause o = refl
all_pairs _ o = cc

all_rows : (c : Nonterminal) → is_own c ≡ true → every (row_told c) stated_kinds ≡ true
all_rows Stmt o = refl
all_rows SubStmt o = refl
all_rows Item o = refl
all_rows Declaration o = refl
all_rows BlockOnly o = refl
all_rows CatchClause o = refl
all_rows CaseClause o = refl
all_rows ClassMember o = refl
all_rows Declarators o = refl
all_rows Body o = refl
all_rows DirectiveOnly o = refl
all_rows (Specifiers Imported) o = refl
all_rows (Specifiers Exported) o = refl
all_rows (Specifiers From) o = refl
all_rows ImportBindings o = refl
all_rows ImportClause o = refl
all_rows _ o = cc

pair_apart : {v w : Surroundings} {x y z : Place} (k l : Kind) (cs ds : Forest) → odd_pair k l ≡ true → Kepts cs → Kepts ds → IsNode IsRead v false k x cs y → IsNode IsRead w false l x ds z → ⊥
pair_apart (statement Label) (statement ExprStmt) cs ds p h g a b = label_apart cs ds h g a b
pair_apart (statement For) (statement ForIn) cs ds p h g a b = for_in_apart cs ds h g a b
pair_apart (statement For) (statement ForOf) cs ds p h g a b = for_of_apart cs ds h g a b
pair_apart (statement ForIn) (statement ForOf) cs ds p h g a b = in_of_apart cs ds h g a b
pair_apart (program ExportNames) (program ExportFrom) cs ds p h g a b = exports_apart cs ds h g a b
pair_apart (statement Label) (statement _) cs ds p h g a b = cc
pair_apart (statement Label) _ cs ds p h g a b = cc
pair_apart (statement For) (statement _) cs ds p h g a b = cc
pair_apart (statement For) _ cs ds p h g a b = cc
pair_apart (statement ForIn) (statement _) cs ds p h g a b = cc
pair_apart (statement ForIn) _ cs ds p h g a b = cc
pair_apart (program ExportNames) (program _) cs ds p h g a b = cc
pair_apart (program ExportNames) _ cs ds p h g a b = cc
pair_apart (statement _) l cs ds p h g a b = cc
pair_apart (program _) l cs ds p h g a b = cc
pair_apart _ l cs ds p h g a b = cc

-- ---- a node

item_clash : {v w : Surroundings} {x y z : Place} {cs ds : Forest} (k l : Kind) → (rows_apart (W.row false k) (W.row false l) || (import_row (W.row false k) && is_expr_stmt l)) ≡ true → Kepts cs → Kepts ds → IsNode IsRead v false k x cs y → IsNode IsRead w false l x ds z → meets still z ≡ true → ⊥
item_clash {w = w} {x} {y} {z} {cs} {ds} k l h f g a b m = by_rows (test (rows_apart (W.row false k) (W.row false l)))
  where
    by_rows : Test (rows_apart (W.row false k) (W.row false l)) → ⊥
    by_rows (yes' r) = rows_clash (W.row false k) (W.row false l) r f g a.walk b.walk m
    by_rows (no' r) =
        let o = or_else (rows_apart (W.row false k) (W.row false l)) _ h r in
        import_clash (W.row false k) ds (and_left (import_row (W.row false k)) _ o) f g a.walk (subst (λ l. IsNode IsRead w false l x ds z) (expr_stmt_is l (and_right (import_row (W.row false k)) _ o)) b)

prefix_clash : (c : Nonterminal) {v w : Surroundings} {x y z : Place} {cs ds : Forest} (k l : Kind) → prefix_apart c k l ≡ true → Kepts cs → Kepts ds → IsNode IsRead v false k x cs y → IsNode IsRead w false l x ds z → meets (want_of c) y ≡ true → meets (want_of c) z ≡ true → ⊥
prefix_clash Item k l h f g a b m m' = item_clash k l h f g a b m'
prefix_clash (Specifiers s) k l h f g a b m m' = words_clash parted (W.row false k) (W.row false l) h f g a.walk b.walk m
prefix_clash ClassMember k l h f g a b m m' = members_clash (W.row false k) (W.row false l) h f g a.walk b.walk
prefix_clash _ k l h f g a b m m' = cc

kind_apart : (c : Nonterminal) {v w : Surroundings} {x y z : Place} (k l : Kind) (cs ds : Forest) → is_own c ≡ true → stated k ≡ true → stated l ≡ true → in_homes c (homes k) ≡ true → in_homes c (homes l) ≡ true → nat_eq (place k) (place l) ≡ false
    → Kepts cs → Kepts ds → IsNode IsRead v false k x cs y → IsNode IsRead w false l x ds z → meets (want_of c) y ≡ true → meets (want_of c) z ≡ true → ⊥
kind_apart c {x = x} k l cs ds o s t i j n h g a b m m' = by_front (test (front_apart (front (want_of c) (production k)) (front (want_of c) (production l))))
  where
    told : pair_told c k l ≡ true
    told = for_stated (pair_told c k) (for_stated (λ k. every (pair_told c k) stated_kinds) (all_pairs c o) k s) l t

    rest : (front_apart (front (want_of c) (production k)) (front (want_of c) (production l)) || (odd_pair k l || (odd_pair l k || (prefix_apart c k l || prefix_apart c l k)))) ≡ true
    rest = or_else (nat_eq (place k) (place l)) _ (or_else (not (in_homes c (homes l))) _ (or_else (not (in_homes c (homes k))) _ told (ap not i)) (ap not j)) n

    by_prefix : Test (prefix_apart c k l) → (prefix_apart c k l || prefix_apart c l k) ≡ true → ⊥
    by_prefix (yes' p) r = prefix_clash c k l p h g a b m m'
    by_prefix (no' p) r = prefix_clash c l k (or_else (prefix_apart c k l) _ r p) g h b a m' m

    by_other : Test (odd_pair l k) → (odd_pair l k || (prefix_apart c k l || prefix_apart c l k)) ≡ true → ⊥
    by_other (yes' p) r = pair_apart l k ds cs p g h b a
    by_other (no' p) r = by_prefix (test (prefix_apart c k l)) (or_else (odd_pair l k) _ r p)

    by_label : Test (odd_pair k l) → (odd_pair k l || (odd_pair l k || (prefix_apart c k l || prefix_apart c l k))) ≡ true → ⊥
    by_label (yes' p) r = pair_apart k l cs ds p h g a b
    by_label (no' p) r = by_other (test (odd_pair l k)) (or_else (odd_pair k l) _ r p)

    by_front : Test (front_apart (front (want_of c) (production k)) (front (want_of c) (production l))) → ⊥
    by_front (yes' p) = fronts_apart (front (want_of c) (production k)) (front (want_of c) (production l)) x p (front_fits (want_of c) (production k) [] a.walk h m) (front_fits (want_of c) (production l) [] b.walk g m')
    by_front (no' p) = by_label (test (odd_pair k l)) (or_else (front_apart (front (want_of c) (production k)) (front (want_of c) (production l))) _ rest p)

body_want : (c : Nonterminal) (x : Place) → is_own c ≡ true → in_homes c (homes (program FunctionBody)) ≡ true → meets (want_of c) x ≡ true → meets idle x ≡ true
body_want Body x o h m = implied shutting idle x refl no_word m
body_want Stmt x o h m = cc
body_want SubStmt x o h m = cc
body_want Item x o h m = cc
body_want Declaration x o h m = cc
body_want BlockOnly x o h m = cc
body_want CatchClause x o h m = cc
body_want CaseClause x o h m = cc
body_want ClassMember x o h m = cc
body_want Declarators x o h m = cc
body_want DirectiveOnly x o h m = cc
body_want (Specifiers Imported) x o h m = cc
body_want (Specifiers Exported) x o h m = cc
body_want (Specifiers From) x o h m = cc
body_want ImportBindings x o h m = cc
body_want ImportClause x o h m = cc
body_want _ x o h m = cc

kind_same : (c : Nonterminal) {v w : Surroundings} {x y z : Place} (k : Kind) (cs ds : Forest) → is_own c ≡ true → in_homes c (homes k) ≡ true → (is_body k || row_good no_ending (want_of c) (production k)) ≡ true → IsNode IsRead v false k x cs y → IsNode IsRead w false k x ds z
    → All cs → Kepts cs → Kepts ds → meets (want_of c) y ≡ true → meets (want_of c) z ≡ true → SameRow cs ds y z
kind_same c {v} {w} {x} {y} {z} k cs ds o i g a b e h h' m n = by_body (test (is_body k))
  where
    by_body : Test (is_body k) → SameRow cs ds y z
    by_body (no' p) = row_same no_ending (want_of c) (production k) [] cs ds (or_else (is_body k) _ g p) refl a.walk b.walk e h h' m n
    by_body (yes' p) =
        let q = body_is k p in
        let a' : IsNode IsRead v false (program FunctionBody) x cs y = subst (λ k. IsNode IsRead v false k x cs y) q a in
        let b' : IsNode IsRead w false (program FunctionBody) x ds z = subst (λ k. IsNode IsRead w false k x ds z) q b in
        let i' = subst (λ k. in_homes c (homes k) ≡ true) q i in
        body_same Lines Stmt (InCode ∷ []) (rule (program FunctionBody)) cs ds refl refl refl refl (λ ds ts h. h) a'.keeps b'.keeps e h h' a'.walk b'.walk (body_want c y o i' m) (body_want c z o i' n)

node_one : (c : Nonterminal) {v w : Surroundings} {x y z : Place} (k l : Kind) (cs ds : Forest) → is_own c ≡ true → All cs → Kept (node k cs) → Kept (node l ds) → IsRead v false c x (node k cs) y → IsRead w false c x (node l ds) z
    → meets (want_of c) y ≡ true → meets (want_of c) z ≡ true → SameAt (node k cs) (node l ds) y z
node_one c {v} {w} {x} {y} {z} k l cs ds o a h g r s m n = by_place (test (nat_eq (place k) (place l)))
  where
    i : in_homes c (homes k) ≡ true
    i = home_of c k cs (and_left (admits c (node k cs)) (fits_below c (node k cs)) r.is)

    j : in_homes c (homes l) ≡ true
    j = home_of c l ds (and_left (admits c (node l ds)) (fits_below c (node l ds)) s.is)

    st : stated k ≡ true
    st = own_kind c k o (kept_kind h) i

    sl : stated l ≡ true
    sl = own_kind c l o (kept_kind g) j

    hs : Kepts cs
    hs = kept_parts h

    gs : Kepts ds
    gs = kept_parts g

    by_place : Test (nat_eq (place k) (place l)) → SameAt (node k cs) (node l ds) y z
    by_place (no' p) = absurd (kind_apart c k l cs ds o st sl i j p hs gs (node_walk false k refl r) (node_walk false l refl s) m n)
    by_place (yes' p) =
        let e : k ≡ l = sym (stated_nth k st) ∙ (ap (nth stated_kinds) (eq_nat {a = place k} {b = place l} p) ∙ stated_nth l sl) in
        let good = or_else (not (in_homes c (homes k))) _ (for_stated (row_told c) (all_rows c o) k st) (ap not i) in
        let s' : IsRead w false c x (node k ds) z = subst (λ l. IsRead w false c x (node l ds) z) (sym e) s in
        let q = kind_same c k cs ds o i good (node_walk false k refl r) (node_walk false k refl s') a hs gs m n in
        record { tree = λ i. node (e i) (q.trees i); place = q.place }

one_node : (k : Kind) (cs : Forest) → All cs → One (node k cs)
one_node k cs a = record { one = by_other }
  where
    by_other : (c : Nonterminal) (u : Tree) {v w : Surroundings} {x y z : Place} → is_own c ≡ true → Kept (node k cs) → Kept u → IsRead v false c x (node k cs) y → IsRead w false c x u z → meets (want_of c) y ≡ true → meets (want_of c) z ≡ true → SameAt (node k cs) u y z
    by_other c (leaf s t) {v} {w} {x} {y} {z} o h g r p m n = absurd (by_leafless (test (leafless c)))
      where
        by_leafless : Test (leafless c) → ⊥
        by_leafless (yes' l) = own_leaf c s t l (and_left (leaf_in c s t) _ p.is)
        by_leafless (no' l) =
            let e = clause_is c o l in
            clause_clash s t k cs h (subst (λ c. IsRead w false c x (leaf s t) z) e p) (subst (λ c. IsRead v false c x (node k cs) y) e r) (subst (λ c. meets (want_of c) z ≡ true) e n)
    by_other c (list ts) o h g r p m n = let bad = p.is in cc
    by_other c (node l ds) o h g r p m n = node_one c k l cs ds o a h g r p m n

mutual
  pub each : (t : Tree) → Each t
  each (leaf s t) = each_leaf
  each (node k cs) = each_node (one_node k cs (alls cs)) (alls cs)
  each (list ts) = alls ts

  alls : (ts : Forest) → All ts
  alls none = each_none
  alls (part t ts) = each_part (each t) (alls ts)

-- ---- what is sealed

-- where nothing is asked of what stands behind
rows_one : (c : Nonterminal) (k : Kind) (cs ds : Forest) {v w : Surroundings} {x y z : Place} → row_good no_ending anything (production k) ≡ true → Kepts cs → Kepts ds → IsRead v false c x (node k cs) y → IsRead w false c x (node k ds) z → (node k cs ≡ node k ds) × (y ≡ z)
rows_one c k cs ds g h h' r s =
    let a = node_walk false k refl r in
    let b = node_walk false k refl s in
    let q = row_same no_ending anything (production k) [] cs ds g refl a.walk b.walk (alls cs) h h' refl refl in
    (ap (node k) q.trees, q.place)

function_word : {v : Surroundings} {x y : Place} {cs : Forest} → IsRead v false (Expr 18) x (node (function FunctionExpr) cs) y → Seen x IdentifierName (codes "function")
function_word {x = x} r = let p = at_sign (node_walk false (function FunctionExpr) refl r).walk in took IdentifierName (codes "function") x p.moves p.found

class_word : {v : Surroundings} {x y : Place} {cs : Forest} → IsRead v false (Expr 18) x (node (function ClassExpr) cs) y → Seen x IdentifierName (codes "class")
class_word {x = x} r = let p = at_sign (node_walk false (function ClassExpr) refl r).walk in took IdentifierName (codes "class") x p.moves p.found

worded_one : (k l : Kind) (cs ds : Forest) {v w : Surroundings} {x y z : Place} → is_worded k ≡ true → is_worded l ≡ true → Kepts cs → Kepts ds → IsRead v false (Expr 18) x (node k cs) y → IsRead w false (Expr 18) x (node l ds) z → (node k cs ≡ node l ds) × (y ≡ z)
worded_one (function FunctionExpr) (function FunctionExpr) cs ds a b h h' r s = rows_one (Expr 18) (function FunctionExpr) cs ds refl h h' r s
worded_one (function ClassExpr) (function ClassExpr) cs ds a b h h' r s = rows_one (Expr 18) (function ClassExpr) cs ds refl h h' r s
worded_one (function FunctionExpr) (function ClassExpr) cs ds a b h h' r s = absurd (two_tokens (function_word r) (class_word s) refl)
worded_one (function ClassExpr) (function FunctionExpr) cs ds a b h h' r s = absurd (two_tokens (function_word s) (class_word r) refl)
worded_one (function FunctionExpr) (function _) cs ds a b h h' r s = cc
worded_one (function FunctionExpr) _ cs ds a b h h' r s = cc
worded_one (function ClassExpr) (function _) cs ds a b h h' r s = cc
worded_one (function ClassExpr) _ cs ds a b h h' r s = cc
worded_one (function _) l cs ds a b h h' r s = cc
worded_one _ l cs ds a b h h' r s = cc

worded_kind : (k : Kind) (cs : Forest) {v : Surroundings} {x y : Place} → is_worded k ≡ true → IsRead v false (Expr 18) x (node k cs) y → kind_at x ≡ 0
worded_kind (function FunctionExpr) cs s r = (function_word r).kind
worded_kind (function ClassExpr) cs s r = (class_word r).kind
worded_kind (function _) cs s r = cc
worded_kind _ cs s r = cc

-- no element begins with a word
worded_apart : (k l : Kind) (cs ds : Forest) {v w : Surroundings} {x y z : Place} → is_worded k ≡ true → is_element l ≡ true → IsRead v false (Expr 18) x (node k cs) y → IsRead w false (Expr 18) x (node l ds) z → ⊥
worded_apart k l cs ds {x = x} a b r s = never (nat_eq (kind_at x) 1) (ap (λ n. nat_eq n 1) (angle_here x (element_first l ds b s)).kind) (ap (λ n. nat_eq n 1) (worded_kind k cs a r))

sealed_one : (k l : Kind) (cs ds : Forest) {v w : Surroundings} {x y z : Place} → is_sealed k ≡ true → is_sealed l ≡ true → Kepts cs → Kepts ds → IsRead v false (Expr 18) x (node k cs) y → IsRead w false (Expr 18) x (node l ds) z → (node k cs ≡ node l ds) × (y ≡ z)
sealed_one k l cs ds {v} {w} {x} {y} {z} a b h h' r s = by_word (test (is_worded k)) (test (is_worded l))
  where
    by_word : Test (is_worded k) → Test (is_worded l) → (node k cs ≡ node l ds) × (y ≡ z)
    by_word (yes' p) (yes' q) = worded_one k l cs ds p q h h' r s
    by_word (yes' p) (no' q) = absurd (worded_apart k l cs ds p (or_else (is_worded l) (is_element l) b q) r s)
    by_word (no' p) (yes' q) = absurd (worded_apart l k ds cs q (or_else (is_worded k) (is_element k) a p) s r)
    by_word (no' p) (no' q) = elements_same false k l cs ds (or_else (is_worded k) (is_element k) a p) (or_else (is_worded l) (is_element l) b q) h h' r s

-- two methods of objects
two_members : {v w : Surroundings} {x y z : Place} (k l : Kind) (cs ds : Forest) → members_apart (W.row false k) (W.row false l) ≡ true → Kepts cs → Kepts ds → IsRead v false ObjectMember x (node k cs) y → IsRead w false ObjectMember x (node l ds) z → ⊥
two_members k l cs ds h f g r s = members_clash (W.row false k) (W.row false l) h f g (node_walk false k refl r).walk (node_walk false l refl s).walk

member_one : (k l : Kind) (cs ds : Forest) {v w : Surroundings} {x y z : Place} → is_member k ≡ true → is_member l ≡ true → Kepts cs → Kepts ds → IsRead v false ObjectMember x (node k cs) y → IsRead w false ObjectMember x (node l ds) z → (node k cs ≡ node l ds) × (y ≡ z)
member_one (function (Method InObject)) (function (Method InObject)) cs ds a b h h' r s = rows_one ObjectMember (function (Method InObject)) cs ds refl h h' r s
member_one (function (Getter InObject)) (function (Getter InObject)) cs ds a b h h' r s = rows_one ObjectMember (function (Getter InObject)) cs ds refl h h' r s
member_one (function (Setter InObject)) (function (Setter InObject)) cs ds a b h h' r s = rows_one ObjectMember (function (Setter InObject)) cs ds refl h h' r s
member_one (function (Method InObject)) (function (Getter InObject)) cs ds a b h h' r s = absurd (two_members (function (Method InObject)) (function (Getter InObject)) cs ds refl h h' r s)
member_one (function (Method InObject)) (function (Setter InObject)) cs ds a b h h' r s = absurd (two_members (function (Method InObject)) (function (Setter InObject)) cs ds refl h h' r s)
member_one (function (Getter InObject)) (function (Method InObject)) cs ds a b h h' r s = absurd (two_members (function (Method InObject)) (function (Getter InObject)) ds cs refl h' h s r)
member_one (function (Setter InObject)) (function (Method InObject)) cs ds a b h h' r s = absurd (two_members (function (Method InObject)) (function (Setter InObject)) ds cs refl h' h s r)
member_one (function (Getter InObject)) (function (Setter InObject)) cs ds a b h h' r s = absurd (two_members (function (Getter InObject)) (function (Setter InObject)) cs ds refl h h' r s)
member_one (function (Setter InObject)) (function (Getter InObject)) cs ds a b h h' r s = absurd (two_members (function (Getter InObject)) (function (Setter InObject)) ds cs refl h' h s r)
member_one (function (Method InObject)) (function (Method _)) cs ds a b h h' r s = cc
member_one (function (Method InObject)) (function (Getter _)) cs ds a b h h' r s = cc
member_one (function (Method InObject)) (function (Setter _)) cs ds a b h h' r s = cc
member_one (function (Method InObject)) (function _) cs ds a b h h' r s = cc
member_one (function (Method InObject)) _ cs ds a b h h' r s = cc
member_one (function (Getter InObject)) (function (Method _)) cs ds a b h h' r s = cc
member_one (function (Getter InObject)) (function (Getter _)) cs ds a b h h' r s = cc
member_one (function (Getter InObject)) (function (Setter _)) cs ds a b h h' r s = cc
member_one (function (Getter InObject)) (function _) cs ds a b h h' r s = cc
member_one (function (Getter InObject)) _ cs ds a b h h' r s = cc
member_one (function (Setter InObject)) (function (Method _)) cs ds a b h h' r s = cc
member_one (function (Setter InObject)) (function (Getter _)) cs ds a b h h' r s = cc
member_one (function (Setter InObject)) (function (Setter _)) cs ds a b h h' r s = cc
member_one (function (Setter InObject)) (function _) cs ds a b h h' r s = cc
member_one (function (Setter InObject)) _ cs ds a b h h' r s = cc
member_one (function (Method _)) l cs ds a b h h' r s = cc
member_one (function (Getter _)) l cs ds a b h h' r s = cc
member_one (function (Setter _)) l cs ds a b h h' r s = cc
member_one (function _) l cs ds a b h h' r s = cc
member_one _ l cs ds a b h h' r s = cc

-- two bodies of functions
body_one : (cs ds : Forest) {v w : Surroundings} {x y z : Place} → Kepts cs → Kepts ds → IsRead v false Body x (node (program FunctionBody) cs) y → IsRead w false Body x (node (program FunctionBody) ds) z → IsTrue (is_found (forth (Tok Operator Punctuator (codes "}")) y)) → IsTrue (is_found (forth (Tok Operator Punctuator (codes "}")) z)) → (cs ≡ ds) × (y ≡ z)
body_one cs ds {y = y} {z} h h' r s f g =
    let q = kind_same Body (program FunctionBody) cs ds refl refl refl (node_walk false (program FunctionBody) refl r) (node_walk false (program FunctionBody) refl s) (alls cs) h h' (seen_met shutting Punctuator (codes "}") y f refl) (seen_met shutting Punctuator (codes "}") z g refl) in
    (q.trees, q.place)

-- by size: the parts of what is sealed are smaller
law : (n : ℕ) → Law n
law zero = record { of_sealed = record { one = λ k l cs ds s t le lf h g r q. absurd (no_size (sizes cs) le) }; of_members = record { one = λ k l cs ds s t le lf h g r q. absurd (no_size (sizes cs) le) }; of_children = record { one = λ k l cs ds s t le lf h g r q. absurd (no_size (sizes cs) le) }; of_bodies = record { one_body = λ cs ds le lf h g r q a b. absurd (no_size (sizes cs) le) } }
  where
    no_size : (m : ℕ) → suc m ≤ 0 → ⊥
    no_size m le = omega (arith, le)
law (suc n) = record {
  of_sealed = record { one = λ k l cs ds s t le lf h g r q. sealed_one k l cs ds s t (smaller k cs (law n) le h) (smaller l ds (law n) lf g) r q };
  of_members = record { one = λ k l cs ds s t le lf h g r q. member_one k l cs ds s t (smaller k cs (law n) le h) (smaller l ds (law n) lf g) r q };
  of_children = record { one = λ k l cs ds s t le lf h g r q. elements_same true k l cs ds s t (smaller k cs (law n) le h) (smaller l ds (law n) lf g) r q };
  of_bodies = record { one_body = λ cs ds le lf h g r q a b. body_one cs ds (smaller (program FunctionBody) cs (law n) le h) (smaller (program FunctionBody) ds (law n) lf g) r q a b };
}
  where
    smaller : (k : Kind) (cs : Forest) → Law n → size (node k cs) ≤ suc n → kept (node k cs) ≡ true → Kepts cs
    smaller k cs w le h = let f : suc (sizes cs) ≤ suc n = le in record { good = and_right (known k) (kepts cs) h; bound = n; law = w; small = omega (arith, f) }

-- ---- a whole text

ended_found : (y : Place) → ended_at y ≡ true → IsTrue (is_found y)
ended_found Lost e = cc
ended_found (At q e' rest) e = refl

end_idle : (y : Place) → ended_at y ≡ true → meets idle y ≡ true
end_idle y e = (λ i. idle_at (end_kind y e i) (text_at y)) ∙ by_end (text_at y)
  where
    by_end : (t : Text) → idle_at 14 t ≡ true
    by_end t = refl

whole_read : {goal : Goal} {text : Text} (t : Tree) → Reads goal text t → IsRead outside false WholeProgram (At [] AfterExpr text) t (scan (At [] AfterExpr text) (spelled t))
whole_read {text = text} t r = record {
  is = and_left (is WholeProgram t) _ r.read;
  is_legal = r.is_legal;
  scans = refl;
  found = ended_found (scan (At [] AfterExpr text) (spelled t)) (and_right (is WholeProgram t) _ r.read);
}

abbrev program_of : Goal → ProgramKind
program_of goals.Module = Module
program_of goals.Script = Script

roots_same : (goal : Goal) {v w : Surroundings} {x y z : Place} (cs ds : Forest) → All cs → Kepts cs → Kepts ds → IsRead v false WholeProgram x (node (program (program_of goal)) cs) y → IsRead w false WholeProgram x (node (program (program_of goal)) ds) z
    → meets idle y ≡ true → meets idle z ≡ true → node (program (program_of goal)) cs ≡ node (program (program_of goal)) ds
roots_same goals.Module cs ds a h k r s m n =
    let p = node_walk false (program Module) refl r in
    let q = node_walk false (program Module) refl s in
    ap (node (program Module)) (body_same TopLines Item (InModuleCode ∷ []) (rule (program Module)) cs ds refl refl refl refl (λ ds ts h. h) p.keeps q.keeps a h k p.walk q.walk m n).trees
roots_same goals.Script cs ds a h k r s m n =
    let p = node_walk false (program Script) refl r in
    let q = node_walk false (program Script) refl s in
    ap (node (program Script)) (body_same TopLines Stmt (InCode ∷ []) (rule (program Script)) cs ds refl refl refl refl (λ ds ts h. h) p.keeps q.keeps a h k p.walk q.walk m n).trees

-- the root of a program
record Root (goal : Goal) (t : Tree) : Type 0 where
  parts : Forest
  is_root : t ≡ node (program (program_of goal)) parts

root : (goal : Goal) (t : Tree) → is_goal goal t ≡ true → Root goal t
root goals.Module (node (program Module) cs) h = record { parts = cs; is_root = refl }
root goals.Script (node (program Script) cs) h = record { parts = cs; is_root = refl }
root _ t h = cc

pub one_reading : (goal : Goal) (text : Text) (t u : Tree) → kept t ≡ true → kept u ≡ true → Reads goal text t → Reads goal text u → t ≡ u
one_reading goal text t u h' k' r s =
    let n = size t + size u in
    let h : Kept t = record { good = h'; bound = n; law = law n; small = omega arith } in
    let k : Kept u = record { good = k'; bound = n; law = law n; small = omega arith } in
    let a = root goal t r.of_goal in
    let b = root goal u s.of_goal in
    let x = At [] AfterExpr text in
    let y = scan x (spelled t) in
    let z = scan x (spelled u) in
    let e = roots_same goal a.parts b.parts (alls a.parts) (kept_parts (subst Kept a.is_root h)) (kept_parts (subst Kept b.is_root k))
    (subst (λ t. IsRead outside false WholeProgram x t y) a.is_root (whole_read t r)) (subst (λ u. IsRead outside false WholeProgram x u z) b.is_root (whole_read u s))
    (end_idle y (and_right (is WholeProgram t) _ r.read)) (end_idle z (and_right (is WholeProgram u) _ s.read)) in
    a.is_root ∙ (e ∙ sym b.is_root)
