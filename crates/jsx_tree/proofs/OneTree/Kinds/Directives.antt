-- Two readings of directives and what stands behind them are one: no statement is a string alone where a directive might stand.
use Rattle.jsx_tree.proofs.OneTree.Known.{stated}
use Rattle.jsx_tree.proofs.OneTree.Evidence.{Kept, Kepts, kept_left, kept_right, kept_list, kept_kind, kept_parts}
use Rattle.std.proofs.Common.{◌≡◌, Bool, true, false, not, List, [], ◌∷◌, refl, sym, ◌∙◌, ap, subst}
use Rattle.std.specs.Prelude.{IsTrue, ◌||◌, nat_eq}
use Rattle.jsx_base.specs.Token.{Text, Operator, TokenKind, StringLiteral, kind_number}
use Rattle.jsx_tree.specs.Signs.{Tok, Semicolon, Unless}
use Rattle.jsx_tree.specs.Kinds.{Directive, ExprStmt, Kind, program, statement, Tree, leaf, node, list, Forest, none, part}
use Rattle.jsx_tree.specs.Nonterminals.{Nonterminal, Expr, StringOnly, DirectiveOnly, homes, in_homes, leaf_in}
use Rattle.jsx_tree.specs.Grammar.{heads, ListShape, Context, Many, production}
use Rattle.jsx_tree.specs.Form.{admits, is, fits_below, is_leaf}
use Rattle.jsx_tree.specs.StaticRules.{Surroundings, first_of_list, is_string_stmt}
use Rattle.jsx_tree.specs.Reading.{Place, forth}
use Rattle.jsx_tree.proofs.Tokens.{and_left, and_right, and_both}
use Rattle.jsx_tree.specs.Walk as W
use Rattle.jsx_tree.specs.Walk.{is_found, IsRead, IsNode}
use Rattle.jsx_tree.proofs.Rows.Bridge.{node_walk}
use Rattle.jsx_tree.proofs.OneTree.Readings.{Reads, word, Whole, single, kind_at, text_at}
use Rattle.jsx_tree.proofs.OneTree.Checks.{every}
use Rattle.jsx_tree.proofs.OneTree.Facts.{never, or_else, not_is, Test, yes', no', test, eq_nat, Seen, took}
use Rattle.jsx_tree.proofs.OneTree.Agreeing.{one_whole}
use Rattle.jsx_tree.proofs.OneTree.Fine.{at_sign, at_part, at_many, at_end}
use Rattle.jsx_tree.proofs.OneTree.Spines.{home_of}
use Rattle.jsx_tree.proofs.OneTree.Placed.{whole_reads}
use Rattle.jsx_tree.proofs.OneTree.Chains.{fine}
use Rattle.jsx_tree.proofs.OneTree.Turn.{tree_same}
use Rattle.jsx_tree.proofs.OneTree.Endings.{past_after}
use Rattle.jsx_tree.proofs.OneTree.Missing.{at_semi}
use Rattle.jsx_tree.proofs.OneTree.Afters.{after_tok, after_tree}
use Rattle.jsx_tree.proofs.OneTree.Statements.{place, stated_kinds, nth}
use Rattle.jsx_tree.proofs.OneTree.Statements.{stated_nth, for_stated}
use Rattle.jsx_tree.proofs.OneTree.Parts.{tame_of, word_read}
use Rattle.jsx_tree.proofs.OneTree.Wants.{idle, meets, idle_at, is_seen, look_same}
use Rattle.jsx_tree.proofs.OneTree.Begins.{want_of, stop_of, Front, token', expr', name', key', unknown, front, fits, front_fits, is_listed}
use Rattle.jsx_tree.proofs.OneTree.Rows.{All, all_parts, own_leaf, own_kind, own_same}
use Rattle.jsx_tree.proofs.OneTree.Lists.{SameRow, liney, listed_own, listed_leafless, lines_same, first_item, rest_want}

-- ---- a directive

directive_kinds : every (λ k. not (in_homes DirectiveOnly (homes k)) || nat_eq (place k) (place (program Directive))) stated_kinds ≡ true
directive_kinds = refl

directive_kind : (k : Kind) → stated k ≡ true → in_homes DirectiveOnly (homes k) ≡ true → k ≡ program Directive
directive_kind k t h =
    let e = or_else (not (in_homes DirectiveOnly (homes k))) _ (for_stated (λ k. not (in_homes DirectiveOnly (homes k)) || nat_eq (place k) (place (program Directive))) directive_kinds k t) (ap not h) in
    sym (stated_nth k t) ∙ ap (nth stated_kinds) (eq_nat {a = place k} {b = place (program Directive)} e)

-- a string and a semicolon
record Told (x : Place) : Type 0 where
  text : Text
  next : Place
  moves : forth (Tok Operator StringLiteral text) x ≡ next
  found : IsTrue (is_found next)
  semi : IsTrue (is_found (forth Semicolon next))
  is_text : is_leaf StringLiteral text ≡ true

string_leaf : (s : TokenKind) (t : Text) → leaf_in StringOnly s t ≡ true → s ≡ StringLiteral
string_leaf StringLiteral t h = refl
string_leaf _ t h = cc

told : {v : Surroundings} {x y : Place} (t : Tree) → Kept t → IsRead v false DirectiveOnly x t y → Told x
told (leaf s t) h r = absurd (own_leaf DirectiveOnly s t refl (and_left (leaf_in DirectiveOnly s t) _ r.is))
told (list ts) h r = let bad = r.is in cc
told {v} {x} {y} (node k cs) h r =
    let i = home_of DirectiveOnly k cs (and_left (admits DirectiveOnly (node k cs)) (fits_below DirectiveOnly (node k cs)) r.is) in
    let e = directive_kind k (own_kind DirectiveOnly k refl (kept_kind h) i) i in
    let p = at_part (node_walk false (program Directive) refl (subst (λ k. IsRead v false DirectiveOnly x (node k cs) y) e r)).walk in
    let w = word_read StringOnly p.tree refl (kept_left (subst Kepts p.is (kept_parts h))) p.read in
    let s = at_sign p.walk in
    let b : is StringOnly (leaf w.kind w.text) ≡ true = subst (λ t. is StringOnly t ≡ true) w.is_leaf p.read.is in
    let k = string_leaf w.kind w.text (and_left (leaf_in StringOnly w.kind w.text) _ b) in
    record {
      text = w.text;
      next = p.next;
      moves = (λ i. forth (Tok Operator (sym k i) w.text) x) ∙ w.moves;
      found = w.found;
      semi = subst (λ z. IsTrue (is_found z)) (sym s.moves) s.found;
      is_text = subst (λ s. is_leaf s w.text ≡ true) k (and_right (leaf_in StringOnly w.kind w.text) _ b);
    }

-- ---- where a directive stands

abbrev pub is_expr_stmt : Kind → Bool
is_expr_stmt (statement ExprStmt) = true
is_expr_stmt k = false

pub expr_stmt_is : (k : Kind) → is_expr_stmt k ≡ true → k ≡ statement ExprStmt
expr_stmt_is (statement ExprStmt) h = refl
expr_stmt_is (statement _) h = cc
expr_stmt_is _ h = cc

abbrev pub no_string : Front → Bool
no_string (token' k t) = not (nat_eq (kind_number k) 4)
no_string name' = true
no_string f = false

abbrev pub string_told : Nonterminal → Kind → Bool
string_told c k = not (in_homes c (homes k)) || (no_string (front (want_of c) (production k)) || is_expr_stmt k)

abbrev pub all_told : Nonterminal → Bool
all_told c = every (string_told c) stated_kinds

front_string : (f : Front) (x : Place) → no_string f ≡ true → fits f x ≡ true → kind_at x ≡ 4 → ⊥
front_string (token' k t) x n f e = never (nat_eq (kind_number k) 4) (ap (λ n. nat_eq n 4) (sym (is_seen x k t f).kind ∙ e)) (not_is _ n)
front_string name' x n f e = never (nat_eq (kind_at x) 0) (and_left (nat_eq (kind_at x) 0) _ f) (ap (λ n. nat_eq n 0) e)
front_string (expr' ts) x n f e = cc
front_string key' x n f e = cc
front_string unknown x n f e = cc

-- an expression statement that begins as a directive does is a string alone
string_alone : {v : Surroundings} {x y : Place} (cs : Forest) → Kepts cs → IsNode IsRead v false (statement ExprStmt) x cs y → Told x → is_string_stmt (node (statement ExprStmt) cs) ≡ true
string_alone {x = x} cs h n d =
    let s = at_sign n.walk in
    let p = at_part s.walk in
    let m = at_sign p.walk in
    let z = at_end m.walk in
    let back = look_same (Unless heads) x s.next refl s.moves s.found in
    let i = tame_of p.tree (Expr 0) refl (kept_left (subst Kepts p.is h)) p.read.is in
    let c = at_semi p.next (after_tree p.tree (Expr 0) i refl p.read) (subst (λ z. IsTrue (is_found z)) (sym m.moves) m.found) in
    let w = whole_reads p.tree (fine p.tree i) i.tame' p.read c in
    let a : Reads 1 x (leaf StringLiteral d.text) d.next = word refl d.moves d.found in
    let o = one_whole (single a (at_semi d.next (past_after d.next (after_tok Operator StringLiteral d.text x d.moves d.found)) d.semi)) (subst (λ z. Whole z p.tree p.next) (sym back) w) in
    let e : leaf StringLiteral d.text ≡ p.tree = tree_same (leaf StringLiteral d.text) p.tree (Expr 0) refl i.kept'.good (and_both true _ refl d.is_text) p.read.is o.tree in
    subst (λ cs. is_string_stmt (node (statement ExprStmt) cs) ≡ true) (sym (p.is ∙ (λ i. part (sym e i) (z.0 i)))) refl

told_kind : {x : Place} → Told x → kind_at x ≡ 4
told_kind {x} d = let s : Seen x StringLiteral d.text = took StringLiteral d.text x d.moves d.found in s.kind

told_stop : {x : Place} → Told x → idle_at (kind_at x) (text_at x) ≡ true → ⊥
told_stop {x} d h = never (idle_at (kind_at x) (text_at x)) h (λ i. idle_at (told_kind d i) (text_at x))

-- no list of statements that has no string first begins there
no_list : (s : ListShape) (c : Nonterminal) {v : Surroundings} {x y : Place} (ts : Forest) → liney s ≡ true → is_listed c ≡ true → all_told c ≡ true → stop_of c ≡ idle → Kepts ts → W.Items IsRead v s c x ts y → meets idle y ≡ true → not (first_of_list is_string_stmt ts) ≡ true → Told x → ⊥
no_list s c none li l a q h (W.nil f) m n d = told_stop d m
no_list s c {y = y} (part t ts) li l a q h i m n d =
    let f = first_item s li i in
    let w = rest_want s c ts li l (kept_right h) f.rest (subst (λ w. meets w y ≡ true) (sym q) m) in
    no_item t (kept_left h) f.read w n d
  where
    no_item : (t : Tree) {v : Surroundings} {x y : Place} → Kept t → IsRead v false c x t y → meets (want_of c) y ≡ true → not (is_string_stmt t) ≡ true → Told x → ⊥
    no_item (leaf s t) h r w n d = own_leaf c s t (listed_leafless c l) (and_left (leaf_in c s t) _ r.is)
    no_item (list ts) h r w n d = let bad = r.is in cc
    no_item (node k cs) {v} {x} {y} h r w n d =
        let o = home_of c k cs (and_left (admits c (node k cs)) (fits_below c (node k cs)) r.is) in
        let s = own_kind c k (listed_own c l) (kept_kind h) o in
        let g = or_else (not (in_homes c (homes k))) _ (for_stated (string_told c) a k s) (ap not o) in
        by_front r (test (no_string (front (want_of c) (production k)))) g
      where
        by_front : IsRead v false c x (node k cs) y → Test (no_string (front (want_of c) (production k))) → (no_string (front (want_of c) (production k)) || is_expr_stmt k) ≡ true → ⊥
        by_front r (yes' p) g = front_string (front (want_of c) (production k)) x p (front_fits (want_of c) (production k) [] (node_walk false k refl r).walk (kept_parts h) w) (told_kind d)
        by_front r (no' p) g =
            let e = expr_stmt_is k (or_else (no_string (front (want_of c) (production k))) _ g p) in
            let b = string_alone cs (kept_parts h) (node_walk false (statement ExprStmt) refl (subst (λ k. IsRead v false c x (node k cs) y) e r)) d in
            never (is_string_stmt (node k cs)) (subst (λ k. is_string_stmt (node k cs) ≡ true) (sym e) b) (not_is _ n)

-- ---- the lists

pub record Both (ds es ts us : Forest) (y z : Place) : Type 0 where
  pub firsts : ds ≡ es
  pub others : ts ≡ us
  pub place : y ≡ z

bodies_same : (s : ListShape) (c : Nonterminal) {v v' w w' : Surroundings} {m n y z : Place} (ds es ts us : Forest) (x : Place) → liney s ≡ true → is_listed c ≡ true → all_told c ≡ true → stop_of c ≡ idle → All ds → All ts → Kepts ds → Kepts es → Kepts ts → Kepts us
    → W.Items IsRead v s DirectiveOnly x ds m → W.Items IsRead w s DirectiveOnly x es n → W.Items IsRead v' s c m ts y → W.Items IsRead w' s c n us z → not (first_of_list is_string_stmt ts) ≡ true → not (first_of_list is_string_stmt us) ≡ true
    → meets idle y ≡ true → meets idle z ≡ true → Both ds es ts us y z
bodies_same s c {y = y} {z} none none ts us x li l a q d o h h' k k' (W.nil f) (W.nil f') i j p p' m m' =
    let r = lines_same s c ts us li l o k k' i j (subst (λ w. meets w y ≡ true) (sym q) m) (subst (λ w. meets w z ≡ true) (sym q) m') in
    record { firsts = refl; others = r.trees; place = r.place }
bodies_same s c none (part e es) ts us x li l a q d o h h' k k' (W.nil f) g i j p p' m m' =
    absurd (no_list s c ts li l a q k i m p (told e (kept_left h') (first_item s li g).read))
bodies_same s c (part d' ds) none ts us x li l a q d o h h' k k' g (W.nil f) i j p p' m m' =
    absurd (no_list s c us li l a q k' j m' p' (told d' (kept_left h) (first_item s li g).read))
bodies_same s c {w = w} {n = n} (part t ds) (part u es) ts us x li l a q d o h h' k k' g g' i j p p' m m' =
    let f = first_item s li g in
    let f' = first_item s li g' in
    let as' = all_parts d in
    let r = own_same DirectiveOnly t u refl as'.0 (kept_left h) (kept_left h') f.read f'.read refl refl in
    let b = bodies_same s c ds es ts us f.next li l a q as'.1 o (kept_right h) (kept_right h') k k' f.rest (subst (λ x. W.Items IsRead w s DirectiveOnly x es n) (sym r.place) f'.rest) i j p p' m m' in
    record { firsts = λ i. part (r.tree i) (b.firsts i); others = b.others; place = b.place }

-- the parts of a body, a script or a module
pub body_same : (s : ListShape) (c : Nonterminal) (a : List Context) {V V' : List Context → Surroundings} {x y z : Place} (R : Forest → Bool) (cs es : Forest) → liney s ≡ true → is_listed c ≡ true → all_told c ≡ true → stop_of c ≡ idle
    → ((ds ts : Forest) → R (part (list ds) (part (list ts) none)) ≡ true → not (first_of_list is_string_stmt ts) ≡ true) → R cs ≡ true → R es ≡ true → All cs → Kepts cs → Kepts es
    → W.Walk IsRead V (W.piece a (Many s DirectiveOnly) ∷ W.piece a (Many s c) ∷ []) x cs y → W.Walk IsRead V' (W.piece a (Many s DirectiveOnly) ∷ W.piece a (Many s c) ∷ []) x es z → meets idle y ≡ true → meets idle z ≡ true → SameRow cs es y z
body_same s c a {x = x} R cs es li l t q first g g' o h h' i j m m' =
    let p1 = at_many i in
    let p2 = at_many p1.walk in
    let p3 = at_end p2.walk in
    let q1 = at_many j in
    let q2 = at_many q1.walk in
    let q3 = at_end q2.walk in
    let e : cs ≡ part (list p1.trees) (part (list p2.trees) none) = p1.is ∙ ap (part (list p1.trees)) (p2.is ∙ ap (part (list p2.trees)) p3.0) in
    let e' : es ≡ part (list q1.trees) (part (list q2.trees) none) = q1.is ∙ ap (part (list q1.trees)) (q2.is ∙ ap (part (list q2.trees)) q3.0) in
    let o1 = all_parts (subst All e o) in
    let k1 = subst Kepts e h in
    let k2 = subst Kepts e' h' in
    let b = bodies_same s c p1.trees q1.trees p2.trees q2.trees x li l t q o1.0 (all_parts o1.1).0 (kept_list k1) (kept_list k2) (kept_list (kept_right k1)) (kept_list (kept_right k2))
    p1.read q1.read p2.read q2.read (first p1.trees p2.trees (subst (λ cs. R cs ≡ true) e g)) (first q1.trees q2.trees (subst (λ cs. R cs ≡ true) e' g'))
    (subst (λ z. meets idle z ≡ true) (sym p3.1) m) (subst (λ z. meets idle z ≡ true) (sym q3.1) m') in
    record { trees = e ∙ ((λ i. part (list (b.firsts i)) (part (list (b.others i)) none)) ∙ sym e'); place = sym p3.1 ∙ (b.place ∙ q3.1) }
