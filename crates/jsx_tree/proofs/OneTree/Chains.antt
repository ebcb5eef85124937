-- What the definitions read, with what may stand behind each part: chains, and at last every tree.
use Rattle.jsx_tree.proofs.OneTree.Blocks.{FirstFine, first_none, first_fine, blocks_read}
use Rattle.jsx_tree.proofs.OneTree.Spines.{no_blocked}
use Rattle.jsx_tree.proofs.OneTree.Fine.{fine_blocked, of_blocked}
use Rattle.jsx_tree.proofs.OneTree.Known.{is_seq, taken, plain_leaf, is_piece, is_regexp}
use Rattle.std.proofs.Common.{◌≡◌, ℕ, suc, Bool, true, false, not, List, [], ◌∷◌, refl, sym, ◌∙◌, ap, subst, arith}
use Rattle.std.specs.Prelude.{IsTrue, ◌&&◌, ◌||◌, nat_le, codes}
use Rattle.std.proofs.lemmas.Bool.{le-leb}
use Rattle.jsx_base.specs.Token.{Text, Operand, Operator, TokenKind, IdentifierName, Punctuator, NumericLiteral, BigIntLiteral, StringLiteral, RegExpLiteral, Elision}
use Rattle.jsx_tree.specs.Signs.{Tok}
use Rattle.jsx_tree.specs.Kinds.{FunctionExpr, ClassExpr, Element, ElementWithChildren, Fragment, jsx, TemplateSpan, Chain, NameLink, IndexLink, CallLink, Kind, function, expression, Tree, leaf, node, list, Forest, none, part}
use Rattle.jsx_tree.specs.Nonterminals.{Nonterminal, Expr, ObjectMember, ChainLink}
use Rattle.jsx_tree.specs.Grammar.{OneOrMore, Context, Many, production}
use Rattle.jsx_tree.specs.Form.{leads, admits, fits_below}
use Rattle.jsx_tree.specs.StaticRules.{Surroundings, rule, first_of_list, is_optional}
use Rattle.jsx_tree.specs.Reading.{Place, forth}
use Rattle.jsx_tree.specs.Walk as W
use Rattle.jsx_tree.specs.Walk.{is_found, IsRead, pieces}
use Rattle.jsx_tree.proofs.Tokens.{and_left, and_right}
use Rattle.jsx_tree.proofs.OneTree.Table.{scope}
use Rattle.jsx_tree.proofs.OneTree.Readings.{is_block, chain, row, tail, tail_of, base, level, reach, calm, Reads, grow, Walk, done, take, Links, l_end, l_more, is_link, is_span, grows}
use Rattle.jsx_tree.proofs.OneTree.Readings.{linked}
use Rattle.jsx_tree.proofs.OneTree.Facts.{never, or_else, Test, yes', no', test, le_nat, for_kind, found_at}
use Rattle.jsx_tree.proofs.OneTree.Starting.{goes_on, of_grow}
use Rattle.jsx_tree.proofs.OneTree.Pairs.{link_reach}
use Rattle.jsx_tree.proofs.OneTree.Places.{ending, first_of, kin, is_prop, is_brace, place_at, ends_by, is_chain, link_rows, link_home, link_props, row_ok}
use Rattle.jsx_tree.proofs.Rows.Bridge.{node_walk}
use Rattle.jsx_tree.proofs.OneTree.Fine.{at_sign, at_many, at_end}
use Rattle.jsx_tree.proofs.OneTree.Sealed.{is_worded, is_element, is_sealed, is_member, Closed, of_function, of_class, Opens, by_word, by_tag, Sealed}
use Rattle.jsx_tree.proofs.OneTree.Evidence.{Kept, Kepts, kept_left, kept_right, kept_listed, kept_parts, Tame}
use Rattle.jsx_tree.proofs.OneTree.Fine.{tame, tames, tames_of, first_tame, Tamed, of_sealed, of_member, of_open, tamed, spine_ok, first_ok, Good, Fine, fine_leaf, fine_regexp, fine_piece, fine_node, fine_prop, fine_seq, Seals, fine_sealed, Closes, fine_member, fine_list, Fines, fine_none, fine_part, calm_more, in_is, no_piece, re_home}
use Rattle.jsx_tree.proofs.OneTree.Spines.{no_sealed, no_member, home_of, at_kind, taken_scope, lead_facts, head_row, no_seq_here}
use Rattle.jsx_tree.proofs.OneTree.Next.{calm_at}
use Rattle.jsx_tree.proofs.OneTree.Placed.{hole_free, tree_reads, one_placed, list_fines, spined_reads}
use Rattle.jsx_tree.proofs.OneTree.RowWalks.{row_walk, of_row, lead_parts, first_spine}
use Rattle.jsx_tree.proofs.OneTree.Clear.{clear_tame, clear_first}
use Rattle.jsx_tree.proofs.OneTree.Braces.{braces_good}

-- ---- chains

record AtLink (x : Place) (t : Tree) (y : Place) : Type 0 where
  kind : Kind
  parts : Forest
  is_node : t ≡ node kind parts
  scoped : scope kind ≡ true
  linked' : is_link kind ≡ true
  walk : Walk (row kind) x parts y

link_reads : {v : Surroundings} {x y : Place} {t : Tree} → Fine t → tame t ≡ true → IsRead v false ChainLink x t y → calm 99 y ≡ true → AtLink x t y
link_reads {x = x} {y} (fine_prop {k = k} {cs = cs} t p f) m r q =
    let i = home_of ChainLink k cs (and_left (admits ChainLink (node k cs)) (fits_below ChainLink (node k cs)) r.is) in
    let s = taken_scope k t in
    let l : is_link k ≡ true = at_kind ChainLink is_link k link_home s i in
    let o = or_else (not (is_link k)) (row_ok 99 (production k)) (for_kind (λ l. not (is_link l) || row_ok 99 (production l)) link_rows k s) (ap not l) in
    record { kind = k; parts = cs; is_node = refl; scoped = s; linked' = l; walk = row_walk 99 (production k) [] cs o (node_walk false k refl r).walk f (tames_of k cs t m) q }
link_reads (fine_node {k = k} {cs = cs} t p g) m r q =
    let i = home_of ChainLink k cs (and_left (admits ChainLink (node k cs)) (fits_below ChainLink (node k cs)) r.is) in
    let s = taken_scope k t in
    let l : is_link k ≡ true = at_kind ChainLink is_link k link_home s i in
    absurd (never (is_prop k) (or_else (not (is_link k)) (is_prop k) (for_kind (λ l. not (is_link l) || is_prop l) link_props k s) (ap not l)) p)
link_reads (fine_seq {k = k} {cs = cs} s f) m r q = absurd (no_seq_here ChainLink k cs s refl r.is)
link_reads (fine_piece {s = s} {t = t} p) m r q = absurd (no_piece ChainLink s t refl p (in_is r))
link_reads (fine_regexp) m r q = let bad = in_is r in cc
link_reads (fine_sealed {k = k} {cs = cs} s f) m r q = absurd (no_sealed ChainLink k cs s refl r.is)
link_reads (fine_blocked {k = k} {cs = cs} s f) m r q = absurd (no_blocked ChainLink k cs s refl r.is)
link_reads (fine_member {k = k} {t = u} {ts = us} s f n g) m r q = absurd (no_member ChainLink k (part u us) s refl r.is)
link_reads (fine_list f) m r q = let bad = r.is in cc
link_reads (fine_leaf {s = IdentifierName} p) m r q = let bad = in_is r in cc
link_reads (fine_leaf {s = NumericLiteral} p) m r q = let bad = in_is r in cc
link_reads (fine_leaf {s = BigIntLiteral} p) m r q = let bad = in_is r in cc
link_reads (fine_leaf {s = StringLiteral} p) m r q = let bad = in_is r in cc
link_reads (fine_leaf {s = Elision} p) m r q = let bad = in_is r in cc
link_reads (fine_leaf {s = s} p) m r q = cc

links_calm : {x y : Place} {ts : Forest} → Links x ts y → calm 99 x ≡ true
links_calm (l_end {x = x} c) = calm_more 17 99 x (omega arith) c
links_calm (l_more {k = k} {x = x} s l c w i) = let b = (link_reach k s l c w).1 in le-leb (reach x) 99 (omega (arith, b))

more_links : {x y z : Place} {t : Tree} {ts : Forest} → is_block x ≡ false → AtLink x t y → Links y ts z → Links x (part t ts) z
more_links {x} {z = z} {ts = ts} b a i = subst (λ t. Links x (part t ts) z) (sym a.is_node) (l_more a.scoped a.linked' b a.walk i)

links_listed : {v : Surroundings} {x y : Place} (ts : Forest) → is_block x ≡ false → Fines ts → tames ts ≡ true → W.Items IsRead v OneOrMore ChainLink x ts y → calm 17 y ≡ true → Links x ts y
links_listed none b f m (W.nil g) q = l_end q
links_listed {x = x} (part t none) b (fine_part f fs) m (W.last {y = w} r g k) q =
    let c = calm_at 17 g q in
    subst (λ y. Links x (part t none) y) g (more_links b (link_reads f (and_left (tame t) true m) r (calm_more 17 99 w (omega arith) c)) (l_end c))
links_listed (part t (part t' ts)) b (fine_part f fs) m (W.more {y = y} {w = w} n r g i) q =
    let o = subst (λ p. Links p (part t' ts) w) (sym g) (links_listed (part t' ts) (subst (λ p. is_block p ≡ false) g (clear_tame t ChainLink (and_left (tame t) _ m) refl r)) fs (and_right (tame t) _ m) i q) in
    more_links b (link_reads f (and_left (tame t) _ m) r (links_calm o)) o

-- a chain's first link has `?.`
opening : {x y : Place} {ts : Forest} → Links x ts y → first_of_list is_optional ts ≡ true → IsTrue (is_found (forth (Tok Operator Punctuator (codes "?.")) x))
opening (l_more {k = expression (NameLink true)} s l b (take e f w) i) h = found_at e f
opening (l_more {k = expression (IndexLink true)} s l b (take e f w) i) h = found_at e f
opening (l_more {k = expression (CallLink true)} s l b (take e f w) i) h = found_at e f
opening (l_more {k = expression (NameLink false)} s l b w i) h = cc
opening (l_more {k = expression (IndexLink false)} s l b w i) h = cc
opening (l_more {k = expression (CallLink false)} s l b w i) h = cc
opening (l_more s l b w i) h = cc
opening (l_end c) h = cc

chain_tail : {V : List Context → Surroundings} {x y : Place} (t : Tree) (ts : Forest) → is_block x ≡ false → rule (expression Chain) (part t ts) ≡ true → W.Walk IsRead V (W.piece [] (Many OneOrMore ChainLink) ∷ []) x ts y → Fines ts → tames ts ≡ true → calm 17 y ≡ true → Walk (chain ∷ []) x ts y
chain_tail {V} {x} {y} t ts b u w f m q =
    let p = at_many w in
    let d = at_end p.walk in
    let is : ts ≡ part (list p.trees) none = p.is ∙ ap (part (list p.trees)) d.0 in
    let o : first_of_list is_optional p.trees ≡ true = subst (λ ts. rule (expression Chain) (part t ts) ≡ true) is u in
    let ms = and_left (tames p.trees) true (subst (λ ts. tames ts ≡ true) is m) in
    let l = links_listed p.trees b (list_fines (subst Fines is f)) ms (subst (λ z. W.Items IsRead (V []) OneOrMore ChainLink x p.trees z) d.1 p.read) q in
    subst (λ ts. Walk (chain ∷ []) x ts y) (sym is) (linked (opening l o) l done)

chain_is : (k : Kind) → is_chain k ≡ true → k ≡ expression Chain
chain_is (expression Chain) h = refl
chain_is _ h = cc

tail_walk : (k : Kind) {V : List Context → Surroundings} {y z : Place} (t : Tree) (ts : Forest) → is_block y ≡ false → (is_chain k || row_ok (ending k) (tail_of (production k))) ≡ true → rule k (part t ts) ≡ true → W.Walk IsRead V (pieces [] (tail_of (production k))) y ts z → Fines ts → tames ts ≡ true → calm (ending k) z ≡ true → Walk (tail k) y ts z
tail_walk k {V} {y} {z} t ts b o u w f m q = by_case (test (is_chain k))
  where
    by_case : Test (is_chain k) → Walk (tail k) y ts z
    by_case (no' n) = row_walk (ending k) (tail_of (production k)) [] ts (or_else (is_chain k) _ o n) w f m q
    by_case (yes' c) =
        subst (λ k. rule k (part t ts) ≡ true → W.Walk IsRead V (pieces [] (tail_of (production k))) y ts z → calm (ending k) z ≡ true → Walk (tail k) y ts z) (sym (chain_is k c)) (λ u w q. chain_tail t ts b u w f m q) u w q

not_prop : (a b : Bool) → (a || b) ≡ false → b ≡ false
not_prop true b h = absurd (never true refl h)
not_prop false b h = h

-- what isn't read with the kind that it stands in goes on where it begins with a part
grows_all : (k : Kind) → is_prop k ≡ false → grows k ≡ leads (production k)
grows_all k p = by_span (test (is_span k))
  where
    by_span : Test (is_span k) → grows k ≡ leads (production k)
    by_span (no' n) = ap (λ b. not b && leads (production k)) n
    by_span (yes' y) = absurd (never (is_prop k) (span_prop k y) p)
      where
        span_prop : (k : Kind) → is_span k ≡ true → is_prop k ≡ true
        span_prop (expression (TemplateSpan b)) h = refl
        span_prop _ h = cc

pub node_good : (k : Kind) (cs : Forest) → taken k ≡ true → (is_brace k || is_prop k) ≡ false → tames cs ≡ true → Fines cs → Good (node k cs)
node_good k cs t own m f = record { reads = λ n v c x y r i s q. by_lead n v x y (node_walk false k refl r).walk (node_walk false k refl r).keeps s q (test (leads (production k))) }
  where
    by_lead : (n : ℕ) (v : Surroundings) (x y : Place) → W.Walk IsRead (W.around v cs) (pieces [] (production k)) x cs y → rule k cs ≡ true → spine_ok n (node k cs) ≡ true → calm (ending k) y ≡ true → Test (leads (production k)) → Reads n x (node k cs) y
    by_lead n v x y w u s q (no' l) =
        of_row k cs t own (le_nat (and_left (nat_le n (level k)) _ s)) l (row_walk (ending k) (production k) [] cs (head_row k t own l) w f m q)
    by_lead n v x y w u s q (yes' l) =
        let p = lead_parts (production k) [] cs l w in
        let g = fines_both (subst Fines p.is f) in
        let ms = subst (λ ts. tames ts ≡ true) p.is m in
        let np = not_prop (is_brace k) (is_prop k) own in
        let g' = grows_all k np ∙ l in
        let d = lead_facts k t np l in
        let z = clear_tame p.tree (first_of (production k)) (and_left (tame p.tree) _ ms) (clear_first k t np l) p.read in
        let w' = tail_walk k p.tree p.others z d.row' (subst (λ cs. rule k cs ≡ true) p.is u) p.walk g.1 (and_right (tame p.tree) _ ms) q in
        let b : reach p.next ≡ suc (level k) = goes_on z w' (of_grow k (taken_scope k t) g').goes in
        let h : first_ok n cs ≡ true = or_else (not (leads (production k))) (first_ok n cs) (and_right (nat_le n (level k)) _ s) (ap not l) in
        subst (λ cs. Reads n x (node k cs) y) (sym p.is)
        (grow (taken_scope k t) g' (le_nat (and_left (nat_le n (level k)) _ s)) z
        (spined_reads n (suc (level k)) (first_of (production k)) g.0 (hole_free p.tree (first_of (production k)) d.hole' p.read) p.read (and_left (kin (first_of (production k))) _ (and_left (place_at (base (first_of (production k))) (first_of (production k))) _ d.place')) (λ o s' i l'. at_kind (first_of (production k)) (ends_by (suc (level k))) o (and_right (nat_le (suc (level k)) 99) _ d.ended') s' i) (and_right (place_at (base (first_of (production k))) (first_of (production k))) _ d.place') (first_spine n p.is h) (le-leb (reach p.next) (suc (level k)) (omega (arith, b)))) w')
      where
        fines_both : {t : Tree} {ts : Forest} → Fines (part t ts) → Fine t × Fines ts
        fines_both (fine_part f fs) = (f, fs)

neither : (a b : Bool) → a ≡ false → b ≡ false → (a || b) ≡ false
neither true b p q = absurd (never true refl p)
neither false b p q = q

node_fine : (k : Kind) (cs : Forest) → (taken k || is_seq k) ≡ true → tames cs ≡ true → Fines cs → Test (taken k) → Fine (node k cs)
node_fine k cs h m f (yes' t) = by_prop (test (is_prop k)) (test (is_brace k))
  where
    by_prop : Test (is_prop k) → Test (is_brace k) → Fine (node k cs)
    by_prop (yes' p) b = fine_prop t p f
    by_prop (no' p) (yes' b) = fine_node t p (braces_good k cs t b m f)
    by_prop (no' p) (no' b) = fine_node t p (node_good k cs t (neither (is_brace k) (is_prop k) b p) m f)
node_fine k cs h m f (no' t) = fine_seq (or_else (taken k) (is_seq k) h t) f

leaf_fine : (s : TokenKind) (t : Text) → (plain_leaf s || (is_piece s || is_regexp s)) ≡ true → Test (plain_leaf s) → Test (is_piece s) → Fine (leaf s t)
leaf_fine s t h (yes' p) q = fine_leaf p
leaf_fine s t h (no' p) (yes' q) = fine_piece q
leaf_fine s t h (no' p) (no' q) = subst (λ s. Fine (leaf s t)) (sym (regexp_is s (or_else (is_piece s) (is_regexp s) (or_else (plain_leaf s) (is_piece s || is_regexp s) h p) q))) fine_regexp
  where
    regexp_is : (s : TokenKind) → is_regexp s ≡ true → s ≡ RegExpLiteral
    regexp_is RegExpLiteral h = refl
    regexp_is _ h = cc

-- ---- what is sealed

first_word : (k : Kind) (cs : Forest) {v : Surroundings} {c : Nonterminal} {x y : Place} → is_worded k ≡ true → IsRead v false c x (node k cs) y → Opens x
first_word (function FunctionExpr) cs s r = let p = at_sign (node_walk false (function FunctionExpr) refl r).walk in by_word (codes "function") of_function (found_at p.moves p.found)
first_word (function ClassExpr) cs s r = let p = at_sign (node_walk false (function ClassExpr) refl r).walk in by_word (codes "class") of_class (found_at p.moves p.found)
first_word (function _) cs s r = cc
first_word _ cs s r = cc

pub element_first : (k : Kind) (cs : Forest) {v : Surroundings} {c : Nonterminal} {x y : Place} → is_element k ≡ true → IsRead v false c x (node k cs) y → IsTrue (is_found (forth (Tok Operand Punctuator (codes "<")) x))
element_first (jsx Element) cs s r = let p = at_sign (node_walk false (jsx Element) refl r).walk in found_at p.moves p.found
element_first (jsx ElementWithChildren) cs s r = let p = at_sign (node_walk false (jsx ElementWithChildren) refl r).walk in found_at p.moves p.found
element_first (jsx Fragment) cs s r = let p = at_sign (node_walk false (jsx Fragment) refl r).walk in found_at p.moves p.found
element_first (jsx _) cs s r = cc
element_first _ cs s r = cc

first_opens : (k : Kind) (cs : Forest) {v : Surroundings} {c : Nonterminal} {x y : Place} → is_sealed k ≡ true → IsRead v false c x (node k cs) y → Opens x
first_opens k cs {x = x} s r = by_case (test (is_worded k))
  where
    by_case : Test (is_worded k) → Opens x
    by_case (yes' w) = first_word k cs w r
    by_case (no' w) = by_tag (element_first k cs (or_else (is_worded k) (is_element k) s w) r)

at_primary : (k : Kind) (cs : Forest) → is_sealed k ≡ true → admits (Expr 18) (node k cs) ≡ true
at_primary (function FunctionExpr) cs s = refl
at_primary (function ClassExpr) cs s = refl
at_primary (jsx Element) cs s = refl
at_primary (jsx ElementWithChildren) cs s = refl
at_primary (jsx Fragment) cs s = refl
at_primary (function _) cs s = cc
at_primary (jsx _) cs s = cc
at_primary _ cs s = cc

pub seals : (k : Kind) (cs : Forest) → is_sealed k ≡ true → Kept (node k cs) → Seals k cs
seals k cs s e = record { seals = λ {v} {c} {x} {y} r. sealed_at v c x y r }
  where
    sealed_at : (v : Surroundings) (c : Nonterminal) (x y : Place) → IsRead v false c x (node k cs) y → Sealed x k cs y
    sealed_at v c x y r =
        let r' = re_home c (Expr 18) (node k cs) (at_primary k cs s) r in
        record { closed = record { kind' = s; bound = e.bound; small = e.small; good = e.good; surroundings = v; read = r'; law = λ l ds t m g q. e.law.of_sealed.one k l cs ds s t e.small m e.good g r' q }; opener = first_opens k cs s r }

closes : (k : Kind) (cs : Forest) → is_member k ≡ true → Kept (node k cs) → Closes k cs
closes k cs s e = record { closes' = λ {v} {x} {y} r. closed_at v x y r }
  where
    closed_at : (v : Surroundings) (x y : Place) → IsRead v false ObjectMember x (node k cs) y → Closed is_member false ObjectMember x k cs y
    closed_at v x y r = record { kind' = s; bound = e.bound; small = e.small; good = e.good; surroundings = v; read = r; law = λ l ds t m g q. e.law.of_members.one k l cs ds s t e.small m e.good g r q }

member_fine : (k : Kind) (cs : Forest) → is_member k ≡ true → first_tame cs ≡ true → Kept (node k cs) → FirstFine cs → Fine (node k cs)
member_fine k none s m e f = cc
member_fine k (part t ts) s m e (first_fine f) = fine_member s f m (closes k (part t ts) s e)

node_of : (k : Kind) (cs : Forest) → Tamed k cs → Kept (node k cs) → (tames cs ≡ true → Fines cs) → (first_tame cs ≡ true → FirstFine cs) → Fine (node k cs)
node_of k cs (of_member s f m) e rest first = member_fine k cs s m e (first m)
node_of k cs (of_blocked s f m) e rest first = fine_blocked s (blocks_read k cs s m (first m) e)
node_of k cs (of_sealed s f) e rest first = fine_sealed s (seals k cs s e)
node_of k cs (of_open h m) e rest first = node_fine k cs h m (rest m) (test (taken k))

mutual
  fine_of : (t : Tree) → tame t ≡ true → Kept t → Fine t
  fine_of (leaf s t) h e = leaf_fine s t h (test (plain_leaf s)) (test (is_piece s))
  fine_of (node k cs) h e = node_of k cs (tamed k cs h) e (λ m. fines_of cs m (kept_parts e)) (λ m. first_of' cs m (kept_parts e))
  fine_of (list ts) h e = fine_list (fines_of ts h (kept_listed e))

  first_of' : (ts : Forest) → first_tame ts ≡ true → Kepts ts → FirstFine ts
  first_of' none h e = first_none
  first_of' (part t ts) h e = first_fine (fine_of t h (kept_left e))

  fines_of : (ts : Forest) → tames ts ≡ true → Kepts ts → Fines ts
  fines_of none h e = fine_none
  fines_of (part t ts) h e = fine_part (fine_of t (and_left (tame t) (tames ts) h) (kept_left e)) (fines_of ts (and_right (tame t) (tames ts) h) (kept_right e))

pub fine : (t : Tree) → Tame t → Fine t
fine t i = fine_of t i.tame' i.kept'

-- ---- what the definitions read as an expression of level 1, with what stands behind

pub expression_reads : {v : Surroundings} {x y : Place} (t : Tree) → Tame t → IsRead v false (Expr 1) x t y → calm 1 y ≡ true → Reads 1 x t y
expression_reads t h r q = tree_reads 1 1 (Expr 1) (fine t h) h.tame' (hole_free t (Expr 1) refl r) r one_placed q
