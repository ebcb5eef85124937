-- What the definitions read, with what may stand behind each part: templates.
use Rattle.jsx_tree.proofs.OneTree.Spines.{blockless, no_blocked}
use Rattle.jsx_tree.proofs.OneTree.Fine.{fine_blocked}
use Rattle.jsx_tree.proofs.OneTree.Next.{reach_seen}
use Rattle.jsx_tree.proofs.OneTree.Known.{plain_leaf, is_piece}
use Rattle.std.proofs.Common.{◌≡◌, Bool, true, false, List, [], ◌∷◌, refl, sym, ◌∙◌, ap, subst}
use Rattle.std.specs.Prelude.{IsTrue, ◌&&◌, codes}
use Rattle.jsx_base.specs.Token.{Text, TokenKind, IdentifierName, Punctuator, NumericLiteral, BigIntLiteral, StringLiteral, NoSubstitution, TemplateHead, TemplateMiddle, TemplateTail, Elision}
use Rattle.jsx_tree.specs.Signs.{Tok}
use Rattle.jsx_tree.specs.Kinds.{SubstitutedTemplate, TemplateSpan, PlainTemplate, Kind, expression, Tree, leaf, node, list, Forest, none, part}
use Rattle.jsx_tree.specs.Nonterminals.{Nonterminal, Expr, TemplateOf, TemplatePart, TemplateSpans, homes, in_homes, leaf_in}
use Rattle.jsx_tree.specs.Grammar.{Adjacent, Context, Fixed, Part, Many}
use Rattle.jsx_tree.specs.Form.{admits, is, fits_below}
use Rattle.jsx_tree.specs.StaticRules.{Surroundings}
use Rattle.jsx_tree.specs.Spelling.{mode_of}
use Rattle.jsx_tree.specs.Reading.{Place, forth}
use Rattle.jsx_tree.specs.Walk as W
use Rattle.jsx_tree.specs.Walk.{is_found, IsRead}
use Rattle.jsx_tree.proofs.Tokens.{and_left, and_right}
use Rattle.jsx_tree.proofs.OneTree.Table.{code}
use Rattle.jsx_tree.proofs.OneTree.Readings.{Step, lit, spans, quoted, row, calm, Walk, done, literal, Spans, t_tail, t_more, is_tagged, is_span, brace}
use Rattle.jsx_tree.proofs.OneTree.Readings.{filled, tagged}
use Rattle.jsx_tree.proofs.OneTree.Facts.{never, Seen, took}
use Rattle.jsx_tree.proofs.OneTree.Places.{is_prop, at_home, no_seq, tagged_home, span_home, free}
use Rattle.jsx_tree.proofs.Rows.Bridge.{node_walk}
use Rattle.jsx_tree.proofs.OneTree.Fine.{at_sign, at_part, at_many, at_end}
use Rattle.jsx_tree.proofs.OneTree.Fine.{tame, tames, tames_of, Fine, fine_leaf, fine_regexp, fine_piece, fine_node, fine_prop, fine_seq, fine_sealed, fine_member, fine_list, Fines, fine_part, one_sign, in_is, no_piece}
use Rattle.jsx_tree.proofs.OneTree.Spines.{sealless, absent, no_sealed, no_member, home_of, at_kind, taken_scope, no_seq_here}
use Rattle.jsx_tree.proofs.OneTree.Placed.{whole_reads}

-- ---- templates

record PieceAt (s : TokenKind) (x : Place) (t : Tree) (y : Place) : Type 0 where
  text : Text
  is_tree : t ≡ leaf s text
  moves : forth (Tok (mode_of s) s text) x ≡ y

piece_home : (s : TokenKind) → is_piece s ≡ true → at_home (TemplatePart s) (λ l. false) ≡ true
piece_home NoSubstitution p = refl
piece_home TemplateHead p = refl
piece_home TemplateMiddle p = refl
piece_home TemplateTail p = refl
piece_home _ p = cc

piece_blockless : (s : TokenKind) → is_piece s ≡ true → blockless (TemplatePart s) ≡ true
piece_blockless NoSubstitution p = refl
piece_blockless TemplateHead p = refl
piece_blockless TemplateMiddle p = refl
piece_blockless TemplateTail p = refl
piece_blockless _ p = cc

spans_blockless : (b : Bool) → blockless (TemplateSpans b) ≡ true
spans_blockless true = refl
spans_blockless false = refl

piece_absent : (s : TokenKind) → is_piece s ≡ true → absent (TemplatePart s) ≡ true
piece_absent NoSubstitution p = refl
piece_absent TemplateHead p = refl
piece_absent TemplateMiddle p = refl
piece_absent TemplateTail p = refl
piece_absent _ p = cc

piece_seq : (s : TokenKind) → is_piece s ≡ true → no_seq (TemplatePart s) ≡ true
piece_seq NoSubstitution p = refl
piece_seq TemplateHead p = refl
piece_seq TemplateMiddle p = refl
piece_seq TemplateTail p = refl
piece_seq _ p = cc

piece_at : (s : TokenKind) {v : Surroundings} {x y : Place} {t : Tree} → is_piece s ≡ true → Fine t → IsRead v false (TemplatePart s) x t y → PieceAt s x t y
piece_at NoSubstitution {x = x} p (fine_piece {s = NoSubstitution} {t = t} q) r = record { text = t; is_tree = refl; moves = ap (forth (Tok (mode_of NoSubstitution) NoSubstitution t)) (sym (one_sign x)) ∙ r.scans }
piece_at NoSubstitution p (fine_piece {s = TemplateHead} q) r = let bad = in_is r in cc
piece_at NoSubstitution p (fine_piece {s = TemplateMiddle} q) r = let bad = in_is r in cc
piece_at NoSubstitution p (fine_piece {s = TemplateTail} q) r = let bad = in_is r in cc
piece_at NoSubstitution p (fine_piece q) r = cc
piece_at NoSubstitution p (fine_regexp) r = let bad = in_is r in cc
piece_at NoSubstitution p (fine_leaf {s = IdentifierName} q) r = let bad = in_is r in cc
piece_at NoSubstitution p (fine_leaf {s = NumericLiteral} q) r = let bad = in_is r in cc
piece_at NoSubstitution p (fine_leaf {s = BigIntLiteral} q) r = let bad = in_is r in cc
piece_at NoSubstitution p (fine_leaf {s = StringLiteral} q) r = let bad = in_is r in cc
piece_at NoSubstitution p (fine_leaf {s = Elision} q) r = let bad = in_is r in cc
piece_at NoSubstitution p (fine_leaf q) r = cc
piece_at TemplateHead p (fine_piece {s = NoSubstitution} q) r = let bad = in_is r in cc
piece_at TemplateHead {x = x} p (fine_piece {s = TemplateHead} {t = t} q) r = record { text = t; is_tree = refl; moves = ap (forth (Tok (mode_of TemplateHead) TemplateHead t)) (sym (one_sign x)) ∙ r.scans }
piece_at TemplateHead p (fine_piece {s = TemplateMiddle} q) r = let bad = in_is r in cc
piece_at TemplateHead p (fine_piece {s = TemplateTail} q) r = let bad = in_is r in cc
piece_at TemplateHead p (fine_piece q) r = cc
piece_at TemplateHead p (fine_regexp) r = let bad = in_is r in cc
piece_at TemplateHead p (fine_leaf {s = IdentifierName} q) r = let bad = in_is r in cc
piece_at TemplateHead p (fine_leaf {s = NumericLiteral} q) r = let bad = in_is r in cc
piece_at TemplateHead p (fine_leaf {s = BigIntLiteral} q) r = let bad = in_is r in cc
piece_at TemplateHead p (fine_leaf {s = StringLiteral} q) r = let bad = in_is r in cc
piece_at TemplateHead p (fine_leaf {s = Elision} q) r = let bad = in_is r in cc
piece_at TemplateHead p (fine_leaf q) r = cc
piece_at TemplateMiddle p (fine_piece {s = NoSubstitution} q) r = let bad = in_is r in cc
piece_at TemplateMiddle p (fine_piece {s = TemplateHead} q) r = let bad = in_is r in cc
piece_at TemplateMiddle {x = x} p (fine_piece {s = TemplateMiddle} {t = t} q) r = record { text = t; is_tree = refl; moves = ap (forth (Tok (mode_of TemplateMiddle) TemplateMiddle t)) (sym (one_sign x)) ∙ r.scans }
piece_at TemplateMiddle p (fine_piece {s = TemplateTail} q) r = let bad = in_is r in cc
piece_at TemplateMiddle p (fine_piece q) r = cc
piece_at TemplateMiddle p (fine_regexp) r = let bad = in_is r in cc
piece_at TemplateMiddle p (fine_leaf {s = IdentifierName} q) r = let bad = in_is r in cc
piece_at TemplateMiddle p (fine_leaf {s = NumericLiteral} q) r = let bad = in_is r in cc
piece_at TemplateMiddle p (fine_leaf {s = BigIntLiteral} q) r = let bad = in_is r in cc
piece_at TemplateMiddle p (fine_leaf {s = StringLiteral} q) r = let bad = in_is r in cc
piece_at TemplateMiddle p (fine_leaf {s = Elision} q) r = let bad = in_is r in cc
piece_at TemplateMiddle p (fine_leaf q) r = cc
piece_at TemplateTail p (fine_piece {s = NoSubstitution} q) r = let bad = in_is r in cc
piece_at TemplateTail p (fine_piece {s = TemplateHead} q) r = let bad = in_is r in cc
piece_at TemplateTail p (fine_piece {s = TemplateMiddle} q) r = let bad = in_is r in cc
piece_at TemplateTail {x = x} p (fine_piece {s = TemplateTail} {t = t} q) r = record { text = t; is_tree = refl; moves = ap (forth (Tok (mode_of TemplateTail) TemplateTail t)) (sym (one_sign x)) ∙ r.scans }
piece_at TemplateTail p (fine_piece q) r = cc
piece_at TemplateTail p (fine_regexp) r = let bad = in_is r in cc
piece_at TemplateTail p (fine_leaf {s = IdentifierName} q) r = let bad = in_is r in cc
piece_at TemplateTail p (fine_leaf {s = NumericLiteral} q) r = let bad = in_is r in cc
piece_at TemplateTail p (fine_leaf {s = BigIntLiteral} q) r = let bad = in_is r in cc
piece_at TemplateTail p (fine_leaf {s = StringLiteral} q) r = let bad = in_is r in cc
piece_at TemplateTail p (fine_leaf {s = Elision} q) r = let bad = in_is r in cc
piece_at TemplateTail p (fine_leaf q) r = cc
piece_at s p (fine_sealed {k = k} {cs = cs} q f) r = absurd (no_sealed (TemplatePart s) k cs q (and_left (sealless (TemplatePart s)) _ (piece_absent s p)) r.is)
piece_at s p (fine_blocked {k = k} {cs = cs} q f) r = absurd (no_blocked (TemplatePart s) k cs q (piece_blockless s p) r.is)
piece_at s p (fine_member {k = k} {t = u} {ts = us} q f m g) r = absurd (no_member (TemplatePart s) k (part u us) q (and_right (sealless (TemplatePart s)) _ (piece_absent s p)) r.is)
piece_at s p (fine_list f) r = let bad = r.is in cc
piece_at s p (fine_seq {k = k} {cs = cs} q f) r = absurd (no_seq_here (TemplatePart s) k cs q (piece_seq s p) r.is)
piece_at s p (fine_node {k = k} {cs = cs} t np g) r = absurd (never false (at_kind (TemplatePart s) (λ l. false) k (piece_home s p) (taken_scope k t) (home_of (TemplatePart s) k cs (and_left (admits (TemplatePart s) (node k cs)) (fits_below (TemplatePart s) (node k cs)) r.is))) refl)
piece_at s p (fine_prop {k = k} {cs = cs} t q g) r = absurd (never false (at_kind (TemplatePart s) (λ l. false) k (piece_home s p) (taken_scope k t) (home_of (TemplatePart s) k cs (and_left (admits (TemplatePart s) (node k cs)) (fits_below (TemplatePart s) (node k cs)) r.is))) refl)
piece_at s p _ r = cc

pub piece_walk : (s : TokenKind) {v : Surroundings} {x y z : Place} {t : Tree} {ts : Forest} {qs : List Step} → is_piece s ≡ true → Fine t → IsRead v false (TemplatePart s) x t y → Walk qs y ts z → Walk (lit s ∷ qs) x (part t ts) z
piece_walk s {x = x} {z = z} {ts = ts} {qs} p f r w = let a = piece_at s p f r in subst (λ t. Walk (lit s ∷ qs) x (part t ts) z) (sym a.is_tree) (literal a.moves r.found w)

brace_calm : (x : Place) {y : Place} → forth brace x ≡ y → IsTrue (is_found y) → calm 0 x ≡ true
brace_calm x e f = let s : Seen x Punctuator (codes "}") = took Punctuator (codes "}") x e f in reach_seen Punctuator (codes "}") 0 x s refl

two_fines : {t u : Tree} {ts : Forest} → Fines (part t (part u ts)) → Fine t × (Fine u × Fines ts)
two_fines (fine_part f (fine_part g fs)) = (f, (g, fs))

span_more : (b : Bool) {v : Surroundings} {x y z : Place} {cs ts : Forest} {o : Tree} {t : Text} → Fines cs → tames cs ≡ true → IsRead v false (TemplateSpans b) x (node (expression (TemplateSpan b)) cs) y → code (expression (TemplateSpan b)) ≡ 24 → Spans y ts o t z → Spans x (part (node (expression (TemplateSpan b)) cs) ts) o t z
span_more b {x = x} {z = z} {cs} {ts} {o} {t} f m r c i =
    let p = at_part (node_walk false (expression (TemplateSpan b)) refl r).walk in
    let s = at_sign p.walk in
    let q = at_part s.walk in
    let d = at_end q.walk in
    let is : cs ≡ part p.tree (part q.tree none) = p.is ∙ (ap (part p.tree) q.is ∙ ap (λ u. part p.tree (part q.tree u)) d.0) in
    let fs = two_fines (subst Fines is f) in
    let m0 = and_left (tame p.tree) (tame q.tree && true) (subst (λ u. tames u ≡ true) is m) in
    let w = whole_reads p.tree fs.0 m0 p.read (brace_calm p.next s.moves s.found) in
    let a = piece_at TemplateMiddle refl fs.1.0 q.read in
    subst (λ u. Spans x (part (node (expression (TemplateSpan b)) u) ts) o t z) (sym (is ∙ ap (λ u. part p.tree (part u none)) a.is_tree))
    (t_more c refl w s.moves s.found a.moves q.read.found (subst (λ y. Spans y ts o t z) (sym d.1) i))

span_is : (b : Bool) (k : Kind) → is_span k ≡ true → in_homes (TemplateSpans b) (homes k) ≡ true → (k ≡ expression (TemplateSpan b)) × (code (expression (TemplateSpan b)) ≡ 24)
span_is true (expression (TemplateSpan true)) h i = (refl, refl)
span_is false (expression (TemplateSpan false)) h i = (refl, refl)
span_is true (expression (TemplateSpan false)) h i = cc
span_is false (expression (TemplateSpan true)) h i = cc
span_is b _ h i = cc

spans_absent : (b : Bool) → absent (TemplateSpans b) ≡ true
spans_absent true = refl
spans_absent false = refl

spans_free : (b : Bool) → (free (TemplateSpans b) ≡ true) × (no_seq (TemplateSpans b) ≡ true)
spans_free true = (refl, refl)
spans_free false = (refl, refl)

spans_leaf : (b : Bool) (s : TokenKind) (t : Text) → plain_leaf s ≡ true → leaf_in (TemplateSpans b) s t ≡ true → ⊥
spans_leaf true IdentifierName t p i = cc
spans_leaf true NumericLiteral t p i = cc
spans_leaf true BigIntLiteral t p i = cc
spans_leaf true StringLiteral t p i = cc
spans_leaf true Elision t p i = cc
spans_leaf true _ t p i = cc
spans_leaf false IdentifierName t p i = cc
spans_leaf false NumericLiteral t p i = cc
spans_leaf false BigIntLiteral t p i = cc
spans_leaf false StringLiteral t p i = cc
spans_leaf false Elision t p i = cc
spans_leaf false _ t p i = cc

more_spans : (b : Bool) {v : Surroundings} {x y z : Place} {t : Tree} {ts : Forest} {o : Tree} {u : Text} → Fine t → tame t ≡ true → IsRead v false (TemplateSpans b) x t y → Spans y ts o u z → Spans x (part t ts) o u z
more_spans b {v} {x} {y} {z} {ts = ts} {o} {u} (fine_prop {k = k} {cs = cs} t p f) m r i =
    let h = home_of (TemplateSpans b) k cs (and_left (admits (TemplateSpans b) (node k cs)) (fits_below (TemplateSpans b) (node k cs)) r.is) in
    let s = span_is b k (and_left (is_span k) (is_prop k) (at_kind (TemplateSpans b) (λ l. is_span l && is_prop l) k (span_home b) (taken_scope k t) h)) h in
    subst (λ k. Spans x (part (node k cs) ts) o u z) (sym s.0) (span_more b f (tames_of k cs t m) (subst (λ k. IsRead v false (TemplateSpans b) x (node k cs) y) s.0 r) s.1 i)
more_spans b (fine_node {k = k} {cs = cs} t np g) m r i =
    let h = home_of (TemplateSpans b) k cs (and_left (admits (TemplateSpans b) (node k cs)) (fits_below (TemplateSpans b) (node k cs)) r.is) in
    absurd (never (is_prop k) (and_right (is_span k) (is_prop k) (at_kind (TemplateSpans b) (λ l. is_span l && is_prop l) k (span_home b) (taken_scope k t) h)) np)
more_spans b (fine_seq {k = k} {cs = cs} s f) m r i = absurd (no_seq_here (TemplateSpans b) k cs s (spans_free b).1 r.is)
more_spans true (fine_regexp) m r i = let bad = in_is r in cc
more_spans false (fine_regexp) m r i = let bad = in_is r in cc
more_spans b (fine_sealed {k = k} {cs = cs} s f) m r i = absurd (no_sealed (TemplateSpans b) k cs s (and_left (sealless (TemplateSpans b)) _ (spans_absent b)) r.is)
more_spans b (fine_blocked {k = k} {cs = cs} s f) m r i = absurd (no_blocked (TemplateSpans b) k cs s (spans_blockless b) r.is)
more_spans b (fine_member {k = k} {t = u} {ts = us} s f n g) m r i = absurd (no_member (TemplateSpans b) k (part u us) s (and_right (sealless (TemplateSpans b)) _ (spans_absent b)) r.is)
more_spans b (fine_list f) m r i = let bad = r.is in cc
more_spans b (fine_leaf {s = s} {t = t} p) m r i = absurd (spans_leaf b s t p (in_is r))
more_spans b (fine_piece {s = s} {t = t} p) m r i = absurd (no_piece (TemplateSpans b) s t (spans_free b).0 p (in_is r))

spans_listed : (b : Bool) {v : Surroundings} {x y z : Place} {o : Tree} {u : Text} (ts : Forest) → Fines ts → tames ts ≡ true → W.Items IsRead v Adjacent (TemplateSpans b) x ts y → Spans y none o u z → Spans x ts o u z
spans_listed b none f m (W.nil g) i = i
spans_listed b {z = z} {o} {u} (part t none) (fine_part f fs) m (W.last r g k) i = more_spans b f (and_left (tame t) true m) r (subst (λ y. Spans y none o u z) (sym g) i)
spans_listed b {z = z} {o} {u} (part t (part t' ts)) (fine_part f fs) m (W.more n r g j) i =
    more_spans b f (and_left (tame t) _ m) r (subst (λ y. Spans y (part t' ts) o u z) (sym g) (spans_listed b (part t' ts) fs (and_right (tame t) _ m) j i))

four_fines : {h t u : Tree} {ts us : Forest} → Fines (part h (part (list ts) (part t (part u us)))) → Fine h × (Fines ts × (Fine t × Fine u))
four_fines (fine_part f (fine_part (fine_list fs) (fine_part g (fine_part i is)))) = (f, (fs, (g, i)))

pub template_walk : (b : Bool) {V : List Context → Surroundings} {a : List Context} {x y : Place} (cs : Forest) → Fines cs → tames cs ≡ true
    → W.Walk IsRead V (W.piece a (Part (TemplatePart TemplateHead)) ∷ W.piece a (Many Adjacent (TemplateSpans b)) ∷ W.piece a (Part (Expr 0)) ∷ W.piece a (Fixed brace) ∷ W.piece a (Part (TemplatePart TemplateTail)) ∷ []) x cs y → Walk (lit TemplateHead ∷ spans ∷ []) x cs y
template_walk b {x = x} {y} cs f m w =
    let p = at_part w in
    let l = at_many p.walk in
    let o = at_part l.walk in
    let s = at_sign o.walk in
    let q = at_part s.walk in
    let d = at_end q.walk in
    let is : cs ≡ part p.tree (part (list l.trees) (part o.tree (part q.tree none))) =
    p.is ∙ (ap (part p.tree) l.is ∙ (ap (λ u. part p.tree (part (list l.trees) u)) o.is ∙ (ap (λ u. part p.tree (part (list l.trees) (part o.tree u))) q.is ∙ ap (λ u. part p.tree (part (list l.trees) (part o.tree (part q.tree u)))) d.0))) in
    let fs = four_fines (subst Fines is f) in
    let m0 = and_right (tame p.tree) _ (subst (λ u. tames u ≡ true) is m) in
    let m1 = and_right (tames l.trees) _ m0 in
    let w' = whole_reads o.tree fs.1.1.0 (and_left (tame o.tree) _ m1) o.read (brace_calm o.next s.moves s.found) in
    let a = piece_at TemplateTail refl fs.1.1.1 q.read in
    let i = spans_listed b l.trees fs.1.0 (and_left (tames l.trees) _ m0) l.read (t_tail w' s.moves s.found a.moves q.read.found) in
    subst (λ y. Walk (lit TemplateHead ∷ spans ∷ []) x cs y) d.1
    (subst (λ cs. Walk (lit TemplateHead ∷ spans ∷ []) x cs q.next) (sym (is ∙ ap (λ u. part p.tree (part (list l.trees) (part o.tree (part u none)))) a.is_tree))
    (piece_walk TemplateHead refl fs.0 p.read (filled i done)))

plain_walk : (s : TokenKind) {V : List Context → Surroundings} {a : List Context} {x y : Place} (cs : Forest) → is_piece s ≡ true → Fines cs → W.Walk IsRead V (W.piece a (Part (TemplatePart s)) ∷ []) x cs y → Walk (lit s ∷ []) x cs y
plain_walk s {x = x} {y} cs h f w =
    let p = at_part w in
    let d = at_end p.walk in
    let is : cs ≡ part p.tree none = p.is ∙ ap (part p.tree) d.0 in
    subst (λ y. Walk (lit s ∷ []) x cs y) d.1 (subst (λ cs. Walk (lit s ∷ []) x cs p.next) (sym is) (piece_walk s h (head_fine (subst Fines is f)) p.read done))
  where
    head_fine : {t : Tree} {ts : Forest} → Fines (part t ts) → Fine t
    head_fine (fine_part f fs) = f

tagged_row : (k : Kind) {v : Surroundings} {c : Nonterminal} {x y : Place} (cs : Forest) → is_tagged k ≡ true → Fines cs → tames cs ≡ true → IsRead v false c x (node k cs) y → Walk (row k) x cs y
tagged_row (expression (PlainTemplate true)) cs h f m r = plain_walk NoSubstitution cs refl f (node_walk false (expression (PlainTemplate true)) refl r).walk
tagged_row (expression (SubstitutedTemplate true)) cs h f m r = template_walk true cs f m (node_walk false (expression (SubstitutedTemplate true)) refl r).walk
tagged_row _ cs h f m r = cc

pub tag_walk : {v : Surroundings} {x y z : Place} {t : Tree} {ts : Forest} {qs : List Step} → Fine t → tame t ≡ true → IsRead v false TemplateOf x t y → Walk qs y ts z → Walk (quoted ∷ qs) x (part t ts) z
tag_walk (fine_prop {k = k} {cs = cs} t p f) m r w =
    let h = home_of TemplateOf k cs (and_left (admits TemplateOf (node k cs)) (fits_below TemplateOf (node k cs)) r.is) in
    let s = and_left (is_tagged k) (is_prop k) (at_kind TemplateOf (λ l. is_tagged l && is_prop l) k tagged_home (taken_scope k t) h) in
    tagged (taken_scope k t) s (tagged_row k cs s f (tames_of k cs t m) r) w
tag_walk (fine_node {k = k} {cs = cs} t np g) m r w =
    let h = home_of TemplateOf k cs (and_left (admits TemplateOf (node k cs)) (fits_below TemplateOf (node k cs)) r.is) in
    absurd (never (is_prop k) (and_right (is_tagged k) (is_prop k) (at_kind TemplateOf (λ l. is_tagged l && is_prop l) k tagged_home (taken_scope k t) h)) np)
tag_walk (fine_seq {k = k} {cs = cs} s f) m r w = absurd (no_seq_here TemplateOf k cs s refl r.is)
tag_walk (fine_regexp) m r w = let bad = in_is r in cc
tag_walk (fine_sealed {k = k} {cs = cs} s f) m r w = absurd (no_sealed TemplateOf k cs s refl r.is)
tag_walk (fine_blocked {k = k} {cs = cs} s f) m r w = absurd (no_blocked TemplateOf k cs s refl r.is)
tag_walk (fine_member {k = k} {t = u} {ts = us} s f n g) m r w = absurd (no_member TemplateOf k (part u us) s refl r.is)
tag_walk (fine_list f) m r w = let bad = r.is in cc
tag_walk (fine_leaf {s = IdentifierName} p) m r w = let bad = in_is r in cc
tag_walk (fine_leaf {s = NumericLiteral} p) m r w = let bad = in_is r in cc
tag_walk (fine_leaf {s = BigIntLiteral} p) m r w = let bad = in_is r in cc
tag_walk (fine_leaf {s = StringLiteral} p) m r w = let bad = in_is r in cc
tag_walk (fine_leaf {s = Elision} p) m r w = let bad = in_is r in cc
tag_walk (fine_leaf p) m r w = cc
tag_walk (fine_piece {s = s} {t = t} p) m r w = absurd (no_piece TemplateOf s t refl p (in_is r))
