-- What the definitions read, with what may stand behind each part: rows and nodes.
use Rattle.jsx_tree.proofs.OneTree.Spines.{no_blocked}
use Rattle.jsx_tree.proofs.OneTree.Fine.{fine_blocked}
use Rattle.jsx_tree.proofs.OneTree.Known.{taken}
use Rattle.std.proofs.Common.{◌≡◌, ℕ, ◌≤◌, zero, Bool, true, false, not, List, [], ◌∷◌, refl, sym, ◌∙◌, ap, subst, arith}
use Rattle.std.specs.Prelude.{IsTrue, ◌&&◌, ◌||◌, nat_le}
use Rattle.jsx_base.specs.Token.{Text, Operator, IdentifierName, Punctuator, NumericLiteral, BigIntLiteral, StringLiteral, NoSubstitution, Elision, among}
use Rattle.jsx_tree.specs.Signs.{Tok, Unless, SameLine, Space, Count, Apart}
use Rattle.jsx_tree.specs.Kinds.{SubstitutedTemplate, TemplateSpan, NameLink, IndexLink, CallLink, ObjectPat, PropertyPat, ShorthandPat, ShorthandInit, RestProperty, ComputedKey, Object, Property, Shorthand, PlainTemplate, Arrow, Parenthesized, ParenTarget, Kind, function, expression, Tree, node, list, Forest, none, part, ArrowBlock}
use Rattle.jsx_tree.specs.Nonterminals.{Nonterminal, Expr, Name, TemplateOf, TemplatePart, NewCallee, homes, in_homes}
use Rattle.jsx_tree.specs.Grammar.{ListShape, Commas, Elisions, Context, Fixed, Part, Many, Within, Production, production}
use Rattle.jsx_tree.specs.Form.{leads, admits, fits_below}
use Rattle.jsx_tree.specs.StaticRules.{Surroundings}
use Rattle.jsx_tree.specs.Reading.{Place, forth}
use Rattle.jsx_tree.specs.Walk as W
use Rattle.jsx_tree.specs.Walk.{is_found, IsRead, pieces}
use Rattle.jsx_tree.proofs.Tokens.{and_left, and_right}
use Rattle.jsx_tree.proofs.OneTree.Readings.{Step, lit, sub, many, row, tail_of, step_of, steps, holes, base, low, level, calm, Reads, head, paren, target, arrow, Walk, done, take, pass, literal, under, all, each, Items}
use Rattle.jsx_tree.proofs.OneTree.Facts.{never, or_else, not_is, for_kind}
use Rattle.jsx_tree.proofs.OneTree.Places.{first_of, kin, is_prop, is_brace, place_at, no_seq, no_hole, no_names, quiet, ended_at, ended_on, ends_over, ends_by, part_ok, closes, good_shape, holed, row_ok}
use Rattle.jsx_tree.proofs.OneTree.Fine.{at_sign, AtPart, at_part, at_many, at_end}
use Rattle.jsx_tree.proofs.OneTree.Fine.{tame, tames, spine_ok, first_ok, Fine, fine_leaf, fine_regexp, fine_piece, fine_node, fine_prop, fine_seq, fine_sealed, fine_member, fine_list, Fines, fine_part, one_sign, in_is, no_piece}
use Rattle.jsx_tree.proofs.OneTree.Spines.{no_sealed, no_member, home_of, at_kind, taken_scope, no_seq_here, home_spine, callee_spine, callee_calls}
use Rattle.jsx_tree.proofs.OneTree.Next.{unless_kept, line_kept, quiet_calm}
use Rattle.jsx_tree.proofs.OneTree.Placed.{Placed, hole_free, tree_reads, commas_listed, holes_listed, whole_reads, spined_reads}
use Rattle.jsx_tree.proofs.OneTree.Templates.{piece_walk, tag_walk}

-- ---- rows

name_walk : {v : Surroundings} {x y z : Place} {t : Tree} {ts : Forest} {qs : List Step} → Fine t → IsRead v false Name x t y → Walk qs y ts z → Walk (lit IdentifierName ∷ qs) x (part t ts) z
name_walk {x = x} (fine_leaf {s = IdentifierName} {t = t} p) r w = literal (ap (forth (Tok Operator IdentifierName t)) (sym (one_sign x)) ∙ r.scans) r.found w
name_walk (fine_leaf {s = NumericLiteral} p) r w = let bad = in_is r in cc
name_walk (fine_leaf {s = BigIntLiteral} p) r w = let bad = in_is r in cc
name_walk (fine_leaf {s = StringLiteral} p) r w = let bad = in_is r in cc
name_walk (fine_leaf {s = Elision} p) r w = let bad = in_is r in cc
name_walk (fine_leaf {s = s} p) r w = cc
name_walk (fine_piece {s = s} {t = t} p) r w = absurd (no_piece Name s t refl p (in_is r))
name_walk (fine_regexp) r w = let bad = in_is r in cc
name_walk (fine_prop {k = k} {cs = cs} t p f) r w =
    let i = home_of Name k cs (and_left (admits Name (node k cs)) (fits_below Name (node k cs)) r.is) in
    absurd (never (in_homes Name (homes k)) i (not_is _ (for_kind (λ l. not (in_homes Name (homes l))) no_names k (taken_scope k t))))
name_walk (fine_sealed {k = k} {cs = cs} s f) r w = absurd (no_sealed Name k cs s refl r.is)
name_walk (fine_blocked {k = k} {cs = cs} s f) r w = absurd (no_blocked Name k cs s refl r.is)
name_walk (fine_member {k = k} {t = u} {ts = us} s f m g) r w = absurd (no_member Name k (part u us) s refl r.is)
name_walk (fine_list f) r w = let bad = r.is in cc
name_walk (fine_node {k = k} {cs = cs} t np g) r w =
    let i = home_of Name k cs (and_left (admits Name (node k cs)) (fits_below Name (node k cs)) r.is) in
    absurd (never (in_homes Name (homes k)) i (not_is _ (for_kind (λ l. not (in_homes Name (homes l))) no_names k (taken_scope k t))))
name_walk (fine_seq {k = k} {cs = cs} s f) r w = absurd (no_seq_here Name k cs s refl r.is)

sub_walk : (n b : ℕ) (c : Nonterminal) {v : Surroundings} {x y z : Place} {t : Tree} {ts : Forest} {qs : List Step} → (place_at b c && (no_seq c && (ended_at c n && no_hole c))) ≡ true → calm n y ≡ true → IsRead v false c x t y → Fine t → tame t ≡ true → Walk qs y ts z → Walk (sub n b ∷ qs) x (part t ts) z
sub_walk n b c {t = t} h q r f m w =
    let h1 = and_right (place_at b c) _ h in
    let h2 = and_right (no_seq c) _ h1 in
    under (tree_reads b n c f m (hole_free t c (and_right (ended_at c n) (no_hole c) h2) r) r (record { kin' = and_left (kin c) _ (and_left (place_at b c) _ h); home' = and_left (place_at b c) _ h; ended' = and_left (ended_at c n) _ h2; seq' = and_left (no_seq c) _ h1 }) q) q w

placed_facts : (a b c d : Bool) → ((a && b) && (c && d)) ≡ true → (a && (b && (c && d))) ≡ true
placed_facts true true c d h = h
placed_facts true false c d h = cc
placed_facts false b c d h = cc

part_walk : (e : ℕ) (c : Nonterminal) (ps : Production) {v : Surroundings} {x y z : Place} {t : Tree} {ts : Forest} {qs : List Step} → part_ok e c ps ≡ true → ((n : ℕ) → quiet e n ps ≡ true → calm n y ≡ true) → IsRead v false c x t y → Fine t → tame t ≡ true → Walk qs y ts z → Walk (step_of c ps ∷ qs) x (part t ts) z
part_walk e Name ps h q r f m w = name_walk f r w
part_walk e (TemplatePart NoSubstitution) ps h q r f m w = piece_walk NoSubstitution refl f r w
part_walk e (TemplatePart s) ps h q r f m w = cc
part_walk e TemplateOf ps h q r f m w = tag_walk f m r w
part_walk e (Expr zero) ps {t = t} h q r f m w = all (whole_reads t f m r (q 0 (and_left (quiet e 0 ps) _ h))) w
part_walk e NewCallee ps {t = t} h q r f m w =
    let h1 = and_right (quiet e 18 ps) _ h in
    let h2 = and_right (place_at 17 NewCallee) _ h1 in
    let h3 = and_right (no_seq NewCallee) _ h2 in
    let c = q 18 (and_left (quiet e 18 ps) _ h) in
    let s = callee_spine t m (home_spine t NewCallee 17 17 (omega arith) (and_left (place_at 17 NewCallee) _ h1) (and_left (no_seq NewCallee) _ h2) m r.is) (callee_calls t r.is) in
    under (spined_reads 18 18 NewCallee f (hole_free t NewCallee (and_right (ended_on NewCallee 18 18) _ h3) r) r refl (λ q s' i l. or_else (not (nat_le 18 (level q))) (ends_by 18 q) (at_kind NewCallee (ends_over 18 18) q (and_right (nat_le 18 99) _ (and_left (ended_on NewCallee 18 18) _ h3)) s' i) (ap not l)) (and_left (no_seq NewCallee) _ h2) s c) c w
part_walk e c ps h q r f m w =
    sub_walk (low c ps) (base c) c (placed_facts (place_at (base c) c) (no_seq c) (ended_at c (low c ps)) (no_hole c) (and_right (quiet e (low c ps) ps) _ h)) (q (low c ps) (and_left (quiet e (low c ps) ps) _ h)) r f m w

move_walk : {y z w : Place} {ps : List Step} {us : Forest} → y ≡ z → Walk ps z us w → Walk ps y us w
move_walk {w = w} {ps} {us} e v = subst (λ p. Walk ps p us w) (sym e) v

record ManyFacts (e : ℕ) (s : ListShape) (c : Nonterminal) (u : Text) (ps : Production) : Type 0 where
  placed : Placed 1 1 c
  shape' : good_shape s ≡ true
  hole' : (holed s || no_hole c) ≡ true
  close' : closes (Fixed (Tok Operator Punctuator u) ∷ []) ≡ true
  rest' : row_ok e ps ≡ true

many_facts : (e : ℕ) (s : ListShape) (c : Nonterminal) (u : Text) (ps : Production) → row_ok e (Many s c ∷ Fixed (Tok Operator Punctuator u) ∷ ps) ≡ true → ManyFacts e s c u ps
many_facts e s c u ps h =
    let h0 = and_right (closes (Fixed (Tok Operator Punctuator u) ∷ [])) _ h in
    let h1 = and_right (good_shape s) _ h0 in
    let h2 = and_right (place_at 1 c) _ h1 in
    let h3 = and_right (no_seq c) _ h2 in
    let h4 = and_right (ended_at c 1) _ h3 in
    record {
      placed = record { kin' = and_left (kin c) _ (and_left (place_at 1 c) _ h1); home' = and_left (place_at 1 c) _ h1; ended' = and_left (ended_at c 1) _ h3; seq' = and_left (no_seq c) _ h2 };
      shape' = and_left (good_shape s) _ h0;
      hole' = and_left (holed s || no_hole c) _ h4;
      close' = and_left (closes (Fixed (Tok Operator Punctuator u) ∷ [])) _ h;
      rest' = and_right (holed s || no_hole c) _ h4;
    }

items_walk : (s : ListShape) (c : Nonterminal) (u : Text) {v : Surroundings} {x y z : Place} (ts : Forest) → good_shape s ≡ true → (holed s || no_hole c) ≡ true → Placed 1 1 c → closes (Fixed (Tok Operator Punctuator u) ∷ []) ≡ true → Fines ts → tames ts ≡ true → W.Items IsRead v s c x ts y → forth (Tok Operator Punctuator u) y ≡ z → IsTrue (is_found z) → Items (holes s) u x ts z
items_walk Commas c u ts g n l h f m i e o = commas_listed c u ts l n h f m i e o
items_walk Elisions c u ts g n l h f m i e o = holes_listed c u ts l h f m i e o
items_walk _ c u ts g n l h f m i e o = cc

pub row_walk : {V : List Context → Surroundings} (e : ℕ) (ps : Production) (a : List Context) {x z : Place} (ts : Forest) → row_ok e ps ≡ true → W.Walk IsRead V (pieces a ps) x ts z → Fines ts → tames ts ≡ true → calm e z ≡ true → Walk (steps false ps) x ts z
row_walk e [] a {x} {z} ts o w f m q = let d = at_end w in subst (λ ts. Walk [] x ts z) (sym d.0) (subst (λ y. Walk [] x none y) d.1 done)
row_walk e (Fixed (Tok n k t) ∷ ps) a ts o w f m q = let s = at_sign w in take s.moves s.found (row_walk e ps a ts o s.walk f m q)
row_walk e (Fixed (Unless us) ∷ ps) a {x} ts o w f m q =
    let s = at_sign w in
    let k = unless_kept us x s.next (not_is _ (and_left (not (among [] us)) (row_ok e ps) o)) s.moves s.found in
    pass k.held (move_walk k.place (row_walk e ps a ts (and_right (not (among [] us)) (row_ok e ps) o) s.walk f m q))
row_walk e (Fixed SameLine ∷ ps) a {x} ts o w f m q =
    let s = at_sign w in
    let k = line_kept x s.next s.moves s.found in
    pass k.held (move_walk k.place (row_walk e ps a ts o s.walk f m q))
row_walk e (Fixed Space ∷ ps) a ts o w f m q = row_walk e ps a ts o w f m q
row_walk e (Fixed Count ∷ ps) a ts o w f m q = row_walk e ps a ts o w f m q
row_walk e (Fixed Apart ∷ ps) a ts o w f m q = row_walk e ps a ts o w f m q
row_walk e (Within d ∷ ps) a ts o w f m q = row_walk e ps (d ∷ a) ts o w f m q
row_walk e (Part c ∷ ps) a {x} {z} ts o w f m q =
    let p = at_part w in
    let g = fines_both (subst Fines p.is f) in
    let n = subst (λ ts. tames ts ≡ true) p.is m in
    let o' = and_right (part_ok e c ps) (row_ok e ps) o in
    subst (λ ts. Walk (step_of c ps ∷ steps false ps) x ts z) (sym p.is)
    (part_walk e c ps (and_left (part_ok e c ps) (row_ok e ps) o) (λ n h. quiet_calm e n ps a o' h p.walk q) p.read g.0 (and_left (tame p.tree) _ n) (row_walk e ps a p.others o' p.walk g.1 (and_right (tame p.tree) _ n) q))
  where
    fines_both : {t : Tree} {ts : Forest} → Fines (part t ts) → Fine t × Fines ts
    fines_both (fine_part f fs) = (f, fs)
row_walk e (Many s c ∷ Fixed (Tok Operator Punctuator u) ∷ ps) a {x} {z} ts o w f m q =
    let p = at_many w in
    let y = at_sign p.walk in
    let g = fines_list (subst Fines p.is f) in
    let n = subst (λ ts. tames ts ≡ true) p.is m in
    let h = many_facts e s c u ps o in
    subst (λ ts. Walk (many (holes s) u ∷ steps false ps) x ts z) (sym p.is)
    (each (items_walk s c u p.trees h.shape' h.hole' h.placed h.close' g.0 (and_left (tames p.trees) _ n) p.read y.moves y.found) (row_walk e ps a p.others h.rest' y.walk g.1 (and_right (tames p.trees) _ n) q))
  where
    fines_list : {ts us : Forest} → Fines (part (list ts) us) → Fines ts × Fines us
    fines_list (fine_part (fine_list f) fs) = (f, fs)
row_walk e _ a ts o w f m q = cc

-- ---- nodes

pub of_row : (k : Kind) {n : ℕ} {x y : Place} (ts : Forest) → taken k ≡ true → (is_brace k || is_prop k) ≡ false → n ≤ level k → leads (production k) ≡ false → Walk (row k) x ts y → Reads n x (node k ts) y
of_row (expression Parenthesized) ts s o l d (take e f (all a (take e' f' (pass g done)))) = paren l e f a e' f'
of_row (function ParenTarget) ts s o l d (take e f (under r c (take e' f' (pass g done)))) = target l e f r c e' f'
of_row (expression Arrow) ts s o l d (take e f (each i w)) = arrow l (take e f (each i done)) w
of_row (expression ArrowBlock) ts s o l d w = cc
of_row (expression Object) ts s o l d w = cc
of_row (expression Property) ts s o l d w = cc
of_row (expression Shorthand) ts s o l d w = cc
of_row (function (ObjectPat r)) ts s o l d w = cc
of_row (function (PropertyPat r)) ts s o l d w = cc
of_row (function (ShorthandPat r)) ts s o l d w = cc
of_row (function (ShorthandInit r)) ts s o l d w = cc
of_row (function (RestProperty r)) ts s o l d w = cc
of_row (function ComputedKey) ts s o l d w = cc
of_row (expression (NameLink q)) ts s o l d w = cc
of_row (expression (IndexLink q)) ts s o l d w = cc
of_row (expression (CallLink q)) ts s o l d w = cc
of_row (expression (PlainTemplate true)) ts s o l d w = cc
of_row (expression (SubstitutedTemplate true)) ts s o l d w = cc
of_row (expression (SubstitutedTemplate false)) ts s o l d w = cc
of_row (expression (TemplateSpan b)) ts s o l d w = cc
of_row _ ts s o l d w = head s refl refl l d w

pub lead_parts : {V : List Context → Surroundings} (ps : Production) (a : List Context) {x z : Place} (ts : Forest) → leads ps ≡ true → W.Walk IsRead V (pieces a ps) x ts z → AtPart V a (first_of ps) (pieces a (tail_of ps)) x ts z
lead_parts (Part c ∷ ps) a ts l w = at_part w
lead_parts _ a ts l w = cc

pub first_spine : (n : ℕ) {cs : Forest} {t : Tree} {ts : Forest} → cs ≡ part t ts → first_ok n cs ≡ true → spine_ok n t ≡ true
first_spine n p h = subst (λ cs. first_ok n cs ≡ true) p h
