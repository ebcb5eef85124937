-- What an expression begins with that is neither a literal nor another expression: a node of a kind whose row begins with a sign. Each fact on the kinds is one test of all of them.
use Rattle.std.proofs.Common.{◌≡◌, ◌≤◌, nat_eq, nat_le, Bool, true, false, not, List, [], ◌∷◌, refl, sym, ◌∙◌, ap, subst, arith}
use Rattle.std.specs.Prelude.{IsTrue, ◌&&◌, ◌||◌}
use Rattle.std.proofs.lemmas.Bool.{eqb-true}
use Rattle.jsx_base.specs.Token.{Text, Operator, Punctuator, JsxName, kind_number, token, same}
use Rattle.jsx_tree.specs.Signs.{AfterExpr, Sign, Tok}
use Rattle.jsx_tree.specs.Kinds.{Binds, Assigns, ArrayPat, ObjectPat, Array, Object, Parenthesized, Arrow, ArrowBlock, ImportCall, ImportMeta, New, NewWithoutArguments, NewTarget, SuperCall, SuperMember, SuperIndex, Seq, Spread, ParenTarget, Element, Kind, function, expression, jsx, Tree, leaf, node, list, Forest, PlainTemplate, SubstitutedTemplate}
use Rattle.jsx_tree.specs.Nonterminals.{Nonterminal, Expr, homes, in_homes}
use Rattle.jsx_tree.specs.Grammar.{Fixed, Part, Context, pun}
use Rattle.jsx_tree.specs.Reading.{Place, Lost, At, forth, go_if}
use Rattle.jsx_tree.specs.StaticRules.{Surroundings}
use Rattle.jsx_tree.specs.Form.{admits, fits_below}
use Rattle.jsx_tree.specs.Depth.{depth}
use Rattle.jsx_tree.specs.Walk.{is_found, one, Given, Past, Piece, piece, sign, tree, tail, Walk, next, around, steady}
use Rattle.jsx_tree.specs.Language.{Whole}
use Rattle.jsx_tree.specs.Answers.{Moves, Only, Barred, NoRow, NoNode, Built, BuiltNode}
use Rattle.jsx_tree.specs.Grows.{Onward, Stays}
use Rattle.jsx_tree.specs.Faults.{Fault, Unread, Shallow, part_depth, given_depth, outer, outer_if, inner, Below, deepest}
use Rattle.jsx_token.specs.Stage.{has_kind, value_leaf}
use Rattle.jsx_operand.specs.SoFar.{Staged, so_far}
use Rattle.jsx_token.specs.Marks.{row_so_far}
use Rattle.jsx_tree.proofs.Tokens.{and_left, and_right, and_both, same_is}
use Rattle.jsx_tree.proofs.Apart.{clash}
use Rattle.jsx_tree.proofs.Rows.Bridge.{found_at}
use Rattle.jsx_tree.proofs.Rows.Stopping.{is_never, never_stops, or_cases}
use Rattle.jsx_tree.proofs.Rows.Guarded.{guarded, whole_walk, loosen, to_grammar}
use Rattle.jsx_tree.proofs.Rows.Bodies.{bodiless, plain as plain_row}
use Rattle.jsx_tree.proofs.Rows.Closers.{any_operand, homes_operand}
use Rattle.jsx_tree.proofs.Rows.Spines.{grows}
use Rattle.jsx_tree.proofs.Rows.Growing.{grown_only, inside_shallow, onward_up}
use Rattle.jsx_tree.proofs.Rows.Placing.{Chosen, free, free_around, moved, node_shallow}
use Rattle.jsx_tree.proofs.Depth.Nodes.{counts_as, depth_told, read_depth}
use Rattle.jsx_tree.proofs.Depth.Shallow.{below_shallow, below_inner}
use Rattle.jsx_tree.proofs.Rows.Steps.{outer_barred}
use Rattle.jsx_operand.proofs.OfSoFar.{of_so_far}
use Rattle.jsx_token.specs.Growths.{Rung, rung, is_blocked, is_rung, level_of_kind, reaches, seat, lead, settled, opening_sign, opening_signs, same_sign, has_sign, is_code, NoOpening}
use Rattle.jsx_operand.specs.Climbing.{Begins, Climbs, NoneBegins, rises}
use Rattle.jsx_operand.specs.Openings.{opens_with, OnlyParts, NoParts, OnlyOpened, NoneOpened}
use Rattle.jsx_token.proofs.Listed.{Listed, listed, code, is_apart, kinds, every, every_two, of_each, of_two, one_place, implies, implied}
use Rattle.jsx_operand.proofs.Homes.{Literal, IsName, IsNumber, IsLong, IsString, token_kind, IsPattern, Value, made, no_list, leaf_one, tags, told}
use Rattle.jsx_operand.proofs.Values.{First, name, opened, less_literal, lead_row, led_sign, Opener, angle, plain, SameFirst, begun, onto, same_both, literal_sign, literal_opening, one_opening, opener_of, opened_sign, opened_led, quoted, Bracketed, in_array, in_object, bracketed, bracket_opener, bracket_sign, bracket_none, unbracketed, Quote, one_piece, whole_row, head_row, piece_row, piece_of, literal_piece, opener_piece}
use Rattle.jsx_operand.proofs.Rungs.{clear_first, leads_as, reaches_level, rises_node, rung_operand, rung_single, seat_admits, clear}
use Rattle.jsx_token.proofs.Levels.{grows_on, edge, at_level, is_ruled, signed, Quoted, undivided, divided, is_template}
use Rattle.jsx_operand.proofs.Climbing.{Climbed, blocked_ends, climb_step, edge_on, low, node_reaches, stays_low, counts_listed}
use Rattle.jsx_operand.proofs.PlainKinds.{plain_kind}

-- ---- of each kind

-- each part of its row is ended by what stands behind it, none of these is a body that asks something of the others, it may stand wherever a parser asks for an expression, and it begins as an element does or with one of the signs
abbrev opens_formed : Kind → Bool
opens_formed k =
    grows_on k
    || ((guarded (edge k) (row_so_far k) && (is_ruled k || bodiless (tail (row_so_far k)))) && ((has_kind k && any_operand (homes k)) && (nat_eq (code k) (code (jsx Element)) || (is_code (opening_sign k) && has_sign (opening_sign k) opening_signs))))

all_opens_formed : every opens_formed kinds ≡ true
unfolding opening_signs
all_opens_formed = refl

-- two that begin with one sign are one, but for those that are told apart behind it
abbrev pub is_shared : Kind → Bool
is_shared (expression ImportCall) = true
is_shared (expression ImportMeta) = true
is_shared (expression New) = true
is_shared (expression NewWithoutArguments) = true
is_shared (expression NewTarget) = true
is_shared (expression SuperCall) = true
is_shared (expression SuperMember) = true
is_shared (expression SuperIndex) = true
is_shared (expression Parenthesized) = true
is_shared (expression Arrow) = true
is_shared (expression ArrowBlock) = true
is_shared (expression Array) = true
is_shared (expression Object) = true
is_shared k = false

abbrev opens_apart : Kind → Kind → Bool
opens_apart k l = implies (not (grows_on k) && not (grows_on l)) (implies (same_sign (opening_sign k) (opening_sign l)) (nat_eq (code k) (code l) || is_shared l))

all_opens_apart : every_two opens_apart ≡ true
all_opens_apart = refl

record Opens (k : Kind) : Type 0 where
  closed : guarded (edge k) (row_so_far k) ≡ true
  bare : is_ruled k ≡ false → bodiless (tail (row_so_far k)) ≡ true
  taken : has_kind k ≡ true
  stood : any_operand (homes k) ≡ true
  begins : (nat_eq (code k) (code (jsx Element)) || (is_code (opening_sign k) && has_sign (opening_sign k) opening_signs)) ≡ true

opens : (k : Kind) → Listed k → grows_on k ≡ false → Opens k
opens k l g =
    let a : ((guarded (edge k) (row_so_far k) && (is_ruled k || bodiless (tail (row_so_far k)))) && ((has_kind k && any_operand (homes k)) && (nat_eq (code k) (code (jsx Element)) || (is_code (opening_sign k) && has_sign (opening_sign k) opening_signs)))) ≡ true = or_cases (grows_on k) _ (of_each opens_formed all_opens_formed k l) (λ h. absurd (clash _ h g)) (λ e. e) in
    let b = and_left (guarded (edge k) (row_so_far k) && (is_ruled k || bodiless (tail (row_so_far k)))) _ a in
    let c = and_right (guarded (edge k) (row_so_far k) && (is_ruled k || bodiless (tail (row_so_far k)))) _ a in
    let c1 = and_left (has_kind k && any_operand (homes k)) _ c in
    record {
      closed = and_left (guarded (edge k) (row_so_far k)) _ b;
      bare = λ n. or_cases (is_ruled k) _ (and_right (guarded (edge k) (row_so_far k)) _ b) (λ h. absurd (clash _ h n)) (λ e. e);
      taken = and_left (has_kind k) _ c1;
      stood = and_right (has_kind k) _ c1;
      begins = and_right (has_kind k && any_operand (homes k)) _ c;
    }

sole_kind : (j k : Kind) → Listed j → grows_on j ≡ false → Listed k → grows_on k ≡ false → is_shared k ≡ false → same_sign (opening_sign j) (opening_sign k) ≡ true → j ≡ k
sole_kind j k m h l g n e =
    one_place j k m l
    (or_cases (nat_eq (code j) (code k)) (is_shared k) (implied (same_sign (opening_sign j) (opening_sign k)) _ (implied (not (grows_on j) && not (grows_on k)) _ (of_two opens_apart all_opens_apart j k m l) (and_both _ _ (ap not h) (ap not g))) e) (λ i. i) (λ i. absurd (clash _ i n)))

-- ---- its row, each part in what the node makes of its surroundings

-- a row in this way alone, of all parts that keep the rules of the kind
pub record OnlyIn (v : Surroundings) (ps : List Piece) (k : Kind) (t : Tree) (x y : Place) : Type 0 where
  pub parts : Forest
  pub is : t ≡ node k parts
  pub walk : Walk (Whole so_far) (around v parts) ps x parts y
  pub keeps : so_far.keeps k v parts ≡ true
  pub alone : (us : Forest) (z : Place) → Walk (Whole so_far) (around v us) ps x us z → so_far.keeps k v us ≡ true → (parts ≡ us) × (y ≡ z)

-- the same where the surroundings don't hang on the parts
steadied : {v : Surroundings} {ps : List Piece} {x y : Place} (ts : Forest) → free ps ≡ true → Walk (Whole so_far) (around v ts) ps x ts y → Walk (Whole so_far) (steady v) ps x ts y
steadied {v} ts f w = moved (λ a h. free_around a ts v h) f w

unsteadied : {v : Surroundings} {ps : List Piece} {x y : Place} (ts : Forest) → free ps ≡ true → Walk (Whole so_far) (steady v) ps x ts y → Walk (Whole so_far) (around v ts) ps x ts y
unsteadied {v} ts f w = moved (λ a h. sym (free_around a ts v h)) f w

free_in : {v : Surroundings} {ps : List Piece} {x y : Place} {t : Tree} (k : Kind) → free ps ≡ true → BuiltNode so_far v ps k t x y → OnlyIn v ps k t x y
free_in k f b = record { parts = b.parts; is = b.is; walk = unsteadied b.parts f b.row.walk; keeps = b.keeps; alone = λ us z w h. b.row.alone us z (steadied us f w) }

pub free_parts : {v : Surroundings} {x y : Place} {t : Tree} (k : Kind) → free (tail (row_so_far k)) ≡ true → BuiltNode so_far v (tail (row_so_far k)) k t x y → OnlyParts v k t x y
free_parts k f b = record { parts = b.parts; is = b.is; walk = unsteadied b.parts f b.row.walk; keeps = b.keeps; alone = λ us z w h. b.row.alone us z (steadied us f w) }

pub free_none : {v : Surroundings} {x : Place} {e : Fault} (k : Kind) → free (tail (row_so_far k)) ≡ true → NoNode so_far v (tail (row_so_far k)) k x e → NoParts v k x e
free_none k f n = record { no = λ us z w h s. n.no us z (steadied us f w) h s }

-- a row without the sign that it begins with
pub peel : {V : List Context → Surroundings} (ps : List Piece) {x a z : Place} {ts : Forest} → signed ps ≡ true → forth (lead ps) x ≡ a → Walk (Whole so_far) V ps x ts z → Walk (Whole so_far) V (tail ps) a ts z
peel {V} (piece a (Fixed s) ∷ ps) {z = z} l e (next {ts = us} (sign d f) w) = subst (λ p. Walk (Whole so_far) V ps p us z) (sym d ∙ e) w
peel _ l e w = cc

-- and with it
put_on : {V : List Context → Surroundings} (ps : List Piece) {x a z : Place} {ts : Forest} → signed ps ≡ true → Moves (lead ps) x a → Walk (Whole so_far) V (tail ps) a ts z → Walk (Whole so_far) V ps x ts z
put_on {V} ps {x} {z = z} {ts} l m w = subst (λ qs. Walk (Whole so_far) V qs x ts z) (lead_row ps l) (next (sign (sym m.is) m.found) w)

pub signed_in : {v : Surroundings} {x a y : Place} {t : Tree} (k : Kind) → signed (row_so_far k) ≡ true → Moves (lead (row_so_far k)) x a → OnlyParts v k t a y → OnlyIn v (row_so_far k) k t x y
signed_in k l m b = record { parts = b.parts; is = b.is; walk = put_on (row_so_far k) l m b.walk; keeps = b.keeps; alone = λ us z w h. b.alone us z (peel (row_so_far k) l (sym m.is) w) h }

-- what stands at a nonterminal, where no other kind does
pub parts_only : {v : Surroundings} {c : Nonterminal} {k : Kind} {x a y : Place} {t : Tree} → Chosen so_far v c k x → guarded c (row_so_far k) ≡ true → signed (row_so_far k) ≡ true → ((ts : Forest) → admits c (node k ts) ≡ true) → is_never c ≡ true → Moves (lead (row_so_far k)) x a → OnlyParts v k t a y → Only so_far v (Part c) x (one t) y
parts_only {v} {c} {k} {x} {a} {y} {t} ch g l home e m b = record {
  past = tree (subst (λ u. Whole so_far v false c x u y) (sym n.is) (record { reads = of_so_far.to_node k (home n.parts) (record { walk = loosen n.walk; keeps = n.keeps }); ends_there = of_so_far.ends_there c y (never_stops c y e) }));
  alone = at;
}
  where
    n : OnlyIn v (row_so_far k) k t x y
    n = signed_in k l m b

    at : (h : Given) (z : Place) → Past (Whole so_far) v (Part c) x h z → (one t ≡ h) × (y ≡ z)
    at h z (tree {t = leaf j r} q) = absurd (ch.no_leaf j r z q)
    at h z (tree {t = list us} q) = absurd (no_list q.reads)
    at h z (tree {t = node j us} q) =
        let i = ch.kind j us z q in
        let q' : Whole so_far v false c x (node k us) z = subst (λ h. Whole so_far v false c x (node h us) z) i q in
        let w = of_so_far.from_node k q'.reads in
        let same = n.alone us z (whole_walk of_so_far c (row_so_far k) g q'.ends_there w.walk) w.keeps in
        (ap one (n.is ∙ (ap (node k) same.0 ∙ ap (λ h. node h us) (sym i))), same.1)

pub parts_barred : {v : Surroundings} {c : Nonterminal} {k : Kind} {x a : Place} {e : Fault} (b : Bool) → counts_as b k ≡ true → Chosen so_far v c k x → guarded c (row_so_far k) ≡ true → signed (row_so_far k) ≡ true → Moves (lead (row_so_far k)) x a → NoParts v k a e → Barred so_far v (Part c) x (outer_if b e)
parts_barred {v} {c} {k} {x} {e = e} b i ch g l m n = record { no = at }
  where
    at : (h : Given) (z : Place) → Past (Whole so_far) v (Part c) x h z → Shallow (outer_if b e) (given_depth h) → ⊥
    at h z (tree {t = leaf j r} q) s = ch.no_leaf j r z q
    at h z (tree {t = list us} q) s = no_list q.reads
    at h z (tree {t = node j us} q) s =
        let q' : Whole so_far v false c x (node k us) z = subst (λ h. Whole so_far v false c x (node h us) z) (ch.kind j us z q) q in
        let w = of_so_far.from_node k q'.reads in
        n.no us z (peel (row_so_far k) l (sym m.is) (whole_walk of_so_far c (row_so_far k) g q'.ends_there w.walk)) w.keeps (node_shallow e b i of_so_far q'.reads (subst (λ h. Shallow (outer_if b e) (part_depth (node h us))) (ch.kind j us z q) s))

-- ---- read to the ends of its parts

kind_whole : {v : Surroundings} (r : Rung) {d : Nonterminal} {x y z : Place} {u : Tree} {ts : Forest} (k : Kind) → is_rung r ≡ true → Listed k → guarded (edge k) (row_so_far k) ≡ true → Staged v false d x (node k ts) y → Onward so_far v x (node k ts) y u z → Whole so_far v false (seat r) x u z → Walk (Whole so_far) (around v ts) (row_so_far k) x ts y
kind_whole r {ts = ts} k i l c q o w = whole_walk of_so_far (edge k) (row_so_far k) c (edge_on r k (node k ts) i l refl o w) (of_so_far.from_node k q).walk

opened_whole : {v : Surroundings} (r : Rung) {d : Nonterminal} {x y z : Place} {u : Tree} {ts : Forest} (k : Kind) → is_rung r ≡ true → Listed k → grows_on k ≡ false → Staged v false d x (node k ts) y → Onward so_far v x (node k ts) y u z → Whole so_far v false (seat r) x u z → Walk (Whole so_far) (around v ts) (row_so_far k) x ts y
opened_whole r k i l g q o w = kind_whole r k i l (opens k l g).closed q o w

-- no pattern in brackets is what is read whole there begins with
pub record NoBracket (v : Surroundings) (r : Rung) (x : Place) : Type 0 where
  pub on : {d : Nonterminal} {p : Place} {ts : Forest} {u : Tree} {z : Place} {k : Kind} → Bracketed k → Staged v false d x (node k ts) p → Onward so_far v x (node k ts) p u z → Whole so_far v false (seat r) x u z → ⊥

-- none that is as shallow
pub record DeepBracket (v : Surroundings) (r : Rung) (x : Place) (e : Fault) : Type 0 where
  pub on : {d : Nonterminal} {p : Place} {ts : Forest} {u : Tree} {z : Place} {k : Kind} → Bracketed k → Staged v false d x (node k ts) p → Onward so_far v x (node k ts) p u z → Whole so_far v false (seat r) x u z → Shallow e (part_depth u) → ⊥

pub deep_bracket : {v : Surroundings} {r : Rung} {x : Place} {e : Fault} → NoBracket v r x → DeepBracket v r x e
deep_bracket n = record { on = λ b s o w _. n.on b s o w }

-- where another sign stands none does
pub no_bracket_by : {v : Surroundings} {x : Place} (k : Kind) → Listed k → grows_on k ≡ false → unbracketed (opening_sign k) ≡ true → IsTrue (is_found (forth (opening_sign k) x)) → (r : Rung) → NoBracket v r x
no_bracket_by k l g n f r = record { on = λ b s o w. bracket_none (opener_of k l g) n f b s }

-- a kind that no other begins as begins with neither
abbrev unbracketed_kind : Kind → Bool
unbracketed_kind k = grows_on k || (is_shared k || unbracketed (opening_sign k))

all_unbracketed : every unbracketed_kind kinds ≡ true
all_unbracketed = refl

sole_unbracketed : (k : Kind) → Listed k → grows_on k ≡ false → is_shared k ≡ false → unbracketed (opening_sign k) ≡ true
sole_unbracketed k l g n = or_cases (grows_on k) _ (of_each unbracketed_kind all_unbracketed k l) (λ h. absurd (clash _ h g)) (λ o. or_cases (is_shared k) _ o (λ h. absurd (clash _ h n)) (λ e. e))

-- a node, and that no other begins from there with the sign that it begins with
record OnlyFirst (v : Surroundings) (t : Tree) (x y : Place) : Type 0 where
  kind : Kind
  listed : Listed kind
  still : grows_on kind ≡ false
  built : OnlyIn v (row_so_far kind) kind t x y
  alone : (j : Kind) (ts : Forest) (z : Place) → Listed j → grows_on j ≡ false → same_sign (opening_sign j) (opening_sign kind) ≡ true → Walk (Whole so_far) (around v ts) (row_so_far j) x ts z → so_far.keeps j v ts ≡ true → SameFirst (node j ts) t z y

-- so it is what everything that is read from there begins with
to_opened : {v : Surroundings} (r : Rung) {x y p z : Place} {f t u : Tree} → is_rung r ≡ true → NoBracket v r x → OnlyFirst v t x y → First v x f p → Onward so_far v x f p u z → Whole so_far v false (seat r) x u z → SameFirst f t p y
to_opened r {x = x} i n b (name m {t = s} h q e e') o w = absurd (literal_opening m s (opening_sign b.kind) x (opener_of b.kind b.listed b.still) h (found_at e e') (led_sign (row_so_far b.kind) (opened_led b.kind b.listed b.still) b.built.walk))
to_opened r i n b (bracketed d q s) o w = absurd (n.on q s o w)
to_opened r {x = x} i n b (quoted d q s) o w = absurd (opener_piece x (opener_of b.kind b.listed b.still) (led_sign (row_so_far b.kind) (opened_led b.kind b.listed b.still) b.built.walk) (piece_of q s))
to_opened r {x = x} {p = p} i n b (opened d {k = j} {ts} m h q) o w =
    let here = led_sign (row_so_far b.kind) (opened_led b.kind b.listed b.still) b.built.walk in
    b.alone j ts p m h (one_opening (opening_sign j) (opening_sign b.kind) x (opener_of j m h) (opener_of b.kind b.listed b.still) (opened_sign j m h q) here) (opened_whole r j i m h q o w) (of_so_far.from_node j q).keeps

staged_at : {v : Surroundings} (r : Rung) {x y : Place} {ts : Forest} (k : Kind) → is_rung r ≡ true → reaches r k ≡ true → Listed k → clear r (node k ts) ≡ true → Walk (Whole so_far) (around v ts) (row_so_far k) x ts y → so_far.keeps k v ts ≡ true → Staged v false (seat r) x (node k ts) y
staged_at r {ts = ts} k i e l c w keeps = of_so_far.to_node k (seat_admits r k ts ((at_level {r = r} i k l).home ∙ reaches_level r k e) c) (record { walk = loosen w; keeps = keeps })

-- what stands behind its sign keeps its rules, where these ask nothing
pub kept_behind : {v : Surroundings} {a y : Place} {t : Tree} (k : Kind) → Listed k → grows_on k ≡ false → is_ruled k ≡ false → Built so_far v (tail (row_so_far k)) k (λ ts. ts) t a y → BuiltNode so_far v (tail (row_so_far k)) k t a y
kept_behind {v} k l g n b =
    let f = opens k l g in
    record {
      parts = b.parts;
      is = b.is;
      row = b.row;
      keeps = and_both _ _ f.taken (plain_kind k b.parts v n f.taken f.stood (plain_row (tail (row_so_far k)) (f.bare n) (to_grammar of_so_far b.row.walk)));
    }

-- the same of its whole row
pub kept_whole : {v : Surroundings} {x y : Place} {t : Tree} (k : Kind) → Listed k → grows_on k ≡ false → is_ruled k ≡ false → bodiless (row_so_far k) ≡ true → Built so_far v (row_so_far k) k (λ ts. ts) t x y → BuiltNode so_far v (row_so_far k) k t x y
kept_whole {v} k l g n bare b =
    let f = opens k l g in
    record { parts = b.parts; is = b.is; row = b.row; keeps = and_both _ _ f.taken (plain_kind k b.parts v n f.taken f.stood (plain_row (row_so_far k) bare (to_grammar of_so_far b.row.walk))) }

-- what is read from there begins with this node
record Leads (v : Surroundings) (r : Rung) (x : Place) (t : Tree) (y : Place) : Type 0 where
  on : {f u : Tree} {p z : Place} → First v x f p → Onward so_far v x f p u z → Whole so_far v false (seat r) x u z → SameFirst f t p y

-- above its level nothing is read that begins with it
too_low : {v : Surroundings} {d : Fault} (r : Rung) {x y : Place} {t : Tree} (k : Kind) → is_rung r ≡ true → Listed k → Leads v r x t y → OnlyIn v (row_so_far k) k t x y → rises r t ≡ false → Barred so_far v (Part (seat r)) x d
too_low {v} {d = d} r {x} {y} {t} k i l c b e = record { no = at }
  where
    at : (h : Given) (z : Place) → Past (Whole so_far) v (Part (seat r)) x h z → Shallow d (given_depth h) → ⊥
    at h z (tree {t = u} q) s =
        let m = begun (rung_single r i) u q.reads in
        let o : Onward so_far v x t y u z = onto (c.on m.first m.onward q) m.onward in
        let here : Staged v false (Expr 1) x t y = subst (λ w. Staged v false (Expr 1) x w y) (sym b.is) (staged_at (rung 1) k refl (of_each (λ j. nat_le 1 (level_of_kind j)) refl k l) l refl b.walk b.keeps) in
        clash (rises r t) (ap (rises r) b.is ∙ (rises_node r k b.parts ∙ node_reaches r i l (subst (λ w. Staged v false (seat r) x w y) b.is (low r i (subst Value (sym b.is) (made l)) here o q.reads)))) e

-- at one rung: wherever the tree may stand there, and else nothing is read
pub record Rises (v : Surroundings) (r : Rung) (x : Place) (t : Tree) (y : Place) : Type 0 where
  pub climbs : rises r t ≡ true → Climbs v r x t y
  pub low : rises r t ≡ false → Barred so_far v (Part (seat r)) x Unread

node_climbed : {v : Surroundings} {x y : Place} {t : Tree} (r : Rung) → is_rung r ≡ true → (k : Kind) → Listed k → Leads v r x t y → (b : OnlyIn v (row_so_far k) k t x y) → (reaches r k ≡ true → clear r (node k b.parts) ≡ true) → rises r t ≡ true → Climbed v r x t y
node_climbed {v} {x} {y} {t} r i k l c b d e =
    let up : reaches r k ≡ true = sym (rises_node r k b.parts) ∙ (sym (ap (rises r) b.is) ∙ e) in
    let reads : Staged v false (seat r) x t y = subst (λ u. Staged v false (seat r) x u y) (sym b.is) (staged_at r k i up l (d up) b.walk b.keeps) in
    record {
      follows = record { home = seat r; operand = rung_operand r; reads = reads; all = λ u z q. let m = begun (rung_single r i) u q.reads in onto (c.on m.first m.onward q) m.onward };
      reads = reads;
    }

node_rises : {v : Surroundings} {x y : Place} {t : Tree} (r : Rung) → is_rung r ≡ true → (k : Kind) → Listed k → Leads v r x t y → (b : OnlyIn v (row_so_far k) k t x y) → (reaches r k ≡ true → clear r (node k b.parts) ≡ true) → settled y ≡ true → Rises v r x t y
node_rises r i k l c b d s = record { climbs = λ e. climb_step (node_climbed r i k l c b d e) s; low = λ e. too_low r k i l c b e }

node_follows : {v : Surroundings} {x y : Place} {t : Tree} (k : Kind) → Listed k → ((r : Rung) → is_rung r ≡ true → Leads v r x t y) → (b : OnlyIn v (row_so_far k) k t x y) → ((r : Rung) → reaches r k ≡ true → clear r (node k b.parts) ≡ true) → settled y ≡ true → Begins v x t y
node_follows k l c b d s = record { on = λ r i e. (node_rises r i k l (c r i) b (d r) s).climbs e; low = λ r i e. (node_rises r i k l (c r i) b (d r) s).low e; ended = s }

-- no call stands at its left end
only_clear : {v : Surroundings} {x y : Place} {t : Tree} (r : Rung) (b : OnlyFirst v t x y) → reaches r b.kind ≡ true → clear r (node b.kind b.built.parts) ≡ true
only_clear r b e = clear_first r b.kind b.built.parts (sym (leads_as b.kind b.listed) ∙ ap (λ g. g && not (is_template b.kind)) b.still) e

only_rises : {v : Surroundings} {x y : Place} {t : Tree} (r : Rung) → is_rung r ≡ true → NoBracket v r x → OnlyFirst v t x y → settled y ≡ true → Rises v r x t y
only_rises r i n b s = node_rises r i b.kind b.listed (record { on = λ f o w. to_opened r i n b f o w }) b.built (only_clear r b) s

only_follows : {v : Surroundings} {x y : Place} {t : Tree} → ((r : Rung) → NoBracket v r x) → OnlyFirst v t x y → settled y ≡ true → Begins v x t y
only_follows n b s = node_follows b.kind b.listed (λ r i. record { on = λ f o w. to_opened r i (n r) b f o w }) b.built (λ r e. only_clear r b e) s

-- a node that was read is what is read as one of its kind

same_node : {v : Surroundings} {ps : List Piece} {x y z : Place} {t : Tree} {ts : Forest} (k : Kind) → OnlyIn v ps k t x y → Walk (Whole so_far) (around v ts) ps x ts z → so_far.keeps k v ts ≡ true → SameFirst (node k ts) t z y
same_node {z = z} {ts = ts} k b w h = let s = b.alone ts z w h in record { tree = ap (node k) (sym s.0) ∙ sym b.is; place = sym s.1 }

same_parts : {v : Surroundings} {x y z : Place} {t : Tree} {ts : Forest} (k : Kind) → OnlyParts v k t x y → Walk (Whole so_far) (around v ts) (tail (row_so_far k)) x ts z → so_far.keeps k v ts ≡ true → (node k ts ≡ t) × (z ≡ y)
same_parts {z = z} {ts = ts} k b w h = let s = b.alone ts z w h in (ap (node k) (sym s.0) ∙ sym b.is, sym s.1)

-- ---- a kind that no other begins as

sole_first : {v : Surroundings} {x y : Place} {t : Tree} (k : Kind) → Listed k → grows_on k ≡ false → is_shared k ≡ false → OnlyIn v (row_so_far k) k t x y → OnlyFirst v t x y
sole_first {v} {x} {y} {t} k l g n b = record {
  kind = k;
  listed = l;
  still = g;
  built = b;
  alone = λ j ts z m h e w keeps. subst (λ i. Walk (Whole so_far) (around v ts) (row_so_far i) x ts z → so_far.keeps i v ts ≡ true → SameFirst (node i ts) t z y) (sym (sole_kind j k m h l g n e)) (same_node k b) w keeps;
}

-- nor does a pattern in brackets
sole_clear : {v : Surroundings} {x y : Place} {t : Tree} (k : Kind) → Listed k → grows_on k ≡ false → is_shared k ≡ false → OnlyIn v (row_so_far k) k t x y → (r : Rung) → NoBracket v r x
sole_clear k l g n b = no_bracket_by k l g (sole_unbracketed k l g n) (led_sign (row_so_far k) (opened_led k l g) b.walk)

pub opened_follows : {v : Surroundings} {x y : Place} {t : Tree} (k : Kind) → Listed k → grows_on k ≡ false → is_shared k ≡ false → free (row_so_far k) ≡ true → BuiltNode so_far v (row_so_far k) k t x y → settled y ≡ true → Begins v x t y
opened_follows k l g n f b s = only_follows (sole_clear k l g n (free_in k f b)) (sole_first k l g n (free_in k f b)) s

-- ---- what stands behind a sign, of all kinds that begin with it

no_opens : (ps : List Piece) (s : Sign) → same_sign (lead ps) s ≡ true → grows ps ≡ false
no_opens (piece [] (Fixed u) ∷ ps) s e = refl
no_opens (piece [] (Part c) ∷ ps) s e = cc
no_opens (piece (b ∷ a) (Fixed u) ∷ ps) s e = refl
no_opens _ s e = cc

opens_still : (s : Sign) (k : Kind) → opens_with s k ≡ true → grows_on k ≡ false
opens_still s k e = no_opens (row_so_far k) s (and_right (in_homes (Expr 0) (homes k)) _ (and_right (has_kind k) _ e))

not_apart : (s : Sign) (k : Kind) → opens_with s k ≡ true → is_apart k ≡ false
not_apart s (expression Seq) e = cc
not_apart s (expression Spread) e = cc
not_apart s (function ParenTarget) e = cc
not_apart s (function (ArrayPat Binds)) e = cc
not_apart s (function (ArrayPat Assigns)) e = cc
not_apart s (function (ObjectPat Binds)) e = cc
not_apart s (function (ObjectPat Assigns)) e = cc
not_apart s _ e = refl

pub opens_listed : (s : Sign) (k : Kind) → opens_with s k ≡ true → Listed k
opens_listed s k e = listed k (and_left (has_kind k) _ e) (homes_operand (Expr 0) (homes k) refl (and_left (in_homes (Expr 0) (homes k)) _ (and_right (has_kind k) _ e))) (not_apart s k e)

with_sign : (k j : Kind) → Listed j → grows_on j ≡ false → same_sign (opening_sign j) (opening_sign k) ≡ true → opens_with (opening_sign k) j ≡ true
with_sign k j m g e = and_both _ _ (opens j m g).taken (and_both _ _ (of_each (λ i. in_homes (Expr 0) (homes i)) refl j m) e)

-- what is behind the sign of another is behind its own
same_forth : (s u : Sign) (x : Place) → Opener s → Opener u → same_sign s u ≡ true → forth s x ≡ forth u x
same_forth s u x angle angle e = refl
same_forth s u x angle (plain {k} {d} {t} o) e = absurd (clash _ (ap (λ n. nat_eq n 60) (sym (eqb-true 60 d (and_left (nat_eq 60 d) _ (and_right (nat_eq (kind_number Punctuator) (kind_number k)) _ e))))) o.low)
same_forth s u x (plain {k} {d} {t} o) angle e = absurd (clash _ (and_left (nat_eq d 60) _ (and_right (nat_eq (kind_number k) (kind_number Punctuator)) _ e)) o.low)
same_forth s u x (plain {k} {d} {t} o) (plain {k = l} {d = c} {t = w} q) e = at x
  where
    kinds_same : kind_number k ≡ kind_number l
    kinds_same = eqb-true (kind_number k) (kind_number l) (and_left (nat_eq (kind_number k) (kind_number l)) _ e)

    texts_same : d ∷ t ≡ c ∷ w
    texts_same = same_is (d ∷ t) (c ∷ w) (and_right (nat_eq (kind_number k) (kind_number l)) _ e)

    at : (p : Place) → forth (Tok Operator k (d ∷ t)) p ≡ forth (Tok Operator l (c ∷ w)) p
    at Lost = refl
    at (At r g text) = let m = token Operator (same r []) text in (λ i. go_if (nat_eq (kind_number m.kind) (kinds_same i) && same m.raw (texts_same i)) (At (texts_same i) AfterExpr m.rest))

behind_sign : {v : Surroundings} {x a z : Place} {ts : Forest} (j k : Kind) → Listed j → grows_on j ≡ false → Listed k → grows_on k ≡ false → Moves (opening_sign k) x a → same_sign (opening_sign j) (opening_sign k) ≡ true → Walk (Whole so_far) (around v ts) (row_so_far j) x ts z → Walk (Whole so_far) (around v ts) (tail (row_so_far j)) a ts z
behind_sign {x = x} j k m h l g s e w = peel (row_so_far j) (opened_led j m h) (same_forth (opening_sign j) (opening_sign k) x (opener_of j m h) (opener_of k l g) e ∙ sym s.is) w

opened_first : {v : Surroundings} {x a y : Place} {t : Tree} (k : Kind) → Listed k → grows_on k ≡ false → Moves (opening_sign k) x a → OnlyOpened v (opening_sign k) t a y → OnlyFirst v t x y
opened_first {v} {x} {a} {y} {t} k l g s o = record {
  kind = o.kind;
  listed = m;
  still = h;
  built = signed_in o.kind (opened_led o.kind m h) (record { is = s.is ∙ sym (same_forth (opening_sign o.kind) (opening_sign k) x (opener_of o.kind m h) (opener_of k l g) (and_right (in_homes (Expr 0) (homes o.kind)) _ (and_right (has_kind o.kind) _ o.begins))); found = s.found }) o.built;
  alone = λ j ts z n i e w keeps.
      let e' = one_opening (opening_sign j) (opening_sign k) x (opener_of j n i) (opener_of k l g) (led_sign (row_so_far j) (opened_led j n i) w) (found_at (sym s.is) s.found) in
      let q = o.alone j ts z (with_sign k j n i e') (behind_sign j k n i l g s e' w) keeps in record { tree = q.0; place = q.1 };
}
  where
    m : Listed o.kind
    m = opens_listed (opening_sign k) o.kind o.begins

    h : grows_on o.kind ≡ false
    h = opens_still (opening_sign k) o.kind o.begins

-- ---- a template

pub quoted_listed : {k : Kind} → Quoted k → Listed k
quoted_listed undivided = listed (expression (PlainTemplate false)) refl refl refl
quoted_listed divided = listed (expression (SubstitutedTemplate false)) refl refl refl

quoted_closed : {k : Kind} → Quoted k → guarded (edge k) (row_so_far k) ≡ true
quoted_closed undivided = refl
quoted_closed divided = refl

quoted_freed : {k : Kind} → Quoted k → free (row_so_far k) ≡ true
quoted_freed undivided = refl
quoted_freed divided = refl

-- no call stands at its left end
clear_quoted : (r : Rung) {k : Kind} (ts : Forest) → Quoted k → reaches r k ≡ true → clear r (node k ts) ≡ true
clear_quoted r ts undivided e = clear_first r (expression (PlainTemplate false)) ts refl e
clear_quoted r ts divided e = clear_first r (expression (SubstitutedTemplate false)) ts refl e

quoted_whole : {v : Surroundings} (r : Rung) {d : Nonterminal} {x y z : Place} {u : Tree} {k : Kind} {ts : Forest} → Quoted k → is_rung r ≡ true → Staged v false d x (node k ts) y → Onward so_far v x (node k ts) y u z → Whole so_far v false (seat r) x u z → Walk (Whole so_far) (around v ts) (row_so_far k) x ts y
quoted_whole r {k = k} q i s o w = kind_whole r k i (quoted_listed q) (quoted_closed q) s o w

-- two at one place are of one kind
one_quoted : {v : Surroundings} {d : Nonterminal} {V : List Context → Surroundings} {x p y : Place} {j k : Kind} {ts us : Forest} → Quoted k → Quoted j → Staged v false d x (node j ts) p → Walk Staged V (row_so_far k) x us y → j ≡ k
one_quoted undivided undivided r w = refl
one_quoted divided divided r w = refl
one_quoted undivided divided r w = absurd (one_piece (whole_row w) (head_row (of_so_far.from_node (expression (SubstitutedTemplate false)) r).walk))
one_quoted divided undivided r w = absurd (one_piece (whole_row (of_so_far.from_node (expression (PlainTemplate false)) r).walk) (head_row w))

to_quoted : {v : Surroundings} (r : Rung) {x y p z : Place} {f t u : Tree} {k : Kind} → Quoted k → is_rung r ≡ true → OnlyIn v (row_so_far k) k t x y → First v x f p → Onward so_far v x f p u z → Whole so_far v false (seat r) x u z → SameFirst f t p y
to_quoted r {x = x} q i b (name m {t = s} h w e e') o u = absurd (literal_piece m s x (found_at e e') (piece_row q (loosen b.walk)))
to_quoted r {x = x} q i b (bracketed d n s) o u = absurd (opener_piece x (bracket_opener n) (bracket_sign n s) (piece_row q (loosen b.walk)))
to_quoted r {x = x} q i b (opened d {k = j} m h s) o u = absurd (opener_piece x (opener_of j m h) (opened_sign j m h s) (piece_row q (loosen b.walk)))
to_quoted {v} r {x} {y} {p} {t = t} {k = k} q i b (quoted d {k = j} {ts} h s) o w = subst (λ c. Walk (Whole so_far) (around v ts) (row_so_far c) x ts p → so_far.keeps c v ts ≡ true → SameFirst (node c ts) t p y) (sym (one_quoted q h s (loosen b.walk))) (same_node k b) (quoted_whole r h i s o w) (of_so_far.from_node j s).keeps

pub quoted_follows : {v : Surroundings} {x y : Place} {t : Tree} {k : Kind} → Quoted k → BuiltNode so_far v (row_so_far k) k t x y → settled y ≡ true → Begins v x t y
quoted_follows {k = k} q b s = let n = free_in k (quoted_freed q) b in node_follows k (quoted_listed q) (λ r i. record { on = λ f o w. to_quoted r q i n f o w }) n (λ r e. clear_quoted r n.parts q e) s

-- with the sign before it
pub signed_follows : {v : Surroundings} {x a y : Place} {t : Tree} (k : Kind) → Listed k → grows_on k ≡ false → unbracketed (opening_sign k) ≡ true → Moves (opening_sign k) x a → OnlyOpened v (opening_sign k) t a y → settled y ≡ true → Begins v x t y
signed_follows k l g n m o s = only_follows (no_bracket_by k l g n (found_at (sym m.is) m.found)) (opened_first k l g m o) s

-- of an arrow function with its block, with which nothing goes on
pub record EndsAt (v : Surroundings) (x : Place) (t : Tree) (y : Place) : Type 0 where
  pub whole : (r : Rung) → is_rung r ≡ true → rises r t ≡ true → Only so_far v (Part (seat r)) x (one t) y
  pub low : (r : Rung) → is_rung r ≡ true → rises r t ≡ false → Barred so_far v (Part (seat r)) x Unread

pub signed_blocked : {v : Surroundings} {x a y : Place} {t : Tree} (k : Kind) → Listed k → grows_on k ≡ false → unbracketed (opening_sign k) ≡ true → Moves (opening_sign k) x a → (o : OnlyOpened v (opening_sign k) t a y) → nat_le (level_of_kind o.kind) 2 ≡ true → is_blocked y ≡ true → EndsAt v x t y
unfolding opened_first
signed_blocked {v} {x} {a} {y} {t} k l g n m o e b = record { whole = at; low = λ r i h. too_low r first.kind i first.listed (leads r i) first.built h }
  where
    first : OnlyFirst v t x y
    first = opened_first k l g m o

    leads : (r : Rung) → is_rung r ≡ true → Leads v r x t y
    leads r i = record { on = λ f w q. to_opened r i (no_bracket_by k l g n (found_at (sym m.is) m.found) r) first f w q }

    at : (r : Rung) → is_rung r ≡ true → rises r t ≡ true → Only so_far v (Part (seat r)) x (one t) y
    at r i h =
        let c = node_climbed r i first.kind first.listed (leads r i) first.built (only_clear r first) h in
        grown_only c.follows (subst (λ u. Stays so_far v (seat r) x u y) (sym first.built.is) (stays_low first.kind first.listed e)) c.reads (blocked_ends r y i b)

-- with a bracket before it, where no pattern begins what is read
pub bracket_rises : {v : Surroundings} {x a y : Place} {t : Tree} (r : Rung) → is_rung r ≡ true → (k : Kind) → Listed k → grows_on k ≡ false → NoBracket v r x → Moves (opening_sign k) x a → OnlyOpened v (opening_sign k) t a y → settled y ≡ true → Rises v r x t y
bracket_rises r i k l g n m o s = only_rises r i n (opened_first k l g m o) s

-- a kind that no other begins as
abbrev self_signed : Kind → Bool
self_signed k = grows_on k || same_sign (opening_sign k) (opening_sign k)

all_self_signed : every self_signed kinds ≡ true
all_self_signed = refl

own_sign : (k : Kind) → Listed k → grows_on k ≡ false → opens_with (opening_sign k) k ≡ true
own_sign k l g = with_sign k k l g (or_cases (grows_on k) _ (of_each self_signed all_self_signed k l) (λ h. absurd (clash _ h g)) (λ e. e))

sole_with : (k : Kind) → Listed k → grows_on k ≡ false → is_shared k ≡ false → (j : Kind) → opens_with (opening_sign k) j ≡ true → j ≡ k
sole_with k l g n j o = sole_kind j k (opens_listed (opening_sign k) j o) (opens_still (opening_sign k) j o) l g n (and_right (in_homes (Expr 0) (homes j)) _ (and_right (has_kind j) _ o))

pub sole_parts : {v : Surroundings} {a y : Place} {t : Tree} (k : Kind) → Listed k → grows_on k ≡ false → is_shared k ≡ false → OnlyParts v k t a y → OnlyOpened v (opening_sign k) t a y
sole_parts {v} {a} {y} {t} k l g n b = record {
  kind = k;
  begins = own_sign k l g;
  built = b;
  alone = λ j ts z o w keeps. subst (λ i. Walk (Whole so_far) (around v ts) (tail (row_so_far i)) a ts z → so_far.keeps i v ts ≡ true → (node i ts ≡ t) × (z ≡ y)) (sym (sole_with k l g n j o)) (same_parts k b) w keeps;
}

pub no_sole_parts : {v : Surroundings} {a : Place} {e : Fault} (k : Kind) → Listed k → grows_on k ≡ false → is_shared k ≡ false → NoParts v k a e → NoneOpened v (opening_sign k) a e
no_sole_parts {v} {a} {e = e} k l g n b = record { no = λ j o. subst (λ i. NoParts v i a e) (sym (sole_with k l g n j o)) b }

-- where what its parts stand in doesn't hang on them
pub sole_opened : {v : Surroundings} {a y : Place} {t : Tree} (k : Kind) → Listed k → grows_on k ≡ false → is_shared k ≡ false → free (tail (row_so_far k)) ≡ true → BuiltNode so_far v (tail (row_so_far k)) k t a y → OnlyOpened v (opening_sign k) t a y
sole_opened k l g n f b = sole_parts k l g n (free_parts k f b)

pub sole_none : {v : Surroundings} {a : Place} {e : Fault} (k : Kind) → Listed k → grows_on k ≡ false → is_shared k ≡ false → free (tail (row_so_far k)) ≡ true → NoNode so_far v (tail (row_so_far k)) k a e → NoneOpened v (opening_sign k) a e
sole_none k l g n f b = no_sole_parts k l g n (free_none k f b)

-- of kinds that begin with one sign one is read, and each other is not
pub data Other (v : Surroundings) (a : Place) : Kind → Kind → Type 0 where
  itself : {k : Kind} → Other v a k k
  barred : {k j : Kind} → free (tail (row_so_far j)) ≡ true → NoNode so_far v (tail (row_so_far j)) j a Unread → Other v a k j

pub opened_by : {v : Surroundings} {s : Sign} {a y : Place} {t : Tree} (k : Kind) → opens_with s k ≡ true → free (tail (row_so_far k)) ≡ true → BuiltNode so_far v (tail (row_so_far k)) k t a y → ((j : Kind) → opens_with s j ≡ true → Other v a k j) → OnlyOpened v s t a y
opened_by {v} {s} {a} {y} {t} k e f b others = record { kind = k; begins = e; built = built; alone = λ j ts z o w keeps. by (others j o) w keeps }
  where
    built : OnlyParts v k t a y
    built = free_parts k f b

    by : {j : Kind} {ts : Forest} {z : Place} → Other v a k j → Walk (Whole so_far) (around v ts) (tail (row_so_far j)) a ts z → so_far.keeps j v ts ≡ true → (node j ts ≡ t) × (z ≡ y)
    by itself w keeps = same_parts k built w keeps
    by {ts = ts} {z = z} (barred h n) w keeps = absurd (n.no ts z (steadied ts h w) keeps tt)

-- ---- where no expression stands

-- what is read from there begins with neither a literal nor a node, nor with a pattern in brackets, nor is it a template
record NoFirst (v : Surroundings) (x : Place) (e : Fault) : Type 0 where
  literal : (l : Literal) (t : Text) → value_leaf (token_kind l) t ≡ true → IsTrue (is_found (forth (literal_sign l t) x)) → ⊥
  quoted : (r : Rung) {d : Nonterminal} {p : Place} {ts : Forest} {u : Tree} {z : Place} {k : Kind} → is_rung r ≡ true → Quoted k → Staged v false d x (node k ts) p → Onward so_far v x (node k ts) p u z → Whole so_far v false (seat r) x u z → Shallow e (part_depth u) → ⊥
  node : (r : Rung) {d : Nonterminal} {p : Place} {ts : Forest} {u : Tree} {z : Place} (k : Kind) → is_rung r ≡ true → Listed k → grows_on k ≡ false → Staged v false d x (node k ts) p → Onward so_far v x (node k ts) p u z → Whole so_far v false (seat r) x u z → Shallow e (part_depth u) → ⊥
  bracketed : (r : Rung) → is_rung r ≡ true → NoBracket v r x

none_first : {v : Surroundings} (r : Rung) {x p z : Place} {f u : Tree} {d : Fault} → NoFirst v x d → is_rung r ≡ true → First v x f p → Onward so_far v x f p u z → Whole so_far v false (seat r) x u z → Shallow d (part_depth u) → ⊥
none_first r b i (name l {t} h q e g) o w a = b.literal l t h (found_at e g)
none_first r b i (opened d {k} l g q) o w a = b.node r k i l g q o w a
none_first r b i (quoted d q s) o w a = b.quoted r i q s o w a
none_first r b i (bracketed d q s) o w a = (b.bracketed r i).on q s o w

none_begins : {v : Surroundings} {x : Place} {e : Fault} → NoFirst v x e → NoneBegins v x e
none_begins {v} {x} {e = e} b = record { on = λ r i. record { no = at r i } }
  where
    at : (r : Rung) → is_rung r ≡ true → (h : Given) (z : Place) → Past (Whole so_far) v (Part (seat r)) x h z → Shallow e (given_depth h) → ⊥
    at r i h z (tree {t = u} q) s = let f = begun (rung_single r i) u q.reads in none_first r b i f.first f.onward q s

pub outer_begins : {v : Surroundings} {x : Place} {e : Fault} → NoneBegins v x (outer (inner e)) → NoneBegins v x e
outer_begins n = record { on = λ r i. outer_barred (n.on r i) }

-- where no level is left no expression is read: each is one deep at least
literal_one : (l : Literal) (t : Text) → depth (leaf (token_kind l) t) ≡ 1
literal_one IsName t = refl
literal_one IsNumber t = refl
literal_one IsLong t = refl
literal_one IsString t = refl
literal_one IsPattern t = refl

node_one : {v : Surroundings} {d : Nonterminal} {x p : Place} {ts : Forest} (k : Kind) → counts_as true k ≡ true → Staged v false d x (node k ts) p → 1 ≤ depth (node k ts)
node_one {d = d} {ts = ts} k n q = let e = depth_told true d k ts n (and_right (admits d (node k ts)) (fits_below d (node k ts)) (of_so_far.is_read q).is) in omega (arith, e)

bracketed_counted : {k : Kind} → Bracketed k → counts_as true k ≡ true
bracketed_counted in_array = refl
bracketed_counted in_object = refl

first_one : {v : Surroundings} {x p : Place} {f : Tree} → First v x f p → 1 ≤ depth f
first_one (name l {t} h q e g) = let d = literal_one l t in omega (arith, d)
first_one (opened d {k} l g q) = node_one k (counts_listed k l) q
first_one (quoted d {k} q s) = node_one k (counts_listed k (quoted_listed q)) s
first_one (bracketed d {k} b s) = node_one k (bracketed_counted b) s

pub deep_begins : {v : Surroundings} {x : Place} {e : Fault} → Below 0 e → NoneBegins v x e
deep_begins {v} {x} {e} b = record { on = λ r i. record { no = at r i } }
  where
    at : (r : Rung) → is_rung r ≡ true → (h : Given) (z : Place) → Past (Whole so_far) v (Part (seat r)) x h z → Shallow e (given_depth h) → ⊥
    at r i h z (tree {t = u} q) s =
        let f = begun (rung_single r i) u q.reads in
        let one = first_one f.first in
        let up = onward_up of_so_far f.onward in
        let w = below_shallow 0 e (part_depth u) b s in
        let d = read_depth (seat r) u (and_right (admits (seat r) u) (fits_below (seat r) u) (of_so_far.is_read q.reads).is) in
        omega (arith, one, up, w, d)

lost_there : (s : Sign) (x : Place) → forth s x ≡ Lost → IsTrue (is_found (forth s x)) → ⊥
lost_there s x e f = let bad : IsTrue (is_found Lost) = subst (λ p. IsTrue (is_found p)) e f in cc

-- none of the signs stands there, and no element does
no_node : {v : Surroundings} (r : Rung) {d : Nonterminal} {x p z : Place} {ts : Forest} {u : Tree} {f : Fault} (k : Kind) → NoOpening x → NoRow so_far v (row_so_far (jsx Element)) x f → is_rung r ≡ true → Listed k → grows_on k ≡ false → Staged v false d x (node k ts) p → Onward so_far v x (node k ts) p u z → Whole so_far v false (seat r) x u z → Shallow (outer f) (part_depth u) → ⊥
no_node {v} r {d} {x} {p} {z} {ts} {u} {f} k unopened e i l g q o w s = or_cases (nat_eq (code k) (code (jsx Element))) (is_code (opening_sign k) && has_sign (opening_sign k) opening_signs) (opens k l g).begins element (λ h. lost_there (opening_sign k) x (unopened.on (opening_sign k) (and_left (is_code (opening_sign k)) _ h) (and_right (is_code (opening_sign k)) _ h)) (opened_sign k l g q))
  where
    element : nat_eq (code k) (code (jsx Element)) ≡ true → ⊥
    element h = subst (λ j. Staged v false d x (node j ts) p → Onward so_far v x (node j ts) p u z → ⊥) (sym (one_place k (jsx Element) l (listed (jsx Element) refl refl refl) h)) (λ q o. e.no ts p (steadied ts refl (opened_whole r (jsx Element) i (listed (jsx Element) refl refl refl) refl q o w)) (inside_shallow f of_so_far refl q o w.reads s)) q o

-- an element doesn't begin with one of the signs
no_angle : {v : Surroundings} {x : Place} {e : Fault} (l : Literal) (t : Text) → IsTrue (is_found (forth (literal_sign l t) x)) → NoRow so_far v (row_so_far (jsx Element)) x e
no_angle {v} {x} l t f = record { no = λ ts y w s. less_literal l t x (led_sign (row_so_far (jsx Element)) refl w) f }

-- its name is one deep
tag_deep : {v : Surroundings} {x y : Place} {ts : Forest} → Walk (Whole so_far) (steady v) (row_so_far (jsx Element)) x ts y → 1 ≤ deepest ts
tag_deep {v} (next (sign a b) (next (tree {t = u} q) w)) = let m = told tags u q.reads in let d = ap part_depth m.is ∙ leaf_one JsxName m.text refl in omega (arith, d)

pub deep_element : {v : Surroundings} {x : Place} (e : Fault) → Below 1 e → NoRow so_far v (row_so_far (jsx Element)) x (inner e)
deep_element e b = record {
  no = λ ts y w s.
      let d = tag_deep w in
      let h = below_shallow 0 (inner e) (deepest ts) (below_inner 0 e b) s in
      omega (arith, d, h);
}

-- nor does a pattern in brackets where none of the signs stands
unopened_bracket : {v : Surroundings} {x : Place} → NoOpening x → (r : Rung) → NoBracket v r x
unfolding opening_signs
unopened_bracket {v} {x} n r = record { on = λ b s o w. by b s }
  where
    by : {d : Nonterminal} {p : Place} {k : Kind} {ts : Forest} → Bracketed k → Staged v false d x (node k ts) p → ⊥
    by in_array s = lost_there (pun "[") x (n.on (pun "[") refl refl) (bracket_sign in_array s)
    by in_object s = lost_there (pun "{") x (n.on (pun "{") refl refl) (bracket_sign in_object s)

-- the literal that stands there may not
pub unfit_literal : {v : Surroundings} {x y : Place} {d : Fault} (l : Literal) (t : Text) → NoOpening x → y ≡ forth (literal_sign l t) x → IsTrue (is_found y) → value_leaf (token_kind l) t ≡ false → NoneBegins v x d
unfit_literal {v} {x} {y} l t unopened e f n =
    let there = found_at (sym e) f in
    none_begins (record {
      literal = λ m s h g. let q = same_both m l s t x g there in clash _ (subst (λ k. value_leaf (token_kind k) t ≡ true) q.kinds (subst (λ r. value_leaf (token_kind m) r ≡ true) q.texts h)) n;
      node = λ r k i j g q o w a. no_node r k unopened (no_angle {e = Unread} l t there) i j g q o w tt;
      quoted = λ r i q s o w a. literal_piece l t x there (piece_of q s);
      bracketed = λ r i. unopened_bracket unopened r;
    })

pub no_value : {v : Surroundings} {x : Place} {e : Fault} → NoOpening x → ((t : Text) → forth (literal_sign IsName t) x ≡ Lost) → ((t : Text) → forth (literal_sign IsNumber t) x ≡ Lost) → ((t : Text) → forth (literal_sign IsLong t) x ≡ Lost) → ((t : Text) → forth (literal_sign IsString t) x ≡ Lost) → ((t : Text) → forth (literal_sign IsPattern t) x ≡ Lost) → NoRow so_far v (row_so_far (jsx Element)) x e → (Quote x → ⊥) → NoneBegins v x (outer e)
no_value {v} {x} unopened a b d c p r z = none_begins (record {
  literal = λ m s h g. lost_there (literal_sign m s) x (n m s) g;
  node = λ s k i j g q o w. no_node s k unopened r i j g q o w;
  quoted = λ s i q n o w a. z (piece_of q n);
  bracketed = λ r i. unopened_bracket unopened r;
})
  where
    n : (l : Literal) (t : Text) → forth (literal_sign l t) x ≡ Lost
    n IsName t = a t
    n IsNumber t = b t
    n IsLong t = d t
    n IsString t = c t
    n IsPattern t = p t

-- behind a sign, at one rung
pub unread_bracket : {v : Surroundings} {x a : Place} {f : Fault} (r : Rung) → is_rung r ≡ true → (k : Kind) → Listed k → grows_on k ≡ false → DeepBracket v r x (outer f) → Moves (opening_sign k) x a → NoneOpened v (opening_sign k) a f → Barred so_far v (Part (seat r)) x (outer f)
unread_bracket {v} {x} {a} {f = fault} r i k l g none m n = record { no = at }
  where
    there : IsTrue (is_found (forth (opening_sign k) x))
    there = found_at (sym m.is) m.found

    by : {f u : Tree} {p z : Place} → First v x f p → Onward so_far v x f p u z → Whole so_far v false (seat r) x u z → Shallow (outer fault) (part_depth u) → ⊥
    by (name o {t} h q e f) w s a = literal_opening o t (opening_sign k) x (opener_of k l g) h (found_at e f) there
    by {p = p} (opened d {k = j} {ts} h f q) o w a =
        let e = one_opening (opening_sign j) (opening_sign k) x (opener_of j h f) (opener_of k l g) (opened_sign j h f q) there in
        (n.no j (with_sign k j h f e)).no ts p (behind_sign j k h f l g m e (opened_whole r j i h f q o w)) (of_so_far.from_node j q).keeps (inside_shallow fault of_so_far (counts_listed j h) q o w.reads a)
    by (quoted d q s) o w a = opener_piece x (opener_of k l g) there (piece_of q s)
    by (bracketed d b s) o w a = none.on b s o w a

    at : (h : Given) (z : Place) → Past (Whole so_far) v (Part (seat r)) x h z → Shallow (outer fault) (given_depth h) → ⊥
    at h z (tree {t = u} q) s = let f = begun (rung_single r i) u q.reads in by f.first f.onward q s

-- the sign stands there, and what is behind it can't be read
pub unread_opening : {v : Surroundings} {x a : Place} {d : Fault} (k : Kind) → Listed k → grows_on k ≡ false → ((r : Rung) → is_rung r ≡ true → DeepBracket v r x (outer d)) → Moves (opening_sign k) x a → NoneOpened v (opening_sign k) a d → NoneBegins v x (outer d)
unread_opening k l g clear m n = record { on = λ r i. unread_bracket r i k l g (clear r i) m n }

-- a template begins there, and none can be read
pub unread_quoted : {v : Surroundings} {x : Place} {e : Fault} → Quote x → ((k : Kind) → Quoted k → NoNode so_far v (row_so_far k) k x e) → NoneBegins v x (outer e)
unread_quoted {x = x} {e = e} p n = none_begins (record {
  literal = λ l t h f. literal_piece l t x f p;
  node = λ r k i l g s o w a. opener_piece x (opener_of k l g) (opened_sign k l g s) p;
  quoted = λ r {p = q} {ts = ts} {k = k} i h s o w a. (n k h).no ts q (steadied ts (quoted_freed h) (quoted_whole r h i s o w)) (of_so_far.from_node k s).keeps (inside_shallow e of_so_far (counts_listed k (quoted_listed h)) s o w.reads a);
  bracketed = λ r i. record { on = λ b s o w. opener_piece x (bracket_opener b) (bracket_sign b s) p };
})

-- ---- behind a bracket, of one thing that is read whole: it begins with the literal, or with a pattern in brackets

pub data BegunSo (v : Surroundings) (x : Place) (t : Tree) (y : Place) (u : Tree) (z : Place) : Type 0 where
  so_opened : Onward so_far v x t y u z → BegunSo v x t y u z
  so_bracketed : {d : Nonterminal} {k : Kind} {ts : Forest} {p : Place} → Bracketed k → Staged v false d x (node k ts) p → Onward so_far v x (node k ts) p u z → BegunSo v x t y u z

by_first : {v : Surroundings} {x y p z : Place} {f t u : Tree} → OnlyFirst v t x y → (r : Rung) → is_rung r ≡ true → First v x f p → Onward so_far v x f p u z → Whole so_far v false (seat r) x u z → BegunSo v x t y u z
by_first {x = x} b r i (name m {t = s} h q e e') o w = absurd (literal_opening m s (opening_sign b.kind) x (opener_of b.kind b.listed b.still) h (found_at e e') (led_sign (row_so_far b.kind) (opened_led b.kind b.listed b.still) b.built.walk))
by_first b r i (bracketed d q s) o w = so_bracketed q s o
by_first {x = x} b r i (quoted d q s) o w = absurd (opener_piece x (opener_of b.kind b.listed b.still) (led_sign (row_so_far b.kind) (opened_led b.kind b.listed b.still) b.built.walk) (piece_of q s))
by_first {x = x} {p = p} b r i (opened d {k = j} {ts} m h q) o w =
    let here = led_sign (row_so_far b.kind) (opened_led b.kind b.listed b.still) b.built.walk in
    so_opened (onto (b.alone j ts p m h (one_opening (opening_sign j) (opening_sign b.kind) x (opener_of j m h) (opener_of b.kind b.listed b.still) (opened_sign j m h q) here) (opened_whole r j i m h q o w) (of_so_far.from_node j q).keeps) o)

pub opened_begun : {v : Surroundings} {x a y z : Place} {t u : Tree} (k : Kind) → Listed k → grows_on k ≡ false → Moves (opening_sign k) x a → OnlyOpened v (opening_sign k) t a y → (r : Rung) → is_rung r ≡ true → Whole so_far v false (seat r) x u z → BegunSo v x t y u z
opened_begun {u = u} k l g m o r i w = let f = begun (rung_single r i) u w.reads in by_first (opened_first k l g m o) r i f.first f.onward w

-- where the literal isn't read, with a pattern
pub unopened_begun : {v : Surroundings} {x a z : Place} {u : Tree} {d : Fault} (t : Tree) (y : Place) (k : Kind) → Listed k → grows_on k ≡ false → Moves (opening_sign k) x a → NoneOpened v (opening_sign k) a d → (r : Rung) → is_rung r ≡ true → Whole so_far v false (seat r) x u z → Shallow (outer d) (part_depth u) → BegunSo v x t y u z
unopened_begun {v} {x} {u = u} {d = fault} t y k l g m n r i w a = let f = begun (rung_single r i) u w.reads in by f.first f.onward w a
  where
    there : IsTrue (is_found (forth (opening_sign k) x))
    there = found_at (sym m.is) m.found

    by : {f u : Tree} {p z : Place} → First v x f p → Onward so_far v x f p u z → Whole so_far v false (seat r) x u z → Shallow (outer fault) (part_depth u) → BegunSo v x t y u z
    by (name o {t = s} h q e f) w s' a = absurd (literal_opening o s (opening_sign k) x (opener_of k l g) h (found_at e f) there)
    by {p = p} (opened d {k = j} {ts} h f q) o w a =
        let e = one_opening (opening_sign j) (opening_sign k) x (opener_of j h f) (opener_of k l g) (opened_sign j h f q) there in
        absurd ((n.no j (with_sign k j h f e)).no ts p (behind_sign j k h f l g m e (opened_whole r j i h f q o w)) (of_so_far.from_node j q).keeps (inside_shallow fault of_so_far (counts_listed j h) q o w.reads a))
    by (quoted d q s) o w a = absurd (opener_piece x (opener_of k l g) there (piece_of q s))
    by (bracketed d b s) o w a = so_bracketed b s o
