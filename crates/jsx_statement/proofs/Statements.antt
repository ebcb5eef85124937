-- Statements at their places, behind the heading that begins them, and where none stands.
use Rattle.std.proofs.Common.{◌≡◌, true, false, not, List, [], ◌∷◌, refl, sym, ◌∙◌, ap, subst}
use Rattle.jsx_base.specs.Token.{Operator, IdentifierName}
use Rattle.jsx_tree.specs.Signs.{Tok, Unless}
use Rattle.jsx_tree.specs.Kinds.{ExprStmt, Kind, statement, Tree, leaf, node, list, Forest}
use Rattle.jsx_tree.specs.Nonterminals.{Nonterminal, Expr, Stmt, SubStmt}
use Rattle.jsx_tree.specs.Grammar.{Part, Fixed, Symbol, heads, pun}
use Rattle.jsx_tree.specs.Reading.{Place, forth}
use Rattle.jsx_tree.specs.StaticRules.{Surroundings}
use Rattle.jsx_tree.specs.Walk.{one, Piece, piece, tail, Given, Past, sign, tree, Walk, next, around, steady}
use Rattle.jsx_tree.specs.Language.{Whole}
use Rattle.jsx_tree.specs.Answers.{Moves, Only, Barred, OnlyRow, NoNode, BuiltNode}
use Rattle.jsx_tree.specs.Faults.{Fault, Shallow, deepest, given_depth, outer, Below}
use Rattle.jsx_tree.proofs.Tokens.{found_first}
use Rattle.jsx_tree.proofs.Apart.{clash}
use Rattle.jsx_tree.proofs.Rows.Bridge.{found_at}
use Rattle.jsx_tree.proofs.Rows.Stopping.{stays}
use Rattle.jsx_tree.proofs.Rows.Guarded.{guarded, loosen, whole_walk}
use Rattle.jsx_tree.proofs.Rows.Firsts.{kind_home}
use Rattle.jsx_tree.proofs.Rows.Closers.{Shut, shut_reading}
use Rattle.jsx_tree.proofs.Rows.Steps.{only_sign, then'}
use Rattle.jsx_tree.proofs.Rows.Placing.{free, only_node, barred_node, node_shallow, Chosen}
use Rattle.jsx_operand.specs.SoFar.{Staged, so_far}
use Rattle.jsx_operand.specs.Openings.{NoParts, OnlyParts}
use Rattle.jsx_statement.specs.Statements.{NoStatement, NoneHeaded, OnlyHeaded}
use Rattle.jsx_token.specs.Marks.{row_so_far}
use Rattle.jsx_token.specs.Growths.{lead}
use Rattle.jsx_token.specs.Headings.{Begins, own, over_keys, over_items, NoHeading, heading_kind, heading_sign, is_lexical}
use Rattle.jsx_token.specs.declared.heading.Heading.{Heading}
use Rattle.jsx_declaration.specs.Labels.{NoLabel}
use Rattle.jsx_operand.proofs.OfSoFar.{of_so_far}
use Rattle.jsx_token.proofs.Headings.{begins_one, its_kind, of_begun, of_heading}
use Rattle.jsx_token.proofs.Listed.{agree, agreed}
use Rattle.jsx_operand.proofs.Homes.{no_list, home_of}
use Rattle.jsx_token.proofs.Lives.{lives}
use Rattle.jsx_token.proofs.Levels.{signed}
use Rattle.jsx_operand.proofs.Openings.{OnlyIn, free_none, free_parts, peel, signed_in}
use Rattle.jsx_declaration.proofs.Statements.{Spot, headed_kind, lost_if, plain_chosen, spot_ends}
use Rattle.jsx_tree.proofs.Depth.Nodes.{counts_as}
use Rattle.jsx_operand.proofs.Patterns.{deep_counted}
use Rattle.jsx_token.specs.Here.{Here, place_of}

pub stmts : Spot Stmt
stmts = record { leafless = λ s t h. cc; no_module = refl; no_inner = refl; no_sequence = refl; no_spread = refl; no_target = refl; no_operand = refl; guards = refl; guards_plain = refl; never = refl; home = λ k ts h. h; guards_label = refl; plain_home = refl; label_home = refl }

-- ---- at a place that was found again

pub barred_from : {v : Surroundings} {p : Symbol} {h g : Here} {e : Fault} → g ≡ h → Barred so_far v p (place_of g) e → Barred so_far v p (place_of h) e
barred_from {v} {p} {e = e} s b = subst (λ k. Barred so_far v p (place_of k) e) s b

pub node_from : {v : Surroundings} {ps : List Piece} {k : Kind} {h g : Here} {e : Fault} → g ≡ h → NoNode so_far v ps k (place_of g) e → NoNode so_far v ps k (place_of h) e
node_from {v} {ps} {k} {e = e} s n = subst (λ j. NoNode so_far v ps k (place_of j) e) s n

pub statement_from : {v : Surroundings} {h g : Here} {e : Fault} → g ≡ h → NoStatement v (place_of g) e → NoStatement v (place_of h) e
statement_from {v} {e = e} s n = subst (λ k. NoStatement v (place_of k) e) s n

-- ---- behind its sign, and with it

pub signed_row : {v : Surroundings} {x y z : Place} {ts : Forest} (ps : List Piece) → signed ps ≡ true → Moves (lead ps) x y → OnlyRow so_far v (tail ps) y ts z → OnlyRow so_far v ps x ts z
signed_row (piece c (Fixed s) ∷ ps) g m o = then' (only_sign m) o
signed_row _ g m o = cc

pub signed_none : {v : Surroundings} {x y : Place} {o : Fault} (k : Kind) (ps : List Piece) → signed ps ≡ true → Moves (lead ps) x y → NoNode so_far v (tail ps) k y o → NoNode so_far v ps k x o
signed_none {v} {x} {y} {o = o} k (piece c (Fixed s) ∷ ps) g m n = record { no = at }
  where
    at : (ts : Forest) (z : Place) → Walk (Whole so_far) (steady v) (piece c (Fixed s) ∷ ps) x ts z → so_far.keeps k v ts ≡ true → Shallow o (deepest ts) → ⊥
    at ts z (next {ts = us} (sign e f) w) h a = n.no us z (subst (λ p. Walk (Whole so_far) (steady v) ps p us z) (sym e ∙ sym m.is) w) h a
signed_none k _ g m n = cc

begun_signed : {h : Heading} {k : Kind} → Begins h k → signed (row_so_far k) ≡ true
begun_signed b = of_begun (λ j. signed (row_so_far j)) refl b

begun_counts : {h : Heading} {k : Kind} → Begins h k → counts_as true k ≡ true
begun_counts b = of_begun (λ j. counts_as true j) refl b

-- the rows of all that it begins begin with its sign
begun_moves : {h : Heading} {k : Kind} {x y : Place} → Begins h k → Moves (heading_sign h) x y → Moves (lead (row_so_far k)) x y
begun_moves (own h) m = m
begun_moves over_keys m = m
begun_moves over_items m = m

-- of one kind
pub of_one : {v : Surroundings} {h : Heading} {t : Tree} {x y : Place} → begins_one h ≡ true → OnlyParts v (heading_kind h) t x y → OnlyHeaded v h t x y
of_one {h = h} e o = record { kind = heading_kind h; begun = own h; node' = o; others = λ k b us z w kept. its_kind e b }

pub none_one : {v : Surroundings} {h : Heading} {x : Place} {o : Fault} → begins_one h ≡ true → NoParts v (heading_kind h) x o → NoneHeaded v h x o
none_one {v} {x = x} {o = o} e n = record { on = λ k b. subst (λ j. NoParts v j x o) (sym (its_kind e b)) n }

-- the same of a heading that is known to be that one
pub headed_parts : {v : Surroundings} {h : Heading} {t : Tree} {x y : Place} (g : Heading) → h ≡ g → begins_one g ≡ true → OnlyParts v (heading_kind g) t x y → OnlyHeaded v h t x y
headed_parts {v} {t = t} {x} {y} g e o b = subst (λ j. OnlyHeaded v j t x y) (sym e) (of_one o b)

pub none_parts : {v : Surroundings} {h : Heading} {x : Place} {d : Fault} (g : Heading) → h ≡ g → begins_one g ≡ true → NoParts v (heading_kind g) x d → NoneHeaded v h x d
none_parts {v} {x = x} {d = d} g e o n = subst (λ j. NoneHeaded v j x d) (sym e) (none_one o n)

-- where what its parts stand in doesn't hang on them
pub headed_as : {v : Surroundings} {h : Heading} {t : Tree} {x y : Place} (g : Heading) → h ≡ g → begins_one g ≡ true → free (tail (row_so_far (heading_kind g))) ≡ true → BuiltNode so_far v (tail (row_so_far (heading_kind g))) (heading_kind g) t x y → OnlyHeaded v h t x y
headed_as g e o f b = headed_parts g e o (free_parts (heading_kind g) f b)

pub none_as : {v : Surroundings} {h : Heading} {x : Place} {d : Fault} (g : Heading) → h ≡ g → begins_one g ≡ true → free (tail (row_so_far (heading_kind g))) ≡ true → NoNode so_far v (tail (row_so_far (heading_kind g))) (heading_kind g) x d → NoneHeaded v h x d
none_as g e o f n = none_parts g e o (free_none (heading_kind g) f n)

pub headed_only : {v : Surroundings} {c : Nonterminal} {x y z : Place} {t : Tree} → Spot c → (h : Heading) → ((k : Kind) → Begins h k → lives c k ≡ true) → Moves (heading_sign h) x y → OnlyHeaded v h t y z → Only so_far v (Part c) x (one t) z
headed_only {v} {c} {x} {y} {z} {t} s h l m o = record {
  past = tree (subst (λ u. Whole so_far v false c x u z) (sym n.is) (record { reads = of_so_far.to_node o.kind (s.home o.kind n.parts (l o.kind o.begun)) (record { walk = loosen n.walk; keeps = n.keeps }); ends_there = spot_ends s z }));
  alone = at;
}
  where
    n : OnlyIn v (row_so_far o.kind) o.kind t x z
    n = signed_in o.kind (begun_signed o.begun) (begun_moves o.begun m) o.node'

    walked : {w : Place} {us : Forest} {k : Kind} → Begins h k → Whole so_far v false c x (node k us) w → Walk (Whole so_far) (around v us) (row_so_far k) x us w
    walked {k = k} b w = whole_walk of_so_far c (row_so_far k) (of_begun (λ j. guarded c (row_so_far j)) s.guards b) w.ends_there (of_so_far.from_node k w.reads).walk

    at : (g : Given) (w : Place) → Past (Whole so_far) v (Part c) x g w → (one t ≡ g) × (z ≡ w)
    at g w (tree {t = leaf k r} q) = absurd (s.leafless k r q.reads.staged)
    at g w (tree {t = list us} q) = absurd (no_list q.reads)
    at g w (tree {t = node k us} q) =
        let b = headed_kind s h (found_at (sym m.is) m.found) k us q in
        let p = of_so_far.from_node k q.reads in
        let e = o.others k b us w (peel (row_so_far k) (begun_signed b) (sym (begun_moves b m).is) (walked b q)) p.keeps in
        let q' : Whole so_far v false c x (node o.kind us) w = subst (λ j. Whole so_far v false c x (node j us) w) e q in
        let same' = n.alone us w (walked o.begun q') (of_so_far.from_node o.kind q'.reads).keeps in
        (ap one (n.is ∙ (ap (node o.kind) same'.0 ∙ ap (λ j. node j us) (sym e))), same'.1)

pub headed_barred : {v : Surroundings} {c : Nonterminal} {x y : Place} {e : Fault} → Spot c → (h : Heading) → Moves (heading_sign h) x y → NoneHeaded v h y e → Barred so_far v (Part c) x (outer e)
headed_barred {v} {c} {x} {y} {e = e} s h m n = record { no = at }
  where
    at : (g : Given) (w : Place) → Past (Whole so_far) v (Part c) x g w → Shallow (outer e) (given_depth g) → ⊥
    at g w (tree {t = leaf k r} q) a = s.leafless k r q.reads.staged
    at g w (tree {t = list us} q) a = no_list q.reads
    at g w (tree {t = node k us} q) a =
        let b = headed_kind s h (found_at (sym m.is) m.found) k us q in
        let p = of_so_far.from_node k q.reads in
        let whole = whole_walk of_so_far c (row_so_far k) (of_begun (λ j. guarded c (row_so_far j)) s.guards b) q.ends_there p.walk in
        (n.on k b).no us w (peel (row_so_far k) (begun_signed b) (sym (begun_moves b m).is) whole) p.keeps (node_shallow e true (begun_counts b) of_so_far q.reads a)

-- where no level is left
pub headed_deep : {v : Surroundings} {c : Nonterminal} {x y : Place} {e : Fault} → Spot c → (h : Heading) → Moves (heading_sign h) x y → Below 0 e → Barred so_far v (Part c) x e
headed_deep {v} {c} {x} {e = e} s h m l = record { no = at }
  where
    at : (g : Given) (w : Place) → Past (Whole so_far) v (Part c) x g w → Shallow e (given_depth g) → ⊥
    at g w (tree {t = leaf k r} q) a = s.leafless k r q.reads.staged
    at g w (tree {t = list us} q) a = no_list q.reads
    at g w (tree {t = node k us} q) a = deep_counted e (begun_counts (headed_kind s h (found_at (sym m.is) m.found) k us q)) q.reads l a

pub deep_chosen : {v : Surroundings} {c : Nonterminal} {k : Kind} {x : Place} {e : Fault} → counts_as true k ≡ true → Chosen so_far v c k x → Below 0 e → Barred so_far v (Part c) x e
deep_chosen {v} {c} {k} {x} {e} i ch l = record { no = at }
  where
    at : (g : Given) (w : Place) → Past (Whole so_far) v (Part c) x g w → Shallow e (given_depth g) → ⊥
    at g w (tree {t = leaf j r} q) a = ch.no_leaf j r w q
    at g w (tree {t = list us} q) a = no_list q.reads
    at g w (tree {t = node j us} q) a = deep_counted e (subst (λ h. counts_as true h ≡ true) (sym (ch.kind j us w q)) i) q.reads l a

-- what isn't at home there
pub homeless_barred : {v : Surroundings} {c : Nonterminal} {x y : Place} {e : Fault} → Spot c → (h : Heading) → ((k : Kind) → Begins h k → lives c k ≡ false) → Moves (heading_sign h) x y → Barred so_far v (Part c) x e
homeless_barred {v} {c} {x} {e = e} s h n m = record { no = at }
  where
    at : (g : Given) (z : Place) → Past (Whole so_far) v (Part c) x g z → Shallow e (given_depth g) → ⊥
    at g z (tree {t = leaf k t} w) a = s.leafless k t w.reads.staged
    at g z (tree {t = list ts} w) a = no_list w.reads
    at g z (tree {t = node l ts} w) a = clash _ (kind_home c l ts (home_of w.reads)) (n l (headed_kind s h (found_at (sym m.is) m.found) l ts w))

-- ---- an expression

pub plain_only : {v : Surroundings} {c : Nonterminal} {x z : Place} {t : Tree} → Spot c → NoHeading x → NoLabel x → BuiltNode so_far v (row_so_far (statement ExprStmt)) (statement ExprStmt) t x z → Only so_far v (Part c) x (one t) z
plain_only {z = z} s n l b = only_node of_so_far (plain_chosen s n l) s.guards_plain refl (λ ts. s.home (statement ExprStmt) ts s.plain_home) (record { parts = b.parts; is = b.is; row = b.row }) b.keeps (spot_ends s z)

pub plain_barred : {v : Surroundings} {c : Nonterminal} {x : Place} {e : Fault} → Spot c → NoHeading x → NoLabel x → NoNode so_far v (row_so_far (statement ExprStmt)) (statement ExprStmt) x e → Barred so_far v (Part c) x e
plain_barred s n l b = barred_node false refl of_so_far (plain_chosen s n l) s.guards_plain refl b

-- ---- nothing stands where no token of a statement does

-- a name is an expression too
shut_label : {x : Place} → Shut x → NoLabel x
shut_label {x} shut = record { on = λ name f. lost_if (forth (pun ":") (forth (Tok Operator IdentifierName name) x)) (λ g. shut.no Operator IdentifierName name refl (found_first (pun ":" ∷ []) (forth (Tok Operator IdentifierName name) x) g)) }

pub none_begins : {v : Surroundings} {c : Nonterminal} {x : Place} {o : Fault} → Spot c → NoHeading x → Shut x → Barred so_far v (Part c) x o
none_begins {v} {c} {x} {o = o} s n shut = plain_barred s n (shut_label shut) (record { no = λ ts y w h. at w })
  where
    at : {V : _} {y : Place} {ts : Forest} → Walk (Whole so_far) V (row_so_far (statement ExprStmt)) x ts y → Shallow o (deepest ts) → ⊥
    at {V} (next (sign e f) (next {y = z} (tree {t = u} q) w)) s = shut_reading refl shut (subst (λ p. Staged (V []) false (Expr 0) p u z) (sym e ∙ stays (Unless heads) x refl (found_at e f)) q.reads).reads

-- ---- which may stand where

pub stmt_home : (h : Heading) (k : Kind) → Begins h k → lives Stmt k ≡ true
stmt_home h k b = of_begun (λ j. lives Stmt j) refl b

pub nested_by : (h : Heading) → not (is_lexical h) ≡ lives SubStmt (heading_kind h)
nested_by h = agreed (not (is_lexical h)) (lives SubStmt (heading_kind h)) (of_heading (λ j. agree (not (is_lexical j)) (lives SubStmt (heading_kind j))) refl h)

pub nested_home : (h : Heading) → is_lexical h ≡ false → (k : Kind) → Begins h k → lives SubStmt k ≡ true
nested_home _ n k (own h) = sym (nested_by h) ∙ ap not n
nested_home _ n k over_keys = refl
nested_home _ n k over_items = refl

pub lexical_home : (h : Heading) → is_lexical h ≡ true → (k : Kind) → Begins h k → lives SubStmt k ≡ false
lexical_home _ n k (own h) = sym (nested_by h) ∙ ap not n
lexical_home _ n k over_keys = cc
lexical_home _ n k over_items = cc
