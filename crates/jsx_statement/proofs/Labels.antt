-- Labelled statements, and where none stands.
use Rattle.std.proofs.Common.{◌≡◌, arith, Bool, true, false, refl, sym, ◌∙◌, ap, subst}
use Rattle.jsx_base.specs.Token.{Text, IdentifierName}
use Rattle.jsx_tree.specs.Kinds.{ExprStmt, Label, Kind, statement, Tree, leaf, node, list, Forest, none, part}
use Rattle.jsx_tree.specs.Nonterminals.{Nonterminal, Ident, SubStmt}
use Rattle.jsx_tree.specs.Grammar.{Part}
use Rattle.jsx_tree.specs.Reading.{Place}
use Rattle.jsx_tree.specs.StaticRules.{Surroundings, has_label}
use Rattle.jsx_tree.specs.Walk.{one, Given, Past, sign, tree, Walk, done, next, around}
use Rattle.jsx_tree.specs.Language.{Whole}
use Rattle.jsx_tree.specs.Answers.{Only, Barred, BuiltNode, NoNode}
use Rattle.jsx_tree.specs.Faults.{Fault, Shallow, given_depth, Deep, Below, outer, part_depth, deepest, Unread}
use Rattle.jsx_operand.specs.SoFar.{Staged, so_far}
use Rattle.jsx_token.specs.Marks.{row_so_far}
use Rattle.jsx_token.specs.Headings.{NoHeading}
use Rattle.jsx_tree.proofs.Tokens.{and_both}
use Rattle.jsx_tree.proofs.Apart.{clash}
use Rattle.jsx_tree.proofs.Rows.Stopping.{never_stops, not_is}
use Rattle.jsx_tree.proofs.Rows.Guarded.{to_grammar}
use Rattle.jsx_tree.proofs.Rows.Bodies.{plain}
use Rattle.jsx_tree.proofs.Rows.Placing.{Chosen, node_shallow}
use Rattle.jsx_tree.proofs.Rows.Laws.{end_found}
use Rattle.jsx_tree.proofs.Rows.Turns.{item_of, whole_of}
use Rattle.jsx_operand.proofs.OfSoFar.{of_so_far}
use Rattle.jsx_operand.proofs.Homes.{no_list, staged_leaf, leaf_one}
use Rattle.jsx_declaration.specs.Labels.{IsBeforeLoop, IsLabel, NoLabel, labelled_in}
use Rattle.jsx_statement.specs.Labels.{BuiltLabel, NoBody}
use Rattle.jsx_statement.specs.Statements.{NoStatement, OnlyStatement}
use Rattle.jsx_declaration.proofs.Statements.{Spot, spot_ends, subs}
use Rattle.jsx_statement.proofs.Statements.{plain_barred, plain_only, stmts}
use Rattle.jsx_declaration.proofs.Labels.{body_there, label_chosen}
use Rattle.jsx_tree.proofs.Depth.Shallow.{below_shallow, shallow_first, shallow_rest}

label_node : {v : Surroundings} {c : Nonterminal} {x z : Place} → Chosen so_far v c (statement Label) x → (k : Kind) (ts : Forest) → Whole so_far v false c x (node k ts) z → Staged v false c x (node (statement Label) ts) z
label_node {v} {c} {x} {z} ch k ts w = subst (λ j. Staged v false c x (node j ts) z) (ch.kind k ts z w) w.reads

pub labelled_barred : {v : Surroundings} {c : Nonterminal} {name : Text} {x y : Place} {e : Fault} → Spot c → IsLabel name x y → NoBody v name y e → Barred so_far v (Part c) x (outer e)
labelled_barred {v} {c} {name} {x} {e = e} s l n = record { no = at }
  where
    ch : Chosen so_far v c (statement Label) x
    ch = label_chosen s l

    at : (g : Given) (z : Place) → Past (Whole so_far) v (Part c) x g z → Shallow (outer e) (given_depth g) → ⊥
    at g z (tree {t = leaf k t} w) s = ch.no_leaf k t z w
    at g z (tree {t = list ts} w) s = no_list w.reads
    at g z (tree {t = node k ts} w) s =
        let q = label_node ch k ts w in
        let r = of_so_far.from_node (statement Label) q in
        let b = body_there l r.walk r.keeps in
        let d = node_shallow e true refl of_so_far q (subst (λ j. Shallow (outer e) (part_depth (node j ts))) (ch.kind k ts z w) s) in
        n.no b.body z b.fresh b.read (shallow_first e (one b.body) none (shallow_rest e (one (leaf IdentifierName name)) (part b.body none) (subst (λ us. Shallow e (deepest us)) b.is d)))

-- where no level is left for the statement with its label in it
labelled_deep : {v : Surroundings} {c : Nonterminal} {name : Text} {x y : Place} {e : Fault} → Spot c → IsLabel name x y → Below 1 e → Barred so_far v (Part c) x e
labelled_deep {v} {c} {name} {x} {e = e} s l n = record { no = at }
  where
    ch : Chosen so_far v c (statement Label) x
    ch = label_chosen s l

    at : (g : Given) (z : Place) → Past (Whole so_far) v (Part c) x g z → Shallow e (given_depth g) → ⊥
    at g z (tree {t = leaf k t} w) s = ch.no_leaf k t z w
    at g z (tree {t = list ts} w) s = no_list w.reads
    at g z (tree {t = node k ts} w) s =
        let q = label_node ch k ts w in
        let r = of_so_far.from_node (statement Label) q in
        let b = body_there l r.walk r.keeps in
        let low = below_shallow 1 e (part_depth (node (statement Label) ts)) n (subst (λ j. Shallow e (part_depth (node j ts))) (ch.kind k ts z w) s) in
        let d = subst (λ us. Shallow (Deep 0) (deepest us)) b.is (node_shallow (Deep 0) true refl of_so_far q low) in
        let named = shallow_first (Deep 0) (one (leaf IdentifierName name)) (part b.body none) d in
        omega (arith, leaf_one IdentifierName name refl, named)

pub labelled_only : {v : Surroundings} {c : Nonterminal} {name : Text} {x y z : Place} {t : Tree} → Spot c → IsLabel name x y → BuiltLabel v name t y z → Only so_far v (Part c) x (one t) z
labelled_only {v} {c} {name} {x} {y} {z} s l b = subst (λ u. Only so_far v (Part c) x (one u) z) (sym b.is) (record { past = tree (record { reads = reads; ends_there = spot_ends s z }); alone = alone })
  where
    ch : Chosen so_far v c (statement Label) x
    ch = label_chosen s l

    parts : Forest
    parts = part (leaf IdentifierName name) (part b.body none)

    name_reads : Staged v false Ident x (leaf IdentifierName name) l.middle
    name_reads = staged_leaf refl l.free refl l.whole l.name_there.is l.name_there.found

    whole : Walk (Whole so_far) (around v parts) (row_so_far (statement Label)) x parts z
    whole = next (tree (record { reads = name_reads; ends_there = of_so_far.ends_there Ident l.middle (never_stops Ident l.middle refl) })) (next (sign (sym l.colon.is) l.colon.found) (next (tree (whole_of b.read.past)) (done (end_found of_so_far (whole_of b.read.past).reads))))

    reads : Staged v false c x (node (statement Label) parts) z
    reads = of_so_far.to_node (statement Label) (s.home (statement Label) parts s.label_home) (record {
      walk = next (tree name_reads) (next (sign (sym l.colon.is) l.colon.found) (next (tree (whole_of b.read.past).reads) (done (end_found of_so_far (whole_of b.read.past).reads))));
      keeps = and_both _ _ (plain (row_so_far (statement Label)) refl (to_grammar of_so_far whole)) (not_is _ b.fresh);
    })

    alone : (g : Given) (w : Place) → Past (Whole so_far) v (Part c) x g w → (one (node (statement Label) parts) ≡ g) × (z ≡ w)
    alone g w (tree {t = leaf k t} r) = absurd (ch.no_leaf k t w r)
    alone g w (tree {t = list ts} r) = absurd (no_list r.reads)
    alone g w (tree {t = node k ts} r) =
        let e = ch.kind k ts w r in
        let p = of_so_far.from_node (statement Label) (subst (λ j. Staged v false c x (node j ts) w) e r.reads) in
        let d = body_there l p.walk p.keeps in
        let loop = b.loop.on _ d.body w d.read.reads in
        let same = b.read.alone (one d.body) w (tree (subst (λ a. Whole so_far (labelled_in name a v) false SubStmt y d.body w) loop d.read)) in
        let q : parts ≡ ts = (λ i. part (leaf IdentifierName name) (part (item_of (same.0 i)) none)) ∙ sym d.is in
        (ap one (λ i. node (sym e i) (q i)), same.1)

-- ---- the label is one that encloses

pub taken_label : {v : Surroundings} {name : Text} {y : Place} {e : Fault} → has_label name false v.labels ≡ true → NoBody v name y e
taken_label h = record { no = λ t z f w s. clash _ h f }

-- ---- the body, in the surroundings that the code finds

pub label_built : {v u : Surroundings} {name : Text} {x z : Place} {body t : Tree} (b : Bool) → IsBeforeLoop b x → u ≡ labelled_in name b v → has_label name false v.labels ≡ false → Only so_far u (Part SubStmt) x (one body) z → t ≡ node (statement Label) (part (leaf IdentifierName name) (part body none)) → BuiltLabel v name t x z
label_built {v} {u} {name} {x} {z} {body} b l e h o is =
    let same = l.on u body z (whole_of o.past).reads in
    record { body = body; is = is; fresh = h; loop = subst (λ c. IsBeforeLoop c x) (sym same) l; read = subst (λ a. Only so_far a (Part SubStmt) x (one body) z) (e ∙ ap (λ c. labelled_in name c v) (sym same)) o }

pub no_label_body : {v u : Surroundings} {name : Text} {x : Place} {o : Fault} (b : Bool) → IsBeforeLoop b x → u ≡ labelled_in name b v → Barred so_far u (Part SubStmt) x o → NoBody v name x o
no_label_body {v} {name = name} {x} b l e n = record {
  no = λ t y f w s. n.no (one t) y (tree (subst (λ a. Whole so_far a false SubStmt x t y) (ap (λ c. labelled_in name c v) (l.on _ t y w.reads) ∙ sym e) w)) s;
}

-- ---- as a part of another statement, and in a list

pub labelled_statement : {v : Surroundings} {name : Text} {x y z : Place} {t : Tree} → IsLabel name x y → BuiltLabel v name t y z → OnlyStatement v x t z
labelled_statement l b = record { nested = labelled_only subs l b; listed = labelled_only stmts l b }

pub no_labelled : {v : Surroundings} {name : Text} {x y : Place} {e : Fault} → IsLabel name x y → NoBody v name y e → NoStatement v x (outer e)
no_labelled l n = record { nested = labelled_barred subs l n; listed = labelled_barred stmts l n }

pub deep_label : {v : Surroundings} {name : Text} {x y : Place} {e : Fault} → IsLabel name x y → Below 1 e → NoStatement v x e
deep_label l n = record { nested = labelled_deep subs l n; listed = labelled_deep stmts l n }

one_below : (e : Fault) → Below 0 e → Below 1 e
one_below Unread b = b
one_below (Deep n) b = omega (arith, b)

pub deep_name : {v : Surroundings} {name : Text} {x y : Place} {e : Fault} → IsLabel name x y → Below 0 e → NoStatement v x e
deep_name {e = e} l n = deep_label l (one_below e n)

pub plain_statement : {v : Surroundings} {x z : Place} {t : Tree} → NoHeading x → NoLabel x → BuiltNode so_far v (row_so_far (statement ExprStmt)) (statement ExprStmt) t x z → OnlyStatement v x t z
plain_statement n l b = record { nested = plain_only subs n l b; listed = plain_only stmts n l b }

pub no_plain : {v : Surroundings} {x : Place} {e : Fault} → NoHeading x → NoLabel x → NoNode so_far v (row_so_far (statement ExprStmt)) (statement ExprStmt) x e → NoStatement v x e
no_plain n l b = record { nested = plain_barred subs n l b; listed = plain_barred stmts n l b }
