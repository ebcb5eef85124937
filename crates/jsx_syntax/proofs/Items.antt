-- The items of a module: a statement, or what begins with `import` or `export`; which of them stands somewhere, by the words and signs with which they begin.
use Rattle.std.proofs.Common.{◌≡◌, nat_eq, Bool, true, false, not, List, [], ◌∷◌, refl, sym, ◌∙◌, ap, subst}
use Rattle.std.specs.Prelude.{IsTrue, codes, ◌||◌}
use Rattle.jsx_base.specs.Token.{Text, Operator, Punctuator, IdentifierName, StringLiteral, same}
use Rattle.jsx_tree.specs.Signs.{Sign, Tok, Unless}
use Rattle.jsx_tree.specs.Kinds.{ExprStmt, ImportBare, Import, ImportAll, ImportList, ImportBoth, ExportNames, ExportFrom, ExportAll, ExportAllAs, ExportDecl, ExportDefaultFn, ExportDefaultClass, ExportDefaultExpr, ImportCall, ImportMeta, Label, Seq, Kind, program, statement, expression, Tree, leaf, node, list, Forest}
use Rattle.jsx_tree.specs.Nonterminals.{BindingIdent, Expr, ImportClause, Item, Stmt, StringOnly}
use Rattle.jsx_tree.specs.Grammar.{Context, Fixed, ListShape, Part, Symbol, TwoOrMore, heads, key, pun}
use Rattle.jsx_tree.specs.Form.{admits, enough}
use Rattle.jsx_tree.specs.Reading.{Place, Lost, At, forth, ended_at}
use Rattle.jsx_tree.specs.StaticRules.{Surroundings, is_string_stmt}
use Rattle.jsx_tree.specs.Walk.{Given, Items, Past, Piece, Relation, Walk, around, is_found, is_text, last, many, more, next, nil, one, piece, sign, steady, tail, tree}
use Rattle.jsx_tree.specs.Language.{Whole}
use Rattle.jsx_tree.specs.Answers.{Moves, Stuck, Only, Barred, OnlyRow, NoRow, NoNode, BuiltNode}
use Rattle.jsx_tree.specs.Faults.{Below, Fault, Unread, Shallow, given_depth, outer}
use Rattle.jsx_tree.proofs.Tokens.{and_both, and_left}
use Rattle.jsx_tree.proofs.Depth.Nodes.{counts_as}
use Rattle.jsx_tree.proofs.Apart.{clash, never_both}
use Rattle.jsx_tree.proofs.Rows.Bridge.{found_at}
use Rattle.jsx_tree.proofs.Rows.Firsts.{kind_home}
use Rattle.jsx_tree.proofs.Rows.Guarded.{guarded, loosen, whole_walk}
use Rattle.jsx_tree.proofs.Rows.Optionals.{end_shut}
use Rattle.jsx_tree.proofs.Rows.Placing.{free, free_around, moved, node_shallow}
use Rattle.jsx_tree.proofs.Rows.Stopping.{is_not, never_stops, or_cases, stays}
use Rattle.jsx_tree.proofs.Rows.Turns.{item_of}
use Rattle.jsx_token.specs.Growths.{is_code, lead, opening_sign, same_sign}
use Rattle.jsx_token.specs.Headings.{heading_sign}
use Rattle.jsx_token.specs.Marks.{ends_so_far, row_so_far}
use Rattle.jsx_token.proofs.Headings.{every_heading, headings, of_heading}
use Rattle.jsx_token.proofs.Levels.{signed}
use Rattle.jsx_token.proofs.Listed.{code, every, implied, implies, kinds, listed, of_each, one_place}
use Rattle.jsx_token.proofs.Lives.{lives}
use Rattle.jsx_token.proofs.Marks.{one_sign}
use Rattle.jsx_operand.specs.SoFar.{Staged, so_far}
use Rattle.jsx_operand.proofs.OfSoFar.{of_so_far}
use Rattle.jsx_operand.proofs.Homes.{AtWhole, IsName, IsString, at_whole, bindings, home_of, no_list, several, single, strings, taken_by}
use Rattle.jsx_operand.proofs.Keys.{mark_none}
use Rattle.jsx_operand.proofs.Patterns.{deep_counted}
use Rattle.jsx_operand.proofs.Standing.{standing}
use Rattle.jsx_operand.proofs.Values.{First, at_one, begun, led_sign, leaf_forth, literal_opening, move, name, one_opening, opened, opened_sign, opener, opener_of, opener_piece, piece_of, quoted, bracketed, bracket_none}
use Rattle.jsx_statement.specs.Directives.{IsDirective}
use Rattle.jsx_statement.proofs.Directives.{Strings, string_only}
use Rattle.jsx_declaration.proofs.Statements.{coded, end_lost, heading_stands, keyed, lost_if, lost_there, named, spot_kind, unlabelled_word, worded_evaluation}
use Rattle.jsx_statement.proofs.Statements.{none_begins, signed_row, stmts}
use Rattle.jsx_syntax.specs.Items.{IsImport, NoImport, elsewhere, called, dotted, NoneBehind, OnlyBehind, OnlyOf, begins_with, behind_word, is_portal}

-- ---- signs

pub stuck_there : (s : Sign) (x : Place) → Stuck s x → IsTrue (is_found (forth s x)) → ⊥
stuck_there s x k f = lost_there s x k.is f

pub there : {s : Sign} {x y : Place} → Moves s x y → IsTrue (is_found (forth s x))
there m = found_at (sym m.is) m.found

pub unfound : (x : Place) → is_found x ≡ false → x ≡ Lost
unfound Lost h = refl
unfound (At q e text) h = cc

-- where another one stands, a sign doesn't
pub sign_lost : (s u : Sign) (x : Place) → is_code s ≡ true → is_code u ≡ true → same_sign s u ≡ false → IsTrue (is_found (forth u x)) → forth s x ≡ Lost
sign_lost s u x c d n f = lost_if (forth s x) (λ g. clash _ (one_sign s u x c d g f) n)

pub sign_stuck : (s u : Sign) {x : Place} → is_code s ≡ true → is_code u ≡ true → same_sign s u ≡ false → IsTrue (is_found (forth u x)) → Stuck s x
sign_stuck s u {x} c d n f = record { is = sign_lost s u x c d n f }

-- what is known of a place is known of the same one
pub only_from : {v : Surroundings} {x y z : Place} {g : Given} → x ≡ y → Only so_far v (Part Item) x g z → Only so_far v (Part Item) y g z
only_from {v} {z = z} {g} e o = subst (λ p. Only so_far v (Part Item) p g z) e o

pub behind_from : {s : Sign} {v : Surroundings} {x y z : Place} {t : Tree} → x ≡ y → OnlyBehind s v t x z → OnlyBehind s v t y z
behind_from {s} {v} {z = z} {t} e o = subst (λ p. OnlyBehind s v t p z) e o

pub none_from : {s : Sign} {v : Surroundings} {x y : Place} {e : Fault} → x ≡ y → NoneBehind s v x e → NoneBehind s v y e
none_from {s} {v} {e = e} q n = subst (λ p. NoneBehind s v p e) q n

pub barred_from : {v : Surroundings} {s : Symbol} {x y : Place} {e : Fault} → x ≡ y → Barred so_far v s x e → Barred so_far v s y e
barred_from {v} {s} {e = e} q b = subst (λ p. Barred so_far v s p e) q b

pub row_from : {v : Surroundings} {ps : List Piece} {x y : Place} {e : Fault} → x ≡ y → NoRow so_far v ps x e → NoRow so_far v ps y e
row_from {v} {ps} {e = e} q n = subst (λ p. NoRow so_far v ps p e) q n

-- ---- one of some kinds

pub data Other (r : Kind → List Piece) (v : Surroundings) (x : Place) : Kind → Kind → Type 0 where
  itself : {k : Kind} → Other r v x k k
  barred : {k j : Kind} → NoNode so_far v (r j) j x Unread → Other r v x k j

pub only_of : {p : Kind → Bool} {r : Kind → List Piece} {v : Surroundings} {t : Tree} {x y : Place} (k : Kind) → p k ≡ true → BuiltNode so_far v (r k) k t x y → ((j : Kind) → p j ≡ true → Other r v x k j) → OnlyOf p r v t x y
only_of {p} {r} {v} {t} {x} {y} k e b others = record { kind = k; begins = e; built = b; alone = λ j ts z o w keeps. by (others j o) w keeps }
  where
    by : {j : Kind} {ts : Forest} {z : Place} → Other r v x k j → Walk (Whole so_far) (steady v) (r j) x ts z → so_far.keeps j v ts ≡ true → (node j ts ≡ t) × (z ≡ y)
    by {ts = ts} {z} itself w keeps = let e = b.row.alone ts z w in (ap (node k) (sym e.0) ∙ sym b.is, sym e.1)
    by {ts = ts} {z} (barred n) w keeps = absurd (n.no ts z w keeps tt)

-- ---- the words of imports and exports

pub of_portal : (P : Kind → Type 0) → P (program ImportBare) → P (program Import) → P (program ExportNames) → P (program ExportFrom) → P (program ExportAll) → P (program ExportAllAs) → P (program ExportDecl) → P (program ExportDefaultFn) → P (program ExportDefaultClass) → P (program ExportDefaultExpr) → (k : Kind) → is_portal k ≡ true → P k
of_portal P a b c d e f g h i j (program ImportBare) m = a
of_portal P a b c d e f g h i j (program Import) m = b
of_portal P a b c d e f g h i j (program ExportNames) m = c
of_portal P a b c d e f g h i j (program ExportFrom) m = d
of_portal P a b c d e f g h i j (program ExportAll) m = e
of_portal P a b c d e f g h i j (program ExportAllAs) m = f
of_portal P a b c d e f g h i j (program ExportDecl) m = g
of_portal P a b c d e f g h i j (program ExportDefaultFn) m = h
of_portal P a b c d e f g h i j (program ExportDefaultClass) m = i
of_portal P a b c d e f g h i j (program ExportDefaultExpr) m = j
of_portal P a b c d e f g h i j (program _) m = cc
of_portal P a b c d e f g h i j _ m = cc

portal_signed : (k : Kind) → is_portal k ≡ true → signed (row_so_far k) ≡ true
portal_signed = of_portal (λ k. signed (row_so_far k) ≡ true) refl refl refl refl refl refl refl refl refl refl

portal_coded : (k : Kind) → is_portal k ≡ true → is_code (opening_sign k) ≡ true
portal_coded = of_portal (λ k. is_code (opening_sign k) ≡ true) refl refl refl refl refl refl refl refl refl refl

portal_guarded : (k : Kind) → is_portal k ≡ true → guarded Item (row_so_far k) ≡ true
portal_guarded = of_portal (λ k. guarded Item (row_so_far k) ≡ true) refl refl refl refl refl refl refl refl refl refl

portal_free : (k : Kind) → is_portal k ≡ true → free (row_so_far k) ≡ true
portal_free = of_portal (λ k. free (row_so_far k) ≡ true) refl refl refl refl refl refl refl refl refl refl

portal_home : (k : Kind) → is_portal k ≡ true → (ts : Forest) → admits Item (node k ts) ≡ true
portal_home = of_portal (λ k. (ts : Forest) → admits Item (node k ts) ≡ true) (λ ts. refl) (λ ts. refl) (λ ts. refl) (λ ts. refl) (λ ts. refl) (λ ts. refl) (λ ts. refl) (λ ts. refl) (λ ts. refl) (λ ts. refl)

word_stands : {R : Relation} {V : List Context → Surroundings} {x y : Place} {ts : Forest} (k : Kind) → is_portal k ≡ true → Walk R V (row_so_far k) x ts y → IsTrue (is_found (forth (opening_sign k) x))
word_stands k m w = led_sign (row_so_far k) (portal_signed k m) w

-- ---- what stands where an item does

item_ends : (y : Place) → ends_so_far Item y ≡ true
item_ends y = of_so_far.ends_there Item y (never_stops Item y refl)

-- a statement, or one of them
item_kind : {v : Surroundings} {x y : Place} {ts : Forest} (k : Kind) {A : Type 0} → Staged v false Item x (node k ts) y → (lives Stmt k ≡ true → A) → (is_portal k ≡ true → A) → A
item_kind {ts = ts} k r f g = or_cases (lives Stmt k) (is_portal k) (standing Item (λ j. lives Stmt j || is_portal j) refl k (taken_by r) (kind_home Item k ts (home_of r))) f g

to_item : {v : Surroundings} {x y : Place} (t : Tree) → Staged v false Stmt x t y → Staged v false Item x t y
to_item (leaf k t) r = absurd (stmts.leafless k t r.staged)
to_item (list ts) r = absurd (no_list r)
to_item (node k ts) r = of_so_far.to_node k (standing Stmt (λ j. lives Item j) refl k (taken_by r) (kind_home Stmt k ts (home_of r))) (of_so_far.from_node k r)

from_item : {v : Surroundings} {x y : Place} {k : Kind} {ts : Forest} → lives Stmt k ≡ true → Staged v false Item x (node k ts) y → Staged v false Stmt x (node k ts) y
from_item {k = k} h r = of_so_far.to_node k h (of_so_far.from_node k r)

-- ---- of statements expressions alone may begin with `import`, and none with `export`

-- a word that begins nothing of its own, and is no name
record IsWord (s : Sign) : Type 0 where
  coded : is_code s ≡ true
  heads : every_heading (λ h. not (same_sign (heading_sign h) s)) headings ≡ true
  unnamed : named s ≡ false

import_word : IsWord (key "import")
import_word = record { coded = refl; heads = refl; unnamed = refl }

export_word : IsWord (key "export")
export_word = record { coded = refl; heads = refl; unnamed = refl }

evaluates : {v : Surroundings} {s : Sign} {x y : Place} {k : Kind} {ts : Forest} → IsWord s → IsTrue (is_found (forth s x)) → Staged v false Stmt x (node k ts) y → k ≡ statement ExprStmt
evaluates {v} {s} {x} {y} {k} {ts} w f r =
    spot_kind stmts k ts (taken_by r) (home_of r)
    (λ g b. absurd (clash _ (one_sign (heading_sign g) s x (coded g) w.coded (heading_stands b (of_so_far.from_node k r).walk) f) (is_not _ (of_heading (λ h. not (same_sign (heading_sign h) s)) w.heads g))))
    (λ e. e)
    (λ e. absurd (unlabelled_word s w.coded w.unnamed f (of_so_far.from_node (statement Label) (subst (λ j. Staged v false Stmt x (node j ts) y) e r)).walk))

pub no_exported : {v : Surroundings} {x y : Place} {k : Kind} {ts : Forest} → IsTrue (is_found (forth (key "export") x)) → Staged v false Stmt x (node k ts) y → ⊥
no_exported {v} {x} {y} {k} {ts} f r = worded_evaluation (keyed (key "export") refl) f (subst (λ j. Staged v false Stmt x (node j ts) y) (evaluates export_word f r) r)

-- what an expression that begins so goes on with
abbrev imports : Kind → Bool
imports j = implies (same_sign (opening_sign j) (key "import")) (nat_eq (code j) (code (expression ImportCall)) || nat_eq (code j) (code (expression ImportMeta)))

all_imports : every imports kinds ≡ true
all_imports = refl

call_goes : {R : Relation} {V : List Context → Surroundings} {x y : Place} {ts : Forest} → Walk R V (row_so_far (expression ImportCall)) x ts y → NoImport x
call_goes (next (sign e f) (next (sign g h) w)) = called (subst (λ p. IsTrue (is_found (forth (pun "(") p))) (sym e) (found_at g h))

meta_goes : {R : Relation} {V : List Context → Surroundings} {x y : Place} {ts : Forest} → Walk R V (row_so_far (expression ImportMeta)) x ts y → NoImport x
meta_goes (next (sign e f) (next (sign g h) w)) = dotted (subst (λ p. IsTrue (is_found (forth (pun ".") p))) (sym e) (found_at g h))

first_goes : {v : Surroundings} {x p : Place} {f : Tree} → IsTrue (is_found (forth (key "import") x)) → First v x f p → NoImport x
first_goes {x = x} f (name l {t} h w g i) = absurd (literal_opening l t (key "import") x (opener (key "import") refl) h (found_at g i) f)
first_goes f (bracketed d b r) = absurd (bracket_none (opener (key "import") refl) refl f b r)
first_goes {x = x} f (quoted d q r) = absurd (opener_piece x (opener (key "import") refl) f (piece_of q r))
first_goes {v} {x} {p} f (opened d {k} {ts} l g r) =
    or_cases (nat_eq (code k) (code (expression ImportCall))) (nat_eq (code k) (code (expression ImportMeta)))
    (implied (same_sign (opening_sign k) (key "import")) _ (of_each imports all_imports k l) (one_opening (opening_sign k) (key "import") x (opener_of k l g) (opener (key "import") refl) (opened_sign k l g r) f))
    (λ e. call_goes (of_so_far.from_node (expression ImportCall) (subst (λ j. Staged v false d x (node j ts) p) (one_place k (expression ImportCall) l (listed (expression ImportCall) refl refl refl) e) r)).walk)
    (λ e. meta_goes (of_so_far.from_node (expression ImportMeta) (subst (λ j. Staged v false d x (node j ts) p) (one_place k (expression ImportMeta) l (listed (expression ImportMeta) refl refl refl) e) r)).walk)

sequence_goes : {v : Surroundings} {s : ListShape} {x z : Place} {ts : Forest} → IsTrue (is_found (forth (key "import") x)) → enough TwoOrMore ts ≡ true → Items Staged v s (Expr 1) x ts z → is_text s ≡ false → NoImport x
sequence_goes f n (nil g) c = cc
sequence_goes {v} {x = x} f n (last {y = y} {t = t} r e g) c = first_goes f (begun refl t (subst (λ b. Staged v b (Expr 1) x t y) c r)).first
sequence_goes {v} {x = x} f n (more {y = y} {t = t} m r e all) c = first_goes f (begun refl t (subst (λ b. Staged v b (Expr 1) x t y) c r)).first

several_goes : {v : Surroundings} {x z : Place} {ts : Forest} → IsTrue (is_found (forth (key "import") x)) → (us : Forest) → Walk Staged (around v us) (row_so_far (expression Seq)) x ts z → NoImport x
several_goes f us (next (many e all) w) = sequence_goes f e all refl

value_goes : {v : Surroundings} {x y : Place} {u : Tree} → IsTrue (is_found (forth (key "import") x)) → AtWhole u → Staged v false (Expr 0) x u y → NoImport x
value_goes {u = u} f (single a) r = first_goes f (begun refl u (move at_one a r)).first
value_goes f (several {ts}) r = several_goes f ts (of_so_far.from_node (expression Seq) r).walk

evaluation_goes : {v : Surroundings} {V : List Context → Surroundings} {x y : Place} {ts : Forest} → V [] ≡ v → IsTrue (is_found (forth (key "import") x)) → Walk Staged V (row_so_far (statement ExprStmt)) x ts y → NoImport x
evaluation_goes {V = V} {x} e f (next (sign g h) (next {y = z} (tree {t = u} q) w)) =
    let r : Staged (V []) false (Expr 0) x u z = subst (λ p. Staged (V []) false (Expr 0) p u z) (sym g ∙ stays (Unless heads) x refl (found_at g h)) q in
    value_goes f (at_whole u r) r

no_import_at : {x y : Place} → IsImport x y → NoImport x → ⊥
no_import_at {x} i (elsewhere e) = lost_there (key "import") x e (there i.word)
no_import_at {y = y} i (called f) = stuck_there (pun "(") y i.uncalled (subst (λ p. IsTrue (is_found (forth (pun "(") p))) (sym i.word.is) f)
no_import_at {y = y} i (dotted f) = stuck_there (pun ".") y i.undotted (subst (λ p. IsTrue (is_found (forth (pun ".") p))) (sym i.word.is) f)

pub no_imported : {v : Surroundings} {x a y : Place} {k : Kind} {ts : Forest} → IsImport x a → Staged v false Stmt x (node k ts) y → ⊥
no_imported {v} {x} {y = y} {k} {ts} i r = no_import_at i (evaluation_goes refl (there i.word) (of_so_far.from_node (statement ExprStmt) (subst (λ j. Staged v false Stmt x (node j ts) y) (evaluates import_word (there i.word) r) r)).walk)

-- ---- behind a word the item is what its rest says

-- all kinds that begin with the word begin with this sign
pub record IsOpening (s : Sign) : Type 0 where
  pub coded : is_code s ≡ true
  pub sign' : (k : Kind) → begins_with s k ≡ true → opening_sign k ≡ s

import_sign : (k : Kind) → begins_with (key "import") k ≡ true → opening_sign k ≡ key "import"
import_sign (program ImportBare) h = refl
import_sign (program Import) h = refl
import_sign (program _) h = cc
import_sign _ h = cc

export_sign : (k : Kind) → begins_with (key "export") k ≡ true → opening_sign k ≡ key "export"
export_sign (program ExportNames) h = refl
export_sign (program ExportFrom) h = refl
export_sign (program ExportAll) h = refl
export_sign (program ExportAllAs) h = refl
export_sign (program ExportDecl) h = refl
export_sign (program ExportDefaultFn) h = refl
export_sign (program ExportDefaultClass) h = refl
export_sign (program ExportDefaultExpr) h = refl
export_sign (program _) h = cc
export_sign _ h = cc

pub import_opens : IsOpening (key "import")
import_opens = record { coded = refl; sign' = import_sign }

pub export_opens : IsOpening (key "export")
export_opens = record { coded = refl; sign' = export_sign }

-- behind its sign
pub past_sign : {V : List Context → Surroundings} {x y z : Place} {us : Forest} (ps : List Piece) → signed ps ≡ true → Moves (lead ps) x y → Walk (Whole so_far) V ps x us z → Walk (Whole so_far) V (tail ps) y us z
past_sign {V} {z = z} (piece a (Fixed s) ∷ ps) g m (next {ts = us} (sign e f) w) = subst (λ p. Walk (Whole so_far) V ps p us z) (sym e ∙ sym m.is) w
past_sign _ g m w = cc

whole_portal : {v : Surroundings} {x y : Place} {k : Kind} {ts : Forest} → is_portal k ≡ true → Staged v false Item x (node k ts) y → Walk (Whole so_far) (steady v) (row_so_far k) x ts y
whole_portal {v} {y = y} {k} {ts} m r = moved (λ a i. free_around a ts v i) (portal_free k m) (whole_walk of_so_far Item (row_so_far k) (portal_guarded k m) (item_ends y) (of_so_far.from_node k r).walk)

-- what begins with the word begins so
begins_so : {v : Surroundings} {s : Sign} {x a y : Place} {k : Kind} {ts : Forest} → IsOpening s → Moves s x a → is_portal k ≡ true → Staged v false Item x (node k ts) y → begins_with s k ≡ true
begins_so {s = s} {x} {k = k} o m p r = and_both _ _ p (one_sign (opening_sign k) s x (portal_coded k p) o.coded (word_stands k p (of_so_far.from_node k r).walk) (there m))

behind_so : {v : Surroundings} {s : Sign} {x a y : Place} {k : Kind} {ts : Forest} → IsOpening s → Moves s x a → begins_with s k ≡ true → Staged v false Item x (node k ts) y → Walk (Whole so_far) (steady v) (behind_word k) a ts y
behind_so {s = s} {x} {a} {k = k} o m b r =
    let p = and_left (is_portal k) _ b in
    past_sign (row_so_far k) (portal_signed k p) (subst (λ q. Moves q x a) (sym (o.sign' k b)) m) (whole_portal p r)

pub item_behind : {v : Surroundings} {s : Sign} {x a y : Place} {t : Tree} → IsOpening s → Moves s x a → ((k : Kind) (ts : Forest) (z : Place) → Staged v false Stmt x (node k ts) z → ⊥) → OnlyBehind s v t a y → Only so_far v (Part Item) x (one t) y
item_behind {v} {s} {x} {a} {y} {t} o m none' b = record {
  past = tree (subst (λ u. Whole so_far v false Item x u y) (sym b.built.is) (record { reads = of_so_far.to_node b.kind (portal_home b.kind p b.built.parts) (record { walk = moved (λ c i. sym (free_around c b.built.parts v i)) (portal_free b.kind p) (loosen row.walk); keeps = b.built.keeps }); ends_there = item_ends y }));
  alone = at;
}
  where
    p : is_portal b.kind ≡ true
    p = and_left (is_portal b.kind) _ b.begins

    row : OnlyRow so_far v (row_so_far b.kind) x b.built.parts y
    row = signed_row (row_so_far b.kind) (portal_signed b.kind p) (subst (λ q. Moves q x a) (sym (o.sign' b.kind b.begins)) m) b.built.row

    at : (g : Given) (z : Place) → Past (Whole so_far) v (Part Item) x g z → (one t ≡ g) × (y ≡ z)
    at g z (tree {t = leaf k r} q) = let bad = q.reads.staged in cc
    at g z (tree {t = list us} q) = absurd (no_list q.reads)
    at g z (tree {t = node k us} q) = item_kind k q.reads (λ h. absurd (none' k us z (from_item h q.reads))) (λ h. at_portal h)
      where
        at_portal : is_portal k ≡ true → (one t ≡ one (node k us)) × (y ≡ z)
        at_portal h =
            let w = begins_so o m h q.reads in
            let e = b.alone k us z w (behind_so o m w q.reads) (of_so_far.from_node k q.reads).keeps in
            (ap one (sym e.0), sym e.1)

-- each of them counts from its word
portal_counts : (k : Kind) → is_portal k ≡ true → counts_as true k ≡ true
portal_counts = of_portal (λ k. counts_as true k ≡ true) refl refl refl refl refl refl refl refl refl refl

pub item_deep : {v : Surroundings} {x : Place} {e : Fault} → ((k : Kind) (ts : Forest) (z : Place) → Staged v false Stmt x (node k ts) z → ⊥) → Below 0 e → Barred so_far v (Part Item) x e
item_deep {v} {x} {e} none' b = record { no = at }
  where
    at : (g : Given) (z : Place) → Past (Whole so_far) v (Part Item) x g z → Shallow e (given_depth g) → ⊥
    at g z (tree {t = leaf k r} q) s = let bad = q.reads.staged in cc
    at g z (tree {t = list us} q) s = no_list q.reads
    at g z (tree {t = node k us} q) s = item_kind k q.reads (λ h. none' k us z (from_item h q.reads)) (λ h. deep_counted e (portal_counts k h) q.reads b s)

pub item_unread : {v : Surroundings} {s : Sign} {x a : Place} {e : Fault} → IsOpening s → Moves s x a → ((k : Kind) (ts : Forest) (z : Place) → Staged v false Stmt x (node k ts) z → ⊥) → NoneBehind s v a e → Barred so_far v (Part Item) x (outer e)
item_unread {v} {s} {x} {a} {e = e} o m none' n = record { no = at }
  where
    at : (g : Given) (z : Place) → Past (Whole so_far) v (Part Item) x g z → Shallow (outer e) (given_depth g) → ⊥
    at g z (tree {t = leaf k r} q) s = let bad = q.reads.staged in cc
    at g z (tree {t = list us} q) s = no_list q.reads
    at g z (tree {t = node k us} q) s = item_kind k q.reads (λ h. none' k us z (from_item h q.reads)) (λ h. at_portal h)
      where
        at_portal : is_portal k ≡ true → ⊥
        at_portal h = let w = begins_so o m h q.reads in (n.no k w).no us z (behind_so o m w q.reads) (of_so_far.from_node k q.reads).keeps (node_shallow e true (portal_counts k h) of_so_far q.reads s)

-- ---- what an import binds, and with what it begins

pub data AtClause : Tree → Type 0 where
  bound : {t : Text} → AtClause (leaf IdentifierName t)
  all : {ts : Forest} → AtClause (node (program ImportAll) ts)
  some : {ts : Forest} → AtClause (node (program ImportList) ts)
  two : {ts : Forest} → AtClause (node (program ImportBoth) ts)

abbrev is_clause : Kind → Bool
is_clause (program ImportAll) = true
is_clause (program ImportList) = true
is_clause (program ImportBoth) = true
is_clause k = false

clause_is : (k : Kind) (ts : Forest) → is_clause k ≡ true → AtClause (node k ts)
clause_is (program ImportAll) ts h = all
clause_is (program ImportList) ts h = some
clause_is (program ImportBoth) ts h = two
clause_is (program _) ts h = cc
clause_is _ ts h = cc

pub at_clause : {v : Surroundings} {x y : Place} (t : Tree) → Staged v false ImportClause x t y → AtClause t
at_clause (leaf IdentifierName t) r = bound
at_clause (leaf _ t) r = let bad = r.staged in cc
at_clause (node k ts) r = clause_is k ts (standing ImportClause is_clause refl k (taken_by r) (kind_home ImportClause k ts (home_of r)))
at_clause (list ts) r = absurd (no_list r)

-- a name that is bound, by its token
pub record BoundThere (x : Place) (u : Tree) (z : Place) : Type 0 where
  pub text : Text
  pub is : u ≡ leaf IdentifierName text
  pub moves : forth (Tok Operator IdentifierName text) x ≡ z
  pub found : IsTrue (is_found z)

pub bound_there : {v : Surroundings} {x y : Place} (u : Tree) → Staged v false BindingIdent x u y → BoundThere x u y
bound_there (leaf IdentifierName t) r = record { text = t; is = refl; moves = leaf_forth IsName r; found = r.reads.found }
bound_there (leaf _ t) r = let bad = r.staged in cc
bound_there (node k ts) r = absurd (bindings.node k ts (taken_by r) (home_of r))
bound_there (list ts) r = absurd (no_list r)

-- the kinds begin with a mark, or with a name
pub data Starts (x : Place) : Type 0 where
  by_name : (t : Text) → IsTrue (is_found (forth (Tok Operator IdentifierName t) x)) → Starts x
  by_star : IsTrue (is_found (forth (pun "*") x)) → Starts x
  by_brace : IsTrue (is_found (forth (pun "{") x)) → Starts x

two_starts : {V : List Context → Surroundings} {x y : Place} {ts : Forest} → Walk Staged V (row_so_far (program ImportBoth)) x ts y → Starts x
two_starts (next (tree {t = t} q) w) = let n = bound_there t q in by_name n.text (found_at n.moves n.found)

pub clause_starts : {v : Surroundings} {x y : Place} {t : Tree} → AtClause t → Staged v false ImportClause x t y → Starts x
clause_starts (bound {t}) r = by_name t (found_at (leaf_forth IsName r) r.reads.found)
clause_starts all r = by_star (led_sign (row_so_far (program ImportAll)) refl (of_so_far.from_node (program ImportAll) r).walk)
clause_starts some r = by_brace (led_sign (row_so_far (program ImportList)) refl (of_so_far.from_node (program ImportList) r).walk)
clause_starts two r = two_starts (of_so_far.from_node (program ImportBoth) r).walk

-- no other mark stands there, and no string
pub unmarked_start : {x : Place} (d : Text) → same (codes "*") d ≡ false → same (codes "{") d ≡ false → Starts x → IsTrue (is_found (forth (Tok Operator Punctuator d) x)) → ⊥
unmarked_start {x} d n m (by_name t f) g = mark_none IsName t d x refl f g
unmarked_start {x} d n m (by_star f) g = never_both Punctuator Punctuator (codes "*") d x n f g
unmarked_start {x} d n m (by_brace f) g = never_both Punctuator Punctuator (codes "{") d x m f g

pub unquoted_start : {x : Place} (t : Text) → Starts x → IsTrue (is_found (forth (Tok Operator StringLiteral t) x)) → ⊥
unquoted_start {x} t (by_name s f) g = never_both IdentifierName StringLiteral s t x refl f g
unquoted_start {x} t (by_star f) g = mark_none IsString t (codes "*") x refl g f
unquoted_start {x} t (by_brace f) g = mark_none IsString t (codes "{") x refl g f

-- a string, by its token
pub record StringThere (x : Place) (u : Tree) (z : Place) : Type 0 where
  pub text : Text
  pub is : u ≡ leaf StringLiteral text
  pub moves : forth (Tok Operator StringLiteral text) x ≡ z
  pub found : IsTrue (is_found z)

pub string_there : {v : Surroundings} {x y : Place} (u : Tree) → Staged v false StringOnly x u y → StringThere x u y
string_there (leaf StringLiteral t) r = record { text = t; is = refl; moves = leaf_forth IsString r; found = r.reads.found }
string_there (leaf _ t) r = let bad = r.staged in cc
string_there (node k ts) r = absurd (strings.node k ts (taken_by r) (home_of r))
string_there (list ts) r = absurd (no_list r)

-- ---- where neither begins, an item is a statement

-- neither `(` nor `.` stands behind the word of an import
bare_goes : {V : List Context → Surroundings} {x y : Place} {ts : Forest} (d : Text) → Walk Staged V (row_so_far (program ImportBare)) x ts y → IsTrue (is_found (forth (Tok Operator Punctuator d) (forth (key "import") x))) → ⊥
bare_goes {x = x} d (next {y = z} (sign e f) (next (tree {t = t} q) w)) g =
    let s = string_there t q in
    mark_none IsString s.text d z refl (found_at s.moves s.found) (subst (λ p. IsTrue (is_found (forth (Tok Operator Punctuator d) p))) e g)

from_goes : {V : List Context → Surroundings} {x y : Place} {ts : Forest} (d : Text) → same (codes "*") d ≡ false → same (codes "{") d ≡ false → Walk Staged V (row_so_far (program Import)) x ts y → IsTrue (is_found (forth (Tok Operator Punctuator d) (forth (key "import") x))) → ⊥
from_goes {x = x} d n m (next {y = z} (sign e f) (next (tree {t = t} q) w)) g = unmarked_start d n m (clause_starts (at_clause t q) q) (subst (λ p. IsTrue (is_found (forth (Tok Operator Punctuator d) p))) e g)

no_import : {V : List Context → Surroundings} {x y : Place} {ts : Forest} (k : Kind) → begins_with (key "import") k ≡ true → NoImport x → Walk Staged V (row_so_far k) x ts y → ⊥
no_import {x = x} (program ImportBare) h (elsewhere e) w = lost_there (key "import") x e (led_sign (row_so_far (program ImportBare)) refl w)
no_import (program ImportBare) h (called f) w = bare_goes (codes "(") w f
no_import (program ImportBare) h (dotted f) w = bare_goes (codes ".") w f
no_import {x = x} (program Import) h (elsewhere e) w = lost_there (key "import") x e (led_sign (row_so_far (program Import)) refl w)
no_import (program Import) h (called f) w = from_goes (codes "(") refl refl w f
no_import (program Import) h (dotted f) w = from_goes (codes ".") refl refl w f
no_import (program _) h n w = cc
no_import _ h n w = cc

-- one of the two words
portal_word : (k : Kind) {A : Type 0} → is_portal k ≡ true → (begins_with (key "import") k ≡ true → A) → (begins_with (key "export") k ≡ true → A) → A
portal_word (program ImportBare) m f g = f refl
portal_word (program Import) m f g = f refl
portal_word (program ExportNames) m f g = g refl
portal_word (program ExportFrom) m f g = g refl
portal_word (program ExportAll) m f g = g refl
portal_word (program ExportAllAs) m f g = g refl
portal_word (program ExportDecl) m f g = g refl
portal_word (program ExportDefaultFn) m f g = g refl
portal_word (program ExportDefaultClass) m f g = g refl
portal_word (program ExportDefaultExpr) m f g = g refl
portal_word (program _) m f g = cc
portal_word _ m f g = cc

no_portal : {v : Surroundings} {x y : Place} {k : Kind} {ts : Forest} → forth (key "export") x ≡ Lost → NoImport x → is_portal k ≡ true → Staged v false Item x (node k ts) y → ⊥
no_portal {v} {x} {k = k} e n m r =
    let w = (of_so_far.from_node k r).walk in
    portal_word k m (λ h. no_import k h n w) (λ h. lost_there (key "export") x e (subst (λ s. IsTrue (is_found (forth s x))) (export_sign k h) (word_stands k m w)))

pub item_statement : {v : Surroundings} {x y : Place} {t : Tree} → forth (key "export") x ≡ Lost → NoImport x → Only so_far v (Part Stmt) x (one t) y → Only so_far v (Part Item) x (one t) y
item_statement {v} {x} {y} {t} e n o = record { past = to o.past; alone = at }
  where
    to : Past (Whole so_far) v (Part Stmt) x (one t) y → Past (Whole so_far) v (Part Item) x (one t) y
    to (tree w) = tree (record { reads = to_item t w.reads; ends_there = item_ends y })

    at : (g : Given) (z : Place) → Past (Whole so_far) v (Part Item) x g z → (one t ≡ g) × (y ≡ z)
    at g z (tree {t = leaf k r} q) = let bad = q.reads.staged in cc
    at g z (tree {t = list us} q) = absurd (no_list q.reads)
    at g z (tree {t = node k us} q) = item_kind k q.reads
        (λ h. o.alone (one (node k us)) z (tree (record { reads = from_item h q.reads; ends_there = of_so_far.ends_there Stmt z (never_stops Stmt z refl) })))
        (λ h. absurd (no_portal e n h q.reads))

pub no_statement_item : {v : Surroundings} {x : Place} {o : Fault} → forth (key "export") x ≡ Lost → NoImport x → Barred so_far v (Part Stmt) x o → Barred so_far v (Part Item) x o
no_statement_item {v} {x} {o = o} e n b = record { no = at }
  where
    at : (g : Given) (z : Place) → Past (Whole so_far) v (Part Item) x g z → Shallow o (given_depth g) → ⊥
    at g z (tree {t = leaf k r} q) s = let bad = q.reads.staged in cc
    at g z (tree {t = list us} q) s = no_list q.reads
    at g z (tree {t = node k us} q) s = item_kind k q.reads
        (λ h. b.no (one (node k us)) z (tree (record { reads = from_item h q.reads; ends_there = of_so_far.ends_there Stmt z (never_stops Stmt z refl) })) s)
        (λ h. no_portal e n h q.reads)

-- ---- a string is an item as it is a statement

string_far : {x y : Place} {t : Tree} → IsDirective x t y → (w : Text) → forth (Tok Operator IdentifierName w) x ≡ Lost
string_far {x} d w = lost_if (forth (Tok Operator IdentifierName w) x) (λ f. never_both IdentifierName StringLiteral w d.raw x refl f (found_at (sym d.string.is) d.string.found))

pub string_items : Strings Item
string_items = record {
  string = λ {v} {x} {y} {z} {t} {u} d w.
      let o = item_statement (string_far d (codes "export")) (elsewhere (string_far d (codes "import"))) (string_only {v = v} d.raw d.whole d.string d.semicolon) in
      ap (λ h. is_string_stmt (item_of h)) (sym (o.alone (one u) z (tree w)).0);
}

-- ---- nothing stands at the end

pub none_at_end : {v : Surroundings} {x : Place} {o : Fault} → ended_at x ≡ true → Barred so_far v (Part Item) x o
none_at_end {x = x} e = no_statement_item (end_lost (key "export") x refl e) (elsewhere (end_lost (key "import") x refl e)) (none_begins stmts (record { on = λ h. end_lost (heading_sign h) x (coded h) e }) (end_shut x e))
