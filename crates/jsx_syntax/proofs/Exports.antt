-- Exports behind their word: of names, of all that another module exports, of a default, of a declaration.
use Rattle.std.proofs.Common.{◌≡◌, Bool, true, false, not, cond, List, [], ◌∷◌, refl, sym, ◌∙◌, ap, subst}
use Rattle.std.specs.Prelude.{IsTrue, codes, ◌&&◌, ◌||◌}
use Rattle.jsx_base.specs.Token.{Text, Operator, Punctuator, IdentifierName, StringLiteral, at_front, breaks, is_end, is_kind, is_token, same, skip, token}
use Rattle.jsx_tree.specs.Signs.{AfterExpr, AfterList, Ends, Semicolon, Sign, Unless}
use Rattle.jsx_tree.specs.Kinds.{Exported, From, ExportNames, ExportFrom, ExportAll, ExportAllAs, ExportDecl, ExportDefaultFn, ExportDefaultClass, ExportDefaultExpr, ClassExpr, Kind, program, function, Tree, leaf, node, list, Forest, none, part}
use Rattle.jsx_tree.specs.Nonterminals.{ClassOnly, Declaration, Expr, Name}
use Rattle.jsx_tree.specs.Grammar.{Fixed, Part, key, pun, semi}
use Rattle.jsx_tree.specs.Reading.{Place, Lost, At, forth, go_if, may_lack}
use Rattle.jsx_tree.specs.StaticRules.{Surroundings, all_of, has_plain_params}
use Rattle.jsx_tree.specs.declared.text.DeclareWord as code
use Rattle.jsx_tree.specs.declared.text.DeclareWord.TheVariants as declare_word
use Rattle.jsx_tree.specs.Walk.{Given, Past, Piece, piece, Walk, is_found, next, nothing, one, sign, steady, tail, tree, with}
use Rattle.jsx_tree.specs.Language.{Whole}
use Rattle.jsx_tree.specs.Answers.{Moves, Stuck, Only, Barred, OnlyRow, NoRow, NoNode}
use Rattle.jsx_tree.specs.Faults.{Below, Fault, Unread, Shallow, deepest, given_depth, outer}
use Rattle.jsx_tree.proofs.Tokens.{and_both, and_left, same_is}
use Rattle.jsx_tree.proofs.Apart.{by_not, found_token}
use Rattle.jsx_tree.proofs.Depth.Nodes.{counts_as}
use Rattle.jsx_tree.proofs.Depth.Shallow.{shallow_first, shallow_rest}
use Rattle.jsx_tree.proofs.Rows.Bodies.{plain as plain_row}
use Rattle.jsx_tree.proofs.Rows.Bridge.{found_at}
use Rattle.jsx_tree.proofs.Rows.Guarded.{to_grammar}
use Rattle.jsx_tree.proofs.Rows.Laws.{end_found, start_found}
use Rattle.jsx_tree.proofs.Rows.Firsts.{kind_home}
use Rattle.jsx_tree.proofs.Rows.Placing.{Chosen, no_node}
use Rattle.jsx_tree.proofs.Rows.Steps.{bar, end, no_sign, on, on_row, only_sign, then', then_row}
use Rattle.jsx_tree.proofs.Rows.Stopping.{raw_there, stays}
use Rattle.jsx_tree.proofs.Rows.Turns.{whole_of}
use Rattle.jsx_token.specs.Growths.{is_code, lead, same_sign}
use Rattle.jsx_token.specs.Marks.{row_so_far}
use Rattle.jsx_token.proofs.Levels.{signed}
use Rattle.jsx_token.proofs.Marks.{one_sign}
use Rattle.jsx_operand.specs.Openings.{NoParts, OnlyParts}
use Rattle.jsx_operand.specs.SoFar.{Staged, so_far}
use Rattle.jsx_operand.proofs.Homes.{home_of, no_list, taken_by}
use Rattle.jsx_operand.proofs.OfSoFar.{of_so_far}
use Rattle.jsx_operand.proofs.Openings.{parts_barred, parts_only}
use Rattle.jsx_operand.proofs.Patterns.{deep_counted}
use Rattle.jsx_operand.proofs.Standing.{standing}
use Rattle.jsx_operand.proofs.Values.{led_sign}
use Rattle.jsx_operand.proofs.Headless.{default_heads, no_default}
use Rattle.jsx_function.specs.Functions.{NoNamed, named_row}
use Rattle.jsx_declaration.specs.Heads.{NoDeclaring, declare_sign}
use Rattle.jsx_statement.proofs.Declarations.{undeclared}
use Rattle.jsx_declaration.proofs.Statements.{lost_there, unless_lost}
use Rattle.jsx_statement.proofs.Statements.{signed_row}
use Rattle.jsx_syntax.specs.Items.{NoneBehind, NoneExport, OnlyBehind, OnlyExport, begins_with, behind_both, behind_word, from_row, goes_with, source_row}
use Rattle.jsx_syntax.specs.Specifiers.{fits, specifier_row}
use Rattle.jsx_syntax.proofs.Items.{Other, barred, itself, only_of, past_sign, sign_lost, sign_stuck, there}
use Rattle.jsx_syntax.proofs.Sides.{as_side, each, side_none, side_on, side_then, side_unfit}

semi_found : {v : Surroundings} {x y : Place} → Only so_far v semi x nothing y → IsTrue (is_found y)
semi_found o = at o.past
  where
    at : {v : Surroundings} {x y : Place} → Past (Whole so_far) v semi x nothing y → IsTrue (is_found y)
    at (sign e f) = f

-- ---- behind the word and a sign

of_export : (P : Kind → Type 0) → P (program ExportNames) → P (program ExportFrom) → P (program ExportAll) → P (program ExportAllAs) → P (program ExportDecl) → P (program ExportDefaultFn) → P (program ExportDefaultClass) → P (program ExportDefaultExpr) → (k : Kind) → begins_with (key "export") k ≡ true → P k
of_export P a b c d e f g h (program ExportNames) i = a
of_export P a b c d e f g h (program ExportFrom) i = b
of_export P a b c d e f g h (program ExportAll) i = c
of_export P a b c d e f g h (program ExportAllAs) i = d
of_export P a b c d e f g h (program ExportDecl) i = e
of_export P a b c d e f g h (program ExportDefaultFn) i = f
of_export P a b c d e f g h (program ExportDefaultClass) i = g
of_export P a b c d e f g h (program ExportDefaultExpr) i = h
of_export P a b c d e f g h (program _) i = cc
of_export P a b c d e f g h _ i = cc

-- all but a declaration go on with a sign
data Second : Kind → Type 0 where
  signs : {k : Kind} → signed (behind_word k) ≡ true → is_code (lead (behind_word k)) ≡ true → Second k
  declares : Second (program ExportDecl)

second : (k : Kind) → begins_with (key "export") k ≡ true → Second k
second = of_export Second (signs refl refl) (signs refl refl) (signs refl refl) (signs refl refl) declares (signs refl refl) (signs refl refl) (signs refl refl)

-- a sign with which no declaration begins
pub record IsSecond (u : Sign) : Type 0 where
  pub coded : is_code u ≡ true
  pub sign' : (k : Kind) → goes_with (key "export") u k ≡ true → lead (behind_word k) ≡ u
  pub is_signed : (k : Kind) → goes_with (key "export") u k ≡ true → signed (behind_word k) ≡ true
  pub undeclared' : {v : Surroundings} {x : Place} → IsTrue (is_found (forth u x)) → Barred so_far v (Part Declaration) x Unread

no_declaring : (u : Sign) {x : Place} → is_code u ≡ true → same_sign (key "var") u ≡ false → same_sign (key "let") u ≡ false → same_sign (key "const") u ≡ false → IsTrue (is_found (forth u x)) → NoDeclaring x
no_declaring u {x} c a b d f = record { on = at }
  where
    at : (w : code.DeclareWord) → forth (declare_sign w) x ≡ Lost
    at declare_word.Var = sign_lost (key "var") u x refl c a f
    at declare_word.Let = sign_lost (key "let") u x refl c b f
    at declare_word.Const = sign_lost (key "const") u x refl c d f

of_braced : (P : Kind → Type 0) → P (program ExportNames) → P (program ExportFrom) → (k : Kind) → goes_with (key "export") (pun "{") k ≡ true → P k
of_braced P a b (program ExportNames) h = a
of_braced P a b (program ExportFrom) h = b
of_braced P a b (program _) h = cc
of_braced P a b _ h = cc

of_starred : (P : Kind → Type 0) → P (program ExportAll) → P (program ExportAllAs) → (k : Kind) → goes_with (key "export") (pun "*") k ≡ true → P k
of_starred P a b (program ExportAll) h = a
of_starred P a b (program ExportAllAs) h = b
of_starred P a b (program _) h = cc
of_starred P a b _ h = cc

of_default : (P : Kind → Type 0) → P (program ExportDefaultFn) → P (program ExportDefaultClass) → P (program ExportDefaultExpr) → (k : Kind) → goes_with (key "export") (key "default") k ≡ true → P k
of_default P a b c (program ExportDefaultFn) h = a
of_default P a b c (program ExportDefaultClass) h = b
of_default P a b c (program ExportDefaultExpr) h = c
of_default P a b c (program _) h = cc
of_default P a b c _ h = cc

pub braced : IsSecond (pun "{")
braced = record {
  coded = refl;
  sign' = of_braced (λ k. lead (behind_word k) ≡ pun "{") refl refl;
  is_signed = of_braced (λ k. signed (behind_word k) ≡ true) refl refl;
  undeclared' = λ f. undeclared (no_declaring (pun "{") refl refl refl refl f) (sign_stuck (key "function") (pun "{") refl refl refl f) (sign_stuck (key "class") (pun "{") refl refl refl f);
}

pub starred : IsSecond (pun "*")
starred = record {
  coded = refl;
  sign' = of_starred (λ k. lead (behind_word k) ≡ pun "*") refl refl;
  is_signed = of_starred (λ k. signed (behind_word k) ≡ true) refl refl;
  undeclared' = λ f. undeclared (no_declaring (pun "*") refl refl refl refl f) (sign_stuck (key "function") (pun "*") refl refl refl f) (sign_stuck (key "class") (pun "*") refl refl refl f);
}

pub defaulted : IsSecond (key "default")
defaulted = record {
  coded = refl;
  sign' = of_default (λ k. lead (behind_word k) ≡ key "default") refl refl refl;
  is_signed = of_default (λ k. signed (behind_word k) ≡ true) refl refl refl;
  undeclared' = λ f. undeclared (no_declaring (key "default") refl refl refl refl f) (sign_stuck (key "function") (key "default") refl refl refl f) (sign_stuck (key "class") (key "default") refl refl refl f);
}

-- what goes on with the sign is of its kinds
record Goes (u : Sign) (v : Surroundings) (a : Place) (k : Kind) (ts : Forest) (y : Place) : Type 0 where
  goes : goes_with (key "export") u k ≡ true
  walk : Walk (Whole so_far) (steady v) (behind_both k) a ts y

goes_on : {u : Sign} {v : Surroundings} {x a y : Place} {k : Kind} {ts : Forest} → IsSecond u → Moves u x a → begins_with (key "export") k ≡ true → Second k → Walk (Whole so_far) (steady v) (behind_word k) x ts y → Goes u v a k ts y
goes_on {u} {x = x} {a} {k = k} s m b (signs g c) w =
    let h : goes_with (key "export") u k ≡ true = and_both _ _ b (one_sign (lead (behind_word k)) u x c s.coded (led_sign (behind_word k) g w) (there m)) in
    record { goes = h; walk = past_sign (behind_word k) g (subst (λ q. Moves q x a) (sym (s.sign' k h)) m) w }
goes_on {v = v} s m b declares (next q w) = absurd ((s.undeclared' {v = v} (there m)).no _ _ q tt)

pub second_only : {u : Sign} {v : Surroundings} {x a y : Place} {t : Tree} → IsSecond u → Moves u x a → OnlyExport u v t a y → OnlyBehind (key "export") v t x y
second_only {u} {v} {x} {a} {y} {t} s m o = record {
  kind = o.kind;
  begins = b;
  built = record { parts = o.built.parts; is = o.built.is; row = signed_row (behind_word o.kind) (s.is_signed o.kind o.begins) (subst (λ q. Moves q x a) (sym (s.sign' o.kind o.begins)) m) o.built.row; keeps = o.built.keeps };
  alone = λ k ts z e w keeps. let g = goes_on s m e (second k e) w in o.alone k ts z g.goes g.walk keeps;
}
  where
    b : begins_with (key "export") o.kind ≡ true
    b = and_left (begins_with (key "export") o.kind) _ o.begins

pub second_none : {u : Sign} {v : Surroundings} {x a : Place} {o : Fault} → IsSecond u → Moves u x a → NoneExport u v a o → NoneBehind (key "export") v x o
second_none s m n = record { no = λ k e. record { no = λ ts y w keeps a. let g = goes_on s m e (second k e) w in (n.no k g.goes).no ts y g.walk keeps a } }

-- ---- a declaration

pub declared_built : {v : Surroundings} {x y : Place} {d t : Tree} → Stuck (pun "{") x → Stuck (pun "*") x → Stuck (key "default") x → Only so_far v (Part Declaration) x (one d) y → t ≡ node (program ExportDecl) (part d none) → OnlyBehind (key "export") v t x y
declared_built {v} {x} {y} {d} a b c o is =
    let row : OnlyRow so_far v (behind_word (program ExportDecl)) x (part d none) y = then' o (end (end_found of_so_far (whole_of o.past).reads)) in
    only_of (program ExportDecl) refl (record { parts = part d none; is = is; row = row; keeps = and_both _ _ (plain_row (behind_word (program ExportDecl)) refl (to_grammar of_so_far row.walk)) refl })
    (of_export (Other behind_word v x (program ExportDecl)) (barred (no_node (bar (no_sign a)))) (barred (no_node (bar (no_sign a)))) (barred (no_node (bar (no_sign b)))) (barred (no_node (bar (no_sign b)))) itself (barred (no_node (bar (no_sign c)))) (barred (no_node (bar (no_sign c)))) (barred (no_node (bar (no_sign c)))))

pub declared_unread : {v : Surroundings} {x : Place} {e : Fault} → Stuck (pun "{") x → Stuck (pun "*") x → Stuck (key "default") x → Barred so_far v (Part Declaration) x e → NoneBehind (key "export") v x e
declared_unread {v} {x} {e = e} a b c n = record {
  no = of_export (λ k. NoNode so_far v (behind_word k) k x e) (no_node (bar (no_sign a))) (no_node (bar (no_sign a))) (no_node (bar (no_sign b))) (no_node (bar (no_sign b))) (no_node (bar n)) (no_node (bar (no_sign c))) (no_node (bar (no_sign c))) (no_node (bar (no_sign c)));
}

-- ---- names, with `from` behind them or not

-- the end of an export of the module's own names
abbrev pub names_end : List Piece
names_end = piece [] (Fixed (Ends AfterList)) ∷ piece [] (Fixed Semicolon) ∷ []

and_false : (a : Bool) → (a && false) ≡ false
and_false true = refl
and_false false = refl

-- before `from` no semicolon stands, nor may one be missing
unlacking : (raw : Text) (e b : Bool) → raw ≡ codes "from" → e ≡ false → (not (same raw (codes ";")) && (((false || e) || same raw (codes "}")) || (b && not (same raw (codes "from"))))) ≡ false
unlacking raw e b r s = (λ i. not (same (r i) (codes ";")) && (((false || s i) || same (r i) (codes "}")) || (b && not (same (r i) (codes "from"))))) ∙ and_false b

not_end : (text : Text) → (token Operator false text).raw ≡ codes "from" → is_end text ≡ false
not_end text r = by_not _ (λ e. let bad : codes "from" ≡ [] = sym r ∙ ap (λ s. (at_front Operator (breaks text) s).raw) (same_is (skip text) [] (and_left (same (skip text) []) _ e)) in cc)

from_lost : (y : Place) → IsTrue (is_found (forth (key "from") y)) → forth Semicolon (forth (Ends AfterList) y) ≡ Lost
from_lost Lost f = cc
from_lost (At q g text) f =
    let m = token Operator (same q []) text in
    let x = token Operator false text in
    let raw : x.raw ≡ codes "from" = raw_there IdentifierName 102 (codes "rom") q text (found_token (is_token m IdentifierName (codes "from")) (At (codes "from") AfterExpr m.rest) f) in
    let mark : is_token x Punctuator (codes ";") ≡ false = ap (λ r. is_kind x.kind Punctuator && same r (codes ";")) raw ∙ and_false (is_kind x.kind Punctuator) in
    let lack : may_lack AfterList q text ≡ false = unlacking x.raw (is_end text) (breaks text) raw (not_end text raw) in
    ap (λ b. cond b (At (codes ";") AfterExpr x.rest) (go_if (may_lack AfterList q text) (At q AfterList text))) mark ∙ ap (λ b. go_if b (At q AfterList text)) lack

no_end : {v : Surroundings} {y : Place} {o : Fault} → IsTrue (is_found (forth (key "from") y)) → NoRow so_far v names_end y o
no_end {v} {y} {o = o} f = record { no = at }
  where
    at : (ts : Forest) (z : Place) → Walk (Whole so_far) (steady v) names_end y ts z → Shallow o (deepest ts) → ⊥
    at ts z (next (sign e g) (next (sign h i) w)) s = let bad : IsTrue (is_found Lost) = subst (λ p. IsTrue (is_found p)) (sym h ∙ (ap (forth Semicolon) (sym e) ∙ from_lost y f)) i in cc

pub from_built : {v : Surroundings} {x y a z : Place} {ts us : Forest} {s : Text} {t : Tree} → OnlyRow so_far v (specifier_row From) x (part (list ts) none) y → Moves (key "from") y a → OnlyRow so_far v source_row a (part (leaf StringLiteral s) none) z → us ≡ ts → t ≡ node (program ExportFrom) (part (list us) (part (leaf StringLiteral s) none)) → OnlyExport (pun "{") v t x z
from_built {v} {x} {ts = ts} {us} {s} o m r e is =
    only_of (program ExportFrom) refl (record { parts = part (list ts) (part (leaf StringLiteral s) none); is = is ∙ ap (λ ws. node (program ExportFrom) (part (list ws) (part (leaf StringLiteral s) none))) e; row = then_row of_so_far (specifier_row From) o (then' (only_sign m) r); keeps = refl })
    (of_braced (Other behind_both v x (program ExportFrom)) (barred (no_node (side_on Exported o (no_end (there m))))) itself)

pub from_unread : {v : Surroundings} {x y a : Place} {ts : Forest} {e : Fault} → OnlyRow so_far v (specifier_row From) x (part (list ts) none) y → Moves (key "from") y a → NoRow so_far v source_row a e → NoneExport (pun "{") v x e
from_unread {v} {x} {e = e} o m n = record { no = of_braced (λ k. NoNode so_far v (behind_both k) k x e) (no_node (side_on Exported o (no_end (there m)))) (no_node (on_row of_so_far (specifier_row From) o (on (only_sign m) n))) }

pub names_built : {v : Surroundings} {x y z w : Place} {ts us : Forest} {t : Tree} → OnlyRow so_far v (specifier_row From) x (part (list ts) none) y → Stuck (key "from") y → all_of (fits Exported) ts ≡ true → Moves (Ends AfterList) y z → Only so_far v semi z nothing w → each (as_side Exported) ts ≡ us → t ≡ node (program ExportNames) (part (list us) none) → OnlyExport (pun "{") v t x w
names_built {v} {x} {ts = ts} o s h e p q is =
    only_of (program ExportNames) refl (record { parts = part (list (each (as_side Exported) ts)) none; is = is ∙ ap (λ ws. node (program ExportNames) (part (list ws) none)) (sym q); row = side_then Exported o h (then' (only_sign e) (then' p (end (semi_found p)))); keeps = refl })
    (of_braced (Other behind_both v x (program ExportNames)) itself (barred (no_node (on_row of_so_far (specifier_row From) o (bar (no_sign s))))))

unfrom : {v : Surroundings} {x y : Place} {ts : Forest} {e : Fault} → OnlyRow so_far v (specifier_row From) x (part (list ts) none) y → Stuck (key "from") y → NoRow so_far v (behind_both (program ExportNames)) x e → NoneExport (pun "{") v x e
unfrom {v} {x} {e = e} o s n = record { no = of_braced (λ k. NoNode so_far v (behind_both k) k x e) (no_node n) (no_node (on_row of_so_far (specifier_row From) o (bar (no_sign s)))) }

pub names_unfit : {v : Surroundings} {x y : Place} {ts : Forest} {e : Fault} → OnlyRow so_far v (specifier_row From) x (part (list ts) none) y → Stuck (key "from") y → all_of (fits Exported) ts ≡ false → NoneExport (pun "{") v x e
names_unfit o s h = unfrom o s (side_unfit Exported o h)

pub names_unended : {v : Surroundings} {x y z : Place} {ts : Forest} {d : Fault} → OnlyRow so_far v (specifier_row From) x (part (list ts) none) y → Stuck (key "from") y → Moves (Ends AfterList) y z → Barred so_far v semi z d → NoneExport (pun "{") v x d
names_unended o s e b = unfrom o s (side_on Exported o (on (only_sign e) (bar b)))

pub names_unread : {v : Surroundings} {x : Place} {e : Fault} → NoRow so_far v (specifier_row From) x e → NoneExport (pun "{") v x e
names_unread {v} {x} {e = e} n = record { no = of_braced (λ k. NoNode so_far v (behind_both k) k x e) (no_node (side_none Exported n)) (no_node (side_none From n)) }

-- ---- all that another module exports

from_as : {v : Surroundings} {x a : Place} {e : Fault} → Moves (key "as") x a → NoRow so_far v from_row x e
from_as m = bar (no_sign (sign_stuck (key "from") (key "as") refl refl refl (there m)))

pub all_as_built : {v : Surroundings} {x a y z : Place} {n s : Text} {t : Tree} → Moves (key "as") x a → Only so_far v (Part Name) a (one (leaf IdentifierName n)) y → OnlyRow so_far v from_row y (part (leaf StringLiteral s) none) z → t ≡ node (program ExportAllAs) (part (leaf IdentifierName n) (part (leaf StringLiteral s) none)) → OnlyExport (pun "*") v t x z
all_as_built {v} {x} {n = n} {s} m o r is =
    only_of (program ExportAllAs) refl (record { parts = part (leaf IdentifierName n) (part (leaf StringLiteral s) none); is = is; row = then' (only_sign m) (then' o r); keeps = refl })
    (of_starred (Other behind_both v x (program ExportAllAs)) (barred (no_node (from_as m))) itself)

as_unread : {v : Surroundings} {x a : Place} {e : Fault} → Moves (key "as") x a → NoRow so_far v (tail (behind_both (program ExportAllAs))) a e → NoneExport (pun "*") v x e
as_unread {v} {x} {e = e} m n = record { no = of_starred (λ k. NoNode so_far v (behind_both k) k x e) (no_node (from_as m)) (no_node (on (only_sign m) n)) }

pub all_unnamed : {v : Surroundings} {x a : Place} {e : Fault} → Moves (key "as") x a → Barred so_far v (Part Name) a e → NoneExport (pun "*") v x e
all_unnamed m b = as_unread m (bar b)

pub all_as_unread : {v : Surroundings} {x a y : Place} {n : Tree} {e : Fault} → Moves (key "as") x a → Only so_far v (Part Name) a (one n) y → NoRow so_far v from_row y e → NoneExport (pun "*") v x e
all_as_unread m o n = as_unread m (on o n)

pub all_built : {v : Surroundings} {x z : Place} {s : Text} {t : Tree} → Stuck (key "as") x → OnlyRow so_far v from_row x (part (leaf StringLiteral s) none) z → t ≡ node (program ExportAll) (part (leaf StringLiteral s) none) → OnlyExport (pun "*") v t x z
all_built {v} {x} {s = s} k r is =
    only_of (program ExportAll) refl (record { parts = part (leaf StringLiteral s) none; is = is; row = r; keeps = refl })
    (of_starred (Other behind_both v x (program ExportAll)) itself (barred (no_node (bar (no_sign k)))))

pub all_unread : {v : Surroundings} {x : Place} {e : Fault} → Stuck (key "as") x → NoRow so_far v from_row x e → NoneExport (pun "*") v x e
all_unread {v} {x} {e = e} k n = record { no = of_starred (λ j. NoNode so_far v (behind_both j) j x e) (no_node n) (no_node (bar (no_sign k))) }

-- ---- a default

-- a class, where its word stands
abbrev is_class : Kind → Bool
is_class (function ClassExpr) = true
is_class k = false

class_is : (k : Kind) → is_class k ≡ true → k ≡ function ClassExpr
class_is (function ClassExpr) h = refl
class_is _ h = cc

class_there : {v : Surroundings} {x y : Place} (k : Kind) (ts : Forest) → Staged v false ClassOnly x (node k ts) y → k ≡ function ClassExpr
class_there k ts r = class_is k (standing ClassOnly is_class refl k (taken_by r) (kind_home ClassOnly k ts (home_of r)))

class_chosen : {v : Surroundings} {x : Place} → Chosen so_far v ClassOnly (function ClassExpr) x
class_chosen = record { no_leaf = λ k t y w. let bad = w.reads.staged in cc; kind = λ k ts y w. class_there k ts w.reads }

no_class_there : {v : Surroundings} {x : Place} {e : Fault} → Stuck (key "class") x → Barred so_far v (Part ClassOnly) x e
no_class_there {v} {x} {e = e} s = record { no = at }
  where
    at : (g : Given) (y : Place) → Past (Whole so_far) v (Part ClassOnly) x g y → Shallow e (given_depth g) → ⊥
    at g y (tree {t = leaf k t} w) h = let bad = w.reads.staged in cc
    at g y (tree {t = list ts} w) h = no_list w.reads
    at g y (tree {t = node k ts} w) h =
        let r : Staged v false ClassOnly x (node (function ClassExpr) ts) y = subst (λ j. Staged v false ClassOnly x (node j ts) y) (class_there k ts w.reads) w.reads in
        lost_there (key "class") x s.is (led_sign (row_so_far (function ClassExpr)) refl (of_so_far.from_node (function ClassExpr) r).walk)

-- no expression stands there behind its guard where a function or a class does
guarded : {v : Surroundings} {x a : Place} {o : Fault} → Moves (key "function") x a → NoRow so_far v (behind_both (program ExportDefaultExpr)) x o
guarded {v} {x} {o = o} m = record { no = at }
  where
    at : (ts : Forest) (y : Place) → Walk (Whole so_far) (steady v) (behind_both (program ExportDefaultExpr)) x ts y → Shallow o (deepest ts) → ⊥
    at ts y (next (sign e f) w) s = let bad : IsTrue (is_found Lost) = subst (λ p. IsTrue (is_found p)) (sym e ∙ unless_lost default_heads IdentifierName 102 (codes "unction") x refl refl (there m)) f in cc

unclassed : {v : Surroundings} {x a : Place} {o : Fault} → Moves (key "class") x a → NoRow so_far v (behind_both (program ExportDefaultExpr)) x o
unclassed {v} {x} {o = o} m = record { no = at }
  where
    at : (ts : Forest) (y : Place) → Walk (Whole so_far) (steady v) (behind_both (program ExportDefaultExpr)) x ts y → Shallow o (deepest ts) → ⊥
    at ts y (next (sign e f) w) s = let bad : IsTrue (is_found Lost) = subst (λ p. IsTrue (is_found p)) (sym e ∙ unless_lost default_heads IdentifierName 99 (codes "lass") x refl refl (there m)) f in cc

pub function_built : {v : Surroundings} {x a y : Place} {ts : Forest} {t : Tree} → Moves (key "function") x a → OnlyRow so_far v named_row a ts y → has_plain_params ts ≡ true → t ≡ node (program ExportDefaultFn) ts → OnlyExport (key "default") v t x y
function_built {v} {x} {ts = ts} m r h is =
    only_of (program ExportDefaultFn) refl (record { parts = ts; is = is; row = then' (only_sign m) r; keeps = and_both _ _ h refl })
    (of_default (Other behind_both v x (program ExportDefaultFn)) itself (barred (no_node (bar (no_class_there (sign_stuck (key "class") (key "function") refl refl refl (there m)))))) (barred (no_node (guarded m))))

pub function_unread : {v : Surroundings} {x a : Place} {o : Fault} → Moves (key "function") x a → NoNamed v a o → NoneExport (key "default") v x o
function_unread {v} {x} {o = o} m n = record { no = of_default (λ k. NoNode so_far v (behind_both k) k x o) (record { no = at }) (no_node (bar (no_class_there (sign_stuck (key "class") (key "function") refl refl refl (there m))))) (no_node (guarded m)) }
  where
    at : (ts : Forest) (y : Place) → Walk (Whole so_far) (steady v) (behind_both (program ExportDefaultFn)) x ts y → so_far.keeps (program ExportDefaultFn) v ts ≡ true → Shallow o (deepest ts) → ⊥
    at ts y (next {ts = us} (sign e f) w) h s = n.no us y (subst (λ p. Walk (Whole so_far) (steady v) named_row p us y) (sym e ∙ sym m.is) w) (and_left (has_plain_params us) true h) s

pub class_built : {v : Surroundings} {x a y : Place} {e t : Tree} → Moves (key "class") x a → OnlyParts v (function ClassExpr) e a y → t ≡ node (program ExportDefaultClass) (part e none) → OnlyExport (key "default") v t x y
class_built {v} {x} {y = y} {e} m b is =
    let o : Only so_far v (Part ClassOnly) x (one e) y = parts_only class_chosen refl refl (λ ts. refl) refl m b in
    let row : OnlyRow so_far v (behind_both (program ExportDefaultClass)) x (part e none) y = then' o (end (end_found of_so_far (whole_of o.past).reads)) in
    only_of (program ExportDefaultClass) refl (record { parts = part e none; is = is; row = row; keeps = and_both _ _ (plain_row (behind_both (program ExportDefaultClass)) refl (to_grammar of_so_far row.walk)) refl })
    (of_default (Other behind_both v x (program ExportDefaultClass)) (barred (no_node (bar (no_sign (sign_stuck (key "function") (key "class") refl refl refl (there m)))))) itself (barred (no_node (unclassed m))))

pub class_unread : {v : Surroundings} {x a : Place} {e : Fault} → Moves (key "class") x a → NoParts v (function ClassExpr) a e → NoneExport (key "default") v x (outer e)
class_unread {v} {x} {e = e} m n = record { no = of_default (λ k. NoNode so_far v (behind_both k) k x (outer e)) (no_node (bar (no_sign (sign_stuck (key "function") (key "class") refl refl refl (there m))))) (no_node (bar (parts_barred true refl class_chosen refl refl m n))) (no_node (unclassed m)) }

-- it counts from its word
pub class_deep : {v : Surroundings} {x a : Place} {e : Fault} → Moves (key "class") x a → Below 0 e → NoneExport (key "default") v x e
class_deep {v} {x} {e = e} m b = record { no = of_default (λ k. NoNode so_far v (behind_both k) k x e) (no_node (bar (no_sign (sign_stuck (key "function") (key "class") refl refl refl (there m))))) (no_node (bar deep)) (no_node (unclassed m)) }
  where
    deep : Barred so_far v (Part ClassOnly) x e
    deep = record { no = at }
      where
        at : (g : Given) (y : Place) → Past (Whole so_far) v (Part ClassOnly) x g y → Shallow e (given_depth g) → ⊥
        at g y (tree {t = leaf k t} w) h = let bad = w.reads.staged in cc
        at g y (tree {t = list ts} w) h = no_list w.reads
        at g y (tree {t = node k ts} w) h = deep_counted e (ap (counts_as true) (class_there k ts w.reads)) w.reads b h

pub value_built : {v : Surroundings} {x y z : Place} {e t : Tree} → Stuck (key "function") x → Stuck (key "class") x → Only so_far v (Part (Expr 1)) x (one e) y → Only so_far v semi y nothing z → t ≡ node (program ExportDefaultExpr) (part e none) → OnlyExport (key "default") v t x z
value_built {v} {x} {z = z} {e} k c o s is =
    let r = (whole_of o.past).reads in
    let row : OnlyRow so_far v (behind_both (program ExportDefaultExpr)) x (part e none) z = then' (only_sign (record { is = sym (no_default k c r); found = start_found of_so_far r })) (then' o (then' s (end (semi_found s)))) in
    only_of (program ExportDefaultExpr) refl (record { parts = part e none; is = is; row = row; keeps = and_both _ _ (plain_row (behind_both (program ExportDefaultExpr)) refl (to_grammar of_so_far row.walk)) refl })
    (of_default (Other behind_both v x (program ExportDefaultExpr)) (barred (no_node (bar (no_sign k)))) (barred (no_node (bar (no_class_there c)))) itself)

pub value_unread : {v : Surroundings} {x : Place} {o : Fault} → Stuck (key "function") x → Stuck (key "class") x → Barred so_far v (Part (Expr 1)) x o → NoneExport (key "default") v x o
value_unread {v} {x} {o = o} k c b = record { no = of_default (λ j. NoNode so_far v (behind_both j) j x o) (no_node (bar (no_sign k))) (no_node (bar (no_class_there c))) (no_node (record { no = at })) }
  where
    at : (ts : Forest) (y : Place) → Walk (Whole so_far) (steady v) (behind_both (program ExportDefaultExpr)) x ts y → Shallow o (deepest ts) → ⊥
    at ts y (next (sign e f) (next {y = z} {ts = us} (tree {t = t} q) w)) s = b.no (one t) z (tree (subst (λ p. Whole so_far v false (Expr 1) p t z) (sym e ∙ stays (Unless default_heads) x refl (found_at e f)) q)) (shallow_first o (one t) us s)

pub value_unended : {v : Surroundings} {x y : Place} {e : Tree} {fault : Fault} → Stuck (key "function") x → Stuck (key "class") x → Only so_far v (Part (Expr 1)) x (one e) y → Barred so_far v semi y fault → NoneExport (key "default") v x fault
value_unended {v} {x} {y} {e} {fault = fault} k c o b = record { no = of_default (λ j. NoNode so_far v (behind_both j) j x fault) (no_node (bar (no_sign k))) (no_node (bar (no_class_there c))) (no_node (record { no = at })) }
  where
    at : (ts : Forest) (z : Place) → Walk (Whole so_far) (steady v) (behind_both (program ExportDefaultExpr)) x ts z → Shallow fault (deepest ts) → ⊥
    at ts z (next (sign d f) (next {y = p} (tree {t = t} q) (next {y = r} {g = g} {ts = us} s w))) h =
        let here = subst (λ l. Whole so_far v false (Expr 1) l t p) (sym d ∙ stays (Unless default_heads) x refl (found_at d f)) q in
        b.no g r (subst (λ l. Past (Whole so_far) v semi l g r) (sym (o.alone (one t) p (tree here)).1) s) (shallow_first fault g us (shallow_rest fault (one t) (with g us) h))
