-- Of what has its form the depth is told part by part.
use Rattle.std.proofs.Common.{◌≡◌, ◌≤◌, ℕ, suc, max, Bool, true, false, cond, List, [], ◌∷◌, refl, sym, ◌∙◌, ap, arith}
use Rattle.std.specs.Prelude.{◌&&◌, ◌||◌}
use Rattle.jsx_base.specs.Token.{Text, TokenKind, Elision, RegExpLiteral}
use Rattle.jsx_tree.specs.Kinds.{Role, Imported, Exported, From, Block, Binds, Assigns, InObject, InClass, Module, Script, FunctionBody, Directive, ImportAll, ImportList, ImportBoth, Specifier, SpecifierAs, Declarator, ExprStmt, ForDeclaration, ForBinding, Catch, Static, Method, Getter, Setter, Field, ComputedKey, RestPat, RestProperty, ShorthandInit, Nullish, Delete, Seq, Spread, TemplateSpan, Binary, Unary, NameLink, IndexLink, CallLink, Element, NamespacedName, MemberName, Kind, program, statement, function, expression, jsx, Tree, leaf, node, list, Forest, none, part}
use Rattle.jsx_tree.specs.Nonterminals.{Nonterminal, Expr, BindingIdent, Key}
use Rattle.jsx_tree.specs.Grammar.{production}
use Rattle.jsx_tree.specs.Form.{Position, position, positions, shaped, admits, fits_below, fit_slots, fit_each}
use Rattle.jsx_tree.specs.Depth.{frame, depth_of, depth}
use Rattle.jsx_tree.specs.Faults.{part_depth, deepest}
use Rattle.jsx_tree.specs.Reach.{weighs, has_value, counts, counts_twice, once_more, ones, reach, reach_all}
use Rattle.jsx_tree.proofs.Tokens.{and_left, and_right}
use Rattle.jsx_tree.proofs.Depth.Flat.{is_nested, nested_depth}
use Rattle.jsx_tree.proofs.Depth.Nodes.{counts_as, depth_node, depth_told, flag, full, full_of, is_declarator, read_depth}

-- every kind counts always or never, but a declarator and a name with its default
pub counts_told : (k : Kind) (ts : Forest) → is_nested k ≡ false → is_declarator k ≡ false → counts_as (counts k ts) k ≡ true
counts_told (program Module) ts n d = refl
counts_told (program _) ts n d = refl
counts_told (statement Declarator) ts n d = cc
counts_told (statement _) ts n d = refl
counts_told (function (ShorthandInit r)) ts n d = cc
counts_told (function (Method Static)) ts n d = refl
counts_told (function (Getter Static)) ts n d = refl
counts_told (function (Setter Static)) ts n d = refl
counts_told (function (Field Static)) ts n d = refl
counts_told (function _) ts n d = refl
counts_told (expression (Binary Nullish)) ts n d = refl
counts_told (expression (Unary Delete)) ts n d = refl
counts_told (expression (NameLink true)) ts n d = refl
counts_told (expression (IndexLink true)) ts n d = refl
counts_told (expression (CallLink true)) ts n d = refl
counts_told (expression _) ts n d = refl
counts_told (jsx Element) ts n d = refl
counts_told (jsx _) ts n d = refl

declarator_flag : (ts : Forest) → full (production (statement Declarator)) ts ≡ true → flag (production (statement Declarator)) ts ≡ has_value ts
declarator_flag none e = cc
declarator_flag (part p none) e = cc
declarator_flag (part p (part (leaf k t) ts)) e = cc
declarator_flag (part p (part (node k us) ts)) e = cc
declarator_flag (part p (part (list none) none)) e = refl
declarator_flag (part p (part (list none) (part t ts))) e = cc
declarator_flag (part p (part (list (part u us)) none)) e = refl
declarator_flag (part p (part (list (part u us)) (part t ts))) e = refl

leaf_reach : (k : TokenKind) (t : Text) → depth (leaf k t) ≡ cond (weighs k) 1 0
leaf_reach Elision t = refl
leaf_reach RegExpLiteral t = refl
leaf_reach _ t = refl

nested_reach : (c : Nonterminal) (r : Role) (ts : Forest) → fit_slots (positions (function (ShorthandInit r))) ts ≡ true → deepest ts ≡ reach_all ts → depth (node (function (ShorthandInit r)) ts) ≡ reach (node (function (ShorthandInit r)) ts)
nested_reach c r none e h = cc
nested_reach c r (part a none) e h = let bad = and_right (fits_below BindingIdent a) false (and_right (admits BindingIdent a) (fits_below BindingIdent a && false) e) in cc
nested_reach c r (part a (part b none)) e h =
    let below = and_right (admits BindingIdent a) (fits_below BindingIdent a && (admits (Expr 1) b && (fits_below (Expr 1) b && true))) e in
    let second = and_right (admits (Expr 1) b) (fits_below (Expr 1) b && true) (and_right (fits_below BindingIdent a) (admits (Expr 1) b && (fits_below (Expr 1) b && true)) below) in
    let p = read_depth BindingIdent a (and_left (fits_below BindingIdent a) (admits (Expr 1) b && (fits_below (Expr 1) b && true)) below) in
    let q = read_depth (Expr 1) b (and_left (fits_below (Expr 1) b) true second) in
    let all : max (part_depth a) (max (part_depth b) 0) ≡ max (reach a) (max (reach b) 0) = h in
    let same : suc (suc (max (depth a) (depth b))) ≡ suc (max 0 (suc (max (reach a) (max (reach b) 0)))) = omega (arith, p, q, all) in
    nested_depth c r a b (and_left (fits_below BindingIdent a) (admits (Expr 1) b && (fits_below (Expr 1) b && true)) below) (and_left (fits_below (Expr 1) b) true second) ∙ same
nested_reach c r (part a (part b (part d ds))) e h =
    let one = and_right (fits_below BindingIdent a) (admits (Expr 1) b && (fits_below (Expr 1) b && false)) (and_right (admits BindingIdent a) (fits_below BindingIdent a && (admits (Expr 1) b && (fits_below (Expr 1) b && false))) e) in
    let bad = and_right (fits_below (Expr 1) b) false (and_right (admits (Expr 1) b) (fits_below (Expr 1) b && false) one) in cc

node_reach : (c : Nonterminal) (k : Kind) (ts : Forest) → fits_below c (node k ts) ≡ true → deepest ts ≡ reach_all ts → depth (node k ts) ≡ reach (node k ts)
node_reach c (statement Declarator) ts e h = depth_node c (statement Declarator) ts refl e ∙ (λ i. depth_of (frame (declarator_flag ts (full_of [] false [] (production (statement Declarator)) ts e) i) (max 0 (h i))))
node_reach c (function (ShorthandInit r)) ts e h = nested_reach c r ts e h
node_reach c k ts e h = depth_told (counts k ts) c k ts (counts_told k ts refl refl) e ∙ ap (λ d. depth_of (frame (counts k ts) (max (ones (production k)) d))) h

max_both : {a b c d : ℕ} → a ≡ c → b ≡ d → max a b ≡ max c d
max_both p q = λ i. max (p i) (q i)

mutual
  pub reach_told : (c : Nonterminal) (t : Tree) → fits_below c t ≡ true → part_depth t ≡ reach t
  reach_told c (leaf k t) e = leaf_reach k t
  reach_told c (node k ts) e = node_reach c k ts e (reach_slots (positions k) ts e)
  reach_told c (list ts) e = reach_each c ts e

  reach_slots : (ss : List Position) (ts : Forest) → fit_slots ss ts ≡ true → deepest ts ≡ reach_all ts
  reach_slots [] none e = refl
  reach_slots [] (part t ts) e = cc
  reach_slots (position f c g b a ∷ ss) none e = cc
  reach_slots (position f c g b a ∷ ss) (part t ts) e =
      let below = and_right (shaped f c t) (fits_below c t && fit_slots ss ts) e in
      max_both (reach_told c t (and_left (fits_below c t) (fit_slots ss ts) below)) (reach_slots ss ts (and_right (fits_below c t) (fit_slots ss ts) below))

  reach_each : (c : Nonterminal) (ts : Forest) → fit_each c ts ≡ true → deepest ts ≡ reach_all ts
  reach_each c none e = refl
  reach_each c (part t ts) e =
      let below = and_right (admits c t) (fits_below c t && fit_each c ts) e in
      max_both (reach_told c t (and_left (fits_below c t) (fit_each c ts) below)) (reach_each c ts (and_right (fits_below c t) (fit_each c ts) below))

-- ---- the words before a key make no matter: a key is as deep as they are

positive : (b : Bool) (n : ℕ) → b ≡ true → 1 ≤ depth_of (frame b n)
positive true n e = omega arith
positive false n e = cc

expr_counts : (k : Kind) (ts : Forest) → admits (Expr 1) (node k ts) ≡ true → counts k ts ≡ true
expr_counts (program Module) ts e = cc
expr_counts (program Script) ts e = cc
expr_counts (program FunctionBody) ts e = cc
expr_counts (program Directive) ts e = cc
expr_counts (program ImportAll) ts e = cc
expr_counts (program ImportList) ts e = cc
expr_counts (program ImportBoth) ts e = cc
expr_counts (program (Specifier Imported)) ts e = cc
expr_counts (program (Specifier Exported)) ts e = cc
expr_counts (program (Specifier From)) ts e = cc
expr_counts (program (SpecifierAs Imported)) ts e = cc
expr_counts (program (SpecifierAs Exported)) ts e = cc
expr_counts (program (SpecifierAs From)) ts e = cc
expr_counts (statement Declarator) ts e = cc
expr_counts (statement ExprStmt) ts e = cc
expr_counts (statement (ForDeclaration w)) ts e = cc
expr_counts (statement (ForBinding w)) ts e = cc
expr_counts (statement Catch) ts e = cc
expr_counts (function ComputedKey) ts e = cc
expr_counts (function (RestPat Binds)) ts e = cc
expr_counts (function (RestPat Assigns)) ts e = cc
expr_counts (function (RestProperty Binds)) ts e = cc
expr_counts (function (RestProperty Assigns)) ts e = cc
expr_counts (expression Seq) ts e = cc
expr_counts (expression (NameLink b)) ts e = cc
expr_counts (expression (IndexLink b)) ts e = cc
expr_counts (expression (CallLink b)) ts e = cc
expr_counts (expression Spread) ts e = cc
expr_counts (expression (TemplateSpan true)) ts e = cc
expr_counts (expression (TemplateSpan false)) ts e = cc
expr_counts (jsx NamespacedName) ts e = cc
expr_counts (jsx MemberName) ts e = cc
expr_counts _ ts e = refl

pub expr_reach : (t : Tree) → admits (Expr 1) t ≡ true → 1 ≤ reach t
expr_reach (leaf Elision s) e = cc
expr_reach (leaf _ s) e = omega arith
expr_reach (node k ts) e = positive (counts k ts) (max (ones (production k)) (once_more (counts_twice k) (reach_all ts))) (expr_counts k ts e)
expr_reach (list ts) e = cc

abbrev is_computed : Kind → Bool
is_computed (function ComputedKey) = true
is_computed k = false

key_counts : (k : Kind) (ts : Forest) → is_computed k ≡ false → admits Key (node k ts) ≡ true → counts k ts ≡ true
key_counts (program Module) ts n e = cc
key_counts (program Script) ts n e = cc
key_counts (program FunctionBody) ts n e = cc
key_counts (program Directive) ts n e = cc
key_counts (program ImportAll) ts n e = cc
key_counts (program ImportList) ts n e = cc
key_counts (program ImportBoth) ts n e = cc
key_counts (program (Specifier Imported)) ts n e = cc
key_counts (program (Specifier Exported)) ts n e = cc
key_counts (program (Specifier From)) ts n e = cc
key_counts (program (SpecifierAs Imported)) ts n e = cc
key_counts (program (SpecifierAs Exported)) ts n e = cc
key_counts (program (SpecifierAs From)) ts n e = cc
key_counts (statement Declarator) ts n e = cc
key_counts (statement ExprStmt) ts n e = cc
key_counts (statement (ForDeclaration w)) ts n e = cc
key_counts (statement (ForBinding w)) ts n e = cc
key_counts (statement Catch) ts n e = cc
key_counts (function ComputedKey) ts n e = cc
key_counts (function (RestPat Binds)) ts n e = cc
key_counts (function (RestPat Assigns)) ts n e = cc
key_counts (function (RestProperty Binds)) ts n e = cc
key_counts (function (RestProperty Assigns)) ts n e = cc
key_counts (expression Seq) ts n e = cc
key_counts (expression (NameLink b)) ts n e = cc
key_counts (expression (IndexLink b)) ts n e = cc
key_counts (expression (CallLink b)) ts n e = cc
key_counts (expression Spread) ts n e = cc
key_counts (expression (TemplateSpan true)) ts n e = cc
key_counts (expression (TemplateSpan false)) ts n e = cc
key_counts (jsx NamespacedName) ts n e = cc
key_counts (jsx MemberName) ts n e = cc
key_counts _ ts n e = refl

pub key_reach : (t : Tree) → admits Key t ≡ true → fits_below Key t ≡ true → 1 ≤ reach t
key_reach (leaf Elision s) e f = cc
key_reach (leaf _ s) e f = omega arith
key_reach (node (function ComputedKey) none) e f = cc
key_reach (node (function ComputedKey) (part t ts)) e f = let p = expr_reach t (and_left (admits (Expr 1) t) (fits_below (Expr 1) t && fit_slots [] ts) f) in omega (arith, p)
key_reach (node k ts) e f = positive (counts k ts) (max (ones (production k)) (once_more (counts_twice k) (reach_all ts))) (key_counts k ts refl e)
key_reach (list ts) e f = cc

by_key : (t : Tree) (ts : Forest) (b : Bool) → (admits Key t && (fits_below Key t && b)) ≡ true → 1 ≤ reach_all (part t ts)
by_key t ts b e = let p = key_reach t (and_left (admits Key t) (fits_below Key t && b) e) (and_left (fits_below Key t) b (and_right (admits Key t) (fits_below Key t && b) e)) in omega (arith, p)

pub words_within : (c : Nonterminal) (k : Kind) (ts : Forest) → fits_below c (node k ts) ≡ true → ones (production k) ≤ reach_all ts
words_within c (program Module) ts e = omega arith
words_within c (statement Block) ts e = omega arith
words_within c (function (Method Static)) none e = cc
words_within c (function (Method Static)) (part t ts) e = by_key t ts _ e
words_within c (function (Getter InObject)) none e = cc
words_within c (function (Getter InObject)) (part t ts) e = by_key t ts _ e
words_within c (function (Getter InClass)) none e = cc
words_within c (function (Getter InClass)) (part t ts) e = by_key t ts _ e
words_within c (function (Getter Static)) none e = cc
words_within c (function (Getter Static)) (part t ts) e = by_key t ts _ e
words_within c (function (Setter InObject)) none e = cc
words_within c (function (Setter InObject)) (part t ts) e = by_key t ts _ e
words_within c (function (Setter InClass)) none e = cc
words_within c (function (Setter InClass)) (part t ts) e = by_key t ts _ e
words_within c (function (Setter Static)) none e = cc
words_within c (function (Setter Static)) (part t ts) e = by_key t ts _ e
words_within c (function (Field Static)) none e = cc
words_within c (function (Field Static)) (part t ts) e = by_key t ts _ e
words_within c (expression (Binary Nullish)) ts e = omega arith
words_within c (expression (Unary Delete)) ts e = omega arith
words_within c (expression (NameLink true)) ts e = omega arith
words_within c (expression (IndexLink true)) ts e = omega arith
words_within c (expression (CallLink true)) ts e = omega arith
words_within c (jsx Element) ts e = omega arith
words_within c _ ts e = omega arith
