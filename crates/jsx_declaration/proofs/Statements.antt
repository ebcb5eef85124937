-- Statements, by what they begin with: each fact on what begins them is one test of all of it.
use Rattle.std.proofs.Common.{◌≡◌, ℕ, nat_eq, Bool, true, false, not, cond, List, [], ◌∷◌, refl, sym, ◌∙◌, ap, subst}
use Rattle.std.specs.Prelude.{IsTrue, codes, ◌&&◌, ◌||◌}
use Rattle.jsx_base.specs.Token.{Text, TokenKind, Operand, Operator, IdentifierName, Punctuator, NoToken, RegExpLiteral, State, InName, is_start, is_kind, is_token, no_token, among, token, same, at_front, breaks, skip}
use Rattle.jsx_base.proofs.Families.{may_be}
use Rattle.jsx_base.proofs.Fronts.{none_ahead}
use Rattle.jsx_tree.specs.Signs.{AfterExpr, Sign, Tok, Unless}
use Rattle.jsx_tree.specs.Kinds.{Module, ExprStmt, Label, Seq, ParenTarget, Kind, program, statement, function, expression, Tree, leaf, node, list, Forest, Spread, ForIn, ForOf}
use Rattle.jsx_tree.specs.Nonterminals.{Nonterminal, Expr, Ident, SubStmt, is_ident}
use Rattle.jsx_tree.specs.Grammar.{heads, pun}
use Rattle.jsx_tree.specs.Form.{admits, is_leaf}
use Rattle.jsx_tree.specs.Reading.{Place, Lost, At, ended_at, forth, go_if}
use Rattle.jsx_tree.specs.StaticRules.{Surroundings, has_plain_params}
use Rattle.jsx_tree.specs.Walk.{Relation, is_found, Piece, row, sign, tree, Walk, next}
use Rattle.jsx_tree.specs.Language.{Whole}
use Rattle.jsx_tree.specs.Answers.{Built, BuiltNode}
use Rattle.jsx_tree.proofs.Tokens.{and_left, and_right, same_is}
use Rattle.jsx_tree.proofs.Apart.{clash, found_token}
use Rattle.jsx_tree.proofs.Signs.{not_first}
use Rattle.jsx_tree.proofs.Rows.Bridge.{found_at, node_walk}
use Rattle.jsx_tree.proofs.Rows.Stopping.{is_never, is_not, never_stops, or_cases, stays}
use Rattle.jsx_tree.proofs.Rows.Guarded.{guarded, to_grammar}
use Rattle.jsx_tree.proofs.Rows.Bodies.{bodiless, plain}
use Rattle.jsx_tree.proofs.Rows.Firsts.{Keyed, is_head, kind_home, key_row, row_key}
use Rattle.jsx_tree.proofs.Rows.Closers.{Closer, Shut, closes, shut_reading}
use Rattle.jsx_tree.proofs.Rows.Placing.{Chosen}
use Rattle.jsx_token.specs.Stage.{leaf_at}
use Rattle.jsx_operand.specs.SoFar.{Staged, so_far}
use Rattle.jsx_token.specs.Marks.{ends_so_far, row_so_far}
use Rattle.jsx_token.specs.Growths.{is_code, same_sign}
use Rattle.jsx_token.specs.Headings.{Begins, own, over_keys, over_items, NoHeading, heading_kind, heading_sign}
use Rattle.jsx_token.specs.declared.heading.Heading.{Heading}
use Rattle.jsx_token.specs.declared.heading.Heading.TheVariants as heading
use Rattle.jsx_declaration.specs.Labels.{NoLabel}
use Rattle.jsx_operand.proofs.OfSoFar.{of_so_far}
use Rattle.jsx_token.proofs.Headings.{number, every_begun, of_heading, of_two_headings, one_number}
use Rattle.jsx_operand.proofs.Inners.{inner_kind, every_inner, of_inner}
use Rattle.jsx_token.proofs.Listed.{kinds, every, implies, implied}
use Rattle.jsx_token.proofs.Marks.{one_sign}
use Rattle.jsx_operand.proofs.Homes.{IsName, Taken, module', headed, evaluation, labelled, sequence, operand, no_list, no_operand_at, taken_by, home_of, idents, inner, spread, aimed}
use Rattle.jsx_token.proofs.Lives.{lives}
use Rattle.jsx_token.proofs.Levels.{signed}
use Rattle.jsx_operand.proofs.Values.{leaf_forth, led_sign, whole_of_leaf}

-- ---- the places of statements

pub record Spot (c : Nonterminal) : Type 0 where
  pub leafless : (s : TokenKind) (t : Text) → leaf_at c s t ≡ true → ⊥
  pub no_module : lives c (program Module) ≡ false
  pub no_inner : every_inner (λ i. not (lives c (inner_kind i))) ≡ true
  pub no_sequence : lives c (expression Seq) ≡ false
  pub no_spread : lives c (expression Spread) ≡ false
  pub no_target : lives c (function ParenTarget) ≡ false
  pub no_operand : every (λ j. not (lives c j)) kinds ≡ true
  pub guards : every_begun (λ k. guarded c (row_so_far k)) ≡ true
  pub guards_plain : guarded c (row_so_far (statement ExprStmt)) ≡ true
  pub never : is_never c ≡ true
  pub home : (k : Kind) (ts : Forest) → lives c k ≡ true → admits c (node k ts) ≡ true
  pub guards_label : guarded c (row_so_far (statement Label)) ≡ true
  pub plain_home : lives c (statement ExprStmt) ≡ true
  pub label_home : lives c (statement Label) ≡ true

pub subs : Spot SubStmt
subs = record { leafless = λ s t h. cc; no_module = refl; no_inner = refl; no_sequence = refl; no_spread = refl; no_target = refl; no_operand = refl; guards = refl; guards_plain = refl; never = refl; home = λ k ts h. h; guards_label = refl; plain_home = refl; label_home = refl }

-- what stands at one of them begins with one of those signs, or is an expression or a label with what it stands on
pub spot_kind : {c : Nonterminal} → Spot c → (l : Kind) (ts : Forest) {A : Type 0} → Taken l → admits c (node l ts) ≡ true → ((g : Heading) → Begins g l → A) → (l ≡ statement ExprStmt → A) → (l ≡ statement Label → A) → A
spot_kind s l ts (headed {h = g} a) h f e b = f g a
spot_kind s l ts evaluation h f e b = e refl
spot_kind s l ts labelled h f e b = b refl
spot_kind {c} s l ts module' h f e b = absurd (clash _ (kind_home c _ ts h) s.no_module)
spot_kind {c} s l ts (inner i) h f e b = absurd (clash _ (kind_home c _ ts h) (is_not _ (of_inner (λ j. not (lives c (inner_kind j))) s.no_inner i)))
spot_kind {c} s l ts sequence h f e b = absurd (clash _ (kind_home c _ ts h) s.no_sequence)
spot_kind {c} s l ts spread h f e b = absurd (clash _ (kind_home c _ ts h) s.no_spread)
spot_kind {c} s l ts aimed h f e b = absurd (clash _ (kind_home c _ ts h) s.no_target)
spot_kind {c} s l ts (operand m) h f e b = absurd (no_operand_at c s.no_operand m (kind_home c _ ts h))

pub spot_ends : {c : Nonterminal} → Spot c → (y : Place) → ends_so_far c y ≡ true
spot_ends {c} s y = of_so_far.ends_there c y (never_stops c y s.never)

pub lost_if : (x : Place) → (IsTrue (is_found x) → ⊥) → x ≡ Lost
lost_if Lost f = refl
lost_if (At q e text) f = absurd (f refl)

-- ---- the signs

pub heading_stands : {h : Heading} {k : Kind} → Begins h k → {R : Relation} {V : _} {x y : Place} {ts : Forest} → Walk R V (row_so_far k) x ts y → IsTrue (is_found (forth (heading_sign h) x))
heading_stands (own h) w = led_sign (row_so_far (heading_kind h)) (of_heading (λ j. signed (row_so_far (heading_kind j))) refl h) w
heading_stands over_keys w = led_sign (row_so_far (statement ForIn)) refl w
heading_stands over_items w = led_sign (row_so_far (statement ForOf)) refl w

pub coded : (h : Heading) → is_code (heading_sign h) ≡ true
coded h = of_heading (λ j. is_code (heading_sign j)) refl h

-- two that begin with one sign are one
pub one_heading : (g h : Heading) (x : Place) → IsTrue (is_found (forth (heading_sign g) x)) → IsTrue (is_found (forth (heading_sign h) x)) → g ≡ h
one_heading g h x a b = one_number g h (implied (same_sign (heading_sign g) (heading_sign h)) _ (of_two_headings (λ i j. implies (same_sign (heading_sign i) (heading_sign j)) (nat_eq (number i) (number j))) refl g h) (one_sign (heading_sign g) (heading_sign h) x (coded g) (coded h) a b))

-- ---- no expression begins with one of them

pub shut_evaluation : {V : _} {x y : Place} {ts : Forest} → Shut x → Walk Staged V (row_so_far (statement ExprStmt)) x ts y → ⊥
shut_evaluation {V} {x} shut (next (sign e f) (next {y = z} (tree {t = u} q) w)) = shut_reading refl shut (subst (λ p. Staged (V []) false (Expr 0) p u z) (sym e ∙ stays (Unless heads) x refl (found_at e f)) q).reads

no_token_is : (k : TokenKind) (t s : Text) → is_kind NoToken k ≡ false → is_token (no_token s) k t ≡ false
no_token_is k t s n = ap (λ b. b && same (no_token s).raw t) n

-- where a token stands that may not stand there
pub unless_lost : (ts : List Text) (k : TokenKind) (d : ℕ) (t : Text) (x : Place) → is_kind NoToken k ≡ false → among (d ∷ t) ts ≡ true → IsTrue (is_found (forth (Tok Operator k (d ∷ t)) x)) → forth (Unless ts) x ≡ Lost
unless_lost ts k d t Lost n a f = refl
unless_lost ts k d t (At q e text) n a f =
    let m = token Operator (same q []) text in
    let i : is_token m k (d ∷ t) ≡ true = found_token (is_token m k (d ∷ t)) (At (d ∷ t) AfterExpr m.rest) f in
    let raw : (token Operator false text).raw ≡ d ∷ t = ap (λ x. x.raw) (not_first (λ x. is_token x k (d ∷ t)) (λ s. no_token_is k (d ∷ t) s n) (same q []) text i) ∙ same_is m.raw (d ∷ t) (and_right _ _ i) in
    ap (λ b. go_if (not b) (At q e text)) (ap (λ v. among v ts) raw ∙ a)

braced_evaluation : {R : Relation} {V : _} {x y : Place} {ts : Forest} → IsTrue (is_found (forth (heading_sign heading.Block) x)) → Walk R V (row_so_far (statement ExprStmt)) x ts y → ⊥
braced_evaluation {x = x} f (next (sign e g) w) = let bad : IsTrue (is_found Lost) = subst (λ p. IsTrue (is_found p)) (sym e ∙ unless_lost heads Punctuator 123 [] x refl refl f) g in cc

function_evaluation : {R : Relation} {V : _} {x y : Place} {ts : Forest} → IsTrue (is_found (forth (heading_sign heading.Function) x)) → Walk R V (row_so_far (statement ExprStmt)) x ts y → ⊥
function_evaluation {x = x} f (next (sign e g) w) = let bad : IsTrue (is_found Lost) = subst (λ p. IsTrue (is_found p)) (sym e ∙ unless_lost heads IdentifierName 102 (codes "unction") x refl refl f) g in cc

class_evaluation : {R : Relation} {V : _} {x y : Place} {ts : Forest} → IsTrue (is_found (forth (heading_sign heading.Class) x)) → Walk R V (row_so_far (statement ExprStmt)) x ts y → ⊥
class_evaluation {x = x} f (next (sign e g) w) = let bad : IsTrue (is_found Lost) = subst (λ p. IsTrue (is_found p)) (sym e ∙ unless_lost heads IdentifierName 99 (codes "lass") x refl refl f) g in cc

pub semicolon : Closer 59 []
semicolon = record { no_less = refl; no_slash = λ s. none_ahead RegExpLiteral Operand 59 s refl refl refl; no_opener = refl }

keyed_evaluation : {v : Surroundings} {c : Nonterminal} {x y : Place} {ts : Forest} (d : ℕ) (w : Text) → Keyed d w → IsTrue (is_found (forth (Tok Operator IdentifierName (d ∷ w)) x)) → Staged v false c x (node (statement ExprStmt) ts) y → ⊥
keyed_evaluation d w k f r = let bad : key_row (d ∷ w) (row false (statement ExprStmt)) ≡ true = row_key d w (row false (statement ExprStmt)) k (node_walk false (statement ExprStmt) refl r.reads).walk f in cc

-- a word that begins as a name does, and with which no expression begins
abbrev pub keyed_word : Sign → Bool
keyed_word (Tok Operator IdentifierName (d ∷ w)) = is_start d && (not (nat_eq d 60) && not (is_head (d ∷ w)))
keyed_word s = false

pub data KeySign : Sign → Type 0 where
  key_sign : {d : ℕ} {w : Text} → Keyed d w → KeySign (Tok Operator IdentifierName (d ∷ w))

start_state : (b : Bool) (s : State) → b ≡ true → may_be (cond b InName s) RegExpLiteral ≡ false
start_state true s e = refl
start_state false s e = cc

pub keyed : (s : Sign) → keyed_word s ≡ true → KeySign s
keyed (Tok Operator IdentifierName (d ∷ w)) h =
    let a = and_right (is_start d) _ h in
    key_sign (record { no_less = is_not _ (and_left (not (nat_eq d 60)) _ a); no_slash = λ s. none_ahead RegExpLiteral Operand d s refl refl (start_state (is_start d) _ (and_left (is_start d) _ h)); no_head = is_not _ (and_right (not (nat_eq d 60)) _ a) })
keyed _ h = cc

-- a mark, or a word that an expression begins with, but no expression statement
abbrev is_barred : Heading → Bool
is_barred heading.Empty = true
is_barred heading.Block = true
is_barred heading.Function = true
is_barred heading.Class = true
is_barred h = false

barred_evaluation : {v : Surroundings} {c : Nonterminal} {x y : Place} {ts : Forest} (h : Heading) → is_barred h ≡ true → IsTrue (is_found (forth (heading_sign h) x)) → Staged v false c x (node (statement ExprStmt) ts) y → ⊥
barred_evaluation heading.Empty m f r = shut_evaluation (closes semicolon f) (of_so_far.from_node (statement ExprStmt) r).walk
barred_evaluation heading.Block m f r = braced_evaluation f (of_so_far.from_node (statement ExprStmt) r).walk
barred_evaluation heading.Function m f r = function_evaluation f (of_so_far.from_node (statement ExprStmt) r).walk
barred_evaluation heading.Class m f r = class_evaluation f (of_so_far.from_node (statement ExprStmt) r).walk
barred_evaluation _ m f r = cc

pub worded_evaluation : {v : Surroundings} {c : Nonterminal} {x y : Place} {ts : Forest} {s : Sign} → KeySign s → IsTrue (is_found (forth s x)) → Staged v false c x (node (statement ExprStmt) ts) y → ⊥
worded_evaluation (key_sign {d} {w} k) f r = keyed_evaluation d w k f r

no_evaluation : {v : Surroundings} {c : Nonterminal} {x y : Place} {ts : Forest} (h : Heading) → IsTrue (is_found (forth (heading_sign h) x)) → Staged v false c x (node (statement ExprStmt) ts) y → ⊥
no_evaluation h f r =
    or_cases (is_barred h) (keyed_word (heading_sign h)) (of_heading (λ j. is_barred j || keyed_word (heading_sign j)) refl h)
    (λ m. barred_evaluation h m f r)
    (λ k. worded_evaluation (keyed (heading_sign h) k) f r)

-- ---- a label begins with a name, which none of those words is

pub record NameThere (x : Place) (u : Tree) (z : Place) : Type 0 where
  pub name : Text
  pub is : u ≡ leaf IdentifierName name
  pub there : forth (Tok Operator IdentifierName name) x ≡ z
  pub found : IsTrue (is_found z)
  pub free : is_ident name ≡ true
  pub whole : is_leaf IdentifierName name ≡ true

pub name_there : {v : Surroundings} {x z : Place} (u : Tree) → Staged v false Ident x u z → NameThere x u z
name_there (leaf IdentifierName t) r = record { name = t; is = refl; there = leaf_forth IsName r; found = r.reads.found; free = and_left (is_ident t) _ r.reads.is; whole = whole_of_leaf IsName r }
name_there (leaf _ t) r = let bad = r.staged in cc
name_there (node k ts) r = absurd (idents.node k ts (taken_by r) (home_of r))
name_there (list ts) r = absurd (no_list r)

abbrev pub named : Sign → Bool
named (Tok m IdentifierName t) = is_ident t
named s = false

pub same_named : (s : Sign) (name : Text) → same_sign s (Tok Operator IdentifierName name) ≡ true → is_ident name ≡ true → named s ≡ true
same_named (Tok m IdentifierName t) name h f = ap is_ident (same_is t name h) ∙ f
same_named (Tok m _ t) name h f = cc
same_named _ name h f = cc

pub named_code : (name : Text) → is_leaf IdentifierName name ≡ true → is_code (Tok Operator IdentifierName name) ≡ true
named_code [] w = cc
named_code (d ∷ t) w = refl

pub unlabelled_word : {V : _} {x y : Place} {ts : Forest} (s : Sign) → is_code s ≡ true → named s ≡ false → IsTrue (is_found (forth s x)) → Walk Staged V (row_so_far (statement Label)) x ts y → ⊥
unlabelled_word {x = x} s c d f (next (tree {t = u} q) w) =
    let n = name_there u q in
    clash _ (same_named s n.name (one_sign s (Tok Operator IdentifierName n.name) x c (named_code n.name n.whole) f (found_at n.there n.found)) n.free) d

unlabelled_heading : {V : _} {x y : Place} {ts : Forest} (h : Heading) → IsTrue (is_found (forth (heading_sign h) x)) → Walk Staged V (row_so_far (statement Label)) x ts y → ⊥
unlabelled_heading h f w = unlabelled_word (heading_sign h) (coded h) (is_not _ (of_heading (λ j. not (named (heading_sign j))) refl h)) f w

unlabelled : {V : _} {x y : Place} {ts : Forest} → NoLabel x → Walk Staged V (row_so_far (statement Label)) x ts y → ⊥
unlabelled {x = x} l (next (tree {t = u} q) (next (sign e f) w)) =
    let n = name_there u q in
    let bad : IsTrue (is_found Lost) = subst (λ p. IsTrue (is_found p)) (sym e ∙ (ap (forth (pun ":")) (sym n.there) ∙ l.on n.name n.free)) f in cc

-- ---- which kind stands there

pub headed_kind : {v : Surroundings} {c : Nonterminal} {x y : Place} → Spot c → (h : Heading) → IsTrue (is_found (forth (heading_sign h) x)) → (l : Kind) (ts : Forest) → Whole so_far v false c x (node l ts) y → Begins h l
headed_kind {v} {c} {x} {y} s h f l ts w =
    spot_kind s l ts (taken_by w.reads) (home_of w.reads)
    (λ g b. subst (λ j. Begins j l) (one_heading g h x (heading_stands b (of_so_far.from_node l w.reads).walk) f) b)
    (λ e. absurd (no_evaluation h f (subst (λ k. Staged v false c x (node k ts) y) e w.reads)))
    (λ e. absurd (unlabelled_heading h f (of_so_far.from_node (statement Label) (subst (λ k. Staged v false c x (node k ts) y) e w.reads)).walk))

pub lost_there : (s : Sign) (x : Place) → forth s x ≡ Lost → IsTrue (is_found (forth s x)) → ⊥
lost_there s x e f = let bad : IsTrue (is_found Lost) = subst (λ p. IsTrue (is_found p)) e f in cc

pub plain_chosen : {v : Surroundings} {c : Nonterminal} {x : Place} → Spot c → NoHeading x → NoLabel x → Chosen so_far v c (statement ExprStmt) x
plain_chosen {v} {c} {x} s n l = record {
  no_leaf = λ k t y w. s.leafless k t w.reads.staged;
  kind = λ k ts y w. spot_kind s k ts (taken_by w.reads) (home_of w.reads)
      (λ g b. absurd (lost_there (heading_sign g) x (n.on g) (heading_stands b (of_so_far.from_node k w.reads).walk)))
      (λ e. e)
      (λ e. absurd (unlabelled l (of_so_far.from_node (statement Label) (subst (λ j. Staged v false c x (node j ts) y) e w.reads)).walk));
}

-- ---- no token stands at the end of the text

and_no : (a : Bool) → (a && false) ≡ false
and_no true = refl
and_no false = refl

pub end_lost : (s : Sign) (x : Place) → is_code s ≡ true → ended_at x ≡ true → forth s x ≡ Lost
end_lost (Tok Operator k (d ∷ t)) Lost c e = refl
end_lost (Tok Operator k (d ∷ t)) (At q f text) c e =
    let over : skip text ≡ [] = same_is (skip text) [] (and_left (same (skip text) []) _ e) in
    ap (λ u. go_if (is_token (at_front Operator (same q [] || breaks text) u) k (d ∷ t)) (At (d ∷ t) AfterExpr (at_front Operator (same q [] || breaks text) u).rest)) over
    ∙ ap (λ b. go_if b (At (d ∷ t) AfterExpr [])) (and_no (is_kind NoToken k))
end_lost _ x c e = cc

-- ---- what keeps no rule but that on parameters

pub plain_node : {v : Surroundings} {ps : List Piece} {k : Kind} {t : Tree} {x y : Place} → bodiless ps ≡ true → ((ts : Forest) → has_plain_params ts ≡ true → so_far.keeps k v ts ≡ true) → Built so_far v ps k (λ ts. ts) t x y → BuiltNode so_far v ps k t x y
plain_node {ps = ps} b f n = record { parts = n.parts; is = n.is; row = n.row; keeps = f n.parts (plain ps b (to_grammar of_so_far n.row.walk)) }
