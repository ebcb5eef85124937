-- What `for`-`in` and `for`-`of` go over with: a target, or what is bound, with the word behind it.
use Rattle.std.proofs.Common.{◌≡◌, Bool, true, false, not, refl, sym, ◌∙◌, ap, subst}
use Rattle.std.specs.Prelude.{IsTrue, codes, ◌&&◌, ◌||◌}
use Rattle.jsx_base.specs.Token.{Text, TokenKind, Operator, IdentifierName, Punctuator, is_kind, same}
use Rattle.jsx_tree.specs.Signs.{Sign, Tok}
use Rattle.jsx_tree.specs.Kinds.{DeclareWord, Binds, Assigns, ArrayPat, ObjectPat, ForBinding, Member, Index, SuperMember, SuperIndex, ParenTarget, Parenthesized, Kind, statement, expression, function, Tree, leaf, node, list, Forest, none, part}
use Rattle.jsx_tree.specs.Nonterminals.{Nonterminal, Expr, ForHead, ForOfHead, Pat, SimpleTarget, homes, in_homes, leaf_in}
use Rattle.jsx_tree.specs.Grammar.{Part, key, pun, vars}
use Rattle.jsx_tree.specs.Form.{admits, fits_below, is_leaf}
use Rattle.jsx_tree.specs.Reading.{Place, forth}
use Rattle.jsx_tree.specs.StaticRules.{Surroundings}
use Rattle.jsx_tree.specs.View.{word_of}
use Rattle.jsx_tree.specs.Walk.{is_found, one, Past, sign, tree, Walk, done, next, around, steady}
use Rattle.jsx_tree.specs.Language.{Whole}
use Rattle.jsx_tree.specs.Grows.{as_target}
use Rattle.jsx_tree.specs.Answers.{Moves, Only, Barred, OnlyRow, NoRow}
use Rattle.jsx_tree.specs.declared.text.DeclareWord as code
use Rattle.jsx_tree.specs.Depth.{deep, depth}
use Rattle.jsx_tree.specs.Faults.{Fault, Unread, Shallow, part_depth, deepest, given_depth}
use Rattle.jsx_tree.proofs.Tokens.{and_left, and_right, and_both}
use Rattle.jsx_tree.proofs.Apart.{clash, never_both, one_token}
use Rattle.jsx_tree.proofs.Rows.Bridge.{found_at}
use Rattle.jsx_tree.proofs.Rows.Bodies.{plain}
use Rattle.jsx_tree.proofs.Rows.Closers.{closes, shut_reading}
use Rattle.jsx_tree.proofs.Rows.Guarded.{loosen, to_grammar}
use Rattle.jsx_tree.proofs.Rows.Laws.{end_found}
use Rattle.jsx_tree.proofs.Rows.Stopping.{heeds, never_stops, or_cases, sign_stops}
use Rattle.jsx_tree.proofs.Rows.Targets.{as_value, is_member, Aim, named, member, paired, Target, name_target, member_target, pair_target, value_aims, target_back, Level, level_0, left_simple, spelled_target}
use Rattle.jsx_tree.proofs.Rows.Turns.{whole_of}
use Rattle.jsx_tree.proofs.Depth.Nodes.{read_depth}
use Rattle.jsx_tree.proofs.Depth.Shallow.{shallow_head}
use Rattle.jsx_tree.proofs.Rows.Placing.{flat_shallow}
use Rattle.jsx_token.specs.Stage.{leaf_at}
use Rattle.jsx_token.specs.Marks.{row_so_far}
use Rattle.jsx_operand.specs.SoFar.{Staged, so_far}
use Rattle.jsx_operand.specs.Climbing.{is_target}
use Rattle.jsx_operand.specs.Turning.{is_bracketed}
use Rattle.jsx_operand.proofs.OfSoFar.{of_so_far}
use Rattle.jsx_operand.proofs.Aims.{aim_of, aim_is, staged_target, staged_value, simple_reads}
use Rattle.jsx_operand.proofs.Homes.{IsName, bound_word, home_of, in_brackets, is_bracket, no_list, taken_by}
use Rattle.jsx_operand.proofs.Standing.{standing}
use Rattle.jsx_operand.proofs.Values.{bracket_sign, in_array, in_object, led_sign, leaf_to, node_to}
use Rattle.jsx_declaration.specs.Heads.{NoDeclaring, NotOver, declare_sign, is_async, over_row}
use Rattle.jsx_declaration.proofs.Heads.{declare_is, declare_key, key_value, lost_there, same_word, undeclaring}
use Rattle.jsx_declaration.proofs.Statements.{semicolon}

-- ---- the two places, each with its word

pub record Header (c : Nonterminal) (s : Sign) : Type 0 where
  pub fits : Tree → Bool
  pub aims : (t : Tree) → fits t ≡ true → is_target t ≡ true
  pub name : (t : Text) → leaf_in c IdentifierName t ≡ fits (leaf IdentifierName t)
  pub word : (k : TokenKind) (t : Text) → leaf_at c k t ≡ true → k ≡ IdentifierName
  pub stays : (t : Text) → leaf_at c IdentifierName t ≡ true
  pub kind : (k : Kind) (ts : Forest) → is_target (node k ts) ≡ true → fits (node k ts) ≡ true
  pub home : (k : Kind) (ts : Forest) → admits c (node k ts) ≡ in_homes ForHead (homes k)
  pub low : heeds (Expr 11) s ≡ true
  pub ended : heeds c s ≡ true

pub key_leaf : (k : TokenKind) (t : Text) → leaf_at ForHead k t ≡ true → k ≡ IdentifierName
key_leaf IdentifierName t h = refl
key_leaf _ t h = cc

pub item_leaf : (k : TokenKind) (t : Text) → leaf_at ForOfHead k t ≡ true → k ≡ IdentifierName
item_leaf IdentifierName t h = refl
item_leaf _ t h = cc

pub and_true : (b : Bool) → b ≡ true → (b && true) ≡ true
and_true b h = ap (λ c. c && true) h

abbrev pub keys : Header ForHead (key "in")
keys = record { fits = is_target; aims = λ t h. h; name = λ t. refl; word = key_leaf; stays = λ t. refl; kind = λ k ts h. h; home = λ k ts. refl; low = refl; ended = refl }

abbrev pub items : Header ForOfHead (key "of")
items = record {
  fits = λ t. is_target t && not (is_async t);
  aims = λ t h. and_left (is_target t) _ h;
  name = λ t. refl;
  word = item_leaf;
  stays = λ t. refl;
  kind = λ k ts h. and_true (is_target (node k ts)) h;
  home = λ k ts. refl;
  low = refl;
  ended = refl;
}

-- ---- what stands there

abbrev is_binding : Kind → Bool
is_binding (statement (ForBinding w)) = true
is_binding k = false

abbrev is_paired : Kind → Bool
is_paired (function ParenTarget) = true
is_paired k = false

binding_is : {A : Type 0} (k : Kind) → is_binding k ≡ true → ((w : DeclareWord) → k ≡ statement (ForBinding w) → A) → A
binding_is (statement (ForBinding w)) h f = f w refl
binding_is _ h f = cc

-- a member is the same as what is assigned to, and is at home there
pub record Kept (k : Kind) (ts : Forest) : Type 0 where
  pub value : as_value (node k ts) ≡ node k ts
  pub target : as_target (node k ts) ≡ node k ts
  pub home : in_homes ForHead (homes k) ≡ true

pub member_kept : (k : Kind) (ts : Forest) → is_member k ≡ true → Kept k ts
member_kept (expression Member) ts m = record { value = refl; target = refl; home = refl }
member_kept (expression Index) ts m = record { value = refl; target = refl; home = refl }
member_kept (expression SuperMember) ts m = record { value = refl; target = refl; home = refl }
member_kept (expression SuperIndex) ts m = record { value = refl; target = refl; home = refl }
member_kept _ ts m = cc

name_fits : {c : Nonterminal} {s : Sign} (h : Header c s) (k : TokenKind) (t : Text) → k ≡ IdentifierName → leaf_in c k t ≡ true → h.fits (leaf k t) ≡ true
name_fits {c} h k t e i = subst (λ j. h.fits (leaf j t) ≡ true) (sym e) (sym (h.name t) ∙ subst (λ j. leaf_in c j t ≡ true) e i)

name_there : (k : TokenKind) (t : Text) → k ≡ IdentifierName → is_target (leaf k t) ≡ true → Target (leaf k t)
name_there IdentifierName t e i = name_target i
name_there _ t e i = cc

node_fits : {c : Nonterminal} {s : Sign} (h : Header c s) (k : Kind) (ts : Forest) (u : Tree) → Target u → u ≡ node k ts → h.fits (as_value u) ≡ true
node_fits h k ts u (name_target b) e = cc
node_fits h k ts u (member_target {k = l} {ts = us} m) e = subst (λ t. h.fits t ≡ true) (sym (member_kept l us m).value) (h.kind l us (aim_is (member {k = l} {ts = us} m)))
node_fits h k ts u (pair_target {t} p) e = h.kind (expression Parenthesized) (part (as_value t) none) (aim_is (paired (value_aims p)))

pair_there : {v : Surroundings} {c : Nonterminal} {x y : Place} (k : Kind) (ts : Forest) → is_paired k ≡ true → Staged v false c x (node k ts) y → Target (node k ts)
pair_there (function ParenTarget) ts e r = simple_reads (node (function ParenTarget) ts) (node_to SimpleTarget refl r)
pair_there _ ts e r = cc

-- a pattern in brackets stands where what is assigned to does
pub pattern_there : {v : Surroundings} {c : Nonterminal} {x z : Place} (u : Tree) → in_brackets u ≡ true → Staged v false c x u z → Staged v false (Pat Assigns) x u z
pattern_there (node (function (ArrayPat Assigns)) ts) e r = node_to (Pat Assigns) refl r
pattern_there (node (function (ObjectPat Assigns)) ts) e r = node_to (Pat Assigns) refl r
pattern_there (node _ ts) e r = cc
pattern_there _ e r = cc

pub pattern_is : (u : Tree) → in_brackets u ≡ true → is_bracketed u ≡ true
pattern_is (node (function (ArrayPat Assigns)) ts) e = refl
pattern_is (node (function (ObjectPat Assigns)) ts) e = refl
pattern_is (node _ ts) e = cc
pattern_is _ e = cc

-- no pattern in brackets stands there with the word behind it
pub record NoPattern (v : Surroundings) (s : Sign) (x : Place) (e : Fault) : Type 0 where
  pub no : (c : Nonterminal) (k : Kind) (ts : Forest) (z : Place) → is_bracket k ≡ true → Staged v false c x (node k ts) z → IsTrue (is_found (forth s z)) → Shallow e (part_depth (node k ts)) → ⊥

-- nor with the other
pub record NoOver (v : Surroundings) (x : Place) (e : Fault) : Type 0 where
  pub keys : NoPattern v (key "in") x e
  pub items : NoPattern v (key "of") x e

not_pattern : {v : Surroundings} {c : Nonterminal} {s : Sign} {x z : Place} {o : Fault} (u : Tree) → NoPattern v s x o → Staged v false c x u z → IsTrue (is_found (forth s z)) → Shallow o (part_depth u) → (b : Bool) → in_brackets u ≡ b → b ≡ false
not_pattern u n r f a false e = refl
not_pattern {c = c} {z = z} (node k ts) n r f a true e = absurd (n.no c k ts z e r f a)
not_pattern _ n r f a true e = cc

-- none does where another token stands
other_pattern : {v : Surroundings} {c : Nonterminal} {x z : Place} (l : TokenKind) (w : Text) → (is_kind Punctuator l && same (codes "[") w) ≡ false → (is_kind Punctuator l && same (codes "{") w) ≡ false → IsTrue (is_found (forth (Tok Operator l w) x)) → (u : Tree) → Staged v false c x u z → (b : Bool) → in_brackets u ≡ b → b ≡ false
other_pattern l w a b f u r false e = refl
other_pattern {x = x} l w a b f (node (function (ArrayPat Assigns)) ts) r true e = absurd (clash _ (one_token Punctuator l (codes "[") w x (bracket_sign in_array r) f) a)
other_pattern {x = x} l w a b f (node (function (ObjectPat Assigns)) ts) r true e = absurd (clash _ (one_token Punctuator l (codes "{") w x (bracket_sign in_object r) f) b)
other_pattern l w a b f (node _ ts) r true e = cc
other_pattern l w a b f _ r true e = cc

-- a target, or what is bound, where it is no pattern in brackets
pub head_cases : {v : Surroundings} {c : Nonterminal} {s : Sign} {x y : Place} {A : Type 0} (h : Header c s) (u : Tree) → in_brackets u ≡ false → Staged v false c x u y → (Target u → h.fits (as_value u) ≡ true → A) → ((w : DeclareWord) (ts : Forest) → u ≡ node (statement (ForBinding w)) ts → A) → A
head_cases {c = c} h (leaf k t) n r f g =
    let e = h.word k t r.staged in
    let i = name_fits h k t e (and_left (leaf_in c k t) (is_leaf k t) r.reads.is) in
    f (name_there k t e (h.aims (leaf k t) i)) i
head_cases {A = A} h (node k ts) n r f g =
    or_cases (is_bracket k) (is_member k || (is_paired k || is_binding k)) (standing ForHead (λ j. is_bracket j || (is_member j || (is_paired j || is_binding j))) refl k (taken_by r) (sym (h.home k ts) ∙ home_of r))
    (λ b. absurd (clash (is_bracket k) b n))
    (λ i. or_cases (is_member k) (is_paired k || is_binding k) i
    (λ m. aimed (member_target m))
    (λ o. or_cases (is_paired k) (is_binding k) o (λ q. aimed (pair_there k ts q r)) (λ b. binding_is k b (λ w e. g w ts (ap (λ j. node j ts) e)))))
  where
    aimed : Target (node k ts) → A
    aimed p = f p (node_fits h k ts (node k ts) p refl)
head_cases h (list ts) n r f g = absurd (no_list r)

level_11 : Level 11
level_11 = record { low = refl; members = refl; pairs = refl }

-- it is an expression too
pub as_any : {v : Surroundings} {c : Nonterminal} {x y : Place} {u : Tree} → Target u → Staged v false c x u y → Staged v false (Expr 0) x (as_value u) y
as_any p r = staged_value level_0 bound_word p r

-- a target with the word behind it is an expression that ends before `in`
pub aimed_whole : {v : Surroundings} {c : Nonterminal} {s : Sign} {x y : Place} {u : Tree} (h : Header c s) → Target u → Staged v false c x u y → IsTrue (is_found (forth s y)) → Whole so_far v false (Expr 11) x (as_value u) y
aimed_whole {s = s} {y = y} h p r f = record { reads = staged_value level_11 bound_word p r; ends_there = of_so_far.ends_there (Expr 11) y (sign_stops (Expr 11) s y h.low f) }

-- and the other way
aimed_at : {v : Surroundings} {c d : Nonterminal} {s : Sign} {x y : Place} {t : Tree} (h : Header c s) → Aim t → h.fits t ≡ true → Staged v false d x t y → Staged v false c x (as_target t) y
aimed_at {c = c} h (named {t} b) i r = leaf_to c IsName (h.name t ∙ i) (h.stays t) r
aimed_at {v} {c} {x = x} {y} h (member {k} {ts} m) i r = let q = member_kept k ts m in subst (λ u. Staged v false c x u y) (sym q.target) (node_to c (h.home k ts ∙ q.home) r)
aimed_at {c = c} h (paired {t} p) i r = node_to c (h.home (function ParenTarget) (part (as_target t) none)) (staged_target left_simple refl (paired p) r)

pub aimed_head : {v : Surroundings} {c d : Nonterminal} {s : Sign} {x y : Place} {t : Tree} (h : Header c s) → h.fits t ≡ true → Staged v false d x t y → Staged v false c x (as_target t) y
aimed_head {t = t} h i r = aimed_at h (aim_of t (h.aims t i)) i r

pub head_ended : {v : Surroundings} {c : Nonterminal} {s : Sign} {x y : Place} {t : Tree} (h : Header c s) → Staged v false c x t y → IsTrue (is_found (forth s y)) → Whole so_far v false c x t y
head_ended {c = c} {s} {y = y} h r f = record { reads = r; ends_there = of_so_far.ends_there c y (sign_stops c s y h.ended f) }

binding_found : {v : Surroundings} {c : Nonterminal} {x y : Place} {w : DeclareWord} {ts : Forest} → Staged v false c x (node (statement (ForBinding w)) ts) y → IsTrue (is_found (forth (Tok Operator IdentifierName (vars w)) x))
binding_found {w = w} r = led_sign (row_so_far (statement (ForBinding w))) refl (of_so_far.from_node (statement (ForBinding w)) r).walk

pub no_binding_there : {v : Surroundings} {c : Nonterminal} {x y : Place} {w : DeclareWord} {ts : Forest} → NoDeclaring x → Staged v false c x (node (statement (ForBinding w)) ts) y → ⊥
no_binding_there {x = x} {w = w} n r = lost_there (Tok Operator IdentifierName (vars w)) x (undeclaring n w) (binding_found r)

-- ---- behind a target

-- what is read there is an expression as the target that it is
record Aimed {c : Nonterminal} {s : Sign} (h : Header c s) (t u : Tree) (y z : Place) : Type 0 where
  is : as_target t ≡ u
  fits : h.fits t ≡ true
  place : y ≡ z

one_is : {t u : Tree} → one t ≡ one u → t ≡ u
one_is e = cc

-- whatever stands there with the word behind it is the one expression that ends before `in`
aimed_one : {v : Surroundings} {c : Nonterminal} {s : Sign} {x y z : Place} {t u : Tree} (e : Fault) (h : Header c s) → NoDeclaring x → NoPattern v s x e → Only so_far v (Part (Expr 11)) x (one t) y → Staged v false c x u z → IsTrue (is_found (forth s z)) → Shallow e (part_depth u) → Aimed h t u y z
aimed_one {v} {c} {x = x} {y} {z} {t} {u} e h n b o r f a = head_cases h u (not_pattern u b r f a (in_brackets u) refl) r aimed (λ w ts i. absurd (no_binding_there n (subst (λ q. Staged v false c x q z) i r)))
  where
    aimed : Target u → h.fits (as_value u) ≡ true → Aimed h t u y z
    aimed p i =
        let same = o.alone (one (as_value u)) z (tree (aimed_whole h p r f)) in
        let e = one_is same.0 in
        record { is = ap as_target e ∙ target_back p; fits = ap h.fits e ∙ i; place = same.1 }

pub aimed_only : {v : Surroundings} {c : Nonterminal} {s : Sign} {x y y' : Place} {t : Tree} {d : Nonterminal} (h : Header c s) → NoDeclaring x → NoPattern v s x Unread → Only so_far v (Part (Expr 11)) x (one t) y → h.fits t ≡ true → Staged v false d x t y → Moves s y y' → OnlyRow so_far v (over_row c s) x (part (as_target t) none) y'
aimed_only {v} {c} {s} {x} {y} {y'} {t} h n b o i r m = record { walk = next (tree (head_ended h (aimed_head h i r) (found_at (sym m.is) m.found))) (next (sign (sym m.is) m.found) (done m.found)); alone = at }
  where
    at : (us : Forest) (w : Place) → Walk (Whole so_far) (steady v) (over_row c s) x us w → (part (as_target t) none ≡ us) × (y' ≡ w)
    at us w (next {y = z} (tree {t = u} q) (next (sign e f) (done g))) =
        let same = aimed_one Unread h n b o q.reads (found_at e f) tt in
        (ap (λ a. part a none) same.is, m.is ∙ (ap (forth s) same.place ∙ e))

-- no such word stands there, or the expression is no target
pub aimed_none : {v : Surroundings} {c : Nonterminal} {s : Sign} {x y : Place} {t : Tree} {d : Fault} (h : Header c s) → NoDeclaring x → NoPattern v s x d → Only so_far v (Part (Expr 11)) x (one t) y → (h.fits t ≡ true → IsTrue (is_found (forth s y)) → ⊥) → NoRow so_far v (over_row c s) x d
aimed_none {v} {c} {s} {x} {y} {t} {d = d} h n b o bad = record { no = at }
  where
    at : (us : Forest) (w : Place) → Walk (Whole so_far) (steady v) (over_row c s) x us w → Shallow d (deepest us) → ⊥
    at us w (next {y = z} (tree {t = u} q) (next (sign e f) (done g))) a =
        let same = aimed_one d h n b o q.reads (found_at e f) (shallow_head d u none a) in
        bad same.fits (subst (λ p. IsTrue (is_found (forth s p))) (sym same.place) (found_at e f))

formed : {v : Surroundings} {c : Nonterminal} {x y : Place} {t : Tree} → Staged v false c x t y → fits_below c t ≡ true
formed {c = c} {t = t} q = and_right (admits c t) (fits_below c t) (of_so_far.is_read q).is

-- a target is as deep as the expression that it is read as
aimed_depth : {v : Surroundings} {c d : Nonterminal} {x y : Place} {u : Tree} → Target u → Staged v false c x u y → Staged v false d x (as_value u) y → part_depth u ≡ part_depth (as_value u)
aimed_depth {c = c} {d} {u = u} p q r = sym (read_depth c u (formed q)) ∙ (sym (ap depth (target_back p)) ∙ (ap deep (spelled_target (as_value u)) ∙ read_depth d (as_value u) (formed r)))

pub barred_none : {v : Surroundings} {c : Nonterminal} {s : Sign} {x : Place} {o : Fault} → Header c s → NoDeclaring x → NoPattern v s x o → Barred so_far v (Part (Expr 11)) x o → NoRow so_far v (over_row c s) x o
barred_none {v} {c} {s} {x} {o = o} h n p b = record { no = at }
  where
    at : (us : Forest) (w : Place) → Walk (Whole so_far) (steady v) (over_row c s) x us w → Shallow o (deepest us) → ⊥
    at us w (next {y = z} (tree {t = u} q) (next (sign e f) (done g))) s' =
        let a = shallow_head o u none s' in
        head_cases h u (not_pattern u p q.reads (found_at e f) a (in_brackets u) refl) q.reads
        (λ w i. let r = aimed_whole h w q.reads (found_at e f) in b.no (one (as_value u)) z (tree r) (subst (Shallow o) (aimed_depth w q.reads r.reads) a))
        (λ d ts i. no_binding_there n (subst (λ w. Staged v false c x w z) i q.reads))

pub none_over : {v : Surroundings} {x : Place} {e : Fault} → NoDeclaring x → NoPattern v (key "in") x e → NoPattern v (key "of") x e → Barred so_far v (Part (Expr 11)) x e → NotOver v x e
none_over n p q b = record { keys = barred_none keys n p b; items = barred_none items n q b }

pub passed_over : {v : Surroundings} {x y : Place} {t : Tree} {e : Fault} → NoDeclaring x → NoPattern v (key "in") x e → NoPattern v (key "of") x e → Only so_far v (Part (Expr 11)) x (one t) y → (IsTrue (is_found (forth (key "in") y)) → ⊥) → (IsTrue (is_found (forth (key "of") y)) → ⊥) → NotOver v x e
passed_over n p q o a b = record { keys = aimed_none keys n p o (λ i f. a f); items = aimed_none items n q o (λ i f. b f) }

-- where a semicolon stands
marked_none : {v : Surroundings} {c : Nonterminal} {s : Sign} {x : Place} {o : Fault} → Header c s → IsTrue (is_found (forth (pun ";") x)) → NoRow so_far v (over_row c s) x o
marked_none {v} {c} {s} {x} {o = o} h m = record { no = at }
  where
    at : (us : Forest) (w : Place) → Walk (Whole so_far) (steady v) (over_row c s) x us w → Shallow o (deepest us) → ⊥
    at us w (next {y = z} (tree {t = u} q) (next (sign e f) (done g))) s' =
        head_cases h u (other_pattern Punctuator (codes ";") refl refl m u q.reads (in_brackets u) refl) q.reads (λ p i. shut_reading refl (closes {x = x} semicolon m) (as_any p q.reads).reads)
        (λ d ts a. never_both Punctuator IdentifierName (codes ";") (vars d) x refl m (binding_found (subst (λ p. Staged v false c x p z) a q.reads)))

pub marked_over : {v : Surroundings} {x : Place} {e : Fault} → IsTrue (is_found (forth (pun ";") x)) → NotOver v x e
marked_over m = record { keys = marked_none keys m; items = marked_none items m }

-- ---- behind the word of a declaration

-- what is bound there, with the name that stands behind the word
record Bound (v : Surroundings) (w : DeclareWord) (x : Place) (t : Tree) (y : Place) : Type 0 where
  name : Tree
  is : t ≡ node (statement (ForBinding w)) (part name none)
  stands : Past (Whole so_far) v (Part (Pat Binds)) x (one name) y

row_bound : {v : Surroundings} {p q x1 : Place} {us ts : Forest} (w : DeclareWord) → x1 ≡ forth (Tok Operator IdentifierName (vars w)) p → Walk Staged (around v us) (row_so_far (statement (ForBinding w))) p ts q → Bound v w x1 (node (statement (ForBinding w)) ts) q
row_bound {v} {x1 = x1} w m (next (sign e f) (next {y = z} (tree {t = n} r) (done g))) = record {
  name = n;
  is = refl;
  stands = tree (subst (λ a. Whole so_far v false (Pat Binds) a n z) (sym (m ∙ e)) (record { reads = r; ends_there = of_so_far.ends_there (Pat Binds) z (never_stops (Pat Binds) z refl) }));
}

word_bound : {v : Surroundings} {c : Nonterminal} {s : Sign} {x x1 y : Place} {t : Tree} (h : Header c s) (w : code.DeclareWord) → Moves (declare_sign w) x x1 → Staged v false c x t y → Bound v (word_of w) x1 t y
word_bound {v} {c} {x = x} {x1} {y} {t} h w m r = head_cases h t (other_pattern IdentifierName (vars (word_of w)) refl refl (subst (λ q. IsTrue (is_found (forth q x))) (declare_is w) there) t r (in_brackets t) refl) r (λ p i. absurd (key_value (declare_key w) there (as_any p r))) bound
  where
    there : IsTrue (is_found (forth (declare_sign w) x))
    there = found_at (sym m.is) m.found

    bound : (d : DeclareWord) (ts : Forest) → t ≡ node (statement (ForBinding d)) ts → Bound v (word_of w) x1 t y
    bound d ts e =
        let r' = subst (λ p. Staged v false c x p y) e r in
        let same = same_word d (word_of w) x (binding_found r') (subst (λ q. IsTrue (is_found (forth q x))) (declare_is w) there) in
        let r'' = subst (λ j. Staged v false c x (node (statement (ForBinding j)) ts) y) same r' in
        subst (λ p. Bound v (word_of w) x1 p y) (sym (e ∙ ap (λ j. node (statement (ForBinding j)) ts) same))
        (row_bound {us = ts} (word_of w) (subst (λ q. x1 ≡ forth q x) (declare_is w) m.is) (of_so_far.from_node (statement (ForBinding (word_of w))) r'').walk)

binding_home : {c : Nonterminal} {s : Sign} (h : Header c s) (w : DeclareWord) (ts : Forest) → admits c (node (statement (ForBinding w)) ts) ≡ true
binding_home h w ts = h.home (statement (ForBinding w)) ts

pub bound_only : {v : Surroundings} {c : Nonterminal} {s : Sign} {x x1 x2 x3 : Place} {n t : Tree} (h : Header c s) (w : code.DeclareWord) → Moves (declare_sign w) x x1 → Only so_far v (Part (Pat Binds)) x1 (one n) x2 → Moves s x2 x3 → t ≡ node (statement (ForBinding (word_of w))) (part n none) → OnlyRow so_far v (over_row c s) x (part t none) x3
bound_only {v} {c} {s} {x} {x1} {x2} {x3} {n} {t} h w m o q is = record { walk = next (tree (head_ended h read (found_at (sym q.is) q.found))) (next (sign (sym q.is) q.found) (done q.found)); alone = at }
  where
    row : Walk (Whole so_far) (around v (part n none)) (row_so_far (statement (ForBinding (word_of w)))) x (part n none) x2
    row = next (sign (sym (subst (λ a. x1 ≡ forth a x) (declare_is w) m.is)) m.found) (next o.past (done (end_found of_so_far (whole_of o.past).reads)))

    read : Staged v false c x t x2
    read = subst (λ u. Staged v false c x u x2) (sym is) (of_so_far.to_node (statement (ForBinding (word_of w))) (binding_home h (word_of w) (part n none)) (record { walk = loosen row; keeps = and_both _ _ (plain (row_so_far (statement (ForBinding (word_of w)))) refl (to_grammar of_so_far row)) refl }))

    at : (us : Forest) (z : Place) → Walk (Whole so_far) (steady v) (over_row c s) x us z → (part t none ≡ us) × (x3 ≡ z)
    at us z (next {y = p} (tree {t = u} r) (next (sign e f) (done g))) =
        let b = word_bound h w m r.reads in
        let same = o.alone (one b.name) p b.stands in
        (ap (λ a. part a none) (is ∙ (ap (λ a. node (statement (ForBinding (word_of w))) (part a none)) (one_is same.0) ∙ sym b.is)), q.is ∙ (ap (forth s) same.1 ∙ e))

bound_none : {v : Surroundings} {c : Nonterminal} {s : Sign} {x x1 : Place} {o : Fault} → Header c s → (w : code.DeclareWord) → Moves (declare_sign w) x x1 → ((n : Tree) (z : Place) → Past (Whole so_far) v (Part (Pat Binds)) x1 (one n) z → IsTrue (is_found (forth s z)) → Shallow o (given_depth (one n)) → ⊥) → NoRow so_far v (over_row c s) x o
bound_none {v} {c} {s} {x} {o = o} h w m bad = record { no = at }
  where
    at : (us : Forest) (z : Place) → Walk (Whole so_far) (steady v) (over_row c s) x us z → Shallow o (deepest us) → ⊥
    at us z (next {y = p} (tree {t = u} r) (next (sign e f) (done g))) a =
        let b = word_bound h w m r.reads in
        bad b.name p b.stands (found_at e f)
        (shallow_head o b.name none (flat_shallow o of_so_far (subst (λ t. Staged v false c x t p) b.is r.reads) (subst (λ t. Shallow o (part_depth t)) b.is (shallow_head o u none a))))

-- no name stands there, or no such word behind it
pub unbound : {v : Surroundings} {x x1 : Place} {e : Fault} (w : code.DeclareWord) → Moves (declare_sign w) x x1 → Barred so_far v (Part (Pat Binds)) x1 e → NotOver v x e
unbound w m b = record { keys = bound_none keys w m (λ n z p f s. b.no (one n) z p s); items = bound_none items w m (λ n z p f s. b.no (one n) z p s) }

pub bound_lost : {v : Surroundings} {c : Nonterminal} {s : Sign} {x x1 x2 : Place} {n : Tree} {e : Fault} → Header c s → (w : code.DeclareWord) → Moves (declare_sign w) x x1 → Only so_far v (Part (Pat Binds)) x1 (one n) x2 → (IsTrue (is_found (forth s x2)) → ⊥) → NoRow so_far v (over_row c s) x e
bound_lost {s = s} h w m o l = bound_none h w m (λ k z p f _. l (subst (λ q. IsTrue (is_found (forth s q))) (sym (o.alone (one k) z p).1) f))
