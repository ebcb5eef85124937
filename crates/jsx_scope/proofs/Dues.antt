-- Whether an expression gets a pair at its place: by rank and opening, as by the productions.
use Rattle.std.proofs.lemmas.Bool.Decides.{nat_tests}
use Rattle.std.proofs.Common.{arith, ◌≡◌, ℕ, List, [], ◌∷◌, Bool, true, false, cond, refl, ap, sym, ◌∙◌, ⊎_elim}
use Rattle.std.proofs.Math.Bool.{or-false}
use Rattle.std.proofs.lemmas.Bool.{true≢false, false≢true, and_parts, or_cases, or_left, or_right}
use Rattle.std.specs.Prelude.{codes, not, ◌&&◌, ◌||◌, nat_le, nat_lt, nat_eq}
use Rattle.jsx_base.specs.Token.{Text, TokenKind, NumericLiteral, IdentifierName, JsxName, among}
use Rattle.jsx_tree.specs.Kinds.{Kind, program, statement, function, expression, jsx, Seq, Assign, OpAssign, Arrow, ArrowBlock, BareArrow, BareArrowBlock, Cond, Binary, Unary, PrefixUpdate, PostfixUpdate, Call, Member, Index, Tagged, New, NewWithoutArguments, SuperCall, SuperMember, SuperIndex, ImportCall, ImportMeta, NewTarget, Chain, NameLink, IndexLink, CallLink, Array, Object, Parenthesized, PlainTemplate, SubstitutedTemplate, TemplateSpan, FunctionExpr, ClassExpr, ArrayPat, ObjectPat, Binds, BinaryOp, Nullish, Method, Getter, Setter, Field, InObject, WithInit, RestPat, Var, VarWord, Specifier, Imported, Tree, leaf, node, list, Forest, none, part, Delete, ForBinding, ForDeclaration, Increment, PropertyPat, RestProperty, ShorthandInit, ShorthandPat, SpecifierAs, Element, ElementWithChildren, Fragment}
use Rattle.jsx_tree.specs.Nonterminals.{Nonterminal, Expr, MemberObject, DotObject, NullishLeft, NewCallee, Argument, ArrayItem, ForInit, in_homes, in_list, homes, leaf_in, literal_homes, level_of}
use Rattle.jsx_tree.specs.Grammar.{heads}
use Rattle.jsx_tree.specs.Normal.{laid_node}
use Rattle.jsx_tree.specs.Form.{positions, admits, spine_calls}
use Rattle.jsx_tree.specs.Spelling.{spelled}
use Rattle.jsx_tree.specs.Layout.{first_token}
use Rattle.jsx_tree.specs.Parentheses.{asks, is_expression, is_dotted_number, as_laid, parens_of, wants, dress, dresses, is_in}
use Rattle.jsx_tree.specs.Sound.{may_stand, is_no_jsx, loose, loose_slots}
use Rattle.jsx_tree.proofs.Parentheses.FirstPass.{in_expr}
use Rattle.jsx_tree.proofs.Parentheses.Starts.{starts_are}
use Rattle.jsx_scope.specs.OneWalk.{dressed}
use Rattle.jsx_scope.specs.OneWalk as one
use Rattle.jsx_scope.specs.declared.place.Place.{Place}
use Rattle.jsx_scope.specs.declared.place.Place.TheVariants as place
use Rattle.jsx_scope.specs.Places.{place_at}
use Rattle.jsx_scope.specs.Walk.{rank, low, opening, bars, calls, is_number, lacks, due}
use Rattle.jsx_scope.proofs.Levels.{kind_rank, rank_node, expr_kind, laid_kind, is_new, shaped_new}
use Rattle.jsx_scope.proofs.Same.{at_17, leaf_home, not_0, not_19, and_no, wanted_node}
use Rattle.jsx_scope.proofs.Openings.{front, may_expr, new_shaped, opens, leaf_opens, opening_text, statement_text, default_text, arrow_text}

-- ---- calls before members, behind `new`

level_low : (o : BinaryOp) → nat_lt (level_of o) 18 ≡ true
level_low Nullish = refl
level_low _ = refl

low_calls : (k : Kind) (cs : Forest) → nat_lt (kind_rank k) 18 ≡ true → calls (node k cs) ≡ false
low_calls (expression Call) cs r = absurd (false≢true r)
low_calls (expression SuperCall) cs r = absurd (false≢true r)
low_calls (expression ImportCall) cs r = absurd (false≢true r)
low_calls (expression Member) cs r = absurd (false≢true r)
low_calls (expression Index) cs r = absurd (false≢true r)
low_calls (expression Tagged) cs r = absurd (false≢true r)
low_calls (expression k) cs r = refl
low_calls k cs r = refl

no_calls : (v : Bool) (t : Tree) (b : Bool) → (v ≡ true → b ≡ false) → (v ≡ false → spine_calls t ≡ b) → spine_calls (cond v (parens_of t) t) ≡ b
no_calls true t b p q = sym (p refl)
no_calls false t b p q = q refl

-- the kinds of expressions
abbrev listed : Kind → Bool
listed (expression Member) = true
listed (expression Index) = true
listed (expression Tagged) = true
listed (expression Seq) = true
listed (expression Assign) = true
listed (expression (OpAssign o)) = true
listed (expression Arrow) = true
listed (expression ArrowBlock) = true
listed (expression BareArrow) = true
listed (expression BareArrowBlock) = true
listed (expression Cond) = true
listed (expression (Unary o)) = true
listed (expression (PrefixUpdate o)) = true
listed (expression (PostfixUpdate o)) = true
listed (expression Chain) = true
listed (expression (Binary o)) = true
listed (expression Call) = true
listed (expression SuperCall) = true
listed (expression ImportCall) = true
listed (expression New) = true
listed (expression NewWithoutArguments) = true
listed (expression SuperMember) = true
listed (expression SuperIndex) = true
listed (expression ImportMeta) = true
listed (expression NewTarget) = true
listed (expression Array) = true
listed (expression Object) = true
listed (expression Parenthesized) = true
listed (expression (PlainTemplate false)) = true
listed (expression (SubstitutedTemplate false)) = true
listed (function FunctionExpr) = true
listed (function ClassExpr) = true
listed (jsx Element) = true
listed (jsx ElementWithChildren) = true
listed (jsx Fragment) = true
listed k = false

listed_expr : (k : Kind) → (listed k || not (expr_kind k)) ≡ true
listed_expr (program (Specifier Imported)) = refl
listed_expr (program (SpecifierAs Imported)) = refl
listed_expr (statement (Var VarWord)) = refl
listed_expr (statement (ForDeclaration VarWord)) = refl
listed_expr (statement (ForBinding VarWord)) = refl
listed_expr (function (Method InObject)) = refl
listed_expr (function (Getter InObject)) = refl
listed_expr (function (Setter InObject)) = refl
listed_expr (function (Field InObject)) = refl
listed_expr (function (ArrayPat Binds)) = refl
listed_expr (function (ObjectPat Binds)) = refl
listed_expr (function (PropertyPat Binds)) = refl
listed_expr (function (ShorthandPat Binds)) = refl
listed_expr (function (ShorthandInit Binds)) = refl
listed_expr (function (WithInit Binds)) = refl
listed_expr (function (RestPat Binds)) = refl
listed_expr (function (RestProperty Binds)) = refl
listed_expr (expression (Binary Nullish)) = refl
listed_expr (expression (OpAssign Nullish)) = refl
listed_expr (expression (Unary Delete)) = refl
listed_expr (expression (PrefixUpdate Increment)) = refl
listed_expr (expression (PostfixUpdate Increment)) = refl
listed_expr (expression (NameLink true)) = refl
listed_expr (expression (IndexLink true)) = refl
listed_expr (expression (CallLink true)) = refl
listed_expr (expression (PlainTemplate true)) = refl
listed_expr (expression (SubstitutedTemplate true)) = refl
listed_expr (expression (TemplateSpan true)) = refl
listed_expr (jsx Element) = refl
listed_expr _ = refl

other_kind : (v w : Bool) → (v || not w) ≡ true → w ≡ true → v ≡ true
other_kind true w h e = refl
other_kind false true h e = h
other_kind false false h e = e

mutual
  spine_node : (k : Kind) (cs : Forest) → expr_kind k ≡ true → loose_slots (positions k) cs ≡ true → nat_lt (kind_rank k) 18 ≡ false → spine_calls (node k (dresses (positions k) cs)) ≡ calls (node k cs)
  spine_node (expression Member) none e h r = absurd (false≢true h)
  spine_node (expression Member) (part a rest) e h r = spine_first DotObject a _ refl refl refl refl (λ n. refl) h
  spine_node (expression Index) none e h r = absurd (false≢true h)
  spine_node (expression Index) (part a rest) e h r = spine_first MemberObject a _ refl refl refl refl (λ n. refl) h
  spine_node (expression Tagged) none e h r = absurd (false≢true h)
  spine_node (expression Tagged) (part a rest) e h r = spine_first MemberObject a _ refl refl refl refl (λ n. refl) h
  spine_node (expression Seq) cs e h r = absurd (true≢false r)
  spine_node (expression Assign) cs e h r = absurd (true≢false r)
  spine_node (expression (OpAssign o)) cs e h r = absurd (true≢false r)
  spine_node (expression Arrow) cs e h r = absurd (true≢false r)
  spine_node (expression ArrowBlock) cs e h r = absurd (true≢false r)
  spine_node (expression BareArrow) cs e h r = absurd (true≢false r)
  spine_node (expression BareArrowBlock) cs e h r = absurd (true≢false r)
  spine_node (expression Cond) cs e h r = absurd (true≢false r)
  spine_node (expression (Unary o)) cs e h r = absurd (true≢false r)
  spine_node (expression (PrefixUpdate o)) cs e h r = absurd (true≢false r)
  spine_node (expression (PostfixUpdate o)) cs e h r = absurd (true≢false r)
  spine_node (expression Chain) cs e h r = absurd (true≢false r)
  spine_node (expression (Binary o)) cs e h r = absurd (true≢false (sym (level_low o) ∙ r))
  spine_node (expression Call) cs e h r = refl
  spine_node (expression SuperCall) cs e h r = refl
  spine_node (expression ImportCall) cs e h r = refl
  spine_node (expression New) cs e h r = refl
  spine_node (expression NewWithoutArguments) cs e h r = refl
  spine_node (expression SuperMember) cs e h r = refl
  spine_node (expression SuperIndex) cs e h r = refl
  spine_node (expression ImportMeta) cs e h r = refl
  spine_node (expression NewTarget) cs e h r = refl
  spine_node (expression Array) cs e h r = refl
  spine_node (expression Object) cs e h r = refl
  spine_node (expression Parenthesized) cs e h r = refl
  spine_node (expression (PlainTemplate false)) cs e h r = refl
  spine_node (expression (SubstitutedTemplate false)) cs e h r = refl
  spine_node (function FunctionExpr) cs e h r = refl
  spine_node (function ClassExpr) cs e h r = refl
  spine_node (jsx Element) cs e h r = refl
  spine_node (jsx ElementWithChildren) cs e h r = refl
  spine_node (jsx Fragment) cs e h r = refl
  spine_node k cs e h r = absurd (false≢true (other_kind (listed k) (expr_kind k) (listed_expr k) e))

  spine_first : (c : Nonterminal) (t : Tree) (b : Bool) → asks c ≡ true → front c ≡ true → at_17 c ≡ true → is_new c ≡ false → ((n : ℕ) → low (place_at c []) n ≡ nat_lt n 18) → (may_stand c t && (loose c t && b)) ≡ true → spine_calls (dress c [] t) ≡ calls t
  spine_first c (leaf s x) b a f l m p h = no_calls (wants c [] (leaf s x)) (leaf s x) false (λ e. refl) (λ e. refl)
  spine_first c (list ts) b a f l m p h = absurd (⊎_elim (λ q. false≢true (and_parts (asks c) false q).1) (λ q. false≢true q) (or_cases (asks c && false) false (and_parts (may_stand c (list ts)) _ h).0))
  spine_first c (node k cs) b a f l m p h =
      let x = and_parts (may_stand c (node k cs)) (loose c (node k cs) && b) h in let y = and_parts (loose c (node k cs)) b x.1 in let q = and_parts (is_no_jsx k) (loose_slots (positions k) cs) y.0 in
      let w = wanted_node c k (dresses (positions k) cs) a l m (new_shaped k cs q.1) ∙ ap (λ v. v && low (place_at c []) (kind_rank k)) (may_expr c k cs a f x.0) ∙ p (kind_rank k) in
      no_calls (wants c [] (node k (dresses (positions k) cs))) (node k (dresses (positions k) cs)) (calls (node k cs))
      (λ e. low_calls k cs (sym w ∙ e))
      (λ e. spine_node k cs (may_expr c k cs a f x.0) q.1 (sym w ∙ e))

abbrev is_chain : Kind → Bool
is_chain (expression Chain) = true
is_chain k = false

fails_new : (k : Kind) → (expr_kind k && not (in_list (Expr 17) (homes (laid_kind k)))) ≡ (expr_kind k && cond (is_chain k) false (nat_lt (kind_rank k) 18))
fails_new (program (Specifier Imported)) = refl
fails_new (program (SpecifierAs Imported)) = refl
fails_new (statement (Var VarWord)) = refl
fails_new (statement (ForDeclaration VarWord)) = refl
fails_new (statement (ForBinding VarWord)) = refl
fails_new (function (Method InObject)) = refl
fails_new (function (Getter InObject)) = refl
fails_new (function (Setter InObject)) = refl
fails_new (function (Field InObject)) = refl
fails_new (function (ArrayPat Binds)) = refl
fails_new (function (ObjectPat Binds)) = refl
fails_new (function (PropertyPat Binds)) = refl
fails_new (function (ShorthandPat Binds)) = refl
fails_new (function (ShorthandInit Binds)) = refl
fails_new (function (WithInit Binds)) = refl
fails_new (function (RestPat Binds)) = refl
fails_new (function (RestProperty Binds)) = refl
fails_new (expression (Binary Nullish)) = refl
fails_new (expression (OpAssign Nullish)) = refl
fails_new (expression (Unary Delete)) = refl
fails_new (expression (PrefixUpdate Increment)) = refl
fails_new (expression (PostfixUpdate Increment)) = refl
fails_new (expression (NameLink true)) = refl
fails_new (expression (IndexLink true)) = refl
fails_new (expression (CallLink true)) = refl
fails_new (expression (PlainTemplate true)) = refl
fails_new (expression (SubstitutedTemplate true)) = refl
fails_new (expression (TemplateSpan true)) = refl
fails_new (jsx Element) = refl
fails_new _ = refl

laid_spine : (k : Kind) (ds : Forest) → nat_lt (kind_rank k) 18 ≡ false → shaped_new k ds ≡ true → spine_calls (laid_node k ds) ≡ spine_calls (node k ds)
laid_spine (expression BareArrow) ds r s = absurd (true≢false r)
laid_spine (expression BareArrowBlock) ds r s = absurd (true≢false r)
laid_spine (expression NewWithoutArguments) none r s = absurd (false≢true s)
laid_spine (expression NewWithoutArguments) (part a none) r s = refl
laid_spine (expression NewWithoutArguments) (part a (part b bs)) r s = absurd (false≢true s)
laid_spine k ds r s = refl

-- what is laid is admitted behind `new` by its kind, where no call is on its spine
new_admits : (k : Kind) (ds : Forest) → shaped_new k ds ≡ true → admits NewCallee (laid_node k ds) ≡ (in_list (Expr 17) (homes (laid_kind k)) && not (spine_calls (laid_node k ds)))
new_admits (expression BareArrow) (part a b) s = refl
new_admits (expression BareArrow) none s = refl
new_admits (expression BareArrowBlock) (part a b) s = refl
new_admits (expression BareArrowBlock) none s = refl
new_admits (expression NewWithoutArguments) (part a none) s = refl
new_admits (expression NewWithoutArguments) (part a (part b bs)) s = absurd (false≢true s)
new_admits (expression NewWithoutArguments) none s = absurd (false≢true s)
new_admits k ds s = refl

-- by whether the kind is too low, and whether a call stands on the spine
callee_low : (e x y s : Bool) → e ≡ true → (e && not x) ≡ (e && y) → y ≡ true → (e && (not (x && not s) || false)) ≡ true
callee_low true true y s p q r = absurd (false≢true (q ∙ r))
callee_low true false y s p q r = refl
callee_low false x y s p q r = absurd (false≢true p)

callee_high : (e x y s c : Bool) → e ≡ true → (e && not x) ≡ (e && y) → y ≡ false → s ≡ c → (e && (not (x && not s) || false)) ≡ c
callee_high true true y true c p q r t = t
callee_high true true y false c p q r t = t
callee_high true false y s c p q r t = absurd (true≢false (q ∙ r))
callee_high false x y s c p q r t = absurd (false≢true p)

new_expr : (k : Kind) (cs : Forest) → may_stand NewCallee (node k cs) ≡ true → expr_kind k ≡ true
new_expr k cs m = ⊎_elim (λ p. p) (λ p. in_expr 17 (homes k) p) (or_cases (expr_kind k) (in_list (Expr 17) (homes k)) m)

callee_where : (k : Kind) (cs : Forest) (v : Bool) → nat_lt (kind_rank k) 18 ≡ v → may_stand NewCallee (node k cs) ≡ true → loose_slots (positions k) cs ≡ true → is_chain k ≡ false → wants NewCallee [] (node k (dresses (positions k) cs)) ≡ (v || calls (node k cs))
callee_where k cs true r m h n =
    let s = new_shaped k cs h in
    ap (λ a. expr_kind k && (not a || false)) (new_admits k (dresses (positions k) cs) s)
    ∙ callee_low (expr_kind k) _ (cond (is_chain k) false (nat_lt (kind_rank k) 18)) _ (new_expr k cs m) (fails_new k) (ap (λ b. cond b false (nat_lt (kind_rank k) 18)) n ∙ r)
callee_where k cs false r m h n =
    let s = new_shaped k cs h in
    ap (λ a. expr_kind k && (not a || false)) (new_admits k (dresses (positions k) cs) s)
    ∙ callee_high (expr_kind k) _ (cond (is_chain k) false (nat_lt (kind_rank k) 18)) _ (calls (node k cs)) (new_expr k cs m) (fails_new k) (ap (λ b. cond b false (nat_lt (kind_rank k) 18)) n ∙ r) (laid_spine k (dresses (positions k) cs) r s ∙ spine_node k cs (new_expr k cs m) h r)

callee_node : (k : Kind) (cs : Forest) → may_stand NewCallee (node k cs) ≡ true → loose_slots (positions k) cs ≡ true → wants NewCallee [] (node k (dresses (positions k) cs)) ≡ (nat_lt (kind_rank k) 18 || calls (node k cs))
callee_node (expression Chain) cs m h = refl
callee_node k cs m h = callee_where k cs (nat_lt (kind_rank k) 18) refl m h refl

-- ---- leaves

leaf_low : (c : Nonterminal) → at_17 c ≡ true → low (place_at c []) 19 ≡ false
leaf_low (Expr n) l = not_19 n l
leaf_low MemberObject l = refl
leaf_low NullishLeft l = refl
leaf_low NewCallee l = refl
leaf_low DotObject l = refl
leaf_low Argument l = refl
leaf_low ArrayItem l = refl
leaf_low _ l = not_19 0 refl

dot_leaf : (s : TokenKind) (x : Text) → is_dotted_number DotObject (leaf s x) ≡ is_number (leaf s x)
dot_leaf NumericLiteral x = refl
dot_leaf _ x = refl

leaf_lacks : (c : Nonterminal) (s : TokenKind) (x : Text) → is_dotted_number c (leaf s x) ≡ lacks (place_at c []) (leaf s x)
leaf_lacks DotObject s x = dot_leaf s x
leaf_lacks _ s x = refl

no_dot : (c : Nonterminal) (s : TokenKind) (x : Text) → leaf_in (Expr 0) s x ≡ false → is_dotted_number c (leaf s x) ≡ false
no_dot DotObject NumericLiteral x e = absurd (true≢false e)
no_dot DotObject _ x e = refl
no_dot _ s x e = refl

wants_leaf : (c : Nonterminal) (s : TokenKind) (x : Text) (v : Bool) → leaf_in (Expr 0) s x ≡ v → asks c ≡ true → at_17 c ≡ true → wants c [] (leaf s x) ≡ is_dotted_number c (leaf s x)
wants_leaf c s x true e a l =
    ap (λ b. b && (leaf_in (Expr 0) s x && (not (leaf_in c s x) || (false || is_dotted_number c (leaf s x))))) a
    ∙ (ap (λ b. b && (not (leaf_in c s x) || (false || is_dotted_number c (leaf s x)))) e ∙ ap (λ b. not b || (false || is_dotted_number c (leaf s x))) (leaf_home c s x a l e))
wants_leaf c s x false e a l =
    ap (λ b. b && (leaf_in (Expr 0) s x && (not (leaf_in c s x) || (false || is_dotted_number c (leaf s x))))) a
    ∙ (ap (λ b. b && (not (leaf_in c s x) || (false || is_dotted_number c (leaf s x)))) e ∙ sym (no_dot c s x e))

-- ---- at places

abbrev Wants : Nonterminal → List Text → Place → Tree → Type 0
Wants c g p t = wants c g (dressed t) ≡ (low p (rank t) || lacks p t)

abbrev pub Dues : Nonterminal → List Text → Place → Type 0
Dues c g p = (bare : Bool) (t : Tree) → may_stand c t ≡ true → loose c t ≡ true → one.due c g bare t ≡ due p bare t

swapped : (v a b : Bool) → (v || (a && b)) ≡ (v || (b && a))
swapped true a b = refl
swapped false true true = refl
swapped false true false = refl
swapped false false true = refl
swapped false false false = refl

pub dues_of : (c : Nonterminal) (g : List Text) (p : Place) → ((t : Tree) → may_stand c t ≡ true → loose c t ≡ true → Wants c g p t) → Dues c g p
dues_of c g p w bare t m h = ap (λ v. v || (bare && is_in t)) (w t m h) ∙ swapped (low p (rank t) || lacks p t) bare (is_in t)

quiet_place : (c : Nonterminal) → asks c ≡ false → place_at c [] ≡ place.Level 0
quiet_place (Expr n) a = absurd (true≢false a)
quiet_place MemberObject a = absurd (true≢false a)
quiet_place NullishLeft a = absurd (true≢false a)
quiet_place NewCallee a = absurd (true≢false a)
quiet_place DotObject a = absurd (true≢false a)
quiet_place Argument a = absurd (true≢false a)
quiet_place ArrayItem a = absurd (true≢false a)
quiet_place _ a = refl

wants_quiet : (c : Nonterminal) (t : Tree) → asks c ≡ false → Wants c [] (place_at c []) t
wants_quiet c t a =
    ap (λ b. b && (is_expression (dressed t) && (not (admits c (as_laid (dressed t))) || (among (first_token (spelled (dressed t))) [] || is_dotted_number c (dressed t))))) a
    ∙ (ap (λ b. b || false) (sym (not_0 (rank t))) ∙ ap (λ p. low p (rank t) || lacks p t) (sym (quiet_place c a)))

-- where a list is asked, nothing is an expression
abbrev lists : Nonterminal → Bool
lists Argument = true
lists ArrayItem = true
lists ForInit = true
lists c = false

-- Argument, ArrayItem and ForInit have others beside expressions, which bind most
rank_most : (k : Kind) → (expr_kind k || (nat_eq (kind_rank k) 19 || not (in_homes Argument (homes k) || (in_homes ArrayItem (homes k) || in_homes ForInit (homes k))))) ≡ true
rank_most (program (Specifier Imported)) = refl
rank_most (program (SpecifierAs Imported)) = refl
rank_most (statement (Var VarWord)) = refl
rank_most (statement (ForDeclaration VarWord)) = refl
rank_most (statement (ForBinding VarWord)) = refl
rank_most (function (Method InObject)) = refl
rank_most (function (Getter InObject)) = refl
rank_most (function (Setter InObject)) = refl
rank_most (function (Field InObject)) = refl
rank_most (function (ArrayPat Binds)) = refl
rank_most (function (ObjectPat Binds)) = refl
rank_most (function (PropertyPat Binds)) = refl
rank_most (function (ShorthandPat Binds)) = refl
rank_most (function (ShorthandInit Binds)) = refl
rank_most (function (WithInit Binds)) = refl
rank_most (function (RestPat Binds)) = refl
rank_most (function (RestProperty Binds)) = refl
rank_most (expression (Binary Nullish)) = refl
rank_most (expression (OpAssign Nullish)) = refl
rank_most (expression (Unary Delete)) = refl
rank_most (expression (PrefixUpdate Increment)) = refl
rank_most (expression (PostfixUpdate Increment)) = refl
rank_most (expression (NameLink true)) = refl
rank_most (expression (IndexLink true)) = refl
rank_most (expression (CallLink true)) = refl
rank_most (expression (PlainTemplate true)) = refl
rank_most (expression (SubstitutedTemplate true)) = refl
rank_most (expression (TemplateSpan true)) = refl
rank_most (jsx Element) = refl
rank_most _ = refl

-- a node where an expression is asked, or another thing
or_most : (e q v w x : Bool) (r : ℕ) → (e || (q || not (v || (w || x)))) ≡ true → (v || (w || x)) ≡ true → (e ≡ true → ⊥) → q ≡ true
or_most true q v w x r h m n = absurd (n refl)
or_most false true v w x r h m n = refl
or_most false false v w x r h m n = absurd (false≢true (sym (ap not m) ∙ h))

at_one : (e q : Bool) (r : ℕ) → (e ≡ false → q ≡ true) → nat_eq r 19 ≡ q → (e && nat_lt r 1) ≡ nat_lt r 1
at_one true q r f h = refl
at_one false q r f h = sym (below_one r (h ∙ f refl))
  where
    below_one : (r : ℕ) → nat_eq r 19 ≡ true → nat_lt r 1 ≡ false
    below_one r e = grind (arith, nat_tests)

argument_most : (c : Nonterminal) (k : Kind) (cs : Forest) → c ≡ Argument → may_stand Argument (node k cs) ≡ true → expr_kind k ≡ false → nat_eq (kind_rank k) 19 ≡ true
argument_most c k cs is m e =
    or_most (expr_kind k) (nat_eq (kind_rank k) 19) (in_homes Argument (homes k)) (in_homes ArrayItem (homes k)) (in_homes ForInit (homes k)) 0 (rank_most k)
    (or_left (in_homes Argument (homes k)) _ (⊎_elim (λ p. absurd (false≢true (sym e ∙ p))) (λ p. p) (or_cases (expr_kind k) (in_homes Argument (homes k)) m)))
    (λ t. false≢true (sym e ∙ t))

item_most : (k : Kind) (cs : Forest) → may_stand ArrayItem (node k cs) ≡ true → expr_kind k ≡ false → nat_eq (kind_rank k) 19 ≡ true
item_most k cs m e =
    or_most (expr_kind k) (nat_eq (kind_rank k) 19) (in_homes Argument (homes k)) (in_homes ArrayItem (homes k)) (in_homes ForInit (homes k)) 0 (rank_most k)
    (or_right (in_homes Argument (homes k)) _ (or_left (in_homes ArrayItem (homes k)) _ (⊎_elim (λ p. absurd (false≢true (sym e ∙ p))) (λ p. p) (or_cases (expr_kind k) (in_homes ArrayItem (homes k)) m))))
    (λ t. false≢true (sym e ∙ t))

wants_level : (c : Nonterminal) (k : Kind) (cs : Forest) → asks c ≡ true → front c ≡ true → at_17 c ≡ true → is_new c ≡ false → may_stand c (node k cs) ≡ true → loose_slots (positions k) cs ≡ true → wants c [] (node k (dresses (positions k) cs)) ≡ low (place_at c []) (rank (node k cs))
wants_level c k cs a f l n m h =
    wanted_node c k (dresses (positions k) cs) a l n (new_shaped k cs h) ∙ (ap (λ v. v && low (place_at c []) (kind_rank k)) (may_expr c k cs a f m) ∙ ap (low (place_at c [])) (sym (rank_node k cs)))

wants_node : (c : Nonterminal) (k : Kind) (cs : Forest) → asks c ≡ true → at_17 c ≡ true → may_stand c (node k cs) ≡ true → loose_slots (positions k) cs ≡ true → Wants c [] (place_at c []) (node k cs)
wants_node (Expr n) k cs a l m h = wants_level (Expr n) k cs refl refl l refl m h ∙ sym (or-false _)
wants_node MemberObject k cs a l m h = wants_level MemberObject k cs refl refl refl refl m h ∙ sym (or-false _)
wants_node DotObject k cs a l m h = wants_level DotObject k cs refl refl refl refl m h ∙ sym (or-false _)
wants_node NullishLeft k cs a l m h = wants_level NullishLeft k cs refl refl refl refl m h ∙ sym (or-false _)
wants_node NewCallee k cs a l m h = callee_node k cs m h ∙ ap (λ r. nat_lt r 18 || calls (node k cs)) (sym (rank_node k cs))
wants_node Argument k cs a l m h =
    wanted_node Argument k (dresses (positions k) cs) refl refl refl (new_shaped k cs h)
    ∙ (at_one (expr_kind k) (nat_eq (kind_rank k) 19) (kind_rank k) (argument_most Argument k cs refl m) refl
    ∙ (ap (λ r. nat_lt r 1) (sym (rank_node k cs)) ∙ sym (or-false _)))
wants_node ArrayItem k cs a l m h =
    wanted_node ArrayItem k (dresses (positions k) cs) refl refl refl (new_shaped k cs h)
    ∙ (at_one (expr_kind k) (nat_eq (kind_rank k) 19) (kind_rank k) (item_most k cs m) refl
    ∙ (ap (λ r. nat_lt r 1) (sym (rank_node k cs)) ∙ sym (or-false _)))
wants_node ForInit k cs a l m h =
    wanted_node ForInit k (dresses (positions k) cs) refl refl refl (new_shaped k cs h)
    ∙ (and_no (expr_kind k) (nat_lt (kind_rank k) 0) (not_0 (kind_rank k)) ∙ (sym (not_0 (rank (node k cs))) ∙ sym (or-false _)))
wants_node c k cs a l m h = absurd (false≢true a)

wants_asked : (c : Nonterminal) (v : Bool) → asks c ≡ v → at_17 c ≡ true → (t : Tree) → may_stand c t ≡ true → loose c t ≡ true → Wants c [] (place_at c []) t
wants_asked c false a l t m h = wants_quiet c t a
wants_asked c true a l (leaf s x) m h = wants_leaf c s x (leaf_in (Expr 0) s x) refl a l ∙ (leaf_lacks c s x ∙ ap (λ v. v || lacks (place_at c []) (leaf s x)) (sym (leaf_low c l)))
wants_asked c true a l (node k cs) m h = wants_node c k cs a l m (and_parts (is_no_jsx k) (loose_slots (positions k) cs) h).1
wants_asked c true a l (list ts) m h = absurd (⊎_elim (λ p. false≢true (and_parts (asks c) false p).1) (λ p. false≢true p) (or_cases (asks c && false) false m))

-- where nothing may not come first
pub dues_plain : (c : Nonterminal) → at_17 c ≡ true → Dues c [] (place_at c [])
dues_plain c l = dues_of c [] (place_at c []) (wants_asked c (asks c) refl l)

-- ---- where something may not come first

guarded_or : (a b v : Bool) → (not a || (v || b)) ≡ ((not a || (false || b)) || v)
guarded_or true true true = refl
guarded_or true true false = refl
guarded_or true false true = refl
guarded_or true false false = refl
guarded_or false b v = refl

-- by the same text and the level
wants_guarded : (n : ℕ) (g : List Text) (t : Tree) → is_expression (dressed t) ≡ true → wants (Expr n) g (dressed t) ≡ (wants (Expr n) [] (dressed t) || among (first_token (spelled (dressed t))) g)
wants_guarded n g t e =
    ap (λ b. b && (not (admits (Expr n) (as_laid (dressed t))) || (among (first_token (spelled (dressed t))) g || is_dotted_number (Expr n) (dressed t)))) e
    ∙ (guarded_or (admits (Expr n) (as_laid (dressed t))) (is_dotted_number (Expr n) (dressed t)) (among (first_token (spelled (dressed t))) g)
    ∙ ap (λ b. (b && (not (admits (Expr n) (as_laid (dressed t))) || (false || is_dotted_number (Expr n) (dressed t)))) || among (first_token (spelled (dressed t))) g) (sym e))

dressed_expr : (n : ℕ) (t : Tree) → may_stand (Expr n) t ≡ true → is_expression (dressed t) ≡ true
dressed_expr n (leaf s x) m = ⊎_elim (λ p. p) (λ p. leaf_expr n s x p) (or_cases (leaf_in (Expr 0) s x) (leaf_in (Expr n) s x) m)
  where
    leaf_expr : (n : ℕ) (s : TokenKind) (x : Text) → leaf_in (Expr n) s x ≡ true → leaf_in (Expr 0) s x ≡ true
    leaf_expr n IdentifierName x h = (and_parts (nat_le n 18) _ h).1
    leaf_expr n JsxName x h = absurd (false≢true h)
    leaf_expr n s x h = in_expr n (literal_homes s) h
dressed_expr n (node k cs) m = may_expr (Expr n) k cs refl refl m
dressed_expr n (list ts) m = absurd (false≢true m)

-- what a dressed expression begins with, by its opening
first_text : (n : ℕ) (t : Tree) → nat_le n 17 ≡ true → may_stand (Expr n) t ≡ true → loose (Expr n) t ≡ true → opening_text (first_token (spelled (dressed t))) ≡ opening t
first_text n (leaf s x) l m h =
    let o = leaf_opens (Expr n) s x refl l m h in ap opening_text (starts_are (leaf s x) o.0) ∙ o.1
first_text n (node k cs) l m h =
    let q = and_parts (is_no_jsx k) (loose_slots (positions k) cs) h in
    let o = opens k cs (may_expr (Expr n) k cs refl refl m) q.0 q.1 in
    ap opening_text (starts_are (node k (dresses (positions k) cs)) o.0) ∙ o.1
first_text n (list ts) l m h = absurd (false≢true m)

guarded_wants : (n : ℕ) (g : List Text) (p : Place) → nat_le n 17 ≡ true → ((r : ℕ) → low p r ≡ nat_lt r n) → ((t : Tree) → lacks p t ≡ bars p (opening t)) → ((x : Text) → among x g ≡ bars p (opening_text x)) → (t : Tree) → may_stand (Expr n) t ≡ true → loose (Expr n) t ≡ true → Wants (Expr n) g p t
guarded_wants n g p l low_is lacks_is text_is t m h =
    wants_guarded n g t (dressed_expr n t m)
    ∙ (ap (λ v. v || among (first_token (spelled (dressed t))) g) (wants_asked (Expr n) true refl l t m h ∙ or-false (nat_lt (rank t) n))
    ∙ (ap (λ v. nat_lt (rank t) n || v) (text_is (first_token (spelled (dressed t))) ∙ ap (bars p) (first_text n t l m h))
    ∙ (ap (λ v. v || bars p (opening t)) (sym (low_is (rank t))) ∙ ap (λ v. low p (rank t) || v) (sym (lacks_is t)))))

pub dues_statement : Dues (Expr 0) heads place.Statement
dues_statement = dues_of (Expr 0) heads place.Statement (guarded_wants 0 heads place.Statement refl (λ r. sym (not_0 r)) (λ t. refl) statement_text)

pub dues_default : Dues (Expr 1) (codes "function" ∷ codes "class" ∷ []) place.Default
dues_default = dues_of (Expr 1) (codes "function" ∷ codes "class" ∷ []) place.Default (guarded_wants 1 (codes "function" ∷ codes "class" ∷ []) place.Default refl (λ r. refl) (λ t. refl) default_text)

pub dues_arrow : Dues (Expr 1) (codes "{" ∷ []) place.ArrowBody
dues_arrow = dues_of (Expr 1) (codes "{" ∷ []) place.ArrowBody (guarded_wants 1 (codes "{" ∷ []) place.ArrowBody refl (λ r. refl) (λ t. refl) arrow_text)
