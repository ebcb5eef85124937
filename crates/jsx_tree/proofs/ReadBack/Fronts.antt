-- What each sound tree begins with.
use Rattle.std.proofs.Common.{◌≡◌, List, [], ◌∷◌, ◌++◌, Bool, true, false, not, ◌||◌, ◌&&◌, codes, refl, sym, ap, ◌∙◌, subst, ⊎_elim, ◌⊎◌, inl, inr}
use Rattle.std.specs.Prelude.{ℕ, nat_eq, nat_le}
use Rattle.std.proofs.lemmas.Bool.{false≢true, and_parts, and_from, or_parts, or_cases, eqb-true, false_from_ne_true, not-true, not_from_false, and_right}
use Rattle.jsx_base.specs.Token.{Text, Mode, Operand, Operator, TokenKind, IdentifierName, Punctuator, NumericLiteral, BigIntLiteral, StringLiteral, RegExpLiteral, NoSubstitution, TemplateHead, TemplateMiddle, TemplateTail, JsxName, JsxString, JsxText, Elision, NoToken, among, same, is_one_of, is_code, is_digit, is_start, first_is}
use Rattle.jsx_tree.specs.Signs.{Sign, Tok, Semicolon, TrailingComma, Unless, SameLine, Ends, Space, Pad, Line, Indent, Outdent, Unindent, Apart, Begin, Count, One, End}
use Rattle.jsx_tree.specs.Kinds.{Binds, Assigns, Kind, program, Module, Script, FunctionBody, Tree, leaf, node, list, Forest, none, part}
use Rattle.jsx_tree.specs.Nonterminals.{Nonterminal, Expr, MemberObject, DotObject, SimpleTarget, Ident, BindingIdent, StringOnly, Pat, NullishLeft, NewCallee, TemplateOf, TemplatePart, ChainLink, Name, ArrayItem, Slot, Body, Stmt, Item, DirectiveOnly, CaseClause, BlockOnly, in_homes, homes, literal_homes, leaf_in, is_value_word}
use Rattle.jsx_tree.specs.Layout.{first_char}
use Rattle.jsx_tree.specs.Spelling.{said, saids, each_said, joined, walk, gathered, between}
use Rattle.jsx_tree.specs.Form.{is_leaf, Single, Several, last_only, positions}
use Rattle.jsx_tree.specs.Fits.{is_solid, is_plain}
use Rattle.jsx_tree.specs.Grammar.{Fixed, Part, Optional, Many, Within, Lines, TwoOrMore, Production, production}
use Rattle.jsx_base.proofs.Longest.{same_is}
use Rattle.jsx_tree.proofs.ReadBack.Joins.{Token, Ahead, at_once, sign_ahead, ahead}
use Rattle.jsx_tree.proofs.ReadBack.RowChecks.{is_starter, is_tagged, is_linked, is_name_place, is_quoted, elseless, frontal, is_later, is_body, holes, sound, sounds, sound_each, is_formed, rowed, Asks, asks_none, token_opens, part_opens, signs_open, row_opens, is_loose, is_keyed, is_body_kind, part_words}
use Rattle.jsx_tree.proofs.ReadBack.Leaves.{slash_first, no_sign, name_starts, piece_starts, start_no_digit}
use Rattle.jsx_tree.proofs.ReadBack.NextTokens.{ahead_append, Opens}
use Rattle.jsx_tree.proofs.ReadBack.NextInRow.{Front, LineFront, Fronts, TreeFront, FrontOf, FrontsOf, front_at}
use Rattle.jsx_tree.proofs.ReadBack.Rows.{append_signs}
use Rattle.jsx_tree.proofs.ReadBack.Nodes.{SoundNode, sound_node, Facts, facts}
use Rattle.jsx_tree.proofs.ReadBack.Keys.{no_keyed}
use Rattle.jsx_tree.proofs.ReadBack.RowTable.{all_opens}
use Rattle.jsx_tree.proofs.ReadBack.Trees.{SoundLeaf, sound_leaf, rowed_of}
use Rattle.jsx_tree.proofs.ReadBack.Basics.{clash}

-- ---- leaves

-- no place of a hole or a later piece takes another leaf, and no place of a body takes any
later_leaf : (c : Nonterminal) (s : TokenKind) (x : Text) → is_later c ≡ true → leaf_in c s x ≡ true → is_solid s ≡ true → (s ≡ TemplateMiddle) ⊎ (s ≡ TemplateTail)
later_leaf (TemplatePart TemplateMiddle) TemplateMiddle x i h l = inl refl
later_leaf (TemplatePart TemplateTail) TemplateTail x i h l = inr refl
later_leaf (TemplatePart TemplateMiddle) JsxName x i h l = absurd (false≢true l)
later_leaf (TemplatePart TemplateTail) JsxName x i h l = absurd (false≢true l)
later_leaf (TemplatePart TemplateMiddle) _ x i h l = absurd (false≢true h)
later_leaf (TemplatePart TemplateTail) _ x i h l = absurd (false≢true h)
later_leaf _ s x i h l = absurd (false≢true i)

body_leaf : (c : Nonterminal) (s : TokenKind) (x : Text) → is_body c ≡ true → leaf_in c s x ≡ true → is_solid s ≡ true → ⊥
body_leaf Body JsxName x i h l = false≢true l
body_leaf Body _ x i h l = false≢true h
body_leaf _ s x i h l = false≢true i

no_tagged : (c : Nonterminal) (s : TokenKind) (x : Text) → is_tagged c ≡ true → leaf_in c s x ≡ true → is_solid s ≡ true → ⊥
no_tagged TemplateOf JsxName x i h l = false≢true l
no_tagged TemplateOf _ x i h l = false≢true h
no_tagged _ s x i h l = false≢true i

no_linked : (c : Nonterminal) (s : TokenKind) (x : Text) → is_linked c ≡ true → leaf_in c s x ≡ true → is_solid s ≡ true → ⊥
no_linked ChainLink JsxName x i h l = false≢true l
no_linked ChainLink _ x i h l = false≢true h
no_linked _ s x i h l = false≢true i

named_leaf : (c : Nonterminal) (s : TokenKind) (x : Text) → is_name_place c ≡ true → leaf_in c s x ≡ true → is_solid s ≡ true → s ≡ IdentifierName
named_leaf Name IdentifierName x i h l = refl
named_leaf Name JsxName x i h l = absurd (false≢true l)
named_leaf Name _ x i h l = absurd (false≢true h)
named_leaf _ s x i h l = absurd (false≢true i)

quoted_leaf : (c : Nonterminal) (s : TokenKind) (x : Text) → is_quoted c ≡ true → leaf_in c s x ≡ true → is_solid s ≡ true → (s ≡ NoSubstitution) ⊎ (s ≡ TemplateHead)
quoted_leaf (TemplatePart NoSubstitution) NoSubstitution x i h l = inl refl
quoted_leaf (TemplatePart TemplateHead) TemplateHead x i h l = inr refl
quoted_leaf (TemplatePart NoSubstitution) JsxName x i h l = absurd (false≢true l)
quoted_leaf (TemplatePart TemplateHead) JsxName x i h l = absurd (false≢true l)
quoted_leaf (TemplatePart NoSubstitution) _ x i h l = absurd (false≢true h)
quoted_leaf (TemplatePart TemplateHead) _ x i h l = absurd (false≢true h)
quoted_leaf _ s x i h l = absurd (false≢true i)

-- none of the words stands at a place
abbrev wordless : Nonterminal → List Text → Bool
wordless c [] = true
wordless c (t ∷ ts) = not (leaf_in c IdentifierName t) && wordless c ts

no_words : (c : Nonterminal) → elseless c ≡ true → wordless c part_words ≡ true
no_words (Expr n) h = and_from _ _ (no_value n (codes "else") refl) (and_from _ _ (no_value n (codes "catch") refl) (and_from _ true (no_value n (codes "finally") refl) refl))
  where
    no_value : (n : ℕ) (t : Text) → is_value_word t ≡ false → not (nat_le n 18 && is_value_word t) ≡ true
    no_value n t h = not_from_false _ (and_right (nat_le n 18) (is_value_word t) h)
no_words MemberObject h = refl
no_words DotObject h = refl
no_words SimpleTarget h = refl
no_words Ident h = refl
no_words BindingIdent h = refl
no_words StringOnly h = refl
no_words (Pat r) h = refl
no_words NullishLeft h = refl
no_words NewCallee h = refl
no_words (TemplatePart NoSubstitution) h = refl
no_words (TemplatePart TemplateHead) h = refl
no_words Stmt h = refl
no_words Item h = refl
no_words DirectiveOnly h = refl
no_words CaseClause h = refl
no_words BlockOnly h = refl
no_words _ h = absurd (false≢true h)

word_of : (c : Nonterminal) (ts : List Text) (w : Text) → wordless c ts ≡ true → among w ts ≡ true → leaf_in c IdentifierName w ≡ false
word_of c [] w n h = absurd (false≢true h)
word_of c (t ∷ ts) w n h =
    let a = and_parts (not (leaf_in c IdentifierName t)) (wordless c ts) n in
    ⊎_elim (λ (e : same w t ≡ true). subst (λ y. leaf_in c IdentifierName y ≡ false) (sym (same_is w t e)) (not-true _ a.0)) (λ (e : among w ts ≡ true). word_of c ts w a.1 e) (or_cases (same w t) (among w ts) h)

part_word : (c : Nonterminal) → elseless c ≡ true → (w : Text) → among w part_words ≡ true → leaf_in c IdentifierName w ≡ true → ⊥
part_word c e w z h = clash _ h (word_of c part_words w (no_words c e) z)

-- a word is no leaf of another kind
abbrev any_leaf : TokenKind → List Text → Bool
any_leaf s [] = false
any_leaf s (t ∷ ts) = is_leaf s t || any_leaf s ts

no_leaf : (s : TokenKind) (w : Text) (ts : List Text) → any_leaf s ts ≡ false → among w ts ≡ true → is_leaf s w ≡ true → ⊥
no_leaf s w [] n h i = false≢true h
no_leaf s w (t ∷ ts) n h i =
    let a = or_parts (is_leaf s t) (any_leaf s ts) n in
    ⊎_elim (λ (e : same w t ≡ true). clash (is_leaf s t) (subst (λ y. is_leaf s y ≡ true) (same_is w t e) i) a.0) (λ (e : among w ts ≡ true). no_leaf s w ts a.1 e i) (or_cases (same w t) (among w ts) h)

-- what `frontal` says
record Frontal (c : Nonterminal) : Type 0 where
  pub no_body : in_homes c (homes (program FunctionBody)) ≡ false
  pub no_program : in_homes c (homes (program Module)) ≡ false
  pub no_elision : in_homes c (literal_homes Elision) ≡ false
  pub no_middle : in_homes c (literal_homes TemplateMiddle) ≡ false
  pub no_tail : in_homes c (literal_homes TemplateTail) ≡ false

frontal_of : (c : Nonterminal) → frontal c ≡ true → Frontal c
frontal_of c h =
    let a = not (in_homes c (homes (program FunctionBody))) in
    let b = not (in_homes c (homes (program Module))) in
    let d = not (in_homes c (literal_homes Elision)) in
    let e = not (in_homes c (literal_homes TemplateMiddle)) in
    let f = not (in_homes c (literal_homes TemplateTail)) in
    let p = and_parts a (b && (d && (e && f))) h in
    let q = and_parts b (d && (e && f)) p.1 in
    let r = and_parts d (e && f) q.1 in
    let s = and_parts e f r.1 in
    record { no_body = not-true _ p.0; no_program = not-true _ q.0; no_elision = not-true _ r.0; no_middle = not-true _ s.0; no_tail = not-true _ s.1 }

no_middle_home : (c : Nonterminal) → frontal c ≡ true → in_homes c (literal_homes TemplateMiddle) ≡ false
no_middle_home c h = (frontal_of c h).no_middle

no_tail_home : (c : Nonterminal) → frontal c ≡ true → in_homes c (literal_homes TemplateTail) ≡ false
no_tail_home c h = (frontal_of c h).no_tail

no_elision_home : (c : Nonterminal) → frontal c ≡ true → in_homes c (literal_homes Elision) ≡ false
no_elision_home c h = (frontal_of c h).no_elision

hole_middle : (c : Nonterminal) (x : Text) → holes c ≡ true → leaf_in c TemplateMiddle x ≡ true → ⊥
hole_middle ArrayItem x i h = false≢true h
hole_middle (Slot Binds) x i h = false≢true h
hole_middle (Slot Assigns) x i h = false≢true h
hole_middle _ x i h = false≢true i

hole_tail : (c : Nonterminal) (x : Text) → holes c ≡ true → leaf_in c TemplateTail x ≡ true → ⊥
hole_tail ArrayItem x i h = false≢true h
hole_tail (Slot Binds) x i h = false≢true h
hole_tail (Slot Assigns) x i h = false≢true h
hole_tail _ x i h = false≢true i

abbrev NoWord : TokenKind → Nonterminal → Type 0
NoWord s c = elseless c ≡ true → (w : Text) → among w part_words ≡ true → leaf_in c s w ≡ true → is_leaf s w ≡ true → ⊥

-- a leaf of code
leaf_opens : (c : Nonterminal) (s : TokenKind) (m : Mode) (x : Text) → is_code m ≡ true → SoundLeaf c s x → is_one_of (first_char x) (codes "=>") ≡ false → ((s ≡ NoSubstitution) ⊎ (s ≡ TemplateHead) → nat_eq (first_char x) 96 ≡ true)
    → (s ≡ IdentifierName → (is_digit (first_char x) ≡ false) × (nat_eq (first_char x) 46 ≡ false)) → NoWord s c → Opens c m x
leaf_opens c s m x k l n q w e = record {
  code = k;
  starter = not_from_false _ n;
  back = λ i. absurd (no_tagged c s x i l.home l.solid);
  link = λ i. absurd (no_linked c s x i l.home l.solid);
  lined = λ i. false_from_ne_true (among x part_words) (λ z. e i x z l.home l.whole);
  named = λ i. w (named_leaf c s x i l.home l.solid);
  quoted = λ i. q (quoted_leaf c s x i l.home l.solid);
}

leaf_front : (c : Nonterminal) (s : TokenKind) (m : Mode) (x : Text) → ((w : Ahead) → ahead (joined (said (leaf s x))) w ≡ at_once (Token m s x)) → Opens c m x → Front c (leaf s x)
leaf_front c s m x v o = record { mode = m; kind = s; text = x; view = v; opens = o }

-- a leaf that isn't a hole or a later piece
plain_fronts : (c : Nonterminal) (s : TokenKind) (x : Text) → SoundLeaf c s x → (s ≡ TemplateMiddle → ⊥) → (s ≡ TemplateTail → ⊥) → Front c (leaf s x) → Fronts c (leaf s x)
plain_fronts c s x l m t f = record {
  front = λ _. f;
  later = λ i. absurd (⊎_elim m t (later_leaf c s x i l.home l.solid));
  hole = λ _. inr f;
  body = λ i. absurd (body_leaf c s x i l.home l.solid);
}

word_first : (x : Text) → first_is is_start x ≡ true → (is_digit (first_char x) ≡ false) × (nat_eq (first_char x) 46 ≡ false)
word_first [] h = absurd (false≢true h)
word_first (c ∷ x) h = (start_no_digit c h, false_from_ne_true (nat_eq c 46) (λ e. clash (is_start c) h (subst (λ y. is_start y ≡ false) (sym (eqb-true c 46 e)) refl)))

slash_sign : (x : Text) → first_is (λ c. nat_eq c 47) x ≡ true → is_one_of (first_char x) (codes "=>") ≡ false
slash_sign [] h = absurd (false≢true h)
slash_sign (c ∷ x) h = subst (λ y. is_one_of y (codes "=>") ≡ false) (sym (eqb-true c 47 h)) refl

leaf_fronts : (s : TokenKind) (x : Text) (c : Nonterminal) → SoundLeaf c s x → Fronts c (leaf s x)
leaf_fronts IdentifierName x c l =
    plain_fronts c IdentifierName x l (λ e. cc) (λ e. cc)
    (leaf_front c IdentifierName Operator x (λ w. refl) (leaf_opens c IdentifierName Operator x refl l (no_sign IdentifierName x (λ e. cc) (λ e. cc) l.whole) (λ q. absurd (⊎_elim (λ (e : IdentifierName ≡ NoSubstitution). cc) (λ (e : IdentifierName ≡ TemplateHead). cc) q)) (λ _. word_first x (name_starts x l.whole)) (λ e w z h i. part_word c e w z h)))
leaf_fronts NumericLiteral x c l =
    plain_fronts c NumericLiteral x l (λ e. cc) (λ e. cc)
    (leaf_front c NumericLiteral Operator x (λ w. refl) (leaf_opens c NumericLiteral Operator x refl l (no_sign NumericLiteral x (λ e. cc) (λ e. cc) l.whole) (λ q. absurd (⊎_elim (λ (e : NumericLiteral ≡ NoSubstitution). cc) (λ (e : NumericLiteral ≡ TemplateHead). cc) q)) (λ e. cc) (λ e w z h i. no_leaf NumericLiteral w part_words refl z i)))
leaf_fronts BigIntLiteral x c l =
    plain_fronts c BigIntLiteral x l (λ e. cc) (λ e. cc)
    (leaf_front c BigIntLiteral Operator x (λ w. refl) (leaf_opens c BigIntLiteral Operator x refl l (no_sign BigIntLiteral x (λ e. cc) (λ e. cc) l.whole) (λ q. absurd (⊎_elim (λ (e : BigIntLiteral ≡ NoSubstitution). cc) (λ (e : BigIntLiteral ≡ TemplateHead). cc) q)) (λ e. cc) (λ e w z h i. no_leaf BigIntLiteral w part_words refl z i)))
leaf_fronts StringLiteral x c l =
    plain_fronts c StringLiteral x l (λ e. cc) (λ e. cc)
    (leaf_front c StringLiteral Operator x (λ w. refl) (leaf_opens c StringLiteral Operator x refl l (no_sign StringLiteral x (λ e. cc) (λ e. cc) l.whole) (λ q. absurd (⊎_elim (λ (e : StringLiteral ≡ NoSubstitution). cc) (λ (e : StringLiteral ≡ TemplateHead). cc) q)) (λ e. cc) (λ e w z h i. no_leaf StringLiteral w part_words refl z i)))
leaf_fronts RegExpLiteral x c l =
    plain_fronts c RegExpLiteral x l (λ e. cc) (λ e. cc)
    (leaf_front c RegExpLiteral Operand x (λ w. refl) (leaf_opens c RegExpLiteral Operand x refl l (slash_sign x (slash_first x l.whole)) (λ q. absurd (⊎_elim (λ (e : RegExpLiteral ≡ NoSubstitution). cc) (λ (e : RegExpLiteral ≡ TemplateHead). cc) q)) (λ e. cc) (λ e w z h i. no_leaf RegExpLiteral w part_words refl z i)))
leaf_fronts NoSubstitution x c l =
    plain_fronts c NoSubstitution x l (λ e. cc) (λ e. cc)
    (leaf_front c NoSubstitution Operator x (λ w. refl) (leaf_opens c NoSubstitution Operator x refl l (no_sign NoSubstitution x (λ e. cc) (λ e. cc) l.whole) (λ _. piece_starts NoSubstitution x (λ e. cc) (λ e. cc) refl refl refl refl refl refl l.whole) (λ e. cc) (λ e w z h i. no_leaf NoSubstitution w part_words refl z i)))
leaf_fronts TemplateHead x c l =
    plain_fronts c TemplateHead x l (λ e. cc) (λ e. cc)
    (leaf_front c TemplateHead Operator x (λ w. refl) (leaf_opens c TemplateHead Operator x refl l (no_sign TemplateHead x (λ e. cc) (λ e. cc) l.whole) (λ _. piece_starts TemplateHead x (λ e. cc) (λ e. cc) refl refl refl refl refl refl l.whole) (λ e. cc) (λ e w z h i. no_leaf TemplateHead w part_words refl z i)))
leaf_fronts TemplateMiddle x c l = record {
  front = λ f. clash _ l.home (no_middle_home c f);
  later = λ _. record { kind = TemplateMiddle; text = x; view = λ w. refl };
  hole = λ i. absurd (hole_middle c x i l.home);
  body = λ i. absurd (body_leaf c TemplateMiddle x i l.home refl);
}
leaf_fronts TemplateTail x c l = record {
  front = λ f. clash _ l.home (no_tail_home c f);
  later = λ _. record { kind = TemplateTail; text = x; view = λ w. refl };
  hole = λ i. absurd (hole_tail c x i l.home);
  body = λ i. absurd (body_leaf c TemplateTail x i l.home refl);
}
leaf_fronts Elision x c l = record {
  front = λ f. clash _ l.home (no_elision_home c f);
  later = λ i. absurd (⊎_elim (λ (e : Elision ≡ TemplateMiddle). cc) (λ (e : Elision ≡ TemplateTail). cc) (later_leaf c Elision x i l.home refl));
  hole = λ _. inl refl;
  body = λ i. absurd (body_leaf c Elision x i l.home refl);
}
leaf_fronts Punctuator x c l = absurd (false≢true l.solid)
leaf_fronts JsxName x c l = absurd (false≢true l.solid)
leaf_fronts JsxString x c l = absurd (false≢true l.solid)
leaf_fronts JsxText x c l = absurd (false≢true l.solid)
leaf_fronts NoToken x c l = absurd (false≢true l.solid)

-- ---- rows

record RowFront (f : Asks) (view_of : Ahead → Ahead) : Type 0 where
  pub mode : Mode
  pub kind : TokenKind
  pub text : Text
  pub view : (w : Ahead) → view_of w ≡ at_once (Token mode kind text)
  pub code : is_code mode ≡ true
  pub starter : is_starter (first_char text) ≡ true
  pub tagged : f.tagged ≡ true → nat_eq (first_char text) 96 ≡ true
  pub linked : f.linked ≡ true → is_one_of (first_char text) (codes "?.[(") ≡ true
  pub lined : f.lined ≡ true → among text part_words ≡ false

imp : (a b : Bool) → (not a || b) ≡ true → a ≡ true → b ≡ true
imp true b h e = h
imp false b h e = absurd (false≢true e)

token_front : (f : Asks) (m : Mode) (s : TokenKind) (t : Text) (k : List Sign) → token_opens f m t ≡ true → RowFront f (λ w. ahead (Tok m s t ∷ k) w)
token_front f m s t k h =
    let x1 = not f.tagged || nat_eq (first_char t) 96 in
    let x2 = not f.linked || is_one_of (first_char t) (codes "?.[(") in
    let x3 = not f.lined || not (among t part_words) in
    let a = and_parts (is_code m && is_starter (first_char t)) (x1 && (x2 && x3)) h in
    let b = and_parts (is_code m) (is_starter (first_char t)) a.0 in
    let c = and_parts x1 (x2 && x3) a.1 in
    let d = and_parts x2 x3 c.1 in
    record { mode = m; kind = s; text = t; view = λ w. refl; code = b.0; starter = b.1; tagged = imp _ _ c.0; linked = imp _ _ d.0; lined = λ e. not-true _ (imp _ _ d.1 e) }

part_front : (f : Asks) (c : Nonterminal) (t : Tree) (k : List Sign) → Fronts c t → part_opens f c ≡ true → RowFront f (λ w. ahead (joined (said t) ++ k) w)
part_front f c t k r h =
    let x1 = not f.tagged || is_quoted c in
    let x2 = not f.linked || is_linked c in
    let x3 = not f.lined || elseless c in
    let a = and_parts (frontal c) (x1 && (x2 && x3)) h in
    let b = and_parts x1 (x2 && x3) a.1 in
    let d = and_parts x2 x3 b.1 in
    let q : Front c t = r.front a.0 in
    record {
      mode = q.mode;
      kind = q.kind;
      text = q.text;
      view = λ w. ahead_append (joined (said t)) k w ∙ q.view (ahead k w);
      code = q.opens.code;
      starter = q.opens.starter;
      tagged = λ e. q.opens.quoted (imp _ _ b.0 e);
      linked = λ e. q.opens.link (imp _ _ d.0 e);
      lined = λ e. q.opens.lined (imp _ _ d.1 e);
    }

signs_front : (f : Asks) (a k : List Sign) → signs_open f a ≡ true → RowFront f (λ w. ahead (a ++ k) w)
signs_front f (Tok m s t ∷ ms) k h = token_front f m s t (ms ++ k) h
signs_front f [] k h = absurd (false≢true h)
signs_front f (Semicolon ∷ ms) k h = absurd (false≢true h)
signs_front f (TrailingComma ∷ ms) k h = absurd (false≢true h)
signs_front f (Unless ts ∷ ms) k h = absurd (false≢true h)
signs_front f (SameLine ∷ ms) k h = absurd (false≢true h)
signs_front f (Ends e ∷ ms) k h = absurd (false≢true h)
signs_front f (Space ∷ ms) k h = absurd (false≢true h)
signs_front f (Pad ∷ ms) k h = absurd (false≢true h)
signs_front f (Line ∷ ms) k h = absurd (false≢true h)
signs_front f (Indent ∷ ms) k h = absurd (false≢true h)
signs_front f (Outdent ∷ ms) k h = absurd (false≢true h)
signs_front f (Unindent ∷ ms) k h = absurd (false≢true h)
signs_front f (Apart ∷ ms) k h = absurd (false≢true h)
signs_front f (Begin ∷ ms) k h = absurd (false≢true h)
signs_front f (Count ∷ ms) k h = absurd (false≢true h)
signs_front f (One ∷ ms) k h = absurd (false≢true h)
signs_front f (End ∷ ms) k h = absurd (false≢true h)

-- the same view, of signs put together otherwise
same_front : (f : Asks) (x y : List Sign) → x ≡ y → RowFront f (λ w. ahead y w) → RowFront f (λ w. ahead x w)
same_front f x y e r = subst (λ z. RowFront f (λ w. ahead z w)) (sym e) r

row_front : (f : Asks) (ps : Production) (cs : Forest) (g : List Text) → rowed g ps cs ≡ true → FrontsOf cs → row_opens f ps ≡ true → RowFront f (λ w. ahead (walk ps (saids cs)) w)
row_front f [] cs g r q h = absurd (false≢true h)
row_front f (Fixed (Tok m s t) ∷ ps) cs g r q h = token_front f m s t (walk ps (saids cs)) h
row_front f (Fixed Count ∷ ps) cs g r q h = row_front f ps cs g r q h
row_front f (Fixed One ∷ ps) cs g r q h = row_front f ps cs g r q h
row_front f (Fixed Begin ∷ ps) cs g r q h = row_front f ps cs g r q h
row_front f (Fixed (Unless ts) ∷ ps) cs g r q h = row_front f ps cs ts r q h
row_front f (Fixed Semicolon ∷ ps) cs g r q h = absurd (false≢true h)
row_front f (Fixed TrailingComma ∷ ps) cs g r q h = absurd (false≢true h)
row_front f (Fixed SameLine ∷ ps) cs g r q h = absurd (false≢true h)
row_front f (Fixed (Ends e) ∷ ps) cs g r q h = absurd (false≢true h)
row_front f (Fixed Space ∷ ps) cs g r q h = absurd (false≢true h)
row_front f (Fixed Pad ∷ ps) cs g r q h = absurd (false≢true h)
row_front f (Fixed Line ∷ ps) cs g r q h = absurd (false≢true h)
row_front f (Fixed Indent ∷ ps) cs g r q h = absurd (false≢true h)
row_front f (Fixed Outdent ∷ ps) cs g r q h = absurd (false≢true h)
row_front f (Fixed Unindent ∷ ps) cs g r q h = absurd (false≢true h)
row_front f (Fixed Apart ∷ ps) cs g r q h = absurd (false≢true h)
row_front f (Fixed End ∷ ps) cs g r q h = absurd (false≢true h)
row_front f (Within a ∷ ps) cs g r q h = row_front f ps cs g r q h
row_front f (Part c ∷ ps) none g r q h = absurd (false≢true r)
row_front f (Part c ∷ ps) (part t ts) g r q h =
    let a = and_parts (is_formed Single t) (sound c g t && rowed [] ps ts) r in
    let b = and_parts (sound c g t) (rowed [] ps ts) a.1 in
    part_front f c t (walk ps (saids ts)) (front_at c g t a.0 q.0 b.0) h
row_front f (Optional x c y s ∷ ps) none g r q h = absurd (false≢true r)
row_front f (Optional x c y s ∷ ps) (part (leaf k u) ts) g r q h = absurd (false≢true r)
row_front f (Optional x c y s ∷ ps) (part (node k cs) ts) g r q h = absurd (false≢true r)
row_front f (Optional x c y [] ∷ ps) (part (list none) ts) g r q h = row_front f ps ts [] r q.1 ((and_parts (signs_open f x) (row_opens f ps) h).1)
row_front f (Optional x c y (z ∷ zs) ∷ ps) (part (list none) ts) g r q h = row_front f ps ts [] r q.1 ((and_parts (signs_open f x) (row_opens f ps) h).1)
row_front f (Optional x c y [] ∷ ps) (part (list (part t us)) ts) g r q h =
    same_front f ((x ++ (joined (said t) ++ y)) ++ walk ps (saids ts)) (x ++ ((joined (said t) ++ y) ++ walk ps (saids ts))) (append_signs x (joined (said t) ++ y) (walk ps (saids ts)))
    (signs_front f x ((joined (said t) ++ y) ++ walk ps (saids ts)) ((and_parts (signs_open f x) (row_opens f ps) h).0))
row_front f (Optional x c y (z ∷ zs) ∷ ps) (part (list (part t us)) ts) g r q h =
    same_front f ((x ++ (joined (said t) ++ y)) ++ walk ps (saids ts)) (x ++ ((joined (said t) ++ y) ++ walk ps (saids ts))) (append_signs x (joined (said t) ++ y) (walk ps (saids ts)))
    (signs_front f x ((joined (said t) ++ y) ++ walk ps (saids ts)) ((and_parts (signs_open f x) (row_opens f ps) h).0))
row_front f (Many TwoOrMore c ∷ ps) none g r q h = absurd (false≢true r)
row_front f (Many TwoOrMore c ∷ ps) (part (leaf k u) ts) g r q h = absurd (false≢true r)
row_front f (Many TwoOrMore c ∷ ps) (part (node k cs) ts) g r q h = absurd (false≢true r)
row_front f (Many TwoOrMore c ∷ ps) (part (list none) ts) g r q h = absurd (false≢true r)
row_front f (Many TwoOrMore c ∷ ps) (part (list (part t none)) ts) g r q h = absurd (false≢true r)
row_front f (Many TwoOrMore c ∷ ps) (part (list (part t (part u us))) ts) g r q h =
    let a = and_parts (last_only (part t (part u us))) (sound_each c (part t (part u us)) && rowed [] ps ts) r in
    let b = and_parts (sound_each c (part t (part u us))) (rowed [] ps ts) a.1 in
    let d = and_parts (is_formed Single t) (sound c [] t && sound_each c (part u us)) b.0 in
    let e = and_parts (sound c [] t) (sound_each c (part u us)) d.1 in
    let k : List Sign = between TwoOrMore ++ gathered TwoOrMore (joined (said u) ∷ each_said us) in
    same_front f ((joined (said t) ++ k) ++ walk ps (saids ts)) (joined (said t) ++ (k ++ walk ps (saids ts))) (append_signs (joined (said t)) k (walk ps (saids ts))) (part_front f c t (k ++ walk ps (saids ts)) (front_at c [] t d.0 q.0.0 e.0) h)
row_front f (Many _ c ∷ ps) cs g r q h = absurd (false≢true h)

-- ---- nodes

-- what the table says of the first token
record Opening (k : Kind) : Type 0 where
  pub none_asked : (is_loose k || row_opens asks_none (production k)) ≡ true
  pub tagged : in_homes TemplateOf (homes k) ≡ true → row_opens (record asks_none { tagged = true }) (production k) ≡ true
  pub linked : in_homes ChainLink (homes k) ≡ true → row_opens (record asks_none { linked = true }) (production k) ≡ true
  pub lined : (is_loose k || (is_keyed k || row_opens (record asks_none { lined = true }) (production k))) ≡ true
  pub body : in_homes Body (homes k) ≡ true → is_body_kind k ≡ true

opening : (k : Kind) → is_plain k ≡ true → Opening k
opening k p =
    let x1 = is_loose k || row_opens asks_none (production k) in
    let x2 = not (in_homes TemplateOf (homes k)) || row_opens (record asks_none { tagged = true }) (production k) in
    let x3 = not (in_homes ChainLink (homes k)) || row_opens (record asks_none { linked = true }) (production k) in
    let x4 = is_loose k || (is_keyed k || row_opens (record asks_none { lined = true }) (production k)) in
    let x5 = not (in_homes Body (homes k)) || is_body_kind k in
    let a = and_parts x1 (x2 && (x3 && (x4 && x5))) (all_opens k p) in
    let b = and_parts x2 (x3 && (x4 && x5)) a.1 in
    let c = and_parts x3 (x4 && x5) b.1 in
    let d = and_parts x4 x5 c.1 in
    record { none_asked = a.0; tagged = imp _ _ b.0; linked = imp _ _ c.0; lined = d.0; body = imp _ _ d.1 }

abbrev asks_of : Nonterminal → Asks
asks_of c = record { tagged = is_tagged c; linked = is_linked c; lined = elseless c }

or_with : (a b : Bool) → a ≡ false → (a || b) ≡ true → b ≡ true
or_with true b e h = absurd (false≢true (sym e))
or_with false b e h = h

tagged_home : (c : Nonterminal) (k : Kind) → is_tagged c ≡ true → in_homes c (homes k) ≡ true → in_homes TemplateOf (homes k) ≡ true
tagged_home TemplateOf k i h = h
tagged_home _ k i h = absurd (false≢true i)

linked_home : (c : Nonterminal) (k : Kind) → is_linked c ≡ true → in_homes c (homes k) ≡ true → in_homes ChainLink (homes k) ≡ true
linked_home ChainLink k i h = h
linked_home _ k i h = absurd (false≢true i)

one_ask : (c : Nonterminal) → is_tagged c ≡ true → (is_linked c ≡ false) × (elseless c ≡ false)
one_ask TemplateOf i = (refl, refl)
one_ask _ i = absurd (false≢true i)

link_ask : (c : Nonterminal) → is_linked c ≡ true → elseless c ≡ false
link_ask ChainLink i = refl
link_ask _ i = absurd (false≢true i)

opens_of : (c : Nonterminal) (k : Kind) → Opening k → is_loose k ≡ false → in_homes c (homes k) ≡ true → row_opens (asks_of c) (production k) ≡ true
opens_of c k o n h = go (is_tagged c) (is_linked c) (elseless c) refl refl refl
  where
    go : (x y z : Bool) → is_tagged c ≡ x → is_linked c ≡ y → elseless c ≡ z → row_opens (record { tagged = x; linked = y; lined = z }) (production k) ≡ true
    go true true z p q r = clash _ q ((one_ask c p).0)
    go true false true p q r = clash _ r ((one_ask c p).1)
    go true false false p q r = o.tagged (tagged_home c k p h)
    go false true true p q r = clash _ r (link_ask c q)
    go false true false p q r = o.linked (linked_home c k q h)
    go false false true p q r = or_with (is_keyed k) _ (false_from_ne_true (is_keyed k) (λ i. no_keyed c k i r h)) (or_with (is_loose k) _ n o.lined)
    go false false false p q r = or_with (is_loose k) _ n o.none_asked

front_of : (c : Nonterminal) (k : Kind) (cs : Forest) → SoundNode c k cs → FrontsOf cs → is_loose k ≡ false → Front c (node k cs)
front_of c k cs n fs l =
    let f : Facts k = facts k n.plain in
    let r : RowFront (asks_of c) (λ w. ahead (walk (production k) (saids cs)) w) = row_front (asks_of c) (production k) cs [] (rowed_of (production k) [] false [] cs n.parts) fs (opens_of c k (opening k n.plain) l n.home) in
    record {
      mode = r.mode;
      kind = r.kind;
      text = r.text;
      view = r.view;
      opens = record { code = r.code; starter = r.starter; back = r.tagged; link = r.linked; lined = r.lined; named = λ i. absurd (no_named c k f n.home i); quoted = λ i. absurd (no_quoted c k f n.home i) };
    }
  where
    no_named : (c : Nonterminal) (k : Kind) → Facts k → in_homes c (homes k) ≡ true → is_name_place c ≡ true → ⊥
    no_named Name k f h i = clash _ h f.no_name
    no_named _ k f h i = false≢true i

    no_quoted : (c : Nonterminal) (k : Kind) → Facts k → in_homes c (homes k) ≡ true → is_quoted c ≡ true → ⊥
    no_quoted (TemplatePart NoSubstitution) k f h i = clash _ h f.no_whole
    no_quoted (TemplatePart TemplateHead) k f h i = clash _ h f.no_head
    no_quoted _ k f h i = false≢true i

loose_home : (c : Nonterminal) (k : Kind) → frontal c ≡ true → in_homes c (homes k) ≡ true → is_loose k ≡ false
loose_home c (program Module) f h = clash _ h (frontal_of c f).no_program
loose_home c (program Script) f h = clash _ h (frontal_of c f).no_program
loose_home c (program FunctionBody) f h = clash _ h (frontal_of c f).no_body
loose_home c _ f h = refl

loose_hole : (c : Nonterminal) (k : Kind) → holes c ≡ true → in_homes c (homes k) ≡ true → is_loose k ≡ false
loose_hole ArrayItem (program Module) f h = absurd (false≢true h)
loose_hole ArrayItem (program Script) f h = absurd (false≢true h)
loose_hole ArrayItem (program FunctionBody) f h = absurd (false≢true h)
loose_hole (Slot Binds) (program Module) f h = absurd (false≢true h)
loose_hole (Slot Binds) (program Script) f h = absurd (false≢true h)
loose_hole (Slot Binds) (program FunctionBody) f h = absurd (false≢true h)
loose_hole (Slot Assigns) (program Module) f h = absurd (false≢true h)
loose_hole (Slot Assigns) (program Script) f h = absurd (false≢true h)
loose_hole (Slot Assigns) (program FunctionBody) f h = absurd (false≢true h)
loose_hole ArrayItem _ f h = refl
loose_hole (Slot Binds) _ f h = refl
loose_hole (Slot Assigns) _ f h = refl
loose_hole _ k f h = absurd (false≢true f)

later_node : (c : Nonterminal) (k : Kind) → Facts k → in_homes c (homes k) ≡ true → is_later c ≡ true → ⊥
later_node (TemplatePart TemplateMiddle) k f h i = clash _ h f.no_middle
later_node (TemplatePart TemplateTail) k f h i = clash _ h f.no_tail
later_node _ k f h i = false≢true i

-- a body
stmt_opens : (c : Nonterminal) (m : Mode) (x : Text) → elseless c ≡ true → Opens c m x → Opens Stmt m x
stmt_opens c m x e o = record { code = o.code; starter = o.starter; back = λ i. absurd (false≢true i); link = λ i. absurd (false≢true i); lined = λ _. o.lined e; named = λ i. absurd (false≢true i); quoted = λ i. absurd (false≢true i) }

line_view : (c : Nonterminal) (t : Tree) (us : Forest) (k : List Sign) (w : Ahead) (f : Front c t) → ahead (gathered Lines (joined (said t) ∷ each_said us) ++ k) w ≡ ahead (Line ∷ []) (at_once (Token f.mode f.kind f.text))
line_view c t none k w f = ap (λ z. ahead (Line ∷ z) w) (append_signs (joined (said t)) [] k) ∙ ap (sign_ahead Line) (ahead_append (joined (said t)) k w ∙ f.view (ahead k w))
line_view c t (part u us) k w f =
    let z : List Sign = [] ++ gathered Lines (joined (said u) ∷ each_said us) in
    ap (λ y. ahead (Line ∷ y) w) (append_signs (joined (said t)) z k) ∙ ap (sign_ahead Line) (ahead_append (joined (said t)) (z ++ k) w ∙ f.view (ahead (z ++ k) w))

body_front : (ds ss : Forest) → sound_each DirectiveOnly ds ≡ true → sound_each Stmt ss ≡ true → FrontsOf ds → FrontsOf ss → ((w : Ahead) → ahead (joined (said (node (program FunctionBody) (part (list ds) (part (list ss) none))))) w ≡ w) ⊎ LineFront (node (program FunctionBody) (part (list ds) (part (list ss) none)))
body_front none none a b f q = inl (λ w. refl)
body_front none (part t us) a b f q =
    let d = and_parts (is_formed Single t) (sound Stmt [] t && sound_each Stmt us) b in
    let r : Front Stmt t = (front_at Stmt [] t d.0 q.0 ((and_parts (sound Stmt [] t) (sound_each Stmt us) d.1).0)).front refl in
    inr (record { mode = r.mode; kind = r.kind; text = r.text; view = λ w. line_view Stmt t us (End ∷ []) w r; opens = r.opens })
body_front (part t us) ss a b f q =
    let d = and_parts (is_formed Single t) (sound DirectiveOnly [] t && sound_each DirectiveOnly us) a in
    let r : Front DirectiveOnly t = (front_at DirectiveOnly [] t d.0 f.0 ((and_parts (sound DirectiveOnly [] t) (sound_each DirectiveOnly us) d.1).0)).front refl in
    inr (record { mode = r.mode; kind = r.kind; text = r.text; view = λ w. line_view DirectiveOnly t us (gathered Lines (each_said ss) ++ (End ∷ [])) w r; opens = stmt_opens DirectiveOnly r.mode r.text refl r.opens })

body_of : (k : Kind) (cs : Forest) → is_body_kind k ≡ true → sounds (positions k) cs ≡ true → FrontsOf cs → ((w : Ahead) → ahead (joined (said (node k cs))) w ≡ w) ⊎ LineFront (node k cs)
body_of (program FunctionBody) none i s f = absurd (false≢true s)
body_of (program FunctionBody) (part (leaf k x) cs) i s f = absurd (false≢true s)
body_of (program FunctionBody) (part (node k x) cs) i s f = absurd (false≢true s)
body_of (program FunctionBody) (part (list ds) none) i s f =
    let p = and_parts (is_formed (Several Lines) (list ds)) _ s in
    let q = and_parts (sound_each DirectiveOnly ds) _ p.1 in
    absurd (false≢true q.1)
body_of (program FunctionBody) (part (list ds) (part (list ss) none)) i s f =
    let p = and_parts (is_formed (Several Lines) (list ds)) _ s in
    let q = and_parts (sound_each DirectiveOnly ds) _ p.1 in
    let r = and_parts (is_formed (Several Lines) (list ss)) _ q.1 in
    let t = and_parts (sound_each Stmt ss) true r.1 in
    body_front ds ss q.0 t.0 f.0 f.1.0
body_of (program FunctionBody) (part (list ds) (part (list ss) (part u us))) i s f =
    let p = and_parts (is_formed (Several Lines) (list ds)) _ s in
    let q = and_parts (sound_each DirectiveOnly ds) _ p.1 in
    let r = and_parts (is_formed (Several Lines) (list ss)) _ q.1 in
    let t = and_parts (sound_each Stmt ss) false r.1 in
    absurd (false≢true t.1)
body_of (program FunctionBody) (part (list ds) (part (leaf k x) us)) i s f =
    let p = and_parts (is_formed (Several Lines) (list ds)) _ s in
    let q = and_parts (sound_each DirectiveOnly ds) _ p.1 in
    absurd (false≢true q.1)
body_of (program FunctionBody) (part (list ds) (part (node k x) us)) i s f =
    let p = and_parts (is_formed (Several Lines) (list ds)) _ s in
    let q = and_parts (sound_each DirectiveOnly ds) _ p.1 in
    absurd (false≢true q.1)
body_of _ cs i s f = absurd (false≢true i)

node_fronts : (k : Kind) (cs : Forest) → FrontsOf cs → TreeFront (node k cs)
node_fronts k cs fs c g h =
    let n : SoundNode c k cs = sound_node c g k cs h in
    record {
      front = λ f. front_of c k cs n fs (loose_home c k f n.home);
      later = λ i. absurd (later_node c k (facts k n.plain) n.home i);
      hole = λ i. inr (front_of c k cs n fs (loose_hole c k i n.home));
      body = λ i. body_of k cs (body_home c k (opening k n.plain) n.home i) n.parts fs;
    }
  where
    body_home : (c : Nonterminal) (k : Kind) → Opening k → in_homes c (homes k) ≡ true → is_body c ≡ true → is_body_kind k ≡ true
    body_home Body k o h i = o.body h
    body_home _ k o h i = absurd (false≢true i)

mutual
  pub all_front : (t : Tree) → FrontOf t
  all_front (leaf s x) = λ c g h. leaf_fronts s x c (sound_leaf c g s x h)
  all_front (node k cs) = node_fronts k cs (all_fronts cs)
  all_front (list us) = all_fronts us

  pub all_fronts : (ts : Forest) → FrontsOf ts
  all_fronts none = tt
  all_fronts (part t ts) = (all_front t, all_fronts ts)
