-- Each tree that is sound is good, where it is asked of what comes behind it.
use Rattle.std.proofs.Common.{codes, ◌≡◌, ℕ, List, [], ◌∷◌, Bool, true, false, cond, not, ◌||◌, ◌&&◌, refl, sym, ap, subst, ⊎_elim, ◌⊎◌, inl, inr}
use Rattle.std.proofs.lemmas.Bool.{false≢true, and_parts, and_from, or_left, false_from_ne_true, not-true, or_right}
use Rattle.jsx_base.specs.Token.{Text, TokenKind, IdentifierName, Punctuator, NumericLiteral, BigIntLiteral, StringLiteral, RegExpLiteral, NoSubstitution, TemplateHead, TemplateMiddle, TemplateTail, JsxName, JsxString, JsxText, Elision, NoToken, among, same}
use Rattle.jsx_tree.specs.Signs.{Tok, Semicolon, TrailingComma, Unless, SameLine, Ends, Space, Pad, Line, Indent, Outdent, Unindent, Apart, Begin, Count, One, End}
use Rattle.jsx_tree.specs.Kinds.{leaf, Forest, none, part}
use Rattle.jsx_tree.specs.Nonterminals.{Nonterminal, DotObject, ChainLink, TemplateOf, TemplatePart, TemplateSpans, Name, leaf_in}
use Rattle.jsx_tree.specs.Grammar.{Context, Fixed, Part, Optional, Many, Within, Production}
use Rattle.jsx_tree.specs.Layout.{first_token}
use Rattle.jsx_tree.specs.Spelling.{said, joined, mode_of, spelled}
use Rattle.jsx_tree.specs.Form.{Single, Maybe, Several, slots, is_leaf, inside, is_piece}
use Rattle.jsx_tree.specs.Parentheses.{is_dotted_number}
use Rattle.jsx_tree.specs.Fits.{is_solid}
use Rattle.jsx_base.proofs.Longest.{same_is}
use Rattle.jsx_tree.proofs.ReadBack.Joins.{Next, Nothing, Semi, Token, Ahead, follows, stands, open_gap, next_ok, joint, good}
use Rattle.jsx_tree.proofs.ReadBack.RowChecks.{calm_chars, even, Even, Calm, holds, chars_are, is_member, is_opened, dots, need_of, is_formed, sound, sounds, rowed}
use Rattle.jsx_tree.proofs.ReadBack.NextTokens.{even_gap, calm_even, calm_after}
use Rattle.jsx_tree.proofs.ReadBack.Rows.{TreeGood}
use Rattle.jsx_tree.proofs.ReadBack.Basics.{clash}

-- ---- positions and rows

pub rowed_of : (ps : Production) (g : List Text) (b : Bool) (a : List Context) (cs : Forest) → sounds (slots g b a ps) cs ≡ true → rowed g ps cs ≡ true
rowed_of [] g b a none h = refl
rowed_of [] g b a (part t ts) h = h
rowed_of (Fixed (Tok m Punctuator t) ∷ ps) g b a cs h = rowed_of ps [] (inside t b) a cs h
rowed_of (Fixed (Tok m IdentifierName t) ∷ ps) g b a cs h = rowed_of ps g b a cs h
rowed_of (Fixed (Tok m NumericLiteral t) ∷ ps) g b a cs h = rowed_of ps g b a cs h
rowed_of (Fixed (Tok m BigIntLiteral t) ∷ ps) g b a cs h = rowed_of ps g b a cs h
rowed_of (Fixed (Tok m StringLiteral t) ∷ ps) g b a cs h = rowed_of ps g b a cs h
rowed_of (Fixed (Tok m RegExpLiteral t) ∷ ps) g b a cs h = rowed_of ps g b a cs h
rowed_of (Fixed (Tok m NoSubstitution t) ∷ ps) g b a cs h = rowed_of ps g b a cs h
rowed_of (Fixed (Tok m TemplateHead t) ∷ ps) g b a cs h = rowed_of ps g b a cs h
rowed_of (Fixed (Tok m TemplateMiddle t) ∷ ps) g b a cs h = rowed_of ps g b a cs h
rowed_of (Fixed (Tok m TemplateTail t) ∷ ps) g b a cs h = rowed_of ps g b a cs h
rowed_of (Fixed (Tok m JsxName t) ∷ ps) g b a cs h = rowed_of ps g b a cs h
rowed_of (Fixed (Tok m JsxString t) ∷ ps) g b a cs h = rowed_of ps g b a cs h
rowed_of (Fixed (Tok m JsxText t) ∷ ps) g b a cs h = rowed_of ps g b a cs h
rowed_of (Fixed (Tok m Elision t) ∷ ps) g b a cs h = rowed_of ps g b a cs h
rowed_of (Fixed (Tok m NoToken t) ∷ ps) g b a cs h = rowed_of ps g b a cs h
rowed_of (Fixed (Unless ts) ∷ ps) g b a cs h = rowed_of ps ts b a cs h
rowed_of (Fixed Semicolon ∷ ps) g b a cs h = rowed_of ps g b a cs h
rowed_of (Fixed TrailingComma ∷ ps) g b a cs h = rowed_of ps g b a cs h
rowed_of (Fixed SameLine ∷ ps) g b a cs h = rowed_of ps g b a cs h
rowed_of (Fixed (Ends e) ∷ ps) g b a cs h = rowed_of ps g b a cs h
rowed_of (Fixed Space ∷ ps) g b a cs h = rowed_of ps g b a cs h
rowed_of (Fixed Pad ∷ ps) g b a cs h = rowed_of ps g b a cs h
rowed_of (Fixed Line ∷ ps) g b a cs h = rowed_of ps g b a cs h
rowed_of (Fixed Indent ∷ ps) g b a cs h = rowed_of ps g b a cs h
rowed_of (Fixed Outdent ∷ ps) g b a cs h = rowed_of ps g b a cs h
rowed_of (Fixed Unindent ∷ ps) g b a cs h = rowed_of ps g b a cs h
rowed_of (Fixed Apart ∷ ps) g b a cs h = rowed_of ps g b a cs h
rowed_of (Fixed Begin ∷ ps) g b a cs h = rowed_of ps g b a cs h
rowed_of (Fixed Count ∷ ps) g b a cs h = rowed_of ps g b a cs h
rowed_of (Fixed One ∷ ps) g b a cs h = rowed_of ps g b a cs h
rowed_of (Fixed End ∷ ps) g b a cs h = rowed_of ps g b a cs h
rowed_of (Within x ∷ ps) g b a cs h = rowed_of ps g b (x ∷ a) cs h
rowed_of (Part c ∷ ps) g b a none h = h
rowed_of (Part c ∷ ps) g b a (part t ts) h =
    let p = and_parts (is_formed Single t) (sound c g t && sounds (slots [] (b || is_piece c) a ps) ts) h in
    let q = and_parts (sound c g t) (sounds (slots [] (b || is_piece c) a ps) ts) p.1 in
    and_from (is_formed Single t) (sound c g t && rowed [] ps ts) p.0 (and_from (sound c g t) (rowed [] ps ts) q.0 (rowed_of ps [] (b || is_piece c) a ts q.1))
rowed_of (Optional x c y r ∷ ps) g b a none h = h
rowed_of (Optional x c y r ∷ ps) g b a (part t ts) h =
    let p = and_parts (is_formed Maybe t) (sound c [] t && sounds (slots [] b a ps) ts) h in
    let q = and_parts (sound c [] t) (sounds (slots [] b a ps) ts) p.1 in
    and_from (is_formed Maybe t) (sound c [] t && rowed [] ps ts) p.0 (and_from (sound c [] t) (rowed [] ps ts) q.0 (rowed_of ps [] b a ts q.1))
rowed_of (Many s c ∷ ps) g b a none h = h
rowed_of (Many s c ∷ ps) g b a (part t ts) h =
    let p = and_parts (is_formed (Several s) t) (sound c [] t && sounds (slots [] b a ps) ts) h in
    let q = and_parts (sound c [] t) (sounds (slots [] b a ps) ts) p.1 in
    and_from (is_formed (Several s) t) (sound c [] t && rowed [] ps ts) p.0 (and_from (sound c [] t) (rowed [] ps ts) q.0 (rowed_of ps [] b a ts q.1))

-- ---- leaves

pub need_even : (c : Nonterminal) (e : Bool) (v : Ahead) → holds (need_of c e) v ≡ true → even v ≡ true
need_even c e v h = go (is_opened c) h
  where
    go : (b : Bool) → holds (cond b Even (Calm (dots c) (is_member c || e))) v ≡ true → even v ≡ true
    go true h = h
    go false h = calm_even (dots c) (is_member c || e) v h

leaf_good : (s : TokenKind) (x : Text) (v : Ahead) → stands (mode_of s) s x ≡ true → same x (codes "/") ≡ false → even v ≡ true → joint s x v ≡ true → good (One ∷ Tok (mode_of s) s x ∷ []) v ≡ true
leaf_good s x v a n b c =
    let one = not (same x (codes "/")) || v.sure in
    and_from (stands (mode_of s) s x && ((open_gap [] v && one) && joint s x v)) true
    (and_from (stands (mode_of s) s x) ((open_gap [] v && one) && joint s x v) a (and_from (open_gap [] v && one) (joint s x v) (and_from (open_gap [] v) one (even_gap v b) (or_left (not (same x (codes "/"))) v.sure (ap not n))) c)) refl

-- no leaf is a slash
no_slash_leaf : (s : TokenKind) (x : Text) → is_leaf s (codes "/") ≡ false → is_leaf s x ≡ true → same x (codes "/") ≡ false
no_slash_leaf s x n h = false_from_ne_true (same x (codes "/")) (λ e. clash _ (subst (λ y. is_leaf s y ≡ true) (same_is x (codes "/") e) h) n)

-- where anything may follow
free_joint : (s : TokenKind) (x : Text) (v : Ahead) → ((d : ℕ) → follows s x d ≡ true) → joint s x v ≡ true
free_joint s x v f = go v.sure v.next v.apart
  where
    go : (z : Bool) (n : Next) (a : Bool) → (z || next_ok (follows s x) x a n) ≡ true
    go true n a = refl
    go false Nothing a = refl
    go false Semi a = f 59
    go false (Token m k u) a = or_right _ _ (f _)

-- at a place behind which what comes is calm
calm_leaf : (c : Nonterminal) (s : TokenKind) (x : Text) (e : Bool) (v : Ahead) → is_opened c ≡ false → chars_are (follows s x) (calm_chars (dots c)) ≡ true → holds (need_of c e) v ≡ true → joint s x v ≡ true
calm_leaf c s x e v n h k = (and_parts (open_gap [] v) (joint s x v) (calm_after (dots c) (is_member c || e) s x v h (subst (λ y. holds y v ≡ true) (need n) k))).1
  where
    need : is_opened c ≡ false → need_of c e ≡ Calm (dots c) (is_member c || e)
    need n = ap (λ b. cond b Even (Calm (dots c) (is_member c || e))) n

either_chars : (s : TokenKind) (x : Text) (b : Bool) → chars_are (follows s x) (calm_chars true) ≡ true → chars_are (follows s x) (calm_chars false) ≡ true → chars_are (follows s x) (calm_chars b) ≡ true
either_chars s x true p q = p
either_chars s x false p q = q

-- a number doesn't stand before a `.`
no_dot : (c : Nonterminal) (x : Text) → leaf_in c NumericLiteral x ≡ true → is_dotted_number c (leaf NumericLiteral x) ≡ false → dots c ≡ false
no_dot DotObject x h n = absurd (false≢true (sym n))
no_dot ChainLink x h n = absurd (false≢true h)
no_dot Name x h n = absurd (false≢true h)
no_dot TemplateOf x h n = absurd (false≢true h)
no_dot (TemplatePart NoSubstitution) x h n = absurd (false≢true h)
no_dot (TemplatePart TemplateTail) x h n = absurd (false≢true h)
no_dot _ x h n = refl

number_chars : (c : Nonterminal) (x : Text) → dots c ≡ false → chars_are (follows NumericLiteral x) (calm_chars (dots c)) ≡ true
number_chars c x n = subst (λ b. chars_are (follows NumericLiteral x) (calm_chars b) ≡ true) (sym n) refl

-- where a `${` ends what stands there
opened_leaf : (c : Nonterminal) (s : TokenKind) (x : Text) → is_opened c ≡ true → leaf_in c s x ≡ true → ((s ≡ TemplateHead) ⊎ (s ≡ TemplateMiddle)) ⊎ (s ≡ JsxName)
opened_leaf (TemplatePart TemplateHead) TemplateHead x o h = inl (inl refl)
opened_leaf (TemplatePart TemplateMiddle) TemplateMiddle x o h = inl (inr refl)
opened_leaf (TemplatePart TemplateHead) JsxName x o h = inr refl
opened_leaf (TemplatePart TemplateMiddle) JsxName x o h = inr refl
opened_leaf (TemplateSpans b) JsxName x o h = inr refl
opened_leaf (TemplatePart TemplateHead) _ x o h = absurd (false≢true h)
opened_leaf (TemplatePart TemplateMiddle) _ x o h = absurd (false≢true h)
opened_leaf (TemplateSpans true) _ x o h = absurd (false≢true h)
opened_leaf (TemplateSpans false) _ x o h = absurd (false≢true h)
opened_leaf _ s x o h = absurd (false≢true o)

-- a leaf that goes on by what follows it, anywhere
leaf_joint : (c : Nonterminal) (s : TokenKind) (x : Text) (e : Bool) (v : Ahead) → leaf_in c s x ≡ true → is_solid s ≡ true → chars_are (follows s x) (calm_chars (dots c)) ≡ true → (is_opened c ≡ true → (s ≡ TemplateHead) ⊎ (s ≡ TemplateMiddle)) → holds (need_of c e) v ≡ true → joint s x v ≡ true
leaf_joint c s x e v h i k o n = go (is_opened c) refl
  where
    go : (b : Bool) → is_opened c ≡ b → joint s x v ≡ true
    go false w = calm_leaf c s x e v w k n
    go true w = ⊎_elim (λ (z : s ≡ TemplateHead). subst (λ y. joint y x v ≡ true) (sym z) (free_joint TemplateHead x v (λ d. refl))) (λ (z : s ≡ TemplateMiddle). subst (λ y. joint y x v ≡ true) (sym z) (free_joint TemplateMiddle x v (λ d. refl))) (o w)

solid_opened : (c : Nonterminal) (s : TokenKind) (x : Text) → leaf_in c s x ≡ true → is_solid s ≡ true → is_opened c ≡ true → (s ≡ TemplateHead) ⊎ (s ≡ TemplateMiddle)
solid_opened c s x h i o = ⊎_elim (λ (z : (s ≡ TemplateHead) ⊎ (s ≡ TemplateMiddle)). z) (λ (z : s ≡ JsxName). absurd (false≢true (subst (λ y. is_solid y ≡ true) z i))) (opened_leaf c s x o h)

pub record SoundLeaf (c : Nonterminal) (s : TokenKind) (x : Text) : Type 0 where
  pub home : leaf_in c s x ≡ true
  pub whole : is_leaf s x ≡ true
  pub solid : is_solid s ≡ true
  pub number : is_dotted_number c (leaf s x) ≡ false

pub sound_leaf : (c : Nonterminal) (g : List Text) (s : TokenKind) (x : Text) → sound c g (leaf s x) ≡ true → SoundLeaf c s x
sound_leaf c g s x h =
    let a = and_parts (leaf_in c s x && not (among (first_token (spelled (leaf s x))) g)) ((is_leaf s x && is_solid s) && not (is_dotted_number c (leaf s x))) h in
    let b = and_parts (leaf_in c s x) (not (among (first_token (spelled (leaf s x))) g)) a.0 in
    let d = and_parts (is_leaf s x && is_solid s) (not (is_dotted_number c (leaf s x))) a.1 in
    let e = and_parts (is_leaf s x) (is_solid s) d.0 in
    record { home = b.0; whole = e.0; solid = e.1; number = not-true _ d.1 }

-- a kind other than a number's
other_leaf : (s : TokenKind) (x : Text) (c : Nonterminal) (e : Bool) (v : Ahead) → SoundLeaf c s x → chars_are (follows s x) (calm_chars true) ≡ true → chars_are (follows s x) (calm_chars false) ≡ true → holds (need_of c e) v ≡ true → joint s x v ≡ true
other_leaf s x c e v l p q n = leaf_joint c s x e v l.home l.solid (either_chars s x (dots c) p q) (solid_opened c s x l.home l.solid) n

leaves_good : (s : TokenKind) (x : Text) (c : Nonterminal) (e : Bool) (v : Ahead) → SoundLeaf c s x → holds (need_of c e) v ≡ true → good (joined (said (leaf s x))) v ≡ true
leaves_good IdentifierName x c e v l n = leaf_good IdentifierName x v l.whole (no_slash_leaf IdentifierName x refl l.whole) (need_even c e v n) (other_leaf IdentifierName x c e v l refl refl n)
leaves_good NumericLiteral x c e v l n = leaf_good NumericLiteral x v l.whole (no_slash_leaf NumericLiteral x refl l.whole) (need_even c e v n) (leaf_joint c NumericLiteral x e v l.home refl (number_chars c x (no_dot c x l.home l.number)) (solid_opened c NumericLiteral x l.home refl) n)
leaves_good BigIntLiteral x c e v l n = leaf_good BigIntLiteral x v l.whole (no_slash_leaf BigIntLiteral x refl l.whole) (need_even c e v n) (other_leaf BigIntLiteral x c e v l refl refl n)
leaves_good StringLiteral x c e v l n = leaf_good StringLiteral x v l.whole (no_slash_leaf StringLiteral x refl l.whole) (need_even c e v n) (other_leaf StringLiteral x c e v l refl refl n)
leaves_good RegExpLiteral x c e v l n = leaf_good RegExpLiteral x v l.whole (no_slash_leaf RegExpLiteral x refl l.whole) (need_even c e v n) (other_leaf RegExpLiteral x c e v l refl refl n)
leaves_good NoSubstitution x c e v l n = leaf_good NoSubstitution x v l.whole (no_slash_leaf NoSubstitution x refl l.whole) (need_even c e v n) (other_leaf NoSubstitution x c e v l refl refl n)
leaves_good TemplateHead x c e v l n = leaf_good TemplateHead x v l.whole (no_slash_leaf TemplateHead x refl l.whole) (need_even c e v n) (other_leaf TemplateHead x c e v l refl refl n)
leaves_good TemplateMiddle x c e v l n = leaf_good TemplateMiddle x v l.whole (no_slash_leaf TemplateMiddle x refl l.whole) (need_even c e v n) (other_leaf TemplateMiddle x c e v l refl refl n)
leaves_good TemplateTail x c e v l n = leaf_good TemplateTail x v l.whole (no_slash_leaf TemplateTail x refl l.whole) (need_even c e v n) (other_leaf TemplateTail x c e v l refl refl n)
leaves_good Elision x c e v l n = refl
leaves_good Punctuator x c e v l n = absurd (false≢true l.solid)
leaves_good JsxName x c e v l n = absurd (false≢true l.solid)
leaves_good JsxString x c e v l n = absurd (false≢true l.solid)
leaves_good JsxText x c e v l n = absurd (false≢true l.solid)
leaves_good NoToken x c e v l n = absurd (false≢true l.solid)

pub tree_good_leaf : (s : TokenKind) (x : Text) → TreeGood (leaf s x)
tree_good_leaf s x c g e v h b = leaves_good s x c e v (sound_leaf c g s x h) b.needs
