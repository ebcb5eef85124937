-- From the token that comes next to the place behind it.
use Rattle.std.proofs.Common.{◌≡◌, ◌<◌, ◌-◌, ◌++◌, ℕ, List, [], ◌∷◌, Bool, true, false, cond, ◌&&◌, ◌||◌, length, length-append, refl, sym, ap, ◌∙◌, subst, arith}
use Rattle.std.specs.Prelude.{IsTrue, nat_eq}
use Rattle.std.specs.Str.{chars}
use Rattle.std.specs.Bool.{Decides}
use Rattle.std.proofs.lemmas.Bool.{false≢true, and_parts, eqb-true}
use Rattle.jsx_base.specs.Token.{Text, Mode, TokenKind as Kind, NoToken, Blank, same, is_kind, kind_number, is_token, skips, skip, breaks, at_front, Punctuator, Operand, Operator, Piece, Tag, NumericLiteral, BigIntLiteral, StringLiteral, RegExpLiteral, NoSubstitution, TemplateHead, TemplateMiddle, TemplateTail, JsxName, IdentifierName}
use Rattle.jsx_base.specs.Lines.{size}
use Rattle.jsx_tree.specs.Signs.{Ending, Tok, AfterExpr}
use Rattle.jsx_tree.specs.Reading.{Place, Lost, At, forth, go_if}
use Rattle.jsx_tree.specs.Form.{is_leaf}
use Rattle.jsx_tree.specs.Walk.{is_found}
use Rattle.jsx_lex.specs.declared.lexer.Lexer.{Lexer as Tokens}
use Rattle.jsx_lex.specs.declared.token.Token.{Token}
use Rattle.jsx_lex.specs.declared.token.TokenKind.{TokenKind}
use Rattle.jsx_lex.specs.declared.token.TokenKind.TheVariants as token_kind
use Rattle.jsx_lex.specs.Kinds.{kind_of, is_punctuator, spelling}
use Rattle.jsx_lex.specs.Stand.{rest_of}
use Rattle.jsx_lex.proofs.Raws.{whole}
use Rattle.jsx_lex.proofs.Spellings.{one_kind}
use Rattle.jsx_token.specs.Here.{Here, place_of, left, leaf_kind, piece_kind, sign_of}
use Rattle.jsx_token.specs.Seen.{IsNext, NoNext, here_of, next_token, is_it}
use Rattle.jsx_token.specs.Places.{Takes, begin_of, end_of, next_of}
use Rattle.jsx_token.specs.Spelled.{IsMarkOf, fixed_mode, fixed_kind, fixed_text, leaf_mode}
use Rattle.jsx_token.specs.declared.lexer.Ending.TheVariants as ending
use Rattle.jsx_token.specs.declared.lexer.Fixed.{Fixed}
use Rattle.jsx_token.specs.declared.word.Word.{Word}
use Rattle.jsx_token.specs.declared.word.Word.TheVariants as word
use Rattle.jsx_token.specs.WordTexts.{word_text}
use Rattle.jsx_token.specs.declared.lexer.Fixed.TheVariants as fixed
use Rattle.jsx_token.specs.declared.lexer.Leaf.{Leaf}
use Rattle.jsx_token.specs.declared.lexer.Leaf.TheVariants as leaf
use Rattle.jsx_token.specs.declared.lexer.Piece.{Piece as Piece'}
use Rattle.jsx_token.specs.declared.lexer.Piece.TheVariants as piece
use Rattle.jsx_tree.proofs.Tokens.{and_both, same_is, same_self}
use Rattle.jsx_token.proofs.Spellings.{by_both}
use Rattle.jsx_token.proofs.Gaps.{is_behind}
use Rattle.jsx_token.proofs.Takes.{skip_within}
use Rattle.jsx_base.proofs.Fronts.{turned}
use Rattle.jsx_token.proofs.Alone.{IsAlone, alone, piece_alone}

-- what the token is, by the definitions
token_is : {m : Mode} {h : Here} {t : Token} {b : Tokens} (k : Kind) (text : Text) → IsNext m h t b → is_token (next_token m h) k text ≡ is_it t k text
token_is {t = t} k text n = λ i. is_kind (sym n.kind i) k && same (sym n.raw i) text

pub taken_by : {m : Mode} {h : Here} {t : Token} {b : Tokens} (k : Kind) (text : Text) → IsNext m h t b → is_it t k text ≡ true → place_of (here_of t.raw.now ending.Expr b h.end) ≡ forth (Tok m k text) (place_of h)
taken_by {m} {h} {t} {b} k text n i =
    let raw : chars t.raw.now ≡ text = same_is (chars t.raw.now) text ((and_parts (is_kind (kind_of t.kind) k) _ i).1) in
    (λ j. At (raw j) AfterExpr (n.rest j)) ∙ sym (ap (λ x. go_if x (At text AfterExpr (next_token m h).rest)) (token_is k text n ∙ i))

pub missing_by : {m : Mode} {h : Here} {t : Token} {b : Tokens} (k : Kind) (text : Text) → IsNext m h t b → is_it t k text ≡ false → forth (Tok m k text) (place_of h) ≡ Lost
missing_by {m} {h} k text n i = ap (λ x. go_if x (At text AfterExpr (next_token m h).rest)) (token_is k text n ∙ i)

go_found : (b : Bool) (q : Text) (e : Ending) (s : Text) → b ≡ is_found (go_if b (At q e s))
go_found true q e s = refl
go_found false q e s = refl

-- whether it is found there
pub seen_by : {m : Mode} {h : Here} {t : Token} {b : Tokens} (k : Kind) (text : Text) → IsNext m h t b → is_it t k text ≡ is_found (forth (Tok m k text) (place_of h))
seen_by {m} {h} k text n = sym (token_is k text n) ∙ go_found (is_token (next_token m h) k text) text AfterExpr (next_token m h).rest

pub none_by : {m : Mode} {h : Here} (k : Kind) (text : Text) → is_kind NoToken k ≡ false → NoNext m h → forth (Tok m k text) (place_of h) ≡ Lost
none_by {m} {h} k text e n = ap (λ x. go_if (is_kind x k && same (next_token m h).raw text) (At text AfterExpr (next_token m h).rest)) n.none
    ∙ ap (λ x. go_if (x && same (next_token m h).raw text) (At text AfterExpr (next_token m h).rest)) e

-- the gap, the token and the rest
skipped : (m : Mode) (h : Here) → skips m ≡ true → next_token m h ≡ at_front m (same h.last [] || breaks h.rest) (skip h.rest)
skipped m h s = ap (λ x. cond x (at_front m (same h.last [] || breaks h.rest) (skip h.rest)) (at_front m false h.rest)) s

pub parted : {m : Mode} {h : Here} {t : Token} {b : Tokens} → IsNext m h t b → skips m ≡ true → is_kind (kind_of t.kind) NoToken ≡ false → skip h.rest ≡ chars t.raw.now ++ rest_of b
parted {m} {h} n s e =
    let first = same h.last [] || breaks h.rest in
    let kind = ap (λ k. is_kind k NoToken) (sym (n.kind ∙ ap (λ x. x.kind) (skipped m h s))) ∙ e in
    sym (whole m first (skip h.rest) kind)
    ∙ (λ i. (sym (n.raw ∙ ap (λ x. x.raw) (skipped m h s)) i) ++ (sym (n.rest ∙ ap (λ x. x.rest) (skipped m h s)) i))

-- at the end of the text too, where the token is empty
end_kind : (k : TokenKind) → is_kind (kind_of k) NoToken ≡ true → k ≡ token_kind.End
end_kind token_kind.End e = refl
end_kind _ e = cc

end_parted : {m : Mode} {h : Here} {t : Token} {b : Tokens} → IsNext m h t b → skips m ≡ true → is_kind (kind_of t.kind) NoToken ≡ true → skip h.rest ≡ chars t.raw.now ++ rest_of b
end_parted {m} {h} {t} n s e =
    let first = same h.last [] || breaks h.rest in
    let empty : skip h.rest ≡ [] = same_is (skip h.rest) [] ((and_parts (same (skip h.rest) []) _ ((n.end s).0 (end_kind t.kind e))).0) in
    empty ∙ sym ((λ i. (n.raw ∙ ap (λ x. x.raw) (skipped m h s)) i ++ (n.rest ∙ ap (λ x. x.rest) (skipped m h s)) i) ∙ ap (λ w. (at_front m first w).raw ++ (at_front m first w).rest) empty)

pub parted_too : {m : Mode} {h : Here} {t : Token} {b : Tokens} → IsNext m h t b → skips m ≡ true → skip h.rest ≡ chars t.raw.now ++ rest_of b
parted_too {h = h} {t = t} {b = b} n s = elim (is_kind (kind_of t.kind) NoToken) as (λ v. is_kind (kind_of t.kind) NoToken ≡ v → skip h.rest ≡ chars t.raw.now ++ rest_of b) [ true ↦ λ e. end_parted n s e | false ↦ λ e. parted n s e ] refl

-- a look at what comes next moves no place
pub begins_alike : {x y : Here} (raw : List ℕ) (b : Tokens) → x ≡ y → begin_of (here_of raw ending.Expr b x.end) ≡ begin_of (here_of raw ending.Expr b y.end)
begins_alike raw b s = ap (λ h. begin_of (here_of raw ending.Expr b h.end)) s

pub begins_by : {m : Mode} {h : Here} {t : Token} {b : Tokens} → IsNext m h t b → skips m ≡ true → is_kind (kind_of t.kind) NoToken ≡ false → begin_of (here_of t.raw.now ending.Expr b h.end) ≡ next_of h
begins_by {h = h} n s e = (λ i. h.end - size (sym (parted n s e) i))

full : (raw : Text) → same raw [] ≡ false → 0 < length raw
full [] e = absurd (false≢true (sym e))
full (c ∷ raw) e = omega arith

pub shorter_by : {m : Mode} {h : Here} {t : Token} {b : Tokens} → IsNext m h t b → skips m ≡ true → is_kind (kind_of t.kind) NoToken ≡ false → same (chars t.raw.now) [] ≡ false → left (here_of t.raw.now ending.Expr b h.end) < left h
shorter_by {h = h} {t = t} {b = b} n s e f =
    omega (arith, full (chars t.raw.now) f, skip_within h.rest, ap length (parted n s e), length-append (chars t.raw.now) (rest_of b))

-- a kind is no other
pub kind_some : (j k : Kind) → is_kind NoToken k ≡ false → is_kind j k ≡ true → is_kind j NoToken ≡ false
kind_some j k e h =
    let same : kind_number j ≡ kind_number k = eqb-true (kind_number j) (kind_number k) h in
    ap (λ x. nat_eq x 14) same ∙ turned 14 (kind_number k) e

-- ---- the tokens with one spelling

pub fixed_some : (f : Fixed) → is_kind NoToken (fixed_kind f) ≡ false
fixed_some (fixed.Word w) = refl
fixed_some fixed.Equals = refl
fixed_some fixed.Semicolon = refl
fixed_some fixed.Open = refl
fixed_some fixed.Close = refl
fixed_some fixed.OpenBracket = refl
fixed_some fixed.CloseBracket = refl
fixed_some fixed.OpenBrace = refl
fixed_some fixed.CloseBrace = refl
fixed_some fixed.Comma = refl
fixed_some fixed.Colon = refl
fixed_some fixed.Dot = refl
fixed_some fixed.Dots = refl
fixed_some fixed.QuestionDot = refl
fixed_some fixed.Star = refl
fixed_some fixed.Arrow = refl
fixed_some fixed.Less = refl
fixed_some fixed.TagSlash = refl
fixed_some fixed.TagGreater = refl

pub fixed_skips : (f : Fixed) → skips (fixed_mode f) ≡ true
fixed_skips (fixed.Word w) = refl
fixed_skips fixed.Equals = refl
fixed_skips fixed.Semicolon = refl
fixed_skips fixed.Open = refl
fixed_skips fixed.Close = refl
fixed_skips fixed.OpenBracket = refl
fixed_skips fixed.CloseBracket = refl
fixed_skips fixed.OpenBrace = refl
fixed_skips fixed.CloseBrace = refl
fixed_skips fixed.Comma = refl
fixed_skips fixed.Colon = refl
fixed_skips fixed.Dot = refl
fixed_skips fixed.Dots = refl
fixed_skips fixed.QuestionDot = refl
fixed_skips fixed.Star = refl
fixed_skips fixed.Arrow = refl
fixed_skips fixed.Less = refl
fixed_skips fixed.TagSlash = refl
fixed_skips fixed.TagGreater = refl

pub sign_is : (f : Fixed) → sign_of f ≡ Tok (fixed_mode f) (fixed_kind f) (fixed_text f)
sign_is (fixed.Word w) = refl
sign_is fixed.Equals = refl
sign_is fixed.Semicolon = refl
sign_is fixed.Open = refl
sign_is fixed.Close = refl
sign_is fixed.OpenBracket = refl
sign_is fixed.CloseBracket = refl
sign_is fixed.OpenBrace = refl
sign_is fixed.CloseBrace = refl
sign_is fixed.Comma = refl
sign_is fixed.Colon = refl
sign_is fixed.Dot = refl
sign_is fixed.Dots = refl
sign_is fixed.QuestionDot = refl
sign_is fixed.Star = refl
sign_is fixed.Arrow = refl
sign_is fixed.Less = refl
sign_is fixed.TagSlash = refl
sign_is fixed.TagGreater = refl

pub fixed_kind_is : (f : Fixed) (t : Token) → is_it t (fixed_kind f) (fixed_text f) ≡ true → is_kind (kind_of t.kind) NoToken ≡ false
fixed_kind_is f t i = kind_some (kind_of t.kind) (fixed_kind f) (fixed_some f) ((and_parts (is_kind (kind_of t.kind) (fixed_kind f)) _ i).0)

pub word_full : (w : Word) → same (word_text w) [] ≡ false
word_full word.As = refl
word_full word.Async = refl
word_full word.Break = refl
word_full word.Case = refl
word_full word.Catch = refl
word_full word.Class = refl
word_full word.Const = refl
word_full word.Continue = refl
word_full word.Debugger = refl
word_full word.Default = refl
word_full word.Do = refl
word_full word.Else = refl
word_full word.Export = refl
word_full word.Extends = refl
word_full word.Finally = refl
word_full word.For = refl
word_full word.From = refl
word_full word.Function = refl
word_full word.Get = refl
word_full word.If = refl
word_full word.Import = refl
word_full word.In = refl
word_full word.Let = refl
word_full word.Meta = refl
word_full word.Of = refl
word_full word.Return = refl
word_full word.Set = refl
word_full word.Static = refl
word_full word.Super = refl
word_full word.Switch = refl
word_full word.Target = refl
word_full word.Throw = refl
word_full word.Try = refl
word_full word.Var = refl
word_full word.While = refl

fixed_full : (f : Fixed) → same (fixed_text f) [] ≡ false
fixed_full (fixed.Word w) = word_full w
fixed_full fixed.Equals = refl
fixed_full fixed.Semicolon = refl
fixed_full fixed.Open = refl
fixed_full fixed.Close = refl
fixed_full fixed.OpenBracket = refl
fixed_full fixed.CloseBracket = refl
fixed_full fixed.OpenBrace = refl
fixed_full fixed.CloseBrace = refl
fixed_full fixed.Comma = refl
fixed_full fixed.Colon = refl
fixed_full fixed.Dot = refl
fixed_full fixed.Dots = refl
fixed_full fixed.QuestionDot = refl
fixed_full fixed.Star = refl
fixed_full fixed.Arrow = refl
fixed_full fixed.Less = refl
fixed_full fixed.TagSlash = refl
fixed_full fixed.TagGreater = refl

pub fixed_raw : (f : Fixed) (t : Token) → is_it t (fixed_kind f) (fixed_text f) ≡ true → same (chars t.raw.now) [] ≡ false
fixed_raw f t i = ap (λ x. same x []) (same_is (chars t.raw.now) (fixed_text f) ((and_parts (is_kind (kind_of t.kind) (fixed_kind f)) _ i).1)) ∙ fixed_full f

pub mark_is : (b : Bool) (t : Token) (k : TokenKind) (f : Fixed) → Decides b (t.kind ≡ k) → IsMarkOf k f → (is_punctuator t.kind ≡ true → chars t.raw.now ≡ spelling t.kind) → b ≡ is_it t (fixed_kind f) (fixed_text f)
mark_is b t k f d m s = by_both b (is_it t (fixed_kind f) (fixed_text f)) yes no
  where
    yes : b ≡ true → is_it t (fixed_kind f) (fixed_text f) ≡ true
    yes e =
        let same_kind : t.kind ≡ k = d.0 e in
        let mark : is_punctuator t.kind ≡ true = ap is_punctuator same_kind ∙ m.mark in
        and_both _ _ (ap (is_kind (kind_of t.kind)) m.kind ∙ mark) (ap (λ x. same x (fixed_text f)) (s mark ∙ ap spelling same_kind ∙ m.text) ∙ same_self (fixed_text f))

    no : is_it t (fixed_kind f) (fixed_text f) ≡ true → b ≡ true
    no i =
        let p = and_parts (is_kind (kind_of t.kind) (fixed_kind f)) (same (chars t.raw.now) (fixed_text f)) i in
        let mark : is_punctuator t.kind ≡ true = ap (is_kind (kind_of t.kind)) (sym m.kind) ∙ p.0 in
        d.1 (one_kind t.kind k mark m.mark (sym (s mark) ∙ same_is (chars t.raw.now) (fixed_text f) p.1 ∙ sym m.text))

-- ---- the tokens with a text of their own

pub leaf_some : (l : Leaf) → is_kind NoToken (leaf_kind l) ≡ false
leaf_some leaf.Name = refl
leaf_some leaf.Num = refl
leaf_some leaf.BigInt = refl
leaf_some leaf.Str = refl
leaf_some leaf.RegExp = refl
leaf_some leaf.NoSubstitution = refl
leaf_some leaf.TemplateHead = refl
leaf_some leaf.JsxName = refl

pub leaf_skips : (l : Leaf) → skips (leaf_mode l) ≡ true
leaf_skips leaf.Name = refl
leaf_skips leaf.Num = refl
leaf_skips leaf.BigInt = refl
leaf_skips leaf.Str = refl
leaf_skips leaf.RegExp = refl
leaf_skips leaf.NoSubstitution = refl
leaf_skips leaf.TemplateHead = refl
leaf_skips leaf.JsxName = refl

whole_leaf : (m : Mode) (k : Kind) (h : Here) → skips m ≡ true → is_kind NoToken k ≡ false → is_kind Punctuator k ≡ false → is_kind (at_front m (same h.last [] || breaks h.rest) (skip h.rest)).kind k ≡ true → IsAlone m k (at_front m (same h.last [] || breaks h.rest) (skip h.rest)).raw
whole_leaf m k h q n p e = alone m k (same h.last [] || breaks h.rest) (skip h.rest) q n p (is_behind Blank h.rest refl) e

leaf_whole : (l : Leaf) (h : Here) → is_kind (next_token (leaf_mode l) h).kind (leaf_kind l) ≡ true → is_leaf (leaf_kind l) (next_token (leaf_mode l) h).raw ≡ true
leaf_whole leaf.Name h e = let w = whole_leaf Operator IdentifierName h refl refl refl e in and_both _ _ w.it w.ends
leaf_whole leaf.Num h e = let w = whole_leaf Operator NumericLiteral h refl refl refl e in and_both _ _ w.it w.ends
leaf_whole leaf.BigInt h e = let w = whole_leaf Operator BigIntLiteral h refl refl refl e in and_both _ _ w.it w.ends
leaf_whole leaf.Str h e = let w = whole_leaf Operator StringLiteral h refl refl refl e in and_both _ _ w.it w.ends
leaf_whole leaf.NoSubstitution h e = let w = whole_leaf Operator NoSubstitution h refl refl refl e in and_both _ _ w.it w.ends
leaf_whole leaf.TemplateHead h e = let w = whole_leaf Operator TemplateHead h refl refl refl e in and_both _ _ w.it w.ends
leaf_whole leaf.RegExp h e = let w = whole_leaf Operand RegExpLiteral h refl refl refl e in and_both _ _ w.it w.ends
leaf_whole leaf.JsxName h e = let w = whole_leaf Tag JsxName h refl refl refl e in and_both _ _ w.it w.ends

pub leaf_by : (l : Leaf) {h : Here} {t : Token} {b : Tokens} → IsNext (leaf_mode l) h t b → is_kind (kind_of t.kind) (leaf_kind l) ≡ true → is_leaf (leaf_kind l) (chars t.raw.now) ≡ true
leaf_by l {h} n e = subst (λ x. is_leaf (leaf_kind l) x ≡ true) (sym n.raw) (leaf_whole l h (ap (λ k. is_kind k (leaf_kind l)) (sym n.kind) ∙ e))

pub leaf_full : (l : Leaf) (raw : Text) → is_leaf (leaf_kind l) raw ≡ true → same raw [] ≡ false
leaf_full l (c ∷ raw) e = refl
leaf_full leaf.Name [] e = absurd (false≢true e)
leaf_full leaf.Num [] e = absurd (false≢true e)
leaf_full leaf.BigInt [] e = absurd (false≢true e)
leaf_full leaf.Str [] e = absurd (false≢true e)
leaf_full leaf.RegExp [] e = absurd (false≢true e)
leaf_full leaf.NoSubstitution [] e = absurd (false≢true e)
leaf_full leaf.TemplateHead [] e = absurd (false≢true e)
leaf_full leaf.JsxName [] e = absurd (false≢true e)

pub leaf_it : (l : Leaf) (t : Token) → is_kind (kind_of t.kind) (leaf_kind l) ≡ true → is_it t (leaf_kind l) (chars t.raw.now) ≡ true
leaf_it l t e = and_both _ _ e (same_self (chars t.raw.now))

pub leaf_not : (l : Leaf) (t : Token) (text : Text) → is_kind (kind_of t.kind) (leaf_kind l) ≡ false → is_it t (leaf_kind l) text ≡ false
leaf_not l t text e = ap (λ x. x && same (chars t.raw.now) text) e

-- ---- the pieces of a template behind a `}`, before which no gap is skipped

pub piece_some : (p : Piece') → is_kind NoToken (piece_kind p) ≡ false
piece_some piece.Middle = refl
piece_some piece.Tail = refl

pub piece_by : (p : Piece') {h : Here} {t : Token} {b : Tokens} → IsNext Piece h t b → is_kind (kind_of t.kind) (piece_kind p) ≡ true → is_leaf (piece_kind p) (chars t.raw.now) ≡ true
piece_by p {h} n e = subst (λ x. is_leaf (piece_kind p) x ≡ true) (sym n.raw) (by p (ap (λ k. is_kind k (piece_kind p)) (sym n.kind) ∙ e))
  where
    by : (q : Piece') → is_kind (next_token Piece h).kind (piece_kind q) ≡ true → is_leaf (piece_kind q) (next_token Piece h).raw ≡ true
    by piece.Middle i = let w = piece_alone TemplateMiddle h.rest refl i in and_both _ _ w.it w.ends
    by piece.Tail i = let w = piece_alone TemplateTail h.rest refl i in and_both _ _ w.it w.ends

pub piece_full : (p : Piece') (raw : Text) → is_leaf (piece_kind p) raw ≡ true → same raw [] ≡ false
piece_full p (c ∷ raw) e = refl
piece_full piece.Middle [] e = absurd (false≢true e)
piece_full piece.Tail [] e = absurd (false≢true e)

pub piece_it : (p : Piece') (t : Token) → is_kind (kind_of t.kind) (piece_kind p) ≡ true → is_it t (piece_kind p) (chars t.raw.now) ≡ true
piece_it p t e = and_both _ _ e (same_self (chars t.raw.now))

pub piece_not : (p : Piece') (t : Token) (text : Text) → is_kind (kind_of t.kind) (piece_kind p) ≡ false → is_it t (piece_kind p) text ≡ false
piece_not p t text e = ap (λ x. x && same (chars t.raw.now) text) e

piece_parted : {h : Here} {t : Token} {b : Tokens} → IsNext Piece h t b → is_kind (kind_of t.kind) NoToken ≡ false → h.rest ≡ chars t.raw.now ++ rest_of b
piece_parted {h} n e = sym (whole Piece false h.rest (ap (λ k. is_kind k NoToken) (sym n.kind) ∙ e)) ∙ (λ i. (sym n.raw i) ++ (sym n.rest i))

pub piece_begins : {h : Here} {t : Token} {b : Tokens} → IsNext Piece h t b → is_kind (kind_of t.kind) NoToken ≡ false → begin_of (here_of t.raw.now ending.Expr b h.end) ≡ end_of h
piece_begins {h = h} n e = (λ i. h.end - size (sym (piece_parted n e) i))

pub piece_shorter : {h : Here} {t : Token} {b : Tokens} → IsNext Piece h t b → is_kind (kind_of t.kind) NoToken ≡ false → same (chars t.raw.now) [] ≡ false → left (here_of t.raw.now ending.Expr b h.end) < left h
piece_shorter {h} {t} {b} n e f = omega (arith, full (chars t.raw.now) f, ap length (piece_parted n e), length-append (chars t.raw.now) (rest_of b))

-- ---- what a missing semicolon would stand behind is nothing to the next token

pub ends_on : {m : Mode} {h : Here} {t : Token} {b : Tokens} (e : Ending) → IsNext m h t b → IsNext m (record h { ending = e }) t b
ends_on e n = record { kind = n.kind; raw = n.raw; spelled = n.spelled; rest = n.rest; line = n.line; end = n.end; read = n.read; unsettled = n.unsettled }

-- ---- where a token begins that a sign leads behind

last_at : Place → Text
last_at Lost = []
last_at (At q e text) = q

rest_at : Place → Text
rest_at Lost = []
rest_at (At q e text) = text

there_by : (b : Bool) (y : Place) {q r : Text} {e : Ending} → go_if b y ≡ At q e r → b ≡ true
there_by true y e = refl
there_by false y e = let bad : IsTrue (is_found Lost) = subst (λ p. IsTrue (is_found p)) (sym e) refl in cc

pub takes_begins : {k : Kind} {t : Text} {x y : Here} → is_kind NoToken k ≡ false → Takes (Tok Operator k t) x y → begin_of y ≡ next_of x
unfolding last_at rest_at
takes_begins {k} {t} {x} {y} n takes =
    let m = next_token Operator x in
    let first = same x.last [] || breaks x.rest in
    let i : is_token m k t ≡ true = there_by (is_token m k t) (At t AfterExpr m.rest) takes.leads in
    let e : At t AfterExpr m.rest ≡ place_of y = ap (λ b. go_if b (At t AfterExpr m.rest)) (sym i) ∙ takes.leads in
    let is = and_parts (is_kind m.kind k) _ i in
    let raw : t ≡ m.raw = sym (same_is m.raw t is.1) in
    let front = skipped Operator x refl in
    let kind = ap (λ z. is_kind z.kind NoToken) (sym front) ∙ kind_some m.kind k n is.0 in
    (λ j. takes.same j - size (sym (ap last_at e) j ++ sym (ap rest_at e) j))
    ∙ ap (λ w. x.end - size w) (ap (λ w. w ++ m.rest) raw ∙ (ap (λ z. z.raw ++ z.rest) front ∙ whole Operator first (skip x.rest) kind))
