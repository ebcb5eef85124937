-- A token with which a statement begins, taken, and what is known where none is.
use Rattle.std.proofs.Common.{◌≡◌, ℕ, Bool, true, false, not, List, [], ◌∷◌, refl, sym, ap, ◌∙◌, subst}
use Rattle.std.specs.Prelude.{Option, Some, None, MatchOption, cond, codes, ◌&&◌}
use Rattle.std.specs.Str.{chars, IsUtf8}
use Rattle.std.proofs.lemmas.Bool.{false≢true}
use Rattle.jsx_base.specs.Token.{Text, Operator, IdentifierName, Punctuator, is_kind, same}
use Rattle.jsx_tree.specs.Signs.{Tok}
use Rattle.jsx_tree.specs.Reading.{forth}
use Rattle.jsx_tree.specs.declared.text.DeclareWord.TheVariants as declare_word
use Rattle.jsx_tree.proofs.Tokens.{and_left, and_right, and_both}
use Rattle.jsx_tree.proofs.Rows.Stopping.{is_not}
use Rattle.jsx_lex.specs.declared.lexer.Lexer.{Lexer as Tokens}
use Rattle.jsx_lex.specs.declared.token.Token.{Token}
use Rattle.jsx_lex.specs.declared.token.TokenKind.{TokenKind}
use Rattle.jsx_lex.specs.declared.token.TokenKind.TheVariants as token
use Rattle.jsx_lex.specs.Kinds.{is_punctuator, kind_of, spelling}
use Rattle.jsx_token.specs.declared.heading.Heading.{Heading}
use Rattle.jsx_token.specs.declared.heading.Heading.TheVariants as heading
use Rattle.jsx_token.specs.Here.{Here, place_of}
use Rattle.jsx_token.specs.Headings.{NoHeading, NoneIsIt, first_bytes, first_word, fixed_of, heading_sign, is_heading, words}
use Rattle.jsx_token.specs.Seen.{IsNext, NoNext}
use Rattle.jsx_token.specs.Spelled.{fixed_kind, fixed_text}
use Rattle.jsx_token.specs.declared.lexer.Fixed.TheVariants as fixed
use Rattle.jsx_token.specs.declared.word.Word.TheVariants as word
use Rattle.jsx_token.proofs.Headings.{every_heading, nth, at_place, some_is}
use Rattle.jsx_token.proofs.Words.{is_reserved}
use Rattle.jsx_token.proofs.Taking.{taken_by, missing_by, none_by, begins_by, shorter_by, fixed_some, fixed_kind_is, fixed_raw, mark_is}
use Rattle.jsx_token.proofs.TakingGrowths.{Took}

-- its sign is that of its token
signs : (h : Heading) → heading_sign h ≡ Tok Operator (fixed_kind (fixed_of h)) (fixed_text (fixed_of h))
signs heading.Empty = refl
signs heading.Block = refl
signs (heading.Var declare_word.Var) = refl
signs (heading.Var declare_word.Let) = refl
signs (heading.Var declare_word.Const) = refl
signs heading.If = refl
signs heading.Do = refl
signs heading.While = refl
signs heading.For = refl
signs heading.Switch = refl
signs heading.Continue = refl
signs heading.Break = refl
signs heading.Throw = refl
signs heading.Try = refl
signs heading.Debugger = refl
signs heading.Return = refl
signs heading.Function = refl
signs heading.Class = refl

pub none_heads : {h : Here} → NoNext Operator h → NoHeading (place_of h)
none_heads {h} n = record { on = λ g. ap (λ s. forth s (place_of h)) (signs g) ∙ none_by (fixed_kind (fixed_of g)) (fixed_text (fixed_of g)) (fixed_some (fixed_of g)) n }

pub other_heads : {h : Here} {t : Token} {b : Tokens} → IsNext Operator h t b → NoneIsIt t → NoHeading (place_of h)
other_heads {h} e n = record { on = λ g. ap (λ s. forth s (place_of h)) (signs g) ∙ missing_by (fixed_kind (fixed_of g)) (fixed_text (fixed_of g)) e (n.on g) }

pub heading_took : {h : Here} {t : Token} {b : Tokens} (g : Heading) → IsNext Operator h t b → is_heading t g ≡ true → Took h (heading_sign g) t b
heading_took {h} {t} g e i =
    let full = fixed_raw (fixed_of g) t i in
    record {
      full = full;
      taken = taken_by (fixed_kind (fixed_of g)) (fixed_text (fixed_of g)) e i ∙ sym (ap (λ s. forth s (place_of h)) (signs g));
      begins = begins_by e refl (fixed_kind_is (fixed_of g) t i);
      shorter = shorter_by e refl (fixed_kind_is (fixed_of g) t i) full;
    }

-- ---- which token it is

and_no : (a : Bool) → (a && false) ≡ false
and_no true = refl
and_no false = refl

pub words_chars : (bs : List ℕ) → IsUtf8 bs → first_bytes words bs ≡ first_word words (chars bs)
words_chars bs u = λ i.
    cond (is_reserved word.Var bs u i) (Some (heading.Var declare_word.Var)) (cond (is_reserved word.Let bs u i) (Some (heading.Var declare_word.Let)) (cond (is_reserved word.Const bs u i) (Some (heading.Var declare_word.Const)) (cond (is_reserved word.If bs u i) (Some heading.If)
    (cond (is_reserved word.Do bs u i) (Some heading.Do) (cond (is_reserved word.While bs u i) (Some heading.While) (cond (is_reserved word.For bs u i) (Some heading.For) (cond (is_reserved word.Switch bs u i) (Some heading.Switch) (cond (is_reserved word.Continue bs u i) (Some heading.Continue) (cond (is_reserved word.Break bs u i) (Some heading.Break) (cond (is_reserved word.Throw bs u i) (Some heading.Throw) (cond (is_reserved word.Try bs u i) (Some heading.Try) (cond (is_reserved word.Debugger bs u i) (Some heading.Debugger) (cond (is_reserved word.Return bs u i) (Some heading.Return) (cond (is_reserved word.Function bs u i) (Some heading.Function) (cond (is_reserved word.Class bs u i) (Some heading.Class) None)))))))))))))))

abbrev worded : Heading → Bool
worded h = is_kind IdentifierName (fixed_kind (fixed_of h))

abbrev text_of : Heading → Text
text_of h = fixed_text (fixed_of h)

first_is : (hs : List Heading) (t : Text) (h : Heading) → every_heading worded hs ≡ true → first_word hs t ≡ Some h → (worded h && same t (text_of h)) ≡ true
first_is [] t h a e = cc
first_is (g ∷ hs) t h a e = pick (same t (text_of g)) refl e (λ r. first_is hs t h (and_right (worded g) _ a) r)
  where
    pick : (b : Bool) → same t (text_of g) ≡ b → cond b (Some g) (first_word hs t) ≡ Some h → (first_word hs t ≡ Some h → (worded h && same t (text_of h)) ≡ true) → (worded h && same t (text_of h)) ≡ true
    pick true s e f = subst (λ j. (worded j && same t (text_of j)) ≡ true) (some_is e) (and_both _ _ (and_left (worded g) _ a) s)
    pick false s e f = f e

none_is : (hs : List Heading) (t : Text) → first_word hs t ≡ None → every_heading (λ h. not (same t (text_of h))) hs ≡ true
none_is [] t e = refl
none_is (g ∷ hs) t e = pick (same t (text_of g)) refl e (λ r. none_is hs t r)
  where
    pick : (b : Bool) → same t (text_of g) ≡ b → cond b (Some g) (first_word hs t) ≡ None → (first_word hs t ≡ None → every_heading (λ h. not (same t (text_of h))) hs ≡ true) → (not (same t (text_of g)) && every_heading (λ h. not (same t (text_of h))) hs) ≡ true
    pick true s e f = cc
    pick false s e f = and_both _ _ (ap not s) (f e)

named_not : (t : Token) (i : ℕ) (h : Heading) → every_heading (λ g. not (same (chars t.raw.now) (text_of g))) words ≡ true → nth i words ≡ Some h → is_heading t h ≡ false
named_not t i h a e = ap (λ b. is_kind (kind_of t.kind) (fixed_kind (fixed_of h)) && b) (is_not _ (at_place (λ g. not (same (chars t.raw.now) (text_of g))) words i a e)) ∙ and_no _

pub found_word : (t : Token) → t.kind ≡ token.IdentifierName → (o : Option Heading) → o ≡ first_word words (chars t.raw.now) → MatchOption o (NoneIsIt t) (λ h. is_heading t h ≡ true)
found_word t k (Some h) e = (λ i. is_kind (kind_of (k i)) (fixed_kind (fixed_of h)) && same (chars t.raw.now) (text_of h)) ∙ first_is words (chars t.raw.now) h refl (sym e)
found_word t k None e = record { on = on }
  where
    a : every_heading (λ g. not (same (chars t.raw.now) (text_of g))) words ≡ true
    a = none_is words (chars t.raw.now) (sym e)

    on : (h : Heading) → is_heading t h ≡ false
    on heading.Empty = ap (λ j. is_kind (kind_of j) Punctuator && same (chars t.raw.now) (codes ";")) k
    on heading.Block = ap (λ j. is_kind (kind_of j) Punctuator && same (chars t.raw.now) (codes "{")) k
    on (heading.Var declare_word.Var) = named_not t 0 (heading.Var declare_word.Var) a refl
    on (heading.Var declare_word.Let) = named_not t 1 (heading.Var declare_word.Let) a refl
    on (heading.Var declare_word.Const) = named_not t 2 (heading.Var declare_word.Const) a refl
    on heading.If = named_not t 3 heading.If a refl
    on heading.Do = named_not t 4 heading.Do a refl
    on heading.While = named_not t 5 heading.While a refl
    on heading.For = named_not t 6 heading.For a refl
    on heading.Switch = named_not t 7 heading.Switch a refl
    on heading.Continue = named_not t 8 heading.Continue a refl
    on heading.Break = named_not t 9 heading.Break a refl
    on heading.Throw = named_not t 10 heading.Throw a refl
    on heading.Try = named_not t 11 heading.Try a refl
    on heading.Debugger = named_not t 12 heading.Debugger a refl
    on heading.Return = named_not t 13 heading.Return a refl
    on heading.Function = named_not t 14 heading.Function a refl
    on heading.Class = named_not t 15 heading.Class a refl

pub found_empty : (t : Token) → t.kind ≡ token.Semicolon → (is_punctuator t.kind ≡ true → chars t.raw.now ≡ spelling t.kind) → is_heading t heading.Empty ≡ true
found_empty t k s = sym (mark_is true t token.Semicolon fixed.Semicolon ((λ _. k), (λ _. refl)) (record { mark = refl; text = refl; kind = refl }) s)

pub found_block : (t : Token) → t.kind ≡ token.LeftBrace → (is_punctuator t.kind ≡ true → chars t.raw.now ≡ spelling t.kind) → is_heading t heading.Block ≡ true
found_block t k s = sym (mark_is true t token.LeftBrace fixed.OpenBrace ((λ _. k), (λ _. refl)) (record { mark = refl; text = refl; kind = refl }) s)

no_name : (k : TokenKind) → (k ≡ token.IdentifierName → ⊥) → is_kind (kind_of k) IdentifierName ≡ false
no_name token.IdentifierName n = absurd (n refl)
no_name _ n = refl

pub no_heading : (t : Token) → (t.kind ≡ token.Semicolon → ⊥) → (t.kind ≡ token.LeftBrace → ⊥) → (t.kind ≡ token.IdentifierName → ⊥) → (is_punctuator t.kind ≡ true → chars t.raw.now ≡ spelling t.kind) → NoneIsIt t
no_heading t a b n s = record { on = on }
  where
    other : (h : Heading) → fixed_kind (fixed_of h) ≡ IdentifierName → is_heading t h ≡ false
    other h e = ap (λ b. b && same (chars t.raw.now) (text_of h)) (ap (is_kind (kind_of t.kind)) e ∙ no_name t.kind n)

    on : (h : Heading) → is_heading t h ≡ false
    on heading.Empty = sym (mark_is false t token.Semicolon fixed.Semicolon ((λ e. absurd (false≢true e)), (λ i. absurd (a i))) (record { mark = refl; text = refl; kind = refl }) s)
    on heading.Block = sym (mark_is false t token.LeftBrace fixed.OpenBrace ((λ e. absurd (false≢true e)), (λ i. absurd (b i))) (record { mark = refl; text = refl; kind = refl }) s)
    on (heading.Var declare_word.Var) = other (heading.Var declare_word.Var) refl
    on (heading.Var declare_word.Let) = other (heading.Var declare_word.Let) refl
    on (heading.Var declare_word.Const) = other (heading.Var declare_word.Const) refl
    on heading.If = other heading.If refl
    on heading.Do = other heading.Do refl
    on heading.While = other heading.While refl
    on heading.For = other heading.For refl
    on heading.Switch = other heading.Switch refl
    on heading.Continue = other heading.Continue refl
    on heading.Break = other heading.Break refl
    on heading.Throw = other heading.Throw refl
    on heading.Try = other heading.Try refl
    on heading.Debugger = other heading.Debugger refl
    on heading.Return = other heading.Return refl
    on heading.Function = other heading.Function refl
    on heading.Class = other heading.Class refl
