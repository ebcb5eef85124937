-- Where a semicolon is missing, and where none is: from the token that is looked at to the definitions' sign.
use Rattle.std.proofs.Common.{◌≡◌, ℕ, nat_eq, Bool, true, false, not, cond, List, [], ◌∷◌, ◌++◌, refl, sym, ◌∙◌, ap, subst}
use Rattle.std.specs.Prelude.{IsTrue, codes, ◌&&◌, ◌||◌}
use Rattle.std.specs.List.{list_any}
use Rattle.std.specs.Str.{bytes_eq, chars, IsUtf8}
use lib.Utf8.{encode}
use Rattle.std.proofs.lemmas.Bool.{false≢true, eqb-true, eq-eqb}
use Rattle.jsx_base.specs.Token.{Text, Mode, Operator, TokenKind, Punctuator, NoToken, NumericLiteral, BigIntLiteral, kind_number, is_kind, is_code, is_token, is_start, is_digit, first_is, same, among, begins, drop_as, punct, punctuator, Lexeme, no_token, ended, state, accepts, last_state, taken, left, lexed, at_front, token, skip, breaks, is_end}
use Rattle.jsx_base.proofs.Lexemes.{dropped, lexed_by}
use Rattle.jsx_base.proofs.Fronts.{other_ahead}
use Rattle.jsx_tree.specs.Signs.{Ending, AfterExpr, AfterBlock, AfterWord, AfterList, AfterBinding, AfterKey, AfterDo, Sign, Semicolon}
use Rattle.jsx_tree.specs.Kinds.{Tree, Forest, part, none}
use Rattle.jsx_tree.specs.Nonterminals.{Nonterminal}
use Rattle.jsx_tree.specs.Grammar.{NoTrailing, Context, Fixed, Part, Many, pun}
use Rattle.jsx_tree.specs.Reading.{Place, Lost, At, forth, go_if, continues, is_do, may_lack, prefix_words}
use Rattle.jsx_tree.specs.StaticRules.{Surroundings}
use Rattle.jsx_tree.specs.Walk.{is_found, one, piece, sign, Walk, next, steady}
use Rattle.jsx_tree.specs.Language.{Language, Whole}
use Rattle.jsx_tree.specs.Answers.{Moves, Only}
use Rattle.jsx_tree.proofs.Tokens.{and_left, and_both, same_is}
use Rattle.jsx_tree.proofs.Apart.{clash}
use Rattle.jsx_tree.proofs.Rows.Bridge.{found_at}
use Rattle.jsx_tree.proofs.Rows.Laws.{Lawful}
use Rattle.jsx_tree.proofs.Rows.Steps.{both}
use Rattle.jsx_tree.proofs.Rows.Stopping.{found_if, raw_there}
use Rattle.jsx_tree.proofs.Rows.Turns.{Turn, turn_as, turn_both, turn_next, prepend, prepend_cons, no_rest}
use Rattle.jsx_token.specs.declared.lexer.Ending as code
use Rattle.jsx_token.specs.Here.{Here, place_of, ending_of}
use Rattle.jsx_lex.specs.declared.lexer.Lexer.{Lexer as Tokens}
use Rattle.jsx_lex.specs.declared.token.Token.{Token}
use Rattle.jsx_lex.specs.declared.token.TokenKind.TheVariants as token_kind
use Rattle.jsx_token.specs.Seen.{IsNext, NoNext, next_token}
use Rattle.jsx_token.specs.Growths.{closed}
use Rattle.jsx_token.specs.Semicolons.{lacks, in_list}
use Rattle.jsx_token.proofs.Spellings.{same_bytes}

and_false : (a : Bool) → (a && false) ≡ false
and_false true = refl
and_false false = refl

-- ---- where no token begins there are no characters

empty_if : (b : Bool) (k : TokenKind) (c : ℕ) (raw rest : Text) → is_kind k NoToken ≡ false → is_kind (cond b (no_token rest) (record { kind = k; raw = c ∷ raw; rest = rest })).kind NoToken ≡ true → same (cond b (no_token rest) (record { kind = k; raw = c ∷ raw; rest = rest })).raw [] ≡ true
empty_if true k c raw rest n h = refl
empty_if false k c raw rest n h = absurd (false≢true (sym n ∙ h))

empty_ended : (k : TokenKind) (c : ℕ) (raw rest : Text) → is_kind (ended k (c ∷ raw) rest).kind NoToken ≡ true → same (ended k (c ∷ raw) rest).raw [] ≡ true
empty_ended NoToken c raw rest h = refl
empty_ended NumericLiteral c raw rest h = empty_if (first_is is_start rest || first_is is_digit rest) NumericLiteral c raw rest refl h
empty_ended BigIntLiteral c raw rest h = empty_if (first_is is_start rest || first_is is_digit rest) BigIntLiteral c raw rest refl h
empty_ended _ c raw rest h = absurd (false≢true h)

empty_mark : (b : Bool) (q text : Text) → is_kind (cond b (punct q text) (no_token text)).kind NoToken ≡ true → same (cond b (punct q text) (no_token text)).raw [] ≡ true
empty_mark true [] text h = refl
empty_mark true (c ∷ q) text h = absurd (false≢true h)
empty_mark false q text h = refl

empty_front : (m : Mode) (f : Bool) (s : Text) → is_kind (at_front m f s).kind NoToken ≡ true → same (at_front m f s).raw [] ≡ true
empty_front m f [] h = refl
empty_front m f (c ∷ s) h = by_html (is_code m && (begins (codes "<!--") (c ∷ s) || (f && begins (codes "-->") (c ∷ s)))) h
  where
    by_html : (b : Bool) → is_kind (cond b (no_token (c ∷ s)) (lexed m (state m c s) c s)).kind NoToken ≡ true → same (cond b (no_token (c ∷ s)) (lexed m (state m c s) c s)).raw [] ≡ true
    by_html true h = refl
    by_html false h =
        lexed_by (λ x. is_kind x.kind NoToken ≡ true → same x.raw [] ≡ true) m (state m c s) c s
        (λ _. empty_mark (is_code m) (punctuator (c ∷ s)) (c ∷ s)) (λ _. empty_ended (accepts (last_state (state m c s) s)) c (taken (state m c s) s) (left (state m c s) s)) h

pub none_raw : {h : Here} → NoNext Operator h → (next_token Operator h).raw ≡ []
none_raw {h} n = same_is (next_token Operator h).raw [] (empty_front Operator (same h.last [] || breaks h.rest) (skip h.rest) (ap (λ k. is_kind k NoToken) n.none))

-- ---- the next token, whether it is the first of the text or not: they differ before a `-->` alone

at_arrow : (P : Lexeme → Bool) → ((s r : Text) → P (no_token r) ≡ P (at_front Operator false (codes "-->" ++ s))) → (b : Bool) (s : Text) → P (at_front Operator true s) ≡ P (at_front Operator b s)
at_arrow P e true s = refl
at_arrow P e false [] = refl
at_arrow P e false (c ∷ s) = by_test (begins (codes "-->") (c ∷ s)) refl
  where
    by_test : (v : Bool) → begins (codes "-->") (c ∷ s) ≡ v → P (at_front Operator true (c ∷ s)) ≡ P (at_front Operator false (c ∷ s))
    by_test true is = subst (λ w. P (at_front Operator true w) ≡ P (at_front Operator false w)) (dropped (codes "-->") (c ∷ s) is) (e (drop_as (codes "-->") (c ∷ s)) (codes "-->" ++ drop_as (codes "-->") (c ∷ s)))
    by_test false is = λ i. P (cond (begins (codes "<!--") (c ∷ s) || is i) (no_token (c ∷ s)) (lexed Operator (state Operator c s) c s))

alike : (P : Lexeme → Bool) → ((s r : Text) → P (no_token r) ≡ P (at_front Operator false (codes "-->" ++ s))) → (first : Bool) (text : Text) → P (token Operator first text) ≡ P (token Operator false text)
alike P e false text = refl
alike P e true text = at_arrow P e (breaks text) (skip text)

-- ---- where no semicolon comes

semi_mark : (f : Bool) (s : Text) → is_kind (at_front Operator f (59 ∷ s)).kind Punctuator ≡ true
semi_mark true s = refl
semi_mark false s = refl

-- a token with its text is one
semi_front : (f : Bool) (s : Text) → same (at_front Operator f s).raw (codes ";") ≡ true → is_kind (at_front Operator f s).kind Punctuator ≡ true
semi_front f [] h = absurd (false≢true h)
semi_front f (c ∷ s) h = by_first (nat_eq 59 c) refl
  where
    x : Lexeme
    x = at_front Operator f (c ∷ s)

    by_first : (b : Bool) → nat_eq 59 c ≡ b → is_kind (at_front Operator f (c ∷ s)).kind Punctuator ≡ true
    by_first true e = subst (λ d. is_kind (at_front Operator f (d ∷ s)).kind Punctuator ≡ true) (eqb-true 59 c e) (semi_mark f s)
    by_first false e = absurd (clash (is_token x x.kind (codes ";")) (and_both (is_kind x.kind x.kind) _ (eq-eqb (kind_number x.kind) (kind_number x.kind) refl) h) ((other_ahead x.kind 59 [] Operator (c ∷ s) e).not_it f))

not_lost : (b : Bool) (q text : Text) (e : Ending) → cond b (At q e text) Lost ≡ Lost → b ≡ false
not_lost true q text e h = let bad : true ≡ false = ap is_found h in cc
not_lost false q text e h = refl

no_semicolon : (q : Text) (e : Ending) (text : Text) → forth (pun ";") (At q e text) ≡ Lost → same (token Operator false text).raw (codes ";") ≡ false
no_semicolon q e text n = sym (alike (λ x. same x.raw (codes ";")) (λ s r. refl) (same q []) text) ∙ by_text (same x.raw (codes ";")) refl
  where
    x : Lexeme
    x = token Operator (same q []) text

    by_text : (b : Bool) → same x.raw (codes ";") ≡ b → same x.raw (codes ";") ≡ false
    by_text false h = h
    by_text true h = absurd (clash (is_token x Punctuator (codes ";")) (and_both (is_kind x.kind Punctuator) _ (semi_front (same q [] || breaks text) (skip text) h) h) (not_lost (is_token x Punctuator (codes ";")) (codes ";") x.rest AfterExpr n))

-- ---- where one may be missing

lacks_alike : (e : Ending) (q : Text) (b : Bool) (s r : Text) → lacks e q (no_token r).raw b ≡ lacks e q (at_front Operator false (codes "-->" ++ s)).raw b
lacks_alike AfterExpr q b s r = refl
lacks_alike AfterBlock q b s r = refl
lacks_alike AfterWord q b s r = refl
lacks_alike AfterList q b s r = refl
lacks_alike AfterBinding q b s r = refl
lacks_alike AfterKey q b s r = refl
lacks_alike AfterDo q b s r = refl

-- the words that stand before a key, by their bytes
pub any_prefix : (bs : List ℕ) → IsUtf8 bs → list_any (λ y. bytes_eq y bs) prefix_words ≡ among (chars bs) prefix_words
unfolding encode
any_prefix bs u = λ i. same_bytes (codes "get") bs u refl i || (same_bytes (codes "set") bs u refl i || (same_bytes (codes "static") bs u refl i || false))

grouped : (a b c d : Bool) → (((a || b) || c) || d) ≡ (b || (a || (c || d)))
grouped true true c d = refl
grouped true false c d = refl
grouped false true c d = refl
grouped false false c d = refl

pub lack_is : (q : Text) (e : code.Ending) (text : Text) (r : Bool) → forth (pun ";") (At q (ending_of e) text) ≡ Lost → r ≡ (is_end text || lacks (ending_of e) q (token Operator (same q []) text).raw (breaks text)) → forth Semicolon (At q (ending_of e) text) ≡ go_if r (At q (ending_of e) text)
lack_is q e text r n is =
    let f = ending_of e in
    let x = token Operator false text in
    let quiet = no_semicolon q f text n in
    let no_mark : is_token x Punctuator (codes ";") ≡ false = ap (λ b. is_kind x.kind Punctuator && b) quiet ∙ and_false (is_kind x.kind Punctuator) in
    let lack : may_lack f q text ≡ r =
    (λ i. not (quiet i) && (((is_do f || is_end text) || same x.raw (codes "}")) || (breaks text && not (continues f q x.raw))))
    ∙ (grouped (is_do f) (is_end text) (same x.raw (codes "}")) (breaks text && not (continues f q x.raw))
    ∙ (ap (λ b. is_end text || b) (sym (alike (λ y. lacks f q y.raw (breaks text)) (lacks_alike f q (breaks text)) (same q []) text)) ∙ sym is)) in
    (λ i. cond (no_mark i) (At (codes ";") AfterExpr x.rest) (go_if (lack i) (At q f text)))

lack_at : (e : code.Ending) (h : Here) (r : Bool) → h.ending ≡ ending_of e → forth (pun ";") (place_of h) ≡ Lost → r ≡ (is_end h.rest || lacks (ending_of e) h.last (next_token Operator h).raw (breaks h.rest)) → forth Semicolon (place_of h) ≡ go_if r (place_of h)
lack_at e h r is n k = subst (λ f. forth (pun ";") (At h.last f h.rest) ≡ Lost → forth Semicolon (At h.last f h.rest) ≡ go_if r (At h.last f h.rest)) (sym is) (λ m. lack_is h.last e h.rest r m k) n

-- where no token can be read
pub none_lacks : {h : Here} {q : Text} (e : code.Ending) (b r : Bool) → h.ending ≡ ending_of e → h.last ≡ q → NoNext Operator h → forth (pun ";") (place_of h) ≡ Lost → b ≡ breaks h.rest → r ≡ lacks (ending_of e) q [] b → forth Semicolon (place_of h) ≡ go_if r (place_of h)
none_lacks {h} e b r is last n lost k l = lack_at e h r is lost (l ∙ ((λ i. lacks (ending_of e) (sym last i) (sym (none_raw n) i) (k i)) ∙ ap (λ c. c || lacks (ending_of e) h.last (next_token Operator h).raw (breaks h.rest)) (sym (n.more refl))))

-- at the end, and before a token
pub end_lacks : {h : Here} {t : Token} {b : Tokens} (e : code.Ending) (r : Bool) → h.ending ≡ ending_of e → IsNext Operator h t b → t.kind ≡ token_kind.End → forth (pun ";") (place_of h) ≡ Lost → r ≡ true → forth Semicolon (place_of h) ≡ go_if r (place_of h)
end_lacks {h} e r is n k lost l = lack_at e h r is lost (l ∙ ap (λ c. c || lacks (ending_of e) h.last (next_token Operator h).raw (breaks h.rest)) (sym ((n.end refl).0 k)))

not_true : (b : Bool) → (b ≡ true → ⊥) → b ≡ false
not_true true n = absurd (n refl)
not_true false n = refl

pub token_lacks : {h : Here} {t : Token} {b : Tokens} {q : Text} (e : code.Ending) (r : Bool) → h.ending ≡ ending_of e → h.last ≡ q → IsNext Operator h t b → (t.kind ≡ token_kind.End → ⊥) → forth (pun ";") (place_of h) ≡ Lost → r ≡ lacks (ending_of e) q (chars t.raw.now) t.new_line → forth Semicolon (place_of h) ≡ go_if r (place_of h)
token_lacks {h} e r is last n k lost l =
    lack_at e h r is lost (l ∙ ((λ i. lacks (ending_of e) (sym last i) (n.raw i) (n.line refl i))
    ∙ ap (λ c. c || lacks (ending_of e) h.last (next_token Operator h).raw (breaks h.rest)) (sym (not_true (is_end h.rest) (λ f. k ((n.end refl).1 f))))))

-- ---- a comma goes on with what stands in a list

pub closed_in_list : (x : Place) → closed x ≡ true → in_list x ≡ true
closed_in_list (At q AfterExpr text) h = h
closed_in_list (At q AfterBlock text) h = h
closed_in_list Lost h = cc
closed_in_list (At q _ text) h = cc

comma_on : (q : Text) (e : Ending) (text : Text) → is_do e ≡ false → continues e q (codes ",") ≡ true → IsTrue (is_found (forth (pun ",") (At q e text))) → forth Semicolon (At q e text) ≡ Lost
comma_on q e text d k f =
    let x = token Operator false text in
    let raw = raw_there Punctuator 44 [] q text (found_if _ (At (codes ",") AfterExpr (token Operator (same q []) text).rest) f) in
    let no_mark : is_token x Punctuator (codes ";") ≡ false = ap (λ t. is_kind x.kind Punctuator && same t (codes ";")) raw ∙ and_false (is_kind x.kind Punctuator) in
    let no_end : is_end text ≡ false = by_end raw (is_end text) refl in
    let lack : may_lack e q text ≡ false =
    (λ i. not (same (raw i) (codes ";")) && (((d i || no_end i) || same (raw i) (codes "}")) || (breaks text && not (continues e q (raw i)))))
    ∙ ((λ i. breaks text && not (k i)) ∙ and_false (breaks text)) in
    (λ i. cond (no_mark i) (At (codes ";") AfterExpr x.rest) (go_if (lack i) (At q e text)))
  where
    by_end : (token Operator false text).raw ≡ codes "," → (b : Bool) → is_end text ≡ b → is_end text ≡ false
    by_end raw false h = h
    by_end raw true h =
        let nothing = ap (λ s. (at_front Operator (breaks text) s).raw) (same_is (skip text) [] (and_left (same (skip text) []) _ h)) in
        absurd (false≢true (ap (λ t. same t []) (sym raw ∙ nothing)))

pub comma_first : (z : Place) → in_list z ≡ true → IsTrue (is_found (forth (pun ",") z)) → forth Semicolon z ≡ Lost
comma_first (At q AfterExpr text) h f = comma_on q AfterExpr text refl refl f
comma_first (At q AfterBlock text) h f = comma_on q AfterBlock text refl refl f
comma_first (At q AfterBinding text) h f = comma_on q AfterBinding text refl refl f
comma_first Lost h f = cc
comma_first (At q _ text) h f = cc

-- a list that goes on, where its end isn't there
pub one_more : {L : Language} {v : Surroundings} {a b : List Context} {c : Nonterminal} {s : Sign} {x y z w : Place} {t : Tree} (ts us : Forest) → Lawful L → no_rest c ≡ true → forth s z ≡ Lost
    → Turn L v (piece a (Many NoTrailing c) ∷ piece b (Fixed s) ∷ []) (piece a (Many NoTrailing c) ∷ piece b (Fixed s) ∷ []) x y (prepend ts)
    → Only L (steady v a) (Part c) y (one t) z → Moves (pun ",") z w → us ≡ both ts (part t none) → Turn L v (piece a (Many NoTrailing c) ∷ piece b (Fixed s) ∷ []) (piece a (Many NoTrailing c) ∷ piece b (Fixed s) ∷ []) x w (prepend us)
one_more {L} {v} {a} {b} {c = c} {s = s} {z = z} {t = t} ts us l n lost so o m e = turn_as (λ vs. prepend_cons ts t vs ∙ (λ i. prepend (sym e i) vs)) (turn_both so (turn_next l n o m (record { no = λ us w walk h. at us w walk })))
  where
    at : (us : Forest) (w : Place) → Walk (Whole L) (steady v) (piece b (Fixed s) ∷ []) z us w → ⊥
    at us w (next (sign g f) walk) = let bad : true ≡ false = sym (found_at g f) ∙ ap is_found lost in cc
