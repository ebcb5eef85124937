-- Punctuators at the front of a text.
use Rattle.std.proofs.Common.{◌≡◌, ℕ, List, [], ◌∷◌, ◌++◌, Bool, true, false, cond, not, ◌||◌, ◌&&◌, codes, refl, sym, ap, ◌∙◌, subst, arith}
use Rattle.std.specs.Prelude.{nat_eq}
use Rattle.std.proofs.lemmas.Bool.{false≢true, and_parts, or_parts, eqb-true, false_from_ne_true}
use Rattle.jsx_base.specs.Token.{Text, among, same, begins, longest, drop_as, first_is, is_digit, is_one_of, punctuators, punctuator}
use Rattle.jsx_lex.specs.declared.token.TokenKind.{TokenKind}
use Rattle.jsx_lex.specs.declared.token.TokenKind.TheVariants as token
use Rattle.jsx_lex.specs.Kinds.{is_punctuator, spelling}
use Rattle.jsx_lex.specs.Marks.{IsMark, IsSingle, is_clear, goes_on_by, is_pair, is_chain}
use Rattle.jsx_base.specs.Longer.{extends, all_begin}
use Rattle.jsx_base.proofs.Longest.{Bars, longest_is, longest_by, longest_none, same_is}

-- whether it is `?` and what follows makes no `?.` of it
abbrev pub is_question : Text → Bool
is_question text = begins (codes "?.") text && first_is is_digit (drop_as (codes "?.") text)

second_of : (b : Bool) (x y : Text) → b ≡ false → cond b x y ≡ y
second_of true x y e = absurd (false≢true (sym e))
second_of false x y e = refl

or_not : (a b : Bool) → (not a || b) ≡ true → a ≡ true → b ≡ true
or_not true b h e = h
or_not false b h e = absurd (false≢true e)

twice : (p r : Text) → begins (codes "?") p ≡ true → begins (codes ".") (p ++ r) ≡ true → ⊥
twice [] r h b = false≢true h
twice (d ∷ p) r h b =
    let e : 63 ≡ d = eqb-true 63 d ((and_parts (nat_eq 63 d) true h).0) in
    let f : 46 ≡ d = eqb-true 46 d ((and_parts (nat_eq 46 d) (begins [] (p ++ r)) b).0) in
    omega (arith, e, f)

no_question : (c : ℕ) (p r : Text) → is_clear (c ∷ p) ≡ true → is_question (c ∷ p ++ r) ≡ false
no_question c p r h =
    let n : begins (codes "?.") (c ∷ p ++ r) ≡ false = false_from_ne_true _ (λ b.
    let f = and_parts (nat_eq 63 c) (begins (codes ".") (p ++ r)) b in
    let g = and_parts (nat_eq 63 c) (begins (codes "?") p) (or_not (nat_eq 63 c) (nat_eq 63 c && begins (codes "?") p) h f.0) in
    twice p r g.1 f.1) in
    ap (λ b. b && first_is is_digit (drop_as (codes "?.") (c ∷ p ++ r))) n

no_question_at : (p r : Text) → is_clear p ≡ true → among p punctuators ≡ true → is_question (p ++ r) ≡ false
no_question_at [] r h a = absurd (false≢true a)
no_question_at (c ∷ p) r h a = no_question c p r h

some : (p : Text) → among p punctuators ≡ true → same p [] ≡ false
some [] h = absurd (false≢true h)
some (c ∷ p) h = refl

-- a punctuator before a text that doesn't go on with it
pub mark_is : (k : TokenKind) (ds text rest : Text) → goes_on_by ds k ≡ true → text ≡ spelling k ++ rest → Bars ds rest → IsMark text k rest
mark_is k ds text rest h e b =
    let p = and_parts (is_punctuator k) (is_clear (spelling k) && (among (spelling k) punctuators && all_begin (extends punctuators (spelling k)) ds)) h in
    let o = and_parts (is_clear (spelling k)) (among (spelling k) punctuators && all_begin (extends punctuators (spelling k)) ds) p.1 in
    let q = and_parts (among (spelling k) punctuators) (all_begin (extends punctuators (spelling k)) ds) o.1 in
    let n : is_question text ≡ false = ap is_question e ∙ no_question_at (spelling k) rest o.0 q.0 in
    record {
      longest_is = second_of (is_question text) (codes "?") (longest punctuators text) n ∙ (ap (longest punctuators) e ∙ longest_by punctuators (spelling k) ds rest q.0 q.1 b);
      text_is = e;
      is_mark = p.0;
      not_empty = some (spelling k) q.0;
    }

pub single_is : (c : ℕ) (k : TokenKind) (text : Text) → IsSingle c k → IsMark (c ∷ text) k text
single_is c k text s = mark_is k [] (c ∷ text) text s.goes_on (ap (λ x. x ++ text) (sym s.spelling_is)) tt

-- a pair of punctuators, the longer one with `=` more
pub plain_is : (k l : TokenKind) (text : Text) → is_pair k l ≡ true → first_is (nat_eq 61) text ≡ false → IsMark (spelling k ++ text) k text
plain_is k l text h n =
    let p = and_parts (same (spelling l) (spelling k ++ codes "=")) (goes_on_by (codes "=") k && goes_on_by [] l) h in
    mark_is k (codes "=") (spelling k ++ text) text ((and_parts (goes_on_by (codes "=") k) (goes_on_by [] l) p.1).0) refl (n, tt)

append_assoc : (p q r : Text) → (p ++ q) ++ r ≡ p ++ (q ++ r)
append_assoc [] q r = refl
append_assoc (c ∷ p) q r = ap (λ x. c ∷ x) (append_assoc p q r)

pub longer_is : (k l : TokenKind) (text rest : Text) → is_pair k l ≡ true → text ≡ 61 ∷ rest → IsMark (spelling k ++ text) l rest
longer_is k l text rest h e =
    let p = and_parts (same (spelling l) (spelling k ++ codes "=")) (goes_on_by (codes "=") k && goes_on_by [] l) h in
    let s : spelling l ≡ spelling k ++ codes "=" = same_is _ _ p.0 in
    mark_is l [] (spelling k ++ text) rest ((and_parts (goes_on_by (codes "=") k) (goes_on_by [] l) p.1).1)
    (ap (λ x. spelling k ++ x) e ∙ (sym (append_assoc (spelling k) (codes "=") rest) ∙ ap (λ x. x ++ rest) (sym s))) tt

-- a text that is spelled out further
pub moved : (c : ℕ) (whole text rest : Text) (k : TokenKind) → whole ≡ text → IsMark (c ∷ text) k rest → IsMark (c ∷ whole) k rest
moved c whole text rest k e m = subst (λ x. IsMark (c ∷ x) k rest) (sym e) m

pub moved_twice : (b c : ℕ) (whole text rest : Text) (k : TokenKind) → whole ≡ text → IsMark (b ∷ c ∷ text) k rest → IsMark (b ∷ c ∷ whole) k rest
moved_twice b c whole text rest k e m = subst (λ x. IsMark (b ∷ c ∷ x) k rest) (sym e) m

-- `?` and `?.`

pub chain_is : (text rest : Text) → text ≡ 46 ∷ rest → first_is is_digit rest ≡ false → IsMark (63 ∷ text) token.QuestionDot rest
chain_is text rest e n = record {
  longest_is = second_of (is_question (63 ∷ text)) (codes "?") (longest punctuators (63 ∷ text)) (ap (λ x. is_question (63 ∷ x)) e ∙ n)
      ∙ (ap (λ x. longest punctuators (63 ∷ x)) e ∙ longest_by punctuators (codes "?.") [] rest refl refl tt);
  text_is = ap (λ x. 63 ∷ x) e;
  is_mark = refl;
  not_empty = refl;
}

question_by : (a b : Bool) (x : Text) → (a && not b) ≡ false → (a ≡ false → x ≡ codes "?") → cond (a && b) (codes "?") x ≡ codes "?"
question_by true true x h f = refl
question_by true false x h f = absurd (false≢true (sym h))
question_by false b x h f = f refl

begins_one : (d : ℕ) (text : Text) → begins (d ∷ []) text ≡ first_is (nat_eq d) text
begins_one d [] = refl
begins_one d (c ∷ text) = elim (nat_eq d c) as (λ b. (b && true) ≡ b) [ true ↦ refl | false ↦ refl ]

pub question_is : (text : Text) → first_is (nat_eq 63) text ≡ false → is_chain text ≡ false → IsMark (63 ∷ text) token.Question text
question_is text q h = record {
  longest_is = ap (λ b. cond (b && first_is is_digit (drop_as (codes ".") text)) (codes "?") (longest punctuators (63 ∷ text))) (begins_one 46 text)
      ∙ question_by (first_is (nat_eq 46) text) (first_is is_digit (drop_as (codes ".") text)) (longest punctuators (63 ∷ text)) h
      (λ n. longest_by punctuators (codes "?") (codes "?.") text refl refl (q, (n, tt)));
  text_is = refl;
  is_mark = refl;
  not_empty = refl;
}

-- `.`

pub dot_is : (text : Text) → begins (codes "..") text ≡ false → IsMark (46 ∷ text) token.Dot text
dot_is text h = record {
  longest_is = longest_is punctuators (codes ".") text refl (ap (λ b. b || false) h);
  text_is = refl;
  is_mark = refl;
  not_empty = refl;
}

-- no punctuator

or_false : (a b : Bool) → a ≡ false → b ≡ false → (a || b) ≡ false
or_false true b e f = absurd (false≢true (sym e))
or_false false b e f = f

-- a character in none of two lists is not in both together
in_neither : (c : ℕ) (ds es : List ℕ) → is_one_of c ds ≡ false → is_one_of c es ≡ false → is_one_of c (ds ++ es) ≡ false
in_neither c [] es e f = f
in_neither c (d ∷ ds) es e f =
    let p = or_parts (nat_eq c d) (is_one_of c ds) e in
    or_false (nat_eq c d) (is_one_of c (ds ++ es)) p.0 (in_neither c ds es p.1 f)

abbrev firsts : List ℕ
firsts = codes "{}()[];,~:" ++ (codes "&|?." ++ (codes "=!<>" ++ codes "+-*/%^"))

no_question_mark : (c : ℕ) (text : Text) → is_one_of c firsts ≡ false → is_question (c ∷ text) ≡ false
no_question_mark c text h = ap (λ b. b && begins (codes ".") text && first_is is_digit (drop_as (codes "?.") (c ∷ text))) (false_from_ne_true (nat_eq 63 c) (λ e. false≢true (sym h ∙ ap (λ x. is_one_of x firsts) (sym (eqb-true 63 c e)))))

pub no_mark : (c : ℕ) (text : Text) → is_one_of c (codes "{}()[];,~:") ≡ false → is_one_of c (codes "&|?.") ≡ false → is_one_of c (codes "=!<>") ≡ false → is_one_of c (codes "+-*/%^") ≡ false → punctuator (c ∷ text) ≡ []
no_mark c text e f g h =
    let n : is_one_of c firsts ≡ false = in_neither c (codes "{}()[];,~:") (codes "&|?." ++ (codes "=!<>" ++ codes "+-*/%^")) e (in_neither c (codes "&|?.") (codes "=!<>" ++ codes "+-*/%^") f (in_neither c (codes "=!<>") (codes "+-*/%^") g h)) in
    second_of (is_question (c ∷ text)) (codes "?") (longest punctuators (c ∷ text)) (no_question_mark c text n) ∙ longest_none punctuators firsts c text refl n
