-- A leaf's text before what doesn't go on with it.
use Rattle.std.proofs.Common.{◌≡◌, ℕ, [], ◌∷◌, ◌++◌, Bool, true, false, cond, not, ◌||◌, ◌&&◌, codes, refl, sym, ap, ◌∙◌, subst, ◌≤◌, arith}
use Rattle.std.specs.Prelude.{nat_eq, nat_le}
use Rattle.std.proofs.lemmas.Bool.{false≢true, and_parts, and_from, eqb-true, leb-true, lt-leb, false_from_ne_true, not-true, or_from, and_left, and_right}
use Rattle.std.specs.Char.{is_ascii_alphabetic}
use Rattle.unicode_ident.specs.Ident.{is_xid_start}
use Rattle.jsx_base.specs.Token.{Text, Mode, Operand, Operator, Piece, TokenKind, IdentifierName, Punctuator, NumericLiteral, BigIntLiteral, StringLiteral, RegExpLiteral, NoSubstitution, TemplateHead, TemplateMiddle, TemplateTail, JsxName, JsxString, JsxText, Elision, NoToken, kind_number, is_kind, same, begins, first_is, is_digit, is_start, is_blank, is_line_end, Blank, InLineComment, Opening, BehindGap, gap_after_blank, is_over, skip, breaks, breaks_in, State, Dead, Done, InName, BehindZero, InDigits, InFraction, InString, InPiece, AtRegExp, step, is_dead, accepts, taken, left, last_state, state, is_code, lexed, no_token, punct, punctuator, ended, at_front, Lexeme, is_token, token, is_one_of}
use Rattle.jsx_base.proofs.Automata.{runs, stops, Read, read_on}
use Rattle.jsx_tree.specs.Layout.{first_char}
use Rattle.jsx_base.proofs.Lexemes.{whole, alive}
use Rattle.jsx_base.proofs.Longest.{same_is}
use Rattle.jsx_base.proofs.Gaps.{IsBehind, is_behind, stays}
use Rattle.jsx_tree.proofs.ReadBack.Joins.{follows}
use Rattle.jsx_tree.proofs.ReadBack.Punctuators.{Reads}
use Rattle.jsx_base.proofs.TokenStates.{no_number, Never, either, to, dead, last_never, accepts_never}
use Rattle.jsx_tree.proofs.ReadBack.TokenEnds.{outside, stop_at}
use Rattle.jsx_tree.proofs.ReadBack.Basics.{all_first, clash, if_false}

-- ---- kinds

of_number : ℕ → TokenKind
of_number n =
    cond (nat_eq n 0) IdentifierName (cond (nat_eq n 1) Punctuator (cond (nat_eq n 2) NumericLiteral (cond (nat_eq n 3) BigIntLiteral (cond (nat_eq n 4) StringLiteral (cond (nat_eq n 5) RegExpLiteral (cond (nat_eq n 6) NoSubstitution
    (cond (nat_eq n 7) TemplateHead (cond (nat_eq n 8) TemplateMiddle (cond (nat_eq n 9) TemplateTail (cond (nat_eq n 10) JsxName (cond (nat_eq n 11) JsxString (cond (nat_eq n 12) JsxText (cond (nat_eq n 13) Elision NoToken)))))))))))))

number_back : (k : TokenKind) → of_number (kind_number k) ≡ k
unfolding of_number
number_back IdentifierName = refl
number_back Punctuator = refl
number_back NumericLiteral = refl
number_back BigIntLiteral = refl
number_back StringLiteral = refl
number_back RegExpLiteral = refl
number_back NoSubstitution = refl
number_back TemplateHead = refl
number_back TemplateMiddle = refl
number_back TemplateTail = refl
number_back JsxName = refl
number_back JsxString = refl
number_back JsxText = refl
number_back Elision = refl
number_back NoToken = refl

pub kind_is : (j k : TokenKind) → is_kind j k ≡ true → j ≡ k
kind_is j k h = sym (number_back j) ∙ (ap of_number (eqb-true (kind_number j) (kind_number k) h) ∙ number_back k)

-- a kind of leaf of code
record Solid (s : TokenKind) : Type 0 where
  pub none : is_kind NoToken s ≡ false
  pub mark : is_kind Punctuator s ≡ false

kind_clash : {A : Type 0} (j s : TokenKind) → is_kind j s ≡ false → is_kind s s ≡ true → j ≡ s → A
kind_clash j s n y e = clash (is_kind s s) y (subst (λ x. is_kind x s ≡ false) e n)

-- ---- what a text is that is one token

record IsWhole (m : Mode) (s : TokenKind) (t : Text) : Type 0 where
  pub kind : (token m false t).kind ≡ s
  pub raw : (token m false t).raw ≡ t
  pub rest : (token m false t).rest ≡ []

whole_of : (m : Mode) (s : TokenKind) (t : Text) → (is_token (token m false t) s t && same (token m false t).rest []) ≡ true → IsWhole m s t
whole_of m s t h =
    let x : Lexeme = token m false t in
    let a = and_parts (is_kind x.kind s && same x.raw t) (same x.rest []) h in
    let b = and_parts (is_kind x.kind s) (same x.raw t) a.0 in
    record { kind = kind_is x.kind s b.0; raw = same_is x.raw t b.1; rest = same_is x.rest [] a.1 }

append_nil : (t : Text) → t ++ [] ≡ t
append_nil [] = refl
append_nil (c ∷ t) = ap (λ x. c ∷ x) (append_nil t)

ended_rest : (k : TokenKind) (raw rest : Text) → (ended k raw rest).rest ≡ rest
ended_rest NoToken raw rest = refl
ended_rest NumericLiteral raw rest = go (first_is is_start rest || first_is is_digit rest)
  where
    go : (b : Bool) → (cond b (no_token rest) (record { kind = NumericLiteral; raw = raw; rest = rest })).rest ≡ rest
    go true = refl
    go false = refl
ended_rest BigIntLiteral raw rest = go (first_is is_start rest || first_is is_digit rest)
  where
    go : (b : Bool) → (cond b (no_token rest) (record { kind = BigIntLiteral; raw = raw; rest = rest })).rest ≡ rest
    go true = refl
    go false = refl
ended_rest _ raw rest = refl

ended_kind : (s k : TokenKind) (raw rest : Text) → (NoToken ≡ s → ⊥) → (ended k raw rest).kind ≡ s → k ≡ s
ended_kind s NumericLiteral raw rest n h = go (first_is is_start rest || first_is is_digit rest) h
  where
    go : (b : Bool) → (cond b (no_token rest) (record { kind = NumericLiteral; raw = raw; rest = rest })).kind ≡ s → NumericLiteral ≡ s
    go true e = absurd (n e)
    go false e = e
ended_kind s BigIntLiteral raw rest n h = go (first_is is_start rest || first_is is_digit rest) h
  where
    go : (b : Bool) → (cond b (no_token rest) (record { kind = BigIntLiteral; raw = raw; rest = rest })).kind ≡ s → BigIntLiteral ≡ s
    go true e = absurd (n e)
    go false e = e
ended_kind s NoToken raw rest n h = h
ended_kind s IdentifierName raw rest n h = h
ended_kind s Punctuator raw rest n h = h
ended_kind s StringLiteral raw rest n h = h
ended_kind s RegExpLiteral raw rest n h = h
ended_kind s NoSubstitution raw rest n h = h
ended_kind s TemplateHead raw rest n h = h
ended_kind s TemplateMiddle raw rest n h = h
ended_kind s TemplateTail raw rest n h = h
ended_kind s JsxName raw rest n h = h
ended_kind s JsxString raw rest n h = h
ended_kind s JsxText raw rest n h = h
ended_kind s Elision raw rest n h = h

runs_all : (s : State) (t : Text) → left s t ≡ [] → runs s t ≡ true
runs_all s [] h = refl
runs_all s (c ∷ t) h = go (is_dead (step s c)) (runs_all (step s c) t) h
  where
    go : (b : Bool) → (left (step s c) t ≡ [] → runs (step s c) t ≡ true) → cond b (c ∷ t) (left (step s c) t) ≡ [] → cond b false (runs (step s c) t) ≡ true
    go true r e = cc
    go false r e = r e

-- the state that its first character gives takes all the others
record Core (m : Mode) (s : TokenKind) (c : ℕ) (t : Text) : Type 0 where
  pub alive : is_dead (state m c t) ≡ false
  pub runs_on : runs (state m c t) t ≡ true
  pub accepted : accepts (last_state (state m c t) t) ≡ s

core_made : (m : Mode) (s : TokenKind) (c : ℕ) (t : Text) → (NoToken ≡ s → ⊥) → is_dead (state m c t) ≡ false → (lexed m (state m c t) c t).kind ≡ s → (lexed m (state m c t) c t).rest ≡ [] → Core m s c t
core_made m s c t n d k r =
    let st : State = state m c t in
    let e : lexed m st c t ≡ ended (accepts (last_state st t)) (c ∷ taken st t) (left st t) = alive m st c t d in
    let l : left st t ≡ [] = sym (ended_rest (accepts (last_state st t)) (c ∷ taken st t) (left st t)) ∙ (sym (ap (λ x. x.rest) e) ∙ r) in
    record { alive = d; runs_on = runs_all st t l; accepted = ended_kind s _ (c ∷ taken st t) (left st t) n (sym (ap (λ x. x.kind) e) ∙ k) }

dead_state : (st : State) → is_dead st ≡ true → st ≡ Dead
dead_state Dead h = refl
dead_state _ h = absurd (false≢true h)

no_punct : {A : Type 0} (s : TokenKind) (b : Bool) (q text : Text) → (NoToken ≡ s → ⊥) → (Punctuator ≡ s → ⊥) → (cond b (punct q text) (no_token text)).kind ≡ s → A
no_punct s true [] text n p h = absurd (n h)
no_punct s true (c ∷ q) text n p h = absurd (p h)
no_punct s false q text n p h = absurd (n h)

-- in a mode of code
record Behind (m : Mode) (s : TokenKind) (c : ℕ) (t : Text) : Type 0 where
  pub over : is_over (gap_after_blank c t) ≡ true
  pub core : Core m s c t

core_lexed : (m : Mode) (s : TokenKind) (c : ℕ) (t : Text) → (NoToken ≡ s → ⊥) → (Punctuator ≡ s → ⊥) → (lexed m (state m c t) c t).kind ≡ s → (lexed m (state m c t) c t).rest ≡ [] → Core m s c t
core_lexed m s c t n p k r = go (is_dead (state m c t)) refl
  where
    go : (b : Bool) → is_dead (state m c t) ≡ b → Core m s c t
    go true e = no_punct s (is_code m) (punctuator (c ∷ t)) (c ∷ t) n p (subst (λ x. (lexed m x c t).kind ≡ s) (dead_state (state m c t) e) k)
    go false e = core_made m s c t n e k r

core_front : (m : Mode) (f : Bool) (s : TokenKind) (c : ℕ) (t : Text) → (NoToken ≡ s → ⊥) → (Punctuator ≡ s → ⊥) → (at_front m f (c ∷ t)).kind ≡ s → (at_front m f (c ∷ t)).rest ≡ [] → Core m s c t
core_front m f s c t n p k r = go (is_code m && (begins (codes "<!--") (c ∷ t) || (f && begins (codes "-->") (c ∷ t)))) k r
  where
    go : (b : Bool) → (cond b (no_token (c ∷ t)) (lexed m (state m c t) c t)).kind ≡ s → (cond b (no_token (c ∷ t)) (lexed m (state m c t) c t)).rest ≡ [] → Core m s c t
    go true k r = absurd (n k)
    go false k r = core_lexed m s c t n p k r

skip_whole : (m : Mode) (s : TokenKind) (t : Text) → (NoToken ≡ s → ⊥) → token m false t ≡ at_front m (breaks t) (skip t) → IsWhole m s t → skip t ≡ t
skip_whole m s t n e w =
    let x : Lexeme = at_front m (breaks t) (skip t) in
    let k : x.kind ≡ s = sym (ap (λ y. y.kind) e) ∙ w.kind in
    let a : is_kind x.kind NoToken ≡ false = false_from_ne_true (is_kind x.kind NoToken) (λ h. n (sym (kind_is x.kind NoToken h) ∙ k)) in
    sym (whole m (breaks t) (skip t) a) ∙ ap (λ y. y ++ x.rest) (sym (ap (λ y. y.raw) e) ∙ w.raw) ∙ ap (λ y. t ++ y) (sym (ap (λ y. y.rest) e) ∙ w.rest) ∙ append_nil t

behind_of : (m : Mode) (s : TokenKind) (c : ℕ) (t : Text) → (NoToken ≡ s → ⊥) → (Punctuator ≡ s → ⊥) → token m false (c ∷ t) ≡ at_front m (breaks (c ∷ t)) (skip (c ∷ t)) → IsWhole m s (c ∷ t) → Behind m s c t
behind_of m s c t n p e w =
    let k : skip (c ∷ t) ≡ c ∷ t = skip_whole m s (c ∷ t) n e w in
    let f : token m false (c ∷ t) ≡ at_front m (breaks (c ∷ t)) (c ∷ t) = e ∙ ap (at_front m (breaks (c ∷ t))) k in
    record {
      over = subst IsBehind k (is_behind Blank (c ∷ t) refl);
      core = core_front m (breaks (c ∷ t)) s c t n p (sym (ap (λ y. y.kind) f) ∙ w.kind) (sym (ap (λ y. y.rest) f) ∙ w.rest);
    }

-- ---- the same before a text that doesn't go on with it

stops_by : (st : State) (s : TokenKind) (t rest : Text) → accepts st ≡ s → all_first (follows s t) rest ≡ true → stops st rest ≡ true
stops_by st s t [] e h = refl
stops_by st s t (d ∷ rest) e h = stop_at st t d (subst (λ x. follows x t d ≡ true) (sym e) h)

first_off : (p q : ℕ → Bool) (rest : Text) → ((d : ℕ) → p d ≡ true → q d ≡ false) → all_first p rest ≡ true → first_is q rest ≡ false
first_off p q [] f h = refl
first_off p q (d ∷ rest) f h = f d h

number_ends : (k : TokenKind) (t raw rest : Text) → ((d : ℕ) → follows k t d ≡ true → is_start d ≡ false) → ((d : ℕ) → follows k t d ≡ true → is_digit d ≡ false) → all_first (follows k t) rest ≡ true
    → cond (first_is is_start rest || first_is is_digit rest) (no_token rest) (record { kind = k; raw = raw; rest = rest }) ≡ record { kind = k; raw = raw; rest = rest }
number_ends k t raw rest f g h = if_false _ _ _ (or_from _ _ (first_off (follows k t) is_start rest f h) (first_off (follows k t) is_digit rest g h))

ended_by : (s : TokenKind) (t raw rest : Text) → (NoToken ≡ s → ⊥) → all_first (follows s t) rest ≡ true → ended s raw rest ≡ record { kind = s; raw = raw; rest = rest }
ended_by NoToken t raw rest n h = absurd (n refl)
ended_by NumericLiteral t raw rest n h = number_ends NumericLiteral t raw rest (λ d e. (outside t d e).start) (λ d e. (outside t d e).digit) h
ended_by BigIntLiteral t raw rest n h =
    number_ends BigIntLiteral t raw rest (λ d e. not-true _ ((and_parts (not (is_start d)) (not (is_digit d)) e).0)) (λ d e. not-true _ ((and_parts (not (is_start d)) (not (is_digit d)) e).1)) h
ended_by IdentifierName t raw rest n h = refl
ended_by Punctuator t raw rest n h = refl
ended_by StringLiteral t raw rest n h = refl
ended_by RegExpLiteral t raw rest n h = refl
ended_by NoSubstitution t raw rest n h = refl
ended_by TemplateHead t raw rest n h = refl
ended_by TemplateMiddle t raw rest n h = refl
ended_by TemplateTail t raw rest n h = refl
ended_by JsxName t raw rest n h = refl
ended_by JsxString t raw rest n h = refl
ended_by JsxText t raw rest n h = refl
ended_by Elision t raw rest n h = refl

lexed_before : (m : Mode) (s : TokenKind) (c : ℕ) (t rest : Text) → (NoToken ≡ s → ⊥) → Core m s c t → state m c (t ++ rest) ≡ state m c t → all_first (follows s (c ∷ t)) rest ≡ true
    → lexed m (state m c (t ++ rest)) c (t ++ rest) ≡ record { kind = s; raw = c ∷ t; rest = rest }
lexed_before m s c t rest n w e h =
    let st : State = state m c t in
    let r : Read st t rest = read_on st t rest w.runs_on (stops_by (last_state st t) s (c ∷ t) rest w.accepted h) in
    ap (λ x. lexed m x c (t ++ rest)) e
    ∙ alive m st c (t ++ rest) w.alive
    ∙ ap (λ x. ended (accepts x) (c ∷ taken st (t ++ rest)) (left st (t ++ rest))) r.state_is
    ∙ ap (λ x. ended x (c ∷ taken st (t ++ rest)) (left st (t ++ rest))) w.accepted
    ∙ ap (λ x. ended s (c ∷ x) (left st (t ++ rest))) r.takes_it
    ∙ ap (λ x. ended s (c ∷ t) x) r.leaves
    ∙ ended_by s (c ∷ t) (c ∷ t) rest n h

-- which first characters a leaf of code has not
record Far (m : Mode) (c : ℕ) (t : Text) : Type 0 where
  pub less : nat_eq 60 c ≡ false
  pub minus : nat_eq 45 c ≡ false
  -- where it is alone
  pub slash : t ≡ [] → nat_eq 47 c ≡ false
  pub point : t ≡ [] → nat_eq c 46 ≡ false

done_stays : (k : TokenKind) (t : Text) → last_state (Done k) t ≡ Done k
done_stays k [] = refl
done_stays k (c ∷ t) = refl

far_operator : (s : TokenKind) (c : ℕ) (t : Text) → (NoToken ≡ s → ⊥) → (Punctuator ≡ s → ⊥) → Core Operator s c t → Far Operator c t
far_operator s c t n p w = record {
  less = false_from_ne_true _ (λ e. clash _ (subst (λ x. is_dead (state Operator x t) ≡ true) (eqb-true 60 c e) refl) w.alive);
  minus = false_from_ne_true _ (λ e. clash _ (subst (λ x. is_dead (state Operator x t) ≡ true) (eqb-true 45 c e) refl) w.alive);
  slash = λ i. false_from_ne_true _ (λ e. clash _ (subst (λ x. is_dead (state Operator x t) ≡ true) (eqb-true 47 c e) refl) w.alive);
  point = λ i. false_from_ne_true _ (λ e. clash _ (subst (λ x. is_dead (state Operator x t) ≡ true) (sym (eqb-true c 46 e)) (subst (λ y. is_dead (state Operator 46 y) ≡ true) (sym i) refl)) w.alive);
}

far_operand : (s : TokenKind) (c : ℕ) (t : Text) → (NoToken ≡ s → ⊥) → (Punctuator ≡ s → ⊥) → Core Operand s c t → Far Operand c t
far_operand s c t n p w = record {
  less = false_from_ne_true _ (λ e. p (sym (subst (λ x. accepts (last_state (state Operand x t) t) ≡ Punctuator) (eqb-true 60 c e) (ap accepts (done_stays Punctuator t))) ∙ w.accepted));
  minus = false_from_ne_true _ (λ e. clash _ (subst (λ x. is_dead (state Operand x t) ≡ true) (eqb-true 45 c e) refl) w.alive);
  slash = λ i. false_from_ne_true _ (λ e. n (sym (subst (λ x. accepts (last_state (state Operand x t) t) ≡ NoToken) (eqb-true 47 c e) (subst (λ y. accepts (last_state (state Operand 47 y) y) ≡ NoToken) (sym i) refl)) ∙ w.accepted));
  point = λ i. false_from_ne_true _ (λ e. clash _ (subst (λ x. is_dead (state Operand x t) ≡ true) (sym (eqb-true c 46 e)) (subst (λ y. is_dead (state Operand 46 y) ≡ true) (sym i) refl)) w.alive);
}

over_before : (c : ℕ) (t rest : Text) → (t ≡ [] → nat_eq 47 c ≡ false) → is_over (gap_after_blank c t) ≡ true → is_over (gap_after_blank c (t ++ rest)) ≡ true
over_before c (d ∷ t) rest n h = h
over_before c [] rest n h = go (nat_eq 47 c) (n refl) (is_blank c || is_line_end c) h
  where
    go : (b : Bool) → b ≡ false → (a : Bool) → is_over (cond a Blank (cond (b && false) InLineComment (cond (b && false) (Opening 1) BehindGap))) ≡ true
        → is_over (cond a Blank (cond (b && begins (codes "/") rest) InLineComment (cond (b && begins (codes "*") rest) (Opening 1) BehindGap))) ≡ true
    go false e a g = g
    go true e a g = absurd (false≢true (sym e))

state_operator : (c : ℕ) (t rest : Text) → (t ≡ [] → nat_eq c 46 ≡ false) → state Operator c (t ++ rest) ≡ state Operator c t
state_operator c (d ∷ t) rest n = refl
state_operator c [] rest n = ap (λ b. with_point b) (and_left (nat_eq c 46) (first_is is_digit rest) (n refl) ∙ sym (and_left (nat_eq c 46) false (n refl)))
  where
    with_point : Bool → State
    with_point b =
        cond (is_start c) InName (cond (nat_eq c 48) BehindZero (cond (is_digit c) (InDigits true) (cond b (InFraction false) (cond (nat_eq c 34 || nat_eq c 39) (InString c) (cond (nat_eq c 96) (InPiece NoSubstitution TemplateHead) Dead)))))

state_operand : (c : ℕ) (t rest : Text) → (t ≡ [] → nat_eq c 46 ≡ false) → state Operand c (t ++ rest) ≡ state Operand c t
state_operand c (d ∷ t) rest n = refl
state_operand c [] rest n = ap (λ b. with_point b) (and_left (nat_eq c 46) (first_is is_digit rest) (n refl) ∙ sym (and_left (nat_eq c 46) false (n refl)))
  where
    with_point : Bool → State
    with_point b =
        cond (is_start c) InName (cond (nat_eq c 48) BehindZero (cond (is_digit c) (InDigits true) (cond b (InFraction false) (cond (nat_eq c 34 || nat_eq c 39) (InString c) (cond (nat_eq c 96) (InPiece NoSubstitution TemplateHead)
        (cond (nat_eq c 47) AtRegExp (cond (nat_eq c 60) (Done Punctuator) Dead)))))))

reads_by : (m : Mode) (s : TokenKind) (c : ℕ) (t rest : Text) → (NoToken ≡ s → ⊥) → Behind m s c t → Far m c t → state m c (t ++ rest) ≡ state m c t → all_first (follows s (c ∷ t)) rest ≡ true → Reads m s (c ∷ t) rest
reads_by m s c t rest n w far e h = record {
  skipped = stays c (t ++ rest) (over_before c t rest far.slash w.over);
  unbroken = ap (λ x. not x && (is_line_end c || breaks_in (gap_after_blank c (t ++ rest)) (t ++ rest))) (over_before c t rest far.slash w.over);
  read = λ f. if_false (is_code m && (begins (codes "<!--") (c ∷ (t ++ rest)) || (f && begins (codes "-->") (c ∷ (t ++ rest))))) (no_token (c ∷ (t ++ rest))) (lexed m (state m c (t ++ rest)) c (t ++ rest))
      (and_right (is_code m) _ (or_from _ _ (and_left (nat_eq 60 c) _ far.less) (and_right f _ (and_left (nat_eq 45 c) _ far.minus))))
      ∙ lexed_before m s c t rest n w.core e h;
}

pub operator_reads : (s : TokenKind) (t rest : Text) → (NoToken ≡ s → ⊥) → (Punctuator ≡ s → ⊥) → (is_token (token Operator false t) s t && same (token Operator false t).rest []) ≡ true → all_first (follows s t) rest ≡ true → Reads Operator s t rest
operator_reads s [] rest n p w h = absurd (n ((whole_of Operator s [] w).kind))
operator_reads s (c ∷ t) rest n p w h =
    let b : Behind Operator s c t = behind_of Operator s c t n p refl (whole_of Operator s (c ∷ t) w) in
    let far : Far Operator c t = far_operator s c t n p b.core in
    reads_by Operator s c t rest n b far (state_operator c t rest far.point) h

pub operand_reads : (s : TokenKind) (t rest : Text) → (NoToken ≡ s → ⊥) → (Punctuator ≡ s → ⊥) → (is_token (token Operand false t) s t && same (token Operand false t).rest []) ≡ true → all_first (follows s t) rest ≡ true → Reads Operand s t rest
operand_reads s [] rest n p w h = absurd (n ((whole_of Operand s [] w).kind))
operand_reads s (c ∷ t) rest n p w h =
    let b : Behind Operand s c t = behind_of Operand s c t n p refl (whole_of Operand s (c ∷ t) w) in
    let far : Far Operand c t = far_operand s c t n p b.core in
    reads_by Operand s c t rest n b far (state_operand c t rest far.point) h

-- a template's piece: nothing is skipped before it
pub piece_reads : (s : TokenKind) (t rest : Text) (f : Bool) → (NoToken ≡ s → ⊥) → (Punctuator ≡ s → ⊥) → (is_token (token Piece false t) s t && same (token Piece false t).rest []) ≡ true → all_first (follows s t) rest ≡ true
    → token Piece f (t ++ rest) ≡ record { kind = s; raw = t; rest = rest }
piece_reads s [] rest f n p w h = absurd (n ((whole_of Piece s [] w).kind))
piece_reads s (c ∷ t) rest f n p w h =
    let x : IsWhole Piece s (c ∷ t) = whole_of Piece s (c ∷ t) w in
    lexed_before Piece s c t rest n (core_front Piece false s c t n p x.kind x.rest) refl h

-- a regular expression begins with a slash
second_only : {k : TokenKind} (b : Bool) (x : State) {y : State} → b ≡ false → Never k y → Never k (cond b x y)
second_only true x h j = absurd (false≢true (sym h))
second_only false x h j = j

no_regexp : (c : ℕ) (t : Text) → nat_eq c 47 ≡ false → Never RegExpLiteral (state Operand c t)
no_regexp c t h =
    either _ (to InName refl) (either _ (to BehindZero refl) (either _ (to (InDigits true) refl) (either _ (to (InFraction false) refl) (either _ (to (InString c) refl) (either _ (to (InPiece NoSubstitution TemplateHead) refl)
    (second_only (nat_eq c 47) AtRegExp h (either _ (to (Done Punctuator) refl) dead)))))))

pub slash_first : (t : Text) → (is_token (token Operand false t) RegExpLiteral t && same (token Operand false t).rest []) ≡ true → first_is (λ c. nat_eq c 47) t ≡ true
slash_first [] w = absurd (false≢true w)
slash_first (c ∷ t) w = go (nat_eq c 47) refl
  where
    b : Behind Operand RegExpLiteral c t
    b = behind_of Operand RegExpLiteral c t (λ e. cc) (λ e. cc) refl (whole_of Operand RegExpLiteral (c ∷ t) w)

    go : (x : Bool) → nat_eq c 47 ≡ x → x ≡ true
    go true e = refl
    go false e =
        let n : is_kind (accepts (last_state (state Operand c t) t)) RegExpLiteral ≡ false = accepts_never RegExpLiteral (last_state (state Operand c t) t) refl ((last_never RegExpLiteral (state Operand c t) t (no_regexp c t e)).says) in
        absurd (false≢true (sym n ∙ ap (λ x. is_kind x RegExpLiteral) b.core.accepted))

-- ---- first characters

-- what isn't the start of a name begins none
no_name : (c : ℕ) (t : Text) → is_start c ≡ false → Never IdentifierName (state Operator c t)
no_name c t h =
    second_only (is_start c) InName h (either _ (to BehindZero refl) (either _ (to (InDigits true) refl) (either _ (to (InFraction false) refl) (either _ (to (InString c) refl) (either _ (to (InPiece NoSubstitution TemplateHead) refl) dead)))))

no_piece : (k : TokenKind) (c : ℕ) (t : Text) → is_kind IdentifierName k ≡ false → is_kind NumericLiteral k ≡ false → is_kind BigIntLiteral k ≡ false → is_kind StringLiteral k ≡ false → nat_eq c 96 ≡ false → Never k (state Operator c t)
no_piece k c t a b d e h =
    let n : no_number k ≡ true = and_from (not (is_kind NumericLiteral k)) (not (is_kind BigIntLiteral k)) (ap not b) (ap not d) in
    either _ (to InName (ap not a)) (either _ (to BehindZero n) (either _ (to (InDigits true) n) (either _ (to (InFraction false) n) (either _ (to (InString c) (ap not e)) (second_only (nat_eq c 96) (InPiece NoSubstitution TemplateHead) h dead)))))

operator_core : (s : TokenKind) (c : ℕ) (t : Text) → (NoToken ≡ s → ⊥) → (Punctuator ≡ s → ⊥) → (is_token (token Operator false (c ∷ t)) s (c ∷ t) && same (token Operator false (c ∷ t)).rest []) ≡ true → Core Operator s c t
operator_core s c t n p w = (behind_of Operator s c t n p refl (whole_of Operator s (c ∷ t) w)).core

never_core : {A : Type 0} (s : TokenKind) (c : ℕ) (t : Text) → is_kind NoToken s ≡ false → is_kind s s ≡ true → Core Operator s c t → Never s (state Operator c t) → A
never_core s c t n y w v =
    let m : is_kind (accepts (last_state (state Operator c t) t)) s ≡ false = accepts_never s (last_state (state Operator c t) t) n ((last_never s (state Operator c t) t v).says) in
    clash (is_kind s s) y (sym (ap (λ x. is_kind x s) w.accepted) ∙ m)

-- none begins with `=` or `>`
pub no_sign : (s : TokenKind) (t : Text) → (NoToken ≡ s → ⊥) → (Punctuator ≡ s → ⊥) → (is_token (token Operator false t) s t && same (token Operator false t).rest []) ≡ true → is_one_of (first_char t) (codes "=>") ≡ false
no_sign s [] n p w = refl
no_sign s (c ∷ t) n p w =
    let k : Core Operator s c t = operator_core s c t n p w in
    or_from (nat_eq c 61) (nat_eq c 62 || false) (false_from_ne_true (nat_eq c 61) (λ e. clash _ (subst (λ x. is_dead (state Operator x t) ≡ true) (sym (eqb-true c 61 e)) refl) k.alive))
    (or_from (nat_eq c 62) false (false_from_ne_true (nat_eq c 62) (λ e. clash _ (subst (λ x. is_dead (state Operator x t) ≡ true) (sym (eqb-true c 62 e)) refl) k.alive)) refl)

pub name_starts : (t : Text) → (is_token (token Operator false t) IdentifierName t && same (token Operator false t).rest []) ≡ true → first_is is_start t ≡ true
name_starts [] w = absurd (false≢true w)
name_starts (c ∷ t) w = go (is_start c) refl
  where
    k : Core Operator IdentifierName c t
    k = operator_core IdentifierName c t (λ e. cc) (λ e. cc) w

    go : (b : Bool) → is_start c ≡ b → b ≡ true
    go true e = refl
    go false e = never_core IdentifierName c t refl refl k (no_name c t e)

pub piece_starts : (s : TokenKind) (t : Text) → (NoToken ≡ s → ⊥) → (Punctuator ≡ s → ⊥) → is_kind NoToken s ≡ false → is_kind s s ≡ true → is_kind IdentifierName s ≡ false → is_kind NumericLiteral s ≡ false → is_kind BigIntLiteral s ≡ false → is_kind StringLiteral s ≡ false
    → (is_token (token Operator false t) s t && same (token Operator false t).rest []) ≡ true → nat_eq (first_char t) 96 ≡ true
piece_starts s [] n p i y a b d e w = absurd (n ((whole_of Operator s [] w).kind))
piece_starts s (c ∷ t) n p i y a b d e w = go (nat_eq c 96) refl
  where
    k : Core Operator s c t
    k = operator_core s c t n p w

    go : (x : Bool) → nat_eq c 96 ≡ x → x ≡ true
    go true f = refl
    go false f = never_core s c t i y k (no_piece s c t a b d e f)

-- a digit begins no name
pub start_no_digit : (c : ℕ) → is_start c ≡ true → is_digit c ≡ false
start_no_digit c h = false_from_ne_true (is_digit c) (λ d. clash _ h (off d))
  where
    off : is_digit c ≡ true → is_start c ≡ false
    off d =
        let r = and_parts (nat_le 48 c) (nat_le c 57) d in
        let lo : 48 ≤ c = leb-true 48 c r.0 in
        let hi : c ≤ 57 = leb-true c 57 r.1 in
        let l65 : nat_le 65 c ≡ false = lt-leb 65 c (omega arith) in
        let l97 : nat_le 97 c ≡ false = lt-leb 97 c (omega arith) in
        let l128 : nat_le 128 c ≡ false = lt-leb 128 c (omega arith) in
        let n36 : nat_eq c 36 ≡ false = false_from_ne_true (nat_eq c 36) (λ e. let f : c ≡ 36 = eqb-true c 36 e in omega arith) in
        let n95 : nat_eq c 95 ≡ false = false_from_ne_true (nat_eq c 95) (λ e. let f : c ≡ 95 = eqb-true c 95 e in omega arith) in
        or_from (is_ascii_alphabetic c || is_one_of c (36 ∷ 95 ∷ [])) (nat_le 128 c && is_xid_start c)
        (or_from (is_ascii_alphabetic c) (is_one_of c (36 ∷ 95 ∷ [])) (or_from (nat_le 65 c && nat_le c 90) (nat_le 97 c && nat_le c 122) (and_left (nat_le 65 c) (nat_le c 90) l65) (and_left (nat_le 97 c) (nat_le c 122) l97))
        (or_from (nat_eq c 36) (nat_eq c 95 || false) n36 (or_from (nat_eq c 95) false n95 refl))) (and_left (nat_le 128 c) (is_xid_start c) l128)
