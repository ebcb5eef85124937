-- Over the characters that don't change a token's state.
use Rattle.std.proofs.Common.{◌≡◌, ℕ, [], ◌∷◌, Bool, true, false, cond, not, ◌||◌, codes, refl, sym, ap, ◌∙◌}
use Rattle.std.specs.Prelude.{nat_eq}
use Rattle.std.proofs.lemmas.Bool.{false≢true, eq-eqb, eqb-true}
use Rattle.jsx_base.specs.Token.{Text, TokenKind as Kind, JsxString, StringLiteral, State, Dead, Done, InName, InJsxName, InString, InEscape, InPiece, InPieceEscape, BehindDollar, InJsxString, InJsxText}
use Rattle.jsx_base.specs.Token.{step, is_dead, left, last_state, accepts, ended, no_token, first_is, is_part, is_one_of}
use Rattle.jsx_lex.specs.declared.token.TokenKind.{TokenKind}
use Rattle.jsx_lex.specs.declared.token.TokenKind.TheVariants as token
use Rattle.jsx_lex.specs.declared.plain.Plain.{Plain}
use Rattle.jsx_lex.specs.declared.plain.Plain.TheVariants as plain
use Rattle.jsx_lex.specs.Automaton.{closed_kind, open_kind}
use Rattle.jsx_lex.specs.Plain.{plain_state, stays}
use Rattle.jsx_lex.specs.Taken.{Keeps, IsTaken, NoneTaken}

not_true : (b : Bool) → not b ≡ true → b ≡ false
not_true true h = absurd (false≢true h)
not_true false h = refl

not_false : (b : Bool) → not b ≡ false → b ≡ true
not_false true h = refl
not_false false h = absurd (false≢true (sym h))

first_of : (b : Bool) (x y : State) → b ≡ true → cond b x y ≡ x
first_of true x y e = refl
first_of false x y e = absurd (false≢true e)

second_of : (b : Bool) (x y : State) → b ≡ false → cond b x y ≡ y
second_of true x y e = absurd (false≢true (sym e))
second_of false x y e = refl

string_by : (a b c d : Bool) (q : ℕ) → not (a || b || c || d) ≡ true → cond a (Done StringLiteral) (cond b (InEscape q) (cond (c || d) Dead (InString q))) ≡ InString q
string_by false false false false q h = refl
string_by true b c d q h = absurd (false≢true h)
string_by false true c d q h = absurd (false≢true h)
string_by false false true d q h = absurd (false≢true h)
string_by false false false true q h = absurd (false≢true h)

piece_by : (a b c : Bool) (k j : Kind) → not (a || b || c) ≡ true → cond a (Done k) (cond b (InPieceEscape k j) (cond c (BehindDollar k j) (InPiece k j))) ≡ InPiece k j
piece_by false false false k j h = refl
piece_by true b c k j h = absurd (false≢true h)
piece_by false true c k j h = absurd (false≢true h)
piece_by false false true k j h = absurd (false≢true h)

stays_so : (p : Plain) (c : ℕ) → stays p c ≡ true → step (plain_state p) c ≡ plain_state p
stays_so plain.Name c h = first_of (is_part c) _ _ h
stays_so plain.JsxName c h = first_of (is_part c || nat_eq c 45) _ _ h
stays_so (plain.String q) c h = string_by (nat_eq c q) (nat_eq c 92) (nat_eq c 10) (nat_eq c 13) q h
stays_so (plain.Template b) c h = piece_by (nat_eq c 96) (nat_eq c 92) (nat_eq c 36) (closed_kind b) (open_kind b) h
stays_so (plain.JsxString q) c h = second_of (nat_eq c q) _ _ (not_true (nat_eq c q) h)
stays_so plain.JsxText c h = second_of (is_one_of c (codes "{}<>")) _ _ (not_true (is_one_of c (codes "{}<>")) h)

alive : (p : Plain) → is_dead (plain_state p) ≡ false
alive plain.Name = refl
alive plain.JsxName = refl
alive (plain.String q) = refl
alive (plain.Template b) = refl
alive (plain.JsxString q) = refl
alive plain.JsxText = refl

pub kept : (s : State) (text : Text) → Keeps s text text
kept s text = record { left_is = refl; last_is = refl }

-- a character further
pub further : (p : Plain) (c : ℕ) (whole text rest : Text) → Keeps (plain_state p) whole text → text ≡ c ∷ rest → stays p c ≡ true → Keeps (plain_state p) whole rest
further p c whole text rest k w h =
    let s = plain_state p in
    let e : step s c ≡ s = stays_so p c h in
    let l : left s (c ∷ rest) ≡ left s rest = ap (λ x. cond (is_dead x) (c ∷ rest) (left x rest)) e ∙ ap (λ b. cond b (c ∷ rest) (left s rest)) (alive p) in
    let m : last_state s (c ∷ rest) ≡ last_state s rest = ap (λ x. cond (is_dead x) s (last_state x rest)) e ∙ ap (λ b. cond b s (last_state s rest)) (alive p) in
    record { left_is = k.left_is ∙ (ap (left s) w ∙ l); last_is = k.last_is ∙ (ap (last_state s) w ∙ m) }

-- where the automaton of one state stops
record Stops (s : State) (rest : Text) : Type 0 where
  pub left_is : left s rest ≡ rest
  pub last_is : last_state s rest ≡ s

stops_at : (s : State) (c : ℕ) (rest : Text) → step s c ≡ Dead → Stops s (c ∷ rest)
stops_at s c rest e = record {
  left_is = ap (λ x. cond (is_dead x) (c ∷ rest) (left x rest)) e;
  last_is = ap (λ x. cond (is_dead x) s (last_state x rest)) e;
}

name_stops : (rest : Text) → first_is (stays plain.Name) rest ≡ false → Stops InName rest
name_stops [] h = record { left_is = refl; last_is = refl }
name_stops (c ∷ rest) h = stops_at InName c rest (second_of (is_part c) _ _ h)

jsx_name_stops : (rest : Text) → first_is (stays plain.JsxName) rest ≡ false → Stops InJsxName rest
jsx_name_stops [] h = record { left_is = refl; last_is = refl }
jsx_name_stops (c ∷ rest) h = stops_at InJsxName c rest (second_of (is_part c || nat_eq c 45) _ _ h)

jsx_text_stops : (rest : Text) → first_is (stays plain.JsxText) rest ≡ false → Stops InJsxText rest
jsx_text_stops [] h = record { left_is = refl; last_is = refl }
jsx_text_stops (c ∷ rest) h = stops_at InJsxText c rest (first_of (is_one_of c (codes "{}<>")) _ _ (not_false (is_one_of c (codes "{}<>")) h))

pub name_is : (text rest : Text) → Keeps InName text rest → first_is (stays plain.Name) rest ≡ false → IsTaken InName text token.IdentifierName rest
name_is text rest k h =
    let e = name_stops rest h in
    record { literal = record { kind_is = ap accepts (k.last_is ∙ e.last_is); is_some = refl; no_mark = refl }; rest_is = k.left_is ∙ e.left_is; whole = λ raw. refl }

pub jsx_name_is : (text rest : Text) → Keeps InJsxName text rest → first_is (stays plain.JsxName) rest ≡ false → IsTaken InJsxName text token.JsxName rest
jsx_name_is text rest k h =
    let e = jsx_name_stops rest h in
    record { literal = record { kind_is = ap accepts (k.last_is ∙ e.last_is); is_some = refl; no_mark = refl }; rest_is = k.left_is ∙ e.left_is; whole = λ raw. refl }

pub jsx_text_is : (text rest : Text) → Keeps InJsxText text rest → first_is (stays plain.JsxText) rest ≡ false → IsTaken InJsxText text token.JsxText rest
jsx_text_is text rest k h =
    let e = jsx_text_stops rest h in
    record { literal = record { kind_is = ap accepts (k.last_is ∙ e.last_is); is_some = refl; no_mark = refl }; rest_is = k.left_is ∙ e.left_is; whole = λ raw. refl }

-- a token that is complete takes nothing more
pub done_left : (k : Kind) (text : Text) → left (Done k) text ≡ text
done_left k [] = refl
done_left k (c ∷ text) = refl

pub done_last : (k : Kind) (text : Text) → last_state (Done k) text ≡ Done k
done_last k [] = refl
done_last k (c ∷ text) = refl

pub jsx_string_is : (q : ℕ) (text body rest : Text) → Keeps (InJsxString q) text body → body ≡ q ∷ rest → IsTaken (InJsxString q) text token.JsxString rest
jsx_string_is q text body rest k w =
    let e : step (InJsxString q) q ≡ Done JsxString = first_of (nat_eq q q) _ _ (eq-eqb q q refl) in
    let l : left (InJsxString q) (q ∷ rest) ≡ rest = ap (λ x. cond (is_dead x) (q ∷ rest) (left x rest)) e ∙ done_left JsxString rest in
    let m : last_state (InJsxString q) (q ∷ rest) ≡ Done JsxString = ap (λ x. cond (is_dead x) (InJsxString q) (last_state x rest)) e ∙ done_last JsxString rest in
    record {
      literal = record { kind_is = ap accepts (k.last_is ∙ (ap (last_state (InJsxString q)) w ∙ m)); is_some = refl; no_mark = refl };
      rest_is = k.left_is ∙ (ap (left (InJsxString q)) w ∙ l);
      whole = λ raw. refl;
    }

by_both : (a b : Bool) → (a ≡ true → b ≡ true) → (b ≡ true → a ≡ true) → a ≡ b
by_both true b f g = sym (f refl)
by_both false true f g = g refl
by_both false false f g = refl

flipped : (c q : ℕ) → nat_eq c q ≡ nat_eq q c
flipped c q = by_both (nat_eq c q) (nat_eq q c) (λ e. eq-eqb q c (sym (eqb-true c q e))) (λ e. eq-eqb c q (sym (eqb-true q c e)))

open_string : (q : ℕ) (body : Text) → first_is (λ c. not (nat_eq c q)) body ≡ false → first_is (nat_eq q) body ≡ false → last_state (InJsxString q) body ≡ InJsxString q
open_string q [] h n = refl
open_string q (c ∷ body) h n = absurd (false≢true (sym n ∙ (sym (flipped c q) ∙ not_false (nat_eq c q) h)))

pub jsx_string_open : (q : ℕ) (text body : Text) → Keeps (InJsxString q) text body → first_is (stays (plain.JsxString q)) body ≡ false → first_is (nat_eq q) body ≡ false → NoneTaken (InJsxString q) text
jsx_string_open q text body k h n = record { none = λ raw. ap (λ s. ended (accepts s) raw (left (InJsxString q) text)) (k.last_is ∙ open_string q body h n) }

-- what is taken of the text behind such characters is taken of the whole
pub taken_on : (s : State) (text body rest : Text) (k : TokenKind) → Keeps s text body → IsTaken s body k rest → IsTaken s text k rest
taken_on s text body rest k h t = record {
  literal = record { kind_is = ap accepts h.last_is ∙ t.literal.kind_is; is_some = t.literal.is_some; no_mark = t.literal.no_mark };
  rest_is = h.left_is ∙ t.rest_is;
  whole = t.whole;
}

pub none_on : (s : State) (text body : Text) → Keeps s text body → NoneTaken s body → NoneTaken s text
none_on s text body h t = record { none = λ raw. ap (λ z. ended (accepts z) raw (left s text)) h.last_is ∙ (ap (λ x. ended (accepts (last_state s body)) raw x) h.left_is ∙ (t.none raw ∙ sym (ap no_token h.left_is))) }
