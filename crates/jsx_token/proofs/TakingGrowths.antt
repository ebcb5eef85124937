-- A token that goes on with an expression, taken, and what is known where none is.
use Rattle.std.proofs.Common.{◌≡◌, ◌<◌, ℕ, nat_le, Bool, true, false, not, List, [], ◌∷◌, refl, sym, ap, ◌∙◌, subst}
use Rattle.std.specs.Prelude.{Some, None, ◌&&◌, ◌||◌, codes}
use Rattle.std.specs.Str.{chars}
use Rattle.jsx_base.specs.Token.{Text, Operator, Lexeme, NoToken, among, breaks, is_kind, token, same}
use Rattle.jsx_tree.specs.Signs.{Ending, AfterExpr, Sign, Tok}
use Rattle.jsx_tree.specs.Reading.{Place, At, forth, go_if, is_backquote}
use Rattle.jsx_token.specs.Marks.{marks, is_sign, is_mark, goes_at, steps, goes_on_so_far, ends_so_far, goers, goes_by_mark, is_quoted, grows_by_mark, unarrowed}
use Rattle.jsx_tree.specs.Grammar.{pun}
use Rattle.jsx_tree.specs.Stops.{going, quotes}
use Rattle.jsx_tree.proofs.Tokens.{and_left, and_right, same_is}
use Rattle.jsx_tree.proofs.Apart.{clash}
use Rattle.jsx_tree.proofs.Rows.Stopping.{is_not, not_is}
use Rattle.jsx_lex.specs.declared.lexer.Lexer.{Lexer as Tokens}
use Rattle.jsx_lex.specs.declared.token.Token.{Token}
use Rattle.jsx_lex.specs.Kinds.{kind_of}
use Rattle.jsx_token.specs.Here.{Here, place_of, left}
use Rattle.jsx_token.specs.Seen.{IsNext, NoNext, here_of, next_token}
use Rattle.jsx_token.specs.Places.{begin_of, next_of}
use Rattle.jsx_token.specs.declared.lexer.Ending.TheVariants as ending
use Rattle.jsx_token.specs.declared.growth.Growth.{Growth}
use Rattle.jsx_token.specs.Growths.{Rung, rung, callee, asked, is_rung, reaches, seat, OnLine, growth_kind, is_code, mark, on_line, settled}
use Rattle.jsx_token.specs.GrowthTokens.{growth_by}
use Rattle.jsx_token.proofs.GrowthTokens.{lexeme, growth_mark, growth_none}
use Rattle.jsx_token.proofs.Listed.{of_level}
use Rattle.jsx_token.proofs.Marks.{by_sign}
use Rattle.jsx_token.proofs.Levels.{called_line, seat_asks, mark_among, mark_is_code, growth_listed, growth_marks}
use Rattle.jsx_token.proofs.Taking.{taken_by, begins_by, shorter_by, kind_some}

and_false : (a : Bool) → (a && false) ≡ false
and_false true = refl
and_false false = refl

-- ---- where no token comes

abbrev pub every_code : List Sign → Bool
every_code [] = true
every_code (s ∷ ss) = is_code s && every_code ss

all_code : every_code marks ≡ true
unfolding marks
all_code = refl

no_sign : (x : Lexeme) (s : Sign) → is_code s ≡ true → x.kind ≡ NoToken → is_sign x s ≡ false
no_sign x (Tok Operator k (d ∷ t)) c e = ap (λ j. is_kind j k && same x.raw (d ∷ t)) e ∙ ap (λ b. b && same x.raw (d ∷ t)) (is_not _ c)
no_sign x _ c e = cc

pub no_marks : (x : Lexeme) (ss : List Sign) → every_code ss ≡ true → x.kind ≡ NoToken → is_mark x ss ≡ false
no_marks x [] c e = refl
no_marks x (s ∷ ss) c e = (λ i. no_sign x s (and_left (is_code s) _ c) e i || no_marks x ss (and_right (is_code s) _ c) e i)

pub none_goes : {h : Here} (n : ℕ) → NoNext Operator h → grows_by_mark n (breaks h.rest) (next_token Operator h) ≡ false
none_goes {h} n e = ap (λ b. goes_at n (breaks h.rest) (next_token Operator h).raw && b) (no_marks (next_token Operator h) marks all_code e.none) ∙ and_false (goes_at n (breaks h.rest) (next_token Operator h).raw)

-- ---- where one comes

pub lexeme_is : {h : Here} {t : Token} {b : Tokens} → IsNext Operator h t b → lexeme t.kind (chars t.raw.now) (next_token Operator h).rest ≡ next_token Operator h
lexeme_is {h} n = λ i. record { kind = n.kind i; raw = n.raw i; rest = (next_token Operator h).rest }

-- a comma goes on with no expression but a sequence
comma_off : (r : Rung) → is_rung r ≡ true → not (among (codes ",") (going (asked r))) ≡ true
comma_off (rung n) l = of_level (λ m. not (among (codes ",") (going m))) refl {n = n} l
comma_off callee l = refl

comma_level : (r : Rung) (x : Lexeme) → is_rung r ≡ true → is_sign x (pun ",") ≡ true → among x.raw (going (asked r)) ≡ false
comma_level r x l e = is_not _ (by_sign (λ t. not (among t (going (asked r)))) (pun ",") x (comma_off r l) e)

comma_goes_on : (r : Rung) (b : Bool) (x : Lexeme) → is_rung r ≡ true → is_sign x (pun ",") ≡ true → goes_at (asked r) b x.raw ≡ false
comma_goes_on r b x l e =
    let n = asked r in
    let step : among x.raw steps ≡ false = is_not _ (by_sign (λ t. not (among t steps)) (pun ",") x refl e) in
    (λ i. comma_level r x l e i || (nat_le n 16 && (not b && step i))) ∙ ((λ i. nat_le n 16 && and_false (not b) i) ∙ and_false (nat_le n 16))

-- and where no `=>` goes on, it doesn't
arrow_off : (r : Rung) → is_rung r ≡ true → (nat_le (asked r) 1 || not (among (codes "=>") (going (asked r)))) ≡ true
arrow_off (rung n) l = of_level (λ m. nat_le m 1 || not (among (codes "=>") (going m))) refl {n = n} l
arrow_off callee l = refl

arrow_level : (r : Rung) (x : Lexeme) (c : Bool) → nat_le (asked r) 1 ≡ c → is_rung r ≡ true → is_sign x (pun "=>") ≡ true → unarrowed (asked r) x ≡ true → among x.raw (going (asked r)) ≡ false
arrow_level r x true q l e u = absurd (clash (is_sign x (pun "=>")) e (is_not _ (ap (λ c. not c || not (is_sign x (pun "=>"))) (sym q) ∙ u)))
arrow_level r x false q l e u = is_not _ (by_sign (λ t. not (among t (going (asked r)))) (pun "=>") x (ap (λ c. c || not (among (codes "=>") (going (asked r)))) (sym q) ∙ arrow_off r l) e)

arrow_goes_on : (r : Rung) (b : Bool) (x : Lexeme) → is_rung r ≡ true → is_sign x (pun "=>") ≡ true → unarrowed (asked r) x ≡ true → goes_at (asked r) b x.raw ≡ false
arrow_goes_on r b x l e u =
    let n = asked r in
    let step : among x.raw steps ≡ false = is_not _ (by_sign (λ t. not (among t steps)) (pun "=>") x refl e) in
    (λ i. arrow_level r x (nat_le (asked r) 1) refl l e u i || (nat_le n 16 && (not b && step i))) ∙ ((λ i. nat_le n 16 && and_false (not b) i) ∙ and_false (nat_le n 16))

off_list : (r : Rung) (b : Bool) (x : Lexeme) (c d : Bool) → is_rung r ≡ true → unarrowed (asked r) x ≡ true → is_sign x (pun ",") ≡ c → is_sign x (pun "=>") ≡ d → grows_by_mark (asked r) b x ≡ false → goes_by_mark (asked r) b x ≡ false
off_list r b x true d l u e f m = ap (λ c. c && is_mark x goers) (comma_goes_on r b x l e)
off_list r b x false true l u e f m = ap (λ c. c && is_mark x goers) (arrow_goes_on r b x l f u)
off_list r b x false false l u e f m = (λ i. goes_at (asked r) b x.raw && (e i || (f i || is_mark x marks))) ∙ m

pub other_goes : {h : Here} {t : Token} {b : Tokens} (r : Rung) → is_rung r ≡ true → IsNext Operator h t b → growth_by t.kind (chars t.raw.now) ≡ None → grows_by_mark (asked r) (breaks h.rest) (next_token Operator h) ≡ false
other_goes {h} {t} {b} r l e g = ap (λ c. goes_at (asked r) (breaks h.rest) (next_token Operator h).raw && c) (subst (λ x. is_mark x marks ≡ false) (lexeme_is e) (growth_none t.kind (chars t.raw.now) (next_token Operator h).rest e.spelled g)) ∙ and_false (goes_at (asked r) (breaks h.rest) (next_token Operator h).raw)

sign_there : {h : Here} {t : Token} {b : Tokens} (g : Growth) → IsNext Operator h t b → growth_by t.kind (chars t.raw.now) ≡ Some g → is_sign (next_token Operator h) (mark (growth_kind g)) ≡ true
sign_there {h} {t} g e is = subst (λ x. is_sign x (mark (growth_kind g)) ≡ true) (lexeme_is e) (growth_mark t.kind (chars t.raw.now) (next_token Operator h).rest g e.spelled is)

pub below_goes : {h : Here} {t : Token} {b : Tokens} (r : Rung) (g : Growth) → is_rung r ≡ true → IsNext Operator h t b → growth_by t.kind (chars t.raw.now) ≡ Some g → reaches r (growth_kind g) ≡ false → grows_by_mark (asked r) (breaks h.rest) (next_token Operator h) ≡ false
below_goes {h} r g l e is below =
    ap (λ c. c && is_mark (next_token Operator h) marks) (mark_among r (growth_kind g) l (growth_listed g) (growth_marks g) (breaks h.rest) (next_token Operator h) (sign_there g e is) ∙ ap (λ c. c && not (on_line (growth_kind g) && breaks h.rest)) below)

-- on a new line
pub line_goes : {h : Here} {t : Token} {b : Tokens} (r : Rung) (g : Growth) → is_rung r ≡ true → IsNext Operator h t b → growth_by t.kind (chars t.raw.now) ≡ Some g → (on_line (growth_kind g) && t.new_line) ≡ true → grows_by_mark (asked r) (breaks h.rest) (next_token Operator h) ≡ false
line_goes {h} {t} r g l e is late =
    ap (λ c. c && is_mark (next_token Operator h) marks) (mark_among r (growth_kind g) l (growth_listed g) (growth_marks g) (breaks h.rest) (next_token Operator h) (sign_there g e is)
    ∙ ((λ i. reaches r (growth_kind g) && not (on_line (growth_kind g) && sym (e.line refl) i)) ∙ (λ i. reaches r (growth_kind g) && not (late i)) ∙ and_false (reaches r (growth_kind g))))

-- on the line
pub line_stays : {h : Here} {t : Token} {b : Tokens} (g : Growth) → IsNext Operator h t b → (on_line (growth_kind g) && t.new_line) ≡ false → OnLine (growth_kind g) (place_of h)
line_stays {h} g e n = record { stays = λ on. ap (λ b. go_if (not b) (place_of h)) (sym (e.line refl) ∙ second (on_line (growth_kind g)) _ on n) }
  where
    second : (a b : Bool) → a ≡ true → (a && b) ≡ false → b ≡ false
    second true b f g = g
    second false b f g = cc

-- what goes on anywhere does so there
pub called_stays : {x : Place} (g : Growth) → reaches callee (growth_kind g) ≡ true → OnLine (growth_kind g) x
called_stays g e = record { stays = λ on. absurd (clash _ on (called_line (growth_kind g) (growth_listed g) (growth_marks g) e)) }

pub record Took (h : Here) (s : Sign) (t : Token) (b : Tokens) : Type 0 where
  pub full : same (chars t.raw.now) [] ≡ false
  pub taken : place_of (here_of t.raw.now ending.Expr b h.end) ≡ forth s (place_of h)
  pub begins : begin_of (here_of t.raw.now ending.Expr b h.end) ≡ next_of h
  pub shorter : left (here_of t.raw.now ending.Expr b h.end) < left h

pub took : {h : Here} {t : Token} {b : Tokens} (r : Text) (s : Sign) → is_code s ≡ true → IsNext Operator h t b → is_sign (lexeme t.kind (chars t.raw.now) r) s ≡ true → Took h s t b
took {h} {t} {b} r (Tok Operator k (d ∷ u)) c e i =
    let kind = and_left (is_kind (kind_of t.kind) k) _ i in
    let full : same (chars t.raw.now) [] ≡ false = ap (λ w. same w []) (same_is (chars t.raw.now) (d ∷ u) (and_right (is_kind (kind_of t.kind) k) _ i)) in
    record { full = full; taken = taken_by k (d ∷ u) e i; begins = begins_by e refl (kind_some (kind_of t.kind) k (is_not _ c) kind); shorter = shorter_by e refl (kind_some (kind_of t.kind) k (is_not _ c) kind) full }
took r _ c e i = cc

pub growth_took : {h : Here} {t : Token} {b : Tokens} (g : Growth) → IsNext Operator h t b → growth_by t.kind (chars t.raw.now) ≡ Some g → Took h (mark (growth_kind g)) t b
growth_took {h} {t} g e is = took (next_token Operator h).rest (mark (growth_kind g)) (mark_is_code (growth_kind g) (growth_listed g) (growth_marks g)) e (growth_mark t.kind (chars t.raw.now) (next_token Operator h).rest g e.spelled is)

-- ---- where none goes on, an expression has come to its end

pub ended : (r : Rung) (h : Here) → is_rung r ≡ true → settled (place_of h) ≡ true → grows_by_mark (asked r) (breaks h.rest) (next_token Operator h) ≡ false → unarrowed (asked r) (next_token Operator h) ≡ true → is_quoted (next_token Operator h) ≡ false → ends_so_far (seat r) (place_of h) ≡ true
ended r h l s m n u = at h.last h.ending h.rest s (off_list r (breaks h.rest) (next_token Operator h) _ _ l n refl refl m) u
  where
    at : (q : Text) (e : Ending) (text : Text) → settled (At q e text) ≡ true → goes_by_mark (asked r) (breaks text) (token Operator (same q []) text) ≡ false → is_quoted (token Operator (same q []) text) ≡ false → ends_so_far (seat r) (At q e text) ≡ true
    at q AfterExpr text s g u =
        let x = token Operator (same q []) text in
        not_is _ (ap (λ l. goes_on_so_far l AfterExpr (breaks text) (token Operator false text)) (seat_asks r) ∙ (ap (λ b. goes_on_so_far (Some (asked r)) AfterExpr (breaks text) (token Operator b text)) (sym (is_not (same q []) s))
        ∙ ((λ i. g i || (quotes (asked r) && (is_backquote x.raw && u i))) ∙ ((λ i. quotes (asked r) && and_false (is_backquote x.raw) i) ∙ and_false (quotes (asked r))))))
    at q _ text s g u = cc
