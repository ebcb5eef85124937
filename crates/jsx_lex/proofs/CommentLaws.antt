-- Over the comments of a gap.
use Rattle.std.proofs.Common.{◌≡◌, ℕ, List, [], ◌∷◌, ◌++◌, Bool, true, false, cond, ◌&&◌, ◌||◌, codes, refl, sym, ap, ◌∙◌, subst}
use Rattle.std.specs.Prelude.{nat_eq}
use Rattle.std.specs.Str.{chars, IsUtf8}
use Rattle.std.proofs.lemmas.Bool.{false≢true}
use Rattle.std.proofs.lemmas.List.{append_cancel_right}
use lib.Utf8.{encode}
use Rattle.jsx_base.specs.Token.{Text, Gap, Blank, InLineComment, InBlockComment, Closing, behind_gap, is_cut, is_line_end, is_blank, begins, first_is}
use Rattle.jsx_lex.specs.Characters.{Follows}
use Rattle.jsx_lex.specs.Comments.{to_line_end, from_line_end, to_close, from_close}
use Rattle.jsx_lex.specs.Parts.{IsClosed, IsSpace, IsLine, IsBlock}
use Rattle.jsx_lex.proofs.Gaps.{goes, line_end, begins_one, opens}

first_of : {A : Type 0} (b : Bool) (x y : A) → b ≡ true → cond b x y ≡ x
first_of true x y e = refl
first_of false x y e = absurd (false≢true e)

second_of : {A : Type 0} (b : Bool) (x y : A) → b ≡ false → cond b x y ≡ y
second_of true x y e = absurd (false≢true (sym e))
second_of false x y e = refl

halves : (b : Bool) (c : ℕ) (x y text : Text) → x ++ y ≡ text → cond b [] (c ∷ x) ++ cond b (c ∷ text) y ≡ c ∷ text
halves true c x y text e = refl
halves false c x y text e = ap (λ t. c ∷ t) e

pub line_halves : (text : Text) → to_line_end text ++ from_line_end text ≡ text
line_halves [] = refl
line_halves (c ∷ text) = halves (is_line_end c) c (to_line_end text) (from_line_end text) text (line_halves text)

pub close_halves : (text : Text) → to_close text ++ from_close text ≡ text
close_halves [] = refl
close_halves (c ∷ text) = halves (begins (codes "*/") (c ∷ text)) c (to_close text) (from_close text) text (close_halves text)

-- a character further

pub line_further : (whole text : Text) (c : ℕ) → whole ≡ c ∷ text → is_line_end c ≡ false → from_line_end text ≡ from_line_end whole
line_further whole text c e n = sym (ap from_line_end e ∙ second_of (is_line_end c) (c ∷ text) (from_line_end text) n)

pub line_stops : (whole text : Text) (c : ℕ) → whole ≡ c ∷ text → is_line_end c ≡ true → whole ≡ from_line_end whole
line_stops whole text c e n = e ∙ (sym (first_of (is_line_end c) (c ∷ text) (from_line_end text) n) ∙ sym (ap from_line_end e))

pub close_further : (whole text : Text) (c : ℕ) → whole ≡ c ∷ text → nat_eq 42 c ≡ false → from_close text ≡ from_close whole
close_further whole text c e n =
    sym (ap from_close e ∙ second_of (begins (codes "*/") (c ∷ text)) (c ∷ text) (from_close text) (ap (λ b. b && begins (codes "/") text) n))

pub star_further : (whole text : Text) → whole ≡ 42 ∷ text → first_is (nat_eq 47) text ≡ false → from_close text ≡ from_close whole
star_further whole text e n = sym (ap from_close e ∙ second_of (begins (codes "/") text) (42 ∷ text) (from_close text) (begins_one 47 text ∙ n))

-- the automaton of gaps at the comment's end

record Past (g : Gap) (text rest : Text) : Type 0 where
  pub behind_is : behind_gap g text ≡ behind_gap Blank rest
  pub cut_is : is_cut g text ≡ is_cut Blank rest

line_at : (c : ℕ) (text : Text) (b : Bool) → is_line_end c ≡ b → Past InLineComment text (from_line_end text) → Past InLineComment (c ∷ text) (cond b (c ∷ text) (from_line_end text))
line_at c text true e p = let l = line_end c text e in record { behind_is = l.behind_is; cut_is = l.cut_is }
line_at c text false e p =
    let l = goes InLineComment InLineComment c (c ∷ text) text refl (second_of (is_line_end c) Blank InLineComment e) refl in
    record { behind_is = l.behind_is ∙ p.behind_is; cut_is = l.cut_is ∙ p.cut_is }

line_past : (text : Text) → Past InLineComment text (from_line_end text)
line_past [] = record { behind_is = refl; cut_is = refl }
line_past (c ∷ text) = line_at c text (is_line_end c) refl (line_past text)

close_at : (c : ℕ) (text rest : Text) (b : Bool) → begins (codes "*/") (c ∷ text) ≡ b → (from_close text ≡ 42 ∷ 47 ∷ rest → Past InBlockComment text rest) → cond b (c ∷ text) (from_close text) ≡ 42 ∷ 47 ∷ rest → Past InBlockComment (c ∷ text) rest
close_at c text rest true e f h =
    let x = goes InBlockComment Closing 42 (42 ∷ 47 ∷ rest) (47 ∷ rest) refl refl refl in
    let y = goes Closing Blank 47 (47 ∷ rest) rest refl refl refl in
    subst (λ w. Past InBlockComment w rest) (sym h) (record { behind_is = x.behind_is ∙ y.behind_is; cut_is = x.cut_is ∙ y.cut_is })
close_at c text rest false e f h =
    let p = f h in
    let l = goes InBlockComment InBlockComment c (c ∷ text) text refl (second_of (begins (codes "*/") (c ∷ text)) Closing InBlockComment e) refl in
    record { behind_is = l.behind_is ∙ p.behind_is; cut_is = l.cut_is ∙ p.cut_is }

close_past : (text rest : Text) → from_close text ≡ 42 ∷ 47 ∷ rest → Past InBlockComment text rest
close_past [] rest h = absurd (cc)
close_past (c ∷ text) rest h = close_at c text rest (begins (codes "*/") (c ∷ text)) refl (close_past text rest) h

open_at : (c : ℕ) (text : Text) (b : Bool) → begins (codes "*/") (c ∷ text) ≡ b → is_cut InBlockComment text ≡ true → cond b (c ∷ text) (from_close text) ≡ [] → is_cut InBlockComment (c ∷ text) ≡ true
open_at c text true e f h = absurd (cc)
open_at c text false e f h =
    (goes InBlockComment InBlockComment c (c ∷ text) text refl (second_of (begins (codes "*/") (c ∷ text)) Closing InBlockComment e) refl).cut_is ∙ f

open_tail : (c : ℕ) (text : Text) (b : Bool) → cond b (c ∷ text) (from_close text) ≡ [] → from_close text ≡ []
open_tail c text true h = absurd (cc)
open_tail c text false h = h

close_open : (text : Text) → from_close text ≡ [] → is_cut InBlockComment text ≡ true
close_open [] h = refl
close_open (c ∷ text) h = open_at c text (begins (codes "*/") (c ∷ text)) refl (close_open text (open_tail c text (begins (codes "*/") (c ∷ text)) h)) h

-- parts

pub closed : (text body rest behind more : List ℕ) → text ≡ body ++ rest → chars text ≡ chars body ++ chars rest → chars rest ≡ from_close (chars text) → Follows rest 42 behind → Follows behind 47 more → IsUtf8 more → IsClosed text body more
unfolding encode
closed text body rest behind more e f g h k u =
    let bytes : rest ≡ codes "*/" ++ more = h.bytes_are ∙ ap (λ x. 42 ∷ x) k.bytes_are in
    record {
      bytes_are = e ∙ ap (λ x. body ++ x) bytes;
      body_is = append_cancel_right (chars body) (to_close (chars text)) (chars rest) (sym f ∙ (sym (close_halves (chars text)) ∙ ap (λ x. to_close (chars text) ++ x) (sym g)));
      close_is = sym g ∙ (h.chars_are ∙ ap (λ x. 42 ∷ x) k.chars_are);
      text_is = u;
    }

pub space : (text rest : List ℕ) (c : ℕ) → Follows text c rest → (is_blank c || is_line_end c) ≡ true → IsUtf8 rest → IsSpace text rest
space text rest c f h u =
    let l = goes Blank Blank c (chars text) (chars rest) f.chars_are (first_of (is_blank c || is_line_end c) Blank _ h) refl in
    record { c = c; is = h; bytes_are = f.bytes_are; goes_on = record { behind_is = l.behind_is; cut_is = l.cut_is; text_is = u } }

pub line : (text behind after body rest : List ℕ) → Follows text 47 behind → Follows behind 47 after → after ≡ body ++ rest → chars after ≡ chars body ++ chars rest → chars rest ≡ from_line_end (chars after) → IsUtf8 rest → IsLine text body rest
unfolding encode
line text behind after body rest f g e h k u =
    let p = line_past (chars after) in
    let x = goes Blank InLineComment 47 (47 ∷ 47 ∷ chars after) (47 ∷ chars after) refl refl refl in
    let y = goes InLineComment InLineComment 47 (47 ∷ chars after) (chars after) refl refl refl in
    let w : chars text ≡ 47 ∷ 47 ∷ chars after = f.chars_are ∙ ap (λ t. 47 ∷ t) g.chars_are in
    record {
      body_is = append_cancel_right (chars body) (to_line_end (chars after)) (chars rest) (sym h ∙ (sym (line_halves (chars after)) ∙ ap (λ t. to_line_end (chars after) ++ t) (sym k))) ∙ ap (λ t. to_line_end (chars t)) e;
      bytes_are = f.bytes_are ∙ (ap (λ t. 47 ∷ t) g.bytes_are ∙ ap (λ t. 47 ∷ 47 ∷ t) e);
      goes_on = record {
        behind_is = ap (behind_gap Blank) w ∙ (x.behind_is ∙ (y.behind_is ∙ (p.behind_is ∙ ap (behind_gap Blank) (sym k))));
        cut_is = ap (is_cut Blank) w ∙ (x.cut_is ∙ (y.cut_is ∙ (p.cut_is ∙ ap (is_cut Blank) (sym k))));
        text_is = u;
      };
    }

pub block : (text behind after body rest : List ℕ) → Follows text 47 behind → Follows behind 42 after → IsClosed after body rest → IsBlock text body rest
unfolding encode
block text behind after body rest f g k =
    let p = close_past (chars after) (chars rest) k.close_is in
    let x = opens (chars after) in
    let w : chars text ≡ 47 ∷ 42 ∷ chars after = f.chars_are ∙ ap (λ t. 47 ∷ t) g.chars_are in
    record {
      body_is = k.body_is ∙ ap (λ t. to_close (chars t)) k.bytes_are;
      bytes_are = f.bytes_are ∙ (ap (λ t. 47 ∷ t) g.bytes_are ∙ ap (λ t. 47 ∷ 42 ∷ t) k.bytes_are);
      goes_on = record {
        behind_is = ap (behind_gap Blank) w ∙ (x.behind_is ∙ p.behind_is);
        cut_is = ap (is_cut Blank) w ∙ (x.cut_is ∙ p.cut_is);
        text_is = k.text_is;
      };
    }

-- an open comment cuts the gap
pub not_open : (P : Type 0) (text behind after : List ℕ) → Follows text 47 behind → Follows behind 42 after → from_close (chars after) ≡ [] → is_cut Blank (chars text) ≡ false → P
not_open P text behind after f g h n =
    let w : chars text ≡ 47 ∷ 42 ∷ chars after = f.chars_are ∙ ap (λ t. 47 ∷ t) g.chars_are in
    absurd (false≢true (sym n ∙ (ap (is_cut Blank) w ∙ ((opens (chars after)).cut_is ∙ close_open (chars after) h))))

pub from_star : (text more : Text) → text ≡ 47 ∷ more → from_close (42 ∷ text) ≡ 42 ∷ text
from_star text more e = subst (λ t. from_close (42 ∷ t) ≡ 42 ∷ t) (sym e) refl
