-- The language so far is read by its rows.
use Rattle.std.proofs.Common.{◌≡◌, ℕ, nat_le, Bool, not, true, false, List, [], ◌∷◌, refl, ap}
use Rattle.std.specs.Prelude.{codes, nat_eq, Option, Some, None, ◌&&◌, ◌||◌}
use Rattle.jsx_base.specs.Token.{Text, Punctuator, Lexeme, among, breaks, is_kind, is_token, same}
use Rattle.jsx_tree.specs.Signs.{Ending, AfterExpr, AfterBlock, AfterBinding, Tok, Semicolon, TrailingComma, Unless, SameLine, Ends}
use Rattle.jsx_tree.specs.Kinds.{Forest}
use Rattle.jsx_tree.specs.Nonterminals.{Nonterminal}
use Rattle.jsx_tree.specs.Grammar.{ListShape, Fixed, Part, Optional, Many, Within, Context, Production, production}
use Rattle.jsx_tree.specs.Form.{slots, inside, is_piece}
use Rattle.jsx_tree.specs.Reading.{Place, Lost, At, is_backquote}
use Rattle.jsx_tree.specs.StaticRules.{Surroundings, rule, stands}
use Rattle.jsx_token.specs.Stage.{has_kind, in_stage, in_stages, each_in_stage}
use Rattle.jsx_tree.specs.Walk.{pieces, IsRead, Items, nil, last, more, sign, tree, absent, present, many, Walk, done, next}
use Rattle.jsx_tree.specs.Stops.{going, goes, quotes, level_asked, stops}
use Rattle.jsx_operand.specs.SoFar.{Staged, so_far}
use Rattle.jsx_token.specs.Marks.{goes_at, goes_on_so_far, ends_so_far, goes_by_mark, goes_by_quote, goers, is_mark, is_quoted}
use Rattle.jsx_tree.proofs.Tokens.{and_left, and_right, and_both}
use Rattle.jsx_tree.proofs.Rows.Bridge.{node_read, node_walk}
use Rattle.jsx_tree.proofs.Rows.Stopping.{covers, is_not, not_is, not_among, subset, smaller}
use Rattle.jsx_tree.proofs.Rows.Closers.{operand_start}
use Rattle.jsx_tree.proofs.Rows.Laws.{Lawful}

-- ---- lists

record Loose (v : Surroundings) (s : ListShape) (c : Nonterminal) (x : Place) (ts : Forest) (y : Place) : Type 0 where
  items : Items IsRead v s c x ts y
  each : each_in_stage c ts ≡ true

loose_items : {v : Surroundings} {s : ListShape} {c : Nonterminal} {x y : Place} {ts : Forest} → Items Staged v s c x ts y → Loose v s c x ts y
loose_items (nil f) = record { items = nil f; each = refl }
loose_items (last r e f) = record { items = last r.reads e f; each = and_both _ _ r.staged refl }
loose_items (more n r e all) = let l = loose_items all in record { items = more n r.reads e l.items; each = and_both _ _ r.staged l.each }

tight_items : {v : Surroundings} {s : ListShape} {c : Nonterminal} {x y : Place} {ts : Forest} → Items IsRead v s c x ts y → each_in_stage c ts ≡ true → Items Staged v s c x ts y
tight_items (nil f) h = nil f
tight_items {c = c} (last {t = t} r e f) h = last (record { reads = r; staged = and_left (in_stage c t) _ h }) e f
tight_items {c = c} (more {t = t} n r e all) h = more n (record { reads = r; staged = and_left (in_stage c t) _ h }) e (tight_items all (and_right (in_stage c t) _ h))

-- ---- rows

record LooseRow (V : List Context → Surroundings) (g : List Text) (b : Bool) (a : List Context) (ps : Production) (x : Place) (ts : Forest) (y : Place) : Type 0 where
  reads : Walk IsRead V (pieces a ps) x ts y
  each : in_stages (slots g b a ps) ts ≡ true

loose : {V : List Context → Surroundings} (g : List Text) (b : Bool) (a : List Context) (ps : Production) {x y : Place} {ts : Forest} → Walk Staged V (pieces a ps) x ts y → LooseRow V g b a ps x ts y
loose g b a [] (done f) = record { reads = done f; each = refl }
loose g b a (Fixed (Tok m Punctuator t) ∷ ps) (next (sign e f) w) = let r = loose [] (inside t b) a ps w in record { reads = next (sign e f) r.reads; each = r.each }
loose g b a (Fixed (Tok m k t) ∷ ps) (next (sign e f) w) = let r = loose g b a ps w in record { reads = next (sign e f) r.reads; each = r.each }
loose g b a (Fixed Semicolon ∷ ps) (next (sign e f) w) = let r = loose g b a ps w in record { reads = next (sign e f) r.reads; each = r.each }
loose g b a (Fixed TrailingComma ∷ ps) (next (sign e f) w) = let r = loose g b a ps w in record { reads = next (sign e f) r.reads; each = r.each }
loose g b a (Fixed (Unless us) ∷ ps) (next (sign e f) w) = let r = loose us b a ps w in record { reads = next (sign e f) r.reads; each = r.each }
loose g b a (Fixed SameLine ∷ ps) (next (sign e f) w) = let r = loose g b a ps w in record { reads = next (sign e f) r.reads; each = r.each }
loose g b a (Fixed (Ends n) ∷ ps) (next (sign e f) w) = let r = loose g b a ps w in record { reads = next (sign e f) r.reads; each = r.each }
loose g b a (Fixed _ ∷ ps) w = let r = loose g b a ps w in record { reads = r.reads; each = r.each }
loose g b a (Within d ∷ ps) w = let r = loose g b (d ∷ a) ps w in record { reads = r.reads; each = r.each }
loose g b a (Part c ∷ ps) (next (tree q) w) = let r = loose [] (b || is_piece c) a ps w in record { reads = next (tree q.reads) r.reads; each = and_both _ _ q.staged r.each }
loose g b a (Optional l c m n ∷ ps) (next (absent e f) w) = let r = loose [] b a ps w in record { reads = next (absent e f) r.reads; each = r.each }
loose g b a (Optional l c m n ∷ ps) (next (present d q e f) w) = let r = loose [] b a ps w in record { reads = next (present d q.reads e f) r.reads; each = and_both _ _ (and_both _ _ q.staged refl) r.each }
loose g b a (Many s c ∷ ps) (next (many e all) w) =
    let r = loose [] b a ps w in
    let l = loose_items all in
    record { reads = next (many e l.items) r.reads; each = and_both _ _ l.each r.each }

tight : {V : List Context → Surroundings} (g : List Text) (b : Bool) (a : List Context) (ps : Production) {x y : Place} {ts : Forest} → Walk IsRead V (pieces a ps) x ts y → in_stages (slots g b a ps) ts ≡ true → Walk Staged V (pieces a ps) x ts y
tight g b a [] (done f) h = done f
tight g b a (Fixed (Tok m Punctuator t) ∷ ps) (next (sign e f) w) h = next (sign e f) (tight [] (inside t b) a ps w h)
tight g b a (Fixed (Tok m k t) ∷ ps) (next (sign e f) w) h = next (sign e f) (tight g b a ps w h)
tight g b a (Fixed Semicolon ∷ ps) (next (sign e f) w) h = next (sign e f) (tight g b a ps w h)
tight g b a (Fixed TrailingComma ∷ ps) (next (sign e f) w) h = next (sign e f) (tight g b a ps w h)
tight g b a (Fixed (Unless us) ∷ ps) (next (sign e f) w) h = next (sign e f) (tight us b a ps w h)
tight g b a (Fixed SameLine ∷ ps) (next (sign e f) w) h = next (sign e f) (tight g b a ps w h)
tight g b a (Fixed (Ends n) ∷ ps) (next (sign e f) w) h = next (sign e f) (tight g b a ps w h)
tight g b a (Fixed _ ∷ ps) w h = tight g b a ps w h
tight g b a (Within d ∷ ps) w h = tight g b (d ∷ a) ps w h
tight g b a (Part c ∷ ps) (next (tree {t = t} q) w) h = next (tree (record { reads = q; staged = and_left (in_stage c t) _ h })) (tight [] (b || is_piece c) a ps w (and_right (in_stage c t) _ h))
tight g b a (Optional l c m n ∷ ps) (next (absent e f) w) h = next (absent e f) (tight [] b a ps w h)
tight g b a (Optional l c m n ∷ ps) (next (present {t = t} d q e f) w) h =
    next (present d (record { reads = q; staged = and_left (in_stage c t) true (and_left (in_stage c t && true) _ h) }) e f) (tight [] b a ps w (and_right (in_stage c t && true) _ h))
tight g b a (Many s c ∷ ps) (next (many {ts = us} e all) w) h = next (many e (tight_items all (and_left (each_in_stage c us) _ h))) (tight [] b a ps w (and_right (each_in_stage c us) _ h))

-- ---- where it ends

not_one : (a b : Bool) → a ≡ false → (a && b) ≡ false
not_one a b e = ap (λ c. c && b) e

no_or : (a b : Bool) → (a || b) ≡ false → a ≡ false
no_or true b e = cc
no_or false b e = refl

by_text : (g : Bool) (x : Lexeme) (t : Text) → (g && same x.raw t) ≡ false → (g && is_token x Punctuator t) ≡ false
by_text true x t e = and_false' (is_kind x.kind Punctuator) (same x.raw t) e
  where
    and_false' : (a b : Bool) → b ≡ false → (a && b) ≡ false
    and_false' true b e = e
    and_false' false b e = refl
by_text false x t e = refl

no_middle : (a b c : Bool) → (a || (b || c)) ≡ false → (a || c) ≡ false
no_middle true b c e = cc
no_middle false true c e = cc
no_middle false false c e = e

middle : (a b c : Bool) → (a || (b || c)) ≡ false → b ≡ false
middle true b c e = cc
middle false true c e = cc
middle false false c e = refl

quote_less : (a b c : Bool) → (a && b) ≡ false → (a && (b && c)) ≡ false
quote_less true b c e = ap (λ d. d && c) e
quote_less false b c e = refl

goes_less : (l : Option _) (e : Ending) (b : Bool) (x : Lexeme) → goes l e b x.raw ≡ false → goes_on_so_far l e b x ≡ false
goes_less None e b x f = refl
goes_less (Some n) AfterExpr b x f =
    let mark = not_one (goes_at n b x.raw) (is_mark x goers) (no_middle (among x.raw (going n)) (quotes n && is_backquote x.raw) _ f) in
    let quote = quote_less (quotes n) (is_backquote x.raw) (is_quoted x) (middle (among x.raw (going n)) (quotes n && is_backquote x.raw) _ f) in (λ i. mark i || quote i)
goes_less (Some n) AfterBlock b x f = by_text (nat_eq n 0) x (codes ",") f
goes_less (Some n) AfterBinding b x f = by_text (among x.raw (going n)) x (codes "=") f
goes_less (Some n) _ b x f = refl

both_no : (p q : Bool) → p ≡ false → q ≡ false → (p || q) ≡ false
both_no p q e g = (λ i. e i || g i)

no_second : (p q : Bool) → (p || q) ≡ false → q ≡ false
no_second true q e = cc
no_second false q e = e

narrower : (p q r : Bool) → (not p || q) ≡ true → (q && r) ≡ false → (p && r) ≡ false
narrower true true r e g = g
narrower true false r e g = cc
narrower false q r e g = refl

-- with the lower of two levels all goes on that goes on with the higher
less_at : (m n : ℕ) (b : Bool) (t : Text) → covers (Some m) (Some n) ≡ true → goes_at m b t ≡ false → goes_at n b t ≡ false
less_at m n b t c f =
    let c1 = and_right (subset (going n) (going m)) _ c in
    let c2 = and_left (not (nat_le n 16) || nat_le m 16) _ (and_right (not (quotes n) || quotes m) _ c1) in
    both_no (among t (going n)) _ (not_among t (going n) (going m) (and_left (subset (going n) (going m)) _ c) (no_or (among t (going m)) _ f))
    (narrower (nat_le n 16) (nat_le m 16) _ c2 (no_second (among t (going m)) _ f))

goes_cover : (k l : Option _) (e : Ending) (b : Bool) (x : Lexeme) → covers k l ≡ true → goes_on_so_far k e b x ≡ false → goes_on_so_far l e b x ≡ false
goes_cover k None e b x c f = refl
goes_cover None (Some n) e b x c f = cc
goes_cover (Some m) (Some n) AfterExpr b x c f =
    both_no (goes_by_mark n b x) (goes_by_quote n x) (smaller (goes_at n b x.raw) (goes_at m b x.raw) (is_mark x goers) (less_at m n b x.raw c) (no_or (goes_by_mark m b x) (goes_by_quote m x) f))
    (narrower (quotes n) (quotes m) (is_backquote x.raw && is_quoted x) (and_left (not (quotes n) || quotes m) _ (and_right (subset (going n) (going m)) _ c)) (no_second (goes_by_mark m b x) (goes_by_quote m x) f))
goes_cover (Some m) (Some n) AfterBlock b x c f =
    let c1 = and_right (subset (going n) (going m)) _ c in
    narrower (nat_eq n 0) (nat_eq m 0) (is_token x Punctuator (codes ",")) (and_right (not (nat_le n 16) || nat_le m 16) _ (and_right (not (quotes n) || quotes m) _ c1)) f
goes_cover (Some m) (Some n) AfterBinding b x c f = smaller (among x.raw (going n)) (among x.raw (going m)) _ (not_among x.raw (going n) (going m) (and_left (subset (going n) (going m)) _ c)) f
goes_cover (Some m) (Some n) _ b x c f = refl

less_ends : (c : Nonterminal) (y : Place) → stops c y ≡ true → ends_so_far c y ≡ true
less_ends c Lost s = refl
less_ends c (At q e text) s = not_is _ (goes_less (level_asked c) e (breaks text) _ (is_not _ s))

cover_ends : (o c : Nonterminal) (y : Place) → covers (level_asked o) (level_asked c) ≡ true → ends_so_far o y ≡ true → ends_so_far c y ≡ true
cover_ends o c Lost h s = refl
cover_ends o c (At q e text) h s = not_is _ (goes_cover (level_asked o) (level_asked c) e (breaks text) _ h (is_not _ s))

-- ---- the language

pub of_so_far : Lawful so_far
of_so_far = record {
  is_read = λ r. r.reads;
  to_node = λ k {v} {c} {x} {y} {ts} a p.
      let l = loose [] false [] (production k) p.walk in
      let h = and_right (has_kind k) _ p.keeps in
      record {
        reads = node_read false k a refl (record { walk = l.reads; keeps = and_left (rule k ts) (stands k ts v) h; may_stand = and_right (rule k ts) (stands k ts v) h });
        staged = and_both _ _ (and_left (has_kind k) _ p.keeps) l.each;
      };
  from_node = λ k {v} {c} {x} {y} {ts} r.
      let n = node_walk false k refl r.reads in
      let h = and_right (has_kind k) _ r.staged in
      record {
        walk = tight [] false [] (production k) n.walk h;
        keeps = and_both _ _ (and_left (has_kind k) _ r.staged) (and_both _ _ n.keeps n.may_stand);
      };
  ends_there = less_ends;
  covered = cover_ends;
  heads = operand_start;
}
