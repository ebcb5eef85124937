-- The places of a node from those of its parts, along any row.
use Rattle.std.proofs.Common.{◌≡◌, ◌-◌, ℕ, Bool, true, false, List, [], ◌∷◌, ◌++◌, append-nil, append_assoc, refl, sym, ◌∙◌, ap, subst, map, Option, Some, None}
use Rattle.std.specs.Prelude.{IsTrue, cond, not, ◌||◌}
use Rattle.jsx_base.specs.Token.{Text, IdentifierName, Operator, Piece, TokenKind, TemplateMiddle, TemplateTail, breaks, skip, skips, among, token, Elision}
use Rattle.jsx_base.specs.Lines.{size}
use Rattle.jsx_base.specs.declared.place.BytePos.{BytePos}
use Rattle.jsx_base.specs.declared.place.Span.{Span}
use Rattle.jsx_tree.specs.Signs.{Ending, Sign, Tok, Unless, SameLine, Ends, One}
use Rattle.jsx_tree.specs.Kinds.{Kind, Tree, leaf, node, list, Forest, none, part}
use Rattle.jsx_tree.specs.Nonterminals.{Nonterminal, is_ident}
use Rattle.jsx_tree.specs.Grammar.{Context, ListShape, Adjacent, Commas, Elisions, NoTrailing, TwoOrMore, Lines, TopLines, Fixed, Part, Optional, Many, Within, Production, key, production}
use Rattle.jsx_tree.specs.Spelling.{mode_of, leaf_signs, before, between, behind, gathered, walk, saids, each_said, spelled}
use Rattle.jsx_tree.specs.Reading.{Place, Lost, At, forth, scan}
use Rattle.jsx_tree.specs.Spans.{is_text, from_first, from_second, rest_at, Extent, extent, extent_of, second_byte, settled, Places, node_at, default_at, starts, start, list_starts, placed, places, each_placed, within, Claim, spans, comes, default_is, Holds, AllHold, has_text, is_whole, Told, tells, Tales, no_tales, tale, IsTold, AreTold}
use Rattle.jsx_tree.specs.View.{forest}
use Rattle.jsx_tree.specs.Told.{tales}
use Rattle.jsx_tree.proofs.Laws.{scan_append}
use Rattle.jsx_tree.proofs.Tokens.{found_first}
use Rattle.jsx_tree.specs.Walk.{is_found}
use Rattle.jsx_token.specs.Here.{Here, place_of}
use Rattle.jsx_operand.specs.Spans.{Spans, is_argument, spanned_claims, IsPlacedAs, IsPlacedRow, IsPlacedListAs}
use Rattle.jsx_token.specs.Places.{next_of, end_of, Takes}

-- a guard that is kept leaves the place as it was
guard : (b : Bool) (x : Place) → is_found (cond b x Lost) ≡ true → cond b x Lost ≡ x
guard true x f = refl
guard false x f = cc

unless_stays : (us : List Text) (x : Place) → is_found (forth (Unless us) x) ≡ true → forth (Unless us) x ≡ x
unless_stays us Lost f = refl
unless_stays us (At q e text) f = guard (not (among (token Operator false text).raw us)) (At q e text) f

-- ---- along a row

pub row_end : {x : Here} → IsPlacedRow [] no_tales none x x
row_end {x} = record { same = refl; leads = λ f. refl; told = λ f. tt }

pub row_step : {m : Sign} {ps : Production} {ds : Tales} {ts : Forest} {x y z : Here} → y.end ≡ x.end → (is_found (forth m (place_of x)) ≡ true → forth m (place_of x) ≡ place_of y)
    → IsPlacedRow ps ds ts y z → IsPlacedRow (Fixed m ∷ ps) ds ts x z
row_step {m} {ps} {ds} {ts} {x} {y} {z} same step r =
    let ms = walk ps (saids ts) in
    let there : is_found (scan (forth m (place_of x)) ms) ≡ true → forth m (place_of x) ≡ place_of y = λ f. step (found_first ms (forth m (place_of x)) f) in
    let goes : is_found (scan (forth m (place_of x)) ms) ≡ true → is_found (scan (place_of y) ms) ≡ true = λ f. subst (λ p. is_found (scan p ms) ≡ true) (there f) f in
    record {
      same = r.same ∙ same;
      leads = λ f. ap (λ p. scan p ms) (there f) ∙ r.leads (goes f);
      told = λ f. subst (λ n. AreTold ds (places n (starts (forth m (place_of x)) ps (saids ts)) ts)) same
          (subst (λ p. AreTold ds (places y.end (starts p ps (saids ts)) ts)) (sym (there f)) (r.told (goes f)));
    }

pub row_sign : {m : Sign} {ps : Production} {ds : Tales} {ts : Forest} {x y z : Here} → Takes m x y → IsPlacedRow ps ds ts y z → IsPlacedRow (Fixed m ∷ ps) ds ts x z
row_sign k r = row_step k.same (λ f. k.leads) r

pub row_unless : {us : List Text} {ps : Production} {ds : Tales} {ts : Forest} {x z : Here} → IsPlacedRow ps ds ts x z → IsPlacedRow (Fixed (Unless us) ∷ ps) ds ts x z
row_unless {us} {x = x} r = row_step refl (unless_stays us (place_of x)) r

-- a line that has to go on leaves the place as it was
line_stays : (x : Place) → is_found (forth SameLine x) ≡ true → forth SameLine x ≡ x
line_stays Lost f = refl
line_stays (At q e text) f = guard (not (breaks text)) (At q e text) f

pub row_line : {ps : Production} {ds : Tales} {ts : Forest} {x z : Here} → IsPlacedRow ps ds ts x z → IsPlacedRow (Fixed SameLine ∷ ps) ds ts x z
row_line {x = x} r = row_step refl (line_stays (place_of x)) r

-- the same without the token that a tree begins with: a hole has none, and before a piece of a template no gap is skipped
pub record IsItem (a : Bool) (d : Told) (t : Tree) (x y : Here) : Type 0 where
  pub same : y.end ≡ x.end
  pub leads : IsTrue (is_found (scan (place_of x) (spelled t))) → scan (place_of x) (spelled t) ≡ place_of y
  pub told : IsTrue (is_found (scan (place_of x) (spelled t))) → (c : Nonterminal) → is_argument c ≡ a → IsTold d (placed x.end (start c false (place_of x ∷ [])) t)

item : {a : Bool} {d : Told} {t : Tree} {x y : Here} → IsPlacedAs a d t x y → IsItem a d t x y
item l = record { same = l.same; leads = l.leads; told = l.told }

pub row_item : {a : Bool} {c : Nonterminal} {ps : Production} {d : Told} {ds : Tales} {t : Tree} {ts : Forest} {x y z : Here} → is_argument c ≡ a → IsItem a d t x y → IsPlacedRow ps ds ts y z → IsPlacedRow (Part c ∷ ps) (tale d ds) (part t ts) x z
row_item {c = c} {ps} {d} {ds} {t} {ts} {x} {y} {z} e l r =
    let ms = walk ps (saids ts) in
    let behind : Place = scan (place_of x) (spelled t) in
    let a : scan (place_of x) (spelled t ++ ms) ≡ scan behind ms = scan_append (place_of x) (spelled t) ms in
    let on : is_found (scan (place_of x) (spelled t ++ ms)) ≡ true → is_found (scan behind ms) ≡ true = λ f. subst (λ p. is_found p ≡ true) a f in
    let here : is_found (scan (place_of x) (spelled t ++ ms)) ≡ true → is_found behind ≡ true = λ f. found_first ms behind (on f) in
    let goes : is_found (scan (place_of x) (spelled t ++ ms)) ≡ true → is_found (scan (place_of y) ms) ≡ true = λ f. subst (λ p. is_found (scan p ms) ≡ true) (l.leads (here f)) (on f) in
    record {
      same = r.same ∙ l.same;
      leads = λ f. a ∙ (ap (λ p. scan p ms) (l.leads (here f)) ∙ r.leads (goes f));
      told = λ f. (
        l.told (here f) c e,
        subst (λ n. AreTold ds (places n (starts behind ps (saids ts)) ts)) l.same
            (subst (λ p. AreTold ds (places y.end (starts p ps (saids ts)) ts)) (sym (l.leads (here f))) (r.told (goes f))),
      );
    }

pub row_part_as : {a : Bool} {c : Nonterminal} {ps : Production} {d : Told} {ds : Tales} {t : Tree} {ts : Forest} {x y z : Here} → is_argument c ≡ a → IsPlacedAs a d t x y → IsPlacedRow ps ds ts y z → IsPlacedRow (Part c ∷ ps) (tale d ds) (part t ts) x z
row_part_as e l r = row_item e (item l) r

pub row_part : {c : Nonterminal} {ps : Production} {d : Told} {ds : Tales} {t : Tree} {ts : Forest} {x y z : Here} → IsPlacedAs (is_argument c) d t x y → IsPlacedRow ps ds ts y z → IsPlacedRow (Part c ∷ ps) (tale d ds) (part t ts) x z
row_part l r = row_part_as refl l r

pub row_list : {s : ListShape} {c : Nonterminal} {ps : Production} {es ds : Tales} {us ts : Forest} {x y z : Here} → IsPlacedListAs (is_argument c) s es us x y → IsPlacedRow ps ds ts y z
    → IsPlacedRow (Many s c ∷ ps) (tale (tells [] es) ds) (part (list us) ts) x z
row_list {s} {c} {ps} {es} {ds} {us} {ts} {x} {y} {z} l r =
    let ms = walk ps (saids ts) in
    let ns = gathered s (each_said us) in
    let behind : Place = scan (place_of x) ns in
    let a : scan (place_of x) (ns ++ ms) ≡ scan behind ms = scan_append (place_of x) ns ms in
    let on : is_found (scan (place_of x) (ns ++ ms)) ≡ true → is_found (scan behind ms) ≡ true = λ f. subst (λ p. is_found p ≡ true) a f in
    let here : is_found (scan (place_of x) (ns ++ ms)) ≡ true → is_found behind ≡ true = λ f. found_first ms behind (on f) in
    let goes : is_found (scan (place_of x) (ns ++ ms)) ≡ true → is_found (scan (place_of y) ms) ≡ true = λ f. subst (λ p. is_found (scan p ms) ≡ true) (l.leads (here f)) (on f) in
    record {
      same = r.same ∙ l.same;
      leads = λ f. a ∙ (ap (λ p. scan p ms) (l.leads (here f)) ∙ r.leads (goes f));
      told = λ f. (
        (refl, l.told (here f) c refl),
        subst (λ n. AreTold ds (places n (starts behind ps (saids ts)) ts)) l.same
            (subst (λ p. AreTold ds (places y.end (starts p ps (saids ts)) ts)) (sym (l.leads (here f))) (r.told (goes f))),
      );
    }

-- an optional part that is there, and one that isn't
pub row_present : {a : List Sign} {c : Nonterminal} {ps : Production} {d : Told} {ds : Tales} {t : Tree} {ts : Forest} {x y z w : Here} → y.end ≡ x.end → scan (place_of x) a ≡ place_of y → IsPlacedAs (is_argument c) d t y z → IsPlacedRow ps ds ts z w
    → IsPlacedRow (Optional a c [] [] ∷ ps) (tale (tells [] (tale d no_tales)) ds) (part (list (part t none)) ts) x w
row_present {a} {c} {ps} {d} {ds} {t} {ts} {x} {y} {z} {w} same lead l r =
    let ms = walk ps (saids ts) in
    let ns = a ++ (spelled t ++ []) in
    let behind : Place = scan (place_of x) ns in
    let short : behind ≡ scan (place_of y) (spelled t) = scan_append (place_of x) a (spelled t ++ []) ∙ (ap (λ q. scan q (spelled t ++ [])) lead ∙ ap (scan (place_of y)) (append-nil (spelled t))) in
    let app : scan (place_of x) (ns ++ ms) ≡ scan behind ms = scan_append (place_of x) ns ms in
    let on : is_found (scan (place_of x) (ns ++ ms)) ≡ true → is_found (scan behind ms) ≡ true = λ f. subst (λ q. is_found q ≡ true) app f in
    let here : is_found (scan (place_of x) (ns ++ ms)) ≡ true → is_found (scan (place_of y) (spelled t)) ≡ true = λ f. subst (λ q. is_found q ≡ true) short (found_first ms behind (on f)) in
    let there : is_found (scan (place_of x) (ns ++ ms)) ≡ true → behind ≡ place_of z = λ f. short ∙ l.leads (here f) in
    let goes : is_found (scan (place_of x) (ns ++ ms)) ≡ true → is_found (scan (place_of z) ms) ≡ true = λ f. subst (λ q. is_found (scan q ms) ≡ true) (there f) (on f) in
    record {
      same = r.same ∙ (l.same ∙ same);
      leads = λ f. app ∙ (ap (λ q. scan q ms) (there f) ∙ r.leads (goes f));
      told = λ f. (
        (refl, (subst (λ m. IsTold d (placed m (start c false (scan (place_of x) a ∷ [])) t)) same (subst (λ q. IsTold d (placed y.end (start c false (q ∷ [])) t)) (sym lead) (l.told (here f) c refl)), tt)),
        subst (λ m. AreTold ds (places m (starts behind ps (saids ts)) ts)) (l.same ∙ same) (subst (λ q. AreTold ds (places z.end (starts q ps (saids ts)) ts)) (sym (there f)) (r.told (goes f))),
      );
    }

-- the same with signs behind it too: `catch (a) {}`
pub row_around : {a b : List Sign} {c : Nonterminal} {ps : Production} {d : Told} {ds : Tales} {t : Tree} {ts : Forest} {x y z w u : Here} → y.end ≡ x.end → scan (place_of x) a ≡ place_of y → IsPlacedAs (is_argument c) d t y z → w.end ≡ z.end → scan (place_of z) b ≡ place_of w → IsPlacedRow ps ds ts w u
    → IsPlacedRow (Optional a c b [] ∷ ps) (tale (tells [] (tale d no_tales)) ds) (part (list (part t none)) ts) x u
row_around {a} {b} {c} {ps} {d} {ds} {t} {ts} {x} {y} {z} {w} {u} same lead l same' close r =
    let ms = walk ps (saids ts) in
    let ns = a ++ (spelled t ++ b) in
    let behind : Place = scan (place_of x) ns in
    let short : behind ≡ scan (scan (place_of y) (spelled t)) b = scan_append (place_of x) a (spelled t ++ b) ∙ (ap (λ q. scan q (spelled t ++ b)) lead ∙ scan_append (place_of y) (spelled t) b) in
    let app : scan (place_of x) (ns ++ ms) ≡ scan behind ms = scan_append (place_of x) ns ms in
    let on : is_found (scan (place_of x) (ns ++ ms)) ≡ true → is_found (scan behind ms) ≡ true = λ f. subst (λ q. is_found q ≡ true) app f in
    let here : is_found (scan (place_of x) (ns ++ ms)) ≡ true → is_found (scan (place_of y) (spelled t)) ≡ true = λ f. found_first b (scan (place_of y) (spelled t)) (subst (λ q. is_found q ≡ true) short (found_first ms behind (on f))) in
    let there : is_found (scan (place_of x) (ns ++ ms)) ≡ true → behind ≡ place_of w = λ f. short ∙ (ap (λ q. scan q b) (l.leads (here f)) ∙ close) in
    let goes : is_found (scan (place_of x) (ns ++ ms)) ≡ true → is_found (scan (place_of w) ms) ≡ true = λ f. subst (λ q. is_found (scan q ms) ≡ true) (there f) (on f) in
    record {
      same = r.same ∙ (same' ∙ (l.same ∙ same));
      leads = λ f. app ∙ (ap (λ q. scan q ms) (there f) ∙ r.leads (goes f));
      told = λ f. (
        (refl, (subst (λ m. IsTold d (placed m (start c false (scan (place_of x) a ∷ [])) t)) same (subst (λ q. IsTold d (placed y.end (start c false (q ∷ [])) t)) (sym lead) (l.told (here f) c refl)), tt)),
        subst (λ m. AreTold ds (places m (starts behind ps (saids ts)) ts)) (same' ∙ (l.same ∙ same)) (subst (λ q. AreTold ds (places w.end (starts q ps (saids ts)) ts)) (sym (there f)) (r.told (goes f))),
      );
    }

pub row_absent : {a b : List Sign} {c : Nonterminal} {ps : Production} {ds : Tales} {ts : Forest} {x w : Here} → IsPlacedRow ps ds ts x w → IsPlacedRow (Optional a c b [] ∷ ps) (tale (tells [] no_tales) ds) (part (list none) ts) x w
row_absent r = record { same = r.same; leads = r.leads; told = λ f. ((refl, tt), r.told f) }

-- the same where something may not come next if the part is absent
pub row_guarded : {a : List Sign} {c : Nonterminal} {u : Text} {us : List Text} {ps : Production} {ds : Tales} {t : Tree} {ts : Forest} {x w : Here} → IsPlacedRow (Optional a c [] [] ∷ ps) ds (part (list (part t none)) ts) x w → IsPlacedRow (Optional a c [] (u ∷ us) ∷ ps) ds (part (list (part t none)) ts) x w
row_guarded r = record { same = r.same; leads = r.leads; told = r.told }

pub row_unguarded : {a : List Sign} {c : Nonterminal} {u : Text} {us : List Text} {ps : Production} {ds : Tales} {ts : Forest} {x w : Here} → IsPlacedRow ps ds ts x w → IsPlacedRow (Optional a c [] (u ∷ us) ∷ ps) (tale (tells [] no_tales) ds) (part (list none) ts) x w
row_unguarded {u = u} {us} {ps} {ds} {ts} {x} r =
    let ms = walk ps (saids ts) in
    let there : is_found (scan (forth (Unless (u ∷ us)) (place_of x)) ms) ≡ true → forth (Unless (u ∷ us)) (place_of x) ≡ place_of x = λ f. unless_stays (u ∷ us) (place_of x) (found_first ms (forth (Unless (u ∷ us)) (place_of x)) f) in
    let goes : is_found (scan (forth (Unless (u ∷ us)) (place_of x)) ms) ≡ true → is_found (scan (place_of x) ms) ≡ true = λ f. subst (λ p. is_found (scan p ms) ≡ true) (there f) f in
    record {
      same = r.same;
      leads = λ f. ap (λ p. scan p ms) (there f) ∙ r.leads (goes f);
      told = λ f. ((refl, tt), subst (λ p. AreTold ds (places x.end (starts p ps (saids ts)) ts)) (sym (there f)) (r.told (goes f)));
    }

-- what reading doesn't hear, and what says in what the parts behind it stand
pub row_quiet : {m : Sign} {ps : Production} {ds : Tales} {ts : Forest} {x z : Here} → ((p : Place) → forth m p ≡ p) → IsPlacedRow ps ds ts x z → IsPlacedRow (Fixed m ∷ ps) ds ts x z
row_quiet {x = x} quiet r = row_step refl (λ f. quiet (place_of x)) r

pub row_within : {a : Context} {ps : Production} {ds : Tales} {ts : Forest} {x z : Here} → IsPlacedRow ps ds ts x z → IsPlacedRow (Within a ∷ ps) ds ts x z
row_within r = record { same = r.same; leads = r.leads; told = r.told }

-- ---- lists

-- nothing that is read stands before each tree, and none is JSX text
pub record IsPlain (s : ListShape) : Type 0 where
  pub bare : (x : Place) (ms ns : List Sign) → scan x (before s ms ++ ns) ≡ scan x (ms ++ ns)
  pub code : is_text s ≡ false

pub plain_commas : IsPlain Commas
plain_commas = record { bare = λ x ms ns. refl; code = refl }

pub plain_no_trailing : IsPlain NoTrailing
plain_no_trailing = record { bare = λ x ms ns. refl; code = refl }

pub plain_two : IsPlain TwoOrMore
plain_two = record { bare = λ x ms ns. refl; code = refl }

pub plain_top_lines : IsPlain TopLines
plain_top_lines = record { bare = λ x ms ns. refl; code = refl }

pub plain_elisions : IsPlain Elisions
plain_elisions = record { bare = λ x ms ns. refl; code = refl }

pub plain_adjacent : IsPlain Adjacent
plain_adjacent = record { bare = λ x ms ns. refl; code = refl }

pub plain_lines : IsPlain Lines
plain_lines = record { bare = λ x ms ns. refl; code = refl }

pub list_none : {a : Bool} {s : ListShape} {x : Here} → IsPlacedListAs a s no_tales none x x
list_none = record { same = refl; leads = λ f. refl; told = λ f c e. tt }

pub hole_item : {x : Here} → IsItem false (tells [] no_tales) (leaf Elision []) x x
hole_item = record { same = refl; leads = λ f. refl; told = λ f c i. (tt, (refl, refl)) }

-- one tree that is the last: what stands behind it leads on, where it can be read
pub list_one : {a : Bool} {s : ListShape} {d : Told} {t : Tree} {x y z : Here} → IsPlain s → IsItem a d t x y → z.end ≡ y.end → (is_found (scan (place_of y) (behind s (spelled t))) ≡ true → scan (place_of y) (behind s (spelled t)) ≡ place_of z)
    → IsPlacedListAs a s (tale d no_tales) (part t none) x z
list_one {s = s} {d} {t} {x} {y} {z} plain l same step =
    let bs = behind s (spelled t) in
    let ns = before s (spelled t) ++ bs in
    let there : Place = scan (place_of x) (spelled t) in
    let a : scan (place_of x) ns ≡ scan there bs = plain.bare (place_of x) (spelled t) bs ∙ scan_append (place_of x) (spelled t) bs in
    let here : is_found (scan (place_of x) ns) ≡ true → is_found there ≡ true = λ f. found_first bs there (subst (λ p. is_found p ≡ true) a f) in
    let goes : is_found (scan (place_of x) ns) ≡ true → is_found (scan (place_of y) bs) ≡ true = λ f. subst (λ p. is_found (scan p bs) ≡ true) (l.leads (here f)) (subst (λ p. is_found p ≡ true) a f) in
    record {
      same = same ∙ l.same;
      leads = λ f. a ∙ (ap (λ p. scan p bs) (l.leads (here f)) ∙ step (goes f));
      told = λ f c i. (subst (λ b. IsTold d (placed x.end (start c b (place_of x ∷ [])) t)) (sym plain.code) (l.told (here f) c i), tt);
    }

-- a tree and what joins it to the next
pub list_more : {a : Bool} {s : ListShape} {d e : Told} {es : Tales} {t u : Tree} {us : Forest} {x y z w : Here} → IsPlain s → IsItem a d t x y → z.end ≡ y.end → scan (place_of y) (between s) ≡ place_of z → IsPlacedListAs a s (tale e es) (part u us) z w
    → IsPlacedListAs a s (tale d (tale e es)) (part t (part u us)) x w
list_more {s = s} {d} {e} {es} {t} {u} {us} {x} {y} {z} {w} plain l same join r =
    let bs = between s in
    let ms = gathered s (each_said (part u us)) in
    let ns = before s (spelled t) ++ (bs ++ ms) in
    let there : Place = scan (place_of x) (spelled t) in
    let a : scan (place_of x) ns ≡ scan there (bs ++ ms) = plain.bare (place_of x) (spelled t) (bs ++ ms) ∙ scan_append (place_of x) (spelled t) (bs ++ ms) in
    let next : Place = scan (place_of x) (before s (spelled t) ++ bs) in
    let next_is : next ≡ scan there bs = plain.bare (place_of x) (spelled t) bs ∙ scan_append (place_of x) (spelled t) bs in
    let here : is_found (scan (place_of x) ns) ≡ true → is_found there ≡ true = λ f. found_first (bs ++ ms) there (subst (λ p. is_found p ≡ true) a f) in
    let on : is_found (scan (place_of x) ns) ≡ true → next ≡ place_of z = λ f. next_is ∙ (ap (λ p. scan p bs) (l.leads (here f)) ∙ join) in
    let b : is_found (scan (place_of x) ns) ≡ true → scan (place_of x) ns ≡ scan (place_of z) ms = λ f. a ∙ (ap (λ p. scan p (bs ++ ms)) (l.leads (here f)) ∙ (scan_append (place_of y) bs ms ∙ ap (λ p. scan p ms) join)) in
    let goes : is_found (scan (place_of x) ns) ≡ true → is_found (scan (place_of z) ms) ≡ true = λ f. subst (λ p. is_found p ≡ true) (b f) f in
    record {
      same = r.same ∙ (same ∙ l.same);
      leads = λ f. b f ∙ r.leads (goes f);
      told = λ f c i. (
        subst (λ v. IsTold d (placed x.end (start c v (place_of x ∷ [])) t)) (sym plain.code) (l.told (here f) c i),
        subst (λ n. AreTold (tale e es) (each_placed n c (is_text s) (list_starts s next (each_said (part u us))) (part u us))) (same ∙ l.same)
            (subst (λ p. AreTold (tale e es) (each_placed z.end c (is_text s) (list_starts s p (each_said (part u us))) (part u us))) (sym (on f)) (r.told (goes f) c i)),
      );
    }

-- ---- nodes

pub first_is : (ms : List Sign) → ((ns : List Sign) (text : Text) → from_first (ms ++ ns) text ≡ skip text) → (text : Text) → from_first ms text ≡ skip text
first_is ms b text = ap (λ ns. from_first ns text) (sym (append-nil ms)) ∙ b [] text

pub is_there : {at : Option Span} {lo hi a b : ℕ} (n next : ℕ) → Spans at lo hi → lo ≡ a → hi ≡ b → AllHold (extent a next b) n (spans at ∷ [])
is_there {at} {lo} {hi} {a} {b} n next s e f = subst (λ v. AllHold (extent a next b) n (spans v ∷ [])) (sym s.is) ((s.from ∙ e, s.to ∙ f), tt)

-- what is told of a node or a leaf holds with another span, where its text begins at the same place
claims_moved : (p o q n lo next hi : ℕ) (at : Option Span) (cs : List Claim) → Holds (extent lo next hi) lo (spans at) → AllHold (extent p o q) n cs → AllHold (extent lo next hi) n (spanned_claims at cs)
claims_moved p o q n lo next hi at [] h a = tt
claims_moved p o q n lo next hi None (spans s ∷ cs) h a = absurd h
claims_moved p o q n lo next hi (Some r) (spans s ∷ cs) h a = (h, claims_moved p o q n lo next hi (Some r) cs h a.1)
claims_moved p o q n lo next hi at (comes t ∷ cs) h a = (a.0, claims_moved p o q n lo next hi at cs h a.1)
claims_moved p o q n lo next hi at (default_is b ∷ cs) h a = (a.0, claims_moved p o q n lo next hi at cs h a.1)

-- a node that is no parentheses
pub node_is : {a : Bool} {k : Kind} {at : Option Span} {ds : Tales} {ts : Forest} {x y : Here} → ((c : Nonterminal) (e : Extent) (ps : Places) → settled k c e ps ≡ node_at e k ps)
    → ((ms : List Sign) (text : Text) → from_first (spelled (node k ts) ++ ms) text ≡ skip text) → Spans at (next_of x) (end_of y) → IsPlacedRow (production k) ds ts x y → IsPlacedAs a (tells (spans at ∷ []) ds) (node k ts) x y
node_is {k = k} {at} {ds} {ts} {x} {y} plain begins s r =
    let ms = spelled (node k ts) in
    let lo : next_of x ≡ x.end - size (from_first ms x.rest) = ap (λ t. x.end - size t) (sym (first_is ms begins x.rest)) in
    record {
      same = r.same;
      begins = begins;
      leads = r.leads;
      told = λ f c _. subst (IsTold (tells (spans at ∷ []) ds)) (sym (plain c (extent_of x.end (place_of x) ms) (places x.end (starts (place_of x) (production k) (saids ts)) ts)))
          (is_there (x.end - size (from_first ms x.rest)) (x.end - size (from_second ms (place_of x))) s lo (λ i. r.same i - size (rest_at (sym (r.leads f) i))), r.told f);
      moved = λ _ f c _ lo' next' hi' at' h. subst (λ p. IsTold (tells (spans at' ∷ []) ds) (within (extent lo' next' hi') p)) (sym (plain c (extent_of x.end (place_of x) ms) (places x.end (starts (place_of x) (production k) (saids ts)) ts))) ((h, tt), r.told f);
    }

-- an export of the default, which tells where its second token begins, behind the `export`
pub default_is_told : {a : Bool} {k : Kind} {at : Option Span} {b : BytePos} {ds : Tales} {ts : Forest} {x y z : Here} → ((c : Nonterminal) (e : Extent) (ps : Places) → settled k c e ps ≡ default_at (second_byte e) e k ps)
    → ((ms : List Sign) (text : Text) → from_first (spelled (node k ts) ++ ms) text ≡ skip text) → from_second (spelled (node k ts)) (place_of x) ≡ skip (rest_at (forth (key "export") (place_of x)))
    → Takes (key "export") x z → b.0 ≡ next_of z → Spans at (next_of x) (end_of y) → IsPlacedRow (production k) ds ts x y → IsPlacedAs a (tells (spans at ∷ default_is b ∷ []) ds) (node k ts) x y
default_is_told {k = k} {at} {b} {ds} {ts} {x} {y} {z} ends_so begins behind_first export word s r =
    let ms = spelled (node k ts) in
    let n : ℕ = x.end - size (from_second ms (place_of x)) in
    let lo : next_of x ≡ x.end - size (from_first ms x.rest) = ap (λ t. x.end - size t) (sym (first_is ms begins x.rest)) in
    let there : next_of z ≡ x.end - size (skip (rest_at (forth (key "export") (place_of x)))) = (λ i. export.same i - size (skip (rest_at (sym export.leads i)))) in
    let second : b.0 ≡ n = word ∙ (there ∙ ap (λ t. x.end - size t) (sym behind_first)) in
    let is : (f : is_found (scan (place_of x) ms) ≡ true) → AllHold (extent_of x.end (place_of x) ms) n (spans at ∷ default_is b ∷ []) =
    λ f. ((is_there n n s lo (λ i. r.same i - size (rest_at (sym (r.leads f) i)))).0, (second, tt)) in
    record {
      same = r.same;
      begins = begins;
      leads = r.leads;
      told = λ f c _. subst (IsTold (tells (spans at ∷ default_is b ∷ []) ds)) (sym (ends_so c (extent_of x.end (place_of x) ms) (places x.end (starts (place_of x) (production k) (saids ts)) ts))) (is f, (refl, r.told f));
      moved = λ _ f c _ lo' next' hi' at' h. subst (λ p. IsTold (tells (spans at' ∷ default_is b ∷ []) ds) (within (extent lo' next' hi') p)) (sym (ends_so c (extent_of x.end (place_of x) ms) (places x.end (starts (place_of x) (production k) (saids ts)) ts)))
          (claims_moved (x.end - size (from_first ms x.rest)) n (x.end - size (rest_at (scan (place_of x) ms))) n lo' next' hi' at' (spans at ∷ default_is b ∷ []) h (is f), (refl, r.told f));
    }

-- a node that has no span of its own
pub bare_node : {a : Bool} {k : Kind} {ds : Tales} {ts : Forest} {x y : Here} → ((c : Nonterminal) (e : Extent) (ps : Places) → settled k c e ps ≡ node_at e k ps) → IsPlacedRow (production k) ds ts x y → IsItem a (tells [] ds) (node k ts) x y
bare_node {k = k} {ds} {ts} {x} plain r = record {
  same = r.same;
  leads = r.leads;
  told = λ f c _. subst (IsTold (tells [] ds)) (sym (plain c (extent_of x.end (place_of x) (spelled (node k ts))) (places x.end (starts (place_of x) (production k) (saids ts)) ts))) (tt, r.told f);
}

-- a piece of a template, which begins where the token before it ends
pub middle_item : {p : Text} {cs : List Claim} {x y : Here} → has_text cs ≡ true → AllHold (extent (end_of x) (end_of y) (end_of y)) (end_of x) cs → Takes (Tok Piece TemplateMiddle p) x y → IsItem false (tells cs no_tales) (leaf TemplateMiddle p) x y
middle_item {p} {cs} {x} {y} whole h takes = record { same = takes.same; leads = λ f. takes.leads; told = λ f c _. (subst (λ n. AllHold (extent (end_of x) n n) (end_of x) cs) (λ i. takes.same i - size (rest_at (sym takes.leads i))) h, (whole, refl)) }

pub tail_item : {p : Text} {cs : List Claim} {x y : Here} → has_text cs ≡ true → AllHold (extent (end_of x) (end_of y) (end_of y)) (end_of x) cs → Takes (Tok Piece TemplateTail p) x y → IsItem false (tells cs no_tales) (leaf TemplateTail p) x y
tail_item {p} {cs} {x} {y} whole h takes = record { same = takes.same; leads = λ f. takes.leads; told = λ f c _. (subst (λ n. AllHold (extent (end_of x) n n) (end_of x) cs) (λ i. takes.same i - size (rest_at (sym takes.leads i))) h, (whole, refl)) }

-- whether all texts of a leaf are told doesn't hang on its span
texts_moved : (at : Option Span) (cs : List Claim) → has_text (spanned_claims at cs) ≡ has_text cs
texts_moved at [] = refl
texts_moved at (spans s ∷ cs) = texts_moved at cs
texts_moved at (comes t ∷ cs) = refl
texts_moved at (default_is b ∷ cs) = texts_moved at cs

whole_alike : (k : TokenKind) (t : Text) (cs es : List Claim) → has_text cs ≡ has_text es → is_whole k t cs ≡ is_whole k t es
whole_alike Elision t cs es e = refl
whole_alike IdentifierName t cs es e = ap (λ b. not (is_ident t) || b) e
whole_alike k t cs es e = e

-- a leaf whose token skips a gap
pub leaf_is : {a : Bool} {k : TokenKind} {t : Text} {cs : List Claim} {x y : Here} → skips (mode_of k) ≡ true → leaf_signs k t ≡ One ∷ Tok (mode_of k) k t ∷ [] → is_whole k t cs ≡ true → AllHold (extent (next_of x) (end_of y) (end_of y)) (next_of x) cs → Takes (Tok (mode_of k) k t) x y → IsPlacedAs a (tells cs no_tales) (leaf k t) x y
leaf_is {k = k} {t} {cs} {x} {y} skip_it signs whole claims takes =
    let go : scan (place_of x) (leaf_signs k t) ≡ place_of y = ap (scan (place_of x)) signs ∙ takes.leads in
    let first : (ms : List Sign) (text : Text) → from_first (leaf_signs k t ++ ms) text ≡ skip text = λ ms text. ap (λ ns. from_first (ns ++ ms) text) signs ∙ ap (λ b. cond b (skip text) text) skip_it in
    let lo : x.end - size (from_first (leaf_signs k t) x.rest) ≡ next_of x = ap (λ v. x.end - size v) (first_is (leaf_signs k t) first x.rest) in
    let hi : x.end - size (rest_at (scan (place_of x) (leaf_signs k t))) ≡ end_of y = (λ i. sym takes.same i - size (rest_at (go i))) in
    let behind_it : from_second (leaf_signs k t) (place_of x) ≡ y.rest = ap (λ ns. from_second ns (place_of x)) signs ∙ ap rest_at takes.leads in
    let next : x.end - size (from_second (leaf_signs k t) (place_of x)) ≡ end_of y = (λ i. sym takes.same i - size (behind_it i)) in
    record {
      same = takes.same;
      begins = first;
      leads = λ f. go;
      told = λ f c _. (
        subst (λ a. AllHold (extent a (x.end - size (from_second (leaf_signs k t) (place_of x))) (x.end - size (rest_at (scan (place_of x) (leaf_signs k t))))) a cs) (sym lo)
            (subst (λ b. AllHold (extent (next_of x) b (x.end - size (rest_at (scan (place_of x) (leaf_signs k t))))) (next_of x) cs) (sym next)
            (subst (λ b. AllHold (extent (next_of x) (end_of y) b) (next_of x) cs) (sym hi) claims)),
        (whole, refl),
      );
      moved = λ _ f c _ lo' next' hi' at' h. (
        subst (λ b. AllHold (extent lo' next' hi') b (spanned_claims at' cs)) (sym lo) (claims_moved (next_of x) (end_of y) (end_of y) (next_of x) lo' next' hi' at' cs h claims),
        (whole_alike k t (spanned_claims at' cs) cs (texts_moved at' cs) ∙ whole, refl),
      );
    }

-- a node that begins with a part, and one that is told so
pub led : {a : Bool} {d : Told} {t : Tree} {x y : Here} → IsPlacedAs a d t x y → (ns ms : List Sign) (text : Text) → from_first ((spelled t ++ ns) ++ ms) text ≡ skip text
led {t = t} l ns ms text = ap (λ qs. from_first qs text) (append_assoc (spelled t) ns ms) ∙ l.begins (ns ++ ms) text

pub placed_as : {b : Bool} {d e : Told} {t u : Tree} {x y : Here} → d ≡ e → t ≡ u → IsPlacedAs b e u x y → IsPlacedAs b d t x y
placed_as {b} {d} {e} {t} {u} {x} {y} p q l = subst (λ v. IsPlacedAs b v t x y) (sym p) (subst (λ v. IsPlacedAs b e v x y) (sym q) l)

pub placed_from : {a : Bool} {d : Told} {t : Tree} {x y z : Here} → x ≡ y → IsPlacedAs a d t x z → IsPlacedAs a d t y z
placed_from {a} {d} {t} {z = z} e l = subst (λ v. IsPlacedAs a d t v z) e l

-- to the place behind, with what a missing semicolon would stand after
pub takes_ends : {f : Ending} {x y : Here} → y ≡ record x { ending = f } → Takes (Ends f) x y
takes_ends e = record { leads = sym (ap place_of e); same = ap (λ h. h.end) e }

-- to where nothing was taken behind it
pub takes_to : {s : Sign} {x y z : Here} → z ≡ y → Takes s x y → Takes s x z
takes_to {s} {x} e t = subst (Takes s x) (sym e) t

pub takes_from : {s : Sign} {x y z : Here} → x ≡ y → Takes s x z → Takes s y z
takes_from {s} {z = z} e k = subst (λ v. Takes s v z) e k

pub placed_to : {a : Bool} {d : Told} {t : Tree} {x y z : Here} → z ≡ y → IsPlacedAs a d t x y → IsPlacedAs a d t x z
placed_to {a} {d} {t} {x} e l = subst (IsPlacedAs a d t x) (sym e) l

-- ---- a list that is read tree by tree

-- these come first, and others from the place on
pub record PlacedFront (a : Bool) (s : ListShape) (ds : List Told) (ts : List Tree) (x y : Here) : Type 0 where
  pub on : (e : Told) (es : List Told) (u : Tree) (us : List Tree) (z : Here) → IsPlacedListAs a s (tales (e ∷ es)) (forest (u ∷ us)) y z → IsPlacedListAs a s (tales (ds ++ e ∷ es)) (forest (ts ++ u ∷ us)) x z

pub front_none : {a : Bool} {s : ListShape} {x : Here} → PlacedFront a s [] [] x x
front_none = record { on = λ e es u us z l. l }

pub laid_more : {a : Bool} {s : ListShape} {ds es : List Told} {ts us : List Tree} {d : Told} {t : Tree} {x y z w : Here} → IsPlain s → PlacedFront a s ds ts x y → IsItem a d t y z → w.end ≡ z.end → scan (place_of z) (between s) ≡ place_of w → es ≡ ds ++ d ∷ [] → us ≡ ts ++ t ∷ []
    → PlacedFront a s es us x w
laid_more {a} {s} {ds} {es} {ts} {us} {d} {t} {x} {y} {z} {w} plain m l same join p q = record {
  on = λ e fs u vs v r. subst (λ gs. IsPlacedListAs a s (tales (gs ++ e ∷ fs)) (forest (us ++ u ∷ vs)) x v) (sym p)
      (subst (λ gs. IsPlacedListAs a s (tales ((ds ++ d ∷ []) ++ e ∷ fs)) (forest (gs ++ u ∷ vs)) x v) (sym q)
      (subst (λ gs. IsPlacedListAs a s (tales gs) (forest ((ts ++ t ∷ []) ++ u ∷ vs)) x v) (sym (append_assoc ds (d ∷ []) (e ∷ fs)))
      (subst (λ gs. IsPlacedListAs a s (tales (ds ++ d ∷ e ∷ fs)) (forest gs) x v) (sym (append_assoc ts (t ∷ []) (u ∷ vs)))
      (m.on d (e ∷ fs) t (u ∷ vs) v (list_more plain l same join r)))));
}

pub laid_last : {a : Bool} {s : ListShape} {ds es : List Told} {ts us : List Tree} {d : Told} {t : Tree} {x y z w : Here} → IsPlain s → PlacedFront a s ds ts x y → IsItem a d t y z → w.end ≡ z.end → scan (place_of z) (behind s (spelled t)) ≡ place_of w → es ≡ ds ++ d ∷ [] → us ≡ ts ++ t ∷ []
    → IsPlacedListAs a s (tales es) (forest us) x w
laid_last {a} {s} {ds} {es} {ts} {us} {d} {t} {x} {y} {z} {w} plain m l same ends p q =
    subst (λ gs. IsPlacedListAs a s (tales gs) (forest us) x w) (sym p)
    (subst (λ gs. IsPlacedListAs a s (tales (ds ++ d ∷ [])) (forest gs) x w) (sym q)
    (m.on d [] t [] w (list_one plain l same (λ f. ends))))

pub front_more : {a : Bool} {s : ListShape} {ds es : List Told} {ts us : List Tree} {d : Told} {t : Tree} {x y z w : Here} → IsPlain s → PlacedFront a s ds ts x y → IsPlacedAs a d t y z → w.end ≡ z.end → scan (place_of z) (between s) ≡ place_of w → es ≡ ds ++ d ∷ [] → us ≡ ts ++ t ∷ []
    → PlacedFront a s es us x w
front_more plain m l same join p q = laid_more plain m (item l) same join p q

pub front_last : {a : Bool} {s : ListShape} {ds es : List Told} {ts us : List Tree} {d : Told} {t : Tree} {x y z w : Here} → IsPlain s → PlacedFront a s ds ts x y → IsPlacedAs a d t y z → w.end ≡ z.end → scan (place_of z) (behind s (spelled t)) ≡ place_of w → es ≡ ds ++ d ∷ [] → us ≡ ts ++ t ∷ []
    → IsPlacedListAs a s (tales es) (forest us) x w
front_last plain m l same ends p q = laid_last plain m (item l) same ends p q

pub list_to : {a : Bool} {s : ListShape} {ds : Tales} {ts : Forest} {x y z : Here} → z ≡ y → IsPlacedListAs a s ds ts x y → IsPlacedListAs a s ds ts x z
list_to {a} {s} {ds} {ts} {x} e l = subst (IsPlacedListAs a s ds ts x) (sym e) l

pub list_as : {a : Bool} {s : ListShape} {ds es : List Told} {ts us : List Tree} {x y : Here} → ds ≡ es → ts ≡ us → IsPlacedListAs a s (tales es) (forest us) x y → IsPlacedListAs a s (tales ds) (forest ts) x y
list_as {a} {s} {ds} {es} {ts} {us} {x} {y} p q l = subst (λ gs. IsPlacedListAs a s (tales gs) (forest ts) x y) (sym p) (subst (λ gs. IsPlacedListAs a s (tales es) (forest gs) x y) (sym q) l)

pub map_pushed : {A B : Type 0} (f : A → B) (xs ys : List A) (x : A) (y : B) → ys ≡ xs ++ x ∷ [] → f x ≡ y → map f ys ≡ map f xs ++ y ∷ []
map_pushed {A} {B} f xs ys x y e same = ap (map f) e ∙ at xs
  where
    at : (zs : List A) → map f (zs ++ x ∷ []) ≡ map f zs ++ y ∷ []
    at [] = ap (λ z. z ∷ []) same
    at (z ∷ zs) = ap (λ ws. f z ∷ ws) (at zs)
