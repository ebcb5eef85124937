-- What goes through a block of what a statement gives are its `var` names.
use Rattle.std.proofs.Common.{◌≡◌, ℕ, suc, List, [], ◌∷◌, ◌++◌, Bool, true, false, cond, ◌&&◌, refl, sym, ap, ◌∙◌}
use Rattle.jsx_base.specs.Token.{IdentifierName}
use Rattle.jsx_tree.specs.Kinds.{Tree, leaf, node, list, Forest, none, part}
use Rattle.jsx_tree.specs.Form.{Position, position, positions}
use Rattle.jsx_tree.specs.Scopes.{Path, below, Sort, AsVar, AsParameter, AsFunction, AsLexical, Declaration, declaration, binds, bound, bound_parts, bound_each, is_var}
use Rattle.jsx_names.specs.Events.{Frame, OfBlock, Way, is_head}
use Rattle.jsx_names.specs.Answers.{Named, all_of, is_passed, reaches}
use Rattle.jsx_names.specs.Given.{passing}
use Rattle.jsx_names.proofs.Gives.{passing_append, passing_twice}
use Rattle.jsx_names.proofs.Bound.{flagged, flagged_append}

pub all_append : (ns ms : List Named) → all_of (ns ++ ms) ≡ all_of ns ++ all_of ms
all_append [] ms = refl
all_append (n ∷ ns) ms = ap (λ z. n.is ∷ z) (all_append ns ms)

pub all_flagged : (w : Way) (ds : List Declaration) → all_of (flagged w ds) ≡ ds
all_flagged w [] = refl
all_flagged w (d ∷ ds) = ap (λ z. d ∷ z) (all_flagged w ds)

-- those that go through a block
abbrev pub through : List Named → List Named
through ns = passing (OfBlock ∷ []) ns

pub through_append : (ns ms : List Named) → through (ns ++ ms) ≡ through ns ++ through ms
through_append ns ms = passing_append (OfBlock ∷ []) ns ms

-- frames that reach alike
pub passing_alike : (fs gs : List Frame) (ns : List Named) → ((s : Sort) → reaches s fs ≡ reaches s gs) → passing fs ns ≡ passing gs ns
passing_alike fs gs [] h = refl
passing_alike fs gs (n ∷ ns) h = ap (λ b. cond b (n ∷ []) [] ++ passing fs ns) (h n.is.sort) ∙ ap (λ z. cond (reaches n.is.sort gs) (n ∷ []) [] ++ z) (passing_alike fs gs ns h)

and_true : (b : Bool) → b && true ≡ b
and_true true = refl
and_true false = refl

-- two scopes that a `var` goes through are as one
pub through_one : (f : Frame) (ns : List Named) → is_passed f ≡ true → through (passing (f ∷ []) ns) ≡ through ns
through_one f ns h = passing_twice f (OfBlock ∷ []) ns ∙ passing_alike (f ∷ OfBlock ∷ []) (OfBlock ∷ []) ns at
  where
    at : (s : Sort) → reaches s (f ∷ OfBlock ∷ []) ≡ reaches s (OfBlock ∷ [])
    at AsVar = ap (λ b. b && true) h
    at AsParameter = refl
    at AsFunction = refl
    at AsLexical = refl

pub through_same : (f : Frame) (ns : List Named) → through (passing (f ∷ []) ns) ≡ passing (f ∷ []) ns
through_same f ns = passing_twice f (OfBlock ∷ []) ns ∙ passing_alike (f ∷ OfBlock ∷ []) (f ∷ []) ns at
  where
    at : (s : Sort) → reaches s (f ∷ OfBlock ∷ []) ≡ reaches s (f ∷ [])
    at AsVar = refl
    at AsParameter = refl
    at AsFunction = refl
    at AsLexical = refl

if_both : {A : Type 0} (b : Bool) (xs ys : List A) → cond b xs [] ++ cond b ys [] ≡ cond b (xs ++ ys) []
if_both true xs ys = refl
if_both false xs ys = refl

no_flags : (w : Way) (b c : Bool) (s : Sort) (ds : List Declaration) → (c ≡ true → through (flagged w ds) ≡ cond b (flagged w ds) []) → through (flagged w (cond c ds [])) ≡ cond b (flagged w (cond c ds [])) []
no_flags w b true s ds h = h refl
no_flags w true false s ds h = refl
no_flags w false false s ds h = refl

through_name : (w : Way) (s : Sort) (d : Declaration) → d.sort ≡ s → through (flagged w (d ∷ [])) ≡ cond (is_var s) (flagged w (d ∷ [])) []
through_name w AsVar d e = ap (λ r. cond (reaches r (OfBlock ∷ [])) (record { head = is_head w; is = d } ∷ []) [] ++ []) e
through_name w AsParameter d e = ap (λ r. cond (reaches r (OfBlock ∷ [])) (record { head = is_head w; is = d } ∷ []) [] ++ []) e
through_name w AsFunction d e = ap (λ r. cond (reaches r (OfBlock ∷ [])) (record { head = is_head w; is = d } ∷ []) [] ++ []) e
through_name w AsLexical d e = ap (λ r. cond (reaches r (OfBlock ∷ [])) (record { head = is_head w; is = d } ∷ []) [] ++ []) e

flag_both : (w : Way) (b : Bool) (ds es : List Declaration) → through (flagged w ds) ≡ cond b (flagged w ds) [] → through (flagged w es) ≡ cond b (flagged w es) [] → through (flagged w (ds ++ es)) ≡ cond b (flagged w (ds ++ es)) []
flag_both w b ds es x y =
    ap through (flagged_append w ds es)
    ∙ through_append (flagged w ds) (flagged w es)
    ∙ ap (λ z. z ++ through (flagged w es)) x
    ∙ ap (λ z. cond b (flagged w ds) [] ++ z) y
    ∙ if_both b (flagged w ds) (flagged w es)
    ∙ ap (λ z. cond b z []) (sym (flagged_append w ds es))

flag_none : (w : Way) (b : Bool) → through (flagged w []) ≡ cond b (flagged w []) []
flag_none w true = refl
flag_none w false = refl

mutual
  -- names that are bound go through where they are `var` names, all or none
  pub through_bound : (w : Way) (s : Sort) (p : Path) (t : Tree) → through (flagged w (bound s p t)) ≡ cond (is_var s) (flagged w (bound s p t)) []
  through_bound w s p (leaf IdentifierName x) = through_name w s (declaration s x p) refl
  through_bound w s p (leaf k x) = flag_none w (is_var s)
  through_bound w s p (node k cs) = through_parts w s p 0 (positions k) cs
  through_bound w s p (list ts) = through_each w s p 0 ts

  through_parts : (w : Way) (s : Sort) (p : Path) (i : ℕ) (ss : List Position) (cs : Forest) → through (flagged w (bound_parts s p i ss cs)) ≡ cond (is_var s) (flagged w (bound_parts s p i ss cs)) []
  through_parts w s p i [] cs = flag_none w (is_var s)
  through_parts w s p i (x ∷ ss) none = flag_none w (is_var s)
  through_parts w s p i (position f c g o a ∷ ss) (part t ts) =
      flag_both w (is_var s) (cond (binds c) (bound s (below p i) t) []) (bound_parts s p (suc i) ss ts)
      (no_flags w (is_var s) (binds c) s (bound s (below p i) t) (λ e. through_bound w s (below p i) t))
      (through_parts w s p (suc i) ss ts)

  through_each : (w : Way) (s : Sort) (p : Path) (i : ℕ) (ts : Forest) → through (flagged w (bound_each s p i ts)) ≡ cond (is_var s) (flagged w (bound_each s p i ts)) []
  through_each w s p i none = flag_none w (is_var s)
  through_each w s p i (part t ts) = flag_both w (is_var s) (bound s (below p i) t) (bound_each s p (suc i) ts) (through_bound w s (below p i) t) (through_each w s p (suc i) ts)
