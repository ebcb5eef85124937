-- What a statement or a case begins with.
use Rattle.jsx_base.specs.Token.{Punctuator}
use Rattle.std.proofs.Common.{◌≡◌, ℕ, zero, Bool, true, false, not, cond, List, [], ◌∷◌, refl, sym, ◌∙◌, ap, subst}
use Rattle.std.specs.Prelude.{◌&&◌, ◌||◌, nat_eq, codes}
use Rattle.jsx_base.specs.Token.{Text, Operator, TokenKind, IdentifierName, kind_number, among, same}
use Rattle.jsx_tree.specs.Signs.{Tok, Unless, Count, One}
use Rattle.jsx_tree.specs.Kinds.{Kind, Tree, Forest}
use Rattle.jsx_tree.specs.Nonterminals.{Nonterminal, Expr, Ident, BindingIdent, Key, ImportClause, Stmt, SubStmt, Item, Declaration, BlockOnly, CatchClause, CaseClause, ClassMember, Declarators, Body, DirectiveOnly, Specifiers, ImportBindings, homes, in_homes, leaf_in, is_ident}
use Rattle.jsx_tree.specs.Grammar.{Context, Fixed, Part, Production, production}
use Rattle.jsx_tree.specs.Form.{is}
use Rattle.jsx_tree.specs.StaticRules.{Surroundings}
use Rattle.jsx_tree.specs.Reading.{Place}
use Rattle.jsx_tree.proofs.Tokens.{and_left, and_right, and_both, same_is, same_self}
use Rattle.std.proofs.lemmas.Bool.{eq-eqb}
use Rattle.jsx_tree.specs.Walk as W
use Rattle.jsx_tree.specs.Walk.{pieces, IsRead}
use Rattle.jsx_tree.proofs.OneTree.Statements.{stated_kinds}
use Rattle.jsx_tree.proofs.OneTree.Readings.{kind_at, text_at}
use Rattle.jsx_tree.proofs.OneTree.Checks.{every, starts}
use Rattle.jsx_tree.proofs.OneTree.Facts.{never, or_else, not_is, Test, yes', no', test, eq_nat, Seen, took}
use Rattle.jsx_tree.proofs.OneTree.Fine.{at_sign, at_part}
use Rattle.jsx_tree.proofs.OneTree.Next.{unless_kept}
use Rattle.jsx_tree.proofs.OneTree.Readings.{key_start}
use Rattle.jsx_tree.proofs.OneTree.Kinds.Keys.{key_first, key_view}
use Rattle.jsx_tree.proofs.OneTree.Afters.{after_tree}
use Rattle.jsx_tree.proofs.OneTree.Evidence.{Kept, Kepts, kept_left, kept_right}
use Rattle.jsx_tree.proofs.OneTree.Parts.{tame_of, whole_starts, word_read}
use Rattle.jsx_tree.proofs.OneTree.Wants.{Want, parted, anything, ended, still, idle, shutting, declared, other, meets, met, still_at, shutting_at, idle_at, is_look, look_met, is_at, is_seen, follow, follow_meets}

-- the places whose trees are read as rows, and what stands behind each of them
abbrev pub is_own : Nonterminal → Bool
is_own Stmt = true
is_own SubStmt = true
is_own Item = true
is_own Declaration = true
is_own BlockOnly = true
is_own CatchClause = true
is_own CaseClause = true
is_own ClassMember = true
is_own Declarators = true
is_own Body = true
is_own DirectiveOnly = true
is_own (Specifiers s) = true
is_own ImportBindings = true
is_own ImportClause = true
is_own c = false

abbrev pub want_of : Nonterminal → Want
want_of Stmt = still
want_of SubStmt = still
want_of Item = still
want_of Declaration = still
want_of CaseClause = idle
want_of Declarators = declared
want_of Body = shutting
want_of (Specifiers s) = parted
want_of ImportClause = other Punctuator (codes ",")
want_of c = anything

-- what stands behind a list of them
abbrev pub stop_of : Nonterminal → Want
stop_of CaseClause = shutting
stop_of ClassMember = shutting
stop_of c = idle

pub data Front : Type 0 where
  -- this token
  token' : TokenKind → Text → Front
  -- an expression that doesn't begin with one of these
  expr' : List Text → Front
  -- a name
  name' : Front
  -- a key
  key' : Front
  unknown : Front

abbrev pub front : Want → Production → Front
front e (Fixed (Tok Operator k t) ∷ ps) = token' k t
front e (Fixed Count ∷ ps) = front e ps
front e (Fixed One ∷ ps) = front e ps
front e (Fixed (Unless ts) ∷ Part (Expr zero) ∷ ps) = cond (not (among [] ts) && follow e ps (ended 0)) (expr' ts) unknown
front e (Part Key ∷ ps) = key'
front e (Part Ident ∷ ps) = name'
front e (Part BindingIdent ∷ ps) = name'
front e ps = unknown

abbrev pub fits : Front → Place → Bool
fits (token' k t) x = is_at x k t
fits (expr' ts) x = starts (kind_at x) (text_at x) && not (among (text_at x) ts)
fits name' x = nat_eq (kind_at x) 0 && is_ident (text_at x)
fits key' x = key_start (kind_at x) (text_at x)
fits unknown x = true

pub at_seen : {x : Place} {k : TokenKind} {t : Text} → Seen x k t → is_at x k t ≡ true
at_seen {x} {k} {t} s = and_both (nat_eq (kind_at x) (kind_number k)) (same (text_at x) t) (eq-eqb (kind_at x) (kind_number k) s.kind) (subst (λ u. same u t ≡ true) (sym s.text) (same_self t))

ident_leaf : (s : TokenKind) (t : Text) (x : Place) → leaf_in Ident s t ≡ true → Seen x s t → fits name' x ≡ true
ident_leaf IdentifierName t x h s = and_both (nat_eq (kind_at x) 0) (is_ident (text_at x)) (eq-eqb (kind_at x) 0 s.kind) (subst (λ u. is_ident u ≡ true) (sym s.text) h)
ident_leaf _ t x h s = cc

pub ident_fits : {v : Surroundings} {x y : Place} (t : Tree) → Kept t → IsRead v false Ident x t y → fits name' x ≡ true
ident_fits {v} {x} {y} t h r =
    let w = word_read Ident t refl h r in
    ident_leaf w.kind w.text x (and_left (leaf_in Ident w.kind w.text) _ (subst (λ t. is Ident t ≡ true) w.is_leaf r.is)) (took w.kind w.text x w.moves w.found)

bound_leaf : (s : TokenKind) (t : Text) (x : Place) → leaf_in BindingIdent s t ≡ true → Seen x s t → fits name' x ≡ true
bound_leaf IdentifierName t x h s = and_both (nat_eq (kind_at x) 0) (is_ident (text_at x)) (eq-eqb (kind_at x) 0 s.kind) (subst (λ u. is_ident u ≡ true) (sym s.text) (and_left (is_ident t) _ h))
bound_leaf _ t x h s = cc

pub bound_fits : {v : Surroundings} {x y : Place} (t : Tree) → Kept t → IsRead v false BindingIdent x t y → fits name' x ≡ true
bound_fits {v} {x} {y} t h r =
    let w = word_read BindingIdent t refl h r in
    bound_leaf w.kind w.text x (and_left (leaf_in BindingIdent w.kind w.text) _ (subst (λ t. is BindingIdent t ≡ true) w.is_leaf r.is)) (took w.kind w.text x w.moves w.found)

pub front_fits : {V : List Context → Surroundings} (e : Want) (ps : Production) (a : List Context) {x z : Place} {ts : Forest} → W.Walk IsRead V (pieces a ps) x ts z → Kepts ts → meets e z ≡ true → fits (front e ps) x ≡ true
front_fits e (Fixed (Tok Operator k t) ∷ ps) a {x} w h m = let s = at_sign w in at_seen (took k t x s.moves s.found)
front_fits e (Fixed Count ∷ ps) a w h m = front_fits e ps a w h m
front_fits e (Fixed One ∷ ps) a w h m = front_fits e ps a w h m
front_fits e (Part Key ∷ ps) a w h m = let p = at_part w in key_first (key_view p.tree (kept_left (subst Kepts p.is h)) p.read)
front_fits {V} e (Fixed (Unless us) ∷ Part (Expr zero) ∷ ps) a {x} {z} {ts} w h m = by_follow (test (not (among [] us) && follow e ps (ended 0)))
  where
    by_follow : Test (not (among [] us) && follow e ps (ended 0)) → fits (cond (not (among [] us) && follow e ps (ended 0)) (expr' us) unknown) x ≡ true
    by_follow (no' n) = λ i. fits (cond (n i) (expr' us) unknown) x
    by_follow (yes' g) =
        let s = at_sign w in
        let k = unless_kept us x s.next (not_is (among [] us) (and_left (not (among [] us)) _ g)) s.moves s.found in
        let p = at_part s.walk in
        let i = tame_of p.tree (Expr 0) refl (kept_left (subst Kepts p.is h)) p.read.is in
        let c = follow_meets e ps (ended 0) a (and_right (not (among [] us)) _ g) (λ _. after_tree p.tree (Expr 0) i refl p.read) p.walk (kept_right (subst Kepts p.is h)) m in
        let b : starts (kind_at x) (text_at x) ≡ true = subst (λ z. starts (kind_at z) (text_at z) ≡ true) (sym k.place) (whole_starts p.tree i p.read c) in
        (λ j. fits (cond (g j) (expr' us) unknown) x) ∙ and_both (starts (kind_at x) (text_at x)) (not (among (text_at x) us)) b k.held
front_fits e (Part Ident ∷ ps) a w h m = let p = at_part w in ident_fits p.tree (kept_left (subst Kepts p.is h)) p.read
front_fits e (Part BindingIdent ∷ ps) a w h m = let p = at_part w in bound_fits p.tree (kept_left (subst Kepts p.is h)) p.read
front_fits e _ a w h m = refl

-- ---- what a front says

-- what stands behind a list is none
abbrev pub front_stop : Want → Front → Bool
front_stop w (token' k t) = not (met w k t)
front_stop w (expr' ts) = true
front_stop w name' = true
front_stop shutting key' = true
front_stop _ key' = false
front_stop w unknown = false

abbrev pub front_met : Want → Front → Bool
front_met anything f = true
front_met w (token' k t) = met w k t
front_met still (expr' ts) = true
front_met still name' = true
front_met w f = false

abbrev pub is_stop : Want → Bool
is_stop idle = true
is_stop shutting = true
is_stop w = false

no_case : (p : ℕ → Text → Bool) → (p 1 (codes "}") ≡ false) → ((t : Text) → p 14 t ≡ false) → (p 0 (codes "case") ≡ false) → (p 0 (codes "default") ≡ false) → (k : ℕ) (t : Text) → idle_at k t ≡ true → p k t ≡ true → ⊥
no_case p b n c d k t h g = by_shut (test (shutting_at k t))
  where
    by_shut : Test (shutting_at k t) → ⊥
    by_shut (yes' s) = never (p k t) g ((λ i. p (eq_nat {a = k} {b = 1} (and_left (nat_eq k 1) _ s) i) (same_is t (codes "}") (and_right (nat_eq k 1) _ s) i)) ∙ b)
    by_shut (no' s) = by_end (test (nat_eq k 14)) (or_else (shutting_at k t) _ h s)
      where
        by_end : Test (nat_eq k 14) → (nat_eq k 14 || (nat_eq k 0 && (same t (codes "case") || same t (codes "default")))) ≡ true → ⊥
        by_end (yes' e) r = never (p k t) g ((λ i. p (eq_nat {a = k} {b = 14} e i) t) ∙ n t)
        by_end (no' e) r = by_word (and_left (nat_eq k 0) _ r') (test (same t (codes "case"))) (and_right (nat_eq k 0) _ r')
          where
            r' : (nat_eq k 0 && (same t (codes "case") || same t (codes "default"))) ≡ true
            r' = or_else (nat_eq k 14) _ r e

            by_word : nat_eq k 0 ≡ true → Test (same t (codes "case")) → (same t (codes "case") || same t (codes "default")) ≡ true → ⊥
            by_word z (yes' s) q = never (p k t) g ((λ i. p (eq_nat {a = k} {b = 0} z i) (same_is t (codes "case") s i)) ∙ c)
            by_word z (no' s) q = never (p k t) g ((λ i. p (eq_nat {a = k} {b = 0} z i) (same_is t (codes "default") (or_else (same t (codes "case")) _ q s) i)) ∙ d)

stop_idle : (w : Want) (x : Place) → is_stop w ≡ true → meets w x ≡ true → idle_at (kind_at x) (text_at x) ≡ true
stop_idle idle x s m = m
stop_idle shutting x s m = by_or (shutting_at (kind_at x) (text_at x)) _ m
  where
    by_or : (a b : Bool) → a ≡ true → (a || b) ≡ true
    by_or true b h = refl
    by_or false b h = cc
stop_idle _ x s m = cc

met_back : (w : Want) (k : TokenKind) (t : Text) (x : Place) → is_stop w ≡ true → Seen x k t → meets w x ≡ true → met w k t ≡ true
met_back idle k t x l s m = (λ i. idle_at (sym s.kind i) (sym s.text i)) ∙ m
met_back shutting k t x l s m = (λ i. shutting_at (sym s.kind i) (sym s.text i)) ∙ m
met_back _ k t x l s m = cc

pub front_stops : (w : Want) (f : Front) (x : Place) → is_stop w ≡ true → front_stop w f ≡ true → fits f x ≡ true → meets w x ≡ true → ⊥
front_stops w (token' k t) x l h f m = never (met w k t) (met_back w k t x l (is_seen x k t f) m) (not_is (met w k t) h)
front_stops w (expr' ts) x l h f m = no_case starts refl (λ t. refl) refl refl (kind_at x) (text_at x) (stop_idle w x l m) (and_left (starts (kind_at x) (text_at x)) _ f)
front_stops w name' x l h f m = no_case (λ k t. nat_eq k 0 && is_ident t) refl (λ t. refl) refl refl (kind_at x) (text_at x) (stop_idle w x l m) f
front_stops shutting key' x l h f m = never (key_start (kind_at x) (text_at x)) f (λ i. key_start (eq_nat {a = kind_at x} {b = 1} (and_left (nat_eq (kind_at x) 1) _ m) i) (same_is (text_at x) (codes "}") (and_right (nat_eq (kind_at x) 1) _ m) i))
front_stops _ key' x l h f m = cc
front_stops w unknown x l h f m = cc

-- neither an expression nor a name begins with `catch` or `finally`
no_catch : (p : ℕ → Text → Bool) → p 0 (codes "catch") ≡ false → p 0 (codes "finally") ≡ false → (k : ℕ) (t : Text) → p k t ≡ true → still_at k t ≡ true
no_catch p c d k t g = by_at (test (nat_eq k 0 && among t (codes "catch" ∷ codes "finally" ∷ [])))
  where
    by_word : nat_eq k 0 ≡ true → Test (same t (codes "catch")) → (same t (codes "catch") || (same t (codes "finally") || false)) ≡ true → ⊥
    by_word z (yes' s) q = never (p k t) g ((λ i. p (eq_nat {a = k} {b = 0} z i) (same_is t (codes "catch") s i)) ∙ c)
    by_word z (no' s) q = by_second (test (same t (codes "finally")))
      where
        by_second : Test (same t (codes "finally")) → ⊥
        by_second (yes' e) = never (p k t) g ((λ i. p (eq_nat {a = k} {b = 0} z i) (same_is t (codes "finally") e i)) ∙ d)
        by_second (no' e) = never (same t (codes "finally") || false) (or_else (same t (codes "catch")) _ q s) ((λ i. e i || false))

    by_at : Test (nat_eq k 0 && among t (codes "catch" ∷ codes "finally" ∷ [])) → still_at k t ≡ true
    by_at (no' n) = ap not n
    by_at (yes' y) = absurd (by_word (and_left (nat_eq k 0) _ y) (test (same t (codes "catch"))) (and_right (nat_eq k 0) _ y))

pub front_meets : (w : Want) (f : Front) (x : Place) → is_look w ≡ true → front_met w f ≡ true → fits f x ≡ true → meets w x ≡ true
front_meets anything f x l h g = refl
front_meets still (expr' ts) x l h g = no_catch starts refl refl (kind_at x) (text_at x) (and_left (starts (kind_at x) (text_at x)) _ g)
front_meets still name' x l h g = no_catch (λ k t. nat_eq k 0 && is_ident t) refl refl (kind_at x) (text_at x) g
front_meets still (token' k t) x l h g = look_met still k t x refl (is_seen x k t g) h
front_meets idle (token' k t) x l h g = look_met idle k t x refl (is_seen x k t g) h
front_meets shutting (token' k t) x l h g = look_met shutting k t x refl (is_seen x k t g) h
front_meets (ended n) (token' k t) x l h g = look_met (ended n) k t x refl (is_seen x k t g) h
front_meets parted (token' k t) x l h g = look_met parted k t x refl (is_seen x k t g) h
front_meets (other l' u) (token' k t) x l h g = look_met (other l' u) k t x refl (is_seen x k t g) h
front_meets _ _ x l h g = cc

-- ---- items of a list

abbrev pub is_listed : Nonterminal → Bool
is_listed Stmt = true
is_listed Item = true
is_listed CaseClause = true
is_listed ClassMember = true
is_listed c = false

abbrev pub front_ok : Nonterminal → Front → Bool
front_ok c f = front_stop (stop_of c) f && front_met (want_of c) f

abbrev pub fronts_ok : Nonterminal → Kind → Bool
fronts_ok c k = not (in_homes c (homes k)) || front_ok c (front (want_of c) (production k))

stmt_fronts : every (fronts_ok Stmt) stated_kinds ≡ true
stmt_fronts = refl

item_fronts : every (fronts_ok Item) stated_kinds ≡ true
item_fronts = refl

case_fronts : every (fronts_ok CaseClause) stated_kinds ≡ true
case_fronts = refl

member_fronts : every (fronts_ok ClassMember) stated_kinds ≡ true
member_fronts = refl

pub listed_fronts : (c : Nonterminal) → is_listed c ≡ true → every (fronts_ok c) stated_kinds ≡ true
listed_fronts Stmt l = stmt_fronts
listed_fronts Item l = item_fronts
listed_fronts CaseClause l = case_fronts
listed_fronts ClassMember l = member_fronts
listed_fronts _ l = cc
