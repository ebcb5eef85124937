-- The places of the events of a proper program rise.
use Rattle.std.proofs.Common.{◌≡◌, ℕ, suc, List, [], ◌∷◌, ◌++◌, Bool, true, false, cond, not, ◌&&◌, refl, sym, ap, ◌∙◌, append_assoc, append-nil, subst}
use Rattle.jsx_base.specs.Token.{TokenKind, Text, IdentifierName}
use Rattle.jsx_tree.specs.Kinds.{Exported, From, Specifier, SpecifierAs, ExportAllAs, ExportDefaultFn, ExportDefaultClass, ExportDefaultExpr, Script, Kind, program, Tree, leaf, node, list, Forest, none, part}
use Rattle.jsx_tree.specs.Nonterminals.{Nonterminal, Ident, Name, StringOnly, WholeProgram}
use Rattle.jsx_tree.specs.Form.{Position, position, positions}
use Rattle.jsx_tree.specs.Sound.{each_node, each_nodes}
use Rattle.jsx_tree.specs.Scopes.{Path, below, is_name_at}
use Rattle.jsx_tree.specs.Clashes.{Place, AtName, AtDefault, Export, export_name, evals_here}
use Rattle.jsx_tree.proofs.Tokens.{and_left, and_right, and_both}
use Rattle.jsx_names.specs.Events.{Frame, Event, Closes, Refers, Simply, Exported', InHead, Mode, Plain, Binding, mode, is_scope, frame, has_scope, inner, is_inner, is_behind, entering, around, exported_here, wanted_here, exported, wanted, called, of_node, of_leaf, events_below, events_parts, events_each, events}
use Rattle.jsx_names.specs.Proper.{stands, fill, is_proper, is_sided, proper}
use Rattle.jsx_names.specs.Least.{is_out}
use Rattle.jsx_names.specs.Rising.{places_in, none_before, rising}
use Rattle.jsx_names.proofs.ScopeNames.{never}
use Rattle.jsx_names.proofs.Evals.{inner_all, outer_first, all_ordered}
use Rattle.jsx_names.proofs.ClashTree.{rest_first, rest_inner}
use Rattle.jsx_names.proofs.Rises.{under, under_self, all_under, all_from, from_append, under_append, all_under_from, all_from_before, all_from_under, rising_parts, none_above, self_in, places_append}

-- ---- lists of events

places_around : (b : Bool) (f : Frame) (p : Path) (es : List Event) → places_in (around b f p es) ≡ places_in es
places_around true f p es = places_append es (Closes ∷ []) ∙ append-nil (places_in es)
places_around false f p es = refl

places_entering : (b : Bool) (es : List Event) → places_in (entering b ++ es) ≡ places_in es
places_entering true es = refl
places_entering false es = refl

places_called : (ps : List Path) → places_in (called ps) ≡ []
places_called [] = refl
places_called (p ∷ ps) = places_called ps

places_name : (b : Bool) (t : Text) (p : Path) → places_in (cond b (Refers t p ∷ []) []) ≡ []
places_name true t p = refl
places_name false t p = refl

abbrev its_places : List Export → List Place
its_places [] = []
its_places (e ∷ es) = e.place ∷ its_places es

places_wanted : (xs : List Export) → places_in (wanted xs) ≡ its_places xs
places_wanted [] = refl
places_wanted (x ∷ xs) = ap (λ z. x.place ∷ z) (places_wanted xs)

places_exported : (xs : List Export) → places_in (exported xs) ≡ its_places xs
places_exported [] = refl
places_exported (x ∷ xs) = ap (λ z. x.place ∷ z) (places_exported xs)

places_here : (k : Kind) (p : Path) (cs : Forest) → places_in (of_node k p cs) ≡ its_places (wanted_here k p cs) ++ its_places (exported_here k p cs)
places_here k p cs =
    places_append (wanted (wanted_here k p cs)) (exported (exported_here k p cs) ++ called (evals_here k p cs))
    ∙ ap (λ z. z ++ places_in (exported (exported_here k p cs) ++ called (evals_here k p cs))) (places_wanted (wanted_here k p cs))
    ∙ ap (λ z. its_places (wanted_here k p cs) ++ z)
    (places_append (exported (exported_here k p cs)) (called (evals_here k p cs)) ∙ ap (λ z. places_in (exported (exported_here k p cs)) ++ z) (places_called (evals_here k p cs)) ∙ append-nil (places_in (exported (exported_here k p cs))) ∙ places_exported (exported_here k p cs))

-- rising, and all below a path
pub record Climbs (p : Path) (xs : List Place) : Type 0 where
  pub rise : rising xs ≡ true
  pub low : all_under p xs ≡ true

no_climb : (p : Path) → Climbs p []
no_climb p = record { rise = refl; low = refl }

one_climbs : (p : Path) (a : Place) (e : Path) → under p e ≡ true → Climbs p (AtName e ∷ [])
one_climbs p a e h = record { rise = refl; low = and_both (under p e) true h refl }

twice_climbs : (p e : Path) → under p e ≡ true → Climbs p (AtName e ∷ (AtName e ∷ []))
twice_climbs p e h = record {
  rise = and_both (none_before (AtName e) (AtName e ∷ [])) true (and_both (not (is_out (AtName e) (AtName e))) true (ap not (self_in (AtName e))) refl) refl;
  low = and_both (under p e) (under p e && true) h (and_both (under p e) true h refl);
}

under_below : (p : Path) (i : ℕ) → under p (below p i) ≡ true
under_below p i = and_left (under p (below p i)) true (all_from_under p i (AtName (below p i) ∷ []) (all_under_from p i (AtName (below p i) ∷ []) (and_both (under (below p i) (below p i)) true (under_self (below p i)) refl)))

-- ---- leaves

leaf_climbs : (m : Mode) (q : Kind) (c : Nonterminal) (p : Path) (s : TokenKind) (t : Text) → Climbs p (places_in (of_leaf m q c p s t))
leaf_climbs (Binding Simply r) q c p IdentifierName t = one_climbs p (AtName p) p (under_self p)
leaf_climbs (Binding InHead r) q c p IdentifierName t = one_climbs p (AtName p) p (under_self p)
leaf_climbs (Binding Exported' r) q c p IdentifierName t = twice_climbs p p (under_self p)
leaf_climbs m q c p s t = subst (Climbs p) (sym (places_name (is_name_at q c s t) t p)) (no_climb p)

-- ---- what a node exports and wants

name_climbs : (p : Path) (i : ℕ) (t : Tree) → Climbs (below p i) (its_places (export_name (below p i) t))
name_climbs p i (leaf IdentifierName x) = one_climbs (below p i) (AtName (below p i)) (below p i) (under_self (below p i))
name_climbs p i t = no_climb (below p i)

same_climbs : (p : Path) (t : Tree) → Climbs p (its_places (export_name (below p 0) t) ++ its_places (export_name (below p 0) t))
same_climbs p (leaf IdentifierName x) = twice_climbs p (below p 0) (under_below p 0)
same_climbs p t = no_climb p

first_climbs : (p : Path) (i : ℕ) (xs ys : List Place) → Climbs (below p i) xs → rising ys ≡ true → all_from p (suc i) ys ≡ true → Climbs p (xs ++ ys)
first_climbs p i xs ys a r f = record {
  rise = rising_parts p i xs ys a.rise a.low r f;
  low = under_append p xs ys (all_from_under p i xs (all_under_from p i xs a.low)) (all_from_under p (suc i) ys f);
}

abbrev is_named_alone : Kind → Bool
is_named_alone (program (Specifier Exported)) = true
is_named_alone (program (Specifier From)) = true
is_named_alone (program (SpecifierAs Exported)) = true
is_named_alone (program (SpecifierAs From)) = true
is_named_alone (program ExportAllAs) = true
is_named_alone k = false

two_names : (p : Path) (a b : Tree) → Climbs p (its_places (export_name (below p 0) a) ++ its_places (export_name (below p 1) b))
two_names p a b = first_climbs p 0 (its_places (export_name (below p 0) a)) (its_places (export_name (below p 1) b)) (name_climbs p 0 a) (name_climbs p 1 b).rise (all_under_from p 1 (its_places (export_name (below p 1) b)) (name_climbs p 1 b).low)

lone_name : (p : Path) (i : ℕ) (t : Tree) → Climbs p (its_places (export_name (below p i) t))
lone_name p i t = record { rise = (name_climbs p i t).rise; low = all_from_under p i (its_places (export_name (below p i) t)) (all_under_from p i (its_places (export_name (below p i) t)) (name_climbs p i t).low) }

named_here : (k : Kind) (p : Path) (cs : Forest) → is_named_alone k ≡ true → fill (positions k) cs ≡ true → Climbs p (its_places (wanted_here k p cs) ++ its_places (exported_here k p cs))
named_here (program (Specifier Exported)) p none n w = never w
named_here (program (Specifier Exported)) p (part a none) n w = same_climbs p a
named_here (program (Specifier Exported)) p (part a (part b bs)) n w = never (and_right (stands Ident a) false w)
named_here (program (Specifier From)) p none n w = never w
named_here (program (Specifier From)) p (part a none) n w = lone_name p 0 a
named_here (program (Specifier From)) p (part a (part b bs)) n w = never (and_right (stands Name a) false w)
named_here (program (SpecifierAs Exported)) p none n w = never w
named_here (program (SpecifierAs Exported)) p (part a none) n w = never (and_right (stands Ident a) false w)
named_here (program (SpecifierAs Exported)) p (part a (part b none)) n w = two_names p a b
named_here (program (SpecifierAs Exported)) p (part a (part b (part d ds))) n w = never (and_right (stands Name b) false (and_right (stands Ident a) (stands Name b && false) w))
named_here (program (SpecifierAs From)) p none n w = never w
named_here (program (SpecifierAs From)) p (part a none) n w = never (and_right (stands Name a) false w)
named_here (program (SpecifierAs From)) p (part a (part b none)) n w = lone_name p 1 b
named_here (program (SpecifierAs From)) p (part a (part b (part d ds))) n w = never (and_right (stands Name b) false (and_right (stands Name a) (stands Name b && false) w))
named_here (program ExportAllAs) p none n w = never w
named_here (program ExportAllAs) p (part a bs) n w = lone_name p 0 a
named_here k p cs n w = never n

-- ---- what a node says before its parts

abbrev before_parts : Kind → Path → Forest → List Place
before_parts k p cs = its_places (wanted_here k p cs) ++ its_places (exported_here k p cs)

head_climbs : (k : Kind) (p : Path) (cs : Forest) (ys : List Place) → fill (positions k) cs ≡ true → (is_named_alone k ≡ true → ys ≡ []) → rising ys ≡ true → all_from p 0 ys ≡ true → Climbs p (before_parts k p cs ++ ys)
head_climbs k p cs ys w n r f = go (is_named_alone k) refl
  where
    plain : Climbs p ys
    plain = record { rise = r; low = all_from_under p 0 ys f }

    default : Climbs p (AtDefault p ∷ ys)
    default = record { rise = and_both (none_before (AtDefault p) ys) (rising ys) (none_above (AtDefault p) p ys refl f) r; low = and_both (under p p) (all_under p ys) (under_self p) (all_from_under p 0 ys f) }

    others : (l : Kind) → is_named_alone l ≡ false → Climbs p (before_parts l p cs ++ ys)
    others (program (Specifier Exported)) e = never (sym e)
    others (program (Specifier From)) e = never (sym e)
    others (program (SpecifierAs Exported)) e = never (sym e)
    others (program (SpecifierAs From)) e = never (sym e)
    others (program ExportAllAs) e = never (sym e)
    others (program ExportDefaultFn) e = default
    others (program ExportDefaultClass) e = default
    others (program ExportDefaultExpr) e = default
    others l e = plain

    go : (b : Bool) → is_named_alone k ≡ b → Climbs p (before_parts k p cs ++ ys)
    go true e = subst (λ z. Climbs p (before_parts k p cs ++ z)) (sym (n e)) (subst (Climbs p) (sym (append-nil (before_parts k p cs))) (named_here k p cs e w))
    go false e = others k e

-- ---- names alone say nothing

abbrev is_leaf_place : Nonterminal → Bool
is_leaf_place Ident = true
is_leaf_place Name = true
is_leaf_place StringOnly = true
is_leaf_place c = false

leaf_place : (q : Kind) (c : Nonterminal) (p : Path) (t : Tree) → is_leaf_place c ≡ true → stands c t ≡ true → places_in (events_below Plain q c p t) ≡ []
leaf_place q c p (leaf s x) l w = places_name (is_name_at q c s x) x p
leaf_place q c p (list ts) l w = never w
leaf_place q Ident p (node k cs) l w = never w
leaf_place q Name p (node k cs) l w = never w
leaf_place q StringOnly p (node k cs) l w = never w
leaf_place q c p (node k cs) l w = never l

abbrev parts_places : Mode → Kind → Path → ℕ → List Position → Forest → List Place
parts_places m k p i ss cs = places_in (events_parts false m k p i ss cs) ++ places_in (events_parts true m k p i ss cs)

one_silent : (es : List Event) → places_in es ≡ [] → places_in (es ++ []) ≡ []
one_silent es h = ap places_in (append-nil es) ∙ h

two_silent : (es fs : List Event) → places_in es ≡ [] → places_in fs ≡ [] → places_in (es ++ (fs ++ [])) ≡ []
two_silent es fs a b = places_append es (fs ++ []) ∙ ap (λ z. z ++ places_in (fs ++ [])) a ∙ one_silent fs b

alone_silent : (m : Mode) (k : Kind) (p : Path) (cs : Forest) → is_named_alone k ≡ true → fill (positions k) cs ≡ true → parts_places m k p 0 (positions k) cs ≡ []
alone_silent m (program (Specifier Exported)) p none n w = never w
alone_silent m (program (Specifier Exported)) p (part a bs) n w = one_silent (events_below Plain (program (Specifier Exported)) Ident (below p 0) a) (leaf_place (program (Specifier Exported)) Ident (below p 0) a refl (and_left (stands Ident a) (fill [] bs) w))
alone_silent m (program (Specifier From)) p none n w = never w
alone_silent m (program (Specifier From)) p (part a bs) n w = one_silent (events_below Plain (program (Specifier From)) Name (below p 0) a) (leaf_place (program (Specifier From)) Name (below p 0) a refl (and_left (stands Name a) (fill [] bs) w))
alone_silent m (program (SpecifierAs Exported)) p none n w = never w
alone_silent m (program (SpecifierAs Exported)) p (part a none) n w = never (and_right (stands Ident a) false w)
alone_silent m (program (SpecifierAs Exported)) p (part a (part b bs)) n w =
    two_silent (events_below Plain (program (SpecifierAs Exported)) Ident (below p 0) a) (events_below Plain (program (SpecifierAs Exported)) Name (below p 1) b)
    (leaf_place (program (SpecifierAs Exported)) Ident (below p 0) a refl (and_left (stands Ident a) (stands Name b && fill [] bs) w))
    (leaf_place (program (SpecifierAs Exported)) Name (below p 1) b refl (and_left (stands Name b) (fill [] bs) (and_right (stands Ident a) (stands Name b && fill [] bs) w)))
alone_silent m (program (SpecifierAs From)) p none n w = never w
alone_silent m (program (SpecifierAs From)) p (part a none) n w = never (and_right (stands Name a) false w)
alone_silent m (program (SpecifierAs From)) p (part a (part b bs)) n w =
    two_silent (events_below Plain (program (SpecifierAs From)) Name (below p 0) a) (events_below Plain (program (SpecifierAs From)) Name (below p 1) b)
    (leaf_place (program (SpecifierAs From)) Name (below p 0) a refl (and_left (stands Name a) (stands Name b && fill [] bs) w))
    (leaf_place (program (SpecifierAs From)) Name (below p 1) b refl (and_left (stands Name b) (fill [] bs) (and_right (stands Name a) (stands Name b && fill [] bs) w)))
alone_silent m (program ExportAllAs) p none n w = never w
alone_silent m (program ExportAllAs) p (part a none) n w = never (and_right (stands Name a) false w)
alone_silent m (program ExportAllAs) p (part a (part b bs)) n w =
    two_silent (events_below Plain (program ExportAllAs) Name (below p 0) a) (events_below Plain (program ExportAllAs) StringOnly (below p 1) b)
    (leaf_place (program ExportAllAs) Name (below p 0) a refl (and_left (stands Name a) (stands StringOnly b && fill [] bs) w))
    (leaf_place (program ExportAllAs) StringOnly (below p 1) b refl (and_left (stands StringOnly b) (fill [] bs) (and_right (stands Name a) (stands StringOnly b && fill [] bs) w)))
alone_silent m k p cs n w = never n

-- ---- trees

node_places : (q k : Kind) (p : Path) (cs : Forest) (xs ys : List Event) → places_in (around (is_scope q k) (frame k) p (of_node k p cs ++ (xs ++ around (has_scope k) (inner k) p ys))) ≡ before_parts k p cs ++ (places_in xs ++ places_in ys)
node_places q k p cs xs ys =
    places_around (is_scope q k) (frame k) p (of_node k p cs ++ (xs ++ around (has_scope k) (inner k) p ys))
    ∙ places_append (of_node k p cs) (xs ++ around (has_scope k) (inner k) p ys)
    ∙ ap (λ z. z ++ places_in (xs ++ around (has_scope k) (inner k) p ys)) (places_here k p cs)
    ∙ ap (λ z. before_parts k p cs ++ z) (places_append xs (around (has_scope k) (inner k) p ys) ∙ ap (λ z. places_in xs ++ z) (places_around (has_scope k) (inner k) p ys))

no_outside : (m : Mode) (k : Kind) (p : Path) (i : ℕ) (ss : List Position) (cs : Forest) → inner_all k ss ≡ true → events_parts false m k p i ss cs ≡ []
no_outside m k p i [] cs h = refl
no_outside m k p i (s ∷ ss) none h = refl
no_outside m k p i (position f c g o a ∷ ss) (part t ts) h =
    ap (λ b. cond b [] (events_below (mode m k c) k c (below p i) t) ++ events_parts false m k p (suc i) ss ts) (and_left (is_inner k c) (inner_all k ss) h)
    ∙ no_outside m k p (suc i) ss ts (and_right (is_inner k c) (inner_all k ss) h)

part_places : (b d : Bool) (xs fs ts : List Event) → (b ≡ true → fs ≡ []) → places_in (cond b [] xs ++ fs) ++ places_in (entering d ++ (cond b xs [] ++ ts)) ≡ places_in xs ++ (places_in fs ++ places_in ts)
part_places true d xs fs ts f =
    ap (λ z. places_in z ++ places_in (entering d ++ (xs ++ ts))) (f refl)
    ∙ places_entering d (xs ++ ts)
    ∙ places_append xs ts
    ∙ sym (ap (λ z. places_in xs ++ (places_in z ++ places_in ts)) (f refl))
part_places false d xs fs ts f =
    ap (λ z. z ++ places_in (entering d ++ ts)) (places_append xs fs)
    ∙ ap (λ z. (places_in xs ++ places_in fs) ++ z) (places_entering d ts)
    ∙ append_assoc (places_in xs) (places_in fs) (places_in ts)

-- rising, and of the i-th part or a later one
record Goes (p : Path) (i : ℕ) (xs : List Place) : Type 0 where
  up : rising xs ≡ true
  on : all_from p i xs ≡ true

part_goes : (p : Path) (i : ℕ) (xs ys : List Place) → Climbs (below p i) xs → Goes p (suc i) ys → Goes p i (xs ++ ys)
part_goes p i xs ys a b = record {
  up = rising_parts p i xs ys a.rise a.low b.up b.on;
  on = from_append p i xs ys (all_under_from p i xs a.low) (all_from_before p i ys b.on);
}

list_climbs : (p : Path) (i : ℕ) (xs : List Place) → Goes p i xs → Climbs p xs
list_climbs p i xs g = record { rise = g.up; low = all_from_under p i xs g.on }

whole_climbs : (k : Kind) (p : Path) (cs : Forest) (ys : List Place) → fill (positions k) cs ≡ true → (is_named_alone k ≡ true → ys ≡ []) → Goes p 0 ys → Climbs p (before_parts k p cs ++ ys)
whole_climbs k p cs ys w n g = head_climbs k p cs ys w n g.up g.on

mutual
  climbs_tree : (m : Mode) (q : Kind) (c : Nonterminal) (p : Path) (t : Tree) → each_node is_proper t ≡ true → Climbs p (places_in (events_below m q c p t))
  climbs_tree m q c p (leaf s x) h = leaf_climbs m q c p s x
  climbs_tree m q c p (list ts) h = list_climbs p 0 (places_in (events_each m q c p 0 ts)) (climbs_each m q c p 0 ts h)
  climbs_tree m q c p (node k cs) h =
      subst (Climbs p) (sym (node_places q k p cs (events_parts false m k p 0 (positions k) cs) (events_parts true m k p 0 (positions k) cs)))
      (whole_climbs k p cs (parts_places m k p 0 (positions k) cs) (and_left (fill (positions k) cs) (each_nodes is_proper cs) h)
      (λ n. alone_silent m k p cs n (and_left (fill (positions k) cs) (each_nodes is_proper cs) h))
      (climbs_parts m k p 0 (positions k) cs (all_ordered k) (and_right (fill (positions k) cs) (each_nodes is_proper cs) h)))

  climbs_parts : (m : Mode) (k : Kind) (p : Path) (i : ℕ) (ss : List Position) (cs : Forest) → outer_first k ss ≡ true → each_nodes is_proper cs ≡ true → Goes p i (parts_places m k p i ss cs)
  climbs_parts m k p i [] cs e h = record { up = refl; on = refl }
  climbs_parts m k p i (s ∷ ss) none e h = record { up = refl; on = refl }
  climbs_parts m k p i (position f c g o a ∷ ss) (part t ts) e h =
      subst (Goes p i) (sym (part_places (is_inner k c) (is_behind k c) (events_below (mode m k c) k c (below p i) t) (events_parts false m k p (suc i) ss ts) (events_parts true m k p (suc i) ss ts) (λ b. no_outside m k p (suc i) ss ts (rest_inner k ss (is_inner k c) (is_inner k c) refl e b))))
      (part_goes p i (places_in (events_below (mode m k c) k c (below p i) t)) (parts_places m k p (suc i) ss ts)
      (climbs_tree (mode m k c) k c (below p i) t (and_left (each_node is_proper t) (each_nodes is_proper ts) h))
      (climbs_parts m k p (suc i) ss ts (rest_first k ss (is_inner k c) e) (and_right (each_node is_proper t) (each_nodes is_proper ts) h)))

  climbs_each : (m : Mode) (q : Kind) (c : Nonterminal) (p : Path) (i : ℕ) (ts : Forest) → each_nodes is_proper ts ≡ true → Goes p i (places_in (events_each m q c p i ts))
  climbs_each m q c p i none h = record { up = refl; on = refl }
  climbs_each m q c p i (part t ts) h =
      subst (Goes p i) (sym (places_append (events_below m q c (below p i) t) (events_each m q c p (suc i) ts)))
      (part_goes p i (places_in (events_below m q c (below p i) t)) (places_in (events_each m q c p (suc i) ts))
      (climbs_tree m q c (below p i) t (and_left (each_node is_proper t) (each_nodes is_proper ts) h))
      (climbs_each m q c p (suc i) ts (and_right (each_node is_proper t) (each_nodes is_proper ts) h)))

pub events_rise : (t : Tree) → proper t ≡ true → rising (places_in (events t)) ≡ true
events_rise t h = (climbs_tree Plain (program Script) WholeProgram [] t (and_left (each_node is_proper t) (each_node is_sided t) (and_right (stands WholeProgram t) (each_node is_proper t && each_node is_sided t) h))).rise
