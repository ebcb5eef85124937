-- What a loop reads of declarators behind the first one, wherever that was read from.
use Rattle.std.proofs.Common.{◌≡◌, ◌++◌, false, true, map, List, [], ◌∷◌, refl, sym, ◌∙◌, ap, subst, Box, Global}
use Rattle.jsx_tree.specs.Kinds.{DeclareWord}
use Rattle.jsx_tree.specs.Nonterminals.{Declarators}
use Rattle.jsx_tree.specs.Grammar.{NoTrailing, Part, pun}
use Rattle.jsx_tree.specs.Reading.{Lost, forth}
use Rattle.jsx_tree.specs.StaticRules.{Surroundings}
use Rattle.jsx_tree.specs.Walk.{one}
use Rattle.jsx_tree.specs.Answers.{Only, Barred, Moves}
use Rattle.jsx_tree.specs.View.{forest, inside, view_pat}
use Rattle.jsx_tree.specs.Told.{told_pat}
use Rattle.jsx_tree.specs.declared.tree.Pat.{Pat as Code}
use Rattle.jsx_tree.specs.Faults.{Fault}
use Rattle.jsx_tree.proofs.Rows.Bridge.{found_at}
use Rattle.jsx_tree.proofs.Rows.Lists.{begun, one_next}
use Rattle.jsx_tree.proofs.Rows.Turns.{Turn, prepend}
use Rattle.jsx_token.specs.Here.{Here, place_of}
use Rattle.jsx_token.specs.Places.{Takes}
use Rattle.jsx_token.specs.Semicolons.{in_list}
use Rattle.jsx_token.proofs.Semicolons.{comma_first, one_more}
use Rattle.jsx_operand.specs.SoFar.{so_far}
use Rattle.jsx_operand.specs.Spans.{IsPlaced}
use Rattle.jsx_operand.proofs.OfSoFar.{of_so_far}
use Rattle.jsx_operand.proofs.Placing.{PlacedFront, plain_no_trailing, front_last, front_more, front_none, list_to, map_pushed}
use Rattle.jsx_operand.proofs.Trees.{pushed}
use Rattle.jsx_declaration.specs.Heads.{AllDeclare, IsFirst, NoneDeclare, free_row, marked_row}
use Rattle.jsx_declaration.specs.Initials.{has_value}
use Rattle.jsx_declaration.proofs.Heads.{Leads, declares, leads_more, leads_none, not_declared, not_initialized}
use Rattle.jsx_declaration.proofs.Items.{inits, inits_more, read_value}

-- the declarators so far, with a comma behind each, and one more that was read
pub record Read (v : Surroundings) (w : DeclareWord) (ps : List (Box Code Global)) (p : Code) (x z : Here) : Type 0 where
  pub at : Here
  pub leads : Leads v (place_of x) (forest (map (inside view_pat) ps)) (place_of at)
  pub free : Turn so_far v free_row free_row (place_of x) (place_of at) (prepend (forest (map (inside view_pat) ps)))
  pub marked : Turn so_far v marked_row marked_row (place_of x) (place_of at) (prepend (forest (map (inside view_pat) ps)))
  pub initialized : inits w (forest (map (inside view_pat) ps)) ≡ true
  pub placed : PlacedFront false NoTrailing (map (inside told_pat) ps) (map (inside view_pat) ps) x at
  pub next : IsFirst v p at z

-- so of each place from which the first of them was read
pub record AllRead (v : Surroundings) (w : DeclareWord) (first : Code) (y : Here) (ps : List (Box Code Global)) (p : Code) (z : Here) : Type 0 where
  pub on : (x : Here) → IsFirst v first x y → Read v w ps p x z

pub read_first : {v : Surroundings} {y : Here} {ps : List (Box Code Global)} (w : DeclareWord) (p : Code) → ps ≡ [] → AllRead v w p y ps p y
read_first {v} {y} {ps} w p e =
    let empty = ap (λ xs. forest (map (inside view_pat) xs)) e in
    record {
      on = λ x f. record {
        at = x;
        leads = leads_none _ empty;
        free = begun _ empty;
        marked = begun _ empty;
        initialized = subst (λ xs. inits w (forest (map (inside view_pat) xs)) ≡ true) (sym e) refl;
        placed = subst (λ xs. PlacedFront false NoTrailing (map (inside told_pat) xs) (map (inside view_pat) xs) x x) (sym e) front_none;
        next = f;
      };
    }

inits_pushed : {v : Surroundings} {x z : Here} {ps qs : List (Box Code Global)} (w : DeclareWord) (p : Box Code Global) → Read v w ps p.value x z → qs ≡ ps ++ p ∷ [] → has_value w (view_pat p.value) ≡ true → inits w (forest (map (inside view_pat) qs)) ≡ true
inits_pushed {ps = ps} {qs} w p r e h = subst (λ ts. inits w ts ≡ true) (sym (pushed (inside view_pat) _ _ _ e)) (inits_more w (forest (map (inside view_pat) ps)) (view_pat p.value) r.initialized (read_value w r.next.only ∙ h))

pub read_more : {v : Surroundings} {w : DeclareWord} {first : Code} {y z u t : Here} {ps qs : List (Box Code Global)} (p : Box Code Global) (q : Code) → AllRead v w first y ps p.value z → qs ≡ ps ++ p ∷ [] → has_value w (view_pat p.value) ≡ true → in_list (place_of z) ≡ true → Moves (pun ",") (place_of z) (place_of u) → Takes (pun ",") z u
    → Only so_far v (Part Declarators) (place_of u) (one (view_pat q)) (place_of t) → IsPlaced (told_pat q) (view_pat q) u t → AllRead v w first y qs q t
read_more {w = w} {z = z} {u} {ps = ps} {qs} p q a e h b m comma o l = record {
  on = λ x f.
      let r = a.on x f in
      let all = pushed (inside view_pat) _ _ _ e in
      record {
        at = u;
        leads = leads_more _ _ r.leads r.next.only m all;
        free = one_more _ _ of_so_far refl (comma_first (place_of z) b (found_at (sym m.is) m.found)) r.free r.next.only m all;
        marked = one_next _ _ of_so_far refl refl r.marked r.next.only m all;
        initialized = inits_pushed w p r e h;
        placed = front_more plain_no_trailing r.placed r.next.placed comma.same comma.leads (map_pushed (inside told_pat) ps qs p (told_pat p.value) e refl) (map_pushed (inside view_pat) ps qs p (view_pat p.value) e refl);
        next = record { only = o; placed = l };
      };
}

pub read_all : {v : Surroundings} {w : DeclareWord} {first : Code} {y z u : Here} {ps qs : List (Box Code Global)} (p : Box Code Global) → AllRead v w first y ps p.value z → qs ≡ ps ++ p ∷ [] → has_value w (view_pat p.value) ≡ true → in_list (place_of z) ≡ true → forth (pun ",") (place_of z) ≡ Lost → u ≡ z → AllDeclare v w first y qs u
read_all {w = w} {ps = ps} {qs} p a e h b l same = record {
  on = λ x f.
      let r = a.on x f in
      record {
        declares = declares _ _ r.leads r.free r.marked r.next.only b (record { same = sym (ap place_of same); stuck = record { is = l } }) (pushed (inside view_pat) _ _ _ e);
        initialized = inits_pushed w p r e h;
        placed = list_to same (front_last plain_no_trailing r.placed r.next.placed refl refl (map_pushed (inside told_pat) ps qs p (told_pat p.value) e refl) (map_pushed (inside view_pat) ps qs p (view_pat p.value) e refl));
      };
}

pub read_bare : {v : Surroundings} {w : DeclareWord} {first p : Code} {y z : Here} {ps : List (Box Code Global)} {e : Fault} → AllRead v w first y ps p z → has_value w (view_pat p) ≡ false → NoneDeclare v w first y e
read_bare {w = w} a h = record { no = λ x f. let r = a.on x f in not_initialized w _ r.free r.marked r.next.only (read_value w r.next.only ∙ h) }

pub read_none : {v : Surroundings} {w : DeclareWord} {first : Code} {y z : Here} {ps qs : List (Box Code Global)} {o : Fault} (p : Box Code Global) (u : Here) → AllRead v w first y ps p.value z → qs ≡ ps ++ p ∷ [] → in_list (place_of z) ≡ true → Moves (pun ",") (place_of z) (place_of u) → Barred so_far v (Part Declarators) (place_of u) o → NoneDeclare v w first y o
read_none {w = w} {z = z} {ps = ps} {qs} p u a e b m n = record {
  no = λ x f.
      let r = a.on x f in
      let all = pushed (inside view_pat) _ _ _ e in
      not_declared w (forest (map (inside view_pat) qs)) (one_more _ _ of_so_far refl (comma_first (place_of z) b (found_at (sym m.is) m.found)) r.free r.next.only m all) (one_next _ _ of_so_far refl refl r.marked r.next.only m all) n;
}
