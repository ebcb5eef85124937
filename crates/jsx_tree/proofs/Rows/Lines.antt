-- Trees on lines of their own, up to the end of the text.
use Rattle.std.proofs.Common.{◌≡◌, ◌≤◌, true, false, refl, sym, ◌∙◌, ap, subst}
use Rattle.std.specs.Prelude.{IsTrue}
use Rattle.jsx_tree.specs.Kinds.{Tree, Forest, none, part}
use Rattle.jsx_tree.specs.Nonterminals.{Nonterminal}
use Rattle.jsx_tree.specs.Grammar.{Part, TopLines}
use Rattle.jsx_tree.specs.Reading.{Place, Lost, At, ended_at}
use Rattle.jsx_tree.specs.StaticRules.{Surroundings}
use Rattle.jsx_tree.specs.Walk.{is_found, one, Items, nil, last, more, tree}
use Rattle.jsx_tree.specs.Language.{Language, Whole}
use Rattle.jsx_tree.specs.Answers.{Only, Barred, ToEnd, OnlyToEnd, NoneToEnd}
use Rattle.jsx_tree.specs.Faults.{Fault, Unread, Shallow, deepest}
use Rattle.jsx_tree.proofs.Depth.Shallow.{shallow_up, shallow_head}
use Rattle.jsx_tree.proofs.Apart.{clash}
use Rattle.jsx_tree.proofs.Rows.Laws.{Lawful}
use Rattle.jsx_tree.proofs.Rows.Steps.{both, both_up}
use Rattle.jsx_tree.proofs.Rows.Turns.{no_rest, early, item_of, whole_of}

-- what leads to the end from one place is what leads to it from a later one, with more in front
pub record Later (L : Language) (v : Surroundings) (c : Nonterminal) (y : Place) (ts ws : Forest) : Type 0 where
  pub rest : Forest
  pub is : both ts rest ≡ ws
  pub leads : ToEnd L v c y rest

pub record Onto (L : Language) (v : Surroundings) (c : Nonterminal) (x y : Place) (ts : Forest) : Type 0 where
  pub to : (us : Forest) → ToEnd L v c y us → ToEnd L v c x (both ts us)
  pub from : (ws : Forest) → ToEnd L v c x ws → Later L v c y ts ws

pub onto_none : {L : Language} {v : Surroundings} {c : Nonterminal} {x : Place} → Onto L v c x x none
onto_none = record { to = λ us e. e; from = λ ws e. record { rest = ws; is = refl; leads = e } }

pub found_end : (x : Place) → ended_at x ≡ true → IsTrue (is_found x)
found_end Lost e = cc
found_end (At q e text) f = refl

both_last : (ts : Forest) (t : Tree) (us : Forest) → both ts (part t us) ≡ both (both ts (part t none)) us
both_last none t us = refl
both_last (part u ts) t us = ap (part u) (both_last ts t us)

-- one more, where the text doesn't end
pub onto_more : {L : Language} {v : Surroundings} {c : Nonterminal} {x y z : Place} {t : Tree} (ts ws : Forest) → Lawful L → no_rest c ≡ true → Onto L v c x y ts → ended_at y ≡ false → Only L v (Part c) y (one t) z → ws ≡ both ts (part t none) → Onto L v c x z ws
onto_more {L} {v} {c} {x} {y} {z} {t} ts ws law n o e q is = record { to = to'; from = from' }
  where
    ahead : (us : Forest) (w : Place) → Items (Whole L) v TopLines c z us w → Items (Whole L) v TopLines c y (part t us) w
    ahead none w (nil f) = last (whole_of q.past) refl f
    ahead (part u us) w all = more (early c t n (law.is_read (whole_of q.past).reads).is) (whole_of q.past) refl all

    to' : (us : Forest) → ToEnd L v c z us → ToEnd L v c x (both ws us)
    to' us a = subst (λ vs. ToEnd L v c x vs) (both_last ts t us ∙ (λ i. both (sym is i) us)) (o.to (part t us) (record { end = a.end; items = ahead us a.end a.items; ended = a.ended }))

    first : (vs : Forest) (w : Place) → Items (Whole L) v TopLines c y vs w → ended_at w ≡ true → Later L v c z (part t none) vs
    first vs w (nil f) h = absurd (clash _ h e)
    first vs w (last {y = y'} {t = t'} r d f) h =
        let same = q.alone (one t') y' (tree r) in
        record { rest = none; is = λ i. part (item_of (same.0 i)) none; leads = record { end = w; items = subst (λ p. Items (Whole L) v TopLines c p none w) (sym (same.1 ∙ d)) (nil f); ended = h } }
    first vs w (more {y = y'} {z = z'} {t = t'} {u = u} {us = us} m r d all) h =
        let same = q.alone (one t') y' (tree r) in
        record { rest = part u us; is = λ i. part (item_of (same.0 i)) (part u us); leads = record { end = w; items = subst (λ p. Items (Whole L) v TopLines c p (part u us) w) (sym (same.1 ∙ d)) all; ended = h } }

    from' : (vs : Forest) → ToEnd L v c x vs → Later L v c z ws vs
    from' vs a =
        let b = o.from vs a in
        let f = first b.rest b.leads.end b.leads.items b.leads.ended in
        record { rest = f.rest; is = (λ i. both (is i) f.rest) ∙ (sym (both_last ts t f.rest) ∙ (ap (both ts) f.is ∙ b.is)); leads = f.leads }

both_none : (ts : Forest) → both ts none ≡ ts
both_none none = refl
both_none (part t ts) = ap (part t) (both_none ts)

none_behind : {L : Language} {v : Surroundings} {c : Nonterminal} {y w : Place} {us : Forest} → Barred L v (Part c) y Unread → Items (Whole L) v TopLines c y us w → us ≡ none
none_behind b (nil f) = refl
none_behind b (last r d f) = absurd (b.no _ _ (tree r) tt)
none_behind b (more m r d all) = absurd (b.no _ _ (tree r) tt)

-- the text ends
pub onto_end : {L : Language} {v : Surroundings} {c : Nonterminal} {x y : Place} (ts : Forest) → Onto L v c x y ts → ended_at y ≡ true → Barred L v (Part c) y Unread → OnlyToEnd L v c x ts
onto_end {L} {v} {c} {x} {y} ts o e b = record {
  leads = subst (λ us. ToEnd L v c x us) (both_none ts) (o.to none (record { end = y; items = nil (found_end y e); ended = e }));
  alone = λ ws a. let l = o.from ws a in sym (both_none ts) ∙ (ap (both ts) (sym (none_behind b l.leads.items)) ∙ l.is);
}

-- nothing stands where the text doesn't end
pub onto_barred : {L : Language} {v : Surroundings} {c : Nonterminal} {x y : Place} {e : Fault} (ts : Forest) → Onto L v c x y ts → ended_at y ≡ false → Barred L v (Part c) y e → NoneToEnd L v c x e
onto_barred {L} {v} {c} {x} {y} {e} ts o n b = record {
  no = λ ws a s.
      let l = o.from ws a in
      at l.rest l.leads.end l.leads.items l.leads.ended (shallow_up e (deepest l.rest) (deepest ws) (subst (λ vs. deepest l.rest ≤ deepest vs) l.is (both_up ts l.rest)) s);
}
  where
    at : (us : Forest) (w : Place) → Items (Whole L) v TopLines c y us w → ended_at w ≡ true → Shallow e (deepest us) → ⊥
    at us w (nil f) h s = clash _ h n
    at us w (last {t = t} r d f) h s = b.no _ _ (tree r) (shallow_head e t none s)
    at us w (more {t = t} {u = u} {us = vs} m r d all) h s = b.no _ _ (tree r) (shallow_head e t (part u vs) s)
