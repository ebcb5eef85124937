-- What the loop over a list of events keeps that looks for declarations that clash.
use Rattle.std.proofs.Common.{◌≡◌, ◌<◌, ◌≤◌, ◌+◌, ℕ, suc, List, [], ◌∷◌, ◌++◌, length, drop, get_or, Bool, true, false, refl, sym, ap, ◌∙◌, add-one, drop-cons, subst}
use Rattle.std.specs.Prelude.{cond, Some, None}
use Rattle.std.specs.BTreeMap.{BTreeMap}
use Rattle.jsx_names.specs.Code.{plain, plain_all}
use Rattle.jsx_names.specs.Ends.{ends_of}
use Rattle.jsx_names.specs.Faults.{Extent, Noted, first, is_late_at, late, noting, within}
use Rattle.jsx_names.specs.Scanned.{Stands}
use Rattle.jsx_names.specs.Tables.{Key, Tells, stack}
use Rattle.jsx_names.specs.declared.event.Event.{Event}
use Rattle.jsx_names.specs.declared.late.Scan.{Scan}
use Rattle.jsx_names.specs.declared.seen.Seen.{Seen}
use Rattle.jsx_names.proofs.Going.{past_end}

-- up to event i no declaration clashes
pub record NoneLate (es : List Event) (i : ℕ) (scan : Scan) : Type 0 where
  pub known : List Noted
  pub stands : Stands i (plain_all (drop i es)) known scan
  pub left : first (late 0 [] [] (plain_all es)) ≡ first (late i (stack scan.scopes.items) known (plain_all (drop i es)))

none_known : (m : BTreeMap Key Seen) → m.entries ≡ [] → Tells m []
none_known m e = λ n w u. rw e refl

pub late_begins : (es : List Event) (scan : Scan) → scan.ends.items ≡ ends_of 0 (plain_all es) → scan.scopes.items ≡ [] → scan.table.entries ≡ [] → NoneLate es 0 scan
late_begins es scan e n t = record {
  known = [];
  stands = record { ends = e; tells = none_known scan.table t };
  left = ap (λ z. first (late 0 (stack z) [] (plain_all es))) (sym n);
}

-- event i and those behind it
split : (es : List Event) (i : ℕ) (d : Event) → i < length es → plain_all (drop i es) ≡ plain (get_or es i d) ∷ plain_all (drop (suc i) es)
split es i d l = ap plain_all (drop-cons es i d l)

pub stands_at : (es : List Event) (i : ℕ) (d : Event) (scan : Scan) → i < length es → (h : NoneLate es i scan) → Stands i (plain (get_or es i d) ∷ plain_all (drop (suc i) es)) h.known scan
stands_at es i d scan l h = subst (λ z. Stands i z h.known scan) (split es i d l) h.stands

late_at : (es : List Event) (i : ℕ) (ns : List Extent) (ks : List Noted) (d : Event) (b : Bool) → i < length es → b ≡ is_late_at i ns ks (plain (get_or es i d)) →
    late i ns ks (plain_all (drop i es)) ≡ cond b (i ∷ []) [] ++ late (suc i) (within i ns (plain (get_or es i d)) (plain_all (drop (suc i) es))) (noting i ns ks (plain (get_or es i d))) (plain_all (drop (suc i) es))
late_at es i ns ks d b l e = ap (late i ns ks) (split es i d l)
    ∙ ap (λ z. cond z (i ∷ []) [] ++ late (suc i) (within i ns (plain (get_or es i d)) (plain_all (drop (suc i) es))) (noting i ns ks (plain (get_or es i d))) (plain_all (drop (suc i) es))) (sym e)

pub late_goes_on : (es : List Event) (i : ℕ) (old new : Scan) (d : Event) (b : Bool) → i < length es → (h : NoneLate es i old) →
    b ≡ is_late_at i (stack old.scopes.items) h.known (plain (get_or es i d)) → b ≡ false →
    stack new.scopes.items ≡ within i (stack old.scopes.items) (plain (get_or es i d)) (plain_all (drop (suc i) es)) →
    Stands (suc i) (plain_all (drop (suc i) es)) (noting i (stack old.scopes.items) h.known (plain (get_or es i d))) new → NoneLate es (i + 1) new
late_goes_on es i old new d b l h e n w s = subst (λ z. NoneLate es z new) (sym (add-one i)) (record {
  known = noting i (stack old.scopes.items) h.known (plain (get_or es i d));
  stands = s;
  left = h.left ∙ (ap first (late_at es i (stack old.scopes.items) h.known d false l (sym n ∙ e))
      ∙ ap (λ z. first (late (suc i) z (noting i (stack old.scopes.items) h.known (plain (get_or es i d))) (plain_all (drop (suc i) es)))) (sym w));
})

pub late_found : (es : List Event) (i : ℕ) (scan : Scan) (d : Event) (b : Bool) → i < length es → (h : NoneLate es i scan) →
    b ≡ is_late_at i (stack scan.scopes.items) h.known (plain (get_or es i d)) → b ≡ true → Some i ≡ first (late 0 [] [] (plain_all es))
late_found es i scan d b l h e n = sym (h.left ∙ ap first (late_at es i (stack scan.scopes.items) h.known d true l (sym n ∙ e)))

pub late_ends : (es : List Event) (i : ℕ) (scan : Scan) → length es ≤ i → NoneLate es i scan → None ≡ first (late 0 [] [] (plain_all es))
late_ends es i scan l h = sym (h.left ∙ ap (λ z. first (late i (stack scan.scopes.items) h.known (plain_all z))) (past_end es i l))
