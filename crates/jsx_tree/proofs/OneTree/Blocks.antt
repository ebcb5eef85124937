-- What the definitions read as an arrow with a block: its parameters, and a body before a brace.
use Rattle.jsx_tree.proofs.OneTree.Spines.{blocked_home}
use Rattle.jsx_tree.proofs.OneTree.Kept.{a_blocked, a_jsx}
use Rattle.jsx_tree.proofs.OneTree.Tags.{no_jsx}
use Rattle.jsx_tree.specs.Kinds.{Arrow}
use Rattle.std.proofs.Common.{◌≡◌, ℕ, ◌≤◌, true, false, not, List, [], ◌∷◌, refl, sym, ◌∙◌, ap, subst}
use Rattle.std.specs.Prelude.{◌&&◌, ◌||◌, nat_eq, codes}
use Rattle.jsx_base.specs.Token.{Text, Operator, TokenKind, IdentifierName, Punctuator, JsxName}
use Rattle.jsx_tree.specs.Signs.{AfterBlock, Tok, SameLine, Ends}
use Rattle.jsx_tree.specs.Kinds.{FunctionBody, ArrowBlock, BareArrowBlock, Kind, program, expression, Tree, leaf, node, list, Forest, none, part}
use Rattle.jsx_tree.specs.Nonterminals.{Nonterminal, BindingIdent, Param, Body, in_homes, homes, leaf_in}
use Rattle.jsx_tree.specs.Grammar.{Context, Fixed, Part}
use Rattle.jsx_tree.specs.Form.{admits, fits_below}
use Rattle.jsx_tree.specs.StaticRules.{Surroundings}
use Rattle.jsx_tree.specs.Reading.{Place, forth}
use Rattle.jsx_tree.specs.Walk as W
use Rattle.jsx_tree.specs.Walk.{IsRead}
use Rattle.jsx_tree.proofs.Tokens.{and_left}
use Rattle.jsx_tree.proofs.Rows.Bridge.{node_walk}
use Rattle.jsx_tree.proofs.OneTree.Known.{known, kept, kepts, is_blocked}
use Rattle.jsx_tree.proofs.OneTree.Table.{kinds}
use Rattle.jsx_tree.proofs.OneTree.Statements.{place, nth, stated_kinds, stated_nth, for_stated}
use Rattle.jsx_tree.proofs.OneTree.Checks.{every}
use Rattle.jsx_tree.proofs.OneTree.Readings.{Reads, Blocked, blocked, bare_blocked}
use Rattle.jsx_tree.proofs.OneTree.Facts.{never, or_else, not_is, eq_nat, for_kind, found_at}
use Rattle.jsx_tree.proofs.OneTree.Fine.{at_sign, at_part, at_many, at_end, first_tame, tames, Fine, Fines, fine_list, Blocks, in_is, word_kin}
use Rattle.jsx_tree.proofs.OneTree.Evidence.{Kept, Kepts, kept_left, kept_right, kept_parts}
use Rattle.jsx_tree.proofs.OneTree.Kept.{Which, a_statement, a_taken, a_seq, which}
use Rattle.jsx_tree.proofs.OneTree.Spines.{home_of}
use Rattle.jsx_tree.proofs.OneTree.Next.{line_kept}
use Rattle.jsx_tree.proofs.OneTree.Placed.{Placed, commas_listed}
use Rattle.jsx_tree.proofs.OneTree.Braces.{name_leaf, name_text}

-- the first part, where there is one
pub data FirstFine : Forest → Type 0 where
  first_none : FirstFine none
  first_fine : {t : Tree} {ts : Forest} → Fine t → FirstFine (part t ts)

first_list : {ts us : Forest} → FirstFine (part (list ts) us) → Fines ts
first_list (first_fine (fine_list f)) = f

first_tree : {t : Tree} {ts : Forest} → FirstFine (part t ts) → Fine t
first_tree (first_fine f) = f

-- ---- the body

body_kinds : every (λ k. not (in_homes Body (homes k)) || nat_eq (place k) (place (program FunctionBody))) stated_kinds ≡ true
body_kinds = refl

body_clean : every (λ k. not (in_homes Body (homes k))) kinds ≡ true
body_clean = refl

body_kind : (k : Kind) → known k ≡ true → in_homes Body (homes k) ≡ true → k ≡ program FunctionBody
body_kind k s h = by_which (which k s)
  where
    by_which : Which k → k ≡ program FunctionBody
    by_which (a_statement t) =
        let e = or_else (not (in_homes Body (homes k))) _ (for_stated (λ k. not (in_homes Body (homes k)) || nat_eq (place k) (place (program FunctionBody))) body_kinds k t) (ap not h) in
        sym (stated_nth k t) ∙ ap (nth stated_kinds) (eq_nat {a = place k} {b = place (program FunctionBody)} e)
    by_which (a_blocked b) = absurd (never (in_homes Body (homes (expression Arrow))) (blocked_home Body k b h) refl)
    by_which (a_jsx j) = absurd (no_jsx Body k j refl h)
    by_which (a_taken t) = absurd (never (in_homes Body (homes k)) h (not_is _ (for_kind (λ k. not (in_homes Body (homes k))) body_clean k t)))
    by_which (a_seq e) = absurd (never (in_homes Body (homes k)) h (ap (λ k. in_homes Body (homes k)) e))

no_leaf : (s : TokenKind) (t : Text) → leaf_in Body s t ≡ true → ⊥
no_leaf IdentifierName t h = cc
no_leaf JsxName t h = cc
no_leaf _ t h = cc

record BodyAt (t : Tree) : Type 0 where
  parts : Forest
  is_node : t ≡ node (program FunctionBody) parts

body_at : {v : Surroundings} {x y : Place} (t : Tree) → kept t ≡ true → IsRead v false Body x t y → BodyAt t
body_at (leaf s t) h r = absurd (no_leaf s t (in_is r))
body_at (list ts) h r = let bad = r.is in cc
body_at (node k cs) h r = record { parts = cs; is_node = ap (λ k. node k cs) (body_kind k (and_left (known k) (kepts cs) h) (home_of Body k cs (and_left (admits Body (node k cs)) (fits_below Body (node k cs)) r.is))) }

-- ---- an arrow and its block

record BlockAt (y : Place) (ts : Forest) (z : Place) : Type 0 where
  parts : Forest
  is : ts ≡ part (node (program FunctionBody) parts) none
  block : Blocked y parts z

block_at : {V : List Context → Surroundings} {a b : List Context} {y z : Place} (ts : Forest) → Kepts ts
    → W.Walk IsRead V (W.piece a (Fixed SameLine) ∷ W.piece a (Fixed (Tok Operator Punctuator (codes "=>"))) ∷ W.piece b (Fixed (Tok Operator Punctuator (codes "{"))) ∷ W.piece b (Part Body) ∷ W.piece b (Fixed (Tok Operator Punctuator (codes "}"))) ∷ W.piece b (Fixed (Ends AfterBlock)) ∷ []) y ts z → BlockAt y ts z
block_at {V} {a} {b} {y} {z} ts e w =
    let s1 = at_sign w in
    let g = line_kept y s1.next s1.moves s1.found in
    let s2 = at_sign s1.walk in
    let s3 = at_sign s2.walk in
    let p = at_part s3.walk in
    let s4 = at_sign p.walk in
    let s5 = at_sign s4.walk in
    let d = at_end s5.walk in
    let is0 : ts ≡ part p.tree none = p.is ∙ ap (part p.tree) d.0 in
    let k0 : Kept p.tree = kept_left (subst Kepts is0 e) in
    let b0 = body_at p.tree k0.good p.read in
    let k1 : Kept (node (program FunctionBody) b0.parts) = subst Kept b0.is_node k0 in
    let r1 : IsRead (V b) false Body s3.next (node (program FunctionBody) b0.parts) p.next = subst (λ t. IsRead (V b) false Body s3.next t p.next) b0.is_node p.read in
    let c = found_at s4.moves s4.found in
    record {
      parts = b0.parts;
      is = is0 ∙ ap (λ t. part t none) b0.is_node;
      block = record {
        behind = s2.next;
        inside = s3.next;
        last = p.next;
        shut = s4.next;
        arrow' = ap (forth (Tok Operator Punctuator (codes "=>"))) g.place ∙ s2.moves;
        found_arrow = s2.found;
        open' = s3.moves;
        found_open = s3.found;
        filled = record { bound = k1.bound; small = k1.small; good = k1.good; surroundings = V b; read = r1; shuts = c; law = λ ds f h q m. k1.law.of_bodies.one_body b0.parts ds k1.small f k1.good h r1 q c m };
        close' = s4.moves;
        found_close = s4.found;
        ends' = s5.moves ∙ d.1;
      };
    }

param_placed : Placed 1 1 Param
param_placed = record { kin' = refl; home' = refl; ended' = refl; seq' = refl }

pub blocks_read : (k : Kind) (cs : Forest) → is_blocked k ≡ true → first_tame cs ≡ true → FirstFine cs → Kept (node k cs) → Blocks k cs
blocks_read (expression ArrowBlock) cs s h f e = record { blocks' = λ {n} {v} {c} {x} {y} le r. listed n v c x y le r }
  where
    listed : (n : ℕ) (v : Surroundings) (c : Nonterminal) (x y : Place) → n ≤ 1 → IsRead v false c x (node (expression ArrowBlock) cs) y → Reads n x (node (expression ArrowBlock) cs) y
    listed n v c x y le r =
        let s1 = at_sign (node_walk false (expression ArrowBlock) refl r).walk in
        let m = at_many s1.walk in
        let s2 = at_sign m.walk in
        let q = block_at m.others (kept_right (subst Kepts m.is (kept_parts e))) s2.walk in
        let f0 = first_list (subst FirstFine m.is f) in
        let t0 : tames m.trees ≡ true = subst (λ cs. first_tame cs ≡ true) m.is h in
        let i = commas_listed Param (codes ")") m.trees param_placed refl refl f0 t0 m.read s2.moves s2.found in
        subst (λ cs. Reads n x (node (expression ArrowBlock) cs) y) (sym (m.is ∙ ap (part (list m.trees)) q.is)) (blocked le s1.moves s1.found i q.block)
blocks_read (expression BareArrowBlock) cs s h f e = record { blocks' = λ {n} {v} {c} {x} {y} le r. named n v c x y le r }
  where
    named : (n : ℕ) (v : Surroundings) (c : Nonterminal) (x y : Place) → n ≤ 1 → IsRead v false c x (node (expression BareArrowBlock) cs) y → Reads n x (node (expression BareArrowBlock) cs) y
    named n v c x y le r =
        let p = at_part (node_walk false (expression BareArrowBlock) refl r).walk in
        let q = block_at p.others (kept_right (subst Kepts p.is (kept_parts e))) p.walk in
        let h = name_leaf BindingIdent refl (first_tree (subst FirstFine p.is f)) p.read in
        let k = name_text h.kind h.keyed in
        let l : p.tree ≡ leaf IdentifierName h.text = h.is_tree ∙ ap (λ s. leaf s h.text) k in
        let a = word_kin BindingIdent h.text refl (and_left (leaf_in BindingIdent IdentifierName h.text) _ (subst (λ t. (admits BindingIdent t && fits_below BindingIdent t) ≡ true) l p.read.is)) in
        subst (λ cs. Reads n x (node (expression BareArrowBlock) cs) y) (sym (p.is ∙ (ap (part p.tree) q.is ∙ ap (λ t. part t (part (node (program FunctionBody) q.parts) none)) l)))
        (bare_blocked le a (ap (λ s. forth (Tok Operator s h.text) x) (sym k) ∙ h.moves) p.read.found q.block)
blocks_read (expression _) cs s h f e = cc
blocks_read _ cs s h f e = cc
