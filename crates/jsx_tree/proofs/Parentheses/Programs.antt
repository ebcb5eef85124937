-- What `parenthesise` makes of a sound tree fits: it has the form that the productions ask, keeps the static rules, and each part begins as it may.
use Rattle.std.proofs.Common.{◌≡◌, [], true, false, sym, refl, ap, ◌∙◌}
use Rattle.std.proofs.lemmas.Bool.{false≢true, and_parts, and_from}
use Rattle.std.specs.Prelude.{IsTrue}
use Rattle.jsx_tree.specs.declared.text.Goal.{Goal}
use Rattle.jsx_tree.specs.declared.text.Goal.TheVariants as goals
use Rattle.jsx_tree.specs.Program.{is_goal}
use Rattle.jsx_tree.specs.Kinds.{Module, Script, program, node, Tree}
use Rattle.jsx_tree.specs.Nonterminals.{WholeProgram}
use Rattle.jsx_tree.specs.Normal.{laid_tree, remade, nf}
use Rattle.jsx_tree.specs.Form.{is}
use Rattle.jsx_tree.specs.Parentheses.{dress, special, parenthesise}
use Rattle.jsx_tree.specs.StaticRules.{outside}
use Rattle.jsx_tree.specs.Fits.{held, fits}
use Rattle.jsx_tree.specs.Sound.{may_stand, loose, formed, lawful, is_sound}
use Rattle.jsx_tree.proofs.Parentheses.MendedRules.{mended, legal_of, special_calm, shield_ready, laid_mended, placed_of}
use Rattle.jsx_tree.proofs.Parentheses.FirstPass.{home, fine, dress_fine}
use Rattle.jsx_tree.proofs.Parentheses.SecondPass.{special_at}
use Rattle.jsx_tree.proofs.Parentheses.ThirdPass.{shield_at}
use Rattle.jsx_tree.proofs.Parentheses.Laying.{laid_is}
use Rattle.jsx_tree.proofs.Parentheses.Begins.{begun, dress_begun}
use Rattle.jsx_tree.proofs.Parentheses.BeginsKept.{special_begun, shield_begun}
use Rattle.jsx_tree.proofs.Parentheses.Held.{laid_held}
use Rattle.jsx_tree.proofs.Parentheses.NormalForms.{bare_same, parenthesise_same}
use Rattle.jsx_tree.proofs.Parentheses.Idempotent.{loose_named}
use Rattle.jsx_tree.proofs.Parentheses.LaidForms.{laid_nf}
use Rattle.jsx_tree.proofs.Parentheses.LawsKept.{lawful_same}
use Rattle.jsx_tree.proofs.Parentheses.Loose.{may_of, loose_of}

dressed_fine : (t : Tree) → formed t ≡ true → (home false WholeProgram (parenthesise t) ≡ true) × (fine false WholeProgram (parenthesise t) ≡ true)
dressed_fine t h =
    let p = and_parts (may_stand WholeProgram t) (loose WholeProgram t) h in
    let u : Tree = dress WholeProgram [] t in
    let d = dress_fine WholeProgram [] t refl p.0 p.1 in
    let s = special_at WholeProgram u refl d.0 d.1 in
    shield_at false WholeProgram (remade special u) s.0 s.1

dressed_begun : (t : Tree) → formed t ≡ true → begun (parenthesise t) ≡ true
dressed_begun t h =
    let p = and_parts (may_stand WholeProgram t) (loose WholeProgram t) h in
    let u : Tree = dress WholeProgram [] t in
    shield_begun false (remade special u) (special_begun u (dress_begun WholeProgram [] t refl refl p.0 p.1).1)

pub dressed_is : (t : Tree) → formed t ≡ true → is WholeProgram (laid_tree (parenthesise t)) ≡ true
dressed_is t h = let d = dressed_fine t h in laid_is WholeProgram (parenthesise t) d.0 d.1

pub dressed_held : (t : Tree) → formed t ≡ true → held WholeProgram [] (laid_tree (parenthesise t)) ≡ true
dressed_held t h = let d = dressed_fine t h in laid_held WholeProgram [] (parenthesise t) d.0 d.1 refl refl (dressed_begun t h)

dressed_mended : (t : Tree) → formed t ≡ true → mended (laid_tree (parenthesise t)) ≡ true
dressed_mended t h =
    let p = and_parts (may_stand WholeProgram t) (loose WholeProgram t) h in
    let u : Tree = dress WholeProgram [] t in
    let d = dress_fine WholeProgram [] t refl p.0 p.1 in
    let s = special_at WholeProgram u refl d.0 d.1 in
    laid_mended WholeProgram (parenthesise t) (dressed_fine t h).1 (shield_ready false (remade special u) (placed_of WholeProgram (remade special u) s.1) (special_calm u))

-- the static rules hold with the pairs where they hold without
lawful_kept : (t : Tree) → formed t ≡ true → lawful outside (laid_tree t) ≡ true → lawful outside (laid_tree (parenthesise t)) ≡ true
lawful_kept t h l =
    let p = and_parts (may_stand WholeProgram t) (loose WholeProgram t) h in
    let d = dressed_fine t h in
    let u : Tree = parenthesise t in
    lawful_same WholeProgram u (record { may = may_of WholeProgram u d.0; below = loose_of WholeProgram u d.1 }) outside
    ∙ (ap (lawful outside) (bare_same t) ∙ (sym (lawful_same WholeProgram t (record { may = p.0; below = p.1 }) outside) ∙ l))

-- what `parenthesise` makes of a sound tree fits
pub dressed_fits : (t : Tree) → is_sound t ≡ true → fits (parenthesise t) ≡ true
dressed_fits t h =
    let p = and_parts (formed t) (lawful outside (laid_tree t)) h in
    and_from _ _ (dressed_is t p.0) (and_from _ _ (legal_of outside (laid_tree (parenthesise t)) (lawful_kept t p.0 p.1) (dressed_mended t p.0)) (dressed_held t p.0))

-- and is under the same goal
pub dressed_goal : (goal : Goal) (t : Tree) → IsTrue (is_goal goal t) → IsTrue (is_goal goal (parenthesise t))
dressed_goal goals.Module (node (program Module) cs) g = refl
dressed_goal goals.Script (node (program Script) cs) g = refl
dressed_goal goals.Module _ g = absurd (false≢true g)
dressed_goal goals.Script _ g = absurd (false≢true g)

-- its normal form, laid, is the tree's
pub dressed_same : (t : Tree) → formed t ≡ true → nf (laid_tree (parenthesise t)) ≡ nf t
dressed_same t h = laid_nf (parenthesise t) (loose_named WholeProgram (parenthesise t) (loose_of WholeProgram (parenthesise t) (dressed_fine t h).1)) ∙ parenthesise_same t
