-- What the code's nodes begin with.
use Rattle.std.proofs.Common.{◌≡◌, List, [], ◌∷◌, true, false, cond, refl, ap, sym, ◌∙◌, Option, Some, None, Box, Global}
use Rattle.std.proofs.lemmas.Bool.{true≢false}
use Rattle.jsx_tree.specs.Kinds.{Role, Tree, leaf, node, list}
use Rattle.jsx_tree.specs.declared.text.Text.{Text}
use Rattle.jsx_tree.specs.declared.text.Word.{Word}
use Rattle.jsx_tree.specs.declared.text.Word.TheVariants as words
use Rattle.jsx_tree.specs.declared.tree.Expr.{Expr}
use Rattle.jsx_tree.specs.declared.tree.Jsx.{Jsx}
use Rattle.jsx_tree.specs.View.{template, container, view_word, view_expr, view_jsx, shorthand_of, access_step, control_step, expr_step, jsx_step, key_step, link_step, operation_step, pat_step, prop_step, stmt_step, Owner}
use Rattle.jsx_tree.specs.declared.tree.Access.TheOpen.{Jsx-F}
use Rattle.jsx_tree.specs.declared.tree.Access.TheFolds.{fold_out-Jsx}
use Rattle.jsx_tree.proofs.Views as all
use Rattle.jsx_scope.specs.declared.place.Place.{Place}
use Rattle.jsx_scope.specs.declared.place.Place.TheVariants as place
use Rattle.jsx_scope.specs.declared.opening.Opening.TheVariants as first
use Rattle.jsx_scope.specs.Walk.{rank, low, opening, opening_at}
use Rattle.jsx_scope.proofs.Inner.{is_list}

pub template_opening : (ps : List Text) (ts : List Tree) → opening (template false ps ts) ≡ first.Other
template_opening [] ts = refl
template_opening (p ∷ []) [] = refl
template_opening (p ∷ []) (t ∷ ts) = refl
template_opening (p ∷ q ∷ ps) ts = refl

pub word_opening : (w : Word) → opening (view_word w) ≡ first.Other
word_opening words.This = refl
word_opening words.Null = refl
word_opening words.True = refl
word_opening words.False = refl
word_opening words.ImportMeta = refl
word_opening words.NewTarget = refl

container_opening : (e : Option (Box Tree Global)) → opening (container e) ≡ first.Other
container_opening None = refl
container_opening (Some e) = refl

jsx_step_opening : (x : Jsx-F Tree Tree Tree Tree Tree Tree Tree (Role → Tree) (Owner → Tree) Tree) → opening (jsx_step x) ≡ first.Other
jsx_step_opening (Jsx-F.Container at e) = container_opening e
jsx_step_opening _ = refl

pub jsx_opening : (j : Jsx) → opening (view_jsx j) ≡ first.Other
jsx_opening j = ap opening (fold_out-Jsx Tree Tree Tree Tree Tree Tree Tree (Role → Tree) (Owner → Tree) Tree access_step control_step expr_step jsx_step key_step link_step operation_step pat_step prop_step stmt_step j) ∙ jsx_step_opening _

pub shorthand_opening : (r : Role) (a : Tree) (e : Option (Box Expr Global)) → opening_at (place.Level 0) (shorthand_of view_expr r a e) ≡ first.Other
shorthand_opening r a None = refl
shorthand_opening r a (Some e) = refl

pub low_opening : (p : Place) (t : Tree) → is_list t ≡ false → low p (rank t) ≡ true → first.Other ≡ opening_at p t
low_opening p (leaf s x) l h = refl
low_opening p (node k cs) l h = ap (λ v. cond v first.Other (opening (node k cs))) (sym h)
low_opening p (list ts) l h = absurd (true≢false l)

pub high_opening : (p : Place) (t : Tree) → is_list t ≡ false → low p (rank t) ≡ false → opening t ≡ opening_at p t
high_opening p (leaf s x) l h = refl
high_opening p (node k cs) l h = ap (λ v. cond v first.Other (opening (node k cs))) (sym h)
high_opening p (list ts) l h = absurd (true≢false l)

pub ruleset begins = (all.views, template_opening, word_opening, jsx_opening, shorthand_opening)
