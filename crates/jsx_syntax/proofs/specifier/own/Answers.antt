use Rattle.std.proofs.Common.{◌≡◌, Bool, true, false, refl, sym, subst}
use Rattle.std.specs.Prelude.{◌&&◌}
use Rattle.jsx_tree.specs.Kinds.{Exported, From}
use Rattle.jsx_tree.specs.Nonterminals.{is_ident, word_in}
use Rattle.jsx_tree.specs.Grammar.{only}
use Rattle.jsx_tree.specs.View.{text_of}
use Rattle.jsx_tree.specs.ViewProgram.{view_specifier}
use Rattle.jsx_syntax.specs.Specifiers.{fits, side_of}
use Rattle.jsx_syntax.proofs.specifier.own.Goals as goal

and_true : (a : Bool) → a ≡ (a && true)
and_true true = refl
and_true false = refl

pub returns-in-Exported : goal.returns-in-Exported
returns-in-Exported c =
    subst (λ s. word_in (only (side_of s)) (text_of c.in-As.outer) ≡ fits (side_of s) (view_specifier From c.args.specifier.now)) (sym c.in-Exported.is)
    (subst (λ p. is_ident (text_of c.in-As.outer) ≡ fits Exported (view_specifier From p)) (sym c.in-As.is) (and_true (is_ident (text_of c.in-As.outer))))
