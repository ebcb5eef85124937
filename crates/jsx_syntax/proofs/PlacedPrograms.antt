-- The places of a program: its directives, and what stands behind them.
use Rattle.std.proofs.Common.{◌≡◌, ◌+◌, ℕ, true, List, [], map, sym, subst}
use Rattle.jsx_base.specs.Token.{Text}
use Rattle.jsx_base.specs.Lines.{size}
use Rattle.jsx_tree.specs.declared.text.Text.{Text as TreeText}
use Rattle.jsx_tree.specs.Signs.{AfterExpr}
use Rattle.jsx_tree.specs.Kinds.{Module, Script, program, Tree, node, Forest}
use Rattle.jsx_tree.specs.Nonterminals.{Item, Stmt}
use Rattle.jsx_tree.specs.Grammar.{TopLines, production}
use Rattle.jsx_tree.specs.Spelling.{saids, spelled}
use Rattle.jsx_tree.specs.Reading.{At, scan}
use Rattle.jsx_tree.specs.Spans.{Told, tells, Tales, IsTold, AreTold, starts, places, placed_in}
use Rattle.jsx_tree.specs.View.{directive, forest}
use Rattle.jsx_tree.specs.Told.{tales, told_directive}
use Rattle.jsx_tree.specs.Walk.{is_found}
use Rattle.jsx_token.specs.Here.{Here, place_of}
use Rattle.jsx_operand.specs.Spans.{IsPlacedList, IsPlacedRow}
use Rattle.jsx_operand.proofs.Placing.{row_end, row_list, row_within}
use Rattle.jsx_syntax.specs.Programs.{program_parts, program_symbols, program_tales}

pub placed_items : (ds : List TreeText) (es : List Told) (ts : List Tree) {x y z : Here} → IsPlacedList TopLines (tales (map told_directive ds)) (forest (map directive ds)) x y → IsPlacedList TopLines (tales es) (forest ts) y z
    → IsPlacedRow (program_symbols Item) (program_tales ds es) (program_parts (forest (map directive ds)) (forest ts)) x z
placed_items ds es ts d l = row_list d (row_list l row_end)

pub placed_statements : (ds : List TreeText) (es : List Told) (ts : List Tree) {x y z : Here} → IsPlacedList TopLines (tales (map told_directive ds)) (forest (map directive ds)) x y → IsPlacedList TopLines (tales es) (forest ts) y z
    → IsPlacedRow (program_symbols Stmt) (program_tales ds es) (program_parts (forest (map directive ds)) (forest ts)) x z
placed_statements ds es ts d l = row_list d (row_list l row_end)

pub module_placed : {ds : Tales} {ts : Forest} {x y : Here} (from : ℕ) (text : Text) → place_of x ≡ At [] AfterExpr text → x.end ≡ from + size text → IsPlacedRow (program_symbols Item) ds ts x y → is_found (scan (At [] AfterExpr text) (spelled (node (program Module) ts))) ≡ true → IsTold (tells [] ds) (placed_in from text (node (program Module) ts))
module_placed {ds} {ts} {x} {y} from text e n l f =
    let r : IsPlacedRow (production (program Module)) ds ts x y = row_within l in
    let ms = spelled (node (program Module) ts) in (
      tt,
      subst (λ m. AreTold ds (places m (starts (At [] AfterExpr text) (production (program Module)) (saids ts)) ts)) n
          (subst (λ q. AreTold ds (places x.end (starts q (production (program Module)) (saids ts)) ts)) e (r.told (subst (λ q. is_found (scan q ms) ≡ true) (sym e) f))),
    )

pub script_placed : {ds : Tales} {ts : Forest} {x y : Here} (from : ℕ) (text : Text) → place_of x ≡ At [] AfterExpr text → x.end ≡ from + size text → IsPlacedRow (program_symbols Stmt) ds ts x y → is_found (scan (At [] AfterExpr text) (spelled (node (program Script) ts))) ≡ true → IsTold (tells [] ds) (placed_in from text (node (program Script) ts))
script_placed {ds} {ts} {x} {y} from text e n l f =
    let r : IsPlacedRow (production (program Script)) ds ts x y = row_within l in
    let ms = spelled (node (program Script) ts) in (
      tt,
      subst (λ m. AreTold ds (places m (starts (At [] AfterExpr text) (production (program Script)) (saids ts)) ts)) n
          (subst (λ q. AreTold ds (places x.end (starts q (production (program Script)) (saids ts)) ts)) e (r.told (subst (λ q. is_found (scan q ms) ≡ true) (sym e) f))),
    )
