-- Laws of the tables, with no case for each kind.
use Rattle.std.proofs.Common.{◌≡◌, List, [], ◌∷◌, ◌++◌, refl, ap, ◌∙◌}
use Rattle.std.specs.Prelude.{codes}
use Prim.Native.String.{String}
use Rattle.jsx_base.specs.Token.{Text, Operator, Punctuator}
use Rattle.jsx_tree.specs.Signs.{Ending, Sign, Tok, Semicolon, End}
use Rattle.jsx_tree.specs.Kinds.{While, statement, Tree, node, none, part}
use Rattle.jsx_tree.specs.Grammar.{key}
use Rattle.jsx_tree.specs.Spelling.{spelled}
use Rattle.jsx_tree.specs.Reading.{Place, Lost, At, forth, scan}

pub scan_append : (x : Place) (ms ns : List Sign) → scan x (ms ++ ns) ≡ scan (scan x ms) ns
scan_append x [] ns = refl
scan_append x (m ∷ ms) ns = scan_append (forth m x) ms ns

forth_lost : (m : Sign) → forth m Lost ≡ Lost
forth_lost Semicolon = refl
forth_lost _ = refl

-- what is lost stays lost
pub scan_lost : (ms : List Sign) → scan Lost ms ≡ Lost
scan_lost [] = refl
scan_lost (m ∷ ms) = ap (λ x. scan x ms) (forth_lost m) ∙ scan_lost ms

abbrev sym' : String → Sign
sym' s = Tok Operator Punctuator (codes s)

-- reading a `while` computes to its tokens and parts
while_scan : (q : Text) (e : Ending) (text : Text) (a b : Tree) → scan (At q e text) (spelled (node (statement While) (part a (part b none)))) ≡
    scan (scan (forth (sym' "(") (forth (key "while") (At q e text))) (spelled a)) (sym' ")" ∷ (spelled b ++ End ∷ []))
while_scan q e text a b = scan_append (forth (sym' "(") (forth (key "while") (At q e text))) (spelled a) _
