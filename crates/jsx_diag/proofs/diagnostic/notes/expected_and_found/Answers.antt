use Rattle.std.proofs.Common.{◌≡◌, List, [], ◌++◌, ◌∙◌, ap, append_assoc, map, rules, codes, ◌∷◌}
use Rattle.jsx_diag.specs.Data.{piece_of, part_of}
use Rattle.jsx_diag.specs.Adds.{plain_piece, part_piece}
use Rattle.jsx_diag.proofs.diagnostic.notes.expected_and_found.Goals as goal

-- six pieces one after another, the third and the fourth as one
six : {A : Type 0} (a b c d e f q₀ q₁ q₂ q₃ q₄ q₅ q₆ : List A) → q₀ ≡ [] → q₁ ≡ q₀ ++ a → q₂ ≡ q₁ ++ b → q₃ ≡ q₂ ++ c → q₄ ≡ q₃ ++ d → q₅ ≡ q₄ ++ e → q₆ ≡ q₅ ++ f → q₆ ≡ a ++ b ++ (c ++ d) ++ e ++ f
six a b c d e f q₀ q₁ q₂ q₃ q₄ q₅ q₆ h₀ h₁ h₂ h₃ h₄ h₅ h₆ =
    let first : q₁ ≡ a = h₁ ∙ ap (λ z. z ++ a) h₀ in cc (append_assoc (a ++ b) c d)

pub returns : goal.returns
returns c =
    let parts₁ : map piece_of c.push_parts.new.pieces.items ≡ map piece_of c.push_text.new.pieces.items ++ map part_piece (map part_of c.args.expected.now.0.items) = search rules in
    let parts₂ : map piece_of c.push_parts-2.new.pieces.items ≡ map piece_of c.push_text-3.new.pieces.items ++ map part_piece (map part_of c.args.found.now.0.items) = search rules in
    six (plain_piece (codes "expected " ++ c.args.label.now ++ codes " `") ∷ [])
    (map part_piece (map part_of c.args.expected.now.0.items))
    (plain_piece (codes "`" ++ c.args.expected_extra.now ++ codes "\n") ∷ [])
    (plain_piece (codes "   found " ++ c.args.label.now ++ codes " `") ∷ [])
    (map part_piece (map part_of c.args.found.now.0.items))
    (plain_piece (codes "`" ++ c.args.found_extra.now) ∷ [])
    (map piece_of c.new-pieces.result.items)
    (map piece_of c.push_text.new.pieces.items)
    (map piece_of c.push_parts.new.pieces.items)
    (map piece_of c.push_text-2.new.pieces.items)
    (map piece_of c.push_text-3.new.pieces.items)
    (map piece_of c.push_parts-2.new.pieces.items)
    (map piece_of c.push_text-4.new.pieces.items)
    (ap (map piece_of) c.new-pieces.ensures.items) c.in_ok-push_text.ensures parts₁ c.in_ok-push_text-2.ensures c.in_ok-push_text-3.ensures parts₂ c.in_ok-push_text-4.ensures
