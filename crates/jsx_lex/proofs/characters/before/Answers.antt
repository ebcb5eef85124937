use Rattle.std.proofs.Common.{◌≡◌, ◌-◌, ◌++◌, length, sym, ap, ◌∙◌, subst, arith, length-append}
use Rattle.std.proofs.lemmas.Str.{IsCharBoundary-at_seam, IsUtf8-take, chars-append}
use Rattle.std.specs.Str.{chars, IsCharBoundary}
use Rattle.jsx_lex.specs.Places.{front_of}
use Rattle.jsx_lex.proofs.characters.before.Goals as goal

pub split_at-requires : goal.split_at-requires
split_at-requires c =
    let text = c.args.text.now in
    let rest = c.args.rest.now in
    let n : length (front_of text rest) ≡ length text - length rest = omega (arith, ap length c.requires.is, length-append (front_of text rest) rest) in
    subst (IsCharBoundary text) n (IsCharBoundary-at_seam text (front_of text rest) rest c.requires.is c.utf8.rest)

pub returns-clause-bytes : goal.returns-clause-bytes
returns-clause-bytes c = c.requires.is ∙ ap (λ t. t ++ c.args.rest.now) (sym c.split_at.ensures.front)

pub returns-clause-characters : goal.returns-clause-characters
returns-clause-characters c =
    let text = c.args.text.now in
    let rest = c.args.rest.now in
    let n : length (front_of text rest) ≡ length text - length rest = omega (arith, ap length c.requires.is, length-append (front_of text rest) rest) in
    let cut = subst (IsCharBoundary text) n (IsCharBoundary-at_seam text (front_of text rest) rest c.requires.is c.utf8.rest) in
    ap chars c.requires.is ∙ chars-append (front_of text rest) rest (IsUtf8-take text (length text - length rest) c.utf8.text cut) ∙ ap (λ t. chars t ++ chars rest) (sym c.split_at.ensures.front)
