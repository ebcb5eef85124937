use Rattle.std.proofs.Common.{◌≡◌, ◌-◌, drop, length, ap, ◌∙◌, subst, arith, length-append}
use Rattle.std.proofs.lemmas.Str.{IsCharBoundary-at_seam}
use Rattle.std.proofs.lemmas.List.{drop_at}
use Rattle.std.specs.Str.{IsCharBoundary}
use Rattle.jsx_lex.specs.Places.{front_of}
use Rattle.jsx_lex.proofs.characters.offset.Goals as goal

pub returns-clause-boundary : goal.returns-clause-boundary
returns-clause-boundary c =
    let text = c.args.text.now in
    let rest = c.args.rest.now in
    let n : length (front_of text rest) ≡ length text - length rest = omega (arith, ap length c.requires.is, length-append (front_of text rest) rest) in
    subst (IsCharBoundary text) n (IsCharBoundary-at_seam text (front_of text rest) rest c.requires.is c.utf8.rest)

pub returns-clause-rest : goal.returns-clause-rest
returns-clause-rest c =
    let text = c.args.text.now in
    let rest = c.args.rest.now in
    let n : length (front_of text rest) ≡ length text - length rest = omega (arith, ap length c.requires.is, length-append (front_of text rest) rest) in
    ap (drop (length text - length rest)) c.requires.is ∙ drop_at (front_of text rest) rest (length text - length rest) n
