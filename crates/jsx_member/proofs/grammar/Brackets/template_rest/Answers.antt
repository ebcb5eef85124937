use Rattle.std.proofs.Common.{◌≡◌, ◌++◌, true, arith, refl, sym, ◌∙◌, ap, subst, [], ◌∷◌}
use Rattle.std.specs.Str.{chars}
use Rattle.jsx_base.specs.Token.{Piece, TemplateMiddle, TemplateTail}
use Rattle.jsx_tree.specs.Kinds.{part, leaf}
use Rattle.jsx_tree.specs.Nonterminals.{TemplatePart}
use Rattle.jsx_tree.specs.Signs.{Tok}
use Rattle.jsx_tree.specs.Grammar.{Part}
use Rattle.jsx_tree.specs.View.{text_of}
use Rattle.jsx_tree.specs.Form.{is_leaf}
use Rattle.jsx_tree.specs.Spans.{Comes}
use Rattle.jsx_tree.specs.Reading.{forth}
use Rattle.jsx_tree.specs.Walk.{one, tail}
use Rattle.jsx_tree.specs.Answers.{Only}
use Rattle.jsx_operand.specs.SoFar.{so_far}
use Rattle.jsx_operand.specs.Around.{around_of}
use Rattle.jsx_token.specs.Here.{place_of, left}
use Rattle.jsx_operand.specs.Climbing.{fits}
use Rattle.jsx_token.specs.Places.{Takes, end_of}
use Rattle.jsx_operand.proofs.Values.{settled_token}
use Rattle.jsx_operand.proofs.Steps.{passed, passed_plain}
use Rattle.jsx_member.proofs.Elements.{items}
use Rattle.jsx_member.proofs.Parts.{middle_from, reads_none, reads_more, reads_rest, reads_placed, reads_divided, part_barred, brace_barred, piece_barred, tail_barred}
use Rattle.jsx_operand.proofs.Templates.{tail_full}
use Rattle.jsx_operand.specs.Templates.{fits_tag}
use Rattle.jsx_member.proofs.grammar.Brackets.template_rest.Goals as goal

pub parts-init : goal.parts-init
parts-init g c = record {
  reads = reads_none c.args.head _ _ (c.in_ok-push.ensures.items ∙ ap (λ xs. xs ++ c.args.head ∷ []) c.in_ok-pieces.ensures.items) c.new-parts.ensures.items;
  within = omega arith;
}

pub returns-in_err-part-clause-refused : goal.returns-in_err-part-clause-refused
returns-in_err-part-clause-refused g c = passed _ c.in_err-part.ensures.refused c.from_residual-in_err-part.ensures.1 (λ n. part_barred c.parts.invariant.reads n)

pub returns-in_err-expect-clause-refused : goal.returns-in_err-expect-clause-refused
returns-in_err-expect-clause-refused g c = passed _ c.in_err-expect.ensures.refused c.from_residual-in_err-expect.ensures.1 (λ n. brace_barred c.in_ok-part.part c.parts.invariant.reads c.in_ok-part.ensures.read n)

pub returns-in_err-tail-clause-refused : goal.returns-in_err-tail-clause-refused
returns-in_err-tail-clause-refused g c = passed_plain _ c.in_err-tail.ensures.refused c.from_residual-in_err-tail.ensures.1
    (λ n. tail_barred c.in_ok-part.part (chars c.in-Some.raw.now) c.parts.invariant.reads c.in_ok-part.ensures.read c.in_ok-expect.ensures.read c.in-Some.ensures.taken refl c.in-Some.ensures.whole n)

pub returns-in_err-piece-clause-refused : goal.returns-in_err-piece-clause-refused
returns-in_err-piece-clause-refused g c = passed _ c.in_err-piece.ensures.refused c.from_residual-in_err-piece.ensures.1
    (λ n. piece_barred c.in_ok-part.part c.parts.invariant.reads c.in_ok-part.ensures.read c.in_ok-expect.ensures.read c.in_default.ensures.missing (middle_from c.in_default.ensures.stays n))

pub parts-preserved : goal.parts-preserved
parts-preserved g c =
    let stays = c.in_default.ensures.stays in
    record {
      reads = reads_more c.in_ok-part.part c.in_ok-piece.piece c.parts.invariant.reads c.in_ok-part.ensures.read c.in_ok-part.ensures.placed c.in_ok-expect.ensures.read c.in_ok-expect.ensures.takes c.in_default.ensures.missing
          (subst (λ h. Only so_far (around_of c.args.context.around) (Part (TemplatePart TemplateMiddle)) (place_of h) (one (leaf TemplateMiddle (text_of c.in_ok-piece.piece))) (place_of c.middle.new.lexer)) stays c.in_ok-piece.ensures.read)
          (subst (λ h. Takes (Tok Piece TemplateMiddle (text_of c.in_ok-piece.piece)) h c.middle.new.lexer) stays c.in_ok-piece.ensures.takes)
          (subst (λ h. Comes c.in_ok-piece.piece (end_of h)) stays c.in_ok-piece.ensures.place) c.in_ok-piece.ensures.fits c.in_ok-push-4.ensures.items c.in_ok-push-2.ensures.items;
      within = omega (arith, ap left stays, c.in_ok-piece.ensures.shorter, c.in_ok-expect.ensures.shorter, c.in_ok-part.ensures.shorter, c.parts.invariant.within);
    }

pub returns-in-Some-clause-divided : goal.returns-in-Some-clause-divided
returns-in-Some-clause-divided g c = reads_divided c.in_ok-tail.tail c.parts.invariant.reads c.in_ok-push-3.ensures.items

pub returns-in-Some-clause-read : goal.returns-in-Some-clause-read
returns-in-Some-clause-read g c =
    let text = c.in_ok-tail.ensures.text in
    reads_rest c.in_ok-part.part c.in_ok-tail.tail c.parts.invariant.reads c.in_ok-part.ensures.read c.in_ok-expect.ensures.read
    (c.in-Some.ensures.taken ∙ ap (λ r. forth (Tok Piece TemplateTail r) (place_of c.expect.new.lexer)) (sym text)) refl (subst (λ r. is_leaf TemplateTail r ≡ true) (sym text) c.in-Some.ensures.whole) c.requires.fits (ap (fits_tag c.args.is_tagged) text ∙ c.in_ok-tail.ensures.fits)
    c.in_ok-push-3.ensures.items c.in_ok-push-2.ensures.items

pub returns-in-Some-clause-placed : goal.returns-in-Some-clause-placed
returns-in-Some-clause-placed g c =
    reads_placed c.in_ok-part.part c.in_ok-tail.tail c.parts.invariant.reads c.in_ok-part.ensures.placed c.in_ok-expect.ensures.takes
    (subst (λ r. Takes (Tok Piece TemplateTail r) c.expect.new.lexer c.piece.new.self) (sym c.in_ok-tail.ensures.text) c.in-Some.ensures.takes) (subst (Comes c.in_ok-tail.tail) c.in-Some.ensures.begins c.in_ok-tail.ensures.place) c.in_ok-push-3.ensures.items c.in_ok-push-2.ensures.items

pub returns-in-Some-clause-ended : goal.returns-in-Some-clause-ended
returns-in-Some-clause-ended g c = settled_token Piece TemplateTail (chars c.in-Some.raw.now) (place_of c.expect.new.lexer) (tail_full (chars c.in-Some.raw.now) c.in-Some.ensures.whole) (sym c.in-Some.ensures.taken) refl
