use Rattle.std.proofs.Common.{◌<◌, map, true, false, ◌≡◌}
use Rattle.jsx_tree.specs.Kinds.{expression, Chain}
use Rattle.jsx_tree.specs.Grammar.{OneOrMore}
use Rattle.jsx_tree.specs.Told.{tales, told_link}
use Rattle.jsx_tree.specs.View.{forest, inside, view_link}
use Rattle.jsx_operand.specs.SoFar.{so_far}
use Rattle.jsx_operand.specs.Around.{around_of}
use Rattle.jsx_token.specs.Here.{place_of, left, Here}
use Rattle.jsx_token.specs.Growths.{mark, settled}
use Rattle.jsx_operand.specs.Spans.{IsPlacedListAs}
use Rattle.jsx_token.specs.Places.{Takes}
use Rattle.jsx_operand.proofs.Placing.{PlacedFront}
use Rattle.jsx_tree.specs.Reading.{Place}
use Rattle.jsx_tree.specs.Answers.{Moves}
use Rattle.jsx_member.proofs.Links.{Linked}
use Rattle.jsx_member.proofs.grammar.Brackets.chain.Given as goal

abbrev pub invariant-links : goal.invariant-links
invariant-links g l = record {
  so_far : (a : Place) → Moves (mark (expression Chain)) a (place_of l.fn.lexer) → Linked (around_of l.context.around) a (forest (map (inside view_link) l.links.items)) (place_of l.lexer);
  placed : (w : Here) → Takes (mark (expression Chain)) w l.fn.lexer → PlacedFront false OneOrMore (map (inside told_link) l.links.items) (map (inside view_link) l.links.items) w l.lexer;
  closed : (w : Here) → Takes (mark (expression Chain)) w l.fn.lexer → IsPlacedListAs false OneOrMore (tales (map (inside told_link) l.links.items)) (forest (map (inside view_link) l.links.items)) w l.lexer;
  ended : settled (place_of l.lexer) ≡ true;
  within : left l.lexer < left l.fn.lexer;
}

abbrev pub decreases-links : goal.decreases-links
decreases-links g l = left l.lexer
