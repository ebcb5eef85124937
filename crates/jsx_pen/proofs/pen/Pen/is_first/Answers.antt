use Rattle.std.proofs.Common.{◌∙◌, ◌≡◌, ◌&&◌, ap, false, length, map, not, rules, subst, sym, true, vec_len}
use Rattle.std.specs.Prelude.{nat_eq}
use Rattle.std.specs.Str.{chars}
use Rattle.jsx_pen.specs.Pen.{is_due, is_word}
use Rattle.jsx_pen.proofs.Writing.{due_word, undue_word}
use Rattle.jsx_pen.proofs.pen.Pen.is_first.Goals as goal

pub returns-then-not-is_empty : goal.returns-then-not-is_empty
returns-then-not-is_empty c =
    let count : vec_len c.self.inside.due ≡ length c.self.inside.due.items = search rules in
    due_word (λ b. b.0) c.self.inside.due.items c.is_word.result (subst (λ n. nat_eq n 0 ≡ false) count (sym c.is_empty.ensures ∙ c.if-not-is_empty.true))
    ∙ ap (λ b. b && is_due (map (λ b. b.0) c.self.inside.due.items)) c.is_word.ensures ∙ ap (λ q. is_word (chars c.args.piece.now) && is_due q.due) c.self.view_is

pub returns-else-not-is_empty : goal.returns-else-not-is_empty
returns-else-not-is_empty c =
    let count : vec_len c.self.inside.due ≡ length c.self.inside.due.items = search rules in
    ap not c.if-not-is_empty.false ∙ undue_word (λ b. b.0) c.self.inside.due.items (is_word (chars c.args.piece.now)) (subst (λ n. nat_eq n 0 ≡ true) count (sym c.is_empty.ensures ∙ c.if-not-is_empty.false))
    ∙ ap (λ q. is_word (chars c.args.piece.now) && is_due q.due) c.self.view_is
