use Rattle.std.proofs.Common.{◌∙◌, ◌++◌, [], ◌∷◌, ap, map, string_bytes, true}
use Rattle.std.proofs.lemmas.List.{map-append}
use Rattle.std.specs.Str.{chars}
use Rattle.jsx_pen.specs.declared.pen.Gap.TheVariants as gap
use Rattle.jsx_pen.specs.Pen.{at, blank, ink, portion_of}
use Rattle.jsx_pen.proofs.Characters.{appended}
use Rattle.jsx_pen.proofs.Writing.{ink_first}
use Rattle.jsx_pen.proofs.pen.Pen.first_token.Goals as goal

pub returns : goal.returns
returns c =
    let i = c.self.inside in
    let t = chars c.args.piece.now in
    let s = map portion_of i.done.items in
    let w = chars (string_bytes i.text) in
    let d = map (λ b. b.0) i.due.items in
    let e = ap (λ x. chars (string_bytes x)) c.replace-text.ensures.value ∙ ap chars c.in_ok-push_str.ensures.bytes ∙ appended i.text _ ∙ ap (λ b. w ++ b) c.blank.ensures in
    let f = ap (λ v. map (λ b. b.0) v.items) c.replace-calls.ensures.value in
    ap (λ x. at x (chars (string_bytes c.replace-text.new.dest)) i.depth gap.Settled (map (λ b. b.0) c.replace-calls.new.dest.items)) (ap (map portion_of) c.in_ok-push.ensures.items ∙ map-append _ _ _ ∙ ap (λ x. s ++ ((x, map (λ b. b.0) c.replace-calls.result.items) ∷ [])) e ∙ ap (λ x. s ++ ((w ++ blank i.gap t, x) ∷ [])) f)
    ∙ ap (λ x. at (s ++ ((w ++ blank i.gap t, d) ∷ [])) x i.depth gap.Settled (map (λ b. b.0) c.replace-calls.new.dest.items)) (ap (λ x. chars (string_bytes x)) c.replace-text.ensures.after ∙ ap chars (c.in_ok-push_str-2.ensures.bytes ∙ ap (λ x. x ++ c.args.piece.now) c.in_ok-rest.ensures.bytes))
    ∙ ap (λ x. at (s ++ ((w ++ blank i.gap t, d) ∷ [])) t i.depth gap.Settled x) (ap (λ v. map (λ b. b.0) v.items) c.replace-calls.ensures.after ∙ ap (map (λ b. b.0)) c.new.ensures.items)
    ∙ ink_first (at s w i.depth i.gap d) t ∙ ap (λ q. ink true q t) c.self.view_is
