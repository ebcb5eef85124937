use Rattle.std.proofs.Common.{◌≡◌, ◌-◌, take, drop, ap, sym, ◌∙◌, subst, string_bytes, arith}
use Rattle.std.specs.Str.{IsCharBoundary, chars}
use Rattle.std.proofs.lemmas.Str.{IsUtf8-string_bytes}
use Rattle.jsx_base.specs.Lines.{size, front}
use Rattle.jsx_base.proofs.Between.{Between, between}
use Rattle.jsx_base.proofs.source_file.SourceFile.text_between.Goals as goal
use Rattle.jsx_base.proofs.source_file.SourceFile.text_between.Goals.{Start, After-spot-2}

at : (c : Start) → Between (string_bytes c.args.self.now.src) (c.args.low.0 - c.args.self.now.start_pos.0) (c.args.high.0 - c.args.self.now.start_pos.0)
at c =
    let order = c.requires in
    between (string_bytes c.args.self.now.src) (c.args.low.0 - c.args.self.now.start_pos.0) (c.args.high.0 - c.args.self.now.start_pos.0) (IsUtf8-string_bytes c.args.self.now.src) (omega (arith, order))

pub split_at-requires : goal.split_at-requires
split_at-requires c =
    let b = (at (goal.at.split_at-requires c).Start).end in
    subst (λ z. IsCharBoundary z c.spot.result.before) (sym c.as_str.ensures.value) (subst (λ n. IsCharBoundary (string_bytes c.args.self.now.src) n) (sym c.spot.ensures.before) b)

front_is : (c : After-spot-2) → c.split_at.result.0.now ≡ take (size (front (chars (string_bytes c.args.self.now.src)) (c.args.high.0 - c.args.self.now.start_pos.0))) (string_bytes c.args.self.now.src)
front_is c =
    c.split_at.ensures.front
    ∙ ap (λ n. take n c.as_str.result.now) c.spot.ensures.before
    ∙ ap (take (size (front (chars (string_bytes c.args.self.now.src)) (c.args.high.0 - c.args.self.now.start_pos.0)))) c.as_str.ensures.value

pub split_at-requires-2 : goal.split_at-requires-2
split_at-requires-2 c =
    let b = (at (goal.at.split_at-requires-2 c).Start).begin in
    subst (λ z. IsCharBoundary z c.spot-2.result.before) (sym (front_is c)) (subst (λ n. IsCharBoundary (take (size (front (chars (string_bytes c.args.self.now.src)) (c.args.high.0 - c.args.self.now.start_pos.0))) (string_bytes c.args.self.now.src)) n) (sym c.spot-2.ensures.before) b)

pub returns : goal.returns
returns c =
    ap chars (c.split_at-2.ensures.back ∙ ap (λ n. drop n c.split_at.result.0.now) c.spot-2.ensures.before ∙ ap (drop (size (front (chars (string_bytes c.args.self.now.src)) (c.args.low.0 - c.args.self.now.start_pos.0)))) (front_is (goal.at.returns c).After-spot-2))
    ∙ (at (goal.at.returns c).Start).is
