use Rattle.std.proofs.Common.{◌≡◌, [], length, drop, ap, sym, ◌∙◌, subst, string_bytes, arith}
use Rattle.std.specs.Str.{IsCharBoundary, chars}
use Rattle.std.proofs.lemmas.Option.{slice_get_past}
use Rattle.std.proofs.lemmas.Str.{IsUtf8-string_bytes}
use Rattle.jsx_base.specs.Lines.{lines}
use Rattle.jsx_base.proofs.LineAt.{LineAt, length-starts, found_line, is_line}
use Rattle.jsx_base.proofs.source_file.SourceFile.get_line.Goals as goal
use Rattle.jsx_base.proofs.source_file.SourceFile.get_line.Goals.{After-as_str}

at : (c : After-as_str) → LineAt (string_bytes c.args.self.now.src) c.args.index c.in_ok-start.field-0.now
at c =
    let h = c.in_ok-start.ensures.lookup in
    found_line (string_bytes c.args.self.now.src) c.deref.result.now c.args.index c.in_ok-start.field-0.now (IsUtf8-string_bytes c.args.self.now.src) (c.deref.ensures.value ∙ c.args.self.now.line_starts_are) h.3.0 (h.3.1 0)

pub returns-in_err-start : goal.returns-in_err-start
returns-in_err-start c =
    let all = lines (chars (string_bytes c.args.self.now.src)) in
    let count : length c.deref.result.now ≡ length all = ap length (c.deref.ensures.value ∙ c.args.self.now.line_starts_are) ∙ length-starts 0 all in
    let past = c.in_err-start.ensures.lookup.3 in
    rw c.from_residual.ensures (sym (slice_get_past all c.args.index (omega (arith, count, past))))

pub split_at-requires : goal.split_at-requires
split_at-requires c =
    subst (λ bs. IsCharBoundary bs c.in_ok-start.field-0.now) (sym c.as_str.ensures.value) (at c).boundary

pub returns-in-Some : goal.returns-in-Some
returns-in-Some c =
    is_line (string_bytes c.args.self.now.src) c.split_at.result.1.now (chars c.in-Some.line.now) (lines (chars c.in-Some.field-0-1.now)) c.args.index c.in_ok-start.field-0.now (at (goal.at.returns-in-Some c).After-as_str) (c.split_at.ensures.back ∙ ap (drop c.in_ok-start.field-0.now) c.as_str.ensures.value) c.in-Some.ensures.lines_are

pub returns-in-None : goal.returns-in-None
returns-in-None c =
    is_line (string_bytes c.args.self.now.src) c.split_at.result.1.now (chars c.split_at.result.1.now) [] c.args.index c.in_ok-start.field-0.now (at (goal.at.returns-in-None c).After-as_str) (c.split_at.ensures.back ∙ ap (drop c.in_ok-start.field-0.now) c.as_str.ensures.value) c.in-None.ensures
