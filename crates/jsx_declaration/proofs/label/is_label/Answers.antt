use Rattle.std.proofs.Common.{◌≡◌, true, false, not, sym, ◌∙◌, ap}
use Rattle.std.specs.Prelude.{◌&&◌, ◌||◌}
use Rattle.std.specs.Str.{chars}
use Rattle.jsx_base.specs.Token.{same}
use Rattle.jsx_declaration.proofs.Labels.{same_names}
use Rattle.jsx_declaration.proofs.label.is_label.Goals as goal

pub returns-then-is_loop : goal.returns-then-is_loop
returns-then-is_loop c =
    let alike : same (chars c.args.name.now) (chars c.args.other.now) ≡ true = sym (c.eq.ensures ∙ same_names c.args.name.now c.args.other.now c.utf8.name c.utf8.other) ∙ c.if-eq.true in
    c.if-is_loop.true ∙ sym (λ i. alike i && (c.if-is_loop.true i || not c.args.on_loop))

pub returns-else-is_loop : goal.returns-else-is_loop
returns-else-is_loop c =
    let alike : same (chars c.args.name.now) (chars c.args.other.now) ≡ true = sym (c.eq.ensures ∙ same_names c.args.name.now c.args.other.now c.utf8.name c.utf8.other) ∙ c.if-eq.true in
    sym (λ i. alike i && (c.if-is_loop.false i || not c.args.on_loop))

pub returns-else-eq : goal.returns-else-eq
returns-else-eq c =
    let differ : same (chars c.args.name.now) (chars c.args.other.now) ≡ false = sym (c.eq.ensures ∙ same_names c.args.name.now c.args.other.now c.utf8.name c.utf8.other) ∙ c.if-eq.false in
    c.if-eq.false ∙ sym (ap (λ b. b && (c.args.is_loop || not c.args.on_loop)) differ)
