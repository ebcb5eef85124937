use Rattle.std.proofs.Common.{◌≡◌, sym, string_bytes, true, false, refl}
use Rattle.std.proofs.lemmas.Str.{IsUtf8-string_bytes}
use Rattle.jsx_draw.specs.Grid.{run_of, same_style}
use Rattle.jsx_draw.proofs.Grids.{last_joins, last_stays, same_joins, other_stays, pushed_char}
use Rattle.jsx_draw.proofs.styled_buffer.add_cell.Goals as goal

pub returns-then-eq : goal.returns-then-eq
returns-then-eq c =
    let same : same_style c.in-Some.last.style c.args.cell.1 ≡ true = sym c.if-eq.ensures in
    last_joins c.args.shown.now.items c.pop.new.self.items c.push-then-eq-2.new.self.items c.in-Some.last (record { text = c.push-then-eq.new.self; style = c.in-Some.last.style }) c.args.cell c.in-Some.ensures.items c.in_ok-push-3.ensures.items
    (same_joins (run_of c.in-Some.last) _ c.args.cell same (pushed_char (string_bytes c.in-Some.last.text) (string_bytes c.push-then-eq.new.self) c.args.cell.0 (IsUtf8-string_bytes c.in-Some.last.text) (IsUtf8-string_bytes c.push-then-eq.new.self) c.in_ok-push-2.ensures.bytes) refl)

pub returns : goal.returns
returns c =
    let other : same_style c.in-Some.last.style c.args.cell.1 ≡ false = sym c.if-eq.ensures in
    last_stays c.args.shown.now.items c.pop.new.self.items c.push-2.new.self.items c.push-3.new.self.items c.in-Some.last c.in_ok-one_cell-2.field-0 c.args.cell c.in-Some.ensures.items c.in_ok-push-4.ensures.items c.in_ok-push-5.ensures.items
    (other_stays (run_of c.in-Some.last) _ c.args.cell other c.in_ok-one_cell-2.ensures)
