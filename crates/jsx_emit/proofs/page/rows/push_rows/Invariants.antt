use Rattle.std.proofs.Common.{◌≡◌, ◌++◌, map, take}
use Rattle.std.specs.Prelude.{string_bytes}
use Rattle.jsx_draw.specs.Grid.{shown_runs}
use Rattle.jsx_emit.proofs.Pages.{runs_text}
use Rattle.jsx_emit.proofs.page.rows.push_rows.Given as goal

abbrev pub invariant-loop-row : goal.invariant-loop-row
invariant-loop-row l = string_bytes l.text ≡ string_bytes l.fn.text ++ runs_text (take l.row-index (map shown_runs l.row-items))
