use Rattle.std.proofs.Common.{min, ◌^◌, ◌-◌, length, ap, sym, ◌∙◌, arith}
use Rattle.jsx_draw.specs.Grid.{restyled}
use Rattle.jsx_draw.proofs.Grids.{columns_end, restyled_more, restyled_all, change_from_zero}
use Rattle.jsx_draw.proofs.styled_buffer.restyle.Goals as goal

pub loop-col-init : goal.loop-col-init
loop-col-init c = sym (change_from_zero (restyled c.args.style c.args.overwrite) c.args.row.now c.args.begin (c.args.begin - c.args.begin) (omega arith))

pub loop-col-preserved : goal.loop-col-preserved
loop-col-preserved c = restyled_more (restyled c.args.style c.args.overwrite) c.args.row.now c.loop-col.row c.args.begin c.loop-col.col _ c.restyled.result (omega arith) (omega arith) c.loop-col.invariant c.restyled.ensures

pub returns : goal.returns
returns c = restyled_all (restyled c.args.style c.args.overwrite) c.args.row.now c.loop-col.row c.args.begin c.loop-col.col c.args.n (columns_end c.args.begin c.args.n (2 ^ 64 - 1) c.min-end.result c.loop-col.col (length c.args.row.now) (omega arith) (c.min-end.ensures ∙ ap (λ k. min k (length c.args.row.now)) c.saturating_add.ensures) (omega arith) (omega arith) (λ h. omega arith)) c.loop-col.invariant
