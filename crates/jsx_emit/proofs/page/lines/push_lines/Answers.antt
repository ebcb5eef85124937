use Rattle.std.proofs.Common.{◌++◌}
use Rattle.std.specs.Prelude.{string_bytes}
use Rattle.jsx_base.specs.SourceFile.{shared_file}
use Rattle.jsx_emit.specs.Sheets.{line_blocks}
use Rattle.jsx_emit.specs.Page.{rows_text}
use Rattle.jsx_emit.specs.Views.{sheet_of}
use Rattle.jsx_emit.proofs.Blocks.{block_all, block_more}
use Rattle.jsx_emit.proofs.page.lines.push_lines.Goals as goal

pub loop-line-preserved : goal.loop-line-preserved
loop-line-preserved c = record { so = block_more (sheet_of c.args.sheet) (shared_file c.args.file.now) c.in-Some.line c.loop-line.left.now c.in-Some.more.now (string_bytes c.args.text.now ++ rows_text (line_blocks (sheet_of c.args.sheet) (shared_file c.args.file.now) c.args.lines.now)) (string_bytes c.loop-line.text) (string_bytes c.push_block.new.text) (string_bytes c.push_gap_before.new.text) c.in-Some.ensures c.in_ok-push_block.ensures c.in_ok-push_gap_before.ensures c.loop-line.invariant.so }

pub returns : goal.returns
returns c = block_all (sheet_of c.args.sheet) (shared_file c.args.file.now) c.loop-line.left.now (string_bytes c.loop-line.text) (string_bytes c.args.text.now ++ rows_text (line_blocks (sheet_of c.args.sheet) (shared_file c.args.file.now) c.args.lines.now)) c.in_default.ensures c.loop-line.invariant.so
