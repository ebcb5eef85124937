use Rattle.std.proofs.Common.{arith}
use Rattle.std.proofs.lemmas.Grind.{common_steps}
use Rattle.std.proofs.Common.{ap, ◌∙◌}
use Rattle.jsx_base.specs.SourceFile.{file_of, shared_file}
use Rattle.jsx_base.proofs.FileOrder.{in_order_kept}
use Rattle.jsx_base.proofs.source_map.SourceMap.add.Goals as goal

pub invariant_of-self-2 : goal.invariant_of-self-2
invariant_of-self-2 c =
    let begins = ap (λ it. (file_of it).start) (c.in_ok-clone.ensures.cases ∙ c.in_ok-file-2.ensures.ok) ∙ ap (λ file. file.start) c.in_ok-file.ensures in record {
      in_order = in_order_kept shared_file c.args.self.now.files.items c.push.new.self.items c.in_ok-clone.field-0 c.args.start_pos.0 _ c.args.self.now.in_order c.requires.after begins c.push.ensures.items;
    }

pub returns-clause-added : goal.returns-clause-added
returns-clause-added c = grind (arith, common_steps)
