use Rattle.std.proofs.lemmas.Grind.{common_steps}
use Rattle.std.proofs.Common.{◌≡◌, ◌-◌, ℕ, List, length, take, drop, arith, rules, length-drop}
use Rattle.std.proofs.Math.Seq.{take-add}
use Rattle.std.proofs.lemmas.List.{take_all}
use Rattle.std.proofs.KnownBytes.{Appends-trans}
use Rattle.jsx_base.proofs.sink.std_sink.StdSinkSink.write.Goals as goal

-- the slice from w on is all that is behind w
take-drop : (w : ℕ) (bytes : List ℕ) → take (length bytes - w) (drop w bytes) ≡ drop w bytes
take-drop w bytes = take_all _ _ (omega (arith, length-drop w bytes))

-- what the writer took before, and what it took now
pub loop-written-preserved : goal.loop-written-preserved
loop-written-preserved g c =
    let now = rw take-drop at c.in-Ok.ensures.bytes in
    record {
      within = search rules;
      appended = rw take-add (Appends-trans _ _ _ _ _ c.loop-written.invariant.appended now);
      no_fault = search rules;
    }

pub returns-clause-all : goal.returns-clause-all
returns-clause-all g c = grind (arith, common_steps)
