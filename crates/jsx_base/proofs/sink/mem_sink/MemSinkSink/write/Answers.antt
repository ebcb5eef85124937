use Rattle.std.proofs.Common.{rules}
use Rattle.jsx_base.proofs.sink.mem_sink.MemSinkSink.write.Goals as goal

pub unwrap-requires : goal.unwrap-requires
unwrap-requires c = search rules

pub returns-clause-room : goal.returns-clause-room
returns-clause-room c = search rules
