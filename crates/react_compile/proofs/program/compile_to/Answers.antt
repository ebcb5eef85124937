use Rattle.std.proofs.Common.{Err, ap}
use Rattle.react_compile.specs.Lines.{not_utf8, syntax_error, too_deep, name_error, direct_eval, fault_at}
use Rattle.react_compile.proofs.Refusals.{no_front}
use Rattle.react_compile.proofs.EarlyErrors.{no_clash, no_direct_eval}
use Rattle.react_compile.proofs.Sinks.{gains_none, gains_why, gains_why_prefix, says_not_utf8, says_syntax, says_too_deep, says_clash, says_direct_eval}
use Rattle.react_compile.proofs.program.compile_to.Goals as goal

pub returns-in-Ok-clause-done_out : goal.returns-in-Ok-clause-done_out
returns-in-Ok-clause-done_out g c = λ done kept. c.emit.ensures.unwritten done (gains_none _ _ _ kept (c.emit.ensures.done done))

pub returns-in-Err-NotUtf8-clause-fault : goal.returns-in-Err-NotUtf8-clause-fault
returns-in-Err-NotUtf8-clause-fault g c = λ _ tree source _. absurd (no_front _ _ source.utf8 (c.in-Err-NotUtf8.ensures.not_utf8 c.in-Err-NotUtf8.at (ap Err c.in-Err-NotUtf8.field-0-is)))

pub returns-in-Err-NotUtf8-clause-fault_says : goal.returns-in-Err-NotUtf8-clause-fault_says
returns-in-Err-NotUtf8-clause-fault_says g c = λ f.
    gains_why _ _ _ (not_utf8 c.in-Err-NotUtf8.at) (says_not_utf8 _ c.in-Err-NotUtf8.at (c.in-Err-NotUtf8.ensures.not_utf8 c.in-Err-NotUtf8.at (ap Err c.in-Err-NotUtf8.field-0-is))) (c.tell_not_utf8.ensures.said f)

pub returns-in-Err-NotUtf8-clause-prefix_says : goal.returns-in-Err-NotUtf8-clause-prefix_says
returns-in-Err-NotUtf8-clause-prefix_says g c = λ w.
    gains_why_prefix _ _ _ (not_utf8 c.in-Err-NotUtf8.at) (says_not_utf8 _ c.in-Err-NotUtf8.at (c.in-Err-NotUtf8.ensures.not_utf8 c.in-Err-NotUtf8.at (ap Err c.in-Err-NotUtf8.field-0-is))) (c.tell_not_utf8.ensures.prefix w)

pub returns-in-Err-Syntax-clause-fault_says : goal.returns-in-Err-Syntax-clause-fault_says
returns-in-Err-Syntax-clause-fault_says g c = λ f.
    let is = ap Err c.in-Err-Syntax.field-0-is in
    let at = c.in-Err-Syntax.at in
    let why = c.in-Err-Syntax.ensures in
    gains_why _ _ _ (fault_at syntax_error c.args.source.now at) (says_syntax _ at (why.text at is) (why.refused at is) (why.place at is)) (c.tell_fault.ensures.said f)

pub returns-in-Err-Syntax-clause-prefix_says : goal.returns-in-Err-Syntax-clause-prefix_says
returns-in-Err-Syntax-clause-prefix_says g c = λ w.
    let is = ap Err c.in-Err-Syntax.field-0-is in
    let at = c.in-Err-Syntax.at in
    let why = c.in-Err-Syntax.ensures in
    gains_why_prefix _ _ _ (fault_at syntax_error c.args.source.now at) (says_syntax _ at (why.text at is) (why.refused at is) (why.place at is)) (c.tell_fault.ensures.prefix w)

pub returns-in-Err-TooDeep-clause-fault_says : goal.returns-in-Err-TooDeep-clause-fault_says
returns-in-Err-TooDeep-clause-fault_says g c = λ f.
    let is = ap Err c.in-Err-TooDeep.field-0-is in
    let at = c.in-Err-TooDeep.at in
    let why = c.in-Err-TooDeep.ensures in
    gains_why _ _ _ (fault_at too_deep c.args.source.now at) (says_too_deep _ at (why.deep_text at is) (why.too_deep at is) (why.deep_place at is)) (c.tell_fault-in-Err-TooDeep.ensures.said f)

pub returns-in-Err-TooDeep-clause-prefix_says : goal.returns-in-Err-TooDeep-clause-prefix_says
returns-in-Err-TooDeep-clause-prefix_says g c = λ w.
    let is = ap Err c.in-Err-TooDeep.field-0-is in
    let at = c.in-Err-TooDeep.at in
    let why = c.in-Err-TooDeep.ensures in
    gains_why_prefix _ _ _ (fault_at too_deep c.args.source.now at) (says_too_deep _ at (why.deep_text at is) (why.too_deep at is) (why.deep_place at is)) (c.tell_fault-in-Err-TooDeep.ensures.prefix w)

pub returns-in-Err-Scope-clause-fault_says : goal.returns-in-Err-Scope-clause-fault_says
returns-in-Err-Scope-clause-fault_says g c = λ f.
    let is = ap Err c.in-Err-Scope.field-0-is in
    let at = c.in-Err-Scope.at in
    let why = c.in-Err-Scope.ensures in
    gains_why _ _ _ (fault_at name_error c.args.source.now at) (says_clash _ at (why.scope at is)) (c.tell_fault-in-Err-Scope.ensures.said f)

pub returns-in-Err-Scope-clause-prefix_says : goal.returns-in-Err-Scope-clause-prefix_says
returns-in-Err-Scope-clause-prefix_says g c = λ w.
    let is = ap Err c.in-Err-Scope.field-0-is in
    let at = c.in-Err-Scope.at in
    let why = c.in-Err-Scope.ensures in
    gains_why_prefix _ _ _ (fault_at name_error c.args.source.now at) (says_clash _ at (why.scope at is)) (c.tell_fault-in-Err-Scope.ensures.prefix w)

pub returns-in-Err-DirectEval-clause-fault_says : goal.returns-in-Err-DirectEval-clause-fault_says
returns-in-Err-DirectEval-clause-fault_says g c = λ f.
    let is = ap Err c.in-Err-DirectEval.field-0-is in
    let at = c.in-Err-DirectEval.at in
    let why = c.in-Err-DirectEval.ensures in
    gains_why _ _ _ (fault_at direct_eval c.args.source.now at) (says_direct_eval _ at (why.direct_eval at is)) (c.tell_fault-in-Err-DirectEval.ensures.said f)

pub returns-in-Err-DirectEval-clause-prefix_says : goal.returns-in-Err-DirectEval-clause-prefix_says
returns-in-Err-DirectEval-clause-prefix_says g c = λ w.
    let is = ap Err c.in-Err-DirectEval.field-0-is in
    let at = c.in-Err-DirectEval.at in
    let why = c.in-Err-DirectEval.ensures in
    gains_why_prefix _ _ _ (fault_at direct_eval c.args.source.now at) (says_direct_eval _ at (why.direct_eval at is)) (c.tell_fault-in-Err-DirectEval.ensures.prefix w)

pub returns-in-Err-Syntax-clause-fault : goal.returns-in-Err-Syntax-clause-fault
returns-in-Err-Syntax-clause-fault g c = λ _ tree source _. absurd (c.in-Err-Syntax.ensures.refused c.in-Err-Syntax.at (ap Err c.in-Err-Syntax.field-0-is) tree source)

pub returns-in-Err-TooDeep-clause-fault : goal.returns-in-Err-TooDeep-clause-fault
returns-in-Err-TooDeep-clause-fault g c = λ _ tree source _. c.in-Err-TooDeep.ensures.too_deep c.in-Err-TooDeep.at (ap Err c.in-Err-TooDeep.field-0-is) tree source

pub returns-in-Err-Scope-clause-fault : goal.returns-in-Err-Scope-clause-fault
returns-in-Err-Scope-clause-fault g c = λ _ tree source names. absurd (no_clash _ _ _ _ tree (c.in-Err-Scope.ensures.scope c.in-Err-Scope.at (ap Err c.in-Err-Scope.field-0-is)) source names)

pub returns-in-Err-DirectEval-clause-fault : goal.returns-in-Err-DirectEval-clause-fault
returns-in-Err-DirectEval-clause-fault g c = λ _ tree source names. absurd (no_direct_eval _ _ _ _ tree (c.in-Err-DirectEval.ensures.direct_eval c.in-Err-DirectEval.at (ap Err c.in-Err-DirectEval.field-0-is)) source names)

pub tell_fault-requires-in-Err-Scope-clause-utf8 : goal.tell_fault-requires-in-Err-Scope-clause-utf8
tell_fault-requires-in-Err-Scope-clause-utf8 g c = (c.in-Err-Scope.ensures.scope c.in-Err-Scope.at (ap Err c.in-Err-Scope.field-0-is)).is_source.utf8

pub tell_fault-requires-in-Err-DirectEval-clause-utf8 : goal.tell_fault-requires-in-Err-DirectEval-clause-utf8
tell_fault-requires-in-Err-DirectEval-clause-utf8 g c = (c.in-Err-DirectEval.ensures.direct_eval c.in-Err-DirectEval.at (ap Err c.in-Err-DirectEval.field-0-is)).is_source.utf8
