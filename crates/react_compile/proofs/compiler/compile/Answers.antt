use Rattle.std.proofs.Common.{◌≤◌, sym, subst, inr}
use Rattle.std.specs.Str.{chars}
use Rattle.jsx_tree.specs.Depth.{depth}
use Rattle.jsx_token.specs.Stage.{ReadsSoFar}
use Rattle.react_compile.proofs.Refusals.{refused_by, complete_by, deep_by, parsed_by, no_front, told_not_utf8, told_up_to, told_no_depth, told_no_syntax, told_no_source}
use Rattle.react_compile.specs.declared.compiler.CompileError.TheVariants.{NotUtf8, Syntax, TooDeep, Scope, DirectEval}
use Rattle.react_compile.proofs.EarlyErrors.{is_read, found, that_error, clash_said, call_said, clean_said, no_clash, no_direct_eval, parsed_no_name, text_no_name, short}
use Rattle.react_compile.proofs.compiler.compile.Goals as goal

pub returns-clause-compiled : goal.returns-clause-compiled
returns-clause-compiled c =
    let p = c.in_ok-program.ensures.read in
    record {
      tree = p.written;
      is_source = record { utf8 = c.in_ok-text.ensures.utf8; reads = subst (λ xs. ReadsSoFar c.args.goal (chars xs) p.written) c.in_ok-text.ensures.same p.reads };
      names = c.in_ok-early.ensures c.args.goal 0 _ p.written (is_read p);
      is_code = c.in_ok-code.ensures c.args.goal _ p.written p.reads p.bare;
    }

pub returns-in_err-program-clause-refused : goal.returns-in_err-program-clause-refused
returns-in_err-program-clause-refused c = refused_by _ _ _ _ c.in_ok-text.ensures.same c.in_err-program.ensures.refused c.from_residual-in_err-program.ensures.1

pub returns-in_err-program-clause-complete : goal.returns-in_err-program-clause-complete
returns-in_err-program-clause-complete c = λ tree source low _. complete_by _ _ _ _ c.in_ok-text.ensures.same c.in_err-program.ensures.refused c.from_residual-in_err-program.ensures.1 tree source low

pub returns-in_err-program-clause-too_deep : goal.returns-in_err-program-clause-too_deep
returns-in_err-program-clause-too_deep c = deep_by _ _ _ _ c.in_ok-text.ensures.same c.in_err-program.ensures.refused c.from_residual-in_err-program.ensures.1

pub returns-clause-shallow : goal.returns-clause-shallow
returns-clause-shallow c = λ tree source.
    let p = c.in_ok-program.ensures.read in
    let same = p.alone tree (subst (λ xs. ReadsSoFar c.args.goal (chars xs) tree) (sym c.in_ok-text.ensures.same) source.reads) in
    subst (λ t. depth t ≤ c.args.depth) (sym same) p.shallow

pub returns-clause-up_to : goal.returns-clause-up_to
returns-clause-up_to c = λ n v. absurd (no_front _ n c.in_ok-text.ensures.utf8 v)

pub returns-in_err-program-clause-up_to : goal.returns-in_err-program-clause-up_to
returns-in_err-program-clause-up_to c = λ n v. absurd (no_front _ n c.in_ok-text.ensures.utf8 v)

pub returns-in_err-code-clause-up_to : goal.returns-in_err-code-clause-up_to
returns-in_err-code-clause-up_to c = λ n v. absurd (no_front _ n c.in_ok-text.ensures.utf8 v)

pub returns-in_err-program-clause-not_utf8 : goal.returns-in_err-program-clause-not_utf8
returns-in_err-program-clause-not_utf8 c = λ n same. absurd (parsed_by _ _ c.from_residual-in_err-program.ensures.1 n same)

pub returns-in_err-text-clause-not_utf8 : goal.returns-in_err-text-clause-not_utf8
returns-in_err-text-clause-not_utf8 c = told_not_utf8 _ _ c.args.source.now c.in_err-text.ensures.not_utf8 c.from_residual.ensures.1

pub returns-in_err-text-clause-up_to : goal.returns-in_err-text-clause-up_to
returns-in_err-text-clause-up_to c = told_up_to _ _ c.args.source.now c.in_err-text.ensures.not_utf8 c.from_residual.ensures.1

pub returns-in_err-text-clause-text : goal.returns-in_err-text-clause-text
returns-in_err-text-clause-text c = λ at same. told_no_syntax _ _ c.args.source.now c.in_err-text.ensures.not_utf8 c.from_residual.ensures.1 at same

pub returns-in_err-text-clause-refused : goal.returns-in_err-text-clause-refused
returns-in_err-text-clause-refused c = λ at same. told_no_syntax _ _ c.args.source.now c.in_err-text.ensures.not_utf8 c.from_residual.ensures.1 at same

pub returns-in_err-text-clause-place : goal.returns-in_err-text-clause-place
returns-in_err-text-clause-place c = λ at same. told_no_syntax _ _ c.args.source.now c.in_err-text.ensures.not_utf8 c.from_residual.ensures.1 at same

pub returns-in_err-text-clause-deep_text : goal.returns-in_err-text-clause-deep_text
returns-in_err-text-clause-deep_text c = λ at same. told_no_depth _ _ c.args.source.now c.in_err-text.ensures.not_utf8 c.from_residual.ensures.1 at same

pub returns-in_err-text-clause-too_deep : goal.returns-in_err-text-clause-too_deep
returns-in_err-text-clause-too_deep c = λ at same. told_no_depth _ _ c.args.source.now c.in_err-text.ensures.not_utf8 c.from_residual.ensures.1 at same

pub returns-in_err-text-clause-deep_place : goal.returns-in_err-text-clause-deep_place
returns-in_err-text-clause-deep_place c = λ at same. told_no_depth _ _ c.args.source.now c.in_err-text.ensures.not_utf8 c.from_residual.ensures.1 at same

pub returns-in_err-text-clause-complete : goal.returns-in_err-text-clause-complete
returns-in_err-text-clause-complete c = λ tree source _ _. told_no_source _ _ c.args.source.now c.in_err-text.ensures.not_utf8 c.from_residual.ensures.1 tree source

-- ---- early errors on names

pub returns-in_err-early-clause-scope : goal.returns-in_err-early-clause-scope
returns-in_err-early-clause-scope c = λ at same. that_error c.args.goal c.args.source.now c.args.depth _ (Scope at) (found c.args.goal c.args.depth _ _ _ _ c.in_ok-text.ensures.same c.in_ok-text.ensures.utf8 c.in_ok-program.ensures.read (c.in_err-early.ensures c.args.goal 0 _ _ (is_read c.in_ok-program.ensures.read)) c.from_residual-in_err-early.ensures.1) same

pub returns-in_err-early-clause-direct_eval : goal.returns-in_err-early-clause-direct_eval
returns-in_err-early-clause-direct_eval c = λ at same. that_error c.args.goal c.args.source.now c.args.depth _ (DirectEval at) (found c.args.goal c.args.depth _ _ _ _ c.in_ok-text.ensures.same c.in_ok-text.ensures.utf8 c.in_ok-program.ensures.read (c.in_err-early.ensures c.args.goal 0 _ _ (is_read c.in_ok-program.ensures.read)) c.from_residual-in_err-early.ensures.1) same

pub returns-in_err-early-clause-clash : goal.returns-in_err-early-clause-clash
returns-in_err-early-clause-clash c = λ at h. clash_said c.args.goal c.args.source.now c.args.depth at _ (found c.args.goal c.args.depth _ _ _ _ c.in_ok-text.ensures.same c.in_ok-text.ensures.utf8 c.in_ok-program.ensures.read (c.in_err-early.ensures c.args.goal 0 _ _ (is_read c.in_ok-program.ensures.read)) c.from_residual-in_err-early.ensures.1) h

pub returns-in_err-early-clause-called : goal.returns-in_err-early-clause-called
returns-in_err-early-clause-called c = λ at h. call_said c.args.goal c.args.source.now c.args.depth at _ (found c.args.goal c.args.depth _ _ _ _ c.in_ok-text.ensures.same c.in_ok-text.ensures.utf8 c.in_ok-program.ensures.read (c.in_err-early.ensures c.args.goal 0 _ _ (is_read c.in_ok-program.ensures.read)) c.from_residual-in_err-early.ensures.1) h

pub returns-in_err-early-clause-complete : goal.returns-in_err-early-clause-complete
returns-in_err-early-clause-complete c = λ tree source _ names. clean_said c.args.goal c.args.source.now c.args.depth _ tree (found c.args.goal c.args.depth _ _ _ _ c.in_ok-text.ensures.same c.in_ok-text.ensures.utf8 c.in_ok-program.ensures.read (c.in_err-early.ensures c.args.goal 0 _ _ (is_read c.in_ok-program.ensures.read)) c.from_residual-in_err-early.ensures.1) source names

pub returns-in_err-early-clause-not_utf8 : goal.returns-in_err-early-clause-not_utf8
returns-in_err-early-clause-not_utf8 c = λ n same. absurd (that_error c.args.goal c.args.source.now c.args.depth _ (NotUtf8 n) (found c.args.goal c.args.depth _ _ _ _ c.in_ok-text.ensures.same c.in_ok-text.ensures.utf8 c.in_ok-program.ensures.read (c.in_err-early.ensures c.args.goal 0 _ _ (is_read c.in_ok-program.ensures.read)) c.from_residual-in_err-early.ensures.1) same)

pub returns-in_err-early-clause-up_to : goal.returns-in_err-early-clause-up_to
returns-in_err-early-clause-up_to c = λ n v. absurd (no_front _ n c.in_ok-text.ensures.utf8 v)

pub returns-in_err-early-clause-text : goal.returns-in_err-early-clause-text
returns-in_err-early-clause-text c = λ at same. absurd (that_error c.args.goal c.args.source.now c.args.depth _ (Syntax at) (found c.args.goal c.args.depth _ _ _ _ c.in_ok-text.ensures.same c.in_ok-text.ensures.utf8 c.in_ok-program.ensures.read (c.in_err-early.ensures c.args.goal 0 _ _ (is_read c.in_ok-program.ensures.read)) c.from_residual-in_err-early.ensures.1) same)

pub returns-in_err-early-clause-refused : goal.returns-in_err-early-clause-refused
returns-in_err-early-clause-refused c = λ at same. absurd (that_error c.args.goal c.args.source.now c.args.depth _ (Syntax at) (found c.args.goal c.args.depth _ _ _ _ c.in_ok-text.ensures.same c.in_ok-text.ensures.utf8 c.in_ok-program.ensures.read (c.in_err-early.ensures c.args.goal 0 _ _ (is_read c.in_ok-program.ensures.read)) c.from_residual-in_err-early.ensures.1) same)

pub returns-in_err-early-clause-place : goal.returns-in_err-early-clause-place
returns-in_err-early-clause-place c = λ at same. absurd (that_error c.args.goal c.args.source.now c.args.depth _ (Syntax at) (found c.args.goal c.args.depth _ _ _ _ c.in_ok-text.ensures.same c.in_ok-text.ensures.utf8 c.in_ok-program.ensures.read (c.in_err-early.ensures c.args.goal 0 _ _ (is_read c.in_ok-program.ensures.read)) c.from_residual-in_err-early.ensures.1) same)

pub returns-in_err-early-clause-deep_text : goal.returns-in_err-early-clause-deep_text
returns-in_err-early-clause-deep_text c = λ at same. absurd (that_error c.args.goal c.args.source.now c.args.depth _ (TooDeep at) (found c.args.goal c.args.depth _ _ _ _ c.in_ok-text.ensures.same c.in_ok-text.ensures.utf8 c.in_ok-program.ensures.read (c.in_err-early.ensures c.args.goal 0 _ _ (is_read c.in_ok-program.ensures.read)) c.from_residual-in_err-early.ensures.1) same)

pub returns-in_err-early-clause-too_deep : goal.returns-in_err-early-clause-too_deep
returns-in_err-early-clause-too_deep c = λ at same. absurd (that_error c.args.goal c.args.source.now c.args.depth _ (TooDeep at) (found c.args.goal c.args.depth _ _ _ _ c.in_ok-text.ensures.same c.in_ok-text.ensures.utf8 c.in_ok-program.ensures.read (c.in_err-early.ensures c.args.goal 0 _ _ (is_read c.in_ok-program.ensures.read)) c.from_residual-in_err-early.ensures.1) same)

pub returns-in_err-early-clause-deep_place : goal.returns-in_err-early-clause-deep_place
returns-in_err-early-clause-deep_place c = λ at same. absurd (that_error c.args.goal c.args.source.now c.args.depth _ (TooDeep at) (found c.args.goal c.args.depth _ _ _ _ c.in_ok-text.ensures.same c.in_ok-text.ensures.utf8 c.in_ok-program.ensures.read (c.in_err-early.ensures c.args.goal 0 _ _ (is_read c.in_ok-program.ensures.read)) c.from_residual-in_err-early.ensures.1) same)

pub returns-in_err-program-clause-scope : goal.returns-in_err-program-clause-scope
returns-in_err-program-clause-scope c = λ at same. parsed_no_name _ _ (Scope at) c.from_residual-in_err-program.ensures.1 same tt

pub returns-in_err-program-clause-direct_eval : goal.returns-in_err-program-clause-direct_eval
returns-in_err-program-clause-direct_eval c = λ at same. parsed_no_name _ _ (DirectEval at) c.from_residual-in_err-program.ensures.1 same tt

pub returns-in_err-program-clause-clash : goal.returns-in_err-program-clause-clash
returns-in_err-program-clause-clash c = λ at h. inr (short _ _ c.from_residual-in_err-program.ensures.1 (complete_by _ _ _ _ c.in_ok-text.ensures.same c.in_err-program.ensures.refused c.from_residual-in_err-program.ensures.1 h.tree h.is_source h.shallow))

pub returns-in_err-program-clause-called : goal.returns-in_err-program-clause-called
returns-in_err-program-clause-called c = λ at h. inr (short _ _ c.from_residual-in_err-program.ensures.1 (complete_by _ _ _ _ c.in_ok-text.ensures.same c.in_err-program.ensures.refused c.from_residual-in_err-program.ensures.1 h.tree h.is_source h.shallow))

pub returns-in_err-text-clause-scope : goal.returns-in_err-text-clause-scope
returns-in_err-text-clause-scope c = λ at same. text_no_name _ _ c.args.source.now (Scope at) c.in_err-text.ensures.not_utf8 c.from_residual.ensures.1 same tt

pub returns-in_err-text-clause-direct_eval : goal.returns-in_err-text-clause-direct_eval
returns-in_err-text-clause-direct_eval c = λ at same. text_no_name _ _ c.args.source.now (DirectEval at) c.in_err-text.ensures.not_utf8 c.from_residual.ensures.1 same tt

pub returns-in_err-text-clause-clash : goal.returns-in_err-text-clause-clash
returns-in_err-text-clause-clash c = λ at h. inr (short _ _ c.from_residual.ensures.1 (told_no_source _ _ c.args.source.now c.in_err-text.ensures.not_utf8 c.from_residual.ensures.1 h.tree h.is_source))

pub returns-in_err-text-clause-called : goal.returns-in_err-text-clause-called
returns-in_err-text-clause-called c = λ at h. inr (short _ _ c.from_residual.ensures.1 (told_no_source _ _ c.args.source.now c.in_err-text.ensures.not_utf8 c.from_residual.ensures.1 h.tree h.is_source))

pub returns-clause-clash : goal.returns-clause-clash
returns-clause-clash c = λ at h. absurd (no_clash c.args.goal c.args.source.now c.args.depth at (c.in_ok-program.ensures.read.written) h (record { utf8 = c.in_ok-text.ensures.utf8; reads = subst (λ xs. ReadsSoFar c.args.goal (chars xs) c.in_ok-program.ensures.read.written) c.in_ok-text.ensures.same c.in_ok-program.ensures.read.reads }) (c.in_ok-early.ensures c.args.goal 0 _ _ (is_read c.in_ok-program.ensures.read)))

pub returns-clause-called : goal.returns-clause-called
returns-clause-called c = λ at h. absurd (no_direct_eval c.args.goal c.args.source.now c.args.depth at (c.in_ok-program.ensures.read.written) h (record { utf8 = c.in_ok-text.ensures.utf8; reads = subst (λ xs. ReadsSoFar c.args.goal (chars xs) c.in_ok-program.ensures.read.written) c.in_ok-text.ensures.same c.in_ok-program.ensures.read.reads }) (c.in_ok-early.ensures c.args.goal 0 _ _ (is_read c.in_ok-program.ensures.read)))
