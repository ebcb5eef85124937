use Rattle.std.proofs.Common.{refl}
use Rattle.jsx_statement.proofs.Statements.{headed_as, headed_parts, none_as, none_parts}
use Rattle.jsx_operand.proofs.Steps.{passed}
use Rattle.jsx_statement.proofs.grammar.Statements.headed.Goals as goal

pub returns-in_ok-empty_statement-in-Empty-clause-read : goal.returns-in_ok-empty_statement-in-Empty-clause-read
returns-in_ok-empty_statement-in-Empty-clause-read g c = headed_as _ c.in-Empty.is refl refl c.in_ok-empty_statement-in-Empty.ensures.read

pub returns-in_ok-block-in-Block-clause-read : goal.returns-in_ok-block-in-Block-clause-read
returns-in_ok-block-in-Block-clause-read g c = headed_as _ c.in-Block.is refl refl c.in_ok-block-in-Block.ensures.read

pub returns-in_ok-declaration-in-Var-clause-read : goal.returns-in_ok-declaration-in-Var-clause-read
returns-in_ok-declaration-in-Var-clause-read g c = headed_as _ c.in-Var.is refl refl c.in_ok-declaration-in-Var.ensures.read

pub returns-in_ok-if_statement-in-If-clause-read : goal.returns-in_ok-if_statement-in-If-clause-read
returns-in_ok-if_statement-in-If-clause-read g c = headed_as _ c.in-If.is refl refl c.in_ok-if_statement-in-If.ensures.read

pub returns-in_ok-do_statement-in-Do-clause-read : goal.returns-in_ok-do_statement-in-Do-clause-read
returns-in_ok-do_statement-in-Do-clause-read g c = headed_as _ c.in-Do.is refl refl c.in_ok-do_statement-in-Do.ensures.read

pub returns-in_ok-while_statement-in-While-clause-read : goal.returns-in_ok-while_statement-in-While-clause-read
returns-in_ok-while_statement-in-While-clause-read g c = headed_as _ c.in-While.is refl refl c.in_ok-while_statement-in-While.ensures.read

pub returns-in_ok-switch_statement-in-Switch-clause-read : goal.returns-in_ok-switch_statement-in-Switch-clause-read
returns-in_ok-switch_statement-in-Switch-clause-read g c = headed_as _ c.in-Switch.is refl refl c.in_ok-switch_statement-in-Switch.ensures.read

pub returns-in_ok-continue_statement-in-Continue-clause-read : goal.returns-in_ok-continue_statement-in-Continue-clause-read
returns-in_ok-continue_statement-in-Continue-clause-read g c = headed_as _ c.in-Continue.is refl refl c.in_ok-continue_statement-in-Continue.ensures.read

pub returns-in_ok-break_statement-in-Break-clause-read : goal.returns-in_ok-break_statement-in-Break-clause-read
returns-in_ok-break_statement-in-Break-clause-read g c = headed_as _ c.in-Break.is refl refl c.in_ok-break_statement-in-Break.ensures.read

pub returns-in_ok-throw_statement-in-Throw-clause-read : goal.returns-in_ok-throw_statement-in-Throw-clause-read
returns-in_ok-throw_statement-in-Throw-clause-read g c = headed_as _ c.in-Throw.is refl refl c.in_ok-throw_statement-in-Throw.ensures.read

pub returns-in_ok-function_declaration-in-Function-clause-read : goal.returns-in_ok-function_declaration-in-Function-clause-read
returns-in_ok-function_declaration-in-Function-clause-read g c = headed_as _ c.in-Function.is refl refl c.in_ok-function_declaration-in-Function.ensures.read

pub returns-in_ok-return_statement-in-Return-clause-read : goal.returns-in_ok-return_statement-in-Return-clause-read
returns-in_ok-return_statement-in-Return-clause-read g c = headed_as _ c.in-Return.is refl refl c.in_ok-return_statement-in-Return.ensures.read

pub returns-in_ok-try_statement-in-Try-clause-read : goal.returns-in_ok-try_statement-in-Try-clause-read
returns-in_ok-try_statement-in-Try-clause-read g c = headed_as _ c.in-Try.is refl refl c.in_ok-try_statement-in-Try.ensures.read

pub returns-in_ok-debugger_statement-in-Debugger-clause-read : goal.returns-in_ok-debugger_statement-in-Debugger-clause-read
returns-in_ok-debugger_statement-in-Debugger-clause-read g c = headed_as _ c.in-Debugger.is refl refl c.in_ok-debugger_statement-in-Debugger.ensures.read

pub returns-in_err-declaration-in-Var-clause-refused : goal.returns-in_err-declaration-in-Var-clause-refused
returns-in_err-declaration-in-Var-clause-refused g c = passed _ c.in_err-declaration-in-Var.ensures.refused c.from_residual-in_err-declaration-in-Var.ensures.1 (λ n. none_as _ c.in-Var.is refl refl n)

pub returns-in_err-empty_statement-in-Empty-clause-refused : goal.returns-in_err-empty_statement-in-Empty-clause-refused
returns-in_err-empty_statement-in-Empty-clause-refused g c = passed _ c.in_err-empty_statement-in-Empty.ensures.refused c.from_residual.ensures.1 (λ n. none_as _ c.in-Empty.is refl refl n)

pub returns-in_err-block-in-Block-clause-refused : goal.returns-in_err-block-in-Block-clause-refused
returns-in_err-block-in-Block-clause-refused g c = passed _ c.in_err-block-in-Block.ensures.refused c.from_residual-in_err-block-in-Block.ensures.1 (λ n. none_as _ c.in-Block.is refl refl n)

pub returns-in_err-if_statement-in-If-clause-refused : goal.returns-in_err-if_statement-in-If-clause-refused
returns-in_err-if_statement-in-If-clause-refused g c = passed _ c.in_err-if_statement-in-If.ensures.refused c.from_residual-in_err-if_statement-in-If.ensures.1 (λ n. none_as _ c.in-If.is refl refl n)

pub returns-in_err-do_statement-in-Do-clause-refused : goal.returns-in_err-do_statement-in-Do-clause-refused
returns-in_err-do_statement-in-Do-clause-refused g c = passed _ c.in_err-do_statement-in-Do.ensures.refused c.from_residual-in_err-do_statement-in-Do.ensures.1 (λ n. none_as _ c.in-Do.is refl refl n)

pub returns-in_err-while_statement-in-While-clause-refused : goal.returns-in_err-while_statement-in-While-clause-refused
returns-in_err-while_statement-in-While-clause-refused g c = passed _ c.in_err-while_statement-in-While.ensures.refused c.from_residual-in_err-while_statement-in-While.ensures.1 (λ n. none_as _ c.in-While.is refl refl n)

pub returns-in_err-switch_statement-in-Switch-clause-refused : goal.returns-in_err-switch_statement-in-Switch-clause-refused
returns-in_err-switch_statement-in-Switch-clause-refused g c = passed _ c.in_err-switch_statement-in-Switch.ensures.refused c.from_residual-in_err-switch_statement-in-Switch.ensures.1 (λ n. none_as _ c.in-Switch.is refl refl n)

pub returns-in_err-continue_statement-in-Continue-clause-refused : goal.returns-in_err-continue_statement-in-Continue-clause-refused
returns-in_err-continue_statement-in-Continue-clause-refused g c = passed _ c.in_err-continue_statement-in-Continue.ensures.refused c.from_residual-in_err-continue_statement-in-Continue.ensures.1 (λ n. none_as _ c.in-Continue.is refl refl n)

pub returns-in_err-break_statement-in-Break-clause-refused : goal.returns-in_err-break_statement-in-Break-clause-refused
returns-in_err-break_statement-in-Break-clause-refused g c = passed _ c.in_err-break_statement-in-Break.ensures.refused c.from_residual-in_err-break_statement-in-Break.ensures.1 (λ n. none_as _ c.in-Break.is refl refl n)

pub returns-in_err-throw_statement-in-Throw-clause-refused : goal.returns-in_err-throw_statement-in-Throw-clause-refused
returns-in_err-throw_statement-in-Throw-clause-refused g c = passed _ c.in_err-throw_statement-in-Throw.ensures.refused c.from_residual-in_err-throw_statement-in-Throw.ensures.1 (λ n. none_as _ c.in-Throw.is refl refl n)

pub returns-in_err-function_declaration-in-Function-clause-refused : goal.returns-in_err-function_declaration-in-Function-clause-refused
returns-in_err-function_declaration-in-Function-clause-refused g c = passed _ c.in_err-function_declaration-in-Function.ensures.refused c.from_residual-in_err-function_declaration-in-Function.ensures.1 (λ n. none_as _ c.in-Function.is refl refl n)

pub returns-in_err-return_statement-in-Return-clause-refused : goal.returns-in_err-return_statement-in-Return-clause-refused
returns-in_err-return_statement-in-Return-clause-refused g c = passed _ c.in_err-return_statement-in-Return.ensures.refused c.from_residual-in_err-return_statement-in-Return.ensures.1 (λ n. none_as _ c.in-Return.is refl refl n)

pub returns-in_err-try_statement-in-Try-clause-refused : goal.returns-in_err-try_statement-in-Try-clause-refused
returns-in_err-try_statement-in-Try-clause-refused g c = passed _ c.in_err-try_statement-in-Try.ensures.refused c.from_residual-in_err-try_statement-in-Try.ensures.1 (λ n. none_as _ c.in-Try.is refl refl n)

pub returns-in_err-debugger_statement-in-Debugger-clause-refused : goal.returns-in_err-debugger_statement-in-Debugger-clause-refused
returns-in_err-debugger_statement-in-Debugger-clause-refused g c = passed _ c.in_err-debugger_statement-in-Debugger.ensures.refused c.from_residual-in_err-debugger_statement-in-Debugger.ensures.1 (λ n. none_as _ c.in-Debugger.is refl refl n)

pub returns-in_ok-class_declaration-in-Class-clause-read : goal.returns-in_ok-class_declaration-in-Class-clause-read
returns-in_ok-class_declaration-in-Class-clause-read g c = headed_parts _ c.in-Class.is refl c.in_ok-class_declaration-in-Class.ensures.read

pub returns-in_err-class_declaration-in-Class-clause-refused : goal.returns-in_err-class_declaration-in-Class-clause-refused
returns-in_err-class_declaration-in-Class-clause-refused g c = passed _ c.in_err-class_declaration-in-Class.ensures.refused c.from_residual-in_err-class_declaration-in-Class.ensures.1 (λ n. none_parts _ c.in-Class.is refl n)
