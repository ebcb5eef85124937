-- Errors of the parser and on names, as those of the compiler.
use Rattle.std.specs.Prelude.{ℕ, List}
use Rattle.std.specs.Str.{IsValidUpTo}
use Rattle.jsx_operand.specs.declared.error.ParseError.{ParseError}
use Rattle.jsx_operand.specs.declared.error.ParseError.TheVariants as parse
use Rattle.jsx_scope.specs.declared.early_errors.ScopeError.{ScopeError}
use Rattle.jsx_scope.specs.declared.early_errors.ScopeError.TheVariants as scope
use Rattle.react_compile.specs.declared.compiler.CompileError.{CompileError}
use Rattle.react_compile.specs.declared.compiler.CompileError.TheVariants as compile

abbrev pub compile_error : ParseError → CompileError
compile_error (parse.Syntax at) = compile.Syntax at.0
compile_error (parse.TooDeep at) = compile.TooDeep at.0
compile_error parse.Memory = compile.Memory

abbrev pub error_on_names : ScopeError → CompileError
error_on_names (scope.Scope at) = compile.Scope at.0
error_on_names (scope.DirectEval at) = compile.DirectEval at.0
error_on_names scope.Memory = compile.Memory

-- the error of bytes that aren't UTF-8, with the length of their longest front that is
abbrev pub IsNotUtf8 : List ℕ → CompileError → Type 0
IsNotUtf8 bytes (compile.NotUtf8 n) = IsValidUpTo bytes n
IsNotUtf8 bytes (compile.Syntax at) = ⊥
IsNotUtf8 bytes (compile.TooDeep at) = ⊥
IsNotUtf8 bytes (compile.Scope at) = ⊥
IsNotUtf8 bytes (compile.DirectEval at) = ⊥
IsNotUtf8 bytes compile.Memory = ⊥
