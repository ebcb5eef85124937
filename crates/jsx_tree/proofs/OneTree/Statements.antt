-- The kinds of statements, and of what stands in them, in a list.
use Rattle.jsx_tree.proofs.OneTree.Known.{stated}
use Rattle.std.specs.Prelude.{ℕ, zero, suc, List, [], ◌∷◌, Bool, true}
use Rattle.jsx_tree.specs.Kinds.{Script, Module, FunctionBody, Directive, ImportBare, Import, ImportAll, ImportList, ImportBoth, ExportAll, ExportAllAs, ExportDecl, ExportDefaultFn, ExportDefaultClass, ExportDefaultExpr, ExportNames, ExportFrom, Specifier, SpecifierAs, Imported, Exported, From, Var, VarWord, LetWord, ConstWord, Block, Declarator, Empty, ExprStmt, If, Do, While, For, ForDeclaration, ForIn, ForOf, ForBinding, Continue, Break, Return, Throw, Debugger, Label, Switch, Case, Default, Try, Catch, FunctionDecl, ClassDecl, FunctionExpr, ClassExpr, InObject, InClass, Static, Method, Getter, Setter, Field, Kind, program, statement, function}
use Rattle.std.proofs.Common.{◌≡◌, refl, subst}
use Rattle.jsx_tree.proofs.OneTree.Checks.{every}
use Rattle.jsx_tree.proofs.Tokens.{and_left, and_right}

abbrev pub place : Kind → ℕ
place (program Script) = 0
place (program Module) = 1
place (program FunctionBody) = 2
place (program Directive) = 3
place (program ImportBare) = 4
place (program Import) = 5
place (program ImportAll) = 6
place (program ImportList) = 7
place (program ImportBoth) = 8
place (program ExportAll) = 9
place (program ExportAllAs) = 10
place (program ExportDecl) = 11
place (program ExportDefaultFn) = 12
place (program ExportDefaultExpr) = 13
place (program ExportNames) = 14
place (program (Specifier Imported)) = 15
place (program (Specifier Exported)) = 16
place (program (Specifier From)) = 17
place (program (SpecifierAs Imported)) = 18
place (program (SpecifierAs Exported)) = 19
place (program (SpecifierAs From)) = 20
place (statement Block) = 21
place (statement (Var VarWord)) = 22
place (statement (Var LetWord)) = 23
place (statement (Var ConstWord)) = 24
place (statement Declarator) = 25
place (statement Empty) = 26
place (statement ExprStmt) = 27
place (statement If) = 28
place (statement Do) = 29
place (statement While) = 30
place (statement Continue) = 31
place (statement Break) = 32
place (statement Return) = 33
place (statement Throw) = 34
place (statement Debugger) = 35
place (statement Label) = 36
place (statement Switch) = 37
place (statement Case) = 38
place (statement Default) = 39
place (statement Try) = 40
place (statement Catch) = 41
place (statement FunctionDecl) = 42
place (program ExportFrom) = 43
place (statement For) = 44
place (statement (ForDeclaration VarWord)) = 45
place (statement (ForDeclaration LetWord)) = 46
place (statement (ForDeclaration ConstWord)) = 47
place (statement ForIn) = 48
place (statement ForOf) = 49
place (statement (ForBinding VarWord)) = 50
place (statement (ForBinding LetWord)) = 51
place (statement (ForBinding ConstWord)) = 52
place (statement ClassDecl) = 53
place (function (Method InClass)) = 54
place (function (Method Static)) = 55
place (function (Getter InClass)) = 56
place (function (Getter Static)) = 57
place (function (Setter InClass)) = 58
place (function (Setter Static)) = 59
place (function (Field InClass)) = 60
place (function (Field Static)) = 61
place (function FunctionExpr) = 62
place (function ClassExpr) = 63
place (program ExportDefaultClass) = 64
place (function (Method InObject)) = 65
place (function (Getter InObject)) = 66
place (function (Setter InObject)) = 67
place k = 0

abbrev pub stated_kinds : List Kind
stated_kinds =
    program Script ∷ program Module ∷ program FunctionBody ∷ program Directive ∷ program ImportBare ∷ program Import ∷ program ImportAll ∷ program ImportList ∷ program ImportBoth ∷ program ExportAll ∷ program ExportAllAs ∷ program ExportDecl ∷ program ExportDefaultFn ∷ program ExportDefaultExpr ∷ program ExportNames ∷ program (Specifier Imported) ∷ program (Specifier Exported) ∷ program (Specifier From) ∷ program (SpecifierAs Imported) ∷ program (SpecifierAs Exported) ∷ program (SpecifierAs From) ∷ statement Block ∷ statement (Var VarWord) ∷ statement (Var LetWord) ∷ statement (Var ConstWord) ∷ statement Declarator ∷ statement Empty ∷ statement ExprStmt ∷ statement If ∷ statement Do ∷ statement While ∷ statement Continue ∷ statement Break ∷ statement Return ∷ statement Throw ∷ statement Debugger ∷ statement Label ∷ statement Switch ∷ statement Case ∷ statement Default ∷ statement Try ∷ statement Catch ∷ statement FunctionDecl ∷ program ExportFrom ∷ statement For ∷ statement (ForDeclaration VarWord) ∷ statement (ForDeclaration LetWord) ∷ statement (ForDeclaration ConstWord) ∷ statement ForIn ∷ statement ForOf ∷ statement (ForBinding VarWord) ∷ statement (ForBinding LetWord) ∷ statement (ForBinding ConstWord) ∷ statement ClassDecl ∷ function (Method InClass) ∷ function (Method Static) ∷ function (Getter InClass) ∷ function (Getter Static) ∷ function (Setter InClass) ∷ function (Setter Static) ∷ function (Field InClass) ∷ function (Field Static) ∷ function FunctionExpr ∷ function ClassExpr ∷ program ExportDefaultClass ∷ function (Method InObject) ∷ function (Getter InObject) ∷ function (Setter InObject) ∷ []

abbrev pub nth : List Kind → ℕ → Kind
nth [] n = program Script
nth (k ∷ ks) zero = k
nth (k ∷ ks) (suc n) = nth ks n

pub stated_nth : (k : Kind) → stated k ≡ true → nth stated_kinds (place k) ≡ k
stated_nth (program Script) h = refl
stated_nth (program Module) h = refl
stated_nth (program FunctionBody) h = refl
stated_nth (program Directive) h = refl
stated_nth (program ImportBare) h = refl
stated_nth (program Import) h = refl
stated_nth (program ImportAll) h = refl
stated_nth (program ImportList) h = refl
stated_nth (program ImportBoth) h = refl
stated_nth (program ExportAll) h = refl
stated_nth (program ExportAllAs) h = refl
stated_nth (program ExportDecl) h = refl
stated_nth (program ExportDefaultFn) h = refl
stated_nth (program ExportDefaultExpr) h = refl
stated_nth (program ExportNames) h = refl
stated_nth (program (Specifier Imported)) h = refl
stated_nth (program (Specifier Exported)) h = refl
stated_nth (program (Specifier From)) h = refl
stated_nth (program (SpecifierAs Imported)) h = refl
stated_nth (program (SpecifierAs Exported)) h = refl
stated_nth (program (SpecifierAs From)) h = refl
stated_nth (statement Block) h = refl
stated_nth (statement (Var VarWord)) h = refl
stated_nth (statement (Var LetWord)) h = refl
stated_nth (statement (Var ConstWord)) h = refl
stated_nth (statement Declarator) h = refl
stated_nth (statement Empty) h = refl
stated_nth (statement ExprStmt) h = refl
stated_nth (statement If) h = refl
stated_nth (statement Do) h = refl
stated_nth (statement While) h = refl
stated_nth (statement Continue) h = refl
stated_nth (statement Break) h = refl
stated_nth (statement Return) h = refl
stated_nth (statement Throw) h = refl
stated_nth (statement Debugger) h = refl
stated_nth (statement Label) h = refl
stated_nth (statement Switch) h = refl
stated_nth (statement Case) h = refl
stated_nth (statement Default) h = refl
stated_nth (statement Try) h = refl
stated_nth (statement Catch) h = refl
stated_nth (statement FunctionDecl) h = refl
stated_nth (program ExportFrom) h = refl
stated_nth (statement For) h = refl
stated_nth (statement (ForDeclaration VarWord)) h = refl
stated_nth (statement (ForDeclaration LetWord)) h = refl
stated_nth (statement (ForDeclaration ConstWord)) h = refl
stated_nth (statement ForIn) h = refl
stated_nth (statement ForOf) h = refl
stated_nth (statement (ForBinding VarWord)) h = refl
stated_nth (statement (ForBinding LetWord)) h = refl
stated_nth (statement (ForBinding ConstWord)) h = refl
stated_nth (statement ClassDecl) h = refl
stated_nth (function (Method InClass)) h = refl
stated_nth (function (Method Static)) h = refl
stated_nth (function (Getter InClass)) h = refl
stated_nth (function (Getter Static)) h = refl
stated_nth (function (Setter InClass)) h = refl
stated_nth (function (Setter Static)) h = refl
stated_nth (function (Field InClass)) h = refl
stated_nth (function (Field Static)) h = refl
stated_nth (function FunctionExpr) h = refl
stated_nth (function ClassExpr) h = refl
stated_nth (program ExportDefaultClass) h = refl
stated_nth (function (Method InObject)) h = refl
stated_nth (function (Getter InObject)) h = refl
stated_nth (function (Setter InObject)) h = refl
stated_nth _ h = cc

every_nth : (p : Kind → Bool) (ks : List Kind) (n : ℕ) → p (nth [] 0) ≡ true → every p ks ≡ true → p (nth ks n) ≡ true
every_nth p [] n d e = d
every_nth p (k ∷ ks) zero d e = and_left (p k) (every p ks) e
every_nth p (k ∷ ks) (suc n) d e = every_nth p ks n d (and_right (p k) (every p ks) e)

-- a test of each of these kinds holds of any of them
pub for_stated : (p : Kind → Bool) → every p stated_kinds ≡ true → (k : Kind) → stated k ≡ true → p k ≡ true
for_stated p e k s = subst (λ l. p l ≡ true) (stated_nth k s) (every_nth p stated_kinds (place k) (and_left (p (nth [] 0)) _ e) e)
