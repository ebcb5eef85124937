use Rattle.std.proofs.Common.{◌≡◌, ◌++◌, map, take}
use Rattle.jsx_tree.specs.Kinds.{Imported}
use Rattle.jsx_tree.specs.Scopes.{AsLexical}
use Rattle.jsx_tree.specs.View.{forest}
use Rattle.jsx_tree.specs.ViewProgram.{view_specifier}
use Rattle.jsx_tree.specs.Told.{tales, told_specifier}
use Rattle.jsx_names.specs.Events.{Binding, Simply}
use Rattle.jsx_heard.specs.Said.{Idents, Elsewhere, said_each, met_all}
use Rattle.jsx_heard.proofs.imports.imported.Given as goal

abbrev pub invariant-loop-specifier : goal.invariant-loop-specifier
invariant-loop-specifier l = record { so : met_all l.events.items ≡ met_all l.fn.events.items ++ said_each (Binding Simply AsLexical) Idents Elsewhere (forest (map (view_specifier Imported) (take l.specifier-index l.specifiers))) (tales (map told_specifier (take l.specifier-index l.specifiers))) }
