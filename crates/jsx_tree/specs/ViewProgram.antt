-- Programs and items of the code as trees of the grammar: one line a variant.
use Rattle.std.specs.Prelude.{map}
use Rattle.jsx_base.specs.Token as token
use Rattle.jsx_tree.specs.Kinds.{Side, Imported, Exported, From, Binds, Module, Script, ImportBare, Import, ImportAll, ImportList, ImportBoth, Specifier, SpecifierAs, ExportNames, ExportFrom, ExportAll, ExportAllAs, ExportDecl, ExportDefaultFn, ExportDefaultClass, ExportDefaultExpr, program, Tree, leaf, node, list, none, part}
use Rattle.jsx_tree.specs.declared.text.Text.{Text}
use Rattle.jsx_tree.specs.declared.program.Specifier as declared
use Rattle.jsx_tree.specs.declared.program.Specifier.TheVariants as specifier
use Rattle.jsx_tree.specs.declared.program.ImportClause.{ImportClause}
use Rattle.jsx_tree.specs.declared.program.ImportClause.TheVariants as import_clause
use Rattle.jsx_tree.specs.declared.program.ImportNames.{ImportNames}
use Rattle.jsx_tree.specs.declared.program.ImportNames.TheVariants as import_names
use Rattle.jsx_tree.specs.declared.program.Item.{Item}
use Rattle.jsx_tree.specs.declared.program.Item.TheVariants as item
use Rattle.jsx_tree.specs.declared.program.Program.{Program}
use Rattle.jsx_tree.specs.declared.program.Program.TheVariants as programs
use Rattle.jsx_tree.specs.View.{text_of, word, name_of, optional_name, inside, forest, forest_at, directive, view_expr, view_stmt, view_pattern, body}

abbrev pub source_of : Text → Tree
source_of a = leaf token.StringLiteral (text_of a)

abbrev pub view_specifier : Side → declared.Specifier → Tree
view_specifier s (specifier.Same at a) = node (program (Specifier s)) (part (word a) none)
view_specifier s (specifier.As at a b) = node (program (SpecifierAs s)) (part (word a) (part (word b) none))

abbrev pub view_import_names : ImportNames → Tree
view_import_names (import_names.All at a) = node (program ImportAll) (part (name_of a) none)
view_import_names (import_names.List at ss) = node (program ImportList) (part (list (forest (map (view_specifier Imported) ss.items))) none)

abbrev pub view_import_clause : ImportClause → Tree
view_import_clause (import_clause.Default a) = name_of a
view_import_clause (import_clause.Names a) = view_import_names a
view_import_clause (import_clause.Both at a b) = node (program ImportBoth) (part (name_of a) (part (view_import_names b) none))

abbrev pub view_item : Item → Tree
view_item (item.Stmt s) = view_stmt s.value
view_item (item.ImportBare at a) = node (program ImportBare) (part (source_of a) none)
view_item (item.Import at c a) = node (program Import) (part (view_import_clause c) (part (source_of a) none))
view_item (item.ExportNames at ss) = node (program ExportNames) (part (list (forest (map (view_specifier Exported) ss.items))) none)
view_item (item.ExportFrom at ss a) = node (program ExportFrom) (part (list (forest (map (view_specifier From) ss.items))) (part (source_of a) none))
view_item (item.ExportAll at a) = node (program ExportAll) (part (source_of a) none)
view_item (item.ExportAllAs at a b) = node (program ExportAllAs) (part (word a) (part (source_of b) none))
view_item (item.ExportDecl at s) = node (program ExportDecl) (part (view_stmt s.value) none)
view_item (item.ExportDefaultFn at b a ps ds ss) = node (program ExportDefaultFn) (part (optional_name a) (part (list (forest_at Binds (map (inside view_pattern) ps.items))) (part (body ds.items (map (inside view_stmt) ss.items)) none)))
view_item (item.ExportDefaultClass at b c) = node (program ExportDefaultClass) (part (view_expr c.value) none)
view_item (item.ExportDefaultExpr at b e) = node (program ExportDefaultExpr) (part (view_expr e.value) none)

abbrev pub view : Program → Tree
view (programs.Module m) = node (program Module) (part (list (forest (map directive m.directives.items))) (part (list (forest (map view_item m.body.items))) none))
view (programs.Script m) = node (program Script) (part (list (forest (map directive m.directives.items))) (part (list (forest (map (inside view_stmt) m.body.items))) none))
