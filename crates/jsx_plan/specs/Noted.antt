-- The code's tree as a tree of the grammar, with the places of its calls.
use Rattle.jsx_tree.specs.Kinds.{Role, Tree}
use Rattle.jsx_tree.specs.View.{Owner, view_access, view_control, view_expr, view_key, view_link, view_member, view_operation, view_pattern, view_stmt}
use Rattle.jsx_tree.specs.ViewProgram.{view, view_item}
use Rattle.jsx_tree.specs.Told.{told, told_access, told_control, told_expr, told_item, told_key, told_link, told_operation, told_pat, told_prop, told_stmt}
use Rattle.jsx_tree.specs.declared.program.Item.{Item}
use Rattle.jsx_tree.specs.declared.program.Program.{Program}
use Rattle.jsx_tree.specs.declared.tree.Access.{Access}
use Rattle.jsx_tree.specs.declared.tree.Control.{Control}
use Rattle.jsx_tree.specs.declared.tree.Expr.{Expr}
use Rattle.jsx_tree.specs.declared.tree.Key.{Key}
use Rattle.jsx_tree.specs.declared.tree.Link.{Link}
use Rattle.jsx_tree.specs.declared.tree.Operation.{Operation}
use Rattle.jsx_tree.specs.declared.tree.Pat.{Pat}
use Rattle.jsx_tree.specs.declared.tree.Prop.{Prop}
use Rattle.jsx_tree.specs.declared.tree.Stmt.{Stmt}
use Rattle.jsx_pen.specs.Calls.{noted}

unfoldable pub noted_expr : Expr → Tree
noted_expr x = noted (view_expr x) (told_expr x)

unfoldable pub noted_operation : Operation → Tree
noted_operation x = noted (view_operation x) (told_operation x)

unfoldable pub noted_access : Access → Tree
noted_access x = noted (view_access x) (told_access x)

unfoldable pub noted_link : Link → Tree
noted_link x = noted (view_link x) (told_link x)

unfoldable pub noted_key : Key → Tree
noted_key x = noted (view_key x) (told_key x)

unfoldable pub noted_stmt : Stmt → Tree
noted_stmt x = noted (view_stmt x) (told_stmt x)

unfoldable pub noted_control : Control → Tree
noted_control x = noted (view_control x) (told_control x)

unfoldable pub noted_item : Item → Tree
noted_item x = noted (view_item x) (told_item x)

unfoldable pub noted_member : Prop → Owner → Tree
noted_member x o = noted (view_member x o) (told_prop x)

unfoldable pub noted_pattern : Pat → Role → Tree
noted_pattern x r = noted (view_pattern x r) (told_pat x)

unfoldable pub noted_program : Program → Tree
noted_program x = noted (view x) (told x)
