-- The members of an object and of a class as trees.
use Rattle.jsx_tree.specs.declared.tree.Prop.{Prop}
use Rattle.jsx_tree.specs.Kinds.{Tree}
use Rattle.jsx_tree.specs.View.{OfClass, OfObject, view_member}

-- a member of an object
abbrev pub view_prop : Prop → Tree
view_prop m = view_member m OfObject

-- a member of a class
abbrev pub view_class_member : Prop → Tree
view_class_member m = view_member m OfClass
