-- Where a member stands, in the code and in the tree.
use Rattle.jsx_tree.specs.Kinds as kinds
use Rattle.jsx_print.specs.declared.members.Holder.{Holder}
use Rattle.jsx_print.specs.declared.members.Holder.TheVariants as holder

abbrev pub holder_in : Holder → kinds.Holder
holder_in holder.Object = kinds.InObject
holder_in holder.Class = kinds.InClass
holder_in holder.Static = kinds.Static
