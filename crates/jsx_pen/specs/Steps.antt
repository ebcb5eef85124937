-- What a step does to a pen.
use Rattle.std.specs.Prelude.{codes}
use Rattle.jsx_pen.specs.declared.step.Step.{Step}
use Rattle.jsx_pen.specs.declared.step.Step.TheVariants as step
use Rattle.jsx_pen.specs.Pen.{State, indented, inked, lined, outdented, padded, parted, unindented}

abbrev pub stepped : Step → State → State
stepped step.Pad p = padded p
stepped step.Line p = lined p
stepped step.Indent p = indented p
stepped step.Outdent p = outdented p
stepped step.Unindent p = unindented p
stepped step.Plus p = parted (inked p (codes "+"))
stepped step.Minus p = parted (inked p (codes "-"))
