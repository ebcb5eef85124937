use Rattle.std.proofs.Common.{◌∙◌, ap}
use Rattle.jsx_tree.specs.declared.tree.Pat.TheVariants as pat
use Rattle.jsx_tree.specs.Kinds.{ForDeclaration, statement, node, list, none, part}
use Rattle.jsx_tree.specs.View.{view_pattern, word_of}
use Rattle.jsx_tree.specs.Told.{told_pat}
use Rattle.jsx_tree.proofs.Views.{bound_forest, view-Pat-Declaration}
use Rattle.jsx_tree.proofs.Telling.{told-Pat-Declaration}
use Rattle.jsx_make.proofs.Making.{shows, shows_at}
use Rattle.jsx_make.proofs.statements.head_declaration.Goals as goal

pub returns-clause-view : goal.returns-clause-view
returns-clause-view c = shows_at view_pattern c.boxed.result (pat.Declaration c.args.at c.args.word c.args.declarators) c.boxed.ensures (λ r. view-Pat-Declaration c.args.at c.args.word c.args.declarators r ∙ ap (λ ts. node (statement (ForDeclaration (word_of c.args.word))) (part (list ts) none)) (bound_forest c.args.declarators.items))

pub returns-clause-told : goal.returns-clause-told
returns-clause-told c = shows told_pat c.boxed.result (pat.Declaration c.args.at c.args.word c.args.declarators) c.boxed.ensures (told-Pat-Declaration c.args.at c.args.word c.args.declarators)
