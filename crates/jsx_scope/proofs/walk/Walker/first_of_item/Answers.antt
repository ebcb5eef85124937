use Rattle.jsx_scope.proofs.Items.{others_but}
use Rattle.jsx_scope.proofs.walk.Walker.first_of_item.Goals as goal

pub returns-in-ImportBare-3 : goal.returns-in-ImportBare-3
returns-in-ImportBare-3 c = others_but c.args.item.now c.in-ImportBare.is

pub returns-in-ImportBare-4 : goal.returns-in-ImportBare-4
returns-in-ImportBare-4 c = others_but c.args.item.now c.in-ImportBare.is
