use Rattle.std.proofs.Common.{refl}
use Rattle.jsx_tree.specs.Told.{told_pat}
use Rattle.jsx_visit.proofs.Keeping.{kept_made}
use Rattle.jsx_visit.proofs.walk.Walker.closed.Goals as goal

pub returns-then-paired-clause-places : goal.returns-then-paired-clause-places
returns-then-paired-clause-places g c = kept_made c.target.result g.V.Visitor.keeps (told_pat c.target.new.target.value) (told_pat c.args.pattern.now.value) (told_pat c.args.pattern.now.value) refl c.target.ensures.places
