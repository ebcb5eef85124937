use Rattle.std.proofs.Common.{◌+◌, sym, subst}
use Rattle.jsx_names.proofs.Shadowing.{Showing, showing_begins, showing_adds, showing_passes, shown_binds, shown_back}
use Rattle.jsx_names.proofs.binding.show_all.Goals as goal
use Rattle.jsx_names.proofs.binding.show_all.Goals.{then-shows+in_ok-show, else-shows}

pub loop-kept-init : goal.loop-kept-init
loop-kept-init c = showing_begins c.args.is_behind c.args.scope.1 c.args.scope.0 c.args.list.now c.args.bound.now c.args.saved.now.items

pub returns-clause-bound : goal.returns-clause-bound
returns-clause-bound c = shown_binds c.args.is_behind c.args.scope.1 c.args.scope.0 c.args.list.now c.loop-kept.kept-index c.args.bound.now c.loop-kept.bound c.args.saved.now.items c.loop-kept.saved.items c.loop-kept-test.false c.loop-kept.invariant

pub returns-clause-saved : goal.returns-clause-saved
returns-clause-saved c = shown_back c.args.is_behind c.args.scope.1 c.args.scope.0 c.args.list.now c.loop-kept.kept-index c.args.bound.now c.loop-kept.bound c.args.saved.now.items c.loop-kept.saved.items c.loop-kept-test.false c.loop-kept.invariant

pub loop-kept-preserved : goal.loop-kept-preserved
loop-kept-preserved c = elim c.if-shows.branch [
  | then-shows+in_ok-show w ↦
      subst (λ z. Showing c.args.is_behind c.args.scope.1 c.args.scope.0 c.args.list.now (c.loop-kept.kept-index + 1) c.args.bound.now z c.args.saved.now.items c.if-shows.saved.items) (sym w.bound-is)
      (subst (λ z. Showing c.args.is_behind c.args.scope.1 c.args.scope.0 c.args.list.now (c.loop-kept.kept-index + 1) c.args.bound.now w.show.new.bound c.args.saved.now.items z.items) (sym w.saved-is)
      (showing_adds c.args.is_behind c.args.scope.1 c.args.scope.0 c.args.list.now c.loop-kept.kept-index _ c.shows.result c.args.bound.now c.loop-kept.bound w.show.new.bound c.args.saved.now.items c.loop-kept.saved.items w.show.new.saved.items
      c.loop-kept-test.true c.shows.ensures w.if-shows.true w.in_ok-show.ensures.utf8 c.loop-kept.invariant w.in_ok-show.ensures.bound w.in_ok-show.ensures.saved))
  | else-shows w ↦
      subst (λ z. Showing c.args.is_behind c.args.scope.1 c.args.scope.0 c.args.list.now (c.loop-kept.kept-index + 1) c.args.bound.now z c.args.saved.now.items c.if-shows.saved.items) (sym w.bound-is)
      (subst (λ z. Showing c.args.is_behind c.args.scope.1 c.args.scope.0 c.args.list.now (c.loop-kept.kept-index + 1) c.args.bound.now c.loop-kept.bound c.args.saved.now.items z.items) (sym w.saved-is)
      (showing_passes c.args.is_behind c.args.scope.1 c.args.scope.0 c.args.list.now c.loop-kept.kept-index _ c.shows.result c.args.bound.now c.loop-kept.bound c.args.saved.now.items c.loop-kept.saved.items
      c.loop-kept-test.true c.shows.ensures w.if-shows.false c.loop-kept.invariant))
]
