use Rattle.jsx_tree.specs.Told.{told_item}
use Rattle.jsx_tree.specs.ViewProgram.{view_item}
use Rattle.jsx_names.specs.Events.{Plain}
use Rattle.jsx_heard.specs.Said.{Unnamed, Elsewhere, met_all}
use Rattle.jsx_heard.proofs.Hearing.{said_more, said_all}
use Rattle.jsx_heard.proofs.walk.Walker.items.Goals as goal

pub loop-item-preserved : goal.loop-item-preserved
loop-item-preserved c = record { so = said_more Plain Unnamed Elsewhere view_item told_item c.args.items.now c.loop-item.item-index c.item-item.result (met_all c.args.events.now.items) (met_all c.loop-item.events.items) (met_all c.item.new.events.items) c.loop-item-test.true c.item-item.is c.loop-item.invariant.so c.in_ok-item.ensures }

pub returns : goal.returns
returns c = said_all Plain Unnamed Elsewhere view_item told_item c.args.items.now c.loop-item.item-index (met_all c.args.events.now.items) (met_all c.loop-item.events.items) c.loop-item-test.false c.loop-item.invariant.so
