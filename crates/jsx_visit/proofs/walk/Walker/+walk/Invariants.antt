use Rattle.std.proofs.Common.{◌+◌, ◌*◌}
use Rattle.std.proofs.Common.{◌≡◌, map}
use Rattle.jsx_tree.specs.Kinds.{Binds, Assigns}
use Rattle.jsx_tree.specs.View.{OfObject, OfClass, inside, view_expr, view_stmt, view_control, view_link}
use Rattle.jsx_tree.specs.Told.{told_expr, told_stmt, told_link, told_control, told_prop, told_pat}
use Rattle.jsx_visit.specs.Visit.{visited}
use Rattle.jsx_visit.specs.Parts.{seen_at, member_at, kept_each}
use Rattle.jsx_base.proofs.Spans.{MappedTo}
use Rattle.jsx_visit.proofs.walk.Walker.+walk.Given as goal

abbrev pub invariant-controls-loop-control : goal.invariant-controls-loop-control
invariant-controls-loop-control g l = record {
  seen : MappedTo (visited g.V.Visitor.made) l.control-index (map (inside view_control) l.initial.control-items) (map (inside view_control) l.control-items);
  places : kept_each g.V.Visitor.keeps (inside told_control) l.control-items ≡ kept_each g.V.Visitor.keeps (inside told_control) l.initial.control-items;
}

abbrev pub invariant-exprs-loop-expr : goal.invariant-exprs-loop-expr
invariant-exprs-loop-expr g l = record {
  seen : MappedTo (visited g.V.Visitor.made) l.expr-index (map (inside view_expr) l.initial.expr-items) (map (inside view_expr) l.expr-items);
  places : kept_each g.V.Visitor.keeps (inside told_expr) l.expr-items ≡ kept_each g.V.Visitor.keeps (inside told_expr) l.initial.expr-items;
}

abbrev pub invariant-links-loop-link : goal.invariant-links-loop-link
invariant-links-loop-link g l = record {
  seen : MappedTo (visited g.V.Visitor.made) l.link-index (map (inside view_link) l.initial.link-items) (map (inside view_link) l.link-items);
  places : kept_each g.V.Visitor.keeps (inside told_link) l.link-items ≡ kept_each g.V.Visitor.keeps (inside told_link) l.initial.link-items;
}

abbrev pub invariant-stmts-loop-stmt : goal.invariant-stmts-loop-stmt
invariant-stmts-loop-stmt g l = record {
  seen : MappedTo (visited g.V.Visitor.made) l.stmt-index (map (inside view_stmt) l.initial.stmt-items) (map (inside view_stmt) l.stmt-items);
  places : kept_each g.V.Visitor.keeps (inside told_stmt) l.stmt-items ≡ kept_each g.V.Visitor.keeps (inside told_stmt) l.initial.stmt-items;
}

abbrev pub invariant-members-loop-member : goal.invariant-members-loop-member
invariant-members-loop-member g l = record {
  of_object : MappedTo (visited g.V.Visitor.made) l.member-index (map (member_at OfObject) l.initial.member-items) (map (member_at OfObject) l.member-items);
  of_class : MappedTo (visited g.V.Visitor.made) l.member-index (map (member_at OfClass) l.initial.member-items) (map (member_at OfClass) l.member-items);
  places : kept_each g.V.Visitor.keeps (inside told_prop) l.member-items ≡ kept_each g.V.Visitor.keeps (inside told_prop) l.initial.member-items;
}

abbrev pub invariant-patterns-loop-pattern : goal.invariant-patterns-loop-pattern
invariant-patterns-loop-pattern g l = record {
  binds : MappedTo (visited g.V.Visitor.made) l.pattern-index (map (seen_at Binds) l.initial.pattern-items) (map (seen_at Binds) l.pattern-items);
  assigns : MappedTo (visited g.V.Visitor.made) l.pattern-index (map (seen_at Assigns) l.initial.pattern-items) (map (seen_at Assigns) l.pattern-items);
  places : kept_each g.V.Visitor.keeps (inside told_pat) l.pattern-items ≡ kept_each g.V.Visitor.keeps (inside told_pat) l.initial.pattern-items;
}

abbrev pub decreases-expr : goal.decreases-expr
decreases-expr g l = 16 * l.self.levels + 0

abbrev pub decreases-stmt : goal.decreases-stmt
decreases-stmt g l = 16 * l.self.levels + 0

abbrev pub decreases-control : goal.decreases-control
decreases-control g l = 16 * l.self.levels + 0

abbrev pub decreases-pattern : goal.decreases-pattern
decreases-pattern g l = 16 * l.self.levels + 0

abbrev pub decreases-optional : goal.decreases-optional
decreases-optional g l = 16 * l.self.levels + 1

abbrev pub decreases-exprs : goal.decreases-exprs
decreases-exprs g l = 16 * l.self.levels + 1

abbrev pub decreases-stmts : goal.decreases-stmts
decreases-stmts g l = 16 * l.self.levels + 1

abbrev pub decreases-optional_stmt : goal.decreases-optional_stmt
decreases-optional_stmt g l = 16 * l.self.levels + 1

abbrev pub decreases-controls : goal.decreases-controls
decreases-controls g l = 16 * l.self.levels + 1

abbrev pub decreases-optional_control : goal.decreases-optional_control
decreases-optional_control g l = 16 * l.self.levels + 1

abbrev pub decreases-optional_pattern : goal.decreases-optional_pattern
decreases-optional_pattern g l = 16 * l.self.levels + 1

abbrev pub decreases-patterns : goal.decreases-patterns
decreases-patterns g l = 16 * l.self.levels + 1

abbrev pub decreases-key : goal.decreases-key
decreases-key g l = 16 * l.self.levels + 1

abbrev pub decreases-link : goal.decreases-link
decreases-link g l = 16 * l.self.levels + 2

abbrev pub decreases-links : goal.decreases-links
decreases-links g l = 16 * l.self.levels + 3

abbrev pub decreases-first_of_member : goal.decreases-first_of_member
decreases-first_of_member g l = 16 * l.self.levels + 3

abbrev pub decreases-second_of_member : goal.decreases-second_of_member
decreases-second_of_member g l = 16 * l.self.levels + 3

abbrev pub decreases-third_of_member : goal.decreases-third_of_member
decreases-third_of_member g l = 16 * l.self.levels + 3

abbrev pub decreases-member : goal.decreases-member
decreases-member g l = 16 * l.self.levels + 4

abbrev pub decreases-members : goal.decreases-members
decreases-members g l = 16 * l.self.levels + 5

abbrev pub decreases-first_of_pattern : goal.decreases-first_of_pattern
decreases-first_of_pattern g l = 16 * l.self.levels + 2

abbrev pub decreases-second_of_pattern : goal.decreases-second_of_pattern
decreases-second_of_pattern g l = 16 * l.self.levels + 2

abbrev pub decreases-parts_of_pattern : goal.decreases-parts_of_pattern
decreases-parts_of_pattern g l = 16 * l.self.levels + 3

abbrev pub decreases-first_of_operation : goal.decreases-first_of_operation
decreases-first_of_operation g l = 16 * l.self.levels + 2

abbrev pub decreases-second_of_operation : goal.decreases-second_of_operation
decreases-second_of_operation g l = 16 * l.self.levels + 3

abbrev pub decreases-third_of_operation : goal.decreases-third_of_operation
decreases-third_of_operation g l = 16 * l.self.levels + 1

abbrev pub decreases-operation : goal.decreases-operation
decreases-operation g l = 16 * l.self.levels + 4

abbrev pub decreases-first_of_access : goal.decreases-first_of_access
decreases-first_of_access g l = 16 * l.self.levels + 2

abbrev pub decreases-second_of_access : goal.decreases-second_of_access
decreases-second_of_access g l = 16 * l.self.levels + 4

abbrev pub decreases-access : goal.decreases-access
decreases-access g l = 16 * l.self.levels + 5

abbrev pub decreases-first_of_expr : goal.decreases-first_of_expr
decreases-first_of_expr g l = 16 * l.self.levels + 6

abbrev pub decreases-second_of_expr : goal.decreases-second_of_expr
decreases-second_of_expr g l = 16 * l.self.levels + 2

abbrev pub decreases-third_of_expr : goal.decreases-third_of_expr
decreases-third_of_expr g l = 16 * l.self.levels + 6

abbrev pub decreases-parts : goal.decreases-parts
decreases-parts g l = 16 * l.self.levels + 7

abbrev pub decreases-first_of_stmt : goal.decreases-first_of_stmt
decreases-first_of_stmt g l = 16 * l.self.levels + 2

abbrev pub decreases-second_of_stmt : goal.decreases-second_of_stmt
decreases-second_of_stmt g l = 16 * l.self.levels + 2

abbrev pub decreases-third_of_stmt : goal.decreases-third_of_stmt
decreases-third_of_stmt g l = 16 * l.self.levels + 6

abbrev pub decreases-parts_of_stmt : goal.decreases-parts_of_stmt
decreases-parts_of_stmt g l = 16 * l.self.levels + 7

abbrev pub decreases-first_of_control : goal.decreases-first_of_control
decreases-first_of_control g l = 16 * l.self.levels + 2

abbrev pub decreases-second_of_control : goal.decreases-second_of_control
decreases-second_of_control g l = 16 * l.self.levels + 2

abbrev pub decreases-third_of_control : goal.decreases-third_of_control
decreases-third_of_control g l = 16 * l.self.levels + 2

abbrev pub decreases-fourth_of_control : goal.decreases-fourth_of_control
decreases-fourth_of_control g l = 16 * l.self.levels + 1
