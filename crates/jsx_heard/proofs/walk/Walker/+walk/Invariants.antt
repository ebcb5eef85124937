use Rattle.std.proofs.Common.{◌≡◌, ◌+◌, ◌*◌, ◌++◌, map, take}
use Rattle.jsx_tree.specs.Kinds.{ObjectPat, function}
use Rattle.jsx_tree.specs.Nonterminals.{PatProp}
use Rattle.jsx_tree.specs.View.{inside, forest, forest_at, members_of_class, members_of_object, view_control, view_expr, view_jsx, view_link, view_member, view_pattern, view_stmt}
use Rattle.jsx_tree.specs.Told.{tales, told_control, told_expr, told_jsx, told_link, told_pat, told_prop, told_stmt}
use Rattle.jsx_names.specs.Events as events
use Rattle.jsx_heard.specs.Code.{mode_of, role_of}
use Rattle.jsx_heard.specs.Said.{Idents, Unnamed, Elsewhere, met_all, naming, said_each}
use Rattle.jsx_heard.proofs.walk.Walker.+walk.Given as goal

abbrev pub invariant-exprs-loop-expr : goal.invariant-exprs-loop-expr
invariant-exprs-loop-expr l = record { so : met_all l.events.items ≡ met_all l.fn.events.items ++ said_each events.Plain Idents Elsewhere (forest (map (inside view_expr) (take l.expr-index l.exprs))) (tales (map (inside told_expr) (take l.expr-index l.exprs))) }

abbrev pub invariant-links-loop-link : goal.invariant-links-loop-link
invariant-links-loop-link l = record { so : met_all l.events.items ≡ met_all l.fn.events.items ++ said_each events.Plain Unnamed Elsewhere (forest (map (inside view_link) (take l.link-index l.links))) (tales (map (inside told_link) (take l.link-index l.links))) }

abbrev pub invariant-stmts-loop-stmt : goal.invariant-stmts-loop-stmt
invariant-stmts-loop-stmt l = record { so : met_all l.events.items ≡ met_all l.fn.events.items ++ said_each events.Plain Unnamed Elsewhere (forest (map (inside view_stmt) (take l.stmt-index l.stmts))) (tales (map (inside told_stmt) (take l.stmt-index l.stmts))) }

abbrev pub invariant-controls-loop-control : goal.invariant-controls-loop-control
invariant-controls-loop-control l = record { so : met_all l.events.items ≡ met_all l.fn.events.items ++ said_each events.Plain Unnamed Elsewhere (forest (map (inside view_control) (take l.control-index l.controls))) (tales (map (inside told_control) (take l.control-index l.controls))) }

abbrev pub invariant-jsxs-loop-jsx : goal.invariant-jsxs-loop-jsx
invariant-jsxs-loop-jsx l = record { so : met_all l.events.items ≡ met_all l.fn.events.items ++ said_each events.Plain Unnamed Elsewhere (forest (map (inside view_jsx) (take l.jsx-index l.jsxs))) (tales (map (inside told_jsx) (take l.jsx-index l.jsxs))) }

abbrev pub invariant-members-loop-member : goal.invariant-members-loop-member
invariant-members-loop-member l = record {
  of_object : met_all l.events.items ≡ met_all l.fn.events.items ++ said_each events.Plain Unnamed Elsewhere (members_of_object (map (inside view_member) (take l.member-index l.members))) (tales (map (inside told_prop) (take l.member-index l.members)));
  of_class : met_all l.events.items ≡ met_all l.fn.events.items ++ said_each events.Plain Unnamed Elsewhere (members_of_class (map (inside view_member) (take l.member-index l.members))) (tales (map (inside told_prop) (take l.member-index l.members)));
}

abbrev pub invariant-patterns-loop-pattern : goal.invariant-patterns-loop-pattern
invariant-patterns-loop-pattern l = record { so : met_all l.events.items ≡ met_all l.fn.events.items ++ said_each (mode_of l.mode) Idents Elsewhere (forest_at (role_of l.mode) (map (inside view_pattern) (take l.pattern-index l.patterns))) (tales (map (inside told_pat) (take l.pattern-index l.patterns))) }

abbrev pub invariant-properties-loop-property : goal.invariant-properties-loop-property
invariant-properties-loop-property l = record { so : met_all l.events.items ≡ met_all l.fn.events.items ++ said_each (mode_of l.mode) (naming (function (ObjectPat (role_of l.mode))) (PatProp (role_of l.mode))) Elsewhere (forest_at (role_of l.mode) (map (inside view_pattern) (take l.property-index l.properties))) (tales (map (inside told_pat) (take l.property-index l.properties))) }

abbrev pub decreases-expr : goal.decreases-expr
decreases-expr l = 16 * l.self.levels + 0

abbrev pub decreases-stmt : goal.decreases-stmt
decreases-stmt l = 16 * l.self.levels + 0

abbrev pub decreases-control : goal.decreases-control
decreases-control l = 16 * l.self.levels + 0

abbrev pub decreases-pattern : goal.decreases-pattern
decreases-pattern l = 16 * l.self.levels + 0

abbrev pub decreases-jsx : goal.decreases-jsx
decreases-jsx l = 16 * l.self.levels + 0

abbrev pub decreases-exprs : goal.decreases-exprs
decreases-exprs l = 16 * l.self.levels + 1

abbrev pub decreases-stmts : goal.decreases-stmts
decreases-stmts l = 16 * l.self.levels + 1

abbrev pub decreases-controls : goal.decreases-controls
decreases-controls l = 16 * l.self.levels + 1

abbrev pub decreases-patterns : goal.decreases-patterns
decreases-patterns l = 16 * l.self.levels + 1

abbrev pub decreases-optional : goal.decreases-optional
decreases-optional l = 16 * l.self.levels + 1

abbrev pub decreases-optional_stmt : goal.decreases-optional_stmt
decreases-optional_stmt l = 16 * l.self.levels + 1

abbrev pub decreases-optional_control : goal.decreases-optional_control
decreases-optional_control l = 16 * l.self.levels + 1

abbrev pub decreases-optional_pattern : goal.decreases-optional_pattern
decreases-optional_pattern l = 16 * l.self.levels + 1

abbrev pub decreases-optional_jsx : goal.decreases-optional_jsx
decreases-optional_jsx l = 16 * l.self.levels + 1

abbrev pub decreases-jsxs : goal.decreases-jsxs
decreases-jsxs l = 16 * l.self.levels + 1

abbrev pub decreases-key : goal.decreases-key
decreases-key l = 16 * l.self.levels + 1

abbrev pub decreases-target : goal.decreases-target
decreases-target l = 16 * l.self.levels + 1

abbrev pub decreases-caught_body : goal.decreases-caught_body
decreases-caught_body l = 16 * l.self.levels + 2

abbrev pub decreases-link : goal.decreases-link
decreases-link l = 16 * l.self.levels + 2

abbrev pub decreases-code : goal.decreases-code
decreases-code l = 16 * l.self.levels + 2

abbrev pub decreases-bare_code : goal.decreases-bare_code
decreases-bare_code l = 16 * l.self.levels + 2

abbrev pub decreases-arrow : goal.decreases-arrow
decreases-arrow l = 16 * l.self.levels + 2

abbrev pub decreases-bare_arrow : goal.decreases-bare_arrow
decreases-bare_arrow l = 16 * l.self.levels + 2

abbrev pub decreases-setter : goal.decreases-setter
decreases-setter l = 16 * l.self.levels + 2

abbrev pub decreases-block : goal.decreases-block
decreases-block l = 16 * l.self.levels + 2

abbrev pub decreases-attempt : goal.decreases-attempt
decreases-attempt l = 16 * l.self.levels + 2

abbrev pub decreases-for_loop : goal.decreases-for_loop
decreases-for_loop l = 16 * l.self.levels + 2

abbrev pub decreases-for_each : goal.decreases-for_each
decreases-for_each l = 16 * l.self.levels + 2

abbrev pub decreases-switch : goal.decreases-switch
decreases-switch l = 16 * l.self.levels + 2

abbrev pub decreases-caught : goal.decreases-caught
decreases-caught l = 16 * l.self.levels + 3

abbrev pub decreases-assignment : goal.decreases-assignment
decreases-assignment l = 16 * l.self.levels + 2

abbrev pub decreases-links : goal.decreases-links
decreases-links l = 16 * l.self.levels + 3

abbrev pub decreases-function : goal.decreases-function
decreases-function l = 16 * l.self.levels + 3

abbrev pub decreases-member : goal.decreases-member
decreases-member l = 16 * l.self.levels + 3

abbrev pub decreases-operation : goal.decreases-operation
decreases-operation l = 16 * l.self.levels + 3

abbrev pub decreases-members : goal.decreases-members
decreases-members l = 16 * l.self.levels + 4

abbrev pub decreases-access : goal.decreases-access
decreases-access l = 16 * l.self.levels + 4

abbrev pub decreases-inside_class : goal.decreases-inside_class
decreases-inside_class l = 16 * l.self.levels + 5

abbrev pub decreases-named_class : goal.decreases-named_class
decreases-named_class l = 16 * l.self.levels + 6

abbrev pub decreases-class : goal.decreases-class
decreases-class l = 16 * l.self.levels + 7

abbrev pub decreases-template : goal.decreases-template
decreases-template l = 16 * l.self.levels + 2

abbrev pub decreases-getter : goal.decreases-getter
decreases-getter l = 16 * l.self.levels + 2

abbrev pub decreases-unnamed : goal.decreases-unnamed
decreases-unnamed l = 16 * l.self.levels + 1

abbrev pub decreases-assigned_property : goal.decreases-assigned_property
decreases-assigned_property l = 16 * l.self.levels + 2

abbrev pub decreases-property : goal.decreases-property
decreases-property l = 16 * l.self.levels + 3

abbrev pub decreases-properties : goal.decreases-properties
decreases-properties l = 16 * l.self.levels + 4
