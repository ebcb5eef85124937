use Rattle.std.proofs.Common.{true, false, map, sym, ◌∙◌, ap}
use Rattle.jsx_tree.specs.StaticRules.{members_rule}
use Rattle.jsx_tree.specs.View.{forest, inside, optional_of, view_expr}
use Rattle.jsx_make.specs.Members.{view_class_member}
use Rattle.jsx_operand.proofs.Steps.{passed}
use Rattle.jsx_function.proofs.Inside.{passed_as}
use Rattle.jsx_function.proofs.Classes.{class_kept, class_misruled, class_no_brace, class_no_members, class_only, class_placed, here_is}
use Rattle.jsx_function.proofs.Keyed.{no_row_in, row_in}
use Rattle.jsx_function.proofs.grammar.Within.class_code.Goals as goal

pub returns-in_err-heritage-clause-refused : goal.returns-in_err-heritage-clause-refused
returns-in_err-heritage-clause-refused g c = passed _ c.in_err-heritage.ensures.refused c.from_residual.ensures.1 (λ n. n)

pub returns-in_err-expect-clause-refused : goal.returns-in_err-expect-clause-refused
returns-in_err-expect-clause-refused g c = passed _ c.in_err-expect.ensures.refused c.from_residual-in_err-expect.ensures.1 (λ b. class_no_brace c.in_ok-heritage.ensures.read b)

pub returns-in_err-members-clause-refused : goal.returns-in_err-members-clause-refused
returns-in_err-members-clause-refused g c = passed_as _ c.of_members.ensures.levels c.in_err-members.ensures.refused c.from_residual-in_err-members.ensures.1
    (λ n. class_no_members c.in_ok-heritage.ensures.read (here_is c.in_ok-heritage.heritage c.is_some.ensures) c.in_ok-expect.ensures.read (no_row_in c.of_members.ensures.around n))

pub returns-then-not-are_members-clause-refused : goal.returns-then-not-are_members-clause-refused
returns-then-not-are_members-clause-refused g c = record {
  bars = λ _ _ _. class_misruled (class_only c.in_ok-heritage.ensures.read (here_is c.in_ok-heritage.heritage c.is_some.ensures) c.in_ok-expect.ensures.read (row_in c.of_members.ensures.around c.in_ok-members.ensures.read))
      (ap (λ xs. members_rule (forest (map (inside view_class_member) xs))) (sym c.deref.ensures.value) ∙ (sym c.are_members.ensures ∙ c.if-not-are_members.true));
}

pub returns-clause-read : goal.returns-clause-read
returns-clause-read g c = class_only c.in_ok-heritage.ensures.read (here_is c.in_ok-heritage.heritage c.is_some.ensures) c.in_ok-expect.ensures.read (row_in c.of_members.ensures.around c.in_ok-members.ensures.read)

pub returns-clause-kept : goal.returns-clause-kept
returns-clause-kept g c = class_kept (optional_of view_expr c.in_ok-heritage.heritage) (forest (map (inside view_class_member) c.in_ok-members.members.items)) c.in_ok-heritage.ensures.plain (ap (λ xs. members_rule (forest (map (inside view_class_member) xs))) (sym c.deref.ensures.value) ∙ (sym c.are_members.ensures ∙ c.if-not-are_members.false))

pub returns-clause-placed : goal.returns-clause-placed
returns-clause-placed g c = class_placed c.in_ok-heritage.ensures.placed c.in_ok-expect.ensures.takes c.in_ok-members.ensures.placed
