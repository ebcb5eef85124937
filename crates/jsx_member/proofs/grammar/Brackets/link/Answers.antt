use Rattle.std.proofs.Common.{◌∙◌}
use Rattle.jsx_tree.specs.Nonterminals.{Name}
use Rattle.jsx_tree.proofs.Rows.Steps.{on}
use Rattle.jsx_operand.proofs.Steps.{passed}
use Rattle.jsx_operand.specs.Links.{plainly}
use Rattle.jsx_member.proofs.Links.{link_as, link_placed, no_link_as, no_plain_call, no_plain_index, no_plain_name, plain_call, plain_index, plain_name}
use Rattle.jsx_operand.specs.declared.link.Linking.TheVariants as linking
use Rattle.jsx_member.proofs.grammar.Brackets.link.Goals as goal

pub returns-in_ok-optional_link-in-Optional-clause-read : goal.returns-in_ok-optional_link-in-Optional-clause-read
returns-in_ok-optional_link-in-Optional-clause-read g c = link_as c.args.linking linking.Optional c.in-Optional.is c.in_ok-optional_link-in-Optional.ensures.read

pub returns-in_ok-optional_link-in-Optional-clause-placed : goal.returns-in_ok-optional_link-in-Optional-clause-placed
returns-in_ok-optional_link-in-Optional-clause-placed g c = link_placed c.args.linking linking.Optional c.in-Optional.is c.in_ok-optional_link-in-Optional.ensures.placed

pub returns-in_err-optional_link-in-Optional-clause-refused : goal.returns-in_err-optional_link-in-Optional-clause-refused
returns-in_err-optional_link-in-Optional-clause-refused g c = passed _ c.in_err-optional_link-in-Optional.ensures.refused c.from_residual.ensures.1 (λ n. no_link_as c.args.linking linking.Optional c.in-Optional.is n)

pub returns-in_ok-name_link-in-Name-clause-read : goal.returns-in_ok-name_link-in-Name-clause-read
returns-in_ok-name_link-in-Name-clause-read g c = link_as c.args.linking linking.Name c.in-Name.is (plain_name c.in_ok-name_link-in-Name.ensures.read)

pub returns-in_ok-name_link-in-Name-clause-placed : goal.returns-in_ok-name_link-in-Name-clause-placed
returns-in_ok-name_link-in-Name-clause-placed g c = link_placed c.args.linking linking.Name c.in-Name.is c.in_ok-name_link-in-Name.ensures.placed

pub returns-in_err-name_link-in-Name-clause-refused : goal.returns-in_err-name_link-in-Name-clause-refused
returns-in_err-name_link-in-Name-clause-refused g c = passed _ c.in_err-name_link-in-Name.ensures.refused c.from_residual-in_err-name_link-in-Name.ensures.1 (λ n. no_link_as c.args.linking linking.Name c.in-Name.is (no_plain_name n))

pub returns-in_ok-index_link-in-Index-clause-read : goal.returns-in_ok-index_link-in-Index-clause-read
returns-in_ok-index_link-in-Index-clause-read g c = link_as c.args.linking linking.Index c.in-Index.is (plain_index c.in_ok-index_link-in-Index.ensures.read)

pub returns-in_ok-index_link-in-Index-clause-placed : goal.returns-in_ok-index_link-in-Index-clause-placed
returns-in_ok-index_link-in-Index-clause-placed g c = link_placed c.args.linking linking.Index c.in-Index.is (record { on = λ w k i. c.in_ok-index_link-in-Index.ensures.placed.on w (c.last_place-lo.ensures ∙ i) (plainly k) })

pub returns-in_err-index_link-in-Index-clause-refused : goal.returns-in_err-index_link-in-Index-clause-refused
returns-in_err-index_link-in-Index-clause-refused g c = passed _ c.in_err-index_link-in-Index.ensures.refused c.from_residual-in_err-index_link-in-Index.ensures.1 (λ n. no_link_as c.args.linking linking.Index c.in-Index.is (no_plain_index n))

pub returns-in_ok-call_link-in-Call-clause-read : goal.returns-in_ok-call_link-in-Call-clause-read
returns-in_ok-call_link-in-Call-clause-read g c = link_as c.args.linking linking.Call c.in-Call.is (plain_call c.in_ok-call_link-in-Call.ensures.read)

pub returns-in_ok-call_link-in-Call-clause-placed : goal.returns-in_ok-call_link-in-Call-clause-placed
returns-in_ok-call_link-in-Call-clause-placed g c = link_placed c.args.linking linking.Call c.in-Call.is (record { on = λ w k i. c.in_ok-call_link-in-Call.ensures.placed.on w (c.last_place-lo.ensures ∙ i) (plainly k) })

pub returns-in_err-call_link-in-Call-clause-refused : goal.returns-in_err-call_link-in-Call-clause-refused
returns-in_err-call_link-in-Call-clause-refused g c = passed _ c.in_err-call_link-in-Call.ensures.refused c.from_residual-in_err-call_link-in-Call.ensures.1 (λ n. no_link_as c.args.linking linking.Call c.in-Call.is (no_plain_call n))
