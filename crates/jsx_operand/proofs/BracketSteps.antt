-- What a pattern in brackets goes on with: `=`, at the level of assignments.
use Rattle.std.proofs.Common.{◌≡◌, nat_eq, nat_le, Bool, true, false, not, refl, sym, ◌∙◌, ap, subst}
use Rattle.std.specs.Prelude.{IsTrue, Some, ◌||◌}
use Rattle.jsx_tree.specs.Kinds.{Assign, Assigns, ArrayPat, ObjectPat, Kind, function, expression, Tree, node, Forest}
use Rattle.jsx_tree.specs.Nonterminals.{Nonterminal}
use Rattle.jsx_tree.specs.Grammar.{pun}
use Rattle.jsx_tree.specs.Reading.{Place, Lost, forth}
use Rattle.jsx_tree.specs.StaticRules.{Surroundings}
use Rattle.jsx_tree.specs.Walk.{is_found, tail, Walk, around}
use Rattle.jsx_tree.specs.Language.{Whole}
use Rattle.jsx_tree.specs.Answers.{Stuck}
use Rattle.jsx_tree.specs.Grows.{Onward, stay, step, seen, starts}
use Rattle.jsx_tree.proofs.Apart.{clash}
use Rattle.jsx_tree.proofs.Rows.Firsts.{kind_home}
use Rattle.jsx_tree.proofs.Rows.Stopping.{is_not}
use Rattle.jsx_token.specs.Growths.{Rung, rung, callee, asked, is_rung, reaches, seat}
use Rattle.jsx_token.specs.Marks.{row_so_far}
use Rattle.jsx_token.proofs.Listed.{Listed, listed, code, kinds, every, of_each, of_level, one_place, implies, implied}
use Rattle.jsx_token.proofs.Levels.{side, side_of}
use Rattle.jsx_token.proofs.Lives.{lives}
use Rattle.jsx_operand.specs.SoFar.{Staged, so_far}
use Rattle.jsx_operand.proofs.Aims.{is_pair, seen_plain, value_open}
use Rattle.jsx_operand.proofs.Climbing.{low, node_reaches}
use Rattle.jsx_operand.proofs.Homes.{home_of, is_bracket, made, value}
use Rattle.jsx_operand.proofs.Openings.{NoBracket}
use Rattle.jsx_operand.proofs.Rungs.{rung_single}
use Rattle.jsx_operand.proofs.Values.{Bracketed, in_array, in_object, led_sign, listed_node}

-- of all kinds it stands at the left of an assignment alone
abbrev takes_bracket : Kind → Bool
takes_bracket k = implies (lives (side k) (function (ArrayPat Assigns)) || lives (side k) (function (ObjectPat Assigns))) (nat_eq (code k) (code (expression Assign)))

all_take : every takes_bracket kinds ≡ true
all_take = refl

or_first : (a b : Bool) → a ≡ true → (a || b) ≡ true
or_first a b e = ap (λ c. c || b) e

or_second : (a b : Bool) → b ≡ true → (a || b) ≡ true
or_second true b e = refl
or_second false b e = e

assign_listed : Listed (expression Assign)
assign_listed = listed (expression Assign) refl refl refl

-- what stands at the left of a kind is at home there
at_left : {v : Surroundings} {c : Nonterminal} {x y : Place} (k : Kind) (ts : Forest) (l : Kind) → starts (row_so_far l) ≡ Some c → is_pair (node k ts) ≡ false → Staged v false c x (seen l (node k ts)) y → lives (side l) k ≡ true
at_left {v} {c} {x} {y} k ts l b p r = subst (λ n. lives n k ≡ true) (sym (ap side_of b)) (kind_home c k ts (home_of (subst (λ u. Staged v false c x u y) (seen_plain l (node k ts) p) r)))

pub left_assigns : {v : Surroundings} {c : Nonterminal} {x y : Place} {k : Kind} (ts : Forest) (l : Kind) → Listed l → starts (row_so_far l) ≡ Some c → Bracketed k → Staged v false c x (seen l (node k ts)) y → l ≡ expression Assign
left_assigns ts l m b in_array r = one_place l (expression Assign) m assign_listed (implied (lives (side l) (function (ArrayPat Assigns)) || lives (side l) (function (ObjectPat Assigns))) _ (of_each takes_bracket all_take l m) (or_first _ _ (at_left (function (ArrayPat Assigns)) ts l b refl r)))
left_assigns ts l m b in_object r = one_place l (expression Assign) m assign_listed (implied (lives (side l) (function (ArrayPat Assigns)) || lives (side l) (function (ObjectPat Assigns))) _ (of_each takes_bracket all_take l m) (or_second (lives (side l) (function (ArrayPat Assigns))) _ (at_left (function (ObjectPat Assigns)) ts l b refl r)))

kind_bracket : {k : Kind} → Bracketed k → is_bracket k ≡ true
kind_bracket in_array = refl
kind_bracket in_object = refl

pub record BracketGoes (r : Rung) (a : Place) : Type 0 where
  pub equals : IsTrue (is_found (forth (pun "=") a))
  pub level : reaches r (expression Assign) ≡ true

equals_there : {v : Surroundings} {a y : Place} {us ts : Forest} (l : Kind) → l ≡ expression Assign → Walk Staged (around v us) (tail (row_so_far l)) a ts y → IsTrue (is_found (forth (pun "=") a))
equals_there {v} {a} {y} {us} {ts} l e w = led_sign (tail (row_so_far (expression Assign))) refl (subst (λ k. Walk Staged (around v us) (tail (row_so_far k)) a ts y) e w)

pub bracket_goes : {v : Surroundings} {x a z : Place} {k : Kind} {ts : Forest} {u : Tree} (r : Rung) → is_rung r ≡ true → Bracketed k → Onward so_far v x (node k ts) a u z → Whole so_far v false (seat r) x u z → BracketGoes r a
bracket_goes {k = k} {ts = ts} r i b stay w = absurd (clash (is_bracket k) (kind_bracket b) (value_open (value (node k ts) (rung_single r i) w.reads)))
bracket_goes {ts = ts} r i b (step l c d {ts = us} s j o e q on) w =
    let m = listed_node e s q in
    let same = left_assigns ts l m s b j in
    record { equals = equals_there l same o; level = subst (λ n. reaches r n ≡ true) same (node_reaches r i m (low r i (made m) q on w.reads)) }

-- so none begins what is read above that level
high_no : (r : Rung) → is_rung r ≡ true → nat_le 2 (asked r) ≡ true → reaches r (expression Assign) ≡ false
high_no (rung n) i e = is_not _ (implied (nat_le 2 n) _ (of_level (λ m. implies (nat_le 2 m) (not (nat_le m 1))) refl {n = n} i) e)
high_no callee i e = refl

pub no_bracket_high : {v : Surroundings} {x : Place} (r : Rung) → is_rung r ≡ true → nat_le 2 (asked r) ≡ true → NoBracket v r x
no_bracket_high r i h = record { on = λ b s o w. clash _ (bracket_goes r i b o w).level (high_no r i h) }

-- nor where each that is read there ends before another token
pub no_bracket_stuck : {v : Surroundings} {x y : Place} (r : Rung) → is_rung r ≡ true → ((d : Nonterminal) (k : Kind) (ts : Forest) (p : Place) → Bracketed k → Staged v false d x (node k ts) p → y ≡ p) → Stuck (pun "=") y → NoBracket v r x
no_bracket_stuck r i at n = record {
  on = λ {d} {p} {ts} {k = k} b s o w. let bad : IsTrue (is_found Lost) = subst (λ q. IsTrue (is_found q)) (ap (forth (pun "=")) (sym (at d k ts p b s)) ∙ n.is) (bracket_goes r i b o w).equals in cc;
}
