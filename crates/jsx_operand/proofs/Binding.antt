-- A pattern that assigns to names alone is read where the one of the same tokens is that binds them, and the other way round: the same signs, the same rules, at home alike.
use Rattle.std.proofs.Common.{◌≡◌, Bool, true, not, [], ◌∷◌, refl, sym, ◌∙◌, ap}
use Rattle.std.specs.Prelude.{◌&&◌}
use Rattle.jsx_tree.specs.Signs.{Begin}
use Rattle.jsx_tree.specs.Kinds.{Assigns, Binds, ArrayPat, ObjectPat, PropertyPat, RestPat, WithInit, function, Tree, Forest, none, part}
use Rattle.jsx_tree.specs.Nonterminals.{Nonterminal, Expr, Key, Pat, PatElement, PatProp, Slot}
use Rattle.jsx_tree.specs.Grammar.{production}
use Rattle.jsx_tree.specs.Form.{admits, fits_below, fit_each, is, is_last, last_only}
use Rattle.jsx_tree.specs.Spelling.{said, each_said, joined, walk}
use Rattle.jsx_tree.specs.StaticRules.{Surroundings, legal, each_legal, has_plain_params}
use Rattle.jsx_tree.specs.Reading.{Place, scan}
use Rattle.jsx_tree.specs.Walk.{IsRead, front}
use Rattle.jsx_token.specs.Stage.{in_stage, each_in_stage}
use Rattle.jsx_operand.specs.Turning.{Suits, suits_name, suits_hole, suits_array, suits_object, suits_filled, suits_rest, suits_pair, suits_short, suits_preset, suits_others, SuitsAll, suits_none, suits_more}

-- ---- the same signs

mutual
  pub suits_said : {p q : Tree} → Suits p q → said p ≡ said q
  suits_said suits_name = refl
  suits_said suits_hole = refl
  suits_said (suits_array l) = ap (λ xs. (Begin ∷ walk (production (function (ArrayPat Assigns))) (xs ∷ [])) ∷ []) (suits_each_said l)
  suits_said (suits_object l) = ap (λ xs. (Begin ∷ walk (production (function (ObjectPat Assigns))) (xs ∷ [])) ∷ []) (suits_each_said l)
  suits_said (suits_filled {e = e} s) = ap (λ x. (Begin ∷ walk (production (function (WithInit Assigns))) (x ∷ said e ∷ [])) ∷ []) (suits_said s)
  suits_said (suits_rest s) = ap (λ x. (Begin ∷ walk (production (function (RestPat Assigns))) (x ∷ [])) ∷ []) (suits_said s)
  suits_said (suits_pair {k = k} s) = ap (λ x. (Begin ∷ walk (production (function (PropertyPat Assigns))) (said k ∷ x ∷ [])) ∷ []) (suits_said s)
  suits_said suits_short = refl
  suits_said suits_preset = refl
  suits_said suits_others = refl

  pub suits_each_said : {ts us : Forest} → SuitsAll ts us → each_said ts ≡ each_said us
  suits_each_said suits_none = refl
  suits_each_said (suits_more s l) = λ i. joined (suits_said s i) ∷ suits_each_said l i

-- ---- the same rules

-- no pattern is a body, and none is a list
plain_filled : {p q : Tree} (e : Tree) → Suits p q → has_plain_params (part p (part e none)) ≡ has_plain_params (part q (part e none))
plain_filled e suits_name = refl
plain_filled e suits_hole = refl
plain_filled e (suits_array l) = refl
plain_filled e (suits_object l) = refl
plain_filled e (suits_filled s) = refl
plain_filled e (suits_rest s) = refl
plain_filled e (suits_pair s) = refl
plain_filled e suits_short = refl
plain_filled e suits_preset = refl
plain_filled e suits_others = refl

plain_alone : {p q : Tree} → Suits p q → has_plain_params (part p none) ≡ has_plain_params (part q none)
plain_alone suits_name = refl
plain_alone suits_hole = refl
plain_alone (suits_array l) = refl
plain_alone (suits_object l) = refl
plain_alone (suits_filled s) = refl
plain_alone (suits_rest s) = refl
plain_alone (suits_pair s) = refl
plain_alone suits_short = refl
plain_alone suits_preset = refl
plain_alone suits_others = refl

plain_pair : {p q : Tree} (k : Tree) → Suits p q → has_plain_params (part k (part p none)) ≡ has_plain_params (part k (part q none))
plain_pair k suits_name = refl
plain_pair k suits_hole = refl
plain_pair k (suits_array l) = refl
plain_pair k (suits_object l) = refl
plain_pair k (suits_filled s) = refl
plain_pair k (suits_rest s) = refl
plain_pair k (suits_pair s) = refl
plain_pair k suits_short = refl
plain_pair k suits_preset = refl
plain_pair k suits_others = refl

mutual
  pub suits_legal : (v : Surroundings) {p q : Tree} → Suits p q → legal v p ≡ legal v q
  suits_legal v suits_name = refl
  suits_legal v suits_hole = refl
  suits_legal v (suits_array l) = ap (λ b. b && true) (suits_each_legal v l)
  suits_legal v (suits_object l) = ap (λ b. b && true) (suits_each_legal v l)
  suits_legal v (suits_filled {e = e} s) = λ i. plain_filled e s i && (suits_legal v s i && (legal v e && true))
  suits_legal v (suits_rest s) = λ i. plain_alone s i && (suits_legal v s i && true)
  suits_legal v (suits_pair {k = k} s) = λ i. plain_pair k s i && (legal v k && (suits_legal v s i && true))
  suits_legal v suits_short = refl
  suits_legal v suits_preset = refl
  suits_legal v suits_others = refl

  pub suits_each_legal : (v : Surroundings) {ts us : Forest} → SuitsAll ts us → each_legal v ts ≡ each_legal v us
  suits_each_legal v suits_none = refl
  suits_each_legal v (suits_more s l) = λ i. suits_legal v s i && suits_each_legal v l i

-- ---- at home alike

-- two places of patterns, of which one assigns and the other binds
pub data Seats : Nonterminal → Nonterminal → Type 0 where
  at_pat : Seats (Pat Assigns) (Pat Binds)
  at_element : Seats (PatElement Assigns) (PatElement Binds)
  at_slot : Seats (Slot Assigns) (Slot Binds)
  at_part : Seats (PatProp Assigns) (PatProp Binds)

pub suits_admits : {c d : Nonterminal} {p q : Tree} → Seats c d → Suits p q → admits c p ≡ admits d q
suits_admits at_pat suits_name = refl
suits_admits at_pat suits_hole = refl
suits_admits at_pat (suits_array l) = refl
suits_admits at_pat (suits_object l) = refl
suits_admits at_pat (suits_filled s) = refl
suits_admits at_pat (suits_rest s) = refl
suits_admits at_pat (suits_pair s) = refl
suits_admits at_pat suits_short = refl
suits_admits at_pat suits_preset = refl
suits_admits at_pat suits_others = refl
suits_admits at_element suits_name = refl
suits_admits at_element suits_hole = refl
suits_admits at_element (suits_array l) = refl
suits_admits at_element (suits_object l) = refl
suits_admits at_element (suits_filled s) = refl
suits_admits at_element (suits_rest s) = refl
suits_admits at_element (suits_pair s) = refl
suits_admits at_element suits_short = refl
suits_admits at_element suits_preset = refl
suits_admits at_element suits_others = refl
suits_admits at_slot suits_name = refl
suits_admits at_slot suits_hole = refl
suits_admits at_slot (suits_array l) = refl
suits_admits at_slot (suits_object l) = refl
suits_admits at_slot (suits_filled s) = refl
suits_admits at_slot (suits_rest s) = refl
suits_admits at_slot (suits_pair s) = refl
suits_admits at_slot suits_short = refl
suits_admits at_slot suits_preset = refl
suits_admits at_slot suits_others = refl
suits_admits at_part suits_name = refl
suits_admits at_part suits_hole = refl
suits_admits at_part (suits_array l) = refl
suits_admits at_part (suits_object l) = refl
suits_admits at_part (suits_filled s) = refl
suits_admits at_part (suits_rest s) = refl
suits_admits at_part (suits_pair s) = refl
suits_admits at_part suits_short = refl
suits_admits at_part suits_preset = refl
suits_admits at_part suits_others = refl

suits_is_last : {p q : Tree} → Suits p q → is_last p ≡ is_last q
suits_is_last suits_name = refl
suits_is_last suits_hole = refl
suits_is_last (suits_array l) = refl
suits_is_last (suits_object l) = refl
suits_is_last (suits_filled s) = refl
suits_is_last (suits_rest s) = refl
suits_is_last (suits_pair s) = refl
suits_is_last suits_short = refl
suits_is_last suits_preset = refl
suits_is_last suits_others = refl

suits_last : {ts us : Forest} → SuitsAll ts us → last_only ts ≡ last_only us
suits_last suits_none = refl
suits_last (suits_more s suits_none) = refl
suits_last (suits_more s (suits_more t l)) = λ i. not (suits_is_last s i) && suits_last (suits_more t l) i

mutual
  pub suits_below : (c d : Nonterminal) {p q : Tree} → Suits p q → fits_below c p ≡ fits_below d q
  suits_below c d suits_name = refl
  suits_below c d suits_hole = refl
  suits_below c d (suits_array l) = λ i. suits_last l i && (suits_each_fits at_slot l i && true)
  suits_below c d (suits_object l) = λ i. suits_last l i && (suits_each_fits at_part l i && true)
  suits_below c d (suits_filled {e = e} s) = λ i. suits_admits at_pat s i && (suits_below (Pat Assigns) (Pat Binds) s i && (admits (Expr 1) e && (fits_below (Expr 1) e && true)))
  suits_below c d (suits_rest s) = λ i. suits_admits at_pat s i && (suits_below (Pat Assigns) (Pat Binds) s i && true)
  suits_below c d (suits_pair {k = k} s) = λ i. admits Key k && (fits_below Key k && (suits_admits at_element s i && (suits_below (PatElement Assigns) (PatElement Binds) s i && true)))
  suits_below c d suits_short = refl
  suits_below c d suits_preset = refl
  suits_below c d suits_others = refl

  pub suits_each_fits : {c d : Nonterminal} {ts us : Forest} → Seats c d → SuitsAll ts us → fit_each c ts ≡ fit_each d us
  suits_each_fits e suits_none = refl
  suits_each_fits {c} {d} e (suits_more s l) = λ i. suits_admits e s i && (suits_below c d s i && suits_each_fits e l i)

pub suits_is : {c d : Nonterminal} {p q : Tree} → Seats c d → Suits p q → is c p ≡ is d q
suits_is {c} {d} e s = λ i. suits_admits e s i && suits_below c d s i

-- ---- in the stage alike

mutual
  pub suits_stage : {c d : Nonterminal} {p q : Tree} → Seats c d → Suits p q → in_stage c p ≡ in_stage d q
  suits_stage at_pat suits_name = refl
  suits_stage at_element suits_name = refl
  suits_stage at_slot suits_name = refl
  suits_stage at_part suits_name = refl
  suits_stage at_pat suits_hole = refl
  suits_stage at_element suits_hole = refl
  suits_stage at_slot suits_hole = refl
  suits_stage at_part suits_hole = refl
  suits_stage e (suits_array l) = ap (λ b. b && true) (suits_each_stage at_slot l)
  suits_stage e (suits_object l) = ap (λ b. b && true) (suits_each_stage at_part l)
  suits_stage e (suits_filled {e = x} s) = ap (λ b. b && (in_stage (Expr 1) x && true)) (suits_stage at_pat s)
  suits_stage e (suits_rest s) = ap (λ b. b && true) (suits_stage at_pat s)
  suits_stage e (suits_pair {k = k} s) = ap (λ b. in_stage Key k && (b && true)) (suits_stage at_element s)
  suits_stage e suits_short = refl
  suits_stage e suits_preset = refl
  suits_stage e suits_others = refl

  pub suits_each_stage : {c d : Nonterminal} {ts us : Forest} → Seats c d → SuitsAll ts us → each_in_stage c ts ≡ each_in_stage d us
  suits_each_stage e suits_none = refl
  suits_each_stage e (suits_more s l) = λ i. suits_stage e s i && suits_each_stage e l i

-- ---- so both are read alike, in the same surroundings

pub suits_read : {v : Surroundings} {b : Bool} {c d : Nonterminal} {x y : Place} {p q : Tree} → Seats c d → Suits p q → IsRead v b c x p y → IsRead v b d x q y
suits_read {v} {b} {x = x} e s r = record {
  is = sym (suits_is e s) ∙ r.is;
  is_legal = sym (suits_legal v s) ∙ r.is_legal;
  scans = ap (λ ms. scan x (front b (joined ms))) (sym (suits_said s)) ∙ r.scans;
  found = r.found;
}

pub suits_back : {v : Surroundings} {b : Bool} {c d : Nonterminal} {x y : Place} {p q : Tree} → Seats c d → Suits p q → IsRead v b d x q y → IsRead v b c x p y
suits_back {v} {b} {x = x} e s r = record {
  is = suits_is e s ∙ r.is;
  is_legal = suits_legal v s ∙ r.is_legal;
  scans = ap (λ ms. scan x (front b (joined ms))) (suits_said s) ∙ r.scans;
  found = r.found;
}
