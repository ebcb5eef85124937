-- Leaves and whole texts.
use Rattle.std.proofs.Common.{◌≡◌, Bool, true, false, refl, ◌∙◌, ap}
use Rattle.std.specs.Prelude.{IsTrue}
use Rattle.jsx_base.specs.Token.{Text, TokenKind, Elision, RegExpLiteral}
use Rattle.jsx_tree.specs.declared.text.Goal.{Goal}
use Rattle.jsx_tree.specs.declared.text.Goal.TheVariants as goals
use Rattle.jsx_tree.specs.Signs.{Tok}
use Rattle.jsx_tree.specs.Kinds.{Module, Script, program, Tree, Forest, leaf, node, list}
use Rattle.jsx_tree.specs.Nonterminals.{Nonterminal, WholeProgram, leaf_in}
use Rattle.jsx_tree.specs.Form.{is, is_leaf}
use Rattle.jsx_tree.specs.Spelling.{mode_of, spelled}
use Rattle.jsx_tree.specs.Reading.{Place, Lost, At, forth, scan, reads, ended_at}
use Rattle.jsx_tree.specs.StaticRules.{Surroundings, outside, legal}
use Rattle.jsx_tree.specs.Program.{Reads, is_goal}
use Rattle.jsx_tree.proofs.Tokens.{and_left, and_right, and_both}
use Rattle.jsx_tree.specs.Walk.{is_found, IsRead}
use Rattle.jsx_tree.specs.Texts.{ReadsWhole, goal_kind, start}
use Rattle.jsx_tree.proofs.Rows.Bridge.{node_read, node_walk}

-- a leaf with a token of its own
abbrev pub has_token : TokenKind → Bool
has_token Elision = false
has_token k = true

scan_leaf : (k : TokenKind) (t : Text) (x : Place) → has_token k ≡ true → scan x (spelled (leaf k t)) ≡ forth (Tok (mode_of k) k t) x
scan_leaf Elision t x e = cc
scan_leaf RegExpLiteral t x e = refl
scan_leaf _ t x e = refl

pub leaf_read : {v : Surroundings} {c : Nonterminal} {k : TokenKind} {t : Text} {x y : Place} → has_token k ≡ true → leaf_in c k t ≡ true → is_leaf k t ≡ true → forth (Tok (mode_of k) k t) x ≡ y → IsTrue (is_found y) → IsRead v false c x (leaf k t) y
leaf_read {k = k} {t = t} {x} h a l e f = record { is = and_both _ _ a l; is_legal = refl; scans = scan_leaf k t x h ∙ e; found = f }

found_end : (x : Place) → ended_at x ≡ true → IsTrue (is_found x)
found_end Lost e = cc
found_end (At q e text) f = refl

pub program_read : {goal : Goal} {text : Text} {t : Tree} → ReadsWhole IsRead goal text t → Reads goal text t
program_read {goal = goals.Module} {text = text} {t = t} w =
    let r = node_read false (program Module) {v = outside} {c = WholeProgram} refl refl w.node in
    record { of_goal = ap (is_goal goals.Module) w.is; read = ap (reads text) w.is ∙ and_both _ _ r.is (ap ended_at r.scans ∙ w.ended); is_legal = ap (legal outside) w.is ∙ r.is_legal }
program_read {goal = goals.Script} {text = text} {t = t} w =
    let r = node_read false (program Script) {v = outside} {c = WholeProgram} refl refl w.node in
    record { of_goal = ap (is_goal goals.Script) w.is; read = ap (reads text) w.is ∙ and_both _ _ r.is (ap ended_at r.scans ∙ w.ended); is_legal = ap (legal outside) w.is ∙ r.is_legal }

walk_of : (goal : Goal) (text : Text) (ts : Forest) → Reads goal text (node (goal_kind goal) ts) → ReadsWhole IsRead goal text (node (goal_kind goal) ts)
walk_of goal text ts r =
    let t = node (goal_kind goal) ts in
    let e = and_right (is WholeProgram t) (ended_at (scan (start text) (spelled t))) r.read in
    record {
      parts = ts;
      end = scan (start text) (spelled t);
      is = refl;
      node = node_walk false (goal_kind goal) {v = outside} {c = WholeProgram} refl (record { is = and_left (is WholeProgram t) (ended_at (scan (start text) (spelled t))) r.read; is_legal = r.is_legal; scans = refl; found = found_end _ e });
      ended = e;
    }

pub program_walk : {goal : Goal} {text : Text} (t : Tree) → Reads goal text t → ReadsWhole IsRead goal text t
program_walk {goal = goals.Module} {text = text} (node (program Module) ts) r = walk_of goals.Module text ts r
program_walk {goal = goals.Script} {text = text} (node (program Script) ts) r = walk_of goals.Script text ts r
program_walk {goal = goals.Module} (node _ ts) r = let bad = r.of_goal in cc
program_walk {goal = goals.Script} (node _ ts) r = let bad = r.of_goal in cc
program_walk {goal = goals.Module} (leaf k t) r = let bad = r.of_goal in cc
program_walk {goal = goals.Script} (leaf k t) r = let bad = r.of_goal in cc
program_walk {goal = goals.Module} (list ts) r = let bad = r.of_goal in cc
program_walk {goal = goals.Script} (list ts) r = let bad = r.of_goal in cc
