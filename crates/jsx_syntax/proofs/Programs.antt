-- A whole text in the language so far: directives, and then items or statements.
use Rattle.std.proofs.Common.{◌≡◌, true, false, not, [], ◌∷◌, refl, sym, ◌∙◌, ap, subst}
use Rattle.jsx_base.specs.Token.{Text, Operator, StringLiteral}
use Rattle.jsx_tree.specs.declared.text.Goal.{Goal}
use Rattle.jsx_tree.specs.declared.text.Goal.TheVariants as goals
use Rattle.jsx_tree.specs.Signs.{Tok}
use Rattle.jsx_tree.specs.Kinds.{Module, Script, program, Tree, leaf, node, list, Forest, none, part}
use Rattle.jsx_tree.specs.Nonterminals.{Nonterminal, Item, Stmt, DirectiveOnly, WholeProgram}
use Rattle.jsx_tree.specs.Grammar.{Part, TopLines}
use Rattle.jsx_tree.specs.Form.{is, is_leaf}
use Rattle.jsx_tree.specs.Spelling.{spelled}
use Rattle.jsx_tree.specs.Reading.{Place, scan, ended_at}
use Rattle.jsx_tree.specs.StaticRules.{Surroundings, outside, first_of_list, is_string_stmt}
use Rattle.jsx_tree.specs.Texts.{start}
use Rattle.jsx_tree.specs.Walk.{Items, many, Walk, done, next, around, steady}
use Rattle.jsx_tree.specs.Language.{Whole}
use Rattle.jsx_tree.specs.Answers.{Barred, ToEnd, OnlyToEnd, NoneToEnd}
use Rattle.jsx_tree.specs.Depth.{depth}
use Rattle.jsx_tree.specs.Faults.{Fault, Shallow, deepest}
use Rattle.jsx_tree.proofs.Tokens.{and_left, and_right, and_both}
use Rattle.jsx_tree.proofs.Depth.Shallow.{shallow_head, shallow_nothing, shallow_tail}
use Rattle.jsx_tree.proofs.Rows.Placing.{flat_shallow}
use Rattle.jsx_tree.proofs.Rows.Texts.{program_walk}
use Rattle.jsx_tree.proofs.Rows.Stopping.{is_not, not_is, never_stops}
use Rattle.jsx_tree.proofs.Rows.Guarded.{weaken_items, whole_items, whole_items_found}
use Rattle.jsx_tree.proofs.Rows.Lines.{found_end}
use Rattle.jsx_tree.proofs.Rows.Optionals.{end_shut}
use Rattle.jsx_token.specs.Headings.{heading_sign}
use Rattle.jsx_token.specs.Growths.{is_code}
use Rattle.jsx_token.specs.Marks.{row_so_far}
use Rattle.jsx_token.specs.Stage.{ReadsSoFar}
use Rattle.jsx_operand.specs.Around.{in_code}
use Rattle.jsx_operand.specs.SoFar.{Staged, so_far, in_module}
use Rattle.jsx_operand.proofs.OfSoFar.{of_so_far}
use Rattle.jsx_statement.specs.Directives.{NoPrologue, Prologue}
use Rattle.jsx_statement.proofs.Directives.{NoString, Strings, behind_first, deep_run, of_top, prologue_end, prologue_run, prologue_same, to_top}
use Rattle.jsx_declaration.proofs.Statements.{coded, end_lost, lost_there}
use Rattle.jsx_statement.proofs.Statements.{none_begins, stmts}
use Rattle.jsx_syntax.specs.Programs.{IsProgram, NoProgram, OnlyProgram, program_parts, program_row}

-- ---- nothing stands at the end

string_coded : (t : Text) → is_leaf StringLiteral t ≡ true → is_code (Tok Operator StringLiteral t) ≡ true
string_coded [] l = cc
string_coded (d ∷ t) l = refl

no_string_end : {x : Place} → ended_at x ≡ true → NoString x
no_string_end {x} e = record { on = λ t l f. lost_there (Tok Operator StringLiteral t) x (end_lost (Tok Operator StringLiteral t) x (string_coded t l) e) f }

pub no_statement_at_end : {v : Surroundings} {x : Place} {o : Fault} → ended_at x ≡ true → Barred so_far v (Part Stmt) x o
no_statement_at_end {x = x} e = none_begins stmts (record { on = λ h. end_lost (heading_sign h) x (coded h) e }) (end_shut x e)

-- ---- the rows of a program

record Rows (v : Surroundings) (c : Nonterminal) (x : Place) (us : Forest) (z : Place) : Type 0 where
  directives : Forest
  rest : Forest
  middle : Place
  is : us ≡ program_parts directives rest
  first : Items (Whole so_far) v TopLines DirectiveOnly x directives middle
  second : Items (Whole so_far) v TopLines c middle rest z

rows_of : {v : Surroundings} {c : Nonterminal} {x z : Place} {us : Forest} → Walk (Whole so_far) (steady v) (program_row c) x us z → Rows v c x us z
rows_of (next {y = m} (many {ts = ds} e first) (next (many {ts = ts} e' rest) (done f))) = record { directives = ds; rest = ts; middle = m; is = refl; first = first; second = rest }

abbrev listed : Forest → Forest
listed (part (list ts) us) = ts
listed us = us

abbrev listed_second : Forest → Forest
listed_second (part t us) = listed us
listed_second us = us

-- of a program, in what its directives say
record Parts (v : Surroundings) (c : Nonterminal) (x : Place) (ds ts : Forest) (z : Place) : Type 0 where
  middle : Place
  first : Items (Whole so_far) v TopLines DirectiveOnly x ds middle
  second : Items (Whole so_far) v TopLines c middle ts z

parts_of : {v : Surroundings} {c : Nonterminal} {x z : Place} {ds ts : Forest} → Walk (Whole so_far) (steady v) (program_row c) x (program_parts ds ts) z → Parts v c x ds ts z
parts_of {v} {c} {x} {z} walk =
    let r = rows_of walk in
    record {
      middle = r.middle;
      first = subst (λ es. Items (Whole so_far) v TopLines DirectiveOnly x es r.middle) (sym (ap listed r.is)) r.first;
      second = subst (λ us. Items (Whole so_far) v TopLines c r.middle us z) (sym (ap listed_second r.is)) r.second;
    }

-- behind the directives that come first there is nothing else
behind : {V : Forest → Surroundings} {c : Nonterminal} {x m : Place} {ds es us : Forest} → Strings c → Prologue x ds m → IsProgram c V x es us → (ds ≡ es) × ToEnd so_far (V ds) c m us
behind {V} {c} {m = m} {es = es} {us = us} k p i =
    let q = parts_of i.walk in
    let s = prologue_same k p (of_top q.first) (of_top q.second) i.keeps (no_string_end i.ended) in (
      s.0,
      record {
        end = i.end;
        items = subst (λ fs. Items (Whole so_far) (V fs) TopLines c m us i.end) (sym s.0) (subst (λ a. Items (Whole so_far) (V es) TopLines c a us i.end) (sym s.1) q.second);
        ended = i.ended;
      },
    )

pub program_only : {V : Forest → Surroundings} {c : Nonterminal} {x m : Place} {ds ts : Forest} → Strings c → Prologue x ds m → OnlyToEnd so_far (V ds) c m ts → OnlyProgram c V x ds ts
program_only {V} k p o = record {
  leads = record {
    end = o.leads.end;
    walk = next (many refl (to_top refl (prologue_run p (whole_items_found of_so_far o.leads.items)))) (next (many refl o.leads.items) (done (found_end o.leads.end o.leads.ended)));
    keeps = behind_first (prologue_end p) (of_top o.leads.items);
    ended = o.leads.ended;
  };
  alone = λ es us i. let b = behind {V = V} k p i in (b.0, o.alone us b.1);
}

pub no_program : {V : Forest → Surroundings} {c : Nonterminal} {x m : Place} {ds : Forest} {e : Fault} → Strings c → Prologue x ds m → NoneToEnd so_far (V ds) c m e → NoProgram c V x e
no_program {V} {e = e} k p n = record { no = λ es us i s. n.no us (behind {V = V} k p i).1 (shallow_head e (list us) none (shallow_tail e (list es) (part (list us) none) s)) }

-- where no level is left for the directive that stands there, no program does
pub deep_program : {V : Forest → Surroundings} {c : Nonterminal} {x : Place} {e : Fault} → Strings c → NoPrologue x e → NoProgram c V x e
deep_program {V} {c} {x} {e} k p = record { no = at }
  where
    at : (ds ts : Forest) → IsProgram c V x ds ts → Shallow e (deepest (program_parts ds ts)) → ⊥
    at ds ts i s =
        let q = parts_of i.walk in
        deep_run k p (of_top q.first) (of_top q.second) (no_string_end i.ended) (shallow_head e (list ds) (part (list ts) none) s) (shallow_head e (list ts) none (shallow_tail e (list ds) (part (list ts) none) s))

-- where these say what it stands in
pub none_in : {u v : Surroundings} {c : Nonterminal} {x : Place} {o : Fault} → u ≡ v → NoneToEnd so_far u c x o → NoneToEnd so_far v c x o
none_in {c = c} {x} {o = o} e n = subst (λ w. NoneToEnd so_far w c x o) e n

pub only_in : {u v : Surroundings} {c : Nonterminal} {x : Place} {ts : Forest} → u ≡ v → OnlyToEnd so_far u c x ts → OnlyToEnd so_far v c x ts
only_in {c = c} {x} {ts} e o = subst (λ w. OnlyToEnd so_far w c x ts) e o

-- ---- a program is what the definitions read

abbrev pub module_code : Forest → Surroundings
module_code ds = in_module

abbrev pub script_code : Forest → Surroundings
script_code ds = in_code ds outside

pub module_reads : {text : Text} {ds ts : Forest} → IsProgram Item module_code (start text) ds ts → ReadsSoFar goals.Module text (node (program Module) (program_parts ds ts))
module_reads {text} {ds} {ts} m = record { reads = record { of_goal = refl; read = and_both _ _ s.reads.is (ap ended_at s.reads.scans ∙ m.ended); is_legal = s.reads.is_legal }; staged = s.staged }
  where
    s : Staged outside false WholeProgram (start text) (node (program Module) (program_parts ds ts)) m.end
    s = let p = parts_of m.walk in of_so_far.to_node (program Module) refl (record {
      walk = next (many refl (weaken_items (λ v b c x t y r. r.reads) p.first)) (next (many refl (weaken_items (λ v b c x t y r. r.reads) p.second)) (done (found_end m.end m.ended)));
      keeps = and_both (not (first_of_list is_string_stmt ts)) true (not_is _ m.keeps) refl;
    })

pub script_reads : {text : Text} {ds ts : Forest} → IsProgram Stmt script_code (start text) ds ts → ReadsSoFar goals.Script text (node (program Script) (program_parts ds ts))
script_reads {text} {ds} {ts} m = record { reads = record { of_goal = refl; read = and_both _ _ s.reads.is (ap ended_at s.reads.scans ∙ m.ended); is_legal = s.reads.is_legal }; staged = s.staged }
  where
    s : Staged outside false WholeProgram (start text) (node (program Script) (program_parts ds ts)) m.end
    s = let p = parts_of m.walk in of_so_far.to_node (program Script) refl (record {
      walk = next (many refl (weaken_items (λ v b c x t y r. r.reads) p.first)) (next (many refl (weaken_items (λ v b c x t y r. r.reads) p.second)) (done (found_end m.end m.ended)));
      keeps = and_both (not (first_of_list is_string_stmt ts)) true (not_is _ m.keeps) refl;
    })

-- and the other way
pub record Reading (c : Nonterminal) (V : Forest → Surroundings) (x : Place) (us : Forest) : Type 0 where
  pub directives : Forest
  pub rest : Forest
  pub is : us ≡ program_parts directives rest
  pub leads : IsProgram c V x directives rest

abbrev pub tree_parts : Tree → Forest
tree_parts (node k ts) = ts
tree_parts t = none

text_ended : {goal : Goal} {text : Text} {t : Tree} → ReadsSoFar goal text t → ended_at (scan (start text) (spelled t)) ≡ true
text_ended {text = text} {t} r = and_right (is WholeProgram t) (ended_at (scan (start text) (spelled t))) r.reads.read

whole_text : {goal : Goal} {text : Text} {t : Tree} → ReadsSoFar goal text t → Staged outside false WholeProgram (start text) t (scan (start text) (spelled t))
whole_text {goal} {text} {t} r =
    record { reads = record { is = and_left (is WholeProgram t) (ended_at (scan (start text) (spelled t))) r.reads.read; is_legal = r.reads.is_legal; scans = refl; found = found_end _ (text_ended r) }; staged = r.staged }

module_parts : {x y : Place} {us : Forest} → Walk Staged (around outside us) (row_so_far (program Module)) x us y → so_far.keeps (program Module) outside us ≡ true → ended_at y ≡ true → Reading Item module_code x us
module_parts {y = y} (next {y = m} (many {ts = ds} e first) (next (many {ts = ts} e' lines) (done f))) k h = record {
  directives = ds;
  rest = ts;
  is = refl;
  leads = record {
    end = y;
    walk = next (many e (whole_items of_so_far refl (of_so_far.ends_there DirectiveOnly m (never_stops DirectiveOnly m refl)) first)) (next (many e' (whole_items of_so_far refl (of_so_far.ends_there Item y (never_stops Item y refl)) lines)) (done f));
    keeps = is_not _ (and_left (not (first_of_list is_string_stmt ts)) true k);
    ended = h;
  };
}

script_parts : {x y : Place} {us : Forest} → Walk Staged (around outside us) (row_so_far (program Script)) x us y → so_far.keeps (program Script) outside us ≡ true → ended_at y ≡ true → Reading Stmt script_code x us
script_parts {y = y} (next {y = m} (many {ts = ds} e first) (next (many {ts = ts} e' lines) (done f))) k h = record {
  directives = ds;
  rest = ts;
  is = refl;
  leads = record {
    end = y;
    walk = next (many e (whole_items of_so_far refl (of_so_far.ends_there DirectiveOnly m (never_stops DirectiveOnly m refl)) first)) (next (many e' (whole_items of_so_far refl (of_so_far.ends_there Stmt y (never_stops Stmt y refl)) lines)) (done f));
    keeps = is_not _ (and_left (not (first_of_list is_string_stmt ts)) true k);
    ended = h;
  };
}

-- what a program has in it is no deeper than the program
pub text_shallow : {goal : Goal} {text : Text} (t : Tree) (e : Fault) → ReadsSoFar goal text t → Shallow e (depth t) → Shallow e (deepest (tree_parts t))
text_shallow (leaf k s) e r h = shallow_nothing e
text_shallow (node k ts) e r h = flat_shallow e of_so_far (whole_text r) h
text_shallow (list ts) e r h = shallow_nothing e

pub module_read : {text : Text} {t : Tree} → ReadsSoFar goals.Module text t → Reading Item module_code (start text) (tree_parts t)
module_read {text} {t} r =
    let p = program_walk {goal = goals.Module} t r.reads in
    let q = subst (λ u. ReadsSoFar goals.Module text u) p.is r in
    let n = of_so_far.from_node (program Module) (whole_text q) in
    subst (λ u. Reading Item module_code (start text) (tree_parts u)) (sym p.is) (module_parts n.walk n.keeps (text_ended q))

pub script_read : {text : Text} {t : Tree} → ReadsSoFar goals.Script text t → Reading Stmt script_code (start text) (tree_parts t)
script_read {text} {t} r =
    let p = program_walk {goal = goals.Script} t r.reads in
    let q = subst (λ u. ReadsSoFar goals.Script text u) p.is r in
    let n = of_so_far.from_node (program Script) (whole_text q) in
    subst (λ u. Reading Stmt script_code (start text) (tree_parts u)) (sym p.is) (script_parts n.walk n.keeps (text_ended q))
