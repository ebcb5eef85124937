-- Declarations of functions and classes, and what may be declared behind `export`.
use Rattle.std.proofs.Common.{◌≡◌, Bool, true, false, refl, sym, subst}
use Rattle.std.specs.Prelude.{IsTrue}
use Rattle.jsx_tree.specs.Kinds.{ClassDecl, FunctionDecl, Var, VarWord, LetWord, ConstWord, Kind, statement, Tree, leaf, node, list, Forest}
use Rattle.jsx_tree.specs.Nonterminals.{Declaration}
use Rattle.jsx_tree.specs.Grammar.{Part, key}
use Rattle.jsx_tree.specs.Form.{admits}
use Rattle.jsx_tree.specs.Reading.{Place, Lost, forth}
use Rattle.jsx_tree.specs.StaticRules.{Surroundings}
use Rattle.jsx_tree.specs.View.{word_of}
use Rattle.jsx_tree.specs.declared.text.DeclareWord as code
use Rattle.jsx_tree.specs.declared.text.DeclareWord.TheVariants as declare_word
use Rattle.jsx_tree.specs.Walk.{is_found, one, Given, Past, tree, tail}
use Rattle.jsx_tree.specs.Language.{Whole}
use Rattle.jsx_tree.specs.Answers.{Moves, Stuck, Only, Barred, NoNode, BuiltNode}
use Rattle.jsx_tree.specs.Faults.{Fault, Shallow, given_depth, outer, Below}
use Rattle.jsx_tree.proofs.Rows.Bridge.{found_at}
use Rattle.jsx_tree.proofs.Rows.Firsts.{kind_home}
use Rattle.jsx_tree.proofs.Rows.Guarded.{guarded}
use Rattle.jsx_tree.proofs.Rows.Placing.{Chosen, free}
use Rattle.jsx_tree.proofs.Depth.Nodes.{counts_as}
use Rattle.jsx_token.specs.Growths.{opening_sign}
use Rattle.jsx_token.specs.Headings.{Begins, own, heading_kind, heading_sign}
use Rattle.jsx_token.specs.declared.heading.Heading.{Heading}
use Rattle.jsx_token.specs.declared.heading.Heading.TheVariants as heading
use Rattle.jsx_token.specs.Here.{Here}
use Rattle.jsx_token.specs.Marks.{row_so_far}
use Rattle.jsx_token.specs.Places.{Takes}
use Rattle.jsx_token.proofs.Headings.{begins_one, its_kind}
use Rattle.jsx_token.proofs.Levels.{signed}
use Rattle.jsx_operand.specs.Openings.{NoParts, OnlyParts}
use Rattle.jsx_operand.specs.SoFar.{so_far}
use Rattle.jsx_operand.proofs.Homes.{home_of, no_list, taken_by}
use Rattle.jsx_operand.proofs.OfSoFar.{of_so_far}
use Rattle.jsx_operand.proofs.Openings.{free_none, free_parts, parts_barred, parts_only}
use Rattle.jsx_operand.proofs.Standing.{standing}
use Rattle.jsx_declaration.specs.Heads.{NoDeclaring, declare_sign}
use Rattle.jsx_declaration.proofs.PlacedNodes.{declaring_is}
use Rattle.jsx_declaration.proofs.Statements.{heading_stands, lost_there, one_heading}
use Rattle.jsx_statement.proofs.Statements.{deep_chosen}

-- ---- which kinds declare, and with what they begin

abbrev is_declared : Kind → Bool
is_declared (statement (Var w)) = true
is_declared (statement FunctionDecl) = true
is_declared (statement ClassDecl) = true
is_declared k = false

record Declares (k : Kind) : Type 0 where
  head : Heading
  begun : Begins head k
  missing : (x : Place) → NoDeclaring x → Stuck (key "function") x → Stuck (key "class") x → forth (heading_sign head) x ≡ Lost

declares : (k : Kind) → is_declared k ≡ true → Declares k
declares (statement (Var VarWord)) h = record { head = heading.Var declare_word.Var; begun = own (heading.Var declare_word.Var); missing = λ x n s c. n.on declare_word.Var }
declares (statement (Var LetWord)) h = record { head = heading.Var declare_word.Let; begun = own (heading.Var declare_word.Let); missing = λ x n s c. n.on declare_word.Let }
declares (statement (Var ConstWord)) h = record { head = heading.Var declare_word.Const; begun = own (heading.Var declare_word.Const); missing = λ x n s c. n.on declare_word.Const }
declares (statement FunctionDecl) h = record { head = heading.Function; begun = own heading.Function; missing = λ x n s c. s.is }
declares (statement ClassDecl) h = record { head = heading.Class; begun = own heading.Class; missing = λ x n s c. c.is }
declares _ h = cc

declared_kind : {v : Surroundings} {x y : Place} (k : Kind) (ts : Forest) → Whole so_far v false Declaration x (node k ts) y → is_declared k ≡ true
declared_kind k ts w = standing Declaration is_declared refl k (taken_by w.reads) (kind_home Declaration k ts (home_of w.reads))

chosen : {v : Surroundings} {x : Place} (h : Heading) → begins_one h ≡ true → IsTrue (is_found (forth (heading_sign h) x)) → Chosen so_far v Declaration (heading_kind h) x
chosen {v} {x} h o f = record { no_leaf = λ k t y w. let bad = w.reads.staged in cc; kind = at }
  where
    at : (k : Kind) (ts : Forest) (y : Place) → Whole so_far v false Declaration x (node k ts) y → k ≡ heading_kind h
    at k ts y w =
        let d = declares k (declared_kind k ts w) in
        its_kind o (subst (λ g. Begins g k) (one_heading d.head h x (heading_stands d.begun (of_so_far.from_node k w.reads).walk) f) d.begun)

-- a heading with which one begins
pub record Opens (h : Heading) : Type 0 where
  pub single : begins_one h ≡ true
  pub guards : guarded Declaration (row_so_far (heading_kind h)) ≡ true
  pub is_signed : signed (row_so_far (heading_kind h)) ≡ true
  pub home : (ts : Forest) → admits Declaration (node (heading_kind h) ts) ≡ true
  pub counts : counts_as true (heading_kind h) ≡ true

pub function_opens : Opens heading.Function
function_opens = record { single = refl; guards = refl; is_signed = refl; home = λ ts. refl; counts = refl }

pub class_opens : Opens heading.Class
class_opens = record { single = refl; guards = refl; is_signed = refl; home = λ ts. refl; counts = refl }

pub word_opens : (w : code.DeclareWord) → Opens (heading.Var w)
word_opens declare_word.Var = record { single = refl; guards = refl; is_signed = refl; home = λ ts. refl; counts = refl }
word_opens declare_word.Let = record { single = refl; guards = refl; is_signed = refl; home = λ ts. refl; counts = refl }
word_opens declare_word.Const = record { single = refl; guards = refl; is_signed = refl; home = λ ts. refl; counts = refl }

pub word_moves : {x y : Place} (w : code.DeclareWord) → Moves (declare_sign w) x y → Moves (heading_sign (heading.Var w)) x y
word_moves {x} {y} w m = subst (λ s. Moves s x y) (declaring_is w) m

pub word_takes : {x y : Here} (w : code.DeclareWord) → Takes (declare_sign w) x y → Takes (opening_sign (statement (Var (word_of w)))) x y
word_takes {x} {y} w k = subst (λ s. Takes s x y) (declaring_is w) k

pub declared_parts : {v : Surroundings} {x y z : Place} {t : Tree} (h : Heading) → Opens h → Moves (heading_sign h) x y → OnlyParts v (heading_kind h) t y z → Only so_far v (Part Declaration) x (one t) z
declared_parts h o m b = parts_only (chosen h o.single (found_at (sym m.is) m.found)) o.guards o.is_signed o.home refl m b

pub no_declared_parts : {v : Surroundings} {x y : Place} {e : Fault} (h : Heading) → Opens h → Moves (heading_sign h) x y → NoParts v (heading_kind h) y e → Barred so_far v (Part Declaration) x (outer e)
no_declared_parts h o m n = parts_barred true o.counts (chosen h o.single (found_at (sym m.is) m.found)) o.guards o.is_signed m n

-- where what its parts stand in doesn't hang on them
pub declared_only : {v : Surroundings} {x y z : Place} {t : Tree} (h : Heading) → Opens h → free (tail (row_so_far (heading_kind h))) ≡ true → Moves (heading_sign h) x y → BuiltNode so_far v (tail (row_so_far (heading_kind h))) (heading_kind h) t y z → Only so_far v (Part Declaration) x (one t) z
declared_only h o f m b = declared_parts h o m (free_parts (heading_kind h) f b)

pub declared_barred : {v : Surroundings} {x y : Place} {e : Fault} (h : Heading) → Opens h → free (tail (row_so_far (heading_kind h))) ≡ true → Moves (heading_sign h) x y → NoNode so_far v (tail (row_so_far (heading_kind h))) (heading_kind h) y e → Barred so_far v (Part Declaration) x (outer e)
declared_barred h o f m n = no_declared_parts h o m (free_none (heading_kind h) f n)

-- where no level is left
pub declared_deep : {v : Surroundings} {x y : Place} {e : Fault} (h : Heading) → Opens h → Moves (heading_sign h) x y → Below 0 e → Barred so_far v (Part Declaration) x e
declared_deep {v} {x} {e = e} h o m l = deep_chosen o.counts (chosen h o.single (found_at (sym m.is) m.found)) l

-- where none of their words stands
pub undeclared : {v : Surroundings} {x : Place} {e : Fault} → NoDeclaring x → Stuck (key "function") x → Stuck (key "class") x → Barred so_far v (Part Declaration) x e
undeclared {v} {x} {e = e} n s c = record { no = at }
  where
    at : (g : Given) (y : Place) → Past (Whole so_far) v (Part Declaration) x g y → Shallow e (given_depth g) → ⊥
    at g y (tree {t = leaf k t} w) h = let bad = w.reads.staged in cc
    at g y (tree {t = list ts} w) h = no_list w.reads
    at g y (tree {t = node k ts} w) h =
        let d = declares k (declared_kind k ts w) in
        lost_there (heading_sign d.head) x (d.missing x n s c) (heading_stands d.begun (of_so_far.from_node k w.reads).walk)
