-- What is known of a tree that the law is proved of: its kinds, and the law for what is sealed in it, by size.
use Rattle.std.proofs.Common.{◌≡◌, ℕ, ◌≤◌, Bool, true, false, arith}
use Rattle.std.specs.Prelude.{IsTrue, suc, ◌+◌, codes}
use Rattle.jsx_base.specs.Token.{Operator, Punctuator}
use Rattle.jsx_tree.specs.Signs.{Tok}
use Rattle.jsx_tree.specs.Kinds.{FunctionBody, Kind, program, Tree, node, list, Forest, part}
use Rattle.jsx_tree.specs.Nonterminals.{Nonterminal, Expr, ObjectMember, Body, Child}
use Rattle.jsx_tree.specs.StaticRules.{Surroundings}
use Rattle.jsx_tree.specs.Reading.{Place, forth}
use Rattle.jsx_tree.specs.Walk.{is_found, IsRead}
use Rattle.jsx_tree.proofs.Tokens.{and_left, and_right}
use Rattle.jsx_tree.proofs.OneTree.Known.{known, kept, kepts, size, sizes}
use Rattle.jsx_tree.proofs.OneTree.Sealed.{is_sealed, is_element, is_member}
use Rattle.jsx_tree.proofs.OneTree.Fine.{tame}

-- two of such kinds, of this size or less, that begin at one place are one, among text or not
pub record Single (p : Kind → Bool) (b : Bool) (c : Nonterminal) (n : ℕ) : Type 0 where
  pub one : (k l : Kind) (cs ds : Forest) {v w : Surroundings} {x y z : Place} → p k ≡ true → p l ≡ true → size (node k cs) ≤ n → size (node l ds) ≤ n → kept (node k cs) ≡ true → kept (node l ds) ≡ true
      → IsRead v b c x (node k cs) y → IsRead w b c x (node l ds) z → (node k cs ≡ node l ds) × (y ≡ z)

-- the same of the bodies of functions, before the brace that ends them
pub record Bodies (n : ℕ) : Type 0 where
  pub one_body : (cs ds : Forest) {v w : Surroundings} {x y z : Place} → size (node (program FunctionBody) cs) ≤ n → size (node (program FunctionBody) ds) ≤ n → kept (node (program FunctionBody) cs) ≡ true → kept (node (program FunctionBody) ds) ≡ true
      → IsRead v false Body x (node (program FunctionBody) cs) y → IsRead w false Body x (node (program FunctionBody) ds) z → IsTrue (is_found (forth (Tok Operator Punctuator (codes "}")) y)) → IsTrue (is_found (forth (Tok Operator Punctuator (codes "}")) z)) → (cs ≡ ds) × (y ≡ z)

pub record Law (n : ℕ) : Type 0 where
  pub of_sealed : Single is_sealed false (Expr 18) n
  pub of_members : Single is_member false ObjectMember n
  pub of_children : Single is_element true Child n
  pub of_bodies : Bodies n

pub record Kept (t : Tree) : Type 0 where
  pub good : kept t ≡ true
  pub bound : ℕ
  pub law : Law bound
  pub small : size t ≤ bound

pub record Kepts (ts : Forest) : Type 0 where
  pub good : kepts ts ≡ true
  pub bound : ℕ
  pub law : Law bound
  pub small : sizes ts ≤ bound

pub kept_left : {t : Tree} {ts : Forest} → Kepts (part t ts) → Kept t
kept_left {t} {ts} h = let s : size t + sizes ts ≤ h.bound = h.small in record { good = and_left (kept t) (kepts ts) h.good; bound = h.bound; law = h.law; small = omega (arith, s) }

pub kept_right : {t : Tree} {ts : Forest} → Kepts (part t ts) → Kepts ts
kept_right {t} {ts} h = let s : size t + sizes ts ≤ h.bound = h.small in record { good = and_right (kept t) (kepts ts) h.good; bound = h.bound; law = h.law; small = omega (arith, s) }

pub kept_listed : {ts : Forest} → Kept (list ts) → Kepts ts
kept_listed h = record { good = h.good; bound = h.bound; law = h.law; small = h.small }

-- of a list at the head of a row
pub kept_list : {ts us : Forest} → Kepts (part (list ts) us) → Kepts ts
kept_list h = kept_listed (kept_left h)

pub kept_kind : {k : Kind} {cs : Forest} → Kept (node k cs) → known k ≡ true
kept_kind {k} {cs} h = and_left (known k) (kepts cs) h.good

pub kept_parts : {k : Kind} {cs : Forest} → Kept (node k cs) → Kepts cs
kept_parts {k} {cs} h = let s : suc (sizes cs) ≤ h.bound = h.small in record { good = and_right (known k) (kepts cs) h.good; bound = h.bound; law = h.law; small = omega (arith, s) }

-- a tree in which no statement stands but in what is sealed
pub record Tame (t : Tree) : Type 0 where
  pub tame' : tame t ≡ true
  pub kept' : Kept t
