-- Which kind of tree it is that the law is proved of.
use Rattle.std.proofs.Common.{◌≡◌, true}
use Rattle.std.specs.Prelude.{◌||◌}
use Rattle.jsx_tree.specs.Kinds.{Seq, Kind, expression}
use Rattle.jsx_tree.proofs.OneTree.Table.{scope}
use Rattle.jsx_tree.proofs.OneTree.Known.{stated, taken, is_seq, is_blocked, is_jsx, known}
use Rattle.jsx_tree.proofs.OneTree.Facts.{or_else, Test, yes', no', test}
use Rattle.jsx_tree.proofs.OneTree.Spines.{seq_is, taken_scope}

pub data Which (k : Kind) : Type 0 where
  a_statement : stated k ≡ true → Which k
  a_taken : scope k ≡ true → Which k
  a_blocked : is_blocked k ≡ true → Which k
  a_jsx : is_jsx k ≡ true → Which k
  a_seq : k ≡ expression Seq → Which k

pub which : (k : Kind) → known k ≡ true → Which k
which k h = by_stated (test (taken k || is_seq k))
  where
    by_taken : Test (taken k) → (taken k || is_seq k) ≡ true → Which k
    by_taken (yes' t) g = a_taken (taken_scope k t)
    by_taken (no' t) g = a_seq (seq_is k (or_else (taken k) (is_seq k) g t))

    by_stated : Test (taken k || is_seq k) → Which k
    by_stated (yes' g) = by_taken (test (taken k)) g
    by_stated (no' g) = by_block (test (stated k)) (or_else (taken k || is_seq k) (stated k || (is_blocked k || is_jsx k)) h g)
      where
        by_jsx : Test (is_blocked k) → (is_blocked k || is_jsx k) ≡ true → Which k
        by_jsx (yes' b) j = a_blocked b
        by_jsx (no' b) j = a_jsx (or_else (is_blocked k) (is_jsx k) j b)

        by_block : Test (stated k) → (stated k || (is_blocked k || is_jsx k)) ≡ true → Which k
        by_block (yes' s) b = a_statement s
        by_block (no' s) b = by_jsx (test (is_blocked k)) (or_else (stated k) (is_blocked k || is_jsx k) b s)
