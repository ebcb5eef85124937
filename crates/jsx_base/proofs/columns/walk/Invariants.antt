use Rattle.std.proofs.Common.{◌≡◌, ◌+◌, ◌*◌, ◌≤◌, length}
use denote.Text.{Utf8}
use denote.Shadow.{shadow}
use Rattle.std.specs.List.{sum_by}
use Rattle.std.specs.Str.{chars}
use Rattle.jsx_base.specs.Lines.{columns_of, front, size}
use Rattle.jsx_base.proofs.columns.walk.Given as goal

abbrev pub invariant-loop-c : goal.invariant-loop-c
invariant-loop-c l = record {
  text : shadow (Utf8 l.rest);
  count_is : length (front (chars l.fn.text) l.fn.bytes) ≡ l.count + length (front (chars l.rest) l.left);
  columns_are : sum_by columns_of (front (chars l.fn.text) l.fn.bytes) ≡ l.columns + sum_by columns_of (front (chars l.rest) l.left);
  bytes_are : size (front (chars l.fn.text) l.fn.bytes) ≡ l.width + size (front (chars l.rest) l.left);
  few : l.columns ≤ 4 * l.count;
  short : l.count + length l.rest ≤ length l.fn.text;
  left_is : l.width + l.left ≡ l.fn.bytes;
}

abbrev pub decreases-loop-c : goal.decreases-loop-c
decreases-loop-c l = length l.rest
