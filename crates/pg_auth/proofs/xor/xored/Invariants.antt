use Rattle.std.proofs.Common.{◌≡◌, ◌++◌, length, take, drop}
use Rattle.pg_auth.specs.Hmac.{xor_bytes}
use Rattle.pg_auth.proofs.xor.xored.Given as goal

abbrev pub invariant-loop-i : goal.invariant-loop-i
invariant-loop-i g l = record {
  size : length l.left ≡ length l.initial.left;
  so_far : take l.i l.left ++ xor_bytes (drop l.i l.left) (drop l.i l.right) ≡ xor_bytes l.initial.left l.right;
}
