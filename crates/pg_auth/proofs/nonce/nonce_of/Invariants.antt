use Rattle.std.proofs.Common.{◌≡◌, map, take, length}
use Rattle.pg_auth.specs.Nonce.{nonce_character}
use Rattle.pg_auth.proofs.nonce.nonce_of.Given as goal

abbrev pub invariant-loop-word : goal.invariant-loop-word
invariant-loop-word l = record {
  size : length l.nonce.bytes ≡ l.word-index;
  so_far : l.nonce.bytes ≡ map nonce_character (take l.word-index l.characters);
}
