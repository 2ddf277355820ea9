use Rattle.std.proofs.Common.{◌≤◌, length, arith}
use Rattle.pg_auth.proofs.BlockLemmas.{short_block}
use Rattle.pg_auth.proofs.keyed_hash.block.Goals as goal

pub returns-else-key-gt-BLOCK : goal.returns-else-key-gt-BLOCK
returns-else-key-gt-BLOCK c =
    let short : length c.args.key.now ≤ 64 = omega arith in
    short_block c.args.key.now c.copy_from_slice-else-key-gt-BLOCK.new.self short c.copy_from_slice-else-key-gt-BLOCK.ensures.after
