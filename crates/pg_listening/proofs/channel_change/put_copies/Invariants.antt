use Rattle.std.proofs.Common.{◌≡◌, ◌++◌, take}
use Rattle.pg_listening.proofs.channel_change.put_copies.Given as goal

abbrev pub invariant-loop-channel : goal.invariant-loop-channel
invariant-loop-channel l = l.copies.items ≡ l.initial.copies.items ++ take l.channel-index l.channels
