use Rattle.std.proofs.Common.{◌≡◌, take, string_bytes}
use Rattle.pg_listening.specs.Channels.{listen_each_text}
use Rattle.pg_listening.proofs.channels.listen_each_text.Given as goal

abbrev pub invariant-loop-channel : goal.invariant-loop-channel
invariant-loop-channel l = string_bytes l.out ≡ listen_each_text (take l.channel-index l.channels)
